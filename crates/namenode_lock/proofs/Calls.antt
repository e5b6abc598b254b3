-- One call at the end of a journal that begins with what its caller had seen.
use Rattle.std.proofs.Common.{◌≡◌, ℕ, ◌+◌, ◌^◌, ◌<◌, Bool, true, false, cond, ◌&&◌, Some, None, List, [], ◌∷◌, ◌++◌, length, refl, ap, sym, ◌∙◌, subst, length-append, append-nil, arith}
use Rattle.std.specs.Prelude.{All}
use Rattle.std.specs.Option.{option_to_list}
use Rattle.std.specs.List.{filter}
use Rattle.std.proofs.lemmas.List.Elements.{filter-append, All-from_recursion}
use Rattle.hs_types.specs.declared.ids.CallerId.{CallerId}
use Rattle.hs_types.specs.declared.call.Call.{Call}
use Rattle.hs_types.specs.declared.journal.Entry.{Entry}
use Rattle.hs_types.specs.declared.reply.Answered.{Answered}
use Rattle.hs_types.specs.declared.reply.Reply.TheVariants.{NoMemory}
use Rattle.hs_plain.specs.Answer.{is_modifying}
use Rattle.hs_plain.specs.Legal.{Said, IsLegalCall, entry_of, entry_left, leaves_entry}
use Rattle.turn_lock.specs.Histories.{AddsOnlyBy, caller_of}
use Rattle.turn_lock.proofs.Prefixes.{prefix_trans, prefix_length}
use Rattle.page_join.specs.Links.{Known, IsLawful, IsCall, LeadsOn, is_of, entries_of, next_number}
use Rattle.namenode_lock.specs.Held.{IsAtEnd}
use Rattle.namenode_lock.proofs.Alone.{left_kept, left_long, next_rises}

-- what a call left is its caller's
left_all : (caller : CallerId) (said : Said) → All (λ e. caller_of e ≡ caller.0) (option_to_list (entry_left caller said))
left_all caller said =
    let entry : Entry = entry_of caller said.seq said.call said.told.reply in
    elim (leaves_entry said.call said.told.reply) as (λ b. All (λ e. caller_of e ≡ caller.0) (option_to_list (cond b (Some entry) None))) [
      | true ↦ All-from_recursion (λ (e : Entry). caller_of e ≡ caller.0) (entry ∷ []) (refl, tt)
      | false ↦ All-from_recursion (λ (e : Entry). caller_of e ≡ caller.0) [] tt
    ]

-- what a link knows after a call
abbrev pub after : Known → List Entry → Known
after old new = record old { calls = next_number old.calls; seen = new }

-- such a call is a call of a link that had seen a beginning of the journal, and all its caller's entries
pub at_end_called : (old : Known) (log new : List Entry) (call : Call) (told : Answered) → old.calls < 2 ^ 64 → LeadsOn old.caller old.seen log →
    IsAtEnd old.tells old.limit log new old.caller (next_number old.calls) call told → IsLawful (after old new) → IsCall old (after old new) call told
at_end_called old log new call told within leads at lawful =
    let caller : CallerId = old.caller in
    let said : Said = record { seq = next_number old.calls; call = call; told = told } in
    let left : List Entry = option_to_list (entry_left caller said) in
    record {
      same = refl;
      rises = next_rises old.calls within;
      grown = prefix_trans old.seen log new leads.0 (left, sym at.appended);
      lawful = lawful;
      reach = ap length at.appended ∙ (length-append log left ∙ (ap (λ n. n + length left) (sym at.place) ∙ left_long caller said));
      place = (let longer = prefix_length old.seen log leads.0 in let here = at.place in omega (arith, longer, here));
      legal = at.legal;
      own = ap (filter (is_of caller)) at.appended ∙ (filter-append (is_of caller) log left ∙ (ap (λ (l : List Entry). entries_of caller log ++ l) (left_kept caller said) ∙ ap (λ (l : List Entry). l ++ left) leads.1));
    }

-- and adds entries of its caller alone
pub at_end_adds : (tells : Bool) (limit : ℕ) (log new : List Entry) (caller : CallerId) (seq : ℕ) (call : Call) (told : Answered) → IsAtEnd tells limit log new caller seq call told → AddsOnlyBy caller.0 log new
at_end_adds tells limit log new caller seq call told at =
    let said : Said = record { seq = seq; call = call; told = told } in
    (option_to_list (entry_left caller said), sym at.appended, left_all caller said)

-- a call that left no entry, at the end of a journal that stays
pub unentered_at_end : (tells : Bool) (limit : ℕ) (log : List Entry) (caller : CallerId) (seq : ℕ) (call : Call) (told : Answered) → IsLegalCall tells limit log caller seq call told → told.position ≡ length log → leaves_entry call told.reply ≡ false →
    IsAtEnd tells limit log log caller seq call told
unentered_at_end tells limit log caller seq call told legal place none = record {
  legal = legal;
  place = place;
  appended = sym (ap (λ b. log ++ option_to_list (cond b (Some (entry_of caller seq call told.reply)) None)) none ∙ append-nil log);
}

-- a call for which there was no memory
abbrev pub wanting : Call → ℕ → Answered
wanting call position = record { reply = NoMemory; position = position; back = Some call }

never : true ≡ false → ⊥
never e = cc

none_left : (modifying : Bool) → (modifying && false) ≡ false
none_left true = refl
none_left false = refl

wanting_legal : (tells : Bool) (limit : ℕ) (log : List Entry) (caller : CallerId) (seq : ℕ) (call : Call) → IsLegalCall tells limit log caller seq call (wanting call (length log))
wanting_legal tells limit log caller seq call = record {
  within = omega arith;
  answered = λ plain. absurd (never (sym plain));
  entered = λ left. absurd (never (sym left ∙ none_left (is_modifying call)));
  kept = λ left. absurd (never (sym left ∙ none_left (is_modifying call)));
  handed_back = λ left. refl;
  full = λ is. absurd (never (sym is));
}

pub wanting_at_end : (tells : Bool) (limit : ℕ) (log : List Entry) (caller : CallerId) (seq : ℕ) (call : Call) (position : ℕ) → position ≡ length log → IsAtEnd tells limit log log caller seq call (wanting call position)
wanting_at_end tells limit log caller seq call position is = subst (λ (n : ℕ). IsAtEnd tells limit log log caller seq call (wanting call n)) (sym is)
    (unentered_at_end tells limit log caller seq call (wanting call (length log)) (wanting_legal tells limit log caller seq call) refl (none_left (is_modifying call)))

-- Calls of a namenode that one caller has alone.
use Rattle.std.proofs.Common.{◌≡◌, ℕ, ◌+◌, ◌^◌, ◌<◌, Bool, true, false, cond, ◌&&◌, ◌==◌, Some, None, List, [], ◌∷◌, ◌++◌, length, refl, ap, sym, ◌∙◌, length-append, arith}
use Rattle.std.specs.Prelude.{is_some, Option}
use Rattle.std.specs.Option.{option_to_list}
use Rattle.std.specs.List.{filter, list_all}
use Rattle.std.proofs.lemmas.Bool.Decides.{nat_tests}
use Rattle.std.proofs.lemmas.List.Elements.{filter-append}
use Rattle.hs_types.specs.Blocks.{BlockMap}
use Rattle.hs_types.specs.declared.ids.CallerId.{CallerId}
use Rattle.hs_types.specs.declared.call.Call.{Call}
use Rattle.hs_types.specs.declared.journal.Entry.{Entry}
use Rattle.hs_types.specs.declared.reply.Answered.{Answered}
use Rattle.hs_plain.specs.Legal.{Said, entry_of, entry_left, leaves_entry, number_rises, reach_of}
use Rattle.namenode_write.specs.NamenodeValue.{NamenodeValue}
use Rattle.page_join.specs.Links.{IsLawful, IsCall, is_of, entries_of, next_number}
use Rattle.namenode_lock.specs.NodeLinks.{known_of, StaysAlone, IsNodeCall}

-- ---- one call

same_number : (n : ℕ) → (n == n) ≡ true
same_number n = grind (arith, nat_tests)

-- an entry that a call left is its caller's
left_own : (caller : CallerId) (said : Said) → list_all (is_of caller) (option_to_list (entry_left caller said)) ≡ true
left_own caller said = elim (leaves_entry said.call said.told.reply) as (λ b. list_all (is_of caller) (option_to_list (cond b (Some (entry_of caller said.seq said.call said.told.reply)) None)) ≡ true) [
  | true ↦ ap (λ b. b && true) (same_number caller.0)
  | false ↦ refl
]

pub left_kept : (caller : CallerId) (said : Said) → filter (is_of caller) (option_to_list (entry_left caller said)) ≡ option_to_list (entry_left caller said)
left_kept caller said = elim (leaves_entry said.call said.told.reply) as (λ b. filter (is_of caller) (option_to_list (cond b (Some (entry_of caller said.seq said.call said.told.reply)) None)) ≡ option_to_list (cond b (Some (entry_of caller said.seq said.call said.told.reply)) None)) [
  | true ↦ ap (λ b. cond b (entry_of caller said.seq said.call said.told.reply ∷ []) []) (same_number caller.0)
  | false ↦ refl
]

pub left_long : (caller : CallerId) (said : Said) → said.told.position + length (option_to_list (entry_left caller said)) ≡ reach_of said.call said.told
left_long caller said = elim (leaves_entry said.call said.told.reply) as (λ b. said.told.position + length (option_to_list (cond b (Some (entry_of caller said.seq said.call said.told.reply)) None)) ≡ said.told.position + cond b 1 0) [
  | true ↦ omega arith
  | false ↦ omega arith
]

pub next_rises : (calls : ℕ) → calls < 2 ^ 64 → number_rises calls (next_number calls) ≡ true
next_rises calls within = grind (arith, nat_tests)

-- the whole journal is known before and after
pub node_called : {S : Type 0} (blocks : S → Option BlockMap) (faults : S → ℕ) (caller : CallerId) (calls seq : ℕ) (old new : NamenodeValue S) (call : Call) (told : Answered) →
    seq ≡ next_number calls → number_rises calls seq ≡ true → IsNodeCall blocks faults old new caller seq call told → IsLawful (known_of blocks caller seq new) →
    IsCall (known_of blocks caller calls old) (known_of blocks caller seq new) call told
node_called blocks faults caller calls seq old new call told next rises made lawful =
    let said : Said = record { seq = seq; call = call; told = told } in
    let left : List Entry = option_to_list (entry_left caller said) in
    record {
      same = ap (λ (n : ℕ). record { caller = caller; calls = n; limit = new.limit; tells = is_some (blocks new.store); seen = new.entries }) next
          ∙ ap (λ (n : ℕ). record { caller = caller; calls = next_number calls; limit = n; tells = is_some (blocks new.store); seen = new.entries }) made.limit
          ∙ ap (λ (b : Bool). record { caller = caller; calls = next_number calls; limit = old.limit; tells = b; seen = new.entries }) made.tells;
      rises = rises;
      grown = (left, sym made.appended);
      lawful = lawful;
      reach = ap length made.appended ∙ length-append old.entries left ∙ ap (λ n. n + length left) (sym made.place) ∙ left_long caller said;
      place = omega (arith, made.place);
      legal = made.legal;
      own = ap (filter (is_of caller)) made.appended ∙ filter-append (is_of caller) old.entries left ∙ ap (λ (l : List Entry). entries_of caller old.entries ++ l) (left_kept caller said);
    }

pub node_stays : {S : Type 0} (blocks : S → Option BlockMap) (faults : S → ℕ) (caller : CallerId) (seq : ℕ) (old new : NamenodeValue S) (call : Call) (told : Answered) → IsNodeCall blocks faults old new caller seq call told → StaysAlone faults caller caller old new
node_stays blocks faults caller seq old new call told made =
    let said : Said = record { seq = seq; call = call; told = told } in
    record { same = refl; own = record { more = option_to_list (entry_left caller said); grown = made.appended; own = left_own caller said }; counted = made.counted }

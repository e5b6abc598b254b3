-- Calls of one link, one after the other, and what they are in a journal that goes on from what it then has seen.
use Rattle.std.proofs.Common.{◌≡◌, ℕ, zero, suc, ◌≤◌, nat_le, Bool, true, false, ◌&&◌, Option, Some, None, List, [], ◌∷◌, ◌++◌, length, take, slice_get, refl, ap, sym, ◌∙◌, subst, length-append, append_assoc, append-nil, arith}
use Rattle.std.specs.Option.{option_to_list}
use Rattle.std.specs.List.{filter_map, cons_option}
use Rattle.std.proofs.lemmas.Bool.Decides.{nat_tests}
use Rattle.std.proofs.lemmas.List.{take-append-le}
use mathlib.Core.List.{IsPrefix}
use Rattle.hs_types.specs.declared.ids.CallerId.{CallerId}
use Rattle.hs_types.specs.declared.journal.Entry.{Entry}
use Rattle.hs_plain.specs.Answer.{answer, claimed, is_ok_reply}
use Rattle.hs_plain.specs.Replay.{plain_after}
use Rattle.hs_plain.specs.Legal.{Said, IsLegalCall, entry_of, entry_left, reach_of, number_rises, numbers_rise, places_rise}
use Rattle.page_join.specs.Links.{Known, IsLawful, IsCall, LeadsOn, entries_of}
use Rattle.page_join.specs.Made.{AreMade, AreLegalBehind, MadeAreLegal}

-- ---- fronts

pub prefix_self : (xs : List Entry) → IsPrefix xs xs
prefix_self xs = ([], append-nil xs)

pub prefix_trans : (xs ys zs : List Entry) → IsPrefix xs ys → IsPrefix ys zs → IsPrefix xs zs
prefix_trans xs ys zs p q = (p.0 ++ q.0, sym (append_assoc xs p.0 q.0) ∙ ap (λ (l : List Entry). l ++ q.0) p.1 ∙ q.1)

slice_get-front : {A : Type 0} (xs ys : List A) (i : ℕ) (x : A) → slice_get xs i ≡ Some x → slice_get (xs ++ ys) i ≡ Some x
slice_get-front [] ys i x e = absurd (cc)
slice_get-front (a ∷ xs) ys zero x e = e
slice_get-front (a ∷ xs) ys (suc i) x e = slice_get-front xs ys i x e

-- ---- legal stays legal as the journal grows

legal_grows : (tells : Bool) (limit : ℕ) (journal more : List Entry) (caller : CallerId) (said : Said) → IsLegalCall tells limit journal caller said.seq said.call said.told →
    IsLegalCall tells limit (journal ++ more) caller said.seq said.call said.told
legal_grows tells limit journal more caller said legal =
    let same : take said.told.position (journal ++ more) ≡ take said.told.position journal = take-append-le said.told.position journal more legal.within in
    record {
      within = omega (arith, length-append journal more, legal.within);
      answered = λ plain. legal.answered plain ∙ ap (λ (entries : List Entry). claimed tells (answer (plain_after entries) said.call)) (sym same);
      entered = λ left. slice_get-front journal more said.told.position (entry_of caller said.seq said.call said.told.reply) (legal.entered left);
      kept = legal.kept;
      handed_back = legal.handed_back;
      full = λ is. record {
        exclusive = (legal.full is).exclusive;
        would_do = ap (λ (entries : List Entry). is_ok_reply (answer (plain_after entries) said.call)) same ∙ (legal.full is).would_do;
        at_limit = (legal.full is).at_limit;
      };
    }

pub legal_still : (tells : Bool) (limit : ℕ) (seen journal : List Entry) (caller : CallerId) (said : Said) → IsPrefix seen journal → IsLegalCall tells limit seen caller said.seq said.call said.told →
    IsLegalCall tells limit journal caller said.seq said.call said.told
legal_still tells limit seen journal caller said begins legal =
    subst (λ (j : List Entry). IsLegalCall tells limit j caller said.seq said.call said.told) begins.1 (legal_grows tells limit seen begins.0 caller said legal)

-- ---- one call after the other

-- one call more
pub made_more : (old now new : Known) (calls : List Said) (last : Said) → AreMade old now calls → IsCall now new last.call last.told → new.calls ≡ last.seq → AreMade old new (calls ++ last ∷ [])
made_more old now new [] last before call seq = (new, subst (λ (k : Known). IsCall k new last.call last.told) before call, seq, refl)
made_more old now new (s ∷ calls) last before call seq = (before.0, before.1, before.2, made_more before.0 now new calls last before.3 call seq)

-- calls, and then further calls
pub made_then : (old now new : Known) (calls more : List Said) → AreMade old now calls → AreMade now new more → AreMade old new (calls ++ more)
made_then old now new [] more before after = subst (λ (k : Known). AreMade k new more) before after
made_then old now new (s ∷ calls) more before after = (before.0, before.1, before.2, made_then before.0 now new calls more before.3 after)

-- what a link has seen behind at least one call is lawful
pub made_lawful : (old new : Known) (first : Said) (more : List Said) → AreMade old new (first ∷ more) → IsLawful new
made_lawful old new first [] made = subst IsLawful (sym made.3) made.1.lawful
made_lawful old new first (said ∷ more) made = made_lawful made.0 new said more made.3

-- what a link has seen grows
made_grows : (old new : Known) (calls : List Said) → AreMade old new calls → IsPrefix old.seen new.seen
made_grows old new [] made = subst (λ (k : Known). IsPrefix old.seen k.seen) (sym made) (prefix_self old.seen)
made_grows old new (s ∷ calls) made = prefix_trans old.seen made.0.seen new.seen made.1.grown (made_grows made.0 new calls made.3)

pub both_yes : (a b : Bool) → a ≡ true → b ≡ true → (a && b) ≡ true
both_yes true true p q = refl
both_yes true false p q = absurd (cc)
both_yes false b p q = absurd (cc)

pub le_yes : (a b : ℕ) → a ≤ b → nat_le a b ≡ true
le_yes a b h = grind (arith, nat_tests)

one : (o : Option Entry) (more : List Entry) → option_to_list o ++ more ≡ cons_option o more
one None more = refl
one (Some entry) more = refl

-- legal behind what was known after the first call, told with what was known before it
at_start : (old now : Known) (journal : List Entry) (calls : List Said) → now ≡ record old { calls = now.calls; seen = now.seen } → AreLegalBehind now journal calls →
    AreLegalBehind (record old { calls = now.calls; seen = now.seen }) journal calls
at_start old now journal calls same legal = subst (λ (k : Known). AreLegalBehind k journal calls) same legal

legal_of : (old new : Known) (calls : List Said) (journal : List Entry) → AreMade old new calls → LeadsOn old.caller new.seen journal → AreLegalBehind old journal calls
legal_of old new [] journal made leads = record {
  each = tt;
  numbers = refl;
  places = refl;
  entries = leads.1 ∙ (ap (λ (k : Known). entries_of old.caller k.seen) made ∙ sym (append-nil (entries_of old.caller old.seen)));
}
legal_of old new (s ∷ calls) journal made leads =
    let now : Known = made.0 in
    let call : IsCall old now s.call s.told = made.1 in
    let mine : now.caller ≡ old.caller = ap (λ (k : Known). k.caller) call.same in
    let same : now ≡ record old { calls = now.calls; seen = now.seen } = call.same ∙ ap (λ (n : ℕ). record old { calls = n; seen = now.seen }) (sym (ap (λ (k : Known). k.calls) call.same)) in
    let rest : AreLegalBehind (record old { calls = now.calls; seen = now.seen }) journal calls =
    at_start old now journal calls same (legal_of now new calls journal made.3 (subst (λ (k : CallerId). LeadsOn k new.seen journal) (sym mine) leads)) in
    let begins : IsPrefix now.seen journal = prefix_trans now.seen new.seen journal (made_grows now new calls made.3) leads.0 in
    let legal : IsLegalCall old.tells old.limit now.seen old.caller s.seq s.call s.told = subst (λ (n : ℕ). IsLegalCall old.tells old.limit now.seen old.caller n s.call s.told) made.2 call.legal in
    let own : entries_of old.caller now.seen ≡ entries_of old.caller old.seen ++ option_to_list (entry_left old.caller s) =
    subst (λ (n : ℕ). entries_of old.caller now.seen ≡ entries_of old.caller old.seen ++ option_to_list (entry_left old.caller (record { seq = n; call = s.call; told = s.told }))) made.2 call.own in
    record {
      each = (legal_still old.tells old.limit now.seen journal old.caller s begins legal, rest.each);
      numbers = both_yes (number_rises old.calls s.seq) (numbers_rise s.seq calls) (ap (number_rises old.calls) (sym made.2) ∙ call.rises) (ap (λ n. numbers_rise n calls) (sym made.2) ∙ rest.numbers);
      places = both_yes (nat_le (length old.seen) s.told.position) (places_rise (reach_of s.call s.told) calls) (le_yes (length old.seen) s.told.position call.place) (ap (λ n. places_rise n calls) (sym call.reach) ∙ rest.places);
      entries =
          rest.entries
          ∙ (ap (λ (l : List Entry). l ++ filter_map (entry_left old.caller) calls) own
          ∙ (append_assoc (entries_of old.caller old.seen) (option_to_list (entry_left old.caller s)) (filter_map (entry_left old.caller) calls)
          ∙ ap (λ (l : List Entry). entries_of old.caller old.seen ++ l) (one (entry_left old.caller s) (filter_map (entry_left old.caller) calls))));
    }

pub made_are_legal : MadeAreLegal
made_are_legal = legal_of

-- the calls of a link are legal in what it then has seen
pub made_legal : (old new : Known) (calls : List Said) → AreMade old new calls → AreLegalBehind old new.seen calls
made_legal old new calls made = legal_of old new calls new.seen made (prefix_self new.seen, refl)

-- Calls of a link that has its namenode alone are made at the end of the journal, one after the other.
use Rattle.std.proofs.Common.{◌≡◌, ℕ, Bool, true, cond, List, [], ◌∷◌, ◌++◌, length, refl, ap, sym, ◌∙◌, subst, length-append, append_assoc, append-nil, arith}
use Rattle.std.specs.Option.{option_to_list}
use Rattle.std.specs.List.{filter, list_all}
use Rattle.std.proofs.lemmas.List.Elements.{filter-append}
use Rattle.hs_types.specs.Limits.{journal_limit}
use Rattle.hs_types.specs.declared.ids.CallerId.{CallerId}
use Rattle.hs_types.specs.declared.journal.Entry.{Entry}
use Rattle.hs_plain.specs.Legal.{Said, IsLegalCall, entry_left}
use Rattle.page_join.specs.Links.{Known, IsCall, is_of, entries_of}
use Rattle.page_join.specs.Made.{AreMade}
use Rattle.script_runner.specs.InTurn.{IsNext, AreNext}
use Rattle.script_runner.proofs.Both.{both_first, both_second, both_yes}
use Rattle.script_runner.proofs.Linked.{own-long}

-- ---- entries of one caller alone

all_kept : (caller : CallerId) (entries : List Entry) → list_all (is_of caller) entries ≡ true → filter (is_of caller) entries ≡ entries
all_kept caller [] all = refl
all_kept caller (entry ∷ entries) all =
    ap (λ b. cond b (entry ∷ filter (is_of caller) entries) (filter (is_of caller) entries)) (both_first (is_of caller entry) _ all)
    ∙ ap (λ (l : List Entry). entry ∷ l) (all_kept caller entries (both_second (is_of caller entry) _ all))

all_front : (caller : CallerId) (xs ys : List Entry) → list_all (is_of caller) (xs ++ ys) ≡ true → list_all (is_of caller) xs ≡ true
all_front caller [] ys all = refl
all_front caller (x ∷ xs) ys all = both_yes (is_of caller x) _ (both_first (is_of caller x) _ all) (all_front caller xs ys (both_second (is_of caller x) _ all))

all_back : (caller : CallerId) (xs ys : List Entry) → list_all (is_of caller) (xs ++ ys) ≡ true → list_all (is_of caller) ys ≡ true
all_back caller [] ys all = all
all_back caller (x ∷ xs) ys all = all_back caller xs ys (both_second (is_of caller x) _ all)

same_behind : {A : Type 0} (front xs ys : List A) → front ++ xs ≡ front ++ ys → xs ≡ ys
same_behind [] xs ys e = e
same_behind (a ∷ front) xs ys e = same_behind front xs ys (cc)

-- ---- calls

made_front : (old new : Known) (calls : List Said) → AreMade old new calls → (rest : List Entry) × (old.seen ++ rest ≡ new.seen)
made_front old new [] made = ([], append-nil old.seen ∙ ap (λ (k : Known). k.seen) (sym made))
made_front old new (said ∷ calls) made =
    let later : (rest : List Entry) × (made.0.seen ++ rest ≡ new.seen) = made_front made.0 new calls made.3 in
    (made.1.grown.0 ++ later.0, sym (append_assoc old.seen made.1.grown.0 later.0) ∙ ap (λ (l : List Entry). l ++ later.0) made.1.grown.1 ∙ later.1)

-- what a link has from its namenode stays over its calls
pub made_caller : (old new : Known) (calls : List Said) → AreMade old new calls → new.caller ≡ old.caller
made_caller old new [] made = ap (λ (k : Known). k.caller) made
made_caller old new (said ∷ calls) made = made_caller made.0 new calls made.3 ∙ ap (λ (k : Known). k.caller) made.1.same

pub made_limit : (old new : Known) (calls : List Said) → AreMade old new calls → new.limit ≡ old.limit
made_limit old new [] made = ap (λ (k : Known). k.limit) made
made_limit old new (said ∷ calls) made = made_limit made.0 new calls made.3 ∙ ap (λ (k : Known). k.limit) made.1.same

pub made_tells : (old new : Known) (calls : List Said) → AreMade old new calls → new.tells ≡ old.tells
made_tells old new [] made = ap (λ (k : Known). k.tells) made
made_tells old new (said ∷ calls) made = made_tells made.0 new calls made.3 ∙ ap (λ (k : Known). k.tells) made.1.same

-- one call, where what came behind is of its caller alone
next_call : (old now : Known) (said : Said) → old.limit ≡ journal_limit → IsCall old now said.call said.told → now.calls ≡ said.seq → (rest : List Entry) → old.seen ++ rest ≡ now.seen → list_all (is_of old.caller) rest ≡ true → IsNext old.tells old.caller.0 old.seen old.calls now.seen said
next_call old now said usual call number rest grown mine =
    let left : List Entry = option_to_list (entry_left old.caller said) in
    let own_is : entries_of old.caller now.seen ≡ entries_of old.caller old.seen ++ left =
    subst (λ (n : ℕ). entries_of old.caller now.seen ≡ entries_of old.caller old.seen ++ option_to_list (entry_left old.caller (record { seq = n; call = said.call; told = said.told }))) number call.own in
    let rest_is : rest ≡ left =
    sym (all_kept old.caller rest mine)
    ∙ same_behind (entries_of old.caller old.seen) (filter (is_of old.caller) rest) left
    (sym (filter-append (is_of old.caller) old.seen rest) ∙ ap (filter (is_of old.caller)) grown ∙ own_is) in
    let grows : now.seen ≡ old.seen ++ left = sym grown ∙ ap (λ (l : List Entry). old.seen ++ l) rest_is in
    record {
      grows = grows;
      place = omega (arith, own-long old.caller.0 said, call.reach, ap length grows, length-append old.seen left);
      legal = subst (λ (n : ℕ). IsLegalCall old.tells n now.seen old.caller said.seq said.call said.told) usual (subst (λ (n : ℕ). IsLegalCall old.tells old.limit now.seen old.caller n said.call said.told) number call.legal);
      counted = sym number ∙ ap (λ (k : Known). k.calls) call.same;
    }

-- all calls
made_next : (old new : Known) (calls : List Said) → old.limit ≡ journal_limit → AreMade old new calls → (rest : List Entry) → old.seen ++ rest ≡ new.seen → list_all (is_of old.caller) rest ≡ true →
    AreNext old.tells old.caller.0 old.seen old.calls calls new.seen new.calls
made_next old new [] usual made rest grown mine = (ap (λ (k : Known). k.seen) (sym made), ap (λ (k : Known). k.calls) (sym made))
made_next old new (said ∷ calls) usual made rest grown mine =
    let now : Known = made.0 in
    let later : (more : List Entry) × (now.seen ++ more ≡ new.seen) = made_front now new calls made.3 in
    let here : List Entry = made.1.grown.0 in
    let parts : rest ≡ here ++ later.0 =
    same_behind old.seen rest (here ++ later.0) (grown ∙ sym later.1 ∙ ap (λ (l : List Entry). l ++ later.0) (sym made.1.grown.1) ∙ append_assoc old.seen here later.0) in
    let split : list_all (is_of old.caller) (here ++ later.0) ≡ true = ap (list_all (is_of old.caller)) (sym parts) ∙ mine in
    let same_caller : now.caller ≡ old.caller = ap (λ (k : Known). k.caller) made.1.same in
    let same_tells : now.tells ≡ old.tells = ap (λ (k : Known). k.tells) made.1.same in
    let behind : AreNext now.tells now.caller.0 now.seen now.calls calls new.seen new.calls =
    made_next now new calls (ap (λ (k : Known). k.limit) made.1.same ∙ usual) made.3 later.0 later.1
    (subst (λ (k : CallerId). list_all (is_of k) later.0 ≡ true) (sym same_caller) (all_back old.caller here later.0 split)) in (
      now.seen,
      next_call old now said usual made.1 made.2 here made.1.grown.1 (all_front old.caller here later.0 split),
      subst (λ (n : ℕ). AreNext old.tells old.caller.0 now.seen n calls new.seen new.calls) made.2
          (subst (λ (b : Bool). AreNext b old.caller.0 now.seen now.calls calls new.seen new.calls) same_tells
          (subst (λ (k : CallerId). AreNext now.tells k.0 now.seen now.calls calls new.seen new.calls) same_caller behind)),
    )

pub made_in_turn : (old new : Known) (calls : List Said) → old.limit ≡ journal_limit → AreMade old new calls → (rest : List Entry) → new.seen ≡ old.seen ++ rest → list_all (is_of old.caller) rest ≡ true →
    AreNext old.tells old.caller.0 old.seen old.calls calls new.seen new.calls
made_in_turn old new calls usual made rest grown mine = made_next old new calls usual made rest (sym grown) mine

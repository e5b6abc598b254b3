-- Pages join, if each shows the front of what is left.
use Rattle.std.proofs.Common.{◌≡◌, ◌⊎◌, inl, inr, ℕ, ◌+◌, nat_le, Bool, true, false, cond, List, [], ◌∷◌, ◌++◌, take, drop, length, Option, Some, None, refl, ap, sym, ◌∙◌, subst, append_assoc, append-nil, arith}
use Rattle.std.specs.List.{flat_map, AllByRecursion}
use Rattle.std.proofs.lemmas.Bool.Decides.{nat_tests}
use Rattle.std.proofs.lemmas.List.{take-append-drop, drop-drop, drop_all}
use Rattle.hs_plain.specs.Joined.{Follows, AreFurtherPages, AreJoined}

none_some : {C : Type 0} (o : Option C) (cursor : C) → o ≡ None → o ≡ Some cursor → ⊥
none_some o cursor none some = absurd (cc)

nothing_follows : {C S : Type 0} (goes_on : S → C → Type 0) (o : Option C) (page : S) → o ≡ None → Follows goes_on o page → ⊥
nothing_follows goes_on None page none follows = follows
nothing_follows goes_on (Some c) page none follows = absurd (cc)

follows_by : {C S : Type 0} (goes_on : S → C → Type 0) (o : Option C) (page : S) (cursor : C) → o ≡ Some cursor → Follows goes_on o page → goes_on page cursor
follows_by goes_on o page cursor some follows = subst (λ o. Follows goes_on o page) some follows

module _ {X C S : Type 0} (goes_on : S → C → Type 0) (cursor_in : S → Option C) (shown : S → List X) (is_cut_short : S → Bool) (from : C → List X) (Good : C → Type 0) where
  -- what is left behind a page: nothing, or what stands from its cursor on
  abbrev pub Leaves : S → List X → Type 0
  Leaves page left = ((cursor_in page ≡ None) × (left ≡ [])) ⊎ ((cursor : C) × (cursor_in page ≡ Some cursor) × Good cursor × (from cursor ≡ left))

  -- a page shows the front of what stands from its cursor on, or it is the last and shows nothing
  abbrev pub Shows : List X → S → Type 0
  Shows whole page = ((is_cut_short page ≡ true) × (cursor_in page ≡ None) × (shown page ≡ [])) ⊎ ((left : List X) × (shown page ++ left ≡ whole) × Leaves page left)

  pub joined : (IsAllowed : S → Type 0) → ((page : S) (cursor : C) → IsAllowed page → Good cursor → goes_on page cursor → Shows (from cursor) page) →
      (first : S) (more : List S) (whole : List X) → Shows whole first → AreFurtherPages goes_on cursor_in first more → AllByRecursion IsAllowed more →
      AreJoined shown is_cut_short first more whole
  joined IsAllowed step first [] whole (inl short) further all = record { rest = whole; front = ap (λ (xs : List X). (xs ++ []) ++ whole) short.2; ended = inr short.0 }
  joined IsAllowed step first [] whole (inr page) further all =
      record {
        rest = page.0;
        front = ap (λ (xs : List X). xs ++ page.0) (append-nil (shown first)) ∙ page.1;
        ended = elim page.2 as (λ _. (page.0 ≡ []) ⊎ (is_cut_short first ≡ true)) [
          | inl none ↦ inl none.1
          | inr more ↦ absurd (none_some (cursor_in first) more.0 further more.1)
        ];
      }
  joined IsAllowed step first (said ∷ more) whole (inl short) further all = absurd (nothing_follows goes_on (cursor_in first) said short.1 further.0)
  joined IsAllowed step first (said ∷ more) whole (inr page) further all =
      elim page.2 as (λ _. AreJoined shown is_cut_short first (said ∷ more) whole) [
        | inl none ↦ absurd (nothing_follows goes_on (cursor_in first) said none.0 further.0)
        | inr next ↦
            let shows : Shows (from next.0) said = step said next.0 all.0 next.2 (follows_by goes_on (cursor_in first) said next.0 next.1 further.0) in
            let rest : AreJoined shown is_cut_short said more (from next.0) = joined IsAllowed step said more (from next.0) shows further.1 all.1 in
            record {
              rest = rest.rest;
              front = append_assoc (shown first) (flat_map shown (said ∷ more)) rest.rest ∙ ap (λ (xs : List X). shown first ++ xs) (rest.front ∙ next.3) ∙ page.1;
              ended = rest.ended;
            }
      ]

-- pages of which none is cut short are the whole
pub whole_joined : {X S : Type 0} (shown : S → List X) (first : S) (more : List S) (whole : List X) → AreJoined shown (λ page. false) first more whole → flat_map shown (first ∷ more) ≡ whole
whole_joined shown first more whole all =
    elim all.ended as (λ _. flat_map shown (first ∷ more) ≡ whole) [
      | inl none ↦ sym (append-nil (flat_map shown (first ∷ more))) ∙ ap (λ (xs : List _). flat_map shown (first ∷ more) ++ xs) (sym none) ∙ all.front
      | inr short ↦ absurd (no short)
    ]
  where
    no : false ≡ true → ⊥
    no e = cc

-- ---- cut by index

module _ {X C S : Type 0} (goes_on : S → C → Type 0) (cursor_in : S → Option C) (shown : S → List X) (is_cut_short : S → Bool) (index_of : C → ℕ) (Good : C → Type 0) where
  -- a page of a list from an index on, with a cursor where something is left
  pub shows_cut : (whole : List X) (index size : ℕ) (page : S) (next : C) → shown page ≡ take size (drop index whole) → cursor_in page ≡ cond (nat_le (length whole) (index + size)) None (Some next) →
      (nat_le (length whole) (index + size) ≡ false → Good next) → index_of next ≡ index + size → Shows goes_on cursor_in shown is_cut_short (λ cursor. drop (index_of cursor) whole) Good (drop index whole) page
  shows_cut whole index size page next shows goes good at = by (nat_le (length whole) (index + size)) refl
    where
      by : (b : Bool) → nat_le (length whole) (index + size) ≡ b → Shows goes_on cursor_in shown is_cut_short (λ cursor. drop (index_of cursor) whole) Good (drop index whole) page
      by true e =
          inr (
            [],
            append-nil (shown page) ∙ shows ∙ sym (append-nil (take size (drop index whole))) ∙ ap (λ (xs : List X). take size (drop index whole) ++ xs) (sym (drop_all (index + size) whole (grind (arith, nat_tests))) ∙ sym (drop-drop size index whole)) ∙ take-append-drop size (drop index whole),
            inl (goes ∙ ap (λ b. cond b None (Some next)) e, refl),
          )
      by false e =
          inr (
            drop size (drop index whole),
            ap (λ (xs : List X). xs ++ drop size (drop index whole)) shows ∙ take-append-drop size (drop index whole),
            inr (
              next,
              goes ∙ ap (λ b. cond b None (Some next)) e,
              good e,
              ap (λ k. drop k whole) at ∙ sym (drop-drop size index whole),
            ),
          )

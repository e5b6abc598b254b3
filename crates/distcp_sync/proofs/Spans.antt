-- The places of a sync's callers in a span, where they are one link's.
use Rattle.std.proofs.Common.{◌≡◌, ℕ, zero, suc, ◌+◌, ◌≤◌, ◌<◌, nat_le, nat_lt, Bool, true, false, cond, ◌==◌, ◌&&◌, ◌||◌, List, [], ◌∷◌, ◌++◌, length, refl, ap, sym, ◌∙◌, subst, length-append, append_assoc, append-nil, arith}
use Rattle.std.proofs.lemmas.Bool.Decides.{nat_tests}
use Rattle.std.proofs.lemmas.List.{append_cancel_left}
use mathlib.Core.List.{IsPrefix}
use Rattle.hs_types.specs.declared.ids.CallerId.{CallerId}
use Rattle.hs_types.specs.declared.journal.Entry.{Entry}
use Rattle.hs_plain.specs.Legal.{places_of}
use Rattle.hs_plain.specs.Premises.{SyncSide}
use Rattle.hs_plain.specs.Span.{is_one_of}
use Rattle.page_join.specs.Links.{Known}
use Rattle.distcp_sync.specs.Steps.{own_places, places_in}
use Rattle.distcp_sync.specs.Around.{IsAround}
use Rattle.distcp_sync.proofs.Heard.{Goes, front_length}
use Rattle.distcp_sync.proofs.Places.{places-append}

-- one entry's part in the places
abbrev taken : ℕ → ℕ → ℕ → Bool → Bool
taken low high index mine = nat_le low index && (nat_lt index high && mine)

not_past : (low high index : ℕ) (mine : Bool) → high ≤ index → taken low high index mine ≡ false
not_past low high index mine past = grind (arith, nat_tests)

not_yet : (low high index : ℕ) (mine : Bool) → index < low → taken low high index mine ≡ false
not_yet low high index mine before = grind (arith, nat_tests)

inside : (low high index : ℕ) (mine : Bool) → low ≤ index → index < high → taken low high index mine ≡ mine
inside low high index mine from below = grind (arith, nat_tests)

none_past : (callers : List CallerId) (low high index : ℕ) (journal : List Entry) → high ≤ index → own_places callers low high index journal ≡ []
none_past callers low high index [] past = refl
none_past callers low high index (entry ∷ journal) past =
    ap (λ b. cond b (index ∷ own_places callers low high (index + 1) journal) (own_places callers low high (index + 1) journal)) (not_past low high index (is_one_of callers entry.caller) past)
    ∙ none_past callers low high (index + 1) journal (omega (arith, past))

-- a span is cut at an index in it
by_cut : (low mid high index : ℕ) (mine : Bool) (firsts seconds : List ℕ) → low ≤ mid → mid ≤ high → (mid ≤ index → firsts ≡ []) →
    cond (taken low high index mine) (index ∷ (firsts ++ seconds)) (firsts ++ seconds) ≡ cond (taken low mid index mine) (index ∷ firsts) firsts ++ cond (taken mid high index mine) (index ∷ seconds) seconds
by_cut low mid high index mine firsts seconds from to none = by (nat_lt index mid) refl
  where
    differs : true ≡ false → ⊥
    differs e = cc

    pick : (b : Bool) → cond b (index ∷ (firsts ++ seconds)) (firsts ++ seconds) ≡ cond b (index ∷ firsts) firsts ++ seconds
    pick true = refl
    pick false = refl

    late : (b : Bool) → firsts ≡ [] → cond b (index ∷ (firsts ++ seconds)) (firsts ++ seconds) ≡ firsts ++ cond b (index ∷ seconds) seconds
    late b e = subst (λ (xs : List ℕ). cond b (index ∷ (xs ++ seconds)) (xs ++ seconds) ≡ xs ++ cond b (index ∷ seconds) seconds) (sym e) refl

    by : (b : Bool) → nat_lt index mid ≡ b → cond (taken low high index mine) (index ∷ (firsts ++ seconds)) (firsts ++ seconds) ≡ cond (taken low mid index mine) (index ∷ firsts) firsts ++ cond (taken mid high index mine) (index ∷ seconds) seconds
    by true below =
        ap (λ b. cond b (index ∷ (firsts ++ seconds)) (firsts ++ seconds)) {x = taken low high index mine} {y = taken low mid index mine} (grind (arith, nat_tests))
        ∙ (pick (taken low mid index mine)
        ∙ ap (λ b. cond (taken low mid index mine) (index ∷ firsts) firsts ++ cond b (index ∷ seconds) seconds) {x = false} {y = taken mid high index mine} (grind (arith, nat_tests)))
    by false behind =
        ap (λ b. cond b (index ∷ (firsts ++ seconds)) (firsts ++ seconds)) {x = taken low high index mine} {y = taken mid high index mine} (grind (arith, nat_tests))
        ∙ (late (taken mid high index mine) (none (grind (arith, nat_tests)))
        ∙ ap (λ b. cond b (index ∷ firsts) firsts ++ cond (taken mid high index mine) (index ∷ seconds) seconds) {x = false} {y = taken low mid index mine} (grind (arith, nat_tests)))

cut : (callers : List CallerId) (low mid high index : ℕ) (journal : List Entry) → low ≤ mid → mid ≤ high →
    own_places callers low high index journal ≡ own_places callers low mid index journal ++ own_places callers mid high index journal
cut callers low mid high index [] from to = refl
cut callers low mid high index (entry ∷ journal) from to =
    ap (λ (ks : List ℕ). cond (taken low high index (is_one_of callers entry.caller)) (index ∷ ks) ks) (cut callers low mid high (index + 1) journal from to)
    ∙ by_cut low mid high index (is_one_of callers entry.caller) (own_places callers low mid (index + 1) journal) (own_places callers mid high (index + 1) journal) from to
    (λ past. none_past callers low mid (index + 1) journal (omega (arith, past)))

-- what stands before a span has no place in it
skipped : (callers : List CallerId) (low high index : ℕ) (front journal : List Entry) → index + length front ≤ low → own_places callers low high index (front ++ journal) ≡ own_places callers low high (index + length front) journal
skipped callers low high index [] journal before = ap (λ k. own_places callers low high k journal) {x = index} {y = index + 0} (omega arith)
skipped callers low high index (entry ∷ front) journal before =
    ap (λ b. cond b (index ∷ own_places callers low high (index + 1) (front ++ journal)) (own_places callers low high (index + 1) (front ++ journal))) (not_yet low high index (is_one_of callers entry.caller) (omega (arith, before)))
    ∙ (skipped callers low high (index + 1) front journal (omega (arith, before)) ∙ ap (λ k. own_places callers low high k journal) {x = index + 1 + length front} {y = index + suc (length front)} (omega arith))

mine_is : (a b : ℕ) → ((a == b) || false) ≡ (b == a)
mine_is a b = grind (arith, nat_tests)

-- what fills a span has the places of its one caller
filled : (c : CallerId) (low high index : ℕ) (part journal : List Entry) → low ≤ index → index + length part ≡ high → own_places (c ∷ []) low high index (part ++ journal) ≡ places_of c.0 index part
filled c low high index [] journal from to = none_past (c ∷ []) low high index journal (omega (arith, to))
filled c low high index (entry ∷ part) journal from to =
    ap (λ b. cond b (index ∷ own_places (c ∷ []) low high (index + 1) (part ++ journal)) (own_places (c ∷ []) low high (index + 1) (part ++ journal)))
    (inside low high index (is_one_of (c ∷ []) entry.caller) from (omega (arith, to)) ∙ mine_is c.0 entry.caller.0)
    ∙ ap (λ (ks : List ℕ). cond (entry.caller.0 == c.0) (index ∷ ks) ks) (filled c low high (index + 1) part journal (omega (arith, from)) (omega (arith, to)))

-- the places of the callers in the span are those that the link's calls added
pub own_added : (tells : Bool) (side : SyncSide) (first last : Known) (ks : List ℕ) → IsAround first last tells side → Goes first last →
    places_of first.caller.0 0 last.seen ≡ places_of first.caller.0 0 first.seen ++ ks → places_in side ≡ ks
own_added tells side first last ks around goes added =
    let c : CallerId = first.caller in
    let low : ℕ = side.span.low in
    let high : ℕ = side.span.high in
    let a : ℕ = length first.seen in
    let b : ℕ = length last.seen in
    let part : List Entry = goes.grown.0 in
    let rest : List Entry = around.goes_on.0 in
    let whole : last.seen ++ rest ≡ side.journal = around.goes_on.1 in
    let grown : first.seen ++ part ≡ last.seen = goes.grown.1 in
    let long : a + length part ≡ b = omega (arith, length-append first.seen part, ap length grown) in
    let all : side.journal ≡ first.seen ++ (part ++ rest) = sym whole ∙ (ap (λ (l : List Entry). l ++ rest) (sym grown) ∙ append_assoc first.seen part rest) in
    let middle : own_places (c ∷ []) a b 0 side.journal ≡ places_of c.0 a part =
    ap (own_places (c ∷ []) a b 0) all
    ∙ (skipped (c ∷ []) a b 0 first.seen (part ++ rest) (omega arith)
    ∙ (ap (λ k. own_places (c ∷ []) a b k (part ++ rest)) {x = 0 + a} {y = a} (omega arith) ∙ filled c a b a part rest (omega arith) long)) in
    let theirs : places_of c.0 a part ≡ ks =
    append_cancel_left (places_of c.0 0 first.seen) (places_of c.0 a part) ks
    (ap (λ k. places_of c.0 0 first.seen ++ places_of c.0 k part) {x = a} {y = 0 + a} (omega arith) ∙ (sym (places-append c.0 0 first.seen part) ∙ (ap (places_of c.0 0) grown ∙ added))) in
    cut side.callers low a high 0 side.journal around.from (omega (arith, front_length first.seen last.seen goes.grown, around.to))
    ∙ (ap (λ (ks : List ℕ). ks ++ own_places side.callers a high 0 side.journal) around.none_before
    ∙ (cut side.callers a b high 0 side.journal (front_length first.seen last.seen goes.grown) around.to
    ∙ (ap (λ (ks : List ℕ). own_places side.callers a b 0 side.journal ++ ks) around.none_behind
    ∙ (append-nil (own_places side.callers a b 0 side.journal)
    ∙ (ap (λ (cs : List CallerId). own_places cs a b 0 side.journal) around.callers_are ∙ (middle ∙ theirs))))))

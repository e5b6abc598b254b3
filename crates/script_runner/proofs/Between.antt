-- Spans of a journal in which a caller has no entry.
use Rattle.std.proofs.Common.{◌≡◌, ℕ, suc, ◌+◌, ◌≤◌, nat_le, nat_lt, Bool, true, false, cond, ◌&&◌, ◌||◌, ◌==◌, List, [], ◌∷◌, ◌++◌, length, refl, ap, sym, ◌∙◌, subst, length-append, append_assoc, append-nil, arith}
use Rattle.std.specs.List.{list_all, filter}
use Rattle.std.proofs.lemmas.Bool.Decides.{nat_tests}
use mathlib.Core.List.{IsPrefix}
use Rattle.hs_types.specs.declared.ids.CallerId.{CallerId}
use Rattle.hs_types.specs.declared.journal.Entry.{Entry}
use Rattle.hs_plain.specs.Legal.{reach_of}
use Rattle.hs_plain.specs.Span.{is_one_of}
use Rattle.distcp_sync.specs.Steps.{own_places}
use Rattle.run_output.specs.Steps.{Step, printed, made, failed, counted, reached, all_reached, next_place, least_place}
use Rattle.run_output.specs.Run.{caller}
use Rattle.script_runner.specs.Links.{is_of}
use Rattle.script_runner.specs.InTurn.{AreStepsNext}
use Rattle.script_runner.proofs.Linked.{linked_rises}
use Rattle.script_runner.proofs.Stepped.{stepped_rest, stepped_linked, said-long, one-long}

-- ---- entries

-- whether an entry of these callers is in a span
abbrev taken : ℕ → ℕ → ℕ → Bool → Bool
taken low high index mine = nat_le low index && (nat_lt index high && mine)

skip : (cs : List CallerId) (low high index : ℕ) (entry : Entry) (entries : List Entry) → taken low high index (is_one_of cs entry.caller) ≡ false → own_places cs low high (index + 1) entries ≡ [] → own_places cs low high index (entry ∷ entries) ≡ []
skip cs low high index entry entries out more = ap (λ b. cond b (index ∷ own_places cs low high (index + 1) entries) (own_places cs low high (index + 1) entries)) out ∙ more

not_yet : (low high index : ℕ) (mine : Bool) → suc index ≤ low → taken low high index mine ≡ false
not_yet low high index mine before = grind (arith, nat_tests)

not_past : (low high index : ℕ) (mine : Bool) → high ≤ index → taken low high index mine ≡ false
not_past low high index mine past = grind (arith, nat_tests)

not_empty : (low high index : ℕ) (mine : Bool) → high ≤ low → taken low high index mine ≡ false
not_empty low high index mine none = grind (arith, nat_tests)

not_mine : (low high index c n : ℕ) → (n == c) ≡ false → taken low high index ((c == n) || false) ≡ false
not_mine low high index c n other = grind (arith, nat_tests)

-- in front of a span, behind it, and in an empty one
none_yet : (cs : List CallerId) (low high index : ℕ) (entries : List Entry) → index + length entries ≤ low → own_places cs low high index entries ≡ []
none_yet cs low high index [] before = refl
none_yet cs low high index (entry ∷ entries) before = skip cs low high index entry entries (not_yet low high index (is_one_of cs entry.caller) (omega (arith, before))) (none_yet cs low high (index + 1) entries (omega (arith, before)))

none_past : (cs : List CallerId) (low high index : ℕ) (entries : List Entry) → high ≤ index → own_places cs low high index entries ≡ []
none_past cs low high index [] past = refl
none_past cs low high index (entry ∷ entries) past = skip cs low high index entry entries (not_past low high index (is_one_of cs entry.caller) past) (none_past cs low high (index + 1) entries (omega (arith, past)))

none_empty : (cs : List CallerId) (low high index : ℕ) (entries : List Entry) → high ≤ low → own_places cs low high index entries ≡ []
none_empty cs low high index [] none = refl
none_empty cs low high index (entry ∷ entries) none = skip cs low high index entry entries (not_empty low high index (is_one_of cs entry.caller) none) (none_empty cs low high (index + 1) entries none)

no_cons : (x : Entry) (xs : List Entry) (b : Bool) → cond b (x ∷ xs) xs ≡ [] → b ≡ false
no_cons x xs true e = absurd (cc)
no_cons x xs false e = refl

-- among entries of others
none_foreign : (c low high index : ℕ) (entries : List Entry) → filter (is_of c) entries ≡ [] → own_places (caller c ∷ []) low high index entries ≡ []
none_foreign c low high index [] foreign = refl
none_foreign c low high index (entry ∷ entries) foreign =
    let other : is_of c entry ≡ false = no_cons entry (filter (is_of c) entries) (is_of c entry) foreign in
    skip (caller c ∷ []) low high index entry entries (not_mine low high index c entry.caller.0 other)
    (none_foreign c low high (index + 1) entries (sym (ap (λ b. cond b (entry ∷ filter (is_of c) entries) (filter (is_of c) entries)) other) ∙ foreign))

pick : (b : Bool) (index : ℕ) (here more : List ℕ) → cond b (index ∷ (here ++ more)) (here ++ more) ≡ cond b (index ∷ here) here ++ more
pick true index here more = refl
pick false index here more = refl

own_append : (cs : List CallerId) (low high index : ℕ) (xs ys : List Entry) → own_places cs low high index (xs ++ ys) ≡ own_places cs low high index xs ++ own_places cs low high (index + length xs) ys
own_append cs low high index [] ys = ap (λ n. own_places cs low high n ys) {x = index} {y = index + 0} (omega arith)
own_append cs low high index (x ∷ xs) ys =
    ap (λ (ks : List ℕ). cond (taken low high index (is_one_of cs x.caller)) (index ∷ ks) ks) (own_append cs low high (index + 1) xs ys)
    ∙ pick (taken low high index (is_one_of cs x.caller)) index (own_places cs low high (index + 1) xs) (own_places cs low high (index + 1 + length xs) ys)
    ∙ ap (λ n. own_places cs low high index (x ∷ xs) ++ own_places cs low high n ys) {x = index + 1 + length xs} {y = index + suc (length xs)} (omega arith)

-- ---- spans

-- a caller has no entry from one place on, up to another
abbrev pub IsFree : ℕ → List Entry → ℕ → ℕ → Type 0
IsFree c journal low high = (low ≤ high) × (own_places (caller c ∷ []) low high 0 journal ≡ [])

pub free_same : (c : ℕ) (journal : List Entry) (place : ℕ) → IsFree c journal place place
free_same c journal place = (omega arith, none_empty (caller c ∷ []) place place 0 journal (omega arith))

free_at : (c : ℕ) (journal : List Entry) (low high : ℕ) → low ≡ high → IsFree c journal low high
free_at c journal low high same = (omega (arith, same), none_empty (caller c ∷ []) low high 0 journal (omega (arith, same)))

-- where only others' entries stand
pub free_between : (c : ℕ) (journal now others back : List Entry) (low high : ℕ) → journal ≡ (now ++ others) ++ back → filter (is_of c) others ≡ [] → length now ≤ low → low ≤ high → high ≤ length (now ++ others) → IsFree c journal low high
free_between c journal now others back low high whole foreign from le to =
    let cs : List CallerId = caller c ∷ [] in (
      le,
      ap (own_places cs low high 0) whole
          ∙ own_append cs low high 0 (now ++ others) back
          ∙ ap (λ (ks : List ℕ). ks ++ own_places cs low high (0 + length (now ++ others)) back)
          (own_append cs low high 0 now others
          ∙ ap (λ (ks : List ℕ). ks ++ own_places cs low high (0 + length now) others) (none_yet cs low high 0 now (omega (arith, from)))
          ∙ none_foreign c low high (0 + length now) others foreign)
          ∙ none_past cs low high (0 + length (now ++ others)) back (omega (arith, to)),
    )

-- ---- steps

-- what is known after steps is known up to an entry of the caller, or nothing of it came since
pub stepped_low : (tells : Bool) (c : ℕ) (journal old : List Entry) (number low : ℕ) (steps : List Step) (new : List Entry) (last : ℕ) → AreStepsNext tells c old number steps new last → IsFree c journal low (length old) → IsFree c journal (reached low steps) (length new)
stepped_low tells c journal old number low [] new last stepped free = subst (λ (j : List Entry). IsFree c journal low (length j)) stepped.0 free
stepped_low tells c journal old number low (printed s ∷ steps) new last stepped free =
    stepped_low tells c journal stepped.0 s.seq (reach_of s.call s.told) steps new last stepped.2 (free_at c journal (reach_of s.call s.told) (length stepped.0) (said-long tells c old number s steps new last stepped))
stepped_low tells c journal old number low (made m ∷ steps) new last stepped free =
    stepped_low tells c journal stepped.0 m.seq (m.position + 1) steps new last stepped.2 (free_at c journal (m.position + 1) (length stepped.0) (one-long old stepped.0 stepped.1.entry m.position stepped.1.place stepped.1.grows))
stepped_low tells c journal old number low (failed position ∷ steps) new last stepped free =
    stepped_low tells c journal stepped.0 number (position + 1) steps new last stepped.2 (free_at c journal (position + 1) (length stepped.0) (one-long old stepped.0 stepped.1.entry position stepped.1.place stepped.1.grows))
stepped_low tells c journal old number low (counted n ∷ steps) new last stepped free = stepped_low tells c journal old n low steps new last stepped.1 free

-- the steps go on where they begin, or behind them nothing of the caller comes
pub stepped_high : (tells : Bool) (c : ℕ) (journal old : List Entry) (number high : ℕ) (steps : List Step) (new : List Entry) (last : ℕ) → AreStepsNext tells c old number steps new last → IsFree c journal (length new) high → IsFree c journal (length old) (next_place high steps)
stepped_high tells c journal old number high [] new last stepped free = subst (λ (j : List Entry). IsFree c journal (length j) high) (sym stepped.0) free
stepped_high tells c journal old number high (printed s ∷ steps) new last stepped free = free_at c journal (length old) s.told.position (sym stepped.1.place)
stepped_high tells c journal old number high (made m ∷ steps) new last stepped free = free_at c journal (length old) m.position (sym stepped.1.place)
stepped_high tells c journal old number high (failed position ∷ steps) new last stepped free = free_at c journal (length old) position (sym stepped.1.place)
stepped_high tells c journal old number high (counted n ∷ steps) new last stepped free = stepped_high tells c journal old n high steps new last stepped.1 free

-- up to where they lead, they go on where they begin
pub stepped_next : (tells : Bool) (c : ℕ) (old : List Entry) (number : ℕ) (steps : List Step) (new : List Entry) (last : ℕ) → AreStepsNext tells c old number steps new last → next_place (length new) steps ≡ length old
stepped_next tells c old number [] new last stepped = ap length (sym stepped.0)
stepped_next tells c old number (printed s ∷ steps) new last stepped = stepped.1.place
stepped_next tells c old number (made m ∷ steps) new last stepped = stepped.1.place
stepped_next tells c old number (failed position ∷ steps) new last stepped = stepped.1.place
stepped_next tells c old number (counted n ∷ steps) new last stepped = stepped_next tells c old n steps new last stepped.1

pub stepped_long : (tells : Bool) (c : ℕ) (old : List Entry) (number : ℕ) (steps : List Step) (new : List Entry) (last : ℕ) → AreStepsNext tells c old number steps new last → length old ≤ length new
stepped_long tells c old number steps new last stepped =
    let rest = stepped_rest tells c old number steps new last stepped in
    omega (arith, ap length rest.1, length-append old rest.0)

-- no earlier than where they begin
pub next_from : (tells : Bool) (c : ℕ) (old : List Entry) (number high : ℕ) (steps : List Step) (new : List Entry) (last : ℕ) → AreStepsNext tells c old number steps new last → length new ≤ high → length old ≤ next_place high steps
next_from tells c old number high [] new last stepped le = omega (arith, ap length stepped.0, le)
next_from tells c old number high (printed s ∷ steps) new last stepped le = omega (arith, stepped.1.place)
next_from tells c old number high (made m ∷ steps) new last stepped le = omega (arith, stepped.1.place)
next_from tells c old number high (failed position ∷ steps) new last stepped le = omega (arith, stepped.1.place)
next_from tells c old number high (counted n ∷ steps) new last stepped le = next_from tells c old n high steps new last stepped.1 le

-- and no further is known than they lead
pub reached_within : (tells : Bool) (c : ℕ) (old : List Entry) (number from : ℕ) (steps : List Step) (new : List Entry) (last : ℕ) → AreStepsNext tells c old number steps new last → from ≤ length old → reached from steps ≤ length new
reached_within tells c old number from steps new last stepped le = (linked_rises tells c old number from steps new le (stepped_linked tells c old number steps new last stepped)).1

-- ---- clients

pub least_within : (high : ℕ) (clients : List (List Step)) → least_place high clients ≤ high
least_within high [] = omega arith
least_within high (client ∷ clients) = omega (arith, least_within high clients)

pub all_from : (from : ℕ) (clients : List (List Step)) → from ≤ all_reached from clients
all_from from [] = omega arith
all_from from (client ∷ clients) = omega (arith, all_from from clients)

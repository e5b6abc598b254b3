-- Steps of one caller, each at the end of the journal.
use Rattle.std.proofs.Common.{◌≡◌, ℕ, ◌+◌, nat_le, Bool, true, false, cond, ◌&&◌, ◌==◌, Some, None, List, [], ◌∷◌, ◌++◌, map, length, refl, ap, sym, ◌∙◌, subst, length-append, append_assoc, append-nil, arith}
use Rattle.std.specs.Option.{option_to_list}
use Rattle.std.specs.List.{list_all}
use Rattle.std.proofs.lemmas.Bool.Decides.{nat_tests}
use Rattle.hs_types.specs.declared.journal.Entry.{Entry}
use Rattle.hs_plain.specs.Legal.{Said, entry_of, leaves_entry, reach_of}
use Rattle.run_output.specs.Steps.{Step, printed, made, failed, counted, known_by, place_or, reached, in_turn}
use Rattle.run_output.specs.Run.{caller}
use Rattle.script_runner.specs.Links.{own, AreLinked, last_number}
use Rattle.script_runner.specs.InTurn.{AreNext, AreStepsNext}
use Rattle.script_runner.proofs.Both.{both_first, both_second}
use Rattle.script_runner.proofs.Linked.{own-long}

-- replies that are printed
pub stepped_said : (tells : Bool) (c : ℕ) (old : List Entry) (number : ℕ) (said : List Said) (new : List Entry) (last : ℕ) → AreNext tells c old number said new last → AreStepsNext tells c old number (map printed said) new last
stepped_said tells c old number [] new last next = next
stepped_said tells c old number (s ∷ said) new last next = (next.0, next.1, stepped_said tells c next.0 s.seq said new last next.2)

pub stepped_append : (tells : Bool) (c : ℕ) (old : List Entry) (number : ℕ) (steps more : List Step) (now : List Entry) (here : ℕ) (new : List Entry) (last : ℕ) →
    AreStepsNext tells c old number steps now here → AreStepsNext tells c now here more new last → AreStepsNext tells c old number (steps ++ more) new last
stepped_append tells c old number [] more now here new last stepped next =
    subst (λ (j : List Entry). AreStepsNext tells c j number more new last) (sym stepped.0) (subst (λ n. AreStepsNext tells c now n more new last) (sym stepped.1) next)
stepped_append tells c old number (printed s ∷ steps) more now here new last stepped next = (stepped.0, stepped.1, stepped_append tells c stepped.0 s.seq steps more now here new last stepped.2 next)
stepped_append tells c old number (made m ∷ steps) more now here new last stepped next = (stepped.0, stepped.1, stepped_append tells c stepped.0 m.seq steps more now here new last stepped.2 next)
stepped_append tells c old number (failed position ∷ steps) more now here new last stepped next = (stepped.0, stepped.1, stepped_append tells c stepped.0 number steps more now here new last stepped.2 next)
stepped_append tells c old number (counted n ∷ steps) more now here new last stepped next = (stepped.0, stepped_append tells c old n steps more now here new last stepped.1 next)

-- ---- entries

abbrev pub by_caller : (ℕ → Bool) → Entry → Bool
by_caller p entry = p entry.caller.0

pub all_both : (p : ℕ → Bool) (xs ys : List Entry) → list_all (by_caller p) xs ≡ true → list_all (by_caller p) ys ≡ true → list_all (by_caller p) (xs ++ ys) ≡ true
all_both p [] ys here more = more
all_both p (x ∷ xs) ys here more = ap (λ b. b && list_all (by_caller p) (xs ++ ys)) (both_first _ _ here) ∙ all_both p xs ys (both_second (p x.caller.0) _ here) more

same_number : (n : ℕ) → (n == n) ≡ true
same_number n = grind (arith, nat_tests)

own_all : (c : ℕ) (said : Said) → list_all (by_caller (λ n. n == c)) (own c said) ≡ true
own_all c said = elim (leaves_entry said.call said.told.reply) as (λ b. list_all (by_caller (λ n. n == c)) (option_to_list (cond b (Some (entry_of (caller c) said.seq said.call said.told.reply)) None)) ≡ true) [
  | true ↦ ap (λ b. b && true) (same_number c)
  | false ↦ refl
]

one_all : (c : ℕ) (entry : Entry) → entry.caller.0 ≡ c → list_all (by_caller (λ n. n == c)) (entry ∷ []) ≡ true
one_all c entry mine = ap (λ n. (n == c) && true) mine ∙ ap (λ b. b && true) (same_number c)

-- what comes behind a journal, and is this caller's
abbrev pub IsOwnRest : ℕ → List Entry → List Entry → Type 0
IsOwnRest c old new = (rest : List Entry) × (new ≡ old ++ rest) × (list_all (by_caller (λ n. n == c)) rest ≡ true)

rest_then : (c : ℕ) (old here seen new : List Entry) → seen ≡ old ++ here → list_all (by_caller (λ n. n == c)) here ≡ true → IsOwnRest c seen new → IsOwnRest c old new
rest_then c old here seen new grows mine more =
    (here ++ more.0, more.1 ∙ ap (λ (xs : List Entry). xs ++ more.0) grows ∙ append_assoc old here more.0, all_both (λ n. n == c) here more.0 mine more.2)

-- what comes behind is the caller's
pub stepped_rest : (tells : Bool) (c : ℕ) (old : List Entry) (number : ℕ) (steps : List Step) (new : List Entry) (last : ℕ) → AreStepsNext tells c old number steps new last → IsOwnRest c old new
stepped_rest tells c old number [] new last stepped = ([], sym stepped.0 ∙ sym (append-nil old), refl)
stepped_rest tells c old number (printed s ∷ steps) new last stepped =
    rest_then c old (own c s) stepped.0 new stepped.1.grows (own_all c s) (stepped_rest tells c stepped.0 s.seq steps new last stepped.2)
stepped_rest tells c old number (made m ∷ steps) new last stepped =
    rest_then c old (stepped.1.entry ∷ []) stepped.0 new stepped.1.grows (one_all c stepped.1.entry stepped.1.of_caller) (stepped_rest tells c stepped.0 m.seq steps new last stepped.2)
stepped_rest tells c old number (failed position ∷ steps) new last stepped =
    rest_then c old (stepped.1.entry ∷ []) stepped.0 new stepped.1.grows (one_all c stepped.1.entry stepped.1.of_caller) (stepped_rest tells c stepped.0 number steps new last stepped.2)
stepped_rest tells c old number (counted n ∷ steps) new last stepped = stepped_rest tells c old n steps new last stepped.1

-- ---- links

pub stepped_linked : (tells : Bool) (c : ℕ) (old : List Entry) (number : ℕ) (steps : List Step) (new : List Entry) (last : ℕ) → AreStepsNext tells c old number steps new last → AreLinked tells c old number steps new
stepped_linked tells c old number [] new last stepped = ([], sym stepped.0 ∙ sym (append-nil old), refl)
stepped_linked tells c old number (printed s ∷ steps) new last stepped = (
  stepped.0,
  record {
    others = [];
    foreign = refl;
    grows = stepped.1.grows ∙ ap (λ (xs : List Entry). xs ++ own c s) (sym (append-nil old));
    place = stepped.1.place ∙ ap length (sym (append-nil old));
    legal = stepped.1.legal;
    counted = stepped.1.counted;
  },
  stepped_linked tells c stepped.0 s.seq steps new last stepped.2,
)
stepped_linked tells c old number (made m ∷ steps) new last stepped = (
  stepped.0,
  record {
    others = [];
    foreign = refl;
    entry = stepped.1.entry;
    by = stepped.1.of_caller;
    caller_is = stepped.1.caller_is;
    seq_is = stepped.1.seq_is;
    grows = stepped.1.grows ∙ ap (λ (xs : List Entry). xs ++ stepped.1.entry ∷ []) (sym (append-nil old));
    place = stepped.1.place ∙ ap length (sym (append-nil old));
    counted = stepped.1.rises;
  },
  stepped_linked tells c stepped.0 m.seq steps new last stepped.2,
)
stepped_linked tells c old number (failed position ∷ steps) new last stepped = (
  stepped.0,
  record {
    others = [];
    foreign = refl;
    entry = stepped.1.entry;
    by = stepped.1.of_caller;
    kind_is = stepped.1.kind_is;
    cursor = stepped.1.cursor;
    len = stepped.1.len;
    call_is = stepped.1.call_is;
    grows = stepped.1.grows ∙ ap (λ (xs : List Entry). xs ++ stepped.1.entry ∷ []) (sym (append-nil old));
    place = stepped.1.place ∙ ap length (sym (append-nil old));
  },
  stepped_linked tells c stepped.0 number steps new last stepped.2,
)
stepped_linked tells c old number (counted n ∷ steps) new last stepped = (stepped.0, stepped_linked tells c old n steps new last stepped.1)

pub stepped_last : (tells : Bool) (c : ℕ) (old : List Entry) (number : ℕ) (steps : List Step) (new : List Entry) (last : ℕ) → AreStepsNext tells c old number steps new last → last_number number steps ≡ last
stepped_last tells c old number [] new last stepped = stepped.1
stepped_last tells c old number (printed s ∷ steps) new last stepped = stepped_last tells c stepped.0 s.seq steps new last stepped.2
stepped_last tells c old number (made m ∷ steps) new last stepped = stepped_last tells c stepped.0 m.seq steps new last stepped.2
stepped_last tells c old number (failed position ∷ steps) new last stepped = stepped_last tells c stepped.0 number steps new last stepped.2
stepped_last tells c old number (counted n ∷ steps) new last stepped = stepped_last tells c old n steps new last stepped.1

-- ---- places

-- where a step ends that stands at the end of the journal
pub said-long : (tells : Bool) (c : ℕ) (old : List Entry) (number : ℕ) (s : Said) (steps : List Step) (new : List Entry) (last : ℕ) → (stepped : AreStepsNext tells c old number (printed s ∷ steps) new last) → reach_of s.call s.told ≡ length stepped.0
said-long tells c old number s steps new last stepped = omega (arith, own-long c s, stepped.1.place, ap length stepped.1.grows, length-append old (own c s))

pub one-long : (old seen : List Entry) (entry : Entry) (position : ℕ) → position ≡ length old → seen ≡ old ++ entry ∷ [] → position + 1 ≡ length seen
one-long old seen entry position at grows = omega (arith, at, ap length grows, length-append old (entry ∷ []))

pub in_turn-append : (from : ℕ) (steps more : List Step) → in_turn from steps ≡ true → in_turn (reached from steps) more ≡ true → in_turn from (steps ++ more) ≡ true
in_turn-append from [] more turn next = next
in_turn-append from (step ∷ steps) more turn next =
    ap (λ b. b && in_turn (known_by from step) (steps ++ more)) (both_first _ _ turn) ∙ in_turn-append (known_by from step) steps more (both_second (place_or from step == from) _ turn) next

pub reached-append : (from : ℕ) (steps more : List Step) → reached from (steps ++ more) ≡ reached (reached from steps) more
reached-append from [] more = refl
reached-append from (step ∷ steps) more = reached-append (known_by from step) steps more

-- steps stand in turn, and lead to the end of the journal
abbrev pub AreTurned : ℕ → List Step → ℕ → Type 0
AreTurned from steps to = (in_turn from steps ≡ true) × (reached from steps ≡ to)

turn_then : (old place next : ℕ) (seen : List Entry) (steps : List Step) (to : ℕ) → place ≡ old → next ≡ length seen → AreTurned (length seen) steps to → ((place == old && in_turn next steps) ≡ true) × (reached next steps ≡ to)
turn_then old place next seen steps to at long more = (
  ap (λ n. n == old && in_turn next steps) at ∙ ap (λ b. b && in_turn next steps) (same_number old) ∙ ap (λ n. in_turn n steps) long ∙ more.0,
  ap (λ n. reached n steps) long ∙ more.1,
)

pub stepped_turn : (tells : Bool) (c : ℕ) (old : List Entry) (number : ℕ) (steps : List Step) (new : List Entry) (last : ℕ) → AreStepsNext tells c old number steps new last → AreTurned (length old) steps (length new)
stepped_turn tells c old number [] new last stepped = (refl, ap length stepped.0)
stepped_turn tells c old number (printed s ∷ steps) new last stepped =
    turn_then (length old) s.told.position (reach_of s.call s.told) stepped.0 steps (length new) stepped.1.place (said-long tells c old number s steps new last stepped) (stepped_turn tells c stepped.0 s.seq steps new last stepped.2)
stepped_turn tells c old number (made m ∷ steps) new last stepped =
    turn_then (length old) m.position (m.position + 1) stepped.0 steps (length new) stepped.1.place (one-long old stepped.0 stepped.1.entry m.position stepped.1.place stepped.1.grows) (stepped_turn tells c stepped.0 m.seq steps new last stepped.2)
stepped_turn tells c old number (failed position ∷ steps) new last stepped =
    turn_then (length old) position (position + 1) stepped.0 steps (length new) stepped.1.place (one-long old stepped.0 stepped.1.entry position stepped.1.place stepped.1.grows) (stepped_turn tells c stepped.0 number steps new last stepped.2)
stepped_turn tells c old number (counted n ∷ steps) new last stepped =
    turn_then (length old) (length old) (length old) old steps (length new) refl refl (stepped_turn tells c old n steps new last stepped.1)

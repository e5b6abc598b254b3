-- What the last holder knows, when it has met every other seat.
use Rattle.std.proofs.Common.{◌≡◌, ◌⊎◌, ℕ, zero, suc, ◌<◌, Bool, true, false, List, [], ◌∷◌, ◌++◌, length, map, Some, slice_get, refl, ap, sym, ◌∙◌, subst, ⊎_elim, inl, inr, arith, eq-eqb, append_assoc}
use Rattle.std.specs.Prelude.{All, Contains, filter, slice_index_or}
use Rattle.std.specs.List.{AllByRecursion}
use Rattle.std.proofs.lemmas.List.Elements.{recursion_from_All, All-from_recursion, All-cons}
use Rattle.std.proofs.lemmas.List.{map-append}
use mathlib.Core.List.{IsPrefix}
use Rattle.hs_types.specs.declared.journal.Entry.{Entry}
use Rattle.turn_lock.specs.declared.view.View.{View}
use Rattle.turn_lock.specs.Histories.{caller_of, by_caller, is_by, LeadsOn}
use Rattle.turn_lock.specs.Rule.{Has}
use Rattle.turn_lock.specs.Seats.{Lock, Seat, AreAll, EachIsSeen}
use Rattle.turn_lock.specs.Steps.{informed, Learns, Finds}
use Rattle.turn_lock.proofs.Meetings.{meets_once}

-- a seat that met the holder has seen a beginning of what the holder has, and all its own entries
pub shows : (caller : ℕ) (u v p q : View) → u.holds ≡ true → Has v caller → Learns (informed u v) p → Learns (informed v u) q → LeadsOn caller v.seen u.seen
shows caller u v p q on has a b =
    let same : q.seen ≡ u.seen = meets_once u v p q a b ∙ (sym (ap (λ (z : View). z.seen) a.view) ∙ a.whole on) in
    (subst (λ (l : List Entry). IsPrefix v.seen l) same b.seen, ap (by_caller caller) (sym same) ∙ b.own caller has)

-- the seats of a list without its last
pub popped_map : {X : Type 0} (seat_of : X → Seat) (left now : List X) (x : X) (seat : Seat) → left ≡ now ++ x ∷ [] → seat ≡ seat_of x → map seat_of left ≡ map seat_of now ++ seat ∷ []
popped_map seat_of left now x seat popped is = ap (map seat_of) popped ∙ (map-append seat_of now (x ∷ []) ∙ ap (λ (s : Seat). map seat_of now ++ s ∷ []) (sym is))

-- one more at the front of those that were met
pub met_more : (P : Seat → Type 0) (all left now : List Seat) (seat : Seat) (met : List Seat) → left ≡ now ++ seat ∷ [] → left ++ met ≡ all → P seat → All P met
    → (rest : List Seat) × (now ++ rest ≡ all) × All P rest
met_more P all left now seat met popped is here each = (seat ∷ met, sym (append_assoc now (seat ∷ []) met) ∙ (ap (λ l. l ++ met) (sym popped) ∙ is), All-cons P seat met here each)

all_snoc : {A : Type 0} (P : A → Type 0) (xs : List A) (y : A) → AllByRecursion P xs → P y → AllByRecursion P (xs ++ y ∷ [])
all_snoc P [] y a b = (b, tt)
all_snoc P (x ∷ xs) y a b = (a.0, all_snoc P xs y a.1 b)

pub all_push : {A : Type 0} (P : A → Type 0) (xs ys : List A) (y : A) → ys ≡ xs ++ y ∷ [] → All P xs → P y → All P ys
all_push P xs ys y is a b = subst (All P) (sym is) (All-from_recursion P (xs ++ y ∷ []) (all_snoc P xs y (recursion_from_All P xs a) b))

at_place : {A : Type 0} (P : A → Type 0) (xs : List A) (k : ℕ) (x : A) → AllByRecursion P xs → slice_get xs k ≡ Some x → P x
at_place P [] k x a e = absurd (cc)
at_place P (y ∷ ys) zero x a e = let same : y ≡ x = cc in subst P same a.0
at_place P (y ∷ ys) (suc k) x a e = at_place P ys k x a.1 e

pub all_at : {A : Type 0} (P : A → Type 0) (xs : List A) (k : ℕ) (x : A) → All P xs → slice_get xs k ≡ Some x → P x
all_at P xs k x a e = at_place P xs k x (recursion_from_All P xs a) e

-- to stand in a list, by recursion
Stands : Entry → List Entry → Type 0
Stands e [] = ⊥
Stands e (x ∷ xs) = (x ≡ e) ⊎ Stands e xs

stands_from : (e : Entry) (xs : List Entry) (k : ℕ) → k < length xs → slice_index_or xs k e ≡ e → Stands e xs
unfolding Stands
stands_from e [] k h same = absurd (omega arith)
stands_from e (x ∷ xs) zero h same = inl same
stands_from e (x ∷ xs) (suc k) h same = inr (stands_from e xs k (omega arith) same)

contains_from : (e : Entry) (xs : List Entry) → Stands e xs → Contains xs e
unfolding Stands
contains_from e [] h = absurd h
contains_from e (x ∷ xs) h = ⊎_elim (λ (same : x ≡ e). (0, omega arith, same)) (λ (there : Stands e xs). let c = contains_from e xs there in (suc c.0, omega (arith, c.1), c.2)) h

filter_one : (p : Entry → Bool) (e x : Entry) (xs : List Entry) (b : Bool) → p x ≡ b → Stands e (filter p (x ∷ xs)) → (x ≡ e) ⊎ Stands e (filter p xs)
unfolding Stands
filter_one p e x xs true is h = rw is at h
filter_one p e x xs false is h = inr (rw is at h)

stands_unfiltered : (p : Entry → Bool) (e : Entry) (xs : List Entry) → Stands e (filter p xs) → Stands e xs
unfolding Stands
stands_unfiltered p e [] h = h
stands_unfiltered p e (x ∷ xs) h = ⊎_elim inl (λ (there : Stands e (filter p xs)). inr (stands_unfiltered p e xs there)) (filter_one p e x xs (p x) refl h)

stands_filtered : (p : Entry → Bool) (e : Entry) (xs : List Entry) → p e ≡ true → Stands e xs → Stands e (filter p xs)
unfolding Stands
stands_filtered p e [] passes h = h
stands_filtered p e (x ∷ xs) passes h = ⊎_elim
    (λ (same : x ≡ e). (let here : p x ≡ true = ap p same ∙ passes in rw here (inl same)))
    (λ (there : Stands e xs). later (p x) refl (stands_filtered p e xs passes there))
    h
  where
    later : (b : Bool) → p x ≡ b → Stands e (filter p xs) → Stands e (filter p (x ∷ xs))
    later true is s = rw is (inr s)
    later false is s = rw is s

-- an entry of the whole stands in what its caller's seat has seen
pub each_seen : (lock : Lock) (seats : List Seat) (log : List Entry) → AreAll lock seats → All (λ (s : Seat). LeadsOn s.caller s.seen log) seats → All (λ e. caller_of e < lock.seats) log → EachIsSeen seats log
unfolding Stands
each_seen lock seats log all leads callers e stands =
    let there = stands_from e log stands.0 stands.1 stands.2 in
    let low = at_stands (λ e. caller_of e < lock.seats) e log (recursion_from_All (λ e. caller_of e < lock.seats) log callers) there in
    let found = all (caller_of e) low in
    let seat = found.1 in
    let led = all_at (λ (s : Seat). LeadsOn s.caller s.seen log) seats found.0 seat leads found.2 in
    let own : by_caller (caller_of e) log ≡ by_caller (caller_of e) seat.seen = subst (λ (n : ℕ). by_caller n log ≡ by_caller n seat.seen) found.3 led.1 in
    let mine = stands_filtered (is_by (caller_of e)) e log (eq-eqb (caller_of e) (caller_of e) refl) there in
    (found.0, seat, found.2, found.3, contains_from e seat.seen (stands_unfiltered (is_by (caller_of e)) e seat.seen (subst (Stands e) own mine)))
  where
    at_stands : (P : Entry → Type 0) (e : Entry) (xs : List Entry) → AllByRecursion P xs → Stands e xs → P e
    at_stands P e [] a s = absurd s
    at_stands P e (x ∷ xs) a s = ⊎_elim (λ (same : x ≡ e). subst P same a.0) (λ (more : Stands e xs). at_stands P e xs a.1 more) s

-- the holder's own seat
pub own_leads : (caller : ℕ) (v : View) (log : List Entry) → Has v caller → Finds v log → LeadsOn caller v.seen log
own_leads caller v log has finds = (finds.seen, finds.own caller has)

all_front : {A : Type 0} (P : A → Type 0) (xs ys : List A) → AllByRecursion P (xs ++ ys) → AllByRecursion P xs
all_front P [] ys a = tt
all_front P (x ∷ xs) ys a = (a.0, all_front P xs ys a.1)

pub all_popped : {A : Type 0} (P : A → Type 0) (left now : List A) (x : A) → left ≡ now ++ x ∷ [] → All P left → All P now
all_popped P left now x is a = All-from_recursion P now (all_front P now (x ∷ []) (recursion_from_All P (now ++ x ∷ []) (subst (All P) is a)))

-- none is left
pub all_met : (P : Seat → Type 0) (all left met : List Seat) → left ≡ [] → left ++ met ≡ all → All P met → All P all
all_met P all left met none is each = subst (All P) (ap (λ l. l ++ met) (sym none) ∙ is) each

last_of_all : {A : Type 0} (P : A → Type 0) (xs : List A) (y : A) → AllByRecursion P (xs ++ y ∷ []) → P y
last_of_all P [] y a = a.0
last_of_all P (x ∷ xs) y a = last_of_all P xs y a.1

pub all_last : {A : Type 0} (P : A → Type 0) (left now : List A) (x : A) → left ≡ now ++ x ∷ [] → All P left → P x
all_last P left now x is a = last_of_all P now x (recursion_from_All P (now ++ x ∷ []) (subst (All P) is a))

all_apply : {A : Type 0} (P Q : A → Type 0) (xs : List A) → ((x : A) → P x → Q x) → AllByRecursion P xs → AllByRecursion Q xs
all_apply P Q [] f a = tt
all_apply P Q (x ∷ xs) f a = (f x a.0, all_apply P Q xs f a.1)

-- seats of one lock: the last one, and those before it at the lock's table
pub popped_of_lock : {X : Type 0} (seat_of : X → Seat) (lock : Lock) (left now : List X) (x : X) (seat : Seat) → left ≡ now ++ x ∷ [] → seat ≡ seat_of x → All (λ (s : Seat). s.lock ≡ lock) (map seat_of left)
    → (seat.lock ≡ lock) × All (λ (s : Seat). s.lock.table ≡ lock.table) (map seat_of now)
popped_of_lock seat_of lock left now x seat popped is all =
    let seats : map seat_of left ≡ map seat_of now ++ seat ∷ [] = popped_map seat_of left now x seat popped is in (
      all_last (λ (s : Seat). s.lock ≡ lock) (map seat_of left) (map seat_of now) seat seats all,
      All-from_recursion (λ (s : Seat). s.lock.table ≡ lock.table) (map seat_of now)
          (all_apply (λ (s : Seat). s.lock ≡ lock) (λ (s : Seat). s.lock.table ≡ lock.table) (map seat_of now) (λ s e. ap (λ (l : Lock). l.table) e)
          (recursion_from_All (λ (s : Seat). s.lock ≡ lock) (map seat_of now) (all_popped (λ (s : Seat). s.lock ≡ lock) (map seat_of left) (map seat_of now) seat seats all))),
    )

-- Beginnings of one list, and the entries of one caller in them.
use Rattle.std.proofs.Common.{◌≡◌, ℕ, ◌≤◌, ◌<◌, Bool, true, false, List, [], ◌∷◌, ◌++◌, length, refl, ap, sym, ◌∙◌, subst, arith, append_assoc, length-append, append-nil, ne_eqb}
use Rattle.std.specs.Prelude.{filter, nat_lt, All}
use Rattle.std.proofs.lemmas.List.Elements.{filter-append, recursion_from_All, All-from_recursion}
use Rattle.std.specs.List.{AllByRecursion}
use mathlib.Core.List.{IsPrefix}
use Rattle.hs_types.specs.declared.journal.Entry.{Entry}
use Rattle.turn_lock.specs.declared.view.View.{View}
use Rattle.turn_lock.specs.Histories.{caller_of, by_caller, is_by, longer}
use Rattle.turn_lock.specs.Rule.{Has}

-- each list begins with itself
pub prefix_self : {A : Type 0} (xs : List A) → IsPrefix xs xs
prefix_self [] = ([], refl)
prefix_self (x ∷ xs) = (let r = prefix_self xs in r.0, ap (λ ys. x ∷ ys) (prefix_self xs).1)

pub prefix_nil : {A : Type 0} (xs : List A) → IsPrefix [] xs
prefix_nil xs = (xs, refl)

pub prefix_trans : {A : Type 0} (xs ys zs : List A) → IsPrefix xs ys → IsPrefix ys zs → IsPrefix xs zs
prefix_trans xs ys zs p q = (p.0 ++ q.0, sym (append_assoc xs p.0 q.0) ∙ (ap (λ w. w ++ q.0) p.1 ∙ q.1))

-- of two beginnings of one list the shorter begins the longer
pub prefix_shorter : {A : Type 0} (xs ys zs : List A) → IsPrefix xs zs → IsPrefix ys zs → length xs ≤ length ys → IsPrefix xs ys
prefix_shorter [] ys zs p q le = (ys, refl)
prefix_shorter (x ∷ xs) [] zs p q le = absurd (omega arith)
prefix_shorter (x ∷ xs) (y ∷ ys) [] p q le = absurd (cc (p.1))
prefix_shorter (x ∷ xs) (y ∷ ys) (z ∷ zs) p q le =
    let heads : x ≡ y = cc (p.1, q.1) in
    let rest = prefix_shorter xs ys zs (p.0, cc (p.1)) (q.0, cc (q.1)) (omega arith) in
    (rest.0, cc (heads, rest.1))

-- a beginning as long as the whole is the whole
pub prefix_whole : {A : Type 0} (xs ys : List A) → IsPrefix xs ys → length ys ≤ length xs → xs ≡ ys
prefix_whole [] [] p le = refl
prefix_whole [] (y ∷ ys) p le = absurd (omega arith)
prefix_whole (x ∷ xs) [] p le = absurd (cc (p.1))
prefix_whole (x ∷ xs) (y ∷ ys) p le =
    let rest = prefix_whole xs ys (p.0, cc (p.1)) (omega arith) in cc (p.1, rest)

pub prefix_length : {A : Type 0} (xs ys : List A) → IsPrefix xs ys → length xs ≤ length ys
prefix_length xs ys p = omega (arith, sym (ap length p.1) ∙ length-append xs p.0)

pub prefix_filter : {A : Type 0} (test : A → Bool) (xs ys : List A) → IsPrefix xs ys → IsPrefix (filter test xs) (filter test ys)
prefix_filter test xs ys p = (filter test p.0, sym (filter-append test xs p.0) ∙ ap (filter test) p.1)

-- between a beginning and a whole with the same entries of a caller there are no others of it
pub own_between : (caller : ℕ) (xs ys zs : List Entry) → IsPrefix xs ys → IsPrefix ys zs → by_caller caller zs ≡ by_caller caller xs → by_caller caller ys ≡ by_caller caller xs
own_between caller xs ys zs p q same =
    let a = prefix_filter (is_by caller) xs ys p in
    let b = prefix_length (by_caller caller ys) (by_caller caller zs) (prefix_filter (is_by caller) ys zs q) in
    let c : length (by_caller caller zs) ≡ length (by_caller caller xs) = ap length same in
    sym (prefix_whole (by_caller caller xs) (by_caller caller ys) a (omega arith))

-- the longer of two beginnings of one list is one too, and both begin it
longer_choice : (xs ys : List Entry) (b : Bool) → nat_lt (length xs) (length ys) ≡ b → (P : List Entry → Type 0) → (length xs < length ys → P ys) → (length ys ≤ length xs → P xs) → P (longer xs ys)
longer_choice xs ys true is P less more = rw is (less (grind arith))
longer_choice xs ys false is P less more = rw is (more (grind arith))

pub longer_is : (xs ys : List Entry) (P : List Entry → Type 0) → (length xs < length ys → P ys) → (length ys ≤ length xs → P xs) → P (longer xs ys)
longer_is xs ys P less more = longer_choice xs ys (nat_lt (length xs) (length ys)) refl P less more

all_append : {A : Type 0} (P : A → Type 0) (xs ys : List A) → AllByRecursion P xs → AllByRecursion P ys → AllByRecursion P (xs ++ ys)
all_append P [] ys a b = b
all_append P (x ∷ xs) ys a b = (a.0, all_append P xs ys a.1 b)

-- entries that all pass one test, by another that they fail
none_of : (caller : ℕ) (v : View) → (Has v caller → ⊥) → (rest : List Entry) → AllByRecursion (λ e. Has v (caller_of e)) rest → by_caller caller rest ≡ []
none_of caller v not [] a = refl
none_of caller v not (e ∷ rest) a =
    let other : is_by caller e ≡ false = ne_eqb (caller_of e) caller (λ (same : caller_of e ≡ caller). not (subst (Has v) same a.0)) in
    rw other (none_of caller v not rest a.1)

all_map : {A : Type 0} (P Q : A → Type 0) → ((x : A) → P x → Q x) → (xs : List A) → AllByRecursion P xs → AllByRecursion Q xs
all_map P Q f [] a = tt
all_map P Q f (x ∷ xs) a = (f x a.0, all_map P Q f xs a.1)

-- what a holder adds is of its own callers, so of no other's
pub others_added : (old new : List Entry) (v : View) (caller : ℕ) → (rest : List Entry) × (old ++ rest ≡ new) × All (λ e. Has v (caller_of e)) rest → (Has v caller → ⊥) → by_caller caller new ≡ by_caller caller old
others_added old new v caller may not =
    sym (ap (by_caller caller) may.1)
    ∙ (filter-append (is_by caller) old may.0 ∙ (ap (λ l. by_caller caller old ++ l) (none_of caller v not may.0 (recursion_from_All (λ e. Has v (caller_of e)) may.0 may.2)) ∙ append-nil (by_caller caller old)))

pub callers_added : (old new : List Entry) (seats : ℕ) (v : View) → (rest : List Entry) × (old ++ rest ≡ new) × All (λ e. Has v (caller_of e)) rest → All (λ e. caller_of e < seats) old → v.to ≤ seats → All (λ e. caller_of e < seats) new
callers_added old new seats v may all le = subst (All (λ e. caller_of e < seats)) may.1
    (All-from_recursion (λ e. caller_of e < seats) (old ++ may.0)
    (all_append (λ e. caller_of e < seats) old may.0 (recursion_from_All (λ e. caller_of e < seats) old all)
    (all_map (λ e. Has v (caller_of e)) (λ e. caller_of e < seats) (λ e has. omega (arith, has.1, le)) may.0 (recursion_from_All (λ e. Has v (caller_of e)) may.0 may.2))))

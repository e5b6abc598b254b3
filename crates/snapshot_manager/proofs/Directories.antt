-- The directories: what is found at a directory's place, and what a change there makes of the whole.
use Rattle.std.proofs.Common.{◌≡◌, ℕ, zero, suc, ◌<◌, true, false, not, nat_eq, nat_lt, ◌⊎◌, inl, inr, if◌then◌else◌, List, [], ◌∷◌, ◌++◌, length, map, filter, get_or, set, Some, None, unwrap_or, slice_get, refl, sym, ap, ◌∙◌, arith, ltb-true, eqb-true}
use Rattle.std.specs.Option.{option_map}
use Rattle.std.specs.List.{find, AllByRecursion}
use Rattle.std.specs.Cmp.{nat_eq_equiv}
use Rattle.std.proofs.lemmas.Bool.{cases_Bool}
use Rattle.std.proofs.lemmas.List.{map-append, get_or_default}
use Rattle.hs_types.specs.declared.ids.InodeId.{InodeId}
use Rattle.hs_types.specs.declared.name.SnapItem.{SnapItem}
use Rattle.snapshot_manager.specs.Snapshots.{Directory, Snapshots, IsRising, is_of, snaps_of, snaps_in, changed}
use Rattle.snapshot_manager.specs.Places.{NonePasses, PassesOnlyAt}
use Rattle.snapshot_manager.proofs.Lists.{all_weaker, find_there, find_nowhere, map_there, map_nowhere, there_in_range, slice_get_in, passes_only_at}
use Rattle.snapshot_manager.proofs.Rising.{rising_apart, rising_filter}

-- an entry that stands for none
abbrev pub no_dir : Directory
no_dir = (record { 0 = 0 }, [])

abbrev pub key : Directory → ℕ
key d = d.0.0

module _ (dir : InodeId) (s : Snapshots) (i : ℕ) (there : PassesOnlyAt (is_of dir) s.dirs i) where
  found_is : find (is_of dir) s.dirs ≡ Some (get_or s.dirs i no_dir)
  found_is = find_there (is_of dir) s.dirs i there ∙ slice_get_in s.dirs i no_dir (there_in_range (is_of dir) s.dirs i there)

  pub snaps_of-there : snaps_of s dir ≡ Some (get_or s.dirs i no_dir).1
  snaps_of-there = ap (option_map (λ (d : Directory). d.1)) found_is

  pub snaps_in-there : snaps_in s dir ≡ (get_or s.dirs i no_dir).1
  snaps_in-there = ap (λ o. unwrap_or o []) snaps_of-there

  pub changed-there : (f : List SnapItem → List SnapItem) → changed dir f s ≡ record s { dirs = set s.dirs i ((get_or s.dirs i no_dir).0, f (get_or s.dirs i no_dir).1) }
  changed-there f = ap (λ l. record s { dirs = l }) (map_there (is_of dir) (λ d. (d.0, f d.1)) s.dirs i no_dir there)

module _ (dir : InodeId) (s : Snapshots) (absent : NonePasses (is_of dir) s.dirs) where
  pub snaps_of-nowhere : snaps_of s dir ≡ None
  snaps_of-nowhere = ap (option_map (λ (d : Directory). d.1)) (find_nowhere (is_of dir) s.dirs absent)

  pub snaps_in-nowhere : snaps_in s dir ≡ []
  snaps_in-nowhere = ap (λ o. unwrap_or o []) snaps_of-nowhere

  pub changed-nowhere : (f : List SnapItem → List SnapItem) → changed dir f s ≡ s
  changed-nowhere f = ap (λ l. record s { dirs = l }) (map_nowhere (is_of dir) (λ d. (d.0, f d.1)) s.dirs absent)

-- what is read at a place is the entry there
pub entry_is : (dirs : List Directory) (i : ℕ) (d : Directory) → i < length dirs → d ≡ get_or dirs i d → d ≡ get_or dirs i no_dir
entry_is dirs i d lt read = read ∙ get_or_default dirs i d no_dir lt

-- the entry at a directory's place is this directory's
pub key_there : (dir : InodeId) (dirs : List Directory) (i : ℕ) → PassesOnlyAt (is_of dir) dirs i → (get_or dirs i no_dir).0.0 ≡ dir.0
key_there dir [] i there = absurd there
key_there dir (d ∷ ds) zero there = sym (eqb-true dir.0 d.0.0 there.0)
key_there dir (d ∷ ds) (suc i) there = key_there dir ds i there.1

-- what is read at a directory's place are its snapshots
pub snaps_in-read : (dir : InodeId) (s t : Snapshots) (i : ℕ) (d : Directory) → s ≡ t → PassesOnlyAt (is_of dir) s.dirs i → d ≡ get_or s.dirs i d → snaps_in t dir ≡ d.1
snaps_in-read dir s t i d same there read =
    ap (λ v. snaps_in v dir) (sym same) ∙ snaps_in-there dir s i there ∙ ap (λ (e : Directory). e.1) (sym (entry_is s.dirs i d (there_in_range (is_of dir) s.dirs i there) read))

-- ---- what each directory has after a change

-- a directory's snapshots, by its number
abbrev pub items_at : ℕ → List Directory → List SnapItem
items_at n dirs = unwrap_or (option_map (λ d. d.1) (find (λ d. nat_eq n d.0.0) dirs)) []

pub items_at-set : (n : ℕ) (x : Directory) (dirs : List Directory) (i : ℕ) → PassesOnlyAt (λ d. nat_eq n d.0.0) dirs i → x.0.0 ≡ n → (q : ℕ) → items_at q (set dirs i x) ≡ (if nat_eq n q then x.1 else items_at q dirs)
items_at-set n x [] i there same q = absurd there
items_at-set n x (d ∷ ds) zero there same q =
    let here : n ≡ d.0.0 = eqb-true n d.0.0 there.0 in
    rw (same, ← here, nat_eq_equiv.symm q n) (elim (cases_Bool (nat_eq n q)) [
      | inl passes ↦ rw passes refl
      | inr fails ↦ rw fails refl
    ])
items_at-set n x (d ∷ ds) (suc i) there same q = elim (cases_Bool (nat_eq q d.0.0)) [
  | inl passes ↦
      let apart : nat_eq n q ≡ false = nat_eq_equiv.symm n q ∙ nat_eq_equiv.congr q d.0.0 n passes ∙ nat_eq_equiv.symm d.0.0 n ∙ there.0 in
      rw (passes, apart) refl
  | inr fails ↦ rw fails (items_at-set n x ds i there.1 same q)
]

pub items_at-filter : (n q : ℕ) (dirs : List Directory) → items_at q (filter (λ d. not (nat_eq n d.0.0)) dirs) ≡ (if nat_eq n q then [] else items_at q dirs)
items_at-filter n q [] = elim (cases_Bool (nat_eq n q)) [
  | inl same ↦ rw same refl
  | inr apart ↦ rw apart refl
]
items_at-filter n q (d ∷ ds) = by (items_at-filter n q ds) (cases_Bool (nat_eq n d.0.0)) (cases_Bool (nat_eq n q)) (cases_Bool (nat_eq q d.0.0))
  where
    by : items_at q (filter (λ d. not (nat_eq n d.0.0)) ds) ≡ (if nat_eq n q then [] else items_at q ds)
        → (nat_eq n d.0.0 ≡ true) ⊎ (nat_eq n d.0.0 ≡ false) → (nat_eq n q ≡ true) ⊎ (nat_eq n q ≡ false) → (nat_eq q d.0.0 ≡ true) ⊎ (nat_eq q d.0.0 ≡ false)
        → items_at q (filter (λ d. not (nat_eq n d.0.0)) (d ∷ ds)) ≡ (if nat_eq n q then [] else items_at q (d ∷ ds))
    by rest (inl gone) (inl same) third = rw gone (rest ∙ rw same refl)
    by rest (inl gone) (inr apart) third =
        let other : nat_eq q d.0.0 ≡ false = nat_eq_equiv.symm q d.0.0 ∙ sym (nat_eq_equiv.congr n d.0.0 q gone) ∙ apart in
        rw (gone, other) rest
    by rest (inr kept) (inl same) (inl here) = let clash : true ≡ false = sym here ∙ sym (nat_eq_equiv.congr n q d.0.0 same) ∙ kept in absurd (cc)
    by rest (inr kept) (inl same) (inr there) = rw (kept, there) rest
    by rest (inr kept) (inr apart) (inl here) = rw (kept, apart, here) refl
    by rest (inr kept) (inr apart) (inr there) = rw (kept, there) rest

pub items_at-nowhere : (n : ℕ) (dirs : List Directory) → NonePasses (λ d. nat_eq n d.0.0) dirs → items_at n dirs ≡ []
items_at-nowhere n dirs none = ap (λ o. unwrap_or (option_map (λ (d : Directory). d.1) o) []) (find_nowhere (λ d. nat_eq n d.0.0) dirs none)

-- a directory without snapshots that comes in changes what no directory has
pub items_at-insert : (dir : InodeId) (xs ys : List Directory) → NonePasses (is_of dir) ys → (q : ℕ) → items_at q (xs ++ (dir, []) ∷ ys) ≡ items_at q (xs ++ ys)
items_at-insert dir [] ys none q = elim (cases_Bool (nat_eq q dir.0)) [
  | inl same ↦ rw (same, eqb-true q dir.0 same) (sym (items_at-nowhere dir.0 ys none))
  | inr apart ↦ rw apart refl
]
items_at-insert dir (x ∷ xs) ys none q = elim (cases_Bool (nat_eq q x.0.0)) [
  | inl here ↦ rw here refl
  | inr there ↦ rw there (items_at-insert dir xs ys none q)
]

-- ---- the order of the directories after a change

pub keys-set : (n : ℕ) (x : Directory) (dirs : List Directory) (i : ℕ) → PassesOnlyAt (λ d. nat_eq n d.0.0) dirs i → x.0.0 ≡ n → map key (set dirs i x) ≡ map key dirs
keys-set n x [] i there same = absurd there
keys-set n x (d ∷ ds) zero there same = ap (λ k. k ∷ map key ds) (same ∙ eqb-true n d.0.0 there.0)
keys-set n x (d ∷ ds) (suc i) there same = ap (λ l. d.0.0 ∷ l) (keys-set n x ds i there.1 same)

all_join : (P : ℕ → Type 0) (xs ys : List ℕ) → AllByRecursion P xs → AllByRecursion P ys → AllByRecursion P (xs ++ ys)
all_join P [] ys front back = back
all_join P (x ∷ xs) ys front back = (front.0, all_join P xs ys front.1 back)

rising_join : (n : ℕ) (xs ys : List ℕ) → IsRising xs → AllByRecursion (λ m. m < n) xs → IsRising ys → AllByRecursion (λ m. n < m) ys → IsRising (xs ++ n ∷ ys)
rising_join n [] ys front below back above = (above, back)
rising_join n (x ∷ xs) ys front below back above =
    (all_join (λ m. x < m) xs (n ∷ ys) front.0 (below.0, all_weaker (λ m. n < m) (λ m. x < m) (λ m lt. omega (arith, below.0)) ys above), rising_join n xs ys front.1 below.1 back above)

all_below : (n : ℕ) (dirs : List Directory) → AllByRecursion (λ m. m < n) (map key (filter (λ d. nat_lt d.0.0 n) dirs))
all_below n [] = tt
all_below n (d ∷ ds) = elim (cases_Bool (nat_lt d.0.0 n)) [
  | inl below ↦ rw below (ltb-true d.0.0 n below, all_below n ds)
  | inr above ↦ rw above (all_below n ds)
]

all_above : (n : ℕ) (dirs : List Directory) → AllByRecursion (λ m. n < m) (map key (filter (λ d. nat_lt n d.0.0) dirs))
all_above n [] = tt
all_above n (d ∷ ds) = elim (cases_Bool (nat_lt n d.0.0)) [
  | inl above ↦ rw above (ltb-true n d.0.0 above, all_above n ds)
  | inr below ↦ rw below (all_above n ds)
]

-- a directory that comes in between what is below and what is above keeps the order
pub rising_insert : (dir : InodeId) (dirs : List Directory) → IsRising (map key dirs) → IsRising (map key (filter (λ d. nat_lt d.0.0 dir.0) dirs ++ (dir, []) ∷ filter (λ d. nat_lt dir.0 d.0.0) dirs))
rising_insert dir dirs up =
    let below = filter (λ (d : Directory). nat_lt d.0.0 dir.0) dirs in
    let above = filter (λ (d : Directory). nat_lt dir.0 d.0.0) dirs in
    rw (map-append key below ((dir, []) ∷ above))
    (rising_join dir.0 (map key below) (map key above) (rising_filter key (λ d. nat_lt d.0.0 dir.0) dirs up) (all_below dir.0 dirs) (rising_filter key (λ d. nat_lt dir.0 d.0.0) dirs up) (all_above dir.0 dirs))

-- each directory has what its entry says
pub all_from_places : {X : Type 0} (P : X → Type 0) (xs : List X) → ((i : ℕ) (x : X) → slice_get xs i ≡ Some x → P x) → AllByRecursion P xs
all_from_places P [] at = tt
all_from_places P (x ∷ xs) at = (at zero x refl, all_from_places P xs (λ i y e. at (suc i) y e))

pub own_items : (dirs : List Directory) → IsRising (map key dirs) → AllByRecursion (λ d. items_at d.0.0 dirs ≡ d.1) dirs
own_items dirs up = all_from_places (λ d. items_at d.0.0 dirs ≡ d.1) dirs (λ i d at.
    let there = passes_only_at key nat_eq nat_eq_equiv d.0.0 dirs i d (rising_apart (map key dirs) up) at (nat_eq_equiv.refl d.0.0) in
    ap (λ o. unwrap_or (option_map (λ (d : Directory). d.1) o) []) (find_there (λ d'. nat_eq d.0.0 d'.0.0) dirs i there ∙ at))

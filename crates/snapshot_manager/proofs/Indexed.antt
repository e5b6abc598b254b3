-- The index from ids to directories: how each change keeps it, and what is found through it.
use Rattle.std.proofs.Common.{◌≡◌, ℕ, zero, suc, ◌<◌, ◌≤◌, Bool, true, false, not, ◌||◌, ◌⊎◌, nat_eq, inl, inr, if◌then◌else◌, List, [], ◌∷◌, ◌++◌, map, filter, get_or, set, Option, Some, None, is_some, unwrap_or, slice_get, refl, sym, ap, subst, ◌∙◌, arith, eqb-true, ne_eqb, true≢false}
use Rattle.std.specs.Prelude.{bytes_eq}
use Rattle.std.specs.Option.{option_map, option_or}
use Rattle.std.specs.List.{find, list_any, flat_map, AllByRecursion}
use Rattle.std.specs.Cmp.{nat_eq_equiv}
use Rattle.std.specs.Cmp.Lexicographic.{nat_list_eq_equiv}
use Rattle.std.proofs.lemmas.Bool.{cases_Bool, or_cases, or_left, or_right}
use Rattle.std.proofs.lemmas.List.Folds.{list_any-append, find-append}
use Rattle.hs_types.specs.declared.ids.InodeId.{InodeId}
use Rattle.hs_types.specs.declared.ids.SnapId.{SnapId}
use Rattle.hs_types.specs.declared.name.SnapItem.{SnapItem}
use Rattle.snapshot_manager.specs.Snapshots.{Directory, Snapshots, IdsApart, IsHistory, IsProper, has_name, has_id, is_of, is_between, live, live_at, snaps_of, snaps_in, without, renamed}
use Rattle.snapshot_manager.specs.Places.{NonePasses, PassesOnlyAt}
use Rattle.snapshot_manager.specs.Owners.{owner_of, is_owner, any_between, SetsOwner, IsIndexed}
use Rattle.snapshot_manager.proofs.Lists.{same_bool, all_weaker, find_nowhere, nowhere_from_any, any_nowhere, any_there, some_find, filter_nowhere, passes_only_at, place_from_find}
use Rattle.snapshot_manager.proofs.Rising.{rising_apart}
use Rattle.snapshot_manager.proofs.Directories.{no_dir, items_at, items_at-set, snaps_in-there, own_items}
use Rattle.snapshot_manager.proofs.Naming.{number}

-- ---- what is left of a list

-- what fails a test isn't missed by it
pub any_left : {X : Type 0} (test p : X → Bool) (xs : List X) (i : ℕ) (x : X) → PassesOnlyAt test xs i → slice_get xs i ≡ Some x → p x ≡ false → list_any p (filter (λ y. not (test y)) xs) ≡ list_any p xs
any_left test p [] i x there at fails = absurd there
any_left test p (y ∷ ys) zero x there at fails =
    let same : y ≡ x = cc in
    let here : p y ≡ false = rw same fails in
    rw (there.0, here) (ap (list_any p) (filter_nowhere test ys there.1))
any_left test p (y ∷ ys) (suc i) x there at fails = rw there.0 (ap (λ b. p y || b) (any_left test p ys i x there.1 at fails))

-- what passes only where the other test does is gone with it
pub any_gone : {X : Type 0} (test p : X → Bool) (xs : List X) (i : ℕ) → PassesOnlyAt test xs i → PassesOnlyAt p xs i → list_any p (filter (λ y. not (test y)) xs) ≡ false
any_gone test p [] i there same = absurd there
any_gone test p (y ∷ ys) zero there same = rw there.0 (ap (list_any p) (filter_nowhere test ys there.1) ∙ any_nowhere p ys same.1)
any_gone test p (y ∷ ys) (suc i) there same = rw (there.0, same.0) (any_gone test p ys i there.1 same.1)

or_false : (b : Bool) → (b || false) ≡ b
or_false true = refl
or_false false = refl

any_weaker : {X : Type 0} (p q : X → Bool) → ((x : X) → p x ≡ true → q x ≡ true) → (xs : List X) → list_any p xs ≡ true → list_any q xs ≡ true
any_weaker p q weaker [] any = any
any_weaker p q weaker (x ∷ xs) any = elim (or_cases (p x) (list_any p xs) any) [
  | inl here ↦ or_left (q x) (list_any q xs) (weaker x here)
  | inr there ↦ or_right (q x) (list_any q xs) (any_weaker p q weaker xs there)
]

-- ---- the changes

-- a change of the directories that leaves each one's ids keeps the index
pub index_same : (owners : List (SnapId × InodeId)) (s t : Snapshots) → ((id : SnapId) (dir : InodeId) → list_any (has_id id) (snaps_in t dir) ≡ list_any (has_id id) (snaps_in s dir)) → IsIndexed owners s → IsIndexed owners t
index_same owners s t same indexed id dir = indexed id dir ∙ sym (same id dir)

pub any_id-renamed : (id : SnapId) (old new : List ℕ) (items : List SnapItem) → list_any (has_id id) (renamed old new items) ≡ list_any (has_id id) items
any_id-renamed id old new [] = refl
any_id-renamed id old new (item ∷ items) = elim (cases_Bool (has_name old item)) [
  | inl here ↦ rw here (ap (λ b. has_id id item || b) (any_id-renamed id old new items))
  | inr there ↦ rw there (ap (λ b. has_id id item || b) (any_id-renamed id old new items))
]

module _ (s : Snapshots) (dir : InodeId) (i : ℕ) (there : PassesOnlyAt (is_of dir) s.dirs i) (items : List SnapItem) where
  abbrev pub before : List SnapItem
  before = (get_or s.dirs i no_dir).1

  abbrev pub after : List Directory
  after = set s.dirs i ((get_or s.dirs i no_dir).0, items)

  -- the directory has the new list, and each other one what it had
  has_new : (same_key : (get_or s.dirs i no_dir).0.0 ≡ dir.0) (q : InodeId) → nat_eq dir.0 q.0 ≡ true → items_at q.0 after ≡ items
  has_new same_key q same = items_at-set dir.0 ((get_or s.dirs i no_dir).0, items) s.dirs i there same_key q.0 ∙ rw same refl

  has_old : (same_key : (get_or s.dirs i no_dir).0.0 ≡ dir.0) (q : InodeId) → nat_eq dir.0 q.0 ≡ false → items_at q.0 after ≡ items_at q.0 s.dirs
  has_old same_key q apart = items_at-set dir.0 ((get_or s.dirs i no_dir).0, items) s.dirs i there same_key q.0 ∙ rw apart refl

  had : (q : InodeId) → nat_eq dir.0 q.0 ≡ true → items_at q.0 s.dirs ≡ before
  had q same = ap (λ n. items_at n s.dirs) (sym (eqb-true dir.0 q.0 same)) ∙ snaps_in-there dir s i there

  -- a list with the same ids
  pub same_ids : (same_key : (get_or s.dirs i no_dir).0.0 ≡ dir.0) → ((id : SnapId) → list_any (has_id id) items ≡ list_any (has_id id) before) → (id : SnapId) (q : InodeId) → list_any (has_id id) (items_at q.0 after) ≡ list_any (has_id id) (items_at q.0 s.dirs)
  same_ids same_key ids id q = elim (cases_Bool (nat_eq dir.0 q.0)) [
    | inl same ↦ ap (list_any (has_id id)) (has_new same_key q same) ∙ ids id ∙ sym (ap (list_any (has_id id)) (had q same))
    | inr apart ↦ ap (list_any (has_id id)) (has_old same_key q apart)
  ]

-- no directory has an id above the ids that were issued
pub unused_id : (n : ℕ) (id : SnapId) → n < id.0 → (items : List SnapItem) → AllByRecursion (λ item. (0 < item.id.0) × (item.id.0 ≤ n)) items → NonePasses (has_id id) items
unused_id n id above [] all = tt
unused_id n id above (item ∷ items) all = (ne_eqb id.0 item.id.0 (λ same. omega (arith, all.0.1)), unused_id n id above items all.1)

pub unused_at : (n : ℕ) (id : SnapId) → n < id.0 → (q : ℕ) (dirs : List Directory) → AllByRecursion (λ d. IsHistory n d.1) dirs → list_any (has_id id) (items_at q dirs) ≡ false
unused_at n id above q [] all = refl
unused_at n id above q (d ∷ ds) all = elim (cases_Bool (nat_eq q d.0.0)) [
  | inl here ↦ rw here (any_nowhere (has_id id) d.1 (unused_id n id above d.1 all.0.in_range))
  | inr there ↦ rw there (unused_at n id above q ds all.1)
]

-- the owner of an id that a directory has is that directory
owner_is : (owners : List (SnapId × InodeId)) (s : Snapshots) (id : SnapId) (dir : InodeId) → IsIndexed owners s → list_any (has_id id) (snaps_in s dir) ≡ true → (q : InodeId) → is_owner q (owner_of owners id) ≡ nat_eq q.0 dir.0
owner_is owners s id dir indexed has q = by (owner_of owners id) (indexed id dir ∙ has)
  where
    by : (owner : Option InodeId) → is_owner dir owner ≡ true → is_owner q owner ≡ nat_eq q.0 dir.0
    by None is = absurd (cc)
    by (Some d) is = rw (eqb-true dir.0 d.0 is) refl

module _ (owners new_owners : List (SnapId × InodeId)) (s : Snapshots) (dir : InodeId) (i : ℕ) (there : PassesOnlyAt (is_of dir) s.dirs i) (same_key : (get_or s.dirs i no_dir).0.0 ≡ dir.0) (p : IsProper s) (indexed : IsIndexed owners s) where
  -- a new snapshot, whose id no directory has
  pub index_push : (item : SnapItem) → s.issued.0 < item.id.0 → SetsOwner owners new_owners item.id (Some dir)
      → (issued : SnapId) → IsIndexed new_owners (record { dirs = set s.dirs i ((get_or s.dirs i no_dir).0, (get_or s.dirs i no_dir).1 ++ item ∷ []); issued = issued })
  index_push item above sets issued id q = by (cases_Bool (nat_eq item.id.0 id.0)) (cases_Bool (nat_eq dir.0 q.0))
    where
      items : List SnapItem
      items = (get_or s.dirs i no_dir).1 ++ item ∷ []

      owner : (b : Bool) → nat_eq item.id.0 id.0 ≡ b → owner_of new_owners id ≡ (if b then Some dir else owner_of owners id)
      owner b is = sets id ∙ ap (λ c. if c then Some dir else owner_of owners id) is

      any_last : list_any (has_id id) ((get_or s.dirs i no_dir).1 ++ item ∷ []) ≡ (list_any (has_id id) (get_or s.dirs i no_dir).1 || (has_id id item || false))
      any_last = list_any-append (has_id id) (get_or s.dirs i no_dir).1 (item ∷ [])

      by : (nat_eq item.id.0 id.0 ≡ true) ⊎ (nat_eq item.id.0 id.0 ≡ false) → (nat_eq dir.0 q.0 ≡ true) ⊎ (nat_eq dir.0 q.0 ≡ false)
          → is_owner q (owner_of new_owners id) ≡ list_any (has_id id) (items_at q.0 (set s.dirs i ((get_or s.dirs i no_dir).0, (get_or s.dirs i no_dir).1 ++ item ∷ [])))
      by (inl new) (inl same) =
          ap (is_owner q) (owner true new) ∙ nat_eq_equiv.symm q.0 dir.0 ∙ same
          ∙ sym (ap (list_any (has_id id)) (has_new s dir i there ((get_or s.dirs i no_dir).1 ++ item ∷ []) same_key q same) ∙ any_last ∙ or_right (list_any (has_id id) (get_or s.dirs i no_dir).1) (has_id id item || false) (or_left (has_id id item) false (nat_eq_equiv.symm id.0 item.id.0 ∙ new)))
      by (inl new) (inr apart) =
          let higher : s.issued.0 < id.0 = omega (arith, eqb-true item.id.0 id.0 new) in
          ap (is_owner q) (owner true new) ∙ nat_eq_equiv.symm q.0 dir.0 ∙ apart
          ∙ sym (ap (list_any (has_id id)) (has_old s dir i there ((get_or s.dirs i no_dir).1 ++ item ∷ []) same_key q apart) ∙ unused_at s.issued.0 id higher q.0 s.dirs p.histories)
      by (inr old) (inl same) =
          let other : (has_id id item || false) ≡ false = rw (nat_eq_equiv.symm id.0 item.id.0 ∙ old) refl in
          ap (is_owner q) (owner false old) ∙ indexed id q ∙ ap (list_any (has_id id)) (had s dir i there ((get_or s.dirs i no_dir).1 ++ item ∷ []) q same)
          ∙ sym (ap (list_any (has_id id)) (has_new s dir i there ((get_or s.dirs i no_dir).1 ++ item ∷ []) same_key q same) ∙ any_last ∙ ap (λ b. list_any (has_id id) (get_or s.dirs i no_dir).1 || b) other ∙ or_false (list_any (has_id id) (get_or s.dirs i no_dir).1))
      by (inr old) (inr apart) =
          ap (is_owner q) (owner false old) ∙ indexed id q ∙ sym (ap (list_any (has_id id)) (has_old s dir i there ((get_or s.dirs i no_dir).1 ++ item ∷ []) same_key q apart))

  -- a snapshot that goes, with its id
  pub index_without : (name : List ℕ) (item : SnapItem) → find (has_name name) (get_or s.dirs i no_dir).1 ≡ Some item → IsHistory s.issued.0 (get_or s.dirs i no_dir).1 → SetsOwner owners new_owners item.id None
      → IsIndexed new_owners (record { dirs = set s.dirs i ((get_or s.dirs i no_dir).0, without name (get_or s.dirs i no_dir).1); issued = s.issued })
  index_without name item found h sets id q = by (cases_Bool (nat_eq item.id.0 id.0)) (cases_Bool (nat_eq dir.0 q.0))
    where
      items : List SnapItem
      items = (get_or s.dirs i no_dir).1

      place : (j : ℕ) × (slice_get (get_or s.dirs i no_dir).1 j ≡ Some item) × (has_name name item ≡ true)
      place = place_from_find (has_name name) (get_or s.dirs i no_dir).1 item found

      named : PassesOnlyAt (has_name name) (get_or s.dirs i no_dir).1 place.0
      named = passes_only_at (λ item. item.name) bytes_eq nat_list_eq_equiv name (get_or s.dirs i no_dir).1 place.0 item h.names place.1 place.2

      numbered : nat_eq id.0 item.id.0 ≡ true → PassesOnlyAt (has_id id) (get_or s.dirs i no_dir).1 place.0
      numbered same = passes_only_at number nat_eq nat_eq_equiv id.0 (get_or s.dirs i no_dir).1 place.0 item (rising_apart (map number (get_or s.dirs i no_dir).1) h.rise) place.1 same

      has : nat_eq id.0 item.id.0 ≡ true → list_any (has_id id) (snaps_in s dir) ≡ true
      has same = ap (list_any (has_id id)) (snaps_in-there dir s i there) ∙ any_there (has_id id) (get_or s.dirs i no_dir).1 place.0 (numbered same)

      owner : (b : Bool) → nat_eq item.id.0 id.0 ≡ b → owner_of new_owners id ≡ (if b then None else owner_of owners id)
      owner b is = sets id ∙ ap (λ c. if c then None else owner_of owners id) is

      by : (nat_eq item.id.0 id.0 ≡ true) ⊎ (nat_eq item.id.0 id.0 ≡ false) → (nat_eq dir.0 q.0 ≡ true) ⊎ (nat_eq dir.0 q.0 ≡ false)
          → is_owner q (owner_of new_owners id) ≡ list_any (has_id id) (items_at q.0 (set s.dirs i ((get_or s.dirs i no_dir).0, without name (get_or s.dirs i no_dir).1)))
      by (inl gone) (inl same) =
          ap (is_owner q) (owner true gone) ∙ sym (ap (list_any (has_id id)) (has_new s dir i there (without name (get_or s.dirs i no_dir).1) same_key q same) ∙ any_gone (has_name name) (has_id id) (get_or s.dirs i no_dir).1 place.0 named (numbered (nat_eq_equiv.symm id.0 item.id.0 ∙ gone)))
      by (inl gone) (inr apart) =
          ap (is_owner q) (owner true gone)
          ∙ sym (ap (list_any (has_id id)) (has_old s dir i there (without name (get_or s.dirs i no_dir).1) same_key q apart) ∙ sym (indexed id q) ∙ owner_is owners s id dir indexed (has (nat_eq_equiv.symm id.0 item.id.0 ∙ gone)) q ∙ nat_eq_equiv.symm q.0 dir.0 ∙ apart)
      by (inr kept) (inl same) =
          ap (is_owner q) (owner false kept) ∙ indexed id q ∙ ap (list_any (has_id id)) (had s dir i there (without name (get_or s.dirs i no_dir).1) q same)
          ∙ sym (ap (list_any (has_id id)) (has_new s dir i there (without name (get_or s.dirs i no_dir).1) same_key q same) ∙ any_left (has_name name) (has_id id) (get_or s.dirs i no_dir).1 place.0 item named place.1 (nat_eq_equiv.symm id.0 item.id.0 ∙ kept))
      by (inr kept) (inr apart) =
          ap (is_owner q) (owner false kept) ∙ indexed id q ∙ sym (ap (list_any (has_id id)) (has_old s dir i there (without name (get_or s.dirs i no_dir).1) same_key q apart))

-- ---- what is found through the index

abbrev pub paired : Directory → List (InodeId × SnapItem)
paired d = map (λ item. (d.0, item)) d.1

find_paired : (id : SnapId) (dir : InodeId) (items : List SnapItem) → find (λ p. has_id id p.1) (map {B = InodeId × SnapItem} (λ item. (dir, item)) items) ≡ option_map (λ item. (dir, item)) (find (has_id id) items)
find_paired id dir [] = refl
find_paired id dir (item ∷ items) = elim (cases_Bool (has_id id item)) [
  | inl here ↦ rw here refl
  | inr there ↦ rw there (find_paired id dir items)
]

any_paired : (test : SnapId → Bool) (dir : InodeId) (items : List SnapItem) → list_any (λ p. test p.1.id) (map {B = InodeId × SnapItem} (λ item. (dir, item)) items) ≡ list_any (λ item. test item.id) items
any_paired test dir [] = refl
any_paired test dir (item ∷ items) = ap (λ b. test item.id || b) (any_paired test dir items)

-- where each directory has the id exactly if it is this one, the id is found with this one
find_flat : (id : SnapId) (dir : InodeId) (dirs : List Directory) (items : List SnapItem) (item : SnapItem)
    → AllByRecursion (λ d. list_any (has_id id) d.1 ≡ nat_eq dir.0 d.0.0) dirs → option_map (λ (d : Directory). d.1) (find (is_of dir) dirs) ≡ Some items → find (has_id id) items ≡ Some item
    → find (λ p. has_id id p.1) (flat_map paired dirs) ≡ Some (dir, item)
find_flat id dir [] items item only has found = absurd (cc)
find_flat id dir (d ∷ ds) items item only has found = by (find_flat id dir ds items item only.1) (cases_Bool (is_of dir d))
  where
    by : (option_map (λ (d : Directory). d.1) (find (is_of dir) ds) ≡ Some items → find (has_id id) items ≡ Some item → find (λ p. has_id id p.1) (flat_map paired ds) ≡ Some (dir, item))
        → (is_of dir d ≡ true) ⊎ (is_of dir d ≡ false) → find (λ p. has_id id p.1) (paired d ++ flat_map paired ds) ≡ Some (dir, item)
    by rest (inl here) =
        let is : Some d.1 ≡ Some items = rw here at has in
        let same : d.1 ≡ items = cc in
        let same_dir : d.0 ≡ dir = ap (λ n. record { 0 = n }) (sym (eqb-true dir.0 d.0.0 here)) in
        find-append (λ p. has_id id p.1) (paired d) (flat_map paired ds)
        ∙ ap (λ o. option_or o (find (λ p. has_id id p.1) (flat_map paired ds))) (find_paired id d.0 d.1 ∙ ap (option_map (λ item. (d.0, item))) (ap (find (has_id id)) same ∙ found))
        ∙ ap (λ k. Some (k, item)) same_dir
    by rest (inr there) =
        let none : find (has_id id) d.1 ≡ None = find_nowhere (has_id id) d.1 (nowhere_from_any (has_id id) d.1 (only.0 ∙ there)) in
        find-append (λ p. has_id id p.1) (paired d) (flat_map paired ds)
        ∙ ap (λ o. option_or o (find (λ p. has_id id p.1) (flat_map paired ds))) (find_paired id d.0 d.1 ∙ ap (option_map (λ item. (d.0, item))) none)
        ∙ rest (rw there at has) found

find_flat-none : (id : SnapId) (dirs : List Directory) → AllByRecursion (λ d. list_any (has_id id) d.1 ≡ false) dirs → find (λ p. has_id id p.1) (flat_map paired dirs) ≡ None
find_flat-none id [] none = refl
find_flat-none id (d ∷ ds) none =
    let nothing : find (has_id id) d.1 ≡ None = find_nowhere (has_id id) d.1 (nowhere_from_any (has_id id) d.1 none.0) in
    find-append (λ p. has_id id p.1) (paired d) (flat_map paired ds)
    ∙ ap (λ o. option_or o (find (λ p. has_id id p.1) (flat_map paired ds))) (find_paired id d.0 d.1 ∙ ap (option_map (λ item. (d.0, item))) nothing)
    ∙ find_flat-none id ds none.1

module _ (owners : List (SnapId × InodeId)) (s : Snapshots) (p : IsProper s) (indexed : IsIndexed owners s) where
  -- what each directory's entry has, by the index
  each_entry : (id : SnapId) → AllByRecursion (λ d. list_any (has_id id) d.1 ≡ is_owner d.0 (owner_of owners id)) s.dirs
  each_entry id = all_weaker (λ d. items_at d.0.0 s.dirs ≡ d.1) (λ d. list_any (has_id id) d.1 ≡ is_owner d.0 (owner_of owners id)) (λ d own. sym (indexed id d.0 ∙ ap (list_any (has_id id)) own)) s.dirs (own_items s.dirs p.dirs_rise)

  pub live_at-none : (id : SnapId) → owner_of owners id ≡ None → live_at s id ≡ None
  live_at-none id none = find_flat-none id s.dirs (all_weaker (λ d. list_any (has_id id) d.1 ≡ is_owner d.0 (owner_of owners id)) (λ d. list_any (has_id id) d.1 ≡ false) (λ d is. is ∙ ap (is_owner d.0) none) s.dirs (each_entry id))

  pub live_at-some : (id : SnapId) (dir : InodeId) (items : List SnapItem) (item : SnapItem) → owner_of owners id ≡ Some dir → snaps_of s dir ≡ Some items → find (has_id id) items ≡ Some item → live_at s id ≡ Some (dir, item)
  live_at-some id dir items item owner has found = find_flat id dir s.dirs items item (all_weaker (λ d. list_any (has_id id) d.1 ≡ is_owner d.0 (owner_of owners id)) (λ d. list_any (has_id id) d.1 ≡ nat_eq dir.0 d.0.0) (λ d is. is ∙ ap (is_owner d.0) owner ∙ nat_eq_equiv.symm d.0.0 dir.0) s.dirs (each_entry id)) has found

  -- an id with an owner is among its owner's
  pub owner_has : (id : SnapId) (dir : InodeId) → owner_of owners id ≡ Some dir → list_any (has_id id) (snaps_in s dir) ≡ true
  owner_has id dir owner = sym (indexed id dir) ∙ ap (is_owner dir) owner ∙ nat_eq_equiv.refl dir.0

  -- no two directories have one id
  pub ids_apart : IdsApart s
  ids_apart id a b has_a has_b = ap (λ n. record { 0 = n }) (sym (eqb-true b.0 a.0 (sym (owner_is owners s id a indexed has_a b) ∙ indexed id b ∙ has_b)))

  -- so its directory is snapshottable, and has it
  pub owner_there : (id : SnapId) (dir : InodeId) → owner_of owners id ≡ Some dir → snaps_of s dir ≡ None → ⊥
  owner_there id dir owner none = true≢false (sym (owner_has id dir owner) ∙ ap (λ o. list_any (has_id id) (unwrap_or o [])) none)

  pub owner_finds : (id : SnapId) (dir : InodeId) (items : List SnapItem) → owner_of owners id ≡ Some dir → snaps_of s dir ≡ Some items → find (has_id id) items ≡ None → ⊥
  owner_finds id dir items owner has none = true≢false (sym (owner_has id dir owner) ∙ ap (λ o. list_any (has_id id) (unwrap_or o [])) has ∙ sym (some_find (has_id id) items) ∙ ap is_some none)

-- ---- ids between two bounds

-- an id with an owner that lies between
owned_between : (low high : SnapId) (owners : List (SnapId × InodeId)) → any_between low high owners ≡ true → (id : SnapId) × (q : InodeId) × (is_between low high id ≡ true) × (owner_of owners id ≡ Some q)
owned_between low high [] any = absurd (cc)
owned_between low high (e ∷ es) any = by (owned_between low high es) (or_cases (is_between low high e.0) (any_between low high es) any)
  where
    either : (id : SnapId) (q : InodeId) → owner_of es id ≡ Some q → (nat_eq id.0 e.0.0 ≡ true) ⊎ (nat_eq id.0 e.0.0 ≡ false) → (r : InodeId) × (owner_of (e ∷ es) id ≡ Some r)
    either id q owner (inl here) = (e.1, rw here refl)
    either id q owner (inr there) = (q, rw there owner)

    by : (any_between low high es ≡ true → (id : SnapId) × (q : InodeId) × (is_between low high id ≡ true) × (owner_of es id ≡ Some q))
        → (is_between low high e.0 ≡ true) ⊎ (any_between low high es ≡ true) → (id : SnapId) × (q : InodeId) × (is_between low high id ≡ true) × (owner_of (e ∷ es) id ≡ Some q)
    by rest (inl here) = (e.0, e.1, here, rw (nat_eq_equiv.refl e.0.0) refl)
    by rest (inr there) = let r = rest there in let o = either r.0 r.1 r.3 (cases_Bool (nat_eq r.0.0 e.0.0)) in (r.0, o.0, r.2, o.1)

between_owned : (low high : SnapId) (owners : List (SnapId × InodeId)) (id : SnapId) (q : InodeId) → owner_of owners id ≡ Some q → is_between low high id ≡ true → any_between low high owners ≡ true
between_owned low high [] id q owner there = absurd (cc)
between_owned low high (e ∷ es) id q owner there = by (between_owned low high es id q) (cases_Bool (nat_eq id.0 e.0.0))
  where
    by : (owner_of es id ≡ Some q → is_between low high id ≡ true → any_between low high es ≡ true) → (nat_eq id.0 e.0.0 ≡ true) ⊎ (nat_eq id.0 e.0.0 ≡ false) → any_between low high (e ∷ es) ≡ true
    by rest (inl same) =
        let same_id : id ≡ e.0 = ap (λ n. record { 0 = n }) (eqb-true id.0 e.0.0 same) in
        or_left (is_between low high e.0) (any_between low high es) (subst (λ k. is_between low high k ≡ true) same_id there)
    by rest (inr other) = or_right (is_between low high e.0) (any_between low high es) (rest (rw other at owner) there)

-- an id that lies between and that a directory has
any_flat : (low high id : SnapId) → is_between low high id ≡ true → (q : ℕ) (dirs : List Directory) → list_any (has_id id) (items_at q dirs) ≡ true → list_any (λ p. is_between low high p.1.id) (flat_map paired dirs) ≡ true
any_flat low high id between q [] any = absurd (cc)
any_flat low high id between q (d ∷ ds) any = by (any_flat low high id between q ds) (cases_Bool (nat_eq q d.0.0))
  where
    weaker : (item : SnapItem) → has_id id item ≡ true → is_between low high item.id ≡ true
    weaker item same = let same_id : id ≡ item.id = ap (λ n. record { 0 = n }) (eqb-true id.0 item.id.0 same) in subst (λ k. is_between low high k ≡ true) same_id between

    by : (list_any (has_id id) (items_at q ds) ≡ true → list_any (λ p. is_between low high p.1.id) (flat_map paired ds) ≡ true) → (nat_eq q d.0.0 ≡ true) ⊎ (nat_eq q d.0.0 ≡ false)
        → list_any (λ p. is_between low high p.1.id) (paired d ++ flat_map paired ds) ≡ true
    by rest (inl here) =
        list_any-append (λ p. is_between low high p.1.id) (paired d) (flat_map paired ds)
        ∙ or_left (list_any (λ p. is_between low high p.1.id) (paired d)) (list_any (λ p. is_between low high p.1.id) (flat_map paired ds)) (any_paired (is_between low high) d.0 d.1 ∙ any_weaker (has_id id) (λ item. is_between low high item.id) weaker d.1 (rw here at any))
    by rest (inr there) =
        list_any-append (λ p. is_between low high p.1.id) (paired d) (flat_map paired ds)
        ∙ or_right (list_any (λ p. is_between low high p.1.id) (paired d)) (list_any (λ p. is_between low high p.1.id) (flat_map paired ds)) (rest (rw there at any))

-- a snapshot that lies between, with its id
item_between : (low high : SnapId) (items : List SnapItem) → list_any (λ item. is_between low high item.id) items ≡ true → (id : SnapId) × (is_between low high id ≡ true) × (list_any (has_id id) items ≡ true)
item_between low high [] any = absurd (cc)
item_between low high (item ∷ items) any = by (item_between low high items) (or_cases (is_between low high item.id) (list_any (λ item. is_between low high item.id) items) any)
  where
    by : (list_any (λ item. is_between low high item.id) items ≡ true → (id : SnapId) × (is_between low high id ≡ true) × (list_any (has_id id) items ≡ true))
        → (is_between low high item.id ≡ true) ⊎ (list_any (λ item. is_between low high item.id) items ≡ true) → (id : SnapId) × (is_between low high id ≡ true) × (list_any (has_id id) (item ∷ items) ≡ true)
    by rest (inl here) = (item.id, here, or_left (has_id item.id item) (list_any (has_id item.id) items) (nat_eq_equiv.refl item.id.0))
    by rest (inr there) = let r = rest there in (r.0, r.1, or_right (has_id r.0 item) (list_any (has_id r.0) items) r.2)

-- where each directory's ids have owners
flat_owned : (low high : SnapId) (owners : List (SnapId × InodeId)) (dirs : List Directory) → AllByRecursion (λ d. (id : SnapId) → list_any (has_id id) d.1 ≡ true → (q : InodeId) × (owner_of owners id ≡ Some q)) dirs
    → list_any (λ p. is_between low high p.1.id) (flat_map paired dirs) ≡ true → any_between low high owners ≡ true
flat_owned low high owners [] owned any = absurd (cc)
flat_owned low high owners (d ∷ ds) owned any = by (flat_owned low high owners ds owned.1) (or_cases (list_any (λ p. is_between low high p.1.id) (paired d)) (list_any (λ p. is_between low high p.1.id) (flat_map paired ds)) (sym (list_any-append (λ p. is_between low high p.1.id) (paired d) (flat_map paired ds)) ∙ any))
  where
    by : (list_any (λ p. is_between low high p.1.id) (flat_map paired ds) ≡ true → any_between low high owners ≡ true)
        → (list_any (λ p. is_between low high p.1.id) (paired d) ≡ true) ⊎ (list_any (λ p. is_between low high p.1.id) (flat_map paired ds) ≡ true) → any_between low high owners ≡ true
    by rest (inl here) =
        let r = item_between low high d.1 (sym (any_paired (is_between low high) d.0 d.1) ∙ here) in
        let o = owned.0 r.0 r.2 in
        between_owned low high owners r.0 o.0 o.1 r.1
    by rest (inr there) = rest there

some_owner : (dir : InodeId) (owner : Option InodeId) → is_owner dir owner ≡ true → (q : InodeId) × (owner ≡ Some q)
some_owner dir None is = absurd (cc)
some_owner dir (Some q) is = (q, refl)

-- an id lies between in the index exactly where one does among the live snapshots
pub between_live : (owners : List (SnapId × InodeId)) (s : Snapshots) → IsProper s → IsIndexed owners s → (low high : SnapId) → any_between low high owners ≡ list_any (λ p. is_between low high p.1.id) (live s)
between_live owners s p indexed low high = same_bool (any_between low high owners) (list_any (λ p. is_between low high p.1.id) (live s))
    (λ any. let r = owned_between low high owners any in any_flat low high r.0 r.2 r.1.0 s.dirs (owner_has owners s p indexed r.0 r.1 r.3))
    (λ any. flat_owned low high owners s.dirs
    (all_weaker (λ d. items_at d.0.0 s.dirs ≡ d.1) (λ d. (id : SnapId) → list_any (has_id id) d.1 ≡ true → (q : InodeId) × (owner_of owners id ≡ Some q))
    (λ d own id has. some_owner d.0 (owner_of owners id) (indexed id d.0 ∙ ap (list_any (has_id id)) own ∙ has)) s.dirs (own_items s.dirs p.dirs_rise))
    any)

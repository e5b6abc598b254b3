-- The map from directories to their snapshots: what is found there, and what a change of its entries keeps.
use Rattle.std.proofs.Common.{◌≡◌, ℕ, zero, suc, ◌+◌, ◌<◌, ◌≤◌, Bool, true, false, not, ◌⊎◌, inl, inr, nat_eq, nat_lt, List, [], ◌∷◌, ◌++◌, length, map, filter, get_or, set, Option, None, Some, IfSome, is_some, unwrap_or, Result, OnOk, OnErr, slice_get, Ok, Err, ltb-true, refl, sym, ap, subst, ◌∙◌, arith, eqb-true, lt-ltb, Bor}
use Rattle.std.specs.List.{find, list_any, AllByRecursion}
use Rattle.std.specs.Option.{option_map, option_copied}
use Rattle.std.specs.Ordering.{nat_cmp, is_eq}
use Rattle.std.specs.declared.cmp.Ordering.TheVariants.{Less, Greater}
use Rattle.std.specs.Cmp.{nat_cmp_is, nat_eq_equiv}
use Rattle.std.specs.Map.{lookup, remove_entry, set_value}
use Rattle.std.specs.Map.Iter.{TakesFirst}
use Rattle.std.specs.BTreeMap.{insert_entry}
use Rattle.std.specs.BTreeMap.Range.{range_contains, entries_between}
use Rattle.std.specs.declared.ops.Bound.TheVariants.{Excluded, Unbounded}
use Rattle.std.proofs.lemmas.Bool.{cases_Bool}
use Rattle.std.proofs.lemmas.Bool.Decides.{nat_tests}
use Rattle.std.proofs.lemmas.Map.Keys.{IsDistinct-head}
use Rattle.hs_types.specs.declared.ids.InodeId.{InodeId}
use Rattle.hs_types.specs.declared.ids.SnapId.{SnapId}
use Rattle.hs_types.specs.declared.name.SnapItem.{SnapItem}
use Rattle.snapshot_manager.specs.Snapshots.{Directory, Snapshots, IsRising, NamesDiffer, IsHistory, IsProper, is_of, has_name, has_id, snaps_of, snaps_in, allowed, changed, without, renamed}
use Rattle.snapshot_manager.specs.Places.{NonePasses, PassesOnlyAt}
use Rattle.snapshot_manager.specs.Owners.{SetsOwner}
use Rattle.snapshot_manager.specs.Inside.{AllBelow}
use Rattle.snapshot_manager.proofs.Lists.{place_from_find, nowhere_from_find, passes_only_at, slice_get_in, there_in_range, none_like, filter_nowhere, all_weaker}
use Rattle.snapshot_manager.proofs.Rising.{rising_apart}
use Rattle.snapshot_manager.proofs.Directories.{key, items_at, items_at-insert, snaps_in-read}
use Rattle.snapshot_manager.proofs.Histories.{history_of, proper_insert}
use Rattle.snapshot_manager.proofs.Indexed.{index_same}
use Rattle.snapshot_manager.proofs.Changes.{Kept, kept_push, kept_back, kept_without, kept_unchanged, kept_answer, unchanged as left_alone, changed_to, changed_answer}

-- the test by which a directory is looked up
abbrev pub at_dir : InodeId → InodeId → Bool
at_dir dir k = is_eq (nat_cmp dir.0 k.0)

pub at_dir-eq : (dir k : InodeId) → at_dir dir k ≡ nat_eq dir.0 k.0
at_dir-eq dir k = grind (arith, nat_tests)

pub lookup_dir : (dir : InodeId) (dirs : List Directory) → lookup (at_dir dir) dirs ≡ option_map (λ d. d.1) (find (is_of dir) dirs)
lookup_dir dir [] = refl
lookup_dir dir (d ∷ ds) = by (lookup_dir dir ds) (cases_Bool (nat_eq dir.0 d.0.0))
  where
    by : lookup (at_dir dir) ds ≡ option_map (λ d. d.1) (find (is_of dir) ds) → (nat_eq dir.0 d.0.0 ≡ true) ⊎ (nat_eq dir.0 d.0.0 ≡ false) → lookup (at_dir dir) (d ∷ ds) ≡ option_map (λ d. d.1) (find (is_of dir) (d ∷ ds))
    by rest (inl here) = let at : at_dir dir d.0 ≡ true = at_dir-eq dir d.0 ∙ here in rw (at, here) refl
    by rest (inr there) = let at : at_dir dir d.0 ≡ false = at_dir-eq dir d.0 ∙ there in rw (at, there) rest

-- a directory that isn't found isn't there
pub absent : (dir : InodeId) (dirs : List Directory) → is_some (lookup (at_dir dir) dirs) ≡ false → NonePasses (is_of dir) dirs
absent dir dirs none = nowhere_from_find (is_of dir) dirs (by (find (is_of dir) dirs) (sym (ap is_some (lookup_dir dir dirs)) ∙ none))
  where
    by : (o : Option Directory) → is_some (option_map (λ (d : Directory). d.1) o) ≡ false → o ≡ None
    by None is = refl
    by (Some d) is = absurd (cc)

-- where a directory with these snapshots stands
pub record Found (dir : InodeId) (dirs : List Directory) (items : List SnapItem) : Type 0 where
  pub place : ℕ
  pub there : PassesOnlyAt (is_of dir) dirs place
  pub read : (dir, items) ≡ get_or dirs place (dir, items)

some_found : (items : List SnapItem) (o : Option Directory) → option_map (λ (d : Directory). d.1) o ≡ Some items → (d : Directory) × (o ≡ Some d) × (d.1 ≡ items)
some_found items None is = absurd (cc)
some_found items (Some d) is = (d, refl, cc)

pub found : (dir : InodeId) (dirs : List Directory) (items : List SnapItem) → IsRising (map key dirs) → lookup (at_dir dir) dirs ≡ Some items → Found dir dirs items
found dir dirs items up is =
    let f = some_found items (find (is_of dir) dirs) (sym (lookup_dir dir dirs) ∙ is) in
    let p = place_from_find (is_of dir) dirs f.0 f.1 in
    let there = passes_only_at key nat_eq nat_eq_equiv dir.0 dirs p.0 f.0 (rising_apart (map key dirs) up) p.1 p.2 in
    let own : f.0.0 ≡ dir = ap (λ n. record { 0 = n }) (sym (eqb-true dir.0 f.0.0.0 p.2)) in
    let same : f.0 ≡ (dir, items) = ap (λ k. (k, f.0.1)) own ∙ ap (λ l. (dir, l)) f.2 in
    let somes : Some (dir, items) ≡ Some (get_or dirs p.0 (dir, items)) = ap Some (sym same) ∙ sym p.1 ∙ slice_get_in dirs p.0 (dir, items) (there_in_range (is_of dir) dirs p.0 there) in
    record { place = p.0; there = there; read = cc }

set_there : (dir : InodeId) (dirs : List Directory) (i : ℕ) (new : List SnapItem) → PassesOnlyAt (is_of dir) dirs i → set_value (at_dir dir) dirs new ≡ set dirs i (dir, new)
set_there dir [] i new there = absurd there
set_there dir (d ∷ ds) zero new there =
    let at : at_dir dir d.0 ≡ true = at_dir-eq dir d.0 ∙ there.0 in
    let own : d.0 ≡ dir = ap (λ n. record { 0 = n }) (sym (eqb-true dir.0 d.0.0 there.0)) in
    rw at (ap (λ k. (k, new) ∷ ds) own)
set_there dir (d ∷ ds) (suc i) new there = let at : at_dir dir d.0 ≡ false = at_dir-eq dir d.0 ∙ there.0 in rw at (ap (λ l. d ∷ l) (set_there dir ds i new there.1))

-- ---- what was found has its history

pub history_some : (s : Snapshots) (dir : InodeId) (r : Option (Bor (List SnapItem))) → IsProper s → option_copied r ≡ snaps_of s dir → IfSome r (λ table. IsHistory s.issued.0 table.now)
history_some s dir None p is = tt
history_some s dir (Some table) p is = history_of s dir table.now p (sym is)

-- what a look-up found are the directory's snapshots
pub snaps_read : (t : Snapshots) (dir : InodeId) (r : Option (Bor (List SnapItem))) (table : Bor (List SnapItem)) → option_copied r ≡ snaps_of t dir → r ≡ Some table → snaps_in t dir ≡ table.now
snaps_read t dir r table value is = ap (λ o. unwrap_or o []) (sym value ∙ ap option_copied is)

pub few_read : (issued : ℕ) (r : Option (Bor (List SnapItem))) (table : Bor (List SnapItem)) → IfSome r (λ t. IsHistory issued t.now) → r ≡ Some table → length table.now ≤ 65536
few_read issued r table history is = (subst (λ o. IfSome o (λ (t : Bor (List SnapItem)). IsHistory issued t.now)) is history).few

pub below_next : (issued : ℕ) (id : SnapId) (items : List SnapItem) → IsHistory issued items → id.0 ≡ issued + 1 → AllBelow id items
below_next issued id items h next = all_weaker (λ item. (0 < item.id.0) × (item.id.0 ≤ issued)) (λ item. item.id.0 < id.0) (λ item p. omega (arith, p.1, next)) items h.in_range

pub without_none : (name : List ℕ) (items : List SnapItem) → find (has_name name) items ≡ None → without name items ≡ items
without_none name items none = filter_nowhere (has_name name) items (nowhere_from_find (has_name name) items none)

pub key_at : (dirs : List Directory) (i : ℕ) → slice_get (map (λ (d : Directory). d.0) dirs) i ≡ option_map (λ (d : Directory). d.0) (slice_get dirs i)
key_at [] i = refl
key_at (d ∷ ds) zero = refl
key_at (d ∷ ds) (suc i) = key_at ds i

-- ---- a change of what was found

module _ (owners : List (SnapId × InodeId)) (s : Snapshots) (kept : Kept owners s) (dir : InodeId) (items : List SnapItem) (is : lookup (at_dir dir) s.dirs ≡ Some items) where
  pub at : Found dir s.dirs items
  at = found dir s.dirs items kept.0.dirs_rise is

  written : (entries : List Directory) (new : List SnapItem) → entries ≡ set_value (at_dir dir) s.dirs new → entries ≡ set s.dirs at.place (dir, new)
  written entries new put = put ∙ set_there dir s.dirs at.place new at.there

  pub snaps_are : (t : Snapshots) → s ≡ t → snaps_in t dir ≡ items
  snaps_are t same = snaps_in-read dir s t at.place (dir, items) same at.there at.read

  pub pushed : (new_owners : List (SnapId × InodeId)) (item : SnapItem) (entries : List Directory) (new : List SnapItem) → entries ≡ set_value (at_dir dir) s.dirs new → new ≡ items ++ item ∷ [] → NamesDiffer new → item.id.0 ≡ s.issued.0 + 1
      → length items < 65536 → SetsOwner owners new_owners item.id (Some dir) → Kept new_owners (record { dirs = entries; issued = item.id })
  pushed new_owners item entries new put more apart next room sets =
      subst (λ l. Kept new_owners (record { dirs = l; issued = item.id })) (sym (written entries new put)) (kept_push owners s kept dir at.place at.there (dir, items) at.read new_owners item new more apart next room sets)

  pub put_back : (middle new_owners : List (SnapId × InodeId)) (id : SnapId) (entries : List Directory) (new : List SnapItem) → entries ≡ set_value (at_dir dir) s.dirs new → new ≡ items → s.issued.0 < id.0
      → SetsOwner owners middle id (Some dir) → SetsOwner middle new_owners id None → Kept new_owners (record { dirs = entries; issued = s.issued })
  put_back middle new_owners id entries new put same above came went =
      subst (λ l. Kept new_owners (record { dirs = l; issued = s.issued })) (sym (written entries new put)) (kept_back owners s kept dir at.place at.there (dir, items) at.read middle new_owners id new same above came went)

  pub left_out : (new_owners : List (SnapId × InodeId)) (name : List ℕ) (item : SnapItem) (entries : List Directory) (new : List SnapItem) → entries ≡ set_value (at_dir dir) s.dirs new → new ≡ without name items → NamesDiffer new
      → find (has_name name) items ≡ Some item → SetsOwner owners new_owners item.id None → Kept new_owners (record { dirs = entries; issued = s.issued })
  left_out new_owners name item entries new put less apart there sets =
      subst (λ l. Kept new_owners (record { dirs = l; issued = s.issued })) (sym (written entries new put)) (kept_without owners s kept dir at.place at.there (dir, items) at.read new_owners name item new less apart there sets)

  pub same : (entries : List Directory) (new : List SnapItem) → entries ≡ set_value (at_dir dir) s.dirs new → new ≡ items → Kept owners (record { dirs = entries; issued = s.issued })
  same entries new put unchanged = subst (λ l. Kept owners (record { dirs = l; issued = s.issued })) (sym (written entries new put)) (kept_unchanged owners s kept dir at.place at.there (dir, items) at.read new unchanged)

  pub answered : {T E : Type 0} (r : Result T E) (old name : List ℕ) (entries : List Directory) (new : List SnapItem) → entries ≡ set_value (at_dir dir) s.dirs new → OnOk r (new ≡ renamed old name items) → OnOk r (NamesDiffer new) → OnErr r (new ≡ items)
      → Kept owners (record { dirs = entries; issued = s.issued })
  answered r old name entries new put other apart unchanged =
      subst (λ l. Kept owners (record { dirs = l; issued = s.issued })) (sym (written entries new put)) (kept_answer owners s kept dir at.place at.there (dir, items) at.read r old name new other apart unchanged)

  pub is_changed : (t : Snapshots) (f : List SnapItem → List SnapItem) (entries : List Directory) (new : List SnapItem) → entries ≡ set_value (at_dir dir) s.dirs new → s ≡ t → new ≡ f items → record s { dirs = entries } ≡ changed dir f t
  is_changed t f entries new put same_s changes = ap (λ l. record s { dirs = l }) (written entries new put) ∙ changed_to owners s kept dir at.place at.there (dir, items) at.read t f new same_s changes

  pub is_same : (t : Snapshots) (entries : List Directory) (new : List SnapItem) → entries ≡ set_value (at_dir dir) s.dirs new → s ≡ t → new ≡ items → record s { dirs = entries } ≡ t
  is_same t entries new put same_s unchanged = ap (λ l. record s { dirs = l }) (written entries new put) ∙ kept_same ∙ same_s
    where
      kept_same : record s { dirs = set s.dirs at.place (dir, new) } ≡ s
      kept_same = left_alone owners s kept dir at.place at.there (dir, items) at.read new unchanged

  pub answer_changes : {T E : Type 0} (t : Snapshots) (f : List SnapItem → List SnapItem) (r : Result T E) (entries : List Directory) (new : List SnapItem) → entries ≡ set_value (at_dir dir) s.dirs new → s ≡ t → OnOk r (new ≡ f items) → OnOk r (record s { dirs = entries } ≡ changed dir f t)
  answer_changes t f r entries new put same_s changes =
      subst (λ l. OnOk r (record s { dirs = l } ≡ changed dir f t)) (sym (written entries new put)) (changed_answer owners s kept dir at.place at.there (dir, items) at.read t f r new same_s changes)

  pub answer_same : {T E : Type 0} (t : Snapshots) (r : Result T E) (entries : List Directory) (new : List SnapItem) → entries ≡ set_value (at_dir dir) s.dirs new → s ≡ t → OnErr r (new ≡ items) → OnErr r (record s { dirs = entries } ≡ t)
  answer_same t (Ok x) entries new put same_s unchanged = tt
  answer_same t (Err e) entries new put same_s unchanged = is_same t entries new put same_s unchanged

-- ---- directories that come and go

pub removed_is : (dir : InodeId) (dirs : List Directory) → IsRising (map key dirs) → remove_entry (at_dir dir) dirs ≡ filter (λ d. not (is_of dir d)) dirs
removed_is dir [] up = refl
removed_is dir (d ∷ ds) up = by (removed_is dir ds up.1) (cases_Bool (nat_eq dir.0 d.0.0))
  where
    by : remove_entry (at_dir dir) ds ≡ filter (λ d. not (is_of dir d)) ds → (nat_eq dir.0 d.0.0 ≡ true) ⊎ (nat_eq dir.0 d.0.0 ≡ false) → remove_entry (at_dir dir) (d ∷ ds) ≡ filter (λ d. not (is_of dir d)) (d ∷ ds)
    by rest (inl here) =
        let hit : at_dir dir d.0 ≡ true = at_dir-eq dir d.0 ∙ here in
        let none = none_like key nat_eq nat_eq_equiv dir.0 (key d) here ds (IsDistinct-head nat_eq (key d) (map key ds) (rising_apart (map key (d ∷ ds)) up)) in
        rw (hit, here) (sym (filter_nowhere (is_of dir) ds none))
    by rest (inr there) = let other : at_dir dir d.0 ≡ false = at_dir-eq dir d.0 ∙ there in rw (other, there) (ap (λ l. d ∷ l) rest)

above_kept : (n : ℕ) (dirs : List Directory) → AllByRecursion (λ m. n < m) (map key dirs) → filter (λ d. nat_lt n d.0.0) dirs ≡ dirs
above_kept n [] all = refl
above_kept n (d ∷ ds) all = rw (lt-ltb n d.0.0 all.0) (ap (λ l. d ∷ l) (above_kept n ds all.1))

none_below : (n : ℕ) (dirs : List Directory) → AllByRecursion (λ m. n < m) (map key dirs) → filter (λ d. nat_lt d.0.0 n) dirs ≡ []
none_below n [] all = refl
none_below n (d ∷ ds) all = let no : nat_lt d.0.0 n ≡ false = grind (arith, nat_tests, all.0) in rw no (none_below n ds all.1)

all_later : (n m : ℕ) → n < m → (ns : List ℕ) → AllByRecursion (λ k. m < k) ns → AllByRecursion (λ k. n < k) ns
all_later n m lt ns all = all_weaker (λ k. m < k) (λ k. n < k) (λ k above. omega (arith, above)) ns all

-- where a new directory stands, and what stands below it and above it
pub inserted_is : (dir : InodeId) (dirs : List Directory) → IsRising (map key dirs) → NonePasses (is_of dir) dirs
    → (insert_entry (λ (a b : InodeId). nat_cmp a.0 b.0) dirs dir [] ≡ filter (λ d. nat_lt d.0.0 dir.0) dirs ++ (dir, []) ∷ filter (λ d. nat_lt dir.0 d.0.0) dirs)
    × (filter (λ d. nat_lt d.0.0 dir.0) dirs ++ filter (λ d. nat_lt dir.0 d.0.0) dirs ≡ dirs)
inserted_is dir [] up none = (refl, refl)
inserted_is dir (d ∷ ds) up none = by (inserted_is dir ds up.1 none.1) (cases_Bool (nat_lt dir.0 d.0.0))
  where
    by : (insert_entry (λ (a b : InodeId). nat_cmp a.0 b.0) ds dir [] ≡ filter (λ d. nat_lt d.0.0 dir.0) ds ++ (dir, []) ∷ filter (λ d. nat_lt dir.0 d.0.0) ds) × (filter (λ d. nat_lt d.0.0 dir.0) ds ++ filter (λ d. nat_lt dir.0 d.0.0) ds ≡ ds)
        → (nat_lt dir.0 d.0.0 ≡ true) ⊎ (nat_lt dir.0 d.0.0 ≡ false)
        → (insert_entry (λ (a b : InodeId). nat_cmp a.0 b.0) (d ∷ ds) dir [] ≡ filter (λ d. nat_lt d.0.0 dir.0) (d ∷ ds) ++ (dir, []) ∷ filter (λ d. nat_lt dir.0 d.0.0) (d ∷ ds))
        × (filter (λ d. nat_lt d.0.0 dir.0) (d ∷ ds) ++ filter (λ d. nat_lt dir.0 d.0.0) (d ∷ ds) ≡ d ∷ ds)
    by rest (inl below) =
        let lt : dir.0 < d.0.0 = ltb-true dir.0 d.0.0 below in
        let less : nat_cmp dir.0 d.0.0 ≡ Less = sym (nat_cmp_is dir.0 d.0.0 Less lt) in
        let all : AllByRecursion (λ m. dir.0 < m) (map key (d ∷ ds)) = (lt, all_later dir.0 d.0.0 lt (map key ds) up.0) in
        let front : filter (λ (e : Directory). nat_lt e.0.0 dir.0) (d ∷ ds) ≡ [] = none_below dir.0 (d ∷ ds) all in
        let back : filter (λ (e : Directory). nat_lt dir.0 e.0.0) (d ∷ ds) ≡ d ∷ ds = above_kept dir.0 (d ∷ ds) all in
        (rw (less, front, back) refl, rw (front, back) refl)
    by rest (inr not_below) =
        let gt : d.0.0 < dir.0 = grind (arith, nat_tests, not_below, none.0) in
        let greater : nat_cmp dir.0 d.0.0 ≡ Greater = sym (nat_cmp_is dir.0 d.0.0 Greater gt) in
        let kept : nat_lt d.0.0 dir.0 ≡ true = lt-ltb d.0.0 dir.0 gt in
        (rw (greater, kept, not_below) (ap (λ l. d ∷ l) rest.0), rw (kept, not_below) (ap (λ l. d ∷ l) rest.1))

pub none_above : (dir : InodeId) (dirs : List Directory) → NonePasses (is_of dir) dirs → NonePasses (is_of dir) (filter (λ d. nat_lt dir.0 d.0.0) dirs)
none_above dir [] none = tt
none_above dir (d ∷ ds) none = elim (cases_Bool (nat_lt dir.0 d.0.0)) [
  | inl kept ↦ rw kept (none.0, none_above dir ds none.1)
  | inr gone ↦ rw gone (none_above dir ds none.1)
]

module _ (s : Snapshots) (dir : InodeId) (up : IsRising (map key s.dirs)) (none : is_some (lookup (at_dir dir) s.dirs) ≡ false) where
  pub nothing : snaps_of s dir ≡ None
  nothing = by (snaps_of s dir) (sym (ap is_some (lookup_dir dir s.dirs)) ∙ none)
    where
      by : (o : Option (List SnapItem)) → is_some o ≡ false → o ≡ None
      by None is = refl
      by (Some d) is = absurd (cc)

  pub none_in : (t : Snapshots) → s ≡ t → snaps_in t dir ≡ []
  none_in t same = ap (λ v. snaps_in v dir) (sym same) ∙ ap (λ o. unwrap_or o []) nothing

  pub allowed_is : record s { dirs = insert_entry (λ (a b : InodeId). nat_cmp a.0 b.0) s.dirs dir [] } ≡ allowed dir s
  allowed_is = rw nothing (ap (λ l. record s { dirs = l }) (inserted_is dir s.dirs up (absent dir s.dirs none)).0)

  pub kept_allowed : (owners : List (SnapId × InodeId)) → Kept owners s → NamesDiffer [] → Kept owners (record s { dirs = insert_entry (λ (a b : InodeId). nat_cmp a.0 b.0) s.dirs dir [] })
  kept_allowed owners kept apart =
      let none_there = absent dir s.dirs none in
      let is = inserted_is dir s.dirs up none_there in
      let below = filter (λ (d : Directory). nat_lt d.0.0 dir.0) s.dirs in
      let above = filter (λ (d : Directory). nat_lt dir.0 d.0.0) s.dirs in
      subst (λ l. Kept owners (record s { dirs = l })) (sym is.0) (
        proper_insert s dir kept.0 apart,
        index_same owners s (record s { dirs = below ++ (dir, []) ∷ above }) (λ id q. ap (list_any (has_id id)) (items_at-insert dir below above (none_above dir s.dirs none_there) q.0 ∙ ap (items_at q.0) is.1)) kept.1,
      )

pub allowed_there : (s : Snapshots) (dir : InodeId) → is_some (lookup (at_dir dir) s.dirs) ≡ true → allowed dir s ≡ s
allowed_there s dir some = let there : is_some (snaps_of s dir) ≡ true = sym (ap is_some (lookup_dir dir s.dirs)) ∙ some in rw there refl

pub inserted_with : (dir : InodeId) (dirs : List Directory) (table : List SnapItem) → table ≡ [] → insert_entry (λ (a b : InodeId). nat_cmp a.0 b.0) dirs dir table ≡ insert_entry (λ (a b : InodeId). nat_cmp a.0 b.0) dirs dir []
inserted_with dir dirs table empty = ap (insert_entry (λ (a b : InodeId). nat_cmp a.0 b.0) dirs dir) empty

-- ---- the first directory above one

after_is : (dir k : InodeId) → range_contains (λ (a b : InodeId). nat_cmp a.0 b.0) (Excluded dir) Unbounded k ≡ nat_lt dir.0 k.0
after_is dir k = grind (arith, nat_tests)

abbrev pub first_key : List Directory → Option InodeId
first_key [] = None
first_key (d ∷ ds) = Some d.0

pub first_after : (dir : InodeId) (dirs : List Directory) → first_key (entries_between (λ (a b : InodeId). nat_cmp a.0 b.0) (Excluded dir) Unbounded dirs) ≡ option_map (λ d. d.0) (find (λ d. nat_lt dir.0 d.0.0) dirs)
first_after dir [] = refl
first_after dir (d ∷ ds) = by (first_after dir ds) (cases_Bool (nat_lt dir.0 d.0.0))
  where
    by : first_key (entries_between (λ (a b : InodeId). nat_cmp a.0 b.0) (Excluded dir) Unbounded ds) ≡ option_map (λ d. d.0) (find (λ d. nat_lt dir.0 d.0.0) ds) → (nat_lt dir.0 d.0.0 ≡ true) ⊎ (nat_lt dir.0 d.0.0 ≡ false)
        → first_key (entries_between (λ (a b : InodeId). nat_cmp a.0 b.0) (Excluded dir) Unbounded (d ∷ ds)) ≡ option_map (λ d. d.0) (find (λ d. nat_lt dir.0 d.0.0) (d ∷ ds))
    by rest (inl here) = rw (after_is dir d.0, here) refl
    by rest (inr there) = rw (after_is dir d.0, there) rest

-- what a walk takes first
pub taken_none : {A : Type 0} (shows : A → Directory) (range left : List Directory) → TakesFirst shows range None left → first_key range ≡ None
taken_none shows range left taken = ap first_key taken.0

pub taken_some : {A : Type 0} (shows : A → Directory) (range left : List Directory) (x : A) → TakesFirst shows range (Some x) left → first_key range ≡ Some (shows x).0
taken_some shows range left x taken = ap first_key taken

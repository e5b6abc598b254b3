-- What holds of each directory's snapshots, and how each change keeps it.
use Rattle.std.proofs.Common.{◌≡◌, ℕ, ◌+◌, ◌-◌, ◌<◌, ◌≤◌, Bool, not, nat_lt, inl, inr, if◌then◌else◌, List, [], ◌∷◌, ◌++◌, length, map, filter, get_or, set, Some, slice_get, ap, subst, arith}
use Rattle.std.specs.Option.{option_map}
use Rattle.std.specs.List.{find, AllByRecursion, IsDistinct}
use Rattle.std.proofs.lemmas.Bool.{cases_Bool}
use Rattle.std.proofs.lemmas.List.{map-append, length-map, length_push}
use Rattle.hs_types.specs.declared.ids.InodeId.{InodeId}
use Rattle.hs_types.specs.declared.ids.SnapId.{SnapId}
use Rattle.hs_types.specs.declared.name.SnapItem.{SnapItem}
use Rattle.snapshot_manager.specs.Snapshots.{Directory, Snapshots, IdsRise, NamesDiffer, IsHistory, IsProper, has_name, is_of, snaps_of, without, renamed, disallowed, greatest, last_id}
use Rattle.snapshot_manager.specs.Places.{PassesOnlyAt}
use Rattle.snapshot_manager.proofs.Lists.{all_push, all_set, all_at, all_weaker, all_filter, slice_get_in, there_in_range}
use Rattle.snapshot_manager.proofs.Directories.{no_dir, key, key_there, keys-set, rising_insert}
use Rattle.snapshot_manager.proofs.Rising.{rising_filter}
use Rattle.snapshot_manager.proofs.Naming.{number, rising_push, numbers-renamed}

numbers_below : (n m : ℕ) → m < n → (items : List SnapItem) → AllByRecursion (λ item. (0 < item.id.0) × (item.id.0 ≤ m)) items → AllByRecursion (λ k. k < n) (map number items)
numbers_below n m lt [] all = tt
numbers_below n m lt (item ∷ items) all = (omega (arith, all.0.1), numbers_below n m lt items all.1)

length-filter-le : {X : Type 0} (keeps : X → Bool) (xs : List X) → length (filter keeps xs) ≤ length xs
length-filter-le keeps [] = omega arith
length-filter-le keeps (x ∷ xs) = elim (cases_Bool (keeps x)) [
  | inl kept ↦ rw kept (omega (arith, length-filter-le keeps xs))
  | inr gone ↦ rw gone (omega (arith, length-filter-le keeps xs))
]

-- later ids may be issued
pub history_later : (n m : ℕ) (items : List SnapItem) → n ≤ m → IsHistory n items → IsHistory m items
history_later n m items le h = record {
  names = h.names;
  rise = h.rise;
  in_range = all_weaker (λ item. (0 < item.id.0) × (item.id.0 ≤ n)) (λ item. (0 < item.id.0) × (item.id.0 ≤ m)) (λ item p. (p.0, omega (arith, p.1))) items h.in_range;
  few = h.few;
}

-- no names differ
pub none_differ : NamesDiffer []
unfolding IsDistinct
none_differ = tt

pub history_none : (n : ℕ) → NamesDiffer [] → IsHistory n []
history_none n apart = record { names = apart; rise = tt; in_range = tt; few = omega arith }

pub history_push : (n : ℕ) (items : List SnapItem) (item : SnapItem) → IsHistory n items → item.id.0 ≡ n + 1 → NamesDiffer (items ++ item ∷ []) → length items < 65536 → IsHistory item.id.0 (items ++ item ∷ [])
history_push n items item h next apart room =
    let later = history_later n item.id.0 items (omega (arith, next)) h in
    record {
      names = apart;
      rise = rw (map-append number items (item ∷ [])) (rising_push (map number items) item.id.0 h.rise (numbers_below item.id.0 n (omega (arith, next)) items h.in_range));
      in_range = all_push (λ i. (0 < i.id.0) × (i.id.0 ≤ item.id.0)) items item later.in_range (omega (arith, next), omega arith);
      few = omega (arith, length_push items item);
    }

pub history_without : (n : ℕ) (name : List ℕ) (items : List SnapItem) → IsHistory n items → NamesDiffer (without name items) → IsHistory n (without name items)
history_without n name items h apart = record {
  names = apart;
  rise = rising_filter number (λ item. not (has_name name item)) items h.rise;
  in_range = all_filter (λ item. (0 < item.id.0) × (item.id.0 ≤ n)) (λ item. not (has_name name item)) items h.in_range;
  few = omega (arith, h.few, length-filter-le (λ item. not (has_name name item)) items);
}

all_renamed : (P : ℕ → Type 0) (old new : List ℕ) (items : List SnapItem) → AllByRecursion (λ item. P item.id.0) items → AllByRecursion (λ item. P item.id.0) (renamed old new items)
all_renamed P old new [] all = tt
all_renamed P old new (item ∷ items) all = elim (cases_Bool (has_name old item)) [
  | inl here ↦ rw here (all.0, all_renamed P old new items all.1)
  | inr there ↦ rw there (all.0, all_renamed P old new items all.1)
]

pub history_renamed : (n : ℕ) (old new : List ℕ) (items : List SnapItem) → IsHistory n items → NamesDiffer (renamed old new items) → IsHistory n (renamed old new items)
history_renamed n old new items h apart = record {
  names = apart;
  rise = rw (numbers-renamed old new items) h.rise;
  in_range = all_renamed (λ k. (0 < k) × (k ≤ n)) old new items h.in_range;
  few = omega (arith, h.few, length-map items (λ (item : SnapItem). if has_name old item then record item { name = new } else item));
}

-- ---- all directories

pub history_at : (s : Snapshots) (dir : InodeId) (i : ℕ) → IsProper s → PassesOnlyAt (is_of dir) s.dirs i → IsHistory s.issued.0 (get_or s.dirs i no_dir).1
history_at s dir i p there = all_at (λ d. IsHistory s.issued.0 d.1) s.dirs i (get_or s.dirs i no_dir) p.histories (slice_get_in s.dirs i no_dir (there_in_range (is_of dir) s.dirs i there))

found_history : (n : ℕ) (dir : InodeId) (dirs : List Directory) (items : List SnapItem) → AllByRecursion (λ d. IsHistory n d.1) dirs → option_map (λ (d : Directory). d.1) (find (is_of dir) dirs) ≡ Some items → IsHistory n items
found_history n dir [] items all found = absurd (cc)
found_history n dir (d ∷ ds) items all found = elim (cases_Bool (is_of dir d)) [
  | inl here ↦ let is : Some d.1 ≡ Some items = rw here at found in let same : d.1 ≡ items = cc in subst (IsHistory n) same all.0
  | inr there ↦ found_history n dir ds items all.1 (rw there at found)
]

pub history_of : (s : Snapshots) (dir : InodeId) (items : List SnapItem) → IsProper s → snaps_of s dir ≡ Some items → IsHistory s.issued.0 items
history_of s dir items p found = found_history s.issued.0 dir s.dirs items p.histories found

pub proper_set : (s : Snapshots) (dir : InodeId) (i : ℕ) (issued : SnapId) (items : List SnapItem) → IsProper s → PassesOnlyAt (is_of dir) s.dirs i → s.issued.0 ≤ issued.0 → IsHistory issued.0 items
    → IsProper (record { dirs = set s.dirs i ((get_or s.dirs i no_dir).0, items); issued = issued })
proper_set s dir i issued items p there le h = record {
  dirs_rise = rw (keys-set dir.0 ((get_or s.dirs i no_dir).0, items) s.dirs i there (key_there dir s.dirs i there)) p.dirs_rise;
  histories = all_set (λ d. IsHistory issued.0 d.1) s.dirs i ((get_or s.dirs i no_dir).0, items) (all_weaker (λ d. IsHistory s.issued.0 d.1) (λ d. IsHistory issued.0 d.1) (λ d old. history_later s.issued.0 issued.0 d.1 le old) s.dirs p.histories) h;
}

pub proper_disallowed : (s : Snapshots) (dir : InodeId) → IsProper s → IsProper (disallowed dir s)
proper_disallowed s dir p = record {
  dirs_rise = rising_filter key (λ d. not (is_of dir d)) s.dirs p.dirs_rise;
  histories = all_filter (λ d. IsHistory s.issued.0 d.1) (λ d. not (is_of dir d)) s.dirs p.histories;
}

all_around : {X : Type 0} (P : X → Type 0) (xs : List X) (y : X) (ys : List X) → AllByRecursion P xs → P y → AllByRecursion P ys → AllByRecursion P (xs ++ y ∷ ys)
all_around P [] y ys front here back = (here, back)
all_around P (x ∷ xs) y ys front here back = (front.0, all_around P xs y ys front.1 here back)

pub proper_insert : (s : Snapshots) (dir : InodeId) → IsProper s → NamesDiffer [] → IsProper (record s { dirs = filter (λ d. nat_lt d.0.0 dir.0) s.dirs ++ (dir, []) ∷ filter (λ d. nat_lt dir.0 d.0.0) s.dirs })
proper_insert s dir p apart = record {
  dirs_rise = rising_insert dir s.dirs p.dirs_rise;
  histories = all_around (λ d. IsHistory s.issued.0 d.1) (filter (λ d. nat_lt d.0.0 dir.0) s.dirs) (dir, []) (filter (λ d. nat_lt dir.0 d.0.0) s.dirs)
      (all_filter (λ d. IsHistory s.issued.0 d.1) (λ d. nat_lt d.0.0 dir.0) s.dirs p.histories) (history_none s.issued.0 apart) (all_filter (λ d. IsHistory s.issued.0 d.1) (λ d. nat_lt dir.0 d.0.0) s.dirs p.histories);
}

-- ---- the greatest id

greatest_rising : (first : SnapItem) (items : List SnapItem) (item : SnapItem) → IdsRise (first ∷ items) → slice_get (first ∷ items) (length items) ≡ Some item → (greatest (first ∷ items) ≡ item.id.0) × (first.id.0 ≤ item.id.0)
greatest_rising first [] item up last = let same : first ≡ item = cc in (omega (arith, ap number same), omega (arith, ap number same))
greatest_rising first (second ∷ items) item up last =
    let rest = greatest_rising second items item up.1 last in
    (omega (arith, rest.0, rest.1, up.0.0), omega (arith, rest.1, up.0.0))

-- where ids rise, the snapshot that was made last has the greatest
pub last_id-rising : (items : List SnapItem) (item : SnapItem) → IdsRise items → slice_get items (length items - 1) ≡ Some item → last_id items ≡ Some item.id
last_id-rising [] item up last = absurd (cc)
last_id-rising (first ∷ items) item up last =
    let shorter : length (first ∷ items) - 1 ≡ length items = omega arith in
    let at : slice_get (first ∷ items) (length items) ≡ Some item = rw shorter at last in
    ap (λ n. Some (record { 0 = n })) (greatest_rising first items item up at).0

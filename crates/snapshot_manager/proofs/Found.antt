-- What is found by name, and which id is last, after each call.
use Rattle.std.proofs.Common.{◌≡◌, ℕ, zero, suc, ◌<◌, ◌≤◌, Bool, true, false, ◌&&◌, ◌==◌, cond, ◌⊎◌, inl, inr, nat_eq, if◌then◌else◌, List, [], ◌∷◌, ◌++◌, Option, Some, None, IsSome, length, get_or, refl, ap, subst, ◌∙◌, arith, eqb-true, max, unwrap_or}
use Rattle.std.specs.Prelude.{bytes_eq}
use Rattle.std.specs.Option.{option_map}
use Rattle.std.specs.List.{find, Contains}
use Rattle.std.proofs.lemmas.Bool.{cases_Bool}
use Rattle.std.proofs.lemmas.Bool.Decides.{Decides-eqb}
use Rattle.hs_types.specs.declared.ids.InodeId.{InodeId}
use Rattle.hs_types.specs.declared.ids.SnapId.{SnapId}
use Rattle.hs_types.specs.declared.name.SnapItem.{SnapItem}
use Rattle.snapshot_manager.specs.Snapshots.{Snapshots, NamesDiffer, IsProper, snaps_of, snaps_in, has_name, is_named, greatest, last_id, changed, added, without, renamed}
use Rattle.snapshot_manager.specs.LookUps.{named, id_named}
use Rattle.snapshot_manager.specs.Inside.{AllBelow}
use Rattle.snapshot_manager.proofs.Lists.{all_weaker, place_from_find, nowhere_from_any}
use Rattle.snapshot_manager.proofs.Naming.{named_there, find_push, find_without, find_renamed}
use Rattle.snapshot_manager.proofs.MemberLemmas.{snaps_in-changed, snaps_in-changed_there}
use Rattle.snapshot_manager.proofs.Histories.{history_of}

same_dir : (dir other : InodeId) → nat_eq dir.0 other.0 ≡ true → dir ≡ other
same_dir dir other is = ap (λ n. record { 0 = n }) (eqb-true dir.0 other.0 is)

pub after_add : (s : Snapshots) (dir other : InodeId) (item : SnapItem) (name : List ℕ) → IsSome (snaps_of s dir) → is_named item.name (snaps_in s dir) ≡ false
    → named (added dir item s) other name ≡ (if dir.0 == other.0 && bytes_eq item.name name then Some item else named s other name)
after_add s dir other item name some fresh = ap (find (has_name name)) (snaps_in-changed_there dir other (λ items. items ++ item ∷ []) s some) ∙ by (cases_Bool (nat_eq dir.0 other.0))
  where
    by : (nat_eq dir.0 other.0 ≡ true) ⊎ (nat_eq dir.0 other.0 ≡ false)
        → find (has_name name) (if nat_eq dir.0 other.0 then snaps_in s other ++ item ∷ [] else snaps_in s other) ≡ (if dir.0 == other.0 && bytes_eq item.name name then Some item else named s other name)
    by (inl same) = rw same (find_push name (snaps_in s other) item (subst (λ k. is_named item.name (snaps_in s k) ≡ false) (same_dir dir other same) fresh))
    by (inr apart) = rw apart refl

pub after_remove : (s : Snapshots) (dir other : InodeId) (gone name : List ℕ) → named (changed dir (without gone) s) other name ≡ (if dir.0 == other.0 && bytes_eq gone name then None else named s other name)
after_remove s dir other gone name = ap (find (has_name name)) (snaps_in-changed dir other (without gone) s refl) ∙ by (cases_Bool (nat_eq dir.0 other.0))
  where
    by : (nat_eq dir.0 other.0 ≡ true) ⊎ (nat_eq dir.0 other.0 ≡ false)
        → find (has_name name) (if nat_eq dir.0 other.0 then without gone (snaps_in s other) else snaps_in s other) ≡ (if dir.0 == other.0 && bytes_eq gone name then None else named s other name)
    by (inl same) = rw same (find_without gone name (snaps_in s other))
    by (inr apart) = rw apart refl

item_named : (id : SnapId) (o : Option SnapItem) → option_map (λ (item : SnapItem). item.id) o ≡ Some id → (item : SnapItem) × (o ≡ Some item) × (item.id ≡ id)
item_named id None is = absurd (cc)
item_named id (Some item) is = (item, refl, cc)

pub after_rename : (s : Snapshots) (dir other : InodeId) (old new name : List ℕ) (id : SnapId) → NamesDiffer (snaps_in s dir) → id_named s dir old ≡ Some id → is_named new (snaps_in s dir) ≡ false
    → id_named (changed dir (renamed old new) s) other name ≡ (if dir.0 == other.0 && bytes_eq old name then None else if dir.0 == other.0 && bytes_eq new name then Some id else id_named s other name)
after_rename s dir other old new name id apart has fresh = ap (λ l. option_map (λ (item : SnapItem). item.id) (find (has_name name) l)) (snaps_in-changed dir other (renamed old new) s refl) ∙ by (cases_Bool (nat_eq dir.0 other.0))
  where
    here : (items : List SnapItem) → NamesDiffer items → option_map (λ (item : SnapItem). item.id) (find (has_name old) items) ≡ Some id → is_named new items ≡ false
        → option_map (λ (item : SnapItem). item.id) (find (has_name name) (renamed old new items)) ≡ cond (bytes_eq old name) None (cond (bytes_eq new name) (Some id) (option_map (λ (item : SnapItem). item.id) (find (has_name name) items)))
    here items differ is free =
        let f = item_named id (find (has_name old) items) is in
        let p = place_from_find (has_name old) items f.0 f.1 in
        find_renamed old new name items p.0 f.0 (named_there old items p.0 f.0 differ p.1 p.2) p.1 (nowhere_from_any (has_name new) items free)
        ∙ ap (λ k. cond (bytes_eq old name) None (cond (bytes_eq new name) (Some k) (option_map (λ (item : SnapItem). item.id) (find (has_name name) items)))) f.2

    by : (nat_eq dir.0 other.0 ≡ true) ⊎ (nat_eq dir.0 other.0 ≡ false)
        → option_map (λ (item : SnapItem). item.id) (find (has_name name) (if nat_eq dir.0 other.0 then renamed old new (snaps_in s other) else snaps_in s other))
        ≡ (if dir.0 == other.0 && bytes_eq old name then None else if dir.0 == other.0 && bytes_eq new name then Some id else id_named s other name)
    by (inl same) =
        let is = same_dir dir other same in
        rw same (here (snaps_in s other) (subst (λ k. NamesDiffer (snaps_in s k)) is apart) (subst (λ k. id_named s k old ≡ Some id) is has) (subst (λ k. is_named new (snaps_in s k) ≡ false) is fresh))
    by (inr apart') = rw apart' refl

-- ---- the last id

greatest_last : (items : List SnapItem) (item : SnapItem) → AllBelow item.id items → greatest (items ++ item ∷ []) ≡ item.id.0
greatest_last [] item below = omega arith
greatest_last (x ∷ xs) item below = omega (arith, greatest_last xs item below.1, below.0)

last_push : (items : List SnapItem) (item : SnapItem) → AllBelow item.id items → last_id (items ++ item ∷ []) ≡ Some item.id
last_push [] item below = ap (λ n. Some (record { 0 = n })) (greatest_last [] item below)
last_push (x ∷ xs) item below = ap (λ n. Some (record { 0 = n })) (greatest_last (x ∷ xs) item below)

-- what a directory has was issued, so it is below a later id
all_below : (s : Snapshots) (dir : InodeId) (id : SnapId) → IsSome (snaps_of s dir) → IsProper s → s.issued.0 < id.0 → AllBelow id (snaps_in s dir)
all_below s dir id some p later = by (snaps_of s dir) some refl
  where
    by : (o : Option (List SnapItem)) → IsSome o → snaps_of s dir ≡ o → AllBelow id (unwrap_or o [])
    by None none is = absurd (cc)
    by (Some items) some is = all_weaker (λ item. (0 < item.id.0) × (item.id.0 ≤ s.issued.0)) (λ item. item.id.0 < id.0) (λ item h. omega (arith, h.1, later)) items (history_of s dir items p is).in_range

pub last_after_add : (s : Snapshots) (dir other : InodeId) (item : SnapItem) → IsSome (snaps_of s dir) → IsProper s → s.issued.0 < item.id.0 → last_id (snaps_in (added dir item s) other) ≡ (if dir.0 == other.0 then Some item.id else last_id (snaps_in s other))
last_after_add s dir other item some p later = ap last_id (snaps_in-changed_there dir other (λ items. items ++ item ∷ []) s some) ∙ by (cases_Bool (nat_eq dir.0 other.0))
  where
    by : (nat_eq dir.0 other.0 ≡ true) ⊎ (nat_eq dir.0 other.0 ≡ false) → last_id (if nat_eq dir.0 other.0 then snaps_in s other ++ item ∷ [] else snaps_in s other) ≡ (if dir.0 == other.0 then Some item.id else last_id (snaps_in s other))
    by (inl same) = rw same (last_push (snaps_in s other) item (subst (λ k. AllBelow item.id (snaps_in s k)) (same_dir dir other same) (all_below s dir item.id some p later)))
    by (inr apart) = rw apart refl

pub last_after_remove : (s : Snapshots) (dir other : InodeId) (name : List ℕ) → last_id (snaps_in (changed dir (without name) s) other) ≡ (if dir.0 == other.0 then last_id (without name (snaps_in s other)) else last_id (snaps_in s other))
last_after_remove s dir other name = ap last_id (snaps_in-changed dir other (without name) s refl) ∙ by (nat_eq dir.0 other.0)
  where
    by : (b : Bool) → last_id (if b then without name (snaps_in s other) else snaps_in s other) ≡ (if b then last_id (without name (snaps_in s other)) else last_id (snaps_in s other))
    by true = refl
    by false = refl

-- what is left is no greater, and has each item of another name
greatest_without : (name : List ℕ) (items : List SnapItem) → greatest (without name items) ≤ greatest items
greatest_without name [] = omega arith
greatest_without name (x ∷ xs) = elim (cases_Bool (has_name name x)) [
  | inl gone ↦ rw gone (omega (arith, greatest_without name xs))
  | inr left ↦ rw left (omega (arith, greatest_without name xs))
]

within_greatest : (name : List ℕ) (items : List SnapItem) (k : ℕ) (item : SnapItem) → k < length items → get_or items k item ≡ item → has_name name item ≡ false → item.id.0 ≤ greatest (without name items)
within_greatest name [] k item lt is other = absurd (omega (arith, lt))
within_greatest name (x ∷ xs) zero item lt is other =
    let same : x.id.0 ≡ item.id.0 = ap (λ (i : SnapItem). i.id.0) is in
    rw (ap (has_name name) is ∙ other) (omega (arith, same))
within_greatest name (x ∷ xs) (suc k) item lt is other =
    let rest = within_greatest name xs k item (omega (arith, lt)) is other in
    elim (cases_Bool (has_name name x)) [
      | inl gone ↦ rw gone rest
      | inr left ↦ rw left (omega (arith, rest))
    ]

-- a list has an item that it keeps
some_left : (name : List ℕ) (items : List SnapItem) (k : ℕ) (item : SnapItem) → k < length items → get_or items k item ≡ item → has_name name item ≡ false → last_id (without name items) ≡ Some (record { 0 = greatest (without name items) })
some_left name [] k item lt is other = absurd (omega (arith, lt))
some_left name (x ∷ xs) zero item lt is other = rw (ap (has_name name) is ∙ other) refl
some_left name (x ∷ xs) (suc k) item lt is other = elim (cases_Bool (has_name name x)) [
  | inl gone ↦ rw gone (some_left name xs k item (omega (arith, lt)) is other)
  | inr left ↦ rw left refl
]

last_is_greatest : (items : List SnapItem) (id : SnapId) → last_id items ≡ Some id → greatest items ≡ id.0
last_is_greatest [] id is = absurd (cc)
last_is_greatest (x ∷ xs) id is = ap (λ (o : Option SnapId). or_zero o) is
  where
    or_zero : Option SnapId → ℕ
    or_zero None = 0
    or_zero (Some id) = id.0

pub last_stays_after_remove : (s : Snapshots) (dir : InodeId) (name : List ℕ) (item : SnapItem) → Contains (snaps_in s dir) item → last_id (snaps_in s dir) ≡ Some item.id → has_name name item ≡ false
    → last_id (snaps_in (changed dir (without name) s) dir) ≡ Some item.id
last_stays_after_remove s dir name item one is other =
    last_after_remove s dir dir name ∙ rw ((Decides-eqb dir.0 dir.0).1 refl) (some_left name (snaps_in s dir) one.0 item one.1 one.2 other ∙ ap (λ n. Some (record { 0 = n })) same)
  where
    same : greatest (without name (snaps_in s dir)) ≡ item.id.0
    same = omega (arith, greatest_without name (snaps_in s dir), within_greatest name (snaps_in s dir) one.0 item one.1 one.2 other, last_is_greatest (snaps_in s dir) item.id is)

greatest_renamed : (old new : List ℕ) (items : List SnapItem) → greatest (renamed old new items) ≡ greatest items
greatest_renamed old new [] = refl
greatest_renamed old new (x ∷ xs) = elim (cases_Bool (has_name old x)) [
  | inl here ↦ rw here (ap (λ n. max x.id.0 n) (greatest_renamed old new xs))
  | inr there ↦ rw there (ap (λ n. max x.id.0 n) (greatest_renamed old new xs))
]

last_renamed : (old new : List ℕ) (items : List SnapItem) → last_id (renamed old new items) ≡ last_id items
last_renamed old new [] = refl
last_renamed old new (x ∷ xs) = ap (λ n. Some (record { 0 = n })) (greatest_renamed old new (x ∷ xs))

pub last_after_rename : (s : Snapshots) (dir other : InodeId) (old new : List ℕ) → last_id (snaps_in (changed dir (renamed old new) s) other) ≡ last_id (snaps_in s other)
last_after_rename s dir other old new = ap last_id (snaps_in-changed dir other (renamed old new) s refl) ∙ by (nat_eq dir.0 other.0)
  where
    by : (b : Bool) → last_id (if b then renamed old new (snaps_in s other) else snaps_in s other) ≡ last_id (snaps_in s other)
    by true = last_renamed old new (snaps_in s other)
    by false = refl

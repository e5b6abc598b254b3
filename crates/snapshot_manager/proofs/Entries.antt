-- A table's entries: snapshots under their ids, and ids under their names.
use Rattle.std.proofs.Common.{◌≡◌, ℕ, zero, suc, ◌<◌, Bool, true, false, cond, ◌⊎◌, inl, inr, nat_eq, List, [], ◌∷◌, ◌++◌, get_or, set, Option, None, Some, is_some, IsSome, slice_get, refl, sym, ap, subst, ◌∙◌, arith, eqb-true, ne_eqb, length, Bor, MutBor}
use Rattle.std.specs.Prelude.{bytes_eq}
use Rattle.std.specs.List.{find, remove, AllByRecursion}
use Rattle.std.specs.Option.{option_map, option_copied, option_copied_mut}
use Rattle.std.specs.Ordering.{nat_cmp, is_eq}
use Rattle.std.specs.declared.cmp.Ordering.TheVariants.{Greater}
use Rattle.std.specs.Cmp.{nat_cmp_is, nat_eq_equiv}
use Rattle.std.specs.Map.{lookup, remove_entry, set_value, values_of}
use Rattle.std.specs.Map.Iter.{TakesFirst}
use Rattle.std.specs.BTreeMap.{insert_entry}
use Rattle.std.specs.BTreeMap.Range.{range_contains, entries_between}
use Rattle.std.specs.declared.ops.Bound.TheVariants.{Excluded, Unbounded}
use Rattle.std.proofs.lemmas.Bool.{cases_Bool}
use Rattle.std.proofs.lemmas.Bool.Decides.{nat_tests}
use Rattle.std.proofs.lemmas.List.{map-append}
use Rattle.hs_types.specs.declared.ids.SnapId.{SnapId}
use Rattle.hs_types.specs.declared.name.SnapItem.{SnapItem}
use Rattle.snapshot_manager.specs.Snapshots.{has_name, has_id, is_after, is_named, without, renamed}
use Rattle.snapshot_manager.specs.Places.{PassesOnlyAt}
use Rattle.snapshot_manager.specs.Inside.{AllBelow, IsTable}
use Rattle.snapshot_manager.proofs.Lists.{all_push, some_find, filter_there, map_there, nowhere_from_any, slice_get_in, there_in_range, found_passes}
use Rattle.snapshot_manager.proofs.Naming.{Stands, stands, rise_push, rise_without, differ_push, differ_without, differ_renamed, find_push, find_without, find_renamed, numbers-renamed}

abbrev pub Entry : Type 0
Entry = SnapId × SnapItem

-- each entry has its item's id as its key
abbrev pub KeyedById : List Entry → Type 0
KeyedById es = AllByRecursion (λ e. e.0 ≡ e.1.id) es

-- the test by which an id is looked up
abbrev pub is_at : SnapId → SnapId → Bool
is_at id k = is_eq (nat_cmp id.0 k.0)

pub is_at-eq : (id k : SnapId) → is_at id k ≡ nat_eq id.0 k.0
is_at-eq id k = grind (arith, nat_tests)

pub lookup_id : (id : SnapId) (es : List Entry) → KeyedById es → lookup (is_at id) es ≡ find (has_id id) (values_of es)
lookup_id id [] keyed = refl
lookup_id id (e ∷ es) keyed = rw (is_at-eq id e.0, keyed.0) (ap (cond (nat_eq id.0 e.1.id.0) (Some e.1)) (lookup_id id es keyed.1))

pub some_copied : {X : Type 0} (r : Option (Bor X)) → is_some (option_copied r) ≡ true → IsSome r
some_copied None some = some
some_copied (Some x) some = some

pub some_copied_mut : {X : Type 0} (r : Option (MutBor X)) → is_some (option_copied_mut r) ≡ true → IsSome r
some_copied_mut None some = some
some_copied_mut (Some x) some = some

-- what a table's names tell of its items
pub is_named-names : (names : List (List ℕ × SnapId)) (es : List Entry) (name : List ℕ) → IsTable names es → is_some (lookup (bytes_eq name) names) ≡ is_named name (values_of es)
is_named-names names es name t = ap is_some (t.found name) ∙ some_map (find (has_name name) (values_of es)) ∙ some_find (has_name name) (values_of es)
  where
    some_map : (o : Option SnapItem) → is_some (option_map (λ (item : SnapItem). item.id) o) ≡ is_some o
    some_map None = refl
    some_map (Some x) = refl

pub table_stands : (names : List (List ℕ × SnapId)) (es : List Entry) (name : List ℕ) (id : SnapId) → IsTable names es → Some id ≡ lookup (bytes_eq name) names → Stands name id (values_of es)
table_stands names es name id t is = stands name id (values_of es) t.rise t.differ (is ∙ t.found name)

-- ---- the first id above one

after_is : (id k : SnapId) → range_contains (λ (a b : SnapId). nat_cmp a.0 b.0) (Excluded id) Unbounded k ≡ is_after id (record { id = k; tick = 0; name = [] })
after_is id k = grind (arith, nat_tests)

abbrev pub first_value : List Entry → Option SnapItem
first_value [] = None
first_value (e ∷ es) = Some e.1

pub first_after : (id : SnapId) (es : List Entry) → KeyedById es → first_value (entries_between (λ (a b : SnapId). nat_cmp a.0 b.0) (Excluded id) Unbounded es) ≡ find (is_after id) (values_of es)
first_after id [] keyed = refl
first_after id (e ∷ es) keyed = by (first_after id es keyed.1) (cases_Bool (is_after id e.1))
  where
    same : range_contains (λ (a b : SnapId). nat_cmp a.0 b.0) (Excluded id) Unbounded e.0 ≡ is_after id e.1
    same = after_is id e.0 ∙ ap (λ (k : SnapId). is_after id (record { id = k; tick = 0; name = [] })) keyed.0

    by : first_value (entries_between (λ (a b : SnapId). nat_cmp a.0 b.0) (Excluded id) Unbounded es) ≡ find (is_after id) (values_of es) → (is_after id e.1 ≡ true) ⊎ (is_after id e.1 ≡ false)
        → first_value (entries_between (λ (a b : SnapId). nat_cmp a.0 b.0) (Excluded id) Unbounded (e ∷ es)) ≡ find (is_after id) (values_of (e ∷ es))
    by rest (inl here) = rw (same, here) refl
    by rest (inr there) = rw (same, there) rest

-- what a walk takes first
pub taken_none : {A : Type 0} (shows : A → Entry) (range left : List Entry) → TakesFirst shows range None left → first_value range ≡ None
taken_none shows range left taken = ap first_value taken.0

pub taken_some : {A : Type 0} (shows : A → Entry) (range left : List Entry) (x : A) → TakesFirst shows range (Some x) left → first_value range ≡ Some (shows x).1
taken_some shows range left x taken = ap first_value taken

-- ---- a snapshot more

pub insert_last : (es : List Entry) (id : SnapId) (item : SnapItem) → KeyedById es → AllBelow id (values_of es) → insert_entry (λ (a b : SnapId). nat_cmp a.0 b.0) es id item ≡ es ++ (id, item) ∷ []
insert_last [] id item keyed below = refl
insert_last (e ∷ es) id item keyed below =
    let lower : e.0.0 < id.0 = rw keyed.0 below.0 in
    let greater : nat_cmp id.0 e.0.0 ≡ Greater = sym (nat_cmp_is id.0 e.0.0 Greater lower) in
    rw greater (ap (λ l. e ∷ l) (insert_last es id item keyed.1 below.1))

-- and it is taken back
pub remove_last : (es : List Entry) (id : SnapId) (item : SnapItem) → KeyedById es → AllBelow id (values_of es) → remove_entry (is_at id) (es ++ (id, item) ∷ []) ≡ es
remove_last [] id item keyed below = let here : is_at id id ≡ true = is_at-eq id id ∙ nat_eq_equiv.refl id.0 in rw here refl
remove_last (e ∷ es) id item keyed below =
    let lower : e.0.0 < id.0 = rw keyed.0 below.0 in
    let other : is_at id e.0 ≡ false = is_at-eq id e.0 ∙ ne_eqb id.0 e.0.0 (λ same. omega (arith, lower)) in
    rw other (ap (λ l. e ∷ l) (remove_last es id item keyed.1 below.1))

pub put_back : (es more left : List Entry) (id : SnapId) (item : SnapItem) → KeyedById es → AllBelow id (values_of es) → more ≡ insert_entry (λ (a b : SnapId). nat_cmp a.0 b.0) es id item → left ≡ remove_entry (is_at id) more → left ≡ es
put_back es more left id item keyed below put taken = taken ∙ ap (remove_entry (is_at id)) (put ∙ insert_last es id item keyed below) ∙ remove_last es id item keyed below

pub values_last : (es : List Entry) (e : Entry) → values_of (es ++ e ∷ []) ≡ values_of es ++ e.1 ∷ []
values_last es e = map-append (λ (x : Entry). x.1) es (e ∷ [])

map_cond : (b : Bool) (o p : Option SnapItem) → option_map (λ (item : SnapItem). item.id) (cond b o p) ≡ cond b (option_map (λ item. item.id) o) (option_map (λ item. item.id) p)
map_cond true o p = refl
map_cond false o p = refl

-- the names after an update, and the entries with one more at the end
pub table_push : (names new_names : List (List ℕ × SnapId)) (es : List Entry) (key : List ℕ) (item : SnapItem) → IsTable names es → key ≡ item.name → is_named item.name (values_of es) ≡ false → AllBelow item.id (values_of es)
    → ((q : List ℕ) → lookup (bytes_eq q) new_names ≡ cond (bytes_eq key q) (Some item.id) (lookup (bytes_eq q) names)) → IsTable new_names (es ++ (item.id, item) ∷ [])
table_push names new_names es key item t same fresh below updated = record {
  keyed = all_push (λ e. e.0 ≡ e.1.id) es (item.id, item) t.keyed refl;
  rise = rw (values_last es (item.id, item)) (rise_push (values_of es) item t.rise below);
  differ = rw (values_last es (item.id, item)) (differ_push (values_of es) item t.differ fresh);
  found = λ q.
      updated q ∙ ap (λ k. cond (bytes_eq k q) (Some item.id) (lookup (bytes_eq q) names)) same ∙ ap (cond (bytes_eq item.name q) (Some item.id)) (t.found q)
      ∙ sym (map_cond (bytes_eq item.name q) (Some item) (find (has_name q) (values_of es)))
      ∙ sym (ap (option_map (λ (item : SnapItem). item.id)) (ap (find (has_name q)) (values_last es (item.id, item)) ∙ find_push q (values_of es) item fresh));
}

-- ---- a snapshot less

values_remove : (id : SnapId) (es : List Entry) (i : ℕ) → KeyedById es → PassesOnlyAt (has_id id) (values_of es) i → values_of (remove_entry (is_at id) es) ≡ remove (values_of es) i
values_remove id [] i keyed there = absurd there
values_remove id (e ∷ es) zero keyed there = let here : is_at id e.0 ≡ true = is_at-eq id e.0 ∙ ap (λ (k : SnapId). nat_eq id.0 k.0) keyed.0 ∙ there.0 in rw here refl
values_remove id (e ∷ es) (suc i) keyed there =
    let other : is_at id e.0 ≡ false = is_at-eq id e.0 ∙ ap (λ (k : SnapId). nat_eq id.0 k.0) keyed.0 ∙ there.0 in
    rw other (ap (λ l. e.1 ∷ l) (values_remove id es i keyed.1 there.1))

keyed_remove : (test : SnapId → Bool) (es : List Entry) → KeyedById es → KeyedById (remove_entry test es)
keyed_remove test [] keyed = tt
keyed_remove test (e ∷ es) keyed = elim (cases_Bool (test e.0)) [
  | inl passes ↦ rw passes keyed.1
  | inr fails ↦ rw fails (keyed.0, keyed_remove test es keyed.1)
]

pub values_without : (name : List ℕ) (id : SnapId) (es : List Entry) → KeyedById es → Stands name id (values_of es) → values_of (remove_entry (is_at id) es) ≡ without name (values_of es)
values_without name id es keyed there = values_remove id es there.place keyed there.numbered ∙ sym (filter_there (has_name name) (values_of es) there.place there.named)

pub table_without : (names new_names : List (List ℕ × SnapId)) (es : List Entry) (name : List ℕ) (id : SnapId) → IsTable names es → Stands name id (values_of es)
    → ((q : List ℕ) → lookup (bytes_eq q) new_names ≡ cond (bytes_eq name q) None (lookup (bytes_eq q) names)) → IsTable new_names (remove_entry (is_at id) es)
table_without names new_names es name id t there updated =
    let left = values_without name id es t.keyed there in
    record {
      keyed = keyed_remove (is_at id) es t.keyed;
      rise = rw left (rise_without name (values_of es) t.rise);
      differ = rw left (differ_without name (values_of es) t.differ);
      found = λ q.
          updated q ∙ ap (cond (bytes_eq name q) None) (t.found q) ∙ sym (map_cond (bytes_eq name q) None (find (has_name q) (values_of es)))
          ∙ sym (ap (option_map (λ (item : SnapItem). item.id)) (ap (find (has_name q)) left ∙ find_without name q (values_of es)));
    }

-- ---- another name

values_set : (id : SnapId) (es : List Entry) (i : ℕ) (w : SnapItem) → KeyedById es → PassesOnlyAt (has_id id) (values_of es) i → values_of (set_value (is_at id) es w) ≡ set (values_of es) i w
values_set id [] i w keyed there = absurd there
values_set id (e ∷ es) zero w keyed there = let here : is_at id e.0 ≡ true = is_at-eq id e.0 ∙ ap (λ (k : SnapId). nat_eq id.0 k.0) keyed.0 ∙ there.0 in rw here refl
values_set id (e ∷ es) (suc i) w keyed there =
    let other : is_at id e.0 ≡ false = is_at-eq id e.0 ∙ ap (λ (k : SnapId). nat_eq id.0 k.0) keyed.0 ∙ there.0 in
    rw other (ap (λ l. e.1 ∷ l) (values_set id es i w keyed.1 there.1))

keyed_set : (w : SnapItem) (es : List Entry) → KeyedById es → KeyedById (set_value (is_at w.id) es w)
keyed_set w [] keyed = tt
keyed_set w (e ∷ es) keyed = elim (cases_Bool (is_at w.id e.0)) [
  | inl here ↦ rw here (ap (λ n. record { 0 = n }) (sym (eqb-true w.id.0 e.0.0 (sym (is_at-eq w.id e.0) ∙ here))), keyed.1)
  | inr other ↦ rw other (keyed.0, keyed_set w es keyed.1)
]

same_get : (items : List SnapItem) (i : ℕ) (item : SnapItem) → i < length items → slice_get items i ≡ Some item → get_or items i item ≡ item
same_get items i item lt at = let is : Some (get_or items i item) ≡ Some item = sym (slice_get_in items i item lt) ∙ at in cc

pub set_renamed : (old new : List ℕ) (id : SnapId) (items : List SnapItem) (there : Stands old id items) → set items there.place (record there.item { name = new }) ≡ renamed old new items
set_renamed old new id items there =
    ap (λ (z : SnapItem). set items there.place (record z { name = new })) (sym (same_get items there.place there.item (there_in_range (has_name old) items there.place there.named) there.at))
    ∙ sym (map_there (has_name old) (λ item. record item { name = new }) items there.place there.item there.named)

pub values_renamed : (old new : List ℕ) (id : SnapId) (es : List Entry) (item : SnapItem) → KeyedById es → Stands old id (values_of es) → lookup (is_at id) es ≡ Some item → values_of (set_value (is_at id) es (record item { name = new })) ≡ renamed old new (values_of es)
values_renamed old new id es item keyed there at =
    let is : Some item ≡ Some there.item = sym at ∙ lookup_id id es keyed ∙ there.by_id in
    let same : item ≡ there.item = cc in
    values_set id es there.place (record item { name = new }) keyed there.numbered ∙ ap (λ (z : SnapItem). set (values_of es) there.place (record z { name = new })) same ∙ set_renamed old new id (values_of es) there

-- the names after the new one came and the old one went
pub names_renamed : (names more left : List (List ℕ × SnapId)) (old key new : List ℕ) (id : SnapId) → key ≡ new → ((q : List ℕ) → lookup (bytes_eq q) more ≡ cond (bytes_eq key q) (Some id) (lookup (bytes_eq q) names))
    → ((q : List ℕ) → lookup (bytes_eq q) left ≡ cond (bytes_eq old q) None (lookup (bytes_eq q) more)) → (q : List ℕ) → lookup (bytes_eq q) left ≡ cond (bytes_eq old q) None (cond (bytes_eq new q) (Some id) (lookup (bytes_eq q) names))
names_renamed names more left old key new id same put taken q = taken q ∙ ap (cond (bytes_eq old q) None) (put q ∙ ap (λ k. cond (bytes_eq k q) (Some id) (lookup (bytes_eq q) names)) same)

pub table_renamed : (names new_names : List (List ℕ × SnapId)) (es : List Entry) (old new : List ℕ) (id : SnapId) (item : SnapItem) → IsTable names es → Stands old id (values_of es) → lookup (is_at id) es ≡ Some item → is_named new (values_of es) ≡ false
    → ((q : List ℕ) → lookup (bytes_eq q) new_names ≡ cond (bytes_eq old q) None (cond (bytes_eq new q) (Some id) (lookup (bytes_eq q) names))) → IsTable new_names (set_value (is_at id) es (record item { name = new }))
table_renamed names new_names es old new id item t there at fresh updated =
    let is : Some item ≡ Some there.item = sym at ∙ lookup_id id es t.keyed ∙ there.by_id in
    let same : item ≡ there.item = cc in
    let own : item.id ≡ id = ap (λ (z : SnapItem). z.id) same ∙ ap (λ n. record { 0 = n }) (sym (eqb-true id.0 there.item.id.0 (found_passes (has_id id) (values_of es) there.item there.by_id))) in
    let left = values_renamed old new id es item t.keyed there at in
    let none = nowhere_from_any (has_name new) (values_of es) fresh in
    record {
      keyed = subst (λ (k : SnapId). KeyedById (set_value (is_at k) es (record item { name = new }))) own (keyed_set (record item { name = new }) es t.keyed);
      rise = rw (left, numbers-renamed old new (values_of es)) t.rise;
      differ = rw left (differ_renamed old new (values_of es) there.place there.named none t.differ);
      found = λ q.
          updated q ∙ ap (λ o. cond (bytes_eq old q) None (cond (bytes_eq new q) (Some id) o)) (t.found q)
          ∙ ap (λ (k : SnapId). cond (bytes_eq old q) None (cond (bytes_eq new q) (Some k) (option_map (λ (item : SnapItem). item.id) (find (has_name q) (values_of es))))) (sym own ∙ ap (λ (z : SnapItem). z.id) same)
          ∙ sym (ap (λ l. option_map (λ (item : SnapItem). item.id) (find (has_name q) l)) left ∙ find_renamed old new q (values_of es) there.place there.item there.named there.at none);
    }

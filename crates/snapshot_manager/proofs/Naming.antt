-- A directory's snapshots by their names and ids: what each change leaves of what is found.
use Rattle.std.proofs.Common.{◌≡◌, ℕ, zero, suc, ◌<◌, Bool, true, false, not, cond, ◌⊎◌, nat_eq, inl, inr, List, [], ◌∷◌, ◌++◌, map, filter, Option, Some, None, slice_get, refl, sym, ap, ◌∙◌}
use Rattle.std.specs.Prelude.{bytes_eq}
use Rattle.std.specs.Option.{option_map, option_or}
use Rattle.std.specs.List.{find, AllByRecursion, IsDistinct}
use Rattle.std.specs.Cmp.{nat_eq_equiv}
use Rattle.std.specs.Cmp.Lexicographic.{nat_list_eq_equiv}
use Rattle.std.proofs.lemmas.Bool.{cases_Bool}
use Rattle.std.proofs.lemmas.List.{map-append}
use Rattle.std.proofs.lemmas.List.Folds.{find-append}
use Rattle.std.proofs.lemmas.Map.Keys.{IsDistinct-head, IsDistinct-tail, IsDistinct-cons}
use Rattle.hs_types.specs.declared.ids.SnapId.{SnapId}
use Rattle.hs_types.specs.declared.name.SnapItem.{SnapItem}
use Rattle.snapshot_manager.specs.Snapshots.{IsRising, IdsRise, NamesDiffer, has_name, has_id, is_named, without, renamed}
use Rattle.snapshot_manager.specs.Places.{NonePasses, PassesOnlyAt}
use Rattle.snapshot_manager.specs.Inside.{AllBelow}
use Rattle.snapshot_manager.proofs.Lists.{all_push, find_nowhere, find_there, nowhere_from_any, passes_only_at, place_from_find, map_nowhere}
use Rattle.snapshot_manager.proofs.Rising.{rising_apart, rising_filter}

abbrev pub number : SnapItem → ℕ
number item = item.id.0

abbrev pub name_of : SnapItem → List ℕ
name_of item = item.name

-- where one of two equal names stands in a test, the other may
same_test : (a b k : List ℕ) → bytes_eq a b ≡ true → bytes_eq a k ≡ bytes_eq b k
same_test a b k same = nat_list_eq_equiv.congr a b k same

-- ---- places

-- what is found by its name stands at one place, and is found by its id too
pub named_there : (name : List ℕ) (items : List SnapItem) (i : ℕ) (item : SnapItem) → NamesDiffer items → slice_get items i ≡ Some item → has_name name item ≡ true → PassesOnlyAt (has_name name) items i
named_there name items i item apart at has = passes_only_at name_of bytes_eq nat_list_eq_equiv name items i item apart at has

pub numbered_there : (id : SnapId) (items : List SnapItem) (i : ℕ) (item : SnapItem) → IdsRise items → slice_get items i ≡ Some item → item.id ≡ id → PassesOnlyAt (has_id id) items i
numbered_there id items i item up at same = passes_only_at number nat_eq nat_eq_equiv id.0 items i item (rising_apart (map number items) up) at (ap (λ (k : SnapId). nat_eq id.0 k.0) same ∙ nat_eq_equiv.refl id.0)

-- where a snapshot of this name and this id stands
pub record Stands (name : List ℕ) (id : SnapId) (items : List SnapItem) : Type 0 where
  pub place : ℕ
  pub item : SnapItem
  pub at : slice_get items place ≡ Some item
  pub named : PassesOnlyAt (has_name name) items place
  pub numbered : PassesOnlyAt (has_id id) items place
  pub by_name : find (has_name name) items ≡ Some item
  pub by_id : find (has_id id) items ≡ Some item

some_of : (id : SnapId) (found : Option SnapItem) → Some id ≡ option_map (λ (item : SnapItem). item.id) found → (item : SnapItem) × (found ≡ Some item) × (item.id ≡ id)
some_of id None is = absurd (cc)
some_of id (Some item) is = (item, refl, cc)

pub stands : (name : List ℕ) (id : SnapId) (items : List SnapItem) → IdsRise items → NamesDiffer items → Some id ≡ option_map (λ item. item.id) (find (has_name name) items) → Stands name id items
stands name id items up apart is =
    let f = some_of id (find (has_name name) items) is in
    let p = place_from_find (has_name name) items f.0 f.1 in
    let numbered = numbered_there id items p.0 f.0 up p.1 f.2 in
    record {
      place = p.0;
      item = f.0;
      at = p.1;
      named = named_there name items p.0 f.0 apart p.1 p.2;
      numbered = numbered;
      by_name = f.1;
      by_id = find_there (has_id id) items p.0 numbered ∙ p.1;
    }

-- ---- a snapshot more

pub rising_push : (ns : List ℕ) (n : ℕ) → IsRising ns → AllByRecursion (λ m. m < n) ns → IsRising (ns ++ n ∷ [])
rising_push [] n up below = (tt, tt)
rising_push (m ∷ ns) n up below = (all_push (λ k. m < k) ns n up.0 below.0, rising_push ns n up.1 below.1)

numbers_below : (id : SnapId) (items : List SnapItem) → AllBelow id items → AllByRecursion (λ k. k < id.0) (map number items)
numbers_below id [] all = tt
numbers_below id (item ∷ items) all = (all.0, numbers_below id items all.1)

pub rise_push : (items : List SnapItem) (item : SnapItem) → IdsRise items → AllBelow item.id items → IdsRise (items ++ item ∷ [])
rise_push items item up below = rw (map-append number items (item ∷ [])) (rising_push (map number items) item.id.0 up (numbers_below item.id items below))

none_named : (name k : List ℕ) → bytes_eq k name ≡ false → (items : List SnapItem) → AllByRecursion (λ m. bytes_eq k m ≡ false) (map name_of items) → AllByRecursion (λ m. bytes_eq k m ≡ false) (map name_of items ++ name ∷ [])
none_named name k other items all = all_push (λ m. bytes_eq k m ≡ false) (map name_of items) name all other

distinct_push : (name : List ℕ) (items : List SnapItem) → NamesDiffer items → NonePasses (has_name name) items → IsDistinct bytes_eq (map name_of items ++ name ∷ [])
distinct_push name [] apart none = IsDistinct-cons bytes_eq name [] tt apart
distinct_push name (item ∷ items) apart none =
    IsDistinct-cons bytes_eq item.name (map name_of items ++ name ∷ [])
    (none_named name item.name (nat_list_eq_equiv.symm item.name name ∙ none.0) items (IsDistinct-head bytes_eq item.name (map name_of items) apart))
    (distinct_push name items (IsDistinct-tail bytes_eq item.name (map name_of items) apart) none.1)

pub differ_push : (items : List SnapItem) (item : SnapItem) → NamesDiffer items → is_named item.name items ≡ false → NamesDiffer (items ++ item ∷ [])
differ_push items item apart fresh = rw (map-append name_of items (item ∷ [])) (distinct_push item.name items apart (nowhere_from_any (has_name item.name) items fresh))

none_same : (a b : List ℕ) (items : List SnapItem) → bytes_eq a b ≡ true → NonePasses (has_name a) items → NonePasses (has_name b) items
none_same a b [] same none = tt
none_same a b (item ∷ items) same none = (sym (same_test a b item.name same) ∙ none.0, none_same a b items same none.1)

pub find_push : (q : List ℕ) (items : List SnapItem) (item : SnapItem) → is_named item.name items ≡ false → find (has_name q) (items ++ item ∷ []) ≡ cond (bytes_eq item.name q) (Some item) (find (has_name q) items)
find_push q items item fresh = find-append (has_name q) items (item ∷ []) ∙ by (cases_Bool (bytes_eq item.name q))
  where
    by : (bytes_eq item.name q ≡ true) ⊎ (bytes_eq item.name q ≡ false) → option_or (find (has_name q) items) (find (has_name q) (item ∷ [])) ≡ cond (bytes_eq item.name q) (Some item) (find (has_name q) items)
    by (inl same) =
        let none : find (has_name q) items ≡ None = find_nowhere (has_name q) items (none_same item.name q items same (nowhere_from_any (has_name item.name) items fresh)) in
        let has : has_name q item ≡ true = nat_list_eq_equiv.symm q item.name ∙ same in
        rw (same, none, has) refl
    by (inr apart) =
        let hasnt : has_name q item ≡ false = nat_list_eq_equiv.symm q item.name ∙ apart in
        rw (apart, hasnt) (or_none (find (has_name q) items))
      where
        or_none : (o : Option SnapItem) → option_or o None ≡ o
        or_none None = refl
        or_none (Some x) = refl

-- ---- a snapshot less

pub rise_without : (name : List ℕ) (items : List SnapItem) → IdsRise items → IdsRise (without name items)
rise_without name items up = rising_filter number (λ item. not (has_name name item)) items up

all_names_filter : (keeps : SnapItem → Bool) (P : List ℕ → Type 0) (items : List SnapItem) → AllByRecursion P (map name_of items) → AllByRecursion P (map name_of (filter keeps items))
all_names_filter keeps P [] all = tt
all_names_filter keeps P (item ∷ items) all = elim (cases_Bool (keeps item)) [
  | inl kept ↦ rw kept (all.0, all_names_filter keeps P items all.1)
  | inr gone ↦ rw gone (all_names_filter keeps P items all.1)
]

differ_filter : (keeps : SnapItem → Bool) (items : List SnapItem) → NamesDiffer items → NamesDiffer (filter keeps items)
differ_filter keeps [] apart = apart
differ_filter keeps (item ∷ items) apart = by (differ_filter keeps items (IsDistinct-tail bytes_eq item.name (map name_of items) apart)) (cases_Bool (keeps item))
  where
    by : NamesDiffer (filter keeps items) → (keeps item ≡ true) ⊎ (keeps item ≡ false) → NamesDiffer (filter keeps (item ∷ items))
    by rest (inl kept) = rw kept (IsDistinct-cons bytes_eq item.name (map name_of (filter keeps items)) (all_names_filter keeps (λ m. bytes_eq item.name m ≡ false) items (IsDistinct-head bytes_eq item.name (map name_of items) apart)) rest)
    by rest (inr gone) = rw gone rest

pub differ_without : (name : List ℕ) (items : List SnapItem) → NamesDiffer items → NamesDiffer (without name items)
differ_without name items apart = differ_filter (λ item. not (has_name name item)) items apart

pub find_without : (name q : List ℕ) (items : List SnapItem) → find (has_name q) (without name items) ≡ cond (bytes_eq name q) None (find (has_name q) items)
find_without name q [] = elim (cases_Bool (bytes_eq name q)) [
  | inl same ↦ rw same refl
  | inr apart ↦ rw apart refl
]
find_without name q (item ∷ items) = by (find_without name q items) (cases_Bool (has_name name item)) (cases_Bool (bytes_eq name q)) (cases_Bool (has_name q item))
  where
    by : find (has_name q) (without name items) ≡ cond (bytes_eq name q) None (find (has_name q) items)
        → (has_name name item ≡ true) ⊎ (has_name name item ≡ false) → (bytes_eq name q ≡ true) ⊎ (bytes_eq name q ≡ false) → (has_name q item ≡ true) ⊎ (has_name q item ≡ false)
        → find (has_name q) (without name (item ∷ items)) ≡ cond (bytes_eq name q) None (find (has_name q) (item ∷ items))
    by rest (inl gone) (inl same) third = rw gone (rest ∙ rw same refl)
    by rest (inl gone) (inr apart) third =
        let other : has_name q item ≡ false = nat_list_eq_equiv.symm q item.name ∙ sym (same_test name item.name q gone) ∙ apart in
        rw (gone, other) rest
    by rest (inr kept) (inl same) (inl here) = let clash : true ≡ false = sym here ∙ sym (same_test name q item.name same) ∙ kept in absurd (cc)
    by rest (inr kept) (inl same) (inr there) = rw (kept, there) rest
    by rest (inr kept) (inr apart) (inl here) = rw (kept, apart, here) refl
    by rest (inr kept) (inr apart) (inr there) = rw (kept, there) rest

-- ---- another name

-- another name leaves the ids
pub numbers-renamed : (old new : List ℕ) (items : List SnapItem) → map number (renamed old new items) ≡ map number items
numbers-renamed old new [] = refl
numbers-renamed old new (item ∷ items) = elim (cases_Bool (has_name old item)) [
  | inl here ↦ rw here (ap (λ l. item.id.0 ∷ l) (numbers-renamed old new items))
  | inr there ↦ rw there (ap (λ l. item.id.0 ∷ l) (numbers-renamed old new items))
]

all_names_renamed : (P : List ℕ → Type 0) (old new : List ℕ) (items : List SnapItem) → P new → AllByRecursion P (map name_of items) → AllByRecursion P (map name_of (renamed old new items))
all_names_renamed P old new [] here all = tt
all_names_renamed P old new (item ∷ items) here all = elim (cases_Bool (has_name old item)) [
  | inl changed ↦ rw changed (here, all_names_renamed P old new items here all.1)
  | inr kept ↦ rw kept (all.0, all_names_renamed P old new items here all.1)
]

all_names : (P : List ℕ → Type 0) (items : List SnapItem) → AllByRecursion (λ item. P item.name) items → AllByRecursion P (map name_of items)
all_names P [] all = tt
all_names P (item ∷ items) all = (all.0, all_names P items all.1)

pub differ_renamed : (old new : List ℕ) (items : List SnapItem) (i : ℕ) → PassesOnlyAt (has_name old) items i → NonePasses (has_name new) items → NamesDiffer items → NamesDiffer (renamed old new items)
differ_renamed old new [] i there fresh apart = absurd there
differ_renamed old new (item ∷ items) zero there fresh apart =
    rw (there.0, map_nowhere (has_name old) (λ item. record item { name = new }) items there.1)
    (IsDistinct-cons bytes_eq new (map name_of items) (all_names (λ m. bytes_eq new m ≡ false) items fresh.1) (IsDistinct-tail bytes_eq item.name (map name_of items) apart))
differ_renamed old new (item ∷ items) (suc i) there fresh apart =
    rw there.0 (IsDistinct-cons bytes_eq item.name (map name_of (renamed old new items))
    (all_names_renamed (λ m. bytes_eq item.name m ≡ false) old new items (nat_list_eq_equiv.symm item.name new ∙ fresh.0) (IsDistinct-head bytes_eq item.name (map name_of items) apart))
    (differ_renamed old new items i there.1 fresh.1 (IsDistinct-tail bytes_eq item.name (map name_of items) apart)))

-- the id of what is found by a name
abbrev pub id_named : List ℕ → List SnapItem → Option SnapId
id_named name items = option_map (λ item. item.id) (find (has_name name) items)

pub find_renamed : (old new q : List ℕ) (items : List SnapItem) (i : ℕ) (item : SnapItem) → PassesOnlyAt (has_name old) items i → slice_get items i ≡ Some item → NonePasses (has_name new) items
    → id_named q (renamed old new items) ≡ cond (bytes_eq old q) None (cond (bytes_eq new q) (Some item.id) (id_named q items))
find_renamed old new q [] i item there at fresh = absurd there
find_renamed old new q (x ∷ xs) zero item there at fresh = rw (there.0, map_nowhere (has_name old) (λ item. record item { name = new }) xs there.1) (by (cases_Bool (bytes_eq old q)) (cases_Bool (bytes_eq new q)))
  where
    same_item : x ≡ item
    same_item = cc

    -- the test of another name than the old one
    hasnt : bytes_eq old q ≡ false → has_name q x ≡ false
    hasnt apart = nat_list_eq_equiv.symm q x.name ∙ sym (same_test old x.name q there.0) ∙ apart

    by : (bytes_eq old q ≡ true) ⊎ (bytes_eq old q ≡ false) → (bytes_eq new q ≡ true) ⊎ (bytes_eq new q ≡ false)
        → id_named q ((record x { name = new }) ∷ xs) ≡ cond (bytes_eq old q) None (cond (bytes_eq new q) (Some item.id) (id_named q (x ∷ xs)))
    by (inl gone) (inl clash) =
        let named : bytes_eq new x.name ≡ true = same_test new q x.name clash ∙ sym (same_test old q x.name gone) ∙ there.0 in
        let no : true ≡ false = sym named ∙ fresh.0 in absurd (cc)
    by (inl gone) (inr other) =
        let hasnt_new : bytes_eq q new ≡ false = nat_list_eq_equiv.symm q new ∙ other in
        rw (gone, hasnt_new) (ap (option_map (λ (item : SnapItem). item.id)) (find_nowhere (has_name q) xs (none_same old q xs gone there.1)))
    by (inr kept) (inl here) =
        let has_new : bytes_eq q new ≡ true = nat_list_eq_equiv.symm q new ∙ here in
        rw (kept, here, has_new) (ap (λ (z : SnapItem). Some z.id) same_item)
    by (inr kept) (inr other) =
        let hasnt_new : bytes_eq q new ≡ false = nat_list_eq_equiv.symm q new ∙ other in
        rw (kept, other, hasnt_new, hasnt kept) refl
find_renamed old new q (x ∷ xs) (suc i) item there at fresh = rw there.0 (by (find_renamed old new q xs i item there.1 at fresh.1) (cases_Bool (has_name q x)))
  where
    by : id_named q (renamed old new xs) ≡ cond (bytes_eq old q) None (cond (bytes_eq new q) (Some item.id) (id_named q xs)) → (has_name q x ≡ true) ⊎ (has_name q x ≡ false)
        → id_named q (x ∷ renamed old new xs) ≡ cond (bytes_eq old q) None (cond (bytes_eq new q) (Some item.id) (id_named q (x ∷ xs)))
    by rest (inl here) =
        let kept : bytes_eq old q ≡ false = nat_list_eq_equiv.symm old q ∙ same_test q x.name old here ∙ nat_list_eq_equiv.symm x.name old ∙ there.0 in
        let other : bytes_eq new q ≡ false = nat_list_eq_equiv.symm new q ∙ same_test q x.name new here ∙ nat_list_eq_equiv.symm x.name new ∙ fresh.0 in
        rw (here, kept, other) refl
    by rest (inr there') = rw there' rest

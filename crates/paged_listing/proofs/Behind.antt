-- Entries in order, cut behind a name.
use Rattle.std.proofs.Common.{◌≡◌, ◌⊎◌, inl, inr, ℕ, zero, suc, ◌+◌, ◌-◌, ◌<◌, ◌≤◌, nat_le, min, Bool, true, false, not, cond, List, [], ◌∷◌, map, length, take, drop, get_or, Option, Some, None, refl, sym, ap, ◌∙◌, arith}
use Rattle.std.specs.Prelude.{◌==◌, nat_lt}
use Rattle.std.specs.List.{filter, prefix_len}
use Rattle.std.specs.List.Sorted.{IsPartitionedBy}
use Rattle.std.specs.Ordering.{is_lt, nat_cmp}
use Rattle.std.specs.declared.cmp.Ordering.{Ordering}
use Rattle.std.specs.declared.cmp.Ordering.TheVariants.{Less, Equal, Greater}
use Rattle.std.specs.FinMap.Entries.{below_all}
use Rattle.std.proofs.lemmas.Bool.Decides.{nat_tests}
use Rattle.std.proofs.lemmas.Cmp.{nat_list_cmp_total}
use Rattle.std.proofs.lemmas.List.{take_all, length-take, length-drop, length-map, take-map}
use Rattle.hs_types.specs.declared.call.Place.{Place}
use Rattle.hs_types.specs.declared.reply.Item.{Item}
use Rattle.hs_plain.specs.Pages.{is_behind, items_behind, first_page, page_of}
use Rattle.hs_plain.proofs.ValidTrees.{first, second}
use Rattle.dir_changes.specs.Entries.{Entry, Entries, name_order, in_order}
use Rattle.inode_table.specs.RowHistory.{Table}
use Rattle.paged_listing.specs.Items.{is_passed, entries_behind, item_in}

-- ---- names that rise

lesser : (o : Ordering) → is_lt o ≡ true → o ≡ Less
lesser Less so = refl
lesser Equal so = cc
lesser Greater so = cc

-- behind a name there are only names behind it
behind_still : (name : List ℕ) (a b : Entry) → is_lt (name_order name a.0) ≡ true → is_lt (name_order a.0 b.0) ≡ true → is_lt (name_order name b.0) ≡ true
behind_still name a b here next = ap is_lt (nat_list_cmp_total.trans name a.0 b.0 (lesser _ here) (lesser _ next))

all_behind : (name : List ℕ) (a : Entry) (es : Entries) → is_lt (name_order name a.0) ≡ true → below_all name_order a.0 es ≡ true → filter (λ entry. is_lt (name_order name entry.0)) es ≡ es
all_behind name a [] here below = refl
all_behind name a (e ∷ es) here below =
    let next : is_lt (name_order name e.0) ≡ true = behind_still name a e here (first _ _ below) in
    ap (λ b. cond b (e ∷ filter (λ entry. is_lt (name_order name entry.0)) es) (filter (λ entry. is_lt (name_order name entry.0)) es)) next
    ∙ ap (λ (l : Entries). e ∷ l) (all_behind name a es here (second _ _ below))

-- what is not passed at the front cuts the list
pub drop-passed : (name : List ℕ) (es : Entries) → in_order es ≡ true → drop (prefix_len (is_passed name) es) es ≡ entries_behind (Some name) es
drop-passed name [] sorted = refl
drop-passed name (e ∷ es) sorted = by (is_lt (name_order name e.0)) refl (drop-passed name es (second _ _ sorted))
  where
    by : (b : Bool) → is_lt (name_order name e.0) ≡ b → drop (prefix_len (is_passed name) es) es ≡ entries_behind (Some name) es → drop (prefix_len (is_passed name) (e ∷ es)) (e ∷ es) ≡ entries_behind (Some name) (e ∷ es)
    by true h rest = rw (h) (ap (λ (l : Entries). e ∷ l) (sym (all_behind name e es h (first _ _ sorted))))
    by false h rest = rw (h) (ap (λ n. drop n (e ∷ es)) {x = 1 + prefix_len (is_passed name) es} {y = suc (prefix_len (is_passed name) es)} (omega arith) ∙ rest)

-- the rest of the list from there on
pub rest-passed : (name : List ℕ) (es : Entries) (n : ℕ) → in_order es ≡ true → n ≡ prefix_len (is_passed name) es → take (length es - n) (drop n es) ≡ entries_behind (Some name) es
rest-passed name es n sorted is =
    take_all (length es - n) (drop n es) (omega (arith, length-drop n es))
    ∙ ap (λ k. drop k es) is
    ∙ drop-passed name es sorted

passed-below : (name : List ℕ) (a : Entry) (es : Entries) (j : ℕ) (d : Entry) → below_all name_order a.0 es ≡ true → j < length es → is_passed name (get_or es j d) ≡ true → is_passed name a ≡ true
passed-below name a [] j d below lt passed = absurd (omega arith)
passed-below name a (e ∷ es) zero d below lt passed = by (is_lt (name_order name a.0)) refl
  where
    by : (b : Bool) → is_lt (name_order name a.0) ≡ b → is_passed name a ≡ true
    by true h = absurd (never (is_lt (name_order name e.0)) (behind_still name a e h (first _ _ below)) passed)
      where
        never : (b : Bool) → b ≡ true → not b ≡ true → ⊥
        never true h g = cc
        never false h g = cc
    by false h = ap not h
passed-below name a (e ∷ es) (suc j) d below lt passed = passed-below name a es j d (second _ _ below) (omega arith) passed

-- no entry that is passed comes after one that isn't
pub IsPartitionedBy-passed : (name : List ℕ) (es : Entries) → in_order es ≡ true → IsPartitionedBy (is_passed name) es
IsPartitionedBy-passed name [] sorted i j d le lt passed = absurd (omega arith)
IsPartitionedBy-passed name (e ∷ es) sorted zero zero d le lt passed = passed
IsPartitionedBy-passed name (e ∷ es) sorted zero (suc j) d le lt passed = passed-below name e es j d (first _ _ sorted) (omega arith) passed
IsPartitionedBy-passed name (e ∷ es) sorted (suc i) zero d le lt passed = absurd (omega arith)
IsPartitionedBy-passed name (e ∷ es) sorted (suc i) (suc j) d le lt passed = IsPartitionedBy-passed name es (second _ _ sorted) i j d (omega arith) (omega arith) passed

-- ---- as they are shown

filter-shown : (table : Table) (name : List ℕ) (es : Entries) → filter (is_behind name) (map (item_in table) es) ≡ map (item_in table) (entries_behind (Some name) es)
filter-shown table name [] = refl
filter-shown table name (e ∷ es) = by (is_lt (name_order name e.0)) refl (filter-shown table name es)
  where
    by : (b : Bool) → is_lt (name_order name e.0) ≡ b → filter (is_behind name) (map (item_in table) es) ≡ map (item_in table) (entries_behind (Some name) es)
        → filter (is_behind name) (map (item_in table) (e ∷ es)) ≡ map (item_in table) (entries_behind (Some name) (e ∷ es))
    by true h rest = rw (h) (ap (λ (l : List Item). item_in table e ∷ l) rest)
    by false h rest = rw (h) rest

-- the items behind a name are the entries behind it
pub behind-shown : (table : Table) (after : Option (List ℕ)) (es : Entries) → items_behind after (map (item_in table) es) ≡ map (item_in table) (entries_behind after es)
behind-shown table None es = refl
behind-shown table (Some name) es = filter-shown table name es

-- ---- one more than the page holds

take-less : {X : Type 0} (n m : ℕ) (xs : List X) → n ≤ m → take n (take m xs) ≡ take n xs
take-less zero m xs le = refl
take-less (suc n) zero xs le = absurd (omega arith)
take-less (suc n) (suc m) [] le = refl
take-less (suc n) (suc m) (x ∷ xs) le = ap (λ (l : List _). x ∷ l) (take-less n m xs (omega arith))

same_name : (place : Place) (items : List Item) (size n : ℕ) → size < n → n < length items → first_page place (take n items) size ≡ first_page place items size
same_name place items size n more lt = by (nat_le (length (take n items)) size) (nat_le (length items) size) refl refl
  where
    cut : length (take n items) ≡ n
    cut = length-take n items ∙ omega (arith, lt)

    by : (a b : Bool) → nat_le (length (take n items)) size ≡ a → nat_le (length items) size ≡ b → first_page place (take n items) size ≡ first_page place items size
    by true b h g = absurd (grind (arith, nat_tests, cut))
    by false true h g = absurd (grind (arith, nat_tests))
    by false false h g = rw (h, g, take-less size n items (omega arith)) refl

-- a page is made of any front that has more items than it holds
pub first_page-front : (place : Place) (items : List Item) (size n : ℕ) → (size < n) ⊎ (length items ≤ n) → first_page place (take n items) size ≡ first_page place items size
first_page-front place items size n (inr all) = ap (λ (l : List Item). first_page place l size) (take_all n items all)
first_page-front place items size n (inl more) = by (nat_le (length items) n) refl
  where
    by : (b : Bool) → nat_le (length items) n ≡ b → first_page place (take n items) size ≡ first_page place items size
    by true h = ap (λ (l : List Item). first_page place l size) (take_all n items (grind (arith, nat_tests)))
    by false h = same_name place items size n more (grind (arith, nat_tests))

pub front-so : (len size n : ℕ) → n ≡ min len (size + 1) → (size < n) ⊎ (len ≤ n)
front-so len size n is = by (nat_le len size) refl
  where
    by : (b : Bool) → nat_le len size ≡ b → (size < n) ⊎ (len ≤ n)
    by true h = inr (grind (arith, nat_tests, is))
    by false h = inl (grind (arith, nat_tests, is))

-- a page behind a name, of the entries in front of the list behind it
pub page-front : (table : Table) (place : Place) (es : Entries) (after : Option (List ℕ)) (size n : ℕ) → (size < n) ⊎ (length (entries_behind after es) ≤ n)
    → first_page place (map (item_in table) (take n (entries_behind after es))) size ≡ page_of place (map (item_in table) es) after size
page-front table place es after size n enough =
    ap (λ (l : List Item). first_page place l size) (sym (take-map (item_in table) n (entries_behind after es)))
    ∙ first_page-front place (map (item_in table) (entries_behind after es)) size n (fits enough)
    ∙ ap (λ (l : List Item). first_page place l size) (sym (behind-shown table after es))
  where
    fits : (size < n) ⊎ (length (entries_behind after es) ≤ n) → (size < n) ⊎ (length (map (item_in table) (entries_behind after es)) ≤ n)
    fits (inl more) = inl more
    fits (inr all) = inr (omega (arith, length-map (entries_behind after es) (item_in table)))

-- ---- numbers

pub below_so : (m n : ℕ) → is_lt (nat_cmp m n) ≡ true → m < n
below_so m n is = by (nat_lt m n) (m == n) refl is
  where
    by : (a b : Bool) → nat_lt m n ≡ a → is_lt (cond a Less (cond b Equal Greater)) ≡ true → m < n
    by true b h g = grind (arith, nat_tests)
    by false true h g = absurd (cc)
    by false false h g = absurd (cc)

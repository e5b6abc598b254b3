-- Lists of blocks: how often each stands in them, and how many bytes of a file it has.
use Rattle.std.proofs.Common.{◌≡◌, ℕ, zero, suc, ◌+◌, ◌-◌, ◌<◌, ◌≤◌, min, Bool, true, false, ◌||◌, cond, List, [], ◌∷◌, ◌++◌, length, get_or, filter, Option, Some, None, is_some, refl, sym, ap, subst, ◌∙◌, ◌⊎◌, inl, inr, ⊎_elim, arith}
use Rattle.std.specs.List.{Contains, AllByRecursion, IsDistinct}
use Rattle.std.proofs.lemmas.Bool.Decides.{Decides-eqb, nat_tests}
use Rattle.std.proofs.lemmas.Map.Keys.{IsDistinct-head, IsDistinct-tail, IsDistinct-cons}
use Rattle.hs_types.specs.declared.ids.BlockId.{BlockId}
use Rattle.hs_types.specs.Limits.{block_size}
use Rattle.hs_types.specs.Blocks.{BlockMap, Holds, HoldsFile, find, same_block}
use Rattle.hs_plain.proofs.ValidShapes.{true_false}
use Rattle.dir_changes.specs.Counts.{one_where}
use Rattle.inode_table.specs.Released.{times_block}
use Rattle.inode_table.specs.Blocked.{bytes_within}

-- ---- one block, or two

same_is : (a b : BlockId) → same_block a b ≡ true → a ≡ b
same_is a b h = ap (λ (n : ℕ). record { 0 = n }) ((Decides-eqb a.0 b.0).0 h)

pub same-block : (a b : BlockId) → a ≡ b → same_block a b ≡ true
same-block a b e = (Decides-eqb a.0 b.0).1 (ap (λ (x : BlockId). x.0) e)

pub by-block : {P : Type 0} (a b : BlockId) → (a ≡ b → P) → (same_block a b ≡ false → P) → P
by-block {P} a b here there = elim (same_block a b) as (λ t. same_block a b ≡ t → P) [ true ↦ λ t. here (same_is a b t) | false ↦ λ t. there t ] refl

same_flip : (a b : BlockId) → same_block a b ≡ false → same_block b a ≡ false
same_flip a b h = grind (arith, nat_tests, h)

-- ---- tests

pub or-left : (a b : Bool) → a ≡ true → (a || b) ≡ true
or-left true b h = refl
or-left false b h = absurd (true_false h refl)

pub or-right : (a b : Bool) → b ≡ true → (a || b) ≡ true
or-right true b h = refl
or-right false b h = h

pub or-either : {P : Type 0} (a b : Bool) → (a || b) ≡ true → (a ≡ true → P) → (b ≡ true → P) → P
or-either true b h left right = left refl
or-either false b h left right = right h

-- ---- lists that contain a block

module _ {X : Type 0} where
  pub in-here : (xs : List X) (x y : X) → y ≡ x → Contains (x ∷ xs) y
  in-here xs x y e = (0, omega arith, sym e)

  pub in-later : (xs : List X) (x y : X) → Contains xs y → Contains (x ∷ xs) y
  in-later xs x y c = (suc c.0, (let lt = c.1 in omega arith), c.2)

  pub in-either : (xs : List X) (x y : X) → Contains (x ∷ xs) y → (y ≡ x) ⊎ Contains xs y
  in-either xs x y c = by c.0 c.1 c.2
    where
      by : (k : ℕ) → k < length (x ∷ xs) → get_or (x ∷ xs) k y ≡ y → (y ≡ x) ⊎ Contains xs y
      by zero lt e = inl (sym e)
      by (suc k) lt e = inr (k, omega (arith, lt), e)

  pub in-none : (y : X) → Contains [] y → ⊥
  in-none y c = let lt = c.1 in omega (arith, lt)

-- ---- how often

pub times-append : (block : BlockId) (a b : List BlockId) → times_block block (a ++ b) ≡ times_block block a + times_block block b
times-append block [] b = omega arith
times-append block (x ∷ a) b = let rest = times-append block a b in omega (arith, rest)

pub times-in : (block : BlockId) (xs : List BlockId) → Contains xs block → 0 < times_block block xs
times-in block [] c = absurd (in-none block c)
times-in block (x ∷ xs) c = ⊎_elim
    (λ e. let one = ap one_where (same-block x block (sym e)) in omega (arith, one))
    (λ k. let rest = times-in block xs k in omega (arith, rest))
    (in-either xs x block c)

pub in-times : (block : BlockId) (xs : List BlockId) → 0 < times_block block xs → Contains xs block
in-times block [] some = absurd (omega (arith, some))
in-times block (x ∷ xs) some = by-block x block
    (λ e. in-here xs x block (sym e))
    (λ ne. let none = ap one_where ne in in-later xs x block (in-times block xs (omega (arith, some, none))))

none_more : (x block : BlockId) (xs : List BlockId) → AllByRecursion (λ y. same_block x y ≡ false) xs → x ≡ block → times_block block xs ≡ 0
none_more x block [] all e = refl
none_more x block (y ∷ ys) all e =
    let none : same_block y block ≡ false = subst (λ (b : BlockId). same_block y b ≡ false) e (same_flip x y all.0) in
    let zero_ = ap one_where none in
    let rest = none_more x block ys all.1 e in
    omega (arith, zero_, rest)

pub times-distinct : (block : BlockId) (xs : List BlockId) → IsDistinct same_block xs → times_block block xs ≤ 1
times-distinct block [] d = omega arith
times-distinct block (x ∷ xs) d = by-block x block
    (λ e. let one = ap one_where (same-block x block e) in let none = none_more x block xs (IsDistinct-head same_block x xs d) e in omega (arith, one, none))
    (λ ne. let none = ap one_where ne in let rest = times-distinct block xs (IsDistinct-tail same_block x xs d) in omega (arith, none, rest))

all_other : (x : BlockId) (xs : List BlockId) → times_block x xs ≡ 0 → AllByRecursion (λ y. same_block x y ≡ false) xs
all_other x [] none = tt
all_other x (y ∷ ys) none = by-block y x
    (λ e. let one = ap one_where (same-block y x e) in absurd (omega (arith, one, none)))
    (λ ne. let zero_ = ap one_where ne in (same_flip y x ne, all_other x ys (omega (arith, zero_, none))))

distinct_none : IsDistinct same_block []
unfolding IsDistinct
distinct_none = tt

pub distinct-none : IsDistinct same_block []
distinct-none = distinct_none

pub distinct-times : (xs : List BlockId) → ((block : BlockId) → times_block block xs ≤ 1) → IsDistinct same_block xs
distinct-times [] few = distinct_none
distinct-times (x ∷ xs) few = IsDistinct-cons same_block x xs
    (all_other x xs (let here = few x in let one = ap one_where (same-block x x refl) in omega (arith, here, one)))
    (distinct-times xs (λ block. let all = few block in omega (arith, all)))

pub by-zero : {P : Type 0} (n : ℕ) → (n ≡ 0 → P) → (0 < n → P) → P
by-zero zero none some = none refl
by-zero (suc n) none some = some (omega arith)

pub distinct-append : (xs ys : List BlockId) → IsDistinct same_block xs → IsDistinct same_block ys → ((block : BlockId) → Contains xs block → Contains ys block → ⊥) → IsDistinct same_block (xs ++ ys)
distinct-append xs ys dx dy apart = distinct-times (xs ++ ys) (λ block.
    let all = times-append block xs ys in
    let left = times-distinct block xs dx in
    let right = times-distinct block ys dy in
    by-zero (times_block block xs)
    (λ none. omega (arith, all, right, none))
    (λ some. by-zero (times_block block ys)
    (λ none. omega (arith, all, left, none))
    (λ too. absurd (apart block (in-times block xs some) (in-times block ys too)))))

pub distinct-left : (xs ys : List BlockId) → IsDistinct same_block (xs ++ ys) → IsDistinct same_block xs
distinct-left xs ys d = distinct-times xs (λ block. let all = times-append block xs ys in let few = times-distinct block (xs ++ ys) d in omega (arith, all, few))

pub distinct-apart : (xs ys : List BlockId) (block : BlockId) → IsDistinct same_block (xs ++ ys) → Contains xs block → Contains ys block → ⊥
distinct-apart xs ys block d left right =
    let all = times-append block xs ys in
    let few = times-distinct block (xs ++ ys) d in
    let a = times-in block xs left in
    let b = times-in block ys right in
    omega (arith, all, few, a, b)

fewer_times : (test : BlockId → Bool) (block : BlockId) (xs : List BlockId) → times_block block (filter test xs) ≤ times_block block xs
fewer_times test block [] = omega arith
fewer_times test block (x ∷ xs) = let rest = fewer_times test block xs in elim (test x) as (λ b. times_block block (cond b (x ∷ filter test xs) (filter test xs)) ≤ times_block block (x ∷ xs)) [
  | true ↦ omega (arith, rest)
  | false ↦ omega (arith, rest)
]

pub distinct-filter : (test : BlockId → Bool) (xs : List BlockId) → IsDistinct same_block xs → IsDistinct same_block (filter test xs)
distinct-filter test xs d = distinct-times (filter test xs) (λ block. let fewer = fewer_times test block xs in let few = times-distinct block xs d in omega (arith, fewer, few))

-- what passes a filter
pub in-filter : (test : BlockId → Bool) (block : BlockId) (xs : List BlockId) → Contains (filter test xs) block → Contains xs block × (test block ≡ true)
in-filter test block [] c = absurd (in-none block c)
in-filter test block (x ∷ xs) c = elim (test x) as (λ b. test x ≡ b → Contains (cond b (x ∷ filter test xs) (filter test xs)) block → Contains (x ∷ xs) block × (test block ≡ true)) [
  | true ↦ λ t k. ⊎_elim (λ e. (in-here xs x block e, ap test e ∙ t)) (λ l. let rest = in-filter test block xs l in (in-later xs x block rest.0, rest.1)) (in-either (filter test xs) x block k)
  | false ↦ λ t k. let rest = in-filter test block xs k in (in-later xs x block rest.0, rest.1)
] refl c

pub filter-in : (test : BlockId → Bool) (block : BlockId) (xs : List BlockId) → Contains xs block → test block ≡ true → Contains (filter test xs) block
filter-in test block [] c h = absurd (in-none block c)
filter-in test block (x ∷ xs) c h = elim (test x) as (λ b. test x ≡ b → Contains (cond b (x ∷ filter test xs) (filter test xs)) block) [
  | true ↦ λ t. ⊎_elim (λ e. in-here (filter test xs) x block e) (λ k. in-later (filter test xs) x block (filter-in test block xs k h)) (in-either xs x block c)
  | false ↦ λ t. ⊎_elim (λ e. absurd (true_false h (ap test e ∙ t))) (λ k. filter-in test block xs k h) (in-either xs x block c)
] refl

-- ---- bytes of a file in a block

pub holds-fewer : (found : Option (List ℕ)) (more fewer : ℕ) → fewer ≤ more → Holds found more → Holds found fewer
holds-fewer None more fewer le h = absurd h
holds-fewer (Some bytes) more fewer le h = let a = h.0 in (omega (arith, a, le), h.1)

pub holds-some : (found : Option (List ℕ)) (count : ℕ) → Holds found count → is_some found ≡ true
holds-some None count h = absurd h
holds-some (Some bytes) count h = refl

pub held-each : (map : BlockMap) (size : ℕ) (blocks : List BlockId) (block : BlockId) → HoldsFile map size blocks → Contains blocks block → Holds (find map block) (bytes_within size blocks block)
held-each map size [] block held c = absurd (in-none block c)
held-each map size (x ∷ xs) block held c = by-block x block
    (λ e. subst (λ b. Holds (find map block) (cond b (min size block_size) (bytes_within (size - block_size) xs block))) (sym (same-block x block e))
    (subst (λ (b : BlockId). Holds (find map b) (min size block_size)) e held.0))
    (λ ne. subst (λ b. Holds (find map block) (cond b (min size block_size) (bytes_within (size - block_size) xs block))) (sym ne)
    (⊎_elim (λ e. absurd (true_false (same-block x block (sym e)) ne)) (λ k. held-each map (size - block_size) xs block held.1 k) (in-either xs x block c)))

pub all-in : (P : BlockId → Type 0) (xs : List BlockId) (block : BlockId) → AllByRecursion P xs → Contains xs block → P block
all-in P [] block all c = absurd (in-none block c)
all-in P (x ∷ xs) block all c = ⊎_elim (λ e. subst P (sym e) all.0) (λ k. all-in P xs block all.1 k) (in-either xs x block c)

pub held-all : (map : BlockMap) (size : ℕ) (blocks : List BlockId) → IsDistinct same_block blocks → ((block : BlockId) → Contains blocks block → Holds (find map block) (bytes_within size blocks block)) → HoldsFile map size blocks
held-all map size [] d all = tt
held-all map size (x ∷ xs) d all = (
  subst (λ b. Holds (find map x) (cond b (min size block_size) (bytes_within (size - block_size) xs x))) (same-block x x refl) (all x (in-here xs x x refl)),
  held-all map (size - block_size) xs (IsDistinct-tail same_block x xs d) (λ block c.
      subst (λ b. Holds (find map block) (cond b (min size block_size) (bytes_within (size - block_size) xs block))) (all-in (λ y. same_block x y ≡ false) xs block (IsDistinct-head same_block x xs d) c) (all block (in-later xs x block c))),
)

-- a longer list, and a greater size
pub bytes-more : (small large : ℕ) (blocks new : List BlockId) (block : BlockId) → small ≤ large → bytes_within small blocks block ≤ bytes_within large (blocks ++ new) block
bytes-more small large [] new block le = omega arith
bytes-more small large (x ∷ xs) new block le =
    let rest = bytes-more (small - block_size) (large - block_size) xs new block (omega (arith, le)) in
    elim (same_block x block) as (λ b. cond b (min small block_size) (bytes_within (small - block_size) xs block) ≤ cond b (min large block_size) (bytes_within (large - block_size) (xs ++ new) block)) [
      | true ↦ omega (arith, le)
      | false ↦ rest
    ]

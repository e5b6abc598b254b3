-- The components of a text that breaks no path rule are names, but for `.snapshot`.
use Rattle.std.proofs.Common.{◌≡◌, ℕ, zero, suc, ◌+◌, ◌<◌, ◌≤◌, nat_lt, nat_le, Bool, true, false, cond, not, ◌||◌, ◌&&◌, bytes_eq, codes, List, [], ◌∷◌, map, length, refl, ap, ◌∙◌, take, drop, count_by, get_or, arith}
use Rattle.std.specs.List.{list_any, list_all, position_or_len, before_first, after_first, slice_split, onto_first}
use Rattle.std.proofs.lemmas.Bool.Decides.{nat_tests}
use Rattle.std.proofs.lemmas.List.Sums.{sum_by-cons}
use Rattle.hs_types.specs.Names.{Names, is_slash, is_nul, is_dots, is_snapshot_word, is_name}
use Rattle.hs_types.specs.Paths.{is_bad_component, is_long_component, components, is_bad_path, is_too_long}

-- a part that may stand in a path
abbrev pub is_fit : List ℕ → Bool
is_fit part = is_name part || is_snapshot_word part

both_first : (a b : Bool) → (a && b) ≡ true → a ≡ true
both_first true b e = refl
both_first false b e = e

both_second : (a b : Bool) → (a && b) ≡ true → b ≡ true
both_second true b e = e
both_second false b e = absurd (cc)

pub list_all_at : {A B : Type 0} (p : B → Bool) (f : A → B) (xs : List A) (i : ℕ) (d : A) → list_all p (map f xs) ≡ true → i < length xs → p (f (get_or xs i d)) ≡ true
list_all_at p f [] i d all lt = absurd (omega arith)
list_all_at p f (x ∷ xs) zero d all lt = both_first (p (f x)) _ all
list_all_at p f (x ∷ xs) (suc i) d all lt = list_all_at p f xs i d (both_second (p (f x)) _ all) (omega arith)

-- no test here says yes
nor : (a b : Bool) → (a || b) ≡ false → (a ≡ false) × (b ≡ false)
nor true b e = absurd (cc)
nor false b e = (refl, e)

or_yes : (a b : Bool) → (a || b) ≡ true → b ≡ false → a ≡ true
or_yes true b e f = refl
or_yes false b e f = absurd (cc)

fit_one : (part : List ℕ) → is_bad_component part ≡ false → is_long_component part ≡ false → list_any is_slash part ≡ false → is_fit part ≡ true
fit_one part bad long slash =
    let n = nor (bytes_eq part [] || is_dots part) _ bad in
    let e = nor (bytes_eq part []) _ n.0 in
    let short : nat_le (length part) 255 ≡ true = grind (arith, nat_tests) in
    go (bytes_eq part []) (nat_le (length part) 255) (list_any is_slash part) (list_any is_nul part) (is_dots part) (is_snapshot_word part) e.0 short slash n.1 e.1
  where
    either : (b : Bool) → (not b || b) ≡ true
    either true = refl
    either false = refl

    go : (empty short slash nul dots word : Bool) → empty ≡ false → short ≡ true → slash ≡ false → nul ≡ false → dots ≡ false → (not empty && short && not slash && not nul && not dots && not word || word) ≡ true
    go empty short slash nul dots word e s a n d = simp (e, s, a, n, d) (either word)

-- each part is fit
fit_all : (parts : Names) → list_any is_bad_component parts ≡ false → list_any is_long_component parts ≡ false → list_any (list_any is_slash) parts ≡ false → list_all is_fit parts ≡ true
fit_all [] bad long slash = refl
fit_all (part ∷ parts) bad long slash =
    let b = nor (is_bad_component part) _ bad in
    let l = nor (is_long_component part) _ long in
    let s = nor (list_any is_slash part) _ slash in
    ap (λ t. t && list_all is_fit parts) (fit_one part b.0 l.0 s.0) ∙ fit_all parts b.1 l.1 s.1

module _ {A : Type 0} (name word : A → Bool) where
  fit : A → Bool
  fit x = name x || word x

  -- before the first word each fit part is a name
  pub base_named : (parts : List A) → list_all (λ x. name x || word x) parts ≡ true → list_all name (before_first word parts) ≡ true
  base_named [] all = refl
  base_named (x ∷ xs) all = by (word x) refl (base_named xs)
    where
      by : (b : Bool) → word x ≡ b → (list_all (λ y. name y || word y) xs ≡ true → list_all name (before_first word xs) ≡ true) → list_all name (take (cond (not (word x)) (1 + position_or_len word xs) 0) (x ∷ xs)) ≡ true
      by true e rest = ap (λ b. list_all name (take (cond (not b) (1 + position_or_len word xs) 0) (x ∷ xs))) e
      by false e rest =
          ap (λ b. list_all name (take (cond (not b) (1 + position_or_len word xs) 0) (x ∷ xs))) e
          ∙ ap (λ n. list_all name (take n (x ∷ xs))) {y = suc (position_or_len word xs)} (omega arith)
          ∙ ap (λ b. b && list_all name (before_first word xs)) (or_yes (name x) (word x) (both_first _ _ all) e)
          ∙ rest (both_second (name x || word x) _ all)

  -- where no word stands, each fit part is a name
  none_named : (parts : List A) → count_by word parts ≤ 0 → list_all (λ x. name x || word x) parts ≡ true → list_all name parts ≡ true
  none_named [] few all = refl
  none_named (x ∷ xs) few all = by (word x) refl (none_named xs)
    where
      counted : count_by word (x ∷ xs) ≡ cond (word x) 1 0 + count_by word xs
      counted = sum_by-cons (λ y. cond (word y) 1 0) x xs

      by : (b : Bool) → word x ≡ b → (count_by word xs ≤ 0 → list_all (λ y. name y || word y) xs ≡ true → list_all name xs ≡ true) → list_all name (x ∷ xs) ≡ true
      by true e rest = let one : ◌≡◌ {A = ℕ} (cond (word x) 1 0) 1 = ap (λ b. cond b 1 0) e in absurd (omega (arith, few, counted, one))
      by false e rest =
          ap (λ b. b && list_all name xs) (or_yes (name x) (word x) (both_first _ _ all) e)
          ∙ rest (omega (arith, few, counted)) (both_second (name x || word x) _ all)

  -- where at most one word stands, each fit part behind it is a name
  pub rest_named : (parts : List A) → count_by word parts ≤ 1 → list_all (λ x. name x || word x) parts ≡ true → list_all name (after_first word parts) ≡ true
  rest_named [] few all = refl
  rest_named (x ∷ xs) few all = by (word x) refl (rest_named xs)
    where
      counted : count_by word (x ∷ xs) ≡ cond (word x) 1 0 + count_by word xs
      counted = sum_by-cons (λ y. cond (word y) 1 0) x xs

      by : (b : Bool) → word x ≡ b → (count_by word xs ≤ 1 → list_all (λ y. name y || word y) xs ≡ true → list_all name (after_first word xs) ≡ true) → list_all name (drop (cond (not (word x)) (1 + position_or_len word xs) 0 + 1) (x ∷ xs)) ≡ true
      by true e rest =
          let one : ◌≡◌ {A = ℕ} (cond (word x) 1 0) 1 = ap (λ b. cond b 1 0) e in
          ap (λ b. list_all name (drop (cond (not b) (1 + position_or_len word xs) 0 + 1) (x ∷ xs))) e
          ∙ none_named xs (omega (arith, few, counted, one)) (both_second (name x || word x) _ all)
      by false e rest =
          ap (λ b. list_all name (drop (cond (not b) (1 + position_or_len word xs) 0 + 1) (x ∷ xs))) e
          ∙ ap (λ n. list_all name (drop n (x ∷ xs))) {y = suc (position_or_len word xs + 1)} (omega arith)
          ∙ rest (omega (arith, few, counted)) (both_second (name x || word x) _ all)

-- no part that is cut at slashes has one
no_slash : (text : List ℕ) → list_any (list_any is_slash) (slice_split is_slash text) ≡ false
no_slash [] = refl
no_slash (b ∷ bs) = by (is_slash b) refl (no_slash bs)
  where
    first : (x : ℕ) (parts : Names) → is_slash x ≡ false → list_any (list_any is_slash) parts ≡ false → list_any (list_any is_slash) (onto_first x parts) ≡ false
    first x [] e h = ap (λ t. t || false || false) e
    first x (part ∷ parts) e h = ap (λ t. t || list_any is_slash part || list_any (list_any is_slash) parts) e ∙ h

    by : (t : Bool) → is_slash b ≡ t → list_any (list_any is_slash) (slice_split is_slash bs) ≡ false → list_any (list_any is_slash) (cond (is_slash b) ([] ∷ slice_split is_slash bs) (onto_first b (slice_split is_slash bs))) ≡ false
    by true e rest = ap (λ t. list_any (list_any is_slash) (cond t ([] ∷ slice_split is_slash bs) (onto_first b (slice_split is_slash bs)))) e ∙ rest
    by false e rest = ap (λ t. list_any (list_any is_slash) (cond t ([] ∷ slice_split is_slash bs) (onto_first b (slice_split is_slash bs)))) e ∙ first b (slice_split is_slash bs) e rest

no_slash_component : (text : List ℕ) → list_any (list_any is_slash) (components text) ≡ false
no_slash_component text = by (bytes_eq text (codes "/"))
  where
    tail_of : (parts : Names) → list_any (list_any is_slash) parts ≡ false → list_any (list_any is_slash) (drop 1 parts) ≡ false
    tail_of [] h = refl
    tail_of (part ∷ parts) h = (nor (list_any is_slash part) _ h).1

    by : (t : Bool) → list_any (list_any is_slash) (cond t [] (drop 1 (slice_split is_slash text))) ≡ false
    by true = refl
    by false = tail_of (slice_split is_slash text) (no_slash text)

fit_components : (text : List ℕ) → is_bad_path text ≡ false → is_too_long (components text) ≡ false → list_all is_fit (components text) ≡ true
fit_components text bad long =
    fit_all (components text) (nor _ _ (nor _ _ bad).0).1 (nor _ _ long).0 (no_slash_component text)

-- the components before `.snapshot` are names
pub base_of_names : (text : List ℕ) → is_bad_path text ≡ false → is_too_long (components text) ≡ false → list_all is_name (before_first is_snapshot_word (components text)) ≡ true
base_of_names text bad long = base_named is_name is_snapshot_word (components text) (fit_components text bad long)

-- and so are those behind it
pub rest_of_names : (text : List ℕ) → is_bad_path text ≡ false → is_too_long (components text) ≡ false → list_all is_name (after_first is_snapshot_word (components text)) ≡ true
rest_of_names text bad long =
    let one_word = (nor _ (nat_lt 1 (count_by is_snapshot_word (components text))) bad).1 in
    let few : count_by is_snapshot_word (components text) ≤ 1 = grind (arith, nat_tests) in
    rest_named is_name is_snapshot_word (components text) few (fit_components text bad long)

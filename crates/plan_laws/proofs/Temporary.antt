-- The name of the temporary directory is no child of either root.
use Rattle.std.proofs.Common.{◌≡◌, ℕ, zero, suc, ◌+◌, ◌<◌, ◌≤◌, ◌^◌, true, false, ◌||◌, bytes_eq, cond, Option, Some, None, List, [], ◌∷◌, ◌++◌, map, length, refl, ap, sym, ◌∙◌, append-nil, arith}
use Rattle.std.specs.Prelude.{◌==◌, nat_lt}
use Rattle.std.specs.Fmt.{decimal}
use Rattle.std.proofs.lemmas.Bool.{ltb-true, ltb-false}
use Rattle.std.proofs.lemmas.Bool.Decides.{Decides-eqb}
use Rattle.std.proofs.lemmas.Fmt.{decimal_injective, decimal_nonempty}
use Rattle.std.proofs.lemmas.List.{append_cancel_left}
use Rattle.std.proofs.lemmas.Slice.Eq.{bytes_eq-Decides}
use Rattle.hs_types.specs.Names.{Names}
use Rattle.hs_types.specs.declared.reply.Item.{Item}
use Rattle.hs_plain.specs.declared.plan.RootNames.{RootNames}
use Rattle.hs_plain.specs.declared.state.Node.{Node}
use Rattle.hs_plain.specs.Tree.{Tree, node_at, listing, item_of}
use Rattle.hs_plain.specs.Plan.{tmp_word, tmp_name, has_name, first_free, tmp_for, root_names, AreEqual}
use Rattle.hs_plain.proofs.ValidShapes.{none_some, true_false}
use Rattle.plan_laws.specs.Copies.{content_of}
use Rattle.plan_laws.specs.Temporary.{IsFirstFree}
use Rattle.plan_laws.proofs.Paths.{by, by_one, bytes_eq-itself, differs}
use Rattle.plan_laws.proofs.Child.{or_second, or_split}
use Rattle.plan_laws.proofs.Elements.{IsIn}
use Rattle.plan_laws.proofs.Listed.{listed-child}
use Rattle.plan_laws.proofs.Equal.{equal-at}

some_digit : (n : ℕ) → n < 2 ^ 64 → [] ≡ decimal n → ⊥
some_digit n small e = let l : 0 < length (decimal n) = decimal_nonempty n small in let k : 0 ≡ length (decimal n) = ap length e in absurd (omega arith)

names-once : (m n : ℕ) → m < 2 ^ 64 → n < 2 ^ 64 → tmp_name m ≡ tmp_name n → m ≡ n
names-once zero zero h k e = refl
names-once zero (suc n) h k e = absurd (some_digit (suc n) k (append_cancel_left tmp_word [] (decimal (suc n)) (append-nil tmp_word ∙ e)))
names-once (suc m) zero h k e = absurd (some_digit (suc m) h (sym (append_cancel_left tmp_word (decimal (suc m)) [] (e ∙ sym (append-nil tmp_word)))))
names-once (suc m) (suc n) h k e = decimal_injective (suc m) (suc n) h k (append_cancel_left tmp_word (decimal (suc m)) (decimal (suc n)) e)

-- a list without a name
abbrev without_name : List ℕ → Names → Names
without_name name [] = []
without_name name (one ∷ others) = cond (bytes_eq one name) (without_name name others) (one ∷ without_name name others)

no-longer : (name : List ℕ) (names : Names) → length (without_name name names) ≤ length names
no-longer name [] = omega arith
no-longer name (one ∷ others) = let rest : length (without_name name others) ≤ length others = no-longer name others in
    elim (bytes_eq one name) as (λ b. length (cond b (without_name name others) (one ∷ without_name name others)) ≤ suc (length others)) [ true ↦ omega arith | false ↦ omega arith ]

shorter : (name : List ℕ) (names : Names) → has_name names name ≡ true → length (without_name name names) < length names
shorter name [] h = absurd (true_false h refl)
shorter name (one ∷ others) h = (elim (bytes_eq one name) as (λ b. (b || has_name others name) ≡ true → length (cond b (without_name name others) (one ∷ without_name name others)) < suc (length others)) [
  | true ↦ λ h. let rest : length (without_name name others) ≤ length others = no-longer name others in omega arith
  | false ↦ λ h. let rest : length (without_name name others) < length others = shorter name others h in omega arith
]) h

kept : (name other : List ℕ) (names : Names) → (other ≡ name → ⊥) → has_name names other ≡ true → has_name (without_name name names) other ≡ true
kept name other [] differ h = h
kept name other (one ∷ others) differ h = by (bytes_eq one name)
    (λ t. ap (λ b. has_name (cond b (without_name name others) (one ∷ without_name name others)) other) t
    ∙ kept name other others differ (sym (ap (λ b. b || has_name others other) (not-other ((bytes_eq-Decides one name).0 t))) ∙ h))
    (λ f. ap (λ b. has_name (cond b (without_name name others) (one ∷ without_name name others)) other) f
    ∙ or_split (bytes_eq one other) (has_name others other) h
    (λ t. ap (λ b. b || has_name (without_name name others) other) t)
    (λ t. or_second (bytes_eq one other) (has_name (without_name name others) other) (kept name other others differ t)))
  where
    not-other : one ≡ name → bytes_eq one other ≡ false
    not-other e = differs one other (λ d. differ (sym d ∙ e))

-- among one more names than are taken, one is free
free-name : (taken left : Names) (more k : ℕ) → k + more < 2 ^ 64 → length left ≤ more → ((j : ℕ) → k ≤ j → j < 2 ^ 64 → has_name taken (tmp_name j) ≡ true → has_name left (tmp_name j) ≡ true) →
    has_name taken (first_free taken more k) ≡ false
free-name taken left zero k low few all = by (has_name taken (tmp_name k)) (λ t. absurd (none-left left few (all k (omega arith) (omega arith) t))) (λ f. f)
  where
    none-left : (left : Names) → length left ≤ 0 → has_name left (tmp_name k) ≡ true → ⊥
    none-left [] few h = true_false h refl
    none-left (one ∷ others) few h = omega arith
free-name taken left (suc more) k low few all = by (has_name taken (tmp_name k))
    (λ t. ap (λ b. has_name taken (cond b (first_free taken more (k + 1)) (tmp_name k))) t
    ∙ (let fewer : length (without_name (tmp_name k) left) < length left = shorter (tmp_name k) left (all k (omega arith) (omega arith) t) in
    free-name taken (without_name (tmp_name k) left) more (k + 1) (omega arith) (omega arith)
    (λ j le small h. kept (tmp_name k) (tmp_name j) left (λ e. let same : j ≡ k = names-once j k small (omega arith) e in absurd (omega arith)) (all j (omega arith) small h))))
    (λ f. ap (λ b. has_name taken (cond b (first_free taken more (k + 1)) (tmp_name k))) f ∙ f)

pub tmp-free : (names : RootNames) → length (names.target ++ names.source) < 2 ^ 64 → has_name (names.target ++ names.source) (tmp_for names) ≡ false
tmp-free names few = free-name (names.target ++ names.source) (names.target ++ names.source) (length (names.target ++ names.source)) 0 (low (length (names.target ++ names.source)) few) (omega arith) (λ j le small h. h)
  where
    low : (n : ℕ) → n < 2 ^ 64 → 0 + n < 2 ^ 64
    low n few = omega arith

-- the number of the name that is chosen, before which all are taken
record IsChosen (taken : Names) (more k : ℕ) : Type 0 where
  number : ℕ
  from : k ≤ number
  is : first_free taken more k ≡ tmp_name number
  earlier : (other : ℕ) → k ≤ other → other < number → has_name taken (tmp_name other) ≡ true

chosen : (taken : Names) (more k : ℕ) → IsChosen taken more k
chosen taken zero k = record { number = k; from = omega arith; is = refl; earlier = λ other le less. absurd (omega (arith, le, less)) }
chosen taken (suc more) k = by (has_name taken (tmp_name k))
    (λ t. let rest : IsChosen taken more (k + 1) = chosen taken more (k + 1) in record {
      number = rest.number;
      from = omega (arith, rest.from);
      is = ap (λ b. cond b (first_free taken more (k + 1)) (tmp_name k)) t ∙ rest.is;
      earlier = λ other le less. by_same k other (λ e. ap (λ n. has_name taken (tmp_name n)) (sym e) ∙ t) (λ ne. rest.earlier other (above k other le ne) less);
    })
    (λ f. record { number = k; from = omega arith; is = ap (λ b. cond b (first_free taken more (k + 1)) (tmp_name k)) f; earlier = λ other le less. absurd (omega (arith, le, less)) })
  where
    by_same : {P : Type 0} (m n : ℕ) → (m ≡ n → P) → ((m ≡ n → ⊥) → P) → P
    by_same m n same other = by (m == n) (λ t. same ((Decides-eqb m n).0 t)) (λ f. other (λ e. true_false ((Decides-eqb m n).1 e) f))

    above : (m n : ℕ) → m ≤ n → (m ≡ n → ⊥) → m + 1 ≤ n
    above m n le ne = by (nat_lt m n)
        (λ t. let less : m < n = ltb-true m n t in omega arith)
        (λ f. let high : n ≤ m = ltb-false m n f in absurd (ne (omega arith)))

pub tmp-first : (names : RootNames) → length (names.target ++ names.source) < 2 ^ 64 → IsFirstFree (names.target ++ names.source) (tmp_for names)
tmp-first names few =
    let one : IsChosen (names.target ++ names.source) (length (names.target ++ names.source)) 0 = chosen (names.target ++ names.source) (length (names.target ++ names.source)) 0 in
    record { number = one.number; is = one.is; free = tmp-free names few; earlier = λ other less. one.earlier other (omega arith) less }

-- ---- the children of a root

in-either : (xs ys : Names) (name : List ℕ) → has_name (xs ++ ys) name ≡ (has_name xs name || has_name ys name)
in-either [] ys name = refl
in-either (x ∷ xs) ys name = ap (λ b. bytes_eq x name || b) (in-either xs ys name) ∙ sym (assoc (bytes_eq x name) (has_name xs name) (has_name ys name))
  where
    assoc : (a b c : _) → ((a || b) || c) ≡ (a || (b || c))
    assoc true b c = refl
    assoc false b c = refl

listed-name : (items before : List Item) (item : Item) (behind : List Item) → items ≡ before ++ item ∷ behind → has_name (map (λ (one : Item). one.name) items) item.name ≡ true
listed-name items before item behind e = ap (λ (xs : List Item). has_name (map (λ (one : Item). one.name) xs) item.name) e ∙ spread before
  where
    spread : (before : List Item) → has_name (map (λ (one : Item). one.name) (before ++ item ∷ behind)) item.name ≡ true
    spread [] = ap (λ b. b || has_name (map (λ (one : Item). one.name) behind) item.name) (bytes_eq-itself item.name)
    spread (x ∷ xs) = or_second (bytes_eq x.name item.name) (has_name (map (λ (one : Item). one.name) (xs ++ item ∷ behind)) item.name) (spread xs)

no-child : (tree : Tree (List ℕ)) (name : List ℕ) → has_name (root_names tree) name ≡ false → node_at tree (name ∷ []) ≡ None
no-child tree name free = by_one (node_at tree (name ∷ []))
    (λ node at. let item : IsIn (listing tree []) (item_of node name) = listed-child tree [] name node at in
    absurd (true_false (listed-name (listing tree []) item.before (item_of node name) item.after item.is) free))
    (λ none. none)

neither-left : (a b : _) → (a || b) ≡ false → a ≡ false
neither-left true b h = absurd (true_false refl h)
neither-left false b h = refl

neither-right : (a b : _) → (a || b) ≡ false → b ≡ false
neither-right true b h = absurd (true_false refl h)
neither-right false b h = h

module _ (from to base : Tree (List ℕ)) (same : AreEqual from base) (few : length (root_names base ++ root_names to) < 2 ^ 64) where
  abbrev tmp : List ℕ
  tmp = tmp_for (record { target = root_names base; source = root_names to })

  neither : (has_name (root_names base) tmp || has_name (root_names to) tmp) ≡ false
  neither = sym (in-either (root_names base) (root_names to) tmp) ∙ tmp-free (record { target = root_names base; source = root_names to }) few

  pub from-free : node_at from (tmp ∷ []) ≡ None
  from-free = gone (node_at from (tmp ∷ [])) (equal-at from base same (tmp ∷ []) ∙ ap content_of (no-child base tmp (neither-left (has_name (root_names base) tmp) (has_name (root_names to) tmp) neither)))
    where
      gone : (o : Option (Node (List ℕ))) → content_of o ≡ None → o ≡ None
      gone None h = refl
      gone (Some n) h = absurd (none_some (sym h))

  pub to-free : node_at to (tmp ∷ []) ≡ None
  to-free = no-child to tmp (neither-right (has_name (root_names base) tmp) (has_name (root_names to) tmp) neither)

-- The longest source that is a path or above it, found from the longest front of the path on.
use Rattle.std.proofs.Common.{◌≡◌, ℕ, zero, suc, ◌+◌, ◌-◌, ◌<◌, ◌≤◌, ◌≢◌, Bool, true, false, cond, Option, Some, None, List, [], ◌∷◌, ◌++◌, length, take, drop, refl, ap, sym, ◌∙◌, arith, nat_lt}
use Rattle.std.specs.Prelude.{◌==◌, bytes_eq}
use Rattle.std.specs.List.{starts_with}
use Rattle.std.specs.Ordering.{eq_by_cmp}
use Rattle.std.specs.FinMap.Entries.{find, put, find-put}
use Rattle.std.proofs.lemmas.Bool.Decides.{Decides-eqb}
use Rattle.std.proofs.Math.Seq.{drop-append_seam}
use borrow.Author.Tests.{ltb-true, ltb-false}
use Rattle.hs_types.specs.Names.{Names}
use Rattle.hs_types.specs.declared.reply.Line.{Line}
use Rattle.hs_types.specs.declared.reply.LineKind.{LineKind}
use Rattle.hs_types.specs.declared.reply.LineKind.TheVariants.{Deleted, Renamed, Modified, Created}
use Rattle.hs_plain.specs.Tree.{path_cmp}
use Rattle.hs_plain.specs.Plan.{Lead, is_renamed, lead_of, lead_by, longer, longest, led, rest_below, translate}
use Rattle.hs_plain.proofs.ValidShapes.{same-itself, other-test, true_false, under_so, under_test, none_some, same_some}
use Rattle.hs_plain.proofs.ValidTrees.{paths_total}
use Rattle.distcp_plan.specs.Planned.{target_by}
use Rattle.distcp_plan.specs.inside.Leads.{Table, with_lead, lead_table, led_at, led_below, led_in}

-- by a test
pub by : {P : Type 0} (b : Bool) → (b ≡ true → P) → (b ≡ false → P) → P
by true yes_so no_so = yes_so refl
by false yes_so no_so = no_so refl

-- by whether there is one
pub by_one : {X P : Type 0} (o : Option X) → ((x : X) → o ≡ Some x → P) → (o ≡ None → P) → P
by_one None some none = none refl
by_one (Some x) some none = some x refl

lt_so : (a b : ℕ) → a < b → nat_lt a b ≡ true
lt_so a b h = by (nat_lt a b) (λ t. t) (λ f. let le : b ≤ a = ltb-false a b f in absurd (omega arith))

lt_not : (a b : ℕ) → b ≤ a → nat_lt a b ≡ false
lt_not a b h = by (nat_lt a b) (λ t. let lt : a < b = ltb-true a b t in absurd (omega arith)) (λ f. f)

-- ---- fronts of a path

take-short : (n : ℕ) (xs : Names) → length (take n xs) ≤ n
take-short zero xs = omega arith
take-short (suc n) [] = omega arith
take-short (suc n) (x ∷ xs) = let rest : length (take n xs) ≤ n = take-short n xs in omega arith

take-whole : (n : ℕ) (xs : Names) → n ≤ length xs → length (take n xs) ≡ n
take-whole zero xs h = refl
take-whole (suc n) [] h = absurd (omega arith)
take-whole (suc n) (x ∷ xs) h = let le : n ≤ length xs = omega arith in ap suc (take-whole n xs le)

take-seam : (xs ys : Names) → take (length xs) (xs ++ ys) ≡ xs
take-seam [] ys = refl
take-seam (x ∷ xs) ys = ap (λ (rest : Names). x ∷ rest) (take-seam xs ys)

take-drop : (n : ℕ) (xs : Names) → xs ≡ take n xs ++ drop n xs
take-drop zero xs = refl
take-drop (suc n) [] = refl
take-drop (suc n) (x ∷ xs) = ap (λ (rest : Names). x ∷ rest) (take-drop n xs)

-- ---- the best lead of a table

abbrev pick : Option Names → Names → Names → Option Lead → Option Lead
pick None source rest other = other
pick (Some target) source rest other = Some (record { source = source; target = target; rest = rest })

abbrev best : Table → Names → ℕ → Option Lead
best table path zero = None
best table path (suc n) = pick (find path_cmp (take n path) table) (take n path) (drop n path) (best table path n)

led-best : (table : Table) (path : Names) (n : ℕ) → led_below table path n ≡ led path (best table path n)
led-best table path zero = refl
led-best table path (suc n) = elim (find path_cmp (take n path) table) as (λ o. led_at o (drop n path) (led_below table path n) ≡ led path (pick o (take n path) (drop n path) (best table path n))) [
  | None ↦ led-best table path n
  | Some target ↦ refl
]

best-short : (table : Table) (path : Names) (n : ℕ) (lead : Lead) → best table path n ≡ Some lead → length lead.source < n
best-short table path zero lead h = absurd (none_some h)
best-short table path (suc n) lead h = at (find path_cmp (take n path) table) h (best-short table path n lead)
  where
    at : (o : Option Names) → pick o (take n path) (drop n path) (best table path n) ≡ Some lead → (best table path n ≡ Some lead → length lead.source < n) → length lead.source < suc n
    at None h below = let rest : length lead.source < n = below h in omega arith
    at (Some target) h below = let same : length (take n path) ≡ length lead.source = ap (λ (x : Lead). length x.source) (same_some h) in let few : length (take n path) ≤ n = take-short n path in omega arith

best-none : (path : Names) (n : ℕ) → best [] path n ≡ None
best-none path zero = refl
best-none path (suc n) = best-none path n

-- ---- one more source

module _ (k v : Names) (table : Table) where
  abbrev more : Table
  more = put path_cmp k v table

  found-other : (q : Names) → q ≢ k → find path_cmp q more ≡ find path_cmp q table
  found-other q ne = find-put path_cmp paths_total q k v table ∙ ap (λ b. cond b (Some v) (find path_cmp q table)) (other-test q k ne)

  found-same : (q : Names) → q ≡ k → find path_cmp q more ≡ Some v
  found-same q e = find-put path_cmp paths_total q k v table ∙ ap (λ (x : Names). cond (eq_by_cmp path_cmp x k) (Some v) (find path_cmp q table)) e ∙ ap (λ b. cond b (Some v) (find path_cmp q table)) (same-itself k)

  -- a source that isn't above the path changes nothing
  apart : (path : Names) → starts_with bytes_eq path k ≡ false → (n : ℕ) → best more path n ≡ best table path n
  apart path out zero = refl
  apart path out (suc n) =
      ap (λ o. pick o (take n path) (drop n path) (best more path n)) (found-other (take n path) differs)
      ∙ ap (pick (find path_cmp (take n path) table) (take n path) (drop n path)) (apart path out n)
    where
      differs : take n path ≢ k
      differs e = true_false (under_test path k (drop n path) (take-drop n path ∙ ap (λ (x : Names). x ++ drop n path) e)) out

  module _ (r : Names) where
    abbrev lead : Lead
    lead = record { source = k; target = v; rest = r }

    abbrev within : ℕ → Option Lead
    within n = cond (nat_lt (length k) n) (Some lead) None

    above : (n : ℕ) → n ≤ length (k ++ r) + 1 → best more (k ++ r) n ≡ longer (within n) (best table (k ++ r) n)
    above zero h = ap (λ b. longer (cond b (Some lead) None) None) (sym (lt_not (length k) 0 (omega arith)))
    above (suc m) h = by (m == length k) (λ t. here ((Decides-eqb m (length k)).0 t)) (λ f. there (λ e. true_false ((Decides-eqb m (length k)).1 e) f) (above m (omega arith)))
      where
        here : m ≡ length k → best more (k ++ r) (suc m) ≡ longer (within (suc m)) (best table (k ++ r) (suc m))
        here e =
            let front : take m (k ++ r) ≡ k = ap (λ (i : ℕ). take i (k ++ r)) e ∙ take-seam k r in
            let behind : drop m (k ++ r) ≡ r = ap (λ (i : ℕ). drop i (k ++ r)) e ∙ drop-append_seam k r in
            ap (λ o. pick o (take m (k ++ r)) (drop m (k ++ r)) (best more (k ++ r) m)) (found-same (take m (k ++ r)) front)
            ∙ (λ i. Some (record { source = front i; target = v; rest = behind i }))
            ∙ by_one (best table (k ++ r) (suc m))
            (λ other is. let few : length other.source < suc m = best-short table (k ++ r) (suc m) other is in
            sym (ap (λ o. longer (within (suc m)) o) is ∙ ap (λ b. longer (cond b (Some lead) None) (Some other)) (lt_so (length k) (suc m) (omega arith))
            ∙ ap (λ b. cond b (Some other) (Some lead)) (lt_not (length k) (length other.source) (omega arith))))
            (λ none. sym (ap (λ o. longer (within (suc m)) o) none ∙ ap (λ b. longer (cond b (Some lead) None) None) (lt_so (length k) (suc m) (omega arith))))

        there : m ≢ length k → best more (k ++ r) m ≡ longer (within m) (best table (k ++ r) m) → best more (k ++ r) (suc m) ≡ longer (within (suc m)) (best table (k ++ r) (suc m))
        there ne below =
            ap (λ o. pick o (take m (k ++ r)) (drop m (k ++ r)) (best more (k ++ r) m)) (found-other (take m (k ++ r)) differs)
            ∙ at (find path_cmp (take m (k ++ r)) table)
          where
            whole : length (take m (k ++ r)) ≡ m
            whole = take-whole m (k ++ r) (omega arith)

            differs : take m (k ++ r) ≢ k
            differs e = let l : length (take m (k ++ r)) ≡ length k = ap length e in ne (sym whole ∙ l)

            same_test : nat_lt (length k) (suc m) ≡ nat_lt (length k) m
            same_test = by (nat_lt (length k) m)
                (λ t. let lt : length k < m = ltb-true (length k) m t in lt_so (length k) (suc m) (omega arith) ∙ sym t)
                (λ f. let le : m ≤ length k = ltb-false (length k) m f in let apart : length k ≢ m = λ e. ne (sym e) in lt_not (length k) (suc m) (omega arith) ∙ sym f)

            closer : length k < suc m → length k < length (take m (k ++ r))
            closer lt = let apart : length k ≢ m = λ e. ne (sym e) in let is : length (take m (k ++ r)) ≡ m = whole in omega arith

            at : (o : Option Names) → pick o (take m (k ++ r)) (drop m (k ++ r)) (best more (k ++ r) m) ≡ longer (within (suc m)) (pick o (take m (k ++ r)) (drop m (k ++ r)) (best table (k ++ r) m))
            at None = below ∙ ap (λ b. longer (cond b (Some lead) None) (best table (k ++ r) m)) (sym same_test)
            at (Some u) = by (nat_lt (length k) (suc m))
                (λ t. let lt : length k < suc m = ltb-true (length k) (suc m) t in
                sym (ap (λ b. longer (cond b (Some lead) None) (Some (record { source = take m (k ++ r); target = u; rest = drop m (k ++ r) }))) t
                ∙ ap (λ b. cond b (Some (record { source = take m (k ++ r); target = u; rest = drop m (k ++ r) })) (Some lead)) (lt_so (length k) (length (take m (k ++ r))) (closer lt))))
                (λ f. sym (ap (λ b. longer (cond b (Some lead) None) (Some (record { source = take m (k ++ r); target = u; rest = drop m (k ++ r) }))) f))

    whole-path : best more (k ++ r) (length (k ++ r) + 1) ≡ longer (Some lead) (best table (k ++ r) (length (k ++ r) + 1))
    whole-path = above (length (k ++ r) + 1) (omega arith) ∙ ap (λ b. longer (cond b (Some lead) None) (best table (k ++ r) (length (k ++ r) + 1))) (lt_so (length k) (length (k ++ r) + 1) fits)
      where
        longer-front : (xs ys : Names) → length xs < length (xs ++ ys) + 1
        longer-front [] ys = omega arith
        longer-front (x ∷ xs) ys = let rest : length xs < length (xs ++ ys) + 1 = longer-front xs ys in omega arith

        fits : length k < length (k ++ r) + 1
        fits = longer-front k r

  put-best : (path : Names) → best more path (length path + 1) ≡ longer (lead_of k (Some v) (rest_below k path)) (best table path (length path + 1))
  put-best path = by (starts_with bytes_eq path k)
      (λ t. let is : path ≡ k ++ drop (length k) path = under_so path k t in
      ap (λ (p : Names). best more p (length p + 1)) is
      ∙ whole-path (drop (length k) path)
      ∙ ap (λ (p : Names). longer (Some (record { source = k; target = v; rest = drop (length k) path })) (best table p (length p + 1))) (sym is)
      ∙ sym (ap (λ b. longer (lead_of k (Some v) (cond b (Some (drop (length k) path)) None)) (best table path (length path + 1))) t))
      (λ f. apart path f (length path + 1) ∙ sym (ap (λ b. longer (lead_of k (Some v) (cond b (Some (drop (length k) path)) None)) (best table path (length path + 1))) f))

-- ---- all sources

step : (kind : LineKind) (to : Option Names) (k : Names) (table : Table) (path : Names) → best (with_lead k (target_by kind to) table) path (length path + 1) ≡ longer (cond (is_renamed kind) (lead_of k to (rest_below k path)) None) (best table path (length path + 1))
step Renamed (Some v) k table path = put-best k v table path
step Renamed None k table path = refl
step Deleted to k table path = refl
step Modified to k table path = refl
step Created to k table path = refl

best-longest : (lines : List Line) (path : Names) → best (lead_table lines) path (length path + 1) ≡ longest lines path
best-longest [] path = best-none path (length path + 1)
best-longest (line ∷ lines) path = step line.kind line.to line.path (lead_table lines) path ∙ ap (longer (lead_by line path)) (best-longest lines path)

pub led-translates : (lines : List Line) (path : Names) → led_in (lead_table lines) path ≡ translate lines path
led-translates lines path = led-best (lead_table lines) path (length path + 1) ∙ ap (led path) (best-longest lines path)

-- ---- one step of the search

pub led-next : (table : Table) (path : Names) (left : ℕ) → 0 < left → find path_cmp (take (left - 1) path) table ≡ None → led_below table path (left - 1) ≡ led_below table path left
led-next table path left some none =
    let e : left ≡ suc (left - 1) = omega arith in
    sym (ap (led_below table path) e ∙ ap (λ o. led_at o (drop (left - 1) path) (led_below table path (left - 1))) none)

pub led-here : (table : Table) (path target : Names) (left : ℕ) → 0 < left → find path_cmp (take (left - 1) path) table ≡ Some target → led_below table path left ≡ target ++ drop (left - 1) path
led-here table path target left some found =
    let e : left ≡ suc (left - 1) = omega arith in
    ap (led_below table path) e ∙ ap (λ o. led_at o (drop (left - 1) path) (led_below table path (left - 1))) found

pub led-none : (table : Table) (path : Names) (left : ℕ) → left ≤ 0 → led_below table path left ≡ path
led-none table path left none = let e : left ≡ 0 = omega arith in ap (led_below table path) e

take-all : (xs : Names) → take (length xs) xs ≡ xs
take-all [] = refl
take-all (x ∷ xs) = ap (λ (rest : Names). x ∷ rest) (take-all xs)

take-none : (n : ℕ) → take {A = List ℕ} n [] ≡ []
take-none zero = refl
take-none (suc n) = refl

pub take-rest : (m : ℕ) (xs : Names) → take (length xs - m) (drop m xs) ≡ drop m xs
take-rest zero xs = let e : length xs - 0 ≡ length xs = omega arith in ap (λ (n : ℕ). take n xs) e ∙ take-all xs
take-rest (suc m) [] = take-none (0 - suc m)
take-rest (suc m) (x ∷ xs) = let e : suc (length xs) - suc m ≡ length xs - m = omega arith in ap (λ (n : ℕ). take n (drop m xs)) e ∙ take-rest m xs

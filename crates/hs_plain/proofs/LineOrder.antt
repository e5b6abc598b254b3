-- The order of lines: it goes on, and decides between any two that differ in path or kind.
use Rattle.std.proofs.Common.{◌≡◌, ◌⊎◌, inl, inr, ℕ, nat_lt, Bool, true, false, cond, ◌&&◌, ◌||◌, List, [], ◌∷◌, ◌++◌, refl, ap, sym, ◌∙◌, arith}
use Rattle.std.specs.List.{AllByRecursion}
use Rattle.std.specs.Ordering.{is_lt, is_eq, ordering_reverse}
use Rattle.std.specs.declared.cmp.Ordering.{Ordering}
use Rattle.std.specs.declared.cmp.Ordering.TheVariants.{Less, Equal, Greater}
use Rattle.std.proofs.lemmas.Bool.Decides.{nat_tests}
use Rattle.hs_types.specs.Names.{Names}
use Rattle.hs_types.specs.declared.reply.Line.{Line}
use Rattle.hs_plain.specs.Tree.{path_cmp}
use Rattle.hs_plain.specs.Report.{rank_of, line_before, with_line, with_lines}
use Rattle.hs_plain.specs.Ordered.{AreOrdered}
use Rattle.hs_plain.proofs.ValidTrees.{paths_total, paths_exact}

-- what the order says by two paths and two ranks
abbrev before_by : Ordering → ℕ → ℕ → Bool
before_by o m n = is_lt o || (is_eq o && nat_lt m n)

pub path_itself : (path : Names) → path_cmp path path ≡ Equal
path_itself path = by (path_cmp path path) (paths_total.antisymm path path)
  where
    by : (o : Ordering) → o ≡ ordering_reverse o → o ≡ Equal
    by Less e = absurd (cc)
    by Equal e = refl
    by Greater e = absurd (cc)

lt-trans : (k m n : ℕ) → nat_lt k m ≡ true → nat_lt m n ≡ true → nat_lt k n ≡ true
lt-trans k m n a b = grind (arith, nat_tests)

pub before-trans : (a b c : Line) → line_before a b ≡ true → line_before b c ≡ true → line_before a c ≡ true
before-trans a b c ab bc = by (path_cmp a.path b.path) refl (path_cmp b.path c.path) refl ab bc
  where
    by : (o : Ordering) → path_cmp a.path b.path ≡ o → (p : Ordering) → path_cmp b.path c.path ≡ p → before_by o (rank_of a.kind) (rank_of b.kind) ≡ true → before_by p (rank_of b.kind) (rank_of c.kind) ≡ true → line_before a c ≡ true
    by Less e Less f h k = ap (λ o. before_by o (rank_of a.kind) (rank_of c.kind)) (paths_total.trans a.path b.path c.path e f)
    by Less e Equal f h k = ap (λ o. before_by o (rank_of a.kind) (rank_of c.kind)) (ap (path_cmp a.path) (sym (paths_exact b.path c.path f)) ∙ e)
    by Less e Greater f h k = absurd (cc)
    by Equal e Less f h k = ap (λ o. before_by o (rank_of a.kind) (rank_of c.kind)) (paths_total.congr a.path b.path c.path e ∙ f)
    by Equal e Equal f h k = ap (λ o. before_by o (rank_of a.kind) (rank_of c.kind)) (paths_total.congr a.path b.path c.path e ∙ f) ∙ lt-trans (rank_of a.kind) (rank_of b.kind) (rank_of c.kind) h k
    by Equal e Greater f h k = absurd (cc)
    by Greater e p f h k = absurd (cc)

-- one of two lines stands before the other
abbrev pub Apart : Line → Line → Type 0
Apart a b = (line_before a b ≡ true) ⊎ (line_before b a ≡ true)

pub apart : (a b : Line) → (a.path ≡ b.path → rank_of a.kind ≡ rank_of b.kind → ⊥) → Apart a b
apart a b differ = by (path_cmp a.path b.path) refl
  where
    back : (o : Ordering) → path_cmp a.path b.path ≡ o → path_cmp b.path a.path ≡ ordering_reverse o
    back o e = paths_total.antisymm b.path a.path ∙ ap ordering_reverse e

    same_rank : (m n : ℕ) → nat_lt m n ≡ false → nat_lt n m ≡ false → m ≡ n
    same_rank m n f g = grind (arith, nat_tests)

    by_rank : path_cmp a.path b.path ≡ Equal → (t u : Bool) → nat_lt (rank_of a.kind) (rank_of b.kind) ≡ t → nat_lt (rank_of b.kind) (rank_of a.kind) ≡ u → Apart a b
    by_rank e true u f g = inl (ap (λ o. before_by o (rank_of a.kind) (rank_of b.kind)) e ∙ f)
    by_rank e false true f g = inr (ap (λ o. before_by o (rank_of b.kind) (rank_of a.kind)) (back Equal e) ∙ g)
    by_rank e false false f g = absurd (differ (paths_exact a.path b.path e) (same_rank (rank_of a.kind) (rank_of b.kind) f g))

    by : (o : Ordering) → path_cmp a.path b.path ≡ o → Apart a b
    by Less e = inl (ap (λ o. before_by o (rank_of a.kind) (rank_of b.kind)) e)
    by Equal e = by_rank e (nat_lt (rank_of a.kind) (rank_of b.kind)) (nat_lt (rank_of b.kind) (rank_of a.kind)) refl refl
    by Greater e = inr (ap (λ o. before_by o (rank_of b.kind) (rank_of a.kind)) (back Greater e))

-- ---- lists

pub all-map : {X : Type 0} (P Q : X → Type 0) (xs : List X) → ((x : X) → P x → Q x) → AllByRecursion P xs → AllByRecursion Q xs
all-map P Q [] each all = tt
all-map P Q (x ∷ xs) each all = (each x all.0, all-map P Q xs each all.1)

pub all-append : {X : Type 0} (P : X → Type 0) (xs ys : List X) → AllByRecursion P xs → AllByRecursion P ys → AllByRecursion P (xs ++ ys)
all-append P [] ys all more = more
all-append P (x ∷ xs) ys all more = (all.0, all-append P xs ys all.1 more)

-- ---- lists in order

pub ordered-append : (lines more : List Line) → AreOrdered lines → AreOrdered more → AllByRecursion (λ line. AllByRecursion (λ other. line_before line other ≡ true) more) lines → AreOrdered (lines ++ more)
ordered-append [] more one two across = two
ordered-append (line ∷ lines) more one two across = (all-append (λ other. line_before line other ≡ true) lines more one.0 across.0, ordered-append lines more one.1 two across.1)

-- what holds of a line and of all others holds of all with it
pub all-with_line : (P : Line → Type 0) (line : Line) (lines : List Line) → P line → AllByRecursion P lines → AllByRecursion P (with_line line lines)
all-with_line P line [] one all = (one, tt)
all-with_line P line (other ∷ lines) one all =
    elim (line_before other line) as (λ b. AllByRecursion P (cond b (other ∷ with_line line lines) (line ∷ other ∷ lines))) [
      | true ↦ (all.0, all-with_line P line lines one all.1)
      | false ↦ (one, all)
    ]

pub all-with_lines : (P : Line → Type 0) (lines more : List Line) → AllByRecursion P lines → AllByRecursion P more → AllByRecursion P (with_lines lines more)
all-with_lines P [] more one two = two
all-with_lines P (line ∷ lines) more one two = all-with_line P line (with_lines lines more) one.0 (all-with_lines P lines more one.1 two)

-- a line put among others that are in order, and all apart from it, leaves them in order
pub ordered-with_line : (line : Line) (lines : List Line) → AreOrdered lines → AllByRecursion (Apart line) lines → AreOrdered (with_line line lines)
ordered-with_line line [] ordered all = (tt, tt)
ordered-with_line line (other ∷ lines) ordered all = by (line_before other line) refl (ordered-with_line line lines ordered.1 all.1)
  where
    first : line_before other line ≡ false → Apart line other → line_before line other ≡ true
    first e (inl so) = so
    first e (inr back) = absurd (cc)

    by : (b : Bool) → line_before other line ≡ b → AreOrdered (with_line line lines) → AreOrdered (cond b (other ∷ with_line line lines) (line ∷ other ∷ lines))
    by true e rest = (all-with_line (λ later. line_before other later ≡ true) line lines e ordered.0, rest)
    by false e rest =
        let so : line_before line other ≡ true = first e all.0 in
        ((so, all-map (λ later. line_before other later ≡ true) (λ later. line_before line later ≡ true) lines (λ later behind. before-trans line other later so behind) ordered.0), ordered)

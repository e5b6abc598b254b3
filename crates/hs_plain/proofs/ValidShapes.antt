-- A tree as a function from its paths to ids and kinds: what makes it one, and what keeps it one.
use Rattle.std.proofs.Common.{◌≡◌, ℕ, ◌+◌, ◌-◌, ◌<◌, Bool, true, false, List, [], ◌∷◌, ◌++◌, length, take, drop, Option, Some, None, refl, sym, ap, ◌∙◌, append_assoc, append-nil, length-append, arith}
use Rattle.std.specs.Prelude.{◌≢◌, bytes_eq}
use Rattle.std.specs.List.{starts_with}
use Rattle.std.specs.Ordering.{is_eq, eq_by_cmp}
use Rattle.std.specs.declared.cmp.Ordering.{Ordering}
use Rattle.std.specs.declared.cmp.Ordering.TheVariants.{Less, Equal, Greater}
use Rattle.std.proofs.lemmas.Cmp.{tied_itself}
use Rattle.std.proofs.lemmas.Slice.Eq.{starts_is, bytes_eq-Decides}
use Rattle.std.proofs.Math.Seq.{take-append_seam}
use Rattle.hs_types.specs.Names.{Names}
use Rattle.hs_plain.specs.Tree.{path_cmp, parent_of}
use Rattle.hs_plain.specs.Valid.{are_names}
use Rattle.hs_plain.proofs.ValidTrees.{paths_total, paths_exact}

-- ---- paths

is_equal : (r : Ordering) → is_eq r ≡ true → r ≡ Equal
is_equal Less h = cc
is_equal Equal h = refl
is_equal Greater h = cc

pub same_so : {p q : Names} → eq_by_cmp path_cmp p q ≡ true → p ≡ q
same_so {p} {q} h = paths_exact p q (is_equal _ h)

pub same-itself : (p : Names) → eq_by_cmp path_cmp p p ≡ true
same-itself p = ap is_eq (tied_itself paths_total p)

pub true_false : {b : Bool} → b ≡ true → b ≡ false → ⊥
true_false h g = cc

pub other_so : {p q : Names} → eq_by_cmp path_cmp p q ≡ false → p ≢ q
other_so {p} {q} h e = true_false (same-itself q) (ap (λ x. eq_by_cmp path_cmp x q) (sym e) ∙ h)

-- by whether two paths are one
pub by_same : {P : Type 0} (p q : Names) → (p ≡ q → P) → (p ≢ q → P) → P
by_same {P} p q here there = elim (eq_by_cmp path_cmp p q) as (λ b. eq_by_cmp path_cmp p q ≡ b → P) [ true ↦ λ h. here (same_so h) | false ↦ λ h. there (other_so h) ] refl

pub other-test : (p q : Names) → p ≢ q → eq_by_cmp path_cmp p q ≡ false
other-test p q ne = elim (eq_by_cmp path_cmp p q) as (λ b. eq_by_cmp path_cmp p q ≡ b → b ≡ false) [ true ↦ λ h. absurd (ne (same_so h)) | false ↦ λ h. refl ] refl

pub under_so : (q old : Names) → starts_with bytes_eq q old ≡ true → q ≡ old ++ drop (length old) q
under_so q old h = (starts_is bytes_eq-Decides q old (starts_with bytes_eq q old) refl).0 h

pub under_test : (q old rest : Names) → q ≡ old ++ rest → starts_with bytes_eq q old ≡ true
under_test q old rest e = (starts_is bytes_eq-Decides q old (starts_with bytes_eq q old) refl).1 rest e

-- by whether a path is another or below it
pub by_under : {P : Type 0} (q old : Names) → ((rest : Names) → q ≡ old ++ rest → P) → (((rest : Names) → q ≢ old ++ rest) → P) → P
by_under {P} q old under apart = elim (starts_with bytes_eq q old) as (λ b. starts_with bytes_eq q old ≡ b → P) [
  | true ↦ λ h. under (drop (length old) q) (under_so q old h)
  | false ↦ λ h. apart (λ rest e. true_false (under_test q old rest e) h)
] refl

-- no name, or a last one
pub by_last : (P : Names → Type 0) (q : Names) → P [] → ((above : Names) (name : List ℕ) → P (above ++ name ∷ [])) → P q
by_last P [] none last = none
by_last P (name ∷ q) none last = by_last (λ r. P (name ∷ r)) q (last [] name) (λ above other. last (name ∷ above) other)

pub parent_of-last : (above : Names) (name : List ℕ) → parent_of (above ++ name ∷ []) ≡ above
parent_of-last above name =
    let len : length (above ++ name ∷ []) ≡ length above + 1 = length-append above (name ∷ []) in
    ap (λ n. take n (above ++ name ∷ [])) {x = length (above ++ name ∷ []) - 1} {y = length above} (omega arith)
    ∙ take-append_seam above (name ∷ [])

pub not_last : (above : Names) (name : List ℕ) → above ++ name ∷ [] ≢ []
not_last [] name e = cc
not_last (other ∷ above) name e = cc

pub not_more : (p rest : Names) → [] ≡ p ++ rest → p ≡ []
not_more [] rest e = refl
not_more (name ∷ p) rest e = cc

-- ---- shapes

-- the id of a node, and whether it is a directory
abbrev pub Shape : Type 0
Shape = ℕ × Bool

abbrev pub Shapes : Type 0
Shapes = Names → Option Shape

abbrev pub is_dir_shape : Option Shape → Bool
is_dir_shape None = false
is_dir_shape (Some shape) = shape.1

pub none_some : {X : Type 0} {x : X} → None ≡ Some x → ⊥
none_some h = cc

pub same_some : {X : Type 0} {x y : X} → Some x ≡ Some y → x ≡ y
same_some h = cc

pub some_dir : (o : Option Shape) → is_dir_shape o ≡ true → (shape : Shape) × (o ≡ Some shape)
some_dir None h = absurd (true_false h refl)
some_dir (Some shape) h = (shape, refl)

-- a root, below it nothing without a directory above, paths of names alone, each id once and below a bound
pub record IsTree (f : Shapes) (next : ℕ) : Type 0 where
  pub root : f [] ≡ Some (1, true)
  pub above : (q : Names) (name : List ℕ) (s : Shape) → f (q ++ name ∷ []) ≡ Some s → is_dir_shape (f q) ≡ true
  pub once : (p q : Names) (a b : Shape) → f p ≡ Some a → f q ≡ Some b → a.0 ≡ b.0 → p ≡ q
  pub below : (q : Names) (s : Shape) → f q ≡ Some s → s.0 < next
  pub named : (q : Names) (s : Shape) → f q ≡ Some s → are_names q ≡ true

-- what is above a place of a tree is there
pub there_above : (f : Shapes) (next : ℕ) → IsTree f next → (p rest : Names) (s : Shape) → f (p ++ rest) ≡ Some s → (t : Shape) × (f p ≡ Some t)
there_above f next is p [] s h = (s, ap f (sym (append-nil p)) ∙ h)
there_above f next is p (name ∷ rest) s h =
    let t = there_above f next is (p ++ name ∷ []) rest s (ap f (append_assoc p (name ∷ []) rest) ∙ h) in
    some_dir (f p) (is.above p name t.0 t.1)

-- a new node with the next id, in a place that isn't a directory's
module _ (f : Shapes) (next : ℕ) (is : IsTree f next) (g : Shapes) (above : Names) (name : List ℕ) (dir : Bool) (parent : is_dir_shape (f above) ≡ true) (free : is_dir_shape (f (above ++ name ∷ [])) ≡ false) (named : are_names (above ++ name ∷ []) ≡ true)
    (here : g (above ++ name ∷ []) ≡ Some (next, dir)) (there : (q : Names) → q ≢ above ++ name ∷ [] → g q ≡ f q) where
  abbrev p : Names
  p = above ++ name ∷ []

  kept_dir : (q : Names) → is_dir_shape (f q) ≡ true → is_dir_shape (g q) ≡ true
  kept_dir q h = by_same q p (λ e. absurd (true_false (ap (λ (x : Names). is_dir_shape (f x)) (sym e) ∙ h) free)) (λ ne. ap is_dir_shape (there q ne) ∙ h)

  new : (q : Names) (s : Shape) → q ≡ p → g q ≡ Some s → s.0 ≡ next
  new q s e h = ap (λ (x : Shape). x.0) (same_some (sym h ∙ ap g e ∙ here))

  apart : (s t : Shape) → s.0 ≡ next → t.0 < next → s.0 ≡ t.0 → ⊥
  apart s t e lt same = omega arith

  was : (q : Names) (s : Shape) → q ≢ p → g q ≡ Some s → f q ≡ Some s
  was q s ne h = sym (there q ne) ∙ h

  above_made : (q : Names) (other : List ℕ) (s : Shape) → g (q ++ other ∷ []) ≡ Some s → is_dir_shape (g q) ≡ true
  above_made q other s h = by_same (q ++ other ∷ []) p
      (λ e. let up : q ≡ above = sym (parent_of-last q other) ∙ ap parent_of e ∙ parent_of-last above name in kept_dir q (ap (λ (x : Names). is_dir_shape (f x)) up ∙ parent))
      (λ ne. kept_dir q (is.above q other s (was _ s ne h)))

  once_made : (a b : Names) (s t : Shape) → g a ≡ Some s → g b ≡ Some t → s.0 ≡ t.0 → a ≡ b
  once_made a b s t h k same = by_same a p
      (λ e. by_same b p (λ d. e ∙ sym d) (λ ne. absurd (apart s t (new a s e h) (is.below b t (was b t ne k)) same)))
      (λ ne. by_same b p (λ d. absurd (apart t s (new b t d k) (is.below a s (was a s ne h)) (sym same))) (λ nd. is.once a b s t (was a s ne h) (was b t nd k) same))

  below_made : (q : Names) (s : Shape) → g q ≡ Some s → s.0 < next + 1
  below_made q s h = by_same q p (λ e. let same = new q s e h in omega arith) (λ ne. let lt = is.below q s (was q s ne h) in omega arith)

  named_made : (q : Names) (s : Shape) → g q ≡ Some s → are_names q ≡ true
  named_made q s h = by_same q p (λ e. ap are_names e ∙ named) (λ ne. is.named q s (was q s ne h))

  pub tree-made : IsTree g (next + 1)
  tree-made = record { root = there [] (λ e. not_last above name (sym e)) ∙ is.root; above = above_made; once = once_made; below = below_made; named = named_made }

-- nothing any more at a path and below it
module _ (f : Shapes) (next : ℕ) (is : IsTree f next) (g : Shapes) (p : Names) (below_root : p ≢ []) (gone : (rest : Names) → g (p ++ rest) ≡ None) (there : (q : Names) → ((rest : Names) → q ≢ p ++ rest) → g q ≡ f q) where
  left : (q : Names) (s : Shape) → g q ≡ Some s → f q ≡ Some s
  left q s h = by_under q p (λ rest e. absurd (none_some (sym (gone rest) ∙ ap g (sym e) ∙ h))) (λ apart. sym (there q apart) ∙ h)

  above_left : (q : Names) (name : List ℕ) (s : Shape) → g (q ++ name ∷ []) ≡ Some s → is_dir_shape (g q) ≡ true
  above_left q name s h = by_under q p
      (λ rest e. absurd (none_some (sym (gone (rest ++ name ∷ [])) ∙ ap g (sym (append_assoc p rest (name ∷ [])) ∙ ap (λ (x : Names). x ++ name ∷ []) (sym e)) ∙ h)))
      (λ apart. ap is_dir_shape (there q apart) ∙ is.above q name s (left _ s h))

  pub tree-removed : IsTree g next
  tree-removed = record {
    root = there [] (λ rest e. below_root (not_more p rest e)) ∙ is.root;
    above = above_left;
    once = λ a b s t h k same. is.once a b s t (left a s h) (left b t k) same;
    below = λ q s h. is.below q s (left q s h);
    named = λ q s h. is.named q s (left q s h);
  }

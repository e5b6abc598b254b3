-- Lines in their order are told by their elements.
use Rattle.std.proofs.Common.{◌≡◌, ◌⊎◌, inl, inr, ℕ, true, false, ◌||◌, ◌&&◌, nat_lt, List, [], ◌∷◌, refl, ap, sym, subst, ◌∙◌, arith}
use Rattle.std.specs.List.{AllByRecursion}
use Rattle.std.specs.Ordering.{is_lt, is_eq}
use Rattle.std.proofs.lemmas.Bool.Decides.{nat_tests}
use Rattle.hs_types.specs.declared.reply.Line.{Line}
use Rattle.hs_plain.specs.Report.{rank_of, line_before}
use Rattle.hs_plain.specs.Ordered.{AreOrdered}
use Rattle.hs_plain.proofs.ValidLists.{In}
use Rattle.hs_plain.proofs.ValidShapes.{true_false}
use Rattle.hs_plain.proofs.LineOrder.{path_itself, before-trans}

-- a line isn't before itself
pub not-before : (line : Line) → line_before line line ≡ true → ⊥
not-before line h = true_false h (ap (λ o. is_lt o || (is_eq o && nat_lt (rank_of line.kind) (rank_of line.kind))) (path_itself line.path) ∙ same_rank (rank_of line.kind))
  where
    same_rank : (n : ℕ) → nat_lt n n ≡ false
    same_rank n = grind (arith, nat_tests)

pub all-at : {X : Type 0} (P : X → Type 0) (xs : List X) → AllByRecursion P xs → (x : X) → In xs x → P x
all-at P [] all x at = absurd at
all-at P (y ∷ ys) all x (inl e) = subst P e all.0
all-at P (y ∷ ys) all x (inr at) = all-at P ys all.1 x at

empty-list : (xs : List Line) → ((x : Line) → In xs x → ⊥) → xs ≡ []
empty-list [] none = refl
empty-list (x ∷ xs) none = absurd (none x (inl refl))

-- an element behind the first
behind : {h : Line} (zs : List Line) (z : Line) → (h ≡ z) ⊎ In zs z → (h ≡ z → ⊥) → In zs z
behind zs z (inl same) other = absurd (other same)
behind zs z (inr at) other = at

-- what stands behind the first of one list stands behind that of the other
tails-in : (x y : Line) (xs ys : List Line) → x ≡ y → AreOrdered (x ∷ xs) → ((z : Line) → In (x ∷ xs) z → In (y ∷ ys) z) → (z : Line) → In xs z → In ys z
tails-in x y xs ys e is there z at =
    behind ys z (there z (inr at)) (λ same. not-before x (subst (λ w. line_before x w ≡ true) (sym same ∙ sym e) (all-at (λ other. line_before x other ≡ true) xs is.0 z at)))

heads : (x y : Line) (xs ys : List Line) → AreOrdered (x ∷ xs) → AreOrdered (y ∷ ys) → In (y ∷ ys) x → In (x ∷ xs) y → x ≡ y
heads x y xs ys a_is b_is (inl e) back = sym e
heads x y xs ys a_is b_is (inr at) (inl e) = e
heads x y xs ys a_is b_is (inr at) (inr below) =
    absurd (not-before x (before-trans x y x (all-at (λ other. line_before x other ≡ true) xs a_is.0 y below) (all-at (λ other. line_before y other ≡ true) ys b_is.0 x at)))

pub one-order : (a b : List Line) → AreOrdered a → AreOrdered b → ((x : Line) → In a x → In b x) → ((x : Line) → In b x → In a x) → a ≡ b
one-order [] b a_is b_is there back = sym (empty-list b back)
one-order (x ∷ xs) [] a_is b_is there back = absurd (there x (inl refl))
one-order (x ∷ xs) (y ∷ ys) a_is b_is there back =
    let e : x ≡ y = heads x y xs ys a_is b_is (there x (inl refl)) (back y (inl refl)) in
    let rest : xs ≡ ys = one-order xs ys a_is.1 b_is.1 (tails-in x y xs ys e a_is there) (tails-in y x ys xs (sym e) b_is back) in
    (λ i. e i ∷ rest i)

-- Lists of paths in which none stands twice.
use Rattle.std.proofs.Common.{◌≡◌, inl, inr, suc, ◌+◌, ◌≤◌, true, Option, Some, None, List, [], ◌∷◌, ◌++◌, length, refl, ap, sym, subst, ◌∙◌, arith}
use Rattle.std.specs.List.{filter_map, cons_option}
use Rattle.std.specs.Ordering.{is_lt}
use Rattle.std.specs.FinMap.Entries.{is_sorted, below_all}
use Rattle.std.proofs.lemmas.List.{length-append}
use Rattle.hs_types.specs.Names.{Names}
use Rattle.hs_plain.specs.declared.state.Node.{Node}
use Rattle.hs_plain.specs.Tree.{Tree, path_cmp}
use Rattle.hs_plain.specs.Plan.{rest_below}
use Rattle.hs_plain.proofs.ValidTrees.{first, second}
use Rattle.hs_plain.proofs.ValidShapes.{none_some}
use Rattle.hs_plain.proofs.ValidLists.{In, in-left, in-right, by_append, filter_map_so}
use Rattle.plan_laws.proofs.Lists.{before-none}
use Rattle.plan_laws.proofs.Paths.{rest-here}

abbrev pub IsOnce : {X : Type 0} → List X → Type 0
IsOnce [] = Unit {0}
IsOnce (x ∷ xs) = (In xs x → ⊥) × IsOnce xs

module _ {X : Type 0} where
  pub once-append : (xs ys : List X) → IsOnce xs → IsOnce ys → ((x : X) → In xs x → In ys x → ⊥) → IsOnce (xs ++ ys)
  once-append [] ys h k apart = k
  once-append (x ∷ xs) ys h k apart = ((λ at. by_append xs ys x at h.0 (λ there. apart x (inl refl) there)), once-append xs ys h.1 k (λ y left right. apart y (inr left) right))

  -- what stands before an element isn't that element
  pub once-apart : (xs : List X) (x : X) (ys : List X) → IsOnce (xs ++ x ∷ ys) → In xs x → ⊥
  once-apart [] x ys h at = at
  once-apart (y ∷ xs) x ys h (inl e) = h.0 (subst (In (xs ++ x ∷ ys)) (sym e) (in-right xs (x ∷ ys) x (inl refl)))
  once-apart (y ∷ xs) x ys h (inr at) = once-apart xs x ys h.1 at

  -- a list without an element that stands in it
  record IsSplit (ys : List X) (x : X) : Type 0 where
    before : List X
    after : List X
    is : ys ≡ before ++ x ∷ after

  split-in : (ys : List X) (x : X) → In ys x → IsSplit ys x
  split-in [] x at = absurd at
  split-in (y ∷ ys) x (inl e) = record { before = []; after = ys; is = ap (λ z. z ∷ ys) e }
  split-in (y ∷ ys) x (inr at) = let rest : IsSplit ys x = split-in ys x at in record { before = y ∷ rest.before; after = rest.after; is = ap (λ zs. y ∷ zs) rest.is }

  -- elements of another list, none of them twice, are no more than that list has
  pub once-few : (xs ys : List X) → IsOnce xs → ((x : X) → In xs x → In ys x) → length xs ≤ length ys
  once-few [] ys h within = omega arith
  once-few (x ∷ xs) ys h within =
      let place : IsSplit ys x = split-in ys x (within x (inl refl)) in
      let rest : length xs ≤ length (place.before ++ place.after) = once-few xs (place.before ++ place.after) h.1 (λ z at. other place.before place.after z (λ e. h.0 (subst (In xs) (sym e) at)) (subst (λ (zs : List X). In zs z) place.is (within z (inr at)))) in
      let whole : length ys ≡ length (place.before ++ x ∷ place.after) = ap length place.is in
      let left : length (place.before ++ x ∷ place.after) ≡ length place.before + suc (length place.after) = length-append place.before (x ∷ place.after) in
      let less : length (place.before ++ place.after) ≡ length place.before + length place.after = length-append place.before place.after in
      omega arith
    where
      other : (before after : List X) (z : X) → (x ≡ z → ⊥) → In (before ++ x ∷ after) z → In (before ++ after) z
      other before after z ne at = by_append before (x ∷ after) z at (λ here. in-left before after z here) (λ there. behind there)
        where
          behind : In (x ∷ after) z → In (before ++ after) z
          behind (inl e) = absurd (ne e)
          behind (inr later) = in-right before after z later

-- what a tree's places give by their paths
module _ {B : Type 0} where
  below-in : (path : Names) (tree : Tree B) → below_all path_cmp path tree ≡ true → (place : Names × Node B) → In tree place → is_lt (path_cmp path place.0) ≡ true
  below-in path [] h place at = absurd at
  below-in path (e ∷ es) h place (inl same) = ap (λ (x : Names × Node B). is_lt (path_cmp path x.0)) (sym same) ∙ first (is_lt (path_cmp path e.0)) _ h
  below-in path (e ∷ es) h place (inr at) = below-in path es (second (is_lt (path_cmp path e.0)) _ h) place at

  pub not-again : (e : Names × Node B) (es : Tree B) → is_sorted path_cmp (e ∷ es) ≡ true → (place : Names × Node B) → In es place → place.0 ≡ e.0 → ⊥
  not-again e es sorted place at same =
      let less : is_lt (path_cmp e.0 place.0) ≡ true = below-in e.0 es (first (below_all path_cmp e.0 es) _ sorted) place at in
      none_some (sym (before-none e.0 e.0 (ap (λ (p : Names). is_lt (path_cmp e.0 p)) (sym same) ∙ less)) ∙ ap (rest_below e.0) (sym (append-empty e.0)) ∙ rest-here e.0 [])
    where
      append-empty : (p : Names) → p ++ [] ≡ p
      append-empty [] = refl
      append-empty (n ∷ p) = ap (λ (q : Names). n ∷ q) (append-empty p)

  pub once-places : (f : Names × Node B → Option Names) → ((place : Names × Node B) (path : Names) → f place ≡ Some path → path ≡ place.0) → (tree : Tree B) → is_sorted path_cmp tree ≡ true → IsOnce (filter_map f tree)
  once-places f own [] sorted = tt
  once-places f own (e ∷ es) sorted = by-head (f e) refl (once-places f own es (second (below_all path_cmp e.0 es) _ sorted))
    where
      by-head : (o : Option Names) → f e ≡ o → IsOnce (filter_map f es) → IsOnce (cons_option o (filter_map f es))
      by-head None h rest = rest
      by-head (Some path) h rest = (
        (λ at. let place = filter_map_so f es path at in not-again e es sorted place.0 place.1 (sym (own place.0 path place.2) ∙ own e path h)),
        rest,
      )

-- The outs and the puts of a plan, in two valid trees of one root.
use Rattle.std.proofs.Common.{◌≡◌, ◌⊎◌, inl, inr, ℕ, ◌+◌, Bool, true, false, ◌||◌, cond, Option, Some, None, is_some, List, [], ◌∷◌, ◌++◌, map, length, refl, ap, sym, subst, ◌∙◌, append-nil, append_assoc, arith}
use Rattle.std.specs.Prelude.{not}
use Rattle.std.specs.List.{filter, filter_map, cons_option, AllByRecursion}
use Rattle.std.specs.Ordering.{is_lt}
use Rattle.std.specs.FinMap.Entries.{is_sorted, below_all}
use Rattle.hs_types.specs.Names.{Names}
use Rattle.hs_plain.specs.declared.state.Node.{Node}
use Rattle.hs_plain.specs.Tree.{Tree, path_cmp, node_at, is_dir, parent_of, place_of}
use Rattle.hs_plain.proofs.ValidTrees.{first, second}
use Rattle.hs_plain.proofs.ValidShapes.{none_some, same_some, true_false, by_last, not_last}
use Rattle.hs_plain.proofs.ValidPlaces.{head_at, in_tail, by_place, missing_below, one_place}
use Rattle.hs_plain.specs.Plan.{rest_below, goes_by, goes, outs, index_of}
use Rattle.plan_laws.specs.Sight.{Sight, Placing, Back, New, target, targets, hits, unless, cuts, is_in, inside_or, at_top, made_sight, outs_done, puts_done, NoneBelow, Rises, IsNotIn, OutsGo, PutsGo, Ready, IsOther, NumberOnce, IsLinked, Stands}
use Rattle.hs_plain.specs.Report.{same_place, last_of}
use Rattle.plan_laws.specs.Placings.{placing_by, placing_at, placings}
use Rattle.plan_laws.specs.Pair.{IsTree, IsPair, HasSameBytes, if_old, old_sight, Alike}
use Rattle.plan_laws.proofs.Paths.{by, by_one, rest-here, outside-none}
use Rattle.plan_laws.proofs.Outs.{outs-outside, outs-inside, outs-go, outs-top}
use Rattle.plan_laws.proofs.Puts.{puts-stand, puts-go, puts-top}
use Rattle.plan_laws.proofs.Cuts.{hits-cuts}
use Rattle.plan_laws.proofs.Alike.{both-at, alike-below}
use Rattle.plan_laws.proofs.Lists.{pairwise-reverse, pairwise-before, pairwise-after, each-reverse, hits-left, hits-right, split, index-once, before-none}
use Rattle.plan_laws.proofs.Places.{path_of_place, place_of-so, place_of-here, none-below}
use Rattle.plan_laws.proofs.Child.{out-so, lands, put-by, is_old, comes, alike-so, alike-itself, dir-old, old-dirs, differ, same_place_new}

module _ {B : Type 0} where
  -- ---- what holds of each element of a list that is made of a tree's places

  below-so : (x : Names) (tree : Tree B) (q : Names) (m : Node B) → below_all path_cmp x tree ≡ true → node_at tree q ≡ Some m → is_lt (path_cmp x q) ≡ true
  below-so x [] q m h at = absurd (none_some at)
  below-so x (e ∷ es) q m h at = by_place e es q m at
      (λ qe me. ap (λ (y : Names). is_lt (path_cmp x y)) qe ∙ first (is_lt (path_cmp x e.0)) _ h)
      (λ bt. below-so x es q m (second (is_lt (path_cmp x e.0)) _ h) bt)

  each-filter : (P : Names → Type 0) (test : Names × Node B → Bool) (tree : Tree B) → is_sorted path_cmp tree ≡ true →
      ((q : Names) (m : Node B) → node_at tree q ≡ Some m → test (q, m) ≡ true → P q) → AllByRecursion P (map path_of_place (filter test tree))
  each-filter P test [] h all = tt
  each-filter P test (e ∷ es) h all =
      let rest : AllByRecursion P (map path_of_place (filter test es)) = each-filter P test es (second (below_all path_cmp e.0 es) _ h) (λ q m at. all q m (in_tail e es q m (first (below_all path_cmp e.0 es) _ h) at)) in
      (elim (test e) as (λ b. test e ≡ b → AllByRecursion P (map path_of_place (cond b (e ∷ filter test es) (filter test es)))) [
        | true ↦ λ t. (all e.0 e.1 (head_at e es) t, rest)
        | false ↦ λ t. rest
      ]) refl

  pub rises-filter : (test : Names × Node B → Bool) (tree : Tree B) → is_sorted path_cmp tree ≡ true → Rises (map path_of_place (filter test tree))
  rises-filter test [] h = tt
  rises-filter test (e ∷ es) h =
      let rest : Rises (map path_of_place (filter test es)) = rises-filter test es (second (below_all path_cmp e.0 es) _ h) in
      let above : AllByRecursion (λ later. rest_below later e.0 ≡ None) (map path_of_place (filter test es)) = each-filter (λ later. rest_below later e.0 ≡ None) test es (second (below_all path_cmp e.0 es) _ h)
      (λ q m at _. before-none e.0 q (below-so e.0 es q m (first (below_all path_cmp e.0 es) _ h) at)) in
      elim (test e) as (λ b. Rises (map path_of_place (cond b (e ∷ filter test es) (filter test es)))) [
        | true ↦ (above, rest)
        | false ↦ rest
      ]

  module _ (f : Names × Node B → Option (Placing (Node B))) where
    pub each-put : (P : Placing (Node B) → Type 0) (tree : Tree B) → is_sorted path_cmp tree ≡ true →
        ((q : Names) (m : Node B) (put : Placing (Node B)) → node_at tree q ≡ Some m → f (q, m) ≡ Some put → P put) → AllByRecursion P (filter_map f tree)
    each-put P [] h all = tt
    each-put P (e ∷ es) h all =
        let rest : AllByRecursion P (filter_map f es) = each-put P es (second (below_all path_cmp e.0 es) _ h) (λ q m put at. all q m put (in_tail e es q m (first (below_all path_cmp e.0 es) _ h) at)) in
        (elim (f e) as (λ o. f e ≡ o → AllByRecursion P (cons_option o (filter_map f es))) [
          | None ↦ λ t. rest
          | Some put ↦ λ t. (all e.0 e.1 put (head_at e es) t, rest)
        ]) refl

    each-target : (P : Names → Type 0) (ps : List (Placing (Node B))) → AllByRecursion (λ put. P (target put)) ps → AllByRecursion P (targets ps)
    each-target P [] h = tt
    each-target P (put ∷ ps) h = (h.0, each-target P ps h.1)

    rises-targets : ((q : Names) (m : Node B) (put : Placing (Node B)) → f (q, m) ≡ Some put → target put ≡ q) → (tree : Tree B) → is_sorted path_cmp tree ≡ true → Rises (targets (filter_map f tree))
    rises-targets land [] h = tt
    rises-targets land (e ∷ es) h =
        let rest : Rises (targets (filter_map f es)) = rises-targets land es (second (below_all path_cmp e.0 es) _ h) in
        let above : AllByRecursion (λ later. rest_below later e.0 ≡ None) (targets (filter_map f es)) = each-target (λ later. rest_below later e.0 ≡ None) (filter_map f es)
        (each-put (λ put. rest_below (target put) e.0 ≡ None) es (second (below_all path_cmp e.0 es) _ h)
        (λ q m put at is. ap (λ (x : Names). rest_below x e.0) (land q m put is) ∙ before-none e.0 q (below-so e.0 es q m (first (below_all path_cmp e.0 es) _ h) at))) in
        (elim (f e) as (λ o. f e ≡ o → Rises (targets (cons_option o (filter_map f es)))) [
          | None ↦ λ t. rest
          | Some put ↦ λ t. (subst (λ (x : Names). AllByRecursion (λ later. rest_below later x ≡ None) (targets (filter_map f es))) (sym (land e.0 e.1 put t)) above, rest)
        ]) refl

  linked : (all before : List Names) (ps : List (Placing (Node B))) → all ≡ before ++ targets ps → Rises all → IsLinked (is_in all) ps
  linked all before [] e rises = tt
  linked all before (put ∷ ps) e rises =
      let there : Rises (before ++ target put ∷ targets ps) = subst Rises e rises in
      let later : AllByRecursion (λ later. rest_below later (target put) ≡ None) (targets ps) = pairwise-after (λ path later. rest_below later path ≡ None) before (target put) (targets ps) there in
      let earlier : AllByRecursion (λ path. rest_below (target put) path ≡ None) before = pairwise-before (λ path later. rest_below later path ≡ None) before (target put) (targets ps) there in (
        later,
        (λ r. hits-right before (target put) (targets ps) r earlier later ∙ ap (λ (paths : List Names). cuts (λ x. is_in paths (target put ++ x)) r) (sym e)),
        linked all (before ++ target put ∷ []) ps (e ∙ sym (append_assoc before (target put ∷ []) (targets ps))) rises,
      )

module _ {B : Type 0} (from to : Tree B) (is : IsPair from to) (bytes : HasSameBytes from to) (tmp : List ℕ) (number : ℕ → List ℕ) (once : (i j : ℕ) → number i ≡ number j → i ≡ j) (top : Node B) (top_dir : is_dir top ≡ true)
    (from_free : node_at from (tmp ∷ []) ≡ None) (to_free : node_at to (tmp ∷ []) ≡ None) where
  -- the first tree with tmp
  abbrev pub begun : Sight (Node B)
  begun = made_sight (node_at from) (tmp ∷ []) top

  abbrev pub outs_over : Sight (Node B)
  outs_over = outs_done tmp number begun 0 (outs from to)

  -- ---- below tmp is nothing yet

  pub none-under : (tree : Tree B) → IsTree tree → (r p : Names) → node_at tree p ≡ None → node_at tree (p ++ r) ≡ None
  none-under tree whole [] p none = ap (node_at tree) (append-nil p) ∙ none
  none-under tree whole (n ∷ r) p none = ap (node_at tree) (sym (append_assoc p (n ∷ []) r)) ∙ none-under tree whole r (p ++ n ∷ []) (none-below tree whole p n none)

  pub outside : (tree : Tree B) → IsTree tree → node_at tree (tmp ∷ []) ≡ None → (above : Names) (name : List ℕ) (m : Node B) → node_at tree (above ++ name ∷ []) ≡ Some m → IsNotIn tmp (above ++ name ∷ [])
  outside tree whole free [] name m at = λ e. none_some (sym free ∙ ap (λ (x : List ℕ). node_at tree (x ∷ [])) (sym e) ∙ at)
  outside tree whole free (a ∷ above) name m at = λ e. none_some (sym (none-under tree whole (above ++ name ∷ []) (tmp ∷ []) free) ∙ ap (λ (x : List ℕ). node_at tree (x ∷ above ++ name ∷ [])) (sym e) ∙ at)

  pub outside-so : (tree : Tree B) → IsTree tree → node_at tree (tmp ∷ []) ≡ None → (q : Names) (m : Node B) → (q ≡ [] → ⊥) → node_at tree q ≡ Some m → IsNotIn tmp q
  outside-so tree whole free q m below at = by_last (λ q. (q ≡ [] → ⊥) → node_at tree q ≡ Some m → IsNotIn tmp q) q (λ below at. below refl) (λ above name below at. outside tree whole free above name m at) below at

  begun-outside : (q : Names) → rest_below (tmp ∷ []) q ≡ None → begun q ≡ node_at from q
  begun-outside q out = ap (λ o. inside_or o (at_top top (node_at from q)) (node_at from q)) out

  begun-top : begun (tmp ∷ []) ≡ Some top
  begun-top = ap (λ o. inside_or o (at_top top (node_at from (tmp ∷ []))) (node_at from (tmp ∷ []))) (rest-here (tmp ∷ []) [])

  begun-free : (j : ℕ) → begun (tmp ∷ number j ∷ []) ≡ None
  begun-free j = ap (λ o. inside_or o (at_top top (node_at from (tmp ∷ number j ∷ []))) (node_at from (tmp ∷ number j ∷ []))) (rest-here (tmp ∷ []) (number j ∷ [])) ∙ none-under from is.from_tree (number j ∷ []) (tmp ∷ []) from_free

  -- ---- the outs

  goes-below : (p : Names) (x : Node B) → node_at from p ≡ Some x → goes from to (p, x) ≡ true → (p ≡ [] → ⊥)
  goes-below p x at go e =
      let root : x ≡ is.from_root = same_some (sym at ∙ ap (node_at from) e ∙ is.from_at) in
      let there : place_of to x.id ≡ Some ([], is.to_root) = place_of-here to is.to_tree [] is.to_root x.id is.to_at (ap (λ (n : Node B). n.id.0) root ∙ is.same_root) in
      true_false go (ap (goes_by from to p) there ∙ ap (λ (q : Names). not (same_place from to q [])) e)

  each-out : (P : Names → Type 0) → ((p : Names) (x : Node B) → node_at from p ≡ Some x → goes from to (p, x) ≡ true → P p) → AllByRecursion P (outs from to)
  each-out P all = each-reverse P (map path_of_place (filter (goes from to) from)) (each-filter P (goes from to) from is.from_tree.sorted all)

  pub outs-outside-tmp : AllByRecursion (IsNotIn tmp) (outs from to)
  outs-outside-tmp = each-out (IsNotIn tmp) (λ p x at go. outside-so from is.from_tree from_free p x (goes-below p x at go) at)

  pub outs-fall : NoneBelow (outs from to)
  outs-fall = pairwise-reverse (λ path later. rest_below later path ≡ None) (map path_of_place (filter (goes from to) from)) (rises-filter (goes from to) from is.from_tree.sorted)

  -- each out is accepted
  pub all-outs-go : OutsGo is_dir tmp number begun 0 (outs from to)
  all-outs-go = outs-go tmp number once is_dir (outs from to) begun 0 outs-outside-tmp outs-fall
      (each-out (λ p. is_some (begun p) ≡ true) (λ p x at go. ap is_some (begun-outside p (ap (rest_below (tmp ∷ [])) (sym (append-nil p)) ∙ outside-none tmp [] p [] (outside-so from is.from_tree from_free p x (goes-below p x at go) at)) ∙ at)))
      (top, begun-top, top_dir)
      (λ j _. begun-free j)

  -- after the outs each node outside of tmp stands in its place in both trees
  pub outs-stand : Stands (Alike from) (old_sight from to) tmp outs_over (targets (placings from to))
  outs-stand q out = both-at (Alike from)
      (outs-outside tmp number once (outs from to) begun 0 q out ∙ ap (unless (hits (outs from to) q)) (begun-outside q out)
      ∙ ap (λ b. unless b (node_at from q)) (hits-cuts (outs from to) [] q (each-out (λ p. rest_below p [] ≡ None) (λ p x at go. not-below p (goes-below p x at go)))))
      (ap (λ b. unless b (old_sight from to q)) (hits-cuts (targets (placings from to)) [] q (no-root (placings from to))))
      (alike-below (Alike from) (node_at from) (old_sight from to) (is_in (outs from to)) (is_in (targets (placings from to))) (differ from to is bytes) q [] [] is.from_root is.to_root is.from_at root_old root_alike)
    where
      not-below : (p : Names) → (p ≡ [] → ⊥) → rest_below p [] ≡ None
      not-below [] below = absurd (below refl)
      not-below (n ∷ p) below = refl

      no-root : (ps : List (Placing (Node B))) → AllByRecursion (λ p. rest_below p [] ≡ None) (targets ps)
      no-root [] = tt
      no-root (Back i above name ∷ ps) = (not-below (above ++ name ∷ []) (not_last above name), no-root ps)
      no-root (New node above name ∷ ps) = (not-below (above ++ name ∷ []) (not_last above name), no-root ps)

      root_alike : Alike from is.from_root is.to_root
      root_alike = alike-so from to is bytes [] [] is.from_root is.to_root is.from_at is.to_at is.same_root

      root_there : place_of from is.to_root.id ≡ Some ([], is.from_root)
      root_there = place_of-here from is.from_tree [] is.from_root is.to_root.id is.from_at (sym is.same_root)

      root_old : old_sight from to [] ≡ Some is.to_root
      root_old = dir-old from to is [] is.to_root is.to_at (or_some (is_dir is.to_root) (is_some (place_of from is.to_root.id)) (ap is_some root_there))
        where
          or_some : (a b : Bool) → b ≡ true → (a || b) ≡ true
          or_some true b h = refl
          or_some false b h = h

  -- ---- the puts

  -- what a put is made of
  pub put-parts : {P : Type 0} (q : Names) (m : Node B) (put : Placing (Node B)) → placing_at from to (q, m) ≡ Some put →
      ((above : Names) (name : List ℕ) (old : Names × Node B) → q ≡ above ++ name ∷ [] → place_of from m.id ≡ Some old → same_place from to old.0 q ≡ false → put ≡ Back (index_of (outs from to) old.0) (parent_of q) (last_of q) → P) →
      ((above : Names) (name : List ℕ) → q ≡ above ++ name ∷ [] → place_of from m.id ≡ None → is_dir m ≡ true → put ≡ New m (parent_of q) (last_of q) → P) → P
  put-parts {P} q m put h back new = by_last
      (λ q. placing_at from to (q, m) ≡ Some put →
      ((above : Names) (name : List ℕ) (old : Names × Node B) → q ≡ above ++ name ∷ [] → place_of from m.id ≡ Some old → same_place from to old.0 q ≡ false → put ≡ Back (index_of (outs from to) old.0) (parent_of q) (last_of q) → P) →
      ((above : Names) (name : List ℕ) → q ≡ above ++ name ∷ [] → place_of from m.id ≡ None → is_dir m ≡ true → put ≡ New m (parent_of q) (last_of q) → P) → P)
      q
      (λ h back new. absurd (none_some h))
      (λ above name h back new. by_one (place_of from m.id)
      (λ old at. by (same_place from to old.0 (above ++ name ∷ []))
      (λ t. absurd (none_some (sym (ap (λ b. cond b None (Some (Back (index_of (outs from to) old.0) (parent_of (above ++ name ∷ [])) (last_of (above ++ name ∷ []))))) t) ∙ sym (ap (placing_by from to (above ++ name ∷ [], m)) at) ∙ sym (put-by from to is above name m) ∙ h)))
      (λ f. back above name old refl at f (same_some (sym h ∙ put-by from to is above name m ∙ ap (placing_by from to (above ++ name ∷ [], m)) at ∙ ap (λ b. cond b None (Some (Back (index_of (outs from to) old.0) (parent_of (above ++ name ∷ [])) (last_of (above ++ name ∷ []))))) f))))
      (λ none. by (is_dir m)
      (λ t. new above name refl none t (same_some (sym h ∙ put-by from to is above name m ∙ ap (placing_by from to (above ++ name ∷ [], m)) none ∙ ap (λ b. cond b (Some (New m (parent_of (above ++ name ∷ [])) (last_of (above ++ name ∷ [])))) None) t)))
      (λ f. absurd (none_some (sym (ap (λ b. cond b (Some (New m (parent_of (above ++ name ∷ [])) (last_of (above ++ name ∷ [])))) None) f) ∙ sym (ap (placing_by from to (above ++ name ∷ [], m)) none) ∙ sym (put-by from to is above name m) ∙ h)))))
      h back new

  abbrev IsReady : Placing (Node B) → Type 0
  IsReady put = Ready (Alike from) (node_at from) (old_sight from to) (is_in (outs from to)) (is_in (targets (placings from to))) tmp number outs_over put

  -- an out is there for each node that comes back
  pub went-out : (q : Names) (m : Node B) (old : Names × Node B) → node_at to q ≡ Some m → place_of from m.id ≡ Some old → same_place from to old.0 q ≡ false → is_in (outs from to) old.0 ≡ true
  went-out q m old at h moves =
      let so : (node_at from old.0 ≡ Some old.1) × (old.1.id.0 ≡ m.id.0) = place_of-so from m.id old is.from_tree.sorted h in
      out-so from to is old.0 old.1 so.0 (ap (goes_by from to old.0) (place_of-here to is.to_tree q m old.1.id at so.1) ∙ ap not moves)

  held : (p : Names) → is_in (outs from to) p ≡ true → (r : Names) → outs_over (tmp ∷ number (index_of (outs from to) p) ∷ r) ≡ unless (cuts (λ x. is_in (outs from to) (p ++ x)) r) (node_at from (p ++ r))
  held p is_out r =
      let at : (before : List Names) × (after : List Names) × (outs from to ≡ before ++ p ∷ after) × (index_of (outs from to) p ≡ length before) = split (outs from to) p is_out in
      let fall : NoneBelow (at.0 ++ p ∷ at.1) = subst NoneBelow at.2 outs-fall in
      let out : AllByRecursion (IsNotIn tmp) (at.0 ++ p ∷ at.1) = subst (AllByRecursion (IsNotIn tmp)) at.2 outs-outside-tmp in
      let p_out : IsNotIn tmp p = each-middle at.0 p at.1 out in
      ap (λ (paths : List Names). outs_done tmp number begun 0 paths (tmp ∷ number (index_of (outs from to) p) ∷ r)) at.2
      ∙ ap (λ i. outs_done tmp number begun 0 (at.0 ++ p ∷ at.1) (tmp ∷ number i ∷ r)) {y = 0 + length at.0} (let e : index_of (outs from to) p ≡ length at.0 = at.3 in omega arith)
      ∙ outs-inside tmp number once at.0 p at.1 begun 0 r (each-front at.0 p at.1 out) p_out (each-back at.0 p at.1 out)
      ∙ ap (unless (hits at.0 (p ++ r))) (begun-outside (p ++ r) (outside-none tmp [] p r p_out))
      ∙ ap (λ b. unless b (node_at from (p ++ r))) (hits-left at.0 p at.1 r (pairwise-before (λ path later. rest_below path later ≡ None) at.0 p at.1 fall) (pairwise-after (λ path later. rest_below path later ≡ None) at.0 p at.1 fall))
      ∙ ap (λ (paths : List Names). unless (cuts (λ x. is_in paths (p ++ x)) r) (node_at from (p ++ r))) (sym at.2)
    where
      each-middle : (xs : List Names) (x : Names) (ys : List Names) → AllByRecursion (IsNotIn tmp) (xs ++ x ∷ ys) → IsNotIn tmp x
      each-middle [] x ys h = h.0
      each-middle (z ∷ zs) x ys h = each-middle zs x ys h.1

      each-front : (xs : List Names) (x : Names) (ys : List Names) → AllByRecursion (IsNotIn tmp) (xs ++ x ∷ ys) → AllByRecursion (IsNotIn tmp) xs
      each-front [] x ys h = tt
      each-front (z ∷ zs) x ys h = (h.0, each-front zs x ys h.1)

      each-back : (xs : List Names) (x : Names) (ys : List Names) → AllByRecursion (IsNotIn tmp) (xs ++ x ∷ ys) → AllByRecursion (IsNotIn tmp) ys
      each-back [] x ys h = h.1
      each-back (z ∷ zs) x ys h = each-back zs x ys h.1

  -- the target of a put, as its parts
  lands-at : (q : Names) (m : Node B) (put : Placing (Node B)) (other : Placing (Node B)) → placing_at from to (q, m) ≡ Some put → put ≡ other → target other ≡ q
  lands-at q m put other h e = ap target (sym e) ∙ lands from to is q m put h

  ready-one : (q : Names) (m : Node B) (put : Placing (Node B)) → node_at to q ≡ Some m → placing_at from to (q, m) ≡ Some put → IsReady put
  ready-one q m put at h = put-parts q m put h
      (λ above name old e from_at moves is_put.
      let so : (node_at from old.0 ≡ Some old.1) × (old.1.id.0 ≡ m.id.0) = place_of-so from m.id old is.from_tree.sorted from_at in
      subst IsReady (sym is_put) (
        old.0,
        old.1,
        m,
        so.0,
        ap (old_sight from to) (lands-at q m put (Back (index_of (outs from to) old.0) (parent_of q) (last_of q)) h is_put) ∙ dir-old from to is q m at (or_some (is_dir m) (is_some (place_of from m.id)) (ap is_some from_at)),
        alike-so from to is bytes old.0 q old.1 m so.0 at so.1,
        held old.0 (went-out q m old at from_at moves),
      ))
      (λ above name e none dir is_put. subst IsReady (sym is_put) (
        ap (old_sight from to) (lands-at q m put (New m (parent_of q) (last_of q)) h is_put) ∙ dir-old from to is q m at (ap (λ b. b || is_some (place_of from m.id)) dir),
        alike-itself from to is m,
        (λ n. subst (λ (t : Names). old_sight from to (t ++ n ∷ []) ≡ None ⊎ is_in (targets (placings from to)) (t ++ n ∷ []) ≡ true) (sym (lands-at q m put (New m (parent_of q) (last_of q)) h is_put)) (in_new q m at none n)),
      ))
    where
      or_some : (a b : Bool) → b ≡ true → (a || b) ≡ true
      or_some true b h = refl
      or_some false b h = h

      in_new : (q : Names) (m : Node B) → node_at to q ≡ Some m → place_of from m.id ≡ None → (n : List ℕ) → (old_sight from to (q ++ n ∷ []) ≡ None ⊎ is_in (targets (placings from to)) (q ++ n ∷ []) ≡ true)
      in_new q m at none n = by_one (node_at to (q ++ n ∷ []))
          (λ c c_at. by (is_old from to is c)
          (λ t. inr (comes from to is q n c c_at t (λ old h. same_place_new from to is q n m c old at none c_at h)))
          (λ f. inl (ap (if_old from) c_at ∙ ap (λ b. cond b (Some c) None) f)))
          (λ gone. inl (ap (if_old from) gone))

  all-ready : AllByRecursion IsReady (placings from to)
  all-ready = each-put (placing_at from to) IsReady to is.to_tree.sorted ready-one

  pub targets-outside : AllByRecursion (IsNotIn tmp) (targets (placings from to))
  targets-outside = each-target (placing_at from to) (IsNotIn tmp) (placings from to) (each-put (placing_at from to) (λ put. IsNotIn tmp (target put)) to is.to_tree.sorted
      (λ q m put at h. put-parts q m put h
      (λ above name old e from_at moves is_put. in_place q m put at h above name e)
      (λ above name e none dir is_put. in_place q m put at h above name e)))
    where
      in_place : (q : Names) (m : Node B) (put : Placing (Node B)) → node_at to q ≡ Some m → placing_at from to (q, m) ≡ Some put → (above : Names) (name : List ℕ) → q ≡ above ++ name ∷ [] → IsNotIn tmp (target put)
      in_place q m put at h above name e = subst (IsNotIn tmp) (sym e ∙ sym (lands from to is q m put h)) (outside to is.to_tree to_free above name m (ap (node_at to) (sym e) ∙ at))

  targets-linked : IsLinked (is_in (targets (placings from to))) (placings from to)
  targets-linked = linked (targets (placings from to)) [] (placings from to) refl (rises-targets (placing_at from to) (lands from to is) to is.to_tree.sorted)

  -- two nodes that come back have two numbers
  abbrev IsBackAt : ℕ → Placing (Node B) → Type 0
  IsBackAt i (Back j above name) = i ≡ j
  IsBackAt i (New node above name) = ⊥

  same-number : (q t : Names) (m n : Node B) (put other : Placing (Node B)) (i : ℕ) → node_at to q ≡ Some m → node_at to t ≡ Some n → placing_at from to (q, m) ≡ Some put → placing_at from to (t, n) ≡ Some other → IsBackAt i put → IsBackAt i other → q ≡ t
  same-number q t m n put other i at bt h k is_i is_j = put-parts q m put h
      (λ above name old e from_at moves is_put. put-parts t n other k
      (λ above2 name2 old2 e2 from_bt moves2 is_put2.
      let one : (node_at from old.0 ≡ Some old.1) × (old.1.id.0 ≡ m.id.0) = place_of-so from m.id old is.from_tree.sorted from_at in
      let two : (node_at from old2.0 ≡ Some old2.1) × (old2.1.id.0 ≡ n.id.0) = place_of-so from n.id old2 is.from_tree.sorted from_bt in
      let path : old.0 ≡ old2.0 = index-once (outs from to) old.0 old2.0 (went-out q m old at from_at moves) (went-out t n old2 bt from_bt moves2)
      (sym (subst (IsBackAt i) is_put is_i) ∙ subst (IsBackAt i) is_put2 is_j) in
      let node : old.1 ≡ old2.1 = same_some (sym one.0 ∙ ap (node_at from) path ∙ two.0) in
      one_place to is.to_tree.each_once q t m n at bt (sym one.1 ∙ ap (λ (x : Node B). x.id.0) node ∙ two.1))
      (λ above2 name2 e2 none dir is_put2. absurd (subst (IsBackAt i) is_put2 is_j)))
      (λ above name e none dir is_put. absurd (subst (IsBackAt i) is_put is_i))

  number-once : (tree : Tree B) → is_sorted path_cmp tree ≡ true → ((q : Names) (m : Node B) → node_at tree q ≡ Some m → node_at to q ≡ Some m) → NumberOnce (filter_map (placing_at from to) tree)
  number-once [] h part = tt
  number-once (e ∷ es) h part =
      let above : below_all path_cmp e.0 es ≡ true = first (below_all path_cmp e.0 es) _ h in
      let sorted : is_sorted path_cmp es ≡ true = second (below_all path_cmp e.0 es) _ h in
      let rest : NumberOnce (filter_map (placing_at from to) es) = number-once es sorted (λ q m at. part q m (in_tail e es q m above at)) in
      (elim (placing_at from to e) as (λ o. placing_at from to e ≡ o → NumberOnce (cons_option o (filter_map (placing_at from to) es))) [
        | None ↦ λ t. rest
        | Some put ↦ λ t. with-put put rest (λ i is_i. each-put (placing_at from to) (IsOther i) es sorted (λ q m other at k. not-again i other (λ is_j.
            none_some (sym (missing_below e.0 es above) ∙ ap (node_at es) (same-number e.0 q e.1 m put other i (part e.0 e.1 (head_at e es)) (part q m (in_tail e es q m above at)) t k is_i is_j) ∙ at))))
      ]) refl
    where
      not-again : (i : ℕ) (other : Placing (Node B)) → (IsBackAt i other → ⊥) → IsOther i other
      not-again i (Back j above name) new = λ same. new (sym same)
      not-again i (New node above name) new = tt

      with-put : (put : Placing (Node B)) → NumberOnce (filter_map (placing_at from to) es) → ((i : ℕ) → IsBackAt i put → AllByRecursion (IsOther i) (filter_map (placing_at from to) es)) → NumberOnce (put ∷ filter_map (placing_at from to) es)
      with-put (Back i above name) rest others = (others i refl, rest)
      with-put (New node above name) rest others = rest

  all-numbers-once : NumberOnce (placings from to)
  all-numbers-once = number-once to is.to_tree.sorted (λ q m at. at)

  -- each put is accepted
  pub all-puts-go : PutsGo is_dir tmp number outs_over (placings from to)
  all-puts-go = puts-go (Alike from) (node_at from) (old_sight from to) (is_in (outs from to)) (is_in (targets (placings from to))) (differ from to is bytes) tmp number once is_dir (λ a b alike. alike.same_kind) (old-dirs from to is)
      (placings from to) outs_over targets-outside all-numbers-once targets-linked all-ready outs-stand

  -- after the puts stands outside of tmp what the second tree has, but for new files
  pub puts-stand-all : Stands (Alike from) (old_sight from to) tmp (puts_done tmp number outs_over (placings from to)) []
  puts-stand-all = puts-stand (Alike from) (node_at from) (old_sight from to) (is_in (outs from to)) (is_in (targets (placings from to))) (differ from to is bytes) tmp number once
      (placings from to) outs_over targets-outside all-numbers-once targets-linked all-ready outs-stand

  -- tmp stands to the end
  pub top-stays : puts_done tmp number outs_over (placings from to) (tmp ∷ []) ≡ Some top
  top-stays = puts-top (Alike from) (node_at from) (old_sight from to) (is_in (outs from to)) (is_in (targets (placings from to))) (differ from to is bytes) tmp number once (placings from to) outs_over targets-outside
      ∙ outs-top tmp number once (outs from to) begun 0 outs-outside-tmp ∙ begun-top

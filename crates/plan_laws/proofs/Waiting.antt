-- New directories that wait to be listed, and are listed one after the other: each once, and all of them.
use Rattle.std.proofs.Common.{◌≡◌, ◌⊎◌, inl, inr, ℕ, zero, suc, ◌+◌, ◌≤◌, true, cond, Option, Some, None, is_some, List, [], ◌∷◌, ◌++◌, map, length, refl, ap, sym, subst, ◌∙◌, append-nil, append_assoc, arith}
use Rattle.std.proofs.lemmas.List.{length-append, length-map}
use Rattle.hs_types.specs.Names.{Names}
use Rattle.hs_plain.specs.declared.state.Node.{Node}
use Rattle.hs_plain.specs.Tree.{Tree, node_at, is_dir, parent_of, name_below, place_of}
use Rattle.hs_plain.specs.Plan.{new_dir_path, new_child, new_dirs_in, waiting_dirs}
use Rattle.hs_plain.proofs.ValidShapes.{none_some, same_some, by_last, parent_of-last}
use Rattle.hs_plain.proofs.ValidLists.{In, in-left, in-right, by_append, by_push, in-last, in-map, in-filter_map, filter_map_so}
use Rattle.hs_plain.proofs.ValidHeld.{in-tree, found_place}
use Rattle.plan_laws.specs.Pair.{IsPair}
use Rattle.plan_laws.proofs.Paths.{by, by_one}
use Rattle.plan_laws.proofs.Places.{path_of_place, place_of-here, dir-above}
use Rattle.plan_laws.proofs.Listed.{below-last, below-so}
use Rattle.plan_laws.proofs.Distinct.{IsOnce, once-append, once-apart, once-few, once-places}

last-path : (a b : Names) (m n : List ℕ) → a ++ m ∷ [] ≡ b ++ n ∷ [] → a ≡ b
last-path a b m n e = sym (parent_of-last a m) ∙ ap parent_of e ∙ parent_of-last b n

module _ {B : Type 0} (from to : Tree B) (is : IsPair from to) where
  -- a directory of the second tree that the first one hasn't
  pub record IsNewDir (path : Names) : Type 0 where
    pub node : Node B
    pub at : node_at to path ≡ Some node
    pub dir : is_dir node ≡ true
    pub new : place_of from node.id ≡ None

  abbrev pub children : Names → List Names
  children path = new_dirs_in from to path

  -- ---- new directories in a directory

  pub record IsChildOf (above path : Names) : Type 0 where
    pub name : List ℕ
    pub last : path ≡ above ++ name ∷ []

  new-so : (place : Names × Node B) (o : Option (Names × Node B)) (path : Names) → new_dir_path place o ≡ Some path → (path ≡ place.0) × (is_dir place.1 ≡ true) × (o ≡ None)
  new-so place (Some old) path h = absurd (none_some h)
  new-so place None path h = by (is_dir place.1)
      (λ t. (sym (same_some (sym (ap (λ b. cond b (Some place.0) None) t) ∙ h)), t, refl))
      (λ f. absurd (none_some (sym (ap (λ b. cond b (Some place.0) None) f) ∙ h)))

  child-place : (above : Names) (place : Names × Node B) (path : Names) → new_child from above place ≡ Some path → (n : List ℕ) × (name_below above place.0 ≡ Some n) × (new_dir_path place (place_of from place.1.id) ≡ Some path)
  child-place above place path h = by_one (name_below above place.0)
      (λ n below. (n, below, sym (ap (λ o. cond (is_some o) (new_dir_path place (place_of from place.1.id)) None) below) ∙ h))
      (λ none. absurd (none_some (sym (ap (λ o. cond (is_some o) (new_dir_path place (place_of from place.1.id)) None) none) ∙ h)))

  pub child-so : (above path : Names) → In (children above) path → IsNewDir path × IsChildOf above path
  child-so above path at =
      let place : (place : Names × Node B) × (In to place) × (new_child from above place ≡ Some path) = filter_map_so (new_child from above) to path at in
      let name = child-place above place.0 path place.2 in
      let new : (path ≡ place.0.0) × (is_dir place.0.1 ≡ true) × (place_of from place.0.1.id ≡ None) = new-so place.0 (place_of from place.0.1.id) path name.2 in (
        record { node = place.0.1; at = ap (node_at to) new.0 ∙ found_place to is.to_tree.sorted place.0 place.1; dir = new.1; new = new.2 },
        record { name = name.0; last = new.0 ∙ below-so above place.0.0 name.0 name.1 },
      )

  pub child-in : (above : Names) (name : List ℕ) → IsNewDir (above ++ name ∷ []) → In (children above) (above ++ name ∷ [])
  child-in above name new = in-filter_map (new_child from above) to (above ++ name ∷ [], new.node) (above ++ name ∷ []) (in-tree to (above ++ name ∷ []) new.node new.at)
      (ap (λ o. cond (is_some o) (new_dir_path (above ++ name ∷ [], new.node) (place_of from new.node.id)) None) (below-last above name)
      ∙ ap (new_dir_path (above ++ name ∷ [], new.node)) new.new ∙ ap (λ b. cond b (Some (above ++ name ∷ [])) None) new.dir)

  children-once : (above : Names) → IsOnce (children above)
  children-once above = once-places (new_child from above)
      (λ place path h. (new-so place (place_of from place.1.id) path (child-place above place path h).2).0)
      to is.to_tree.sorted

  -- ---- those that wait

  -- the first new directories: new ones in directories that were there, each once
  pub record AreFirst (roots : List Names) : Type 0 where
    pub new : (path : Names) → In roots path → IsNewDir path
    pub above_old : (above : Names) (name : List ℕ) → In roots (above ++ name ∷ []) → IsNewDir above → ⊥
    pub once : IsOnce roots
    pub all : (above : Names) (name : List ℕ) (dir : Node B) (old : Names × Node B) → IsNewDir (above ++ name ∷ []) → node_at to above ≡ Some dir → place_of from dir.id ≡ Some old → In roots (above ++ name ∷ [])

  module _ (roots : List Names) (are : AreFirst roots) where
    abbrev IsRootOrChild : List Names → Names → Type 0
    IsRootOrChild done path = In roots path ⊎ ((above : Names) × (In done above) × IsChildOf above path)

    -- those that were listed, and those that wait
    pub record IsFair (done waiting : List Names) : Type 0 where
      pub new : (path : Names) → In (done ++ waiting) path → IsNewDir path
      pub once : IsOnce (done ++ waiting)
      pub known : (path : Names) → In (done ++ waiting) path → IsRootOrChild done path
      pub has_roots : (path : Names) → In roots path → In (done ++ waiting) path
      pub has_children : (above : Names) → In done above → (path : Names) → In (children above) path → In (done ++ waiting) path

    begins : IsFair [] roots
    begins = record { new = are.new; once = are.once; known = λ path at. inl at; has_roots = λ path at. at; has_children = λ above at. absurd at }

    -- one is listed, and its children wait
    module _ (done : List Names) (path : Names) (waiting : List Names) (fair : IsFair done (path ∷ waiting)) where
      abbrev all_before : List Names
      all_before = done ++ path ∷ waiting

      same-all : (done ++ path ∷ []) ++ (waiting ++ children path) ≡ all_before ++ children path
      same-all = append_assoc done (path ∷ []) (waiting ++ children path) ∙ sym (append_assoc done (path ∷ waiting) (children path))

      known-before : (p : Names) → IsRootOrChild done p → IsRootOrChild (done ++ path ∷ []) p
      known-before p (inl root) = inl root
      known-before p (inr child) = inr (child.0, in-left done (path ∷ []) child.0 child.1, child.2)

      here : IsNewDir path
      here = fair.new path (in-right done (path ∷ waiting) path (inl refl))

      apart : (p : Names) → In all_before p → In (children path) p → ⊥
      apart p at child = by-known (fair.known p at) (child-so path p child).1
        where
          by-known : IsRootOrChild done p → IsChildOf path p → ⊥
          by-known (inl root) of = are.above_old path of.name (subst (In roots) of.last root) here
          by-known (inr other) of = once-apart done path waiting fair.once (subst (In done) (last-path other.0 path other.2.name of.name (sym other.2.last ∙ of.last)) other.1)

      next : IsFair (done ++ path ∷ []) (waiting ++ children path)
      next = record {
        new = λ p at. by_append all_before (children path) p (subst (λ (ps : List Names). In ps p) same-all at) (fair.new p) (λ child. (child-so path p child).0);
        once = subst IsOnce (sym same-all) (once-append all_before (children path) fair.once (children-once path) apart);
        known = λ p at. by_append all_before (children path) p (subst (λ (ps : List Names). In ps p) same-all at)
            (λ old. known-before p (fair.known p old))
            (λ child. inr (path, in-last done path, (child-so path p child).1));
        has_roots = λ p at. subst (λ (ps : List Names). In ps p) (sym same-all) (in-left all_before (children path) p (fair.has_roots p at));
        has_children = λ above at p child. subst (λ (ps : List Names). In ps p) (sym same-all) (by_push done path above at
            (λ old. in-left all_before (children path) p (fair.has_children above old p child))
            (λ e. in-right all_before (children path) p (subst (λ (q : Names). In (children q) p) (sym e) child)));
      }

    few : (done waiting : List Names) → IsFair done waiting → length (done ++ waiting) ≤ length to
    few done waiting fair = subst (λ n. length (done ++ waiting) ≤ n) (length-map to path_of_place)
        (once-few (done ++ waiting) (map path_of_place to) fair.once (λ path at. let new : IsNewDir path = fair.new path at in in-map path_of_place to (path, new.node) (in-tree to path new.node new.at)))

    run : (more : ℕ) (done waiting : List Names) → IsFair done waiting → length to ≤ length done + more → IsFair (done ++ waiting_dirs more from to waiting) []
    run zero done [] fair enough = subst (λ (ps : List Names). IsFair ps []) (sym (append-nil done)) fair
    run (suc more) done [] fair enough = subst (λ (ps : List Names). IsFair ps []) (sym (append-nil done)) fair
    run zero done (path ∷ waiting) fair enough =
        let all : length (done ++ path ∷ waiting) ≤ length to = few done (path ∷ waiting) fair in
        let parts : length (done ++ path ∷ waiting) ≡ length done + suc (length waiting) = length-append done (path ∷ waiting) in
        absurd (omega arith)
    run (suc more) done (path ∷ waiting) fair enough =
        let parts : length (done ++ path ∷ []) ≡ length done + 1 = length-append done (path ∷ []) in
        subst (λ (ps : List Names). IsFair ps []) (append_assoc done (path ∷ []) (waiting_dirs more from to (waiting ++ children path)))
        (run more (done ++ path ∷ []) (waiting ++ children path) (next done path waiting fair) (omega arith))

    abbrev pub listed : List Names
    listed = waiting_dirs (length to) from to roots

    ends : IsFair listed []
    ends = run (length to) [] roots begins (from-none (length to))
      where
        from-none : (n : ℕ) → n ≤ 0 + n
        from-none n = omega arith

    all-listed : (ps : List Names) (path : Names) → In (ps ++ []) path → In ps path
    all-listed ps path at = subst (λ (qs : List Names). In qs path) (append-nil ps) at

    pub listed-new : (path : Names) → In listed path → IsNewDir path
    listed-new path at = ends.new path (in-left listed [] path at)

    pub listed-once : IsOnce listed
    listed-once = subst IsOnce (append-nil listed) ends.once

    -- the root is no new directory
    pub root-old : IsNewDir [] → ⊥
    root-old new = none_some (sym new.new ∙ place_of-here from is.from_tree [] is.from_root new.node.id is.from_at (ap (λ (x : Node B). x.id.0) (same_some (sym new.at ∙ is.to_at)) ∙ sym is.same_root))

    -- a new directory is listed where those above it are
    one-listed : (above : Names) (name : List ℕ) → IsNewDir (above ++ name ∷ []) → (IsNewDir above → In listed above) → In listed (above ++ name ∷ [])
    one-listed above name new higher =
        let d : (dir : Node B) × (node_at to above ≡ Some dir) × (is_dir dir ≡ true) = dir-above to is.to_tree above name new.node new.at in
        by_one (place_of from d.0.id)
        (λ old was. all-listed listed (above ++ name ∷ []) (ends.has_roots (above ++ name ∷ []) (are.all above name d.0 old new d.1 was)))
        (λ gone. all-listed listed (above ++ name ∷ []) (ends.has_children above (higher (record { node = d.0; at = d.1; dir = d.2; new = gone })) (above ++ name ∷ []) (child-in above name new)))

    shorter : (k : ℕ) (above : Names) (name : List ℕ) → length (above ++ name ∷ []) ≤ suc k → length above ≤ k
    shorter k above name short = let parts : length (above ++ name ∷ []) ≡ length above + 1 = length-append above (name ∷ []) in omega arith

    too-long : (above : Names) (name : List ℕ) → length (above ++ name ∷ []) ≤ 0 → ⊥
    too-long above name short = let parts : length (above ++ name ∷ []) ≡ length above + 1 = length-append above (name ∷ []) in omega arith

    -- each new directory is listed
    deep : (k : ℕ) (path : Names) → length path ≤ k → IsNewDir path → In listed path
    deep zero path short new = by_last (λ p. length p ≤ 0 → IsNewDir p → In listed p) path (λ _ new. absurd (root-old new)) (λ above name short new. absurd (too-long above name short)) short new
    deep (suc k) path short new = by_last (λ p. length p ≤ suc k → IsNewDir p → In listed p) path
        (λ _ new. absurd (root-old new))
        (λ above name short new. one-listed above name new (λ higher. deep k above (shorter k above name short) higher))
        short new

    pub all-new-listed : (path : Names) → IsNewDir path → In listed path
    all-new-listed path new = deep (length path) path (le-itself (length path)) new
      where
        le-itself : (n : ℕ) → n ≤ n
        le-itself n = omega arith

-- What stands at a path, and where an id stands, after a change of a tree.
use Rattle.std.proofs.Common.{◌≡◌, ◌↔◌, inl, inr, ℕ, Bool, true, false, cond, if◌then◌else◌, [], ◌∷◌, ◌++◌, map, Option, Some, None, refl, sym, ap, subst, ◌∙◌}
use Rattle.std.specs.Prelude.{◌≢◌}
use Rattle.std.specs.Option.{option_map}
use Rattle.std.specs.Ordering.{eq_by_cmp}
use Rattle.std.specs.FinMap.Entries.{put, is_sorted}
use Rattle.std.proofs.lemmas.Bool.Decides.{Decides-eqb}
use Rattle.std.proofs.lemmas.List.{append_cancel_left}
use Rattle.std.proofs.lemmas.Slice.Eq.{slice_eq-Decides, bytes_eq-Decides}
use Rattle.hs_types.specs.Names.{Names}
use Rattle.hs_types.specs.declared.ids.InodeId.{InodeId}
use Rattle.hs_plain.specs.declared.state.Node.{Node}
use Rattle.hs_plain.specs.Tree.{Tree, path_cmp, node_at, same_path, is_under, same_inode, place_of}
use Rattle.hs_plain.specs.Change.{restamp, stamped, remode, moded, without, repath, moved}
use Rattle.hs_plain.specs.inside.Places.{IsOutside, IsFree, IsOnlyAt, unless_place, stamped_node, moded_node}
use Rattle.hs_plain.proofs.ValidTrees.{restamp-kept, remode-kept, sorted-put, sorted-without, sorted-moved}
use Rattle.hs_plain.proofs.ValidShapes.{none_some, same_some, true_false, same_so, by_same, by_under, under_test}
pub use Rattle.hs_plain.proofs.ValidChanges.{put_here, put_there, without-below, without-elsewhere, moved_path, moved_under, moved_other}
use Rattle.hs_plain.proofs.ValidChanges.{apart_test, repath-is}
pub use Rattle.hs_plain.proofs.ValidSubtrees.{node_at-subtree}
use Rattle.hs_plain.proofs.ValidRepaths.{put_all_from, put_all_onto}
use Rattle.hs_plain.proofs.ValidLists.{In, false_by}
use Rattle.hs_plain.proofs.ValidMembers.{inode_test}
use Rattle.hs_plain.proofs.ValidHeld.{in-tree, found_place}

both_ways : {X : Type 0} (o u : Option X) → ((x : X) → o ≡ Some x → u ≡ Some x) → ((x : X) → u ≡ Some x → o ≡ Some x) → o ≡ u
both_ways None None there back = refl
both_ways None (Some y) there back = back y refl
both_ways (Some x) u there back = sym (there x refl)

same_path_so : (p q : Names) → same_path p q ≡ true → p ≡ q
same_path_so p q h = (slice_eq-Decides bytes_eq-Decides p q (same_path p q) refl).0 h

same_path-itself : (p : Names) → same_path p p ≡ true
same_path-itself p = (slice_eq-Decides bytes_eq-Decides p p (same_path p p) refl).1 refl

module _ {B : Type 0} where
  -- ---- what stands at a path

  module _ (tree : Tree B) (old new : Names) (sorted : is_sorted path_cmp tree ≡ true) (free : IsFree tree new) where
    abbrev to : Names → Names
    to = moved_path old new

    -- no two nodes come to one path
    pub moved-apart : (p q : Names) (a b : Node B) → node_at tree p ≡ Some a → node_at tree q ≡ Some b → to p ≡ to q → p ≡ q
    moved-apart p q a b h k e = by_under p old
        (λ r d. by_under q old
        (λ s c. d ∙ ap (λ (x : Names). old ++ x) (append_cancel_left new r s (sym (moved_under old new r) ∙ ap to (sym d) ∙ e ∙ ap to c ∙ moved_under old new s)) ∙ sym c)
        (λ ne. absurd (none_some (sym (free r) ∙ ap (node_at tree) (sym (moved_under old new r) ∙ ap to (sym d) ∙ e ∙ moved_other old new q ne) ∙ k))))
        (λ ne. by_under q old
        (λ s c. absurd (none_some (sym (free s) ∙ ap (node_at tree) (sym (moved_under old new s) ∙ ap to (sym c) ∙ sym e ∙ moved_other old new p ne) ∙ h)))
        (λ nd. sym (moved_other old new p ne) ∙ e ∙ moved_other old new q nd))

    -- each node comes to its path
    pub moved-comes : (p : Names) (n : Node B) → node_at tree p ≡ Some n → node_at (moved tree old new) (to p) ≡ Some n
    moved-comes p n h = put_all_onto to (repath old new) (repath-is old new) tree [] sorted moved-apart p n h

    -- and has come from some path
    pub moved-came : {P : Type 0} (q : Names) (n : Node B) → node_at (moved tree old new) q ≡ Some n → ((p : Names) → node_at tree p ≡ Some n → to p ≡ q → P) → P
    moved-came q n h came = put_all_from to (repath old new) (repath-is old new) tree [] q n sorted h (λ none. absurd (none_some none)) came

    pub moved-below : (rest : Names) → node_at (moved tree old new) (new ++ rest) ≡ node_at tree (old ++ rest)
    moved-below rest = both_ways _ _
        (λ n h. moved-came (new ++ rest) n h (λ p at e. by_under p old
        (λ r d. let tails : r ≡ rest = append_cancel_left new r rest (sym (moved_under old new r) ∙ ap to (sym d) ∙ e) in ap (λ (x : Names). node_at tree (old ++ x)) (sym tails) ∙ ap (node_at tree) (sym d) ∙ at)
        (λ ne. absurd (none_some (sym (free rest) ∙ ap (node_at tree) (sym e ∙ moved_other old new p ne) ∙ at)))))
        (λ n h. ap (node_at (moved tree old new)) (sym (moved_under old new rest)) ∙ moved-comes (old ++ rest) n h)

    pub moved-elsewhere : (other : Names) → IsOutside new other → node_at (moved tree old new) other ≡ node_at (without tree old) other
    moved-elsewhere other outside = both_ways _ _
        (λ n h. moved-came other n h (λ p at e. by_under p old
        (λ r d. absurd (outside r (sym e ∙ ap to d ∙ moved_under old new r)))
        (λ ne. let stays : p ≡ other = sym (moved_other old new p ne) ∙ e in
        without-elsewhere tree old other (λ rest c. ne rest (stays ∙ c)) ∙ ap (node_at tree) (sym stays) ∙ at)))
        (λ n h. by_under other old
        (λ rest e. absurd (none_some (sym (without-below tree old rest) ∙ ap (node_at (without tree old)) (sym e) ∙ h)))
        (λ ne. ap (node_at (moved tree old new)) (sym (moved_other old new other ne)) ∙ moved-comes other n (sym (without-elsewhere tree old other ne) ∙ h)))

  node_at-map : (g : Names × Node B → Names × Node B) → ((place : Names × Node B) → (g place).0 ≡ place.0) → (tree : Tree B) (q : Names) → node_at (map g tree) q ≡ option_map (λ n. (g (q, n)).1) (node_at tree q)
  node_at-map g kept [] q = refl
  node_at-map g kept (e ∷ es) q =
      let rest = node_at-map g kept es q in
      ap (λ (p : Names). cond (eq_by_cmp path_cmp q p) (Some (g e).1) (node_at (map g es) q)) (kept e)
      ∙ elim (eq_by_cmp path_cmp q e.0) as (λ b. eq_by_cmp path_cmp q e.0 ≡ b → cond b (Some (g e).1) (node_at (map g es) q) ≡ option_map (λ n. (g (q, n)).1) (cond b (Some e.1) (node_at es q))) [
        | true ↦ λ t. ap (λ (p : Names). Some (g (p, e.1)).1) (sym (same_so t))
        | false ↦ λ _. rest
      ] refl

  -- a change of the node at one path
  abbrev at_path : Names → (Node B → Node B) → Names × Node B → Names × Node B
  at_path path f place = cond (same_path path place.0) (place.0, f place.1) place

  map-here : (path : Names) (f : Node B → Node B) (o : Option (Node B)) → option_map (λ n. (at_path path f (path, n)).1) o ≡ option_map f o
  map-here path f None = refl
  map-here path f (Some n) = ap (λ b. Some (cond {A = Names × Node B} b (path, f n) (path, n)).1) (same_path-itself path)

  map-elsewhere : (path : Names) (f : Node B → Node B) (other : Names) → other ≢ path → (o : Option (Node B)) → option_map (λ n. (at_path path f (other, n)).1) o ≡ o
  map-elsewhere path f other ne None = refl
  map-elsewhere path f other ne (Some n) = ap (λ b. Some (cond {A = Names × Node B} b (other, f n) (other, n)).1) (false_by _ (λ t. ne (sym (same_path_so path other t))))

  pub stamped-here : (tree : Tree B) (path : Names) (tick : ℕ) → node_at (stamped tree path tick) path ≡ option_map (stamped_node tick) (node_at tree path)
  stamped-here tree path tick = node_at-map (restamp path tick) (restamp-kept path tick) tree path ∙ map-here path (stamped_node tick) (node_at tree path)

  pub stamped-elsewhere : (tree : Tree B) (path : Names) (tick : ℕ) (other : Names) → other ≢ path → node_at (stamped tree path tick) other ≡ node_at tree other
  stamped-elsewhere tree path tick other ne = node_at-map (restamp path tick) (restamp-kept path tick) tree other ∙ map-elsewhere path (stamped_node tick) other ne (node_at tree other)

  pub moded-here : (tree : Tree B) (path : Names) (mode tick : ℕ) → node_at (moded tree path mode tick) path ≡ option_map (moded_node mode tick) (node_at tree path)
  moded-here tree path mode tick = node_at-map (remode path mode tick) (remode-kept path mode tick) tree path ∙ map-here path (moded_node mode tick) (node_at tree path)

  pub moded-elsewhere : (tree : Tree B) (path : Names) (mode tick : ℕ) (other : Names) → other ≢ path → node_at (moded tree path mode tick) other ≡ node_at tree other
  moded-elsewhere tree path mode tick other ne = node_at-map (remode path mode tick) (remode-kept path mode tick) tree other ∙ map-elsewhere path (moded_node mode tick) other ne (node_at tree other)

  -- ---- where an id stands

  -- each id stands at one path at most
  abbrev pub IsOnce : Tree B → Type 0
  IsOnce tree = (p q : Names) (a b : Node B) → node_at tree p ≡ Some a → node_at tree q ≡ Some b → a.id.0 ≡ b.id.0 → p ≡ q

  pub place_so : (tree : Tree B) (id : InodeId) (place : Names × Node B) → place_of tree id ≡ Some place → (In tree place) × (place.1.id.0 ≡ id.0)
  place_so [] id place h = absurd (none_some h)
  place_so (e ∷ es) id place h = by_head (place_so es id place) h
    where
      by_head : (place_of es id ≡ Some place → (In es place) × (place.1.id.0 ≡ id.0)) → place_of (e ∷ es) id ≡ Some place → (In (e ∷ es) place) × (place.1.id.0 ≡ id.0)
      by_head rest = (elim (same_inode e.1.id id) as (λ b. same_inode e.1.id id ≡ b → cond b (Some e) (place_of es id) ≡ Some place → (In (e ∷ es) place) × (place.1.id.0 ≡ id.0)) [
        | true ↦ λ t h. let same : e ≡ place = same_some h in (inl same, ap (λ (x : Names × Node B). x.1.id.0) (sym same) ∙ (Decides-eqb e.1.id.0 id.0).0 t)
        | false ↦ λ f h. let w = rest h in (inr w.0, w.1)
      ]) refl

  pub no_place : (tree : Tree B) (id : InodeId) → place_of tree id ≡ None → (e : Names × Node B) → In tree e → e.1.id.0 ≡ id.0 → ⊥
  no_place [] id h e at same = at
  no_place (d ∷ es) id h e at same = by_head (λ h at. no_place es id h e at same) h at
    where
      some_none : {X : Type 0} {x : X} → Some x ≡ None → ⊥
      some_none h = cc

      tail : (place_of es id ≡ None → In es e → ⊥) → same_inode d.1.id id ≡ false → place_of es id ≡ None → In (d ∷ es) e → ⊥
      tail rest f h (inl de) = true_false ((Decides-eqb d.1.id.0 id.0).1 (ap (λ (x : Names × Node B). x.1.id.0) de ∙ same)) f
      tail rest f h (inr at) = rest h at

      by_head : (place_of es id ≡ None → In es e → ⊥) → place_of (d ∷ es) id ≡ None → In (d ∷ es) e → ⊥
      by_head rest = (elim (same_inode d.1.id id) as (λ b. same_inode d.1.id id ≡ b → cond b (Some d) (place_of es id) ≡ None → In (d ∷ es) e → ⊥) [ true ↦ λ t h at. some_none h | false ↦ λ f h at. tail rest f h at ]) refl

  module _ (tree : Tree B) (sorted : is_sorted path_cmp tree ≡ true) (once : IsOnce tree) where
    pub place_there : (id : InodeId) (p : Names) (n : Node B) → node_at tree p ≡ Some n → n.id.0 ≡ id.0 → place_of tree id ≡ Some (p, n)
    place_there id p n at same = by_found (place_of tree id) refl
      where
        by_found : (o : Option (Names × Node B)) → place_of tree id ≡ o → place_of tree id ≡ Some (p, n)
        by_found None e = absurd (no_place tree id e (p, n) (in-tree tree p n at) same)
        by_found (Some place) e =
            let w = place_so tree id place e in
            let there : node_at tree place.0 ≡ Some place.1 = found_place tree sorted place w.0 in
            let path : place.0 ≡ p = once place.0 p place.1 n there at (w.1 ∙ sym same) in
            let node : place.1 ≡ n = same_some (sym there ∙ ap (node_at tree) path ∙ at) in
            e ∙ (λ i. Some (path i, node i))

    pub place_node : (id : InodeId) (p : Names) (n : Node B) → place_of tree id ≡ Some (p, n) → (node_at tree p ≡ Some n) × (n.id.0 ≡ id.0)
    place_node id p n h = let w = place_so tree id (p, n) h in (found_place tree sorted (p, n) w.0, w.1)

    pub place-is : (id : InodeId) (p : Names) (n : Node B) → (place_of tree id ≡ Some (p, n)) ↔ ((node_at tree p ≡ Some n) × (n.id ≡ id))
    place-is id p n = (
      λ h. let w = place_node id p n h in (w.0, λ i. record { 0 = w.1 i }),
      λ w. place_there id p n w.0 (ap (λ (x : InodeId). x.0) w.1),
    )

    -- what the place of an id is, by what stands at the paths
    place_by : (id : InodeId) (o : Option (Names × Node B)) → ((p : Names) (n : Node B) → o ≡ Some (p, n) → (node_at tree p ≡ Some n) × (n.id.0 ≡ id.0)) → ((p : Names) (n : Node B) → node_at tree p ≡ Some n → n.id.0 ≡ id.0 → o ≡ Some (p, n)) → place_of tree id ≡ o
    place_by id o stands found = both_ways (place_of tree id) o
        (λ place h. let w = place_node id place.0 place.1 h in found place.0 place.1 w.0 w.1)
        (λ place h. let w = stands place.0 place.1 h in place_there id place.0 place.1 w.0 w.1)

  -- a place that a test doesn't take away
  unless_so : (goes : Names × Node B → Bool) (o : Option (Names × Node B)) (place : Names × Node B) → unless_place goes o ≡ Some place → (o ≡ Some place) × (goes place ≡ false)
  unless_so goes None place h = absurd (none_some h)
  unless_so goes (Some other) place h = (elim (goes other) as (λ b. goes other ≡ b → cond {A = Option (Names × Node B)} b None (Some other) ≡ Some place → (Some other ≡ Some place) × (goes place ≡ false)) [
    | true ↦ λ t h. absurd (none_some h)
    | false ↦ λ f h. (h, ap goes (sym (same_some h)) ∙ f)
  ]) refl h

  unless-from : (goes : Names × Node B → Bool) (o : Option (Names × Node B)) (place : Names × Node B) → o ≡ Some place → goes place ≡ false → unless_place goes o ≡ Some place
  unless-from goes o place h f = ap (unless_place goes) h ∙ ap (λ b. cond {A = Option (Names × Node B)} b None (Some place)) f

  module _ (tree : Tree B) (sorted : is_sorted path_cmp tree ≡ true) (once : IsOnce tree) where
    pub place-without : (path : Names) (id : InodeId) → place_of (without tree path) id ≡ unless_place (is_under path) (place_of tree id)
    place-without path id = place_by (without tree path) (sorted-without tree path sorted) (λ p q a b at bt. once p q a b (was p a at) (was q b bt)) id _
        (λ p n h. let w = unless_so (is_under path) (place_of tree id) (p, n) h in
        let at = place_node tree sorted once id p n w.0 in
        (without-elsewhere tree path p (λ rest e. true_false (under_test p path rest e) w.1) ∙ at.0, at.1))
        (λ p n at same. unless-from (is_under path) (place_of tree id) (p, n) (place_there tree sorted once id p n (was p n at) same) (apart_test p path (left p n at)))
      where
        left : (p : Names) (n : Node B) → node_at (without tree path) p ≡ Some n → IsOutside path p
        left p n at rest e = none_some (sym (without-below tree path rest) ∙ ap (node_at (without tree path)) (sym e) ∙ at)

        was : (p : Names) (n : Node B) → node_at (without tree path) p ≡ Some n → node_at tree p ≡ Some n
        was p n at = sym (without-elsewhere tree path p (left p n at)) ∙ at

    pub place-moved : (old new : Names) → IsFree tree new → (id : InodeId) → place_of (moved tree old new) id ≡ option_map (repath old new) (place_of tree id)
    place-moved old new free id = place_by (moved tree old new) (sorted-moved tree old new) apart id _
        (λ q n h. by_place (place_of tree id) refl q n h)
        (λ q n at same. moved-came tree old new sorted free q n at (λ p pt e.
        ap (option_map (repath old new)) (place_there tree sorted once id p n pt same) ∙ ap (λ x. Some x) (repath-is old new (p, n)) ∙ (λ i. Some (e i, n))))
      where
        apart : IsOnce (moved tree old new)
        apart p q a b at bt same = moved-came tree old new sorted free p a at (λ x xt xe. moved-came tree old new sorted free q b bt (λ y yt ye. sym xe ∙ ap (moved_path old new) (once x y a b xt yt same) ∙ ye))

        by_place : (o : Option (Names × Node B)) → place_of tree id ≡ o → (q : Names) (n : Node B) → option_map (repath old new) o ≡ Some (q, n) → (node_at (moved tree old new) q ≡ Some n) × (n.id.0 ≡ id.0)
        by_place None e q n h = absurd (none_some h)
        by_place (Some place) e q n h =
            let w = place_node tree sorted once id place.0 place.1 e in
            let same : (moved_path old new place.0, place.1) ≡ (q, n) = sym (repath-is old new place) ∙ same_some h in
            (subst (λ (x : Names × Node B). node_at (moved tree old new) x.0 ≡ Some x.1) same (moved-comes tree old new sorted free place.0 place.1 w.0), ap (λ (x : Names × Node B). x.1.id.0) (sym same) ∙ w.1)

    pub place-put : (path : Names) (node : Node B) → IsOnlyAt tree path node → (id : InodeId)
        → place_of (put path_cmp path node tree) id ≡ (if same_inode node.id id then Some (path, node) else unless_place (λ place. same_path path place.0) (place_of tree id))
    place-put path node only id = place_by (put path_cmp path node tree) (sorted-put path node tree sorted) apart id _ stands found
      where
        free : (q : Names) (n : Node B) → q ≢ path → node_at (put path_cmp path node tree) q ≡ Some n → n.id.0 ≡ node.id.0 → ⊥
        free q n ne at same = ne (only q n (sym (put_there path node tree q ne) ∙ at) (λ i. record { 0 = same i }))

        here : (q : Names) (n : Node B) → q ≡ path → node_at (put path_cmp path node tree) q ≡ Some n → node ≡ n
        here q n e at = same_some (sym (put_here path node tree) ∙ ap (node_at (put path_cmp path node tree)) (sym e) ∙ at)

        apart : IsOnce (put path_cmp path node tree)
        apart p q a b at bt same = by_same p path
            (λ pe. by_same q path (λ qe. pe ∙ sym qe) (λ qn. absurd (free q b qn bt (sym (ap (λ (n : Node B). n.id.0) (here p a pe at) ∙ same)))))
            (λ pn. by_same q path (λ qe. absurd (free p a pn at (same ∙ ap (λ (n : Node B). n.id.0) (sym (here q b qe bt)))))
            (λ qn. once p q a b (sym (put_there path node tree p pn) ∙ at) (sym (put_there path node tree q qn) ∙ bt) same))

        stands : (p : Names) (n : Node B) → (if same_inode node.id id then Some (path, node) else unless_place (λ place. same_path path place.0) (place_of tree id)) ≡ Some (p, n) → (node_at (put path_cmp path node tree) p ≡ Some n) × (n.id.0 ≡ id.0)
        stands p n = (elim (same_inode node.id id) as (λ b. same_inode node.id id ≡ b → cond {A = Option (Names × Node B)} b (Some (path, node)) (unless_place (λ place. same_path path place.0) (place_of tree id)) ≡ Some (p, n) → (node_at (put path_cmp path node tree) p ≡ Some n) × (n.id.0 ≡ id.0)) [
          | true ↦ λ t h. let same : (path, node) ≡ (p, n) = same_some h in
              (subst (λ (x : Names × Node B). node_at (put path_cmp path node tree) x.0 ≡ Some x.1) same (put_here path node tree), ap (λ (x : Names × Node B). x.1.id.0) (sym same) ∙ (Decides-eqb node.id.0 id.0).0 t)
          | false ↦ λ f h. let w = unless_so (λ place. same_path path place.0) (place_of tree id) (p, n) h in
              let at = place_node tree sorted once id p n w.0 in
              (put_there path node tree p (λ e. true_false (ap (λ (x : Names). same_path path x) e ∙ same_path-itself path) w.1) ∙ at.0, at.1)
        ]) refl

        found : (p : Names) (n : Node B) → node_at (put path_cmp path node tree) p ≡ Some n → n.id.0 ≡ id.0 → (if same_inode node.id id then Some (path, node) else unless_place (λ place. same_path path place.0) (place_of tree id)) ≡ Some (p, n)
        found p n at same = by_same p path
            (λ e. let is : node ≡ n = here p n e at in
            ap (λ b. cond {A = Option (Names × Node B)} b (Some (path, node)) (unless_place (λ place. same_path path place.0) (place_of tree id))) (inode_test node.id id (ap (λ (x : Node B). x.id.0) is ∙ same)) ∙ (λ i. Some (sym e i, is i)))
            (λ ne. ap (λ b. cond {A = Option (Names × Node B)} b (Some (path, node)) (unless_place (λ place. same_path path place.0) (place_of tree id))) (false_by _ (λ t. free p n ne at (same ∙ sym ((Decides-eqb node.id.0 id.0).0 t))))
            ∙ unless-from (λ place. same_path path place.0) (place_of tree id) (p, n) (place_there tree sorted once id p n (sym (put_there path node tree p ne) ∙ at) same) (false_by _ (λ t. ne (sym (same_path_so path p t)))))

  -- nodes that keep their paths and ids
  place-map : (g : Names × Node B → Names × Node B) → ((place : Names × Node B) → (g place).1.id ≡ place.1.id) → (tree : Tree B) (id : InodeId) → place_of (map g tree) id ≡ option_map g (place_of tree id)
  place-map g kept [] id = refl
  place-map g kept (e ∷ es) id = let rest = place-map g kept es id in
      ap (λ (x : InodeId). cond (same_inode x id) (Some (g e)) (place_of (map g es) id)) (kept e)
      ∙ elim (same_inode e.1.id id) as (λ b. cond b (Some (g e)) (place_of (map g es) id) ≡ option_map g (cond b (Some e) (place_of es id))) [ true ↦ refl | false ↦ rest ]

  pub place-stamped : (tree : Tree B) (path : Names) (tick : ℕ) (id : InodeId) → place_of (stamped tree path tick) id ≡ option_map (restamp path tick) (place_of tree id)
  place-stamped tree path tick id = place-map (restamp path tick)
      (λ place. elim (same_path path place.0) as (λ b. (cond {A = Names × Node B} b (place.0, record place.1 { stamp = tick }) place).1.id ≡ place.1.id) [ true ↦ refl | false ↦ refl ]) tree id

  pub place-moded : (tree : Tree B) (path : Names) (mode tick : ℕ) (id : InodeId) → place_of (moded tree path mode tick) id ≡ option_map (remode path mode tick) (place_of tree id)
  place-moded tree path mode tick id = place-map (remode path mode tick)
      (λ place. elim (same_path path place.0) as (λ b. (cond {A = Names × Node B} b (place.0, record place.1 { mode = mode; stamp = tick }) place).1.id ≡ place.1.id) [ true ↦ refl | false ↦ refl ]) tree id

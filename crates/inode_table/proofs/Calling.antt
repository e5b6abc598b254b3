-- Whole calls.
use Rattle.std.proofs.Common.{◌≡◌, ℕ, ◌+◌, Bool, true, false, cond, List, [], ◌∷◌, ◌++◌, Option, Some, None, refl, sym, ap, subst, ◌∙◌, append_assoc, append-nil}
use Rattle.std.specs.Prelude.{◌≢◌}
use Rattle.std.proofs.lemmas.Bool.Decides.{Decides-eqb}
use Rattle.std.proofs.lemmas.List.{append_cancel_left}
use Rattle.hs_types.specs.Names.{Names}
use Rattle.hs_types.specs.declared.ids.InodeId.{InodeId}
use Rattle.hs_plain.specs.declared.state.Node.{Node}
use Rattle.hs_plain.specs.declared.state.State.{State}
use Rattle.hs_plain.specs.Tree.{Tree, node_at, same_inode}
use Rattle.hs_plain.specs.Change.{stamped, without, moved, renamed}
use Rattle.hs_plain.proofs.ValidShapes.{parent_of-last, by_same, by_under, none_some, same_some}
use Rattle.dir_changes.specs.Entries.{Entries}
use Rattle.inode_table.specs.Reads.{Shown, Nodes, ReadsAs, IsNodes, child, id_of}
use Rattle.inode_table.specs.Walk.{Stamps}
use Rattle.inode_table.specs.Calls.{MayMove, MovesRows}
use Rattle.inode_table.proofs.Reading.{by_id, same_id_so, reads-alike, by_child}
use Rattle.inode_table.proofs.Covers.{some_id}
use Rattle.inode_table.proofs.Walking.{up_there, nodes-below, nodes-cut, without-gone, without-there, moved-below, moved-there, reads-move, reads-stamp, node_at-stamped, node_at-stamped_other}

module _ {B : Type 0} where
  pub nodes-graft : (f h g : Nodes B) (above : Names) (name : List ℕ) (parent : Node B) → f above ≡ Some parent → ((rest : Names) → above ≢ child above name ++ rest)
      → ((rest : Names) → g (child above name ++ rest) ≡ h rest) → ((q : Names) → ((rest : Names) → q ≢ child above name ++ rest) → g q ≡ f q)
      → ((q rest : Names) (n m : Node B) → f q ≡ Some n → ((rest : Names) → q ≢ child above name ++ rest) → h rest ≡ Some m → n.id ≢ m.id) → IsNodes f → IsNodes h → IsNodes g
  nodes-graft f h g above name parent was outside below there apart is is_h = record {
    above = λ q y other at. by_child q other above name
        (λ up _. (parent, ap g up ∙ there above outside ∙ was))
        (λ rest e. let deep : h (child rest other) ≡ Some y = sym (below (child rest other)) ∙ ap g (sym (append_assoc (child above name) rest (other ∷ [])) ∙ ap (λ (r : Names). child r other) (sym e)) ∙ at in
        let n = is_h.above rest y other deep in (n.0, ap g e ∙ below rest ∙ n.1))
        (λ away. let n = is.above q y other (sym (there (child q other) away) ∙ at) in
        (n.0, there q (λ rest e. away (rest ++ other ∷ []) (ap (λ (r : Names). child r other) e ∙ append_assoc (child above name) rest (other ∷ []))) ∙ n.1));
    once = λ p q n m hp hq e. by_under p (child above name)
        (λ r d. by_under q (child above name)
        (λ s c. d ∙ ap (λ (x : Names). child above name ++ x) (is_h.once r s n m (sym (below r) ∙ ap g (sym d) ∙ hp) (sym (below s) ∙ ap g (sym c) ∙ hq) e) ∙ sym c)
        (λ nq. absurd (apart q r m n (sym (there q nq) ∙ hq) nq (sym (below r) ∙ ap g (sym d) ∙ hp) (sym e))))
        (λ np. by_under q (child above name)
        (λ s c. absurd (apart p s n m (sym (there p np) ∙ hp) np (sym (below s) ∙ ap g (sym c) ∙ hq) e))
        (λ nq. is.once p q n m (sym (there p np) ∙ hp) (sym (there q nq) ∙ hq) e));
  }

  pub nodes-alike : (f g : Nodes B) → ((q : Names) → id_of (g q) ≡ id_of (f q)) → IsNodes f → IsNodes g
  nodes-alike f g same is = record {
    above = λ p x name h. let n = some_id (f (child p name)) x.id (sym (same (child p name)) ∙ ap id_of h) in let m = is.above p n.0 name n.1 in
        let k = some_id (g p) m.0.id (same p ∙ ap id_of m.1) in (k.0, k.1);
    once = λ p q a b h k e. let n = some_id (f p) a.id (sym (same p) ∙ ap id_of h) in let m = some_id (f q) b.id (sym (same q) ∙ ap id_of k) in is.once p q n.0 m.0 n.1 m.1 (n.2 ∙ e ∙ sym m.2);
  }

  -- a row shown as another node
  abbrev set_node : InodeId → Node B → (InodeId → Option (Node B)) → InodeId → Option (Node B)
  set_node id node nodes other = cond (same_inode other id) (Some node) (nodes other)

  set_here : (id : InodeId) (node : Node B) (nodes : InodeId → Option (Node B)) → set_node id node nodes id ≡ Some node
  set_here id node nodes = ap (λ b. cond b (Some node) (nodes id)) ((Decides-eqb id.0 id.0).1 refl)

  set_there : (id : InodeId) (node : Node B) (nodes : InodeId → Option (Node B)) (other : InodeId) → other ≢ id → set_node id node nodes other ≡ nodes other
  set_there id node nodes other ne = ap (λ b. cond b (Some node) (nodes other)) (apart (same_inode other id) refl)
    where
      apart : (b : Bool) → same_inode other id ≡ b → same_inode other id ≡ false
      apart true t = absurd (ne (same_id_so other id ((Decides-eqb other.0 id.0).0 t)))
      apart false t = t

  module _ (state : State B) (v z : Shown B) (mid : InodeId → Entries) (top : InodeId) (from to : Names) (old_name new_name : List ℕ) (a b x : Node B)
      (may : MayMove state.tree from to old_name new_name a b x) (rows : MovesRows v z mid (state.tick + 1) old_name new_name a b x) (is : IsNodes (node_at state.tree)) (reads : ReadsAs v top (node_at state.tree)) where
    abbrev t : Tree B
    t = state.tree

    abbrev tick : ℕ
    tick = state.tick + 1

    abbrev old_at : Names
    old_at = child from old_name

    abbrev new_at : Names
    new_at = child to new_name

    abbrev m : Tree B
    m = moved t old_at new_at

    abbrev u : Shown B
    u = record { node = v.node; entries = mid; spot = v.spot }

    abbrev w : Shown B
    w = record { node = v.node; entries = z.entries; spot = z.spot }

    abbrev w1 : Shown B
    w1 = record { node = set_node a.id (record a { stamp = tick }) v.node; entries = z.entries; spot = z.spot }

    abbrev w2 : Shown B
    w2 = record { node = set_node b.id (record b { stamp = tick }) w1.node; entries = z.entries; spot = z.spot }

    free_below : (rest : Names) → node_at t (new_at ++ rest) ≡ None
    free_below rest = by (node_at t (new_at ++ rest)) refl
      where
        by : (o : Option (Node B)) → node_at t (new_at ++ rest) ≡ o → node_at t (new_at ++ rest) ≡ None
        by None e = e
        by (Some n) e = let up = up_there (node_at t) is new_at rest n e in absurd (none_some (sym may.free ∙ up.1))

    shorter : (p rest : Names) (name : List ℕ) → p ≢ child p name ++ rest
    shorter p rest name e = nothing (append_cancel_left p [] (name ∷ rest) (append-nil p ∙ e ∙ append_assoc p (name ∷ []) rest))
      where
        nothing : [] ≡ name ∷ rest → ⊥
        nothing h = cc

    reads_m : ReadsAs w top (node_at m)
    reads_m = reads-move v u w top t from to old_name new_name a b x
        (record {
          sorted = may.sorted;
          was_from = may.was_from;
          was_to = may.was_to;
          was = may.was;
          free = may.free;
          outside = may.outside;
          node_left = λ id. refl;
          spot_left = λ id. refl;
          left = rows.left;
          entries_left = rows.entries_left;
          node_put = λ id. refl;
          put = rows.put;
          entries_put = rows.entries_put;
          placed = rows.placed;
          spot_put = rows.spot;
        }) is reads

    -- a directory outside what is moved stays where it is
    stays : (p : Names) (n : Node B) → node_at t p ≡ Some n → ((rest : Names) → p ≢ old_at ++ rest) → node_at m p ≡ Some n
    stays p n h ne = moved-there t old_at new_at may.sorted free_below p (λ rest e. none_some (sym (free_below rest) ∙ ap (node_at t) (sym e) ∙ h)) ∙ without-there t old_at p ne ∙ h

    to_kept : (rest : Names) → to ≢ old_at ++ rest
    to_kept rest e = may.outside (rest ++ new_name ∷ []) (ap (λ (r : Names). child r new_name) e ∙ append_assoc old_at rest (new_name ∷ []))

    nodes_m : IsNodes (node_at m)
    nodes_m = nodes-graft (node_at (without t old_at)) (λ rest. node_at t (old_at ++ rest)) (node_at m) to new_name b (without-there t old_at to to_kept ∙ may.was_to) (λ rest. shorter to rest new_name)
        (moved-below t old_at new_at may.sorted free_below) (moved-there t old_at new_at may.sorted free_below)
        (λ q rest n k hq _ hr e. by_under q old_at
        (λ r d. none_some (sym (without-gone t old_at r) ∙ ap (node_at (without t old_at)) (sym d) ∙ hq))
        (λ ne. ne rest (is.once q (old_at ++ rest) n k (sym (without-there t old_at q ne) ∙ hq) hr e)))
        (nodes-cut (node_at t) (node_at (without t old_at)) old_at (without-gone t old_at) (without-there t old_at) is)
        (nodes-below (node_at t) old_at is)

    reads_1 : ReadsAs w1 top (node_at (stamped m from tick))
    reads_1 = reads-stamp w w1 top m from a tick (stays from a may.was_from (λ rest. shorter from rest old_name))
        (record { here = set_here a.id (record a { stamp = tick }) v.node; node = set_there a.id (record a { stamp = tick }) v.node; entries = λ id. refl; spot = λ id. refl })
        nodes_m reads_m

    stamped_ids : (p : Names) (n : Node B) → node_at m p ≡ Some n → (q : Names) → id_of (node_at (stamped m p tick) q) ≡ id_of (node_at m q)
    stamped_ids p n h q = by_same q p
        (λ e. ap (λ (r : Names). id_of (node_at (stamped m p tick) r)) e ∙ ap id_of (node_at-stamped m p n tick h) ∙ sym (ap (λ (r : Names). id_of (node_at m r)) e ∙ ap id_of h))
        (λ ne. ap id_of (node_at-stamped_other m p tick q ne))

    nodes_1 : IsNodes (node_at (stamped m from tick))
    nodes_1 = nodes-alike (node_at m) (node_at (stamped m from tick)) (stamped_ids from a (stays from a may.was_from (λ rest. shorter from rest old_name))) nodes_m

    -- the second parent, which may be the first
    second : {P : Type 0} → ((n : Node B) → node_at (stamped m from tick) to ≡ Some n → record n { stamp = tick } ≡ record b { stamp = tick } → P) → P
    second {P} then_ = by_same to from
        (λ e. let same : b ≡ a = same_some (sym may.was_to ∙ ap (node_at t) e ∙ may.was_from) in
        then_ (record a { stamp = tick }) (ap (node_at (stamped m from tick)) e ∙ node_at-stamped m from a tick (stays from a may.was_from (λ rest. shorter from rest old_name)))
        (ap (λ (n : Node B). record n { stamp = tick }) (sym same)))
        (λ ne. then_ b (node_at-stamped_other m from tick to ne ∙ stays to b may.was_to to_kept) refl)

    reads_2 : ReadsAs w2 top (node_at (stamped (stamped m from tick) to tick))
    reads_2 = second (λ n at e. reads-stamp w1 w2 top (stamped m from tick) to n tick at
        (subst (λ (k : Node B). Stamps w1 w2 k) (sym e)
        (record { here = set_here b.id (record b { stamp = tick }) w1.node; node = set_there b.id (record b { stamp = tick }) w1.node; entries = λ id. refl; spot = λ id. refl }))
        nodes_1 reads_1)

    shown_nodes : (id : InodeId) → z.node id ≡ w2.node id
    shown_nodes id = by_id id b.id
        (λ e. ap z.node e ∙ rows.to_stamped ∙ sym (set_here b.id (record b { stamp = tick }) w1.node) ∙ ap w2.node (sym e))
        (λ nb. by_id id a.id
        (λ e. ap z.node e ∙ rows.from_stamped ∙ sym (set_here a.id (record a { stamp = tick }) v.node) ∙ ap w1.node (sym e) ∙ sym (set_there b.id (record b { stamp = tick }) w1.node id nb))
        (λ na. rows.node id na nb ∙ sym (set_there a.id (record a { stamp = tick }) v.node id na) ∙ sym (set_there b.id (record b { stamp = tick }) w1.node id nb)))

    pub reads_renamed : ReadsAs z top (node_at (renamed state (old_at, new_at)).tree)
    reads_renamed = subst (λ (tree : Tree B). ReadsAs z top (node_at tree)) (λ i. stamped (stamped m (sym (parent_of-last from old_name) i) tick) (sym (parent_of-last to new_name) i) tick)
        (reads-alike w2 z top (node_at (stamped (stamped m from tick) to tick)) (record { node = λ id _. shown_nodes id; entries = λ id _. refl; spot = λ id _. refl }) reads_2)

  pub reads-renamed : (state : State B) (v z : Shown B) (mid : InodeId → Entries) (top : InodeId) (from to : Names) (old_name new_name : List ℕ) (a b x : Node B)
      → MayMove state.tree from to old_name new_name a b x → MovesRows v z mid (state.tick + 1) old_name new_name a b x → IsNodes (node_at state.tree) → ReadsAs v top (node_at state.tree)
      → ReadsAs z top (node_at (renamed state (child from old_name, child to new_name)).tree)
  reads-renamed state v z mid top from to old_name new_name a b x may rows is reads = reads_renamed state v z mid top from to old_name new_name a b x may rows is reads

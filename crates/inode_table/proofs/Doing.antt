-- A touch, a deletion, a new node.
use Rattle.std.proofs.Common.{◌≡◌, ℕ, ◌+◌, ◌<◌, ◌≤◌, List, [], ◌∷◌, ◌++◌, Option, Some, None, refl, sym, ap, subst, ◌∙◌, append_assoc, append-nil, arith}
use Rattle.std.specs.Prelude.{◌≢◌}
use Rattle.std.specs.List.{Contains}
use Rattle.std.specs.Option.{option_map}
use Rattle.std.specs.FinMap.Entries.{put}
use Rattle.hs_types.specs.Names.{Names}
use Rattle.hs_types.specs.declared.ids.InodeId.{InodeId}
use Rattle.hs_plain.specs.declared.state.Node.{Node}
use Rattle.hs_plain.specs.declared.state.State.{State}
use Rattle.hs_plain.specs.declared.state.Member.{Member}
use Rattle.hs_plain.specs.declared.state.FileBlocks.{FileBlocks}
use Rattle.hs_plain.specs.Tree.{Tree, path_cmp, node_at, parent_of}
use Rattle.hs_plain.specs.Change.{stamped, without, removed, with_node}
use Rattle.hs_plain.proofs.ValidShapes.{by_same, by_under, none_some, same_some, parent_of-last}
use Rattle.hs_plain.proofs.ValidChanges.{put_here, put_there}
use Rattle.std.proofs.lemmas.List.{append_cancel_left}
use Rattle.dir_changes.specs.Entries.{id_at, with_entry, without_name}
use Rattle.inode_table.specs.Reads.{Shown, Nodes, ReadsAs, IsNodes, Has, Child, child, id_of}
use Rattle.inode_table.specs.Marks.{Mark, RowMarks, InCopy, AreMarks, IsTop, last_of, cover}
use Rattle.inode_table.specs.RowHistory.{Table, RowHistory, rows_at, shown, marks_of, node_in, entries_in, spot_in, entries_of, IsFrozen}
use Rattle.inode_table.specs.Stands.{Stands, Edits, root_id}
use Rattle.inode_table.specs.Deeds.{ChangesAt, Inserts}
use Rattle.inode_table.proofs.Reading.{by_id, reads-alike, reads-touch, reads-cut, reads-graft, has}
use Rattle.inode_table.proofs.Covers.{cover-bound, some_id}
use Rattle.inode_table.proofs.Marked.{marks-arrive, marks-fewer}
use Rattle.inode_table.proofs.Kept.{frozen-step, safe-need}
use Rattle.inode_table.proofs.Walking.{up_there, nodes-cut, without-gone, without-there, node_at-stamped, reads-stamp}
use Rattle.inode_table.proofs.Calling.{nodes-alike}
use Rattle.inode_table.proofs.Renaming.{child-alike, has-alike, stamp-id}

-- ---- one change of a live row

module _ (state : State FileBlocks) (issued : ℕ) (before after : Table) (path : Names) (node : Node FileBlocks) (old new : RowHistory) (change : ChangesAt state before after path node old new) (stands : Stands before state issued) where
  pub frozen-at : IsFrozen after state.members
  frozen-at = frozen-step state.members before after node.id _ old new stands.top.above change.step
      (safe-need state.members node.id old (cover (last_of state.members) (marks_of before) change.chain)
      (λ m is_live copied. cover-bound (node_at state.tree) state.members (marks_of before) issued root_id path change.chain node.id m stands.marks stands.top stands.live.root change.is_chain (ap id_of change.at) is_live copied))
      stands.frozen

  pub marks-at : (tree : Tree FileBlocks) → ((p y : InodeId) → Child (node_at tree) p y → Child (node_at state.tree) p y) → ((y : InodeId) → Has (node_at tree) y → Has (node_at state.tree) y) → AreMarks (node_at tree) state.members (marks_of after) issued
  marks-at tree kid has = subst (λ (k : RowMarks). AreMarks (node_at tree) state.members k issued) (λ i id. sym (change.step.marks id) i)
      (marks-fewer (node_at state.tree) (node_at tree) state.members state.members (marks_of before) issued kid has (λ m within. within) stands.marks)

  pub top-at : IsTop state.members (marks_of after) root_id
  top-at = record { own = stands.top.own; above = stands.top.above; since = ap (λ (k : Mark). k.since) (change.step.marks root_id) ∙ stands.top.since }

  -- what is shown now of the other rows, and of this one before
  pub other-node : (id : InodeId) → id ≢ node.id → (shown after 0).node id ≡ (shown before 0).node id
  other-node id ne = ap (option_map (node_in id 0)) (change.step.there id ne)

  pub other-entries : (id : InodeId) → id ≢ node.id → (shown after 0).entries id ≡ (shown before 0).entries id
  other-entries id ne = ap (entries_of 0) (change.step.there id ne)

  pub all-spots : spot_in 0 new ≡ spot_in 0 old → (id : InodeId) → (shown after 0).spot id ≡ (shown before 0).spot id
  all-spots same id = by_id id node.id
      (λ e. ap (shown after 0).spot e ∙ ap (option_map (spot_in 0)) change.step.here ∙ ap (λ s. Some s) same ∙ sym (ap (option_map (spot_in 0)) change.step.was) ∙ ap (shown before 0).spot (sym e))
      (λ ne. ap (option_map (spot_in 0)) (change.step.there id ne))

  pub this-node : node_in node.id 0 old ≡ node
  this-node = same_some (sym (ap (option_map (node_in node.id 0)) change.step.was) ∙ stands.live.node path node change.at)

pub touch-stands : (state : State FileBlocks) (tree : Tree FileBlocks) (issued : ℕ) (before after : Table) (path : Names) (node other : Node FileBlocks) (old new : RowHistory)
    → ChangesAt state before after path node old new → other.id ≡ node.id → node_in node.id 0 new ≡ other → entries_in 0 new ≡ entries_in 0 old → spot_in 0 new ≡ spot_in 0 old
    → node_at tree path ≡ Some other → ((q : Names) → q ≢ path → node_at tree q ≡ node_at state.tree q) → IsNodes (node_at state.tree)
    → Stands before state issued → Stands after (record state { tree = tree }) issued
touch-stands state tree issued before after path node other old new change same_id now entries spot here there is stands = record {
  live = reads-touch (shown before 0) (shown after 0) root_id (node_at state.tree) (node_at tree) path node other
      (record {
        was = change.at;
        same_id = same_id;
        here = here;
        there = there;
        shows = ap (shown after 0).node same_id ∙ ap (option_map (node_in node.id 0)) change.step.here ∙ ap (λ n. Some n) now;
        node = λ id ne. other-node state issued before after path node old new change stands id (λ e. ne (e ∙ sym same_id));
        entries = λ id. by_id id node.id
            (λ e. ap (shown after 0).entries e ∙ ap (entries_of 0) change.step.here ∙ entries ∙ sym (ap (entries_of 0) change.step.was) ∙ ap (shown before 0).entries (sym e))
            (other-entries state issued before after path node old new change stands id);
        spot = all-spots state issued before after path node old new change stands spot;
      }) is stands.live;
  frozen = frozen-at state issued before after path node old new change stands;
  marks = marks-at state issued before after path node old new change stands tree (child-alike (node_at state.tree) (node_at tree) ids) (has-alike (node_at state.tree) (node_at tree) ids);
  top = top-at state issued before after path node old new change stands;
  ids_issued = stands.ids_issued;
}
  where
    ids : (q : Names) → id_of (node_at tree q) ≡ id_of (node_at state.tree q)
    ids q = by_same q path (λ e. ap (λ (r : Names). id_of (node_at tree r)) e ∙ ap id_of here ∙ ap (λ i. Some i) same_id ∙ sym (ap (λ (r : Names). id_of (node_at state.tree r)) e ∙ ap id_of change.at)) (λ ne. ap id_of (there q ne))

shorter : (p rest : Names) (name : List ℕ) → p ≢ child p name ++ rest
shorter p rest name e = nothing (append_cancel_left p [] (name ∷ rest) (append-nil p ∙ e ∙ append_assoc p (name ∷ []) rest))
  where
    nothing : [] ≡ name ∷ rest → ⊥
    nothing h = cc

pub delete-stands : (state : State FileBlocks) (issued : ℕ) (before after : Table) (above : Names) (name : List ℕ) (parent : Node FileBlocks) (old new : RowHistory)
    → ChangesAt state before after above parent old new → Edits (state.tick + 1) old new → entries_in 0 new ≡ without_name name (entries_in 0 old) → IsNodes (node_at state.tree)
    → Stands before state issued → Stands after (removed state (child above name)) issued
delete-stands state issued before after above name parent old new change edit entries is stands = record {
  live = subst (λ (p : Names). ReadsAs (shown after 0) root_id (node_at (stamped (without state.tree (child above name)) p (state.tick + 1)))) (sym (parent_of-last above name))
      (reads-stamp (record { node = (shown before 0).node; entries = (shown after 0).entries; spot = (shown before 0).spot }) (shown after 0) root_id (without state.tree (child above name)) above parent (state.tick + 1) parent_left
      (record {
        here = ap (option_map (node_in parent.id 0)) change.step.here ∙ ap (λ n. Some n) (edit.node parent.id ∙ ap (λ (n : Node FileBlocks). record n { stamp = state.tick + 1 }) (this-node state issued before after above parent old new change stands));
        node = other-node state issued before after above parent old new change stands;
        entries = λ id. refl;
        spot = all-spots state issued before after above parent old new change stands edit.spot;
      })
      (nodes-cut (node_at state.tree) (node_at (without state.tree (child above name))) (child above name) (without-gone state.tree (child above name)) (without-there state.tree (child above name)) is)
      (reads-cut (shown before 0) (record { node = (shown before 0).node; entries = (shown after 0).entries; spot = (shown before 0).spot }) root_id (node_at state.tree) (node_at (without state.tree (child above name))) above name parent
      (record {
        was = change.at;
        gone = without-gone state.tree (child above name);
        there = without-there state.tree (child above name);
        node = λ id. refl;
        spot = λ id. refl;
        left = ap (entries_of 0) change.step.here ∙ entries ∙ ap (without_name name) (sym (ap (entries_of 0) change.step.was));
        entries = other-entries state issued before after above parent old new change stands;
      }) is stands.live));
  frozen = frozen-at state issued before after above parent old new change stands;
  marks = marks-at state issued before after above parent old new change stands (removed state (child above name)).tree
      (λ p y c. left_child p y (child-alike (node_at (without state.tree (child above name))) (node_at (removed state (child above name)).tree) ids p y c))
      (λ y h. left_has y (has-alike (node_at (without state.tree (child above name))) (node_at (removed state (child above name)).tree) ids y h));
  top = top-at state issued before after above parent old new change stands;
  ids_issued = stands.ids_issued;
}
  where
    parent_left : node_at (without state.tree (child above name)) above ≡ Some parent
    parent_left = without-there state.tree (child above name) above (λ rest. shorter above rest name) ∙ change.at

    ids : (q : Names) → id_of (node_at (removed state (child above name)).tree q) ≡ id_of (node_at (without state.tree (child above name)) q)
    ids q = stamp-id (without state.tree (child above name)) (parent_of (child above name)) (state.tick + 1) q

    left : (q : Names) (n : Node FileBlocks) → node_at (without state.tree (child above name)) q ≡ Some n → node_at state.tree q ≡ Some n
    left q n h = by_under q (child above name)
        (λ rest e. absurd (none_some (sym (without-gone state.tree (child above name) rest) ∙ ap (node_at (without state.tree (child above name))) (sym e) ∙ h)))
        (λ apart. sym (without-there state.tree (child above name) q apart) ∙ h)

    left_child : (p y : InodeId) → Child (node_at (without state.tree (child above name))) p y → Child (node_at state.tree) p y
    left_child p y c = record { at = c.at; name = c.name; above = c.above; node = c.node; is_above = left c.at c.above c.is_above; is = left (child c.at c.name) c.node c.is; parent_named = c.parent_named; named = c.named }

    left_has : (y : InodeId) → Has (node_at (without state.tree (child above name))) y → Has (node_at state.tree) y
    left_has y h = record { at = h.at; node = h.node; is = left h.at h.node h.is; named = h.named }

-- ---- a new node

pub insert-stands : (state : State FileBlocks) (issued : ℕ) (t0 t1 : Table) (x : InodeId) (fresh : RowHistory) → Inserts t0 t1 issued x fresh → (Has (node_at state.tree) x → ⊥) → ((m : Member FileBlocks) → Contains state.members m → InCopy m x → ⊥)
    → IsNodes (node_at state.tree) → Stands t0 state issued → Stands t1 state issued
insert-stands state issued t0 t1 x fresh step not_live not_copied is stands = record {
  live = kept 0 root_id (node_at state.tree) not_live stands.live;
  frozen = λ m is_live. kept m.snapshot.0 m.directory (node_at m.tree) (not_copied m is_live) (stands.frozen m is_live);
  marks = record {
    down = λ p y m c is_live lt. stands.marks.down p y m c is_live (subst (λ (k : Mark). k.since < m.snapshot.0) (same y (kid p y c)) lt);
    up = λ p y m c is_live lt. stands.marks.up p y m c is_live (subst (λ (k : Mark). k.since < m.snapshot.0) (same y (kid p y c)) lt);
    carried = λ y m h is_live le copied. subst (λ (k : Mark). m.snapshot.0 ≤ k.carry) (sym (same y h)) (stands.marks.carried y m h is_live (subst (λ (k : Mark). m.snapshot.0 ≤ k.since) (same y h) le) copied);
    since_issued = λ y h. subst (λ (k : Mark). k.since ≤ issued) (sym (same y h)) (stands.marks.since_issued y h);
    carry_issued = λ y h. subst (λ (k : Mark). k.carry ≤ issued) (sym (same y h)) (stands.marks.carry_issued y h);
  };
  top = record { own = stands.top.own; above = stands.top.above; since = ap (λ (k : Mark). k.since) (same root_id root_there) ∙ stands.top.since };
  ids_issued = stands.ids_issued;
}
  where
    kept : (s : ℕ) (top : InodeId) (f : Nodes FileBlocks) → (Has f x → ⊥) → ReadsAs (shown t0 s) top f → ReadsAs (shown t1 s) top f
    kept s top f never reads = reads-alike (shown t0 s) (shown t1 s) top f
        (record {
          node = λ id h. ap (option_map (node_in id s)) (step.there id (λ e. never (subst (Has f) e h)));
          entries = λ id h. ap (entries_of s) (step.there id (λ e. never (subst (Has f) e h)));
          spot = λ id h. ap (option_map (spot_in s)) (step.there id (λ e. never (subst (Has f) e h)));
        }) reads

    same : (y : InodeId) → Has (node_at state.tree) y → marks_of t1 y ≡ marks_of t0 y
    same y h = step.marks y (λ e. not_live (subst (Has (node_at state.tree)) e h))

    kid : (p y : InodeId) → Child (node_at state.tree) p y → Has (node_at state.tree) y
    kid p y c = record { at = child c.at c.name; node = c.node; is = c.is; named = c.named }

    root_there : Has (node_at state.tree) root_id
    root_there = let n = some_id (node_at state.tree []) root_id stands.live.root in record { at = []; node = n.0; is = n.1; named = n.2 }

-- one node alone
abbrev pub leaf : Node FileBlocks → Nodes FileBlocks
leaf node [] = Some node
leaf node (name ∷ names) = None

no_child : (node : Node FileBlocks) (p : Names) (name : List ℕ) (x : Node FileBlocks) → leaf node (child p name) ≡ Some x → ⊥
no_child node [] name x h = none_some h
no_child node (a ∷ p) name x h = none_some h

nodes-leaf : (node : Node FileBlocks) → IsNodes (leaf node)
nodes-leaf node = record { above = λ p x name h. absurd (no_child node p name x h); once = one }
  where
    one : (p q : Names) (a b : Node FileBlocks) → leaf node p ≡ Some a → leaf node q ≡ Some b → a.id ≡ b.id → p ≡ q
    one [] [] a b h k e = refl
    one [] (y ∷ q) a b h k e = absurd (none_some k)
    one (x ∷ p) q a b h k e = absurd (none_some h)

reads-leaf : (v : Shown FileBlocks) (node : Node FileBlocks) → v.node node.id ≡ Some node → v.entries node.id ≡ [] → ReadsAs v node.id (leaf node)
reads-leaf v node shows none = record { root = refl; node = at; entries = below; spot = λ p n x name h k. absurd (no_child node p name x k) }
  where
    at : (p : Names) (n : Node FileBlocks) → leaf node p ≡ Some n → v.node n.id ≡ Some n
    at [] n h = subst (λ (m : Node FileBlocks). v.node m.id ≡ Some m) (same_some h) shows
    at (x ∷ p) n h = absurd (none_some h)

    below : (p : Names) (n : Node FileBlocks) (name : List ℕ) → leaf node p ≡ Some n → id_at name (v.entries n.id) ≡ id_of (leaf node (child p name))
    below [] n name h = ap (λ (m : Node FileBlocks). id_at name (v.entries m.id)) (sym (same_some h)) ∙ ap (id_at name) none
    below (x ∷ p) n name h = absurd (none_some h)

module _ (state : State FileBlocks) (issued : ℕ) (t0 t1 t2 : Table) (above : Names) (name : List ℕ) (parent node : Node FileBlocks) (fresh old new : RowHistory)
    (step : Inserts t0 t1 issued node.id fresh) (is_node : node_in node.id 0 fresh ≡ node) (no_entries : entries_in 0 fresh ≡ []) (is_spot : spot_in 0 fresh ≡ record { parent = parent.id; name = name })
    (change : ChangesAt state t1 t2 above parent old new) (edit : Edits (state.tick + 1) old new) (entries : entries_in 0 new ≡ with_entry name node.id (entries_in 0 old))
    (free : node_at state.tree (child above name) ≡ None) (not_live : Has (node_at state.tree) node.id → ⊥) (not_copied : (m : Member FileBlocks) → Contains state.members m → InCopy m node.id → ⊥)
    (is : IsNodes (node_at state.tree)) (before : Stands t0 state issued) where
  abbrev path : Names
  path = child above name

  abbrev st : Tree FileBlocks
  st = stamped state.tree above (state.tick + 1)

  abbrev made : Tree FileBlocks
  made = put path_cmp path node st

  abbrev mid : Shown FileBlocks
  mid = record { node = (shown t2 0).node; entries = (shown t1 0).entries; spot = (shown t1 0).spot }

  stands : Stands t1 state issued
  stands = insert-stands state issued t0 t1 node.id fresh step not_live not_copied is before

  not_parent : node.id ≢ parent.id
  not_parent e = not_live (record { at = above; node = parent; is = change.at; named = sym e })

  rows_2 : rows_at t2 node.id ≡ Some fresh
  rows_2 = change.step.there node.id not_parent ∙ step.here

  nodes_st : IsNodes (node_at st)
  nodes_st = nodes-alike (node_at state.tree) (node_at st) (stamp-id state.tree above (state.tick + 1)) is

  reads_st : ReadsAs mid root_id (node_at st)
  reads_st = reads-stamp (shown t1 0) mid root_id state.tree above parent (state.tick + 1) change.at
      (record {
        here = ap (option_map (node_in parent.id 0)) change.step.here ∙ ap (λ n. Some n) (edit.node parent.id ∙ ap (λ (n : Node FileBlocks). record n { stamp = state.tick + 1 }) (this-node state issued t1 t2 above parent old new change stands));
        node = other-node state issued t1 t2 above parent old new change stands;
        entries = λ id. refl;
        spot = λ id. refl;
      }) is stands.live

  reads_leaf : ReadsAs mid node.id (leaf node)
  reads_leaf = reads-leaf mid node (ap (option_map (node_in node.id 0)) rows_2 ∙ ap (λ n. Some n) is_node) (ap (entries_of 0) step.here ∙ no_entries)

  nothing : (n : List ℕ) (rest : Names) → node_at st (path ++ n ∷ rest) ≡ None
  nothing n rest = by (node_at st (path ++ n ∷ rest)) refl
    where
      by : (o : Option (Node FileBlocks)) → node_at st (path ++ n ∷ rest) ≡ o → node_at st (path ++ n ∷ rest) ≡ None
      by None e = e
      by (Some x) e = let up = up_there (node_at st) nodes_st path (n ∷ rest) x e in absurd (none_some (sym (ap id_of free) ∙ sym (stamp-id state.tree above (state.tick + 1) path) ∙ ap id_of up.1))

  longer : (n : List ℕ) (rest : Names) → path ++ n ∷ rest ≢ path
  longer n rest e = nil_cons (append_cancel_left path [] (n ∷ rest) (append-nil path ∙ sym e))
    where
      nil_cons : [] ≡ n ∷ rest → ⊥
      nil_cons h = cc

  here : (rest : Names) → node_at made (path ++ rest) ≡ leaf node rest
  here [] = ap (node_at made) (append-nil path) ∙ put_here path node st
  here (n ∷ rest) = put_there path node st (path ++ n ∷ rest) (longer n rest) ∙ nothing n rest

  live_2 : ReadsAs (shown t2 0) root_id (node_at made)
  live_2 = reads-graft mid (shown t2 0) root_id node.id (node_at st) (leaf node) (node_at made) above name (record parent { stamp = state.tick + 1 })
      (record {
        was = node_at-stamped state.tree above parent (state.tick + 1) change.at;
        here = here;
        there = λ q apart. put_there path node st q (λ e. apart [] (e ∙ sym (append-nil path)));
        not_below = λ h. only h.at h.node h.is h.named;
        new = λ h. not_live (has-alike (node_at state.tree) (node_at st) (stamp-id state.tree above (state.tick + 1)) node.id h);
        node = λ id. refl;
        entered = ap (entries_of 0) change.step.here ∙ entries ∙ ap (with_entry name node.id) (sym (ap (entries_of 0) change.step.was));
        entries = other-entries state issued t1 t2 above parent old new change stands;
        placed = ap (option_map (spot_in 0)) rows_2 ∙ ap (λ s. Some s) is_spot;
        spot = λ id _. all-spots state issued t1 t2 above parent old new change stands edit.spot id;
      }) nodes_st (nodes-leaf node) reads_st reads_leaf
    where
      only : (p : Names) (n : Node FileBlocks) → leaf node p ≡ Some n → n.id ≢ parent.id
      only [] n h e = not_parent (ap (λ (m : Node FileBlocks). m.id) (same_some h) ∙ e)
      only (x ∷ p) n h e = none_some h

  was_there : (q : Names) (n : Node FileBlocks) → node_at made q ≡ Some n → n.id ≢ node.id → node_at st q ≡ Some n
  was_there q n h ne = by_same q path (λ e. absurd (ne (ap (λ (m : Node FileBlocks). m.id) (same_some (sym h ∙ ap (node_at made) e ∙ put_here path node st))))) (λ apart. sym (put_there path node st q apart) ∙ h)

  above_there : (q : Names) (other : List ℕ) (n x : Node FileBlocks) → node_at made q ≡ Some n → node_at st (child q other) ≡ Some x → node_at st q ≡ Some n
  above_there q other n x h k = by_same q path
      (λ e. absurd (none_some (sym (nothing other []) ∙ ap (λ (r : Names). node_at st (child r other)) (sym e) ∙ k)))
      (λ apart. sym (put_there path node st q apart) ∙ h)

  pub stands_made : Stands t2 (with_node state path node) issued
  stands_made = subst (λ (p : Names). Stands t2 (record state { tree = put path_cmp path node (stamped state.tree p (state.tick + 1)); next_inode = state.next_inode + 1 }) issued) (sym (parent_of-last above name)) (record {
    live = live_2;
    frozen = frozen-at state issued t1 t2 above parent old new change stands;
    marks = marks-arrive (node_at state.tree) (node_at made) state.members (marks_of t1) (marks_of t2) issued node.id 0
        (record {
          child = λ p y c ne. let k = was_there (child c.at c.name) c.node c.is (λ e. ne (sym c.named ∙ e)) in
              child-alike (node_at state.tree) (node_at st) (stamp-id state.tree above (state.tick + 1)) p y
              (record { at = c.at; name = c.name; above = c.above; node = c.node; is_above = above_there c.at c.name c.above c.node c.is_above k; is = k; parent_named = c.parent_named; named = c.named });
          has = λ y h ne. has-alike (node_at state.tree) (node_at st) (stamp-id state.tree above (state.tick + 1)) y (record { at = h.at; node = h.node; is = was_there h.at h.node h.is (λ e. ne (sym h.named ∙ e)); named = h.named });
          other = λ y _. change.step.marks y;
          here = change.step.marks node.id ∙ step.mark;
          ids_issued = stands.ids_issued;
          carry_issued = omega arith;
          enough = λ m is_live copied. absurd (not_copied m is_live copied);
        }) stands.marks;
    top = top-at state issued t1 t2 above parent old new change stands;
    ids_issued = stands.ids_issued;
  })

pub make-stands : (state : State FileBlocks) (issued : ℕ) (t0 t1 t2 : Table) (above : Names) (name : List ℕ) (parent node : Node FileBlocks) (fresh old new : RowHistory)
    → Inserts t0 t1 issued node.id fresh → node_in node.id 0 fresh ≡ node → entries_in 0 fresh ≡ [] → spot_in 0 fresh ≡ record { parent = parent.id; name = name }
    → ChangesAt state t1 t2 above parent old new → Edits (state.tick + 1) old new → entries_in 0 new ≡ with_entry name node.id (entries_in 0 old)
    → node_at state.tree (child above name) ≡ None → (Has (node_at state.tree) node.id → ⊥) → ((m : Member FileBlocks) → Contains state.members m → InCopy m node.id → ⊥) → IsNodes (node_at state.tree)
    → Stands t0 state issued → Stands t2 (with_node state (child above name) node) issued
make-stands state issued t0 t1 t2 above name parent node fresh old new step is_node no_entries is_spot change edit entries free not_live not_copied is before =
    stands_made state issued t0 t1 t2 above name parent node fresh old new step is_node no_entries is_spot change edit entries free not_live not_copied is before

-- A whole rename.
use Rattle.std.proofs.Common.{◌≡◌, ℕ, ◌+◌, List, [], ◌∷◌, ◌++◌, Option, Some, None, Ok, refl, sym, ap, subst, ◌∙◌, append_assoc, append-nil, arith}
use Rattle.std.specs.Prelude.{◌≢◌}
use Rattle.std.specs.Option.{option_map}
use Rattle.std.proofs.lemmas.List.{append_cancel_left}
use Rattle.hs_types.specs.Names.{Names}
use Rattle.hs_types.specs.declared.ids.InodeId.{InodeId}
use Rattle.hs_types.specs.declared.call.Call.TheVariants as calls
use Rattle.hs_plain.specs.declared.state.Node.{Node}
use Rattle.hs_plain.specs.declared.state.State.{State}
use Rattle.hs_plain.specs.declared.state.FileBlocks.{FileBlocks}
use Rattle.hs_plain.specs.Files.{Files}
use Rattle.hs_plain.specs.Tree.{node_at, parent_of}
use Rattle.hs_plain.specs.Modifying.{rename_at}
use Rattle.hs_plain.specs.Change.{change, ticked, if_asked, stamped, moved, renamed}
use Rattle.hs_plain.specs.Valid.{IsValid, is_dir_node}
use Rattle.hs_plain.proofs.ValidAsked.{walked, rename_allowed, lands_outside}
use Rattle.hs_plain.proofs.ValidShapes.{same_some, not_last}
use Rattle.hs_plain.proofs.Validity.{valid-change}
use Rattle.snapshot_manager.specs.Snapshots.{Snapshots}
use Rattle.inode_table.specs.declared.change.Change.{Change}
use Rattle.inode_table.specs.declared.change.Change.TheVariants as changes
use Rattle.inode_table.specs.Reads.{Nodes, child, id_of}
use Rattle.inode_table.specs.Marks.{IsChain, Leads}
use Rattle.inode_table.specs.RowHistory.{RowHistory, RowState, row_at, rows_at, shown, entries_of}
use Rattle.inode_table.specs.Stands.{Stands, root_id}
use Rattle.inode_table.specs.Kept.{CanChange, IsLoose}
use Rattle.inode_table.specs.Tabled.{Tabled}
use Rattle.inode_table.specs.Whole.{StandsFor}
use Rattle.inode_table.proofs.Reading.{by_id}
use Rattle.inode_table.proofs.Giving.{from-valid}
use Rattle.inode_table.proofs.Walking.{without-there, moved-there}
use Rattle.inode_table.proofs.Renaming.{free_below, has-alike, stamp-id, cover-within}
use Rattle.table_laws.specs.Naming.{IsLive, lists_of}
use Rattle.table_laws.specs.Recording.{MayRecord}
use Rattle.table_laws.specs.WholeCalls as tables
use Rattle.table_laws.specs.WholeCalls.{way_to, cover_at, need_at}
use Rattle.table_laws.specs.WholeStands.{Before, Reaches, MayRename}
use Rattle.table_laws.proofs.Recording.{again-may}
use Rattle.table_laws.proofs.StepTables.{row-there}
use Rattle.table_laws.proofs.WholeSteps.{fits-move}
use Rattle.table_laws.proofs.WholeMoves as moves
use Rattle.table_laws.proofs.WholeNew.{root-there}
use Rattle.table_laws.proofs.WholeMidway.{Midway, begun, may-at, mid-out, mid-in, mid-quiet, mid-mark, ended-same}
use Rattle.table_laws.proofs.WholeParts.{before-of}

-- ---- one chain leads to a path

leads_one : (nodes : Nodes FileBlocks) (at below : Names) (xs ys : List InodeId) → Leads nodes at below xs → Leads nodes at below ys → xs ≡ ys
leads_one nodes at [] [] [] h k = refl
leads_one nodes at [] [] (y ∷ ys) h k = absurd k
leads_one nodes at [] (x ∷ xs) ys h k = absurd h
leads_one nodes at (name ∷ below) [] ys h k = absurd h
leads_one nodes at (name ∷ below) (x ∷ xs) [] h k = absurd k
leads_one nodes at (name ∷ below) (x ∷ xs) (y ∷ ys) h k = λ i. same_some (sym h.0 ∙ k.0) i ∷ leads_one nodes (child at name) below xs ys h.1 k.1 i

one_chain : (nodes : Nodes FileBlocks) (path : Names) (xs ys : List InodeId) → IsChain nodes path xs → IsChain nodes path ys → xs ≡ ys
one_chain nodes path [] ys h k = absurd h
one_chain nodes path (x ∷ xs) [] h k = absurd k
one_chain nodes path (x ∷ xs) (y ∷ ys) h k = λ i. same_some (sym h.0 ∙ k.0) i ∷ leads_one nodes [] path xs ys h.1 k.1 i

-- ---- the steps

module _ (t : Tabled) (snaps : Snapshots) (state : State FileBlocks) (from to : Names) (old_name new_name : List ℕ) (chain_a chain_b chain_x : List InodeId) (a b x : Node FileBlocks)
    (before : StandsFor t snaps state) (may : MayRename state from to old_name new_name chain_a chain_b chain_x a b x) where
  abbrev issued : ℕ
  issued = snaps.issued.0

  abbrev tick : ℕ
  tick = state.tick + 1

  known : Before t state issued
  known = before-of t snaps state before

  abbrev t1 : Tabled
  t1 = tables.unlinked state (way_to a chain_a) old_name t

  abbrev t2 : Tabled
  t2 = tables.with_change state t.rows (way_to b chain_b) (changes.Add new_name x.id) t1

  abbrev move : Change
  move = changes.Move (record { parent = b.id; name = new_name })

  abbrev t3 : Tabled
  t3 = tables.with_change state t.rows (way_to x chain_x) move t2

  abbrev t4 : Tabled
  t4 = tables.renamed state issued (way_to a chain_a) (way_to b chain_b) (way_to x chain_x) old_name new_name t

  reach_a : Reaches state from chain_a a
  reach_a = record { at = may.moves.was_from; leads = may.leads_a }

  reach_b : Reaches state to chain_b b
  reach_b = record { at = may.moves.was_to; leads = may.leads_b }

  reach_x : Reaches state (child from old_name) chain_x x
  reach_x = record { at = may.moves.was; leads = may.leads_x }

  x_not_root : x.id ≢ root_id
  x_not_root e = let root = root-there t snaps state before in not_last from old_name (known.nodes.once (child from old_name) root.at x root.node may.moves.was root.is (e ∙ sym root.named) ∙ at_top root.at root.node root.is root.named)
    where
      at_top : (p : Names) (n : Node FileBlocks) → node_at state.tree p ≡ Some n → n.id ≡ root_id → p ≡ []
      at_top p n h named = let top = root_node (node_at state.tree []) refl in known.nodes.once p [] n top.0 h top.1 (named ∙ sym top.2)
        where
          root_node : (o : Option (Node FileBlocks)) → node_at state.tree [] ≡ o → (m : Node FileBlocks) × (node_at state.tree [] ≡ Some m) × (m.id ≡ root_id)
          root_node None is = absurd (none (sym (ap id_of is) ∙ before.stands.live.root))
            where
              none : None ≡ Some root_id → ⊥
              none h = cc
          root_node (Some m) is = (m, is, same_some (sym (ap id_of is) ∙ before.stands.live.root))

  -- the entry out

  pub can-out : CanChange t.rows a.id (changes.Remove old_name)
  can-out = record {
    row = (moves.row_a t state issued from to old_name new_name chain_a chain_b chain_x a b x known may).row;
    there = (moves.row_a t state issued from to old_name new_name chain_a chain_b chain_x a b x known may).there;
    fits = moves.fits_a t state issued from to old_name new_name chain_a chain_b chain_x a b x known may;
    entry = tt;
  }

  may_a : MayRecord state.members issued a.id can-out.row.rows (need_at state t.rows (way_to a chain_a)) tick
  may_a = may-at t snaps state from chain_a a can-out.row.rows before reach_a (ap (option_map (λ (r : RowState). r.rows)) can-out.there)

  out : Midway state.members issued tick 1 (x.id ∷ []) t1 × IsLoose t1.rows x.id
  out = mid-out state.members issued tick 0 [] t (begun t snaps state before) a.id x.id (need_at state t.rows (way_to a chain_a)) old_name can-out
      (before.stands.live.entries from a old_name may.moves.was_from ∙ ap id_of may.moves.was) may_a (omega arith)

  -- the entry in

  pub can-in : CanChange t1.rows b.id (changes.Add new_name x.id)
  can-in = record {
    row = (moves.other_b t state issued from to old_name new_name chain_a chain_b chain_x a b x known may).row;
    there = (moves.other_b t state issued from to old_name new_name chain_a chain_b chain_x a b x known may).there;
    fits = (moves.other_b t state issued from to old_name new_name chain_a chain_b chain_x a b x known may).fits;
    entry = out.1;
  }

  rows_b : rows_at t1.rows b.id ≡ Some can-in.row.rows
  rows_b = ap (option_map (λ (r : RowState). r.rows)) can-in.there

  may_b : MayRecord state.members issued b.id can-in.row.rows (need_at state t.rows (way_to b chain_b)) tick
  unfolding can-out
  may_b = by_id b.id a.id
      (λ e. let one : from ≡ to = known.nodes.once from to a b may.moves.was_from may.moves.was_to (sym e) in
      let chains : chain_a ≡ chain_b = one_chain (node_at state.tree) to chain_a chain_b (subst (λ (p : Names). IsChain (node_at state.tree) p chain_a) one may.leads_a) may.leads_b in
      let number : need_at state t.rows (way_to a chain_a) ≡ need_at state t.rows (way_to b chain_b) = λ i. need_at state t.rows (record { id = sym e i; chain = chains i }) in
      let rows : moves.na t state issued from to old_name new_name chain_a chain_b chain_x a b x known may ≡ can-in.row.rows = same_some (sym (ap (rows_at t1.rows) e ∙ (moves.step_a t state issued from to old_name new_name chain_a chain_b chain_x a b x known may).here) ∙ rows_b) in
      subst (λ n. MayRecord state.members issued b.id can-in.row.rows n tick) number
      (subst (λ (r : RowHistory). MayRecord state.members issued b.id r (need_at state t.rows (way_to a chain_a)) tick) rows
      (subst (λ (i : InodeId). MayRecord state.members issued i (moves.na t state issued from to old_name new_name chain_a chain_b chain_x a b x known may) (need_at state t.rows (way_to a chain_a)) tick) (sym e)
      (again-may state.members issued (need_at state t.rows (way_to a chain_a)) tick a.id (changes.Remove old_name) can-out.row.rows may_a).0)))
      (λ ne. may-at t snaps state to chain_b b can-in.row.rows before reach_b (sym ((moves.step_a t state issued from to old_name new_name chain_a chain_b chain_x a b x known may).there b.id ne) ∙ rows_b))

  pub can-move : CanChange t2.rows x.id move
  can-move = record {
    row = (moves.found_x t state issued from to old_name new_name chain_a chain_b chain_x a b x known may).0;
    there = (moves.found_x t state issued from to old_name new_name chain_a chain_b chain_x a b x known may).1;
    fits = fits-move (record { parent = b.id; name = new_name }) (moves.found_x t state issued from to old_name new_name chain_a chain_b chain_x a b x known may).0.rows;
    entry = tt;
  }

  pub then-there : (row : RowState) × (row_at t3.rows x.id ≡ Some row)
  then-there = row-there t3.rows x.id (moves.nx t state issued from to old_name new_name chain_a chain_b chain_x a b x known may) (moves.step_x t state issued from to old_name new_name chain_a chain_b chain_x a b x known may).here

  module _ (valid : IsValid (ticked (renamed state (child from old_name, child to new_name)))) where
    abbrev next : State FileBlocks
    next = renamed state (child from old_name, child to new_name)

    stands : Stands t4.rows next issued
    stands = moves.renamed-stands t state issued from to old_name new_name chain_a chain_b chain_x a b x known may

    lists_then : (id : InodeId) → (shown t4.rows 0).entries id ≡ lists_of t2.rows id
    lists_then id = ap (entries_of 0) ((moves.marks t state issued from to old_name new_name chain_a chain_b chain_x a b x known may).rows id) ∙ by_id id x.id
        (λ e. ap (λ (j : InodeId). entries_of 0 (rows_at t3.rows j)) e ∙ ap (entries_of 0) (moves.step_x t state issued from to old_name new_name chain_a chain_b chain_x a b x known may).here
        ∙ (moves.changes_x t state issued from to old_name new_name chain_a chain_b chain_x a b x known may).shows.entries
        ∙ sym (ap (entries_of 0) (moves.step_x t state issued from to old_name new_name chain_a chain_b chain_x a b x known may).was) ∙ ap (λ (j : InodeId). entries_of 0 (rows_at t2.rows j)) (sym e))
        (λ ne. ap (entries_of 0) ((moves.step_x t state issued from to old_name new_name chain_a chain_b chain_x a b x known may).there id ne))

    moved_b : node_at (moved state.tree (child from old_name) (child to new_name)) to ≡ Some b
    moved_b = moved-there state.tree (child from old_name) (child to new_name) may.moves.sorted (free_below state.tree from to old_name new_name a b x may.moves known.nodes) to not_new
        ∙ without-there state.tree (child from old_name) to not_old ∙ may.moves.was_to
      where
        not_new : (rest : Names) → to ≢ child to new_name ++ rest
        not_new rest e = nothing (append_cancel_left to [] (new_name ∷ rest) (append-nil to ∙ e ∙ append_assoc to (new_name ∷ []) rest))
          where
            nothing : [] ≡ new_name ∷ rest → ⊥
            nothing h = cc

        not_old : (rest : Names) → to ≢ child from old_name ++ rest
        not_old rest e = may.moves.outside (rest ++ new_name ∷ []) (ap (λ (p : Names). child p new_name) e ∙ append_assoc (child from old_name) rest (new_name ∷ []))

    after_ids : (q : Names) → id_of (node_at (moved state.tree (child from old_name) (child to new_name)) q) ≡ id_of (node_at next.tree q)
    after_ids q = sym (stamp-id (stamped (moved state.tree (child from old_name) (child to new_name)) (parent_of (child from old_name)) (state.tick + 1)) (parent_of (child to new_name)) (state.tick + 1) q
        ∙ stamp-id (moved state.tree (child from old_name) (child to new_name)) (parent_of (child from old_name)) (state.tick + 1) q)

    live : IsLive (lists_of t2.rows) b.id
    live = record {
      shown = shown t4.rows 0;
      nodes = node_at next.tree;
      alike = lists_then;
      is = (from-valid (ticked next) valid).live;
      reads = stands.live;
      has = has-alike (node_at next.tree) (node_at (moved state.tree (child from old_name) (child to new_name))) after_ids b.id (record { at = to; node = b; is = moved_b; named = refl });
    }

    entered : Midway state.members issued tick 2 [] t2
    entered = mid-in state.members issued tick 1 [] t1 b.id x.id (need_at state t.rows (way_to b chain_b)) new_name out.0 can-in x_not_root live may_b (omega arith)

    -- the new spot, and the marks

    placed : Midway state.members issued tick 3 [] t3
    placed = mid-quiet state.members issued tick 2 [] t2 entered x.id (need_at state t.rows (way_to x chain_x)) move tt
        (record { row = found.0; there = found.1; fits = fits-move (record { parent = b.id; name = new_name }) found.0.rows; entry = tt })
        (may-at t snaps state (child from old_name) chain_x x found.0.rows before reach_x
        ((moves.row_x t state issued from to old_name new_name chain_a chain_b chain_x a b x known may).rows ∙ ap (λ (r : RowHistory). Some r) (sym (moves.same_x t state issued from to old_name new_name chain_a chain_b chain_x a b x known may))))
        (omega arith)
      where
        found : (r : RowState) × (row_at t2.rows x.id ≡ Some r)
        found = moves.found_x t state issued from to old_name new_name chain_a chain_b chain_x a b x known may

    pub whole-moved : StandsFor t4 snaps (ticked next)
    whole-moved = ended-same t t4 snaps state next 3 before valid (record { members = refl; snapshottable = refl; next = refl }) refl stands
        (mid-mark state.members issued tick 3 [] t3 placed x.id (cover_at state t.rows chain_x)
        (cover-within (node_at state.tree) state.members _ issued before.stands.marks before.stands.ids_issued (child from old_name) chain_x may.leads_x) (λ e. x_not_root (sym e)))
        (omega arith) before.next_inode

pub may-rename : (t : Tabled) (snaps : Snapshots) (state : State FileBlocks) (old_text new_text : List ℕ) (from to : Names) (old_name new_name : List ℕ) (chain_a chain_b chain_x : List InodeId) (a b x : Node FileBlocks)
    → StandsFor t snaps state → rename_at state old_text new_text ≡ Ok (child from old_name, child to new_name)
    → Reaches state from chain_a a → Reaches state to chain_b b → Reaches state (child from old_name) chain_x x → MayRename state from to old_name new_name chain_a chain_b chain_x a b x
may-rename t snaps state old_text new_text from to old_name new_name chain_a chain_b chain_x a b x before asked reach_a reach_b reach_x =
    let allowed = (rename_allowed state old_text new_text (child from old_name, child to new_name) asked).moves in
    record {
      moves = record {
        sorted = before.valid.sorted;
        was_from = reach_a.at;
        was_to = reach_b.at;
        was = reach_x.at;
        free = allowed.free;
        outside = lands_outside state.tree (child from old_name) (child to new_name) allowed;
      };
      dir = ap is_dir_node (sym reach_b.at) ∙ walked state.tree [] to new_name allowed.reached.0 allowed.reached.1;
      leads_a = reach_a.leads;
      leads_b = reach_b.leads;
      leads_x = reach_x.leads;
    }

pub whole-rename : (files : Files FileBlocks) (t : Tabled) (snaps : Snapshots) (state : State FileBlocks) (old_text new_text : List ℕ) (from to : Names) (old_name new_name : List ℕ) (chain_a chain_b chain_x : List InodeId) (a b x : Node FileBlocks)
    → StandsFor t snaps state → rename_at state old_text new_text ≡ Ok (child from old_name, child to new_name)
    → Reaches state from chain_a a → Reaches state to chain_b b → Reaches state (child from old_name) chain_x x
    → StandsFor (tables.renamed state snaps.issued.0 (way_to a chain_a) (way_to b chain_b) (way_to x chain_x) old_name new_name t) snaps (ticked (change files state (calls.Rename old_text new_text)))
whole-rename files t snaps state old_text new_text from to old_name new_name chain_a chain_b chain_x a b x before asked reach_a reach_b reach_x =
    subst (λ (s : State FileBlocks). StandsFor (tables.renamed state snaps.issued.0 (way_to a chain_a) (way_to b chain_b) (way_to x chain_x) old_name new_name t) snaps (ticked s)) (sym is)
    (whole-moved t snaps state from to old_name new_name chain_a chain_b chain_x a b x before
    (may-rename t snaps state old_text new_text from to old_name new_name chain_a chain_b chain_x a b x before asked reach_a reach_b reach_x)
    (subst (λ (s : State FileBlocks). IsValid (ticked s)) is (valid-change state before.valid files (calls.Rename old_text new_text))))
  where
    is : change files state (calls.Rename old_text new_text) ≡ renamed state (child from old_name, child to new_name)
    is = ap (if_asked (renamed state) state) asked

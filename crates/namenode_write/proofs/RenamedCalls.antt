-- A rename on the rows of a table.
use Rattle.std.proofs.Common.{◌≡◌, ℕ, ◌+◌, ◌<◌, ◌≤◌, ◌^◌, cond, List, [], ◌∷◌, ◌++◌, Some, Ok, refl, sym, ap, subst, ◌∙◌, arith}
use Rattle.std.specs.Prelude.{◌≢◌}
use Rattle.hs_types.specs.Names.{Names}
use Rattle.hs_types.specs.declared.ids.InodeId.{InodeId}
use Rattle.hs_types.specs.declared.name.Spot.{Spot}
use Rattle.hs_types.specs.declared.call.Call.TheVariants as calls
use Rattle.hs_types.specs.declared.reply.Reply.TheVariants as replies
use Rattle.hs_plain.specs.declared.state.State.{State}
use Rattle.hs_plain.specs.declared.state.FileBlocks.{FileBlocks}
use Rattle.hs_plain.specs.Asked.{Asked}
use Rattle.hs_plain.specs.Answer.{replied}
use Rattle.hs_plain.specs.Change.{change, ticked}
use Rattle.hs_plain.specs.Files.{block_files}
use Rattle.hs_plain.specs.Modifying.{rename_at}
use Rattle.hs_plain.specs.Report.{last_of}
use Rattle.hs_plain.specs.Tree.{node_at, parent_of, same_inode}
use Rattle.hs_plain.proofs.ValidAsked.{rename_allowed}
use Rattle.hs_plain.proofs.ValidShapes.{same_some, none_some, by_last, parent_of-last}
use Rattle.snapshot_manager.specs.Snapshots.{Snapshots}
use Rattle.inode_table.specs.declared.change.Change.TheVariants as changes
use Rattle.inode_table.specs.Blocked.{AreBlocks}
use Rattle.inode_table.specs.Kept.{CanChange}
use Rattle.inode_table.specs.Marks.{IsChain, Leads}
use Rattle.inode_table.specs.Reads.{Nodes, child, id_of}
use Rattle.inode_table.specs.RowHistory.{row_at}
use Rattle.inode_table.specs.Tabled.{Tabled, changed, marked_row}
use Rattle.inode_table.specs.Totals.{weight}
use Rattle.inode_table.specs.Whole.{StandsFor, AreInOrder}
use Rattle.inode_table.proofs.Giving.{from-valid}
use Rattle.inode_table.proofs.Reading.{by_id}
use Rattle.table_laws.specs.NameCalls.{Moving}
use Rattle.table_laws.specs.Naming.{AllSound}
use Rattle.table_laws.specs.WholeCalls as tables
use Rattle.table_laws.specs.WholeCalls.{way_to, need_at}
use Rattle.table_laws.specs.WholeMay.{MayMoveRow}
use Rattle.table_laws.specs.WholeStands.{Reaches}
use Rattle.table_laws.proofs.BlockCalls.{rename-blocks}
use Rattle.table_laws.proofs.NamedSound.{changed-all}
use Rattle.table_laws.proofs.NamedTables.{is-same, is-other}
use Rattle.table_laws.proofs.WholeMay.{may-move}
use Rattle.table_laws.proofs.WholeRename.{whole-rename}
use Rattle.namenode_write.specs.declared.rows.seats.Seat.{Seat}
use Rattle.namenode_write.specs.declared.rows.renaming.MoveSeats.{MoveSeats}
use Rattle.namenode_write.specs.declared.rows.renaming.MoveNames.{MoveNames}
use Rattle.namenode_write.specs.Called.{IsCalled}
use Rattle.namenode_write.specs.Moving.{AreMoveSeats, AreMoveNames, left, entered, placed, moved, CanMove, IsLight, HaveNeeds}
use Rattle.namenode_write.specs.Seats.{IsSeat}
use Rattle.namenode_write.proofs.MoveWeights.{weight-marked}
use Rattle.namenode_write.proofs.Weighing.{order-changed}
use Rattle.namenode_write.proofs.Weights.{weight-changed}

-- ---- paths

last_of-last : (above : Names) (name : List ℕ) → last_of (above ++ name ∷ []) ≡ name
last_of-last [] name = refl
last_of-last (one ∷ []) name = refl
last_of-last (one ∷ next ∷ above) name = last_of-last (next ∷ above) name

-- a path is its parent with its last name
whole_path : (path : Names) → path ≢ [] → path ≡ child (parent_of path) (last_of path)
whole_path path isnt = by_last (λ p. p ≢ [] → p ≡ child (parent_of p) (last_of p)) path (λ none. absurd (none refl))
    (λ above name some. λ i. child (sym (parent_of-last above name) i) (sym (last_of-last above name) i)) isnt

-- ---- one chain leads to a path

leads_one : (nodes : Nodes FileBlocks) (at below : Names) (xs ys : List InodeId) → Leads nodes at below xs → Leads nodes at below ys → xs ≡ ys
leads_one nodes at [] [] [] h k = refl
leads_one nodes at [] [] (y ∷ ys) h k = absurd k
leads_one nodes at [] (x ∷ xs) ys h k = absurd h
leads_one nodes at (name ∷ below) [] ys h k = absurd h
leads_one nodes at (name ∷ below) (x ∷ xs) [] h k = absurd k
leads_one nodes at (name ∷ below) (x ∷ xs) (y ∷ ys) h k = λ i. same_some (sym h.0 ∙ k.0) i ∷ leads_one nodes (child at name) below xs ys h.1 k.1 i

one_chain : (nodes : Nodes FileBlocks) (path : Names) (xs ys : List InodeId) → IsChain nodes path xs → IsChain nodes path ys → xs ≡ ys
one_chain nodes path [] ys h k = absurd h
one_chain nodes path (x ∷ xs) [] h k = absurd k
one_chain nodes path (x ∷ xs) (y ∷ ys) h k = λ i. same_some (sym h.0 ∙ k.0) i ∷ leads_one nodes [] path xs ys h.1 k.1 i

module _ (t : Tabled) (snaps : Snapshots) (state : State FileBlocks) (all : StandsFor t snaps state) where
  -- ---- needs

  one_need : (p q : Names) (a b : Seat) → IsSeat t.rows state p a → IsSeat t.rows state q b → a.id ≡ b.id → a.need.0 ≡ b.need.0
  one_need p q a b is_a is_b same =
      let nodes : is_a.node.id ≡ is_b.node.id = sym is_a.id ∙ same ∙ is_b.id in
      let path : p ≡ q = (from-valid state all.valid).live.once p q is_a.node is_b.node is_a.reaches.at is_b.reaches.at nodes in
      let chains : is_a.chain ≡ is_b.chain = one_chain (node_at state.tree) q is_a.chain is_b.chain (subst (λ (r : Names). IsChain (node_at state.tree) r is_a.chain) path is_a.reaches.leads) is_b.reaches.leads in
      is_a.need ∙ (λ i. need_at state t.rows (record { id = nodes i; chain = chains i })) ∙ sym is_b.need

  abbrev need_in : MoveSeats → InodeId → ℕ
  need_in seats id = cond (same_inode id seats.node.id) seats.node.need.0 (cond (same_inode id seats.to.id) seats.to.need.0 seats.from.need.0)

  pub have-needs : (old new : Names) (seats : MoveSeats) → AreMoveSeats t.rows state old new seats → HaveNeeds seats
  have-needs old new seats are = (
    need_in seats,
    record {
      from = by_id seats.from.id seats.node.id
          (λ e. in_node seats.from.id e ∙ sym (one_need (parent_of old) old seats.from seats.node are.from are.node e))
          (λ ne. not_node seats.from.id ne ∙ by_id seats.from.id seats.to.id
          (λ e. in_to seats.from.id e ∙ sym (one_need (parent_of old) (parent_of new) seats.from seats.to are.from are.to e))
          (λ other. ap (λ b. cond b seats.to.need.0 seats.from.need.0) (is-other seats.from.id seats.to.id other)));
      to = by_id seats.to.id seats.node.id
          (λ e. in_node seats.to.id e ∙ sym (one_need (parent_of new) old seats.to seats.node are.to are.node e))
          (λ ne. not_node seats.to.id ne ∙ in_to seats.to.id refl);
      node = in_node seats.node.id refl;
    },
  )
    where
      in_node : (id : InodeId) → id ≡ seats.node.id → need_in seats id ≡ seats.node.need.0
      in_node id e = ap (λ b. cond b seats.node.need.0 (cond (same_inode id seats.to.id) seats.to.need.0 seats.from.need.0)) (is-same id seats.node.id e)

      not_node : (id : InodeId) → id ≢ seats.node.id → need_in seats id ≡ cond (same_inode id seats.to.id) seats.to.need.0 seats.from.need.0
      not_node id ne = ap (λ b. cond b seats.node.need.0 (cond (same_inode id seats.to.id) seats.to.need.0 seats.from.need.0)) (is-other id seats.node.id ne)

      in_to : (id : InodeId) → id ≡ seats.to.id → cond (same_inode id seats.to.id) seats.to.need.0 seats.from.need.0 ≡ seats.to.need.0
      in_to id e = ap (λ b. cond b seats.to.need.0 seats.from.need.0) (is-same id seats.to.id e)

  -- ---- the move

  module _ (old_text new_text : List ℕ) (old new : Names) (seats : MoveSeats) (names : MoveNames) (tick : ℕ)
      (asked : rename_at state old_text new_text ≡ Ok (old, new)) (are : AreMoveSeats t.rows state old new seats) (named : AreMoveNames old new seats.to.id names) (next : tick ≡ state.tick + 1) where
    abbrev old_way : tables.Way
    old_way = way_to are.from.node are.from.chain

    abbrev new_way : tables.Way
    new_way = way_to are.to.node are.to.chain

    abbrev own_way : tables.Way
    own_way = way_to are.node.node are.node.chain

    old_is : old ≡ child (parent_of old) (last_of old)
    old_is = whole_path old (rename_allowed state old_text new_text (old, new) asked).moves.below_root

    -- the root is there, and the new path is free
    new_is : new ≡ child (parent_of new) (last_of new)
    new_is = whole_path new (λ e. none_some (sym (ap id_of (ap (node_at state.tree) (sym e) ∙ (rename_allowed state old_text new_text (old, new) asked).moves.free)) ∙ all.stands.live.root))

    asked_so : rename_at state old_text new_text ≡ Ok (child (parent_of old) (last_of old), child (parent_of new) (last_of new))
    asked_so = asked ∙ (λ i. Ok (old_is i, new_is i))

    reaches_node : Reaches state (child (parent_of old) (last_of old)) are.node.chain are.node.node
    reaches_node = subst (λ (p : Names). Reaches state p are.node.chain are.node.node) old_is are.node.reaches

    may : MayMoveRow t state old_way new_way own_way (last_of old) (last_of new)
    may = may-move t snaps state old_text new_text (parent_of old) (parent_of new) (last_of old) (last_of new) are.from.chain are.to.chain are.node.chain are.from.node are.to.node are.node.node
        all asked_so are.from.reaches are.to.reaches reaches_node

    -- each table at the seats is the one by ways

    left_is : left tick seats names t ≡ tables.unlinked state old_way (last_of old) t
    left_is = λ i. changed (are.from.id i) (are.from.need i) (next i) (changes.Remove (named.old_name i)) t

    entered_is : entered tick seats names t ≡ tables.relinked state old_way new_way (last_of old) (last_of new) are.node.node.id t
    entered_is = λ i. changed (are.to.id i) (are.to.need i) (next i) (changes.Add (named.new_name i) (are.node.id i)) (left_is i)

    spot_is : names.spot ≡ record { parent = are.to.node.id; name = last_of new }
    spot_is = named.spot ∙ (λ i. record { parent = are.to.id i; name = last_of new })

    placed_is : placed tick seats names t ≡ tables.placed state old_way new_way own_way (last_of old) (last_of new) t
    placed_is = λ i. changed (are.node.id i) (are.node.need i) (next i) (changes.Move (spot_is i)) (entered_is i)

    moved_is : moved snaps.issued.0 tick seats names t ≡ tables.renamed state snaps.issued.0 old_way new_way own_way (last_of old) (last_of new) t
    moved_is = λ i. marked_row (are.node.id i) snaps.issued.0 (are.node.cover i) (placed_is i)

    pub can-move : CanMove tick seats names t
    can-move = record {
      out = subst (λ (x : InodeId × List ℕ). CanChange t.rows x.0 (changes.Remove x.1)) (λ i. (sym are.from.id i, sym named.old_name i)) may.out;
      entry = subst (λ (x : Tabled × InodeId × List ℕ × InodeId). CanChange x.0.rows x.1 (changes.Add x.2 x.3)) (λ i. (sym left_is i, sym are.to.id i, sym named.new_name i, sym are.node.id i)) may.entry;
      place = subst (λ (x : Tabled × InodeId × Spot). CanChange x.0.rows x.1 (changes.Move x.2)) (λ i. (sym entered_is i, sym are.node.id i, sym spot_is i)) may.move;
      row = may.row;
      there = subst (λ (x : Tabled × InodeId). row_at x.0.rows x.1 ≡ Some may.row) (λ i. (sym placed_is i, sym are.node.id i)) may.there;
    }

    -- ---- the weight

    order_left : AreInOrder (left tick seats names t).rows
    order_left = order-changed t seats.from.id seats.from.need.0 tick (changes.Remove names.old) can-move.out all.naming.order

    order_entered : AreInOrder (entered tick seats names t).rows
    order_entered = order-changed (left tick seats names t) seats.to.id seats.to.need.0 tick (changes.Add names.new seats.node.id) can-move.entry order_left

    order_placed : AreInOrder (placed tick seats names t).rows
    order_placed = order-changed (entered tick seats names t) seats.node.id seats.node.need.0 tick (changes.Move names.spot) can-move.place order_entered

    sound_left : AllSound (left tick seats names t).rows
    sound_left = changed-all t seats.from.id seats.from.need.0 tick (changes.Remove names.old) can-move.out all.records.undoable

    sound_entered : AllSound (entered tick seats names t).rows
    sound_entered = changed-all (left tick seats names t) seats.to.id seats.to.need.0 tick (changes.Add names.new seats.node.id) can-move.entry sound_left

    weight_left : weight (left tick seats names t).rows ≤ weight t.rows + 3
    weight_left = weight-changed t seats.from.id seats.from.need.0 tick (changes.Remove names.old) all.naming.order all.records.undoable can-move.out

    weight_entered : weight (entered tick seats names t).rows ≤ weight t.rows + 6
    weight_entered =
        let more = weight-changed (left tick seats names t) seats.to.id seats.to.need.0 tick (changes.Add names.new seats.node.id) order_left sound_left can-move.entry in
        let before = weight_left in
        omega (arith, more, before)

    weight_moved : weight (moved snaps.issued.0 tick seats names t).rows ≤ weight t.rows + 9
    weight_moved =
        let same = weight-marked (placed tick seats names t) seats.node.id snaps.issued.0 seats.node.cover.0 order_placed in
        let more = weight-changed (entered tick seats names t) seats.node.id seats.node.need.0 tick (changes.Move names.spot) order_entered sound_entered can-move.place in
        let before = weight_entered in
        omega (arith, same, more, before)

    pub is-light : weight t.rows + 10 < 2 ^ 32 → IsLight tick seats names t
    is-light bound = record {
      first = omega (arith, bound);
      second = let more = weight_left in omega (arith, bound, more);
      third = let more = weight_entered in omega (arith, bound, more);
    }

    -- ---- the call

    moving : Moving
    moving = record {
      row = seats.node.id;
      from = seats.from.id;
      to = seats.to.id;
      old_name = names.old;
      new_name = names.new;
      spot = names.spot;
      tick = tick;
      from_cover = seats.from.need.0;
      to_cover = seats.to.need.0;
      row_cover = seats.node.need.0;
      since = snaps.issued.0;
      carry = seats.node.cover.0;
    }

    pub rename-called : (now : Tabled) → now ≡ moved snaps.issued.0 tick seats names t → IsCalled t now snaps (calls.Rename old_text new_text) replies.Done state
    unfolding moving
    rename-called now is = record {
      answered = ap (λ (a : Asked (Names × Names)). replied replies.Done a) asked;
      stands = subst (λ (x : Tabled). StandsFor x snaps (ticked (change block_files state (calls.Rename old_text new_text)))) (sym (is ∙ moved_is))
          (whole-rename block_files t snaps state old_text new_text (parent_of old) (parent_of new) (last_of old) (last_of new) are.from.chain are.to.chain are.node.chain are.from.node are.to.node are.node.node
          all asked_so are.from.reaches are.to.reaches reaches_node);
      blocks = λ store made waiting blocks. subst (λ (x : Tabled). AreBlocks x.rows store made waiting) (sym is) (rename-blocks store made waiting t moving (record { handed_out = all.handed_out; blocks = blocks })).blocks;
      light = let most = weight_moved in subst (λ (x : Tabled). weight x.rows ≤ weight t.rows + 10) (sym is) (omega (arith, most));
    }

-- Calls that make a node, on the rows of a table.
use Rattle.std.proofs.Common.{◌≡◌, ℕ, ◌+◌, ◌≤◌, ◌<◌, ◌^◌, Bool, List, [], ◌∷◌, Option, Some, None, Ok, refl, sym, ap, subst, ◌∙◌, arith}
use Rattle.hs_types.specs.Names.{Names}
use Rattle.hs_types.specs.declared.ids.InodeId.{InodeId}
use Rattle.hs_types.specs.declared.call.Call.{Call}
use Rattle.hs_types.specs.declared.call.Call.TheVariants as calls
use Rattle.hs_types.specs.declared.name.Spot.{Spot}
use Rattle.hs_types.specs.declared.reply.Reply.{Reply}
use Rattle.hs_types.specs.declared.reply.Reply.TheVariants as replies
use Rattle.hs_plain.specs.declared.state.Node.{Node}
use Rattle.hs_plain.specs.declared.state.State.{State}
use Rattle.hs_plain.specs.declared.state.FileBlocks.{FileBlocks}
use Rattle.hs_plain.specs.Asked.{Asked}
use Rattle.hs_plain.specs.Files.{block_files}
use Rattle.hs_plain.specs.Modifying.{mkdir_at, create_at}
use Rattle.hs_plain.specs.Tree.{node_at}
use Rattle.hs_plain.specs.Answer.{asked, made_reply, replied}
use Rattle.hs_plain.specs.Change.{change, ticked}
use Rattle.snapshot_manager.specs.Snapshots.{Snapshots}
use Rattle.file_changes.specs.History.{FileHistory}
use Rattle.dir_changes.specs.History.{DirHistory}
use Rattle.inode_table.specs.declared.change.Change.TheVariants as changes
use Rattle.inode_table.specs.declared.freed.Freed.{Freed}
use Rattle.inode_table.specs.Blocked.{AreBlocks}
use Rattle.inode_table.specs.Ahead.{HasRoomFor, prepared_for}
use Rattle.inode_table.specs.Kept.{TableValue, told, CanChange}
use Rattle.inode_table.specs.Reads.{child}
use Rattle.inode_table.specs.Released.{Releasing}
use Rattle.inode_table.specs.RowHistory.{RowHistory, RowState, File, Dir, row_at}
use Rattle.inode_table.specs.Tabled.{Tabled, changed, inserted, fresh_row}
use Rattle.inode_table.specs.Totals.{weight}
use Rattle.inode_table.specs.Whole.{StandsFor, AreInOrder}
use Rattle.table_laws.specs.Blocking.{IsEmptyRows}
use Rattle.table_laws.specs.NameCalls.{row_made}
use Rattle.table_laws.specs.Naming.{AllSound}
use Rattle.table_laws.specs.WholeCalls as tables
use Rattle.table_laws.specs.WholeCalls.{way_to, need_at, dir_rows, file_rows}
use Rattle.table_laws.specs.WholeMay.{MayMake, MayReplace}
use Rattle.table_laws.proofs.BlockCalls.{make-blocks, replace-blocks}
use Rattle.table_laws.proofs.NamedSound.{changed-all, inserted-all}
use Rattle.table_laws.proofs.NamedTables.{order-put}
use Rattle.table_laws.proofs.WholeDeeds.{LiveRow, live-row}
use Rattle.table_laws.proofs.WholeNew.{may-mkdir, may-create, whole-mkdir, whole-create}
use Rattle.table_laws.proofs.WholeOver.{may-over, whole-over}
use Rattle.table_laws.proofs.WholeParts.{before-of}
use Rattle.namenode_write.specs.declared.rows.making_nodes.NewPlace.{NewPlace}
use Rattle.namenode_write.specs.declared.rows.seats.Seat.{Seat}
use Rattle.namenode_write.specs.Called.{IsCalled}
use Rattle.namenode_write.specs.NewNodes.{next_id, IsNewPlace, entered, without_entry, MayTakePlace, HasNodeRoom, AsksDir, AsksFile, mkdir_call, create_call, IsCalledFreeing}
use Rattle.namenode_write.specs.Seats.{IsSeat}
use Rattle.namenode_write.proofs.NodeRoom.{room-prepared, room-fewer}
use Rattle.namenode_write.proofs.RowCalls.{seat-change}
use Rattle.namenode_write.proofs.Weights.{weight-changed}
use Rattle.namenode_write.proofs.ReleasedWeights.{weight-released}
use Rattle.namenode_write.proofs.Weighing.{weight-inserted, order-changed}

-- ---- weight

-- a new row and its entry
entered-light : (t : Tabled) (seat : Seat) (name : List ℕ) (rows : RowHistory) (since tick : ℕ) → AreInOrder t.rows → AllSound t.rows → MayMake t since seat.id (next_id t.greatest) name rows
    → weight (entered seat name rows since tick t).rows ≤ weight t.rows + 4
entered-light t seat name rows since tick order sound may =
    let one = weight-inserted t (next_id t.greatest) rows since may.bare in
    let more = weight-changed (inserted (next_id t.greatest) rows since t) seat.id seat.need.0 tick (changes.Add name (next_id t.greatest)) (order-put (next_id t.greatest) (fresh_row rows since) t.rows order)
    (inserted-all t (next_id t.greatest) rows since may.bare sound) may.entry in
    omega (arith, one, more)

-- and in the place of another
replaced-light : (t after : Tabled) (freed : Freed) (seat : Seat) (name : List ℕ) (rows : RowHistory) (since tick : ℕ) → AreInOrder t.rows → AllSound t.rows → MayTakePlace t seat name rows since tick
    → Releasing (entered seat name rows since tick (without_entry seat name tick t)) freed after → weight after.rows ≤ weight t.rows + 10
replaced-light t after freed seat name rows since tick order sound may going =
    let out = weight-changed t seat.id seat.need.0 tick (changes.Remove name) order sound may.out in
    let more = entered-light (without_entry seat name tick t) seat name rows since tick (order-changed t seat.id seat.need.0 tick (changes.Remove name) may.out order)
    (changed-all t seat.id seat.need.0 tick (changes.Remove name) may.out sound) may.make in
    let gone = weight-released (entered seat name rows since tick (without_entry seat name tick t)) after freed going in
    omega (arith, out, more, gone)

module _ (t : Tabled) (snaps : Snapshots) (state : State FileBlocks) (before : StandsFor t snaps state) where
  abbrev next : InodeId
  next = next_id t.greatest

  next-is : next ≡ record { 0 = state.next_inode }
  next-is = ap (λ (n : ℕ). record { 0 = n }) before.next_inode

  no-row : row_at t.rows next ≡ None
  no-row = by (row_at t.rows next) refl
    where
      by : (o : Option RowState) → row_at t.rows next ≡ o → row_at t.rows next ≡ None
      by None e = e
      by (Some row) e = absurd (let upto = before.ids next row e in omega (arith, upto))

  pub seat-within : (above : Names) (seat : Seat) → IsSeat t.rows state above seat → seat.id.0 ≤ t.greatest
  seat-within above seat s = subst (λ (i : InodeId). i.0 ≤ t.greatest) (sym s.id) (before.ids s.node.id row.row row.there)
    where
      row : LiveRow t.rows state above s.node
      row = live-row t state snaps.issued.0 above s.node (before-of t snaps state before) s.reaches.at

  -- the reply has the next id
  told-made : replies.Made next ≡ made_reply state
  told-made = ap (λ (i : InodeId). replies.Made i) next-is

  -- ---- at a seat

  module _ (above : Names) (seat : Seat) (name : List ℕ) (rows known : RowHistory) (tick : ℕ) (s : IsSeat t.rows state above seat) (now : tick ≡ state.tick + 1) (same : rows ≡ known) where
    may-at-seat : MayMake t snaps.issued.0 s.node.id (record { 0 = state.next_inode }) name known → MayMake t snaps.issued.0 seat.id next name rows
    may-at-seat may =
        subst (λ (r : RowHistory). MayMake t snaps.issued.0 seat.id next name r) (sym same)
        (subst (λ (i : InodeId). MayMake t snaps.issued.0 i next name known) (sym s.id) (subst (λ (i : InodeId). MayMake t snaps.issued.0 s.node.id i name known) (sym next-is) may))

    -- the entry of the new row is put in at the need that the directory had before the call
    made-is : (u : Tabled) → u.greatest ≡ t.greatest → entered seat name rows snaps.issued.0 tick u
        ≡ row_made (record { 0 = state.next_inode }) known snaps.issued.0 s.node.id (need_at state t.rows (way_to s.node s.chain)) (state.tick + 1) name u
    made-is u alike =
        ap (λ (i : InodeId). row_made i rows snaps.issued.0 seat.id seat.need.0 tick name u) (ap next_id alike ∙ next-is)
        ∙ ap (λ (r : RowHistory). row_made (record { 0 = state.next_inode }) r snaps.issued.0 seat.id seat.need.0 tick name u) same
        ∙ ap (λ (i : InodeId). row_made (record { 0 = state.next_inode }) known snaps.issued.0 i seat.need.0 tick name u) s.id
        ∙ ap (λ (n : ℕ). row_made (record { 0 = state.next_inode }) known snaps.issued.0 s.node.id n tick name u) s.need
        ∙ ap (λ (n : ℕ). row_made (record { 0 = state.next_inode }) known snaps.issued.0 s.node.id (need_at state t.rows (way_to s.node s.chain)) n name u) now

    entered-called : (call : Call) (after : Tabled) → asked block_files state call ≡ Ok (made_reply state) → IsEmptyRows rows → MayMake t snaps.issued.0 seat.id next name rows
        → StandsFor (tables.made state snaps.issued.0 (way_to s.node s.chain) name (record { 0 = state.next_inode }) known t) snaps (ticked (change block_files state call))
        → after ≡ entered seat name rows snaps.issued.0 tick t → IsCalled t after snaps call (replies.Made next) state
    entered-called call after asked empty may stands is = record {
      answered = asked ∙ ap (λ r. Ok r) (sym told-made);
      stands = subst (λ (x : Tabled). StandsFor x snaps (ticked (change block_files state call))) (sym (is ∙ made-is t refl)) stands;
      blocks = λ store made waiting are. subst (λ (x : Tabled). AreBlocks x.rows store made waiting) (sym is)
          (make-blocks store made waiting t next rows snaps.issued.0 seat.id seat.need.0 tick name no-row empty (record { handed_out = before.handed_out; blocks = are })).blocks;
      light =
          let more = subst (λ (x : Tabled). weight x.rows ≤ weight t.rows + 4) (sym is) (entered-light t seat name rows snaps.issued.0 tick before.naming.order before.records.undoable may) in
          omega (arith, more);
    }

    -- ---- in the place of another

    out-is : without_entry seat name tick t ≡ tables.unlinked state (way_to s.node s.chain) name t
    out-is = seat-change t snaps state before above seat (changes.Remove name) tick s now

    take-at-seat : MayReplace t state snaps.issued.0 (way_to s.node s.chain) (record { 0 = state.next_inode }) name known → MayTakePlace t seat name rows snaps.issued.0 tick
    take-at-seat may = record {
      out = subst (λ (i : InodeId). CanChange t.rows i (changes.Remove name)) (sym s.id) may.out;
      make = subst (λ (u : Tabled). MayMake u snaps.issued.0 seat.id next name rows) (sym out-is)
          (subst (λ (r : RowHistory). MayMake (tables.unlinked state (way_to s.node s.chain) name t) snaps.issued.0 seat.id next name r) (sym same)
          (subst (λ (i : InodeId). MayMake (tables.unlinked state (way_to s.node s.chain) name t) snaps.issued.0 i next name known) (sym s.id)
          (subst (λ (i : InodeId). MayMake (tables.unlinked state (way_to s.node s.chain) name t) snaps.issued.0 s.node.id i name known) (sym next-is) may.make)));
    }

    replaced-is : entered seat name rows snaps.issued.0 tick (without_entry seat name tick t)
        ≡ tables.replaced state snaps.issued.0 (way_to s.node s.chain) name (record { 0 = state.next_inode }) known t
    replaced-is = made-is (without_entry seat name tick t) refl
        ∙ ap (λ (u : Tabled). row_made (record { 0 = state.next_inode }) known snaps.issued.0 s.node.id (need_at state t.rows (way_to s.node s.chain)) (state.tick + 1) name u) out-is

    replaced-called : (call : Call) (after : Tabled) (freed : Freed) → asked block_files state call ≡ Ok (made_reply state) → IsEmptyRows rows → MayTakePlace t seat name rows snaps.issued.0 tick
        → StandsFor after snaps (ticked (change block_files state call))
        → Releasing (entered seat name rows snaps.issued.0 tick (without_entry seat name tick t)) freed after → IsCalledFreeing t after freed.blocks snaps call (replies.Made next) state
    replaced-called call after freed asked empty may stands going = record {
      answered = asked ∙ ap (λ r. Ok r) (sym told-made);
      stands = stands;
      blocks = λ store made waiting are.
          (replace-blocks store made waiting t after freed next rows snaps.issued.0 seat.id seat.need.0 seat.need.0 tick name no-row empty going (record { handed_out = before.handed_out; blocks = are })).blocks;
      light = replaced-light t after freed seat name rows snaps.issued.0 tick before.naming.order before.records.undoable may going;
    }

  -- ---- a new directory

  module _ (text : List ℕ) (above : Names) (seat : Seat) (name : List ℕ) (tick : ℕ) (asks : mkdir_at state text ≡ Ok (child above name)) (s : IsSeat t.rows state above seat) (now : tick ≡ state.tick + 1) where
    abbrev dir : InodeId → ℕ → RowHistory
    dir parent stamp = dir_rows (record { parent = parent; name = name }) stamp

    dir-is : dir seat.id tick ≡ dir s.node.id (state.tick + 1)
    dir-is = ap (λ (i : InodeId). dir i tick) s.id ∙ ap (dir s.node.id) now

    pub mkdir-may : MayMake t snaps.issued.0 seat.id next name (dir seat.id tick)
    mkdir-may = may-at-seat above seat name (dir seat.id tick) (dir s.node.id (state.tick + 1)) tick s now dir-is (may-mkdir t snaps state text above name s.chain s.node before asks s.reaches)

    pub mkdir-called : (after : Tabled) → after ≡ entered seat name (dir seat.id tick) snaps.issued.0 tick t → IsCalled t after snaps (calls.Mkdir text) (replies.Made next) state
    mkdir-called after is = entered-called above seat name (dir seat.id tick) (dir s.node.id (state.tick + 1)) tick s now dir-is (calls.Mkdir text) after
        (ap (λ (a : Asked Names). replied (made_reply state) a) asks) tt mkdir-may
        (whole-mkdir block_files t snaps state text above name s.chain s.node before asks s.reaches) is

  -- ---- a new file

  module _ (text : List ℕ) (over : Bool) (above : Names) (seat : Seat) (name : List ℕ) (tick : ℕ) (asks : create_at state text over ≡ Ok (child above name)) (s : IsSeat t.rows state above seat) (now : tick ≡ state.tick + 1) where
    abbrev file : InodeId → ℕ → RowHistory
    file parent stamp = file_rows (record { parent = parent; name = name }) block_files.empty stamp

    file-is : file seat.id tick ≡ file s.node.id (state.tick + 1)
    file-is = ap (λ (i : InodeId). file i tick) s.id ∙ ap (file s.node.id) now

    made-answer : asked block_files state (calls.Create text over) ≡ Ok (made_reply state)
    made-answer = ap (λ (a : Asked Names). replied (made_reply state) a) asks

    -- where no node is
    pub create-may : node_at state.tree (child above name) ≡ None → MayMake t snaps.issued.0 seat.id next name (file seat.id tick)
    create-may free =
        may-at-seat above seat name (file seat.id tick) (file s.node.id (state.tick + 1)) tick s now file-is (may-create block_files t snaps state text over above name s.chain s.node before asks s.reaches free)

    pub create-called : node_at state.tree (child above name) ≡ None → (after : Tabled) → after ≡ entered seat name (file seat.id tick) snaps.issued.0 tick t
        → IsCalled t after snaps (calls.Create text over) (replies.Made next) state
    create-called free after is = entered-called above seat name (file seat.id tick) (file s.node.id (state.tick + 1)) tick s now file-is (calls.Create text over) after made-answer (refl, refl, refl) (create-may free)
        (whole-create block_files t snaps state text over above name s.chain s.node before asks s.reaches free) is

    -- where a file is
    module _ (old : Node FileBlocks) (there : node_at state.tree (child above name) ≡ Some old) where
      pub over-may : MayTakePlace t seat name (file seat.id tick) snaps.issued.0 tick
      over-may = take-at-seat above seat name (file seat.id tick) (file s.node.id (state.tick + 1)) tick s now file-is (may-over block_files t snaps state text over above name s.chain s.node old before asks s.reaches there)

      pub over-called : (after : Tabled) (freed : Freed) → Releasing (entered seat name (file seat.id tick) snaps.issued.0 tick (without_entry seat name tick t)) freed after
          → IsCalledFreeing t after freed.blocks snaps (calls.Create text over) (replies.Made next) state
      over-called after freed going =
          replaced-called above seat name (file seat.id tick) (file s.node.id (state.tick + 1)) tick s now file-is (calls.Create text over) after freed made-answer (refl, refl, refl) over-may
          (whole-over block_files t after freed snaps state text over above name s.chain s.node old before asks s.reaches there
          (subst (λ (u : Tabled). Releasing u freed after) (replaced-is above seat name (file seat.id tick) (file s.node.id (state.tick + 1)) tick s now file-is) going))
          going

-- ---- at a place

-- what the constructors of rows give
pub rows-of-dir : (dir : DirHistory) (spot : Spot) (mode tick : ℕ) → dir ≡ record { marks = record { spot = spot; mode = mode; stamp = tick }; children = []; records = [] } → mode ≡ 493 → Dir dir ≡ dir_rows spot tick
rows-of-dir dir spot mode tick is m = ap (λ (d : DirHistory). Dir d) is ∙ ap (λ (n : ℕ). Dir (record { marks = record { spot = spot; mode = n; stamp = tick }; children = []; records = [] })) m

pub rows-of-file : (file : FileHistory) (spot : Spot) (mode tick : ℕ) → file ≡ record { current = record { spot = spot; mode = mode; stamp = tick; size = 0; blocks = [] }; records = [] } → mode ≡ 420 → File file ≡ file_rows spot block_files.empty tick
rows-of-file file spot mode tick is m = ap (λ (f : FileHistory). File f) is ∙ ap (λ (n : ℕ). File (record { current = record { spot = spot; mode = n; stamp = tick; size = 0; blocks = [] }; records = [] })) m

abbrev okay : Names → Asked Names
okay path = Ok path

module _ (t : Tabled) (snaps : Snapshots) (path : Names) (place : NewPlace) (at : IsNewPlace t snaps path place) where
  pub place-room : (state : State FileBlocks) (value : TableValue) → StandsFor t snaps state → told value ≡ t → HasRoomFor (prepared_for (place.parent.id ∷ []) (λ id. place.parent.need.0)) value → HasNodeRoom 2 place.parent value
  place-room state value stands same room = room-fewer 3 2 place.parent value (omega arith) (room-prepared place.parent value
      (let old = seat-within t snaps state stands at.above place.parent (at.seat state stands) in let alike = ap (λ (u : Tabled). u.greatest) same in omega (arith, old, alike)) room)

  module _ (tick : ℕ) (u : Tabled) (since : ℕ) (rows : RowHistory) (same : u ≡ t) (issued : since ≡ snaps.issued.0) where
    -- the table is the one before, and the rows those of the spot
    entered-so : (known : RowHistory) → rows ≡ known → entered place.parent place.name rows since tick u ≡ entered place.parent place.name known snaps.issued.0 tick t
    entered-so known alike =
        ap (λ (x : Tabled). entered place.parent place.name rows since tick x) same
        ∙ ap (λ (n : ℕ). entered place.parent place.name rows n tick t) issued
        ∙ ap (λ (r : RowHistory). entered place.parent place.name r snaps.issued.0 tick t) alike

    may-so : (known : RowHistory) → rows ≡ known → MayMake t snaps.issued.0 place.parent.id (next_id t.greatest) place.name known → MayMake u since place.parent.id (next_id u.greatest) place.name rows
    may-so known alike may =
        subst (λ (x : Tabled). MayMake x since place.parent.id (next_id x.greatest) place.name rows) (sym same)
        (subst (λ (n : ℕ). MayMake t n place.parent.id (next_id t.greatest) place.name rows) (sym issued)
        (subst (λ (r : RowHistory). MayMake t snaps.issued.0 place.parent.id (next_id t.greatest) place.name r) (sym alike) may))

    told-so : (id : InodeId) → id ≡ next_id u.greatest → replies.Made (next_id t.greatest) ≡ replies.Made id
    told-so id is = ap (λ (i : InodeId). replies.Made i) (ap (λ (x : Tabled). next_id x.greatest) (sym same) ∙ sym is)

    module _ (state : State FileBlocks) (asks : AsksDir t snaps path tick state) (is : rows ≡ dir_rows place.spot tick) where
      is-dir : rows ≡ dir_rows (record { parent = place.parent.id; name = place.name }) tick
      is-dir = is ∙ ap (λ (s : Spot). dir_rows s tick) at.spot

      seated : IsSeat t.rows state at.above place.parent
      seated = at.seat state asks.stands

      pub dir-may : MayMake u since place.parent.id (next_id u.greatest) place.name rows
      dir-may = may-so (dir_rows (record { parent = place.parent.id; name = place.name }) tick) is-dir
          (mkdir-may t snaps state asks.stands asks.text at.above place.parent place.name tick (asks.asks ∙ ap okay at.is) seated asks.next)

      pub dir-called : (after : Tabled) (id : InodeId) → id ≡ next_id u.greatest → after ≡ entered place.parent place.name rows since tick u → IsCalled t after snaps (mkdir_call asks) (replies.Made id) state
      dir-called after id given made = subst (λ (r : Reply). IsCalled t after snaps (mkdir_call asks) r state) (told-so id given)
          (mkdir-called t snaps state asks.stands asks.text at.above place.parent place.name tick (asks.asks ∙ ap okay at.is) seated asks.next after
          (made ∙ entered-so (dir_rows (record { parent = place.parent.id; name = place.name }) tick) is-dir))

    module _ (state : State FileBlocks) (asks : AsksFile t snaps path tick state) (is : rows ≡ file_rows place.spot block_files.empty tick) where
      is-file : rows ≡ file_rows (record { parent = place.parent.id; name = place.name }) block_files.empty tick
      is-file = is ∙ ap (λ (s : Spot). file_rows s block_files.empty tick) at.spot

      file-seated : IsSeat t.rows state at.above place.parent
      file-seated = at.seat state asks.stands

      asks-child : create_at state asks.text asks.over ≡ Ok (child at.above place.name)
      asks-child = asks.asks ∙ ap okay at.is

      module _ (free : node_at state.tree path ≡ None) where
        free-child : node_at state.tree (child at.above place.name) ≡ None
        free-child = ap (node_at state.tree) (sym at.is) ∙ free

        pub file-may : MayMake u since place.parent.id (next_id u.greatest) place.name rows
        file-may = may-so (file_rows (record { parent = place.parent.id; name = place.name }) block_files.empty tick) is-file
            (create-may t snaps state asks.stands asks.text asks.over at.above place.parent place.name tick asks-child file-seated asks.next free-child)

        pub file-called : (after : Tabled) (id : InodeId) → id ≡ next_id u.greatest → after ≡ entered place.parent place.name rows since tick u → IsCalled t after snaps (create_call asks) (replies.Made id) state
        file-called after id given made = subst (λ (r : Reply). IsCalled t after snaps (create_call asks) r state) (told-so id given)
            (create-called t snaps state asks.stands asks.text asks.over at.above place.parent place.name tick asks-child file-seated asks.next free-child after
            (made ∙ entered-so (file_rows (record { parent = place.parent.id; name = place.name }) block_files.empty tick) is-file))

      module _ (old : Node FileBlocks) (there : node_at state.tree path ≡ Some old) where
        there-child : node_at state.tree (child at.above place.name) ≡ Some old
        there-child = ap (node_at state.tree) (sym at.is) ∙ there

        pub take-may : MayTakePlace u place.parent place.name rows since tick
        take-may =
            subst (λ (x : Tabled). MayTakePlace x place.parent place.name rows since tick) (sym same)
            (subst (λ (n : ℕ). MayTakePlace t place.parent place.name rows n tick) (sym issued)
            (subst (λ (r : RowHistory). MayTakePlace t place.parent place.name r snaps.issued.0 tick) (sym is-file)
            (over-may t snaps state asks.stands asks.text asks.over at.above place.parent place.name tick asks-child file-seated asks.next old there-child)))

        pub take-called : (after : Tabled) (freed : Freed) (id : InodeId) → id ≡ next_id u.greatest → Releasing (entered place.parent place.name rows since tick (without_entry place.parent place.name tick u)) freed after
            → IsCalledFreeing t after freed.blocks snaps (create_call asks) (replies.Made id) state
        take-called after freed id given going = subst (λ (r : Reply). IsCalledFreeing t after freed.blocks snaps (create_call asks) r state) (told-so id given)
            (over-called t snaps state asks.stands asks.text asks.over at.above place.parent place.name tick asks-child file-seated asks.next old there-child after freed
            (subst (λ (x : Tabled). Releasing x freed after)
            (ap (λ (x : Tabled). entered place.parent place.name rows since tick (without_entry place.parent place.name tick x)) same
            ∙ ap (λ (n : ℕ). entered place.parent place.name rows n tick (without_entry place.parent place.name tick t)) issued
            ∙ ap (λ (r : RowHistory). entered place.parent place.name r snaps.issued.0 tick (without_entry place.parent place.name tick t)) is-file)
            going))

-- ---- an entry goes, and another comes

module _ (t u : Tabled) (seat : Seat) (gone name : List ℕ) (rows : RowHistory) (since tick : ℕ) (same : gone ≡ name) (whole : u ≡ changed seat.id seat.need.0 tick (changes.Remove gone) t) where
  without-so : u ≡ without_entry seat name tick t
  without-so = whole ∙ ap (λ (n : List ℕ). changed seat.id seat.need.0 tick (changes.Remove n) t) same

  pub make-so : MayTakePlace t seat name rows since tick → MayMake u since seat.id (next_id u.greatest) name rows
  make-so may = subst (λ (x : Tabled). MayMake x since seat.id (next_id x.greatest) name rows) (sym without-so) may.make

  pub same-greatest : u.greatest ≡ t.greatest
  same-greatest = ap (λ (x : Tabled). x.greatest) whole

  pub left-light : weight (without_entry seat name tick t).rows + 1 < 2 ^ 32 → weight u.rows + 1 < 2 ^ 32
  left-light = subst (λ (x : Tabled). weight x.rows + 1 < 2 ^ 32) (sym without-so)

  pub going-so : (after now : Tabled) (freed : Freed) → now ≡ entered seat name rows since tick u → Releasing now freed after → Releasing (entered seat name rows since tick (without_entry seat name tick t)) freed after
  going-so after now freed is = subst (λ (x : Tabled). Releasing x freed after) (is ∙ ap (λ (x : Tabled). entered seat name rows since tick x) without-so)

pub out-so : (t : Tabled) (seat : Seat) (gone name : List ℕ) → gone ≡ name → CanChange t.rows seat.id (changes.Remove name) → CanChange t.rows seat.id (changes.Remove gone)
out-so t seat gone name same = subst (λ (n : List ℕ). CanChange t.rows seat.id (changes.Remove n)) (sym same)

-- the entry that goes adds little
pub without-light : (t : Tabled) (snaps : Snapshots) (state : State FileBlocks) → StandsFor t snaps state → (seat : Seat) (name : List ℕ) (tick : ℕ) → CanChange t.rows seat.id (changes.Remove name) → weight (without_entry seat name tick t).rows ≤ weight t.rows + 3
without-light t snaps state before seat name tick can = weight-changed t seat.id seat.need.0 tick (changes.Remove name) before.naming.order before.records.undoable can

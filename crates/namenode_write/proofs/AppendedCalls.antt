-- An append over the rows of a table: what it needs, and what it leaves.
use Rattle.std.proofs.Common.{◌≡◌, inr, ℕ, ◌+◌, ◌≤◌, List, [], ◌∷◌, ◌++◌, length, length-append, Option, Some, None, Ok, Err, refl, sym, ap, subst, ◌∙◌, arith}
use Rattle.std.specs.Prelude.{is_some}
use Rattle.std.specs.List.{Contains}
use Rattle.hs_types.specs.Names.{Names}
use Rattle.hs_types.specs.Blocks.{BlockMap, IsFile}
use Rattle.hs_types.specs.declared.ids.InodeId.{InodeId}
use Rattle.hs_types.specs.declared.ids.BlockId.{BlockId}
use Rattle.hs_types.specs.declared.call.Call.TheVariants as calls
use Rattle.hs_types.specs.declared.reply.Reply.TheVariants as replies
use Rattle.hs_plain.specs.declared.state.Node.{Node}
use Rattle.hs_plain.specs.declared.state.Body.TheVariants as bodies
use Rattle.hs_plain.specs.declared.state.State.{State}
use Rattle.hs_plain.specs.declared.state.FileBlocks.{FileBlocks}
use Rattle.hs_plain.specs.Asked.{Asked}
use Rattle.hs_plain.specs.Files.{Files, plain_files, block_files}
use Rattle.hs_plain.specs.Modifying as plain_tests
use Rattle.hs_plain.specs.Modifying.{append_at}
use Rattle.hs_plain.specs.Answer.{answer, claimed, replied, reply_to}
use Rattle.hs_plain.specs.Change.{change, ticked, if_asked, appended, with_file}
use Rattle.hs_plain.proofs.ValidAsked.{append_there}
use Rattle.hs_plain.proofs.ValidShapes.{same_some}
use Rattle.hs_plain.proofs.ValidTrees.{if_asked-keeps}
use Rattle.block_store.specs.Changes.{Changes}
use Rattle.block_contents.specs.Contents.{AtMost, Appended, KeepsFile, MakesOnly, AreMade, Adds}
use Rattle.file_changes.specs.History.{FileHistory}
use Rattle.inode_table.specs.declared.change.Change.{Change}
use Rattle.inode_table.specs.declared.change.Change.TheVariants as changes
use Rattle.inode_table.specs.Ahead.{ChangeFits, HasRoomFor, prepared_for, blocks_now}
use Rattle.inode_table.specs.Blocked.{AreBlocks}
use Rattle.inode_table.specs.Kept.{CanChange, TableValue, told}
use Rattle.inode_table.specs.RowHistory.{Table, RowHistory, File, Dir, rows_at}
use Rattle.inode_table.specs.Tabled.{Tabled, changed}
use Rattle.inode_table.specs.Totals as totals
use Rattle.inode_table.specs.Whole.{StandsFor}
use Rattle.table_laws.specs.WholeCalls.{way_to, need_at, with_change}
use Rattle.table_laws.specs.WholePlain.{IsLonger}
use Rattle.table_laws.proofs.BlockBodies.{grow-blocks, append-blocks}
use Rattle.table_laws.proofs.BlockBytes.{grow-bytes}
use Rattle.table_laws.proofs.BlockLists.{in-here, in-later}
use Rattle.table_laws.proofs.WholeNodes.{whole-append, can-body}
use Rattle.table_laws.proofs.WholePlain.{plain-append}
use Rattle.namenode_write.specs.declared.rows.seats.Seat.{Seat}
use Rattle.namenode_write.specs.Appending.{append_path}
use Rattle.namenode_write.specs.RowFiles.{body_of, file_in}
use Rattle.namenode_write.specs.Rows.{Held, IsAt, IsDone, weight, done}
use Rattle.namenode_write.specs.Seats.{IsSeat}
use Rattle.namenode_write.proofs.Alike.{answers_alike}
use Rattle.namenode_write.proofs.Ready.{one-fits}
use Rattle.namenode_write.proofs.RowFiles.{file-read, in-row}
use Rattle.namenode_write.proofs.Weights.{weight-changed}

-- ---- which file it is

abbrev Found : Type 0
Found = Names × Node FileBlocks × FileBlocks

pub path_so : (asked : Asked Found) (path : Names) → append_path asked ≡ Ok path → (node : Node FileBlocks) × (file : FileBlocks) × (asked ≡ Ok (path, node, file))
path_so (Ok at) path e = let same : at.0 ≡ path = cc in (at.1, at.2, ap (λ (p : Names). Ok (p, at.1, at.2)) same)
path_so (Err why) path e = absurd (cc)

pub file_so : (o : Option RowHistory) (old : FileBlocks) → file_in 0 o ≡ Ok old → (file : FileHistory) × (o ≡ Some (File file)) × (body_of file.current ≡ old)
file_so None old e = absurd (cc)
file_so (Some (File file)) old e = (file, refl, cc)
file_so (Some (Dir dir)) old e = absurd (cc)

same_file : {a b : FileBlocks} → plain_tests.file_in (bodies.File a) ≡ Ok b → a ≡ b
same_file e = cc

at_most : (greatest : ℕ) (blocks : List BlockId) → ((block : BlockId) → Contains blocks block → block.0 ≤ greatest) → AtMost greatest blocks
at_most greatest [] all = tt
at_most greatest (block ∷ blocks) all = (all block (in-here blocks block block refl), at_most greatest blocks (λ other c. all other (in-later blocks block other c)))

-- the store has given all its numbers
pub row-known : (table : Table) (store : Option BlockMap) (made : ℕ) (waiting : List BlockId) → AreBlocks table store made waiting → (id : InodeId) (file : FileBlocks) → file_in 0 (rows_at table id) ≡ Ok file → AtMost made file.blocks
row-known table store made waiting are id file is =
    in-row table (λ f. AtMost made f.blocks) (λ x state has. at_most made state.blocks (λ block c. are.numbers block (inr (x, record { state = state; has = has; named = c })))) 0 id file is

-- ---- the file at a seat

module _ (before : Held) (tick : ℕ) (plain : State (List ℕ)) (at : IsAt before tick plain) (path : Names) (seat : Seat) (s : IsSeat before.table.rows at.stands.state path seat) (file : FileHistory) (row : rows_at before.table.rows seat.id ≡ Some (File file)) where
  abbrev state : State FileBlocks
  state = at.stands.state

  abbrev old : FileBlocks
  old = body_of file.current

  -- the file that was asked for is the row's
  pub append-so : (text : List ℕ) → append_path (append_at state text) ≡ Ok path → append_at state text ≡ Ok (path, s.node, old)
  append-so text asked =
      let p = path_so (append_at state text) path asked in
      let there = append_there state text (path, p.0, p.1) p.2 in
      let node : p.0 ≡ s.node = same_some (sym there.there ∙ s.reaches.at) in
      let body : s.node.body ≡ bodies.File p.1 = ap (λ (n : Node FileBlocks). n.body) (sym node) ∙ there.body in
      let read : plain_tests.file_in s.node.body ≡ Ok old
      = file-read before.table.rows 0 _ state.tree at.stands.stands.stands.live path s.node s.reaches.at ∙ ap (λ (i : InodeId). file_in 0 (rows_at before.table.rows i)) (sym s.id) ∙ ap (file_in 0) row in
      let same : p.1 ≡ old = same_file (ap plain_tests.file_in (sym body) ∙ read) in
      subst (λ (f : FileBlocks). append_at state text ≡ Ok (path, s.node, f)) same (subst (λ (n : Node FileBlocks). append_at state text ≡ Ok (path, n, p.1)) node p.2)

  -- ---- the store is written

  module _ (now : Option BlockMap) (high : ℕ) (kept : Changes before.store now (KeepsFile file.current.size file.current.blocks)) (only : Changes before.store now (MakesOnly before.greatest high)) where
    -- the table not yet: a block that was made waits
    pub grown : (new : List BlockId) → AreMade before.greatest high new → IsAt (record before { store = now; greatest = high; waiting = before.waiting ++ new }) tick plain
    grown new made = record {
      stands = record {
        state = state;
        stands = at.stands.stands;
        sized = at.stands.sized;
        bytes = grow-bytes before.table.rows state plain before.snaps.issued.0 seat.id file before.store now before.greatest before.waiting
            (record { live = at.stands.stands.valid.sorted; copies = at.stands.stands.valid.copies_sorted }) at.stands.stands.stands row kept at.stands.blocks at.stands.bytes;
        blocks = grow-blocks before.table.rows seat.id file before.store now before.greatest high before.waiting new row kept only made at.stands.blocks;
      };
      tick = at.tick;
      inodes = at.inodes;
      snapshots = at.snapshots;
      light = at.light;
    }

    module _ (text bytes : List ℕ) (asked : append_at state text ≡ Ok (path, s.node, old)) (blocks : List BlockId) (is_file : IsFile (file.current.size + length bytes) blocks)
        (appends : Changes before.store now (Appended file.current.size file.current.blocks blocks bytes)) (made : Adds before.greatest high file.current.blocks blocks) where
      abbrev new : FileBlocks
      new = record { size = file.current.size + length bytes; blocks = blocks }

      abbrev what : Change
      what = changes.Body (file.current.size + length bytes) blocks

      abbrev after : Tabled
      after = changed seat.id seat.need.0 (tick + 1) what before.table

      -- an append that makes this file
      abbrev grow_files : Files FileBlocks
      grow_files = record block_files { append = λ f b. new }

      next_tick : tick + 1 ≡ state.tick + 1
      next_tick = ap (λ n. n + 1) (sym at.tick ∙ ap (λ (x : State ℕ). x.tick) (sym at.stands.sized))

      seat_change : after ≡ with_change state before.table.rows (way_to s.node s.chain) what before.table
      seat_change =
          ap (λ (i : InodeId). changed i seat.need.0 (tick + 1) what before.table) s.id ∙ ap (λ (n : ℕ). changed s.node.id n (tick + 1) what before.table) s.need
          ∙ ap (λ (n : ℕ). changed s.node.id (need_at state before.table.rows (way_to s.node s.chain)) n what before.table) next_tick

      body : s.node.body ≡ bodies.File old
      body = (append_there state text (path, s.node, old) asked).body

      can : CanChange before.table.rows s.node.id what
      can = can-body before.table before.snaps state path s.chain s.node at.stands.stands s.reaches old body (file.current.size + length bytes) blocks

      whole : StandsFor after before.snaps (ticked (with_file state path s.node new))
      whole = subst (λ (x : Tabled). StandsFor x before.snaps (ticked (with_file state path s.node new))) (sym seat_change)
          (subst (λ (x : State FileBlocks). StandsFor (with_change state before.table.rows (way_to s.node s.chain) what before.table) before.snaps (ticked x))
          (ap (if_asked (appended grow_files state bytes) state) asked)
          (whole-append before.table before.snaps state path s.chain s.node at.stands.stands s.reaches grow_files text bytes old new asked refl))

      longer : IsLonger now old new bytes
      longer = by before.store now kept appends
        where
          by : (a b : Option BlockMap) → Changes a b (KeepsFile file.current.size file.current.blocks) → Changes a b (Appended file.current.size file.current.blocks blocks bytes) → IsLonger b old new bytes
          by None None k e = tt
          by None (Some b) k e = absurd k
          by (Some a) None k e = tt
          by (Some a) (Some b) k e = e.contents ∙ ap (λ (front : List ℕ). front ++ bytes) (sym k.contents)

      blocks_after : AreBlocks after.rows now high before.waiting
      blocks_after = append-blocks before.table seat.id seat.need.0 (tick + 1) file bytes blocks before.store now before.greatest high before.waiting row
          (record { is_file = is_file; appended = appends; kept = kept; only = only; made = made }) at.stands.blocks

      -- an append changes no number of the state
      record Numbers (x : State (List ℕ)) : Type 0 where
        tick_is : x.tick ≡ plain.tick
        inode_is : x.next_inode ≡ plain.next_inode
        snapshot_is : x.next_snapshot ≡ plain.next_snapshot
        members_are : x.members ≡ plain.members

      numbers : Numbers (change plain_files plain (calls.Append text bytes))
      numbers = if_asked-keeps Numbers (appended plain_files plain bytes) plain (append_at plain text) (record { tick_is = refl; inode_is = refl; snapshot_is = refl; members_are = refl })
          (λ f _. record { tick_is = refl; inode_is = refl; snapshot_is = refl; members_are = refl })

      answered : answer plain (calls.Append text bytes) ≡ replies.Done
      answered = answers_alike state plain at.stands.sized (calls.Append text bytes) refl ∙ ap (λ (a : Asked Found). reply_to (replied replies.Done a)) asked

      light : totals.weight after.rows ≤ totals.weight before.table.rows + 3
      light = weight-changed before.table seat.id seat.need.0 (tick + 1) what at.stands.stands.naming.order at.stands.stands.records.undoable (subst (λ (i : InodeId). CanChange before.table.rows i what) (sym s.id) can)

      -- the table has the new list: the append is done
      pub append-done : IsDone before (record before { table = after; store = now; greatest = high }) tick (calls.Append text bytes) replies.Done plain
      unfolding grown
      append-done = record {
        told = ap (claimed (is_some before.store)) (sym answered);
        ok = refl;
        after = record {
          stands = plain-append before.table after before.snaps before.snaps now high (before.waiting ++ made.0) before.waiting plain text bytes path s.node old new (grown made.0 made.2).stands asked refl longer whole blocks_after;
          tick = ap (λ n. n + 1) (numbers.tick_is ∙ at.tick);
          inodes = let same = numbers.inode_is in let few = at.inodes in omega (arith, same, few);
          snapshots = let same = numbers.snapshot_is in let few = at.snapshots in omega (arith, same, few);
          light = let same = ap length numbers.members_are in let more = light in let few = at.light in omega (arith, same, more, few);
        };
      }

      pub append-heavier : weight (record before { table = after; store = now; greatest = high }) (done plain (calls.Append text bytes)) ≤ weight before plain + 10
      append-heavier = let same = ap length numbers.members_are in let more = light in omega (arith, same, more)

  -- ---- the change of the row

  -- a body of any size and blocks fits it
  pub append-can : (text : List ℕ) → append_at state text ≡ Ok (path, s.node, old) → (size : ℕ) (blocks : List BlockId) → CanChange before.table.rows seat.id (changes.Body size blocks)
  append-can text asked size blocks = subst (λ (i : InodeId). CanChange before.table.rows i (changes.Body size blocks)) (sym s.id)
      (can-body before.table before.snaps state path s.chain s.node at.stands.stands s.reaches old ((append_there state text (path, s.node, old) asked).body) size blocks)

-- ---- room

made_few : (low high : ℕ) (new : List BlockId) → AreMade low high new → length new ≤ 1
made_few low high [] made = omega arith
made_few low high (block ∷ []) made = omega arith
made_few low high (block ∷ next ∷ more) made = absurd made

-- what was prepared for three changes is enough for a body with the blocks that were made
pub append-fits : (value : TableValue) (id : InodeId) (need tick size : ℕ) (file : FileBlocks) (low high : ℕ) (blocks : List BlockId) → file_in 0 (rows_at (told value).rows id) ≡ Ok file → HasRoomFor (prepared_for (id ∷ []) (λ x. need)) value
    → Adds low high file.blocks blocks → ChangeFits value id need tick (changes.Body size blocks)
append-fits value id need tick size file low high blocks is room made = one-fits value id need tick (changes.Body size blocks) room small
  where
    small : length blocks ≤ blocks_now (rows_at (told value).rows id) + 1
    small =
        let f = file_so (rows_at (told value).rows id) file is in
        let few = made_few low high made.0 made.2 in
        let long : length blocks ≡ length file.blocks + length made.0 = ap length made.1 ∙ length-append file.blocks made.0 in
        let now : blocks_now (rows_at (told value).rows id) ≡ length file.blocks = ap blocks_now f.1 ∙ ap (λ (x : FileBlocks). length x.blocks) f.2 in
        omega (arith, few, long, now)

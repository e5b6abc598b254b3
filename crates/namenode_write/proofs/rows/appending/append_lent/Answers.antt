use Rattle.std.proofs.Common.{Ok, Err, ◌≡◌, ◌++◌, List, [], length, refl, sym, ap, subst, ◌∙◌, arith}
use Rattle.std.specs.Prelude.{IfSome, IsErrOf}
use Rattle.hs_types.specs.Blocks.{IsFile, HoldsFile}
use Rattle.hs_types.specs.declared.ids.BlockId.{BlockId}
use Rattle.hs_types.specs.declared.call.Place.TheVariants as places
use Rattle.hs_types.specs.declared.reply.Reply.{Reply}
use Rattle.hs_types.specs.declared.reply.Reply.TheVariants.{Done}
use Rattle.hs_plain.specs.declared.resolve.AskFault.{AskFault}
use Rattle.block_store.specs.declared.store.StoreErr.{StoreErr}
use Rattle.block_contents.specs.Contents.{AtMost, Adds}
use Rattle.inode_table.specs.declared.change.Change.TheVariants as changes
use Rattle.inode_table.specs.Kept.{CanChange, told}
use Rattle.inode_table.specs.Lent.{IsLent, LendsRoom, with_blocks}
use Rattle.inode_table.specs.RowHistory.{rows_at}
use Rattle.inode_table.specs.Tabled.{Tabled, changed}
use Rattle.inode_table.specs.Totals.{weight}
use Rattle.inode_table.proofs.Lent.{lent-back, lent-can, lent-changed, lent-fits, lent-weight}
use Rattle.namenode_write.specs.Appending.{file_now, IsTried}
use Rattle.namenode_write.specs.Rows.{all_of}
use Rattle.namenode_write.proofs.AppendedCalls.{row-known, append-fits}
use Rattle.namenode_write.proofs.RowFiles.{place-file, place-held}
use Rattle.namenode_write.proofs.StoreOutcomes.{is_failed}
use Rattle.namenode_write.proofs.rows.appending.append_lent.Goals as goal

same_fault : {a b : AskFault} → IsErrOf {T = Reply} (Err a) b → a ≡ b
same_fault is = cc

pub append-requires-clause-file : goal.append-requires-clause-file
append-requires-clause-file g c =
    let rows = (told c.args.space.now.table).rows in
    let file = file_now c.args.size (rows_at rows c.args.seat.id) in
    subst (IsFile c.args.size) (sym c.take_blocks-blocks.ensures.blocks) (place-file rows _ _ _ c.requires.standing.1.stands.blocks (places.Live c.args.seat.id) file c.requires.row)

pub append-requires-clause-held : goal.append-requires-clause-held
append-requires-clause-held g c =
    let rows = (told c.args.space.now.table).rows in
    let file = file_now c.args.size (rows_at rows c.args.seat.id) in
    subst (λ (blocks : List BlockId). IfSome (g.B.BlockStore.blocks c.args.space.now.store) (λ map. HoldsFile map c.args.size blocks)) (sym c.take_blocks-blocks.ensures.blocks)
    (place-held rows _ _ _ c.requires.standing.1.stands.blocks (places.Live c.args.seat.id) file c.requires.row)

pub append-requires-clause-known : goal.append-requires-clause-known
append-requires-clause-known g c =
    let rows = (told c.args.space.now.table).rows in
    let file = file_now c.args.size (rows_at rows c.args.seat.id) in
    subst (AtMost (g.B.BlockStore.greatest c.args.space.now.store)) (sym c.take_blocks-blocks.ensures.blocks) (row-known rows _ _ _ c.requires.standing.1.stands.blocks c.args.seat.id file c.requires.row)

pub change_ready-requires-clause-can : goal.change_ready-requires-clause-can
change_ready-requires-clause-can g c =
    subst (λ (t : Tabled). CanChange t.rows c.args.seat.id (changes.Body c.in-Ok.size c.append.new.blocks)) (sym c.take_blocks-blocks.ensures.whole)
    (lent-can (told c.args.space.now.table) c.args.seat.id c.in-Ok.size c.append.new.blocks (c.requires.can c.in-Ok.size c.append.new.blocks))

pub change_ready-requires-clause-bound : goal.change_ready-requires-clause-bound
change_ready-requires-clause-bound g c =
    let same = ap (λ (t : Tabled). weight t.rows) c.take_blocks-blocks.ensures.whole ∙ lent-weight (told c.args.space.now.table) c.args.seat.id [] c.requires.standing.1.stands.stands.naming.order in
    let light = c.requires.standing.1.light in
    omega (arith, same, light, c.requires.place.below, c.requires.place.most)

pub change_ready-requires-clause-room : goal.change_ready-requires-clause-room
change_ready-requires-clause-room g c =
    let before = c.args.space.now.table in
    let taken = c.take_blocks-blocks.ensures in
    let file = file_now c.args.size (rows_at (told before).rows c.args.seat.id) in
    let lent : IsLent before c.take_blocks-blocks.new.self c.args.seat.id = record {
      whole = taken.whole;
      there = taken.there;
      room = subst (λ (blocks : List BlockId). LendsRoom (length blocks) before.room c.take_blocks-blocks.new.self.room) taken.blocks taken.room;
    } in
    lent-fits before c.take_blocks-blocks.new.self c.args.seat.id c.args.seat.need.0 c.args.tick c.in-Ok.size c.append.new.blocks c.requires.none (c.requires.can c.in-Ok.size c.append.new.blocks) lent
    (append-fits before c.args.seat.id c.args.seat.need.0 c.args.tick c.in-Ok.size file _ _ c.append.new.blocks c.requires.row c.requires.room
    (subst (λ (blocks : List BlockId). Adds (g.B.BlockStore.greatest c.args.space.now.store) (g.B.BlockStore.greatest c.append.new.store) blocks c.append.new.blocks) taken.blocks c.in-Ok.ensures.made))

pub returns-in-Ok : goal.returns-in-Ok
returns-in-Ok g c =
    let before = c.args.space.now in
    let id = c.args.seat.id in
    let need = c.args.seat.need.0 in
    let list = c.append.new.blocks in
    let taken = c.take_blocks-blocks.ensures in
    let table = c.change_ready.ensures.whole ∙ ap (changed id need c.args.tick (changes.Body c.in-Ok.size list)) taken.whole
    ∙ lent-changed (told before.table) id need c.args.tick c.in-Ok.size list c.requires.none
    ∙ (λ i. changed id need (c.requires.tick i) (changes.Body (c.in-Ok.ensures.size i) list) (told before.table)) in
    subst (λ (blocks : List BlockId). IsTried g.B.BlockStore.blocks g.B.BlockStore.greatest g.B.BlockStore.faults before (record before { table = c.change_ready.new.table; store = c.append.new.store }) c.args.seat (record { size = c.args.size; blocks = blocks }) c.args.bytes.now (Ok Done))
    taken.blocks
    (record {
      kept = c.append.ensures.kept;
      only = c.append.ensures.only;
      count = c.append.ensures.count;
      rose = λ h. absurd (cc);
      no_call = c.append.ensures.no_call;
      snaps = refl;
      journal = refl;
      limit = refl;
      reply = refl;
      grown = record { list = list; is_file = c.in-Ok.ensures.file; appended = c.in-Ok.ensures.appended; made = c.in-Ok.ensures.made; table = table; waiting = refl };
      fault = tt;
      table = tt;
      left = tt;
    })

pub returns-in-Err : goal.returns-in-Err
returns-in-Err g c =
    let before = c.args.space.now in
    let taken = c.take_blocks-blocks.ensures in
    let table = c.put_blocks.ensures.whole ∙ ap (with_blocks c.args.seat.id c.append.new.blocks) taken.whole
    ∙ ap (λ (blocks : List BlockId). with_blocks c.args.seat.id blocks (with_blocks c.args.seat.id [] (told before.table))) (c.in-Err.ensures.list ∙ taken.blocks)
    ∙ lent-back (told before.table) c.args.seat.id c.requires.standing.1.stands.stands.naming.order in
    let made = c.in-Err.ensures.left in
    subst (λ (blocks : List BlockId). IsTried g.B.BlockStore.blocks g.B.BlockStore.greatest g.B.BlockStore.faults before (record before { table = c.put_blocks.new.self; store = c.append.new.store; waiting = c.set_aside.new.waiting }) c.args.seat (record { size = c.args.size; blocks = blocks }) c.args.bytes.now (Err c.fault_of.result))
    taken.blocks
    (record {
      kept = c.append.ensures.kept;
      only = c.append.ensures.only;
      count = c.append.ensures.count;
      rose = λ is. c.in-Err.ensures.cause (ap (λ (e : StoreErr). Err e) (is_failed c.in-Err.error (sym c.fault_of.ensures ∙ same_fault is)));
      no_call = c.append.ensures.no_call;
      snaps = refl;
      journal = refl;
      limit = refl;
      reply = tt;
      grown = tt;
      fault = (c.in-Err.error, c.fault_of.ensures);
      table = table;
      left = (made.0, c.set_aside.ensures ∙ ap (λ (blocks : List BlockId). all_of before.waiting.items ++ blocks) (made.1 ∙ ap (λ (blocks : List BlockId). blocks ++ made.0) c.new-spare.ensures), made.2);
    })

use Rattle.std.proofs.Common.{◌≡◌, ◌+◌, length, Ok, sym, ap, subst, ◌∙◌, arith}
use Rattle.hs_types.specs.declared.call.Call.TheVariants as calls
use Rattle.hs_types.specs.declared.reply.Reply.TheVariants as replies
use Rattle.hs_plain.specs.Modifying.{append_at}
use Rattle.inode_table.specs.Kept.{told}
use Rattle.inode_table.specs.RowHistory.{rows_at}
use Rattle.inode_table.specs.Tabled.{Tabled}
use Rattle.namenode_write.specs.declared.rows.space.RowSpace.{RowSpace}
use Rattle.namenode_write.specs.Appending.{file_now, IsCopyFor}
use Rattle.namenode_write.specs.RowFiles.{file_in}
use Rattle.namenode_write.proofs.AppendOutcomes.{append-answered, then-can, then-outcome}
use Rattle.namenode_write.proofs.Causes.{fault-replied}
use Rattle.namenode_write.proofs.Outcomes.{refused-outcome, place-outcome, memory-outcome, place-told, place-stands, place-seat}
use Rattle.namenode_write.proofs.StoreOutcomes.{place-alike, room-alike, alike-standing, alike-tick, same-place}
use Rattle.namenode_write.proofs.rows.appending.append.Goals as goal

pub returns-in_err-path : goal.returns-in_err-path
returns-in_err-path g c =
    refused-outcome g.B.BlockStore.blocks g.B.BlockStore.greatest g.B.BlockStore.faults c.args.space.now (calls.Append c.args.path.now c.args.bytes.now) c.from_residual.result c.in_err-path.field-0.0 c.from_residual.ensures.1 c.requires.standing
    (λ state stands. fault-replied replies.Done (append_at state c.args.path.now) c.in_err-path.field-0.0 (c.in_err-path.ensures c.args.space.now.snaps state stands))

pub returns-in_err-tick : goal.returns-in_err-tick
returns-in_err-tick g c =
    place-outcome g.B.BlockStore.blocks g.B.BlockStore.greatest g.B.BlockStore.faults c.args.space.now c.make_place.new.space (calls.Append c.args.path.now c.args.bytes.now) c.from_residual-in_err-tick.result c.in_err-tick.field-0.0
    c.from_residual-in_err-tick.ensures.1 c.in_err-tick.ensures.fault c.in_err-tick.ensures.refused c.make_place.ensures.kept c.make_place.ensures.journal
    (λ state stands. append-answered state c.args.path.now c.args.bytes.now c.in_ok-path.path (c.in_ok-path.ensures c.args.space.now.snaps state stands))

pub returns-in_err-seat : goal.returns-in_err-seat
returns-in_err-seat g c =
    memory-outcome g.B.BlockStore.blocks g.B.BlockStore.greatest g.B.BlockStore.faults c.args.space.now c.make_place.new.space (calls.Append c.args.path.now c.args.bytes.now) c.from_residual-in_err-seat.result c.from_residual-in_err-seat.ensures.1
    (place-alike g.B.BlockStore.blocks g.B.BlockStore.greatest c.args.space.now c.make_place.new.space c.make_place.ensures.kept c.make_place.ensures.journal)

pub returns-in_err-size : goal.returns-in_err-size
returns-in_err-size g c =
    memory-outcome g.B.BlockStore.blocks g.B.BlockStore.greatest g.B.BlockStore.faults c.args.space.now c.make_place.new.space (calls.Append c.args.path.now c.args.bytes.now) c.from_residual-in_err-size.result c.from_residual-in_err-size.ensures.1
    (place-alike g.B.BlockStore.blocks g.B.BlockStore.greatest c.args.space.now c.make_place.new.space c.make_place.ensures.kept c.make_place.ensures.journal)

pub returns-in_err-copy : goal.returns-in_err-copy
returns-in_err-copy g c =
    memory-outcome g.B.BlockStore.blocks g.B.BlockStore.greatest g.B.BlockStore.faults c.args.space.now c.make_place.new.space (calls.Append c.args.path.now c.args.bytes.now) c.from_residual-in_err-copy.result c.from_residual-in_err-copy.ensures.1
    (place-alike g.B.BlockStore.blocks g.B.BlockStore.greatest c.args.space.now c.make_place.new.space c.make_place.ensures.kept c.make_place.ensures.journal)

pub returns-in_err-make_room : goal.returns-in_err-make_room
returns-in_err-make_room g c =
    memory-outcome g.B.BlockStore.blocks g.B.BlockStore.greatest g.B.BlockStore.faults c.args.space.now c.make_room.new.space (calls.Append c.args.path.now c.args.bytes.now) c.from_residual-in_err-make_room.result c.from_residual-in_err-make_room.ensures.1
    (room-alike g.B.BlockStore.blocks g.B.BlockStore.greatest c.args.space.now c.make_place.new.space c.make_place.ensures.kept c.make_place.ensures.journal c.make_room.new.space c.make_room.ensures.table c.make_room.ensures.waiting c.make_room.ensures.kept)

pub append_ready-requires-clause-standing : goal.append_ready-requires-clause-standing
append_ready-requires-clause-standing g c =
    alike-standing g.B.BlockStore.blocks g.B.BlockStore.greatest c.args.space.now c.make_room.new.space
    (room-alike g.B.BlockStore.blocks g.B.BlockStore.greatest c.args.space.now c.make_place.new.space c.make_place.ensures.kept c.make_place.ensures.journal c.make_room.new.space c.make_room.ensures.table c.make_room.ensures.waiting c.make_room.ensures.kept)
    c.requires.standing

pub append_ready-requires-clause-tick : goal.append_ready-requires-clause-tick
append_ready-requires-clause-tick g c =
    c.in_ok-tick.ensures.tick
    ∙ ap (λ n. n + 1) (sym (alike-tick g.B.BlockStore.blocks g.B.BlockStore.greatest c.args.space.now c.make_room.new.space
    (room-alike g.B.BlockStore.blocks g.B.BlockStore.greatest c.args.space.now c.make_place.new.space c.make_place.ensures.kept c.make_place.ensures.journal c.make_room.new.space c.make_room.ensures.table c.make_room.ensures.waiting c.make_room.ensures.kept)))

pub append_ready-requires-clause-row : goal.append_ready-requires-clause-row
append_ready-requires-clause-row g c =
    subst (λ (t : Tabled). file_in 0 (rows_at t.rows c.in_ok-seat.seat.id) ≡ Ok (file_now c.in_ok-size.size (rows_at t.rows c.in_ok-seat.seat.id))) (sym c.make_room.ensures.table) c.in_ok-size.ensures.row

pub append_ready-requires-clause-copy : goal.append_ready-requires-clause-copy
append_ready-requires-clause-copy g c = subst (λ (t : Tabled). IsCopyFor t c.in_ok-seat.seat c.in_ok-copy.copy) (sym c.make_room.ensures.table) c.in_ok-copy.ensures

pub append_ready-requires-clause-small : goal.append_ready-requires-clause-small
append_ready-requires-clause-small g c = let n = ap length c.bytes.ensures.bytes in let small = c.in_ok-size.ensures.small in omega (arith, n, small)

pub append_ready-requires-clause-can : goal.append_ready-requires-clause-can
append_ready-requires-clause-can g c =
    let before = c.args.space.now in
    let placed = c.make_place.new.space in
    let kept = c.make_place.ensures.kept in
    then-can g.B.BlockStore.blocks g.B.BlockStore.greatest g.B.BlockStore.faults before c.make_room.new.space
    (room-alike g.B.BlockStore.blocks g.B.BlockStore.greatest before placed kept c.make_place.ensures.journal c.make_room.new.space c.make_room.ensures.table c.make_room.ensures.waiting c.make_room.ensures.kept)
    c.args.path.now c.items.result.now c.in_ok-seat.seat
    (λ state stands. c.in_ok-path.ensures before.snaps state stands ∙ ap Ok (sym c.items.ensures))
    (λ state stands. place-seat before placed kept state c.items.result.now c.in_ok-seat.seat (c.in_ok-seat.ensures state (place-stands before placed kept state stands)))
    (file_now c.in_ok-size.size (rows_at (told placed.table).rows c.in_ok-seat.seat.id))
    (ap (λ (t : Tabled). file_in 0 (rows_at t.rows c.in_ok-seat.seat.id)) (sym (place-told before placed kept)) ∙ c.in_ok-size.ensures.row) c.requires.standing

pub append_ready-requires-clause-place : goal.append_ready-requires-clause-place
append_ready-requires-clause-place g c =
    same-place c.make_place.new.space c.make_room.new.space (ap (λ (r : RowSpace _). r.journal) c.make_room.ensures.kept) (ap (λ (r : RowSpace _). r.limit) c.make_room.ensures.kept) c.in_ok-tick.ensures.place

pub returns : goal.returns
returns g c =
    let before = c.args.space.now in
    let placed = c.make_place.new.space in
    let roomed = c.make_room.new.space in
    let kept = c.make_place.ensures.kept in
    then-outcome g.B.BlockStore.blocks g.B.BlockStore.greatest g.B.BlockStore.faults before roomed
    (room-alike g.B.BlockStore.blocks g.B.BlockStore.greatest before placed kept c.make_place.ensures.journal roomed c.make_room.ensures.table c.make_room.ensures.waiting c.make_room.ensures.kept)
    c.args.path.now c.items.result.now c.in_ok-seat.seat
    (λ state stands. c.in_ok-path.ensures before.snaps state stands ∙ ap Ok (sym c.items.ensures))
    (λ state stands. place-seat before placed kept state c.items.result.now c.in_ok-seat.seat (c.in_ok-seat.ensures state (place-stands before placed kept state stands)))
    c.append_ready.new.space c.args.bytes.now (file_now c.in_ok-size.size (rows_at (told roomed.table).rows c.in_ok-seat.seat.id)) c.append_ready.result
    (same-place placed roomed (ap (λ (r : RowSpace _). r.journal) c.make_room.ensures.kept) (ap (λ (r : RowSpace _). r.limit) c.make_room.ensures.kept) c.in_ok-tick.ensures.place)
    (ap (λ (t : Tabled). file_in 0 (rows_at t.rows c.in_ok-seat.seat.id)) (sym (place-told before placed kept)) ∙ c.in_ok-size.ensures.row
    ∙ ap (λ (t : Tabled). Ok (file_now c.in_ok-size.size (rows_at t.rows c.in_ok-seat.seat.id))) (sym c.make_room.ensures.table)) c.append_ready.ensures

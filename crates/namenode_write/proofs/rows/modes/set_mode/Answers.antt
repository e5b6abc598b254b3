use Rattle.std.proofs.Common.{ℕ, List, ap, ◌≡◌, ◌+◌, refl, sym, subst, ◌∙◌, Ok}
use Rattle.hs_types.specs.declared.call.Call.TheVariants as calls
use Rattle.hs_types.specs.declared.reply.Reply.TheVariants as replies
use Rattle.hs_plain.specs.Modifying as tests
use Rattle.inode_table.specs.Kept.{told}
use Rattle.inode_table.specs.Kept.{CanChange}
use Rattle.inode_table.specs.Tabled.{Tabled, changed}
use Rattle.hs_plain.specs.declared.state.State.{State}
use Rattle.namenode_write.specs.declared.rows.space.RowSpace.{RowSpace}
use Rattle.namenode_write.specs.Outcome.{tick_of}
use Rattle.namenode_write.specs.Rows.{held, all_of, IsAt}
use Rattle.namenode_write.specs.Seats.{IsSeat}
use Rattle.inode_table.specs.declared.change.Change.TheVariants as changes
use Rattle.namenode_write.proofs.Causes.{fault-replied}
use Rattle.namenode_write.proofs.Outcomes.{refused-outcome, place-outcome, done-outcome, would-do, place-told, place-stands, place-seat}
use Rattle.namenode_write.proofs.Ready.{one-fits}
use Rattle.namenode_write.proofs.RowCalls.{mode-can, mode-done, mode-heavier}
use Rattle.namenode_write.proofs.rows.modes.set_mode.Goals as goal

pub returns-in_err-path : goal.returns-in_err-path
returns-in_err-path g c =
    refused-outcome g.B.BlockStore.blocks g.B.BlockStore.greatest g.B.BlockStore.faults c.args.space.now (calls.SetMode c.args.path.now c.args.mode) c.from_residual.result c.in_err-path.field-0.0 c.from_residual.ensures.1 c.requires.standing
    (λ state stands. fault-replied replies.Done (tests.set_mode_at state c.args.path.now) c.in_err-path.field-0.0 (c.in_err-path.ensures c.args.space.now.snaps state stands))

pub returns-in_err-tick : goal.returns-in_err-tick
returns-in_err-tick g c =
    place-outcome g.B.BlockStore.blocks g.B.BlockStore.greatest g.B.BlockStore.faults c.args.space.now c.make_place.new.space (calls.SetMode c.args.path.now c.args.mode) c.from_residual-in_err-tick.result c.in_err-tick.field-0.0
    c.from_residual-in_err-tick.ensures.1 c.in_err-tick.ensures.fault c.in_err-tick.ensures.refused c.make_place.ensures.kept c.make_place.ensures.journal
    (λ state stands. would-do replies.Done (tests.set_mode_at state c.args.path.now) _ (c.in_ok-path.ensures c.args.space.now.snaps state stands) refl)

pub change_ready-requires-clause-can : goal.change_ready-requires-clause-can
change_ready-requires-clause-can g c =
    let all = c.requires.standing.1.stands in
    let before = c.args.space.now in
    let placed = c.make_place.new.space in
    subst (λ (t : Tabled). CanChange t.rows c.in_ok-seat.seat.id (changes.Mode c.args.mode)) (sym (c.prepare_seat.ensures.same ∙ place-told before placed c.make_place.ensures.kept))
    (mode-can (told before.table) before.snaps all.state all.stands c.items.result.now c.in_ok-seat.seat c.args.mode
    (place-seat before placed c.make_place.ensures.kept all.state c.items.result.now c.in_ok-seat.seat (c.in_ok-seat.ensures all.state (place-stands before placed c.make_place.ensures.kept all.state all.stands))))

pub change_ready-requires-clause-room : goal.change_ready-requires-clause-room
change_ready-requires-clause-room g c = one-fits c.prepare_seat.new.table c.in_ok-seat.seat.id c.in_ok-seat.seat.need.0 c.in_ok-tick.tick (changes.Mode c.args.mode) c.in_ok-prepare_seat.ensures.room tt

pub returns : goal.returns
returns g c =
    let before = c.args.space.now in
    let placed = c.make_place.new.space in
    let kept = c.make_place.ensures.kept in
    let place = c.in_ok-tick.ensures.place in
    let after : RowSpace g.row.B.Denot = record placed { table = c.change_ready.new.table } in
    let call = calls.SetMode c.args.path.now c.args.mode in
    let seat = c.in_ok-seat.seat in
    let path = c.items.result.now in
    let h = held g.B.BlockStore.blocks g.B.BlockStore.greatest before in
    let table : told c.change_ready.new.table ≡ changed seat.id seat.need.0 (tick_of before + 1) (changes.Mode c.args.mode) (told before.table) =
    c.change_ready.ensures.whole
    ∙ ap (λ (t : Tabled). changed seat.id seat.need.0 c.in_ok-tick.tick (changes.Mode c.args.mode) t) (c.prepare_seat.ensures.same ∙ place-told before placed kept)
    ∙ ap (λ n. changed seat.id seat.need.0 n (changes.Mode c.args.mode) (told before.table)) c.in_ok-tick.ensures.tick in
    let seated : (plain : State (List ℕ)) (at : IsAt h (tick_of before) plain) → IsSeat (told before.table).rows at.stands.state path seat =
    λ plain at. place-seat before placed kept at.stands.state path seat (c.in_ok-seat.ensures at.stands.state (place-stands before placed kept at.stands.state at.stands.stands)) in
    let asks : (plain : State (List ℕ)) (at : IsAt h (tick_of before) plain) → tests.set_mode_at at.stands.state c.args.path.now ≡ Ok path =
    λ plain at. c.in_ok-path.ensures before.snaps at.stands.state at.stands.stands ∙ ap Ok (sym c.items.ensures) in
    done-outcome g.B.BlockStore.blocks g.B.BlockStore.greatest g.B.BlockStore.faults before after call replies.Done
    (λ plain at. mode-done h (held g.B.BlockStore.blocks g.B.BlockStore.greatest after) (tick_of before) plain at c.args.path.now c.args.mode path seat (asks plain at) (seated plain at) table
    (ap (λ (r : RowSpace _). r.snaps) kept) (ap (λ (r : RowSpace _). g.B.BlockStore.blocks r.store) kept) (ap (λ (r : RowSpace _). g.B.BlockStore.greatest r.store) kept) (ap (λ (r : RowSpace _). all_of r.waiting.items) kept))
    (λ plain at. mode-heavier h (held g.B.BlockStore.blocks g.B.BlockStore.greatest after) (tick_of before) plain at c.args.path.now c.args.mode path seat (asks plain at) (seated plain at) table
    (ap (λ (r : RowSpace _). r.snaps) kept) (ap (λ (r : RowSpace _). g.B.BlockStore.blocks r.store) kept) (ap (λ (r : RowSpace _). g.B.BlockStore.greatest r.store) kept) (ap (λ (r : RowSpace _). all_of r.waiting.items) kept))
    (ap (λ (r : RowSpace _). r.store) kept) c.make_place.ensures.journal (ap (λ (r : RowSpace _). r.limit) kept)
    (record { below = place.below; most = place.most; room = place.room }) refl refl (ap (λ (r : RowSpace _). all_of r.waiting.items) kept)

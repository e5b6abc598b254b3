use Rattle.std.proofs.Common.{◌≡◌, length, is_some, sym, ap, ◌∙◌, arith}
use Rattle.snapshot_manager.specs.Snapshots.{is_named, snaps_in}
use Rattle.snapshot_manager.proofs.Entries.{some_copied}
use Rattle.snapshot_manager.proofs.Tables.{snaps_read, few_read}
use Rattle.snapshot_manager.proofs.snaps.Snaps.has_room.Goals as goal

pub unwrap-table-requires : goal.unwrap-table-requires
unwrap-table-requires c = some_copied c.table_of.result (ap is_some c.table_of.ensures.value ∙ c.requires)

pub returns-then-has-clause-taken : goal.returns-then-has-clause-taken
returns-then-has-clause-taken c =
    let read : snaps_in c.args.self.now c.args.dir ≡ c.unwrap-table.result.now = snaps_read c.args.self.now c.args.dir c.table_of.result c.unwrap-table.result c.table_of.ensures.value c.unwrap-table.ensures in
    λ _. ap (is_named c.args.name.now) read ∙ sym c.if-has.ensures

pub returns-then-len-ge-SNAPSHOT_LIMIT-clause-full : goal.returns-then-len-ge-SNAPSHOT_LIMIT-clause-full
returns-then-len-ge-SNAPSHOT_LIMIT-clause-full c =
    let read : snaps_in c.args.self.now c.args.dir ≡ c.unwrap-table.result.now = snaps_read c.args.self.now c.args.dir c.table_of.result c.unwrap-table.result c.table_of.ensures.value c.unwrap-table.ensures in
    let few = few_read c.args.self.now.issued.0 c.table_of.result c.unwrap-table.result c.table_of.ensures.history c.unwrap-table.ensures in
    λ _. (ap (is_named c.args.name.now) read ∙ sym c.if-has.ensures, omega (arith, ap length read, few, c.len.ensures.len))

pub returns-clause-fresh : goal.returns-clause-fresh
returns-clause-fresh c =
    let read : snaps_in c.args.self.now c.args.dir ≡ c.unwrap-table.result.now = snaps_read c.args.self.now c.args.dir c.table_of.result c.unwrap-table.result c.table_of.ensures.value c.unwrap-table.ensures in
    ap (is_named c.args.name.now) read ∙ sym c.if-has.ensures

pub returns-clause-below_limit : goal.returns-clause-below_limit
returns-clause-below_limit c =
    let read : snaps_in c.args.self.now c.args.dir ≡ c.unwrap-table.result.now = snaps_read c.args.self.now c.args.dir c.table_of.result c.unwrap-table.result c.table_of.ensures.value c.unwrap-table.ensures in
    omega (arith, ap length read, c.len.ensures.len)

use Rattle.std.proofs.Common.{Ok, Err, ap, ◌∙◌}
use Rattle.hs_types.specs.declared.call.Call.TheVariants as calls
use Rattle.hs_plain.specs.Files.{block_files}
use Rattle.hs_plain.specs.Reading.{found_file, page_at}
use Rattle.inode_table.specs.Kept.{told}
use Rattle.namenode_write.proofs.Causes.{fault-then}
use Rattle.namenode_write.proofs.Outcomes.{refused-outcome, place-outcome}
use Rattle.namenode_write.proofs.RowReads.{has-placed, would-read, placed-then, read-is, read-fails}
use Rattle.namenode_write.proofs.StoreOutcomes.{place-alike, alike-standing}
use Rattle.namenode_write.proofs.rows.reading.read.Goals as goal

pub returns-in_err-place : goal.returns-in_err-place
returns-in_err-place g c =
    refused-outcome g.B.BlockStore.blocks g.B.BlockStore.greatest g.B.BlockStore.faults c.args.space.now (calls.Read c.args.path.now c.args.offset c.args.len) c.from_residual.result c.in_err-place.field-0.0 c.from_residual.ensures.1 c.requires.standing
    (λ state stands. fault-then (found_file state c.args.path.now) (λ at. Ok (page_at block_files c.args.offset c.args.len at)) c.in_err-place.field-0.0 (c.in_err-place.ensures.found state stands))

pub returns-in_err-make_place : goal.returns-in_err-make_place
returns-in_err-make_place g c =
    place-outcome g.B.BlockStore.blocks g.B.BlockStore.greatest g.B.BlockStore.faults c.args.space.now c.make_place.new.space (calls.Read c.args.path.now c.args.offset c.args.len) c.from_residual-in_err-make_place.result c.in_err-make_place.field-0.0
    c.from_residual-in_err-make_place.ensures.1 c.in_err-make_place.ensures.fault c.in_err-make_place.ensures.refused c.make_place.ensures.kept c.make_place.ensures.journal
    (λ state stands. would-read (found_file state c.args.path.now) (c.in_ok-place.place, c.in_ok-place.ensures.file.0) c.args.offset c.args.len
    (c.in_ok-place.ensures.found state stands ∙ has-placed (told c.args.space.now.table).rows c.in_ok-place.place c.in_ok-place.ensures.file))

pub read_at-requires-clause-standing : goal.read_at-requires-clause-standing
read_at-requires-clause-standing g c =
    alike-standing g.B.BlockStore.blocks g.B.BlockStore.greatest c.args.space.now c.make_place.new.space
    (place-alike g.B.BlockStore.blocks g.B.BlockStore.greatest c.args.space.now c.make_place.new.space c.make_place.ensures.kept c.make_place.ensures.journal) c.requires.standing

pub read_at-requires-clause-file : goal.read_at-requires-clause-file
read_at-requires-clause-file g c = placed-then c.args.space.now c.make_place.new.space c.make_place.ensures.kept c.in_ok-place.place c.in_ok-place.ensures.file

pub returns-in-Ok : goal.returns-in-Ok
returns-in-Ok g c =
    read-is g.B.BlockStore.blocks g.B.BlockStore.greatest g.B.BlockStore.faults c.args.space.now c.make_place.new.space c.read_at.new.space c.make_place.ensures.kept c.make_place.ensures.journal c.in_ok-make_place.ensures.place
    c.read_at.ensures.rest c.read_at.ensures.kept c.read_at.ensures.greatest c.read_at.ensures.count c.in_ok-place.place c.in_ok-place.ensures.file c.args.path.now c.args.offset c.args.len c.in_ok-place.ensures.found
    c.in-Ok.reply c.in-Ok.ensures.sized c.in-Ok.ensures.told

pub returns-in-Err : goal.returns-in-Err
returns-in-Err g c =
    read-fails g.B.BlockStore.blocks g.B.BlockStore.greatest g.B.BlockStore.faults c.args.space.now c.make_place.new.space c.read_at.new.space c.make_place.ensures.kept c.make_place.ensures.journal c.in_ok-make_place.ensures.place
    c.read_at.ensures.rest c.read_at.ensures.kept c.read_at.ensures.greatest c.read_at.ensures.count c.in_ok-place.place c.in_ok-place.ensures.file c.args.path.now c.args.offset c.args.len c.in_ok-place.ensures.found
    c.fault_of.result c.in-Err.error c.fault_of.ensures (λ fails. c.read_at.ensures.cause (c.in-Err.is ∙ ap Err fails))

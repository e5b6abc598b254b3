use Rattle.hs_plain.specs.Files.{block_files}
use Rattle.hs_plain.specs.Reading.{stat_at}
use Rattle.inode_table.specs.Kept.{told}
use Rattle.paged_listing.proofs.Chains.{tells_as}
use Rattle.namenode_read.proofs.Chains.{place_err, place_ok}
use Rattle.namenode_read.proofs.Stats.{stat_there}
use Rattle.namenode_read.proofs.by_rows.stat.stat.Goals as goal

pub returns-in_err-place : goal.returns-in_err-place
returns-in_err-place c = λ state all.
    place_err state c.args.path.now (stat_at block_files state) c.place_of.result c.from_residual.result (c.place_of.ensures state all) c.in_err-place.field-0.0 c.in_err-place.was c.from_residual.ensures.1

pub returns : goal.returns
returns c = λ state all.
    place_ok state c.args.path.now (stat_at block_files state) c.place_of.result c.stat_at.result (c.place_of.ensures state all) all.valid c.in_ok-place.place c.in_ok-place.was
    (λ there. tells_as c.stat_at.result _ _ (stat_there (told c.args.table.now) c.args.snaps.now state all c.in_ok-place.place there) c.stat_at.ensures)

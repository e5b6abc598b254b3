use Rattle.std.proofs.Common.{◌≡◌, IfSome, subst}
use Rattle.std.specs.Prelude.{IfOk}
use Rattle.hs_plain.specs.declared.state.FileBlocks.{FileBlocks}
use Rattle.hs_plain.specs.Answer.{blanked}
use Rattle.hs_plain.specs.Files.{block_files}
use Rattle.hs_plain.specs.Reading.{page_at}
use Rattle.hs_plain.specs.Viewed.{bytes_in}
use Rattle.inode_table.specs.Kept.{told}
use Rattle.namenode_write.proofs.RowFiles.{place-file, place-held}
use Rattle.namenode_write.proofs.RowReads.{no-file, one-file}
use Rattle.namenode_write.proofs.rows.reading.read_at.Goals as goal

pub unreachable-unreachable : goal.unreachable-unreachable
unreachable-unreachable g c = no-file _ c.requires.file.0 c.in_default.field-0 c.requires.file.1 c.in_default.ensures

pub page_at-requires-clause-file : goal.page_at-requires-clause-file
page_at-requires-clause-file g c = place-file (told c.args.space.now.table).rows _ _ _ c.requires.standing.1.stands.blocks c.args.place (record { size = c.in-Ok.size; blocks = c.in-Ok.blocks.now }) c.in-Ok.ensures

pub page_at-requires-clause-held : goal.page_at-requires-clause-held
page_at-requires-clause-held g c = place-held (told c.args.space.now.table).rows _ _ _ c.requires.standing.1.stands.blocks c.args.place (record { size = c.in-Ok.size; blocks = c.in-Ok.blocks.now }) c.in-Ok.ensures

pub returns-clause-sized : goal.returns-clause-sized
returns-clause-sized g c = λ file is.
    subst (λ (f : FileBlocks). IfOk c.page_at.result (λ reply. blanked reply ≡ page_at block_files c.args.offset c.args.len (c.args.place, f))) (one-file _ _ file c.in-Ok.ensures is) c.page_at.ensures.sized

pub returns-clause-told : goal.returns-clause-told
returns-clause-told g c = λ file is.
    subst (λ (f : FileBlocks). IfOk c.page_at.result (λ reply. IfSome (g.B.BlockStore.blocks c.args.space.now.store) (λ map. reply ≡ page_at (record block_files { bytes = bytes_in map }) c.args.offset c.args.len (c.args.place, f))))
    (one-file _ _ file c.in-Ok.ensures is) c.page_at.ensures.told

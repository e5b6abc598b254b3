use Rattle.block_contents.proofs.Told.{told_with}
use Rattle.namenode_write.proofs.Files.{page-sized, page-told}
use Rattle.namenode_write.proofs.rows.reading.page_at.Goals as goal

pub returns-clause-sized : goal.returns-clause-sized
returns-clause-sized g c = page-sized c.args.place (record { size = c.args.size; blocks = c.args.blocks.now }) c.args.offset c.args.len c.in_ok-bytes.bytes c.next_read.result c.next_read.ensures c.in_ok-bytes.ensures.length

pub returns-clause-told : goal.returns-clause-told
returns-clause-told g c =
    told_with _ _ _ (g.B.BlockStore.blocks c.args.store.now)
    (λ map held bytes. page-told map c.args.place (record { size = c.args.size; blocks = c.args.blocks.now }) c.args.offset c.args.len c.in_ok-bytes.bytes c.next_read.result c.next_read.ensures c.requires.file held bytes)
    c.requires.held c.in_ok-bytes.ensures.bytes

use Rattle.std.proofs.Common.{◌≤◌, arith, ◌+◌, ◌<◌, length, sym, subst}
use Rattle.hs_types.specs.Blocks.{IsFile}
use Rattle.block_store.specs.Changes.{Changes}
use Rattle.block_contents.specs.Contents.{AtMost, Appended}
use Rattle.block_contents.proofs.Adding.{at_most_more, at_most_push, file_push, told_behind}
use Rattle.block_contents.proofs.appending.add_block.Goals as goal

pub returns-in-Ok-clause-file : goal.returns-in-Ok-clause-file
returns-in-Ok-clause-file g c =
    let some : 0 < length c.args.bytes.now = grind arith in
    subst (IsFile (c.args.size + length c.args.bytes.now)) (sym c.push_reserved.ensures.items)
    (file_push c.args.blocks.now.items c.in_ok-block.block (g.B.BlockStore.greatest c.args.store.now) c.args.size c.args.bytes.now c.requires.file c.requires.known c.in_ok-block.ensures.above (c.requires.full some) some c.requires.chunk)

pub returns-in-Ok-clause-appended : goal.returns-in-Ok-clause-appended
returns-in-Ok-clause-appended g c =
    let some : 0 < length c.args.bytes.now = grind arith in
    subst (λ list. Changes (g.B.BlockStore.blocks c.args.store.now) (g.B.BlockStore.blocks c.write_at.new.self) (Appended c.args.size c.args.blocks.now.items list c.args.bytes.now)) (sym c.push_reserved.ensures.items)
    (told_behind c.args.blocks.now.items c.in_ok-block.block c.args.size c.args.bytes.now (g.B.BlockStore.blocks c.args.store.now) (g.B.BlockStore.blocks c.make.new.self) (g.B.BlockStore.blocks c.write_at.new.self)
    (c.requires.full some) c.requires.chunk c.requires.held c.in_ok-block.ensures.fresh c.in_ok-block.ensures.made c.in-Ok.ensures.written)

pub returns-in-Ok-clause-known : goal.returns-in-Ok-clause-known
returns-in-Ok-clause-known g c =
    let most : c.in_ok-block.block.0 ≤ g.B.BlockStore.greatest c.write_at.new.self = omega (arith, c.in_ok-block.ensures.greatest, c.write_at.ensures.greatest) in
    let more : g.B.BlockStore.greatest c.args.store.now ≤ g.B.BlockStore.greatest c.write_at.new.self = omega (arith, c.in_ok-block.ensures.above, most) in
    subst (AtMost (g.B.BlockStore.greatest c.write_at.new.self)) (sym c.push_reserved.ensures.items)
    (at_most_push (g.B.BlockStore.greatest c.args.store.now) (g.B.BlockStore.greatest c.write_at.new.self) c.args.blocks.now.items c.in_ok-block.block more most c.requires.known)

pub returns-in-Err-clause-known : goal.returns-in-Err-clause-known
returns-in-Err-clause-known g c = at_most_more (g.B.BlockStore.greatest c.args.store.now) _ c.args.blocks.now.items (grind arith) c.requires.known

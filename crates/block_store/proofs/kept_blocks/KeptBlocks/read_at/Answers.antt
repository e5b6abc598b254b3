use Rattle.std.proofs.Common.{◌≤◌, ◌+◌, sym, length, arith}
use Rattle.std.proofs.lemmas.Grind.{common_steps}
use Rattle.block_store.proofs.KeptLemmas.{reaches_found}
use Rattle.block_store.proofs.kept_blocks.KeptBlocks.read_at.Goals as goal

pub slice_bounds-rest-count : goal.slice_bounds-rest-count
slice_bounds-rest-count c =
    let fits : c.args.offset + length c.args.out.now ≤ length c.in-Some.kept.now = reaches_found _ _ _ c.requires (sym c.in-Some.ensures) in
    grind arith

pub slice_bounds-copy_from_slice-end : goal.slice_bounds-copy_from_slice-end
slice_bounds-copy_from_slice-end c =
    let fits : c.args.offset + length c.args.out.now ≤ length c.in-Some.kept.now = reaches_found _ _ _ c.requires (sym c.in-Some.ensures) in
    grind (arith, common_steps)

pub copy_from_slice-requires : goal.copy_from_slice-requires
copy_from_slice-requires c =
    let fits : c.args.offset + length c.args.out.now ≤ length c.in-Some.kept.now = reaches_found _ _ _ c.requires (sym c.in-Some.ensures) in
    grind (arith, common_steps)

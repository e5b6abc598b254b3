use Rattle.std.proofs.Common.{◌≡◌, Some, if◌then◌else◌, arith, rules, sym}
use Rattle.std.proofs.lemmas.Grind.{common_steps}
use Rattle.hs_types.specs.Blocks.{find, same_block}
use Rattle.hs_types.specs.declared.ids.BlockId.{BlockId}
use Rattle.block_store.proofs.KeptLemmas.{put_back, reaches_found, writes_found, on_ok, on_err}
use Rattle.block_store.proofs.kept_blocks.KeptBlocks.write_at.Goals as goal

pub put_at-requires : goal.put_at-requires
put_at-requires c =
    let found : find c.args.self.now.blocks c.args.block ≡ Some c.in-Some.kept.now = grind (arith, common_steps, c.in-Some.ensures.value, c.self.view_is) in
    reaches_found _ _ _ c.requires found

pub invariant_of-self : goal.invariant_of-self
invariant_of-self c = λ block above. grind (arith, common_steps, ((c.get_mut.follows.holds c.put_at.new.list).3 (search rules)).0 block, c.self.invariant block above)

pub returns-clause-ok : goal.returns-clause-ok
returns-clause-ok c =
    let found : find c.args.self.now.blocks c.args.block ≡ Some c.in-Some.kept.now = grind (arith, common_steps, c.in-Some.ensures.value, c.self.view_is) in
    let sets : (other : BlockId) → find (c.get_mut.follows.lender c.put_at.new.list).entries other ≡ (if same_block c.args.block other then Some c.put_at.new.list else find c.args.self.now.blocks other) =
    λ other. grind (arith, common_steps, ((c.get_mut.follows.holds c.put_at.new.list).3 (search rules)).0 other, c.self.view_is) in
    on_ok c.put_at.result (writes_found c.args.block c.args.offset c.args.bytes.now c.in-Some.kept.now c.put_at.new.list _ _ found sets) c.put_at.ensures.ok

pub returns-clause-err : goal.returns-clause-err
returns-clause-err c = on_err c.put_at.result (λ (same : c.put_at.new.list ≡ c.in-Some.kept.now).
    let stays : (c.get_mut.follows.lender c.put_at.new.list).entries ≡ c.self.inside.blocks.entries =
    put_back _ _ _ _ _ (sym c.in-Some.ensures.value) (c.get_mut.follows.holds c.put_at.new.list).0 same in
    cc) c.put_at.ensures.err

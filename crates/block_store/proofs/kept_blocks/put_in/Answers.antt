use Rattle.std.proofs.Common.{◌≡◌, ◌++◌, drop, arith, ◌∙◌, ap}
use Rattle.std.proofs.lemmas.Grind.{common_steps}
use Rattle.block_store.specs.Changes.{with_bytes_at}
use Rattle.block_store.proofs.KeptLemmas.{put_behind_and_over, written_back}
use Rattle.block_store.proofs.kept_blocks.put_in.Goals as goal

pub returns-clause-ok : goal.returns-clause-ok
returns-clause-ok c =
    let grown : c.extend_from_slice.new.self.items ≡ c.args.items.now.items ++ drop c.min-over.result c.args.bytes.now = grind (arith, common_steps) in
    written_back _ _ _ (grind arith) (grind arith) ∙ c.overwrite.ensures ∙ ap (with_bytes_at c.args.offset _) (c.as_mut_slice.ensures.value ∙ grown) ∙ put_behind_and_over c.args.offset c.min-over.result c.args.bytes.now c.args.items.now.items c.requires (grind arith)

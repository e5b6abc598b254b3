use Rattle.std.proofs.Common.{length, refl, arith, ◌∙◌}
use Rattle.std.proofs.lemmas.Slice.{put_mid-paste}
use Rattle.block_store.proofs.KeptLemmas.{paste_is}
use Rattle.block_store.proofs.kept_blocks.overwrite.Goals as goal

pub returns : goal.returns
returns c = put_mid-paste _ _ _ _ c.args.bytes.now (length c.args.bytes.now) c.copy_from_slice.ensures.after (omega arith) refl ∙ paste_is c.args.offset c.args.bytes.now c.args.items.now

use Rattle.hs_types.proofs.Parts.{map-drop_two}
use Rattle.hs_types.proofs.path.counted_below.Goals as goal

pub returns-else-parts-at-lt2 : goal.returns-else-parts-at-lt2
returns-else-parts-at-lt2 c = map-drop_two (λ part. part.now) c.args.parts.now c.args.at

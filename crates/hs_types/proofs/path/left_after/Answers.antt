use Rattle.std.proofs.Common.{◌+◌, ◌<◌, length, [], arith}
use Rattle.std.proofs.lemmas.List.Sums.{sum_by_more_le}
use Rattle.hs_types.proofs.Parts.{text_length-map}
use Rattle.hs_types.proofs.path.left_after.Goals as goal

pub returns-in-None : goal.returns-in-None
returns-in-None c h =
    let within : c.loop-part.part-index < length c.args.parts.now = c.loop-part-test.true in
    omega (arith, h, sum_by_more_le (λ part. length part.now + 1) c.args.parts.now c.loop-part.part-index (record { ref_ptr = (0, 0); now = [] }) within, text_length-map (λ part. part.now) c.args.parts.now, c.in-None.ensures)

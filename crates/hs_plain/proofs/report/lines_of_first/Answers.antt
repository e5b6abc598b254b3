use Rattle.std.proofs.Common.{◌+◌, List, ◌++◌, drop, ap, ◌∙◌}
use Rattle.std.specs.List.{flat_map}
use Rattle.hs_types.specs.declared.reply.Line.{Line}
use Rattle.hs_plain.specs.Report.{lines_from}
use Rattle.hs_plain.proofs.Steps.{flat_map_step}
use Rattle.hs_plain.proofs.report.lines_of_first.Goals as goal

pub loop-place-preserved : goal.loop-place-preserved
loop-place-preserved g c =
    let lines = lines_from c.args.from.now c.args.to.now in
    let places = c.args.from.now in
    let i = c.loop-place.place-index in
    ap (λ (front : List Line). front ++ flat_map lines (drop (i + 1) places)) c.in_ok-push_lines.ensures
    ∙ flat_map_step places i c.place-item.result c.loop-place.lines.items c.loop-place-test.true c.place-item.is lines
    ∙ c.loop-place.invariant

use Rattle.std.proofs.Common.{ap, ◌∙◌}
use Rattle.hs_types.specs.declared.call.Place.TheVariants as places
use Rattle.hs_types.specs.declared.ids.CallerId.{CallerId}
use Rattle.hs_types.specs.declared.ids.Side.TheVariants.{Target}
use Rattle.hs_plain.specs.Plan.{text_below}
use Rattle.copy_workers.specs.Calls.{wanting_of}
use Rattle.copy_workers.proofs.Paging.{ends_at_text}
use Rattle.copy_workers.proofs.copying.copy_file.Goals as goal

pub returns-in-Err-clause-copy : goal.returns-in-Err-clause-copy
returns-in-Err-clause-copy g c =
    let source = g.L.NameLink.known c.args.source.now in
    let target = g.L.NameLink.known c.args.target.now in
    ends_at_text (text_below c.args.target_root.now c.args.job.now.to) (places.Frozen c.args.job.now.id c.args.snap) source target c.args.made.now.items c.wanting.result c.requires.none
    (c.wanting.ensures ∙ ap (λ (caller : CallerId). wanting_of Target caller) c.caller.ensures.caller)

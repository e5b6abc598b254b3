use Rattle.std.proofs.Common.{refl}
use Rattle.hs_types.specs.declared.call.Call.TheVariants as calls
use Rattle.hs_plain.specs.Plan.{text_below, out_place}
use Rattle.distcp_sync.proofs.Tries.{wants}
use Rattle.distcp_sync.proofs.moving.make_out.Goals as goal

pub returns-in-Err-clause-tried : goal.returns-in-Err-clause-tried
returns-in-Err-clause-tried g c =
    let known = g.L.NameLink.known c.args.target.now in
    wants known known (calls.Rename (text_below c.args.root.now c.args.path.now) (text_below c.args.root.now (out_place c.args.plan.now c.args.index))) c.args.made.now.items c.args.made.now.items c.args.looks.now.items refl refl

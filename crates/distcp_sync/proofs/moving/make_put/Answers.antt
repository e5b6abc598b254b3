use Rattle.std.proofs.Common.{refl}
use Rattle.hs_plain.specs.Plan.{put_call}
use Rattle.distcp_sync.proofs.Tries.{wants}
use Rattle.distcp_sync.proofs.moving.make_put.Goals as goal

pub returns-in-Err-clause-tried : goal.returns-in-Err-clause-tried
returns-in-Err-clause-tried g c =
    let known = g.L.NameLink.known c.args.target.now in
    wants known known (put_call c.args.root.now c.args.plan.now c.args.put.now) c.args.made.now.items c.args.made.now.items c.args.looks.now.items refl refl

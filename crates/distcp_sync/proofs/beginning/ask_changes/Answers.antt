use Rattle.std.proofs.Common.{ℕ, [], ◌∷◌, None, subst}
use Rattle.hs_types.specs.declared.ids.Side.TheVariants.{Target}
use Rattle.hs_types.specs.declared.call.Call.TheVariants as calls
use Rattle.hs_plain.specs.Premises.{now}
use Rattle.distcp_sync.specs.inside.Trace.{IsLooked}
use Rattle.distcp_sync.specs.inside.Begins.{compared}
use Rattle.distcp_sync.proofs.beginning.ask_changes.Goals as goal

pub returns-in-Some-clause-compared : goal.returns-in-Some-clause-compared
returns-in-Some-clause-compared g c =
    let old = g.L.NameLink.known c.args.target.now in
    let new = g.L.NameLink.known c.ask-look.new.link in
    let start = c.args.start.now in
    record {
      later = c.ask-look.result ∷ [];
      looks = c.push_reserved.ensures.items;
      compared = compared c.ask-look.result c.is_unchanged-unchanged.result
          (subst (λ (size : ℕ). IsLooked Target old new (calls.ReportNext (record { root = start.target; from = start.base; to = now; tick = None; index = 0 }) size) c.ask-look.result) c.in-Some.ensures.in_range.0 c.ask-look.ensures.looked)
          c.is_unchanged-unchanged.ensures;
    }

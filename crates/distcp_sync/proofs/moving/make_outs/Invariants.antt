use Rattle.std.proofs.Common.{◌≡◌, ◌<◌, drop}
use Rattle.std.specs.Prelude.{vec_len, vec_capacity}
use Rattle.hs_plain.specs.Plan.{out_calls}
use Rattle.distcp_sync.specs.inside.Tried.{IsDoneUpTo}
use Rattle.distcp_sync.proofs.moving.make_outs.Given as goal

-- the outs so far were done
abbrev pub invariant-loop-index : goal.invariant-loop-index
invariant-loop-index g l = record {
  number : g.L.NameLink.number l.target ≡ g.L.NameLink.number l.fn.target;
  alone : g.L.NameLink.alone l.target ≡ g.L.NameLink.alone l.fn.target;
  stays : g.L.NameLink.stays l.fn.target l.target;
  room : vec_len l.looks < vec_capacity l.looks;
  done : IsDoneUpTo (g.L.NameLink.known l.fn.target) (g.L.NameLink.known l.target) (out_calls l.root l.plan 0 l.plan.outs) (out_calls l.root l.plan l.index (drop l.index l.path-items)) l.fn.made.items l.made.items l.fn.looks.items l.looks.items;
}

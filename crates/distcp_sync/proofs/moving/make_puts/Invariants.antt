use Rattle.std.proofs.Common.{◌≡◌, ◌<◌, map, drop}
use Rattle.std.specs.Prelude.{vec_len, vec_capacity}
use Rattle.hs_plain.specs.Plan.{put_call}
use Rattle.distcp_sync.specs.inside.Tried.{IsDoneUpTo}
use Rattle.distcp_sync.proofs.moving.make_puts.Given as goal

-- the puts so far were done
abbrev pub invariant-loop-put : goal.invariant-loop-put
invariant-loop-put g l = record {
  number : g.L.NameLink.number l.target ≡ g.L.NameLink.number l.fn.target;
  alone : g.L.NameLink.alone l.target ≡ g.L.NameLink.alone l.fn.target;
  stays : g.L.NameLink.stays l.fn.target l.target;
  room : vec_len l.looks < vec_capacity l.looks;
  done : IsDoneUpTo (g.L.NameLink.known l.fn.target) (g.L.NameLink.known l.target) (map (put_call l.root l.plan) l.plan.puts) (map (put_call l.root l.plan) (drop l.put-index l.put-items)) l.fn.made.items l.made.items l.fn.looks.items l.looks.items;
}

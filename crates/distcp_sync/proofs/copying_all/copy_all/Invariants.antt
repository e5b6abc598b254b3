use Rattle.std.proofs.Common.{◌≡◌, ◌+◌, ◌≤◌, length, drop}
use Rattle.std.specs.Prelude.{vec_len, vec_capacity}
use Rattle.distcp_sync.specs.inside.Tried.{AreCopiedUpTo}
use Rattle.distcp_sync.proofs.copying_all.copy_all.Given as goal

-- the jobs so far were copied whole
abbrev pub invariant-loop-number : goal.invariant-loop-number
invariant-loop-number g l = record {
  source_number : g.L.NameLink.number l.source ≡ g.L.NameLink.number l.fn.source;
  target_number : g.L.NameLink.number l.target ≡ g.L.NameLink.number l.fn.target;
  source_alone : g.L.NameLink.alone l.source ≡ g.L.NameLink.alone l.fn.source;
  target_alone : g.L.NameLink.alone l.target ≡ g.L.NameLink.alone l.fn.target;
  source_stays : g.L.NameLink.stays l.fn.source l.source;
  target_stays : g.L.NameLink.stays l.fn.target l.target;
  room : vec_len l.copies + length (drop l.number l.jobs) ≤ vec_capacity l.copies;
  copied : AreCopiedUpTo l.fn.snap l.root 0 l.number l.jobs (drop l.number l.jobs) (g.L.NameLink.known l.fn.source) (g.L.NameLink.known l.source) (g.L.NameLink.known l.fn.target) (g.L.NameLink.known l.target) l.fn.copies.items l.copies.items;
}

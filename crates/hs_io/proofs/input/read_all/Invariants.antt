use Rattle.std.proofs.Common.{◌≤◌, ◌+◌, ◌-◌, length, take}
use Rattle.hs_io.specs.Bytes.{Gives}
use Rattle.hs_io.proofs.input.read_all.Given as goal

-- the bytes that are filled were given
abbrev pub invariant-loop-filled : goal.invariant-loop-filled
invariant-loop-filled g l = record {
  filled : l.filled ≤ length l.bytes.items;
  limit : length l.bytes.items ≤ l.limit + 1;
  given : Gives (g.S.Source.rest l.initial.source) (g.S.Source.rest l.source) (take l.filled l.bytes.items);
  count : g.S.Source.faults l.initial.source ≤ g.S.Source.faults l.source;
}

abbrev pub decreases-loop-filled : goal.decreases-loop-filled
decreases-loop-filled g l = l.limit + 1 - l.filled

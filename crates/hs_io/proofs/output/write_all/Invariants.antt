use Rattle.std.proofs.Common.{◌≡◌, ◌≤◌, ◌-◌, [], length, take}
use Rattle.hs_io.specs.Bytes.{Takes}
use Rattle.hs_io.proofs.output.write_all.Given as goal

-- the bytes done so far are taken
abbrev pub invariant-loop-done : goal.invariant-loop-done
invariant-loop-done g l = record {
  within : l.done ≤ length l.bytes;
  taken : Takes (g.O.Sink.written l.initial.sink) (g.O.Sink.written l.sink) (take l.done l.bytes);
  count : g.O.Sink.faults l.initial.sink ≤ g.O.Sink.faults l.sink;
  no_call : l.bytes ≡ [] → l.sink ≡ l.initial.sink;
}

abbrev pub decreases-loop-done : goal.decreases-loop-done
decreases-loop-done g l = length l.bytes - l.done

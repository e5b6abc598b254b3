use Rattle.std.proofs.Common.{◌≡◌, ◌++◌, take, drop}
use Rattle.hs_plain.specs.Change.{stamped}
use Rattle.hs_plain.proofs.change.restamp_all.Given as goal

-- the places so far are stamped, and the others as they were
abbrev pub invariant-loop-place : goal.invariant-loop-place
invariant-loop-place g l = l.place-items ≡ stamped (take l.place-index l.fn.places.items) l.path l.tick ++ drop l.place-index l.fn.places.items

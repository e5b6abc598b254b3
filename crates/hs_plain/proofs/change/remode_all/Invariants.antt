use Rattle.std.proofs.Common.{◌≡◌, ◌++◌, take, drop}
use Rattle.hs_plain.specs.Change.{moded}
use Rattle.hs_plain.proofs.change.remode_all.Given as goal

-- the places so far have the mode, and the others as they were
abbrev pub invariant-loop-place : goal.invariant-loop-place
invariant-loop-place g l = l.place-items ≡ moded (take l.place-index l.fn.places.items) l.path l.mode l.tick ++ drop l.place-index l.fn.places.items

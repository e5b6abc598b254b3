use Rattle.std.proofs.Common.{◌≡◌, map, take}
use Rattle.hs_types.proofs.path.names_of.Given as goal

-- the parts so far are named
abbrev pub invariant-loop-part : goal.invariant-loop-part
invariant-loop-part l = l.names.items ≡ map (λ part. part.now) (take l.part-index l.parts)

use Rattle.std.proofs.Common.{◌≡◌, ◌+◌, length, take, sum_by}
use Rattle.hs_types.proofs.path.left_after.Given as goal

-- what is left and the parts so far are the bytes
abbrev pub invariant-loop-part : goal.invariant-loop-part
invariant-loop-part l = l.left + sum_by (λ part. length part.now + 1) (take l.part-index l.parts) ≡ l.fn.bytes

use Rattle.std.proofs.Common.{◌≡◌, ◌++◌, take}
use Rattle.hs_plain.proofs.change.push_names.Given as goal

-- the names so far are behind the path
abbrev pub invariant-loop-name : goal.invariant-loop-name
invariant-loop-name l = l.path.items ≡ l.fn.path.items ++ take l.name-index l.names

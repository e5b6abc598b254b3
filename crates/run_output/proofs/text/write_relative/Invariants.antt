use Rattle.std.proofs.Common.{◌≡◌, ◌++◌, codes, string_bytes, drop}
use Rattle.std.specs.List.{flat_map}
use Rattle.run_output.specs.TextParts.{escaped}
use Rattle.run_output.proofs.text.write_relative.Given as goal

-- what is written, and the names that are left, is all
abbrev pub invariant-loop-name : goal.invariant-loop-name
invariant-loop-name l = string_bytes l.out ++ flat_map (λ name. codes "/" ++ escaped name) (drop l.name-index l.names) ≡ string_bytes l.initial.out ++ flat_map (λ name. codes "/" ++ escaped name) l.names

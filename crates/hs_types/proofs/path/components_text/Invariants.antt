use Rattle.std.proofs.Common.{◌≡◌, ◌++◌, string_bytes, drop}
use Rattle.std.specs.List.{flat_map}
use Rattle.hs_types.specs.Paths.{component_text}
use Rattle.hs_types.proofs.path.components_text.Given as goal

-- what is written, and the text of the names that are left, is all
abbrev pub invariant-loop-name : goal.invariant-loop-name
invariant-loop-name l = string_bytes l.text ++ flat_map component_text (drop l.name-index l.names) ≡ flat_map component_text l.names

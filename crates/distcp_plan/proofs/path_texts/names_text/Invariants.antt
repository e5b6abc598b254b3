use Rattle.std.proofs.Common.{◌≡◌, ◌++◌, drop, string_bytes}
use Rattle.std.specs.List.{flat_map}
use Rattle.hs_types.specs.Paths.{component_text}
use Rattle.distcp_plan.specs.inside.Texts.{front_of}
use Rattle.distcp_plan.proofs.path_texts.names_text.Given as goal

abbrev pub invariant-loop-name : goal.invariant-loop-name
invariant-loop-name l = string_bytes l.text ++ flat_map component_text (drop l.name-index l.names) ≡ front_of l.root ++ flat_map component_text l.names

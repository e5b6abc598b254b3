use Rattle.std.proofs.Common.{◌≡◌, ◌++◌, string_bytes, map, drop}
use Rattle.std.specs.List.{flat_map}
use Rattle.run_output.specs.TextParts.{ended}
use Rattle.run_output.specs.Text.{node_line}
use Rattle.run_output.proofs.text.write_tree.Given as goal

-- what is written, and the text of the nodes that are left, is all
abbrev pub invariant-loop-node : goal.invariant-loop-node
invariant-loop-node l = string_bytes l.out ++ flat_map ended (map node_line (drop l.node-index l.nodes)) ≡ string_bytes l.initial.out ++ flat_map ended (map node_line l.nodes)

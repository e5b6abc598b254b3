use Rattle.std.proofs.Common.{◌≡◌, ◌++◌}
use Rattle.std.specs.List.{flat_map, range_with_len}
use Rattle.script_text.specs.Generator.{dir_commands}
use Rattle.script_text.proofs.generator.add_dirs.Given as goal

abbrev pub invariant-loop-dir : goal.invariant-loop-dir
invariant-loop-dir l = l.commands ≡ l.initial.commands ++ flat_map (dir_commands l.files) (range_with_len 0 l.dir)

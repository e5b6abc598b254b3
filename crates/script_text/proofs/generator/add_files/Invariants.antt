use Rattle.std.proofs.Common.{◌≡◌, ◌++◌, map, codes}
use Rattle.std.specs.List.{range_with_len}
use Rattle.script_text.specs.Generator.{create, file_path}
use Rattle.script_text.proofs.generator.add_files.Given as goal

abbrev pub invariant-loop-file : goal.invariant-loop-file
invariant-loop-file l = l.commands ≡ l.initial.commands ++ map (λ file. create (file_path l.dir (codes "f") file)) (range_with_len 0 l.file)

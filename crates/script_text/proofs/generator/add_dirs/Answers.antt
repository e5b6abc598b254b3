use Rattle.std.proofs.Common.{◌++◌, ap, ◌∙◌, arith}
use Rattle.script_text.specs.Generator.{dir_commands}
use Rattle.script_text.proofs.Generating.{flat_map-more}
use Rattle.script_text.proofs.generator.add_dirs.Goals as goal

pub loop-dir-preserved : goal.loop-dir-preserved
loop-dir-preserved c =
    c.in_ok-add_dir.ensures
    ∙ ap (λ xs. xs ++ dir_commands c.args.files c.loop-dir.dir) c.loop-dir.invariant
    ∙ flat_map-more (dir_commands c.args.files) c.args.commands.now 0 c.loop-dir.dir c.loop-dir.dir (omega arith)

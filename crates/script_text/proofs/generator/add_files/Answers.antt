use Rattle.std.proofs.Common.{◌++◌, ◌∷◌, [], codes, ap, ◌∙◌, arith}
use Rattle.script_text.specs.Generator.{create, file_path}
use Rattle.script_text.proofs.Generating.{map-more}
use Rattle.script_text.proofs.generator.add_files.Goals as goal

pub loop-file-preserved : goal.loop-file-preserved
loop-file-preserved c =
    c.in_ok-push.ensures.ok
    ∙ ap (λ command. c.loop-file.commands ++ command ∷ []) c.in_ok-file_created.ensures
    ∙ ap (λ xs. xs ++ create (file_path c.args.dir (codes "f") c.loop-file.file) ∷ []) c.loop-file.invariant
    ∙ map-more (λ file. create (file_path c.args.dir (codes "f") file)) c.args.commands.now 0 c.loop-file.file c.loop-file.file (omega arith)

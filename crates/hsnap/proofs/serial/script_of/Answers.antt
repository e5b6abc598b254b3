use Rattle.hsnap.proofs.Statuses.{generated_in}
use Rattle.hsnap.proofs.serial.script_of.Goals as goal

pub returns-in-Generated-clause-script : goal.returns-in-Generated-clause-script
returns-in-Generated-clause-script g c =
    generated_in c.args.words.now.mode c.args.words.now.seed (g.I.Source.rest c.args.input.now) c.generated_script.result c.in-Generated.is c.generated_script.ensures.script

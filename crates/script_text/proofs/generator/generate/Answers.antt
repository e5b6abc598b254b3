use Rattle.std.proofs.Common.{◌≡◌, ◌≤◌, length, ap, ◌∙◌, arith}
use Rattle.std.proofs.lemmas.Grind.{common_steps}
use Rattle.script_text.specs.Generator.{generated_commands}
use Rattle.script_text.specs.Order.{are_ordered}
use Rattle.script_text.proofs.Generating.{numbered-ordered, length-generated}
use Rattle.script_text.proofs.generator.generate.Goals as goal

pub numbered-requires : goal.numbered-requires
numbered-requires c =
    let all : c.add_all.new.commands ≡ generated_commands c.args.seed c.args.dirs c.args.files c.args.snaps = grind (arith, common_steps) in
    let most : length (generated_commands c.args.seed c.args.dirs c.args.files c.args.snaps) ≤ 16777216 = length-generated c.args.seed c.args.dirs c.args.files c.args.snaps c.requires.snaps c.requires.size in
    let same : length c.add_all.new.commands ≡ length (generated_commands c.args.seed c.args.dirs c.args.files c.args.snaps) = ap length all in
    omega (arith, most, same)

pub returns-clause-order : goal.returns-clause-order
returns-clause-order c = ap (are_ordered 0 0) c.in_ok-numbered.ensures ∙ numbered-ordered 1 c.add_all.new.commands

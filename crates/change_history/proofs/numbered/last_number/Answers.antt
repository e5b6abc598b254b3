use Rattle.std.proofs.Common.{sym, ◌∙◌}
use Rattle.change_history.proofs.Numbers.{last_from-some, last_from-none}
use Rattle.change_history.proofs.numbered.last_number.Goals as goal

pub returns-in-Some : goal.returns-in-Some
returns-in-Some g c = c.number.ensures ∙ sym (last_from-some g.T.Numbered.number_of 0 c.args.records.now c.in-Some.last.now (sym c.in-Some.ensures.value))

pub returns-in-None : goal.returns-in-None
returns-in-None g c = sym (last_from-none g.T.Numbered.number_of 0 c.args.records.now (sym c.in-None.ensures.value))

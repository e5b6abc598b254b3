use Rattle.std.proofs.Common.{sym, ap, ◌∙◌}
use Rattle.change_history.proofs.Numbers.{last_from-map}
use Rattle.dir_changes.specs.History.{number_of, last_from, last_number}
use Rattle.dir_changes.specs.Recorded.{past_of}
use Rattle.dir_changes.proofs.rows.DirRows.last_number.Goals as goal

pub returns : goal.returns
returns c = c.last_number.ensures ∙ sym (last_from-map past_of number_of 0 c.records_of.result.now) ∙ ap (last_from 0) c.records_of.ensures ∙ ap (λ v. last_number v.history) c.self.view_is

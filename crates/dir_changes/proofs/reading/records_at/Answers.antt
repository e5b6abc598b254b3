use Rattle.std.proofs.Common.{map, sym, ap, subst, ◌∙◌}
use Rattle.std.specs.Prelude.{IsTrue}
use Rattle.change_history.proofs.Numbers.{rising-map}
use Rattle.change_history.proofs.Readings.{records_at-map}
use Rattle.dir_changes.specs.History.{number_of}
use Rattle.dir_changes.specs.Recorded.{past_of}
use Rattle.dir_changes.proofs.reading.records_at.Goals as goal

pub records_at-requires : goal.records_at-requires
records_at-requires c = subst IsTrue (rising-map past_of number_of 0 c.args.records.now) c.requires

pub returns : goal.returns
returns c = ap (map past_of) c.records_at.ensures ∙ sym (records_at-map past_of number_of c.args.s.0 c.args.records.now)

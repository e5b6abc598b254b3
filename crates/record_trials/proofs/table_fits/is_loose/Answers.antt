use Rattle.std.proofs.Common.{sym, ap, ◌∙◌}
use Rattle.std.specs.Option.{option_map}
use Rattle.inode_table.specs.Numbered.{state_of}
use Rattle.inode_table.proofs.Telling.{row-told}
use Rattle.record_trials.proofs.table_fits.is_loose.Goals as goal

pub returns-in-Some : goal.returns-in-Some
returns-in-Some c = λ none. record {
  row = state_of c.in-Some.field-0.now;
  there = row-told c.args.table.now.rows c.args.id ∙ ap (option_map state_of) (sym c.in-Some.ensures);
  loose = c.is_in_none.ensures none;
}

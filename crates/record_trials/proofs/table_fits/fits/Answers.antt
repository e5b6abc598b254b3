use Rattle.std.proofs.Common.{sym, ap, ◌∙◌}
use Rattle.std.specs.Option.{option_map}
use Rattle.inode_table.specs.Numbered.{state_of}
use Rattle.inode_table.proofs.Telling.{row-told}
use Rattle.record_trials.proofs.table_fits.fits.Goals as goal

pub returns-then-fits_rows : goal.returns-then-fits_rows
returns-then-fits_rows c = λ entry. record {
  row = state_of c.in-Some.row.now;
  there = row-told c.args.table.now.rows c.args.id ∙ ap (option_map state_of) (sym c.in-Some.ensures);
  fits = c.fits_rows.ensures c.if-fits_rows.true;
  entry = c.fits_table.ensures entry;
}

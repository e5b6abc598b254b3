use Rattle.std.proofs.Common.{sym}
use Rattle.record_trials.proofs.Absent.{not_there, not_named}
use Rattle.record_trials.proofs.table_fits.is_absent.Goals as goal

pub returns-in-Some : goal.returns-in-Some
returns-in-Some c = λ all name. not_named c.args.table.now.rows c.args.dir c.args.id name c.in-Some.row.now (sym c.in-Some.ensures) (c.lacks.ensures all name)

pub returns-in-None : goal.returns-in-None
returns-in-None c = λ all name. not_there c.args.table.now.rows c.args.dir c.args.id name (sym c.in-None.ensures)

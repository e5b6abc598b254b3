use Rattle.std.proofs.Common.{sym}
use Rattle.inode_table.specs.Numbered.{history_of}
use Rattle.table_laws.proofs.RecordTold.{number-told}
use Rattle.record_merge.proofs.losing.number_at.Goals as goal

pub returns-clause-at : goal.returns-clause-at
returns-clause-at c = (number-told (history_of c.args.rows.now) c.args.i c.in-Some.number (sym c.in-Some.ensures)).at

pub returns-clause-next : goal.returns-clause-next
returns-clause-next c = (number-told (history_of c.args.rows.now) c.args.i c.in-Some.number (sym c.in-Some.ensures)).before_next

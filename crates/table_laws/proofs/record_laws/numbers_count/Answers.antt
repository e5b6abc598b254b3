use Rattle.table_laws.proofs.RecordTold.{numbers-count}
use Rattle.table_laws.proofs.record_laws.numbers_count.Goals as goal

pub returns : goal.returns
returns c = numbers-count

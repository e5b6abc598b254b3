use Rattle.table_laws.proofs.Recording.{records-numbers}
use Rattle.table_laws.proofs.record_laws.numbers_records.Goals as goal

pub returns : goal.returns
returns c = records-numbers

use Rattle.table_laws.proofs.Recording.{records-renamed}
use Rattle.table_laws.proofs.record_laws.renamed_records.Goals as goal

pub returns : goal.returns
returns c = records-renamed

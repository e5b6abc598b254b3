use Rattle.table_laws.proofs.NamedEntries.{remove-names}
use Rattle.table_laws.proofs.name_laws.entry_removed.Goals as goal

pub returns : goal.returns
returns c = remove-names

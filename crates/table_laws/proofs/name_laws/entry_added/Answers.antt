use Rattle.table_laws.proofs.NamedEntries.{add-names}
use Rattle.table_laws.proofs.name_laws.entry_added.Goals as goal

pub returns : goal.returns
returns c = add-names

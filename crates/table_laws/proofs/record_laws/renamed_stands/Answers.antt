use Rattle.table_laws.proofs.Recording.{renamed-stands}
use Rattle.table_laws.proofs.record_laws.renamed_stands.Goals as goal

pub returns : goal.returns
returns c = renamed-stands

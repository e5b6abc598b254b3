use Rattle.table_laws.proofs.NamedSound.{merged-all}
use Rattle.table_laws.proofs.name_lists.merged_sound.Goals as goal

pub returns : goal.returns
returns c = merged-all

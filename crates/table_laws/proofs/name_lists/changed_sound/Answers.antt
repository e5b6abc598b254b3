use Rattle.table_laws.proofs.NamedSound.{changed-all}
use Rattle.table_laws.proofs.name_lists.changed_sound.Goals as goal

pub returns : goal.returns
returns c = changed-all

use Rattle.table_laws.proofs.NamedSound.{marked-all}
use Rattle.table_laws.proofs.name_lists.marked_sound.Goals as goal

pub returns : goal.returns
returns c = marked-all

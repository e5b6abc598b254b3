use Rattle.table_laws.proofs.NamedSound.{released-all}
use Rattle.table_laws.proofs.name_lists.released_sound.Goals as goal

pub returns : goal.returns
returns c = released-all

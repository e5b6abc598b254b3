use Rattle.table_laws.proofs.NamedSound.{inserted-all}
use Rattle.table_laws.proofs.name_lists.inserted_sound.Goals as goal

pub returns : goal.returns
returns c = inserted-all

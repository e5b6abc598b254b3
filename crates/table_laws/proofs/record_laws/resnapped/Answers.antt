use Rattle.table_laws.proofs.Recording.{resnapped-among}
use Rattle.table_laws.proofs.record_laws.resnapped.Goals as goal

pub returns : goal.returns
returns c = resnapped-among

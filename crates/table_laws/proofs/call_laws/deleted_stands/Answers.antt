use Rattle.table_laws.proofs.WholeMoves.{deleted-stands}
use Rattle.table_laws.proofs.call_laws.deleted_stands.Goals as goal

pub returns : goal.returns
returns c = λ t after freed state issued above chain parent node name before reach there gives gone. deleted-stands t state issued above chain parent node name before reach there after freed gives gone

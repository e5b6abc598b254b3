-- What a walk through the live tree leads to, as an inode.
use Rattle.std.specs.Prelude.{Ok}
use Rattle.hs_types.specs.Names.{Names}
use Rattle.hs_types.specs.declared.ids.InodeId.{InodeId}
use Rattle.hs_plain.specs.declared.state.Node.{Node}
use Rattle.hs_plain.specs.Asked.{Asked, ◌>>=◌}

-- the id of the node that a walk gives
abbrev pub id_walked : {B : Type 0} → Asked (Node B) → Asked InodeId
id_walked asked = asked >>= λ node. Ok node.id

-- the path that a call names, with the id of the node there
abbrev pub id_asked : {B : Type 0} → Asked (Names × Node B) → Asked (Names × InodeId)
id_asked asked = asked >>= λ at. Ok (at.0, at.1.id)

-- The first table stands for the first state.
use Rattle.std.specs.Prelude.{[], ◌∷◌}
use Rattle.hs_types.specs.declared.name.Spot.{Spot}
use Rattle.hs_plain.specs.declared.state.FileBlocks.{FileBlocks}
use Rattle.hs_plain.specs.State.{start}
use Rattle.inode_table.specs.RowHistory.{RowState, Dir}
use Rattle.inode_table.specs.Stands.{Stands, root_id}
use Rattle.inode_table.specs.Tabled.{Tabled}

abbrev pub first_row : Spot → RowState
first_row spot = record { since = 0; carry = 0; names = 0; rows = Dir (record { marks = record { spot = spot; mode = 493; stamp = 0 }; children = []; records = [] }) }

abbrev pub StartStandsLaw : Type 0
StartStandsLaw = (spot : Spot) → Stands ((root_id, first_row spot) ∷ []) (start {B = FileBlocks}) 0

abbrev pub first_table : Spot → Tabled
first_table spot = record { rows = (root_id, first_row spot) ∷ []; index = []; greatest = 1; waiting = [] }

-- Private: what a row is prepared for.
use Rattle.std.specs.Prelude.{ℕ, Bool, Option, IsTrue}
use Rattle.inode_table.specs.declared.row.Row.{Row}
use Rattle.inode_table.specs.Kept.{IsRowReady}
use Rattle.inode_table.specs.Merged.{IsRowMergeable}

-- for a merge, and where so for three changes with any one cover
pub record IsPreparedRow (changes : Bool) (row : Option Row) : Type 0 where
  pub merge : IsRowMergeable row
  pub changed : IsTrue changes → (cover : ℕ) → IsRowReady 3 cover row

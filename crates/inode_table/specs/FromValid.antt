-- What a valid state gives.
use Rattle.std.specs.Prelude.{◌≡◌}
use Rattle.std.specs.List.{Contains}
use Rattle.hs_plain.specs.declared.state.Member.{Member}
use Rattle.hs_plain.specs.declared.state.State.{State}
use Rattle.hs_plain.specs.declared.state.FileBlocks.{FileBlocks}
use Rattle.hs_plain.specs.Tree.{node_at}
use Rattle.hs_plain.specs.Valid.{IsValid}
use Rattle.inode_table.specs.Reads.{IsNodes, Has}
use Rattle.inode_table.specs.Marks.{RowMarks, IsTop}
use Rattle.inode_table.specs.Stands.{root_id}

pub record GivesNodes (state : State FileBlocks) : Type 0 where
  pub live : IsNodes (node_at state.tree)
  pub copies : (m : Member FileBlocks) → Contains state.members m → IsNodes (node_at m.tree)
  pub dirs : (m : Member FileBlocks) → Contains state.members m → Has (node_at state.tree) m.directory

abbrev pub FromValidLaw : Type 0
FromValidLaw = (state : State FileBlocks) → IsValid state → GivesNodes state

abbrev pub TopLaw : Type 0
TopLaw = (state : State FileBlocks) (marks : RowMarks) → IsValid state → (marks root_id).since ≡ 0 → IsTop state.members marks root_id

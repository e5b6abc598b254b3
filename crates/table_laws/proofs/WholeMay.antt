-- What each call of a table asks.
use Rattle.std.proofs.Common.{◌≡◌, ℕ, Bool, List, Ok}
use Rattle.hs_types.specs.Names.{Names}
use Rattle.hs_types.specs.declared.ids.InodeId.{InodeId}
use Rattle.hs_types.specs.declared.ids.BlockId.{BlockId}
use Rattle.hs_plain.specs.declared.state.Node.{Node}
use Rattle.hs_plain.specs.declared.state.State.{State}
use Rattle.hs_plain.specs.declared.state.FileBlocks.{FileBlocks}
use Rattle.hs_plain.specs.Modifying.{append_at, delete_at, rename_at}
use Rattle.hs_plain.proofs.ValidAsked.{append_there}
use Rattle.snapshot_manager.specs.Snapshots.{Snapshots}
use Rattle.inode_table.specs.declared.change.Change.TheVariants as changes
use Rattle.inode_table.specs.Kept.{CanChange}
use Rattle.inode_table.specs.Reads.{child}
use Rattle.inode_table.specs.Tabled.{Tabled}
use Rattle.inode_table.specs.Whole.{StandsFor}
use Rattle.table_laws.specs.WholeCalls.{way_to}
use Rattle.table_laws.specs.WholeMay.{MayMoveRow}
use Rattle.table_laws.specs.WholeStands.{Reaches, MayRename}
use Rattle.table_laws.proofs.WholeNodes.{can-body}
use Rattle.table_laws.proofs.WholeGone.{can-unlink, delete_there}
use Rattle.table_laws.proofs.WholeRename.{can-out, can-in, can-move, then-there, may-rename}

pub may-append : (t : Tabled) (snaps : Snapshots) (state : State FileBlocks) (text : List ℕ) (path : Names) (chain : List InodeId) (node : Node FileBlocks) (old : FileBlocks) (size : ℕ) (blocks : List BlockId)
    → StandsFor t snaps state → append_at state text ≡ Ok (path, node, old) → Reaches state path chain node → CanChange t.rows node.id (changes.Body size blocks)
may-append t snaps state text path chain node old size blocks before asked reach = can-body t snaps state path chain node before reach old (append_there state text (path, node, old) asked).body size blocks

pub may-delete : (t : Tabled) (snaps : Snapshots) (state : State FileBlocks) (text : List ℕ) (recursive : Bool) (above : Names) (name : List ℕ) (chain : List InodeId) (parent : Node FileBlocks)
    → StandsFor t snaps state → delete_at state text recursive ≡ Ok (child above name) → Reaches state above chain parent → CanChange t.rows parent.id (changes.Remove name)
may-delete t snaps state text recursive above name chain parent before asked reach = let there = delete_there state text recursive (child above name) asked in can-unlink t snaps state above name chain parent there.0 before reach there.1

pub may-move : (t : Tabled) (snaps : Snapshots) (state : State FileBlocks) (old_text new_text : List ℕ) (from to : Names) (old_name new_name : List ℕ) (chain_a chain_b chain_x : List InodeId) (a b x : Node FileBlocks)
    → StandsFor t snaps state → rename_at state old_text new_text ≡ Ok (child from old_name, child to new_name)
    → Reaches state from chain_a a → Reaches state to chain_b b → Reaches state (child from old_name) chain_x x
    → MayMoveRow t state (way_to a chain_a) (way_to b chain_b) (way_to x chain_x) old_name new_name
may-move t snaps state old_text new_text from to old_name new_name chain_a chain_b chain_x a b x before asked reach_a reach_b reach_x = record {
  out = can-out t snaps state from to old_name new_name chain_a chain_b chain_x a b x before may;
  entry = can-in t snaps state from to old_name new_name chain_a chain_b chain_x a b x before may;
  move = can-move t snaps state from to old_name new_name chain_a chain_b chain_x a b x before may;
  row = (then-there t snaps state from to old_name new_name chain_a chain_b chain_x a b x before may).0;
  there = (then-there t snaps state from to old_name new_name chain_a chain_b chain_x a b x before may).1;
}
  where
    may : MayRename state from to old_name new_name chain_a chain_b chain_x a b x
    may = may-rename t snaps state old_text new_text from to old_name new_name chain_a chain_b chain_x a b x before asked reach_a reach_b reach_x

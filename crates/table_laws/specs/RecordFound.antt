-- What is found by the index between two moments: each row that reads otherwise.
use Rattle.std.specs.Prelude.{◌≡◌, ◌⊎◌, ℕ, ◌<◌, ◌≤◌, List, Some}
use Rattle.std.specs.List.{Contains}
use Rattle.hs_types.specs.Names.{Names}
use Rattle.hs_types.specs.declared.ids.InodeId.{InodeId}
use Rattle.hs_plain.specs.declared.state.Member.{Member}
use Rattle.hs_plain.specs.declared.state.Node.{Node}
use Rattle.hs_plain.specs.declared.state.FileBlocks.{FileBlocks}
use Rattle.hs_plain.specs.Tree.{node_at}
use Rattle.inode_table.specs.Indexed.{made_between}
use Rattle.inode_table.specs.Marks.{InCopy}
use Rattle.inode_table.specs.Reads.{Nodes, ReadsAs, Has, child, id_of}
use Rattle.inode_table.specs.RowHistory.{RowHistory, rows_at, shown, node_in, entries_in, spot_in, IsFrozen}
use Rattle.inode_table.specs.Tabled.{Tabled}
use Rattle.inode_table.specs.Whole.{IsFilled}
use Rattle.table_laws.specs.Recording.{IsRecorded}

-- ---- rows

-- a row reads alike at two snapshots; 0 is now
pub record ReadsSame (s t : ℕ) (rows : RowHistory) : Type 0 where
  pub node : (id : InodeId) → node_in id s rows ≡ node_in id t rows
  pub entries : entries_in s rows ≡ entries_in t rows
  pub spot : spot_in s rows ≡ spot_in t rows

-- two live snapshots, the earlier one first
pub record AreTwo (members : List (Member FileBlocks)) (m n : Member FileBlocks) : Type 0 where
  pub first : Contains members m
  pub second : Contains members n
  pub above : 0 < m.snapshot.0
  pub order : m.snapshot.0 ≤ n.snapshot.0

-- a row of the later copied tree reads alike at both, or is found between their ticks
abbrev pub FoundLaw : Type 0
FoundLaw = (t : Tabled) (members : List (Member FileBlocks)) (issued : ℕ) (m n : Member FileBlocks) (id : InodeId) (rows : RowHistory)
    → IsRecorded t members issued → AreTwo members m n → rows_at t.rows id ≡ Some rows → InCopy n id
    → ReadsSame m.snapshot.0 n.snapshot.0 rows ⊎ Contains (made_between m.tick n.tick t.rows t.index) id

-- a row reads alike at a snapshot and now, or is found from the snapshot's tick on
abbrev pub FoundNowLaw : Type 0
FoundNowLaw = (t : Tabled) (members : List (Member FileBlocks)) (issued tick used : ℕ) (m : Member FileBlocks) (id : InodeId) (rows : RowHistory)
    → IsRecorded t members issued → IsFilled t.index tick used → Contains members m → 0 < m.snapshot.0 → rows_at t.rows id ≡ Some rows
    → ReadsSame m.snapshot.0 0 rows ⊎ Contains (made_between m.tick tick t.rows t.index) id

-- ---- inodes

-- an inode of both trees is the same node there, with the same name under the same parent, and with the same child list
pub record SameAt (f g : Nodes FileBlocks) (x : InodeId) : Type 0 where
  pub node : (p q : Names) (a b : Node FileBlocks) → f p ≡ Some a → g q ≡ Some b → a.id ≡ x → b.id ≡ x → a ≡ b
  pub name : (p q : Names) (m n : List ℕ) (c d a b : Node FileBlocks) → f p ≡ Some c → f (child p m) ≡ Some a → g q ≡ Some d → g (child q n) ≡ Some b → a.id ≡ x → b.id ≡ x → (c.id ≡ d.id) × (m ≡ n)
  pub kids : (p q : Names) (a b : Node FileBlocks) (name : List ℕ) → f p ≡ Some a → g q ≡ Some b → a.id ≡ x → b.id ≡ x → id_of (f (child p name)) ≡ id_of (g (child q name))

-- an inode of two copied trees
abbrev pub SameOrFoundLaw : Type 0
SameOrFoundLaw = (t : Tabled) (members : List (Member FileBlocks)) (issued : ℕ) (m n : Member FileBlocks) (x : InodeId)
    → IsRecorded t members issued → IsFrozen t.rows members → AreTwo members m n → InCopy m x → InCopy n x
    → SameAt (node_at m.tree) (node_at n.tree) x ⊎ Contains (made_between m.tick n.tick t.rows t.index) x

-- an inode of a copied tree and of the live one
abbrev pub SameOrFoundNowLaw : Type 0
SameOrFoundNowLaw = (t : Tabled) (members : List (Member FileBlocks)) (issued tick used : ℕ) (m : Member FileBlocks) (top : InodeId) (live : Nodes FileBlocks) (x : InodeId)
    → IsRecorded t members issued → IsFilled t.index tick used → IsFrozen t.rows members → Contains members m → 0 < m.snapshot.0 → ReadsAs (shown t.rows 0) top live → InCopy m x → Has live x
    → SameAt (node_at m.tree) live x ⊎ Contains (made_between m.tick tick t.rows t.index) x

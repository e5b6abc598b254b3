-- The marks of rows, and the cover of a chain.
use Rattle.std.specs.Prelude.{◌≡◌, ◌≢◌, ℕ, ◌+◌, ◌<◌, ◌≤◌, max, nat_lt, if◌then◌else◌, List, [], ◌∷◌, ◌++◌, Some}
use Rattle.std.specs.List.{Contains}
use Rattle.hs_types.specs.Names.{Names}
use Rattle.hs_types.specs.declared.ids.InodeId.{InodeId}
use Rattle.hs_plain.specs.declared.state.Member.{Member}
use Rattle.hs_plain.specs.declared.state.FileBlocks.{FileBlocks}
use Rattle.hs_plain.specs.Tree.{node_at, same_inode}
use Rattle.inode_table.specs.Reads.{Nodes, IsNodes, Has, Child, child, id_of}

pub record Mark : Type 0 where
  pub since : ℕ
  pub carry : ℕ

-- the marks of each row
abbrev pub RowMarks : Type 0
RowMarks = InodeId → Mark

-- the copied tree of a snapshot has the inode
abbrev pub InCopy : {B : Type 0} → Member B → InodeId → Type 0
InCopy member id = Has (node_at member.tree) id

-- what the marks of live rows say of the copied trees of live snapshots; that the marks of all rows are issued is `AreMarksIssued`
pub record AreMarks {B : Type 0} (live : Nodes B) (members : List (Member B)) (marks : RowMarks) (issued : ℕ) : Type 0 where
  -- first part: above `since` a copied tree has a row exactly where it has its parent, or where the row is the snapshot's very directory; and where it has both, they stand so there
  pub down : (p x : InodeId) (m : Member B) → Child live p x → Contains members m → (marks x).since < m.snapshot.0 → InCopy m x → (m.directory ≢ x) → InCopy m p
  pub up : (p x : InodeId) (m : Member B) → Child live p x → Contains members m → (marks x).since < m.snapshot.0 → InCopy m p → InCopy m x × Child (node_at m.tree) p x
  -- second part: up to `since` a live id whose copied tree has the row is at most `carry`
  pub carried : (x : InodeId) (m : Member B) → Has live x → Contains members m → m.snapshot.0 ≤ (marks x).since → InCopy m x → m.snapshot.0 ≤ (marks x).carry
  pub since_issued : (x : InodeId) → Has live x → (marks x).since ≤ issued
  pub carry_issued : (x : InodeId) → Has live x → (marks x).carry ≤ issued

-- ---- cover

-- the greatest live id of a directory, or 0
abbrev pub last_of : {B : Type 0} → List (Member B) → InodeId → ℕ
last_of [] id = 0
last_of (m ∷ ms) id = if same_inode m.directory id then max m.snapshot.0 (last_of ms id) else last_of ms id

-- a number that is above `since` is kept, any other becomes `carry`
abbrev pub marked : Mark → ℕ → ℕ
marked mark n = if nat_lt mark.since n then n else mark.carry

-- the walk from a number on, over these inodes
abbrev pub cover_from : (InodeId → ℕ) → RowMarks → ℕ → List InodeId → ℕ
cover_from last marks n [] = n
cover_from last marks n (x ∷ xs) = cover_from last marks (marked (marks x) (max n (last x))) xs

-- the cover of the last inode of a chain
abbrev pub cover : (InodeId → ℕ) → RowMarks → List InodeId → ℕ
cover last marks chain = cover_from last marks 0 chain

-- the ids right below a place, down to the end of the path
abbrev pub Leads : {B : Type 0} → Nodes B → Names → Names → List InodeId → Type 0
Leads nodes at [] [] = Unit {0}
Leads nodes at [] (x ∷ xs) = ⊥
Leads nodes at (name ∷ below) [] = ⊥
Leads nodes at (name ∷ below) (x ∷ xs) = (id_of (nodes (child at name)) ≡ Some x) × Leads nodes (child at name) below xs

-- the ids from the root down to a path
abbrev pub IsChain : {B : Type 0} → Nodes B → Names → List InodeId → Type 0
IsChain nodes path [] = ⊥
IsChain nodes path (x ∷ xs) = (id_of (nodes []) ≡ Some x) × Leads nodes [] path xs

-- the top is in no copied tree but those of its own snapshots, and its `since` is 0; the ids of snapshots are above 0
pub record IsTop {B : Type 0} (members : List (Member B)) (marks : RowMarks) (top : InodeId) : Type 0 where
  pub own : (m : Member B) → Contains members m → InCopy m top → m.directory ≡ top
  pub above : (m : Member B) → Contains members m → 0 < m.snapshot.0
  pub since : (marks top).since ≡ 0

abbrev pub CoverLaw : Type 0
CoverLaw = (live : Nodes FileBlocks) (members : List (Member FileBlocks)) (marks : RowMarks) (issued : ℕ) (top : InodeId) (path : Names) (chain : List InodeId) (x : InodeId) (m : Member FileBlocks)
    → AreMarks live members marks issued → IsTop members marks top → id_of (live []) ≡ Some top → IsChain live path chain → id_of (live path) ≡ Some x
    → Contains members m → InCopy m x → m.snapshot.0 ≤ cover (last_of members) marks chain

-- a row x is set under a parent, or comes anew; every other keeps its parent and its marks, or goes
pub record Arrives {B : Type 0} (before after : Nodes B) (members : List (Member B)) (old new : RowMarks) (issued : ℕ) (x : InodeId) (carry : ℕ) : Type 0 where
  pub child : (p y : InodeId) → Child after p y → y ≢ x → Child before p y
  pub has : (y : InodeId) → Has after y → y ≢ x → Has before y
  pub other : (y : InodeId) → y ≢ x → new y ≡ old y
  pub here : new x ≡ record { since = issued; carry = carry }
  pub ids_issued : (m : Member B) → Contains members m → m.snapshot.0 ≤ issued
  pub carry_issued : carry ≤ issued
  pub enough : (m : Member B) → Contains members m → InCopy m x → m.snapshot.0 ≤ carry

abbrev pub ArriveLaw : Type 0
ArriveLaw = (before after : Nodes FileBlocks) (members : List (Member FileBlocks)) (old new : RowMarks) (issued : ℕ) (x : InodeId) (carry : ℕ)
    → Arrives before after members old new issued x carry → AreMarks before members old issued → AreMarks after members new issued

-- fewer nodes, each under its parent, and fewer snapshots
abbrev pub FewerLaw : Type 0
FewerLaw = (before after : Nodes FileBlocks) (members fewer : List (Member FileBlocks)) (marks : RowMarks) (issued : ℕ)
    → ((p y : InodeId) → Child after p y → Child before p y) → ((y : InodeId) → Has after y → Has before y) → ((m : Member FileBlocks) → Contains fewer m → Contains members m)
    → AreMarks before members marks issued → AreMarks after fewer marks issued

-- a copy of what is at and below a directory
pub record Copies {B : Type 0} (live : Nodes B) (path : Names) (m : Member B) : Type 0 where
  pub own : id_of (live path) ≡ Some m.directory
  pub copy : (rest : Names) → node_at m.tree rest ≡ live (path ++ rest)

abbrev pub SnapLaw : Type 0
SnapLaw = (live : Nodes FileBlocks) (members : List (Member FileBlocks)) (marks : RowMarks) (issued : ℕ) (path : Names) (m : Member FileBlocks)
    → Copies live path m → m.snapshot.0 ≡ issued + 1 → IsNodes live → AreMarks live members marks issued → AreMarks live (members ++ m ∷ []) marks (issued + 1)

-- The steps of rows, and of the nodes that they are read as.
use Rattle.std.specs.Prelude.{◌≡◌, ◌≢◌, ℕ, List, ◌++◌, Some, None}
use Rattle.hs_types.specs.Names.{Names}
use Rattle.hs_types.specs.declared.ids.InodeId.{InodeId}
use Rattle.hs_plain.specs.declared.state.Node.{Node}
use Rattle.hs_plain.specs.declared.state.FileBlocks.{FileBlocks}
use Rattle.dir_changes.specs.Entries.{with_entry, without_name}
use Rattle.inode_table.specs.Reads.{Shown, Nodes, ReadsAs, IsNodes, Has, child}

-- the rows of these nodes show what they showed
pub record Alike {B : Type 0} (v w : Shown B) (nodes : Nodes B) : Type 0 where
  pub node : (id : InodeId) → Has nodes id → w.node id ≡ v.node id
  pub entries : (id : InodeId) → Has nodes id → w.entries id ≡ v.entries id
  pub spot : (id : InodeId) → Has nodes id → w.spot id ≡ v.spot id

-- one node is another now, with the same id
pub record Touches {B : Type 0} (v w : Shown B) (f g : Nodes B) (p : Names) (old new : Node B) : Type 0 where
  pub was : f p ≡ Some old
  pub same_id : new.id ≡ old.id
  pub here : g p ≡ Some new
  pub there : (q : Names) → q ≢ p → g q ≡ f q
  pub shows : w.node new.id ≡ Some new
  pub node : (id : InodeId) → id ≢ new.id → w.node id ≡ v.node id
  pub entries : (id : InodeId) → w.entries id ≡ v.entries id
  pub spot : (id : InodeId) → w.spot id ≡ v.spot id

-- a child with all below it is there no more
pub record Cuts {B : Type 0} (v w : Shown B) (f g : Nodes B) (above : Names) (name : List ℕ) (parent : Node B) : Type 0 where
  pub was : f above ≡ Some parent
  pub gone : (rest : Names) → g (child above name ++ rest) ≡ None
  pub there : (q : Names) → ((rest : Names) → q ≢ child above name ++ rest) → g q ≡ f q
  pub node : (id : InodeId) → w.node id ≡ v.node id
  pub spot : (id : InodeId) → w.spot id ≡ v.spot id
  pub left : w.entries parent.id ≡ without_name name (v.entries parent.id)
  pub entries : (id : InodeId) → id ≢ parent.id → w.entries id ≡ v.entries id

-- other nodes, read from x, are set under a free name
pub record Grafts {B : Type 0} (v w : Shown B) (f h g : Nodes B) (above : Names) (name : List ℕ) (parent : Node B) (x : InodeId) : Type 0 where
  pub was : f above ≡ Some parent
  pub here : (rest : Names) → g (child above name ++ rest) ≡ h rest
  pub there : (q : Names) → ((rest : Names) → q ≢ child above name ++ rest) → g q ≡ f q
  pub not_below : Has h parent.id → ⊥
  pub new : Has f x → ⊥
  pub node : (id : InodeId) → w.node id ≡ v.node id
  pub entered : w.entries parent.id ≡ with_entry name x (v.entries parent.id)
  pub entries : (id : InodeId) → id ≢ parent.id → w.entries id ≡ v.entries id
  pub placed : w.spot x ≡ Some (record { parent = parent.id; name = name })
  pub spot : (id : InodeId) → id ≢ x → w.spot id ≡ v.spot id

abbrev pub AlikeLaw : Type 0
AlikeLaw = (v w : Shown FileBlocks) (top : InodeId) (f : Nodes FileBlocks) → Alike v w f → ReadsAs v top f → ReadsAs w top f

abbrev pub BelowLaw : Type 0
BelowLaw = (v : Shown FileBlocks) (top : InodeId) (f : Nodes FileBlocks) (p : Names) (n : Node FileBlocks) → f p ≡ Some n → ReadsAs v top f → ReadsAs v n.id (λ rest. f (p ++ rest))

abbrev pub TouchLaw : Type 0
TouchLaw = (v w : Shown FileBlocks) (top : InodeId) (f g : Nodes FileBlocks) (p : Names) (old new : Node FileBlocks) → Touches v w f g p old new → IsNodes f → ReadsAs v top f → ReadsAs w top g

abbrev pub CutLaw : Type 0
CutLaw = (v w : Shown FileBlocks) (top : InodeId) (f g : Nodes FileBlocks) (above : Names) (name : List ℕ) (parent : Node FileBlocks) → Cuts v w f g above name parent → IsNodes f → ReadsAs v top f → ReadsAs w top g

abbrev pub GraftLaw : Type 0
GraftLaw = (v w : Shown FileBlocks) (top x : InodeId) (f h g : Nodes FileBlocks) (above : Names) (name : List ℕ) (parent : Node FileBlocks) → Grafts v w f h g above name parent x
    → IsNodes f → IsNodes h → ReadsAs v top f → ReadsAs v x h → ReadsAs w top g

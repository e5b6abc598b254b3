-- Going from a row to the directories whose current lists name it comes to an end.
use Rattle.std.specs.Prelude.{◌≢◌, ℕ, List}
use Rattle.hs_types.specs.declared.ids.InodeId.{InodeId}
use Rattle.hs_plain.specs.declared.state.FileBlocks.{FileBlocks}
use Rattle.inode_table.specs.Reads.{Shown, Nodes, ReadsAs, IsNodes, Has}
use Rattle.inode_table.specs.Once.{Lists, IsIn, IsOnce}

pub data Ends (lists : Lists) : InodeId → Type 0 where
  ends : (id : InodeId) → ((p : InodeId) (name : List ℕ) → IsIn lists p name id → Ends lists p) → Ends lists id

abbrev pub AllEnd : Lists → Type 0
AllEnd lists = (id : InodeId) → Ends lists id

-- fewer entries
abbrev pub FewerEndLaw : Type 0
FewerEndLaw = (before after : Lists) → ((p : InodeId) (name : List ℕ) (x : InodeId) → IsIn after p name x → IsIn before p name x) → AllEnd before → AllEnd after

-- one entry more, in a directory of the live tree
abbrev pub AddEndLaw : Type 0
AddEndLaw = (v : Shown FileBlocks) (before : Lists) (top dir : InodeId) (f : Nodes FileBlocks) → IsNodes f → ReadsAs v top f → Has f dir → IsOnce v.entries → ((p : InodeId) (name : List ℕ) → IsIn v.entries p name top → ⊥)
    → ((p : InodeId) (name : List ℕ) (x : InodeId) → IsIn v.entries p name x → (p ≢ dir) → IsIn before p name x) → AllEnd before → AllEnd v.entries

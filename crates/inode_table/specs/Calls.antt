-- What whole calls leave of what is read.
use Rattle.std.specs.Prelude.{◌≡◌, ◌≢◌, ℕ, ◌+◌, List, ◌++◌, Some, None, true}
use Rattle.std.specs.FinMap.Entries.{is_sorted}
use Rattle.hs_types.specs.Names.{Names}
use Rattle.hs_types.specs.declared.ids.InodeId.{InodeId}
use Rattle.hs_plain.specs.declared.state.Node.{Node}
use Rattle.hs_plain.specs.declared.state.State.{State}
use Rattle.hs_plain.specs.declared.state.FileBlocks.{FileBlocks}
use Rattle.hs_plain.specs.Tree.{Tree, path_cmp, node_at}
use Rattle.hs_plain.specs.Change.{renamed}
use Rattle.dir_changes.specs.Entries.{Entries, with_entry, without_name}
use Rattle.inode_table.specs.Reads.{Shown, ReadsAs, IsNodes, child}

-- a rename that isn't refused, in the plain tree
pub record MayMove {B : Type 0} (t : Tree B) (from to : Names) (old_name new_name : List ℕ) (a b x : Node B) : Type 0 where
  pub sorted : is_sorted path_cmp t ≡ true
  pub was_from : node_at t from ≡ Some a
  pub was_to : node_at t to ≡ Some b
  pub was : node_at t (child from old_name) ≡ Some x
  pub free : node_at t (child to new_name) ≡ None
  pub outside : (rest : Names) → child to new_name ≢ child from old_name ++ rest

-- and in the current states of the rows; `mid` are the entries after the first of the two
pub record MovesRows {B : Type 0} (v z : Shown B) (mid : InodeId → Entries) (tick : ℕ) (old_name new_name : List ℕ) (a b x : Node B) : Type 0 where
  pub from_stamped : z.node a.id ≡ Some (record a { stamp = tick })
  pub to_stamped : z.node b.id ≡ Some (record b { stamp = tick })
  pub node : (id : InodeId) → id ≢ a.id → id ≢ b.id → z.node id ≡ v.node id
  pub left : mid a.id ≡ without_name old_name (v.entries a.id)
  pub entries_left : (id : InodeId) → id ≢ a.id → mid id ≡ v.entries id
  pub put : z.entries b.id ≡ with_entry new_name x.id (mid b.id)
  pub entries_put : (id : InodeId) → id ≢ b.id → z.entries id ≡ mid id
  pub placed : z.spot x.id ≡ Some (record { parent = b.id; name = new_name })
  pub spot : (id : InodeId) → id ≢ x.id → z.spot id ≡ v.spot id

abbrev pub RenamedLaw : Type 0
RenamedLaw = (state : State FileBlocks) (v z : Shown FileBlocks) (mid : InodeId → Entries) (top : InodeId) (from to : Names) (old_name new_name : List ℕ) (a b x : Node FileBlocks)
    → MayMove state.tree from to old_name new_name a b x → MovesRows v z mid (state.tick + 1) old_name new_name a b x → IsNodes (node_at state.tree) → ReadsAs v top (node_at state.tree)
    → ReadsAs z top (node_at (renamed state (child from old_name, child to new_name)).tree)

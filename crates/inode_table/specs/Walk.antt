-- A walk over rows, and trees as lists of places.
use Rattle.std.specs.Prelude.{◌≡◌, ◌≢◌, ℕ, List, [], ◌∷◌, ◌++◌, Option, Some, None, true}
use Rattle.std.specs.FinMap.Entries.{is_sorted}
use Rattle.hs_types.specs.Names.{Names}
use Rattle.hs_types.specs.declared.ids.InodeId.{InodeId}
use Rattle.hs_plain.specs.declared.state.Node.{Node}
use Rattle.hs_plain.specs.declared.state.FileBlocks.{FileBlocks}
use Rattle.hs_plain.specs.Tree.{Tree, path_cmp, node_at}
use Rattle.hs_plain.specs.Change.{stamped, moved}
use Rattle.dir_changes.specs.Entries.{id_at, with_entry, without_name}
use Rattle.inode_table.specs.Reads.{Shown, Nodes, ReadsAs, IsNodes, child}

abbrev pub and_then : {X Y : Type 0} → Option X → (X → Option Y) → Option Y
and_then None next = None
and_then (Some x) next = next x

-- the node to which names lead from an inode on, by the rows alone
abbrev pub seen_from : {B : Type 0} → Shown B → InodeId → Names → Option (Node B)
seen_from shown id [] = shown.node id
seen_from shown id (name ∷ names) = and_then (id_at name (shown.entries id)) (λ next. seen_from shown next names)

abbrev pub WalkLaw : Type 0
WalkLaw = (v : Shown FileBlocks) (top : InodeId) (f : Nodes FileBlocks) → IsNodes f → ReadsAs v top f → (path : Names) → f path ≡ seen_from v top path

-- at most one tree is read
abbrev pub OneTreeLaw : Type 0
OneTreeLaw = (v : Shown FileBlocks) (top : InodeId) (t u : Tree FileBlocks) → is_sorted path_cmp t ≡ true → is_sorted path_cmp u ≡ true → IsNodes (node_at t) → IsNodes (node_at u)
    → ReadsAs v top (node_at t) → ReadsAs v top (node_at u) → t ≡ u

-- a node x goes from one directory to a free name of another, or of the same
pub record Renames {B : Type 0} (v u w : Shown B) (t : Tree B) (from to : Names) (old_name new_name : List ℕ) (a b x : Node B) : Type 0 where
  pub sorted : is_sorted path_cmp t ≡ true
  pub was_from : node_at t from ≡ Some a
  pub was_to : node_at t to ≡ Some b
  pub was : node_at t (child from old_name) ≡ Some x
  pub free : node_at t (child to new_name) ≡ None
  pub outside : (rest : Names) → child to new_name ≢ child from old_name ++ rest
  -- the entry is taken out
  pub node_left : (id : InodeId) → u.node id ≡ v.node id
  pub spot_left : (id : InodeId) → u.spot id ≡ v.spot id
  pub left : u.entries a.id ≡ without_name old_name (v.entries a.id)
  pub entries_left : (id : InodeId) → id ≢ a.id → u.entries id ≡ v.entries id
  -- the entry is put in, and the row gets its new spot
  pub node_put : (id : InodeId) → w.node id ≡ u.node id
  pub put : w.entries b.id ≡ with_entry new_name x.id (u.entries b.id)
  pub entries_put : (id : InodeId) → id ≢ b.id → w.entries id ≡ u.entries id
  pub placed : w.spot x.id ≡ Some (record { parent = b.id; name = new_name })
  pub spot_put : (id : InodeId) → id ≢ x.id → w.spot id ≡ u.spot id

abbrev pub MoveLaw : Type 0
MoveLaw = (v u w : Shown FileBlocks) (top : InodeId) (t : Tree FileBlocks) (from to : Names) (old_name new_name : List ℕ) (a b x : Node FileBlocks)
    → Renames v u w t from to old_name new_name a b x → IsNodes (node_at t) → ReadsAs v top (node_at t) → ReadsAs w top (node_at (moved t (child from old_name) (child to new_name)))

-- one row gets another mode and stamp
pub record Stamps {B : Type 0} (v w : Shown B) (new : Node B) : Type 0 where
  pub here : w.node new.id ≡ Some new
  pub node : (id : InodeId) → id ≢ new.id → w.node id ≡ v.node id
  pub entries : (id : InodeId) → w.entries id ≡ v.entries id
  pub spot : (id : InodeId) → w.spot id ≡ v.spot id

abbrev pub StampLaw : Type 0
StampLaw = (v w : Shown FileBlocks) (top : InodeId) (t : Tree FileBlocks) (p : Names) (n : Node FileBlocks) (tick : ℕ) → node_at t p ≡ Some n → Stamps v w (record n { stamp = tick })
    → IsNodes (node_at t) → ReadsAs v top (node_at t) → ReadsAs w top (node_at (stamped t p tick))

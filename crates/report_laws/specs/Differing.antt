-- How far the child lists of two trees differ, where a directory stands in both.
use Rattle.std.specs.Prelude.{◌≡◌, ◌⊎◌, ℕ, ◌≤◌, Bool, ◌&&◌, ◌==◌, bytes_eq, List, length, Option, Some}
use Rattle.std.specs.List.{Contains, IsDistinct}
use Rattle.hs_types.specs.Names.{Names}
use Rattle.hs_types.specs.declared.ids.InodeId.{InodeId}
use Rattle.hs_plain.specs.Tree.{Tree, node_at}
use Rattle.inode_table.specs.Reads.{child, id_of}

-- ids by their paths
abbrev pub Ids : Type 0
Ids = Names → Option InodeId

abbrev pub ids_in : {B : Type 0} → Tree B → Ids
ids_in tree path = id_of (node_at tree path)

-- an entry of a child list, with the directory whose list it is
pub record ListEntry : Type 0 where
  pub dir : InodeId
  pub name : List ℕ
  pub id : InodeId

abbrev pub same_entry : ListEntry → ListEntry → Bool
same_entry a b = a.dir.0 == b.dir.0 && (bytes_eq a.name b.name && a.id.0 == b.id.0)

-- an inode stands somewhere
pub record Stands (ids : Ids) (id : InodeId) : Type 0 where
  pub at : Names
  pub is : ids at ≡ Some id

-- a directory has the entry in its list
pub record Lists (ids : Ids) (entry : ListEntry) : Type 0 where
  pub at : Names
  pub above : ids at ≡ Some entry.dir
  pub is : ids (child at entry.name) ≡ Some entry.id

-- an entry that a directory of both trees has in one of its two lists alone
pub record IsOneSided (before after : Ids) (entry : ListEntry) : Type 0 where
  pub in_before : Stands before entry.dir
  pub in_after : Stands after entry.dir
  pub one : Lists before entry ⊎ Lists after entry
  pub not_both : Lists before entry → Lists after entry → ⊥

-- a list of such entries, each once, has at most so many
abbrev pub FewDiffer : Ids → Ids → ℕ → Type 0
FewDiffer before after most = (entries : List ListEntry) → IsDistinct same_entry entries → ((entry : ListEntry) → Contains entries entry → IsOneSided before after entry) → length entries ≤ most

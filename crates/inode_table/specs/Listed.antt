-- The entries of a directory's row are the items of the tree.
use Rattle.std.specs.Prelude.{◌≡◌, map, Some, true, IsTrue}
use Rattle.std.specs.FinMap.Entries.{is_sorted}
use Rattle.hs_types.specs.Names.{Names}
use Rattle.hs_types.specs.declared.ids.InodeId.{InodeId}
use Rattle.hs_types.specs.declared.reply.Item.{Item}
use Rattle.hs_plain.specs.declared.state.Node.{Node}
use Rattle.hs_plain.specs.declared.state.FileBlocks.{FileBlocks}
use Rattle.hs_plain.specs.Tree.{Tree, path_cmp, node_at, listing}
use Rattle.dir_changes.specs.Entries.{Entry, Entries, in_order}
use Rattle.inode_table.specs.Reads.{Shown, ReadsAs}

abbrev pub entry_of : Item → Entry
entry_of item = (item.name, item.id)

abbrev pub listed : {B : Type 0} → Tree B → Names → Entries
listed tree path = map entry_of (listing tree path)

abbrev pub ListedLaw : Type 0
ListedLaw = (v : Shown FileBlocks) (top : InodeId) (t : Tree FileBlocks) (p : Names) (n : Node FileBlocks) → is_sorted path_cmp t ≡ true → ReadsAs v top (node_at t) → node_at t p ≡ Some n
    → IsTrue (in_order (v.entries n.id)) → v.entries n.id ≡ listed t p

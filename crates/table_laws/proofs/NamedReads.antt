-- What the laws of names ask for, from a tree that is read.
use Rattle.std.proofs.Common.{◌≡◌, ℕ, ◌<◌, ◌≤◌, List, [], ◌∷◌, ◌++◌, Option, Some, None, refl, sym, ap, ◌∙◌, arith}
use Rattle.std.specs.Prelude.{◌≢◌}
use Rattle.std.specs.Option.{option_map}
use Rattle.hs_types.specs.Names.{Names}
use Rattle.hs_types.specs.declared.ids.InodeId.{InodeId}
use Rattle.hs_plain.specs.declared.state.Node.{Node}
use Rattle.hs_plain.specs.declared.state.Body.TheVariants as bodies
use Rattle.hs_plain.specs.declared.state.State.{State}
use Rattle.hs_plain.specs.declared.state.FileBlocks.{FileBlocks}
use Rattle.hs_plain.specs.Tree.{node_at}
use Rattle.hs_plain.proofs.ValidShapes.{none_some, same_some}
use Rattle.dir_changes.specs.Entries.{id_at}
use Rattle.inode_table.specs.Reads.{Nodes, ReadsAs, IsNodes, child, id_of}
use Rattle.inode_table.specs.RowHistory.{RowHistory, RowState, File, Dir, Table, row_at, rows_at, shown, node_in, entries_of}
use Rattle.inode_table.specs.Stands.{Stands, root_id}
use Rattle.inode_table.specs.Once.{Lists, IsIn}
use Rattle.inode_table.proofs.Covers.{some_id}
use Rattle.table_laws.specs.Naming.{lists_of, IsLive}
use Rattle.table_laws.specs.NameLists.{HasPlace}

pub entry-there : (table : Table) (top : InodeId) (nodes : Nodes FileBlocks) (path : Names) (name : List ℕ) (parent x : Node FileBlocks)
    → ReadsAs (shown table 0) top nodes → nodes path ≡ Some parent → nodes (child path name) ≡ Some x → IsIn (lists_of table) parent.id name x.id
entry-there table top nodes path name parent x reads at there = reads.entries path parent name at ∙ ap id_of there

pub entry-free : (table : Table) (top : InodeId) (nodes : Nodes FileBlocks) (path : Names) (name : List ℕ) (parent : Node FileBlocks)
    → ReadsAs (shown table 0) top nodes → nodes path ≡ Some parent → parent.body ≡ bodies.Dir → nodes (child path name) ≡ None → HasPlace table parent.id name
entry-free table top nodes path name parent reads at dir free = by (rows_at table parent.id) refl (reads.node path parent at)
  where
    by : (o : Option RowHistory) → rows_at table parent.id ≡ o → option_map (node_in parent.id 0) o ≡ Some parent → HasPlace table parent.id name
    by None e h = absurd (none_some h)
    by (Some (File file)) e h = absurd (file_dir (ap (λ (n : Node FileBlocks). n.body) (same_some h) ∙ dir))
      where
        file_dir : {x : FileBlocks} → bodies.File x ≡ bodies.Dir → ⊥
        file_dir k = cc
    by (Some (Dir d)) e h = record { dir = d; there = e; free = sym (ap (λ (o : Option RowHistory). id_at name (entries_of 0 o)) e) ∙ reads.entries path parent name at ∙ ap id_of free }

pub not-root : (table : Table) (nodes : Nodes FileBlocks) (path : Names) (name : List ℕ) (x : Node FileBlocks) → IsNodes nodes → ReadsAs (shown table 0) root_id nodes → nodes (child path name) ≡ Some x → x.id ≢ root_id
not-root table nodes path name x is reads there same =
    let top = some_id (nodes []) root_id reads.root in
    no_child path (is.once (child path name) [] x top.0 there top.1 (same ∙ sym top.2))
  where
    no_child : (p : Names) → p ++ name ∷ [] ≡ [] → ⊥
    no_child [] e = cc
    no_child (a ∷ p) e = cc

pub no-row : (table : Table) (greatest : ℕ) (id : InodeId) → ((x : InodeId) (row : RowState) → row_at table x ≡ Some row → x.0 ≤ greatest) → greatest < id.0 → row_at table id ≡ None
no-row table greatest id all above = by (row_at table id) refl
  where
    by : (o : Option RowState) → row_at table id ≡ o → o ≡ None
    by None e = refl
    by (Some row) e = let le = all id row e in absurd (omega (arith, le, above))

pub live-dir : (table : Table) (lists : Lists) (state : State FileBlocks) (issued : ℕ) (path : Names) (node : Node FileBlocks) → Stands table state issued → IsNodes (node_at state.tree) → node_at state.tree path ≡ Some node
    → ((dir : InodeId) → lists_of table dir ≡ lists dir) → IsLive lists node.id
live-dir table lists state issued path node stands is at alike = record {
  shown = shown table 0;
  nodes = node_at state.tree;
  alike = alike;
  is = is;
  reads = stands.live;
  has = record { at = path; node = node; is = at; named = refl };
}

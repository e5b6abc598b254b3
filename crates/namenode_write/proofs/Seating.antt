-- A seat is the row of the node at its path, with its cover and its need.
use Rattle.std.proofs.Common.{◌≡◌, List, Option, Some, None, refl, sym, ap, ◌∙◌}
use Rattle.hs_types.specs.Names.{Names}
use Rattle.hs_types.specs.declared.ids.InodeId.{InodeId}
use Rattle.hs_plain.specs.declared.state.Node.{Node}
use Rattle.hs_plain.specs.declared.state.State.{State}
use Rattle.hs_plain.specs.declared.state.FileBlocks.{FileBlocks}
use Rattle.hs_plain.specs.Tree.{node_at}
use Rattle.inode_table.specs.Marks.{IsChain, last_of, cover}
use Rattle.inode_table.specs.Reads.{id_of}
use Rattle.inode_table.specs.RowHistory.{Table, rows_at, marks_of, need}
use Rattle.table_laws.specs.WholeCalls.{last_number_of}
use Rattle.namenode_write.specs.declared.rows.seats.Seat.{Seat}
use Rattle.namenode_write.specs.Seats.{IsSeat}

pub seat-of : (rows : Table) (state : State FileBlocks) (path : Names) (chain : List InodeId) (seat : Seat) → id_of (node_at state.tree path) ≡ Some seat.id → IsChain (node_at state.tree) path chain
    → seat.cover.0 ≡ cover (last_of state.members) (marks_of rows) chain → seat.need.0 ≡ need state.members (last_number_of (rows_at rows seat.id)) seat.cover.0 → IsSeat rows state path seat
seat-of rows state path chain seat there leads covers needs = by (node_at state.tree path) refl
  where
    by : (o : Option (Node FileBlocks)) → node_at state.tree path ≡ o → IsSeat rows state path seat
    by None e = let none = sym (ap id_of e) ∙ there in absurd (cc)
    by (Some n) e =
        let is = sym (ap id_of e) ∙ there in
        let same : seat.id ≡ n.id = cc in
        record {
          chain = chain;
          node = n;
          reaches = record { at = e; leads = leads };
          id = same;
          cover = covers;
          need = needs ∙ ap (λ (i : InodeId). need state.members (last_number_of (rows_at rows i)) seat.cover.0) same
              ∙ ap (λ k. need state.members (last_number_of (rows_at rows n.id)) k) covers;
        }

-- Rows and lists that stay, whatever is named.
use Rattle.std.proofs.Common.{◌≡◌, ℕ, Option, Some, None, is_some, refl, sym, ap, subst, ◌∙◌}
use Rattle.std.specs.Prelude.{◌≢◌}
use Rattle.std.specs.Option.{option_map}
use Rattle.std.specs.FinMap.Entries.{put}
use Rattle.hs_types.specs.declared.ids.InodeId.{InodeId}
use Rattle.inode_table.specs.declared.change.Change.{Change}
use Rattle.inode_table.specs.RowHistory.{RowState, id_order, row_at, rows_at, entries_of}
use Rattle.inode_table.specs.Tabled.{Tabled, changed, put_marks, marked_row}
use Rattle.inode_table.proofs.Reading.{by_id}
use Rattle.table_laws.specs.Naming.{lists_of}
use Rattle.table_laws.proofs.NamedSteps.{changed-there, changed-others}
use Rattle.table_laws.proofs.BlockSteps.{one-put}

pub changed-rows : (t : Tabled) (id : InodeId) (cover tick : ℕ) (what : Change)
    → ((x : InodeId) → is_some (row_at (changed id cover tick what t).rows x) ≡ is_some (row_at t.rows x)) × ((x : InodeId) → x ≢ id → rows_at (changed id cover tick what t).rows x ≡ rows_at t.rows x)
changed-rows t id cover tick what = (changed-there t id cover tick what, changed-others t id cover tick what)

pub mark-lists : (t : Tabled) (id : InodeId) (since carry : ℕ) (dir : InodeId) → lists_of (marked_row id since carry t).rows dir ≡ lists_of t.rows dir
mark-lists t id since carry dir = by (row_at t.rows id) refl
  where
    by : (o : Option RowState) → row_at t.rows id ≡ o → lists_of (put_marks id since carry o t.rows) dir ≡ lists_of t.rows dir
    by None e = refl
    by (Some row) e = let one = one-put t.rows id (record row { since = since; carry = carry }) in by_id dir id
        (λ same. ap (entries_of 0) (subst (λ (d : InodeId). rows_at (put id_order id (record row { since = since; carry = carry }) t.rows) d ≡ rows_at t.rows d) (sym same) (one.here ∙ sym (ap (option_map (λ (r : RowState). r.rows)) e))))
        (λ ne. ap (entries_of 0) (one.there dir ne))

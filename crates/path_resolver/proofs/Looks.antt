-- A step up, by the rows that are looked at.
use Rattle.std.proofs.Common.{◌≡◌, ℕ, Bool, true, false, cond, Option, Some, None, refl, sym, ap, ◌∙◌}
use Rattle.std.specs.Prelude.{is_some}
use Rattle.std.specs.Option.{option_map}
use Rattle.hs_types.specs.declared.ids.InodeId.{InodeId}
use Rattle.hs_types.specs.declared.name.Spot.{Spot}
use Rattle.dir_changes.specs.Entries.{id_at, is_that}
use Rattle.inode_table.specs.declared.row.Row.{Row}
use Rattle.inode_table.specs.Kept.{TableValue, told}
use Rattle.inode_table.specs.Numbered.{row_of, history_of}
use Rattle.inode_table.specs.RowHistory.{shown, spot_in, entries_in, entries_of}
use Rattle.inode_table.specs.Walk.{and_then}
use Rattle.path_resolver.specs.Rising.{spot_above, row_naming}
use Rattle.path_resolver.proofs.ByRows.{rows-told}

module _ (table : TableValue) (s : ℕ) (id : InodeId) where
  -- no row, no step
  pub no-spot : row_of table.rows id ≡ None → spot_above (shown (told table).rows s) id ≡ None
  no-spot none = ap (λ o. and_then o (λ spot. cond (is_that id (id_at spot.name ((shown (told table).rows s).entries spot.parent))) (Some spot) None)) (ap (option_map (spot_in s)) (rows-told table id None none))

  module _ (row : Row) (at : row_of table.rows id ≡ Some row) where
    abbrev spot : Spot
    spot = spot_in s (history_of row.rows)

    naming : (o : Option Row) → is_that id (id_at spot.name (entries_of s (option_map (λ (r : Row). history_of r.rows) o))) ≡ is_some (row_naming s spot id o)
    naming None = refl
    naming (Some above) = elim (is_that id (id_at spot.name (entries_in s (history_of above.rows)))) as (λ b. b ≡ is_some (cond b (Some above) None)) [ true ↦ refl | false ↦ refl ]

    -- a step where the row above names the row
    pub spot-told : spot_above (shown (told table).rows s) id ≡ cond (is_some (row_naming s spot id (row_of table.rows spot.parent))) (Some spot) None
    spot-told =
        ap (λ o. and_then o (λ (p : Spot). cond (is_that id (id_at p.name ((shown (told table).rows s).entries p.parent))) (Some p) None)) (ap (option_map (spot_in s)) (rows-told table id (Some row) at))
        ∙ ap (λ b. cond b (Some spot) None) (ap (λ o. is_that id (id_at spot.name (entries_of s o))) (rows-told table spot.parent (row_of table.rows spot.parent) refl) ∙ naming (row_of table.rows spot.parent))

-- the row above is the row that the spot leads to
pub named-row : (s : ℕ) (spot : Spot) (id : InodeId) (o : Option Row) → is_some (row_naming s spot id o) ≡ true → row_naming s spot id o ≡ o
named-row s spot id None h = refl
named-row s spot id (Some above) h = by (is_that id (id_at spot.name (entries_in s (history_of above.rows)))) h
  where
    by : (b : Bool) → is_some (cond b (Some above) None) ≡ true → cond b (Some above) None ≡ Some above
    by true h = refl
    by false h = absurd (cc)

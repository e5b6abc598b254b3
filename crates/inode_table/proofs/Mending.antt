-- A row is named once more or once less, and the counts are true again.
use Rattle.std.proofs.Common.{◌≡◌, ℕ, ◌+◌, ◌-◌, List, [], ◌∷◌, ◌++◌, Some, set, refl, sym, ap, subst, ◌∙◌, arith}
use Rattle.std.specs.Option.{option_map}
use Rattle.hs_types.specs.declared.ids.InodeId.{InodeId}
use Rattle.inode_table.specs.declared.change.Recount.{Recount}
use Rattle.inode_table.specs.declared.change.Recount.TheVariants as recounts
use Rattle.inode_table.specs.declared.row.Row.{Row}
use Rattle.inode_table.specs.Kept.{rows_in}
use Rattle.inode_table.specs.Numbered.{at_place, with_names}
use Rattle.inode_table.specs.Recounts.{AreOff}
use Rattle.inode_table.specs.Slots.{Slots, table_in, AreCounted, AreListed}
use Rattle.inode_table.specs.Tabled.{recounted}
use Rattle.inode_table.specs.Totals.{weight, records_in, entries_of, block_count, blocks_named}
use Rattle.inode_table.proofs.Placing.{total-one}
use Rattle.inode_table.proofs.Tallying.{Renamed, renamed-at, same-self, sum-renamed, rows-renamed, counted-more, counted-less, listed-more, listed-less}

pub record Mended (before after : Slots) (recount : Recount) : Type 0 where
  pub told : table_in after ≡ recounted recount (table_in before)
  pub counted : AreCounted after []
  pub rows : (x : InodeId) → rows_in (at_place after x) ≡ rows_in (at_place before x)
  pub weighs : weight (table_in after) ≡ weight (table_in before)
  pub blocks : blocks_named (table_in after) ≡ blocks_named (table_in before)

weighs-renamed : (rows after : Slots) (f : ℕ → ℕ) (id : InodeId) (old : Row) → Renamed rows after f id old → weight (table_in after) ≡ weight (table_in rows)
weighs-renamed rows after f id old step =
    let ones = sum-renamed rows after f id old step (λ _. 1) (λ s n. refl) in
    let a = total-one (table_in after) in
    let b = total-one (table_in rows) in
    let records = sum-renamed rows after f id old step (λ s. records_in s.rows) (λ s n. refl) in
    let entries = sum-renamed rows after f id old step (λ s. entries_of s.rows) (λ s n. refl) in
    omega (arith, ones, a, b, records, entries)

module _ (rows after : Slots) (recount : Recount) (id : InodeId) (is : recount ≡ recounts.More id) (off : AreOff rows recount)
    (written : after ≡ set rows id.0 (option_map (with_names (λ n. n + 1)) (at_place rows id))) where
  more_off : AreOff rows (recounts.More id)
  more_off = subst (AreOff rows) is off

  more_old : (row : Row) × (at_place rows id ≡ Some row)
  more_old = let one = same-self id in more_off.target id (omega (arith, one))

  more_step : Renamed rows after (λ n. n + 1) id more_old.0
  more_step = renamed-at rows after (λ n. n + 1) id more_old.0 more_old.1 written

  pub more-mended : Mended rows after recount
  more-mended = record {
    told = more_step.told ∙ ap (λ (r : Recount). recounted r (table_in rows)) (sym is);
    counted = counted-more rows after id more_old.0 more_step more_off;
    rows = rows-renamed rows after (λ n. n + 1) id more_old.0 more_step;
    weighs = weighs-renamed rows after (λ n. n + 1) id more_old.0 more_step;
    blocks = sum-renamed rows after (λ n. n + 1) id more_old.0 more_step (λ s. block_count s.rows) (λ s n. refl);
  }

  pub more-listed : (ids : List InodeId) → AreListed rows ids → AreListed after ids
  more-listed ids are = listed-more rows after id more_old.0 more_step ids are

module _ (rows after : Slots) (recount : Recount) (id : InodeId) (is : recount ≡ recounts.Less id) (off : AreOff rows recount)
    (written : after ≡ set rows id.0 (option_map (with_names (λ n. n - 1)) (at_place rows id))) where
  less_off : AreOff rows (recounts.Less id)
  less_off = subst (AreOff rows) is off

  less_old : (row : Row) × (at_place rows id ≡ Some row)
  less_old = let one = same-self id in less_off.target id (omega (arith, one))

  less_step : Renamed rows after (λ n. n - 1) id less_old.0
  less_step = renamed-at rows after (λ n. n - 1) id less_old.0 less_old.1 written

  pub less-mended : Mended rows after recount
  less-mended = record {
    told = less_step.told ∙ ap (λ (r : Recount). recounted r (table_in rows)) (sym is);
    counted = counted-less rows after id less_old.0 less_step less_off;
    rows = rows-renamed rows after (λ n. n - 1) id less_old.0 less_step;
    weighs = weighs-renamed rows after (λ n. n - 1) id less_old.0 less_step;
    blocks = sum-renamed rows after (λ n. n - 1) id less_old.0 less_step (λ s. block_count s.rows) (λ s n. refl);
  }

  pub less-listed : (ids : List InodeId) → AreListed rows ids → AreListed after (ids ++ id ∷ [])
  less-listed ids are = listed-less rows after id less_old.0 less_step ids are

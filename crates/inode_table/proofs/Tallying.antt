-- What rows count, as a row comes, and as one is changed.
use Rattle.std.proofs.Common.{◌≡◌, ℕ, zero, suc, ◌+◌, ◌-◌, ◌<◌, ◌≤◌, List, [], ◌∷◌, ◌++◌, true, false, Option, Some, None, set, map, length, refl, sym, ap, subst, ◌∙◌, arith}
use Rattle.std.specs.Prelude.{◌≢◌}
use Rattle.std.specs.Option.{option_map}
use Rattle.std.specs.FinMap.Entries.{put}
use Rattle.std.proofs.lemmas.List.Elements.{Contains-append_left, Contains-append_right}
use Rattle.hs_types.specs.declared.ids.InodeId.{InodeId}
use Rattle.hs_plain.proofs.ValidShapes.{none_some, same_some}
use Rattle.dir_changes.specs.Counts.{times, one_where, same_id}
use Rattle.std.proofs.lemmas.Bool.Decides.{nat_tests, Decides-eqb}
use Rattle.inode_table.specs.declared.change.Recount.{Recount}
use Rattle.inode_table.specs.declared.change.Recount.TheVariants as recounts
use Rattle.inode_table.specs.Recounts.{more_of, less_of, AreOff}
use Rattle.inode_table.specs.Tabled.{recounted_row}
use Rattle.inode_table.specs.declared.row.Row.{Row}
use Rattle.inode_table.specs.RowHistory.{RowHistory, RowState, File, Dir, Table, id_order, row_at}
use Rattle.inode_table.specs.Numbered.{state_of, at_place, with_names}
use Rattle.inode_table.specs.Names.{named_in, times_named}
use Rattle.inode_table.specs.Slots.{Slots, table_in, AreCounted, AreListed}
use Rattle.inode_table.specs.Totals.{total, weight, records_in, entries_of, block_count, blocks_named}
use Rattle.inode_table.specs.Kept.{IsBare, rows_in}
use Rattle.inode_table.proofs.Reading.{by_id}
use Rattle.inode_table.proofs.Naming.{put-total}
use Rattle.inode_table.proofs.Placing.{slot-told, sorted-table, table-put, total-new, length-put-new, length-put-old, table-recounted, total-recounted, place-within, place-set-here, place-set-there}

-- what nothing speaks for is 0
is_zero : (n : ℕ) → (0 < n → ⊥) → n ≡ 0
is_zero zero never = refl
is_zero (suc n) never = absurd (never (omega arith))

bare_named : (x : InodeId) (rows : RowHistory) → IsBare rows → times x (named_in rows) ≡ 0
bare_named x (File file) bare = refl
bare_named x (Dir dir) bare = rw (bare.0, bare.1) refl

bare_records : (rows : RowHistory) → IsBare rows → records_in rows ≡ 0
bare_records (File file) bare = rw bare refl
bare_records (Dir dir) bare = rw bare.0 refl

bare_entries : (rows : RowHistory) → IsBare rows → entries_of rows ≡ 0
bare_entries (File file) bare = refl
bare_entries (Dir dir) bare = rw (bare.0, bare.1) refl

-- a row that came where none was
pub record Came (before after : Slots) (id : InodeId) (row : Row) : Type 0 where
  pub free : at_place before id ≡ None
  pub here : at_place after id ≡ Some row
  pub there : (other : InodeId) → other ≢ id → at_place after other ≡ at_place before other
  pub told : table_in after ≡ put id_order id (state_of row) (table_in before)
  pub bare : IsBare (state_of row).rows
  pub unnamed : row.names ≡ 0

module _ (before after : Slots) (id : InodeId) (row : Row) (came : Came before after id row) where
  none : row_at (table_in before) id ≡ None
  none = slot-told before id ∙ ap (option_map state_of) came.free

  sum : (w : RowState → ℕ) → total w (table_in after) ≡ w (state_of row) + total w (table_in before)
  sum w = ap (total w) came.told ∙ total-new w id (state_of row) (table_in before) none

  named : (x : InodeId) → times_named x (table_in after) ≡ times_named x (table_in before)
  named x = let all = sum (λ r. times x (named_in r.rows)) in let new = bare_named x (state_of row).rows came.bare in omega (arith, all, new)

  pub counted-came : AreCounted before [] → AreCounted after []
  counted-came are = record {
    counted = λ x r h. let same = named x in by_id x id
        (λ e. let is : r ≡ row = same_some (sym h ∙ ap (at_place after) e ∙ came.here) in
        let names : r.names ≡ 0 = ap (λ (k : Row). k.names) is ∙ came.unnamed in
        let never : times_named x (table_in before) ≡ 0 = is_zero (times_named x (table_in before)) (λ some.
        let found = are.there x (omega (arith, some)) in none_some (sym came.free ∙ sym (ap (at_place before) e) ∙ found.1)) in omega (arith, same, names, never))
        (λ ne. let old = are.counted x r (sym (came.there x ne) ∙ h) in omega (arith, same, old));
    there = λ x some. let same = named x in by_id x id
        (λ e. (row, ap (at_place after) e ∙ came.here))
        (λ ne. let found = are.there x (omega (arith, same, some)) in (found.0, came.there x ne ∙ found.1));
  }

  pub listed-came : (ids : List InodeId) → AreListed before ids → AreListed after (ids ++ id ∷ [])
  listed-came ids are x r h other none_named = by_id x id
      (λ e. Contains-append_right ids (id ∷ []) x (0, omega arith, sym e))
      (λ ne. Contains-append_left ids (id ∷ []) x (are x r (sym (came.there x ne) ∙ h) other none_named))

  pub weight-came : weight (table_in after) ≡ weight (table_in before) + 1
  weight-came =
      let long = ap length came.told ∙ length-put-new (table_in before) id (state_of row) none in
      let records = sum (λ r. records_in r.rows) in
      let entries = sum (λ r. entries_of r.rows) in
      let no_records = bare_records (state_of row).rows came.bare in
      let no_entries = bare_entries (state_of row).rows came.bare in
      omega (arith, long, records, entries, no_records, no_entries)

  pub blocks-came : blocks_named (table_in after) ≡ block_count (state_of row).rows + blocks_named (table_in before)
  blocks-came = sum (λ r. block_count r.rows)

-- ---- a row is written in place of one, with the same names

pub record Altered (before after : Slots) (id : InodeId) (old new : Row) : Type 0 where
  pub was : at_place before id ≡ Some old
  pub here : at_place after id ≡ Some new
  pub there : (other : InodeId) → other ≢ id → at_place after other ≡ at_place before other
  pub told : table_in after ≡ put id_order id (state_of new) (table_in before)
  pub names : new.names ≡ old.names

pub altered : (rows : Slots) (id : InodeId) (old new : Row) → at_place rows id ≡ Some old → new.names ≡ old.names → Altered rows (set rows id.0 (Some new)) id old new
altered rows id old new was names = record {
  was = was;
  here = place-set-here rows id (Some new) (place-within rows id old was);
  there = λ other apart. place-set-there rows id other (Some new) apart;
  told = table-put rows id new (place-within rows id old was);
  names = names;
}

module _ (before after : Slots) (id : InodeId) (old new : Row) (alter : Altered before after id old new) where
  there_was : row_at (table_in before) id ≡ Some (state_of old)
  there_was = slot-told before id ∙ ap (option_map state_of) alter.was

  pub sum-altered : (w : RowState → ℕ) → total w (table_in after) + w (state_of old) ≡ total w (table_in before) + w (state_of new)
  sum-altered w = subst (λ (t : Table). total w t + w (state_of old) ≡ total w (table_in before) + w (state_of new)) (sym alter.told)
      (put-total w (table_in before) id (state_of old) (state_of new) (sorted-table before) there_was)

  pub length-altered : length (table_in after) ≡ length (table_in before)
  length-altered = ap length alter.told ∙ length-put-old (table_in before) id (state_of old) (state_of new) (sorted-table before) there_was

  pub listed-altered : (ids : List InodeId) → AreListed before ids → AreListed after ids
  listed-altered ids are x r h other none_named = by_id x id
      (λ e. let is : r ≡ new = same_some (sym h ∙ ap (at_place after) e ∙ alter.here) in
      are x old (ap (at_place before) e ∙ alter.was) other (sym alter.names ∙ sym (ap (λ (k : Row). k.names) is) ∙ none_named))
      (λ ne. are x r (sym (alter.there x ne) ∙ h) other none_named)

  -- where its lists name what they named
  module _ (named : (x : InodeId) → times x (named_in (state_of new).rows) ≡ times x (named_in (state_of old).rows)) where
    same_named : (x : InodeId) → times_named x (table_in after) ≡ times_named x (table_in before)
    same_named x = let all = sum-altered (λ r. times x (named_in r.rows)) in let own = named x in omega (arith, all, own)

    pub counted-altered : (more : List InodeId) → AreCounted before more → AreCounted after more
    counted-altered more are = record {
      counted = λ x r h. let same = same_named x in by_id x id
          (λ e. let is : r ≡ new = same_some (sym h ∙ ap (at_place after) e ∙ alter.here) in
          let names : r.names ≡ old.names = ap (λ (k : Row). k.names) is ∙ alter.names in
          let kept = are.counted x old (ap (at_place before) e ∙ alter.was) in omega (arith, same, names, kept))
          (λ ne. let kept = are.counted x r (sym (alter.there x ne) ∙ h) in omega (arith, same, kept));
      there = λ x some. let same = same_named x in let found = are.there x (omega (arith, same, some)) in by_id x id
          (λ e. (new, ap (at_place after) e ∙ alter.here))
          (λ ne. (found.0, alter.there x ne ∙ found.1));
    }

-- ---- where its states are what they were

module _ (before after : Slots) (id : InodeId) (old new : Row) (alter : Altered before after id old new) (same : (state_of new).rows ≡ (state_of old).rows) where
  pub weight-same : weight (table_in after) ≡ weight (table_in before)
  weight-same =
      let long = length-altered before after id old new alter in
      let records = sum-altered before after id old new alter (λ r. records_in r.rows) in
      let entries = sum-altered before after id old new alter (λ r. entries_of r.rows) in
      let same_records = ap records_in same in
      let same_entries = ap entries_of same in
      omega (arith, long, records, entries, same_records, same_entries)

  pub blocks-same : blocks_named (table_in after) ≡ blocks_named (table_in before)
  blocks-same = let all = sum-altered before after id old new alter (λ r. block_count r.rows) in let own = ap block_count same in omega (arith, all, own)

  pub counted-same : (more : List InodeId) → AreCounted before more → AreCounted after more
  counted-same more are = counted-altered before after id old new alter (λ x. ap (λ rows. times x (named_in rows)) same) more are

-- ---- where its lists name otherwise

by_zero : {P : Type 0} (n : ℕ) → (n ≡ 0 → P) → (0 < n → P) → P
by_zero zero none some = none refl
by_zero (suc n) none some = some (omega arith)

module _ (before after : Slots) (id : InodeId) (old new : Row) (alter : Altered before after id old new) (recount : Recount)
    (named : (x : InodeId) → times x (named_in (state_of new).rows) + less_of recount x ≡ times x (named_in (state_of old).rows) + more_of recount x)
    (target : (x : InodeId) → 0 < more_of recount x → (row : Row) × (at_place before x ≡ Some row)) (are : AreCounted before []) where
  now : (x : InodeId) → times_named x (table_in after) + less_of recount x ≡ times_named x (table_in before) + more_of recount x
  now x = let all = sum-altered before after id old new alter (λ r. times x (named_in r.rows)) in let own = named x in omega (arith, all, own)

  still : (x : InodeId) → (row : Row) × (at_place before x ≡ Some row) → (row : Row) × (at_place after x ≡ Some row)
  still x found = by_id x id (λ e. (new, ap (at_place after) e ∙ alter.here)) (λ ne. (found.0, alter.there x ne ∙ found.1))

  pub off-altered : AreOff after recount
  off-altered = record {
    counted = λ x r h. let step = now x in by_id x id
        (λ e. let is : r ≡ new = same_some (sym h ∙ ap (at_place after) e ∙ alter.here) in
        let names : r.names ≡ old.names = ap (λ (k : Row). k.names) is ∙ alter.names in
        let kept = are.counted x old (ap (at_place before) e ∙ alter.was) in omega (arith, step, names, kept))
        (λ ne. let kept = are.counted x r (sym (alter.there x ne) ∙ h) in omega (arith, step, kept));
    there = λ x some. let step = now x in still x (by_zero (times_named x (table_in before))
        (λ none. target x (omega (arith, step, none, some)))
        (λ was. are.there x (omega (arith, was))));
    target = λ x some. let step = now x in still x (by_zero (times_named x (table_in before))
        (λ none. target x (omega (arith, step, none, some)))
        (λ was. are.there x (omega (arith, was))));
  }

-- ---- a row is named otherwise

pub record Renamed (before after : Slots) (f : ℕ → ℕ) (id : InodeId) (old : Row) : Type 0 where
  pub was : at_place before id ≡ Some old
  pub here : at_place after id ≡ Some (with_names f old)
  pub there : (other : InodeId) → other ≢ id → at_place after other ≡ at_place before other
  pub told : table_in after ≡ map (recounted_row f id) (table_in before)

pub renamed-at : (rows after : Slots) (f : ℕ → ℕ) (id : InodeId) (old : Row) → at_place rows id ≡ Some old → after ≡ set rows id.0 (option_map (with_names f) (at_place rows id)) → Renamed rows after f id old
renamed-at rows after f id old was is =
    let now : after ≡ set rows id.0 (Some (with_names f old)) = is ∙ ap (λ (o : Option Row). set rows id.0 (option_map (with_names f) o)) was in
    subst (λ (xs : Slots). Renamed rows xs f id old) (sym now) (record {
      was = was;
      here = place-set-here rows id (Some (with_names f old)) (place-within rows id old was);
      there = λ other apart. place-set-there rows id other (Some (with_names f old)) apart;
      told = ap (λ (o : Option Row). table_in (set rows id.0 (option_map (with_names f) o))) (sym was) ∙ table-recounted f rows id;
    })

pub same-self : (id : InodeId) → one_where (same_id id id) ≡ 1
same-self id = grind (arith, nat_tests)

same_other : (id x : InodeId) → x ≢ id → one_where (same_id id x) ≡ 0
same_other id x apart = elim (same_id id x) as (λ b. same_id id x ≡ b → one_where b ≡ 0) [
  | true ↦ λ t. absurd (apart (ap (λ (n : ℕ). record { 0 = n }) (sym ((Decides-eqb id.0 x.0).0 t))))
  | false ↦ λ t. refl
] refl

module _ (before after : Slots) (f : ℕ → ℕ) (id : InodeId) (old : Row) (step : Renamed before after f id old) where
  pub sum-renamed : (w : RowState → ℕ) → ((row : RowState) (n : ℕ) → w (record row { names = n }) ≡ w row) → total w (table_in after) ≡ total w (table_in before)
  sum-renamed w blind = ap (total w) step.told ∙ total-recounted f w blind id (table_in before)

  pub rows-renamed : (x : InodeId) → rows_in (at_place after x) ≡ rows_in (at_place before x)
  rows-renamed x = by_id x id
      (λ e. ap rows_in (ap (at_place after) e ∙ step.here) ∙ sym (ap rows_in (ap (at_place before) e ∙ step.was)))
      (λ ne. ap rows_in (step.there x ne))

  -- the count that was off is mended
  pub counted-renamed : (recount : Recount) → AreOff before recount → f old.names + less_of recount id ≡ old.names + more_of recount id
      → ((x : InodeId) → x ≢ id → (more_of recount x ≡ 0) × (less_of recount x ≡ 0)) → less_of recount id ≤ old.names + more_of recount id → AreCounted after []
  counted-renamed recount off here apart fits = record {
    counted = λ x r h. let same = sum-renamed (λ s. times x (named_in s.rows)) (λ s n. refl) in by_id x id
        (λ e. let is : r ≡ with_names f old = same_some (sym h ∙ ap (at_place after) e ∙ step.here) in
        let names : r.names ≡ f old.names = ap (λ (k : Row). k.names) is in
        let was = off.counted x old (ap (at_place before) e ∙ step.was) in
        let more = ap (more_of recount) e in
        let less = ap (less_of recount) e in omega (arith, same, names, was, here, more, less))
        (λ ne. let was = off.counted x r (sym (step.there x ne) ∙ h) in let a = apart x ne in omega (arith, same, was, a.0, a.1));
    there = λ x some. let same = sum-renamed (λ s. times x (named_in s.rows)) (λ s n. refl) in let found = off.there x (omega (arith, same, some)) in by_id x id
        (λ e. (with_names f old, ap (at_place after) e ∙ step.here))
        (λ ne. (found.0, step.there x ne ∙ found.1));
  }

pub counted-more : (before after : Slots) (id : InodeId) (old : Row) → Renamed before after (λ n. n + 1) id old → AreOff before (recounts.More id) → AreCounted after []
counted-more before after id old step off =
    let one = same-self id in
    counted-renamed before after (λ n. n + 1) id old step (recounts.More id) off (omega (arith, one)) (λ x ne. (same_other id x ne, refl)) (omega arith)

pub counted-less : (before after : Slots) (id : InodeId) (old : Row) → Renamed before after (λ n. n - 1) id old → AreOff before (recounts.Less id) → AreCounted after []
counted-less before after id old step off =
    let one = same-self id in
    let was = off.counted id old step.was in
    counted-renamed before after (λ n. n - 1) id old step (recounts.Less id) off (omega (arith, one, was)) (λ x ne. (refl, same_other id x ne)) (omega (arith, one, was))

pub listed-more : (before after : Slots) (id : InodeId) (old : Row) → Renamed before after (λ n. n + 1) id old → (ids : List InodeId) → AreListed before ids → AreListed after ids
listed-more before after id old step ids are x r h other none = by_id x id
    (λ e. let is : r ≡ with_names (λ n. n + 1) old = same_some (sym h ∙ ap (at_place after) e ∙ step.here) in let names = ap (λ (k : Row). k.names) is in absurd (omega (arith, names, none)))
    (λ ne. are x r (sym (step.there x ne) ∙ h) other none)

pub listed-less : (before after : Slots) (id : InodeId) (old : Row) → Renamed before after (λ n. n - 1) id old → (ids : List InodeId) → AreListed before ids → AreListed after (ids ++ id ∷ [])
listed-less before after id old step ids are x r h other none = by_id x id
    (λ e. Contains-append_right ids (id ∷ []) x (0, omega arith, sym e))
    (λ ne. Contains-append_left ids (id ∷ []) x (are x r (sym (step.there x ne) ∙ h) other none))

pub counted-even : (rows : Slots) → AreOff rows recounts.Same → AreCounted rows []
counted-even rows off = record {
  counted = λ x r h. let was = off.counted x r h in omega (arith, was);
  there = λ x some. off.there x (omega (arith, some));
}

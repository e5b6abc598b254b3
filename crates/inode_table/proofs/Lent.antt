-- A file's list of blocks, taken out of its row and put back.
use Rattle.std.proofs.Common.{◌≡◌, ℕ, zero, suc, ◌+◌, ◌-◌, ◌<◌, ◌≤◌, Bool, true, false, cond, nat_lt, List, [], ◌∷◌, Option, Some, None, length, slice_get, set, refl, sym, ap, subst, ◌∙◌, arith}
use Rattle.std.specs.Prelude.{◌≢◌}
use Rattle.std.specs.Option.{option_map}
use Rattle.std.specs.declared.cmp.Ordering.TheVariants.{Less, Equal, Greater}
use Rattle.std.specs.FinMap.Entries.{put, by_order}
use Rattle.std.proofs.lemmas.Bool.Decides.{nat_tests}
use Rattle.hs_types.specs.declared.ids.InodeId.{InodeId}
use Rattle.hs_types.specs.declared.ids.BlockId.{BlockId}
use Rattle.hs_plain.proofs.ValidShapes.{none_some, same_some, true_false}
use Rattle.file_changes.specs.History as files
use Rattle.dir_changes.specs.Counts.{times, one_where}
use Rattle.inode_table.specs.declared.change.Change.{Change}
use Rattle.inode_table.specs.declared.change.Change.TheVariants as changes
use Rattle.inode_table.specs.declared.change.Recount.TheVariants as recounts
use Rattle.inode_table.specs.declared.row.Row.{Row}
use Rattle.inode_table.specs.declared.row.Rows.{Rows}
use Rattle.inode_table.specs.declared.row.Rows.TheVariants as kinds
use Rattle.inode_table.specs.Ahead.{ChangeFits}
use Rattle.inode_table.specs.Indexed.{noted}
use Rattle.inode_table.specs.Kept.{TableValue, told, CanChange, FitsRows, IsReady, IsRowReady, blocks_more, blocks_grown}
use Rattle.inode_table.specs.Lent.{rows_with, row_with, put_with, with_blocks, given_in, given_for, current_blocks, LendsRoom, IsLent}
use Rattle.inode_table.specs.Names.{named_in}
use Rattle.inode_table.specs.Numbered.{at_place, flat, history_of, row_of, state_of}
use Rattle.inode_table.specs.RowHistory.{RowHistory, RowState, File, Dir, Table, id_order, row_at, rows_at, last_in}
use Rattle.inode_table.specs.Slots.{Slots, table_in, is_named, named_rows, AreCounted, AreListed}
use Rattle.inode_table.specs.Tabled.{Tabled, starts, starts_in, begun_rows, edited_file, changed_rows, changed_row, changed, with_changed, put_changed, recount_in, recount_of, recounted}
use Rattle.inode_table.specs.Totals.{weight, records_in, entries_of, block_count, blocks_named}
use Rattle.inode_table.specs.Whole.{AreInOrder}
use Rattle.inode_table.proofs.Altering.{file-blocks}
use Rattle.inode_table.proofs.Combining.{put-here}
use Rattle.inode_table.proofs.Naming.{put-same, put-total}
use Rattle.inode_table.proofs.Places.{named-set}
use Rattle.inode_table.proofs.Placing.{slot-told, told_slot, length-put-old}
use Rattle.inode_table.proofs.Tallying.{Altered, altered, sum-altered, length-altered, listed-altered, counted-altered}
use Rattle.inode_table.proofs.Telling.{row-told}

not_less : (a b : ℕ) → nat_lt a b ≡ false → a < b → ⊥
not_less a b not_lt lt = grind (arith, nat_tests, not_lt, lt)

abbrev is_file_row : RowHistory → Bool
is_file_row (File file) = true
is_file_row (Dir dir) = false

-- ---- one row

with_records : (blocks : List BlockId) (rows : RowHistory) → records_in (rows_with blocks rows) ≡ records_in rows
with_records blocks (File file) = refl
with_records blocks (Dir dir) = refl

with_entries : (blocks : List BlockId) (rows : RowHistory) → entries_of (rows_with blocks rows) ≡ entries_of rows
with_entries blocks (File file) = refl
with_entries blocks (Dir dir) = refl

with_named : (blocks : List BlockId) (rows : RowHistory) → named_in (rows_with blocks rows) ≡ named_in rows
with_named blocks (File file) = refl
with_named blocks (Dir dir) = refl

-- what comes back is what is counted no more
with_count : (blocks : List BlockId) (rows : RowHistory) → block_count (rows_with blocks rows) + length (given_in blocks rows) ≡ block_count rows + length blocks
with_count blocks (File file) = omega arith
with_count blocks (Dir dir) = refl

pub given-current : (o : Option RowState) → given_for [] o ≡ current_blocks (option_map (λ (r : RowState). r.rows) o)
given-current None = refl
given-current (Some row) = by row.rows
  where
    by : (rows : RowHistory) → given_in [] rows ≡ current_blocks (Some rows)
    by (File file) = refl
    by (Dir dir) = refl

-- ---- the row at its place

set_none : (rows : Slots) (i : ℕ) → flat (slice_get rows i) ≡ None → set rows i None ≡ rows
set_none [] i h = refl
set_none (None ∷ rows) zero h = refl
set_none (Some row ∷ rows) zero h = absurd (none_some (sym h))
set_none (slot ∷ rows) (suc i) h = ap (λ (rest : Slots). slot ∷ rest) (set_none rows i h)

-- what an exchange of lists leaves
pub record Relisted (rows after : Slots) (id : InodeId) (blocks given : List BlockId) : Type 0 where
  pub counted : AreCounted rows [] → AreCounted after []
  pub listed : (ids : List InodeId) → AreListed rows ids → AreListed after ids
  pub named : named_rows after ≡ named_rows rows
  pub count : blocks_named (table_in after) + length given ≡ blocks_named (table_in rows) + length blocks
  pub weighs : weight (table_in after) ≡ weight (table_in rows)
  pub told : table_in after ≡ put_with id blocks (row_at (table_in rows) id) (table_in rows)
  pub there : (other : InodeId) → other ≢ id → at_place after other ≡ at_place rows other

module _ (rows after : Slots) (id : InodeId) (blocks given : List BlockId) (written : after ≡ set rows id.0 (at_place after id))
    (state : option_map state_of (at_place after id) ≡ option_map (row_with blocks) (option_map state_of (at_place rows id)))
    (is : given ≡ given_for blocks (option_map state_of (at_place rows id))) where
  no_row : at_place rows id ≡ None → Relisted rows after id blocks given
  no_row none =
      let same : after ≡ rows = written ∙ ap (λ (o : Option Row). set rows id.0 o) (empty (at_place after id) (state ∙ ap (λ (o : Option Row). option_map (row_with blocks) (option_map state_of o)) none)) ∙ set_none rows id.0 none in
      let back : given ≡ blocks = is ∙ ap (λ (o : Option Row). given_for blocks (option_map state_of o)) none in
      record {
        counted = λ are. subst (λ (xs : Slots). AreCounted xs []) (sym same) are;
        listed = λ ids are. subst (λ (xs : Slots). AreListed xs ids) (sym same) are;
        named = ap named_rows same;
        count = let table = ap (λ (xs : Slots). blocks_named (table_in xs)) same in let long = ap length back in omega (arith, table, long);
        weighs = ap (λ (xs : Slots). weight (table_in xs)) same;
        told = ap table_in same ∙ sym (ap (λ (o : Option RowState). put_with id blocks o (table_in rows)) (slot-told rows id ∙ ap (option_map state_of) none));
        there = λ other apart. ap (λ (xs : Slots). at_place xs other) same;
      }
    where
      empty : (o : Option Row) → option_map state_of o ≡ None → o ≡ None
      empty None h = refl
      empty (Some row) h = absurd (none_some (sym h))

  a_row : (old : Row) → at_place rows id ≡ Some old → Relisted rows after id blocks given
  a_row old was =
      let new = told_slot (at_place after id) (row_with blocks (state_of old)) (state ∙ ap (λ (o : Option Row). option_map (row_with blocks) (option_map state_of o)) was) in
      let names : new.0.names ≡ old.names = ap (λ (s : RowState). s.names) new.2 in
      let now : after ≡ set rows id.0 (Some new.0) = written ∙ ap (λ (o : Option Row). set rows id.0 o) new.1 in
      let alter : Altered rows after id old new.0 = subst (λ (xs : Slots). Altered rows xs id old new.0) (sym now) (altered rows id old new.0 was names) in
      let next : (state_of new.0).rows ≡ rows_with blocks (state_of old).rows = ap (λ (s : RowState). s.rows) new.2 in
      record {
        counted = counted-altered rows after id old new.0 alter (λ x. ap (λ (r : RowHistory). times x (named_in r)) next ∙ ap (times x) (with_named blocks (state_of old).rows)) [];
        listed = listed-altered rows after id old new.0 alter;
        named = ap named_rows now ∙ named-set rows id.0 (Some new.0) (ap (λ (n : ℕ). one_where (nat_lt 0 n)) names ∙ sym (ap is_named was));
        count =
            let sum = sum-altered rows after id old new.0 alter (λ r. block_count r.rows) in
            let own = ap block_count next in
            let count = with_count blocks (state_of old).rows in
            let long = ap length (is ∙ ap (λ (o : Option Row). given_for blocks (option_map state_of o)) was) in
            omega (arith, sum, own, count, long);
        weighs =
            let long = length-altered rows after id old new.0 alter in
            let records = sum-altered rows after id old new.0 alter (λ r. records_in r.rows) in
            let entries = sum-altered rows after id old new.0 alter (λ r. entries_of r.rows) in
            let same_records = ap records_in next ∙ with_records blocks (state_of old).rows in
            let same_entries = ap entries_of next ∙ with_entries blocks (state_of old).rows in
            omega (arith, long, records, entries, same_records, same_entries);
        told = alter.told ∙ ap (λ (s : RowState). put id_order id s (table_in rows)) new.2
            ∙ sym (ap (λ (o : Option RowState). put_with id blocks o (table_in rows)) (slot-told rows id ∙ ap (option_map state_of) was));
        there = alter.there;
      }

  pub relisted : Relisted rows after id blocks given
  relisted = by (at_place rows id) refl
    where
      by : (o : Option Row) → at_place rows id ≡ o → Relisted rows after id blocks given
      by None e = no_row e
      by (Some old) e = a_row old e

-- ---- room

pub lends-room : (slots slots_after index stack_capacity unnamed rows rows_after waiting_capacity waiting blocks lent : ℕ) → rows_after ≡ rows → slots_after ≡ slots → lent ≤ blocks
    → LendsRoom lent (record { slots = slots - rows; index = index; stack = stack_capacity - (unnamed + rows); blocks = waiting_capacity + 1 - (waiting + blocks) })
    (record { slots = slots_after - rows_after; index = index; stack = stack_capacity - (unnamed + rows_after); blocks = waiting_capacity + 1 - (waiting + (blocks - lent)) })
lends-room slots slots_after index stack_capacity unnamed rows rows_after waiting_capacity waiting blocks lent same capacity le = record {
  slots = omega (arith, same, capacity);
  index = refl;
  stack = ap (λ n. stack_capacity - (unnamed + n)) same;
  blocks = λ some. omega (arith, some, le);
}

-- ---- tables

tied_here : (id : InodeId) → id_order id id ≡ Equal
tied_here id = grind (arith, nat_tests)

-- a row is written twice
put_again : (id : InodeId) (v w : RowState) (t : Table) → put id_order id v (put id_order id w t) ≡ put id_order id v t
put_again id v w [] = ap (λ o. by_order o ((id, v) ∷ (id, w) ∷ []) ((id, v) ∷ []) ((id, w) ∷ (id, v) ∷ [])) (tied_here id)
put_again id v w (e ∷ es) = elim (id_order id e.0) as (λ o. id_order id e.0 ≡ o → put id_order id v (by_order o ((id, w) ∷ e ∷ es) ((e.0, w) ∷ es) (e ∷ put id_order id w es)) ≡ by_order o ((id, v) ∷ e ∷ es) ((e.0, v) ∷ es) (e ∷ put id_order id v es)) [
  | Less ↦ λ h. ap (λ o. by_order o ((id, v) ∷ (id, w) ∷ e ∷ es) ((id, v) ∷ e ∷ es) ((id, w) ∷ put id_order id v (e ∷ es))) (tied_here id)
  | Equal ↦ λ h. ap (λ o. by_order o ((id, v) ∷ (e.0, w) ∷ es) ((e.0, v) ∷ es) ((e.0, w) ∷ put id_order id v es)) h
  | Greater ↦ λ h. ap (λ o. by_order o ((id, v) ∷ e ∷ put id_order id w es) ((e.0, v) ∷ put id_order id w es) (e ∷ put id_order id v (put id_order id w es))) h ∙ ap (λ (rest : Table). e ∷ rest) (put_again id v w es)
] refl

with_own : (blocks : List BlockId) (rows : RowHistory) → rows_with (current_blocks (Some rows)) (rows_with blocks rows) ≡ rows
with_own blocks (File file) = refl
with_own blocks (Dir dir) = refl

pub lent-back : (t : Tabled) (id : InodeId) → AreInOrder t.rows → with_blocks id (current_blocks (rows_at t.rows id)) (with_blocks id [] t) ≡ t
lent-back t id order = ap (λ (table : Table). record t { rows = table }) (by (row_at t.rows id) refl)
  where
    by : (o : Option RowState) → row_at t.rows id ≡ o
        → put_with id (current_blocks (option_map (λ (r : RowState). r.rows) o)) (row_at (put_with id [] o t.rows) id) (put_with id [] o t.rows) ≡ t.rows
    by None e = ap (λ (o : Option RowState). put_with id [] o t.rows) e
    by (Some row) e =
        ap (λ (o : Option RowState). put_with id (current_blocks (Some row.rows)) o (put id_order id (row_with [] row) t.rows)) (put-here id (row_with [] row) t.rows)
        ∙ put_again id (row_with (current_blocks (Some row.rows)) (row_with [] row)) (row_with [] row) t.rows
        ∙ ap (λ (rows : RowHistory). put id_order id (record row { rows = rows }) t.rows) (with_own [] row.rows)
        ∙ put-same t.rows id row order e

-- ---- a change of the body

-- where no record is started, a body takes the place of any
body_over : (cover tick size : ℕ) (blocks lent : List BlockId) (rows : RowHistory) → starts cover rows ≡ false
    → changed_rows cover tick (changes.Body size blocks) (rows_with lent rows) ≡ changed_rows cover tick (changes.Body size blocks) rows
body_over cover tick size blocks lent (File file) none =
    ap (λ b. File (edited_file tick (changes.Body size blocks) (cond b (files.saved (record { 0 = cover }) (record file { current = record file.current { blocks = lent } })) (record file { current = record file.current { blocks = lent } })))) none
    ∙ sym (ap (λ b. File (edited_file tick (changes.Body size blocks) (cond b (files.saved (record { 0 = cover }) file) file))) none)
body_over cover tick size blocks lent (Dir dir) none = refl

with_last : (blocks : List BlockId) (rows : RowHistory) → last_in (rows_with blocks rows) ≡ last_in rows
with_last blocks (File file) = refl
with_last blocks (Dir dir) = refl

-- a body names no inode
body_recount : (cover size : ℕ) (blocks : List BlockId) (o : Option RowState) → recount_in cover (changes.Body size blocks) o ≡ recounts.Same
body_recount cover size blocks None = refl
body_recount cover size blocks (Some row) = by row.rows
  where
    by : (rows : RowHistory) → recount_of (changes.Body size blocks) (begun_rows cover rows) ≡ recounts.Same
    by (File file) = refl
    by (Dir dir) = refl

pub lent-changed : (t : Tabled) (id : InodeId) (cover tick size : ℕ) (blocks : List BlockId) → starts_in cover (row_at t.rows id) ≡ false
    → changed id cover tick (changes.Body size blocks) (with_blocks id [] t) ≡ changed id cover tick (changes.Body size blocks) t
lent-changed t id cover tick size blocks none = by (row_at t.rows id) refl
  where
    what : Change
    what = changes.Body size blocks

    plain : (table : Table) → recounted (recount_in cover what (row_at table id)) (with_changed id cover tick what table) ≡ with_changed id cover tick what table
    plain table = ap (λ r. recounted r (with_changed id cover tick what table)) (body_recount cover size blocks (row_at table id))

    by : (o : Option RowState) → row_at t.rows id ≡ o → changed id cover tick what (record t { rows = put_with id [] o t.rows }) ≡ changed id cover tick what t
    by None e = refl
    by (Some row) e =
        let lent = put id_order id (row_with [] row) t.rows in
        let no_start : starts cover row.rows ≡ false = sym (ap (starts_in cover) e) ∙ none in
        let now : with_changed id cover tick what lent ≡ with_changed id cover tick what t.rows
        = ap (λ (o : Option RowState). put_changed id cover tick what o lent) (put-here id (row_with [] row) t.rows)
        ∙ put_again id (changed_row cover tick what (row_with [] row)) (row_with [] row) t.rows
        ∙ ap (λ (rows : RowHistory). put id_order id (record row { rows = rows }) t.rows) (body_over cover tick size blocks [] row.rows no_start)
        ∙ sym (ap (λ (o : Option RowState). put_changed id cover tick what o t.rows) e) in
        let rows = plain lent ∙ now ∙ sym (plain t.rows) in
        let lent_start : starts_in cover (row_at lent id) ≡ false = ap (starts_in cover) (put-here id (row_with [] row) t.rows) ∙ ap (λ n. nat_lt n cover) (with_last [] row.rows) ∙ no_start in
        let index = ap (λ b. cond b (noted tick id t.index) t.index) (lent_start ∙ sym none) in
        λ i. record t { rows = rows i; index = index i }

with_body : (size : ℕ) (blocks lent : List BlockId) (rows : RowHistory) → FitsRows (changes.Body size blocks) rows → FitsRows (changes.Body size blocks) (rows_with lent rows)
with_body size blocks lent (File file) fits = tt
with_body size blocks lent (Dir dir) fits = fits

pub lent-can : (t : Tabled) (id : InodeId) (size : ℕ) (blocks : List BlockId) → CanChange t.rows id (changes.Body size blocks) → CanChange (with_blocks id [] t).rows id (changes.Body size blocks)
lent-can t id size blocks can = record {
  row = row_with [] can.row;
  there = ap (λ (o : Option RowState). row_at (put_with id [] o t.rows) id) can.there ∙ put-here id (row_with [] can.row) t.rows;
  fits = with_body size blocks [] can.row.rows can.fits;
  entry = tt;
}

pub lent-weight : (t : Tabled) (id : InodeId) (blocks : List BlockId) → AreInOrder t.rows → weight (with_blocks id blocks t).rows ≡ weight t.rows
lent-weight t id blocks order = by (row_at t.rows id) refl
  where
    by : (o : Option RowState) → row_at t.rows id ≡ o → weight (put_with id blocks o t.rows) ≡ weight t.rows
    by None e = refl
    by (Some row) e =
        let long = length-put-old t.rows id row (row_with blocks row) order e in
        let records = put-total (λ r. records_in r.rows) t.rows id row (row_with blocks row) order e in
        let entries = put-total (λ r. entries_of r.rows) t.rows id row (row_with blocks row) order e in
        let same_records = with_records blocks row.rows in
        let same_entries = with_entries blocks row.rows in
        omega (arith, long, records, entries, same_records, same_entries)

-- ---- and its room

-- a body of a file whose blocks are lent names so many blocks more
grown_lent : (cover tick size : ℕ) (blocks : List BlockId) (rows : RowHistory) → starts cover rows ≡ false
    → blocks_more (rows_with [] rows) (changed_rows cover tick (changes.Body size blocks) (rows_with [] rows)) ≤ blocks_more rows (changed_rows cover tick (changes.Body size blocks) rows) + length (current_blocks (Some rows))
grown_lent cover tick size blocks (File file) none =
    let now = file-blocks cover tick (changes.Body size blocks) (record file { current = record file.current { blocks = [] } }) in
    let was = file-blocks cover tick (changes.Body size blocks) file in
    let kept = ap (λ b. cond b (length file.current.blocks) 0) none in
    let lent = ap (λ b. cond b (length {A = BlockId} []) 0) none in
    omega (arith, now, was, kept, lent)
grown_lent cover tick size blocks (Dir dir) none = omega arith

pub lent-fits : (before after : TableValue) (id : InodeId) (cover tick size : ℕ) (blocks : List BlockId) → starts_in cover (row_at (told before).rows id) ≡ false
    → CanChange (told before).rows id (changes.Body size blocks) → IsLent before after id → ChangeFits before id cover tick (changes.Body size blocks) → ChangeFits after id cover tick (changes.Body size blocks)
lent-fits before after id cover tick size blocks none can lent fits = record {
  room = record {
    index = omega (arith, fits.room.index, lent.room.index);
    stack = omega (arith, fits.room.stack, lent.room.stack);
    blocks = let more = lent.room.blocks some in omega (arith, fits.room.blocks, more, grown, here, was, long);
  };
  ready = by_ready (row_of after.rows id) refl;
}
  where
    what : Change
    what = changes.Body size blocks

    here_row : row_at (told after).rows id ≡ Some (row_with [] can.row)
    here_row = ap (λ (t : Tabled). row_at t.rows id) lent.whole ∙ ap (λ (o : Option RowState). row_at (put_with id [] o (told before).rows) id) can.there ∙ put-here id (row_with [] can.row) (told before).rows

    no_start : starts cover can.row.rows ≡ false
    no_start = sym (ap (starts_in cover) can.there) ∙ none

    here : blocks_grown cover tick what (row_at (told after).rows id) ≡ blocks_more (rows_with [] can.row.rows) (changed_rows cover tick what (rows_with [] can.row.rows))
    here = ap (blocks_grown cover tick what) here_row

    was : blocks_grown cover tick what (row_at (told before).rows id) ≡ blocks_more can.row.rows (changed_rows cover tick what can.row.rows)
    was = ap (blocks_grown cover tick what) can.there

    long : length (current_blocks (rows_at (told before).rows id)) ≡ length (current_blocks (Some can.row.rows))
    long = ap (λ (o : Option RowState). length (current_blocks (option_map (λ (r : RowState). r.rows) o))) can.there

    grown : blocks_more (rows_with [] can.row.rows) (changed_rows cover tick what (rows_with [] can.row.rows)) ≤ blocks_more can.row.rows (changed_rows cover tick what can.row.rows) + length (current_blocks (Some can.row.rows))
    grown = grown_lent cover tick size blocks can.row.rows no_start

    some : 0 < before.room.blocks
    some = omega (arith, fits.room.blocks)

    file_ready : (rows : Rows) (s : RowHistory) → history_of rows ≡ rows_with [] s → FitsRows what s → starts cover s ≡ false → IsReady 1 cover rows
    file_ready rows (Dir dir) same no_file k = absurd no_file
    file_ready (kinds.Dir dir) (File file) same is_file k = absurd (true_false (ap is_file_row same) refl)
    file_ready (kinds.File rows) (File file) same is_file k = λ lt. absurd (not_less (files.last_number rows.history) cover (ap (λ r. nat_lt (last_in r) cover) same ∙ k) lt)

    by_ready : (o : Option Row) → row_of after.rows id ≡ o → IsRowReady 1 cover o
    by_ready None e = tt
    by_ready (Some row) e =
        let told_row = same_some (sym (row-told after.rows id ∙ ap (option_map state_of) e) ∙ here_row) in
        file_ready row.rows can.row.rows (ap (λ (s : RowState). s.rows) told_row) can.fits no_start

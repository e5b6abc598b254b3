-- What a change of a row does to the counts of a table: its names, its blocks and what it weighs.
use Rattle.std.proofs.Common.{◌≡◌, ℕ, ◌+◌, ◌-◌, ◌^◌, ◌<◌, ◌≤◌, Bool, true, false, cond, nat_lt, List, [], ◌∷◌, ◌++◌, Option, Some, None, Result, Ok, Err, length, set, refl, sym, ap, subst, ◌∙◌, arith}
use Rattle.std.specs.Prelude.{◌≢◌, IfOk, OnErr}
use Rattle.std.specs.Option.{option_map}
use Rattle.std.specs.FinMap.Entries.{put}
use Rattle.std.proofs.lemmas.Bool.Decides.{Decides-eqb}
use Rattle.hs_types.specs.declared.ids.InodeId.{InodeId}
use Rattle.hs_plain.proofs.ValidShapes.{none_some, same_some}
use Rattle.file_changes.specs.declared.state.FileRecord.{FileRecord}
use Rattle.file_changes.specs.History as files
use Rattle.file_changes.specs.History.{FileHistory}
use Rattle.dir_changes.specs.Counts as counts
use Rattle.dir_changes.specs.Counts.{times, one_where, same_id, deleted_ids, deleted_in}
use Rattle.dir_changes.specs.Entries.{Entries, id_at}
use Rattle.dir_changes.specs.History.{Past, ids_of}
use Rattle.inode_table.specs.declared.change.Change.{Change}
use Rattle.inode_table.specs.declared.change.Change.TheVariants as changes
use Rattle.inode_table.specs.declared.change.Recount.{Recount}
use Rattle.inode_table.specs.declared.change.Recount.TheVariants as recounts
use Rattle.inode_table.specs.declared.row.Row.{Row}
use Rattle.inode_table.specs.Kept.{AreSound, CanChange, FitsRows, FitsTable, IsReady, IsRowReady, blocks_grown, rows_in}
use Rattle.inode_table.specs.Names.{named_in, times_named}
use Rattle.inode_table.specs.Numbered.{at_place, history_of, state_of}
use Rattle.inode_table.specs.Recounts.{more_of, less_of, AreOff, AreSmall, FitsSlot, IsSoundSlot, blocks_edited}
use Rattle.inode_table.specs.RowHistory.{RowHistory, RowState, File, Dir, Table, row_at, id_order}
use Rattle.inode_table.specs.Slots.{Slots, table_in, AreCounted, AreListed}
use Rattle.inode_table.specs.Tabled.{begun_file, begun_rows, edited_file, changed_row, changed_rows, recount_in, recount_of, lost_unless, with_changed, put_changed}
use Rattle.inode_table.specs.Totals.{total, weight, records_in, entries_of, block_count, blocks_saved, blocks_named}
use Rattle.inode_table.proofs.Naming.{times-append}
use Rattle.inode_table.proofs.Placing.{slot-told, told_slot, table-same, total-mono, total-most, total-one, place-within}
use Rattle.inode_table.proofs.Reading.{by_id}
use Rattle.inode_table.proofs.Stepping.{changed-named, changed-weight}
use Rattle.inode_table.proofs.Tallying.{Altered, altered, off-altered, sum-altered, length-altered, listed-altered, counted-same, weight-same, blocks-same}

-- ---- blocks

saved_more : (rs : List FileRecord) (r : FileRecord) → blocks_saved (rs ++ r ∷ []) ≡ blocks_saved rs + length r.state.blocks
saved_more [] r = omega arith
saved_more (s ∷ rs) r = let rest = saved_more rs r in omega (arith, rest)

edited_current : (tick : ℕ) (what : Change) (file : FileHistory) → length (edited_file tick what file).current.blocks ≡ blocks_edited what (length file.current.blocks)
edited_current tick (changes.Mode mode) file = refl
edited_current tick (changes.Body size blocks) file = refl
edited_current tick (changes.Add name id) file = refl
edited_current tick (changes.Remove name) file = refl
edited_current tick (changes.Move spot) file = refl

edited_saved : (tick : ℕ) (what : Change) (file : FileHistory) → blocks_saved (edited_file tick what file).records ≡ blocks_saved file.records
edited_saved tick (changes.Mode mode) file = refl
edited_saved tick (changes.Body size blocks) file = refl
edited_saved tick (changes.Add name id) file = refl
edited_saved tick (changes.Remove name) file = refl
edited_saved tick (changes.Move spot) file = refl

begun_current : (cover : ℕ) (file : FileHistory) → (begun_file cover file).current ≡ file.current
begun_current cover file = elim (nat_lt (files.last_number file) cover) as (λ b. (cond b (files.saved (record { 0 = cover }) file) file).current ≡ file.current) [ true ↦ refl | false ↦ refl ]

begun_saved : (cover : ℕ) (file : FileHistory) → blocks_saved (begun_file cover file).records ≡ blocks_saved file.records + cond (nat_lt (files.last_number file) cover) (length file.current.blocks) 0
begun_saved cover file = elim (nat_lt (files.last_number file) cover) as (λ b. blocks_saved (cond b (files.saved (record { 0 = cover }) file) file).records ≡ blocks_saved file.records + cond b (length file.current.blocks) 0) [
  | true ↦ saved_more file.records (record { number = record { 0 = cover }; state = file.current })
  | false ↦ omega arith
]

-- the blocks of a file after a change: what its records named, what a started one names, and what it names now
pub file-blocks : (cover tick : ℕ) (what : Change) (file : FileHistory)
    → block_count (changed_rows cover tick what (File file)) ≡ blocks_edited what (length file.current.blocks) + (blocks_saved file.records + cond (nat_lt (files.last_number file) cover) (length file.current.blocks) 0)
file-blocks cover tick what file =
    let now = edited_current tick what (begun_file cover file) ∙ ap (λ s. blocks_edited what (length s.blocks)) (begun_current cover file) in
    let kept = edited_saved tick what (begun_file cover file) ∙ begun_saved cover file in
    omega (arith, now, kept)

-- ---- whom a change names once more

more_lost : (keeps : Bool) (o : Option InodeId) (x : InodeId) → more_of (lost_unless keeps o) x ≡ 0
more_lost keeps None x = refl
more_lost keeps (Some id) x = elim keeps as (λ b. more_of (cond b recounts.Same (recounts.Less id)) x ≡ 0) [ true ↦ refl | false ↦ refl ]

-- it has a row
pub more-there : (what : Change) (rows : RowHistory) (table : Table) (x : InodeId) → FitsTable what table → 0 < more_of (recount_of what rows) x → (row : RowState) × (row_at table x ≡ Some row)
more-there what (File file) table x fits some = absurd (omega (arith, some))
more-there (changes.Mode mode) (Dir dir) table x fits some = absurd (omega (arith, some))
more-there (changes.Body size blocks) (Dir dir) table x fits some = absurd (omega (arith, some))
more-there (changes.Add name id) (Dir dir) table x fits some = elim (same_id id x) as (λ b. same_id id x ≡ b → 0 < one_where b → (row : RowState) × (row_at table x ≡ Some row)) [
  | true ↦ λ t lt. let same : id ≡ x = ap (λ (n : ℕ). record { 0 = n }) ((Decides-eqb id.0 x.0).0 t) in (fits.row, ap (row_at table) (sym same) ∙ fits.there)
  | false ↦ λ t lt. absurd (omega (arith, lt))
] refl some
more-there (changes.Remove name) (Dir dir) table x fits some = let none = more_lost (counts.keeps_removed name dir) (id_at name dir.children) x in absurd (omega (arith, none, some))
more-there (changes.Move spot) (Dir dir) table x fits some = absurd (omega (arith, some))

-- ---- nothing is named more often than lists have entries

times_few : (x : InodeId) (es : Entries) → times x (ids_of es) ≤ length es
times_few x [] = omega arith
times_few x (e ∷ es) = let rest = times_few x es in elim (same_id e.1 x) as (λ b. one_where b + times x (ids_of es) ≤ length (e ∷ es)) [ true ↦ omega (arith, rest) | false ↦ omega (arith, rest) ]

deleted_few : (x : InodeId) (rs : List Past) → times x (deleted_ids rs) ≤ deleted_in rs
deleted_few x [] = omega arith
deleted_few x (r ∷ rs) =
    let split = times-append x (ids_of r.diff.deleted) (deleted_ids rs) in
    let here = times_few x r.diff.deleted in
    let rest = deleted_few x rs in
    omega (arith, split, here, rest)

named_few : (x : InodeId) (rows : RowHistory) → times x (named_in rows) ≤ entries_of rows
named_few x (File file) = omega arith
named_few x (Dir dir) =
    let split = times-append x (ids_of dir.children) (deleted_ids dir.records) in
    let here = times_few x dir.children in
    let rest = deleted_few x dir.records in
    omega (arith, split, here, rest)

pub times-few : (x : InodeId) (table : Table) → times_named x table ≤ total (λ row. entries_of row.rows) table
times-few x table = total-mono (λ row. times x (named_in row.rows)) (λ row. entries_of row.rows) (λ row. named_few x row.rows) table

-- ---- small steps of the functions

pub if-ok : {X E : Type 0} (r : Result X E) (P Q : X → Type 0) → ((x : X) → P x → Q x) → IfOk r P → IfOk r Q
if-ok (Ok x) P Q f h = f x h
if-ok (Err e) P Q f h = h

pub fits-within : (rows : Slots) (id : InodeId) (what : Change) → FitsSlot what (at_place rows id) → id.0 < length rows
fits-within rows id what fits = by (at_place rows id) refl fits
  where
    by : (o : Option Row) → at_place rows id ≡ o → FitsSlot what o → id.0 < length rows
    by None e h = absurd h
    by (Some row) e h = place-within rows id row e

pub file-after : (cover tick : ℕ) (what : Change) (file : FileHistory) (blocks own others now after : ℕ) → own ≡ length file.current.blocks
    → others + own ≡ blocks + cond (nat_lt (files.last_number file) cover) own 0 → now ≡ blocks_edited what own → after ≡ others + now
    → after + block_count (File file) ≡ blocks + block_count (changed_rows cover tick what (File file))
file-after cover tick what file blocks own others now after is_own is_others is_now is =
    let all = file-blocks cover tick what file in
    let rest = ap (λ n. cond (nat_lt (files.last_number file) cover) n 0) is_own in
    let edit = is_now ∙ ap (blocks_edited what) is_own in
    omega (arith, all, rest, edit, is, is_own, is_others)

-- ---- a row changed at its place, and none counted anew yet

pub record ChangedAt (rows after : Slots) (id : InodeId) (cover tick : ℕ) (what : Change) (recount : Recount) (old : Row) : Type 0 where
  pub was : at_place rows id ≡ Some old
  pub off : AreOff after recount
  pub small : AreSmall after recount
  pub listed : (ids : List InodeId) → AreListed rows ids → AreListed after ids
  pub weighs : weight (table_in after) ≤ weight (table_in rows) + 3
  pub blocks : blocks_named (table_in after) + block_count (history_of old.rows) ≡ blocks_named (table_in rows) + block_count (changed_rows cover tick what (history_of old.rows))
  pub told : table_in after ≡ with_changed id cover tick what (table_in rows)
  pub there : (other : InodeId) → other ≢ id → at_place after other ≡ at_place rows other

module _ (rows after : Slots) (id : InodeId) (cover tick : ℕ) (what : Change) (recount : Recount)
    (written : after ≡ set rows id.0 (at_place after id))
    (state : option_map state_of (at_place after id) ≡ option_map (changed_row cover tick what) (option_map state_of (at_place rows id)))
    (is_sound : IsSoundSlot (at_place rows id))
    (is : recount ≡ recount_in cover what (option_map state_of (at_place rows id)))
    (can : CanChange (table_in rows) id what) (counted : AreCounted rows []) (bound : weight (table_in rows) < 2 ^ 32) where
  abbrev old_row : (row : Row) × (at_place rows id ≡ Some row) × (state_of row ≡ can.row)
  old_row = told_slot (at_place rows id) can.row (sym (slot-told rows id) ∙ can.there)

  abbrev old : Row
  old = old_row.0

  new_row : (row : Row) × (at_place after id ≡ Some row) × (state_of row ≡ changed_row cover tick what (state_of old))
  new_row = told_slot (at_place after id) (changed_row cover tick what (state_of old)) (state ∙ ap (λ (o : Option Row). option_map (changed_row cover tick what) (option_map state_of o)) old_row.1)

  abbrev new : Row
  new = new_row.0

  names : new.names ≡ old.names
  names = ap (λ (s : RowState). s.names) new_row.2

  alter : Altered rows after id old new
  alter = subst (λ (xs : Slots). Altered rows xs id old new) (sym (written ∙ ap (λ (o : Option Row). set rows id.0 o) new_row.1)) (altered rows id old new old_row.1 names)

  fits : FitsRows what (history_of old.rows)
  fits = subst (λ (s : RowState). FitsRows what s.rows) (sym old_row.2) can.fits

  sound : AreSound (history_of old.rows)
  sound = subst IsSoundSlot old_row.1 is_sound

  whose : recount ≡ recount_of what (begun_rows cover (history_of old.rows))
  whose = is ∙ ap (λ (o : Option Row). recount_in cover what (option_map state_of o)) old_row.1

  named : (x : InodeId) → times x (named_in (state_of new).rows) + less_of recount x ≡ times x (named_in (state_of old).rows) + more_of recount x
  named x =
      let law = changed-named cover tick what (history_of old.rows) sound fits x in
      let now = ap (λ (s : RowState). times x (named_in s.rows)) new_row.2 in
      let more = ap (λ (r : Recount). more_of r x) whose in
      let less = ap (λ (r : Recount). less_of r x) whose in
      omega (arith, law, now, more, less)

  target : (x : InodeId) → 0 < more_of recount x → (row : Row) × (at_place rows x ≡ Some row)
  target x some =
      let there = more-there what (begun_rows cover (history_of old.rows)) (table_in rows) x can.entry (subst (λ (r : Recount). 0 < more_of r x) whose some) in
      let row = told_slot (at_place rows x) there.0 (sym (slot-told rows x) ∙ there.1) in
      (row.0, row.1)

  some_rows : 1 ≤ length (table_in rows)
  some_rows =
      let most = total-most (λ _. 1) (table_in rows) id can.row can.there in
      let all = total-one (table_in rows) in
      omega (arith, most, all)

  same_names : (x : InodeId) (row was : Row) → at_place after x ≡ Some row → at_place rows x ≡ Some was → row.names ≡ was.names
  same_names x row was h g = by_id x id
      (λ e. ap (λ (r : Row). r.names) (same_some (sym h ∙ ap (at_place after) e ∙ alter.here)) ∙ names
      ∙ sym (ap (λ (r : Row). r.names) (same_some (sym g ∙ ap (at_place rows) e ∙ alter.was))))
      (λ ne. ap (λ (r : Row). r.names) (same_some (sym h ∙ alter.there x ne ∙ g)))

  pub changed-at : ChangedAt rows after id cover tick what recount old
  changed-at = record {
    was = old_row.1;
    off = off-altered rows after id old new alter recount named target counted;
    small = record {
      small = λ x row h some.
          let was = target x some in
          let same = same_names x row was.0 h was.1 in
          let count = counted.counted x was.0 was.1 in
          let few = times-few x (table_in rows) in
          let any = some_rows in
          omega (arith, same, count, few, any, bound);
    };
    listed = listed-altered rows after id old new alter;
    weighs =
        let long = length-altered rows after id old new alter in
        let records = sum-altered rows after id old new alter (λ r. records_in r.rows) in
        let entries = sum-altered rows after id old new alter (λ r. entries_of r.rows) in
        let law = changed-weight cover tick what (history_of old.rows) sound fits in
        let now_records = ap (λ (s : RowState). records_in s.rows) new_row.2 in
        let now_entries = ap (λ (s : RowState). entries_of s.rows) new_row.2 in
        omega (arith, long, records, entries, law, now_records, now_entries);
    blocks =
        let all = sum-altered rows after id old new alter (λ r. block_count r.rows) in
        let now = ap (λ (s : RowState). block_count s.rows) new_row.2 in
        omega (arith, all, now);
    told = alter.told ∙ ap (λ (s : RowState). put id_order id s (table_in rows)) new_row.2
        ∙ sym (ap (λ (o : Option RowState). put_changed id cover tick what o (table_in rows)) (slot-told rows id ∙ ap (option_map state_of) old_row.1));
    there = alter.there;
  }

-- ---- a row that wasn't changed for want of memory, with other room

pub record LeftAt (rows after : Slots) (id : InodeId) : Type 0 where
  pub counted : AreCounted rows [] → AreCounted after []
  pub listed : (ids : List InodeId) → AreListed rows ids → AreListed after ids
  pub weighs : weight (table_in after) ≡ weight (table_in rows)
  pub blocks : blocks_named (table_in after) ≡ blocks_named (table_in rows)
  pub told : table_in after ≡ table_in rows
  pub there : (other : InodeId) → other ≢ id → at_place after other ≡ at_place rows other

pub left-at : (rows after : Slots) (id : InodeId) (what : Change) → CanChange (table_in rows) id what → after ≡ set rows id.0 (at_place after id)
    → option_map state_of (at_place after id) ≡ option_map state_of (at_place rows id) → LeftAt rows after id
left-at rows after id what can written state =
    let old = told_slot (at_place rows id) can.row (sym (slot-told rows id) ∙ can.there) in
    let new = told_slot (at_place after id) (state_of old.0) (state ∙ ap (option_map state_of) old.1) in
    let now = written ∙ ap (λ (o : Option Row). set rows id.0 o) new.1 in
    let alter = subst (λ (xs : Slots). Altered rows xs id old.0 new.0) (sym now) (altered rows id old.0 new.0 old.1 (ap (λ (s : RowState). s.names) new.2)) in
    let same = ap (λ (s : RowState). s.rows) new.2 in
    record {
      counted = counted-same rows after id old.0 new.0 alter same [];
      listed = listed-altered rows after id old.0 new.0 alter;
      weighs = weight-same rows after id old.0 new.0 alter same;
      blocks = blocks-same rows after id old.0 new.0 alter same;
      told = ap table_in written ∙ table-same rows id (at_place after id) (place-within rows id old.0 old.1) state;
      there = alter.there;
    }

-- ---- what the whole change cites

pub can-fit : (rows : Slots) (id : InodeId) (what : Change) → CanChange (table_in rows) id what → FitsSlot what (at_place rows id)
can-fit rows id what can =
    let old = told_slot (at_place rows id) can.row (sym (slot-told rows id) ∙ can.there) in
    subst (FitsSlot what) (sym old.1) (subst (λ (s : RowState). FitsRows what s.rows) (sym old.2) can.fits)

pub blocks-most : (rows : Slots) (id : InodeId) (row : Row) → at_place rows id ≡ Some row → block_count (history_of row.rows) ≤ blocks_named (table_in rows)
blocks-most rows id row is = total-most (λ s. block_count s.rows) (table_in rows) id (state_of row) (slot-told rows id ∙ ap (option_map state_of) is)

-- whatever the tick
grown_rows : (cover a b : ℕ) (what : Change) (rows : RowHistory) → block_count (changed_rows cover a what rows) ≡ block_count (changed_rows cover b what rows)
grown_rows cover a b what (File file) = file-blocks cover a what file ∙ sym (file-blocks cover b what file)
grown_rows cover a b what (Dir dir) = refl

pub grown-same : (cover a b : ℕ) (what : Change) (o : Option RowState) → blocks_grown cover a what o ≡ blocks_grown cover b what o
grown-same cover a b what None = refl
grown-same cover a b what (Some row) = ap (λ n. n - block_count row.rows) (grown_rows cover a b what row.rows)

-- a row is as ready whatever its marks and names
pub ready-rows : (n cover : ℕ) (a b : Option Row) → rows_in b ≡ rows_in a → IsRowReady n cover a → IsRowReady n cover b
ready-rows n cover None None same h = h
ready-rows n cover None (Some row) same h = absurd (none_some (sym same))
ready-rows n cover (Some row) None same h = absurd (none_some same)
ready-rows n cover (Some row) (Some other) same h = subst (IsReady n cover) (sym (same_some same)) h

pub any-err : {X E P : Type 0} (r : Result X E) → P → OnErr r P
any-err (Ok x) p = tt
any-err (Err e) p = p

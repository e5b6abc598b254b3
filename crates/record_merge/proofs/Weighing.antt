-- The deletion of a snapshot adds no weight.
use Rattle.std.proofs.Common.{◌≡◌, ℕ, zero, suc, ◌+◌, ◌<◌, ◌≤◌, Bool, true, false, cond, List, [], ◌∷◌, Some, length, refl, sym, ap, subst, ◌∙◌, arith}
use Rattle.std.specs.Prelude.{◌-◌, not, remove}
use Rattle.std.specs.Option.{option_map}
use Rattle.std.specs.FinMap.Entries.{put, where_key}
use Rattle.std.proofs.lemmas.List.{length-map}
use Rattle.hs_types.specs.declared.ids.InodeId.{InodeId}
use Rattle.hs_plain.specs.Tree.{same_inode}
use Rattle.file_changes.specs.declared.state.FileRecord.{FileRecord}
use Rattle.dir_changes.proofs.CountLaws.{counts-combined}
use Rattle.inode_table.specs.declared.freed.Freed.{Freed}
use Rattle.inode_table.specs.Kept.{AreSound}
use Rattle.inode_table.specs.Merged.{merged, merged_from, merged_rows, ids_dropped}
use Rattle.inode_table.specs.Released.{all_named_less, without_row, let_go, ReleasedBy, Releasing}
use Rattle.inode_table.specs.Names.{named_in}
use Rattle.inode_table.specs.RowHistory.{RowHistory, RowState, File, Dir, Table, row_at, rows_at, id_order}
use Rattle.inode_table.specs.Tabled.{Tabled, named_less}
use Rattle.inode_table.specs.Totals.{total, weight, records_in, entries_of}
use Rattle.inode_table.specs.Whole.{numbers_in}
use Rattle.inode_table.proofs.Lessening.{one_weight, weight_is}
use Rattle.inode_table.proofs.Naming.{put-total}
use Rattle.inode_table.proofs.Placing.{total-recounted}
use Rattle.table_laws.specs.NameCalls.{HasNames, MergedBy}
use Rattle.table_laws.specs.Naming.{AllSound}
use Rattle.table_laws.proofs.NamedRows.{merge-names}
use Rattle.table_laws.proofs.NamedSound.{merged-all}

-- ---- one row

removed_few : (records : List FileRecord) (i : ℕ) → length (remove records i) ≤ length records
removed_few [] zero = omega arith
removed_few [] (suc i) = omega arith
removed_few (r ∷ rs) zero = omega arith
removed_few (r ∷ rs) (suc i) = let rest = removed_few rs i in omega (arith, rest)

merged_lighter : (i : ℕ) (rows : RowHistory) → AreSound rows → i < length (numbers_in rows) → records_in (merged_rows i rows) + entries_of (merged_rows i rows) ≤ records_in rows + entries_of rows
merged_lighter i (File file) sound lt = let few = removed_few file.records i in omega (arith, few)
merged_lighter i (Dir dir) sound lt =
    let within : i < length dir.records = subst (λ n. i < n) (length-map dir.records (λ r. r.number.0)) lt in
    let counts = counts-combined dir i sound within in
    omega (arith, counts.created, counts.deleted, counts.records)

sound_row : (table : Table) (id : InodeId) (row : RowState) → AllSound table → row_at table id ≡ Some row → AreSound row.rows
sound_row table id row sound there = by row.rows (ap (option_map (λ (r : RowState). r.rows)) there)
  where
    by : (rows : RowHistory) → rows_at table id ≡ Some rows → AreSound rows
    by (File file) is = tt
    by (Dir dir) is = sound id dir is

-- ---- a table

less_named : (ids : List InodeId) (table : Table) → weight (all_named_less ids table) ≡ weight table
less_named [] table = refl
less_named (id ∷ ids) table = less_named ids (named_less id table) ∙ weight_is (named_less id table) ∙ total-recounted (λ n. n - 1) one_weight (λ r n. refl) id table ∙ sym (weight_is table)

fewer_total : (test : InodeId → Bool) (table : Table) → total one_weight (where_key id_order test table) ≤ total one_weight table
fewer_total test [] = omega arith
fewer_total test (e ∷ es) = let rest = fewer_total test es in elim (test e.0) as (λ b. total one_weight (cond b (e ∷ where_key id_order test es) (where_key id_order test es)) ≤ total one_weight (e ∷ es)) [
  | true ↦ omega (arith, rest)
  | false ↦ omega (arith, rest)
]

row_less : (id : InodeId) (table : Table) → weight (without_row id table) ≤ weight table
row_less id table =
    let few = fewer_total (λ other. not (same_inode other id)) table in
    let a = weight_is (without_row id table) in
    let b = weight_is table in
    omega (arith, few, a, b)

-- ---- steps

merged_weight : (t : Tabled) (id : InodeId) (i : ℕ) (row : RowState) → row_at t.rows id ≡ Some row → i < length (numbers_in row.rows) → HasNames t → weight (merged id i t).rows ≤ weight t.rows
merged_weight t id i row there lt has = subst (λ o. weight (merged_from id i o t).rows ≤ weight t.rows) (sym there)
    (let new : RowState = record row { rows = merged_rows i row.rows } in
    let same = less_named (ids_dropped i row.rows) (put id_order id new t.rows) in
    let sum = put-total one_weight t.rows id row new has.named.order there in
    let less = merged_lighter i row.rows (sound_row t.rows id row has.sound there) lt in
    let a = weight_is (put id_order id new t.rows) in
    let b = weight_is t.rows in
    omega (arith, same, sum, less, a, b))

merges_weight : (t middle : Tabled) (records : List (InodeId × ℕ)) → MergedBy t records middle → HasNames t → weight middle.rows ≤ weight t.rows
merges_weight t middle [] same has = let e = ap (λ (x : Tabled). weight x.rows) same in omega (arith, e)
merges_weight t middle (one ∷ more) step has =
    let first = merged_weight t one.0 one.1 step.0 step.1 step.2 has in
    let rest = merges_weight (merged one.0 one.1 t) middle more step.3 (record {
      sound = merged-all t one.0 one.1 has.sound;
      named = (merge-names t one.0 one.1 step.0 step.1 step.2 has.sound has.named).named;
    }) in
    omega (arith, first, rest)

released_weight : (before : Tabled) (gone : List InodeId) (after : Tabled) → ReleasedBy before gone after → weight after.rows ≤ weight before.rows
released_weight before [] after same = let e = ap (λ (x : Tabled). weight x.rows) same in omega (arith, e)
released_weight before (id ∷ gone) after step =
    let rest = released_weight (let_go id step.0.rows before) gone after step.2 in
    let same = less_named (named_in step.0.rows) (without_row id before.rows) in
    let few = row_less id before.rows in
    omega (arith, rest, same, few)

pub drop-weight : (t middle after : Tabled) (records : List (InodeId × ℕ)) (freed : Freed) → MergedBy t records middle → Releasing middle freed after → HasNames t → weight after.rows ≤ weight t.rows
drop-weight t middle after records freed merges going has =
    let less = merges_weight t middle records merges has in
    let few = released_weight middle going.gone (record after { waiting = freed.blocks }) going.steps in
    omega (arith, less, few)

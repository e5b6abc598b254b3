-- What a `prepare` made room for, call by call.
use Rattle.std.proofs.Common.{◌≡◌, ℕ, zero, suc, ◌+◌, ◌-◌, ◌*◌, ◌<◌, ◌≤◌, true, false, cond, nat_lt, List, [], ◌∷◌, Option, Some, None, length, get_or, refl, sym, ap, subst, ◌∙◌, arith}
use Rattle.std.specs.Prelude.{◌≢◌}
use Rattle.std.specs.List.{Contains}
use Rattle.std.specs.Option.{option_map}
use Rattle.std.proofs.lemmas.Bool.Decides.{Decides-eqb, nat_tests}
use Rattle.hs_types.specs.declared.ids.InodeId.{InodeId}
use Rattle.hs_types.specs.declared.ids.SnapId.{SnapId}
use Rattle.hs_plain.specs.Tree.{same_inode}
use Rattle.file_changes.specs.History as files
use Rattle.file_changes.specs.History.{FileHistory}
use Rattle.file_changes.proofs.Reading.{last-saved}
use Rattle.inode_table.specs.declared.change.Change.{Change}
use Rattle.inode_table.specs.declared.change.Change.TheVariants as changes
use Rattle.inode_table.specs.declared.change.Recount.{Recount}
use Rattle.inode_table.specs.declared.change.Recount.TheVariants as recounts
use Rattle.inode_table.specs.declared.row.Row.{Row}
use Rattle.inode_table.specs.declared.row.Rows.{Rows}
use Rattle.inode_table.specs.declared.row.Rows.TheVariants as kinds
use Rattle.inode_table.specs.Ahead.{Ahead, sum_over, prepared_for, inserted_one, changed_one, blocks_to_come, HasRoomFor, IsNext, AddsOneBlock, IsAhead, ChangeFits, IsChanged}
use Rattle.inode_table.specs.Kept.{TableValue, told, rows_in, IsReady, IsRowReady, HasInsertRoom, UsesInsert, IsPrepared, blocks_ahead, all_ahead, blocks_grown}
use Rattle.inode_table.specs.Numbered.{row_of, history_of, state_of, with_marks}
use Rattle.inode_table.specs.Recounts.{blocks_edited}
use Rattle.inode_table.specs.RowHistory.{RowHistory, RowState, File, Dir, Table, row_at, rows_at}
use Rattle.inode_table.specs.Tabled.{Tabled, begun_file, edited_file, changed_row, changed_rows, changed, with_changed, put_changed, recount_in, recounted}
use Rattle.inode_table.specs.Totals.{block_count}
use Rattle.inode_table.proofs.Altering.{file-blocks, ready-rows}
use Rattle.inode_table.proofs.Combining.{put-here}
use Rattle.inode_table.proofs.Going.{kept-recounted}
use Rattle.inode_table.proofs.Reading.{by_id}
use Rattle.inode_table.proofs.Stepping.{edit-file-records}
use Rattle.inode_table.proofs.Telling.{row-told}

-- ---- sums over ids

sum_mono : (f g : InodeId → ℕ) → ((id : InodeId) → f id ≤ g id) → (ids : List InodeId) → sum_over f ids ≤ sum_over g ids
sum_mono f g le [] = omega arith
sum_mono f g le (id ∷ ids) = let here = le id in let rest = sum_mono f g le ids in omega (arith, here, rest)

-- one of them is less by so many
sum_less_from : (f g : InodeId → ℕ) → ((id : InodeId) → f id ≤ g id) → (d : ℕ) (id : InodeId) → f id + d ≤ g id → (ids : List InodeId) (k : ℕ) → k < length ids → get_or ids k id ≡ id → sum_over f ids + d ≤ sum_over g ids
sum_less_from f g le d id less [] k lt e = absurd (omega (arith, lt))
sum_less_from f g le d id less (x ∷ ids) zero lt e =
    let here : f x + d ≤ g x = subst (λ (j : InodeId). f j + d ≤ g j) (sym e) less in
    let rest = sum_mono f g le ids in
    omega (arith, here, rest)
sum_less_from f g le d id less (x ∷ ids) (suc k) lt e =
    let here = le x in
    let rest = sum_less_from f g le d id less ids k (omega (arith, lt)) e in
    omega (arith, here, rest)

sum_less : (f g : InodeId → ℕ) → ((id : InodeId) → f id ≤ g id) → (d : ℕ) (id : InodeId) → f id + d ≤ g id → (ids : List InodeId) → Contains ids id → sum_over f ids + d ≤ sum_over g ids
sum_less f g le d id less ids one = sum_less_from f g le d id less ids one.0 one.1 one.2

sum_part : (g : InodeId → ℕ) (id : InodeId) (ids : List InodeId) → Contains ids id → g id ≤ sum_over g ids
sum_part g id ids one = let all = sum_less (λ x. 0) g (λ x. omega arith) (g id) id (omega arith) ids one in omega (arith, all)

sum_same : (f g : InodeId → ℕ) (ids : List InodeId) → ((id : InodeId) → Contains ids id → f id ≡ g id) → sum_over f ids ≡ sum_over g ids
sum_same f g [] same = refl
sum_same f g (id ∷ ids) same =
    let here = same id (0, omega arith, refl) in
    let rest = sum_same f g ids (λ x one. same x (suc one.0, (let lt = one.1 in omega (arith, lt)), one.2)) in
    omega (arith, here, rest)

threes : (ids : List InodeId) → sum_over (λ id. 3) ids ≡ 3 * length ids
threes [] = refl
threes (id ∷ ids) = let rest = threes ids in omega (arith, rest)

-- ---- rows

rows_told : (v : TableValue) (id : InodeId) → rows_at (told v).rows id ≡ option_map history_of (rows_in (row_of v.rows id))
rows_told v id = ap (option_map (λ (r : RowState). r.rows)) (row-told v.rows id) ∙ by (row_of v.rows id)
  where
    by : (o : Option Row) → option_map (λ (r : RowState). r.rows) (option_map state_of o) ≡ option_map history_of (rows_in o)
    by None = refl
    by (Some row) = refl

rows_same : (v w : TableValue) (id : InodeId) → rows_in (row_of w.rows id) ≡ rows_in (row_of v.rows id) → rows_at (told w).rows id ≡ rows_at (told v).rows id
rows_same v w id same = rows_told w id ∙ ap (option_map history_of) same ∙ sym (rows_told v id)

fewer : (n m cover : ℕ) → m ≤ n → (o : Option Row) → IsRowReady n cover o → IsRowReady m cover o
fewer n m cover le None h = tt
fewer n m cover le (Some row) h = by row.rows h
  where
    by : (rows : Rows) → IsReady n cover rows → IsReady m cover rows
    by (kinds.File file) k = k
    by (kinds.Dir dir) k = (k.0, let edits = k.1 in omega (arith, le, edits))

-- ---- after `prepare`

few_ahead : (cover : ℕ) (o : Option RowHistory) → blocks_to_come 3 cover o ≤ blocks_ahead o
few_ahead cover None = omega arith
few_ahead cover (Some (File file)) = elim (nat_lt (files.last_number file) cover) as (λ b. cond b (length file.current.blocks) 0 + 3 ≤ length file.current.blocks + 3) [ true ↦ omega arith | false ↦ omega arith ]
few_ahead cover (Some (Dir dir)) = omega arith

all_few : (cover : InodeId → ℕ) (table : Table) (ids : List InodeId) → sum_over (λ id. blocks_to_come 3 (cover id) (rows_at table id)) ids ≤ all_ahead table ids
all_few cover table [] = omega arith
all_few cover table (id ∷ ids) = let here = few_ahead (cover id) (rows_at table id) in let rest = all_few cover table ids in omega (arith, here, rest)

pub prepared-ahead : (before after : TableValue) (ids : List InodeId) (cover : InodeId → ℕ) → told after ≡ told before → IsPrepared (3 * length ids) (all_ahead (told before).rows ids) after.room
    → ((id : InodeId) → Contains ids id → (number : ℕ) → IsRowReady 3 number (row_of after.rows id)) → HasRoomFor (prepared_for ids cover) after
prepared-ahead before after ids cover same is ready =
    let count = threes ids in
    let few = all_few cover (told after).rows ids in
    let all = ap (λ (t : Tabled). all_ahead t.rows ids) same in
    record {
      slots = is.slots;
      index = omega (arith, count, is.index);
      stack = omega (arith, count, is.stack);
      blocks = omega (arith, few, all, is.blocks);
      rows = λ id one. ready id one (cover id);
    }

-- ---- an insertion

pub insert-fits : (ahead : Ahead) (value : TableValue) (id : InodeId) (rows : RowHistory) → HasRoomFor ahead value → 0 < ahead.insertions → IsNext value id rows → HasInsertRoom id rows value.greatest value.room
insert-fits ahead value id rows room some is = record {
  slots = omega (arith, room.slots, some, is.next);
  index = omega (arith, room.index, some);
  stack = omega (arith, room.stack, some, is.next);
  blocks = omega (arith, room.blocks, is.empty);
}

pub insert-leaves : (ahead : Ahead) (before after : TableValue) (id : InodeId) (rows : RowHistory) → HasRoomFor ahead before → 0 < ahead.insertions → IsNext before id rows → (Contains ahead.ids id → ⊥)
    → UsesInsert id rows before.greatest before.room after.room → ((other : InodeId) → other ≢ id → row_of after.rows other ≡ row_of before.rows other) → HasRoomFor (inserted_one ahead) after
insert-leaves ahead before after id rows room some is new uses there =
    let blocks = sum_same (λ x. blocks_to_come (ahead.changes x) (ahead.cover x) (rows_at (told after).rows x)) (λ x. blocks_to_come (ahead.changes x) (ahead.cover x) (rows_at (told before).rows x)) ahead.ids
    (λ x one. ap (blocks_to_come (ahead.changes x) (ahead.cover x)) (rows_same before after x (ap rows_in (there x (apart x one))))) in
    record {
      slots = omega (arith, room.slots, uses.slots, is.next);
      index = omega (arith, room.index, uses.index, some);
      stack = omega (arith, room.stack, uses.stack, is.next, some);
      blocks = omega (arith, room.blocks, uses.blocks, is.empty, blocks);
      rows = λ x one. subst (IsRowReady (ahead.changes x) (ahead.cover x)) (sym (there x (apart x one))) (room.rows x one);
    }
  where
    apart : (x : InodeId) → Contains ahead.ids x → x ≢ id
    apart x one e = new (subst (Contains ahead.ids) e one)

-- ---- a change

begun_last : (cover : ℕ) (file : FileHistory) → cover ≤ files.last_number (begun_file cover file)
begun_last cover file = elim (nat_lt (files.last_number file) cover) as (λ b. nat_lt (files.last_number file) cover ≡ b → cover ≤ files.last_number (cond b (files.saved (record { 0 = cover }) file) file)) [
  | true ↦ λ t. let last = last-saved 0 file.records (record { number = record { 0 = cover }; state = file.current }) in omega (arith, last)
  | false ↦ λ t. grind (arith, nat_tests)
] refl

-- no record is started any more
none_starts : (cover tick : ℕ) (what : Change) (file : FileHistory) → nat_lt (files.last_number (edited_file tick what (begun_file cover file))) cover ≡ false
none_starts cover tick what file =
    let last = begun_last cover file in
    let same = ap (λ rs. files.last_from 0 rs) (edit-file-records tick what (begun_file cover file)) in
    by (files.last_number (edited_file tick what (begun_file cover file))) (omega (arith, last, same))
  where
    by : (n : ℕ) → cover ≤ n → nat_lt n cover ≡ false
    by n le = grind (arith, nat_tests, le)

one_more : (what : Change) (file : FileHistory) → AddsOneBlock what (Some (File file)) → blocks_edited what (length file.current.blocks) ≤ length file.current.blocks + 1
one_more (changes.Mode mode) file small = omega arith
one_more (changes.Body size blocks) file small = small
one_more (changes.Add name id) file small = omega arith
one_more (changes.Remove name) file small = omega arith
one_more (changes.Move spot) file small = omega arith

grown_few : (n cover tick : ℕ) (what : Change) (o : Option RowState) → AddsOneBlock what (option_map (λ r. r.rows) o)
    → blocks_to_come n cover (option_map (λ r. changed_rows cover tick what r.rows) o) + blocks_grown cover tick what o ≤ blocks_to_come (n + 1) cover (option_map (λ r. r.rows) o)
grown_few n cover tick what None small = omega arith
grown_few n cover tick what (Some row) small = by row.rows small
  where
    by : (rows : RowHistory) → AddsOneBlock what (Some rows) → blocks_to_come n cover (Some (changed_rows cover tick what rows)) + (block_count (changed_rows cover tick what rows) - block_count rows) ≤ blocks_to_come (n + 1) cover (Some rows)
    by (File file) one =
        let few = one_more what file one in
        let all = file-blocks cover tick what file in
        let none = ap (λ b. cond b (length (edited_file tick what (begun_file cover file)).current.blocks) 0 + n) (none_starts cover tick what file) in
        omega (arith, all, none, few)
    by (Dir dir) one = omega arith

rows_recounted : (recount : Recount) (x : InodeId) (t : Table) → rows_at (recounted recount t) x ≡ rows_at t x
rows_recounted recounts.Same x t = refl
rows_recounted (recounts.More id) x t = kept-recounted (option_map (λ (r : RowState). r.rows)) (λ r n. refl) (λ n. n + 1) id x t
rows_recounted (recounts.Less id) x t = kept-recounted (option_map (λ (r : RowState). r.rows)) (λ r n. refl) (λ n. n - 1) id x t

pub rows-changed : (t : Tabled) (id : InodeId) (cover tick : ℕ) (what : Change) → rows_at (changed id cover tick what t).rows id ≡ option_map (λ r. changed_rows cover tick what r.rows) (row_at t.rows id)
rows-changed t id cover tick what = rows_recounted (recount_in cover what (row_at t.rows id)) id (with_changed id cover tick what t.rows) ∙ by (row_at t.rows id) refl
  where
    by : (o : Option RowState) → row_at t.rows id ≡ o → rows_at (put_changed id cover tick what o t.rows) id ≡ option_map (λ r. changed_rows cover tick what r.rows) o
    by None e = ap (option_map (λ (r : RowState). r.rows)) e
    by (Some row) e = ap (option_map (λ (r : RowState). r.rows)) (put-here id (changed_row cover tick what row) t.rows)

module _ (ahead : Ahead) (value : TableValue) (id : InodeId) (tick : ℕ) (what : Change) (room : HasRoomFor ahead value) (is : IsAhead ahead value id what) where
  one_less : ahead.changes id ≡ ahead.changes id - 1 + 1
  one_less = let some = is.some in omega (arith, some)

  here_few : blocks_to_come (ahead.changes id - 1) (ahead.cover id) (option_map (λ r. changed_rows (ahead.cover id) tick what r.rows) (row_at (told value).rows id)) + blocks_grown (ahead.cover id) tick what (row_at (told value).rows id)
      ≤ blocks_to_come (ahead.changes id) (ahead.cover id) (rows_at (told value).rows id)
  here_few = subst (λ n. blocks_to_come (ahead.changes id - 1) (ahead.cover id) (option_map (λ r. changed_rows (ahead.cover id) tick what r.rows) (row_at (told value).rows id)) + blocks_grown (ahead.cover id) tick what (row_at (told value).rows id) ≤ blocks_to_come n (ahead.cover id) (rows_at (told value).rows id))
      (sym one_less) (grown_few (ahead.changes id - 1) (ahead.cover id) tick what (row_at (told value).rows id) is.small)

  pub change-fits : ChangeFits value id (ahead.cover id) tick what
  change-fits =
      let few = here_few in
      let some = is.some in
      let one = sum_part ahead.changes id ahead.ids is.one in
      let blocks = sum_part (λ x. blocks_to_come (ahead.changes x) (ahead.cover x) (rows_at (told value).rows x)) id ahead.ids is.one in
      record {
        room = record {
          index = omega (arith, room.index, one, some);
          stack = omega (arith, room.stack, one, some);
          blocks = omega (arith, room.blocks, few, blocks);
        };
        ready = fewer (ahead.changes id) 1 (ahead.cover id) some (row_of value.rows id) (room.rows id is.one);
      }

module _ (ahead : Ahead) (before after : TableValue) (id : InodeId) (tick : ℕ) (what : Change) (room : HasRoomFor ahead before) (is : IsAhead ahead before id what) (step : IsChanged before after id (ahead.cover id) tick what) where
  abbrev left : InodeId → ℕ
  left = (changed_one id ahead).changes

  left_here : left id ≡ ahead.changes id - 1
  left_here = ap (λ b. cond b (ahead.changes id - 1) (ahead.changes id)) ((Decides-eqb id.0 id.0).1 refl)

  left_there : (x : InodeId) → x ≢ id → left x ≡ ahead.changes x
  left_there x apart = elim (same_inode x id) as (λ b. same_inode x id ≡ b → cond b (ahead.changes x - 1) (ahead.changes x) ≡ ahead.changes x) [
    | true ↦ λ t. absurd (apart (ap (λ (n : ℕ). record { 0 = n }) ((Decides-eqb x.0 id.0).0 t)))
    | false ↦ λ t. refl
  ] refl

  few_left : (x : InodeId) → left x ≤ ahead.changes x
  few_left x = elim (same_inode x id) as (λ b. cond b (ahead.changes x - 1) (ahead.changes x) ≤ ahead.changes x) [ true ↦ omega arith | false ↦ omega arith ]

  abbrev come_before : InodeId → ℕ
  come_before x = blocks_to_come (ahead.changes x) (ahead.cover x) (rows_at (told before).rows x)

  abbrev come_after : InodeId → ℕ
  come_after x = blocks_to_come (left x) (ahead.cover x) (rows_at (told after).rows x)

  rows_here : rows_at (told after).rows id ≡ option_map (λ r. changed_rows (ahead.cover id) tick what r.rows) (row_at (told before).rows id)
  rows_here = ap (λ (t : Tabled). rows_at t.rows id) step.whole ∙ rows-changed (told before) id (ahead.cover id) tick what

  come_here : come_after id + blocks_grown (ahead.cover id) tick what (row_at (told before).rows id) ≤ come_before id
  come_here =
      let few = here_few ahead before id tick what room is in
      let now : come_after id ≡ blocks_to_come (ahead.changes id - 1) (ahead.cover id) (option_map (λ r. changed_rows (ahead.cover id) tick what r.rows) (row_at (told before).rows id))
      = ap (λ n. blocks_to_come n (ahead.cover id) (rows_at (told after).rows id)) left_here ∙ ap (blocks_to_come (ahead.changes id - 1) (ahead.cover id)) rows_here in
      omega (arith, few, now)

  come_there : (x : InodeId) → x ≢ id → come_after x ≡ come_before x
  come_there x apart = ap (λ n. blocks_to_come n (ahead.cover x) (rows_at (told after).rows x)) (left_there x apart) ∙ ap (blocks_to_come (ahead.changes x) (ahead.cover x)) (rows_same before after x (step.there x apart))

  come_few : (x : InodeId) → come_after x ≤ come_before x
  come_few x = by_id x id
      (λ e. let here = come_here in subst (λ (j : InodeId). come_after j ≤ come_before j) (sym e) (omega (arith, here)))
      (λ apart. let there = come_there x apart in omega (arith, there))

  ready_here : IsRowReady (left id) (ahead.cover id) (row_of after.rows id)
  ready_here = subst (λ n. IsRowReady n (ahead.cover id) (row_of after.rows id)) (sym left_here) (step.ready (ahead.changes id - 1) (subst (λ n. IsRowReady n (ahead.cover id) (row_of before.rows id)) (one_less ahead before id tick what room is) (room.rows id is.one)))

  pub change-leaves : HasRoomFor (changed_one id ahead) after
  change-leaves =
      let here = left_here in
      let some = is.some in
      let one = sum_less left ahead.changes few_left 1 id (omega (arith, here, some)) ahead.ids is.one in
      let blocks = sum_less come_after come_before come_few (blocks_grown (ahead.cover id) tick what (row_at (told before).rows id)) id come_here ahead.ids is.one in
      record {
        slots = omega (arith, room.slots, step.kept.slots);
        index = omega (arith, room.index, step.kept.index, one);
        stack = omega (arith, room.stack, step.kept.stack, one);
        blocks = omega (arith, room.blocks, step.kept.blocks, blocks);
        rows = λ x within. by_id x id
            (λ e. subst (λ (j : InodeId). IsRowReady (left j) (ahead.cover j) (row_of after.rows j)) (sym e) ready_here)
            (λ apart. subst (λ n. IsRowReady n (ahead.cover x) (row_of after.rows x)) (sym (left_there x apart)) (ready-rows (ahead.changes x) (ahead.cover x) (row_of before.rows x) (row_of after.rows x) (step.there x apart) (room.rows x within)));
      }

-- ---- others

pub marks-leave : (ahead : Ahead) (before after : TableValue) (id : InodeId) (since carry : SnapId) → HasRoomFor ahead before → row_of after.rows id ≡ option_map (with_marks since carry) (row_of before.rows id)
    → ((other : InodeId) → other ≢ id → row_of after.rows other ≡ row_of before.rows other) → after.room ≡ before.room → HasRoomFor ahead after
marks-leave ahead before after id since carry room here there same =
    let blocks = sum_same (λ x. blocks_to_come (ahead.changes x) (ahead.cover x) (rows_at (told after).rows x)) (λ x. blocks_to_come (ahead.changes x) (ahead.cover x) (rows_at (told before).rows x)) ahead.ids
    (λ x one. ap (blocks_to_come (ahead.changes x) (ahead.cover x)) (rows_same before after x (alike x))) in
    let slots = ap (λ r. r.slots) same in
    let index = ap (λ r. r.index) same in
    let stack = ap (λ r. r.stack) same in
    let most = ap (λ r. r.blocks) same in
    record {
      slots = omega (arith, room.slots, slots);
      index = omega (arith, room.index, index);
      stack = omega (arith, room.stack, stack);
      blocks = omega (arith, room.blocks, blocks, most);
      rows = λ x one. ready-rows (ahead.changes x) (ahead.cover x) (row_of before.rows x) (row_of after.rows x) (alike x) (room.rows x one);
    }
  where
    blind : (o : Option Row) → rows_in (option_map (with_marks since carry) o) ≡ rows_in o
    blind None = refl
    blind (Some row) = refl

    alike : (x : InodeId) → rows_in (row_of after.rows x) ≡ rows_in (row_of before.rows x)
    alike x = by_id x id
        (λ e. subst (λ (j : InodeId). rows_in (row_of after.rows j) ≡ rows_in (row_of before.rows j)) (sym e) (ap rows_in here ∙ blind (row_of before.rows id)))
        (λ apart. ap rows_in (there x apart))

pub release-fits : (ahead : Ahead) (value : TableValue) → HasRoomFor ahead value → 0 < value.room.blocks
release-fits ahead value room = let blocks = room.blocks in omega (arith, blocks)

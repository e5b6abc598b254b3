-- Rows count their names truly, as one goes and others are named less.
use Rattle.std.proofs.Common.{◌≡◌, ℕ, zero, suc, ◌+◌, ◌-◌, ◌<◌, ◌≤◌, Bool, true, false, cond, nat_eq, List, [], ◌∷◌, ◌++◌, Option, Some, None, slice_get, set, get_or, length, refl, sym, ap, subst, ◌∙◌, append_assoc, length-append, length-set, ⊎_elim, arith}
use Rattle.std.specs.Prelude.{◌≢◌, not, filter, remove}
use Rattle.std.specs.List.{Contains}
use Rattle.std.specs.Option.{option_map}
use Rattle.std.proofs.lemmas.Bool.Decides.{Decides-eqb}
use Rattle.std.proofs.lemmas.List.Elements.{Contains-append_cases}
use Rattle.hs_types.specs.declared.ids.BlockId.{BlockId}
use Rattle.hs_types.specs.declared.ids.InodeId.{InodeId}
use Rattle.hs_plain.proofs.ValidShapes.{none_some, same_some}
use Rattle.file_changes.specs.declared.state.FileRecord.{FileRecord}
use Rattle.file_changes.specs.History as files
use Rattle.file_changes.specs.History.{FileHistory, blocks_at, only_at, names}
use Rattle.dir_changes.specs.Counts.{times, one_where, same_id}
use Rattle.inode_table.specs.declared.row.Row.{Row}
use Rattle.inode_table.specs.RowHistory.{RowHistory, RowState, File, Dir, Table}
use Rattle.inode_table.specs.Stands.{root_id}
use Rattle.inode_table.specs.Names.{named_in, times_named}
use Rattle.inode_table.specs.Numbered.{history_of, state_of, at_place, flat}
use Rattle.inode_table.specs.Indexed.{Index}
use Rattle.inode_table.specs.Totals.{total, block_count, blocks_saved, blocks_named, weight, records_in, entries_of}
use Rattle.inode_table.specs.Tabled.{Tabled}
use Rattle.inode_table.specs.Released.{all_named_less, blocks_below, blocks_in, MayGo, ReleasedBy, Releasing}
use Rattle.inode_table.specs.Slots.{Slots, table_in, named_rows, AreCounted, AreListed, AreListedBut}
use Rattle.inode_table.specs.Lessened.{lessened, lessen_at, lessen_all, is_last, ended_at, ended, told_in, HaveGone, Steady}
use Rattle.inode_table.specs.Whole.{AllNamed}
use Rattle.inode_table.proofs.Reading.{by_id}
use Rattle.inode_table.proofs.Placing.{place-set-there, place-within, slot-told}
use Rattle.inode_table.proofs.Places.{table-emptied, table-all-less, total-written, total-less, named-less}
use Rattle.inode_table.proofs.Going.{released-more}

-- ---- what stands at a place

at_emptied_from : (rows : Slots) (i : ℕ) → flat (slice_get (set rows i None) i) ≡ None
at_emptied_from [] i = refl
at_emptied_from (slot ∷ rows) zero = refl
at_emptied_from (slot ∷ rows) (suc i) = at_emptied_from rows i

at_less_from : (rows : Slots) (i : ℕ) → flat (slice_get (set rows i (option_map lessened (flat (slice_get rows i)))) i) ≡ option_map lessened (flat (slice_get rows i))
at_less_from [] i = refl
at_less_from (slot ∷ rows) zero = refl
at_less_from (slot ∷ rows) (suc i) = at_less_from rows i

pub at_emptied : (rows : Slots) (id : InodeId) → at_place (set rows id.0 None) id ≡ None
at_emptied rows id = at_emptied_from rows id.0

pub at_less : (rows : Slots) (id : InodeId) → at_place (lessen_at id rows) id ≡ option_map lessened (at_place rows id)
at_less rows id = at_less_from rows id.0

-- the row that was lessened to one
module _ {P : Type 0} (row : Row) where
  from_less : (o : Option Row) → option_map lessened o ≡ Some row → ((old : Row) → o ≡ Some old → row ≡ lessened old → P) → P
  from_less None h then = absurd (none_some h)
  from_less (Some old) h then = then old refl (sym (same_some h))

-- ---- counts

module _ (rows : Slots) (id : InodeId) where
  names_kept : (x : InodeId) → times_named x (table_in (lessen_at id rows)) ≡ times_named x (table_in rows)
  names_kept x = total-less (λ r. times x (named_in r.rows)) (λ r n. refl) id rows

  own : one_where (same_id id id) ≡ 1
  own = ap one_where ((Decides-eqb id.0 id.0).1 refl)

  not_own : (x : InodeId) → x ≢ id → one_where (same_id id x) ≡ 0
  not_own x apart = elim (same_id id x) as (λ b. same_id id x ≡ b → one_where b ≡ 0) [
    | true ↦ λ e. absurd (apart (sym (ap (λ (n : ℕ). record { 0 = n }) ((Decides-eqb id.0 x.0).0 e))))
    | false ↦ λ e. refl
  ] refl

  pub counted-less : (rest : List InodeId) → AreCounted rows (id ∷ rest) → AreCounted (lessen_at id rows) rest
  counted-less rest are = record {
    counted = λ x row h. by_id x id
        (λ e. here x row e (at_less rows id) h)
        (λ ne. let was = are.counted x row (sym (place-set-there rows id x (option_map lessened (at_place rows id)) ne) ∙ h) in let same = names_kept x in let none = not_own x ne in omega (arith, was, same, none));
    there = λ x some. let same = names_kept x in let old = are.there x (omega (arith, some, same)) in by_id x id
        (λ e. (lessened old.0, ap (at_place (lessen_at id rows)) e ∙ at_less rows id ∙ ap (λ (i : InodeId). option_map lessened (at_place rows i)) (sym e) ∙ ap (option_map lessened) old.1))
        (λ ne. (old.0, place-set-there rows id x (option_map lessened (at_place rows id)) ne ∙ old.1));
  }
    where
      here : (x : InodeId) (row : Row) → x ≡ id → at_place (lessen_at id rows) id ≡ option_map lessened (at_place rows id) → at_place (lessen_at id rows) x ≡ Some row → row.names ≡ times_named x (table_in (lessen_at id rows)) + times x rest
      here x row e less h = from_less row (at_place rows id) (sym less ∙ ap (at_place (lessen_at id rows)) (sym e) ∙ h) (λ old was is.
          let count = are.counted id old was in let same = names_kept id in let one = own in
          let less_names : row.names ≡ old.names - 1 = ap (λ (r : Row). r.names) is in
          let at_id : row.names ≡ times_named id (table_in (lessen_at id rows)) + times id rest = omega (arith, count, same, one, less_names) in
          subst (λ (i : InodeId). row.names ≡ times_named i (table_in (lessen_at id rows)) + times i rest) (sym e) at_id)

  pub counted-emptied : (row : Row) → at_place rows id ≡ Some row → row.names ≡ 0 → AreCounted rows [] → AreCounted (set rows id.0 None) (named_in (history_of row.rows))
  counted-emptied row there none are = record {
    counted = λ x r h. by_id x id
        (λ e. absurd (none_some (sym (at_emptied rows id) ∙ ap (at_place (set rows id.0 None)) (sym e) ∙ h)))
        (λ ne. let was = are.counted x r (sym (place-set-there rows id x None ne) ∙ h) in let sum = taken x in omega (arith, was, sum));
    there = λ x some. let sum = taken x in let old = are.there x (omega (arith, some, sum)) in by_id x id
        (λ e. absurd (let is_row : old.0 ≡ row = same_some (sym old.1 ∙ ap (at_place rows) e ∙ there) in let count = are.counted x old.0 old.1 in let names : old.0.names ≡ row.names = ap (λ (r : Row). r.names) is_row in omega (arith, count, names, none, some, sum)))
        (λ ne. (old.0, place-set-there rows id x None ne ∙ old.1));
  }
    where
      taken : (x : InodeId) → times_named x (table_in (set rows id.0 None)) + times x (named_in (history_of row.rows)) ≡ times_named x (table_in rows) + 0
      taken x = subst (λ (o : Option Row). times_named x (table_in (set rows id.0 None)) + weight_of x o ≡ times_named x (table_in rows) + 0) there (total-written (λ r. times x (named_in r.rows)) rows id.0 None (place-within rows id row there))
        where
          weight_of : InodeId → Option Row → ℕ
          weight_of x None = 0
          weight_of x (Some r) = times x (named_in (history_of r.rows))

pub counted-all-less : (ids : List InodeId) (rows : Slots) → AreCounted rows ids → AreCounted (lessen_all ids rows) []
counted-all-less [] rows are = are
counted-all-less (id ∷ ids) rows are = counted-all-less ids (lessen_at id rows) (counted-less rows id ids are)

-- ---- the list of rows that aren't named

front_at : (a b : List InodeId) (x : InodeId) (k : ℕ) → k < length a → get_or a k x ≡ x → Contains (a ++ b) x
front_at [] b x k lt e = absurd (omega (arith, lt))
front_at (y ∷ a) b x zero lt e = (zero, omega arith, e)
front_at (y ∷ a) b x (suc k) lt e = let rest = front_at a b x k (omega (arith, lt)) e in (suc rest.0, let within = rest.1 in omega (arith, within), rest.2)

in_front : (a b : List InodeId) (x : InodeId) → Contains a x → Contains (a ++ b) x
in_front a b x h = front_at a b x h.0 h.1 h.2

at_end : (a : List InodeId) (x : InodeId) → Contains (a ++ x ∷ []) x
at_end [] x = (0, omega arith, refl)
at_end (y ∷ a) x = let rest = at_end a x in (suc rest.0, let lt = rest.1 in omega (arith, lt), rest.2)

pub listed-less : (rows : Slots) (id : InodeId) (unnamed : List InodeId) → AreListed rows unnamed → AreListed (lessen_at id rows) (unnamed ++ ended_at id rows)
listed-less rows id unnamed are x row h not_root none = by_id x id
    (λ e. from_less row (at_place rows id) (sym (at_less rows id) ∙ ap (at_place (lessen_at id rows)) (sym e) ∙ h) (λ old was is.
    let zero_names : old.names - 1 ≡ 0 = ap (λ (r : Row). r.names) (sym is) ∙ none in
    subst (λ (i : InodeId). Contains (unnamed ++ ended_at id rows) i) (sym e) (ends old was (λ e2. not_root (e ∙ e2)) old.names refl zero_names)))
    (λ ne. in_front unnamed (ended_at id rows) x (are x row (sym (place-set-there rows id x (option_map lessened (at_place rows id)) ne) ∙ h) not_root none))
  where
    ends : (old : Row) → at_place rows id ≡ Some old → id ≢ root_id → (n : ℕ) → old.names ≡ n → n - 1 ≡ 0 → Contains (unnamed ++ ended_at id rows) id
    ends old was other zero is low = in_front unnamed (ended_at id rows) id (are id old was other is)
    ends old was other (suc zero) is low = subst (λ (ids : List InodeId). Contains (unnamed ++ ids) id) (sym (ap (λ o. cond (is_last o) (id ∷ []) []) was ∙ ap (λ n. cond (nat_eq n 1) (id ∷ []) []) is)) (at_end unnamed id)
    ends old was other (suc (suc n)) is low = absurd (omega (arith, low))

pub listed-all-less : (ids : List InodeId) (rows : Slots) (unnamed : List InodeId) → AreListed rows unnamed → AreListed (lessen_all ids rows) (unnamed ++ ended ids rows)
listed-all-less [] rows unnamed are = λ x row h not_root none. in_front unnamed [] x (are x row h not_root none)
listed-all-less (id ∷ ids) rows unnamed are =
    subst (AreListed (lessen_all ids (lessen_at id rows))) (append_assoc unnamed (ended_at id rows) (ended ids (lessen_at id rows)))
    (listed-all-less ids (lessen_at id rows) (unnamed ++ ended_at id rows) (listed-less rows id unnamed are))

pub listed-emptied : (rows : Slots) (id : InodeId) (unnamed : List InodeId) → AreListedBut id rows unnamed → AreListed (set rows id.0 None) unnamed
listed-emptied rows id unnamed are x row h not_root none = by_id x id
    (λ e. absurd (none_some (sym (at_emptied rows id) ∙ ap (at_place (set rows id.0 None)) (sym e) ∙ h)))
    (λ ne. are x row (sym (place-set-there rows id x None ne) ∙ h) not_root ne none)

only_one : (y x : InodeId) (k : ℕ) → k < length (y ∷ []) → get_or (y ∷ []) k x ≡ x → x ≡ y
only_one y x zero lt e = sym e
only_one y x (suc k) lt e = absurd (omega arith)

pub listed-popped : (rows : Slots) (id : InodeId) (unnamed : List InodeId) → AreListed rows (unnamed ++ id ∷ []) → AreListedBut id rows unnamed
listed-popped rows id unnamed are x row h not_root ne none =
    ⊎_elim (λ old. old) (λ last. absurd (ne (only_one id x last.0 last.1 last.2))) (Contains-append_cases unnamed (id ∷ []) x (are x row h not_root none))

pub listed-stays : (rows : Slots) (id : InodeId) (unnamed : List InodeId) → AreListedBut id rows unnamed → ((row : Row) → at_place rows id ≡ Some row → id ≢ root_id → row.names ≡ 0 → ⊥) → AreListed rows unnamed
listed-stays rows id unnamed are never x row h not_root none = by_id x id
    (λ e. absurd (never row (ap (at_place rows) (sym e) ∙ h) (λ r. not_root (e ∙ r)) none))
    (λ ne. are x row h not_root ne none)

-- ---- room

pub named-all-less : (ids : List InodeId) (rows : Slots) → named_rows (lessen_all ids rows) + length (ended ids rows) ≡ named_rows rows
named-all-less [] rows = omega arith
named-all-less (id ∷ ids) rows = let rest = named-all-less ids (lessen_at id rows) in let here = named-less id rows in let sum = length-append (ended_at id rows) (ended ids (lessen_at id rows)) in omega (arith, rest, here, sum)

named_emptied_from : (rows : Slots) (i : ℕ) → named_rows (set rows i None) ≤ named_rows rows
named_emptied_from [] i = omega arith
named_emptied_from (slot ∷ rows) zero = omega arith
named_emptied_from (slot ∷ rows) (suc i) = let rest = named_emptied_from rows i in omega (arith, rest)

pub named-emptied : (rows : Slots) (id : InodeId) → named_rows (set rows id.0 None) ≤ named_rows rows
named-emptied rows id = named_emptied_from rows id.0

filtered : (test : BlockId → Bool) (blocks : List BlockId) → length (filter test blocks) ≤ length blocks
filtered test [] = omega arith
filtered test (b ∷ blocks) = let rest = filtered test blocks in elim (test b) as (λ t. length (cond t (b ∷ filter test blocks) (filter test blocks)) ≤ length (b ∷ blocks)) [ true ↦ omega (arith, rest) | false ↦ omega (arith, rest) ]

pub blocks_removed : (records : List FileRecord) (i : ℕ) → blocks_saved (remove records i) + length (blocks_at records i) ≡ blocks_saved records
blocks_removed [] zero = refl
blocks_removed [] (suc i) = refl
blocks_removed (r ∷ rs) zero = omega arith
blocks_removed (r ∷ rs) (suc i) = let rest = blocks_removed rs i in omega (arith, rest)

pub only-few : (i : ℕ) (file : FileHistory) → length (only_at i file) + block_count (File (files.without_record i file)) ≤ block_count (File file)
only-few i file =
    let few : length (only_at i file) ≤ length (blocks_at file.records i) = filtered (λ block. not (names (files.without_record i file) block)) (blocks_at file.records i) in
    let sum = blocks_removed file.records i in
    let current : length (files.without_record i file).current.blocks ≡ length file.current.blocks = refl in
    let saved : blocks_saved (files.without_record i file).records ≡ blocks_saved (remove file.records i) = refl in
    omega (arith, few, sum, current, saved)

pub below-few : (n : ℕ) (file : FileHistory) → length (blocks_below n file) ≤ block_count (File file)
below-few zero file = omega arith
below-few (suc n) file = let rest = below-few n (files.without_record n file) in let one = only-few n file in let sum = length-append (only_at n file) (blocks_below n (files.without_record n file)) in omega (arith, rest, one, sum)

pub blocks-few : (rows : RowHistory) → length (blocks_in rows) ≤ block_count rows
blocks-few (File file) = below-few (length file.records) file
blocks-few (Dir dir) = omega arith

pub blocks-all-less : (ids : List InodeId) (rows : Slots) → blocks_named (table_in (lessen_all ids rows)) ≡ blocks_named (table_in rows)
blocks-all-less [] rows = refl
blocks-all-less (id ∷ ids) rows = blocks-all-less ids (lessen_at id rows) ∙ total-less (λ r. block_count r.rows) (λ r n. refl) id rows

pub blocks-emptied : (rows : Slots) (id : InodeId) (row : Row) → at_place rows id ≡ Some row → blocks_named (table_in (set rows id.0 None)) + block_count (history_of row.rows) ≡ blocks_named (table_in rows)
blocks-emptied rows id row there = let sum = subst (λ (o : Option Row). blocks_named (table_in (set rows id.0 None)) + count_of o ≡ blocks_named (table_in rows) + 0) there (total-written (λ r. block_count r.rows) rows id.0 None (place-within rows id row there)) in omega (arith, sum)
  where
    count_of : Option Row → ℕ
    count_of None = 0
    count_of (Some r) = block_count (history_of r.rows)

-- ---- the plain rows

pub none-gone : (rows : Slots) (waiting : List BlockId) → HaveGone 0 rows rows waiting waiting
none-gone rows waiting = record { gone = []; count = refl; steps = λ index greatest. refl }

-- one row more goes
pub gone-more : (n : ℕ) (old rows : Slots) (waited waiting : List BlockId) (id : InodeId) (row : Row) → HaveGone n old rows waited waiting → AreCounted rows [] → at_place rows id ≡ Some row → id ≢ root_id → row.names ≡ 0
    → HaveGone (n + 1) old (lessen_all (named_in (history_of row.rows)) (set rows id.0 None)) waited (waiting ++ blocks_in (history_of row.rows))
gone-more n old rows waited waiting id row have are there not_root none = record {
  gone = have.gone ++ id ∷ [];
  count = let sum = length-append have.gone (id ∷ []) in let was = have.count in omega (arith, sum, was);
  steps = λ index greatest. subst (λ (t : Table). ReleasedBy (told_in old index greatest waited) (have.gone ++ id ∷ []) (record { rows = t; index = index; greatest = greatest; waiting = waiting ++ blocks_in (history_of row.rows) }))
      (sym (table-all-less (named_in (history_of row.rows)) (set rows id.0 None) ∙ ap (all_named_less (named_in (history_of row.rows))) (table-emptied rows id)))
      (released-more have.gone (told_in old index greatest waited) (told_in rows index greatest waiting) id (state_of row) (have.steps index greatest) may);
}
  where
    may : MayGo (table_in rows) id (state_of row)
    may = record { there = slot-told rows id ∙ ap (option_map state_of) there; not_root = not_root; not_named = let count = are.counted id row there in omega (arith, count, none) }

pub all-named : (rows : Slots) → AreCounted rows [] → AreListed rows [] → AllNamed (table_in rows)
all-named rows are listed id history h not_root = by (at_place rows id) refl (sym (ap (option_map (λ (r : RowState). r.rows)) (slot-told rows id)) ∙ h)
  where
    some_names : (row : Row) → at_place rows id ≡ Some row → (n : ℕ) → row.names ≡ n → 0 < n
    some_names row there zero is = absurd (let nowhere = listed id row there not_root is in let lt = nowhere.1 in omega (arith, lt))
    some_names row there (suc n) is = omega arith

    by : (o : Option Row) → at_place rows id ≡ o → option_map (λ (r : RowState). r.rows) (option_map state_of o) ≡ Some history → 0 < times_named id (table_in rows)
    by None there e = absurd (none_some e)
    by (Some row) there e = let count = are.counted id row there in let some = some_names row there row.names refl in omega (arith, count, some)

-- ---- a whole step

pub length-less : (id : InodeId) (rows : Slots) → length (lessen_at id rows) ≡ length rows
length-less id rows = length-set rows id.0 (option_map lessened (at_place rows id))

pub length-all-less : (ids : List InodeId) (rows : Slots) → length (lessen_all ids rows) ≡ length rows
length-all-less [] rows = refl
length-all-less (id ∷ ids) rows = length-all-less ids (lessen_at id rows) ∙ length-less id rows

-- a row alone
abbrev pub one_weight : RowState → ℕ
one_weight row = 1 + (records_in row.rows + entries_of row.rows)

pub weight_is : (table : Table) → weight table ≡ total one_weight table
weight_is [] = refl
weight_is (e ∷ es) = let rest = weight_is es in omega (arith, rest)

pub weight-all-less : (ids : List InodeId) (rows : Slots) → weight (table_in (lessen_all ids rows)) ≡ weight (table_in rows)
weight-all-less [] rows = refl
weight-all-less (id ∷ ids) rows = weight-all-less ids (lessen_at id rows) ∙ weight_is (table_in (lessen_at id rows)) ∙ total-less one_weight (λ r n. refl) id rows ∙ sym (weight_is (table_in rows))

pub weight-emptied : (rows : Slots) (id : InodeId) (row : Row) → at_place rows id ≡ Some row → weight (table_in (set rows id.0 None)) ≤ weight (table_in rows)
weight-emptied rows id row there =
    let sum = total-written one_weight rows id.0 None (place-within rows id row there) in
    let a = weight_is (table_in (set rows id.0 None)) in
    let b = weight_is (table_in rows) in
    omega (arith, sum, a, b)

-- what a row that goes leaves between the steps
pub steady-gone : (rows : Slots) (id : InodeId) (row : Row) (unnamed places waiting room blocks after : ℕ) → at_place rows id ≡ Some row → row.names ≡ 0 → Steady rows unnamed places waiting room blocks
    → after + block_count (history_of row.rows) ≡ blocks
    → Steady (lessen_all (named_in (history_of row.rows)) (set rows id.0 None)) (unnamed + length (ended (named_in (history_of row.rows)) (set rows id.0 None))) places (waiting + length (blocks_in (history_of row.rows))) room after
steady-gone rows id row unnamed places waiting room blocks after there none is taken = record {
  counted = counted-all-less (named_in (history_of row.rows)) (set rows id.0 None) (counted-emptied rows id row there none is.counted);
  stack = let fewer = named-emptied rows id in let sum = named-all-less (named_in (history_of row.rows)) (set rows id.0 None) in let was = is.stack in omega (arith, fewer, sum, was);
  blocks = let same = blocks-all-less (named_in (history_of row.rows)) (set rows id.0 None) in let sum = blocks-emptied rows id row there in let was = is.blocks in omega (arith, same, sum, was, taken);
  room = let few = blocks-few (history_of row.rows) in let was = is.room in omega (arith, few, was, taken);
}

pub listed-gone : (rows : Slots) (id : InodeId) (row : Row) (unnamed : List InodeId) → AreListedBut id rows unnamed
    → AreListed (lessen_all (named_in (history_of row.rows)) (set rows id.0 None)) (unnamed ++ ended (named_in (history_of row.rows)) (set rows id.0 None))
listed-gone rows id row unnamed are = listed-all-less (named_in (history_of row.rows)) (set rows id.0 None) unnamed (listed-emptied rows id unnamed are)

-- the whole release
pub releasing-of : (old new : Slots) (waited reserved waiting blocks left : List BlockId) (index : Index) (g h n : ℕ) (before : Tabled) → HaveGone n old new reserved waiting
    → before ≡ told_in old index g waited → reserved ≡ waited → h ≡ g → blocks ≡ waiting → AllNamed (table_in new) → left ≡ [] → Releasing before (record { rows = n; blocks = blocks }) (told_in new index h left)
releasing-of old new waited reserved waiting blocks left index g h n before have is_before is_reserved is_h is_blocks named is_left = record {
  gone = have.gone;
  steps = subst (λ (t : Tabled). ReleasedBy t have.gone (told_in new index h blocks)) (sym is_before)
      (subst (λ (w : List BlockId). ReleasedBy (told_in old index g w) have.gone (told_in new index h blocks)) is_reserved
      (subst (λ (k : ℕ). ReleasedBy (told_in old index g reserved) have.gone (told_in new index k blocks)) (sym is_h)
      (subst (λ (w : List BlockId). ReleasedBy (told_in old index g reserved) have.gone (told_in new index g w)) (sym is_blocks) (have.steps index g))));
  all_named = named;
  rows = have.count;
  waiting = is_left;
}

-- Records and the index through the steps of a table.
use Rattle.std.proofs.Common.{◌≡◌, ℕ, ◌+◌, ◌<◌, ◌≤◌, Bool, true, false, cond, nat_lt, nat_le, List, [], ◌∷◌, ◌++◌, Some, None, refl, sym, ap, subst, ◌∙◌, ⊎_elim, arith}
use Rattle.std.specs.Prelude.{◌≢◌}
use Rattle.std.specs.List.{Contains, list_all}
use Rattle.std.specs.Option.{option_map}
use Rattle.std.specs.Ordering.{eq_by_cmp}
use Rattle.std.proofs.lemmas.Bool.Decides.{nat_tests}
use Rattle.std.proofs.lemmas.List.Elements.{Contains-append_left, Contains-push_cases}
use Rattle.hs_types.specs.Names.{Names}
use Rattle.hs_types.specs.declared.ids.InodeId.{InodeId}
use Rattle.hs_types.specs.declared.ids.SnapId.{SnapId}
use Rattle.hs_types.specs.declared.name.Spot.{Spot}
use Rattle.hs_plain.specs.declared.state.Member.{Member}
use Rattle.hs_plain.specs.declared.state.Node.{Node}
use Rattle.hs_plain.specs.declared.state.State.{State}
use Rattle.hs_plain.specs.declared.state.FileBlocks.{FileBlocks}
use Rattle.hs_plain.specs.Change.{snapped, new_member, resnapped, rename_member, is_snapshot}
use Rattle.hs_plain.specs.Tree.{node_at}
use Rattle.hs_plain.specs.Valid.{IsValid}
use Rattle.hs_plain.proofs.ValidTrees.{first, second}
use Rattle.hs_plain.proofs.ValidShapes.{none_some, same_some}
use Rattle.inode_table.specs.declared.change.Change.{Change}
use Rattle.inode_table.specs.declared.freed.Freed.{Freed}
use Rattle.inode_table.specs.Indexed.{Index, IsRising, noted}
use Rattle.inode_table.specs.Kept.{CanChange, AreSound, IsBare}
use Rattle.inode_table.specs.Marks.{InCopy, IsChain, last_of, cover}
use Rattle.inode_table.specs.Reads.{ReadsAs, Has, Child, id_of}
use Rattle.inode_table.specs.Records.{Recorded, last_of_all}
use Rattle.inode_table.specs.Released.{let_go, ReleasedBy, Releasing}
use Rattle.inode_table.specs.RowHistory.{RowHistory, RowState, File, Dir, Table, id_order, row_at, rows_at, shown, marks_of, last_in, last_after, is_live_between, need}
use Rattle.inode_table.specs.Start.{first_table, first_row}
use Rattle.inode_table.specs.Snaps.{NumbersWithin}
use Rattle.inode_table.specs.Stands.{Stands, root_id}
use Rattle.inode_table.specs.Tabled.{Tabled, changed, changed_rows, inserted, fresh_row, stamp_of, marked_row, starts_in}
use Rattle.inode_table.specs.Whole.{IsIndexed, numbers_in, IsFilled}
use Rattle.inode_table.proofs.Covers.{cover-bound}
use Rattle.inode_table.proofs.Renaming.{cover-within}
use Rattle.inode_table.proofs.Kept.{safe-need, safe-later}
use Rattle.inode_table.proofs.Reading.{by_id}
use Rattle.table_laws.specs.Recording.{IsRecorded, AreBefore, MayRecord, IsCover, IsSame, AreAmong}
use Rattle.table_laws.proofs.RecordElements.{by_first, not_empty, in_map, from_map}
use Rattle.table_laws.proofs.RecordIndex.{noted-kept, noted-here, rising-noted, filled-noted, filled-more}
use Rattle.table_laws.proofs.RecordNumbers.{numbers_after, changed-numbers, changed-sound, last_so, last-after, bare-numbers, bare-sound, recorded-after, recorded-other, each-within, rise, none-recorded}
use Rattle.table_laws.proofs.RecordRows.{put-here, put-there, changed-here, changed-there, changed-index, marked-same, gone-was}

-- ---- one record

indexed-noted : (tick : ℕ) (x id : InodeId) (index : Index) (members : List (Member FileBlocks)) (number : ℕ) → IsIndexed index members id number → IsIndexed (noted tick x index) members id number
indexed-noted tick x id index members number i = record { tick = i.tick; named = noted-kept tick x index (record { tick = i.tick; id = id }) i.named; after = i.after; before = i.before }

indexed-if : (b : Bool) (tick : ℕ) (x id : InodeId) (index : Index) (members : List (Member FileBlocks)) (number : ℕ) → IsIndexed index members id number → IsIndexed (cond b (noted tick x index) index) members id number
indexed-if true tick x id index members number i = indexed-noted tick x id index members number i
indexed-if false tick x id index members number i = i

indexed-new : (members : List (Member FileBlocks)) (index : Index) (tick number : ℕ) (id : InodeId) → IsCover members id number → AreBefore members tick → IsIndexed (noted tick id index) members id number
indexed-new members index tick number id covers earlier = record {
  tick = tick;
  named = noted-here tick id index;
  after = λ m is_live _. earlier m is_live;
  before = λ m is_live lt has. let le = covers m is_live has in absurd (omega (arith, le, lt));
}

rising-if : (b : Bool) (tick : ℕ) (id : InodeId) (index : Index) → IsRising index → IsRising (cond b (noted tick id index) index)
rising-if true tick id index up = rising-noted tick id index up
rising-if false tick id index up = up

-- ---- a row is changed

sound_row : (t : Tabled) (members : List (Member FileBlocks)) (issued : ℕ) (id : InodeId) (rows : RowHistory) → IsRecorded t members issued → rows_at t.rows id ≡ Some rows → AreSound rows
sound_row t members issued id (File file) are there = tt
sound_row t members issued id (Dir dir) are there = are.undoable id dir there

module _ (t : Tabled) (members : List (Member FileBlocks)) (issued number tick : ℕ) (id : InodeId) (what : Change) (can : CanChange t.rows id what) (may : MayRecord members issued id can.row.rows number tick) (are : IsRecorded t members issued) where
  abbrev old : RowHistory
  old = can.row.rows

  abbrev new : RowHistory
  new = changed_rows number tick what old

  was : rows_at t.rows id ≡ Some old
  was = ap (option_map (λ (r : RowState). r.rows)) can.there

  here : rows_at (changed id number tick what t).rows id ≡ Some new
  here = changed-here t id number tick what can.row can.there

  there : (x : InodeId) → x ≢ id → rows_at (changed id number tick what t).rows x ≡ rows_at t.rows x
  there x apart = changed-there t id x number tick what can.row can.there apart

  -- a row is the changed one, or as it was
  by_row : {P : Type 0} (x : InodeId) (rows : RowHistory) → rows_at (changed id number tick what t).rows x ≡ Some rows → (x ≡ id → new ≡ rows → P) → (rows_at t.rows x ≡ Some rows → P) → P
  by_row x rows h same other = by_id x id
      (λ e. same e (same_some (sym here ∙ ap (rows_at (changed id number tick what t).rows) (sym e) ∙ h)))
      (λ apart. other (sym (there x apart) ∙ h))

  is_index : (changed id number tick what t).index ≡ cond (nat_lt (last_in old) number) (noted tick id t.index) t.index
  is_index = changed-index t id number tick what can.row can.there

  within_new : last_in new ≤ issued
  within_new =
      let last = last_so new ∙ ap (last_of_all 0) (changed-numbers number tick what old) ∙ last-after number old in
      let most = are.within id old was in
      let upto = may.within in
      elim (nat_lt (last_in old) number) as (λ b. last_in new ≡ cond b number (last_in old) → last_in new ≤ issued) [
        | true ↦ λ e. omega (arith, e, upto)
        | false ↦ λ e. omega (arith, e, most)
      ] last

  -- where a record is started its number is a cover
  is_cover : last_in old < number → IsCover members id number
  is_cover lt m is_live has = let le = may.enough m is_live has in
      elim (nat_lt (last_in old) number) as (λ b. nat_lt (last_in old) number ≡ b → m.snapshot.0 ≤ cond b number (last_in old) → m.snapshot.0 ≤ number) [
        | true ↦ λ _ k. k
        | false ↦ λ _ k. omega (arith, k, lt)
      ] refl le

  indexed_here : (n : ℕ) → Contains (numbers_after number old) n → IsIndexed (cond (nat_lt (last_in old) number) (noted tick id t.index) t.index) members id n
  indexed_here n has = elim (nat_lt (last_in old) number) as (λ b. nat_lt (last_in old) number ≡ b → Contains (cond b (numbers_in old ++ number ∷ []) (numbers_in old)) n → IsIndexed (cond b (noted tick id t.index) t.index) members id n) [
    | true ↦ λ s c. ⊎_elim
        (λ k. indexed-noted tick id id t.index members n (are.indexed id old n was k))
        (λ e. subst (λ (k : ℕ). IsIndexed (noted tick id t.index) members id k) e (indexed-new members t.index tick number id (is_cover (grind (arith, nat_tests, s))) may.earlier))
        (Contains-push_cases (numbers_in old) number n c)
    | false ↦ λ _ c. are.indexed id old n was c
  ] refl has

  pub records-changed : IsRecorded (changed id number tick what t) members issued
  records-changed = record {
    numbers = λ x rows h. by_row x rows h
        (λ _ same. subst (λ (ns : List ℕ). Recorded members 0 ns) (sym (changed-numbers number tick what old) ∙ ap numbers_in same) (recorded-after members number old may.starts (are.numbers id old was)))
        (λ k. are.numbers x rows k);
    within = λ x rows h. by_row x rows h (λ _ same. subst (λ (r : RowHistory). last_in r ≤ issued) same within_new) (λ k. are.within x rows k);
    undoable = λ x dir h. by_row x (Dir dir) h
        (λ _ same. subst AreSound same (changed-sound number tick what old can.fits (sound_row t members issued id old are was)))
        (λ k. are.undoable x dir k);
    rising = subst IsRising (sym is_index) (rising-if (nat_lt (last_in old) number) tick id t.index are.rising);
    indexed = λ x rows n h has. subst (λ (i : Index). IsIndexed i members x n) (sym is_index) (by_row x rows h
        (λ e same. subst (λ (y : InodeId). IsIndexed (cond (nat_lt (last_in old) number) (noted tick id t.index) t.index) members y n) (sym e)
        (indexed_here n (subst (λ (ns : List ℕ). Contains ns n) (ap numbers_in (sym same) ∙ changed-numbers number tick what old) has)))
        (λ k. indexed-if (nat_lt (last_in old) number) tick id x t.index members n (are.indexed x rows n k has)));
  }

filled-if : (b : Bool) (index : Index) (tick used : ℕ) (id : InodeId) → 0 < tick → used < 3 → IsFilled index tick used → IsFilled (cond b (noted tick id index) index) tick (used + 1)
filled-if true index tick used id some lt f = filled-noted index tick used id some lt f
filled-if false index tick used id some lt f = filled-more index tick used (used + 1) (omega arith) f

pub filled-changed : (t : Tabled) (number tick used : ℕ) (id : InodeId) (what : Change) → 0 < tick → used < 3 → IsFilled t.index tick used → IsFilled (changed id number tick what t).index tick (used + 1)
filled-changed t number tick used id what some lt f = filled-if (starts_in number (row_at t.rows id)) t.index tick used id some lt f

-- ---- the need

need_live : (members : List (Member FileBlocks)) (last cover : ℕ) → last < need members last cover → is_live_between members last (need members last cover) ≡ true
need_live members last cover = elim (is_live_between members last cover) as (λ b. is_live_between members last cover ≡ b → last < cond b cover 0 → is_live_between members last (cond b cover 0) ≡ true) [
  | true ↦ λ live _. live
  | false ↦ λ _ lt. absurd (omega (arith, lt))
] refl

need_most : (members : List (Member FileBlocks)) (last cover : ℕ) → need members last cover ≤ cover
need_most members last cover = elim (is_live_between members last cover) as (λ b. cond b cover 0 ≤ cover) [ true ↦ omega arith | false ↦ omega arith ]

pub need-may : (members : List (Member FileBlocks)) (issued most tick : ℕ) (id : InodeId) (rows : RowHistory)
    → IsCover members id most → most ≤ issued → AreBefore members tick → MayRecord members issued id rows (need members (last_in rows) most) tick
need-may members issued most tick id rows covers upto earlier = record {
  starts = need_live members (last_in rows) most;
  enough = safe-need members id rows most covers;
  within = let le = need_most members (last_in rows) most in omega (arith, le, upto);
  earlier = earlier;
}

each_of : {X : Type 0} (test : X → Bool) (xs : List X) (x : X) → list_all test xs ≡ true → Contains xs x → test x ≡ true
each_of test [] x all c = not_empty x c
each_of test (y ∷ ys) x all c = by_first y ys x c (λ e. ap test (sym e) ∙ first (test y) _ all) (λ k. each_of test ys x (second (test y) _ all) k)

are_before : (state : State FileBlocks) → IsValid state → AreBefore state.members (state.tick + 1)
are_before state valid m c = let upto = each_of (λ (o : Member FileBlocks). nat_le o.tick state.tick) state.members m valid.ticks_within c in grind (arith, nat_tests, upto)

pub live-may : (table : Table) (state : State FileBlocks) (issued : ℕ) (path : Names) (chain : List InodeId) (id : InodeId) (rows : RowHistory)
    → Stands table state issued → IsChain (node_at state.tree) path chain → id_of (node_at state.tree path) ≡ Some id → IsValid state
    → MayRecord state.members issued id rows (need state.members (last_in rows) (cover (last_of state.members) (marks_of table) chain)) (state.tick + 1)
live-may table state issued path chain id rows stands leads is valid =
    need-may state.members issued (cover (last_of state.members) (marks_of table) chain) (state.tick + 1) id rows
    (λ m is_live has. cover-bound (node_at state.tree) state.members (marks_of table) issued root_id path chain id m stands.marks stands.top stands.live.root leads is is_live has)
    (cover-within (node_at state.tree) state.members (marks_of table) issued stands.marks stands.ids_issued path chain leads)
    (are_before state valid)

-- ---- a further change

last_now : (number tick : ℕ) (what : Change) (rows : RowHistory) → last_in (changed_rows number tick what rows) ≡ last_after (last_in rows) number
last_now number tick what rows = last_so (changed_rows number tick what rows) ∙ ap (last_of_all 0) (changed-numbers number tick what rows) ∙ last-after number rows

most_after : (last number : ℕ) → (number ≤ last_after last number) × (last ≤ last_after last number)
most_after last number = elim (nat_lt last number) as (λ b. nat_lt last number ≡ b → (number ≤ cond b number last) × (last ≤ cond b number last)) [
  | true ↦ λ s. let lt : last < number = grind (arith, nat_tests, s) in (omega arith, omega (arith, lt))
  | false ↦ λ s. let le : number ≤ last = grind (arith, nat_tests, s) in (omega (arith, le), omega arith)
] refl

pub last-grows : (number tick : ℕ) (what : Change) (rows : RowHistory) → (number ≤ last_in (changed_rows number tick what rows)) × (last_in rows ≤ last_in (changed_rows number tick what rows))
last-grows number tick what rows = let now = last_now number tick what rows in let both = most_after (last_in rows) number in let a = both.0 in let b = both.1 in (omega (arith, now, a), omega (arith, now, b))

pub again-may : (members : List (Member FileBlocks)) (issued number tick : ℕ) (id : InodeId) (what : Change) (rows : RowHistory)
    → MayRecord members issued id rows number tick → MayRecord members issued id (changed_rows number tick what rows) number tick × (number ≤ last_in (changed_rows number tick what rows))
again-may members issued number tick id what rows may = (
  record {
    starts = λ lt. absurd (let upto = (last-grows number tick what rows).0 in omega (arith, lt, upto));
    enough = safe-later members id rows (changed_rows number tick what rows) number number (last_now number tick what rows) may.enough;
    within = may.within;
    earlier = may.earlier;
  },
  (last-grows number tick what rows).0,
)

pub no-record : (t : Tabled) (number tick : ℕ) (id : InodeId) (what : Change) → (can : CanChange t.rows id what) → number ≤ last_in can.row.rows → (changed id number tick what t).index ≡ t.index
no-record t number tick id what can le =
    let none : nat_lt (last_in can.row.rows) number ≡ false = grind (arith, nat_tests, le) in
    changed-index t id number tick what can.row can.there ∙ ap (λ b. cond b (noted tick id t.index) t.index) none

-- ---- a row is made

pub records-inserted : (t : Tabled) (members : List (Member FileBlocks)) (issued since : ℕ) (id : InodeId) (rows : RowHistory)
    → IsBare rows → IsRecorded t members issued → IsRecorded (inserted id rows since t) members issued
records-inserted t members issued since id rows bare are = record {
  numbers = λ x r h. by_row x r h (λ same. subst (λ (ns : List ℕ). Recorded members 0 ns) (sym (none r same)) tt) (λ k. are.numbers x r k);
  within = λ x r h. by_row x r h (λ same. let zero_ = last_so r ∙ ap (last_of_all 0) (none r same) in omega (arith, zero_)) (λ k. are.within x r k);
  undoable = λ x dir h. by_row x (Dir dir) h (λ same. bare-sound dir (subst IsBare same bare)) (λ k. are.undoable x dir k);
  rising = rising-noted (stamp_of rows) id t.index are.rising;
  indexed = λ x r n h has. by_row x r h (λ same. not_empty n (subst (λ (ns : List ℕ). Contains ns n) (none r same) has)) (λ k. indexed-noted (stamp_of rows) id x t.index members n (are.indexed x r n k has));
}
  where
    by_row : {P : Type 0} (x : InodeId) (r : RowHistory) → rows_at (inserted id rows since t).rows x ≡ Some r → (rows ≡ r → P) → (rows_at t.rows x ≡ Some r → P) → P
    by_row x r h new other = by_id x id
        (λ e. new (same_some (sym (put-here id (fresh_row rows since) t.rows) ∙ ap (rows_at (inserted id rows since t).rows) (sym e) ∙ h)))
        (λ apart. other (sym (put-there id x (fresh_row rows since) t.rows apart) ∙ h))

    none : (r : RowHistory) → rows ≡ r → numbers_in r ≡ []
    none r same = bare-numbers r (subst IsBare same bare)

pub filled-inserted : (t : Tabled) (since tick used : ℕ) (id : InodeId) (rows : RowHistory) → stamp_of rows ≡ tick → 0 < tick → used < 3 → IsFilled t.index tick used → IsFilled (inserted id rows since t).index tick (used + 1)
filled-inserted t since tick used id rows now some lt f = subst (λ (n : ℕ). IsFilled (noted n id t.index) tick (used + 1)) (sym now) (filled-noted t.index tick used id some lt f)

-- ---- rows stay, or go

-- each row that is left was there, and the index is the same
records-left : (before after : Tabled) (members : List (Member FileBlocks)) (issued : ℕ) → ((x : InodeId) (rows : RowHistory) → rows_at after.rows x ≡ Some rows → rows_at before.rows x ≡ Some rows) → after.index ≡ before.index
    → IsRecorded before members issued → IsRecorded after members issued
records-left before after members issued was same are = record {
  numbers = λ x rows h. are.numbers x rows (was x rows h);
  within = λ x rows h. are.within x rows (was x rows h);
  undoable = λ x dir h. are.undoable x dir (was x (Dir dir) h);
  rising = subst IsRising (sym same) are.rising;
  indexed = λ x rows n h has. subst (λ (i : Index). IsIndexed i members x n) (sym same) (are.indexed x rows n (was x rows h) has);
}

pub records-marked : (t : Tabled) (members : List (Member FileBlocks)) (issued since carry : ℕ) (id : InodeId) → IsRecorded t members issued → IsRecorded (marked_row id since carry t) members issued
records-marked t members issued since carry id are = records-left t (marked_row id since carry t) members issued (λ x rows h. sym (marked-same t id x since carry) ∙ h) refl are

released_was : (before after : Tabled) (gone : List InodeId) → ReleasedBy before gone after → ((x : InodeId) (rows : RowHistory) → rows_at after.rows x ≡ Some rows → rows_at before.rows x ≡ Some rows) × (after.index ≡ before.index)
released_was before after [] same = (λ x rows h. ap (λ (t : Tabled). rows_at t.rows x) (sym same) ∙ h, ap (λ (t : Tabled). t.index) same)
released_was before after (id ∷ gone) step = let rest = released_was (let_go id step.0.rows before) after gone step.2 in
    (λ x rows h. gone-was before id x step.0.rows rows (rest.0 x rows h), rest.1)

pub records-released : (before after : Tabled) (freed : Freed) (members : List (Member FileBlocks)) (issued : ℕ)
    → Releasing before freed after → IsRecorded before members issued → IsRecorded after members issued × (after.index ≡ before.index)
records-released before after freed members issued r are = let left = released_was before (record after { waiting = freed.blocks }) r.gone r.steps in
    (records-left before after members issued left.0 left.1 are, left.1)

-- ---- snapshots

-- a snapshot that is new has seen all records, and their ticks
pub records-snapped : (t : Tabled) (members : List (Member FileBlocks)) (issued tick used : ℕ) (m : Member FileBlocks)
    → m.snapshot.0 ≡ issued + 1 → tick ≤ m.tick → IsFilled t.index tick used → IsRecorded t members issued → IsRecorded t (members ++ m ∷ []) (issued + 1)
records-snapped t members issued tick used m next late filled are = record {
  numbers = λ x rows h. recorded-other members (members ++ m ∷ []) 0 (numbers_in rows) (λ o c. (o, Contains-append_left members (m ∷ []) o c, refl)) (are.numbers x rows h);
  within = λ x rows h. let le = are.within x rows h in omega (arith, le);
  undoable = are.undoable;
  rising = are.rising;
  indexed = λ x rows n h has. let i = are.indexed x rows n h has in record {
    tick = i.tick;
    named = i.named;
    after = λ o c le. ⊎_elim (λ k. i.after o k le) (λ e. absurd (below x rows n h has o e le)) (Contains-push_cases members m o c);
    before = λ o c lt copied. ⊎_elim
        (λ k. i.before o k lt copied)
        (λ e. let le = filled.upto (record { tick = i.tick; id = x }) i.named in subst (λ (k : Member FileBlocks). i.tick ≤ k.tick) e (omega (arith, le, late)))
        (Contains-push_cases members m o c);
  };
}
  where
    below : (x : InodeId) (rows : RowHistory) (n : ℕ) → rows_at t.rows x ≡ Some rows → Contains (numbers_in rows) n → (o : Member FileBlocks) → m ≡ o → o.snapshot.0 ≤ n → ⊥
    below x rows n h has o e le =
        let most = each-within members 0 (numbers_in rows) n (are.numbers x rows h) has in
        let last = last_so rows in
        let upto = are.within x rows h in
        let same : m.snapshot.0 ≡ o.snapshot.0 = ap (λ (k : Member FileBlocks). k.snapshot.0) e in
        omega (arith, most, last, upto, same, next, le)

pub indexed-among : (index : Index) (members fewer : List (Member FileBlocks)) (id : InodeId) (number : ℕ) → AreAmong fewer members → IsIndexed index members id number → IsIndexed index fewer id number
indexed-among index members fewer id number among i = record {
  tick = i.tick;
  named = i.named;
  after = λ m c le. let n = among m c in let s = n.2.snapshot in let e = n.2.tick in let lt = i.after n.0 n.1 (omega (arith, s, le)) in omega (arith, e, lt);
  before = λ m c lt has. let n = among m c in let s = n.2.snapshot in let e = n.2.tick in
      let le = i.before n.0 n.1 (omega (arith, s, lt)) (subst (λ tree. Has (node_at tree) id) (sym n.2.tree) has) in omega (arith, e, le);
}

pub records-plain : (t : Tabled) (state : State FileBlocks) (issued used : ℕ) (name : List ℕ) (place : Names × Node FileBlocks)
    → state.next_snapshot ≡ issued + 1 → IsFilled t.index state.tick used → IsRecorded t state.members issued → IsRecorded t (snapped state name place).members (issued + 1)
records-plain t state issued used name place next filled are = records-snapped t state.members issued state.tick used (new_member state name place) next (omega arith) filled are

-- another name for the same snapshot
renamed_same : (id : SnapId) (name : List ℕ) (m : Member FileBlocks) → IsSame m (rename_member id name m) × IsSame (rename_member id name m) m
renamed_same id name m = elim (is_snapshot id m) as (λ b. IsSame m (cond b (record m { name = name }) m) × IsSame (cond b (record m { name = name }) m) m) [
  | true ↦ (record { snapshot = refl; tick = refl; tree = refl }, record { snapshot = refl; tick = refl; tree = refl })
  | false ↦ (record { snapshot = refl; tick = refl; tree = refl }, record { snapshot = refl; tick = refl; tree = refl })
]

pub resnapped-among : (state : State FileBlocks) (name : List ℕ) (id : SnapId) → AreAmong (resnapped state name id).members state.members × AreAmong state.members (resnapped state name id).members
resnapped-among state name id = (
  λ m c. let o = from_map (rename_member id name) state.members m c in (o.0, o.1, subst (λ (k : Member FileBlocks). IsSame k o.0) o.2 (renamed_same id name o.0).1),
  λ m c. (rename_member id name m, in_map (rename_member id name) state.members m c, (renamed_same id name m).0),
)

pub records-renamed : (t : Tabled) (members renamed : List (Member FileBlocks)) (issued : ℕ) → AreAmong renamed members → AreAmong members renamed → IsRecorded t members issued → IsRecorded t renamed issued
records-renamed t members renamed issued fewer more are = record {
  numbers = λ x rows h. recorded-other members renamed 0 (numbers_in rows) (λ m c. let n = more m c in (n.0, n.1, n.2.snapshot)) (are.numbers x rows h);
  within = are.within;
  undoable = are.undoable;
  rising = are.rising;
  indexed = λ x rows n h has. indexed-among t.index members renamed x n fewer (are.indexed x rows n h has);
}

-- what doesn't look at names holds of the renamed as of the others
module _ (state : State FileBlocks) (name : List ℕ) (id : SnapId) (P : Member FileBlocks → Type 0) (blind : (m : Member FileBlocks) → P m → P (record m { name = name })) where
  renamed_holds : (m : Member FileBlocks) → P m → P (rename_member id name m)
  renamed_holds m holds = elim (is_snapshot id m) as (λ b. P (cond b (record m { name = name }) m)) [ true ↦ blind m holds | false ↦ holds ]

  each_renamed : ((m : Member FileBlocks) → Contains state.members m → P m) → (m : Member FileBlocks) → Contains (resnapped state name id).members m → P m
  each_renamed all m c = let o = from_map (rename_member id name) state.members m c in subst P o.2 (renamed_holds o.0 (all o.0 o.1))

pub renamed-stands : (table : Table) (state : State FileBlocks) (issued : ℕ) (name : List ℕ) (id : SnapId) → Stands table state issued → Stands table (resnapped state name id) issued
renamed-stands table state issued name id stands = record {
  live = stands.live;
  frozen = each_renamed state name id (λ m. ReadsAs (shown table m.snapshot.0) m.directory (node_at m.tree)) (λ m h. h) stands.frozen;
  marks = record {
    down = λ p x m k c. each_renamed state name id (λ m. (marks_of table x).since < m.snapshot.0 → InCopy m x → (m.directory ≢ x) → InCopy m p) (λ m h. h) (λ m c. stands.marks.down p x m k c) m c;
    up = λ p x m k c. each_renamed state name id (λ m. (marks_of table x).since < m.snapshot.0 → InCopy m p → InCopy m x × Child (node_at m.tree) p x) (λ m h. h) (λ m c. stands.marks.up p x m k c) m c;
    carried = λ x m h c. each_renamed state name id (λ m. m.snapshot.0 ≤ (marks_of table x).since → InCopy m x → m.snapshot.0 ≤ (marks_of table x).carry) (λ m h. h) (λ m c. stands.marks.carried x m h c) m c;
    since_issued = stands.marks.since_issued;
    carry_issued = stands.marks.carry_issued;
  };
  top = record {
    own = each_renamed state name id (λ m. InCopy m root_id → m.directory ≡ root_id) (λ m h. h) stands.top.own;
    above = each_renamed state name id (λ m. 0 < m.snapshot.0) (λ m h. h) stands.top.above;
    since = stands.top.since;
  };
  ids_issued = each_renamed state name id (λ m. m.snapshot.0 ≤ issued) (λ m h. h) stands.ids_issued;
}

-- ---- the first table

first_rows : (b : Bool) (row : RowState) (rows : RowHistory) → option_map (λ (r : RowState). r.rows) (cond b (Some row) None) ≡ Some rows → row.rows ≡ rows
first_rows true row rows h = same_some h
first_rows false row rows h = absurd (none_some h)

pub records-first : (spot : Spot) → IsRecorded (first_table spot) [] 0 × IsFilled (first_table spot).index 0 0
records-first spot = (
  record {
    numbers = λ id rows h. subst (λ (r : RowHistory). Recorded {B = FileBlocks} [] 0 (numbers_in r)) (first id rows h) tt;
    within = λ id rows h. subst (λ (r : RowHistory). last_in r ≤ 0) (first id rows h) (omega arith);
    undoable = λ id dir h. subst AreSound (first id (Dir dir) h) (record { rising = refl; in_order = refl; ordered = tt; undoable = refl });
    rising = λ i j d le lt. absurd (omega (arith, lt));
    indexed = λ id rows n h c. not_empty n (subst (λ (r : RowHistory). Contains (numbers_in r) n) (sym (first id rows h)) c);
  },
  record { first = λ e c. not_empty e c; upto = λ e c. not_empty e c; few = λ n. omega arith; now = omega arith },
)
  where
    first : (id : InodeId) (rows : RowHistory) → rows_at (first_table spot).rows id ≡ Some rows → (first_row spot).rows ≡ rows
    first id rows h = first_rows (eq_by_cmp id_order id root_id) (first_row spot) rows h

-- ---- what follows

pub records-numbers : (t : Tabled) (members : List (Member FileBlocks)) (issued : ℕ) → IsRecorded t members issued → NumbersWithin t.rows issued
records-numbers t members issued are id rows h = (rise members rows (are.numbers id rows h), are.within id rows h)

pub records-bare : (t : Tabled) (issued : ℕ) (id : InodeId) (rows : RowHistory) → IsRecorded t [] issued → rows_at t.rows id ≡ Some rows → numbers_in rows ≡ []
records-bare t issued id rows are h = none-recorded (numbers_in rows) (are.numbers id rows h)

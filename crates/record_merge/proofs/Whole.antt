-- A snapshot is deleted: what the table stands for then, and the blocks that are freed.
use Rattle.std.proofs.Common.{◌≡◌, ℕ, ◌+◌, ◌≤◌, Bool, true, false, cond, nat_le, inl, inr, List, [], ◌∷◌, ◌++◌, map, filter, Option, Some, None, length, refl, sym, ap, subst, ◌∙◌, arith}
use Rattle.std.specs.Prelude.{◌⊎◌, not}
use Rattle.std.specs.List.{Contains}
use Rattle.hs_types.specs.Blocks.{BlockMap}
use Rattle.hs_types.specs.declared.ids.BlockId.{BlockId}
use Rattle.hs_types.specs.declared.ids.InodeId.{InodeId}
use Rattle.hs_types.specs.declared.ids.SnapId.{SnapId}
use Rattle.hs_types.specs.declared.name.SnapItem.{SnapItem}
use Rattle.hs_plain.specs.declared.state.Member.{Member}
use Rattle.hs_plain.specs.declared.state.State.{State}
use Rattle.hs_plain.specs.declared.state.FileBlocks.{FileBlocks}
use Rattle.hs_plain.specs.Change.{is_snapshot, unsnapped, ticked}
use Rattle.hs_plain.specs.Valid.{IsValid}
use Rattle.hs_plain.specs.Viewed as viewed
use Rattle.hs_plain.specs.Viewed.{viewed_member, HasBytes, bytes_in}
use Rattle.hs_plain.proofs.ValidMembers.{all-filter}
use Rattle.hs_plain.proofs.ValidSnaps.{valid-unsnapped}
use Rattle.snapshot_manager.specs.Snapshots.{Snapshots, IsProper, live_at, changed, without}
use Rattle.inode_table.specs.declared.freed.Freed.{Freed}
use Rattle.inode_table.specs.Blocked.{AreBlocks}
use Rattle.inode_table.specs.FromValid.{GivesNodes}
use Rattle.inode_table.specs.Indexed.{made_between}
use Rattle.inode_table.specs.Joined.{told, AreTold}
use Rattle.inode_table.specs.Released.{Releasing}
use Rattle.inode_table.specs.Stands.{Stands}
use Rattle.inode_table.specs.Tabled.{Tabled}
use Rattle.inode_table.specs.Totals.{weight}
use Rattle.inode_table.specs.Whole.{AreRecords, IsFilled, StandsFor, StandsForPlain}
use Rattle.inode_table.proofs.Giving.{from-valid}
use Rattle.inode_table.proofs.Going.{released-stands}
use Rattle.inode_table.proofs.Snapping.{drop-stands}
use Rattle.table_laws.specs.NameCalls.{MergedBy, HasAllNames}
use Rattle.table_laws.specs.RecordDropping.{AreLeft}
use Rattle.table_laws.specs.RecordDropped.{LooksAt}
use Rattle.table_laws.proofs.BlockCalls.{drop-blocks}
use Rattle.table_laws.proofs.NamedCalls.{drop-names}
use Rattle.table_laws.proofs.RecordDropped.{looked, looked_drops}
use Rattle.table_laws.proofs.RecordDropping.{records-gone, is-gone, records-left}
use Rattle.table_laws.proofs.RecordElements.{from_filter}
use Rattle.table_laws.proofs.Recording.{records-released}
use Rattle.table_laws.proofs.WholeDropped.{merged-by, within-merged, greatest-merged}
use Rattle.table_laws.proofs.WholeParts.{Within, within-of, within-released, greatest-released, marks-within, ids-within}
use Rattle.table_laws.proofs.WholeSnaps.{some-changed}
use Rattle.record_merge.proofs.Members.{found-member, told-without}
use Rattle.record_merge.proofs.Counting.{drop-rows}
use Rattle.record_merge.proofs.Weighing.{drop-weight}

-- ---- what is looked at

-- the index is filled up to a later tick too
filled_upto : (t : Tabled) (tick high : ℕ) → tick ≤ high → IsFilled t.index tick 3 → IsFilled t.index high 3
filled_upto t tick high le filled = record { first = filled.first; upto = λ e c. let upto = filled.upto e c in omega (arith, le, upto); few = filled.few; now = filled.few high }

-- more rows may be looked at
left_more : (t : Tabled) (fewer : List (Member FileBlocks)) (issued : ℕ) (found ids : List InodeId) → ((x : InodeId) → Contains found x → Contains ids x) → AreLeft t fewer issued found → AreLeft t fewer issued ids
left_more t fewer issued found ids all left = record {
  numbers = λ x rows h. by x (left.numbers x rows h);
  within = left.within;
  undoable = left.undoable;
  rising = left.rising;
  indexed = left.indexed;
}
  where
    by : (x : InodeId) {A B : Type 0} → A ⊎ (B × Contains found x) → A ⊎ (B × Contains ids x)
    by x (inl a) = inl a
    by x (inr b) = inr (b.0, all x b.1)

pub left-first : (t : Tabled) (snaps : Snapshots) (state : State FileBlocks) (gone : Member FileBlocks) (high : ℕ) (ids : List InodeId) → StandsFor t snaps state → Contains state.members gone → state.tick ≤ high
    → ((x : InodeId) → Contains (made_between gone.tick high t.rows t.index) x → Contains ids x) → AreLeft t (unsnapped state gone.snapshot).members snaps.issued.0 ids
left-first t snaps state gone high ids before was le all = left_more t (unsnapped state gone.snapshot).members snaps.issued.0 (made_between gone.tick high t.rows t.index) ids all
    (records-gone t state.members (unsnapped state gone.snapshot).members snaps.issued.0 high 3 gone (is-gone state gone was) (filled_upto t state.tick high le before.filled) before.records)

-- ---- what it stands for then

-- a snapshot goes, these rows are looked at, and rows that no list names go
pub record Deletes (t middle after : Tabled) (freed : Freed) (snaps : Snapshots) (state : State FileBlocks) (gone : Member FileBlocks) (ids : List InodeId) : Type 0 where
  pub before : StandsFor t snaps state
  pub was : Contains state.members gone
  pub left : AreLeft t (unsnapped state gone.snapshot).members snaps.issued.0 ids
  pub looks : LooksAt (unsnapped state gone.snapshot).members ids t middle
  pub going : Releasing middle freed after

valid_without : (state : State FileBlocks) (id : SnapId) → IsValid state → IsValid (unsnapped state id)
valid_without state id valid = let v = valid-unsnapped state valid id in record {
  sorted = v.sorted;
  root = v.root;
  parents = v.parents;
  names = v.names;
  each_once = v.each_once;
  one_kind = v.one_kind;
  ids_below = v.ids_below;
  snapshottable_dirs = v.snapshottable_dirs;
  snapshottable_once = v.snapshottable_once;
  not_nested = v.not_nested;
  member_dirs = v.member_dirs;
  member_roots = v.member_roots;
  copies_sorted = v.copies_sorted;
  copies_parents = v.copies_parents;
  copies_names = v.copies_names;
  copies_each_once = v.copies_each_once;
  copies_root_on_top = v.copies_root_on_top;
  snapshots_rise = v.snapshots_rise;
  snapshots_below = v.snapshots_below;
  next_snapshot_above = v.next_snapshot_above;
  ticks_rise = v.ticks_rise;
  ticks_within = all-filter (λ (m : Member FileBlocks). nat_le m.tick state.tick) (λ m. not (is_snapshot id m)) state.members valid.ticks_within;
  member_names = v.member_names;
  different_names = v.different_names;
  at_most = v.at_most;
}

module _ (t middle after : Tabled) (freed : Freed) (snaps : Snapshots) (state : State FileBlocks) (gone : Member FileBlocks) (ids : List InodeId) (is : Deletes t middle after freed snaps state gone ids) where
  abbrev next : State FileBlocks
  next = unsnapped state gone.snapshot

  gives : GivesNodes next
  gives = let g = from-valid (ticked next) (valid-unsnapped state is.before.valid gone.snapshot) in record { live = g.live; copies = g.copies; dirs = g.dirs }

  merges : (records : List (InodeId × ℕ)) × MergedBy t records middle
  merges = merged-by next.members ids t middle is.looks

  left_at_last : AreRecords middle.rows middle.index next.members snaps.issued.0 × (middle.index ≡ t.index)
  left_at_last = let l = looked next.members snaps.issued.0 ids t middle is.looks is.left in (records-left middle next.members snaps.issued.0 l.0, l.1)

  released : AreRecords after.rows after.index next.members snaps.issued.0 × (after.index ≡ middle.index)
  released = records-released middle after freed next.members snaps.issued.0 is.going left_at_last.0

  names : HasAllNames after
  names = drop-names t middle after merges.0 freed merges.1 is.going (record { sound = is.before.records.undoable; named = is.before.naming })

  same_greatest : after.greatest ≡ t.greatest
  same_greatest = greatest-released middle (record after { waiting = freed.blocks }) is.going.gone is.going.steps ∙ greatest-merged t merges.0 middle merges.1

  within : Within after.rows snaps.issued.0 t.greatest
  within = within-released middle (record after { waiting = freed.blocks }) is.going.gone snaps.issued.0 t.greatest is.going.steps (within-merged t merges.0 middle snaps.issued.0 t.greatest merges.1 (within-of t snaps state is.before))

  stands_between : Stands middle.rows next snaps.issued.0
  stands_between = drop-stands t.rows middle.rows state snaps.issued.0 next.members (looked_drops next.members snaps.issued.0 ids t middle is.looks is.left) (λ m c. from_filter _ state.members m c) is.before.stands

  pub stands-without : StandsFor after (changed gone.directory (without gone.name) snaps) next
  stands-without = record {
    valid = valid_without state gone.snapshot is.before.valid;
    stands = released-stands middle (record after { waiting = freed.blocks }) is.going.gone next snaps.issued.0 is.going.steps gives.live gives.copies gives.dirs stands_between;
    marks = marks-within after.rows snaps.issued.0 t.greatest within;
    records = released.0;
    filled = subst (λ index. IsFilled index state.tick 3) (sym (released.1 ∙ left_at_last.1)) is.before.filled;
    naming = names.named;
    named = names.all;
    told = told-without state is.before.valid gone is.was snaps is.before.told;
    snapshottable = λ q. is.before.snapshottable q ∙ sym (some-changed gone.directory q (without gone.name) snaps);
    next_inode = ap (λ n. n + 1) same_greatest ∙ is.before.next_inode;
    next_snapshot = is.before.next_snapshot;
    ids = λ x row h. subst (λ n. x.0 ≤ n) (sym same_greatest) (ids-within after.rows snaps.issued.0 t.greatest within x row h);
    handed_out = is.going.waiting;
  }

  pub blocks-without : (store : Option BlockMap) (made : ℕ) (waiting : List BlockId) → AreBlocks t.rows store made waiting → AreBlocks after.rows store made (waiting ++ freed.blocks)
  blocks-without store made waiting are = (drop-blocks store made waiting t middle after merges.0 freed merges.1 is.going (record { handed_out = is.before.handed_out; blocks = are })).blocks

  pub rows-without : length t.rows ≡ length after.rows + freed.rows
  rows-without = drop-rows t middle after merges.0 freed merges.1 is.going is.before.naming.order

  pub weight-without : weight after.rows ≤ weight t.rows
  weight-without = drop-weight t middle after merges.0 freed merges.1 is.going (record { sound = is.before.records.undoable; named = is.before.naming })

-- ---- from what a call tells

-- what is known of a call that answered Ok
pub record Answered (t after : Tabled) (snaps : Snapshots) (id : SnapId) (dir : InodeId) (item : SnapItem) (ids : List InodeId) (high : ℕ) (freed : Freed) : Type 0 where
  pub proper : IsProper snaps
  pub found : live_at snaps id ≡ Some (dir, item)
  pub all : (x : InodeId) → Contains (made_between item.tick high t.rows t.index) x → Contains ids x
  pub middle : Tabled
  pub going : Releasing middle freed after
  pub looks : (fewer : List (Member FileBlocks)) (issued : ℕ) → AreTold fewer (changed dir (without item.name) snaps) → AreLeft t fewer issued ids → LooksAt fewer ids t middle

-- it deleted a snapshot
pub record IsDeleted (t middle after : Tabled) (freed : Freed) (snaps : Snapshots) (state : State FileBlocks) (id : SnapId) (dir : InodeId) (item : SnapItem) (ids : List InodeId) : Type 0 where
  pub gone : Member FileBlocks
  pub number : gone.snapshot ≡ id
  pub is : told gone ≡ (dir, item)
  pub deletes : Deletes t middle after freed snaps state gone ids

pub deleted : (t after : Tabled) (snaps : Snapshots) (state : State FileBlocks) (id : SnapId) (dir : InodeId) (item : SnapItem) (ids : List InodeId) (high : ℕ) (freed : Freed) → StandsFor t snaps state → state.tick ≤ high
    → (a : Answered t after snaps id dir item ids high freed) → IsDeleted t a.middle after freed snaps state id dir item ids
deleted t after snaps state id dir item ids high freed before le a =
    let f = found-member state.members snaps id (dir, item) a.proper before.told a.found in
    let left = left-first t snaps state f.member high ids before f.was le
    (subst (λ (p : InodeId × SnapItem). (x : InodeId) → Contains (made_between p.1.tick high t.rows t.index) x → Contains ids x) (sym f.is) a.all) in
    let are = subst (λ (p : InodeId × SnapItem). AreTold (unsnapped state f.member.snapshot).members (changed p.0 (without p.1.name) snaps)) f.is (told-without state before.valid f.member f.was snaps before.told) in
    record {
      gone = f.member;
      number = f.number;
      is = f.is;
      deletes = record { before = before; was = f.was; left = left; looks = a.looks (unsnapped state f.member.snapshot).members snaps.issued.0 are left; going = a.going };
    }

pub stands-then : (t after : Tabled) (snaps : Snapshots) (state : State FileBlocks) (id : SnapId) (dir : InodeId) (item : SnapItem) (ids : List InodeId) (high : ℕ) (freed : Freed) → StandsFor t snaps state → state.tick ≤ high
    → Answered t after snaps id dir item ids high freed → StandsFor after (changed dir (without item.name) snaps) (unsnapped state id)
stands-then t after snaps state id dir item ids high freed before le a =
    let d = deleted t after snaps state id dir item ids high freed before le a in
    subst (λ (p : InodeId × SnapItem). StandsFor after (changed p.0 (without p.1.name) snaps) (unsnapped state id)) d.is
    (subst (λ (i : SnapId). StandsFor after (changed d.gone.directory (without d.gone.name) snaps) (unsnapped state i)) d.number
    (stands-without t a.middle after freed snaps state d.gone ids d.deletes))

pub blocks-then : (t after : Tabled) (snaps : Snapshots) (state : State FileBlocks) (id : SnapId) (dir : InodeId) (item : SnapItem) (ids : List InodeId) (high : ℕ) (freed : Freed) → StandsFor t snaps state → state.tick ≤ high
    → Answered t after snaps id dir item ids high freed → (store : Option BlockMap) (made : ℕ) (waiting : List BlockId) → AreBlocks t.rows store made waiting → AreBlocks after.rows store made (waiting ++ freed.blocks)
blocks-then t after snaps state id dir item ids high freed before le a =
    let d = deleted t after snaps state id dir item ids high freed before le a in blocks-without t a.middle after freed snaps state d.gone ids d.deletes

pub rows-then : (t after : Tabled) (snaps : Snapshots) (state : State FileBlocks) (id : SnapId) (dir : InodeId) (item : SnapItem) (ids : List InodeId) (high : ℕ) (freed : Freed) → StandsFor t snaps state → state.tick ≤ high
    → Answered t after snaps id dir item ids high freed → length t.rows ≡ length after.rows + freed.rows
rows-then t after snaps state id dir item ids high freed before le a =
    let d = deleted t after snaps state id dir item ids high freed before le a in rows-without t a.middle after freed snaps state d.gone ids d.deletes

pub weight-then : (t after : Tabled) (snaps : Snapshots) (state : State FileBlocks) (id : SnapId) (dir : InodeId) (item : SnapItem) (ids : List InodeId) (high : ℕ) (freed : Freed) → StandsFor t snaps state → state.tick ≤ high
    → Answered t after snaps id dir item ids high freed → weight after.rows ≤ weight t.rows
weight-then t after snaps state id dir item ids high freed before le a =
    let d = deleted t after snaps state id dir item ids high freed before le a in weight-without t a.middle after freed snaps state d.gone ids d.deletes

-- ---- the plain state

without_viewed : {B C : Type 0} (read : B → C) (id : SnapId) (ms : List (Member B)) → map (viewed_member read) (filter (λ m. not (is_snapshot id m)) ms) ≡ filter (λ m. not (is_snapshot id m)) (map (viewed_member read) ms)
without_viewed read id [] = refl
without_viewed {B} read id (m ∷ ms) = by (not (is_snapshot id m)) (without_viewed read id ms)
  where
    by : (b : Bool) → map (viewed_member read) (filter (λ m. not (is_snapshot id m)) ms) ≡ filter (λ m. not (is_snapshot id m)) (map (viewed_member read) ms)
        → map (viewed_member read) (cond b (m ∷ filter (λ m. not (is_snapshot id m)) ms) (filter (λ m. not (is_snapshot id m)) ms))
        ≡ cond b (viewed_member read m ∷ filter (λ m. not (is_snapshot id m)) (map (viewed_member read) ms)) (filter (λ m. not (is_snapshot id m)) (map (viewed_member read) ms))
    by true rest = ap (λ l. viewed_member read m ∷ l) rest
    by false rest = rest

viewed_without : {B C : Type 0} (read : B → C) (id : SnapId) (s : State B) → viewed.viewed read (unsnapped s id) ≡ unsnapped (viewed.viewed read s) id
viewed_without read id s = ap (λ ms. record (viewed.viewed read s) { members = ms }) (without_viewed read id s.members)

sized_without : (state : State FileBlocks) (plain : State (List ℕ)) (id : SnapId) → viewed.StandsFor state plain → viewed.StandsFor (unsnapped state id) (unsnapped plain id)
sized_without state plain id sized = viewed_without (λ (f : FileBlocks). f.size) id state ∙ ap (λ (s : State ℕ). unsnapped s id) sized ∙ sym (viewed_without (λ (b : List ℕ). length b) id plain)

bytes_without : (store : Option BlockMap) (state : State FileBlocks) (plain : State (List ℕ)) (id : SnapId) → HasBytes store state plain → HasBytes store (unsnapped state id) (unsnapped plain id)
bytes_without None state plain id bytes = tt
bytes_without (Some store) state plain id bytes = viewed_without (bytes_in store) id state ∙ ap (λ (s : State (List ℕ)). unsnapped s id) bytes

pub plain-then : (t after : Tabled) (snaps : Snapshots) (plain : State (List ℕ)) (store : Option BlockMap) (made : ℕ) (waiting : List BlockId) (id : SnapId) (dir : InodeId) (item : SnapItem) (ids : List InodeId) (high : ℕ) (freed : Freed)
    → plain.tick ≤ high → StandsForPlain t snaps store made waiting plain → Answered t after snaps id dir item ids high freed
    → StandsForPlain after (changed dir (without item.name) snaps) store made (waiting ++ freed.blocks) (unsnapped plain id)
plain-then t after snaps plain store made waiting id dir item ids high freed le before a =
    let within : before.state.tick ≤ high = subst (λ (n : ℕ). n ≤ high) (sym (ap (λ (s : State ℕ). s.tick) before.sized)) le in
    record {
      state = unsnapped before.state id;
      stands = stands-then t after snaps before.state id dir item ids high freed before.stands within a;
      sized = sized_without before.state plain id before.sized;
      bytes = bytes_without store before.state plain id before.bytes;
      blocks = blocks-then t after snaps before.state id dir item ids high freed before.stands within a store made waiting before.blocks;
    }

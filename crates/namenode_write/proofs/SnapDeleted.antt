-- A snapshot goes, over the rows of a table.
use Rattle.std.proofs.Common.{◌≡◌, ℕ, ◌+◌, ◌<◌, ◌≤◌, List, [], ◌∷◌, ◌++◌, length, Option, Ok, refl, sym, ap, subst, ◌∙◌, arith}
use Rattle.std.specs.Prelude.{◌^◌}
use Rattle.hs_types.specs.Blocks.{BlockMap}
use Rattle.hs_types.specs.declared.ids.BlockId.{BlockId}
use Rattle.hs_types.specs.declared.ids.SnapId.{SnapId}
use Rattle.hs_types.specs.declared.call.Call.TheVariants as calls
use Rattle.hs_types.specs.declared.reply.Reply.TheVariants as replies
use Rattle.hs_plain.specs.declared.state.State.{State}
use Rattle.hs_plain.specs.declared.state.FileBlocks.{FileBlocks}
use Rattle.hs_plain.specs.Asked.{Asked}
use Rattle.hs_plain.specs.Snapshotting.{snap_del_at}
use Rattle.hs_plain.specs.Answer.{replied}
use Rattle.hs_plain.specs.Change.{ticked, if_asked, unsnapped}
use Rattle.inode_table.specs.Blocked.{AreBlocks}
use Rattle.inode_table.specs.Kept.{told}
use Rattle.inode_table.specs.Totals as totals
use Rattle.inode_table.specs.Whole.{StandsFor}
use Rattle.table_laws.proofs.WholeNodes.{whole-ticked}
use Rattle.namenode_write.specs.declared.rows.space.RowSpace.{RowSpace}
use Rattle.namenode_write.specs.Outcome.{tick_of, HasPlace}
use Rattle.namenode_write.specs.Rows.{Held, held, all_of, weight, done, IsAt, IsDone}
use Rattle.namenode_write.proofs.RowDone.{call-done, same-held}
use Rattle.namenode_write.proofs.Outcomes.{IsAlike}
use Rattle.namenode_write.proofs.RowFreed.{all-push}
use Rattle.namenode_write.proofs.SnapCalls.{snap_del-members, same-tick}

-- the plain machine's step, before blocks are freed
pub deleted-done : (before now : Held) (tick : ℕ) (plain : State (List ℕ)) (at : IsAt before tick plain) (text name : List ℕ) (id : SnapId) → snap_del_at at.stands.state text name ≡ Ok id
    → StandsFor now.table now.snaps (unsnapped at.stands.state id) → now.store ≡ before.store → now.greatest ≡ before.greatest → AreBlocks now.table.rows now.store now.greatest now.waiting
    → totals.weight now.table.rows ≤ totals.weight before.table.rows → IsDone before now tick (calls.SnapDel text name) replies.Done plain
deleted-done before now tick plain at text name id is stands store greatest blocks light =
    call-done before now tick (calls.SnapDel text name) replies.Done plain at refl refl (ap (λ (a : Asked SnapId). replied replies.Done a) is)
    (subst (λ (s : State FileBlocks). StandsFor now.table now.snaps (ticked s)) (sym (ap (if_asked (unsnapped at.stands.state) at.stands.state) is)) (whole-ticked now.table now.snaps (unsnapped at.stands.state id) stands))
    store greatest blocks (let few = snap_del-members plain (snap_del_at plain text name) in omega (arith, few, light))

-- ---- from the parts of the call

-- what the deletion of a snapshot tells: a place was made before it, and the blocks that go wait
pub record IsDropped {S : Type 0} (before place middle : RowSpace S) (id : SnapId) (freed : List BlockId) : Type 0 where
  pub kept : place ≡ record before { journal = place.journal }
  pub items : place.journal.items ≡ before.journal.items
  pub has : HasPlace place
  pub stands : (state : State FileBlocks) → state.tick < 2 ^ 64 → StandsFor (told place.table) place.snaps state → StandsFor (told middle.table) middle.snaps (unsnapped state id)
  pub blocks : (state : State FileBlocks) (store : Option BlockMap) (made : ℕ) (waiting : List BlockId) → state.tick < 2 ^ 64 → StandsFor (told place.table) place.snaps state → AreBlocks (told place.table).rows store made waiting
      → AreBlocks (told middle.table).rows store made (waiting ++ freed)
  pub light : (state : State FileBlocks) → state.tick < 2 ^ 64 → StandsFor (told place.table) place.snaps state → totals.weight (told middle.table).rows ≤ totals.weight (told place.table).rows
  pub waiting : middle.waiting.items ≡ place.waiting.items ++ freed ∷ []
  pub rest : middle ≡ record place { table = middle.table; snaps = middle.snaps; waiting = middle.waiting }

module _ {S : Type 0} {before place middle : RowSpace S} {id : SnapId} {freed : List BlockId} (is : IsDropped before place middle id freed) where
  pub drop-store : middle.store ≡ before.store
  drop-store = ap (λ (r : RowSpace S). r.store) is.rest ∙ ap (λ (r : RowSpace S). r.store) is.kept

  pub drop-journal : middle.journal.items ≡ before.journal.items
  drop-journal = ap (λ (r : RowSpace S). r.journal.items) is.rest ∙ is.items

  pub drop-limit : middle.limit ≡ before.limit
  drop-limit = ap (λ (r : RowSpace S). r.limit) is.rest ∙ ap (λ (r : RowSpace S). r.limit) is.kept

  pub drop-place : HasPlace middle
  drop-place = subst (λ (r : RowSpace S). HasPlace r) (sym is.rest) (record { below = is.has.below; most = is.has.most; room = is.has.room })

  module _ (blocks : S → Option BlockMap) (greatest : S → ℕ) (text name : List ℕ) (asks : (state : State FileBlocks) → StandsFor (told before.table) before.snaps state → snap_del_at state text name ≡ Ok id)
      (plain : State (List ℕ)) (at : IsAt (held blocks greatest before) (tick_of before) plain) where
    standing : StandsFor (told place.table) place.snaps at.stands.state
    standing = subst (λ (r : RowSpace S). StandsFor (told r.table) r.snaps at.stands.state) (sym is.kept) at.stands.stands

    soon : at.stands.state.tick < 2 ^ 64
    soon =
        let same = same-tick (held blocks greatest before) (tick_of before) plain at in
        let entries = ap length is.items in
        let below = is.has.below in
        let most = is.has.most in
        omega (arith, same, entries, below, most)

    wait : all_of middle.waiting.items ≡ all_of before.waiting.items ++ freed
    wait = ap all_of is.waiting ∙ all-push place.waiting.items freed ∙ ap (λ (r : RowSpace S). all_of r.waiting.items ++ freed) is.kept

    lighter : totals.weight (told middle.table).rows ≤ totals.weight (told before.table).rows
    lighter =
        let less = is.light at.stands.state soon standing in
        let same = ap (λ (r : RowSpace S). totals.weight (told r.table).rows) is.kept in
        omega (arith, less, same)

    named : AreBlocks (told middle.table).rows (blocks middle.store) (greatest middle.store) (all_of middle.waiting.items)
    named =
        subst (λ (s : S). AreBlocks (told middle.table).rows (blocks s) (greatest s) (all_of middle.waiting.items)) (sym drop-store)
        (subst (λ (l : List BlockId). AreBlocks (told middle.table).rows (blocks before.store) (greatest before.store) l) (sym wait)
        (is.blocks at.stands.state (blocks before.store) (greatest before.store) (all_of before.waiting.items) soon standing
        (subst (λ (r : RowSpace S). AreBlocks (told r.table).rows (blocks before.store) (greatest before.store) (all_of before.waiting.items)) (sym is.kept) at.stands.blocks)))

    pub drop-done : IsDone (held blocks greatest before) (held blocks greatest middle) (tick_of before) (calls.SnapDel text name) replies.Done plain
    drop-done = deleted-done (held blocks greatest before) (held blocks greatest middle) (tick_of before) plain at text name id (asks at.stands.state at.stands.stands) (is.stands at.stands.state soon standing)
        (ap blocks drop-store) (ap greatest drop-store) named lighter

    pub drop-light : weight (held blocks greatest middle) (done plain (calls.SnapDel text name)) ≤ weight (held blocks greatest before) plain + 0
    drop-light = let few = snap_del-members plain (snap_del_at plain text name) in let less = lighter in omega (arith, few, less)

-- memory is wanted, and the same is held
pub drop-alike : {S : Type 0} (blocks : S → Option BlockMap) (greatest : S → ℕ) (before place after : RowSpace S) → place ≡ record before { journal = place.journal } → place.journal.items ≡ before.journal.items
    → told after.table ≡ told place.table → after.snaps ≡ place.snaps → after.waiting.items ≡ place.waiting.items → after ≡ record place { table = after.table; snaps = after.snaps; waiting = after.waiting }
    → IsAlike blocks greatest before after
drop-alike {S} blocks greatest before place after kept items table snaps waiting rest = record {
  held = same-held (held blocks greatest after) (held blocks greatest place) table snaps (ap (λ (r : RowSpace S). blocks r.store) rest) (ap (λ (r : RowSpace S). greatest r.store) rest) (ap all_of waiting) ∙ ap (held blocks greatest) kept;
  store = ap (λ (r : RowSpace S). r.store) rest ∙ ap (λ (r : RowSpace S). r.store) kept;
  journal = ap (λ (r : RowSpace S). r.journal.items) rest ∙ items;
  limit = ap (λ (r : RowSpace S). r.limit) rest ∙ ap (λ (r : RowSpace S). r.limit) kept;
}

-- A deletion step by step: what each step asks, and what the call leaves.
use Rattle.std.proofs.Common.{◌≡◌, ℕ, ◌+◌, ◌<◌, ◌≤◌, Bool, List, [], ◌∷◌, ◌++◌, Option, Ok, refl, sym, ap, subst, ◌∙◌, arith}
use Rattle.std.specs.List.{Contains}
use Rattle.hs_types.specs.Blocks.{BlockMap}
use Rattle.hs_types.specs.Names.{Names}
use Rattle.hs_types.specs.declared.ids.InodeId.{InodeId}
use Rattle.hs_types.specs.declared.ids.BlockId.{BlockId}
use Rattle.hs_types.specs.declared.call.Call.TheVariants as calls
use Rattle.hs_types.specs.declared.reply.Reply.TheVariants as replies
use Rattle.hs_plain.specs.declared.state.State.{State}
use Rattle.hs_plain.specs.declared.state.FileBlocks.{FileBlocks}
use Rattle.hs_plain.specs.Modifying.{delete_at}
use Rattle.snapshot_manager.specs.Snapshots.{Snapshots, snaps_in}
use Rattle.inode_table.specs.declared.change.Change.TheVariants as changes
use Rattle.inode_table.specs.Ahead.{Ahead, HasRoomFor, prepared_for, changed_one, IsAhead, ChangeFits, IsChanged}
use Rattle.inode_table.specs.Kept.{TableValue, told, CanChange}
use Rattle.inode_table.specs.Released.{Releasing}
use Rattle.inode_table.specs.Tabled.{Tabled, changed}
use Rattle.inode_table.specs.Whole.{StandsFor}
use Rattle.inode_table.proofs.Ahead.{change-fits, change-leaves, release-fits}
use Rattle.table_laws.specs.WholeCalls.{all_disallowed}
use Rattle.namenode_write.specs.declared.rows.deleting.Going.{Going}
use Rattle.namenode_write.specs.declared.rows.space.RowSpace.{RowSpace}
use Rattle.namenode_write.specs.GoneDirs.{IsGoing, IsRemoved}
use Rattle.namenode_write.specs.Outcome.{tick_of, HasPlace}
use Rattle.namenode_write.specs.Rows.{Held, held, all_of, weight, done, IsAt, IsStanding, IsDone}
use Rattle.namenode_write.proofs.DeletedCalls.{delete-can, delete-free, deleted-done, deleted-light}
use Rattle.namenode_write.proofs.RowDone.{same-held}

-- ---- room

module _ (id : InodeId) (need : ℕ) (table : TableValue) (room : HasRoomFor (prepared_for (id ∷ []) (λ _. need)) table) (name : List ℕ) where
  abbrev ahead : Ahead
  ahead = prepared_for (id ∷ []) (λ _. need)

  is_ahead : IsAhead ahead table id (changes.Remove name)
  is_ahead = record { one = (0, omega arith, refl); some = omega arith; small = tt }

  pub remove-fits : (tick : ℕ) → ChangeFits table id need tick (changes.Remove name)
  remove-fits tick = change-fits ahead table id tick (changes.Remove name) room is_ahead

  pub release-after : (tick : ℕ) (after : TableValue) → IsChanged table after id need tick (changes.Remove name) → 0 < after.room.blocks
  release-after tick after step = release-fits (changed_one id ahead) after (change-leaves ahead table after id tick (changes.Remove name) room is_ahead step)

-- ---- before the step

-- what was found and made before anything goes; the place of the entry was made first, then the room
pub record IsReady {S : Type 0} (blocks : S → Option BlockMap) (greatest : S → ℕ) (before placed ready : RowSpace S) (text : List ℕ) (recursive : Bool) (path : Names) (going : Going) : Type 0 where
  pub kept : placed ≡ record before { journal = placed.journal }
  pub items : placed.journal.items ≡ before.journal.items
  pub same : told ready.table ≡ told placed.table
  pub waiting : ready.waiting.items ≡ placed.waiting.items
  pub rest : ready ≡ record placed { table = ready.table; waiting = ready.waiting }
  pub asked : (state : State FileBlocks) → StandsFor (told before.table) before.snaps state → delete_at state text recursive ≡ Ok path
  pub found : (state : State FileBlocks) → StandsFor (told placed.table) placed.snaps state → IsGoing (told placed.table).rows state path going

-- ---- the step

module _ {S : Type 0} {blocks : S → Option BlockMap} {greatest : S → ℕ} {before placed ready : RowSpace S} {text : List ℕ} {recursive : Bool} {path : Names} {going : Going} (all : IsReady blocks greatest before placed ready text recursive path going) where
  is : (state : State FileBlocks) → StandsFor (told before.table) before.snaps state → IsGoing (told before.table).rows state path going
  is = subst (λ (r : RowSpace S). (state : State FileBlocks) → StandsFor (told r.table) r.snaps state → IsGoing (told r.table).rows state path going) all.kept all.found

  held_same : held blocks greatest ready ≡ held blocks greatest before
  held_same =
      same-held (held blocks greatest ready) (held blocks greatest placed) all.same (ap (λ (r : RowSpace S). r.snaps) all.rest) (ap (λ (r : RowSpace S). blocks r.store) all.rest) (ap (λ (r : RowSpace S). greatest r.store) all.rest) (ap all_of all.waiting)
      ∙ ap (held blocks greatest) all.kept

  table_same : told ready.table ≡ told before.table
  table_same = ap (λ (h : Held). h.table) held_same

  snaps_same : ready.snaps ≡ before.snaps
  snaps_same = ap (λ (h : Held). h.snaps) held_same

  module _ (standing : IsStanding (held blocks greatest before) (tick_of before)) where
    abbrev state : State FileBlocks
    state = standing.1.stands.state

    stands : StandsFor (told before.table) before.snaps state
    stands = standing.1.stands.stands

    pub remove-can : CanChange (told ready.table).rows going.parent.id (changes.Remove going.name)
    remove-can = subst (λ (t : Tabled). CanChange t.rows going.parent.id (changes.Remove going.name)) (sym table_same)
        (delete-can (told before.table) before.snaps state stands text recursive path going (all.asked state stands) (is state stands))

    pub remove-free : (dir : InodeId) → Contains going.gone dir → snaps_in ready.snaps dir ≡ []
    remove-free dir at = ap (λ (s : Snapshots). snaps_in s dir) snaps_same ∙ delete-free (told before.table) before.snaps state stands text recursive path going (all.asked state stands) (is state stands) dir at

  module _ (middle : RowSpace S) (tick : ℕ) (now : tick ≡ tick_of before + 1) (step : IsRemoved ready middle going tick) where
    released : Releasing (changed going.parent.id going.parent.need.0 (tick_of before + 1) (changes.Remove going.name) (told before.table)) step.freed (told middle.table)
    released =
        subst (λ (t : Tabled). Releasing (changed going.parent.id going.parent.need.0 (tick_of before + 1) (changes.Remove going.name) t) step.freed (told middle.table)) table_same
        (subst (λ (n : ℕ). Releasing (changed going.parent.id going.parent.need.0 n (changes.Remove going.name) (told ready.table)) step.freed (told middle.table)) now step.released)

    pub remove-store : middle.store ≡ before.store
    remove-store = ap (λ (r : RowSpace S). r.store) step.rest ∙ ap (λ (r : RowSpace S). r.store) all.rest ∙ ap (λ (r : RowSpace S). r.store) all.kept

    pub remove-journal : middle.journal.items ≡ before.journal.items
    remove-journal = ap (λ (r : RowSpace S). r.journal.items) step.rest ∙ ap (λ (r : RowSpace S). r.journal.items) all.rest ∙ all.items

    pub remove-limit : middle.limit ≡ before.limit
    remove-limit = ap (λ (r : RowSpace S). r.limit) step.rest ∙ ap (λ (r : RowSpace S). r.limit) all.rest ∙ ap (λ (r : RowSpace S). r.limit) all.kept

    pub remove-place : HasPlace placed → HasPlace middle
    remove-place p = subst (λ (r : RowSpace S). HasPlace r) (sym step.rest) (subst (λ (r : RowSpace S). HasPlace (record r { table = middle.table; snaps = middle.snaps; waiting = middle.waiting })) (sym all.rest) (record { below = p.below; most = p.most; room = p.room }))

    module _ (plain : State (List ℕ)) (at : IsAt (held blocks greatest before) (tick_of before) plain) where
      pub remove-done : IsDone (held blocks greatest before) (held blocks greatest middle) (tick_of before) (calls.Delete text recursive) replies.Done plain
      remove-done = deleted-done (held blocks greatest before) (held blocks greatest middle) (tick_of before) plain at text recursive path going (all.asked at.stands.state at.stands.stands) (is at.stands.state at.stands.stands) step.freed released
          (step.snaps ∙ ap (λ (s : Snapshots). all_disallowed going.gone s) snaps_same) (ap blocks remove-store) (ap greatest remove-store) (step.waiting ∙ ap (λ (l : List BlockId). l ++ step.freed.blocks) (ap (λ (h : Held). h.waiting) held_same))

      pub remove-light : weight (held blocks greatest middle) (done plain (calls.Delete text recursive)) ≤ weight (held blocks greatest before) plain + 10
      remove-light = deleted-light (held blocks greatest before) (held blocks greatest middle) (tick_of before) plain at text recursive path going (all.asked at.stands.state at.stands.stands) (is at.stands.state at.stands.stands) step.freed released
          (step.snaps ∙ ap (λ (s : Snapshots). all_disallowed going.gone s) snaps_same)

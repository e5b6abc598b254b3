-- Calls on the rows of a table.
use Rattle.std.proofs.Common.{◌≡◌, ℕ, ◌+◌, ◌≤◌, List, length, Option, Ok, Err, refl, sym, ap, subst, ◌∙◌, arith}
use Rattle.hs_types.specs.Blocks.{BlockMap}
use Rattle.hs_types.specs.declared.ids.BlockId.{BlockId}
use Rattle.hs_plain.specs.declared.state.Member.{Member}
use Rattle.hs_types.specs.Names.{Names}
use Rattle.hs_types.specs.declared.ids.InodeId.{InodeId}
use Rattle.hs_types.specs.declared.call.Call.TheVariants as calls
use Rattle.hs_types.specs.declared.reply.Reply.TheVariants as replies
use Rattle.hs_plain.specs.declared.state.State.{State}
use Rattle.hs_plain.specs.declared.state.FileBlocks.{FileBlocks}
use Rattle.hs_plain.specs.Asked.{Asked}
use Rattle.hs_plain.specs.Files.{plain_files, block_files}
use Rattle.hs_plain.specs.Modifying.{set_mode_at}
use Rattle.hs_plain.specs.Answer.{replied}
use Rattle.hs_plain.specs.Change.{if_asked, with_mode, change, ticked}
use Rattle.snapshot_manager.specs.Snapshots.{Snapshots}
use Rattle.inode_table.specs.declared.change.Change.{Change}
use Rattle.inode_table.specs.declared.change.Change.TheVariants as changes
use Rattle.inode_table.specs.Blocked.{AreBlocks}
use Rattle.inode_table.specs.Kept.{CanChange}
use Rattle.inode_table.specs.Tabled.{Tabled, changed}
use Rattle.inode_table.specs.Totals as totals
use Rattle.inode_table.specs.Whole.{StandsFor}
use Rattle.table_laws.specs.WholeCalls.{way_to, need_at, with_change}
use Rattle.table_laws.proofs.BlockSteps.{quiet-blocks}
use Rattle.table_laws.proofs.WholeNodes.{whole-mode, can-mode}
use Rattle.namenode_write.specs.declared.rows.seats.Seat.{Seat}
use Rattle.namenode_write.specs.Called.{IsCalled}
use Rattle.namenode_write.specs.Rows.{Held, IsAt, IsDone, weight}
use Rattle.namenode_write.specs.Seats.{IsSeat}
use Rattle.namenode_write.proofs.RowDone.{call-done}
use Rattle.namenode_write.proofs.Weights.{weight-changed}

module _ (t : Tabled) (snaps : Snapshots) (state : State FileBlocks) (before : StandsFor t snaps state) where
  -- a change at a seat is one at the row's need
  pub seat-change : (path : Names) (seat : Seat) (what : Change) (tick : ℕ) → (s : IsSeat t.rows state path seat) → tick ≡ state.tick + 1 → changed seat.id seat.need.0 tick what t ≡ with_change state t.rows (way_to s.node s.chain) what t
  seat-change path seat what tick s now =
      ap (λ (i : InodeId). changed i seat.need.0 tick what t) s.id ∙ ap (λ (n : ℕ). changed s.node.id n tick what t) s.need
      ∙ ap (λ (n : ℕ). changed s.node.id (need_at state t.rows (way_to s.node s.chain)) n what t) now

  pub mode-can : (path : Names) (seat : Seat) (mode : ℕ) → IsSeat t.rows state path seat → CanChange t.rows seat.id (changes.Mode mode)
  mode-can path seat mode s = subst (λ (i : InodeId). CanChange t.rows i (changes.Mode mode)) (sym s.id) (can-mode t snaps state path s.chain s.node before s.reaches mode)

  pub mode-called : (text : List ℕ) (mode : ℕ) (path : Names) (seat : Seat) (now : Tabled) (tick : ℕ) → set_mode_at state text ≡ Ok path → IsSeat t.rows state path seat → tick ≡ state.tick + 1
      → now ≡ changed seat.id seat.need.0 tick (changes.Mode mode) t → IsCalled t now snaps (calls.SetMode text mode) replies.Done state
  mode-called text mode path seat now tick asked s next is = record {
    answered = ap (λ (a : Asked Names). replied replies.Done a) asked;
    stands = subst (λ (x : Tabled). StandsFor x snaps (ticked (change block_files state (calls.SetMode text mode)))) (sym (is ∙ seat-change path seat (changes.Mode mode) tick s next))
        (whole-mode t snaps state path s.chain s.node before s.reaches block_files text mode asked);
    blocks = λ store made waiting are. subst (λ (x : Tabled). AreBlocks x.rows store made waiting) (sym is) (quiet-blocks t seat.id seat.need.0 tick (changes.Mode mode) store made waiting tt are);
    light =
        let more = subst (λ (x : Tabled). totals.weight x.rows ≤ totals.weight t.rows + 3) (sym is) (weight-changed t seat.id seat.need.0 tick (changes.Mode mode) before.naming.order before.records.undoable (mode-can path seat mode s)) in
        omega (arith, more);
  }

-- ---- to the plain machine's step

module _ (before now : Held) (tick : ℕ) (plain : State (List ℕ)) (at : IsAt before tick plain) where
  next-tick : tick + 1 ≡ at.stands.state.tick + 1
  next-tick = ap (λ n. n + 1) (sym (ap (λ (s : State ℕ). s.tick) at.stands.sized ∙ at.tick))

  module _ (text : List ℕ) (mode : ℕ) (path : Names) (seat : Seat) (asked : set_mode_at at.stands.state text ≡ Ok path) (s : IsSeat before.table.rows at.stands.state path seat)
      (table : now.table ≡ changed seat.id seat.need.0 (tick + 1) (changes.Mode mode) before.table) (snaps : now.snaps ≡ before.snaps) (store : now.store ≡ before.store) (greatest : now.greatest ≡ before.greatest) (waiting : now.waiting ≡ before.waiting) where
    is : IsCalled before.table now.table before.snaps (calls.SetMode text mode) replies.Done at.stands.state
    is = mode-called before.table before.snaps at.stands.state at.stands.stands text mode path seat now.table (tick + 1) asked s next-tick table

    pub mode-heavier : weight now (ticked (change plain_files plain (calls.SetMode text mode))) ≤ weight before plain + 10
    mode-heavier = let same = ap (λ (ms : List (Member (List ℕ))). length ms) (moded-members (set_mode_at plain text)) in let more = is.light in omega (arith, same, more)
      where
        moded-members : (a : Asked Names) → (if_asked (with_mode plain mode) plain a).members ≡ plain.members
        moded-members (Ok p) = refl
        moded-members (Err why) = refl

    pub mode-done : IsDone before now tick (calls.SetMode text mode) replies.Done plain
    mode-done = call-done before now tick (calls.SetMode text mode) replies.Done plain at refl refl is.answered
        (subst (λ (x : Snapshots). StandsFor now.table x (ticked (change block_files at.stands.state (calls.SetMode text mode)))) (sym snaps) is.stands) store greatest
        (subst (λ (o : Option BlockMap). AreBlocks now.table.rows o now.greatest now.waiting) (sym store)
        (subst (λ (n : ℕ). AreBlocks now.table.rows before.store n now.waiting) (sym greatest)
        (subst (λ (w : List BlockId). AreBlocks now.table.rows before.store before.greatest w) (sym waiting) (is.blocks before.store before.greatest before.waiting at.stands.blocks))))
        mode-heavier

-- What a rename over rows leaves.
use Rattle.std.proofs.Common.{Option, ◌≡◌, ℕ, ◌+◌, ◌<◌, ◌≤◌, ◌^◌, List, length, Ok, Err, refl, sym, ap, subst, ◌∙◌, arith}
use Rattle.hs_types.specs.Blocks.{BlockMap}
use Rattle.hs_types.specs.Names.{Names}
use Rattle.hs_types.specs.declared.journal.Entry.{Entry}
use Rattle.hs_types.specs.declared.call.Call.TheVariants as calls
use Rattle.hs_types.specs.declared.reply.Reply.TheVariants as replies
use Rattle.hs_plain.specs.declared.state.State.{State}
use Rattle.hs_plain.specs.declared.state.FileBlocks.{FileBlocks}
use Rattle.hs_plain.specs.Asked.{Asked}
use Rattle.hs_plain.specs.Change.{if_asked, renamed}
use Rattle.hs_plain.specs.Modifying.{rename_at}
use Rattle.inode_table.specs.Kept.{TableValue, told}
use Rattle.inode_table.specs.Tabled.{Tabled}
use Rattle.inode_table.specs.Totals as totals
use Rattle.inode_table.specs.Whole.{StandsFor}
use Rattle.namenode_write.specs.declared.rows.space.RowSpace.{RowSpace}
use Rattle.namenode_write.specs.Called.{IsCalled}
use Rattle.namenode_write.specs.Outcome.{tick_of, HasPlace, IsOutcome}
use Rattle.namenode_write.specs.Rows.{Held, held, all_of, weight, done, IsAt, IsDone}
use Rattle.namenode_write.proofs.Outcomes.{done-outcome}
use Rattle.namenode_write.proofs.RowDone.{call-done}

-- no snapshot more or less
same_count : (plain : State (List ℕ)) (asked : Asked (Names × Names)) → length (if_asked (renamed plain) plain asked).members ≡ length plain.members
same_count plain (Ok paths) = refl
same_count plain (Err why) = refl

-- the next tick is that of the state with blocks
pub tick-due : (before : Held) (count : ℕ) (plain : State (List ℕ)) (at : IsAt before count plain) → count + 1 ≡ at.stands.state.tick + 1
tick-due before count plain at = ap (λ n. n + 1) (sym (ap (λ (s : State ℕ). s.tick) at.stands.sized ∙ at.tick))

module _ (before : Held) (now : Tabled) (tick : ℕ) (plain : State (List ℕ)) (at : IsAt before tick plain) (old new : List ℕ)
    (called : IsCalled before.table now before.snaps (calls.Rename old new) replies.Done at.stands.state) where
  abbrev after : Held
  after = record before { table = now }

  light : weight after (done plain (calls.Rename old new)) ≤ weight before plain + 10
  light = let more = called.light in let same = same_count plain (rename_at plain old new) in omega (arith, more, same)

  rename_done : IsDone before after tick (calls.Rename old new) replies.Done plain
  rename_done = call-done before after tick (calls.Rename old new) replies.Done plain at refl refl called.answered called.stands refl refl
      (called.blocks before.store before.greatest before.waiting at.stands.blocks) light

module _ {S : Type 0} (blocks : S → Option BlockMap) (greatest faults : S → ℕ) (before middle : RowSpace S) (old_text new_text : List ℕ) (paths : Names × Names)
    (kept : middle ≡ record before { journal = middle.journal }) (items : middle.journal.items ≡ before.journal.items)
    (asked : (state : State FileBlocks) → StandsFor (told before.table) before.snaps state → rename_at state old_text new_text ≡ Ok paths) where
  -- the table is light enough for its changes
  pub light-enough : HasPlace middle → (plain : State (List ℕ)) → IsAt (held blocks greatest before) (tick_of before) plain → totals.weight (told middle.table).rows + 10 < 2 ^ 32
  light-enough place plain at =
      let count = ap (λ (entries : List Entry). length entries) items in
      let same = ap (λ (r : RowSpace S). totals.weight (told r.table).rows) kept in
      let below = place.below in
      let most = place.most in
      let light = at.light in
      omega (arith, count, same, below, most, light)

  module _ (table : TableValue) where
    abbrev then_held : RowSpace S → Held
    then_held space = record (held blocks greatest space) { table = told table }

    then_is : held blocks greatest (record middle { table = table }) ≡ then_held before
    then_is = ap then_held kept

    module _ (tick : ℕ) (next : tick ≡ tick_of before + 1)
        (moved : (state : State FileBlocks) (old new : List ℕ) → StandsFor (told middle.table) middle.snaps state → tick ≡ state.tick + 1 → rename_at state old new ≡ Ok paths
        → IsCalled (told middle.table) (told table) middle.snaps (calls.Rename old new) replies.Done state) where
      called : (state : State FileBlocks) → StandsFor (told before.table) before.snaps state → tick ≡ state.tick + 1 → IsCalled (told before.table) (told table) before.snaps (calls.Rename old_text new_text) replies.Done state
      called state all due =
          subst (λ (r : RowSpace S). StandsFor (told r.table) r.snaps state → IsCalled (told r.table) (told table) r.snaps (calls.Rename old_text new_text) replies.Done state) kept
          (λ same. moved state old_text new_text same due (asked state all)) all

      here : (plain : State (List ℕ)) (at : IsAt (held blocks greatest before) (tick_of before) plain) → IsCalled (told before.table) (told table) before.snaps (calls.Rename old_text new_text) replies.Done at.stands.state
      here plain at = called at.stands.state at.stands.stands (next ∙ tick-due (held blocks greatest before) (tick_of before) plain at)

      pub rename-outcome : HasPlace middle → IsOutcome blocks greatest faults before (record middle { table = table }) (calls.Rename old_text new_text) (Ok replies.Done)
      rename-outcome place = done-outcome blocks greatest faults before (record middle { table = table }) (calls.Rename old_text new_text) replies.Done
          (λ plain at. subst (λ (h : Held). IsDone (held blocks greatest before) h (tick_of before) (calls.Rename old_text new_text) replies.Done plain) (sym then_is)
          (rename_done (held blocks greatest before) (told table) (tick_of before) plain at old_text new_text (here plain at)))
          (λ plain at. subst (λ (h : Held). weight h (done plain (calls.Rename old_text new_text)) ≤ weight (held blocks greatest before) plain + 10) (sym then_is)
          (light (held blocks greatest before) (told table) (tick_of before) plain at old_text new_text (here plain at)))
          (ap (λ (r : RowSpace S). r.store) kept) items (ap (λ (r : RowSpace S). r.limit) kept)
          (record { below = place.below; most = place.most; room = place.room }) refl refl (ap (λ (r : RowSpace S). all_of r.waiting.items) kept)

-- What a call that makes a node leaves, once a place was made for its entry.
use Rattle.std.proofs.Common.{◌≡◌, ℕ, ◌+◌, ◌≤◌, Bool, List, [], Option, Ok, refl, sym, ap, subst, ◌∙◌, append-nil}
use Rattle.std.specs.Prelude.{is_some}
use Rattle.hs_types.specs.Blocks.{BlockMap}
use Rattle.hs_types.specs.Names.{Names}
use Rattle.hs_types.specs.Faults.{Rose}
use Rattle.hs_types.specs.declared.ids.InodeId.{InodeId}
use Rattle.hs_types.specs.declared.call.Call.TheVariants as calls
use Rattle.hs_types.specs.declared.reply.Reply.TheVariants as replies
use Rattle.hs_plain.specs.declared.state.State.{State}
use Rattle.hs_plain.specs.declared.state.FileBlocks.{FileBlocks}
use Rattle.hs_plain.specs.Modifying.{mkdir_at, create_at}
use Rattle.inode_table.specs.Kept.{TableValue, told}
use Rattle.inode_table.specs.Whole.{StandsFor}
use Rattle.namenode_write.specs.declared.rows.space.RowSpace.{RowSpace}
use Rattle.namenode_write.specs.Called.{IsCalled}
use Rattle.namenode_write.specs.NewNodes.{AsksDir, AsksFile, mkdir_call, IsCalledFreeing, IsFilePut}
use Rattle.namenode_write.specs.Outcome.{tick_of, HasPlace, IsOutcome}
use Rattle.namenode_write.specs.Rows.{held, all_of, weight, done, IsAt, IsDone, IsStanding}
use Rattle.namenode_write.specs.Waiting.{StaysAt}
use Rattle.namenode_write.proofs.FreedOutcomes.{freed-outcome}
use Rattle.namenode_write.proofs.MadeDone.{none-freed, mkdir-makes, create-makes, asks-dir, asks-file, made-done, made-heavier}
use Rattle.namenode_write.proofs.Outcomes.{done-outcome}

module _ {S : Type 0} (blocks : S → Option BlockMap) (greatest faults : S → ℕ) (before placed : RowSpace S) (kept : placed ≡ record before { journal = placed.journal })
    (text : List ℕ) (path : Names) (tick : ℕ) (next : tick ≡ tick_of before + 1) where
  -- ---- a new directory

  module _ (asks : (state : State FileBlocks) → StandsFor (told before.table) before.snaps state → mkdir_at state text ≡ Ok path) where
    pub dir-asked : IsStanding (held blocks greatest before) (tick_of before) → (state : State FileBlocks) × AsksDir (told placed.table) placed.snaps path tick state
    dir-asked standing = (
      standing.1.stands.state,
      subst (λ (r : RowSpace S). AsksDir (told r.table) r.snaps path tick standing.1.stands.state) (sym kept)
          (subst (λ (n : ℕ). AsksDir (told before.table) before.snaps path n standing.1.stands.state) (sym next)
          (asks-dir (held blocks greatest before) (tick_of before) standing.0 standing.1 text path (asks standing.1.stands.state standing.1.stands.stands))),
    )

    module _ (table : TableValue) (id : InodeId)
        (called : (state : State FileBlocks) (a : AsksDir (told placed.table) placed.snaps path tick state) → IsCalled (told placed.table) (told table) placed.snaps (mkdir_call a) (replies.Made id) state) where
      abbrev now : RowSpace S
      now = record placed { table = table }

      -- told of the table before
      dir-told : (state : State FileBlocks) (a : AsksDir (told before.table) before.snaps path (tick_of before + 1) state) → IsCalled (told before.table) (told table) before.snaps (mkdir_call a) (replies.Made id) state
      dir-told = subst (λ (n : ℕ). (state : State FileBlocks) (a : AsksDir (told before.table) before.snaps path n state) → IsCalled (told before.table) (told table) before.snaps (mkdir_call a) (replies.Made id) state) next
          (subst (λ (r : RowSpace S). (state : State FileBlocks) (a : AsksDir (told r.table) r.snaps path tick state) → IsCalled (told r.table) (told table) r.snaps (mkdir_call a) (replies.Made id) state) kept called)

      dir-freeing : (plain : State (List ℕ)) (at : IsAt (held blocks greatest before) (tick_of before) plain) → IsCalledFreeing (told before.table) (told table) [] before.snaps (calls.Mkdir text) (replies.Made id) at.stands.state
      dir-freeing plain at = none-freed (told before.table) (told table) before.snaps (calls.Mkdir text) (replies.Made id) at.stands.state
          (dir-told at.stands.state (asks-dir (held blocks greatest before) (tick_of before) plain at text path (asks at.stands.state at.stands.stands)))

      dir-done : (plain : State (List ℕ)) → IsAt (held blocks greatest before) (tick_of before) plain → IsDone (held blocks greatest before) (held blocks greatest now) (tick_of before) (calls.Mkdir text) (replies.Made id) plain
      dir-done plain at = made-done (held blocks greatest before) (tick_of before) plain at (held blocks greatest now) (calls.Mkdir text) (replies.Made id) (mkdir-makes text) []
          (ap (λ (r : RowSpace S). r.snaps) kept) (ap (λ (r : RowSpace S). blocks r.store) kept) (ap (λ (r : RowSpace S). greatest r.store) kept)
          (ap (λ (r : RowSpace S). all_of r.waiting.items) kept ∙ sym (append-nil (all_of before.waiting.items))) (dir-freeing plain at)

      dir-heavier : (plain : State (List ℕ)) → IsAt (held blocks greatest before) (tick_of before) plain → weight (held blocks greatest now) (done plain (calls.Mkdir text)) ≤ weight (held blocks greatest before) plain + 10
      dir-heavier plain at = made-heavier (held blocks greatest before) (tick_of before) plain at (held blocks greatest now) (calls.Mkdir text) (replies.Made id) (mkdir-makes text) []
          (ap (λ (r : RowSpace S). r.snaps) kept) (ap (λ (r : RowSpace S). blocks r.store) kept) (ap (λ (r : RowSpace S). greatest r.store) kept)
          (ap (λ (r : RowSpace S). all_of r.waiting.items) kept ∙ sym (append-nil (all_of before.waiting.items))) (dir-freeing plain at)

      pub mkdir-outcome : placed.journal.items ≡ before.journal.items → HasPlace placed → IsOutcome blocks greatest faults before now (calls.Mkdir text) (Ok (replies.Made id))
      mkdir-outcome journal place = done-outcome blocks greatest faults before now (calls.Mkdir text) (replies.Made id) dir-done dir-heavier
          (ap (λ (r : RowSpace S). r.store) kept) journal (ap (λ (r : RowSpace S). r.limit) kept) (record { below = place.below; most = place.most; room = place.room }) refl refl (ap (λ (r : RowSpace S). all_of r.waiting.items) kept)

  -- ---- a new file

  module _ (over : Bool) (asks : (state : State FileBlocks) → StandsFor (told before.table) before.snaps state → create_at state text over ≡ Ok path) where
    pub file-asked : IsStanding (held blocks greatest before) (tick_of before) → (state : State FileBlocks) × AsksFile (told placed.table) placed.snaps path tick state
    file-asked standing = (
      standing.1.stands.state,
      subst (λ (r : RowSpace S). AsksFile (told r.table) r.snaps path tick standing.1.stands.state) (sym kept)
          (subst (λ (n : ℕ). AsksFile (told before.table) before.snaps path n standing.1.stands.state) (sym next)
          (asks-file (held blocks greatest before) (tick_of before) standing.0 standing.1 text over path (asks standing.1.stands.state standing.1.stands.stands))),
    )

    -- `middle` is between the change and what is freed after it
    module _ (middle after : RowSpace S) (id : InodeId) (changed : middle ≡ record placed { table = middle.table; waiting = middle.waiting })
        (put : IsFilePut (told placed.table) (told middle.table) placed.snaps (all_of placed.waiting.items) (all_of middle.waiting.items) path tick id) where
      file-told : IsFilePut (told before.table) (told middle.table) before.snaps (all_of before.waiting.items) (all_of middle.waiting.items) path (tick_of before + 1) id
      file-told = subst (λ (n : ℕ). IsFilePut (told before.table) (told middle.table) before.snaps (all_of before.waiting.items) (all_of middle.waiting.items) path n id) next
          (subst (λ (r : RowSpace S). IsFilePut (told r.table) (told middle.table) r.snaps (all_of r.waiting.items) (all_of middle.waiting.items) path tick id) kept put)

      file-freeing : (plain : State (List ℕ)) (at : IsAt (held blocks greatest before) (tick_of before) plain) → IsCalledFreeing (told before.table) (told middle.table) file-told.freed before.snaps (calls.Create text over) (replies.Made id) at.stands.state
      file-freeing plain at = file-told.called at.stands.state (asks-file (held blocks greatest before) (tick_of before) plain at text over path (asks at.stands.state at.stands.stands))

      same-store : middle.store ≡ before.store
      same-store = ap (λ (r : RowSpace S). r.store) changed ∙ ap (λ (r : RowSpace S). r.store) kept

      file-done : (plain : State (List ℕ)) → IsAt (held blocks greatest before) (tick_of before) plain → IsDone (held blocks greatest before) (held blocks greatest middle) (tick_of before) (calls.Create text over) (replies.Made id) plain
      file-done plain at = made-done (held blocks greatest before) (tick_of before) plain at (held blocks greatest middle) (calls.Create text over) (replies.Made id) (create-makes text over) file-told.freed
          (ap (λ (r : RowSpace S). r.snaps) changed ∙ ap (λ (r : RowSpace S). r.snaps) kept) (ap blocks same-store) (ap greatest same-store) file-told.waits (file-freeing plain at)

      file-heavier : (plain : State (List ℕ)) → IsAt (held blocks greatest before) (tick_of before) plain → weight (held blocks greatest middle) (done plain (calls.Create text over)) ≤ weight (held blocks greatest before) plain + 10
      file-heavier plain at = made-heavier (held blocks greatest before) (tick_of before) plain at (held blocks greatest middle) (calls.Create text over) (replies.Made id) (create-makes text over) file-told.freed
          (ap (λ (r : RowSpace S). r.snaps) changed ∙ ap (λ (r : RowSpace S). r.snaps) kept) (ap blocks same-store) (ap greatest same-store) file-told.waits (file-freeing plain at)

      pub create-outcome : placed.journal.items ≡ before.journal.items → HasPlace placed → after ≡ record middle { store = after.store; waiting = after.waiting }
          → StaysAt (blocks middle.store) (greatest middle.store) middle.waiting.items (blocks after.store) (greatest after.store) after.waiting.items
          → is_some (blocks after.store) ≡ is_some (blocks middle.store) → faults middle.store ≤ faults after.store → ((Rose (faults middle.store) (faults after.store) → ⊥) → after.waiting.items ≡ [])
          → IsOutcome blocks greatest faults before after (calls.Create text over) (Ok (replies.Made id))
      create-outcome journal place rest standing tells count freed = freed-outcome blocks greatest faults before middle after (calls.Create text over) (replies.Made id) file-done file-heavier same-store
          (ap (λ (r : RowSpace S). r.journal.items) changed ∙ journal) (ap (λ (r : RowSpace S). r.limit) changed ∙ ap (λ (r : RowSpace S). r.limit) kept)
          (subst (λ (r : RowSpace S). HasPlace r) (sym changed) (record { below = place.below; most = place.most; room = place.room })) refl refl refl rest standing tells count freed

-- A call that lets blocks go was done, and the store freed what waits.
use Rattle.std.proofs.Common.{◌≡◌, ℕ, ◌+◌, ◌≤◌, true, false, List, [], Option, Ok, sym, ap, subst, ◌∙◌}
use Rattle.std.specs.Prelude.{is_some}
use Rattle.hs_types.specs.Blocks.{BlockMap}
use Rattle.hs_types.specs.Faults.{Rose}
use Rattle.hs_types.specs.declared.call.Call.{Call}
use Rattle.hs_types.specs.declared.reply.Reply.{Reply}
use Rattle.hs_plain.specs.declared.state.State.{State}
use Rattle.hs_plain.specs.Answer.{is_modifying}
use Rattle.inode_table.specs.Kept.{told}
use Rattle.namenode_write.specs.declared.rows.space.RowSpace.{RowSpace}
use Rattle.namenode_write.specs.Outcome.{tick_of, HasPlace, is_storeless, is_freeing, most_added, IsOutcome}
use Rattle.namenode_write.specs.Rows.{held, all_of, weight, done, entries, IsAt, IsDone}
use Rattle.namenode_write.specs.Waiting.{StaysAt}
use Rattle.namenode_write.proofs.RowFreed.{freed-done}

module _ {S : Type 0} (blocks : S → Option BlockMap) (greatest faults : S → ℕ) where
  pub freed-outcome : (before middle after : RowSpace S) (call : Call) (reply : Reply)
      → ((plain : State (List ℕ)) → IsAt (held blocks greatest before) (tick_of before) plain → IsDone (held blocks greatest before) (held blocks greatest middle) (tick_of before) call reply plain)
      → ((plain : State (List ℕ)) → IsAt (held blocks greatest before) (tick_of before) plain → weight (held blocks greatest middle) (done plain call) ≤ weight (held blocks greatest before) plain + most_added call)
      → middle.store ≡ before.store → middle.journal.items ≡ before.journal.items → middle.limit ≡ before.limit → HasPlace middle → is_modifying call ≡ true → is_storeless call ≡ false → is_freeing call ≡ true
      → after ≡ record middle { store = after.store; waiting = after.waiting }
      → StaysAt (blocks middle.store) (greatest middle.store) middle.waiting.items (blocks after.store) (greatest after.store) after.waiting.items
      → is_some (blocks after.store) ≡ is_some (blocks middle.store) → faults middle.store ≤ faults after.store → ((Rose (faults middle.store) (faults after.store) → ⊥) → after.waiting.items ≡ [])
      → IsOutcome blocks greatest faults before after call (Ok reply)
  freed-outcome before middle after call reply is heavier store journal limit place modifies uses frees rest standing tells count freed = record {
    made = λ plain at. freed-done (held blocks greatest before) (held blocks greatest middle) (held blocks greatest after) (tick_of before) call reply plain (is plain at) (stays (entries (tick_of before) call) (done plain call));
    heavier = λ plain at. subst (λ (r : RowSpace S). weight (held blocks greatest r) (done plain call) ≤ weight (held blocks greatest before) plain + most_added call) (sym rest) (heavier plain at);
    cause = tt;
    kept = tt;
    refused = tt;
    undone_table = tt;
    undone_snaps = tt;
    undone = λ none. tt;
    reads = λ none. absurd (cc (modifies, none));
    journal = ap (λ (r : RowSpace S). r.journal.items) rest ∙ journal;
    limit = ap (λ (r : RowSpace S). r.limit) rest ∙ limit;
    place = subst (λ (r : RowSpace S). HasPlace r) (sym rest) (record { below = place.below; most = place.most; room = place.room });
    fault_place = λ fails. absurd (cc);
    tells = tells ∙ ap (λ (s : S). is_some (blocks s)) store;
    count = subst (λ (s : S). faults s ≤ faults after.store) store count;
    rose = λ fails. absurd (cc);
    store = λ none. absurd (cc (uses, none));
    waits = λ none. absurd (cc (frees, none));
    freed = λ so never. ap all_of (freed (subst (λ (s : S). Rose (faults s) (faults after.store) → ⊥) (sym store) never));
  }
    where
      stays : (n : ℕ) (p : State (List ℕ)) → IsAt (held blocks greatest middle) n p → IsAt (held blocks greatest after) n p
      stays n p at = subst (λ (r : RowSpace S). IsAt (held blocks greatest r) n p) (sym rest) (standing (told middle.table) middle.snaps n p at)

-- A directory keeps its past when an entry is added or removed.
use Rattle.std.proofs.Common.{◌≡◌, ℕ, ◌<◌, ◌≤◌, List, Option, Some, None, refl, arith}
use Rattle.hs_types.specs.declared.ids.InodeId.{InodeId}
use Rattle.change_history.proofs.Tests.{zero_or_above}
use Rattle.dir_changes.specs.Entries.{id_at, with_entry, without_name}
use Rattle.dir_changes.specs.History.{DirHistory, last_number, children_at, marks_at, note_added, note_removed, added, removed_as}
use Rattle.dir_changes.specs.Sound.{IsSound}
use Rattle.dir_changes.proofs.UndoLaw.{in_order-with_entry}
use Rattle.dir_changes.proofs.EditLaws.{undo-note_added, can_undo-note_added, undo-note_removed, can_undo-note_removed, in_order-without_name}
use Rattle.dir_changes.proofs.OrderLaws.{ordered-change_last, ordered-note_added, ordered-note_removed}
use Rattle.dir_changes.proofs.MarkedLaws.{rising-change_last, marks-change_last}
use Rattle.dir_changes.proofs.ReadLaws.{can_undo_all-change_last, reads-change_last}

module _ (name : List ℕ) (id : InodeId) (dir : DirHistory) (sound : IsSound dir) (absent : id_at name dir.children ≡ None) where
  pub sound-added : IsSound (added name id dir)
  sound-added = record {
    rising = rising-change_last (note_added name id) 0 dir.records sound.rising;
    in_order = in_order-with_entry name id dir.children sound.in_order;
    ordered = ordered-change_last (note_added name id) (ordered-note_added name id) dir.records sound.ordered;
    undoable = can_undo_all-change_last (note_added name id) dir.children (with_entry name id dir.children)
        (λ d can. undo-note_added name id d dir.children absent can sound.in_order) (λ d can. can_undo-note_added name id d dir.children absent can) dir.records sound.undoable;
  }

  pub children_at-added : (s : ℕ) → 0 < s → s ≤ last_number dir → children_at s (added name id dir) ≡ children_at s dir
  children_at-added s above le = zero_or_above s _ _ _ _ (λ e. absurd (omega arith))
      (λ _. reads-change_last (note_added name id) dir.children (with_entry name id dir.children)
      (λ d can. undo-note_added name id d dir.children absent can sound.in_order) (λ d can. can_undo-note_added name id d dir.children absent can) s 0 dir.records above le sound.undoable)

pub marks_at-added : (name : List ℕ) (id : InodeId) (dir : DirHistory) (s : ℕ) → marks_at s (added name id dir) ≡ marks_at s dir
marks_at-added name id dir s = marks-change_last (note_added name id) s dir.records dir.marks

module _ (name : List ℕ) (id : InodeId) (dir : DirHistory) (sound : IsSound dir) (there : id_at name dir.children ≡ Some id) where
  pub sound-removed : IsSound (removed_as name (Some id) dir)
  sound-removed = record {
    rising = rising-change_last (note_removed name id) 0 dir.records sound.rising;
    in_order = in_order-without_name name dir.children sound.in_order;
    ordered = ordered-change_last (note_removed name id) (ordered-note_removed name id) dir.records sound.ordered;
    undoable = can_undo_all-change_last (note_removed name id) dir.children (without_name name dir.children)
        (λ d can. undo-note_removed name id d dir.children sound.in_order there can) (λ d can. can_undo-note_removed name id d dir.children sound.in_order there can) dir.records sound.undoable;
  }

  pub children_at-removed_as : (s : ℕ) → 0 < s → s ≤ last_number dir → children_at s (removed_as name (Some id) dir) ≡ children_at s dir
  children_at-removed_as s above le = zero_or_above s _ _ _ _ (λ e. absurd (omega arith))
      (λ _. reads-change_last (note_removed name id) dir.children (without_name name dir.children)
      (λ d can. undo-note_removed name id d dir.children sound.in_order there can) (λ d can. can_undo-note_removed name id d dir.children sound.in_order there can) s 0 dir.records above le sound.undoable)

pub marks_at-removed_as : (name : List ℕ) (o : Option InodeId) (dir : DirHistory) (s : ℕ) → marks_at s (removed_as name o dir) ≡ marks_at s dir
marks_at-removed_as name None dir s = refl
marks_at-removed_as name (Some id) dir s = marks-change_last (note_removed name id) s dir.records dir.marks

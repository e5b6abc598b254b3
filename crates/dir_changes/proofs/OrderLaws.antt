-- The lists of the records stay in order.
use Rattle.std.proofs.Common.{ℕ, zero, suc, ◌<◌, true, false, cond, List, [], ◌∷◌, ◌++◌, refl}
use Rattle.std.specs.Prelude.{IsTrue, nat_eq}
use Rattle.hs_types.specs.declared.ids.InodeId.{InodeId}
use Rattle.hs_types.specs.declared.ids.SnapId.{SnapId}
use Rattle.change_history.proofs.Numbers.{rising-append}
use Rattle.dir_changes.specs.Entries.{in_order, with_entry, without_name, without, holds}
use Rattle.dir_changes.specs.Undo.{ListDiff}
use Rattle.dir_changes.specs.History.{DirHistory, Past, number_of, change_last, note_added, note_removed, taken, combined_at, started, without_record, children_at, records_from, undo_all, last_number}
use Rattle.dir_changes.specs.Sound.{IsSound, DiffsInOrder}
use Rattle.dir_changes.proofs.UndoLaw.{in_order-with_entry, in_order-with_all, in_order-without}
use Rattle.dir_changes.proofs.EditLaws.{in_order-without_name}
use Rattle.dir_changes.proofs.MarkedLaws.{rising-combined_at}
use Rattle.dir_changes.proofs.ReadLaws.{in_order-undo_all, can_undo_all-started, can_undo_all-combined_at}

-- both lists of a record are in order
abbrev pub DiffInOrder : ListDiff → Type 0
DiffInOrder d = IsTrue (in_order d.created) × IsTrue (in_order d.deleted)

pub ordered-change_last : (f : ListDiff → ListDiff) → ((d : ListDiff) → DiffInOrder d → DiffInOrder (f d)) → (rs : List Past) → DiffsInOrder rs → DiffsInOrder (change_last f rs)
ordered-change_last f keeps [] order = order
ordered-change_last f keeps (p ∷ []) order = let both = keeps p.diff (order.0, order.1) in (both.0, both.1, tt)
ordered-change_last f keeps (p ∷ q ∷ rs) order = (order.0, order.1, ordered-change_last f keeps (q ∷ rs) order.2)

pub ordered-note_added : (name : List ℕ) (id : InodeId) (d : ListDiff) → DiffInOrder d → DiffInOrder (note_added name id d)
ordered-note_added name id d order = (in_order-with_entry name id d.created order.0, order.1)

pub ordered-note_removed : (name : List ℕ) (id : InodeId) (d : ListDiff) → DiffInOrder d → DiffInOrder (note_removed name id d)
ordered-note_removed name id d order = elim (holds d.created (name, id)) as (λ b. DiffInOrder (cond b (record d { created = without_name name d.created }) (record d { deleted = with_entry name id d.deleted }))) [
  | true ↦ (in_order-without_name name d.created order.0, order.1)
  | false ↦ (order.0, in_order-with_entry name id d.deleted order.1)
]

ordered-append : (rs : List Past) (p : Past) → DiffsInOrder rs → DiffInOrder p.diff → DiffsInOrder (rs ++ p ∷ [])
ordered-append [] p order new = (new.0, new.1, tt)
ordered-append (r ∷ rs) p order new = (order.0, order.1, ordered-append rs p order.2 new)

ordered-taken : (p : Past) (rs : List Past) (i : ℕ) → DiffsInOrder (p ∷ rs) → DiffsInOrder (taken p rs i)
ordered-taken p [] i order = order
ordered-taken p (l ∷ rs) zero order = (
  in_order-with_all l.diff.created (without l.diff.deleted p.diff.created) (in_order-without l.diff.deleted p.diff.created order.0),
  in_order-with_all (without p.diff.created l.diff.deleted) p.diff.deleted order.1,
  order.2.2,
)
ordered-taken p (l ∷ rs) (suc i) order = (order.0, order.1, ordered-taken l rs i order.2)

ordered-combined_at : (i : ℕ) (rs : List Past) → DiffsInOrder rs → DiffsInOrder (combined_at i rs)
ordered-combined_at i [] order = order
ordered-combined_at zero (p ∷ rs) order = order.2
ordered-combined_at (suc i) (p ∷ rs) order = ordered-taken p rs i order

module _ (dir : DirHistory) (sound : IsSound dir) where
  pub sound-started : (number : SnapId) → last_number dir < number.0 → IsSound (started number dir)
  sound-started number above = record {
    rising = rising-append number_of 0 dir.records (record { number = number; marks = dir.marks; diff = record { created = []; deleted = [] } }) sound.rising above;
    in_order = sound.in_order;
    ordered = ordered-append dir.records (record { number = number; marks = dir.marks; diff = record { created = []; deleted = [] } }) sound.ordered (refl, refl);
    undoable = can_undo_all-started dir number sound.undoable;
  }

  pub sound-combined : (i : ℕ) → IsSound (without_record i dir)
  sound-combined i = record {
    rising = rising-combined_at 0 i dir.records sound.rising;
    in_order = sound.in_order;
    ordered = ordered-combined_at i dir.records sound.ordered;
    undoable = can_undo_all-combined_at dir.children i dir.records sound.in_order sound.undoable;
  }

  -- the child list is in order at each id
  pub in_order-children_at : (s : ℕ) → IsTrue (in_order (children_at s dir))
  in_order-children_at s = elim (nat_eq s 0) as (λ b. IsTrue (in_order (cond b dir.children (undo_all (records_from s dir.records) dir.children)))) [
    | true ↦ sound.in_order
    | false ↦ in_order-undo_all (records_from s dir.records) dir.children sound.in_order
  ]

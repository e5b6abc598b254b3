-- What each call of a directory keeps and counts.
use Rattle.std.proofs.Common.{◌≡◌, ℕ, ◌<◌, ◌≤◌, List, [], Option, Some, None, refl, sym, subst}
use Rattle.hs_types.specs.declared.ids.InodeId.{InodeId}
use Rattle.hs_types.specs.declared.ids.SnapId.{SnapId}
use Rattle.change_history.proofs.Numbers.{last_from-append}
use Rattle.dir_changes.specs.Entries.{id_at}
use Rattle.dir_changes.specs.History.{DirHistory, number_of, last_number, children_at, added, removed, removed_as, note_added, note_removed, started}
use Rattle.dir_changes.specs.Edits.{CountsRemoved, RemovedCounts}
use Rattle.dir_changes.specs.Sound.{IsSound}
use Rattle.dir_changes.proofs.DirLaws.{sound-removed, children_at-removed_as}
use Rattle.dir_changes.proofs.MarkedLaws.{last_from-change_last}
use Rattle.dir_changes.proofs.CountLaws.{counts-removed}

pub last-started : (dir : DirHistory) (number : SnapId) → last_number (started number dir) ≡ number.0
last-started dir number = last_from-append number_of 0 dir.records (record { number = number; marks = dir.marks; diff = record { created = []; deleted = [] } })

pub last-added : (name : List ℕ) (id : InodeId) (dir : DirHistory) → last_number (added name id dir) ≡ last_number dir
last-added name id dir = last_from-change_last (note_added name id) 0 dir.records

pub last-removed : (name : List ℕ) (dir : DirHistory) → last_number (removed name dir) ≡ last_number dir
last-removed name dir = go (id_at name dir.children)
  where
    go : (o : Option InodeId) → last_number (removed_as name o dir) ≡ last_number dir
    go None = refl
    go (Some id) = last_from-change_last (note_removed name id) 0 dir.records

module _ (name : List ℕ) (dir : DirHistory) (sound : IsSound dir) where
  pub sound-after_removed : IsSound (removed name dir)
  sound-after_removed = go (id_at name dir.children) refl
    where
      go : (o : Option InodeId) → id_at name dir.children ≡ o → IsSound (removed_as name o dir)
      go None is = sound
      go (Some id) is = sound-removed name id dir sound is

  pub children_at-removed : (s : ℕ) → 0 < s → s ≤ last_number dir → children_at s (removed name dir) ≡ children_at s dir
  children_at-removed s above le = go (id_at name dir.children) refl
    where
      go : (o : Option InodeId) → id_at name dir.children ≡ o → children_at s (removed_as name o dir) ≡ children_at s dir
      go None is = refl
      go (Some id) is = children_at-removed_as name id dir sound is s above le

  pub counts-after_removed : RemovedCounts name dir (removed name dir)
  counts-after_removed id there = subst (λ (o : Option InodeId). CountsRemoved name id dir (removed_as name o dir)) (sym there) (counts-removed dir name id sound there)

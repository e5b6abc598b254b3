-- What is read from record i on, and which entries it tells.
use Rattle.std.proofs.Common.{◌≡◌, ℕ, suc, ◌+◌, ◌-◌, ◌<◌, true, false, cond, List, [], ◌∷◌, length, map, drop, get_or, Some, None, refl, sym, ap, ◌∙◌, arith, drop-cons, add-one}
use Rattle.std.specs.Prelude.{slice_get}
use Rattle.std.specs.Option.{option_map}
use Rattle.hs_types.specs.declared.ids.InodeId.{InodeId}
use Rattle.dir_changes.specs.declared.recorded.DirRecord.{DirRecord}
use Rattle.dir_changes.specs.Entries.{Entries, id_at, has}
use Rattle.dir_changes.specs.Undo.{undo}
use Rattle.dir_changes.specs.History.{undo_all}
use Rattle.dir_changes.specs.Recorded.{past_of, diff_of}
use Rattle.dir_changes.proofs.UndoLaw.{or_else, id_at-undo}

pub drop_at : (rs : List DirRecord) (i : ℕ) (r : DirRecord) → i < length rs → r ≡ get_or rs i r → drop i rs ≡ r ∷ drop (i + 1) rs
drop_at rs i r lt is = drop-cons rs i r lt ∙ ap (λ x. x ∷ drop (suc i) rs) (sym is) ∙ ap (λ n. r ∷ drop n rs) (sym (add-one i))

module _ (rs : List DirRecord) (i : ℕ) (r : DirRecord) (x : Entries) (lt : i < length rs) (is : r ≡ get_or rs i r) where
  pub undone_at : undo_all (map past_of (drop i rs)) x ≡ undo (diff_of r) (undo_all (map past_of (drop (i + 1) rs)) x)
  undone_at = ap (λ l. undo_all (map past_of l) x) (drop_at rs i r lt is)

  asked : (q : List ℕ) → id_at q (undo_all (map past_of (drop i rs)) x) ≡ or_else (id_at q r.deleted.entries) (cond (has q r.created.entries) None (id_at q (undo_all (map past_of (drop (i + 1) rs)) x)))
  asked q = ap (id_at q) undone_at ∙ id_at-undo q (diff_of r) (undo_all (map past_of (drop (i + 1) rs)) x)

  pub told_deleted : (q : List ℕ) (id : InodeId) → id_at q r.deleted.entries ≡ Some id → id_at q (undo_all (map past_of (drop i rs)) x) ≡ Some id
  told_deleted q id h = asked q ∙ ap (λ o. or_else o (cond (has q r.created.entries) None (id_at q (undo_all (map past_of (drop (i + 1) rs)) x)))) h

  pub told_created : (q : List ℕ) → id_at q r.deleted.entries ≡ None → has q r.created.entries ≡ true → id_at q (undo_all (map past_of (drop i rs)) x) ≡ None
  told_created q gone h = asked q
      ∙ ap (λ o. or_else o (cond (has q r.created.entries) None (id_at q (undo_all (map past_of (drop (i + 1) rs)) x)))) gone
      ∙ ap (λ b. cond b None (id_at q (undo_all (map past_of (drop (i + 1) rs)) x))) h

  pub told_behind : (q : List ℕ) → id_at q r.deleted.entries ≡ None → has q r.created.entries ≡ false → id_at q (undo_all (map past_of (drop i rs)) x) ≡ id_at q (undo_all (map past_of (drop (i + 1) rs)) x)
  told_behind q gone h = asked q
      ∙ ap (λ o. or_else o (cond (has q r.created.entries) None (id_at q (undo_all (map past_of (drop (i + 1) rs)) x)))) gone
      ∙ ap (λ b. cond b None (id_at q (undo_all (map past_of (drop (i + 1) rs)) x))) h

-- a place that is filled lies within
pub slice_get-within : (rs : List DirRecord) (r : DirRecord) → slice_get rs (length rs - 1) ≡ Some r → length rs - 1 + 1 ≡ length rs
slice_get-within [] r is = cc
slice_get-within (x ∷ rs) r is = omega arith

-- the first of the records as they are in memory
pub first_past : (rs : List DirRecord) → slice_get (map past_of rs) 0 ≡ option_map past_of (slice_get rs 0)
first_past [] = refl
first_past (r ∷ rs) = refl

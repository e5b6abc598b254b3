-- Steps of loops that name rows less, and let blocks wait.
use Rattle.std.proofs.Common.{◌≡◌, ℕ, zero, suc, ◌+◌, List, [], ◌∷◌, ◌++◌, Option, Some, None, slice_get, drop, length, refl, sym, ap, ◌∙◌, append_assoc, add-one}
use Rattle.std.specs.Option.{option_map}
use Rattle.hs_types.specs.declared.ids.BlockId.{BlockId}
use Rattle.hs_types.specs.declared.ids.InodeId.{InodeId}
use Rattle.file_changes.specs.History as files
use Rattle.file_changes.specs.History.{FileHistory, blocks_at, only_at}
use Rattle.file_changes.specs.declared.state.FileRecord.{FileRecord}
use Rattle.file_changes.specs.declared.state.FileState.{FileState}
use Rattle.dir_changes.specs.History.{Past, ids_of}
use Rattle.dir_changes.specs.Counts.{deleted_ids}
use Rattle.inode_table.specs.Totals.{blocks_saved}
use Rattle.inode_table.specs.Released.{blocks_below}
use Rattle.inode_table.specs.Slots.{Slots}
use Rattle.inode_table.specs.Lessened.{lessen_at, lessen_all, ended_at, ended, deleted_of}

deleted_from : (records : List Past) (i : ℕ) → deleted_ids (drop i records) ≡ ids_of (deleted_of (slice_get records i)) ++ deleted_ids (drop (suc i) records)
deleted_from [] zero = refl
deleted_from [] (suc i) = refl
deleted_from (p ∷ ps) zero = refl
deleted_from (p ∷ ps) (suc i) = deleted_from ps i

pub next_deleted : (records : List Past) (i : ℕ) → deleted_ids (drop i records) ≡ ids_of (deleted_of (slice_get records i)) ++ deleted_ids (drop (i + 1) records)
next_deleted records i = deleted_from records i ∙ ap (λ (k : ℕ). ids_of (deleted_of (slice_get records i)) ++ deleted_ids (drop k records)) (sym (add-one i))

abbrev pub blocks_or : Option FileState → List BlockId
blocks_or None = []
blocks_or (Some state) = state.blocks

pub saved_at : (records : List FileRecord) (i : ℕ) (o : Option FileState) → o ≡ option_map (λ r. r.state) (slice_get records i) → blocks_at records i ≡ blocks_or o
saved_at [] i o is = ap blocks_or (sym is)
saved_at (r ∷ rs) zero o is = ap blocks_or (sym is)
saved_at (r ∷ rs) (suc i) o is = saved_at rs i o is

saved_from : (records : List FileRecord) (i : ℕ) → blocks_saved (drop i records) ≡ length (blocks_at records i) + blocks_saved (drop (suc i) records)
saved_from [] zero = refl
saved_from [] (suc i) = refl
saved_from (r ∷ rs) zero = refl
saved_from (r ∷ rs) (suc i) = saved_from rs i

pub next_saved : (records : List FileRecord) (i : ℕ) → blocks_saved (drop i records) ≡ length (blocks_at records i) + blocks_saved (drop (i + 1) records)
next_saved records i = saved_from records i ∙ ap (λ (k : ℕ). length (blocks_at records i) + blocks_saved (drop k records)) (sym (add-one i))

pub lessen-append : (a b : List InodeId) (rows : Slots) → lessen_all (a ++ b) rows ≡ lessen_all b (lessen_all a rows)
lessen-append [] b rows = refl
lessen-append (id ∷ a) b rows = lessen-append a b (lessen_at id rows)

pub ended-append : (a b : List InodeId) (rows : Slots) → ended (a ++ b) rows ≡ ended a rows ++ ended b (lessen_all a rows)
ended-append [] b rows = refl
ended-append (id ∷ a) b rows = ap (λ (ids : List InodeId). ended_at id rows ++ ids) (ended-append a b (lessen_at id rows)) ∙ sym (append_assoc (ended_at id rows) (ended a (lessen_at id rows)) (ended b (lessen_all a (lessen_at id rows))))

-- a part of the ids is done, and the rest is left
pub step-lessen : (e rest whole : List InodeId) (rows now : Slots) (all : Slots) → whole ≡ e ++ rest → now ≡ lessen_all e rows → lessen_all whole rows ≡ all → lessen_all rest now ≡ all
step-lessen e rest whole rows now all is done left = ap (lessen_all rest) done ∙ sym (lessen-append e rest rows) ∙ ap (λ (ids : List InodeId). lessen_all ids rows) (sym is) ∙ left

pub step-ended : (e rest whole : List InodeId) (rows now : Slots) (before unnamed all : List InodeId) → whole ≡ e ++ rest → now ≡ lessen_all e rows → unnamed ≡ before ++ ended e rows → before ++ ended whole rows ≡ all → unnamed ++ ended rest now ≡ all
step-ended e rest whole rows now before unnamed all is done put left =
    ap (λ (ids : List InodeId). ids ++ ended rest now) put ∙ append_assoc before (ended e rows) (ended rest now)
    ∙ ap (λ (s : Slots). before ++ (ended e rows ++ ended rest s)) done
    ∙ ap (λ (ids : List InodeId). before ++ ids) (sym (ended-append e rest rows))
    ∙ ap (λ (ids : List InodeId). before ++ ended ids rows) (sym is) ∙ left

-- record after record is dropped, from the last one down
pub below-next : (n left : ℕ) (waiting now only : List BlockId) (file after : FileHistory) (all : List BlockId) → left ≡ suc n → after ≡ files.without_record n file → only ≡ only_at n file → now ≡ waiting ++ only
    → waiting ++ blocks_below left file ≡ all → now ++ blocks_below n after ≡ all
below-next n left waiting now only file after all is gone are put left_over =
    ap (λ (bs : List BlockId). bs ++ blocks_below n after) put ∙ append_assoc waiting only (blocks_below n after)
    ∙ ap (λ (bs : List BlockId). waiting ++ (bs ++ blocks_below n after)) are
    ∙ ap (λ (f : FileHistory). waiting ++ (only_at n file ++ blocks_below n f)) gone
    ∙ ap (λ (k : ℕ). waiting ++ blocks_below k file) (sym is) ∙ left_over

use Rattle.std.proofs.Common.{◌≡◌, ℕ, zero, suc, ◌+◌, ◌-◌, List, [], ◌∷◌, length, map, Some, sym, ap, ◌∙◌, arith}
use Rattle.std.specs.Prelude.{not, slice_get}
use Rattle.hs_types.specs.declared.ids.InodeId.{InodeId}
use Rattle.dir_changes.specs.declared.recorded.DirRecord.{DirRecord}
use Rattle.dir_changes.specs.Counts.{goes_to_deleted}
use Rattle.dir_changes.specs.Entries.{holds}
use Rattle.dir_changes.specs.Recorded.{past_of}
use Rattle.dir_changes.proofs.SearchLaws.{slice_get-within}
use Rattle.dir_changes.proofs.recorded.keeps.Goals as goal

by_last : (name : List ℕ) (id : InodeId) (rs : List DirRecord) (i : ℕ) (r : DirRecord) → i + 1 ≡ length rs → slice_get rs i ≡ Some r → goes_to_deleted name id (map past_of rs) ≡ not (holds r.created.entries (name, id))
by_last name id [] i r e is = cc
by_last name id (x ∷ []) zero r e is = let same : x ≡ r = cc in ap (λ y. not (holds y.created.entries (name, id))) same
by_last name id (x ∷ []) (suc i) r e is = absurd (omega arith)
by_last name id (x ∷ y ∷ rs) zero r e is = absurd (omega arith)
by_last name id (x ∷ y ∷ rs) (suc i) r e is = by_last name id (y ∷ rs) i r (omega arith) is

pub returns-in-Some : goal.returns-in-Some
returns-in-Some c =
    let rs = c.args.records.now in
    let last = sym c.in-Some.ensures.value in
    ap not c.has_created.ensures ∙ sym (by_last c.args.name.now c.args.id rs (length rs - 1) c.in-Some.last.now (slice_get-within rs c.in-Some.last.now last) last)

use Rattle.std.proofs.Common.{◌≡◌, sym, subst, ◌∙◌}
use Rattle.std.specs.List.{Contains, dedup}
use Rattle.std.proofs.lemmas.List.Filters.{dedup_is}
use Rattle.std.proofs.lemmas.List.Sorted.{IsNonDecreasingBy-from_sort, Contains-permutation}
use Rattle.hs_types.specs.declared.ids.InodeId.{InodeId}
use Rattle.record_merge.specs.Dropping.{AreRising}
use Rattle.record_merge.proofs.Once.{same_number, once-rising, all-once}
use Rattle.record_merge.proofs.distinct.distinct.Goals as goal

pub returns-clause-rising : goal.returns-clause-rising
returns-clause-rising c =
    let xs = c.sort_unstable.new.self.items in
    let is : c.of.result ≡ dedup same_number xs = c.of.ensures ∙ dedup_is same_number xs c.dedup.new.self.items c.dedup.ensures.filtered in
    subst AreRising (sym is) (once-rising xs (IsNonDecreasingBy-from_sort (λ (i : InodeId). i.0) xs c.sort_unstable.ensures.sorted))

pub returns-clause-all : goal.returns-clause-all
returns-clause-all c = λ id h.
    let xs = c.sort_unstable.new.self.items in
    let is : c.of.result ≡ dedup same_number xs = c.of.ensures ∙ dedup_is same_number xs c.dedup.new.self.items c.dedup.ensures.filtered in
    subst (λ l. Contains l id) (sym is) (all-once xs id (Contains-permutation c.into_vec-items.result.items xs id c.sort_unstable.ensures.permutation (subst (λ l. Contains l id) (sym c.into_vec-items.ensures) h)))

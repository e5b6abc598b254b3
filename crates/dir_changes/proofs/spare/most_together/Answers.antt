use Rattle.std.proofs.Common.{◌≡◌, ◌<◌, ◌≤◌, ◌+◌, ◌-◌, ◌∷◌, length, drop, sym, ap, subst, ◌∙◌, arith}
use Rattle.dir_changes.specs.Spare.{PairsFit, created_len, deleted_len}
use Rattle.dir_changes.proofs.SearchLaws.{drop_at}
use Rattle.dir_changes.proofs.LastLaws.{next_len, pairs_fit_cons}
use Rattle.dir_changes.proofs.spare.most_together.Goals as goal

pub loop-left-preserved : goal.loop-left-preserved
loop-left-preserved c =
    let rs = c.args.records.now in
    let i = c.loop-left.left - 1 in
    let r = c.index-records-left.result in
    let within : i < length rs = omega (arith, c.loop-left.invariant.within, c.loop-left-test.true) in
    let next : i + 1 ≡ c.loop-left.left = omega (arith, c.loop-left-test.true) in
    let here = drop_at rs i r within c.index-records-left.is ∙ ap (λ n. r ∷ drop n rs) next in
    let created_most : c.loop-left.most_created ≤ c.max-most_created.result = omega (arith, c.max-most_created.ensures) in
    let created_both : created_len r + next_len created_len (drop c.loop-left.left rs) ≤ c.max-most_created.result =
    omega (arith, c.max-most_created.ensures, c.in_ok-checked_add.ensures.1, c.len-created.ensures, c.loop-left.invariant.next_created) in
    let deleted_most : c.loop-left.most_deleted ≤ c.max-most_deleted.result = omega (arith, c.max-most_deleted.ensures) in
    let deleted_both : deleted_len r + next_len deleted_len (drop c.loop-left.left rs) ≤ c.max-most_deleted.result =
    omega (arith, c.max-most_deleted.ensures, c.in_ok-checked_add-2.ensures.1, c.len-deleted.ensures, c.loop-left.invariant.next_deleted) in
    record {
      within = omega (arith, c.loop-left.invariant.within);
      created = subst (PairsFit created_len c.max-most_created.result) (sym here) (pairs_fit_cons created_len c.loop-left.most_created c.max-most_created.result r (drop c.loop-left.left rs) created_most created_both c.loop-left.invariant.created);
      deleted = subst (PairsFit deleted_len c.max-most_deleted.result) (sym here) (pairs_fit_cons deleted_len c.loop-left.most_deleted c.max-most_deleted.result r (drop c.loop-left.left rs) deleted_most deleted_both c.loop-left.invariant.deleted);
      next_created = c.len-created.ensures ∙ ap (next_len created_len) (sym here);
      next_deleted = c.len-deleted.ensures ∙ ap (next_len deleted_len) (sym here);
    }

use Rattle.std.proofs.Common.{◌≡◌, ℕ, ◌≤◌, ap, sym, ◌∙◌, subst}
use Rattle.turn_lock.specs.declared.historied.Kept.{Kept}
use Rattle.namenode_lock.proofs.Rows.{new_seats}
use Rattle.namenode_lock.proofs.shared.Shared.start.Goals as goal

pub passes_for-requires-clause-fresh : goal.passes_for-requires-clause-fresh
passes_for-requires-clause-fresh g c =
    let limit : c.in_ok-lock.lock.kept.limit ≡ c.args.limit = ap (λ (k : Kept). k.limit) c.in_ok-lock.ensures.lock.1 ∙ c.in_ok-node.ensures.limit in
    new_seats c.in_ok-lock.lock c.in_ok-lock.seats c.in_ok-lock.ensures.order c.in_ok-lock.ensures.fresh (subst (λ (n : ℕ). n ≤ 1000000) (sym limit) c.entries-at_most.ensures.at_most)

use Rattle.std.proofs.Common.{ℕ, Bool, nat_lt, sym, ap, ◌∙◌, ◌&&◌, not}
use Rattle.hs_plain.specs.Tree.{child_count}
use Rattle.namenode_write.proofs.rows.delete_refusals.spares_children.Goals as goal

pub returns-then-not-recursive : goal.returns-then-not-recursive
returns-then-not-recursive c = λ snaps state all path at.
    ap (λ (n : ℕ). nat_lt 0 n) (c.child_count.ensures snaps state all path at) ∙ sym (ap (λ (b : Bool). not b && nat_lt 0 (child_count state.tree path)) c.if-not-recursive.true)

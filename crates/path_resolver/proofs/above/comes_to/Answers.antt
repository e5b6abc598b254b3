use Rattle.std.proofs.Common.{◌≡◌, ◌+◌, ◌-◌, ℕ, false, sym, ap, ◌∙◌, arith}
use Rattle.inode_table.specs.Kept.{told}
use Rattle.inode_table.specs.RowHistory.{shown}
use Rattle.hs_plain.specs.Tree.{same_inode}
use Rattle.path_resolver.specs.Above.{up_from, comes_up}
use Rattle.path_resolver.proofs.Ups.{comes-on, not-true}
use Rattle.path_resolver.proofs.above.comes_to.Goals as goal

pub loop-above-preserved : goal.loop-above-preserved
loop-above-preserved c =
    let rows = shown (told c.args.table.now).rows 0 in
    let left = c.loop-above.left in
    let down : left - 1 + 1 ≡ left = omega (arith, c.if-left-eq0.false) in
    let other : same_inode c.loop-above.here c.args.above ≡ false = not-true (same_inode c.loop-above.here c.args.above) (sym c.ne.ensures ∙ c.loop-above-test.true) in
    let up : up_from rows c.loop-above.here ≡ c.parent_of.result = sym c.parent_of.ensures in
    ap (λ (n : ℕ). comes_up rows c.args.above n c.in-Some.parent) down ∙ sym (comes-on rows c.args.above left c.loop-above.here c.in-Some.parent other (up ∙ c.in-Some.is)) ∙ c.loop-above.invariant

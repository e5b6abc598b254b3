use Rattle.std.proofs.Common.{◌≡◌, ◌+◌, ◌-◌, ℕ, Some, false, sym, ap, ◌∙◌, arith}
use Rattle.std.specs.Prelude.{is_some}
use Rattle.std.specs.Option.{option_copied}
use Rattle.hs_plain.specs.Tree.{same_inode}
use Rattle.inode_table.specs.Climb.{below_spot, path_up}
use Rattle.inode_table.specs.Kept.{told}
use Rattle.inode_table.specs.RowHistory.{shown}
use Rattle.path_resolver.specs.Rising.{spot_above}
use Rattle.path_resolver.proofs.Climbs.{up-on, some-mapped}
use Rattle.path_resolver.proofs.Ups.{not-true}
use Rattle.path_resolver.proofs.upward.comes_up.Goals as goal

pub loop-s-preserved : goal.loop-s-preserved
loop-s-preserved c =
    let rows = shown (told c.args.table.now).rows c.args.s.0 in
    let left = c.loop-s.left in
    let spot = c.in-Some.spot.now in
    let down : left - 1 + 1 ≡ left = omega (arith, c.if-left-eq0.false) in
    let other : same_inode c.loop-s.here c.args.top ≡ false = not-true (same_inode c.loop-s.here c.args.top) (sym c.ne.ensures ∙ c.loop-s-test.true) in
    let up : spot_above rows c.loop-s.here ≡ Some spot = sym c.spot_above.ensures ∙ ap option_copied c.in-Some.is in
    ap (λ (n : ℕ). is_some (path_up rows c.args.top n spot.parent)) down
    ∙ sym (ap is_some (up-on rows c.args.top left c.loop-s.here spot other up) ∙ some-mapped (below_spot spot) (path_up rows c.args.top left spot.parent))
    ∙ c.loop-s.invariant

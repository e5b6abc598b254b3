use Rattle.std.proofs.Common.{◌≡◌, ◌<◌, ◌++◌, length, ap, sym, ◌∙◌, arith, length-append}
use Rattle.std.specs.Ordering.{nat_cmp}
use Rattle.std.specs.Cmp.Lexicographic.{slice_cmp}
use Rattle.std.specs.BTreeSet.{contains}
use Rattle.distcp_plan.proofs.Names.{free-next, free-here}
use Rattle.distcp_plan.proofs.temporary.free_name.Goals as goal

pub loop-number-preserved : goal.loop-number-preserved
loop-number-preserved c =
    let taken = c.args.roots.now.target ++ c.args.roots.now.source in
    let k = c.loop-number.number in
    let target : length c.items.result.now ≡ length c.args.roots.now.target = ap length c.items.ensures in
    let source : length c.items-2.result.now ≡ length c.args.roots.now.source = ap length c.items-2.ensures in
    let low : k < length taken = omega (arith, length-append c.args.roots.now.target c.args.roots.now.source) in
    free-next taken (length taken) k low
    (sym (c.in_ok-taken.ensures k) ∙ ap (contains (slice_cmp nat_cmp) c.in_ok-taken.taken) (sym c.in_ok-name.ensures) ∙ sym c.contains.ensures ∙ c.if-not-contains.false)
    ∙ c.loop-number.invariant

pub returns-then-not-contains : goal.returns-then-not-contains
returns-then-not-contains c =
    let taken = c.args.roots.now.target ++ c.args.roots.now.source in
    let k = c.loop-number.number in
    let target : length c.items.result.now ≡ length c.args.roots.now.target = ap length c.items.ensures in
    let source : length c.items-2.result.now ≡ length c.args.roots.now.source = ap length c.items-2.ensures in
    let low : k < length taken = omega (arith, length-append c.args.roots.now.target c.args.roots.now.source) in
    c.in_ok-name.ensures
    ∙ free-here taken (length taken) k low
    (sym (c.in_ok-taken.ensures k) ∙ ap (contains (slice_cmp nat_cmp) c.in_ok-taken.taken) (sym c.in_ok-name.ensures) ∙ sym c.contains.ensures ∙ c.if-not-contains.true)
    ∙ c.loop-number.invariant

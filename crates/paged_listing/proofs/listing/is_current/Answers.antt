use Rattle.std.proofs.Common.{sym, ap, ◌∙◌}
use Rattle.std.specs.Ordering.{nat_cmp, is_lt}
use Rattle.dir_changes.specs.History.{last_number}
use Rattle.dir_changes.proofs.ReadLaws.{children_at-past}
use Rattle.paged_listing.proofs.Behind.{below_so}
use Rattle.paged_listing.proofs.listing.is_current.Goals as goal

pub returns : goal.returns
returns c = λ last.
    let dir = c.args.dir.now.history in
    children_at-past dir c.args.s.0 c.count.ensures.sound.rising (below_so (last_number dir) c.args.s.0 (ap (λ n. is_lt (nat_cmp n c.args.s.0)) (sym c.last_number.ensures) ∙ sym c.lt.ensures ∙ last))

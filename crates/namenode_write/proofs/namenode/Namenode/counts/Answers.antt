use Rattle.std.proofs.Common.{◌+◌, ◌≤◌, ap, subst, ◌∙◌}
use Rattle.inode_table.specs.Kept.{told}
use Rattle.inode_table.specs.Totals as totals
use Rattle.namenode_write.proofs.Shown.{nodes-same, members-same, alone-same}
use Rattle.namenode_write.proofs.namenode.Namenode.counts.Goals as goal

pub returns-clause-live : goal.returns-clause-live
returns-clause-live g c =
    let at = c.self.invariant.at.stands in
    rw (← c.self.view_is) (subst (λ n. n ≤ c.counts_of.result.rows) (nodes-same at.state _ at.sized) (c.counts_of.ensures.live at.state at.stands))

pub returns-clause-snapshots : goal.returns-clause-snapshots
returns-clause-snapshots g c =
    let at = c.self.invariant.at.stands in
    rw (← c.self.view_is) (c.counts_of.ensures.snapshots at.state at.stands ∙ members-same at.state _ at.sized)

pub returns-clause-bare_records : goal.returns-clause-bare_records
returns-clause-bare_records g c =
    let at = c.self.invariant.at.stands in
    rw (← c.self.view_is) (λ alone. c.counts_of.ensures.bare_records at.state at.stands (alone-same at.state _ at.sized alone))

pub returns-clause-bare_rows : goal.returns-clause-bare_rows
returns-clause-bare_rows g c =
    let at = c.self.invariant.at.stands in
    rw (← c.self.view_is) (λ alone. c.counts_of.ensures.bare_rows at.state at.stands (alone-same at.state _ at.sized alone) ∙ nodes-same at.state _ at.sized)

pub returns-clause-weight : goal.returns-clause-weight
returns-clause-weight g c =
    let at = c.self.invariant.at.stands in
    rw (← c.self.view_is) (ap (λ n. n + c.counts_of.result.snapshots) c.counts_of.ensures.weight ∙ ap (λ n. totals.weight (told c.self.inside.space.table).rows + n) (c.counts_of.ensures.snapshots at.state at.stands ∙ members-same at.state _ at.sized))

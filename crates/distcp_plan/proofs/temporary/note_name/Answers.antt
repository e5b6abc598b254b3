use Rattle.std.proofs.Common.{sym, ◌∙◌}
use Rattle.std.specs.Ordering.{nat_cmp}
use Rattle.std.specs.Cmp.Lexicographic.{slice_cmp}
use Rattle.std.specs.BTreeSet.{contains}
use Rattle.hs_plain.specs.Plan.{tmp_name}
use Rattle.distcp_plan.proofs.Names.{with-one, or-none, no-choice}
use Rattle.distcp_plan.proofs.temporary.note_name.Goals as goal

pub returns-in_ok-insert : goal.returns-in_ok-insert
returns-in_ok-insert c = λ number.
    c.in_ok-insert.ensures.updates.0 (tmp_name number)
    ∙ with-one (contains (slice_cmp nat_cmp) c.args.taken.now (tmp_name number)) c.in_ok-copy.field-0 c.args.name.now (tmp_name number) c.in_ok-copy.ensures

pub returns-else-begins_so : goal.returns-else-begins_so
returns-else-begins_so c = λ number. or-none _ _ (no-choice c.args.name.now number (sym c.begins_so.ensures ∙ c.if-begins_so.false))

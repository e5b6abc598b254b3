use Rattle.std.proofs.Common.{sym, ◌∙◌}
use Rattle.file_changes.proofs.Reading.{any_at}
use Rattle.file_changes.proofs.blocks.stands_at.Goals as goal

pub returns-in-Some : goal.returns-in-Some
returns-in-Some c same = any_at _ c.args.place c.args.block c.in-Some.other.now (sym c.in-Some.ensures) (sym c.eq.ensures ∙ same)

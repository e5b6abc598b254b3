use Rattle.std.proofs.Common.{ap, ◌∙◌}
use Rattle.inode_table.specs.Marks.{cover}
use Rattle.inode_table.specs.Numbered.{marks_in, last_live}
use Rattle.rename_refs.proofs.Told.{cover-told}
use Rattle.rename_refs.proofs.cover.Goals as goal

pub returns-clause-stood_for : goal.returns-clause-stood_for
returns-clause-stood_for c state all = c.walked.ensures ∙ ap (cover (last_live c.args.snaps.now) (marks_in c.args.table.now.rows)) c.items.ensures ∙ cover-told c.args.table.now c.args.snaps.now state c.args.chain.now all

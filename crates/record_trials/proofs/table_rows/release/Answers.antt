use Rattle.inode_table.specs.Kept.{told}
use Rattle.record_trials.proofs.Released.{release_keeps, anyway}
use Rattle.record_trials.proofs.table_rows.release.Goals as goal

pub returns : goal.returns
returns c = anyway c.print_freed.result (release_keeps (told c.args.table.now) (told c.release.new.self) c.in_ok-freed.freed c.in_ok-freed.ensures.ok)

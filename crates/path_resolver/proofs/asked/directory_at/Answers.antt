use Rattle.inode_table.specs.Kept.{told}
use Rattle.path_resolver.proofs.Directories.{dir-answered}
use Rattle.path_resolver.proofs.asked.directory_at.Goals as goal

pub returns : goal.returns
returns c snaps state all = dir-answered (told c.args.table.now) snaps state all c.args.text.now c.dir_by_rows.result c.dir_by_rows.ensures

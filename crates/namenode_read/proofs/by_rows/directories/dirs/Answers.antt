use Rattle.std.proofs.Common.{List, Ok, sym, ap, ◌∙◌}
use Rattle.hs_types.specs.declared.reply.DirItem.{DirItem}
use Rattle.hs_types.specs.declared.reply.Reply.TheVariants as replies
use Rattle.inode_table.specs.Kept.{told}
use Rattle.namenode_read.proofs.DirPaths.{dirs-told}
use Rattle.namenode_read.proofs.by_rows.directories.dirs.Goals as goal

pub returns : goal.returns
returns c = λ state all. ap (λ (list : List DirItem). Ok (replies.Dirs list)) (sym (c.in_ok-dirs_by_rows.ensures ∙ dirs-told (told c.args.table.now) c.args.snaps.now state all))

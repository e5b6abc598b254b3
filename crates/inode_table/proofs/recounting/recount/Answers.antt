use Rattle.std.proofs.Common.{subst, sym, List}
use Rattle.hs_types.specs.declared.ids.InodeId.{InodeId}
use Rattle.inode_table.specs.Slots.{AreListed}
use Rattle.inode_table.proofs.Mending.{more-mended, less-mended, more-listed, less-listed}
use Rattle.inode_table.proofs.recounting.recount.Goals as goal

pub returns-in-More-clause-told : goal.returns-in-More-clause-told
returns-in-More-clause-told c = (more-mended c.args.rows.now.items c.more_at.new.rows.items c.args.recount c.in-More.id c.in-More.is c.requires.off c.more_at.ensures.set).told

pub returns-in-More-clause-counted : goal.returns-in-More-clause-counted
returns-in-More-clause-counted c = (more-mended c.args.rows.now.items c.more_at.new.rows.items c.args.recount c.in-More.id c.in-More.is c.requires.off c.more_at.ensures.set).counted

pub returns-in-More-clause-listed : goal.returns-in-More-clause-listed
returns-in-More-clause-listed c = more-listed c.args.rows.now.items c.more_at.new.rows.items c.args.recount c.in-More.id c.in-More.is c.requires.off c.more_at.ensures.set c.args.unnamed.now.items

pub returns-in-More-clause-rows : goal.returns-in-More-clause-rows
returns-in-More-clause-rows c = (more-mended c.args.rows.now.items c.more_at.new.rows.items c.args.recount c.in-More.id c.in-More.is c.requires.off c.more_at.ensures.set).rows

pub returns-in-More-clause-weight : goal.returns-in-More-clause-weight
returns-in-More-clause-weight c = (more-mended c.args.rows.now.items c.more_at.new.rows.items c.args.recount c.in-More.id c.in-More.is c.requires.off c.more_at.ensures.set).weighs

pub returns-in-More-clause-blocks : goal.returns-in-More-clause-blocks
returns-in-More-clause-blocks c = (more-mended c.args.rows.now.items c.more_at.new.rows.items c.args.recount c.in-More.id c.in-More.is c.requires.off c.more_at.ensures.set).blocks

pub returns-in-Less-clause-told : goal.returns-in-Less-clause-told
returns-in-Less-clause-told c = (less-mended c.args.rows.now.items c.less_at.new.rows.items c.args.recount c.in-Less.id c.in-Less.is c.requires.off c.less_at.ensures.set).told

pub returns-in-Less-clause-counted : goal.returns-in-Less-clause-counted
returns-in-Less-clause-counted c = (less-mended c.args.rows.now.items c.less_at.new.rows.items c.args.recount c.in-Less.id c.in-Less.is c.requires.off c.less_at.ensures.set).counted

pub returns-in-Less-clause-listed : goal.returns-in-Less-clause-listed
returns-in-Less-clause-listed c = λ are.
    subst (λ (ids : List InodeId). AreListed c.less_at.new.rows.items ids) (sym c.push_reserved.ensures.items)
    (less-listed c.args.rows.now.items c.less_at.new.rows.items c.args.recount c.in-Less.id c.in-Less.is c.requires.off c.less_at.ensures.set c.args.unnamed.now.items are)

pub returns-in-Less-clause-rows : goal.returns-in-Less-clause-rows
returns-in-Less-clause-rows c = (less-mended c.args.rows.now.items c.less_at.new.rows.items c.args.recount c.in-Less.id c.in-Less.is c.requires.off c.less_at.ensures.set).rows

pub returns-in-Less-clause-weight : goal.returns-in-Less-clause-weight
returns-in-Less-clause-weight c = (less-mended c.args.rows.now.items c.less_at.new.rows.items c.args.recount c.in-Less.id c.in-Less.is c.requires.off c.less_at.ensures.set).weighs

pub returns-in-Less-clause-blocks : goal.returns-in-Less-clause-blocks
returns-in-Less-clause-blocks c = (less-mended c.args.rows.now.items c.less_at.new.rows.items c.args.recount c.in-Less.id c.in-Less.is c.requires.off c.less_at.ensures.set).blocks

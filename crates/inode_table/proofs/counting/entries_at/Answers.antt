use Rattle.std.proofs.Common.{sym, arith}
use Rattle.dir_changes.specs.Recorded.{past_of}
use Rattle.inode_table.proofs.Summing.{entries-found, entries-past, entries-most}
use Rattle.inode_table.proofs.counting.entries_at.Goals as goal

pub overflow_add-result : goal.overflow_add-result
overflow_add-result c =
    let rs = c.args.dir.now.history.records in
    let is = entries-found c.args.i rs (past_of c.in-Some.saved.now) (sym c.in-Some.ensures) in
    let most = entries-most c.args.i rs in
    omega (arith, is, most, c.requires, c.len.ensures, c.len-in-Some.ensures)

pub returns-in-Some : goal.returns-in-Some
returns-in-Some c =
    let is = entries-found c.args.i c.args.dir.now.history.records (past_of c.in-Some.saved.now) (sym c.in-Some.ensures) in
    omega (arith, is, c.len.ensures, c.len-in-Some.ensures)

pub returns-in-None : goal.returns-in-None
returns-in-None c = sym (entries-past c.args.i c.args.dir.now.history.records (sym c.in-None.ensures))

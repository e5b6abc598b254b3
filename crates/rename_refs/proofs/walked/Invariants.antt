use Rattle.std.proofs.Common.{◌≡◌, drop}
use Rattle.inode_table.specs.Marks.{cover_from, cover}
use Rattle.inode_table.specs.Numbered.{marks_in, last_live}
use Rattle.rename_refs.proofs.walked.Given as goal

abbrev pub invariant-loop-id : goal.invariant-loop-id
invariant-loop-id l = cover_from (last_live l.snaps) (marks_in l.table.rows) l.number (drop l.id-index l.chain) ≡ cover (last_live l.snaps) (marks_in l.table.rows) l.chain

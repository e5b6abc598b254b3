use Rattle.std.proofs.Common.{length, ap, arith}
use Rattle.dir_changes.proofs.combine.take_later.Goals as goal

pub returns-clause-created_room : goal.returns-clause-created_room
returns-clause-created_room c n le fits = c.shrunk.ensures.room n le (omega (arith, fits, c.merge_lists-merged.ensures.created_left, ap (λ v. length v.entries) c.replace.ensures.value))

pub returns-clause-deleted_room : goal.returns-clause-deleted_room
returns-clause-deleted_room c n le fits = c.shrunk-2.ensures.room n le (omega (arith, fits, c.merge_lists-merged.ensures.deleted_left, ap (λ v. length v.entries) c.replace-2.ensures.value))

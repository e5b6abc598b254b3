use Rattle.std.proofs.Common.{ℕ, ◌+◌, ◌^◌, ◌<◌, Option, sym, subst}
use Rattle.std.specs.Option.{option_map}
use Rattle.inode_table.specs.declared.row.Row.{Row}
use Rattle.inode_table.specs.Kept.{blocks_grown}
use Rattle.inode_table.specs.Numbered.{state_of}
use Rattle.inode_table.proofs.changing.blocks_after.Goals as goal

pub returns-in-Some-clause-room : goal.returns-in-Some-clause-room
returns-in-Some-clause-room c = λ room.
    c.blocks_of_row.ensures.room (subst (λ (o : Option Row). (tick : ℕ) → c.args.blocks + blocks_grown c.args.cover.0 tick c.args.what.now (option_map state_of o) < 2 ^ 64) (sym c.in-Some.ensures) room)

use Rattle.std.specs.Prelude.{◌≡◌, drop}
use Rattle.inode_table.specs.Kept.{told}
use Rattle.path_resolver.specs.ByRows.{led}
use Rattle.path_resolver.proofs.by_rows.walk.Given as goal

-- what is left leads to the same
abbrev pub invariant-loop-name : goal.invariant-loop-name
invariant-loop-name l = led (told l.initial.table).rows l.initial.s.0 l.initial.id l.names ≡ led (told l.table).rows l.s.0 l.id (drop l.name-index l.names)

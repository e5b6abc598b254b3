use Rattle.std.specs.Prelude.{◌≡◌, drop}
use Rattle.inode_table.specs.Kept.{told}
use Rattle.inode_table.specs.Stands.{root_id}
use Rattle.path_resolver.specs.ByRows.{led_in}
use Rattle.path_resolver.proofs.above.in_by_rows.Given as goal

-- what is left answers the same
abbrev pub invariant-loop-name : goal.invariant-loop-name
invariant-loop-name l = led_in (told l.table).rows l.snaps root_id l.names ≡ led_in (told l.table).rows l.snaps l.id (drop l.name-index l.names)

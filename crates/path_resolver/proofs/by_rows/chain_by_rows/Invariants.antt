use Rattle.std.specs.Prelude.{◌≡◌, drop, ◌++◌, Ok}
use Rattle.hs_plain.specs.Asked.{◌>>=◌}
use Rattle.inode_table.specs.Kept.{told}
use Rattle.path_resolver.specs.ByRows.{led_below, led_chain}
use Rattle.path_resolver.proofs.by_rows.chain_by_rows.Given as goal

-- what is left goes behind what was pushed
abbrev pub invariant-loop-name : goal.invariant-loop-name
invariant-loop-name l = led_chain (told l.table).rows l.names ≡ (led_below (told l.table).rows l.id (drop l.name-index l.names) >>= λ ids. Ok (l.ids ++ ids))

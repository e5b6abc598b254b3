use Rattle.std.proofs.Common.{◌≡◌, Ok, Err, sym, ◌∙◌}
use Rattle.std.specs.Prelude.{IfOk, Some}
use Rattle.hs_types.specs.Names.{Names}
use Rattle.hs_types.specs.declared.ids.InodeId.{InodeId}
use Rattle.hs_plain.specs.declared.state.State.{State}
use Rattle.hs_plain.specs.declared.state.FileBlocks.{FileBlocks}
use Rattle.hs_plain.specs.Asked.{Asked}
use Rattle.hs_plain.specs.Tree.{node_at}
use Rattle.snapshot_manager.specs.Snapshots.{Snapshots}
use Rattle.inode_table.specs.Kept.{told}
use Rattle.inode_table.specs.Reads.{id_of}
use Rattle.inode_table.specs.Stands.{root_id}
use Rattle.inode_table.specs.Tabled.{Tabled}
use Rattle.inode_table.specs.Whole.{StandsFor}
use Rattle.path_resolver.specs.ByRows.{led}
use Rattle.path_resolver.proofs.ByRows.{live-led}
use Rattle.path_resolver.proofs.Live.{live-there}
use Rattle.path_resolver.proofs.by_rows.live.Goals as goal

pub returns-clause-walk : goal.returns-clause-walk
returns-clause-walk c snaps state all = c.walk.ensures ∙ sym (live-led (told c.args.table.now) snaps state all c.args.names.now)

there : (table : Tabled) (names : Names) (asked : Asked InodeId) → asked ≡ led table.rows 0 root_id names
    → IfOk asked (λ id. (snaps : Snapshots) (state : State FileBlocks) → StandsFor table snaps state → id_of (node_at state.tree names) ≡ Some id)
there table names (Ok id) e = λ snaps state all. live-there table snaps state all names id (sym e)
there table names (Err why) e = tt

pub returns-clause-there : goal.returns-clause-there
returns-clause-there c = there (told c.args.table.now) c.args.names.now c.walk.result c.walk.ensures

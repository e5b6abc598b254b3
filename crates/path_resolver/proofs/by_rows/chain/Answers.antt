use Rattle.std.proofs.Common.{◌≡◌, List, Result, Ok, Err}
use Rattle.std.specs.Prelude.{IfOk, MatchResult}
use Rattle.hs_types.specs.Names.{Names}
use Rattle.hs_types.specs.declared.ids.InodeId.{InodeId}
use Rattle.hs_plain.specs.declared.resolve.AskFault.{AskFault}
use Rattle.hs_plain.specs.declared.resolve.AskFault.TheVariants.{Refused, NoMemory}
use Rattle.hs_plain.specs.declared.state.Node.{Node}
use Rattle.hs_plain.specs.declared.state.State.{State}
use Rattle.hs_plain.specs.declared.state.FileBlocks.{FileBlocks}
use Rattle.hs_plain.specs.Tree.{node_at, walk}
use Rattle.hs_plain.specs.inside.Faults.{IsFaultOf}
use Rattle.snapshot_manager.specs.Snapshots.{Snapshots}
use Rattle.inode_table.specs.Kept.{told}
use Rattle.inode_table.specs.Marks.{IsChain}
use Rattle.inode_table.specs.Tabled.{Tabled}
use Rattle.inode_table.specs.Whole.{StandsFor}
use Rattle.path_resolver.specs.ByRows.{led_chain}
use Rattle.path_resolver.proofs.Live.{is-chain, chain-walked, chain-refused}
use Rattle.path_resolver.proofs.by_rows.chain.Goals as goal

module _ (table : Tabled) (names : Names) where
  abbrev IsAnswer : Result (List InodeId) AskFault → Type 0
  IsAnswer r = MatchResult r (λ ids. led_chain table.rows names ≡ Ok ids) (IsFaultOf (led_chain table.rows names))

  chained : (r : Result (List InodeId) AskFault) → IsAnswer r → IfOk r (λ ids. (snaps : Snapshots) (state : State FileBlocks) → StandsFor table snaps state → IsChain (node_at state.tree) names ids)
  chained (Ok ids) e = λ snaps state all. is-chain table snaps state all names ids e
  chained (Err fault) e = tt

  walked : (r : Result (List InodeId) AskFault) → IsAnswer r → (snaps : Snapshots) (state : State FileBlocks) → StandsFor table snaps state
      → MatchResult r (λ ids. (node : Node FileBlocks) × (walk state.tree names ≡ Ok node)) (IsFaultOf (walk state.tree names))
  walked (Ok ids) e snaps state all = chain-walked table snaps state all names ids e
  walked (Err (Refused why)) e snaps state all = chain-refused table snaps state all names why e
  walked (Err NoMemory) e snaps state all = tt

pub returns-clause-chain : goal.returns-clause-chain
returns-clause-chain c = chained (told c.args.table.now) c.args.names.now c.chain_by_rows.result c.chain_by_rows.ensures

pub returns-clause-walk : goal.returns-clause-walk
returns-clause-walk c = walked (told c.args.table.now) c.args.names.now c.chain_by_rows.result c.chain_by_rows.ensures

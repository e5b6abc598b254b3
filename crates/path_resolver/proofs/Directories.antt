-- The directory that a call names, by rows, is that of the plain state.
use Rattle.std.proofs.Common.{◌≡◌, ℕ, Bool, true, false, not, List, Result, Ok, Err, refl, sym, ap, ◌∙◌}
use Rattle.std.specs.Prelude.{MatchResult}
use Rattle.hs_types.specs.Names.{Names}
use Rattle.hs_types.specs.declared.ids.InodeId.{InodeId}
use Rattle.hs_types.specs.declared.refusal.Refusal.{Refusal}
use Rattle.hs_types.specs.declared.refusal.Refusal.TheVariants.{NotDir}
use Rattle.hs_plain.specs.declared.resolve.AskFault.{AskFault}
use Rattle.hs_plain.specs.declared.resolve.AskFault.TheVariants.{Refused, NoMemory}
use Rattle.hs_plain.specs.declared.state.Node.{Node}
use Rattle.hs_plain.specs.declared.state.State.{State}
use Rattle.hs_plain.specs.declared.state.FileBlocks.{FileBlocks}
use Rattle.hs_plain.specs.Asked.{Asked, ◌>>=◌, refuse_if}
use Rattle.hs_plain.specs.Modifying.{live_path}
use Rattle.hs_plain.specs.Snapshotting.{directory_at}
use Rattle.hs_plain.specs.Tree.{node_at, is_dir, walk, walks_above}
use Rattle.hs_plain.specs.inside.Faults.{IsFaultOf}
use Rattle.snapshot_manager.specs.Snapshots.{Snapshots}
use Rattle.inode_table.specs.RowHistory.{rows_at}
use Rattle.inode_table.specs.Stands.{root_id}
use Rattle.inode_table.specs.Tabled.{Tabled}
use Rattle.inode_table.specs.Whole.{StandsFor}
use Rattle.path_resolver.specs.ByRows.{led, is_dir_row, dir_asked}
use Rattle.path_resolver.specs.Live.{id_walked, id_asked}
use Rattle.path_resolver.proofs.ByRows.{err_ok, found_at, live-led}
use Rattle.path_resolver.proofs.Live.{dir-there}

err_of : {X : Type 0} (asked : Asked (Names × Node X)) (why : Refusal) → id_asked asked ≡ Err why → asked ≡ Err why
err_of (Ok at) why e = absurd (err_ok (sym e))
err_of (Err other) why e = cc

module _ (table : Tabled) (snaps : Snapshots) (state : State FileBlocks) (all : StandsFor table snaps state) where
  pub dir-asked : (text : List ℕ) → id_asked (directory_at state text) ≡ dir_asked table.rows text
  dir-asked text = by (live_path text)
    where
      tested : (path : Names) (node : Node FileBlocks) (b : Bool) → id_asked (refuse_if b NotDir >>= λ dir. Ok (path, node)) ≡ (refuse_if b NotDir >>= λ dir. Ok (path, node.id))
      tested path node true = refl
      tested path node false = refl

      walked : (path : Names) (w : Asked (Node FileBlocks)) → walk state.tree path ≡ w
          → id_asked (w >>= λ node. refuse_if (not (is_dir node)) NotDir >>= λ dir. Ok (path, node))
          ≡ (id_walked w >>= λ id. refuse_if (not (is_dir_row (rows_at table.rows id))) NotDir >>= λ dir. Ok (path, id))
      walked path (Err why) e = refl
      walked path (Ok node) e = tested path node (not (is_dir node))
          ∙ ap (λ b. refuse_if (not b) NotDir >>= λ dir. Ok (path, node.id)) (sym (dir-there table snaps state all path node (found_at (walks_above state.tree path) (node_at state.tree path) node e)))

      by : (asked : Asked Names) → id_asked (asked >>= λ path. walk state.tree path >>= λ node. refuse_if (not (is_dir node)) NotDir >>= λ dir. Ok (path, node))
          ≡ (asked >>= λ path. led table.rows 0 root_id path >>= λ id. refuse_if (not (is_dir_row (rows_at table.rows id))) NotDir >>= λ dir. Ok (path, id))
      by (Err why) = refl
      by (Ok path) = walked path (walk state.tree path) refl ∙ ap (λ (a : Asked InodeId). a >>= λ id. refuse_if (not (is_dir_row (rows_at table.rows id))) NotDir >>= λ dir. Ok (path, id)) (live-led table snaps state all path)

  pub dir-answered : (text : List ℕ) (r : Result (Names × InodeId) AskFault) → MatchResult r (λ at. dir_asked table.rows text ≡ Ok at) (IsFaultOf (dir_asked table.rows text))
      → MatchResult r (λ at. id_asked (directory_at state text) ≡ Ok at) (IsFaultOf (directory_at state text))
  dir-answered text (Ok at) e = dir-asked text ∙ e
  dir-answered text (Err (Refused why)) e = err_of (directory_at state text) why (dir-asked text ∙ e)
  dir-answered text (Err NoMemory) e = tt

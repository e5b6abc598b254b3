-- Each entry leads from a valid state to a valid one.
use Rattle.std.proofs.Common.{◌≡◌, ℕ, ◌+◌, true, false, List, [], ◌∷◌, ◌++◌, refl, sym, ap, cond, arith, rules}
use Rattle.hs_types.specs.Names.{Names}
use Rattle.hs_types.specs.declared.ids.InodeId.{InodeId}
use Rattle.hs_types.specs.declared.call.Call.{Call}
use Rattle.hs_types.specs.declared.call.Call.TheVariants as calls
use Rattle.hs_types.specs.declared.journal.Entry.{Entry}
use Rattle.hs_plain.specs.declared.state.Node.{Node}
use Rattle.hs_plain.specs.declared.state.Body.{Body}
use Rattle.hs_plain.specs.declared.state.State.{State}
use Rattle.hs_plain.specs.Files.{Files}
use Rattle.hs_plain.specs.Tree.{is_dir_body}
use Rattle.hs_plain.specs.State.{start, new_dir, is_snapshottable, has_snapshots}
use Rattle.hs_plain.specs.Modifying.{mkdir_at, create_at, delete_at, rename_at, set_mode_at, append_at}
use Rattle.hs_plain.specs.Snapshotting.{allow_at, disallow_at, snap_at, snap_del_at, snap_ren_at}
use Rattle.hs_plain.specs.Change.{new_file, with_node, made_dir, made_file, removed, renamed, with_mode, with_file, refilled, appended, allowed, disallowed, snapped, unsnapped, resnapped, change, takes_effect, changed_if, ticked, after}
use Rattle.hs_plain.specs.Replay.{replay_from, replay}
use Rattle.hs_plain.specs.Valid.{IsValid}
use Rattle.hs_plain.proofs.ValidTrees.{if_asked-keeps, sorted-moded, sorted-with_file}
use Rattle.hs_plain.proofs.ValidChanges.{shapes-moded, shapes-put_alike}
use Rattle.hs_plain.proofs.ValidAsked.{HasRoom, mkdir_room, create_room, MayGo, delete_allowed, MayMoveIn, rename_allowed, IsFileAt, append_there, MayAllow, allow_allowed, disallow_allowed, snap_allowed, snap_ren_allowed}
use Rattle.hs_plain.proofs.ValidFollows.{valid-followed}
use Rattle.hs_plain.proofs.ValidCalls.{follows-with_node, follows-alike, follows-allowed, follows-disallowed, follows-removed, follows-renamed}
use Rattle.hs_plain.proofs.ValidSnaps.{valid-snapped, valid-unsnapped, valid-resnapped}

module _ {B : Type 0} where
  -- what holds of the state after a change with the next tick
  abbrev pub Ticks : (State B → Type 0) → State B → Type 0
  Ticks P state = P (ticked state)

  module _ (state : State B) (valid : IsValid state) where
    pub valid-ticked : IsValid (ticked state)
    valid-ticked = valid-followed state valid state.tree state.next_inode state.snapshottable (state.tick + 1) (follows-alike state valid state.tree valid.sorted refl) (omega arith)

    valid-with_node : (path : Names) (node : Node B) → HasRoom state.tree path → node.id.0 ≡ state.next_inode → IsValid (ticked (with_node state path node))
    valid-with_node path node room id = valid-followed state valid (with_node state path node).tree (state.next_inode + 1) state.snapshottable (state.tick + 1) (follows-with_node state valid path node room id) (omega arith)

    valid-with_file : (path : Names) (node : Node B) (file new : B) → IsFileAt state.tree path node file → IsValid (ticked (with_file state path node new))
    valid-with_file path node file new is = valid-followed state valid (with_file state path node new).tree state.next_inode state.snapshottable (state.tick + 1)
        (follows-alike state valid (with_file state path node new).tree (sorted-with_file state path node new valid.sorted)
        (shapes-put_alike path node (refilled node new (state.tick + 1)) state.tree is.there (ap (λ (body : Body B). (node.id.0, is_dir_body body)) (sym is.body)))) (omega arith)

    valid-removed : (path : Names) → MayGo state path → IsValid (ticked (removed state path))
    valid-removed path may = valid-followed state valid (removed state path).tree state.next_inode (removed state path).snapshottable (state.tick + 1) (follows-removed state valid path may) (omega arith)

    valid-renamed : (paths : Names × Names) → MayMoveIn state paths.0 paths.1 → IsValid (ticked (renamed state paths))
    valid-renamed paths may = valid-followed state valid (renamed state paths).tree state.next_inode state.snapshottable (state.tick + 1) (follows-renamed state valid paths.0 paths.1 may) (omega arith)

    valid-with_mode : (mode : ℕ) (path : Names) → IsValid (ticked (with_mode state mode path))
    valid-with_mode mode path = valid-followed state valid (with_mode state mode path).tree state.next_inode state.snapshottable (state.tick + 1)
        (follows-alike state valid (with_mode state mode path).tree (sorted-moded state.tree path mode (state.tick + 1) valid.sorted) (shapes-moded state.tree path mode (state.tick + 1))) (omega arith)

    valid-allowed : (id : InodeId) → MayAllow state id → IsValid (ticked (allowed state id))
    valid-allowed id may = (elim (is_snapshottable state id) as (λ b. is_snapshottable state id ≡ b → IsValid (ticked (cond b state (record state { snapshottable = state.snapshottable ++ id ∷ [] })))) [
      | true ↦ λ t. valid-ticked
      | false ↦ λ f. valid-followed state valid state.tree state.next_inode (state.snapshottable ++ id ∷ []) (state.tick + 1) (follows-allowed state valid id may f) (omega arith)
    ]) refl

    valid-disallowed : (id : InodeId) → has_snapshots state id ≡ false → IsValid (ticked (disallowed state id))
    valid-disallowed id free = valid-followed state valid state.tree state.next_inode (disallowed state id).snapshottable (state.tick + 1) (follows-disallowed state valid id free) (omega arith)

    pub valid-change : (files : Files B) (call : Call) → IsValid (ticked (change files state call))
    valid-change files (calls.Mkdir path) = if_asked-keeps (Ticks IsValid) (made_dir state) state (mkdir_at state path) valid-ticked
        (λ p h. valid-with_node p (new_dir state.next_inode (state.tick + 1)) (mkdir_room state path p h) refl)
    valid-change files (calls.Create path over) = if_asked-keeps (Ticks IsValid) (made_file files state) state (create_at state path over) valid-ticked
        (λ p h. valid-with_node p (new_file files state.next_inode (state.tick + 1)) (create_room state path over p h) refl)
    valid-change files (calls.Append path bytes) = if_asked-keeps (Ticks IsValid) (appended files state bytes) state (append_at state path) valid-ticked
        (λ at h. valid-with_file at.0 at.1 at.2 (files.append at.2 bytes) (append_there state path at h))
    valid-change files (calls.Delete path recursive) = if_asked-keeps (Ticks IsValid) (removed state) state (delete_at state path recursive) valid-ticked
        (λ p h. valid-removed p (delete_allowed state path recursive p h))
    valid-change files (calls.Rename old new) = if_asked-keeps (Ticks IsValid) (renamed state) state (rename_at state old new) valid-ticked
        (λ paths h. valid-renamed paths (rename_allowed state old new paths h))
    valid-change files (calls.SetMode path mode) = if_asked-keeps (Ticks IsValid) (with_mode state mode) state (set_mode_at state path) valid-ticked (λ p h. valid-with_mode mode p)
    valid-change files (calls.Allow path) = if_asked-keeps (Ticks IsValid) (allowed state) state (allow_at state path) valid-ticked (λ id h. valid-allowed id (allow_allowed state path id h))
    valid-change files (calls.Disallow path) = if_asked-keeps (Ticks IsValid) (disallowed state) state (disallow_at state path) valid-ticked (λ id h. valid-disallowed id (disallow_allowed state path id h))
    valid-change files (calls.Snap path name) = if_asked-keeps (Ticks IsValid) (snapped state name) state (snap_at state path name) valid-ticked
        (λ at h. valid-snapped state valid name at.0 at.1 (snap_allowed state path name at h))
    valid-change files (calls.SnapDel path name) = if_asked-keeps (Ticks IsValid) (unsnapped state) state (snap_del_at state path name) valid-ticked (λ id h. valid-unsnapped state valid id)
    valid-change files (calls.SnapRen path old new) = if_asked-keeps (Ticks IsValid) (resnapped state new) state (snap_ren_at state path old new) valid-ticked
        (λ id h. valid-resnapped state valid new id (snap_ren_allowed state path old new id h))
    valid-change files (calls.Read path offset len) = valid-ticked
    valid-change files (calls.ReadNext cursor len) = valid-ticked
    valid-change files (calls.Stat path) = valid-ticked
    valid-change files (calls.List path size) = valid-ticked
    valid-change files (calls.ListNext cursor size) = valid-ticked
    valid-change files (calls.Snaps path) = valid-ticked
    valid-change files calls.Dirs = valid-ticked
    valid-change files (calls.Report path from to size) = valid-ticked
    valid-change files (calls.ReportNext cursor size) = valid-ticked

    pub valid-after : (files : Files B) (entry : Entry) → IsValid (after files state entry)
    valid-after files entry = elim (takes_effect entry) as (λ b. IsValid (ticked (changed_if b files state entry.call))) [ true ↦ valid-change files entry.call | false ↦ valid-ticked ]

  pub valid-replay_from : (files : Files B) (state : State B) (entries : List Entry) → IsValid state → IsValid (replay_from files state entries)
  valid-replay_from files state [] valid = valid
  valid-replay_from files state (entry ∷ entries) valid = valid-replay_from files (after files state entry) entries (valid-after state valid files entry)

  pub valid-start : IsValid (start {B = B})
  valid-start = search rules

  pub valid-replay : (files : Files B) (entries : List Entry) → IsValid (replay files entries)
  valid-replay files entries = valid-replay_from files start entries valid-start

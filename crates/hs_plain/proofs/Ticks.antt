-- The tick counts entries.
use Rattle.std.proofs.Common.{◌≡◌, ◌+◌, true, false, cond, List, [], ◌∷◌, ◌++◌, length, refl, ap, arith}
use Rattle.hs_types.specs.declared.ids.InodeId.{InodeId}
use Rattle.hs_types.specs.declared.call.Call.{Call}
use Rattle.hs_types.specs.declared.call.Call.TheVariants as calls
use Rattle.hs_types.specs.declared.journal.Entry.{Entry}
use Rattle.hs_plain.specs.declared.state.State.{State}
use Rattle.hs_plain.specs.Files.{Files, plain_files}
use Rattle.hs_plain.specs.State.{start, is_snapshottable}
use Rattle.hs_plain.specs.Modifying.{mkdir_at, create_at, append_at, delete_at, rename_at, set_mode_at}
use Rattle.hs_plain.specs.Snapshotting.{allow_at, disallow_at, snap_at, snap_del_at, snap_ren_at}
use Rattle.hs_plain.specs.Change.{change, changed_if, takes_effect, after, made_dir, made_file, appended, removed, renamed, with_mode, allowed, disallowed, snapped, unsnapped, resnapped}
use Rattle.hs_plain.specs.Replay.{replay_from, replay}
use Rattle.hs_plain.specs.Ticks.{TickCounts}
use Rattle.hs_plain.specs.inside.Ticks.{TickRises}
use Rattle.hs_plain.proofs.ValidTrees.{if_asked-keeps}

module _ {B : Type 0} (files : Files B) where
  abbrev Keeps : State B → State B → Type 0
  Keeps state next = next.tick ≡ state.tick

  tick-allowed : (state : State B) (id : InodeId) → Keeps state (allowed state id)
  tick-allowed state id =
      elim (is_snapshottable state id) as (λ b. Keeps state (cond b state (record state { snapshottable = state.snapshottable ++ id ∷ [] }))) [
        | true ↦ refl
        | false ↦ refl
      ]

  tick-change : (state : State B) (call : Call) → Keeps state (change files state call)
  tick-change state (calls.Mkdir path) = if_asked-keeps (Keeps state) (made_dir state) state (mkdir_at state path) refl (λ x is. refl)
  tick-change state (calls.Create path over) = if_asked-keeps (Keeps state) (made_file files state) state (create_at state path over) refl (λ x is. refl)
  tick-change state (calls.Append path bytes) = if_asked-keeps (Keeps state) (appended files state bytes) state (append_at state path) refl (λ x is. refl)
  tick-change state (calls.Delete path recursive) = if_asked-keeps (Keeps state) (removed state) state (delete_at state path recursive) refl (λ x is. refl)
  tick-change state (calls.Rename old new) = if_asked-keeps (Keeps state) (renamed state) state (rename_at state old new) refl (λ x is. refl)
  tick-change state (calls.SetMode path mode) = if_asked-keeps (Keeps state) (with_mode state mode) state (set_mode_at state path) refl (λ x is. refl)
  tick-change state (calls.Allow path) = if_asked-keeps (Keeps state) (allowed state) state (allow_at state path) refl (λ x is. tick-allowed state x)
  tick-change state (calls.Disallow path) = if_asked-keeps (Keeps state) (disallowed state) state (disallow_at state path) refl (λ x is. refl)
  tick-change state (calls.Snap path name) = if_asked-keeps (Keeps state) (snapped state name) state (snap_at state path name) refl (λ x is. refl)
  tick-change state (calls.SnapDel path name) = if_asked-keeps (Keeps state) (unsnapped state) state (snap_del_at state path name) refl (λ x is. refl)
  tick-change state (calls.SnapRen path old new) = if_asked-keeps (Keeps state) (resnapped state new) state (snap_ren_at state path old new) refl (λ x is. refl)
  tick-change state call = refl

  pub tick-after : (state : State B) (entry : Entry) → (after files state entry).tick ≡ state.tick + 1
  tick-after state entry =
      elim (takes_effect entry) as (λ b. (changed_if b files state entry.call).tick + 1 ≡ state.tick + 1) [
        | true ↦ ap (λ n. n + 1) (tick-change state entry.call)
        | false ↦ refl
      ]

  pub tick-replay_from : (state : State B) (entries : List Entry) → (replay_from files state entries).tick ≡ state.tick + length entries
  tick-replay_from state [] = omega arith
  tick-replay_from state (entry ∷ entries) = omega (arith, tick-replay_from (after files state entry) entries, tick-after state entry)

  pub tick-replay : (entries : List Entry) → (replay files entries).tick ≡ length entries
  tick-replay entries = omega (arith, tick-replay_from start entries)

pub tick_counts : TickCounts
tick_counts = tick-replay plain_files

pub tick_rises : TickRises
tick_rises = tick-replay_from plain_files

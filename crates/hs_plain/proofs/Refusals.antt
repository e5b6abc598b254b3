-- A call that is refused changes nothing.
use Rattle.std.proofs.Common.{◌≡◌, true, Result, Ok, Err, refl, sym, ◌∙◌}
use Rattle.hs_types.specs.declared.call.Call.{Call}
use Rattle.hs_types.specs.declared.call.Call.TheVariants as calls
use Rattle.hs_types.specs.declared.reply.Reply.{Reply}
use Rattle.hs_types.specs.declared.refusal.Refusal.{Refusal}
use Rattle.hs_plain.specs.declared.state.State.{State}
use Rattle.std.specs.Prelude.{OnOk, OnErr, IfErr}
use Rattle.hs_plain.specs.declared.resolve.AskFault.{AskFault}
use Rattle.hs_plain.specs.declared.resolve.AskFault.TheVariants as faults
use Rattle.hs_plain.specs.Asked.{Asked}
use Rattle.hs_plain.specs.inside.Faults.{IsFaultOf, is_answered}
use Rattle.hs_plain.specs.Files.{Files}
use Rattle.hs_plain.specs.Answer.{asked, replied}
use Rattle.hs_plain.specs.Modifying.{mkdir_at, create_at, delete_at, rename_at, set_mode_at, append_at}
use Rattle.hs_plain.specs.Snapshotting.{allow_at, disallow_at, snap_at, snap_del_at, snap_ren_at}
use Rattle.hs_plain.specs.Change.{change, if_asked, made_dir, made_file, removed, renamed, with_mode, appended, allowed, disallowed, snapped, unsnapped, resnapped}

module _ {X : Type 0} {B : Type 0} (make : X → State B) (state : State B) (reply : Reply) (why : Refusal) where
  unchanged : (told : Asked X) → replied reply told ≡ Err why → if_asked make state told ≡ state
  unchanged (Ok x) refused = absurd (cc)
  unchanged (Err other) refused = refl

pub refused_same : {B : Type 0} (files : Files B) (state : State B) (call : Call) (why : Refusal) → asked files state call ≡ Err why → change files state call ≡ state
refused_same files state (calls.Mkdir path) why refused = unchanged (made_dir state) state _ why (mkdir_at state path) refused
refused_same files state (calls.Create path over) why refused = unchanged (made_file files state) state _ why (create_at state path over) refused
refused_same files state (calls.Delete path recursive) why refused = unchanged (removed state) state _ why (delete_at state path recursive) refused
refused_same files state (calls.Rename old new) why refused = unchanged (renamed state) state _ why (rename_at state old new) refused
refused_same files state (calls.SetMode path mode) why refused = unchanged (with_mode state mode) state _ why (set_mode_at state path) refused
refused_same files state (calls.Append path bytes) why refused = unchanged (appended files state bytes) state _ why (append_at state path) refused
refused_same files state (calls.Read path offset len) why refused = refl
refused_same files state (calls.ReadNext cursor len) why refused = refl
refused_same files state (calls.Stat path) why refused = refl
refused_same files state (calls.List path size) why refused = refl
refused_same files state (calls.Allow path) why refused = unchanged (allowed state) state _ why (allow_at state path) refused
refused_same files state (calls.Disallow path) why refused = unchanged (disallowed state) state _ why (disallow_at state path) refused
refused_same files state (calls.Snap path name) why refused = unchanged (snapped state name) state _ why (snap_at state path name) refused
refused_same files state (calls.SnapDel path name) why refused = unchanged (unsnapped state) state _ why (snap_del_at state path name) refused
refused_same files state (calls.SnapRen path old new) why refused = unchanged (resnapped state new) state _ why (snap_ren_at state path old new) refused
refused_same files state (calls.ListNext cursor size) why refused = refl
refused_same files state (calls.Snaps path) why refused = refl
refused_same files state calls.Dirs why refused = refl
refused_same files state (calls.Report path from to size) why refused = refl
refused_same files state (calls.ReportNext cursor size) why refused = refl

-- what was answered, with whatever reply, made the call's change
pub answered_change : {B : Type 0} (files : Files B) (state new : State B) (call : Call) (made : Result Reply AskFault) → is_answered made ≡ true →
    OnOk made (new ≡ change files state call) → OnErr made (new ≡ state) → IfErr made (IsFaultOf (asked files state call)) → new ≡ change files state call
answered_change files state new call (Ok reply) answered ok err fault = ok
answered_change files state new call (Err (faults.Refused why)) answered ok err fault = err ∙ sym (refused_same files state call why fault)
answered_change files state new call (Err faults.NoMemory) answered ok err fault = absurd (cc)

-- A state with files kept in another way answers every call alike that reads no file.
use Rattle.std.proofs.Common.{◌≡◌, true, false, ◌&&◌, Ok, ap, ◌∙◌}
use Rattle.std.specs.Prelude.{not}
use Rattle.hs_types.specs.declared.call.Call.{Call}
use Rattle.hs_types.specs.declared.call.Call.TheVariants as calls
use Rattle.hs_types.specs.declared.reply.Reply.{Reply}
use Rattle.hs_types.specs.declared.reply.Reply.TheVariants as replies
use Rattle.hs_plain.specs.declared.state.State.{State}
use Rattle.hs_plain.specs.Files.{Files}
use Rattle.hs_plain.specs.Modifying.{append_at}
use Rattle.hs_plain.specs.Snapshotting.{snap_at}
use Rattle.hs_plain.specs.Answer.{made_reply, snap_made_reply, replied, asked, is_modifying, uses_store}
use Rattle.hs_plain.specs.Viewed.{viewed_place, viewed}
use Rattle.hs_plain.proofs.Viewed.{viewed_file, replied-mapped, mkdir_at-viewed, create_at-viewed, append_at-viewed, delete_at-viewed, rename_at-viewed, set_mode_at-viewed, stat_reply-viewed, list_reply-viewed}
use Rattle.hs_plain.proofs.ViewedReports.{report_reply-viewed, report_next_reply-viewed}
use Rattle.hs_plain.proofs.ViewedSnapshots.{allow_at-viewed, disallow_at-viewed, snap_at-viewed, snap_del_at-viewed, snap_ren_at-viewed, list_next_reply-viewed, snaps_reply-viewed, dirs_reply-viewed}

module _ {A B : Type 0} (read : A → B) (fa : Files A) (fb : Files B) (sizes : (file : A) → fb.size (read file) ≡ fa.size file) where
  -- the answer of a call that reads no file
  pub asked-viewed : (state : State A) (call : Call) → (uses_store call && not (is_modifying call)) ≡ false → asked fb (viewed read state) call ≡ asked fa state call
  asked-viewed state (calls.Mkdir path) no_read = ap (replied (made_reply state)) (mkdir_at-viewed read state path)
  asked-viewed state (calls.Create path over) no_read = ap (replied (made_reply state)) (create_at-viewed read state path over)
  asked-viewed state (calls.Append path bytes) no_read = ap (replied replies.Done) (append_at-viewed read state path) ∙ replied-mapped replies.Done (viewed_file read) (append_at state path)
  asked-viewed state (calls.Delete path recursive) no_read = ap (replied replies.Done) (delete_at-viewed read state path recursive)
  asked-viewed state (calls.Rename old new) no_read = ap (replied replies.Done) (rename_at-viewed read state old new)
  asked-viewed state (calls.SetMode path mode) no_read = ap (replied replies.Done) (set_mode_at-viewed read state path)
  asked-viewed state (calls.Allow path) no_read = ap (replied replies.Done) (allow_at-viewed read state path)
  asked-viewed state (calls.Disallow path) no_read = ap (replied replies.Done) (disallow_at-viewed read state path)
  asked-viewed state (calls.Snap path name) no_read = ap (replied (snap_made_reply state)) (snap_at-viewed read state path name) ∙ replied-mapped (snap_made_reply state) (viewed_place read) (snap_at state path name)
  asked-viewed state (calls.SnapDel path name) no_read = ap (replied replies.Done) (snap_del_at-viewed read state path name)
  asked-viewed state (calls.SnapRen path old new) no_read = ap (replied replies.Done) (snap_ren_at-viewed read state path old new)
  asked-viewed state (calls.Read path offset len) no_read = absurd (cc)
  asked-viewed state (calls.ReadNext cursor len) no_read = absurd (cc)
  asked-viewed state (calls.Stat path) no_read = stat_reply-viewed read fa fb sizes state path
  asked-viewed state (calls.List path size) no_read = list_reply-viewed read state path size
  asked-viewed state (calls.ListNext cursor size) no_read = list_next_reply-viewed read state cursor size
  asked-viewed state (calls.Snaps path) no_read = snaps_reply-viewed read state path
  asked-viewed state calls.Dirs no_read = ap (λ (reply : Reply). Ok reply) (dirs_reply-viewed read state)
  asked-viewed state (calls.Report path from to size) no_read = report_reply-viewed read state path from to size
  asked-viewed state (calls.ReportNext cursor size) no_read = report_next_reply-viewed read state cursor size

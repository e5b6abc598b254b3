-- The first page of a report: its directory and its ends are asked for first.
use Rattle.std.proofs.Common.{◌≡◌, ℕ, Bool, true, false, not, List, None, Ok, Err, refl, subst, sym, ap, ◌∙◌}
use Rattle.std.specs.Prelude.{Result, IsErrAnd}
use Rattle.hs_types.specs.Paths.{path_of}
use Rattle.hs_types.specs.declared.ids.InodeId.{InodeId}
use Rattle.hs_types.specs.declared.ids.SnapId.{SnapId}
use Rattle.hs_types.specs.declared.refusal.Refusal.TheVariants.{NotSnapshottable}
use Rattle.hs_types.specs.declared.call.Point.{Point}
use Rattle.hs_types.specs.declared.call.ReportCursor.{ReportCursor}
use Rattle.hs_types.specs.declared.reply.Reply.{Reply}
use Rattle.hs_plain.specs.declared.resolve.AskFault.{AskFault}
use Rattle.hs_plain.specs.declared.state.State.{State}
use Rattle.hs_plain.specs.declared.state.FileBlocks.{FileBlocks}
use Rattle.hs_plain.specs.inside.Faults.{IsFaultOf}
use Rattle.hs_plain.specs.Asked.{Asked, ◌>>=◌, refuse_if}
use Rattle.hs_plain.specs.State.{resolve, is_snapshottable}
use Rattle.hs_plain.specs.Reading.{snapshottable_at, live_directory, point_id, report_page, report_reply}
use Rattle.hs_plain.proofs.ReportEnds.{point_own}
use Rattle.path_resolver.proofs.Named.{match_err}
use Rattle.paged_listing.proofs.Ends.{GoesOn}
use Rattle.paged_listing.proofs.Chains.{Tells, tells_as, tells_then, fault_then, err_ok, ok_same, given}
use Rattle.namenode_read.specs.Places.{first_cursor}
use Rattle.namenode_read.proofs.Snapshots.{asked_directory}

-- a directory that was found is snapshottable
may_so : (state : State FileBlocks) (dir root : InodeId) (b : Bool) → is_snapshottable state dir ≡ b → (refuse_if (not b) NotSnapshottable >>= λ _. Ok dir) ≡ Ok root → is_snapshottable state root ≡ true
may_so state dir root true may e = ap (is_snapshottable state) (sym (ok_same e)) ∙ may
may_so state dir root false may e = absurd (err_ok e)

root_so : (state : State FileBlocks) (text : List ℕ) (root : InodeId) → snapshottable_at state text ≡ Ok root → is_snapshottable state root ≡ true
root_so state text root e =
    let p = given (path_of text) (λ path. resolve state path >>= asked_directory state) root e in
    let q = given (resolve state p.0) (asked_directory state) root p.2 in
    let r = given (live_directory state q.0) (λ (dir : InodeId). refuse_if (not (is_snapshottable state dir)) NotSnapshottable >>= λ _. Ok dir) root q.2 in
    may_so state r.0 root (is_snapshottable state r.0) refl r.2

-- the ends of the cursor are the directory's
cursor_so : (state : State FileBlocks) (root : InodeId) (from to : Point) (cursor : ReportCursor) → is_snapshottable state root ≡ true → first_cursor state root from to ≡ Ok cursor → GoesOn state cursor
cursor_so state root from to cursor may e = by (given (point_id state root from) (λ first. point_id state root to >>= λ last. whole first last) cursor e)
  where
    whole : SnapId → SnapId → Asked ReportCursor
    whole first last = Ok (record { root = root; from = first; to = last; tick = None; index = 0 })

    by : (first : SnapId) × (point_id state root from ≡ Ok first) × ((point_id state root to >>= λ last. whole first last) ≡ Ok cursor) → GoesOn state cursor
    by a =
        let b = given (point_id state root to) (whole a.0) cursor a.2 in
        let is : record { root = root; from = a.0; to = b.0; tick = None; index = 0 } ≡ cursor = ok_same b.2 in
        subst (GoesOn state) is (record { root = may; from = point_own state root from a.0 a.1; to = point_own state root to b.0 b.1 })

module _ (state : State FileBlocks) (text : List ℕ) (from to : Point) (size : ℕ) where
  abbrev page : ReportCursor → Asked Reply
  page cursor = Ok (report_page state cursor size)

  -- what is asked of a directory
  abbrev pub asked_first : InodeId → Asked Reply
  asked_first root = first_cursor state root from to >>= page

  in_turn : (snapshottable_at state text >>= asked_first) ≡ report_reply state text from to size
  in_turn = by (snapshottable_at state text)
    where
      ends : (root : InodeId) (a b : Asked SnapId) → ((a >>= λ first. b >>= λ last. Ok (record { root = root; from = first; to = last; tick = None; index = 0 })) >>= page)
          ≡ (a >>= λ first. b >>= λ last. page (record { root = root; from = first; to = last; tick = None; index = 0 }))
      ends root (Err why) b = refl
      ends root (Ok first) (Err why) = refl
      ends root (Ok first) (Ok last) = refl

      by : (a : Asked InodeId) → (a >>= asked_first) ≡ (a >>= λ root. point_id state root from >>= λ first. point_id state root to >>= λ last. page (record { root = root; from = first; to = last; tick = None; index = 0 }))
      by (Err why) = refl
      by (Ok root) = ends root (point_id state root from) (point_id state root to)

  -- why there are no such ends
  pub ends_err : (result : Result Reply AskFault) (root : InodeId) (fault : AskFault) → snapshottable_at state text ≡ Ok root → IsFaultOf (first_cursor state root from to) fault → IsErrAnd result (λ y. y ≡ fault)
      → Tells result (report_reply state text from to size)
  ends_err result root fault found why same =
      tells_as result _ _ in_turn
      (tells_then result (snapshottable_at state text) asked_first root found (match_err result fault _ _ same (fault_then (first_cursor state root from to) page fault why)))

  pub first_ok : (reply : Reply) (root : InodeId) (cursor : ReportCursor) → snapshottable_at state text ≡ Ok root → first_cursor state root from to ≡ Ok cursor → (GoesOn state cursor → reply ≡ report_page state cursor size)
      → report_reply state text from to size ≡ Ok reply
  first_ok reply root cursor found ends same =
      sym in_turn
      ∙ ap (λ (a : Asked InodeId). a >>= asked_first) found
      ∙ ap (λ (a : Asked ReportCursor). a >>= page) ends
      ∙ ap (λ (r : Reply). Ok r) (sym (same (cursor_so state root from to cursor (root_so state text root found) ends)))

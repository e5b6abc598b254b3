-- A snapshot that is gone was deleted.
use Rattle.std.proofs.Common.{◌≡◌, ◌⊎◌, inl, inr, ℕ, ◌≤◌, true, false, not, ◌==◌, Option, Some, None, Ok, List, refl, ap, ◌∙◌, arith}
use Rattle.std.proofs.lemmas.Bool.Decides.{Decides-eqb}
use Rattle.hs_types.specs.declared.ids.SnapId.{SnapId}
use Rattle.hs_types.specs.declared.journal.Entry.{Entry}
use Rattle.hs_plain.specs.declared.state.Member.{Member}
use Rattle.hs_plain.specs.declared.state.State.{State}
use Rattle.hs_plain.specs.Files.{plain_files}
use Rattle.hs_plain.specs.State.{member_with}
use Rattle.hs_plain.specs.Reading.{is_live, is_deleted}
use Rattle.hs_plain.specs.Change.{is_accepted, after}
use Rattle.hs_plain.specs.Span.{Span, IsInSpan, parted_by, is_that, takes_away}
use Rattle.hs_plain.specs.Frozen.{is_snap_del, IsAmong}
use Rattle.hs_plain.proofs.ValidTrees as tests
use Rattle.hs_plain.proofs.ValidShapes.{true_false}
use Rattle.hs_plain.proofs.ValidLists.{by_test, not_so}
use Rattle.hs_plain.proofs.Paged.{live-found, is_found}
use Rattle.hs_plain.proofs.ReportEnds.{Finds, finds}
use Rattle.hs_plain.proofs.Frozen.{only_snap_del}
use Rattle.sync_laws.specs.Lasting.{state_at, WasDeleted}
use Rattle.sync_laws.proofs.Spans.{throughout}
use Rattle.sync_laws.proofs.Snapshots.{entry-keeps}

that-so : (snapshot : SnapId) (other : Option SnapId) → is_that snapshot other ≡ true → other ≡ Some snapshot
that-so snapshot None is = absurd (true_false is refl)
that-so snapshot (Some other) is = let same : other.0 ≡ snapshot.0 = (Decides-eqb other.0 snapshot.0).0 is in λ i. Some (record { 0 = same i })

live-with : (state : State (List ℕ)) (snapshot : SnapId) (member : Member (List ℕ)) → member_with state.members snapshot ≡ Ok member → is_live state.members snapshot ≡ true
live-with state snapshot member here = live-found state.members snapshot ∙ ap is_found here

pub taken-deleted : (journal : List Entry) (span : Span) (snapshot : SnapId) (member : Member (List ℕ)) → span.low ≤ span.high →
    member_with (state_at journal span.low).members snapshot ≡ Ok member → is_live (state_at journal span.high).members snapshot ≡ false → WasDeleted journal span snapshot
taken-deleted journal span snapshot member ordered begins gone = ended (throughout Alive journal span step (inr (live-with (state_at journal span.low) snapshot member begins)) span.high (record { from = ordered; up_to = omega arith }))
  where
    Alive : State (List ℕ) → Type 0
    Alive state = WasDeleted journal span snapshot ⊎ (is_live state.members snapshot ≡ true)

    ended : Alive (state_at journal span.high) → WasDeleted journal span snapshot
    ended (inl deleted) = deleted
    ended (inr live) = absurd (true_false live gone)

    one : (index : ℕ) (entry : Entry) → IsInSpan journal span index entry → Finds (state_at journal index).members snapshot → Alive (after plain_files (state_at journal index) entry)
    one index entry at found = by_test (is_snap_del entry.call)
        (λ deletes. by_test (takes_away (state_at journal index) snapshot entry)
        (λ takes. inl (record {
          index = index;
          entry = entry;
          at = at;
          accepted = tests.first (is_accepted entry.kind) (is_that snapshot (parted_by (state_at journal index) entry.call)) takes;
          deletes = deletes;
          its = that-so snapshot (parted_by (state_at journal index) entry.call) (tests.second (is_accepted entry.kind) (is_that snapshot (parted_by (state_at journal index) entry.call)) takes);
        }))
        (λ leaves. inr (live-with (after plain_files (state_at journal index) entry) snapshot found.member (entry-keeps (state_at journal index) entry snapshot found.member leaves found.found))))
        (λ other. let among : IsAmong (after plain_files (state_at journal index) entry).members snapshot found.member = only_snap_del (state_at journal index) entry snapshot found.member other found.found in
        inr (live-with (after plain_files (state_at journal index) entry) snapshot among.there among.found))

    step : (index : ℕ) (entry : Entry) → IsInSpan journal span index entry → Alive (state_at journal index) → Alive (after plain_files (state_at journal index) entry)
    step index entry at (inl deleted) = inl deleted
    step index entry at (inr live) = one index entry at (finds (state_at journal index).members snapshot live)

pub gone-deleted : (journal : List Entry) (span : Span) (snapshot : SnapId) (member : Member (List ℕ)) → span.low ≤ span.high →
    member_with (state_at journal span.low).members snapshot ≡ Ok member → is_deleted (state_at journal span.high) snapshot ≡ true → WasDeleted journal span snapshot
gone-deleted journal span snapshot member ordered begins gone =
    taken-deleted journal span snapshot member ordered begins (not_so (is_live (state_at journal span.high).members snapshot) (tests.second (not (snapshot.0 == 0)) (not (is_live (state_at journal span.high).members snapshot)) gone))

-- A sync's reads of the premises' snapshots are answered by an Ok reply.
use Rattle.std.proofs.Common.{◌≡◌, inl, inr, ℕ, zero, suc, true, not, Option, Some, Ok, List, [], ◌∷◌, map, slice_get, refl, ap, sym}
use Rattle.std.specs.List.{filter}
use Rattle.hs_types.specs.Names.{Names}
use Rattle.hs_types.specs.declared.ids.InodeId.{InodeId}
use Rattle.hs_types.specs.declared.call.Call.TheVariants as calls
use Rattle.hs_types.specs.declared.call.ReportCursor.{ReportCursor}
use Rattle.hs_plain.specs.declared.plan.CopyJob.{CopyJob}
use Rattle.hs_plain.specs.declared.state.Body.{Body}
use Rattle.hs_plain.specs.declared.state.Body.TheVariants.{File, Dir}
use Rattle.hs_plain.specs.declared.state.Node.{Node}
use Rattle.hs_plain.specs.declared.state.Member.{Member}
use Rattle.hs_plain.specs.declared.state.State.{State}
use Rattle.hs_plain.specs.Tree.{Tree, is_dir, is_dir_body, place_of}
use Rattle.hs_plain.specs.State.{member_with}
use Rattle.hs_plain.specs.Answer.{answer, is_ok_reply}
use Rattle.hs_plain.specs.Plan.{copies, is_copied, is_other}
use Rattle.hs_plain.specs.Valid.{IsValid}
use Rattle.hs_plain.proofs.ValidTrees.{first}
use Rattle.hs_plain.proofs.ValidShapes.{none_some, same_some, true_false}
use Rattle.hs_plain.proofs.ValidLists.{In, filter_so}
use Rattle.hs_plain.proofs.ValidHeld.{found_place}
use Rattle.plan_laws.specs.Pair.{IsTree}
use Rattle.plan_laws.proofs.Places.{place_of-here}
use Rattle.sync_laws.specs.Shown.{IsSnapshotOf, list_from, read_from}
use Rattle.sync_laws.proofs.Shown.{reports-between, dirs-listed, files-read}

-- a page of the report between two snapshots of a directory
pub lines-ok : (state : State (List ℕ)) → IsValid state → (cursor : ReportCursor) (page : ℕ) → IsSnapshotOf state cursor.root cursor.from → IsSnapshotOf state cursor.root cursor.to → is_ok_reply (answer state (calls.ReportNext cursor page)) ≡ true
lines-ok state valid cursor page from to = ap is_ok_reply (reports-between state cursor page valid from to)

-- a page of a directory of a snapshot's tree
pub items-ok : (state : State (List ℕ)) (member : Member (List ℕ)) (id : InodeId) (place : Names × Node (List ℕ)) (after : Option (List ℕ)) (page : ℕ) → member_with state.members member.snapshot ≡ Ok member →
    place_of member.tree id ≡ Some place → is_dir place.1 ≡ true → is_ok_reply (answer state (calls.ListNext (list_from id member.snapshot after) page)) ≡ true
items-ok state member id place after page lives at directory = ap is_ok_reply (dirs-listed state id member.snapshot member place after page lives at directory)

-- ---- the file of a copy

file_of : (body : Body (List ℕ)) → not (is_dir_body body) ≡ true → (bytes : List ℕ) × (body ≡ File bytes)
file_of (File bytes) other = (bytes, refl)
file_of Dir other = absurd (true_false other refl)

abbrev job_of : Names × Node (List ℕ) → CopyJob
job_of place = record { id = place.1.id; to = place.0 }

-- a job is that of a place
job-place : (places : Tree (List ℕ)) (number : ℕ) (job : CopyJob) → slice_get (map job_of places) number ≡ Some job → (place : Names × Node (List ℕ)) × In places place × (job_of place ≡ job)
job-place [] number job there = absurd (none_some there)
job-place (place ∷ places) zero job there = (place, inl refl, same_some there)
job-place (place ∷ places) (suc number) job there = let later = job-place places number job there in (later.0, inr later.1, later.2)

-- where the file of a job stands, with its bytes
pub record IsFileOf (tree : Tree (List ℕ)) (id : InodeId) : Type 0 where
  pub place : Names × Node (List ℕ)
  pub there : place_of tree id ≡ Some place
  pub bytes : List ℕ
  pub body : place.1.body ≡ File bytes

pub job-file : (from to : Tree (List ℕ)) → IsTree to → (number : ℕ) (job : CopyJob) → slice_get (copies from to) number ≡ Some job → IsFileOf to job.id
job-file from to is number job there =
    let at : (place : Names × Node (List ℕ)) × In (filter (is_copied from) to) place × (job_of place ≡ job) = job-place (filter (is_copied from) to) number job there in
    let so : In to at.0 × (is_copied from at.0 ≡ true) = filter_so (is_copied from) to at.0 at.1 in
    let file : (bytes : List ℕ) × (at.0.1.body ≡ File bytes) = file_of at.0.1.body (first (not (is_dir at.0.1)) (is_other at.0 (place_of from at.0.1.id)) so.1) in
    record {
      place = at.0;
      there = place_of-here to is at.0.0 at.0.1 job.id (found_place to is.sorted at.0 so.0) (ap (λ (one : CopyJob). one.id.0) (sym at.2));
      bytes = file.0;
      body = file.1;
    }

-- a page of a file of a snapshot's tree
pub read-ok : (state : State (List ℕ)) (member : Member (List ℕ)) (id : InodeId) (offset len : ℕ) → member_with state.members member.snapshot ≡ Ok member → IsFileOf member.tree id →
    is_ok_reply (answer state (calls.ReadNext (read_from id member.snapshot offset) len)) ≡ true
read-ok state member id offset len lives file = ap is_ok_reply (files-read state id member.snapshot member file.place file.bytes offset len lives file.there file.body)

-- What the Ok replies of a sync's first steps show: the state that each knows, and the snapshots whose ids they tell.
use Rattle.std.proofs.Common.{◌≡◌, ℕ, ◌+◌, ◌<◌, Bool, true, false, cond, ◌==◌, ◌||◌, Option, Some, None, Ok, Err, List, length, take, refl, ap, sym, ◌∙◌, subst, arith}
use Rattle.std.specs.Prelude.{◌&&◌, nat_lt, bytes_eq}
use Rattle.std.proofs.Math.Seq.{take-length, take-append_seam}
use Rattle.std.proofs.lemmas.Bool.Decides.{Decides-eqb}
use mathlib.Core.List.{IsPrefix}
use Rattle.hs_types.specs.declared.ids.InodeId.{InodeId}
use Rattle.hs_types.specs.declared.ids.Side.{Side}
use Rattle.hs_types.specs.declared.ids.SnapId.{SnapId}
use Rattle.hs_types.specs.declared.name.SnapItem.{SnapItem}
use Rattle.hs_types.specs.declared.call.Call.{Call}
use Rattle.hs_types.specs.declared.call.Call.TheVariants as calls
use Rattle.hs_types.specs.declared.journal.Entry.{Entry}
use Rattle.hs_types.specs.declared.reply.Reply.{Reply}
use Rattle.hs_types.specs.declared.reply.Reply.TheVariants as replies
use Rattle.hs_plain.specs.declared.state.Member.{Member}
use Rattle.hs_plain.specs.declared.state.State.{State}
use Rattle.hs_plain.specs.Tree.{same_inode}
use Rattle.hs_plain.specs.State.{member_named, member_with}
use Rattle.hs_plain.specs.Answer.{answer, claimed, is_modifying, is_ok_reply, is_plain_reply, is_store_fault}
use Rattle.hs_plain.specs.Legal.{leaves_entry, reach_of}
use Rattle.hs_plain.specs.Premises.{SyncAsk, SyncSide}
use Rattle.hs_plain.specs.Replay.{plain_after}
use Rattle.hs_plain.specs.Valid.{IsValid}
use Rattle.hs_plain.proofs.ValidTrees.{first}
use Rattle.hs_plain.proofs.ValidShapes.{true_false}
use Rattle.hs_plain.proofs.ValidLists.{In, false_by}
use Rattle.hs_plain.proofs.ValidMembers.{inode_so, snapshot_of, above_all}
use Rattle.sync_laws.specs.Shown.{ShowsSnaps, IsSnapshotOf}
use Rattle.sync_laws.proofs.Shown.{snaps-shown}
use Rattle.sync_laws.proofs.Snapshots.{named-so, with-so, with-from}
use Rattle.page_join.specs.Links.{Known, IsCall}
use Rattle.page_join.proofs.Chains.{prefix_trans}
use Rattle.copy_workers.specs.declared.copied.Look.{Look}
use Rattle.distcp_sync.specs.declared.answer.SyncAnswer.{SyncAnswer}
use Rattle.distcp_sync.specs.declared.start.SyncStart.{SyncStart}
use Rattle.distcp_sync.specs.Told.{id_named, start_by, begun}
use Rattle.distcp_sync.specs.Around.{IsAround}
use Rattle.distcp_sync.specs.inside.Trace.{IsLookedOk}
use Rattle.distcp_sync.proofs.Heard.{Goes}
use Rattle.distcp_sync.proofs.Started.{same-id}

-- ---- the state that an Ok reply knows

-- an Ok reply is the plain machine's
plain_ok : (reply : Reply) → is_ok_reply reply ≡ true → is_plain_reply reply ≡ true
plain_ok (replies.Refused why) ok = absurd (true_false ok refl)
plain_ok replies.NoMemory ok = absurd (true_false ok refl)
plain_ok reply ok = refl

-- and no fault of a store
no_fault : (reply : Reply) → is_ok_reply reply ≡ true → is_store_fault reply ≡ false
no_fault (replies.Refused why) ok = absurd (true_false ok refl)
no_fault replies.NoMemory ok = absurd (true_false ok refl)
no_fault reply ok = refl

-- a call that changes nothing leaves no entry where it is done
pub no_entry : (call : Call) (reply : Reply) → is_modifying call ≡ false → is_ok_reply reply ≡ true → leaves_entry call reply ≡ false
no_entry call reply reads ok = ap (λ b. b || (is_modifying call && is_ok_reply reply)) (no_fault reply ok) ∙ ap (λ b. b && is_ok_reply reply) reads

-- an Ok reply to a call that changes nothing knows all that is then seen, and is the plain machine's there
pub record IsShown (tells : Bool) (new : Known) (call : Call) (look : Look) : Type 0 where
  pub place : look.reply.position ≡ length new.seen
  pub same : claimed tells look.reply.reply ≡ claimed tells (answer (plain_after new.seen) call)

pub shown : (side : Side) (old new : Known) (call : Call) (look : Look) → is_modifying call ≡ false → IsLookedOk side old new call look → IsShown old.tells new call look
shown side old new call look reads ok =
    let called : IsCall old new call look.reply = ok.looked.called in
    let reach : reach_of call look.reply ≡ look.reply.position + 0 = ap (λ b. look.reply.position + cond b 1 0) (no_entry call look.reply.reply reads ok.ok) in
    let place : look.reply.position ≡ length new.seen = omega (arith, called.reach, reach) in
    record {
      place = place;
      same = called.legal.answered (plain_ok look.reply.reply ok.ok)
          ∙ ap (λ (seen : List Entry). claimed old.tells (answer (plain_after seen) call)) (ap (λ n. take n new.seen) place ∙ take-length new.seen);
    }

-- what is seen is the front of what is seen later
pub front_seen : (seen journal : List Entry) (n : ℕ) → IsPrefix seen journal → n ≡ length seen → take n journal ≡ seen
front_seen seen journal n front place = ap (λ n. take n journal) place ∙ (ap (take (length seen)) (sym front.1) ∙ take-append_seam seen front.0)

-- in each journal around the run it is what was seen
pub state_seen : (opened new last : Known) (tells : Bool) (side : SyncSide) (look : Look) → IsAround opened last tells side → Goes new last → look.reply.position ≡ length new.seen → take look.reply.position side.journal ≡ new.seen
state_seen opened new last tells side look around after place = front_seen new.seen side.journal look.reply.position (prefix_trans new.seen last.seen side.journal after.grown around.goes_on) place

-- ---- snapshots that a reply tells

-- a list of snapshots is told, whether bytes are told or not
snaps_claimed : (tells : Bool) (reply : Reply) (dir : InodeId) (items : List SnapItem) → claimed tells reply ≡ claimed tells (replies.Snaps dir items) → reply ≡ replies.Snaps dir items
snaps_claimed true reply dir items e = e
snaps_claimed false (replies.Snaps one others) dir items e = e
snaps_claimed false reply dir items e = absurd (cc)

-- an id that is told under a name is that of a live snapshot of the directory
pub told_live : (tells : Bool) (new : Known) (path : List ℕ) (look : Look) (dir : InodeId) (items : List SnapItem) (name : List ℕ) (snapshot : SnapId) → IsValid (plain_after new.seen) →
    IsShown tells new (calls.Snaps path) look → look.reply.reply ≡ replies.Snaps dir items → id_named items name ≡ Some snapshot → IsSnapshotOf (plain_after new.seen) dir snapshot
told_live tells new path look dir items name snapshot valid is reply_is named =
    let state : State (List ℕ) = plain_after new.seen in
    let shows : ShowsSnaps state path dir items = snaps-shown state path dir items (snaps_claimed tells (answer state (calls.Snaps path)) dir items (sym is.same ∙ ap (claimed tells) reply_is)) in
    let sound : (member : Member (List ℕ)) × (member_named state.members dir name ≡ Ok member) × (member.snapshot ≡ snapshot) = shows.sound name snapshot (sym (same-id items name) ∙ named) in
    let so = named-so state.members dir name sound.0 sound.1 in
    record {
      member = sound.0;
      live = subst (λ (id : SnapId). member_with state.members id ≡ Ok sound.0) sound.2 (with-from state.members sound.0 valid.snapshots_rise so.0);
      own = inode_so sound.0.directory dir (first (same_inode sound.0.directory dir) (bytes_eq sound.0.name name) so.1);
    }

-- the id of a live snapshot isn't 0
pub not_zero : (state : State (List ℕ)) → IsValid state → (snapshot : SnapId) (member : Member (List ℕ)) → member_with state.members snapshot ≡ Ok member → (snapshot.0 == 0) ≡ false
not_zero state valid snapshot member live =
    let so : In state.members member × (member.snapshot.0 ≡ snapshot.0) = with-so state.members snapshot member live in
    let above : 0 < member.snapshot.0 = above_all snapshot_of state.members 0 valid.snapshots_rise member so.0 in
    let same : member.snapshot.0 ≡ snapshot.0 = so.1 in
    false_by (snapshot.0 == 0) (λ t. let zero : snapshot.0 ≡ 0 = (Decides-eqb snapshot.0 0).0 t in absurd (omega arith))

-- ---- where a sync begins

-- both roots' replies, and the ids in them
pub record IsBegunBy (ask : SyncAsk) (source target : Reply) (start : SyncStart) : Type 0 where
  pub source_items : List SnapItem
  pub target_items : List SnapItem
  pub source_is : source ≡ replies.Snaps start.source source_items
  pub target_is : target ≡ replies.Snaps start.target target_items
  pub from_is : id_named source_items ask.from ≡ Some start.from
  pub to_is : id_named source_items ask.to ≡ Some start.to
  pub base_is : id_named target_items ask.from ≡ Some start.base

err_ok : {x : SyncAnswer} {y : SyncStart} → Err x ≡ Ok y → ⊥
err_ok h = cc

start_ok : (a b : SyncStart) (why : SyncAnswer) (older : Bool) → cond older (Ok a) (Err why) ≡ Ok b → a ≡ b
start_ok a b why true is = cc
start_ok a b why false is = absurd (err_ok is)

pub begun_by : (ask : SyncAsk) (source target : Reply) (start : SyncStart) → begun ask source target ≡ Ok start → IsBegunBy ask source target start
begun_by ask (replies.Snaps s ss) (replies.Snaps t ts) start is = by (id_named ss ask.from) (id_named ss ask.to) (id_named ts ask.from) refl refl refl is
  where
    by : (from to base : Option SnapId) → id_named ss ask.from ≡ from → id_named ss ask.to ≡ to → id_named ts ask.from ≡ base → start_by ask s t from to base ≡ Ok start → IsBegunBy ask (replies.Snaps s ss) (replies.Snaps t ts) start
    by None to base f n b is = absurd (err_ok is)
    by (Some from) None base f n b is = absurd (err_ok is)
    by (Some from) (Some to) None f n b is = absurd (err_ok is)
    by (Some from) (Some to) (Some base) f n b is =
        let here : SyncStart = record { source = s; target = t; from = from; to = to; base = base } in
        let same : here ≡ start = start_ok here start _ (nat_lt from.0 to.0) is in
        subst (λ (one : SyncStart). IsBegunBy ask (replies.Snaps s ss) (replies.Snaps t ts) one) same
        (record { source_items = ss; target_items = ts; source_is = refl; target_is = refl; from_is = f; to_is = n; base_is = b })
begun_by ask source target start is = absurd (err_ok is)

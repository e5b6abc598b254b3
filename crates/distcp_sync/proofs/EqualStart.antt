-- What Ok replies about the roots tell of an undisturbed sync: the snapshots of the premises.
use Rattle.std.proofs.Common.{◌≡◌, ℕ, ◌+◌, ◌<◌, ◌≤◌, nat_lt, cond, Bool, true, false, Option, Some, Result, Ok, Err, List, refl, ap, sym, ◌∙◌, arith}
use Rattle.std.proofs.lemmas.Bool.Decides.{nat_tests}
use Rattle.std.specs.Prelude.{◌||◌, ◌&&◌}
use Rattle.hs_types.specs.declared.ids.Side.{Side}
use Rattle.hs_types.specs.declared.ids.InodeId.{InodeId}
use Rattle.hs_types.specs.declared.ids.SnapId.{SnapId}
use Rattle.hs_types.specs.declared.name.SnapItem.{SnapItem}
use Rattle.hs_types.specs.declared.call.Call.TheVariants as calls
use Rattle.hs_types.specs.declared.reply.Reply.{Reply}
use Rattle.hs_types.specs.declared.reply.Reply.TheVariants as replies
use Rattle.hs_plain.specs.declared.state.Member.{Member}
use Rattle.hs_plain.specs.declared.state.State.{State}
use Rattle.hs_plain.specs.State.{member_named, member_with}
use Rattle.hs_plain.specs.Answer.{answer, is_ok_reply, is_plain_reply, is_store_fault, is_modifying, claimed}
use Rattle.hs_plain.specs.Legal.{reach_of}
use Rattle.hs_plain.specs.Reading.{snapshottable_at}
use Rattle.hs_plain.specs.Span.{Stays}
use Rattle.hs_plain.specs.Premises.{SyncAsk, SyncSide, member_at, state_before}
use Rattle.hs_plain.proofs.ValidAsked.{ok_then, same_ok}
use Rattle.sync_laws.specs.Lasting.{IsWithin}
use Rattle.sync_laws.specs.Shown.{ShowsSnaps}
use Rattle.sync_laws.proofs.Snapshots.{named-so, with-from, valid-at}
use Rattle.sync_laws.proofs.RootsStay.{member-lasts}
use Rattle.sync_laws.proofs.Shown.{snaps-shown, snaps-ok}
use Rattle.copy_workers.specs.declared.copied.Look.{Look}
use Rattle.distcp_sync.specs.declared.answer.SyncAnswer.{SyncAnswer}
use Rattle.distcp_sync.specs.declared.answer.SyncAnswer.TheVariants as answers
use Rattle.distcp_sync.specs.declared.start.SyncStart.{SyncStart}
use Rattle.distcp_sync.specs.Told.{id_named, start_by}
use Rattle.distcp_sync.specs.Steps.{SyncSides, side_at, tells_at, state_at, IsHeard}
use Rattle.distcp_sync.proofs.Started.{same-id}

-- ids that rise are begun with
pub rising-begun : (ask : SyncAsk) (start : SyncStart) (one two three : Option SnapId) → one ≡ Some start.from → two ≡ Some start.to → three ≡ Some start.base → start.from.0 < start.to.0 →
    start_by ask start.source start.target one two three ≡ Ok start
rising-begun ask start one two three a b c rising =
    let less : nat_lt start.from.0 start.to.0 ≡ true = grind (arith, nat_tests) in
    ap (λ o. start_by ask start.source start.target o two three) a ∙ ap (λ o. start_by ask start.source start.target (Some start.from) o three) b
    ∙ ap (λ o. start_by ask start.source start.target (Some start.from) (Some start.to) o) c
    ∙ ap (λ t. cond {A = Result SyncStart SyncAnswer} t (Ok start) (Err (answers.NotOlder start.from start.to))) less

-- an Ok reply is the plain machine's
ok-plain : (reply : Reply) → is_ok_reply reply ≡ true → is_plain_reply reply ≡ true
ok-plain (replies.Refused why) e = absurd (cc)
ok-plain replies.NoMemory e = absurd (cc)
ok-plain reply e = refl

-- the snapshots in a reply are told, whether bytes are told or not
snaps-told : (tells : Bool) (reply : Reply) (dir : InodeId) (items : List SnapItem) → claimed tells reply ≡ claimed tells (replies.Snaps dir items) → reply ≡ replies.Snaps dir items
snaps-told true reply dir items e = e
snaps-told false (replies.Snaps one others) dir items e = e
snaps-told false reply dir items e = absurd (cc)

-- a snapshot that a path and a name lead to is there under its id
pub with-id : (side : SyncSide) (look : Look) (path name : List ℕ) (member : Member (List ℕ)) → member_at (state_at side look) path name ≡ Ok member → member_with (state_at side look).members member.snapshot ≡ Ok member
with-id side look path name member at =
    let there = ok_then (snapshottable_at (state_at side look) path) (λ dir. member_named (state_at side look).members dir name) member at in
    let so = named-so (state_at side look).members there.0 name member there.2 in
    with-from (state_at side look).members member (valid-at side.journal look.reply.position).snapshots_rise so.0

-- what an Ok reply about a root tells of a snapshot that was there when the span began, and stays
pub record TellsOf (side : SyncSide) (name : List ℕ) (member : Member (List ℕ)) (look : Look) (items : List SnapItem) : Type 0 where
  pub named : id_named items name ≡ Some member.snapshot
  pub there : member_with (state_at side look).members member.snapshot ≡ Ok member

-- an Ok reply about a root
pub record IsRootReply (side : SyncSide) (path : List ℕ) (look : Look) : Type 0 where
  pub dir : InodeId
  pub items : List SnapItem
  pub reply_is : look.reply.reply ≡ replies.Snaps dir items
  pub tells : (name : List ℕ) (member : Member (List ℕ)) → member_at (state_before side) path name ≡ Ok member → Stays side.journal side.span member.snapshot → TellsOf side name member look items

module _ (sides : SyncSides) (side : Side) (path : List ℕ) (look : Look) (heard : IsHeard sides side (calls.Snaps path) look) (ok : is_ok_reply look.reply.reply ≡ true) where
  -- the state that the reply knows
  abbrev here : State (List ℕ)
  here = state_at (side_at sides side) look

  -- its place is in the span
  within-span : IsWithin (side_at sides side).span look.reply.position
  within-span =
      let up_to : reach_of (calls.Snaps path) look.reply ≤ (side_at sides side).span.high = heard.to in
      let above : look.reply.position ≤ reach_of (calls.Snaps path) look.reply = elim (is_store_fault look.reply.reply || (is_modifying (calls.Snaps path) && is_ok_reply look.reply.reply)) as (λ b. look.reply.position ≤ look.reply.position + cond b 1 0) [ true ↦ omega arith | false ↦ omega arith ] in
      record { from = heard.from; up_to = omega (arith, up_to, above) }

  -- the plain machine's reply
  answered : claimed (tells_at sides side) look.reply.reply ≡ claimed (tells_at sides side) (answer here (calls.Snaps path))
  answered = heard.legal.answered (ok-plain look.reply.reply ok)

  -- the reply, where one of the root's snapshots was there when the span began, and stays
  pub root-replied : (name : List ℕ) (member : Member (List ℕ)) → member_at (state_before (side_at sides side)) path name ≡ Ok member → Stays (side_at sides side).journal (side_at sides side).span member.snapshot →
      IsRootReply (side_at sides side) path look
  root-replied name member was stays =
      let there = ok_then (snapshottable_at here path) (λ dir. member_named here.members dir name) member (member-lasts (side_at sides side).journal (side_at sides side).span look.reply.position path name member within-span stays was) in
      let shown : (items : List SnapItem) × (answer here (calls.Snaps path) ≡ replies.Snaps there.0 items) = snaps-ok here path there.0 there.1 in
      record {
        dir = there.0;
        items = shown.0;
        reply_is = snaps-told (tells_at sides side) look.reply.reply there.0 shown.0 (answered ∙ ap (claimed (tells_at sides side)) shown.1);
        tells = λ other one had lasts.
            let still = member-lasts (side_at sides side).journal (side_at sides side).span look.reply.position path other one within-span lasts had in
            let at = ok_then (snapshottable_at here path) (λ d. member_named here.members d other) one still in
            let shows : ShowsSnaps here path there.0 shown.0 = snaps-shown here path there.0 shown.0 shown.1 in
            record {
              named = same-id shown.0 other ∙ shows.complete other one (ap (λ d. member_named here.members d other) (same_ok (sym there.1 ∙ at.1)) ∙ at.2);
              there = with-id (side_at sides side) look path other one still;
            };
      }

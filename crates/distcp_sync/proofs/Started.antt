-- The first replies of an undisturbed sync that nothing hinders: the snapshots of a root, those of the premises among them.
use Rattle.std.proofs.Common.{◌≡◌, ◌⊎◌, inl, inr, ℕ, cond, Bool, true, false, Option, Some, Ok, List, [], ◌∷◌, refl, ap, sym, ◌∙◌}
use Rattle.std.specs.Prelude.{bytes_eq}
use Rattle.hs_types.specs.declared.ids.Side.{Side}
use Rattle.hs_types.specs.declared.ids.InodeId.{InodeId}
use Rattle.hs_types.specs.declared.ids.SnapId.{SnapId}
use Rattle.hs_types.specs.declared.name.SnapItem.{SnapItem}
use Rattle.hs_types.specs.declared.call.Call.TheVariants as calls
use Rattle.hs_types.specs.declared.reply.Reply.{Reply}
use Rattle.hs_types.specs.declared.reply.Reply.TheVariants as replies
use Rattle.hs_plain.specs.declared.state.Member.{Member}
use Rattle.hs_plain.specs.declared.state.State.{State}
use Rattle.hs_plain.specs.State.{member_named}
use Rattle.hs_plain.specs.Answer.{answer, claimed}
use Rattle.hs_plain.specs.Reading.{snapshottable_at}
use Rattle.hs_plain.specs.Span.{Stays}
use Rattle.hs_plain.specs.Premises.{SyncSide, member_at, state_before}
use Rattle.hs_plain.proofs.ValidAsked.{ok_then, same_ok}
use Rattle.sync_laws.specs.Lasting.{IsWithin}
use Rattle.sync_laws.specs.Shown.{ShowsSnaps}
use Rattle.sync_laws.proofs.RootsStay.{member-lasts}
use Rattle.sync_laws.proofs.Shown.{snaps-shown, snaps-ok}
use Rattle.copy_workers.specs.declared.copied.Look.{Look}
use Rattle.distcp_sync.specs.Told.{id_named}
use Rattle.distcp_sync.specs.Steps.{SyncSides, side_at, tells_at, state_at, IsHeard}
use Rattle.distcp_sync.proofs.Replied.{IsFree, heard-within, heard-plainly}

-- a list of snapshots is told, whether bytes are told or not
snaps-claimed : (tells : Bool) (reply : Reply) (dir : InodeId) (items : List SnapItem) → claimed tells reply ≡ claimed tells (replies.Snaps dir items) → reply ≡ replies.Snaps dir items
snaps-claimed true reply dir items e = e
snaps-claimed false (replies.Snaps one others) dir items e = e
snaps-claimed false reply dir items e = absurd (cc)

-- the first item of a name is the same in both look-ups
pub same-id : (items : List SnapItem) (name : List ℕ) → id_named items name ≡ Rattle.sync_laws.specs.Shown.id_named items name
same-id [] name = refl
same-id (item ∷ items) name = ap (λ (o : Option SnapId). cond (bytes_eq item.name name) (Some item.id) o) (same-id items name)

-- a reply with the snapshots of the directory at a path: each snapshot that was there when the span began, and stays, has its id in it
pub record TellsRoot (side : SyncSide) (path : List ℕ) (look : Look) : Type 0 where
  pub dir : InodeId
  pub items : List SnapItem
  pub reply_is : look.reply.reply ≡ replies.Snaps dir items
  pub leads : snapshottable_at (state_at side look) path ≡ Ok dir
  pub ids : (name : List ℕ) (member : Member (List ℕ)) → member_at (state_before side) path name ≡ Ok member → Stays side.journal side.span member.snapshot → id_named items name ≡ Some member.snapshot

module _ (sides : SyncSides) (side : Side) (path : List ℕ) (look : Look) (heard : IsHeard sides side (calls.Snaps path) look) (free : IsFree (side_at sides side)) where
  abbrev here : State (List ℕ)
  here = state_at (side_at sides side) look

  within-span : IsWithin (side_at sides side).span look.reply.position
  within-span = heard-within sides side (calls.Snaps path) look heard

  -- a snapshot that was there when the span began, and stays
  pub member-here : (name : List ℕ) (member : Member (List ℕ)) → member_at (state_before (side_at sides side)) path name ≡ Ok member → Stays (side_at sides side).journal (side_at sides side).span member.snapshot → member_at here path name ≡ Ok member
  member-here name member was stays = member-lasts (side_at sides side).journal (side_at sides side).span look.reply.position path name member within-span stays was

  -- what the reply tells of it
  pub told-root : (name : List ℕ) (member : Member (List ℕ)) → member_at (state_before (side_at sides side)) path name ≡ Ok member → Stays (side_at sides side).journal (side_at sides side).span member.snapshot →
      TellsRoot (side_at sides side) path look ⊎ (look.reply.reply ≡ replies.NoMemory)
  told-root name member was stays =
      let there = ok_then (snapshottable_at here path) (λ dir. member_named here.members dir name) member (member-here name member was stays) in
      let shown : (items : List SnapItem) × (answer here (calls.Snaps path) ≡ replies.Snaps there.0 items) = snaps-ok here path there.0 there.1 in
      by there.0 there.1 shown.0 shown.1 (heard-plainly sides side (calls.Snaps path) look heard free)
    where
      by : (dir : InodeId) → snapshottable_at here path ≡ Ok dir → (items : List SnapItem) → answer here (calls.Snaps path) ≡ replies.Snaps dir items →
          (claimed (tells_at sides side) look.reply.reply ≡ claimed (tells_at sides side) (answer here (calls.Snaps path))) ⊎ (look.reply.reply ≡ replies.NoMemory) →
          TellsRoot (side_at sides side) path look ⊎ (look.reply.reply ≡ replies.NoMemory)
      by dir leads items is (inr wants) = inr wants
      by dir leads items is (inl same) = inl (record {
        dir = dir;
        items = items;
        reply_is = snaps-claimed (tells_at sides side) look.reply.reply dir items (same ∙ ap (claimed (tells_at sides side)) is);
        leads = leads;
        ids = λ other one had lasts.
            let at = ok_then (snapshottable_at here path) (λ d. member_named here.members d other) one (member-here other one had lasts) in
            let shows : ShowsSnaps here path dir items = snaps-shown here path dir items is in
            same-id items other ∙ shows.complete other one (ap (λ d. member_named here.members d other) (same_ok (sym leads ∙ at.1)) ∙ at.2);
      })

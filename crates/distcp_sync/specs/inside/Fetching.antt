-- What was told of reports and listings, and how the fetching goes on through one link.
use Rattle.std.specs.Prelude.{◌≡◌, ℕ, ◌≤◌, false, List, [], ◌∷◌, ◌++◌, map, length, take, slice_get, Option, Some, None, Result, Ok, Err}
use Rattle.hs_types.specs.Names.{Names}
use Rattle.hs_types.specs.declared.ids.InodeId.{InodeId}
use Rattle.hs_types.specs.declared.ids.Side.{Side}
use Rattle.hs_types.specs.declared.ids.Side.TheVariants.{Source}
use Rattle.hs_types.specs.declared.ids.SnapId.{SnapId}
use Rattle.hs_types.specs.declared.memory.NoMemory.{NoMemory}
use Rattle.hs_types.specs.declared.call.Call.{Call}
use Rattle.hs_types.specs.declared.call.Call.TheVariants as calls
use Rattle.hs_types.specs.declared.call.Place.{Place}
use Rattle.hs_types.specs.declared.call.Place.TheVariants as places
use Rattle.hs_types.specs.declared.call.ReportCursor.{ReportCursor}
use Rattle.hs_types.specs.declared.journal.Entry.{Entry}
use Rattle.hs_types.specs.declared.reply.Answered.{Answered}
use Rattle.hs_types.specs.declared.reply.Item.{Item}
use Rattle.hs_types.specs.declared.reply.Line.{Line}
use Rattle.hs_plain.specs.declared.plan.Listing.{Listing}
use Rattle.hs_plain.specs.Answer.{is_ok_reply}
use Rattle.hs_plain.specs.State.{items_at}
use Rattle.hs_plain.specs.Reading.{is_deleted, lines_between}
use Rattle.hs_plain.specs.Replay.{plain_after}
use Rattle.page_join.specs.Links.{Known, IsCall}
use Rattle.copy_workers.specs.declared.copied.Look.{Look}
use Rattle.distcp_sync.specs.declared.answer.SyncAnswer.{SyncAnswer}
use Rattle.distcp_sync.specs.declared.answer.SyncAnswer.TheVariants as answers
use Rattle.distcp_sync.specs.declared.contents.Content.{Content}
use Rattle.distcp_sync.specs.declared.contents.Content.TheVariants.{Whole, Ended}
use Rattle.distcp_sync.specs.declared.start.SyncStart.{SyncStart}
use Rattle.distcp_sync.specs.Told.{answer_at, OrNoMemory}
use Rattle.distcp_sync.specs.inside.Trace.{HasRead, IsLookedBad}
use Rattle.distcp_sync.specs.inside.Queue.{first_ids, new_ids, AreQueued}

-- ---- what a history had at some place of it

-- these items were listed
pub record WasListed (from : ℕ) (seen : List Entry) (place : Place) (items : List Item) : Type 0 where
  pub at : ℕ
  pub behind : from ≤ at
  pub within : at ≤ length seen
  pub listed : items_at (plain_after (take at seen)) place ≡ Ok items

-- a directory had these names
pub record WasNamed (from : ℕ) (seen : List Entry) (place : Place) (names : Names) : Type 0 where
  pub items : List Item
  pub listed : WasListed from seen place items
  pub names_are : names ≡ map (λ item. item.name) items

-- these were the lines of the report, and neither of its ends was deleted
pub record WasReported (from : ℕ) (seen : List Entry) (cursor : ReportCursor) (lines : List Line) : Type 0 where
  pub at : ℕ
  pub behind : from ≤ at
  pub within : at ≤ length seen
  pub from_there : is_deleted (plain_after (take at seen)) cursor.from ≡ false
  pub to_there : is_deleted (plain_after (take at seen)) cursor.to ≡ false
  pub lines_are : lines ≡ lines_between (plain_after (take at seen)) cursor.root cursor.from cursor.to

-- ---- calls for pages

-- the cursor of a report that begins
abbrev pub begin_report : SyncStart → ReportCursor
begin_report start = record { root = start.source; from = start.from; to = start.to; tick = None; index = 0 }

-- a call for a page of the same report
pub record IsReportCall (begun : ReportCursor) (page : ℕ) (call : Call) : Type 0 where
  pub cursor : ReportCursor
  pub root : cursor.root ≡ begun.root
  pub from : cursor.from ≡ begun.from
  pub to : cursor.to ≡ begun.to
  pub call_is : call ≡ calls.ReportNext cursor page

-- a call for a page of a listing
pub record IsListCall (place : Place) (page : ℕ) (call : Call) : Type 0 where
  pub after : Option (List ℕ)
  pub call_is : call ≡ calls.ListNext (record { place = place; after = after }) page

-- ---- what was read through one link

-- a content was told, or memory ran out behind calls without an entry, or behind them a reply came that is no page
pub data IsRead {T : Type 0} (IsAsked : Call → Type 0) (IsContent : List T → Type 0) (old new : Known) : Result (Content T) NoMemory → Type 0 where
  whole : (content : List T) → HasRead old new → IsContent content → IsRead IsAsked IsContent old new (Ok (Whole content))
  wanting : (none : NoMemory) → HasRead old new → IsRead IsAsked IsContent old new (Err none)
  ended : (call : Call) (told : Answered) (now : Known) → HasRead old now → IsAsked call → IsCall now new call told → is_ok_reply told.reply ≡ false → IsRead IsAsked IsContent old new (Ok (Ended told))

-- the same, where the reply is kept and ends a sync
pub data IsGot {T : Type 0} (side : Side) (IsAsked : Call → Type 0) (IsContent : T → Type 0) (old new : Known) : List Look → Result T SyncAnswer → Type 0 where
  whole : (content : T) → HasRead old new → IsContent content → IsGot side IsAsked IsContent old new [] (Ok content)
  wanting : HasRead old new → IsGot side IsAsked IsContent old new [] (Err answers.NoMemory)
  ended : (call : Call) (look : Look) (now : Known) (answer : SyncAnswer) → HasRead old now → IsAsked call → IsLookedBad side now new call look → OrNoMemory (answer_at look) answer → IsGot side IsAsked IsContent old new (look ∷ []) (Err answer)

-- the reply that ends it is put behind the looks
pub record IsGotWith {T : Type 0} (side : Side) (IsAsked : Call → Type 0) (IsContent : T → Type 0) (old new : Known) (before after : List Look) (result : Result T SyncAnswer) : Type 0 where
  pub later : List Look
  pub looks : after ≡ before ++ later
  pub got : IsGot side IsAsked IsContent old new later result

-- ---- listings, one after the other

-- from a queue of directories some were listed, and these still wait
abbrev pub AreUnderWay : (InodeId → List Item → Type 0) → List Line → List InodeId → List Listing → List InodeId → Type 0
AreUnderWay Shows lines ids [] rest = rest ≡ ids
AreUnderWay Shows lines [] (one ∷ listings) rest = ⊥
AreUnderWay Shows lines (id ∷ ids) (one ∷ listings) rest = (one.dir ≡ id) × Shows id one.items × AreUnderWay Shows lines (ids ++ new_ids lines one.items) listings rest

-- the items of a directory of a snapshot
abbrev pub WasShown : ℕ → List Entry → SnapId → InodeId → List Item → Type 0
WasShown from seen snapshot id items = WasListed from seen (places.Frozen id snapshot) items

-- a directory was listed, and what is new in it waits behind the others
pub record IsNextListing (from : ℕ) (seen : List Entry) (snapshot : SnapId) (lines : List Line) (dir : InodeId) (ids ids_then : List InodeId) (listings listings_then : List Listing) (done : Unit {0}) : Type 0 where
  pub items : List Item
  pub shown : WasShown from seen snapshot dir items
  pub waiting : ids_then ≡ ids ++ new_ids lines items
  pub listed : listings_then ≡ listings ++ record { dir = dir; items = items } ∷ []

-- the next directory that waits was listed, or it ended the fetching
abbrev pub IsNextListed : SnapId → ℕ → List Line → Known → Known → List InodeId → List InodeId → List Listing → List Listing → List Look → List Look → Result (Unit {0}) SyncAnswer → Type 0
IsNextListed snapshot page lines old new ids ids_then listings listings_then before after result = (dir : InodeId) → slice_get ids (length listings) ≡ Some dir →
    IsGotWith Source (IsListCall (places.Frozen dir snapshot) page) (IsNextListing (length old.seen) new.seen snapshot lines dir ids ids_then listings listings_then) old new before after result

-- a call for items of a directory that waits behind others that were listed
pub record IsQueueCall (from : ℕ) (seen : List Entry) (snapshot : SnapId) (page : ℕ) (lines : List Line) (call : Call) : Type 0 where
  pub listings : List Listing
  pub dir : InodeId
  pub rest : List InodeId
  pub under_way : AreUnderWay (WasShown from seen snapshot) lines (first_ids lines) listings (dir ∷ rest)
  pub asks : IsListCall (places.Frozen dir snapshot) page call

-- all that wait were listed
abbrev pub AreAllListed : ℕ → List Entry → SnapId → List Line → List Listing → Type 0
AreAllListed from seen snapshot lines listings = AreQueued (WasShown from seen snapshot) lines (first_ids lines) listings

-- What the pages that a link asked for are together.
use Rattle.std.specs.Prelude.{◌≡◌, ℕ, true, false, List, [], Option, drop, Ok}
use Rattle.hs_types.specs.declared.call.Call.{Call}
use Rattle.hs_types.specs.declared.call.Call.TheVariants as calls
use Rattle.hs_types.specs.declared.call.Place.TheVariants as places
use Rattle.hs_types.specs.declared.call.ReportCursor.{ReportCursor}
use Rattle.hs_types.specs.declared.ids.InodeId.{InodeId}
use Rattle.hs_types.specs.declared.ids.SnapId.{SnapId}
use Rattle.hs_types.specs.declared.reply.Answered.{Answered}
use Rattle.hs_plain.specs.Reading.{lines_between}
use Rattle.hs_plain.specs.Joined.{AreJoined, known_state, is_page, is_report, is_bytes, lines_shown}
use Rattle.hs_plain.specs.JoinedPages.{listed_at, read_at, reported_at, gone_or_moved, IsJoinedListing, IsJoinedFile}
use Rattle.page_join.specs.declared.starts.ListStart.{ListStart}
use Rattle.page_join.specs.declared.starts.ListStart.TheVariants as list
use Rattle.page_join.specs.declared.starts.ReportStart.{ReportStart}
use Rattle.page_join.specs.declared.starts.ReportStart.TheVariants as report
use Rattle.page_join.specs.declared.starts.ReadStart.{ReadStart}
use Rattle.page_join.specs.declared.starts.ReadStart.TheVariants as read
use Rattle.page_join.specs.declared.paging.Paging.TheVariants.{Items, Lines, Bytes}
use Rattle.page_join.specs.Links.{Known}
use Rattle.page_join.specs.Paging.{ArePages}

-- ---- the first calls

abbrev pub list_call : ListStart → ℕ → Call
list_call (list.At path) size = calls.List path size
list_call (list.Next cursor) size = calls.ListNext cursor size

abbrev pub report_call : ReportStart → ℕ → Call
report_call (report.At path from to) size = calls.Report path from to size
report_call (report.Next cursor) size = calls.ReportNext cursor size

-- a file is read from its first byte on, in pages of 65,536 bytes
abbrev pub read_call : ReadStart → Call
read_call (read.At path) = calls.Read path 0 65536
read_call (read.Next cursor) = calls.ReadNext cursor 65536

-- ---- one content

-- pages of a listing; those of a frozen directory join to its listing in the copied tree, from the start's name on, or the last
-- reply is Gone or NoMemory; a first reply that is no page stands alone
pub record AreListed (old new : Known) (start : ListStart) (size : ℕ) (replies : List Answered) : Type 0 where
  pub pages : ArePages (Items size) old new (list_call start size) replies
  pub alone : is_page pages.first.told.reply ≡ false → pages.more ≡ []
  pub joined : (id : InodeId) (snapshot : SnapId) (after : Option (List ℕ)) →
      listed_at (known_state new.seen pages.first) (list_call start size) ≡ Ok (places.Frozen id snapshot, after) →
      is_page pages.first.told.reply ≡ true →
      IsJoinedListing (known_state new.seen pages.first) (places.Frozen id snapshot) after pages.first pages.more

-- pages of a report; they join to the report at the first page, from the start's line on, or the last reply is Gone or NoMemory, or
-- Moved where an end is the current state; a first reply that is no page stands alone
pub record AreReported (old new : Known) (start : ReportStart) (size : ℕ) (replies : List Answered) : Type 0 where
  pub pages : ArePages (Lines size) old new (report_call start size) replies
  pub alone : is_report pages.first.told.reply ≡ false → pages.more ≡ []
  pub joined : (begun : ReportCursor) →
      reported_at (known_state new.seen pages.first) (report_call start size) ≡ Ok begun →
      is_report pages.first.told.reply ≡ true →
      AreJoined (λ said. lines_shown said.told.reply) (λ said. gone_or_moved begun said.told.reply) pages.first pages.more (drop begun.index (lines_between (known_state new.seen pages.first) begun.root begun.from begun.to))

-- pages of a file; those of a frozen file join to its bytes, from the start's offset on, or the last reply is Gone, StoreFault,
-- JournalFull or NoMemory; over a store that doesn't tell its bytes there are as many; a first reply that is no page stands alone
pub record AreRead (old new : Known) (start : ReadStart) (replies : List Answered) : Type 0 where
  pub pages : ArePages Bytes old new (read_call start) replies
  pub alone : is_bytes pages.first.told.reply ≡ false → pages.more ≡ []
  pub joined : (id : InodeId) (snapshot : SnapId) (offset : ℕ) →
      read_at (known_state new.seen pages.first) (read_call start) ≡ Ok (places.Frozen id snapshot, offset) →
      is_bytes pages.first.told.reply ≡ true →
      IsJoinedFile old.tells (known_state new.seen pages.first) (places.Frozen id snapshot) offset pages.first pages.more

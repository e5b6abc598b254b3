-- Pages of frozen directories and files and of reports, whatever entries come between them, join to one content.
use Rattle.std.specs.Prelude.{◌≡◌, ℕ, ◌≤◌, Bool, true, ◌&&◌, ◌||◌, ◌==◌, List, ◌∷◌, drop, Option, None, Ok, Err}
use Rattle.hs_types.specs.Paths.{path_of}
use Rattle.hs_types.specs.declared.ids.CallerId.{CallerId}
use Rattle.hs_types.specs.declared.ids.InodeId.{InodeId}
use Rattle.hs_types.specs.declared.ids.SnapId.{SnapId}
use Rattle.hs_types.specs.declared.call.Call.{Call}
use Rattle.hs_types.specs.declared.call.Call.TheVariants as calls
use Rattle.hs_types.specs.declared.call.ListCursor.{ListCursor}
use Rattle.hs_types.specs.declared.call.ReadCursor.{ReadCursor}
use Rattle.hs_types.specs.declared.call.ReportCursor.{ReportCursor}
use Rattle.hs_types.specs.declared.call.Place.{Place}
use Rattle.hs_types.specs.declared.call.Place.TheVariants as places
use Rattle.hs_types.specs.declared.journal.Entry.{Entry}
use Rattle.hs_types.specs.declared.refusal.Refusal.TheVariants.{NotFound}
use Rattle.hs_types.specs.declared.reply.Item.{Item}
use Rattle.hs_types.specs.declared.reply.Reply.{Reply}
use Rattle.hs_plain.specs.declared.state.State.{State}
use Rattle.hs_plain.specs.Asked.{Asked, ◌>>=◌}
use Rattle.hs_plain.specs.State.{resolve, items_at}
use Rattle.hs_plain.specs.Pages.{items_behind}
use Rattle.hs_plain.specs.Reading.{file_at, snapshottable_at, point_id, lines_between}
use Rattle.hs_plain.specs.Legal.{Said, AreAnswered}
use Rattle.hs_plain.specs.Joined.{AreFurtherPages, AreJoined, known_state, items_shown, list_cursor, is_page, bytes_shown, read_cursor, is_bytes, lines_shown, report_cursor, is_report, is_moved_reply, gone_or_no_memory, gone_or_failed, claimed_bytes}

-- how many items or lines a call asks for
abbrev pub page_size : Call → ℕ
page_size (calls.List path size) = size
page_size (calls.ListNext cursor size) = size
page_size (calls.Report path from to size) = size
page_size (calls.ReportNext cursor size) = size
page_size call = 0

-- how many bytes a call asks for
abbrev pub read_length : Call → ℕ
read_length (calls.Read path offset len) = len
read_length (calls.ReadNext cursor len) = len
read_length call = 0

-- ---- listings

-- what a call lists, and behind which name
abbrev pub listed_at : {B : Type 0} → State B → Call → Asked (Place × Option (List ℕ))
listed_at state (calls.List text size) = do
  path ← path_of text
  place ← resolve state path
  Ok (place, None)
listed_at state (calls.ListNext cursor size) = Ok (cursor.place, cursor.after)
listed_at state call = Err NotFound

-- the call asks for the next page of a listing, of whatever size but 0
pub record GoesOnList (said : Said) (cursor : ListCursor) : Type 0 where
  pub call : said.call ≡ calls.ListNext cursor (page_size said.call)
  pub above : 1 ≤ page_size said.call

-- the pages join to what is listed behind the first call's name, or the last reply is Gone or NoMemory
pub record IsJoinedListing {B : Type 0} (state : State B) (place : Place) (after : Option (List ℕ)) (first : Said) (more : List Said) : Type 0 where
  pub items : List Item
  pub listed : items_at state place ≡ Ok items
  pub joined : AreJoined (λ said. items_shown said.told.reply) (λ said. gone_or_no_memory said.told.reply) first more (items_behind after items)

-- the pages of a frozen directory, from a path or a cursor on
abbrev pub ListingsJoin : Type 0
ListingsJoin = (tells : Bool) (limit : ℕ) (journal : List Entry) (caller : CallerId) (first : Said) (more : List Said) (id : InodeId) (snapshot : SnapId) (after : Option (List ℕ)) →
    AreAnswered tells limit journal caller (first ∷ more) →
    1 ≤ page_size first.call →
    AreFurtherPages GoesOnList (λ said. list_cursor said.told.reply) first more →
    listed_at (known_state journal first) first.call ≡ Ok (places.Frozen id snapshot, after) →
    is_page first.told.reply ≡ true →
    IsJoinedListing (known_state journal first) (places.Frozen id snapshot) after first more

-- ---- files

-- what a call reads, and from which byte on
abbrev pub read_at : {B : Type 0} → State B → Call → Asked (Place × ℕ)
read_at state (calls.Read text offset len) = do
  path ← path_of text
  place ← resolve state path
  Ok (place, offset)
read_at state (calls.ReadNext cursor len) = Ok (cursor.place, cursor.offset)
read_at state call = Err NotFound

-- the call asks for the next page of a file
abbrev pub GoesOnRead : Said → ReadCursor → Type 0
GoesOnRead said cursor = said.call ≡ calls.ReadNext cursor (read_length said.call)

-- the pages join to the file's bytes from an offset on, or the last reply is Gone, StoreFault, JournalFull or NoMemory
pub record IsJoinedFile (tells : Bool) (state : State (List ℕ)) (place : Place) (offset : ℕ) (first : Said) (more : List Said) : Type 0 where
  pub bytes : List ℕ
  pub file : file_at state place ≡ Ok bytes
  pub joined : AreJoined (λ said. claimed_bytes tells (bytes_shown said.told.reply)) (λ said. gone_or_failed said.told.reply) first more (drop offset (claimed_bytes tells bytes))

-- the pages of a frozen file, from a path or a cursor on; over a store that doesn't tell its bytes there are as many
abbrev pub FilesJoin : Type 0
FilesJoin = (tells : Bool) (limit : ℕ) (journal : List Entry) (caller : CallerId) (first : Said) (more : List Said) (id : InodeId) (snapshot : SnapId) (offset : ℕ) →
    AreAnswered tells limit journal caller (first ∷ more) →
    AreFurtherPages GoesOnRead (λ said. read_cursor said.told.reply) first more →
    read_at (known_state journal first) first.call ≡ Ok (places.Frozen id snapshot, offset) →
    is_bytes first.told.reply ≡ true →
    IsJoinedFile tells (known_state journal first) (places.Frozen id snapshot) offset first more

-- ---- reports

-- the report that a call asks for, and from which line on
abbrev pub reported_at : {B : Type 0} → State B → Call → Asked ReportCursor
reported_at state (calls.Report text from to size) = do
  root ← snapshottable_at state text
  first ← point_id state root from
  last ← point_id state root to
  Ok (record { root = root; from = first; to = last; tick = None; index = 0 })
reported_at state (calls.ReportNext cursor size) = Ok cursor
reported_at state call = Err NotFound

-- the call asks for the next page of a report
abbrev pub GoesOnReport : Said → ReportCursor → Type 0
GoesOnReport said cursor = said.call ≡ calls.ReportNext cursor (page_size said.call)

-- whether an end of a report is the current state
abbrev pub has_now : ReportCursor → Bool
has_now cursor = cursor.from.0 == 0 || cursor.to.0 == 0

-- Gone or NoMemory, or Moved where an end is the current state
abbrev pub gone_or_moved : ReportCursor → Reply → Bool
gone_or_moved begun reply = gone_or_no_memory reply || (has_now begun && is_moved_reply reply)

-- the pages of a report, from a path or a cursor on, join to the report at the first page, or the last reply is Gone or NoMemory,
-- or Moved where an end is the current state
abbrev pub ReportsJoin : Type 0
ReportsJoin = (tells : Bool) (limit : ℕ) (journal : List Entry) (caller : CallerId) (first : Said) (more : List Said) (begun : ReportCursor) →
    AreAnswered tells limit journal caller (first ∷ more) →
    AreFurtherPages GoesOnReport (λ said. report_cursor said.told.reply) first more →
    reported_at (known_state journal first) first.call ≡ Ok begun →
    is_report first.told.reply ≡ true →
    AreJoined (λ said. lines_shown said.told.reply) (λ said. gone_or_moved begun said.told.reply) first more (drop begun.index (lines_between (known_state journal first) begun.root begun.from begun.to))

-- Pages, one after another, of one content.
use Rattle.std.specs.Prelude.{◌≡◌, ◌⊎◌, ℕ, Bool, true, false, ◌||◌, if◌then◌else◌, List, [], ◌∷◌, ◌++◌, take, Option, Some, None}
use Rattle.std.specs.List.{flat_map}
use Rattle.hs_types.specs.declared.journal.Entry.{Entry}
use Rattle.hs_types.specs.declared.call.ListCursor.{ListCursor}
use Rattle.hs_types.specs.declared.call.ReadCursor.{ReadCursor}
use Rattle.hs_types.specs.declared.call.ReportCursor.{ReportCursor}
use Rattle.hs_types.specs.declared.refusal.Refusal.TheVariants.{Gone, Moved}
use Rattle.hs_types.specs.declared.reply.Item.{Item}
use Rattle.hs_types.specs.declared.reply.Line.{Line}
use Rattle.hs_types.specs.declared.reply.Reply.{Reply}
use Rattle.hs_types.specs.declared.reply.Reply.TheVariants as replies
use Rattle.hs_plain.specs.declared.state.State.{State}
use Rattle.hs_plain.specs.Answer.{blank, is_store_fault, is_journal_full}
use Rattle.hs_plain.specs.Replay.{plain_after}
use Rattle.hs_plain.specs.Legal.{Said}

-- ---- pages that join

-- a page goes on at a cursor, if there is one
abbrev pub Follows : {C S : Type 0} → (S → C → Type 0) → Option C → S → Type 0
Follows goes_on None page = ⊥
Follows goes_on (Some cursor) page = goes_on page cursor

-- each further page goes on at the cursor of the page before, and the last page has none
abbrev pub AreFurtherPages : {C S : Type 0} → (S → C → Type 0) → (S → Option C) → S → List S → Type 0
AreFurtherPages goes_on cursor_in first [] = cursor_in first ≡ None
AreFurtherPages goes_on cursor_in first (page ∷ more) = Follows goes_on (cursor_in first) page × AreFurtherPages goes_on cursor_in page more

abbrev pub last_page : {S : Type 0} → S → List S → S
last_page first [] = first
last_page first (page ∷ more) = last_page page more

-- the pages are the whole, or the front of it and the last one says why
pub record AreJoined {X S : Type 0} (shown : S → List X) (is_cut_short : S → Bool) (first : S) (more : List S) (whole : List X) : Type 0 where
  pub rest : List X
  pub front : flat_map shown (first ∷ more) ++ rest ≡ whole
  pub ended : (rest ≡ []) ⊎ (is_cut_short (last_page first more) ≡ true)

-- ---- what a reply shows

abbrev pub items_shown : Reply → List Item
items_shown (replies.Page items next) = items
items_shown reply = []

abbrev pub list_cursor : Reply → Option ListCursor
list_cursor (replies.Page items next) = next
list_cursor reply = None

abbrev pub is_page : Reply → Bool
is_page (replies.Page items next) = true
is_page reply = false

abbrev pub bytes_shown : Reply → List ℕ
bytes_shown (replies.Bytes bytes next) = bytes
bytes_shown reply = []

abbrev pub read_cursor : Reply → Option ReadCursor
read_cursor (replies.Bytes bytes next) = next
read_cursor reply = None

abbrev pub is_bytes : Reply → Bool
is_bytes (replies.Bytes bytes next) = true
is_bytes reply = false

abbrev pub lines_shown : Reply → List Line
lines_shown (replies.Report lines next) = lines
lines_shown reply = []

abbrev pub report_cursor : Reply → Option ReportCursor
report_cursor (replies.Report lines next) = next
report_cursor reply = None

abbrev pub is_report : Reply → Bool
is_report (replies.Report lines next) = true
is_report reply = false

-- ---- why pages end early

abbrev pub is_gone_reply : Reply → Bool
is_gone_reply (replies.Refused Gone) = true
is_gone_reply reply = false

abbrev pub is_moved_reply : Reply → Bool
is_moved_reply (replies.Refused (Moved began now)) = true
is_moved_reply reply = false

abbrev pub is_no_memory : Reply → Bool
is_no_memory replies.NoMemory = true
is_no_memory reply = false

abbrev pub gone_or_no_memory : Reply → Bool
gone_or_no_memory reply = is_gone_reply reply || is_no_memory reply

-- Gone, StoreFault, JournalFull or NoMemory
abbrev pub gone_or_failed : Reply → Bool
gone_or_failed reply = gone_or_no_memory reply || is_store_fault reply || is_journal_full reply

-- what is claimed of bytes: over a store that doesn't tell them how many there are
abbrev pub claimed_bytes : Bool → List ℕ → List ℕ
claimed_bytes tells bytes = if tells then bytes else blank bytes

-- the state that an answer knows
abbrev pub known_state : List Entry → Said → State (List ℕ)
known_state journal said = plain_after (take said.told.position journal)

-- The calls of a line of a script, and the cursors that a client keeps.
use Rattle.std.specs.Prelude.{◌≡◌, ℕ, Bool, true, false, ◌&&◌, if◌then◌else◌, List, [], ◌∷◌, Option, Some, None}
use Rattle.hs_types.specs.declared.ids.Side.{Side}
use Rattle.hs_types.specs.declared.ids.Side.TheVariants.{Source, Target}
use Rattle.hs_types.specs.declared.call.Call.{Call}
use Rattle.hs_types.specs.declared.call.Call.TheVariants as calls
use Rattle.hs_types.specs.declared.reply.Reply.{Reply}
use Rattle.hs_plain.specs.Legal.{Said}
use Rattle.hs_plain.specs.Joined.{list_cursor, read_cursor, report_cursor}
use Rattle.script_text.specs.declared.command.Command.{Command}
use Rattle.script_text.specs.declared.command.Command.TheVariants as commands
use Rattle.script_text.specs.declared.command.Pages.{Pages}
use Rattle.script_text.specs.declared.command.Pages.TheVariants as pages
use Rattle.script_text.specs.declared.command.PagesKind.{PagesKind}
use Rattle.script_text.specs.declared.command.PagesKind.TheVariants as kinds

-- ---- pages

-- the call for the first page; a page of a file has 65,536 bytes, and the others so many entries
abbrev pub first_call : ℕ → Pages → Call
first_call page (pages.File path) = calls.Read path 0 65536
first_call page (pages.Listing path) = calls.List path page
first_call page (pages.Report path from to) = calls.Report path from to page

-- the call that goes on at a cursor, if there is one
abbrev pub at_cursor : {C : Type 0} → (C → Call) → Option C → Option Call
at_cursor goes_on None = None
at_cursor goes_on (Some cursor) = Some (goes_on cursor)

-- the call for the page behind a reply, where the reply has a cursor
abbrev pub items_behind : ℕ → Reply → Option Call
items_behind page reply = at_cursor (λ cursor. calls.ListNext cursor page) (list_cursor reply)

abbrev pub lines_behind : ℕ → Reply → Option Call
lines_behind page reply = at_cursor (λ cursor. calls.ReportNext cursor page) (report_cursor reply)

abbrev pub bytes_behind : Reply → Option Call
bytes_behind reply = at_cursor (λ cursor. calls.ReadNext cursor 65536) (read_cursor reply)

abbrev pub behind : ℕ → Pages → Reply → Option Call
behind page (pages.File path) reply = bytes_behind reply
behind page (pages.Listing path) reply = items_behind page reply
behind page (pages.Report path from to) reply = lines_behind page reply

-- these calls were made and no other: the first is given, and each further one asks for the page behind the reply before
abbrev pub AreAllPages : (Reply → Option Call) → Option Call → List Said → Type 0
AreAllPages behind_it next [] = next ≡ None
AreAllPages behind_it next (said ∷ more) = (next ≡ Some said.call) × AreAllPages behind_it (behind_it said.told.reply) more

-- just this call was made, or none where there is none
abbrev pub IsOne : Option Call → List Said → Type 0
IsOne next [] = next ≡ None
IsOne next (said ∷ []) = next ≡ Some said.call
IsOne next (said ∷ other ∷ more) = ⊥

-- ---- kept cursors

-- for each side and kind the call that `more` would make
abbrev pub Kept : Type 0
Kept = Side → PagesKind → Option Call

abbrev pub none_kept : Kept
none_kept side kind = None

abbrev pub same_side : Side → Side → Bool
same_side Source Source = true
same_side Target Target = true
same_side a b = false

abbrev pub same_kind : PagesKind → PagesKind → Bool
same_kind kinds.Listing kinds.Listing = true
same_kind kinds.Report kinds.Report = true
same_kind a b = false

abbrev pub keep : Kept → Side → PagesKind → Option Call → Kept
keep kept side kind next = λ s k. if same_side s side && same_kind k kind then next else kept s k

-- a file has no kept cursor
abbrev pub keep_of : Kept → Side → Pages → Option Call → Kept
keep_of kept side (pages.File path) next = kept
keep_of kept side (pages.Listing path) next = keep kept side kinds.Listing next
keep_of kept side (pages.Report path from to) next = keep kept side kinds.Report next

abbrev pub behind_kept : ℕ → PagesKind → Reply → Option Call
behind_kept page kinds.Listing reply = items_behind page reply
behind_kept page kinds.Report reply = lines_behind page reply

-- the call behind the one reply of a line, if it has one
abbrev pub behind_one : (Reply → Option Call) → List Said → Option Call
behind_one behind_it [] = None
behind_one behind_it (said ∷ more) = behind_it said.told.reply

-- the cursors that are kept after a command
abbrev pub kept_by : ℕ → Kept → Command → List Said → Kept
kept_by page kept (commands.Call side call) said = kept
kept_by page kept (commands.All side what) said = kept
kept_by page kept (commands.First side what) said = keep_of kept side what (behind_one (behind page what) said)
kept_by page kept (commands.More side kind) said = keep kept side kind (behind_one (behind_kept page kind) said)
kept_by page kept (commands.Sync source target from to) said = kept

-- ---- a command

-- what a command's calls were and what they were told; the calls of a sync are its own
abbrev pub AreOf : ℕ → Kept → Command → List Said → Type 0
AreOf page kept (commands.Call side call) said = IsOne (Some call) said
AreOf page kept (commands.All side what) said = AreAllPages (behind page what) (Some (first_call page what)) said
AreOf page kept (commands.First side what) said = IsOne (Some (first_call page what)) said
AreOf page kept (commands.More side kind) said = IsOne (kept side kind) said
AreOf page kept (commands.Sync source target from to) said = said ≡ []

-- the namenode that a command's calls go to; those of a sync go to both
abbrev pub side_of : Command → Option Side
side_of (commands.Call side call) = Some side
side_of (commands.All side what) = Some side
side_of (commands.First side what) = Some side
side_of (commands.More side kind) = Some side
side_of (commands.Sync source target from to) = None

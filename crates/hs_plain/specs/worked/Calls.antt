-- Worked examples: calls that one client makes one after the other, and what each is answered.
use Rattle.std.specs.Prelude.{◌≡◌, ℕ, ◌+◌, true, false, if◌then◌else◌, List, [], ◌∷◌, ◌++◌, length, Option, None}
use Rattle.hs_types.specs.Names.{Names}
use Rattle.hs_types.specs.declared.call.Call.{Call}
use Rattle.hs_types.specs.declared.reply.Reply.{Reply}
use Rattle.hs_types.specs.declared.reply.Reply.TheVariants as replies
use Rattle.hs_types.specs.declared.reply.Item.{Item}
use Rattle.hs_types.specs.declared.reply.Line.{Line}
use Rattle.hs_types.specs.declared.reply.LineKind.{LineKind}
use Rattle.hs_types.specs.declared.journal.Entry.{Entry}
use Rattle.hs_plain.specs.Answer.{answer}
use Rattle.hs_plain.specs.Replay.{plain_after, is_proper}
use Rattle.hs_plain.specs.Legal.{leaves_entry, entry_of}

-- ---- calls in turn

-- the entry that a call leaves, if it leaves one
abbrev pub left_by : ℕ → Call → Reply → List Entry
left_by number call reply = if leaves_entry call reply then entry_of (record { 0 = 0 }) number call reply ∷ [] else []

-- a journal with what a call leaves at its end
abbrev pub behind : List Entry → ℕ → Call → List Entry
behind journal number call = journal ++ left_by number call (answer (plain_after journal) call)

-- the journal after these calls, numbered from `number` on
abbrev pub journal_from : List Entry → ℕ → List Call → List Entry
journal_from journal number [] = journal
journal_from journal number (call ∷ calls) = journal_from (behind journal number call) (number + 1) calls

-- the journal of a namenode that was asked these calls alone
abbrev pub journal_of : List Call → List Entry
journal_of calls = journal_from [] 1 calls

-- a reply, with the number of entries before it
abbrev pub Told : Type 0
Told = ℕ × Reply

-- what each of these calls is told, each at the end of the journal
abbrev pub told_from : List Entry → ℕ → List Call → List Told
told_from journal number [] = []
told_from journal number (call ∷ calls) = (length journal, answer (plain_after journal) call) ∷ told_from (behind journal number call) (number + 1) calls

-- these calls are told this, and their journal is one that a namenode may have
pub record AreTold (calls : List Call) (told : List Told) : Type 0 where
  pub told_so : told_from [] 1 calls ≡ told
  pub proper : is_proper (journal_of calls) ≡ true

-- ---- replies in short

abbrev pub made_node : ℕ → Reply
made_node id = replies.Made (record { 0 = id })

abbrev pub made_snapshot : ℕ → Reply
made_snapshot id = replies.SnapMade (record { 0 = id })

abbrev pub listed_dir : ℕ → List ℕ → Item
listed_dir id name = record { name = name; id = record { 0 = id }; is_dir = true }

abbrev pub listed_file : ℕ → List ℕ → Item
listed_file id name = record { name = name; id = record { 0 = id }; is_dir = false }

abbrev pub whole_page : List Item → Reply
whole_page items = replies.Page items None

abbrev pub whole_bytes : List ℕ → Reply
whole_bytes text = replies.Bytes text None

abbrev pub whole_report : List Line → Reply
whole_report lines = replies.Report lines None

-- a line of a directory
abbrev pub reported_dir : LineKind → Names → Option Names → ℕ → Line
reported_dir kind path to id = record { kind = kind; path = path; to = to; id = record { 0 = id }; is_dir = true }

-- a line of a file
abbrev pub reported_file : LineKind → Names → Option Names → ℕ → Line
reported_file kind path to id = record { kind = kind; path = path; to = to; id = record { 0 = id }; is_dir = false }

-- The text of a run: what each section did, then both journals, then both live trees.
use Rattle.std.specs.Prelude.{ℕ, ◌+◌, if◌then◌else◌, List, [], ◌∷◌, ◌++◌, length, map, Option, Some, None, codes}
use Rattle.std.specs.List.{flat_map}
use Rattle.std.specs.Fmt.{decimal}
use Rattle.hs_types.specs.declared.ids.Side.{Side}
use Rattle.hs_types.specs.declared.ids.Side.TheVariants.{Source, Target}
use Rattle.hs_types.specs.declared.journal.EntryKind.{EntryKind}
use Rattle.hs_types.specs.declared.journal.EntryKind.TheVariants.{Accepted, Faulted}
use Rattle.hs_types.specs.declared.journal.Entry.{Entry}
use Rattle.hs_types.specs.declared.shown.TreeLine.{TreeLine}
use Rattle.script_text.specs.declared.script.Section.{Section}
use Rattle.script_text.specs.declared.script.Section.TheVariants.{Setup, Client, Finish}
use Rattle.run_output.specs.declared.ran.Ran.{Ran}
use Rattle.run_output.specs.declared.ran.ClientLog.{ClientLog}
use Rattle.run_output.specs.declared.ran.LogItem.{LogItem}
use Rattle.run_output.specs.declared.ran.LogWhat.{LogWhat}
use Rattle.run_output.specs.declared.ran.LogWhat.TheVariants.{Replies, NoCursor, Synced}
use Rattle.run_output.specs.TextParts.{spaced, ended, escaped, mode_text}
use Rattle.run_output.specs.CallText.{call_text}
use Rattle.run_output.specs.ReplyText.{side_word, answered_lines}
use Rattle.run_output.specs.SyncText.{sync_line}

-- what the command on a line of the script did
abbrev pub did_lines : ℕ → LogWhat → List (List ℕ)
did_lines line (Replies side list) = flat_map (answered_lines line side) list
did_lines line (NoCursor side) = spaced (decimal line ∷ side_word side ∷ codes "no cursor" ∷ []) ∷ []
did_lines line (Synced report) = sync_line line report.answer ∷ []

-- what one command did
abbrev pub item_lines : LogItem → List (List ℕ)
item_lines item = did_lines item.line item.what

-- what a section of a script begins with
abbrev pub heading : Section → List ℕ
heading Setup = codes "setup"
heading (Client number) = spaced (codes "client" ∷ decimal number ∷ [])
heading Finish = codes "finish"

-- a section of the script, and what its commands did
abbrev pub log_lines : ClientLog → List (List ℕ)
log_lines log = heading log.section ∷ flat_map item_lines log.items

-- the title of a part of the text, with how many lines follow
abbrev pub title : List ℕ → Side → ℕ → List ℕ
title part side count = spaced (part ∷ side_word side ∷ decimal count ∷ [])

-- the number of an entry among its caller's calls
abbrev pub caller_text : Entry → List ℕ
caller_text entry = decimal entry.caller.0 ++ codes "." ++ decimal entry.seq

-- a call that met a fault of the store is marked
abbrev pub marked : EntryKind → List ℕ → List ℕ
marked Accepted call = call
marked Faulted call = spaced (codes "fault" ∷ call ∷ [])

-- an entry of a journal, with its index
abbrev pub entry_line : ℕ → Entry → List ℕ
entry_line index entry = spaced (decimal index ∷ caller_text entry ∷ marked entry.kind (call_text entry.call) ∷ [])

-- the entries, numbered from an index on
abbrev pub entry_lines : ℕ → List Entry → List (List ℕ)
entry_lines index [] = []
entry_lines index (entry ∷ entries) = entry_line index entry ∷ entry_lines (index + 1) entries

-- a journal, with its length
abbrev pub journal_lines : Side → List Entry → List (List ℕ)
journal_lines side entries = title (codes "journal") side (length entries) ∷ entry_lines 0 entries

-- a node without a name is printed as `/`
abbrev pub node_name : Option (List ℕ) → List ℕ
node_name None = codes "/"
node_name (Some name) = escaped name

-- a directory of a tree
abbrev pub dir_line : TreeLine → List ℕ
dir_line node = spaced (decimal node.depth ∷ codes "dir" ∷ decimal node.id.0 ∷ mode_text node.mode ∷ decimal node.stamp ∷ node_name node.name ∷ [])

-- a file of a tree, which has its size too
abbrev pub file_line : TreeLine → List ℕ
file_line node = spaced (decimal node.depth ∷ codes "file" ∷ decimal node.id.0 ∷ mode_text node.mode ∷ decimal node.stamp ∷ decimal node.size ∷ node_name node.name ∷ [])

-- a node of a tree
abbrev pub node_line : TreeLine → List ℕ
node_line node = if node.is_dir then dir_line node else file_line node

-- a tree, with the number of its nodes
abbrev pub tree_lines : Side → List TreeLine → List (List ℕ)
tree_lines side nodes = title (codes "tree") side (length nodes) ∷ map node_line nodes

-- the lines of a run, in order
abbrev pub lines_of : Ran → List (List ℕ)
lines_of ran = flat_map log_lines ran.logs
    ++ journal_lines Source ran.source ++ journal_lines Target ran.target
    ++ tree_lines Source ran.source_end.tree ++ tree_lines Target ran.target_end.tree

-- the text of a run
abbrev pub text_of : Ran → List ℕ
text_of ran = flat_map ended (lines_of ran)

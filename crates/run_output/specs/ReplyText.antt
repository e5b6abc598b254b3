-- Replies, as the text of a run says them.
use Rattle.std.specs.Prelude.{ℕ, Bool, if◌then◌else◌, List, [], ◌∷◌, ◌++◌, length, map, Option, Some, None, codes}
use Rattle.std.specs.List.{flat_map}
use Rattle.std.specs.Fmt.{decimal}
use Rattle.hs_types.specs.Refusals.{number_of, refusal_name}
use Rattle.hs_types.specs.declared.ids.Side.{Side}
use Rattle.hs_types.specs.declared.ids.Side.TheVariants.{Source, Target}
use Rattle.hs_types.specs.declared.reply.Reply.{Reply}
use Rattle.hs_types.specs.declared.reply.Reply.TheVariants.{Made, Done, SnapMade, Bytes, Stat, Page, Snaps, Dirs, Report, Refused, NoMemory}
use Rattle.hs_types.specs.declared.refusal.Refusal.{Refusal}
use Rattle.hs_types.specs.declared.refusal.Refusal.TheVariants.{Moved}
use Rattle.hs_types.specs.declared.reply.Item.{Item}
use Rattle.hs_types.specs.declared.reply.Answered.{Answered}
use Rattle.hs_types.specs.declared.reply.DirItem.{DirItem}
use Rattle.hs_types.specs.declared.reply.Line.{Line}
use Rattle.hs_types.specs.declared.reply.LineKind.{LineKind}
use Rattle.hs_types.specs.declared.reply.LineKind.TheVariants as kinds
use Rattle.hs_types.specs.declared.name.SnapItem.{SnapItem}
use Rattle.hs_types.specs.Names.{Names}
use Rattle.run_output.specs.TextParts.{spaced, indented, escaped, shown, mode_text}

-- which of the two namenodes
abbrev pub side_word : Side → List ℕ
side_word Source = codes "s"
side_word Target = codes "t"

-- which of the two kinds of node
abbrev pub kind_word : Bool → List ℕ
kind_word is_dir = if is_dir then codes "dir" else codes "file"

-- `more` stands exactly where the reply has a cursor
abbrev pub more_or_end : {X : Type 0} → Option X → List ℕ
more_or_end None = codes "end"
more_or_end (Some cursor) = codes "more"

-- the name of a refusal; Moved is followed by its two ticks
abbrev pub why_words : Refusal → List (List ℕ)
why_words (Moved begun reached) = refusal_name (Moved begun reached) ∷ decimal begun ∷ decimal reached ∷ []
why_words why = refusal_name why ∷ []

-- a reply, without what it lists
abbrev pub reply_text : Reply → List ℕ
reply_text (Made id) = spaced (codes "made" ∷ decimal id.0 ∷ [])
reply_text Done = codes "done"
reply_text (Bytes bytes next) = spaced (codes "bytes" ∷ decimal (length bytes) ∷ more_or_end next ∷ shown bytes)
reply_text (Stat id is_dir mode stamp size) = spaced (kind_word is_dir ∷ decimal id.0 ∷ mode_text mode ∷ decimal stamp ∷ decimal size ∷ [])
reply_text (Page items next) = spaced (codes "page" ∷ decimal (length items) ∷ more_or_end next ∷ [])
reply_text (SnapMade id) = spaced (codes "snap" ∷ decimal id.0 ∷ [])
reply_text (Snaps dir list) = spaced (codes "snaps" ∷ decimal (length list) ∷ [])
reply_text (Dirs list) = spaced (codes "dirs" ∷ decimal (length list) ∷ [])
reply_text (Report lines next) = spaced (codes "report" ∷ decimal (length lines) ∷ more_or_end next ∷ [])
reply_text (Refused why) = spaced (codes "refused" ∷ decimal (number_of why) ∷ why_words why)
reply_text NoMemory = codes "no memory"

-- an item of a listing
abbrev pub item_text : Item → List ℕ
item_text item = spaced (kind_word item.is_dir ∷ decimal item.id.0 ∷ escaped item.name ∷ [])

-- a snapshot of a directory
abbrev pub snap_text : SnapItem → List ℕ
snap_text item = spaced (decimal item.id.0 ∷ decimal item.tick ∷ escaped item.name ∷ [])

-- a snapshottable directory, with the number of its snapshots
abbrev pub dir_text : DirItem → List ℕ
dir_text item = spaced (decimal item.id.0 ∷ decimal item.count ∷ escaped item.path ∷ [])

-- the letter of a line of a report
abbrev pub letter : LineKind → List ℕ
letter kinds.Deleted = codes "-"
letter kinds.Renamed = codes "R"
letter kinds.Modified = codes "M"
letter kinds.Created = codes "+"

-- a path from the directory of a report, which itself is `.`
abbrev pub relative : Names → List ℕ
relative names = codes "." ++ flat_map (λ name. codes "/" ++ escaped name) names

-- where a renamed item stands
abbrev pub target_text : LineKind → Option Names → List ℕ
target_text kinds.Renamed (Some path) = codes " -> " ++ relative path
target_text kind to = []

-- a line of a report
abbrev pub line_text : Line → List ℕ
line_text line = spaced (letter line.kind ∷ relative line.path ∷ []) ++ target_text line.kind line.to

-- what a reply lists, a line each
abbrev pub further_lines : Reply → List (List ℕ)
further_lines (Made id) = []
further_lines Done = []
further_lines (Bytes bytes next) = []
further_lines (Stat id is_dir mode stamp size) = []
further_lines (Page items next) = map item_text items
further_lines (SnapMade id) = []
further_lines (Snaps dir list) = map snap_text list
further_lines (Dirs list) = map dir_text list
further_lines (Report lines next) = map line_text lines
further_lines (Refused why) = []
further_lines NoMemory = []

-- a side, and the place in its history where a reply was given
abbrev pub place_text : Side → ℕ → List ℕ
place_text side position = side_word side ++ codes "@" ++ decimal position

-- the line of the script that made the call, where it was answered, and what
abbrev pub reply_line : ℕ → Side → Answered → List ℕ
reply_line line side answered = spaced (decimal line ∷ place_text side answered.position ∷ reply_text answered.reply ∷ [])

-- a reply, and what it lists below it
abbrev pub answered_lines : ℕ → Side → Answered → List (List ℕ)
answered_lines line side answered = reply_line line side answered ∷ map indented (further_lines answered.reply)

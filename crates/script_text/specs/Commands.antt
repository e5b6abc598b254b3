-- What a command line says.
use Rattle.std.specs.Prelude.{ℕ, Bool, true, false, bytes_eq, codes, nat_le, if◌then◌else◌, List, [], ◌∷◌, length, replicate, Option, Some, None, Result, Ok, Err}
use Rattle.std.specs.List.{list_all}
use Rattle.std.specs.Map.{lookup}
use Rattle.std.specs.Str.{is_utf8}
use Rattle.percent_encoding.specs.Percent.{percent_decode}
use Rattle.hs_types.specs.declared.ids.Side.{Side}
use Rattle.hs_types.specs.declared.ids.Side.TheVariants.{Source, Target}
use Rattle.hs_types.specs.declared.call.Call.TheVariants as calls
use Rattle.hs_types.specs.declared.call.Point.{Point}
use Rattle.hs_types.specs.declared.call.Point.TheVariants.{Snapshot, Now}
use Rattle.script_text.specs.declared.command.Command.{Command}
use Rattle.script_text.specs.declared.command.Command.TheVariants as commands
use Rattle.script_text.specs.declared.command.Pages.TheVariants as pages
use Rattle.script_text.specs.declared.command.PagesKind.TheVariants as kept
use Rattle.script_text.specs.declared.command_word.CommandWord.{CommandWord}
use Rattle.script_text.specs.declared.command_word.CommandWord.TheVariants as spelled
use Rattle.script_text.specs.declared.fault.FaultKind.{FaultKind}
use Rattle.script_text.specs.declared.fault.FaultKind.TheVariants as kinds
use Rattle.script_text.specs.Numbers.{count_of, byte_of, mode_of}

-- ---- the command words

abbrev pub command_words : List (List ℕ × CommandWord)
command_words =
    (codes "mkdir", spelled.Mkdir) ∷ (codes "create", spelled.Create) ∷ (codes "createover", spelled.CreateOver)
    ∷ (codes "append", spelled.Append) ∷ (codes "fill", spelled.Fill) ∷ (codes "rm", spelled.Rm) ∷ (codes "rmr", spelled.Rmr)
    ∷ (codes "mv", spelled.Mv) ∷ (codes "chmod", spelled.Chmod) ∷ (codes "allow", spelled.Allow)
    ∷ (codes "disallow", spelled.Disallow) ∷ (codes "snap", spelled.Snap) ∷ (codes "snapdel", spelled.SnapDel)
    ∷ (codes "snapren", spelled.SnapRen) ∷ (codes "stat", spelled.Stat) ∷ (codes "cat", spelled.Cat) ∷ (codes "ls", spelled.Ls)
    ∷ (codes "snaps", spelled.Snaps) ∷ (codes "dirs", spelled.Dirs) ∷ (codes "diff", spelled.Diff)
    ∷ (codes "first", spelled.First) ∷ (codes "more", spelled.More) ∷ (codes "dfirst", spelled.DFirst)
    ∷ (codes "dmore", spelled.DMore) ∷ []

-- the command that a word spells
abbrev pub word_of : List ℕ → Option CommandWord
word_of word = lookup (bytes_eq word) command_words

-- ---- texts

-- the word with its percent escapes decoded
abbrev pub decoded : List ℕ → List ℕ
decoded word = percent_decode word

abbrev pub is_text : List ℕ → Bool
is_text word = is_utf8 (decoded word)

abbrev pub are_texts : List (List ℕ) → Bool
are_texts words = list_all is_text words

-- the command, where the word is a text
abbrev pub where_text : List ℕ → Command → Result Command FaultKind
where_text word said = if is_text word then Ok said else Err kinds.Utf8

-- the command, where these words are texts
abbrev pub where_texts : List (List ℕ) → Command → Result Command FaultKind
where_texts words said = if are_texts words then Ok said else Err kinds.Utf8

-- at most 65,536 bytes
abbrev pub fits_chunk : List ℕ → Bool
fits_chunk word = nat_le (length (decoded word)) 65536

-- one end of a report: `.` is the current state
abbrev pub point_of : List ℕ → Point
point_of text = if bytes_eq text (codes ".") then Now else Snapshot text

-- ---- a command behind a side, by the words behind it

abbrev pub bare_command : Side → CommandWord → Result Command FaultKind
bare_command side spelled.Dirs = Ok (commands.Call side calls.Dirs)
bare_command side spelled.More = Ok (commands.More side kept.Listing)
bare_command side spelled.DMore = Ok (commands.More side kept.Report)
bare_command side word = Err kinds.Words

abbrev pub path_command : Side → CommandWord → List ℕ → Result Command FaultKind
path_command side spelled.Mkdir path = where_text path (commands.Call side (calls.Mkdir (decoded path)))
path_command side spelled.Create path = where_text path (commands.Call side (calls.Create (decoded path) false))
path_command side spelled.CreateOver path = where_text path (commands.Call side (calls.Create (decoded path) true))
path_command side spelled.Rm path = where_text path (commands.Call side (calls.Delete (decoded path) false))
path_command side spelled.Rmr path = where_text path (commands.Call side (calls.Delete (decoded path) true))
path_command side spelled.Allow path = where_text path (commands.Call side (calls.Allow (decoded path)))
path_command side spelled.Disallow path = where_text path (commands.Call side (calls.Disallow (decoded path)))
path_command side spelled.Stat path = where_text path (commands.Call side (calls.Stat (decoded path)))
path_command side spelled.Snaps path = where_text path (commands.Call side (calls.Snaps (decoded path)))
path_command side spelled.Cat path = where_text path (commands.All side (pages.File (decoded path)))
path_command side spelled.Ls path = where_text path (commands.All side (pages.Listing (decoded path)))
path_command side spelled.First path = where_text path (commands.First side (pages.Listing (decoded path)))
path_command side word path = Err kinds.Words

abbrev pub append_command : Side → List ℕ → List ℕ → Result Command FaultKind
append_command side path word =
    if fits_chunk word then where_text path (commands.Call side (calls.Append (decoded path) (decoded word)))
    else Err kinds.Data

abbrev pub with_mode : Side → List ℕ → Option ℕ → Result Command FaultKind
with_mode side path None = Err kinds.Number
with_mode side path (Some mode) = where_text path (commands.Call side (calls.SetMode (decoded path) mode))

abbrev pub pair_command : Side → CommandWord → List ℕ → List ℕ → Result Command FaultKind
pair_command side spelled.Append path word = append_command side path word
pair_command side spelled.Mv old new = where_texts (old ∷ new ∷ []) (commands.Call side (calls.Rename (decoded old) (decoded new)))
pair_command side spelled.Chmod path mode = with_mode side path (mode_of mode)
pair_command side spelled.Snap path name = where_texts (path ∷ name ∷ []) (commands.Call side (calls.Snap (decoded path) (decoded name)))
pair_command side spelled.SnapDel path name = where_texts (path ∷ name ∷ []) (commands.Call side (calls.SnapDel (decoded path) (decoded name)))
pair_command side word first second = Err kinds.Words

-- so many bytes of this value
abbrev pub with_fill : Side → List ℕ → Option ℕ → Option ℕ → Result Command FaultKind
with_fill side path None byte = Err kinds.Number
with_fill side path (Some count) None = Err kinds.Number
with_fill side path (Some count) (Some byte) = where_text path (commands.Call side (calls.Append (decoded path) (replicate count byte)))

abbrev pub triple_command : Side → CommandWord → List ℕ → List ℕ → List ℕ → Result Command FaultKind
triple_command side spelled.Fill path count byte = with_fill side path (count_of count) (byte_of byte)
triple_command side spelled.SnapRen path old new =
    where_texts (path ∷ old ∷ new ∷ []) (commands.Call side (calls.SnapRen (decoded path) (decoded old) (decoded new)))
triple_command side spelled.Diff path from to =
    where_texts (path ∷ from ∷ to ∷ []) (commands.All side (pages.Report (decoded path) (point_of (decoded from)) (point_of (decoded to))))
triple_command side spelled.DFirst path from to =
    where_texts (path ∷ from ∷ to ∷ []) (commands.First side (pages.Report (decoded path) (point_of (decoded from)) (point_of (decoded to))))
triple_command side word first second third = Err kinds.Words

abbrev pub fitted_command : Side → CommandWord → List (List ℕ) → Result Command FaultKind
fitted_command side word [] = bare_command side word
fitted_command side word (path ∷ []) = path_command side word path
fitted_command side word (first ∷ second ∷ []) = pair_command side word first second
fitted_command side word (first ∷ second ∷ third ∷ []) = triple_command side word first second third
fitted_command side word words = Err kinds.Words

abbrev pub known_command : Side → Option CommandWord → List (List ℕ) → Result Command FaultKind
known_command side None words = Err kinds.Command
known_command side (Some word) words = fitted_command side word words

abbrev pub side_command : Side → List (List ℕ) → Result Command FaultKind
side_command side [] = Err kinds.Command
side_command side (word ∷ words) = known_command side (word_of word) words

-- ---- a command line

abbrev pub sync_command : List (List ℕ) → Result Command FaultKind
sync_command (source ∷ target ∷ from ∷ to ∷ []) =
    where_texts (source ∷ target ∷ from ∷ to ∷ []) (commands.Sync (decoded source) (decoded target) (decoded from) (decoded to))
sync_command words = Err kinds.Words

-- what the words of a line say as a command: behind a side a command of its own, or `sync` with its four words
abbrev pub command_of : List (List ℕ) → Result Command FaultKind
command_of [] = Err kinds.Command
command_of (first ∷ rest) =
    if bytes_eq first (codes "s") then side_command Source rest
    else if bytes_eq first (codes "t") then side_command Target rest
    else if bytes_eq first (codes "sync") then sync_command rest
    else Err kinds.Command

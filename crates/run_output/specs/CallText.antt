-- A call, as a line of a journal shows it.
use Rattle.std.specs.Prelude.{ℕ, Bool, if◌then◌else◌, List, [], ◌∷◌, ◌++◌, length, codes}
use Rattle.std.specs.Fmt.{decimal}
use Rattle.hs_types.specs.declared.call.Call.{Call}
use Rattle.hs_types.specs.declared.call.Call.TheVariants as calls
use Rattle.hs_types.specs.declared.call.Place.{Place}
use Rattle.hs_types.specs.declared.call.Place.TheVariants as places
use Rattle.run_output.specs.TextParts.{spaced, escaped, shown, mode_text}

-- the command that makes a file
abbrev pub create_word : Bool → List ℕ
create_word over = if over then codes "createover" else codes "create"

-- the command that removes a node
abbrev pub delete_word : Bool → List ℕ
delete_word recursive = if recursive then codes "rmr" else codes "rm"

-- where a page of a read begins
abbrev pub place_words : Place → List (List ℕ)
place_words (places.Live id) = codes "live" ∷ decimal id.0 ∷ []
place_words (places.Frozen id snapshot) = codes "frozen" ∷ decimal id.0 ∷ decimal snapshot.0 ∷ []
place_words (places.SnapshotsOf id) = codes "snapshots" ∷ decimal id.0 ∷ []

-- a modifying call as the script says it, without the side and with four digits of a mode; an append with the number of its bytes before them; a read with its numbers; of any other call its name
abbrev pub call_text : Call → List ℕ
call_text (calls.Mkdir path) = spaced (codes "mkdir" ∷ escaped path ∷ [])
call_text (calls.Create path over) = spaced (create_word over ∷ escaped path ∷ [])
call_text (calls.Append path bytes) = spaced (codes "append" ∷ escaped path ∷ decimal (length bytes) ∷ shown bytes)
call_text (calls.Delete path recursive) = spaced (delete_word recursive ∷ escaped path ∷ [])
call_text (calls.Rename old new) = spaced (codes "mv" ∷ escaped old ∷ escaped new ∷ [])
call_text (calls.SetMode path mode) = spaced (codes "chmod" ∷ escaped path ∷ mode_text mode ∷ [])
call_text (calls.Read path offset len) = spaced (codes "read" ∷ escaped path ∷ decimal offset ∷ decimal len ∷ [])
call_text (calls.ReadNext cursor len) = spaced (codes "readnext" ∷ place_words cursor.place ++ decimal cursor.offset ∷ decimal len ∷ [])
call_text (calls.Stat path) = codes "stat"
call_text (calls.List path size) = codes "list"
call_text (calls.Allow path) = spaced (codes "allow" ∷ escaped path ∷ [])
call_text (calls.Disallow path) = spaced (codes "disallow" ∷ escaped path ∷ [])
call_text (calls.Snap path name) = spaced (codes "snap" ∷ escaped path ∷ escaped name ∷ [])
call_text (calls.SnapDel path name) = spaced (codes "snapdel" ∷ escaped path ∷ escaped name ∷ [])
call_text (calls.SnapRen path old new) = spaced (codes "snapren" ∷ escaped path ∷ escaped old ∷ escaped new ∷ [])
call_text (calls.ListNext cursor size) = codes "listnext"
call_text (calls.Snaps path) = codes "snaps"
call_text calls.Dirs = codes "dirs"
call_text (calls.Report path from to size) = codes "report"
call_text (calls.ReportNext cursor size) = codes "reportnext"

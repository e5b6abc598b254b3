-- The script that the generator makes: files on the source, a first sync, rounds of changes with a snapshot each, and a second sync.
use Rattle.std.specs.Prelude.{ℕ, zero, suc, ◌+◌, ◌-◌, ◌*◌, ◌%◌, ◌==◌, codes, if◌then◌else◌, List, [], ◌∷◌, ◌++◌, map, false}
use Rattle.std.specs.Fmt.{decimal}
use Rattle.std.specs.List.{flat_map, range_with_len}
use Rattle.hs_types.specs.declared.call.Call.TheVariants as calls
use Rattle.hs_types.specs.declared.ids.Side.{Side}
use Rattle.hs_types.specs.declared.ids.Side.TheVariants.{Source, Target}
use Rattle.script_text.specs.declared.command.Command.{Command}
use Rattle.script_text.specs.declared.command.Command.TheVariants as said
use Rattle.script_text.specs.declared.script.Script.{Script}
use Rattle.script_text.specs.declared.script.ScriptLine.{ScriptLine}
use Rattle.script_text.specs.declared.script.Section.TheVariants as sections

-- ---- draws

-- the generator's number after another
abbrev pub next : ℕ → ℕ
next number = (75 * number + 74) % 65537

-- its number after so many draws
abbrev pub number_after : ℕ → ℕ → ℕ
number_after seed zero = seed % 65537
number_after seed (suc draws) = next (number_after seed draws)

-- what a draw gives, below a bound. Draws count from 1
abbrev pub draw : ℕ → ℕ → ℕ → ℕ
draw seed place bound = number_after seed place % bound

-- ---- texts

abbrev pub root : List ℕ
root = codes "/r"

abbrev pub dir_path : ℕ → List ℕ
dir_path dir = codes "/r/d" ++ decimal dir

-- a file of a directory, by a letter and a number
abbrev pub file_path : ℕ → List ℕ → ℕ → List ℕ
file_path dir letter number = dir_path dir ++ codes "/" ++ letter ++ decimal number

abbrev pub snap_name : ℕ → List ℕ
snap_name number = codes "n" ++ decimal number

-- ---- commands

abbrev pub mkdir : Side → List ℕ → Command
mkdir side path = said.Call side (calls.Mkdir path)

abbrev pub allow : Side → List ℕ → Command
allow side path = said.Call side (calls.Allow path)

abbrev pub snap : Side → ℕ → Command
snap side number = said.Call side (calls.Snap root (snap_name number))

abbrev pub create : List ℕ → Command
create path = said.Call Source (calls.Create path false)

abbrev pub append : List ℕ → List ℕ → Command
append path bytes = said.Call Source (calls.Append path bytes)

abbrev pub mv : List ℕ → List ℕ → Command
mv old new = said.Call Source (calls.Rename old new)

abbrev pub rm : List ℕ → Command
rm path = said.Call Source (calls.Delete path false)

abbrev pub sync : ℕ → ℕ → Command
sync from to = said.Sync root root (snap_name from) (snap_name to)

-- ---- parts

-- a root with its first snapshot
abbrev pub root_commands : Side → List Command
root_commands side = mkdir side root ∷ allow side root ∷ snap side 0 ∷ []

-- one directory, and its files
abbrev pub dir_commands : ℕ → ℕ → List Command
dir_commands files dir = mkdir Source (dir_path dir) ∷ map (λ file. create (file_path dir (codes "f") file)) (range_with_len 0 files)

-- a sync, and the target's snapshot of what it made
abbrev pub sync_commands : ℕ → ℕ → List Command
sync_commands from to = sync from to ∷ snap Target to ∷ []

-- in a round of odd number the file goes that the round before has moved
abbrev pub removal : ℕ → ℕ → List Command
removal k p = if k % 2 == 1 then rm (file_path p (codes "m") (k - 1)) ∷ [] else []

-- round k, by its draws a, b, c and e, and by the draw e of the round before, p
abbrev pub round_commands : ℕ → ℕ → ℕ → ℕ → ℕ → ℕ → List Command
round_commands k a b c e p =
    append (file_path a (codes "f") b) (decimal k)
    ∷ create (file_path c (codes "k") k)
    ∷ mv (file_path c (codes "k") k) (file_path e (codes "m") k)
    ∷ removal k p ++ snap Source k ∷ []

-- the place of the last draw before round k: rounds count from 2, and each draws four times
abbrev pub draws_before : ℕ → ℕ
draws_before k = 4 * (k - 2)

-- where round k moves its file to
abbrev pub moved_to : ℕ → ℕ → ℕ → ℕ
moved_to seed dirs k = draw seed (draws_before k + 4) dirs

abbrev pub round : ℕ → ℕ → ℕ → ℕ → List Command
round seed dirs files k =
    round_commands k
    (draw seed (draws_before k + 1) dirs)
    (draw seed (draws_before k + 2) files)
    (draw seed (draws_before k + 3) dirs)
    (moved_to seed dirs k)
    (moved_to seed dirs (k - 1))

-- ---- the whole

abbrev pub generated_commands : ℕ → ℕ → ℕ → ℕ → List Command
generated_commands seed dirs files snaps =
    root_commands Source ++ root_commands Target
    ++ flat_map (dir_commands files) (range_with_len 0 dirs)
    ++ snap Source 1 ∷ sync_commands 0 1
    ++ flat_map (round seed dirs files) (range_with_len 2 (snaps - 2))
    ++ sync_commands 1 (snaps - 1)

-- the commands in section setup, with line numbers from here on
abbrev pub numbered : ℕ → List Command → List ScriptLine
numbered line [] = []
numbered line (command ∷ rest) = record { line = line; section = sections.Setup; command = command } ∷ numbered (line + 1) rest

abbrev pub generated : ℕ → ℕ → ℕ → ℕ → Script
generated seed dirs files snaps = record { lines = numbered 1 (generated_commands seed dirs files snaps); clients = 0 }

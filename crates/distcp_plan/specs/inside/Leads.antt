-- The sources of moves by their paths, and how the longest is found. For proofs alone.
use Rattle.std.specs.Prelude.{ℕ, zero, suc, ◌+◌, List, [], ◌∷◌, ◌++◌, map, length, take, drop, Option, Some, None}
use Rattle.std.specs.Borrow.{Bor}
use Rattle.std.specs.FinMap.Entries.{find, put}
use Rattle.hs_types.specs.Names.{Names}
use Rattle.hs_types.specs.declared.reply.Line.{Line}
use Rattle.hs_plain.specs.Tree.{path_cmp}
use Rattle.distcp_plan.specs.Planned.{target_of}

abbrev pub Table : Type 0
Table = List (Names × Names)

abbrev pub with_lead : Names → Option Names → Table → Table
with_lead source None table = table
with_lead source (Some target) table = put path_cmp source target table

-- of lines with one source the first counts
abbrev pub lead_table : List Line → Table
lead_table [] = []
lead_table (line ∷ lines) = with_lead line.path (target_of line) (lead_table lines)

-- a source's target before the rest of the path, or another path
abbrev pub led_at : Option Names → Names → Names → Names
led_at None rest other = other
led_at (Some target) rest other = target ++ rest

-- the path led on by its longest front with fewer names than this that is a source
abbrev pub led_below : Table → Names → ℕ → Names
led_below table path zero = path
led_below table path (suc n) = led_at (find path_cmp (take n path) table) (drop n path) (led_below table path n)

abbrev pub led_in : Table → Names → Names
led_in table path = led_below table path (length path + 1)

-- an entry of a map with borrowed paths
abbrev pub shown : Bor Names × Bor Names → Names × Names
shown entry = (entry.0.now, entry.1.now)

abbrev pub shown_table : List (Bor Names × Bor Names) → Table
shown_table entries = map shown entries

-- The order of a script's lines.
use Rattle.std.specs.Prelude.{ℕ, Bool, true, ◌&&◌, nat_le, List, [], ◌∷◌}
use Rattle.script_text.specs.declared.script.ScriptLine.{ScriptLine}
use Rattle.script_text.specs.declared.script.Section.{Section}
use Rattle.script_text.specs.declared.script.Section.TheVariants as sections

-- setup stands first, then the clients by their numbers, and finish last
abbrev pub rank : Section → ℕ
rank sections.Setup = 0
rank (sections.Client number) = number
rank sections.Finish = 17

-- a client's section is one of so many
abbrev pub is_among : ℕ → Section → Bool
is_among clients sections.Setup = true
is_among clients (sections.Client number) = nat_le 1 number && nat_le number clients
is_among clients sections.Finish = true

-- the lines stand in the order of their sections, from a rank on
abbrev pub are_ordered : ℕ → ℕ → List ScriptLine → Bool
are_ordered clients least [] = true
are_ordered clients least (line ∷ lines) = is_among clients line.section && (nat_le least (rank line.section) && are_ordered clients (rank line.section) lines)

-- The lines of a text, and the words of a line.
use Rattle.std.specs.Prelude.{ℕ, ◌-◌, Bool, ◌||◌, ◌==◌, nat_le, if◌then◌else◌, List, [], ◌∷◌, length, take, slice_index}
use Rattle.std.specs.List.{filter, slice_split}

abbrev pub is_line_feed : ℕ → Bool
is_line_feed byte = byte == 10

-- a space or a tab
abbrev pub is_blank : ℕ → Bool
is_blank byte = byte == 32 || byte == 9

abbrev pub is_full : List ℕ → Bool
is_full bytes = nat_le 1 (length bytes)

-- where nothing stands behind the last line feed, there is no line
abbrev pub without_empty_last : List (List ℕ) → List (List ℕ)
without_empty_last [] = []
without_empty_last (last ∷ []) = if is_full last then last ∷ [] else []
without_empty_last (line ∷ next ∷ lines) = line ∷ without_empty_last (next ∷ lines)

-- what stands between line feeds
abbrev pub lines_of : List ℕ → List (List ℕ)
lines_of bytes = without_empty_last (slice_split is_line_feed bytes)

-- a line without the carriage return at its end, if there is one
abbrev pub without_return : List ℕ → List ℕ
without_return line = if slice_index line (length line - 1) == 13 then take (length line - 1) line else line

-- what stands between blanks and isn't empty
abbrev pub words_of : List ℕ → List (List ℕ)
words_of line = filter is_full (slice_split is_blank (without_return line))

-- a line without words is skipped, and one whose first word begins with `#`
abbrev pub is_comment : List ℕ → Bool
is_comment first = slice_index first 0 == 35

-- What a text means as a script: its commands, or its first bad line.
use Rattle.std.specs.Prelude.{◌≡◌, ℕ, ◌+◌, if◌then◌else◌, List, [], ◌∷◌, ◌++◌, Option, Some, None, Result, Ok, Err}
use Rattle.std.specs.List.{fold}
use Rattle.script_text.specs.declared.command.Command.{Command}
use Rattle.script_text.specs.declared.fault.FaultKind.{FaultKind}
use Rattle.script_text.specs.declared.fault.FaultKind.TheVariants as kinds
use Rattle.script_text.specs.declared.fault.ScriptFault.{ScriptFault}
use Rattle.script_text.specs.declared.fault.ReadScriptFault.{ReadScriptFault}
use Rattle.script_text.specs.declared.fault.ReadScriptFault.TheVariants.{Bad, NoMemory}
use Rattle.script_text.specs.declared.script.Script.{Script}
use Rattle.script_text.specs.declared.script.ScriptLine.{ScriptLine}
use Rattle.script_text.specs.declared.script.Standing.{Standing}
use Rattle.script_text.specs.declared.reader.Reading.{Reading}
use Rattle.script_text.specs.declared.line.LineMeaning.{LineMeaning}
use Rattle.script_text.specs.declared.line.LineMeaning.TheVariants.{Skipped, Heading, Said}
use Rattle.script_text.specs.Words.{lines_of, words_of, is_comment}
use Rattle.script_text.specs.Headings.{at_the_start, after_command, is_heading, after_heading}
use Rattle.script_text.specs.Commands.{command_of}

-- ---- one line

abbrev pub heading_line : Option Standing → Result LineMeaning FaultKind
heading_line None = Err kinds.Section
heading_line (Some standing) = Ok (Heading standing)

abbrev pub command_line : Result Command FaultKind → Result LineMeaning FaultKind
command_line (Err kind) = Err kind
command_line (Ok command) = Ok (Said command)

-- a heading, or else a command
abbrev pub full_line : Standing → List ℕ → List (List ℕ) → Result LineMeaning FaultKind
full_line standing first rest =
    if is_heading first then heading_line (after_heading standing first rest)
    else command_line (command_of (first ∷ rest))

-- what the words of a line mean where it stands
abbrev pub line_of : Standing → List (List ℕ) → Result LineMeaning FaultKind
line_of standing [] = Ok Skipped
line_of standing (first ∷ rest) = if is_comment first then Ok Skipped else full_line standing first rest

-- ---- line after line

abbrev pub start : Reading
start = record { line = 1; standing = at_the_start; lines = [] }

abbrev pub said : Reading → Command → ScriptLine
said reading command = record { line = reading.line; section = reading.standing.section; command = command }

-- what was read, with one more line
abbrev pub with_line : Reading → LineMeaning → Reading
with_line reading Skipped = record reading { line = reading.line + 1 }
with_line reading (Heading standing) = record { line = reading.line + 1; standing = standing; lines = reading.lines }
with_line reading (Said command) = record {
  line = reading.line + 1;
  standing = after_command reading.standing;
  lines = reading.lines ++ said reading command ∷ [];
}

abbrev pub or_fault : Reading → Result LineMeaning FaultKind → Result Reading ScriptFault
or_fault reading (Err kind) = Err (record { line = reading.line; kind = kind })
or_fault reading (Ok meaning) = Ok (with_line reading meaning)

-- after the first bad line nothing counts
abbrev pub read_line : Result Reading ScriptFault → List ℕ → Result Reading ScriptFault
read_line (Err fault) line = Err fault
read_line (Ok reading) line = or_fault reading (line_of reading.standing (words_of line))

-- ---- a text

abbrev pub script_of : Result Reading ScriptFault → Result Script ScriptFault
script_of (Err fault) = Err fault
script_of (Ok reading) = Ok (record { lines = reading.lines; clients = reading.standing.clients })

-- the script, or the first bad line
abbrev pub meaning_of : List ℕ → Result Script ScriptFault
meaning_of bytes = script_of (fold read_line (Ok start) (lines_of bytes))

-- the meaning is that fault, or memory ran out
abbrev pub IsFaultOf : {A : Type 0} → Result A ScriptFault → ReadScriptFault → Type 0
IsFaultOf meaning (Bad fault) = meaning ≡ Err fault
IsFaultOf meaning NoMemory = Unit {0}

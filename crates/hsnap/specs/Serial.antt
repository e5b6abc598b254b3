-- What a call of the program promises.
use Rattle.std.specs.Prelude.{◌≡◌, ℕ, ◌≤◌, Bool, true, false, List, [], length, Option, Some, Ok, Err}
use Rattle.hs_io.specs.Bytes.{Gives, IsEnded, Takes, TakesSome}
use Rattle.script_text.specs.declared.script.Script.{Script}
use Rattle.script_text.specs.declared.fault.FaultKind.{FaultKind}
use Rattle.script_text.specs.Generator.{generated}
use Rattle.script_text.specs.Scripts.{meaning_of}
use Rattle.run_output.specs.declared.ran.Ran.{Ran}
use Rattle.run_output.specs.declared.ran.End.{End}
use Rattle.run_output.specs.declared.ran.Status.{Status}
use Rattle.run_output.specs.declared.ran.Status.TheVariants as status
use Rattle.run_output.specs.Run.{IsRunInTurn}
use Rattle.run_output.specs.Summary.{summary_of}
use Rattle.run_output.specs.Text.{text_of}
use Rattle.hsnap.specs.declared.command_line.Mode.{Mode}
use Rattle.hsnap.specs.declared.command_line.Mode.TheVariants as modes
use Rattle.hsnap.specs.declared.command_line.Words.{Words}
use Rattle.hsnap.specs.CommandLine.{meaning_of_words}

-- the most bytes that an input has
abbrev pub most_bytes : ℕ
most_bytes = 16777216

-- the source gave these bytes, to the end of the input
pub record WasRead (before now : Option (List ℕ)) (bytes : List ℕ) : Type 0 where
  pub given : Gives before now bytes
  pub ended : IsEnded now
  pub within : length bytes ≤ most_bytes

-- the bytes read mean this script
pub record IsScriptRead (before now : Option (List ℕ)) (script : Script) : Type 0 where
  pub bytes : List ℕ
  pub read : WasRead before now bytes
  pub means : meaning_of bytes ≡ Ok script

-- the script that is run: the one that the input means, or the generated one, for which no byte is read
abbrev pub IsScriptIn : Mode → ℕ → Option (List ℕ) → Option (List ℕ) → Script → Type 0
IsScriptIn modes.Serial seed before now script = IsScriptRead before now script
IsScriptIn modes.Generated seed before now script = (now ≡ before) × (script ≡ generated seed 20 10 5)

-- what is written of its run: the text, or the summary of a generated one
abbrev pub text_in : Mode → ℕ → Ran → List ℕ
text_in modes.Serial seed ran = text_of ran
text_in modes.Generated seed ran = summary_of ran seed

-- the words are a command line, and this is a run, in turn, of the script that they ask for, with their size of a page
pub record IsRunOfWords (source_tells target_tells : Bool) (words : List (List ℕ)) (before now : Option (List ℕ)) (ran : Ran) : Type 0 where
  pub meaning : Words
  pub words_mean : meaning_of_words words ≡ Some meaning
  pub script : Script
  pub script_is : IsScriptIn meaning.mode meaning.seed before now script
  pub run : IsRunInTurn source_tells target_tells meaning.page script.clients script.lines ran

-- it was run so, and all of its text was written
pub record IsDone (source_tells target_tells : Bool) (words : List (List ℕ)) (before now written_before written_now : Option (List ℕ)) (ran : Ran) : Type 0 where
  pub run : IsRunOfWords source_tells target_tells words before now ran
  pub text : Takes written_before written_now (text_in run.meaning.mode run.meaning.seed ran)

-- it was run so, and of its text a part from the front was written
pub record IsCutShort (source_tells target_tells : Bool) (words : List (List ℕ)) (before now written_before written_now : Option (List ℕ)) (ran : Ran) : Type 0 where
  pub run : IsRunOfWords source_tells target_tells words before now ran
  pub text : TakesSome written_before written_now (text_in run.meaning.mode run.meaning.seed ran)

-- the words ask for the script that the input means
pub record AsksForInput (words : List (List ℕ)) : Type 0 where
  pub meaning : Words
  pub words_mean : meaning_of_words words ≡ Some meaning
  pub serial : meaning.mode ≡ modes.Serial

-- the words ask for the generated script
pub record AsksForGenerated (words : List (List ℕ)) : Type 0 where
  pub meaning : Words
  pub words_mean : meaning_of_words words ≡ Some meaning
  pub generated : meaning.mode ≡ modes.Generated

-- the first bad line of the bytes read is this
pub record IsBadScript (before now : Option (List ℕ)) (line : ℕ) (kind : FaultKind) : Type 0 where
  pub bytes : List ℕ
  pub read : WasRead before now bytes
  pub means : meaning_of bytes ≡ Err (record { line = line; kind = kind })

abbrev pub no_end : End
no_end = record { tree = []; counts = record { rows = 0; records = 0; list_entries = 0; snapshots = 0; blocks = 0 } }

-- nothing was run
abbrev pub not_run : Status → Ran
not_run why = record { status = why; source = []; target = []; logs = []; source_end = no_end; target_end = no_end }

-- with these nothing was written, and no namenode was called
abbrev pub is_early : Status → Bool
is_early status.Ok = false
is_early status.Usage = true
is_early (status.Script line kind) = true
is_early status.TooLarge = true
is_early status.ReadFault = true
is_early status.WriteFault = false
is_early status.NoMemory = false

-- all was done, or memory ran out
abbrev pub is_ok_or_no_memory : Status → Bool
is_ok_or_no_memory status.Ok = true
is_ok_or_no_memory status.Usage = false
is_ok_or_no_memory (status.Script line kind) = false
is_ok_or_no_memory status.TooLarge = false
is_ok_or_no_memory status.ReadFault = false
is_ok_or_no_memory status.WriteFault = false
is_ok_or_no_memory status.NoMemory = true

-- the input is no script, or memory ran out
abbrev pub IsScriptOrNoMemory : ℕ → FaultKind → Status → Type 0
IsScriptOrNoMemory line kind (status.Script at what) = (at ≡ line) × (what ≡ kind)
IsScriptOrNoMemory line kind status.NoMemory = Unit {0}
IsScriptOrNoMemory line kind status.Ok = ⊥
IsScriptOrNoMemory line kind status.Usage = ⊥
IsScriptOrNoMemory line kind status.TooLarge = ⊥
IsScriptOrNoMemory line kind status.ReadFault = ⊥
IsScriptOrNoMemory line kind status.WriteFault = ⊥

-- the input is too large, or memory ran out
abbrev pub is_too_large_or_no_memory : Status → Bool
is_too_large_or_no_memory status.Ok = false
is_too_large_or_no_memory status.Usage = false
is_too_large_or_no_memory (status.Script line kind) = false
is_too_large_or_no_memory status.TooLarge = true
is_too_large_or_no_memory status.ReadFault = false
is_too_large_or_no_memory status.WriteFault = false
is_too_large_or_no_memory status.NoMemory = true

-- What only private contracts and proofs use: sections of a script that were run.
use Rattle.std.specs.Prelude.{◌≡◌, ℕ, Bool, true, false, if◌then◌else◌, List, [], ◌∷◌, ◌++◌, map, length, Option, Some, None}
use Rattle.std.specs.List.{flat_map, AllByRecursion}
use Rattle.hs_types.specs.declared.journal.Entry.{Entry}
use Rattle.script_text.specs.declared.script.ScriptLine.{ScriptLine}
use Rattle.script_text.specs.declared.script.Section.{Section}
use Rattle.script_text.specs.declared.script.Section.TheVariants as sections
use Rattle.run_output.specs.declared.ran.LogItem.{LogItem}
use Rattle.run_output.specs.declared.ran.ClientLog.{ClientLog}
use Rattle.run_output.specs.Calls.{Kept, none_kept}
use Rattle.run_output.specs.Steps.{Sections, LineRun, AreCalls, kept_after}
use Rattle.run_output.specs.Run.{is_section, are_in, are_clients, items_of, client_logs, logs_of, AreLines}
use Rattle.script_runner.specs.InTurn.{World, AreLinesRun, AreClientsRun, IsSerial}
use Rattle.script_runner.specs.Nodes.{IsCommandDone}

-- a line was run, with this item
pub record IsLineRun (source_tells target_tells : Bool) (page c : ℕ) (old new : World) (kept now : Kept) (line : ScriptLine) (item : LogItem) : Type 0 where
  pub done : IsCommandDone source_tells target_tells page c old new kept now line.command item.what
  pub line_is : item.line ≡ line.line

-- lines at the front were run, all of one section
pub record IsSectionRun (source_tells target_tells : Bool) (page c : ℕ) (section : Section) (old new : World) (kept now : Kept) (before after : List ScriptLine) (items : List LogItem) : Type 0 where
  pub runs : List LineRun
  pub lines : before ≡ map (λ run. run.line) runs ++ after
  pub of_section : are_in section runs ≡ true
  pub calls : AreCalls page kept runs
  pub made : AreLinesRun source_tells target_tells page c old runs new
  pub items_are : items ≡ items_of runs
  pub keeps : now ≡ kept_after page kept runs

-- the first line isn't of the section
abbrev pub is_past : Section → List ScriptLine → Bool
is_past section [] = true
is_past section (line ∷ lines) = if is_section line.section section then false else true

-- a line that was taken from the front is of the section, and where none was taken the first isn't
abbrev pub IsFront : Section → Option ScriptLine → List ScriptLine → Type 0
IsFront section None rest = is_past section rest ≡ true
IsFront section (Some line) rest = is_section line.section section ≡ true

-- ---- the clients

-- both journals, before a caller's first call
abbrev pub unnumbered : List Entry → List Entry → World
unnumbered source target = record { source = source; target = target; source_calls = 0; target_calls = 0 }

-- a client's section was run, and logged
pub record IsClientRun (source_tells target_tells : Bool) (page number : ℕ) (old_source old_target new_source new_target : List Entry) (before after : List ScriptLine) (log : ClientLog) : Type 0 where
  pub runs : List LineRun
  pub now : World
  pub lines : before ≡ map (λ run. run.line) runs ++ after
  pub of_section : are_in (sections.Client number) runs ≡ true
  pub calls : AreCalls page none_kept runs
  pub made : AreLinesRun source_tells target_tells page number (unnumbered old_source old_target) runs now
  pub source_is : now.source ≡ new_source
  pub target_is : now.target ≡ new_target
  pub log_is : log ≡ record { section = sections.Client number; items = items_of runs }

-- so many clients' sections were run, one after the other
pub record AreClientsTo (source_tells target_tells : Bool) (page count : ℕ) (old_source old_target new_source new_target : List Entry) (before after : List ScriptLine) (logs_before logs : List ClientLog) : Type 0 where
  pub clients : List (List LineRun)
  pub number : length clients ≡ count
  pub lines : before ≡ map (λ run. run.line) (flat_map (λ client. client) clients) ++ after
  pub of_sections : are_clients 1 clients ≡ true
  pub calls : AllByRecursion (AreCalls page none_kept) clients
  pub made : AreClientsRun source_tells target_tells page 1 (unnumbered old_source old_target) clients (unnumbered new_source new_target)
  pub logs_are : logs ≡ logs_before ++ client_logs 1 clients

-- ---- all sections

-- all sections were run
pub record AreSectionsRun (source_tells target_tells : Bool) (page clients : ℕ) (script : List ScriptLine) (source target : List Entry) (logs : List ClientLog) : Type 0 where
  pub runs : Sections LineRun
  pub lines : AreLines clients script runs
  pub setup_calls : AreCalls page none_kept runs.setup
  pub client_calls : AllByRecursion (AreCalls page none_kept) runs.clients
  pub finish_calls : AreCalls page (kept_after page none_kept runs.setup) runs.finish
  pub serial : IsSerial source_tells target_tells page runs source target
  pub logs_are : logs ≡ logs_of runs

-- What a run of a script is.
use Rattle.std.specs.Prelude.{◌≡◌, ℕ, ◌+◌, ◌*◌, ◌≤◌, Bool, true, false, ◌&&◌, ◌==◌, nat_lt, List, [], ◌∷◌, ◌++◌, map, length, Option, Some, None, ⊤}
use Rattle.std.specs.List.{filter_map, flat_map, list_all, AllByRecursion}
use Rattle.hs_types.specs.declared.ids.CallerId.{CallerId}
use Rattle.hs_types.specs.declared.ids.Side.{Side}
use Rattle.hs_types.specs.declared.ids.Side.TheVariants.{Source, Target}
use Rattle.hs_types.specs.declared.journal.Entry.{Entry}
use Rattle.hs_types.specs.declared.shown.Counts.{Counts}
use Rattle.hs_types.specs.declared.reply.Answered.{Answered}
use Rattle.hs_types.specs.Limits.{journal_limit}
use Rattle.hs_plain.specs.Legal.{Said, IsLegalCall, places_of}
use Rattle.hs_plain.specs.Replay.{plain_after, is_proper}
use Rattle.hs_plain.specs.Lines.{tree_lines}
use Rattle.distcp_sync.specs.Calls.{IsMadeIn, IsFailedRead}
use Rattle.distcp_sync.specs.Synced.{IsSynced}
use Rattle.script_text.specs.declared.script.ScriptLine.{ScriptLine}
use Rattle.script_text.specs.declared.script.Section.{Section}
use Rattle.script_text.specs.declared.script.Section.TheVariants as sections
use Rattle.run_output.specs.declared.ran.Ran.{Ran}
use Rattle.run_output.specs.declared.ran.End.{End}
use Rattle.run_output.specs.declared.ran.ClientLog.{ClientLog}
use Rattle.run_output.specs.declared.ran.LogItem.{LogItem}
use Rattle.run_output.specs.declared.ran.LogWhat.{LogWhat}
use Rattle.run_output.specs.declared.ran.LogWhat.TheVariants.{Replies, NoCursor, Synced}
use Rattle.run_output.specs.Calls.{none_kept, side_of}
use Rattle.run_output.specs.Steps.{Sections, SyncRun, LineRun, AreCalls, kept_after, Step, steps_to, in_order, said_in, made_in, failed_in, are_counted, rises, in_turn, reached, all_reached, left_at}
use Rattle.run_output.specs.Syncs.{Journals, AreSyncs}

-- ---- lines and logs

abbrev pub is_section : Section → Section → Bool
is_section sections.Setup sections.Setup = true
is_section (sections.Client a) (sections.Client b) = a == b
is_section sections.Finish sections.Finish = true
is_section a b = false

-- these lines are of the section
abbrev pub are_in : Section → List LineRun → Bool
are_in section runs = list_all (λ run. is_section run.line.section section) runs

abbrev pub are_clients : ℕ → List (List LineRun) → Bool
are_clients client [] = true
are_clients client (runs ∷ more) = are_in (sections.Client client) runs && are_clients (client + 1) more

-- the lines of the script, in order, each in its section
pub record AreLines (clients : ℕ) (script : List ScriptLine) (runs : Sections LineRun) : Type 0 where
  pub order : map (λ run. run.line) (in_order runs) ≡ script
  pub count : length runs.clients ≡ clients
  pub setup : are_in sections.Setup runs.setup ≡ true
  pub each_client : are_clients 1 runs.clients ≡ true
  pub finish : are_in sections.Finish runs.finish ≡ true

-- what a line that asks one side logs: its replies, or that no cursor was kept for it
abbrev pub what_of : Side → List Answered → LogWhat
what_of side [] = NoCursor side
what_of side (told ∷ more) = Replies side (told ∷ more)

abbrev pub logged : ℕ → Option Side → List Said → List LogItem
logged line None said = []
logged line (Some side) said = record { line = line; what = what_of side (map (λ s. s.told) said) } ∷ []

-- a sync logs its report
abbrev pub sync_logged : ℕ → Option SyncRun → List LogItem
sync_logged line None = []
sync_logged line (Some sync) = record { line = line; what = Synced sync.report } ∷ []

-- an item for each line
abbrev pub items_of : List LineRun → List LogItem
items_of runs = flat_map (λ run. sync_logged run.line.line run.synced ++ logged run.line.line (side_of run.line.command) run.said) runs

abbrev pub client_logs : ℕ → List (List LineRun) → List ClientLog
client_logs client [] = []
client_logs client (runs ∷ more) = record { section = sections.Client client; items = items_of runs } ∷ client_logs (client + 1) more

-- a log for each section, in order
abbrev pub logs_of : Sections LineRun → List ClientLog
logs_of runs = record { section = sections.Setup; items = items_of runs.setup } ∷ (client_logs 1 runs.clients ++ record { section = sections.Finish; items = items_of runs.finish } ∷ [])

-- ---- callers

abbrev pub caller : ℕ → CallerId
caller c = record { 0 = c }

-- a call is answered legally in a journal, which has the usual limit
abbrev pub IsLegal : Bool → List Entry → ℕ → Said → Type 0
IsLegal tells journal c said = IsLegalCall tells journal_limit journal (caller c) said.seq said.call said.told

-- a caller's replies are legal, and its entries in the journal are those of its steps, in order
pub record AreLegal (tells : Bool) (journal : List Entry) (c : ℕ) (steps : List Step) : Type 0 where
  pub each : AllByRecursion (IsLegal tells journal c) (filter_map said_in steps)
  -- its calls are counted from 1
  pub numbers : are_counted 0 steps ≡ true
  pub made_each : AllByRecursion (IsMadeIn journal (caller c)) (filter_map made_in steps)
  pub failed_each : AllByRecursion (IsFailedRead journal (caller c)) (filter_map failed_in steps)
  pub entries : places_of c 0 journal ≡ filter_map left_at steps

-- client c is caller c
abbrev pub AreClients : Bool → List Entry → ℕ → List (List Step) → Type 0
AreClients tells journal c [] = ⊤
AreClients tells journal c (client ∷ more) = AreLegal tells journal c client × AreClients tells journal (c + 1) more

-- ---- sides

-- the one history of a namenode
pub record IsSide (tells : Bool) (journal : List Entry) (steps : Sections Step) : Type 0 where
  pub proper : is_proper journal ≡ true
  pub few : length journal ≤ journal_limit
  -- setup and finish are the work of caller 0
  pub caller_0 : AreLegal tells journal 0 (steps.setup ++ steps.finish)
  pub callers : AreClients tells journal 1 steps.clients
  -- each entry is of one of these callers
  pub alone : list_all (λ entry. nat_lt entry.caller.0 (length steps.clients + 1)) journal ≡ true
  -- the clients come behind setup, and finish behind all clients
  pub setup_rises : rises 0 steps.setup ≡ true
  pub clients_rise : list_all (rises (reached 0 steps.setup)) steps.clients ≡ true
  pub finish_rises : rises (all_reached (reached 0 steps.setup) steps.clients) steps.finish ≡ true

-- the weight of what a namenode holds
abbrev pub weight : Counts → ℕ
weight counts = counts.rows + counts.records + counts.list_entries + counts.snapshots

-- what is shown at the end is the state that the journal stands for; what is held grows with the entries, not with the copied trees
pub record IsEndOf (journal : List Entry) (end : End) : Type 0 where
  pub tree : end.tree ≡ tree_lines (plain_after journal)
  pub snapshots : end.counts.snapshots ≡ length (plain_after journal).members
  pub rows : length (plain_after journal).tree ≤ end.counts.rows
  pub light : weight end.counts ≤ 10 * length journal + 1

-- ---- runs

-- the run of a script of so many clients, with a page size.
-- A side tells where its store tells its bytes: where it doesn't, nothing is claimed of the bytes that replies hold.
pub record IsRun (source_tells target_tells : Bool) (page clients : ℕ) (script : List ScriptLine) (ran : Ran) (runs : Sections LineRun) : Type 0 where
  pub lines : AreLines clients script runs
  pub logs : ran.logs ≡ logs_of runs
  -- the cursors that setup kept are there again in finish
  pub setup_calls : AreCalls page none_kept runs.setup
  pub client_calls : AllByRecursion (AreCalls page none_kept) runs.clients
  pub finish_calls : AreCalls page (kept_after page none_kept runs.setup) runs.finish
  pub source : IsSide source_tells ran.source (steps_to Source runs)
  pub target : IsSide target_tells ran.target (steps_to Target runs)
  -- each sync did what its report tells, between what was known before it and what was done behind it
  pub syncs : AreSyncs (λ ask sides report. IsSynced ask page sides report) (record { source = ran.source; target = ran.target; source_tells = source_tells; target_tells = target_tells }) runs
  pub source_end : IsEndOf ran.source ran.source_end
  pub target_end : IsEndOf ran.target ran.target_end

-- in turn: each command ran when the one before had ended
pub record IsInTurn (runs : Sections LineRun) : Type 0 where
  pub source : in_turn 0 (in_order (steps_to Source runs)) ≡ true
  pub target : in_turn 0 (in_order (steps_to Target runs)) ≡ true

-- a run of a script in turn
pub record IsRunInTurn (source_tells target_tells : Bool) (page clients : ℕ) (script : List ScriptLine) (ran : Ran) : Type 0 where
  pub runs : Sections LineRun
  pub run : IsRun source_tells target_tells page clients script ran runs
  pub turn : IsInTurn runs

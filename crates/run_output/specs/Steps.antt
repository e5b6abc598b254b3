-- What happens on each namenode in a run, step by step.
use Rattle.std.specs.Prelude.{◌≡◌, ℕ, ◌+◌, ◌-◌, ◌^◌, min, max, Bool, true, false, ◌&&◌, ◌==◌, nat_le, if◌then◌else◌, List, [], ◌∷◌, ◌++◌, map, Option, Some, None, ⊤}
use Rattle.std.specs.List.{flat_map}
use Rattle.hs_types.specs.declared.ids.Side.{Side}
use Rattle.hs_types.specs.declared.ids.Side.TheVariants.{Source, Target}
use Rattle.hs_plain.specs.Legal.{Said, reach_of, place_left, number_rises}
use Rattle.copy_workers.specs.declared.copied.Made.{Made}
use Rattle.distcp_sync.specs.declared.report.SyncReport.{SyncReport}
use Rattle.distcp_sync.specs.Steps.{AreAllMade, ended_copy}
use Rattle.distcp_sync.specs.Calls.{faulted_at}
use Rattle.script_text.specs.declared.command.Command.{Command}
use Rattle.script_text.specs.declared.command.Command.TheVariants as commands
use Rattle.script_text.specs.declared.script.ScriptLine.{ScriptLine}
use Rattle.run_output.specs.Calls.{Kept, same_side, AreOf, kept_by, side_of}

-- ---- lines that were run

-- what the sections of a script have: setup, the clients from 1 on, and finish
pub record Sections (X : Type 0) : Type 0 where
  pub setup : List X
  pub clients : List (List X)
  pub finish : List X

-- what a sync did: its report, the entries that it made in the target's journal, in order, and how many calls its caller then had made on each side
pub record SyncRun : Type 0 where
  pub report : SyncReport
  pub made : List Made
  pub source_calls : ℕ
  pub target_calls : ℕ

-- a line of the script, with its calls and what they were told, or what it did as a sync
pub record LineRun : Type 0 where
  pub line : ScriptLine
  pub said : List Said
  pub synced : Option SyncRun

-- a command that asks one namenode does no sync
abbrev pub IsNoSync : Option SyncRun → Type 0
IsNoSync None = ⊤
IsNoSync (Some sync) = ⊥

-- the entries of a sync are those that its report names
abbrev pub IsSync : Option SyncRun → Type 0
IsSync None = ⊥
IsSync (Some sync) = AreAllMade sync.report sync.made

-- just the command `sync` does a sync
abbrev pub DoesSync : Command → Option SyncRun → Type 0
DoesSync (commands.Call side call) synced = IsNoSync synced
DoesSync (commands.All side what) synced = IsNoSync synced
DoesSync (commands.First side what) synced = IsNoSync synced
DoesSync (commands.More side kind) synced = IsNoSync synced
DoesSync (commands.Sync source target from to) synced = IsSync synced

-- the calls of a section's lines, from the cursors that were kept before
abbrev pub AreCalls : ℕ → Kept → List LineRun → Type 0
AreCalls page kept [] = ⊤
AreCalls page kept (run ∷ runs) = AreOf page kept run.line.command run.said × DoesSync run.line.command run.synced × AreCalls page (kept_by page kept run.line.command run.said) runs

-- the cursors that are kept after them
abbrev pub kept_after : ℕ → Kept → List LineRun → Kept
kept_after page kept [] = kept
kept_after page kept (run ∷ runs) = kept_after page (kept_by page kept run.line.command run.said) runs

-- ---- steps

-- what happens on one side: a reply that is printed, an entry that a sync makes, the place of an entry that a sync's failed read leaves, or the
-- number of the last call of a sync, whose reads leave nothing else
pub data Step : Type 0 where
  printed : Said → Step
  made : Made → Step
  failed : ℕ → Step
  counted : ℕ → Step

-- whether the calls of a command go to this side
abbrev pub goes_to : Side → Option Side → Bool
goes_to side None = false
goes_to side (Some at) = same_side side at

abbrev pub asked_on : Side → LineRun → List Step
asked_on side run = if goes_to side (side_of run.line.command) then map printed run.said else []

-- a sync reads from the source, and makes entries at the target
abbrev pub synced_on : Side → Option SyncRun → List Step
synced_on side None = []
synced_on Source (Some sync) = map failed (faulted_at (ended_copy sync.report.copies)) ++ counted sync.source_calls ∷ []
synced_on Target (Some sync) = map made sync.made ++ counted sync.target_calls ∷ []

abbrev pub steps_of : Side → LineRun → List Step
steps_of side run = synced_on side run.synced ++ asked_on side run

abbrev pub steps_on : Side → List LineRun → List Step
steps_on side runs = flat_map (steps_of side) runs

abbrev pub steps_to : Side → Sections LineRun → Sections Step
steps_to side runs = record { setup = steps_on side runs.setup; clients = map (steps_on side) runs.clients; finish = steps_on side runs.finish }

-- the sections, one after the other
abbrev pub in_order : {X : Type 0} → Sections X → List X
in_order sections = sections.setup ++ (flat_map (λ client. client) sections.clients ++ sections.finish)

abbrev pub said_in : Step → Option Said
said_in (printed said) = Some said
said_in (made entry) = None
said_in (failed position) = None
said_in (counted number) = None

abbrev pub made_in : Step → Option Made
made_in (printed said) = None
made_in (made entry) = Some entry
made_in (failed position) = None
made_in (counted number) = None

abbrev pub failed_in : Step → Option ℕ
failed_in (printed said) = None
failed_in (made entry) = None
failed_in (failed position) = Some position
failed_in (counted number) = None

-- ---- numbers

-- the calls are counted one by one, to the last number of a u64; over a sync they rise
abbrev pub are_counted : ℕ → List Step → Bool
are_counted before [] = true
are_counted before (printed said ∷ more) = said.seq == min (before + 1) (2 ^ 64 - 1) && are_counted said.seq more
are_counted before (made entry ∷ more) = number_rises before entry.seq && are_counted entry.seq more
are_counted before (failed position ∷ more) = are_counted before more
are_counted before (counted number ∷ more) = nat_le before number && are_counted number more

-- ---- places

-- how much of the journal is known after a step, where so much was known before
abbrev pub known_by : ℕ → Step → ℕ
known_by from (printed said) = reach_of said.call said.told
known_by from (made entry) = entry.position + 1
known_by from (failed position) = position + 1
known_by from (counted number) = from

-- where a step stands, or so far where it has no place
abbrev pub place_or : ℕ → Step → ℕ
place_or from (printed said) = said.told.position
place_or from (made entry) = entry.position
place_or from (failed position) = position
place_or from (counted number) = from

-- each step stands at least where the one before ended
abbrev pub rises : ℕ → List Step → Bool
rises from [] = true
rises from (step ∷ more) = nat_le from (place_or from step) && rises (known_by from step) more

-- each step stands right where the one before ended
abbrev pub in_turn : ℕ → List Step → Bool
in_turn from [] = true
in_turn from (step ∷ more) = place_or from step == from && in_turn (known_by from step) more

-- how much is known after the last step
abbrev pub reached : ℕ → List Step → ℕ
reached from [] = from
reached from (step ∷ more) = reached (known_by from step) more

-- how far the clients came, each from there
abbrev pub all_reached : ℕ → List (List Step) → ℕ
all_reached from [] = from
all_reached from (client ∷ clients) = max (reached from client) (all_reached from clients)

-- where the next of these steps stands that has a place, or so far where none has
abbrev pub next_place : ℕ → List Step → ℕ
next_place end [] = end
next_place end (printed said ∷ more) = said.told.position
next_place end (made entry ∷ more) = entry.position
next_place end (failed position ∷ more) = position
next_place end (counted number ∷ more) = next_place end more

-- the least place at which one of the clients goes on
abbrev pub least_place : ℕ → List (List Step) → ℕ
least_place end [] = end
least_place end (client ∷ clients) = min (next_place end client) (least_place end clients)

-- ---- entries

-- where the entry stands that a step left for its caller, if it left one
abbrev pub left_at : Step → Option ℕ
left_at (printed said) = place_left said
left_at (made entry) = Some entry.position
left_at (failed position) = Some position
left_at (counted number) = None

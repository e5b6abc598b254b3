-- The syncs of a run, each between what was known before it and what was done behind it.
use Rattle.std.specs.Prelude.{ℕ, ◌+◌, Bool, List, [], ◌∷◌, map, length, Option, Some, None, ⊤}
use Rattle.hs_types.specs.declared.ids.CallerId.{CallerId}
use Rattle.hs_types.specs.declared.ids.Side.TheVariants.{Source, Target}
use Rattle.hs_types.specs.declared.journal.Entry.{Entry}
use Rattle.hs_types.specs.Limits.{journal_limit}
use Rattle.hs_plain.specs.Premises.{SyncAsk, SyncSide}
use Rattle.distcp_sync.specs.declared.report.SyncReport.{SyncReport}
use Rattle.distcp_sync.specs.Steps.{SyncSides}
use Rattle.script_text.specs.declared.command.Command.{Command}
use Rattle.script_text.specs.declared.command.Command.TheVariants as commands
use Rattle.run_output.specs.Steps.{Sections, SyncRun, LineRun, steps_of, steps_on, reached, all_reached, next_place, least_place}

-- both journals, and whether their stores tell their bytes
pub record Journals : Type 0 where
  pub source : List Entry
  pub target : List Entry
  pub source_tells : Bool
  pub target_tells : Bool

-- a place in each journal
pub record Places : Type 0 where
  pub source : ℕ
  pub target : ℕ

-- how far both journals are known after a line
abbrev pub known_after : Places → LineRun → Places
known_after low run = record { source = reached low.source (steps_of Source run); target = reached low.target (steps_of Target run) }

-- and after all lines of a section
abbrev pub known_behind : Places → List LineRun → Places
known_behind low runs = record { source = reached low.source (steps_on Source runs); target = reached low.target (steps_on Target runs) }

-- where these lines go on in both journals
abbrev pub goes_on : Places → List LineRun → Places
goes_on end runs = record { source = next_place end.source (steps_on Source runs); target = next_place end.target (steps_on Target runs) }

-- what a sync is asked for
abbrev pub asked_of : List ℕ → List ℕ → List ℕ → List ℕ → SyncAsk
asked_of source target from to = record { source_root = source; target_root = target; from = from; to = to }

-- a side of a caller's sync, between these places of its journal
abbrev pub side_between : List Entry → ℕ → ℕ → ℕ → SyncSide
side_between journal c low high = record { journal = journal; limit = journal_limit; span = record { low = low; high = high }; callers = record { 0 = c } ∷ [] }

abbrev pub sides_between : Journals → ℕ → Places → Places → SyncSides
sides_between journals c low high = record {
  source = side_between journals.source c low.source high.source;
  target = side_between journals.target c low.target high.target;
  source_tells = journals.source_tells;
  target_tells = journals.target_tells;
}

module _ (Did : SyncAsk → SyncSides → SyncReport → Type 0) (journals : Journals) where
  -- what a line's sync did, if it is one
  abbrev pub IsSyncLine : ℕ → Places → Places → Command → Option SyncRun → Type 0
  IsSyncLine c low high (commands.Sync source target from to) (Some sync) = Did (asked_of source target from to) (sides_between journals c low high) sync.report
  IsSyncLine c low high command synced = ⊤

  -- the syncs of one caller's lines: from what is known before them, up to where it goes on behind them
  abbrev pub AreSyncLines : ℕ → Places → Places → List LineRun → Type 0
  AreSyncLines c low high [] = ⊤
  AreSyncLines c low high (run ∷ runs) = IsSyncLine c low (goes_on high runs) run.line.command run.synced × AreSyncLines c (known_after low run) high runs

  abbrev pub AreClientSyncs : ℕ → Places → Places → List (List LineRun) → Type 0
  AreClientSyncs c low high [] = ⊤
  AreClientSyncs c low high (client ∷ clients) = AreSyncLines c low high client × AreClientSyncs (c + 1) low high clients

  abbrev pub begin : Places
  begin = record { source = 0; target = 0 }

  abbrev pub end : Places
  end = record { source = length journals.source; target = length journals.target }

  -- where the first of the clients goes on, or finish
  abbrev pub clients_go_on : Sections LineRun → Places
  clients_go_on runs = record {
    source = least_place (goes_on end runs.finish).source (map (steps_on Source) runs.clients);
    target = least_place (goes_on end runs.finish).target (map (steps_on Target) runs.clients);
  }

  -- how far all clients came, behind setup
  abbrev pub clients_known : Sections LineRun → Places
  clients_known runs = record {
    source = all_reached (known_behind begin runs.setup).source (map (steps_on Source) runs.clients);
    target = all_reached (known_behind begin runs.setup).target (map (steps_on Target) runs.clients);
  }

  -- the syncs of a run: the clients are behind setup, and finish is behind all clients
  pub record AreSyncs (runs : Sections LineRun) : Type 0 where
    pub setup : AreSyncLines 0 begin (clients_go_on runs) runs.setup
    pub clients : AreClientSyncs 1 (known_behind begin runs.setup) (goes_on end runs.finish) runs.clients
    pub finish : AreSyncLines 0 (clients_known runs) end runs.finish

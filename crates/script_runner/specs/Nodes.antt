-- What only private contracts and proofs use: a command that was run on a namenode.
use Rattle.std.specs.Prelude.{◌≡◌, ℕ, Bool, List, [], ◌∷◌, ◌++◌, map, Option, is_some}
use Rattle.hs_types.specs.Blocks.{BlockMap}
use Rattle.hs_types.specs.declared.ids.Side.{Side}
use Rattle.hs_types.specs.declared.journal.Entry.{Entry}
use Rattle.hs_types.specs.declared.reply.Answered.{Answered}
use Rattle.hs_plain.specs.Legal.{Said}
use Rattle.namenode_write.specs.FaultCounts.{CountsFaults}
use Rattle.namenode_write.specs.NamenodeValue.{NamenodeValue}
use Rattle.script_text.specs.declared.command.Command.{Command}
use Rattle.run_output.specs.declared.ran.LogWhat.{LogWhat}
use Rattle.run_output.specs.Calls.{Kept, AreOf, kept_by, side_of}
use Rattle.run_output.specs.Steps.{SyncRun, DoesSync}
use Rattle.run_output.specs.Run.{logged, sync_logged}
use Rattle.script_runner.specs.declared.client.Client.{Client}
use Rattle.script_runner.specs.declared.client.Session.{Session}
use Rattle.script_runner.specs.declared.commands.Ask.{Ask}
use Rattle.script_runner.specs.Keeping.{next_kept}
use Rattle.script_runner.specs.Commands.{on_each, asked_command}
use Rattle.script_runner.specs.InTurn.{World, world_of, AreNext, IsLineDone}

-- both journals, with a client's numbers
abbrev pub world : List Entry → List Entry → Client → World
world source target client = world_of source target client.source.calls client.target.calls

-- what stays of a namenode while a script runs
pub record StaysNode {S : Type 0} (blocks : S → Option BlockMap) (faults : S → ℕ) (old new : NamenodeValue S) : Type 0 where
  pub limit : new.limit ≡ old.limit
  pub tells : is_some (blocks new.store) ≡ is_some (blocks old.store)
  pub counted : CountsFaults faults old new

-- a command was run on a namenode, with these replies
pub record IsNodeRun (tells : Bool) (page c : ℕ) (ask : Ask) (old new : List Entry) (before after : Session) (replies : List Answered) : Type 0 where
  pub said : List Said
  pub calls : (side : Side) → AreOf page (on_each page before.cursors) (asked_command side ask) said
  pub made : AreNext tells c old before.calls said new after.calls
  pub replies_are : replies ≡ map (λ s. s.told) said
  pub keeps : (side : Side) → next_kept page after.cursors ≡ kept_by page (on_each page before.cursors) (asked_command side ask) said side

-- a command was run, and is logged so
pub record IsCommandDone (source_tells target_tells : Bool) (page c : ℕ) (old new : World) (kept now : Kept) (command : Command) (what : LogWhat) : Type 0 where
  pub said : List Said
  pub synced : Option SyncRun
  pub calls : AreOf page kept command said
  pub syncs : DoesSync command synced
  pub made : IsLineDone source_tells target_tells page c old command said synced new
  pub logs : (line : ℕ) → record { line = line; what = what } ∷ [] ≡ sync_logged line synced ++ logged line (side_of command) said
  pub keeps : now ≡ kept_by page kept command said

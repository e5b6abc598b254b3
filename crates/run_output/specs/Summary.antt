-- The summary of a run of a generated script.
use Rattle.std.specs.Prelude.{ℕ, Bool, true, false, List, [], ◌∷◌, length, codes}
use Rattle.std.specs.List.{flat_map, count_by}
use Rattle.std.specs.Fmt.{decimal}
use Rattle.hs_types.specs.declared.journal.Entry.{Entry}
use Rattle.distcp_sync.specs.declared.answer.SyncAnswer.{SyncAnswer}
use Rattle.distcp_sync.specs.declared.answer.SyncAnswer.TheVariants as answers
use Rattle.run_output.specs.declared.ran.Ran.{Ran}
use Rattle.run_output.specs.declared.ran.End.{End}
use Rattle.run_output.specs.declared.ran.ClientLog.{ClientLog}
use Rattle.run_output.specs.declared.ran.LogItem.{LogItem}
use Rattle.run_output.specs.declared.ran.LogWhat.{LogWhat}
use Rattle.run_output.specs.declared.ran.LogWhat.TheVariants.{Replies, NoCursor, Synced}
use Rattle.run_output.specs.TextParts.{spaced, ended}

-- the answer of a command that was a sync
abbrev pub sync_answer : LogWhat → List SyncAnswer
sync_answer (Replies side list) = []
sync_answer (NoCursor side) = []
sync_answer (Synced report) = report.answer ∷ []

-- the answers of all syncs of a run, in order
abbrev pub sync_answers : Ran → List SyncAnswer
sync_answers ran = flat_map (λ log. flat_map (λ item. sync_answer item.what) log.items) ran.logs

-- a sync that is done
abbrev pub is_done : SyncAnswer → Bool
is_done answers.Done = true
is_done answer = false

-- a namenode: the entries of its journal, the nodes of its live tree, and its live snapshots
abbrev pub side_summary : List ℕ → List Entry → End → List ℕ
side_summary name entries end = spaced (name ∷ codes "entries" ∷ decimal (length entries) ∷ codes "nodes" ∷ decimal (length end.tree) ∷ codes "snapshots" ∷ decimal end.counts.snapshots ∷ [])

abbrev pub summary_lines : Ran → ℕ → List (List ℕ)
summary_lines ran seed =
    spaced (codes "gen seed" ∷ decimal seed ∷ [])
    ∷ side_summary (codes "source") ran.source ran.source_end
    ∷ side_summary (codes "target") ran.target ran.target_end
    ∷ spaced (codes "syncs" ∷ decimal (length (sync_answers ran)) ∷ codes "done" ∷ decimal (count_by is_done (sync_answers ran)) ∷ []) ∷ []

-- the summary of a run of the script that this seed gives
abbrev pub summary_of : Ran → ℕ → List ℕ
summary_of ran seed = flat_map ended (summary_lines ran seed)

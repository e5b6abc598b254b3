-- How a sync ended, as the text of a run says it.
use Rattle.std.specs.Prelude.{ℕ, List, [], ◌∷◌, ◌++◌, codes}
use Rattle.std.specs.Fmt.{decimal}
use Rattle.hs_types.specs.Refusals.{number_of, refusal_name}
use Rattle.distcp_sync.specs.declared.answer.SyncAnswer.{SyncAnswer}
use Rattle.distcp_sync.specs.declared.answer.SyncAnswer.TheVariants as answers
use Rattle.run_output.specs.TextParts.{spaced, escaped}
use Rattle.run_output.specs.CallText.{call_text}
use Rattle.run_output.specs.ReplyText.{side_word, place_text, line_text}

abbrev pub answer_text : SyncAnswer → List ℕ
answer_text answers.Done = codes "done"
answer_text (answers.NoRoot side why) = spaced (codes "no root" ∷ side_word side ∷ decimal (number_of why) ∷ refusal_name why ∷ [])
answer_text (answers.NoSnapshot side name) = spaced (codes "no snapshot" ∷ side_word side ∷ escaped name ∷ [])
answer_text (answers.NotOlder from to) = spaced (codes "not older" ∷ decimal from.0 ∷ decimal to.0 ∷ [])
answer_text (answers.TargetChanged line) = spaced (codes "target changed" ∷ line_text line ∷ [])
answer_text (answers.PathLimit path) = spaced (codes "path limit" ∷ escaped path ∷ [])
answer_text (answers.Gone side) = spaced (codes "gone" ∷ side_word side ∷ [])
answer_text (answers.Refused call why position) = spaced (codes "refused" ∷ decimal (number_of why) ∷ refusal_name why ∷ (codes "@" ++ decimal position) ∷ call_text call ∷ [])
answer_text (answers.StoreFault side position) = spaced (codes "store fault" ∷ place_text side position ∷ [])
answer_text (answers.JournalFull side) = spaced (codes "journal full" ∷ side_word side ∷ [])
answer_text answers.NoMemory = codes "no memory"

-- the line of the script that asked for the sync, and how it ended
abbrev pub sync_line : ℕ → SyncAnswer → List ℕ
sync_line line answer = spaced (decimal line ∷ codes "sync" ∷ answer_text answer ∷ [])

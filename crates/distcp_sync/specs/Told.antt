-- What a sync makes of the replies that it is given: where it begins, and how it ends.
use Rattle.std.specs.Prelude.{◌≡◌, ◌⊎◌, ℕ, Bool, bytes_eq, nat_lt, if◌then◌else◌, List, [], ◌∷◌, Option, Some, None, Result, Ok, Err}
use Rattle.hs_types.specs.declared.ids.InodeId.{InodeId}
use Rattle.hs_types.specs.declared.ids.SnapId.{SnapId}
use Rattle.hs_types.specs.declared.ids.Side.{Side}
use Rattle.hs_types.specs.declared.ids.Side.TheVariants.{Source, Target}
use Rattle.hs_types.specs.declared.name.SnapItem.{SnapItem}
use Rattle.hs_types.specs.declared.call.Call.{Call}
use Rattle.hs_types.specs.declared.call.Call.TheVariants as calls
use Rattle.hs_types.specs.declared.refusal.Refusal.{Refusal}
use Rattle.hs_types.specs.declared.refusal.Refusal.TheVariants as refusals
use Rattle.hs_types.specs.declared.reply.Answered.{Answered}
use Rattle.hs_types.specs.declared.reply.Reply.{Reply}
use Rattle.hs_types.specs.declared.reply.Reply.TheVariants as replies
use Rattle.hs_plain.specs.Premises.{SyncAsk, now}
use Rattle.copy_workers.specs.declared.copied.Look.{Look}
use Rattle.distcp_sync.specs.declared.answer.SyncAnswer.{SyncAnswer}
use Rattle.distcp_sync.specs.declared.answer.SyncAnswer.TheVariants as answers
use Rattle.distcp_sync.specs.declared.report.SyncJob.{SyncJob}
use Rattle.distcp_sync.specs.declared.start.SyncStart.{SyncStart}

-- what a job asks for
abbrev pub ask_of : SyncJob → SyncAsk
ask_of job = record { source_root = job.source_root; target_root = job.target_root; from = job.from; to = job.to }

-- ---- where a sync begins

-- the id of the snapshot of this name
abbrev pub id_named : List SnapItem → List ℕ → Option SnapId
id_named [] name = None
id_named (item ∷ items) name = if bytes_eq item.name name then Some item.id else id_named items name

-- the ids, where the source's rise (DistCp guide, "-diff")
abbrev pub if_older : SyncStart → Result SyncStart SyncAnswer
if_older start = if nat_lt start.from.0 start.to.0 then Ok start else Err (answers.NotOlder start.from start.to)

-- the ids, or the first snapshot that is not there: the source's `from` and `to`, then the target's `from`
abbrev pub start_by : SyncAsk → InodeId → InodeId → Option SnapId → Option SnapId → Option SnapId → Result SyncStart SyncAnswer
start_by ask source target None to base = Err (answers.NoSnapshot Source ask.from)
start_by ask source target (Some from) None base = Err (answers.NoSnapshot Source ask.to)
start_by ask source target (Some from) (Some to) None = Err (answers.NoSnapshot Target ask.from)
start_by ask source target (Some from) (Some to) (Some base) = if_older (record { source = source; target = target; from = from; to = to; base = base })

-- where a sync begins, by what the two roots said of their snapshots
abbrev pub begun : SyncAsk → Reply → Reply → Result SyncStart SyncAnswer
begun ask (replies.Snaps source source_list) (replies.Snaps target target_list) = start_by ask source target (id_named source_list ask.from) (id_named source_list ask.to) (id_named target_list ask.from)
begun ask source target = Err answers.NoMemory

-- whether the target was changed since its `from`: the first line is enough
abbrev pub unchanged_call : SyncStart → Call
unchanged_call start = calls.ReportNext (record { root = start.target; from = start.base; to = now; tick = None; index = 0 }) 1

-- ---- how it ends at a reply that is no Ok reply

-- at the first call to a root
abbrev pub root_answer : Side → Reply → SyncAnswer
root_answer side (replies.Refused why) = answers.NoRoot side why
root_answer side reply = answers.NoMemory

-- a refused call is handed back
abbrev pub refused_answer : Option Call → Refusal → ℕ → SyncAnswer
refused_answer None why position = answers.NoMemory
refused_answer (Some call) why position = answers.Refused call why position

abbrev pub refusal_answer : Side → Answered → Refusal → SyncAnswer
refusal_answer side told refusals.Gone = answers.Gone side
refusal_answer side told refusals.StoreFault = answers.StoreFault side told.position
refusal_answer side told refusals.JournalFull = answers.JournalFull side
refusal_answer side told why = refused_answer told.back why told.position

-- at any later call
abbrev pub answer_by : Side → Answered → Reply → SyncAnswer
answer_by side told (replies.Refused why) = refusal_answer side told why
answer_by side told reply = answers.NoMemory

abbrev pub answer_at : Look → SyncAnswer
answer_at look = answer_by look.side look.reply look.reply.reply

-- this answer, or memory ran out, which is free
abbrev pub OrNoMemory : SyncAnswer → SyncAnswer → Type 0
OrNoMemory expected answer = (answer ≡ expected) ⊎ (answer ≡ answers.NoMemory)

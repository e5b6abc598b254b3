-- The answers of the plain machine, and what a reply is.
use Rattle.std.specs.Prelude.{ℕ, Bool, true, false, not, ◌||◌, if◌then◌else◌, List, map, Ok, Err}
use Rattle.hs_types.specs.declared.call.Call.{Call}
use Rattle.hs_types.specs.declared.call.Call.TheVariants as calls
use Rattle.hs_types.specs.declared.reply.Reply.{Reply}
use Rattle.hs_types.specs.declared.reply.Reply.TheVariants as replies
use Rattle.hs_types.specs.declared.refusal.Refusal.{Refusal}
use Rattle.hs_types.specs.declared.refusal.Refusal.TheVariants.{JournalFull, StoreFault}
use Rattle.hs_plain.specs.declared.state.State.{State}
use Rattle.hs_plain.specs.Asked.{Asked}
use Rattle.hs_plain.specs.Files.{Files, plain_files}
use Rattle.hs_plain.specs.Modifying.{mkdir_at, create_at, append_at, delete_at, rename_at, set_mode_at}
use Rattle.hs_plain.specs.Snapshotting.{allow_at, disallow_at, snap_at, snap_del_at, snap_ren_at}
use Rattle.hs_plain.specs.Reading.{read_reply, next_reply, stat_reply, list_reply, list_next_reply, snaps_reply, dirs_reply, report_reply, report_next_reply}

-- ---- all calls

-- a new node gets the next id
abbrev pub made_reply : {B : Type 0} → State B → Reply
made_reply state = replies.Made (record { 0 = state.next_inode })

-- a new snapshot gets the next snapshot id
abbrev pub snap_made_reply : {B : Type 0} → State B → Reply
snap_made_reply state = replies.SnapMade (record { 0 = state.next_snapshot })

-- the reply to what was asked for
abbrev pub replied : {X : Type 0} → Reply → Asked X → Asked Reply
replied reply (Ok x) = Ok reply
replied reply (Err why) = Err why

-- the first refusal that holds, or else the Ok reply
abbrev pub asked : {B : Type 0} → Files B → State B → Call → Asked Reply
asked files state (calls.Mkdir path) = replied (made_reply state) (mkdir_at state path)
asked files state (calls.Create path over) = replied (made_reply state) (create_at state path over)
asked files state (calls.Append path bytes) = replied replies.Done (append_at state path)
asked files state (calls.Delete path recursive) = replied replies.Done (delete_at state path recursive)
asked files state (calls.Rename old new) = replied replies.Done (rename_at state old new)
asked files state (calls.SetMode path mode) = replied replies.Done (set_mode_at state path)
asked files state (calls.Allow path) = replied replies.Done (allow_at state path)
asked files state (calls.Disallow path) = replied replies.Done (disallow_at state path)
asked files state (calls.Snap path name) = replied (snap_made_reply state) (snap_at state path name)
asked files state (calls.SnapDel path name) = replied replies.Done (snap_del_at state path name)
asked files state (calls.SnapRen path old new) = replied replies.Done (snap_ren_at state path old new)
asked files state (calls.Read path offset len) = read_reply files state path offset len
asked files state (calls.ReadNext cursor len) = next_reply files state cursor len
asked files state (calls.Stat path) = stat_reply files state path
asked files state (calls.List path size) = list_reply state path size
asked files state (calls.ListNext cursor size) = list_next_reply state cursor size
asked files state (calls.Snaps path) = snaps_reply state path
asked files state calls.Dirs = Ok (dirs_reply state)
asked files state (calls.Report path from to size) = report_reply state path from to size
asked files state (calls.ReportNext cursor size) = report_next_reply state cursor size

abbrev pub reply_to : Asked Reply → Reply
reply_to (Ok reply) = reply
reply_to (Err why) = replies.Refused why

-- the answer in a state whose files are kept in some way
abbrev pub answer_by : {B : Type 0} → Files B → State B → Call → Reply
answer_by files state call = reply_to (asked files state call)

-- the answer of the plain machine
abbrev pub answer : State (List ℕ) → Call → Reply
answer state call = answer_by plain_files state call

-- whether a call may change the state
abbrev pub is_modifying : Call → Bool
is_modifying (calls.Mkdir path) = true
is_modifying (calls.Create path over) = true
is_modifying (calls.Append path bytes) = true
is_modifying (calls.Delete path recursive) = true
is_modifying (calls.Rename old new) = true
is_modifying (calls.SetMode path mode) = true
is_modifying (calls.Allow path) = true
is_modifying (calls.Disallow path) = true
is_modifying (calls.Snap path name) = true
is_modifying (calls.SnapDel path name) = true
is_modifying (calls.SnapRen path old new) = true
is_modifying (calls.Read path offset len) = false
is_modifying (calls.ReadNext cursor len) = false
is_modifying (calls.Stat path) = false
is_modifying (calls.List path size) = false
is_modifying (calls.ListNext cursor size) = false
is_modifying (calls.Snaps path) = false
is_modifying calls.Dirs = false
is_modifying (calls.Report path from to size) = false
is_modifying (calls.ReportNext cursor size) = false

-- whether a call touches a file's bytes, and so may be answered by a fault of the store
abbrev pub uses_store : Call → Bool
uses_store (calls.Mkdir path) = false
uses_store (calls.Create path over) = false
uses_store (calls.Append path bytes) = true
uses_store (calls.Delete path recursive) = false
uses_store (calls.Rename old new) = false
uses_store (calls.SetMode path mode) = false
uses_store (calls.Allow path) = false
uses_store (calls.Disallow path) = false
uses_store (calls.Snap path name) = false
uses_store (calls.SnapDel path name) = false
uses_store (calls.SnapRen path old new) = false
uses_store (calls.Read path offset len) = true
uses_store (calls.ReadNext cursor len) = true
uses_store (calls.Stat path) = false
uses_store (calls.List path size) = false
uses_store (calls.ListNext cursor size) = false
uses_store (calls.Snaps path) = false
uses_store calls.Dirs = false
uses_store (calls.Report path from to size) = false
uses_store (calls.ReportNext cursor size) = false

-- whether a call is made alone: it changes the state, or uses the store
abbrev pub is_exclusive : Call → Bool
is_exclusive call = is_modifying call || uses_store call

-- whether a call may be made beside others
abbrev pub is_shared : Call → Bool
is_shared call = not (is_exclusive call)

-- whether a reply says that the call was done
abbrev pub is_ok_reply : Reply → Bool
is_ok_reply (replies.Made id) = true
is_ok_reply replies.Done = true
is_ok_reply (replies.SnapMade id) = true
is_ok_reply (replies.Bytes bytes next) = true
is_ok_reply (replies.Stat id is_dir mode stamp size) = true
is_ok_reply (replies.Page items next) = true
is_ok_reply (replies.Snaps dir list) = true
is_ok_reply (replies.Dirs list) = true
is_ok_reply (replies.Report lines next) = true
is_ok_reply (replies.Refused why) = false
is_ok_reply replies.NoMemory = false

-- ---- what a reply is

-- who a reply comes from: the plain machine, a fault of the store, the journal's limit, or want of memory
pub data Origin : Type 0 where
  machine : Origin
  store : Origin
  limit : Origin
  memory : Origin

abbrev pub origin_of_refusal : Refusal → Origin
origin_of_refusal StoreFault = store
origin_of_refusal JournalFull = limit
origin_of_refusal why = machine

abbrev pub origin_of : Reply → Origin
origin_of (replies.Refused why) = origin_of_refusal why
origin_of replies.NoMemory = memory
origin_of reply = machine

abbrev pub is_machine : Origin → Bool
is_machine machine = true
is_machine other = false

abbrev pub is_store : Origin → Bool
is_store store = true
is_store other = false

abbrev pub is_limit : Origin → Bool
is_limit limit = true
is_limit other = false

-- whether a reply is the plain machine's; the others change nothing but the tick
abbrev pub is_plain_reply : Reply → Bool
is_plain_reply reply = is_machine (origin_of reply)

-- whether a reply says that the store failed
abbrev pub is_store_fault : Reply → Bool
is_store_fault reply = is_store (origin_of reply)

-- whether a reply says that the journal is full
abbrev pub is_journal_full : Reply → Bool
is_journal_full reply = is_limit (origin_of reply)

-- ---- replies over a store that doesn't tell its bytes

-- a zero for each byte
abbrev pub blank : List ℕ → List ℕ
blank bytes = map (λ byte. 0) bytes

-- the reply but for the bytes of a file
abbrev pub blanked : Reply → Reply
blanked (replies.Made id) = replies.Made id
blanked replies.Done = replies.Done
blanked (replies.SnapMade id) = replies.SnapMade id
blanked (replies.Bytes bytes next) = replies.Bytes (blank bytes) next
blanked (replies.Stat id is_dir mode stamp size) = replies.Stat id is_dir mode stamp size
blanked (replies.Page items next) = replies.Page items next
blanked (replies.Snaps dir list) = replies.Snaps dir list
blanked (replies.Dirs list) = replies.Dirs list
blanked (replies.Report lines next) = replies.Report lines next
blanked (replies.Refused why) = replies.Refused why
blanked replies.NoMemory = replies.NoMemory

-- what is claimed of a reply: all of it where the store tells its bytes, and else all but the bytes
abbrev pub claimed : Bool → Reply → Reply
claimed tells reply = if tells then reply else blanked reply

-- What kind of reply a call may have.
use Rattle.std.proofs.Common.{◌≡◌, ℕ, ◌+◌, ◌<◌, ◌≤◌, nat_le, Bool, true, false, if◌then◌else◌, Option, Some, None, Ok, Err, List, length, refl, ap, sym, ◌∙◌, subst, arith}
use Rattle.std.specs.Prelude.{IfSome}
use Rattle.hs_types.specs.declared.call.Call.{Call}
use Rattle.hs_types.specs.declared.call.Call.TheVariants as calls
use Rattle.hs_types.specs.declared.call.Place.{Place}
use Rattle.hs_types.specs.declared.call.ReadCursor.{ReadCursor}
use Rattle.hs_types.specs.declared.reply.Answered.{Answered}
use Rattle.hs_types.specs.declared.reply.Reply.{Reply}
use Rattle.hs_types.specs.declared.reply.Reply.TheVariants as replies
use Rattle.hs_plain.specs.declared.state.State.{State}
use Rattle.hs_plain.specs.Asked.{Asked, ◌>>=◌}
use Rattle.hs_plain.specs.Files.{plain_files}
use Rattle.hs_plain.specs.Reading.{next_file, page_at}
use Rattle.hs_plain.specs.Answer.{answer, reply_to, blanked, is_ok_reply, is_plain_reply}
use Rattle.hs_plain.specs.Joined.{bytes_shown, read_cursor, is_bytes}
use Rattle.hs_plain.specs.Replay.{plain_after}
use Rattle.hs_plain.proofs.Paged.{observed}
use Rattle.page_join.specs.Links.{Known, IsCall}
use Rattle.copy_workers.specs.inside.Pages.{IsPage}
use Rattle.std.specs.Prelude.{take}

ok-blank : (reply : Reply) → is_ok_reply (blanked reply) ≡ is_ok_reply reply
ok-blank (replies.Bytes bytes next) = refl
ok-blank reply = refl

-- what isn't the plain machine's is no Ok reply
foreign_not_ok : (reply : Reply) → is_plain_reply reply ≡ false → is_ok_reply reply ≡ false
foreign_not_ok (replies.Refused why) e = refl
foreign_not_ok replies.NoMemory e = refl
foreign_not_ok reply e = absurd (cc)

-- where the plain machine's Ok replies to a call are all of a kind that the bytes don't tell, so are a link's
pub of_kind : (kind : Reply → Bool) → ((reply : Reply) → kind (blanked reply) ≡ kind reply) → (call : Call) → ((state : State (List ℕ)) → kind (answer state call) ≡ false → is_ok_reply (answer state call) ≡ false) →
    (old new : Known) (told : Answered) → IsCall old new call told → kind told.reply ≡ false → is_ok_reply told.reply ≡ false
of_kind kind blank call machine old new told called isnt = by (is_plain_reply told.reply) refl
  where
    state : State (List ℕ)
    state = plain_after (take told.position new.seen)

    by : (plain : Bool) → is_plain_reply told.reply ≡ plain → is_ok_reply told.reply ≡ false
    by false e = foreign_not_ok told.reply e
    by true e = observed is_ok_reply ok-blank old.tells told.reply (answer state call) (called.legal.answered e) ∙ machine state (sym (observed kind blank old.tells told.reply (answer state call) (called.legal.answered e)) ∙ isnt)

-- ---- pages of a file

pub cursor-blank : (reply : Reply) → read_cursor (blanked reply) ≡ read_cursor reply
cursor-blank (replies.Bytes bytes next) = refl
cursor-blank reply = refl

pub bytes-blank : (reply : Reply) → is_bytes (blanked reply) ≡ is_bytes reply
bytes-blank (replies.Bytes bytes next) = refl
bytes-blank reply = refl

pub bytes_plain : (reply : Reply) → is_bytes reply ≡ true → is_plain_reply reply ≡ true
bytes_plain (replies.Bytes bytes next) e = refl
bytes_plain reply e = absurd (cc)

bytes_or_none : (offset len : ℕ) (found : Asked (Place × List ℕ)) → is_bytes (reply_to (found >>= λ at. Ok (page_at plain_files offset len at))) ≡ false → is_ok_reply (reply_to (found >>= λ at. Ok (page_at plain_files offset len at))) ≡ false
bytes_or_none offset len (Ok at) e = absurd (cc)
bytes_or_none offset len (Err why) e = refl

-- any other reply to a read is no Ok reply
pub bytes_or_ended : (cursor : ReadCursor) (old new : Known) (told : Answered) → IsCall old new (calls.ReadNext cursor 65536) told → is_bytes told.reply ≡ false → is_ok_reply told.reply ≡ false
bytes_or_ended cursor = of_kind is_bytes bytes-blank (calls.ReadNext cursor 65536) (λ state. bytes_or_none cursor.offset 65536 (next_file state cursor.place))

abbrev GoesOn : ℕ → Option ReadCursor → Type 0
GoesOn offset next = IfSome next (λ at. offset < at.offset)

further : (offset len size : ℕ) (place : Place) → 1 ≤ len → (ended : Bool) → GoesOn offset (if ended then None else Some (record { place = place; offset = offset + len }))
further offset len size place some true = tt
further offset len size place some false = omega arith

further_on : (offset len : ℕ) → 1 ≤ len → (found : Asked (Place × List ℕ)) → GoesOn offset (read_cursor (reply_to (found >>= λ at. Ok (page_at plain_files offset len at))))
further_on offset len some (Ok at) = further offset len (length at.1) at.0 some (nat_le (length at.1) (offset + len))
further_on offset len some (Err why) = tt

-- the next page begins further on
pub next_behind : (cursor : ReadCursor) (old new : Known) (told : Answered) → IsCall old new (calls.ReadNext cursor 65536) told → is_bytes told.reply ≡ true → GoesOn cursor.offset (read_cursor told.reply)
next_behind cursor old new told called is =
    let state : State (List ℕ) = plain_after (take told.position new.seen) in
    subst (GoesOn cursor.offset) (sym (observed read_cursor cursor-blank old.tells told.reply (answer state (calls.ReadNext cursor 65536)) (called.legal.answered (bytes_plain told.reply is))))
    (further_on cursor.offset 65536 (omega arith) (next_file state cursor.place))

-- a page that was read
pub page_read : (cursor : ReadCursor) (old new : Known) (call : Call) (told : Answered) (bytes : List ℕ) (next : Option ReadCursor) → call ≡ calls.ReadNext cursor 65536 → IsCall old new call told → told.reply ≡ replies.Bytes bytes next →
    (x : Answered) × IsPage old new cursor x × (bytes ≡ bytes_shown x.reply) × (next ≡ read_cursor x.reply) × IfSome next (λ at. cursor.offset < at.offset)
page_read cursor old new call told bytes next is called reply =
    let asked : IsCall old new (calls.ReadNext cursor 65536) told = subst (λ (c : Call). IsCall old new c told) is called in
    let page : is_bytes told.reply ≡ true = ap is_bytes reply in
    (told, record { called = asked; bytes = page }, sym (ap bytes_shown reply), sym (ap read_cursor reply), subst (GoesOn cursor.offset) (ap read_cursor reply) (next_behind cursor old new told asked page))

-- Replies to calls for pages: a page whose cursor goes on with the same content, or no Ok reply.
use Rattle.std.proofs.Common.{◌≡◌, ◌⊎◌, inl, inr, ℕ, ◌+◌, nat_le, take, drop, length, Bool, true, false, cond, ◌||◌, ◌&&◌, not, Option, Some, None, Ok, Err, List, refl, ap, sym, ◌∙◌, subst}
use Rattle.hs_types.specs.declared.call.Call.{Call}
use Rattle.hs_types.specs.declared.call.Call.TheVariants as calls
use Rattle.hs_types.specs.declared.call.ListCursor.{ListCursor}
use Rattle.hs_types.specs.declared.call.Place.{Place}
use Rattle.hs_types.specs.declared.call.ReportCursor.{ReportCursor}
use Rattle.hs_types.specs.declared.refusal.Refusal.{Refusal}
use Rattle.hs_types.specs.declared.refusal.Refusal.TheVariants.{Gone, NotSnapshottable, NoSnapshot, Moved}
use Rattle.hs_types.specs.declared.reply.Answered.{Answered}
use Rattle.hs_types.specs.declared.reply.Item.{Item}
use Rattle.hs_types.specs.declared.reply.Line.{Line}
use Rattle.hs_types.specs.declared.reply.Reply.{Reply}
use Rattle.hs_types.specs.declared.reply.Reply.TheVariants as replies
use Rattle.hs_plain.specs.declared.state.State.{State}
use Rattle.hs_plain.specs.Asked.{Asked, ◌>>=◌, refuse_if}
use Rattle.hs_plain.specs.State.{is_snapshottable, items_at}
use Rattle.hs_plain.specs.Pages.{items_behind, next_cursor, last_name, page_of, next_lines, lines_page}
use Rattle.hs_plain.specs.Reading.{is_gone, is_deleted, is_foreign, has_moved, began_at, lines_between}
use Rattle.hs_plain.specs.Answer.{Origin, origin_of, is_machine, is_store, answer, reply_to, blanked, claimed, is_modifying, uses_store, is_ok_reply, is_store_fault}
use Rattle.hs_plain.specs.Legal.{leaves_entry}
use Rattle.hs_plain.specs.Joined.{known_state, list_cursor, report_cursor}
use Rattle.hs_plain.proofs.Answers.{answers_own}
use Rattle.hs_plain.proofs.Facts.{some_of}
use Rattle.hs_plain.proofs.Paged.{observed, shared_reply}
use Rattle.page_join.specs.Links.{Known, IsCall, said_by}
use Rattle.distcp_sync.specs.inside.Pages.{items_of_page, lines_of_page}
use Rattle.distcp_sync.specs.inside.Fetching.{IsListCall, IsReportCall}

-- ---- listings

-- a page of what stands at this place, or a refusal
data IsListAnswer (place : Place) : Reply → Type 0 where
  page : (items : List Item) (next : Option ListCursor) → ((cursor : ListCursor) → next ≡ Some cursor → cursor.place ≡ place) → IsListAnswer place (replies.Page items next)
  refused : (why : Refusal) → IsListAnswer place (replies.Refused why)

next_place : (place : Place) (items : List Item) (size : ℕ) (cursor : ListCursor) → next_cursor place items size ≡ Some cursor → cursor.place ≡ place
next_place place items size cursor = by (nat_le (length items) size) (record { place = place; after = last_name (take size items) }) refl
  where
    by : (b : Bool) (made : ListCursor) → made.place ≡ place → cond b None (Some made) ≡ Some cursor → cursor.place ≡ place
    by true made at e = absurd (cc)
    by false made at e = sym (ap (λ (c : ListCursor). c.place) (some_of made cursor e)) ∙ at

list_by : (place : Place) (after : Option (List ℕ)) (size : ℕ) (gone : Bool) (asked : Asked (List Item)) →
    IsListAnswer place (reply_to (refuse_if gone Gone >>= λ live. asked >>= λ items. Ok (page_of place items after size)))
list_by place after size true asked = IsListAnswer.refused Gone
list_by place after size false (Err why) = IsListAnswer.refused why
list_by place after size false (Ok items) =
    let left : List Item = items_behind after items in
    IsListAnswer.page (take size left) (next_cursor place left size) (next_place place left size)

list_answer : (state : State (List ℕ)) (cursor : ListCursor) (size : ℕ) → IsListAnswer cursor.place (answer state (calls.ListNext cursor size))
list_answer state cursor size = list_by cursor.place cursor.after size (is_gone state cursor.place) (items_at state cursor.place)

-- ---- reports

-- the cursor is of the same report
pub record IsSameReport (begun cursor : ReportCursor) : Type 0 where
  pub root : cursor.root ≡ begun.root
  pub from : cursor.from ≡ begun.from
  pub to : cursor.to ≡ begun.to

-- a page of this report, or a refusal
data IsReportAnswer (begun : ReportCursor) : Reply → Type 0 where
  page : (lines : List Line) (next : Option ReportCursor) → ((cursor : ReportCursor) → next ≡ Some cursor → IsSameReport begun cursor) → IsReportAnswer begun (replies.Report lines next)
  refused : (why : Refusal) → IsReportAnswer begun (replies.Refused why)

next_same : (begun : ReportCursor) (tick count end : ℕ) (cursor : ReportCursor) → next_lines begun tick count end ≡ Some cursor → IsSameReport begun cursor
next_same begun tick count end cursor = by (nat_le count end)
  where
    made : ReportCursor
    made = record begun { tick = Some tick; index = end }

    by : (b : Bool) → cond b None (Some made) ≡ Some cursor → IsSameReport begun cursor
    by true e = absurd (cc)
    by false e = subst (IsSameReport begun) (some_of made cursor e) (record { root = refl; from = refl; to = refl })

-- what a call for a page of a report is answered, by what each test says
abbrev tested : (gone elsewhere foreign moved : Bool) → Refusal → Reply → Reply
tested gone elsewhere foreign moved why shown =
    reply_to (refuse_if gone Gone >>= λ _. refuse_if elsewhere NotSnapshottable >>= λ _. refuse_if foreign NoSnapshot >>= λ _. refuse_if moved why >>= λ _. Ok shown)

report_by : (begun : ReportCursor) (tick size : ℕ) (lines : List Line) (why : Refusal) (gone elsewhere foreign moved : Bool) → IsReportAnswer begun (tested gone elsewhere foreign moved why (lines_page begun tick lines size))
report_by begun tick size lines why true elsewhere foreign moved = IsReportAnswer.refused Gone
report_by begun tick size lines why false true foreign moved = IsReportAnswer.refused NotSnapshottable
report_by begun tick size lines why false false true moved = IsReportAnswer.refused NoSnapshot
report_by begun tick size lines why false false false true = IsReportAnswer.refused why
report_by begun tick size lines why false false false false =
    IsReportAnswer.page (take size (drop begun.index lines)) (next_lines begun tick (length lines) (begun.index + size)) (next_same begun tick (length lines) (begun.index + size))

report_answer : (state : State (List ℕ)) (cursor : ReportCursor) (size : ℕ) → IsReportAnswer cursor (answer state (calls.ReportNext cursor size))
report_answer state cursor size =
    report_by cursor (began_at state.tick cursor.tick) size (lines_between state cursor.root cursor.from cursor.to) (Moved (began_at state.tick cursor.tick) state.tick)
    (is_deleted state cursor.from || is_deleted state cursor.to) (not (is_snapshottable state cursor.root)) (is_foreign state cursor.root cursor.from || is_foreign state cursor.root cursor.to) (has_moved state cursor)

-- ---- what was told

blank_page : (reply : Reply) (items : List Item) (next : Option ListCursor) → blanked reply ≡ replies.Page items next → reply ≡ replies.Page items next
blank_page (replies.Bytes bytes cursor) items next e = absurd (cc)
blank_page reply items next e = e

blank_report : (reply : Reply) (lines : List Line) (next : Option ReportCursor) → blanked reply ≡ replies.Report lines next → reply ≡ replies.Report lines next
blank_report (replies.Bytes bytes cursor) lines next e = absurd (cc)
blank_report reply lines next e = e

blank_refused : (reply : Reply) (why : Refusal) → blanked reply ≡ replies.Refused why → reply ≡ replies.Refused why
blank_refused (replies.Bytes bytes cursor) why e = absurd (cc)
blank_refused reply why e = e

told_list : (place : Place) (tells : Bool) (reply other : Reply) → IsListAnswer place other → claimed tells reply ≡ claimed tells other → IsListAnswer place reply
told_list place true reply other is e = subst (IsListAnswer place) (sym e) is
told_list place false reply other (IsListAnswer.page items next same) e = subst (IsListAnswer place) (sym (blank_page reply items next e)) (IsListAnswer.page items next same)
told_list place false reply other (IsListAnswer.refused why) e = subst (IsListAnswer place) (sym (blank_refused reply why e)) (IsListAnswer.refused why)

told_report : (begun : ReportCursor) (tells : Bool) (reply other : Reply) → IsReportAnswer begun other → claimed tells reply ≡ claimed tells other → IsReportAnswer begun reply
told_report begun true reply other is e = subst (IsReportAnswer begun) (sym e) is
told_report begun false reply other (IsReportAnswer.page lines next same) e = subst (IsReportAnswer begun) (sym (blank_report reply lines next e)) (IsReportAnswer.page lines next same)
told_report begun false reply other (IsReportAnswer.refused why) e = subst (IsReportAnswer begun) (sym (blank_refused reply why e)) (IsReportAnswer.refused why)

-- what the plain machine answers at the call's place, or NoMemory
called_so : (old new : Known) (call : Call) (told : Answered) → IsCall old new call told → is_modifying call ≡ false → uses_store call ≡ false →
    (claimed old.tells told.reply ≡ claimed old.tells (answer (known_state new.seen (said_by new call told)) call)) ⊎ (told.reply ≡ replies.NoMemory)
called_so old new call told called = shared_reply old.tells old.limit new.seen old.caller (said_by new call told) called.lawful.proper called.legal

-- a reply of the plain machine is no fault of the store
plain_no_fault : (origin : Origin) → is_machine origin ≡ true → is_store origin ≡ false
plain_no_fault Origin.machine e = refl
plain_no_fault origin e = absurd (cc)

fault-blank : (reply : Reply) → is_store_fault (blanked reply) ≡ is_store_fault reply
fault-blank (replies.Refused why) = refl
fault-blank reply = refl

left_none : (fault modifying ok : Bool) → fault ≡ false → modifying ≡ false → (fault || (modifying && ok)) ≡ false
left_none true modifying ok e f = absurd (cc)
left_none false true ok e f = absurd (cc)
left_none false false ok e f = refl

-- a call that changes nothing and uses no store leaves no entry
pub quiet_call : (old new : Known) (call : Call) (told : Answered) → IsCall old new call told → is_modifying call ≡ false → uses_store call ≡ false → leaves_entry call told.reply ≡ false
quiet_call old new call told called modifies_none stores_none =
    let own : Reply = answer (known_state new.seen (said_by new call told)) call in
    left_none (is_store_fault told.reply) (is_modifying call) (is_ok_reply told.reply)
    (elim (called_so old new call told called modifies_none stores_none) as (λ _. is_store_fault told.reply ≡ false) [
      | inl plain ↦ observed is_store_fault fault-blank old.tells told.reply own plain ∙ plain_no_fault (origin_of own) (answers_own (known_state new.seen (said_by new call told)) call)
      | inr memory ↦ ap is_store_fault memory
    ]) modifies_none

abbrev IsListTold : Place → Reply → Type 0
IsListTold place reply = IsListAnswer place reply ⊎ (reply ≡ replies.NoMemory)

abbrev IsReportTold : ReportCursor → Reply → Type 0
IsReportTold begun reply = IsReportAnswer begun reply ⊎ (reply ≡ replies.NoMemory)

module _ (old new : Known) (call : Call) (told : Answered) (called : IsCall old new call told) (page : ℕ) where
  listed : (place : Place) → IsListCall place page call → IsListTold place told.reply
  listed place asks =
      elim (called_so old new call told called (ap is_modifying asks.call_is) (ap uses_store asks.call_is)) as (λ _. IsListTold place told.reply) [
        | inl plain ↦ inl (told_list place old.tells told.reply (answer at call) (subst (λ (c : Call). IsListAnswer place (answer at c)) (sym asks.call_is) (list_answer at (record { place = place; after = asks.after }) page)) plain)
        | inr memory ↦ inr memory
      ]
    where
      at : State (List ℕ)
      at = known_state new.seen (said_by new call told)

  reported : (begun : ReportCursor) → IsReportCall begun page call → IsReportTold begun told.reply
  reported begun asks =
      elim (called_so old new call told called (ap is_modifying asks.call_is) (ap uses_store asks.call_is)) as (λ _. IsReportTold begun told.reply) [
        | inl plain ↦ inl (told_report begun old.tells told.reply (answer at call) (same (answer at call) (subst (λ (c : Call). IsReportAnswer asks.cursor (answer at c)) (sym asks.call_is) (report_answer at asks.cursor page))) plain)
        | inr memory ↦ inr memory
      ]
    where
      at : State (List ℕ)
      at = known_state new.seen (said_by new call told)

      same : (reply : Reply) → IsReportAnswer asks.cursor reply → IsReportAnswer begun reply
      same reply (IsReportAnswer.page lines next is) = IsReportAnswer.page lines next (λ cursor e. let so : IsSameReport asks.cursor cursor = is cursor e in record { root = so.root ∙ asks.root; from = so.from ∙ asks.from; to = so.to ∙ asks.to })
      same reply (IsReportAnswer.refused why) = IsReportAnswer.refused why

-- ---- what follows

list_ok : (place : Place) (reply : Reply) → IsListTold place reply → items_of_page reply ≡ None → is_ok_reply reply ≡ false
list_ok place reply (inl (IsListAnswer.page items next same)) none = absurd (cc)
list_ok place reply (inl (IsListAnswer.refused why)) none = refl
list_ok place reply (inr memory) none = ap is_ok_reply memory

list_on : (place : Place) (reply : Reply) → IsListTold place reply → (cursor : ListCursor) → list_cursor reply ≡ Some cursor → cursor.place ≡ place
list_on place reply (inl (IsListAnswer.page items next same)) cursor e = same cursor e
list_on place reply (inl (IsListAnswer.refused why)) cursor e = absurd (cc)
list_on place reply (inr memory) cursor e = absurd (none_such (sym (ap list_cursor memory) ∙ e))
  where
    none_such : None ≡ Some cursor → ⊥
    none_such e = cc

report_ok : (begun : ReportCursor) (reply : Reply) → IsReportTold begun reply → lines_of_page reply ≡ None → is_ok_reply reply ≡ false
report_ok begun reply (inl (IsReportAnswer.page lines next same)) none = absurd (cc)
report_ok begun reply (inl (IsReportAnswer.refused why)) none = refl
report_ok begun reply (inr memory) none = ap is_ok_reply memory

report_on : (begun : ReportCursor) (reply : Reply) → IsReportTold begun reply → (cursor : ReportCursor) → report_cursor reply ≡ Some cursor → IsSameReport begun cursor
report_on begun reply (inl (IsReportAnswer.page lines next same)) cursor e = same cursor e
report_on begun reply (inl (IsReportAnswer.refused why)) cursor e = absurd (cc)
report_on begun reply (inr memory) cursor e = absurd (none_such (sym (ap report_cursor memory) ∙ e))
  where
    none_such : None ≡ Some cursor → ⊥
    none_such e = cc

module _ (old new : Known) (call : Call) (told : Answered) (called : IsCall old new call told) (page : ℕ) where
  -- a reply to a call for items that is no page is no Ok reply
  pub list_ended : (place : Place) → IsListCall place page call → items_of_page told.reply ≡ None → is_ok_reply told.reply ≡ false
  list_ended place asks = list_ok place told.reply (listed old new call told called page place asks)

  -- and a cursor in a page is of the same place
  pub list_goes_on : (place : Place) → IsListCall place page call → (cursor : ListCursor) → list_cursor told.reply ≡ Some cursor → cursor.place ≡ place
  list_goes_on place asks = list_on place told.reply (listed old new call told called page place asks)

  -- a reply to a call for lines that is no page is no Ok reply
  pub report_ended : (begun : ReportCursor) → IsReportCall begun page call → lines_of_page told.reply ≡ None → is_ok_reply told.reply ≡ false
  report_ended begun asks = report_ok begun told.reply (reported old new call told called page begun asks)

  -- and a cursor in a page is of the same report
  pub report_goes_on : (begun : ReportCursor) → IsReportCall begun page call → (cursor : ReportCursor) → report_cursor told.reply ≡ Some cursor → IsSameReport begun cursor
  report_goes_on begun asks = report_on begun told.reply (reported old new call told called page begun asks)

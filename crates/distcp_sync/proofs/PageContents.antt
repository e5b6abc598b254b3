-- What was read of a listing and of a report.
use Rattle.std.proofs.Common.{◌≡◌, ◌⊎◌, inl, inr, ℕ, Bool, true, false, ◌||◌, ◌&&◌, Option, Some, None, is_some, Result, Ok, Err, List, [], ◌∷◌, ◌++◌, length, drop, refl, ap, sym, ◌∙◌, subst, append-nil}
use Rattle.std.specs.List.{flat_map}
use Rattle.std.specs.Prelude.{IfOk, IsErr}
use Rattle.hs_types.specs.declared.ids.InodeId.{InodeId}
use Rattle.hs_types.specs.declared.ids.SnapId.{SnapId}
use Rattle.hs_types.specs.declared.memory.NoMemory.{NoMemory}
use Rattle.hs_types.specs.declared.call.Call.{Call}
use Rattle.hs_types.specs.declared.call.Call.TheVariants as calls
use Rattle.hs_types.specs.declared.call.ListCursor.{ListCursor}
use Rattle.hs_types.specs.declared.call.Place.{Place}
use Rattle.hs_types.specs.declared.call.Place.TheVariants as places
use Rattle.hs_types.specs.declared.call.ReportCursor.{ReportCursor}
use Rattle.hs_types.specs.declared.refusal.Refusal.TheVariants.{Gone}
use Rattle.hs_types.specs.declared.reply.Answered.{Answered}
use Rattle.hs_types.specs.declared.reply.Item.{Item}
use Rattle.hs_types.specs.declared.reply.Line.{Line}
use Rattle.hs_types.specs.declared.reply.Reply.{Reply}
use Rattle.hs_types.specs.declared.reply.Reply.TheVariants as replies
use Rattle.hs_plain.specs.declared.state.State.{State}
use Rattle.hs_plain.specs.Answer.{answer, claimed, blanked, is_modifying, uses_store, is_plain_reply}
use Rattle.hs_plain.specs.Legal.{Said}
use Rattle.hs_plain.specs.Joined.{AreJoined, known_state, last_page, items_shown, list_cursor, is_page, lines_shown, report_cursor, is_report, gone_or_no_memory}
use Rattle.hs_plain.specs.JoinedPages.{IsJoinedListing, has_now, gone_or_moved}
use Rattle.hs_plain.specs.Reading.{is_deleted, lines_between}
use Rattle.hs_plain.proofs.ValidShapes.{true_false}
use Rattle.hs_plain.proofs.Paged.{observed}
use Rattle.sync_laws.proofs.Gone.{reports-gone}
use Rattle.page_join.specs.declared.paging.Paging.{Paging}
use Rattle.page_join.specs.declared.paging.Paging.TheVariants.{Items, Lines}
use Rattle.page_join.specs.declared.starts.ListStart.TheVariants as list
use Rattle.page_join.specs.declared.starts.ReportStart.TheVariants as reported
use Rattle.page_join.specs.Links.{Known}
use Rattle.page_join.specs.Paging.{call_at, next_call, AreCutOff}
use Rattle.page_join.specs.Contents.{AreListed, AreReported}
use Rattle.distcp_sync.specs.declared.contents.Content.{Content}
use Rattle.distcp_sync.specs.inside.Pages.{items_of_page, lines_of_page, content_of}
use Rattle.distcp_sync.specs.inside.Fetching.{WasListed, WasReported, IsListCall, IsReportCall, IsRead}
use Rattle.distcp_sync.proofs.PageReplies.{IsSameReport, quiet_call, list_ended, list_goes_on, report_ended, report_goes_on}
use Rattle.distcp_sync.proofs.PageChains.{IsPaging, IsJoin, join, all_read}

-- ---- the two kinds of pages

some_of : {A : Type 0} (a b : A) → Some a ≡ Some b → a ≡ b
some_of a b e = cc

next_list : (place : Place) (size : ℕ) (o : Option ListCursor) (later : Call) → ((cursor : ListCursor) → o ≡ Some cursor → cursor.place ≡ place) → call_at (λ cursor. calls.ListNext cursor size) o ≡ Some later → IsListCall place size later
next_list place size None later same e = absurd (cc)
next_list place size (Some cursor) later same e = record {
  after = cursor.after;
  call_is = sym (some_of (calls.ListNext cursor size) later e) ∙ ap (λ (p : Place). calls.ListNext (record { place = p; after = cursor.after }) size) (same cursor refl);
}

next_report : (begun : ReportCursor) (size : ℕ) (o : Option ReportCursor) (later : Call) → ((cursor : ReportCursor) → o ≡ Some cursor → IsSameReport begun cursor) → call_at (λ cursor. calls.ReportNext cursor size) o ≡ Some later → IsReportCall begun size later
next_report begun size None later same e = absurd (cc)
next_report begun size (Some cursor) later same e =
    let so : IsSameReport begun cursor = same cursor refl in
    record { cursor = cursor; root = so.root; from = so.from; to = so.to; call_is = sym (some_of (calls.ReportNext cursor size) later e) }

list_paging : (place : Place) (size : ℕ) → IsPaging items_of_page items_shown (next_call (Items size)) gone_or_no_memory (IsListCall place size)
list_paging place size = record {
  shows = shows;
  whole = whole;
  no_next = no_next;
  quiet = λ old new call told called asks. quiet_call old new call told called (ap is_modifying asks.call_is) (ap uses_store asks.call_is);
  ended = λ old new call told called asks none. list_ended old new call told called size place asks none;
  goes_on = λ old new call told called asks later e. next_list place size (list_cursor told.reply) later (list_goes_on old new call told called size place asks) e;
}
  where
    shows : (reply : Reply) (more : List Item) → items_of_page reply ≡ Some more → items_shown reply ≡ more
    shows (replies.Page items next) more e = some_of items more e
    shows reply more e = absurd (cc)

    whole : (reply : Reply) (more : List Item) → items_of_page reply ≡ Some more → gone_or_no_memory reply ≡ false
    whole (replies.Page items next) more e = refl
    whole reply more e = absurd (cc)

    no_next : (reply : Reply) → items_of_page reply ≡ None → next_call (Items size) reply ≡ None
    no_next (replies.Page items next) e = absurd (cc)
    no_next reply e = refl

report_paging : (begun : ReportCursor) (size : ℕ) → IsPaging lines_of_page lines_shown (next_call (Lines size)) (gone_or_moved begun) (IsReportCall begun size)
report_paging begun size = record {
  shows = shows;
  whole = whole;
  no_next = no_next;
  quiet = λ old new call told called asks. quiet_call old new call told called (ap is_modifying asks.call_is) (ap uses_store asks.call_is);
  ended = λ old new call told called asks none. report_ended old new call told called size begun asks none;
  goes_on = λ old new call told called asks later e. next_report begun size (report_cursor told.reply) later (report_goes_on old new call told called size begun asks) e;
}
  where
    shows : (reply : Reply) (more : List Line) → lines_of_page reply ≡ Some more → lines_shown reply ≡ more
    shows (replies.Report lines next) more e = some_of lines more e
    shows reply more e = absurd (cc)

    none : (b : Bool) → (b && false) ≡ false
    none true = refl
    none false = refl

    whole : (reply : Reply) (more : List Line) → lines_of_page reply ≡ Some more → gone_or_moved begun reply ≡ false
    whole (replies.Report lines next) more e = none (has_now begun)
    whole reply more e = absurd (cc)

    no_next : (reply : Reply) → lines_of_page reply ≡ None → next_call (Lines size) reply ≡ None
    no_next (replies.Report lines next) e = absurd (cc)
    no_next reply e = refl

-- ---- pages that join

nothing_left : {T : Type 0} (rest : List T) (short : Bool) → (rest ≡ []) ⊎ (short ≡ true) → short ≡ false → rest ≡ []
nothing_left rest short (inl none) whole = none
nothing_left rest short (inr is) whole = absurd (true_false is whole)

-- what whole pages show is all
all_shown : {T : Type 0} (shown : Said → List T) (short : Said → Bool) (first : Said) (more : List Said) (whole : List T) → AreJoined shown short first more whole → short (last_page first more) ≡ false → flat_map shown (first ∷ more) ≡ whole
all_shown shown short first more whole joined is =
    sym (append-nil (flat_map shown (first ∷ more))) ∙ ap (λ (l : List _). flat_map shown (first ∷ more) ++ l) (sym (nothing_left joined.rest (short (last_page first more)) joined.ended is)) ∙ joined.front

is_page_so : (reply : Reply) → is_some (items_of_page reply) ≡ true → is_page reply ≡ true
is_page_so (replies.Page items next) e = refl
is_page_so reply e = absurd (cc)

is_report_so : (reply : Reply) → is_some (lines_of_page reply) ≡ true → is_report reply ≡ true
is_report_so (replies.Report lines next) e = refl
is_report_so reply e = absurd (cc)

-- ---- listings

module _ (old new : Known) (id : InodeId) (snapshot : SnapId) (size : ℕ) where
  abbrev frozen : Place
  frozen = places.Frozen id snapshot

  abbrev begin_list : ListCursor
  begin_list = record { place = frozen; after = None }

  abbrev IsItems : List Item → Type 0
  IsItems = WasListed (length old.seen) new.seen frozen

  abbrev AreItems : List Answered → Type 0
  AreItems = AreListed old new (list.Next begin_list) size

  read_list : (got : List Answered) (are : AreItems got) (content : Content Item) →
      IsJoin items_of_page items_shown (next_call (Items size)) gone_or_no_memory (IsListCall frozen size) (list_paging frozen size) old new are.pages.first are.pages.more [] content → IsRead (IsListCall frozen size) IsItems old new (Ok content)
  read_list got are content (IsJoin.whole items read some last same) =
      let joined : IsJoinedListing (known_state new.seen are.pages.first) frozen None are.pages.first are.pages.more = are.joined id snapshot None refl (is_page_so are.pages.first.told.reply some) in
      IsRead.whole items read (record {
        at = are.pages.first.told.position;
        behind = are.pages.made.1.place;
        within = are.pages.legal.each.0.within;
        listed = joined.listed ∙ ap (λ (l : List Item). Ok l) (sym (all_shown (λ said. items_shown said.told.reply) (λ said. gone_or_no_memory said.told.reply) are.pages.first are.pages.more joined.items joined.joined last) ∙ sym same);
      })
  read_list got are content (IsJoin.ended call told now read asks called bad) = IsRead.ended call told now read asks called bad

  list_read : (got : List Answered) → AreItems got → (content : Content Item) → content ≡ content_of items_of_page [] got → IsRead (IsListCall frozen size) IsItems old new (Ok content)
  list_read got are content same =
      read_list got are content
      (subst (IsJoin items_of_page items_shown (next_call (Items size)) gone_or_no_memory (IsListCall frozen size) (list_paging frozen size) old new are.pages.first are.pages.more []) (ap (content_of items_of_page []) are.pages.told ∙ sym same)
      (join items_of_page items_shown (next_call (Items size)) gone_or_no_memory (IsListCall frozen size) (list_paging frozen size) old new are.pages.first are.pages.more [] are.pages.made are.pages.further (record { after = None; call_is = are.pages.begins })))

  -- all pages of a frozen directory, put together as far as there is memory
  pub list_joined : (got : List Answered) → AreItems got → (result : Result (Content Item) NoMemory) → IfOk result (λ content. content ≡ content_of items_of_page [] got) → IsRead (IsListCall frozen size) IsItems old new result
  list_joined got are (Ok content) same = list_read got are content same
  list_joined got are (Err none) same =
      IsRead.wanting none
      (all_read items_of_page items_shown (next_call (Items size)) gone_or_no_memory (IsListCall frozen size) (list_paging frozen size) old new are.pages.first are.pages.more are.pages.made are.pages.further (record { after = None; call_is = are.pages.begins }))

-- ---- reports

report-blank : (reply : Reply) → is_report (blanked reply) ≡ is_report reply
report-blank (replies.Report lines next) = refl
report-blank reply = refl

report-plain : (reply : Reply) → is_report reply ≡ true → is_plain_reply reply ≡ true
report-plain (replies.Report lines next) is = refl
report-plain reply is = absurd (cc)

neither_so : (a b : Bool) → ((a || b) ≡ true → ⊥) → (a ≡ false) × (b ≡ false)
neither_so true b never = absurd (never refl)
neither_so false true never = absurd (never refl)
neither_so false false never = (refl, refl)

module _ (old new : Known) (begun : ReportCursor) (first_line : begun.index ≡ 0) (size : ℕ) where
  abbrev IsLines : List Line → Type 0
  IsLines = WasReported (length old.seen) new.seen begun

  abbrev AreLines : List Answered → Type 0
  AreLines = AreReported old new (reported.Next begun) size

  -- a report that is shown has both its ends
  both_there : (got : List Answered) (are : AreLines got) → is_report are.pages.first.told.reply ≡ true →
      (is_deleted (known_state new.seen are.pages.first) begun.from || is_deleted (known_state new.seen are.pages.first) begun.to) ≡ true → ⊥
  both_there got are page gone =
      let first : Said = are.pages.first in
      let state : State (List ℕ) = known_state new.seen first in
      let refused : answer state first.call ≡ replies.Refused Gone = ap (answer state) are.pages.begins ∙ (reports-gone state begun size).1 gone in
      true_false page
      (observed is_report report-blank old.tells first.told.reply (replies.Refused Gone) (are.pages.legal.each.0.answered (report-plain first.told.reply page) ∙ ap (claimed old.tells) refused))

  read_report : (got : List Answered) (are : AreLines got) (content : Content Line) →
      IsJoin lines_of_page lines_shown (next_call (Lines size)) (gone_or_moved begun) (IsReportCall begun size) (report_paging begun size) old new are.pages.first are.pages.more [] content → IsRead (IsReportCall begun size) IsLines old new (Ok content)
  read_report got are content (IsJoin.whole lines read some last same) =
      let state : State (List ℕ) = known_state new.seen are.pages.first in
      let page : is_report are.pages.first.told.reply ≡ true = is_report_so are.pages.first.told.reply some in
      let whole : List Line = lines_between state begun.root begun.from begun.to in
      let there : (is_deleted state begun.from ≡ false) × (is_deleted state begun.to ≡ false) = neither_so (is_deleted state begun.from) (is_deleted state begun.to) (both_there got are page) in
      let shown : flat_map (λ said. lines_shown said.told.reply) (are.pages.first ∷ are.pages.more) ≡ drop begun.index whole =
      all_shown (λ said. lines_shown said.told.reply) (λ said. gone_or_moved begun said.told.reply) are.pages.first are.pages.more (drop begun.index whole) (are.joined begun refl page) last in
      IsRead.whole lines read (record {
        at = are.pages.first.told.position;
        behind = are.pages.made.1.place;
        within = are.pages.legal.each.0.within;
        from_there = there.0;
        to_there = there.1;
        lines_are = same ∙ shown ∙ ap (λ (k : ℕ). drop k whole) first_line;
      })
  read_report got are content (IsJoin.ended call told now read asks called bad) = IsRead.ended call told now read asks called bad

  report_read : (got : List Answered) → AreLines got → (content : Content Line) → content ≡ content_of lines_of_page [] got → IsRead (IsReportCall begun size) IsLines old new (Ok content)
  report_read got are content same =
      read_report got are content
      (subst (IsJoin lines_of_page lines_shown (next_call (Lines size)) (gone_or_moved begun) (IsReportCall begun size) (report_paging begun size) old new are.pages.first are.pages.more []) (ap (content_of lines_of_page []) are.pages.told ∙ sym same)
      (join lines_of_page lines_shown (next_call (Lines size)) (gone_or_moved begun) (IsReportCall begun size) (report_paging begun size) old new are.pages.first are.pages.more [] are.pages.made are.pages.further (record { cursor = begun; root = refl; from = refl; to = refl; call_is = are.pages.begins })))

  -- all pages of a report, put together as far as there is memory
  pub report_joined : (got : List Answered) → AreLines got → (result : Result (Content Line) NoMemory) → IfOk result (λ content. content ≡ content_of lines_of_page [] got) → IsRead (IsReportCall begun size) IsLines old new result
  report_joined got are (Ok content) same = report_read got are content same
  report_joined got are (Err none) same =
      IsRead.wanting none
      (all_read lines_of_page lines_shown (next_call (Lines size)) (gone_or_moved begun) (IsReportCall begun size) (report_paging begun size) old new are.pages.first are.pages.more are.pages.made are.pages.further (record { cursor = begun; root = refl; from = refl; to = refl; call_is = are.pages.begins }))

-- ---- want of memory

-- behind pages that were read
pub cut_read : {T : Type 0} (IsAsked : Call → Type 0) (IsContent : List T → Type 0) (paging : Paging) (old new : Known) (begin : Call) (result : Result (Content T) NoMemory) → IsErr result → AreCutOff paging old new begin → IsRead IsAsked IsContent old new result
cut_read IsAsked IsContent paging old new begin (Ok content) err cut = absurd (cc)
cut_read IsAsked IsContent paging old new begin (Err none) err cut = IsRead.wanting none (record { calls = cut.calls; read = record { made = cut.made; unentered = cut.unentered } })

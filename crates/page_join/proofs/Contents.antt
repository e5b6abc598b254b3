-- Pages that a link asked for join to one content.
use Rattle.std.proofs.Common.{◌≡◌, ℕ, ◌≤◌, nat_le, Bool, true, false, ◌&&◌, Option, Some, None, List, [], ◌∷◌, length, refl, ap, sym, ◌∙◌, subst, arith}
use Rattle.hs_types.specs.declared.call.Call.{Call}
use Rattle.hs_types.specs.declared.call.Call.TheVariants as kinds
use Rattle.hs_types.specs.declared.call.ListCursor.{ListCursor}
use Rattle.hs_types.specs.declared.call.ReadCursor.{ReadCursor}
use Rattle.hs_types.specs.declared.call.ReportCursor.{ReportCursor}
use Rattle.hs_types.specs.declared.reply.Answered.{Answered}
use Rattle.hs_types.specs.declared.reply.Reply.{Reply}
use Rattle.hs_types.specs.declared.reply.Reply.TheVariants as replies
use Rattle.hs_plain.specs.Legal.{Said, AreAnswered, places_rise, reach_of}
use Rattle.hs_plain.specs.Joined.{Follows, AreFurtherPages, known_state, is_page, list_cursor, is_report, report_cursor, is_bytes, read_cursor}
use Rattle.hs_plain.specs.JoinedPages.{page_size, read_length, GoesOnList, GoesOnReport, GoesOnRead, listed_at, reported_at, read_at}
use Rattle.hs_plain.proofs.JoinedListings.{listings-join}
use Rattle.hs_plain.proofs.JoinedReports.{reports-join}
use Rattle.hs_plain.proofs.JoinedFiles.{files-join}
use Rattle.page_join.specs.declared.starts.ListStart.{ListStart}
use Rattle.page_join.specs.declared.starts.ListStart.TheVariants as list
use Rattle.page_join.specs.declared.starts.ReportStart.{ReportStart}
use Rattle.page_join.specs.declared.starts.ReadStart.{ReadStart}
use Rattle.page_join.specs.declared.paging.Paging.{Paging}
use Rattle.page_join.specs.declared.paging.Paging.TheVariants.{Items, Lines, Bytes}
use Rattle.page_join.specs.Links.{Known}
use Rattle.page_join.specs.Paging.{call_at, next_of, Asks, ArePages}
use Rattle.page_join.specs.Contents.{list_call, report_call, read_call, AreListed, AreReported, AreRead}
use Rattle.page_join.proofs.Chains.{both_yes, le_yes}

-- ---- calls at a cursor

none_at : {C : Type 0} (goes : C → Call) (o : Option C) → call_at goes o ≡ None → o ≡ None
none_at goes None e = refl
none_at goes (Some cursor) e = absurd (cc)

follow : {C : Type 0} (goes : C → Call) (GoesOn : Said → C → Type 0) → ((said : Said) (cursor : C) → said.call ≡ goes cursor → GoesOn said cursor) →
    (o : Option C) (page : Said) → Follows Asks (call_at goes o) page → Follows GoesOn o page
follow goes GoesOn turn None page follows = follows
follow goes GoesOn turn (Some cursor) page follows = turn page cursor follows

-- a call for each page, told by the cursors
turned : {C : Type 0} (goes : C → Call) (GoesOn : Said → C → Type 0) (cursor_in : Said → Option C) → ((said : Said) (cursor : C) → said.call ≡ goes cursor → GoesOn said cursor) →
    (first : Said) (more : List Said) → AreFurtherPages Asks (λ said. call_at goes (cursor_in said)) first more → AreFurtherPages GoesOn cursor_in first more
turned goes GoesOn cursor_in turn first [] further = none_at goes (cursor_in first) further
turned goes GoesOn cursor_in turn first (said ∷ more) further = (follow goes GoesOn turn (cursor_in first) said further.0, turned goes GoesOn cursor_in turn said more further.1)

nothing_follows : (o : Option Call) (page : Said) → o ≡ None → Follows Asks o page → ⊥
nothing_follows None page none follows = follows
nothing_follows (Some call) page none follows = absurd (cc)

-- behind a reply without a cursor comes none
alone_of : (paging : Paging) (first : Said) (more : List Said) → next_of paging first ≡ None → AreFurtherPages Asks (next_of paging) first more → more ≡ []
alone_of paging first [] none further = refl
alone_of paging first (said ∷ more) none further = absurd (nothing_follows (next_of paging first) said none further.0)

no_items : (reply : Reply) → is_page reply ≡ false → list_cursor reply ≡ None
no_items (replies.Page items next) isnt = absurd (cc)
no_items reply isnt = refl

no_lines : (reply : Reply) → is_report reply ≡ false → report_cursor reply ≡ None
no_lines (replies.Report lines next) isnt = absurd (cc)
no_lines reply isnt = refl

no_bytes : (reply : Reply) → is_bytes reply ≡ false → read_cursor reply ≡ None
no_bytes (replies.Bytes bytes next) isnt = absurd (cc)
no_bytes reply isnt = refl

-- ---- legal calls

second : (a b : Bool) → (a && b) ≡ true → b ≡ true
second true b e = e
second false b e = absurd (cc)

places_from : (reach : ℕ) (calls : List Said) → places_rise reach calls ≡ true → places_rise 0 calls ≡ true
places_from reach [] p = refl
places_from reach (s ∷ calls) p =
    both_yes (nat_le 0 s.told.position) (places_rise (reach_of s.call s.told) calls) (le_yes 0 s.told.position (omega arith)) (second (nat_le reach s.told.position) (places_rise (reach_of s.call s.told) calls) p)

answered_of : (old new : Known) (begin : Call) (got : List Answered) (paging : Paging) (pages : ArePages paging old new begin got) → AreAnswered old.tells old.limit new.seen old.caller (pages.first ∷ pages.more)
answered_of old new begin got paging pages = record {
  proper = pages.lawful.proper;
  each = pages.legal.each;
  places = places_from (length old.seen) (pages.first ∷ pages.more) pages.legal.places;
}

-- ---- the three contents

size_of_list : (start : ListStart) (size : ℕ) → page_size (list_call start size) ≡ size
size_of_list (list.At path) size = refl
size_of_list (list.Next cursor) size = refl

goes_on_list : (size : ℕ) → 1 ≤ size → (said : Said) (cursor : ListCursor) → said.call ≡ kinds.ListNext cursor size → GoesOnList said cursor
goes_on_list size above said cursor e =
    let same : size ≡ page_size said.call = sym (ap page_size e) in
    record {
      call = e ∙ ap (λ (n : ℕ). kinds.ListNext cursor n) same;
      above = subst (λ (n : ℕ). 1 ≤ n) same above;
    }

goes_on_report : (size : ℕ) (said : Said) (cursor : ReportCursor) → said.call ≡ kinds.ReportNext cursor size → GoesOnReport said cursor
goes_on_report size said cursor e = e ∙ ap (λ (n : ℕ). kinds.ReportNext cursor n) (sym (ap page_size e))

goes_on_read : (said : Said) (cursor : ReadCursor) → said.call ≡ kinds.ReadNext cursor 65536 → GoesOnRead said cursor
goes_on_read said cursor e = e ∙ ap (λ (n : ℕ). kinds.ReadNext cursor n) (sym (ap read_length e))

pub are_listed : (old new : Known) (start : ListStart) (size : ℕ) (got : List Answered) → 1 ≤ size → ArePages (Items size) old new (list_call start size) got → AreListed old new start size got
are_listed old new start size got above pages = record {
  pages = pages;
  alone = λ isnt. alone_of (Items size) pages.first pages.more (ap (call_at (λ (cursor : ListCursor). kinds.ListNext cursor size)) (no_items pages.first.told.reply isnt)) pages.further;
  joined = λ id snapshot after asks page.
      listings-join old.tells old.limit new.seen old.caller pages.first pages.more id snapshot after
      (answered_of old new (list_call start size) got (Items size) pages)
      (subst (λ (n : ℕ). 1 ≤ n) (sym (ap page_size pages.begins ∙ size_of_list start size)) above)
      (turned (λ (cursor : ListCursor). kinds.ListNext cursor size) GoesOnList (λ said. list_cursor said.told.reply) (goes_on_list size above) pages.first pages.more pages.further)
      (ap (listed_at (known_state new.seen pages.first)) pages.begins ∙ asks)
      page;
}

pub are_reported : (old new : Known) (start : ReportStart) (size : ℕ) (got : List Answered) → ArePages (Lines size) old new (report_call start size) got → AreReported old new start size got
are_reported old new start size got pages = record {
  pages = pages;
  alone = λ isnt. alone_of (Lines size) pages.first pages.more (ap (call_at (λ (cursor : ReportCursor). kinds.ReportNext cursor size)) (no_lines pages.first.told.reply isnt)) pages.further;
  joined = λ begun asks page.
      reports-join old.tells old.limit new.seen old.caller pages.first pages.more begun
      (answered_of old new (report_call start size) got (Lines size) pages)
      (turned (λ (cursor : ReportCursor). kinds.ReportNext cursor size) GoesOnReport (λ said. report_cursor said.told.reply) (goes_on_report size) pages.first pages.more pages.further)
      (ap (reported_at (known_state new.seen pages.first)) pages.begins ∙ asks)
      page;
}

pub are_read : (old new : Known) (start : ReadStart) (got : List Answered) → ArePages Bytes old new (read_call start) got → AreRead old new start got
are_read old new start got pages = record {
  pages = pages;
  alone = λ isnt. alone_of Bytes pages.first pages.more (ap (call_at (λ (cursor : ReadCursor). kinds.ReadNext cursor 65536)) (no_bytes pages.first.told.reply isnt)) pages.further;
  joined = λ id snapshot offset asks page.
      files-join old.tells old.limit new.seen old.caller pages.first pages.more id snapshot offset
      (answered_of old new (read_call start) got Bytes pages)
      (turned (λ (cursor : ReadCursor). kinds.ReadNext cursor 65536) GoesOnRead (λ said. read_cursor said.told.reply) goes_on_read pages.first pages.more pages.further)
      (ap (read_at (known_state new.seen pages.first)) pages.begins ∙ asks)
      page;
}

-- One page more, the last page, and want of memory on the way.
use Rattle.std.proofs.Common.{◌≡◌, Bool, true, false, ◌&&◌, ◌||◌, Option, Some, None, is_some, List, [], ◌∷◌, ◌++◌, map, refl, ap, sym, ◌∙◌, subst}
use Rattle.std.specs.Prelude.{OnErr, IfOk, Result, Ok, Err}
use Rattle.std.specs.List.{AllByRecursion}
use Rattle.hs_types.specs.declared.call.Call.{Call}
use Rattle.hs_types.specs.declared.call.Call.TheVariants as kinds
use Rattle.hs_types.specs.declared.call.ListCursor.{ListCursor}
use Rattle.hs_types.specs.declared.call.ReadCursor.{ReadCursor}
use Rattle.hs_types.specs.declared.call.ReportCursor.{ReportCursor}
use Rattle.hs_types.specs.declared.reply.Answered.{Answered}
use Rattle.hs_types.specs.declared.reply.Reply.{Reply}
use Rattle.hs_types.specs.declared.reply.Reply.TheVariants as replies
use Rattle.hs_plain.specs.Answer.{is_modifying, is_ok_reply, is_store_fault}
use Rattle.hs_plain.specs.Legal.{Said, leaves_entry}
use Rattle.hs_plain.specs.Joined.{Follows, AreFurtherPages, list_cursor, report_cursor, read_cursor}
use Rattle.page_join.specs.declared.paging.Paging.{Paging}
use Rattle.page_join.specs.declared.paging.Paging.TheVariants.{Items, Lines, Bytes}
use Rattle.page_join.specs.Links.{Known, IsCall, said_by}
use Rattle.page_join.specs.Made.{AreMade}
use Rattle.page_join.specs.Paging.{call_at, next_call, next_of, Asks, ArePages, LeadTo, AreCutOff}
use Rattle.page_join.specs.inside.Asking.{IsAsked, AreBegun, AreUnderWay}
use Rattle.page_join.proofs.Chains.{made_more, made_then, made_lawful, made_legal}

-- ---- replies with a cursor

-- a reply with a cursor is no fault of the store
no_fault : (paging : Paging) (reply : Reply) → is_some (next_call paging reply) ≡ true → is_store_fault reply ≡ false
no_fault (Items size) (replies.Page items next) e = refl
no_fault (Items size) reply e = absurd (cc)
no_fault (Lines size) (replies.Report lines next) e = refl
no_fault (Lines size) reply e = absurd (cc)
no_fault Bytes (replies.Bytes bytes next) e = refl
no_fault Bytes reply e = absurd (cc)

left_none : (fault modifying ok : Bool) → fault ≡ false → modifying ≡ false → (fault || (modifying && ok)) ≡ false
left_none true modifying ok e f = absurd (cc)
left_none false true ok e f = absurd (cc)
left_none false false ok e f = refl

-- a call for a page with a cursor left no entry
quiet : (paging : Paging) (call : Call) (reply : Reply) → is_modifying call ≡ false → is_some (next_call paging reply) ≡ true → leaves_entry call reply ≡ false
quiet paging call reply reads some = left_none (is_store_fault reply) (is_modifying call) (is_ok_reply reply) (no_fault paging reply some) reads

some_of : {A : Type 0} (a b : A) → Some a ≡ Some b → a ≡ b
some_of a b e = cc

at_reads : {C : Type 0} (goes : C → Call) → ((cursor : C) → is_modifying (goes cursor) ≡ false) → (o : Option C) (next : Call) → call_at goes o ≡ Some next → is_modifying next ≡ false
at_reads goes reads None next e = absurd (cc)
at_reads goes reads (Some cursor) next e = subst (λ (call : Call). is_modifying call ≡ false) (some_of (goes cursor) next e) (reads cursor)

-- the call for the next page changes nothing
next_reads : (paging : Paging) (reply : Reply) (next : Call) → next_call paging reply ≡ Some next → is_modifying next ≡ false
next_reads (Items size) reply next e = at_reads (λ (cursor : ListCursor). kinds.ListNext cursor size) (λ cursor. refl) (list_cursor reply) next e
next_reads (Lines size) reply next e = at_reads (λ (cursor : ReportCursor). kinds.ReportNext cursor size) (λ cursor. refl) (report_cursor reply) next e
next_reads Bytes reply next e = at_reads (λ (cursor : ReadCursor). kinds.ReadNext cursor 65536) (λ cursor. refl) (read_cursor reply) next e

-- ---- lists of calls

module _ (paging : Paging) where
  lead_then : (begin now next : Call) (calls more : List Said) → LeadTo paging begin calls now → LeadTo paging now more next → LeadTo paging begin (calls ++ more) next
  lead_then begin now next [] more before after = subst (λ (call : Call). LeadTo paging call more next) (sym before) after
  lead_then begin now next (s ∷ calls) more before after = (before.0, before.1, before.2, lead_then before.1 now next calls more before.3 after)

  -- behind a page with a cursor come the pages at which it goes on, and then the last
  further_of : (first last : Said) (later now : Call) (calls : List Said) → next_of paging first ≡ Some later → LeadTo paging later calls now → last.call ≡ now → next_of paging last ≡ None →
      AreFurtherPages Asks (next_of paging) first (calls ++ last ∷ [])
  further_of first last later now [] e lead asks none = (subst (λ (o : Option Call). Follows Asks o last) (sym e) (asks ∙ sym lead), none)
  further_of first last later now (s ∷ calls) e lead asks none =
      (subst (λ (o : Option Call). Follows Asks o s) (sym e) lead.0, further_of s last lead.1 now calls lead.2 lead.3 asks none)

all_then : (P : Said → Type 0) (calls more : List Said) → AllByRecursion P calls → AllByRecursion P more → AllByRecursion P (calls ++ more)
all_then P [] more before after = after
all_then P (s ∷ calls) more before after = (before.0, all_then P calls more before.1 after)

map_then : (calls more : List Said) → map (λ (said : Said). said.told) (calls ++ more) ≡ map (λ (said : Said). said.told) calls ++ map (λ (said : Said). said.told) more
map_then [] more = refl
map_then (s ∷ calls) more = ap (λ (l : List Answered). s.told ∷ l) (map_then calls more)

abbrev IsUnentered : Said → Type 0
IsUnentered said = leaves_entry said.call said.told.reply ≡ false

-- ---- one page

some_at : (o : Option Call) → is_some o ≡ true → (call : Call) × (o ≡ Some call)
some_at None e = absurd (cc)
some_at (Some call) e = (call, refl)

-- memory ran out behind one page
pub one_cut : (paging : Paging) (old new : Known) (call : Call) (told : Answered) → is_modifying call ≡ false → IsCall old new call told → is_some (next_call paging told.reply) ≡ true → AreCutOff paging old new call
one_cut paging old new call told reads called some =
    let next : (later : Call) × (next_call paging told.reply ≡ Some later) = some_at (next_call paging told.reply) some in
    record {
      calls = said_by new call told ∷ [];
      next = next.0;
      made = (new, called, refl, refl);
      pages = (refl, next.0, next.1, refl);
      unentered = (quiet paging call told.reply reads some, tt);
    }

pub on_err : {T E : Type 0} (result : Result T E) (A B : Type 0) → (A → B) → OnErr result A → OnErr result B
on_err (Ok x) A B f a = tt
on_err (Err e) A B f a = f a

pub on_err_all : {T E : Type 0} (result : Result T E) (A : Type 0) → A → OnErr result A
on_err_all (Ok x) A a = tt
on_err_all (Err e) A a = a

pub if_ok : {T E : Type 0} (result : Result T E) (P Q : T → Type 0) → ((x : T) → P x → Q x) → IfOk result P → IfOk result Q
if_ok (Ok x) P Q f p = f x p
if_ok (Err e) P Q f p = tt

-- memory ran out before the first call
pub none_cut : (paging : Paging) (old : Known) (call : Call) → AreCutOff paging old old call
none_cut paging old call = record { calls = []; next = call; made = refl; pages = refl; unentered = tt }

-- ---- the loop

pub begun_first : (paging : Paging) (old : Known) (begin : Call) → is_modifying begin ≡ false → AreUnderWay paging old old begin [] (Some begin)
begun_first paging old begin reads = record { calls = []; made = refl; pages = refl; told = refl; unentered = tt; reads = reads }

module _ (paging : Paging) (old now new : Known) (begin call : Call) (before after : List Answered) (begun : AreBegun paging old now begin before call) where
  begun_more : (next : Call) → IsAsked paging now new call before after (Some next) → AreBegun paging old new begin after next
  begun_more next asked =
      let last : Said = said_by new call asked.told in
      record {
        calls = begun.calls ++ last ∷ [];
        made = made_more old now new begun.calls last begun.made asked.called refl;
        pages = lead_then paging begin call next begun.calls (last ∷ []) begun.pages (refl, next, sym asked.next_is, refl);
        told = map_then begun.calls (last ∷ []) ∙ ap (λ (l : List Answered). l ++ asked.told ∷ []) begun.told ∙ sym asked.kept;
        unentered = all_then IsUnentered begun.calls (last ∷ []) begun.unentered (quiet paging call asked.told.reply begun.reads (ap (λ (o : Option Call). is_some o) (sym asked.next_is)), tt);
        reads = next_reads paging asked.told.reply next (sym asked.next_is);
      }

  pages_of : (calls : List Said) (last : Said) → AreMade old new (calls ++ last ∷ []) → map (λ (said : Said). said.told) (calls ++ last ∷ []) ≡ after →
      LeadTo paging begin calls call → last.call ≡ call → next_of paging last ≡ None → ArePages paging old new begin after
  pages_of [] last made told lead asks none = record {
    first = last;
    more = [];
    made = made;
    lawful = made_lawful old new last [] made;
    legal = made_legal old new (last ∷ []) made;
    told = told;
    begins = asks ∙ sym lead;
    further = none;
  }
  pages_of (s ∷ calls) last made told lead asks none = record {
    first = s;
    more = calls ++ last ∷ [];
    made = made;
    lawful = made_lawful old new s (calls ++ last ∷ []) made;
    legal = made_legal old new (s ∷ (calls ++ last ∷ [])) made;
    told = told;
    begins = lead.0;
    further = further_of paging s last lead.1 call calls lead.2 lead.3 asks none;
  }

  begun_last : IsAsked paging now new call before after None → ArePages paging old new begin after
  begun_last asked =
      let last : Said = said_by new call asked.told in
      pages_of begun.calls last (made_more old now new begun.calls last begun.made asked.called refl)
      (map_then begun.calls (last ∷ []) ∙ ap (λ (l : List Answered). l ++ asked.told ∷ []) begun.told ∙ sym asked.kept)
      begun.pages refl (sym asked.next_is)

  -- one call more
  pub under_way : (next : Option Call) → IsAsked paging now new call before after next → AreUnderWay paging old new begin after next
  under_way None asked = begun_last asked
  under_way (Some next) asked = begun_more next asked

  -- too many pages
  pub cut_here : AreCutOff paging old now begin
  cut_here = record { calls = begun.calls; next = call; made = begun.made; pages = begun.pages; unentered = begun.unentered }

  -- memory ran out at the next call
  pub cut_later : AreCutOff paging now new call → AreCutOff paging old new begin
  cut_later cut = record {
    calls = begun.calls ++ cut.calls;
    next = cut.next;
    made = made_then old now new begun.calls cut.calls begun.made cut.made;
    pages = lead_then paging begin call cut.next begun.calls cut.calls begun.pages cut.pages;
    unentered = all_then IsUnentered begun.calls cut.calls begun.unentered cut.unentered;
  }

-- on the way a call is to be made
pub call_next : (paging : Paging) (old now : Known) (begin call : Call) (got : List Answered) (next : Option Call) → next ≡ Some call → AreUnderWay paging old now begin got next → AreBegun paging old now begin got call
call_next paging old now begin call got next is under = subst (λ (o : Option Call). AreUnderWay paging old now begin got o) is under

-- behind the last page none is to be made
pub all_asked : (paging : Paging) (old now : Known) (begin : Call) (got : List Answered) (next : Option Call) → next ≡ None → AreUnderWay paging old now begin got next → ArePages paging old now begin got
all_asked paging old now begin got next is under = subst (λ (o : Option Call). AreUnderWay paging old now begin got o) is under

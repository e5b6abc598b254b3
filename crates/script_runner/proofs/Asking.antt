-- The calls of one command: what is asked for through a link.
use Rattle.std.proofs.Common.{◌≡◌, ℕ, Option, Some, None, List, [], ◌∷◌, refl, ap, sym, ◌∙◌}
use Rattle.std.proofs.Math.Path.{fun_ext}
use Rattle.std.specs.Prelude.{IfOk, OnOk, Result, Ok, Err}
use Rattle.hs_types.specs.declared.ids.Side.{Side}
use Rattle.hs_types.specs.declared.ids.Side.TheVariants.{Source, Target}
use Rattle.hs_types.specs.declared.call.Call.{Call}
use Rattle.hs_types.specs.declared.call.Call.TheVariants as calls
use Rattle.hs_types.specs.declared.call.ListCursor.{ListCursor}
use Rattle.hs_types.specs.declared.call.ReadCursor.{ReadCursor}
use Rattle.hs_types.specs.declared.call.ReportCursor.{ReportCursor}
use Rattle.hs_types.specs.declared.call.Point.{Point}
use Rattle.hs_types.specs.declared.reply.Answered.{Answered}
use Rattle.hs_types.specs.declared.reply.Reply.{Reply}
use Rattle.hs_plain.specs.Legal.{Said}
use Rattle.hs_plain.specs.Joined.{Follows, AreFurtherPages, list_cursor, report_cursor, read_cursor}
use Rattle.page_join.specs.declared.paging.Paging.{Paging}
use Rattle.page_join.specs.declared.paging.Paging.TheVariants.{Items, Lines, Bytes}
use Rattle.page_join.specs.Links.{Known, IsCall, said_by}
use Rattle.page_join.specs.Paging.{Asks, call_at, next_call, next_of, ArePages}
use Rattle.script_text.specs.declared.command.Pages.{Pages}
use Rattle.script_text.specs.declared.command.Pages.TheVariants as pages
use Rattle.script_text.specs.declared.command.PagesKind.{PagesKind}
use Rattle.script_text.specs.declared.command.PagesKind.TheVariants as kinds
use Rattle.run_output.specs.Calls.{at_cursor, behind, behind_kept, keep, IsOne, AreAllPages}
use Rattle.script_runner.specs.declared.client.Cursors.{Cursors}
use Rattle.script_runner.specs.declared.commands.Ask.TheVariants as asks
use Rattle.script_runner.specs.Commands.{AreAll, AreAsked, IsAskedAndKept, IsFirstAsked, IsNextAsked, IsMoreAsked, IsAskDone, on_each}
use Rattle.script_runner.specs.Keeping.{with_cursor, next_kept}

pub if_ok : {T E : Type 0} (result : Result T E) (P Q : T → Type 0) → ((x : T) → P x → Q x) → IfOk result P → IfOk result Q
if_ok (Ok x) P Q f p = f x p
if_ok (Err e) P Q f p = tt

pub on_ok : {T E : Type 0} (result : Result T E) (P : T → Type 0) (Q : Type 0) → ((x : T) → P x → Q) → IfOk result P → OnOk result Q
on_ok (Ok x) P Q f p = f x p
on_ok (Err e) P Q f p = tt

-- ---- one call

pub one_asked : (old new : Known) (call : Call) (told : Answered) (replies : List Answered) → replies ≡ told ∷ [] → IsCall old new call told → AreAsked old new (IsOne (Some call)) replies
one_asked old new call told replies are made = record { said = said_by new call told ∷ []; calls = refl; made = (new, made, refl, refl); replies_are = are }

pub one_kept : (kind : PagesKind) (old new : Known) (call : Call) (told : Answered) (kept now : Cursors) (replies : List Answered) → replies ≡ told ∷ [] → now ≡ with_cursor kind told.reply kept → IsCall old new call told → IsAskedAndKept kind call old new kept now replies
one_kept kind old new call told kept now replies are keeps made =
    record { said = said_by new call told; call_is = refl; made = (new, made, refl, refl); replies_are = are; keeps = keeps }

-- ---- all pages

cursor_same : {C : Type 0} (goes : C → Call) (o : Option C) → call_at goes o ≡ at_cursor goes o
cursor_same goes None = refl
cursor_same goes (Some cursor) = refl

module _ (paging : Paging) (behind_it : Reply → Option Call) (same : (reply : Reply) → next_call paging reply ≡ behind_it reply) where
  further : (first : Said) (more : List Said) → AreFurtherPages Asks (next_of paging) first more → AreAllPages behind_it (behind_it first.told.reply) more
  further first [] none = sym (same first.told.reply) ∙ none
  further first (said ∷ more) pages = (asked (next_of paging first) refl pages.0, further said more pages.1)
    where
      asked : (o : Option Call) → next_of paging first ≡ o → Follows Asks o said → behind_it first.told.reply ≡ Some said.call
      asked None is follows = absurd follows
      asked (Some call) is follows = sym (same first.told.reply) ∙ is ∙ ap Some (sym follows)

  pages_asked : (old new : Known) (begin : Call) (replies : List Answered) → ArePages paging old new begin replies → AreAsked old new (AreAllPages behind_it (Some begin)) replies
  pages_asked old new begin replies pages = record {
    said = pages.first ∷ pages.more;
    calls = (ap Some (sym pages.begins), further pages.first pages.more pages.further);
    made = pages.made;
    replies_are = sym pages.told;
  }

pub bytes_asked : (page : ℕ) (path : List ℕ) (old new : Known) (replies : List Answered) → ArePages Bytes old new (calls.Read path 0 65536) replies → AreAsked old new (AreAll page (pages.File path)) replies
bytes_asked page path old new replies = pages_asked Bytes (behind page (pages.File path)) (λ reply. cursor_same (λ (cursor : ReadCursor). calls.ReadNext cursor 65536) (read_cursor reply)) old new (calls.Read path 0 65536) replies

pub items_asked : (page : ℕ) (path : List ℕ) (old new : Known) (replies : List Answered) → ArePages (Items page) old new (calls.List path page) replies → AreAsked old new (AreAll page (pages.Listing path)) replies
items_asked page path old new replies = pages_asked (Items page) (behind page (pages.Listing path)) (λ reply. cursor_same (λ (cursor : ListCursor). calls.ListNext cursor page) (list_cursor reply)) old new (calls.List path page) replies

pub lines_asked : (page : ℕ) (path : List ℕ) (from to : Point) (old new : Known) (replies : List Answered) → ArePages (Lines page) old new (calls.Report path from to page) replies → AreAsked old new (AreAll page (pages.Report path from to)) replies
lines_asked page path from to old new replies = pages_asked (Lines page) (behind page (pages.Report path from to)) (λ reply. cursor_same (λ (cursor : ReportCursor). calls.ReportNext cursor page) (report_cursor reply)) old new (calls.Report path from to page) replies

-- ---- kept cursors

-- the cursor of a reply is kept for the command's side
kept_here : (page : ℕ) (cursors : Cursors) (reply : Reply) (side : Side) (kind k : PagesKind) → next_kept page (with_cursor kind reply cursors) k ≡ keep (on_each page cursors) side kind (behind_kept page kind reply) side k
kept_here page cursors reply Source kinds.Listing kinds.Listing = refl
kept_here page cursors reply Source kinds.Listing kinds.Report = refl
kept_here page cursors reply Source kinds.Report kinds.Listing = refl
kept_here page cursors reply Source kinds.Report kinds.Report = refl
kept_here page cursors reply Target kinds.Listing kinds.Listing = refl
kept_here page cursors reply Target kinds.Listing kinds.Report = refl
kept_here page cursors reply Target kinds.Report kinds.Listing = refl
kept_here page cursors reply Target kinds.Report kinds.Report = refl

-- and where there was none, there is none
none_here : (page : ℕ) (cursors : Cursors) (side : Side) (kind k : PagesKind) → next_kept page cursors kind ≡ None → next_kept page cursors k ≡ keep (on_each page cursors) side kind None side k
none_here page cursors Source kinds.Listing kinds.Listing none = none
none_here page cursors Source kinds.Listing kinds.Report none = refl
none_here page cursors Source kinds.Report kinds.Listing none = refl
none_here page cursors Source kinds.Report kinds.Report none = none
none_here page cursors Target kinds.Listing kinds.Listing none = none
none_here page cursors Target kinds.Listing kinds.Report none = refl
none_here page cursors Target kinds.Report kinds.Listing none = refl
none_here page cursors Target kinds.Report kinds.Report none = none

-- ---- commands

module _ (page : ℕ) (old new : Known) (kept now : Cursors) (replies : List Answered) where
  -- one call
  pub call_asked : (call : Call) → now ≡ kept → AreAsked old new (IsOne (Some call)) replies → IsAskDone page (asks.Call call) old new kept now replies
  call_asked call keeps asked = record {
    said = asked.said;
    calls = λ side. asked.calls;
    made = asked.made;
    replies_are = asked.replies_are;
    keeps = λ side. ap (next_kept page) keeps;
  }

  -- all pages
  pub all_asked : (what : Pages) → now ≡ kept → AreAsked old new (AreAll page what) replies → IsAskDone page (asks.All what) old new kept now replies
  all_asked what keeps asked = record {
    said = asked.said;
    calls = λ side. asked.calls;
    made = asked.made;
    replies_are = asked.replies_are;
    keeps = λ side. ap (next_kept page) keeps;
  }

  keeps_one : (kind : PagesKind) (reply : Reply) → now ≡ with_cursor kind reply kept → (side : Side) → next_kept page now ≡ keep (on_each page kept) side kind (behind_kept page kind reply) side
  keeps_one kind reply keeps side = ap (next_kept page) keeps ∙ fun_ext (kept_here page kept reply side kind)

  -- the first page
  pub first_asked : (what : Pages) → IsFirstAsked page what old new kept now replies → IsAskDone page (asks.First what) old new kept now replies
  first_asked (pages.File path) asked = record {
    said = asked.0.said;
    calls = λ side. asked.0.calls;
    made = asked.0.made;
    replies_are = asked.0.replies_are;
    keeps = λ side. ap (next_kept page) asked.1;
  }
  first_asked (pages.Listing path) asked = record {
    said = asked.said ∷ [];
    calls = λ side. ap Some (sym asked.call_is);
    made = asked.made;
    replies_are = asked.replies_are;
    keeps = keeps_one kinds.Listing asked.said.told.reply asked.keeps;
  }
  first_asked (pages.Report path from to) asked = record {
    said = asked.said ∷ [];
    calls = λ side. ap Some (sym asked.call_is);
    made = asked.made;
    replies_are = asked.replies_are;
    keeps = keeps_one kinds.Report asked.said.told.reply asked.keeps;
  }

  next_asked : (kind : PagesKind) (next : Option Call) → next_kept page kept kind ≡ next → IsNextAsked kind next old new kept now replies → IsAskDone page (asks.More kind) old new kept now replies
  next_asked kind None is asked = record {
    said = [];
    calls = λ side. is;
    made = asked.0;
    replies_are = asked.2;
    keeps = λ side. ap (next_kept page) asked.1 ∙ fun_ext (λ k. none_here page kept side kind k is);
  }
  next_asked kind (Some call) is asked = record {
    said = asked.said ∷ [];
    calls = λ side. is ∙ ap Some (sym asked.call_is);
    made = asked.made;
    replies_are = asked.replies_are;
    keeps = keeps_one kind asked.said.told.reply asked.keeps;
  }

  -- the page at a kept cursor
  pub more_asked : (kind : PagesKind) → IsMoreAsked page kind old new kept now replies → IsAskDone page (asks.More kind) old new kept now replies
  more_asked kind asked = next_asked kind (next_kept page kept kind) refl asked

-- Calls for pages: each further one takes the cursor of the reply before.
use Rattle.std.specs.Prelude.{◌≡◌, false, List, [], ◌∷◌, map, Option, Some, None}
use Rattle.std.specs.List.{AllByRecursion}
use Rattle.hs_types.specs.declared.call.Call.{Call}
use Rattle.hs_types.specs.declared.call.Call.TheVariants as calls
use Rattle.hs_types.specs.declared.reply.Answered.{Answered}
use Rattle.hs_types.specs.declared.reply.Reply.{Reply}
use Rattle.hs_plain.specs.Legal.{Said, leaves_entry}
use Rattle.hs_plain.specs.Joined.{AreFurtherPages, list_cursor, report_cursor, read_cursor}
use Rattle.page_join.specs.declared.paging.Paging.{Paging}
use Rattle.page_join.specs.declared.paging.Paging.TheVariants.{Items, Lines, Bytes}
use Rattle.page_join.specs.Links.{Known, IsLawful}
use Rattle.page_join.specs.Made.{AreMade, AreLegalBehind}

-- the call that goes on at a cursor, if there is one
abbrev pub call_at : {C : Type 0} → (C → Call) → Option C → Option Call
call_at goes_on None = None
call_at goes_on (Some cursor) = Some (goes_on cursor)

-- the call for the page behind a reply, where the reply has a cursor of this kind of pages
abbrev pub next_call : Paging → Reply → Option Call
next_call (Items size) reply = call_at (λ cursor. calls.ListNext cursor size) (list_cursor reply)
next_call (Lines size) reply = call_at (λ cursor. calls.ReportNext cursor size) (report_cursor reply)
next_call Bytes reply = call_at (λ cursor. calls.ReadNext cursor 65536) (read_cursor reply)

abbrev pub next_of : Paging → Said → Option Call
next_of paging said = next_call paging said.told.reply

-- this very call was made
abbrev pub Asks : Said → Call → Type 0
Asks said call = said.call ≡ call

-- a link asked for pages from a first call on: every reply but the last has a cursor, at which the next call goes on, and the last has none
pub record ArePages (paging : Paging) (old new : Known) (begin : Call) (replies : List Answered) : Type 0 where
  pub first : Said
  pub more : List Said
  -- these are all calls that the link made
  pub made : AreMade old new (first ∷ more)
  -- they are legal in the history that it then has seen, which is one that a namenode may have
  pub lawful : IsLawful new
  pub legal : AreLegalBehind old new.seen (first ∷ more)
  -- the replies are theirs
  pub told : map (λ said. said.told) (first ∷ more) ≡ replies
  pub begins : first.call ≡ begin
  pub further : AreFurtherPages Asks (next_of paging) first more

-- from a first call on these are calls for pages, each with a cursor at which the next goes on, and the call to make next is known
abbrev pub LeadTo : Paging → Call → List Said → Call → Type 0
LeadTo paging call [] next = call ≡ next
LeadTo paging call (said ∷ more) next = (said.call ≡ call) × (then : Call) × (next_of paging said ≡ Some then) × LeadTo paging then more next

-- memory ran out behind some pages with a cursor, maybe none: the link made their calls alone, and none left an entry
pub record AreCutOff (paging : Paging) (old new : Known) (begin : Call) : Type 0 where
  pub calls : List Said
  pub next : Call
  pub made : AreMade old new calls
  pub pages : LeadTo paging begin calls next
  pub unentered : AllByRecursion (λ said. leaves_entry said.call said.told.reply ≡ false) calls

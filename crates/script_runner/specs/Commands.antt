-- What only private contracts and proofs use: the calls of one command, through a link.
use Rattle.std.specs.Prelude.{◌≡◌, ℕ, List, [], ◌∷◌, map, Option, Some, None}
use Rattle.hs_types.specs.declared.ids.Side.{Side}
use Rattle.hs_types.specs.declared.call.Call.{Call}
use Rattle.hs_types.specs.declared.reply.Answered.{Answered}
use Rattle.hs_plain.specs.Legal.{Said}
use Rattle.page_join.specs.Links.{Known}
use Rattle.page_join.specs.Made.{AreMade}
use Rattle.script_text.specs.declared.command.Command.{Command}
use Rattle.script_text.specs.declared.command.Command.TheVariants as commands
use Rattle.script_text.specs.declared.command.Pages.{Pages}
use Rattle.script_text.specs.declared.command.Pages.TheVariants as pages
use Rattle.script_text.specs.declared.command.PagesKind.{PagesKind}
use Rattle.script_text.specs.declared.command.PagesKind.TheVariants as kinds
use Rattle.run_output.specs.Calls.{Kept, first_call, behind, IsOne, AreAllPages, AreOf, kept_by}
use Rattle.script_runner.specs.declared.client.Cursors.{Cursors}
use Rattle.script_runner.specs.declared.commands.Ask.{Ask}
use Rattle.script_runner.specs.declared.commands.Ask.TheVariants as asks
use Rattle.script_runner.specs.Keeping.{with_cursor, next_kept}

-- a link made these calls, and got these replies
pub record AreAsked (old new : Known) (Are : List Said → Type 0) (replies : List Answered) : Type 0 where
  pub said : List Said
  pub calls : Are said
  pub made : AreMade old new said
  pub replies_are : replies ≡ map (λ s. s.told) said

-- these are all pages
abbrev pub AreAll : ℕ → Pages → List Said → Type 0
AreAll page what said = AreAllPages (behind page what) (Some (first_call page what)) said

-- one call was made, and the cursor of its reply is kept
pub record IsAskedAndKept (kind : PagesKind) (call : Call) (old new : Known) (kept now : Cursors) (replies : List Answered) : Type 0 where
  pub said : Said
  pub call_is : said.call ≡ call
  pub made : AreMade old new (said ∷ [])
  pub replies_are : replies ≡ said.told ∷ []
  pub keeps : now ≡ with_cursor kind said.told.reply kept

-- the first page was asked for
abbrev pub IsFirstAsked : ℕ → Pages → Known → Known → Cursors → Cursors → List Answered → Type 0
IsFirstAsked page (pages.File path) old new kept now replies = AreAsked old new (IsOne (Some (first_call page (pages.File path)))) replies × (now ≡ kept)
IsFirstAsked page (pages.Listing path) old new kept now replies = IsAskedAndKept kinds.Listing (first_call page (pages.Listing path)) old new kept now replies
IsFirstAsked page (pages.Report path from to) old new kept now replies = IsAskedAndKept kinds.Report (first_call page (pages.Report path from to)) old new kept now replies

-- no call was made, or this one, whose reply's cursor is kept
abbrev pub IsNextAsked : PagesKind → Option Call → Known → Known → Cursors → Cursors → List Answered → Type 0
IsNextAsked kind None old new kept now replies = (new ≡ old) × (now ≡ kept) × (replies ≡ [])
IsNextAsked kind (Some call) old new kept now replies = IsAskedAndKept kind call old new kept now replies

-- the page at a kept cursor was asked for
abbrev pub IsMoreAsked : ℕ → PagesKind → Known → Known → Cursors → Cursors → List Answered → Type 0
IsMoreAsked page kind old new kept now replies = IsNextAsked kind (next_kept page kept kind) old new kept now replies

-- the cursors of one side, taken for those of both
abbrev pub on_each : ℕ → Cursors → Kept
on_each page cursors side = next_kept page cursors

-- the command that asks a side for this
abbrev pub asked_command : Side → Ask → Command
asked_command side (asks.Call call) = commands.Call side call
asked_command side (asks.All what) = commands.All side what
asked_command side (asks.First what) = commands.First side what
asked_command side (asks.More kind) = commands.More side kind

-- a command's calls were made on its side, and its cursor is kept
pub record IsAskDone (page : ℕ) (ask : Ask) (old new : Known) (kept now : Cursors) (replies : List Answered) : Type 0 where
  pub said : List Said
  pub calls : (side : Side) → AreOf page (on_each page kept) (asked_command side ask) said
  pub made : AreMade old new said
  pub replies_are : replies ≡ map (λ s. s.told) said
  pub keeps : (side : Side) → next_kept page now ≡ kept_by page (on_each page kept) (asked_command side ask) said side

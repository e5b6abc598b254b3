-- Pages on the way, for the loop that asks for them.
use Rattle.std.specs.Prelude.{◌≡◌, false, List, [], ◌∷◌, ◌++◌, map, Option, Some, None}
use Rattle.std.specs.List.{AllByRecursion}
use Rattle.hs_types.specs.declared.call.Call.{Call}
use Rattle.hs_types.specs.declared.reply.Answered.{Answered}
use Rattle.hs_plain.specs.Answer.{is_modifying}
use Rattle.hs_plain.specs.Legal.{Said, leaves_entry}
use Rattle.page_join.specs.declared.paging.Paging.{Paging}
use Rattle.page_join.specs.Links.{Known, IsCall}
use Rattle.page_join.specs.Made.{AreMade}
use Rattle.page_join.specs.Paging.{LeadTo, ArePages, next_call}

-- a call was made, and its reply stands at the end
pub record IsAsked (paging : Paging) (old new : Known) (call : Call) (before after : List Answered) (next : Option Call) : Type 0 where
  pub told : Answered
  pub called : IsCall old new call told
  pub kept : after ≡ before ++ told ∷ []
  pub next_is : next ≡ next_call paging told.reply

-- pages with a cursor so far, and the call to make next
pub record AreBegun (paging : Paging) (old new : Known) (begin : Call) (replies : List Answered) (next : Call) : Type 0 where
  pub calls : List Said
  pub made : AreMade old new calls
  pub pages : LeadTo paging begin calls next
  pub told : map (λ said. said.told) calls ≡ replies
  pub unentered : AllByRecursion (λ said. leaves_entry said.call said.told.reply ≡ false) calls
  pub reads : is_modifying next ≡ false

-- on the way, or at the last page
abbrev pub AreUnderWay : Paging → Known → Known → Call → List Answered → Option Call → Type 0
AreUnderWay paging old new begin replies None = ArePages paging old new begin replies
AreUnderWay paging old new begin replies (Some next) = AreBegun paging old new begin replies next

-- Pages put together, up to the reply that is none.
use Rattle.std.specs.Prelude.{◌≡◌, List, [], ◌∷◌, ◌++◌, Option, Some, None}
use Rattle.hs_types.specs.declared.reply.Answered.{Answered}
use Rattle.hs_types.specs.declared.reply.Item.{Item}
use Rattle.hs_types.specs.declared.reply.Line.{Line}
use Rattle.hs_types.specs.declared.reply.Reply.{Reply}
use Rattle.hs_types.specs.declared.reply.Reply.TheVariants as replies
use Rattle.distcp_sync.specs.declared.contents.Content.{Content}
use Rattle.distcp_sync.specs.declared.contents.Content.TheVariants.{Whole, Ended}

-- what a page of a listing has
abbrev pub items_of_page : Reply → Option (List Item)
items_of_page (replies.Page items next) = Some items
items_of_page reply = None

-- what a page of a report has
abbrev pub lines_of_page : Reply → Option (List Line)
lines_of_page (replies.Report lines next) = Some lines
lines_of_page reply = None

-- what a page has was put behind the rest, or what is no page is given back
abbrev pub IsAdded : {T : Type 0} → Option (List T) → Answered → List T → List T → Option Answered → Type 0
IsAdded None told before after ended = ended ≡ Some told
IsAdded (Some more) told before after ended = (ended ≡ None) × (after ≡ before ++ more)

-- goes on behind what a page has
abbrev pub behind_page : {T : Type 0} → Option (List T) → Answered → List T → (List T → Content T) → Content T
behind_page None told before goes_on = Ended told
behind_page (Some more) told before goes_on = goes_on (before ++ more)

-- what is there and all that pages have, or the first reply that is no page
abbrev pub content_of : {T : Type 0} → (Reply → Option (List T)) → List T → List Answered → Content T
content_of page before [] = Whole before
content_of page before (told ∷ more) = behind_page (page told.reply) told before (λ after. content_of page after more)

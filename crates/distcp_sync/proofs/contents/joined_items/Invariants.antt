use Rattle.std.proofs.Common.{◌≡◌}
use Rattle.distcp_sync.specs.inside.Pages.{items_of_page, content_of}
use Rattle.distcp_sync.proofs.contents.joined_items.Given as goal

-- behind the items so far the replies that are left give what all replies give
abbrev pub invariant-loop-answered : goal.invariant-loop-answered
invariant-loop-answered l = content_of items_of_page l.items.items l.answered-iterator.rest.items ≡ content_of items_of_page l.initial.items.items l.initial.answered-iterator.rest.items

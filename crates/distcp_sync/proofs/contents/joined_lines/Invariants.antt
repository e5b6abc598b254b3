use Rattle.std.proofs.Common.{◌≡◌}
use Rattle.distcp_sync.specs.inside.Pages.{lines_of_page, content_of}
use Rattle.distcp_sync.proofs.contents.joined_lines.Given as goal

-- behind the lines so far the replies that are left give what all replies give
abbrev pub invariant-loop-answered : goal.invariant-loop-answered
invariant-loop-answered l = content_of lines_of_page l.lines.items l.answered-iterator.rest.items ≡ content_of lines_of_page l.initial.lines.items l.initial.answered-iterator.rest.items

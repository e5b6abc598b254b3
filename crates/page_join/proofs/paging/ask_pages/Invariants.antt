use Rattle.std.proofs.Common.{◌≡◌, ◌-◌, length}
use Rattle.page_join.specs.inside.Asking.{AreUnderWay}
use Rattle.page_join.proofs.paging.ask_pages.Given as goal

-- the pages so far were asked for, and the next call is known
abbrev pub invariant-loop-next : goal.invariant-loop-next
invariant-loop-next g l = record {
  number : g.L.NameLink.number l.link ≡ g.L.NameLink.number l.initial.link;
  alone : g.L.NameLink.alone l.link ≡ g.L.NameLink.alone l.initial.link;
  stays : g.L.NameLink.stays l.initial.link l.link;
  pages : AreUnderWay l.paging (g.L.NameLink.known l.initial.link) (g.L.NameLink.known l.link) l.fn.begin l.replies.items l.next;
}

abbrev pub decreases-loop-next : goal.decreases-loop-next
decreases-loop-next g l = 1000001 - length l.replies.items

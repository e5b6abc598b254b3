use Rattle.std.proofs.Common.{◌≡◌, ◌-◌, length}
use Rattle.distcp_sync.proofs.QueueSteps.{AreListedSo}
use Rattle.distcp_sync.proofs.fetching.fetch_listings.Given as goal

-- so many directories were listed, and the others wait; nothing is put to the looks
abbrev pub invariant-loop-alloc : goal.invariant-loop-alloc
invariant-loop-alloc g l = record {
  number : g.L.NameLink.number l.source ≡ g.L.NameLink.number l.initial.source;
  alone : g.L.NameLink.alone l.source ≡ g.L.NameLink.alone l.initial.source;
  stays : g.L.NameLink.stays l.initial.source l.source;
  looks : l.looks ≡ l.initial.looks;
  listed : AreListedSo (g.L.NameLink.known l.initial.source) (g.L.NameLink.known l.source) l.fn.to l.fn.lines l.ids.items l.listings.items;
}

abbrev pub decreases-loop-alloc : goal.decreases-loop-alloc
decreases-loop-alloc g l = 1000000 - length l.listings.items

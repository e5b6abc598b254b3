use Rattle.std.proofs.Common.{◌≡◌, ℕ, ◌-◌, ◌^◌, Option, Some, None}
use Rattle.hs_types.specs.declared.call.ReadCursor.{ReadCursor}
use Rattle.copy_workers.specs.inside.Pages.{IsUpTo}
use Rattle.copy_workers.proofs.copying.copy_to.Given as goal

-- what was read so far was appended, and the next page is read at the cursor
abbrev pub invariant-loop-next : goal.invariant-loop-next
invariant-loop-next g l = record {
  source_number : g.L.NameLink.number l.source ≡ g.L.NameLink.number l.fn.source;
  target_number : g.L.NameLink.number l.target ≡ g.L.NameLink.number l.fn.target;
  source_alone : g.L.NameLink.alone l.source ≡ g.L.NameLink.alone l.fn.source;
  target_alone : g.L.NameLink.alone l.target ≡ g.L.NameLink.alone l.fn.target;
  source_stays : g.L.NameLink.stays l.fn.source l.source;
  target_stays : g.L.NameLink.stays l.fn.target l.target;
  copied : IsUpTo l.path l.fn.place (g.L.NameLink.known l.fn.source) (g.L.NameLink.known l.source) (g.L.NameLink.known l.fn.target) (g.L.NameLink.known l.target) l.made.items l.next;
}

-- how many bytes a cursor may still pass
abbrev left_at : Option ReadCursor → ℕ
left_at None = 0
left_at (Some cursor) = 2 ^ 64 - cursor.offset

abbrev pub decreases-loop-next : goal.decreases-loop-next
decreases-loop-next g l = left_at l.next

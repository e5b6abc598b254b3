use Rattle.std.proofs.Common.{sym, ap, ◌∙◌, arith}
use Rattle.std.specs.Prelude.{not}
use Rattle.std.proofs.lemmas.List.Filters.{FiltersInPlace-more_swap, FiltersInPlace-more_no}
use Rattle.file_changes.proofs.blocks.keep_unnamed.Goals.{then-not-is_named_near, else-not-is_named_near}
use Rattle.file_changes.proofs.blocks.keep_unnamed.Goals as goal

pub loop-place-preserved : goal.loop-place-preserved
loop-place-preserved c = elim c.if-not-is_named_near.branch [
  | then-not-is_named_near w ↦ rw (w.blocks-is, w.kept-is)
      (FiltersInPlace-more_swap c.loop-place.invariant (omega arith) (ap not (sym c.is_named_near.ensures ∙ w.if-not-is_named_near.true)) c.index-block.ensures w.swap.ensures.by_index)
  | else-not-is_named_near w ↦ rw (w.blocks-is, w.kept-is)
      (FiltersInPlace-more_no c.loop-place.invariant (omega arith) (ap not (sym c.is_named_near.ensures ∙ w.if-not-is_named_near.false)) c.index-block.ensures)
]

use Rattle.std.specs.Prelude.{not}
use Rattle.std.proofs.lemmas.List.Filters.{FiltersInPlace}
use Rattle.file_changes.specs.History.{names}
use Rattle.file_changes.proofs.blocks.keep_unnamed.Given as goal

-- what is named by no state stands in front
abbrev pub invariant-loop-place : goal.invariant-loop-place
invariant-loop-place l = FiltersInPlace (λ block. not (names (record { current = l.current; records = l.records }) block)) l.initial.blocks.items l.blocks.items l.kept l.place

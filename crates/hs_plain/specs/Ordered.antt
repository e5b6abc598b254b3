-- The lines of a report stand in their order.
use Rattle.std.specs.Prelude.{◌≡◌, ℕ, true, false, ⊤, List, [], ◌∷◌}
use Rattle.std.specs.List.{AllByRecursion}
use Rattle.hs_types.specs.declared.ids.InodeId.{InodeId}
use Rattle.hs_types.specs.declared.ids.SnapId.{SnapId}
use Rattle.hs_types.specs.declared.journal.Entry.{Entry}
use Rattle.hs_types.specs.declared.reply.Line.{Line}
use Rattle.hs_plain.specs.State.{is_snapshottable}
use Rattle.hs_plain.specs.Reading.{lines_between, is_foreign}
use Rattle.hs_plain.specs.Replay.{plain_after}
use Rattle.hs_plain.specs.Report.{line_before}

-- each line stands before all behind it: none stands twice, and no two have one path and one kind
abbrev pub AreOrdered : List Line → Type 0
AreOrdered [] = ⊤
AreOrdered (line ∷ lines) = AllByRecursion (λ other. line_before line other ≡ true) lines × AreOrdered lines

-- the lines of each report that the plain machine gives stand strictly in order: on a snapshottable directory, between its own snapshots or the current state
abbrev pub ReportsAreOrdered : Type 0
ReportsAreOrdered = (journal : List Entry) (root : InodeId) (from to : SnapId) →
    is_snapshottable (plain_after journal) root ≡ true → is_foreign (plain_after journal) root from ≡ false → is_foreign (plain_after journal) root to ≡ false →
    AreOrdered (lines_between (plain_after journal) root from to)

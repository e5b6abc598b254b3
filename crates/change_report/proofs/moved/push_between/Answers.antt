use Rattle.std.proofs.Common.{◌≡◌, ℕ, ◌+◌, ◌*◌, ◌++◌, Option, Some, sym, ap, ◌∙◌, subst}
use Rattle.std.specs.Prelude.{OnOk}
use Rattle.inode_table.specs.Kept.{TableValue, told}
use Rattle.inode_table.specs.Numbered.{history_of}
use Rattle.change_report.specs.Found.{lines_at, both_paths}
use Rattle.change_report.specs.declared.ends.Paths.{Paths}
use Rattle.change_report.specs.Looked.{AreWithin, sides_apart, where_both}
use Rattle.change_report.proofs.Ticks.{no-more, and-more}
use Rattle.change_report.proofs.moved.push_between.Goals as goal

pub returns-in-Some-clause-lines : goal.returns-in-Some-clause-lines
returns-in-Some-clause-lines c =
    let table = told c.args.table.now.table in
    let there : both_paths table c.args.ends c.args.id ≡ Some c.in-Some.paths = sym c.in_ok-paths.ensures.paths ∙ c.in-Some.is in
    subst (λ (o : Option Paths). OnOk c.push_at.result (c.push_at.new.lines.items ≡ c.args.lines.now.items ++ lines_at table c.args.ends c.args.id (history_of c.args.row.now.rows) o)) (sym there)
    (subst (λ (t : TableValue). OnOk c.push_at.result (c.push_at.new.lines.items ≡ c.args.lines.now.items ++ lines_at (told t) c.args.ends c.args.id (history_of c.args.row.now.rows) (Some c.in-Some.paths))) c.both_paths.ensures.table c.push_at.ensures.lines)

pub returns-in_err-paths-clause-ticks : goal.returns-in_err-paths-clause-ticks
returns-in_err-paths-clause-ticks c = λ h within.
    no-more (2 * (1 + h)) (where_both (both_paths (told c.args.table.now.table) c.args.ends c.args.id) (sides_apart c.args.ends (history_of c.args.row.now.rows)) * (1 + (1 + h))) c.args.table.now.ticks c.both_paths.new.table.ticks
    (c.both_paths.ensures.ticks h within)

pub returns-in-None-clause-ticks : goal.returns-in-None-clause-ticks
returns-in-None-clause-ticks c = λ h within.
    no-more (2 * (1 + h)) (where_both (both_paths (told c.args.table.now.table) c.args.ends c.args.id) (sides_apart c.args.ends (history_of c.args.row.now.rows)) * (1 + (1 + h))) c.args.table.now.ticks c.both_paths.new.table.ticks
    (c.both_paths.ensures.ticks h within)

pub returns-in-Some-clause-ticks : goal.returns-in-Some-clause-ticks
returns-in-Some-clause-ticks c = λ h within.
    let apart : ℕ = sides_apart c.args.ends (history_of c.args.row.now.rows) in
    let there : both_paths (told c.args.table.now.table) c.args.ends c.args.id ≡ Some c.in-Some.paths = sym c.in_ok-paths.ensures.paths ∙ c.in-Some.is in
    and-more (2 * (1 + h)) apart (1 + (1 + h)) (where_both (both_paths (told c.args.table.now.table) c.args.ends c.args.id) apart) c.args.table.now.ticks c.both_paths.new.table.ticks c.push_at.new.table.ticks
    (ap (λ o. where_both o apart) there) (c.both_paths.ensures.ticks h within)
    (c.push_at.ensures.ticks h (subst (λ (t : TableValue). AreWithin (told t) c.args.ends h) (sym c.both_paths.ensures.table) within))

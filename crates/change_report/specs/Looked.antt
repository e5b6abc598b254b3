-- How many rows are looked at for the lines of a row.
use Rattle.std.specs.Prelude.{ℕ, ◌+◌, is_some, if◌then◌else◌, length, Option}
use Rattle.dir_changes.specs.History.{children_at}
use Rattle.inode_table.specs.RowHistory.{RowHistory, File, Dir, shown}
use Rattle.inode_table.specs.Tabled.{Tabled}
use Rattle.report_laws.specs.Chains.{HasChainsWithin}
use Rattle.report_laws.specs.Listed.{only_in}
use Rattle.change_report.specs.declared.ends.Ends.{Ends}
use Rattle.change_report.specs.declared.ends.Paths.{Paths}

-- no chain at either end has more rows
pub record AreWithin (table : Tabled) (ends : Ends) (longest : ℕ) : Type 0 where
  pub from : HasChainsWithin (shown table.rows ends.from.0) longest
  pub to : HasChainsWithin (shown table.rows ends.to.0) longest

-- how many entries a directory's lists have at one end alone
abbrev pub sides_apart : Ends → RowHistory → ℕ
sides_apart ends (File file) = 0
sides_apart ends (Dir dir) = length (only_in (children_at ends.from.0 dir) (children_at ends.to.0 dir)) + length (only_in (children_at ends.to.0 dir) (children_at ends.from.0 dir))

-- so many where an inode stands at both ends
abbrev pub where_both : Option Paths → ℕ → ℕ
where_both paths n = if is_some paths then n else 0

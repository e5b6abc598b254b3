-- What contracts see of a directory.
use Rattle.std.specs.Prelude.{ℕ, ◌+◌, ◌≤◌}
use Rattle.dir_changes.specs.History.{DirHistory}

-- what room was made: so many calls of `add` and `remove` together, of `start_record` and of `combine` can't want memory
pub record Room : Type 0 where
  pub edits : ℕ
  pub starts : ℕ
  pub merges : ℕ

-- a directory beside its room
pub record DirValue : Type 0 where
  pub history : DirHistory
  pub room : Room

-- no room is used up
pub record KeepsRoom (before after : Room) : Type 0 where
  pub edits : before.edits ≤ after.edits
  pub starts : before.starts ≤ after.starts
  pub merges : before.merges ≤ after.merges

-- at most the room of one edit is used up
pub record UsesEdit (before after : Room) : Type 0 where
  pub edits : before.edits ≤ after.edits + 1
  pub starts : before.starts ≤ after.starts
  pub merges : before.merges ≤ after.merges

-- at most the room for a new record is used up
pub record UsesStart (before after : Room) : Type 0 where
  pub edits : before.edits ≤ after.edits
  pub merges : before.merges ≤ after.merges

-- at most the room to combine is used up
pub record UsesMerge (before after : Room) : Type 0 where
  pub edits : before.edits ≤ after.edits
  pub starts : before.starts ≤ after.starts

use Rattle.std.proofs.Common.{◌≡◌, ◌≤◌, ◌+◌, true, drop}
use Rattle.std.specs.FinMap.Entries.{is_sorted}
use Rattle.hs_plain.specs.Files.{plain_files}
use Rattle.hs_plain.specs.Tree.{path_cmp}
use Rattle.hs_plain.specs.Replay.{replay_from, plain_after}
use Rattle.hs_plain.proofs.replay.replay.Given as goal

-- the entries that are left lead to the state of all, and the paths rise
abbrev pub invariant-loop-entry : goal.invariant-loop-entry
invariant-loop-entry l = record {
  left : replay_from plain_files l.state (drop l.entry-index l.entry-items) ≡ plain_after l.entries;
  tick : l.state.tick ≡ l.entry-index;
  inodes : l.state.next_inode ≤ l.entry-index + 2;
  snapshots : l.state.next_snapshot ≤ l.entry-index + 1;
  sorted : is_sorted path_cmp l.state.tree ≡ true;
}

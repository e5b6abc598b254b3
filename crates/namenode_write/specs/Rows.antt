-- What a namenode holds over a table of rows, and what an exclusive call makes of it.
use Rattle.std.specs.Prelude.{◌≡◌, ℕ, ◌+◌, ◌*◌, ◌≤◌, true, List, length, Option, is_some, if◌then◌else◌}
use Rattle.std.specs.List.{flat_map}
use Rattle.hs_types.specs.Blocks.{BlockMap}
use Rattle.hs_types.specs.declared.ids.BlockId.{BlockId}
use Rattle.hs_types.specs.declared.call.Call.{Call}
use Rattle.hs_types.specs.declared.reply.Reply.{Reply}
use Rattle.hs_types.specs.declared.journal.Entry.{Entry}
use Rattle.hs_plain.specs.declared.state.State.{State}
use Rattle.hs_plain.specs.Files.{plain_files}
use Rattle.hs_plain.specs.Answer.{answer, claimed, is_modifying, is_ok_reply}
use Rattle.hs_plain.specs.Change.{change, ticked}
use Rattle.snapshot_manager.specs.Snapshots.{Snapshots}
use Rattle.inode_table.specs.Kept.{told}
use Rattle.inode_table.specs.Tabled.{Tabled}
use Rattle.inode_table.specs.Totals as totals
use Rattle.inode_table.specs.Whole.{StandsForPlain}
use Rattle.namenode_write.specs.declared.rows.space.RowSpace.{RowSpace}
use Rattle.namenode_write.specs.NamenodeValue.{NamenodeValue}

-- table, snapshots, blocks of the store where it tells them, the greatest number that it has given, and the blocks that wait to be freed
pub record Held : Type 0 where
  pub table : Tabled
  pub snaps : Snapshots
  pub store : Option BlockMap
  pub greatest : ℕ
  pub waiting : List BlockId

-- the blocks of all lists that wait
abbrev pub all_of : List (List BlockId) → List BlockId
all_of lists = flat_map (λ blocks. blocks) lists

-- what is held in memory, by what a store tells
abbrev pub held : {S : Type 0} → (S → Option BlockMap) → (S → ℕ) → RowSpace S → Held
held blocks greatest space = record { table = told space.table; snaps = space.snaps; store = blocks space.store; greatest = greatest space.store; waiting = all_of space.waiting.items }

-- a namenode's journal beside what it holds
abbrev pub value_of : {S : Type 0} → RowSpace S → List Entry → NamenodeValue S
value_of space journal = record { entries = journal; store = space.store; limit = space.limit; table = told space.table; snaps = space.snaps; waiting = all_of space.waiting.items }

-- rows, records, entries of lists and live snapshots
abbrev pub weight : Held → State (List ℕ) → ℕ
weight held plain = totals.weight held.table.rows + length plain.members

-- it stands for a plain state after so many entries; ids and weight are bounded by their number
pub record IsAt (held : Held) (count : ℕ) (plain : State (List ℕ)) : Type 0 where
  pub stands : StandsForPlain held.table held.snaps held.store held.greatest held.waiting plain
  pub tick : plain.tick ≡ count
  pub inodes : plain.next_inode ≤ count + 2
  pub snapshots : plain.next_snapshot ≤ count + 1
  pub light : weight held plain ≤ 10 * count + 1

-- between calls it stands for a plain state
abbrev pub IsStanding : Held → ℕ → Type 0
IsStanding held tick = (plain : State (List ℕ)) × IsAt held tick plain

-- the plain state after a call that is done: a change has its entry then, anything else leaves none
abbrev pub done : State (List ℕ) → Call → State (List ℕ)
done plain call = if is_modifying call then ticked (change plain_files plain call) else plain

-- how many entries there are then
abbrev pub entries : ℕ → Call → ℕ
entries tick call = if is_modifying call then tick + 1 else tick

-- a call was done: its reply is the plain machine's, and so is its change, with the tick of its entry
pub record IsDone (before now : Held) (tick : ℕ) (call : Call) (reply : Reply) (plain : State (List ℕ)) : Type 0 where
  pub told : claimed (is_some before.store) reply ≡ claimed (is_some before.store) (answer plain call)
  pub ok : is_ok_reply reply ≡ true
  pub after : IsAt now (entries tick call) (done plain call)

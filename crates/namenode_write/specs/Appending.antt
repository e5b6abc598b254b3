-- What an append over rows asks for, and what is left when the store was asked. For proofs: contracts of calls speak of the plain state.
use Rattle.std.specs.Prelude.{◌≡◌, ℕ, ◌+◌, ◌≤◌, List, [], length, false, Option, Some, None, Result, Ok, IfOk, IfErr, OnOk, OnErr, IsErrOf}
use Rattle.hs_types.specs.Names.{Names}
use Rattle.hs_types.specs.Blocks.{BlockMap, IsFile}
use Rattle.hs_types.specs.Faults.{Rose}
use Rattle.hs_types.specs.declared.ids.BlockId.{BlockId}
use Rattle.hs_types.specs.declared.reply.Reply.{Reply}
use Rattle.hs_types.specs.declared.reply.Reply.TheVariants.{Done}
use Rattle.hs_types.specs.declared.refusal.Refusal.TheVariants.{StoreFault}
use Rattle.hs_plain.specs.declared.state.Node.{Node}
use Rattle.hs_plain.specs.declared.state.FileBlocks.{FileBlocks}
use Rattle.hs_plain.specs.declared.resolve.AskFault.{AskFault}
use Rattle.hs_plain.specs.declared.resolve.AskFault.TheVariants.{Refused}
use Rattle.hs_plain.specs.Asked.{Asked, ◌>>=◌}
use Rattle.block_store.specs.Changes.{Changes}
use Rattle.block_store.specs.declared.store.StoreErr.{StoreErr}
use Rattle.block_contents.specs.Contents.{Appended, KeepsFile, MakesOnly, Adds}
use Rattle.inode_table.specs.declared.change.Change.TheVariants as changes
use Rattle.inode_table.specs.Kept.{told}
use Rattle.inode_table.specs.Lent.{current_blocks}
use Rattle.inode_table.specs.RowHistory.{RowHistory, row_at, rows_at}
use Rattle.inode_table.specs.Tabled.{Tabled, changed, starts_in}
use Rattle.namenode_write.specs.declared.rows.seats.Seat.{Seat}
use Rattle.namenode_write.specs.declared.rows.space.RowSpace.{RowSpace}
use Rattle.namenode_write.specs.Reasons.{fault_of}
use Rattle.namenode_write.specs.Outcome.{tick_of}
use Rattle.namenode_write.specs.Rows.{all_of}

-- the path of the file that was asked for
abbrev pub append_path : Asked (Names × Node FileBlocks × FileBlocks) → Asked Names
append_path asked = asked >>= λ at. Ok at.0

-- a file of this size, with the blocks that its row names now
abbrev pub file_now : ℕ → Option RowHistory → FileBlocks
file_now size rows = record { size = size; blocks = current_blocks rows }

-- where a record is started that keeps the list of blocks there is a copy of it, and else none
abbrev pub IsCopyFor : Tabled → Seat → Option (List BlockId) → Type 0
IsCopyFor table seat None = starts_in seat.need.0 (row_at table.rows seat.id) ≡ false
IsCopyFor table seat (Some copy) = copy ≡ current_blocks (rows_at table.rows seat.id)

-- the file has these bytes more, and the blocks that were made for them
pub record HasGrown {S : Type 0} (blocks : S → Option BlockMap) (greatest : S → ℕ) (before after : RowSpace S) (seat : Seat) (file : FileBlocks) (bytes : List ℕ) : Type 0 where
  pub list : List BlockId
  pub is_file : IsFile (file.size + length bytes) list
  pub appended : Changes (blocks before.store) (blocks after.store) (Appended file.size file.blocks list bytes)
  pub made : Adds (greatest before.store) (greatest after.store) file.blocks list
  pub table : told after.table ≡ changed seat.id seat.need.0 (tick_of before + 1) (changes.Body (file.size + length bytes) list) (told before.table)
  pub waiting : after.waiting.items ≡ before.waiting.items

-- the store was asked to take bytes at the end of a file: the row has its new body, or what was made in vain waits
pub record IsTried {S : Type 0} (blocks : S → Option BlockMap) (greatest faults : S → ℕ) (before after : RowSpace S) (seat : Seat) (file : FileBlocks) (bytes : List ℕ) (result : Result Reply AskFault) : Type 0 where
  pub kept : Changes (blocks before.store) (blocks after.store) (KeepsFile file.size file.blocks)
  pub only : Changes (blocks before.store) (blocks after.store) (MakesOnly (greatest before.store) (greatest after.store))
  pub count : faults before.store ≤ faults after.store
  pub rose : IsErrOf result (Refused StoreFault) → Rose (faults before.store) (faults after.store)
  pub no_call : bytes ≡ [] → after.store ≡ before.store
  pub snaps : after.snaps ≡ before.snaps
  pub journal : after.journal ≡ before.journal
  pub limit : after.limit ≡ before.limit
  pub reply : IfOk result (λ reply. reply ≡ Done)
  pub grown : OnOk result (HasGrown blocks greatest before after seat file bytes)
  pub fault : IfErr result (λ fault. (error : StoreErr) × (fault ≡ fault_of error))
  pub table : OnErr result (told after.table ≡ told before.table)
  pub left : OnErr result (Adds (greatest before.store) (greatest after.store) (all_of before.waiting.items) (all_of after.waiting.items))

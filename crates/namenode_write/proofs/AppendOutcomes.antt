-- An append over the rows of a table was tried: its outcome.
use Rattle.std.proofs.Common.{◌≡◌, ℕ, ◌+◌, ◌≤◌, ◌==◌, true, false, List, [], ◌∷◌, ◌++◌, length, Option, Some, Ok, Err, refl, sym, ap, subst, ◌∙◌, arith}
use Rattle.std.specs.Prelude.{Result, IfErr}
use Rattle.std.proofs.lemmas.Bool.Decides.{Decides-eqb}
use Rattle.hs_types.specs.Names.{Names}
use Rattle.hs_types.specs.Blocks.{BlockMap}
use Rattle.hs_types.specs.declared.ids.BlockId.{BlockId}
use Rattle.hs_types.specs.declared.call.Call.{Call}
use Rattle.hs_types.specs.declared.call.Call.TheVariants as calls
use Rattle.hs_types.specs.declared.reply.Reply.{Reply}
use Rattle.hs_types.specs.declared.reply.Reply.TheVariants as replies
use Rattle.hs_plain.specs.declared.state.Node.{Node}
use Rattle.hs_plain.specs.declared.state.State.{State}
use Rattle.hs_plain.specs.declared.state.FileBlocks.{FileBlocks}
use Rattle.hs_plain.specs.declared.resolve.AskFault.{AskFault}
use Rattle.hs_plain.specs.Asked.{Asked}
use Rattle.hs_plain.specs.Files.{block_files}
use Rattle.hs_plain.specs.Modifying.{append_at}
use Rattle.hs_plain.specs.Answer.{answer_by, is_ok_reply, replied, reply_to}
use Rattle.block_store.specs.declared.store.StoreErr.{StoreErr}
use Rattle.block_store.specs.declared.store.StoreErr.TheVariants as errors
use Rattle.block_contents.specs.Contents.{KeepsFile, Adds}
use Rattle.file_changes.specs.History.{FileHistory}
use Rattle.inode_table.specs.declared.change.Change.TheVariants as changes
use Rattle.inode_table.specs.Kept.{CanChange, told}
use Rattle.inode_table.specs.RowHistory.{File, rows_at}
use Rattle.inode_table.specs.Tabled.{Tabled, changed}
use Rattle.inode_table.specs.Whole.{StandsFor}
use Rattle.namenode_write.specs.declared.rows.seats.Seat.{Seat}
use Rattle.namenode_write.specs.declared.rows.space.RowSpace.{RowSpace}
use Rattle.namenode_write.specs.Appending.{append_path, HasGrown, IsTried}
use Rattle.namenode_write.specs.Reasons.{fault_of}
use Rattle.namenode_write.specs.Outcome.{tick_of, is_refusal, HasPlace, IsOutcome}
use Rattle.namenode_write.specs.RowFiles.{body_of, file_in}
use Rattle.namenode_write.specs.Rows.{Held, held, all_of, weight, done, IsAt, IsStanding, IsDone}
use Rattle.namenode_write.specs.Seats.{IsSeat}
use Rattle.namenode_write.proofs.AppendedCalls.{file_so, path_so, append-so, append-can, append-done, append-heavier, grown}
use Rattle.namenode_write.proofs.Outcomes.{IsAlike}
use Rattle.namenode_write.proofs.StoreOutcomes.{IsAsked, same-place, still-tells, store-outcome, stored-outcome, outcome-from, alike-table, alike-stands, alike-standing}

-- an append is answered Done where it isn't refused
pub append-answered : (state : State FileBlocks) (text bytes : List ℕ) (path : Names) → append_path (append_at state text) ≡ Ok path → is_ok_reply (answer_by block_files state (calls.Append text bytes)) ≡ true
append-answered state text bytes path asked = let p = path_so (append_at state text) path asked in ap (λ (a : Asked (Names × Node FileBlocks × FileBlocks)). is_ok_reply (reply_to (replied replies.Done a))) p.2

-- no bytes
none_of : (bytes : List ℕ) → (length bytes == 0) ≡ true → bytes ≡ []
none_of [] e = refl
none_of (b ∷ bytes) e = let none : length (b ∷ bytes) ≡ 0 = (Decides-eqb (length (b ∷ bytes)) 0).0 e in absurd (omega (arith, none))

-- a fault of the store, or want of memory, is no refusal
tried-never : (result : Result Reply AskFault) → IfErr result (λ fault. (error : StoreErr) × (fault ≡ fault_of error)) → IfErr result (λ fault. is_refusal fault ≡ false)
tried-never (Ok reply) is = tt
tried-never (Err fault) is = ap is_refusal is.1 ∙ by is.0
  where
    by : (error : StoreErr) → is_refusal (fault_of error) ≡ false
    by errors.Failed = refl
    by errors.NoMemory = refl

module _ {S : Type 0} (blocks : S → Option BlockMap) (greatest faults : S → ℕ) (before : RowSpace S) (text : List ℕ) (path : Names) (seat : Seat)
    (asked : (state : State FileBlocks) → StandsFor (told before.table) before.snaps state → append_path (append_at state text) ≡ Ok path)
    (seated : (state : State FileBlocks) → StandsFor (told before.table) before.snaps state → IsSeat (told before.table).rows state path seat) where
  abbrev old_held : Held
  old_held = held blocks greatest before

  -- a body of any size and blocks fits the row
  pub seat-can : (file : FileBlocks) → file_in 0 (rows_at (told before.table).rows seat.id) ≡ Ok file → IsStanding old_held (tick_of before) → (size : ℕ) (list : List BlockId) → CanChange (told before.table).rows seat.id (changes.Body size list)
  seat-can file is standing size list =
      let at = standing.1 in
      let f = file_so (rows_at (told before.table).rows seat.id) file is in
      let s = seated at.stands.state at.stands.stands in
      append-can old_held (tick_of before) standing.0 at path seat s f.0 f.1 text (append-so old_held (tick_of before) standing.0 at path seat s f.0 f.1 text (asked at.stands.state at.stands.stands)) size list

  module _ (after : RowSpace S) (bytes : List ℕ) (placed : HasPlace before) (file : FileHistory) (row : rows_at (told before.table).rows seat.id ≡ Some (File file)) where
    abbrev call : Call
    call = calls.Append text bytes

    module _ (result : Result Reply AskFault) (tried : IsTried blocks greatest faults before after seat (body_of file.current) bytes result) where
      asks : IsAsked blocks greatest faults before after call
      asks = record {
        journal = ap (λ (j : _). j.items) tried.journal;
        limit = tried.limit;
        place = same-place before after tried.journal tried.limit placed;
        tells = still-tells (KeepsFile file.current.size file.current.blocks) (blocks before.store) (blocks after.store) tried.kept;
        count = tried.count;
        store = λ none. tried.no_call (none_of bytes none);
        reads = λ none. absurd (cc);
      }

      -- the append is done
      grown-held : (g : HasGrown blocks greatest before after seat (body_of file.current) bytes)
          → held blocks greatest after ≡ record old_held { table = changed seat.id seat.need.0 (tick_of before + 1) (changes.Body (file.current.size + length bytes) g.list) (told before.table); store = blocks after.store; greatest = greatest after.store }
      grown-held g = λ i. record { table = g.table i; snaps = tried.snaps i; store = blocks after.store; greatest = greatest after.store; waiting = all_of (g.waiting i) }

      grown-done : (g : HasGrown blocks greatest before after seat (body_of file.current) bytes) (plain : State (List ℕ)) → IsAt old_held (tick_of before) plain → IsDone old_held (held blocks greatest after) (tick_of before) call replies.Done plain
      grown-done g plain at =
          let s = seated at.stands.state at.stands.stands in
          let is = append-so old_held (tick_of before) plain at path seat s file row text (asked at.stands.state at.stands.stands) in
          subst (λ (h : Held). IsDone old_held h (tick_of before) call replies.Done plain) (sym (grown-held g))
          (append-done old_held (tick_of before) plain at path seat s file row (blocks after.store) (greatest after.store) tried.kept tried.only text bytes is g.list g.is_file g.appended g.made)

      grown-heavier : (g : HasGrown blocks greatest before after seat (body_of file.current) bytes) (plain : State (List ℕ)) → IsAt old_held (tick_of before) plain → weight (held blocks greatest after) (done plain call) ≤ weight old_held plain + 10
      grown-heavier g plain at =
          let s = seated at.stands.state at.stands.stands in
          let is = append-so old_held (tick_of before) plain at path seat s file row text (asked at.stands.state at.stands.stands) in
          subst (λ (h : Held). weight h (done plain call) ≤ weight old_held plain + 10) (sym (grown-held g))
          (append-heavier old_held (tick_of before) plain at path seat s file row (blocks after.store) (greatest after.store) tried.kept tried.only text bytes is g.list g.is_file g.appended g.made)

      -- it isn't, and what was made in vain waits
      left-held : told after.table ≡ told before.table → (made : List BlockId) → all_of after.waiting.items ≡ all_of before.waiting.items ++ made
          → held blocks greatest after ≡ record old_held { store = blocks after.store; greatest = greatest after.store; waiting = all_of before.waiting.items ++ made }
      left-held table made waiting = λ i. record { table = table i; snaps = tried.snaps i; store = blocks after.store; greatest = greatest after.store; waiting = waiting i }

      left-at : told after.table ≡ told before.table → Adds (greatest before.store) (greatest after.store) (all_of before.waiting.items) (all_of after.waiting.items)
          → (plain : State (List ℕ)) → IsAt old_held (tick_of before) plain → IsAt (held blocks greatest after) (tick_of before) plain
      left-at table left plain at =
          let s = seated at.stands.state at.stands.stands in
          subst (λ (h : Held). IsAt h (tick_of before) plain) (sym (left-held table left.0 left.1))
          (grown old_held (tick_of before) plain at path seat s file row (blocks after.store) (greatest after.store) tried.kept tried.only left.0 left.2)

    tried-is : (result : Result Reply AskFault) → IsTried blocks greatest faults before after seat (body_of file.current) bytes result → IsOutcome blocks greatest faults before after call result
    tried-is (Ok reply) tried = subst (λ (r : Reply). IsOutcome blocks greatest faults before after call (Ok r)) (sym tried.reply)
        (stored-outcome blocks greatest faults before after call replies.Done (grown-done (Ok reply) tried tried.grown) (grown-heavier (Ok reply) tried tried.grown) (asks (Ok reply) tried) (ap all_of tried.grown.waiting) refl)
    tried-is (Err fault) tried =
        store-outcome blocks greatest faults before after call (Err fault) fault tried.fault.0 refl tried.fault.1 refl
        (λ state stands. append-answered state text bytes path (asked state stands))
        (left-at (Err fault) tried tried.table tried.left) (asks (Err fault) tried) tried.table tried.snaps
        (λ fails. tried.rose (ap (λ (x : AskFault). Err x) (tried.fault.1 ∙ ap fault_of fails)))

  tried-outcome : (after : RowSpace S) (bytes : List ℕ) (file : FileBlocks) (result : Result Reply AskFault) → HasPlace before → file_in 0 (rows_at (told before.table).rows seat.id) ≡ Ok file
      → IsTried blocks greatest faults before after seat file bytes result → IsOutcome blocks greatest faults before after (calls.Append text bytes) result
  tried-outcome after bytes file result placed is tried =
      let f = file_so (rows_at (told before.table).rows seat.id) file is in
      tried-is after bytes placed f.0 f.1 result (subst (λ (x : FileBlocks). IsTried blocks greatest faults before after seat x bytes result) (sym f.2) tried)

-- ---- from before room was made

module _ {S : Type 0} (blocks : S → Option BlockMap) (greatest faults : S → ℕ) (before middle : RowSpace S) (alike : IsAlike blocks greatest before middle) (text : List ℕ) (path : Names) (seat : Seat)
    (asked : (state : State FileBlocks) → StandsFor (told before.table) before.snaps state → append_path (append_at state text) ≡ Ok path)
    (seated : (state : State FileBlocks) → StandsFor (told before.table) before.snaps state → IsSeat (told before.table).rows state path seat) where
  asked_then : (state : State FileBlocks) → StandsFor (told middle.table) middle.snaps state → append_path (append_at state text) ≡ Ok path
  asked_then state stands = asked state (alike-stands blocks greatest before middle alike state stands)

  seated_then : (state : State FileBlocks) → StandsFor (told middle.table) middle.snaps state → IsSeat (told middle.table).rows state path seat
  seated_then state stands = subst (λ (t : Tabled). IsSeat t.rows state path seat) (sym (alike-table blocks greatest before middle alike)) (seated state (alike-stands blocks greatest before middle alike state stands))

  pub then-row : (file : FileBlocks) → file_in 0 (rows_at (told before.table).rows seat.id) ≡ Ok file → file_in 0 (rows_at (told middle.table).rows seat.id) ≡ Ok file
  then-row file is = ap (λ (t : Tabled). file_in 0 (rows_at t.rows seat.id)) (alike-table blocks greatest before middle alike) ∙ is

  pub then-can : (file : FileBlocks) → file_in 0 (rows_at (told before.table).rows seat.id) ≡ Ok file → IsStanding (held blocks greatest before) (tick_of before) → (size : ℕ) (list : List BlockId) → CanChange (told middle.table).rows seat.id (changes.Body size list)
  then-can file is standing = seat-can blocks greatest faults middle text path seat asked_then seated_then file (then-row file is) (alike-standing blocks greatest before middle alike standing)

  pub then-outcome : (after : RowSpace S) (bytes : List ℕ) (file : FileBlocks) (result : Result Reply AskFault) → HasPlace middle → file_in 0 (rows_at (told before.table).rows seat.id) ≡ Ok file
      → IsTried blocks greatest faults middle after seat file bytes result → IsOutcome blocks greatest faults before after (calls.Append text bytes) result
  then-outcome after bytes file result placed is tried =
      outcome-from blocks greatest faults before middle after (calls.Append text bytes) result alike (tried-never result tried.fault)
      (tried-outcome blocks greatest faults middle text path seat asked_then seated_then after bytes file result placed (then-row file is) tried)

-- What stands for a state with blocks stands for the plain one.
use Rattle.std.proofs.Common.{◌≡◌, ℕ, ◌+◌, ◌≤◌, Bool, true, false, cond, List, [], ◌∷◌, ◌++◌, length, Option, Some, None, Ok, refl, sym, ap, subst, ◌∙◌, arith}
use Rattle.std.specs.Ordering.{eq_by_cmp}
use Rattle.hs_types.specs.Names.{Names}
use Rattle.hs_types.specs.Blocks.{BlockMap}
use Rattle.hs_types.specs.declared.ids.BlockId.{BlockId}
use Rattle.hs_types.specs.declared.ids.InodeId.{InodeId}
use Rattle.hs_types.specs.declared.name.Spot.{Spot}
use Rattle.hs_types.specs.declared.call.Call.{Call}
use Rattle.hs_types.specs.declared.call.Call.TheVariants as calls
use Rattle.hs_plain.specs.declared.state.Node.{Node}
use Rattle.hs_plain.specs.declared.state.State.{State}
use Rattle.hs_plain.specs.declared.state.FileBlocks.{FileBlocks}
use Rattle.hs_plain.specs.Files.{plain_files, block_files}
use Rattle.hs_plain.specs.State.{start}
use Rattle.hs_plain.specs.Modifying.{append_at}
use Rattle.hs_plain.specs.Answer.{uses_store}
use Rattle.hs_plain.specs.Change.{change, with_file, ticked}
use Rattle.hs_plain.specs.Viewed as viewed
use Rattle.hs_plain.specs.Viewed.{HasBytes}
use Rattle.hs_plain.proofs.Stands.{change_stands, change_told, appended_stands, appended_told}
use Rattle.hs_plain.proofs.Validity.{valid-start}
use Rattle.hs_plain.proofs.ValidShapes.{none_some, same_some}
use Rattle.snapshot_manager.specs.Snapshots as snapshots
use Rattle.snapshot_manager.specs.Snapshots.{Snapshots}
use Rattle.snapshot_manager.proofs.MemberLemmas.{at_start}
use Rattle.block_store.specs.Changes.{Changes, Sets}
use Rattle.inode_table.specs.Blocked.{AreBlocks}
use Rattle.inode_table.specs.RowHistory.{RowState, id_order, row_at}
use Rattle.inode_table.specs.Stands.{root_id}
use Rattle.inode_table.specs.Start.{first_table, first_row}
use Rattle.inode_table.specs.Tabled.{Tabled}
use Rattle.inode_table.specs.Whole.{StandsFor, StandsForPlain}
use Rattle.inode_table.proofs.Reading.{by_id}
use Rattle.inode_table.proofs.Starting.{start-stands}
use Rattle.table_laws.specs.Blocking.{HasNone}
use Rattle.table_laws.specs.WholePlain.{IsLonger}
use Rattle.table_laws.proofs.BlockBodies.{free-blocks}
use Rattle.table_laws.proofs.BlockBytes.{free-bytes}
use Rattle.table_laws.proofs.BlockSteps.{start-blocks}
use Rattle.table_laws.proofs.NamedRows.{start-names}
use Rattle.table_laws.proofs.NamedTables.{not-tied}
use Rattle.table_laws.proofs.Recording.{records-first}
use Rattle.table_laws.proofs.WholeNodes.{whole-ticked}

-- ---- the start

first_one : (spot : Spot) (id : InodeId) (row : RowState) → row_at (first_table spot).rows id ≡ Some row → first_row spot ≡ row
first_one spot id row h = by (eq_by_cmp id_order id root_id) h
  where
    by : (b : Bool) → cond b (Some (first_row spot)) None ≡ Some row → first_row spot ≡ row
    by true k = same_some k
    by false k = absurd (none_some k)

pub whole-start : (spot : Spot) → StandsFor (first_table spot) snapshots.start (start {B = FileBlocks})
whole-start spot = record {
  valid = valid-start;
  stands = start-stands spot;
  marks = record {
    since = λ id row h. subst (λ (r : RowState). r.since ≤ 0) (first_one spot id row h) (omega arith);
    carry = λ id row h. subst (λ (r : RowState). r.carry ≤ 0) (first_one spot id row h) (omega arith);
    root = refl;
  };
  records = (records-first spot).0;
  filled = record { first = (records-first spot).1.first; upto = (records-first spot).1.upto; few = (records-first spot).1.few; now = omega arith };
  naming = (start-names spot).0;
  named = (start-names spot).1;
  told = at_start;
  snapshottable = λ id. refl;
  next_inode = refl;
  next_snapshot = refl;
  ids = λ id row h. within id row h;
  handed_out = refl;
}
  where
    within : (id : InodeId) (row : RowState) → row_at (first_table spot).rows id ≡ Some row → id.0 ≤ 1
    within id row h = by_id id root_id (λ same. subst (λ (i : InodeId). i.0 ≤ 1) (sym same) (omega arith)) (λ ne. absurd (none_some (sym (ap (λ b. cond b (Some (first_row spot)) None) (not-tied id root_id ne)) ∙ h)))

pub plain-start : (spot : Spot) (store : Option BlockMap) (made : ℕ) → HasNone store → StandsForPlain (first_table spot) snapshots.start store made [] (start {B = List ℕ})
plain-start spot store made none = record { state = start; stands = whole-start spot; sized = refl; bytes = by store; blocks = start-blocks spot store made none }
  where
    by : (store : Option BlockMap) → HasBytes store (start {B = FileBlocks}) (start {B = List ℕ})
    by None = tt
    by (Some map) = refl

-- ---- calls

bytes_ticked : (store : Option BlockMap) (state : State FileBlocks) (plain : State (List ℕ)) → HasBytes store state plain → HasBytes store (ticked state) (ticked plain)
bytes_ticked None state plain has = tt
bytes_ticked (Some map) state plain has = ap ticked has

pub plain-tick : (t : Tabled) (snaps : Snapshots) (store : Option BlockMap) (made : ℕ) (waiting : List BlockId) (plain : State (List ℕ))
    → StandsForPlain t snaps store made waiting plain → StandsForPlain t snaps store made waiting (ticked plain)
plain-tick t snaps store made waiting plain was = record {
  state = ticked was.state;
  stands = whole-ticked t snaps was.state was.stands;
  sized = ap ticked was.sized;
  bytes = bytes_ticked store was.state plain was.bytes;
  blocks = was.blocks;
}

pub plain-call : (t after : Tabled) (snaps next : Snapshots) (store : Option BlockMap) (made : ℕ) (waiting left : List BlockId) (plain : State (List ℕ)) (call : Call) (was : StandsForPlain t snaps store made waiting plain)
    → uses_store call ≡ false → StandsFor after next (ticked (change block_files was.state call)) → AreBlocks after.rows store made left
    → StandsForPlain after next store made left (ticked (change plain_files plain call))
plain-call t after snaps next store made waiting left plain call was storeless stands blocks = record {
  state = ticked (change block_files was.state call);
  stands = stands;
  sized = ap ticked (change_stands was.state plain was.sized call);
  bytes = bytes_ticked store (change block_files was.state call) (change plain_files plain call) (change_told store was.state plain was.bytes call storeless);
  blocks = blocks;
}

appended_bytes : (now : Option BlockMap) (state : State FileBlocks) (plain : State (List ℕ)) (text bytes : List ℕ) (path : Names) (node : Node FileBlocks) (old new : FileBlocks) → append_at state text ≡ Ok (path, node, old)
    → IsLonger now old new bytes → HasBytes now state plain → HasBytes now (with_file state path node new) (change plain_files plain (calls.Append text bytes))
appended_bytes None state plain text bytes path node old new asked longer has = tt
appended_bytes (Some map) state plain text bytes path node old new asked longer has = appended_told map state plain has text bytes path node old new asked longer

pub plain-append : (t after : Tabled) (snaps next : Snapshots) (now : Option BlockMap) (made : ℕ) (waiting left : List BlockId) (plain : State (List ℕ)) (text bytes : List ℕ) (path : Names) (node : Node FileBlocks) (old new : FileBlocks)
    (was : StandsForPlain t snaps now made waiting plain) → append_at was.state text ≡ Ok (path, node, old) → new.size ≡ old.size + length bytes → IsLonger now old new bytes
    → StandsFor after next (ticked (with_file was.state path node new)) → AreBlocks after.rows now made left
    → StandsForPlain after next now made left (ticked (change plain_files plain (calls.Append text bytes)))
plain-append t after snaps next now made waiting left plain text bytes path node old new was asked size longer stands blocks = record {
  state = ticked (with_file was.state path node new);
  stands = stands;
  sized = ap ticked (appended_stands was.state plain was.sized text bytes path node old new asked size);
  bytes = bytes_ticked now (with_file was.state path node new) (change plain_files plain (calls.Append text bytes)) (appended_bytes now was.state plain text bytes path node old new asked longer was.bytes);
  blocks = blocks;
}

-- ---- the store

pub plain-free : (t : Tabled) (snaps : Snapshots) (store now : Option BlockMap) (made : ℕ) (front back : List BlockId) (block : BlockId) (plain : State (List ℕ)) → Changes store now (Sets block None)
    → StandsForPlain t snaps store made (front ++ block ∷ back) plain → StandsForPlain t snaps now made (front ++ back) plain
plain-free t snaps store now made front back block plain frees was = record {
  state = was.state;
  stands = was.stands;
  sized = was.sized;
  bytes = free-bytes t.rows was.state plain snaps.issued.0 store now made front back block (record { live = was.stands.valid.sorted; copies = was.stands.valid.copies_sorted }) was.stands.stands frees was.blocks was.bytes;
  blocks = free-blocks t.rows store now made front back block frees was.blocks;
}

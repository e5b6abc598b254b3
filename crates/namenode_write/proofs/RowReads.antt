-- A page that a read found by rows is the plain machine's answer.
use Rattle.std.proofs.Common.{◌≡◌, ℕ, ◌+◌, ◌≤◌, true, false, cond, List, Option, Ok, Err, IfSome, refl, sym, ap, subst, ◌∙◌, arith}
use Rattle.std.specs.Prelude.{is_some}
use Rattle.hs_types.specs.Blocks.{BlockMap}
use Rattle.hs_types.specs.Faults.{Rose}
use Rattle.hs_types.specs.declared.call.Call.{Call}
use Rattle.hs_types.specs.declared.call.Call.TheVariants as calls
use Rattle.hs_types.specs.declared.call.Place.{Place}
use Rattle.hs_types.specs.declared.call.ReadCursor.{ReadCursor}
use Rattle.hs_types.specs.declared.reply.Reply.{Reply}
use Rattle.hs_types.specs.declared.refusal.Refusal.{Refusal}
use Rattle.hs_plain.specs.declared.state.State.{State}
use Rattle.hs_plain.specs.declared.state.FileBlocks.{FileBlocks}
use Rattle.hs_plain.specs.declared.resolve.AskFault.{AskFault}
use Rattle.hs_plain.specs.Asked.{Asked, ◌>>=◌}
use Rattle.hs_plain.specs.Answer.{answer_by, blanked, is_modifying, is_ok_reply, reply_to, uses_store}
use Rattle.hs_plain.specs.Change.{change, ticked}
use Rattle.hs_plain.specs.Files.{plain_files, block_files}
use Rattle.hs_plain.specs.Reading.{found_file, next_file, page_at}
use Rattle.hs_plain.specs.Viewed.{bytes_in}
use Rattle.block_store.specs.declared.store.StoreErr.{StoreErr}
use Rattle.block_store.specs.declared.store.StoreErr.TheVariants as errors
use Rattle.inode_table.specs.Kept.{told}
use Rattle.inode_table.specs.RowHistory.{Table}
use Rattle.inode_table.specs.Tabled.{Tabled}
use Rattle.inode_table.specs.Whole.{StandsFor}
use Rattle.namenode_write.specs.declared.rows.space.RowSpace.{RowSpace}
use Rattle.namenode_write.specs.Reasons.{fault_of}
use Rattle.namenode_write.specs.Outcome.{tick_of, is_refusal, is_storeless, is_freeing, most_added, HasPlace, IsOutcome}
use Rattle.namenode_write.specs.RowFiles.{file_placed, placed_file, HasFile}
use Rattle.namenode_write.specs.Rows.{Held, held, all_of, weight, done, IsAt, IsDone}
use Rattle.namenode_write.proofs.Outcomes.{IsAlike, place-told}
use Rattle.namenode_write.proofs.ReadAnswers.{page-answered}
use Rattle.namenode_write.proofs.StoreOutcomes.{IsAsked, same-place, place-alike, alike-stands, store-outcome, stored-outcome, outcome-from}

module _ (before : Held) (tick : ℕ) (plain : State (List ℕ)) (at : IsAt before tick plain) where
  pub rows-read : (text : List ℕ) (offset len : ℕ) (found : Place × FileBlocks) (reply : Reply) (now : Held) → now ≡ before → found_file at.stands.state text ≡ Ok found → blanked reply ≡ page_at block_files offset len found
      → IfSome before.store (λ map. reply ≡ page_at (record block_files { bytes = bytes_in map }) offset len found) → IsDone before now tick (calls.Read text offset len) reply plain
  rows-read text offset len found reply now same is_found sized tells =
      let page = page-answered before.store at.stands.state plain at.stands.sized at.stands.bytes (calls.Read text offset len) (found_file at.stands.state text) offset len found is_found refl refl (λ files. refl) reply sized tells in
      record { told = page.0; ok = page.1; after = subst (λ (h : Held). IsAt h tick plain) (sym same) at }

  pub rows-next : (cursor : ReadCursor) (len : ℕ) (found : Place × FileBlocks) (reply : Reply) (now : Held) → now ≡ before → next_file at.stands.state cursor.place ≡ Ok found → blanked reply ≡ page_at block_files cursor.offset len found
      → IfSome before.store (λ map. reply ≡ page_at (record block_files { bytes = bytes_in map }) cursor.offset len found) → IsDone before now tick (calls.ReadNext cursor len) reply plain
  rows-next cursor len found reply now same is_found sized tells =
      let page = page-answered before.store at.stands.state plain at.stands.sized at.stands.bytes (calls.ReadNext cursor len) (next_file at.stands.state cursor.place) cursor.offset len found is_found refl refl (λ files. refl) reply sized tells in
      record { told = page.0; ok = page.1; after = subst (λ (h : Held). IsAt h tick plain) (sym same) at }

-- a file that is there, with its place
pub has-placed : (rows : Table) (place : Place) (has : HasFile rows place) → placed_file rows place ≡ Ok (place, has.0)
has-placed rows place has = ap (λ (a : Asked FileBlocks). a >>= λ file. Ok (place, file)) has.1

pub one-file : (a : Asked FileBlocks) (x y : FileBlocks) → a ≡ Ok x → a ≡ Ok y → x ≡ y
one-file a x y e f = let both = sym e ∙ f in cc

pub no-file : (a : Asked FileBlocks) (x : FileBlocks) (why : Refusal) → a ≡ Ok x → a ≡ Err why → ⊥
no-file a x why e f = let both = sym e ∙ f in cc

-- a read is answered with a page where its tests find a file
pub would-read : (tests : Asked (Place × FileBlocks)) (at : Place × FileBlocks) (offset len : ℕ) → tests ≡ Ok at → is_ok_reply (reply_to (tests >>= λ x. Ok (page_at block_files offset len x))) ≡ true
would-read tests at offset len e = ap (λ (a : Asked (Place × FileBlocks)). is_ok_reply (reply_to (a >>= λ x. Ok (page_at block_files offset len x)))) e

-- ---- spaces

-- the file is there once a place was made
pub placed-then : {S : Type 0} (before middle : RowSpace S) → middle ≡ record before { journal = middle.journal } → (place : Place) → HasFile (told before.table).rows place → HasFile (told middle.table).rows place
placed-then before middle made place has = (has.0, ap (λ (t : Tabled). file_placed t.rows place) (place-told before middle made) ∙ has.1)

module _ {S : Type 0} (blocks : S → Option BlockMap) (greatest faults : S → ℕ) (before middle after : RowSpace S) (made : middle ≡ record before { journal = middle.journal }) (items : middle.journal.items ≡ before.journal.items) (placed : HasPlace middle) (rest : after ≡ record middle { store = after.store })
    (kept : blocks after.store ≡ blocks middle.store) (most : greatest after.store ≡ greatest middle.store) (count : faults middle.store ≤ faults after.store) where
  alike : IsAlike blocks greatest before middle
  alike = place-alike blocks greatest before middle made items

  held-same : held blocks greatest after ≡ held blocks greatest middle
  held-same = λ i. record { table = told (rest i).table; snaps = (rest i).snaps; store = kept i; greatest = most i; waiting = all_of (rest i).waiting.items }

  asks : (call : Call) → is_storeless call ≡ false → IsAsked blocks greatest faults middle after call
  asks call asked = record {
    journal = ap (λ (r : RowSpace S). r.journal.items) rest;
    limit = ap (λ (r : RowSpace S). r.limit) rest;
    place = same-place middle after (ap (λ (r : RowSpace S). r.journal) rest) (ap (λ (r : RowSpace S). r.limit) rest) placed;
    tells = ap is_some kept;
    count = count;
    store = λ none. absurd (cc);
    reads = λ none. held-same;
  }

  light : (call : Call) (plain : State (List ℕ)) → is_modifying call ≡ false → weight (held blocks greatest after) (done plain call) ≤ weight (held blocks greatest middle) plain + most_added call
  light call plain reads =
      let same : weight (held blocks greatest after) (done plain call) ≡ weight (held blocks greatest middle) plain
      = ap (λ (h : Held). weight h (done plain call)) held-same ∙ ap (λ b. weight (held blocks greatest middle) (cond b (ticked (change plain_files plain call)) plain)) reads in
      omega (arith, same)

  -- a page was read
  page-outcome : (call : Call) (reply : Reply) → is_modifying call ≡ false → is_storeless call ≡ false → is_freeing call ≡ false
      → ((plain : State (List ℕ)) → IsAt (held blocks greatest middle) (tick_of middle) plain → IsDone (held blocks greatest middle) (held blocks greatest after) (tick_of middle) call reply plain) → IsOutcome blocks greatest faults before after call (Ok reply)
  page-outcome call reply reads asked frees done_so =
      outcome-from blocks greatest faults before middle after call (Ok reply) alike tt
      (stored-outcome blocks greatest faults middle after call reply done_so (λ plain at. light call plain reads) (asks call asked) (ap (λ (h : Held). h.waiting) held-same) frees)

  -- it wasn't
  unread-outcome : (call : Call) (fault : AskFault) (error : StoreErr) → fault ≡ fault_of error → uses_store call ≡ true → is_storeless call ≡ false
      → ((state : State FileBlocks) → StandsFor (told middle.table) middle.snaps state → is_ok_reply (answer_by block_files state call) ≡ true)
      → (error ≡ errors.Failed → Rose (faults middle.store) (faults after.store)) → IsOutcome blocks greatest faults before after call (Err fault)
  unread-outcome call fault error is uses asked would rose =
      outcome-from blocks greatest faults before middle after call (Err fault) alike (ap is_refusal is ∙ never error)
      (store-outcome blocks greatest faults middle after call (Err fault) fault error refl is uses would
      (λ plain at. subst (λ (h : Held). IsAt h (tick_of middle) plain) (sym held-same) at) (asks call asked) (ap (λ (h : Held). h.table) held-same) (ap (λ (h : Held). h.snaps) held-same) rose)
    where
      never : (e : StoreErr) → is_refusal (fault_of e) ≡ false
      never errors.Failed = refl
      never errors.NoMemory = refl

  -- ---- a file at a place

  module _ (place : Place) (has : HasFile (told before.table).rows place) where
    found-then : (tests : State FileBlocks → Asked (Place × FileBlocks)) → ((state : State FileBlocks) → StandsFor (told before.table) before.snaps state → tests state ≡ placed_file (told before.table).rows place)
        → (state : State FileBlocks) → StandsFor (told middle.table) middle.snaps state → tests state ≡ Ok (place, has.0)
    found-then tests found state stands = found state (alike-stands blocks greatest before middle alike state stands) ∙ has-placed (told before.table).rows place has

    module _ (text : List ℕ) (offset len : ℕ) (found : (state : State FileBlocks) → StandsFor (told before.table) before.snaps state → found_file state text ≡ placed_file (told before.table).rows place) where
      pub read-is : (reply : Reply) → ((file : FileBlocks) → file_placed (told middle.table).rows place ≡ Ok file → blanked reply ≡ page_at block_files offset len (place, file))
          → ((file : FileBlocks) → file_placed (told middle.table).rows place ≡ Ok file → IfSome (blocks middle.store) (λ map. reply ≡ page_at (record block_files { bytes = bytes_in map }) offset len (place, file)))
          → IsOutcome blocks greatest faults before after (calls.Read text offset len) (Ok reply)
      unfolding placed-then
      read-is reply sized tells = page-outcome (calls.Read text offset len) reply refl refl refl
          (λ plain at. rows-read (held blocks greatest middle) (tick_of middle) plain at text offset len (place, has.0) reply (held blocks greatest after) held-same
          (found-then (λ state. found_file state text) found at.stands.state at.stands.stands) (sized has.0 (placed-then before middle made place has).1) (tells has.0 (placed-then before middle made place has).1))

      pub read-fails : (fault : AskFault) (error : StoreErr) → fault ≡ fault_of error → (error ≡ errors.Failed → Rose (faults middle.store) (faults after.store)) → IsOutcome blocks greatest faults before after (calls.Read text offset len) (Err fault)
      read-fails fault error is rose = unread-outcome (calls.Read text offset len) fault error is refl refl
          (λ state stands. would-read (found_file state text) (place, has.0) offset len (found-then (λ state. found_file state text) found state stands)) rose

  module _ (cursor : ReadCursor) (len : ℕ) (has : HasFile (told before.table).rows cursor.place)
      (found : (state : State FileBlocks) → StandsFor (told before.table) before.snaps state → next_file state cursor.place ≡ placed_file (told before.table).rows cursor.place) where
    pub next-is : (reply : Reply) → ((file : FileBlocks) → file_placed (told middle.table).rows cursor.place ≡ Ok file → blanked reply ≡ page_at block_files cursor.offset len (cursor.place, file))
        → ((file : FileBlocks) → file_placed (told middle.table).rows cursor.place ≡ Ok file → IfSome (blocks middle.store) (λ map. reply ≡ page_at (record block_files { bytes = bytes_in map }) cursor.offset len (cursor.place, file)))
        → IsOutcome blocks greatest faults before after (calls.ReadNext cursor len) (Ok reply)
    unfolding placed-then
    next-is reply sized tells =
        let then = placed-then before middle made cursor.place has in
        page-outcome (calls.ReadNext cursor len) reply refl refl refl
        (λ plain at. rows-next (held blocks greatest middle) (tick_of middle) plain at cursor len (cursor.place, has.0) reply (held blocks greatest after) held-same
        (found-then cursor.place has (λ state. next_file state cursor.place) found at.stands.state at.stands.stands) (sized has.0 then.1) (tells has.0 then.1))

    pub next-fails : (fault : AskFault) (error : StoreErr) → fault ≡ fault_of error → (error ≡ errors.Failed → Rose (faults middle.store) (faults after.store)) → IsOutcome blocks greatest faults before after (calls.ReadNext cursor len) (Err fault)
    next-fails fault error is rose = unread-outcome (calls.ReadNext cursor len) fault error is refl refl
        (λ state stands. would-read (next_file state cursor.place) (cursor.place, has.0) cursor.offset len (found-then cursor.place has (λ state. next_file state cursor.place) found state stands)) rose

-- Calls that ask the store: it answered, or it failed.
use Rattle.std.proofs.Common.{◌≡◌, ℕ, ◌+◌, ◌≤◌, true, false, List, Option, None, Some, Ok, Err, refl, sym, ap, subst, ◌∙◌}
use Rattle.std.specs.Prelude.{is_some, not, nat_lt, [], length, Result, IfOk, IfErr, OnOk, OnErr}
use Rattle.hs_types.specs.Blocks.{BlockMap}
use Rattle.hs_types.specs.Faults.{Rose}
use Rattle.hs_types.specs.declared.call.Call.{Call}
use Rattle.hs_types.specs.declared.reply.Reply.{Reply}
use Rattle.hs_types.specs.declared.refusal.Refusal.TheVariants.{StoreFault}
use Rattle.hs_plain.specs.declared.state.State.{State}
use Rattle.hs_plain.specs.declared.state.FileBlocks.{FileBlocks}
use Rattle.hs_plain.specs.declared.resolve.AskFault.{AskFault}
use Rattle.hs_plain.specs.declared.resolve.AskFault.TheVariants.{Refused}
use Rattle.hs_plain.specs.Files.{block_files}
use Rattle.hs_plain.specs.Answer.{answer, answer_by, is_modifying, is_ok_reply, uses_store}
use Rattle.block_store.specs.Changes.{Changes}
use Rattle.block_store.specs.declared.store.StoreErr.{StoreErr}
use Rattle.block_store.specs.declared.store.StoreErr.TheVariants as errors
use Rattle.snapshot_manager.specs.Snapshots.{Snapshots}
use Rattle.inode_table.specs.Kept.{told}
use Rattle.inode_table.specs.Tabled.{Tabled}
use Rattle.inode_table.specs.Whole.{StandsFor}
use Rattle.namenode_write.specs.declared.rows.space.RowSpace.{RowSpace}
use Rattle.namenode_write.specs.NamenodeValue.{NamenodeValue}
use Rattle.namenode_write.specs.Reasons.{fault_of}
use Rattle.namenode_write.specs.Outcome.{tick_of, is_full, HasPlace, IsReason, is_refusal, is_storeless, is_freeing, most_added, IsOutcome}
use Rattle.namenode_write.specs.Rows.{Held, held, all_of, value_of, weight, done, IsAt, IsStanding, IsDone}
use Rattle.namenode_write.proofs.Alike.{blanked_alike}
use Rattle.namenode_write.proofs.Journals.{ok-blanked}
use Rattle.namenode_write.proofs.Outcomes.{IsAlike, alike-value, same_err}

-- a store that tells its blocks goes on telling them
pub still-tells : (P : BlockMap → BlockMap → Type 0) (a b : Option BlockMap) → Changes a b P → is_some b ≡ is_some a
still-tells P None None changes = refl
still-tells P None (Some b) changes = absurd changes
still-tells P (Some a) None changes = absurd changes
still-tells P (Some a) (Some b) changes = refl

-- the place for an entry stays
pub same-place : {S : Type 0} (a b : RowSpace S) → b.journal ≡ a.journal → b.limit ≡ a.limit → HasPlace a → HasPlace b
same-place a b journal limit has = subst (λ (r : RowSpace _). HasPlace r) {x = record b { journal = a.journal; limit = a.limit }} {y = b} (λ i. record b { journal = sym journal i; limit = sym limit i }) (record { below = has.below; most = has.most; room = has.room })

ok_err : {T E : Type 0} {x : T} {e : E} → ◌≡◌ {A = Result T E} (Ok x) (Err e) → ⊥
ok_err e = cc

pub is_failed : (error : StoreErr) → fault_of error ≡ Refused StoreFault → error ≡ errors.Failed
is_failed errors.Failed e = refl
is_failed errors.NoMemory e = absurd (cc)

no_refusal : (error : StoreErr) → is_refusal (fault_of error) ≡ true → ⊥
no_refusal errors.Failed e = absurd (cc)
no_refusal errors.NoMemory e = absurd (cc)

module _ {S : Type 0} (blocks : S → Option BlockMap) (greatest faults : S → ℕ) (before after : RowSpace S) (call : Call) where
  -- what all calls leave that ask the store
  pub record IsAsked : Type 0 where
    pub journal : after.journal.items ≡ before.journal.items
    pub limit : after.limit ≡ before.limit
    pub place : HasPlace after
    pub tells : is_some (blocks after.store) ≡ is_some (blocks before.store)
    pub count : faults before.store ≤ faults after.store
    pub store : is_storeless call ≡ true → after.store ≡ before.store
    pub reads : is_modifying call ≡ false → held blocks greatest after ≡ held blocks greatest before

  -- the store failed, or wanted memory
  pub store-outcome : (result : Result Reply AskFault) (fault : AskFault) (error : StoreErr) → result ≡ Err fault → fault ≡ fault_of error → uses_store call ≡ true
      → ((state : State FileBlocks) → StandsFor (told before.table) before.snaps state → is_ok_reply (answer_by block_files state call) ≡ true)
      → ((plain : State (List ℕ)) → IsAt (held blocks greatest before) (tick_of before) plain → IsAt (held blocks greatest after) (tick_of before) plain)
      → IsAsked → told after.table ≡ told before.table → after.snaps ≡ before.snaps → (error ≡ errors.Failed → Rose (faults before.store) (faults after.store)) → IsOutcome blocks greatest faults before after call result
  store-outcome (Ok reply) fault error is same uses would kept asks table snaps rose = absurd (cc)
  store-outcome (Err other) fault error is same uses would kept asks table snaps rose = record {
    made = tt;
    heavier = tt;
    cause = λ plain at. subst (IsReason (is_full before) plain call) (sym so) (reason error plain (sym (ok-blanked (answer plain call)) ∙ ap is_ok_reply (blanked_alike at.stands.state plain at.stands.sized call) ∙ would at.stands.state at.stands.stands));
    kept = kept;
    refused = λ refuses. absurd (no_refusal error (ap is_refusal (sym so) ∙ refuses));
    undone_table = table;
    undone_snaps = snaps;
    undone = λ none. absurd (let u = uses in cc);
    reads = asks.reads;
    journal = asks.journal;
    limit = asks.limit;
    place = tt;
    fault_place = λ fails. asks.place;
    tells = asks.tells;
    count = asks.count;
    rose = λ fails. rose (is_failed error (sym so ∙ same_err {T = Reply} fails));
    store = asks.store;
    waits = λ none. tt;
    freed = λ frees. tt;
  }
    where
      so : other ≡ fault_of error
      so = same_err {T = Reply} is ∙ same

      reason : (e : StoreErr) (plain : State (List ℕ)) → is_ok_reply (answer plain call) ≡ true → IsReason (is_full before) plain call (fault_of e)
      reason errors.Failed plain ok = (uses, ok)
      reason errors.NoMemory plain ok = tt

  -- it answered
  pub stored-outcome : (reply : Reply) → ((plain : State (List ℕ)) → IsAt (held blocks greatest before) (tick_of before) plain → IsDone (held blocks greatest before) (held blocks greatest after) (tick_of before) call reply plain)
      → ((plain : State (List ℕ)) → IsAt (held blocks greatest before) (tick_of before) plain → weight (held blocks greatest after) (done plain call) ≤ weight (held blocks greatest before) plain + most_added call)
      → IsAsked → all_of after.waiting.items ≡ all_of before.waiting.items → is_freeing call ≡ false → IsOutcome blocks greatest faults before after call (Ok reply)
  stored-outcome reply is heavier asks waits frees = record {
    made = is;
    heavier = heavier;
    cause = tt;
    kept = tt;
    refused = tt;
    undone_table = tt;
    undone_snaps = tt;
    undone = λ none. tt;
    reads = asks.reads;
    journal = asks.journal;
    limit = asks.limit;
    place = asks.place;
    fault_place = λ fails. absurd (ok_err fails);
    tells = asks.tells;
    count = asks.count;
    rose = λ fails. absurd (ok_err fails);
    store = asks.store;
    waits = λ none. waits;
    freed = λ so. absurd (let f = frees in cc);
  }

-- ---- spaces that are alike

module _ {S : Type 0} (blocks : S → Option BlockMap) (greatest : S → ℕ) (before placed : RowSpace S) (kept : placed ≡ record before { journal = placed.journal }) (items : placed.journal.items ≡ before.journal.items) where
  -- a place was made for an entry
  pub place-alike : IsAlike blocks greatest before placed
  place-alike = record { held = ap (held blocks greatest) kept; store = ap (λ (r : RowSpace S). r.store) kept; journal = items; limit = ap (λ (r : RowSpace S). r.limit) kept }

  -- and room in the table, and for a list that waits
  pub room-alike : (roomed : RowSpace S) → told roomed.table ≡ told placed.table → roomed.waiting.items ≡ placed.waiting.items → roomed ≡ record placed { table = roomed.table; waiting = roomed.waiting } → IsAlike blocks greatest before roomed
  room-alike roomed table waiting rest = record {
    held = (λ i. record { table = table i; snaps = (rest i).snaps; store = blocks (rest i).store; greatest = greatest (rest i).store; waiting = all_of (waiting i) }) ∙ ap (held blocks greatest) kept;
    store = ap (λ (r : RowSpace S). r.store) rest ∙ ap (λ (r : RowSpace S). r.store) kept;
    journal = ap (λ (r : RowSpace S). r.journal.items) rest ∙ items;
    limit = ap (λ (r : RowSpace S). r.limit) rest ∙ ap (λ (r : RowSpace S). r.limit) kept;
  }

module _ {S : Type 0} (blocks : S → Option BlockMap) (greatest : S → ℕ) (before middle : RowSpace S) (same : IsAlike blocks greatest before middle) where
  pub alike-table : told middle.table ≡ told before.table
  alike-table = ap (λ (h : Held). h.table) same.held

  snaps_are : middle.snaps ≡ before.snaps
  snaps_are = ap (λ (h : Held). h.snaps) same.held

  pub alike-tick : tick_of middle ≡ tick_of before
  alike-tick = ap length same.journal

  -- what stands for a state stood for it before
  pub alike-stands : (state : State FileBlocks) → StandsFor (told middle.table) middle.snaps state → StandsFor (told before.table) before.snaps state
  alike-stands state stands = subst (λ (t : Tabled). StandsFor t before.snaps state) alike-table (subst (λ (n : Snapshots). StandsFor (told middle.table) n state) snaps_are stands)

  pub alike-standing : IsStanding (held blocks greatest before) (tick_of before) → IsStanding (held blocks greatest middle) (tick_of middle)
  alike-standing standing = subst (λ (h : Held). IsStanding h (tick_of middle)) (sym same.held) (subst (λ n. IsStanding (held blocks greatest before) n) (sym alike-tick) standing)

-- an outcome from a space that is alike, where nothing was refused
module _ {S : Type 0} (blocks : S → Option BlockMap) (greatest faults : S → ℕ) (before middle after : RowSpace S) (call : Call) (result : Result Reply AskFault) (same : IsAlike blocks greatest before middle) where
  -- what is said of what is held, and of the tick
  of-before : (P : Held → ℕ → Type 0) → P (held blocks greatest middle) (tick_of middle) → P (held blocks greatest before) (tick_of before)
  of-before P p = subst (λ (h : Held). P h (tick_of before)) same.held (subst (λ n. P (held blocks greatest middle) n) (alike-tick blocks greatest before middle same) p)

  same_full : is_full middle ≡ is_full before
  same_full = ap (λ n. not (nat_lt n middle.limit)) (alike-tick blocks greatest before middle same) ∙ ap (λ n. not (nat_lt (tick_of before) n)) same.limit

  pub outcome-from : IfErr result (λ fault. is_refusal fault ≡ false) → IsOutcome blocks greatest faults middle after call result → IsOutcome blocks greatest faults before after call result
  outcome-from never o = record {
    made = of-before (λ h n. IfOk result (λ reply. (plain : State (List ℕ)) → IsAt h n plain → IsDone h (held blocks greatest after) n call reply plain)) o.made;
    heavier = of-before (λ h n. OnOk result ((plain : State (List ℕ)) → IsAt h n plain → weight (held blocks greatest after) (done plain call) ≤ weight h plain + most_added call)) o.heavier;
    cause = of-before (λ h n. IfErr result (λ fault. (plain : State (List ℕ)) → IsAt h n plain → IsReason (is_full before) plain call fault))
        (subst (λ b. IfErr result (λ fault. (plain : State (List ℕ)) → IsAt (held blocks greatest middle) (tick_of middle) plain → IsReason b plain call fault)) same_full o.cause);
    kept = of-before (λ h n. OnErr result ((plain : State (List ℕ)) → IsAt h n plain → IsAt (held blocks greatest after) n plain)) o.kept;
    refused = no_refused result never;
    undone_table = of-before (λ h n. OnErr result (told after.table ≡ h.table)) o.undone_table;
    undone_snaps = of-before (λ h n. OnErr result (after.snaps ≡ h.snaps)) o.undone_snaps;
    undone = λ none. subst (λ (v : NamenodeValue S). OnErr result (value_of after after.journal.items ≡ v)) (alike-value blocks greatest before middle same) (o.undone none);
    reads = λ none. o.reads none ∙ same.held;
    journal = o.journal ∙ same.journal;
    limit = o.limit ∙ same.limit;
    place = o.place;
    fault_place = o.fault_place;
    tells = o.tells ∙ ap (λ (s : S). is_some (blocks s)) same.store;
    count = subst (λ (s : S). faults s ≤ faults after.store) same.store o.count;
    rose = λ fails. subst (λ (s : S). Rose (faults s) (faults after.store)) same.store (o.rose fails);
    store = λ none. o.store none ∙ same.store;
    waits = λ none. of-before (λ h n. OnOk result (all_of after.waiting.items ≡ h.waiting)) (o.waits none);
    freed = λ frees. subst (λ (s : S). OnOk result ((Rose (faults s) (faults after.store) → ⊥) → all_of after.waiting.items ≡ [])) same.store (o.freed frees);
  }
    where
      no_refused : (r : Result Reply AskFault) → IfErr r (λ fault. is_refusal fault ≡ false) → IfErr r (λ fault. is_refusal fault ≡ true → after ≡ before)
      no_refused (Ok reply) none = tt
      no_refused (Err fault) none = λ refuses. absurd (let n = none in cc)

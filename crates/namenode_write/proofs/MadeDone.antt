-- A call that makes a node was done: from the table to the plain machine's step.
use Rattle.std.proofs.Common.{◌≡◌, ℕ, ◌+◌, ◌*◌, ◌≤◌, Bool, true, false, cond, List, [], ◌++◌, length, Option, Some, None, Result, Ok, Err, refl, sym, ap, subst, ◌∙◌, append-nil, arith}
use Rattle.std.specs.Prelude.{is_some, IfOk}
use Rattle.hs_types.specs.Blocks.{BlockMap}
use Rattle.hs_types.specs.Names.{Names}
use Rattle.hs_types.specs.declared.ids.BlockId.{BlockId}
use Rattle.hs_types.specs.declared.ids.InodeId.{InodeId}
use Rattle.hs_types.specs.declared.memory.NoMemory.{NoMemory}
use Rattle.hs_types.specs.declared.call.Call.{Call}
use Rattle.hs_types.specs.declared.call.Call.TheVariants as calls
use Rattle.hs_types.specs.declared.reply.Reply.{Reply}
use Rattle.hs_types.specs.declared.reply.Reply.TheVariants as replies
use Rattle.hs_plain.specs.declared.state.Node.{Node}
use Rattle.hs_plain.specs.declared.state.Member.{Member}
use Rattle.hs_plain.specs.declared.state.State.{State}
use Rattle.hs_plain.specs.declared.state.FileBlocks.{FileBlocks}
use Rattle.hs_plain.specs.Asked.{Asked}
use Rattle.hs_plain.specs.Files.{plain_files, block_files}
use Rattle.hs_plain.specs.Tree.{node_at}
use Rattle.hs_plain.specs.Answer.{is_modifying, uses_store}
use Rattle.hs_plain.specs.Change.{if_asked, change, ticked, made_dir, made_file}
use Rattle.hs_plain.specs.Modifying.{mkdir_at, create_at}
use Rattle.snapshot_manager.specs.Snapshots.{Snapshots}
use Rattle.inode_table.specs.Blocked.{AreBlocks}
use Rattle.inode_table.specs.Reads.{id_of}
use Rattle.inode_table.specs.Tabled.{Tabled}
use Rattle.inode_table.specs.Totals as totals
use Rattle.inode_table.specs.Whole.{StandsFor}
use Rattle.namenode_write.specs.Called.{IsCalled}
use Rattle.namenode_write.specs.NewNodes.{AsksDir, AsksFile, IsFree, IsTaken, create_call, IsCalledFreeing, IsFilePut}
use Rattle.namenode_write.specs.Rows.{Held, IsAt, IsDone, weight, done}
use Rattle.namenode_write.proofs.RowDone.{call-done}

-- no block went
pub none-freed : (t now : Tabled) (snaps : Snapshots) (call : Call) (reply : Reply) (state : State FileBlocks) → IsCalled t now snaps call reply state → IsCalledFreeing t now [] snaps call reply state
none-freed t now snaps call reply state is = record {
  answered = is.answered;
  stands = is.stands;
  blocks = λ store made waiting are. subst (λ (l : List BlockId). AreBlocks now.rows store made l) (sym (append-nil waiting)) (is.blocks store made waiting are);
  light = is.light;
}

-- ---- where a node is, and where none

pub taken-so : (t : Tabled) (snaps : Snapshots) (path : Names) (there : Option InodeId) (some : Bool) → ((s : Snapshots) (state : State FileBlocks) → StandsFor t s state → there ≡ id_of (node_at state.tree path)) → some ≡ is_some there → some ≡ true → IsTaken t snaps path
taken-so t snaps path there some tells is so state stands = by (node_at state.tree path) (ap is_some (sym (tells snaps state stands)) ∙ sym is ∙ so)
  where
    by : (o : Option (Node FileBlocks)) → is_some (id_of o) ≡ true → (old : Node FileBlocks) × (o ≡ Some old)
    by None h = absurd (cc)
    by (Some old) h = (old, refl)

pub free-so : (t : Tabled) (snaps : Snapshots) (path : Names) (there : Option InodeId) (some : Bool) → ((s : Snapshots) (state : State FileBlocks) → StandsFor t s state → there ≡ id_of (node_at state.tree path)) → some ≡ is_some there → some ≡ false → IsFree t snaps path
free-so t snaps path there some tells is so state stands = by (node_at state.tree path) (ap is_some (sym (tells snaps state stands)) ∙ sym is ∙ so)
  where
    by : (o : Option (Node FileBlocks)) → is_some (id_of o) ≡ false → o ≡ None
    by None h = refl
    by (Some old) h = absurd (cc)

-- a new file lets no block go
pub put-new : (t now : Tabled) (snaps : Snapshots) (waiting : List BlockId) (path : Names) (tick : ℕ) (r : Result InodeId NoMemory)
    → IfOk r (λ id. (state : State FileBlocks) → (asks : AsksFile t snaps path tick state) → IsCalled t now snaps (create_call asks) (replies.Made id) state) → IfOk r (IsFilePut t now snaps waiting waiting path tick)
put-new t now snaps waiting path tick (Ok id) called = record { freed = []; waits = sym (append-nil waiting); called = λ state asks. none-freed t now snaps (create_call asks) (replies.Made id) state (called state asks) }
put-new t now snaps waiting path tick (Err why) called = tt

-- ---- the plain state has the same snapshots then

if_asked-members : {X B : Type 0} (f : X → State B) (state : State B) → ((x : X) → (f x).members ≡ state.members) → (a : Asked X) → (if_asked f state a).members ≡ state.members
if_asked-members f state same (Ok x) = same x
if_asked-members f state same (Err why) = refl

-- a call that is told below
pub record MakesNode (call : Call) : Type 0 where
  pub modifies : is_modifying call ≡ true
  pub storeless : uses_store call ≡ false
  pub members : (plain : State (List ℕ)) → (change plain_files plain call).members ≡ plain.members

pub mkdir-makes : (text : List ℕ) → MakesNode (calls.Mkdir text)
mkdir-makes text = record { modifies = refl; storeless = refl; members = λ plain. if_asked-members (made_dir plain) plain (λ path. refl) (mkdir_at plain text) }

pub create-makes : (text : List ℕ) (over : Bool) → MakesNode (calls.Create text over)
create-makes text over = record { modifies = refl; storeless = refl; members = λ plain. if_asked-members (made_file plain_files plain) plain (λ path. refl) (create_at plain text over) }

-- ---- before the call

module _ (before : Held) (tick : ℕ) (plain : State (List ℕ)) (at : IsAt before tick plain) where
  abbrev state : State FileBlocks
  state = at.stands.state

  -- the tick of the next entry
  pub next-tick : tick + 1 ≡ state.tick + 1
  next-tick = ap (λ n. n + 1) (sym (ap (λ (s : State ℕ). s.tick) at.stands.sized ∙ at.tick))

  pub few-ids : before.table.greatest + 1 ≤ tick + 2
  few-ids = let same = ap (λ (s : State ℕ). s.next_inode) at.stands.sized in let next = at.stands.stands.next_inode in omega (arith, same, next, at.inodes)

  pub few-rows : totals.weight before.table.rows ≤ 10 * tick + 1
  few-rows = let light = at.light in omega (arith, light)

  abbrev pub asks-dir : (text : List ℕ) (path : Names) → mkdir_at state text ≡ Ok path → AsksDir before.table before.snaps path (tick + 1) state
  asks-dir text path asks = record { stands = at.stands.stands; next = next-tick; text = text; asks = asks }

  abbrev pub asks-file : (text : List ℕ) (over : Bool) (path : Names) → create_at state text over ≡ Ok path → AsksFile before.table before.snaps path (tick + 1) state
  asks-file text over path asks = record { stands = at.stands.stands; next = next-tick; text = text; over = over; asks = asks }

  -- ---- after it

  module _ (now : Held) (call : Call) (reply : Reply) (makes : MakesNode call) (freed : List BlockId) (snaps : now.snaps ≡ before.snaps) (store : now.store ≡ before.store) (greatest : now.greatest ≡ before.greatest) (waits : now.waiting ≡ before.waiting ++ freed)
      (is : IsCalledFreeing before.table now.table freed before.snaps call reply state) where
    light : weight now (ticked (change plain_files plain call)) ≤ weight before plain + 10
    light =
        let same = ap (λ (ms : List (Member (List ℕ))). length ms) (makes.members plain) in
        let more = is.light in
        omega (arith, same, more)

    pub made-done : IsDone before now tick call reply plain
    made-done = call-done before now tick call reply plain at makes.modifies makes.storeless is.answered
        (subst (λ (s : Snapshots). StandsFor now.table s (ticked (change block_files state call))) (sym snaps) is.stands) store greatest
        (subst (λ (s : Option BlockMap). AreBlocks now.table.rows s now.greatest now.waiting) (sym store)
        (subst (λ (n : ℕ). AreBlocks now.table.rows before.store n now.waiting) (sym greatest)
        (subst (λ (l : List BlockId). AreBlocks now.table.rows before.store before.greatest l) (sym waits) (is.blocks before.store before.greatest before.waiting at.stands.blocks))))
        light

    pub made-heavier : weight now (done plain call) ≤ weight before plain + 10
    made-heavier = subst (λ (p : State (List ℕ)). weight now p ≤ weight before plain + 10) (ap (λ b. cond b (ticked (change plain_files plain call)) plain) (sym makes.modifies)) light

-- A call that asks for no store was done: from what table and snapshots stand for then to the plain machine's step.
use Rattle.std.proofs.Common.{Option, ◌≡◌, ℕ, ◌+◌, ◌≤◌, true, false, cond, List, [], ◌∷◌, ◌++◌, Ok, Err, refl, sym, ap, subst, ◌∙◌, arith}
use Rattle.std.specs.Prelude.{is_some, not, ◌&&◌}
use Rattle.hs_types.specs.Blocks.{BlockMap}
use Rattle.hs_types.specs.declared.ids.InodeId.{InodeId}
use Rattle.hs_types.specs.declared.call.Call.{Call}
use Rattle.hs_types.specs.declared.call.Call.TheVariants as calls
use Rattle.hs_types.specs.declared.reply.Reply.{Reply}
use Rattle.hs_types.specs.declared.reply.Reply.TheVariants as replies
use Rattle.hs_plain.specs.declared.state.State.{State}
use Rattle.hs_plain.specs.declared.state.FileBlocks.{FileBlocks}
use Rattle.hs_plain.specs.Asked.{Asked}
use Rattle.hs_plain.specs.Files.{Files, plain_files, block_files}
use Rattle.hs_plain.specs.Answer.{made_reply, snap_made_reply, replied, asked, answer, reply_to, claimed, is_modifying, is_ok_reply, uses_store}
use Rattle.hs_plain.specs.Change.{if_asked, change, ticked, made_dir, made_file, appended, removed, renamed, with_mode, allowed, disallowed, snapped, unsnapped, resnapped}
use Rattle.hs_plain.specs.Modifying.{mkdir_at, create_at, append_at, delete_at, rename_at, set_mode_at}
use Rattle.hs_plain.specs.Snapshotting.{allow_at, disallow_at, snap_at, snap_del_at, snap_ren_at}
use Rattle.hs_plain.specs.State.{is_snapshottable}
use Rattle.hs_plain.specs.Viewed.{HasBytes}
use Rattle.inode_table.specs.Blocked.{AreBlocks}
use Rattle.inode_table.specs.Whole.{StandsFor, StandsForPlain}
use Rattle.namenode_write.specs.Rows.{Held, IsAt, IsDone, weight, done, entries}
use Rattle.namenode_write.proofs.Alike.{answers_alike, plain_called}

-- ---- replies

-- a call that is done is answered so
replied_ok : {X : Type 0} (reply given : Reply) (at : Asked X) → replied reply at ≡ Ok given → is_ok_reply reply ≡ true → is_ok_reply given ≡ true
replied_ok reply given (Ok x) is ok = ap is_ok_reply (cc) ∙ ok
replied_ok reply given (Err why) is ok = absurd (cc)

pub done_ok : (state : State FileBlocks) (call : Call) (reply : Reply) → is_modifying call ≡ true → asked block_files state call ≡ Ok reply → is_ok_reply reply ≡ true
done_ok state (calls.Mkdir path) reply modifying is = replied_ok (made_reply state) reply (mkdir_at state path) is refl
done_ok state (calls.Create path over) reply modifying is = replied_ok (made_reply state) reply (create_at state path over) is refl
done_ok state (calls.Append path bytes) reply modifying is = replied_ok replies.Done reply (append_at state path) is refl
done_ok state (calls.Delete path recursive) reply modifying is = replied_ok replies.Done reply (delete_at state path recursive) is refl
done_ok state (calls.Rename old new) reply modifying is = replied_ok replies.Done reply (rename_at state old new) is refl
done_ok state (calls.SetMode path mode) reply modifying is = replied_ok replies.Done reply (set_mode_at state path) is refl
done_ok state (calls.Read path offset len) reply modifying is = absurd (cc)
done_ok state (calls.ReadNext cursor len) reply modifying is = absurd (cc)
done_ok state (calls.Stat path) reply modifying is = absurd (cc)
done_ok state (calls.List path size) reply modifying is = absurd (cc)
done_ok state (calls.Allow path) reply modifying is = replied_ok replies.Done reply (allow_at state path) is refl
done_ok state (calls.Disallow path) reply modifying is = replied_ok replies.Done reply (disallow_at state path) is refl
done_ok state (calls.Snap path name) reply modifying is = replied_ok (snap_made_reply state) reply (snap_at state path name) is refl
done_ok state (calls.SnapDel path name) reply modifying is = replied_ok replies.Done reply (snap_del_at state path name) is refl
done_ok state (calls.SnapRen path old new) reply modifying is = replied_ok replies.Done reply (snap_ren_at state path old new) is refl
done_ok state (calls.ListNext cursor size) reply modifying is = absurd (cc)
done_ok state (calls.Snaps path) reply modifying is = absurd (cc)
done_ok state calls.Dirs reply modifying is = absurd (cc)
done_ok state (calls.Report path from to size) reply modifying is = absurd (cc)
done_ok state (calls.ReportNext cursor size) reply modifying is = absurd (cc)

-- ---- ids

-- at most one inode id and one snapshot id are given
pub record GivesFew {B : Type 0} (old new : State B) : Type 0 where
  pub tick : new.tick ≡ old.tick
  pub inodes : new.next_inode ≤ old.next_inode + 1
  pub snapshots : new.next_snapshot ≤ old.next_snapshot + 1

few-same : {B : Type 0} (state : State B) → GivesFew state state
few-same state = record { tick = refl; inodes = omega arith; snapshots = omega arith }

if_asked-few : {X B : Type 0} (f : X → State B) (state : State B) → ((x : X) → GivesFew state (f x)) → (a : Asked X) → GivesFew state (if_asked f state a)
if_asked-few f state few (Ok x) = few x
if_asked-few f state few (Err why) = few-same state

module _ {B : Type 0} (files : Files B) (state : State B) where
  by_ids : (next : State B) → next.tick ≡ state.tick → next.next_inode ≡ state.next_inode → next.next_snapshot ≡ state.next_snapshot → GivesFew state next
  by_ids next tick inodes snapshots = record { tick = tick; inodes = omega (arith, inodes); snapshots = omega (arith, snapshots) }

  one_inode : (next : State B) → next.tick ≡ state.tick → next.next_inode ≡ state.next_inode + 1 → next.next_snapshot ≡ state.next_snapshot → GivesFew state next
  one_inode next tick inodes snapshots = record { tick = tick; inodes = omega (arith, inodes); snapshots = omega (arith, snapshots) }

  one_snapshot : (next : State B) → next.tick ≡ state.tick → next.next_inode ≡ state.next_inode → next.next_snapshot ≡ state.next_snapshot + 1 → GivesFew state next
  one_snapshot next tick inodes snapshots = record { tick = tick; inodes = omega (arith, inodes); snapshots = omega (arith, snapshots) }

  pub few-change : (call : Call) → GivesFew state (change files state call)
  few-change (calls.Mkdir path) = if_asked-few (made_dir state) state (λ x. one_inode (made_dir state x) refl refl refl) (mkdir_at state path)
  few-change (calls.Create path over) = if_asked-few (made_file files state) state (λ x. one_inode (made_file files state x) refl refl refl) (create_at state path over)
  few-change (calls.Append path bytes) = if_asked-few (appended files state bytes) state (λ x. by_ids (appended files state bytes x) refl refl refl) (append_at state path)
  few-change (calls.Delete path recursive) = if_asked-few (removed state) state (λ x. by_ids (removed state x) refl refl refl) (delete_at state path recursive)
  few-change (calls.Rename old new) = if_asked-few (renamed state) state (λ x. by_ids (renamed state x) refl refl refl) (rename_at state old new)
  few-change (calls.SetMode path mode) = if_asked-few (with_mode state mode) state (λ x. by_ids (with_mode state mode x) refl refl refl) (set_mode_at state path)
  few-change (calls.Allow path) = if_asked-few (allowed state) state few-allowed (allow_at state path)
    where
      few-allowed : (id : InodeId) → GivesFew state (allowed state id)
      few-allowed id = elim (is_snapshottable state id) as (λ b. GivesFew state (cond b state (record state { snapshottable = state.snapshottable ++ id ∷ [] }))) [ true ↦ few-same state | false ↦ by_ids (record state { snapshottable = state.snapshottable ++ id ∷ [] }) refl refl refl ]
  few-change (calls.Disallow path) = if_asked-few (disallowed state) state (λ x. by_ids (disallowed state x) refl refl refl) (disallow_at state path)
  few-change (calls.Snap path name) = if_asked-few (snapped state name) state (λ x. one_snapshot (snapped state name x) refl refl refl) (snap_at state path name)
  few-change (calls.SnapDel path name) = if_asked-few (unsnapped state) state (λ x. by_ids (unsnapped state x) refl refl refl) (snap_del_at state path name)
  few-change (calls.SnapRen path old new) = if_asked-few (resnapped state new) state (λ x. by_ids (resnapped state new x) refl refl refl) (snap_ren_at state path old new)
  few-change (calls.Read path offset len) = few-same state
  few-change (calls.ReadNext cursor len) = few-same state
  few-change (calls.Stat path) = few-same state
  few-change (calls.List path size) = few-same state
  few-change (calls.ListNext cursor size) = few-same state
  few-change (calls.Snaps path) = few-same state
  few-change calls.Dirs = few-same state
  few-change (calls.Report path from to size) = few-same state
  few-change (calls.ReportNext cursor size) = few-same state

-- ---- what is held

-- the same in memory, over a store that has the same blocks
pub same-held : (a b : Held) → a.table ≡ b.table → a.snaps ≡ b.snaps → a.store ≡ b.store → a.greatest ≡ b.greatest → a.waiting ≡ b.waiting → a ≡ b
same-held a b table snaps store greatest waiting = λ i. record { table = table i; snaps = snaps i; store = store i; greatest = greatest i; waiting = waiting i }

-- ---- a call that asks for no store

no-read : (call : Call) → uses_store call ≡ false → (uses_store call && not (is_modifying call)) ≡ false
no-read call storeless = ap (λ b. b && not (is_modifying call)) storeless

-- the state with blocks, over a store that is the same
abbrev moved : (before now : Held) (plain : State (List ℕ)) → now.store ≡ before.store → now.greatest ≡ before.greatest → StandsForPlain before.table before.snaps before.store before.greatest before.waiting plain
    → StandsForPlain before.table before.snaps now.store now.greatest before.waiting plain
moved before now plain store greatest was = record {
  state = was.state;
  stands = was.stands;
  sized = was.sized;
  bytes = subst (λ (s : Option BlockMap). HasBytes s was.state plain) (sym store) was.bytes;
  blocks = subst (λ (s : Option BlockMap). AreBlocks before.table.rows s now.greatest before.waiting) (sym store) (subst (λ (n : ℕ). AreBlocks before.table.rows before.store n before.waiting) (sym greatest) was.blocks);
}

module _ (before now : Held) (tick : ℕ) (call : Call) (reply : Reply) (plain : State (List ℕ)) (at : IsAt before tick plain)
    (modifies : is_modifying call ≡ true) (storeless : uses_store call ≡ false) (answered : asked block_files at.stands.state call ≡ Ok reply) where
  plain-answer : answer plain call ≡ reply
  plain-answer = answers_alike at.stands.state plain at.stands.sized call (no-read call storeless) ∙ ap reply_to answered

  stepped : ticked (change plain_files plain call) ≡ done plain call
  stepped = ap (λ b. cond b (ticked (change plain_files plain call)) plain) (sym modifies)

  one_more : tick + 1 ≡ entries tick call
  one_more = ap (λ b. cond b (tick + 1) tick) (sym modifies)

  pub call-done : StandsFor now.table now.snaps (ticked (change block_files at.stands.state call)) → now.store ≡ before.store → now.greatest ≡ before.greatest → AreBlocks now.table.rows now.store now.greatest now.waiting
      → weight now (ticked (change plain_files plain call)) ≤ weight before plain + 10 → IsDone before now tick call reply plain
  call-done stands store greatest blocks light =
      let few = few-change plain_files plain call in
      let stepped_at : IsAt now (tick + 1) (ticked (change plain_files plain call)) = record {
        stands = plain_called before.table now.table before.snaps now.snaps now.store now.greatest before.waiting now.waiting plain call (moved before now plain store greatest at.stands) storeless stands blocks;
        tick = ap (λ n. n + 1) (few.tick ∙ at.tick);
        inodes = omega (arith, at.inodes, few.inodes);
        snapshots = omega (arith, at.snapshots, few.snapshots);
        light = omega (arith, at.light, light);
      } in
      record {
        told = ap (claimed (is_some before.store)) (sym plain-answer);
        ok = done_ok at.stands.state call reply modifies answered;
        after = subst (λ (n : ℕ). IsAt now n (done plain call)) one_more (subst (λ (p : State (List ℕ)). IsAt now (tick + 1) p) stepped stepped_at);
      }

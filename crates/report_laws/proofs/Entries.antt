-- What one entry of a journal leaves of the live tree's child lists.
use Rattle.std.proofs.Common.{◌≡◌, ℕ, ◌+◌, ◌<◌, true, false, [], ◌∷◌, ◌++◌, Option, Some, None, refl, sym, ap, subst, ◌∙◌, cond, arith}
use Rattle.std.specs.Prelude.{◌≢◌}
use Rattle.std.specs.Option.{option_map}
use Rattle.std.specs.FinMap.Entries.{put, is_sorted}
use Rattle.hs_types.specs.Names.{Names}
use Rattle.hs_types.specs.declared.ids.InodeId.{InodeId}
use Rattle.hs_types.specs.declared.call.Call.{Call}
use Rattle.hs_types.specs.declared.call.Call.TheVariants as calls
use Rattle.hs_types.specs.declared.journal.Entry.{Entry}
use Rattle.hs_plain.specs.declared.state.Node.{Node}
use Rattle.hs_plain.specs.declared.state.Body.{Body}
use Rattle.hs_plain.specs.declared.state.State.{State}
use Rattle.hs_plain.specs.Files.{Files}
use Rattle.hs_plain.specs.Tree.{Tree, path_cmp, node_at, parent_of, is_dir_body}
use Rattle.hs_plain.specs.State.{new_dir, is_snapshottable}
use Rattle.hs_plain.specs.Modifying.{mkdir_at, create_at, delete_at, rename_at, set_mode_at, append_at}
use Rattle.hs_plain.specs.Snapshotting.{allow_at, disallow_at, snap_at, snap_del_at, snap_ren_at}
use Rattle.hs_plain.specs.Change.{stamped, without, moved, new_file, with_node, made_dir, made_file, removed, renamed, with_mode, with_file, refilled, appended, allowed, disallowed, snapped, unsnapped, resnapped, change, takes_effect, changed_if, after}
use Rattle.hs_plain.specs.Valid.{IsValid}
use Rattle.hs_plain.proofs.ValidTrees.{if_asked-keeps}
use Rattle.hs_plain.proofs.ValidShapes.{Shape, Shapes, IsTree, is_dir_shape, some_dir, true_false, none_some, same_some, by_last}
use Rattle.hs_plain.proofs.ValidNodes.{shape, shapes, dir_shape}
use Rattle.hs_plain.proofs.ValidChanges.{shapes-stamped, shapes-moded, shapes-put_alike, put_here, put_there, without_gone, without_there, moved_path, moved_under, moved_other}
use Rattle.hs_plain.proofs.ValidAsked.{HasRoom, mkdir_room, create_room, delete_allowed, MayMove, rename_allowed, IsFileAt, append_there}
use Rattle.hs_plain.proofs.ValidCalls.{moved_from, moved_onto}
use Rattle.hs_plain.proofs.ValidFollows.{live_tree}
use Rattle.inode_table.specs.Reads.{child, id_of}
use Rattle.report_laws.specs.Differing.{Ids, ids_in}
use Rattle.report_laws.proofs.Spans.{IsIds, AreBelow, Spans, spans-same}
use Rattle.report_laws.proofs.Edits.{put-spans, cut-spans, move-spans}

-- ---- ids without kinds

abbrev pub id_part : Shape → InodeId
id_part s = record { 0 = s.0 }

abbrev pub ids_at : Shapes → Ids
ids_at f q = option_map id_part (f q)

some_shape : (o : Option Shape) (x : InodeId) → option_map id_part o ≡ Some x → (s : Shape) × (o ≡ Some s) × (id_part s ≡ x)
some_shape None x h = absurd (none_some h)
some_shape (Some s) x h = (s, refl, same_some h)

same_number : (s t : Shape) (x : InodeId) → id_part s ≡ x → id_part t ≡ x → s.0 ≡ t.0
same_number s t x a b = ap (λ (i : InodeId). i.0) (a ∙ sym b)

ids-tree : (f : Shapes) (next : ℕ) → IsTree f next → IsIds (ids_at f)
ids-tree f next is = record {
  above = λ p name x h. let s = some_shape (f (child p name)) x h in let d = some_dir (f p) (is.above p name s.0 s.1) in (id_part d.0, ap (option_map id_part) d.1);
  once = λ p q x h k. let s = some_shape (f p) x h in let t = some_shape (f q) x k in is.once p q s.0 t.0 s.1 t.1 (same_number s.0 t.0 x s.2 t.2);
}

below-tree : (f : Shapes) (next : ℕ) → IsTree f next → AreBelow (ids_at f) next
below-tree f next is x h = let s = some_shape (f h.at) x h.is in subst (λ (i : InodeId). i.0 < next) s.2 (is.below h.at s.0 s.1)

-- at most two entries differ
abbrev pub SpansTwo : Shapes → Shapes → ℕ → ℕ → Type 0
SpansTwo f g n m = Spans (ids_at f) (ids_at g) n m 2

module _ {B : Type 0} where
  ids-in : (tree : Tree B) → ids_at (shapes tree) ≡ ids_in tree
  ids-in tree = λ i q. same (node_at tree q) i
    where
      same : (o : Option (Node B)) → option_map id_part (option_map shape o) ≡ id_of o
      same None = refl
      same (Some n) = refl

  -- ---- changes

  abbrev pub Entered : State B → State B → Type 0
  Entered state new = SpansTwo (shapes state.tree) (shapes new.tree) state.next_inode new.next_inode

  stays : (state : State B) → Entered state state
  stays state = spans-same (ids_at (shapes state.tree)) state.next_inode 2

  -- a tree with the same shapes
  alike : (state : State B) (tree : Tree B) → shapes tree ≡ shapes state.tree → SpansTwo (shapes state.tree) (shapes tree) state.next_inode state.next_inode
  alike state tree same = subst (λ g. SpansTwo (shapes state.tree) g state.next_inode state.next_inode) (sym same) (stays state)

  entered-node : (state : State B) (path : Names) (node : Node B) → IsTree (shapes state.tree) state.next_inode → HasRoom state.tree path → node.id.0 ≡ state.next_inode → Entered state (with_node state path node)
  entered-node state path node is room id = by_last (λ path. HasRoom state.tree path → Entered state (with_node state path node)) path
      (λ room. absurd (true_false (sym (dir_shape (node_at state.tree [])) ∙ ap is_dir_shape is.root) room.free))
      (λ above name room.
      let p : Names = above ++ name ∷ [] in
      let was : Tree B = stamped state.tree (parent_of p) (state.tick + 1) in
      put-spans (ids_at (shapes state.tree)) (ids_at (shapes (put path_cmp p node was))) (ids-tree (shapes state.tree) state.next_inode is) above name node.id
      (ap (λ o. option_map id_part (option_map shape o)) (put_here p node was))
      (λ q ne. ap (option_map id_part) (ap (option_map shape) (put_there p node was q ne) ∙ (λ i. shapes-stamped state.tree (parent_of p) (state.tick + 1) i q)))
      (λ n y h. let s = some_shape (shapes state.tree (child p n)) y h in true_false (is.above p n s.0 s.1) (dir_shape (node_at state.tree p) ∙ room.free))
      (λ h. fresh node.id.0 state.next_inode id (below-tree (shapes state.tree) state.next_inode is node.id h))
      state.next_inode id)
      room
    where
      fresh : (a b : ℕ) → a ≡ b → a < b → ⊥
      fresh a b e lt = omega arith

  entered-removed : (state : State B) (path : Names) → IsTree (shapes state.tree) state.next_inode → path ≢ [] → Entered state (removed state path)
  entered-removed state path is below_root = by_last (λ path. path ≢ [] → Entered state (removed state path)) path
      (λ ne. absurd (ne refl))
      (λ above name _. let p : Names = above ++ name ∷ [] in
      subst (λ g. SpansTwo (shapes state.tree) g state.next_inode state.next_inode) (sym (shapes-stamped (without state.tree p) (parent_of p) (state.tick + 1)))
      (cut-spans (ids_at (shapes state.tree)) (ids_at (shapes (without state.tree p))) (ids-tree (shapes state.tree) state.next_inode is) above name
      (λ rest. ap (option_map id_part) (without_gone state.tree p rest)) (λ q apart. ap (option_map id_part) (without_there state.tree p q apart)) state.next_inode))
      below_root

  entered-moved : (tree : Tree B) (next : ℕ) (old new : Names) → is_sorted path_cmp tree ≡ true → IsTree (shapes tree) next → MayMove tree old new → SpansTwo (shapes tree) (shapes (moved tree old new)) next next
  entered-moved tree next old new sorted is may = by_last (λ new. MayMove tree old new → SpansTwo (shapes tree) (shapes (moved tree old new)) next next) new
      (λ may. absurd (none_some (ap (option_map shape) (sym may.free) ∙ is.root)))
      (λ to new_name may. by_last (λ old. MayMove tree old (child to new_name) → SpansTwo (shapes tree) (shapes (moved tree old (child to new_name))) next next) old
      (λ may. absurd (may.below_root refl))
      (λ from old_name may.
      let o : Names = child from old_name in let p : Names = child to new_name in
      move-spans (ids_at (shapes tree)) (ids_at (shapes (moved tree o p))) (ids-tree (shapes tree) next is) from to old_name new_name (moved_path o p) (moved_under o p) (moved_other o p)
      (λ q x h. let s = some_shape (shapes (moved tree o p) q) x h in let w = moved_from tree next o p sorted is may q s.0 s.1 in (w.0, ap (option_map id_part) w.1 ∙ ap (λ i. Some i) s.2, w.2))
      (λ q x h. let s = some_shape (shapes tree q) x h in ap (option_map id_part) (moved_onto tree next o p sorted is may q s.0 s.1) ∙ ap (λ i. Some i) s.2)
      next)
      may)
      may

  entered-renamed : (state : State B) (paths : Names × Names) → is_sorted path_cmp state.tree ≡ true → IsTree (shapes state.tree) state.next_inode → MayMove state.tree paths.0 paths.1 → Entered state (renamed state paths)
  entered-renamed state paths sorted is may =
      subst (λ g. SpansTwo (shapes state.tree) g state.next_inode state.next_inode)
      (sym (shapes-stamped (stamped (moved state.tree paths.0 paths.1) (parent_of paths.0) (state.tick + 1)) (parent_of paths.1) (state.tick + 1) ∙ shapes-stamped (moved state.tree paths.0 paths.1) (parent_of paths.0) (state.tick + 1)))
      (entered-moved state.tree state.next_inode paths.0 paths.1 sorted is may)

  entered-file : (state : State B) (path : Names) (node : Node B) (file new : B) → IsFileAt state.tree path node file → Entered state (with_file state path node new)
  entered-file state path node file new is = alike state (with_file state path node new).tree
      (shapes-put_alike path node (refilled node new (state.tick + 1)) state.tree is.there (ap (λ (body : Body B). (node.id.0, is_dir_body body)) (sym is.body)))

  entered-allowed : (state : State B) (id : InodeId) → Entered state (allowed state id)
  entered-allowed state id = elim (is_snapshottable state id) as (λ b. Entered state (cond b state (record state { snapshottable = state.snapshottable ++ id ∷ [] }))) [ true ↦ stays state | false ↦ stays state ]

  -- ---- calls

  module _ (files : Files B) (state : State B) (valid : IsValid state) where
    is : IsTree (shapes state.tree) state.next_inode
    is = live_tree state valid

    entered-change : (call : Call) → Entered state (change files state call)
    entered-change (calls.Mkdir path) = if_asked-keeps (Entered state) (made_dir state) state (mkdir_at state path) (stays state)
        (λ p h. entered-node state p (new_dir state.next_inode (state.tick + 1)) is (mkdir_room state path p h) refl)
    entered-change (calls.Create path over) = if_asked-keeps (Entered state) (made_file files state) state (create_at state path over) (stays state)
        (λ p h. entered-node state p (new_file files state.next_inode (state.tick + 1)) is (create_room state path over p h) refl)
    entered-change (calls.Append path bytes) = if_asked-keeps (Entered state) (appended files state bytes) state (append_at state path) (stays state)
        (λ at h. entered-file state at.0 at.1 at.2 (files.append at.2 bytes) (append_there state path at h))
    entered-change (calls.Delete path recursive) = if_asked-keeps (Entered state) (removed state) state (delete_at state path recursive) (stays state)
        (λ p h. entered-removed state p is (delete_allowed state path recursive p h).below_root)
    entered-change (calls.Rename old new) = if_asked-keeps (Entered state) (renamed state) state (rename_at state old new) (stays state)
        (λ paths h. entered-renamed state paths valid.sorted is (rename_allowed state old new paths h).moves)
    entered-change (calls.SetMode path mode) = if_asked-keeps (Entered state) (with_mode state mode) state (set_mode_at state path) (stays state)
        (λ p h. alike state (with_mode state mode p).tree (shapes-moded state.tree p mode (state.tick + 1)))
    entered-change (calls.Allow path) = if_asked-keeps (Entered state) (allowed state) state (allow_at state path) (stays state) (λ id h. entered-allowed state id)
    entered-change (calls.Disallow path) = if_asked-keeps (Entered state) (disallowed state) state (disallow_at state path) (stays state) (λ id h. stays state)
    entered-change (calls.Snap path name) = if_asked-keeps (Entered state) (snapped state name) state (snap_at state path name) (stays state) (λ at h. stays state)
    entered-change (calls.SnapDel path name) = if_asked-keeps (Entered state) (unsnapped state) state (snap_del_at state path name) (stays state) (λ id h. stays state)
    entered-change (calls.SnapRen path old new) = if_asked-keeps (Entered state) (resnapped state new) state (snap_ren_at state path old new) (stays state) (λ id h. stays state)
    entered-change (calls.Read path offset len) = stays state
    entered-change (calls.ReadNext cursor len) = stays state
    entered-change (calls.Stat path) = stays state
    entered-change (calls.List path size) = stays state
    entered-change (calls.ListNext cursor size) = stays state
    entered-change (calls.Snaps path) = stays state
    entered-change calls.Dirs = stays state
    entered-change (calls.Report path from to size) = stays state
    entered-change (calls.ReportNext cursor size) = stays state

    entered-after : (entry : Entry) → Entered state (after files state entry)
    entered-after entry = elim (takes_effect entry) as (λ b. Entered state (changed_if b files state entry.call)) [ true ↦ entered-change entry.call | false ↦ stays state ]

    pub spans-entry : (entry : Entry) → Spans (ids_in state.tree) (ids_in (after files state entry).tree) state.next_inode (after files state entry).next_inode 2
    spans-entry entry = subst (λ (f : Ids). Spans f (ids_in (after files state entry).tree) state.next_inode (after files state entry).next_inode 2) (ids-in state.tree)
        (subst (λ (g : Ids). Spans (ids_at (shapes state.tree)) g state.next_inode (after files state entry).next_inode 2) (ids-in (after files state entry).tree) (entered-after entry))

  pub ids-live : (state : State B) → IsValid state → IsIds (ids_in state.tree)
  ids-live state valid = subst IsIds (ids-in state.tree) (ids-tree (shapes state.tree) state.next_inode (live_tree state valid))

  pub live-below : (state : State B) → IsValid state → AreBelow (ids_in state.tree) state.next_inode
  live-below state valid = subst (λ (f : Ids). AreBelow f state.next_inode) (ids-in state.tree) (below-tree (shapes state.tree) state.next_inode (live_tree state valid))

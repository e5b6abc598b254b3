-- What a stamp tells stays so: each change of a node gives it a stamp above all others.
use Rattle.std.proofs.Common.{◌≡◌, ◌⊎◌, inl, inr, ℕ, ◌+◌, ◌≤◌, true, false, cond, List, [], ◌∷◌, ◌++◌, map, Some, None, refl, sym, ap, subst, ◌∙◌, arith, leb-true, le-leb}
use Rattle.std.specs.Prelude.{not, bytes_eq, nat_le}
use Rattle.std.specs.List.{starts_with}
use Rattle.std.specs.Option.{option_map}
use Rattle.std.specs.Ordering.{eq_by_cmp}
use Rattle.std.specs.FinMap.Entries.{put, is_sorted}
use Rattle.hs_types.specs.Names.{Names}
use Rattle.hs_types.specs.declared.call.Call.{Call}
use Rattle.hs_types.specs.declared.call.Call.TheVariants as calls
use Rattle.hs_types.specs.declared.journal.Entry.{Entry}
use Rattle.hs_types.specs.declared.ids.InodeId.{InodeId}
use Rattle.hs_plain.specs.declared.state.Node.{Node}
use Rattle.hs_plain.specs.declared.state.Member.{Member}
use Rattle.hs_plain.specs.declared.state.State.{State}
use Rattle.hs_plain.specs.Files.{Files}
use Rattle.hs_plain.specs.Tree.{Tree, path_cmp, node_at, parent_of, same_path}
use Rattle.hs_plain.specs.State.{start, new_dir, is_snapshottable}
use Rattle.hs_plain.specs.Modifying.{mkdir_at, create_at, delete_at, rename_at, set_mode_at, append_at}
use Rattle.hs_plain.specs.Snapshotting.{allow_at, disallow_at, snap_at, snap_del_at, snap_ren_at}
use Rattle.hs_plain.specs.Change.{restamp, stamped, remode, moded, without, repath, moved, new_file, with_node, made_dir, made_file, removed, renamed, with_mode, refilled, appended, allowed, disallowed, snapped, unsnapped, resnapped, change, takes_effect, changed_if, ticked, after}
use Rattle.hs_plain.specs.Replay.{replay_from, replay}
use Rattle.hs_plain.specs.Valid.{all_nodes, IsValid, HasSteadyStamps}
use Rattle.hs_plain.proofs.ValidTrees.{restamp-kept, remode-kept, if_asked-keeps}
use Rattle.hs_plain.proofs.ValidShapes.{none_some, same_some}
use Rattle.hs_plain.proofs.ValidNodes.{shape}
use Rattle.hs_plain.proofs.ValidChanges.{moved_path, repath-is, node_at-put, node_at-without}
use Rattle.hs_plain.proofs.ValidRepaths.{put_all_from}
use Rattle.hs_plain.proofs.ValidLists.{In, contains-in, in-contains, all_so, all_from}
use Rattle.hs_plain.proofs.ValidHeld.{Stands, Held, in-held, held-in}
use Rattle.hs_plain.proofs.ValidAsked.{snap_allowed, snap_ren_allowed}
use Rattle.hs_plain.proofs.ValidFollows.{live_tree}
use Rattle.hs_plain.proofs.ValidSnaps.{fewer-snapped, fewer-unsnapped, fewer-resnapped}
use Rattle.hs_plain.proofs.Validity.{Ticks, valid-change, valid-after, valid-start}

module _ {B : Type 0} where
  -- ---- how a change stamps

  -- each node of a changed tree has the new stamp, or stood in the tree before
  abbrev pub NewOrOld : Tree B → Tree B → ℕ → Type 0
  NewOrOld before next tick = (q : Names) (node : Node B) → node_at next q ≡ Some node → (node.stamp ≡ tick) ⊎ Stands before node

  itself : (tree : Tree B) (tick : ℕ) → NewOrOld tree tree tick
  itself tree tick q node at = inr (q, at)

  chained : (a b c : Tree B) (tick : ℕ) → NewOrOld a b tick → NewOrOld b c tick → NewOrOld a c tick
  chained a b c tick one two q node at = by_two (two q node at)
    where
      by_two : (node.stamp ≡ tick) ⊎ Stands b node → (node.stamp ≡ tick) ⊎ Stands a node
      by_two (inl new) = inl new
      by_two (inr o) = one o.0 node o.1

  -- nodes that keep their paths, and get the stamp or stay
  mapped : (g : Names × Node B → Names × Node B) (tick : ℕ) → ((place : Names × Node B) → (g place).0 ≡ place.0) → ((place : Names × Node B) → ((g place).1.stamp ≡ tick) ⊎ ((g place).1 ≡ place.1))
      → (tree : Tree B) (q : Names) (node : Node B) → node_at (map g tree) q ≡ Some node → (node.stamp ≡ tick) ⊎ (node_at tree q ≡ Some node)
  mapped g tick kept marks [] q node at = absurd (none_some at)
  mapped g tick kept marks (e ∷ es) q node at =
      (elim (eq_by_cmp path_cmp q e.0) as (λ b. cond b (Some (g e).1) (node_at (map g es) q) ≡ Some node → (node.stamp ≡ tick) ⊎ (cond b (Some e.1) (node_at es q) ≡ Some node)) [
        | true ↦ λ at. by_mark (marks e) (same_some at)
        | false ↦ λ at. mapped g tick kept marks es q node at
      ]) (ap (λ (p : Names). cond (eq_by_cmp path_cmp q p) (Some (g e).1) (node_at (map g es) q)) (sym (kept e)) ∙ at)
    where
      by_mark : ((g e).1.stamp ≡ tick) ⊎ ((g e).1 ≡ e.1) → (g e).1 ≡ node → (node.stamp ≡ tick) ⊎ (Some e.1 ≡ Some node)
      by_mark (inl new) is = inl (ap (λ (n : Node B). n.stamp) (sym is) ∙ new)
      by_mark (inr same) is = inr (ap (λ (n : Node B). Some n) (sym same ∙ is))

  from_same : (before next : Tree B) (tick : ℕ) → ((q : Names) (node : Node B) → node_at next q ≡ Some node → (node.stamp ≡ tick) ⊎ (node_at before q ≡ Some node)) → NewOrOld before next tick
  from_same before next tick h q node at = by_case (h q node at)
    where
      by_case : (node.stamp ≡ tick) ⊎ (node_at before q ≡ Some node) → (node.stamp ≡ tick) ⊎ Stands before node
      by_case (inl new) = inl new
      by_case (inr old) = inr (q, old)

  stamps-stamped : (tree : Tree B) (path : Names) (tick : ℕ) → NewOrOld tree (stamped tree path tick) tick
  stamps-stamped tree path tick = from_same tree (stamped tree path tick) tick (mapped (restamp path tick) tick (restamp-kept path tick)
      (λ e. elim (same_path path e.0) as (λ b. ((cond b (e.0, record e.1 { stamp = tick }) e).1.stamp ≡ tick) ⊎ ((cond b (e.0, record e.1 { stamp = tick }) e).1 ≡ e.1)) [ true ↦ inl refl | false ↦ inr refl ])
      tree)

  stamps-moded : (tree : Tree B) (path : Names) (mode tick : ℕ) → NewOrOld tree (moded tree path mode tick) tick
  stamps-moded tree path mode tick = from_same tree (moded tree path mode tick) tick (mapped (remode path mode tick) tick (remode-kept path mode tick)
      (λ e. elim (same_path path e.0) as (λ b. ((cond b (e.0, record e.1 { mode = mode; stamp = tick }) e).1.stamp ≡ tick) ⊎ ((cond b (e.0, record e.1 { mode = mode; stamp = tick }) e).1 ≡ e.1)) [ true ↦ inl refl | false ↦ inr refl ])
      tree)

  stamps-put : (tree : Tree B) (path : Names) (new : Node B) (tick : ℕ) → new.stamp ≡ tick → NewOrOld tree (put path_cmp path new tree) tick
  stamps-put tree path new tick is = from_same tree (put path_cmp path new tree) tick (λ q node at.
      (elim (eq_by_cmp path_cmp q path) as (λ b. cond b (Some new) (node_at tree q) ≡ Some node → (node.stamp ≡ tick) ⊎ (node_at tree q ≡ Some node)) [
        | true ↦ λ at. inl (ap (λ (n : Node B). n.stamp) (sym (same_some at)) ∙ is)
        | false ↦ λ at. inr at
      ]) (sym (node_at-put path new tree q) ∙ at))

  stamps-without : (tree : Tree B) (path : Names) (tick : ℕ) → NewOrOld tree (without tree path) tick
  stamps-without tree path tick = from_same tree (without tree path) tick (λ q node at.
      (elim (starts_with bytes_eq q path) as (λ b. cond (not b) (node_at tree q) None ≡ Some node → (node.stamp ≡ tick) ⊎ (node_at tree q ≡ Some node)) [
        | true ↦ λ at. absurd (none_some at)
        | false ↦ λ at. inr at
      ]) (sym (node_at-without tree path q) ∙ at))

  stamps-moved : (tree : Tree B) (old new : Names) (tick : ℕ) → is_sorted path_cmp tree ≡ true → NewOrOld tree (moved tree old new) tick
  stamps-moved tree old new tick sorted q node at = put_all_from (moved_path old new) (repath old new) (repath-is old new) tree [] q node sorted at (λ none. absurd (none_some none)) (λ p pt d. inr (p, pt))

  module _ (state : State B) where
    abbrev Stamps : State B → Type 0
    Stamps next = NewOrOld state.tree next.tree (state.tick + 1)

    stamps-with_node : (path : Names) (node : Node B) → node.stamp ≡ state.tick + 1 → Stamps (with_node state path node)
    stamps-with_node path node is = chained state.tree (stamped state.tree (parent_of path) (state.tick + 1)) (with_node state path node).tree (state.tick + 1)
        (stamps-stamped state.tree (parent_of path) (state.tick + 1)) (stamps-put (stamped state.tree (parent_of path) (state.tick + 1)) path node (state.tick + 1) is)

    stamps-removed : (path : Names) → Stamps (removed state path)
    stamps-removed path = chained state.tree (without state.tree path) (removed state path).tree (state.tick + 1) (stamps-without state.tree path (state.tick + 1)) (stamps-stamped (without state.tree path) (parent_of path) (state.tick + 1))

    stamps-renamed : is_sorted path_cmp state.tree ≡ true → (paths : Names × Names) → Stamps (renamed state paths)
    stamps-renamed sorted paths =
        let one : Tree B = moved state.tree paths.0 paths.1 in
        let two : Tree B = stamped one (parent_of paths.0) (state.tick + 1) in
        chained state.tree one (renamed state paths).tree (state.tick + 1) (stamps-moved state.tree paths.0 paths.1 (state.tick + 1) sorted)
        (chained one two (renamed state paths).tree (state.tick + 1) (stamps-stamped one (parent_of paths.0) (state.tick + 1)) (stamps-stamped two (parent_of paths.1) (state.tick + 1)))

  -- ---- nodes with one id and one stamp are the same

  pub record AreSteady (state : State B) : Type 0 where
    pub same_node : (a b : Node B) → Held state a → Held state b → a.id.0 ≡ b.id.0 → a.stamp ≡ b.stamp → a ≡ b
    pub within : (a : Node B) → Held state a → a.stamp ≤ state.tick

  pub steady_so : (state : State B) → HasSteadyStamps state → AreSteady state
  steady_so state has = record {
    same_node = λ a b ha hb id stamp. has.same_node a b (contains-in (all_nodes state) a (in-held state a ha)) (contains-in (all_nodes state) b (in-held state b hb)) (λ i. record { 0 = id i }) stamp;
    within = λ a ha. leb-true a.stamp state.tick (all_so (λ node. nat_le node.stamp state.tick) (all_nodes state) has.stamps_within a (in-held state a ha));
  }

  pub steady-from : (state : State B) → IsValid state → AreSteady state → HasSteadyStamps state
  steady-from state valid are = record {
    same_node = λ a b ina inb id stamp. are.same_node a b (held a (in-contains (all_nodes state) a ina)) (held b (in-contains (all_nodes state) b inb)) (ap (λ (x : InodeId). x.0) id) stamp;
    stamps_within = all_from (λ node. nat_le node.stamp state.tick) (all_nodes state) (λ a at. le-leb a.stamp state.tick (are.within a (held a at)));
  }
    where
      held : (n : Node B) → In (all_nodes state) n → Held state n
      held = held-in state valid.sorted valid.copies_sorted

  -- fewer nodes, or as many, at the next tick
  steady-fewer : (state next : State B) → AreSteady state → next.tick ≡ state.tick + 1 → ((n : Node B) → Held next n → Held state n) → AreSteady next
  steady-fewer state next are tick fewer = record {
    same_node = λ a b ha hb. are.same_node a b (fewer a ha) (fewer b hb);
    within = λ a ha. let le = are.within a (fewer a ha) in omega arith;
  }

  -- a live tree in which each node has the next stamp or was there, with the snapshots that there were
  module _ (state next : State B) (are : AreSteady state) (valid : IsValid next) (tick : next.tick ≡ state.tick + 1) (members : (m : Member B) → In next.members m → In state.members m) (stamps : NewOrOld state.tree next.tree (state.tick + 1)) where
    abbrev IsNew : Node B → Type 0
    IsNew n = Stands next.tree n × (n.stamp ≡ state.tick + 1)

    new_or_old : (n : Node B) → Held next n → IsNew n ⊎ Held state n
    new_or_old n (inr at) = inr (inr (at.0, members at.0 at.1, at.2))
    new_or_old n (inl at) = by_stamp (stamps at.0 n at.1)
      where
        by_stamp : (n.stamp ≡ state.tick + 1) ⊎ Stands state.tree n → IsNew n ⊎ Held state n
        by_stamp (inl new) = inl (at, new)
        by_stamp (inr old) = inr (inl old)

    differ : (a b : Node B) → IsNew a → Held state b → a.stamp ≡ b.stamp → ⊥
    differ a b new old same =
        let le = are.within b old in
        let now : a.stamp ≡ state.tick + 1 = new.1 in
        omega arith

    pub steady-stamped : AreSteady next
    steady-stamped = record { same_node = λ a b ha hb id stamp. by_both a b id stamp (new_or_old a ha) (new_or_old b hb); within = λ a ha. by_one a (new_or_old a ha) }
      where
        by_both : (a b : Node B) → a.id.0 ≡ b.id.0 → a.stamp ≡ b.stamp → IsNew a ⊎ Held state a → IsNew b ⊎ Held state b → a ≡ b
        by_both a b id stamp (inl an) (inl bn) =
            let path = (live_tree next valid).once an.0.0 bn.0.0 (shape a) (shape b) (ap (option_map shape) an.0.1) (ap (option_map shape) bn.0.1) id in
            same_some (sym an.0.1 ∙ ap (node_at next.tree) path ∙ bn.0.1)
        by_both a b id stamp (inl an) (inr old) = absurd (differ a b an old stamp)
        by_both a b id stamp (inr old) (inl bn) = absurd (differ b a bn old (sym stamp))
        by_both a b id stamp (inr ao) (inr bo) = are.same_node a b ao bo id stamp

        by_one : (a : Node B) → IsNew a ⊎ Held state a → a.stamp ≤ next.tick
        by_one a (inl an) = let now : a.stamp ≡ state.tick + 1 = an.1 in omega arith
        by_one a (inr old) = let le = are.within a old in omega arith

  -- ---- calls

  module _ (state : State B) (valid : IsValid state) (are : AreSteady state) (files : Files B) where
    steady-ticked : AreSteady (ticked state)
    steady-ticked = steady-fewer state (ticked state) are refl (λ n at. at)

    -- the tick and the snapshots stay, and what is changed gets the next stamp
    abbrev Goes : State B → Type 0
    Goes next = (next.tick ≡ state.tick) × ((m : Member B) → In next.members m → In state.members m) × NewOrOld state.tree next.tree (state.tick + 1)

    goes : (next : State B) → next.tick ≡ state.tick → next.members ≡ state.members → NewOrOld state.tree next.tree (state.tick + 1) → Goes next
    goes next tick members stamps = (tick, λ m at. subst (λ ms. In ms m) members at, stamps)

    stays : Goes state
    stays = goes state refl refl (itself state.tree (state.tick + 1))

    steady-live : (call : Call) → Goes (change files state call) → AreSteady (ticked (change files state call))
    steady-live call went = steady-stamped state (ticked (change files state call)) are (valid-change state valid files call) (ap (λ n. n + 1) went.0) went.1 went.2

    goes-allowed : (id : InodeId) → Goes (allowed state id)
    goes-allowed id = elim (is_snapshottable state id) as (λ b. Goes (cond b state (record state { snapshottable = state.snapshottable ++ id ∷ [] }))) [ true ↦ stays | false ↦ goes (record state { snapshottable = state.snapshottable ++ id ∷ [] }) refl refl (itself state.tree (state.tick + 1)) ]

    steady-change : (call : Call) → AreSteady (ticked (change files state call))
    steady-change (calls.Mkdir path) = steady-live (calls.Mkdir path) (if_asked-keeps Goes (made_dir state) state (mkdir_at state path) stays
        (λ p h. goes (made_dir state p) refl refl (stamps-with_node state p (new_dir state.next_inode (state.tick + 1)) refl)))
    steady-change (calls.Create path over) = steady-live (calls.Create path over) (if_asked-keeps Goes (made_file files state) state (create_at state path over) stays
        (λ p h. goes (made_file files state p) refl refl (stamps-with_node state p (new_file files state.next_inode (state.tick + 1)) refl)))
    steady-change (calls.Append path bytes) = steady-live (calls.Append path bytes) (if_asked-keeps Goes (appended files state bytes) state (append_at state path) stays
        (λ at h. goes (appended files state bytes at) refl refl (stamps-put state.tree at.0 (refilled at.1 (files.append at.2 bytes) (state.tick + 1)) (state.tick + 1) refl)))
    steady-change (calls.Delete path recursive) = steady-live (calls.Delete path recursive) (if_asked-keeps Goes (removed state) state (delete_at state path recursive) stays
        (λ p h. goes (removed state p) refl refl (stamps-removed state p)))
    steady-change (calls.Rename old new) = steady-live (calls.Rename old new) (if_asked-keeps Goes (renamed state) state (rename_at state old new) stays
        (λ paths h. goes (renamed state paths) refl refl (stamps-renamed state valid.sorted paths)))
    steady-change (calls.SetMode path mode) = steady-live (calls.SetMode path mode) (if_asked-keeps Goes (with_mode state mode) state (set_mode_at state path) stays
        (λ p h. goes (with_mode state mode p) refl refl (stamps-moded state.tree p mode (state.tick + 1))))
    steady-change (calls.Allow path) = steady-live (calls.Allow path) (if_asked-keeps Goes (allowed state) state (allow_at state path) stays (λ id h. goes-allowed id))
    steady-change (calls.Disallow path) = steady-live (calls.Disallow path) (if_asked-keeps Goes (disallowed state) state (disallow_at state path) stays
        (λ id h. goes (disallowed state id) refl refl (itself state.tree (state.tick + 1))))
    steady-change (calls.Snap path name) = if_asked-keeps (Ticks AreSteady) (snapped state name) state (snap_at state path name) steady-ticked
        (λ at h. steady-fewer state (ticked (snapped state name at)) are refl (fewer-snapped state valid name at.0 at.1 (snap_allowed state path name at h)))
    steady-change (calls.SnapDel path name) = if_asked-keeps (Ticks AreSteady) (unsnapped state) state (snap_del_at state path name) steady-ticked
        (λ id h. steady-fewer state (ticked (unsnapped state id)) are refl (fewer-unsnapped state valid id))
    steady-change (calls.SnapRen path old new) = if_asked-keeps (Ticks AreSteady) (resnapped state new) state (snap_ren_at state path old new) steady-ticked
        (λ id h. steady-fewer state (ticked (resnapped state new id)) are refl (fewer-resnapped state valid new id (snap_ren_allowed state path old new id h)))
    steady-change (calls.Read path offset len) = steady-ticked
    steady-change (calls.ReadNext cursor len) = steady-ticked
    steady-change (calls.Stat path) = steady-ticked
    steady-change (calls.List path size) = steady-ticked
    steady-change (calls.ListNext cursor size) = steady-ticked
    steady-change (calls.Snaps path) = steady-ticked
    steady-change calls.Dirs = steady-ticked
    steady-change (calls.Report path from to size) = steady-ticked
    steady-change (calls.ReportNext cursor size) = steady-ticked

    steady-after : (entry : Entry) → AreSteady (after files state entry)
    steady-after entry = elim (takes_effect entry) as (λ b. AreSteady (ticked (changed_if b files state entry.call))) [ true ↦ steady-change entry.call | false ↦ steady-ticked ]

    pub steady_stamps-after : (entry : Entry) → HasSteadyStamps (after files state entry)
    steady_stamps-after entry = steady-from (after files state entry) (valid-after state valid files entry) (steady-after entry)

  steady_stamps-replay_from : (files : Files B) (state : State B) (entries : List Entry) → IsValid state → HasSteadyStamps state → HasSteadyStamps (replay_from files state entries)
  steady_stamps-replay_from files state [] valid steady = steady
  steady_stamps-replay_from files state (entry ∷ entries) valid steady =
      steady_stamps-replay_from files (after files state entry) entries (valid-after state valid files entry) (steady_stamps-after state valid (steady_so state steady) files entry)

  pub steady_stamps-start : HasSteadyStamps (start {B = B})
  steady_stamps-start = record { same_node = λ a b ina inb id stamp. sym (the_root a (in-contains (all_nodes start) a ina)) ∙ the_root b (in-contains (all_nodes start) b inb); stamps_within = refl }
    where
      the_root : (n : Node B) → In (all_nodes (start {B = B})) n → new_dir 1 0 ≡ n
      the_root n (inl e) = e
      the_root n (inr none) = absurd none

  pub steady_stamps-replay : (files : Files B) (entries : List Entry) → HasSteadyStamps (replay files entries)
  steady_stamps-replay files entries = steady_stamps-replay_from files start entries valid-start steady_stamps-start

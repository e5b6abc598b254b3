-- What look-ups by rows tell of the live tree.
use Rattle.std.proofs.Common.{◌≡◌, ℕ, List, [], ◌∷◌, ◌++◌, length, Option, Some, None, Ok, Err, refl, sym, ap, subst, ◌∙◌, append_assoc, append-nil}
use Rattle.std.specs.Prelude.{IsTrue}
use Rattle.std.specs.Option.{option_map}
use Rattle.std.proofs.lemmas.List.{length-map}
use Rattle.hs_types.specs.Names.{Names}
use Rattle.hs_types.specs.declared.ids.InodeId.{InodeId}
use Rattle.hs_types.specs.declared.refusal.Refusal.{Refusal}
use Rattle.hs_plain.specs.declared.state.Node.{Node}
use Rattle.hs_plain.specs.declared.state.State.{State}
use Rattle.hs_plain.specs.declared.state.FileBlocks.{FileBlocks}
use Rattle.hs_plain.specs.Asked.{Asked, ◌>>=◌, some_asked}
use Rattle.hs_plain.specs.Tree.{Tree, node_at, is_dir, passes, found, walks_from, walks_above, walk, listing, child_count}
use Rattle.hs_plain.proofs.ValidShapes.{by_last, none_some, same_some, parent_of-last}
use Rattle.dir_changes.specs.Entries.{id_at, in_order}
use Rattle.dir_changes.specs.History.{children_at}
use Rattle.snapshot_manager.specs.Snapshots.{Snapshots}
use Rattle.inode_table.specs.Listed.{entry_of}
use Rattle.inode_table.specs.Marks.{Leads, IsChain}
use Rattle.inode_table.specs.Reads.{child, id_of}
use Rattle.inode_table.specs.RowHistory.{RowHistory, File, Dir, rows_at, shown, node_in, entries_of}
use Rattle.inode_table.specs.Stands.{root_id}
use Rattle.inode_table.specs.Tabled.{Tabled}
use Rattle.inode_table.specs.Whole.{StandsFor}
use Rattle.inode_table.proofs.Covers.{some_id}
use Rattle.inode_table.proofs.Listing.{reads-listed}
use Rattle.inode_table.proofs.Walking.{reads-walk}
use Rattle.path_resolver.specs.ByRows.{child_of, led, named, is_dir_row, dir_test, led_above, led_below, led_chain}
use Rattle.path_resolver.specs.Live.{id_walked}
use Rattle.path_resolver.proofs.ByRows.{err_ok, ok_same, found_at, node_led, seen-led, live-led, nodes}

-- ---- walks through a tree

then_unit : (asked : Asked (Unit {0})) → (asked >>= λ _. Ok tt) ≡ asked
then_unit (Ok u) = refl
then_unit (Err why) = refl

module _ {B : Type 0} (tree : Tree B) where
  -- the walk down to a place is the walk above it, and its test of that
  walks-last : (above : Names) (name : List ℕ) (here : Names) → walks_from tree here (above ++ name ∷ []) ≡ (walks_from tree here above >>= λ _. passes (node_at tree (here ++ above)))
  walks-last [] name here = then_unit (passes (node_at tree here)) ∙ ap (λ (p : Names). passes (node_at tree p)) (sym (append-nil here))
  walks-last (a ∷ rest) name here = by (passes (node_at tree here)) (walks-last rest name (child here a))
    where
      by : (asked : Asked (Unit {0})) → walks_from tree (child here a) (rest ++ name ∷ []) ≡ (walks_from tree (child here a) rest >>= λ _. passes (node_at tree (child here a ++ rest)))
          → (asked >>= λ _. walks_from tree (child here a) (rest ++ name ∷ [])) ≡ ((asked >>= λ _. walks_from tree (child here a) rest) >>= λ _. passes (node_at tree (here ++ a ∷ rest)))
      by (Err why) more = refl
      by (Ok u) more = more ∙ ap (λ (p : Names). walks_from tree (child here a) rest >>= λ _. passes (node_at tree p)) (append_assoc here (a ∷ []) rest)

  abbrev dir_there : Node B → Asked (Unit {0})
  dir_there node = passes (Some node)

  walks-dir : (above : Names) (name : List ℕ) → walks_above tree (above ++ name ∷ []) ≡ (walk tree above >>= dir_there)
  walks-dir above name = walks-last above name [] ∙ by (walks_above tree above) (node_at tree above)
    where
      by : (asked : Asked (Unit {0})) (o : Option (Node B)) → (asked >>= λ _. passes o) ≡ ((asked >>= λ _. found o) >>= dir_there)
      by (Err why) o = refl
      by (Ok u) None = refl
      by (Ok u) (Some node) = refl

-- ---- rows

-- the last of these ids, or one
abbrev last_id_of : InodeId → List InodeId → InodeId
last_id_of id [] = id
last_id_of id (x ∷ xs) = last_id_of x xs

module _ (table : Tabled) (snaps : Snapshots) (state : State FileBlocks) (all : StandsFor table snaps state) where
  -- on Ok the node stands there
  pub live-there : (names : Names) (id : InodeId) → led table.rows 0 root_id names ≡ Ok id → id_of (node_at state.tree names) ≡ Some id
  live-there names id e = by (walk state.tree names) refl
    where
      by : (w : Asked (Node FileBlocks)) → walk state.tree names ≡ w → id_of (node_at state.tree names) ≡ Some id
      by (Err why) f = absurd (err_ok (sym (ap id_walked f) ∙ live-led table snaps state all names ∙ e))
      by (Ok node) f = ap id_of (found_at (walks_above state.tree names) (node_at state.tree names) node f) ∙ ap (λ (i : InodeId). Some i) (ok_same (sym (ap id_walked f) ∙ live-led table snaps state all names ∙ e))

  -- and else none
  pub node-there : (names : Names) (asked : Asked InodeId) → led table.rows 0 root_id names ≡ asked → some_asked asked ≡ id_of (node_at state.tree names)
  node-there names (Ok id) e = sym (live-there names id e)
  node-there names (Err why) e = sym (ap id_of (reads-walk (shown table.rows 0) root_id (node_at state.tree) (nodes table snaps state all) all.stands.live names ∙ seen-led table.rows 0 names root_id ∙ ap (node_led table.rows 0) e))

  row-shown : (node : Node FileBlocks) (o : Option RowHistory) → option_map (node_in node.id 0) o ≡ Some node → is_dir_row o ≡ is_dir node
  row-shown node None e = absurd (none_some e)
  row-shown node (Some (File file)) e = ap is_dir (same_some e)
  row-shown node (Some (Dir dir)) e = ap is_dir (same_some e)

  pub dir-there : (path : Names) (node : Node FileBlocks) → node_at state.tree path ≡ Some node → is_dir_row (rows_at table.rows node.id) ≡ is_dir node
  dir-there path node at = row-shown node (rows_at table.rows node.id) (all.stands.live.node path node at)

  -- ---- the walk above a path

  led_above-last : (above : Names) (name : List ℕ) → led_above table.rows (above ++ name ∷ []) ≡ (led table.rows 0 root_id above >>= λ id. dir_test (rows_at table.rows id))
  led_above-last [] name = refl
  led_above-last (a ∷ rest) name = ap (λ (p : Names). led table.rows 0 root_id p >>= λ id. dir_test (rows_at table.rows id)) (parent_of-last (a ∷ rest) name)

  dir-tested : (above : Names) → (walk state.tree above >>= dir_there state.tree) ≡ (id_walked (walk state.tree above) >>= λ id. dir_test (rows_at table.rows id))
  dir-tested above = by (walk state.tree above) refl
    where
      by : (w : Asked (Node FileBlocks)) → walk state.tree above ≡ w → (w >>= dir_there state.tree) ≡ (id_walked w >>= λ id. dir_test (rows_at table.rows id))
      by (Err why) f = refl
      by (Ok node) f = let at : node_at state.tree above ≡ Some node = found_at (walks_above state.tree above) (node_at state.tree above) node f in rw (dir-there above node at) refl

  pub walks-above : (names : Names) → walks_above state.tree names ≡ led_above table.rows names
  walks-above names = by_last (λ q. walks_above state.tree q ≡ led_above table.rows q) names refl
      (λ above name. walks-dir state.tree above name ∙ dir-tested above ∙ ap (λ (a : Asked InodeId). a >>= λ id. dir_test (rows_at table.rows id)) (live-led table snaps state all above) ∙ sym (led_above-last above name))

  -- ---- children

  in-order : (id : InodeId) (o : Option RowHistory) → rows_at table.rows id ≡ o → IsTrue (in_order (entries_of 0 o))
  in-order id None e = refl
  in-order id (Some (File file)) e = refl
  in-order id (Some (Dir dir)) e = (all.records.undoable id dir e).in_order

  pub child-count : (path : Names) (id : InodeId) → id_of (node_at state.tree path) ≡ Some id → length (entries_of 0 (rows_at table.rows id)) ≡ child_count state.tree path
  child-count path id at =
      let n = some_id (node_at state.tree path) id at in
      ap (λ (i : InodeId). length (entries_of 0 (rows_at table.rows i))) (sym n.2)
      ∙ ap length (reads-listed (shown table.rows 0) root_id state.tree path n.0 all.valid.sorted all.stands.live n.1 (in-order n.0.id (rows_at table.rows n.0.id) refl))
      ∙ length-map (listing state.tree path) entry_of

  -- ---- chains

  pub child-led : (at : Names) (n : Node FileBlocks) (name : List ℕ) (next : InodeId) → node_at state.tree at ≡ Some n → child_of 0 name (rows_at table.rows n.id) ≡ Ok next → id_of (node_at state.tree (child at name)) ≡ Some next
  child-led at n name next is e = by (rows_at table.rows n.id) refl
    where
      listed : (o : Option InodeId) → named o ≡ Ok next → o ≡ Some next
      listed None e = absurd (err_ok e)
      listed (Some id) e = ap (λ (i : InodeId). Some i) (ok_same e)

      by : (o : Option RowHistory) → rows_at table.rows n.id ≡ o → id_of (node_at state.tree (child at name)) ≡ Some next
      by None r = absurd (err_ok (sym (ap (child_of 0 name) r) ∙ e))
      by (Some (File file)) r = absurd (err_ok (sym (ap (child_of 0 name) r) ∙ e))
      by (Some (Dir dir)) r = sym (ap (λ o. id_at name (entries_of 0 o)) (sym r) ∙ all.stands.live.entries at n name is) ∙ listed (id_at name (children_at 0 dir)) (sym (ap (child_of 0 name) r) ∙ e)

  pub child-there : (at : Names) (n m : Node FileBlocks) (name : List ℕ) → node_at state.tree at ≡ Some n → node_at state.tree (child at name) ≡ Some m → child_of 0 name (rows_at table.rows n.id) ≡ Ok m.id
  child-there at n m name is there = by (rows_at table.rows n.id) refl
    where
      by : (o : Option RowHistory) → rows_at table.rows n.id ≡ o → child_of 0 name (rows_at table.rows n.id) ≡ Ok m.id
      by None r = absurd (none_some (ap (λ o. id_at name (entries_of 0 o)) (sym r) ∙ all.stands.live.entries at n name is ∙ ap id_of there))
      by (Some (File file)) r = absurd (none_some (ap (λ o. id_at name (entries_of 0 o)) (sym r) ∙ all.stands.live.entries at n name is ∙ ap id_of there))
      by (Some (Dir dir)) r = ap (child_of 0 name) r ∙ ap named (ap (λ o. id_at name (entries_of 0 o)) (sym r) ∙ all.stands.live.entries at n name is ∙ ap id_of there)

  led-leads : (names at : Names) (n : Node FileBlocks) (ids : List InodeId) → node_at state.tree at ≡ Some n → led_below table.rows n.id names ≡ Ok ids → Leads (node_at state.tree) at names ids
  led-leads [] at n [] is e = tt
  led-leads [] at n (x ∷ xs) is e = cc
  led-leads (name ∷ names) at n ids is e = by (λ m more there f. led-leads names (child at name) m more there f) (child_of 0 name (rows_at table.rows n.id)) refl
    where
      rest : ((m : Node FileBlocks) (more : List InodeId) → node_at state.tree (child at name) ≡ Some m → led_below table.rows m.id names ≡ Ok more → Leads (node_at state.tree) (child at name) names more)
          → (next : InodeId) → id_of (node_at state.tree (child at name)) ≡ Some next → (asked : Asked (List InodeId)) → led_below table.rows next names ≡ asked
          → (asked >>= λ more. Ok (next ∷ more)) ≡ Ok ids → Leads (node_at state.tree) at (name ∷ names) ids
      rest below next there (Err why) f g = absurd (err_ok g)
      rest below next there (Ok more) f g =
          let m = some_id (node_at state.tree (child at name)) next there in
          subst (Leads (node_at state.tree) at (name ∷ names)) (ok_same g) (there, below m.0 more m.1 (ap (λ (i : InodeId). led_below table.rows i names) m.2 ∙ f))

      by : ((m : Node FileBlocks) (more : List InodeId) → node_at state.tree (child at name) ≡ Some m → led_below table.rows m.id names ≡ Ok more → Leads (node_at state.tree) (child at name) names more)
          → (asked : Asked InodeId) → child_of 0 name (rows_at table.rows n.id) ≡ asked → Leads (node_at state.tree) at (name ∷ names) ids
      by below (Err why) f = absurd (err_ok (sym (ap (λ (a : Asked InodeId). a >>= λ next. led_below table.rows next names >>= λ more. Ok (next ∷ more)) f) ∙ e))
      by below (Ok next) f = rest below next (child-led at n name next is f) (led_below table.rows next names) refl
          (sym (ap (λ (a : Asked InodeId). a >>= λ next. led_below table.rows next names >>= λ more. Ok (next ∷ more)) f) ∙ e)

  pub is-chain : (names : Names) (ids : List InodeId) → led_chain table.rows names ≡ Ok ids → IsChain (node_at state.tree) names ids
  is-chain names ids e = by (led_below table.rows root_id names) refl
    where
      by : (asked : Asked (List InodeId)) → led_below table.rows root_id names ≡ asked → IsChain (node_at state.tree) names ids
      by (Err why) f = absurd (err_ok (sym (ap (λ (a : Asked (List InodeId)). a >>= λ more. Ok (root_id ∷ more)) f) ∙ e))
      by (Ok more) f =
          let root = some_id (node_at state.tree []) root_id all.stands.live.root in
          subst (IsChain (node_at state.tree) names) (ok_same (sym (ap (λ (a : Asked (List InodeId)). a >>= λ more. Ok (root_id ∷ more)) f) ∙ e))
          (all.stands.live.root, led-leads names [] root.0 more root.1 (ap (λ (i : InodeId). led_below table.rows i names) root.2 ∙ f))

  -- a chain goes on as a walk does
  led-last : (names : Names) (id : InodeId) → led table.rows 0 id names ≡ (led_below table.rows id names >>= λ ids. Ok (last_id_of id ids))
  led-last [] id = refl
  led-last (name ∷ names) id = by (child_of 0 name (rows_at table.rows id)) (led-last names)
    where
      put : (next : InodeId) (asked : Asked (List InodeId)) → (asked >>= λ ids. Ok (last_id_of next ids)) ≡ ((asked >>= λ ids. Ok (next ∷ ids)) >>= λ ids. Ok (last_id_of id ids))
      put next (Err why) = refl
      put next (Ok ids) = refl

      by : (asked : Asked InodeId) → ((next : InodeId) → led table.rows 0 next names ≡ (led_below table.rows next names >>= λ ids. Ok (last_id_of next ids)))
          → (asked >>= λ next. led table.rows 0 next names) ≡ ((asked >>= λ next. led_below table.rows next names >>= λ ids. Ok (next ∷ ids)) >>= λ ids. Ok (last_id_of id ids))
      by (Err why) more = refl
      by (Ok next) rest = rest next ∙ put next (led_below table.rows next names)

  chain-walk : (names : Names) → id_walked (walk state.tree names) ≡ (led_chain table.rows names >>= λ ids. Ok (last_id_of root_id ids))
  chain-walk names = live-led table snaps state all names ∙ led-last names root_id ∙ by (led_below table.rows root_id names)
    where
      by : (asked : Asked (List InodeId)) → (asked >>= λ ids. Ok (last_id_of root_id ids)) ≡ ((asked >>= λ ids. Ok (root_id ∷ ids)) >>= λ ids. Ok (last_id_of root_id ids))
      by (Err why) = refl
      by (Ok ids) = refl

  pub chain-refused : (names : Names) (why : Refusal) → led_chain table.rows names ≡ Err why → walk state.tree names ≡ Err why
  chain-refused names why e = by (walk state.tree names) (chain-walk names ∙ ap (λ (a : Asked (List InodeId)). a >>= λ ids. Ok (last_id_of root_id ids)) e)
    where
      by : (w : Asked (Node FileBlocks)) → id_walked w ≡ Err why → w ≡ Err why
      by (Ok node) f = absurd (err_ok (sym f))
      by (Err other) f = cc

  pub chain-walked : (names : Names) (ids : List InodeId) → led_chain table.rows names ≡ Ok ids → (node : Node FileBlocks) × (walk state.tree names ≡ Ok node)
  chain-walked names ids e = by (walk state.tree names) refl (chain-walk names ∙ ap (λ (a : Asked (List InodeId)). a >>= λ ids. Ok (last_id_of root_id ids)) e)
    where
      by : (w : Asked (Node FileBlocks)) → walk state.tree names ≡ w → id_walked w ≡ Ok (last_id_of root_id ids) → (node : Node FileBlocks) × (walk state.tree names ≡ Ok node)
      by (Err why) f g = absurd (err_ok g)
      by (Ok node) f g = (node, f)

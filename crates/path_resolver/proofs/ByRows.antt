-- What names lead to by rows is where the walk through the tree leads.
use Rattle.std.proofs.Common.{◌≡◌, ℕ, true, false, List, [], ◌∷◌, ◌++◌, map, Option, Some, None, Ok, Err, ◌⊎◌, inl, inr, refl, sym, ap, ◌∙◌, append_assoc, append-nil, nat_eq, suc, arith}
use Rattle.std.specs.Prelude.{bytes_eq}
use Rattle.std.specs.Option.{option_map, ok_or}
use Rattle.std.specs.List.{find, Contains}
use Rattle.std.specs.Cmp.{nat_eq_equiv}
use Rattle.std.proofs.lemmas.Cmp.{nat_list_eq_equiv}
use Rattle.std.proofs.lemmas.Bool.{cases_Bool}
use Rattle.hs_types.specs.Names.{Names}
use Rattle.hs_types.specs.declared.ids.InodeId.{InodeId}
use Rattle.hs_types.specs.declared.ids.SnapId.{SnapId}
use Rattle.hs_types.specs.declared.path.Path.{Path}
use Rattle.hs_types.specs.declared.path.PathTail.{PathTail}
use Rattle.hs_types.specs.declared.path.PathTail.TheVariants.{Plain, SnapshotList, Frozen}
use Rattle.hs_types.specs.declared.call.Place.TheVariants as places
use Rattle.hs_types.specs.declared.refusal.Refusal.{Refusal}
use Rattle.hs_types.specs.declared.name.SnapItem.{SnapItem}
use Rattle.hs_types.specs.declared.refusal.Refusal.TheVariants.{NotFound}
use Rattle.hs_plain.specs.declared.state.Node.{Node}
use Rattle.hs_plain.specs.declared.state.Member.{Member}
use Rattle.hs_plain.specs.declared.state.State.{State}
use Rattle.hs_plain.specs.declared.state.FileBlocks.{FileBlocks}
use Rattle.hs_plain.specs.Asked.{Asked, ◌>>=◌}
use Rattle.hs_plain.specs.Tree.{Tree, node_at, is_dir, walks_from, walks_above, found, walk, same_inode}
use Rattle.hs_plain.specs.State.{snapshot_root, member_named, resolve_tail, resolve}
use Rattle.hs_plain.proofs.ValidShapes.{none_some, same_some}
use Rattle.hs_plain.proofs.ValidMembers.{inode_so}
use Rattle.dir_changes.specs.Entries.{id_at}
use Rattle.dir_changes.specs.History.{children_at}
use Rattle.snapshot_manager.specs.Snapshots.{Snapshots, has_name, snaps_in}
use Rattle.snapshot_manager.specs.Members.{of_dir}
use Rattle.inode_table.specs.Joined.{told}
use Rattle.inode_table.specs.Reads.{ReadsAs, IsNodes, child, id_of}
use Rattle.inode_table.specs.declared.row.Row.{Row}
use Rattle.inode_table.specs.Kept.{TableValue}
use Rattle.inode_table.specs.Kept.{told as memory}
use Rattle.inode_table.specs.Numbered.{row_of, state_of, history_of}
use Rattle.inode_table.specs.RowHistory.{Table, RowHistory, RowState, File, Dir, rows_at, shown, node_in}
use Rattle.inode_table.specs.Walk.{and_then, seen_from}
use Rattle.inode_table.specs.Stands.{root_id}
use Rattle.inode_table.specs.Tabled.{Tabled}
use Rattle.inode_table.specs.Whole.{StandsFor}
use Rattle.inode_table.proofs.Telling.{row-told}
use Rattle.inode_table.proofs.Giving.{from-valid}
use Rattle.inode_table.proofs.Walking.{reads-walk}
use Rattle.path_resolver.specs.ByRows.{named, led, root_at, item_there, resolved_tail, resolved}

Contains-first : {X : Type 0} (x : X) (xs : List X) → Contains (x ∷ xs) x
Contains-first x xs = (0, omega arith, refl)

Contains-later : {X : Type 0} (x : X) (xs : List X) (z : X) → Contains xs z → Contains (x ∷ xs) z
Contains-later x xs z k = (suc k.0, (let lt = k.1 in omega arith), k.2)

pub err_ok : {X : Type 0} {why : Refusal} {x : X} → ◌≡◌ {A = Asked X} (Err why) (Ok x) → ⊥
err_ok e = cc

pub ok_same : {X : Type 0} {x y : X} → ◌≡◌ {A = Asked X} (Ok x) (Ok y) → x ≡ y
ok_same e = cc

pub ok_or-named : (o : Option InodeId) → ok_or o NotFound ≡ named o
ok_or-named None = refl
ok_or-named (Some id) = refl

-- a test, what is made of its answer, and the next
first_then : {X Y Z : Type 0} (asked : Asked X) (make : X → Y) (next : Y → Asked Z) → (asked >>= λ x. next (make x)) ≡ ((asked >>= λ x. Ok (make x)) >>= next)
first_then (Ok x) make next = refl
first_then (Err why) make next = refl

pub found_at : (above : Asked (Unit {0})) (o : Option (Node FileBlocks)) (node : Node FileBlocks) → (above >>= λ _. found o) ≡ Ok node → o ≡ Some node
found_at (Err why) o node e = absurd (err_ok e)
found_at (Ok u) None node e = absurd (err_ok e)
found_at (Ok u) (Some n) node e = ap (λ x. Some x) (ok_same e)

-- the rows of a table in memory
pub rows-told : (table : TableValue) (id : InodeId) (o : Option Row) → row_of table.rows id ≡ o → rows_at (memory table).rows id ≡ option_map (λ row. history_of row.rows) o
rows-told table id o e = ap (option_map (λ (row : RowState). row.rows)) (row-told table.rows id ∙ ap (option_map state_of) e) ∙ by o
  where
    by : (o : Option Row) → option_map (λ (row : RowState). row.rows) (option_map state_of o) ≡ option_map (λ row. history_of row.rows) o
    by None = refl
    by (Some row) = refl

module _ (table : Table) (s : ℕ) where
  abbrev pub node_led : Asked InodeId → Option (Node FileBlocks)
  node_led (Ok id) = (shown table s).node id
  node_led (Err why) = None

  -- what the rows show below an inode is what names lead to
  pub seen-led : (names : Names) (id : InodeId) → seen_from (shown table s) id names ≡ node_led (led table s id names)
  seen-led [] id = refl
  seen-led (name ∷ names) id = by (seen-led names) (rows_at table id) refl
    where
      below : ((next : InodeId) → seen_from (shown table s) next names ≡ node_led (led table s next names)) → (o : Option InodeId) → and_then o (λ next. seen_from (shown table s) next names) ≡ node_led (named o >>= λ next. led table s next names)
      below all None = refl
      below all (Some next) = all next

      by : ((next : InodeId) → seen_from (shown table s) next names ≡ node_led (led table s next names)) → (o : Option RowHistory) → rows_at table id ≡ o → seen_from (shown table s) id (name ∷ names) ≡ node_led (led table s id (name ∷ names))
      by all None e = rw e refl
      by all (Some (File file)) e = rw e refl
      by all (Some (Dir dir)) e = rw e (below all (id_at name (children_at s dir)))

  module _ (top : InodeId) (tree : Tree FileBlocks) (reads : ReadsAs (shown table s) top (node_at tree)) where
    abbrev pub ids : Asked (Node FileBlocks) → Asked InodeId
    ids asked = asked >>= λ node. Ok node.id

    abbrev walk_below : Names → Names → Asked (Node FileBlocks)
    walk_below at names = walks_from tree at names >>= λ _. found (node_at tree (at ++ names))

    -- from a node on, names lead where the walk leads
    led-from : (names at : Names) (n : Node FileBlocks) → node_at tree at ≡ Some n → ids (walk_below at names) ≡ led table s n.id names
    led-from [] at n is = rw (append-nil at, is) refl
    led-from (name ∷ names) at n is = by (led-from names (child at name)) (rows_at table n.id) refl
      where
        shows : option_map (node_in n.id s) (rows_at table n.id) ≡ Some n
        shows = reads.node at n is

        by : ((m : Node FileBlocks) → node_at tree (child at name) ≡ Some m → ids (walk_below (child at name) names) ≡ led table s m.id names)
            → (o : Option RowHistory) → rows_at table n.id ≡ o → ids (walk_below at (name ∷ names)) ≡ led table s n.id (name ∷ names)
        by all None e = absurd (none_some (rw e at shows))
        by all (Some (File file)) e =
            let same : node_in n.id s (File file) ≡ n = same_some (rw e at shows) in
            let no : is_dir n ≡ false = ap is_dir (sym same) in
            rw (is, no, e) refl
        by all (Some (Dir dir)) e =
            let same : node_in n.id s (Dir dir) ≡ n = same_some (rw e at shows) in
            let yes : is_dir n ≡ true = ap is_dir (sym same) in
            let listed : id_at name (children_at s dir) ≡ id_of (node_at tree (child at name)) = rw e at (reads.entries at n name is) in
            rw (is, yes, e) (next all (node_at tree (child at name)) refl listed)
          where
            next : ((m : Node FileBlocks) → node_at tree (child at name) ≡ Some m → ids (walk_below (child at name) names) ≡ led table s m.id names)
                → (o : Option (Node FileBlocks)) → node_at tree (child at name) ≡ o → id_at name (children_at s dir) ≡ id_of (node_at tree (child at name))
                → ids (walks_from tree (child at name) names >>= λ _. found (node_at tree (at ++ name ∷ names))) ≡ (named (id_at name (children_at s dir)) >>= λ next. led table s next names)
            next all None gone listed = rw (listed, gone) (missing names)
              where
                missing : (rest : Names) → ids (walks_from tree (child at name) rest >>= λ _. found (node_at tree (at ++ name ∷ rest))) ≡ Err NotFound
                missing [] = rw gone refl
                missing (x ∷ xs) = rw gone refl
            next all (Some m) there listed = rw (listed, there) (ap (λ (p : Names). ids (walks_from tree (child at name) names >>= λ _. found (node_at tree p))) (sym (append_assoc at (name ∷ []) names)) ∙ all m there)

    -- so from the top
    pub led-walk : (names : Names) → ids (walk tree names) ≡ led table s top names
    led-walk names = by (node_at tree []) refl
      where
        by : (o : Option (Node FileBlocks)) → node_at tree [] ≡ o → ids (walk tree names) ≡ led table s top names
        by None e = absurd (none_some (sym (ap id_of e) ∙ reads.root))
        by (Some n) e = led-from names [] n e ∙ ap (λ (i : InodeId). led table s i names) (same_some (sym (ap id_of e) ∙ reads.root))

-- ---- snapshots by name

abbrev found_item : Option (Member FileBlocks) → Option SnapItem
found_item o = option_map (λ m. (told m).1) o

-- what a look-up by name finds is the member of that name
pub record Agrees (members : List (Member FileBlocks)) (dir : InodeId) (asked : Asked (Member FileBlocks)) (item : Option SnapItem) : Type 0 where
  pub none : item ≡ None → asked ≡ Err NotFound
  pub some : (one : SnapItem) → item ≡ Some one → (m : Member FileBlocks) × (asked ≡ Ok m) × Contains members m × (m.directory ≡ dir) × (m.snapshot ≡ one.id)

pub find-named : (members : List (Member FileBlocks)) (dir : InodeId) (name : List ℕ) → Agrees members dir (member_named members dir name) (find (has_name name) (of_dir dir (map told members)))
find-named [] dir name = record { none = λ _. refl; some = λ one e. absurd (none_some e) }
find-named (m ∷ ms) dir name = by (find-named ms dir name) (cases_Bool (same_inode m.directory dir)) (cases_Bool (bytes_eq m.name name))
  where
    more : (asked : Asked (Member FileBlocks)) (item : Option SnapItem) → Agrees ms dir asked item → Agrees (m ∷ ms) dir asked item
    more asked item rest = record { none = rest.none; some = λ one e. let r = rest.some one e in (r.0, r.1, Contains-later m ms r.0 r.2, r.3, r.4) }

    by : Agrees ms dir (member_named ms dir name) (find (has_name name) (of_dir dir (map told ms))) → (same_inode m.directory dir ≡ true) ⊎ (same_inode m.directory dir ≡ false) → (bytes_eq m.name name ≡ true) ⊎ (bytes_eq m.name name ≡ false)
        → Agrees (m ∷ ms) dir (member_named (m ∷ ms) dir name) (find (has_name name) (of_dir dir (map told (m ∷ ms))))
    by rest (inr other) _ =
        let flip : nat_eq dir.0 m.directory.0 ≡ false = nat_eq_equiv.symm dir.0 m.directory.0 ∙ other in
        rw (other, flip) (more _ _ rest)
    by rest (inl own) (inr other) =
        let flip : nat_eq dir.0 m.directory.0 ≡ true = nat_eq_equiv.symm dir.0 m.directory.0 ∙ own in
        let turn : bytes_eq name m.name ≡ false = nat_list_eq_equiv.symm name m.name ∙ other in
        rw (own, flip, other, turn) (more _ _ rest)
    by rest (inl own) (inl same) =
        let flip : nat_eq dir.0 m.directory.0 ≡ true = nat_eq_equiv.symm dir.0 m.directory.0 ∙ own in
        let turn : bytes_eq name m.name ≡ true = nat_list_eq_equiv.symm name m.name ∙ same in
        rw (own, flip, same, turn) (record { none = λ e. absurd (none_some (sym e)); some = λ one e. (m, refl, Contains-first m ms, inode_so m.directory dir own, ap (λ (x : SnapItem). x.id) (same_some e)) })

-- ---- the whole

module _ (table : Tabled) (snaps : Snapshots) (state : State FileBlocks) (all : StandsFor table snaps state) where
  pub live-led : (names : Names) → (walk state.tree names >>= λ node. Ok node.id) ≡ led table.rows 0 root_id names
  live-led names = led-walk table.rows 0 root_id state.tree all.stands.live names

  pub nodes : IsNodes (node_at state.tree)
  nodes = (from-valid state all.valid).live

  root-led : (base : Names) → snapshot_root state base ≡ root_at table.rows snaps base
  root-led base = by (led table.rows 0 root_id base) refl
    where
      seen : node_at state.tree base ≡ node_led table.rows 0 (led table.rows 0 root_id base)
      seen = reads-walk (shown table.rows 0) root_id (node_at state.tree) nodes all.stands.live base ∙ seen-led table.rows 0 base root_id

      by : (asked : Asked InodeId) → led table.rows 0 root_id base ≡ asked → snapshot_root state base ≡ root_at table.rows snaps base
      by (Err why) e = rw (seen, e) refl
      by (Ok id) e = there (walk state.tree base) refl
        where
          there : (w : Asked (Node FileBlocks)) → walk state.tree base ≡ w → snapshot_root state base ≡ root_at table.rows snaps base
          there (Err why) f = absurd (err_ok (sym (ap (λ (w : Asked (Node FileBlocks)). w >>= λ node. Ok node.id) f) ∙ live-led base ∙ e))
          there (Ok node) f =
              let same : node.id ≡ id = ok_same (sym (ap (λ (w : Asked (Node FileBlocks)). w >>= λ node. Ok node.id) f) ∙ live-led base ∙ e) in
              let at : node_at state.tree base ≡ Some node = found_at (walks_above state.tree base) (node_at state.tree base) node f in
              rw (at, e, same, all.snapshottable id) refl

  pub resolved_plain : (path : Path) → resolve state path ≡ resolved table.rows snaps path
  resolved_plain path = by path.tail
    where
      by : (tail : PathTail) → resolve_tail state path.base tail ≡ resolved_tail table.rows snaps path.base tail
      by Plain = first_then (walk state.tree path.base) (λ (node : Node FileBlocks). node.id) (λ (id : InodeId). Ok (places.Live id)) ∙ ap (λ (a : Asked InodeId). a >>= λ id. Ok (places.Live id)) (live-led path.base)
      by SnapshotList = ap (λ (a : Asked InodeId). a >>= λ dir. Ok (places.SnapshotsOf dir)) (root-led path.base)
      by (Frozen snapshot rest) = rw (root-led path.base) (under (root_at table.rows snaps path.base))
        where
          under : (asked : Asked InodeId) → (asked >>= λ dir. member_named state.members dir snapshot >>= λ member. walk member.tree rest >>= λ node. Ok (places.Frozen node.id member.snapshot))
              ≡ (asked >>= λ dir. item_there (find (has_name snapshot) (snaps_in snaps dir)) >>= λ item. led table.rows item.id.0 dir rest >>= λ id. Ok (places.Frozen id item.id))
          under (Err why) = refl
          under (Ok dir) = item (find (has_name snapshot) (snaps_in snaps dir)) refl
            where
              found_so : Agrees state.members dir (member_named state.members dir snapshot) (find (has_name snapshot) (snaps_in snaps dir))
              found_so = rw (all.told.tables dir) (find-named state.members dir snapshot)

              item : (o : Option SnapItem) → find (has_name snapshot) (snaps_in snaps dir) ≡ o
                  → (member_named state.members dir snapshot >>= λ member. walk member.tree rest >>= λ node. Ok (places.Frozen node.id member.snapshot))
                  ≡ (item_there (find (has_name snapshot) (snaps_in snaps dir)) >>= λ item. led table.rows item.id.0 dir rest >>= λ id. Ok (places.Frozen id item.id))
              item None e = rw (e, found_so.none e) refl
              item (Some one) e =
                  let m = found_so.some one e in
                  rw (e, m.1) (copied m.0 m.2 m.3 m.4)
                where
                  copied : (m : Member FileBlocks) → Contains state.members m → m.directory ≡ dir → m.snapshot ≡ one.id
                      → (walk m.tree rest >>= λ node. Ok (places.Frozen node.id m.snapshot)) ≡ (led table.rows one.id.0 dir rest >>= λ id. Ok (places.Frozen id one.id))
                  copied m within own same =
                      first_then (walk m.tree rest) (λ (node : Node FileBlocks). node.id) (λ (id : InodeId). Ok (places.Frozen id m.snapshot))
                      ∙ ap (λ (a : Asked InodeId). a >>= λ id. Ok (places.Frozen id m.snapshot)) (led-walk table.rows m.snapshot.0 m.directory m.tree (all.stands.frozen m within) rest)
                      ∙ ap (λ (d : InodeId). led table.rows m.snapshot.0 d rest >>= λ id. Ok (places.Frozen id m.snapshot)) own
                      ∙ ap (λ (k : SnapId). led table.rows k.0 dir rest >>= λ id. Ok (places.Frozen id k)) same

-- A whole call that makes a file in the place of another.
use Rattle.std.proofs.Common.{◌≡◌, ℕ, ◌+◌, ◌<◌, ◌≤◌, Bool, true, false, cond, List, [], ◌∷◌, ◌++◌, Option, Some, None, Ok, refl, sym, ap, subst, ◌∙◌, append_assoc, append-nil, arith}
use Rattle.std.specs.Prelude.{◌≢◌, nat_lt}
use Rattle.std.specs.Option.{option_map}
use Rattle.std.specs.List.{Contains}
use Rattle.std.proofs.lemmas.Bool.Decides.{nat_tests}
use Rattle.std.proofs.lemmas.List.{append_cancel_left}
use Rattle.hs_types.specs.Names.{Names}
use Rattle.hs_types.specs.declared.ids.InodeId.{InodeId}
use Rattle.hs_types.specs.declared.call.Call.TheVariants as calls
use Rattle.hs_plain.specs.declared.state.Node.{Node}
use Rattle.hs_plain.specs.declared.state.State.{State}
use Rattle.hs_plain.specs.declared.state.Member.{Member}
use Rattle.hs_plain.specs.declared.state.FileBlocks.{FileBlocks}
use Rattle.hs_plain.specs.Files.{Files}
use Rattle.hs_plain.specs.Tree.{node_at, parent_of, is_dir}
use Rattle.hs_plain.specs.Modifying.{create_at}
use Rattle.hs_plain.specs.Change.{change, ticked, if_asked, stamped, without, removed, with_node, made_file, new_file}
use Rattle.hs_plain.specs.Valid.{IsValid}
use Rattle.hs_plain.proofs.ValidAsked.{HasRoom, create_room}
use Rattle.hs_plain.proofs.ValidChanges.{put_here, put_there}
use Rattle.hs_plain.proofs.ValidFollows.{live_tree}
use Rattle.hs_plain.proofs.ValidNodes.{shapes, shape, dir_shape}
use Rattle.hs_plain.proofs.ValidShapes.{by_same, by_under, none_some, same_some, true_false, parent_of-last, there_above}
use Rattle.hs_plain.proofs.Validity.{valid-change}
use Rattle.snapshot_manager.specs.Snapshots.{Snapshots}
use Rattle.dir_changes.specs.Entries.{id_at, with_entry}
use Rattle.dir_changes.proofs.EditLaws.{id_at-without_name, same_name-refl}
use Rattle.inode_table.specs.declared.change.Change.TheVariants as changes
use Rattle.inode_table.specs.declared.freed.Freed.{Freed}
use Rattle.inode_table.specs.Reads.{Nodes, ReadsAs, IsNodes, Has, child, id_of}
use Rattle.inode_table.specs.Marks.{AreMarks, IsTop, IsChain, Leads, cover, last_of}
use Rattle.inode_table.specs.RowHistory.{Table, RowHistory, RowState, row_at, shown, marks_of, node_in, entries_in, spot_in, last_in, last_after, need, is_live_between, IsFrozen, Changed}
use Rattle.inode_table.specs.FromValid.{GivesNodes}
use Rattle.inode_table.specs.Stands.{Stands, root_id}
use Rattle.inode_table.specs.Deeds.{Inserts}
use Rattle.inode_table.specs.Kept.{AreSound, CanChange, FitsRows, IsBare, IsLoose}
use Rattle.inode_table.specs.Released.{Releasing}
use Rattle.inode_table.specs.Tabled.{Tabled, changed_rows, inserted, fresh_row, stamp_of}
use Rattle.inode_table.specs.Whole.{StandsFor}
use Rattle.inode_table.proofs.Doing.{make-stands}
use Rattle.inode_table.proofs.Giving.{from-valid}
use Rattle.inode_table.proofs.Going.{released-stands}
use Rattle.inode_table.proofs.Renaming.{has-alike, stamp-id}
use Rattle.inode_table.proofs.Calling.{nodes-alike}
use Rattle.inode_table.proofs.Walking.{without-gone, without-there, nodes-cut, node_at-stamped, node_at-stamped_other}
use Rattle.table_laws.specs.Naming.{IsLive, lists_of}
use Rattle.table_laws.specs.Recording.{MayRecord}
use Rattle.table_laws.specs.Steps.{ChangesRow}
use Rattle.table_laws.specs.WholeCalls as tables
use Rattle.table_laws.specs.WholeCalls.{way_to, last_number_of, cover_at, need_at}
use Rattle.table_laws.specs.WholeLaws.{over_file_table}
use Rattle.table_laws.specs.WholeMay.{MayReplace}
use Rattle.table_laws.specs.WholeStands.{Before, Reaches}
use Rattle.table_laws.proofs.Recording.{again-may}
use Rattle.table_laws.proofs.StepRows.{changes-row}
use Rattle.table_laws.proofs.StepTables.{row-there, put-there, changed-row, inserted-step}
use Rattle.table_laws.proofs.WholeDeeds.{LiveRow, live-row}
use Rattle.table_laws.proofs.WholeGone.{can-unlink, unlinked}
use Rattle.table_laws.proofs.WholeMidway.{Midway, may-at, mid-insert, mid-in, mid-release, ended-same}
use Rattle.table_laws.proofs.WholeMoves.{unlink-stands}
use Rattle.table_laws.proofs.WholeNew.{parent-dir, new-live, new-copied, root-there}
use Rattle.table_laws.proofs.WholeParts.{ids-within, greatest-released, before-of}
use Rattle.table_laws.proofs.WholeSteps.{cover-same, fits-add, fits-remove}

-- ---- a second change of a row at the same number

reaches : (l n : ℕ) → n ≤ last_after l n
reaches l n = elim (nat_lt l n) as (λ b. nat_lt l n ≡ b → n ≤ cond b n l) [ true ↦ λ _. omega arith | false ↦ λ t. grind (arith, nat_tests) ] refl

no-need : (members : List (Member FileBlocks)) (l c : ℕ) → need members (last_after l (need members l c)) c ≤ last_after l (need members l c)
no-need members l c = elim (is_live_between members l c) as (λ b. is_live_between members l c ≡ b → need members (last_after l (cond b c 0)) c ≤ last_after l (cond b c 0)) [
  | true ↦ λ _. let most : c ≤ last_after l c = reaches l c in at_most members (last_after l c) c (last_after l c) most
  | false ↦ λ none. let same : last_after l 0 ≡ l = stays l in
      subst (λ n. need members n c ≤ n) (sym same) (subst (λ b. cond b c 0 ≤ l) (sym none) (omega arith))
] refl
  where
    stays : (l : ℕ) → last_after l 0 ≡ l
    stays l = elim (nat_lt l 0) as (λ b. nat_lt l 0 ≡ b → cond b 0 l ≡ l) [ true ↦ λ t. let below : l < 0 = grind (arith, nat_tests) in absurd (omega arith) | false ↦ λ _. refl ] refl

    at_most : (members : List (Member FileBlocks)) (l c n : ℕ) → c ≤ n → need members l c ≤ n
    at_most members l c n le = elim (is_live_between members l c) as (λ b. cond b c 0 ≤ n) [ true ↦ le | false ↦ omega arith ]

last-same : (l n : ℕ) → n ≤ l → last_after l n ≡ l
last-same l n le = elim (nat_lt l n) as (λ b. nat_lt l n ≡ b → cond b n l ≡ l) [ true ↦ λ t. let below : l < n = grind (arith, nat_tests) in absurd (omega arith) | false ↦ λ _. refl ] refl

at-number : (before after : Table) (id : InodeId) (n m : ℕ) (old new : RowHistory) → last_after (last_in old) n ≡ last_after (last_in old) m → Changed before after id n old new → Changed before after id m old new
at-number before after id n m old new same c = record {
  was = c.was;
  here = c.here;
  there = c.there;
  reads = λ s above le. c.reads s above (subst (λ k. s ≤ k) (sym same) le);
  last = c.last ∙ same;
  marks = c.marks;
}

-- ---- a chain in a tree with the same ids on the way

module _ (f g : Nodes FileBlocks) where
  leads-on : (at below : Names) (xs : List InodeId) → ((q rest : Names) → q ++ rest ≡ at ++ below → id_of (g q) ≡ id_of (f q)) → Leads f at below xs → Leads g at below xs
  leads-on at [] [] same h = h
  leads-on at [] (x ∷ xs) same h = h
  leads-on at (name ∷ below) [] same h = h
  leads-on at (name ∷ below) (x ∷ xs) same h =
      (same (child at name) below (append_assoc at (name ∷ []) below) ∙ h.0, leads-on (child at name) below xs (λ q rest e. same q rest (e ∙ append_assoc at (name ∷ []) below)) h.1)

  chain-on : (path : Names) (xs : List InodeId) → ((q rest : Names) → q ++ rest ≡ path → id_of (g q) ≡ id_of (f q)) → IsChain f path xs → IsChain g path xs
  chain-on path [] same h = h
  chain-on path (x ∷ xs) same h = (same [] path refl ∙ h.0, leads-on [] path xs same h.1)

-- ---- states with the same nodes

stands-alike : (table : Table) (s u : State FileBlocks) (issued : ℕ) → ((q : Names) → node_at u.tree q ≡ node_at s.tree q) → u.members ≡ s.members → Stands table s issued → Stands table u issued
stands-alike table s u issued nodes members stands = record {
  live = subst (λ (g : Nodes FileBlocks). ReadsAs (shown table 0) root_id g) (λ i q. sym (nodes q) i) stands.live;
  frozen = subst (IsFrozen table) (sym members) stands.frozen;
  marks = subst (λ (ms : List (Member FileBlocks)). AreMarks (node_at u.tree) ms (marks_of table) issued) (sym members) (subst (λ (g : Nodes FileBlocks). AreMarks g s.members (marks_of table) issued) (λ i q. sym (nodes q) i) stands.marks);
  top = subst (λ (ms : List (Member FileBlocks)). IsTop ms (marks_of table) root_id) (sym members) stands.top;
  ids_issued = subst (λ (ms : List (Member FileBlocks)). (m : Member FileBlocks) → Contains ms m → m.snapshot.0 ≤ issued) (sym members) stands.ids_issued;
}

-- ---- the steps

module _ (t : Tabled) (snaps : Snapshots) (state : State FileBlocks) (above : Names) (name : List ℕ) (chain : List InodeId) (parent old : Node FileBlocks)
    (before : StandsFor t snaps state) (reach : Reaches state above chain parent) (room : HasRoom state.tree (child above name)) (there : node_at state.tree (child above name) ≡ Some old) where
  abbrev issued : ℕ
  issued = snaps.issued.0

  abbrev tick : ℕ
  tick = state.tick + 1

  abbrev path : Names
  path = child above name

  abbrev id : InodeId
  id = record { 0 = state.next_inode }

  abbrev number : ℕ
  number = need_at state t.rows (way_to parent chain)

  abbrev t1 : Tabled
  t1 = tables.unlinked state (way_to parent chain) name t

  abbrev gone : State FileBlocks
  gone = removed state path

  known : Before t state issued
  known = before-of t snaps state before

  -- nothing stands below the file

  nothing-below : (n : List ℕ) (rest : Names) → node_at state.tree (path ++ n ∷ rest) ≡ None
  nothing-below n rest = by (node_at state.tree (path ++ n ∷ rest)) refl
    where
      by : (o : Option (Node FileBlocks)) → node_at state.tree (path ++ n ∷ rest) ≡ o → node_at state.tree (path ++ n ∷ rest) ≡ None
      by None e = e
      by (Some x) e =
          let tree = live_tree state before.valid in
          let up = there_above (shapes state.tree) state.next_inode tree (child path n) rest (shape x) (ap (λ (p : Names). shapes state.tree p) (append_assoc path (n ∷ []) rest) ∙ ap (option_map shape) e) in
          absurd (true_false (sym (dir_shape (node_at state.tree path)) ∙ tree.above path n up.0 up.1) room.free)

  -- ---- the tree without the file

  shorter : (rest : Names) → above ≢ path ++ rest
  shorter rest e = nothing (append_cancel_left above [] (name ∷ rest) (append-nil above ∙ e ∙ append_assoc above (name ∷ []) rest))
    where
      nothing : [] ≡ name ∷ rest → ⊥
      nothing h = cc

  gone-tree : (q : Names) → node_at gone.tree q ≡ node_at (stamped (without state.tree path) above tick) q
  gone-tree q = ap (λ (p : Names). node_at (stamped (without state.tree path) p tick) q) (parent_of-last above name)

  gone-ids : (q : Names) → id_of (node_at gone.tree q) ≡ id_of (node_at (without state.tree path) q)
  gone-ids q = stamp-id (without state.tree path) (parent_of path) tick q

  nodes-gone : IsNodes (node_at gone.tree)
  nodes-gone = nodes-alike (node_at (without state.tree path)) (node_at gone.tree) gone-ids
      (nodes-cut (node_at state.tree) (node_at (without state.tree path)) path (without-gone state.tree path) (without-there state.tree path) known.nodes)

  left-there : node_at (without state.tree path) above ≡ Some parent
  left-there = without-there state.tree path above shorter ∙ reach.at

  parent-gone : node_at gone.tree above ≡ Some (record parent { stamp = tick })
  parent-gone = gone-tree above ∙ node_at-stamped (without state.tree path) above parent tick left-there

  free-gone : node_at gone.tree path ≡ None
  free-gone = by (node_at gone.tree path) refl
    where
      by : (o : Option (Node FileBlocks)) → node_at gone.tree path ≡ o → node_at gone.tree path ≡ None
      by None e = e
      by (Some x) e = absurd (none_some (sym (ap id_of (ap (node_at (without state.tree path)) (sym (append-nil path)) ∙ without-gone state.tree path [])) ∙ sym (gone-ids path) ∙ ap id_of e))

  left-has : (y : InodeId) → Has (node_at gone.tree) y → Has (node_at state.tree) y
  left-has y h = let k = has-alike (node_at (without state.tree path)) (node_at gone.tree) gone-ids y h in record {
    at = k.at;
    node = k.node;
    is = by_under k.at path (λ rest e. absurd (none_some (sym (without-gone state.tree path rest) ∙ ap (node_at (without state.tree path)) (sym e) ∙ k.is))) (λ apart. sym (without-there state.tree path k.at apart) ∙ k.is);
    named = k.named;
  }

  chain-gone : IsChain (node_at gone.tree) above chain
  chain-gone = chain-on (node_at state.tree) (node_at gone.tree) above chain
      (λ q rest e. gone-ids q ∙ ap id_of (without-there state.tree path q (λ r d. shorter (r ++ rest) (sym e ∙ ap (λ (p : Names). p ++ rest) d ∙ append_assoc path r rest)))) reach.leads

  -- ---- the two trees are one

  same-trees : (node : Node FileBlocks) (q : Names) → node_at (with_node state path node).tree q ≡ node_at (with_node gone path node).tree q
  same-trees node q = by_same q path
      (λ e. ap (node_at (with_node state path node).tree) e ∙ put_here path node (stamped state.tree (parent_of path) tick) ∙ sym (ap (node_at (with_node gone path node).tree) e ∙ put_here path node (stamped gone.tree (parent_of path) tick)))
      (λ ne. put_there path node (stamped state.tree (parent_of path) tick) q ne ∙ ap (λ (p : Names). node_at (stamped state.tree p tick) q) (parent_of-last above name) ∙ other q ne
      ∙ sym (put_there path node (stamped gone.tree (parent_of path) tick) q ne ∙ ap (λ (p : Names). node_at (stamped gone.tree p tick) q) (parent_of-last above name)))
    where
      off : (q : Names) → q ≢ path → node_at (without state.tree path) q ≡ node_at state.tree q
      off q ne = by_under q path (below q ne) (without-there state.tree path q)
        where
          below : (q : Names) → q ≢ path → (rest : Names) → q ≡ path ++ rest → node_at (without state.tree path) q ≡ node_at state.tree q
          below q ne [] e = absurd (ne (e ∙ append-nil path))
          below q ne (n ∷ rest) e = ap (node_at (without state.tree path)) e ∙ without-gone state.tree path (n ∷ rest) ∙ sym (ap (node_at state.tree) e ∙ nothing-below n rest)

      other : (q : Names) → q ≢ path → node_at (stamped state.tree above tick) q ≡ node_at (stamped gone.tree above tick) q
      other q ne = by_same q above
          (λ e. ap (node_at (stamped state.tree above tick)) e ∙ node_at-stamped state.tree above parent tick reach.at
          ∙ sym (ap (node_at (stamped gone.tree above tick)) e ∙ node_at-stamped gone.tree above (record parent { stamp = tick }) tick parent-gone))
          (λ apart. node_at-stamped_other state.tree above tick q apart ∙ sym (node_at-stamped_other gone.tree above tick q apart ∙ gone-tree q ∙ node_at-stamped_other (without state.tree path) above tick q apart ∙ off q ne))

  -- ---- the rows

  out : Midway state.members issued tick 1 (old.id ∷ []) t1 × IsLoose t1.rows old.id
  out = unlinked t snaps state above name chain parent old before reach there

  row0 : LiveRow t.rows state above parent
  row0 = live-row t state issued above parent known reach.at

  fits_out : FitsRows (changes.Remove name) row0.row.rows
  fits_out = fits-remove old.id name row0.row.rows (row0.entries name ∙ ap id_of there)

  abbrev na : RowHistory
  na = changed_rows number tick (changes.Remove name) row0.row.rows

  changes1 : ChangesRow number tick (changes.Remove name) row0.row.rows na
  changes1 = changes-row number tick (changes.Remove name) row0.row.rows row0.sound fits_out

  step1 : Changed t.rows t1.rows parent.id number row0.row.rows na
  step1 = changed-row t parent.id number tick (changes.Remove name) row0.row row0.there fits_out row0.sound

  row1 : (r : RowState) × (row_at t1.rows parent.id ≡ Some r)
  row1 = row-there t1.rows parent.id na step1.here

  same1 : row1.0.rows ≡ na
  same1 = same_some (sym (ap (option_map (λ (r : RowState). r.rows)) row1.1) ∙ step1.here)

  sound1 : AreSound row1.0.rows
  sound1 = subst AreSound (sym same1) changes1.sound

  fits_in : FitsRows (changes.Add name id) row1.0.rows
  fits_in = subst (FitsRows (changes.Add name id)) (sym same1) (fits-add parent.id id name na
      (ap is_dir (changes1.shows.node parent.id) ∙ ap is_dir row0.shows ∙ parent-dir state.tree above name parent room reach.at)
      (ap (id_at name) changes1.shows.entries ∙ id_at-without_name name name (entries_in 0 row0.row.rows) ∙ ap (λ b. cond b None (id_at name (entries_in 0 row0.row.rows))) (same_name-refl name)))

  not_new : (other : InodeId) → Has (node_at state.tree) other → other ≢ id
  not_new other h e = new-live state before.valid id refl (subst (Has (node_at state.tree)) e h)

  parent-has : Has (node_at state.tree) parent.id
  parent-has = record { at = above; node = parent; is = reach.at; named = refl }

  again-number : last_in row1.0.rows ≡ last_after (last_in row0.row.rows) number
  again-number = ap last_in same1 ∙ changes1.last

  is-number : number ≡ need state.members (last_in row0.row.rows) (cover_at state t.rows chain)
  is-number = ap (λ (o : Option RowHistory). need state.members (last_number_of o) (cover_at state t.rows chain)) row0.rows

  -- ---- with a new row

  module _ (rows : RowHistory) where
    abbrev t2 : Tabled
    t2 = inserted id rows issued t1

    abbrev t3 : Tabled
    t3 = tables.replaced state issued (way_to parent chain) name id rows t

    there2 : row_at t2.rows parent.id ≡ Some row1.0
    there2 = put-there id parent.id (fresh_row rows issued) t1.rows (not_new parent.id parent-has) ∙ row1.1

    abbrev nb : RowHistory
    nb = changed_rows number tick (changes.Add name id) row1.0.rows

    changes3 : ChangesRow number tick (changes.Add name id) row1.0.rows nb
    changes3 = changes-row number tick (changes.Add name id) row1.0.rows sound1 fits_in

    step3 : Changed t2.rows t3.rows parent.id number row1.0.rows nb
    step3 = changed-row t2 parent.id number tick (changes.Add name id) row1.0 there2 fits_in sound1

    covers : cover (last_of state.members) (marks_of t2.rows) chain ≡ cover_at state t.rows chain
    covers = cover-same (node_at state.tree) (last_of state.members) (marks_of t2.rows) (marks_of t.rows) (λ y h. (inserted-step t1 id rows issued).marks y (not_new y h) ∙ step1.marks y) above chain reach.leads

    abbrev number3 : ℕ
    number3 = need state.members (last_in row1.0.rows) (cover (last_of state.members) (marks_of t2.rows) chain)

    same-last : last_after (last_in row1.0.rows) number ≡ last_after (last_in row1.0.rows) number3
    same-last = last-same (last_in row1.0.rows) number (subst (λ n. number ≤ n) (sym again-number) (reaches (last_in row0.row.rows) number)) ∙ sym (last-same (last_in row1.0.rows) number3
        (subst (λ c. need state.members (last_in row1.0.rows) c ≤ last_in row1.0.rows) (sym covers)
        (subst (λ n. need state.members n (cover_at state t.rows chain) ≤ n) (sym (again-number ∙ ap (last_after (last_in row0.row.rows)) is-number)) (no-need state.members (last_in row0.row.rows) (cover_at state t.rows chain)))))

    stands-made : (node : Node FileBlocks) → node.id ≡ id → node_in id 0 rows ≡ node → entries_in 0 rows ≡ [] → spot_in 0 rows ≡ record { parent = parent.id; name = name } → Stands t3.rows (with_node gone path node) issued
    stands-made node same shows entries spot = make-stands gone issued t1.rows t2.rows t3.rows above name (record parent { stamp = tick }) node rows row1.0.rows nb
        (subst (λ (i : InodeId). Inserts t1.rows t2.rows issued i rows) (sym same) (inserted-step t1 id rows issued)) (ap (λ (i : InodeId). node_in i 0 rows) same ∙ shows) entries spot
        (record { chain = chain; is_chain = chain-gone; at = parent-gone; step = at-number t2.rows t3.rows parent.id number number3 row1.0.rows nb same-last step3 })
        (record { node = changes3.shows.node; spot = changes3.shows.spot })
        (changes3.shows.entries ∙ ap (λ (i : InodeId). with_entry name i (entries_in 0 row1.0.rows)) (sym same)) free-gone
        (λ h. new-live state before.valid node.id (ap (λ (i : InodeId). i.0) same) (left-has node.id h)) (new-copied state before.valid node.id (ap (λ (i : InodeId). i.0) same)) nodes-gone
        (unlink-stands t state issued above chain parent old name known reach there)

    -- ---- records and names

    no_row : row_at t1.rows id ≡ None
    no_row = by (row_at t1.rows id) refl
      where
        by : (o : Option RowState) → row_at t1.rows id ≡ o → row_at t1.rows id ≡ None
        by None e = e
        by (Some row) e = absurd (let upto = ids-within t1.rows issued t.greatest out.0.within id row e in let next = before.next_inode in omega (arith, upto, next))

    came : IsBare rows → stamp_of rows ≡ tick → Midway state.members issued tick 2 (id ∷ old.id ∷ []) t2 × IsLoose t2.rows id
    came bare stamp = mid-insert state.members issued tick 1 (old.id ∷ []) t1 out.0 id rows no_row bare stamp (let next = before.next_inode in omega (arith, next)) (not_new root_id (root-there t snaps state before)) (omega arith)

    pub can-replace : IsBare rows → stamp_of rows ≡ tick → CanChange t2.rows parent.id (changes.Add name id)
    can-replace bare stamp = record { row = row1.0; there = there2; fits = fits_in; entry = (came bare stamp).1 }

    may : MayRecord state.members issued parent.id row1.0.rows number tick
    may = subst (λ (r : RowHistory). MayRecord state.members issued parent.id r number tick) (sym same1)
        (again-may state.members issued number tick parent.id (changes.Remove name) row0.row.rows (may-at t snaps state above chain parent row0.row.rows before reach row0.rows)).0

    entered : IsBare rows → stamp_of rows ≡ tick → IsLive (lists_of t3.rows) parent.id → Midway state.members issued tick 3 (old.id ∷ []) t3
    entered bare stamp live = mid-in state.members issued tick 2 (old.id ∷ []) t2 parent.id id number name (came bare stamp).0
        (record { row = row1.0; there = there2; fits = fits_in; entry = (came bare stamp).1 }) (λ e. not_new root_id (root-there t snaps state before) (sym e)) live may (omega arith)

    -- ---- the whole

    whole-replaced : (node : Node FileBlocks) (after : Tabled) (freed : Freed) → node.id ≡ id → node_in id 0 rows ≡ node → entries_in 0 rows ≡ [] → spot_in 0 rows ≡ record { parent = parent.id; name = name } → IsBare rows → stamp_of rows ≡ tick
        → IsValid (ticked (with_node state path node)) → Releasing t3 freed after → StandsFor after snaps (ticked (with_node state path node))
    whole-replaced node after freed same shows entries spot bare stamp valid going = ended-same t after snaps state next 3 before valid (record { members = refl; snapshottable = refl; next = refl }) refl
        (released-stands t3 (record after { waiting = freed.blocks }) going.gone next issued going.steps gives.live gives.copies gives.dirs stands)
        (mid-release state.members issued tick 3 (old.id ∷ []) t3 (entered bare stamp live) after freed going) (omega arith)
        (ap (λ n. n + 1) (greatest-released t3 (record after { waiting = freed.blocks }) going.gone going.steps))
      where
        next : State FileBlocks
        next = with_node state path node

        gives : GivesNodes (with_node state path node)
        gives = let g = from-valid (ticked (with_node state path node)) valid in record { live = g.live; copies = g.copies; dirs = g.dirs }

        stands : Stands t3.rows (with_node state path node) issued
        stands = stands-alike t3.rows (with_node gone path node) (with_node state path node) issued (same-trees node) refl (stands-made node same shows entries spot)

        live : IsLive (lists_of t3.rows) parent.id
        live = record {
          shown = shown t3.rows 0;
          nodes = node_at (with_node state path node).tree;
          alike = λ i. refl;
          is = gives.live;
          reads = stands.live;
          has = record {
            at = above;
            node = record parent { stamp = tick };
            is = put_there path node (stamped state.tree (parent_of path) tick) above (λ e. shorter [] (e ∙ sym (append-nil path)))
                ∙ ap (λ (p : Names). node_at (stamped state.tree p tick) above) (parent_of-last above name) ∙ node_at-stamped state.tree above parent tick reach.at;
            named = refl;
          };
        }

pub may-over : (files : Files FileBlocks) (t : Tabled) (snaps : Snapshots) (state : State FileBlocks) (text : List ℕ) (over : Bool) (above : Names) (name : List ℕ) (chain : List InodeId) (parent old : Node FileBlocks)
    → StandsFor t snaps state → create_at state text over ≡ Ok (child above name) → Reaches state above chain parent → node_at state.tree (child above name) ≡ Some old
    → MayReplace t state snaps.issued.0 (way_to parent chain) (record { 0 = state.next_inode }) name (tables.file_rows (record { parent = parent.id; name = name }) files.empty (state.tick + 1))
may-over files t snaps state text over above name chain parent old before asked reach there = record {
  out = can-unlink t snaps state above name chain parent old before reach there;
  make = record {
    above = let next = before.next_inode in omega (arith, next);
    bare = refl;
    entry = can-replace t snaps state above name chain parent old before reach (create_room state text over (child above name) asked) there (tables.file_rows (record { parent = parent.id; name = name }) files.empty (state.tick + 1)) refl refl;
  };
}

pub whole-over : (files : Files FileBlocks) (t after : Tabled) (freed : Freed) (snaps : Snapshots) (state : State FileBlocks) (text : List ℕ) (over : Bool) (above : Names) (name : List ℕ) (chain : List InodeId) (parent old : Node FileBlocks)
    → StandsFor t snaps state → create_at state text over ≡ Ok (child above name) → Reaches state above chain parent → node_at state.tree (child above name) ≡ Some old
    → Releasing (over_file_table files state snaps.issued.0 parent chain name t) freed after
    → StandsFor after snaps (ticked (change files state (calls.Create text over)))
whole-over files t after freed snaps state text over above name chain parent old before asked reach there going = subst (λ (s : State FileBlocks). StandsFor after snaps (ticked s)) (sym is)
    (whole-replaced t snaps state above name chain parent old before reach (create_room state text over (child above name) asked) there (tables.file_rows (record { parent = parent.id; name = name }) files.empty (state.tick + 1))
    (new_file files state.next_inode (state.tick + 1)) after freed refl refl refl refl refl refl
    (subst (λ (s : State FileBlocks). IsValid (ticked s)) is (valid-change state before.valid files (calls.Create text over))) going)
  where
    is : change files state (calls.Create text over) ≡ with_node state (child above name) (new_file files state.next_inode (state.tick + 1))
    is = ap (if_asked (made_file files state) state) asked

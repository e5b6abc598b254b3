-- The walk over the rows gives the lines of the tree that they are read as.
use Rattle.std.proofs.Common.{◌≡◌, inl, inr, ℕ, zero, suc, ◌+◌, ◌-◌, ◌≤◌, true, false, List, [], ◌∷◌, ◌++◌, map, length, length-append, Option, Some, None, refl, sym, ap, subst, ◌∙◌, append_assoc, append-nil, reverse, nat_eq, arith}
use Rattle.std.specs.Prelude.{not, slice_get, ◌==◌}
use Rattle.std.specs.List.{AllByRecursion, IsDistinct, list_any, flat_map, filter_map, cons_option}
use Rattle.std.specs.Option.{option_map}
use Rattle.std.specs.FinMap.Entries.{is_sorted}
use Rattle.std.proofs.lemmas.Grind.{flat_map-append}
use Rattle.std.proofs.lemmas.List.{map-append, length-map, reverse-append, reverse-reverse}
use Rattle.std.proofs.lemmas.Bool.Decides.{Decides-eqb}
use Rattle.std.proofs.lemmas.Map.Steps.{length-le_from_distinct_below}
use Rattle.hs_types.specs.Names.{Names}
use Rattle.hs_types.specs.declared.ids.InodeId.{InodeId}
use Rattle.hs_types.specs.declared.reply.Item.{Item}
use Rattle.hs_types.specs.declared.shown.TreeLine.{TreeLine}
use Rattle.hs_plain.specs.declared.state.Node.{Node}
use Rattle.hs_plain.specs.declared.state.State.{State}
use Rattle.hs_plain.specs.declared.state.FileBlocks.{FileBlocks}
use Rattle.hs_plain.specs.Lines.{tree_line, lines_of, tree_lines}
use Rattle.hs_plain.specs.Tree.{Tree, path_cmp, node_at, listing, name_below, named_item, child_count}
use Rattle.hs_plain.specs.Valid.{all_differ}
use Rattle.hs_plain.specs.Viewed as viewed
use Rattle.hs_plain.proofs.ValidHeld.{in-tree, found_place, below_so}
use Rattle.hs_plain.proofs.ValidLists.{In, by_append, neither_first, neither_second, not_so, map_so, any_so, filter_map_so}
use Rattle.hs_plain.proofs.ValidShapes.{none_some, same_some}
use Rattle.hs_plain.proofs.ValidTrees.{first, second}
use Rattle.dir_changes.specs.Entries.{Entry, in_order}
use Rattle.dir_changes.specs.History.{DirHistory}
use Rattle.snapshot_manager.specs.Snapshots.{Snapshots}
use Rattle.inode_table.specs.Listed.{entry_of}
use Rattle.inode_table.specs.Reads.{ReadsAs, IsNodes}
use Rattle.inode_table.specs.RowHistory.{Table, RowHistory, File, Dir, rows_at, shown, node_in, entries_in, entries_of}
use Rattle.inode_table.specs.Stands.{root_id}
use Rattle.inode_table.specs.Tabled.{Tabled}
use Rattle.inode_table.specs.Whole.{StandsFor}
use Rattle.inode_table.proofs.Covers.{some_id}
use Rattle.inode_table.proofs.Giving.{from-valid}
use Rattle.inode_table.proofs.Listing.{reads-listed}
use Rattle.dir_changes.specs.Sound.{IsSound}
use Rattle.dir_changes.proofs.OrderLaws.{in_order-children_at}
use Rattle.namenode_write.specs.RowLines.{lines_at, child_line, below_in, below_at, walked, root_line}
use Rattle.namenode_write.specs.declared.rows.lines.Pending.{Pending}
use Rattle.namenode_write.proofs.Shown.{lines_stand}
use Rattle.namenode_write.proofs.Preorder.{part, names_below, part-is, below_is}

-- ---- places and their lines

abbrev Place : Type 0
Place = Names × Node FileBlocks

-- what waits for the line of a place
abbrev pending : Place → Pending
pending place = record { depth = length place.0; name = slice_get place.0 (length place.0 - 1); id = place.1.id }

abbrev item_line : ℕ → Item → Pending
item_line depth item = record { depth = depth; name = Some item.name; id = item.id }

last-of : (p : Names) (name : List ℕ) → slice_get (p ++ name ∷ []) (length (p ++ name ∷ []) - 1) ≡ Some name
last-of [] name = refl
last-of (a ∷ p) name =
    let len : length (p ++ name ∷ []) ≡ length p + 1 = length-append p (name ∷ []) in
    ap (slice_get (a ∷ (p ++ name ∷ []))) {x = length (a ∷ (p ++ name ∷ [])) - 1} {y = suc (length (p ++ name ∷ []) - 1)} (omega arith)
    ∙ last-of p name

-- the places right below a path
abbrev kid_if : Place → Option (List ℕ) → Option Place
kid_if place None = None
kid_if place (Some name) = Some place

abbrev kids : Tree FileBlocks → Names → Tree FileBlocks
kids tree p = filter_map (λ place. kid_if place (name_below p place.0)) tree

kids-pending : (p : Names) (tree : Tree FileBlocks) → map pending (kids tree p) ≡ map (item_line (length p + 1)) (listing tree p)
kids-pending p [] = refl
kids-pending p (x ∷ tree) = by (name_below p x.0) refl (kids-pending p tree)
  where
    by : (o : Option (List ℕ)) → name_below p x.0 ≡ o → map pending (kids tree p) ≡ map (item_line (length p + 1)) (listing tree p)
        → map pending (cons_option (kid_if x o) (kids tree p)) ≡ map (item_line (length p + 1)) (cons_option (named_item x.1 o) (listing tree p))
    by None e rest = rest
    by (Some name) e rest = λ i. one i ∷ rest i
      where
        path : x.0 ≡ p ++ name ∷ []
        path = below_is p x.0 name e

        one : pending x ≡ item_line (length p + 1) (record { name = name; id = x.1.id; is_dir = true })
        one = ap (λ (q : Names). record { depth = length q; name = slice_get q (length q - 1); id = x.1.id }) path
            ∙ (λ i. record { depth = length-append p (name ∷ []) i; name = last-of p name i; id = x.1.id })

kids-parts : (whole : Tree FileBlocks) (p : Names) (tree : Tree FileBlocks) → flat_map (λ name. part whole (p ++ name ∷ [])) (names_below tree p) ≡ flat_map (λ place. part whole place.0) (kids tree p)
kids-parts whole p [] = refl
kids-parts whole p (x ∷ tree) = by (name_below p x.0) refl (kids-parts whole p tree)
  where
    by : (o : Option (List ℕ)) → name_below p x.0 ≡ o → flat_map (λ name. part whole (p ++ name ∷ [])) (names_below tree p) ≡ flat_map (λ place. part whole place.0) (kids tree p)
        → flat_map (λ name. part whole (p ++ name ∷ [])) (cons_option o (names_below tree p)) ≡ flat_map (λ place. part whole place.0) (cons_option (kid_if x o) (kids tree p))
    by None e rest = rest
    by (Some name) e rest = λ i. part whole (sym (below_is p x.0 name e) i) ++ rest i

kids-in : (p : Names) (tree : Tree FileBlocks) (y : Place) → In (kids tree p) y → In tree y
kids-in p tree y at = let w = filter_map_so (λ place. kid_if place (name_below p place.0)) tree y at in by w.0 w.1 (name_below p w.0.0) w.2
  where
    by : (x : Place) → In tree x → (o : Option (List ℕ)) → kid_if x o ≡ Some y → In tree y
    by x inx None e = absurd (none_some e)
    by x inx (Some name) e = subst (In tree) (same_some e) inx

-- ---- steps of the walk

module _ (table : Table) (n : ℕ) (lines done : List TreeLine) (old rest new : List Pending) (next : Pending) (popped : old ≡ rest ++ next ∷ [])
    (pushed : new ≡ rest ++ reverse (below_at next.depth (rows_at table next.id))) (added : done ≡ lines ++ lines_at next (rows_at table next.id)) where
  pub walk-step : done ++ walked table n (reverse new) ≡ lines ++ walked table (n + 1) (reverse old)
  walk-step =
      let below = below_at next.depth (rows_at table next.id) in
      let turned : reverse new ≡ below ++ reverse rest = ap reverse pushed ∙ reverse-append rest (reverse below) ∙ ap (λ (list : List Pending). list ++ reverse rest) (reverse-reverse below) in
      let top : reverse old ≡ next ∷ reverse rest = ap reverse popped ∙ reverse-append rest (next ∷ []) in
      (λ i. added i ++ walked table n (turned i))
      ∙ append_assoc lines (lines_at next (rows_at table next.id)) (walked table n (below ++ reverse rest))
      ∙ ap (λ k. lines ++ walked table k (next ∷ reverse rest)) {x = suc n} {y = n + 1} (omega arith)
      ∙ ap (λ (list : List Pending). lines ++ walked table (n + 1) list) (sym top)

  pub walk-last : n ≡ 0 → done ≡ lines ++ walked table (n + 1) (reverse old)
  walk-last none = sym (ap (λ k. done ++ walked table k (reverse new)) none ∙ append-nil done) ∙ walk-step

pub walk-done : (table : Table) (n : ℕ) (lines : List TreeLine) (old rest : List Pending) → old ≡ rest ++ [] → rest ≡ [] → lines ≡ lines ++ walked table (n + 1) (reverse old)
walk-done table n lines old rest same none =
    sym (ap (λ (list : List Pending). lines ++ walked table (n + 1) (reverse list)) (same ∙ append-nil rest ∙ none)
    ∙ ap (λ k. lines ++ walked table k []) {x = n + 1} {y = suc n} (omega arith)
    ∙ append-nil lines)

-- ---- the walk

module _ (table : Table) (sound : (id : InodeId) (dir : DirHistory) → rows_at table id ≡ Some (Dir dir) → IsSound dir)
    (tree : Tree FileBlocks) (sorted : is_sorted path_cmp tree ≡ true) (is : IsNodes (node_at tree)) (reads : ReadsAs (shown table 0) root_id (node_at tree)) where
  entries-pending : (depth : ℕ) (items : List Item) → map (child_line depth) (map entry_of items) ≡ map (item_line depth) items
  entries-pending depth [] = refl
  entries-pending depth (item ∷ items) = ap (λ (rest : List Pending). item_line depth item ∷ rest) (entries-pending depth items)

  record Visited (place : Place) : Type 0 where
    line : lines_at (pending place) (rows_at table place.1.id) ≡ tree_line (λ file. file.size) tree place ∷ []
    below : below_at (length place.0) (rows_at table place.1.id) ≡ map pending (kids tree place.0)

  -- the entries of a node's row are its children's
  listed : (p : Names) (n : Node FileBlocks) → node_at tree p ≡ Some n → (rows : RowHistory) → rows_at table n.id ≡ Some rows → entries_in 0 rows ≡ map entry_of (listing tree p)
  listed p n at rows e = sym entries ∙ reads-listed (shown table 0) root_id tree p n sorted reads at (ap (λ (es : List Entry). in_order es) entries ∙ ordered rows e)
    where
      entries : (shown table 0).entries n.id ≡ entries_in 0 rows
      entries = ap (entries_of 0) e

      ordered : (rows : RowHistory) → rows_at table n.id ≡ Some rows → in_order (entries_in 0 rows) ≡ true
      ordered (File file) e = refl
      ordered (Dir dir) e = in_order-children_at dir (sound n.id dir e) 0

  below-entries : (depth : ℕ) (rows : RowHistory) → below_in depth rows ≡ map (child_line (depth + 1)) (entries_in 0 rows)
  below-entries depth (File file) = refl
  below-entries depth (Dir dir) = refl

  visited : (p : Names) (n : Node FileBlocks) → node_at tree p ≡ Some n → Visited (p, n)
  visited p n at = by (rows_at table n.id) refl (reads.node p n at)
    where
      below : (rows : RowHistory) → rows_at table n.id ≡ Some rows → below_at (length p) (rows_at table n.id) ≡ map pending (kids tree p)
      below rows e =
          ap (below_at (length p)) e ∙ below-entries (length p) rows ∙ ap (map (child_line (length p + 1))) (listed p n at rows e)
          ∙ entries-pending (length p + 1) (listing tree p) ∙ sym (kids-pending p tree)

      count : (rows : RowHistory) → rows_at table n.id ≡ Some rows → length (entries_in 0 rows) ≡ child_count tree p
      count rows e = ap length (listed p n at rows e) ∙ length-map (listing tree p) entry_of

      by : (o : Option RowHistory) → rows_at table n.id ≡ o → option_map (node_in n.id 0) o ≡ Some n → Visited (p, n)
      by None e shows = absurd (none_some shows)
      by (Some (File file)) e shows = record {
        line = ap (lines_at (pending (p, n))) e ∙ ap (λ (m : Node FileBlocks). tree_line (λ file. file.size) tree (p, m) ∷ []) (same_some shows);
        below = below (File file) e;
      }
      by (Some (Dir dir)) e shows = record {
        line = ap (lines_at (pending (p, n))) e
            ∙ ap (λ k. record { depth = length p; id = n.id; is_dir = true; mode = dir.marks.mode; stamp = dir.marks.stamp; size = k; name = slice_get p (length p - 1) } ∷ []) (count (Dir dir) e)
            ∙ ap (λ (m : Node FileBlocks). tree_line (λ file. file.size) tree (p, m) ∷ []) (same_some shows);
        below = below (Dir dir) e;
      }

  abbrev parts : Tree FileBlocks → Tree FileBlocks
  parts places = flat_map (λ place. part tree place.0) places

  part-first : (p : Names) (n : Node FileBlocks) → node_at tree p ≡ Some n → part tree p ≡ (p, n) ∷ parts (kids tree p)
  part-first p n at = part-is tree sorted (λ q x name h. is.above q x name h) p n at ∙ ap (λ (rest : Tree FileBlocks). (p, n) ∷ rest) (kids-parts tree p tree)

  abbrev line : Place → TreeLine
  line place = tree_line (λ file. file.size) tree place

  walk-lines : (m : ℕ) (places : Tree FileBlocks) → ((x : Place) → In places x → In tree x) → length (parts places) ≤ m → walked table m (map pending places) ≡ map line (parts places)
  walk-lines zero [] all few = refl
  walk-lines (suc m) [] all few = refl
  walk-lines zero (x ∷ places) all few =
      let whole = part-first x.0 x.1 (found_place tree sorted x (all x (inl refl))) in
      let count : length (parts (x ∷ places)) ≡ suc (length (parts (kids tree x.0) ++ parts places)) = ap (λ (ys : Tree FileBlocks). length (ys ++ parts places)) whole in
      absurd (omega (arith, count, few))
  walk-lines (suc m) (x ∷ places) all few =
      let at : node_at tree x.0 ≡ Some x.1 = found_place tree sorted x (all x (inl refl)) in
      let v = visited x.0 x.1 at in
      let whole = part-first x.0 x.1 at in
      let both : parts (kids tree x.0 ++ places) ≡ parts (kids tree x.0) ++ parts places = flat_map-append (λ (place : Place). part tree place.0) (kids tree x.0) places in
      let count : length (parts (x ∷ places)) ≡ suc (length (parts (kids tree x.0) ++ parts places)) = ap (λ (ys : Tree FileBlocks). length (ys ++ parts places)) whole in
      let less : length (parts (kids tree x.0 ++ places)) ≡ length (parts (kids tree x.0) ++ parts places) = ap length both in
      let rest : walked table m (map pending (kids tree x.0 ++ places)) ≡ map line (parts (kids tree x.0 ++ places)) =
      walk-lines m (kids tree x.0 ++ places) (λ y iny. by_append (kids tree x.0) places y iny (kids-in x.0 tree y) (λ later. all y (inr later))) (omega (arith, few, count, less)) in
      (λ i. v.line i ++ walked table m (v.below i ++ map pending places))
      ∙ ap (λ (next : List Pending). line x ∷ walked table m next) (sym (map-append pending (kids tree x.0) places))
      ∙ ap (λ (lines : List TreeLine). line x ∷ lines) (rest ∙ ap (map line) both)
      ∙ sym (ap (λ (ys : Tree FileBlocks). map line (ys ++ parts places)) whole)

  all-under : (places : Tree FileBlocks) → part places [] ≡ places
  all-under [] = refl
  all-under (x ∷ places) = ap (λ (rest : Tree FileBlocks). x ∷ rest) (all-under places)

  -- from the root on
  pub root-lines : (m : ℕ) → length tree ≤ m → walked table m (root_line ∷ []) ≡ lines_of (λ file. file.size) tree
  root-lines m few =
      let root = some_id (node_at tree []) root_id reads.root in
      let one : parts (([], root.0) ∷ []) ≡ tree = append-nil (part tree []) ∙ all-under tree in
      ap (λ (id : InodeId). walked table m (record { depth = 0; name = None; id = id } ∷ [])) (sym root.2)
      ∙ walk-lines m (([], root.0) ∷ []) only (let same = ap length one in omega (arith, few, same))
      ∙ ap (map line) one
    where
      only : (x : Place) → In (([], (some_id (node_at tree []) root_id reads.root).0) ∷ []) x → In tree x
      only x (inl e) = subst (In tree) e (in-tree tree [] (some_id (node_at tree []) root_id reads.root).0 (some_id (node_at tree []) root_id reads.root).1)
      only x (inr none) = absurd none

-- ---- how many nodes there are

apart-all : (n : ℕ) (others : List ℕ) → list_any (λ other. n == other) others ≡ false → AllByRecursion (λ m. nat_eq n m ≡ false) others
apart-all n [] none = tt
apart-all n (m ∷ others) none = (neither_first (n == m) _ none, apart-all n others (neither_second (n == m) _ none))

pub distinct-from : (ids : List ℕ) → all_differ ids ≡ true → IsDistinct nat_eq ids
unfolding IsDistinct
distinct-from [] h = tt
distinct-from (n ∷ ids) h = (apart-all n ids (not_so _ (first (not (list_any (λ other. n == other) ids)) _ h)), distinct-from ids (second (not (list_any (λ other. n == other) ids)) _ h))

module _ (table : Tabled) (snaps : Snapshots) (state : State FileBlocks) (all : StandsFor table snaps state) where
  pub few-nodes : length state.tree ≤ table.greatest + 1
  few-nodes =
      let number : Place → ℕ = λ place. place.1.id.0 in
      let ids : List ℕ = map number state.tree in
      let len : length ids ≡ length state.tree = length-map state.tree number in
      let few : length ids ≤ table.greatest + 1 = length-le_from_distinct_below ids (table.greatest + 1) (distinct-from ids all.valid.each_once)
      (λ k h. let w = any_so (nat_eq k) ids h in let p = map_so number state.tree w.0 w.1 in
      let same : k ≡ p.0.1.id.0 = (Decides-eqb k w.0).0 w.2 ∙ sym p.2 in
      let less = below_so state all.valid p.0.1 (inl (p.0.0, found_place state.tree all.valid.sorted p.0 p.1)) in
      let next : table.greatest + 1 ≡ state.next_inode = all.next_inode in
      omega (arith, same, less, next)) in
      omega (arith, len, few)

  pub lines-told : (plain : State (List ℕ)) → viewed.StandsFor state plain → walked table.rows (table.greatest + 1) (root_line ∷ []) ≡ tree_lines plain
  lines-told plain sized = root-lines table.rows all.records.undoable state.tree all.valid.sorted (from-valid state all.valid).live all.stands.live (table.greatest + 1) few-nodes ∙ lines_stand state plain sized

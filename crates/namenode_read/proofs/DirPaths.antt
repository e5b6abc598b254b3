-- The snapshottable directories by their paths are those of the tree, in its order.
use Rattle.std.proofs.Common.{◌≡◌, ◌⊎◌, inl, inr, ℕ, Bool, true, false, cond, List, [], ◌∷◌, map, length, filter, Option, Some, None, refl, sym, ap, subst, ◌∙◌, ◌&&◌, arith}
use Rattle.std.specs.Prelude.{is_some, nat_lt, slice_get}
use Rattle.std.specs.List.{filter_map}
use Rattle.std.specs.List.{find as find_in}
use Rattle.std.proofs.lemmas.Bool.Decides.{nat_tests}
use Rattle.std.specs.Option.{option_map}
use Rattle.std.specs.BTreeMap.{insert_entry}
use Rattle.std.specs.Ordering.{is_lt, eq_by_cmp, match_ordering}
use Rattle.std.specs.declared.cmp.Ordering.TheVariants.{Less, Equal, Greater}
use Rattle.std.specs.declared.vec.Vec.{Vec}
use Rattle.std.specs.FinMap.Entries.{find, put, by_order, is_sorted, below_all, is_sorted-put, find-put, same_entries}
use Rattle.hs_types.specs.Names.{Names}
use Rattle.hs_types.specs.declared.ids.InodeId.{InodeId}
use Rattle.hs_types.specs.declared.reply.DirItem.{DirItem}
use Rattle.hs_plain.specs.declared.state.Node.{Node}
use Rattle.hs_plain.specs.declared.state.State.{State}
use Rattle.hs_plain.specs.declared.state.FileBlocks.{FileBlocks}
use Rattle.hs_plain.specs.Tree.{Tree, path_cmp, node_at}
use Rattle.hs_plain.specs.State.{is_snapshottable, snapshots_of}
use Rattle.hs_plain.specs.Reading.{dir_item}
use Rattle.hs_plain.proofs.ValidHeld.{in-tree, found_place}
use Rattle.hs_plain.proofs.ValidLists.{In, by_test, in-filter, filter_so, in-map, map_so}
use Rattle.hs_plain.proofs.ValidShapes.{none_some, same_some, true_false, same-itself, other-test}
use Rattle.hs_plain.proofs.ValidTrees.{both, first, second, paths_total, paths_exact, holds_so, is_so}
use Rattle.snapshot_manager.specs.Snapshots.{Snapshots, Directory, IsRising, snaps_of, snaps_in}
use Rattle.inode_table.specs.Reads.{id_of}
use Rattle.inode_table.specs.Stands.{root_id}
use Rattle.inode_table.specs.Tabled.{Tabled}
use Rattle.inode_table.specs.Whole.{StandsFor}
use Rattle.inode_table.proofs.Reading.{by_id}
use Rattle.inode_table.proofs.Covers.{some_id}
use Rattle.path_resolver.specs.Rising.{way_down}
use Rattle.path_resolver.proofs.Climbs.{way-leads, way-finds}
use Rattle.path_resolver.proofs.Holds.{entry-some, some-entry}
use Rattle.namenode_read.specs.Directories.{dirs_from, keyed_one, keyed, DirPlace, as_dir, put_at, with_dir, with_dirs, dirs_found}
use Rattle.path_resolver.proofs.Later.{later, all_later, first_later, none_later}
use Rattle.paged_listing.proofs.Trees.{live_is}
use Rattle.namenode_read.proofs.Stats.{count_snaps}

-- ---- directories by rising ids

abbrev number : Directory → ℕ
number d = d.0.0

pub dirs-first : (ds : List Directory) → IsRising (map number ds) → dirs_from (option_map (λ d. d.0) (slice_get ds 0)) ds ≡ map (λ d. d.0) ds
dirs-first [] rise = refl
dirs-first (d ∷ ds) rise =
    let none : nat_lt d.0.0 d.0.0 ≡ false = grind (arith, nat_tests) in
    ap (λ (rest : List Directory). d.0 ∷ map (λ (x : Directory). x.0) rest) (ap (λ b. cond b (d ∷ later number d.0.0 ds) (later number d.0.0 ds)) none ∙ all_later number d.0.0 d.0.0 ds (omega arith) rise.0)

pub dirs-next : (ds : List Directory) (next after : Option InodeId) (id : InodeId) → IsRising (map number ds) → next ≡ Some id → after ≡ option_map (λ d. d.0) (find_in (λ d. nat_lt id.0 d.0.0) ds) → dirs_from next ds ≡ id ∷ dirs_from after ds
dirs-next ds next after id rise is found = ap (λ o. dirs_from o ds) is ∙ by (find_in (λ d. nat_lt id.0 d.0.0) ds) refl ∙ sym (ap (λ o. id ∷ dirs_from o ds) found)
  where
    by : (o : Option Directory) → find_in (λ d. nat_lt id.0 d.0.0) ds ≡ o → id ∷ map (λ (x : Directory). x.0) (later number id.0 ds) ≡ id ∷ dirs_from (option_map (λ d. d.0) o) ds
    by None e = ap (λ (rest : List Directory). id ∷ map (λ (x : Directory). x.0) rest) (none_later number id.0 ds e)
    by (Some d) e = ap (λ (rest : List Directory). id ∷ map (λ (x : Directory). x.0) rest) (first_later number id.0 ds d rise e)

-- ---- maps whose keys are paths

pub put-keyed : {A V : Type 0} (es : List (Vec (List ℕ) A × V)) (k : Vec (List ℕ) A) (v : V) → keyed (insert_entry (λ a b. path_cmp a.items b.items) es k v) ≡ put path_cmp k.items v (keyed es)
put-keyed [] k v = refl
put-keyed (e ∷ es) k v = elim (path_cmp k.items e.0.items) as (λ o. keyed (match_ordering o ((k, v) ∷ e ∷ es) ((e.0, v) ∷ es) (e ∷ insert_entry (λ a b. path_cmp a.items b.items) es k v)) ≡ by_order o ((k.items, v) ∷ keyed (e ∷ es)) ((e.0.items, v) ∷ keyed es) (keyed_one e ∷ put path_cmp k.items v (keyed es))) [
  | Less ↦ refl
  | Equal ↦ refl
  | Greater ↦ ap (λ rest. keyed_one e ∷ rest) (put-keyed es k v)
]

-- ---- places of a tree

module _ (p : Names × Node FileBlocks → Bool) where
  below-kept : (k : Names) (t : Tree FileBlocks) → below_all path_cmp k t ≡ true → below_all path_cmp k (filter p t) ≡ true
  below-kept k [] h = refl
  below-kept k (y ∷ t) h = let rest = below-kept k t (second (is_lt (path_cmp k y.0)) _ h) in elim (p y) as (λ b. below_all path_cmp k (cond b (y ∷ filter p t) (filter p t)) ≡ true) [ true ↦ both (first (is_lt (path_cmp k y.0)) _ h) rest | false ↦ rest ]

  sorted-kept : (t : Tree FileBlocks) → is_sorted path_cmp t ≡ true → is_sorted path_cmp (filter p t) ≡ true
  sorted-kept [] h = refl
  sorted-kept (y ∷ t) h = let rest = sorted-kept t (second (below_all path_cmp y.0 t) _ h) in elim (p y) as (λ b. is_sorted path_cmp (cond b (y ∷ filter p t) (filter p t)) ≡ true) [ true ↦ both (below-kept y.0 t (first (below_all path_cmp y.0 t) _ h)) rest | false ↦ rest ]

  -- a place that passes is found among those that do, and no other
  kept-there : (t : Tree FileBlocks) → is_sorted path_cmp t ≡ true → (q : Names) (n : Node FileBlocks) → node_at t q ≡ Some n → p (q, n) ≡ true → node_at (filter p t) q ≡ Some n
  kept-there t sorted q n at passes = found_place (filter p t) (sorted-kept t sorted) (q, n) (in-filter p t (q, n) (in-tree t q n at) passes)

  kept-so : (t : Tree FileBlocks) → is_sorted path_cmp t ≡ true → (q : Names) (n : Node FileBlocks) → node_at (filter p t) q ≡ Some n → (node_at t q ≡ Some n) × (p (q, n) ≡ true)
  kept-so t sorted q n at = let w = filter_so p t (q, n) (in-tree (filter p t) q n at) in (found_place t sorted (q, n) w.0, w.1)

module _ (f : Node FileBlocks → InodeId × ℕ) where
  abbrev placed : Names × Node FileBlocks → DirPlace
  placed place = (place.0, f place.1)

  below-placed : (k : Names) (t : Tree FileBlocks) → below_all path_cmp k (map placed t) ≡ below_all path_cmp k t
  below-placed k [] = refl
  below-placed k (y ∷ t) = ap (λ b. is_lt (path_cmp k y.0) && b) (below-placed k t)

  sorted-placed : (t : Tree FileBlocks) → is_sorted path_cmp (map placed t) ≡ is_sorted path_cmp t
  sorted-placed [] = refl
  sorted-placed (y ∷ t) = λ i. below-placed y.0 t i && sorted-placed t i

  found-placed : (q : Names) (t : Tree FileBlocks) → find path_cmp q (map placed t) ≡ option_map f (node_at t q)
  found-placed q [] = refl
  found-placed q (y ∷ t) = elim (eq_by_cmp path_cmp q y.0) as (λ b. cond b (Some (f y.1)) (find path_cmp q (map placed t)) ≡ option_map f (cond b (Some y.1) (node_at t q))) [ true ↦ refl | false ↦ found-placed q t ]

-- ---- the whole

module _ (table : Tabled) (snaps : Snapshots) (state : State FileBlocks) (all : StandsFor table snaps state) where
  abbrev way : InodeId → Option Names
  way id = way_down table 0 root_id id

  abbrev with_count : InodeId → InodeId × ℕ
  with_count id = (id, length (snaps_in snaps id))

  -- the directory at a path, and no other, has that path
  leads : (id : InodeId) (path : Names) → way id ≡ Some path → id_of (node_at state.tree path) ≡ Some id
  leads = way-leads table snaps state all 0 root_id (node_at state.tree) (live_is table snaps state all) all.stands.live

  finds : (path : Names) (n : Node FileBlocks) → node_at state.tree path ≡ Some n → way n.id ≡ Some path
  finds = way-finds table snaps state all 0 root_id (node_at state.tree) (live_is table snaps state all) all.stands.live

  put-sorted : (o : Option Names) (v : InodeId × ℕ) (es : List DirPlace) → is_sorted path_cmp es ≡ true → is_sorted path_cmp (put_at o v es) ≡ true
  put-sorted None v es h = h
  put-sorted (Some path) v es h = is_so _ (is_sorted-put path_cmp paths_total path v es (holds_so h))

  dirs-sorted : (ids : List InodeId) (es : List DirPlace) → is_sorted path_cmp es ≡ true → is_sorted path_cmp (with_dirs table snaps ids es) ≡ true
  dirs-sorted [] es h = h
  dirs-sorted (id ∷ ids) es h = dirs-sorted ids (with_dir table snaps id es) (put-sorted (way id) (with_count id) es h)

  module _ (q : Names) where
    put-here : (o : Option Names) (v : InodeId × ℕ) (es : List DirPlace) → o ≡ Some q → find path_cmp q (put_at o v es) ≡ Some v
    put-here None v es e = absurd (none_some e)
    put-here (Some path) v es e = find-put path_cmp paths_total q path v es ∙ ap (λ b. cond b (Some v) (find path_cmp q es)) (ap (eq_by_cmp path_cmp q) (same_some e) ∙ same-itself q)

    put-other : (o : Option Names) (v : InodeId × ℕ) (es : List DirPlace) → (o ≡ Some q → ⊥) → find path_cmp q (put_at o v es) ≡ find path_cmp q es
    put-other None v es other = refl
    put-other (Some path) v es other = find-put path_cmp paths_total q path v es ∙ ap (λ b. cond b (Some v) (find path_cmp q es)) (other-test q path (λ e. other (ap (λ (p : Names). Some p) (sym e))))

    none-there : (ids : List InodeId) (es : List DirPlace) → ((id : InodeId) → In ids id → way id ≡ Some q → ⊥) → find path_cmp q (with_dirs table snaps ids es) ≡ find path_cmp q es
    none-there [] es none = refl
    none-there (id ∷ ids) es none = none-there ids (with_dir table snaps id es) (λ other at. none other (inr at)) ∙ put-other (way id) (with_count id) es (none id (inl refl))

    one-there : (x : InodeId) → way x ≡ Some q → ((id : InodeId) → way id ≡ Some q → id ≡ x) → (ids : List InodeId) (es : List DirPlace) → (In ids x) ⊎ (find path_cmp q es ≡ Some (with_count x))
        → find path_cmp q (with_dirs table snaps ids es) ≡ Some (with_count x)
    one-there x is only [] es (inl none) = absurd none
    one-there x is only [] es (inr here) = here
    one-there x is only (id ∷ ids) es h = by_id id x
        (λ same. one-there x is only ids (with_dir table snaps id es) (inr (put-here (way id) (with_count id) es (ap way same ∙ is) ∙ ap (λ (i : InodeId). Some (with_count i)) same)))
        (λ other. one-there x is only ids (with_dir table snaps id es) (later other h))
      where
        later : (id ≡ x → ⊥) → (In (id ∷ ids) x) ⊎ (find path_cmp q es ≡ Some (with_count x)) → (In ids x) ⊎ (find path_cmp q (with_dir table snaps id es) ≡ Some (with_count x))
        later other (inl (inl same)) = absurd (other same)
        later other (inl (inr at)) = inl at
        later other (inr here) = inr (put-other (way id) (with_count id) es (λ e. other (only id e)) ∙ here)

  -- ---- which directories there are

  abbrev ids : List InodeId
  ids = map (λ (d : Directory). d.0) snaps.dirs

  listed-so : (id : InodeId) → In ids id → is_snapshottable state id ≡ true
  listed-so id at = let d = map_so (λ (d : Directory). d.0) snaps.dirs id at in all.snapshottable id ∙ ap (λ (i : InodeId). is_some (snaps_of snaps i)) (sym d.2) ∙ entry-some snaps.dirs d.0 d.1

  listed-from : (id : InodeId) → is_snapshottable state id ≡ true → In ids id
  listed-from id may = let d = some-entry snaps.dirs id (sym (all.snapshottable id) ∙ may) in subst (In ids) d.2 (in-map (λ (d : Directory). d.0) snaps.dirs d.0 d.1)

  abbrev shows : Names × Node FileBlocks → Bool
  shows place = is_snapshottable state place.1.id

  abbrev of_node : Node FileBlocks → InodeId × ℕ
  of_node n = (n.id, snapshots_of state.members n.id)

  abbrev of_tree : List DirPlace
  of_tree = map (placed of_node) (filter shows state.tree)

  tree-sorted : is_sorted path_cmp of_tree ≡ true
  tree-sorted = sorted-placed of_node (filter shows state.tree) ∙ sorted-kept shows state.tree all.valid.sorted

  alike : (q : Names) → find path_cmp q (with_dirs table snaps ids []) ≡ find path_cmp q of_tree
  alike q = by (node_at state.tree q) refl ∙ sym (found-placed of_node q (filter shows state.tree))
    where
      nothing : ((n : Node FileBlocks) → node_at state.tree q ≡ Some n → is_snapshottable state n.id ≡ true → ⊥) → find path_cmp q (with_dirs table snaps ids []) ≡ option_map of_node (node_at (filter shows state.tree) q)
      nothing none =
          none-there q ids [] (λ id at e. let n = some_id (node_at state.tree q) id (leads id q e) in none n.0 n.1 (ap (is_snapshottable state) n.2 ∙ listed-so id at))
          ∙ sym (ap (option_map of_node) (missing (node_at (filter shows state.tree) q) refl))
        where
          missing : (o : Option (Node FileBlocks)) → node_at (filter shows state.tree) q ≡ o → o ≡ None
          missing None e = refl
          missing (Some n) e = let w = kept-so shows state.tree all.valid.sorted q n e in absurd (none n w.0 w.1)

      by : (o : Option (Node FileBlocks)) → node_at state.tree q ≡ o → find path_cmp q (with_dirs table snaps ids []) ≡ option_map of_node (node_at (filter shows state.tree) q)
      by None e = nothing (λ n at _. none_some (sym e ∙ at))
      by (Some n) e = by_test (is_snapshottable state n.id)
          (λ may. one-there q n.id (finds q n e) (λ id d. same_some (sym (leads id q d) ∙ ap id_of e)) ids [] (inl (listed-from n.id may))
          ∙ ap (λ k. Some (n.id, k)) (sym (count_snaps table snaps state all n.id))
          ∙ sym (ap (option_map of_node) (kept-there shows state.tree all.valid.sorted q n e may)))
          (λ no. nothing (λ m at may. true_false (ap (λ (k : Node FileBlocks). is_snapshottable state k.id) (same_some (sym e ∙ at)) ∙ may) no))

  shown-dirs : (t : Tree FileBlocks) → map as_dir (map (placed of_node) (filter shows t)) ≡ filter_map (dir_item state) t
  shown-dirs [] = refl
  shown-dirs (y ∷ t) = by (shown-dirs t) (is_snapshottable state y.1.id) refl
    where
      by : map as_dir (map (placed of_node) (filter shows t)) ≡ filter_map (dir_item state) t → (b : Bool) → is_snapshottable state y.1.id ≡ b → map as_dir (map (placed of_node) (filter shows (y ∷ t))) ≡ filter_map (dir_item state) (y ∷ t)
      by rest true e = rw e (ap (λ (items : List DirItem). as_dir (placed of_node y) ∷ items) rest)
      by rest false e = rw e rest

  pub dirs-told : dirs_found table snaps ≡ filter_map (dir_item state) state.tree
  dirs-told =
      ap (map as_dir) (same_entries path_cmp paths_total paths_exact (with_dirs table snaps ids []) of_tree (holds_so (dirs-sorted ids [] refl)) (holds_so tree-sorted) alike)
      ∙ shown-dirs state.tree

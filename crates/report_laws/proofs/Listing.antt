-- The entries that lists of rows have at one moment alone: they differ in the trees, and are counted once each.
use Rattle.std.proofs.Common.{◌≡◌, ℕ, ◌*◌, ◌≤◌, Bool, true, false, cond, List, [], ◌∷◌, ◌++◌, map, filter, length, Option, Some, None, inl, inr, refl, sym, ap, subst, ◌∙◌}
use Rattle.std.specs.Prelude.{not}
use Rattle.std.specs.List.{IsDistinct, AllByRecursion, flat_map}
use Rattle.std.specs.Ordering.{is_lt, is_eq}
use Rattle.std.specs.declared.cmp.Ordering.TheVariants.{Less, Equal}
use Rattle.std.specs.FinMap.Entries.{below_all}
use Rattle.std.proofs.lemmas.List.{map-append}
use Rattle.hs_types.specs.declared.ids.InodeId.{InodeId}
use Rattle.hs_types.specs.declared.ids.SnapId.{SnapId}
use Rattle.hs_types.specs.declared.journal.Entry as journal_entries
use Rattle.hs_plain.specs.declared.state.State.{State}
use Rattle.hs_plain.specs.declared.state.FileBlocks.{FileBlocks}
use Rattle.hs_plain.specs.Reading.{end_tree, is_foreign}
use Rattle.hs_plain.specs.Replay.{plain_after}
use Rattle.hs_plain.specs.State.{is_snapshottable}
use Rattle.hs_plain.specs.Tree.{Tree, node_at, same_inode}
use Rattle.hs_plain.specs.Viewed as viewed
use Rattle.hs_plain.proofs.ValidLists.{In, by_append, filter_so, map_so, flat_map_so, in-contains, contains-in, not_so, false_by}
use Rattle.hs_plain.proofs.ValidMembers.{inode_test}
use Rattle.hs_plain.proofs.ValidShapes.{true_false}
use Rattle.dir_changes.specs.Entries.{Entry, Entries, name_order, in_order, id_at, is_that, holds}
use Rattle.dir_changes.proofs.OrderLaws.{in_order-children_at}
use Rattle.dir_changes.proofs.PlaceLaws.{is_less, turned, tie}
use Rattle.dir_changes.proofs.UndoLaw as undo
use Rattle.dir_changes.proofs.UndoLaw.{is_that_so}
use Rattle.snapshot_manager.specs.Snapshots.{Snapshots}
use Rattle.inode_table.specs.Reads.{Shown, ReadsAs, Has, id_of}
use Rattle.inode_table.specs.RowHistory.{RowHistory, File, Dir, rows_at, shown, entries_of}
use Rattle.inode_table.specs.Tabled.{Tabled}
use Rattle.inode_table.specs.Whole.{StandsFor}
use Rattle.inode_table.proofs.Covers.{some_id}
use Rattle.report_laws.specs.Differing.{ids_in, ListEntry, same_entry, Stands, Lists, IsOneSided, FewDiffer}
use Rattle.report_laws.specs.Ends.{entries_between}
use Rattle.report_laws.specs.Listed.{only_in, in_dir, one_sided, AreInBoth}
use Rattle.report_laws.proofs.Counting.{entry_so}
use Rattle.report_laws.proofs.Ends.{whole-near}
use Rattle.report_laws.proofs.EndRows.{end-reads}

-- ---- rows and trees

module _ {B : Type 0} (shown : Shown B) (top : InodeId) (tree : Tree B) (reads : ReadsAs shown top (node_at tree)) where
  lists_so : (e : ListEntry) → Has (node_at tree) e.dir → id_at e.name (shown.entries e.dir) ≡ Some e.id → Lists (ids_in tree) e
  lists_so e h is = record {
    at = h.at;
    above = ap id_of h.is ∙ ap (λ (x : InodeId). Some x) h.named;
    is = sym (reads.entries h.at h.node e.name h.is) ∙ ap (λ (x : InodeId). id_at e.name (shown.entries x)) h.named ∙ is;
  }

  listed_so : (e : ListEntry) → Lists (ids_in tree) e → id_at e.name (shown.entries e.dir) ≡ Some e.id
  listed_so e k = let n = some_id (node_at tree k.at) e.dir k.above in
      ap (λ (x : InodeId). id_at e.name (shown.entries x)) (sym n.2) ∙ reads.entries k.at n.0 e.name n.1 ∙ k.is

  stands_so : (x : InodeId) → Has (node_at tree) x → Stands (ids_in tree) x
  stands_so x h = record { at = h.at; is = ap id_of h.is ∙ ap (λ (y : InodeId). Some y) h.named }

-- ---- lists in order

-- the names of a list in order rise
above : (name : List ℕ) (es : Entries) (e : Entry) → below_all name_order name es ≡ true → In es e → name_order name e.0 ≡ Less
above name [] e least at = absurd at
above name (d ∷ es) e least (inl same) = subst (λ (x : Entry). name_order name x.0 ≡ Less) same (is_less _ (undo.first (is_lt (name_order name d.0)) _ least))
above name (d ∷ es) e least (inr at) = above name es e (undo.second (is_lt (name_order name d.0)) _ least) at

later : (e : Entry) (es : Entries) → in_order (e ∷ es) ≡ true → (f : Entry) → In es f → e.0 ≡ f.0 → ⊥
later e es sorted f at same = not_less (sym (tie e.0) ∙ ap (name_order e.0) same ∙ above e.0 es f (undo.first (below_all name_order e.0 es) _ sorted) at)
  where
    not_less : Equal ≡ Less → ⊥
    not_less h = cc

-- an entry of a list in order stands under its name
id_at-in : (es : Entries) (e : Entry) → in_order es ≡ true → In es e → id_at e.0 es ≡ Some e.1
id_at-in [] e sorted at = absurd at
id_at-in (d ∷ es) e sorted (inl same) = subst (λ (x : Entry). id_at x.0 (d ∷ es) ≡ Some x.1) same (ap (λ r. cond (is_eq r) (Some d.1) (id_at d.0 es)) (tie d.0))
id_at-in (d ∷ es) e sorted (inr at) =
    ap (λ r. cond (is_eq r) (Some d.1) (id_at e.0 es)) (turned d.0 e.0 (above d.0 es e (undo.first (below_all name_order d.0 es) _ sorted) at))
    ∙ id_at-in es e (undo.second (below_all name_order d.0 es) _ sorted) at

-- and is held
held : (es : Entries) (e : Entry) → id_at e.0 es ≡ Some e.1 → holds es e ≡ true
held es e h = ap (is_that e.1) h ∙ inode_test e.1 e.1 refl

-- ---- each once

module _ {K : Type 0} (eq : K → K → Bool) where
  pub distinct_none : IsDistinct eq []
  unfolding IsDistinct
  distinct_none = tt

  pub distinct_cons : (x : K) (xs : List K) → ((y : K) → In xs y → eq x y ≡ false) → IsDistinct eq xs → IsDistinct eq (x ∷ xs)
  unfolding IsDistinct
  distinct_cons x xs apart rest = (all xs apart, rest)
    where
      all : (ys : List K) → ((y : K) → In ys y → eq x y ≡ false) → AllByRecursion (λ y. eq x y ≡ false) ys
      all [] apart = tt
      all (y ∷ ys) apart = (apart y (inl refl), all ys (λ z at. apart z (inr at)))

  pub distinct_head : (x : K) (xs : List K) → IsDistinct eq (x ∷ xs) → (y : K) → In xs y → eq x y ≡ false
  unfolding IsDistinct
  distinct_head x xs d y at = one xs d.0 at
    where
      one : (ys : List K) → AllByRecursion (λ y. eq x y ≡ false) ys → In ys y → eq x y ≡ false
      one [] all at = absurd at
      one (z ∷ ys) all (inl same) = subst (λ (k : K). eq x k ≡ false) same all.0
      one (z ∷ ys) all (inr at) = one ys all.1 at

  pub distinct_tail : (x : K) (xs : List K) → IsDistinct eq (x ∷ xs) → IsDistinct eq xs
  unfolding IsDistinct
  distinct_tail x xs d = d.1

  distinct_append : (xs ys : List K) → IsDistinct eq xs → IsDistinct eq ys → ((x y : K) → In xs x → In ys y → eq x y ≡ false) → IsDistinct eq (xs ++ ys)
  distinct_append [] ys dx dy apart = dy
  distinct_append (x ∷ xs) ys dx dy apart = distinct_cons x (xs ++ ys)
      (λ y at. by_append xs ys y at (λ k. distinct_head x xs dx y k) (λ k. apart x y (inl refl) k))
      (distinct_append xs ys (distinct_tail x xs dx) dy (λ z y az ay. apart z y (inr az) ay))

entries_apart : (x y : ListEntry) → (x ≡ y → ⊥) → same_entry x y ≡ false
entries_apart x y ne = false_by (same_entry x y) (λ t. ne (entry_so x y t))

-- the entries that a test leaves of a list in order
distinct_kept : (dir : InodeId) (test : Entry → Bool) (es : Entries) → in_order es ≡ true → IsDistinct same_entry (map (in_dir dir) (filter test es))
distinct_kept dir test [] sorted = distinct_none same_entry
distinct_kept dir test (e ∷ es) sorted = elim (test e) as (λ b. IsDistinct same_entry (map (in_dir dir) (cond b (e ∷ filter test es) (filter test es)))) [
  | true ↦ distinct_cons same_entry (in_dir dir e) (map (in_dir dir) (filter test es))
      (λ y at. let z = map_so (in_dir dir) (filter test es) y at in
      entries_apart (in_dir dir e) y (λ same. later e es sorted z.0 (filter_so test es z.0 z.1).0 (ap (λ (x : ListEntry). x.name) (same ∙ sym z.2))))
      (distinct_kept dir test es (undo.second (below_all name_order e.0 es) _ sorted))
  | false ↦ distinct_kept dir test es (undo.second (below_all name_order e.0 es) _ sorted)
]

module _ (v w : Shown FileBlocks) where
  -- the lists of a directory are in order
  record AreOrdered (dir : InodeId) : Type 0 where
    first : in_order (v.entries dir) ≡ true
    second : in_order (w.entries dir) ≡ true

  distinct_dir : (dir : InodeId) → AreOrdered dir → IsDistinct same_entry (one_sided v w dir)
  distinct_dir dir order = subst (IsDistinct same_entry) (sym (map-append (in_dir dir) (only_in (v.entries dir) (w.entries dir)) (only_in (w.entries dir) (v.entries dir))))
      (distinct_append same_entry (map (in_dir dir) (only_in (v.entries dir) (w.entries dir))) (map (in_dir dir) (only_in (w.entries dir) (v.entries dir)))
      (distinct_kept dir (λ e. not (holds (w.entries dir) e)) (v.entries dir) order.first)
      (distinct_kept dir (λ e. not (holds (v.entries dir) e)) (w.entries dir) order.second)
      (λ x y ax ay.
      let e = map_so (in_dir dir) (only_in (v.entries dir) (w.entries dir)) x ax in
      let f = map_so (in_dir dir) (only_in (w.entries dir) (v.entries dir)) y ay in
      let mine = filter_so (λ k. not (holds (w.entries dir) k)) (v.entries dir) e.0 e.1 in
      let other = filter_so (λ k. not (holds (v.entries dir) k)) (w.entries dir) f.0 f.1 in
      entries_apart x y (λ same.
      let tied : in_dir dir e.0 ≡ in_dir dir f.0 = e.2 ∙ same ∙ sym f.2 in
      let one : e.0 ≡ f.0 = λ i. ((tied i).name, (tied i).id) in
      true_false (ap (holds (v.entries dir)) (sym one) ∙ held (v.entries dir) e.0 (id_at-in (v.entries dir) e.0 order.first mine.0)) (not_so (holds (v.entries dir) f.0) other.1))))

  dir_of : (dir : InodeId) (x : ListEntry) → In (one_sided v w dir) x → x.dir ≡ dir
  dir_of dir x at = let e = map_so (in_dir dir) (only_in (v.entries dir) (w.entries dir) ++ only_in (w.entries dir) (v.entries dir)) x at in ap (λ (y : ListEntry). y.dir) (sym e.2)

  distinct_dirs : (dirs : List InodeId) → IsDistinct same_inode dirs → ((dir : InodeId) → In dirs dir → AreOrdered dir) → IsDistinct same_entry (flat_map (one_sided v w) dirs)
  distinct_dirs [] once orders = distinct_none same_entry
  distinct_dirs (dir ∷ dirs) once orders = distinct_append same_entry (one_sided v w dir) (flat_map (one_sided v w) dirs)
      (distinct_dir dir (orders dir (inl refl)))
      (distinct_dirs dirs (distinct_tail same_inode dir dirs once) (λ d at. orders d (inr at)))
      (λ x y ax ay. let d = flat_map_so (one_sided v w) dirs y ay in
      entries_apart x y (λ same.
      let tied : dir ≡ d.0 = sym (dir_of dir x ax) ∙ ap (λ (z : ListEntry). z.dir) same ∙ dir_of d.0 y d.2 in
      true_false (inode_test dir d.0 (ap (λ (z : InodeId). z.0) tied)) (distinct_head same_inode dir dirs once d.0 d.1)))

  -- ---- how many

  module _ (a b : InodeId) (t u : Tree FileBlocks) (reads_v : ReadsAs v a (node_at t)) (reads_w : ReadsAs w b (node_at u)) where
    differs : (dir : InodeId) → Has (node_at t) dir → Has (node_at u) dir → AreOrdered dir → (x : ListEntry) → In (one_sided v w dir) x → IsOneSided (ids_in t) (ids_in u) x
    differs dir in_t in_u order x at =
        let e = map_so (in_dir dir) (only_in (v.entries dir) (w.entries dir) ++ only_in (w.entries dir) (v.entries dir)) x at in
        subst (IsOneSided (ids_in t) (ids_in u)) e.2 (by_append (only_in (v.entries dir) (w.entries dir)) (only_in (w.entries dir) (v.entries dir)) e.0 e.1
        (λ k. let mine = filter_so (λ f. not (holds (w.entries dir) f)) (v.entries dir) e.0 k in record {
          in_before = stands_so v a t reads_v dir in_t;
          in_after = stands_so w b u reads_w dir in_u;
          one = inl (lists_so v a t reads_v (in_dir dir e.0) in_t (id_at-in (v.entries dir) e.0 order.first mine.0));
          not_both = λ _ l. true_false (held (w.entries dir) e.0 (listed_so w b u reads_w (in_dir dir e.0) l)) (not_so (holds (w.entries dir) e.0) mine.1);
        })
        (λ k. let mine = filter_so (λ f. not (holds (v.entries dir) f)) (w.entries dir) e.0 k in record {
          in_before = stands_so v a t reads_v dir in_t;
          in_after = stands_so w b u reads_w dir in_u;
          one = inr (lists_so w b u reads_w (in_dir dir e.0) in_u (id_at-in (w.entries dir) e.0 order.second mine.0));
          not_both = λ l _. true_false (held (v.entries dir) e.0 (listed_so v a t reads_v (in_dir dir e.0) l)) (not_so (holds (v.entries dir) e.0) mine.1);
        }))

    few_listed : (most : ℕ) (dirs : List InodeId) → FewDiffer (ids_in t) (ids_in u) most → IsDistinct same_inode dirs → ((dir : InodeId) → In dirs dir → AreOrdered dir)
        → ((dir : InodeId) → In dirs dir → Has (node_at t) dir) → ((dir : InodeId) → In dirs dir → Has (node_at u) dir) → length (flat_map (one_sided v w) dirs) ≤ most
    few_listed most dirs few once orders in_t in_u = few (flat_map (one_sided v w) dirs) (distinct_dirs dirs once orders)
        (λ x c. let d = flat_map_so (one_sided v w) dirs x (in-contains (flat_map (one_sided v w) dirs) x c) in differs d.0 (in_t d.0 d.1) (in_u d.0 d.1) (orders d.0 d.1) x d.2)

-- ---- a table

module _ (table : Tabled) (snaps : Snapshots) (state : State FileBlocks) (all : StandsFor table snaps state) where
  ordered : (s : ℕ) (dir : InodeId) → in_order ((shown table.rows s).entries dir) ≡ true
  ordered s dir = by (rows_at table.rows dir) refl
    where
      by : (o : Option RowHistory) → rows_at table.rows dir ≡ o → in_order (entries_of s o) ≡ true
      by None e = refl
      by (Some (File file)) e = refl
      by (Some (Dir history)) e = in_order-children_at history (all.records.undoable dir history e) s

  pub few-rows : (journal : List journal_entries.Entry) (root : InodeId) (from to : SnapId) (dirs : List InodeId)
      → viewed.StandsFor state (plain_after journal) → is_snapshottable state root ≡ true → is_foreign state root from ≡ false → is_foreign state root to ≡ false
      → AreInBoth state root from to dirs → length (flat_map (one_sided (shown table.rows from.0) (shown table.rows to.0)) dirs) ≤ 2 * entries_between state from to
  few-rows journal root from to dirs stands is own_from own_to in_both =
      let one = end-reads table snaps state root from all is own_from in
      let two = end-reads table snaps state root to all is own_to in
      few_listed (shown table.rows from.0) (shown table.rows to.0) root root (end_tree state root from) (end_tree state root to) one.reads two.reads (2 * entries_between state from to) dirs
      (whole-near journal state stands root from to)
      in_both.once
      (λ dir at. record { first = ordered from.0 dir; second = ordered to.0 dir })
      (λ dir at. in_both.in_from dir (contains-in dirs dir at))
      (λ dir at. in_both.in_to dir (contains-in dirs dir at))

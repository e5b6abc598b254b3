-- The inodes that the index finds between the two ends of a report.
use Rattle.std.proofs.Common.{◌≡◌, ◌⊎◌, inl, inr, ⊎_elim, ℕ, ◌-◌, ◌^◌, ◌<◌, ◌≤◌, not, Bool, true, false, cond, ◌&&◌, ◌||◌, ◌==◌, Option, Some, None, List, [], ◌∷◌, map, refl, ap, sym, subst, ◌∙◌, arith}
use Rattle.std.specs.Prelude.{nat_lt, nat_le, min, max}
use Rattle.std.specs.List.{Contains, list_any, list_all, find}
use Rattle.std.specs.Cmp.{nat_eq_equiv}
use Rattle.std.specs.FinMap.Entries.{is_sorted}
use Rattle.std.proofs.lemmas.Bool.Decides.{Decides-eqb, nat_tests}
use Rattle.hs_types.specs.Names.{Names}
use Rattle.hs_types.specs.declared.ids.InodeId.{InodeId}
use Rattle.hs_types.specs.declared.ids.SnapId.{SnapId}
use Rattle.hs_types.specs.declared.name.SnapItem.{SnapItem}
use Rattle.hs_types.specs.declared.reply.Line.{Line}
use Rattle.hs_plain.specs.declared.state.Node.{Node}
use Rattle.hs_plain.specs.declared.state.Member.{Member}
use Rattle.hs_plain.specs.declared.state.State.{State}
use Rattle.hs_plain.specs.declared.state.FileBlocks.{FileBlocks}
use Rattle.hs_plain.specs.Tree.{Tree, path_cmp, node_at, place_of, same_inode}
use Rattle.hs_plain.specs.State.{is_snapshottable}
use Rattle.hs_plain.specs.Reading.{copied_tree, tree_below, end_tree, lines_between, is_foreign}
use Rattle.hs_plain.specs.Report.{line_before}
use Rattle.hs_plain.specs.Ordered.{AreOrdered}
use Rattle.hs_plain.proofs.OrderedReports.{lines-ordered}
use Rattle.hs_plain.proofs.ValidLists.{In, contains-in, in-contains, in-map, map_so, in-filter, filter_so, all_so, by_test}
use Rattle.hs_plain.proofs.ValidTrees.{both, first, second}
use Rattle.hs_plain.proofs.ValidShapes.{true_false}
use Rattle.hs_plain.proofs.ValidSubtrees.{sorted-subtree}
use Rattle.hs_plain.proofs.ValidPlaces.{ids_differ}
use Rattle.hs_plain.proofs.SameTree.{report-self}
use Rattle.snapshot_manager.specs.Snapshots.{Snapshots, IsProper, has_id, live_at}
use Rattle.snapshot_manager.proofs.MemberLemmas.{found_by_id}
use Rattle.inode_table.specs.declared.noted.Noted.{Noted}
use Rattle.inode_table.specs.Indexed.{Index, is_between, is_there, made_between}
use Rattle.inode_table.specs.Joined.{told}
use Rattle.inode_table.specs.Reads.{Nodes, ReadsAs, Has}
use Rattle.inode_table.specs.RowHistory.{Table, shown}
use Rattle.inode_table.specs.Tabled.{Tabled}
use Rattle.inode_table.specs.Whole.{StandsFor}
use Rattle.inode_table.proofs.Reading.{same_id_so}
use Rattle.table_laws.specs.RecordFound.{SameAt}
use Rattle.table_laws.proofs.RecordFound.{same-or-found, same-or-found-now}
use Rattle.report_laws.specs.Ends.{copied_tick, end_tick}
use Rattle.report_laws.proofs.EndRows.{end-reads}
use Rattle.change_report.specs.declared.ends.Ends.{Ends}
use Rattle.change_report.specs.Candidates.{tick_at, tick_or_last}
use Rattle.change_report.specs.Found.{all_lines}
use Rattle.change_report.specs.Sorting.{AreApart, AreSorted}
use Rattle.change_report.proofs.AllFound.{all-found}
use Rattle.change_report.proofs.FoundLines.{found-so}
use Rattle.change_report.proofs.OneOrder.{one-order, all-at}
use Rattle.change_report.proofs.PlainLines.{IsWhole, OfOneRoot, report-so, line-in}

-- ---- inodes found

swapped : (f g : Nodes FileBlocks) (x : InodeId) → SameAt f g x → SameAt g f x
swapped f g x same = record {
  node = λ p q a b h k e d. sym (same.node q p b a k h d e);
  name = λ p q m n c d a b hc ha hd hb e i. let w = same.name q p n m d c b a hd hb hc ha i e in (sym w.0, sym w.1);
  kids = λ p q a b name h k e d. sym (same.kids q p b a name k h d e);
}

-- what is found between two ticks is found between wider ones
wider : (rows : Table) (index : Index) (a b low high : ℕ) (x : InodeId) → low ≤ a → b ≤ high → Contains (made_between a b rows index) x → Contains (made_between low high rows index) x
wider rows index a b low high x le_low le_high c =
    let one = map_so (λ (e : Noted). e.id) _ x (in-contains (made_between a b rows index) x c) in
    let there = filter_so (is_there rows) _ one.0 one.1 in
    let within = filter_so (is_between a b) index one.0 there.0 in
    let after : nat_lt a one.0.tick ≡ true = first (nat_lt a one.0.tick) _ within.1 in
    let upto : nat_le one.0.tick b ≡ true = second (nat_lt a one.0.tick) _ within.1 in
    let still : is_between low high one.0 ≡ true = both (above a one.0.tick le_low after) (below one.0.tick b le_high upto) in
    contains-in (made_between low high rows index) x (subst (In (made_between low high rows index)) one.2
    (in-map (λ (e : Noted). e.id) _ one.0 (in-filter (is_there rows) _ one.0 (in-filter (is_between low high) index one.0 within.0 still) there.1)))
  where
    above : (a tick : ℕ) → low ≤ a → nat_lt a tick ≡ true → nat_lt low tick ≡ true
    above a tick le h = grind (arith, nat_tests, le, h)

    below : (tick b : ℕ) → b ≤ high → nat_le tick b ≡ true → nat_le tick high ≡ true
    below tick b le h = grind (arith, nat_tests, le, h)

-- ---- snapshots by their ids

-- the snapshot of an id, as the table of snapshots has it
record AtId (ms : List (Member FileBlocks)) (end : SnapId) : Type 0 where
  member : Member FileBlocks
  among : In ms member
  number : member.snapshot.0 ≡ end.0
  told_is : find (λ (m : InodeId × SnapItem). has_id end m.1) (map told ms) ≡ Some (told member)
  tree : copied_tree ms end ≡ member.tree
  tick : copied_tick ms end ≡ member.tick

flip : (a b : ℕ) (t : Bool) → (a == b) ≡ t → (b == a) ≡ t
flip a b t e = nat_eq_equiv.symm b a ∙ e

at-id : (ms : List (Member FileBlocks)) (end : SnapId) (root : InodeId) → list_any (λ m. m.snapshot.0 == end.0 && same_inode m.directory root) ms ≡ true → AtId ms end
at-id [] end root h = absurd (true_false h refl)
at-id (m ∷ ms) end root h = by (m.snapshot.0 == end.0) refl h (at-id ms end root)
  where
    by : (b : Bool) → (m.snapshot.0 == end.0) ≡ b → ((b && same_inode m.directory root) || list_any (λ m. m.snapshot.0 == end.0 && same_inode m.directory root) ms) ≡ true
        → (list_any (λ m. m.snapshot.0 == end.0 && same_inode m.directory root) ms ≡ true → AtId ms end) → AtId (m ∷ ms) end
    by true e h later = record {
      member = m;
      among = inl refl;
      number = (Decides-eqb m.snapshot.0 end.0).0 e;
      told_is = ap (λ b. cond b (Some (told m)) (find (λ (m : InodeId × SnapItem). has_id end m.1) (map told ms))) (flip m.snapshot.0 end.0 true e);
      tree = ap (λ b. cond b m.tree (copied_tree ms end)) e;
      tick = ap (λ b. cond b m.tick (copied_tick ms end)) e;
    }
    by false e h later = let w = later h in record {
      member = w.member;
      among = inr w.among;
      number = w.number;
      told_is = ap (λ b. cond b (Some (told m)) (find (λ (m : InodeId × SnapItem). has_id end m.1) (map told ms))) (flip m.snapshot.0 end.0 false e) ∙ w.told_is;
      tree = ap (λ b. cond b m.tree (copied_tree ms end)) e ∙ w.tree;
      tick = ap (λ b. cond b m.tick (copied_tick ms end)) e ∙ w.tick;
    }

copied-sorted : (ms : List (Member FileBlocks)) (end : SnapId) → list_all (λ m. is_sorted path_cmp m.tree) ms ≡ true → is_sorted path_cmp (copied_tree ms end) ≡ true
copied-sorted [] end h = refl
copied-sorted (m ∷ ms) end h = by (m.snapshot.0 == end.0) (copied-sorted ms end (second (is_sorted path_cmp m.tree) _ h))
  where
    by : (b : Bool) → is_sorted path_cmp (copied_tree ms end) ≡ true → is_sorted path_cmp (cond b m.tree (copied_tree ms end)) ≡ true
    by true rest = first (is_sorted path_cmp m.tree) _ h
    by false rest = rest

-- lines in order that aren't before one another are one
ordered-apart : (lines : List Line) → AreOrdered lines → AreApart lines
ordered-apart [] is a b at bt f g = absurd at
ordered-apart (x ∷ xs) is a b (inl e) (inl d) f g = sym e ∙ d
ordered-apart (x ∷ xs) is a b (inl e) (inr bt) f g = absurd (true_false (all-at (λ y. line_before x y ≡ true) xs is.0 b bt) (ap (λ (y : Line). line_before y b) e ∙ f))
ordered-apart (x ∷ xs) is a b (inr at) (inl d) f g = absurd (true_false (all-at (λ y. line_before x y ≡ true) xs is.0 a at) (ap (λ (y : Line). line_before y a) d ∙ g))
ordered-apart (x ∷ xs) is a b (inr at) (inr bt) f g = ordered-apart xs is.1 a b at bt f g

-- ---- the two ends

module _ (t : Tabled) (snaps : Snapshots) (state : State FileBlocks) (few : state.tick < 2 ^ 64) (all : StandsFor t snaps state) (proper : IsProper snaps) (root : InodeId) (is_root : is_snapshottable state root ≡ true) where
  abbrev tree_at : SnapId → Tree FileBlocks
  tree_at end = end_tree state root end

  sorted-below : (o : Option (Names × Node FileBlocks)) → is_sorted path_cmp (tree_below state.tree o) ≡ true
  sorted-below None = refl
  sorted-below (Some place) = sorted-subtree state.tree place.0 all.valid.sorted

  whole : (end : SnapId) → is_foreign state root end ≡ false → IsWhole (tree_at end)
  whole end own = record {
    sorted = elim (end.0 == 0) as (λ b. is_sorted path_cmp (cond b (tree_below state.tree (place_of state.tree root)) (copied_tree state.members end)) ≡ true) [
      | true ↦ sorted-below (place_of state.tree root)
      | false ↦ copied-sorted state.members end all.valid.copies_sorted
    ];
    is = (end-reads t snaps state root end all is_root own).nodes;
  }

  own-id : (end : SnapId) → (end.0 == 0) ≡ false → is_foreign state root end ≡ false → AtId state.members end
  own-id end nonzero own = at-id state.members end root (was (list_any (λ m. m.snapshot.0 == end.0 && same_inode m.directory root) state.members) (sym (ap (λ b. not b && not (list_any (λ m. m.snapshot.0 == end.0 && same_inode m.directory root) state.members)) nonzero) ∙ own))
    where
      was : (b : Bool) → not b ≡ false → b ≡ true
      was true h = refl
      was false h = absurd (true_false refl h)

  -- a snapshot's tick and tree
  tick-is : (end : SnapId) → (end.0 == 0) ≡ false → (w : AtId state.members end) → tick_at snaps end ≡ w.member.tick
  tick-is end nonzero w = ap (λ b. cond b (2 ^ 64 - 1) (tick_or_last (live_at snaps end))) nonzero ∙ ap tick_or_last (found_by_id (map told state.members) snaps all.told end proper ∙ w.told_is)

  -- a snapshot's tick is that of its end, and no later than now
  pub record IsTick (end : SnapId) : Type 0 where
    pub same : tick_at snaps end ≡ end_tick state end
    pub upto : end_tick state end ≤ state.tick

  pub tick-told : (end : SnapId) → (end.0 == 0) ≡ false → is_foreign state root end ≡ false → IsTick end
  tick-told end nonzero own =
      let w = own-id end nonzero own in
      let tick : end_tick state end ≡ w.member.tick = ap (λ b. cond b state.tick (copied_tick state.members end)) nonzero ∙ w.tick in
      let within : nat_le w.member.tick state.tick ≡ true = all_so (λ m. nat_le m.tick state.tick) state.members all.valid.ticks_within w.member w.among in
      record { same = tick-is end nonzero w ∙ sym tick; upto = grind (arith, nat_tests, tick, within) }

  tree-is : (end : SnapId) → (end.0 == 0) ≡ false → (w : AtId state.members end) → tree_at end ≡ w.member.tree
  tree-is end nonzero w = ap (λ b. cond b (tree_below state.tree (place_of state.tree root)) (copied_tree state.members end)) nonzero ∙ w.tree

  above-zero : (end : SnapId) → (end.0 == 0) ≡ false → (w : AtId state.members end) → 0 < w.member.snapshot.0
  above-zero end nonzero w = let e : w.member.snapshot.0 ≡ end.0 = w.number in let apart : end.0 ≡ 0 → ⊥ = λ z. true_false ((Decides-eqb end.0 0).1 z) nonzero in omega (arith, e, apart)

  -- nothing has changed between an end and itself
  pub same-ends : (end : SnapId) → is_foreign state root end ≡ false → lines_between state root end end ≡ []
  same-ends end own = let w = whole end own in
      report-self (tree_at end) (ids_differ (tree_at end) w.sorted (λ p q a b at bt same. w.is.once p q a b at bt (same_id_so a.id b.id same)))

  module _ (from to : SnapId) (from_own : is_foreign state root from ≡ false) (to_own : is_foreign state root to ≡ false) (differ : from.0 ≡ to.0 → ⊥)
      (ids : List InodeId) (given : (x : InodeId) → Contains (made_between (min (tick_at snaps from) (tick_at snaps to)) (max (tick_at snaps from) (tick_at snaps to)) t.rows t.index) x → In ids x) where
    abbrev f : Nodes FileBlocks
    f = node_at (tree_at from)

    abbrev g : Nodes FileBlocks
    g = node_at (tree_at to)

    -- what the index names between two ticks within the ends
    among : (a b : ℕ) (x : InodeId) → min (tick_at snaps from) (tick_at snaps to) ≤ a → b ≤ max (tick_at snaps from) (tick_at snaps to) → Contains (made_between a b t.rows t.index) x → In ids x
    among a b x low high c = given x (wider t.rows t.index a b (min (tick_at snaps from) (tick_at snaps to)) (max (tick_at snaps from) (tick_at snaps to)) x low high c)

    two : (a b : SnapId) (v : AtId state.members a) (w : AtId state.members b) → (a.0 == 0) ≡ false → (b.0 == 0) ≡ false → v.member.snapshot.0 ≤ w.member.snapshot.0
        → min (tick_at snaps from) (tick_at snaps to) ≤ v.member.tick → w.member.tick ≤ max (tick_at snaps from) (tick_at snaps to)
        → (x : InodeId) → Has (node_at (tree_at a)) x → Has (node_at (tree_at b)) x → SameAt (node_at (tree_at a)) (node_at (tree_at b)) x ⊎ In ids x
    two a b v w na nb le low high x ha hb =
        ⊎_elim (λ same. inl (subst (λ (tree : Tree FileBlocks). SameAt (node_at tree) (node_at (tree_at b)) x) (sym (tree-is a na v)) (subst (λ (tree : Tree FileBlocks). SameAt (node_at v.member.tree) (node_at tree) x) (sym (tree-is b nb w)) same)))
        (λ c. inr (among v.member.tick w.member.tick x low high c))
        (same-or-found t state.members snaps.issued.0 v.member w.member x all.records all.stands.frozen
        (record { first = contains-in state.members v.member v.among; second = contains-in state.members w.member w.among; above = above-zero a na v; order = le })
        (subst (λ (tree : Tree FileBlocks). Has (node_at tree) x) (tree-is a na v) ha) (subst (λ (tree : Tree FileBlocks). Has (node_at tree) x) (tree-is b nb w) hb))

    now : (a b : SnapId) (v : AtId state.members a) → (a.0 == 0) ≡ false → (b.0 == 0) ≡ true → is_foreign state root b ≡ false
        → min (tick_at snaps from) (tick_at snaps to) ≤ v.member.tick → state.tick ≤ max (tick_at snaps from) (tick_at snaps to)
        → (x : InodeId) → Has (node_at (tree_at a)) x → Has (node_at (tree_at b)) x → SameAt (node_at (tree_at a)) (node_at (tree_at b)) x ⊎ In ids x
    now a b v na zb b_own low high x ha hb =
        let reads : ReadsAs (shown t.rows 0) root (node_at (tree_at b)) = subst (λ n. ReadsAs (shown t.rows n) root (node_at (tree_at b))) ((Decides-eqb b.0 0).0 zb) (end-reads t snaps state root b all is_root b_own).reads in
        ⊎_elim (λ same. inl (subst (λ (tree : Tree FileBlocks). SameAt (node_at tree) (node_at (tree_at b)) x) (sym (tree-is a na v)) same))
        (λ c. inr (among v.member.tick state.tick x low high c))
        (same-or-found-now t state.members snaps.issued.0 state.tick 3 v.member root (node_at (tree_at b)) x all.records all.filled all.stands.frozen (contains-in state.members v.member v.among) (above-zero a na v) reads
        (subst (λ (tree : Tree FileBlocks). Has (node_at tree) x) (tree-is a na v) ha) hb)

    now-tick : (end : SnapId) → (end.0 == 0) ≡ true → tick_at snaps end ≡ 2 ^ 64 - 1
    now-tick end zero = ap (λ b. cond b (2 ^ 64 - 1) (tick_or_last (live_at snaps end))) zero

    found : (x : InodeId) → Has f x → Has g x → SameAt f g x ⊎ In ids x
    found x hf hg = by_test (from.0 == 0)
        (λ zf. by_test (to.0 == 0)
        (λ zt. absurd (differ ((Decides-eqb from.0 0).0 zf ∙ sym ((Decides-eqb to.0 0).0 zt))))
        (λ nt. let w = own-id to nt to_own in let a = tick-is to nt w in let b = now-tick from zf in
        ⊎_elim (λ same. inl (swapped g f x same)) (λ c. inr c) (now to from w nt zf from_own (omega (arith, a, b)) (omega (arith, a, b, few)) x hg hf)))
        (λ nf. let v = own-id from nf from_own in let a = tick-is from nf v in by_test (to.0 == 0)
        (λ zt. let b = now-tick to zt in now from to v nf zt to_own (omega (arith, a, b)) (omega (arith, a, b, few)) x hf hg)
        (λ nt. let w = own-id to nt to_own in let b = tick-is to nt w in by_test (nat_le v.member.snapshot.0 w.member.snapshot.0)
        (λ le. two from to v w nf nt (upto v.member.snapshot.0 w.member.snapshot.0 le) (omega (arith, a, b)) (omega (arith, a, b)) x hf hg)
        (λ gt. ⊎_elim (λ same. inl (swapped g f x same)) (λ c. inr c) (two to from w v nt nf (over v.member.snapshot.0 w.member.snapshot.0 gt) (omega (arith, a, b)) (omega (arith, a, b)) x hg hf))))
      where
        upto : (m n : ℕ) → nat_le m n ≡ true → m ≤ n
        upto m n h = grind (arith, nat_tests, h)

        over : (m n : ℕ) → nat_le m n ≡ false → n ≤ m
        over m n h = grind (arith, nat_tests, h)

    -- so the lines by rows, in order, are the plain machine's
    pub report-told : (lines : List Line) → AreSorted (all_lines t (record { root = root; from = from; to = to }) ids) lines → lines ≡ lines_between state root from to
    report-told lines sorted =
        let ends : Ends = record { root = root; from = from; to = to } in
        let first = end-reads t snaps state root from all is_root from_own in
        let last = end-reads t snaps state root to all is_root to_own in
        let pair : OfOneRoot (tree_at from) (tree_at to) root = record { first = whole from from_own; second = whole to to_own; first_root = first.reads.root; second_root = last.reads.root } in
        let ordered : AreOrdered (lines_between state root from to) = lines-ordered state all.valid root from to is_root from_own to_own in
        let so : (x : Line) → In (all_lines t ends ids) x → In (lines_between state root from to) x = λ x at. line-in (tree_at from) (tree_at to) root pair x (found-so t snaps state all ends f g first.nodes last.nodes first.reads last.reads ids x at) in
        one-order lines (lines_between state root from to) sorted.order ordered
        (λ x at. so x (sorted.back x at))
        (λ x at. sorted.there (λ a b at bt. ordered-apart (lines_between state root from to) ordered a b (so a at) (so b bt)) x
        (all-found t snaps state all ends f g first.nodes last.nodes first.reads last.reads ids found x (report-so (tree_at from) (tree_at to) root pair x at)))

-- The lines of a report stand in order.
use Rattle.std.proofs.Common.{◌≡◌, inl, inr, ℕ, nat_lt, not, Bool, true, false, ◌&&◌, ◌||◌, Option, Some, None, List, [], ◌∷◌, ◌++◌, refl, ap, sym, ◌∙◌}
use Rattle.std.specs.List.{AllByRecursion, filter_map, flat_map, cons_option}
use Rattle.std.specs.Option.{option_map}
use Rattle.std.specs.Ordering.{is_lt, is_eq}
use Rattle.std.specs.declared.cmp.Ordering.{Ordering}
use Rattle.std.specs.declared.cmp.Ordering.TheVariants.{Less, Equal, Greater}
use Rattle.std.specs.FinMap.Entries.{is_sorted, below_all}
use Rattle.std.proofs.lemmas.Bool.Decides.{Decides-eqb}
use Rattle.hs_types.specs.Names.{Names}
use Rattle.hs_types.specs.declared.ids.InodeId.{InodeId}
use Rattle.hs_types.specs.declared.reply.Line.{Line}
use Rattle.hs_types.specs.declared.reply.LineKind.TheVariants.{Deleted, Renamed, Modified, Created}
use Rattle.hs_plain.specs.declared.state.Node.{Node}
use Rattle.hs_plain.specs.Tree.{Tree, path_cmp, node_at, parent_of, place_of}
use Rattle.hs_plain.specs.Report.{node_id, id_above, last_of, same_id, same_place, parent_stays, is_changed, rank_of, line_of, line_if, lines_by, lines_from, place_above, created_in, created_by, created, line_before, with_lines, report}
use Rattle.hs_plain.specs.Ordered.{AreOrdered}
use Rattle.hs_plain.specs.inside.Ordered.{AreOfOneRoot, ReportIsOrdered}
use Rattle.hs_plain.proofs.Facts.{some_of, none_some}
use Rattle.hs_plain.proofs.ValidTrees.{first, second}
use Rattle.hs_plain.proofs.ValidLists.{In}
use Rattle.hs_plain.proofs.ValidShapes.{by_last, parent_of-last}
use Rattle.hs_plain.proofs.ValidPlaces.{one_place}
use Rattle.hs_plain.proofs.ValidHeld.{in-tree, found_place}
use Rattle.hs_plain.proofs.Trees.{place_so, no_place}
use Rattle.hs_plain.proofs.LineOrder.{path_itself, Apart, apart, all-map, all-append, ordered-append, all-with_lines, ordered-with_line}

-- ---- names

last_of-last : (above : Names) (name : List ℕ) → last_of (above ++ name ∷ []) ≡ name
last_of-last [] name = refl
last_of-last (one ∷ []) name = refl
last_of-last (one ∷ next ∷ above) name = last_of-last (next ∷ above) name

-- a path is its parent with its last name
whole_path : (path : Names) → (path ≡ [] → ⊥) → parent_of path ++ last_of path ∷ [] ≡ path
whole_path path isnt = by_last (λ p. (p ≡ [] → ⊥) → parent_of p ++ last_of p ∷ [] ≡ p) path (λ none. absurd (none refl))
    (λ above name some. ap (λ (p : Names). p ++ last_of (above ++ name ∷ []) ∷ []) (parent_of-last above name) ∙ ap (λ (n : List ℕ). above ++ n ∷ []) (last_of-last above name)) isnt

module _ {B : Type 0} (from to : Tree B) where
  -- ---- lines of the first tree

  -- a line of a node of the first tree stands at the node's path
  record IsAtPath (path : Names) (line : Line) : Type 0 where
    path_is : line.path ≡ path
    kind_is : nat_lt (rank_of line.kind) 3 ≡ true

  abbrev renamed_line : Names × Node B → Names → Line
  renamed_line place path = line_of Renamed place.0 (Some path) place.1

  abbrev modified_line : Names × Node B → Line
  modified_line place = line_of Modified place.0 None place.1

  block-all : (place : Names × Node B) (o : Option (Names × Node B)) → AllByRecursion (IsAtPath place.0) (lines_by from to place o)
  block-all place None =
      elim (parent_stays from to place.0) as (λ b. AllByRecursion (IsAtPath place.0) (line_if b (line_of Deleted place.0 None place.1) [])) [
        | true ↦ (record { path_is = refl; kind_is = refl }, tt)
        | false ↦ tt
      ]
  block-all place (Some other) = by (not (same_place from to place.0 other.0)) (is_changed place.1 other.1)
    where
      by : (a b : Bool) → AllByRecursion (IsAtPath place.0) (line_if a (renamed_line place other.0) (line_if b (modified_line place) []))
      by true true = (record { path_is = refl; kind_is = refl }, (record { path_is = refl; kind_is = refl }, tt))
      by true false = (record { path_is = refl; kind_is = refl }, tt)
      by false true = (record { path_is = refl; kind_is = refl }, tt)
      by false false = tt

  block-ordered : (place : Names × Node B) (o : Option (Names × Node B)) → AreOrdered (lines_by from to place o)
  block-ordered place None =
      elim (parent_stays from to place.0) as (λ b. AreOrdered (line_if b (line_of Deleted place.0 None place.1) [])) [
        | true ↦ (tt, tt)
        | false ↦ tt
      ]
  block-ordered place (Some other) = by (not (same_place from to place.0 other.0)) (is_changed place.1 other.1)
    where
      by : (a b : Bool) → AreOrdered (line_if a (renamed_line place other.0) (line_if b (modified_line place) []))
      by true true = ((ap (λ o. is_lt o || (is_eq o && nat_lt 1 2)) (path_itself place.0), tt), (tt, tt))
      by true false = (tt, tt)
      by false true = (tt, tt)
      by false false = tt

  -- the lines of places behind a path stand behind a line at the path
  behind_all : (path : Names) (places : Tree B) (line : Line) → line.path ≡ path → below_all path_cmp path places ≡ true → AllByRecursion (λ other. line_before line other ≡ true) (flat_map (lines_from from to) places)
  behind_all path [] line is below = tt
  behind_all path (e ∷ es) line is below =
      all-append (λ other. line_before line other ≡ true) (lines_from from to e) (flat_map (lines_from from to) es)
      (all-map (IsAtPath e.0) (λ other. line_before line other ≡ true) (lines_from from to e) (λ other at. before other at) (block-all e (place_of to e.1.id)))
      (behind_all path es line is (second (is_lt (path_cmp path e.0)) (below_all path_cmp path es) below))
    where
      less : (o : Ordering) (m n : ℕ) → is_lt o ≡ true → (is_lt o || (is_eq o && nat_lt m n)) ≡ true
      less Less m n e = refl
      less Equal m n e = absurd (cc)
      less Greater m n e = absurd (cc)

      before : (other : Line) → IsAtPath e.0 other → line_before line other ≡ true
      before other at =
          ap (λ (p : Names). is_lt (path_cmp p other.path) || (is_eq (path_cmp p other.path) && nat_lt (rank_of line.kind) (rank_of other.kind))) is
          ∙ ap (λ (p : Names). is_lt (path_cmp path p) || (is_eq (path_cmp path p) && nat_lt (rank_of line.kind) (rank_of other.kind))) at.path_is
          ∙ less (path_cmp path e.0) (rank_of line.kind) (rank_of other.kind) (first (is_lt (path_cmp path e.0)) (below_all path_cmp path es) below)

  from-ordered : (places : Tree B) → is_sorted path_cmp places ≡ true → AreOrdered (flat_map (lines_from from to) places)
  from-ordered [] sorted = tt
  from-ordered (e ∷ es) sorted =
      ordered-append (lines_from from to e) (flat_map (lines_from from to) es) (block-ordered e (place_of to e.1.id)) (from-ordered es (second (below_all path_cmp e.0 es) (is_sorted path_cmp es) sorted))
      (all-map (IsAtPath e.0) (λ line. AllByRecursion (λ other. line_before line other ≡ true) (flat_map (lines_from from to) es)) (lines_from from to e)
      (λ line at. behind_all e.0 es line at.path_is (first (below_all path_cmp e.0 es) (is_sorted path_cmp es) sorted)) (block-all e (place_of to e.1.id)))

  -- none of them is a line of a new node
  abbrev IsOld : Line → Type 0
  IsOld line = nat_lt (rank_of line.kind) 3 ≡ true

  from-old : (places : Tree B) → AllByRecursion IsOld (flat_map (lines_from from to) places)
  from-old [] = tt
  from-old (e ∷ es) = all-append IsOld (lines_from from to e) (flat_map (lines_from from to) es) (all-map (IsAtPath e.0) IsOld (lines_from from to e) (λ line at. at.kind_is) (block-all e (place_of to e.1.id))) (from-old es)

  -- ---- lines of new nodes

  -- a new node in a directory that was there
  record IsNew (place : Names × Node B) (line : Line) : Type 0 where
    fresh : place_of from place.1.id ≡ None
    id : InodeId
    above : id_above to place.0 ≡ Some id
    dir : Names × Node B
    dir_is : place_of from id ≡ Some dir
    line_is : line ≡ line_of Created (dir.0 ++ last_of place.0 ∷ []) None place.1

  new_so : (place : Names × Node B) (line : Line) → created from to place ≡ Some line → IsNew place line
  new_so place line is = by (place_of from place.1.id) refl is
    where
      by_dir : place_of from place.1.id ≡ None → (id : InodeId) → id_above to place.0 ≡ Some id → (o : Option (Names × Node B)) → place_of from id ≡ o → created_in place o ≡ Some line → IsNew place line
      by_dir fresh id above None dir_is e = absurd (none_some line e)
      by_dir fresh id above (Some dir) dir_is e = record { fresh = fresh; id = id; above = above; dir = dir; dir_is = dir_is; line_is = sym (some_of _ line e) }

      by_above : place_of from place.1.id ≡ None → (o : Option InodeId) → id_above to place.0 ≡ o → created_in place (place_above from o) ≡ Some line → IsNew place line
      by_above fresh None above e = absurd (none_some line e)
      by_above fresh (Some id) above e = by_dir fresh id above (place_of from id) refl e

      by : (o : Option (Names × Node B)) → place_of from place.1.id ≡ o → created_by from to place o ≡ Some line → IsNew place line
      by None fresh e = by_above fresh (id_above to place.0) refl e
      by (Some other) fresh e = absurd (none_some line e)

  module _ (is : AreOfOneRoot from to) where
    root_is_old : (a : Option (Node B)) → node_at from [] ≡ a → (node : Node B) → same_id (option_map node_id a) (Some node.id) ≡ true → place_of from node.id ≡ None → ⊥
    root_is_old None at node same fresh = absurd (cc)
    root_is_old (Some root) at node same fresh = no_place from node.id fresh ([], root) (in-tree from [] root at) ((Decides-eqb root.id.0 node.id.0).0 same)

    -- the root is no new node
    not_root : (place : Names × Node B) → In to place → place_of from place.1.id ≡ None → place.0 ≡ [] → ⊥
    not_root place at fresh root =
        root_is_old (node_at from []) refl place.1
        (ap (λ (id : Option InodeId). same_id (id_above from []) id) (sym (ap (option_map node_id) (ap (node_at to) (sym root) ∙ found_place to is.to_sorted place at))) ∙ is.one_root) fresh

    -- the directory above a path, by its id
    record IsAbove (place : Names × Node B) (id : InodeId) : Type 0 where
      node : Node B
      there : node_at to (parent_of place.0) ≡ Some node
      same : node.id.0 ≡ id.0

    above_so : (place : Names × Node B) (id : InodeId) (o : Option (Node B)) → node_at to (parent_of place.0) ≡ o → option_map node_id o ≡ Some id → IsAbove place id
    above_so place id None there e = absurd (none_some id e)
    above_so place id (Some node) there e = record { node = node; there = there; same = ap (λ (i : InodeId). i.0) (some_of node.id id e) }

    -- two new nodes with lines at one path stand at one path
    new_once : (a b : Names × Node B) (line other : Line) → In to a → In to b → IsNew a line → IsNew b other → line.path ≡ other.path → a.0 ≡ b.0
    new_once a b line other ina inb one two same =
        let paths : one.dir.0 ++ last_of a.0 ∷ [] ≡ two.dir.0 ++ last_of b.0 ∷ [] = sym (ap (λ (l : Line). l.path) one.line_is) ∙ same ∙ ap (λ (l : Line). l.path) two.line_is in
        let dirs : one.dir.0 ≡ two.dir.0 = sym (parent_of-last one.dir.0 (last_of a.0)) ∙ ap parent_of paths ∙ parent_of-last two.dir.0 (last_of b.0) in
        let names : last_of a.0 ≡ last_of b.0 = sym (last_of-last one.dir.0 (last_of a.0)) ∙ ap last_of paths ∙ last_of-last two.dir.0 (last_of b.0) in
        let place1 : (In from one.dir) × (one.dir.1.id.0 ≡ one.id.0) = place_so from one.id one.dir one.dir_is in
        let place2 : (In from two.dir) × (two.dir.1.id.0 ≡ two.id.0) = place_so from two.id two.dir two.dir_is in
        let nodes : one.dir.1 ≡ two.dir.1 = some_of one.dir.1 two.dir.1 (sym (found_place from is.from_sorted one.dir place1.0) ∙ ap (node_at from) dirs ∙ found_place from is.from_sorted two.dir place2.0) in
        let above1 : IsAbove a one.id = above_so a one.id (node_at to (parent_of a.0)) refl one.above in
        let above2 : IsAbove b two.id = above_so b two.id (node_at to (parent_of b.0)) refl two.above in
        let parents : parent_of a.0 ≡ parent_of b.0 = one_place to is.to_each_once (parent_of a.0) (parent_of b.0) above1.node above2.node above1.there above2.there (above1.same ∙ sym place1.1 ∙ ap (λ (n : Node B). n.id.0) nodes ∙ place2.1 ∙ sym above2.same) in
        sym (whole_path a.0 (not_root a ina one.fresh)) ∙ ap (λ (p : Names). p ++ last_of a.0 ∷ []) parents ∙ ap (λ (n : List ℕ). parent_of b.0 ++ n ∷ []) names ∙ whole_path b.0 (not_root b inb two.fresh)

    -- ---- all lines

    -- a new node's line is apart from those of new nodes behind it
    apart-new : (place : Names × Node B) (line : Line) → In to place → IsNew place line → (places : Tree B) → ((p : Names × Node B) → In places p → In to p) → below_all path_cmp place.0 places ≡ true → AllByRecursion (Apart line) (filter_map (created from to) places)
    apart-new place line at new [] within below = tt
    apart-new place line at new (e ∷ es) within below =
        by (created from to e) refl (apart-new place line at new es (λ p p_at. within p (inr p_at)) (second (is_lt (path_cmp place.0 e.0)) (below_all path_cmp place.0 es) below))
      where
        less_not_equal : (o : Ordering) → is_lt o ≡ true → o ≡ Equal → ⊥
        less_not_equal Less e f = cc
        less_not_equal Equal e f = cc
        less_not_equal Greater e f = cc

        by : (o : Option Line) → created from to e ≡ o → AllByRecursion (Apart line) (filter_map (created from to) es) → AllByRecursion (Apart line) (cons_option o (filter_map (created from to) es))
        by None is_o rest = rest
        by (Some other) is_o rest = (
          apart line other (λ same rank. less_not_equal (path_cmp place.0 e.0) (first (is_lt (path_cmp place.0 e.0)) (below_all path_cmp place.0 es) below)
              (ap (λ (p : Names). path_cmp p e.0) (new_once place e line other at (within e (inl refl)) new (new_so e other is_o) same) ∙ path_itself e.0)),
          rest,
        )

    -- a new node's line is apart from those of the first tree's nodes
    apart-old : (place : Names × Node B) (line : Line) → IsNew place line → (lines : List Line) → AllByRecursion IsOld lines → AllByRecursion (Apart line) lines
    apart-old place line new lines old = all-map IsOld (Apart line) lines (λ other low. apart line other (λ same rank. too_low (rank_of other.kind) low (sym rank ∙ ap (λ (l : Line). rank_of l.kind) new.line_is))) old
      where
        too_low : (n : ℕ) → nat_lt n 3 ≡ true → n ≡ 3 → ⊥
        too_low n low three = absurd (differ (sym low ∙ ap (λ k. nat_lt k 3) three))
          where
            differ : true ≡ false → ⊥
            differ e = cc

    ordered-new : (places : Tree B) → is_sorted path_cmp places ≡ true → ((p : Names × Node B) → In places p → In to p) → AreOrdered (with_lines (filter_map (created from to) places) (flat_map (lines_from from to) from))
    ordered-new [] sorted within = from-ordered from is.from_sorted
    ordered-new (e ∷ es) sorted within = by (created from to e) refl (ordered-new es (second (below_all path_cmp e.0 es) (is_sorted path_cmp es) sorted) (λ p at. within p (inr at)))
      where
        by : (o : Option Line) → created from to e ≡ o → AreOrdered (with_lines (filter_map (created from to) es) (flat_map (lines_from from to) from)) → AreOrdered (with_lines (cons_option o (filter_map (created from to) es)) (flat_map (lines_from from to) from))
        by None is_o rest = rest
        by (Some line) is_o rest =
            let new : IsNew e line = new_so e line is_o in
            ordered-with_line line (with_lines (filter_map (created from to) es) (flat_map (lines_from from to) from)) rest
            (all-with_lines (Apart line) (filter_map (created from to) es) (flat_map (lines_from from to) from)
            (apart-new e line (within e (inl refl)) new es (λ p at. within p (inr at)) (first (below_all path_cmp e.0 es) (is_sorted path_cmp es) sorted))
            (apart-old e line new (flat_map (lines_from from to) from) (from-old from)))

    pub report-ordered : AreOrdered (report from to)
    report-ordered = ordered-new to is.to_sorted (λ p at. at)

pub report_is_ordered : ReportIsOrdered
report_is_ordered from to is = report-ordered from to is

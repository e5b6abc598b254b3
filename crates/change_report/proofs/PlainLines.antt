-- The plain machine's report has exactly the lines that are so.
use Rattle.std.proofs.Common.{◌≡◌, ◌⊎◌, inl, inr, ℕ, not, Bool, true, false, cond, ◌&&◌, ◌||◌, ◌==◌, Option, Some, None, List, [], ◌∷◌, ◌++◌, refl, ap, sym, subst, ◌∙◌}
use Rattle.std.specs.Prelude.{bytes_eq, is_some}
use Rattle.std.specs.List.{filter_map, flat_map}
use Rattle.std.specs.Option.{option_map}
use Rattle.std.specs.FinMap.Entries.{is_sorted}
use Rattle.std.proofs.lemmas.Bool.Decides.{Decides-eqb}
use Rattle.std.proofs.lemmas.Slice.Eq.{bytes_eq-Decides}
use Rattle.hs_types.specs.Names.{Names}
use Rattle.hs_types.specs.declared.ids.InodeId.{InodeId}
use Rattle.hs_types.specs.declared.reply.Line.{Line}
use Rattle.hs_types.specs.declared.reply.LineKind.TheVariants.{Deleted, Renamed, Modified, Created}
use Rattle.hs_plain.specs.declared.state.Node.{Node}
use Rattle.hs_plain.specs.Tree.{Tree, path_cmp, node_at, is_root_path, place_of}
use Rattle.hs_plain.specs.Report.{node_id, id_above, last_of, same_id, same_place, has_id, parent_stays, is_changed, line_of, line_if, lines_by, lines_from, place_above, created_in, created_by, created, line_before, with_line, with_lines, report}
use Rattle.hs_plain.proofs.ValidLists.{In, in-flat_map, flat_map_so, in-filter_map, filter_map_so, false_by, not_so}
use Rattle.hs_plain.proofs.ValidTrees.{both, first, second}
use Rattle.hs_plain.proofs.ValidShapes.{by_last, parent_of-last, none_some, same_some, not_last, true_false}
use Rattle.hs_plain.proofs.ValidHeld.{in-tree, found_place}
use Rattle.hs_plain.proofs.Trees.{place_so, place_there}
use Rattle.inode_table.specs.Reads.{Nodes, IsNodes, Has, child, id_of}
use Rattle.inode_table.proofs.Reading.{same_id_so}
use Rattle.change_report.specs.LineKinds.{Below, Gone, Moved, Stamped, New, IsLine}

-- ---- lines put in their places

in-with_line : (line : Line) (lines : List Line) (x : Line) → In (with_line line lines) x → (line ≡ x) ⊎ In lines x
in-with_line line [] x at = at
in-with_line line (other ∷ lines) x at = by (line_before other line) at (in-with_line line lines x)
  where
    by : (b : Bool) → In (cond b (other ∷ with_line line lines) (line ∷ other ∷ lines)) x → (In (with_line line lines) x → (line ≡ x) ⊎ In lines x) → (line ≡ x) ⊎ In (other ∷ lines) x
    by true (inl e) below = inr (inl e)
    by true (inr at) below = later (below at)
      where
        later : (line ≡ x) ⊎ In lines x → (line ≡ x) ⊎ In (other ∷ lines) x
        later (inl e) = inl e
        later (inr at) = inr (inr at)
    by false at below = at

with_line-in : (line : Line) (lines : List Line) (x : Line) → (line ≡ x) ⊎ In lines x → In (with_line line lines) x
with_line-in line [] x at = at
with_line-in line (other ∷ lines) x at = by (line_before other line) at (with_line-in line lines x)
  where
    by : (b : Bool) → (line ≡ x) ⊎ In (other ∷ lines) x → ((line ≡ x) ⊎ In lines x → In (with_line line lines) x) → In (cond b (other ∷ with_line line lines) (line ∷ other ∷ lines)) x
    by true (inl e) below = inr (below (inl e))
    by true (inr (inl e)) below = inl e
    by true (inr (inr at)) below = inr (below (inr at))
    by false at below = at

in-with_lines : (more lines : List Line) (x : Line) → In (with_lines more lines) x → In more x ⊎ In lines x
in-with_lines [] lines x at = inr at
in-with_lines (line ∷ more) lines x at = by (in-with_line line (with_lines more lines) x at) (in-with_lines more lines x)
  where
    later : In more x ⊎ In lines x → In (line ∷ more) x ⊎ In lines x
    later (inl at) = inl (inr at)
    later (inr at) = inr at

    by : (line ≡ x) ⊎ In (with_lines more lines) x → (In (with_lines more lines) x → In more x ⊎ In lines x) → In (line ∷ more) x ⊎ In lines x
    by (inl e) below = inl (inl e)
    by (inr at) below = later (below at)

with_lines-in : (more lines : List Line) (x : Line) → In more x ⊎ In lines x → In (with_lines more lines) x
with_lines-in [] lines x (inl at) = absurd at
with_lines-in [] lines x (inr at) = at
with_lines-in (line ∷ more) lines x (inl (inl e)) = with_line-in line (with_lines more lines) x (inl e)
with_lines-in (line ∷ more) lines x (inl (inr at)) = with_line-in line (with_lines more lines) x (inr (with_lines-in more lines x (inl at)))
with_lines-in (line ∷ more) lines x (inr at) = with_line-in line (with_lines more lines) x (inr (with_lines-in more lines x (inr at)))

pub in-line_if : (test : Bool) (line : Line) (more : List Line) (x : Line) → In (line_if test line more) x → ((test ≡ true) × (line ≡ x)) ⊎ In more x
in-line_if true line more x (inl e) = inl (refl, e)
in-line_if true line more x (inr at) = inr at
in-line_if false line more x at = inr at

pub line_if-here : (test : Bool) (line : Line) (more : List Line) (x : Line) → test ≡ true → line ≡ x → In (line_if test line more) x
line_if-here test line more x t e = subst (λ b. In (line_if b line more) x) (sym t) (inl e)

pub line_if-later : (test : Bool) (line : Line) (more : List Line) (x : Line) → In more x → In (line_if test line more) x
line_if-later true line more x at = inr at
line_if-later false line more x at = at

-- ---- names

pub last_of-last : (above : Names) (name : List ℕ) → last_of (above ++ name ∷ []) ≡ name
last_of-last [] name = refl
last_of-last (one ∷ []) name = refl
last_of-last (one ∷ next ∷ above) name = last_of-last (next ∷ above) name

root_path-last : (above : Names) (name : List ℕ) → is_root_path (above ++ name ∷ []) ≡ false
root_path-last [] name = refl
root_path-last (one ∷ above) name = refl

-- ---- one tree

-- its paths rise, nothing stands without a directory above it, and each id stands once
pub record IsWhole {B : Type 0} (tree : Tree B) : Type 0 where
  pub sorted : is_sorted path_cmp tree ≡ true
  pub is : IsNodes (node_at tree)

module _ {B : Type 0} (tree : Tree B) (whole : IsWhole tree) where
  once : (p q : Names) (a b : Node B) → node_at tree p ≡ Some a → node_at tree q ≡ Some b → a.id.0 ≡ b.id.0 → p ≡ q
  once p q a b at bt same = whole.is.once p q a b at bt (same_id_so a.id b.id same)

  -- the place of an id
  pub place-at : (id : InodeId) (p : Names) (n : Node B) → node_at tree p ≡ Some n → n.id ≡ id → place_of tree id ≡ Some (p, n)
  place-at id p n at same = place_there tree whole.sorted once id p n at (ap (λ (i : InodeId). i.0) same)

  pub placed-so : (id : InodeId) (place : Names × Node B) → place_of tree id ≡ Some place → (node_at tree place.0 ≡ Some place.1) × (place.1.id ≡ id)
  placed-so id place e = let so = place_so tree id place e in (found_place tree whole.sorted place so.0, same_id_so place.1.id id so.1)

  pub no-place : (id : InodeId) → (Has (node_at tree) id → ⊥) → place_of tree id ≡ None
  no-place id absent = by (place_of tree id) refl
    where
      by : (o : Option (Names × Node B)) → place_of tree id ≡ o → place_of tree id ≡ None
      by None e = e
      by (Some place) e = let so = placed-so id place e in absurd (absent (record { at = place.0; node = place.1; is = so.0; named = so.1 }))

  pub not-had : (id : InodeId) → place_of tree id ≡ None → Has (node_at tree) id → ⊥
  not-had id none h = none_some (sym none ∙ place-at id h.at h.node h.is h.named)

  pub had : (id : InodeId) → is_some (place_of tree id) ≡ true → Has (node_at tree) id
  had id some = by (place_of tree id) refl some
    where
      by : (o : Option (Names × Node B)) → place_of tree id ≡ o → is_some o ≡ true → Has (node_at tree) id
      by None e h = absurd (true_false h refl)
      by (Some place) e h = let so = placed-so id place e in record { at = place.0; node = place.1; is = so.0; named = so.1 }

  pub has-place : (id : InodeId) → Has (node_at tree) id → is_some (place_of tree id) ≡ true
  has-place id h = ap is_some (place-at id h.at h.node h.is h.named)

  id_above-child : (at : Names) (name : List ℕ) (dir : Node B) → node_at tree at ≡ Some dir → id_above tree (child at name) ≡ Some dir.id
  id_above-child at name dir e = ap (λ (p : Names). option_map node_id (node_at tree p)) (parent_of-last at name) ∙ ap (option_map node_id) e

  -- by whether a place is the root or below a directory
  by-place : {P : Type 0} (path : Names) (n : Node B) → node_at tree path ≡ Some n → (path ≡ [] → P) → ((at : Names) (name : List ℕ) (dir : Node B) → path ≡ child at name → Below (node_at tree) at name dir n → P) → P
  by-place {P} path n at root below = by_last (λ p. path ≡ p → P) path root
      (λ above name e. let up = whole.is.above above n name (sym (ap (node_at tree) e) ∙ at) in below above name up.0 e (record { above = up.1; here = sym (ap (node_at tree) e) ∙ at })) refl

-- ---- two trees of one root

pub record OfOneRoot {B : Type 0} (from to : Tree B) (root : InodeId) : Type 0 where
  pub first : IsWhole from
  pub second : IsWhole to
  pub first_root : id_of (node_at from []) ≡ Some root
  pub second_root : id_of (node_at to []) ≡ Some root

module _ {B : Type 0} (from to : Tree B) (root : InodeId) (two : OfOneRoot from to root) where
  abbrev f : Nodes B
  f = node_at from

  abbrev g : Nodes B
  g = node_at to

  -- the root of the one is that of the other
  root-node : (tree : Tree B) → IsWhole tree → id_of (node_at tree []) ≡ Some root → (path : Names) (n : Node B) → node_at tree path ≡ Some n → n.id ≡ root → path ≡ []
  root-node tree whole is path n at same = by (node_at tree []) refl
    where
      by : (o : Option (Node B)) → node_at tree [] ≡ o → path ≡ []
      by None e = absurd (none_some (sym (ap id_of e) ∙ is))
      by (Some r) e = whole.is.once path [] n r at e (same ∙ sym (same_some (sym (ap id_of e) ∙ is)))

  root-id : (tree : Tree B) → id_of (node_at tree []) ≡ Some root → (n : Node B) → node_at tree [] ≡ Some n → n.id ≡ root
  root-id tree is n at = same_some (sym (ap id_of at) ∙ is)

  -- ---- each line of the report is so

  gone-so : (place : Names × Node B) (line : Line) → node_at from place.0 ≡ Some place.1 → place_of to place.1.id ≡ None → In (lines_by from to place None) line → IsLine f g line
  gone-so place line at none is = by_if (in-line_if (parent_stays from to place.0) (line_of Deleted place.0 None place.1) [] line is)
    where
      absent : Has g place.1.id → ⊥
      absent = not-had to two.second place.1.id none

      stays : (o : Option InodeId) (dir : InodeId) → o ≡ Some dir → has_id to o ≡ true → Has g dir
      stays None dir e h = absurd (none_some e)
      stays (Some id) dir e h = subst (Has g) (same_some e) (had to two.second id h)

      by_if : ((parent_stays from to place.0 ≡ true) × (line_of Deleted place.0 None place.1 ≡ line)) ⊎ In [] line → IsLine f g line
      by_if (inr none) = absurd none
      by_if (inl so) = by-place from two.first place.0 place.1 at
          (λ e. absurd (absent (record { at = []; node = second_root.0; is = second_root.1; named = root-id to two.second_root second_root.0 second_root.1 ∙ sym (root-id from two.first_root place.1 (sym (ap f e) ∙ at)) })))
          (λ at name dir e below. inl (record {
            at = at;
            name = name;
            dir = dir;
            node = place.1;
            stood = below;
            absent = absent;
            stays = stays (id_above from place.0) dir.id (ap (id_above from) e ∙ id_above-child from two.first at name dir below.above) so.0;
            so = sym so.1 ∙ ap (λ (p : Names). line_of Deleted p None place.1) e;
          }))
        where
          second_root : (n : Node B) × (g [] ≡ Some n)
          second_root = by (g []) refl
            where
              by : (o : Option (Node B)) → g [] ≡ o → (n : Node B) × (g [] ≡ Some n)
              by None e = absurd (none_some (sym (ap id_of e) ∙ two.second_root))
              by (Some n) e = (n, e)

  either : (a b : Bool) → not (a || b) ≡ true → (a ≡ false) × (b ≡ false)
  either true b h = absurd (true_false refl (sym h))
  either false b h = (refl, not_so b h)

  abbrev renamed_line : Names × Node B → Names → Line
  renamed_line place path = line_of Renamed place.0 (Some path) place.1

  abbrev modified_line : Names × Node B → Line
  modified_line place = line_of Modified place.0 None place.1

  changed-so : (place other : Names × Node B) (line : Line) → node_at from place.0 ≡ Some place.1 → node_at to other.0 ≡ Some other.1 → other.1.id ≡ place.1.id → In (lines_by from to place (Some other)) line → IsLine f g line
  changed-so place other line at there same is =
      by_first (in-line_if (not (same_place from to place.0 other.0)) (renamed_line place other.0) (line_if (is_changed place.1 other.1) (modified_line place) []) line is)
    where
      moved : not (same_place from to place.0 other.0) ≡ true → (renamed_line place other.0) ≡ line → IsLine f g line
      moved differs so =
          let tests = either (is_root_path place.0) _ differs in
          by-place from two.first place.0 place.1 at
          (λ e. absurd (true_false (ap is_root_path e) tests.0))
          (λ old_at old_name old_dir e stood. by-place to two.second other.0 other.1 there
          (λ d. absurd (not_last old_at old_name (sym e ∙ root-node from two.first two.first_root place.0 place.1 at (sym same ∙ root-id to two.second_root other.1 (sym (ap g d) ∙ there)))))
          (λ new_at new_name new_dir d stands. inr (inl (record {
            old_at = old_at;
            new_at = new_at;
            old_name = old_name;
            new_name = new_name;
            old_dir = old_dir;
            new_dir = new_dir;
            old = place.1;
            new = other.1;
            stood = stood;
            stands = stands;
            same = sym same;
            other = λ dirs names. true_false (both {a = same_id (id_above from place.0) (id_above to other.0)} {b = bytes_eq (last_of place.0) (last_of other.0)}
                (ap (λ o. same_id o (id_above to other.0)) (ap (id_above from) e ∙ id_above-child from two.first old_at old_name old_dir stood.above)
                ∙ ap (same_id (Some old_dir.id)) (ap (id_above to) d ∙ id_above-child to two.second new_at new_name new_dir stands.above)
                ∙ (Decides-eqb old_dir.id.0 new_dir.id.0).1 (ap (λ (i : InodeId). i.0) dirs))
                ((bytes_eq-Decides (last_of place.0) (last_of other.0)).1 (ap last_of e ∙ last_of-last old_at old_name ∙ names ∙ sym (ap last_of d ∙ last_of-last new_at new_name)))) tests.1;
            so = sym so ∙ (λ i. line_of Renamed (e i) (Some (d i)) place.1);
          }))))

      stamped : is_changed place.1 other.1 ≡ true → (modified_line place) ≡ line → IsLine f g line
      stamped differs so = inr (inr (inl (record {
        old_at = place.0;
        new_at = other.0;
        old = place.1;
        new = other.1;
        stood = at;
        stands = there;
        same = sym same;
        other = λ e. true_false ((Decides-eqb place.1.stamp other.1.stamp).1 e) (not_so (place.1.stamp == other.1.stamp) differs);
        so = sym so;
      })))

      by_second : ((is_changed place.1 other.1 ≡ true) × ((modified_line place) ≡ line)) ⊎ In [] line → IsLine f g line
      by_second (inl so) = stamped so.0 so.1
      by_second (inr none) = absurd none

      by_first : ((not (same_place from to place.0 other.0) ≡ true) × ((renamed_line place other.0) ≡ line)) ⊎ In (line_if (is_changed place.1 other.1) (modified_line place) []) line → IsLine f g line
      by_first (inl so) = moved so.0 so.1
      by_first (inr later) = by_second (in-line_if (is_changed place.1 other.1) (modified_line place) [] line later)

  new-so : (place : Names × Node B) (line : Line) → node_at to place.0 ≡ Some place.1 → created from to place ≡ Some line → IsLine f g line
  new-so place line at is = by (place_of from place.1.id) refl is
    where
      by_dir : place_of from place.1.id ≡ None → (id : InodeId) → id_above to place.0 ≡ Some id → (o : Option (Names × Node B)) → place_of from id ≡ o → created_in place o ≡ Some line → IsLine f g line
      by_dir fresh id above None dir_is e = absurd (none_some e)
      by_dir fresh id above (Some dir) dir_is e =
          let was = placed-so from two.first id dir dir_is in
          let absent = not-had from two.first place.1.id fresh in
          by-place to two.second place.0 place.1 at
          (λ d. absurd (absent (subst (Has f) (sym (root-id to two.second_root place.1 (sym (ap g d) ∙ at))) first_root)))
          (λ new_at name new_dir d stands. inr (inr (inr (record {
            at = new_at;
            name = name;
            dir = new_dir;
            node = place.1;
            stands = stands;
            absent = absent;
            dir_at = dir.0;
            old_dir = dir.1;
            was = was.0;
            same = was.1 ∙ same_some (sym above ∙ ap (id_above to) d ∙ id_above-child to two.second new_at name new_dir stands.above);
            so = sym (same_some e) ∙ ap (λ (n : List ℕ). line_of Created (dir.0 ++ n ∷ []) None place.1) (ap last_of d ∙ last_of-last new_at name);
          }))))
        where
          first_root : Has f root
          first_root = by (f []) refl
            where
              by : (o : Option (Node B)) → f [] ≡ o → Has f root
              by None e = absurd (none_some (sym (ap id_of e) ∙ two.first_root))
              by (Some n) e = record { at = []; node = n; is = e; named = root-id from two.first_root n e }

      by_above : place_of from place.1.id ≡ None → (o : Option InodeId) → id_above to place.0 ≡ o → created_in place (place_above from o) ≡ Some line → IsLine f g line
      by_above fresh None above e = absurd (none_some e)
      by_above fresh (Some id) above e = by_dir fresh id above (place_of from id) refl e

      by : (o : Option (Names × Node B)) → place_of from place.1.id ≡ o → created_by from to place o ≡ Some line → IsLine f g line
      by None fresh e = by_above fresh (id_above to place.0) refl e
      by (Some other) fresh e = absurd (none_some e)

  from-so : (place : Names × Node B) (line : Line) → node_at from place.0 ≡ Some place.1 → In (lines_from from to place) line → IsLine f g line
  from-so place line at is = by (place_of to place.1.id) refl is
    where
      by : (o : Option (Names × Node B)) → place_of to place.1.id ≡ o → In (lines_by from to place o) line → IsLine f g line
      by None e h = gone-so place line at e h
      by (Some other) e h = let so = placed-so to two.second place.1.id other e in changed-so place other line at so.0 so.1 h

  pub report-so : (line : Line) → In (report from to) line → IsLine f g line
  report-so line is = by (in-with_lines (filter_map (created from to) to) (flat_map (lines_from from to) from) line is)
    where
      by : In (filter_map (created from to) to) line ⊎ In (flat_map (lines_from from to) from) line → IsLine f g line
      by (inl at) = let one = filter_map_so (created from to) to line at in new-so one.0 line (found_place to two.second.sorted one.0 one.1) one.2
      by (inr at) = let one = flat_map_so (lines_from from to) from line at in from-so one.0 line (found_place from two.first.sorted one.0 one.1) one.2

  -- ---- and each line that is so is one of them

  from-first : (place : Names × Node B) (line : Line) → In from place → In (lines_from from to place) line → In (report from to) line
  from-first place line at is = with_lines-in (filter_map (created from to) to) (flat_map (lines_from from to) from) line (inr (in-flat_map (lines_from from to) from place line at is))

  gone-in : (line : Line) → Gone f g line → In (report from to) line
  gone-in line gone =
      let path = child gone.at gone.name in
      from-first (path, gone.node) line (in-tree from path gone.node gone.stood.here)
      (subst (λ o. In (lines_by from to (path, gone.node) o) line) (sym (no-place to two.second gone.node.id gone.absent))
      (line_if-here (parent_stays from to path) (line_of Deleted path None gone.node) [] line
      (ap (has_id to) (id_above-child from two.first gone.at gone.name gone.dir gone.stood.above) ∙ has-place to two.second gone.dir.id gone.stays)
      (sym gone.so)))

  other-place : (old_at new_at : Names) (old_name new_name : List ℕ) (old_dir new_dir : Node B) → f old_at ≡ Some old_dir → g new_at ≡ Some new_dir → (old_dir.id ≡ new_dir.id → old_name ≡ new_name → ⊥)
      → same_place from to (child old_at old_name) (child new_at new_name) ≡ false
  other-place old_at new_at old_name new_name old_dir new_dir above there other = false_by _ (λ h.
      let tests = sym (ap (λ b. b || (same_id (id_above from (child old_at old_name)) (id_above to (child new_at new_name)) && bytes_eq (last_of (child old_at old_name)) (last_of (child new_at new_name)))) (root_path-last old_at old_name)) ∙ h in
      other
      (same_id_so old_dir.id new_dir.id ((Decides-eqb old_dir.id.0 new_dir.id.0).0
      (sym (ap (λ o. same_id o (id_above to (child new_at new_name))) (id_above-child from two.first old_at old_name old_dir above) ∙ ap (same_id (Some old_dir.id)) (id_above-child to two.second new_at new_name new_dir there))
      ∙ first (same_id (id_above from (child old_at old_name)) (id_above to (child new_at new_name))) _ tests)))
      (sym (last_of-last old_at old_name)
      ∙ (bytes_eq-Decides (last_of (child old_at old_name)) (last_of (child new_at new_name))).0 (second (same_id (id_above from (child old_at old_name)) (id_above to (child new_at new_name))) _ tests)
      ∙ last_of-last new_at new_name))

  moved-in : (line : Line) → Moved f g line → In (report from to) line
  moved-in line moved =
      let old_path = child moved.old_at moved.old_name in let new_path = child moved.new_at moved.new_name in
      from-first (old_path, moved.old) line (in-tree from old_path moved.old moved.stood.here)
      (subst (λ o. In (lines_by from to (old_path, moved.old) o) line) (sym (place-at to two.second moved.old.id new_path moved.new moved.stands.here (sym moved.same)))
      (line_if-here (not (same_place from to old_path new_path)) (renamed_line (old_path, moved.old) new_path) _ line
      (ap not (other-place moved.old_at moved.new_at moved.old_name moved.new_name moved.old_dir moved.new_dir moved.stood.above moved.stands.above moved.other))
      (sym moved.so)))

  stamped-in : (line : Line) → Stamped f g line → In (report from to) line
  stamped-in line stamped =
      from-first (stamped.old_at, stamped.old) line (in-tree from stamped.old_at stamped.old stamped.stood)
      (subst (λ o. In (lines_by from to (stamped.old_at, stamped.old) o) line) (sym (place-at to two.second stamped.old.id stamped.new_at stamped.new stamped.stands (sym stamped.same)))
      (line_if-later (not (same_place from to stamped.old_at stamped.new_at)) (renamed_line (stamped.old_at, stamped.old) stamped.new_at) _ line
      (line_if-here (is_changed stamped.old stamped.new) (modified_line (stamped.old_at, stamped.old)) [] line
      (ap not (false_by (stamped.old.stamp == stamped.new.stamp) (λ t. stamped.other ((Decides-eqb stamped.old.stamp stamped.new.stamp).0 t))))
      (sym stamped.so))))

  new-in : (line : Line) → New f g line → In (report from to) line
  new-in line new =
      let path = child new.at new.name in
      with_lines-in (filter_map (created from to) to) (flat_map (lines_from from to) from) line (inl (in-filter_map (created from to) to (path, new.node) line (in-tree to path new.node new.stands.here)
      (ap (created_by from to (path, new.node)) (no-place from two.first new.node.id new.absent)
      ∙ ap (λ o. created_in (path, new.node) (place_above from o)) (id_above-child to two.second new.at new.name new.dir new.stands.above)
      ∙ ap (created_in (path, new.node)) (place-at from two.first new.dir.id new.dir_at new.old_dir new.was new.same)
      ∙ ap (λ (n : List ℕ). Some (line_of Created (new.dir_at ++ n ∷ []) None new.node)) (last_of-last new.at new.name)
      ∙ ap (λ (l : Line). Some l) (sym new.so))))

  pub line-in : (line : Line) → IsLine f g line → In (report from to) line
  line-in line (inl gone) = gone-in line gone
  line-in line (inr (inl moved)) = moved-in line moved
  line-in line (inr (inr (inl stamped))) = stamped-in line stamped
  line-in line (inr (inr (inr new))) = new-in line new

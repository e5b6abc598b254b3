-- The lines of a report, by kind, and what each tells.
use Rattle.std.proofs.Common.{◌≡◌, inl, inr, ℕ, Bool, true, false, ◌||◌, cond, Option, Some, None, is_some, List, [], ◌∷◌, ◌++◌, refl, ap, sym, subst, ◌∙◌}
use Rattle.std.specs.Prelude.{not}
use Rattle.std.specs.List.{filter_map, flat_map}
use Rattle.std.proofs.lemmas.Bool.Decides.{Decides-eqb}
use Rattle.hs_types.specs.Names.{Names}
use Rattle.hs_types.specs.declared.ids.InodeId.{InodeId}
use Rattle.hs_types.specs.declared.reply.Line.{Line}
use Rattle.hs_types.specs.declared.reply.LineKind.{LineKind}
use Rattle.hs_types.specs.declared.reply.LineKind.TheVariants.{Deleted, Renamed, Modified, Created}
use Rattle.hs_plain.specs.declared.state.Node.{Node}
use Rattle.hs_plain.specs.Tree.{Tree, node_at, is_dir, same_inode, place_of}
use Rattle.hs_plain.specs.Report.{same_place, is_changed, parent_stays, line_of, line_if, lines_by, lines_from, created_in, created_by, created, place_above, line_before, with_line, with_lines, report}
use Rattle.hs_plain.proofs.ValidShapes.{none_some, same_some, true_false, by_last}
use Rattle.hs_plain.proofs.ValidLists.{In, in-flat_map, flat_map_so, in-filter_map, filter_map_so, not_so}
use Rattle.hs_plain.proofs.ValidHeld.{in-tree, found_place}
use Rattle.plan_laws.specs.Pair.{IsPair}
use Rattle.plan_laws.proofs.Paths.{by, by_one}
use Rattle.plan_laws.proofs.Places.{place_of-so, place_of-here, place_of-missing, dir-above, id_above-at, last_of-last}
use Rattle.plan_laws.proofs.Child.{same_place_new}
use Rattle.plan_laws.proofs.NewItems.{created-at}
use Rattle.distcp_plan.specs.Planned.{target_by, target_of, has_id, renames}

-- ---- lists of lines

in-with_line : (one : Line) (lines : List Line) (x : Line) → In lines x → In (with_line one lines) x
in-with_line one [] x at = absurd at
in-with_line one (other ∷ lines) x at = either (line_before other one) at (in-with_line one lines x)
  where
    either : (b : Bool) → In (other ∷ lines) x → (In lines x → In (with_line one lines) x) → In (cond b (other ∷ with_line one lines) (one ∷ other ∷ lines)) x
    either true (inl e) rest = inl e
    either true (inr at) rest = inr (rest at)
    either false at rest = inr at

in-own : (one : Line) (lines : List Line) → In (with_line one lines) one
in-own one [] = inl refl
in-own one (other ∷ lines) = either (line_before other one) (in-own one lines)
  where
    either : (b : Bool) → In (with_line one lines) one → In (cond b (other ∷ with_line one lines) (one ∷ other ∷ lines)) one
    either true rest = inr rest
    either false rest = inl refl

with_line-so : {P : Type 0} (one : Line) (lines : List Line) (x : Line) → In (with_line one lines) x → (one ≡ x → P) → (In lines x → P) → P
with_line-so one [] x (inl e) own other = own e
with_line-so one [] x (inr none) own other = absurd none
with_line-so {P} one (first ∷ lines) x at own other = either (line_before first one) at (λ at right. with_line-so one lines x at own right)
  where
    either : (b : Bool) → In (cond b (first ∷ with_line one lines) (one ∷ first ∷ lines)) x → (In (with_line one lines) x → (In lines x → P) → P) → P
    either true (inl e) rest = other (inl e)
    either true (inr at) rest = rest at (λ later. other (inr later))
    either false (inl e) rest = own e
    either false (inr at) rest = other at

in-lines : (more lines : List Line) (x : Line) → In lines x → In (with_lines more lines) x
in-lines [] lines x at = at
in-lines (one ∷ more) lines x at = in-with_line one (with_lines more lines) x (in-lines more lines x at)

in-more : (more lines : List Line) (x : Line) → In more x → In (with_lines more lines) x
in-more [] lines x at = absurd at
in-more (one ∷ more) lines x (inl e) = subst (In (with_line one (with_lines more lines))) e (in-own one (with_lines more lines))
in-more (one ∷ more) lines x (inr at) = in-with_line one (with_lines more lines) x (in-more more lines x at)

with_lines-so : {P : Type 0} (more lines : List Line) (x : Line) → In (with_lines more lines) x → (In more x → P) → (In lines x → P) → P
with_lines-so [] lines x at left right = right at
with_lines-so (one ∷ more) lines x at left right = with_line-so one (with_lines more lines) x at (λ e. left (inl e)) (λ later. with_lines-so more lines x later (λ there. left (inr there)) right)

if-so : {P : Type 0} (b : Bool) (one : Line) (more : List Line) (x : Line) → In (line_if b one more) x → (b ≡ true → one ≡ x → P) → (In more x → P) → P
if-so true one more x (inl e) here later = here refl e
if-so true one more x (inr at) here later = later at
if-so false one more x at here later = later at

if-later : (b : Bool) (one : Line) (more : List Line) (x : Line) → In more x → In (line_if b one more) x
if-later true one more x at = inr at
if-later false one more x at = at

module _ {B : Type 0} (from to : Tree B) (is : IsPair from to) where
  abbrev pub lines : List Line
  lines = report from to

  -- a node of both trees that has another place
  pub record IsMoved (line : Line) : Type 0 where
    pub old : Names
    pub new : Names
    pub was : Node B
    pub now : Node B
    pub at_old : node_at from old ≡ Some was
    pub at_new : node_at to new ≡ Some now
    pub same_id : was.id.0 ≡ now.id.0
    pub apart : same_place from to old new ≡ false
    pub line_is : line_of Renamed old (Some new) was ≡ line

  -- a node of both trees that has another stamp
  pub record IsChanged (line : Line) : Type 0 where
    pub old : Names
    pub new : Names
    pub was : Node B
    pub now : Node B
    pub at_old : node_at from old ≡ Some was
    pub at_new : node_at to new ≡ Some now
    pub same_id : was.id.0 ≡ now.id.0
    pub changed : is_changed was now ≡ true
    pub line_is : line_of Modified old None was ≡ line

  -- a new node in a directory of both trees
  pub record IsMade (line : Line) : Type 0 where
    pub above : Names
    pub name : List ℕ
    pub node : Node B
    pub dir : Node B
    pub old : Names × Node B
    pub at : node_at to (above ++ name ∷ []) ≡ Some node
    pub there : node_at to above ≡ Some dir
    pub new : place_of from node.id ≡ None
    pub old_dir : place_of from dir.id ≡ Some old
    pub line_is : line_of Created (old.0 ++ name ∷ []) None node ≡ line

  module _ {P : Type 0} (line : Line) (deleted : line.kind ≡ Deleted → P) (moved : IsMoved line → P) (changed : IsChanged line → P) (made : IsMade line → P) where
    of-place : (place : Names × Node B) → node_at from place.0 ≡ Some place.1 → (o : Option (Names × Node B)) → place_of to place.1.id ≡ o → In (lines_by from to place o) line → P
    of-place place at None none lines_at = if-so (parent_stays from to place.0) (line_of Deleted place.0 None place.1) [] line lines_at (λ _ e. deleted (ap (λ (x : Line). x.kind) (sym e))) (λ none. absurd none)
    of-place place at (Some other) there lines_at =
        let so : (node_at to other.0 ≡ Some other.1) × (other.1.id.0 ≡ place.1.id.0) = place_of-so to place.1.id other is.to_tree.sorted there in
        if-so (not (same_place from to place.0 other.0)) (line_of Renamed place.0 (Some other.0) place.1) (line_if (is_changed place.1 other.1) (line_of Modified place.0 None place.1) []) line lines_at
        (λ t e. moved (record { old = place.0; new = other.0; was = place.1; now = other.1; at_old = at; at_new = so.0; same_id = sym so.1; apart = not_so _ t; line_is = e }))
        (λ later. if-so (is_changed place.1 other.1) (line_of Modified place.0 None place.1) [] line later
        (λ t e. changed (record { old = place.0; new = other.0; was = place.1; now = other.1; at_old = at; at_new = so.0; same_id = sym so.1; changed = t; line_is = e }))
        (λ none. absurd none))

    of-new : (q : Names) (m : Node B) → node_at to q ≡ Some m → created from to (q, m) ≡ Some line → P
    of-new q m at told = by_last (λ q. node_at to q ≡ Some m → created from to (q, m) ≡ Some line → P) q
        (λ at told. absurd (none_some (sym (ap (created_by from to ([], m)) (place_of-here from is.from_tree [] is.from_root m.id is.from_at (ap (λ (x : Node B). x.id.0) (sym (same_some (sym is.to_at ∙ at))) ∙ sym is.same_root))) ∙ told)))
        (λ above name at told. by_one (place_of from m.id)
        (λ old was. absurd (none_some (sym (ap (created_by from to (above ++ name ∷ [], m)) was) ∙ told)))
        (λ none. let d : (dir : Node B) × (node_at to above ≡ Some dir) × (is_dir dir ≡ true) = dir-above to is.to_tree above name m at in
        let in_dir : created_in (above ++ name ∷ [], m) (place_of from d.0.id) ≡ Some line = ap (λ o. created_in (above ++ name ∷ [], m) (place_above from o)) (sym (id_above-at to above name d.0 d.1)) ∙ ap (created_by from to (above ++ name ∷ [], m)) (sym none) ∙ told in
        by_one (place_of from d.0.id)
        (λ old was. made (record {
          above = above;
          name = name;
          node = m;
          dir = d.0;
          old = old;
          at = at;
          there = d.1;
          new = none;
          old_dir = was;
          line_is = ap (λ (n : List ℕ). line_of Created (old.0 ++ n ∷ []) None m) (sym (last_of-last above name)) ∙ same_some (ap (created_in (above ++ name ∷ [], m)) (sym was) ∙ in_dir);
        }))
        (λ gone. absurd (none_some (sym (ap (created_in (above ++ name ∷ [], m)) gone) ∙ in_dir)))))
        at told

    -- a line of the report is one of these
    pub by-line : In lines line → P
    by-line at = with_lines-so (filter_map (created from to) to) (flat_map (lines_from from to) from) line at
        (λ new. let w : (place : Names × Node B) × (In to place) × (created from to place ≡ Some line) = filter_map_so (created from to) to line new in
        of-new w.0.0 w.0.1 (found_place to is.to_tree.sorted w.0 w.1) w.2)
        (λ old. let w : (place : Names × Node B) × (In from place) × (In (lines_from from to place) line) = flat_map_so (lines_from from to) from line old in
        of-place w.0 (found_place from is.from_tree.sorted w.0 w.1) (place_of to w.0.1.id) refl w.2)

  -- ---- and each of these has its line

  of-both : (old new : Names) (was now : Node B) → node_at from old ≡ Some was → node_at to new ≡ Some now → was.id.0 ≡ now.id.0 → (line : Line) → In (lines_by from to (old, was) (Some (new, now))) line → In lines line
  of-both old new was now at_old at_new same line at = in-lines (filter_map (created from to) to) (flat_map (lines_from from to) from) line
      (in-flat_map (lines_from from to) from (old, was) line (in-tree from old was at_old)
      (subst (λ o. In (lines_by from to (old, was) o) line) (sym (place_of-here to is.to_tree new now was.id at_new same)) at))

  pub moved-in : (old new : Names) (was now : Node B) → node_at from old ≡ Some was → node_at to new ≡ Some now → was.id.0 ≡ now.id.0 → same_place from to old new ≡ false → In lines (line_of Renamed old (Some new) was)
  moved-in old new was now at_old at_new same apart = of-both old new was now at_old at_new same (line_of Renamed old (Some new) was)
      (subst (λ b. In (line_if (not b) (line_of Renamed old (Some new) was) (line_if (is_changed was now) (line_of Modified old None was) [])) (line_of Renamed old (Some new) was)) (sym apart) (inl refl))

  pub changed-in : (old new : Names) (was now : Node B) → node_at from old ≡ Some was → node_at to new ≡ Some now → was.id.0 ≡ now.id.0 → is_changed was now ≡ true → In lines (line_of Modified old None was)
  changed-in old new was now at_old at_new same changed = of-both old new was now at_old at_new same (line_of Modified old None was)
      (if-later (not (same_place from to old new)) (line_of Renamed old (Some new) was) (line_if (is_changed was now) (line_of Modified old None was) []) (line_of Modified old None was)
      (subst (λ b. In (line_if b (line_of Modified old None was) []) (line_of Modified old None was)) (sym changed) (inl refl)))

  pub made-in : (above : Names) (name : List ℕ) (node dir : Node B) (old : Names × Node B) → node_at to (above ++ name ∷ []) ≡ Some node → node_at to above ≡ Some dir → place_of from node.id ≡ None → place_of from dir.id ≡ Some old →
      In lines (line_of Created (old.0 ++ name ∷ []) None node)
  made-in above name node dir old at there new was = in-more (filter_map (created from to) to) (flat_map (lines_from from to) from) (line_of Created (old.0 ++ name ∷ []) None node)
      (in-filter_map (created from to) to (above ++ name ∷ [], node) (line_of Created (old.0 ++ name ∷ []) None node) (in-tree to (above ++ name ∷ []) node at)
      (created-at from to is above name node dir old.1 old.0 at there new was).0)

  -- ---- whose ids were moved

  or_second : (a b : Bool) → b ≡ true → (a || b) ≡ true
  or_second true b h = refl
  or_second false b h = h

  renames-in : (ls : List Line) (line : Line) (t : Names) (id : InodeId) → In ls line → target_of line ≡ Some t → line.id.0 ≡ id.0 → renames ls id ≡ true
  renames-in [] line t id at to_is same = absurd at
  renames-in (one ∷ ls) line t id (inl e) to_is same = subst (λ (x : Line). (has_id (target_of x) x.id id || renames ls id) ≡ true) (sym e)
      (ap (λ o. has_id o line.id id || renames ls id) to_is ∙ ap (λ b. b || renames ls id) ((Decides-eqb line.id.0 id.0).1 same))
  renames-in (one ∷ ls) line t id (inr at) to_is same = or_second (has_id (target_of one) one.id id) (renames ls id) (renames-in ls line t id at to_is same)

  pub record IsSource (ls : List Line) (id : InodeId) : Type 0 where
    pub line : Line
    pub target : Names
    pub at : In ls line
    pub target_is : target_of line ≡ Some target
    pub same : line.id.0 ≡ id.0

  renames-so : (ls : List Line) (id : InodeId) → renames ls id ≡ true → IsSource ls id
  renames-so [] id h = absurd (true_false h refl)
  renames-so (one ∷ ls) id h = at (target_of one) refl (λ t. later (renames-so ls id t))
    where
      later : IsSource ls id → IsSource (one ∷ ls) id
      later s = record { line = s.line; target = s.target; at = inr s.at; target_is = s.target_is; same = s.same }

      at : (o : Option Names) → target_of one ≡ o → (renames ls id ≡ true → IsSource (one ∷ ls) id) → IsSource (one ∷ ls) id
      at None e rest = rest (ap (λ o. has_id o one.id id || renames ls id) (sym e) ∙ h)
      at (Some t) e rest = by (same_inode one.id id)
          (λ same. record { line = one; target = t; at = inl refl; target_is = e; same = (Decides-eqb one.id.0 id.0).0 same })
          (λ other. rest (ap (λ b. b || renames ls id) (sym other) ∙ ap (λ o. has_id o one.id id || renames ls id) (sym e) ∙ h))

  pub no-target : (line : Line) (kind : LineKind) (t : Names) → line.kind ≡ kind → target_by kind line.to ≡ None → target_of line ≡ Some t → ⊥
  no-target line kind t e none some = none_some (sym none ∙ ap (λ k. target_by k line.to) (sym e) ∙ some)

  -- a node in a new directory is new where no line has its id
  pub child-new : (above : Names) (name : List ℕ) (dir node : Node B) → node_at to above ≡ Some dir → place_of from dir.id ≡ None → node_at to (above ++ name ∷ []) ≡ Some node → (o : Option (Names × Node B)) → place_of from node.id ≡ o → renames lines node.id ≡ is_some o
  child-new above name dir node there new at (Some old) was =
      let so : (node_at from old.0 ≡ Some old.1) × (old.1.id.0 ≡ node.id.0) = place_of-so from node.id old is.from_tree.sorted was in
      renames-in lines (line_of Renamed old.0 (Some (above ++ name ∷ [])) old.1) (above ++ name ∷ []) node.id
      (moved-in old.0 (above ++ name ∷ []) old.1 node so.0 at so.1 (same_place_new from to is above name dir node old there new at was)) refl so.1
  child-new above name dir node there new at None none = by (renames lines node.id)
      (λ t. let s : IsSource lines node.id = renames-so lines node.id t in
      absurd (by-line s.line
      (λ gone. no-target s.line Deleted s.target gone refl s.target_is)
      (λ moved. place_of-missing from node.id moved.old moved.was none moved.at_old (ap (λ (x : Line). x.id.0) moved.line_is ∙ s.same))
      (λ changed. no-target s.line Modified s.target (ap (λ (x : Line). x.kind) (sym changed.line_is)) refl s.target_is)
      (λ made. no-target s.line Created s.target (ap (λ (x : Line). x.kind) (sym made.line_is)) refl s.target_is)
      s.at))
      (λ f. f)

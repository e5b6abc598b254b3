-- What is new, by lines and listings.
use Rattle.std.proofs.Common.{◌≡◌, ℕ, true, false, ◌||◌, cond, Option, Some, None, List, [], ◌∷◌, ◌++◌, refl, ap, sym, ◌∙◌}
use Rattle.std.specs.Prelude.{not, ◌&&◌, ◌==◌}
use Rattle.std.specs.List.{filter_map, flat_map, AllByRecursion}
use Rattle.std.proofs.lemmas.Bool.Decides.{Decides-eqb}
use Rattle.hs_types.specs.Names.{Names}
use Rattle.hs_types.specs.declared.ids.InodeId.{InodeId}
use Rattle.hs_plain.specs.declared.state.Node.{Node}
use Rattle.hs_plain.specs.Tree.{Tree, node_at, same_inode, place_of}
use Rattle.hs_plain.proofs.ValidTrees.{first, second}
use Rattle.hs_plain.proofs.ValidShapes.{none_some, true_false}
use Rattle.hs_plain.proofs.ValidPlaces.{by_place}
use Rattle.hs_types.specs.declared.reply.LineKind.{LineKind}
use Rattle.hs_types.specs.declared.reply.LineKind.TheVariants.{Deleted, Renamed, Modified, Created}
use Rattle.hs_types.specs.declared.reply.Line.{Line}
use Rattle.hs_plain.specs.Report.{line_of, line_if, lines_by, lines_from, created_in, created_by, created, place_above, line_before, with_line, with_lines, report}
use Rattle.hs_plain.specs.Plan.{translate}
use Rattle.plan_laws.specs.Pair.{IsPair}
use Rattle.plan_laws.specs.Translated.{is_renaming, renames_id}
use Rattle.plan_laws.proofs.Paths.{by}
use Rattle.plan_laws.proofs.Places.{last_of-last, place_of-so, place_of-missing, place_of-here, id_above-at}
use Rattle.plan_laws.proofs.Child.{or_second, or_split, same_place_new}
use Rattle.plan_laws.proofs.Translated.{translated}

-- ---- lists of lines

id-with_line : (one : Line) (lines : List Line) (id : InodeId) → renames_id lines id ≡ true → renames_id (with_line one lines) id ≡ true
id-with_line one [] id h = absurd (true_false h refl)
id-with_line one (other ∷ lines) id h = elim (line_before other one) as (λ b. renames_id (cond b (other ∷ with_line one lines) (one ∷ other ∷ lines)) id ≡ true) [
  | true ↦ or_split (is_renaming other.kind other.to && same_inode other.id id) (renames_id lines id) h
      (λ t. ap (λ b. b || renames_id (with_line one lines) id) t)
      (λ t. or_second (is_renaming other.kind other.to && same_inode other.id id) (renames_id (with_line one lines) id) (id-with_line one lines id t))
  | false ↦ or_second (is_renaming one.kind one.to && same_inode one.id id) (renames_id (other ∷ lines) id) h
]

id-with_lines : (more lines : List Line) (id : InodeId) → renames_id lines id ≡ true → renames_id (with_lines more lines) id ≡ true
id-with_lines [] lines id h = h
id-with_lines (one ∷ more) lines id h = id-with_line one (with_lines more lines) id (id-with_lines more lines id h)

id-left : (xs ys : List Line) (id : InodeId) → renames_id xs id ≡ true → renames_id (xs ++ ys) id ≡ true
id-left [] ys id h = absurd (true_false h refl)
id-left (x ∷ xs) ys id h = or_split (is_renaming x.kind x.to && same_inode x.id id) (renames_id xs id) h
    (λ t. ap (λ b. b || renames_id (xs ++ ys) id) t)
    (λ t. or_second (is_renaming x.kind x.to && same_inode x.id id) (renames_id (xs ++ ys) id) (id-left xs ys id t))

id-right : (xs ys : List Line) (id : InodeId) → renames_id ys id ≡ true → renames_id (xs ++ ys) id ≡ true
id-right [] ys id h = h
id-right (x ∷ xs) ys id h = or_second (is_renaming x.kind x.to && same_inode x.id id) (renames_id (xs ++ ys) id) (id-right xs ys id h)

module _ {B : Type 0} where
  id-flat : (f : Names × Node B → List Line) (tree : Tree B) (q : Names) (m : Node B) (id : InodeId) → node_at tree q ≡ Some m → renames_id (f (q, m)) id ≡ true → renames_id (flat_map f tree) id ≡ true
  id-flat f [] q m id at h = absurd (none_some at)
  id-flat f (e ∷ es) q m id at h = by_place e es q m at
      (λ qe me. id-left (f e) (flat_map f es) id (ap (λ (x : List Line). renames_id x id) (sym (λ i. f (qe i, me i))) ∙ h))
      (λ bt. id-right (f e) (flat_map f es) id (id-flat f es q m id bt h))

module _ {B : Type 0} (from to : Tree B) (is : IsPair from to) where
  -- the line of a new node in a directory that was there, and where it leads
  pub created-at : (t : Names) (n : List ℕ) (m d x : Node B) (dp : Names) → node_at to (t ++ n ∷ []) ≡ Some m → node_at to t ≡ Some d → place_of from m.id ≡ None → place_of from d.id ≡ Some (dp, x) →
      (created from to (t ++ n ∷ [], m) ≡ Some (line_of Created (dp ++ n ∷ []) None m)) × (translate (report from to) dp ++ n ∷ [] ≡ t ++ n ∷ [])
  created-at t n m d x dp at there new old =
      let so : (node_at from dp ≡ Some x) × (x.id.0 ≡ d.id.0) = place_of-so from d.id (dp, x) is.from_tree.sorted old in (
        ap (created_by from to (t ++ n ∷ [], m)) new
            ∙ ap (λ o. created_in (t ++ n ∷ [], m) (place_above from o)) (id_above-at to t n d there)
            ∙ ap (created_in (t ++ n ∷ [], m)) old
            ∙ ap (λ (name : List ℕ). Some (line_of Created (dp ++ name ∷ []) None m)) (last_of-last t n),
        ap (λ (p : Names). p ++ n ∷ []) (translated from to is dp t x d so.0 there so.1),
      )

  -- a node that was there and stands in a new directory has a renaming line
  pub renamed-id : (t : Names) (n : List ℕ) (d c : Node B) (old : Names × Node B) → node_at to t ≡ Some d → place_of from d.id ≡ None → node_at to (t ++ n ∷ []) ≡ Some c → place_of from c.id ≡ Some old → renames_id (report from to) c.id ≡ true
  renamed-id t n d c old there new at h =
      let so : (node_at from old.0 ≡ Some old.1) × (old.1.id.0 ≡ c.id.0) = place_of-so from c.id old is.from_tree.sorted h in
      id-with_lines (filter_map (created from to) to) (flat_map (lines_from from to) from) c.id
      (id-flat (lines_from from to) from old.0 old.1 c.id so.0
      (ap (λ o. renames_id (lines_by from to old o) c.id) (place_of-here to is.to_tree (t ++ n ∷ []) c old.1.id at so.1)
      ∙ ap (λ b. renames_id (line_if (not b) (line_of Renamed old.0 (Some (t ++ n ∷ [])) old.1) (line_if (not (old.1.stamp == c.stamp)) (line_of Modified old.0 None old.1) [])) c.id) (same_place_new from to is t n d c old there new at h)
      ∙ ap (λ b. b || renames_id (line_if (not (old.1.stamp == c.stamp)) (line_of Modified old.0 None old.1) []) c.id) ((Decides-eqb old.1.id.0 c.id.0).1 so.1)))

  -- and a node that wasn't there has none
  pub not-renamed : (id : InodeId) → place_of from id ≡ None → ((lines : List Line) → AllByRecursion (λ one. (t : Names) → one.kind ≡ Renamed → one.to ≡ Some t → (p : Names) × (x : Node B) × (node_at from p ≡ Some x) × (x.id.0 ≡ one.id.0)) lines → renames_id lines id ≡ false)
  not-renamed id none [] each = refl
  not-renamed id none (one ∷ lines) each = by (is_renaming one.kind one.to && same_inode one.id id)
      (λ t. absurd (by-kind one.kind one.to refl refl (first (is_renaming one.kind one.to) (same_inode one.id id) t) (second (is_renaming one.kind one.to) (same_inode one.id id) t)))
      (λ f. ap (λ b. b || renames_id lines id) f ∙ not-renamed id none lines each.1)
    where
      by-kind : (k : LineKind) (o : Option Names) → one.kind ≡ k → one.to ≡ o → is_renaming k o ≡ true → same_inode one.id id ≡ true → ⊥
      by-kind Renamed (Some t) ke oe h same = let w : (p : Names) × (x : Node B) × (node_at from p ≡ Some x) × (x.id.0 ≡ one.id.0) = each.0 t ke oe in
          place_of-missing from id w.0 w.1 none w.2 (w.3 ∙ (Decides-eqb one.id.0 id.0).0 same)
      by-kind Renamed None ke oe h same = true_false h refl
      by-kind Deleted o ke oe h same = true_false h refl
      by-kind Modified o ke oe h same = true_false h refl
      by-kind Created o ke oe h same = true_false h refl

-- The report from a tree to itself has no line.
use Rattle.std.proofs.Common.{◌≡◌, inl, inr, ℕ, not, Bool, true, false, cond, ◌&&◌, ◌||◌, ◌==◌, Option, Some, None, List, [], ◌∷◌, ◌++◌, map, refl, ap, sym, ◌∙◌, subst, arith}
use Rattle.std.specs.List.{list_any, filter_map, flat_map}
use Rattle.std.specs.FinMap.Entries.{is_sorted}
use Rattle.std.proofs.lemmas.Bool.Decides.{nat_tests}
use Rattle.std.proofs.lemmas.List.{append_cancel_left}
use Rattle.std.proofs.lemmas.Slice.Eq.{bytes_eq-Decides}
use Rattle.hs_types.specs.Names.{Names}
use Rattle.hs_types.specs.declared.ids.InodeId.{InodeId}
use Rattle.hs_types.specs.declared.reply.Line.{Line}
use Rattle.hs_types.specs.declared.reply.LineKind.TheVariants.{Renamed, Modified}
use Rattle.hs_plain.specs.declared.state.Node.{Node}
use Rattle.hs_plain.specs.Tree.{Tree, path_cmp, is_root_path, place_of, subtree}
use Rattle.hs_plain.specs.Report.{last_of, id_above, same_id, same_place, is_changed, line_of, line_if, lines_by, lines_from, created_by, created, with_lines, report}
use Rattle.hs_plain.specs.Valid.{all_differ, has_each_once}
use Rattle.hs_plain.proofs.ValidTrees.{first, second}
use Rattle.hs_plain.proofs.ValidLists.{In, not_so, none_so, in-map, filter_map_so, flat_map_so}
use Rattle.hs_plain.proofs.ValidPlaces.{one_place, ids_differ}
use Rattle.hs_plain.proofs.ValidSubtrees.{node_at-subtree, sorted-subtree}
use Rattle.hs_plain.proofs.Facts.{none_some}

nothing_in : {X : Type 0} (xs : List X) → ((x : X) → In xs x → ⊥) → xs ≡ []
nothing_in [] none = refl
nothing_in (x ∷ xs) none = absurd (none x (inl refl))

same_number : (n : ℕ) → (n == n) ≡ true
same_number n = grind (arith, nat_tests)

same_id_self : (id : Option InodeId) → same_id id id ≡ true
same_id_self None = refl
same_id_self (Some id) = same_number id.0

either_true : (a b : Bool) → b ≡ true → (a || b) ≡ true
either_true true b e = refl
either_true false b e = e

both_true : (a b : Bool) → a ≡ true → b ≡ true → (a && b) ≡ true
both_true a b e f = ap (λ x. x && b) e ∙ f

module _ {B : Type 0} where
  abbrev number_of_place : Names × Node B → ℕ
  number_of_place place = place.1.id.0

  -- each place of a tree is the one that its id leads to
  pub found_self : (tree : Tree B) → has_each_once tree ≡ true → (place : Names × Node B) → In tree place → place_of tree place.1.id ≡ Some place
  found_self [] once place at = absurd at
  found_self (e ∷ es) once place (inl same) =
      ap (λ (p : Names × Node B). place_of (e ∷ es) p.1.id) (sym same)
      ∙ ap (λ b. cond b (Some e) (place_of es e.1.id)) (same_number e.1.id.0)
      ∙ ap (λ (p : Names × Node B). Some p) same
  found_self (e ∷ es) once place (inr at) =
      let fresh : list_any (λ other. e.1.id.0 == other) (map number_of_place es) ≡ false = not_so _ (first (not (list_any (λ other. e.1.id.0 == other) (map number_of_place es))) (all_differ (map number_of_place es)) once) in
      ap (λ b. cond b (Some e) (place_of es place.1.id)) (none_so (λ other. e.1.id.0 == other) (map number_of_place es) fresh place.1.id.0 (in-map number_of_place es place at))
      ∙ found_self es (second (not (list_any (λ other. e.1.id.0 == other) (map number_of_place es))) (all_differ (map number_of_place es)) once) place at

  module _ (tree : Tree B) (once : has_each_once tree ≡ true) where
    same_place_self : (path : Names) → same_place tree tree path path ≡ true
    same_place_self path = either_true (is_root_path path) _ (both_true _ _ (same_id_self (id_above tree path)) ((bytes_eq-Decides (last_of path) (last_of path)).1 refl))

    no_lines : (place : Names × Node B) → In tree place → lines_from tree tree place ≡ []
    no_lines place at =
        ap (lines_by tree tree place) (found_self tree once place at)
        ∙ ap (λ b. line_if (not b) (line_of Renamed place.0 (Some place.0) place.1) (line_if (is_changed place.1 place.1) (line_of Modified place.0 None place.1) [])) (same_place_self place.0)
        ∙ ap (λ b. line_if (not b) (line_of Modified place.0 None place.1) []) (same_number place.1.stamp)

    none_created : (place : Names × Node B) → In tree place → created tree tree place ≡ None
    none_created place at = ap (created_by tree tree place) (found_self tree once place at)

    -- a tree differs from itself nowhere
    pub report-self : report tree tree ≡ []
    report-self =
        ap (λ (lines : List Line). with_lines lines (flat_map (lines_from tree tree) tree)) (nothing_in (filter_map (created tree tree) tree) (λ line at.
        let from : (place : Names × Node B) × (In tree place) × (created tree tree place ≡ Some line) = filter_map_so (created tree tree) tree line at in
        none_some line (sym (none_created from.0 from.1) ∙ from.2)))
        ∙ nothing_in (flat_map (lines_from tree tree) tree) (λ line at.
        let from : (place : Names × Node B) × (In tree place) × (In (lines_from tree tree place) line) = flat_map_so (lines_from tree tree) tree line at in
        subst (λ (lines : List Line). In lines line) (no_lines from.0 from.1) from.2)

  -- the nodes below a directory have each id once, as those of the whole tree
  pub once-subtree : (tree : Tree B) (path : Names) → is_sorted path_cmp tree ≡ true → has_each_once tree ≡ true → has_each_once (subtree tree path) ≡ true
  once-subtree tree path sorted once =
      ids_differ (subtree tree path) (sorted-subtree tree path sorted)
      (λ p q a b at bt same. append_cancel_left path p q (one_place tree once (path ++ p) (path ++ q) a b (sym (node_at-subtree tree path p) ∙ at) (sym (node_at-subtree tree path q) ∙ bt) same))

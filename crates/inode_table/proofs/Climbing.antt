-- The way up leads to the place of a node, and is found for each.
use Rattle.std.proofs.Common.{◌≡◌, ℕ, zero, suc, ◌+◌, ◌<◌, true, false, cond, List, [], ◌∷◌, Option, Some, None, refl, sym, ap, ◌∙◌, length, length-append, arith}
use Rattle.std.specs.Option.{option_map}
use Rattle.std.proofs.lemmas.Bool.Decides.{Decides-eqb}
use Rattle.hs_types.specs.Names.{Names}
use Rattle.hs_types.specs.declared.ids.InodeId.{InodeId}
use Rattle.hs_types.specs.declared.name.Spot.{Spot}
use Rattle.hs_plain.specs.declared.state.Node.{Node}
use Rattle.hs_plain.specs.Tree.{same_inode}
use Rattle.hs_plain.proofs.ValidShapes.{by_last, none_some, same_some, not_last}
use Rattle.dir_changes.specs.Entries.{id_at, is_that}
use Rattle.dir_changes.proofs.UndoLaw.{is_that_so, is_that_from}
use Rattle.inode_table.specs.Reads.{Shown, Nodes, ReadsAs, IsNodes, child, id_of}
use Rattle.inode_table.specs.Walk.{and_then}
use Rattle.inode_table.specs.Climb.{below_spot, path_up, Ups}
use Rattle.inode_table.proofs.Reading.{same_id_so}
use Rattle.inode_table.proofs.Covers.{some_id}

module _ {B : Type 0} (shown : Shown B) (top : InodeId) (f : Nodes B) (is : IsNodes f) (reads : ReadsAs shown top f) where
  leads : (n : ℕ) (id : InodeId) (path : Names) → path_up shown top n id ≡ Some path → id_of (f path) ≡ Some id
  leads zero id path h = absurd (none_some h)
  leads (suc n) id path h = elim (same_inode id top) as (λ b. same_inode id top ≡ b → cond b (Some []) (and_then (shown.spot id) (λ spot. cond (is_that id (id_at spot.name (shown.entries spot.parent))) (option_map (below_spot spot) (path_up shown top n spot.parent)) None)) ≡ Some path → id_of (f path) ≡ Some id) [
    | true ↦ λ t k. ap (λ (p : Names). id_of (f p)) (sym (same_some k)) ∙ reads.root ∙ ap (λ i. Some i) (sym (same_id_so id top ((Decides-eqb id.0 top.0).0 t)))
    | false ↦ λ _ k. up (leads n) (shown.spot id) k
  ] refl h
    where
      step : ((id : InodeId) (path : Names) → path_up shown top n id ≡ Some path → id_of (f path) ≡ Some id) → (spot : Spot) (o : Option Names) → path_up shown top n spot.parent ≡ o → id_at spot.name (shown.entries spot.parent) ≡ Some id
          → option_map (below_spot spot) o ≡ Some path → id_of (f path) ≡ Some id
      step more spot None e named k = absurd (none_some k)
      step more spot (Some above) e named k =
          let m = some_id (f above) spot.parent (more spot.parent above e) in
          ap (λ (p : Names). id_of (f p)) (sym (same_some k)) ∙ sym (reads.entries above m.0 spot.name m.1) ∙ ap (λ (i : InodeId). id_at spot.name (shown.entries i)) m.2 ∙ named

      up : ((id : InodeId) (path : Names) → path_up shown top n id ≡ Some path → id_of (f path) ≡ Some id) → (o : Option Spot)
          → and_then o (λ spot. cond (is_that id (id_at spot.name (shown.entries spot.parent))) (option_map (below_spot spot) (path_up shown top n spot.parent)) None) ≡ Some path → id_of (f path) ≡ Some id
      up more None k = absurd (none_some k)
      up more (Some spot) k = elim (is_that id (id_at spot.name (shown.entries spot.parent))) as (λ b. is_that id (id_at spot.name (shown.entries spot.parent)) ≡ b → cond b (option_map (below_spot spot) (path_up shown top n spot.parent)) None ≡ Some path → id_of (f path) ≡ Some id) [
        | true ↦ λ t g. step more spot (path_up shown top n spot.parent) refl (is_that_so id _ t) g
        | false ↦ λ _ g. absurd (none_some g)
      ] refl k

  -- a child isn't the top
  not_top : (above : Names) (name : List ℕ) (x : Node B) → f (child above name) ≡ Some x → same_inode x.id top ≡ false
  not_top above name x h = elim (same_inode x.id top) as (λ b. same_inode x.id top ≡ b → b ≡ false) [
    | true ↦ λ t. let r = some_id (f []) top reads.root in absurd (not_last above name (is.once (child above name) [] x r.0 h r.1 (same_id_so x.id top ((Decides-eqb x.id.0 top.0).0 t) ∙ sym r.2)))
    | false ↦ λ _. refl
  ] refl

  finds : (n : ℕ) (path : Names) (node : Node B) → f path ≡ Some node → length path < n → path_up shown top n node.id ≡ Some path
  finds zero path node h lt = absurd (omega arith)
  finds (suc n) path node h lt = by_last (λ p. f p ≡ Some node → length p < suc n → path_up shown top (suc n) node.id ≡ Some p) path
      (λ at _. let same : node.id ≡ top = same_some (sym (ap id_of at) ∙ reads.root) in
      ap (λ b. cond b (Some []) (and_then (shown.spot node.id) (λ spot. cond (is_that node.id (id_at spot.name (shown.entries spot.parent))) (option_map (below_spot spot) (path_up shown top n spot.parent)) None)))
      ((Decides-eqb node.id.0 top.0).1 (ap (λ (i : InodeId). i.0) same)))
      (λ above name at short.
      let up = is.above above node name at in
      let len : length (child above name) ≡ length above + 1 = length-append above (name ∷ []) in
      let rest : path_up shown top n up.0.id ≡ Some above = finds n above up.0 up.1 (omega arith) in
      ap (λ b. cond b (Some []) (and_then (shown.spot node.id) (λ spot. cond (is_that node.id (id_at spot.name (shown.entries spot.parent))) (option_map (below_spot spot) (path_up shown top n spot.parent)) None))) (not_top above name node at)
      ∙ ap (λ o. and_then o (λ spot. cond (is_that node.id (id_at spot.name (shown.entries spot.parent))) (option_map (below_spot spot) (path_up shown top n spot.parent)) None)) (reads.spot above up.0 node name up.1 at)
      ∙ ap (λ b. cond b (option_map (below_spot (record { parent = up.0.id; name = name })) (path_up shown top n up.0.id)) None) (is_that_from node.id (id_at name (shown.entries up.0.id)) (reads.entries above up.0 name up.1 ∙ ap id_of at))
      ∙ ap (option_map (below_spot (record { parent = up.0.id; name = name }))) rest)
      h lt

  pub ups : Ups shown top f
  ups = record { leads = leads; finds = λ path node n. finds n path node }

pub climbs : {B : Type 0} (shown : Shown B) (top : InodeId) (f : Nodes B) → IsNodes f → ReadsAs shown top f → Ups shown top f
climbs shown top f is reads = ups shown top f is reads

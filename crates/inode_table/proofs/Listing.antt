-- The items of a directory, looked up by name.
use Rattle.std.proofs.Common.{◌≡◌, ℕ, true, false, cond, List, [], ◌∷◌, ◌++◌, map, length, drop, Some, None, refl, sym, ap, ◌∙◌}
use Rattle.std.specs.Prelude.{IsTrue, bytes_eq}
use Rattle.std.specs.List.{cons_option, starts_with}
use Rattle.std.specs.Ordering.{eq_by_cmp, is_eq, is_lt, ordering_then}
use Rattle.std.specs.declared.cmp.Ordering.{Ordering}
use Rattle.std.specs.declared.cmp.Ordering.TheVariants.{Less, Equal, Greater}
use Rattle.std.specs.Cmp.Lexicographic.{nat_list_cmp_total}
use Rattle.std.specs.FinMap.Entries.{is_sorted, below_all}
use Rattle.std.proofs.lemmas.Cmp.{tied_itself}
use Rattle.std.proofs.Math.Seq.{drop-append_seam}
use Rattle.hs_types.specs.Names.{Names}
use Rattle.hs_types.specs.declared.ids.InodeId.{InodeId}
use Rattle.hs_plain.specs.declared.state.Node.{Node}
use Rattle.hs_plain.specs.Tree.{Tree, path_cmp, node_at, listing, named_item, name_below, only_name}
use Rattle.hs_plain.proofs.ValidTrees.{both, first, second}
use Rattle.hs_plain.proofs.ValidShapes.{under_so, under_test, none_some, same_some, other-test}
use Rattle.dir_changes.specs.Entries.{id_at, name_order, in_order}
use Rattle.dir_changes.proofs.UndoLaw.{same_lists}
use Rattle.inode_table.specs.Reads.{Shown, ReadsAs, child, id_of}
use Rattle.inode_table.specs.Listed.{entry_of, listed}

-- the order of children is that of their names
siblings : (p : Names) (a b : List ℕ) → path_cmp (child p a) (child p b) ≡ name_order a b
siblings [] a b = last_then (name_order a b)
  where
    last_then : (o : Ordering) → ordering_then o Equal ≡ o
    last_then Less = refl
    last_then Equal = refl
    last_then Greater = refl
siblings (name ∷ p) a b = ap (λ o. ordering_then o (path_cmp (child p a) (child p b))) (tied_itself nat_list_cmp_total name) ∙ siblings p a b

-- a name leads to a path exactly where the path is the child's
below_so : (p q : Names) (name : List ℕ) → name_below p q ≡ Some name → q ≡ child p name
below_so p q name h = elim (starts_with bytes_eq q p) as (λ b. starts_with bytes_eq q p ≡ b → cond b (only_name (drop (length p) q)) None ≡ Some name → q ≡ child p name) [
  | true ↦ λ t g. under_so q p t ∙ ap (λ (r : Names). p ++ r) (only (drop (length p) q) g)
  | false ↦ λ t g. absurd (none_some g)
] refl h
  where
    only : (r : Names) → only_name r ≡ Some name → r ≡ name ∷ []
    only [] g = absurd (none_some g)
    only (x ∷ []) g = ap (λ (y : List ℕ). y ∷ []) (same_some g)
    only (x ∷ y ∷ r) g = absurd (none_some g)

below_from : (p : Names) (name : List ℕ) → name_below p (child p name) ≡ Some name
below_from p name = ap (λ b. cond b (only_name (drop (length p) (child p name))) None) (under_test (child p name) p (name ∷ []) refl) ∙ ap only_name (drop-append_seam p (name ∷ []))

module _ {B : Type 0} (p : Names) where
  -- an entry with a look-up by name, and one with a look-up by path
  pub found : (t : Tree B) (q : List ℕ) → id_at q (listed t p) ≡ id_of (node_at t (child p q))
  found [] q = refl
  found (e ∷ es) q = elim (name_below p e.0) as (λ o. name_below p e.0 ≡ o → id_at q (map entry_of (cons_option (named_item e.1 o) (listing es p))) ≡ id_of (cond (eq_by_cmp path_cmp (child p q) e.0) (Some e.1) (node_at es (child p q)))) [
    | None ↦ λ h. found es q ∙ sym (ap (λ b. id_of (cond b (Some e.1) (node_at es (child p q)))) (other-test (child p q) e.0 (λ d. none_some (sym h ∙ ap (name_below p) (sym d) ∙ below_from p q))))
    | Some nm ↦ λ h.
        let test : eq_by_cmp path_cmp (child p q) e.0 ≡ eq_by_cmp name_order q nm = ap (λ (r : Names). is_eq (path_cmp (child p q) r)) (below_so p e.0 nm h) ∙ ap is_eq (siblings p q nm) in
        elim (eq_by_cmp name_order q nm) as (λ b. cond b (Some e.1.id) (id_at q (listed es p)) ≡ id_of (cond b (Some e.1) (node_at es (child p q)))) [ true ↦ refl | false ↦ found es q ]
        ∙ sym (ap (λ b. id_of (cond b (Some e.1) (node_at es (child p q)))) test)
  ] refl

  below : (k : List ℕ) (t : Tree B) → below_all path_cmp (child p k) t ≡ true → below_all name_order k (listed t p) ≡ true
  below k [] h = refl
  below k (e ∷ es) h = elim (name_below p e.0) as (λ o. name_below p e.0 ≡ o → below_all name_order k (map entry_of (cons_option (named_item e.1 o) (listing es p))) ≡ true) [
    | None ↦ λ _. below k es (second (is_lt (path_cmp (child p k) e.0)) _ h)
    | Some nm ↦ λ g. both (sym (ap is_lt (ap (path_cmp (child p k)) (below_so p e.0 nm g) ∙ siblings p k nm)) ∙ first (is_lt (path_cmp (child p k) e.0)) _ h) (below k es (second (is_lt (path_cmp (child p k) e.0)) _ h))
  ] refl

  pub in_order-listed : (t : Tree B) → is_sorted path_cmp t ≡ true → in_order (listed t p) ≡ true
  in_order-listed [] h = refl
  in_order-listed (e ∷ es) h = elim (name_below p e.0) as (λ o. name_below p e.0 ≡ o → in_order (map entry_of (cons_option (named_item e.1 o) (listing es p))) ≡ true) [
    | None ↦ λ _. in_order-listed es (second (below_all path_cmp e.0 es) _ h)
    | Some nm ↦ λ g. both (below nm es (sym (ap (λ (r : Names). below_all path_cmp r es) (below_so p e.0 nm g)) ∙ first (below_all path_cmp e.0 es) _ h)) (in_order-listed es (second (below_all path_cmp e.0 es) _ h))
  ] refl

pub reads-listed : {B : Type 0} (v : Shown B) (top : InodeId) (t : Tree B) (p : Names) (n : Node B) → is_sorted path_cmp t ≡ true → ReadsAs v top (node_at t) → node_at t p ≡ Some n
    → IsTrue (in_order (v.entries n.id)) → v.entries n.id ≡ listed t p
reads-listed v top t p n sorted reads at order = same_lists (v.entries n.id) (listed t p) order (in_order-listed p t sorted) (λ q. reads.entries p n q at ∙ sym (found p t q))

-- What is put together in any order is the list by rising paths.
use Rattle.std.proofs.Common.{◌≡◌, Bool, true, false, ◌||◌, cond, Option, Some, None, List, [], ◌∷◌, map, refl, ap, sym, ◌∙◌}
use Rattle.std.specs.List.{filter_map, cons_option, AllByRecursion}
use Rattle.std.specs.Option.{option_map}
use Rattle.std.specs.Ordering.{eq_by_cmp, is_lt}
use Rattle.std.specs.FinMap.Entries.{find, put, find-put, is_sorted, below_all, is_sorted-put, same_entries}
use Rattle.hs_types.specs.Names.{Names}
use Rattle.hs_plain.specs.declared.state.Node.{Node}
use Rattle.hs_plain.specs.Tree.{Tree, path_cmp, node_at}
use Rattle.hs_plain.proofs.ValidTrees.{paths_total, paths_exact, holds_so, is_so, both, first, second}
use Rattle.hs_plain.proofs.ValidShapes.{true_false, same_so}
use Rattle.hs_plain.proofs.ValidPlaces.{missing_below}
use Rattle.plan_laws.specs.Sorted.{put_entries, has_path, look_by, look, entries, IsListing}
use Rattle.plan_laws.proofs.Paths.{by, by_one}

module _ {B V : Type 0} (f : Names × Node B → Option V) where
  below-entries : (x : Names) (tree : Tree B) → below_all path_cmp x tree ≡ true → below_all path_cmp x (entries f tree) ≡ true
  below-entries x [] h = refl
  below-entries x (e ∷ es) h = elim (f e) as (λ o. below_all path_cmp x (cons_option (option_map (λ v. (e.0, v)) o) (entries f es)) ≡ true) [
    | None ↦ below-entries x es (second (is_lt (path_cmp x e.0)) _ h)
    | Some v ↦ both (first (is_lt (path_cmp x e.0)) _ h) (below-entries x es (second (is_lt (path_cmp x e.0)) _ h))
  ]

  sorted-entries : (tree : Tree B) → is_sorted path_cmp tree ≡ true → is_sorted path_cmp (entries f tree) ≡ true
  sorted-entries [] h = refl
  sorted-entries (e ∷ es) h = elim (f e) as (λ o. is_sorted path_cmp (cons_option (option_map (λ v. (e.0, v)) o) (entries f es)) ≡ true) [
    | None ↦ sorted-entries es (second (below_all path_cmp e.0 es) _ h)
    | Some v ↦ both (below-entries e.0 es (first (below_all path_cmp e.0 es) _ h)) (sorted-entries es (second (below_all path_cmp e.0 es) _ h))
  ]

  find-entries : (tree : Tree B) (q : Names) → is_sorted path_cmp tree ≡ true → find path_cmp q (entries f tree) ≡ look f tree q
  find-entries [] q h = refl
  find-entries (e ∷ es) q h =
      let rest : find path_cmp q (entries f es) ≡ look f es q = find-entries es q (second (below_all path_cmp e.0 es) _ h) in
      by (eq_by_cmp path_cmp q e.0)
      (λ t. let same : q ≡ e.0 = same_so t in
      let gone : find path_cmp q (entries f es) ≡ None = rest ∙ ap (look_by f q) (ap (node_at es) same ∙ missing_below e.0 es (first (below_all path_cmp e.0 es) _ h)) in
      here (f e) t gone
      ∙ ap (λ (x : Names). f (x, e.1)) (sym same)
      ∙ sym (ap (λ b. look_by f q (cond b (Some e.1) (node_at es q))) t))
      (λ t. there (f e) t ∙ rest ∙ sym (ap (λ b. look_by f q (cond b (Some e.1) (node_at es q))) t))
    where
      here : (o : Option V) → eq_by_cmp path_cmp q e.0 ≡ true → find path_cmp q (entries f es) ≡ None → find path_cmp q (cons_option (option_map (λ v. (e.0, v)) o) (entries f es)) ≡ o
      here None t gone = gone
      here (Some v) t gone = ap (λ b. cond b (Some v) (find path_cmp q (entries f es))) t

      there : (o : Option V) → eq_by_cmp path_cmp q e.0 ≡ false → find path_cmp q (cons_option (option_map (λ v. (e.0, v)) o) (entries f es)) ≡ find path_cmp q (entries f es)
      there None t = refl
      there (Some v) t = ap (λ b. cond b (Some v) (find path_cmp q (entries f es))) t

  sorted-made : (list acc : List (Names × V)) → is_sorted path_cmp acc ≡ true → is_sorted path_cmp (put_entries acc list) ≡ true
  sorted-made [] acc h = h
  sorted-made (e ∷ es) acc h = sorted-made es (put path_cmp e.0 e.1 acc) (is_so _ (is_sorted-put path_cmp paths_total e.0 e.1 acc (holds_so h)))

  find-made : (tree : Tree B) (q : Names) (list acc : List (Names × V)) → AllByRecursion (λ one. look f tree one.0 ≡ Some one.1) list → find path_cmp q (put_entries acc list) ≡ cond (has_path list q) (look f tree q) (find path_cmp q acc)
  find-made tree q [] acc sound = refl
  find-made tree q (e ∷ es) acc sound =
      find-made tree q es (put path_cmp e.0 e.1 acc) sound.1
      ∙ ap (λ o. cond (has_path es q) (look f tree q) o) (find-put path_cmp paths_total q e.0 e.1 acc)
      ∙ by (eq_by_cmp path_cmp q e.0)
      (λ t. ap (λ b. cond (has_path es q) (look f tree q) (cond b (Some e.1) (find path_cmp q acc))) t
      ∙ either-way (has_path es q) (sym (ap (look f tree) (same_so t) ∙ sound.0))
      ∙ sym (ap (λ b. cond (b || has_path es q) (look f tree q) (find path_cmp q acc)) t))
      (λ t. ap (λ b. cond (has_path es q) (look f tree q) (cond b (Some e.1) (find path_cmp q acc))) t ∙ sym (ap (λ b. cond (b || has_path es q) (look f tree q) (find path_cmp q acc)) t))
    where
      either-way : (b : Bool) → Some e.1 ≡ look f tree q → cond b (look f tree q) (Some e.1) ≡ look f tree q
      either-way true h = refl
      either-way false h = h

  -- what is put together in any order is the list by rising paths
  pub listing-is : (tree : Tree B) (list : List (Names × V)) → is_sorted path_cmp tree ≡ true → IsListing f tree list → put_entries [] list ≡ entries f tree
  listing-is tree list sorted is = same_entries path_cmp paths_total paths_exact (put_entries [] list) (entries f tree) (holds_so (sorted-made list [] refl)) (holds_so (sorted-entries tree sorted))
      (λ q. find-made tree q list [] is.sound ∙ whole q ∙ sym (find-entries tree q sorted))
    where
      whole : (q : Names) → cond (has_path list q) (look f tree q) None ≡ look f tree q
      whole q = by (has_path list q)
          (λ t. ap (λ b. cond b (look f tree q) None) t)
          (λ t. ap (λ b. cond b (look f tree q) None) t ∙ by_one (look f tree q) (λ v h. absurd (true_false (is.complete q v h) t)) (λ none. sym none))

  pub values-are : (tree : Tree B) → map (λ one. one.1) (entries f tree) ≡ filter_map f tree
  values-are [] = refl
  values-are (e ∷ es) = elim (f e) as (λ o. map (λ one. one.1) (cons_option (option_map (λ v. (e.0, v)) o) (entries f es)) ≡ cons_option o (filter_map f es)) [
    | None ↦ values-are es
    | Some v ↦ ap (λ vs. v ∷ vs) (values-are es)
  ]

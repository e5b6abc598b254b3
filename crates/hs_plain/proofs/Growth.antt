-- Where a place is put: behind all that stand before its path, or in the place of the one that is there.
use Rattle.std.proofs.Common.{◌≡◌, ℕ, suc, ◌+◌, Bool, true, false, cond, Option, Some, None, List, [], ◌∷◌, slice_get, slice_set, get_or, refl, ap, sym, ◌∙◌, arith}
use Rattle.std.specs.Prelude.{insert}
use Rattle.std.specs.List.{prefix_len}
use Rattle.std.specs.Ordering.{is_gt, is_eq}
use Rattle.std.specs.declared.cmp.Ordering.{Ordering}
use Rattle.std.specs.declared.cmp.Ordering.TheVariants.{Less, Equal, Greater}
use Rattle.std.specs.FinMap.Entries.{put, by_order}
use Rattle.hs_types.specs.Names.{Names}
use Rattle.hs_plain.specs.declared.state.Node.{Node}
use Rattle.hs_plain.specs.Tree.{Tree, path_cmp}
use Rattle.hs_plain.specs.inside.Ranks.{is_after, is_place_at}

module _ {K X : Type 0} (R : K → K → Ordering) (k : K) (v : X) where
  abbrev behind : K × X → Bool
  behind e = is_gt (R k e.0)

  abbrev has_key : Option (K × X) → Bool
  has_key None = false
  has_key (Some e) = is_eq (R k e.0)

  one_more : (n : ℕ) → 1 + n ≡ suc n
  one_more n = omega arith

  -- a key that isn't there is put behind all lesser ones
  put-new : (es : List (K × X)) → has_key (slice_get es (prefix_len behind es)) ≡ false → insert es (prefix_len behind es) (k, v) ≡ put R k v es
  put-new [] none = refl
  put-new (e ∷ es) none =
      elim (R k e.0) as (λ o. R k e.0 ≡ o → has_key (slice_get (e ∷ es) (cond (is_gt o) (1 + prefix_len behind es) 0)) ≡ false →
      insert (e ∷ es) (cond (is_gt o) (1 + prefix_len behind es) 0) (k, v) ≡ by_order o ((k, v) ∷ e ∷ es) ((e.0, v) ∷ es) (e ∷ put R k v es)) [
        | Less ↦ λ o n. refl
        | Equal ↦ λ o n. absurd (cc)
        | Greater ↦ λ o n.
            let m : has_key (slice_get es (prefix_len behind es)) ≡ false = ap (λ i. has_key (slice_get (e ∷ es) i)) (sym (one_more (prefix_len behind es))) ∙ n in
            ap (λ i. insert (e ∷ es) i (k, v)) (one_more (prefix_len behind es)) ∙ ap (λ (xs : List (K × X)). e ∷ xs) (put-new es m)
      ] refl none

  -- a key that is there keeps its place
  put-over : (es : List (K × X)) (d : K × X) → has_key (slice_get es (prefix_len behind es)) ≡ true → slice_set es (prefix_len behind es) ((get_or es (prefix_len behind es) d).0, v) ≡ put R k v es
  put-over [] d found = absurd (cc)
  put-over (e ∷ es) d found =
      elim (R k e.0) as (λ o. R k e.0 ≡ o → has_key (slice_get (e ∷ es) (cond (is_gt o) (1 + prefix_len behind es) 0)) ≡ true →
      slice_set (e ∷ es) (cond (is_gt o) (1 + prefix_len behind es) 0) ((get_or (e ∷ es) (cond (is_gt o) (1 + prefix_len behind es) 0) d).0, v) ≡ by_order o ((k, v) ∷ e ∷ es) ((e.0, v) ∷ es) (e ∷ put R k v es)) [
        | Less ↦ λ o n. absurd (cc)
        | Equal ↦ λ o n. refl
        | Greater ↦ λ o n.
            let m : has_key (slice_get es (prefix_len behind es)) ≡ true = ap (λ i. has_key (slice_get (e ∷ es) i)) (sym (one_more (prefix_len behind es))) ∙ n in
            ap (λ i. slice_set (e ∷ es) i ((get_or (e ∷ es) i d).0, v)) (one_more (prefix_len behind es)) ∙ ap (λ (xs : List (K × X)). e ∷ xs) (put-over es d m)
      ] refl found

module _ {B : Type 0} (tree : Tree B) (path : Names) (node : Node B) where
  as_key : (place : Option (Names × Node B)) → has_key path_cmp path node place ≡ is_place_at path place
  as_key None = refl
  as_key (Some place) = refl

  pub put_new : is_place_at path (slice_get tree (prefix_len (is_after path) tree)) ≡ false → insert tree (prefix_len (is_after path) tree) (path, node) ≡ put path_cmp path node tree
  put_new none = put-new path_cmp path node tree (as_key (slice_get tree (prefix_len (is_after path) tree)) ∙ none)

  pub put_over : (d : Names × Node B) → is_place_at path (slice_get tree (prefix_len (is_after path) tree)) ≡ true →
      slice_set tree (prefix_len (is_after path) tree) ((get_or tree (prefix_len (is_after path) tree) d).0, node) ≡ put path_cmp path node tree
  put_over d found = put-over path_cmp path node tree d (as_key (slice_get tree (prefix_len (is_after path) tree)) ∙ found)

  -- the same at a rank, over places and a path that are read again
  pub put_new_at : (rank : ℕ) (places : Tree B) (p : Names) (at : Tree B) (q : Names) → places ≡ tree → p ≡ path → at ≡ tree → q ≡ path →
      rank ≡ prefix_len (is_after p) places → false ≡ is_place_at q (slice_get at rank) → insert tree rank (path, node) ≡ put path_cmp path node tree
  put_new_at rank places p at q is_places is_p is_at is_q ranked none =
      let r : rank ≡ prefix_len (is_after path) tree = ranked ∙ ap (λ (names : Names). prefix_len (is_after names) places) is_p ∙ ap (prefix_len (is_after path)) is_places in
      ap (λ n. insert tree n (path, node)) r
      ∙ put_new (ap (λ n. is_place_at path (slice_get tree n)) (sym r) ∙ ap (λ (t : Tree B). is_place_at path (slice_get t rank)) (sym is_at) ∙ ap (λ (names : Names). is_place_at names (slice_get at rank)) (sym is_q) ∙ sym none)

  pub put_over_at : (d : Names × Node B) (rank : ℕ) (places : Tree B) (p : Names) (at : Tree B) (q : Names) → places ≡ tree → p ≡ path → at ≡ tree → q ≡ path →
      rank ≡ prefix_len (is_after p) places → true ≡ is_place_at q (slice_get at rank) → d ≡ get_or tree rank d → slice_set tree rank (d.0, node) ≡ put path_cmp path node tree
  put_over_at d rank places p at q is_places is_p is_at is_q ranked found is_d =
      let r : rank ≡ prefix_len (is_after path) tree = ranked ∙ ap (λ (names : Names). prefix_len (is_after names) places) is_p ∙ ap (prefix_len (is_after path)) is_places in
      ap (λ (e : Names × Node B). slice_set tree rank (e.0, node)) is_d
      ∙ ap (λ n. slice_set tree n ((get_or tree n d).0, node)) r
      ∙ put_over d (ap (λ n. is_place_at path (slice_get tree n)) (sym r) ∙ ap (λ (t : Tree B). is_place_at path (slice_get t rank)) (sym is_at) ∙ ap (λ (names : Names). is_place_at names (slice_get at rank)) (sym is_q) ∙ sym found)

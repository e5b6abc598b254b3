-- What copies' calls leave at each path where some are refused, and that two mergings have the same calls there.
use Rattle.std.proofs.Common.{◌≡◌, ◌⊎◌, inl, inr, ℕ, true, false, cond, Some, List, [], ◌∷◌, ◌++◌, refl, ap, sym, ◌∙◌}
use Rattle.std.specs.Prelude.{not, ◌&&◌}
use Rattle.std.specs.List.{filter}
use Rattle.hs_types.specs.Names.{Names}
use Rattle.hs_plain.specs.declared.state.Node.{Node}
use Rattle.hs_plain.specs.Tree.{Tree, node_at, is_dir, parent_of, place_of}
use Rattle.hs_plain.proofs.ValidShapes.{none_some, same_some, by_last, parent_of-last}
use Rattle.hs_plain.specs.Plan.{is_other, is_copied}
use Rattle.plan_laws.specs.Pair.{IsPair}
use Rattle.plan_laws.specs.Copies.{Contents, CopyCall, path_of_call, is_at, is_dir_seen, IsMerging}
use Rattle.plan_laws.specs.inside.Taken.{taken_here, all_taken_here, call_taken, calls_taken}
use Rattle.plan_laws.proofs.Paths.{by, by_one}
use Rattle.plan_laws.proofs.Lists.{same-so}
use Rattle.plan_laws.proofs.Places.{dir-above}

-- no call is at a path
NoneAt : Names → List CopyCall → Type 0
NoneAt path calls = filter (is_at path) calls ≡ []

cons-none : {x : CopyCall} {xs : List CopyCall} → x ∷ xs ≡ [] → ⊥
cons-none h = cc

none-head : (path : Names) (call : CopyCall) (calls : List CopyCall) → filter (is_at path) (call ∷ calls) ≡ [] → (is_at path call ≡ false) × (filter (is_at path) calls ≡ [])
none-head path call calls h = (elim (is_at path call) as (λ b. cond b (call ∷ filter (is_at path) calls) (filter (is_at path) calls) ≡ [] → (b ≡ false) × (filter (is_at path) calls ≡ [])) [
  | true ↦ λ h. absurd (cons-none h)
  | false ↦ λ h. (refl, h)
]) h

-- where no call is at the directory above a path, the calls at the path alone tell what it holds
taken-here : (calls : List CopyCall) (seen : Contents) (q : Names) → filter (is_at (parent_of q)) calls ≡ [] → calls_taken seen calls q ≡ all_taken_here (is_dir_seen (seen (parent_of q))) (filter (is_at q) calls) (seen q)
taken-here [] seen q none = refl
taken-here (call ∷ calls) seen q none =
    let head : (is_at (parent_of q) call ≡ false) × (filter (is_at (parent_of q)) calls ≡ []) = none-head (parent_of q) call calls none in
    taken-here calls (call_taken seen call) q head.1
    ∙ ap (λ o. all_taken_here (is_dir_seen o) (filter (is_at q) calls) (call_taken seen call q))
    (ap (λ b. cond b (taken_here (is_dir_seen (seen (parent_of (path_of_call call)))) call (seen (parent_of q))) (seen (parent_of q))) head.0)
    ∙ by (is_at q call)
    (λ t. let same : q ≡ path_of_call call = same-so (path_of_call call) q t in
    ap (λ b. all_taken_here (is_dir_seen (seen (parent_of q))) (filter (is_at q) calls) (cond b (taken_here (is_dir_seen (seen (parent_of (path_of_call call)))) call (seen q)) (seen q))) t
    ∙ ap (λ (p : Names). all_taken_here (is_dir_seen (seen (parent_of q))) (filter (is_at q) calls) (taken_here (is_dir_seen (seen (parent_of p))) call (seen q))) (sym same)
    ∙ ap (λ b. all_taken_here (is_dir_seen (seen (parent_of q))) (cond b (call ∷ filter (is_at q) calls) (filter (is_at q) calls)) (seen q)) (sym t))
    (λ f. ap (λ b. all_taken_here (is_dir_seen (seen (parent_of q))) (filter (is_at q) calls) (cond b (taken_here (is_dir_seen (seen (parent_of (path_of_call call)))) call (seen q)) (seen q))) f
    ∙ ap (λ b. all_taken_here (is_dir_seen (seen (parent_of q))) (cond b (call ∷ filter (is_at q) calls) (filter (is_at q) calls)) (seen q)) (sym f))

-- a path at which no call is holds what it held
taken-apart : (calls : List CopyCall) (seen : Contents) (q : Names) → filter (is_at q) calls ≡ [] → calls_taken seen calls q ≡ seen q
taken-apart [] seen q none = refl
taken-apart (call ∷ calls) seen q none =
    let head : (is_at q call ≡ false) × (filter (is_at q) calls ≡ []) = none-head q call calls none in
    taken-apart calls (call_taken seen call) q head.1
    ∙ ap (λ b. cond b (taken_here (is_dir_seen (seen (parent_of (path_of_call call)))) call (seen q)) (seen q)) head.0

-- two lists of calls that agree at each path, in which no call is at the directory above another's path, lead to the same
pub taken-same : (one two : List CopyCall) → ((q : Names) → filter (is_at q) one ≡ filter (is_at q) two) → ((q : Names) → (filter (is_at q) one ≡ []) ⊎ (filter (is_at (parent_of q)) one ≡ [])) →
    (seen : Contents) (q : Names) → calls_taken seen one q ≡ calls_taken seen two q
taken-same one two same apart seen q = by-apart (apart q)
  where
    by-apart : (filter (is_at q) one ≡ []) ⊎ (filter (is_at (parent_of q)) one ≡ []) → calls_taken seen one q ≡ calls_taken seen two q
    by-apart (inl none) = taken-apart one seen q none ∙ sym (taken-apart two seen q (sym (same q) ∙ none))
    by-apart (inr none) =
        taken-here one seen q none
        ∙ ap (λ (cs : List CopyCall). all_taken_here (is_dir_seen (seen (parent_of q))) cs (seen q)) (same q)
        ∙ sym (taken-here two seen q (sym (same (parent_of q)) ∙ none))

module _ (from to : Tree (List ℕ)) (is : IsPair from to) (pages : Names → List (List ℕ)) (one two : List CopyCall) (is_one : IsMerging from to pages one) (is_two : IsMerging from to pages two) where
  by-copied : {P : Type 0} (q : Names) → ((m : Node (List ℕ)) → node_at to q ≡ Some m → is_copied from (q, m) ≡ true → P) → (((m : Node (List ℕ)) → node_at to q ≡ Some m → is_copied from (q, m) ≡ false) → P) → P
  by-copied q copied other = by_one (node_at to q)
      (λ m at. by (is_copied from (q, m)) (λ t. copied m at t) (λ f. other (λ n bt. ap (λ x. is_copied from (q, x)) (same_some (sym bt ∙ at)) ∙ f)))
      (λ none. other (λ n bt. absurd (none_some (sym none ∙ bt))))

  dir-apart : (q : Names) (d : Node (List ℕ)) → node_at to q ≡ Some d → is_dir d ≡ true → (m : Node (List ℕ)) → node_at to q ≡ Some m → is_copied from (q, m) ≡ false
  dir-apart q d at dir m bt = ap (λ b. not b && is_other (q, m) (place_of from m.id)) (ap is_dir (same_some (sym bt ∙ at)) ∙ dir)

  root-dir : is_dir is.to_root ≡ true
  root-dir = sym (is.one_kind [] [] is.from_root is.to_root is.from_at is.to_at is.same_root) ∙ is.root_dir

  above-apart : (q : Names) (m : Node (List ℕ)) → node_at to q ≡ Some m → (n : Node (List ℕ)) → node_at to (parent_of q) ≡ Some n → is_copied from (parent_of q, n) ≡ false
  above-apart q m at n bt = by_last (λ q. node_at to q ≡ Some m → node_at to (parent_of q) ≡ Some n → is_copied from (parent_of q, n) ≡ false) q
      (λ at bt. dir-apart [] is.to_root is.to_at root-dir n bt)
      (λ above name at bt. let d : (dir : Node (List ℕ)) × (node_at to above ≡ Some dir) × (is_dir dir ≡ true) = dir-above to is.to_tree above name m at in
      dir-apart (parent_of (above ++ name ∷ [])) d.0 (ap (node_at to) (parent_of-last above name) ∙ d.1) d.2 n bt)
      at bt

  -- two mergings have the same calls at each path, and none at a directory
  pub mergings-agree : (q : Names) → filter (is_at q) one ≡ filter (is_at q) two
  mergings-agree q = by-copied q (λ m at copied. is_one.at_copy q m at copied ∙ sym (is_two.at_copy q m at copied)) (λ other. is_one.elsewhere q other ∙ sym (is_two.elsewhere q other))

  pub mergings-apart : (q : Names) → (filter (is_at q) one ≡ []) ⊎ (filter (is_at (parent_of q)) one ≡ [])
  mergings-apart q = by-copied q (λ m at copied. inr (is_one.elsewhere (parent_of q) (above-apart q m at))) (λ other. inl (is_one.elsewhere q other))

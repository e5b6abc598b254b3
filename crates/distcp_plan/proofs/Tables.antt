-- Maps whose keys are paths, as lists of paths with values.
use Rattle.std.proofs.Common.{◌≡◌, ℕ, true, false, Bor, List, [], ◌∷◌, Some, refl, ap, cond}
use Rattle.std.specs.Ordering.{is_eq, match_ordering}
use Rattle.std.specs.declared.cmp.Ordering.TheVariants.{Less, Equal, Greater}
use Rattle.std.specs.declared.vec.Vec.{Vec}
use Rattle.std.specs.BTreeMap.{insert_entry, is_at}
use Rattle.std.specs.Map.{lookup}
use Rattle.std.specs.Option.{option_map}
use Rattle.std.specs.FinMap.Entries.{find, put, by_order}
use Rattle.hs_types.specs.Names.{Names}
use Rattle.hs_plain.specs.Tree.{path_cmp}
use Rattle.distcp_plan.specs.inside.Leads.{shown, shown_table}
use Rattle.distcp_plan.specs.inside.Keyed.{keyed_one, keyed}

pub put-shown : (es : List (Bor Names × Bor Names)) (k v : Bor Names) → shown_table (insert_entry (λ a b. path_cmp a.now b.now) es k v) ≡ put path_cmp k.now v.now (shown_table es)
put-shown [] k v = refl
put-shown (e ∷ es) k v = elim (path_cmp k.now e.0.now) as (λ o. shown_table (match_ordering o ((k, v) ∷ e ∷ es) ((e.0, v) ∷ es) (e ∷ insert_entry (λ a b. path_cmp a.now b.now) es k v)) ≡ by_order o ((k.now, v.now) ∷ shown_table (e ∷ es)) ((e.0.now, v.now) ∷ shown_table es) (shown e ∷ put path_cmp k.now v.now (shown_table es))) [
  | Less ↦ refl
  | Equal ↦ refl
  | Greater ↦ ap (λ rest. shown e ∷ rest) (put-shown es k v)
]

pub find-shown : (es : List (Bor Names × Bor Names)) (k : Names) → option_map (λ (t : Bor Names). t.now) (lookup (is_at (λ b. path_cmp k b.now)) es) ≡ find path_cmp k (shown_table es)
find-shown [] k = refl
find-shown (e ∷ es) k = elim (is_eq (path_cmp k e.0.now)) as (λ b. option_map (λ (t : Bor Names). t.now) (cond b (Some e.1) (lookup (is_at (λ b. path_cmp k b.now)) es)) ≡ cond b (Some e.1.now) (find path_cmp k (shown_table es))) [
  | true ↦ refl
  | false ↦ find-shown es k
]

pub put-keyed : {A V : Type 0} (es : List (Vec (List ℕ) A × V)) (k : Vec (List ℕ) A) (v : V) → keyed (insert_entry (λ a b. path_cmp a.items b.items) es k v) ≡ put path_cmp k.items v (keyed es)
put-keyed [] k v = refl
put-keyed (e ∷ es) k v = elim (path_cmp k.items e.0.items) as (λ o. keyed (match_ordering o ((k, v) ∷ e ∷ es) ((e.0, v) ∷ es) (e ∷ insert_entry (λ a b. path_cmp a.items b.items) es k v)) ≡ by_order o ((k.items, v) ∷ keyed (e ∷ es)) ((e.0.items, v) ∷ keyed es) (keyed_one e ∷ put path_cmp k.items v (keyed es))) [
  | Less ↦ refl
  | Equal ↦ refl
  | Greater ↦ ap (λ rest. keyed_one e ∷ rest) (put-keyed es k v)
]

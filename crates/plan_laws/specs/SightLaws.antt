-- Laws of outs and puts on what stands at each path.
use Rattle.std.specs.Prelude.{◌≡◌, ◌+◌, ◌≤◌, ◌++◌, ◌∷◌, [], List, ℕ, Bool, true, length, Some, None, is_some}
use Rattle.std.specs.List.{AllByRecursion}
use Rattle.hs_types.specs.Names.{Names}
use Rattle.hs_plain.specs.Plan.{rest_below}
use Rattle.plan_laws.specs.Sight.{Sight, hits, unless, outs_done, NoneBelow, IsNotIn, OutsGo, cuts, is_in, Both, Differ, Placing, targets, NumberOnce, IsLinked, Ready, Stands, HasDirs, puts_done, PutsGo}

-- outside of tmp nothing is left at an out or below it, and all else stands
abbrev pub OutsLeaveOutside : Type 0
OutsLeaveOutside = (tmp : List ℕ) (number : ℕ → List ℕ) → ((i j : ℕ) → number i ≡ number j → i ≡ j) → (paths : List Names) (s : Sight ℕ) (k : ℕ) (q : Names) → rest_below (tmp ∷ []) q ≡ None → outs_done tmp number s k paths q ≡ unless (hits paths q) (s q)

-- in tmp under an out's number stands what stood at its path and below, but for what an earlier out had taken
abbrev pub OutsStandInside : Type 0
OutsStandInside = (tmp : List ℕ) (number : ℕ → List ℕ) → ((i j : ℕ) → number i ≡ number j → i ≡ j) →
    (before : List Names) (p : Names) (after : List Names) (s : Sight ℕ) (k : ℕ) (r : Names) → AllByRecursion (IsNotIn tmp) before → IsNotIn tmp p → AllByRecursion (IsNotIn tmp) after →
    outs_done tmp number s k (before ++ p ∷ after) (tmp ∷ number (k + length before) ∷ r) ≡ unless (hits before (p ++ r)) (s (p ++ r))

-- each out is accepted
abbrev pub OutsAreAccepted : Type 0
OutsAreAccepted = (tmp : List ℕ) (number : ℕ → List ℕ) → ((i j : ℕ) → number i ≡ number j → i ≡ j) → (is_dir : ℕ → Bool) →
    (paths : List Names) (s : Sight ℕ) (k : ℕ) → AllByRecursion (IsNotIn tmp) paths → NoneBelow paths → AllByRecursion (λ path. is_some (s path) ≡ true) paths →
    ((node : ℕ) × (s (tmp ∷ []) ≡ Some node) × (is_dir node ≡ true)) → ((j : ℕ) → k ≤ j → s (tmp ∷ number j ∷ []) ≡ None) → OutsGo is_dir tmp number s k paths

-- what a list of paths takes below a path is what it cuts off there
abbrev pub HitsAreCuts : Type 0
HitsAreCuts = (paths : List Names) (p r : Names) → AllByRecursion (λ path. rest_below path p ≡ None) paths → hits paths (p ++ r) ≡ cuts (λ x. is_in paths (p ++ x)) r

-- below two nodes that are alike, what no out has taken from the one tree is what no put brings to the other
abbrev pub AlikeBelow : Type 0
AlikeBelow = (alike : ℕ → ℕ → Bool) (from to : Sight ℕ) (is_out is_put : Names → Bool) → Differ (λ a b. alike a b ≡ true) from to is_out is_put → (r p t : Names) (a b : ℕ) → from p ≡ Some a → to t ≡ Some b → alike a b ≡ true →
    Both (λ a b. alike a b ≡ true) (unless (cuts (λ x. is_out (p ++ x)) r) (from (p ++ r))) (unless (cuts (λ x. is_put (t ++ x)) r) (to (t ++ r)))

-- after the puts stands outside of tmp what the other tree has
abbrev pub PutsLeadToOther : Type 0
PutsLeadToOther = (alike : ℕ → ℕ → Bool) (from to : Sight ℕ) (is_out is_put : Names → Bool) → Differ (λ a b. alike a b ≡ true) from to is_out is_put →
    (tmp : List ℕ) (number : ℕ → List ℕ) → ((i j : ℕ) → number i ≡ number j → i ≡ j) →
    (puts : List (Placing ℕ)) (s : Sight ℕ) → AllByRecursion (IsNotIn tmp) (targets puts) → NumberOnce puts → IsLinked is_put puts →
    AllByRecursion (Ready (λ a b. alike a b ≡ true) from to is_out is_put tmp number s) puts → Stands (λ a b. alike a b ≡ true) to tmp s (targets puts) →
    Stands (λ a b. alike a b ≡ true) to tmp (puts_done tmp number s puts) []

-- each put is accepted
abbrev pub PutsAreAccepted : Type 0
PutsAreAccepted = (alike : ℕ → ℕ → Bool) (from to : Sight ℕ) (is_out is_put : Names → Bool) → Differ (λ a b. alike a b ≡ true) from to is_out is_put →
    (tmp : List ℕ) (number : ℕ → List ℕ) → ((i j : ℕ) → number i ≡ number j → i ≡ j) →
    (is_dir : ℕ → Bool) → ((a b : ℕ) → alike a b ≡ true → is_dir a ≡ is_dir b) → HasDirs is_dir to →
    (puts : List (Placing ℕ)) (s : Sight ℕ) → AllByRecursion (IsNotIn tmp) (targets puts) → NumberOnce puts → IsLinked is_put puts →
    AllByRecursion (Ready (λ a b. alike a b ≡ true) from to is_out is_put tmp number s) puts → Stands (λ a b. alike a b ≡ true) to tmp s (targets puts) →
    PutsGo is_dir tmp number s puts

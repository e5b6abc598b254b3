-- The name of the temporary directory.
use Rattle.std.specs.Prelude.{◌≡◌, ℕ, ◌<◌, ◌^◌, true, false, List, [], ◌∷◌, ◌++◌, length, None}
use Rattle.hs_types.specs.Names.{Names}
use Rattle.hs_plain.specs.declared.plan.RootNames.{RootNames}
use Rattle.hs_plain.specs.Tree.{Tree, node_at}
use Rattle.hs_plain.specs.Plan.{tmp_name, has_name, tmp_for, root_names, plan_of, AreEqual}

-- the first of the names to choose from that isn't taken
pub record IsFirstFree (taken : Names) (name : List ℕ) : Type 0 where
  pub number : ℕ
  pub is : name ≡ tmp_name number
  pub free : has_name taken name ≡ false
  pub earlier : (other : ℕ) → other < number → has_name taken (tmp_name other) ≡ true

-- the name of the temporary directory is the first that no child of either root has
abbrev pub TmpIsFirst : Type 0
TmpIsFirst = (names : RootNames) → length (names.target ++ names.source) < 2 ^ 64 → IsFirstFree (names.target ++ names.source) (tmp_for names)

-- so it is free in the tree that the target's root holds, and in the one that it is to hold
abbrev pub TmpIsFreeInFrom : Type 0
TmpIsFreeInFrom = (from to base : Tree (List ℕ)) → AreEqual from base → length (root_names base ++ root_names to) < 2 ^ 64 → node_at from ((plan_of from to (root_names base)).tmp ∷ []) ≡ None

abbrev pub TmpIsFreeInTo : Type 0
TmpIsFreeInTo = (from to base : Tree (List ℕ)) → AreEqual from base → length (root_names base ++ root_names to) < 2 ^ 64 → node_at to ((plan_of from to (root_names base)).tmp ∷ []) ≡ None

-- What the plan of lines and listings is, where they are those of two trees.
use Rattle.std.specs.Prelude.{◌≡◌, ℕ, List, [], slice_get}
use Rattle.hs_types.specs.Names.{Names}
use Rattle.hs_types.specs.declared.reply.Line.{Line}
use Rattle.hs_plain.specs.declared.plan.Listing.{Listing}
use Rattle.hs_plain.specs.declared.plan.Plan.{Plan}
use Rattle.hs_plain.specs.declared.plan.RootNames.{RootNames}
use Rattle.hs_plain.specs.Tree.{Tree}
use Rattle.hs_plain.specs.Report.{report}
use Rattle.hs_plain.specs.Plan.{plan_calls, plan_of, bad_paths, listings_of, root_names}
use Rattle.plan_laws.specs.Pair.{IsPair}
use Rattle.distcp_plan.specs.declared.planning.PlanFault.{PlanFault}
use Rattle.distcp_plan.specs.Planned.{planned}
use Rattle.distcp_plan.specs.Limits.{first_bad, plan_texts, IsPlanFault}

-- the report of two trees of one root, the listings of the second one's new directories, and the names in its root
pub record AreOfTrees (lines : List Line) (listings : List Listing) (roots : RootNames) (from to : Tree (List ℕ)) : Type 0 where
  pub pair : IsPair from to
  pub report_is : lines ≡ report from to
  pub listings_are : listings ≡ listings_of from to
  pub names_are : roots.source ≡ root_names to

-- the plan of the trees that lines, listings and names are of
abbrev pub IsTheirPlan : List Line → List Listing → RootNames → Plan → Type 0
IsTheirPlan lines listings roots plan = (from to : Tree (List ℕ)) → AreOfTrees lines listings roots from to → plan ≡ plan_of from to roots.target

-- no path of the calls of the trees' plan breaks a rule of paths
abbrev pub HasNoBadPath : List Line → List Listing → RootNames → List ℕ → Type 0
HasNoBadPath lines listings roots root = (from to : Tree (List ℕ)) → AreOfTrees lines listings roots from to → bad_paths (plan_calls root (plan_of from to roots.target) to) ≡ []

-- a limit is passed by the first of the paths of the calls of the trees' plan that break a rule
abbrev pub IsOfTheirPaths : List Line → List Listing → RootNames → List ℕ → PlanFault → Type 0
IsOfTheirPaths lines listings roots root fault = (from to : Tree (List ℕ)) → AreOfTrees lines listings roots from to → IsPlanFault (slice_get (bad_paths (plan_calls root (plan_of from to roots.target) to)) 0) fault

-- the first bad path of a plan is that of its calls, whatever bytes the files have
abbrev pub FirstBadIsOfCalls : Type 0
FirstBadIsOfCalls = (root : List ℕ) (plan : Plan) (to : Tree (List ℕ)) → first_bad (plan_texts root plan) ≡ slice_get (bad_paths (plan_calls root plan to)) 0

-- of two trees of one root the plan of their report, their listings and the names is their plan
abbrev pub PlanIsOfTrees : Type 0
PlanIsOfTrees = (from to : Tree (List ℕ)) → IsPair from to → (names : Names) → planned (report from to) (listings_of from to) (record { target = names; source = root_names to }) ≡ plan_of from to names

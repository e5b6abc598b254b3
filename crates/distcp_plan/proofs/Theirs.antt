-- The plan of lines, listings and names of two trees.
use Rattle.std.proofs.Common.{◌≡◌, ℕ, None, List, [], ◌∷◌, refl, ap, sym, ◌∙◌}
use Rattle.std.specs.Prelude.{slice_get}
use Rattle.hs_types.specs.declared.reply.Line.{Line}
use Rattle.hs_plain.specs.declared.plan.Listing.{Listing}
use Rattle.hs_plain.specs.declared.plan.RootNames.{RootNames}
use Rattle.hs_plain.specs.Tree.{Tree}
use Rattle.hs_plain.specs.Plan.{plan_calls, plan_of, bad_paths}
use Rattle.hs_plain.proofs.ValidShapes.{none_some}
use Rattle.distcp_plan.specs.Planned.{planned}
use Rattle.distcp_plan.specs.Limits.{first_bad, plan_texts}
use Rattle.distcp_plan.specs.Laws.{AreOfTrees}
use Rattle.distcp_plan.proofs.Texts.{first-is-of-calls}
use Rattle.distcp_plan.proofs.Placed.{plan-is}

pub none-left : {X : Type 0} (xs : List X) → slice_get xs 0 ≡ None → xs ≡ []
none-left [] h = refl
none-left (x ∷ xs) h = absurd (none_some (sym h))

module _ (lines : List Line) (listings : List Listing) (roots : RootNames) (from to : Tree (List ℕ)) (are : AreOfTrees lines listings roots from to) where
  pub their-plan : planned lines listings roots ≡ plan_of from to roots.target
  their-plan = (λ i. planned (are.report_is i) (are.listings_are i) (record { target = roots.target; source = are.names_are i })) ∙ plan-is from to are.pair roots.target

  pub their-bad : (root : List ℕ) → first_bad (plan_texts root (planned lines listings roots)) ≡ slice_get (bad_paths (plan_calls root (plan_of from to roots.target) to)) 0
  their-bad root = ap (λ plan. first_bad (plan_texts root plan)) their-plan ∙ first-is-of-calls root (plan_of from to roots.target) to

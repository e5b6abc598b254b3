-- The first path of a plan's calls that passes a limit.
use Rattle.std.specs.Prelude.{◌≡◌, ℕ, ◌+◌, List, [], ◌∷◌, ◌++◌, map, Option, Some, None}
use Rattle.std.specs.List.{flat_map}
use Rattle.hs_types.specs.Names.{Names}
use Rattle.hs_types.specs.Paths.{path_of}
use Rattle.hs_plain.specs.declared.plan.CopyJob.{CopyJob}
use Rattle.hs_plain.specs.declared.plan.Plan.{Plan}
use Rattle.hs_plain.specs.declared.plan.Put.{Put}
use Rattle.hs_plain.specs.declared.plan.Put.TheVariants.{Back, NewDir}
use Rattle.hs_plain.specs.Plan.{text_below, out_place, bad_path}
use Rattle.distcp_plan.specs.declared.planning.PlanFault.{PlanFault}
use Rattle.distcp_plan.specs.declared.planning.PlanFault.TheVariants as faults

abbrev pub or_else : Option (List ℕ) → Option (List ℕ) → Option (List ℕ)
or_else (Some text) other = Some text
or_else None other = other

-- the first of these texts that breaks a rule of paths
abbrev pub first_bad : List (List ℕ) → Option (List ℕ)
first_bad [] = None
first_bad (text ∷ texts) = or_else (bad_path text (path_of text)) (first_bad texts)

-- the paths of the calls that move out
abbrev pub out_texts : List ℕ → Plan → ℕ → List Names → List (List ℕ)
out_texts root plan index [] = []
out_texts root plan index (path ∷ paths) = text_below root path ∷ text_below root (out_place plan index) ∷ out_texts root plan (index + 1) paths

-- the paths of the call of a put
abbrev pub put_texts : List ℕ → Plan → Put → List (List ℕ)
put_texts root plan (Back index to) = text_below root (out_place plan index) ∷ text_below root to ∷ []
put_texts root plan (NewDir to) = text_below root to ∷ []

-- the path of a copy, which all its calls have
abbrev pub copy_text : List ℕ → CopyJob → List ℕ
copy_text root job = text_below root job.to

-- the paths of a plan's calls in their order, of each copy once
abbrev pub plan_texts : List ℕ → Plan → List (List ℕ)
plan_texts root plan = text_below root (plan.tmp ∷ []) ∷ out_texts root plan 0 plan.outs ++ (flat_map (put_texts root plan) plan.puts ++ (map (copy_text root) plan.copies ++ text_below root (plan.tmp ∷ []) ∷ []))

-- a limit is passed by the first of the paths; memory may run out at any
abbrev pub IsPlanFault : Option (List ℕ) → PlanFault → Type 0
IsPlanFault bad faults.NoMemory = Unit {0}
IsPlanFault bad (faults.PathLimit path) = bad ≡ Some path

-- Worked examples of syncs, by computation.
use Rattle.std.proofs.Common.{◌≡◌, ℕ, codes, List, [], ◌∷◌, ◌++◌, refl, sym, ◌∙◌}
use Rattle.std.specs.Fmt.{digits}
use Rattle.hs_types.specs.Names.{Names}
use Rattle.hs_plain.specs.declared.state.Body.{Body}
use Rattle.hs_plain.specs.declared.state.Body.TheVariants.{File, Dir}
use Rattle.hs_plain.specs.Plan.{plan_calls, content}
use Rattle.hs_plain.specs.worked.Syncs.{copy_after, tree_after, beside_before, beside_after, beside_plan, beside_synced, RenameBeside, swapped_before, swapped_after, swapped_plan, swapped_synced, Swapped, new_before, new_after, new_plan, new_synced, NewDirectories, SwappedLead, CreatedLead}

-- ---- a rename beside a new file of the old name

beside_calls : plan_calls (codes "/r") beside_plan (copy_after (beside_before ++ beside_after) 2) ≡ beside_synced
unfolding digits
beside_calls = refl

-- what stands at the source's second snapshot, and after the sync on the target
abbrev beside_content : List (Names × Body (List ℕ))
beside_content = ([], Dir) ∷ (codes "a" ∷ [], Dir) ∷ (codes "a" ∷ codes "x" ∷ [], File (codes "2")) ∷ (codes "b" ∷ [], Dir) ∷ (codes "b" ∷ codes "x" ∷ [], File (codes "1")) ∷ []

beside_source : content (copy_after (beside_before ++ beside_after) 2) ≡ beside_content
beside_source = refl

beside_target : content (tree_after (beside_before ++ beside_synced)) ≡ beside_content
beside_target = refl

pub rename_beside : RenameBeside
rename_beside = record {
  source = record { told_so = refl; proper = refl };
  listed = refl;
  planned = refl;
  calls_made = beside_calls;
  entered = refl;
  target = record { told_so = refl; proper = refl };
  equal = beside_target ∙ sym beside_source;
}

-- ---- swapped directories, and a child of a deleted one

swapped_calls : plan_calls (codes "/r") swapped_plan (copy_after (swapped_before ++ swapped_after) 2) ≡ swapped_synced
unfolding digits
swapped_calls = refl

abbrev swapped_content : List (Names × Body (List ℕ))
swapped_content = ([], Dir) ∷ (codes "k" ∷ [], File []) ∷ (codes "p" ∷ [], Dir) ∷ (codes "p" ∷ codes "2" ∷ [], File []) ∷ (codes "q" ∷ [], Dir) ∷ (codes "q" ∷ codes "1" ∷ [], File []) ∷ []

swapped_source : content (copy_after (swapped_before ++ swapped_after) 2) ≡ swapped_content
swapped_source = refl

swapped_target : content (tree_after (swapped_before ++ swapped_synced)) ≡ swapped_content
swapped_target = refl

pub swapped : Swapped
swapped = record {
  source = record { told_so = refl; proper = refl };
  listed = refl;
  planned = refl;
  calls_made = swapped_calls;
  entered = refl;
  target = record { told_so = refl; proper = refl };
  equal = swapped_target ∙ sym swapped_source;
}

-- ---- new directories

new_calls : plan_calls (codes "/r") new_plan (copy_after (new_before ++ new_after) 2) ≡ new_synced
unfolding digits
new_calls = refl

abbrev new_content : List (Names × Body (List ℕ))
new_content = ([], Dir) ∷ (codes "n" ∷ [], Dir) ∷ (codes "n" ∷ codes "f" ∷ [], File []) ∷ (codes "n" ∷ codes "g" ∷ [], File []) ∷ (codes "n" ∷ codes "m" ∷ [], Dir) ∷ (codes "n" ∷ codes "m" ∷ codes "h" ∷ [], File (codes "x")) ∷ []

new_source : content (copy_after (new_before ++ new_after) 2) ≡ new_content
new_source = refl

new_target : content (tree_after (new_before ++ new_synced)) ≡ new_content
new_target = refl

pub new_directories : NewDirectories
new_directories = record {
  source = record { told_so = refl; proper = refl };
  listed = refl;
  planned = refl;
  calls_made = new_calls;
  entered = refl;
  target = record { told_so = refl; proper = refl };
  equal = new_target ∙ sym new_source;
}

-- ---- where paths lead

pub swapped_lead : SwappedLead
swapped_lead = record { led = refl }

pub created_lead : CreatedLead
created_lead = refl

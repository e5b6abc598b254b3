-- What only proofs use: steps and copies' calls on what a target holds, where some may be refused.
use Rattle.std.specs.Prelude.{Bool, ◌&&◌, not, if◌then◌else◌, List, [], ◌∷◌, ◌++◌, Option, is_some}
use Rattle.hs_plain.specs.Tree.{is_root_path, parent_of}
use Rattle.hs_plain.specs.Plan.{rest_below}
use Rattle.plan_laws.specs.Copies.{Content, Contents, CopyCall, path_of_call, is_at, done_here, fits_here, is_dir_seen}
use Rattle.plan_laws.specs.Steps.{Step, Move, Make, Fill, Drop, step_done}

-- a call that is refused changes nothing
abbrev pub taken_here : Bool → CopyCall → Option Content → Option Content
taken_here above call seen = if above && fits_here call seen then done_here call seen else seen

abbrev pub all_taken_here : Bool → List CopyCall → Option Content → Option Content
all_taken_here above [] seen = seen
all_taken_here above (call ∷ calls) seen = all_taken_here above calls (taken_here above call seen)

abbrev pub call_taken : Contents → CopyCall → Contents
call_taken seen call path = if is_at path call then taken_here (is_dir_seen (seen (parent_of (path_of_call call)))) call (seen path) else seen path

abbrev pub calls_taken : Contents → List CopyCall → Contents
calls_taken seen [] = seen
calls_taken seen (call ∷ calls) = calls_taken (call_taken seen call) calls

-- whether a step's call is accepted, where its texts stand for its paths
abbrev pub step_goes : Contents → Step → Bool
step_goes seen (Move old above name) = not (is_root_path old) && (not (is_some (rest_below old (above ++ name ∷ []))) && (is_some (seen old) && (is_dir_seen (seen above) && not (is_some (seen (above ++ name ∷ []))))))
step_goes seen (Make above name) = is_dir_seen (seen above) && not (is_some (seen (above ++ name ∷ [])))
step_goes seen (Fill call) = is_dir_seen (seen (parent_of (path_of_call call))) && fits_here call (seen (path_of_call call))
step_goes seen (Drop name) = is_some (seen (name ∷ []))

module _ (reads : Step → Bool) where
  abbrev pub step_tried : Contents → Step → Contents
  step_tried seen step = if reads step && step_goes seen step then step_done seen step else seen

  abbrev pub steps_tried : Contents → List Step → Contents
  steps_tried seen [] = seen
  steps_tried seen (step ∷ steps) = steps_tried (step_tried seen step) steps

-- The paths of a plan's calls.
use Rattle.std.proofs.Common.{◌≡◌, ℕ, ◌+◌, length, Option, Some, None, List, [], ◌∷◌, ◌++◌, map, refl, ap, sym, ◌∙◌, append_assoc}
use Rattle.std.specs.Prelude.{slice_get}
use Rattle.std.specs.List.{filter_map, flat_map, cons_option}
use Rattle.hs_types.specs.Names.{Names}
use Rattle.hs_types.specs.Paths.{path_of}
use Rattle.hs_types.specs.declared.call.Call.{Call}
use Rattle.hs_types.specs.declared.call.Call.TheVariants as calls
use Rattle.hs_plain.specs.declared.plan.CopyJob.{CopyJob}
use Rattle.hs_plain.specs.declared.plan.Plan.{Plan}
use Rattle.hs_plain.specs.declared.plan.Put.{Put}
use Rattle.hs_plain.specs.declared.plan.Put.TheVariants.{Back, NewDir}
use Rattle.hs_plain.specs.Tree.{Tree, place_of}
use Rattle.hs_plain.specs.Span.{paths_in}
use Rattle.hs_plain.specs.Plan.{text_below, out_place, out_calls, put_call, move_calls, copy_calls, pages_of, bytes_there, all_copy_calls, last_call, plan_calls, bad_path, bad_paths}
use Rattle.distcp_plan.specs.Limits.{or_else, first_bad, out_texts, put_texts, copy_text, plan_texts}
use Rattle.distcp_plan.proofs.Bad.{first_bad-append}

-- the first of the bad ones
head-bad : (texts : List (List ℕ)) → first_bad texts ≡ slice_get (filter_map (λ text. bad_path text (path_of text)) texts) 0
head-bad [] = refl
head-bad (text ∷ texts) = at (bad_path text (path_of text)) (head-bad texts)
  where
    at : (o : Option (List ℕ)) → first_bad texts ≡ slice_get (filter_map (λ text. bad_path text (path_of text)) texts) 0 → or_else o (first_bad texts) ≡ slice_get (cons_option o (filter_map (λ text. bad_path text (path_of text)) texts)) 0
    at None rest = rest
    at (Some bad) rest = refl

flat-onto : {X Y : Type 0} (f : X → List Y) (xs ys : List X) → flat_map f (xs ++ ys) ≡ flat_map f xs ++ flat_map f ys
flat-onto f [] ys = refl
flat-onto f (x ∷ xs) ys = ap (λ zs. f x ++ zs) (flat-onto f xs ys) ∙ sym (append_assoc (f x) (flat_map f xs) (flat_map f ys))

module _ (root : List ℕ) (plan : Plan) where
  outs-same : (index : ℕ) (paths : List Names) → flat_map paths_in (out_calls root plan index paths) ≡ out_texts root plan index paths
  outs-same index [] = refl
  outs-same index (path ∷ paths) = ap (λ texts. text_below root path ∷ text_below root (out_place plan index) ∷ texts) (outs-same (index + 1) paths)

  one-put : (put : Put) → paths_in (put_call root plan put) ≡ put_texts root plan put
  one-put (Back index to) = refl
  one-put (NewDir to) = refl

  puts-same : (puts : List Put) → flat_map paths_in (map (put_call root plan) puts) ≡ flat_map (put_texts root plan) puts
  puts-same [] = refl
  puts-same (put ∷ puts) = λ i. one-put put i ++ puts-same puts i

  -- one text over and over is as bad as it is once
  again : (text : List ℕ) (pages : List (List ℕ)) → first_bad (text ∷ flat_map paths_in (map (calls.Append text) pages)) ≡ first_bad (text ∷ [])
  again text [] = refl
  again text (page ∷ pages) = twice (bad_path text (path_of text)) (first_bad (flat_map paths_in (map (calls.Append text) pages))) ∙ again text pages
    where
      twice : (o rest : Option (List ℕ)) → or_else o (or_else o rest) ≡ or_else o rest
      twice None rest = refl
      twice (Some bad) rest = refl

  module _ (to : Tree (List ℕ)) where
    abbrev bytes_of : CopyJob → List ℕ
    bytes_of job = bytes_there (place_of to job.id)

    abbrev calls_of : CopyJob → List Call
    calls_of job = copy_calls root job.to (bytes_of job)

    one-copy : (job : CopyJob) → first_bad (flat_map paths_in (calls_of job)) ≡ first_bad (copy_text root job ∷ [])
    one-copy job = again (copy_text root job) (pages_of (length (bytes_of job)) (bytes_of job))

    copies-same : (jobs : List CopyJob) → first_bad (flat_map paths_in (flat_map (λ calls. calls) (map calls_of jobs))) ≡ first_bad (map (copy_text root) jobs)
    copies-same [] = refl
    copies-same (job ∷ jobs) =
        ap first_bad (flat-onto paths_in (calls_of job) (flat_map (λ calls. calls) (map calls_of jobs)))
        ∙ first_bad-append (flat_map paths_in (calls_of job)) (flat_map paths_in (flat_map (λ calls. calls) (map calls_of jobs)))
        ∙ (λ i. or_else (one-copy job i) (copies-same jobs i))
        ∙ sym (first_bad-append (copy_text root job ∷ []) (map (copy_text root) jobs))

    abbrev last_text : List ℕ
    last_text = text_below root (plan.tmp ∷ [])

    abbrev copied : List Call
    copied = flat_map (λ calls. calls) (all_copy_calls root plan to)

    behind : first_bad (flat_map paths_in (copied ++ last_call root plan ∷ [])) ≡ first_bad (map (copy_text root) plan.copies ++ last_text ∷ [])
    behind =
        ap first_bad (flat-onto paths_in copied (last_call root plan ∷ []))
        ∙ first_bad-append (flat_map paths_in copied) (last_text ∷ [])
        ∙ ap (λ o. or_else o (first_bad (last_text ∷ []))) (copies-same plan.copies)
        ∙ sym (first_bad-append (map (copy_text root) plan.copies) (last_text ∷ []))

    moves : flat_map paths_in (move_calls root plan) ≡ last_text ∷ out_texts root plan 0 plan.outs ++ flat_map (put_texts root plan) plan.puts
    moves = ap (λ texts. last_text ∷ texts) (flat-onto paths_in (out_calls root plan 0 plan.outs) (map (put_call root plan) plan.puts) ∙ (λ i. outs-same 0 plan.outs i ++ puts-same plan.puts i))

    all-same : first_bad (flat_map paths_in (plan_calls root plan to)) ≡ first_bad (plan_texts root plan)
    all-same =
        ap first_bad (flat-onto paths_in (move_calls root plan) (copied ++ last_call root plan ∷ []))
        ∙ first_bad-append (flat_map paths_in (move_calls root plan)) (flat_map paths_in (copied ++ last_call root plan ∷ []))
        ∙ (λ i. or_else (first_bad (moves i)) (behind i))
        ∙ sym (first_bad-append (last_text ∷ out_texts root plan 0 plan.outs ++ flat_map (put_texts root plan) plan.puts) (map (copy_text root) plan.copies ++ last_text ∷ []))
        ∙ ap (λ texts. first_bad (last_text ∷ texts)) (append_assoc (out_texts root plan 0 plan.outs) (flat_map (put_texts root plan) plan.puts) (map (copy_text root) plan.copies ++ last_text ∷ []))

    pub first-is-of-calls : first_bad (plan_texts root plan) ≡ slice_get (bad_paths (plan_calls root plan to)) 0
    first-is-of-calls = sym all-same ∙ head-bad (flat_map paths_in (plan_calls root plan to))

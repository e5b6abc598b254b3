-- The files that a plan copies have their bytes in what the source's link has seen.
use Rattle.std.proofs.Common.{◌≡◌, inl, inr, ℕ, Bool, true, false, cond, Option, Ok, List, [], ◌∷◌, map, refl, ap, sym, ◌∙◌}
use Rattle.std.specs.Prelude.{not}
use Rattle.std.specs.List.{filter, AllByRecursion}
use Rattle.hs_types.specs.Names.{Names}
use Rattle.hs_types.specs.declared.ids.SnapId.{SnapId}
use Rattle.hs_plain.specs.declared.plan.CopyJob.{CopyJob}
use Rattle.hs_plain.specs.declared.state.Body.{Body}
use Rattle.hs_plain.specs.declared.state.Body.TheVariants.{File, Dir}
use Rattle.hs_plain.specs.declared.state.Member.{Member}
use Rattle.hs_plain.specs.declared.state.Node.{Node}
use Rattle.hs_plain.specs.Asked.{Asked, ◌>>=◌}
use Rattle.hs_plain.specs.Modifying.{file_in}
use Rattle.hs_plain.specs.Plan.{is_copied, is_other, copies, bytes_of_body, bytes_there}
use Rattle.hs_plain.specs.Reading.{file_there}
use Rattle.hs_plain.specs.Replay.{plain_after}
use Rattle.hs_plain.specs.State.{member_with}
use Rattle.hs_plain.specs.Tree.{Tree, is_dir, is_dir_body, place_of}
use Rattle.hs_plain.specs.Valid.{has_each_once}
use Rattle.hs_plain.proofs.Facts.{okay}
use Rattle.hs_plain.proofs.SameTree.{found_self}
use Rattle.hs_plain.proofs.ValidLists.{In, not_so}
use Rattle.hs_plain.proofs.ValidTrees as tests
use Rattle.page_join.specs.Links.{Known}
use Rattle.distcp_sync.proofs.CopiesWrote.{IsFile}
use Rattle.distcp_sync.proofs.CopyChain.{AreFiles}

-- the bytes of a job's file in a tree
abbrev pub bytes_in : Tree (List ℕ) → CopyJob → List ℕ
bytes_in tree job = bytes_there (place_of tree job.id)

file_body : (body : Body (List ℕ)) → is_dir_body body ≡ false → file_in body ≡ okay (bytes_of_body body)
file_body (File bytes) e = refl
file_body Dir e = absurd (cc)

module _ (snap : SnapId) (first : Known) (to : Member (List ℕ)) (from : Tree (List ℕ)) (live : member_with (plain_after first.seen).members snap ≡ Ok to) (once : has_each_once to.tree ≡ true) where
  abbrev job_of : Names × Node (List ℕ) → CopyJob
  job_of place = record { id = place.1.id; to = place.0 }

  abbrev IsHere : CopyJob → Type 0
  IsHere job = IsFile snap (bytes_in to.tree) first job

  is_file : (place : Names × Node (List ℕ)) → In to.tree place → is_copied from place ≡ true → IsHere (job_of place)
  is_file place at copied =
      ap (λ (a : Asked (Member (List ℕ))). a >>= λ m. file_there (place_of m.tree place.1.id)) live
      ∙ (ap file_there (found_self to.tree once place at)
      ∙ (file_body place.1.body (not_so (is_dir place.1) (tests.first (not (is_dir place.1)) (is_other place (place_of from place.1.id)) copied))
      ∙ ap (λ (o : Option (Names × Node (List ℕ))). okay (bytes_there o)) (sym (found_self to.tree once place at))))

  with_one : (place : Names × Node (List ℕ)) (rest : List (Names × Node (List ℕ))) → In to.tree place → AllByRecursion IsHere (map job_of rest) → (b : Bool) → is_copied from place ≡ b → AllByRecursion IsHere (map job_of (cond b (place ∷ rest) rest))
  with_one place rest at all true copied = (is_file place at copied, all)
  with_one place rest at all false copied = all

  files_in : (part : List (Names × Node (List ℕ))) → ((place : Names × Node (List ℕ)) → In part place → In to.tree place) → AllByRecursion IsHere (map job_of (filter (is_copied from) part))
  files_in [] within = tt
  files_in (place ∷ part) within = with_one place (filter (is_copied from) part) (within place (inl refl)) (files_in part (λ other at. within other (inr at))) (is_copied from place) refl

  pub files : AreFiles snap (bytes_in to.tree) first (copies from to.tree)
  files = files_in to.tree (λ place at. at)

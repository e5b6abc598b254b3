-- Where no text of a plan's calls breaks a path rule, each stands for the path that it was made of.
use Rattle.std.proofs.Common.{◌≡◌, ℕ, zero, suc, ◌+◌, ◌<◌, Bool, true, false, cond, Option, Some, None, Ok, List, [], ◌∷◌, ◌++◌, map, length, refl, sym, ap, subst, ◌∙◌, arith}
use Rattle.std.specs.Prelude.{Result, Err}
use Rattle.std.specs.List.{list_all, filter, filter_map, flat_map, cons_option, AllByRecursion}
use Rattle.std.specs.Option.{option_map}
use Rattle.std.proofs.lemmas.List.Folds.{list_all-map}
use Rattle.hs_types.specs.Names.{Names}
use Rattle.hs_types.specs.Paths.{path_of}
use Rattle.hs_types.specs.declared.path.Path.{Path}
use Rattle.hs_types.specs.declared.refusal.Refusal.{Refusal}
use Rattle.hs_types.specs.declared.call.Call.{Call}
use Rattle.hs_plain.specs.declared.plan.Plan.{Plan}
use Rattle.hs_plain.specs.declared.plan.Put.{Put}
use Rattle.hs_plain.specs.declared.plan.Put.TheVariants as puts
use Rattle.hs_plain.specs.declared.plan.CopyJob.{CopyJob}
use Rattle.hs_plain.specs.declared.state.Node.{Node}
use Rattle.hs_plain.specs.declared.state.Body.{Body}
use Rattle.hs_plain.specs.declared.state.State.{State}
use Rattle.hs_plain.specs.Tree.{Tree, is_root_path, is_dir, place_of, subtree}
use Rattle.hs_plain.specs.Valid.{are_names, has_names}
use Rattle.hs_plain.specs.Modifying.{live_path}
use Rattle.hs_plain.specs.Report.{same_place}
use Rattle.hs_plain.specs.Span.{paths_in}
use Rattle.hs_plain.specs.Plan.{goes, put_by, put_at, is_copied, outs, plan_of, out_place, text_below, out_calls, put_call, move_calls, copy_calls, bytes_there, all_copy_calls, last_call, plan_calls, bad_path, bad_paths, content, AreEqual, index_of, root_names}
use Rattle.hs_plain.proofs.ValidTrees.{first, second}
use Rattle.hs_plain.proofs.ValidShapes.{Shape, none_some}
use Rattle.hs_plain.proofs.ValidFollows.{live_tree}
use Rattle.hs_plain.proofs.ValidNames.{names-rest}
use Rattle.hs_plain.proofs.ValidNodes.{shape, shapes, named-from}
use Rattle.hs_plain.proofs.ValidSubtrees.{node_at-subtree, sorted-subtree}
use Rattle.plan_laws.specs.Bridge.{Leads}
use Rattle.plan_laws.specs.Target.{IsTarget}
use Rattle.plan_laws.proofs.Lists.{each-reverse, each-split}
use Rattle.plan_laws.proofs.Texts.{IsPart, IsAllowed, parts-of, decimal-part, free-part, leads-below}

-- where a put comes to
abbrev pub path_of_put : Put → Names
path_of_put (puts.Back index to) = to
path_of_put (puts.NewDir to) = to

-- the text of a path below a root stands for the path there
abbrev pub LeadsBelow : List ℕ → Names → Names → Type 0
LeadsBelow root_text root path = Leads (text_below root_text path) root path

-- and so do the texts of all calls of a plan
pub record PathsLead (root_text : List ℕ) (root : Names) (plan : Plan) : Type 0 where
  pub tmp : LeadsBelow root_text root (plan.tmp ∷ [])
  pub outs : AllByRecursion (LeadsBelow root_text root) plan.outs
  pub places : (index : ℕ) → index < length plan.outs → LeadsBelow root_text root (out_place plan index)
  pub puts : AllByRecursion (λ put. LeadsBelow root_text root (path_of_put put)) plan.puts
  pub copies : AllByRecursion (λ job. LeadsBelow root_text root job.to) plan.copies

-- ---- texts that break no rule

no-cons : {text : List ℕ} {texts : List (List ℕ)} → text ∷ texts ≡ [] → ⊥
no-cons h = cc

allowed-so : (text : List ℕ) (read : Result Path Refusal) → bad_path text read ≡ None → (path : Path) × (read ≡ Ok path)
allowed-so text (Ok path) h = (path, refl)
allowed-so text (Err why) h = absurd (none_some (sym h))

all-allowed : (texts : List (List ℕ)) → filter_map (λ text. bad_path text (path_of text)) texts ≡ [] → AllByRecursion IsAllowed texts
all-allowed [] h = tt
all-allowed (text ∷ texts) h = (elim (bad_path text (path_of text)) as (λ o. bad_path text (path_of text) ≡ o → cons_option o (filter_map (λ text. bad_path text (path_of text)) texts) ≡ [] → AllByRecursion IsAllowed (text ∷ texts)) [
  | None ↦ λ e h. (allowed-so text (path_of text) e, all-allowed texts h)
  | Some bad ↦ λ e h. absurd (no-cons h)
]) refl h

abbrev IsCallAllowed : Call → Type 0
IsCallAllowed call = AllByRecursion IsAllowed (paths_in call)

calls-allowed : (list : List Call) → AllByRecursion IsAllowed (flat_map paths_in list) → AllByRecursion IsCallAllowed list
calls-allowed [] h = tt
calls-allowed (call ∷ list) h = let w = each-split IsAllowed (paths_in call) (flat_map paths_in list) h in (w.0, calls-allowed list w.1)

module _ (root_text : List ℕ) (plan : Plan) where
  abbrev IsAllowedBelow : Names → Type 0
  IsAllowedBelow path = IsAllowed (text_below root_text path)

  outs-allowed : (paths : List Names) (k : ℕ) → AllByRecursion IsCallAllowed (out_calls root_text plan k paths) → AllByRecursion IsAllowedBelow paths
  outs-allowed [] k h = tt
  outs-allowed (path ∷ paths) k h = (h.0.0, outs-allowed paths (k + 1) h.1)

  places-allowed : (paths : List Names) (k index : ℕ) → index < length paths → AllByRecursion IsCallAllowed (out_calls root_text plan k paths) → IsAllowedBelow (out_place plan (k + index))
  places-allowed [] k index below h = absurd (omega arith)
  places-allowed (path ∷ paths) k zero below h = let e : k ≡ k + 0 = omega arith in subst (λ n. IsAllowedBelow (out_place plan n)) e h.0.1.0
  places-allowed (path ∷ paths) k (suc index) below h =
      let e : (k + 1) + index ≡ k + suc index = omega arith in subst (λ n. IsAllowedBelow (out_place plan n)) e (places-allowed paths (k + 1) index (omega arith) h.1)

  puts-allowed : (list : List Put) → AllByRecursion IsCallAllowed (map (put_call root_text plan) list) → AllByRecursion (λ put. IsAllowedBelow (path_of_put put)) list
  puts-allowed [] h = tt
  puts-allowed (puts.Back index to ∷ list) h = (h.0.1.0, puts-allowed list h.1)
  puts-allowed (puts.NewDir to ∷ list) h = (h.0.0, puts-allowed list h.1)

  copies-allowed : (to : Tree (List ℕ)) (jobs : List CopyJob) → AllByRecursion IsCallAllowed (flat_map (λ calls. calls) (map (λ job. copy_calls root_text job.to (bytes_there (place_of to job.id))) jobs)) → AllByRecursion (λ job. IsAllowedBelow job.to) jobs
  copies-allowed to [] h = tt
  copies-allowed to (job ∷ jobs) h =
      let w = each-split IsCallAllowed (copy_calls root_text job.to (bytes_there (place_of to job.id))) (flat_map (λ calls. calls) (map (λ job. copy_calls root_text job.to (bytes_there (place_of to job.id))) jobs)) h in
      (w.0.0.0, copies-allowed to jobs w.1)

-- ---- paths of names

abbrev pub AreParts : Names → Type 0
AreParts path = AllByRecursion IsPart path

abbrev IsPutOfParts : Option Put → Type 0
IsPutOfParts None = Unit {0}
IsPutOfParts (Some put) = AreParts (path_of_put put)

one-more : (put : Option Put) (rest : List Put) → IsPutOfParts put → AllByRecursion (λ one. AreParts (path_of_put one)) rest → AllByRecursion (λ one. AreParts (path_of_put one)) (cons_option put rest)
one-more None rest is more = more
one-more (Some put) rest is more = (is, more)

module _ {B : Type 0} where
  pub kept-parts : (keeps : Names × Node B → Bool) (tree : Tree B) → has_names tree ≡ true → AllByRecursion AreParts (map (λ place. place.0) (filter keeps tree))
  kept-parts keeps [] h = tt
  kept-parts keeps (e ∷ es) h =
      let rest : AllByRecursion AreParts (map (λ place. place.0) (filter keeps es)) = kept-parts keeps es (second (are_names e.0) _ h) in
      elim (keeps e) as (λ b. AllByRecursion AreParts (map (λ (place : Names × Node B). place.0) (cond b (e ∷ filter keeps es) (filter keeps es)))) [ true ↦ (parts-of e.0 (first (are_names e.0) _ h), rest) | false ↦ rest ]

  pub jobs-parts : (places : Tree B) → AllByRecursion AreParts (map (λ place. place.0) places) → AllByRecursion (λ (job : CopyJob). AreParts job.to) (map (λ place. record { id = place.1.id; to = place.0 }) places)
  jobs-parts [] h = tt
  jobs-parts (e ∷ es) h = (h.0, jobs-parts es h.1)

  put-by-parts : (from to : Tree B) (place : Names × Node B) (old : Option (Names × Node B)) → AreParts place.0 → IsPutOfParts (put_by from to place old)
  put-by-parts from to place None parts = elim (is_dir place.1) as (λ b. IsPutOfParts (cond b (Some (puts.NewDir place.0)) None)) [ true ↦ parts | false ↦ tt ]
  put-by-parts from to place (Some old) parts = elim (same_place from to old.0 place.0) as (λ b. IsPutOfParts (cond b None (Some (puts.Back (index_of (outs from to) old.0) place.0)))) [ true ↦ tt | false ↦ parts ]

  put-at-parts : (from to : Tree B) (place : Names × Node B) → AreParts place.0 → IsPutOfParts (put_at from to place)
  put-at-parts from to place parts = elim (is_root_path place.0) as (λ b. IsPutOfParts (cond b None (put_by from to place (place_of from place.1.id)))) [
    | true ↦ tt
    | false ↦ put-by-parts from to place (place_of from place.1.id) parts
  ]

  pub puts-parts : (from to places : Tree B) → has_names places ≡ true → AllByRecursion (λ put. AreParts (path_of_put put)) (filter_map (put_at from to) places)
  puts-parts from to [] h = tt
  puts-parts from to (e ∷ es) h =
      one-more (put_at from to e) (filter_map (put_at from to) es) (put-at-parts from to e (parts-of e.0 (first (are_names e.0) _ h))) (puts-parts from to es (second (are_names e.0) _ h))

  -- ---- equal trees

  -- whether a tree's paths are of names is seen of what it holds
  names-content : (tree : Tree B) → list_all (λ (place : Names × Body B). are_names place.0) (content tree) ≡ has_names tree
  names-content tree = list_all-map (λ (place : Names × Body B). are_names place.0) (λ (place : Names × Node B). (place.0, place.1.body)) tree

  equal-named : (a b : Tree B) → AreEqual a b → has_names b ≡ true → has_names a ≡ true
  equal-named a b same h = sym (names-content a) ∙ ap (list_all (λ (place : Names × Body B). are_names place.0)) same ∙ names-content b ∙ h

-- a target's tree has paths of names
pub target-named : (state : State (List ℕ)) (root_text : List ℕ) (root : Names) (from : Tree (List ℕ)) → IsTarget state root_text root from → has_names from ≡ true
target-named state root_text root from target =
    equal-named from (subtree state.tree root) target.equal
    (named-from (subtree state.tree root) (sorted-subtree state.tree root target.valid.sorted)
    (λ q s h. names-rest root q ((live_tree state target.valid).named (root ++ q) s (below q s h))))
  where
    below : (q : Names) (s : Shape) → shapes (subtree state.tree root) q ≡ Some s → shapes state.tree (root ++ q) ≡ Some s
    below q s h = ap (option_map shape) (sym (node_at-subtree state.tree root q)) ∙ h

-- ---- the whole plan

each-both : {A : Type 0} (P Q R : A → Type 0) → ((x : A) → P x → Q x → R x) → (xs : List A) → AllByRecursion P xs → AllByRecursion Q xs → AllByRecursion R xs
each-both P Q R so [] h k = tt
each-both P Q R so (x ∷ xs) h k = (so x h.0 k.0, each-both P Q R so xs h.1 k.1)

module _ (from to : Tree (List ℕ)) (names : Names) (root_text : List ℕ) (root : Names) (leads : live_path root_text ≡ Ok root) (from_named : has_names from ≡ true) (to_named : has_names to ≡ true)
    (allowed : bad_paths (plan_calls root_text (plan_of from to names) to) ≡ []) where
  abbrev plan : Plan
  plan = plan_of from to names

  abbrev copied : List Call
  copied = flat_map (λ calls. calls) (all_copy_calls root_text plan to)

  moves-allowed : AllByRecursion IsCallAllowed (move_calls root_text plan) × AllByRecursion IsCallAllowed (copied ++ last_call root_text plan ∷ [])
  moves-allowed = each-split IsCallAllowed (move_calls root_text plan) (copied ++ last_call root_text plan ∷ []) (calls-allowed (plan_calls root_text plan to) (all-allowed (flat_map paths_in (plan_calls root_text plan to)) allowed))

  inside-allowed : AllByRecursion IsCallAllowed (out_calls root_text plan 0 plan.outs) × AllByRecursion IsCallAllowed (map (put_call root_text plan) plan.puts)
  inside-allowed = each-split IsCallAllowed (out_calls root_text plan 0 plan.outs) (map (put_call root_text plan) plan.puts) moves-allowed.0.1

  copied-allowed : AllByRecursion IsCallAllowed copied
  copied-allowed = (each-split IsCallAllowed copied (last_call root_text plan ∷ []) moves-allowed.1).0

  tmp_part : IsPart plan.tmp
  tmp_part = free-part (names ++ root_names to) (length (names ++ root_names to)) 0

  below : (path : Names) → AreParts path → IsAllowed (text_below root_text path) → LeadsBelow root_text root path
  below path parts read = leads-below root_text root path leads parts read

  pub paths-lead : PathsLead root_text root plan
  paths-lead = record {
    tmp = below (plan.tmp ∷ []) (tmp_part, tt) moves-allowed.0.0.0;
    outs = each-both AreParts (IsAllowedBelow root_text plan) (LeadsBelow root_text root) below plan.outs (each-reverse AreParts (map (λ (place : Names × Node (List ℕ)). place.0) (filter (goes from to) from)) (kept-parts (goes from to) from from_named)) (outs-allowed root_text plan plan.outs 0 inside-allowed.0);
    places = λ index less. below (out_place plan index) (tmp_part, (decimal-part index, tt))
        (let e : 0 + index ≡ index = omega arith in subst (λ n. IsAllowed (text_below root_text (out_place plan n))) e (places-allowed root_text plan plan.outs 0 index less inside-allowed.0));
    puts = each-both (λ put. AreParts (path_of_put put)) (λ put. IsAllowed (text_below root_text (path_of_put put))) (λ put. LeadsBelow root_text root (path_of_put put)) (λ put. below (path_of_put put)) plan.puts
        (puts-parts from to to to_named) (puts-allowed root_text plan plan.puts inside-allowed.1);
    copies = each-both (λ job. AreParts job.to) (λ job. IsAllowed (text_below root_text job.to)) (λ job. LeadsBelow root_text root job.to) (λ job. below job.to) plan.copies
        (jobs-parts (filter (is_copied from) to) (kept-parts (is_copied from) to to_named)) (copies-allowed root_text plan to plan.copies copied-allowed);
  }

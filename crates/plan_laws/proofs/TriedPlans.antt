-- The calls of a plan, any of which may be refused: two mergings of its copies lead to equal trees.
use Rattle.std.proofs.Common.{◌≡◌, ◌⊎◌, inl, inr, ℕ, ◌+◌, Bool, true, false, cond, Some, Ok, List, [], ◌∷◌, ◌++◌, map, length, refl, ap, sym, subst, ◌∙◌, append_assoc}
use Rattle.std.specs.Prelude.{◌&&◌}
use Rattle.std.specs.Fmt.{decimal}
use Rattle.std.specs.List.{filter, AllByRecursion}
use Rattle.std.specs.Option.{option_map}
use Rattle.hs_types.specs.Names.{Names}
use Rattle.hs_types.specs.declared.call.Call.{Call}
use Rattle.hs_types.specs.declared.call.Call.TheVariants as calls
use Rattle.hs_plain.specs.declared.plan.Plan.{Plan}
use Rattle.hs_plain.specs.declared.state.Node.{Node}
use Rattle.hs_plain.specs.declared.state.State.{State}
use Rattle.hs_plain.specs.Tree.{Tree, parent_of, subtree}
use Rattle.hs_plain.specs.Valid.{has_names}
use Rattle.hs_plain.specs.Modifying.{live_path}
use Rattle.hs_plain.specs.Plan.{goes, is_copied, text_below, out_calls, put_call, move_calls, last_call, plan_of, ArePlanCalls, root_names, AreEqual}
use Rattle.hs_plain.proofs.ValidLists.{In}
use Rattle.hs_plain.proofs.ValidNodes.{shape, shapes}
use Rattle.hs_plain.proofs.ValidDirs.{listed_so}
use Rattle.hs_plain.proofs.ValidFollows.{live_tree, live_dirs}
use Rattle.hs_plain.proofs.ValidSubtrees.{sorted-subtree}
use Rattle.plan_laws.specs.Sight.{Placing, Back, New}
use Rattle.plan_laws.specs.Placings.{placings, as_put}
use Rattle.plan_laws.specs.Pair.{IsPair}
use Rattle.plan_laws.specs.Copies.{Contents, CopyCall, path_of_call, is_at, call_done, is_dir_seen, done_here, fits_here}
use Rattle.plan_laws.specs.Bridge.{held}
use Rattle.plan_laws.specs.Steps.{Step, Make, Fill, Drop, out_steps, put_step, plan_steps, copy_call, step_call}
use Rattle.plan_laws.specs.Lanes.{calls_tried, HasRoot}
use Rattle.plan_laws.specs.inside.Taken.{taken_here, call_taken, calls_taken, step_goes, step_tried, steps_tried}
use Rattle.plan_laws.proofs.Paths.{by}
use Rattle.plan_laws.proofs.Lists.{each-append, each-reverse, same-so}
use Rattle.plan_laws.proofs.Lanes.{taken-same, mergings-agree, mergings-apart}
use Rattle.plan_laws.proofs.Whole.{each-call}
use Rattle.plan_laws.proofs.Planned.{placings-puts, IsByPath, by-path, pages, in-copies, map-map, map-onto}
use Rattle.plan_laws.proofs.Equal.{equal-at, equal-from, held-at}
use Rattle.plan_laws.proofs.Texts.{IsPart, decimal-part, free-part, leads-below}
use Rattle.plan_laws.proofs.PlanTexts.{AreParts, path_of_put, kept-parts, jobs-parts, puts-parts}
use Rattle.plan_laws.proofs.Tried.{MayLead, StepMayLead, reads, Sees, steps-made}

-- ---- copies alone

keep-same : {X : Type 0} (p q : X → Bool) (xs : List X) → filter p (filter q xs) ≡ filter q (filter p xs)
keep-same p q [] = refl
keep-same p q (x ∷ xs) = by (p x)
    (λ t. by (q x)
    (λ u. ap (λ b. filter p (cond b (x ∷ filter q xs) (filter q xs))) u ∙ ap (λ b. cond b (x ∷ filter p (filter q xs)) (filter p (filter q xs))) t ∙ ap (λ ys. x ∷ ys) (keep-same p q xs)
    ∙ sym (ap (λ b. cond b (x ∷ filter q (filter p xs)) (filter q (filter p xs))) u) ∙ sym (ap (λ b. filter q (cond b (x ∷ filter p xs) (filter p xs))) t))
    (λ u. ap (λ b. filter p (cond b (x ∷ filter q xs) (filter q xs))) u ∙ keep-same p q xs
    ∙ sym (ap (λ b. cond b (x ∷ filter q (filter p xs)) (filter q (filter p xs))) u) ∙ sym (ap (λ b. filter q (cond b (x ∷ filter p xs) (filter p xs))) t)))
    (λ t. by (q x)
    (λ u. ap (λ b. filter p (cond b (x ∷ filter q xs) (filter q xs))) u ∙ ap (λ b. cond b (x ∷ filter p (filter q xs)) (filter p (filter q xs))) t ∙ keep-same p q xs
    ∙ sym (ap (λ b. filter q (cond b (x ∷ filter p xs) (filter p xs))) t))
    (λ u. ap (λ b. filter p (cond b (x ∷ filter q xs) (filter q xs))) u ∙ keep-same p q xs ∙ sym (ap (λ b. filter q (cond b (x ∷ filter p xs) (filter p xs))) t)))

-- a copy's call on what a target holds is that call at its path
tried-taken : (seen : Contents) (call : CopyCall) → cond (step_goes seen (Fill call)) (call_done seen call) seen ≡ call_taken seen call
tried-taken seen call = λ i q. at q i
  where
    inside : (b c : Bool) (q : Names) → cond (b && c) (λ (path : Names). cond (is_at path call) (done_here call (seen path)) (seen path)) seen q ≡ cond (is_at q call) (cond (b && c) (done_here call (seen q)) (seen q)) (seen q)
    inside true true q = refl
    inside true false q = elim (is_at q call) as (λ t. seen q ≡ cond t (seen q) (seen q)) [ true ↦ refl | false ↦ refl ]
    inside false c q = elim (is_at q call) as (λ t. seen q ≡ cond t (seen q) (seen q)) [ true ↦ refl | false ↦ refl ]

    at : (q : Names) → cond (step_goes seen (Fill call)) (call_done seen call) seen q ≡ call_taken seen call q
    at q = inside (is_dir_seen (seen (parent_of (path_of_call call)))) (fits_here call (seen (path_of_call call))) q
        ∙ by (is_at q call)
        (λ t. ap (λ (p : Names). cond (is_at q call) (cond (is_dir_seen (seen (parent_of (path_of_call call))) && fits_here call (seen p)) (done_here call (seen q)) (seen q)) (seen q)) (sym (same-so (path_of_call call) q t)))
        (λ f. ap (λ b. cond b (cond (is_dir_seen (seen (parent_of (path_of_call call))) && fits_here call (seen (path_of_call call))) (done_here call (seen q)) (seen q)) (seen q)) f
        ∙ sym (ap (λ b. cond b (taken_here (is_dir_seen (seen (parent_of (path_of_call call)))) call (seen q)) (seen q)) f))

module _ (test : Step → Bool) where
  abbrev reads_call : CopyCall → Bool
  reads_call call = test (Fill call)

  fills-tried : (seen : Contents) (made : List CopyCall) → steps_tried test seen (map Fill made) ≡ calls_taken seen (filter reads_call made)
  fills-tried seen [] = refl
  fills-tried seen (call ∷ made) = by (test (Fill call))
      (λ t. ap (λ b. steps_tried test (cond (b && step_goes seen (Fill call)) (call_done seen call) seen) (map Fill made)) t
      ∙ ap (λ (s : Contents). steps_tried test s (map Fill made)) (tried-taken seen call)
      ∙ fills-tried (call_taken seen call) made
      ∙ sym (ap (λ b. calls_taken seen (cond b (call ∷ filter reads_call made) (filter reads_call made))) t))
      (λ f. ap (λ b. steps_tried test (cond (b && step_goes seen (Fill call)) (call_done seen call) seen) (map Fill made)) f
      ∙ fills-tried seen made
      ∙ sym (ap (λ b. calls_taken seen (cond b (call ∷ filter reads_call made) (filter reads_call made))) f))

  fills-same : (one two : List CopyCall) → ((q : Names) → filter (is_at q) one ≡ filter (is_at q) two) → ((q : Names) → (filter (is_at q) one ≡ []) ⊎ (filter (is_at (parent_of q)) one ≡ [])) →
      (seen : Contents) → steps_tried test seen (map Fill one) ≡ steps_tried test seen (map Fill two)
  fills-same one two same apart seen =
      fills-tried seen one
      ∙ (λ i q. taken-same (filter reads_call one) (filter reads_call two)
      (λ q. keep-same (is_at q) reads_call one ∙ ap (filter reads_call) (same q) ∙ sym (keep-same (is_at q) reads_call two))
      (λ q. left q (apart q)) seen q i)
      ∙ sym (fills-tried seen two)
    where
      left : (q : Names) → (filter (is_at q) one ≡ []) ⊎ (filter (is_at (parent_of q)) one ≡ []) → (filter (is_at q) (filter reads_call one) ≡ []) ⊎ (filter (is_at (parent_of q)) (filter reads_call one) ≡ [])
      left q (inl none) = inl (keep-same (is_at q) reads_call one ∙ ap (filter reads_call) none)
      left q (inr none) = inr (keep-same (is_at (parent_of q)) reads_call one ∙ ap (filter reads_call) none)

  tried-append : (xs ys : List Step) (seen : Contents) → steps_tried test seen (xs ++ ys) ≡ steps_tried test (steps_tried test seen xs) ys
  tried-append [] ys seen = refl
  tried-append (x ∷ xs) ys seen = tried-append xs ys (step_tried test seen x)

-- ---- the whole plan

module _ (from to : Tree (List ℕ)) (is : IsPair from to) (from_named : has_names from ≡ true) (to_named : has_names to ≡ true) (names : Names) (root_text : List ℕ) (root : Names) (leads : live_path root_text ≡ Ok root) where
  abbrev plan : Plan
  plan = plan_of from to names

  abbrev text : Names → List ℕ
  text = text_below root_text

  abbrev steps : List CopyCall → List Step
  steps made = plan_steps plan.tmp decimal from to made

  -- ---- their calls are the plan's

  outs-texts : (paths : List Names) (k : ℕ) → map (step_call text) (out_steps plan.tmp decimal k paths) ≡ out_calls root_text plan k paths
  outs-texts [] k = refl
  outs-texts (p ∷ ps) k = ap (λ zs. calls.Rename (text p) (text (plan.tmp ∷ decimal k ∷ [])) ∷ zs) (outs-texts ps (k + 1))

  puts-texts : (list : List (Placing (Node (List ℕ)))) → map (step_call text) (map (put_step plan.tmp decimal) list) ≡ map (put_call root_text plan) (map as_put list)
  puts-texts [] = refl
  puts-texts (Back i above name ∷ list) = ap (λ zs. calls.Rename (text (plan.tmp ∷ decimal i ∷ [])) (text (above ++ name ∷ [])) ∷ zs) (puts-texts list)
  puts-texts (New node above name ∷ list) = ap (λ zs. calls.Mkdir (text (above ++ name ∷ [])) ∷ zs) (puts-texts list)

  all-texts : (made : List CopyCall) → map (step_call text) (steps made) ≡ move_calls root_text plan ++ (map (copy_call text) made ++ last_call root_text plan ∷ [])
  all-texts made =
      ap (λ zs. calls.Mkdir (text (plan.tmp ∷ [])) ∷ zs)
      (map-onto (step_call text) (out_steps plan.tmp decimal 0 plan.outs) (map (put_step plan.tmp decimal) (placings from to) ++ (map Fill made ++ Drop plan.tmp ∷ []))
      ∙ (λ i. outs-texts plan.outs 0 i ++ rest i)
      ∙ sym (append_assoc (out_calls root_text plan 0 plan.outs) (map (put_call root_text plan) plan.puts) (map (copy_call text) made ++ last_call root_text plan ∷ [])))
    where
      rest : map (step_call text) (map (put_step plan.tmp decimal) (placings from to) ++ (map Fill made ++ Drop plan.tmp ∷ [])) ≡ map (put_call root_text plan) plan.puts ++ (map (copy_call text) made ++ last_call root_text plan ∷ [])
      rest =
          map-onto (step_call text) (map (put_step plan.tmp decimal) (placings from to)) (map Fill made ++ Drop plan.tmp ∷ [])
          ∙ (λ i. (puts-texts (placings from to) ∙ ap (map (put_call root_text plan)) (placings-puts from to)) i
          ++ (map-onto (step_call text) (map Fill made) (Drop plan.tmp ∷ []) ∙ ap (λ zs. zs ++ last_call root_text plan ∷ []) (map-map (step_call text) Fill made)) i)

  -- ---- their texts

  may : (path : Names) → AreParts path → MayLead text root path
  may path parts allowed = leads-below root_text root path leads parts allowed

  tmp_part : IsPart plan.tmp
  tmp_part = free-part (names ++ root_names to) (length (names ++ root_names to)) 0

  abbrev StepMay : Step → Type 0
  StepMay step = StepMayLead text root step

  outs-may : (paths : List Names) (k : ℕ) → AllByRecursion AreParts paths → AllByRecursion StepMay (out_steps plan.tmp decimal k paths)
  outs-may [] k each = tt
  outs-may (p ∷ ps) k each = ((may p each.0, may (plan.tmp ∷ decimal k ∷ []) (tmp_part, (decimal-part k, tt))), outs-may ps (k + 1) each.1)

  puts-may : (list : List (Placing (Node (List ℕ)))) → AllByRecursion (λ put. AreParts (path_of_put put)) (map as_put list) → AllByRecursion StepMay (map (put_step plan.tmp decimal) list)
  puts-may [] each = tt
  puts-may (Back i above name ∷ list) each = ((may (plan.tmp ∷ decimal i ∷ []) (tmp_part, (decimal-part i, tt)), may (above ++ name ∷ []) each.0), puts-may list each.1)
  puts-may (New node above name ∷ list) each = (may (above ++ name ∷ []) each.0, puts-may list each.1)

  fills-may : (made : List CopyCall) → AllByRecursion (λ call. AreParts (path_of_call call)) made → AllByRecursion StepMay (map Fill made)
  fills-may [] each = tt
  fills-may (call ∷ made) each = (may (path_of_call call) each.0, fills-may made each.1)

  steps-may : (copied : List Call) (by_path : IsByPath from to is root_text plan refl copied) → AllByRecursion StepMay (steps by_path.made)
  steps-may copied by_path = (
    may (plan.tmp ∷ []) (tmp_part, tt),
    each-append StepMay (out_steps plan.tmp decimal 0 plan.outs) (map (put_step plan.tmp decimal) (placings from to) ++ (map Fill by_path.made ++ Drop plan.tmp ∷ []))
        (outs-may plan.outs 0 (each-reverse AreParts (map (λ (place : Names × Node (List ℕ)). place.0) (filter (goes from to) from)) (kept-parts (goes from to) from from_named)))
        (each-append StepMay (map (put_step plan.tmp decimal) (placings from to)) (map Fill by_path.made ++ Drop plan.tmp ∷ [])
        (puts-may (placings from to) (subst (AllByRecursion (λ put. AreParts (path_of_put put))) (sym (placings-puts from to)) (puts-parts from to to to_named)))
        (each-append StepMay (map Fill by_path.made) (Drop plan.tmp ∷ []) (fills-may by_path.made
        (each-call AreParts by_path.made (λ path there. in-copies from to is root_text plan refl by_path.merging AreParts (jobs-parts (filter (is_copied from) to) (kept-parts (is_copied from) to to_named)) path there)))
        (may (plan.tmp ∷ []) (tmp_part, tt), tt))),
  )

  -- ---- two mergings

  steps-same : (one two : List Call) (a : IsByPath from to is root_text plan refl one) (b : IsByPath from to is root_text plan refl two) (seen : Contents) → steps_tried (reads text) seen (steps a.made) ≡ steps_tried (reads text) seen (steps b.made)
  steps-same one two a b seen =
      after-moves (out_steps plan.tmp decimal 0 plan.outs) (map (put_step plan.tmp decimal) (placings from to)) (step_tried (reads text) seen (Make [] plan.tmp))
    where
      after-moves : (outs_steps puts_steps : List Step) (holds : Contents) → steps_tried (reads text) holds (outs_steps ++ (puts_steps ++ (map Fill a.made ++ Drop plan.tmp ∷ []))) ≡ steps_tried (reads text) holds (outs_steps ++ (puts_steps ++ (map Fill b.made ++ Drop plan.tmp ∷ [])))
      after-moves outs_steps puts_steps holds =
          split a.made ∙ ap (λ (s : Contents). steps_tried (reads text) s (Drop plan.tmp ∷ []))
          (fills-same (reads text) a.made b.made (mergings-agree from to is (pages from to is root_text plan refl) a.made b.made a.merging b.merging) (mergings-apart from to is (pages from to is root_text plan refl) a.made b.made a.merging b.merging)
          (steps_tried (reads text) (steps_tried (reads text) holds outs_steps) puts_steps))
          ∙ sym (split b.made)
        where
          split : (made : List CopyCall) → steps_tried (reads text) holds (outs_steps ++ (puts_steps ++ (map Fill made ++ Drop plan.tmp ∷ []))) ≡ steps_tried (reads text) (steps_tried (reads text) (steps_tried (reads text) (steps_tried (reads text) holds outs_steps) puts_steps) (map Fill made)) (Drop plan.tmp ∷ [])
          split made =
              tried-append (reads text) outs_steps (puts_steps ++ (map Fill made ++ Drop plan.tmp ∷ [])) holds
              ∙ tried-append (reads text) puts_steps (map Fill made ++ Drop plan.tmp ∷ []) (steps_tried (reads text) holds outs_steps)
              ∙ tried-append (reads text) (map Fill made) (Drop plan.tmp ∷ []) (steps_tried (reads text) (steps_tried (reads text) holds outs_steps) puts_steps)

  -- ---- two states

  abbrev begun : State (List ℕ) → Contents
  begun state = held state root

  root-sees : (state : State (List ℕ)) (has : HasRoot state root_text root) → Sees text root state (begun state)
  root-sees state has =
      let listed : In state.snapshottable has.node.id = listed_so state.snapshottable has.node.id has.snapshottable in
      let d : (p : Names) × (shapes state.tree p ≡ Some (has.node.id.0, true)) = (live_dirs state has.valid).there has.node.id listed in
      let same : root ≡ d.0 = (live_tree state has.valid).once root d.0 (shape has.node) (has.node.id.0, true) (ap (option_map shape) has.there) d.1 refl in
      record { valid = has.valid; id = has.node.id; at = (ap (shapes state.tree) same ∙ d.1, listed); sees = refl }

  -- the calls of a plan, on one state
  module _ (made : List Call) (are : ArePlanCalls root_text plan to made) where
    paths_of : IsByPath from to is root_text plan refl are.copied
    paths_of = by-path from to is root_text plan refl are.copied are.merging

    calls-are : map (step_call text) (steps paths_of.made) ≡ made
    calls-are = all-texts paths_of.made ∙ ap (λ (zs : List Call). move_calls root_text plan ++ (zs ++ last_call root_text plan ∷ [])) paths_of.same ∙ sym are.all

    calls-see : (state : State (List ℕ)) → HasRoot state root_text root → Sees text root (calls_tried state made) (steps_tried (reads text) (begun state) (steps paths_of.made))
    calls-see state has = subst (λ (list : List Call). Sees text root (calls_tried state list) (steps_tried (reads text) (begun state) (steps paths_of.made))) calls-are
        (steps-made text root state (begun state) (root-sees state has) (steps paths_of.made) (steps-may are.copied paths_of))

  pub mergings-equal : (one two : List Call) → ArePlanCalls root_text plan to one → ArePlanCalls root_text plan to two → (a b : State (List ℕ)) → HasRoot a root_text root → HasRoot b root_text root → AreEqual (subtree a.tree root) (subtree b.tree root) →
      AreEqual (subtree (calls_tried a one).tree root) (subtree (calls_tried b two).tree root)
  mergings-equal one two are_one are_two a b has_a has_b equal =
      let sees_a : Sees text root (calls_tried a one) (steps_tried (reads text) (begun a) (steps (paths_of one are_one).made)) = calls-see one are_one a has_a in
      let sees_b : Sees text root (calls_tried b two) (steps_tried (reads text) (begun b) (steps (paths_of two are_two).made)) = calls-see two are_two b has_b in
      let same_begun : begun a ≡ begun b = λ i q. (held-at a root q ∙ equal-at (subtree a.tree root) (subtree b.tree root) equal q ∙ sym (held-at b root q)) i in
      let same : held (calls_tried a one) root ≡ held (calls_tried b two) root =
      sees_a.sees ∙ steps-same are_one.copied are_two.copied (paths_of one are_one) (paths_of two are_two) (begun a) ∙ ap (λ (s : Contents). steps_tried (reads text) s (steps (paths_of two are_two).made)) same_begun ∙ sym sees_b.sees in
      equal-from (subtree (calls_tried a one).tree root) (subtree (calls_tried b two).tree root) (sorted-subtree (calls_tried a one).tree root sees_a.valid.sorted) (sorted-subtree (calls_tried b two).tree root sees_b.valid.sorted) (λ q.
      sym (held-at (calls_tried a one) root q) ∙ (λ i. same i q) ∙ held-at (calls_tried b two) root q)

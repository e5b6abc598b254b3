-- The calls of a plan, in any merging of its copies, in a journal.
use Rattle.std.proofs.Common.{◌≡◌, ℕ, suc, ◌+◌, ◌<◌, ◌≤◌, ◌^◌, Bool, true, None, List, [], ◌∷◌, ◌++◌, map, length, refl, ap, sym, subst, ◌∙◌, arith}
use Rattle.std.specs.List.{AllByRecursion}
use Rattle.hs_types.specs.Names.{Names}
use Rattle.hs_types.specs.declared.call.Call.{Call}
use Rattle.hs_types.specs.declared.journal.Entry.{Entry}
use Rattle.hs_plain.specs.declared.plan.Plan.{Plan}
use Rattle.hs_plain.specs.declared.state.Node.{Node}
use Rattle.hs_plain.specs.declared.state.State.{State}
use Rattle.hs_plain.specs.declared.state.Body.TheVariants.{Dir}
use Rattle.hs_plain.specs.Files.{plain_files}
use Rattle.hs_plain.specs.Tree.{Tree, node_at, subtree}
use Rattle.hs_plain.specs.Replay.{replay_from}
use Rattle.hs_plain.specs.Valid.{has_names}
use Rattle.hs_plain.specs.Plan.{outs, plan_of, move_calls, last_call, ArePlanCalls, plan_calls, bad_paths, AreEqual, text_below}
use Rattle.plan_laws.specs.Sight.{Placing, Back, New}
use Rattle.plan_laws.specs.Placings.{placing_at, placings, as_put}
use Rattle.plan_laws.specs.Copies.{CopyCall, Create, Append, path_of_call}
use Rattle.plan_laws.specs.Pair.{IsPair, HasSameBytes}
use Rattle.plan_laws.specs.Steps.{Step, Fill, Drop, out_steps, put_step, plan_steps, step_call, StepLeads, HasFirst, NextIsOk, AreOk}
use Rattle.plan_laws.specs.Target.{IsBegun, IsTarget}
use Rattle.plan_laws.specs.inside.Numbers.{number}
use Rattle.plan_laws.proofs.PlanTexts.{LeadsBelow, path_of_put, PathsLead, target-named, paths-lead}
use Rattle.plan_laws.proofs.Numbers.{number-once, number-low}
use Rattle.plan_laws.proofs.Lists.{each-append}
use Rattle.plan_laws.proofs.Moves.{each-put, put-parts, went-out}
use Rattle.plan_laws.proofs.Whole.{each-call}
use Rattle.plan_laws.proofs.Planned.{index-low, placings-puts, IsByPath, by-path, pages, IsLow, steps-calls, in-copies}
use Rattle.plan_laws.proofs.Journal.{all-ok, next-ok, ends-equal}

module _ (from to : Tree (List ℕ)) (is : IsPair from to) (bytes : HasSameBytes from to) (names : Names) (from_free : node_at from ((plan_of from to names).tmp ∷ []) ≡ None) (to_free : node_at to ((plan_of from to names).tmp ∷ []) ≡ None)
    (few : length (outs from to) ≤ 2 ^ 64) (made : List Call) (root_text : List ℕ) (are : ArePlanCalls root_text (plan_of from to names) to made) where
  abbrev plan : Plan
  plan = plan_of from to names

  begun : IsBegun from to plan.tmp number
  begun = record { pair = is; same_bytes = bytes; from_free = from_free; to_free = to_free; numbers_differ = number-once }

  by_path : IsByPath from to is root_text plan refl are.copied
  by_path = by-path from to is root_text plan refl are.copied are.merging

  abbrev top : Node (List ℕ)
  top = record { id = record { 0 = 0 }; mode = 0; stamp = 0; body = Dir }

  abbrev IsLowPut : Placing (Node (List ℕ)) → Type 0
  IsLowPut put = IsLow root_text plan (length (outs from to)) put

  low : AllByRecursion IsLowPut (placings from to)
  low = each-put (placing_at from to) IsLowPut to is.to_tree.sorted (λ q m put at h. put-parts from to is bytes plan.tmp number number-once top refl from_free to_free q m put h
      (λ above name old e from_at moves is_put. subst IsLowPut (sym is_put) (index-low (outs from to) old.0 (went-out from to is bytes plan.tmp number number-once top refl from_free to_free q m old at from_at moves)))
      (λ above name e none dir is_put. subst IsLowPut (sym is_put) tt))

  same-calls : map (step_call (text_below root_text)) (plan_steps plan.tmp number from to by_path.made) ≡ made
  same-calls = steps-calls root_text plan from to by_path.made refl refl few low ∙ ap (λ (zs : List Call). move_calls root_text plan ++ (zs ++ last_call root_text plan ∷ [])) by_path.same ∙ sym are.all

  -- ---- the texts of its steps

  module _ (root : Names) (lead : PathsLead root_text root plan) where
    abbrev StepLeadsBelow : Step → Type 0
    StepLeadsBelow step = StepLeads (text_below root_text) root step

    place-leads : (i : ℕ) → i < length (outs from to) → LeadsBelow root_text root (plan.tmp ∷ number i ∷ [])
    place-leads i below = subst (λ n. LeadsBelow root_text root (plan.tmp ∷ n ∷ [])) (sym (number-low i (lower (length (outs from to)) below few))) (lead.places i below)
      where
        lower : (n : ℕ) → i < n → n ≤ 2 ^ 64 → i < 2 ^ 64
        lower n h k = omega arith

    outs-lead : (paths : List Names) (k : ℕ) → k + length paths ≤ length (outs from to) → AllByRecursion (LeadsBelow root_text root) paths → AllByRecursion StepLeadsBelow (out_steps plan.tmp number k paths)
    outs-lead [] k within each = tt
    outs-lead (p ∷ ps) k within each = ((each.0, place-leads k (lower (length ps) (length (outs from to)) within)), outs-lead ps (k + 1) (later (length ps) (length (outs from to)) within) each.1)
      where
        lower : (n m : ℕ) → k + suc n ≤ m → k < m
        lower n m within = omega arith

        later : (n m : ℕ) → k + suc n ≤ m → k + 1 + n ≤ m
        later n m within = omega arith

    puts-lead : (list : List (Placing (Node (List ℕ)))) → AllByRecursion IsLowPut list → AllByRecursion (λ put. LeadsBelow root_text root (path_of_put put)) (map as_put list) → AllByRecursion StepLeadsBelow (map (put_step plan.tmp number) list)
    puts-lead [] lows each = tt
    puts-lead (Back i above name ∷ list) lows each = ((place-leads i lows.0, each.0), puts-lead list lows.1 each.1)
    puts-lead (New node above name ∷ list) lows each = (each.0, puts-lead list lows.1 each.1)

    fills-lead : (calls : List CopyCall) → AllByRecursion (λ call. LeadsBelow root_text root (path_of_call call)) calls → AllByRecursion StepLeadsBelow (map Fill calls)
    fills-lead [] each = tt
    fills-lead (Create path ∷ calls) each = (each.0, fills-lead calls each.1)
    fills-lead (Append path bytes ∷ calls) each = (each.0, fills-lead calls each.1)

    copies-lead : AllByRecursion (λ call. LeadsBelow root_text root (path_of_call call)) by_path.made
    copies-lead = each-call (LeadsBelow root_text root) by_path.made (λ path there. in-copies from to is root_text plan refl by_path.merging (LeadsBelow root_text root) lead.copies path there)

    steps-lead : AllByRecursion StepLeadsBelow (plan_steps plan.tmp number from to by_path.made)
    steps-lead = (
      lead.tmp,
      each-append StepLeadsBelow (out_steps plan.tmp number 0 (outs from to)) (map (put_step plan.tmp number) (placings from to) ++ (map Fill by_path.made ++ Drop plan.tmp ∷ [])) (outs-lead (outs from to) 0 (from-none (length (outs from to))) lead.outs)
          (each-append StepLeadsBelow (map (put_step plan.tmp number) (placings from to)) (map Fill by_path.made ++ Drop plan.tmp ∷ [])
          (puts-lead (placings from to) low (subst (AllByRecursion (λ put. LeadsBelow root_text root (path_of_put put))) (sym (placings-puts from to)) lead.puts))
          (each-append StepLeadsBelow (map Fill by_path.made) (Drop plan.tmp ∷ []) (fills-lead by_path.made copies-lead) (lead.tmp, tt))),
    )
      where
        from-none : (n : ℕ) → 0 + n ≤ n
        from-none n = omega arith

  -- ---- in a journal

  module _ (to_named : has_names to ≡ true) (allowed : bad_paths (plan_calls root_text plan to) ≡ []) (root : Names) (state : State (List ℕ)) (target : IsTarget state root_text root from)
      (is_own : Entry → Bool) (entries : List Entry) (first : HasFirst is_own root_text entries made) where
    steps-first : HasFirst is_own root_text entries (map (step_call (text_below root_text)) (plan_steps plan.tmp number from to by_path.made))
    steps-first = record { rest = first.rest; own = first.own ∙ sym same-calls; accepted = first.accepted; others = first.others }

    all-lead : AllByRecursion (StepLeads (text_below root_text) root) (plan_steps plan.tmp number from to by_path.made)
    all-lead = steps-lead root (paths-lead from to names root_text root target.leads (target-named state root_text root from target) to_named allowed)

    pub plan-ok : AreOk is_own state entries
    plan-ok = all-ok from to plan.tmp number begun (pages from to is root_text plan refl) by_path.made by_path.merging state root_text root target (text_below root_text) all-lead is_own entries steps-first

    pub plan-next : NextIsOk (replay_from plain_files state entries) first.rest
    unfolding steps-first
    plan-next = next-ok from to plan.tmp number begun (pages from to is root_text plan refl) by_path.made by_path.merging state root_text root target (text_below root_text) all-lead is_own entries steps-first

    pub plan-equal : first.rest ≡ [] → AreEqual to (subtree (replay_from plain_files state entries).tree root)
    unfolding steps-first
    plan-equal none = ends-equal from to plan.tmp number begun (pages from to is root_text plan refl) by_path.made by_path.merging state root_text root target (text_below root_text) all-lead is_own entries steps-first none

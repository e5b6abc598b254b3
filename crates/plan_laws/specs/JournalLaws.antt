-- Laws of a plan's calls in a journal, among the entries of others that don't touch the root.
use Rattle.std.specs.Prelude.{◌≡◌, ◌≤◌, ◌^◌, ◌∷◌, [], map, List, ℕ, Bool, true, length, None}
use Rattle.std.specs.List.{AllByRecursion}
use Rattle.hs_types.specs.Names.{Names}
use Rattle.hs_types.specs.declared.call.Call.{Call}
use Rattle.hs_types.specs.declared.journal.Entry.{Entry}
use Rattle.hs_plain.specs.declared.state.State.{State}
use Rattle.hs_plain.specs.Tree.{Tree, node_at, subtree}
use Rattle.hs_plain.specs.Plan.{outs, plan_of, ArePlanCalls, plan_calls, bad_paths, AreEqual}
use Rattle.hs_plain.specs.Files.{plain_files}
use Rattle.hs_plain.specs.Replay.{replay_from}
use Rattle.hs_plain.specs.Valid.{has_names}
use Rattle.plan_laws.specs.Pair.{IsPair, HasSameBytes}
use Rattle.plan_laws.specs.Copies.{CopyCall, IsMerging}
use Rattle.plan_laws.specs.Steps.{plan_steps, step_call, StepLeads, HasFirst, NextIsOk, AreOk}
use Rattle.plan_laws.specs.Target.{IsBegun, IsTarget}

-- each of the sync's calls is answered by an Ok reply where it stands
abbrev pub StepsAreOk : Type 0
StepsAreOk = (from to : Tree (List ℕ)) (tmp : List ℕ) (number : ℕ → List ℕ) → IsBegun from to tmp number → (pages : Names → List (List ℕ)) (copies : List CopyCall) → IsMerging from to pages copies →
    (state : State (List ℕ)) (root_text : List ℕ) (root : Names) → IsTarget state root_text root from → (text : Names → List ℕ) → AllByRecursion (StepLeads text root) (plan_steps tmp number from to copies) →
    (is_own : Entry → Bool) (entries : List Entry) → HasFirst is_own root_text entries (map (step_call text) (plan_steps tmp number from to copies)) → AreOk is_own state entries

-- and so would the next one be
abbrev pub StepsGoOn : Type 0
StepsGoOn = (from to : Tree (List ℕ)) (tmp : List ℕ) (number : ℕ → List ℕ) → IsBegun from to tmp number → (pages : Names → List (List ℕ)) (copies : List CopyCall) → IsMerging from to pages copies →
    (state : State (List ℕ)) (root_text : List ℕ) (root : Names) → IsTarget state root_text root from → (text : Names → List ℕ) → AllByRecursion (StepLeads text root) (plan_steps tmp number from to copies) →
    (is_own : Entry → Bool) (entries : List Entry) → (first : HasFirst is_own root_text entries (map (step_call text) (plan_steps tmp number from to copies))) → NextIsOk (replay_from plain_files state entries) first.rest

-- with all of them the root holds what the second tree holds
abbrev pub StepsLead : Type 0
StepsLead = (from to : Tree (List ℕ)) (tmp : List ℕ) (number : ℕ → List ℕ) → IsBegun from to tmp number → (pages : Names → List (List ℕ)) (copies : List CopyCall) → IsMerging from to pages copies →
    (state : State (List ℕ)) (root_text : List ℕ) (root : Names) → IsTarget state root_text root from → (text : Names → List ℕ) → AllByRecursion (StepLeads text root) (plan_steps tmp number from to copies) →
    (is_own : Entry → Bool) (entries : List Entry) → (first : HasFirst is_own root_text entries (map (step_call text) (plan_steps tmp number from to copies))) → first.rest ≡ [] → AreEqual to (subtree (replay_from plain_files state entries).tree root)

-- each of the plan's calls is answered by an Ok reply where it stands
abbrev pub PlanIsOk : Type 0
PlanIsOk = (from to : Tree (List ℕ)) → IsPair from to → HasSameBytes from to → (names : Names) → node_at from ((plan_of from to names).tmp ∷ []) ≡ None → node_at to ((plan_of from to names).tmp ∷ []) ≡ None → length (outs from to) ≤ 2 ^ 64 →
    (made : List Call) (root_text : List ℕ) → ArePlanCalls root_text (plan_of from to names) to made → has_names to ≡ true → bad_paths (plan_calls root_text (plan_of from to names) to) ≡ [] → (root : Names) (state : State (List ℕ)) → IsTarget state root_text root from →
    (is_own : Entry → Bool) (entries : List Entry) → HasFirst is_own root_text entries made → AreOk is_own state entries

-- and so would the next one be
abbrev pub PlanGoesOn : Type 0
PlanGoesOn = (from to : Tree (List ℕ)) → IsPair from to → HasSameBytes from to → (names : Names) → node_at from ((plan_of from to names).tmp ∷ []) ≡ None → node_at to ((plan_of from to names).tmp ∷ []) ≡ None → length (outs from to) ≤ 2 ^ 64 →
    (made : List Call) (root_text : List ℕ) → ArePlanCalls root_text (plan_of from to names) to made → has_names to ≡ true → bad_paths (plan_calls root_text (plan_of from to names) to) ≡ [] → (root : Names) (state : State (List ℕ)) → IsTarget state root_text root from →
    (is_own : Entry → Bool) (entries : List Entry) → (first : HasFirst is_own root_text entries made) → NextIsOk (replay_from plain_files state entries) first.rest

-- with all of them the root holds what the second tree holds
abbrev pub PlanLeadsInJournal : Type 0
PlanLeadsInJournal = (from to : Tree (List ℕ)) → IsPair from to → HasSameBytes from to → (names : Names) → node_at from ((plan_of from to names).tmp ∷ []) ≡ None → node_at to ((plan_of from to names).tmp ∷ []) ≡ None → length (outs from to) ≤ 2 ^ 64 →
    (made : List Call) (root_text : List ℕ) → ArePlanCalls root_text (plan_of from to names) to made → has_names to ≡ true → bad_paths (plan_calls root_text (plan_of from to names) to) ≡ [] → (root : Names) (state : State (List ℕ)) → IsTarget state root_text root from →
    (is_own : Entry → Bool) (entries : List Entry) → (first : HasFirst is_own root_text entries made) → first.rest ≡ [] → AreEqual to (subtree (replay_from plain_files state entries).tree root)

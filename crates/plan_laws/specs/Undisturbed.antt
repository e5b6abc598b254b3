-- A sync under its premises: what it begins with, and what its calls lead to.
use Rattle.std.specs.Prelude.{◌≡◌, ℕ, ◌≤◌, ◌-◌, ◌^◌, Bool, true, List, [], ◌∷◌, ◌++◌, length, take, drop, None, Ok}
use Rattle.hs_types.specs.Names.{Names}
use Rattle.hs_types.specs.Limits.{journal_limit}
use Rattle.hs_types.specs.declared.ids.CallerId.{CallerId}
use Rattle.hs_types.specs.declared.call.Call.{Call}
use Rattle.hs_types.specs.declared.journal.Entry.{Entry}
use Rattle.hs_plain.specs.declared.plan.Plan.{Plan}
use Rattle.hs_plain.specs.declared.state.State.{State}
use Rattle.hs_plain.specs.Tree.{node_at, subtree}
use Rattle.hs_plain.specs.Modifying.{live_path}
use Rattle.hs_plain.specs.Replay.{plain_after}
use Rattle.hs_plain.specs.Span.{is_one_of}
use Rattle.hs_plain.specs.Valid.{has_names}
use Rattle.hs_plain.specs.Premises.{SyncAsk, SyncSide, BeginsEqual, IsUnchanged, IsUndisturbed, IsUnhindered, MeetsNoFault, state_before}
use Rattle.hs_plain.specs.Plan.{outs, root_names, plan_of, ArePlanCalls, plan_calls, bad_paths, AreEqual}
use Rattle.plan_laws.specs.Pair.{IsPair, HasSameBytes}
use Rattle.plan_laws.specs.Steps.{own_calls, NextIsOk, AreOk}
use Rattle.plan_laws.specs.Target.{IsTarget}

-- the plan of a sync between these snapshots
abbrev pub plan_begun : (ask : SyncAsk) (source target : State (List ℕ)) → BeginsEqual ask source target → Plan
plan_begun ask source target begins = plan_of begins.from.tree begins.to.tree (root_names begins.base.tree)

-- all that the laws of a plan ask of its trees, its temporary directory and its target
pub record IsReady (ask : SyncAsk) (source target : State (List ℕ)) (begins : BeginsEqual ask source target) : Type 0 where
  pub pair : IsPair begins.from.tree begins.to.tree
  pub same_bytes : HasSameBytes begins.from.tree begins.to.tree
  pub to_names : has_names begins.to.tree ≡ true
  pub from_free : node_at begins.from.tree ((plan_begun ask source target begins).tmp ∷ []) ≡ None
  pub to_free : node_at begins.to.tree ((plan_begun ask source target begins).tmp ∷ []) ≡ None
  pub few_outs : length (outs begins.from.tree begins.to.tree) ≤ 2 ^ 64
  pub root : Names
  pub is_target : IsTarget target ask.target_root root begins.from.tree

-- both journals are no longer than a namenode's may be
pub record AreWithinLimit (source target : SyncSide) : Type 0 where
  pub source_few : length source.journal ≤ journal_limit
  pub target_few : length target.journal ≤ journal_limit

-- a sync whose two copies of `from` are equal and whose target is unchanged since is ready
abbrev pub UnchangedIsReady : Type 0
UnchangedIsReady = (ask : SyncAsk) (source target : SyncSide) → AreWithinLimit source target → (begins : BeginsEqual ask (state_before source) (state_before target)) → IsUnchanged (state_before target) begins.base →
    IsReady ask (state_before source) (state_before target) begins

-- ---- its calls, among the entries of others

-- the entries from an index up to another
abbrev pub entries_between : ℕ → ℕ → List Entry → List Entry
entries_between low high journal = take (high - low) (drop low journal)

abbrev pub is_entry_of : List CallerId → Entry → Bool
is_entry_of callers entry = is_one_of callers entry.caller

-- the entries of a sync's callers from the beginning of its span up to an index in it
abbrev pub entries_up_to : SyncSide → ℕ → List Entry
entries_up_to side end = entries_between side.span.low end side.journal

-- up to an index in the span, the entries of a sync's callers are accepted and have the first of these calls
pub record HasMade (side : SyncSide) (end : ℕ) (calls : List Call) : Type 0 where
  pub from : side.span.low ≤ end
  pub within : end ≤ side.span.high
  pub rest : List Call
  pub own : own_calls (is_entry_of side.callers) (entries_up_to side end) ++ rest ≡ calls
  pub accepted : MeetsNoFault side.journal (record { low = side.span.low; high = end }) side.callers

-- an undisturbed sync of which no path breaks a path rule, and which has made the first of its plan's calls, those of the copies merged in one of the ways that are allowed
pub record IsUnderWay (ask : SyncAsk) (source target : SyncSide) (end : ℕ) : Type 0 where
  pub limits : AreWithinLimit source target
  pub undisturbed : IsUndisturbed ask source target
  pub paths : bad_paths (plan_calls ask.target_root (plan_begun ask (state_before source) (state_before target) undisturbed.begins) undisturbed.begins.to.tree) ≡ []
  pub calls : List Call
  pub are_calls : ArePlanCalls ask.target_root (plan_begun ask (state_before source) (state_before target) undisturbed.begins) undisturbed.begins.to.tree calls
  pub made : HasMade target end calls

-- an unhindered sync that has made the first of its plan's calls is under way: its entries are accepted, and no path breaks a rule
abbrev pub UnhinderedIsUnderWay : Type 0
UnhinderedIsUnderWay = (ask : SyncAsk) (source target : SyncSide) → AreWithinLimit source target → (undisturbed : IsUndisturbed ask source target) → IsUnhindered ask source target undisturbed →
    (calls : List Call) → ArePlanCalls ask.target_root (plan_begun ask (state_before source) (state_before target) undisturbed.begins) undisturbed.begins.to.tree calls →
    (end : ℕ) → target.span.low ≤ end → end ≤ target.span.high → (rest : List Call) → own_calls (is_entry_of target.callers) (entries_up_to target end) ++ rest ≡ calls → IsUnderWay ask source target end

-- each of these calls was answered by an Ok reply
abbrev pub UndisturbedIsOk : Type 0
UndisturbedIsOk = (ask : SyncAsk) (source target : SyncSide) (end : ℕ) → IsUnderWay ask source target end → AreOk (is_entry_of target.callers) (state_before target) (entries_up_to target end)

-- and so would the next one be, as the first call behind them
abbrev pub UndisturbedGoesOn : Type 0
UndisturbedGoesOn = (ask : SyncAsk) (source target : SyncSide) (end : ℕ) → (way : IsUnderWay ask source target end) → NextIsOk (plain_after (take end target.journal)) way.made.rest

-- where none is left the target root's live tree is equal to the source's copied tree of `to`
abbrev pub UndisturbedEndsEqual : Type 0
UndisturbedEndsEqual = (ask : SyncAsk) (source target : SyncSide) (end : ℕ) → (way : IsUnderWay ask source target end) → way.made.rest ≡ [] → (root : Names) → live_path ask.target_root ≡ Ok root →
    AreEqual way.undisturbed.begins.to.tree (subtree (plain_after (take end target.journal)).tree root)

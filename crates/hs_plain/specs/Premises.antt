-- The premises under which a sync is to be done, and to leave the target equal to its `to`.
use Rattle.std.specs.Prelude.{◌≡◌, ℕ, ◌<◌, true, List, [], take, Ok}
use Rattle.hs_types.specs.declared.ids.CallerId.{CallerId}
use Rattle.hs_types.specs.declared.ids.SnapId.{SnapId}
use Rattle.hs_types.specs.declared.journal.Entry.{Entry}
use Rattle.hs_plain.specs.declared.state.Member.{Member}
use Rattle.hs_plain.specs.declared.state.State.{State}
use Rattle.hs_plain.specs.Asked.{Asked, ◌>>=◌}
use Rattle.hs_plain.specs.State.{member_named}
use Rattle.hs_plain.specs.Reading.{snapshottable_at, lines_between}
use Rattle.hs_plain.specs.Change.{is_accepted}
use Rattle.hs_plain.specs.Replay.{plain_after}
use Rattle.hs_plain.specs.Span.{Span, IsInSpan, is_one_of, IsQuiet, Stays}
use Rattle.hs_plain.specs.Plan.{AreEqual, plan_of, plan_calls, bad_paths, root_names}

-- what a sync is asked for: the texts of two roots, and the names of two snapshots
pub record SyncAsk : Type 0 where
  pub source_root : List ℕ
  pub target_root : List ℕ
  pub from : List ℕ
  pub to : List ℕ

-- the snapshot of this name of the directory at a path
abbrev pub member_at : State (List ℕ) → List ℕ → List ℕ → Asked (Member (List ℕ))
member_at state text name = do
  dir ← snapshottable_at state text
  member_named state.members dir name

-- the roots have their snapshots, the source's in rising ids, and the two copies of `from` are equal (DistCp guide, "-diff")
pub record BeginsEqual (ask : SyncAsk) (source target : State (List ℕ)) : Type 0 where
  -- the source's `from` and `to`, and the target's `from`
  pub from : Member (List ℕ)
  pub to : Member (List ℕ)
  pub base : Member (List ℕ)
  pub has_from : member_at source ask.source_root ask.from ≡ Ok from
  pub has_to : member_at source ask.source_root ask.to ≡ Ok to
  pub has_base : member_at target ask.target_root ask.from ≡ Ok base
  pub rising : from.snapshot.0 < to.snapshot.0
  pub equal : AreEqual from.tree base.tree

-- the current state
abbrev pub now : SnapId
now = record { 0 = 0 }

-- the target is unchanged since its `from` (DistCp guide, "-diff")
abbrev pub IsUnchanged : State (List ℕ) → Member (List ℕ) → Type 0
IsUnchanged target base = lines_between target base.directory base.snapshot now ≡ []

-- no faulted entry in the span is one of these callers'
abbrev pub MeetsNoFault : List Entry → Span → List CallerId → Type 0
MeetsNoFault journal span callers = (index : ℕ) (entry : Entry) → IsInSpan journal span index entry → is_one_of callers entry.caller ≡ true → is_accepted entry.kind ≡ true

-- one side of a sync: the journal, how many entries it may have, the span, and the sync's callers there
pub record SyncSide : Type 0 where
  pub journal : List Entry
  pub limit : ℕ
  pub span : Span
  pub callers : List CallerId

-- the state in which the span begins
abbrev pub state_before : SyncSide → State (List ℕ)
state_before side = plain_after (take side.span.low side.journal)

-- for a target that ends equal to `to`: equal snapshots, an unchanged target that nobody else writes, and snapshots that stay
pub record IsUndisturbed (ask : SyncAsk) (source target : SyncSide) : Type 0 where
  pub begins : BeginsEqual ask (state_before source) (state_before target)
  pub unchanged : IsUnchanged (state_before target) begins.base
  pub quiet : IsQuiet target.journal target.span ask.target_root target.callers
  pub from_stays : Stays source.journal source.span begins.from.snapshot
  pub to_stays : Stays source.journal source.span begins.to.snapshot
  pub base_stays : Stays target.journal target.span begins.base.snapshot

-- and for a sync that is done, unless memory runs out: no fault is met, no journal comes to its limit, and the plan's paths meet the path rules
pub record IsUnhindered (ask : SyncAsk) (source target : SyncSide) (undisturbed : IsUndisturbed ask source target) : Type 0 where
  pub source_faults : MeetsNoFault source.journal source.span source.callers
  pub target_faults : MeetsNoFault target.journal target.span target.callers
  pub source_room : source.span.high < source.limit
  pub target_room : target.span.high < target.limit
  pub paths : bad_paths (plan_calls ask.target_root (plan_of undisturbed.begins.from.tree undisturbed.begins.to.tree (root_names undisturbed.begins.base.tree)) undisturbed.begins.to.tree) ≡ []

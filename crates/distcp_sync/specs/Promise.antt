-- The promise of a sync: under its premises it is done, and then leaves the target equal to the source's `to`.
use Rattle.std.specs.Prelude.{◌≡◌, ℕ, true, take, Ok}
use Rattle.hs_types.specs.Names.{Names}
use Rattle.hs_plain.specs.Modifying.{live_path}
use Rattle.hs_plain.specs.Tree.{subtree}
use Rattle.hs_plain.specs.Replay.{plain_after, is_proper}
use Rattle.hs_plain.specs.Plan.{AreEqual}
use Rattle.hs_plain.specs.Premises.{SyncAsk, IsUndisturbed, IsUnhindered}
use Rattle.plan_laws.specs.Undisturbed.{AreWithinLimit}
use Rattle.distcp_sync.specs.declared.answer.SyncAnswer.TheVariants as answers
use Rattle.distcp_sync.specs.declared.report.SyncReport.{SyncReport}
use Rattle.distcp_sync.specs.Told.{OrNoMemory}
use Rattle.distcp_sync.specs.Steps.{SyncSides, up_to_last}
use Rattle.distcp_sync.specs.Synced.{IsSynced}

-- where the source's store tells its bytes
pub record KeepsPromise (ask : SyncAsk) (sides : SyncSides) (report : SyncReport) : Type 0 where
  -- an undisturbed sync that nothing hinders is done, unless memory runs out
  pub done : (undisturbed : IsUndisturbed ask sides.source sides.target) → IsUnhindered ask sides.source sides.target undisturbed → OrNoMemory answers.Done report.answer
  -- an undisturbed sync that is done leaves the target's live tree, just after its last entry, equal to the source's `to`
  pub equal : (undisturbed : IsUndisturbed ask sides.source sides.target) → report.answer ≡ answers.Done → (root : Names) → live_path ask.target_root ≡ Ok root →
      AreEqual undisturbed.begins.to.tree (subtree (plain_after (take (up_to_last report.moves) sides.target.journal)).tree root)

-- each sync keeps it
abbrev pub SyncsKeepPromise : Type 0
SyncsKeepPromise = (ask : SyncAsk) (page : ℕ) (sides : SyncSides) (report : SyncReport) → IsSynced ask page sides report → sides.source_tells ≡ true →
    AreWithinLimit sides.source sides.target → is_proper sides.source.journal ≡ true → is_proper sides.target.journal ≡ true → KeepsPromise ask sides report

-- A sync that ended while its plan's parts were fetched.
use Rattle.std.proofs.Common.{◌≡◌, ◌≢◌, ◌⊎◌, inl, inr, ℕ, Bool, true, false, Option, Some, None, List, [], ◌∷◌, ◌++◌, map, Result, Ok, Err, refl, ap, sym, ◌∙◌, subst}
use Rattle.hs_types.specs.declared.ids.InodeId.{InodeId}
use Rattle.hs_types.specs.declared.ids.Side.{Side}
use Rattle.hs_types.specs.declared.ids.Side.TheVariants.{Source, Target}
use Rattle.hs_types.specs.declared.call.Call.{Call}
use Rattle.hs_plain.specs.Answer.{is_ok_reply}
use Rattle.page_join.specs.Links.{Known}
use Rattle.copy_workers.specs.declared.copied.Look.{Look}
use Rattle.copy_workers.specs.declared.copied.Copied.{Copied}
use Rattle.distcp_sync.specs.declared.answer.SyncAnswer.TheVariants as answers
use Rattle.distcp_sync.specs.declared.report.SyncReport.{SyncReport}
use Rattle.distcp_sync.specs.declared.start.SyncStart.{SyncStart}
use Rattle.hs_plain.specs.Premises.{SyncAsk}
use Rattle.distcp_sync.specs.Told.{answer_at, OrNoMemory}
use Rattle.distcp_sync.specs.Steps.{SyncSides, IsHeard, places_in, ended_copy, are_numbered}
use Rattle.distcp_sync.specs.Synced.{IsNewDir, HasTrees, HasMade, planned, IsLastLook, EndsAlone, Ended, HasWorked}
use Rattle.distcp_sync.specs.inside.Trace.{IsListedDir, IsFetchCall, lines, names, root, items}
use Rattle.distcp_sync.proofs.Unmade.{unmade_all}

module _ (ask : SyncAsk) (page : ℕ) (sides : SyncSides) (report : SyncReport) (start : SyncStart) (one two : Look) (trees : HasTrees ask page sides report start one two) where
  -- no call of the plan was made
  abbrev pub none_made : report.moves ≡ [] → report.copies ≡ [] → places_in sides.target ≡ [] → HasMade ask page sides report start one two trees
  none_made moves copies none = record {
    made = [];
    all = unmade_all report moves copies;
    accepted = [];
    faulted = [];
    entries = tt;
    own = none;
    rest = planned ask page sides report start one two trees;
    first = refl;
    left = tt;
    within = λ some. absurd (some refl);
    copies = ap (are_numbered 0) copies;
  }

  -- the reply that ended the fetching
  fetch_look : (source : Known) (side : Side) (call : Call) (look : Look) (made : HasMade ask page sides report start one two trees) → made.made ≡ [] → ((dir : InodeId) → IsListedDir start source dir → IsNewDir trees.from.tree trees.to.tree dir) →
      IsFetchCall start page source side call → IsHeard sides side call look → IsLastLook ask page sides report start one two trees made look
  fetch_look source side call look made none listed (IsFetchCall.lines cursor r f t) heard = IsLastLook.lines cursor r f t none heard
  fetch_look source side call look made none listed (IsFetchCall.names after) heard = IsLastLook.names after none heard
  fetch_look source side call look made none listed (IsFetchCall.root after) heard = IsLastLook.items start.source after (inl refl) none heard
  fetch_look source side call look made none listed (IsFetchCall.items dir after is) heard = IsLastLook.items dir after (inr (listed dir is)) none heard

  -- by a reply
  pub by_look : (source : Known) (side : Side) (call : Call) (look : Look) → report.moves ≡ [] → report.copies ≡ [] → places_in sides.target ≡ [] → ((dir : InodeId) → IsListedDir start source dir → IsNewDir trees.from.tree trees.to.tree dir) →
      IsFetchCall start page source side call → IsHeard sides side call look → is_ok_reply look.reply.reply ≡ false → OrNoMemory (answer_at look) report.answer → HasWorked ask page sides report start one two (look ∷ [])
  by_look source side call look moves copies none listed is heard bad told =
      let made : HasMade ask page sides report start one two trees = none_made moves copies none in
      record {
        trees = trees;
        made = made;
        ended = subst (λ (cs : List Copied). Ended ask page sides report start one two trees made (look ∷ []) (ended_copy cs)) (sym copies) (fetch_look source side call look made refl listed is heard, bad, told);
      }

  -- by want of memory
  pub by_want : report.moves ≡ [] → report.copies ≡ [] → places_in sides.target ≡ [] → report.answer ≡ answers.NoMemory → HasWorked ask page sides report start one two []
  by_want moves copies none told =
      let made : HasMade ask page sides report start one two trees = none_made moves copies none in
      record {
        trees = trees;
        made = made;
        ended = subst (λ (cs : List Copied). Ended ask page sides report start one two trees made [] (ended_copy cs)) (sym copies) (EndsAlone.wanting told);
      }

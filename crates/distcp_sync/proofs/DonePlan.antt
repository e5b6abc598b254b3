-- The next call of an unhindered sync's plan is answered by an Ok reply, wherever it is made behind the sync's entries.
use Rattle.std.proofs.Common.{◌≡◌, ℕ, ◌≤◌, true, List, [], ◌∷◌, ◌++◌, map, take, ap, subst, ◌∙◌, append-nil, arith}
use Rattle.hs_types.specs.declared.call.Call.{Call}
use Rattle.hs_types.specs.declared.journal.Entry.{Entry}
use Rattle.hs_plain.specs.Answer.{answer, is_ok_reply}
use Rattle.hs_plain.specs.Replay.{plain_after}
use Rattle.hs_plain.specs.Premises.{SyncAsk, SyncSide, IsUndisturbed, IsUnhindered, state_before}
use Rattle.hs_plain.specs.Plan.{plan_calls}
use Rattle.hs_plain.proofs.PlanCalls.{in_turn_are_merged}
use Rattle.plan_laws.specs.Steps.{NextIsOk}
use Rattle.plan_laws.specs.Undisturbed.{AreWithinLimit, IsUnderWay, plan_begun}
use Rattle.plan_laws.proofs.UnderWay.{way-next}
use Rattle.copy_workers.specs.declared.copied.Made.{Made}
use Rattle.distcp_sync.specs.Steps.{AreEntries, places_in, up_to_last, IsNext, AreFaulted, AreFirst}
use Rattle.distcp_sync.proofs.SpanCalls.{span-calls, first-calls, next-is}
use Rattle.distcp_sync.proofs.SpanOwn.{all-mine, none-faulted, mine-accepted}

module _ (ask : SyncAsk) (source target : SyncSide) (limits : AreWithinLimit source target) (undisturbed : IsUndisturbed ask source target) (unhindered : IsUnhindered ask source target undisturbed) where
  -- the calls of the premises' plan
  abbrev pub plan-is : List Call
  plan-is = plan_calls ask.target_root (plan_begun ask (state_before source) (state_before target) undisturbed.begins) undisturbed.begins.to.tree

  -- what a sync made, as its report and the target's journal tell it
  module _ (made : List Made) (accepted faulted : List Entry) (rest : List Call) (are : AreEntries target.journal target.span.low made (accepted ++ faulted)) (own : places_in target ≡ map (λ (one : Made). one.position) made)
      (first : AreFirst true plan-is accepted rest) (left : AreFaulted true rest faulted) where
    none : faulted ≡ []
    none = none-faulted true rest accepted faulted (mine-accepted target unhindered.target_faults (accepted ++ faulted) (all-mine target made (accepted ++ faulted) own are)) left

    are-accepted : AreEntries target.journal target.span.low made accepted
    are-accepted = subst (AreEntries target.journal target.span.low made) (ap (λ (es : List Entry). accepted ++ es) none ∙ append-nil accepted) are

    under-way : (end : ℕ) → up_to_last made ≤ end → target.span.low ≤ end → end ≤ target.span.high → NextIsOk (plain_after (take end target.journal)) rest
    under-way end behind from within =
        let way : IsUnderWay ask source target end = record {
          limits = limits;
          undisturbed = undisturbed;
          paths = unhindered.paths;
          calls = plan-is;
          are_calls = in_turn_are_merged ask.target_root (plan_begun ask (state_before source) (state_before target) undisturbed.begins) undisturbed.begins.to.tree;
          made = record {
            from = from;
            within = within;
            rest = rest;
            own = ap (λ (cs : List Call). cs ++ rest) (span-calls target end made accepted own are-accepted behind within) ∙ first-calls plan-is accepted rest first;
            accepted = λ index entry at. unhindered.target_faults index entry (record { from = at.from; below = omega (arith, at.below, within); there = at.there });
          };
        } in
        way-next ask source target end way

    pub next-ok : (call : Call) (end : ℕ) → IsNext true rest call → up_to_last made ≤ end → target.span.low ≤ end → end ≤ target.span.high → is_ok_reply (answer (plain_after (take end target.journal)) call) ≡ true
    next-ok call end next behind from within =
        let is : (more : List Call) × (rest ≡ call ∷ more) = next-is rest call next in
        subst (NextIsOk (plain_after (take end target.journal))) is.1 (under-way end behind from within)

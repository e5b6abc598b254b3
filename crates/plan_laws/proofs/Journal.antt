-- A sync in a journal: a valid target ends with the second tree.
use Rattle.std.proofs.Common.{◌≡◌, ℕ, Bool, true, Some, List, [], map, refl, ap, sym, ◌∙◌}
use Rattle.std.specs.List.{AllByRecursion}
use Rattle.std.specs.Option.{option_map}
use Rattle.hs_types.specs.Names.{Names}
use Rattle.hs_types.specs.declared.journal.Entry.{Entry}
use Rattle.hs_plain.specs.declared.state.State.{State}
use Rattle.hs_plain.specs.Files.{plain_files}
use Rattle.hs_plain.specs.Tree.{Tree, node_at, subtree}
use Rattle.hs_plain.specs.Replay.{replay_from}
use Rattle.hs_plain.specs.Plan.{AreEqual}
use Rattle.hs_plain.proofs.ValidLists.{In}
use Rattle.hs_plain.proofs.ValidNodes.{shape, shapes}
use Rattle.hs_plain.proofs.ValidDirs.{listed_so}
use Rattle.hs_plain.proofs.ValidFollows.{live_tree, live_dirs}
use Rattle.hs_plain.proofs.Validity.{valid-replay_from}
use Rattle.plan_laws.specs.Copies.{Contents, CopyCall, IsMerging, content_of}
use Rattle.plan_laws.specs.Bridge.{held}
use Rattle.plan_laws.specs.Steps.{plan_steps, step_call, StepLeads, HasFirst, NextIsOk, AreOk}
use Rattle.plan_laws.specs.Target.{IsBegun, IsTarget}
use Rattle.plan_laws.proofs.Near.{live-is}
use Rattle.plan_laws.proofs.Whole.{sync-equal}
use Rattle.plan_laws.proofs.Equal.{equal-at, equal-held, held-at}
use Rattle.plan_laws.proofs.Roots.{IsRootAt}
use Rattle.plan_laws.proofs.Steps.{Leads, all-entries, plan-goes, plan-done}

module _ (from to : Tree (List ℕ)) (tmp : List ℕ) (number : ℕ → List ℕ) (begun : IsBegun from to tmp number) (pages : Names → List (List ℕ)) (copies : List CopyCall) (merging : IsMerging from to pages copies)
    (state : State (List ℕ)) (root_text : List ℕ) (root : Names) (target : IsTarget state root_text root from)
    (text : Names → List ℕ) (leads : AllByRecursion (StepLeads text root) (plan_steps tmp number from to copies))
    (is_own : Entry → Bool) (entries : List Entry) (first : HasFirst is_own root_text entries (map (step_call text) (plan_steps tmp number from to copies))) where
  root-at : IsRootAt state root target.node.id
  root-at =
      let listed : In state.snapshottable target.node.id = listed_so state.snapshottable target.node.id target.snapshottable in
      let d : (p : Names) × (shapes state.tree p ≡ Some (target.node.id.0, true)) = (live_dirs state target.valid).there target.node.id listed in
      let same : root ≡ d.0 = (live_tree state target.valid).once root d.0 (shape target.node) (target.node.id.0, true) (ap (option_map shape) target.there) d.1 refl in
      (ap (shapes state.tree) same ∙ d.1, listed)

  abbrev seen : Contents
  seen = held state root

  begins : (q : Names) → seen q ≡ content_of (node_at from q)
  begins q = held-at state root q ∙ sym (equal-at from (subtree state.tree root) target.equal q)

  all : Leads text root_text root (live-is root_text root target.leads) target.node.id is_own entries (plan_steps tmp number from to copies) first.rest state seen
  all = all-entries text root_text root (live-is root_text root target.leads) target.node.id is_own entries (plan_steps tmp number from to copies) first.rest state seen target.valid root-at refl
      first.own leads (plan-goes tmp number from to begun.pair begun.same_bytes begun.numbers_differ begun.from_free begun.to_free pages copies merging seen begins) first.accepted first.others

  pub all-ok : AreOk is_own state entries
  all-ok = all.0

  pub next-ok : NextIsOk (replay_from plain_files state entries) first.rest
  next-ok = all.1

  pub ends-equal : first.rest ≡ [] → AreEqual to (subtree (replay_from plain_files state entries).tree root)
  ends-equal none = equal-held (replay_from plain_files state entries) root to (valid-replay_from plain_files state entries target.valid).sorted begun.pair.to_tree.sorted (λ q.
      ap (λ (c : Contents). c q) (all.2.0 none ∙ plan-done tmp number from to begun.pair begun.same_bytes begun.numbers_differ begun.from_free begun.to_free pages copies merging seen begins)
      ∙ sync-equal from to begun.pair begun.same_bytes tmp number begun.numbers_differ begun.from_free begun.to_free seen begins pages copies merging q)

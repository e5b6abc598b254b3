-- The two ends of a report.
use Rattle.std.proofs.Common.{◌≡◌, ℕ, ◌-◌, ◌*◌, ◌≤◌, true, false, List, [], ◌∷◌, Option, Some, None, inl, inr, refl, sym, ap, subst, ◌∙◌, cond, length, map, arith}
use Rattle.std.specs.Prelude.{◌==◌, nat_le}
use Rattle.std.specs.Int.{abs_diff}
use Rattle.std.specs.Option.{option_map}
use Rattle.std.proofs.lemmas.Bool.Decides.{nat_tests}
use Rattle.hs_types.specs.Names.{Names}
use Rattle.hs_types.specs.declared.ids.InodeId.{InodeId}
use Rattle.hs_types.specs.declared.ids.SnapId.{SnapId}
use Rattle.hs_types.specs.declared.journal.Entry.{Entry}
use Rattle.hs_plain.specs.declared.state.FileBlocks.{FileBlocks}
use Rattle.hs_plain.specs.declared.state.Node.{Node}
use Rattle.hs_plain.specs.declared.state.Member.{Member}
use Rattle.hs_plain.specs.declared.state.State.{State}
use Rattle.hs_plain.specs.Files.{Files, plain_files}
use Rattle.hs_plain.specs.State.{start}
use Rattle.hs_plain.specs.Tree.{Tree, node_at, place_of}
use Rattle.hs_plain.specs.Reading.{copied_tree, tree_below, end_tree}
use Rattle.hs_plain.specs.Replay.{replay_from, replay, plain_after}
use Rattle.hs_plain.specs.Valid.{IsValid}
use Rattle.hs_plain.specs.Viewed.{viewed_node, viewed_tree, viewed_member, viewed, StandsFor}
use Rattle.hs_plain.proofs.ValidLists.{In}
use Rattle.hs_plain.proofs.ValidSubtrees.{node_at-subtree}
use Rattle.hs_plain.proofs.Validity.{valid-replay_from}
use Rattle.hs_plain.proofs.Ticks.{tick-replay_from}
use Rattle.hs_plain.proofs.Viewed.{node_at-viewed}
use Rattle.hs_plain.proofs.ViewedReports.{end_tree-viewed}
use Rattle.inode_table.specs.Reads.{id_of}
use Rattle.report_laws.specs.Differing.{Ids, ids_in, FewDiffer}
use Rattle.report_laws.specs.Ends.{copied_tick, end_tick, entries_between, AreEndsNear}
use Rattle.report_laws.proofs.Spans.{Near, near-itself, near-back, near-none, near-more, below, near-below}
use Rattle.report_laws.proofs.Entries.{ids-live}
use Rattle.report_laws.proofs.Moments.{Moment, moment-now, moment-replay, near-now, Remembers, remembers-replay, remembers-start}
use Rattle.report_laws.proofs.Counting.{few-near}

module _ {B : Type 0} where
  -- ---- one end

  -- nothing stands there, or it is what the live tree has below a path, or a copied tree
  pub data End (state : State B) (ids : Ids) (tick : ℕ) : Type 0 where
    Empty : ((p : Names) → ids p ≡ None) → End state ids tick
    Live : (path : Names) → ids ≡ below (ids_in state.tree) path → tick ≡ state.tick → End state ids tick
    Copy : (m : Member B) → In state.members m → ids ≡ ids_in m.tree → tick ≡ m.tick → End state ids tick

  live_end : (state : State B) (place : Option (Names × Node B)) → End state (ids_in (tree_below state.tree place)) state.tick
  live_end state None = Empty (λ p. refl)
  live_end state (Some place) = Live place.0 (λ i rest. id_of (node_at-subtree state.tree place.0 rest i)) refl

  copied_end : (state : State B) (ms : List (Member B)) (s : SnapId) → ((m : Member B) → In ms m → In state.members m) → End state (ids_in (copied_tree ms s)) (copied_tick ms s)
  copied_end state [] s among = Empty (λ p. refl)
  copied_end state (m ∷ ms) s among =
      elim (m.snapshot.0 == s.0) as (λ b. End state (ids_in (cond b m.tree (copied_tree ms s))) (cond b m.tick (copied_tick ms s))) [
        | true ↦ Copy m (among m (inl refl)) refl refl
        | false ↦ copied_end state ms s (λ n at. among n (inr at))
      ]

  end_of : (state : State B) (root : InodeId) (end : SnapId) → End state (ids_in (end_tree state root end)) (end_tick state end)
  end_of state root end =
      elim (end.0 == 0) as (λ b. End state (ids_in (cond b (tree_below state.tree (place_of state.tree root)) (copied_tree state.members end))) (cond b state.tick (copied_tick state.members end))) [
        | true ↦ live_end state (place_of state.tree root)
        | false ↦ copied_end state state.members end (λ m at. at)
      ]

  -- ---- two ends

  module _ (state : State B) (known : Remembers state) where
    -- the same by the ticks' distance
    forward : (f g : Ids) (a b : ℕ) → Near f g (2 * (b - a)) → Near f g (2 * abs_diff a b)
    forward f g a b n = near-more f g (2 * (b - a)) (2 * abs_diff a b) (omega arith) n

    backward : (f g : Ids) (a b : ℕ) → Near g f (2 * (a - b)) → Near f g (2 * abs_diff a b)
    backward f g a b n = near-back g f (2 * abs_diff a b) (near-more g f (2 * (a - b)) (2 * abs_diff a b) (omega arith) n)

    two_copies : (m n : Member B) → In state.members m → In state.members n → Near (ids_in m.tree) (ids_in n.tree) (2 * abs_diff m.tick n.tick)
    two_copies m n am an = elim (nat_le m.tick n.tick) as (λ b. nat_le m.tick n.tick ≡ b → Near (ids_in m.tree) (ids_in n.tree) (2 * abs_diff m.tick n.tick)) [
      | true ↦ λ t. let le : m.tick ≤ n.tick = grind (arith, nat_tests) in forward (ids_in m.tree) (ids_in n.tree) m.tick n.tick (known.pairs m n am an le)
      | false ↦ λ t. let le : n.tick ≤ m.tick = grind (arith, nat_tests) in backward (ids_in m.tree) (ids_in n.tree) m.tick n.tick (known.pairs n m an am le)
    ] refl

    copy_live : (f g : Ids) (a b : ℕ) (m : Member B) → In state.members m → f ≡ ids_in m.tree → a ≡ m.tick → (q : Names) → g ≡ below (ids_in state.tree) q → b ≡ state.tick → Near f g (2 * abs_diff a b)
    copy_live f g a b m at is ta q iq tb = subst (λ (h : Ids). Near h g (2 * abs_diff a b)) (sym is) (subst (λ (h : Ids). Near (ids_in m.tree) h (2 * abs_diff a b)) (sym iq)
        (near-more (ids_in m.tree) (below (ids_in state.tree) q) (2 * (state.tick - m.tick)) (2 * abs_diff a b) (omega (arith, ta, tb)) (near-now state known.valid m.tick (ids_in m.tree) q (known.each m at))))

    ends : (f g : Ids) (a b : ℕ) → End state f a → End state g b → Near f g (2 * abs_diff a b)
    ends f g a b (Empty none) other = near-none f g (2 * abs_diff a b) none
    ends f g a b other (Empty none) = near-back g f (2 * abs_diff a b) (near-none g f (2 * abs_diff a b) none)
    ends f g a b (Live p is at) (Live q iq bt) = subst (λ (h : Ids). Near h g (2 * abs_diff a b)) (sym is) (subst (λ (h : Ids). Near (below (ids_in state.tree) p) h (2 * abs_diff a b)) (sym iq)
        (near-below (ids_in state.tree) (ids_in state.tree) p q (ids-live state known.valid) (ids-live state known.valid) (2 * abs_diff a b) (near-itself (ids_in state.tree) (2 * abs_diff a b))))
    ends f g a b (Copy m at is ta) (Live q iq tb) = copy_live f g a b m at is ta q iq tb
    ends f g a b (Live q iq tb) (Copy m at is ta) = near-back g f (2 * abs_diff a b) (near-more g f (2 * abs_diff b a) (2 * abs_diff a b) (omega arith) (copy_live g f b a m at is ta q iq tb))
    ends f g a b (Copy m am is ta) (Copy n an iq tb) = subst (λ (h : Ids). Near h g (2 * abs_diff a b)) (sym is) (subst (λ (h : Ids). Near (ids_in m.tree) h (2 * abs_diff a b)) (sym iq)
        (near-more (ids_in m.tree) (ids_in n.tree) (2 * abs_diff m.tick n.tick) (2 * abs_diff a b) (omega (arith, ta, tb)) (two_copies m n am an)))

    pub ends-near : AreEndsNear state
    ends-near root from to = few-near (ids_in (end_tree state root from)) (ids_in (end_tree state root to)) (2 * entries_between state from to)
        (ends (ids_in (end_tree state root from)) (ids_in (end_tree state root to)) (end_tick state from) (end_tick state to) (end_of state root from) (end_of state root to))

  pub replay-near : (files : Files B) (journal : List Entry) → AreEndsNear (replay files journal)
  replay-near files journal = ends-near (replay files journal) (remembers-replay files start journal remembers-start)

  -- ---- the live tree before and after entries

  pub entries-near : (files : Files B) (state : State B) (entries : List Entry) → IsValid state → FewDiffer (ids_in state.tree) (ids_in (replay_from files state entries).tree) (2 * length entries)
  entries-near files state entries valid =
      let last : State B = replay_from files state entries in
      let rises = tick-replay_from files state entries in
      let m : Moment last state.tick (ids_in state.tree) = moment-replay files state entries valid state.tick (ids_in state.tree) (moment-now state valid []) in
      few-near (ids_in state.tree) (ids_in last.tree) (2 * length entries)
      (near-more (ids_in state.tree) (ids_in last.tree) (2 * (last.tick - state.tick)) (2 * length entries) (omega (arith, rises)) (near-now last (valid-replay_from files state entries valid) state.tick (ids_in state.tree) [] m))

pub plain-near : (journal : List Entry) → AreEndsNear (plain_after journal)
plain-near = replay-near plain_files

-- ---- files kept in another way

module _ {A B : Type 0} (read : A → B) where
  ids-viewed : (tree : Tree A) → ids_in (viewed_tree read tree) ≡ ids_in tree
  ids-viewed tree = λ i path. (ap id_of (node_at-viewed read tree path) ∙ same (node_at tree path)) i
    where
      same : (o : Option (Node A)) → id_of (option_map (viewed_node read) o) ≡ id_of o
      same None = refl
      same (Some n) = refl

  copied_tick-viewed : (ms : List (Member A)) (s : SnapId) → copied_tick (map (viewed_member read) ms) s ≡ copied_tick ms s
  copied_tick-viewed [] s = refl
  copied_tick-viewed (m ∷ ms) s = ap (cond (m.snapshot.0 == s.0) m.tick) (copied_tick-viewed ms s)

  end_tick-viewed : (state : State A) (end : SnapId) → end_tick (viewed read state) end ≡ end_tick state end
  end_tick-viewed state end = ap (cond (end.0 == 0) state.tick) (copied_tick-viewed state.members end)

  end_ids-viewed : (state : State A) (root : InodeId) (end : SnapId) → ids_in (end_tree (viewed read state) root end) ≡ ids_in (end_tree state root end)
  end_ids-viewed state root end = ap (λ (tree : Tree B). ids_in tree) (end_tree-viewed read state root end) ∙ ids-viewed (end_tree state root end)

  few-viewed : (state : State A) (root : InodeId) (from to : SnapId)
      → FewDiffer (ids_in (end_tree (viewed read state) root from)) (ids_in (end_tree (viewed read state) root to)) (2 * entries_between (viewed read state) from to)
      ≡ FewDiffer (ids_in (end_tree state root from)) (ids_in (end_tree state root to)) (2 * entries_between state from to)
  few-viewed state root from to = λ i. FewDiffer (end_ids-viewed state root from i) (end_ids-viewed state root to i) (2 * abs_diff (end_tick-viewed state from i) (end_tick-viewed state to i))

  pub to-viewed : (state : State A) → AreEndsNear state → AreEndsNear (viewed read state)
  to-viewed state near root from to = subst (λ (X : Type 0). X) (sym (few-viewed state root from to)) (near root from to)

  pub from-viewed : (state : State A) → AreEndsNear (viewed read state) → AreEndsNear state
  from-viewed state near root from to = subst (λ (X : Type 0). X) (few-viewed state root from to) (near root from to)

pub whole-near : (journal : List Entry) (state : State FileBlocks) → StandsFor state (plain_after journal) → AreEndsNear state
whole-near journal state stands = from-viewed (λ (file : FileBlocks). file.size) state
    (subst (λ (other : State ℕ). AreEndsNear other) (sym stands) (to-viewed (λ (file : List ℕ). length file) (plain_after journal) (plain-near journal)))

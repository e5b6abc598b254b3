-- How many rows a report looks at.
use Rattle.std.proofs.Common.{◌≡◌, ℕ, ◌+◌, ◌*◌, ◌≤◌, Bool, true, false, cond, List, [], ◌∷◌, ◌++◌, filter, length, length-append, Option, Some, None, is_some, refl, sym, ap, subst, ◌∙◌, arith}
use Rattle.std.specs.Prelude.{◌&&◌}
use Rattle.std.specs.List.{IsDistinct, flat_map}
use Rattle.hs_types.specs.Names.{Names}
use Rattle.hs_types.specs.declared.ids.InodeId.{InodeId}
use Rattle.hs_types.specs.declared.ids.SnapId.{SnapId}
use Rattle.hs_types.specs.declared.journal.Entry as journal_entries
use Rattle.hs_plain.specs.declared.state.FileBlocks.{FileBlocks}
use Rattle.hs_plain.specs.declared.state.State.{State}
use Rattle.hs_plain.specs.Reading.{end_tree, is_foreign}
use Rattle.hs_plain.specs.Replay.{plain_after}
use Rattle.hs_plain.specs.State.{is_snapshottable}
use Rattle.hs_plain.specs.Tree.{node_at, same_inode}
use Rattle.hs_plain.specs.Viewed as viewed
use Rattle.hs_plain.proofs.ValidLists.{filter_so, in-contains}
use Rattle.hs_plain.proofs.ValidShapes.{true_false}
use Rattle.hs_plain.proofs.ValidTrees.{first, second}
use Rattle.snapshot_manager.specs.Snapshots.{Snapshots}
use Rattle.inode_table.specs.Climb.{path_up}
use Rattle.inode_table.specs.Reads.{Has}
use Rattle.inode_table.specs.RowHistory.{shown}
use Rattle.inode_table.specs.Tabled.{Tabled}
use Rattle.inode_table.specs.Whole.{StandsFor}
use Rattle.inode_table.proofs.Climbing.{climbs}
use Rattle.inode_table.proofs.Covers.{some_id}
use Rattle.report_laws.specs.Chains.{HasChainsWithin}
use Rattle.report_laws.specs.Costs.{looks_at, entries_apart}
use Rattle.report_laws.specs.Differing.{ListEntry}
use Rattle.report_laws.specs.EndRows.{ReadsEnd}
use Rattle.report_laws.specs.Ends.{entries_between}
use Rattle.report_laws.specs.Listed.{one_sided}
use Rattle.report_laws.proofs.Arithmetic.{cost}
use Rattle.report_laws.proofs.Climbing.{chain-has_row}
use Rattle.report_laws.proofs.EndRows.{end-reads}
use Rattle.report_laws.proofs.Listing.{distinct_none, distinct_cons, distinct_head, distinct_tail, few-rows}

-- ---- sums

abbrev total : (InodeId → ℕ) → List InodeId → ℕ
total entries [] = 0
total entries (id ∷ ids) = entries id + total entries ids

-- two walks for each inode and one for each entry, and a row for each
looks_so : (h : ℕ) (entries : InodeId → ℕ) (ids : List InodeId) → looks_at h entries ids ≡ (2 * length ids + total entries ids) * (1 + h) + (length ids + total entries ids)
looks_so h entries [] = omega arith
looks_so h entries (id ∷ ids) = let rest = looks_so h entries ids in ap (λ n. (1 + 2 * (1 + h) + entries id * (1 + (1 + h))) + n) rest ∙ sums h (entries id) (length ids) (total entries ids)
    ∙ ap (λ n. (2 * n + (entries id + total entries ids)) * (1 + h) + (n + (entries id + total entries ids))) {x = length ids + 1} {y = length (id ∷ ids)} (omega arith)
  where
    sums : (h n l t : ℕ) → (1 + 2 * (1 + h) + n * (1 + (1 + h))) + ((2 * l + t) * (1 + h) + (l + t)) ≡ (2 * (l + 1) + (n + t)) * (1 + h) + ((l + 1) + (n + t))
    sums h n l t = grind arith

-- the inodes that pass a test are those that count
total_kept : (test : InodeId → Bool) (entries : InodeId → List ListEntry) (ids : List InodeId) → total (λ id. cond (test id) (length (entries id)) 0) ids ≡ length (flat_map entries (filter test ids))
total_kept test entries [] = refl
total_kept test entries (id ∷ ids) =
    let rest = total_kept test entries ids in
    elim (test id) as (λ b. cond b (length (entries id)) 0 + total (λ i. cond (test i) (length (entries i)) 0) ids ≡ length (flat_map entries (cond b (id ∷ filter test ids) (filter test ids)))) [
      | true ↦ let sum : length (entries id ++ flat_map entries (filter test ids)) ≡ length (entries id) + length (flat_map entries (filter test ids)) = length-append (entries id) (flat_map entries (filter test ids)) in omega (arith, rest, sum)
      | false ↦ omega (arith, rest)
    ]

distinct_filter : (test : InodeId → Bool) (ids : List InodeId) → IsDistinct same_inode ids → IsDistinct same_inode (filter test ids)
distinct_filter test [] once = distinct_none same_inode
distinct_filter test (id ∷ ids) once = elim (test id) as (λ b. IsDistinct same_inode (cond b (id ∷ filter test ids) (filter test ids))) [
  | true ↦ distinct_cons same_inode id (filter test ids) (λ y at. distinct_head same_inode id ids once y (filter_so test ids y at).0) (distinct_filter test ids (distinct_tail same_inode id ids once))
  | false ↦ distinct_filter test ids (distinct_tail same_inode id ids once)
]

-- ---- a table

module _ (table : Tabled) (snaps : Snapshots) (state : State FileBlocks) (all : StandsFor table snaps state) (root : InodeId) where
  abbrev leads_up : SnapId → InodeId → Bool
  leads_up end id = is_some (path_up (shown table.rows end.0) root (table.greatest + 1) id)

  stands_there : (end : SnapId) → ReadsEnd table state root end → (id : InodeId) → leads_up end id ≡ true → Has (node_at (end_tree state root end)) id
  stands_there end ends id up = by (path_up (shown table.rows end.0) root (table.greatest + 1) id) refl up
    where
      by : (o : Option Names) → path_up (shown table.rows end.0) root (table.greatest + 1) id ≡ o → is_some o ≡ true → Has (node_at (end_tree state root end)) id
      by None e h = absurd (true_false h refl)
      by (Some path) e h =
          let ups = climbs (shown table.rows end.0) root (node_at (end_tree state root end)) ends.nodes ends.reads in
          let n = some_id (node_at (end_tree state root end) path) id (ups.leads (table.greatest + 1) id path e) in
          record { at = path; node = n.0; is = n.1; named = n.2 }

  pub report-cost : (journal : List journal_entries.Entry) (from to : SnapId) (ids : List InodeId) (longest : ℕ) → viewed.StandsFor state (plain_after journal)
      → is_snapshottable state root ≡ true → is_foreign state root from ≡ false → is_foreign state root to ≡ false → HasChainsWithin (shown table.rows from.0) longest → IsDistinct same_inode ids
      → length ids ≤ 3 * entries_between state from to + 1 → looks_at longest (entries_apart table root from to) ids ≤ 16 * (1 + entries_between state from to) * (1 + longest)
  report-cost journal from to ids longest stands is own_from own_to within once few =
      let between : ℕ = entries_between state from to in
      let test : InodeId → Bool = λ id. leads_up from id && leads_up to id in
      let entries : ℕ = total (entries_apart table root from to) ids in
      let at_from = end-reads table snaps state root from all is own_from in
      let at_to = end-reads table snaps state root to all is own_to in
      let same : entries ≡ length (flat_map (one_sided (shown table.rows from.0) (shown table.rows to.0)) (filter test ids)) = total_kept test (one_sided (shown table.rows from.0) (shown table.rows to.0)) ids in
      let differ = few-rows table snaps state all journal root from to (filter test ids) stands is own_from own_to (record {
        once = distinct_filter test ids once;
        in_from = λ dir c. stands_there from at_from dir (first (leads_up from dir) (leads_up to dir) (filter_so test ids dir (in-contains (filter test ids) dir c)).1);
        in_to = λ dir c. stands_there to at_to dir (second (leads_up from dir) (leads_up to dir) (filter_so test ids dir (in-contains (filter test ids) dir c)).1);
      }) in
      subst (λ n. n ≤ 16 * (1 + between) * (1 + longest)) (sym (looks_so longest (entries_apart table root from to) ids))
      (cost between longest (2 * length ids + entries) (length ids + entries) (chain-has_row (shown table.rows from.0) longest within) (omega (arith, few, same, differ)) (omega (arith, few, same, differ)))

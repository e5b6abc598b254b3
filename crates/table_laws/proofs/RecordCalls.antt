-- Live rows changed at their needs.
use Rattle.std.proofs.Common.{◌≡◌, ℕ, ◌+◌, ◌≤◌, List, [], ◌∷◌, map, Option, Some, length, refl, sym, ap, subst, ◌∙◌, arith}
use Rattle.std.specs.List.{Contains}
use Rattle.hs_types.specs.Names.{Names}
use Rattle.hs_types.specs.declared.ids.InodeId.{InodeId}
use Rattle.hs_plain.specs.declared.state.State.{State}
use Rattle.hs_plain.specs.declared.state.FileBlocks.{FileBlocks}
use Rattle.hs_plain.specs.Tree.{node_at}
use Rattle.hs_plain.proofs.ValidShapes.{same_some}
use Rattle.inode_table.specs.Marks.{Leads, IsChain, last_of, cover}
use Rattle.inode_table.specs.Reads.{Nodes, child}
use Rattle.inode_table.specs.RowHistory.{RowHistory, Table, rows_at, marks_of, need}
use Rattle.inode_table.specs.Tabled.{Tabled}
use Rattle.inode_table.proofs.Covers.{some_id}
use Rattle.inode_table.proofs.Giving.{from-valid}
use Rattle.inode_table.specs.Whole.{IsFilled}
use Rattle.table_laws.specs.Recording.{IsRecorded, MayRecord}
use Rattle.table_laws.specs.RecordTurns.{RowChange, OneNumber, MayAll}
use Rattle.table_laws.specs.RecordCalls.{LiveChange, last_or_none, at_need, live_changed, MayCall}
use Rattle.table_laws.proofs.RecordElements.{from_map}
use Rattle.table_laws.proofs.Recording.{live-may}
use Rattle.table_laws.proofs.RecordTurns.{turns-records, turns-filled}

-- ---- a row has one chain

leads_same : (live : Nodes FileBlocks) (at below : Names) (xs ys : List InodeId) → Leads live at below xs → Leads live at below ys → xs ≡ ys
leads_same live at [] [] [] a b = refl
leads_same live at [] [] (y ∷ ys) a b = absurd b
leads_same live at [] (x ∷ xs) ys a b = absurd a
leads_same live at (name ∷ below) [] ys a b = absurd a
leads_same live at (name ∷ below) (x ∷ xs) [] a b = absurd b
leads_same live at (name ∷ below) (x ∷ xs) (y ∷ ys) a b =
    let first : x ≡ y = same_some (sym a.0 ∙ b.0) in
    let rest = leads_same live (child at name) below xs ys a.1 b.1 in
    (λ i. first i ∷ rest i)

chain_same : (live : Nodes FileBlocks) (path : Names) (xs ys : List InodeId) → IsChain live path xs → IsChain live path ys → xs ≡ ys
chain_same live path [] ys a b = absurd a
chain_same live path (x ∷ xs) [] a b = absurd b
chain_same live path (x ∷ xs) (y ∷ ys) a b =
    let first : x ≡ y = same_some (sym a.0 ∙ b.0) in
    let rest = leads_same live [] path xs ys a.1 b.1 in
    (λ i. first i ∷ rest i)

module _ (state : State FileBlocks) (issued : ℕ) (before : Table) (cs : List LiveChange) (t : Tabled) (may : MayCall state issued before cs t) where
  one_chain : (c d : LiveChange) → Contains cs c → Contains cs d → c.id ≡ d.id → c.chain ≡ d.chain
  one_chain c d k l e =
      let a = some_id (node_at state.tree c.path) c.id (may.live c k).at in
      let b = some_id (node_at state.tree d.path) d.id (may.live d l).at in
      let path : c.path ≡ d.path = (from-valid state may.valid).live.once c.path d.path a.0 b.0 a.1 b.1 (a.2 ∙ e ∙ sym b.2) in
      chain_same (node_at state.tree) d.path c.chain d.chain (subst (λ (p : Names). IsChain (node_at state.tree) p c.chain) path (may.live c k).leads) (may.live d l).leads

  same_number : (c d : LiveChange) → Contains cs c → Contains cs d → c.id ≡ d.id → (at_need state before c).number ≡ (at_need state before d).number
  same_number c d k l e =
      let chain = one_chain c d k l e in
      (λ i. need state.members (last_or_none (rows_at before (e i))) (cover (last_of state.members) (marks_of before) (chain i)))

  one_number : OneNumber (map (at_need state before) cs)
  one_number c d k l e =
      let a = from_map (at_need state before) cs c k in
      let b = from_map (at_need state before) cs d l in
      sym (ap (λ (x : RowChange). x.number) a.2)
      ∙ same_number a.0 b.0 a.1 b.1 (ap (λ (x : RowChange). x.id) a.2 ∙ e ∙ sym (ap (λ (x : RowChange). x.id) b.2))
      ∙ ap (λ (x : RowChange). x.number) b.2

  may_at : (c : LiveChange) (rows : RowHistory) → Contains cs c → rows_at t.rows c.id ≡ Some rows → MayRecord state.members issued c.id rows (at_need state before c).number (state.tick + 1)
  may_at c rows k h =
      let was : rows_at before c.id ≡ Some rows = sym (may.same c k) ∙ h in
      subst (λ (o : Option RowHistory). MayRecord state.members issued c.id rows (need state.members (last_or_none o) (cover (last_of state.members) (marks_of before) c.chain)) (state.tick + 1)) (sym was)
      (live-may before state issued c.path c.chain c.id rows may.stands (may.live c k).leads (may.live c k).at may.valid)

  may_all : MayAll t state.members issued (state.tick + 1) (map (at_need state before) cs)
  may_all c rows k h = let a = from_map (at_need state before) cs c k in
      subst (λ (x : RowChange). rows_at t.rows x.id ≡ Some rows → MayRecord state.members issued x.id rows x.number (state.tick + 1)) a.2 (λ there. may_at a.0 rows a.1 there) h

  pub call-records : IsRecorded t state.members issued → IsRecorded (live_changed state before cs t) state.members issued
  call-records are = turns-records t state.members issued (state.tick + 1) (map (at_need state before) cs) may.can one_number may_all are

  pub call-filled : (used : ℕ) (ids : List InodeId) → ((c : LiveChange) → Contains cs c → Contains ids c.id) → used + length ids ≤ 3
      → IsFilled t.index (state.tick + 1) used → IsFilled (live_changed state before cs t).index (state.tick + 1) (used + length ids)
  call-filled used ids named le filled = turns-filled t (state.tick + 1) used (map (at_need state before) cs) ids may.can one_number
      (λ c k. let a = from_map (at_need state before) cs c k in subst (λ (x : RowChange). Contains ids x.id) a.2 (named a.0 a.1))
      (omega arith) le filled

-- Rows changed in turn.
use Rattle.std.proofs.Common.{◌≡◌, ℕ, ◌+◌, ◌<◌, ◌≤◌, List, [], ◌∷◌, Some, length, sym, ap, subst, ◌∙◌, inl, inr, ⊎_elim, arith}
use Rattle.std.specs.Prelude.{◌≢◌, ◌⊎◌}
use Rattle.std.specs.List.{Contains}
use Rattle.std.specs.Option.{option_map}
use Rattle.hs_types.specs.declared.ids.InodeId.{InodeId}
use Rattle.hs_plain.specs.declared.state.Member.{Member}
use Rattle.hs_plain.specs.declared.state.FileBlocks.{FileBlocks}
use Rattle.hs_plain.proofs.ValidShapes.{same_some}
use Rattle.inode_table.specs.Indexed.{Index}
use Rattle.inode_table.specs.Kept.{CanChange}
use Rattle.inode_table.specs.RowHistory.{RowHistory, RowState, rows_at, last_in}
use Rattle.inode_table.specs.Tabled.{Tabled, changed, changed_rows}
use Rattle.inode_table.proofs.Reading.{by_id}
use Rattle.inode_table.specs.Whole.{IsFilled}
use Rattle.table_laws.specs.Recording.{IsRecorded, MayRecord}
use Rattle.table_laws.specs.RecordTurns.{RowChange, all_changed, CanAll, OneNumber, MayAll}
use Rattle.table_laws.proofs.RecordElements.{at_head, at_later, by_first, not_empty}
use Rattle.table_laws.proofs.RecordIndex.{filled-more}
use Rattle.table_laws.proofs.RecordRows.{changed-here, changed-there}
use Rattle.table_laws.proofs.Recording.{records-changed, filled-changed, again-may, last-grows, no-record}

-- a row after one change is the changed one, or as it was
module _ (t : Tabled) (tick : ℕ) (c : RowChange) (can : CanChange t.rows c.id c.what) where
  abbrev pub after : Tabled
  after = changed c.id c.number tick c.what t

  by_row : {P : Type 0} (x : InodeId) (rows : RowHistory) → rows_at after.rows x ≡ Some rows → (x ≡ c.id → changed_rows c.number tick c.what can.row.rows ≡ rows → P) → (x ≢ c.id → rows_at t.rows x ≡ Some rows → P) → P
  by_row x rows h same other = by_id x c.id
      (λ e. same e (same_some (sym (changed-here t c.id c.number tick c.what can.row can.there) ∙ ap (rows_at after.rows) (sym e) ∙ h)))
      (λ apart. other apart (sym (changed-there t c.id x c.number tick c.what can.row can.there apart) ∙ h))

  was : rows_at t.rows c.id ≡ Some can.row.rows
  was = ap (option_map (λ (r : RowState). r.rows)) can.there

-- ---- records

pub turns-records : (t : Tabled) (members : List (Member FileBlocks)) (issued tick : ℕ) (cs : List RowChange)
    → CanAll tick cs t → OneNumber cs → MayAll t members issued tick cs → IsRecorded t members issued → IsRecorded (all_changed tick cs t) members issued
turns-records t members issued tick [] can one may are = are
turns-records t members issued tick (c ∷ cs) can one may are = turns-records (after t tick c can.0) members issued tick cs can.1
    (λ d e k l. one d e (at_later c cs d k) (at_later c cs e l))
    (λ d rows k h. by_row t tick c can.0 d.id rows h
    (λ e same. let number : c.number ≡ d.number = one c d (at_head c cs) (at_later c cs d k) (sym e) in
    subst (λ (i : InodeId). MayRecord members issued i rows d.number tick) (sym e)
    (subst (λ (n : ℕ). MayRecord members issued c.id rows n tick) number
    (subst (λ (r : RowHistory). MayRecord members issued c.id r c.number tick) same (again-may members issued c.number tick c.id c.what can.0.row.rows here).0)))
    (λ _ k'. may d rows (at_later c cs d k) k'))
    (records-changed t members issued c.number tick c.id c.what can.0 here are)
  where
    here : MayRecord members issued c.id can.0.row.rows c.number tick
    here = may c can.0.row.rows (at_head c cs) (was t tick c can.0)

-- ---- the index

-- the ids without one
others : (ids : List InodeId) (x : InodeId) → Contains ids x → (rest : List InodeId) × (length rest + 1 ≡ length ids) × ((y : InodeId) → y ≢ x → Contains ids y → Contains rest y)
others [] x c = not_empty x c
others (i ∷ ids) x c = by_first i ids x c
    (λ e. (ids, omega arith, λ y apart h. by_first i ids y h (λ d. absurd (apart (sym d ∙ e))) (λ l. l)))
    (λ k. let r = others ids x k in
    (i ∷ r.0, (let len = r.1 in omega (arith, len)), λ y apart h. by_first i ids y h (λ d. subst (λ (z : InodeId). Contains (i ∷ r.0) z) d (at_head i r.0)) (λ l. at_later i r.0 y (r.2 y apart l))))

-- the row has a record of that number or a later one
abbrev pub Settled : Tabled → RowChange → Type 0
Settled t c = (rows : RowHistory) → rows_at t.rows c.id ≡ Some rows → c.number ≤ last_in rows

module _ (t : Tabled) (tick : ℕ) (c d : RowChange) (can : CanChange t.rows c.id c.what) where
  settled_same : d.id ≡ c.id → c.number ≡ d.number → Settled (after t tick c can) d
  settled_same e number rows h = by_row t tick c can d.id rows h
      (λ _ same. let last = ap last_in same in let grows = (last-grows c.number tick c.what can.row.rows).0 in omega (arith, last, grows, number))
      (λ apart _. absurd (apart e))

  settled_later : Settled t d → Settled (after t tick c can) d
  settled_later s rows h = by_row t tick c can d.id rows h
      (λ e same. let last = ap last_in same in let grows = (last-grows c.number tick c.what can.row.rows).1 in let before = s can.row.rows (ap (rows_at t.rows) e ∙ was t tick c can) in omega (arith, last, grows, before))
      (λ _ k. s rows k)

filled_turns : (t : Tabled) (tick used : ℕ) (cs : List RowChange) (ids : List InodeId) → CanAll tick cs t → OneNumber cs → ((c : RowChange) → Contains cs c → Contains ids c.id ⊎ Settled t c)
    → 0 < tick → used + length ids ≤ 3 → IsFilled t.index tick used → IsFilled (all_changed tick cs t).index tick (used + length ids)
filled_turns t tick used [] ids can one known some le filled = filled-more t.index tick used (used + length ids) (omega arith) filled
filled_turns t tick used (c ∷ cs) ids can one known some le filled = ⊎_elim
    (λ h. let r = others ids c.id h in
    let len = r.1 in
    subst (λ (n : ℕ). IsFilled (all_changed tick (c ∷ cs) t).index tick n) {x = used + 1 + length r.0} {y = used + length ids} (omega (arith, len))
    (filled_turns (after t tick c can.0) tick (used + 1) cs r.0 can.1 rest
    (λ d k. ⊎_elim
    (λ l. by_id d.id c.id (λ e. inr (settled_same t tick c d can.0 e (one c d (at_head c cs) (at_later c cs d k) (sym e)))) (λ apart. inl (r.2 d.id apart l)))
    (λ s. inr (settled_later t tick c d can.0 s))
    (known d (at_later c cs d k)))
    some (omega (arith, len, le))
    (filled-changed t c.number tick used c.id c.what some (omega (arith, len, le)) filled)))
    (λ s. filled_turns (after t tick c can.0) tick used cs ids can.1 rest
    (λ d k. ⊎_elim (λ l. inl l) (λ s. inr (settled_later t tick c d can.0 s)) (known d (at_later c cs d k)))
    some le
    (subst (λ (index : Index). IsFilled index tick used) (sym (no-record t c.number tick c.id c.what can.0 (s can.0.row.rows (was t tick c can.0)))) filled))
    (known c (at_head c cs))
  where
    rest : OneNumber cs
    rest d e k l = one d e (at_later c cs d k) (at_later c cs e l)

pub turns-filled : (t : Tabled) (tick used : ℕ) (cs : List RowChange) (ids : List InodeId) → CanAll tick cs t → OneNumber cs → ((c : RowChange) → Contains cs c → Contains ids c.id)
    → 0 < tick → used + length ids ≤ 3 → IsFilled t.index tick used → IsFilled (all_changed tick cs t).index tick (used + length ids)
turns-filled t tick used cs ids can one named some le filled = filled_turns t tick used cs ids can one (λ c k. inl (named c k)) some le filled

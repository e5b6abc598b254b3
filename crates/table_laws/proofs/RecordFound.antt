-- Rows that read otherwise at two moments are found by the index.
use Rattle.std.proofs.Common.{◌≡◌, ℕ, ◌<◌, ◌≤◌, Bool, true, false, cond, List, [], ◌∷◌, map, Some, refl, sym, ap, ◌∙◌, inl, inr, ⊎_elim, arith}
use Rattle.std.specs.Prelude.{◌⊎◌, ◌==◌, ◌&&◌, ◌||◌, nat_lt, nat_le}
use Rattle.std.specs.List.{Contains, list_any}
use Rattle.std.specs.Option.{option_map}
use Rattle.std.proofs.lemmas.Bool.Decides.{nat_tests, Decides-eqb}
use Rattle.hs_types.specs.declared.ids.InodeId.{InodeId}
use Rattle.hs_types.specs.declared.name.Spot.{Spot}
use Rattle.hs_plain.specs.declared.state.Member.{Member}
use Rattle.hs_plain.specs.declared.state.FileBlocks.{FileBlocks}
use Rattle.hs_plain.specs.Tree.{node_at}
use Rattle.hs_plain.proofs.ValidTrees.{both, first, second}
use Rattle.hs_plain.proofs.ValidShapes.{same_some, true_false}
use Rattle.dir_changes.specs.Entries.{id_at}
use Rattle.dir_changes.specs.History as dirs
use Rattle.dir_changes.specs.History.{Past, records_from, marks_from, undo_all, children_at, marks_at}
use Rattle.file_changes.specs.History as files
use Rattle.file_changes.specs.History.{state_from, state_at}
use Rattle.file_changes.specs.declared.state.FileState.{FileState}
use Rattle.file_changes.specs.declared.state.FileRecord.{FileRecord}
use Rattle.inode_table.specs.Indexed.{made_between}
use Rattle.inode_table.specs.Marks.{InCopy}
use Rattle.inode_table.specs.Reads.{Nodes, ReadsAs, Has}
use Rattle.inode_table.specs.RowHistory.{RowHistory, File, Dir, Table, rows_at, shown, node_in, spot_in, entries_of, file_node, dir_node, IsFrozen}
use Rattle.inode_table.specs.Tabled.{Tabled}
use Rattle.inode_table.specs.Whole.{numbers_in, IsFilled}
use Rattle.inode_table.proofs.Kept.{row_there}
use Rattle.table_laws.specs.Recording.{IsRecorded}
use Rattle.table_laws.specs.RecordFound.{ReadsSame, AreTwo, SameAt}
use Rattle.table_laws.proofs.RecordElements.{at_head, at_later}
use Rattle.table_laws.proofs.RecordIndex.{found-between, merged-found}

-- ---- numbers

any_number : (test : ℕ → Bool) (ns : List ℕ) → list_any test ns ≡ true → (n : ℕ) × Contains ns n × (test n ≡ true)
any_number test [] h = absurd (true_false h refl)
any_number test (n ∷ ns) h = elim (test n) as (λ b. test n ≡ b → (b || list_any test ns) ≡ true → (k : ℕ) × Contains (n ∷ ns) k × (test k ≡ true)) [
  | true ↦ λ t _. (n, at_head n ns, t)
  | false ↦ λ _ g. let r = any_number test ns g in (r.0, at_later n ns r.0 r.1, r.2)
] refl h

or_none : (a b : Bool) → (a || b) ≡ false → (a ≡ false) × (b ≡ false)
or_none true b h = absurd (true_false refl h)
or_none false b h = (refl, h)

-- a record is chosen at both or at neither
module _ (s t : ℕ) (le : s ≤ t) where
  abbrev pub lies : ℕ → Bool
  lies k = nat_le s k && nat_lt k t

  same_choice : (k : ℕ) → lies k ≡ false → nat_le s k ≡ nat_le t k
  same_choice k none = elim (nat_le s k) as (λ b. nat_le s k ≡ b → b ≡ nat_le t k) [
    | true ↦ λ a. elim (nat_lt k t) as (λ c. nat_lt k t ≡ c → true ≡ nat_le t k) [
      | true ↦ λ b. absurd (true_false (both a b) none)
      | false ↦ λ b. let c : nat_le t k ≡ true = grind (arith, nat_tests) in sym c
    ] refl
    | false ↦ λ a. let c : nat_le t k ≡ false = grind (arith, nat_tests) in sym c
  ] refl

  same_records : (rs : List Past) → list_any lies (map (λ (r : Past). r.number.0) rs) ≡ false → records_from s rs ≡ records_from t rs
  same_records [] none = refl
  same_records (r ∷ rs) none = let n = or_none (lies r.number.0) _ none in
      (λ i. cond (same_choice r.number.0 n.0 i) (r ∷ rs) (same_records rs n.1 i))

  same_marks : (rs : List Past) (now : dirs.Marks) → list_any lies (map (λ (r : Past). r.number.0) rs) ≡ false → marks_from s rs now ≡ marks_from t rs now
  same_marks [] now none = refl
  same_marks (r ∷ rs) now none = let n = or_none (lies r.number.0) _ none in
      (λ i. cond (same_choice r.number.0 n.0 i) r.marks (same_marks rs now n.1 i))

  same_states : (rs : List FileRecord) (now : FileState) → list_any lies (map (λ (r : FileRecord). r.number.0) rs) ≡ false → state_from s rs now ≡ state_from t rs now
  same_states [] now none = refl
  same_states (r ∷ rs) now none = let n = or_none (lies r.number.0) _ none in
      (λ i. cond (same_choice r.number.0 n.0 i) r.state (same_states rs now n.1 i))

not_zero : (s : ℕ) → 0 < s → (s == 0) ≡ false
not_zero s lt = elim (s == 0) as (λ b. (s == 0) ≡ b → b ≡ false) [ true ↦ λ t. let e = (Decides-eqb s 0).0 t in absurd (omega (arith, e)) | false ↦ λ _. refl ] refl

by_marks : (s t : ℕ) (dir : dirs.DirHistory) → marks_at s dir ≡ marks_at t dir → children_at s dir ≡ children_at t dir → ReadsSame s t (Dir dir)
by_marks s t dir e d = record { node = λ id. ap (dir_node id) e; entries = d; spot = ap (λ (m : dirs.Marks). m.spot) e }

by_state : (s t : ℕ) (file : files.FileHistory) → state_at s file ≡ state_at t file → ReadsSame s t (File file)
by_state s t file e = record { node = λ id. ap (file_node id) e; entries = refl; spot = ap (λ (m : FileState). m.spot) e }

pub no-number : (s t : ℕ) (rows : RowHistory) → 0 < s → s ≤ t → list_any (λ k. nat_le s k && nat_lt k t) (numbers_in rows) ≡ false → ReadsSame s t rows
no-number s t (File file) above le none = by_state s t file
    (ap (λ b. cond b file.current (state_from s file.records file.current)) (not_zero s above) ∙ same_states s t le file.records file.current none
    ∙ sym (ap (λ b. cond b file.current (state_from t file.records file.current)) (not_zero t (omega arith))))
no-number s t (Dir dir) above le none = by_marks s t dir
    (ap (λ b. cond b dir.marks (marks_from s dir.records dir.marks)) (not_zero s above) ∙ same_marks s t le dir.records dir.marks none
    ∙ sym (ap (λ b. cond b dir.marks (marks_from t dir.records dir.marks)) (not_zero t (omega arith))))
    (ap (λ b. cond b dir.children (undo_all (records_from s dir.records) dir.children)) (not_zero s above) ∙ ap (λ (rs : List Past). undo_all rs dir.children) (same_records s t le dir.records none)
    ∙ sym (ap (λ b. cond b dir.children (undo_all (records_from t dir.records) dir.children)) (not_zero t (omega arith))))

-- ---- up to now

last_records : (s : ℕ) (rs : List Past) → list_any (λ k. nat_le s k) (map (λ (r : Past). r.number.0) rs) ≡ false → records_from s rs ≡ []
last_records s [] none = refl
last_records s (r ∷ rs) none = let n = or_none (nat_le s r.number.0) _ none in ap (λ b. cond b (r ∷ rs) (records_from s rs)) n.0 ∙ last_records s rs n.1

last_marks : (s : ℕ) (rs : List Past) (now : dirs.Marks) → list_any (λ k. nat_le s k) (map (λ (r : Past). r.number.0) rs) ≡ false → marks_from s rs now ≡ now
last_marks s [] now none = refl
last_marks s (r ∷ rs) now none = let n = or_none (nat_le s r.number.0) _ none in ap (λ b. cond b r.marks (marks_from s rs now)) n.0 ∙ last_marks s rs now n.1

last_states : (s : ℕ) (rs : List FileRecord) (now : FileState) → list_any (λ k. nat_le s k) (map (λ (r : FileRecord). r.number.0) rs) ≡ false → state_from s rs now ≡ now
last_states s [] now none = refl
last_states s (r ∷ rs) now none = let n = or_none (nat_le s r.number.0) _ none in ap (λ b. cond b r.state (state_from s rs now)) n.0 ∙ last_states s rs now n.1

pub no-later : (s : ℕ) (rows : RowHistory) → 0 < s → list_any (λ k. nat_le s k) (numbers_in rows) ≡ false → ReadsSame s 0 rows
no-later s (File file) above none = by_state s 0 file (ap (λ b. cond b file.current (state_from s file.records file.current)) (not_zero s above) ∙ last_states s file.records file.current none)
no-later s (Dir dir) above none = by_marks s 0 dir
    (ap (λ b. cond b dir.marks (marks_from s dir.records dir.marks)) (not_zero s above) ∙ last_marks s dir.records dir.marks none)
    (ap (λ b. cond b dir.children (undo_all (records_from s dir.records) dir.children)) (not_zero s above) ∙ ap (λ (rs : List Past). undo_all rs dir.children) (last_records s dir.records none))

-- ---- rows

pub found : (t : Tabled) (members : List (Member FileBlocks)) (issued : ℕ) (m n : Member FileBlocks) (id : InodeId) (rows : RowHistory)
    → IsRecorded t members issued → AreTwo members m n → rows_at t.rows id ≡ Some rows → InCopy n id
    → ReadsSame m.snapshot.0 n.snapshot.0 rows ⊎ Contains (made_between m.tick n.tick t.rows t.index) id
found t members issued m n id rows are two there has =
    elim (list_any (λ k. nat_le m.snapshot.0 k && nat_lt k n.snapshot.0) (numbers_in rows)) as (λ b. list_any (λ k. nat_le m.snapshot.0 k && nat_lt k n.snapshot.0) (numbers_in rows) ≡ b
    → ReadsSame m.snapshot.0 n.snapshot.0 rows ⊎ Contains (made_between m.tick n.tick t.rows t.index) id) [
      | true ↦ λ some. let w = any_number (λ k. nat_le m.snapshot.0 k && nat_lt k n.snapshot.0) (numbers_in rows) some in let k = w.0 in
          let a : nat_le m.snapshot.0 k ≡ true = first (nat_le m.snapshot.0 k) _ w.2 in let b : nat_lt k n.snapshot.0 ≡ true = second (nat_le m.snapshot.0 k) _ w.2 in
          let i = are.indexed id rows k there w.1 in
          inr (found-between t.rows t.index m.tick n.tick id rows (record { tick = i.tick; id = id }) there i.named refl (i.after m two.first (grind (arith, nat_tests, a))) (i.before n two.second (grind (arith, nat_tests, b)) has))
      | false ↦ λ none. inl (no-number m.snapshot.0 n.snapshot.0 rows two.above two.order none)
    ] refl

pub found-now : (t : Tabled) (members : List (Member FileBlocks)) (issued tick used : ℕ) (m : Member FileBlocks) (id : InodeId) (rows : RowHistory)
    → IsRecorded t members issued → IsFilled t.index tick used → Contains members m → 0 < m.snapshot.0 → rows_at t.rows id ≡ Some rows
    → ReadsSame m.snapshot.0 0 rows ⊎ Contains (made_between m.tick tick t.rows t.index) id
found-now t members issued tick used m id rows are filled is_m above there =
    elim (list_any (λ k. nat_le m.snapshot.0 k) (numbers_in rows)) as (λ b. list_any (λ k. nat_le m.snapshot.0 k) (numbers_in rows) ≡ b → ReadsSame m.snapshot.0 0 rows ⊎ Contains (made_between m.tick tick t.rows t.index) id) [
      | true ↦ λ some. let w = any_number (λ k. nat_le m.snapshot.0 k) (numbers_in rows) some in let k = w.0 in let a : nat_le m.snapshot.0 k ≡ true = w.2 in
          inr (merged-found t.rows t.index members issued tick used m id rows w.0 are filled is_m there w.1 (grind (arith, nat_tests, a)))
      | false ↦ λ none. inl (no-later m.snapshot.0 rows above none)
    ] refl

-- ---- inodes

module _ (table : Table) (s t : ℕ) (a b : InodeId) (f g : Nodes FileBlocks) (x : InodeId) (rows : RowHistory) (there : rows_at table x ≡ Some rows) (same : ReadsSame s t rows)
    (rf : ReadsAs (shown table s) a f) (rg : ReadsAs (shown table t) b g) where
  node : (shown table s).node x ≡ (shown table t).node x
  node = ap (option_map (node_in x s)) there ∙ ap (λ n. Some n) (same.node x) ∙ sym (ap (option_map (node_in x t)) there)

  spot : (shown table s).spot x ≡ (shown table t).spot x
  spot = ap (option_map (spot_in s)) there ∙ ap (λ n. Some n) same.spot ∙ sym (ap (option_map (spot_in t)) there)

  entries : (shown table s).entries x ≡ (shown table t).entries x
  entries = ap (entries_of s) there ∙ same.entries ∙ sym (ap (entries_of t) there)

  same_at : SameAt f g x
  same_at = record {
    node = λ p q a b h k e d. same_some (sym (rf.node p a h) ∙ ap (shown table s).node e ∙ node ∙ ap (shown table t).node (sym d) ∙ rg.node q b k);
    name = λ p q m n c d a b hc ha hd hb e i.
        let both : record { parent = c.id; name = m } ≡ record { parent = d.id; name = n } = same_some (sym (rf.spot p c a m hc ha) ∙ ap (shown table s).spot e ∙ spot ∙ ap (shown table t).spot (sym i) ∙ rg.spot q d b n hd hb) in
        (ap (λ (k : Spot). k.parent) both, ap (λ (k : Spot). k.name) both);
    kids = λ p q a b name h k e d. sym (rf.entries p a name h) ∙ ap (λ (i : InodeId). id_at name ((shown table s).entries i)) e ∙ ap (id_at name) entries
        ∙ ap (λ (i : InodeId). id_at name ((shown table t).entries i)) (sym d) ∙ rg.entries q b name k;
  }

pub same-or-found : (t : Tabled) (members : List (Member FileBlocks)) (issued : ℕ) (m n : Member FileBlocks) (x : InodeId)
    → IsRecorded t members issued → IsFrozen t.rows members → AreTwo members m n → InCopy m x → InCopy n x
    → SameAt (node_at m.tree) (node_at n.tree) x ⊎ Contains (made_between m.tick n.tick t.rows t.index) x
same-or-found t members issued m n x are frozen two in_m in_n =
    let r = row_there t.rows m.snapshot.0 m.directory (node_at m.tree) x (frozen m two.first) in_m in
    ⊎_elim (λ same. inl (same_at t.rows m.snapshot.0 n.snapshot.0 m.directory n.directory (node_at m.tree) (node_at n.tree) x r.0 r.1 same (frozen m two.first) (frozen n two.second))) (λ c. inr c)
    (found t members issued m n x r.0 are two r.1 in_n)

pub same-or-found-now : (t : Tabled) (members : List (Member FileBlocks)) (issued tick used : ℕ) (m : Member FileBlocks) (top : InodeId) (live : Nodes FileBlocks) (x : InodeId)
    → IsRecorded t members issued → IsFilled t.index tick used → IsFrozen t.rows members → Contains members m → 0 < m.snapshot.0 → ReadsAs (shown t.rows 0) top live → InCopy m x → Has live x
    → SameAt (node_at m.tree) live x ⊎ Contains (made_between m.tick tick t.rows t.index) x
same-or-found-now t members issued tick used m top live x are filled frozen is_m above reads in_m in_live =
    let r = row_there t.rows m.snapshot.0 m.directory (node_at m.tree) x (frozen m is_m) in_m in
    ⊎_elim (λ same. inl (same_at t.rows m.snapshot.0 0 m.directory top (node_at m.tree) live x r.0 r.1 same (frozen m is_m) reads)) (λ c. inr c)
    (found-now t members issued tick used m x r.0 are filled is_m above r.1)

-- Current lists: who names the root, and what is left of them.
use Rattle.std.proofs.Common.{◌≡◌, ℕ, ◌+◌, ◌<◌, true, false, cond, List, [], ◌∷◌, Option, Some, None, refl, sym, ap, ◌∙◌, arith}
use Rattle.std.specs.Option.{option_map}
use Rattle.std.specs.Ordering.{eq_by_cmp}
use Rattle.hs_types.specs.declared.ids.InodeId.{InodeId}
use Rattle.hs_plain.specs.Tree.{same_inode}
use Rattle.hs_plain.proofs.ValidShapes.{none_some, same_some}
use Rattle.dir_changes.specs.Counts.{times, one_where}
use Rattle.dir_changes.specs.Entries.{Entries, name_order, id_at, with_entry, without_name}
use Rattle.dir_changes.specs.History.{ids_of}
use Rattle.dir_changes.specs.Counts.{deleted_ids}
use Rattle.dir_changes.proofs.EditLaws.{by_name, id_at-without_name}
use Rattle.inode_table.specs.RowHistory.{RowHistory, RowState, File, Dir, Table, row_at, entries_in, entries_of}
use Rattle.inode_table.specs.Stands.{root_id}
use Rattle.inode_table.specs.Names.{named_in, times_named}
use Rattle.inode_table.specs.Once.{Lists, IsIn, IsOnce, NewList}
use Rattle.inode_table.specs.Acyclic.{AllEnd}
use Rattle.inode_table.specs.Kept.{AreSound}
use Rattle.inode_table.proofs.Reading.{by_id}
use Rattle.inode_table.proofs.Naming.{times-append}
use Rattle.inode_table.proofs.Placing.{total-most}
use Rattle.inode_table.proofs.Ending.{fewer-end, add-end}
use Rattle.table_laws.specs.Naming.{lists_of, AllSound, IsLive}
use Rattle.table_laws.proofs.NamedTables.{is-same}

-- ---- what a list names is named

found_times : (name : List ℕ) (x : InodeId) (es : Entries) → id_at name es ≡ Some x → 0 < times x (ids_of es)
found_times name x [] h = absurd (none_some h)
found_times name x (e ∷ es) h = elim (eq_by_cmp name_order name e.0) as (λ b. cond b (Some e.1) (id_at name es) ≡ Some x → 0 < one_where (same_inode e.1 x) + times x (ids_of es)) [
  | true ↦ λ k. let one = ap one_where (is-same e.1 x (same_some k)) in omega (arith, one)
  | false ↦ λ k. let rest = found_times name x es k in omega (arith, rest)
] h

in_times : (name : List ℕ) (x : InodeId) (rows : RowHistory) → id_at name (entries_in 0 rows) ≡ Some x → 0 < times x (named_in rows)
in_times name x (File file) h = absurd (none_some h)
in_times name x (Dir dir) h = let here = found_times name x dir.children h in let split = times-append x (ids_of dir.children) (deleted_ids dir.records) in omega (arith, here, split)

-- the row whose list it is
pub row-there : (table : Table) (p : InodeId) (name : List ℕ) (x : InodeId) → IsIn (lists_of table) p name x → (row : RowState) × (row_at table p ≡ Some row) × (id_at name (entries_in 0 row.rows) ≡ Some x)
row-there table p name x h = by (row_at table p) refl h
  where
    by : (o : Option RowState) → row_at table p ≡ o → id_at name (entries_of 0 (option_map (λ (r : RowState). r.rows) o)) ≡ Some x → (row : RowState) × (row_at table p ≡ Some row) × (id_at name (entries_in 0 row.rows) ≡ Some x)
    by None e k = absurd (none_some k)
    by (Some row) e k = (row, e, k)

pub in-named : (table : Table) (p : InodeId) (name : List ℕ) (x : InodeId) → IsIn (lists_of table) p name x → 0 < times_named x table
in-named table p name x h =
    let r = row-there table p name x h in
    let here = in_times name x r.0.rows r.2 in
    let all = total-most (λ row. times x (named_in row.rows)) table p r.0 r.1 in
    omega (arith, here, all)

pub none-names : (table : Table) (x : InodeId) → times_named x table ≡ 0 → (p : InodeId) (name : List ℕ) → IsIn (lists_of table) p name x → ⊥
none-names table x none p name h = let some = in-named table p name x h in omega (arith, none, some)

-- ---- soundness of a row that is there

pub sound-there : (table : Table) (id : InodeId) (row : RowState) → AllSound table → row_at table id ≡ Some row → AreSound row.rows
sound-there table id row sound there = by row.rows refl
  where
    by : (rows : RowHistory) → row.rows ≡ rows → AreSound rows
    by (File file) e = tt
    by (Dir dir) e = sound id dir (ap (option_map (λ (r : RowState). r.rows)) there ∙ ap (λ (r : RowHistory). Some r) e)

-- ---- once, and ends, as lists change

-- the same lists
pub once-alike : (before after : Lists) → ((dir : InodeId) → after dir ≡ before dir) → IsOnce before → IsOnce after
once-alike before after same once p q a b x h k = once p q a b x (ap (id_at a) (sym (same p)) ∙ h) (ap (id_at b) (sym (same q)) ∙ k)

pub ends-alike : (before after : Lists) → ((dir : InodeId) → after dir ≡ before dir) → AllEnd before → AllEnd after
ends-alike before after same all = fewer-end before after (λ p name x h. ap (id_at name) (sym (same p)) ∙ h) all

-- an entry less: each that is left was there
pub left-there : (before after : Lists) (dir : InodeId) (name : List ℕ) → NewList before after dir (without_name name (before dir)) → (p : InodeId) (other : List ℕ) (x : InodeId) → IsIn after p other x → IsIn before p other x
left-there before after dir name step p other x h = by_id p dir
    (λ e. let there : id_at other (without_name name (before dir)) ≡ Some x = ap (id_at other) (sym step.here) ∙ ap (λ (i : InodeId). id_at other (after i)) (sym e) ∙ h in
    by_name {q = other} {name = name} (λ t. cond t None (id_at other (before dir)) ≡ Some x → IsIn before p other x)
    (λ _ k. absurd (none_some k))
    (λ _ k. ap (λ (i : InodeId). id_at other (before i)) e ∙ k)
    (sym (id_at-without_name other name (before dir)) ∙ there))
    (λ ne. ap (id_at other) (sym (step.there p ne)) ∙ h)

pub ends-fewer : (before after : Lists) (dir : InodeId) (name : List ℕ) → NewList before after dir (without_name name (before dir)) → AllEnd before → AllEnd after
ends-fewer before after dir name step all = fewer-end before after (left-there before after dir name step) all

-- an entry more, in a directory of the live tree
pub ends-more : (before after : Lists) (dir x : InodeId) (name : List ℕ) → NewList before after dir (with_entry name x (before dir)) → IsLive after dir → IsOnce after → ((p : InodeId) (other : List ℕ) → IsIn after p other root_id → ⊥) → AllEnd before → AllEnd after
ends-more before after dir x name step live once free all =
    ends-alike live.shown.entries after (λ id. sym (live.alike id))
    (add-end live.shown before root_id dir live.nodes live.is live.reads live.has
    (once-alike after live.shown.entries live.alike once)
    (λ p other h. free p other (ap (id_at other) (sym (live.alike p)) ∙ h))
    (λ p other y h ne. ap (id_at other) (sym (live.alike p ∙ step.there p ne)) ∙ h)
    all)

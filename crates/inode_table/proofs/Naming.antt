-- How often rows are named.
use Rattle.std.proofs.Common.{◌≡◌, ℕ, ◌+◌, ◌<◌, ◌≤◌, Bool, true, false, cond, List, [], ◌∷◌, ◌++◌, Option, Some, None, length, refl, sym, ap, subst, ◌∙◌, arith}
use Rattle.std.specs.Prelude.{◌≢◌, nat_le, nat_eq}
use Rattle.std.specs.List.{Contains}
use Rattle.std.specs.Option.{option_map}
use Rattle.std.specs.Ordering.{eq_by_cmp, nat_cmp, is_eq, is_lt, ordering_reverse}
use Rattle.std.specs.FinMap.{nat_cmp-IsAntisymmetric}
use Rattle.std.specs.Cmp.{nat_cmp_total as nat_total}
use Rattle.std.specs.declared.cmp.Ordering.{Ordering}
use Rattle.std.specs.declared.cmp.Ordering.TheVariants.{Less, Equal, Greater}
use Rattle.std.specs.FinMap.Entries.{put, by_order, is_sorted, below_all}
use Rattle.std.proofs.lemmas.Bool.Decides.{Decides-eqb}
use Rattle.hs_types.specs.declared.ids.InodeId.{InodeId}
use Rattle.hs_plain.specs.declared.state.Member.{Member}
use Rattle.hs_plain.specs.declared.state.State.{State}
use Rattle.hs_plain.specs.declared.state.FileBlocks.{FileBlocks}
use Rattle.hs_plain.specs.Tree.{node_at, same_inode}
use Rattle.hs_plain.proofs.ValidTrees.{first, second}
use Rattle.hs_plain.proofs.ValidShapes.{by_last, none_some, same_some}
use Rattle.dir_changes.specs.Entries.{Entries, name_order, id_at, has as has_name}
use Rattle.dir_changes.specs.History.{DirHistory, Past, ids_of, records_from, undo_all, added, removed, removed_as, without_record, dropped_at}
use Rattle.dir_changes.specs.Sound.{IsSound}
use Rattle.dir_changes.proofs.UndoLaw.{id_at-undo, or_else}
use Rattle.dir_changes.proofs.CountLaws.{counts-added, counts-removed, counts-combined}
use Rattle.inode_table.specs.Reads.{Nodes, ReadsAs, IsNodes, Has, Child, child, id_of}
use Rattle.inode_table.specs.Marks.{Mark}
use Rattle.inode_table.specs.RowHistory.{RowHistory, RowState, File, Dir, Table, row_at, rows_at, shown, marks_of, node_in, entries_in, spot_in, entries_of, id_order}
use Rattle.inode_table.specs.Stands.{Stands, root_id}
use Rattle.dir_changes.specs.Counts.{times, deleted_ids, one_where, same_id, goes_to_deleted}
use Rattle.inode_table.specs.Totals.{total}
use Rattle.inode_table.specs.Names.{named_in, times_named, Releases}
use Rattle.inode_table.proofs.Reading.{by_id, reads-alike}
use Rattle.inode_table.proofs.Covers.{some_id}

pub times-append : (x : InodeId) (a b : List InodeId) → times x (a ++ b) ≡ times x a + times x b
times-append x [] b = omega arith
times-append x (id ∷ a) b = let rest = times-append x a b in omega (arith, rest)

found_times : (name : List ℕ) (x : InodeId) (es : Entries) → id_at name es ≡ Some x → 0 < times x (ids_of es)
found_times name x [] h = absurd (none_some h)
found_times name x (e ∷ es) h = elim (eq_by_cmp name_order name e.0) as (λ b. cond b (Some e.1) (id_at name es) ≡ Some x → 0 < cond (same_inode e.1 x) 1 0 + times x (ids_of es)) [
  | true ↦ λ k. let one : same_inode e.1 x ≡ true = (Decides-eqb e.1.0 x.0).1 (ap (λ (i : InodeId). i.0) (same_some k)) in
      subst (λ b. 0 < cond b 1 0 + times x (ids_of es)) (sym one) (omega arith)
  | false ↦ λ k. let rest = found_times name x es k in omega (arith, rest)
] h

by_either : {P : Type 0} (a : Option InodeId) (b : Bool) (c : Option InodeId) (x : InodeId) → or_else a (cond b None c) ≡ Some x → (a ≡ Some x → P) → (c ≡ Some x → P) → P
by_either (Some y) b c x h left right = left h
by_either None true c x h left right = absurd (none_some h)
by_either None false c x h left right = right h

undone_times : (name : List ℕ) (x : InodeId) (rs : List Past) (es : Entries) → id_at name (undo_all rs es) ≡ Some x → 0 < times x (ids_of es) + times x (deleted_ids rs)
undone_times name x [] es h = let here = found_times name x es h in omega (arith, here)
undone_times name x (p ∷ rs) es h =
    let split = times-append x (ids_of p.diff.deleted) (deleted_ids rs) in
    by_either (id_at name p.diff.deleted) (has_name name p.diff.created) (id_at name (undo_all rs es)) x (sym (id_at-undo name p.diff (undo_all rs es)) ∙ h)
    (λ k. let here = found_times name x p.diff.deleted k in omega (arith, here, split))
    (λ k. let rest = undone_times name x rs es k in omega (arith, rest, split))

from_times : (s : ℕ) (x : InodeId) (rs : List Past) → times x (deleted_ids (records_from s rs)) ≤ times x (deleted_ids rs)
from_times s x [] = omega arith
from_times s x (p ∷ rs) = elim (nat_le s p.number.0) as (λ b. times x (deleted_ids (cond b (p ∷ rs) (records_from s rs))) ≤ times x (deleted_ids (p ∷ rs))) [
  | true ↦ omega arith
  | false ↦ let rest = from_times s x rs in let split = times-append x (ids_of p.diff.deleted) (deleted_ids rs) in omega (arith, rest, split)
]

read_times : (s : ℕ) (name : List ℕ) (x : InodeId) (rows : RowHistory) → id_at name (entries_in s rows) ≡ Some x → 0 < times x (named_in rows)
read_times s name x (File file) h = absurd (none_some h)
read_times s name x (Dir dir) h = let split = times-append x (ids_of dir.children) (deleted_ids dir.records) in
    elim (nat_eq s 0) as (λ b. id_at name (cond b dir.children (undo_all (records_from s dir.records) dir.children)) ≡ Some x → 0 < times x (ids_of dir.children ++ deleted_ids dir.records)) [
      | true ↦ λ k. let here = found_times name x dir.children k in omega (arith, here, split)
      | false ↦ λ k. let some = undone_times name x (records_from s dir.records) dir.children k in let fewer = from_times s x dir.records in omega (arith, some, fewer, split)
    ] h

pub read-named : (table : Table) (s : ℕ) (top : InodeId) (f : Nodes FileBlocks) (x : InodeId) → ReadsAs (shown table s) top f → IsNodes f → Has f x → x ≢ top
    → (id : InodeId) × (rows : RowHistory) × (rows_at table id ≡ Some rows) × (0 < times x (named_in rows))
read-named table s top f x reads is has other = by_last (λ p. has.at ≡ p → (id : InodeId) × (rows : RowHistory) × (rows_at table id ≡ Some rows) × (0 < times x (named_in rows))) has.at
    (λ e. absurd (other (sym has.named ∙ same_some (sym (ap id_of (sym (ap f e) ∙ has.is)) ∙ reads.root))))
    (λ above name e. let here : f (child above name) ≡ Some has.node = sym (ap f e) ∙ has.is in
    let up = is.above above has.node name here in
    named_by up.0.id (rows_at table up.0.id) refl name (reads.entries above up.0 name up.1 ∙ ap id_of here ∙ ap (λ i. Some i) has.named))
    refl
  where
    named_by : (id : InodeId) (o : Option RowHistory) → rows_at table id ≡ o → (name : List ℕ) → id_at name (entries_of s (rows_at table id)) ≡ Some x → (id : InodeId) × (rows : RowHistory) × (rows_at table id ≡ Some rows) × (0 < times x (named_in rows))
    named_by id None e name h = absurd (none_some (sym (ap (λ o. id_at name (entries_of s o)) e) ∙ h))
    named_by id (Some rows) e name h = (id, rows, e, read_times s name x rows (sym (ap (λ o. id_at name (entries_of s o)) e) ∙ h))

-- a row that no list names is in no tree
module _ (before after : Table) (state : State FileBlocks) (issued : ℕ) (x : InodeId) (step : Releases before after x) (is : IsNodes (node_at state.tree))
    (copies : (m : Member FileBlocks) → Contains state.members m → IsNodes (node_at m.tree)) (dirs : (m : Member FileBlocks) → Contains state.members m → Has (node_at state.tree) m.directory) (stands : Stands before state issued) where
  not_read : (s : ℕ) (top : InodeId) (f : Nodes FileBlocks) → ReadsAs (shown before s) top f → IsNodes f → x ≢ top → Has f x → ⊥
  not_read s top f reads nodes other has = let found = read-named before s top f x reads nodes has other in let none = step.not_named found.0 found.1 found.2 in let some = found.3 in omega (arith, none, some)

  not_live : Has (node_at state.tree) x → ⊥
  not_live = not_read 0 root_id (node_at state.tree) stands.live is step.not_root

  kept : (s : ℕ) (top : InodeId) (f : Nodes FileBlocks) → (Has f x → ⊥) → ReadsAs (shown before s) top f → ReadsAs (shown after s) top f
  kept s top f never reads = reads-alike (shown before s) (shown after s) top f
      (record {
        node = λ id h. ap (option_map (node_in id s)) (step.there id (λ e. never (subst (Has f) e h)));
        entries = λ id h. ap (entries_of s) (step.there id (λ e. never (subst (Has f) e h)));
        spot = λ id h. ap (option_map (spot_in s)) (step.there id (λ e. never (subst (Has f) e h)));
      }) reads

  same_mark : (id : InodeId) → Has (node_at state.tree) id → marks_of before id ≡ marks_of after id
  same_mark id h = sym (step.marks id (λ e. not_live (subst (Has (node_at state.tree)) e h)))

  has_child : (p y : InodeId) → Child (node_at state.tree) p y → Has (node_at state.tree) y
  has_child p y c = record { at = child c.at c.name; node = c.node; is = c.is; named = c.named }

  pub stands_released : Stands after state issued
  stands_released = record {
    live = kept 0 root_id (node_at state.tree) not_live stands.live;
    frozen = λ m is_live. kept m.snapshot.0 m.directory (node_at m.tree)
        (λ h. by_id x m.directory
        (λ e. not_live (subst (Has (node_at state.tree)) (sym e) (dirs m is_live)))
        (λ ne. not_read m.snapshot.0 m.directory (node_at m.tree) (stands.frozen m is_live) (copies m is_live) ne h))
        (stands.frozen m is_live);
    marks = record {
      down = λ p y m c is_live lt. stands.marks.down p y m c is_live (subst (λ (k : Mark). k.since < m.snapshot.0) (sym (same_mark y (has_child p y c))) lt);
      up = λ p y m c is_live lt. stands.marks.up p y m c is_live (subst (λ (k : Mark). k.since < m.snapshot.0) (sym (same_mark y (has_child p y c))) lt);
      carried = λ y m h is_live le copied. subst (λ (k : Mark). m.snapshot.0 ≤ k.carry) (same_mark y h) (stands.marks.carried y m h is_live (subst (λ (k : Mark). m.snapshot.0 ≤ k.since) (sym (same_mark y h)) le) copied);
      since_issued = λ y h. subst (λ (k : Mark). k.since ≤ issued) (same_mark y h) (stands.marks.since_issued y h);
      carry_issued = λ y h. subst (λ (k : Mark). k.carry ≤ issued) (same_mark y h) (stands.marks.carry_issued y h);
    };
    top = record {
      own = stands.top.own;
      above = stands.top.above;
      since = let n = some_id (node_at state.tree []) root_id stands.live.root in ap (λ (k : Mark). k.since) (sym (same_mark root_id (record { at = []; node = n.0; is = n.1; named = n.2 }))) ∙ stands.top.since;
    };
    ids_issued = stands.ids_issued;
  }

pub release-stands : (before after : Table) (state : State FileBlocks) (issued : ℕ) (x : InodeId) → Releases before after x → IsNodes (node_at state.tree)
    → ((m : Member FileBlocks) → Contains state.members m → IsNodes (node_at m.tree)) → ((m : Member FileBlocks) → Contains state.members m → Has (node_at state.tree) m.directory)
    → Stands before state issued → Stands after state issued
release-stands before after state issued x step is copies dirs stands = stands_released before after state issued x step is copies dirs stands

-- ---- sums over a table

above_key : (k id : InodeId) (es : Table) (old : RowState) → below_all id_order k es ≡ true → row_at es id ≡ Some old → id_order k id ≡ Less
above_key k id [] old below h = absurd (none_some h)
above_key k id (e ∷ es) old below h = elim (id_order id e.0) as (λ o. id_order id e.0 ≡ o → cond (is_eq o) (Some e.1) (row_at es id) ≡ Some old → id_order k id ≡ Less) [
  | Less ↦ λ t g. above_key k id es old (second (is_lt (id_order k e.0)) _ below) g
  | Equal ↦ λ t g. ap (nat_cmp k.0) (nat_cmp-IsAntisymmetric id.0 e.0.0 t) ∙ is_less (id_order k e.0) (first (is_lt (id_order k e.0)) (below_all id_order k es) below)
  | Greater ↦ λ t g. above_key k id es old (second (is_lt (id_order k e.0)) _ below) g
] refl h
  where
    is_less : (o : Ordering) → is_lt o ≡ true → o ≡ Less
    is_less Less t = refl
    is_less Equal t = cc
    is_less Greater t = cc

both_less : (k id : InodeId) → id_order k id ≡ Less → id_order id k ≡ Less → ⊥
both_less k id a b = less_not (sym (nat_total.antisymm id.0 k.0 ∙ ap ordering_reverse a) ∙ b)
  where
    less_not : Greater ≡ Less → ⊥
    less_not q = cc

-- the row that is there, written again
pub put-same : (table : Table) (id : InodeId) (row : RowState) → is_sorted id_order table ≡ true → row_at table id ≡ Some row → put id_order id row table ≡ table
put-same [] id row sorted h = absurd (none_some h)
put-same (e ∷ es) id row sorted h = elim (id_order id e.0) as (λ o. id_order id e.0 ≡ o → cond (is_eq o) (Some e.1) (row_at es id) ≡ Some row
    → by_order o ((id, row) ∷ e ∷ es) ((e.0, row) ∷ es) (e ∷ put id_order id row es) ≡ e ∷ es) [
      | Less ↦ λ t g. let above = above_key e.0 id es row (first (below_all id_order e.0 es) _ sorted) g in absurd (both_less e.0 id above t)
      | Equal ↦ λ t g. ap (λ (r : RowState). (e.0, r) ∷ es) (sym (same_some g))
      | Greater ↦ λ t g. ap (λ (rest : Table). e ∷ rest) (put-same es id row (second (below_all id_order e.0 es) _ sorted) g)
    ] refl h

-- another row in the place of one
pub put-total : (weight : RowState → ℕ) (table : Table) (id : InodeId) (old new : RowState) → is_sorted id_order table ≡ true → row_at table id ≡ Some old → total weight (put id_order id new table) + weight old ≡ total weight table + weight new
put-total weight [] id old new sorted h = absurd (none_some h)
put-total weight (e ∷ es) id old new sorted h = elim (id_order id e.0) as (λ o. id_order id e.0 ≡ o → cond (is_eq o) (Some e.1) (row_at es id) ≡ Some old
    → total weight (by_order o ((id, new) ∷ e ∷ es) ((e.0, new) ∷ es) (e ∷ put id_order id new es)) + weight old ≡ total weight (e ∷ es) + weight new) [
      | Less ↦ λ t g. let above = above_key e.0 id es old (first (below_all id_order e.0 es) _ sorted) g in absurd (both_less e.0 id above t)
      | Equal ↦ λ t g. let same = ap weight (same_some g) in omega (arith, same)
      | Greater ↦ λ t g. let rest = put-total weight es id old new (second (below_all id_order e.0 es) _ sorted) g in omega (arith, rest)
    ] refl h

pub put-named : (table : Table) (id x : InodeId) (old new : RowState) → is_sorted id_order table ≡ true → row_at table id ≡ Some old → times_named x (put id_order id new table) + times x (named_in old.rows) ≡ times_named x table + times x (named_in new.rows)
put-named table id x old new sorted h = put-total (λ row. times x (named_in row.rows)) table id old new sorted h

-- ---- one directory

pub add-named : (dir : DirHistory) (name : List ℕ) (id x : InodeId) → IsSound dir → id_at name dir.children ≡ None
    → times x (named_in (Dir (added name id dir))) ≡ one_where (same_id id x) + times x (named_in (Dir dir))
add-named dir name id x sound free = (counts-added dir name id sound free).named x

pub remove-named : (dir : DirHistory) (name : List ℕ) (id x : InodeId) → IsSound dir → id_at name dir.children ≡ Some id
    → times x (named_in (Dir (removed name dir))) + cond (goes_to_deleted name id dir.records) 0 (one_where (same_id id x)) ≡ times x (named_in (Dir dir))
remove-named dir name id x sound there =
    subst (λ o. times x (named_in (Dir (removed_as name o dir))) + cond (goes_to_deleted name id dir.records) 0 (one_where (same_id id x)) ≡ times x (named_in (Dir dir))) (sym there)
    ((counts-removed dir name id sound there).named x)

pub merge-named : (dir : DirHistory) (i : ℕ) (x : InodeId) → IsSound dir → i < length dir.records
    → times x (named_in (Dir (without_record i dir))) + times x (ids_of (dropped_at i dir.records)) ≡ times x (named_in (Dir dir))
merge-named dir i x sound within = (counts-combined dir i sound within).named x

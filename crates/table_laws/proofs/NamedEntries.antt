-- Names as an entry is taken out of a directory, or put in.
use Rattle.std.proofs.Common.{◌≡◌, ℕ, ◌<◌, List, Some, refl, sym, ap, subst, ◌∙◌, inl, inr, ⊎_elim, arith}
use Rattle.std.specs.Prelude.{◌≢◌}
use Rattle.std.specs.FinMap.Entries.{put}
use Rattle.hs_types.specs.declared.ids.InodeId.{InodeId}
use Rattle.dir_changes.specs.Entries.{id_at, with_entry, without_name}
use Rattle.inode_table.specs.declared.change.Change.TheVariants as changes
use Rattle.inode_table.specs.declared.change.Recount.{Recount}
use Rattle.inode_table.specs.declared.change.Recount.TheVariants as recounts
use Rattle.inode_table.specs.RowHistory.{RowState, Table, id_order, row_at, entries_in}
use Rattle.inode_table.specs.Stands.{root_id}
use Rattle.inode_table.specs.Names.{times_named}
use Rattle.inode_table.specs.Once.{IsIn, IsOnce, NewList}
use Rattle.inode_table.specs.Recounts.{more_of, less_of}
use Rattle.inode_table.specs.Tabled.{Tabled, changed, changed_row, begun_rows, recounted, recount_of}
use Rattle.inode_table.specs.Kept.{FitsRows, CanChange}
use Rattle.inode_table.proofs.Reading.{by_id}
use Rattle.inode_table.proofs.Onces.{once-remove, once-add}
use Rattle.inode_table.specs.Whole.{AreNamed}
use Rattle.table_laws.specs.Naming.{lists_of, AllSound, NamedBut, IsLive, RemovesName, AddsName}
use Rattle.table_laws.proofs.NamedTables.{one-same, one-other}
use Rattle.table_laws.proofs.NamedLists.{row-there, none-names, in-named, ends-fewer, ends-more}
use Rattle.table_laws.proofs.BlockLists.{in-here, in-later, in-either}
use Rattle.table_laws.proofs.NamedSteps.{some-so, rows-so, after-is, change-named, change-some, was-here, change-are, removes-list, adds-list, Loses, remove-recount, add-recount, fits-remove}

-- ---- an entry less

module _ (t : Tabled) (id x : InodeId) (cover tick : ℕ) (name : List ℕ) (row : RowState) (there : row_at t.rows id ≡ Some row) (found : id_at name (entries_in 0 row.rows) ≡ Some x) (sound : AllSound t.rows) (are : AreNamed t.rows) where
  abbrev removed : Table
  removed = recounted (recount_of (changes.Remove name) (begun_rows cover row.rows)) (put id_order id (changed_row cover tick (changes.Remove name) row) t.rows)

  fits : FitsRows (changes.Remove name) row.rows
  fits = fits-remove name x row.rows found

  lost : Loses (recount_of (changes.Remove name) (begun_rows cover row.rows)) x
  lost = remove-recount cover name x row.rows found

  fewer : NewList (lists_of t.rows) (lists_of removed) id (without_name name (lists_of t.rows id))
  fewer = removes-list t id cover tick (changes.Remove name) row there name x refl found

  was_in : IsIn (lists_of t.rows) id name x
  was_in = ap (id_at name) (was-here t id cover tick (changes.Remove name) row there) ∙ found

  out : IsOnce (lists_of removed) × ((q : InodeId) (b : List ℕ) → IsIn (lists_of removed) q b x → ⊥)
  out = once-remove (lists_of t.rows) (lists_of removed) id x name fewer was_in are.names.once

  still_there : (row : RowState) × (row_at removed x ≡ Some row)
  still_there = some-so (row_at removed x) (change-some t id cover tick (changes.Remove name) row there x ∙ are.names.there x (in-named t.rows id name x was_in))

  same_named : (y : InodeId) → y ≢ x → times_named y removed ≡ times_named y t.rows
  same_named y apart =
      let step = change-named t id cover tick (changes.Remove name) row there sound fits are tt y in
      let gain = lost.more y in
      let loss = lost.less y apart in
      omega (arith, step, gain, loss)

  pub removes : RemovesName t.rows removed id name x
  removes = record {
    rows = change-some t id cover tick (changes.Remove name) row there;
    lists = fewer;
    named = change-are t id cover tick (changes.Remove name) row there sound fits are tt out.0 (ends-fewer (lists_of t.rows) (lists_of removed) id name fewer are.names.ends) (lost.more root_id);
    loose = record { row = still_there.0; there = still_there.1; loose = out.1 };
    but = λ unnamed but y rows h other. by_id y x
        (λ e. inl (in-here unnamed x y e))
        (λ ne. let old = rows-so t.rows removed y rows (change-some t id cover tick (changes.Remove name) row there y) h in
        ⊎_elim (λ c. inl (in-later unnamed x y c)) (λ some. inr (subst (λ n. 0 < n) (sym (same_named y ne)) some)) (but y old.0 old.1 other));
  }

pub remove-names : (t : Tabled) (id x : InodeId) (cover tick : ℕ) (name : List ℕ) → IsIn (lists_of t.rows) id name x → AllSound t.rows → AreNamed t.rows
    → RemovesName t.rows (changed id cover tick (changes.Remove name) t).rows id name x
remove-names t id x cover tick name found sound are =
    let r = row-there t.rows id name x found in
    subst (λ (after : Table). RemovesName t.rows after id name x) (sym (after-is t id cover tick (changes.Remove name) r.0 r.1))
    (removes t id x cover tick name r.0 r.1 r.2 sound are)

-- ---- an entry more

module _ (t : Tabled) (id x : InodeId) (cover tick : ℕ) (name : List ℕ) (can : CanChange t.rows id (changes.Add name x)) (not_root : x ≢ root_id) (sound : AllSound t.rows) (are : AreNamed t.rows) where
  abbrev added : Table
  added = recounted (recount_of (changes.Add name x) (begun_rows cover can.row.rows)) (put id_order id (changed_row cover tick (changes.Add name x) can.row) t.rows)

  gained : (y : InodeId) → (more_of (recount_of (changes.Add name x) (begun_rows cover can.row.rows)) y ≡ more_of (recounts.More x) y) × (less_of (recount_of (changes.Add name x) (begun_rows cover can.row.rows)) y ≡ 0)
  gained y = let same = add-recount cover name x can.row.rows can.fits in (ap (λ (r : Recount). more_of r y) same, ap (λ (r : Recount). less_of r y) same)

  more : NewList (lists_of t.rows) (lists_of added) id (with_entry name x (lists_of t.rows id))
  more = adds-list t id cover tick (changes.Add name x) can.row can.there name x refl can.fits

  once : IsOnce (lists_of added)
  once = once-add (lists_of t.rows) (lists_of added) id x name more can.entry.loose are.names.once

  not_gained : more_of (recount_of (changes.Add name x) (begun_rows cover can.row.rows)) root_id ≡ 0
  not_gained = (gained root_id).0 ∙ one-other x root_id not_root

  root_free : times_named root_id added ≡ 0
  root_free =
      let step = change-named t id cover tick (changes.Add name x) can.row can.there sound can.fits are can.entry root_id in
      let none = are.root in
      let gain = not_gained in
      omega (arith, step, none, gain)

  pub adds : IsLive (lists_of added) id → AddsName t.rows added id name x
  adds live = record {
    rows = change-some t id cover tick (changes.Add name x) can.row can.there;
    lists = more;
    named = change-are t id cover tick (changes.Add name x) can.row can.there sound can.fits are can.entry once
        (ends-more (lists_of t.rows) (lists_of added) id x name more live once (none-names added root_id root_free) are.names.ends) not_gained;
    but = λ unnamed but y rows h other.
        let old = rows-so t.rows added y rows (change-some t id cover tick (changes.Add name x) can.row can.there y) h in
        let step = change-named t id cover tick (changes.Add name x) can.row can.there sound can.fits are can.entry y in
        let gain = (gained y).0 in
        let loss = (gained y).1 in
        by_id y x
        (λ e. let one = one-same x y (sym e) in inr (omega (arith, step, gain, loss, one)))
        (λ ne. ⊎_elim
        (λ c. ⊎_elim (λ e. absurd (ne e)) (λ c2. inl c2) (in-either unnamed x y c))
        (λ some. inr (omega (arith, step, gain, loss, some)))
        (but y old.0 old.1 other));
  }

pub add-names : (t : Tabled) (id x : InodeId) (cover tick : ℕ) (name : List ℕ) → CanChange t.rows id (changes.Add name x) → x ≢ root_id
    → IsLive (lists_of (changed id cover tick (changes.Add name x) t).rows) id → AllSound t.rows → AreNamed t.rows → AddsName t.rows (changed id cover tick (changes.Add name x) t).rows id name x
add-names t id x cover tick name can not_root live sound are =
    let is = after-is t id cover tick (changes.Add name x) can.row can.there in
    subst (λ (after : Table). AddsName t.rows after id name x) (sym is)
    (adds t id x cover tick name can not_root sound are (subst (λ (after : Table). IsLive (lists_of after) id) is live))

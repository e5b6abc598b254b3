-- Which lists name no inode.
use Rattle.std.proofs.Common.{◌≡◌, ℕ, ◌<◌, true, false, not, List, Option, Some, None, refl, sym, ap, subst, ◌∙◌, arith}
use Rattle.std.specs.Prelude.{IsTrue, ◌==◌, nat_lt}
use Rattle.std.specs.List.{list_all}
use Rattle.std.specs.Option.{option_map}
use Rattle.std.proofs.lemmas.Bool.Decides.{nat_tests}
use Rattle.hs_types.specs.declared.ids.InodeId.{InodeId}
use Rattle.hs_plain.proofs.ValidShapes.{none_some}
use Rattle.dir_changes.specs.Entries.{Entries, id_at}
use Rattle.dir_changes.proofs.UndoLaw.{passes_found}
use Rattle.inode_table.specs.declared.row.Row.{Row}
use Rattle.inode_table.specs.Numbered.{row_of, table_of, state_of, history_of}
use Rattle.inode_table.specs.Once.{IsIn}
use Rattle.inode_table.specs.RowHistory.{shown, entries_of, entries_in}
use Rattle.inode_table.proofs.Telling.{row-told}

-- no entry has that id
pub not_found : (id : InodeId) (es : Entries) (name : List ℕ) → IsTrue (list_all (λ e. not (e.1.0 == id.0)) es) → id_at name es ≡ Some id → ⊥
not_found id es name all found = let other = passes_found (λ e. not (e.1.0 == id.0)) es name id all found in grind (arith, nat_tests)

module _ (rows : List (InodeId × Row)) (dir id : InodeId) (name : List ℕ) where
  list_of : (o : Option Row) → row_of rows dir ≡ o → id_at name ((shown (table_of rows) 0).entries dir) ≡ id_at name (entries_of 0 (option_map (λ r. r.rows) (option_map state_of o)))
  list_of o is = ap (λ s. id_at name (entries_of 0 (option_map (λ r. r.rows) s))) (row-told rows dir ∙ ap (option_map state_of) is)

  -- where no row is there
  pub not_there : row_of rows dir ≡ None → IsIn (shown (table_of rows) 0).entries dir name id → ⊥
  not_there is found = absurd (none_some (sym (list_of None is) ∙ found))

  -- and where the list of a row doesn't name it
  pub not_named : (row : Row) → row_of rows dir ≡ Some row → (id_at name (entries_in 0 (history_of row.rows)) ≡ Some id → ⊥) → IsIn (shown (table_of rows) 0).entries dir name id → ⊥
  not_named row is lacks found = lacks (sym (list_of (Some row) is) ∙ found)

-- what holds below a number, at it and above it holds everywhere
pub everywhere : (P : InodeId → Type 0) (n : ℕ) → ((d : InodeId) → d.0 < n → P d) → P (record { 0 = n }) → ((d : InodeId) → n < d.0 → P d) → (d : InodeId) → P d
everywhere P n below at above d = elim (nat_lt d.0 n) as (λ b. nat_lt d.0 n ≡ b → P d) [
  | true ↦ λ t. below d (grind (arith, nat_tests))
  | false ↦ λ t. elim (nat_lt n d.0) as (λ b. nat_lt n d.0 ≡ b → P d) [
    | true ↦ λ u. above d (grind (arith, nat_tests))
    | false ↦ λ u. let same : n ≡ d.0 = grind (arith, nat_tests) in subst (λ k. P (record { 0 = k })) same at
  ] refl
] refl

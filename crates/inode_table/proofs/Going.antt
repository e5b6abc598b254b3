-- What is left as rows go in turn.
use Rattle.std.proofs.Common.{◌≡◌, ℕ, ◌≤◌, true, false, cond, List, [], ◌∷◌, ◌++◌, map, Option, Some, None, refl, sym, ap, subst, ◌∙◌, arith}
use Rattle.std.specs.Prelude.{◌-◌, ◌≢◌, not}
use Rattle.std.specs.List.{Contains}
use Rattle.std.specs.Option.{option_map}
use Rattle.std.specs.Ordering.{eq_by_cmp}
use Rattle.std.specs.FinMap.{nat_cmp-IsAntisymmetric}
use Rattle.std.specs.FinMap.Entries.{find-where_key}
use Rattle.std.proofs.lemmas.Bool.Decides.{Decides-eqb}
use Rattle.hs_types.specs.declared.ids.InodeId.{InodeId}
use Rattle.hs_plain.specs.declared.state.Member.{Member}
use Rattle.hs_plain.specs.declared.state.State.{State}
use Rattle.hs_plain.specs.declared.state.FileBlocks.{FileBlocks}
use Rattle.hs_plain.specs.Tree.{node_at, same_inode}
use Rattle.hs_plain.proofs.ValidShapes.{none_some, same_some}
use Rattle.inode_table.specs.Reads.{IsNodes, Has}
use Rattle.inode_table.specs.RowHistory.{RowHistory, RowState, Table, row_at, rows_at, mark_of, id_order}
use Rattle.inode_table.specs.Stands.{Stands}
use Rattle.dir_changes.specs.Counts.{times}
use Rattle.inode_table.specs.Names.{named_in, times_named, Releases}
use Rattle.inode_table.specs.Tabled.{Tabled, named_less, recounted_row}
use Rattle.inode_table.specs.Released.{all_named_less, without_row, let_go, MayGo, ReleasedBy}
use Rattle.inode_table.proofs.Naming.{release-stands}

-- ---- what doesn't look at names

module _ {Y : Type 0} (h : Option RowState → Y) (blind : (r : RowState) (n : ℕ) → h (Some (record r { names = n })) ≡ h (Some r)) where
  pub kept-recounted : (f : ℕ → ℕ) (id x : InodeId) (t : Table) → h (row_at (map (recounted_row f id) t) x) ≡ h (row_at t x)
  kept-recounted f id x [] = refl
  kept-recounted f id x (e ∷ es) = elim (same_inode e.0 id) as (λ b. h (cond (eq_by_cmp id_order x (cond b (e.0, record e.1 { names = f e.1.names }) e).0) (Some (cond b (e.0, record e.1 { names = f e.1.names }) e).1) (row_at (map (recounted_row f id) es) x)) ≡ h (row_at (e ∷ es) x)) [
    | true ↦ elim (eq_by_cmp id_order x e.0) as (λ b. h (cond b (Some (record e.1 { names = f e.1.names })) (row_at (map (recounted_row f id) es) x)) ≡ h (cond b (Some e.1) (row_at es x))) [
      | true ↦ blind e.1 (f e.1.names)
      | false ↦ kept-recounted f id x es
    ]
    | false ↦ elim (eq_by_cmp id_order x e.0) as (λ b. h (cond b (Some e.1) (row_at (map (recounted_row f id) es) x)) ≡ h (cond b (Some e.1) (row_at es x))) [
      | true ↦ refl
      | false ↦ kept-recounted f id x es
    ]
  ]

  pub kept-all-less : (ids : List InodeId) (x : InodeId) (t : Table) → h (row_at (all_named_less ids t) x) ≡ h (row_at t x)
  kept-all-less [] x t = refl
  kept-all-less (id ∷ ids) x t = kept-all-less ids x (named_less id t) ∙ kept-recounted (λ n. n - 1) id x t

is_other : (id x : InodeId) → x ≢ id → same_inode x id ≡ false
is_other id x apart = elim (same_inode x id) as (λ b. same_inode x id ≡ b → b ≡ false) [
  | true ↦ λ e. absurd (apart (ap (λ (n : ℕ). record { 0 = n }) ((Decides-eqb x.0 id.0).0 e)))
  | false ↦ λ e. refl
] refl

pub row_at-without : (id x : InodeId) (t : Table) → x ≢ id → row_at (without_row id t) x ≡ row_at t x
row_at-without id x t apart =
    find-where_key id_order (λ other. not (same_inode other id)) x (λ y tie. ap (λ (n : ℕ). not (same_inode (record { 0 = n }) id)) (sym (nat_cmp-IsAntisymmetric x.0 y.0 tie))) t
    ∙ ap (λ b. cond (not b) (row_at t x) None) (is_other id x apart)

times_within : (x id : InodeId) (t : Table) (rows : RowHistory) → rows_at t id ≡ Some rows → times x (named_in rows) ≤ times_named x t
times_within x id [] rows h = absurd (none_some h)
times_within x id (e ∷ es) rows h = elim (eq_by_cmp id_order id e.0) as (λ b. option_map (λ (r : RowState). r.rows) (cond b (Some e.1) (row_at es id)) ≡ Some rows → times x (named_in rows) ≤ times_named x (e ∷ es)) [
  | true ↦ λ k. let same = ap (λ (r : RowHistory). times x (named_in r)) (same_some k) in omega (arith, same)
  | false ↦ λ k. let rest = times_within x id es rows k in omega (arith, rest)
] h

pub let-go : (t : Tabled) (id : InodeId) (row : RowState) → MayGo t.rows id row → Releases t.rows (let_go id row.rows t).rows id
let-go t id row may = record {
  there = λ x apart. kept-all-less (option_map (λ (r : RowState). r.rows)) (λ r n. refl) (named_in row.rows) x (without_row id t.rows) ∙ ap (option_map (λ (r : RowState). r.rows)) (row_at-without id x t.rows apart);
  marks = λ x apart. kept-all-less mark_of (λ r n. refl) (named_in row.rows) x (without_row id t.rows) ∙ ap mark_of (row_at-without id x t.rows apart);
  not_root = may.not_root;
  not_named = λ x rows h. let within = times_within id x t.rows rows h in let none = may.not_named in omega arith;
}

pub released-stands : (before after : Tabled) (gone : List InodeId) (state : State FileBlocks) (issued : ℕ) → ReleasedBy before gone after → IsNodes (node_at state.tree)
    → ((m : Member FileBlocks) → Contains state.members m → IsNodes (node_at m.tree)) → ((m : Member FileBlocks) → Contains state.members m → Has (node_at state.tree) m.directory)
    → Stands before.rows state issued → Stands after.rows state issued
released-stands before after [] state issued same is copies dirs stands = subst (λ (t : Tabled). Stands t.rows state issued) (sym same) stands
released-stands before after (id ∷ gone) state issued step is copies dirs stands =
    released-stands (let_go id step.0.rows before) after gone state issued step.2 is copies dirs
    (release-stands before.rows (let_go id step.0.rows before).rows state issued id (let-go before id step.0 step.1) is copies dirs stands)

-- one row more has gone
pub released-more : (gone : List InodeId) (before now : Tabled) (id : InodeId) (row : RowState) → ReleasedBy before gone now → MayGo now.rows id row → ReleasedBy before (gone ++ id ∷ []) (let_go id row.rows now)
released-more [] before now id row same may = (row, subst (λ (t : Tabled). MayGo t.rows id row) same may, ap (let_go id row.rows) same)
released-more (other ∷ gone) before now id row step may = (step.0, step.1, released-more gone (let_go other step.0.rows before) now id row step.2 may)

-- Rows that go don't add to a table's weight.
use Rattle.std.proofs.Common.{◌≡◌, ◌+◌, ◌-◌, ◌≤◌, true, false, cond, List, [], ◌∷◌, refl, sym, subst, ◌∙◌, arith}
use Rattle.std.specs.Prelude.{not}
use Rattle.hs_types.specs.declared.ids.InodeId.{InodeId}
use Rattle.hs_plain.specs.Tree.{same_inode}
use Rattle.inode_table.specs.declared.freed.Freed.{Freed}
use Rattle.inode_table.specs.Names.{named_in}
use Rattle.inode_table.specs.Released.{all_named_less, without_row, let_go, ReleasedBy, Releasing}
use Rattle.inode_table.specs.RowHistory.{Table, RowHistory}
use Rattle.inode_table.specs.Tabled.{Tabled, named_less}
use Rattle.inode_table.specs.Totals.{total, weight}
use Rattle.inode_table.proofs.Lessening.{one_weight, weight_is}
use Rattle.inode_table.proofs.Placing.{total-recounted}

less_weight : (ids : List InodeId) (table : Table) → weight (all_named_less ids table) ≡ weight table
less_weight [] table = refl
less_weight (id ∷ ids) table = less_weight ids (named_less id table) ∙ weight_is (named_less id table) ∙ total-recounted (λ n. n - 1) one_weight (λ r n. refl) id table ∙ sym (weight_is table)

total_without : (id : InodeId) (table : Table) → total one_weight (without_row id table) ≤ total one_weight table
total_without id [] = omega arith
total_without id (e ∷ es) = elim (same_inode e.0 id) as (λ b. total one_weight (cond (not b) (e ∷ without_row id es) (without_row id es)) ≤ one_weight e.1 + total one_weight es) [
  | true ↦ let rest = total_without id es in omega (arith, rest)
  | false ↦ let rest = total_without id es in omega (arith, rest)
]

gone_weight : (t : Tabled) (id : InodeId) (rows : RowHistory) → weight (let_go id rows t).rows ≤ weight t.rows
gone_weight t id rows =
    let less = less_weight (named_in rows) (without_row id t.rows) in
    let few = total_without id t.rows in
    let a = weight_is (without_row id t.rows) in
    let b = weight_is t.rows in
    omega (arith, less, few, a, b)

weight_released : (before after : Tabled) (gone : List InodeId) → ReleasedBy before gone after → weight after.rows ≤ weight before.rows
weight_released before after [] same = subst (λ (t : Tabled). weight t.rows ≤ weight before.rows) (sym same) (omega arith)
weight_released before after (id ∷ gone) step =
    let one = gone_weight before id step.0.rows in
    let more = weight_released (let_go id step.0.rows before) after gone step.2 in
    omega (arith, one, more)

pub weight-released : (before after : Tabled) (freed : Freed) → Releasing before freed after → weight after.rows ≤ weight before.rows
weight-released before after freed step = weight_released before (record after { waiting = freed.blocks }) step.gone step.steps

use Rattle.std.proofs.Common.{◌≡◌, ◌-◌, ◌≤◌, length, vec_len, sym, ap, ◌∙◌, arith}
use Rattle.inode_table.specs.Numbered.{row_of}
use Rattle.inode_table.proofs.Numbers.{found}
use Rattle.inode_table.proofs.Placing.{slot-past}
use Rattle.inode_table.proofs.table.Table.always.Goals as goal

pub returns : goal.returns
returns c = record {
  none_above = λ id above.
      let rows = c.self.inside.rows in
      let greatest : vec_len rows - 1 ≡ c.args.self.now.greatest = ap (λ table. table.greatest) c.self.view_is in
      let past : length rows.items ≤ id.0 = omega (arith, greatest, above) in
      sym (ap (λ table. row_of table.rows id) c.self.view_is) ∙ found id rows.items ∙ slot-past rows.items id past;
}

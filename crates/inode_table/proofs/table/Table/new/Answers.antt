use Rattle.std.proofs.Common.{◌≡◌, [], ◌+◌, ◌^◌, ◌≤◌, subst, refl, sym, arith}
use Rattle.std.proofs.lemmas.List.Sorted.{IsNonDecreasingBy-short}
use Rattle.inode_table.specs.declared.noted.Noted.{Noted}
use Rattle.inode_table.specs.Indexed.{IsRising}
use Rattle.inode_table.specs.Totals.{blocks_named, weight}
use Rattle.inode_table.proofs.Places.{named-few}
use Rattle.inode_table.proofs.table.Table.new.Goals as goal

pub invariant_of-result : goal.invariant_of-result
invariant_of-result c = record {
  counted = c.push_root.ensures.counted;
  listed = c.push_root.ensures.listed c.reserve.new.self.items;
  stack_room = let few = named-few c.push_root.new.rows.items in omega (arith, few, c.push_root.new.rows.ok.0, c.in_ok-reserve.ensures.ok, c.push_root.ensures.len, c.reserve.ensures.len, c.new-unnamed.ensures.len);
  blocks = subst (λ table. 0 ≡ blocks_named table) (sym c.push_root.ensures.rows) refl;
  rising = subst IsRising (sym c.new.ensures.items) (IsNonDecreasingBy-short (λ (e : Noted). e.tick) [] (omega arith));
  some = omega (arith, c.push_root.ensures.len);
  within = subst (λ table. weight table ≤ 2 ^ 32 + 2) (sym c.push_root.ensures.rows) (omega arith);
}

use Rattle.std.proofs.Common.{◌≡◌, ◌+◌, ◌≤◌, vec_len, vec_capacity}
use Rattle.inode_table.specs.Totals.{weight}
use Rattle.inode_table.specs.Slots.{table_in, named_rows, AreListed}
use Rattle.inode_table.specs.Lessened.{StaysOrGoes, Steady, HaveGone}
use Rattle.inode_table.proofs.releasing.release_all.Given as goal

abbrev pub invariant-loop-id : goal.invariant-loop-id
invariant-loop-id l = record {
  gone : HaveGone l.gone l.initial.rows.items l.rows.items l.initial.waiting.items l.waiting.items;
  left : StaysOrGoes l.initial.rows.items l.rows.items;
  uncounted : l.blocks ≤ l.initial.blocks;
  steady : Steady l.rows.items (vec_len l.unnamed) (vec_capacity l.unnamed) (vec_len l.waiting) (vec_capacity l.waiting) l.blocks;
  listed : AreListed l.rows.items l.unnamed.items;
  few : l.gone + (vec_len l.unnamed + named_rows l.rows.items) ≤ vec_len l.initial.unnamed + named_rows l.initial.rows.items;
  len : vec_len l.rows ≡ vec_len l.initial.rows;
  weight : weight (table_in l.rows.items) ≤ weight (table_in l.initial.rows.items);
  capacity : vec_capacity l.unnamed ≡ vec_capacity l.initial.unnamed;
  slots : vec_capacity l.rows ≡ vec_capacity l.initial.rows;
  waiting_capacity : vec_capacity l.waiting ≡ vec_capacity l.initial.waiting;
}

abbrev pub decreases-loop-id : goal.decreases-loop-id
decreases-loop-id l = vec_len l.unnamed + named_rows l.rows.items

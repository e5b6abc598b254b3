-- Private: what the fields of a `Table` stand for, and what they keep.
use Rattle.std.specs.Prelude.{◌≡◌, ◌+◌, ◌-◌, ◌^◌, ◌<◌, ◌≤◌, [], vec_len, vec_capacity}
use Rattle.inode_table.specs.declared.table.Table.TheInside.{Inside}
use Rattle.inode_table.specs.Numbered.{numbered}
use Rattle.inode_table.specs.Slots.{table_in, named_rows, AreCounted, AreListed}
use Rattle.inode_table.specs.Totals.{blocks_named, weight}
use Rattle.inode_table.specs.Indexed.{IsRising}
use Rattle.inode_table.specs.Kept.{TableValue}

abbrev pub table_value : Inside → TableValue
table_value a = record {
  rows = numbered 0 a.rows.items;
  index = a.index.items;
  greatest = vec_len a.rows - 1;
  waiting = a.waiting.items;
  room = record {
    slots = vec_capacity a.rows - vec_len a.rows;
    index = vec_capacity a.index - vec_len a.index;
    stack = vec_capacity a.unnamed - (vec_len a.unnamed + vec_len a.rows);
    blocks = vec_capacity a.waiting + 1 - (vec_len a.waiting + a.blocks);
  };
}

pub record IsKept (a : Inside) : Type 0 where
  pub counted : AreCounted a.rows.items []
  pub listed : AreListed a.rows.items a.unnamed.items
  -- room on the stack for each row that is named
  pub stack_room : vec_len a.unnamed + named_rows a.rows.items ≤ vec_capacity a.unnamed
  pub blocks : a.blocks ≡ blocks_named (table_in a.rows.items)
  pub rising : IsRising a.index.items
  pub some : 0 < vec_len a.rows
  -- an insertion adds 1 to it and a change at most 3, each to less than 2 ^ 32
  pub within : weight (table_in a.rows.items) ≤ 2 ^ 32 + 2

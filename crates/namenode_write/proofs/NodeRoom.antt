-- Room for a new node, step by step.
use Rattle.std.proofs.Common.{◌≡◌, ℕ, zero, suc, ◌+◌, ◌-◌, ◌<◌, ◌≤◌, List, [], ◌∷◌, get_or, length, cond, refl, sym, ap, subst, arith}
use Rattle.std.specs.Prelude.{◌≢◌}
use Rattle.std.specs.List.{Contains}
use Rattle.std.proofs.lemmas.Bool.Decides.{Decides-eqb}
use Rattle.hs_types.specs.declared.ids.InodeId.{InodeId}
use Rattle.inode_table.specs.declared.change.Change.{Change}
use Rattle.inode_table.specs.declared.change.Change.TheVariants as changes
use Rattle.inode_table.specs.Ahead.{Ahead, HasRoomFor, prepared_for, inserted_one, changed_one, IsNext, IsAhead, ChangeFits, IsChanged}
use Rattle.inode_table.specs.Kept.{TableValue, HasInsertRoom, UsesInsert}
use Rattle.inode_table.specs.Numbered.{row_of}
use Rattle.inode_table.specs.RowHistory.{RowHistory}
use Rattle.inode_table.specs.Tabled.{Tabled}
use Rattle.inode_table.specs.Totals.{block_count}
use Rattle.inode_table.proofs.Ahead.{insert-fits, insert-leaves, change-fits, change-leaves, release-fits}
use Rattle.namenode_write.specs.NewNodes.{HasNodeRoom, next_id}
use Rattle.namenode_write.specs.declared.rows.seats.Seat.{Seat}

only : (y x : InodeId) (k : ℕ) → k < length (y ∷ []) → get_or (y ∷ []) k x ≡ x → x ≡ y
only y x zero lt e = sym e
only y x (suc k) lt e = absurd (omega arith)

-- what `prepare` makes
pub room-prepared : (seat : Seat) (value : TableValue) → seat.id.0 ≤ value.greatest → HasRoomFor (prepared_for (seat.id ∷ []) (λ id. seat.need.0)) value → HasNodeRoom 3 seat value
room-prepared seat value old room = record {
  ahead = prepared_for (seat.id ∷ []) (λ id. seat.need.0);
  room = room;
  insertion = omega arith;
  listed = (0, omega arith, refl);
  some = omega arith;
  cover = refl;
  apart = λ one. let same = ap (λ (i : InodeId). i.0) (only seat.id (next_id value.greatest) one.0 one.1 one.2) in omega (arith, old, same);
}

pub room-fewer : (more few : ℕ) (seat : Seat) (value : TableValue) → few ≤ more → HasNodeRoom more seat value → HasNodeRoom few seat value
room-fewer more few seat value le has = record {
  ahead = has.ahead;
  room = has.room;
  insertion = has.insertion;
  listed = has.listed;
  some = let some = has.some in omega (arith, le, some);
  cover = has.cover;
  apart = has.apart;
}

-- ---- the new row

module _ (n : ℕ) (seat : Seat) (value : TableValue) (rows : RowHistory) (has : HasNodeRoom n seat value) (empty : block_count rows ≡ 0) where
  next : IsNext value (next_id value.greatest) rows
  next = record { next = refl; empty = empty }

  pub row-fits : HasInsertRoom (next_id value.greatest) rows value.greatest value.room
  row-fits = insert-fits has.ahead value (next_id value.greatest) rows has.room has.insertion next

  pub row-leaves : (after : TableValue) → UsesInsert (next_id value.greatest) rows value.greatest value.room after.room
      → ((other : InodeId) → other ≢ next_id value.greatest → row_of after.rows other ≡ row_of value.rows other) → HasRoomFor (inserted_one has.ahead) after
  row-leaves after uses there = insert-leaves has.ahead value after (next_id value.greatest) rows has.room has.insertion next has.apart uses there

-- ---- a change of the directory

module _ (ahead : Ahead) (seat : Seat) (value : TableValue) (tick : ℕ) (what : Change) (room : HasRoomFor ahead value) (is : IsAhead ahead value seat.id what) (cover : ahead.cover seat.id ≡ seat.need.0) where
  entry-fits : ChangeFits value seat.id seat.need.0 tick what
  entry-fits = subst (λ (c : ℕ). ChangeFits value seat.id c tick what) cover (change-fits ahead value seat.id tick what room is)

  entry-leaves : (after : TableValue) → IsChanged value after seat.id seat.need.0 tick what → HasRoomFor (changed_one seat.id ahead) after
  entry-leaves after step = change-leaves ahead value after seat.id tick what room is (subst (λ (c : ℕ). IsChanged value after seat.id c tick what) (sym cover) step)

-- the entry of a new row goes in
module _ (n : ℕ) (seat : Seat) (before value : TableValue) (name : List ℕ) (id : InodeId) (tick : ℕ) (has : HasNodeRoom (n + 1) seat before) (room : HasRoomFor (inserted_one has.ahead) value) where
  in-ahead : IsAhead (inserted_one has.ahead) value seat.id (changes.Add name id)
  in-ahead = record { one = has.listed; some = let some = has.some in omega (arith, some); small = tt }

  pub in-fits : ChangeFits value seat.id seat.need.0 tick (changes.Add name id)
  in-fits = entry-fits (inserted_one has.ahead) seat value tick (changes.Add name id) room in-ahead has.cover

  pub in-leaves : (after : TableValue) → IsChanged value after seat.id seat.need.0 tick (changes.Add name id) → 0 < after.room.blocks
  in-leaves after step = release-fits (changed_one seat.id (inserted_one has.ahead)) after (entry-leaves (inserted_one has.ahead) seat value tick (changes.Add name id) room in-ahead has.cover after step)

-- an entry goes out
module _ (n : ℕ) (seat : Seat) (value : TableValue) (name : List ℕ) (tick : ℕ) (has : HasNodeRoom (n + 1) seat value) where
  out-ahead : IsAhead has.ahead value seat.id (changes.Remove name)
  out-ahead = record { one = has.listed; some = let some = has.some in omega (arith, some); small = tt }

  pub out-fits : ChangeFits value seat.id seat.need.0 tick (changes.Remove name)
  out-fits = entry-fits has.ahead seat value tick (changes.Remove name) has.room out-ahead has.cover

  one_less : (changed_one seat.id has.ahead).changes seat.id ≡ has.ahead.changes seat.id - 1
  one_less = ap (λ b. cond b (has.ahead.changes seat.id - 1) (has.ahead.changes seat.id)) ((Decides-eqb seat.id.0 seat.id.0).1 refl)

  pub out-leaves : (after : TableValue) → IsChanged value after seat.id seat.need.0 tick (changes.Remove name) → HasNodeRoom n seat after
  out-leaves after step = record {
    ahead = changed_one seat.id has.ahead;
    room = entry-leaves has.ahead seat value tick (changes.Remove name) has.room out-ahead has.cover after step;
    insertion = has.insertion;
    listed = has.listed;
    some = let some = has.some in let less = one_less in omega (arith, some, less);
    cover = has.cover;
    apart = λ one. has.apart (subst (λ (g : ℕ). Contains has.ahead.ids (next_id g)) (ap (λ (t : Tabled). t.greatest) step.whole) one);
  }

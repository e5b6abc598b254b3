-- Room for the three changes of a rename.
use Rattle.std.proofs.Common.{◌≡◌, ℕ, ◌-◌, ◌*◌, ◌<◌, true, false, cond, List, length, Option, None, Some, Ok, Err, refl, sym, ap, subst, ◌∙◌, arith}
use Rattle.std.specs.Prelude.{Result, OnOk}
use Rattle.std.specs.List.{Contains}
use Rattle.std.specs.Option.{option_map, IsSome}
use Rattle.hs_types.specs.declared.ids.InodeId.{InodeId}
use Rattle.hs_types.specs.declared.name.Spot.{Spot}
use Rattle.hs_plain.specs.Tree.{same_inode}
use Rattle.inode_table.specs.declared.change.Change.{Change}
use Rattle.inode_table.specs.declared.change.Change.TheVariants as changes
use Rattle.inode_table.specs.Ahead.{Ahead, prepared_for, changed_one, HasRoomFor, IsAhead, ChangeFits, IsChanged}
use Rattle.inode_table.specs.declared.row.Row.{Row}
use Rattle.inode_table.specs.Kept.{TableValue, told, IsRowReady, IsPrepared, all_ahead}
use Rattle.inode_table.specs.Numbered.{row_of, state_of}
use Rattle.inode_table.specs.RowHistory.{RowState, row_at}
use Rattle.inode_table.specs.Tabled.{Tabled}
use Rattle.inode_table.proofs.Ahead.{prepared-ahead, change-fits, change-leaves}
use Rattle.inode_table.proofs.Telling.{row-told}
use Rattle.namenode_write.specs.declared.rows.seats.Seat.{Seat}
use Rattle.namenode_write.specs.declared.rows.renaming.MoveSeats.{MoveSeats}
use Rattle.namenode_write.specs.Moving.{ids_of, HasNeeds}

-- the three rows were prepared
pub three-ready : {T E : Type 0} (r : Result T E) (before after : TableValue) (ids : List InodeId) (seats : MoveSeats) → ids ≡ ids_of seats → told after ≡ told before → OnOk r (IsPrepared (3 * length ids) (all_ahead (told before).rows ids) after.room)
    → OnOk r ((id : InodeId) → Contains ids id → (number : ℕ) → IsRowReady 3 number (row_of after.rows id)) → OnOk r ((need : InodeId → ℕ) → HasRoomFor (prepared_for (ids_of seats) need) after)
three-ready (Ok x) before after ids seats same kept is rows = λ need. subst (λ (all : List InodeId). HasRoomFor (prepared_for all need) after) same (prepared-ahead before after ids need kept is rows)
three-ready (Err e) before after ids seats same kept is rows = tt

-- a change at a seat whose need is the cover that was counted with
module _ (ahead : Ahead) (value : TableValue) (seat : Seat) (tick : ℕ) (what : Change) (room : HasRoomFor ahead value) (is : IsAhead ahead value seat.id what) (need : ahead.cover seat.id ≡ seat.need.0) where
  pub seat-fits : ChangeFits value seat.id seat.need.0 tick what
  seat-fits = subst (λ n. ChangeFits value seat.id n tick what) need (change-fits ahead value seat.id tick what room is)

  pub seat-leaves : (after : TableValue) → IsChanged value after seat.id seat.need.0 tick what → HasRoomFor (changed_one seat.id ahead) after
  seat-leaves after step = change-leaves ahead value after seat.id tick what room is (subst (λ n. IsChanged value after seat.id n tick what) (sym need) step)

one_left : (n : ℕ) (x y : InodeId) → 1 < n → 0 < cond (same_inode x y) (n - 1) n
one_left n x y more = elim (same_inode x y) as (λ b. 0 < cond b (n - 1) n) [ true ↦ omega (arith, more) | false ↦ omega (arith, more) ]

two_left : (x y z : InodeId) → 0 < cond (same_inode x z) (cond (same_inode x y) 2 3 - 1) (cond (same_inode x y) 2 3)
two_left x y z = one_left (cond (same_inode x y) 2 3) x z (elim (same_inode x y) as (λ b. 1 < cond b 2 3) [ true ↦ omega arith | false ↦ omega arith ])

-- the three changes, one after the other
module _ (seats : MoveSeats) (need : InodeId → ℕ) where
  abbrev pub all_three : Ahead
  all_three = prepared_for (ids_of seats) need

  abbrev pub last_two : Ahead
  last_two = changed_one seats.from.id all_three

  abbrev pub last_one : Ahead
  last_one = changed_one seats.to.id last_two

  pub first-ahead : (value : TableValue) (name : List ℕ) → IsAhead all_three value seats.from.id (changes.Remove name)
  first-ahead value name = record { one = (0, omega arith, refl); some = omega arith; small = tt }

  pub second-ahead : (value : TableValue) (name : List ℕ) (id : InodeId) → IsAhead last_two value seats.to.id (changes.Add name id)
  second-ahead value name id = record { one = (1, omega arith, refl); some = one_left 3 seats.to.id seats.from.id (omega arith); small = tt }

  pub third-ahead : (value : TableValue) (spot : Spot) → IsAhead last_one value seats.node.id (changes.Move spot)
  third-ahead value spot = record { one = (2, omega arith, refl); some = two_left seats.node.id seats.from.id seats.to.id; small = tt }

module _ (seats : MoveSeats) (need : InodeId → ℕ) (has : HasNeeds need seats) (tick : ℕ) (v0 : TableValue) (old : List ℕ) (room : HasRoomFor (prepared_for (ids_of seats) need) v0) where
  pub first-fits : ChangeFits v0 seats.from.id seats.from.need.0 tick (changes.Remove old)
  first-fits = seat-fits (all_three seats need) v0 seats.from tick (changes.Remove old) room (first-ahead seats need v0 old) has.from

  module _ (v1 : TableValue) (first : IsChanged v0 v1 seats.from.id seats.from.need.0 tick (changes.Remove old)) (new : List ℕ) (id : InodeId) where
    then_two : HasRoomFor (last_two seats need) v1
    then_two = seat-leaves (all_three seats need) v0 seats.from tick (changes.Remove old) room (first-ahead seats need v0 old) has.from v1 first

    pub second-fits : ChangeFits v1 seats.to.id seats.to.need.0 tick (changes.Add new id)
    second-fits = seat-fits (last_two seats need) v1 seats.to tick (changes.Add new id) then_two (second-ahead seats need v1 new id) has.to

    module _ (v2 : TableValue) (second : IsChanged v1 v2 seats.to.id seats.to.need.0 tick (changes.Add new id)) (spot : Spot) where
      then_one : HasRoomFor (last_one seats need) v2
      then_one = seat-leaves (last_two seats need) v1 seats.to tick (changes.Add new id) then_two (second-ahead seats need v1 new id) has.to v2 second

      pub third-fits : ChangeFits v2 seats.node.id seats.node.need.0 tick (changes.Move spot)
      third-fits = seat-fits (last_one seats need) v2 seats.node tick (changes.Move spot) then_one (third-ahead seats need v2 spot) has.node

-- a row of the plain table is there in memory
pub row-in-memory : (value : TableValue) (t : Tabled) (id : InodeId) (row : RowState) → told value ≡ t → row_at t.rows id ≡ Some row → IsSome (row_of value.rows id)
row-in-memory value t id row same there = by (row_of value.rows id) (sym (row-told value.rows id) ∙ ap (λ (x : Tabled). row_at x.rows id) same ∙ there)
  where
    by : (o : Option Row) → option_map state_of o ≡ Some row → IsSome o
    by None e = cc
    by (Some r) e = refl

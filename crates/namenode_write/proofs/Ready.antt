-- Room for the changes of one row.
use Rattle.std.proofs.Common.{◌≡◌, ℕ, ◌*◌, List, [], ◌∷◌, length, Ok, Err, refl, subst, arith}
use Rattle.std.specs.Prelude.{Result, OnOk}
use Rattle.std.specs.List.{Contains}
use Rattle.hs_types.specs.declared.ids.InodeId.{InodeId}
use Rattle.inode_table.specs.declared.change.Change.{Change}
use Rattle.inode_table.specs.Ahead.{HasRoomFor, prepared_for, AddsOneBlock, ChangeFits}
use Rattle.inode_table.specs.Kept.{TableValue, told, IsPrepared, all_ahead, IsRowReady}
use Rattle.inode_table.specs.Numbered.{row_of}
use Rattle.inode_table.specs.RowHistory.{rows_at}
use Rattle.inode_table.proofs.Ahead.{prepared-ahead, change-fits}

-- what follows where a call was answered Ok
pub both-ok : {T E : Type 0} {A B C : Type 0} (r : Result T E) → OnOk r A → OnOk r B → (A → B → C) → OnOk r C
both-ok (Ok x) a b f = f a b
both-ok (Err e) a b f = tt

-- one row was prepared: its first change fits
pub one-fits : (value : TableValue) (id : InodeId) (need tick : ℕ) (what : Change) → HasRoomFor (prepared_for (id ∷ []) (λ x. need)) value → AddsOneBlock what (rows_at (told value).rows id) → ChangeFits value id need tick what
one-fits value id need tick what room small = change-fits (prepared_for (id ∷ []) (λ x. need)) value id tick what room (record { one = (0, omega arith, refl); some = omega arith; small = small })

-- a row alone is prepared
pub prepared-one : (before after : TableValue) (id : InodeId) (need : ℕ) (ids : List InodeId) → ids ≡ id ∷ [] → told after ≡ told before → IsPrepared (3 * length ids) (all_ahead (told before).rows ids) after.room
    → ((x : InodeId) → Contains ids x → (number : ℕ) → IsRowReady 3 number (row_of after.rows x)) → HasRoomFor (prepared_for (id ∷ []) (λ x. need)) after
prepared-one before after id need ids one same is rows = subst (λ (l : List InodeId). HasRoomFor (prepared_for l (λ x. need)) after) one (prepared-ahead before after ids (λ x. need) same is rows)

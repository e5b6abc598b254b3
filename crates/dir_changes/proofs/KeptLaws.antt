-- What is made fits the records through their changes.
use Rattle.std.proofs.Common.{◌≡◌, ℕ, ◌+◌, ◌-◌, ◌<◌, ◌≤◌, List, [], ◌∷◌, Option, Some, None, refl, subst, arith}
use Rattle.std.specs.Option.{ForSome, option_map}
use Rattle.dir_changes.specs.declared.recorded.DirRecord.{DirRecord}
use Rattle.dir_changes.specs.declared.spare.FreshRecord.{FreshRecord}
use Rattle.dir_changes.specs.declared.spare.MergeRoom.{MergeRoom}
use Rattle.dir_changes.specs.Spare.{one_if, LastHasRoom, PairsFit, created_len, deleted_len, IsFresh, IsMergeRoom, HoldsIds, created_raised, deleted_raised}

pub last_weaker : (n m : ℕ) (rs : List DirRecord) → n ≤ m → LastHasRoom m rs → LastHasRoom n rs
last_weaker n m [] le room = tt
last_weaker n m (r ∷ []) le room = (omega (arith, room.0), omega (arith, room.1))
last_weaker n m (r ∷ s ∷ rs) le room = last_weaker n m (s ∷ rs) le room

pub one_at_most : {X : Type 0} (o : Option X) → one_if o ≤ 1
one_at_most None = omega arith
one_at_most (Some x) = omega arith

-- the place for the next record stays
pub fresh_kept : (len capacity len' capacity' : ℕ) (fresh : Option FreshRecord) → len' ≤ len → capacity ≤ capacity' → ForSome fresh (IsFresh len capacity) → ForSome fresh (IsFresh len' capacity')
fresh_kept len capacity len' capacity' fresh same more had x is =
    let was = had x is in
    record { created = was.created; deleted = was.deleted; created_room = was.created_room; deleted_room = was.deleted_room; place = omega (arith, was.place) }

-- so does the room to combine, where the measures still fit
pub room_kept : (rs qs : List DirRecord) (edits n m : ℕ) (room : MergeRoom)
    → ((most : ℕ) → PairsFit created_len most rs → PairsFit created_len most qs) → ((most : ℕ) → PairsFit deleted_len most rs → PairsFit deleted_len most qs)
    → m ≤ n → IsMergeRoom rs edits n room → IsMergeRoom qs edits m room
room_kept rs qs edits n m room created deleted le was = record {
  empty = was.empty;
  measured = record { most_created = created room.most_created was.measured.most_created; most_deleted = deleted room.most_deleted was.measured.most_deleted };
  ids = was.ids;
  pairs = λ two. was.pairs (omega arith);
}

pub merge_kept : (rs qs : List DirRecord) (edits n m : ℕ) (merge : Option MergeRoom)
    → ((most : ℕ) → PairsFit created_len most rs → PairsFit created_len most qs) → ((most : ℕ) → PairsFit deleted_len most rs → PairsFit deleted_len most qs)
    → m ≤ n → ForSome merge (IsMergeRoom rs edits n) → ForSome merge (IsMergeRoom qs edits m)
merge_kept rs qs edits n m merge created deleted le had x is = room_kept rs qs edits n m x created deleted le (had x is)

-- fewer records, or less of what is made
pub merge_fewer : (rs : List DirRecord) (edits n m : ℕ) (merge : Option MergeRoom) → m ≤ n → ForSome merge (IsMergeRoom rs edits n) → ForSome merge (IsMergeRoom rs edits m)
merge_fewer rs edits n m merge le had x is = room_kept rs rs edits n m x (λ _ fit. fit) (λ _ fit. fit) le (had x is)

module _ (rs qs : List DirRecord) (edits n : ℕ) (above : 0 < edits) where
  one_created : (room : MergeRoom)
      → ((most : ℕ) → PairsFit created_len most rs → PairsFit created_len (most + 1) qs) → ((most : ℕ) → PairsFit deleted_len most rs → PairsFit deleted_len most qs)
      → IsMergeRoom rs edits n room → IsMergeRoom qs (edits - 1) n (created_raised room)
  one_created room created deleted was = record {
    empty = record { created = was.empty.created; deleted = was.empty.deleted; found = was.empty.found; ids = was.empty.ids };
    measured = record { most_created = created room.most_created was.measured.most_created; most_deleted = deleted room.most_deleted was.measured.most_deleted };
    ids = record { ids_room = omega (arith, was.ids.ids_room); created_bound = omega (arith, was.ids.created_bound); deleted_bound = omega (arith, was.ids.deleted_bound) };
    pairs = λ two. let holds = was.pairs two in record {
      created_room = omega (arith, holds.created_room);
      deleted_room = omega (arith, holds.deleted_room);
      found_room = omega (arith, holds.found_room);
    };
  }

  one_deleted : (room : MergeRoom)
      → ((most : ℕ) → PairsFit created_len most rs → PairsFit created_len most qs) → ((most : ℕ) → PairsFit deleted_len most rs → PairsFit deleted_len (most + 1) qs)
      → IsMergeRoom rs edits n room → IsMergeRoom qs (edits - 1) n (deleted_raised room)
  one_deleted room created deleted was = record {
    empty = record { created = was.empty.created; deleted = was.empty.deleted; found = was.empty.found; ids = was.empty.ids };
    measured = record { most_created = created room.most_created was.measured.most_created; most_deleted = deleted room.most_deleted was.measured.most_deleted };
    ids = record { ids_room = omega (arith, was.ids.ids_room); created_bound = omega (arith, was.ids.created_bound); deleted_bound = omega (arith, was.ids.deleted_bound) };
    pairs = λ two. let holds = was.pairs two in record {
      created_room = omega (arith, holds.created_room);
      deleted_room = omega (arith, holds.deleted_room);
      found_room = omega (arith, holds.found_room);
    };
  }

  same_some : {x y : MergeRoom} → Some x ≡ Some y → x ≡ y
  same_some h = cc

  none_some : {x : MergeRoom} → None ≡ Some x → ⊥
  none_some h = cc

  -- one created entry more, and one edit less
  pub merge_created : (merge : Option MergeRoom)
      → ((most : ℕ) → PairsFit created_len most rs → PairsFit created_len (most + 1) qs) → ((most : ℕ) → PairsFit deleted_len most rs → PairsFit deleted_len most qs)
      → ForSome merge (IsMergeRoom rs edits n) → ForSome (option_map created_raised merge) (IsMergeRoom qs (edits - 1) n)
  merge_created None created deleted had x is = absurd (none_some is)
  merge_created (Some room) created deleted had x is = subst (IsMergeRoom qs (edits - 1) n) (same_some is) (one_created room created deleted (had room refl))

  -- one deleted entry more, and one edit less
  pub merge_deleted : (merge : Option MergeRoom)
      → ((most : ℕ) → PairsFit created_len most rs → PairsFit created_len most qs) → ((most : ℕ) → PairsFit deleted_len most rs → PairsFit deleted_len (most + 1) qs)
      → ForSome merge (IsMergeRoom rs edits n) → ForSome (option_map deleted_raised merge) (IsMergeRoom qs (edits - 1) n)
  merge_deleted None created deleted had x is = absurd (none_some is)
  merge_deleted (Some room) created deleted had x is = subst (IsMergeRoom qs (edits - 1) n) (same_some is) (one_deleted room created deleted (had room refl))

-- the measure can be raised while there is room for an edit
pub can_raise : (rs : List DirRecord) (edits n : ℕ) (merge : Option MergeRoom) → 0 < edits → ForSome merge (IsMergeRoom rs edits n) → ForSome merge (HoldsIds 1)
can_raise rs edits n merge above had x is =
    let ids = (had x is).ids in
    record { ids_room = omega (arith, ids.ids_room); created_bound = omega (arith, ids.created_bound); deleted_bound = omega (arith, ids.deleted_bound) }

-- A store that would tell: it has what a table's states name and what waits, in full blocks.
use Rattle.std.proofs.Common.{◌≡◌, ℕ, ◌-◌, min, true, false, cond, List, [], ◌∷◌, ◌++◌, map, length, replicate, Option, Some, None, is_some, refl, sym, ap, subst, ◌∙◌, inl, inr, ⊎_elim, arith}
use Rattle.std.specs.List.{Contains, flat_map}
use Rattle.std.specs.Option.{option_map}
use Rattle.std.specs.Ordering.{eq_by_cmp, is_eq}
use Rattle.std.specs.declared.cmp.Ordering.{Ordering}
use Rattle.std.specs.declared.cmp.Ordering.TheVariants.{Less, Equal, Greater}
use Rattle.std.specs.FinMap.{nat_cmp-IsAntisymmetric}
use Rattle.std.proofs.lemmas.List.{length-replicate}
use Rattle.std.proofs.lemmas.List.Elements.{Contains-append_left, Contains-append_right, Contains-append_cases}
use Rattle.hs_types.specs.Blocks.{BlockMap, Holds, HoldsFile, find}
use Rattle.hs_types.specs.Limits.{block_size}
use Rattle.hs_types.specs.declared.ids.BlockId.{BlockId}
use Rattle.hs_types.specs.declared.ids.InodeId.{InodeId}
use Rattle.hs_plain.proofs.ValidShapes.{none_some, true_false}
use Rattle.inode_table.specs.Blocked.{AreBlocks, IsNeeded, NamesBlock, states_of}
use Rattle.inode_table.specs.RowHistory.{File, Dir, RowHistory, RowState, Table, id_order, row_at, rows_at}
use Rattle.table_laws.proofs.BlockLists.{by-block, in-either, in-here, in-later, in-none, same-block}

-- ---- lists of lists

module _ {X : Type 0} (f : X → List BlockId) where
  flat_in : (xs : List X) (block : BlockId) → Contains (flat_map f xs) block → (x : X) × Contains xs x × Contains (f x) block
  flat_in [] block c = absurd (in-none block c)
  flat_in (x ∷ xs) block c = ⊎_elim
      (λ here. (x, in-here xs x x refl, here))
      (λ later. let rest = flat_in xs block later in (rest.0, in-later xs x rest.0 rest.1, rest.2))
      (Contains-append_cases (f x) (flat_map f xs) block c)

  in_flat : (xs : List X) (x : X) (block : BlockId) → Contains xs x → Contains (f x) block → Contains (flat_map f xs) block
  in_flat [] x block c k = absurd (in-none x c)
  in_flat (y ∷ ys) x block c k = ⊎_elim
      (λ here. Contains-append_left (f y) (flat_map f ys) block (subst (λ z. Contains (f z) block) here k))
      (λ later. Contains-append_right (f y) (flat_map f ys) block (in_flat ys x block later k))
      (in-either ys y x c)

-- ---- what is named

abbrev named_by : Option RowHistory → List BlockId
named_by None = []
named_by (Some (File file)) = flat_map (λ s. s.blocks) (states_of file)
named_by (Some (Dir dir)) = []

abbrev named_in : Table → List BlockId
named_in table = flat_map (λ e. named_by (rows_at table e.0)) table

is_equal : (r : Ordering) → is_eq r ≡ true → r ≡ Equal
is_equal Less h = cc
is_equal Equal h = refl
is_equal Greater h = cc

-- who is found stands there
key_there : (table : Table) (id : InodeId) (row : RowState) → row_at table id ≡ Some row → (e : InodeId × RowState) × Contains table e × (e.0 ≡ id)
key_there [] id row found = absurd (none_some found)
key_there (e ∷ es) id row found = by (eq_by_cmp id_order id e.0) refl found (key_there es id row)
  where
    by : (b : _) → eq_by_cmp id_order id e.0 ≡ b → cond b (Some e.1) (row_at es id) ≡ Some row → (row_at es id ≡ Some row → (x : InodeId × RowState) × Contains es x × (x.0 ≡ id)) → (x : InodeId × RowState) × Contains (e ∷ es) x × (x.0 ≡ id)
    by true tie is rest = (e, in-here es e e refl, ap (λ (n : ℕ). record { 0 = n }) (sym (nat_cmp-IsAntisymmetric id.0 e.0.0 (is_equal _ tie))))
    by false tie is rest = let later = rest is in (later.0, in-later es e later.0 later.1, later.2)

in_named : (table : Table) (id : InodeId) (block : BlockId) → NamesBlock table id block → Contains (named_in table) block
in_named table id block n = at (row_at table id) refl
  where
    own : Contains (named_by (rows_at table id)) block
    own = subst (λ (o : Option RowHistory). Contains (named_by o) block) (sym n.has.row) (in_flat (λ s. s.blocks) (states_of n.has.file) n.state block n.has.is n.named)

    at : (o : Option RowState) → row_at table id ≡ o → Contains (named_in table) block
    at None none = absurd (none_some (sym (ap (λ (o : Option RowState). option_map (λ (r : RowState). r.rows) o) none) ∙ n.has.row))
    at (Some row) some = let e = key_there table id row some in in_flat (λ e. named_by (rows_at table e.0)) table e.0 block e.1 (subst (λ (x : InodeId). Contains (named_by (rows_at table x)) block) (sym e.2) own)

named_so : (table : Table) (id : InodeId) (o : Option RowHistory) (block : BlockId) → rows_at table id ≡ o → Contains (named_by o) block → NamesBlock table id block
named_so table id None block row c = absurd (in-none block c)
named_so table id (Some (File file)) block row c = let s = flat_in (λ s. s.blocks) (states_of file) block c in record { state = s.0; has = record { file = file; row = row; is = s.1 }; named = s.2 }
named_so table id (Some (Dir dir)) block row c = absurd (in-none block c)

named_is : (table : Table) (block : BlockId) → Contains (named_in table) block → (id : InodeId) × NamesBlock table id block
named_is table block c = let e = flat_in (λ e. named_by (rows_at table e.0)) table block c in (e.0.0, named_so table e.0.0 (rows_at table e.0.0) block refl e.2)

-- ---- the store

module _ (full : List ℕ) (whole : length full ≡ block_size) where
  abbrev store_of : List BlockId → BlockMap
  store_of blocks = map (λ b. (b, full)) blocks

  found : (blocks : List BlockId) (block : BlockId) → Contains blocks block → find (store_of blocks) block ≡ Some full
  found [] block c = absurd (in-none block c)
  found (b ∷ blocks) block c = by-block block b
      (λ same. ap (λ t. cond t (Some full) (find (store_of blocks) block)) (same-block block b same))
      (λ apart. ap (λ t. cond t (Some full) (find (store_of blocks) block)) apart ∙ found blocks block (⊎_elim (λ same. absurd (true_false (same-block block b same) apart)) (λ later. later) (in-either blocks b block c)))

  there : (blocks : List BlockId) (block : BlockId) → is_some (find (store_of blocks) block) ≡ true → Contains blocks block
  there [] block h = absurd (true_false h refl)
  there (b ∷ blocks) block h = by-block block b
      (λ same. in-here blocks b block same)
      (λ apart. in-later blocks b block (there blocks block (sym (ap (λ t. is_some (cond t (Some full) (find (store_of blocks) block))) apart) ∙ h)))

  holds : (all : List BlockId) (size : ℕ) (blocks : List BlockId) → ((block : BlockId) → Contains blocks block → Contains all block) → HoldsFile (store_of all) size blocks
  holds all size [] within = tt
  holds all size (b ∷ blocks) within = (subst (λ (o : Option (List ℕ)). Holds o (min size block_size)) (sym (found all b (within b (in-here blocks b b refl)))) (omega (arith, whole), omega (arith, whole)), holds all (size - block_size) blocks (λ block c. within block (in-later blocks b block c)))

  abbrev needed : Table → List BlockId → List BlockId
  needed table waiting = waiting ++ named_in table

  telling : (table : Table) (made : ℕ) (waiting : List BlockId) → AreBlocks table None made waiting → AreBlocks table (Some (store_of (needed table waiting))) made waiting
  telling table made waiting are = record {
    files = are.files;
    held = λ id state has. holds (needed table waiting) state.size state.blocks (λ block c. Contains-append_right waiting (named_in table) block (in_named table id block (record { state = state; has = has; named = c })));
    apart = are.apart;
    no_more = are.no_more;
    once = are.once;
    let_go = are.let_go;
    stored = λ block. (to block, from block);
    numbers = are.numbers;
  }
    where
      to : (block : BlockId) → is_some (find (store_of (needed table waiting)) block) ≡ true → IsNeeded table waiting block
      to block h = ⊎_elim inl (λ c. inr (named_is table block c)) (Contains-append_cases waiting (named_in table) block (there (needed table waiting) block h))

      from : (block : BlockId) → IsNeeded table waiting block → is_some (find (store_of (needed table waiting)) block) ≡ true
      from block need = ap is_some (found (needed table waiting) block (⊎_elim (λ w. Contains-append_left waiting (named_in table) block w) (λ n. Contains-append_right waiting (named_in table) block (in_named table n.0 block n.1)) need))

-- where a store doesn't tell, there is one that would
pub would-tell : (table : Table) (made : ℕ) (waiting : List BlockId) → AreBlocks table None made waiting → (store : BlockMap) × AreBlocks table (Some store) made waiting
would-tell table made waiting are =
    let full : List ℕ = replicate block_size 0 in
    let whole : length full ≡ block_size = length-replicate {A = ℕ} block_size 0 in
    (store_of full whole (needed full whole table waiting), telling full whole table made waiting are)

-- Bytes at the front of blocks.
use Rattle.std.proofs.Common.{◌≡◌, ℕ, ◌+◌, ◌-◌, ◌<◌, ◌≤◌, true, false, List, [], ◌∷◌, ◌++◌, Option, Some, None, refl, sym, ap, ◌∙◌, append-nil, length, take, arith}
use Rattle.std.specs.Prelude.{min, nat_le}
use Rattle.std.specs.Option.{unwrap_or}
use Rattle.std.proofs.lemmas.List.{take_all, take-append-le}
use Rattle.std.proofs.lemmas.Bool.Decides.{nat_tests}
use Rattle.std.proofs.Math.Seq.{take-append-add}
use Rattle.hs_types.specs.declared.ids.BlockId.{BlockId}
use Rattle.hs_types.specs.Limits.{block_size}
use Rattle.hs_types.specs.Blocks.{BlockMap, Holds, HoldsFile, find, bytes_of, joined, file_bytes}
use Rattle.inode_table.specs.FrozenBytes.{KeepsFronts}

least : (o : Option (List ℕ)) (n : ℕ) → Holds o n → n ≤ length (unwrap_or o [])
least None n h = absurd h
least (Some bytes) n h = h.0

most : (o : Option (List ℕ)) (n : ℕ) → Holds o n → length (unwrap_or o []) ≤ block_size
most None n h = absurd h
most (Some bytes) n h = h.1

-- what a file has in its first block, and in the others
split : (map : BlockMap) (size : ℕ) (block : BlockId) (blocks : List BlockId) → HoldsFile map size (block ∷ blocks) → file_bytes map size (block ∷ blocks) ≡ take (min size block_size) (bytes_of map block) ++ file_bytes map (size - block_size) blocks
split map size block blocks h = elim (nat_le size block_size) as (λ b. nat_le size block_size ≡ b → file_bytes map size (block ∷ blocks) ≡ take (min size block_size) (bytes_of map block) ++ file_bytes map (size - block_size) blocks) [
  | true ↦ λ t.
      let le : size ≤ block_size = grind (arith, nat_tests) in
      let is : min size block_size ≡ size = omega arith in
      let none : size - block_size ≡ 0 = omega arith in
      let fits : size ≤ length (bytes_of map block) = (let l = least (find map block) (min size block_size) h.0 in omega arith) in
      take-append-le size (bytes_of map block) (joined map blocks) fits
      ∙ sym (ap (λ n. take n (bytes_of map block) ++ file_bytes map (size - block_size) blocks) is ∙ ap (λ n. take size (bytes_of map block) ++ file_bytes map n blocks) none ∙ append-nil (take size (bytes_of map block)))
  | false ↦ λ t.
      let more : block_size < size = grind (arith, nat_tests) in
      let is : min size block_size ≡ block_size = omega arith in
      let full : length (bytes_of map block) ≡ block_size = (let l = least (find map block) (min size block_size) h.0 in let m = most (find map block) (min size block_size) h.0 in omega arith) in
      ap (λ n. take n (bytes_of map block ++ joined map blocks)) {x = size} {y = length (bytes_of map block) + (size - block_size)} (omega arith)
      ∙ take-append-add (bytes_of map block) (joined map blocks) (size - block_size)
      ∙ sym (ap (λ xs. xs ++ file_bytes map (size - block_size) blocks) (take_all (min size block_size) (bytes_of map block) (omega arith)))
] refl

pub frozen-bytes : (before now : BlockMap) (size : ℕ) (blocks : List BlockId) → HoldsFile before size blocks → HoldsFile now size blocks → KeepsFronts before now size blocks → file_bytes now size blocks ≡ file_bytes before size blocks
frozen-bytes before now size [] b n keeps = refl
frozen-bytes before now size (block ∷ blocks) b n keeps =
    split now size block blocks n
    ∙ ap (λ xs. xs ++ file_bytes now (size - block_size) blocks) keeps.0
    ∙ ap (λ xs. take (min size block_size) (bytes_of before block) ++ xs) (frozen-bytes before now (size - block_size) blocks b.1 n.1 keeps.1)
    ∙ sym (split before size block blocks b)

-- A file's bytes, read from one block or from two.
use Rattle.std.proofs.Common.{◌≡◌, ℕ, ◌+◌, ◌-◌, ◌*◌, ◌<◌, ◌≤◌, zero, suc, min, List, [], ◌∷◌, ◌++◌, length, take, drop, get_or, Option, None, Some, inl, inr, refl, ap, sym, subst, ◌∙◌, append-nil, arith, length-append, length-take, length-drop}
use borrow.Rule.Slice.PartMut.{put_mid}
use Rattle.std.proofs.Math.Seq.{drop-append-add, take-add, take-length}
use Rattle.std.proofs.lemmas.Slice.{put_mid-paste}
use Rattle.std.proofs.lemmas.Bool.{cases_lt}
use Rattle.std.proofs.lemmas.List.{take_all, drop_all, take_at, take-take, take-append-le, drop-append-le, drop-take, drop-drop}
use Rattle.hs_types.specs.Blocks.{BlockMap, find, bytes_of, joined, Holds, HoldsFile}
use Rattle.hs_types.specs.Limits.{block_size}
use Rattle.hs_types.specs.declared.ids.BlockId.{BlockId}
use Rattle.block_store.specs.Changes.{Reaches}
use Rattle.block_contents.proofs.Whole.{holds_least, holds_most}

-- a part of a file that lies in one block
pub record LiesIn (blocks : List BlockId) (d : BlockId) (size at within count : ℕ) : Type 0 where
  pub there : at < length blocks
  pub short : within + count ≤ block_size
  pub end : at * block_size + within + count ≤ size

pub block_holds : (blocks : List BlockId) (d : BlockId) (size at : ℕ) (map : BlockMap) → at < length blocks → HoldsFile map size blocks → Holds (find map (get_or blocks at d)) (min (size - at * block_size) block_size)
block_holds [] d size at map there held = absurd (omega arith)
block_holds (first ∷ more) d size zero map there held =
    let same : min size block_size ≡ min (size - zero * block_size) block_size = omega arith in
    subst (Holds (find map first)) same held.0
block_holds (first ∷ more) d size (suc at) map there held =
    let same : min (size - block_size - at * block_size) block_size ≡ min (size - suc at * block_size) block_size = omega arith in
    subst (Holds (find map (get_or more at d))) same (block_holds more d (size - block_size) at map (omega arith) held.1)

reaches : (found : Option (List ℕ)) (count place : ℕ) → place ≤ count → Holds found count → Reaches found place
reaches None count place within held = held
reaches (Some bytes) count place within held = omega (arith, held.0)

pub block_reaches : (blocks : List BlockId) (d : BlockId) (size at within count : ℕ) (map : BlockMap) → LiesIn blocks d size at within count → HoldsFile map size blocks → Reaches (find map (get_or blocks at d)) (within + count)
block_reaches blocks d size at within count map lies held = reaches (find map (get_or blocks at d)) (min (size - at * block_size) block_size) (within + count) (omega (arith, lies.end, lies.short)) (block_holds blocks d size at map lies.there held)

pub block_bytes : (blocks : List BlockId) (d : BlockId) (size at within count : ℕ) (map : BlockMap) → LiesIn blocks d size at within count → HoldsFile map size blocks
    → take count (drop within (bytes_of map (get_or blocks at d))) ≡ take count (drop (at * block_size + within) (joined map blocks))
block_bytes [] d size at within count map lies held = absurd (omega (arith, lies.there))
block_bytes (first ∷ more) d size zero within count map lies held =
    let least = holds_least (find map first) (min size block_size) held.0 in
    let long : within + count ≤ length (bytes_of map first) = omega (arith, lies.end, lies.short) in
    let same : within ≡ zero * block_size + within = omega arith in
    sym (take-append-le count (drop within (bytes_of map first)) (joined map more) (omega (arith, length-drop within (bytes_of map first))))
    ∙ ap (take count) (sym (drop-append-le within (bytes_of map first) (joined map more) (omega arith)))
    ∙ ap (λ n. take count (drop n (bytes_of map first ++ joined map more))) same
block_bytes (first ∷ more) d size (suc at) within count map lies held =
    let least = holds_least (find map first) (min size block_size) held.0 in
    let most = holds_most (find map first) (min size block_size) held.0 in
    let full : length (bytes_of map first) ≡ block_size = omega (arith, lies.end) in
    let same : length (bytes_of map first) + (at * block_size + within) ≡ suc at * block_size + within = omega arith in
    let rest : LiesIn more d (size - block_size) at within count = record { there = omega (arith, lies.there); short = lies.short; end = omega (arith, lies.end) } in
    block_bytes more d (size - block_size) at within count map rest held.1
    ∙ ap (take count) (sym (drop-append-add (bytes_of map first) (joined map more) (at * block_size + within)))
    ∙ ap (λ n. take count (drop n (bytes_of map first ++ joined map more))) same

-- a part that ends within the file
pub part_of_file : (size offset count : ℕ) (bytes : List ℕ) → offset + count ≤ size → take count (drop offset (take size bytes)) ≡ take count (drop offset bytes)
part_of_file size offset count bytes within =
    let e : size ≡ offset + (size - offset) = omega arith in
    ap (λ n. take count (drop offset (take n bytes))) e ∙ ap (take count) (drop-take offset (size - offset) bytes) ∙ take-take count (size - offset) (drop offset bytes) (omega arith)

-- a part in two pieces
pub two_parts : (offset here rest : ℕ) (bytes : List ℕ) → take here (drop offset bytes) ++ take rest (drop (offset + here) bytes) ≡ take (here + rest) (drop offset bytes)
two_parts offset here rest bytes = sym (take-add here rest (drop offset bytes) ∙ ap (λ l. take here (drop offset bytes) ++ take rest l) (drop-drop here offset bytes))

-- what is asked for past the end isn't there
pub up_to_end : (size offset len : ℕ) (bytes : List ℕ) → take (min (size - offset) len) (drop offset (take size bytes)) ≡ take len (drop offset (take size bytes))
up_to_end size offset len bytes = elim (cases_lt len (size - offset)) [
  | inl fits ↦ ap (λ n. take n (drop offset (take size bytes))) (omega arith)
  | inr past ↦
      let long : length (drop offset (take size bytes)) ≤ size - offset = omega (arith, length-drop offset (take size bytes), length-take size bytes) in
      take_all (min (size - offset) len) (drop offset (take size bytes)) (omega arith) ∙ sym (take_all len (drop offset (take size bytes)) (omega arith))
]

-- a slice whose two parts were written in turn
pub parts_put : (here k : ℕ) (first rest xs old : List ℕ) → xs ≡ first ++ drop here old → length first ≡ here → here ≤ length old → k ≡ length old - here → length rest ≡ k → put_mid here k xs rest ≡ first ++ rest
parts_put here k first rest xs old xs_is long within k_is count =
    let all : length xs ≡ length old = omega (arith, ap length xs_is, length-append first (drop here old), length-drop here old) in
    put_mid-paste here k xs rest rest (length rest) refl count refl
    ∙ simp (take-length, drop_all (here + length rest) xs (omega arith), append-nil)
    (ap (λ l. take here l ++ rest) xs_is ∙ ap (λ l. l ++ rest) (take_at first (drop here old) here long))

pub two_pieces : (out first rest bytes : List ℕ) (here left from next len offset size : ℕ) → out ≡ first ++ rest → first ≡ take here (drop from bytes) → rest ≡ take left (drop next bytes)
    → from ≡ offset → next ≡ offset + here → here + left ≡ len → offset + len ≤ size → out ≡ take len (drop offset (take size bytes))
two_pieces out first rest bytes here left from next len offset size out_is first_is rest_is from_is next_is len_is within =
    out_is ∙ ap (λ l. l ++ rest) (first_is ∙ ap (λ n. take here (drop n bytes)) from_is) ∙ ap (λ l. take here (drop offset bytes) ++ l) (rest_is ∙ ap (λ n. take left (drop n bytes)) next_is)
    ∙ two_parts offset here left bytes ∙ ap (λ n. take n (drop offset bytes)) len_is ∙ sym (part_of_file size offset len bytes within)

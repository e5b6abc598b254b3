-- Files of which all blocks but the last are full.
use Rattle.std.proofs.Common.{◌≡◌, ℕ, ◌+◌, ◌-◌, ◌*◌, ◌<◌, ◌≤◌, min, true, false, List, [], ◌∷◌, ◌++◌, length, take, get_or, Option, None, Some, IsSome, refl, ap, sym, subst, ◌∙◌, append-nil, append_assoc, arith}
use Rattle.std.specs.Option.{unwrap_or}
use Rattle.std.specs.List.{AllByRecursion, IsDistinct}
use Rattle.std.proofs.lemmas.Bool.Decides.{nat_tests}
use Rattle.std.proofs.lemmas.Map.Keys.{IsDistinct-head, IsDistinct-tail}
use Rattle.std.proofs.Math.Seq.{take-append-add}
use Rattle.hs_types.specs.Blocks.{BlockMap, find, bytes_of, joined, file_bytes, Holds, HoldsFile, same_block}
use Rattle.hs_types.specs.Limits.{block_size}
use Rattle.hs_types.specs.declared.ids.BlockId.{BlockId}
use Rattle.block_contents.specs.Contents.{is_last, KeepsAll}

-- the last block of a list that begins with this one
abbrev pub last_of : BlockId → List BlockId → BlockId
last_of first [] = first
last_of first (next ∷ more) = last_of next more

pub is_last_of : (first : BlockId) (more : List BlockId) (block : BlockId) → is_last (first ∷ more) block ≡ same_block (last_of first more) block
is_last_of first [] block = refl
is_last_of first (next ∷ more) block = is_last_of next more block

pub last_at : (first : BlockId) (more : List BlockId) (d : BlockId) → get_or (first ∷ more) (length more) d ≡ last_of first more
last_at first [] d = refl
last_at first (next ∷ more) d = last_at next more d

all_last : (P : BlockId → Type 0) (first : BlockId) (more : List BlockId) → AllByRecursion P (first ∷ more) → P (last_of first more)
all_last P first [] all = all.0
all_last P first (next ∷ more) all = all_last P next more all.1

same_flip : (a b : BlockId) → same_block a b ≡ same_block b a
same_flip a b = grind (arith, nat_tests)

pub same_self : (a : BlockId) → same_block a a ≡ true
same_self a = grind (arith, nat_tests)

pub same_number : (a b : BlockId) → same_block a b ≡ true → a.0 ≡ b.0
same_number a b same = grind (arith, nat_tests)

pub same_is : (a b : BlockId) → same_block a b ≡ true → a ≡ b
same_is a b same = ap (λ (n : ℕ). let block : BlockId = record { 0 = n } in block) (same_number a b same)

apart_last : (first next : BlockId) (more : List BlockId) → IsDistinct same_block (first ∷ next ∷ more) → same_block (last_of next more) first ≡ false
apart_last first next more apart =
    same_flip (last_of next more) first ∙ all_last (λ block. same_block first block ≡ false) next more (IsDistinct-head same_block first (next ∷ more) apart)

pub holds_least : (found : Option (List ℕ)) (count : ℕ) → Holds found count → count ≤ length (unwrap_or found [])
holds_least None count held = absurd held
holds_least (Some bytes) count held = held.0

pub holds_most : (found : Option (List ℕ)) (count : ℕ) → Holds found count → length (unwrap_or found []) ≤ block_size
holds_most None count held = absurd held
holds_most (Some bytes) count held = held.1

pub holds_some : (found : Option (List ℕ)) (count : ℕ) → Holds found count → IsSome found
holds_some None count held = absurd held
holds_some (Some bytes) count held = refl

pub take_past : (n : ℕ) (xs ys : List ℕ) → length xs ≤ n → take n (xs ++ ys) ≡ xs ++ take (n - length xs) ys
take_past n xs ys within =
    let e : n ≡ length xs + (n - length xs) = omega arith in
    ap (λ k. take k (xs ++ ys)) e ∙ take-append-add xs ys (n - length xs)

-- a full block at the front
take_full : (n : ℕ) (xs ys : List ℕ) → length xs ≡ block_size → block_size ≤ n → take n (xs ++ ys) ≡ xs ++ take (n - block_size) ys
take_full n xs ys full within = take_past n xs ys (omega arith) ∙ ap (λ k. xs ++ take (n - k) ys) full

-- a file up to a place in its last block, after a change of that block alone
pub record UpTo (first : BlockId) (more : List BlockId) (front to : ℕ) (before now : BlockMap) : Type 0 where
  pub holds : HoldsFile now to (first ∷ more)
  pub contents : file_bytes now to (first ∷ more) ≡ take front (joined before (first ∷ more)) ++ take (to - front) (bytes_of now (last_of first more))

pub up_to : (first : BlockId) (more : List BlockId) (front size to : ℕ) (before now : BlockMap) → IsDistinct same_block (first ∷ more)
    → front ≡ length more * block_size → front < size → front < to → to ≤ front + block_size → HoldsFile before size (first ∷ more)
    → ((block : BlockId) → same_block (last_of first more) block ≡ false → find now block ≡ find before block)
    → Holds (find now (last_of first more)) (to - front) → UpTo first more front to before now
up_to first [] front size to before now apart front_is below low high held others last =
    let none : front ≡ 0 = omega arith in
    let count : to - front ≡ min to block_size = omega arith in
    let whole : to - front ≡ to = omega arith in
    record {
      holds = (subst (Holds (find now first)) count last, tt);
      contents = ap (take to) (append-nil (bytes_of now first)) ∙ ap (λ n. take n (bytes_of now first)) (sym whole) ∙ ap (λ n. take n (joined before (first ∷ [])) ++ take (to - front) (bytes_of now first)) (sym none);
    }
up_to first (next ∷ more) front size to before now apart front_is below low high held others last =
    let step : front - block_size ≡ length more * block_size = omega arith in
    let same : find now first ≡ find before first = others first (apart_last first next more apart) in
    let left : to - front ≡ (to - block_size) - (front - block_size) = omega arith in
    let full : min size block_size ≡ block_size = omega arith in
    let also : min to block_size ≡ block_size = omega arith in
    let there : Holds (find before first) block_size = subst (Holds (find before first)) full held.0 in
    let here : Holds (find now first) block_size = subst (λ found. Holds found block_size) (sym same) there in
    let least = holds_least (find before first) block_size there in
    let most = holds_most (find before first) block_size there in
    let long : length (bytes_of before first) ≡ block_size = omega arith in
    let ih = up_to next more (front - block_size) (size - block_size) (to - block_size) before now (IsDistinct-tail same_block first (next ∷ more) apart)
    step (omega arith) (omega arith) (omega arith) held.1 others (subst (Holds (find now (last_of next more))) left last) in
    record {
      holds = (subst (Holds (find now first)) (sym also) here, ih.holds);
      contents =
          ap (λ (found : Option (List ℕ)). take to (unwrap_or found [] ++ joined now (next ∷ more))) same
          ∙ take_full to (bytes_of before first) (joined now (next ∷ more)) long (omega arith)
          ∙ ap (λ l. bytes_of before first ++ l) ih.contents
          ∙ ap (λ n. bytes_of before first ++ (take (front - block_size) (joined before (next ∷ more)) ++ take n (bytes_of now (last_of next more)))) (sym left)
          ∙ sym (append_assoc (bytes_of before first) (take (front - block_size) (joined before (next ∷ more))) (take (to - front) (bytes_of now (last_of next more))))
          ∙ ap (λ l. l ++ take (to - front) (bytes_of now (last_of next more))) (sym (take_full front (bytes_of before first) (joined before (next ∷ more)) long (omega arith)));
    }

-- blocks that stay hold the same file
pub stays_held : (blocks : List BlockId) (size : ℕ) (before now : BlockMap) → HoldsFile before size blocks → KeepsAll before now → HoldsFile now size blocks
stays_held [] size before now held kept = tt
stays_held (first ∷ more) size before now held kept =
    (subst (λ found. Holds found (min size block_size)) (sym (kept first (holds_some (find before first) (min size block_size) held.0))) held.0, stays_held more (size - block_size) before now held.1 kept)

pub stays_joined : (blocks : List BlockId) (size : ℕ) (before now : BlockMap) → HoldsFile before size blocks → KeepsAll before now → joined now blocks ≡ joined before blocks
stays_joined [] size before now held kept = refl
stays_joined (first ∷ more) size before now held kept =
    ap (λ (found : Option (List ℕ)). unwrap_or found [] ++ joined now more) (kept first (holds_some (find before first) (min size block_size) held.0))
    ∙ ap (λ l. bytes_of before first ++ l) (stays_joined more (size - block_size) before now held.1 kept)

-- a new block behind full ones
pub held_behind : (blocks : List BlockId) (block : BlockId) (size : ℕ) (bytes : List ℕ) (before now : BlockMap) → size ≡ length blocks * block_size → HoldsFile before size blocks → KeepsAll before now
    → find now block ≡ Some bytes → length bytes ≤ block_size → HoldsFile now (size + length bytes) (blocks ++ block ∷ [])
held_behind [] block size bytes before now size_is held kept found short =
    let count : length bytes ≡ min (size + length bytes) block_size = omega arith in
    let has : Holds (Some bytes) (length bytes) = (omega arith, short) in
    (subst (Holds (find now block)) count (subst (λ o. Holds o (length bytes)) (sym found) has), tt)
held_behind (first ∷ more) block size bytes before now size_is held kept found short =
    let same : find now first ≡ find before first = kept first (holds_some (find before first) (min size block_size) held.0) in
    let count : min size block_size ≡ min (size + length bytes) block_size = omega arith in
    let rest : (size - block_size) + length bytes ≡ size + length bytes - block_size = omega arith in
    let ih = held_behind more block (size - block_size) bytes before now (omega arith) held.1 kept found short in
    (subst (Holds (find now first)) count (subst (λ o. Holds o (min size block_size)) (sym same) held.0), subst (λ n. HoldsFile now n (more ++ block ∷ [])) rest ih)

pub bytes_behind : (blocks : List BlockId) (block : BlockId) (size : ℕ) (bytes : List ℕ) (before now : BlockMap) → size ≡ length blocks * block_size → HoldsFile before size blocks → KeepsAll before now
    → find now block ≡ Some bytes → file_bytes now (size + length bytes) (blocks ++ block ∷ []) ≡ file_bytes before size blocks ++ bytes
bytes_behind [] block size bytes before now size_is held kept found =
    let none : size ≡ 0 = omega arith in
    let all : length bytes + 0 ≡ size + length bytes = omega arith in
    ap (λ (o : Option (List ℕ)). take (size + length bytes) (unwrap_or o [] ++ [])) found
    ∙ ap (λ n. take n (bytes ++ [])) (sym all) ∙ take-append-add bytes [] 0 ∙ append-nil bytes ∙ ap (λ n. take n [] ++ bytes) (sym none)
bytes_behind (first ∷ more) block size bytes before now size_is held kept found =
    let same : find now first ≡ find before first = kept first (holds_some (find before first) (min size block_size) held.0) in
    let full : min size block_size ≡ block_size = omega arith in
    let there : Holds (find before first) block_size = subst (Holds (find before first)) full held.0 in
    let least = holds_least (find before first) block_size there in
    let most = holds_most (find before first) block_size there in
    let long : length (bytes_of before first) ≡ block_size = omega arith in
    let rest : size + length bytes - block_size ≡ (size - block_size) + length bytes = omega arith in
    ap (λ (o : Option (List ℕ)). take (size + length bytes) (unwrap_or o [] ++ joined now (more ++ block ∷ []))) same
    ∙ take_full (size + length bytes) (bytes_of before first) (joined now (more ++ block ∷ [])) long (omega arith)
    ∙ ap (λ n. bytes_of before first ++ take n (joined now (more ++ block ∷ []))) rest
    ∙ ap (λ l. bytes_of before first ++ l) (bytes_behind more block (size - block_size) bytes before now (omega arith) held.1 kept found)
    ∙ sym (append_assoc (bytes_of before first) (take (size - block_size) (joined before more)) bytes)
    ∙ ap (λ l. l ++ bytes) (sym (take_full size (bytes_of before first) (joined before more) long (omega arith)))

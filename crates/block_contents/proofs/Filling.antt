-- The last block of a file is written.
use Rattle.std.proofs.Common.{◌≡◌, ℕ, ◌+◌, ◌-◌, ◌*◌, ◌%◌, ◌<◌, ◌≤◌, min, true, false, if◌then◌else◌, List, [], ◌∷◌, ◌++◌, length, take, drop, get_or, Option, None, Some, IsSome, refl, ap, sym, subst, ◌∙◌, append_assoc, arith, length-append, length-drop}
use Rattle.std.specs.Option.{unwrap_or}
use Rattle.std.proofs.Math.Seq.{take-append-add, take-append_seam}
use Rattle.std.proofs.lemmas.List.{length-take-le}
use Rattle.hs_types.specs.Blocks.{BlockMap, IsFile, find, bytes_of, joined, Holds, HoldsFile, same_block}
use Rattle.hs_types.specs.Limits.{block_size}
use Rattle.hs_types.specs.declared.ids.BlockId.{BlockId}
use Rattle.block_store.specs.Changes.{Reaches, Sets, Writes, Spoils, with_bytes_at}
use Rattle.block_contents.specs.Contents.{is_last, before_last, Appended, KeepsFile}
use Rattle.block_contents.proofs.Whole.{last_of, is_last_of, last_at, same_self, same_is, holds_least, holds_most, holds_some, up_to}

pub sets_here : (block : BlockId) (bytes : Option (List ℕ)) (before now : BlockMap) (other : BlockId) → Sets block bytes before now → same_block block other ≡ true → find now other ≡ bytes
sets_here block bytes before now other sets same = sets other ∙ ap (λ b. if b then bytes else find before other) same

pub sets_other : (block : BlockId) (bytes : Option (List ℕ)) (before now : BlockMap) (other : BlockId) → Sets block bytes before now → same_block block other ≡ false → find now other ≡ find before other
sets_other block bytes before now other sets apart = sets other ∙ ap (λ b. if b then bytes else find before other) apart

-- the last block of a file is there
pub last_holds : (first : BlockId) (more : List BlockId) (front size : ℕ) (map : BlockMap) → front ≡ length more * block_size → front < size → size ≤ front + block_size → HoldsFile map size (first ∷ more) → Holds (find map (last_of first more)) (size - front)
last_holds first [] front size map front_is low high held =
    let count : min size block_size ≡ size - front = omega arith in
    subst (Holds (find map first)) count held.0
last_holds first (next ∷ more) front size map front_is low high held =
    let left : (size - block_size) - (front - block_size) ≡ size - front = omega arith in
    subst (Holds (find map (last_of next more))) left (last_holds next more (front - block_size) (size - block_size) map (omega arith) (omega arith) (omega arith) held.1)

pub last_there : (blocks : List BlockId) (size : ℕ) (map : BlockMap) (block : BlockId) → HoldsFile map size blocks → is_last blocks block ≡ true → IsSome (find map block)
last_there [] size map block held last = absurd (cc)
last_there (first ∷ []) size map block held last = subst (λ b. IsSome (find map b)) (same_is first block last) (holds_some (find map first) (min size block_size) held.0)
last_there (first ∷ next ∷ more) size map block held last = last_there (next ∷ more) (size - block_size) map block held.1 last

pub keeps_same : (size : ℕ) (blocks : List BlockId) (map : BlockMap) → HoldsFile map size blocks → KeepsFile size blocks map map
keeps_same size blocks map held = record {
  holds = held;
  contents = refl;
  there = λ block last. last_there blocks size map block held last;
  last = λ block last. refl;
  others = λ block apart there. refl;
}

-- where the last block is and what it holds
pub record IsFill (first : BlockId) (more : List BlockId) (size front fill : ℕ) (before : BlockMap) : Type 0 where
  pub file : IsFile size (first ∷ more)
  pub held : HoldsFile before size (first ∷ more)
  pub front_is : front ≡ length more * block_size
  pub low : front < size
  pub high : size ≤ front + block_size
  pub fill_is : fill ≡ size - front

-- the last block has changed behind the file's end alone
pub keeps_filled : (first : BlockId) (more : List BlockId) (size front fill : ℕ) (v : List ℕ) (before now : BlockMap) → IsFill first more size front fill before
    → Sets (last_of first more) (Some v) before now → take fill v ≡ take fill (bytes_of before (last_of first more)) → fill ≤ length v → length v ≤ block_size → KeepsFile size (first ∷ more) before now
keeps_filled first more size front fill v before now is sets same least most =
    let last : BlockId = last_of first more in
    let here : find now last ≡ Some v = sets_here last (Some v) before now last sets (same_self last) in
    let others : (block : BlockId) → same_block last block ≡ false → find now block ≡ find before block = λ block apart. sets_other last (Some v) before now block sets apart in
    let has : Holds (Some v) (size - front) = (omega arith, most) in
    let after = up_to first more front size size before now is.file.apart is.front_is is.low is.low is.high is.held others (subst (λ o. Holds o (size - front)) (sym here) has) in
    let old = up_to first more front size size before before is.file.apart is.front_is is.low is.low is.high is.held (λ block apart. refl) (last_holds first more front size before is.front_is is.low is.high is.held) in
    let stays : take (size - front) (bytes_of now last) ≡ take (size - front) (bytes_of before last) =
    ap (λ (o : Option (List ℕ)). take (size - front) (unwrap_or o [])) here ∙ subst (λ n. take n v ≡ take n (bytes_of before last)) is.fill_is same in
    let place : size - front ≡ size - before_last (length (first ∷ more)) = omega arith in
    record {
      holds = after.holds;
      contents = after.contents ∙ ap (λ l. take front (joined before (first ∷ more)) ++ l) stays ∙ sym old.contents;
      there = λ block last_is. last_there (first ∷ more) size now block after.holds last_is;
      last = λ block last_is. subst (λ b. take (size - before_last (length (first ∷ more))) (bytes_of now b) ≡ take (size - before_last (length (first ∷ more))) (bytes_of before b))
          (same_is last block (sym (is_last_of first more block) ∙ last_is)) (subst (λ n. take n (bytes_of now last) ≡ take n (bytes_of before last)) place stays);
      others = λ block apart there. others block (sym (is_last_of first more block) ∙ apart);
    }

pub take_written : (place : ℕ) (bytes old : List ℕ) → place ≤ length old → take (place + length bytes) (with_bytes_at place bytes old) ≡ take place old ++ bytes
take_written place bytes old within =
    let e : length (take place old) ≡ place = length-take-le place old within in
    ap (λ k. take (k + length bytes) (with_bytes_at place bytes old)) (sym e)
    ∙ take-append-add (take place old) (bytes ++ drop (place + length bytes) old) (length bytes)
    ∙ ap (λ l. take place old ++ l) (take-append_seam bytes (drop (place + length bytes) old))

pub length_written : (place : ℕ) (bytes old : List ℕ) → place ≤ length old → length (with_bytes_at place bytes old) ≡ place + (length bytes + (length old - (place + length bytes)))
length_written place bytes old within =
    let e : length (take place old) ≡ place = length-take-le place old within in
    omega (arith, length-append (take place old) (bytes ++ drop (place + length bytes) old), length-append bytes (drop (place + length bytes) old), length-drop (place + length bytes) old)

pub front_written : (place : ℕ) (bytes old : List ℕ) → place ≤ length old → take place (with_bytes_at place bytes old) ≡ take place old
front_written place bytes old within =
    let e : length (take place old) ≡ place = length-take-le place old within in
    ap (λ k. take k (with_bytes_at place bytes old)) (sym e) ∙ take-append_seam (take place old) (bytes ++ drop (place + length bytes) old)

-- the last block has got bytes at the file's end
pub appends_filled : (first : BlockId) (more : List BlockId) (size front fill : ℕ) (bytes : List ℕ) (before now : BlockMap) → IsFill first more size front fill before
    → fill + length bytes ≤ block_size → Writes (last_of first more) fill bytes before now → Appended size (first ∷ more) (first ∷ more) bytes before now
appends_filled first more size front fill bytes before now is fits writes =
    let last : BlockId = last_of first more in
    let old_bytes : List ℕ = bytes_of before last in
    let v : List ℕ = with_bytes_at fill bytes old_bytes in
    let here : find now last ≡ Some v = sets_here last (Some v) before now last writes (same_self last) in
    let held : Holds (find before last) (size - front) = last_holds first more front size before is.front_is is.low is.high is.held in
    let reach = holds_least (find before last) (size - front) held in
    let short = holds_most (find before last) (size - front) held in
    let within : fill ≤ length old_bytes = omega (arith, is.fill_is) in
    let long = length_written fill bytes old_bytes within in
    let has : Holds (Some v) (size + length bytes - front) = (omega (arith, is.fill_is, is.low), omega (arith, is.fill_is, is.low)) in
    let after = up_to first more front size (size + length bytes) before now is.file.apart is.front_is is.low (omega (arith, is.low)) (omega (arith, is.fill_is, is.low)) is.held
    (λ block apart. sets_other last (Some v) before now block writes apart) (subst (λ o. Holds o (size + length bytes - front)) (sym here) has) in
    let old = up_to first more front size size before before is.file.apart is.front_is is.low is.low is.high is.held (λ block apart. refl) held in
    let end : size + length bytes - front ≡ fill + length bytes = omega (arith, is.fill_is, is.low) in
    record {
      holds = after.holds;
      contents = after.contents
          ∙ ap (λ (o : Option (List ℕ)). take front (joined before (first ∷ more)) ++ take (size + length bytes - front) (unwrap_or o [])) here
          ∙ ap (λ n. take front (joined before (first ∷ more)) ++ take n v) end
          ∙ ap (λ l. take front (joined before (first ∷ more)) ++ l) (take_written fill bytes old_bytes within)
          ∙ ap (λ n. take front (joined before (first ∷ more)) ++ (take n old_bytes ++ bytes)) is.fill_is
          ∙ sym (append_assoc (take front (joined before (first ∷ more))) (take (size - front) old_bytes) bytes)
          ∙ ap (λ l. l ++ bytes) (sym old.contents);
    }

-- the place in the last block at which a file ends, where that isn't full
is_fill : (first : BlockId) (more : List BlockId) (size count : ℕ) (before : BlockMap) → IsFile size (first ∷ more) → 0 < count → size + count ≤ length (first ∷ more) * block_size → HoldsFile before size (first ∷ more)
    → IsFill first more size (length more * block_size) (size % block_size) before
is_fill first more size count before file some fits held =
    let least = file.least in
    let low : length more * block_size < size = omega arith in
    record {
      file = file;
      held = held;
      front_is = refl;
      low = low;
      high = omega arith;
      fill_is = omega arith;
    }

last_is : (first : BlockId) (more : List BlockId) (block d : BlockId) → block ≡ get_or (first ∷ more) (length (first ∷ more) - 1) d → block ≡ last_of first more
last_is first more block d at =
    let e : length (first ∷ more) - 1 ≡ length more = omega arith in
    at ∙ ap (λ i. get_or (first ∷ more) i d) e ∙ last_at first more d

holds_reaches : (found : Option (List ℕ)) (count : ℕ) → Holds found count → Reaches found count
holds_reaches None count held = held
holds_reaches (Some bytes) count held = held.0

pub fill_reaches : (blocks : List BlockId) (block d : BlockId) (size : ℕ) (bytes : List ℕ) (before : BlockMap) → IsFile size blocks → 0 < length bytes → size + length bytes ≤ length blocks * block_size
    → block ≡ get_or blocks (length blocks - 1) d → HoldsFile before size blocks → Reaches (find before block) (size % block_size)
fill_reaches [] block d size bytes before file some fits at held = absurd (omega arith)
fill_reaches (first ∷ more) block d size bytes before file some fits at held =
    let is = is_fill first more size (length bytes) before file some fits held in
    let there : Holds (find before (last_of first more)) (size - length more * block_size) = last_holds first more (length more * block_size) size before refl is.low is.high held in
    holds_reaches (find before block) (size % block_size) (subst (Holds (find before block)) (sym is.fill_is) (subst (λ b. Holds (find before b) (size - length more * block_size)) (sym (last_is first more block d at)) there))

pub fill_appends : (blocks : List BlockId) (block d : BlockId) (size : ℕ) (bytes : List ℕ) (before now : BlockMap) → IsFile size blocks → 0 < length bytes → size + length bytes ≤ length blocks * block_size
    → block ≡ get_or blocks (length blocks - 1) d → HoldsFile before size blocks → Writes block (size % block_size) bytes before now → Appended size blocks blocks bytes before now
fill_appends [] block d size bytes before now file some fits at held writes = absurd (omega arith)
fill_appends (first ∷ more) block d size bytes before now file some fits at held writes =
    let is = is_fill first more size (length bytes) before file some fits held in
    appends_filled first more size (length more * block_size) (size % block_size) bytes before now is (omega (arith, is.fill_is, is.low))
    (subst (λ b. Writes b (size % block_size) bytes before now) (last_is first more block d at) writes)

pub fill_keeps : (blocks : List BlockId) (block d : BlockId) (size : ℕ) (bytes : List ℕ) (before now : BlockMap) → IsFile size blocks → 0 < length bytes → size + length bytes ≤ length blocks * block_size
    → block ≡ get_or blocks (length blocks - 1) d → HoldsFile before size blocks → Writes block (size % block_size) bytes before now → KeepsFile size blocks before now
fill_keeps [] block d size bytes before now file some fits at held writes = absurd (omega arith)
fill_keeps (first ∷ more) block d size bytes before now file some fits at held writes =
    let is = is_fill first more size (length bytes) before file some fits held in
    let front : ℕ = length more * block_size in
    let old_bytes : List ℕ = bytes_of before (last_of first more) in
    let there : Holds (find before (last_of first more)) (size - front) = last_holds first more front size before refl is.low is.high held in
    let reach = holds_least (find before (last_of first more)) (size - front) there in
    let short = holds_most (find before (last_of first more)) (size - front) there in
    let within : size % block_size ≤ length old_bytes = omega (arith, is.fill_is) in
    let long = length_written (size % block_size) bytes old_bytes within in
    keeps_filled first more size front (size % block_size) (with_bytes_at (size % block_size) bytes old_bytes) before now is
    (subst (λ b. Writes b (size % block_size) bytes before now) (last_is first more block d at) writes) (front_written (size % block_size) bytes old_bytes within)
    (omega (arith, is.fill_is)) (omega (arith, is.fill_is, is.low))

pub fill_spoils : (blocks : List BlockId) (block d : BlockId) (size : ℕ) (bytes : List ℕ) (before now : BlockMap) → IsFile size blocks → 0 < length bytes → size + length bytes ≤ length blocks * block_size
    → block ≡ get_or blocks (length blocks - 1) d → HoldsFile before size blocks → Spoils block (size % block_size) (size % block_size + length bytes) before now → KeepsFile size blocks before now
fill_spoils [] block d size bytes before now file some fits at held spoils = absurd (omega arith)
fill_spoils (first ∷ more) block d size bytes before now file some fits at held spoils =
    let is = is_fill first more size (length bytes) before file some fits held in
    let front : ℕ = length more * block_size in
    let last : BlockId = last_of first more in
    let at_last = subst (λ b. Spoils b (size % block_size) (size % block_size + length bytes) before now) (last_is first more block d at) spoils in
    let there : Holds (find before last) (size - front) = last_holds first more front size before refl is.low is.high held in
    let reach = holds_least (find before last) (size - front) there in
    let short = holds_most (find before last) (size - front) there in
    let behind : length (bytes_of now last) - (size % block_size + length bytes) ≡ length (bytes_of before last) - (size % block_size + length bytes) =
    sym (length-drop (size % block_size + length bytes) (bytes_of now last)) ∙ ap length at_last.back ∙ length-drop (size % block_size + length bytes) (bytes_of before last) in
    let no_shorter = at_last.no_shorter in
    keeps_filled first more size front (size % block_size) (bytes_of now last) before now is at_last.others at_last.front (omega (arith, is.fill_is)) (omega (arith, is.fill_is, is.low))

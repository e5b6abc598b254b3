-- A file gets a new block, and an append in two steps.
use Rattle.std.proofs.Common.{◌≡◌, ℕ, ◌+◌, ◌-◌, ◌*◌, ◌<◌, ◌≤◌, false, List, [], ◌∷◌, ◌++◌, length, take, Option, None, Some, IsSome, IfSome, inl, inr, refl, ap, sym, subst, ◌∙◌, append-nil, append_assoc, arith, length-append}
use Rattle.std.specs.Option.{unwrap_or, is_some}
use Rattle.std.specs.List.{AllByRecursion, IsDistinct}
use Rattle.std.proofs.lemmas.Bool.{cases_Bool}
use Rattle.std.proofs.lemmas.Bool.Decides.{nat_tests}
use Rattle.std.proofs.lemmas.List.{length_push, drop_all}
use Rattle.std.proofs.lemmas.Map.Keys.{IsDistinct-head, IsDistinct-tail, IsDistinct-cons}
use Rattle.hs_types.specs.Blocks.{BlockMap, IsFile, find, bytes_of, file_bytes, HoldsFile, same_block, blocks_for}
use Rattle.hs_types.specs.Limits.{block_size}
use Rattle.hs_types.specs.declared.ids.BlockId.{BlockId}
use Rattle.block_store.specs.Changes.{Changes, Sets, Writes, with_bytes_at}
use Rattle.block_contents.specs.Contents.{AtMost, Appended, KeepsFile, KeepsAll}
use Rattle.block_contents.proofs.Told.{changes_map, changes_then, changes_weaken}
use Rattle.block_contents.proofs.Whole.{same_self, same_is, held_behind, bytes_behind, stays_held, stays_joined}
use Rattle.block_contents.proofs.Filling.{sets_here, sets_other}

all_push : (P : BlockId → Type 0) (blocks : List BlockId) (block : BlockId) → AllByRecursion P blocks → P block → AllByRecursion P (blocks ++ block ∷ [])
all_push P [] block all new = (new, tt)
all_push P (first ∷ more) block all new = (all.0, all_push P more block all.1 new)

pub at_most_more : (low high : ℕ) (blocks : List BlockId) → low ≤ high → AtMost low blocks → AtMost high blocks
at_most_more low high [] more all = tt
at_most_more low high (first ∷ rest) more all = (omega (arith, all.0), at_most_more low high rest more all.1)

pub at_most_push : (low high : ℕ) (blocks : List BlockId) (block : BlockId) → low ≤ high → block.0 ≤ high → AtMost low blocks → AtMost high (blocks ++ block ∷ [])
at_most_push low high blocks block more new all = all_push (λ b. b.0 ≤ high) blocks block (at_most_more low high blocks more all) new

fresh_apart : (first block : BlockId) (greatest : ℕ) → first.0 ≤ greatest → greatest < block.0 → same_block first block ≡ false
fresh_apart first block greatest low above = grind (arith, nat_tests)

apart_none : IsDistinct same_block []
unfolding IsDistinct
apart_none = tt

-- a file without bytes has no blocks
pub file_none : IsFile 0 []
file_none = record {
  least = refl;
  apart = apart_none;
}

apart_push : (blocks : List BlockId) (block : BlockId) (greatest : ℕ) → AtMost greatest blocks → greatest < block.0 → IsDistinct same_block blocks → IsDistinct same_block (blocks ++ block ∷ [])
apart_push [] block greatest all above apart = IsDistinct-cons same_block block [] tt apart_none
apart_push (first ∷ more) block greatest all above apart =
    IsDistinct-cons same_block first (more ++ block ∷ [])
    (all_push (λ b. same_block first b ≡ false) more block (IsDistinct-head same_block first more apart) (fresh_apart first block greatest all.0 above))
    (apart_push more block greatest all.1 above (IsDistinct-tail same_block first more apart))

pub file_push : (blocks : List BlockId) (block : BlockId) (greatest size : ℕ) (bytes : List ℕ) → IsFile size blocks → AtMost greatest blocks → greatest < block.0 → size ≡ length blocks * block_size → 0 < length bytes → length bytes ≤ block_size
    → IsFile (size + length bytes) (blocks ++ block ∷ [])
file_push blocks block greatest size bytes file all above full some short = record {
  least = omega (arith, length_push blocks block, full);
  apart = apart_push blocks block greatest all above file.apart;
}

-- a new block has got its bytes
pub record NewBlock (block : BlockId) (bytes : List ℕ) (before now : BlockMap) : Type 0 where
  pub kept : KeepsAll before now
  pub found : find now block ≡ Some bytes

kept_other : (block other : BlockId) (before between now : BlockMap) (new newer : Option (List ℕ)) → find before block ≡ None → Sets block new before between → Sets block newer between now → IsSome (find before other) → find now other ≡ find before other
kept_other block other before between now new newer fresh made written there = elim (cases_Bool (same_block block other)) [
  | inl same ↦
      let none : find before other ≡ None = subst (λ b. find before b ≡ None) (same_is block other same) fresh in
      absurd (cc (ap is_some none))
  | inr apart ↦ sets_other block newer between now other written apart ∙ sets_other block new before between other made apart
]

pub new_block : (block : BlockId) (bytes : List ℕ) (before between now : BlockMap) → find before block ≡ None → Sets block (Some []) before between → Writes block 0 bytes between now → NewBlock block bytes before now
new_block block bytes before between now fresh made written = record {
  kept = λ other there. kept_other block other before between now (Some []) (Some (with_bytes_at 0 bytes (bytes_of between block))) fresh made written there;
  found = sets_here block (Some (with_bytes_at 0 bytes (bytes_of between block))) between now block written (same_self block)
      ∙ ap (λ (o : Option (List ℕ)). Some (with_bytes_at 0 bytes (unwrap_or o []))) (sets_here block (Some []) before between block made (same_self block))
      ∙ ap (λ l. Some (bytes ++ l)) (drop_all (0 + length bytes) [] (omega arith))
      ∙ ap Some (append-nil bytes);
}

pub appends_behind : (blocks : List BlockId) (block : BlockId) (size : ℕ) (bytes : List ℕ) (before now : BlockMap) → size ≡ length blocks * block_size → length bytes ≤ block_size → HoldsFile before size blocks → NewBlock block bytes before now
    → Appended size blocks (blocks ++ block ∷ []) bytes before now
appends_behind blocks block size bytes before now full short held new = record {
  holds = held_behind blocks block size bytes before now full held new.kept new.found short;
  contents = bytes_behind blocks block size bytes before now full held new.kept new.found;
}

pub told_both : (P Q : BlockMap → Type 0) (told : Option BlockMap) → IfSome told P → IfSome told Q → IfSome told (λ map. P map × Q map)
told_both P Q None p q = tt
told_both P Q (Some a) p q = (p, q)

-- the file is kept, and then each block is
pub keeps_then : (size : ℕ) (blocks : List BlockId) (before between now : BlockMap) → KeepsFile size blocks before between → KeepsAll between now → KeepsFile size blocks before now
keeps_then size blocks before between now one two = record {
  holds = stays_held blocks size between now one.holds two;
  contents = ap (take size) (stays_joined blocks size between now one.holds two) ∙ one.contents;
  there = λ block last. subst (λ o. IsSome o) (sym (two block (one.there block last))) (one.there block last);
  last = λ block last. ap (λ (o : Option (List ℕ)). take (size - (length blocks - 1) * block_size) (unwrap_or o [])) (two block (one.there block last)) ∙ one.last block last;
  others = λ block apart there. two block (subst (λ o. IsSome o) (sym (one.others block apart there)) there) ∙ one.others block apart there;
}

-- bytes in two parts
pub appends_then : (size fits : ℕ) (old new : List BlockId) (bytes first rest : List ℕ) (before between now : BlockMap) → first ++ rest ≡ bytes → length first ≡ fits → Appended size old old first before between → Appended (size + fits) old new rest between now → Appended size old new bytes before now
appends_then size fits old new bytes first rest before between now parts long one two =
    let count : size + fits + length rest ≡ size + length bytes = omega (arith, ap length parts, length-append first rest) in
    record {
      holds = subst (λ n. HoldsFile now n new) count two.holds;
      contents = ap (λ n. file_bytes now n new) (sym count) ∙ two.contents ∙ ap (λ l. l ++ rest) (ap (λ n. file_bytes between (size + n) old) (sym long) ∙ one.contents)
          ∙ append_assoc (file_bytes before size old) first rest ∙ ap (λ l. file_bytes before size old ++ l) parts;
    }

-- the same blocks are enough for a larger size
pub file_more : (size fits : ℕ) (blocks : List BlockId) → IsFile size blocks → size + fits ≤ blocks_for size * block_size → IsFile (size + fits) blocks
file_more size fits blocks file within = record {
  least = omega (arith, file.least);
  apart = file.apart;
}

-- a block was made, and then written
pub told_new : (H : BlockMap → Type 0) (block : BlockId) (bytes : List ℕ) (told between now : Option BlockMap) → IfSome told H → IfSome told (λ map. find map block ≡ None) → Changes told between (Sets block (Some [])) → Changes between now (Writes block 0 bytes)
    → Changes told now (λ a c. H a × NewBlock block bytes a c)
told_new H block bytes told between now held fresh made written =
    changes_then (λ a b. (H a × (find a block ≡ None)) × Sets block (Some []) a b) (Writes block 0 bytes) (λ a c. H a × NewBlock block bytes a c) told between now
    (λ a b c one two. (one.0.0, new_block block bytes a b c one.0.1 one.1 two))
    (changes_map (λ a. H a × (find a block ≡ None)) (Sets block (Some [])) (λ a b. (H a × (find a block ≡ None)) × Sets block (Some []) a b) told between (λ a b h p. (h, p))
    (told_both H (λ a. find a block ≡ None) told held fresh) made)
    written

pub told_behind : (blocks : List BlockId) (block : BlockId) (size : ℕ) (bytes : List ℕ) (told between now : Option BlockMap) → size ≡ length blocks * block_size → length bytes ≤ block_size → IfSome told (λ map. HoldsFile map size blocks)
    → IfSome told (λ map. find map block ≡ None) → Changes told between (Sets block (Some [])) → Changes between now (Writes block 0 bytes) → Changes told now (Appended size blocks (blocks ++ block ∷ []) bytes)
told_behind blocks block size bytes told between now full short held fresh made written =
    changes_weaken (λ a c. HoldsFile a size blocks × NewBlock block bytes a c) (Appended size blocks (blocks ++ block ∷ []) bytes) told now
    (λ a c both. appends_behind blocks block size bytes a c full short both.0 both.1)
    (told_new (λ map. HoldsFile map size blocks) block bytes told between now held fresh made written)

-- Which blocks are there after an append.
use Rattle.std.proofs.Common.{◌≡◌, ℕ, true, List, Option, None, Some, is_some, IsSome, inl, inr, refl, ap, sym, subst, ◌∙◌}
use Rattle.std.proofs.lemmas.Bool.{cases_Bool}
use Rattle.hs_types.specs.Blocks.{BlockMap, find, same_block}
use Rattle.hs_types.specs.declared.ids.BlockId.{BlockId}
use Rattle.block_store.specs.Changes.{Reaches, Sets}
use Rattle.block_contents.specs.Contents.{SameBlocks}
use Rattle.block_contents.proofs.Whole.{same_is}
use Rattle.block_contents.proofs.Filling.{sets_here, sets_other}

pub reaches_some : (found : Option (List ℕ)) (place : ℕ) → Reaches found place → IsSome found
reaches_some None place reaches = absurd reaches
reaches_some (Some bytes) place reaches = refl

-- a block that is there gets other bytes
pub sets_same : (block : BlockId) (bytes : List ℕ) (before now : BlockMap) → IsSome (find before block) → Sets block (Some bytes) before now → SameBlocks before now
sets_same block bytes before now there sets other = elim (cases_Bool (same_block block other)) [
  | inl same ↦ ap is_some (sets_here block (Some bytes) before now other sets same) ∙ sym (subst (λ b. is_some (find before b) ≡ true) (same_is block other same) there)
  | inr apart ↦ ap is_some (sets_other block (Some bytes) before now other sets apart)
]

-- The blocks that are handed out.
use Rattle.std.proofs.Common.{ℕ, inl, inr, List, ◌++◌, Option, Some, None, ⊎_elim, arith}
use Rattle.std.specs.List.{IsDistinct}
use Rattle.std.proofs.lemmas.List.Elements.{Contains-append_right, Contains-append_cases}
use Rattle.hs_types.specs.Blocks.{BlockMap, same_block}
use Rattle.hs_types.specs.declared.ids.BlockId.{BlockId}
use Rattle.inode_table.specs.declared.freed.Freed.{Freed}
use Rattle.inode_table.specs.Blocked.{AreBlocks}
use Rattle.inode_table.specs.RowHistory.{Table}
use Rattle.table_laws.proofs.BlockLists.{times-append, times-distinct, distinct-times, distinct-apart}
use Rattle.record_merge.specs.Dropping.{FreesExactly}
use Rattle.record_merge.proofs.Telling.{would-tell}

distinct_right : (xs ys : List BlockId) → IsDistinct same_block (xs ++ ys) → IsDistinct same_block ys
distinct_right xs ys d = distinct-times ys (λ block. let all = times-append block xs ys in let few = times-distinct block (xs ++ ys) d in omega (arith, all, few))

frees_exactly : (store : BlockMap) (made : ℕ) (waiting blocks : List BlockId) (before after : Table) → AreBlocks before (Some store) made waiting → AreBlocks after (Some store) made (waiting ++ blocks) → FreesExactly before after blocks
frees_exactly store made waiting blocks before after was is = record {
  once = distinct_right waiting blocks is.once;
  named_before = λ block c. ⊎_elim
      (λ w. absurd (distinct-apart waiting blocks block is.once w c))
      (λ named. named)
      ((was.stored block).0 ((is.stored block).1 (inl (Contains-append_right waiting blocks block c))));
  named_no_more = λ block c named. is.let_go named.0 block (Contains-append_right waiting blocks block c) named.1;
  all = λ block named gone. ⊎_elim
      (λ w. ⊎_elim (λ a. absurd (was.let_go named.0 block a named.1)) (λ b. b) (Contains-append_cases waiting blocks block w))
      (λ still. absurd (gone still))
      ((is.stored block).0 ((was.stored block).1 (inr named)));
}

-- whatever the store tells: where it doesn't, one that would serves as well
pub freed-exactly : (store : Option BlockMap) (made : ℕ) (waiting : List BlockId) (freed : Freed) (before after : Table) → AreBlocks before store made waiting
    → ((other : Option BlockMap) → AreBlocks before other made waiting → AreBlocks after other made (waiting ++ freed.blocks)) → FreesExactly before after freed.blocks
freed-exactly None made waiting freed before after was later = let telling = would-tell before made waiting was in frees_exactly telling.0 made waiting freed.blocks before after telling.1 (later (Some telling.0) telling.1)
freed-exactly (Some store) made waiting freed before after was later = frees_exactly store made waiting freed.blocks before after was (later (Some store) was)

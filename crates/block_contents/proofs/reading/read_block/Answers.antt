use Rattle.std.proofs.Common.{◌≡◌, arith, ◌+◌, ◌*◌, length, take, drop, sym, ap, subst, ◌∙◌}
use Rattle.hs_types.specs.Blocks.{HoldsFile, find, bytes_of, joined}
use Rattle.hs_types.specs.Limits.{block_size}
use Rattle.block_store.specs.Changes.{Reaches}
use Rattle.block_contents.proofs.Told.{told_map, told_with, on_ok}
use Rattle.block_contents.proofs.Parts.{LiesIn, block_reaches, block_bytes}
use Rattle.block_contents.proofs.reading.read_block.Goals as goal

pub read_at-requires : goal.read_at-requires
read_at-requires g c =
    let lies : LiesIn c.args.blocks.now c.block_at-block.result c.args.size c.args.at c.args.within (length c.args.out.now) = record { there = omega (arith, c.requires.file.least); short = c.requires.short; end = c.requires.end } in
    record {
      there = told_map (λ map. HoldsFile map c.args.size c.args.blocks.now) _ _ (λ map held.
          subst (λ block. Reaches (find map block) (c.args.within + length c.args.out.now)) (sym c.block_at-block.ensures)
          (block_reaches c.args.blocks.now c.block_at-block.result c.args.size c.args.at c.args.within (length c.args.out.now) map lies held)) c.requires.held;
    }

pub returns-clause-bytes : goal.returns-clause-bytes
returns-clause-bytes g c =
    let lies : LiesIn c.args.blocks.now c.block_at-block.result c.args.size c.args.at c.args.within (length c.args.out.now) = record { there = omega (arith, c.requires.file.least); short = c.requires.short; end = c.requires.end } in
    on_ok c.read_at.result
    (told_with (λ map. HoldsFile map c.args.size c.args.blocks.now) (λ map. c.read_at.new.out ≡ take (length c.args.out.now) (drop c.args.within (bytes_of map c.block_at-block.result)))
    (λ map. c.read_at.new.out ≡ take (length c.args.out.now) (drop (c.args.at * block_size + c.args.within) (joined map c.args.blocks.now))) (g.B.BlockStore.blocks c.args.store.now)
    (λ map held bytes. bytes ∙ ap (λ block. take (length c.args.out.now) (drop c.args.within (bytes_of map block))) c.block_at-block.ensures
    ∙ block_bytes c.args.blocks.now c.block_at-block.result c.args.size c.args.at c.args.within (length c.args.out.now) map lies held) c.requires.held)
    c.read_at.ensures.bytes

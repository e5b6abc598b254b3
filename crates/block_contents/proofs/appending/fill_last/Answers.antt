use Rattle.std.proofs.Common.{arith, ◌+◌, ◌%◌, ◌<◌, length, IsSome}
use Rattle.hs_types.specs.Blocks.{BlockMap, HoldsFile, find, bytes_of}
use Rattle.hs_types.specs.Limits.{block_size}
use Rattle.block_store.specs.Changes.{Writes, Spoils, with_bytes_at}
use Rattle.block_contents.specs.Contents.{Appended, KeepsFile, SameBlocks}
use Rattle.block_contents.proofs.Told.{changes_map, changes_same, told_map, on_ok, on_both}
use Rattle.block_contents.proofs.Filling.{keeps_same, fill_reaches, fill_appends, fill_keeps, fill_spoils}
use Rattle.block_contents.proofs.Making.{reaches_some, sets_same}
use Rattle.block_contents.proofs.appending.fill_last.Goals as goal

pub returns-then-is_empty-clause-kept : goal.returns-then-is_empty-clause-kept
returns-then-is_empty-clause-kept g c = changes_same (λ map. HoldsFile map c.args.size c.args.blocks.now) _ _ (λ map held. keeps_same c.args.size c.args.blocks.now map held) c.requires.held

pub write_at-requires-clause-there : goal.write_at-requires-clause-there
write_at-requires-clause-there g c =
    let some : 0 < length c.args.bytes.now = grind arith in
    told_map (λ map. HoldsFile map c.args.size c.args.blocks.now) _ _
    (λ map held. fill_reaches c.args.blocks.now c.last_block-block.result c.last_block-block.result c.args.size c.args.bytes.now map c.requires.file some c.requires.fits c.last_block-block.ensures held) c.requires.held

pub returns-clause-appended : goal.returns-clause-appended
returns-clause-appended g c =
    let some : 0 < length c.args.bytes.now = grind arith in
    on_ok c.write_at.result (changes_map (λ map. HoldsFile map c.args.size c.args.blocks.now) (Writes c.last_block-block.result (c.args.size % block_size) c.args.bytes.now) (Appended c.args.size c.args.blocks.now c.args.blocks.now c.args.bytes.now) _ _
    (λ before now held writes. fill_appends c.args.blocks.now c.last_block-block.result c.last_block-block.result c.args.size c.args.bytes.now before now c.requires.file some c.requires.fits c.last_block-block.ensures held writes) c.requires.held)
    c.write_at.ensures.written

pub returns-clause-kept : goal.returns-clause-kept
returns-clause-kept g c =
    let some : 0 < length c.args.bytes.now = grind arith in
    on_both c.write_at.result
    (changes_map (λ map. HoldsFile map c.args.size c.args.blocks.now) (Writes c.last_block-block.result (c.args.size % block_size) c.args.bytes.now) (KeepsFile c.args.size c.args.blocks.now) _ _
    (λ before now held writes. fill_keeps c.args.blocks.now c.last_block-block.result c.last_block-block.result c.args.size c.args.bytes.now before now c.requires.file some c.requires.fits c.last_block-block.ensures held writes) c.requires.held)
    (changes_map (λ map. HoldsFile map c.args.size c.args.blocks.now) (Spoils c.last_block-block.result (c.args.size % block_size) (c.args.size % block_size + length c.args.bytes.now)) (KeepsFile c.args.size c.args.blocks.now) _ _
    (λ before now held spoils. fill_spoils c.args.blocks.now c.last_block-block.result c.last_block-block.result c.args.size c.args.bytes.now before now c.requires.file some c.requires.fits c.last_block-block.ensures held spoils) c.requires.held)
    c.write_at.ensures.written c.write_at.ensures.spoiled

pub returns-clause-same : goal.returns-clause-same
returns-clause-same g c =
    let some : 0 < length c.args.bytes.now = grind arith in
    let block = c.last_block-block.result in
    let place = c.args.size % block_size in
    let there : (map : BlockMap) → HoldsFile map c.args.size c.args.blocks.now → IsSome (find map c.last_block-block.result) = λ map held.
    reaches_some (find map block) place (fill_reaches c.args.blocks.now block block c.args.size c.args.bytes.now map c.requires.file some c.requires.fits c.last_block-block.ensures held) in
    on_both c.write_at.result
    (changes_map (λ map. HoldsFile map c.args.size c.args.blocks.now) (Writes block place c.args.bytes.now) SameBlocks _ _
    (λ before now held writes. sets_same block (with_bytes_at place c.args.bytes.now (bytes_of before block)) before now (there before held) writes) c.requires.held)
    (changes_map (λ map. HoldsFile map c.args.size c.args.blocks.now) (Spoils block place (place + length c.args.bytes.now)) SameBlocks _ _
    (λ before now held spoils. sets_same block (bytes_of now block) before now (there before held) spoils.others) c.requires.held)
    c.write_at.ensures.written c.write_at.ensures.spoiled

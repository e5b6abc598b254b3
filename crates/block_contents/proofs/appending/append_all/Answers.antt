use Rattle.std.proofs.Common.{◌≡◌, ◌∙◌, subst}
use Rattle.block_store.specs.Changes.{Changes}
use Rattle.hs_types.specs.Blocks.{HoldsFile}
use Rattle.block_contents.specs.Contents.{KeepsFile, KeepsAll}
use Rattle.block_contents.proofs.Told.{changes_same, changes_then}
use Rattle.block_contents.proofs.Filling.{keeps_same}
use Rattle.block_contents.proofs.Adding.{keeps_then}
use Rattle.block_contents.proofs.appending.append_all.Goals as goal

pub returns-then-is_empty-clause-kept : goal.returns-then-is_empty-clause-kept
returns-then-is_empty-clause-kept g c = changes_same (λ map. HoldsFile map c.args.size c.args.blocks.now.items) _ _ (λ map held. keeps_same c.args.size c.args.blocks.now.items map held) c.requires.held

pub returns-in_err-map_err-clause-kept : goal.returns-in_err-map_err-clause-kept
returns-in_err-map_err-clause-kept g c = changes_same (λ map. HoldsFile map c.args.size c.args.blocks.now.items) _ _ (λ map held. keeps_same c.args.size c.args.blocks.now.items map held) c.requires.held

pub returns-in_err-map_err-2-clause-kept : goal.returns-in_err-map_err-2-clause-kept
returns-in_err-map_err-2-clause-kept g c = changes_same (λ map. HoldsFile map c.args.size c.args.blocks.now.items) _ _ (λ map held. keeps_same c.args.size c.args.blocks.now.items map held) c.requires.held

pub returns-clause-kept : goal.returns-clause-kept
returns-clause-kept g c =
    let list : c.as_slice.result.now ≡ c.args.blocks.now.items = c.as_slice.ensures.value ∙ c.reserve.ensures.items in
    changes_then (KeepsFile c.args.size c.args.blocks.now.items) KeepsAll (KeepsFile c.args.size c.args.blocks.now.items) _ _ _
    (λ before between now one two. keeps_then c.args.size c.args.blocks.now.items before between now one two)
    (subst (λ blocks. Changes (g.B.BlockStore.blocks c.args.store.now) (g.B.BlockStore.blocks c.fill_last.new.store) (KeepsFile c.args.size blocks)) list c.fill_last.ensures.kept)
    c.add_block.ensures.kept

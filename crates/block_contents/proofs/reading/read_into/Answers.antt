use Rattle.std.proofs.Common.{◌≡◌, arith, ℕ, ◌+◌, ◌-◌, ◌*◌, ◌/◌, ◌%◌, ◌<◌, ◌≤◌, List, ◌++◌, length, take, drop, IfSome, subst, refl, length-take, length-drop, length-append}
use Rattle.std.proofs.lemmas.Grind.{common_steps}
use Rattle.hs_types.specs.Blocks.{joined}
use Rattle.hs_types.specs.Limits.{block_size}
use Rattle.block_contents.proofs.Told.{told_with, on_ok}
use Rattle.block_contents.proofs.Parts.{parts_put, two_pieces}
use Rattle.block_contents.proofs.reading.read_into.Goals as goal

pub returns-clause-bytes : goal.returns-clause-bytes
returns-clause-bytes g c =
    let here : ℕ = c.min-here.result in
    let out : List ℕ = c.args.out.now in
    let put : List ℕ = c.read_block.new.out ++ drop here out in
    let fits : c.min-here.result ≤ length c.args.out.now = grind arith in
    let some : 0 < length c.args.out.now = grind arith in
    let whole : c.min-here.result < length c.args.out.now → c.min-here.result ≡ 65536 - c.args.offset % 65536 = λ less. grind arith in
    let less : c.min-here.result < length c.args.out.now = grind arith in
    let first_long : length c.read_block.new.out ≡ c.min-here.result = grind (arith, common_steps) in
    let put_long : length put ≡ length c.args.out.now = omega (arith, length-append c.read_block.new.out (drop here out), length-drop here out) in
    let rest_long : length c.read_block-2.new.out ≡ length c.args.out.now - c.min-here.result = grind (arith, common_steps) in
    let from : ℕ = c.args.offset / 65536 * block_size + c.args.offset % 65536 in
    let next : ℕ = (c.args.offset / 65536 + 1) * block_size + 0 in
    let n : ℕ = length (take here out) in
    let m : ℕ = length (take (length put - here) (drop here put)) in
    on_ok c.read_block-2.result (λ second. told_with
    (λ map. c.read_block.new.out ≡ take n (drop from (joined map c.args.blocks.now)))
    (λ map. c.read_block-2.new.out ≡ take m (drop next (joined map c.args.blocks.now)))
    _ (g.B.BlockStore.blocks c.args.store.now)
    (λ map one two. two_pieces _ c.read_block.new.out c.read_block-2.new.out (joined map c.args.blocks.now) n m from next (length out) c.args.offset c.args.size
    (parts_put here (length put - here) c.read_block.new.out c.read_block-2.new.out put out refl first_long fits (omega arith) (omega arith)) one two
    (omega arith) (omega (arith, whole less, length-take here out)) (omega (arith, length-take here out, length-take (length put - here) (drop here put), length-drop here put)) (c.requires.within some))
    c.in_ok-read_block.ensures.bytes (subst (λ told. IfSome told (λ map. c.read_block-2.new.out ≡ take m (drop next (joined map c.args.blocks.now)))) c.in_ok-read_block.ensures.kept second)) c.read_block-2.ensures.bytes

use Rattle.std.proofs.Common.{◌≡◌, sym, ap, ◌∙◌, insert, cond}
use Rattle.std.specs.Result.{is_ok}
use Rattle.hs_plain.proofs.Growth.{put_new_at, put_over_at}
use Rattle.hs_plain.proofs.change.put_place.Goals as goal

pub returns-then-is_place_at-clause-items : goal.returns-then-is_place_at-clause-items
returns-then-is_place_at-clause-items g c =
    put_over_at c.args.places.now.items c.args.path c.args.node c.index_mut.result.now c.rank_of-rank.result c.as_slice.result.now c.items.result.now c.as_slice-2.result.now c.items-2.result.now
    c.as_slice.ensures.value c.items.ensures c.as_slice-2.ensures.value c.items-2.ensures c.rank_of-rank.ensures.rank (sym c.if-is_place_at.true ∙ c.is_place_at.ensures) c.index_mut.ensures.value

pub returns-else-is_place_at-clause-items : goal.returns-else-is_place_at-clause-items
returns-else-is_place_at-clause-items g c =
    let at = insert c.args.places.now.items c.rank_of-rank.result (c.args.path, c.args.node) in
    let inserted : c.insert.new.self.items ≡ at = c.insert.ensures.items ∙ ap (λ b. cond b at c.args.places.now.items) {x = is_ok c.insert.result} (ap is_ok c.unwrap.ensures) in
    inserted ∙ put_new_at c.args.places.now.items c.args.path c.args.node c.rank_of-rank.result c.as_slice.result.now c.items.result.now c.as_slice-2.result.now c.items-2.result.now
    c.as_slice.ensures.value c.items.ensures c.as_slice-2.ensures.value c.items-2.ensures c.rank_of-rank.ensures.rank (sym c.if-is_place_at.false ∙ c.is_place_at.ensures)

use Rattle.std.proofs.Common.{◌≡◌, ◌+◌, Option, List, [], map, ap, ◌∙◌}
use Rattle.hs_types.specs.Names.{Names}
use Rattle.hs_plain.specs.Tree.{Tree, parent_of}
use Rattle.hs_plain.specs.Change.{stamped, new_path, put_all, moved}
use Rattle.hs_plain.proofs.Moves.{at_new_paths, repathed}
use Rattle.hs_plain.proofs.change.move_node.Goals as goal

pub returns-clause-ok : goal.returns-clause-ok
returns-clause-ok g c =
    let state = c.args.state.now in
    let old = c.args.old.now in
    let new = c.args.new.now in
    let tick = state.tick + 1 in
    let sorted : c.put_all.new.sorted.items ≡ moved state.tree old new =
    c.put_all.ensures
    ∙ ap (λ (front : Tree _). put_all front (at_new_paths c.take.result.items c.in_ok-paths.paths.items)) c.in_ok-sorted.ensures.items
    ∙ ap (λ (places : Tree _). put_all [] (at_new_paths places c.in_ok-paths.paths.items)) c.take.ensures.items
    ∙ ap (λ (paths : List (Option Names)). put_all [] (at_new_paths state.tree paths)) (c.in_ok-paths.ensures ∙ ap (λ (places : Tree _). map (new_path old new) places) c.items.ensures)
    ∙ ap (put_all []) (repathed state.tree old new) in
    let first : c.restamp_all.new.places.items ≡ stamped (moved state.tree old new) (parent_of old) tick =
    c.restamp_all.ensures.items
    ∙ ap (λ (path : Names). stamped c.put_all.new.sorted.items path tick) c.parent_of.ensures
    ∙ ap (λ (tree : Tree _). stamped tree (parent_of old) tick) sorted in
    let second : c.of.result ≡ stamped (stamped (moved state.tree old new) (parent_of old) tick) (parent_of new) tick =
    c.of.ensures
    ∙ c.restamp_all-2.ensures.items
    ∙ ap (λ (path : Names). stamped c.restamp_all.new.places.items path tick) c.parent_of-2.ensures
    ∙ ap (λ (tree : Tree _). stamped tree (parent_of new) tick) first in
    ap (λ (tree : Tree _). record state { tree = tree }) second

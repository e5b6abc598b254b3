use Rattle.std.proofs.Common.{◌+◌, List, ◌++◌, drop, ap, ◌∙◌}
use Rattle.std.specs.List.{filter_map}
use Rattle.hs_types.specs.declared.reply.DirItem.{DirItem}
use Rattle.hs_plain.specs.Reading.{dir_item}
use Rattle.hs_plain.proofs.Steps.{filter_map_step}
use Rattle.hs_plain.proofs.reading.directory_list.Goals as goal

pub loop-place-preserved : goal.loop-place-preserved
loop-place-preserved g c =
    let item = dir_item c.args.state.now in
    let places = c.items-place-items.result.now in
    let i = c.loop-place.place-index in
    ap (λ (list : List DirItem). list ++ filter_map item (drop (i + 1) places)) c.in_ok-push_directory.ensures
    ∙ filter_map_step places i c.place-item.result c.loop-place.list.items c.loop-place-test.true c.place-item.is item
    ∙ c.loop-place.invariant

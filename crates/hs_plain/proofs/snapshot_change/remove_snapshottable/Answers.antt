use Rattle.std.proofs.Common.{◌≡◌, List, rules, not, ap, ◌∙◌}
use Rattle.std.specs.List.{filter}
use Rattle.std.proofs.lemmas.Fn.{filter_same}
use Rattle.hs_types.specs.declared.ids.InodeId.{InodeId}
use Rattle.hs_plain.specs.Tree.{same_inode}
use Rattle.hs_plain.proofs.snapshot_change.remove_snapshottable.Goals as goal

pub returns : goal.returns
returns g c =
    let state = c.args.state.now in
    let id = c.args.id in
    let kept : c.retain.new.self.items ≡ filter (λ other. not (same_inode other id)) c.take-ids.result.items =
    filter_same _ (λ other. not (same_inode other id)) _ (λ x b f' k. search rules) _ _ c.retain.ensures.filtered in
    ap (λ (ids : List InodeId). record state { snapshottable = ids }) (c.of.ensures ∙ kept ∙ ap (filter (λ other. not (same_inode other id))) c.take-ids.ensures.items)

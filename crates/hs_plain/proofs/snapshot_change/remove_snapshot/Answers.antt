use Rattle.std.proofs.Common.{◌≡◌, List, rules, not, ap, ◌∙◌}
use Rattle.std.specs.List.{filter}
use Rattle.std.proofs.lemmas.Fn.{filter_same}
use Rattle.hs_plain.specs.declared.state.Member.{Member}
use Rattle.hs_plain.specs.Change.{is_snapshot}
use Rattle.hs_plain.proofs.snapshot_change.remove_snapshot.Goals as goal

pub returns : goal.returns
returns g c =
    let state = c.args.state.now in
    let id = c.args.id in
    let kept : c.retain.new.self.items ≡ filter (λ member. not (is_snapshot id member)) c.take-members.result.items =
    filter_same _ (λ member. not (is_snapshot id member)) _ (λ x b f' k. search rules) _ _ c.retain.ensures.filtered in
    ap (λ (members : List (Member _)). record state { members = members }) (c.of.ensures ∙ kept ∙ ap (filter (λ member. not (is_snapshot id member))) c.take-members.ensures.items)

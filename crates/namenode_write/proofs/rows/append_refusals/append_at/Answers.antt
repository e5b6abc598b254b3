use Rattle.std.proofs.Common.{◌≡◌, sym, ap, ◌∙◌}
use Rattle.hs_types.specs.Names.{Names}
use Rattle.hs_types.specs.declared.ids.InodeId.{InodeId}
use Rattle.hs_plain.specs.declared.state.State.{State}
use Rattle.hs_plain.specs.declared.state.FileBlocks.{FileBlocks}
use Rattle.hs_plain.specs.declared.resolve.AskFault.TheVariants.{Refused}
use Rattle.hs_plain.specs.Asked.{Asked}
use Rattle.hs_plain.specs.Modifying.{append_at}
use Rattle.hs_plain.specs.Tree.{walk}
use Rattle.path_resolver.specs.Live.{id_walked}
use Rattle.namenode_write.proofs.AppendTests.{append_refused, append_dir, append_asked}
use Rattle.namenode_write.proofs.RowTests.{match_err}
use Rattle.namenode_write.proofs.rows.append_refusals.append_at.Goals as goal

walked_to : (state : State FileBlocks) (path names : Names) (there answer : Asked InodeId) → names ≡ path → there ≡ id_walked (walk state.tree names) → there ≡ answer → id_walked (walk state.tree path) ≡ answer
walked_to state path names there answer items tells is = ap (λ (p : Names). id_walked (walk state.tree p)) (sym items) ∙ sym tells ∙ is

pub returns-in_err-id : goal.returns-in_err-id
returns-in_err-id c snaps state all =
    match_err _ (Refused c.in_err-id.field-0.0) _ (append_at state c.args.text.now) c.from_residual-in_err-id.ensures.1
    (append_refused state c.args.text.now c.in_ok-path.path c.in_ok-path.ensures c.in_err-id.field-0.0 (walked_to state c.in_ok-path.path c.items.result.now c.live.result _ c.items.ensures (c.live.ensures.walk snaps state all) c.in_err-id.was))

pub returns-in_err-refuse_if : goal.returns-in_err-refuse_if
returns-in_err-refuse_if c snaps state all =
    match_err _ (Refused c.in_err-refuse_if.field-0.0) _ (append_at state c.args.text.now) c.from_residual-in_err-refuse_if.ensures.1
    (append_dir state c.args.text.now c.in_ok-path.path c.in_ok-path.ensures c.in_ok-id.id c.is_dir_at.result
    (walked_to state c.in_ok-path.path c.items.result.now c.live.result _ c.items.ensures (c.live.ensures.walk snaps state all) c.in_ok-id.was)
    (λ p node at same. c.is_dir_at.ensures snaps state all p node at same) c.in_err-refuse_if.field-0.0 (sym c.refuse_if.ensures ∙ c.in_err-refuse_if.was))

pub returns : goal.returns
returns c snaps state all =
    append_asked state c.args.text.now c.in_ok-path.path c.in_ok-path.ensures c.in_ok-id.id c.is_dir_at.result
    (walked_to state c.in_ok-path.path c.items.result.now c.live.result _ c.items.ensures (c.live.ensures.walk snaps state all) c.in_ok-id.was)
    (λ p node at same. c.is_dir_at.ensures snaps state all p node at same) c.in_ok-refuse_if.field-0 (sym c.refuse_if.ensures ∙ c.in_ok-refuse_if.was)

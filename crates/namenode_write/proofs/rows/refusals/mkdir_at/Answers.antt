use Rattle.std.proofs.Common.{sym, ap, ◌∙◌, Option}
use Rattle.std.specs.Prelude.{is_some}
use Rattle.hs_types.specs.Names.{Names}
use Rattle.hs_types.specs.declared.ids.InodeId.{InodeId}
use Rattle.hs_types.specs.declared.refusal.Refusal.TheVariants.{Exists}
use Rattle.hs_plain.specs.declared.resolve.AskFault.TheVariants.{Refused}
use Rattle.hs_plain.specs.Asked.{refuse_if}
use Rattle.hs_plain.specs.Tree.{node_at, walks_above}
use Rattle.hs_plain.specs.Modifying.{mkdir_at}
use Rattle.inode_table.specs.Reads.{id_of}
use Rattle.namenode_write.proofs.RowTests.{match_err, mkdir_refused, mkdir_asked}
use Rattle.namenode_write.proofs.rows.refusals.mkdir_at.Goals as goal

pub returns-in_err-walks_above : goal.returns-in_err-walks_above
returns-in_err-walks_above c snaps state all =
    match_err _ (Refused c.in_err-walks_above.field-0.0) _ (mkdir_at state c.args.text.now) c.from_residual-in_err-walks_above.ensures.1
    (mkdir_refused state c.args.text.now c.in_ok-path.path c.in_ok-path.ensures c.in_err-walks_above.field-0.0
    (ap (λ (p : Names). walks_above state.tree p) (sym c.items.ensures) ∙ sym (c.walks_above.ensures snaps state all) ∙ c.in_err-walks_above.was))

pub returns : goal.returns
returns c snaps state all =
    mkdir_asked state c.args.text.now c.in_ok-path.path c.in_ok-path.ensures c.in_ok-walks_above.field-0 c.in_ok-refuse_if.field-0
    (ap (λ (p : Names). walks_above state.tree p) (sym c.items.ensures) ∙ sym (c.walks_above.ensures snaps state all) ∙ c.in_ok-walks_above.was)
    (ap (λ (p : Names). refuse_if (is_some (id_of (node_at state.tree p))) Exists) (sym c.items-2.ensures) ∙ ap (λ (o : Option InodeId). refuse_if (is_some o) Exists) (sym (c.node_there.ensures snaps state all))
    ∙ ap (λ b. refuse_if b Exists) (sym c.is_some-taken.ensures) ∙ sym c.refuse_if.ensures ∙ c.in_ok-refuse_if.was)

use Rattle.std.proofs.Common.{sym, ◌∙◌, subst, Err}
use Rattle.hs_types.specs.declared.ids.CallerId.{CallerId}
use Rattle.hs_types.specs.declared.ids.Side.TheVariants.{Target}
use Rattle.copy_workers.specs.Calls.{look_at, IsChange}
use Rattle.copy_workers.proofs.Calling.{refused_write}
use Rattle.copy_workers.proofs.copying.change.Goals as goal

pub returns-else-is_ok_reply-clause-changed : goal.returns-else-is_ok_reply-clause-changed
returns-else-is_ok_reply-clause-changed g c =
    let old = g.L.NameLink.known c.args.target.now in
    let new = g.L.NameLink.known c.write.new.link in
    subst (λ (caller : CallerId). IsChange old new c.args.call c.args.made.now.items c.write.new.made.items (Err (look_at Target caller c.in-Ok.answered))) (sym c.caller-caller.ensures.caller)
    (refused_write old new c.args.call c.args.made.now.items c.write.new.made.items c.in-Ok.answered (sym c.is_ok_reply.ensures ∙ c.if-is_ok_reply.false) c.in-Ok.ensures.written)

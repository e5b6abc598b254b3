use Rattle.std.proofs.Common.{List, [], ◌∷◌, ◌++◌, ap, ◌∙◌}
use Rattle.hs_types.specs.declared.reply.Answered.{Answered}
use Rattle.script_runner.proofs.Asking.{one_kept}
use Rattle.script_runner.proofs.commands.ask_and_keep.Goals as goal

pub returns-clause-asked : goal.returns-clause-asked
returns-clause-asked g c =
    one_kept c.args.kind (g.L.NameLink.known c.args.link.now) (g.L.NameLink.known c.call-answered.new.self) c.args.call c.call-answered.result c.args.cursors.now c.keep.new.self c.of.result
    (c.of.ensures ∙ c.in_ok-push.ensures.items ∙ ap (λ (xs : List Answered). xs ++ c.call-answered.result ∷ []) c.new-replies.ensures.items) c.in_ok-keep.ensures c.call-answered.ensures.call

use Rattle.std.proofs.Common.{List, [], ◌∷◌, ◌++◌, ap, ◌∙◌}
use Rattle.hs_types.specs.declared.reply.Answered.{Answered}
use Rattle.script_runner.proofs.Asking.{one_asked}
use Rattle.script_runner.proofs.commands.ask_once.Goals as goal

pub returns-clause-asked : goal.returns-clause-asked
returns-clause-asked g c =
    one_asked (g.L.NameLink.known c.args.link.now) (g.L.NameLink.known c.call.new.self) c.args.call c.call.result c.of.result
    (c.of.ensures ∙ c.in_ok-push.ensures.items ∙ ap (λ (xs : List Answered). xs ++ c.call.result ∷ []) c.new-replies.ensures.items) c.call.ensures.call

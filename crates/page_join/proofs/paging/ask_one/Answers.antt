use Rattle.std.specs.Prelude.{◌≡◌, true, is_some}
use Rattle.page_join.specs.Paging.{next_call, AreCutOff}
use Rattle.page_join.proofs.Asked.{one_cut, on_err}
use Rattle.page_join.proofs.paging.ask_one.Goals as goal

pub returns-clause-cut_off : goal.returns-clause-cut_off
returns-clause-cut_off g c =
    on_err c.next_call-next.result (is_some (next_call c.args.paging.now c.call-answered.result.reply) ≡ true)
    (AreCutOff c.args.paging.now (g.L.NameLink.known c.args.link.now) (g.L.NameLink.known c.call-answered.new.self) c.args.call)
    (one_cut c.args.paging.now (g.L.NameLink.known c.args.link.now) (g.L.NameLink.known c.call-answered.new.self) c.args.call c.call-answered.result c.requires.reads c.call-answered.ensures.call)
    c.next_call-next.ensures.wanting

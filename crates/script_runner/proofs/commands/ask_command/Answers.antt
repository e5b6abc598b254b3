use Rattle.std.proofs.Common.{refl, sym, subst}
use Rattle.std.specs.Prelude.{Some}
use Rattle.run_output.specs.Calls.{IsOne}
use Rattle.script_runner.specs.declared.commands.Ask.{Ask}
use Rattle.script_runner.specs.Commands.{AreAll, AreAsked, IsFirstAsked, IsMoreAsked, IsAskDone}
use Rattle.script_runner.proofs.Asking.{if_ok, call_asked, all_asked, first_asked, more_asked}
use Rattle.script_runner.proofs.commands.ask_command.Goals as goal

pub returns-in-Call-clause-asked : goal.returns-in-Call-clause-asked
returns-in-Call-clause-asked g c =
    let old = g.L.NameLink.known c.args.link.now in
    let new = g.L.NameLink.known c.ask_once.new.link in
    let kept = c.args.cursors.now in
    if_ok c.ask_once.result (AreAsked old new (IsOne (Some c.in-Call.call))) (IsAskDone c.args.page c.args.ask old new kept kept)
    (λ replies asked. subst (λ (ask : Ask). IsAskDone c.args.page ask old new kept kept replies) (sym c.in-Call.is) (call_asked c.args.page old new kept kept replies c.in-Call.call refl asked))
    c.ask_once.ensures.asked

pub returns-in-All-clause-asked : goal.returns-in-All-clause-asked
returns-in-All-clause-asked g c =
    let old = g.L.NameLink.known c.args.link.now in
    let new = g.L.NameLink.known c.ask_all.new.link in
    let kept = c.args.cursors.now in
    if_ok c.ask_all.result (AreAsked old new (AreAll c.args.page c.in-All.pages)) (IsAskDone c.args.page c.args.ask old new kept kept)
    (λ replies asked. subst (λ (ask : Ask). IsAskDone c.args.page ask old new kept kept replies) (sym c.in-All.is) (all_asked c.args.page old new kept kept replies c.in-All.pages refl asked))
    c.ask_all.ensures.asked

pub returns-in-First-clause-asked : goal.returns-in-First-clause-asked
returns-in-First-clause-asked g c =
    let old = g.L.NameLink.known c.args.link.now in
    let new = g.L.NameLink.known c.ask_first.new.link in
    let kept = c.args.cursors.now in
    let now = c.ask_first.new.cursors in
    if_ok c.ask_first.result (IsFirstAsked c.args.page c.in-First.pages old new kept now) (IsAskDone c.args.page c.args.ask old new kept now)
    (λ replies asked. subst (λ (ask : Ask). IsAskDone c.args.page ask old new kept now replies) (sym c.in-First.is) (first_asked c.args.page old new kept now replies c.in-First.pages asked))
    c.ask_first.ensures.asked

pub returns-in-More-clause-asked : goal.returns-in-More-clause-asked
returns-in-More-clause-asked g c =
    let old = g.L.NameLink.known c.args.link.now in
    let new = g.L.NameLink.known c.ask_more.new.link in
    let kept = c.args.cursors.now in
    let now = c.ask_more.new.cursors in
    if_ok c.ask_more.result (IsMoreAsked c.args.page c.in-More.kind old new kept now) (IsAskDone c.args.page c.args.ask old new kept now)
    (λ replies asked. subst (λ (ask : Ask). IsAskDone c.args.page ask old new kept now replies) (sym c.in-More.is) (more_asked c.args.page old new kept now replies c.in-More.kind asked))
    c.ask_more.ensures.asked

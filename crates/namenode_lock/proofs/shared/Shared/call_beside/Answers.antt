use Rattle.std.proofs.Common.{rules, ◌≡◌, List, subst}
use Rattle.hs_types.specs.declared.journal.Entry.{Entry}
use Rattle.page_join.specs.Links.{next_number}
use Rattle.turn_lock.specs.Seats.{Lock}
use Rattle.namenode_lock.specs.Held.{IsLawfulHistory, IsAtEnd}
use Rattle.namenode_lock.proofs.Calls.{unentered_at_end, wanting_at_end}
use Rattle.namenode_lock.proofs.Passing.{passed, counted, passed_call}
use Rattle.namenode_lock.proofs.shared.Shared.call_beside.Goals as goal

pub returns-in-Ok-clause-call : goal.returns-in-Ok-clause-call
returns-in-Ok-clause-call g c =
    let now = c.args.pass.now in
    let seat = c.pass.inside.seat in
    let log = c.look.new.seat.seen in
    let is : passed seat c.pass.inside.caller c.pass.inside.calls ≡ counted now = search rules in
    let lock : c.self.inside.lock ≡ seat.lock = search rules in
    let lawful : IsLawfulHistory seat.lock.kept log = subst (λ (l : Lock). IsLawfulHistory l.kept log) lock c.look.ensures.lawful in
    let found : c.deref.result.now.node.entries ≡ log = search rules in
    passed_call now seat c.look.new.seat c.pass.inside.caller c.pass.inside.calls c.count_call.ensures.within is c.pass.invariant.0 c.count_call.ensures.lawful.limited
    log log c.args.call c.ask.result c.look.ensures.seen c.look.ensures.seat lawful
    (subst (λ (l : List Entry). IsAtEnd seat.lock.kept.tells seat.lock.kept.limit l l now.caller (next_number now.calls) c.args.call c.ask.result) found
    (unentered_at_end seat.lock.kept.tells seat.lock.kept.limit c.deref.result.now.node.entries now.caller (next_number now.calls) c.args.call c.ask.result
    (c.ask.ensures.legal seat.lock.kept.tells seat.lock.kept.limit now.caller (next_number now.calls)) c.ask.ensures.place c.ask.ensures.none))

pub returns-in-Err-clause-call : goal.returns-in-Err-clause-call
returns-in-Err-clause-call g c =
    let now = c.args.pass.now in
    let seat = c.pass.inside.seat in
    let log = c.look.new.seat.seen in
    let is : passed seat c.pass.inside.caller c.pass.inside.calls ≡ counted now = search rules in
    let lock : c.self.inside.lock ≡ seat.lock = search rules in
    let lawful : IsLawfulHistory seat.lock.kept log = subst (λ (l : Lock). IsLawfulHistory l.kept log) lock c.look.ensures.lawful in
    passed_call now seat c.look.new.seat c.pass.inside.caller c.pass.inside.calls c.count_call.ensures.within is c.pass.invariant.0 c.count_call.ensures.lawful.limited
    log log c.args.call _ c.look.ensures.seen c.look.ensures.seat lawful
    (wanting_at_end seat.lock.kept.tells seat.lock.kept.limit log now.caller (next_number now.calls) c.args.call c.in-Err.want.length c.in-Err.ensures.length)

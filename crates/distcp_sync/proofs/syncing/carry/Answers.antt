use Rattle.std.proofs.Common.{List, Ok, Err, sym, subst}
use Rattle.hs_plain.specs.declared.plan.CopyJob.{CopyJob}
use Rattle.hs_plain.specs.Plan.{move_calls}
use Rattle.distcp_sync.specs.declared.answer.SyncAnswer.{SyncAnswer}
use Rattle.distcp_sync.specs.inside.Ran.{HasCarried}
use Rattle.distcp_sync.specs.inside.Tried.{AreCopiedWith}
use Rattle.distcp_sync.proofs.Running.{err_from, none_still, all_done, carried_moving, carried_no_copies, carried_copying, carried_ending}
use Rattle.distcp_sync.proofs.syncing.carry.Goals as goal

pub returns-in_err-make_moves-clause-carried : goal.returns-in_err-make_moves-clause-carried
returns-in_err-make_moves-clause-carried g c =
    let source = g.L.NameLink.known c.args.source.now in
    let target = g.L.NameLink.known c.args.target.now in
    let target_then = g.L.NameLink.known c.make_moves.new.target in
    let answer = c.in_err-make_moves.field-0.0 in
    err_from (HasCarried c.args.start.now c.args.root.now c.args.plan.now source source target target_then c.make_moves.new.made.items c.args.copies.now.items c.args.looks.now.items c.make_moves.new.looks.items) c.from_residual.result answer c.from_residual.ensures.1
    (carried_moving c.args.start.now c.args.root.now c.args.plan.now source target target_then c.args.moves.now.items c.make_moves.new.made.items c.args.copies.now.items c.args.looks.now.items c.make_moves.new.looks.items answer c.requires.no_moves c.requires.no_copies c.in_err-make_moves.ensures.tried)

pub returns-in_err-reserve_copies-clause-carried : goal.returns-in_err-reserve_copies-clause-carried
returns-in_err-reserve_copies-clause-carried g c =
    let source = g.L.NameLink.known c.args.source.now in
    let target = g.L.NameLink.known c.args.target.now in
    let target_now = g.L.NameLink.known c.make_moves.new.target in
    let answer = c.in_err-reserve_copies.field-0.0 in
    let moved = all_done target target_now (move_calls c.args.root.now c.args.plan.now) c.args.moves.now.items c.make_moves.new.made.items c.args.looks.now.items c.make_moves.new.looks.items c.in_ok-make_moves.ensures.tried in
    let no_copies = none_still c.args.copies.now.items c.reserve_copies.new.copies.items c.reserve_copies.ensures.same c.requires.no_copies in
    err_from (HasCarried c.args.start.now c.args.root.now c.args.plan.now source source target target_now c.make_moves.new.made.items c.reserve_copies.new.copies.items c.args.looks.now.items c.make_moves.new.looks.items) c.from_residual-in_err-reserve_copies.result answer c.from_residual-in_err-reserve_copies.ensures.1
    (subst (λ (a : SyncAnswer). HasCarried c.args.start.now c.args.root.now c.args.plan.now source source target target_now c.make_moves.new.made.items c.reserve_copies.new.copies.items c.args.looks.now.items c.make_moves.new.looks.items (Err a)) (sym c.in_err-reserve_copies.ensures.wanting)
    (carried_no_copies c.args.start.now c.args.root.now c.args.plan.now source target target_now c.args.moves.now.items c.make_moves.new.made.items c.args.looks.now.items c.make_moves.new.looks.items c.requires.no_moves moved c.reserve_copies.new.copies.items no_copies))

pub returns-in_err-copy_all-clause-carried : goal.returns-in_err-copy_all-clause-carried
returns-in_err-copy_all-clause-carried g c =
    let source = g.L.NameLink.known c.args.source.now in
    let source_then = g.L.NameLink.known c.copy_all.new.source in
    let target = g.L.NameLink.known c.args.target.now in
    let target_now = g.L.NameLink.known c.make_moves.new.target in
    let target_then = g.L.NameLink.known c.copy_all.new.target in
    let answer = c.in_err-copy_all.field-0.0 in
    let moved = all_done target target_now (move_calls c.args.root.now c.args.plan.now) c.args.moves.now.items c.make_moves.new.made.items c.args.looks.now.items c.make_moves.new.looks.items c.in_ok-make_moves.ensures.tried in
    let no_copies = none_still c.args.copies.now.items c.reserve_copies.new.copies.items c.reserve_copies.ensures.same c.requires.no_copies in
    let copied = subst (λ (jobs : List CopyJob). AreCopiedWith c.args.start.now.to c.args.root.now 0 jobs source source_then target_now target_then c.reserve_copies.new.copies.items c.copy_all.new.copies.items (Err answer)) c.items.ensures c.in_err-copy_all.ensures.copied in
    err_from (HasCarried c.args.start.now c.args.root.now c.args.plan.now source source_then target target_then c.make_moves.new.made.items c.copy_all.new.copies.items c.args.looks.now.items c.make_moves.new.looks.items) c.from_residual-in_err-copy_all.result answer c.from_residual-in_err-copy_all.ensures.1
    (carried_copying c.args.start.now c.args.root.now c.args.plan.now source target target_now c.args.moves.now.items c.make_moves.new.made.items c.args.looks.now.items c.make_moves.new.looks.items c.requires.no_moves moved source_then target_then c.reserve_copies.new.copies.items c.copy_all.new.copies.items answer no_copies copied)

pub returns-clause-carried : goal.returns-clause-carried
returns-clause-carried g c =
    let source = g.L.NameLink.known c.args.source.now in
    let source_then = g.L.NameLink.known c.copy_all.new.source in
    let target = g.L.NameLink.known c.args.target.now in
    let target_now = g.L.NameLink.known c.make_moves.new.target in
    let target_then = g.L.NameLink.known c.copy_all.new.target in
    let target_last = g.L.NameLink.known c.delete_tmp.new.target in
    let moved = all_done target target_now (move_calls c.args.root.now c.args.plan.now) c.args.moves.now.items c.make_moves.new.made.items c.args.looks.now.items c.make_moves.new.looks.items c.in_ok-make_moves.ensures.tried in
    let no_copies = none_still c.args.copies.now.items c.reserve_copies.new.copies.items c.reserve_copies.ensures.same c.requires.no_copies in
    let copied = subst (λ (jobs : List CopyJob). AreCopiedWith c.args.start.now.to c.args.root.now 0 jobs source source_then target_now target_then c.reserve_copies.new.copies.items c.copy_all.new.copies.items (Ok tt)) c.items.ensures c.in_ok-copy_all.ensures.copied in
    carried_ending c.args.start.now c.args.root.now c.args.plan.now source target target_now c.args.moves.now.items c.make_moves.new.made.items c.args.looks.now.items c.make_moves.new.looks.items c.requires.no_moves moved source_then target_then c.reserve_copies.new.copies.items c.copy_all.new.copies.items no_copies copied target_last c.delete_tmp.new.made.items c.delete_tmp.new.looks.items c.delete_tmp.result c.delete_tmp.ensures.tried

use Rattle.std.proofs.Common.{Some, refl, ◌∙◌, subst}
use Rattle.copy_workers.specs.Copying.{IsCopyTo}
use Rattle.copy_workers.specs.inside.Pages.{IsUpTo}
use Rattle.copy_workers.proofs.Paging.{err_at, upto_begun, upto_next, whole, ends_at_create, ends_at_page}
use Rattle.copy_workers.proofs.copying.copy_to.Goals as goal

pub returns-in_err-create-clause-copy : goal.returns-in_err-create-clause-copy
returns-in_err-create-clause-copy g c =
    let source = g.L.NameLink.known c.args.source.now in
    let target = g.L.NameLink.known c.args.target.now in
    let then = g.L.NameLink.known c.create.new.target in
    err_at c.from_residual.result c.in_err-create.field-0.0 (IsCopyTo c.args.path.now c.args.place source source target then c.create.new.made.items) c.from_residual.ensures.1
    (ends_at_create c.args.path.now c.args.place source target then c.args.made.now.items c.create.new.made.items c.in_err-create.field-0.0 c.requires.none c.in_err-create.ensures.created)

pub loop-next-init : goal.loop-next-init
loop-next-init g c =
    let source = g.L.NameLink.known c.args.source.now in
    let target = g.L.NameLink.known c.args.target.now in
    let then = g.L.NameLink.known c.create.new.target in
    record {
      source_number = refl;
      target_number = c.create.ensures.number;
      source_alone = refl;
      target_alone = c.create.ensures.alone;
      source_stays = g.met.L.NameLink.stays_first c.args.source.now;
      target_stays = c.create.ensures.stays;
      copied = upto_begun c.args.path.now c.args.place source target then c.args.made.now.items c.create.new.made.items c.requires.none c.in_ok-create.ensures.created;
    }

pub returns-in_err-next-clause-copy : goal.returns-in_err-next-clause-copy
returns-in_err-next-clause-copy g c =
    let source = g.L.NameLink.known c.args.source.now in
    let now = g.L.NameLink.known c.loop-next.source in
    let read = g.L.NameLink.known c.copy_page.new.source in
    let target = g.L.NameLink.known c.args.target.now in
    let new = g.L.NameLink.known c.loop-next.target in
    let then = g.L.NameLink.known c.copy_page.new.target in
    let up : IsUpTo c.args.path.now c.args.place source now target new c.loop-next.made.items (Some c.in-Some.cursor) = subst (IsUpTo c.args.path.now c.args.place source now target new c.loop-next.made.items) c.in-Some.is c.loop-next.invariant.copied in
    err_at c.from_residual-in_err-next.result c.in_err-next.field-0.0 (IsCopyTo c.args.path.now c.args.place source read target then c.copy_page.new.made.items) c.from_residual-in_err-next.ensures.1
    (ends_at_page c.args.path.now c.args.place source now read target new then c.loop-next.made.items c.copy_page.new.made.items c.in-Some.cursor up c.in_err-next.field-0.0 c.in_err-next.ensures.page)

pub loop-next-preserved : goal.loop-next-preserved
loop-next-preserved g c =
    let source = g.L.NameLink.known c.args.source.now in
    let now = g.L.NameLink.known c.loop-next.source in
    let read = g.L.NameLink.known c.copy_page.new.source in
    let target = g.L.NameLink.known c.args.target.now in
    let new = g.L.NameLink.known c.loop-next.target in
    let then = g.L.NameLink.known c.copy_page.new.target in
    let up : IsUpTo c.args.path.now c.args.place source now target new c.loop-next.made.items (Some c.in-Some.cursor) = subst (IsUpTo c.args.path.now c.args.place source now target new c.loop-next.made.items) c.in-Some.is c.loop-next.invariant.copied in
    record {
      source_number = c.copy_page.ensures.numbers.0 ∙ c.loop-next.invariant.source_number;
      target_number = c.copy_page.ensures.numbers.1 ∙ c.loop-next.invariant.target_number;
      source_alone = c.copy_page.ensures.alone.0 ∙ c.loop-next.invariant.source_alone;
      target_alone = c.copy_page.ensures.alone.1 ∙ c.loop-next.invariant.target_alone;
      source_stays = g.met.L.NameLink.stays_then c.args.source.now c.loop-next.source c.copy_page.new.source c.loop-next.invariant.source_stays c.copy_page.ensures.stays.0;
      target_stays = g.met.L.NameLink.stays_then c.args.target.now c.loop-next.target c.copy_page.new.target c.loop-next.invariant.target_stays c.copy_page.ensures.stays.1;
      copied = upto_next c.args.path.now c.args.place source now read target new then c.loop-next.made.items c.copy_page.new.made.items c.in-Some.cursor up c.in_ok-next.next c.in_ok-next.ensures.page;
    }

pub returns-clause-copy : goal.returns-clause-copy
returns-clause-copy g c =
    let source = g.L.NameLink.known c.args.source.now in
    let now = g.L.NameLink.known c.loop-next.source in
    let target = g.L.NameLink.known c.args.target.now in
    let new = g.L.NameLink.known c.loop-next.target in
    whole c.args.path.now c.args.place source now target new c.loop-next.made.items
    (subst (IsUpTo c.args.path.now c.args.place source now target new c.loop-next.made.items) c.in_default.is c.loop-next.invariant.copied)

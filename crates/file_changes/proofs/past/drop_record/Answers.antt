use Rattle.std.proofs.Common.{Some, sym, ap, subst, ◌∙◌, arith}
use Rattle.std.specs.Prelude.{vec_len, vec_capacity}
use Rattle.file_changes.specs.Inside.{IsPastKept, saves_in, saves_of}
use Rattle.file_changes.proofs.past.drop_record.Goals as goal

pub returns-clause-kept : goal.returns-clause-kept
returns-clause-kept c =
    let was : IsPastKept c.args.current.now.spot (Some c.in-Some.kept) = subst (IsPastKept c.args.current.now.spot) (sym c.take.ensures.value ∙ c.in-Some.is) c.requires.kept in
    let behind = c.deref_mut.ensures.value in
    c.unless_bare.ensures.kept c.args.current.now.spot (λ copy is. let kept = was copy (sym (ap (λ p. p.spare) behind) ∙ is) in record {
      spot = kept.spot;
      empty = kept.empty;
      room = omega (arith, kept.room, ap (λ p. vec_len p.records) behind, ap (λ p. vec_capacity p.records) behind, c.remove_record-blocks.ensures.len, c.remove_record-blocks.ensures.capacity);
    })

pub returns-clause-saves : goal.returns-clause-saves
returns-clause-saves c =
    c.unless_bare.ensures.saves c.args.current.now
    ∙ ap (λ p. saves_of c.args.current.now p.spare) c.deref_mut.ensures.value
    ∙ ap (saves_in c.args.current.now) (sym (sym c.take.ensures.value ∙ c.in-Some.is))

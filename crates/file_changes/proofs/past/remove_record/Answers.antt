use Rattle.std.proofs.Common.{ap, ◌∙◌, length, ◌<◌, arith}
use Rattle.std.specs.Prelude.{not, filter}
use Rattle.file_changes.specs.History.{names, without_record}
use Rattle.file_changes.proofs.Reading.{blocks_at-get_or}
use Rattle.file_changes.proofs.past.remove_record.Goals as goal

pub returns-clause-blocks : goal.returns-clause-blocks
returns-clause-blocks c =
    let rs = c.args.records.now.items in
    let lt : c.args.i < length rs = omega (arith, c.requires, c.args.records.now.ok.0) in
    let dropped = ap (λ r. r.state.blocks) c.remove-state.ensures.value ∙ blocks_at-get_or rs c.args.i c.remove-state.result lt in
    rw (c.of.ensures, c.keep_unnamed-blocks.ensures, c.into_vec.ensures, c.as_slice.ensures.value, c.remove-state.ensures.items)
    (ap (λ blocks. filter (λ block. not (names (without_record c.args.i (record { current = c.args.current.now; records = rs })) block)) blocks) dropped)

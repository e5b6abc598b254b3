use Rattle.std.proofs.Common.{Ok, sym, ap, ◌∙◌}
use Rattle.hs_plain.specs.declared.state.FileBlocks.{FileBlocks}
use Rattle.hs_plain.specs.Asked.{Asked, ◌>>=◌}
use Rattle.inode_table.specs.Kept.{told}
use Rattle.namenode_write.proofs.RowCursors.{next-refused, next-found}
use Rattle.namenode_write.proofs.RowFiles.{match_err}
use Rattle.namenode_write.proofs.rows.reading.next_file.Goals as goal

pub returns-in_err-stands_at-clause-found : goal.returns-in_err-stands_at-clause-found
returns-in_err-stands_at-clause-found c = λ state all.
    match_err c.from_residual.result c.in_err-stands_at.field-0.0 _ _ c.from_residual.ensures.1
    (next-refused (told c.args.table.now) c.args.snaps.now state all c.args.place c.in_err-stands_at.field-0.0 (sym (c.stands_at.ensures state all) ∙ c.in_err-stands_at.was))

pub returns-in_err-_file-clause-found : goal.returns-in_err-_file-clause-found
returns-in_err-_file-clause-found c = λ state all.
    match_err c.from_residual-in_err-_file.result c.in_err-_file.field-0.0 _ _ c.from_residual-in_err-_file.ensures.1
    (next-found (told c.args.table.now) c.args.snaps.now state all c.args.place c.in_ok-stands_at.field-0 (sym (c.stands_at.ensures state all) ∙ c.in_ok-stands_at.was)
    ∙ ap (λ (a : Asked FileBlocks). a >>= λ file. Ok (c.args.place, file)) c.in_err-_file.ensures)

pub returns-clause-found : goal.returns-clause-found
returns-clause-found c = λ state all.
    next-found (told c.args.table.now) c.args.snaps.now state all c.args.place c.in_ok-stands_at.field-0 (sym (c.stands_at.ensures state all) ∙ c.in_ok-stands_at.was)

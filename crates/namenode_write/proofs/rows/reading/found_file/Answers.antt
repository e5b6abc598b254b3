use Rattle.std.proofs.Common.{Ok, sym, ap, ◌∙◌}
use Rattle.hs_plain.specs.declared.state.FileBlocks.{FileBlocks}
use Rattle.hs_plain.specs.declared.resolve.AskFault.TheVariants.{Refused}
use Rattle.hs_plain.specs.inside.Faults.{IsFaultOf}
use Rattle.hs_plain.specs.Asked.{Asked, ◌>>=◌}
use Rattle.hs_plain.specs.Reading.{found_file as plain_found_file}
use Rattle.inode_table.specs.Kept.{told}
use Rattle.namenode_write.proofs.RowFiles.{found-so, match_err}
use Rattle.namenode_write.proofs.rows.reading.found_file.Goals as goal

pub returns-in_err-_file-clause-found : goal.returns-in_err-_file-clause-found
returns-in_err-_file-clause-found c = λ state all.
    match_err c.from_residual-in_err-_file.result (Refused c.in_err-_file.field-0.0) _ (IsFaultOf (plain_found_file state c.args.text.now)) c.from_residual-in_err-_file.ensures.1
    (found-so (told c.args.table.now) c.args.snaps.now state all c.args.text.now c.in_ok-path.path c.in_ok-place.place c.in_ok-path.ensures (sym (c.resolve.ensures state all) ∙ c.in_ok-place.was)
    ∙ ap (λ (a : Asked FileBlocks). a >>= λ file. Ok (c.in_ok-place.place, file)) c.in_err-_file.ensures)

pub returns-clause-found : goal.returns-clause-found
returns-clause-found c = λ state all.
    found-so (told c.args.table.now) c.args.snaps.now state all c.args.text.now c.in_ok-path.path c.in_ok-place.place c.in_ok-path.ensures (sym (c.resolve.ensures state all) ∙ c.in_ok-place.was)

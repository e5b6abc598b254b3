use Rattle.std.proofs.Common.{sym, ◌∙◌, map}
use Rattle.script_text.proofs.Keywords.{no_line}
use Rattle.script_text.proofs.line.line_of_words.Goals as goal

pub returns-in-Err : goal.returns-in-Err
returns-in-Err c =
    no_line c.args.standing c.args.first.now (map (λ word. word.now) c.args.rest.now) (sym c.is_comment.ensures ∙ c.if-is_comment.false) c.in-Err.ensures.cases.0

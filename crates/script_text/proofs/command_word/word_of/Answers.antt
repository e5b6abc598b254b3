use Rattle.std.proofs.Common.{sym}
use Rattle.script_text.proofs.Keywords.{no_word}
use Rattle.script_text.proofs.command_word.word_of.Goals as goal

pub returns-in-Err : goal.returns-in-Err
returns-in-Err c = sym (no_word c.args.word.now c.in-Err.ensures.cases.0)

use Rattle.std.proofs.Common.{rules}
use Rattle.std.proofs.lemmas.Iterator.{YieldsList-from_take}
use Rattle.std.proofs.lemmas.Iterator.Consumers.{map_from_collect, YieldsList-from_filter, YieldsList-at}
use Rattle.std.proofs.lemmas.Iterator.Splits.{YieldsList-from_slice_split}
use borrow.Author.Tests.{tests}
use Rattle.script_text.specs.Words.{is_blank, is_full, without_return}
use Rattle.script_text.proofs.words.first_words.Goals as goal

pub returns : goal.returns
returns c = map_from_collect _ c.collect.ensures.ran
    (YieldsList-from_take 6
    (YieldsList-at c.take.ensures.source
    (YieldsList-from_filter _ is_full
    (YieldsList-at c.filter.ensures.source (YieldsList-from_slice_split _ is_blank (without_return c.args.line.now) (cc) (cc) c.split.ensures.closure (λ x b q k. search (rules, tests))))
    c.filter.ensures.closure (λ x b q k. search (rules, tests))))
    c.take.ensures.count)

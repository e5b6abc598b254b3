use Rattle.std.proofs.Common.{◌≡◌, ◌∙◌, ap, subst, List, map, ℕ}
use Rattle.std.specs.List.{All}
use Rattle.std.specs.Str.{IsUtf8}
use Rattle.std.specs.Borrow.{Bor}
use Rattle.clap.specs.Words.{app_of, found_of, rows_of}
use Rattle.hsnap.specs.CommandLine.{meaning_of_words}
use Rattle.hsnap.proofs.ClapMeaning.{err-means, ok-means, read-refused, read-taken}
use Rattle.hsnap.proofs.command_line.read_words.Goals as goal

said_is : (said texts : List (Bor (List ℕ))) (items words : List (List ℕ)) → said ≡ texts → map (λ t. t.now) texts ≡ items → items ≡ words → map (λ t. t.now) said ≡ words
said_is said texts items words a b d = ap (map (λ (t : Bor (List ℕ)). t.now)) a ∙ (b ∙ d)

pub returns-in-Ok-clause-ok : goal.returns-in-Ok-clause-ok
returns-in-Ok-clause-ok c =
    let same = said_is _ _ _ _ c.as_slice.ensures.value c.in_ok-texts.ensures.same c.items.ensures in
    let meaning : c.words_in.result ≡ meaning_of_words c.args.words.now = read-taken c.args.words.now _ (app_of c.in_ok-command.command) (rows_of (found_of c.in-Ok.matches)) c.words_in.result c.in_ok-command.ensures same
    (subst (All IsUtf8) c.items.ensures c.in_ok-texts.ensures.spelled) c.in-Ok.ensures.kinds (λ simple. (c.in-Ok.ensures.matches simple).0) c.words_in.ensures in
    ok-means c.words_in.result _ _ c.ok_or.result c.ok_or.ensures.value meaning

pub returns-in-Ok-clause-usage : goal.returns-in-Ok-clause-usage
returns-in-Ok-clause-usage c =
    let same = said_is _ _ _ _ c.as_slice.ensures.value c.in_ok-texts.ensures.same c.items.ensures in
    let meaning : c.words_in.result ≡ meaning_of_words c.args.words.now = read-taken c.args.words.now _ (app_of c.in_ok-command.command) (rows_of (found_of c.in-Ok.matches)) c.words_in.result c.in_ok-command.ensures same
    (subst (All IsUtf8) c.items.ensures c.in_ok-texts.ensures.spelled) c.in-Ok.ensures.kinds (λ simple. (c.in-Ok.ensures.matches simple).0) c.words_in.ensures in
    λ usage. err-means c.words_in.result _ _ _ c.ok_or.result c.ok_or.ensures.value meaning usage

pub returns-clause-usage : goal.returns-clause-usage
returns-clause-usage c =
    let same = said_is _ _ _ _ c.as_slice.ensures.value c.in_ok-texts.ensures.same c.items.ensures in
    λ usage. read-refused c.args.words.now _ (app_of c.in_ok-command.command) c.in-Err.error c.in_ok-command.ensures same
    (subst (All IsUtf8) c.items.ensures c.in_ok-texts.ensures.spelled) c.in-Err.ensures.kinds (c.fault_of.ensures (cc))

use Rattle.std.proofs.Common.{rules, ◌≡◌, ◌∙◌, ap, length}
use Rattle.std.specs.Option.{unwrap_or}
use Rattle.std.specs.List.{position}
use Rattle.std.proofs.lemmas.Iterator.{YieldsList-from_slice}
use Rattle.std.proofs.lemmas.Iterator.Search.{position_from_yields_List}
use borrow.Author.Tests.{tests}
use Rattle.hs_types.specs.Names.{is_snapshot_word}
use Rattle.hs_types.proofs.Parts.{position_or_len-map, unwrap_or-position}
use Rattle.hs_types.proofs.path.snapshot_at.Goals as goal

pub returns-clause-at : goal.returns-clause-at
returns-clause-at c =
    let found : c.position.result ≡ position (λ part. is_snapshot_word part.now) c.args.parts.now =
    position_from_yields_List (λ part. is_snapshot_word part.now) _ _ c.position.result c.position.ensures.ran (YieldsList-from_slice c.args.parts.now (cc)) (λ x b q k. search (rules, tests)) in
    c.unwrap_or.ensures ∙ ap (λ o. unwrap_or o (length c.args.parts.now)) found
    ∙ unwrap_or-position (λ part. is_snapshot_word part.now) c.args.parts.now
    ∙ position_or_len-map is_snapshot_word (λ part. part.now) c.args.parts.now

use Rattle.std.proofs.Common.{◌≡◌, ◌+◌, ◌-◌, ◌∷◌, List, length, take, drop, ap, sym, ◌∙◌, arith}
use Rattle.std.specs.List.{slice_split}
use Rattle.std.proofs.lemmas.List.{take_all, length-drop}
use Rattle.script_text.specs.Words.{is_line_feed}
use Rattle.script_text.proofs.Lines.{first_none, first_some, line_before, last_line}
use Rattle.script_text.proofs.reader.first_line.Goals as goal

pub returns-in-Some-clause-lines : goal.returns-in-Some-clause-lines
returns-in-Some-clause-lines c =
    let bytes = c.args.bytes.now in
    let after = c.in-Some.end + 1 in
    let rest : take (length bytes - after) (drop after bytes) ≡ drop after bytes = take_all (length bytes - after) (drop after bytes) (omega (arith, length-drop after bytes)) in
    line_before bytes (take c.in-Some.end bytes) (take (length bytes - after) (drop after bytes))
    (first_some is_line_feed bytes c.in-Some.end (sym c.in-Some.ensures.place)
    ∙ ap (λ (more : List _). take c.in-Some.end bytes ∷ slice_split is_line_feed more) (sym rest))

pub returns-in-None-clause-lines : goal.returns-in-None-clause-lines
returns-in-None-clause-lines c =
    last_line c.args.bytes.now c.requires (first_none is_line_feed c.args.bytes.now (sym c.in-None.ensures.place))

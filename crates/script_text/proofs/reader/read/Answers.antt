use Rattle.std.proofs.Common.{rules, ◌≡◌, ◌+◌, Ok, arith}
use Rattle.std.specs.List.{fold}
use Rattle.std.proofs.lemmas.Grind.{common_steps}
use Rattle.script_text.specs.Words.{lines_of}
use Rattle.script_text.specs.Scripts.{start, read_line, meaning_of, IsFaultOf}
use Rattle.script_text.proofs.Results.{err_at}
use Rattle.script_text.proofs.Lines.{next_lines, bad_text, numbered}
use Rattle.script_text.proofs.Order.{script_order}
use Rattle.script_text.proofs.reader.read.Goals as goal

pub returns-in_err-read_line-clause-bad : goal.returns-in_err-read_line-clause-bad
returns-in_err-read_line-clause-bad c =
    err_at c.from_residual.result c.in_err-read_line.field-0.0 (IsFaultOf (meaning_of c.args.bytes.now)) c.from_residual.ensures.1
    (bad_text c.loop-rest.reading c.args.bytes.now c.loop-rest.rest.now c.first_line.result.0.now c.first_line.result.1.now c.in_err-read_line.field-0.0
    c.loop-rest.invariant.all c.first_line.ensures.lines c.in_err-read_line.ensures.bad)

pub loop-rest-preserved : goal.loop-rest-preserved
loop-rest-preserved c =
    let line : c.read_line.new.self.line ≡ c.loop-rest.reading.line + 1 = numbered c.loop-rest.reading c.read_line.new.self c.first_line.result.0.now c.in_ok-read_line.ensures.ok in
    record {
      all = next_lines (Ok c.loop-rest.reading) (Ok c.read_line.new.self) (fold read_line (Ok start) (lines_of c.args.bytes.now)) c.loop-rest.rest.now c.first_line.result.0.now c.first_line.result.1.now
          c.loop-rest.invariant.all c.first_line.ensures.lines c.in_ok-read_line.ensures.ok;
      numbered = omega arith;
    }

pub returns-clause-clients : goal.returns-clause-clients
returns-clause-clients c =
    let script : meaning_of c.args.bytes.now ≡ Ok c.into_script.result = first_of (search rules, grind (arith, common_steps)) in
    (script_order c.args.bytes.now c.into_script.result script).1

pub returns-clause-order : goal.returns-clause-order
returns-clause-order c =
    let script : meaning_of c.args.bytes.now ≡ Ok c.into_script.result = first_of (search rules, grind (arith, common_steps)) in
    (script_order c.args.bytes.now c.into_script.result script).0

use Rattle.std.proofs.Common.{◌≡◌, ap, ◌∙◌}
use Rattle.std.specs.Prelude.{insert, is_ok, if◌then◌else◌}
use Rattle.std.specs.List.{prefix_len}
use Rattle.hs_plain.specs.Report.{line_before}
use Rattle.hs_plain.proofs.Reports.{with_line_at}
use Rattle.hs_plain.proofs.report.put_line.Goals as goal

pub returns : goal.returns
returns c =
    let line = c.args.line in
    let lines = c.args.lines.now.items in
    let rank : c.rank_of-rank.result ≡ prefix_len (λ other. line_before other line) lines = c.rank_of-rank.ensures.rank ∙ ap (prefix_len (λ other. line_before other line)) c.as_slice.ensures.value in
    let put : c.insert.new.self.items ≡ insert lines c.rank_of-rank.result line =
    c.insert.ensures.items ∙ ap (λ r. if is_ok r then insert lines c.rank_of-rank.result line else lines) c.in_ok-insert.was in
    put ∙ ap (λ n. insert lines n line) rank ∙ with_line_at line lines

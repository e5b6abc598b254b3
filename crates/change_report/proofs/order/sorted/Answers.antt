use Rattle.std.proofs.Common.{rules}
use Rattle.std.proofs.lemmas.Fn.{dedup_same}
use Rattle.std.proofs.lemmas.List.Sorted.{answers_always}
use Rattle.hs_plain.specs.Report.{line_before}
use Rattle.change_report.proofs.Sorting.{is_again, lines-order, sorted-once}
use Rattle.change_report.proofs.order.sorted.Goals as goal

pub returns : goal.returns
returns c = sorted-once c.args.lines.items c.sort_unstable_by.new.self.items c.dedup_by.new.self.items c.sort_unstable_by.ensures.permutation
    (c.sort_unstable_by.ensures.sorted line_before lines-order (answers_always _ _ _ (λ f a r f' k. search rules)))
    (dedup_same _ is_again _ (λ x y b f' x' y' k. search rules) c.sort_unstable_by.new.self.items c.dedup_by.new.self.items c.dedup_by.ensures.filtered)

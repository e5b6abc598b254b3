use Rattle.std.proofs.Common.{◌+◌, List, ◌++◌, drop, get_or, ap, ◌∙◌, arith}
use Rattle.std.specs.List.{flat_map}
use Rattle.std.proofs.lemmas.List.{get_or_default, drop_more}
use Rattle.report_laws.specs.Costs.{looks_at, entries_apart}
use Rattle.hs_types.specs.declared.reply.Line.{Line}
use Rattle.hs_plain.proofs.Steps.{flat_map_step}
use Rattle.inode_table.specs.Kept.{told}
use Rattle.change_report.specs.Found.{row_lines}
use Rattle.change_report.proofs.moved.lines_of.Goals as goal

pub loop-id-preserved : goal.loop-id-preserved
loop-id-preserved c =
    let lines = row_lines (told c.args.table.now.table) c.args.ends in
    let ids = c.args.ids.now in
    let i = c.loop-id.id-index in (
      ap (λ (front : List Line). front ++ flat_map lines (drop (i + 1) ids)) (rw c.loop-id.invariant.1 at c.in_ok-push_row.ensures.lines)
          ∙ flat_map_step ids i (get_or ids i (record { 0 = 0 })) c.loop-id.lines.items c.loop-id-test.true (get_or_default ids i (record { 0 = 0 }) (get_or ids i (record { 0 = 0 })) c.loop-id-test.true) lines
          ∙ c.loop-id.invariant.0,
      c.in_ok-push_row.ensures.table ∙ c.loop-id.invariant.1,
      λ h within.
          let before = c.loop-id.invariant.2 h within in
          let one = (rw c.loop-id.invariant.1 at c.push_row.ensures.ticks) h within in
          let left = ap (looks_at h (entries_apart (told c.args.table.now.table) c.args.ends.root c.args.ends.from c.args.ends.to)) (drop_more ids i (record { 0 = 0 }) c.loop-id-test.true) in
          omega (arith, before, one, left),
    )

pub returns-in_err-push_row-clause-ticks : goal.returns-in_err-push_row-clause-ticks
returns-in_err-push_row-clause-ticks c = λ h within.
    let ids = c.args.ids.now in
    let i = c.loop-id.id-index in
    let before = c.loop-id.invariant.2 h within in
    let one = (rw c.loop-id.invariant.1 at c.push_row.ensures.ticks) h within in
    let left = ap (looks_at h (entries_apart (told c.args.table.now.table) c.args.ends.root c.args.ends.from c.args.ends.to)) (drop_more ids i (record { 0 = 0 }) c.loop-id-test.true) in
    omega (arith, before, one, left)

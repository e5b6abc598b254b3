use Rattle.std.proofs.Common.{◌≡◌, ℕ, ◌+◌, ◌*◌, ◌≤◌, cond, List, ◌∷◌, ◌++◌, length, drop, get_or, sym, ap, subst, ◌∙◌, arith}
use Rattle.std.specs.List.{filter_map}
use Rattle.std.proofs.lemmas.List.{drop_more}
use Rattle.hs_types.specs.declared.reply.Line.{Line}
use Rattle.hs_plain.proofs.Steps.{filter_map_step}
use Rattle.dir_changes.specs.Entries.{Entry, Entries, holds}
use Rattle.dir_changes.specs.History.{children_at}
use Rattle.inode_table.specs.Kept.{TableValue, told}
use Rattle.inode_table.specs.RowHistory.{shown}
use Rattle.report_laws.specs.Chains.{HasChainsWithin}
use Rattle.report_laws.specs.Listed.{only_in}
use Rattle.change_report.specs.Found.{entry_line}
use Rattle.change_report.proofs.Ticks.{one-fewer}
use Rattle.change_report.proofs.listed.push_entries.Goals as goal

pub loop-child-preserved : goal.loop-child-preserved
loop-child-preserved c =
    let line = entry_line (told c.args.table.now.table) c.args.side c.args.path.now c.args.dir.now.history in
    let children : Entries = c.args.children.now in
    let other : Entries = children_at c.args.side.other.0 c.args.dir.now.history in
    let i : ℕ = c.loop-child.child-index in
    let item : Entry = c.child-item.result in
    let is : item ≡ get_or children i item = cc (c.child-item.is) in
    let left : drop i children ≡ item ∷ drop (i + 1) children = drop_more children i item c.loop-child-test.true ∙ ap (λ (e : Entry). e ∷ drop (i + 1) children) (sym is) in (
      ap (λ (front : List Line). front ++ filter_map line (drop (i + 1) children)) (rw c.loop-child.invariant.1 at c.in_ok-push_entry.ensures.lines)
          ∙ filter_map_step children i item c.loop-child.lines.items c.loop-child-test.true is line
          ∙ c.loop-child.invariant.0,
      c.in_ok-push_entry.ensures.table ∙ c.loop-child.invariant.1,
      λ h chains.
          let k : ℕ = 1 + (1 + h) in
          let before = c.loop-child.invariant.2 h chains in
          let one : c.push_entry.new.table.ticks ≤ c.loop-child.table.ticks + cond (holds other item) 0 k =
          c.push_entry.ensures.ticks h (subst (λ (t : TableValue). HasChainsWithin (shown (told t).rows c.args.side.other.0) h) (sym c.loop-child.invariant.1) chains) in
          let fewer : length (only_in (drop i children) other) * k ≡ cond (holds other item) 0 k + length (only_in (drop (i + 1) children) other) * k =
          ap (λ (l : Entries). length (only_in l other) * k) left ∙ one-fewer other (drop (i + 1) children) item k in
          omega (arith, before, one, fewer),
    )

pub returns-in_err-push_entry-clause-ticks : goal.returns-in_err-push_entry-clause-ticks
returns-in_err-push_entry-clause-ticks c = λ h chains.
    let children : Entries = c.args.children.now in
    let other : Entries = children_at c.args.side.other.0 c.args.dir.now.history in
    let i : ℕ = c.loop-child.child-index in
    let item : Entry = c.child-item.result in
    let is : item ≡ get_or children i item = cc (c.child-item.is) in
    let left : drop i children ≡ item ∷ drop (i + 1) children = drop_more children i item c.loop-child-test.true ∙ ap (λ (e : Entry). e ∷ drop (i + 1) children) (sym is) in
    let k : ℕ = 1 + (1 + h) in
    let before = c.loop-child.invariant.2 h chains in
    let one : c.push_entry.new.table.ticks ≤ c.loop-child.table.ticks + cond (holds other item) 0 k =
    c.push_entry.ensures.ticks h (subst (λ (t : TableValue). HasChainsWithin (shown (told t).rows c.args.side.other.0) h) (sym c.loop-child.invariant.1) chains) in
    let fewer : length (only_in (drop i children) other) * k ≡ cond (holds other item) 0 k + length (only_in (drop (i + 1) children) other) * k =
    ap (λ (l : Entries). length (only_in l other) * k) left ∙ one-fewer other (drop (i + 1) children) item k in
    omega (arith, before, one, fewer)

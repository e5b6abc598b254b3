use Rattle.std.proofs.Common.{◌≡◌, ℕ, Bool, false, List, sym, ap, subst, ◌∙◌}
use Rattle.std.specs.Prelude.{◌==◌, min, max}
use Rattle.std.specs.List.{Contains}
use Rattle.std.proofs.lemmas.Bool.Decides.{Decides-eqb}
use Rattle.hs_types.specs.declared.ids.InodeId.{InodeId}
use Rattle.hs_types.specs.declared.ids.SnapId.{SnapId}
use Rattle.hs_types.specs.declared.reply.Line.{Line}
use Rattle.hs_plain.specs.Reading.{lines_between}
use Rattle.hs_plain.proofs.ValidLists.{In, in-contains}
use Rattle.hs_plain.proofs.ValidShapes.{true_false}
use Rattle.inode_table.specs.Indexed.{made_between}
use Rattle.inode_table.specs.Kept.{told}
use Rattle.change_report.specs.declared.ends.Ends.{Ends}
use Rattle.change_report.specs.Candidates.{tick_at}
use Rattle.change_report.specs.Sorting.{AreSorted}
use Rattle.change_report.proofs.Costing.{report-looks}
use Rattle.change_report.proofs.EndRows.{same-ends, report-told}
use Rattle.change_report.proofs.reporting.report.Goals as goal

pub returns-then-eq-clause-lines : goal.returns-then-eq-clause-lines
returns-then-eq-clause-lines c = λ state few all is_root from_own to_own.
    let same : c.args.from ≡ c.args.to = (λ i. record { 0 = (Decides-eqb c.args.from.0 c.args.to.0).0 (sym c.eq.ensures ∙ c.if-eq.true) i }) in
    c.new.ensures ∙ sym (same-ends (told c.args.table.now.table) c.args.snaps.now state few all c.always.ensures.proper c.args.root is_root c.args.from from_own) ∙ ap (λ (end : SnapId). lines_between state c.args.root c.args.from end) same

differs : (same : Bool) (a b : ℕ) → same ≡ (a == b) → same ≡ false → a ≡ b → ⊥
differs same a b is fails e = true_false ((Decides-eqb a b).1 e) (sym is ∙ fails)

pub returns-clause-lines : goal.returns-clause-lines
returns-clause-lines c = λ state few all is_root from_own to_own.
    let t = told c.args.table.now.table in
    let snaps = c.args.snaps.now in
    let ends : Ends = record { root = c.args.root; from = c.args.from; to = c.args.to } in
    let ids : List InodeId = c.items.result.now in
    let listed : ids ≡ c.in_ok-ids.ids = c.items.ensures in
    let low : c.min.result ≡ min (tick_at snaps c.args.from) (tick_at snaps c.args.to) = c.min.ensures ∙ (λ i. min (c.tick_at-first.ensures i) (c.tick_at-last.ensures i)) in
    let high : c.max.result ≡ max (tick_at snaps c.args.from) (tick_at snaps c.args.to) = c.max.ensures ∙ (λ i. max (c.tick_at-first.ensures i) (c.tick_at-last.ensures i)) in
    c.of.ensures ∙ report-told t snaps state few all c.always.ensures.proper c.args.root is_root c.args.from c.args.to from_own to_own
    (differs c.eq.result c.args.from.0 c.args.to.0 c.eq.ensures c.if-eq.false)
    ids
    (λ x h. subst (λ (l : List InodeId). In l x) (sym listed) (in-contains c.in_ok-ids.ids x (c.in_ok-ids.ensures.found x (subst (λ n. Contains (made_between n c.max.result t.rows t.index) x) (sym low) (subst (λ n. Contains (made_between (min (tick_at snaps c.args.from) (tick_at snaps c.args.to)) n t.rows t.index) x) (sym high) h)))))
    c.sorted.result.items (subst (λ (lines : List Line). AreSorted lines c.sorted.result.items) c.in_ok-lines.ensures.lines c.sorted.ensures)

pub returns-in_err-lines-clause-ticks : goal.returns-in_err-lines-clause-ticks
returns-in_err-lines-clause-ticks c = λ state journal longest few all stands is_root from_own to_own at_from at_to.
    report-looks (told c.args.table.now.table) c.args.snaps.now state few all c.always.ensures.proper c.args.root is_root journal c.args.from c.args.to c.in_ok-ids.ids c.min.result c.max.result longest
    c.args.table.now.ticks c.lines_of.new.table.ticks stands from_own to_own at_from
    (c.min.ensures ∙ (λ i. min (c.tick_at-first.ensures i) (c.tick_at-last.ensures i))) (c.max.ensures ∙ (λ i. max (c.tick_at-first.ensures i) (c.tick_at-last.ensures i)))
    c.in_ok-ids.ensures.once c.in_ok-ids.ensures.few ((rw c.items.ensures at c.lines_of.ensures.ticks) longest (record { from = at_from; to = at_to }))

pub returns-clause-ticks : goal.returns-clause-ticks
returns-clause-ticks c = λ state journal longest few all stands is_root from_own to_own at_from at_to.
    report-looks (told c.args.table.now.table) c.args.snaps.now state few all c.always.ensures.proper c.args.root is_root journal c.args.from c.args.to c.in_ok-ids.ids c.min.result c.max.result longest
    c.args.table.now.ticks c.lines_of.new.table.ticks stands from_own to_own at_from
    (c.min.ensures ∙ (λ i. min (c.tick_at-first.ensures i) (c.tick_at-last.ensures i))) (c.max.ensures ∙ (λ i. max (c.tick_at-first.ensures i) (c.tick_at-last.ensures i)))
    c.in_ok-ids.ensures.once c.in_ok-ids.ensures.few ((rw c.items.ensures at c.lines_of.ensures.ticks) longest (record { from = at_from; to = at_to }))

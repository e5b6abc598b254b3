use Rattle.std.proofs.Common.{ℕ, ◌<◌, length, get_or, subst, ◌∙◌, below_more, arith}
use Rattle.hs_types.specs.declared.ids.InodeId.{InodeId}
use Rattle.inode_table.specs.Numbered.{at_place}
use Rattle.inode_table.specs.Prepared.{IsPreparedRow}
use Rattle.inode_table.proofs.Taking.{keeps-both, keeps-prepared, get_or_any}
use Rattle.inode_table.proofs.preparing.prepare_rows.Goals as goal

pub returns-in_err-prepare_at-clause-kept : goal.returns-in_err-prepare_at-clause-kept
returns-in_err-prepare_at-clause-kept c = λ id. keeps-both (at_place c.args.rows.now.items id) (at_place c.loop-id.rows.items id) (at_place c.prepare_at.new.rows.items id) (c.loop-id.invariant.kept id) (c.prepare_at.ensures.kept id)

pub loop-id-preserved : goal.loop-id-preserved
loop-id-preserved c =
    let ids = c.args.ids.now in
    let i = c.loop-id.id-index in
    let old = c.loop-id.rows.items in
    let new = c.prepare_at.new.rows.items in
    let within : i < length ids = omega (arith, c.loop-id-test.true) in
    record {
      told = c.prepare_at.ensures.told ∙ c.loop-id.invariant.told;
      len = c.prepare_at.ensures.len ∙ c.loop-id.invariant.len;
      capacity = c.prepare_at.ensures.capacity ∙ c.loop-id.invariant.capacity;
      kept = λ id. keeps-both (at_place c.args.rows.now.items id) (at_place old id) (at_place new id) (c.loop-id.invariant.kept id) (c.prepare_at.ensures.kept id);
      ready = below_more (λ (k : ℕ). (d : InodeId) → IsPreparedRow c.args.changes (at_place new (get_or ids k d))) i
          (λ k lt d. keeps-prepared c.args.changes (at_place old (get_or ids k d)) (at_place new (get_or ids k d)) (c.prepare_at.ensures.kept (get_or ids k d)) (c.loop-id.invariant.ready k lt d))
          (λ d. subst (λ (j : InodeId). IsPreparedRow c.args.changes (at_place new j)) (get_or_any ids i _ d within) c.in_ok-prepare_at.ensures.ready);
    }

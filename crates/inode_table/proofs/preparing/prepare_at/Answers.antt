use Rattle.std.proofs.Common.{◌<◌, ◌≤◌, Option, length, ap, sym, subst, ◌∙◌, arith}
use Rattle.std.specs.Prelude.{OnOk}
use Rattle.std.specs.Option.{option_map}
use Rattle.inode_table.specs.declared.row.Row.{Row}
use Rattle.inode_table.specs.Merged.{KeepsRow}
use Rattle.inode_table.specs.Numbered.{state_of}
use Rattle.inode_table.specs.Prepared.{IsPreparedRow}
use Rattle.inode_table.proofs.Placing.{table-same, place-set-here, slot-read, slot-past}
use Rattle.inode_table.proofs.Taking.{keeps-set}
use Rattle.inode_table.proofs.preparing.prepare_at.Goals as goal

pub returns-then-place-len-clause-told : goal.returns-then-place-len-clause-told
returns-then-place-len-clause-told c =
    let rows = c.args.rows.now.items in
    let lt : c.args.id.0 < length rows = omega (arith, c.if-place-len.true, c.len.ensures, c.args.rows.now.ok.0) in
    table-same rows c.args.id c.prepare_slot.new.slot lt (c.prepare_slot.ensures.same ∙ ap (option_map state_of) (slot-read rows c.args.id c.index_mut.result.now lt c.index_mut.ensures.value))

pub returns-then-place-len-clause-kept : goal.returns-then-place-len-clause-kept
returns-then-place-len-clause-kept c = λ other.
    let rows = c.args.rows.now.items in
    let lt : c.args.id.0 < length rows = omega (arith, c.if-place-len.true, c.len.ensures, c.args.rows.now.ok.0) in
    keeps-set rows c.args.id other c.prepare_slot.new.slot lt
    (subst (λ (o : Option Row). KeepsRow o c.prepare_slot.new.slot) (slot-read rows c.args.id c.index_mut.result.now lt c.index_mut.ensures.value) c.prepare_slot.ensures.kept)

pub returns-then-place-len-clause-ready : goal.returns-then-place-len-clause-ready
returns-then-place-len-clause-ready c =
    let rows = c.args.rows.now.items in
    let lt : c.args.id.0 < length rows = omega (arith, c.if-place-len.true, c.len.ensures, c.args.rows.now.ok.0) in
    subst (λ (o : Option Row). OnOk c.prepare_slot.result (IsPreparedRow c.args.changes o)) (sym (place-set-here rows c.args.id c.prepare_slot.new.slot lt)) c.prepare_slot.ensures.ready

pub returns-else-place-len-clause-ready : goal.returns-else-place-len-clause-ready
returns-else-place-len-clause-ready c =
    let rows = c.args.rows.now.items in
    let past : length rows ≤ c.args.id.0 = omega (arith, c.if-place-len.false, c.len.ensures, c.args.rows.now.ok.0) in
    subst (IsPreparedRow c.args.changes) (sym (slot-past rows c.args.id past)) (record { merge = tt; changed = λ so cover. tt })

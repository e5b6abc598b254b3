use Rattle.std.proofs.Common.{◌≡◌, ◌+◌, Option, ap, sym, subst, ◌∙◌, arith}
use Rattle.std.specs.Prelude.{IfOk}
use Rattle.std.specs.Option.{option_map}
use Rattle.inode_table.specs.Kept.{blocks_ahead}
use Rattle.inode_table.specs.Numbered.{state_of}
use Rattle.inode_table.specs.RowHistory.{RowHistory, RowState}
use Rattle.inode_table.proofs.Placing.{slot-told}
use Rattle.inode_table.proofs.preparing.with_ahead.Goals as goal

pub returns-in-Some : goal.returns-in-Some
returns-in-Some c =
    let is = ap (option_map (λ (r : RowState). r.rows)) (slot-told c.args.rows.now.items c.args.id ∙ ap (option_map state_of) (sym c.in-Some.ensures)) in
    subst (λ (o : Option RowHistory). IfOk c.with_ahead_of.result (λ sum. sum ≡ c.args.blocks + blocks_ahead o)) (sym is) c.with_ahead_of.ensures

pub returns-in-None : goal.returns-in-None
returns-in-None c =
    let is = ap (option_map (λ (r : RowState). r.rows)) (slot-told c.args.rows.now.items c.args.id ∙ ap (option_map state_of) (sym c.in-None.ensures)) in
    let none = ap blocks_ahead is in
    omega (arith, none)

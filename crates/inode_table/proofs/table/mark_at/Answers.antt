use Rattle.std.proofs.Common.{set, ap, ◌∙◌, arith}
use Rattle.std.specs.Option.{option_map}
use Rattle.inode_table.specs.Numbered.{with_marks}
use Rattle.inode_table.proofs.Placing.{place-some, slot-read}
use Rattle.inode_table.proofs.table.mark_at.Goals as goal

pub index_mut-requires : goal.index_mut-requires
index_mut-requires c = let within = place-some c.args.rows.now.items c.args.id c.requires in omega (arith, within, c.args.rows.now.ok.0)

pub returns-clause-set : goal.returns-clause-set
returns-clause-set c =
    ap (λ slot. set c.args.rows.now.items c.args.id.0 slot)
    (c.mark.ensures ∙ ap (option_map (with_marks c.args.since c.args.carry))
    (slot-read c.args.rows.now.items c.args.id c.index_mut.result.now (place-some c.args.rows.now.items c.args.id c.requires) c.index_mut.ensures.value))

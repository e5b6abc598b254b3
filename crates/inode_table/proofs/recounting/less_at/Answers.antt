use Rattle.std.proofs.Common.{◌-◌, set, ap, ◌∙◌, arith}
use Rattle.std.specs.Option.{option_map}
use Rattle.inode_table.specs.Numbered.{with_names}
use Rattle.inode_table.proofs.Placing.{place-some, slot-read}
use Rattle.inode_table.proofs.recounting.less_at.Goals as goal

pub index_mut-requires : goal.index_mut-requires
index_mut-requires c = let within = place-some c.args.rows.now.items c.args.id c.requires in omega (arith, within, c.args.rows.now.ok.0)

pub returns-clause-set : goal.returns-clause-set
returns-clause-set c =
    ap (λ slot. set c.args.rows.now.items c.args.id.0 slot)
    (c.name_less.ensures ∙ ap (option_map (with_names (λ n. n - 1)))
    (slot-read c.args.rows.now.items c.args.id c.index_mut.result.now (place-some c.args.rows.now.items c.args.id c.requires) c.index_mut.ensures.value))

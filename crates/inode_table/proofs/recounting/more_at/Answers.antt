use Rattle.std.proofs.Common.{◌+◌, set, sym, ap, ◌∙◌, arith}
use Rattle.std.specs.Option.{option_map}
use Rattle.inode_table.specs.Numbered.{with_names}
use Rattle.inode_table.proofs.Placing.{place-some, slot-read}
use Rattle.inode_table.proofs.recounting.more_at.Goals as goal

pub index_mut-requires : goal.index_mut-requires
index_mut-requires c = let within = place-some c.args.rows.now.items c.args.id c.requires.there in omega (arith, within, c.args.rows.now.ok.0)

pub name_more-requires : goal.name_more-requires
name_more-requires c = λ row is. c.requires.small row (sym (slot-read c.args.rows.now.items c.args.id c.index_mut.result.now (place-some c.args.rows.now.items c.args.id c.requires.there) c.index_mut.ensures.value) ∙ is)

pub returns-clause-set : goal.returns-clause-set
returns-clause-set c =
    ap (λ slot. set c.args.rows.now.items c.args.id.0 slot)
    (c.name_more.ensures ∙ ap (option_map (with_names (λ n. n + 1)))
    (slot-read c.args.rows.now.items c.args.id c.index_mut.result.now (place-some c.args.rows.now.items c.args.id c.requires.there) c.index_mut.ensures.value))

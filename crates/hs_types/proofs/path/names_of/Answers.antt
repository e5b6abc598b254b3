use Rattle.std.proofs.Common.{◌≡◌, true, [], get_or}
use Rattle.hs_types.specs.Names.{is_name}
use Rattle.hs_types.proofs.Legal.{list_all_at}
use Rattle.hs_types.proofs.path.names_of.Goals as goal

pub name_of-requires : goal.name_of-requires
name_of-requires c =
    let legal : is_name (get_or c.args.parts.now c.loop-part.part-index (record { ref_ptr = (0, 0); now = [] })).now ≡ true =
    list_all_at is_name (λ part. part.now) c.args.parts.now c.loop-part.part-index (record { ref_ptr = (0, 0); now = [] }) c.requires c.loop-part-test.true in
    legal

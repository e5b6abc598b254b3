use Rattle.std.proofs.Common.{List, refl, ap, subst, ◌∙◌}
use Rattle.std.specs.List.{Contains}
use Rattle.hs_types.specs.declared.ids.InodeId.{InodeId}
use Rattle.inode_table.specs.Kept.{told}
use Rattle.inode_table.specs.Released.{Releasing}
use Rattle.inode_table.specs.Tabled.{Tabled}
use Rattle.table_laws.specs.WholeCalls.{all_disallowed}
use Rattle.namenode_write.specs.Rows.{all_of}
use Rattle.namenode_write.proofs.DeletedOutcomes.{remove-fits, release-after}
use Rattle.namenode_write.proofs.RowFreed.{all-push}
use Rattle.namenode_write.proofs.rows.deleting.remove.Goals as goal

pub change_ready-requires-clause-room : goal.change_ready-requires-clause-room
change_ready-requires-clause-room g c = remove-fits c.args.going.parent.id c.args.going.parent.need.0 c.args.space.now.table c.requires.room c.args.going.name c.args.tick

pub disallow_all-requires : goal.disallow_all-requires
disallow_all-requires g c dir at = c.requires.free dir (subst (λ (l : List InodeId). Contains l dir) c.items.ensures at)

pub release_ready-freed-requires : goal.release_ready-freed-requires
release_ready-freed-requires g c = release-after c.args.going.parent.id c.args.going.parent.need.0 c.args.space.now.table c.requires.room c.args.going.name c.args.tick c.change_ready.new.table c.change_ready.ensures

pub returns : goal.returns
returns g c = record {
  freed = c.release_ready-freed.result;
  released = subst (λ (t : Tabled). Releasing t c.release_ready-freed.result (told c.release_ready-freed.new.table)) c.change_ready.ensures.whole c.release_ready-freed.ensures;
  snaps = c.disallow_all.ensures ∙ ap (λ (ids : List InodeId). all_disallowed ids c.args.space.now.snaps) c.items.ensures;
  waiting = ap all_of c.push_reserved.ensures.items ∙ all-push c.args.space.now.waiting.items c.release_ready-freed.result.blocks;
  rest = refl;
}

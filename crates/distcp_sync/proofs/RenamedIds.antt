-- An `R` line with a target has an id in the words of the plan and in those of its laws.
use Rattle.std.proofs.Common.{◌≡◌, ◌&&◌, ◌||◌, Option, Some, None, List, [], ◌∷◌, refl, ap, ◌∙◌}
use Rattle.hs_types.specs.Names.{Names}
use Rattle.hs_types.specs.declared.ids.InodeId.{InodeId}
use Rattle.hs_types.specs.declared.reply.Line.{Line}
use Rattle.hs_types.specs.declared.reply.LineKind.{LineKind}
use Rattle.hs_types.specs.declared.reply.LineKind.TheVariants.{Deleted, Renamed, Modified, Created}
use Rattle.hs_plain.specs.Tree.{same_inode}
use Rattle.plan_laws.specs.Translated.{is_renaming, renames_id}
use Rattle.distcp_plan.specs.Planned.{target_by, has_id, renames}

one_so : (kind : LineKind) (to : Option Names) (one id : InodeId) → has_id (target_by kind to) one id ≡ (is_renaming kind to && same_inode one id)
one_so Renamed (Some to) one id = refl
one_so Renamed None one id = refl
one_so Deleted to one id = refl
one_so Modified to one id = refl
one_so Created to one id = refl

pub renamed_so : (lines : List Line) (id : InodeId) → renames lines id ≡ renames_id lines id
renamed_so [] id = refl
renamed_so (line ∷ lines) id =
    ap (λ b. b || renames lines id) (one_so line.kind line.to line.id id) ∙ ap (λ b. (is_renaming line.kind line.to && same_inode line.id id) || b) (renamed_so lines id)

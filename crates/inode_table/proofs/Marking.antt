-- The marks of a row, set at its place.
use Rattle.std.proofs.Common.{◌≡◌, Option, Some, set, ap, subst, sym, ◌∙◌, refl}
use Rattle.std.specs.Option.{option_map}
use Rattle.hs_types.specs.declared.ids.InodeId.{InodeId}
use Rattle.hs_types.specs.declared.ids.SnapId.{SnapId}
use Rattle.inode_table.specs.declared.row.Row.{Row}
use Rattle.inode_table.specs.Numbered.{at_place, with_marks}
use Rattle.inode_table.specs.Slots.{Slots}
use Rattle.inode_table.proofs.Tallying.{Altered, altered}

pub marked-at : (rows after : Slots) (id : InodeId) (since carry : SnapId) (old : Row) → at_place rows id ≡ Some old → after ≡ set rows id.0 (option_map (with_marks since carry) (at_place rows id))
    → Altered rows after id old (with_marks since carry old)
marked-at rows after id since carry old was is =
    let now : after ≡ set rows id.0 (Some (with_marks since carry old)) = is ∙ ap (λ (o : Option Row). set rows id.0 (option_map (with_marks since carry) o)) was in
    subst (λ (xs : Slots). Altered rows xs id old (with_marks since carry old)) (sym now) (altered rows id old (with_marks since carry old) was refl)

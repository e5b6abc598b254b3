use Rattle.std.proofs.Common.{◌≡◌, Option, Some, None, is_some, sym, ap, refl, ◌∙◌}
use Rattle.std.specs.Option.{option_map}
use Rattle.inode_table.proofs.Placing.{slot-told}
use Rattle.inode_table.proofs.noted.is_there.Goals as goal

some_mapped : {X Y : Type 0} (f : X → Y) (o : Option X) → is_some (option_map f o) ≡ is_some o
some_mapped f None = refl
some_mapped f (Some x) = refl

pub returns : goal.returns
returns c =
    c.is_some.ensures ∙ sym (some_mapped (λ x. x.now) c.row_at.result) ∙ ap is_some c.row_at.ensures
    ∙ sym (some_mapped _ _) ∙ ap is_some (sym (slot-told c.args.rows.now.items c.args.id))

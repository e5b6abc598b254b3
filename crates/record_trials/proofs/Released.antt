-- A release keeps the greatest id.
use Rattle.std.proofs.Common.{◌≡◌, List, [], ◌∷◌, ap}
use Rattle.std.specs.Prelude.{OnOk}
use Rattle.std.specs.declared.result.Result.TheVariants.{Ok, Err}
use Rattle.std.specs.declared.result.Result.{Result}
use Rattle.hs_types.specs.declared.ids.InodeId.{InodeId}
use Rattle.inode_table.specs.declared.freed.Freed.{Freed}
use Rattle.inode_table.specs.Released.{ReleasedBy, Releasing, let_go}
use Rattle.inode_table.specs.Tabled.{Tabled}

gone_keeps : (before after : Tabled) (gone : List InodeId) → ReleasedBy before gone after → after.greatest ≡ before.greatest
gone_keeps before after [] same = ap (λ (t : Tabled). t.greatest) same
gone_keeps before after (id ∷ gone) (row, may, rest) = gone_keeps (let_go id row.rows before) after gone rest

pub release_keeps : (before after : Tabled) (freed : Freed) → Releasing before freed after → after.greatest ≡ before.greatest
release_keeps before after freed done = gone_keeps before (record after { waiting = freed.blocks }) done.gone done.steps

-- what holds anyway holds where there is a value
pub anyway : {X E P : Type 0} (r : Result X E) → P → OnOk r P
anyway (Ok x) p = p
anyway (Err e) p = tt

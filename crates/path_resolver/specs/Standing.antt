-- What is asked of the place of a cursor: that it is there still.
use Rattle.std.specs.Prelude.{not, Option, Some, None, Ok, Err}
use Rattle.hs_types.specs.Names.{Names}
use Rattle.hs_types.specs.declared.call.Place.{Place}
use Rattle.hs_types.specs.declared.call.Place.TheVariants as places
use Rattle.hs_types.specs.declared.refusal.Refusal.TheVariants.{NotFound, Gone}
use Rattle.hs_plain.specs.declared.state.Node.{Node}
use Rattle.hs_plain.specs.declared.state.State.{State}
use Rattle.hs_plain.specs.Asked.{Asked, ◌>>=◌, refuse_if}
use Rattle.hs_plain.specs.Reading.{is_gone}
use Rattle.hs_plain.specs.State.{is_snapshottable, member_with}
use Rattle.hs_plain.specs.Tree.{place_of}

-- an inode that stands somewhere
abbrev pub stands : {B : Type 0} → Option (Names × Node B) → Asked (Unit {0})
stands None = Err NotFound
stands (Some place) = Ok tt

-- whether the state has the place
abbrev pub there : {B : Type 0} → State B → Place → Asked (Unit {0})
there state (places.Live id) = stands (place_of state.tree id)
there state (places.Frozen id snapshot) = do
  member ← member_with state.members snapshot
  stands (place_of member.tree id)
there state (places.SnapshotsOf dir) = refuse_if (not (is_snapshottable state dir)) NotFound

-- Gone where it is of a snapshot that was deleted, and NotFound where it isn't there
abbrev pub standing : {B : Type 0} → State B → Place → Asked (Unit {0})
standing state place = do
  live ← refuse_if (is_gone state place) Gone
  there state place

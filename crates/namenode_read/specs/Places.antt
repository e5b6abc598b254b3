-- Where a text leads, and what a report begins with. For proofs: contracts speak of the plain state's replies.
use Rattle.std.specs.Prelude.{ℕ, List, None, Ok}
use Rattle.hs_types.specs.Paths.{path_of}
use Rattle.hs_types.specs.declared.ids.InodeId.{InodeId}
use Rattle.hs_types.specs.declared.call.Place.{Place}
use Rattle.hs_types.specs.declared.call.Point.{Point}
use Rattle.hs_types.specs.declared.call.ReportCursor.{ReportCursor}
use Rattle.hs_plain.specs.declared.state.State.{State}
use Rattle.hs_plain.specs.Asked.{Asked, ◌>>=◌}
use Rattle.hs_plain.specs.State.{resolve}
use Rattle.hs_plain.specs.Reading.{point_id}

-- where the text of a path leads
abbrev pub place_asked : {B : Type 0} → State B → List ℕ → Asked Place
place_asked state text = do
  path ← path_of text
  resolve state path

-- the cursor of the first page of a report
abbrev pub first_cursor : {B : Type 0} → State B → InodeId → Point → Point → Asked ReportCursor
first_cursor state root from to = do
  first ← point_id state root from
  last ← point_id state root to
  Ok (record { root = root; from = first; to = last; tick = None; index = 0 })

-- What a view of a state shows.
use Rattle.file_changes.specs.declared.state.FileState.{FileState}
use Rattle.file_changes.specs.declared.state.FileView.{FileView}

-- the state that a view is of
abbrev pub shown : FileView → FileState
shown view = record { spot = view.spot.now; mode = view.mode; stamp = view.stamp; size = view.size; blocks = view.blocks.now }

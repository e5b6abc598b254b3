-- How the tick rises.
use Rattle.std.specs.Prelude.{◌≡◌, ℕ, ◌+◌, List, length}
use Rattle.hs_types.specs.declared.journal.Entry.{Entry}
use Rattle.hs_plain.specs.declared.state.State.{State}
use Rattle.hs_plain.specs.Files.{plain_files}
use Rattle.hs_plain.specs.Replay.{replay_from}

-- entries raise the tick of any state by their number
abbrev pub TickRises : Type 0
TickRises = (state : State (List ℕ)) (entries : List Entry) → (replay_from plain_files state entries).tick ≡ state.tick + length entries

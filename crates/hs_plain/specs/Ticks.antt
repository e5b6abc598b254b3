-- What the tick is.
use Rattle.std.specs.Prelude.{◌≡◌, List, length}
use Rattle.hs_types.specs.declared.journal.Entry.{Entry}
use Rattle.hs_plain.specs.Replay.{plain_after}

-- the tick of a state is the number of entries that led to it
abbrev pub TickCounts : Type 0
TickCounts = (entries : List Entry) → (plain_after entries).tick ≡ length entries

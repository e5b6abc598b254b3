-- Worked examples of moves, by computation.
use Rattle.std.proofs.Common.{refl}
use Rattle.hs_plain.specs.worked.Moves.{MovedOut, RenamedDirectory, Overwritten, HeldInPlace, NestedNowhere}

pub moved_out : MovedOut
moved_out = record { told_so = refl; proper = refl }

pub renamed_directory : RenamedDirectory
renamed_directory = record { told_so = refl; proper = refl }

pub overwritten : Overwritten
overwritten = record { told_so = refl; proper = refl }

pub held : HeldInPlace
held = record { told_so = refl; proper = refl }

pub nested_nowhere : NestedNowhere
nested_nowhere = record { told_so = refl; proper = refl }

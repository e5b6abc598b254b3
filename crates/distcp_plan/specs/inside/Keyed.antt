-- The entries of a map whose keys are paths. For proofs alone.
use Rattle.std.specs.Prelude.{ℕ, List, map}
use Rattle.std.specs.declared.vec.Vec.{Vec}
use Rattle.hs_types.specs.Names.{Names}

abbrev pub keyed_one : {A V : Type 0} → Vec (List ℕ) A × V → Names × V
keyed_one entry = (entry.0.items, entry.1)

abbrev pub keyed : {A V : Type 0} → List (Vec (List ℕ) A × V) → List (Names × V)
keyed entries = map keyed_one entries

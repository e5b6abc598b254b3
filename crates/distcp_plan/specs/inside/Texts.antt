-- Parts of the text of a path. For proofs alone.
use Rattle.std.specs.Prelude.{List, ℕ, [], bytes_eq, codes, if◌then◌else◌}

-- what stands before the first component of a path below a root
abbrev pub front_of : List ℕ → List ℕ
front_of root = if bytes_eq root (codes "/") then [] else root

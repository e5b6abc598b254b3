-- What a state holds below a root.
use Rattle.std.specs.Prelude.{◌≡◌, ℕ, List, ◌++◌, Ok}
use Rattle.hs_types.specs.Names.{Names}
use Rattle.hs_plain.specs.declared.state.State.{State}
use Rattle.hs_plain.specs.Tree.{node_at}
use Rattle.hs_plain.specs.Modifying.{live_path}
use Rattle.plan_laws.specs.Copies.{Contents, content_of}

abbrev pub held : State (List ℕ) → Names → Contents
held state root path = content_of (node_at state.tree (root ++ path))

-- a text that stands for a path below the root
abbrev pub Leads : List ℕ → Names → Names → Type 0
Leads text root path = live_path text ≡ Ok (root ++ path)

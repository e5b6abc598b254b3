-- A state in which files are kept in another way.
use Rattle.std.specs.Prelude.{◌≡◌, ℕ, List, map, length, Option, None, Some, ⊤}
use Rattle.hs_types.specs.Names.{Names}
use Rattle.hs_types.specs.Blocks.{BlockMap, file_bytes}
use Rattle.hs_plain.specs.declared.state.Node.{Node}
use Rattle.hs_plain.specs.declared.state.Body.{Body}
use Rattle.hs_plain.specs.declared.state.Body.TheVariants.{File, Dir}
use Rattle.hs_plain.specs.declared.state.Member.{Member}
use Rattle.hs_plain.specs.declared.state.State.{State}
use Rattle.hs_plain.specs.declared.state.FileBlocks.{FileBlocks}
use Rattle.hs_plain.specs.Tree.{Tree}

abbrev pub viewed_body : {A B : Type 0} → (A → B) → Body A → Body B
viewed_body read (File file) = File (read file)
viewed_body read Dir = Dir

abbrev pub viewed_node : {A B : Type 0} → (A → B) → Node A → Node B
viewed_node read node = record { id = node.id; mode = node.mode; stamp = node.stamp; body = viewed_body read node.body }

abbrev pub viewed_place : {A B : Type 0} → (A → B) → Names × Node A → Names × Node B
viewed_place read place = (place.0, viewed_node read place.1)

abbrev pub viewed_tree : {A B : Type 0} → (A → B) → Tree A → Tree B
viewed_tree read tree = map (viewed_place read) tree

abbrev pub viewed_member : {A B : Type 0} → (A → B) → Member A → Member B
viewed_member read member = record { snapshot = member.snapshot; directory = member.directory; name = member.name; tick = member.tick; tree = viewed_tree read member.tree }

-- the state with each file read
abbrev pub viewed : {A B : Type 0} → (A → B) → State A → State B
viewed read state = record { tree = viewed_tree read state.tree; snapshottable = state.snapshottable; members = map (viewed_member read) state.members; next_inode = state.next_inode; next_snapshot = state.next_snapshot; tick = state.tick }

-- the state with blocks is the plain one, but for the bytes: each file has as many as its size says
abbrev pub StandsFor : State FileBlocks → State (List ℕ) → Type 0
StandsFor whole plain = viewed (λ file. file.size) whole ≡ viewed length plain

-- the bytes that a file's blocks have
abbrev pub bytes_in : BlockMap → FileBlocks → List ℕ
bytes_in map file = file_bytes map file.size file.blocks

-- where the store tells its blocks, they have the bytes
abbrev pub HasBytes : Option BlockMap → State FileBlocks → State (List ℕ) → Type 0
HasBytes None whole plain = ⊤
HasBytes (Some map) whole plain = viewed (bytes_in map) whole ≡ plain

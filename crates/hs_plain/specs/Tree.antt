-- A tree is the list of its places, by rising paths: a finite map from paths to nodes.
use Rattle.std.specs.Prelude.{ℕ, ◌-◌, Bool, true, false, ◌&&◌, ◌==◌, nat_lt, bytes_eq, if◌then◌else◌, List, [], ◌∷◌, ◌++◌, map, length, take, drop, Option, Some, None, Ok, Err}
use Rattle.std.specs.List.{filter, filter_map, starts_with}
use Rattle.std.specs.Ordering.{nat_cmp}
use Rattle.std.specs.declared.cmp.Ordering.{Ordering}
use Rattle.std.specs.Cmp.Lexicographic.{slice_cmp, pointwise}
use Rattle.std.specs.FinMap.Entries.{find}
use Rattle.hs_types.specs.Names.{Names}
use Rattle.hs_types.specs.declared.ids.InodeId.{InodeId}
use Rattle.hs_types.specs.declared.refusal.Refusal.TheVariants.{NotFound, NotDir}
use Rattle.hs_types.specs.declared.reply.Item.{Item}
use Rattle.hs_plain.specs.declared.state.Node.{Node}
use Rattle.hs_plain.specs.declared.state.Body.{Body}
use Rattle.hs_plain.specs.declared.state.Body.TheVariants.{File, Dir}
use Rattle.hs_plain.specs.Asked.{Asked, ◌>>=◌}

-- each place with its node
abbrev pub Tree : Type 0 → Type 0
Tree B = List (Names × Node B)

-- names by their bytes, paths name by name, a path before those below it
abbrev pub path_cmp : Names → Names → Ordering
path_cmp = slice_cmp (slice_cmp nat_cmp)

-- the node at a path
abbrev pub node_at : {B : Type 0} → Tree B → Names → Option (Node B)
node_at tree path = find path_cmp path tree

abbrev pub is_dir_body : {B : Type 0} → Body B → Bool
is_dir_body (File bytes) = false
is_dir_body Dir = true

abbrev pub is_dir : {B : Type 0} → Node B → Bool
is_dir node = is_dir_body node.body

-- a walk goes on below a directory alone
abbrev pub passes : {B : Type 0} → Option (Node B) → Asked (Unit {0})
passes None = Err NotFound
passes (Some node) = if is_dir node then Ok tt else Err NotDir

-- the walk from a node down to the parent of a path below it: NotFound at the first missing component, NotDir at the first file
abbrev pub walks_from : {B : Type 0} → Tree B → Names → Names → Asked (Unit {0})
walks_from tree here [] = Ok tt
walks_from tree here (name ∷ below) = passes (node_at tree here) >>= λ _. walks_from tree (here ++ name ∷ []) below

-- the walk from the root to a path's parent
abbrev pub walks_above : {B : Type 0} → Tree B → Names → Asked (Unit {0})
walks_above tree path = walks_from tree [] path

abbrev pub found : {B : Type 0} → Option (Node B) → Asked (Node B)
found None = Err NotFound
found (Some node) = Ok node

-- the whole walk: the node at the path
abbrev pub walk : {B : Type 0} → Tree B → Names → Asked (Node B)
walk tree path = walks_above tree path >>= λ _. found (node_at tree path)

-- the directory above a path; of the root it is the root itself
abbrev pub parent_of : Names → Names
parent_of path = take (length path - 1) path

abbrev pub only_name : Names → Option (List ℕ)
only_name [] = None
only_name (name ∷ []) = Some name
only_name (name ∷ next ∷ rest) = None

-- the one name that leads from a directory to a path, if one name does
abbrev pub name_below : Names → Names → Option (List ℕ)
name_below dir path = if starts_with bytes_eq path dir then only_name (drop (length dir) path) else None

abbrev pub item_of : {B : Type 0} → Node B → List ℕ → Item
item_of node name = record { name = name; id = node.id; is_dir = is_dir node }

abbrev pub named_item : {B : Type 0} → Node B → Option (List ℕ) → Option Item
named_item node None = None
named_item node (Some name) = Some (item_of node name)

-- the item of a place, where it is a child of the directory
abbrev pub child_item : {B : Type 0} → Names → Names × Node B → Option Item
child_item dir place = named_item place.1 (name_below dir place.0)

-- the items of a directory, in name order
abbrev pub listing : {B : Type 0} → Tree B → Names → List Item
listing tree dir = filter_map (child_item dir) tree

-- how many children a directory has
abbrev pub child_count : {B : Type 0} → Tree B → Names → ℕ
child_count tree dir = length (listing tree dir)

-- bytes of a file, children of a directory
abbrev pub size_of : {B : Type 0} → (B → ℕ) → Tree B → Names → Body B → ℕ
size_of bytes tree path (File file) = bytes file
size_of bytes tree path Dir = child_count tree path

abbrev pub is_root_path : Names → Bool
is_root_path [] = true
is_root_path (name ∷ names) = false

-- whether a path lies below another
abbrev pub is_above : Names → Names → Bool
is_above above path = starts_with bytes_eq path above && nat_lt (length above) (length path)

abbrev pub same_path : Names → Names → Bool
same_path = pointwise bytes_eq

-- whether a place is at a path or below it
abbrev pub is_under : {B : Type 0} → Names → Names × Node B → Bool
is_under path place = starts_with bytes_eq place.0 path

-- a directory's whole subtree, with paths that go from the directory
abbrev pub subtree : {B : Type 0} → Tree B → Names → Tree B
subtree tree path = map (λ place. (drop (length path) place.0, place.1)) (filter (is_under path) tree)

abbrev pub same_inode : InodeId → InodeId → Bool
same_inode a b = a.0 == b.0

-- the place of the node with this id
abbrev pub place_of : {B : Type 0} → Tree B → InodeId → Option (Names × Node B)
place_of [] id = None
place_of (place ∷ places) id = if same_inode place.1.id id then Some place else place_of places id

-- the path of a place, if there is one
abbrev pub path_at : {B : Type 0} → Option (Names × Node B) → Option Names
path_at None = None
path_at (Some place) = Some place.0

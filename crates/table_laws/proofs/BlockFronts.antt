-- The first bytes of a file's blocks, and all the bytes of a state's files.
use Rattle.std.proofs.Common.{◌≡◌, ℕ, ◌+◌, ◌-◌, ◌<◌, ◌≤◌, min, nat_eq, nat_le, true, false, cond, List, [], ◌∷◌, ◌++◌, length, take, drop, map, Option, Some, None, refl, sym, ap, subst, ◌∙◌, ⊎_elim, drop_at, take-take, arith}
use Rattle.std.specs.List.{Contains, IsDistinct}
use Rattle.std.specs.Option.{option_map, unwrap_or}
use Rattle.std.specs.FinMap.Entries.{is_sorted, below_all}
use Rattle.std.proofs.lemmas.Bool.Decides.{nat_tests}
use Rattle.std.proofs.lemmas.List.{take-append-le, drop-take}
use Rattle.std.proofs.lemmas.Map.Keys.{IsDistinct-head, IsDistinct-tail}
use Rattle.hs_types.specs.Names.{Names}
use Rattle.hs_types.specs.Limits.{block_size}
use Rattle.hs_types.specs.declared.ids.InodeId.{InodeId}
use Rattle.hs_types.specs.declared.ids.BlockId.{BlockId}
use Rattle.hs_types.specs.Blocks.{BlockMap, Holds, HoldsFile, find, bytes_of, joined, file_bytes, same_block}
use Rattle.hs_plain.specs.declared.state.Node.{Node}
use Rattle.hs_plain.specs.declared.state.Body.{Body}
use Rattle.hs_plain.specs.declared.state.Body.TheVariants as bodies
use Rattle.hs_plain.specs.declared.state.Member.{Member}
use Rattle.hs_plain.specs.declared.state.State.{State}
use Rattle.hs_plain.specs.declared.state.FileBlocks.{FileBlocks}
use Rattle.hs_plain.specs.Tree.{Tree, path_cmp, node_at}
use Rattle.hs_plain.specs.Valid.{IsSorted}
use Rattle.hs_plain.specs.Viewed.{viewed, viewed_body, viewed_place, viewed_tree, viewed_member, bytes_in}
use Rattle.hs_plain.proofs.ValidTrees.{first, second}
use Rattle.hs_plain.proofs.ValidShapes.{none_some, same_some, true_false}
use Rattle.hs_plain.proofs.ValidPlaces.{head_at, in_tail}
use Rattle.file_changes.specs.declared.state.FileRecord.{FileRecord}
use Rattle.file_changes.specs.declared.state.FileState.{FileState}
use Rattle.file_changes.specs.History.{FileHistory, state_at, state_from}
use Rattle.inode_table.specs.FrozenBytes.{KeepsFronts}
use Rattle.inode_table.specs.RowHistory.{RowHistory, File, Dir, Table, rows_at, shown, node_in}
use Rattle.inode_table.specs.Stands.{Stands}
use Rattle.inode_table.specs.Blocked.{HasState, states_of, bytes_within}
use Rattle.inode_table.proofs.Giving.{all_at}
use Rattle.table_laws.proofs.BlockLists.{by-block, same-block, in-here, in-later, in-either, in-none, all-in}
use Rattle.table_laws.proofs.BlockStates.{current-in, saved-in}

-- ---- fronts of one file

holds_least : (o : Option (List ℕ)) (n : ℕ) → Holds o n → n ≤ length (unwrap_or o [])
holds_least None n h = absurd h
holds_least (Some bytes) n h = h.0

holds_most : (o : Option (List ℕ)) (n : ℕ) → Holds o n → length (unwrap_or o []) ≤ block_size
holds_most None n h = absurd h
holds_most (Some bytes) n h = h.1

-- what the first block has
front_of : (map : BlockMap) (size : ℕ) (block : BlockId) (blocks : List BlockId) → HoldsFile map size (block ∷ blocks) → take (min size block_size) (file_bytes map size (block ∷ blocks)) ≡ take (min size block_size) (bytes_of map block)
front_of map size block blocks held =
    let long = holds_least (find map block) (min size block_size) held.0 in
    take-take (min size block_size) size (bytes_of map block ++ joined map blocks) (omega arith)
    ∙ take-append-le (min size block_size) (bytes_of map block) (joined map blocks) long

-- and the others, where there are any
back_of : (map : BlockMap) (size : ℕ) (block : BlockId) (blocks : List BlockId) → HoldsFile map size (block ∷ blocks) → block_size < size → drop block_size (file_bytes map size (block ∷ blocks)) ≡ file_bytes map (size - block_size) blocks
back_of map size block blocks held more =
    let least = holds_least (find map block) (min size block_size) held.0 in
    let most = holds_most (find map block) (min size block_size) held.0 in
    let full : length (bytes_of map block) ≡ block_size = omega (arith, least, most, more) in
    let is : size ≡ block_size + (size - block_size) = omega (arith, more) in
    ap (λ n. drop block_size (take n (bytes_of map block ++ joined map blocks))) is
    ∙ drop-take block_size (size - block_size) (bytes_of map block ++ joined map blocks)
    ∙ ap (take (size - block_size)) (drop_at (bytes_of map block) (joined map blocks) block_size full)

nothing_left : (map : BlockMap) (size : ℕ) (blocks : List BlockId) → size ≤ block_size → file_bytes map (size - block_size) blocks ≡ []
nothing_left map size blocks le = let none : size - block_size ≡ 0 = omega (arith, le) in ap (λ n. take n (joined map blocks)) none

-- a file with the same bytes has the same in each block
pub fronts-same : (before now : BlockMap) (size : ℕ) (blocks : List BlockId) → HoldsFile before size blocks → HoldsFile now size blocks → file_bytes now size blocks ≡ file_bytes before size blocks → KeepsFronts before now size blocks
fronts-same before now size [] b n same = tt
fronts-same before now size (block ∷ blocks) b n same = (
  sym (front_of now size block blocks n) ∙ ap (take (min size block_size)) same ∙ front_of before size block blocks b,
  fronts-same before now (size - block_size) blocks b.1 n.1
      (elim (nat_le size block_size) as (λ t. nat_le size block_size ≡ t → file_bytes now (size - block_size) blocks ≡ file_bytes before (size - block_size) blocks) [
        | true ↦ λ t. let le : size ≤ block_size = grind (arith, nat_tests, t) in nothing_left now size blocks le ∙ sym (nothing_left before size blocks le)
        | false ↦ λ t. let more : block_size < size = grind (arith, nat_tests, t) in sym (back_of now size block blocks n more) ∙ ap (drop block_size) same ∙ back_of before size block blocks b more
      ] refl),
)

-- the same first bytes in a block
abbrev pub SameFront : BlockMap → BlockMap → BlockId → ℕ → Type 0
SameFront before now block count = take count (bytes_of now block) ≡ take count (bytes_of before block)

pub front-fewer : (before now : BlockMap) (block : BlockId) (more fewer : ℕ) → fewer ≤ more → SameFront before now block more → SameFront before now block fewer
front-fewer before now block more fewer le same = sym (take-take fewer more (bytes_of now block) le) ∙ ap (take fewer) same ∙ take-take fewer more (bytes_of before block) le

pub front-each : (before now : BlockMap) (size : ℕ) (blocks : List BlockId) (block : BlockId) → KeepsFronts before now size blocks → Contains blocks block → SameFront before now block (bytes_within size blocks block)
front-each before now size [] block keeps c = absurd (in-none block c)
front-each before now size (x ∷ xs) block keeps c = by-block x block
    (λ e. subst (λ b. SameFront before now block (cond b (min size block_size) (bytes_within (size - block_size) xs block))) (sym (same-block x block e))
    (subst (λ (b : BlockId). SameFront before now b (min size block_size)) e keeps.0))
    (λ ne. subst (λ b. SameFront before now block (cond b (min size block_size) (bytes_within (size - block_size) xs block))) (sym ne)
    (⊎_elim (λ e. absurd (true_false (same-block x block (sym e)) ne)) (λ k. front-each before now (size - block_size) xs block keeps.1 k) (in-either xs x block c)))

pub front-all : (before now : BlockMap) (size : ℕ) (blocks : List BlockId) → IsDistinct same_block blocks → ((block : BlockId) → Contains blocks block → SameFront before now block (bytes_within size blocks block)) → KeepsFronts before now size blocks
front-all before now size [] d all = tt
front-all before now size (x ∷ xs) d all = (
  subst (λ b. SameFront before now x (cond b (min size block_size) (bytes_within (size - block_size) xs x))) (same-block x x refl) (all x (in-here xs x x refl)),
  front-all before now (size - block_size) xs (IsDistinct-tail same_block x xs d) (λ block c.
      subst (λ b. SameFront before now block (cond b (min size block_size) (bytes_within (size - block_size) xs block))) (all-in (λ y. same_block x y ≡ false) xs block (IsDistinct-head same_block x xs d) c) (all block (in-later xs x block c))),
)

-- ---- files of a tree are states of rows

state_from_in : (s : ℕ) (rs : List FileRecord) (current : FileState) (P : FileState → Type 0) → P current → ((r : FileRecord) → Contains rs r → P r.state) → P (state_from s rs current)
state_from_in s [] current P now saved = now
state_from_in s (r ∷ rs) current P now saved = elim (nat_le s r.number.0) as (λ b. P (cond b r.state (state_from s rs current))) [
  | true ↦ saved r (in-here rs r r refl)
  | false ↦ state_from_in s rs current P now (λ q c. saved q (in-later rs r q c))
]

state_at_in : (s : ℕ) (file : FileHistory) → Contains (states_of file) (state_at s file)
state_at_in s file = elim (nat_eq s 0) as (λ b. Contains (states_of file) (cond b file.current (state_from s file.records file.current))) [
  | true ↦ current-in file
  | false ↦ state_from_in s file.records file.current (λ t. Contains (states_of file) t) (current-in file) (saved-in file)
]

module _ (table : Table) (s : ℕ) (id : InodeId) where
  of_rows : {P : Type 0} (o : Option RowHistory) (n : Node FileBlocks) (fb : FileBlocks) → rows_at table id ≡ o → option_map (node_in id s) o ≡ Some n → n.body ≡ bodies.File fb
      → ((state : FileState) → HasState table id state → fb ≡ record { size = state.size; blocks = state.blocks } → P) → P
  of_rows None n fb e h is then = absurd (none_some h)
  of_rows (Some (Dir dir)) n fb e h is then = absurd (dir_file (ap (λ (m : Node FileBlocks). m.body) (same_some h) ∙ is))
    where
      dir_file : bodies.Dir ≡ bodies.File fb → ⊥
      dir_file k = cc
  of_rows (Some (File file)) n fb e h is then = then (state_at s file) (record { file = file; row = e; is = state_at_in s file }) (same_body (ap (λ (m : Node FileBlocks). m.body) (same_some h) ∙ is))
    where
      same_body : {x : FileBlocks} → bodies.File x ≡ bodies.File fb → fb ≡ x
      same_body k = cc

-- ---- a state with the same bytes

module _ (table : Table) (before now : BlockMap) (same : (x : InodeId) (state : FileState) → HasState table x state → file_bytes now state.size state.blocks ≡ file_bytes before state.size state.blocks) where
  body_same : (s : ℕ) (n : Node FileBlocks) (body : Body FileBlocks) → (shown table s).node n.id ≡ Some n → n.body ≡ body → viewed_body (bytes_in now) body ≡ viewed_body (bytes_in before) body
  body_same s n bodies.Dir at is = refl
  body_same s n (bodies.File fb) at is = of_rows table s n.id (rows_at table n.id) n fb refl at is (λ state has e.
      ap (λ (bytes : List ℕ). bodies.File bytes) (ap (bytes_in now) e ∙ same n.id state has ∙ sym (ap (bytes_in before) e)))

  place_same : (s : ℕ) (path : Names) (n : Node FileBlocks) → (shown table s).node n.id ≡ Some n → viewed_place (bytes_in now) (path, n) ≡ viewed_place (bytes_in before) (path, n)
  place_same s path n at = ap (λ (body : Body (List ℕ)). (path, record { id = n.id; mode = n.mode; stamp = n.stamp; body = body })) (body_same s n n.body at refl)

  -- each place of a tree in order shows what a row shows
  tree_same : (s : ℕ) (tree : Tree FileBlocks) → is_sorted path_cmp tree ≡ true → ((p : Names) (n : Node FileBlocks) → node_at tree p ≡ Some n → (shown table s).node n.id ≡ Some n) → viewed_tree (bytes_in now) tree ≡ viewed_tree (bytes_in before) tree
  tree_same s [] sorted at = refl
  tree_same s (e ∷ es) sorted at =
      let here = place_same s e.0 e.1 (at e.0 e.1 (head_at e es)) in
      let rest = tree_same s es (second (below_all path_cmp e.0 es) _ sorted) (λ p n h. at p n (in_tail e es p n (first (below_all path_cmp e.0 es) _ sorted) h)) in
      λ i. here i ∷ rest i

  member_same : (m : Member FileBlocks) → viewed_tree (bytes_in now) m.tree ≡ viewed_tree (bytes_in before) m.tree → viewed_member (bytes_in now) m ≡ viewed_member (bytes_in before) m
  member_same m e = ap (λ (t : Tree (List ℕ)). record { snapshot = m.snapshot; directory = m.directory; name = m.name; tick = m.tick; tree = t }) e

  members_same : (ms : List (Member FileBlocks)) → ((m : Member FileBlocks) → Contains ms m → viewed_tree (bytes_in now) m.tree ≡ viewed_tree (bytes_in before) m.tree) → map (viewed_member (bytes_in now)) ms ≡ map (viewed_member (bytes_in before)) ms
  members_same [] all = refl
  members_same (m ∷ ms) all =
      let here = member_same m (all m (in-here ms m m refl)) in
      let rest = members_same ms (λ k c. all k (in-later ms m k c)) in
      λ i. here i ∷ rest i

  pub state-same : (state : State FileBlocks) (issued : ℕ) → IsSorted state → Stands table state issued → viewed (bytes_in now) state ≡ viewed (bytes_in before) state
  state-same state issued sorted stands =
      let live = tree_same 0 state.tree sorted.live stands.live.node in
      let copies = members_same state.members (λ m c. tree_same m.snapshot.0 m.tree (all_at (λ (o : Member FileBlocks). is_sorted path_cmp o.tree) state.members m sorted.copies c) (stands.frozen m c).node) in
      λ i. record {
        tree = live i;
        snapshottable = state.snapshottable;
        members = copies i;
        next_inode = state.next_inode;
        next_snapshot = state.next_snapshot;
        tick = state.tick;
      }

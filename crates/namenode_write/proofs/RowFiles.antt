-- The file that rows have at a place is the one of the state that they stand for.
use Rattle.std.proofs.Common.{◌≡◌, ◌⊎◌, ℕ, ◌<◌, ◌==◌, inl, inr, true, false, cond, List, [], ◌∷◌, map, Option, Some, None, Ok, Err, refl, sym, ap, subst, ◌∙◌, arith}
use Rattle.std.specs.Option.{option_map}
use Rattle.std.specs.Prelude.{nat_le, nat_eq, IfSome, Result, MatchResult, IsErrAnd}
use Rattle.std.specs.List.{Contains}
use Rattle.std.proofs.lemmas.Bool.Decides.{nat_tests}
use Rattle.std.proofs.lemmas.Bool.{cases_Bool}
use Rattle.hs_types.specs.Blocks.{BlockMap, IsFile, HoldsFile}
use Rattle.hs_types.specs.Names.{Names}
use Rattle.hs_types.specs.declared.ids.InodeId.{InodeId}
use Rattle.hs_types.specs.declared.ids.BlockId.{BlockId}
use Rattle.hs_types.specs.declared.path.Path.{Path}
use Rattle.hs_types.specs.declared.path.PathTail.{PathTail}
use Rattle.hs_types.specs.declared.path.PathTail.TheVariants.{Plain, SnapshotList, Frozen}
use Rattle.hs_types.specs.declared.call.Place.{Place}
use Rattle.hs_types.specs.declared.call.Place.TheVariants as places
use Rattle.hs_types.specs.declared.refusal.Refusal.TheVariants.{NotFound, NotFile}
use Rattle.hs_plain.specs.declared.state.Node.{Node}
use Rattle.hs_plain.specs.declared.state.Member.{Member}
use Rattle.hs_plain.specs.declared.state.State.{State}
use Rattle.hs_plain.specs.declared.state.FileBlocks.{FileBlocks}
use Rattle.hs_plain.specs.Asked.{Asked, ◌>>=◌}
use Rattle.hs_plain.specs.Tree.{Tree, node_at, walk, walks_above, found, place_of}
use Rattle.hs_plain.specs.State.{resolve, resolve_tail, is_snapshottable, if_snapshottable, snapshot_root, member_named, member_with, is_named}
use Rattle.hs_plain.specs.Modifying as plain
use Rattle.hs_plain.specs.Reading.{file_there, file_at, found_file}
use Rattle.hs_types.specs.Paths.{path_of}
use Rattle.hs_plain.specs.Valid.{has_each_once, rises_above}
use Rattle.hs_plain.proofs.SameTree.{found_self}
use Rattle.hs_plain.proofs.ValidAsked.{ok_then, same_ok}
use Rattle.hs_plain.proofs.ValidHeld.{in-tree}
use Rattle.hs_plain.proofs.ValidLists.{In, contains-in, all_so}
use Rattle.hs_plain.proofs.ValidMembers.{above_all}
use Rattle.hs_plain.proofs.ValidShapes.{none_some, same_some}
use Rattle.hs_plain.proofs.ValidTrees.{second}
use Rattle.file_changes.specs.declared.state.FileState.{FileState}
use Rattle.file_changes.specs.declared.state.FileRecord.{FileRecord}
use Rattle.file_changes.specs.History.{FileHistory, state_at, state_from}
use Rattle.snapshot_manager.specs.Snapshots.{Snapshots}
use Rattle.inode_table.specs.Reads.{ReadsAs}
use Rattle.inode_table.specs.Blocked.{AreBlocks, HasState, HoldsState, states_of}
use Rattle.inode_table.specs.RowHistory.{Table, RowHistory, File, Dir, rows_at, shown, node_in}
use Rattle.inode_table.specs.Tabled.{Tabled}
use Rattle.inode_table.specs.Whole.{StandsFor}
use Rattle.table_laws.proofs.BlockStates.{current-in, saved-in}
use Rattle.table_laws.proofs.BlockLists.{in-here, in-later}
use Rattle.namenode_write.specs.RowFiles.{body_of, file_in, file_placed}

-- ---- a tree that is read from rows

module _ (table : Table) (s : ℕ) (top : InodeId) (tree : Tree FileBlocks) (reads : ReadsAs (shown table s) top (node_at tree)) where
  pub file-read : (p : Names) (n : Node FileBlocks) → node_at tree p ≡ Some n → plain.file_in n.body ≡ file_in s (rows_at table n.id)
  file-read p n is = by (rows_at table n.id) refl
    where
      by : (o : Option RowHistory) → rows_at table n.id ≡ o → plain.file_in n.body ≡ file_in s (rows_at table n.id)
      by None e = absurd (none_some (ap (option_map (node_in n.id s)) (sym e) ∙ reads.node p n is))
      by (Some (File file)) e =
          let same : node_in n.id s (File file) ≡ n = same_some (ap (option_map (node_in n.id s)) (sym e) ∙ reads.node p n is) in
          rw e (ap (λ (m : Node FileBlocks). plain.file_in m.body) (sym same))
      by (Some (Dir dir)) e =
          let same : node_in n.id s (Dir dir) ≡ n = same_some (ap (option_map (node_in n.id s)) (sym e) ∙ reads.node p n is) in
          rw e (ap (λ (m : Node FileBlocks). plain.file_in m.body) (sym same))

  pub there-read : has_each_once tree ≡ true → (p : Names) (n : Node FileBlocks) → node_at tree p ≡ Some n → file_there (place_of tree n.id) ≡ file_in s (rows_at table n.id)
  there-read once p n is = ap file_there (found_self tree once (p, n) (in-tree tree p n is)) ∙ file-read p n is

found_so : (o : Option (Node FileBlocks)) (node : Node FileBlocks) → found o ≡ Ok node → o ≡ Some node
found_so None node e = cc
found_so (Some n) node e = ap (λ (x : Node FileBlocks). Some x) (same_ok e)

pub walk-at : (tree : Tree FileBlocks) (path : Names) (node : Node FileBlocks) → walk tree path ≡ Ok node → node_at tree path ≡ Some node
walk-at tree path node is = let w = ok_then (walks_above tree path) (λ _. found (node_at tree path)) node is in found_so (node_at tree path) node w.2

-- ---- snapshots

named-in : (ms : List (Member FileBlocks)) (dir : InodeId) (name : List ℕ) (m : Member FileBlocks) → member_named ms dir name ≡ Ok m → In ms m
named-in [] dir name m is = cc
named-in (n ∷ ms) dir name m is = by (cases_Bool (is_named dir name n)) (named-in ms dir name m)
  where
    by : (is_named dir name n ≡ true) ⊎ (is_named dir name n ≡ false) → (member_named ms dir name ≡ Ok m → In ms m) → In (n ∷ ms) m
    by (inl t) rest = inl (same_ok (sym (ap (λ b. cond b (Ok n) (member_named ms dir name)) t) ∙ is))
    by (inr f) rest = inr (rest (sym (ap (λ b. cond b (Ok n) (member_named ms dir name)) f) ∙ is))

differ : (a b : ℕ) → a < b → (a == b) ≡ false
differ a b less = grind (arith, nat_tests)

with-self : (ms : List (Member FileBlocks)) (bound : ℕ) → rises_above bound (map (λ (m : Member FileBlocks). m.snapshot.0) ms) ≡ true → (m : Member FileBlocks) → In ms m → member_with ms m.snapshot ≡ Ok m
with-self [] bound rise m at = absurd at
with-self (n ∷ ms) bound rise m (inl same) =
    let yes : (n.snapshot.0 == m.snapshot.0) ≡ true = ap (λ (x : Member FileBlocks). n.snapshot.0 == x.snapshot.0) (sym same) ∙ grind (arith, nat_tests) in
    ap (λ b. cond b (Ok n) (member_with ms m.snapshot)) yes ∙ ap (λ (x : Member FileBlocks). Ok x) same
with-self (n ∷ ms) bound rise m (inr at) =
    let rest : rises_above n.snapshot.0 (map (λ (m : Member FileBlocks). m.snapshot.0) ms) ≡ true = second _ _ rise in
    let less : n.snapshot.0 < m.snapshot.0 = above_all (λ (m : Member FileBlocks). m.snapshot.0) ms n.snapshot.0 rest m at in
    let no : (n.snapshot.0 == m.snapshot.0) ≡ false = differ n.snapshot.0 m.snapshot.0 less in
    ap (λ b. cond b (Ok n) (member_with ms m.snapshot)) no ∙ with-self ms n.snapshot.0 rest m at

-- ---- the file at a place

module _ (t : Tabled) (snaps : Snapshots) (state : State FileBlocks) (all : StandsFor t snaps state) where
  root-so : (o : Option (Node FileBlocks)) (dir : InodeId) → if_snapshottable state o ≡ Ok dir → is_snapshottable state dir ≡ true
  root-so None dir is = cc
  root-so (Some n) dir is = by (cases_Bool (is_snapshottable state n.id))
    where
      by : (is_snapshottable state n.id ≡ true) ⊎ (is_snapshottable state n.id ≡ false) → is_snapshottable state dir ≡ true
      by (inl t) = ap (is_snapshottable state) (sym (same_ok (sym (ap (λ b. cond b (Ok n.id) (Err NotFound)) t) ∙ is))) ∙ t
      by (inr f) = let never = sym (ap (λ b. cond {A = Asked InodeId} b (Ok n.id) (Err NotFound)) f) ∙ is in cc

  pub found-placed : (path : Path) (place : Place) → resolve state path ≡ Ok place → file_at state place ≡ file_placed t.rows place
  found-placed path place is = by path.tail is
    where
      by : (tail : PathTail) → resolve_tail state path.base tail ≡ Ok place → file_at state place ≡ file_placed t.rows place
      by Plain h =
          let w = ok_then (walk state.tree path.base) _ place h in
          subst (λ (pl : Place). file_at state pl ≡ file_placed t.rows pl) (same_ok w.2) (there-read t.rows 0 _ state.tree all.stands.live all.valid.each_once path.base w.0 (walk-at state.tree path.base w.0 w.1))
      by SnapshotList h =
          let r = ok_then (snapshot_root state path.base) _ place h in
          subst (λ (pl : Place). file_at state pl ≡ file_placed t.rows pl) (same_ok r.2) (ap (λ b. cond b (Err NotFile) (Err NotFound)) (root-so (node_at state.tree path.base) r.0 r.1))
      by (Frozen snapshot rest) h =
          let r = ok_then (snapshot_root state path.base) _ place h in
          let m = ok_then (member_named state.members r.0 snapshot) _ place r.2 in
          let w = ok_then (walk m.0.tree rest) _ place m.2 in
          let within = named-in state.members r.0 snapshot m.0 m.1 in
          let with : member_with state.members m.0.snapshot ≡ Ok m.0 = with-self state.members 0 all.valid.snapshots_rise m.0 within in
          let once = all_so (λ (o : Member FileBlocks). has_each_once o.tree) state.members all.valid.copies_each_once m.0 within in
          subst (λ (pl : Place). file_at state pl ≡ file_placed t.rows pl) (same_ok w.2)
          (ap (λ (a : Asked (Member FileBlocks)). a >>= λ member. file_there (place_of member.tree w.0.id)) with
          ∙ there-read t.rows m.0.snapshot.0 m.0.directory m.0.tree (all.stands.frozen m.0 (contains-in state.members m.0 within)) once rest w.0 (walk-at m.0.tree rest w.0 w.1))

  pub found-so : (text : List ℕ) (path : Path) (place : Place) → path_of text ≡ Ok path → resolve state path ≡ Ok place → found_file state text ≡ (file_placed t.rows place >>= λ file. Ok (place, file))
  found-so text path place is_path is_place =
      ap (λ (a : Asked Path). a >>= λ path. resolve state path >>= λ place. file_at state place >>= λ file. Ok (place, file)) is_path
      ∙ ap (λ (a : Asked Place). a >>= λ place. file_at state place >>= λ file. Ok (place, file)) is_place
      ∙ ap (λ (a : Asked FileBlocks). a >>= λ file. Ok (place, file)) (found-placed path place is_place)

pub match_err : {T E : Type 0} (r : Result T E) (x : E) (P : T → Type 0) (Q : E → Type 0) → IsErrAnd r (λ y. y ≡ x) → Q x → MatchResult r P Q
match_err (Ok t) x P Q is q = absurd is
match_err (Err e) x P Q is q = subst Q (sym is) q

-- ---- the blocks of that file

saved-by : (s : ℕ) (rs : List FileRecord) (current : FileState) (P : FileState → Type 0) → P current → ((r : FileRecord) → Contains rs r → P r.state) → P (state_from s rs current)
saved-by s [] current P now saved = now
saved-by s (r ∷ rs) current P now saved = elim (nat_le s r.number.0) as (λ b. P (cond b r.state (state_from s rs current))) [
  | true ↦ saved r (in-here rs r r refl)
  | false ↦ saved-by s rs current P now (λ q c. saved q (in-later rs r q c))
]

state-in : (s : ℕ) (file : FileHistory) → Contains (states_of file) (state_at s file)
state-in s file = elim (nat_eq s 0) as (λ b. Contains (states_of file) (cond b file.current (state_from s file.records file.current))) [
  | true ↦ current-in file
  | false ↦ saved-by s file.records file.current (λ t. Contains (states_of file) t) (current-in file) (saved-in file)
]

-- what holds of each state of a row holds of the file
module _ (table : Table) (P : FileBlocks → Type 0) (all : (id : InodeId) (state : FileState) → HasState table id state → P (body_of state)) where
  pub in-row : (s : ℕ) (id : InodeId) (file : FileBlocks) → file_in s (rows_at table id) ≡ Ok file → P file
  in-row s id file is = by (rows_at table id) refl is
    where
      by : (o : Option RowHistory) → rows_at table id ≡ o → file_in s o ≡ Ok file → P file
      by None e h = cc
      by (Some (File f)) e h = subst P (same_ok h) (all id (state_at s f) (record { file = f; row = e; is = state-in s f }))
      by (Some (Dir d)) e h = cc

  pub at-place : (place : Place) (file : FileBlocks) → file_placed table place ≡ Ok file → P file
  at-place (places.Live id) file is = in-row 0 id file is
  at-place (places.Frozen id s) file is = in-row s.0 id file is
  at-place (places.SnapshotsOf dir) file is = cc

module _ (table : Table) (store : Option BlockMap) (made : ℕ) (waiting : List BlockId) (are : AreBlocks table store made waiting) (place : Place) (file : FileBlocks) (is : file_placed table place ≡ Ok file) where
  pub place-file : IsFile file.size file.blocks
  place-file = at-place table (λ f. IsFile f.size f.blocks) (λ id state has. are.files id state has) place file is

  pub place-held : IfSome store (λ map. HoldsFile map file.size file.blocks)
  place-held = at-place table (λ f. IfSome store (λ map. HoldsFile map f.size f.blocks)) (λ id state has. told store state (are.held id state has)) place file is
    where
      told : (o : Option BlockMap) (state : FileState) → HoldsState o state → IfSome o (λ map. HoldsFile map state.size state.blocks)
      told None state h = tt
      told (Some map) state h = h

-- How many places the trees of a journal's state may have: no more than the journal has entries, and two.
use Rattle.std.proofs.Common.{◌≡◌, ℕ, ◌+◌, ◌≤◌, ◌<◌, ◌==◌, eqb, Bool, true, false, cond, Option, Some, None, List, [], ◌∷◌, ◌++◌, map, length, sym, subst, ◌∙◌, arith}
use Rattle.std.specs.Prelude.{not}
use Rattle.std.specs.List.{list_any, filter, filter_map, cons_option, AllByRecursion, IsDistinct}
use Rattle.std.proofs.lemmas.Bool.Decides.{Decides-eqb}
use Rattle.std.proofs.lemmas.List.{length-map, length-reverse}
use Rattle.std.proofs.lemmas.Map.Steps.{length-le_from_distinct_below}
use Rattle.std.specs.FinMap.Entries.{is_sorted}
use Rattle.hs_types.specs.Names.{Names}
use Rattle.hs_types.specs.declared.ids.InodeId.{InodeId}
use Rattle.hs_types.specs.declared.call.Call.{Call}
use Rattle.hs_types.specs.declared.call.Call.TheVariants as calls
use Rattle.hs_types.specs.declared.journal.Entry.{Entry}
use Rattle.hs_types.specs.declared.reply.Item.{Item}
use Rattle.hs_plain.specs.declared.state.Node.{Node}
use Rattle.hs_plain.specs.declared.state.State.{State}
use Rattle.hs_plain.specs.Files.{plain_files}
use Rattle.hs_plain.specs.Tree.{Tree, path_cmp, node_at, child_item, listing}
use Rattle.hs_plain.specs.State.{start, is_snapshottable}
use Rattle.hs_plain.specs.Modifying.{mkdir_at, create_at, append_at, delete_at, rename_at, set_mode_at}
use Rattle.hs_plain.specs.Snapshotting.{allow_at, disallow_at, snap_at, snap_del_at, snap_ren_at}
use Rattle.hs_plain.specs.Change.{change, changed_if, takes_effect, after, made_dir, made_file, appended, removed, renamed, with_mode, allowed, disallowed, snapped, unsnapped, resnapped}
use Rattle.hs_plain.specs.Replay.{replay_from, plain_after}
use Rattle.hs_plain.specs.Valid.{all_differ, has_each_once, IsValid}
use Rattle.hs_plain.specs.Plan.{goes, outs, root_names}
use Rattle.hs_plain.proofs.ValidTrees.{first, second, if_asked-keeps}
use Rattle.hs_plain.proofs.ValidLists.{In, neither_first, neither_second, not_so, any_so, map_so}
use Rattle.hs_plain.proofs.ValidHeld.{Held, found_place, below_so}

-- ---- each entry gives out at most one inode id

no-more : (n : ℕ) → n ≤ n + 1
no-more n = omega arith

one-more : (n : ℕ) → n + 1 ≤ n + 1
one-more n = omega arith

abbrev Gives : State (List ℕ) → State (List ℕ) → Type 0
Gives state next = next.next_inode ≤ state.next_inode + 1

gives-allowed : (state : State (List ℕ)) (id : InodeId) → Gives state (allowed state id)
gives-allowed state id =
    elim (is_snapshottable state id) as (λ b. Gives state (cond {A = State (List ℕ)} b state (record state { snapshottable = state.snapshottable ++ id ∷ [] }))) [
      | true ↦ no-more state.next_inode
      | false ↦ no-more state.next_inode
    ]

gives-change : (state : State (List ℕ)) (call : Call) → Gives state (change plain_files state call)
gives-change state (calls.Mkdir path) = if_asked-keeps (Gives state) (made_dir state) state (mkdir_at state path) (no-more state.next_inode) (λ x is. one-more state.next_inode)
gives-change state (calls.Create path over) = if_asked-keeps (Gives state) (made_file plain_files state) state (create_at state path over) (no-more state.next_inode) (λ x is. one-more state.next_inode)
gives-change state (calls.Append path bytes) = if_asked-keeps (Gives state) (appended plain_files state bytes) state (append_at state path) (no-more state.next_inode) (λ x is. no-more state.next_inode)
gives-change state (calls.Delete path recursive) = if_asked-keeps (Gives state) (removed state) state (delete_at state path recursive) (no-more state.next_inode) (λ x is. no-more state.next_inode)
gives-change state (calls.Rename old new) = if_asked-keeps (Gives state) (renamed state) state (rename_at state old new) (no-more state.next_inode) (λ x is. no-more state.next_inode)
gives-change state (calls.SetMode path mode) = if_asked-keeps (Gives state) (with_mode state mode) state (set_mode_at state path) (no-more state.next_inode) (λ x is. no-more state.next_inode)
gives-change state (calls.Allow path) = if_asked-keeps (Gives state) (allowed state) state (allow_at state path) (no-more state.next_inode) (λ x is. gives-allowed state x)
gives-change state (calls.Disallow path) = if_asked-keeps (Gives state) (disallowed state) state (disallow_at state path) (no-more state.next_inode) (λ x is. no-more state.next_inode)
gives-change state (calls.Snap path name) = if_asked-keeps (Gives state) (snapped state name) state (snap_at state path name) (no-more state.next_inode) (λ x is. no-more state.next_inode)
gives-change state (calls.SnapDel path name) = if_asked-keeps (Gives state) (unsnapped state) state (snap_del_at state path name) (no-more state.next_inode) (λ x is. no-more state.next_inode)
gives-change state (calls.SnapRen path old new) = if_asked-keeps (Gives state) (resnapped state new) state (snap_ren_at state path old new) (no-more state.next_inode) (λ x is. no-more state.next_inode)
gives-change state call = no-more state.next_inode

gives-after : (state : State (List ℕ)) (entry : Entry) → Gives state (after plain_files state entry)
gives-after state entry = elim (takes_effect entry) as (λ b. (changed_if b plain_files state entry.call).next_inode ≤ state.next_inode + 1) [
  | true ↦ gives-change state entry.call
  | false ↦ no-more state.next_inode
]

gives-replay : (state : State (List ℕ)) (entries : List Entry) → (replay_from plain_files state entries).next_inode ≤ state.next_inode + length entries
gives-replay state [] = omega arith
gives-replay state (entry ∷ entries) = omega (arith, gives-replay (after plain_files state entry) entries, gives-after state entry)

pub ids-few : (entries : List Entry) → (plain_after entries).next_inode ≤ 2 + length entries
ids-few entries = gives-replay start entries

-- ---- so its trees are no larger

distinct-so : (ids : List ℕ) → all_differ ids ≡ true → IsDistinct eqb ids
unfolding IsDistinct
distinct-so [] h = tt
distinct-so (id ∷ ids) h = (apart ids (not_so (list_any (λ other. id == other) ids) (first (not (list_any (λ other. id == other) ids)) _ h)), distinct-so ids (second (not (list_any (λ other. id == other) ids)) _ h))
  where
    apart : (others : List ℕ) → list_any (λ other. id == other) others ≡ false → AllByRecursion (λ other. (id == other) ≡ false) others
    apart [] none = tt
    apart (other ∷ others) none = (neither_first (id == other) _ none, apart others (neither_second (id == other) _ none))

abbrev number_of : {B : Type 0} → Names × Node B → ℕ
number_of place = place.1.id.0

pub places-few : (state : State (List ℕ)) → IsValid state → (tree : Tree (List ℕ)) → is_sorted path_cmp tree ≡ true → has_each_once tree ≡ true →
    ((q : Names) (n : Node (List ℕ)) → node_at tree q ≡ Some n → Held state n) → length tree ≤ state.next_inode
places-few state valid tree sorted once held =
    subst (λ n. n ≤ state.next_inode) (length-map tree number_of)
    (length-le_from_distinct_below (map number_of tree) state.next_inode (distinct-so (map number_of tree) once) (λ id is.
    let there : (x : ℕ) × (In (map number_of tree) x) × ((id == x) ≡ true) = any_so (λ x. id == x) (map number_of tree) is in
    let place : (place : Names × Node (List ℕ)) × (In tree place) × (number_of place ≡ there.0) = map_so number_of tree there.0 there.1 in
    subst (λ n. n < state.next_inode) (place.2 ∙ sym ((Decides-eqb id there.0).0 there.2))
    (below_so state valid place.0.1 (held place.0.0 place.0.1 (found_place tree sorted place.0 place.1)))))

-- ---- and so are their parts

length-filter : {X : Type 0} (keeps : X → Bool) (xs : List X) → length (filter keeps xs) ≤ length xs
length-filter keeps [] = omega arith
length-filter keeps (x ∷ xs) = let rest : length (filter keeps xs) ≤ length xs = length-filter keeps xs in
    elim (keeps x) as (λ b. length (cond b (x ∷ filter keeps xs) (filter keeps xs)) ≤ length (x ∷ xs)) [ true ↦ omega arith | false ↦ omega arith ]

length-filter_map : {X Y : Type 0} (f : X → Option Y) (xs : List X) → length (filter_map f xs) ≤ length xs
length-filter_map f [] = omega arith
length-filter_map f (x ∷ xs) = let rest : length (filter_map f xs) ≤ length xs = length-filter_map f xs in
    elim (f x) as (λ o. length (cons_option o (filter_map f xs)) ≤ length (x ∷ xs)) [ None ↦ omega arith | Some y ↦ omega arith ]

pub names-few : (tree : Tree (List ℕ)) → length (root_names tree) ≤ length tree
names-few tree = subst (λ n. n ≤ length tree) (sym (length-map (listing tree []) (λ (item : Item). item.name))) (length-filter_map (child_item []) tree)

pub outs-few : (from to : Tree (List ℕ)) → length (outs from to) ≤ length from
outs-few from to = subst (λ n. n ≤ length from)
    (sym (length-reverse (map (λ (place : Names × Node (List ℕ)). place.0) (filter (goes from to) from)) ∙ length-map (filter (goes from to) from) (λ (place : Names × Node (List ℕ)). place.0)))
    (length-filter (goes from to) from)

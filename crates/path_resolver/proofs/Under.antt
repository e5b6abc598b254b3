-- Going up from a node comes to another exactly where its path goes on from the other's.
use Rattle.std.proofs.Common.{◌≡◌, ℕ, zero, suc, ◌+◌, ◌<◌, ◌≤◌, true, false, cond, ◌||◌, List, [], ◌∷◌, ◌++◌, length, length-append, Option, Some, None, refl, sym, ap, ◌∙◌, append_assoc, append-nil, nat_eq, arith}
use Rattle.std.specs.Prelude.{◌≢◌, bytes_eq}
use Rattle.std.specs.List.{AllByRecursion, IsDistinct, list_any, starts_with}
use Rattle.std.specs.Option.{option_map}
use Rattle.std.proofs.lemmas.Bool.Decides.{Decides-eqb}
use Rattle.std.proofs.lemmas.List.{append_cancel_left}
use Rattle.std.proofs.lemmas.Map.Steps.{length-le_from_distinct_below}
use Rattle.hs_types.specs.Names.{Names}
use Rattle.hs_types.specs.declared.ids.InodeId.{InodeId}
use Rattle.hs_plain.specs.declared.state.Node.{Node}
use Rattle.hs_plain.specs.declared.state.State.{State}
use Rattle.hs_plain.specs.declared.state.FileBlocks.{FileBlocks}
use Rattle.hs_plain.specs.Tree.{node_at, same_inode}
use Rattle.hs_plain.proofs.ValidChanges.{apart_test}
use Rattle.hs_plain.proofs.ValidLists.{by_test, false_by, neither_first, neither_second}
use Rattle.hs_plain.proofs.ValidMembers.{inode_so, inode_test}
use Rattle.hs_plain.proofs.ValidShapes.{by_last, by_same, by_under, none_some, not_last, not_more, same_some, under_test}
use Rattle.dir_changes.specs.Entries.{id_at, is_that}
use Rattle.dir_changes.proofs.UndoLaw.{is_that_from}
use Rattle.snapshot_manager.specs.Snapshots.{Snapshots}
use Rattle.inode_table.specs.Reads.{Shown, Nodes, ReadsAs, IsNodes, child, id_of}
use Rattle.inode_table.specs.RowHistory.{RowState, node_in, row_at, shown}
use Rattle.inode_table.specs.Stands.{root_id}
use Rattle.inode_table.specs.Tabled.{Tabled}
use Rattle.inode_table.specs.Walk.{and_then}
use Rattle.inode_table.specs.Whole.{StandsFor}
use Rattle.inode_table.proofs.Covers.{some_id}
use Rattle.inode_table.proofs.Reading.{last_two}
use Rattle.inode_table.proofs.Walking.{up_there}
use Rattle.path_resolver.specs.Above.{up_from, go_on, comes_up}
use Rattle.path_resolver.proofs.ByRows.{nodes}

-- ---- paths

under-itself : (q path : Names) → q ≡ path → starts_with bytes_eq q path ≡ true
under-itself q path e = under_test q path [] (e ∙ sym (append-nil path))

-- another path has a child at or below it where it has the parent there
under-child : (above : Names) (name : List ℕ) (path : Names) → child above name ≢ path → starts_with bytes_eq (child above name) path ≡ starts_with bytes_eq above path
under-child above name path other = by_under above path
    (λ rest e. under_test (child above name) path (child rest name) (ap (λ (p : Names). child p name) e ∙ append_assoc path rest (name ∷ [])) ∙ sym (under_test above path rest e))
    (λ apart. apart_test (child above name) path (λ rest e. by_last (λ r. child above name ≡ path ++ r → ⊥) rest (λ d. other (d ∙ append-nil path))
    (λ front last d. apart front (last_two above (path ++ front) name last (d ∙ sym (append_assoc path front (last ∷ [])))).0) e)
    ∙ sym (apart_test above path apart))

-- ---- going up

module _ (v : Shown FileBlocks) (f : Nodes FileBlocks) (is : IsNodes f) (reads : ReadsAs v root_id f) where
  not_root : (above : Names) (name : List ℕ) (x : Node FileBlocks) → f (child above name) ≡ Some x → same_inode x.id root_id ≡ false
  not_root above name x h = false_by _ (λ t. let r = some_id (f []) root_id reads.root in not_last above name (is.once (child above name) [] x r.0 h r.1 (inode_so x.id root_id t ∙ sym r.2)))

  up-child : (above : Names) (name : List ℕ) (n x : Node FileBlocks) → f above ≡ Some n → f (child above name) ≡ Some x → up_from v x.id ≡ Some n.id
  up-child above name n x at h =
      ap (λ b. cond b None (and_then (v.spot x.id) (λ spot. cond (is_that x.id (id_at spot.name (v.entries spot.parent))) (Some spot.parent) None))) (not_root above name x h)
      ∙ ap (λ o. and_then o (λ spot. cond (is_that x.id (id_at spot.name (v.entries spot.parent))) (Some spot.parent) None)) (reads.spot above n x name at h)
      ∙ ap (λ b. cond b (Some n.id) None) (is_that_from x.id (id_at name (v.entries n.id)) (reads.entries above n name at ∙ ap id_of h))

  up-root : (n : Node FileBlocks) → f [] ≡ Some n → up_from v n.id ≡ None
  up-root n at = ap (λ b. cond b None (and_then (v.spot n.id) (λ spot. cond (is_that n.id (id_at spot.name (v.entries spot.parent))) (Some spot.parent) None)))
      (inode_test n.id root_id (ap (λ (i : InodeId). i.0) (same_some (sym (ap id_of at) ∙ reads.root))))

  module _ (path : Names) (x : Node FileBlocks) (there : f path ≡ Some x) where
    come : (n : ℕ) (q : Names) (y : Node FileBlocks) → f q ≡ Some y → q ≡ path → comes_up v x.id (suc n) y.id ≡ starts_with bytes_eq q path
    come n q y at e = ap (λ b. b || go_on (comes_up v x.id n) (up_from v y.id)) (inode_test y.id x.id (ap (λ (m : Node FileBlocks). m.id.0) (same_some (sym at ∙ ap f e ∙ there)))) ∙ sym (under-itself q path e)

    differ : (n : ℕ) (q : Names) (y : Node FileBlocks) → f q ≡ Some y → q ≢ path → comes_up v x.id (suc n) y.id ≡ go_on (comes_up v x.id n) (up_from v y.id)
    differ n q y at other = ap (λ b. b || go_on (comes_up v x.id n) (up_from v y.id)) (false_by (same_inode y.id x.id) (λ t. other (is.once q path y x at there (inode_so y.id x.id t))))

    climb : (n : ℕ) (q : Names) (y : Node FileBlocks) → f q ≡ Some y → length q < n → comes_up v x.id n y.id ≡ starts_with bytes_eq q path
    climb zero q y at short = absurd (omega arith)
    climb (suc n) q y at short = by_last (λ p. f p ≡ Some y → length p < suc n → comes_up v x.id (suc n) y.id ≡ starts_with bytes_eq p path) q
        (λ here _. by_same [] path (λ e. come n [] y here e)
        (λ other. differ n [] y here other ∙ ap (go_on (comes_up v x.id n)) (up-root y here) ∙ sym (apart_test [] path (λ rest e. other (sym (not_more path rest e))))))
        (λ above name here less.
        let up = is.above above y name here in
        let len : length (child above name) ≡ length above + 1 = length-append above (name ∷ []) in
        let rest : comes_up v x.id n up.0.id ≡ starts_with bytes_eq above path = climb n above up.0 up.1 (omega arith) in
        by_same (child above name) path (λ e. come n (child above name) y here e)
        (λ other. differ n (child above name) y here other ∙ ap (go_on (comes_up v x.id n)) (up-child above name up.0 y up.1 here) ∙ rest ∙ sym (under-child above name path other)))
        at short

-- ---- how far it is up

abbrev number : Option (Node FileBlocks) → ℕ
number None = 0
number (Some n) = n.id.0

-- the ids from a place on down
abbrev ids_along : Nodes FileBlocks → Names → Names → List ℕ
ids_along f at [] = number (f at) ∷ []
ids_along f at (name ∷ rest) = number (f at) ∷ ids_along f (child at name) rest

all_apart : (n : ℕ) (others : List ℕ) → list_any (nat_eq n) others ≡ false → AllByRecursion (λ m. nat_eq n m ≡ false) others
all_apart n [] none = tt
all_apart n (m ∷ others) none = (neither_first (nat_eq n m) _ none, all_apart n others (neither_second (nat_eq n m) _ none))

empty_more : {X : Type 0} {x : X} {xs : List X} → [] ≡ x ∷ xs → ⊥
empty_more e = cc

module _ (f : Nodes FileBlocks) (is : IsNodes f) where
  length-along : (rest at : Names) → length (ids_along f at rest) ≡ length rest + 1
  length-along [] at = refl
  length-along (name ∷ rest) at = let more = length-along rest (child at name) in omega (arith, more)

  record Along (k : ℕ) (at rest : Names) : Type 0 where
    front : Names
    back : Names
    split : rest ≡ front ++ back
    number_is : k ≡ number (f (at ++ front))

  along-so : (rest at : Names) (k : ℕ) → list_any (nat_eq k) (ids_along f at rest) ≡ true → Along k at rest
  along-so [] at k h = by_test (nat_eq k (number (f at)))
      (λ t. record { front = []; back = []; split = refl; number_is = (Decides-eqb k (number (f at))).0 t ∙ ap (λ (p : Names). number (f p)) (sym (append-nil at)) })
      (λ t. absurd (not_both (sym (ap (λ b. b || false) t) ∙ h)))
    where
      not_both : false ≡ true → ⊥
      not_both e = cc
  along-so (name ∷ rest) at k h = by_test (nat_eq k (number (f at)))
      (λ t. record { front = []; back = name ∷ rest; split = refl; number_is = (Decides-eqb k (number (f at))).0 t ∙ ap (λ (p : Names). number (f p)) (sym (append-nil at)) })
      (λ t. let more = along-so rest (child at name) k (sym (ap (λ b. b || list_any (nat_eq k) (ids_along f (child at name) rest)) t) ∙ h) in
      record { front = name ∷ more.front; back = more.back; split = ap (λ (p : Names). name ∷ p) more.split; number_is = more.number_is ∙ ap (λ (p : Names). number (f p)) (append_assoc at (name ∷ []) more.front) })

  -- the nodes that an element of such a list is of
  along-node : (rest at : Names) (y : Node FileBlocks) (k : ℕ) → f (at ++ rest) ≡ Some y → (a : Along k at rest) → (n : Node FileBlocks) × (f (at ++ a.front) ≡ Some n) × (k ≡ n.id.0)
  along-node rest at y k there a =
      let n = up_there f is (at ++ a.front) a.back y (ap f (append_assoc at a.front a.back ∙ ap (λ (p : Names). at ++ p) (sym a.split)) ∙ there) in
      (n.0, n.1, a.number_is ∙ ap number n.1)

  distinct : (rest at : Names) (y : Node FileBlocks) → f (at ++ rest) ≡ Some y → IsDistinct nat_eq (ids_along f at rest)
  unfolding IsDistinct
  distinct [] at y there = (tt, tt)
  distinct (name ∷ rest) at y there =
      let below : f (child at name ++ rest) ≡ Some y = ap f (append_assoc at (name ∷ []) rest) ∙ there in
      let here = up_there f is at (name ∷ rest) y there in (
        all_apart (number (f at)) (ids_along f (child at name) rest) (false_by _ (λ t.
            let a = along-so rest (child at name) (number (f at)) t in
            let m = along-node rest (child at name) y (number (f at)) below a in
            let same : at ≡ child at name ++ a.front = is.once at (child at name ++ a.front) here.0 m.0 here.1 m.1 (inode_so here.0.id m.0.id ((Decides-eqb here.0.id.0 m.0.id.0).1 (sym (ap number here.1) ∙ m.2))) in
            empty_more (append_cancel_left at [] (name ∷ a.front) (append-nil at ∙ same ∙ append_assoc at (name ∷ []) a.front)))),
        distinct rest (child at name) y below,
      )

module _ (table : Tabled) (snaps : Snapshots) (state : State FileBlocks) (all : StandsFor table snaps state) where
  module _ (s : ℕ) (top : InodeId) (f : Nodes FileBlocks) (is : IsNodes f) (reads : ReadsAs (shown table.rows s) top f) where
    row-there : (id : InodeId) (n : Node FileBlocks) (o : Option RowState) → option_map (node_in id s) (option_map (λ (row : RowState). row.rows) o) ≡ Some n → (row : RowState) × (o ≡ Some row)
    row-there id n None e = absurd (none_some e)
    row-there id n (Some row) e = (row, refl)

    upto-greatest : (p : Names) (n : Node FileBlocks) → f p ≡ Some n → n.id.0 ≤ table.greatest
    upto-greatest p n at = let row = row-there n.id n (row_at table.rows n.id) (reads.node p n at) in all.ids n.id row.0 row.1

    -- the ids on a path differ, so there are no more than greatest ones
    pub few-below : (q : Names) (y : Node FileBlocks) → f q ≡ Some y → length q < table.greatest + 1
    few-below q y there =
        let len : length (ids_along f [] q) ≡ length q + 1 = length-along f is q [] in
        let few : length (ids_along f [] q) ≤ table.greatest + 1 = length-le_from_distinct_below (ids_along f [] q) (table.greatest + 1) (distinct f is q [] y there)
        (λ k h. let m = along-node f is q [] y k there (along-so f is q [] k h) in let upto = upto-greatest _ m.0 m.1 in let named : k ≡ m.0.id.0 = m.2 in omega (arith, upto, named)) in
        omega (arith, len, few)

  few-above : (q : Names) (y : Node FileBlocks) → node_at state.tree q ≡ Some y → length q < table.greatest + 1
  few-above = few-below 0 root_id (node_at state.tree) (nodes table snaps state all) all.stands.live

  pub under : (path place : Names) (above id : InodeId) → id_of (node_at state.tree path) ≡ Some above → id_of (node_at state.tree place) ≡ Some id
      → comes_up (shown table.rows 0) above (table.greatest + 1) id ≡ starts_with bytes_eq place path
  under path place above id at there =
      let x = some_id (node_at state.tree path) above at in
      let y = some_id (node_at state.tree place) id there in
      (λ i. comes_up (shown table.rows 0) (sym x.2 i) (table.greatest + 1) (sym y.2 i))
      ∙ climb (shown table.rows 0) (node_at state.tree) (nodes table snaps state all) all.stands.live path x.0 x.1 (table.greatest + 1) place y.0 y.1 (few-above place y.0 y.1)

-- How many snapshots and nodes there are, by rows and in the plain state.
use Rattle.std.proofs.Common.{◌≡◌, inl, inr, ℕ, ◌+◌, ◌<◌, ◌≤◌, Bool, true, false, cond, List, [], ◌∷◌, map, filter, length, Option, Some, None, refl, sym, ap, subst, ◌∙◌, nat_eq, nat_lt, arith}
use Rattle.std.specs.Prelude.{IsSome, slice_get, ◌==◌, min, unwrap_or}
use Rattle.std.proofs.Math.Nat.{min-eq_left, min-eq_right}
use Rattle.std.specs.List.{AllByRecursion, list_all}
use Rattle.std.specs.List.{find as find_in}
use Rattle.std.specs.Option.{option_map}
use Rattle.std.specs.Cmp.{nat_eq_equiv}
use Rattle.std.proofs.lemmas.Bool.Decides.{Decides-eqb, Decides-ltb, nat_tests}
use Rattle.std.proofs.lemmas.List.{length-map}
use Rattle.std.proofs.lemmas.Map.Made.{length-le_from_is_member}
use Rattle.std.specs.FinMap.{nat_cmp-IsAntisymmetric}
use Rattle.std.specs.Ordering.{nat_cmp, is_eq}
use Rattle.std.specs.declared.cmp.Ordering.{Ordering}
use Rattle.std.specs.declared.cmp.Ordering.TheVariants.{Less, Equal, Greater}
use Rattle.hs_types.specs.Names.{Names}
use Rattle.hs_types.specs.declared.ids.InodeId.{InodeId}
use Rattle.hs_types.specs.declared.name.SnapItem.{SnapItem}
use Rattle.hs_plain.specs.declared.state.Node.{Node}
use Rattle.hs_plain.specs.declared.state.Member.{Member}
use Rattle.hs_plain.specs.declared.state.State.{State}
use Rattle.hs_plain.specs.declared.state.FileBlocks.{FileBlocks}
use Rattle.hs_plain.specs.Valid.{rises_above}
use Rattle.hs_plain.proofs.ValidHeld.{found_place}
use Rattle.hs_plain.proofs.ValidLists.{In, any_so, any_from, map_so, in-map}
use Rattle.hs_plain.proofs.ValidShapes.{none_some, true_false}
use Rattle.hs_plain.proofs.ValidTrees.{first, second}
use Rattle.snapshot_manager.specs.Snapshots.{Directory, Snapshots, IsRising, IsProper, snaps_of, snaps_in}
use Rattle.snapshot_manager.specs.Members.{of_dir}
use Rattle.snapshot_manager.specs.Members as live
use Rattle.inode_table.specs.Joined.{told}
use Rattle.inode_table.specs.RowHistory.{Table, RowState, row_at, node_in}
use Rattle.inode_table.specs.Tabled.{Tabled}
use Rattle.inode_table.specs.Whole.{StandsFor}
use Rattle.path_resolver.proofs.Holds.{some-entry}
use Rattle.path_resolver.proofs.Later.{later, all_later, first_later, none_later}
use Rattle.namenode_write.specs.RowCounts.{snaps_of_all, snaps_from}
use Rattle.namenode_write.proofs.RowLines.{distinct-from}

-- ---- directories one after another

abbrev number : Directory → ℕ
number d = d.0.0

module _ (snaps : Snapshots) (rise : IsRising (map number snaps.dirs)) where
  pub snaps-first : snaps_from snaps (option_map (λ d. d.0) (slice_get snaps.dirs 0)) ≡ snaps_of_all snaps snaps.dirs
  snaps-first = by snaps.dirs refl rise
    where
      by : (ds : List Directory) → snaps.dirs ≡ ds → IsRising (map number ds) → snaps_from snaps (option_map (λ d. d.0) (slice_get ds 0)) ≡ snaps_of_all snaps ds
      by [] e r = refl
      by (d ∷ ds) e r =
          let none : nat_lt d.0.0 d.0.0 ≡ false = grind (arith, nat_tests) in
          ap (λ (whole : List Directory). length (snaps_in snaps d.0) + snaps_of_all snaps (later number d.0.0 whole)) e
          ∙ ap (λ (rest : List Directory). length (snaps_in snaps d.0) + snaps_of_all snaps rest) (ap (λ b. cond b (d ∷ later number d.0.0 ds) (later number d.0.0 ds)) none ∙ all_later number d.0.0 d.0.0 ds (omega arith) r.0)

  pub snaps-next : (next after : Option InodeId) (id : InodeId) → next ≡ Some id → after ≡ option_map (λ d. d.0) (find_in (λ d. nat_lt id.0 d.0.0) snaps.dirs) → snaps_from snaps next ≡ length (snaps_in snaps id) + snaps_from snaps after
  snaps-next next after id is found = ap (snaps_from snaps) is ∙ by (find_in (λ d. nat_lt id.0 d.0.0) snaps.dirs) refl ∙ sym (ap (λ o. length (snaps_in snaps id) + snaps_from snaps o) found)
    where
      by : (o : Option Directory) → find_in (λ d. nat_lt id.0 d.0.0) snaps.dirs ≡ o → snaps_from snaps (Some id) ≡ length (snaps_in snaps id) + snaps_from snaps (option_map (λ d. d.0) o)
      by None e = ap (λ (rest : List Directory). length (snaps_in snaps id) + snaps_of_all snaps rest) (none_later number id.0 snaps.dirs e)
      by (Some d) e = ap (λ (rest : List Directory). length (snaps_in snaps id) + snaps_of_all snaps rest) (first_later number id.0 snaps.dirs d rise e)

pub counted : (o : Option (List SnapItem)) (count : Option ℕ) (n : ℕ) → count ≡ option_map (λ items. length items) o → n ≡ unwrap_or count 0 → n ≡ length (unwrap_or o [])
counted o count n e d = d ∙ ap (λ c. unwrap_or c 0) e ∙ by o
  where
    by : (o : Option (List SnapItem)) → unwrap_or (option_map (λ items. length items) o) 0 ≡ length (unwrap_or o [])
    by None = refl
    by (Some items) = refl

-- a sum that is kept below a bound at each step
pub capped-more : (count own rest most sum : ℕ) → sum ≡ min (count + own) most → min (sum + rest) most ≡ min (count + (own + rest)) most
capped-more count own rest most sum e = by (nat_lt most (count + own)) refl
  where
    by : (b : Bool) → nat_lt most (count + own) ≡ b → min (sum + rest) most ≡ min (count + (own + rest)) most
    by true t =
        let gt : most < count + own = (Decides-ltb most (count + own)).0 t in
        let is : sum ≡ most = e ∙ min-eq_right (omega (arith, gt)) in
        min-eq_right (omega (arith, is)) ∙ sym (min-eq_right (omega (arith, gt)))
    by false f =
        let le : count + own ≤ most = under (λ gt. true_false ((Decides-ltb most (count + own)).1 gt) f) in
        let is : sum ≡ count + own = e ∙ min-eq_left le in
        ap (λ n. min n most) (omega (arith, is))
      where
        under : (most < count + own → ⊥) → count + own ≤ most
        under not_gt = omega (arith, not_gt)

-- ---- members by their directories

abbrev ones : InodeId → List Directory → ℕ
ones id [] = 0
ones id (d ∷ ds) = cond (d.0.0 == id.0) 1 0 + ones id ds

abbrev sum : List live.Member → List Directory → ℕ
sum ms [] = 0
sum ms (d ∷ ds) = length (of_dir d.0 ms) + sum ms ds

no-members : (ds : List Directory) → sum [] ds ≡ 0
no-members [] = refl
no-members (d ∷ ds) = let rest = no-members ds in omega (arith, rest)

one-more : (m : live.Member) (ms : List live.Member) (ds : List Directory) → sum (m ∷ ms) ds ≡ ones m.0 ds + sum ms ds
one-more m ms [] = refl
one-more m ms (d ∷ ds) = let rest = one-more m ms ds in by (d.0.0 == m.0.0) refl rest
  where
    by : (b : Bool) → (d.0.0 == m.0.0) ≡ b → sum (m ∷ ms) ds ≡ ones m.0 ds + sum ms ds
        → length (map (λ (x : live.Member). x.1) (cond (d.0.0 == m.0.0) (m ∷ filter (λ (x : live.Member). d.0.0 == x.0.0) ms) (filter (λ (x : live.Member). d.0.0 == x.0.0) ms))) + sum (m ∷ ms) ds ≡ (cond (d.0.0 == m.0.0) 1 0 + ones m.0 ds) + (length (of_dir d.0 ms) + sum ms ds)
    by true e rest = rw e (omega (arith, rest))
    by false e rest = rw e (omega (arith, rest))

pub above-in : {X : Type 0} (number : X → ℕ) (n : ℕ) (xs : List X) (e : X) → AllByRecursion (λ k. n < k) (map number xs) → In xs e → n < number e
above-in number n [] e above at = absurd at
above-in number n (x ∷ xs) e above (inl same) = let here : n < number x = above.0 in let is : number x ≡ number e = ap number same in omega (arith, here, is)
above-in number n (x ∷ xs) e above (inr at) = above-in number n xs e above.1 at

not-among : (id : InodeId) (ds : List Directory) → AllByRecursion (λ k. id.0 < k) (map number ds) → ones id ds ≡ 0
not-among id [] above = refl
not-among id (d ∷ ds) above =
    let here : id.0 < number d = above.0 in
    let no : (d.0.0 == id.0) ≡ false = grind (arith, nat_tests) in
    let rest = not-among id ds above.1 in
    ap (λ b. cond b 1 0 + ones id ds) no ∙ omega (arith, rest)

among : (id : InodeId) (ds : List Directory) (e : Directory) → IsRising (map number ds) → In ds e → e.0 ≡ id → ones id ds ≡ 1
among id [] e rise at same = absurd at
among id (d ∷ ds) e rise (inl here) same =
    let is : d.0.0 ≡ id.0 = ap number here ∙ ap (λ (i : InodeId). i.0) same in
    let yes : (d.0.0 == id.0) ≡ true = (Decides-eqb d.0.0 id.0).1 is in
    let rest : ones id ds ≡ 0 = not-among id ds (subst (λ n. AllByRecursion (λ k. n < k) (map number ds)) is rise.0) in
    ap (λ b. cond b 1 0 + ones id ds) yes ∙ omega (arith, rest)
among id (d ∷ ds) e rise (inr at) same =
    let less : number d < number e = above-in number (number d) ds e rise.0 at in
    let is : number e ≡ id.0 = ap (λ (i : InodeId). i.0) same in
    let no : (d.0.0 == id.0) ≡ false = grind (arith, nat_tests) in
    let rest = among id ds e rise.1 at same in
    ap (λ b. cond b 1 0 + ones id ds) no ∙ omega (arith, rest)

each-counted : (snaps : Snapshots) → IsRising (map number snaps.dirs) → (ms : List live.Member) → AllByRecursion (λ m. IsSome (snaps_of snaps m.0)) ms → sum ms snaps.dirs ≡ length ms
each-counted snaps rise [] all = no-members snaps.dirs
each-counted snaps rise (m ∷ ms) all =
    let d = some-entry snaps.dirs m.0 all.0 in
    let one : ones m.0 snaps.dirs ≡ 1 = among m.0 snaps.dirs d.0 rise d.1 d.2 in
    let rest : sum ms snaps.dirs ≡ length ms = each-counted snaps rise ms all.1 in
    one-more m ms snaps.dirs ∙ omega (arith, one, rest)

-- numbers that rise between two bounds are few
few-between : (low next : ℕ) (ms : List (Member FileBlocks)) → rises_above low (map (λ (m : Member FileBlocks). m.snapshot.0) ms) ≡ true → list_all (λ (m : Member FileBlocks). nat_lt m.snapshot.0 next) ms ≡ true → low < next → length ms + low < next
few-between low next [] rise below lt = omega (arith, lt)
few-between low next (m ∷ ms) rise below lt =
    let here : low < m.snapshot.0 = (Decides-ltb low m.snapshot.0).0 (first (nat_lt low m.snapshot.0) _ rise) in
    let there : m.snapshot.0 < next = (Decides-ltb m.snapshot.0 next).0 (first (nat_lt m.snapshot.0 next) _ below) in
    let rest = few-between m.snapshot.0 next ms (second (nat_lt low m.snapshot.0) _ rise) (second (nat_lt m.snapshot.0 next) _ below) there in
    omega (arith, here, rest)

module _ (table : Tabled) (snaps : Snapshots) (state : State FileBlocks) (all : StandsFor table snaps state) where
  pub snaps-counted : IsProper snaps → snaps_of_all snaps snaps.dirs ≡ length state.members
  snaps-counted proper = tabled snaps.dirs ∙ each-counted snaps proper.dirs_rise (map told state.members) all.told.snapshottable ∙ length-map state.members told
    where
      tabled : (ds : List Directory) → snaps_of_all snaps ds ≡ sum (map told state.members) ds
      tabled [] = refl
      tabled (d ∷ ds) = λ i. length (all.told.tables d.0 i) + tabled ds i

  pub few-members : length state.members ≤ snaps.issued.0
  few-members = let few = few-between 0 state.next_snapshot state.members all.valid.snapshots_rise all.valid.snapshots_below all.valid.next_snapshot_above in let next : snaps.issued.0 + 1 ≡ state.next_snapshot = all.next_snapshot in omega (arith, few, next)

-- ---- rows

abbrev pub key : InodeId × RowState → ℕ
key e = e.0.0

in-rows : (rows : Table) (id : InodeId) (row : RowState) → row_at rows id ≡ Some row → (e : InodeId × RowState) × In rows e × (id.0 ≡ key e)
in-rows [] id row e = absurd (none_some e)
in-rows (r ∷ rows) id row e = by (in-rows rows id row) (nat_cmp id.0 r.0.0) refl e
  where
    by : (row_at rows id ≡ Some row → (e : InodeId × RowState) × In rows e × (id.0 ≡ key e)) → (o : Ordering) → nat_cmp id.0 r.0.0 ≡ o → cond (is_eq o) (Some r.1) (row_at rows id) ≡ Some row → (e : InodeId × RowState) × In (r ∷ rows) e × (id.0 ≡ key e)
    by rest Equal d g = (r, inl refl, nat_cmp-IsAntisymmetric id.0 r.0.0 d)
    by rest Less d g = let w = rest g in (w.0, inr w.1, w.2)
    by rest Greater d g = let w = rest g in (w.0, inr w.1, w.2)

module _ (table : Tabled) (snaps : Snapshots) (state : State FileBlocks) (all : StandsFor table snaps state) where
  row-there : (id : InodeId) (n : Node FileBlocks) (o : Option RowState) → option_map (node_in id 0) (option_map (λ (row : RowState). row.rows) o) ≡ Some n → (row : RowState) × (o ≡ Some row)
  row-there id n None e = absurd (none_some e)
  row-there id n (Some row) e = (row, refl)

  -- each live node has a row of its own
  pub few-live : length state.tree ≤ length table.rows
  few-live =
      let id : Names × Node FileBlocks → ℕ = λ place. place.1.id.0 in
      let mine : length (map id state.tree) ≡ length state.tree = length-map state.tree id in
      let theirs : length (map key table.rows) ≡ length table.rows = length-map table.rows key in
      let less : length (map id state.tree) ≤ length (map key table.rows) = length-le_from_is_member nat_eq_equiv (map id state.tree) (map key table.rows) (distinct-from (map id state.tree) all.valid.each_once)
      (λ q h. let w = any_so (nat_eq q) (map id state.tree) h in
      let p = map_so id state.tree w.0 w.1 in
      let row = row-there p.0.1.id p.0.1 (row_at table.rows p.0.1.id) (all.stands.live.node p.0.0 p.0.1 (found_place state.tree all.valid.sorted p.0 p.1)) in
      let e = in-rows table.rows p.0.1.id row.0 row.1 in
      any_from (nat_eq q) (map key table.rows) (key e.0) (in-map key table.rows e.0 e.1) ((Decides-eqb q (key e.0)).1 ((Decides-eqb q w.0).0 w.2 ∙ sym p.2 ∙ e.2))) in
      omega (arith, mine, theirs, less)

-- A queue of new directories, told by lines alone, gives the listings of a plan.
use Rattle.std.proofs.Common.{◌≡◌, ◌⊎◌, inl, inr, ℕ, zero, suc, ◌≤◌, ◌<◌, true, false, cond, Option, Some, None, is_some, List, [], ◌∷◌, ◌++◌, map, length, refl, ap, sym, subst, ◌∙◌, arith}
use Rattle.std.specs.Prelude.{not, ◌&&◌, take}
use Rattle.std.specs.List.{filter_map, cons_option, AllByRecursion}
use Rattle.std.specs.Option.{option_map}
use Rattle.std.proofs.lemmas.List.{length-map}
use Rattle.hs_types.specs.Names.{Names}
use Rattle.hs_types.specs.declared.ids.InodeId.{InodeId}
use Rattle.hs_types.specs.declared.reply.Item.{Item}
use Rattle.hs_types.specs.declared.reply.Line.{Line}
use Rattle.hs_types.specs.declared.reply.LineKind.{LineKind}
use Rattle.hs_types.specs.declared.reply.LineKind.TheVariants.{Deleted, Renamed, Modified, Created}
use Rattle.hs_plain.specs.declared.plan.Listing.{Listing}
use Rattle.hs_plain.specs.declared.state.Node.{Node}
use Rattle.hs_plain.specs.Tree.{Tree, node_at, is_dir, parent_of, listing, child_item, named_item, name_below, place_of, path_at}
use Rattle.hs_plain.specs.Report.{report, last_of}
use Rattle.hs_plain.specs.Plan.{translate, is_created, created_dir, new_dir_path, new_child, new_dirs_in, waiting_dirs, listed_dirs, listing_at, listings_of}
use Rattle.hs_plain.proofs.ValidTrees.{first, second}
use Rattle.hs_plain.proofs.ValidShapes.{true_false}
use Rattle.hs_plain.proofs.ValidLists.{In, in-map}
use Rattle.hs_plain.proofs.ValidHeld.{in-tree, found_place}
use Rattle.plan_laws.specs.Pair.{IsPair}
use Rattle.plan_laws.specs.Listed.{IsNew}
use Rattle.plan_laws.specs.Translated.{renames_id}
use Rattle.plan_laws.proofs.Paths.{by}
use Rattle.plan_laws.proofs.Places.{path_of_place, place_of-here}
use Rattle.plan_laws.proofs.NewItems.{renamed-id}
use Rattle.plan_laws.proofs.Listed.{below-so, lines-tell, no-line-of}
use Rattle.plan_laws.proofs.Distinct.{once-few}
use Rattle.plan_laws.proofs.Waiting.{IsNewDir, root-old, listed-new, listed-once}
use Rattle.plan_laws.proofs.FirstDirs.{first_dirs, are-first}
use Rattle.distcp_sync.specs.Synced.{IsNewDir as IsNewThere}
use Rattle.distcp_sync.specs.inside.Fetching.{AreUnderWay}
use Rattle.distcp_sync.specs.inside.Queue.{created_dir_id, first_ids, new_dir_id, new_ids, AreQueued, Lists}

take-all : {X : Type 0} (n : ℕ) (xs : List X) → length xs ≤ n → take n xs ≡ xs
take-all zero [] h = refl
take-all zero (x ∷ xs) h = absurd (omega arith)
take-all (suc n) [] h = refl
take-all (suc n) (x ∷ xs) h = ap (λ (ys : List _). x ∷ ys) (take-all n xs (omega arith))

take-length : {X : Type 0} (n : ℕ) (xs : List X) → n ≤ length xs → length (take n xs) ≡ n
take-length zero xs h = refl
take-length (suc n) [] h = absurd (omega arith)
take-length (suc n) (x ∷ xs) h = ap suc (take-length n xs (omega arith))

-- the lesser of two numbers is the one or the other
either : (m n : ℕ) → (m ≤ n) ⊎ (n < m)
either zero n = inl (omega arith)
either (suc m) zero = inr (omega arith)
either (suc m) (suc n) = elim (either m n) as (λ _. (suc m ≤ suc n) ⊎ (suc n < suc m)) [
  | inl le ↦ inl (omega arith)
  | inr lt ↦ inr (omega arith)
]

module _ (from to : Tree (List ℕ)) (is : IsPair from to) where
  abbrev lines : List Line
  lines = report from to

  abbrev IsNewPath : Names → Type 0
  IsNewPath path = IsNewDir from to is path

  -- the new directory at this path has this id
  record HasId (id : InodeId) (path : Names) : Type 0 where
    new : IsNewPath path
    same : new.node.id ≡ id

  -- each id is of the new directory at the path in its place
  abbrev AreAt : List InodeId → List Names → Type 0
  AreAt [] [] = Unit {0}
  AreAt [] (path ∷ paths) = ⊥
  AreAt (id ∷ ids) [] = ⊥
  AreAt (id ∷ ids) (path ∷ paths) = HasId id path × AreAt ids paths

  at-append : (ids more : List InodeId) (paths others : List Names) → AreAt ids paths → AreAt more others → AreAt (ids ++ more) (paths ++ others)
  at-append [] more [] others h k = k
  at-append [] more (path ∷ paths) others h k = absurd h
  at-append (id ∷ ids) more [] others h k = absurd h
  at-append (id ∷ ids) more (path ∷ paths) others h k = (h.0, at-append ids more paths others h.1 k)

  -- both lists take an element more, or none does
  abbrev Both : Option InodeId → Option Names → Type 0
  Both None None = Unit {0}
  Both None (Some path) = ⊥
  Both (Some id) None = ⊥
  Both (Some id) (Some path) = HasId id path

  both-more : (id : Option InodeId) (path : Option Names) (ids : List InodeId) (paths : List Names) → Both id path → AreAt ids paths → AreAt (cons_option id ids) (cons_option path paths)
  both-more None None ids paths h k = k
  both-more None (Some path) ids paths h k = absurd h
  both-more (Some id) None ids paths h k = absurd h
  both-more (Some id) (Some path) ids paths h k = (h, k)

  -- ---- the directories of the `+` lines

  kind-so : (kind : LineKind) → is_created kind ≡ true → kind ≡ Created
  kind-so Created h = refl
  kind-so Deleted h = absurd (true_false h refl)
  kind-so Renamed h = absurd (true_false h refl)
  kind-so Modified h = absurd (true_false h refl)

  first-one : (one : Line) → (one.kind ≡ Created → (path : Names) × IsNew from to (record { id = one.id; is_dir = one.is_dir; path = path })) → Both (created_dir_id one) (created_dir to one)
  first-one one tells = by (is_created one.kind && one.is_dir)
      (λ t. let told : (path : Names) × IsNew from to (record { id = one.id; is_dir = one.is_dir; path = path }) = tells (kind-so one.kind (first (is_created one.kind) one.is_dir t)) in
      subst (λ b. Both (cond b (Some one.id) None) (cond b (path_at (place_of to one.id)) None)) (sym t)
      (subst (λ o. Both (Some one.id) (path_at o)) (sym (place_of-here to is.to_tree told.0 told.1.node one.id told.1.at (sym told.1.same_id)))
      (record { new = record { node = told.1.node; at = told.1.at; dir = told.1.same_kind ∙ second (is_created one.kind) one.is_dir t; new = told.1.new }; same = λ i. record { 0 = told.1.same_id i } })))
      (λ f. subst (λ b. Both (cond b (Some one.id) None) (cond b (path_at (place_of to one.id)) None)) (sym f) tt)

  first-at : (list : List Line) → AllByRecursion (λ (one : Line). one.kind ≡ Created → IsNew from to (record { id = one.id; is_dir = one.is_dir; path = translate lines (parent_of one.path) ++ last_of one.path ∷ [] })) list → AreAt (filter_map created_dir_id list) (filter_map (created_dir to) list)
  first-at [] tells = tt
  first-at (one ∷ list) tells = both-more (created_dir_id one) (created_dir to one) (filter_map created_dir_id list) (filter_map (created_dir to) list)
      (first-one one (λ k. (translate lines (parent_of one.path) ++ last_of one.path ∷ [], tells.0 k))) (first-at list tells.1)

  -- ---- the new directories in one

  module _ (above : Names) (dir : IsNewPath above) where
    child-old : (q : Names) (m : Node (List ℕ)) (n : List ℕ) → node_at to q ≡ Some m → name_below above q ≡ Some n → (o : Option (Names × Node (List ℕ))) → place_of from m.id ≡ o →
        Both (cond (is_dir m && not (renames_id lines m.id)) (Some m.id) None) (new_dir_path (q, m) o)
    child-old q m n at below (Some old) was =
        subst (λ b. Both (cond (is_dir m && not b) (Some m.id) None) None) (sym (renamed-id from to is above n dir.node m old dir.at dir.new (ap (node_at to) (sym (below-so above q n below)) ∙ at) was))
        (by (is_dir m) (λ t. subst (λ b. Both (cond (b && false) (Some m.id) None) None) (sym t) tt) (λ f. subst (λ b. Both (cond (b && false) (Some m.id) None) None) (sym f) tt))
    child-old q m n at below None was =
        subst (λ b. Both (cond (is_dir m && not b) (Some m.id) None) (cond (is_dir m) (Some q) None)) (sym (no-line-of from to is m.id was))
        (by (is_dir m)
        (λ t. subst (λ b. Both (cond (b && true) (Some m.id) None) (cond b (Some q) None)) (sym t) (record { new = record { node = m; at = at; dir = t; new = was }; same = refl }))
        (λ f. subst (λ b. Both (cond (b && true) (Some m.id) None) (cond b (Some q) None)) (sym f) tt))

    children-at : (places : Tree (List ℕ)) → ((place : Names × Node (List ℕ)) → In places place → node_at to place.0 ≡ Some place.1) → AreAt (filter_map (new_dir_id lines) (filter_map (child_item above) places)) (filter_map (new_child from above) places)
    children-at [] within = tt
    children-at (e ∷ es) within = by-name (name_below above e.0) refl (children-at es (λ place at. within place (inr at)))
      where
        by-name : (o : Option (List ℕ)) → name_below above e.0 ≡ o → AreAt (filter_map (new_dir_id lines) (filter_map (child_item above) es)) (filter_map (new_child from above) es) →
            AreAt (filter_map (new_dir_id lines) (cons_option (named_item e.1 o) (filter_map (child_item above) es))) (cons_option (cond (is_some o) (new_dir_path e (place_of from e.1.id)) None) (filter_map (new_child from above) es))
        by-name None h rest = rest
        by-name (Some n) h rest = both-more (cond (is_dir e.1 && not (renames_id lines e.1.id)) (Some e.1.id) None) (new_dir_path e (place_of from e.1.id)) (filter_map (new_dir_id lines) (filter_map (child_item above) es)) (filter_map (new_child from above) es)
            (child-old e.0 e.1 n (within e (inl refl)) h (place_of from e.1.id) refl) rest

    all-children-at : AreAt (new_ids lines (listing to above)) (new_dirs_in from to above)
    all-children-at = children-at to (λ place at. found_place to is.to_tree.sorted place at)

  -- ---- one after the other

  record IsFrontOf (most : ℕ) (paths : List Names) (listings : List Listing) : Type 0 where
    same : filter_map (listing_at to) paths ≡ take most listings
    long : length paths ≡ length (take most listings)

  go : (most : ℕ) (ids : List InodeId) (paths : List Names) (listings : List Listing) → AreAt ids paths → AreQueued (Lists to) lines ids listings → IsFrontOf most (waiting_dirs most from to paths) listings
  go zero [] [] [] at queued = record { same = refl; long = refl }
  go (suc most) [] [] [] at queued = record { same = refl; long = refl }
  go most [] [] (one ∷ listings) at queued = absurd queued
  go most [] (path ∷ paths) listings at queued = absurd at
  go most (id ∷ ids) [] listings at queued = absurd at
  go most (id ∷ ids) (path ∷ paths) [] at queued = absurd queued
  go zero (id ∷ ids) (path ∷ paths) (one ∷ listings) at queued = record { same = refl; long = refl }
  go (suc most) (id ∷ ids) (path ∷ paths) (one ∷ listings) at queued =
      let items : one.items ≡ listing to path = queued.1 path at.0.new.node at.0.new.at at.0.same in
      let here : listing_at to path ≡ Some one = ap (option_map (λ (node : Node (List ℕ)). record { dir = node.id; items = listing to path })) at.0.new.at ∙ (λ i. Some (record { dir = (at.0.same ∙ sym queued.0) i; items = sym items i })) in
      let rest : IsFrontOf most (waiting_dirs most from to (paths ++ new_dirs_in from to path)) listings = go most (ids ++ new_ids lines one.items) (paths ++ new_dirs_in from to path) listings
      (at-append ids (new_ids lines one.items) paths (new_dirs_in from to path) at.1 (subst (λ (x : List Item). AreAt (new_ids lines x) (new_dirs_in from to path)) (sym items) (all-children-at path at.0.new))) queued.2 in
      record {
        same = ap (λ o. cons_option o (filter_map (listing_at to) (waiting_dirs most from to (paths ++ new_dirs_in from to path)))) here ∙ ap (λ (x : List Listing). one ∷ x) rest.same;
        long = ap suc rest.long;
      }

  first-front : (listings : List Listing) → AreQueued (Lists to) lines (first_ids lines) listings → IsFrontOf (length to) (listed_dirs from to) listings
  first-front listings queued = go (length to) (first_ids lines) (first_dirs from to is) listings (first-at lines (lines-tell from to is)) queued

  -- the new directories are fewer than all nodes, since the root is none
  few : suc (length (listed_dirs from to)) ≤ length to
  few = subst (λ n. suc (length (listed_dirs from to)) ≤ n) (length-map to path_of_place)
      (once-few ([] ∷ listed_dirs from to) (map path_of_place to)
      ((λ at. root-old from to is (first_dirs from to is) (are-first from to is) (listed-new from to is (first_dirs from to is) (are-first from to is) [] at)), listed-once from to is (first_dirs from to is) (are-first from to is))
      within)
    where
      within : (path : Names) → In ([] ∷ listed_dirs from to) path → In (map path_of_place to) path
      within path (inl e) = subst (In (map path_of_place to)) e (in-map path_of_place to ([], is.to_root) (in-tree to [] is.to_root is.to_at))
      within path (inr at) = let new : IsNewPath path = listed-new from to is (first_dirs from to is) (are-first from to is) path at in in-map path_of_place to (path, new.node) (in-tree to path new.node new.at)

  pub queue_is_listings : (listings : List Listing) → AreQueued (Lists to) lines (first_ids lines) listings → listings ≡ listings_of from to
  queue_is_listings listings queued =
      let front : IsFrontOf (length to) (listed_dirs from to) listings = first-front listings queued in
      let fewer : suc (length (listed_dirs from to)) ≤ length to = few in
      elim (either (length listings) (length to)) as (λ _. listings ≡ listings_of from to) [
        | inl le ↦ sym (take-all (length to) listings le) ∙ sym front.same
        | inr lt ↦ let long : length (take (length to) listings) ≡ length to = take-length (length to) listings (omega arith) in let at : length (listed_dirs from to) ≡ length (take (length to) listings) = front.long in absurd (omega arith)
      ]

  -- ---- those that wait

  record Wait (rest : List InodeId) : Type 0 where
    paths : List Names
    at : AreAt rest paths

  wait : (ids : List InodeId) (paths : List Names) (listings : List Listing) (rest : List InodeId) → AreAt ids paths → AreUnderWay (Lists to) lines ids listings rest → Wait rest
  wait ids paths [] rest at under = record { paths = paths; at = subst (λ (l : List InodeId). AreAt l paths) (sym under) at }
  wait [] paths (one ∷ listings) rest at under = absurd under
  wait (id ∷ ids) [] (one ∷ listings) rest at under = absurd at
  wait (id ∷ ids) (path ∷ paths) (one ∷ listings) rest at under =
      let items : one.items ≡ listing to path = under.1 path at.0.new.node at.0.new.at at.0.same in
      wait (ids ++ new_ids lines one.items) (paths ++ new_dirs_in from to path) listings rest
      (at-append ids (new_ids lines one.items) paths (new_dirs_in from to path) at.1 (subst (λ (x : List Item). AreAt (new_ids lines x) (new_dirs_in from to path)) (sym items) (all-children-at path at.0.new))) under.2

  new_first : (dir : InodeId) (rest : List InodeId) (paths : List Names) → AreAt (dir ∷ rest) paths → IsNewThere from to dir
  new_first dir rest [] at = absurd at
  new_first dir rest (path ∷ paths) at = record {
    path = path;
    node = at.0.new.node;
    there = place_of-here to is.to_tree path at.0.new.node dir at.0.new.at (ap (λ (i : InodeId). i.0) (sym at.0.same));
    directory = at.0.new.dir;
    new = ap (place_of from) (sym at.0.same) ∙ at.0.new.new;
  }

  -- each directory that waits is new
  pub waits_new : (listings : List Listing) (dir : InodeId) (rest : List InodeId) → AreUnderWay (Lists to) lines (first_ids lines) listings (dir ∷ rest) → IsNewThere from to dir
  waits_new listings dir rest under =
      let some : Wait (dir ∷ rest) = wait (first_ids lines) (first_dirs from to is) listings (dir ∷ rest) (first-at lines (lines-tell from to is)) under in
      new_first dir rest some.paths some.at

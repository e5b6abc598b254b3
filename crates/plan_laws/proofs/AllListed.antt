-- The listings of the new directories: of each one, whole, and behind what tells its path.
use Rattle.std.proofs.Common.{◌≡◌, inl, inr, ℕ, zero, suc, true, cond, Option, Some, None, is_some, List, [], ◌∷◌, ◌++◌, map, length, refl, ap, sym, subst, ◌∙◌}
use Rattle.std.specs.Prelude.{not, ◌==◌}
use Rattle.std.specs.List.{filter_map, cons_option, AllByRecursion, Contains}
use Rattle.std.specs.Option.{option_map}
use Rattle.std.proofs.lemmas.Bool.Decides.{Decides-eqb}
use Rattle.hs_types.specs.Names.{Names}
use Rattle.hs_types.specs.declared.ids.InodeId.{InodeId}
use Rattle.hs_types.specs.declared.reply.Line.{Line}
use Rattle.hs_plain.specs.declared.plan.Listing.{Listing}
use Rattle.hs_plain.specs.declared.state.Node.{Node}
use Rattle.hs_plain.specs.Tree.{Tree, node_at, is_dir, listing, item_of, same_inode, place_of}
use Rattle.hs_plain.specs.Report.{report}
use Rattle.hs_plain.specs.Valid.{all_differ}
use Rattle.hs_plain.specs.Plan.{waiting_dirs, listed_dirs, listing_at, listings_of}
use Rattle.hs_plain.proofs.ValidTrees.{both}
use Rattle.hs_plain.proofs.ValidShapes.{same_some, true_false, by_last}
use Rattle.hs_plain.proofs.ValidPlaces.{one_place}
use Rattle.hs_plain.proofs.ValidLists.{In, by_append, contains-in, in-filter_map, filter_map_so, map_so, none_from, false_by}
use Rattle.plan_laws.specs.Pair.{IsPair}
use Rattle.plan_laws.specs.Listed.{NewItem, first_news, new_in, path_in, news_at, all_news, InOrder, IsNew, IsListed}
use Rattle.plan_laws.proofs.Paths.{by, by_one}
use Rattle.plan_laws.proofs.Lists.{each-append}
use Rattle.plan_laws.proofs.Places.{dir-above}
use Rattle.plan_laws.proofs.Elements.{IsIn, split-in, contains-at}
use Rattle.plan_laws.proofs.Listed.{listed-child, news-sound, lines-tell, first-sound, path-so, by-line, no-line-of, new-is-found}
use Rattle.plan_laws.proofs.Distinct.{IsOnce}
use Rattle.plan_laws.proofs.Waiting.{IsNewDir, IsChildOf, children, child-so, root-old, listed-new, listed-once, all-new-listed}
use Rattle.plan_laws.proofs.FirstDirs.{in-so, first_dirs, are-first}

-- ---- news by ids

path-there : (news : List NewItem) (one : NewItem) → In news one → is_some (path_in news one.id) ≡ true
path-there [] one at = absurd at
path-there (other ∷ news) one (inl e) = ap (λ b. is_some (cond b (Some other.path) (path_in news one.id))) (ap (λ (x : NewItem). same_inode x.id one.id) e ∙ (Decides-eqb one.id.0 one.id.0).1 refl)
path-there (other ∷ news) one (inr at) = by (same_inode other.id one.id)
    (λ t. ap (λ b. is_some (cond b (Some other.path) (path_in news one.id))) t)
    (λ f. ap (λ b. is_some (cond b (Some other.path) (path_in news one.id))) f ∙ path-there news one at)

path-kept : (news more : List NewItem) (id : InodeId) → is_some (path_in news id) ≡ true → is_some (path_in (news ++ more) id) ≡ true
path-kept [] more id h = absurd (true_false h refl)
path-kept (one ∷ news) more id h = by (same_inode one.id id)
    (λ t. ap (λ b. is_some (cond b (Some one.path) (path_in (news ++ more) id))) t)
    (λ f. ap (λ b. is_some (cond b (Some one.path) (path_in (news ++ more) id))) f ∙ path-kept news more id (sym (ap (λ b. is_some (cond b (Some one.path) (path_in news id))) f) ∙ h))

path-more : (news more : List NewItem) (id : InodeId) → is_some (path_in more id) ≡ true → is_some (path_in (news ++ more) id) ≡ true
path-more [] more id h = h
path-more (one ∷ news) more id h = by (same_inode one.id id)
    (λ t. ap (λ b. is_some (cond b (Some one.path) (path_in (news ++ more) id))) t)
    (λ f. ap (λ b. is_some (cond b (Some one.path) (path_in (news ++ more) id))) f ∙ path-more news more id h)

module _ {B : Type 0} (from to : Tree B) (is : IsPair from to) where
  abbrev lines : List Line
  lines = report from to

  abbrev IsNewPath : Names → Type 0
  IsNewPath path = IsNewDir from to is path

  abbrev listing_of : Names → Node B → Listing
  listing_of path node = record { dir = node.id; items = listing to path }

  listing-so : (path : Names) (new : IsNewPath path) → listing_at to path ≡ Some (listing_of path new.node)
  listing-so path new = ap (option_map (λ (node : Node B). listing_of path node)) new.at

  -- ---- of each new directory, whole and once

  all-listed : (paths : List Names) → ((path : Names) → In paths path → IsNewPath path) → AllByRecursion (IsListed from to) (filter_map (listing_at to) paths)
  all-listed [] new = tt
  all-listed (path ∷ paths) new =
      let here : IsNewPath path = new path (inl refl) in
      subst (λ o. AllByRecursion (IsListed from to) (cons_option o (filter_map (listing_at to) paths))) (sym (listing-so path here))
      (record { path = path; dir = here.node; at = here.at; same_id = refl; new = here.new; items = refl }, all-listed paths (λ p at. new p (inr at)))

  abbrev number_of : Listing → ℕ
  number_of one = one.dir.0

  ids-once : (paths : List Names) → ((path : Names) → In paths path → IsNewPath path) → IsOnce paths → all_differ (map number_of (filter_map (listing_at to) paths)) ≡ true
  ids-once [] new once = refl
  ids-once (path ∷ paths) new once =
      let here : IsNewPath path = new path (inl refl) in
      ap (λ o. all_differ (map number_of (cons_option o (filter_map (listing_at to) paths)))) (listing-so path here)
      ∙ both (ap not (none_from (λ other. here.node.id.0 == other) (map number_of (filter_map (listing_at to) paths)) (λ n at. false_by (here.node.id.0 == n) (λ t.
      let one : (one : Listing) × (In (filter_map (listing_at to) paths) one) × (number_of one ≡ n) = map_so number_of (filter_map (listing_at to) paths) n at in
      let other : (p : Names) × (In paths p) × (listing_at to p ≡ Some one.0) = filter_map_so (listing_at to) paths one.0 one.1 in
      once.0 (subst (In paths) (same-path path here other.0 (new other.0 (inr other.1)) one.0 other.2 ((Decides-eqb here.node.id.0 n).0 t ∙ sym one.2)) other.1)))))
      (ids-once paths (λ p at. new p (inr at)) once.1)
    where
      same-path : (p : Names) (a : IsNewPath p) (q : Names) (b : IsNewPath q) (one : Listing) → listing_at to q ≡ Some one → a.node.id.0 ≡ one.dir.0 → q ≡ p
      same-path p a q b one h ids = one_place to is.to_tree.each_once q p b.node a.node b.at a.at (number-so (sym (listing-so q b) ∙ h) ∙ sym ids)
        where
          number-so : Some (listing_of q b.node) ≡ Some one → b.node.id.0 ≡ one.dir.0
          number-so e = ap number_of (same_some e)

  abbrev paths : List Names
  paths = listed_dirs from to

  paths-new : (path : Names) → In paths path → IsNewPath path
  paths-new = listed-new from to is (first_dirs from to is) (are-first from to is)

  pub listings-listed : AllByRecursion (IsListed from to) (listings_of from to)
  listings-listed = all-listed paths paths-new

  pub listings-once : all_differ (map (λ one. one.dir.0) (listings_of from to)) ≡ true
  listings-once = ids-once paths paths-new (listed-once from to is (first_dirs from to is) (are-first from to is))

  in-listings : (path : Names) (new : IsNewPath path) → In (listings_of from to) (listing_of path new.node)
  in-listings path new = in-filter_map (listing_at to) paths path (listing_of path new.node) (all-new-listed from to is (first_dirs from to is) (are-first from to is) path new) (listing-so path new)

  pub listings-whole : (path : Names) (node : Node B) → node_at to path ≡ Some node → place_of from node.id ≡ None → is_dir node ≡ true → (one : Listing) × Contains (listings_of from to) one × (node.id.0 ≡ one.dir.0)
  listings-whole path node at new dir =
      let it : IsNewPath path = record { node = node; at = at; dir = dir; new = new } in
      (listing_of path node, contains-in (listings_of from to) (listing_of path node) (in-listings path it), refl)

  -- ---- behind what tells its path

  abbrev IsTold : List NewItem → Names → Type 0
  IsTold news path = (node : Node B) → node_at to path ≡ Some node → is_some (path_in news node.id) ≡ true

  abbrev AreSound : List NewItem → Type 0
  AreSound news = AllByRecursion (IsNew from to) news

  -- a child of a listed directory is told by its listing
  child-told : (news : List NewItem) (path child : Names) (here : IsNewPath path) → AreSound news → IsTold news path → In (children from to is path) child →
      IsTold (news ++ news_at lines (listing to path) (path_in news here.node.id)) child
  child-told news path child here sound told at node there = path-more news (news_at lines (listing to path) (path_in news here.node.id)) node.id (by-path (path_in news here.node.id) refl (told here.node here.at))
    where
      of : IsNewPath child × IsChildOf from to is path child
      of = child-so from to is path child at

      new-item : NewItem
      new-item = record { id = node.id; is_dir = is_dir node; path = path ++ of.1.name ∷ [] }

      node_new : place_of from node.id ≡ None
      node_new = ap (λ (x : Node B). place_of from x.id) (same_some (sym there ∙ of.0.at)) ∙ of.0.new

      by-path : (o : Option Names) → path_in news here.node.id ≡ o → is_some o ≡ true → is_some (path_in (news_at lines (listing to path) o) node.id) ≡ true
      by-path None h some = absurd (true_false some refl)
      by-path (Some found) h some =
          let place : (m : Node B) × (node_at to found ≡ Some m) × (m.id.0 ≡ here.node.id.0) = path-so from to is news here.node.id found sound h in
          let same : found ≡ path = one_place to is.to_tree.each_once found path place.0 here.node place.1 here.at place.2 in
          path-there (news_at lines (listing to path) (Some found)) new-item
          (in-filter_map (new_in lines found) (listing to path) (item_of node of.1.name) new-item
          (in-so (listing to path) (item_of node of.1.name) (listed-child to path of.1.name node (ap (node_at to) (sym of.1.last) ∙ there)))
          (ap (λ b. cond b None (Some (record { id = node.id; is_dir = is_dir node; path = found ++ of.1.name ∷ [] }))) (no-line-of from to is node.id node_new)
          ∙ ap (λ (p : Names). Some (record { id = node.id; is_dir = is_dir node; path = p ++ of.1.name ∷ [] })) same))

  in-order : (more : ℕ) (waiting : List Names) (news : List NewItem) → ((path : Names) → In waiting path → IsNewPath path) → ((path : Names) → In waiting path → IsTold news path) → AreSound news →
      InOrder lines news (filter_map (listing_at to) (waiting_dirs more from to waiting))
  in-order zero [] news new told sound = tt
  in-order (suc more) [] news new told sound = tt
  in-order zero (path ∷ waiting) news new told sound = tt
  in-order (suc more) (path ∷ waiting) news new told sound =
      let here : IsNewPath path = new path (inl refl) in
      let added : List NewItem = news_at lines (listing to path) (path_in news here.node.id) in
      let rest : InOrder lines (news ++ added) (filter_map (listing_at to) (waiting_dirs more from to (waiting ++ children from to is path))) =
      in-order more (waiting ++ children from to is path) (news ++ added)
      (λ p at. by_append waiting (children from to is path) p at (λ old. new p (inr old)) (λ child. (child-so from to is path p child).0))
      (λ p at. by_append waiting (children from to is path) p at
      (λ old node there. path-kept news added node.id (told p (inr old) node there))
      (λ child. child-told news path p here sound (told path (inl refl)) child))
      (each-append (IsNew from to) news added sound (news-sound from to is news (listing_of path here.node) (record { path = path; dir = here.node; at = here.at; same_id = refl; new = here.new; items = refl }) sound (path_in news here.node.id) refl)) in
      subst (λ o. InOrder lines news (cons_option o (filter_map (listing_at to) (waiting_dirs more from to (waiting ++ children from to is path))))) (sym (listing-so path here))
      (told path (inl refl) here.node here.at, rest)

  first-item : (path : Names) → In (first_dirs from to is) path → (node : Node B) → node_at to path ≡ Some node → IsIn (first_news lines) (record { id = node.id; is_dir = is_dir node; path = path })
  first-item path at node there = by_last (λ p. In (first_dirs from to is) p → node_at to p ≡ Some node → IsIn (first_news lines) (record { id = node.id; is_dir = is_dir node; path = p })) path
      (λ at there. absurd (root-old from to is (first_dirs from to is) (are-first from to is) ((are-first from to is).new [] at)))
      (λ above name at there.
      let dir : (dir : Node B) × (node_at to above ≡ Some dir) × (is_dir dir ≡ true) = dir-above to is.to_tree above name node there in
      let new : IsNewPath (above ++ name ∷ []) = (are-first from to is).new (above ++ name ∷ []) at in
      by_one (place_of from dir.0.id)
      (λ old was. by-line from to is above name node dir.0 old there dir.1 (ap (λ (x : Node B). place_of from x.id) (same_some (sym there ∙ new.at)) ∙ new.new) was)
      (λ gone. absurd ((are-first from to is).above_old above name at (record { node = dir.0; at = dir.1; dir = dir.2; new = gone }))))
      at there

  first-told : (path : Names) → In (first_dirs from to is) path → IsTold (first_news lines) path
  first-told path at node there = path-there (first_news lines) (record { id = node.id; is_dir = is_dir node; path = path }) (in-so (first_news lines) (record { id = node.id; is_dir = is_dir node; path = path }) (first-item path at node there))

  pub listings-in-order : InOrder lines (first_news lines) (listings_of from to)
  listings-in-order = in-order (length to) (first_dirs from to is) (first_news lines) (are-first from to is).new first-told (first-sound from to is lines (lines-tell from to is))

  -- all that is new is told by the lines and these listings
  pub all-told : (path : Names) (node : Node B) → node_at to path ≡ Some node → place_of from node.id ≡ None → Contains (all_news lines (listings_of from to)) (record { id = node.id; is_dir = is_dir node; path = path })
  all-told path node at new = contains-at _ _ (new-is-found from to is (listings_of from to) listings-listed listings-in-order (λ t d there fresh dir.
      let it : IsNewPath t = record { node = d; at = there; dir = dir; new = fresh } in
      (listing_of t d, split-in (listings_of from to) (listing_of t d) (in-listings t it), refl)) path node at new)

-- Lines and listings tell exactly what is new.
use Rattle.std.proofs.Common.{◌≡◌, ℕ, Bool, true, false, bytes_eq, cond, Option, Some, None, is_some, List, [], ◌∷◌, ◌++◌, length, drop, refl, ap, sym, subst, ◌∙◌}
use Rattle.std.specs.Prelude.{not, ◌==◌}
use Rattle.std.specs.List.{filter_map, flat_map, cons_option, starts_with, AllByRecursion}
use Rattle.std.specs.FinMap.Entries.{is_sorted, below_all}
use Rattle.std.proofs.lemmas.Bool.Decides.{Decides-eqb}
use Rattle.std.proofs.Math.Seq.{drop-append_seam}
use Rattle.hs_types.specs.Names.{Names}
use Rattle.hs_types.specs.declared.ids.InodeId.{InodeId}
use Rattle.hs_types.specs.declared.reply.Item.{Item}
use Rattle.hs_plain.specs.declared.plan.Listing.{Listing}
use Rattle.hs_plain.specs.declared.state.Node.{Node}
use Rattle.hs_plain.specs.Tree.{Tree, path_cmp, node_at, is_dir, parent_of, listing, child_item, named_item, name_below, only_name, item_of, same_inode, place_of}
use Rattle.hs_plain.proofs.ValidShapes.{none_some, same_some, true_false, by_last, parent_of-last, under_test, under_so}
use Rattle.hs_plain.proofs.ValidPlaces.{head_at, in_tail, by_place, one_place}
use Rattle.hs_types.specs.declared.reply.LineKind.{LineKind}
use Rattle.hs_types.specs.declared.reply.LineKind.TheVariants.{Deleted, Renamed, Modified, Created}
use Rattle.hs_types.specs.declared.reply.Line.{Line}
use Rattle.hs_plain.specs.Report.{line_of, line_if, lines_by, lines_from, created_in, created_by, created, place_above, id_above, same_place, has_id, line_before, with_line, with_lines, report, last_of}
use Rattle.hs_plain.specs.Plan.{translate}
use Rattle.plan_laws.specs.Pair.{IsPair}
use Rattle.plan_laws.specs.Translated.{renames_id}
use Rattle.plan_laws.specs.Listed.{NewItem, new_by, first_news, new_in, path_in, news_at, grown, all_news, InOrder, IsNew, IsListed}
use Rattle.plan_laws.proofs.Paths.{by, by_one}
use Rattle.plan_laws.proofs.Lists.{each-append}
use Rattle.plan_laws.proofs.Places.{last_of-last, place_of-here, dir-above, id_above-at}
use Rattle.plan_laws.proofs.Child.{one_child}
use Rattle.plan_laws.proofs.Elements.{IsIn, in-left, in-right}
use Rattle.plan_laws.proofs.Translated.{each-with_lines, each-flat}
use Rattle.plan_laws.proofs.NewItems.{created-at, renamed-id, not-renamed}
use Rattle.hs_plain.proofs.ValidTrees as trees

-- ---- members of lists

pub each-from : {A : Type 0} (P : A → Type 0) (xs : List A) → ((x : A) → IsIn xs x → P x) → AllByRecursion P xs
each-from P [] all = tt
each-from P (x ∷ xs) all = (all x (record { before = []; after = xs; is = refl }), each-from P xs (λ y at. all y (in-right (x ∷ []) xs y at)))

pub each-at : {A : Type 0} (P : A → Type 0) (xs : List A) (x : A) → IsIn xs x → AllByRecursion P xs → P x
each-at P xs x at h = middle at.before (subst (AllByRecursion P) at.is h)
  where
    middle : (before : List _) → AllByRecursion P (before ++ x ∷ at.after) → P x
    middle [] h = h.0
    middle (y ∷ ys) h = middle ys h.1

in-head : {A : Type 0} (x : A) (xs : List A) → IsIn (x ∷ xs) x
in-head x xs = record { before = []; after = xs; is = refl }

in-cons : {A : Type 0} (o : Option A) (x : A) (xs : List A) → IsIn xs x → IsIn (cons_option o xs) x
in-cons None x xs at = at
in-cons (Some y) x xs at = in-right (y ∷ []) xs x at

pub in-filter_map : {A C : Type 0} (f : A → Option C) (xs : List A) (x : A) (y : C) → IsIn xs x → f x ≡ Some y → IsIn (filter_map f xs) y
in-filter_map f xs x y at h = subst (λ zs. IsIn (filter_map f zs) y) (sym at.is) (spread at.before)
  where
    spread : (before : List _) → IsIn (filter_map f (before ++ x ∷ at.after)) y
    spread [] = subst (λ o. IsIn (cons_option o (filter_map f at.after)) y) (sym h) (in-head y (filter_map f at.after))
    spread (z ∷ zs) = in-cons (f z) y (filter_map f (zs ++ x ∷ at.after)) (spread zs)

in-with_line : (one : Line) (lines : List Line) (x : Line) → IsIn lines x → IsIn (with_line one lines) x
in-with_line one lines x at = subst (λ zs. IsIn (with_line one zs) x) (sym at.is) (spread at.before)
  where
    spread : (before : List Line) → IsIn (with_line one (before ++ x ∷ at.after)) x
    spread [] = elim (line_before x one) as (λ b. IsIn (cond b (x ∷ with_line one at.after) (one ∷ x ∷ at.after)) x) [
      | true ↦ in-head x (with_line one at.after)
      | false ↦ in-right (one ∷ []) (x ∷ at.after) x (in-head x at.after)
    ]
    spread (z ∷ zs) = either (line_before z one) (spread zs)
      where
        either : (b : Bool) → IsIn (with_line one (zs ++ x ∷ at.after)) x → IsIn (cond b (z ∷ with_line one (zs ++ x ∷ at.after)) (one ∷ z ∷ (zs ++ x ∷ at.after))) x
        either true rest = in-right (z ∷ []) (with_line one (zs ++ x ∷ at.after)) x rest
        either false rest = in-right (one ∷ z ∷ []) (zs ++ x ∷ at.after) x (record { before = zs; after = at.after; is = refl })

in-own-line : (one : Line) (lines : List Line) → IsIn (with_line one lines) one
in-own-line one [] = in-head one []
in-own-line one (other ∷ lines) = either (line_before other one) (in-own-line one lines)
  where
    either : (b : Bool) → IsIn (with_line one lines) one → IsIn (cond b (other ∷ with_line one lines) (one ∷ other ∷ lines)) one
    either true rest = in-right (other ∷ []) (with_line one lines) one rest
    either false rest = in-head one (other ∷ lines)

pub in-with_lines : (more lines : List Line) (x : Line) → IsIn more x → IsIn (with_lines more lines) x
in-with_lines more lines x at = subst (λ zs. IsIn (with_lines zs lines) x) (sym at.is) (spread at.before)
  where
    spread : (before : List Line) → IsIn (with_lines (before ++ x ∷ at.after) lines) x
    spread [] = in-own-line x (with_lines at.after lines)
    spread (z ∷ zs) = in-with_line z (with_lines (zs ++ x ∷ at.after) lines) x (spread zs)

-- ---- listings

only-one : (names : Names) (name : List ℕ) → only_name names ≡ Some name → names ≡ name ∷ []
only-one [] name h = absurd (none_some h)
only-one (n ∷ []) name h = ap (λ (x : List ℕ). x ∷ []) (same_some h)
only-one (n ∷ m ∷ rest) name h = absurd (none_some h)

pub below-last : (t : Names) (n : List ℕ) → name_below t (t ++ n ∷ []) ≡ Some n
below-last t n = ap (λ b. cond b (only_name (drop (length t) (t ++ n ∷ []))) None) (under_test (t ++ n ∷ []) t (n ∷ []) refl) ∙ ap only_name (drop-append_seam t (n ∷ []))

pub below-so : (t q : Names) (n : List ℕ) → name_below t q ≡ Some n → q ≡ t ++ n ∷ []
below-so t q n h = by (starts_with bytes_eq q t)
    (λ s. under_so q t s ∙ ap (λ (x : Names). t ++ x) (only-one (drop (length t) q) n (sym (ap (λ b. cond b (only_name (drop (length t) q)) None) s) ∙ h)))
    (λ s. absurd (none_some (sym (ap (λ b. cond b (only_name (drop (length t) q)) None) s) ∙ h)))

module _ {B : Type 0} where
  pub in-places : (tree : Tree B) (q : Names) (m : Node B) → node_at tree q ≡ Some m → IsIn tree (q, m)
  in-places [] q m at = absurd (none_some at)
  in-places (e ∷ es) q m at = by_place e es q m at
      (λ qe me. subst (λ (x : Names × Node B). IsIn (e ∷ es) x) (sym (λ i. (qe i, me i))) (in-head e es))
      (λ bt. in-right (e ∷ []) es (q, m) (in-places es q m bt))

  pub listed-child : (tree : Tree B) (t : Names) (n : List ℕ) (m : Node B) → node_at tree (t ++ n ∷ []) ≡ Some m → IsIn (listing tree t) (item_of m n)
  listed-child tree t n m at = in-filter_map (child_item t) tree (t ++ n ∷ [], m) (item_of m n) (in-places tree (t ++ n ∷ []) m at) (ap (named_item m) (below-last t n))

  each-listed : (P : Item → Type 0) (tree : Tree B) (t : Names) → is_sorted path_cmp tree ≡ true → ((n : List ℕ) (m : Node B) → node_at tree (t ++ n ∷ []) ≡ Some m → P (item_of m n)) → AllByRecursion P (listing tree t)
  each-listed P [] t h all = tt
  each-listed P (e ∷ es) t h all = each-cons (name_below t e.0) refl (each-listed P es t (trees.second (below_all path_cmp e.0 es) _ h) (λ n m at. all n m (in_tail e es (t ++ n ∷ []) m (trees.first (below_all path_cmp e.0 es) _ h) at)))
    where
      each-cons : (o : Option (List ℕ)) → name_below t e.0 ≡ o → AllByRecursion P (listing es t) → AllByRecursion P (cons_option (named_item e.1 o) (listing es t))
      each-cons None is rest = rest
      each-cons (Some n) is rest = (all n e.1 (ap (node_at (e ∷ es)) (sym (below-so t e.0 n is)) ∙ head_at e es), rest)

module _ {B : Type 0} (from to : Tree B) (is : IsPair from to) where
  abbrev lines : List Line
  lines = report from to

  abbrev Sound : NewItem → Type 0
  Sound one = IsNew from to one

  -- ---- the lines tell what is new in directories that were there

  abbrev Tells : Line → Type 0
  Tells one = one.kind ≡ Created → Sound (record { id = one.id; is_dir = one.is_dir; path = translate lines (parent_of one.path) ++ last_of one.path ∷ [] })

  pub del-not : Deleted ≡ Created → ⊥
  del-not e = cc

  pub ren-not : Renamed ≡ Created → ⊥
  ren-not e = cc

  pub mod-not : Modified ≡ Created → ⊥
  mod-not e = cc

  pub each-if : (P : Line → Type 0) (b : Bool) (one : Line) (more : List Line) → P one → AllByRecursion P more → AllByRecursion P (line_if b one more)
  each-if P true one more h k = (h, k)
  each-if P false one more h k = k

  base-tells : (q : Names) (m : Node B) (o : Option (Names × Node B)) → AllByRecursion Tells (lines_by from to (q, m) o)
  base-tells q m None = each-if Tells (has_id to (id_above from q)) (line_of Deleted q None m) [] (λ k. absurd (del-not k)) tt
  base-tells q m (Some other) = each-if Tells (not (same_place from to q other.0)) (line_of Renamed q (Some other.0) m) (line_if (not (m.stamp == other.1.stamp)) (line_of Modified q None m) []) (λ k. absurd (ren-not k))
      (each-if Tells (not (m.stamp == other.1.stamp)) (line_of Modified q None m) [] (λ k. absurd (mod-not k)) tt)

  created-tells : (q : Names) (m : Node B) (one : Line) → node_at to q ≡ Some m → created from to (q, m) ≡ Some one → Tells one
  created-tells q m one at h = by_last (λ q. node_at to q ≡ Some m → created from to (q, m) ≡ Some one → Tells one) q at-root at-last at h
    where
      at-root : node_at to [] ≡ Some m → created from to ([], m) ≡ Some one → Tells one
      at-root at h = let same : is.to_root ≡ m = same_some (sym is.to_at ∙ at) in
          absurd (none_some (sym (ap (created_by from to ([], m)) (place_of-here from is.from_tree [] is.from_root m.id is.from_at (ap (λ (x : Node B). x.id.0) (sym same) ∙ sym is.same_root))) ∙ h))

      at-last : (t : Names) (n : List ℕ) → node_at to (t ++ n ∷ []) ≡ Some m → created from to (t ++ n ∷ [], m) ≡ Some one → Tells one
      at-last t n at h = by_one (place_of from m.id)
          (λ old e. absurd (none_some (sym (ap (created_by from to (t ++ n ∷ [], m)) e) ∙ h)))
          (λ new. let d : (dir : Node B) × (node_at to t ≡ Some dir) × (is_dir dir ≡ true) = dir-above to is.to_tree t n m at in by_one (place_of from d.0.id)
          (λ old e. let w : (created from to (t ++ n ∷ [], m) ≡ Some (line_of Created (old.0 ++ n ∷ []) None m)) × (translate lines old.0 ++ n ∷ [] ≡ t ++ n ∷ []) = created-at from to is t n m d.0 old.1 old.0 at d.1 new e in
          subst Tells (same_some (sym w.0 ∙ h)) (λ _. record {
            node = m;
            at = ap (node_at to) (one_child (ap (translate lines) (parent_of-last old.0 n)) (last_of-last old.0 n) ∙ w.1) ∙ at;
            same_id = refl;
            same_kind = refl;
            new = new;
          }))
          (λ gone. absurd (none_some (sym (ap (created_by from to (t ++ n ∷ [], m)) new ∙ ap (λ o. created_in (t ++ n ∷ [], m) (place_above from o)) (id_above-at to t n d.0 d.1) ∙ ap (created_in (t ++ n ∷ [], m)) gone) ∙ h))))

  pub each-created : (P : Line → Type 0) (tree : Tree B) → is_sorted path_cmp tree ≡ true → ((q : Names) (m : Node B) (one : Line) → node_at tree q ≡ Some m → created from to (q, m) ≡ Some one → P one) → AllByRecursion P (filter_map (created from to) tree)
  each-created P [] h all = tt
  each-created P (e ∷ es) h all = each-cons (created from to e) refl (each-created P es (trees.second (below_all path_cmp e.0 es) _ h) (λ q m one at. all q m one (in_tail e es q m (trees.first (below_all path_cmp e.0 es) _ h) at)))
    where
      each-cons : (o : Option Line) → created from to e ≡ o → AllByRecursion P (filter_map (created from to) es) → AllByRecursion P (cons_option o (filter_map (created from to) es))
      each-cons None t rest = rest
      each-cons (Some one) t rest = (all e.0 e.1 one (head_at e es) t, rest)

  pub lines-tell : AllByRecursion Tells lines
  lines-tell = each-with_lines Tells (filter_map (created from to) to) (flat_map (lines_from from to) from) (each-created Tells to is.to_tree.sorted created-tells)
      (each-flat Tells (lines_from from to) from is.from_tree.sorted (λ q m at. base-tells q m (place_of to m.id)))

  pub first-sound : (ls : List Line) → AllByRecursion Tells ls → AllByRecursion Sound (filter_map (λ one. new_by lines one.kind one) ls)
  first-sound [] tells = tt
  first-sound (one ∷ ls) tells = by-kind one.kind refl (first-sound ls tells.1)
    where
      by-kind : (k : LineKind) → one.kind ≡ k → AllByRecursion Sound (filter_map (λ one. new_by lines one.kind one) ls) → AllByRecursion Sound (cons_option (new_by lines k one) (filter_map (λ one. new_by lines one.kind one) ls))
      by-kind Created h rest = (tells.0 h, rest)
      by-kind Deleted h rest = rest
      by-kind Renamed h rest = rest
      by-kind Modified h rest = rest

  -- ---- listings tell what is new in new directories

  pub path-so : (news : List NewItem) (id : InodeId) (path : Names) → AllByRecursion Sound news → path_in news id ≡ Some path → (m : Node B) × (node_at to path ≡ Some m) × (m.id.0 ≡ id.0)
  path-so [] id path sound h = absurd (none_some h)
  path-so (one ∷ news) id path sound h = by (same_inode one.id id)
      (λ t. let same : one.path ≡ path = same_some (ap (λ b. cond b (Some one.path) (path_in news id)) (sym t) ∙ h) in
      (sound.0.node, ap (node_at to) (sym same) ∙ sound.0.at, sound.0.same_id ∙ (Decides-eqb one.id.0 id.0).0 t))
      (λ f. path-so news id path sound.1 (ap (λ b. cond b (Some one.path) (path_in news id)) (sym f) ∙ h))

  -- the path that was found for a listed directory is its path
  path-is : (news : List NewItem) (one : Listing) (listed : IsListed from to one) (path : Names) → AllByRecursion Sound news → path_in news one.dir ≡ Some path → path ≡ listed.path
  path-is news one listed path sound h = let at : (m : Node B) × (node_at to path ≡ Some m) × (m.id.0 ≡ one.dir.0) = path-so news one.dir path sound h in
      one_place to is.to_tree.each_once path listed.path at.0 listed.dir at.1 listed.at (at.2 ∙ sym listed.same_id)

  items-sound : (one : Listing) (listed : IsListed from to one) → AllByRecursion Sound (filter_map (new_in lines listed.path) one.items)
  items-sound one listed = subst (λ items. AllByRecursion Sound (filter_map (new_in lines listed.path) items)) (sym listed.items)
      (each-map (listing to listed.path) (each-listed (λ item. (new : NewItem) → new_in lines listed.path item ≡ Some new → Sound new) to listed.path is.to_tree.sorted one-sound))
    where
      each-map : (items : List Item) → AllByRecursion (λ item. (new : NewItem) → new_in lines listed.path item ≡ Some new → Sound new) items → AllByRecursion Sound (filter_map (new_in lines listed.path) items)
      each-map [] all = tt
      each-map (item ∷ items) all = each-cons (new_in lines listed.path item) refl (each-map items all.1)
        where
          each-cons : (o : Option NewItem) → new_in lines listed.path item ≡ o → AllByRecursion Sound (filter_map (new_in lines listed.path) items) → AllByRecursion Sound (cons_option o (filter_map (new_in lines listed.path) items))
          each-cons None t rest = rest
          each-cons (Some new) t rest = (all.0 new t, rest)

      one-sound : (n : List ℕ) (m : Node B) → node_at to (listed.path ++ n ∷ []) ≡ Some m → (new : NewItem) → new_in lines listed.path (item_of m n) ≡ Some new → Sound new
      one-sound n m at new h = by (renames_id lines m.id)
          (λ t. absurd (none_some (sym (ap (λ b. cond b None (Some (record { id = m.id; is_dir = is_dir m; path = listed.path ++ n ∷ [] }))) t) ∙ h)))
          (λ f. subst Sound (same_some (sym (ap (λ b. cond b None (Some (record { id = m.id; is_dir = is_dir m; path = listed.path ++ n ∷ [] }))) f) ∙ h)) (record {
            node = m;
            at = at;
            same_id = refl;
            same_kind = refl;
            new = by_one (place_of from m.id) (λ old e. absurd (true_false (renamed-id from to is listed.path n listed.dir m old listed.at listed.new at e) f)) (λ none. none);
          }))

  pub news-sound : (news : List NewItem) (one : Listing) → IsListed from to one → AllByRecursion Sound news → (o : Option Names) → path_in news one.dir ≡ o → AllByRecursion Sound (news_at lines one.items o)
  news-sound news one listed sound None h = tt
  news-sound news one listed sound (Some path) h = subst (λ (p : Names). AllByRecursion Sound (filter_map (new_in lines p) one.items)) (sym (path-is news one listed path sound h)) (items-sound one listed)

  grown-sound : (listings : List Listing) (news : List NewItem) → AllByRecursion (IsListed from to) listings → AllByRecursion Sound news → AllByRecursion Sound (grown lines news listings)
  grown-sound [] news listed sound = sound
  grown-sound (one ∷ listings) news listed sound = grown-sound listings (news ++ news_at lines one.items (path_in news one.dir)) listed.1 (each-append Sound news (news_at lines one.items (path_in news one.dir)) sound (news-sound news one listed.0 sound (path_in news one.dir) refl))

  -- all that is found is new
  pub news-are-new : (listings : List Listing) → AllByRecursion (IsListed from to) listings → AllByRecursion Sound (all_news lines listings)
  news-are-new listings listed = grown-sound listings (first_news lines) listed (first-sound lines lines-tell)

  -- ---- all that is new is found

  abbrev item_at : Names → Node B → NewItem
  item_at path m = record { id = m.id; is_dir = is_dir m; path = path }

  grown-keeps : (listings : List Listing) (news : List NewItem) (x : NewItem) → IsIn news x → IsIn (grown lines news listings) x
  grown-keeps [] news x at = at
  grown-keeps (one ∷ listings) news x at = grown-keeps listings (news ++ news_at lines one.items (path_in news one.dir)) x (in-left news (news_at lines one.items (path_in news one.dir)) x at)

  -- new in a directory that was there
  pub by-line : (t : Names) (n : List ℕ) (m d : Node B) (old : Names × Node B) → node_at to (t ++ n ∷ []) ≡ Some m → node_at to t ≡ Some d → place_of from m.id ≡ None → place_of from d.id ≡ Some old → IsIn (first_news lines) (item_at (t ++ n ∷ []) m)
  by-line t n m d old at there new was =
      let w : (created from to (t ++ n ∷ [], m) ≡ Some (line_of Created (old.0 ++ n ∷ []) None m)) × (translate lines old.0 ++ n ∷ [] ≡ t ++ n ∷ []) = created-at from to is t n m d old.1 old.0 at there new was in
      in-filter_map (λ one. new_by lines one.kind one) lines (line_of Created (old.0 ++ n ∷ []) None m) (item_at (t ++ n ∷ []) m)
      (in-with_lines (filter_map (created from to) to) (flat_map (lines_from from to) from) (line_of Created (old.0 ++ n ∷ []) None m)
      (in-filter_map (created from to) to (t ++ n ∷ [], m) (line_of Created (old.0 ++ n ∷ []) None m) (in-places to (t ++ n ∷ []) m at) w.0))
      (ap (λ (p : Names). Some (item_at p m)) (one_child (ap (translate lines) (parent_of-last old.0 n)) (last_of-last old.0 n) ∙ w.1))

  -- new in a listed directory
  by-listing : (listings : List Listing) (news : List NewItem) (one : Listing) (t : Names) (n : List ℕ) (m d : Node B) → IsIn listings one → AllByRecursion (IsListed from to) listings → AllByRecursion Sound news → InOrder lines news listings →
      node_at to (t ++ n ∷ []) ≡ Some m → node_at to t ≡ Some d → d.id.0 ≡ one.dir.0 → renames_id lines m.id ≡ false → IsIn (grown lines news listings) (item_at (t ++ n ∷ []) m)
  by-listing listings news one t n m d in_list listed sound ordered at there same no_line = spread in_list.before listings news in_list.is listed sound ordered
    where
      added : (news : List NewItem) → IsListed from to one → AllByRecursion Sound news → (o : Option Names) → path_in news one.dir ≡ o → is_some o ≡ true → IsIn (news_at lines one.items o) (item_at (t ++ n ∷ []) m)
      added news its sound None h some = absurd (true_false some refl)
      added news its sound (Some path) h some =
          let path_is : path ≡ t = path-is news one its path sound h ∙ one_place to is.to_tree.each_once its.path t its.dir d its.at there (its.same_id ∙ sym same) in
          let t_is : t ≡ its.path = one_place to is.to_tree.each_once t its.path d its.dir there its.at (same ∙ sym its.same_id) in
          in-filter_map (new_in lines path) one.items (item_of m n) (item_at (t ++ n ∷ []) m)
          (subst (λ items. IsIn items (item_of m n)) (ap (listing to) t_is ∙ sym its.items) (listed-child to t n m at))
          (ap (λ b. cond b None (Some (item_at (path ++ n ∷ []) m))) no_line ∙ ap (λ (p : Names). Some (item_at (p ++ n ∷ []) m)) path_is)

      spread : (before listings : List Listing) (news : List NewItem) → listings ≡ before ++ one ∷ in_list.after → AllByRecursion (IsListed from to) listings → AllByRecursion Sound news → InOrder lines news listings → IsIn (grown lines news listings) (item_at (t ++ n ∷ []) m)
      spread [] listings news e listed sound ordered =
          let listed2 : AllByRecursion (IsListed from to) (one ∷ in_list.after) = subst (AllByRecursion (IsListed from to)) e listed in
          let ordered2 : InOrder lines news (one ∷ in_list.after) = subst (InOrder lines news) e ordered in
          subst (λ ls. IsIn (grown lines news ls) (item_at (t ++ n ∷ []) m)) (sym e)
          (grown-keeps in_list.after (news ++ news_at lines one.items (path_in news one.dir)) (item_at (t ++ n ∷ []) m)
          (in-right news (news_at lines one.items (path_in news one.dir)) (item_at (t ++ n ∷ []) m) (added news listed2.0 sound (path_in news one.dir) refl ordered2.0)))
      spread (y ∷ ys) listings news e listed sound ordered =
          let listed2 : AllByRecursion (IsListed from to) (y ∷ (ys ++ one ∷ in_list.after)) = subst (AllByRecursion (IsListed from to)) e listed in
          let ordered2 : InOrder lines news (y ∷ (ys ++ one ∷ in_list.after)) = subst (InOrder lines news) e ordered in
          subst (λ ls. IsIn (grown lines news ls) (item_at (t ++ n ∷ []) m)) (sym e)
          (spread ys (ys ++ one ∷ in_list.after) (news ++ news_at lines y.items (path_in news y.dir)) refl listed2.1
          (each-append Sound news (news_at lines y.items (path_in news y.dir)) sound (news-sound news y listed2.0 sound (path_in news y.dir) refl)) ordered2.1)

  abbrev HasNode : Line → Type 0
  HasNode one = (t : Names) → one.kind ≡ Renamed → one.to ≡ Some t → (p : Names) × (x : Node B) × (node_at from p ≡ Some x) × (x.id.0 ≡ one.id.0)

  del-ren : Deleted ≡ Renamed → ⊥
  del-ren e = cc

  mod-ren : Modified ≡ Renamed → ⊥
  mod-ren e = cc

  new-ren : Created ≡ Renamed → ⊥
  new-ren e = cc

  base-ids : (q : Names) (m : Node B) → node_at from q ≡ Some m → (o : Option (Names × Node B)) → AllByRecursion HasNode (lines_by from to (q, m) o)
  base-ids q m at None = each-if HasNode (has_id to (id_above from q)) (line_of Deleted q None m) [] (λ t k _. absurd (del-ren k)) tt
  base-ids q m at (Some other) = each-if HasNode (not (same_place from to q other.0)) (line_of Renamed q (Some other.0) m) (line_if (not (m.stamp == other.1.stamp)) (line_of Modified q None m) []) (λ t k _. (q, m, at, refl))
      (each-if HasNode (not (m.stamp == other.1.stamp)) (line_of Modified q None m) [] (λ t k _. absurd (mod-ren k)) tt)

  created-ids : (q : Names) (m : Node B) (one : Line) → node_at to q ≡ Some m → created from to (q, m) ≡ Some one → HasNode one
  created-ids q m one at h = by-old (place_of from m.id) h
    where
      by-above : (o : Option (Names × Node B)) → created_in (q, m) o ≡ Some one → HasNode one
      by-above None h = absurd (none_some h)
      by-above (Some dir) h = λ t k _. absurd (new-ren (ap (λ (x : Line). x.kind) (same_some h) ∙ k))

      by-old : (o : Option (Names × Node B)) → created_by from to (q, m) o ≡ Some one → HasNode one
      by-old None h = by-above (place_above from (id_above to q)) h
      by-old (Some old) h = absurd (none_some h)

  renaming-ids : AllByRecursion HasNode lines
  renaming-ids = each-with_lines HasNode (filter_map (created from to) to) (flat_map (lines_from from to) from) (each-created HasNode to is.to_tree.sorted created-ids)
      (each-flat HasNode (lines_from from to) from is.from_tree.sorted (λ q m at. base-ids q m at (place_of to m.id)))

  -- a node that wasn't there has no renaming line
  pub no-line-of : (id : InodeId) → place_of from id ≡ None → renames_id lines id ≡ false
  no-line-of id none = not-renamed from to is id none lines renaming-ids

  -- all that is new is found, where each new directory is listed
  pub new-is-found : (listings : List Listing) → AllByRecursion (IsListed from to) listings → InOrder lines (first_news lines) listings →
      ((t : Names) (d : Node B) → node_at to t ≡ Some d → place_of from d.id ≡ None → is_dir d ≡ true → (one : Listing) × IsIn listings one × (d.id.0 ≡ one.dir.0)) →
      (q : Names) (m : Node B) → node_at to q ≡ Some m → place_of from m.id ≡ None → IsIn (all_news lines listings) (item_at q m)
  new-is-found listings listed ordered all q m at new = by_last (λ q. node_at to q ≡ Some m → IsIn (all_news lines listings) (item_at q m)) q
      (λ at. absurd (none_some (sym new ∙ place_of-here from is.from_tree [] is.from_root m.id is.from_at (ap (λ (x : Node B). x.id.0) (sym (same_some (sym is.to_at ∙ at))) ∙ sym is.same_root))))
      (λ t n at. let d : (dir : Node B) × (node_at to t ≡ Some dir) × (is_dir dir ≡ true) = dir-above to is.to_tree t n m at in by_one (place_of from d.0.id)
      (λ old was. grown-keeps listings (first_news lines) (item_at (t ++ n ∷ []) m) (by-line t n m d.0 old at d.1 new was))
      (λ gone. let one : (one : Listing) × IsIn listings one × (d.0.id.0 ≡ one.dir.0) = all t d.0 d.1 gone d.2 in
      by-listing listings (first_news lines) one.0 t n m d.0 one.1 listed (first-sound lines lines-tell) ordered at d.1 one.2 (no-line-of m.id new)))
      at

-- A child of two nodes that are alike, in two valid trees of one root.
use Rattle.std.proofs.Common.{◌≡◌, ◌⊎◌, inl, inr, ℕ, Bool, true, false, ◌||◌, bytes_eq, cond, Option, Some, None, is_some, List, [], ◌∷◌, ◌++◌, map, refl, ap, sym, ◌∙◌}
use Rattle.std.specs.Prelude.{not, ◌&&◌, ◌==◌}
use Rattle.std.specs.List.{filter, filter_map, cons_option}
use Rattle.std.specs.FinMap.Entries.{is_sorted, below_all}
use Rattle.std.proofs.lemmas.Bool.Decides.{Decides-eqb}
use Rattle.std.proofs.lemmas.Slice.Eq.{bytes_eq-Decides}
use Rattle.hs_types.specs.Names.{Names}
use Rattle.hs_plain.specs.declared.state.Node.{Node}
use Rattle.hs_plain.specs.declared.state.Body.{Body}
use Rattle.hs_plain.specs.declared.state.Body.TheVariants.{File, Dir}
use Rattle.hs_plain.specs.Tree.{Tree, path_cmp, node_at, is_dir, is_dir_body, parent_of, same_inode, place_of, same_path}
use Rattle.hs_plain.proofs.ValidTrees.{first, second, both}
use Rattle.hs_plain.proofs.ValidShapes.{none_some, same_some, true_false, by_last, parent_of-last, not_last}
use Rattle.hs_plain.proofs.ValidPlaces.{head_at, in_tail, by_place, one_place}
use Rattle.hs_plain.specs.Plan.{goes_by, goes, outs, index_of, is_other, is_copied}
use Rattle.plan_laws.specs.Sight.{Placing, Back, New, target, targets, is_in, Same, Child, Differ, HasDirs}
use Rattle.hs_plain.specs.Report.{last_of, same_place, has_id}
use Rattle.plan_laws.specs.Placings.{placing_by, placing_at, placings}
use Rattle.plan_laws.specs.Pair.{IsTree, IsPair, HasSameBytes, if_old, old_sight, Alike}
use Rattle.plan_laws.proofs.Paths.{by, by_one}
use Rattle.plan_laws.proofs.Places.{path_of_place, last_of-last, place_of-so, place_of-missing, place_of-here, dir-above, none-below, id_above-at, same_place-at, not_root}
use Rattle.plan_laws.proofs.Lists.{same-so, same-here, is_in-reverse}

pub or_second : (a b : Bool) → b ≡ true → (a || b) ≡ true
or_second true b h = refl
or_second false b h = h

pub or_split : {P : Type 0} (a b : Bool) → (a || b) ≡ true → (a ≡ true → P) → (b ≡ true → P) → P
or_split true b h left right = left refl
or_split false b h left right = right h

pub one_child : {p q : Names} {n m : List ℕ} → p ≡ q → n ≡ m → p ++ n ∷ [] ≡ q ++ m ∷ []
one_child e f = λ i. e i ++ f i ∷ []

module _ {B : Type 0} where
  -- ---- which paths are in the lists of a plan

  pub in-filter : (test : Names × Node B → Bool) (tree : Tree B) (q : Names) (m : Node B) → node_at tree q ≡ Some m → test (q, m) ≡ true → is_in (map path_of_place (filter test tree)) q ≡ true
  in-filter test [] q m at pass = absurd (none_some at)
  in-filter test (e ∷ es) q m at pass = by_place e es q m at
      (λ qe me. ap (λ b. is_in (map path_of_place (cond b (e ∷ filter test es) (filter test es))) q) (sym (λ i. test (qe i, me i)) ∙ pass)
      ∙ ap (λ (x : Names). same_path e.0 x || is_in (map path_of_place (filter test es)) q) qe ∙ ap (λ b. b || is_in (map path_of_place (filter test es)) q) (same-here e.0))
      (λ bt. elim (test e) as (λ b. is_in (map path_of_place (cond b (e ∷ filter test es) (filter test es))) q ≡ true) [
        | true ↦ or_second (same_path e.0 q) (is_in (map path_of_place (filter test es)) q) (in-filter test es q m bt pass)
        | false ↦ in-filter test es q m bt pass
      ])

  pub from-filter : (test : Names × Node B → Bool) (tree : Tree B) (q : Names) → is_sorted path_cmp tree ≡ true → is_in (map path_of_place (filter test tree)) q ≡ true → (m : Node B) × (node_at tree q ≡ Some m) × (test (q, m) ≡ true)
  from-filter test [] q h is = absurd (true_false is refl)
  from-filter test (e ∷ es) q h is =
      (elim (test e) as (λ b. test e ≡ b → is_in (map path_of_place (cond b (e ∷ filter test es) (filter test es))) q ≡ true → (m : Node B) × (node_at (e ∷ es) q ≡ Some m) × (test (q, m) ≡ true)) [
        | true ↦ λ pass is. or_split (same_path e.0 q) (is_in (map path_of_place (filter test es)) q) is
            (λ t. let qe : q ≡ e.0 = same-so e.0 q t in (e.1, ap (node_at (e ∷ es)) qe ∙ head_at e es, ap (λ (x : Names). test (x, e.1)) qe ∙ pass))
            (later (from-filter test es q (second (below_all path_cmp e.0 es) _ h)))
        | false ↦ λ pass is. later (from-filter test es q (second (below_all path_cmp e.0 es) _ h)) is
      ]) refl is
    where
      later : (is_in (map path_of_place (filter test es)) q ≡ true → (m : Node B) × (node_at es q ≡ Some m) × (test (q, m) ≡ true)) → is_in (map path_of_place (filter test es)) q ≡ true → (m : Node B) × (node_at (e ∷ es) q ≡ Some m) × (test (q, m) ≡ true)
      later rest is = let next : (m : Node B) × (node_at es q ≡ Some m) × (test (q, m) ≡ true) = rest is in
          (next.0, in_tail e es q next.0 (first (below_all path_cmp e.0 es) _ h) next.1, next.2)

  -- a put's target is the path of its place
  module _ (f : Names × Node B → Option (Placing (Node B))) (lands : (q : Names) (m : Node B) (put : Placing (Node B)) → f (q, m) ≡ Some put → target put ≡ q) where
    pub in-targets : (tree : Tree B) (q : Names) (m : Node B) (put : Placing (Node B)) → node_at tree q ≡ Some m → f (q, m) ≡ Some put → is_in (targets (filter_map f tree)) q ≡ true
    in-targets [] q m put at is = absurd (none_some at)
    in-targets (e ∷ es) q m put at is = by_place e es q m at
        (λ qe me. ap (λ o. is_in (targets (cons_option o (filter_map f es))) q) (sym (λ i. f (qe i, me i)) ∙ is)
        ∙ ap (λ (x : Names). same_path x q || is_in (targets (filter_map f es)) q) (lands q m put is) ∙ ap (λ b. b || is_in (targets (filter_map f es)) q) (same-here q))
        (λ bt. elim (f e) as (λ o. is_in (targets (cons_option o (filter_map f es))) q ≡ true) [
          | None ↦ in-targets es q m put bt is
          | Some other ↦ or_second (same_path (target other) q) (is_in (targets (filter_map f es)) q) (in-targets es q m put bt is)
        ])

    pub from-targets : (tree : Tree B) (q : Names) → is_sorted path_cmp tree ≡ true → is_in (targets (filter_map f tree)) q ≡ true → (m : Node B) × (put : Placing (Node B)) × (node_at tree q ≡ Some m) × (f (q, m) ≡ Some put)
    from-targets [] q h is = absurd (true_false is refl)
    from-targets (e ∷ es) q h is =
        (elim (f e) as (λ o. f e ≡ o → is_in (targets (cons_option o (filter_map f es))) q ≡ true → (m : Node B) × (put : Placing (Node B)) × (node_at (e ∷ es) q ≡ Some m) × (f (q, m) ≡ Some put)) [
          | None ↦ λ none is. later (from-targets es q (second (below_all path_cmp e.0 es) _ h)) is
          | Some put ↦ λ one is. or_split (same_path (target put) q) (is_in (targets (filter_map f es)) q) is
              (λ t. let qe : q ≡ e.0 = same-so (target put) q t ∙ lands e.0 e.1 put one in (e.1, put, ap (node_at (e ∷ es)) qe ∙ head_at e es, ap (λ (x : Names). f (x, e.1)) qe ∙ one))
              (later (from-targets es q (second (below_all path_cmp e.0 es) _ h)))
        ]) refl is
      where
        later : (is_in (targets (filter_map f es)) q ≡ true → (m : Node B) × (put : Placing (Node B)) × (node_at es q ≡ Some m) × (f (q, m) ≡ Some put)) →
            is_in (targets (filter_map f es)) q ≡ true → (m : Node B) × (put : Placing (Node B)) × (node_at (e ∷ es) q ≡ Some m) × (f (q, m) ≡ Some put)
        later rest is = let next : (m : Node B) × (put : Placing (Node B)) × (node_at es q ≡ Some m) × (f (q, m) ≡ Some put) = rest is in
            (next.0, next.1, in_tail e es q next.0 (first (below_all path_cmp e.0 es) _ h) next.2, next.3)

module _ {B : Type 0} (from to : Tree B) (is : IsPair from to) where
  from_tree : IsTree from
  from_tree = is.from_tree

  to_tree : IsTree to
  to_tree = is.to_tree

  -- ---- places

  -- a node of the one tree and one with its id in the other, which isn't in its place
  pub moved_away : (p t q : Names) (n : List ℕ) (a b x m : Node B) → node_at from p ≡ Some a → node_at to t ≡ Some b → a.id.0 ≡ b.id.0 →
      node_at from (p ++ n ∷ []) ≡ Some x → node_at to q ≡ Some m → m.id.0 ≡ x.id.0 → (q ≡ t ++ n ∷ [] → ⊥) → same_place from to (p ++ n ∷ []) q ≡ false
  moved_away p t q n a b x m here there alike at to_q same other = by_last (λ q. node_at to q ≡ Some m → (q ≡ t ++ n ∷ [] → ⊥) → same_place from to (p ++ n ∷ []) q ≡ false) q
      (λ at_root other. absurd (not_last p n (sym (one_place from from_tree.each_once [] (p ++ n ∷ []) is.from_root x is.from_at at
      (is.same_root ∙ ap (λ (k : Node B). k.id.0) (same_some (sym is.to_at ∙ at_root)) ∙ same)))))
      (λ above name at other. let d : (dir : Node B) × (node_at to above ≡ Some dir) × (is_dir dir ≡ true) = dir-above to to_tree above name m at in
      same_place-at from to p above n name a d.0 here d.1 ∙ by (same_inode a.id d.0.id && bytes_eq n name)
      (λ both_same. absurd (other (one_child
      (one_place to to_tree.each_once above t d.0 b d.1 there (sym ((Decides-eqb a.id.0 d.0.id.0).0 (first (same_inode a.id d.0.id) _ both_same)) ∙ alike))
      (sym ((bytes_eq-Decides n name).0 (second (same_inode a.id d.0.id) _ both_same))))))
      (λ f. f))
      to_q other

  pub moved_here : (p t q : Names) (n : List ℕ) (a b x m : Node B) → node_at from p ≡ Some a → node_at to t ≡ Some b → a.id.0 ≡ b.id.0 →
      node_at from q ≡ Some x → node_at to (t ++ n ∷ []) ≡ Some m → x.id.0 ≡ m.id.0 → (q ≡ p ++ n ∷ [] → ⊥) → same_place from to q (t ++ n ∷ []) ≡ false
  moved_here p t q n a b x m here there alike from_q at same other = by_last (λ q. node_at from q ≡ Some x → (q ≡ p ++ n ∷ [] → ⊥) → same_place from to q (t ++ n ∷ []) ≡ false) q
      (λ at_root other. absurd (not_last t n (sym (one_place to to_tree.each_once [] (t ++ n ∷ []) is.to_root m is.to_at at
      (sym is.same_root ∙ ap (λ (k : Node B). k.id.0) (same_some (sym is.from_at ∙ at_root)) ∙ same)))))
      (λ above name from_at other. let d : (dir : Node B) × (node_at from above ≡ Some dir) × (is_dir dir ≡ true) = dir-above from from_tree above name x from_at in
      same_place-at from to above t name n d.0 b d.1 there ∙ by (same_inode d.0.id b.id && bytes_eq name n)
      (λ both_same. absurd (other (one_child
      (one_place from from_tree.each_once above p d.0 a d.1 here ((Decides-eqb d.0.id.0 b.id.0).0 (first (same_inode d.0.id b.id) _ both_same) ∙ sym alike))
      ((bytes_eq-Decides name n).0 (second (same_inode d.0.id b.id) _ both_same)))))
      (λ f. f))
      from_q other

  pub same_here : (p t : Names) (n : List ℕ) (a b : Node B) → node_at from p ≡ Some a → node_at to t ≡ Some b → a.id.0 ≡ b.id.0 → same_place from to (p ++ n ∷ []) (t ++ n ∷ []) ≡ true
  same_here p t n a b here there alike = same_place-at from to p t n n a b here there ∙ both ((Decides-eqb a.id.0 b.id.0).1 alike) ((bytes_eq-Decides n n).1 refl)

  -- ---- the lists of the plan

  is_out : Names → Bool
  is_out = is_in (outs from to)

  pub out-so : (p : Names) (x : Node B) → node_at from p ≡ Some x → goes from to (p, x) ≡ true → is_in (outs from to) p ≡ true
  out-so p x at go = is_in-reverse (map path_of_place (filter (goes from to) from)) p ∙ in-filter (goes from to) from p x at go

  pub out-from : (p : Names) → is_in (outs from to) p ≡ true → (x : Node B) × (node_at from p ≡ Some x) × (goes from to (p, x) ≡ true)
  out-from p is_in_outs = from-filter (goes from to) from p from_tree.sorted (sym (is_in-reverse (map path_of_place (filter (goes from to) from)) p) ∙ is_in_outs)

  not-out : (p : Names) (x : Node B) → node_at from p ≡ Some x → goes from to (p, x) ≡ false → is_in (outs from to) p ≡ false
  not-out p x at stays = by (is_in (outs from to) p)
      (λ t. let y : (y : Node B) × (node_at from p ≡ Some y) × (goes from to (p, y) ≡ true) = out-from p t in
      absurd (true_false (ap (λ (z : Node B). goes from to (p, z)) (same_some (sym at ∙ y.1)) ∙ y.2) stays))
      (λ f. f)

  target-back : (i : ℕ) (q above : Names) (name : List ℕ) (put : Placing (Node B)) → q ≡ above ++ name ∷ [] → Some (Back i (parent_of q) (last_of q)) ≡ Some put → target put ≡ q
  target-back i q above name put e h = ap target (sym (same_some h)) ∙ one_child (ap parent_of e ∙ parent_of-last above name) (ap last_of e ∙ last_of-last above name) ∙ sym e

  target-new : (node : Node B) (q above : Names) (name : List ℕ) (put : Placing (Node B)) → q ≡ above ++ name ∷ [] → Some (New node (parent_of q) (last_of q)) ≡ Some put → target put ≡ q
  target-new node q above name put e h = ap target (sym (same_some h)) ∙ one_child (ap parent_of e ∙ parent_of-last above name) (ap last_of e ∙ last_of-last above name) ∙ sym e

  -- ---- children

  left-cut : (p t : Names) (n : List ℕ) (a b x : Node B) → node_at from p ≡ Some a → node_at to t ≡ Some b → a.id.0 ≡ b.id.0 → node_at from (p ++ n ∷ []) ≡ Some x →
      ((m : Node B) → node_at to (t ++ n ∷ []) ≡ Some m → m.id.0 ≡ x.id.0 → ⊥) → goes from to (p ++ n ∷ [], x) ≡ true
  left-cut p t n a b x here there alike at other = by_one (place_of to x.id)
      (λ place h. let so : (node_at to place.0 ≡ Some place.1) × (place.1.id.0 ≡ x.id.0) = place_of-so to x.id place to_tree.sorted h in
      ap (goes_by from to (p ++ n ∷ [])) h
      ∙ ap not (moved_away p t place.0 n a b x place.1 here there alike at so.0 so.1 (λ e. other place.1 (ap (node_at to) (sym e) ∙ so.0) so.1)))
      (λ none. ap (goes_by from to (p ++ n ∷ [])) none ∙ ap (has_id to) (id_above-at from p n a here) ∙ ap is_some (place_of-here to to_tree t b a.id there alike))

  -- ---- puts

  -- what a place that isn't the root's puts
  pub put-by : (above : Names) (name : List ℕ) (m : Node B) → placing_at from to (above ++ name ∷ [], m) ≡ placing_by from to (above ++ name ∷ [], m) (place_of from m.id)
  put-by above name m = ap (λ b. cond b None (placing_by from to (above ++ name ∷ [], m) (place_of from m.id))) (not_root above name)

  pub none-put : {P : Type 0} {put : Placing (Node B)} → None ≡ Some put → P
  none-put h = absurd (none_some h)

  lands-by : (above : Names) (name : List ℕ) (m : Node B) (o : Option (Names × Node B)) (put : Placing (Node B)) → placing_by from to (above ++ name ∷ [], m) o ≡ Some put → target put ≡ above ++ name ∷ []
  lands-by above name m None put h = (elim (is_dir m) as (λ b. cond b (Some (New m (parent_of (above ++ name ∷ [])) (last_of (above ++ name ∷ [])))) None ≡ Some put → target put ≡ above ++ name ∷ []) [
    | true ↦ λ h. target-new m (above ++ name ∷ []) above name put refl h
    | false ↦ λ h. none-put h
  ]) h
  lands-by above name m (Some old) put h = (elim (same_place from to old.0 (above ++ name ∷ [])) as (λ b. cond b None (Some (Back (index_of (outs from to) old.0) (parent_of (above ++ name ∷ [])) (last_of (above ++ name ∷ [])))) ≡ Some put → target put ≡ above ++ name ∷ []) [
    | true ↦ λ h. none-put h
    | false ↦ λ h. target-back (index_of (outs from to) old.0) (above ++ name ∷ []) above name put refl h
  ]) h

  pub lands : (q : Names) (m : Node B) (put : Placing (Node B)) → placing_at from to (q, m) ≡ Some put → target put ≡ q
  lands q m put h = by_last (λ q. placing_at from to (q, m) ≡ Some put → target put ≡ q) q (λ h. none-put h) (λ above name h. lands-by above name m (place_of from m.id) put (sym (put-by above name m) ∙ h)) h

  put-so : (q : Names) (m : Node B) (put : Placing (Node B)) → node_at to q ≡ Some m → placing_at from to (q, m) ≡ Some put → is_in (targets (placings from to)) q ≡ true
  put-so q m put at puts_it = in-targets (placing_at from to) lands to q m put at puts_it

  not-put : (q : Names) (m : Node B) → node_at to q ≡ Some m → placing_at from to (q, m) ≡ None → is_in (targets (placings from to)) q ≡ false
  not-put q m at none = by (is_in (targets (placings from to)) q)
      (λ t. let y : (y : Node B) × (put : Placing (Node B)) × (node_at to q ≡ Some y) × (placing_at from to (q, y) ≡ Some put) = from-targets (placing_at from to) lands to q to_tree.sorted t in
      none-put (sym none ∙ ap (λ (z : Node B). placing_at from to (q, z)) (same_some (sym at ∙ y.2)) ∙ y.3))
      (λ f. f)

  -- a node that isn't a new file comes by a put where it isn't in its old place
  abbrev pub is_old : Node B → Bool
  is_old m = is_dir m || is_some (place_of from m.id)

  pub comes : (t : Names) (n : List ℕ) (m : Node B) → node_at to (t ++ n ∷ []) ≡ Some m → is_old m ≡ true →
      ((old : Names × Node B) → place_of from m.id ≡ Some old → same_place from to old.0 (t ++ n ∷ []) ≡ false) → is_in (targets (placings from to)) (t ++ n ∷ []) ≡ true
  comes t n m at old_one moves = by_one (place_of from m.id)
      (λ old h. put-so (t ++ n ∷ []) m (Back (index_of (outs from to) old.0) (parent_of (t ++ n ∷ [])) (last_of (t ++ n ∷ []))) at
      (put-by t n m ∙ ap (placing_by from to (t ++ n ∷ [], m)) h ∙ ap (λ b. cond b None (Some (Back (index_of (outs from to) old.0) (parent_of (t ++ n ∷ [])) (last_of (t ++ n ∷ []))))) (moves old h)))
      (λ none. put-so (t ++ n ∷ []) m (New m (parent_of (t ++ n ∷ [])) (last_of (t ++ n ∷ []))) at
      (put-by t n m ∙ ap (placing_by from to (t ++ n ∷ [], m)) none ∙ ap (λ b. cond b (Some (New m (parent_of (t ++ n ∷ [])) (last_of (t ++ n ∷ [])))) None)
      (or_split (is_dir m) (is_some (place_of from m.id)) old_one (λ d. d) (λ s. absurd (true_false s (ap is_some none))))))

  right-cut : (p t : Names) (n : List ℕ) (a b : Node B) → node_at from p ≡ Some a → node_at to t ≡ Some b → a.id.0 ≡ b.id.0 →
      ((x m : Node B) → node_at from (p ++ n ∷ []) ≡ Some x → node_at to (t ++ n ∷ []) ≡ Some m → x.id.0 ≡ m.id.0 → ⊥) → (old_sight from to (t ++ n ∷ []) ≡ None ⊎ is_in (targets (placings from to)) (t ++ n ∷ []) ≡ true)
  right-cut p t n a b here there alike other = by_one (node_at to (t ++ n ∷ []))
      (λ m at. by (is_old m)
      (λ old_one. inr (comes t n m at old_one (λ old h. let so : (node_at from old.0 ≡ Some old.1) × (old.1.id.0 ≡ m.id.0) = place_of-so from m.id old from_tree.sorted h in
      moved_here p t old.0 n a b old.1 m here there alike so.0 at so.1 (λ e. other old.1 m (ap (node_at from) (sym e) ∙ so.0) at so.1))))
      (λ new_one. inl (ap (if_old from) at ∙ ap (λ c. cond c (Some m) None) new_one)))
      (λ none. inl (ap (if_old from) none))

  -- ---- alike

  pub dir_body : (body : Body B) → is_dir_body body ≡ true → body ≡ Dir
  dir_body (File file) h = absurd (true_false h refl)
  dir_body Dir h = refl

  stays : (x m : Node B) (p : Names) → place_of from m.id ≡ Some (p, x) → is_dir m ≡ false → is_copied from ([], m) ≡ false → x.stamp ≡ m.stamp
  stays x m p h file same = (Decides-eqb x.stamp m.stamp).0 (not_so (x.stamp == m.stamp) (sym (ap (λ b. not b && not (x.stamp == m.stamp)) file) ∙ sym (ap (λ o. not (is_dir m) && is_other ([], m) o) h) ∙ same))
    where
      not_so : (b : Bool) → not b ≡ false → b ≡ true
      not_so true h = refl
      not_so false h = absurd (true_false refl h)

  pub alike-itself : (m : Node B) → Alike from m m
  alike-itself m = record { same_id = refl; same_kind = refl; same_body = λ _. refl }

  pub old-so : (o : Option (Node B)) (m : Node B) → if_old from o ≡ Some m → o ≡ Some m
  old-so None m h = h
  old-so (Some x) m h = (elim (is_old x) as (λ b. cond b (Some x) None ≡ Some m → Some x ≡ Some m) [
    | true ↦ λ h. h
    | false ↦ λ h. absurd (none_some h)
  ]) h

  pub dir-old : (q : Names) (m : Node B) → node_at to q ≡ Some m → is_old m ≡ true → old_sight from to q ≡ Some m
  dir-old q m at old_one = ap (if_old from) at ∙ ap (λ b. cond b (Some m) None) old_one

  pub old-dirs : HasDirs is_dir (old_sight from to)
  old-dirs above name node at =
      let d : (dir : Node B) × (node_at to above ≡ Some dir) × (is_dir dir ≡ true) = dir-above to to_tree above name node (old-so (node_at to (above ++ name ∷ [])) node at) in
      (d.0, dir-old above d.0 d.1 (ap (λ b. b || is_some (place_of from d.0.id)) d.2), d.2)

  -- a child of a new directory is in no place that the first tree has
  pub same_place_new : (t : Names) (n : List ℕ) (dir c : Node B) (old : Names × Node B) → node_at to t ≡ Some dir → place_of from dir.id ≡ None → node_at to (t ++ n ∷ []) ≡ Some c → place_of from c.id ≡ Some old → same_place from to old.0 (t ++ n ∷ []) ≡ false
  same_place_new t n dir c old there new at h =
      let so : (node_at from old.0 ≡ Some old.1) × (old.1.id.0 ≡ c.id.0) = place_of-so from c.id old from_tree.sorted h in
      by_last (λ q. node_at from q ≡ Some old.1 → same_place from to q (t ++ n ∷ []) ≡ false) old.0
      (λ at_root. absurd (not_last t n (sym (one_place to to_tree.each_once [] (t ++ n ∷ []) is.to_root c is.to_at at
      (sym is.same_root ∙ ap (λ (k : Node B). k.id.0) (same_some (sym is.from_at ∙ at_root)) ∙ so.1)))))
      (λ above name from_at. let d : (up : Node B) × (node_at from above ≡ Some up) × (is_dir up ≡ true) = dir-above from from_tree above name old.1 from_at in
      same_place-at from to above t name n d.0 dir d.1 there ∙ by (same_inode d.0.id dir.id && bytes_eq name n)
      (λ both_same. absurd (place_of-missing from dir.id above d.0 new d.1 ((Decides-eqb d.0.id.0 dir.id.0).0 (first (same_inode d.0.id dir.id) _ both_same))))
      (λ f. f))
      so.0

  -- ---- the meeting of the two trees

  module _ (bytes : HasSameBytes from to) where
    pub alike-so : (p q : Names) (x m : Node B) → node_at from p ≡ Some x → node_at to q ≡ Some m → x.id.0 ≡ m.id.0 → Alike from x m
    alike-so p q x m here there same = record {
      same_id = same;
      same_kind = is.one_kind p q x m here there same;
      same_body = λ not_copied. by (is_dir m)
          (λ d. dir_body x.body (is.one_kind p q x m here there same ∙ d) ∙ sym (dir_body m.body d))
          (λ f. bytes p q x m here there same (stays x m p (place_of-here from from_tree p x m.id here (sym same)) f not_copied));
    }

    abbrev Meets : Names → Names → Type 0
    Meets p t = Child (Alike from) (node_at from) (old_sight from to) (is_in (outs from to)) (is_in (targets (placings from to))) p t

    child-same : (p t : Names) (n : List ℕ) (a b x m : Node B) → node_at from p ≡ Some a → node_at to t ≡ Some b → a.id.0 ≡ b.id.0 → node_at from (p ++ n ∷ []) ≡ Some x → node_at to (t ++ n ∷ []) ≡ Some m → x.id.0 ≡ m.id.0 →
        Same (Alike from) (node_at from) (old_sight from to) (is_in (outs from to)) (is_in (targets (placings from to))) (p ++ n ∷ []) (t ++ n ∷ [])
    child-same p t n a b x m here there alike at to_at same =
        let old : place_of from m.id ≡ Some (p ++ n ∷ [], x) = place_of-here from from_tree (p ++ n ∷ []) x m.id at (sym same) in
        let one : same_place from to (p ++ n ∷ []) (t ++ n ∷ []) ≡ true = same_here p t n a b here there alike in
        record {
          a = x;
          b = m;
          here = at;
          there = dir-old (t ++ n ∷ []) m to_at (or_second (is_dir m) (is_some (place_of from m.id)) (ap is_some old));
          alike = alike-so (p ++ n ∷ []) (t ++ n ∷ []) x m at to_at same;
          no_out = not-out (p ++ n ∷ []) x at (ap (goes_by from to (p ++ n ∷ [])) (place_of-here to to_tree (t ++ n ∷ []) m x.id to_at same) ∙ ap not one);
          no_put = not-put (t ++ n ∷ []) m to_at (put-by t n m ∙ ap (placing_by from to (t ++ n ∷ [], m)) old ∙ ap (λ b. cond b None (Some (Back (index_of (outs from to) (p ++ n ∷ [])) (parent_of (t ++ n ∷ [])) (last_of (t ++ n ∷ []))))) one);
        }

    child-at : (p t : Names) (n : List ℕ) (a b : Node B) → node_at from p ≡ Some a → node_at to t ≡ Some b → a.id.0 ≡ b.id.0 → Meets (p ++ n ∷ []) (t ++ n ∷ [])
    child-at p t n a b here there alike = by_one (node_at from (p ++ n ∷ []))
        (λ x at. by_one (node_at to (t ++ n ∷ []))
        (λ m to_at. by (x.id.0 == m.id.0)
        (λ same. inl (child-same p t n a b x m here there alike at to_at ((Decides-eqb x.id.0 m.id.0).0 same)))
        (λ differ. inr (
          inr (out-so (p ++ n ∷ []) x at (left-cut p t n a b x here there alike at (λ k kt same. other x m differ x k at at to_at kt (sym same)))),
          right-cut p t n a b here there alike (λ y k yt kt same. other x m differ y k at yt to_at kt same),
        )))
        (λ none. inr (
          inr (out-so (p ++ n ∷ []) x at (left-cut p t n a b x here there alike at (λ k kt same. none_some (sym none ∙ kt)))),
          inl (ap (if_old from) none),
        )))
        (λ none. inr (inl none, right-cut p t n a b here there alike (λ y k yt kt same. none_some (sym none ∙ yt))))
      where
        other : (x m : Node B) → (x.id.0 == m.id.0) ≡ false → (y k : Node B) → node_at from (p ++ n ∷ []) ≡ Some x → node_at from (p ++ n ∷ []) ≡ Some y → node_at to (t ++ n ∷ []) ≡ Some m → node_at to (t ++ n ∷ []) ≡ Some k → y.id.0 ≡ k.id.0 → ⊥
        other x m differ y k xt yt mt kt same = true_false ((Decides-eqb x.id.0 m.id.0).1 (ap (λ (z : Node B). z.id.0) (same_some (sym xt ∙ yt)) ∙ same ∙ ap (λ (z : Node B). z.id.0) (same_some (sym kt ∙ mt)))) differ

    pub differ : Differ (Alike from) (node_at from) (old_sight from to) (is_in (outs from to)) (is_in (targets (placings from to)))
    differ = record {
      child = λ p t n a b here there alike. child-at p t n a b here (old-so (node_at to t) b there) alike.same_id;
      none_below = λ p n none. none-below from from_tree p n none;
      none_below_there = λ p n none. by_one (old_sight from to (p ++ n ∷ []))
          (λ node at. absurd (none_some (sym none ∙ (old-dirs p n node at).1)))
          (λ gone. gone);
    }

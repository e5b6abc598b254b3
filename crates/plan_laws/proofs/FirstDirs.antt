-- The new directories of the `+` lines are the new ones in directories that were there, each once.
use Rattle.std.proofs.Common.{◌≡◌, ◌⊎◌, inl, inr, ℕ, Bool, true, false, cond, Option, Some, None, List, [], ◌∷◌, ◌++◌, refl, ap, sym, subst, ◌∙◌}
use Rattle.std.specs.Prelude.{not, ◌&&◌, ◌==◌}
use Rattle.std.specs.List.{filter_map, flat_map, cons_option, AllByRecursion}
use Rattle.std.specs.FinMap.Entries.{is_sorted, below_all}
use Rattle.hs_types.specs.Names.{Names}
use Rattle.hs_types.specs.declared.reply.Line.{Line}
use Rattle.hs_types.specs.declared.reply.LineKind.{LineKind}
use Rattle.hs_types.specs.declared.reply.LineKind.TheVariants.{Deleted, Renamed, Modified, Created}
use Rattle.hs_plain.specs.declared.state.Node.{Node}
use Rattle.hs_plain.specs.Tree.{Tree, path_cmp, node_at, place_of, path_at}
use Rattle.hs_plain.specs.Report.{line_of, line_if, lines_by, lines_from, created_in, created_by, created, place_above, id_above, same_place, has_id, line_before, with_line, with_lines, report, last_of}
use Rattle.hs_plain.specs.Plan.{is_created, created_dir, translate}
use Rattle.hs_plain.proofs.ValidTrees.{first, second}
use Rattle.hs_plain.proofs.ValidShapes.{none_some, same_some, true_false}
use Rattle.hs_plain.proofs.ValidLists.{In, in-contains, in-filter_map, filter_map_so}
use Rattle.hs_plain.proofs.ValidHeld.{found_place}
use Rattle.plan_laws.specs.Pair.{IsPair}
use Rattle.plan_laws.proofs.Paths.{by, by_one}
use Rattle.plan_laws.proofs.Places.{place_of-here, id_above-at}
use Rattle.plan_laws.proofs.Elements.{IsIn, contains-at}
use Rattle.plan_laws.proofs.Translated.{each-with_lines, each-flat}
use Rattle.plan_laws.proofs.NewItems.{created-at}
use Rattle.plan_laws.proofs.Listed.{in-with_lines, each-created, each-if, del-not, ren-not, mod-not, in-filter_map as placed-filter_map, in-places}
use Rattle.plan_laws.proofs.Distinct.{IsOnce, not-again}
use Rattle.plan_laws.proofs.Waiting.{IsNewDir, AreFirst}

pub each-in : {X : Type 0} (P : X → Type 0) (xs : List X) → AllByRecursion P xs → (x : X) → In xs x → P x
each-in P [] all x at = absurd at
each-in P (y ∷ ys) all x (inl e) = subst P e all.0
each-in P (y ∷ ys) all x (inr at) = each-in P ys all.1 x at

pub in-so : {X : Type 0} (xs : List X) (x : X) → IsIn xs x → In xs x
in-so xs x at = in-contains xs x (contains-at xs x at)

-- ---- one more in a list of which none stands twice

once-cons : {X : Type 0} (o : Option X) (xs : List X) → IsOnce xs → ((x : X) → o ≡ Some x → In xs x → ⊥) → IsOnce (cons_option o xs)
once-cons None xs h apart = h
once-cons (Some x) xs h apart = (apart x refl, h)

once-rest : {X : Type 0} (o : Option X) (xs : List X) → IsOnce (cons_option o xs) → IsOnce xs
once-rest None xs h = h
once-rest (Some x) xs h = h.1

once-head : {X : Type 0} (o : Option X) (xs : List X) → IsOnce (cons_option o xs) → (x : X) → o ≡ Some x → In xs x → ⊥
once-head None xs h x e at = none_some e
once-head (Some y) xs h x e at = h.0 (subst (In xs) (sym (same_some e)) at)

in-optional : {X : Type 0} (o : Option X) (xs : List X) (x : X) → o ≡ Some x → In (cons_option o xs) x
in-optional None xs x e = absurd (none_some e)
in-optional (Some y) xs x e = inl (same_some e)

in-behind : {X : Type 0} (o : Option X) (xs : List X) (x : X) → In xs x → In (cons_option o xs) x
in-behind None xs x at = at
in-behind (Some y) xs x at = inr at

with_line-so : (one : Line) (lines : List Line) (x : Line) → In (with_line one lines) x → (x ≡ one) ⊎ In lines x
with_line-so one [] x (inl e) = inl (sym e)
with_line-so one [] x (inr at) = absurd at
with_line-so one (other ∷ lines) x at = by-order (line_before other one) at (with_line-so one lines x)
  where
    by-order : (b : Bool) → In (cond b (other ∷ with_line one lines) (one ∷ other ∷ lines)) x → (In (with_line one lines) x → (x ≡ one) ⊎ In lines x) → (x ≡ one) ⊎ In (other ∷ lines) x
    by-order true (inl e) rest = inr (inl e)
    by-order true (inr there) rest = later (rest there)
      where
        later : (x ≡ one) ⊎ In lines x → (x ≡ one) ⊎ In (other ∷ lines) x
        later (inl e) = inl e
        later (inr more) = inr (inr more)
    by-order false (inl e) rest = inl (sym e)
    by-order false (inr there) rest = inr there

module _ (f : Line → Option Names) where
  once-with_line : (one : Line) (lines : List Line) → IsOnce (filter_map f lines) → ((path : Names) → f one ≡ Some path → In (filter_map f lines) path → ⊥) → IsOnce (filter_map f (with_line one lines))
  once-with_line one [] h apart = once-cons (f one) [] tt apart
  once-with_line one (other ∷ lines) h apart =
      let rest : IsOnce (filter_map f (with_line one lines)) = once-with_line one lines (once-rest (f other) (filter_map f lines) h) (λ path e at. apart path e (in-behind (f other) (filter_map f lines) path at)) in
      elim (line_before other one) as (λ b. IsOnce (filter_map f (cond b (other ∷ with_line one lines) (one ∷ other ∷ lines)))) [
        | true ↦ once-cons (f other) (filter_map f (with_line one lines)) rest (λ path e at. let x = filter_map_so f (with_line one lines) path at in by-line path e x.0 x.2 (with_line-so one lines x.0 x.1))
        | false ↦ once-cons (f one) (filter_map f (other ∷ lines)) h apart
      ]
    where
      by-line : (path : Names) → f other ≡ Some path → (x : Line) → f x ≡ Some path → (x ≡ one) ⊎ In lines x → ⊥
      by-line path e x h2 (inl same) = apart path (ap f (sym same) ∙ h2) (in-optional (f other) (filter_map f lines) path e)
      by-line path e x h2 (inr at) = once-head (f other) (filter_map f lines) h path e (in-filter_map f lines x path at h2)

-- ---- the `+` lines of directories

module _ {B : Type 0} (from to : Tree B) (is : IsPair from to) where
  abbrev lines : List Line
  lines = report from to

  abbrev pub first_dirs : List Names
  first_dirs = filter_map (created_dir to) (report from to)

  -- a node of the second tree that has a `+` line
  record IsCreated (path : Names) (node : Node B) (one : Line) : Type 0 where
    new : place_of from node.id ≡ None
    above : Names × Node B
    above_at : place_above from (id_above to path) ≡ Some above
    line : one ≡ line_of Created (above.0 ++ last_of path ∷ []) None node

  created-so : (path : Names) (node : Node B) (one : Line) → created from to (path, node) ≡ Some one → IsCreated path node one
  created-so path node one h = by_one (place_of from node.id)
      (λ old was. absurd (none_some (sym (ap (created_by from to (path, node)) was) ∙ h)))
      (λ new. let in_it : created_in (path, node) (place_above from (id_above to path)) ≡ Some one = sym (ap (created_by from to (path, node)) new) ∙ h in
      by_one (place_above from (id_above to path))
      (λ above at. record { new = new; above = above; above_at = at; line = same_some (sym in_it ∙ ap (created_in (path, node)) at) })
      (λ none. absurd (none_some (sym (ap (created_in (path, node)) none) ∙ in_it))))

  kind-so : (kind : LineKind) → is_created kind ≡ true → kind ≡ Created
  kind-so Created h = refl
  kind-so Deleted h = absurd (true_false h refl)
  kind-so Renamed h = absurd (true_false h refl)
  kind-so Modified h = absurd (true_false h refl)

  record IsDirLine (one : Line) (path : Names) : Type 0 where
    kind : one.kind ≡ Created
    dir : one.is_dir ≡ true
    at : path_at (place_of to one.id) ≡ Some path

  dir-so : (one : Line) (path : Names) → created_dir to one ≡ Some path → IsDirLine one path
  dir-so one path h = by (is_created one.kind && one.is_dir)
      (λ t. record {
        kind = kind-so one.kind (first (is_created one.kind) one.is_dir t);
        dir = second (is_created one.kind) one.is_dir t;
        at = sym (ap (λ b. cond b (path_at (place_of to one.id)) None) t) ∙ h;
      })
      (λ f. absurd (none_some (sym (ap (λ b. cond b (path_at (place_of to one.id)) None) f) ∙ h)))

  -- where a node has a `+` line of a directory, that is its path
  own-path : (path other : Names) (node : Node B) (one : Line) → node_at to path ≡ Some node → created from to (path, node) ≡ Some one → created_dir to one ≡ Some other → other ≡ path
  own-path path other node one at h dir =
      let made : IsCreated path node one = created-so path node one h in
      same_some (sym (dir-so one other dir).at ∙ ap (λ (x : Line). path_at (place_of to x.id)) made.line ∙ ap path_at (place_of-here to is.to_tree path node node.id at refl))

  abbrev HasPlace : Line → Type 0
  HasPlace one = one.kind ≡ Created → (path : Names) × (node : Node B) × (node_at to path ≡ Some node) × (created from to (path, node) ≡ Some one)

  base-place : (q : Names) (m : Node B) (o : Option (Names × Node B)) → AllByRecursion HasPlace (lines_by from to (q, m) o)
  base-place q m None = each-if from to is HasPlace (has_id to (id_above from q)) (line_of Deleted q None m) [] (λ k. absurd (del-not from to is k)) tt
  base-place q m (Some other) = each-if from to is HasPlace (not (same_place from to q other.0)) (line_of Renamed q (Some other.0) m) (line_if (not (m.stamp == other.1.stamp)) (line_of Modified q None m) []) (λ k. absurd (ren-not from to is k))
      (each-if from to is HasPlace (not (m.stamp == other.1.stamp)) (line_of Modified q None m) [] (λ k. absurd (mod-not from to is k)) tt)

  abbrev base : List Line
  base = flat_map (lines_from from to) from

  have-places : AllByRecursion HasPlace lines
  have-places = each-with_lines HasPlace (filter_map (created from to) to) base (each-created from to is HasPlace to is.to_tree.sorted (λ q m one at h _. (q, m, at, h)))
      (each-flat HasPlace (lines_from from to) from is.from_tree.sorted (λ q m at. base-place q m (place_of to m.id)))

  -- a first directory is new, in a directory that was there
  record IsFirstDir (path : Names) : Type 0 where
    new : IsNewDir from to is path
    above : Names × Node B
    above_at : place_above from (id_above to path) ≡ Some above

  first-at : (path other : Names) (node : Node B) (one : Line) → node_at to path ≡ Some node → created from to (path, node) ≡ Some one → created_dir to one ≡ Some other → IsCreated path node one → IsDirLine one other → IsFirstDir other
  first-at path other node one at h dir_at made dir = record {
    new = record { node = node; at = ap (node_at to) (own-path path other node one at h dir_at) ∙ at; dir = sym (ap (λ (x : Line). x.is_dir) made.line) ∙ dir.dir; new = made.new };
    above = made.above;
    above_at = ap (λ (p : Names). place_above from (id_above to p)) (own-path path other node one at h dir_at) ∙ made.above_at;
  }

  first-so : (path : Names) → In first_dirs path → IsFirstDir path
  first-so path at =
      let line : (one : Line) × (In lines one) × (created_dir to one ≡ Some path) = filter_map_so (created_dir to) lines path at in
      let dir : IsDirLine line.0 path = dir-so line.0 path line.2 in
      let place : (q : Names) × (m : Node B) × (node_at to q ≡ Some m) × (created from to (q, m) ≡ Some line.0) = each-in HasPlace lines have-places line.0 line.1 dir.kind in
      first-at place.0 path place.1 line.0 place.2 place.3 line.2 (created-so place.0 place.1 line.0 place.3) dir

  first-above : (above : Names) (name : List ℕ) → In first_dirs (above ++ name ∷ []) → IsNewDir from to is above → ⊥
  first-above above name at new =
      let it : IsFirstDir (above ++ name ∷ []) = first-so (above ++ name ∷ []) at in
      none_some (sym (ap (place_above from) (id_above-at to above name new.node new.at) ∙ new.new) ∙ it.above_at)

  first-all : (above : Names) (name : List ℕ) (dir : Node B) (old : Names × Node B) → IsNewDir from to is (above ++ name ∷ []) → node_at to above ≡ Some dir → place_of from dir.id ≡ Some old → In first_dirs (above ++ name ∷ [])
  first-all above name dir old new there was =
      let made : (created from to (above ++ name ∷ [], new.node) ≡ Some (line_of Created (old.0 ++ name ∷ []) None new.node)) × (translate lines old.0 ++ name ∷ [] ≡ above ++ name ∷ []) = created-at from to is above name new.node dir old.1 old.0 new.at there new.new was in
      let one : Line = line_of Created (old.0 ++ name ∷ []) None new.node in
      in-filter_map (created_dir to) lines one (above ++ name ∷ [])
      (in-so lines one (in-with_lines (filter_map (created from to) to) base one (placed-filter_map (created from to) to (above ++ name ∷ [], new.node) one (in-places to (above ++ name ∷ []) new.node new.at) made.0)))
      (ap (λ b. cond b (path_at (place_of to new.node.id)) None) new.dir ∙ ap path_at (place_of-here to is.to_tree (above ++ name ∷ []) new.node new.node.id new.at refl))

  -- ---- each once

  abbrev IsNoDir : Line → Type 0
  IsNoDir one = created_dir to one ≡ None

  base-none : (q : Names) (m : Node B) (o : Option (Names × Node B)) → AllByRecursion IsNoDir (lines_by from to (q, m) o)
  base-none q m None = each-if from to is IsNoDir (has_id to (id_above from q)) (line_of Deleted q None m) [] refl tt
  base-none q m (Some other) = each-if from to is IsNoDir (not (same_place from to q other.0)) (line_of Renamed q (Some other.0) m) (line_if (not (m.stamp == other.1.stamp)) (line_of Modified q None m) []) refl
      (each-if from to is IsNoDir (not (m.stamp == other.1.stamp)) (line_of Modified q None m) [] refl tt)

  none-of : (list : List Line) → AllByRecursion IsNoDir list → filter_map (created_dir to) list ≡ []
  none-of [] h = refl
  none-of (one ∷ list) h = ap (λ o. cons_option o (filter_map (created_dir to) list)) h.0 ∙ none-of list h.1

  base-empty : filter_map (created_dir to) base ≡ []
  base-empty = none-of base (each-flat IsNoDir (lines_from from to) from is.from_tree.sorted (λ q m at. base-none q m (place_of to m.id)))

  abbrev dirs_of : Tree B → List Names
  dirs_of places = filter_map (created_dir to) (with_lines (filter_map (created from to) places) base)

  -- the directories' lines of some places: each once, and of these places
  record AreOf (places : Tree B) (paths : List Names) : Type 0 where
    once : IsOnce paths
    of : (path : Names) → In paths path → (place : Names × Node B) × (In places place) × (path ≡ place.0)

  dirs-once : (places : Tree B) → is_sorted path_cmp places ≡ true → ((place : Names × Node B) → In places place → In to place) → AreOf places (dirs_of places)
  dirs-once [] sorted within = record { once = subst IsOnce (sym base-empty) tt; of = λ path at. absurd (subst (λ (ps : List Names). In ps path) base-empty at) }
  dirs-once (e ∷ es) sorted within = by-head (created from to e) refl (dirs-once es (second (below_all path_cmp e.0 es) _ sorted) (λ place at. within place (inr at)))
    where
      here : node_at to e.0 ≡ Some e.1
      here = found_place to is.to_tree.sorted e (within e (inl refl))

      later : {path : Names} → (place : Names × Node B) × (In es place) × (path ≡ place.0) → (place : Names × Node B) × (In (e ∷ es) place) × (path ≡ place.0)
      later w = (w.0, inr w.1, w.2)

      by-head : (o : Option Line) → created from to e ≡ o → AreOf es (dirs_of es) → AreOf (e ∷ es) (filter_map (created_dir to) (with_lines (cons_option o (filter_map (created from to) es)) base))
      by-head None h rest = record { once = rest.once; of = λ path at. later (rest.of path at) }
      by-head (Some one) h rest = record {
        once = once-with_line (created_dir to) one (with_lines (filter_map (created from to) es) base) rest.once (λ path dir at.
            let place = rest.of path at in not-again e es sorted place.0 place.1 (sym place.2 ∙ own-path e.0 path e.1 one here h dir));
        of = λ path at.
            let x = filter_map_so (created_dir to) (with_line one (with_lines (filter_map (created from to) es) base)) path at in
            by-line path x.0 x.2 (with_line-so one (with_lines (filter_map (created from to) es) base) x.0 x.1);
      }
        where
          by-line : (path : Names) (x : Line) → created_dir to x ≡ Some path → (x ≡ one) ⊎ In (with_lines (filter_map (created from to) es) base) x → (place : Names × Node B) × (In (e ∷ es) place) × (path ≡ place.0)
          by-line path x dir (inl same) = (e, inl refl, own-path e.0 path e.1 one here h (ap (created_dir to) (sym same) ∙ dir))
          by-line path x dir (inr at) = later (rest.of path (in-filter_map (created_dir to) (with_lines (filter_map (created from to) es) base) x path at dir))

  pub are-first : AreFirst from to is first_dirs
  are-first = record {
    new = λ path at. (first-so path at).new;
    above_old = first-above;
    once = (dirs-once to is.to_tree.sorted (λ place at. at)).once;
    all = first-all;
  }

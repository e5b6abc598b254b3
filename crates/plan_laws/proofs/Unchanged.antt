-- Outs by the lines of a report, and trees between which a report has no line.
use Rattle.std.proofs.Common.{◌≡◌, ℕ, Bool, true, false, cond, Option, Some, None, is_some, List, [], ◌∷◌, ◌++◌, map, reverse, refl, ap, sym, ◌∙◌, append-nil, append_assoc}
use Rattle.std.specs.Prelude.{not, ◌==◌}
use Rattle.std.specs.List.{filter, filter_map, flat_map, cons_option}
use Rattle.std.specs.Option.{option_map}
use Rattle.std.proofs.lemmas.Bool.Decides.{Decides-eqb}
use Rattle.hs_types.specs.Names.{Names}
use Rattle.hs_plain.specs.declared.state.Node.{Node}
use Rattle.hs_plain.specs.declared.state.Body.{Body}
use Rattle.hs_plain.specs.Tree.{Tree, node_at, place_of}
use Rattle.hs_plain.proofs.ValidShapes.{none_some, same_some, true_false, by_same as either}
use Rattle.hs_plain.proofs.ValidPlaces.{by_place}
use Rattle.hs_plain.specs.Report.{same_place, has_id, id_above, line_of, line_if, lines_by, lines_from, created_in, created_by, created, place_above, line_before, with_line, with_lines, report}
use Rattle.hs_types.specs.declared.reply.LineKind.TheVariants.{Deleted, Renamed, Modified}
use Rattle.hs_types.specs.declared.reply.Line.{Line}
use Rattle.hs_plain.specs.Plan.{goes_by, goes, outs}
use Rattle.plan_laws.specs.Pair.{IsTree, IsPair, HasSameBytes}
use Rattle.plan_laws.specs.Translated.{is_out_line, line_path}
use Rattle.plan_laws.proofs.Paths.{by_one}
use Rattle.plan_laws.proofs.Places.{path_of_place, place_of-so, place_of-here, none-below, id_above-at}
use Rattle.plan_laws.proofs.Child.{moved_away, moved_here}

-- ---- outs are the lines that say so

filter-append : {X : Type 0} (test : X → Bool) (xs ys : List X) → filter test (xs ++ ys) ≡ filter test xs ++ filter test ys
filter-append test [] ys = refl
filter-append test (x ∷ xs) ys = elim (test x) as (λ b. cond b (x ∷ filter test (xs ++ ys)) (filter test (xs ++ ys)) ≡ cond b (x ∷ filter test xs) (filter test xs) ++ filter test ys) [
  | true ↦ ap (λ zs. x ∷ zs) (filter-append test xs ys)
  | false ↦ filter-append test xs ys
]

filter-with_line : (one : Line) (lines : List Line) → is_out_line one ≡ false → filter is_out_line (with_line one lines) ≡ filter is_out_line lines
filter-with_line one [] h = ap (λ b. cond b (one ∷ []) []) h
filter-with_line one (other ∷ lines) h = elim (line_before other one) as (λ b. filter is_out_line (cond b (other ∷ with_line one lines) (one ∷ other ∷ lines)) ≡ filter is_out_line (other ∷ lines)) [
  | true ↦ ap (λ rest. cond (is_out_line other) (other ∷ rest) rest) (filter-with_line one lines h)
  | false ↦ ap (λ b. cond b (one ∷ filter is_out_line (other ∷ lines)) (filter is_out_line (other ∷ lines))) h
]

map-append : (xs ys : List Line) → map line_path (xs ++ ys) ≡ map line_path xs ++ map line_path ys
map-append [] ys = refl
map-append (x ∷ xs) ys = ap (λ zs. x.path ∷ zs) (map-append xs ys)

module _ {B : Type 0} (from to : Tree B) where
  created-no-out : (e : Names × Node B) (one : Line) → created from to e ≡ Some one → is_out_line one ≡ false
  created-no-out e one h = by-old (place_of from e.1.id) h
    where
      by-above : (o : Option (Names × Node B)) → created_in e o ≡ Some one → is_out_line one ≡ false
      by-above None h = absurd (none_some h)
      by-above (Some dir) h = ap is_out_line (sym (same_some h))

      by-old : (o : Option (Names × Node B)) → created_by from to e o ≡ Some one → is_out_line one ≡ false
      by-old None h = by-above (place_above from (id_above to e.0)) h
      by-old (Some old) h = absurd (none_some h)

  no-created : (tree : Tree B) (lines : List Line) → filter is_out_line (with_lines (filter_map (created from to) tree) lines) ≡ filter is_out_line lines
  no-created [] lines = refl
  no-created (e ∷ es) lines = by-one (created from to e) refl (no-created es lines)
    where
      by-one : (o : Option Line) → created from to e ≡ o → filter is_out_line (with_lines (filter_map (created from to) es) lines) ≡ filter is_out_line lines → filter is_out_line (with_lines (cons_option o (filter_map (created from to) es)) lines) ≡ filter is_out_line lines
      by-one None h rest = rest
      by-one (Some one) h rest = filter-with_line one (with_lines (filter_map (created from to) es) lines) (created-no-out e one h) ∙ rest

  lines-out : (e : Names × Node B) → map line_path (filter is_out_line (lines_from from to e)) ≡ map path_of_place (cond (goes from to e) (e ∷ []) [])
  lines-out e = by-place (place_of to e.1.id)
    where
      modified-out : (b : Bool) → filter is_out_line (line_if b (line_of Modified e.0 None e.1) []) ≡ []
      modified-out true = refl
      modified-out false = refl

      deleted-out : (b : Bool) → map line_path (filter is_out_line (line_if b (line_of Deleted e.0 None e.1) [])) ≡ map path_of_place (cond b (e ∷ []) [])
      deleted-out true = refl
      deleted-out false = refl

      renamed-out : (b : Bool) (t : Names) (more : List Line) → filter is_out_line more ≡ [] → map line_path (filter is_out_line (line_if b (line_of Renamed e.0 (Some t) e.1) more)) ≡ map path_of_place (cond b (e ∷ []) [])
      renamed-out true t more h = ap (λ ls. e.0 ∷ map line_path ls) h
      renamed-out false t more h = ap (map line_path) h

      by-place : (o : Option (Names × Node B)) → map line_path (filter is_out_line (lines_by from to e o)) ≡ map path_of_place (cond (goes_by from to e.0 o) (e ∷ []) [])
      by-place None = deleted-out (has_id to (id_above from e.0))
      by-place (Some other) = renamed-out (not (same_place from to e.0 other.0)) other.0 (line_if (not (e.1.stamp == other.1.stamp)) (line_of Modified e.0 None e.1) []) (modified-out (not (e.1.stamp == other.1.stamp)))

  all-lines-out : (tree : Tree B) → map line_path (filter is_out_line (flat_map (lines_from from to) tree)) ≡ map path_of_place (filter (goes from to) tree)
  all-lines-out [] = refl
  all-lines-out (e ∷ es) =
      ap (map line_path) (filter-append is_out_line (lines_from from to e) (flat_map (lines_from from to) es))
      ∙ map-append (filter is_out_line (lines_from from to e)) (filter is_out_line (flat_map (lines_from from to) es))
      ∙ ap (λ xs. xs ++ map line_path (filter is_out_line (flat_map (lines_from from to) es))) (lines-out e)
      ∙ ap (λ ys. map path_of_place (cond (goes from to e) (e ∷ []) []) ++ ys) (all-lines-out es)
      ∙ elim (goes from to e) as (λ b. map path_of_place (cond b (e ∷ []) []) ++ map path_of_place (filter (goes from to) es) ≡ map path_of_place (cond b (e ∷ filter (goes from to) es) (filter (goes from to) es))) [ true ↦ refl | false ↦ refl ]

  -- the outs are the paths of the deleted and renamed lines, the last first
  pub outs-lines : outs from to ≡ reverse (map line_path (filter is_out_line (report from to)))
  outs-lines = ap reverse (sym (ap (map line_path) (no-created to (flat_map (lines_from from to) from)) ∙ all-lines-out from))

-- ---- no line

with_line-some : (one : Line) (lines : List Line) → with_line one lines ≡ [] → ⊥
with_line-some one [] h = cc
with_line-some one (other ∷ lines) h = (elim (line_before other one) as (λ b. cond b (other ∷ with_line one lines) (one ∷ other ∷ lines) ≡ [] → ⊥) [ true ↦ λ h. cons-some h | false ↦ λ h. cons-some h ]) h
  where
    cons-some : {x : Line} {xs : List Line} → x ∷ xs ≡ [] → ⊥
    cons-some h = cc

none-more : (more lines : List Line) → with_lines more lines ≡ [] → (more ≡ []) × (lines ≡ [])
none-more [] lines h = (refl, h)
none-more (one ∷ more) lines h = absurd (with_line-some one (with_lines more lines) h)

append-none : (xs ys : List Line) → xs ++ ys ≡ [] → (xs ≡ []) × (ys ≡ [])
append-none [] ys h = (refl, h)
append-none (x ∷ xs) ys h = absurd (no-cons h)
  where
    no-cons : {x : Line} {zs : List Line} → x ∷ zs ≡ [] → ⊥
    no-cons h = cc

line_if-none : (b : Bool) (one : Line) (more : List Line) → line_if b one more ≡ [] → (b ≡ false) × (more ≡ [])
line_if-none true one more h = absurd (no-cons h)
  where
    no-cons : {x : Line} {zs : List Line} → x ∷ zs ≡ [] → ⊥
    no-cons h = cc
line_if-none false one more h = (refl, h)

module _ {B : Type 0} where
  flat-none : (f : Names × Node B → List Line) (tree : Tree B) (q : Names) (m : Node B) → flat_map f tree ≡ [] → node_at tree q ≡ Some m → f (q, m) ≡ []
  flat-none f [] q m h at = absurd (none_some at)
  flat-none f (e ∷ es) q m h at = by_place e es q m at
      (λ qe me. (λ i. f (qe i, me i)) ∙ (append-none (f e) (flat_map f es) h).0)
      (λ bt. flat-none f es q m (append-none (f e) (flat_map f es) h).1 bt)

  filter_map-none : (f : Names × Node B → Option Line) (tree : Tree B) (q : Names) (m : Node B) → filter_map f tree ≡ [] → node_at tree q ≡ Some m → f (q, m) ≡ None
  filter_map-none f [] q m h at = absurd (none_some at)
  filter_map-none f (e ∷ es) q m h at = by_place e es q m at
      (λ qe me. (λ i. f (qe i, me i)) ∙ (cons-none (f e) (filter_map f es) h).0)
      (λ bt. filter_map-none f es q m (cons-none (f e) (filter_map f es) h).1 bt)
    where
      cons-none : (o : Option Line) (rest : List Line) → cons_option o rest ≡ [] → (o ≡ None) × (rest ≡ [])
      cons-none None rest h = (refl, h)
      cons-none (Some one) rest h = absurd (no-cons h)
        where
          no-cons : {x : Line} {zs : List Line} → x ∷ zs ≡ [] → ⊥
          no-cons h = cc

module _ {B : Type 0} (from to : Tree B) (is : IsPair from to) (bytes : HasSameBytes from to) (none : report from to ≡ []) where
  all-none : (filter_map (created from to) to ≡ []) × (flat_map (lines_from from to) from ≡ [])
  all-none = none-more (filter_map (created from to) to) (flat_map (lines_from from to) from) none

  not-not : (b : Bool) → not b ≡ false → b ≡ true
  not-not true h = refl
  not-not false h = absurd (true_false refl h)

  -- a node of the first tree whose parent is in the second is there in its place, unchanged
  same-there : (p : Names) (n : List ℕ) (a b x : Node B) → node_at from p ≡ Some a → node_at to p ≡ Some b → a.id.0 ≡ b.id.0 → node_at from (p ++ n ∷ []) ≡ Some x →
      (m : Node B) × (node_at to (p ++ n ∷ []) ≡ Some m) × (x.id.0 ≡ m.id.0)
  same-there p n a b x here there same at = by_one (place_of to x.id)
      (λ other h. let so : (node_at to other.0 ≡ Some other.1) × (other.1.id.0 ≡ x.id.0) = place_of-so to x.id other is.to_tree.sorted h in
      by_same (p ++ n ∷ []) other.0
      (λ e. (other.1, ap (node_at to) e ∙ so.0, sym so.1))
      (λ ne. absurd (true_false
      (not-not (same_place from to (p ++ n ∷ []) other.0) ((line_if-none (not (same_place from to (p ++ n ∷ []) other.0)) (line_of Renamed (p ++ n ∷ []) (Some other.0) x) (line_if (not (x.stamp == other.1.stamp)) (line_of Modified (p ++ n ∷ []) None x) [])
      (sym (ap (lines_by from to (p ++ n ∷ [], x)) h) ∙ flat-none (lines_from from to) from (p ++ n ∷ []) x all-none.1 at)).0))
      (moved_away from to is p p other.0 n a b x other.1 here there same at so.0 so.1 (λ e. ne (sym e))))))
      (λ lost. absurd (true_false
      (ap (has_id to) (id_above-at from p n a here) ∙ ap is_some (place_of-here to is.to_tree p b a.id there same))
      ((line_if-none (has_id to (id_above from (p ++ n ∷ []))) (line_of Deleted (p ++ n ∷ []) None x) []
      (sym (ap (lines_by from to (p ++ n ∷ [], x)) lost) ∙ flat-none (lines_from from to) from (p ++ n ∷ []) x all-none.1 at)).0)))
    where
      by_same : {P : Type 0} (p q : Names) → (p ≡ q → P) → ((p ≡ q → ⊥) → P) → P
      by_same p q same other = either p q same other

  -- and none is new
  none-new : (p : Names) (n : List ℕ) (a b m : Node B) → node_at from p ≡ Some a → node_at to p ≡ Some b → a.id.0 ≡ b.id.0 → node_at from (p ++ n ∷ []) ≡ None → node_at to (p ++ n ∷ []) ≡ Some m → ⊥
  none-new p n a b m here there same gone at = by_one (place_of from m.id)
      (λ old h. let so : (node_at from old.0 ≡ Some old.1) × (old.1.id.0 ≡ m.id.0) = place_of-so from m.id old is.from_tree.sorted h in
      true_false
      (not-not (same_place from to old.0 (p ++ n ∷ [])) ((line_if-none (not (same_place from to old.0 (p ++ n ∷ []))) (line_of Renamed old.0 (Some (p ++ n ∷ [])) old.1) (line_if (not (old.1.stamp == m.stamp)) (line_of Modified old.0 None old.1) [])
      (sym (ap (lines_by from to (old.0, old.1)) (place_of-here to is.to_tree (p ++ n ∷ []) m old.1.id at so.1)) ∙ flat-none (lines_from from to) from old.0 old.1 all-none.1 so.0)).0))
      (moved_here from to is p p old.0 n a b old.1 m here there same so.0 at so.1 (λ e. none_some (sym gone ∙ ap (node_at from) (sym e) ∙ so.0))))
      (λ new. none_some (sym (sym (ap (created_by from to (p ++ n ∷ [], m)) new
      ∙ ap (λ o. created_in (p ++ n ∷ [], m) (place_above from o)) (id_above-at to p n b there)
      ∙ ap (created_in (p ++ n ∷ [], m)) (place_of-here from is.from_tree p a b.id here (sym same)))
      ∙ filter_map-none (created from to) to (p ++ n ∷ []) m all-none.0 at)))

  same-below : (r p : Names) (a b : Node B) → node_at from p ≡ Some a → node_at to p ≡ Some b → a.id.0 ≡ b.id.0 → option_map (λ (x : Node B). x.body) (node_at from (p ++ r)) ≡ option_map (λ (x : Node B). x.body) (node_at to (p ++ r))
  same-below [] p a b here there same =
      ap (λ (q : Names). option_map (λ (x : Node B). x.body) (node_at from q)) (append-nil p) ∙ ap (option_map (λ (x : Node B). x.body)) here
      ∙ ap (λ x. Some x) (bytes p p a b here there same stamps)
      ∙ sym (ap (λ (q : Names). option_map (λ (x : Node B). x.body) (node_at to q)) (append-nil p) ∙ ap (option_map (λ (x : Node B). x.body)) there)
    where
      stamps : a.stamp ≡ b.stamp
      stamps = (Decides-eqb a.stamp b.stamp).0 (not-not (a.stamp == b.stamp) ((line_if-none (not (a.stamp == b.stamp)) (line_of Modified p None a) []
          ((line_if-none (not (same_place from to p p)) (line_of Renamed p (Some p) a) (line_if (not (a.stamp == b.stamp)) (line_of Modified p None a) [])
          (sym (ap (lines_by from to (p, a)) (place_of-here to is.to_tree p b a.id there same)) ∙ flat-none (lines_from from to) from p a all-none.1 here)).1)).0))
  same-below (n ∷ r) p a b here there same = next (same-below r (p ++ n ∷ []))
    where
      seen : Tree B → Names → Option (Body B)
      seen tree q = option_map (λ (x : Node B). x.body) (node_at tree q)

      none-all : (tree : Tree B) → IsTree tree → (r q : Names) → node_at tree q ≡ None → node_at tree (q ++ r) ≡ None
      none-all tree whole [] q gone = ap (node_at tree) (append-nil q) ∙ gone
      none-all tree whole (m ∷ r) q gone = ap (node_at tree) (sym (append_assoc q (m ∷ []) r)) ∙ none-all tree whole r (q ++ m ∷ []) (none-below tree whole q m gone)

      next : ((a b : Node B) → node_at from (p ++ n ∷ []) ≡ Some a → node_at to (p ++ n ∷ []) ≡ Some b → a.id.0 ≡ b.id.0 → option_map (λ (x : Node B). x.body) (node_at from ((p ++ n ∷ []) ++ r)) ≡ option_map (λ (x : Node B). x.body) (node_at to ((p ++ n ∷ []) ++ r))) →
          option_map (λ (x : Node B). x.body) (node_at from (p ++ n ∷ r)) ≡ option_map (λ (x : Node B). x.body) (node_at to (p ++ n ∷ r))
      next again =
          ap (λ (q : Names). option_map (λ (x : Node B). x.body) (node_at from q)) (sym (append_assoc p (n ∷ []) r))
          ∙ by_one (node_at from (p ++ n ∷ []))
          (λ x at. let m : (m : Node B) × (node_at to (p ++ n ∷ []) ≡ Some m) × (x.id.0 ≡ m.id.0) = same-there p n a b x here there same at in again x m.0 at m.1 m.2)
          (λ gone. by_one (node_at to (p ++ n ∷ []))
          (λ m at. absurd (none-new p n a b m here there same gone at))
          (λ lost. ap (option_map (λ (x : Node B). x.body)) (none-all from is.from_tree r (p ++ n ∷ []) gone) ∙ sym (ap (option_map (λ (x : Node B). x.body)) (none-all to is.to_tree r (p ++ n ∷ []) lost))))
          ∙ ap (λ (q : Names). option_map (λ (x : Node B). x.body) (node_at to q)) (append_assoc p (n ∷ []) r)

  -- where a report has no line, both trees hold the same
  pub unchanged : (q : Names) → option_map (λ (x : Node B). x.body) (node_at from q) ≡ option_map (λ (x : Node B). x.body) (node_at to q)
  unchanged q = same-below q [] is.from_root is.to_root is.from_at is.to_at is.same_root

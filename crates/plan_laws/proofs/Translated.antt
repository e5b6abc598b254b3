-- A path of the first tree is translated to the path of its node in the second.
use Rattle.std.proofs.Common.{◌≡◌, ℕ, suc, ◌+◌, ◌≤◌, ◌<◌, Bool, true, false, ◌||◌, bytes_eq, cond, Option, Some, None, is_some, List, [], ◌∷◌, ◌++◌, length, refl, ap, sym, subst, ◌∙◌, append-nil, append_assoc, arith, length-append}
use Rattle.std.specs.Prelude.{not, ◌&&◌, ◌==◌, nat_lt}
use Rattle.std.specs.List.{filter_map, flat_map, cons_option, AllByRecursion}
use Rattle.std.specs.FinMap.Entries.{is_sorted, below_all}
use Rattle.std.proofs.lemmas.Bool.{ltb-true, ltb-false}
use Rattle.std.proofs.lemmas.Bool.Decides.{Decides-eqb}
use Rattle.std.proofs.lemmas.Slice.Eq.{bytes_eq-Decides}
use Rattle.hs_types.specs.Names.{Names}
use Rattle.hs_plain.specs.declared.state.Node.{Node}
use Rattle.hs_plain.specs.Tree.{Tree, path_cmp, node_at, is_dir, same_inode, place_of, same_path}
use Rattle.hs_plain.proofs.ValidTrees.{first, second}
use Rattle.hs_plain.proofs.ValidShapes.{none_some, same_some, true_false, by_last, not_last}
use Rattle.hs_plain.proofs.ValidPlaces.{head_at, in_tail, by_place, one_place}
use Rattle.hs_plain.specs.Plan.{rest_below, is_renamed, Lead, lead_of, lead_by, longer, longest, led, translate}
use Rattle.hs_plain.specs.Report.{same_place, line_of, line_if, lines_by, lines_from, created_in, created_by, created, place_above, id_above, line_before, with_line, with_lines, report, has_id}
use Rattle.hs_types.specs.declared.reply.LineKind.{LineKind}
use Rattle.hs_types.specs.declared.reply.LineKind.TheVariants.{Deleted, Renamed, Modified, Created}
use Rattle.hs_types.specs.declared.reply.Line.{Line}
use Rattle.plan_laws.specs.Pair.{IsPair}
use Rattle.plan_laws.specs.Translated.{is_renaming, is_source}
use Rattle.plan_laws.proofs.Paths.{by, by_one, rest-here, rest-so}
use Rattle.plan_laws.proofs.Lists.{same-so, same-here, each-append}
use Rattle.plan_laws.proofs.Places.{place_of-so, place_of-missing, dir-above, same_place-at}
use Rattle.plan_laws.proofs.Child.{or_split}

-- ---- the longest source

-- a source that fits is no longer than the longest
module _ (path : Names) where
  longer-left : (a b : Option (Lead)) (n : ℕ) → ((f : Lead) → a ≡ Some f → n ≤ length f.source) → is_some a ≡ true → (f : Lead) × (longer a b ≡ Some f) × (n ≤ length f.source)
  longer-left None b n h one = absurd (true_false one refl)
  longer-left (Some a) None n h one = (a, refl, h a refl)
  longer-left (Some a) (Some b) n h one = by (nat_lt (length a.source) (length b.source))
      (λ t. (b, ap (λ c. cond c (Some b) (Some a)) t, (let g : n ≤ length a.source = h a refl in let l : length a.source < length b.source = ltb-true (length a.source) (length b.source) t in omega arith)))
      (λ f. (a, ap (λ c. cond c (Some b) (Some a)) f, h a refl))

  longer-right : (a b : Option (Lead)) (n : ℕ) (g : Lead) → b ≡ Some g → n ≤ length g.source → (f : Lead) × (longer a b ≡ Some f) × (n ≤ length f.source)
  longer-right None b n g e h = (g, e, h)
  longer-right (Some a) None n g e h = absurd (none_some e)
  longer-right (Some a) (Some b) n g e h = by (nat_lt (length a.source) (length b.source))
      (λ t. (b, ap (λ c. cond c (Some b) (Some a)) t, subst (λ (x : Lead). n ≤ length x.source) (sym (same_some e)) h))
      (λ f. (a, ap (λ c. cond c (Some b) (Some a)) f, (let k : n ≤ length b.source = subst (λ (x : Lead). n ≤ length x.source) (sym (same_some e)) h in let l : length b.source ≤ length a.source = ltb-false (length a.source) (length b.source) f in omega arith)))

  source-there : (one : Line) (s r : Names) → rest_below s path ≡ Some r → (is_renaming one.kind one.to && same_path one.path s) ≡ true → (f : Lead) × (lead_by one path ≡ Some f) × (f.source ≡ s)
  source-there one s r below h = by-kind one.kind one.to (first (is_renaming one.kind one.to) (same_path one.path s) h)
    where
      same : s ≡ one.path
      same = same-so one.path s (second (is_renaming one.kind one.to) (same_path one.path s) h)

      here : rest_below one.path path ≡ Some r
      here = ap (λ (x : Names). rest_below x path) (sym same) ∙ below

      by-kind : (k : LineKind) (o : Option Names) → is_renaming k o ≡ true → (f : Lead) × (cond (is_renamed k) (lead_of one.path o (rest_below one.path path)) None ≡ Some f) × (f.source ≡ s)
      by-kind Renamed (Some to) h = (record { source = one.path; target = to; rest = r }, ap (lead_of one.path (Some to)) here, sym same)
      by-kind Renamed None h = absurd (true_false h refl)
      by-kind Deleted o h = absurd (true_false h refl)
      by-kind Modified o h = absurd (true_false h refl)
      by-kind Created o h = absurd (true_false h refl)

  pub longest-there : (lines : List Line) (s r : Names) → rest_below s path ≡ Some r → is_source lines s ≡ true → (f : Lead) × (longest lines path ≡ Some f) × (length s ≤ length f.source)
  longest-there [] s r below h = absurd (true_false h refl)
  longest-there (one ∷ lines) s r below h = or_split (is_renaming one.kind one.to && same_path one.path s) (is_source lines s) h
      (λ t. let there : (f : Lead) × (lead_by one path ≡ Some f) × (f.source ≡ s) = source-there one s r below t in
      longer-left (lead_by one path) (longest lines path) (length s)
      (λ f e. subst (λ (x : Lead). length s ≤ length x.source) (same_some (sym there.1 ∙ e)) (let e : length there.0.source ≡ length s = ap length there.2 in omega arith))
      (ap is_some there.1))
      (λ t. let next : (f : Lead) × (longest lines path ≡ Some f) × (length s ≤ length f.source) = longest-there lines s r below t in
      longer-right (lead_by one path) (longest lines path) (length s) next.0 next.1 next.2)

  -- the longest is a line's, with what is left of the path
  abbrev pub IsLine : (Names → Names → Type 0) → Lead → Type 0
  IsLine P f = P f.source f.target × (rest_below f.source path ≡ Some f.rest)

  abbrev pub Renames : (Names → Names → Type 0) → Line → Type 0
  Renames P one = (to : Names) → one.kind ≡ Renamed → one.to ≡ Some to → P one.path to

  source-is : (P : Names → Names → Type 0) (one : Line) → Renames P one → (f : Lead) → lead_by one path ≡ Some f → IsLine P f
  source-is P one h f e = by-kind one.kind one.to (rest_below one.path path) refl refl refl e
    where
      by-kind : (k : LineKind) (o u : Option Names) → one.kind ≡ k → one.to ≡ o → rest_below one.path path ≡ u → cond (is_renamed k) (lead_of one.path o u) None ≡ Some f → IsLine P f
      by-kind Renamed (Some to) (Some r) kind_is to_is rest_is e = subst (IsLine P) (same_some e) (h to kind_is to_is, rest_is)
      by-kind Renamed (Some to) None kind_is to_is rest_is e = absurd (none_some e)
      by-kind Renamed None u kind_is to_is rest_is e = absurd (none_some e)
      by-kind Deleted o u kind_is to_is rest_is e = absurd (none_some e)
      by-kind Modified o u kind_is to_is rest_is e = absurd (none_some e)
      by-kind Created o u kind_is to_is rest_is e = absurd (none_some e)

  longer-is : (Q : Lead → Type 0) (a b : Option (Lead)) → ((f : Lead) → a ≡ Some f → Q f) → ((f : Lead) → b ≡ Some f → Q f) → (f : Lead) → longer a b ≡ Some f → Q f
  longer-is Q None b left right f e = right f e
  longer-is Q (Some a) None left right f e = left f e
  longer-is Q (Some a) (Some b) left right f e = by (nat_lt (length a.source) (length b.source))
      (λ t. right f (sym (ap (λ c. cond c (Some b) (Some a)) t) ∙ e))
      (λ t. left f (sym (ap (λ c. cond c (Some b) (Some a)) t) ∙ e))

  pub longest-is : (P : Names → Names → Type 0) (lines : List Line) → AllByRecursion (Renames P) lines → (f : Lead) → longest lines path ≡ Some f → IsLine P f
  longest-is P [] h f e = absurd (none_some e)
  longest-is P (one ∷ lines) h f e = longer-is (IsLine P) (lead_by one path) (longest lines path) (source-is P one h.0) (longest-is P lines h.1) f e

-- ---- the lines of a report

each-with_line : (P : Line → Type 0) (one : Line) (lines : List Line) → P one → AllByRecursion P lines → AllByRecursion P (with_line one lines)
each-with_line P one [] h k = (h, tt)
each-with_line P one (other ∷ lines) h k = elim (line_before other one) as (λ b. AllByRecursion P (cond b (other ∷ with_line one lines) (one ∷ other ∷ lines))) [
  | true ↦ (k.0, each-with_line P one lines h k.1)
  | false ↦ (h, k)
]

pub each-with_lines : (P : Line → Type 0) (more lines : List Line) → AllByRecursion P more → AllByRecursion P lines → AllByRecursion P (with_lines more lines)
each-with_lines P [] lines h k = k
each-with_lines P (one ∷ more) lines h k = each-with_line P one (with_lines more lines) h.0 (each-with_lines P more lines h.1 k)

source-with_line : (one : Line) (lines : List Line) (s : Names) → is_source lines s ≡ true → is_source (with_line one lines) s ≡ true
source-with_line one [] s h = absurd (true_false h refl)
source-with_line one (other ∷ lines) s h = elim (line_before other one) as (λ b. is_source (cond b (other ∷ with_line one lines) (one ∷ other ∷ lines)) s ≡ true) [
  | true ↦ or_split (is_renaming other.kind other.to && same_path other.path s) (is_source lines s) h
      (λ t. ap (λ b. b || is_source (with_line one lines) s) t)
      (λ t. or_second (is_renaming other.kind other.to && same_path other.path s) (is_source (with_line one lines) s) (source-with_line one lines s t))
  | false ↦ or_second (is_renaming one.kind one.to && same_path one.path s) (is_source (other ∷ lines) s) h
]
  where
    or_second : (a b : Bool) → b ≡ true → (a || b) ≡ true
    or_second true b h = refl
    or_second false b h = h

source-with_lines : (more lines : List Line) (s : Names) → is_source lines s ≡ true → is_source (with_lines more lines) s ≡ true
source-with_lines [] lines s h = h
source-with_lines (one ∷ more) lines s h = source-with_line one (with_lines more lines) s (source-with_lines more lines s h)

or_second : (a b : Bool) → b ≡ true → (a || b) ≡ true
or_second true b h = refl
or_second false b h = h

source-append-left : (xs ys : List Line) (s : Names) → is_source xs s ≡ true → is_source (xs ++ ys) s ≡ true
source-append-left [] ys s h = absurd (true_false h refl)
source-append-left (x ∷ xs) ys s h = or_split (is_renaming x.kind x.to && same_path x.path s) (is_source xs s) h
    (λ t. ap (λ b. b || is_source (xs ++ ys) s) t)
    (λ t. or_second (is_renaming x.kind x.to && same_path x.path s) (is_source (xs ++ ys) s) (source-append-left xs ys s t))

source-append-right : (xs ys : List Line) (s : Names) → is_source ys s ≡ true → is_source (xs ++ ys) s ≡ true
source-append-right [] ys s h = h
source-append-right (x ∷ xs) ys s h = or_second (is_renaming x.kind x.to && same_path x.path s) (is_source (xs ++ ys) s) (source-append-right xs ys s h)

module _ {B : Type 0} where
  pub each-flat : (P : Line → Type 0) (f : Names × Node B → List Line) (tree : Tree B) → is_sorted path_cmp tree ≡ true → ((q : Names) (m : Node B) → node_at tree q ≡ Some m → AllByRecursion P (f (q, m))) → AllByRecursion P (flat_map f tree)
  each-flat P f [] h all = tt
  each-flat P f (e ∷ es) h all = each-append P (f e) (flat_map f es) (all e.0 e.1 (head_at e es)) (each-flat P f es (second (below_all path_cmp e.0 es) _ h) (λ q m at. all q m (in_tail e es q m (first (below_all path_cmp e.0 es) _ h) at)))

  source-flat : (f : Names × Node B → List Line) (tree : Tree B) (q s : Names) (m : Node B) → node_at tree q ≡ Some m → is_source (f (q, m)) s ≡ true → is_source (flat_map f tree) s ≡ true
  source-flat f [] q s m at h = absurd (none_some at)
  source-flat f (e ∷ es) q s m at h = by_place e es q m at
      (λ qe me. source-append-left (f e) (flat_map f es) s (ap (λ (x : List Line). is_source x s) (sym (λ i. f (qe i, me i))) ∙ h))
      (λ bt. source-append-right (f e) (flat_map f es) s (source-flat f es q s m bt h))

module _ {B : Type 0} (from to : Tree B) (is : IsPair from to) where
  -- a renaming leads from a place of a node to its place in the second tree
  abbrev Leads : Names → Names → Type 0
  Leads s t = (a : Node B) × (b : Node B) × (node_at from s ≡ Some a) × (node_at to t ≡ Some b) × (a.id.0 ≡ b.id.0)

  abbrev IsMove : Line → Type 0
  IsMove one = (t : Names) → one.kind ≡ Renamed → one.to ≡ Some t → Leads one.path t

  deleted : LineKind → Type 0
  deleted k = Deleted ≡ k

  is_deleted : Deleted ≡ Renamed → ⊥
  is_deleted e = cc

  is_modified : Modified ≡ Renamed → ⊥
  is_modified e = cc

  is_created : Created ≡ Renamed → ⊥
  is_created e = cc

  each-if : (P : Line → Type 0) (b : Bool) (one : Line) (more : List Line) → P one → AllByRecursion P more → AllByRecursion P (line_if b one more)
  each-if P true one more h k = (h, k)
  each-if P false one more h k = k

  lines-move : (q : Names) (m : Node B) → node_at from q ≡ Some m → AllByRecursion IsMove (lines_from from to (q, m))
  lines-move q m at = by_one (place_of to m.id)
      (λ other h. subst (λ o. AllByRecursion IsMove (lines_by from to (q, m) o)) (sym h)
      (let so : (node_at to other.0 ≡ Some other.1) × (other.1.id.0 ≡ m.id.0) = place_of-so to m.id other is.to_tree.sorted h in
      each-if IsMove (not (same_place from to q other.0)) (line_of Renamed q (Some other.0) m) (line_if (not (m.stamp == other.1.stamp)) (line_of Modified q None m) [])
      (λ t _ e. subst (Leads q) (same_some e) (m, other.1, at, so.0, sym so.1))
      (each-if IsMove (not (m.stamp == other.1.stamp)) (line_of Modified q None m) [] (λ t k _. absurd (is_modified k)) tt)))
      (λ none. subst (λ o. AllByRecursion IsMove (lines_by from to (q, m) o)) (sym none) (each-if IsMove (has_id to (id_above from q)) (line_of Deleted q None m) [] (λ t k _. absurd (is_deleted k)) tt))

  created-move : (tree : Tree B) → AllByRecursion IsMove (filter_map (created from to) tree)
  created-move [] = tt
  created-move (e ∷ es) = each-cons (created-move es) (created from to e) (created-none (place_of from e.1.id))
    where
      each-cons : AllByRecursion IsMove (filter_map (created from to) es) → (o : Option Line) → ((one : Line) → o ≡ Some one → IsMove one) → AllByRecursion IsMove (cons_option o (filter_map (created from to) es))
      each-cons rest None h = rest
      each-cons rest (Some one) h = (h one refl, rest)

      above-none : (o : Option (Names × Node B)) (one : Line) → created_in e o ≡ Some one → IsMove one
      above-none None one h = absurd (none_some h)
      above-none (Some dir) one h = λ t k _. absurd (is_created (ap (λ (x : Line). x.kind) (same_some h) ∙ k))

      created-none : (o : Option (Names × Node B)) (one : Line) → created_by from to e o ≡ Some one → IsMove one
      created-none None one h = above-none (place_above from (id_above to e.0)) one h
      created-none (Some old) one h = absurd (none_some h)

  report-moves : AllByRecursion IsMove (report from to)
  report-moves = each-with_lines IsMove (filter_map (created from to) to) (flat_map (lines_from from to) from) (created-move to) (each-flat IsMove (lines_from from to) from is.from_tree.sorted lines-move)

  -- a node in another place is a source
  moved-source : (q : Names) (m : Node B) (other : Names × Node B) → node_at from q ≡ Some m → place_of to m.id ≡ Some other → same_place from to q other.0 ≡ false → is_source (report from to) q ≡ true
  moved-source q m other at h moved = source-with_lines (filter_map (created from to) to) (flat_map (lines_from from to) from) q
      (source-flat (lines_from from to) from q q m at
      (ap (λ o. is_source (lines_by from to (q, m) o) q) h
      ∙ ap (λ b. is_source (line_if (not b) (line_of Renamed q (Some other.0) m) (line_if (not (m.stamp == other.1.stamp)) (line_of Modified q None m) [])) q) moved
      ∙ ap (λ b. b || is_source (line_if (not (m.stamp == other.1.stamp)) (line_of Modified q None m) []) q) (same-here q)))

  -- ---- down from a source

  up : (r p : Names) (x : Node B) → node_at from (p ++ r) ≡ Some x → (y : Node B) × (node_at from p ≡ Some y)
  up [] p x at = (x, ap (node_at from) (sym (append-nil p)) ∙ at)
  up (n ∷ r) p x at = let one : (y : Node B) × (node_at from (p ++ n ∷ []) ≡ Some y) = up r (p ++ n ∷ []) x (ap (node_at from) (append_assoc p (n ∷ []) r) ∙ at) in
      let d : (dir : Node B) × (node_at from p ≡ Some dir) × (is_dir dir ≡ true) = dir-above from is.from_tree p n one.0 one.1 in (d.0, d.1)

  abbrev NoSource : Names → Names → Type 0
  NoSource p r = (n : List ℕ) (y z : Names) → r ≡ (n ∷ y) ++ z → is_source (report from to) (p ++ n ∷ y) ≡ false

  none-further : (p : Names) (n : List ℕ) (r : Names) → NoSource p (n ∷ r) → NoSource (p ++ n ∷ []) r
  none-further p n r none m y z e = ap (is_source (report from to)) (append_assoc p (n ∷ []) (m ∷ y)) ∙ none n (m ∷ y) z (ap (λ (x : Names). n ∷ x) e)

  -- a node that stays below a parent
  stays-below : (p q : Names) (n : List ℕ) (a c m : Node B) → node_at from p ≡ Some a → node_at to q ≡ Some m → same_place from to (p ++ n ∷ []) q ≡ true → node_at from (p ++ n ∷ []) ≡ Some c → m.id.0 ≡ c.id.0 →
      (t : Names) × (b : Node B) × (node_at to t ≡ Some b) × (a.id.0 ≡ b.id.0) × (q ≡ t ++ n ∷ [])
  stays-below p q n a c m here at same c_at id = by_last
      (λ q. node_at to q ≡ Some m → same_place from to (p ++ n ∷ []) q ≡ true → (t : Names) × (b : Node B) × (node_at to t ≡ Some b) × (a.id.0 ≡ b.id.0) × (q ≡ t ++ n ∷ []))
      q
      (λ at same. absurd (not_last p n (sym (one_place from is.from_tree.each_once [] (p ++ n ∷ []) is.from_root c is.from_at c_at (is.same_root ∙ ap (λ (k : Node B). k.id.0) (same_some (sym is.to_at ∙ at)) ∙ id)))))
      (λ t name at same. let d : (dir : Node B) × (node_at to t ≡ Some dir) × (is_dir dir ≡ true) = dir-above to is.to_tree t name m at in
      let so : (same_inode a.id d.0.id && bytes_eq n name) ≡ true = sym (same_place-at from to p t n name a d.0 here d.1) ∙ same in
      (t, d.0, d.1, (Decides-eqb a.id.0 d.0.id.0).0 (first (same_inode a.id d.0.id) (bytes_eq n name) so), λ i. t ++ sym ((bytes_eq-Decides n name).0 (second (same_inode a.id d.0.id) (bytes_eq n name) so)) i ∷ []))
      at same

  below-gone : (r p : Names) (c x : Node B) → node_at from p ≡ Some c → place_of to c.id ≡ None → node_at from (p ++ r) ≡ Some x → NoSource p r → place_of to x.id ≡ None
  below-gone [] p c x here gone at none = ap (λ (n : Node B). place_of to n.id) (same_some (sym at ∙ ap (node_at from) (append-nil p) ∙ here)) ∙ gone
  below-gone (n ∷ r) p c x here gone at none =
      let at2 : node_at from ((p ++ n ∷ []) ++ r) ≡ Some x = ap (node_at from) (append_assoc p (n ∷ []) r) ∙ at in
      let d : (y : Node B) × (node_at from (p ++ n ∷ []) ≡ Some y) = up r (p ++ n ∷ []) x at2 in
      next (below-gone r (p ++ n ∷ [])) at2 d.0 d.1
    where
      next : ((c x : Node B) → node_at from (p ++ n ∷ []) ≡ Some c → place_of to c.id ≡ None → node_at from ((p ++ n ∷ []) ++ r) ≡ Some x → NoSource (p ++ n ∷ []) r → place_of to x.id ≡ None) →
          node_at from ((p ++ n ∷ []) ++ r) ≡ Some x → (d : Node B) → node_at from (p ++ n ∷ []) ≡ Some d → place_of to x.id ≡ None
      next again at2 d d_at = by_one (place_of to d.id)
          (λ place h. let so : (node_at to place.0 ≡ Some place.1) × (place.1.id.0 ≡ d.id.0) = place_of-so to d.id place is.to_tree.sorted h in by (same_place from to (p ++ n ∷ []) place.0)
          (λ same. let t : (t : Names) × (b : Node B) × (node_at to t ≡ Some b) × (c.id.0 ≡ b.id.0) × (place.0 ≡ t ++ n ∷ []) = stays-below p place.0 n c d place.1 here so.0 same d_at so.1 in
          absurd (place_of-missing to c.id t.0 t.1 gone t.2 (sym t.3)))
          (λ moved. absurd (true_false (moved-source (p ++ n ∷ []) d place d_at h moved) (none n [] r refl))))
          (λ lost. again d x d_at lost at2 (none-further p n r none))

  down : (r p t q : Names) (a b x m : Node B) → node_at from p ≡ Some a → node_at to t ≡ Some b → a.id.0 ≡ b.id.0 → node_at from (p ++ r) ≡ Some x → node_at to q ≡ Some m → x.id.0 ≡ m.id.0 → NoSource p r → t ++ r ≡ q
  down [] p t q a b x m here there alike at q_at same none =
      append-nil t ∙ one_place to is.to_tree.each_once t q b m there q_at (sym alike ∙ ap (λ (n : Node B). n.id.0) (same_some (sym here ∙ ap (node_at from) (sym (append-nil p)) ∙ at)) ∙ same)
  down (n ∷ r) p t q a b x m here there alike at q_at same none =
      let at2 : node_at from ((p ++ n ∷ []) ++ r) ≡ Some x = ap (node_at from) (append_assoc p (n ∷ []) r) ∙ at in
      let d : (y : Node B) × (node_at from (p ++ n ∷ []) ≡ Some y) = up r (p ++ n ∷ []) x at2 in
      next (down r (p ++ n ∷ []) (t ++ n ∷ []) q) at2 d.0 d.1
    where
      next : ((a b x m : Node B) → node_at from (p ++ n ∷ []) ≡ Some a → node_at to (t ++ n ∷ []) ≡ Some b → a.id.0 ≡ b.id.0 → node_at from ((p ++ n ∷ []) ++ r) ≡ Some x → node_at to q ≡ Some m → x.id.0 ≡ m.id.0 → NoSource (p ++ n ∷ []) r → (t ++ n ∷ []) ++ r ≡ q) →
          node_at from ((p ++ n ∷ []) ++ r) ≡ Some x → (d : Node B) → node_at from (p ++ n ∷ []) ≡ Some d → t ++ n ∷ r ≡ q
      next again at2 d d_at = by_one (place_of to d.id)
          (λ place h. let so : (node_at to place.0 ≡ Some place.1) × (place.1.id.0 ≡ d.id.0) = place_of-so to d.id place is.to_tree.sorted h in by (same_place from to (p ++ n ∷ []) place.0)
          (λ stays. let u : (t : Names) × (b : Node B) × (node_at to t ≡ Some b) × (a.id.0 ≡ b.id.0) × (place.0 ≡ t ++ n ∷ []) = stays-below p place.0 n a d place.1 here so.0 stays d_at so.1 in
          let one : u.0 ≡ t = one_place to is.to_tree.each_once u.0 t u.1 b u.2 there (sym u.3 ∙ alike) in
          sym (append_assoc t (n ∷ []) r)
          ∙ again d place.1 x m d_at (ap (λ (y : Names). node_at to (y ++ n ∷ [])) (sym one) ∙ ap (node_at to) (sym u.4) ∙ so.0) (sym so.1) at2 q_at same (none-further p n r none))
          (λ moved. absurd (true_false (moved-source (p ++ n ∷ []) d place d_at h moved) (none n [] r refl))))
          (λ lost. absurd (place_of-missing to x.id q m (below-gone r (p ++ n ∷ []) d x d_at lost at2 (none-further p n r none)) q_at (sym same)))

  -- a path of a node that both trees have is translated to its path in the second
  pub translated : (p q : Names) (x m : Node B) → node_at from p ≡ Some x → node_at to q ≡ Some m → x.id.0 ≡ m.id.0 → translate (report from to) p ≡ q
  translated p q x m at q_at same = by_one (longest (report from to) p)
      (λ f h. let line_is : Leads f.source f.target × (rest_below f.source p ≡ Some f.rest) = longest-is p Leads (report from to) report-moves f h in
      let cut : p ≡ f.source ++ f.rest = rest-so f.source p f.rest line_is.1 in
      ap (λ o. led p o) h
      ∙ down f.rest f.source f.target q line_is.0.0 line_is.0.1 x m line_is.0.2 line_is.0.3 line_is.0.4 (ap (node_at from) (sym cut) ∙ at) q_at same
      (λ n y z e. no-longer f h n y z (cut ∙ ap (λ (r : Names). f.source ++ r) e)))
      (λ none. ap (λ o. led p o) none
      ∙ down p [] [] q is.from_root is.to_root x m is.from_at is.to_at is.same_root at q_at same
      (λ n y z e. by (is_source (report from to) (n ∷ y))
      (λ t. let there : (f : Lead) × (longest (report from to) p ≡ Some f) × (length (n ∷ y) ≤ length f.source) = longest-there p (report from to) (n ∷ y) z (ap (rest_below (n ∷ y)) e ∙ rest-here (n ∷ y) z) t in
      absurd (none_some (sym none ∙ there.1)))
      (λ f. f)))
    where
      no-longer : (f : Lead) → longest (report from to) p ≡ Some f → (n : List ℕ) (y z : Names) → p ≡ f.source ++ ((n ∷ y) ++ z) → is_source (report from to) (f.source ++ n ∷ y) ≡ false
      no-longer f h n y z e = by (is_source (report from to) (f.source ++ n ∷ y))
          (λ t. let there : (g : Lead) × (longest (report from to) p ≡ Some g) × (length (f.source ++ n ∷ y) ≤ length g.source) =
          longest-there p (report from to) (f.source ++ n ∷ y) z (ap (rest_below (f.source ++ n ∷ y)) (e ∙ sym (append_assoc f.source (n ∷ y) z)) ∙ rest-here (f.source ++ n ∷ y) z) t in
          let same_one : g_is there.0 ≡ g_is f = ap g_is (same_some (sym there.1 ∙ h)) in
          absurd (too-long f.source n y (length there.0.source) there.2 same_one))
          (λ g. g)
        where
          g_is : Lead → ℕ
          g_is g = length g.source

          too-long : (s : Names) (n : List ℕ) (y : Names) (k : ℕ) → length (s ++ n ∷ y) ≤ k → k ≡ length s → ⊥
          too-long s n y k le e = let l : length (s ++ n ∷ y) ≡ length s + length (n ∷ y) = length-append s (n ∷ y) in more (length s) (length y) k (subst (λ j. j ≤ k) l le) e
            where
              more : (a b k : ℕ) → a + suc b ≤ k → k ≡ a → ⊥
              more a b k le e = omega arith

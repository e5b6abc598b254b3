-- The calls of a plan are those of its steps, and a merging of its copies by lists is one by paths.
use Rattle.std.proofs.Common.{◌≡◌, ℕ, zero, suc, ◌+◌, ◌<◌, ◌≤◌, ◌^◌, Bool, true, false, ◌||◌, cond, Option, Some, None, List, [], ◌∷◌, ◌++◌, map, length, refl, ap, sym, subst, ◌∙◌, append-nil, append_assoc, arith}
use Rattle.std.specs.Prelude.{not, ◌&&◌, slice_get}
use Rattle.std.specs.List.{filter, filter_map, cons_option, AllByRecursion}
use Rattle.std.specs.Option.{unwrap_or, option_map}
use Rattle.std.specs.FinMap.Entries.{is_sorted, below_all}
use Rattle.std.proofs.lemmas.Option.{slice_get-map}
use Rattle.hs_types.specs.Names.{Names}
use Rattle.hs_types.specs.declared.call.Call.{Call}
use Rattle.hs_types.specs.declared.call.Call.TheVariants as calls
use Rattle.hs_plain.specs.declared.plan.Plan.{Plan}
use Rattle.hs_plain.specs.declared.plan.Put.TheVariants as plan_puts
use Rattle.hs_plain.specs.declared.plan.CopyJob.{CopyJob}
use Rattle.hs_plain.specs.declared.state.Node.{Node}
use Rattle.hs_plain.specs.declared.state.Body.{Body}
use Rattle.hs_plain.specs.declared.state.Body.TheVariants.{File, Dir}
use Rattle.hs_plain.specs.Tree.{Tree, path_cmp, node_at, is_dir, is_dir_body, same_path, parent_of, place_of}
use Rattle.hs_plain.specs.Report.{last_of, same_place}
use Rattle.hs_plain.specs.Plan.{rest_below, outs, index_of, put_by, put_at, puts, is_other, is_copied, copies, text_below, out_place, out_calls, put_call, move_calls, pages_of, copy_calls as copy_texts, bytes_of_body, bytes_there, all_copy_calls, last_call, IsMerging as AreMerged}
use Rattle.hs_plain.proofs.ValidTrees.{first, second}
use Rattle.hs_plain.proofs.ValidShapes.{none_some, same_some, true_false, by_last, parent_of-last}
use Rattle.hs_plain.proofs.ValidPlaces.{head_at, in_tail}
use Rattle.plan_laws.specs.Sight.{Placing, Back, New, is_in, Rises}
use Rattle.plan_laws.specs.Placings.{placing_by, placing_at, placings, as_put}
use Rattle.plan_laws.specs.Pair.{IsPair}
use Rattle.plan_laws.specs.Copies.{CopyCall, path_of_call, is_at, joined, appends, copy_calls, IsMerging}
use Rattle.plan_laws.specs.Steps.{Fill, Drop, out_steps, put_step, plan_steps, copy_call, step_call}
use Rattle.plan_laws.specs.inside.Numbers.{number}
use Rattle.plan_laws.proofs.Paths.{by, by_one, rest-here}
use Rattle.plan_laws.proofs.Places.{path_of_place, last_of-last, place_of-here, not_root}
use Rattle.plan_laws.proofs.Lists.{same-so, same-here}
use Rattle.plan_laws.proofs.Child.{one_child, or_second, or_split, in-filter, from-filter}
use Rattle.plan_laws.proofs.Moves.{rises-filter}
use Rattle.plan_laws.proofs.Numbers.{number-low}
use Rattle.plan_laws.proofs.Merged.{IsMapped, mapped, AreAt, all-at, at-number, at-none, joined-pages}

-- ---- elements by their places in a list

slice-all : (P : Names → Type 0) (xs : List Names) (n : ℕ) (p : Names) → AllByRecursion P xs → slice_get xs n ≡ Some p → P p
slice-all P [] n p all h = absurd (none_some h)
slice-all P (x ∷ xs) zero p all h = subst P (same_some h) all.0
slice-all P (x ∷ xs) (suc n) p all h = slice-all P xs n p all.1 h

slice-in : (xs : List Names) (n : ℕ) (p : Names) → slice_get xs n ≡ Some p → is_in xs p ≡ true
slice-in [] n p h = absurd (none_some h)
slice-in (x ∷ xs) zero p h = ap (λ b. b || is_in xs p) (ap (same_path x) (sym (same_some h)) ∙ same-here x)
slice-in (x ∷ xs) (suc n) p h = or_second (same_path x p) (is_in xs p) (slice-in xs n p h)

in-slice : (xs : List Names) (p : Names) → is_in xs p ≡ true → (n : ℕ) × (slice_get xs n ≡ Some p)
in-slice [] p h = absurd (true_false h refl)
in-slice (x ∷ xs) p h = or_split (same_path x p) (is_in xs p) h
    (λ t. (0, ap (λ (y : Names). Some y) (sym (same-so x p t))))
    (λ t. let next : (n : ℕ) × (slice_get xs n ≡ Some p) = in-slice xs p t in (suc next.0, next.1))

not-later : (x p : Names) → x ≡ p → rest_below p x ≡ None → ⊥
not-later x p same none = none_some (sym none ∙ ap (rest_below p) (same ∙ sym (append-nil p)) ∙ rest-here p [])

rising-once : (xs : List Names) → Rises xs → (m n : ℕ) (p : Names) → slice_get xs m ≡ Some p → slice_get xs n ≡ Some p → m ≡ n
rising-once [] rises m n p h k = absurd (none_some h)
rising-once (x ∷ xs) rises zero zero p h k = refl
rising-once (x ∷ xs) rises zero (suc n) p h k = absurd (not-later x p (same_some h) (slice-all (λ later. rest_below later x ≡ None) xs n p rises.0 k))
rising-once (x ∷ xs) rises (suc m) zero p h k = absurd (not-later x p (same_some k) (slice-all (λ later. rest_below later x ≡ None) xs m p rises.0 h))
rising-once (x ∷ xs) rises (suc m) (suc n) p h k = ap suc (rising-once xs rises.1 m n p h k)

pub index-low : (paths : List Names) (p : Names) → is_in paths p ≡ true → index_of paths p < length paths
index-low [] p h = absurd (true_false h refl)
index-low (a ∷ others) p h = by (same_path a p)
    (λ t. subst (λ n. n < suc (length others)) (sym (ap (λ b. cond b 0 (index_of others p + 1)) t)) (omega arith))
    (λ f. let next : index_of others p < length others = index-low others p (ap (λ b. b || is_in others p) (sym f) ∙ h) in
    subst (λ n. n < suc (length others)) (sym (ap (λ b. cond b 0 (index_of others p + 1)) f)) (omega arith))

-- ---- puts

module _ {B : Type 0} (from to : Tree B) where
  put-same : (q : Names) (m : Node B) → option_map as_put (placing_at from to (q, m)) ≡ put_at from to (q, m)
  put-same q m = by_last (λ q. option_map as_put (placing_at from to (q, m)) ≡ put_at from to (q, m)) q refl (λ above name.
      ap (λ b. option_map as_put (cond b None (placing_by from to (above ++ name ∷ [], m) (place_of from m.id)))) (not_root above name)
      ∙ inner above name (place_of from m.id)
      ∙ sym (ap (λ b. cond b None (put_by from to (above ++ name ∷ [], m) (place_of from m.id))) (not_root above name)))
    where
      whole : (above : Names) (name : List ℕ) → parent_of (above ++ name ∷ []) ++ last_of (above ++ name ∷ []) ∷ [] ≡ above ++ name ∷ []
      whole above name = one_child (parent_of-last above name) (last_of-last above name)

      inner : (above : Names) (name : List ℕ) (o : Option (Names × Node B)) → option_map as_put (placing_by from to (above ++ name ∷ [], m) o) ≡ put_by from to (above ++ name ∷ [], m) o
      inner above name None = elim (is_dir m) as (λ b. option_map as_put (cond b (Some (New m (parent_of (above ++ name ∷ [])) (last_of (above ++ name ∷ [])))) None) ≡ cond b (Some (plan_puts.NewDir (above ++ name ∷ []))) None) [
        | true ↦ ap (λ (p : Names). Some (plan_puts.NewDir p)) (whole above name)
        | false ↦ refl
      ]
      inner above name (Some old) = elim (same_place from to old.0 (above ++ name ∷ [])) as (λ b. option_map as_put (cond {A = Option (Placing (Node B))} b None (Some (Back (index_of (outs from to) old.0) (parent_of (above ++ name ∷ [])) (last_of (above ++ name ∷ []))))) ≡ cond b None (Some (plan_puts.Back (index_of (outs from to) old.0) (above ++ name ∷ [])))) [
        | true ↦ refl
        | false ↦ ap (λ (p : Names). Some (plan_puts.Back (index_of (outs from to) old.0) p)) (whole above name)
      ]

  all-puts : (tree : Tree B) → map as_put (filter_map (placing_at from to) tree) ≡ filter_map (put_at from to) tree
  all-puts [] = refl
  all-puts (e ∷ es) = one (placing_at from to e) ∙ (λ i. cons_option (put-same e.0 e.1 i) (all-puts es i))
    where
      one : (o : Option (Placing (Node B))) → map as_put (cons_option o (filter_map (placing_at from to) es)) ≡ cons_option (option_map as_put o) (map as_put (filter_map (placing_at from to) es))
      one None = refl
      one (Some put) = refl

  -- the puts with their nodes are the plan's puts
  pub placings-puts : map as_put (placings from to) ≡ puts from to
  placings-puts = all-puts to

-- ---- copies

-- the pages of a file
abbrev pub pages_by : Option (Node (List ℕ)) → List (List ℕ)
pages_by None = []
pages_by (Some node) = pages_of (length (bytes_of_body node.body)) (bytes_of_body node.body)

-- what is made of a tree's places that pass
map-filter : {X Y : Type 0} (job : Names × Node (List ℕ) → Y) (g : Y → X) (h : Names → X) (test : Names × Node (List ℕ) → Bool) (tree : Tree (List ℕ)) → is_sorted path_cmp tree ≡ true →
    ((q : Names) (m : Node (List ℕ)) → node_at tree q ≡ Some m → g (job (q, m)) ≡ h q) → map g (map job (filter test tree)) ≡ map h (map path_of_place (filter test tree))
map-filter job g h test [] sorted same = refl
map-filter job g h test (e ∷ es) sorted same =
    let rest : map g (map job (filter test es)) ≡ map h (map path_of_place (filter test es)) = map-filter job g h test es (second (below_all path_cmp e.0 es) _ sorted) (λ q m at. same q m (in_tail e es q m (first (below_all path_cmp e.0 es) _ sorted) at)) in
    elim (test e) as (λ b. map g (map job (cond b (e ∷ filter test es) (filter test es))) ≡ map h (map path_of_place (cond b (e ∷ filter test es) (filter test es)))) [
      | true ↦ λ i. same e.0 e.1 (head_at e es) i ∷ rest i
      | false ↦ rest
    ]

pub map-map : {X Y Z : Type 0} (f : Y → Z) (g : X → Y) (xs : List X) → map f (map g xs) ≡ map (λ x. f (g x)) xs
map-map f g [] = refl
map-map f g (x ∷ xs) = ap (λ zs. f (g x) ∷ zs) (map-map f g xs)

pub map-onto : {X Y : Type 0} (f : X → Y) (xs ys : List X) → map f (xs ++ ys) ≡ map f xs ++ map f ys
map-onto f [] ys = refl
map-onto f (x ∷ xs) ys = ap (λ zs. f x ∷ zs) (map-onto f xs ys)

module _ (from to : Tree (List ℕ)) (is : IsPair from to) (root : List ℕ) (plan : Plan) (plan_copies : plan.copies ≡ copies from to) where
  abbrev text : Names → List ℕ
  text = text_below root

  abbrev pub pages : Names → List (List ℕ)
  pages path = pages_by (node_at to path)

  abbrev paths : List Names
  paths = map path_of_place (filter (is_copied from) to)

  abbrev of_path : Names → List CopyCall
  of_path path = copy_calls path (pages path)

  appends-texts : (path : Names) (list : List (List ℕ)) → map (calls.Append (text path)) list ≡ map (copy_call text) (appends path list)
  appends-texts path [] = refl
  appends-texts path (page ∷ list) = ap (λ zs. calls.Append (text path) page ∷ zs) (appends-texts path list)

  one-copy : (q : Names) (m : Node (List ℕ)) → node_at to q ≡ Some m → copy_texts root q (bytes_there (place_of to m.id)) ≡ map (copy_call text) (of_path q)
  one-copy q m at =
      ap (λ o. copy_texts root q (bytes_there o)) (place_of-here to is.to_tree q m m.id at refl)
      ∙ ap (λ zs. calls.Create (text q) true ∷ zs) (appends-texts q (pages_by (Some m)))
      ∙ ap (λ o. map (copy_call text) (copy_calls q (pages_by o))) (sym at)

  lists-same : all_copy_calls root plan to ≡ map (λ path. map (copy_call text) (of_path path)) paths
  lists-same =
      ap (map (λ (job : CopyJob). copy_texts root job.to (bytes_there (place_of to job.id)))) plan_copies
      ∙ map-filter (λ place. record { id = place.1.id; to = place.0 }) (λ (job : CopyJob). copy_texts root job.to (bytes_there (place_of to job.id))) (λ path. map (copy_call text) (of_path path)) (is_copied from) to is.to_tree.sorted one-copy

  abbrev list_at : ℕ → List CopyCall
  list_at n = unwrap_or (slice_get (map of_path paths) n) []

  list-same : (n : ℕ) → unwrap_or (slice_get (all_copy_calls root plan to) n) [] ≡ map (copy_call text) (list_at n)
  list-same n =
      ap (λ lists. unwrap_or (slice_get lists n) []) lists-same
      ∙ ap (λ o. unwrap_or o []) (slice_get-map (λ path. map (copy_call text) (of_path path)) paths n)
      ∙ each (slice_get paths n)
      ∙ ap (λ o. map (copy_call text) (unwrap_or o [])) (sym (slice_get-map of_path paths n))
    where
      each : (o : Option Names) → unwrap_or (option_map (λ path. map (copy_call text) (of_path path)) o) [] ≡ map (copy_call text) (unwrap_or (option_map of_path o) [])
      each None = refl
      each (Some path) = refl

  paths-once : (m n : ℕ) (p : Names) → slice_get paths m ≡ Some p → slice_get paths n ≡ Some p → m ≡ n
  paths-once = rising-once paths (rises-filter (is_copied from) to is.to_tree.sorted)

  list-there : (n : ℕ) (path : Names) → slice_get paths n ≡ Some path → list_at n ≡ of_path path
  list-there n path there = ap (λ o. unwrap_or o []) (slice_get-map of_path paths n ∙ ap (option_map of_path) there)

  -- a file's bytes are its pages
  bytes-there : (path : Names) (node : Node (List ℕ)) → node_at to path ≡ Some node → is_copied from (path, node) ≡ true → node.body ≡ File (joined (pages path))
  bytes-there path node here copied = by-body node.body refl (file (is_dir node) copied) ∙ ap (λ o. File (joined (pages_by o))) (sym here)
    where
      file : (b : Bool) → (not b && is_other (path, node) (place_of from node.id)) ≡ true → b ≡ false
      file true h = absurd (true_false h refl)
      file false h = refl

      by-body : (body : Body (List ℕ)) → node.body ≡ body → is_dir node ≡ false → node.body ≡ File (joined (pages_by (Some node)))
      by-body (File bytes) e plain = e ∙ ap File (sym (ap (λ b. joined (pages_of (length (bytes_of_body b)) (bytes_of_body b))) e ∙ joined-pages (length bytes) bytes (omega arith)))
      by-body Dir e plain = absurd (true_false (ap is_dir_body e) plain)

  -- a merging of the copies' calls, by paths
  pub record IsByPath (copied : List Call) : Type 0 where
    pub made : List CopyCall
    pub same : map (copy_call text) made ≡ copied
    pub merging : IsMerging from to pages made

  pub by-path : (copied : List Call) → AreMerged (all_copy_calls root plan to) copied → IsByPath copied
  by-path copied merged =
      let m : IsMapped (copy_call text) merged.numbered list_at = mapped (copy_call text) merged.numbered list_at (λ n. merged.each n ∙ list-same n) in
      with-calls m (all-at paths m.calls (λ n. subst (AllByRecursion (λ call. slice_get paths n ≡ Some (path_of_call call))) (sym (m.each n ∙ ap (λ o. unwrap_or o []) (slice_get-map of_path paths n))) (each-there n (slice_get paths n) refl)))
    where
      appends-there : (o : Option Names) (path : Names) (list : List (List ℕ)) → o ≡ Some path → AllByRecursion (λ call. o ≡ Some (path_of_call call)) (appends path list)
      appends-there o path [] e = tt
      appends-there o path (page ∷ list) e = (e, appends-there o path list e)

      each-there : (n : ℕ) (o : Option Names) → slice_get paths n ≡ o → AllByRecursion (λ call. slice_get paths n ≡ Some (path_of_call call)) (unwrap_or (option_map of_path o) [])
      each-there n None e = tt
      each-there n (Some path) e = (e, appends-there (slice_get paths n) path (pages path) e)

      with-calls : (m : IsMapped (copy_call text) merged.numbered list_at) → AreAt paths m.calls → IsByPath copied
      with-calls m at = record {
        made = map (λ pair. pair.1) m.calls;
        same = map-map (copy_call text) (λ pair. pair.1) m.calls ∙ m.same ∙ sym merged.all;
        merging = record {
          at_copy = λ path node here copied.
              let k : (n : ℕ) × (slice_get paths n ≡ Some path) = in-slice paths path (in-filter (is_copied from) to path node here copied) in
              at-number paths paths-once k.0 path k.1 m.calls at ∙ m.each k.0 ∙ list-there k.0 path k.1;
          elsewhere = λ path other. at-none paths path (λ n there.
              let p : (x : Node (List ℕ)) × (node_at to path ≡ Some x) × (is_copied from (path, x) ≡ true) = from-filter (is_copied from) to path is.to_tree.sorted (slice-in paths n path there) in
              true_false p.2 (other p.0 p.1)) m.calls at;
          bytes = bytes-there;
        };
      }

-- ---- calls

module _ (root : List ℕ) (plan : Plan) where
  abbrev below : Names → List ℕ
  below = text_below root

  outs-texts : (paths : List Names) (k : ℕ) → k + length paths ≤ 2 ^ 64 → map (step_call below) (out_steps plan.tmp number k paths) ≡ out_calls root plan k paths
  outs-texts [] k few = refl
  outs-texts (p ∷ ps) k few =
      ap (λ n. calls.Rename (below p) (below (plan.tmp ∷ n ∷ [])) ∷ map (step_call below) (out_steps plan.tmp number (k + 1) ps)) (number-low k (lower (length ps) few))
      ∙ ap (λ zs. calls.Rename (below p) (below (out_place plan k)) ∷ zs) (outs-texts ps (k + 1) (later (length ps) few))
    where
      lower : (n : ℕ) → k + suc n ≤ 2 ^ 64 → k < 2 ^ 64
      lower n few = omega arith

      later : (n : ℕ) → k + suc n ≤ 2 ^ 64 → k + 1 + n ≤ 2 ^ 64
      later n few = omega arith

  -- a put of what an out has put away
  abbrev pub IsLow : {X : Type 0} → ℕ → Placing X → Type 0
  IsLow most (Back i above name) = i < most
  IsLow most (New node above name) = Unit {0}

  put-text : {X : Type 0} (most : ℕ) → most ≤ 2 ^ 64 → (put : Placing X) → IsLow most put → step_call below (put_step plan.tmp number put) ≡ put_call root plan (as_put put)
  put-text most few (Back i above name) low = ap (λ n. calls.Rename (below (plan.tmp ∷ n ∷ [])) (below (above ++ name ∷ []))) (number-low i (lower low))
    where
      lower : i < most → i < 2 ^ 64
      lower low = omega arith
  put-text most few (New node above name) low = refl

  puts-texts : {X : Type 0} (most : ℕ) → most ≤ 2 ^ 64 → (list : List (Placing X)) → AllByRecursion (IsLow most) list → map (step_call below) (map (put_step plan.tmp number) list) ≡ map (put_call root plan) (map as_put list)
  puts-texts most few [] low = refl
  puts-texts most few (put ∷ list) low = λ i. put-text most few put low.0 i ∷ puts-texts most few list low.1 i

  -- the calls of a plan's steps are the plan's calls
  pub steps-calls : (from to : Tree (List ℕ)) (made : List CopyCall) → plan.outs ≡ outs from to → plan.puts ≡ puts from to → length (outs from to) ≤ 2 ^ 64 → AllByRecursion (IsLow (length (outs from to))) (placings from to) →
      map (step_call below) (plan_steps plan.tmp number from to made) ≡ move_calls root plan ++ (map (copy_call below) made ++ last_call root plan ∷ [])
  steps-calls from to made plan_outs plan_puts few low =
      ap (λ zs. calls.Mkdir (below (plan.tmp ∷ [])) ∷ zs)
      (map-onto (step_call below) (out_steps plan.tmp number 0 (outs from to)) (map (put_step plan.tmp number) (placings from to) ++ (map Fill made ++ Drop plan.tmp ∷ []))
      ∙ (λ i. outs-texts (outs from to) 0 (from-none (length (outs from to)) few) i ++ rest i)
      ∙ sym (append_assoc (out_calls root plan 0 (outs from to)) (map (put_call root plan) (puts from to)) (map (copy_call below) made ++ last_call root plan ∷ []))
      ∙ (λ i. (out_calls root plan 0 (sym plan_outs i) ++ map (put_call root plan) (sym plan_puts i)) ++ (map (copy_call below) made ++ last_call root plan ∷ [])))
    where
      from-none : (n : ℕ) → n ≤ 2 ^ 64 → 0 + n ≤ 2 ^ 64
      from-none n few = omega arith

      rest : map (step_call below) (map (put_step plan.tmp number) (placings from to) ++ (map Fill made ++ Drop plan.tmp ∷ [])) ≡ map (put_call root plan) (puts from to) ++ (map (copy_call below) made ++ last_call root plan ∷ [])
      rest =
          map-onto (step_call below) (map (put_step plan.tmp number) (placings from to)) (map Fill made ++ Drop plan.tmp ∷ [])
          ∙ (λ i. (puts-texts (length (outs from to)) few (placings from to) low ∙ ap (map (put_call root plan)) (placings-puts from to)) i
          ++ (map-onto (step_call below) (map Fill made) (Drop plan.tmp ∷ []) ∙ ap (λ zs. zs ++ last_call root plan ∷ []) (map-map (step_call below) Fill made)) i)

-- what holds of all copies' paths holds where a call of a copy is
module _ (from to : Tree (List ℕ)) (is : IsPair from to) (root : List ℕ) (plan : Plan) (plan_copies : plan.copies ≡ copies from to) where
  jobs-paths : (P : Names → Type 0) (places : Tree (List ℕ)) → AllByRecursion (λ (job : CopyJob). P job.to) (map (λ place. record { id = place.1.id; to = place.0 }) places) → AllByRecursion P (map path_of_place places)
  jobs-paths P [] all = tt
  jobs-paths P (e ∷ es) all = (all.0, jobs-paths P es all.1)

  pub in-copies : {list : Names → List (List ℕ)} {made : List CopyCall} → IsMerging from to list made → (P : Names → Type 0) → AllByRecursion (λ (job : CopyJob). P job.to) plan.copies → (path : Names) → (filter (is_at path) made ≡ [] → ⊥) → P path
  in-copies {list} {made} merging P all path there = by_one (node_at to path)
      (λ node at. by (is_copied from (path, node))
      (λ t. let k : (n : ℕ) × (slice_get (map path_of_place (filter (is_copied from) to)) n ≡ Some path) = in-slice (map path_of_place (filter (is_copied from) to)) path (in-filter (is_copied from) to path node at t) in
      slice-all P (map path_of_place (filter (is_copied from) to)) k.0 path (jobs-paths P (filter (is_copied from) to) (subst (AllByRecursion (λ (job : CopyJob). P job.to)) plan_copies all)) k.1)
      (λ f. absurd (there (merging.elsewhere path (λ other bt. ap (λ (x : Node (List ℕ)). is_copied from (path, x)) (same_some (sym bt ∙ at)) ∙ f)))))
      (λ none. absurd (there (merging.elsewhere path (λ other bt. absurd (none_some (sym none ∙ bt))))))

-- The plain machine's calls below a root, as changes of what stands at each path there.
use Rattle.std.proofs.Common.{◌≡◌, ℕ, ◌+◌, Bool, true, false, cond, Option, Some, None, Ok, Err, is_some, List, [], ◌∷◌, ◌++◌, length, refl, ap, sym, ◌∙◌, append-nil, append_assoc}
use Rattle.std.specs.Prelude.{not, ◌≢◌, ◌&&◌, nat_lt}
use Rattle.std.specs.Option.{option_map}
use Rattle.std.specs.Ordering.{eq_by_cmp}
use Rattle.std.proofs.lemmas.List.{append_cancel_left}
use Rattle.hs_types.specs.Names.{Names}
use Rattle.hs_types.specs.declared.refusal.Refusal.TheVariants.{NotDir, Exists, IsRoot, IntoItself, NotFile, NotEmpty, HasSnapshots, Nested}
use Rattle.hs_plain.specs.declared.state.Node.{Node}
use Rattle.hs_plain.specs.declared.state.State.{State}
use Rattle.hs_plain.specs.declared.state.Body.TheVariants.{File, Dir}
use Rattle.hs_plain.specs.Asked.{Asked, ◌>>=◌, refuse_if, both}
use Rattle.hs_plain.specs.Files.{plain_files}
use Rattle.hs_plain.specs.Tree.{Tree, path_cmp, node_at, passes, walks_from, walks_above, walk, found, is_dir, is_dir_body, parent_of, is_root_path, is_above, same_path}
use Rattle.hs_plain.specs.State.{new_dir, holds_snapshots, holds_snapshottable, is_in_snapshottable}
use Rattle.hs_plain.specs.Modifying.{live_path, mkdir_at, create_at, takes_place_of, append_at, file_in, delete_at, spares_children, rename_at, may_move, would_nest}
use Rattle.hs_plain.specs.Change.{restamp, stamped, without, moved, new_file, made_dir, made_file, with_node, removed, renamed, appended, refilled, if_asked, change}
use Rattle.hs_plain.proofs.ValidShapes.{none_some, same_some, true_false, by_last, parent_of-last, same-itself, other-test, under_test}
use Rattle.hs_plain.proofs.Trees.{moved-below, moved-elsewhere, without-below, without-elsewhere}
use Rattle.hs_plain.proofs.ValidChanges.{apart_test, node_at-put, node_at-without}
use Rattle.hs_plain.specs.Plan.{rest_below}
use Rattle.plan_laws.specs.Sight.{Sight, inside_or, moved_sight, at_top, made_sight, Goes, Makes}
use Rattle.plan_laws.specs.Pair.{IsTree}
use Rattle.plan_laws.specs.Copies.{Content, Create, Append, grown_body, call_done, CallGoes, is_dir_seen, is_file_seen, content_of, without_sight}
use Rattle.plan_laws.specs.Bridge.{held, Leads}
use Rattle.plan_laws.proofs.Paths.{by, by_one, rest-same, rest-here, rest-so}
use Rattle.plan_laws.proofs.Lists.{same-so, same-here, same-more}
use Rattle.plan_laws.proofs.Places.{dir-above, none-below, not_root}
use Rattle.hs_types.specs.declared.call.Call.TheVariants as calls

-- ---- paths below a root

pub rest-root : (root a q : Names) → rest_below (root ++ a) (root ++ q) ≡ rest_below a q
rest-root [] a q = refl
rest-root (n ∷ root) a q = rest-same n (root ++ a) (root ++ q) ∙ rest-root root a q

pub not-under : (old q : Names) → rest_below old q ≡ None → (rest : Names) → q ≢ old ++ rest
not-under old q none rest e = none_some (sym none ∙ ap (rest_below old) e ∙ rest-here old rest)

pub moved-root : {X : Type 0} (s : Sight X) (root old new q : Names) → moved_sight s (root ++ old) (root ++ new) (root ++ q) ≡ moved_sight (λ path. s (root ++ path)) old new q
moved-root s root old new q =
    ap (λ o. inside_or o (λ rest. s ((root ++ old) ++ rest)) (inside_or (rest_below (root ++ old) (root ++ q)) (λ rest. None) (s (root ++ q)))) (rest-root root new q)
    ∙ ap (λ o. inside_or (rest_below new q) (λ rest. s ((root ++ old) ++ rest)) (inside_or o (λ rest. None) (s (root ++ q)))) (rest-root root old q)
    ∙ (λ i. inside_or (rest_below new q) (λ rest. s (append_assoc root old rest i)) (inside_or (rest_below old q) (λ rest. None) (s (root ++ q))))

module _ {B : Type 0} (tree : Tree B) (is : IsTree tree) where
  none-all : (r p : Names) → node_at tree p ≡ None → node_at tree (p ++ r) ≡ None
  none-all [] p none = ap (node_at tree) (append-nil p) ∙ none
  none-all (n ∷ r) p none = ap (node_at tree) (sym (append_assoc p (n ∷ []) r)) ∙ none-all r (p ++ n ∷ []) (none-below tree is p n none)

  -- ---- walks

  up : (r p : Names) (x : Node B) → node_at tree (p ++ r) ≡ Some x → (y : Node B) × (node_at tree p ≡ Some y)
  up [] p x at = (x, ap (node_at tree) (sym (append-nil p)) ∙ at)
  up (n ∷ r) p x at = let one : (y : Node B) × (node_at tree (p ++ n ∷ []) ≡ Some y) = up r (p ++ n ∷ []) x (ap (node_at tree) (append_assoc p (n ∷ []) r) ∙ at) in
      let d : (dir : Node B) × (node_at tree p ≡ Some dir) × (is_dir dir ≡ true) = dir-above tree is p n one.0 one.1 in (d.0, d.1)

  passes-dir : (here : Names) (d : Node B) → node_at tree here ≡ Some d → is_dir d ≡ true → passes (node_at tree here) ≡ Ok tt
  passes-dir here d at dir = ap passes at ∙ ap (λ b. cond {A = Asked (Unit {0})} b (Ok tt) (Err NotDir)) dir

  walks-ok : (above here : Names) (name : List ℕ) (d : Node B) → node_at tree (here ++ above) ≡ Some d → is_dir d ≡ true → walks_from tree here (above ++ name ∷ []) ≡ Ok tt
  walks-ok [] here name d at dir = ap (λ (w : Asked (Unit {0})). w >>= λ _. Ok tt) (passes-dir here d (ap (node_at tree) (sym (append-nil here)) ∙ at) dir)
  walks-ok (a ∷ above) here name d at dir =
      let down : node_at tree ((here ++ a ∷ []) ++ above) ≡ Some d = ap (node_at tree) (append_assoc here (a ∷ []) above) ∙ at in
      let one : (y : Node B) × (node_at tree (here ++ a ∷ []) ≡ Some y) = up above (here ++ a ∷ []) d down in
      let top : (dir : Node B) × (node_at tree here ≡ Some dir) × (is_dir dir ≡ true) = dir-above tree is here a one.0 one.1 in
      ap (λ (w : Asked (Unit {0})). w >>= λ _. walks_from tree (here ++ a ∷ []) (above ++ name ∷ [])) (passes-dir here top.0 top.1 top.2) ∙ walks-ok above (here ++ a ∷ []) name d down dir

  walk-ok : (path : Names) (n : Node B) → node_at tree path ≡ Some n → walk tree path ≡ Ok n
  walk-ok path n at = by_last (λ path. node_at tree path ≡ Some n → walk tree path ≡ Ok n) path
      (λ at. ap found at)
      (λ above name at. let d : (dir : Node B) × (node_at tree above ≡ Some dir) × (is_dir dir ≡ true) = dir-above tree is above name n at in
      ap (λ (w : Asked (Unit {0})). w >>= λ _. found (node_at tree (above ++ name ∷ []))) (walks-ok above [] name d.0 d.1 d.2) ∙ ap found at)
      at

  -- ---- a move

  module _ (old new : Names) (free : node_at tree new ≡ None) where
    -- a subtree at a new path, seen path by path
    pub node_at-moved : (q : Names) → node_at (moved tree old new) q ≡ moved_sight (node_at tree) old new q
    node_at-moved q = by_one (rest_below new q)
        (λ r below. ap (node_at (moved tree old new)) (rest-so new q r below) ∙ moved-below tree old new is.sorted all_free r
        ∙ sym (ap (λ o. inside_or o (λ rest. node_at tree (old ++ rest)) (inside_or (rest_below old q) (λ rest. None) (node_at tree q))) below))
        (λ out. moved-elsewhere tree old new is.sorted all_free q (not-under new q out) ∙ left q
        ∙ sym (ap (λ o. inside_or o (λ rest. node_at tree (old ++ rest)) (inside_or (rest_below old q) (λ rest. None) (node_at tree q))) out))
      where
        all_free : (rest : Names) → node_at tree (new ++ rest) ≡ None
        all_free rest = none-all rest new free

        left : (q : Names) → node_at (without tree old) q ≡ inside_or (rest_below old q) (λ rest. None) (node_at tree q)
        left q = by_one (rest_below old q)
            (λ r below. ap (node_at (without tree old)) (rest-so old q r below) ∙ without-below tree old r ∙ sym (ap (λ o. inside_or o (λ rest. None) (node_at tree q)) below))
            (λ apart. without-elsewhere tree old q (not-under old q apart) ∙ sym (ap (λ o. inside_or o (λ rest. None) (node_at tree q)) apart))

-- a move that goes is not refused, where no snapshottable directory moves
may-move : {B : Type 0} (state : State B) (is : IsTree state.tree) (old above : Names) (name : List ℕ) (n d : Node B) → node_at state.tree old ≡ Some n → is_root_path old ≡ false → node_at state.tree above ≡ Some d → is_dir d ≡ true → node_at state.tree (above ++ name ∷ []) ≡ None → rest_below old (above ++ name ∷ []) ≡ None →
    holds_snapshots state old ≡ false → holds_snapshottable state old ≡ false → may_move state old (above ++ name ∷ []) ≡ Ok tt
may-move state is old above name n d at below d_at dir free apart bare plain =
    let new : Names = above ++ name ∷ [] in
    ap (λ (w : Asked (Node _)). both w (walks_above state.tree new) >>= λ _. rest) (walk-ok state.tree is old n at)
    ∙ ap (λ (w : Asked (Unit {0})). both (Ok n) w >>= λ _. rest) (walks-ok state.tree is above [] name d d_at dir)
    ∙ ap (λ o. refuse_if (is_some o) Exists >>= λ _. below_root) free
    ∙ ap (λ b. refuse_if b IsRoot >>= λ _. kept) below
    ∙ ap (λ b. refuse_if b HasSnapshots >>= λ _. apart_from) bare
    ∙ ap (λ b. refuse_if (b && nat_lt (length old) (length new)) IntoItself >>= λ _. nests) (apart_test new old (not-under old new apart))
    ∙ ap (λ b. refuse_if (b && is_in_snapshottable state new) Nested) plain
  where
    nests : Asked (Unit {0})
    nests = refuse_if (would_nest state old (above ++ name ∷ [])) Nested

    apart_from : Asked (Unit {0})
    apart_from = refuse_if (is_above old (above ++ name ∷ [])) IntoItself >>= λ _. nests

    kept : Asked (Unit {0})
    kept = refuse_if (holds_snapshots state old) HasSnapshots >>= λ _. apart_from

    below_root : Asked (Unit {0})
    below_root = refuse_if (is_root_path old) IsRoot >>= λ _. kept

    rest : Asked (Unit {0})
    rest = refuse_if (is_some (node_at state.tree (above ++ name ∷ []))) Exists >>= λ _. below_root

-- ---- what files hold

abbrev body_of : Node (List ℕ) → Content
body_of node = node.body

pub content-stamped : (tree : Tree (List ℕ)) (path : Names) (tick : ℕ) (q : Names) → content_of (node_at (stamped tree path tick) q) ≡ content_of (node_at tree q)
content-stamped [] path tick q = refl
content-stamped (e ∷ es) path tick q =
    ap (λ (p : Names). content_of (cond (eq_by_cmp path_cmp q p) (Some (restamp path tick e).1) (node_at (stamped es path tick) q))) kept
    ∙ elim (eq_by_cmp path_cmp q e.0) as (λ b. content_of (cond b (Some (restamp path tick e).1) (node_at (stamped es path tick) q)) ≡ content_of (cond b (Some e.1) (node_at es q))) [
      | true ↦ ap (λ x. Some x) alike
      | false ↦ content-stamped es path tick q
    ]
  where
    kept : (restamp path tick e).0 ≡ e.0
    kept = elim (same_path path e.0) as (λ b. (cond b (e.0, record e.1 { stamp = tick }) e).0 ≡ e.0) [ true ↦ refl | false ↦ refl ]

    alike : (restamp path tick e).1.body ≡ e.1.body
    alike = elim (same_path path e.0) as (λ b. (cond b (e.0, record e.1 { stamp = tick }) e).1.body ≡ e.1.body) [ true ↦ refl | false ↦ refl ]

-- one path below a root or not
same-root : (root at q : Names) → eq_by_cmp path_cmp (root ++ q) (root ++ at) ≡ same_path at q
same-root root at q = by (same_path at q)
    (λ t. ap (λ (x : Names). eq_by_cmp path_cmp (root ++ x) (root ++ at)) (same-so at q t) ∙ same-itself (root ++ at) ∙ sym t)
    (λ f. other-test (root ++ q) (root ++ at) (λ e. true_false (ap (λ (x : Names). same_path at x) (append_cancel_left root q at e) ∙ same-here at) f) ∙ sym f)

made-put : {X : Type 0} (s : Sight X) (at : Names) (node : X) (q : Names) → cond (same_path at q) (Some node) (s q) ≡ made_sight s at node q
made-put s at node q = by_one (rest_below at q)
    (λ r below. ap (λ (x : Names). cond (same_path at x) (Some node) (s q)) (rest-so at q r below) ∙ ap (λ b. cond b (Some node) (s q)) (same-more at r) ∙ here r ∙ sym (ap (λ o. inside_or o (at_top node (s q)) (s q)) below))
    (λ apart. ap (λ b. cond b (Some node) (s q)) (by (same_path at q) (λ t. absurd (none_some (sym apart ∙ ap (rest_below at) (same-so at q t ∙ sym (append-nil at)) ∙ rest-here at []))) (λ f. f))
    ∙ sym (ap (λ o. inside_or o (at_top node (s q)) (s q)) apart))
  where
    here : (r : Names) → cond (same_path [] r) (Some node) (s q) ≡ at_top node (s q) r
    here [] = refl
    here (n ∷ r) = refl

content-cond : (b : Bool) (node : Node (List ℕ)) (o : Option (Node (List ℕ))) → content_of (cond b (Some node) o) ≡ cond b (Some node.body) (content_of o)
content-cond true node o = refl
content-cond false node o = refl

-- below a root nothing is snapshottable, nor has snapshots
pub record IsBare {B : Type 0} (state : State B) (root : Names) : Type 0 where
  pub no_snapshots : (path : Names) → (path ≡ [] → ⊥) → holds_snapshots state (root ++ path) ≡ false
  pub none_snapshottable : (path : Names) → (path ≡ [] → ⊥) → holds_snapshottable state (root ++ path) ≡ false

module _ (state : State (List ℕ)) (is : IsTree state.tree) (root : Names) (bare : IsBare state root) where
  -- ---- a rename

  pub rename-ok : (old_text new_text : List ℕ) (old above : Names) (name : List ℕ) → Leads old_text root old → Leads new_text root (above ++ name ∷ []) → (old ≡ [] → ⊥) → rest_below old (above ++ name ∷ []) ≡ None →
      Goes is_dir_body (held state root) old above name → rename_at state old_text new_text ≡ Ok (root ++ old, root ++ (above ++ name ∷ []))
  rename-ok old_text new_text old above name leads to below apart goes =
      ap (λ (a : Asked Names). both a (live_path new_text) >>= λ paths. next paths) leads
      ∙ ap (λ (b : Asked Names). both (Ok (root ++ old)) b >>= λ paths. next paths) to
      ∙ ap (λ (m : Asked (Unit {0})). m >>= λ _. Ok (root ++ old, root ++ (above ++ name ∷ []))) allowed
    where
      next : Names × Names → Asked (Names × Names)
      next paths = may_move state paths.0 paths.1 >>= λ _. Ok paths

      seen : (o : Option (Node (List ℕ))) → is_some (content_of o) ≡ true → (n : Node (List ℕ)) × (o ≡ Some n)
      seen None h = absurd (true_false h refl)
      seen (Some n) h = (n, refl)

      dir : (o : Option (Node (List ℕ))) (d : Content) → content_of o ≡ Some d → is_dir_body d ≡ true → (n : Node (List ℕ)) × (o ≡ Some n) × (is_dir n ≡ true)
      dir None d e h = absurd (none_some e)
      dir (Some n) d e h = (n, refl, ap is_dir_body (same_some e) ∙ h)

      gone : (o : Option (Node (List ℕ))) → content_of o ≡ None → o ≡ None
      gone None h = refl
      gone (Some n) h = absurd (none_some (sym h))

      root-below : (root old : Names) → (old ≡ [] → ⊥) → is_root_path (root ++ old) ≡ false
      root-below [] [] h = absurd (h refl)
      root-below [] (n ∷ old) h = refl
      root-below (r ∷ root) old h = refl

      allowed : may_move state (root ++ old) (root ++ (above ++ name ∷ [])) ≡ Ok tt
      allowed =
          let n : (n : Node (List ℕ)) × (node_at state.tree (root ++ old) ≡ Some n) = seen (node_at state.tree (root ++ old)) goes.there in
          let d : (n : Node (List ℕ)) × (node_at state.tree (root ++ above) ≡ Some n) × (is_dir n ≡ true) = dir (node_at state.tree (root ++ above)) goes.above_dir.0 goes.above_dir.1 goes.above_dir.2 in
          let e : root ++ (above ++ name ∷ []) ≡ (root ++ above) ++ name ∷ [] = sym (append_assoc root above (name ∷ [])) in
          ap (may_move state (root ++ old)) e
          ∙ may-move state is (root ++ old) (root ++ above) name n.0 d.0 n.1 (root-below root old below) d.1 d.2 (ap (node_at state.tree) (sym e) ∙ gone (node_at state.tree (root ++ (above ++ name ∷ []))) goes.free) (ap (rest_below (root ++ old)) (sym e) ∙ rest-root root old (above ++ name ∷ []) ∙ apart)
          (bare.no_snapshots old below) (bare.none_snapshottable old below)

  content-moved : (old new q : Names) → node_at state.tree (root ++ new) ≡ None → content_of (node_at (renamed state (root ++ old, root ++ new)).tree (root ++ q)) ≡ moved_sight (held state root) old new q
  content-moved old new q free =
      content-stamped (stamped (moved state.tree (root ++ old) (root ++ new)) (parent_of (root ++ old)) (state.tick + 1)) (parent_of (root ++ new)) (state.tick + 1) (root ++ q)
      ∙ content-stamped (moved state.tree (root ++ old) (root ++ new)) (parent_of (root ++ old)) (state.tick + 1) (root ++ q)
      ∙ ap content_of (node_at-moved state.tree is (root ++ old) (root ++ new) free (root ++ q) ∙ moved-root (node_at state.tree) root old new q)
      ∙ content-inside (rest_below new q) (rest_below old q)
    where
      content-inside : (o u : Option Names) → content_of (inside_or o (λ rest. node_at state.tree (root ++ (old ++ rest))) (inside_or u (λ rest. None) (node_at state.tree (root ++ q))))
          ≡ inside_or o (λ rest. held state root (old ++ rest)) (inside_or u (λ rest. None) (held state root q))
      content-inside (Some r) u = refl
      content-inside None (Some r) = refl
      content-inside None None = refl

  -- a rename that goes is accepted, and changes what is seen
  pub rename-changes : (old_text new_text : List ℕ) (old above : Names) (name : List ℕ) → Leads old_text root old → Leads new_text root (above ++ name ∷ []) → (old ≡ [] → ⊥) → rest_below old (above ++ name ∷ []) ≡ None →
      Goes is_dir_body (held state root) old above name → (q : Names) → held (change plain_files state (calls.Rename old_text new_text)) root q ≡ moved_sight (held state root) old (above ++ name ∷ []) q
  rename-changes old_text new_text old above name leads to below apart goes q =
      ap (λ (a : Asked (Names × Names)). held (if_asked (renamed state) state a) root q) (rename-ok old_text new_text old above name leads to below apart goes)
      ∙ content-moved old (above ++ name ∷ []) q (gone (node_at state.tree (root ++ (above ++ name ∷ []))) goes.free)
    where
      gone : (o : Option (Node (List ℕ))) → content_of o ≡ None → o ≡ None
      gone None h = refl
      gone (Some n) h = absurd (none_some (sym h))

  -- ---- a new node

  gone-so : (o : Option (Node (List ℕ))) → content_of o ≡ None → o ≡ None
  gone-so None h = refl
  gone-so (Some n) h = absurd (none_some (sym h))

  dir-so : (o : Option (Node (List ℕ))) → is_dir_seen (content_of o) ≡ true → (n : Node (List ℕ)) × (o ≡ Some n) × (is_dir n ≡ true)
  dir-so None h = absurd (true_false h refl)
  dir-so (Some n) h = (n, refl, h)

  reach : (above : Names) (name : List ℕ) → is_dir_seen (held state root above) ≡ true → walks_above state.tree (root ++ (above ++ name ∷ [])) ≡ Ok tt
  reach above name h = let d : (n : Node (List ℕ)) × (node_at state.tree (root ++ above) ≡ Some n) × (is_dir n ≡ true) = dir-so (node_at state.tree (root ++ above)) h in
      ap (walks_above state.tree) (sym (append_assoc root above (name ∷ []))) ∙ walks-ok state.tree is (root ++ above) [] name d.0 d.1 d.2

  with-node : (path q : Names) (node : Node (List ℕ)) → held (with_node state (root ++ path) node) root q ≡ cond (same_path path q) (Some node.body) (held state root q)
  with-node path q node =
      ap content_of (node_at-put (root ++ path) node (stamped state.tree (parent_of (root ++ path)) (state.tick + 1)) (root ++ q))
      ∙ ap (λ b. content_of (cond b (Some node) (node_at (stamped state.tree (parent_of (root ++ path)) (state.tick + 1)) (root ++ q)))) (same-root root path q)
      ∙ content-cond (same_path path q) node (node_at (stamped state.tree (parent_of (root ++ path)) (state.tick + 1)) (root ++ q))
      ∙ ap (λ (o : Option Content). cond (same_path path q) (Some node.body) o) (content-stamped state.tree (parent_of (root ++ path)) (state.tick + 1) (root ++ q))

  pub mkdir-ok : (text : List ℕ) (above : Names) (name : List ℕ) → Leads text root (above ++ name ∷ []) → Makes is_dir_body (held state root) above name → mkdir_at state text ≡ Ok (root ++ (above ++ name ∷ []))
  mkdir-ok text above name leads makes =
      ap (λ (a : Asked Names). a >>= λ path. walks_above state.tree path >>= λ _. refuse_if (is_some (node_at state.tree path)) Exists >>= λ _. Ok path) leads
      ∙ ap (λ (w : Asked (Unit {0})). w >>= λ _. refuse_if (is_some (node_at state.tree (root ++ (above ++ name ∷ [])))) Exists >>= λ _. Ok (root ++ (above ++ name ∷ [])))
      (reach above name (ap is_dir_seen makes.above_dir.1 ∙ makes.above_dir.2))
      ∙ ap (λ o. refuse_if (is_some o) Exists >>= λ _. Ok (root ++ (above ++ name ∷ []))) (gone-so (node_at state.tree (root ++ (above ++ name ∷ []))) makes.free)

  -- a mkdir that goes is accepted, and changes what is seen
  pub mkdir-changes : (text : List ℕ) (above : Names) (name : List ℕ) → Leads text root (above ++ name ∷ []) → Makes is_dir_body (held state root) above name →
      (q : Names) → held (change plain_files state (calls.Mkdir text)) root q ≡ made_sight (held state root) (above ++ name ∷ []) Dir q
  mkdir-changes text above name leads makes q =
      ap (λ (a : Asked Names). held (if_asked (made_dir state) state a) root q) (mkdir-ok text above name leads makes)
      ∙ with-node (above ++ name ∷ []) q (new_dir state.next_inode (state.tick + 1))
      ∙ made-put (held state root) (above ++ name ∷ []) Dir q

  takes-ok : (o : Option (Node (List ℕ))) → not (is_dir_seen (content_of o)) ≡ true → takes_place_of true o ≡ Ok tt
  takes-ok None h = refl
  takes-ok (Some n) h = (elim (is_dir n) as (λ b. not b ≡ true → refuse_if b NotFile ≡ Ok tt) [
    | true ↦ λ h. absurd (true_false h refl)
    | false ↦ λ h. refl
  ]) h

  not-not : (b : Bool) → not b ≡ true → b ≡ false
  not-not true h = absurd (true_false h refl)
  not-not false h = refl

  pub create-ok : (text : List ℕ) (path : Names) → Leads text root path → CallGoes (held state root) (Create path) → create_at state text true ≡ Ok (root ++ path)
  create-ok text path leads goes =
      ap (λ (a : Asked Names). a >>= λ at. walks_above state.tree at >>= λ _. takes_place_of true (node_at state.tree at) >>= λ _. Ok at) leads
      ∙ ap (λ (w : Asked (Unit {0})). w >>= λ _. takes_place_of true (node_at state.tree (root ++ path)) >>= λ _. Ok (root ++ path))
      (by_last (λ p. is_dir_seen (held state root (parent_of p)) ≡ true → not (is_dir_seen (held state root p)) ≡ true → walks_above state.tree (root ++ p) ≡ Ok tt) path
      (λ above fits. absurd (true_false above (not-not (is_dir_seen (held state root [])) fits)))
      (λ up name above fits. reach up name (ap (λ (p : Names). is_dir_seen (held state root p)) (sym (parent_of-last up name)) ∙ above))
      goes.above goes.fits)
      ∙ ap (λ (t : Asked (Unit {0})). t >>= λ _. Ok (root ++ path)) (takes-ok (node_at state.tree (root ++ path)) goes.fits)

  -- a create over that goes is accepted, and changes what is seen
  pub create-changes : (text : List ℕ) (path : Names) → Leads text root path → CallGoes (held state root) (Create path) →
      (q : Names) → held (change plain_files state (calls.Create text true)) root q ≡ call_done (held state root) (Create path) q
  create-changes text path leads goes q =
      ap (λ (a : Asked Names). held (if_asked (made_file plain_files state) state a) root q) (create-ok text path leads goes)
      ∙ with-node path q (new_file plain_files state.next_inode (state.tick + 1))

  file-so : (o : Option (Node (List ℕ))) → is_file_seen (content_of o) ≡ true → (n : Node (List ℕ)) × (file : List ℕ) × (o ≡ Some n) × (n.body ≡ File file)
  file-so None h = absurd (true_false h refl)
  file-so (Some n) h = by-body n.body refl h
    where
      by-body : (b : Content) → n.body ≡ b → not (is_dir_body b) ≡ true → (m : Node (List ℕ)) × (file : List ℕ) × (Some n ≡ Some m) × (m.body ≡ File file)
      by-body (File file) e h = (n, file, refl, e)
      by-body Dir e h = absurd (true_false h refl)

  pub append-ok : (text bytes : List ℕ) (path : Names) → Leads text root path → CallGoes (held state root) (Append path bytes) → (at : Names × Node (List ℕ) × List ℕ) × (append_at state text ≡ Ok at) × (at.0 ≡ root ++ path)
  append-ok text bytes path leads goes =
      let at : (n : Node (List ℕ)) × (file : List ℕ) × (node_at state.tree (root ++ path) ≡ Some n) × (n.body ≡ File file) = file-so (node_at state.tree (root ++ path)) goes.fits in (
        (root ++ path, at.0, at.1),
        ap (λ (a : Asked Names). a >>= λ p. walk state.tree p >>= λ node. file_in node.body >>= λ file. Ok (p, node, file)) leads
            ∙ ap (λ (w : Asked (Node (List ℕ))). w >>= λ node. file_in node.body >>= λ file. Ok (root ++ path, node, file)) (walk-ok state.tree is (root ++ path) at.0 at.2)
            ∙ ap (λ (b : Content). file_in b >>= λ file. Ok (root ++ path, at.0, file)) at.3,
        refl,
      )

  node-so : (o : Option (Node (List ℕ))) → is_some (content_of o) ≡ true → (n : Node (List ℕ)) × (o ≡ Some n)
  node-so None h = absurd (true_false h refl)
  node-so (Some n) h = (n, refl)

  pub delete-ok : (text : List ℕ) (tmp : List ℕ) → Leads text root (tmp ∷ []) → is_some (held state root (tmp ∷ [])) ≡ true → delete_at state text true ≡ Ok (root ++ tmp ∷ [])
  delete-ok text tmp leads there =
      let d : (n : Node (List ℕ)) × (node_at state.tree (root ++ tmp ∷ []) ≡ Some n) = node-so (node_at state.tree (root ++ tmp ∷ [])) there in
      ap (λ (a : Asked Names). a >>= λ p. walk state.tree p >>= λ node. refuse_if (is_root_path p) IsRoot >>= λ _. refuse_if (spares_children state.tree p true) NotEmpty >>= λ _. refuse_if (holds_snapshots state p) HasSnapshots >>= λ _. Ok p) leads
      ∙ ap (λ (w : Asked (Node (List ℕ))). w >>= λ node. refuse_if (is_root_path (root ++ tmp ∷ [])) IsRoot >>= λ _. refuse_if (holds_snapshots state (root ++ tmp ∷ [])) HasSnapshots >>= λ _. Ok (root ++ tmp ∷ [])) (walk-ok state.tree is (root ++ tmp ∷ []) d.0 d.1)
      ∙ ap (λ b. refuse_if b IsRoot >>= λ _. refuse_if (holds_snapshots state (root ++ tmp ∷ [])) HasSnapshots >>= λ _. Ok (root ++ tmp ∷ [])) (not_root root tmp)
      ∙ ap (λ b. refuse_if b HasSnapshots >>= λ _. Ok (root ++ tmp ∷ [])) (bare.no_snapshots (tmp ∷ []) below)
    where
      below : tmp ∷ [] ≡ [] → ⊥
      below e = cc

  -- an append that goes is accepted, and changes what is seen
  pub append-changes : (text bytes : List ℕ) (path : Names) → Leads text root path → CallGoes (held state root) (Append path bytes) →
      (q : Names) → held (change plain_files state (calls.Append text bytes)) root q ≡ call_done (held state root) (Append path bytes) q
  append-changes text bytes path leads goes q =
      let at : (n : Node (List ℕ)) × (file : List ℕ) × (node_at state.tree (root ++ path) ≡ Some n) × (n.body ≡ File file) = file-so (node_at state.tree (root ++ path)) goes.fits in
      ap (λ (a : Asked (Names × Node (List ℕ) × List ℕ)). held (if_asked (appended plain_files state bytes) state a) root q)
      (ap (λ (a : Asked Names). a >>= λ p. walk state.tree p >>= λ node. file_in node.body >>= λ file. Ok (p, node, file)) leads
      ∙ ap (λ (w : Asked (Node (List ℕ))). w >>= λ node. file_in node.body >>= λ file. Ok (root ++ path, node, file)) (walk-ok state.tree is (root ++ path) at.0 at.2)
      ∙ ap (λ (b : Content). file_in b >>= λ file. Ok (root ++ path, at.0, file)) at.3)
      ∙ ap content_of (node_at-put (root ++ path) (refilled at.0 (at.1 ++ bytes) (state.tick + 1)) state.tree (root ++ q))
      ∙ ap (λ b. content_of (cond b (Some (refilled at.0 (at.1 ++ bytes) (state.tick + 1))) (node_at state.tree (root ++ q)))) (same-root root path q)
      ∙ content-cond (same_path path q) (refilled at.0 (at.1 ++ bytes) (state.tick + 1)) (node_at state.tree (root ++ q))
      ∙ by (same_path path q)
      (λ t. ap (λ b. cond b (Some (File (at.1 ++ bytes))) (held state root q)) t
      ∙ sym (ap (option_map (grown_body bytes)) (ap (held state root) (same-so path q t) ∙ ap content_of at.2 ∙ ap (λ (b : Content). Some b) at.3))
      ∙ sym (ap (λ b. cond b (option_map (grown_body bytes) (held state root q)) (held state root q)) t))
      (λ f. ap (λ b. cond b (Some (File (at.1 ++ bytes))) (held state root q)) f ∙ sym (ap (λ b. cond b (option_map (grown_body bytes) (held state root q)) (held state root q)) f))

  -- a recursive delete that goes is accepted, and changes what is seen
  pub delete-changes : (text : List ℕ) (tmp : List ℕ) → Leads text root (tmp ∷ []) → is_some (held state root (tmp ∷ [])) ≡ true →
      (q : Names) → held (change plain_files state (calls.Delete text true)) root q ≡ without_sight (held state root) (tmp ∷ []) q
  delete-changes text tmp leads there q =
      ap (λ (a : Asked Names). held (if_asked (removed state) state a) root q) (delete-ok text tmp leads there)
      ∙ content-stamped (without state.tree (root ++ tmp ∷ [])) (parent_of (root ++ tmp ∷ [])) (state.tick + 1) (root ++ q)
      ∙ ap content_of (node_at-without state.tree (root ++ tmp ∷ []) (root ++ q))
      ∙ by_one (rest_below (tmp ∷ []) q)
      (λ r below. ap (λ b. content_of (cond (not b) (node_at state.tree (root ++ q)) None)) (under_test (root ++ q) (root ++ tmp ∷ []) r (rest-so (root ++ tmp ∷ []) (root ++ q) r (rest-root root (tmp ∷ []) q ∙ below)))
      ∙ sym (ap (λ o. inside_or o (λ rest. None) (held state root q)) below))
      (λ none. ap (λ b. content_of (cond (not b) (node_at state.tree (root ++ q)) None)) (apart_test (root ++ q) (root ++ tmp ∷ []) (not-under (root ++ tmp ∷ []) (root ++ q) (rest-root root (tmp ∷ []) q ∙ none)))
      ∙ sym (ap (λ o. inside_or o (λ rest. None) (held state root q)) none))

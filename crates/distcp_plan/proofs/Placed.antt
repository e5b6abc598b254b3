-- What is placed by rising path is what the second tree has, in its order.
use Rattle.std.proofs.Common.{◌≡◌, inl, inr, ℕ, Bool, true, false, ◌||◌, cond, Option, Some, None, List, [], ◌∷◌, ◌++◌, map, length, refl, ap, sym, subst, ◌∙◌}
use Rattle.std.specs.List.{filter, filter_map, cons_option, AllByRecursion}
use Rattle.std.specs.Option.{option_map}
use Rattle.std.specs.Ordering.{eq_by_cmp}
use Rattle.std.specs.FinMap.Entries.{put}
use Rattle.hs_types.specs.Names.{Names}
use Rattle.hs_types.specs.declared.ids.InodeId.{InodeId}
use Rattle.hs_types.specs.declared.reply.Line.{Line}
use Rattle.hs_types.specs.declared.reply.LineKind.TheVariants.{Deleted, Renamed, Modified, Created}
use Rattle.hs_plain.specs.declared.plan.CopyJob.{CopyJob}
use Rattle.hs_plain.specs.declared.plan.Put.TheVariants.{Back, NewDir}
use Rattle.hs_plain.specs.declared.state.Node.{Node}
use Rattle.hs_plain.specs.Tree.{Tree, path_cmp, node_at, is_dir, is_root_path, place_of}
use Rattle.hs_plain.specs.Report.{same_place, line_of, report}
use Rattle.hs_plain.specs.Plan.{outs, index_of, put_by as plain_put_by, put_at, puts, is_copied, copies, listings_of, plan_of, root_names}
use Rattle.hs_plain.proofs.ValidShapes.{none_some, same_some, true_false, by_last, same-itself}
use Rattle.hs_plain.proofs.ValidLists.{In, in-right, by_append, in-map, map_so}
use Rattle.plan_laws.specs.Pair.{IsPair}
use Rattle.plan_laws.specs.Sorted.{put_entries, has_path, look_by, look, entry, entries, IsListing}
use Rattle.plan_laws.proofs.Paths.{by, by_one}
use Rattle.plan_laws.proofs.Places.{place_of-so, place_of-here, not_root}
use Rattle.plan_laws.proofs.Sorted.{listing-is}
use Rattle.plan_laws.proofs.Waiting.{IsNewDir, AreFirst}
use Rattle.plan_laws.proofs.FirstDirs.{are-first}
use Rattle.distcp_plan.specs.Planned.{target_of, is_out, out_path, with_move, moves_by, in_places, new_place, as_put, puts_by, file_place, as_job, copies_by, planned}
use Rattle.distcp_plan.proofs.Effects.{job_at}
use Rattle.distcp_plan.proofs.Report.{by-line, moved-in, no-target}
use Rattle.distcp_plan.proofs.FoundIs.{IsCopy, all, roots, dirs-are-new, new-dirs-are-found, files-are-copies, copies-are-found}
use Rattle.distcp_plan.proofs.OutNumbers.{IsMove, move-so, move-at, outs-are, index-is}

-- ---- lists of places

same-places : {V : Type 0} (list acc : List (Names × V)) → in_places acc list ≡ put_entries acc list
same-places [] acc = refl
same-places (one ∷ list) acc = same-places list (put path_cmp one.0 one.1 acc)

places-onto : {V : Type 0} (xs ys acc : List (Names × V)) → in_places (in_places acc xs) ys ≡ in_places acc (xs ++ ys)
places-onto [] ys acc = refl
places-onto (x ∷ xs) ys acc = places-onto xs ys (put path_cmp x.0 x.1 acc)

each-in : {X : Type 0} (P : X → Type 0) (xs : List X) → ((x : X) → In xs x → P x) → AllByRecursion P xs
each-in P [] each = tt
each-in P (x ∷ xs) each = (each x (inl refl), each-in P xs (λ y at. each y (inr at)))

or_second : (a b : Bool) → b ≡ true → (a || b) ≡ true
or_second true b h = refl
or_second false b h = h

has-path : {V : Type 0} (list : List (Names × V)) (one : Names × V) (path : Names) → In list one → one.0 ≡ path → has_path list path ≡ true
has-path [] one path at same = absurd at
has-path (x ∷ list) one path (inl e) same = ap (λ (q : Names). eq_by_cmp path_cmp path q || has_path list path) (ap (λ (y : Names × _). y.0) e ∙ same) ∙ ap (λ b. b || has_path list path) (same-itself path)
has-path (x ∷ list) one path (inr at) same = or_second (eq_by_cmp path_cmp path x.0) (has_path list path) (has-path list one path at same)

has-left : {V : Type 0} (xs ys : List (Names × V)) (path : Names) → has_path xs path ≡ true → has_path (xs ++ ys) path ≡ true
has-left [] ys path h = absurd (true_false h refl)
has-left (x ∷ xs) ys path h = by (eq_by_cmp path_cmp path x.0)
    (λ t. ap (λ b. b || has_path (xs ++ ys) path) t)
    (λ f. or_second (eq_by_cmp path_cmp path x.0) (has_path (xs ++ ys) path) (has-left xs ys path (ap (λ b. b || has_path xs path) (sym f) ∙ h)))

has-move : (lines : List Line) (line : Line) (path : Names) → In lines line → target_of line ≡ Some path → has_path (moves_by lines) path ≡ true
has-move [] line path at to_is = absurd at
has-move (one ∷ lines) line path (inl e) to_is =
    ap (λ o. has_path (with_move o (length (filter_map out_path lines)) (moves_by lines)) path) (ap target_of e ∙ to_is)
    ∙ ap (λ b. b || has_path (moves_by lines) path) (same-itself path)
has-move (one ∷ lines) line path (inr at) to_is = by-target (target_of one) (has-move lines line path at to_is)
  where
    by-target : (o : Option Names) → has_path (moves_by lines) path ≡ true → has_path (with_move o (length (filter_map out_path lines)) (moves_by lines)) path ≡ true
    by-target None h = h
    by-target (Some to) h = or_second (eq_by_cmp path_cmp path to) (has_path (moves_by lines) path) h

module _ {B : Type 0} (from to : Tree B) (is : IsPair from to) where
  abbrev lines : List Line
  lines = report from to

  abbrev dirs : List Names
  dirs = (all from to is).dirs

  abbrev files : List CopyJob
  files = (all from to is).files

  first : AreFirst from to is (roots from to is)
  first = are-first from to is

  -- ---- copies

  abbrev copy_of : Names × Node B → Option InodeId
  copy_of place = cond (is_copied from place) (Some place.1.id) None

  copies-listed : IsListing copy_of to (map file_place files)
  copies-listed = record {
    sound = each-in (λ one. look copy_of to one.0 ≡ Some one.1) (map file_place files) (λ one at.
        let w : (job : CopyJob) × (In files job) × (file_place job ≡ one) = map_so file_place files one at in
        let copy : IsCopy from to is w.0 = files-are-copies from to is first w.0 w.1 in
        subst (λ (x : Names × InodeId). look copy_of to x.0 ≡ Some x.1) w.2
        (ap (look_by copy_of w.0.to) copy.at ∙ ap (λ b. cond b (Some copy.node.id) None) copy.copied ∙ ap (λ (id : InodeId). Some id) copy.id_is));
    complete = λ path id told. by_one (node_at to path)
        (λ node at. by (is_copied from (path, node))
        (λ t. has-path (map file_place files) (path, node.id) path (in-map file_place files (job_at node.id path) (copies-are-found from to is first path node at t)) refl)
        (λ f. absurd (none_some (sym (ap (λ b. cond b (Some node.id) None) f) ∙ ap (look_by copy_of path) (sym at) ∙ told))))
        (λ none. absurd (none_some (ap (look_by copy_of path) (sym none) ∙ told)));
  }

  jobs-of : (tree : Tree B) → map as_job (entries copy_of tree) ≡ map (λ place. job_at place.1.id place.0) (filter (is_copied from) tree)
  jobs-of [] = refl
  jobs-of (e ∷ es) = elim (is_copied from e) as (λ b. map as_job (cons_option (option_map (λ id. (e.0, id)) (cond b (Some e.1.id) None)) (entries copy_of es)) ≡ map (λ place. job_at place.1.id place.0) (cond b (e ∷ filter (is_copied from) es) (filter (is_copied from) es))) [
    | true ↦ ap (λ (jobs : List CopyJob). job_at e.1.id e.0 ∷ jobs) (jobs-of es)
    | false ↦ jobs-of es
  ]

  copies-are : copies_by files ≡ copies from to
  copies-are =
      ap (map as_job) (same-places (map file_place files) [] ∙ listing-is copy_of to (map file_place files) is.to_tree.sorted copies-listed)
      ∙ jobs-of to

  -- ---- puts

  abbrev place_by : Names × Node B → Option (Names × Node B) → Option (Option ℕ)
  place_by place None = cond (is_dir place.1) (Some None) None
  place_by place (Some old) = cond (same_place from to old.0 place.0) None (Some (Some (index_of (outs from to) old.0)))

  abbrev place_to : Names × Node B → Option (Option ℕ)
  place_to place = cond (is_root_path place.0) None (place_by place (place_of from place.1.id))

  root-old : (m : Node B) → node_at to [] ≡ Some m → place_of from m.id ≡ Some ([], is.from_root)
  root-old m at = place_of-here from is.from_tree [] is.from_root m.id is.from_at (ap (λ (x : Node B). x.id.0) (sym (same_some (sym is.to_at ∙ at))) ∙ sym is.same_root)

  below-root : (above : Names) (name : List ℕ) (m : Node B) → place_to (above ++ name ∷ [], m) ≡ place_by (above ++ name ∷ [], m) (place_of from m.id)
  below-root above name m = ap (λ b. cond b None (place_by (above ++ name ∷ [], m) (place_of from m.id))) (not_root above name)

  abbrev list : List (Names × Option ℕ)
  list = moves_by lines ++ map new_place dirs

  moved-there : (old new : Names) (was now : Node B) → node_at from old ≡ Some was → node_at to new ≡ Some now → was.id.0 ≡ now.id.0 → same_place from to old new ≡ false → look place_to to new ≡ Some (Some (index_of (outs from to) old))
  moved-there old new was now at_old at_new same apart = ap (look_by place_to new) at_new ∙ by_last (λ q. node_at to q ≡ Some now → same_place from to old q ≡ false → place_to (q, now) ≡ Some (Some (index_of (outs from to) old))) new
      (λ at apart. let root : [] ≡ old = ap (λ (x : Names × Node B). x.0) (same_some (sym (root-old now at) ∙ place_of-here from is.from_tree old was now.id at_old (sym same))) in
      absurd (true_false (ap (λ (q : Names). same_place from to q []) (sym root)) apart))
      (λ above name at apart. below-root above name now
      ∙ ap (place_by (above ++ name ∷ [], now)) (place_of-here from is.from_tree old was now.id at_old (sym same))
      ∙ ap (λ b. cond b None (Some (Some (index_of (outs from to) old)))) apart)
      at_new apart

  move-sound : (one : Names × Option ℕ) → In (moves_by lines) one → look place_to to one.0 ≡ Some one.1
  move-sound one at =
      let m : IsMove lines one = move-so lines one at in
      by-line from to is m.line
      (λ gone. absurd (no-target from to is m.line Deleted one.0 gone refl m.target_is))
      (λ moved.
      let target : moved.new ≡ one.0 = same_some (ap target_of moved.line_is ∙ m.target_is) in
      ap (look place_to to) (sym target)
      ∙ moved-there moved.old moved.new moved.was moved.now moved.at_old moved.at_new moved.same_id moved.apart
      ∙ ap (λ (line : Line). Some (Some (index_of (outs from to) line.path))) moved.line_is
      ∙ ap (λ (n : ℕ). Some (Some n)) (index-is from to is m.before m.line m.behind m.split (ap (λ (line : Line). is_out line.kind) (sym moved.line_is)))
      ∙ ap (λ o. Some o) (sym m.index_is))
      (λ changed. absurd (no-target from to is m.line Modified one.0 (ap (λ (x : Line). x.kind) (sym changed.line_is)) refl m.target_is))
      (λ made. absurd (no-target from to is m.line Created one.0 (ap (λ (x : Line). x.kind) (sym made.line_is)) refl m.target_is))
      (move-at lines one m)

  dir-there : (path : Names) → IsNewDir from to is path → look place_to to path ≡ Some None
  dir-there path dir = ap (look_by place_to path) dir.at ∙ by_last (λ q. node_at to q ≡ Some dir.node → place_to (q, dir.node) ≡ Some None) path
      (λ at. absurd (none_some (sym dir.new ∙ root-old dir.node at)))
      (λ above name at. below-root above name dir.node ∙ ap (place_by (above ++ name ∷ [], dir.node)) dir.new ∙ ap (λ b. cond b (Some None) None) dir.dir)
      dir.at

  dir-sound : (one : Names × Option ℕ) → In (map new_place dirs) one → look place_to to one.0 ≡ Some one.1
  dir-sound one at =
      let w : (path : Names) × (In dirs path) × (new_place path ≡ one) = map_so new_place dirs one at in
      subst (λ (x : Names × Option ℕ). look place_to to x.0 ≡ Some x.1) w.2 (dir-there w.0 (dirs-are-new from to is first w.0 w.1))

  put-complete : (path : Names) (v : Option ℕ) (m : Node B) → node_at to path ≡ Some m → place_to (path, m) ≡ Some v → has_path list path ≡ true
  put-complete path v m at told = by_last (λ q. node_at to q ≡ Some m → place_to (q, m) ≡ Some v → has_path list q ≡ true) path
      (λ at told. absurd (none_some told))
      (λ above name at told.
      let told_by : place_by (above ++ name ∷ [], m) (place_of from m.id) ≡ Some v = sym (below-root above name m) ∙ told in
      by_one (place_of from m.id)
      (λ old was.
      let so : (node_at from old.0 ≡ Some old.1) × (old.1.id.0 ≡ m.id.0) = place_of-so from m.id old is.from_tree.sorted was in
      by (same_place from to old.0 (above ++ name ∷ []))
      (λ t. absurd (none_some (sym (ap (λ b. cond b None (Some (Some (index_of (outs from to) old.0)))) t) ∙ ap (place_by (above ++ name ∷ [], m)) (sym was) ∙ told_by)))
      (λ f. has-left (moves_by lines) (map new_place dirs) (above ++ name ∷ [])
      (has-move lines (line_of Renamed old.0 (Some (above ++ name ∷ [])) old.1) (above ++ name ∷ []) (moved-in from to is old.0 (above ++ name ∷ []) old.1 m so.0 at so.1 f) refl)))
      (λ none. by (is_dir m)
      (λ t. has-path list (new_place (above ++ name ∷ [])) (above ++ name ∷ [])
      (in-right (moves_by lines) (map new_place dirs) (new_place (above ++ name ∷ []))
      (in-map new_place dirs (above ++ name ∷ []) (new-dirs-are-found from to is first (above ++ name ∷ []) (record { node = m; at = at; dir = t; new = none })))) refl)
      (λ f. absurd (none_some (sym (ap (λ b. cond b (Some None) None) f) ∙ ap (place_by (above ++ name ∷ [], m)) (sym none) ∙ told_by)))))
      at told

  puts-listed : IsListing place_to to list
  puts-listed = record {
    sound = each-in (λ one. look place_to to one.0 ≡ Some one.1) list (λ one at. by_append (moves_by lines) (map new_place dirs) one at (move-sound one) (dir-sound one));
    complete = λ path v told. by_one (node_at to path)
        (λ m at. put-complete path v m at (ap (look_by place_to path) (sym at) ∙ told))
        (λ none. absurd (none_some (ap (look_by place_to path) (sym none) ∙ told)));
  }

  one-put : (place : Names × Node B) → option_map as_put (entry place_to place) ≡ put_at from to place
  one-put place = elim (is_root_path place.0) as (λ b. option_map as_put (option_map (λ v. (place.0, v)) (cond b None (place_by place (place_of from place.1.id)))) ≡ cond b None (plain_put_by from to place (place_of from place.1.id))) [
    | true ↦ refl
    | false ↦ by-old (place_of from place.1.id)
  ]
    where
      by-old : (o : Option (Names × Node B)) → option_map as_put (option_map (λ v. (place.0, v)) (place_by place o)) ≡ plain_put_by from to place o
      by-old None = elim (is_dir place.1) as (λ b. option_map as_put (option_map (λ v. (place.0, v)) (cond b (Some None) None)) ≡ cond b (Some (NewDir place.0)) None) [ true ↦ refl | false ↦ refl ]
      by-old (Some old) = elim (same_place from to old.0 place.0) as (λ b. option_map as_put (option_map (λ v. (place.0, v)) (cond b None (Some (Some (index_of (outs from to) old.0))))) ≡ cond b None (Some (Back (index_of (outs from to) old.0) place.0))) [ true ↦ refl | false ↦ refl ]

  puts-of : (tree : Tree B) → map as_put (entries place_to tree) ≡ filter_map (put_at from to) tree
  puts-of [] = refl
  puts-of (e ∷ es) = one (entry place_to e) ∙ (λ i. cons_option (one-put e i) (puts-of es i))
    where
      one : (o : Option (Names × Option ℕ)) → map as_put (cons_option o (entries place_to es)) ≡ cons_option (option_map as_put o) (map as_put (entries place_to es))
      one None = refl
      one (Some place) = refl

  puts-are : puts_by lines dirs ≡ puts from to
  puts-are =
      ap (map as_put) (places-onto (moves_by lines) (map new_place dirs) [] ∙ same-places list [] ∙ listing-is place_to to list is.to_tree.sorted puts-listed)
      ∙ puts-of to

  -- ---- the plan

  pub plan-is : (names : Names) → planned lines (listings_of from to) (record { target = names; source = root_names to }) ≡ plan_of from to names
  plan-is names = λ i. record { tmp = (plan_of from to names).tmp; outs = outs-are from to i; puts = puts-are i; copies = copies-are i }

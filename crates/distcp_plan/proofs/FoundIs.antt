-- What is found is all that is new, and all files that are new or changed.
use Rattle.std.proofs.Common.{◌≡◌, ◌⊎◌, inl, inr, ℕ, zero, suc, ◌+◌, Bool, true, false, cond, Option, Some, None, is_some, List, [], ◌∷◌, ◌++◌, length, refl, ap, sym, subst, ◌∙◌, append_assoc, arith}
use Rattle.std.specs.Prelude.{not, ◌&&◌, slice_get}
use Rattle.std.specs.List.{filter_map, cons_option}
use Rattle.std.specs.Option.{option_map}
use Rattle.std.proofs.lemmas.List.{length-append}
use Rattle.hs_types.specs.Names.{Names}
use Rattle.hs_types.specs.declared.ids.InodeId.{InodeId}
use Rattle.hs_types.specs.declared.reply.Item.{Item}
use Rattle.hs_types.specs.declared.reply.Line.{Line}
use Rattle.hs_types.specs.declared.reply.LineKind.TheVariants.{Modified, Created}
use Rattle.hs_plain.specs.declared.plan.CopyJob.{CopyJob}
use Rattle.hs_plain.specs.declared.plan.Listing.{Listing}
use Rattle.hs_plain.specs.declared.state.Node.{Node}
use Rattle.hs_plain.specs.Tree.{Tree, node_at, is_dir, name_below, child_item, named_item, item_of, listing, place_of, path_at}
use Rattle.hs_plain.specs.Report.{line_of, report}
use Rattle.hs_plain.specs.Plan.{is_created, is_other, is_copied, translate, translate_created, new_dir_path, new_child, new_dirs_in, waiting_dirs, created_dir, listed_dirs, listing_at, listings_of}
use Rattle.hs_plain.proofs.ValidTrees.{first, second}
use Rattle.hs_plain.proofs.ValidShapes.{none_some, same_some, by_last, parent_of-last}
use Rattle.hs_plain.proofs.ValidLists.{In, in-left, in-right, by_append, in-filter_map, filter_map_so, not_so}
use Rattle.hs_plain.proofs.ValidHeld.{in-tree, found_place}
use Rattle.plan_laws.specs.Pair.{IsPair}
use Rattle.plan_laws.proofs.Paths.{by_one}
use Rattle.plan_laws.proofs.Places.{place_of-so, place_of-here, dir-above, last_of-last}
use Rattle.plan_laws.proofs.Child.{one_child}
use Rattle.plan_laws.proofs.Translated.{translated}
use Rattle.plan_laws.proofs.NewItems.{created-at}
use Rattle.plan_laws.proofs.Listed.{below-last, below-so}
use Rattle.plan_laws.proofs.Waiting.{IsNewDir, AreFirst, child-so, all-new-listed}
use Rattle.distcp_plan.specs.declared.found.Found.{Found}
use Rattle.distcp_plan.specs.Planned.{nothing, by_lines, by_listing, by_listings, all_found, renames}
use Rattle.distcp_plan.proofs.Effects.{job_at, dir_if, file_if, made_dir, made_file, dir_by, file_by, line_dir, line_file, item_dir, item_file, added, all-lines, all-items, slice-seam, then_by, twice, alike}
use Rattle.distcp_plan.proofs.Report.{by-line, changed-in, made-in, child-new}

pub id-same : (a b : InodeId) → a.0 ≡ b.0 → a ≡ b
id-same a b e = λ i. record { 0 = e i }

-- a new item's line leads to its path
made-path : (lines : List Line) (above : Names) (name : List ℕ) → translate_created lines (above ++ name ∷ []) ≡ translate lines above ++ name ∷ []
made-path lines above name = one_child (ap (translate lines) (parent_of-last above name)) (last_of-last above name)

made-dir : (lines : List Line) (b : Bool) (above : Names) (name : List ℕ) → made_dir lines b (above ++ name ∷ []) ≡ dir_if b (translate lines above ++ name ∷ [])
made-dir lines b [] name = ap (dir_if b) (made-path lines [] name)
made-dir lines b (x ∷ above) name = ap (dir_if b) (made-path lines (x ∷ above) name)

made-file : (lines : List Line) (id : InodeId) (b : Bool) (above : Names) (name : List ℕ) → made_file lines id b (above ++ name ∷ []) ≡ file_if id b (translate lines above ++ name ∷ [])
made-file lines id b [] name = ap (file_if id b) (made-path lines [] name)
made-file lines id b (x ∷ above) name = ap (file_if id b) (made-path lines (x ∷ above) name)

module _ {B : Type 0} (from to : Tree B) (is : IsPair from to) where
  abbrev lines : List Line
  lines = report from to

  -- a copy of a file that is new or changed
  pub record IsCopy (job : CopyJob) : Type 0 where
    pub node : Node B
    pub at : node_at to job.to ≡ Some node
    pub id_is : node.id ≡ job.id
    pub copied : is_copied from (job.to, node) ≡ true

  new-file : (path : Names) (node : Node B) → node_at to path ≡ Some node → is_dir node ≡ false → place_of from node.id ≡ None → IsCopy (job_at node.id path)
  new-file path node at file new = record { node = node; at = at; id_is = refl; copied = ap (λ b. not b && is_other (path, node) (place_of from node.id)) file ∙ ap (is_other (path, node)) new }

  file-so : (id : InodeId) (b : Bool) (path : Names) (job : CopyJob) → file_if id b path ≡ Some job → (b ≡ false) × (job_at id path ≡ job)
  file-so id true path job h = absurd (none_some h)
  file-so id false path job h = (refl, same_some h)

  -- ---- what a listing adds

  abbrev files_in : Names → List CopyJob
  files_in path = filter_map (item_file lines path) (listing to path)

  child-so-item : (path : Names) (item : Item) → In (listing to path) item → (n : List ℕ) × (m : Node B) × (node_at to (path ++ n ∷ []) ≡ Some m) × (item_of m n ≡ item)
  child-so-item path item at =
      let w : (place : Names × Node B) × (In to place) × (child_item path place ≡ Some item) = filter_map_so (child_item path) to item at in
      by_one (name_below path w.0.0)
      (λ n below. (n, w.0.1, ap (node_at to) (sym (below-so path w.0.0 n below)) ∙ found_place to is.to_tree.sorted w.0 w.1, same_some (sym (ap (named_item w.0.1) below) ∙ w.2)))
      (λ none. absurd (none_some (sym (ap (named_item w.0.1) none) ∙ w.2)))

  dirs-in : (path : Names) → IsNewDir from to is path → filter_map (item_dir lines path) (listing to path) ≡ new_dirs_in from to path
  dirs-in path dir = twice (child_item path) (item_dir lines path) (new_child from path) to one
    where
      one : (place : Names × Node B) → In to place → then_by (child_item path place) (item_dir lines path) ≡ new_child from path place
      one place at = by_one (name_below path place.0)
          (λ n below.
          let q : place.0 ≡ path ++ n ∷ [] = below-so path place.0 n below in
          let here : node_at to (path ++ n ∷ []) ≡ Some place.1 = ap (node_at to) (sym q) ∙ found_place to is.to_tree.sorted place at in
          ap (λ o. then_by (named_item place.1 o) (item_dir lines path)) below
          ∙ by-old (place_of from place.1.id) n q (child-new from to is path n dir.node place.1 dir.at dir.new here (place_of from place.1.id) refl)
          ∙ ap (λ o. cond (is_some o) (new_dir_path place (place_of from place.1.id)) None) (sym below))
          (λ none. ap (λ o. then_by (named_item place.1 o) (item_dir lines path)) none ∙ ap (λ o. cond (is_some o) (new_dir_path place (place_of from place.1.id)) None) (sym none))
        where
          by-old : (o : Option (Names × Node B)) (n : List ℕ) → place.0 ≡ path ++ n ∷ [] → renames lines place.1.id ≡ is_some o → cond (renames lines place.1.id) None (dir_if (is_dir place.1) (path ++ n ∷ [])) ≡ new_dir_path place o
          by-old None n q told = ap (λ b. cond b None (dir_if (is_dir place.1) (path ++ n ∷ []))) told ∙ ap (dir_if (is_dir place.1)) (sym q)
          by-old (Some old) n q told = ap (λ b. cond b None (dir_if (is_dir place.1) (path ++ n ∷ []))) told

  files-so : (path : Names) → IsNewDir from to is path → (job : CopyJob) → In (files_in path) job → IsCopy job
  files-so path dir job at =
      let w : (item : Item) × (In (listing to path) item) × (item_file lines path item ≡ Some job) = filter_map_so (item_file lines path) (listing to path) job at in
      let c : (n : List ℕ) × (m : Node B) × (node_at to (path ++ n ∷ []) ≡ Some m) × (item_of m n ≡ w.0) = child-so-item path w.0 w.1 in
      let told : item_file lines path (item_of c.1 c.0) ≡ Some job = ap (item_file lines path) c.3 ∙ w.2 in
      by_one (place_of from c.1.id)
      (λ old was. absurd (none_some (sym (ap (λ b. cond b None (file_if c.1.id (is_dir c.1) (path ++ c.0 ∷ []))) (child-new from to is path c.0 dir.node c.1 dir.at dir.new c.2 (Some old) was)) ∙ told)))
      (λ none. let f : (is_dir c.1 ≡ false) × (job_at c.1.id (path ++ c.0 ∷ []) ≡ job) = file-so c.1.id (is_dir c.1) (path ++ c.0 ∷ []) job (sym (ap (λ b. cond b None (file_if c.1.id (is_dir c.1) (path ++ c.0 ∷ []))) (child-new from to is path c.0 dir.node c.1 dir.at dir.new c.2 None none)) ∙ told) in
      subst IsCopy f.1 (new-file (path ++ c.0 ∷ []) c.1 c.2 f.0 none))

  file-in : (path : Names) (n : List ℕ) (m : Node B) → IsNewDir from to is path → node_at to (path ++ n ∷ []) ≡ Some m → is_dir m ≡ false → place_of from m.id ≡ None → In (files_in path) (job_at m.id (path ++ n ∷ []))
  file-in path n m dir at file new =
      in-filter_map (item_file lines path) (listing to path) (item_of m n) (job_at m.id (path ++ n ∷ []))
      (in-filter_map (child_item path) to (path ++ n ∷ [], m) (item_of m n) (in-tree to (path ++ n ∷ []) m at) (ap (named_item m) (below-last path n)))
      (ap (λ b. cond b None (file_if m.id (is_dir m) (path ++ n ∷ []))) (child-new from to is path n dir.node m dir.at dir.new at None new)
      ∙ ap (λ b. file_if m.id b (path ++ n ∷ [])) file)

  -- ---- the listings, one after the other

  pub record IsGrown (before after : Found) (listed : List Names) : Type 0 where
    pub keeps_dirs : (path : Names) → In before.dirs path → In after.dirs path
    pub keeps_files : (job : CopyJob) → In before.files job → In after.files job
    pub dirs_so : (path : Names) → In after.dirs path → In before.dirs path ⊎ IsNewDir from to is path
    pub files_so : (job : CopyJob) → In after.files job → In before.files job ⊎ IsCopy job
    pub has_dirs : (path : Names) → In listed path → In after.dirs path
    pub has_files : (path : Names) → In listed path → (job : CopyJob) → In (files_in path) job → In after.files job

  grown-none : (found : Found) → IsGrown found found []
  grown-none found = record {
    keeps_dirs = λ path at. at;
    keeps_files = λ job at. at;
    dirs_so = λ path at. inl at;
    files_so = λ job at. inl at;
    has_dirs = λ path none. absurd none;
    has_files = λ path none. absurd none;
  }

  abbrev mid : Names → Found → Found
  mid path found = added (new_dirs_in from to path) (files_in path) found

  grown-one : (found after : Found) (path : Names) (listed : List Names) → IsNewDir from to is path → In found.dirs path → IsGrown (mid path found) after listed → IsGrown found after (path ∷ listed)
  grown-one found after path listed dir there rest = record {
    keeps_dirs = λ p at. rest.keeps_dirs p (in-left found.dirs (new_dirs_in from to path) p at);
    keeps_files = λ job at. rest.keeps_files job (in-left found.files (files_in path) job at);
    dirs_so = λ p at. old-dir p (rest.dirs_so p at);
    files_so = λ job at. old-file job (rest.files_so job at);
    has_dirs = λ p at. has-dir p at;
    has_files = λ p at. has-file p at;
  }
    where
      old-dir : (p : Names) → In (found.dirs ++ new_dirs_in from to path) p ⊎ IsNewDir from to is p → In found.dirs p ⊎ IsNewDir from to is p
      old-dir p (inr new) = inr new
      old-dir p (inl at) = by_append found.dirs (new_dirs_in from to path) p at (λ old. inl old) (λ child. inr (child-so from to is path p child).0)

      old-file : (job : CopyJob) → In (found.files ++ files_in path) job ⊎ IsCopy job → In found.files job ⊎ IsCopy job
      old-file job (inr new) = inr new
      old-file job (inl at) = by_append found.files (files_in path) job at (λ old. inl old) (λ child. inr (files-so path dir job child))

      has-dir : (p : Names) → In (path ∷ listed) p → In after.dirs p
      has-dir p (inl e) = rest.keeps_dirs p (in-left found.dirs (new_dirs_in from to path) p (subst (In found.dirs) e there))
      has-dir p (inr at) = rest.has_dirs p at

      has-file : (p : Names) → In (path ∷ listed) p → (job : CopyJob) → In (files_in p) job → In after.files job
      has-file p (inl e) job at = rest.keeps_files job (in-right found.files (files_in path) job (subst (λ (q : Names). In (files_in q) job) (sym e) at))
      has-file p (inr there) job at = rest.has_files p there job at

  abbrev after : ℕ → ℕ → List Names → Found → Found
  after more at waiting found = by_listings lines at (filter_map (listing_at to) (waiting_dirs more from to waiting)) found

  run : (more at : ℕ) (done waiting : List Names) (found : Found) → found.dirs ≡ done ++ waiting → at ≡ length done → ((path : Names) → In waiting path → IsNewDir from to is path) → IsGrown found (after more at waiting found) (waiting_dirs more from to waiting)
  run zero at done [] found dirs here new = grown-none found
  run zero at done (path ∷ waiting) found dirs here new = grown-none found
  run (suc more) at done [] found dirs here new = grown-none found
  run (suc more) at done (path ∷ waiting) found dirs here new =
      let dir : IsNewDir from to is path = new path (inl refl) in
      let children : List Names = new_dirs_in from to path in
      let one : Listing = record { dir = dir.node.id; items = listing to path } in
      let rest : List Listing = filter_map (listing_at to) (waiting_dirs more from to (waiting ++ children)) in
      let is_listed : filter_map (listing_at to) (path ∷ waiting_dirs more from to (waiting ++ children)) ≡ one ∷ rest =
      ap (λ o. cons_option (option_map (λ (node : Node B). record { dir = node.id; items = listing to path }) o) rest) dir.at in
      let is_dir_there : slice_get found.dirs at ≡ Some path = ap (slice_get found.dirs) here ∙ ap (λ (ds : List Names). slice_get ds (length done)) dirs ∙ slice-seam done path waiting in
      let is_mid : by_listing lines (slice_get found.dirs at) (listing to path) found ≡ mid path found =
      ap (λ o. by_listing lines o (listing to path) found) is_dir_there ∙ all-items lines path (listing to path) found ∙ ap (λ ds. added ds (files_in path) found) (dirs-in path dir) in
      let is_after : after (suc more) at (path ∷ waiting) found ≡ after more (at + 1) (waiting ++ children) (mid path found) =
      ap (λ ls. by_listings lines at ls found) is_listed ∙ ap (by_listings lines (at + 1) rest) is_mid in
      let parts : length (done ++ path ∷ []) ≡ length done + 1 = length-append done (path ∷ []) in
      subst (λ a. IsGrown found a (path ∷ waiting_dirs more from to (waiting ++ children))) (sym is_after)
      (grown-one found (after more (at + 1) (waiting ++ children) (mid path found)) path (waiting_dirs more from to (waiting ++ children)) dir
      (subst (λ (ds : List Names). In ds path) (sym dirs) (in-right done (path ∷ waiting) path (inl refl)))
      (run more (at + 1) (done ++ path ∷ []) (waiting ++ children) (mid path found)
      (ap (λ ds. ds ++ children) dirs ∙ append_assoc done (path ∷ waiting) children ∙ sym (append_assoc done (path ∷ []) (waiting ++ children)))
      (omega arith)
      (λ p there. by_append waiting children p there (λ old. new p (inr old)) (λ child. (child-so from to is path p child).0))))

  -- ---- what the lines tell

  one-dir : (line : Line) → In lines line → line_dir lines line ≡ created_dir to line
  one-dir line at = by-line from to is line
      (λ gone. ap (λ k. dir_by lines k line) gone ∙ sym (ap (λ k. cond (is_created k && line.is_dir) (path_at (place_of to line.id)) None) gone))
      (λ moved. subst (λ (x : Line). line_dir lines x ≡ created_dir to x) moved.line_is refl)
      (λ changed. subst (λ (x : Line). line_dir lines x ≡ created_dir to x) changed.line_is refl)
      (λ made. subst (λ (x : Line). line_dir lines x ≡ created_dir to x) made.line_is
      (made-dir lines (is_dir made.node) made.old.0 made.name
      ∙ ap (dir_if (is_dir made.node)) (created-at from to is made.above made.name made.node made.dir made.old.1 made.old.0 made.at made.there made.new made.old_dir).1
      ∙ ap (λ o. cond (is_dir made.node) (path_at o) None) (sym (place_of-here to is.to_tree (made.above ++ made.name ∷ []) made.node made.node.id made.at refl))))
      at

  one-file : (line : Line) (job : CopyJob) → In lines line → line_file lines line ≡ Some job → IsCopy job
  one-file line job at told = by-line from to is line
      (λ gone. absurd (none_some (sym (ap (λ k. file_by lines k line) gone) ∙ told)))
      (λ moved. absurd (none_some (ap (line_file lines) moved.line_is ∙ told)))
      (λ changed.
      let f : (is_dir changed.was ≡ false) × (job_at changed.was.id (translate lines changed.old) ≡ job) = file-so changed.was.id (is_dir changed.was) (translate lines changed.old) job (ap (line_file lines) changed.line_is ∙ told) in
      let path : translate lines changed.old ≡ changed.new = translated from to is changed.old changed.new changed.was changed.now changed.at_old changed.at_new changed.same_id in
      let there : place_of from changed.now.id ≡ Some (changed.old, changed.was) = place_of-here from is.from_tree changed.old changed.was changed.now.id changed.at_old (sym changed.same_id) in
      subst IsCopy ((λ i. job_at (id-same changed.now.id changed.was.id (sym changed.same_id) i) (sym path i)) ∙ f.1)
      (record {
        node = changed.now;
        at = changed.at_new;
        id_is = refl;
        copied = ap (λ b. not b && is_other (changed.new, changed.now) (place_of from changed.now.id)) (sym (is.one_kind changed.old changed.new changed.was changed.now changed.at_old changed.at_new changed.same_id) ∙ f.0)
            ∙ ap (is_other (changed.new, changed.now)) there ∙ changed.changed;
      }))
      (λ made.
      let path : translate lines made.old.0 ++ made.name ∷ [] ≡ made.above ++ made.name ∷ [] = (created-at from to is made.above made.name made.node made.dir made.old.1 made.old.0 made.at made.there made.new made.old_dir).1 in
      let f : (is_dir made.node ≡ false) × (job_at made.node.id (made.above ++ made.name ∷ []) ≡ job) = file-so made.node.id (is_dir made.node) (made.above ++ made.name ∷ []) job
      (sym (made-file lines made.node.id (is_dir made.node) made.old.0 made.name ∙ ap (file_if made.node.id (is_dir made.node)) path) ∙ ap (line_file lines) made.line_is ∙ told) in
      subst IsCopy f.1 (new-file (made.above ++ made.name ∷ []) made.node made.at f.0 made.new))
      at

  -- ---- all that is found

  abbrev pub roots : List Names
  roots = filter_map (created_dir to) lines

  abbrev pub all : Found
  all = all_found lines (listings_of from to)

  abbrev begun : Found
  begun = record { dirs = roots; files = filter_map (line_file lines) lines }

  is-begun : by_lines lines lines nothing ≡ begun
  is-begun = all-lines lines lines nothing ∙ ap (λ ds. record { dirs = ds; files = filter_map (line_file lines) lines }) (alike (line_dir lines) (created_dir to) lines one-dir)

  module _ (are : AreFirst from to is roots) where
    grown : IsGrown begun all (listed_dirs from to)
    grown = subst (λ a. IsGrown begun a (listed_dirs from to)) (ap (by_listings lines 0 (listings_of from to)) (sym is-begun)) (run (length to) 0 [] roots begun refl refl are.new)

    pub dirs-are-new : (path : Names) → In all.dirs path → IsNewDir from to is path
    dirs-are-new path at = so (grown.dirs_so path at)
      where
        so : In roots path ⊎ IsNewDir from to is path → IsNewDir from to is path
        so (inl root) = are.new path root
        so (inr new) = new

    pub new-dirs-are-found : (path : Names) → IsNewDir from to is path → In all.dirs path
    new-dirs-are-found path new = grown.has_dirs path (all-new-listed from to is roots are path new)

    pub files-are-copies : (job : CopyJob) → In all.files job → IsCopy job
    files-are-copies job at = so (grown.files_so job at)
      where
        so : In begun.files job ⊎ IsCopy job → IsCopy job
        so (inl line) = let w : (one : Line) × (In lines one) × (line_file lines one ≡ Some job) = filter_map_so (line_file lines) lines job line in one-file w.0 job w.1 w.2
        so (inr new) = new

    line-found : (line : Line) (job : CopyJob) → In lines line → line_file lines line ≡ Some job → In all.files job
    line-found line job at told = grown.keeps_files job (in-filter_map (line_file lines) lines line job at told)

    new-found : (q : Names) (m : Node B) → node_at to q ≡ Some m → is_dir m ≡ false → place_of from m.id ≡ None → In all.files (job_at m.id q)
    new-found q m at file new = by_last (λ q. node_at to q ≡ Some m → In all.files (job_at m.id q)) q
        (λ at. absurd (none_some (sym new ∙ place_of-here from is.from_tree [] is.from_root m.id is.from_at (ap (λ (x : Node B). x.id.0) (sym (same_some (sym is.to_at ∙ at))) ∙ sym is.same_root))))
        (λ above name at.
        let d : (dir : Node B) × (node_at to above ≡ Some dir) × (is_dir dir ≡ true) = dir-above to is.to_tree above name m at in
        by_one (place_of from d.0.id)
        (λ old was. line-found (line_of Created (old.0 ++ name ∷ []) None m) (job_at m.id (above ++ name ∷ [])) (made-in from to is above name m d.0 old at d.1 new was)
        (made-file lines m.id (is_dir m) old.0 name
        ∙ ap (file_if m.id (is_dir m)) (created-at from to is above name m d.0 old.1 old.0 at d.1 new was).1
        ∙ ap (λ b. file_if m.id b (above ++ name ∷ [])) file))
        (λ gone. let dir : IsNewDir from to is above = record { node = d.0; at = d.1; dir = d.2; new = gone } in
        grown.has_files above (all-new-listed from to is roots are above dir) (job_at m.id (above ++ name ∷ [])) (file-in above name m dir at file new)))
        at

    pub copies-are-found : (q : Names) (m : Node B) → node_at to q ≡ Some m → is_copied from (q, m) ≡ true → In all.files (job_at m.id q)
    copies-are-found q m at copied = by_one (place_of from m.id)
        (λ old was.
        let so : (node_at from old.0 ≡ Some old.1) × (old.1.id.0 ≡ m.id.0) = place_of-so from m.id old is.from_tree.sorted was in
        line-found (line_of Modified old.0 None old.1) (job_at m.id q) (changed-in from to is old.0 q old.1 m so.0 at so.1 (ap (is_other (q, m)) (sym was) ∙ second (not (is_dir m)) (is_other (q, m) (place_of from m.id)) copied))
        (ap (λ b. file_if old.1.id b (translate lines old.0)) (is.one_kind old.0 q old.1 m so.0 at so.1 ∙ file)
        ∙ (λ i. Some (job_at (id-same old.1.id m.id so.1 i) (translated from to is old.0 q old.1 m so.0 at so.1 i)))))
        (λ none. new-found q m at file none)
      where
        file : is_dir m ≡ false
        file = not_so (is_dir m) (first (not (is_dir m)) (is_other (q, m) (place_of from m.id)) copied)

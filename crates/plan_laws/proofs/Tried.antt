-- A step's call that may be refused: what it leaves of what a state holds below a root.
use Rattle.std.proofs.Common.{◌≡◌, ℕ, Bool, true, false, cond, Option, Some, None, is_some, Ok, Err, List, [], ◌∷◌, ◌++◌, map, refl, ap, sym, subst, ◌∙◌, append-nil, append_assoc}
use Rattle.std.specs.Prelude.{not, ◌&&◌}
use Rattle.std.specs.List.{list_all, AllByRecursion}
use Rattle.hs_types.specs.Names.{Names}
use Rattle.hs_types.specs.Paths.{path_of}
use Rattle.hs_types.specs.declared.ids.InodeId.{InodeId}
use Rattle.hs_types.specs.declared.path.Path.{Path}
use Rattle.hs_types.specs.declared.refusal.Refusal.{Refusal}
use Rattle.hs_types.specs.declared.reply.Reply.{Reply}
use Rattle.hs_types.specs.declared.reply.Reply.TheVariants as replies
use Rattle.hs_plain.specs.declared.state.Node.{Node}
use Rattle.hs_plain.specs.declared.state.State.{State}
use Rattle.hs_plain.specs.declared.state.Body.TheVariants.{File}
use Rattle.hs_plain.specs.Asked.{Asked, ◌>>=◌, refuse_if, both}
use Rattle.hs_plain.specs.Files.{plain_files}
use Rattle.hs_plain.specs.Tree.{node_at, found, walk, walks_above, is_dir, is_dir_body, is_root_path, parent_of}
use Rattle.hs_plain.specs.State.{plain_of}
use Rattle.hs_plain.specs.Modifying.{live_path, mkdir_at, create_at, takes_place_of, append_at, file_in, delete_at, rename_at, may_move}
use Rattle.hs_plain.specs.Answer.{answer, is_ok_reply, reply_to, replied, made_reply}
use Rattle.hs_plain.specs.Change.{after}
use Rattle.hs_plain.specs.Span.{paths_in}
use Rattle.hs_plain.specs.Valid.{is_dir_node, IsValid}
use Rattle.hs_plain.specs.Plan.{rest_below}
use Rattle.hs_plain.proofs.ValidTrees.{first, second}
use Rattle.hs_plain.proofs.ValidTrees as tests
use Rattle.hs_plain.proofs.ValidShapes.{true_false, by_last, parent_of-last}
use Rattle.hs_plain.proofs.ValidLists.{false_by}
use Rattle.hs_plain.proofs.ValidAsked.{same_ok, ok_then, walked, IsFileAt, append_there, MayMove, rename_allowed, lands_outside}
use Rattle.hs_plain.proofs.ValidNodes.{shape, shape_some}
use Rattle.hs_plain.proofs.ValidShapes.{Shape}
use Rattle.hs_plain.proofs.Validity.{valid-after}
use Rattle.plan_laws.specs.Pair.{IsTree}
use Rattle.plan_laws.specs.Copies.{Content, Contents, Create, Append, path_of_call, is_dir_seen, is_file_seen, content_of}
use Rattle.plan_laws.specs.Bridge.{held, Leads}
use Rattle.plan_laws.specs.Steps.{Step, Move, Make, Fill, Drop, step_done, StepGoes, step_call, StepLeads}
use Rattle.plan_laws.specs.Lanes.{accepted_entry, call_tried, calls_tried}
use Rattle.plan_laws.specs.inside.Taken.{step_goes, step_tried, steps_tried}
use Rattle.plan_laws.proofs.Paths.{by, rest-so}
use Rattle.plan_laws.proofs.Places.{dir-above}
use Rattle.plan_laws.proofs.Roots.{IsRootAt}
use Rattle.plan_laws.proofs.Steps.{tree-of, own-entry}
use Rattle.plan_laws.proofs.Texts.{IsAllowed}

err_ok : {X : Type 0} {why : Refusal} {x : X} → Err why ≡ Ok x → ⊥
err_ok h = cc

-- ---- a step that goes

both_so : (a b : Bool) → (a && b) ≡ true → (a ≡ true) × (b ≡ true)
both_so a b h = (tests.first a b h, tests.second a b h)

not_so : (b : Bool) → not b ≡ true → b ≡ false
not_so true h = absurd (true_false h refl)
not_so false h = refl

none-so : {X : Type 0} (o : Option X) → is_some o ≡ false → o ≡ None
none-so None h = refl
none-so (Some x) h = absurd (true_false refl h)

dir-there : (o : Option Content) → is_dir_seen o ≡ true → (d : Content) × (o ≡ Some d) × (is_dir_body d ≡ true)
dir-there None h = absurd (true_false h refl)
dir-there (Some d) h = (d, refl, h)

not-root : (path : Names) → is_root_path path ≡ false → path ≡ [] → ⊥
not-root path h e = true_false (ap is_root_path e) h

goes-so : (seen : Contents) (step : Step) → step_goes seen step ≡ true → StepGoes seen step
goes-so seen (Move old above name) h =
    let a = both_so (not (is_root_path old)) _ h in
    let b = both_so (not (is_some (rest_below old (above ++ name ∷ [])))) _ a.1 in
    let c = both_so (is_some (seen old)) _ b.1 in
    let d = both_so (is_dir_seen (seen above)) _ c.1 in (
      record { there = c.0; above_dir = dir-there (seen above) d.0; free = none-so (seen (above ++ name ∷ [])) (not_so _ d.1) },
      not-root old (not_so _ a.0),
      none-so (rest_below old (above ++ name ∷ [])) (not_so _ b.0),
    )
goes-so seen (Make above name) h = let a = both_so (is_dir_seen (seen above)) _ h in record { above_dir = dir-there (seen above) a.0; free = none-so (seen (above ++ name ∷ [])) (not_so _ a.1) }
goes-so seen (Fill call) h = let a = both_so (is_dir_seen (seen (parent_of (path_of_call call)))) _ h in record { above = a.0; fits = a.1 }
goes-so seen (Drop name) h = h

-- ---- a call that is answered Ok

asked-so : {X : Type 0} (reply : Reply) (a : Asked X) → is_ok_reply (reply_to (replied reply a)) ≡ true → (x : X) × (a ≡ Ok x)
asked-so reply (Ok x) h = (x, refl)
asked-so reply (Err why) h = absurd (true_false h refl)

allowed-so : (text : List ℕ) {Y : Type 0} (f : Names → Asked Y) (y : Y) → (live_path text >>= f) ≡ Ok y → IsAllowed text
allowed-so text f y h =
    let a : (path : Names) × (live_path text ≡ Ok path) × (f path ≡ Ok y) = ok_then (live_path text) f y h in
    let b : (path : Path) × (path_of text ≡ Ok path) × (plain_of path ≡ Ok a.0) = ok_then (path_of text) plain_of a.0 a.1 in
    (b.0, b.1)

-- whether a text breaks no path rule
abbrev pub is_read_so : Asked Path → Bool
is_read_so (Ok path) = true
is_read_so (Err why) = false

abbrev pub is_allowed : List ℕ → Bool
is_allowed text = is_read_so (path_of text)

allowed-test : (text : List ℕ) → IsAllowed text → is_allowed text ≡ true
allowed-test text h = ap is_read_so h.1

read-so : (text : List ℕ) → is_allowed text ≡ true → IsAllowed text
read-so text h = by-read (path_of text) refl h
  where
    by-read : (read : Asked Path) → path_of text ≡ read → is_read_so read ≡ true → IsAllowed text
    by-read (Ok path) e h = (path, e)
    by-read (Err why) e h = absurd (true_false h refl)

one-so : (text : List ℕ) → list_all is_allowed (text ∷ []) ≡ true → IsAllowed text
one-so text h = read-so text (tests.first (is_allowed text) true h)

asked-allowed : (text : List ℕ) {Y : Type 0} (f : Names → Asked Y) (y : Y) → (live_path text >>= f) ≡ Ok y → is_allowed text ≡ true
asked-allowed text f y h = allowed-test text (allowed-so text f y h)

live-allowed : (text : List ℕ) (path : Names) → live_path text ≡ Ok path → is_allowed text ≡ true
live-allowed text path h = let a : (read : Path) × (path_of text ≡ Ok read) × (plain_of read ≡ Ok path) = ok_then (path_of text) plain_of path h in allowed-test text (a.0, a.1)

both-ok : {X Y : Type 0} (a : Asked X) (b : Asked Y) (z : X × Y) → both a b ≡ Ok z → (a ≡ Ok z.0) × (b ≡ Ok z.1)
both-ok (Ok x) (Ok y) z h = (ap (λ p. Ok p.0) (same_ok h), ap (λ p. Ok p.1) (same_ok h))
both-ok (Ok x) (Err why) z h = absurd (err_ok h)
both-ok (Err why) (Ok y) z h = absurd (err_ok h)
both-ok (Err a) (Err b) z h = absurd (err_ok h)

-- where a text leads, the tests behind it are of that path
led : (text : List ℕ) (path : Names) {Y : Type 0} (f : Names → Asked Y) (y : Y) → live_path text ≡ Ok path → (live_path text >>= f) ≡ Ok y → f path ≡ Ok y
led text path f y leads h = ap (λ (a : Asked Names). a >>= f) (sym leads) ∙ h

refused_not : (b : Bool) (why : Refusal) (u : Unit {0}) → refuse_if b why ≡ Ok u → b ≡ false
refused_not true why u h = absurd (err_ok h)
refused_not false why u h = refl

module _ (root : Names) (id : InodeId) (state : State (List ℕ)) (valid : IsValid state) (at : IsRootAt state root id) where
  is : IsTree state.tree
  is = tree-of state valid

  abbrev seen : Contents
  seen = held state root

  dir-seen : (o : Option (Node (List ℕ))) → is_dir_node o ≡ true → is_dir_seen (content_of o) ≡ true
  dir-seen None h = h
  dir-seen (Some node) h = h

  dir-unseen : (o : Option (Node (List ℕ))) → is_dir_node o ≡ false → is_dir_seen (content_of o) ≡ false
  dir-unseen None h = refl
  dir-unseen (Some node) h = h

  root-dir : is_dir_seen (seen []) ≡ true
  root-dir = let node : (n : Node (List ℕ)) × (node_at state.tree root ≡ Some n) × (shape n ≡ (id.0, true)) = shape_some (node_at state.tree root) (id.0, true) at.0 in
      ap (λ (p : Names). is_dir_seen (content_of (node_at state.tree p))) (append-nil root) ∙ ap (λ o. is_dir_seen (content_of o)) node.1 ∙ ap (λ (s : Shape). s.1) node.2

  above-seen : (above : Names) (name : List ℕ) (u : Unit {0}) → walks_above state.tree (root ++ (above ++ name ∷ [])) ≡ Ok u → is_dir_seen (seen above) ≡ true
  above-seen above name u h = dir-seen (node_at state.tree (root ++ above)) (walked state.tree [] (root ++ above) name u (ap (walks_above state.tree) (append_assoc root above (name ∷ [])) ∙ h))

  free-seen : (o : Option (Node (List ℕ))) → is_some o ≡ false → is_some (content_of o) ≡ false
  free-seen None h = refl
  free-seen (Some node) h = absurd (true_false refl h)

  and_so : (a b : Bool) → a ≡ true → b ≡ true → (a && b) ≡ true
  and_so a b h k = tests.both h k

  mkdir-goes : (text : List ℕ) (above : Names) (name : List ℕ) (path : Names) → Leads text root (above ++ name ∷ []) → mkdir_at state text ≡ Ok path → step_goes seen (Make above name) ≡ true
  mkdir-goes text above name path leads h =
      let a = ok_then (walks_above state.tree (root ++ (above ++ name ∷ []))) _ path (led text (root ++ (above ++ name ∷ [])) _ path leads h) in
      let b = ok_then (refuse_if (is_some (node_at state.tree (root ++ (above ++ name ∷ [])))) _) _ path a.2 in
      and_so (is_dir_seen (seen above)) (not (is_some (seen (above ++ name ∷ [])))) (above-seen above name a.0 a.1) (ap not (free-seen (node_at state.tree (root ++ (above ++ name ∷ []))) (refused_not _ _ b.0 b.1)))

  takes-so : (o : Option (Node (List ℕ))) (u : Unit {0}) → takes_place_of true o ≡ Ok u → not (is_dir_seen (content_of o)) ≡ true
  takes-so None u h = refl
  takes-so (Some node) u h = ap not (refused_not (is_dir node) _ u h)

  create-goes : (text : List ℕ) (path there : Names) → Leads text root path → create_at state text true ≡ Ok there → step_goes seen (Fill (Create path)) ≡ true
  create-goes text path there leads h =
      let a = ok_then (walks_above state.tree (root ++ path)) _ there (led text (root ++ path) _ there leads h) in
      let b = ok_then (takes_place_of true (node_at state.tree (root ++ path))) _ there a.2 in
      and_so (is_dir_seen (seen (parent_of path))) (not (is_dir_seen (seen path))) (by_last (λ p. walks_above state.tree (root ++ p) ≡ Ok a.0 → is_dir_seen (seen (parent_of p)) ≡ true) path
      (λ _. root-dir)
      (λ above name reached. ap (λ (p : Names). is_dir_seen (seen p)) (parent_of-last above name) ∙ above-seen above name a.0 reached)
      a.1) (takes-so (node_at state.tree (root ++ path)) b.0 b.1)

  file-seen : (o : Option (Node (List ℕ))) (node : Node (List ℕ)) (file : List ℕ) → o ≡ Some node → node.body ≡ File file → is_file_seen (content_of o) ≡ true
  file-seen o node file there body = ap (λ o. is_file_seen (content_of o)) there ∙ ap (λ (b : Content). not (is_dir_body b)) body

  append-goes : (text bytes : List ℕ) (path : Names) (there : Names × Node (List ℕ) × List ℕ) → Leads text root path → append_at state text ≡ Ok there → step_goes seen (Fill (Append path bytes)) ≡ true
  append-goes text bytes path there leads h =
      let file : IsFileAt state.tree there.0 there.1 there.2 = append_there state text there h in
      let a = ok_then (walk state.tree (root ++ path)) _ there (led text (root ++ path) _ there leads h) in
      let b = ok_then (file_in a.0.body) _ there a.2 in
      let same : root ++ path ≡ there.0 = ap (λ (x : Names × Node (List ℕ) × List ℕ). x.0) (same_ok b.2) in
      let node : node_at state.tree (root ++ path) ≡ Some there.1 = ap (node_at state.tree) same ∙ file.there in
      and_so (is_dir_seen (seen (parent_of path))) (is_file_seen (seen path)) (by_last (λ p. node_at state.tree (root ++ p) ≡ Some there.1 → is_dir_seen (seen (parent_of p)) ≡ true) path
      (λ _. root-dir)
      (λ above name here.
      let d : (dir : Node (List ℕ)) × (node_at state.tree (root ++ above) ≡ Some dir) × (is_dir dir ≡ true) = dir-above state.tree is (root ++ above) name there.1 (ap (node_at state.tree) (append_assoc root above (name ∷ [])) ∙ here) in
      ap (λ (p : Names). is_dir_seen (seen p)) (parent_of-last above name) ∙ ap (λ o. is_dir_seen (content_of o)) d.1 ∙ d.2)
      node) (file-seen (node_at state.tree (root ++ path)) there.1 there.2 node file.body)

  node-seen : (o : Option (Node (List ℕ))) (node : Node (List ℕ)) → found o ≡ Ok node → is_some (content_of o) ≡ true
  node-seen None node h = absurd (err_ok h)
  node-seen (Some one) node h = refl

  delete-goes : (text name : List ℕ) (path : Names) → Leads text root (name ∷ []) → delete_at state text true ≡ Ok path → step_goes seen (Drop name) ≡ true
  delete-goes text name path leads h =
      let a = ok_then (walk state.tree (root ++ name ∷ [])) _ path (led text (root ++ name ∷ []) _ path leads h) in
      let b = ok_then (walks_above state.tree (root ++ name ∷ [])) _ a.0 a.1 in
      node-seen (node_at state.tree (root ++ name ∷ [])) a.0 b.2

  both-leads : (old_text new_text : List ℕ) (old new : Names) (paths : Names × Names) → live_path old_text ≡ Ok old → live_path new_text ≡ Ok new → rename_at state old_text new_text ≡ Ok paths → paths ≡ (old, new)
  both-leads old_text new_text old new paths leads to h =
      let a = ok_then (both (live_path old_text) (live_path new_text)) _ paths h in
      let b = ok_then (may_move state a.0.0 a.0.1) _ paths a.2 in
      sym (same_ok b.2) ∙ same_ok (sym a.1 ∙ (λ i. both (leads i) (to i)))

  rename-goes : (old_text new_text : List ℕ) (old above : Names) (name : List ℕ) (paths : Names × Names) → Leads old_text root old → Leads new_text root (above ++ name ∷ []) → rename_at state old_text new_text ≡ Ok paths → step_goes seen (Move old above name) ≡ true
  rename-goes old_text new_text old above name paths leads to h =
      let same : paths ≡ (root ++ old, root ++ (above ++ name ∷ [])) = both-leads old_text new_text (root ++ old) (root ++ (above ++ name ∷ [])) paths leads to h in
      let may : MayMove state.tree (root ++ old) (root ++ (above ++ name ∷ [])) = subst (λ (p : Names × Names). MayMove state.tree p.0 p.1) same (rename_allowed state old_text new_text paths h).moves in
      let outside : (rest : Names) → root ++ (above ++ name ∷ []) ≡ (root ++ old) ++ rest → ⊥ = lands_outside state.tree (root ++ old) (root ++ (above ++ name ∷ [])) may in
      and_so (not (is_root_path old)) _ (ap not (false_by (is_root_path old) (λ t. outside (above ++ name ∷ []) (ap (λ (p : Names). p ++ (above ++ name ∷ [])) (sym (append-nil root) ∙ ap (λ (p : Names). root ++ p) (sym (root-so old t)))))))
      (and_so (not (is_some (rest_below old (above ++ name ∷ [])))) _ (ap not (free-rest (rest_below old (above ++ name ∷ [])) refl outside))
      (and_so (is_some (seen old)) _ (ap (λ o. is_some (content_of o)) may.there.1)
      (and_so (is_dir_seen (seen above)) _ (above-seen above name may.reached.0 may.reached.1)
      (ap (λ o. not (is_some (content_of o))) may.free))))
    where
      root-so : (path : Names) → is_root_path path ≡ true → path ≡ []
      root-so [] t = refl
      root-so (n ∷ path) t = absurd (true_false t refl)

      free-rest : (o : Option Names) → rest_below old (above ++ name ∷ []) ≡ o → ((rest : Names) → root ++ (above ++ name ∷ []) ≡ (root ++ old) ++ rest → ⊥) → is_some o ≡ false
      free-rest None e outside = refl
      free-rest (Some rest) e outside = absurd (outside rest (ap (λ (p : Names). root ++ p) (rest-so old (above ++ name ∷ []) rest e) ∙ sym (append_assoc root old rest)))

-- ---- one step

-- a text stands for a path below a root where it breaks no path rule
abbrev pub MayLead : (Names → List ℕ) → Names → Names → Type 0
MayLead text root path = IsAllowed (text path) → Leads (text path) root path

module _ (text : Names → List ℕ) where
  abbrev pub StepMayLead : Names → Step → Type 0
  StepMayLead root (Move old above name) = MayLead text root old × MayLead text root (above ++ name ∷ [])
  StepMayLead root (Make above name) = MayLead text root (above ++ name ∷ [])
  StepMayLead root (Fill call) = MayLead text root (path_of_call call)
  StepMayLead root (Drop name) = MayLead text root (name ∷ [])

  abbrev pub reads : Step → Bool
  reads step = list_all is_allowed (paths_in (step_call text step))

  -- what a state holds below a root
  pub record Sees (root : Names) (state : State (List ℕ)) (holds : Contents) : Type 0 where
    pub valid : IsValid state
    pub id : InodeId
    pub at : IsRootAt state root id
    pub sees : held state root ≡ holds

  one-read : (one : List ℕ) → is_allowed one ≡ true → list_all is_allowed (one ∷ []) ≡ true
  one-read one h = tests.both h refl

  -- where a call is answered Ok, its texts break no rule
  step-reads : (state : State (List ℕ)) (step : Step) → is_ok_reply (answer state (step_call text step)) ≡ true → reads step ≡ true
  step-reads state (Move old above name) h =
      let paths : (p : Names × Names) × (rename_at state (text old) (text (above ++ name ∷ [])) ≡ Ok p) = asked-so replies.Done (rename_at state (text old) (text (above ++ name ∷ []))) h in
      let a = ok_then (both (live_path (text old)) (live_path (text (above ++ name ∷ [])))) _ paths.0 paths.1 in
      let ends = both-ok (live_path (text old)) (live_path (text (above ++ name ∷ []))) a.0 a.1 in
      tests.both (live-allowed (text old) a.0.0 ends.0) (one-read (text (above ++ name ∷ [])) (live-allowed (text (above ++ name ∷ [])) a.0.1 ends.1))
  step-reads state (Make above name) h = let path = asked-so (made_reply state) (mkdir_at state (text (above ++ name ∷ []))) h in one-read (text (above ++ name ∷ [])) (asked-allowed (text (above ++ name ∷ [])) _ path.0 path.1)
  step-reads state (Fill (Create path)) h = let there = asked-so (made_reply state) (create_at state (text path) true) h in one-read (text path) (asked-allowed (text path) _ there.0 there.1)
  step-reads state (Fill (Append path bytes)) h = let there = asked-so replies.Done (append_at state (text path)) h in one-read (text path) (asked-allowed (text path) _ there.0 there.1)
  step-reads state (Drop name) h = let path = asked-so replies.Done (delete_at state (text (name ∷ [])) true) h in one-read (text (name ∷ [])) (asked-allowed (text (name ∷ [])) _ path.0 path.1)

  -- and it goes
  module _ (root : Names) (id : InodeId) (state : State (List ℕ)) (valid : IsValid state) (at : IsRootAt state root id) where
    step-went : (step : Step) → StepLeads text root step → is_ok_reply (answer state (step_call text step)) ≡ true → step_goes (held state root) step ≡ true
    step-went (Move old above name) leads h =
        let paths = asked-so replies.Done (rename_at state (text old) (text (above ++ name ∷ []))) h in rename-goes root id state valid at (text old) (text (above ++ name ∷ [])) old above name paths.0 leads.0 leads.1 paths.1
    step-went (Make above name) leads h = let path = asked-so (made_reply state) (mkdir_at state (text (above ++ name ∷ []))) h in mkdir-goes root id state valid at (text (above ++ name ∷ [])) above name path.0 leads path.1
    step-went (Fill (Create path)) leads h = let there = asked-so (made_reply state) (create_at state (text path) true) h in create-goes root id state valid at (text path) path there.0 leads there.1
    step-went (Fill (Append path bytes)) leads h = let there = asked-so replies.Done (append_at state (text path)) h in append-goes root id state valid at (text path) bytes path there.0 leads there.1
    step-went (Drop name) leads h = let path = asked-so replies.Done (delete_at state (text (name ∷ [])) true) h in delete-goes root id state valid at (text (name ∷ [])) name path.0 leads path.1

  step-leads : (root : Names) (step : Step) → StepMayLead root step → reads step ≡ true → StepLeads text root step
  step-leads root (Move old above name) may h = (may.0 (read-so (text old) (tests.first (is_allowed (text old)) _ h)), may.1 (one-so (text (above ++ name ∷ [])) (tests.second (is_allowed (text old)) _ h)))
  step-leads root (Make above name) may h = may (one-so (text (above ++ name ∷ [])) h)
  step-leads root (Fill (Create path)) may h = may (one-so (text path) h)
  step-leads root (Fill (Append path bytes)) may h = may (one-so (text path) h)
  step-leads root (Drop name) may h = may (one-so (text (name ∷ [])) h)

  pub step-made : (root : Names) (state : State (List ℕ)) (holds : Contents) → Sees root state holds → (step : Step) → StepMayLead root step → Sees root (call_tried state (step_call text step)) (step_tried reads holds step)
  step-made root state holds sees step may = by (reads step && step_goes holds step)
      (λ t.
      let leads : StepLeads text root step = step-leads root step may (tests.first (reads step) _ t) in
      let goes : StepGoes (held state root) step = subst (λ (c : Contents). StepGoes c step) (sym sees.sees) (goes-so holds step (tests.second (reads step) _ t)) in
      let done : (is_ok_reply (answer state (step_call text step)) ≡ true) × ((held (after plain_files state (accepted_entry (step_call text step))) root ≡ step_done (held state root) step) × IsRootAt (after plain_files state (accepted_entry (step_call text step))) root sees.id) =
      own-entry text root sees.id state sees.valid sees.at (accepted_entry (step_call text step)) step refl refl leads goes in
      same-ends (sym done.0) (sym t) (record {
        valid = valid-after state sees.valid plain_files (accepted_entry (step_call text step));
        id = sees.id;
        at = done.1.1;
        sees = done.1.0 ∙ ap (λ (c : Contents). step_done c step) sees.sees;
      }))
      (λ f. same-ends (sym (false_by (is_ok_reply (answer state (step_call text step))) (λ ok.
      let read : reads step ≡ true = step-reads state step ok in
      true_false (tests.both read (subst (λ (c : Contents). step_goes c step ≡ true) sees.sees (step-went root sees.id state sees.valid sees.at step (step-leads root step may read) ok))) f))) (sym f) sees)
    where
      same-ends : {b c : Bool} → b ≡ is_ok_reply (answer state (step_call text step)) → c ≡ (reads step && step_goes holds step) →
          Sees root (cond {A = State (List ℕ)} b (after plain_files state (accepted_entry (step_call text step))) state) (cond c (step_done holds step) holds) → Sees root (call_tried state (step_call text step)) (step_tried reads holds step)
      same-ends {b} {c} e d h = subst (λ (x : Bool × Bool). Sees root (cond {A = State (List ℕ)} x.0 (after plain_files state (accepted_entry (step_call text step))) state) (cond x.1 (step_done holds step) holds)) (λ i. (e i, d i)) h

  pub steps-made : (root : Names) (state : State (List ℕ)) (holds : Contents) → Sees root state holds → (steps : List Step) → AllByRecursion (StepMayLead root) steps → Sees root (calls_tried state (map (step_call text) steps)) (steps_tried reads holds steps)
  steps-made root state holds sees [] may = sees
  steps-made root state holds sees (step ∷ steps) may = steps-made root (call_tried state (step_call text step)) (step_tried reads holds step) (step-made root state holds sees step may.0) steps may.1

-- The steps of a plan are accepted and lead to the second tree, whatever entries that don't touch the root stand between.
use Rattle.std.proofs.Common.{◌≡◌, ℕ, ◌+◌, Bool, true, false, cond, Option, Some, None, is_some, Ok, List, [], ◌∷◌, ◌++◌, map, refl, ap, sym, subst, ◌∙◌, append-nil, append_assoc}
use Rattle.std.specs.Prelude.{◌&&◌, not}
use Rattle.std.specs.List.{filter, AllByRecursion}
use Rattle.std.proofs.lemmas.List.{append_cancel_left}
use Rattle.hs_types.specs.Names.{Names}
use Rattle.hs_types.specs.Paths.{components}
use Rattle.hs_types.specs.declared.ids.InodeId.{InodeId}
use Rattle.hs_types.specs.declared.call.Call.{Call}
use Rattle.hs_types.specs.declared.call.Call.TheVariants as calls
use Rattle.hs_types.specs.declared.journal.Entry.{Entry}
use Rattle.hs_types.specs.declared.reply.Reply.{Reply}
use Rattle.hs_types.specs.declared.reply.Reply.TheVariants as replies
use Rattle.hs_plain.specs.declared.state.Node.{Node}
use Rattle.hs_plain.specs.declared.state.State.{State}
use Rattle.hs_plain.specs.declared.state.Body.TheVariants.{Dir}
use Rattle.hs_plain.specs.Asked.{Asked}
use Rattle.hs_plain.specs.Files.{plain_files}
use Rattle.hs_plain.specs.Tree.{Tree, node_at, is_dir_body}
use Rattle.hs_plain.specs.Valid.{IsValid}
use Rattle.hs_plain.specs.inside.Places.{IsOutside}
use Rattle.hs_plain.specs.Modifying.{mkdir_at, create_at, append_at, delete_at, rename_at}
use Rattle.hs_plain.specs.Answer.{answer, is_ok_reply, is_modifying, reply_to, replied, made_reply}
use Rattle.hs_plain.specs.Change.{after, change, changed_if, takes_effect, is_accepted, ticked}
use Rattle.hs_plain.specs.Replay.{replay_from}
use Rattle.hs_plain.specs.Span.{touches}
use Rattle.hs_plain.specs.Plan.{outs, rest_below}
use Rattle.hs_plain.proofs.ValidShapes.{true_false, not_last, not_more}
use Rattle.hs_plain.proofs.ValidAsked.{same_ok}
use Rattle.hs_plain.proofs.ValidNodes.{shape, shape_some}
use Rattle.hs_plain.proofs.ValidShapes.{Shape}
use Rattle.hs_plain.proofs.Validity.{valid-after}
use Rattle.plan_laws.specs.Sight.{moved_sight, made_sight, outs_done, Placing, Back, New, targets, puts_done, IsNotIn, OutsGo, PutsGo}
use Rattle.plan_laws.specs.Placings.{placing_at, placings}
use Rattle.plan_laws.specs.Pair.{IsTree, IsPair, HasSameBytes}
use Rattle.plan_laws.specs.Copies.{Content, Contents, CopyCall, Create, Append, path_of_call, call_done, calls_done, CallGoes, CallsGo, is_dir_seen, is_file_seen, without_sight, content_of, content_put, after_outs, after_puts, after_sync, IsMerging, SyncGoes}
use Rattle.plan_laws.specs.Bridge.{held}
use Rattle.plan_laws.specs.Steps.{Step, Move, Make, Fill, Drop, step_done, steps_done, StepGoes, StepsGo, out_steps, put_step, plan_steps, step_call, StepLeads, own_calls, NextIsOk, AreOk}
use Rattle.plan_laws.proofs.Paths.{by, outside-none, outside-other}
use Rattle.plan_laws.proofs.Child.{dir_body}
use Rattle.plan_laws.proofs.Moves.{outs-outside-tmp, targets-outside, each-put, put-parts}
use Rattle.plan_laws.proofs.Whole.{sync-goes}
use Rattle.plan_laws.proofs.Bridge.{IsBare, rename-ok, rename-changes, mkdir-ok, mkdir-changes, create-ok, create-changes, append-ok, append-changes, delete-ok, delete-changes}
use Rattle.plan_laws.proofs.Roots.{IsRootAt, IsElsewhere, bare, root-stays}
use Rattle.plan_laws.proofs.Apart.{CallApart, untouched, far-apart}

pub tree-of : (state : State (List ℕ)) → IsValid state → IsTree state.tree
tree-of state valid = record { sorted = valid.sorted; parents = valid.parents; each_once = valid.each_once }

ok_of : {X : Type 0} (reply : Reply) (a : Asked X) (x : X) → is_ok_reply reply ≡ true → a ≡ Ok x → is_ok_reply (reply_to (replied reply a)) ≡ true
ok_of reply a x ok e = ap (λ a. is_ok_reply (reply_to (replied reply a))) e ∙ ok

-- the root is neither at a path below it nor below that
outside-below : (root path : Names) → (path ≡ [] → ⊥) → IsOutside (root ++ path) root
outside-below root path below rest e = below (not_more path rest (append_cancel_left root [] (path ++ rest) (append-nil root ∙ e ∙ append_assoc root path rest)))

-- ---- one entry

module _ (text : Names → List ℕ) (root : Names) (id : InodeId) (state : State (List ℕ)) (valid : IsValid state) (at : IsRootAt state root id) where
  is : IsTree state.tree
  is = tree-of state valid

  free : IsBare state root
  free = bare state valid root id at

  step-ok : (step : Step) → StepLeads text root step → StepGoes (held state root) step → is_ok_reply (answer state (step_call text step)) ≡ true
  step-ok (Move old above name) leads goes = ok_of replies.Done (rename_at state (text old) (text (above ++ name ∷ []))) (root ++ old, root ++ (above ++ name ∷ [])) refl
      (rename-ok state is root free (text old) (text (above ++ name ∷ [])) old above name leads.0 leads.1 goes.1 goes.2 goes.0)
  step-ok (Make above name) leads goes = ok_of (made_reply state) (mkdir_at state (text (above ++ name ∷ []))) (root ++ (above ++ name ∷ [])) refl (mkdir-ok state is root free (text (above ++ name ∷ [])) above name leads goes)
  step-ok (Fill (Create path)) leads goes = ok_of (made_reply state) (create_at state (text path) true) (root ++ path) refl (create-ok state is root free (text path) path leads goes)
  step-ok (Fill (Append path bytes)) leads goes =
      let file : (file : Names × Node (List ℕ) × List ℕ) × (append_at state (text path) ≡ Ok file) × (file.0 ≡ root ++ path) = append-ok state is root free (text path) bytes path leads goes in
      ok_of replies.Done (append_at state (text path)) file.0 refl file.1
  step-ok (Drop name) leads goes = ok_of replies.Done (delete_at state (text (name ∷ [])) true) (root ++ name ∷ []) refl (delete-ok state is root free (text (name ∷ [])) name leads goes)

  step-sees : (step : Step) → StepLeads text root step → StepGoes (held state root) step → held (change plain_files state (step_call text step)) root ≡ step_done (held state root) step
  step-sees (Move old above name) leads goes = λ i q. rename-changes state is root free (text old) (text (above ++ name ∷ [])) old above name leads.0 leads.1 goes.1 goes.2 goes.0 q i
  step-sees (Make above name) leads goes = λ i q. mkdir-changes state is root free (text (above ++ name ∷ [])) above name leads goes q i
  step-sees (Fill (Create path)) leads goes = λ i q. create-changes state is root free (text path) path leads goes q i
  step-sees (Fill (Append path bytes)) leads goes = λ i q. append-changes state is root free (text path) bytes path leads goes q i
  step-sees (Drop name) leads goes = λ i q. delete-changes state is root free (text (name ∷ [])) name leads goes q i

  -- a copy isn't at the root
  copy-below : (call : CopyCall) → CallGoes (held state root) call → path_of_call call ≡ [] → ⊥
  copy-below (Create []) goes e = clash (held state root []) goes.above goes.fits
    where
      clash : (o : Option Content) → is_dir_seen o ≡ true → not (is_dir_seen o) ≡ true → ⊥
      clash None h k = true_false h refl
      clash (Some body) h k = true_false k (ap not h)
  copy-below (Create (name ∷ path)) goes e = cc
  copy-below (Append [] bytes) goes e = clash (held state root []) goes.above goes.fits
    where
      clash : (o : Option Content) → is_dir_seen o ≡ true → is_file_seen o ≡ true → ⊥
      clash None h k = true_false h refl
      clash (Some body) h k = true_false k (ap not h)
  copy-below (Append (name ∷ path) bytes) goes e = cc

  step-elsewhere : (step : Step) → StepLeads text root step → StepGoes (held state root) step → IsElsewhere state valid root id at (step_call text step)
  step-elsewhere (Move old above name) leads goes = λ paths h.
      let same : (root ++ old, root ++ (above ++ name ∷ [])) ≡ paths = same_ok (sym (rename-ok state is root free (text old) (text (above ++ name ∷ [])) old above name leads.0 leads.1 goes.1 goes.2 goes.0) ∙ h) in
      (subst (λ (x : Names × Names). IsOutside x.0 root) same (outside-below root old goes.1), subst (λ (x : Names × Names). IsOutside x.1 root) same (outside-below root (above ++ name ∷ []) (not_last above name)))
  step-elsewhere (Make above name) leads goes = λ path h.
      subst (λ (x : Names). IsOutside x root) (same_ok (sym (mkdir-ok state is root free (text (above ++ name ∷ [])) above name leads goes) ∙ h)) (outside-below root (above ++ name ∷ []) (not_last above name))
  step-elsewhere (Fill (Create path)) leads goes = λ other h.
      subst (λ (x : Names). IsOutside x root) (same_ok (sym (create-ok state is root free (text path) path leads goes) ∙ h)) (outside-below root path (copy-below (Create path) goes))
  step-elsewhere (Fill (Append path bytes)) leads goes = λ other h.
      let file : (file : Names × Node (List ℕ) × List ℕ) × (append_at state (text path) ≡ Ok file) × (file.0 ≡ root ++ path) = append-ok state is root free (text path) bytes path leads goes in
      subst (λ (x : Names × Node (List ℕ) × List ℕ). IsOutside x.0 root) (same_ok (sym file.1 ∙ h)) (subst (λ (x : Names). IsOutside x root) (sym file.2) (outside-below root path (copy-below (Append path bytes) goes)))
  step-elsewhere (Drop name) leads goes = λ path h.
      subst (λ (x : Names). IsOutside x root) (same_ok (sym (delete-ok state is root free (text (name ∷ [])) name leads goes) ∙ h)) (outside-below root (name ∷ []) (not_last [] name))

  step-modifies : (step : Step) → is_modifying (step_call text step) ≡ true
  step-modifies (Move old above name) = refl
  step-modifies (Make above name) = refl
  step-modifies (Fill (Create path)) = refl
  step-modifies (Fill (Append path bytes)) = refl
  step-modifies (Drop name) = refl

  -- what an entry leads to
  abbrev Next : Entry → Contents → Type 0
  Next entry seen = (held (after plain_files state entry) root ≡ seen) × IsRootAt (after plain_files state entry) root id

  pub own-entry : (entry : Entry) (step : Step) → entry.call ≡ step_call text step → is_accepted entry.kind ≡ true → StepLeads text root step → StepGoes (held state root) step →
      (is_ok_reply (answer state entry.call) ≡ true) × Next entry (step_done (held state root) step)
  own-entry entry step is_call accepted leads goes = (
    ap (λ call. is_ok_reply (answer state call)) is_call ∙ step-ok step leads goes,
    (
      ap (λ b. held (ticked (changed_if b plain_files state entry.call)) root) (λ i. accepted i && (ap is_modifying is_call ∙ step-modifies step) i)
          ∙ ap (λ call. held (change plain_files state call) root) is_call ∙ step-sees step leads goes,
      root-stays state valid root id at plain_files entry (subst (IsElsewhere state valid root id at) (sym is_call) (step-elsewhere step leads goes)),
    ),
  )

  apart-elsewhere : (call : Call) → CallApart state root id call → IsElsewhere state valid root id at call
  apart-elsewhere (calls.Mkdir text) apart = λ path h. (apart path h).not_above
  apart-elsewhere (calls.Create text over) apart = λ path h. (apart path h).not_above
  apart-elsewhere (calls.Append text bytes) apart = λ file h. (apart file h).not_above
  apart-elsewhere (calls.Delete text recursive) apart = λ path h. (apart path h).not_above
  apart-elsewhere (calls.Rename old new) apart = λ paths h. ((apart paths h).0.not_above, (apart paths h).1.not_above)
  apart-elsewhere (calls.Disallow text) apart = apart
  apart-elsewhere (calls.SetMode text mode) apart = tt
  apart-elsewhere (calls.Allow text) apart = tt
  apart-elsewhere (calls.Snap text name) apart = tt
  apart-elsewhere (calls.SnapDel text name) apart = tt
  apart-elsewhere (calls.SnapRen text old new) apart = tt
  apart-elsewhere (calls.Read text offset len) apart = tt
  apart-elsewhere (calls.ReadNext cursor len) apart = tt
  apart-elsewhere (calls.Stat text) apart = tt
  apart-elsewhere (calls.List text size) apart = tt
  apart-elsewhere (calls.ListNext cursor size) apart = tt
  apart-elsewhere (calls.Snaps text) apart = tt
  apart-elsewhere calls.Dirs apart = tt
  apart-elsewhere (calls.Report text from to size) apart = tt
  apart-elsewhere (calls.ReportNext cursor size) apart = tt

  other-entry : (root_text : List ℕ) → root ≡ components root_text → (entry : Entry) → touches root_text entry ≡ false → Next entry (held state root)
  other-entry root_text root_is entry far =
      let node : (n : Node (List ℕ)) × (node_at state.tree root ≡ Some n) × (shape n ≡ (id.0, true)) = shape_some (node_at state.tree root) (id.0, true) at.0 in
      let apart : CallApart state root id entry.call = far-apart state is root id root_text root_is node.0 node.1 (ap (λ (s : Shape). s.0) node.2) entry.call far in
      ((λ i q. unseen apart q i), root-stays state valid root id at plain_files entry (apart-elsewhere entry.call apart))
    where
      unseen : CallApart state root id entry.call → (q : Names) → held (after plain_files state entry) root q ≡ held state root q
      unseen apart q = elim (takes_effect entry) as (λ b. held (ticked (changed_if b plain_files state entry.call)) root q ≡ held state root q) [
        | true ↦ untouched state is root id entry.call apart q
        | false ↦ refl
      ]

-- ---- all entries

module _ (text : Names → List ℕ) (root_text : List ℕ) (root : Names) (root_is : root ≡ components root_text) (id : InodeId) (is_own : Entry → Bool) where
  abbrev pub Leads : List Entry → List Step → List Call → State (List ℕ) → Contents → Type 0
  Leads entries steps rest state seen = AreOk is_own state entries × NextIsOk (replay_from plain_files state entries) rest × ((rest ≡ [] → held (replay_from plain_files state entries) root ≡ steps_done seen steps) × IsRootAt (replay_from plain_files state entries) root id)

  no-cons : {call : Call} {more : List Call} → call ∷ more ≡ [] → ⊥
  no-cons h = cc

  own-case : (entry : Entry) (entries : List Entry) (steps : List Step) (rest : List Call) (state : State (List ℕ)) (seen : Contents) → IsValid state → (at : IsRootAt state root id) → held state root ≡ seen →
      entry.call ∷ (own_calls is_own entries ++ rest) ≡ map (step_call text) steps → AllByRecursion (StepLeads text root) steps → StepsGo seen steps → is_accepted entry.kind ≡ true →
      ((others : List Step) (next : Contents) → IsRootAt (after plain_files state entry) root id → held (after plain_files state entry) root ≡ next → own_calls is_own entries ++ rest ≡ map (step_call text) others → AllByRecursion (StepLeads text root) others → StepsGo next others →
      Leads entries others rest (after plain_files state entry) next) →
      Leads (entry ∷ entries) steps rest state seen
  own-case entry entries [] rest state seen valid at sees e leads go accepted next = absurd (no-cons e)
  own-case entry entries (step ∷ steps) rest state seen valid at sees e leads go accepted next =
      let goes : StepGoes (held state root) step = subst (λ (c : Contents). StepGoes c step) (sym sees) go.0 in
      let done : (is_ok_reply (answer state entry.call) ≡ true) × ((held (after plain_files state entry) root ≡ step_done (held state root) step) × IsRootAt (after plain_files state entry) root id) = own-entry text root id state valid at entry step (heads e) accepted leads.0 goes in
      let more : Leads entries steps rest (after plain_files state entry) (step_done seen step) = next steps (step_done seen step) done.1.1 (done.1.0 ∙ ap (λ (c : Contents). step_done c step) sees) (tails e) leads.1 go.1 in
      (((λ _. done.0), more.0), more.1, more.2)
    where
      heads : {a b : Call} {xs ys : List Call} → a ∷ xs ≡ b ∷ ys → a ≡ b
      heads h = cc

      tails : {a b : Call} {xs ys : List Call} → a ∷ xs ≡ b ∷ ys → xs ≡ ys
      tails h = cc

  pub all-entries : (entries : List Entry) (steps : List Step) (rest : List Call) (state : State (List ℕ)) (seen : Contents) → IsValid state → IsRootAt state root id → held state root ≡ seen →
      own_calls is_own entries ++ rest ≡ map (step_call text) steps → AllByRecursion (StepLeads text root) steps → StepsGo seen steps →
      AllByRecursion (λ entry. is_own entry ≡ true → is_accepted entry.kind ≡ true) entries → AllByRecursion (λ entry. is_own entry ≡ false → touches root_text entry ≡ false) entries →
      Leads entries steps rest state seen
  all-entries [] [] rest state seen valid at sees e leads go accepted others = (tt, subst (NextIsOk state) (sym e) tt, ((λ none. sees), at))
  all-entries [] (step ∷ steps) rest state seen valid at sees e leads go accepted others = (
    tt,
    subst (NextIsOk state) (sym e) (step-ok text root id state valid at step leads.0 (subst (λ (c : Contents). StepGoes c step) (sym sees) go.0)),
    ((λ none. absurd (no-cons (sym e ∙ none))), at),
  )
  all-entries (entry ∷ entries) steps rest state seen valid at sees e leads go accepted others = by (is_own entry)
      (λ own. own-case entry entries steps rest state seen valid at sees
      (ap (λ b. map (λ (one : Entry). one.call) (cond b (entry ∷ filter is_own entries) (filter is_own entries)) ++ rest) (sym own) ∙ e) leads go (accepted.0 own)
      (λ more next root_at seen_next same more_leads more_go. all-entries entries more rest (after plain_files state entry) next (valid-after state valid plain_files entry) root_at seen_next same more_leads more_go accepted.1 others.1))
      (λ other.
      let done : (held (after plain_files state entry) root ≡ held state root) × IsRootAt (after plain_files state entry) root id = other-entry text root id state valid at root_text root_is entry (others.0 other) in
      let more : Leads entries steps rest (after plain_files state entry) seen = all-entries entries steps rest (after plain_files state entry) seen (valid-after state valid plain_files entry) done.1 (done.0 ∙ sees)
      (ap (λ b. map (λ (one : Entry). one.call) (cond b (entry ∷ filter is_own entries) (filter is_own entries)) ++ rest) (sym other) ∙ e) leads go accepted.1 others.1 in
      (((λ own. absurd (true_false own other)), more.0), more.1, more.2))

-- ---- the steps of a plan

steps-append : (xs ys : List Step) (seen : Contents) → StepsGo seen xs → StepsGo (steps_done seen xs) ys → StepsGo seen (xs ++ ys)
steps-append [] ys seen h k = k
steps-append (x ∷ xs) ys seen h k = (h.0, steps-append xs ys (step_done seen x) h.1 k)

done-append : (xs ys : List Step) (seen : Contents) → steps_done seen (xs ++ ys) ≡ steps_done (steps_done seen xs) ys
done-append [] ys seen = refl
done-append (x ∷ xs) ys seen = done-append xs ys (step_done seen x)

module _ (tmp : List ℕ) (number : ℕ → List ℕ) where
  outs-done : (paths : List Names) (seen : Contents) (k : ℕ) → steps_done seen (out_steps tmp number k paths) ≡ outs_done tmp number seen k paths
  outs-done [] seen k = refl
  outs-done (p ∷ ps) seen k = outs-done ps (moved_sight seen p (tmp ∷ number k ∷ [])) (k + 1)

  out-below : (p : Names) → IsNotIn tmp p → p ≡ [] → ⊥
  out-below [] out e = out
  out-below (n ∷ p) out e = cc

  outs-steps : (paths : List Names) (seen : Contents) (k : ℕ) → AllByRecursion (IsNotIn tmp) paths → OutsGo is_dir_body tmp number seen k paths → StepsGo seen (out_steps tmp number k paths)
  outs-steps [] seen k out go = tt
  outs-steps (p ∷ ps) seen k out go = ((go.0, out-below p out.0, outside-other tmp p (number k ∷ []) out.0), outs-steps ps (moved_sight seen p (tmp ∷ number k ∷ [])) (k + 1) out.1 go.1)

  abbrev IsDirNew : Placing (Node (List ℕ)) → Type 0
  IsDirNew (Back i above name) = Unit {0}
  IsDirNew (New node above name) = node.body ≡ Dir

  puts-all : (ps : List (Placing (Node (List ℕ)))) (seen : Contents) → AllByRecursion IsDirNew ps → steps_done seen (map (put_step tmp number) ps) ≡ puts_done tmp number seen (map content_put ps)
  puts-all [] seen dirs = refl
  puts-all (Back i above name ∷ ps) seen dirs = puts-all ps (moved_sight seen (tmp ∷ number i ∷ []) (above ++ name ∷ [])) dirs.1
  puts-all (New node above name ∷ ps) seen dirs = puts-all ps (made_sight seen (above ++ name ∷ []) Dir) dirs.1 ∙ ap (λ b. puts_done tmp number (made_sight seen (above ++ name ∷ []) b) (map content_put ps)) (sym dirs.0)

  puts-steps : (ps : List (Placing (Node (List ℕ)))) (seen : Contents) → AllByRecursion IsDirNew ps → AllByRecursion (IsNotIn tmp) (targets ps) → PutsGo is_dir_body tmp number seen (map content_put ps) → StepsGo seen (map (put_step tmp number) ps)
  puts-steps [] seen dirs out go = tt
  puts-steps (Back i above name ∷ ps) seen dirs out go = (
    (go.0, not-empty i, ap (rest_below (tmp ∷ number i ∷ [])) (sym (append-nil (above ++ name ∷ []))) ∙ outside-none tmp (number i ∷ []) (above ++ name ∷ []) [] out.0),
    puts-steps ps (moved_sight seen (tmp ∷ number i ∷ []) (above ++ name ∷ [])) dirs.1 out.1 go.1,
  )
    where
      not-empty : (i : ℕ) → tmp ∷ number i ∷ [] ≡ [] → ⊥
      not-empty i e = cc
  puts-steps (New node above name ∷ ps) seen dirs out go =
      (go.0, puts-steps ps (made_sight seen (above ++ name ∷ []) Dir) dirs.1 out.1 (subst (λ b. PutsGo is_dir_body tmp number (made_sight seen (above ++ name ∷ []) b) (map content_put ps)) dirs.0 go.1))

fills-done : (cs : List CopyCall) (seen : Contents) → steps_done seen (map Fill cs) ≡ calls_done seen cs
fills-done [] seen = refl
fills-done (c ∷ cs) seen = fills-done cs (call_done seen c)

fills-steps : (cs : List CopyCall) (seen : Contents) → CallsGo seen cs → StepsGo seen (map Fill cs)
fills-steps [] seen go = tt
fills-steps (c ∷ cs) seen go = (go.0, fills-steps cs (call_done seen c) go.1)

module _ (tmp : List ℕ) (number : ℕ → List ℕ) (from to : Tree (List ℕ)) (is : IsPair from to) (bytes : HasSameBytes from to) (once : (i j : ℕ) → number i ≡ number j → i ≡ j) (from_free : node_at from (tmp ∷ []) ≡ None) (to_free : node_at to (tmp ∷ []) ≡ None)
    (pages : Names → List (List ℕ)) (copies : List CopyCall) (merging : IsMerging from to pages copies) (target : Contents) (equal : (q : Names) → target q ≡ content_of (node_at from q)) where
  goes : SyncGoes tmp number from to copies target
  goes = sync-goes from to is bytes tmp number once from_free to_free target equal pages copies merging

  abbrev top : Node (List ℕ)
  top = record { id = record { 0 = 0 }; mode = 0; stamp = 0; body = Dir }

  dir-seen : (o : Option Content) → is_dir_seen o ≡ true → (d : Content) × (o ≡ Some d) × (is_dir_body d ≡ true)
  dir-seen None h = absurd (true_false h refl)
  dir-seen (Some d) h = (d, refl, h)

  some-dir : (o : Option Content) → is_dir_seen o ≡ true → is_some o ≡ true
  some-dir None h = absurd (true_false h refl)
  some-dir (Some d) h = refl

  new-dirs : AllByRecursion (IsDirNew tmp number) (placings from to)
  new-dirs = each-put (placing_at from to) (IsDirNew tmp number) to is.to_tree.sorted
      (λ q m put at h. put-parts from to is bytes tmp number once top refl from_free to_free q m put h
      (λ above name old e from_at moves is_put. subst (IsDirNew tmp number) (sym is_put) tt)
      (λ above name e none dir is_put. subst (IsDirNew tmp number) (sym is_put) (dir_body from to is m.body dir)))

  abbrev begun : Contents
  begun = made_sight target (tmp ∷ []) Dir

  pub plan-goes : StepsGo target (plan_steps tmp number from to copies)
  plan-goes =
      let outs_same : steps_done begun (out_steps tmp number 0 (outs from to)) ≡ after_outs tmp number from to target = outs-done tmp number (outs from to) begun 0 in
      let puts_same : steps_done (after_outs tmp number from to target) (map (put_step tmp number) (placings from to)) ≡ after_puts tmp number from to target = puts-all tmp number (placings from to) (after_outs tmp number from to target) new-dirs in
      let copied : calls_done (after_puts tmp number from to target) copies ≡ steps_done (after_puts tmp number from to target) (map Fill copies) = sym (fills-done copies (after_puts tmp number from to target)) in (
        record { above_dir = dir-seen (target []) goes.root; free = goes.tmp_free },
        steps-append (out_steps tmp number 0 (outs from to)) (map (put_step tmp number) (placings from to) ++ (map Fill copies ++ Drop tmp ∷ [])) begun
            (outs-steps tmp number (outs from to) begun 0 (outs-outside-tmp from to is bytes tmp number once top refl from_free to_free) goes.outs_go)
            (subst (λ (c : Contents). StepsGo c (map (put_step tmp number) (placings from to) ++ (map Fill copies ++ Drop tmp ∷ []))) (sym outs_same)
            (steps-append (map (put_step tmp number) (placings from to)) (map Fill copies ++ Drop tmp ∷ []) (after_outs tmp number from to target)
            (puts-steps tmp number (placings from to) (after_outs tmp number from to target) new-dirs (targets-outside from to is bytes tmp number once top refl from_free to_free) goes.puts_go)
            (subst (λ (c : Contents). StepsGo c (map Fill copies ++ Drop tmp ∷ [])) (sym puts_same)
            (steps-append (map Fill copies) (Drop tmp ∷ []) (after_puts tmp number from to target) (fills-steps copies (after_puts tmp number from to target) goes.copies_go)
            (ap (λ (c : Contents). is_some (c (tmp ∷ []))) (sym copied) ∙ some-dir (calls_done (after_puts tmp number from to target) copies (tmp ∷ [])) goes.tmp_there, tt))))),
      )

  pub plan-done : steps_done target (plan_steps tmp number from to copies) ≡ after_sync tmp number from to copies target
  plan-done =
      done-append (out_steps tmp number 0 (outs from to)) (map (put_step tmp number) (placings from to) ++ (map Fill copies ++ Drop tmp ∷ [])) begun
      ∙ ap (λ (c : Contents). steps_done c (map (put_step tmp number) (placings from to) ++ (map Fill copies ++ Drop tmp ∷ []))) (outs-done tmp number (outs from to) begun 0)
      ∙ done-append (map (put_step tmp number) (placings from to)) (map Fill copies ++ Drop tmp ∷ []) (after_outs tmp number from to target)
      ∙ ap (λ (c : Contents). steps_done c (map Fill copies ++ Drop tmp ∷ [])) (puts-all tmp number (placings from to) (after_outs tmp number from to target) new-dirs)
      ∙ done-append (map Fill copies) (Drop tmp ∷ []) (after_puts tmp number from to target)
      ∙ ap (λ (c : Contents). without_sight c (tmp ∷ [])) (fills-done copies (after_puts tmp number from to target))

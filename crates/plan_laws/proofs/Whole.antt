-- All calls of a plan.
use Rattle.std.proofs.Common.{◌≡◌, ℕ, Bool, true, false, ◌||◌, cond, Option, Some, None, is_some, List, [], ◌∷◌, map, refl, ap, sym, subst, ◌∙◌}
use Rattle.std.specs.Prelude.{not, ◌&&◌}
use Rattle.std.specs.List.{filter, AllByRecursion}
use Rattle.hs_types.specs.Names.{Names}
use Rattle.hs_plain.specs.declared.state.Node.{Node}
use Rattle.hs_plain.specs.declared.state.Body.TheVariants.{Dir}
use Rattle.hs_plain.specs.Tree.{Tree, node_at, is_dir, is_dir_body, parent_of, place_of}
use Rattle.hs_plain.proofs.ValidShapes.{none_some, same_some, true_false, by_last, parent_of-last}
use Rattle.hs_plain.specs.Plan.{rest_below, outs, is_other, is_copied}
use Rattle.plan_laws.specs.Sight.{Sight, inside_or, made_sight, outs_done, puts_done, Both, OutsGo, PutsGo}
use Rattle.plan_laws.specs.Placings.{placings}
use Rattle.plan_laws.specs.Pair.{IsPair, HasSameBytes, if_old, old_sight, Alike}
use Rattle.plan_laws.specs.Copies.{Content, Contents, CopyCall, path_of_call, is_at, all_here, is_dir_seen, FitHere, calls_done, CallsGo, IsMerging, content_of, content_put, after_outs, after_puts, after_sync, SyncGoes}
use Rattle.plan_laws.proofs.Paths.{by, by_one, rest-so}
use Rattle.plan_laws.proofs.Places.{dir-above}
use Rattle.plan_laws.proofs.Lists.{same-here}
use Rattle.plan_laws.proofs.Child.{is_old, dir-old}
use Rattle.plan_laws.proofs.Moves.{all-outs-go, all-puts-go, puts-stand-all, top-stays, none-under}
use Rattle.plan_laws.proofs.Copies.{calls-here, calls-go, dirs-kept, appends-here, appends-fit}
use Rattle.plan_laws.proofs.Natural.{through, outs-through, puts-through, made-through, outs-go-through, puts-go-through}

-- what holds at each call's path
pub each-call : (P : Names → Type 0) (calls : List CopyCall) → ((path : Names) → (filter (is_at path) calls ≡ [] → ⊥) → P path) → AllByRecursion (λ call. P (path_of_call call)) calls
each-call P [] all = tt
each-call P (call ∷ calls) all = (
  all (path_of_call call) (λ e. full (sym (ap (λ b. cond b (call ∷ filter (is_at (path_of_call call)) calls) (filter (is_at (path_of_call call)) calls)) (same-here (path_of_call call))) ∙ e)),
  each-call P calls (λ path there. all path (λ e. there (less path e))),
)
  where
    full : {rest : List CopyCall} → call ∷ rest ≡ [] → ⊥
    full e = cc

    less : (path : Names) → filter (is_at path) (call ∷ calls) ≡ [] → filter (is_at path) calls ≡ []
    less path e = (elim (is_at path call) as (λ b. cond b (call ∷ filter (is_at path) calls) (filter (is_at path) calls) ≡ [] → filter (is_at path) calls ≡ []) [
      | true ↦ λ e. absurd (full e)
      | false ↦ λ e. e
    ]) e

module _ (from to : Tree (List ℕ)) (is : IsPair from to) (bytes : HasSameBytes from to) (tmp : List ℕ) (number : ℕ → List ℕ) (once : (i j : ℕ) → number i ≡ number j → i ≡ j)
    (from_free : node_at from (tmp ∷ []) ≡ None) (to_free : node_at to (tmp ∷ []) ≡ None)
    (target : Contents) (equal : (q : Names) → target q ≡ content_of (node_at from q))
    (pages : Names → List (List ℕ)) (calls : List CopyCall) (merging : IsMerging from to pages calls) where
  abbrev body : Node (List ℕ) → Content
  body node = node.body

  abbrev top : Node (List ℕ)
  top = record { id = record { 0 = 0 }; mode = 0; stamp = 0; body = Dir }

  same : target ≡ through body (node_at from)
  same = λ i q. equal q i

  begun-same : made_sight target (tmp ∷ []) Dir ≡ through body (made_sight (node_at from) (tmp ∷ []) top)
  begun-same = ap (λ (s : Contents). made_sight s (tmp ∷ []) Dir) same ∙ sym (made-through body (node_at from) (tmp ∷ []) top)

  abbrev over_outs : Sight (Node (List ℕ))
  over_outs = outs_done tmp number (made_sight (node_at from) (tmp ∷ []) top) 0 (outs from to)

  abbrev over_puts : Sight (Node (List ℕ))
  over_puts = puts_done tmp number over_outs (placings from to)

  outs-same : after_outs tmp number from to target ≡ through body over_outs
  outs-same = ap (λ (s : Contents). outs_done tmp number s 0 (outs from to)) begun-same ∙ sym (outs-through body tmp number (outs from to) (made_sight (node_at from) (tmp ∷ []) top) 0)

  puts-same : after_puts tmp number from to target ≡ through body over_puts
  puts-same = ap (λ (s : Contents). puts_done tmp number s (map content_put (placings from to))) outs-same ∙ sym (puts-through body tmp number (placings from to) over_outs)

  stands : (q : Names) → rest_below (tmp ∷ []) q ≡ None → Both (Alike from) (over_puts q) (old_sight from to q)
  stands = puts-stand-all from to is bytes tmp number once top refl from_free to_free

  abbrev seen : Contents
  seen = after_puts tmp number from to target

  seen-at : (q : Names) → seen q ≡ content_of (over_puts q)
  seen-at q = λ i. puts-same i q

  -- ---- which paths are copied

  by-copied : {P : Type 0} (q : Names) → ((m : Node (List ℕ)) → node_at to q ≡ Some m → is_copied from (q, m) ≡ true → P) → (((m : Node (List ℕ)) → node_at to q ≡ Some m → is_copied from (q, m) ≡ false) → P) → P
  by-copied q copied other = by_one (node_at to q)
      (λ m at. by (is_copied from (q, m)) (λ t. copied m at t) (λ f. other (λ n bt. ap (λ (x : Node (List ℕ)). is_copied from (q, x)) (same_some (sym bt ∙ at)) ∙ f)))
      (λ none. other (λ n bt. absurd (none_some (sym none ∙ bt))))

  to-outside : (q : Names) (m : Node (List ℕ)) → node_at to q ≡ Some m → rest_below (tmp ∷ []) q ≡ None
  to-outside q m at = by_one (rest_below (tmp ∷ []) q)
      (λ r below. absurd (none_some (sym (none-under from to is bytes tmp number once top refl from_free to_free to is.to_tree r (tmp ∷ []) to_free) ∙ ap (node_at to) (sym (rest-so (tmp ∷ []) q r below)) ∙ at)))
      (λ none. none)

  file-copied : (q : Names) (m : Node (List ℕ)) → is_copied from (q, m) ≡ true → is_dir m ≡ false
  file-copied q m h = (elim (is_dir m) as (λ b. (not b && is_other (q, m) (place_of from m.id)) ≡ true → b ≡ false) [
    | true ↦ λ h. absurd (true_false h refl)
    | false ↦ λ h. refl
  ]) h

  -- ---- the copies are accepted

  no-dir-there : (o v : Option (Node (List ℕ))) (m : Node (List ℕ)) → Both (Alike from) o (if_old from v) → v ≡ Some m → is_dir m ≡ false → is_dir_seen (content_of o) ≡ false
  no-dir-there None v m h at file = refl
  no-dir-there (Some a) v m h at file = by_old (is_old from to is m) refl (subst (λ x. Both (Alike from) (Some a) (if_old from x)) at h)
    where
      by_old : (b : Bool) → is_old from to is m ≡ b → Both (Alike from) (Some a) (cond (is_old from to is m) (Some m) None) → is_dir a ≡ false
      by_old true e h = (subst (λ b. Both (Alike from) (Some a) (cond b (Some m) None)) e h).same_kind ∙ file
      by_old false e h = absurd (subst (λ b. Both (Alike from) (Some a) (cond b (Some m) None)) e h)

  fits : (q : Names) → FitHere (filter (is_at q) calls) (seen q)
  fits q = by-copied q
      (λ m at copied. subst (λ (cs : List CopyCall). FitHere cs (seen q)) (sym (merging.at_copy q m at copied))
      (ap not (ap is_dir_seen (seen-at q) ∙ no-dir-there (over_puts q) (node_at to q) m (stands q (to-outside q m at)) at (file-copied q m copied)), appends-fit q (pages q) []))
      (λ other. subst (λ (cs : List CopyCall). FitHere cs (seen q)) (sym (merging.elsewhere q other)) tt)

  dir-there : (q : Names) (d : Node (List ℕ)) → node_at to q ≡ Some d → is_dir d ≡ true → is_dir_seen (seen q) ≡ true
  dir-there q d at dir = ap is_dir_seen (seen-at q)
      ∙ found (over_puts q) (subst (λ o. Both (Alike from) (over_puts q) o) (dir-old from to is q d at (ap (λ b. b || is_some (place_of from d.id)) dir)) (stands q (to-outside q d at)))
    where
      found : (o : Option (Node (List ℕ))) → Both (Alike from) o (Some d) → is_dir_seen (content_of o) ≡ true
      found None h = absurd h
      found (Some a) h = h.same_kind ∙ dir

  above-copied : (q : Names) (m : Node (List ℕ)) → node_at to q ≡ Some m → is_copied from (q, m) ≡ true → is_dir_seen (seen (parent_of q)) ≡ true
  above-copied q m at copied = by_last (λ q. node_at to q ≡ Some m → is_copied from (q, m) ≡ true → is_dir_seen (seen (parent_of q)) ≡ true) q
      (λ at copied. absurd (true_false (sym (is.one_kind [] [] is.from_root is.to_root is.from_at is.to_at is.same_root) ∙ is.root_dir) (ap is_dir (same_some (sym is.to_at ∙ at)) ∙ file-copied [] m copied)))
      (λ above name at copied. let d : (dir : Node (List ℕ)) × (node_at to above ≡ Some dir) × (is_dir dir ≡ true) = dir-above to is.to_tree above name m at in
      ap (λ (p : Names). is_dir_seen (seen p)) (parent_of-last above name) ∙ dir-there above d.0 d.1 d.2)
      at copied

  all-above : AllByRecursion (λ call. is_dir_seen (seen (parent_of (path_of_call call))) ≡ true) calls
  all-above = each-call (λ path. is_dir_seen (seen (parent_of path)) ≡ true) calls (λ path there. by-copied path (above-copied path) (λ other. absurd (there (merging.elsewhere path other))))

  copies-go : CallsGo seen calls
  copies-go = calls-go calls seen fits all-above

  -- ---- what stands at the end

  kept-body : (o v : Option (Node (List ℕ))) → Both (Alike from) o (if_old from v) → ((m : Node (List ℕ)) → v ≡ Some m → is_copied from ([], m) ≡ false) → content_of o ≡ content_of v
  kept-body o None h other = none o h
    where
      none : (o : Option (Node (List ℕ))) → Both (Alike from) o None → content_of o ≡ None
      none None h = refl
      none (Some a) h = absurd h
  kept-body o (Some m) h other = by (is_old from to is m)
      (λ t. alike o (subst (λ b. Both (Alike from) o (cond b (Some m) None)) t h))
      (λ f. absurd (true_false (new-copied f) (other m refl)))
    where
      alike : (o : Option (Node (List ℕ))) → Both (Alike from) o (Some m) → content_of o ≡ Some m.body
      alike None h = absurd h
      alike (Some a) h = ap (λ (x : Content). Some x) (h.same_body (other m refl))

      new-copied : (is_dir m || is_some (place_of from m.id)) ≡ false → is_copied from ([], m) ≡ true
      new-copied f = by-parts (is_dir m) (place_of from m.id) f
        where
          by-parts : (b : Bool) (old : Option (Names × Node (List ℕ))) → (b || is_some old) ≡ false → (not b && is_other ([], m) old) ≡ true
          by-parts true old f = absurd (true_false refl f)
          by-parts false None f = refl
          by-parts false (Some old) f = absurd (true_false refl f)

  copied-at : (q : Names) → rest_below (tmp ∷ []) q ≡ None → calls_done seen calls q ≡ content_of (node_at to q)
  copied-at q out = calls-here calls seen q ∙ by-copied q
      (λ m at copied.
      ap (λ (cs : List CopyCall). all_here cs (seen q)) (merging.at_copy q m at copied)
      ∙ appends-here q (pages q) []
      ∙ ap (λ (x : Content). Some x) (sym (merging.bytes q m at copied))
      ∙ ap content_of (sym at))
      (λ other.
      ap (λ (cs : List CopyCall). all_here cs (seen q)) (merging.elsewhere q other)
      ∙ seen-at q
      ∙ kept-body (over_puts q) (node_at to q) (stands q out) other)

  pub sync-equal : (q : Names) → after_sync tmp number from to calls target q ≡ content_of (node_at to q)
  sync-equal q = by_one (rest_below (tmp ∷ []) q)
      (λ r below. ap (λ o. inside_or o (λ rest. None) (calls_done seen calls q)) below
      ∙ sym (ap content_of (ap (node_at to) (rest-so (tmp ∷ []) q r below) ∙ none-under from to is bytes tmp number once top refl from_free to_free to is.to_tree r (tmp ∷ []) to_free)))
      (λ none. ap (λ o. inside_or o (λ rest. None) (calls_done seen calls q)) none ∙ copied-at q none)

  pub sync-goes : SyncGoes tmp number from to calls target
  sync-goes = record {
    root = ap is_dir_seen (equal [] ∙ ap content_of is.from_at) ∙ is.root_dir;
    tmp_free = equal (tmp ∷ []) ∙ ap content_of from_free;
    outs_go = subst (λ (s : Contents). OutsGo is_dir_body tmp number s 0 (outs from to)) (sym begun-same)
        (outs-go-through body is_dir is_dir_body (λ x. refl) tmp number (outs from to) (made_sight (node_at from) (tmp ∷ []) top) 0 (all-outs-go from to is bytes tmp number once top refl from_free to_free));
    puts_go = subst (λ (s : Contents). PutsGo is_dir_body tmp number s (map content_put (placings from to))) (sym outs-same)
        (puts-go-through body is_dir is_dir_body (λ x. refl) tmp number (placings from to) over_outs (all-puts-go from to is bytes tmp number once top refl from_free to_free));
    copies_go = copies-go;
    tmp_there = dirs-kept calls seen (tmp ∷ []) copies-go (ap is_dir_seen (seen-at (tmp ∷ []) ∙ ap content_of (top-stays from to is bytes tmp number once top refl from_free to_free)));
  }

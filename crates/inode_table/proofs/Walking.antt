-- What names lead to, by rows and by a tree; and the tree of a rename.
use Rattle.std.proofs.Common.{◌≡◌, ℕ, true, false, cond, List, [], ◌∷◌, ◌++◌, map, Option, Some, None, refl, sym, ap, ◌∙◌, append_assoc, append-nil}
use Rattle.std.specs.Prelude.{◌≢◌, not}
use Rattle.std.specs.Option.{option_map}
use Rattle.std.specs.Ordering.{eq_by_cmp}
use Rattle.std.specs.FinMap.Entries.{is_sorted, same_entries}
use Rattle.std.proofs.lemmas.List.{append_cancel_left}
use Rattle.std.proofs.lemmas.Slice.Eq.{slice_eq-Decides, bytes_eq-Decides}
use Rattle.hs_types.specs.Names.{Names}
use Rattle.hs_types.specs.declared.ids.InodeId.{InodeId}
use Rattle.hs_plain.specs.declared.state.Node.{Node}
use Rattle.hs_plain.specs.Tree.{Tree, path_cmp, node_at, same_path}
use Rattle.hs_plain.specs.Change.{restamp, stamped, without, moved, repath}
use Rattle.hs_plain.proofs.ValidTrees.{paths_total, paths_exact, holds_so, restamp-kept}
use Rattle.hs_plain.proofs.ValidShapes.{by_under, none_some, same_some, same_so, under_test}
use Rattle.hs_plain.proofs.ValidChanges.{moved_path, moved_under, moved_other, repath-is, node_at-without, apart_test}
use Rattle.hs_plain.proofs.ValidRepaths.{put_all_from, put_all_onto}
use Rattle.dir_changes.specs.Entries.{id_at}
use Rattle.inode_table.specs.Reads.{Shown, Nodes, ReadsAs, IsNodes, child, id_of}
use Rattle.inode_table.specs.Walk.{and_then, seen_from, Renames, Stamps}
use Rattle.inode_table.proofs.Reading.{reads-alike, reads-below, reads-touch, reads-cut, reads-graft}

-- two lookups that find the same
pub both_ways : {X : Type 0} (a b : Option X) → ((x : X) → a ≡ Some x → b ≡ Some x) → ((x : X) → b ≡ Some x → a ≡ Some x) → a ≡ b
both_ways None None there back = refl
both_ways None (Some y) there back = back y refl
both_ways (Some x) b there back = sym (there x refl)

module _ {B : Type 0} where
  pub up_there : (f : Nodes B) → IsNodes f → (p rest : Names) (x : Node B) → f (p ++ rest) ≡ Some x → (n : Node B) × (f p ≡ Some n)
  up_there f is p [] x h = (x, ap f (sym (append-nil p)) ∙ h)
  up_there f is p (name ∷ rest) x h = let m = up_there f is (child p name) rest x (ap f (append_assoc p (name ∷ []) rest) ∙ h) in is.above p m.0 name m.1

  module _ (v : Shown B) (top : InodeId) (f : Nodes B) (is : IsNodes f) (reads : ReadsAs v top f) where
    seen_below : (at rest : Names) (n : Node B) → f at ≡ Some n → f (at ++ rest) ≡ seen_from v n.id rest
    seen_below at [] n h = ap f (append-nil at) ∙ h ∙ sym (reads.node at n h)
    seen_below at (name ∷ rest) n h = by (f (child at name)) refl (λ m e. seen_below (child at name) rest m e)
      where
        absent : f (child at name) ≡ None → (o : Option (Node B)) → f (at ++ name ∷ rest) ≡ o → f (at ++ name ∷ rest) ≡ None
        absent e None d = d
        absent e (Some x) d = let m = up_there f is (child at name) rest x (ap f (append_assoc at (name ∷ []) rest) ∙ d) in absurd (none_some (sym e ∙ m.1))

        by : (o : Option (Node B)) → f (child at name) ≡ o → ((m : Node B) → f (child at name) ≡ Some m → f (child at name ++ rest) ≡ seen_from v m.id rest)
            → f (at ++ name ∷ rest) ≡ and_then (id_at name (v.entries n.id)) (λ next. seen_from v next rest)
        by None e more = absent e (f (at ++ name ∷ rest)) refl ∙ sym (ap (λ o. and_then o (λ next. seen_from v next rest)) (reads.entries at n name h ∙ ap id_of e))
        by (Some m) e more = sym (ap f (append_assoc at (name ∷ []) rest)) ∙ more m e ∙ sym (ap (λ o. and_then o (λ next. seen_from v next rest)) (reads.entries at n name h ∙ ap id_of e))

    pub reads-walk : (path : Names) → f path ≡ seen_from v top path
    reads-walk path = by (f []) refl
      where
        by : (o : Option (Node B)) → f [] ≡ o → f path ≡ seen_from v top path
        by None e = absurd (none_some (sym (ap id_of e) ∙ reads.root))
        by (Some n) e = seen_below [] path n e ∙ ap (λ (i : InodeId). seen_from v i path) (same_some (sym (ap id_of e) ∙ reads.root))

  pub one-tree : (v : Shown B) (top : InodeId) (t u : Tree B) → is_sorted path_cmp t ≡ true → is_sorted path_cmp u ≡ true → IsNodes (node_at t) → IsNodes (node_at u)
      → ReadsAs v top (node_at t) → ReadsAs v top (node_at u) → t ≡ u
  one-tree v top t u st su is_t is_u rt ru = same_entries path_cmp paths_total paths_exact t u (holds_so st) (holds_so su)
      (λ q. reads-walk v top (node_at t) is_t rt q ∙ sym (reads-walk v top (node_at u) is_u ru q))

  -- ---- parts of trees

  pub nodes-below : (f : Nodes B) (p : Names) → IsNodes f → IsNodes (λ rest. f (p ++ rest))
  nodes-below f p is = record {
    above = λ q x name h. is.above (p ++ q) x name (ap f (append_assoc p q (name ∷ [])) ∙ h);
    once = λ q r a b h k e. append_cancel_left p q r (is.once (p ++ q) (p ++ r) a b h k e);
  }

  pub nodes-cut : (f g : Nodes B) (p : Names) → ((rest : Names) → g (p ++ rest) ≡ None) → ((q : Names) → ((rest : Names) → q ≢ p ++ rest) → g q ≡ f q) → IsNodes f → IsNodes g
  nodes-cut f g p gone there is = record {
    above = λ q x name h. let up = is.above q x name (was (child q name) x h) in
        (up.0, there q (λ rest e. none_some (sym (gone (rest ++ name ∷ [])) ∙ ap g (sym (append_assoc p rest (name ∷ [])) ∙ ap (λ (r : Names). child r name) (sym e)) ∙ h)) ∙ up.1);
    once = λ q r a b h k e. is.once q r a b (was q a h) (was r b k) e;
  }
    where
      was : (q : Names) (n : Node B) → g q ≡ Some n → f q ≡ Some n
      was q n h = by_under q p (λ rest e. absurd (none_some (sym (gone rest) ∙ ap g (sym e) ∙ h))) (λ apart. sym (there q apart) ∙ h)

  -- ---- trees as lists

  pub without-gone : (t : Tree B) (p rest : Names) → node_at (without t p) (p ++ rest) ≡ None
  without-gone t p rest = node_at-without t p (p ++ rest) ∙ ap (λ b. cond (not b) (node_at t (p ++ rest)) None) (under_test (p ++ rest) p rest refl)

  pub without-there : (t : Tree B) (p q : Names) → ((rest : Names) → q ≢ p ++ rest) → node_at (without t p) q ≡ node_at t q
  without-there t p q apart = node_at-without t p q ∙ ap (λ b. cond (not b) (node_at t q) None) (apart_test q p apart)

  module _ (t : Tree B) (old new : Names) (sorted : is_sorted path_cmp t ≡ true) (empty : (rest : Names) → node_at t (new ++ rest) ≡ None) where
    abbrev to : Names → Names
    to = moved_path old new

    to_apart : (p q : Names) (a b : Node B) → node_at t p ≡ Some a → node_at t q ≡ Some b → to p ≡ to q → p ≡ q
    to_apart p q a b h k e = by_under p old
        (λ r d. by_under q old
        (λ s c. d ∙ ap (λ (x : Names). old ++ x) (append_cancel_left new r s (sym (moved_under old new r) ∙ ap to (sym d) ∙ e ∙ ap to c ∙ moved_under old new s)) ∙ sym c)
        (λ ne. absurd (none_some (sym (empty r) ∙ ap (node_at t) (sym (moved_under old new r) ∙ ap to (sym d) ∙ e ∙ moved_other old new q ne) ∙ k))))
        (λ ne. by_under q old
        (λ s c. absurd (none_some (sym (empty s) ∙ ap (node_at t) (sym (moved_under old new s) ∙ ap to (sym c) ∙ sym e ∙ moved_other old new p ne) ∙ h)))
        (λ nd. sym (moved_other old new p ne) ∙ e ∙ moved_other old new q nd))

    onto : (p : Names) (n : Node B) → node_at t p ≡ Some n → node_at (moved t old new) (to p) ≡ Some n
    onto p n h = put_all_onto to (repath old new) (repath-is old new) t [] sorted to_apart p n h

    came : {P : Type 0} (q : Names) (n : Node B) → node_at (moved t old new) q ≡ Some n → ((p : Names) → node_at t p ≡ Some n → to p ≡ q → P) → P
    came q n h then_ = put_all_from to (repath old new) (repath-is old new) t [] q n sorted h (λ none. absurd (none_some none)) then_

    pub moved-below : (rest : Names) → node_at (moved t old new) (new ++ rest) ≡ node_at t (old ++ rest)
    moved-below rest = both_ways _ _
        (λ n h. came (new ++ rest) n h (λ p at e. by_under p old
        (λ r d. let tails : r ≡ rest = append_cancel_left new r rest (sym (moved_under old new r) ∙ ap to (sym d) ∙ e) in ap (λ (x : Names). node_at t (old ++ x)) (sym tails) ∙ ap (node_at t) (sym d) ∙ at)
        (λ ne. absurd (none_some (sym (empty rest) ∙ ap (node_at t) (sym e ∙ moved_other old new p ne) ∙ at)))))
        (λ n h. ap (node_at (moved t old new)) (sym (moved_under old new rest)) ∙ onto (old ++ rest) n h)

    pub moved-there : (q : Names) → ((rest : Names) → q ≢ new ++ rest) → node_at (moved t old new) q ≡ node_at (without t old) q
    moved-there q apart = both_ways _ _
        (λ n h. came q n h (λ p at e. by_under p old
        (λ r d. absurd (apart r (sym e ∙ ap to d ∙ moved_under old new r)))
        (λ ne. let stays : p ≡ q = sym (moved_other old new p ne) ∙ e in
        without-there t old q (λ rest c. ne rest (stays ∙ c)) ∙ ap (node_at t) (sym stays) ∙ at)))
        (λ n h. by_under q old
        (λ rest e. absurd (none_some (sym (without-gone t old rest) ∙ ap (node_at (without t old)) (sym e) ∙ h)))
        (λ ne. ap (node_at (moved t old new)) (sym (moved_other old new q ne)) ∙ onto q n (sym (without-there t old q ne) ∙ h)))

  module _ (v u w : Shown B) (top : InodeId) (t : Tree B) (from to : Names) (old_name new_name : List ℕ) (a b x : Node B)
      (step : Renames v u w t from to old_name new_name a b x) (is : IsNodes (node_at t)) (reads : ReadsAs v top (node_at t)) where
    abbrev old_at : Names
    old_at = child from old_name

    abbrev new_at : Names
    new_at = child to new_name

    empty : (rest : Names) → node_at t (new_at ++ rest) ≡ None
    empty rest = by (node_at t (new_at ++ rest)) refl
      where
        by : (o : Option (Node B)) → node_at t (new_at ++ rest) ≡ o → node_at t (new_at ++ rest) ≡ None
        by None e = e
        by (Some n) e = let up = up_there (node_at t) is new_at rest n e in absurd (none_some (sym step.free ∙ up.1))

    to_kept : (rest : Names) → to ≢ old_at ++ rest
    to_kept rest e = step.outside (rest ++ new_name ∷ []) (ap (λ (r : Names). child r new_name) e ∙ append_assoc old_at rest (new_name ∷ []))

    not_above : (rest : Names) → from ≢ old_at ++ rest
    not_above rest e = nothing (append_cancel_left from [] (old_name ∷ rest) (append-nil from ∙ e ∙ append_assoc from (old_name ∷ []) rest))
      where
        nothing : [] ≡ old_name ∷ rest → ⊥
        nothing h = cc

    reads-cut_out : ReadsAs u top (node_at (without t old_at))
    reads-cut_out = reads-cut v u top (node_at t) (node_at (without t old_at)) from old_name a
        (record { was = step.was_from; gone = without-gone t old_at; there = without-there t old_at; node = step.node_left; spot = step.spot_left; left = step.left; entries = step.entries_left }) is reads

    reads-part : ReadsAs u x.id (λ rest. node_at t (old_at ++ rest))
    reads-part = reads-alike v u x.id (λ rest. node_at t (old_at ++ rest))
        (record {
          node = λ id _. step.node_left id;
          entries = λ id h. step.entries_left id (λ e. not_above h.at (sym (is.once (old_at ++ h.at) from h.node a h.is step.was_from (h.named ∙ e))));
          spot = λ id _. step.spot_left id;
        })
        (reads-below v top (node_at t) old_at x step.was reads)

    pub reads-moved : ReadsAs w top (node_at (moved t old_at new_at))
    reads-moved = reads-graft u w top x.id (node_at (without t old_at)) (λ rest. node_at t (old_at ++ rest)) (node_at (moved t old_at new_at)) to new_name b
        (record {
          was = without-there t old_at to to_kept ∙ step.was_to;
          here = moved-below t old_at new_at step.sorted empty;
          there = moved-there t old_at new_at step.sorted empty;
          not_below = λ h. to_kept h.at (sym (is.once (old_at ++ h.at) to h.node b h.is step.was_to h.named));
          new = λ h. by_under h.at old_at
              (λ rest e. none_some (sym (without-gone t old_at rest) ∙ ap (node_at (without t old_at)) (sym e) ∙ h.is))
              (λ ne. ne [] (is.once h.at old_at h.node x (sym (without-there t old_at h.at ne) ∙ h.is) step.was h.named ∙ sym (append-nil old_at)));
          node = step.node_put;
          entered = step.put;
          entries = step.entries_put;
          placed = step.placed;
          spot = step.spot_put;
        })
        (nodes-cut (node_at t) (node_at (without t old_at)) old_at (without-gone t old_at) (without-there t old_at) is)
        (nodes-below (node_at t) old_at is) reads-cut_out reads-part

  pub reads-move : (v u w : Shown B) (top : InodeId) (t : Tree B) (from to : Names) (old_name new_name : List ℕ) (a b x : Node B)
      → Renames v u w t from to old_name new_name a b x → IsNodes (node_at t) → ReadsAs v top (node_at t) → ReadsAs w top (node_at (moved t (child from old_name) (child to new_name)))
  reads-move v u w top t from to old_name new_name a b x step is reads = reads-moved v u w top t from to old_name new_name a b x step is reads

  -- ---- a stamp

  pub node_at-map : (g : Names × Node B → Names × Node B) → ((place : Names × Node B) → (g place).0 ≡ place.0) → (t : Tree B) (q : Names) → node_at (map g t) q ≡ option_map (λ n. (g (q, n)).1) (node_at t q)
  node_at-map g kept [] q = refl
  node_at-map g kept (e ∷ es) q =
      ap (λ (p : Names). cond (eq_by_cmp path_cmp q p) (Some (g e).1) (node_at (map g es) q)) (kept e)
      ∙ elim (eq_by_cmp path_cmp q e.0) as (λ b. eq_by_cmp path_cmp q e.0 ≡ b → cond b (Some (g e).1) (node_at (map g es) q) ≡ option_map (λ n. (g (q, n)).1) (cond b (Some e.1) (node_at es q))) [
        | true ↦ λ t. ap (λ (p : Names). Some (g (p, e.1)).1) (sym (same_so t))
        | false ↦ λ _. node_at-map g kept es q
      ] refl

  pub node_at-stamped : (t : Tree B) (p : Names) (n : Node B) (tick : ℕ) → node_at t p ≡ Some n → node_at (stamped t p tick) p ≡ Some (record n { stamp = tick })
  node_at-stamped t p n tick at = node_at-map (restamp p tick) (restamp-kept p tick) t p ∙ ap (option_map (λ m. (restamp p tick (p, m)).1)) at
      ∙ ap (λ b. Some (cond {A = Names × Node B} b (p, record n { stamp = tick }) (p, n)).1) ((slice_eq-Decides bytes_eq-Decides p p (same_path p p) refl).1 refl)

  pub node_at-stamped_other : (t : Tree B) (p : Names) (tick : ℕ) (q : Names) → q ≢ p → node_at (stamped t p tick) q ≡ node_at t q
  node_at-stamped_other t p tick q ne = node_at-map (restamp p tick) (restamp-kept p tick) t q ∙ unmoved (node_at t q)
    where
      other : same_path p q ≡ false
      other = elim (same_path p q) as (λ b. same_path p q ≡ b → b ≡ false) [
        | true ↦ λ s. absurd (ne (sym ((slice_eq-Decides bytes_eq-Decides p q (same_path p q) refl).0 s)))
        | false ↦ λ _. refl
      ] refl

      unmoved : (o : Option (Node B)) → option_map (λ m. (restamp p tick (q, m)).1) o ≡ o
      unmoved None = refl
      unmoved (Some m) = ap (λ b. Some (cond {A = Names × Node B} b (q, record m { stamp = tick }) (q, m)).1) other

  pub reads-stamp : (v w : Shown B) (top : InodeId) (t : Tree B) (p : Names) (n : Node B) (tick : ℕ) → node_at t p ≡ Some n → Stamps v w (record n { stamp = tick })
      → IsNodes (node_at t) → ReadsAs v top (node_at t) → ReadsAs w top (node_at (stamped t p tick))
  reads-stamp v w top t p n tick at step is reads = reads-touch v w top (node_at t) (node_at (stamped t p tick)) p n (record n { stamp = tick })
      (record {
        was = at;
        same_id = refl;
        here = node_at-stamped t p n tick at;
        there = node_at-stamped_other t p tick;
        shows = step.here;
        node = step.node;
        entries = step.entries;
        spot = step.spot;
      })
      is reads

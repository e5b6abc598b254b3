-- Rows are read as nodes, step by step.
use Rattle.std.proofs.Common.{◌≡◌, ℕ, true, false, cond, List, [], ◌∷◌, ◌++◌, Option, Some, None, refl, sym, ap, subst, ◌∙◌, append_assoc, append-nil}
use Rattle.std.specs.Prelude.{◌≢◌, ◌==◌}
use Rattle.std.proofs.lemmas.Bool.Decides.{Decides-eqb}
use Rattle.std.proofs.lemmas.List.{append_cancel_left}
use Rattle.hs_types.specs.Names.{Names}
use Rattle.hs_types.specs.declared.ids.InodeId.{InodeId}
use Rattle.hs_plain.specs.declared.state.Node.{Node}
use Rattle.hs_plain.specs.Tree.{parent_of}
use Rattle.hs_plain.proofs.ValidShapes.{parent_of-last, by_same, by_under, by_last, none_some, same_some, true_false, not_last, not_more}
use Rattle.dir_changes.specs.Entries.{id_at}
use Rattle.dir_changes.proofs.EditLaws.{same_name, by_name, id_at-with_entry, id_at-without_name, same_name-refl}
use Rattle.inode_table.specs.Reads.{Shown, Nodes, ReadsAs, IsNodes, Has, child, id_of}
use Rattle.inode_table.specs.Steps.{Alike, Touches, Cuts, Grafts}

-- ---- ids

pub same_id_so : (a b : InodeId) → a.0 ≡ b.0 → a ≡ b
same_id_so a b e = λ i. record { 0 = e i }

-- by whether two ids are one
pub by_id : {P : Type 0} (a b : InodeId) → (a ≡ b → P) → (a ≢ b → P) → P
by_id {P} a b here there = elim (a.0 == b.0) as (λ t. (a.0 == b.0) ≡ t → P) [
  | true ↦ λ t. here (same_id_so a b ((Decides-eqb a.0 b.0).0 t))
  | false ↦ λ t. there (λ e. true_false ((Decides-eqb a.0 b.0).1 (ap (λ (x : InodeId). x.0) e)) t)
] refl

-- ---- paths at and below a child

pub last_two : (q p : Names) (a b : List ℕ) → q ++ a ∷ [] ≡ p ++ b ∷ [] → (q ≡ p) × (a ≡ b)
last_two q p a b e =
    let up : q ≡ p = sym (parent_of-last q a) ∙ ap parent_of e ∙ parent_of-last p b in
    let tails : a ∷ [] ≡ b ∷ [] = append_cancel_left p (a ∷ []) (b ∷ []) (ap (λ (x : Names). x ++ a ∷ []) (sym up) ∙ e) in
    (up, heads tails)
  where
    heads : a ∷ [] ≡ b ∷ [] → a ≡ b
    heads h = cc

-- a child's path lies at or below a path exactly where it is that path, or its parent lies there
pub by_child : {P : Type 0} (q : Names) (other : List ℕ) (above : Names) (name : List ℕ)
    → ((q ≡ above) → (other ≡ name) → P) → ((rest : Names) → q ≡ child above name ++ rest → P) → (((rest : Names) → child q other ≢ child above name ++ rest) → P) → P
by_child {P} q other above name same under apart = by_under (child q other) (child above name)
    (λ rest e. by_last (λ r. child q other ≡ child above name ++ r → P) rest
    (λ e. let both = last_two q above other name (e ∙ append-nil (child above name)) in same both.0 both.1)
    (λ front last e. let both = last_two q (child above name ++ front) other last (e ∙ sym (append_assoc (child above name) front (last ∷ []))) in under front both.0)
    e)
    apart

module _ {B : Type 0} where
  pub has : (f : Nodes B) (p : Names) (n : Node B) → f p ≡ Some n → Has f n.id
  has f p n h = record { at = p; node = n; is = h; named = refl }

  pub reads-alike : (v w : Shown B) (top : InodeId) (f : Nodes B) → Alike v w f → ReadsAs v top f → ReadsAs w top f
  reads-alike v w top f same reads = record {
    root = reads.root;
    node = λ p n h. same.node n.id (has f p n h) ∙ reads.node p n h;
    entries = λ p n name h. ap (id_at name) (same.entries n.id (has f p n h)) ∙ reads.entries p n name h;
    spot = λ p n x name h k. same.spot x.id (has f (child p name) x k) ∙ reads.spot p n x name h k;
  }

  pub reads-below : (v : Shown B) (top : InodeId) (f : Nodes B) (p : Names) (n : Node B) → f p ≡ Some n → ReadsAs v top f → ReadsAs v n.id (λ rest. f (p ++ rest))
  reads-below v top f p n at reads = record {
    root = ap id_of (ap f (append-nil p) ∙ at);
    node = λ q m h. reads.node (p ++ q) m h;
    entries = λ q m name h. reads.entries (p ++ q) m name h ∙ ap (λ (r : Names). id_of (f r)) (append_assoc p q (name ∷ []));
    spot = λ q m x name h k. reads.spot (p ++ q) m x name h (ap f (append_assoc p q (name ∷ [])) ∙ k);
  }

  pub reads-touch : (v w : Shown B) (top : InodeId) (f g : Nodes B) (p : Names) (old new : Node B) → Touches v w f g p old new → IsNodes f → ReadsAs v top f → ReadsAs w top g
  reads-touch v w top f g p old new step is reads = record {
    root = ids [] ∙ reads.root;
    node = λ q m h. by_same q p
        (λ e. let same : new ≡ m = same_some (sym step.here ∙ ap g (sym e) ∙ h) in subst (λ (x : Node B). w.node x.id ≡ Some x) same step.shows)
        (λ ne. let was : f q ≡ Some m = sym (step.there q ne) ∙ h in
        step.node m.id (λ e. ne (is.once q p m old was step.was (e ∙ step.same_id))) ∙ reads.node q m was);
    entries = λ q m name h. ap (id_at name) (step.entries m.id) ∙ before q m h (λ x k e. ap (λ (i : InodeId). id_at name (v.entries i)) (sym e) ∙ reads.entries q x name k ∙ sym (ids (child q name)));
    spot = λ q m x name h k. step.spot x.id ∙ before q m h (λ a s e. before (child q name) x k (λ b t d.
        ap v.spot (sym d) ∙ reads.spot q a b name s t ∙ ap (λ (i : InodeId). Some (record { parent = i; name = name })) e));
  }
    where
      ids : (q : Names) → id_of (g q) ≡ id_of (f q)
      ids q = by_same q p (λ e. ap (λ (r : Names). id_of (g r)) e ∙ ap id_of step.here ∙ ap (λ i. Some i) step.same_id ∙ sym (ap id_of step.was) ∙ ap (λ (r : Names). id_of (f r)) (sym e)) (λ ne. ap id_of (step.there q ne))

      before : {P : Type 0} (q : Names) (m : Node B) → g q ≡ Some m → ((x : Node B) → f q ≡ Some x → x.id ≡ m.id → P) → P
      before q m h then_ = by_same q p
          (λ e. then_ old (ap f e ∙ step.was) (sym step.same_id ∙ ap (λ (x : Node B). x.id) (same_some (sym step.here ∙ ap g (sym e) ∙ h))))
          (λ ne. then_ m (sym (step.there q ne) ∙ h) refl)

  pub reads-cut : (v w : Shown B) (top : InodeId) (f g : Nodes B) (above : Names) (name : List ℕ) (parent : Node B) → Cuts v w f g above name parent → IsNodes f → ReadsAs v top f → ReadsAs w top g
  reads-cut v w top f g above name parent step is reads = record {
    root = ap id_of (step.there [] (λ rest e. not_last above name (not_more _ rest e))) ∙ reads.root;
    node = λ q n h. step.node n.id ∙ reads.node q n (was q n h);
    entries = λ q n other h. by_id n.id parent.id
        (λ e. let here : q ≡ above = is.once q above n parent (was q n h) step.was e in
        ap (λ (i : InodeId). id_at other (w.entries i)) e ∙ ap (id_at other) step.left ∙ id_at-without_name other name (v.entries parent.id)
        ∙ by_name (λ b. cond b None (id_at other (v.entries parent.id)) ≡ id_of (g (child q other)))
        (λ d. sym (ap id_of (ap g (ap (λ (x : Names). child x other) here ∙ ap (child above) d ∙ sym (append-nil (child above name))) ∙ step.gone [])))
        (λ d. reads.entries above parent other step.was ∙ ap (λ (x : Names). id_of (f (child x other))) (sym here)
        ∙ sym (ap id_of (step.there (child q other) (λ rest c. by_child q other above name
        (λ _ same. true_false (same_name-refl name) (ap (λ (x : List ℕ). same_name x name) (sym same) ∙ d))
        (λ rest c. none_some (sym (step.gone rest) ∙ ap g (sym c) ∙ h))
        (λ apart. apart rest c))))))
        (λ ne. ap (id_at other) (step.entries n.id ne) ∙ reads.entries q n other (was q n h) ∙ sym (ap id_of (step.there (child q other) (λ rest c. by_child q other above name
        (λ here _. ne (ap (λ (x : Node B). x.id) (same_some (sym (was q n h) ∙ ap f here ∙ step.was))))
        (λ rest c. none_some (sym (step.gone rest) ∙ ap g (sym c) ∙ h))
        (λ apart. apart rest c)))));
    spot = λ q n x other h k. step.spot x.id ∙ reads.spot q n x other (was q n h) (was (child q other) x k);
  }
    where
      was : (q : Names) (n : Node B) → g q ≡ Some n → f q ≡ Some n
      was q n h = by_under q (child above name) (λ rest e. absurd (none_some (sym (step.gone rest) ∙ ap g (sym e) ∙ h))) (λ apart. sym (step.there q apart) ∙ h)

  module _ (v w : Shown B) (top x : InodeId) (f h g : Nodes B) (above : Names) (name : List ℕ) (parent : Node B) (step : Grafts v w f h g above name parent x)
      (is : IsNodes f) (is_h : IsNodes h) (reads : ReadsAs v top f) (reads_h : ReadsAs v x h) where
    abbrev here : Names
    here = child above name

    -- a place is one of the new ones, or one of the old ones
    by_part : {P : Type 0} (q : Names) (n : Node B) → g q ≡ Some n → ((rest : Names) → q ≡ here ++ rest → h rest ≡ Some n → P) → (((rest : Names) → q ≢ here ++ rest) → f q ≡ Some n → P) → P
    by_part q n at below other = by_under q here (λ rest e. below rest e (sym (step.here rest) ∙ ap g (sym e) ∙ at)) (λ apart. other apart (sym (step.there q apart) ∙ at))

    in_h : (rest : Names) (n : Node B) → h rest ≡ Some n → n.id ≢ parent.id
    in_h rest n at e = step.not_below (record { at = rest; node = n; is = at; named = e })

    in_f : (q : Names) (n : Node B) → f q ≡ Some n → n.id ≢ x
    in_f q n at e = step.new (record { at = q; node = n; is = at; named = e })

    deeper : (rest : Names) (other : List ℕ) → g (child (here ++ rest) other) ≡ h (child rest other)
    deeper rest other = ap g (append_assoc here rest (other ∷ [])) ∙ step.here (child rest other)

    top_id : id_of (g here) ≡ Some x
    top_id = ap (λ (q : Names). id_of (g q)) (sym (append-nil here)) ∙ ap id_of (step.here []) ∙ reads_h.root

    pub reads-grafted : ReadsAs w top g
    reads-grafted = record {
      root = ap id_of (step.there [] (λ rest e. not_last above name (not_more _ rest e))) ∙ reads.root;
      node = λ q n at. step.node n.id ∙ by_part q n at (λ rest _ t. reads_h.node rest n t) (λ _ t. reads.node q n t);
      entries = λ q n other at. by_part q n at
          (λ rest e t. ap (id_at other) (step.entries n.id (in_h rest n t)) ∙ reads_h.entries rest n other t ∙ sym (ap id_of (ap (λ (r : Names). g (child r other)) e ∙ deeper rest other)))
          (λ apart t. by_id n.id parent.id
          (λ e. let is_above : q ≡ above = is.once q above n parent t step.was e in
          ap (λ (i : InodeId). id_at other (w.entries i)) e ∙ ap (id_at other) step.entered ∙ id_at-with_entry other name x (v.entries parent.id)
          ∙ by_name (λ b. cond b (Some x) (id_at other (v.entries parent.id)) ≡ id_of (g (child q other)))
          (λ d. sym (ap (λ (r : Names). id_of (g r)) (ap (λ (r : Names). child r other) is_above ∙ ap (child above) d) ∙ top_id))
          (λ d. reads.entries above parent other step.was ∙ ap (λ (r : Names). id_of (f (child r other))) (sym is_above)
          ∙ sym (ap id_of (step.there (child q other) (λ rest c. by_child q other above name
          (λ _ same. true_false (same_name-refl name) (ap (λ (r : List ℕ). same_name r name) (sym same) ∙ d))
          (λ rest c. apart rest c)
          (λ away. away rest c))))))
          (λ ne. ap (id_at other) (step.entries n.id ne) ∙ reads.entries q n other t ∙ sym (ap id_of (step.there (child q other) (λ rest c. by_child q other above name
          (λ is_above _. ne (ap (λ (r : Node B). r.id) (same_some (sym t ∙ ap f is_above ∙ step.was))))
          (λ rest c. apart rest c)
          (λ away. away rest c))))));
      spot = λ q n y other at below. by_part q n at
          (λ rest e t. let deep : h (child rest other) ≡ Some y = sym (ap (λ (r : Names). g (child r other)) e ∙ deeper rest other) ∙ below in
          step.spot y.id (λ d. not_root rest other y deep d) ∙ reads_h.spot rest n y other t deep)
          (λ apart t. by_child q other above name
          (λ is_above same. let kid : y.id ≡ x = same_some (ap id_of (sym below) ∙ ap (λ (r : Names). id_of (g r)) (ap (λ (r : Names). child r other) is_above ∙ ap (child above) same) ∙ top_id) in
          let up : n ≡ parent = same_some (sym t ∙ ap f is_above ∙ step.was) in
          ap w.spot kid ∙ step.placed ∙ (λ i. Some (record { parent = (sym up i).id; name = sym same i })))
          (λ rest c. absurd (apart rest c))
          (λ away. let old : f (child q other) ≡ Some y = sym (step.there (child q other) away) ∙ below in
          step.spot y.id (in_f (child q other) y old) ∙ reads.spot q n y other t old));
    }
      where
        not_root : (rest : Names) (other : List ℕ) (y : Node B) → h (child rest other) ≡ Some y → y.id ≢ x
        not_root rest other y deep d = by_root (h []) refl
          where
            by_root : (o : Option (Node B)) → h [] ≡ o → ⊥
            by_root None e = none_some (sym (ap id_of e) ∙ reads_h.root)
            by_root (Some r) e = not_last rest other (is_h.once (child rest other) [] y r deep e (d ∙ sym (same_some (ap id_of (sym e) ∙ reads_h.root))))

  pub reads-graft : (v w : Shown B) (top x : InodeId) (f h g : Nodes B) (above : Names) (name : List ℕ) (parent : Node B) → Grafts v w f h g above name parent x
      → IsNodes f → IsNodes h → ReadsAs v top f → ReadsAs v x h → ReadsAs w top g
  reads-graft v w top x f h g above name parent step is is_h reads reads_h = reads-grafted v w top x f h g above name parent step is is_h reads reads_h

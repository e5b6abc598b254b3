-- What one change of a tree leaves of child lists: a node put in, a subtree taken out, and a subtree moved.
use Rattle.std.proofs.Common.{◌≡◌, ℕ, ◌+◌, ◌≤◌, List, [], ◌∷◌, ◌++◌, Option, Some, None, refl, sym, ap, subst, ◌∙◌, append_assoc, append-nil, length, length-append, arith}
use Rattle.std.specs.Prelude.{◌≢◌}
use Rattle.std.specs.List.{Contains}
use Rattle.std.proofs.lemmas.List.Elements.{Contains-append_left, Contains-append_right}
use Rattle.hs_types.specs.Names.{Names}
use Rattle.hs_types.specs.declared.ids.InodeId.{InodeId}
use Rattle.hs_plain.proofs.ValidShapes.{by_same, by_under, by_last, none_some, same_some}
use Rattle.inode_table.specs.Reads.{child}
use Rattle.inode_table.proofs.Reading.{last_two, by_child}
use Rattle.report_laws.specs.Differing.{Ids, ListEntry, Stands, Lists}
use Rattle.report_laws.proofs.Spans.{IsIds, Spans}

-- ---- one entry

-- the entry of a name in a directory, if there is one
abbrev pub entry_of : Option InodeId → List ℕ → Option InodeId → List ListEntry
entry_of None name x = []
entry_of (Some p) name None = []
entry_of (Some p) name (Some x) = record { dir = p; name = name; id = x } ∷ []

abbrev pub entry_at : Ids → Names → List ℕ → List ListEntry
entry_at f p name = entry_of (f p) name (f (child p name))

one_entry : (o : Option InodeId) (name : List ℕ) (x : Option InodeId) → length (entry_of o name x) ≤ 1
one_entry None name x = omega arith
one_entry (Some p) name None = omega arith
one_entry (Some p) name (Some x) = omega arith

listed_at : (f : Ids) (p : Names) (name : List ℕ) (e : ListEntry) (k : Lists f e) → k.at ≡ p → e.name ≡ name → Contains (entry_at f p name) e
listed_at f p name e k here named =
    subst (λ (l : List ListEntry). Contains l e) (λ i. entry_of (sym (ap f (sym here) ∙ k.above) i) (named i) (sym (ap f (λ j. child (sym here j) (sym named j)) ∙ k.is) i)) (0, omega arith, refl)

-- ---- a node is put in

module _ (f g : Ids) (is : IsIds f) (above : Names) (name : List ℕ) (x : InodeId) (here : g (child above name) ≡ Some x) (there : (q : Names) → q ≢ child above name → g q ≡ f q)
    (leaf : (n : List ℕ) (y : InodeId) → f (child (child above name) n) ≡ Some y → ⊥) (new : Stands f x → ⊥) where
  abbrev put_entries : List ListEntry
  put_entries = entry_at f above name ++ entry_at g above name

  put_forth : (e : ListEntry) → (Contains put_entries e → ⊥) → Lists f e → Lists g e
  put_forth e away k = by_same (child k.at e.name) (child above name)
      (λ d. let both = last_two k.at above e.name name d in absurd (away (Contains-append_left (entry_at f above name) (entry_at g above name) e (listed_at f above name e k both.0 both.1))))
      (λ ne. record { at = k.at; above = there k.at (λ d. leaf e.name e.id (ap f (ap (λ (r : Names). child r e.name) (sym d)) ∙ k.is)) ∙ k.above; is = there (child k.at e.name) ne ∙ k.is })

  put_back : (e : ListEntry) → Stands f e.dir → (Contains put_entries e → ⊥) → Lists g e → Lists f e
  put_back e was away k = by_same (child k.at e.name) (child above name)
      (λ d. let both = last_two k.at above e.name name d in absurd (away (Contains-append_right (entry_at f above name) (entry_at g above name) e (listed_at g above name e k both.0 both.1))))
      (λ ne. record {
        at = k.at;
        above = sym (there k.at (λ d. new (subst (Stands f) (same_some (sym k.above ∙ ap g d ∙ here)) was))) ∙ k.above;
        is = sym (there (child k.at e.name) ne) ∙ k.is;
      })

  pub put-spans : (next : ℕ) → x.0 ≡ next → Spans f g next (next + 1) 2
  put-spans next same = record {
    near = record {
      entries = put_entries;
      few = let len : length put_entries ≡ length (entry_at f above name) + length (entry_at g above name) = length-append (entry_at f above name) (entry_at g above name) in
          let a = one_entry (f above) name (f (child above name)) in let b = one_entry (g above) name (g (child above name)) in omega (arith, len);
      differ = record { forth = λ e _ _ away k. put_forth e away k; back = λ e was _ away k. put_back e was away k };
    };
    old = λ y h lt. by_same h.at (child above name)
        (λ d. let tied : x.0 ≡ y.0 = ap (λ (i : InodeId). i.0) (same_some (sym here ∙ ap g (sym d) ∙ h.is)) in absurd (omega (arith, same)))
        (λ ne. record { at = h.at; is = sym (there h.at ne) ∙ h.is });
    grows = omega arith;
  }

-- ---- a subtree goes

module _ (f g : Ids) (is : IsIds f) (above : Names) (name : List ℕ) (gone : (rest : Names) → g (child above name ++ rest) ≡ None) (there : (q : Names) → ((rest : Names) → q ≢ child above name ++ rest) → g q ≡ f q) where
  left : (q : Names) (x : InodeId) → g q ≡ Some x → f q ≡ Some x
  left q x h = by_under q (child above name) (λ rest d. absurd (none_some (sym (gone rest) ∙ ap g (sym d) ∙ h))) (λ apart. sym (there q apart) ∙ h)

  cut_forth : (e : ListEntry) → Stands g e.dir → (Contains (entry_at f above name) e → ⊥) → Lists f e → Lists g e
  cut_forth e now away k = let same : k.at ≡ now.at = is.once k.at now.at e.dir k.above (left now.at e.dir now.is) in
      by_child k.at e.name above name
      (λ d named. absurd (away (listed_at f above name e k d named)))
      (λ rest d. absurd (none_some (sym (gone rest) ∙ ap g (sym (sym same ∙ d)) ∙ now.is)))
      (λ apart. record { at = k.at; above = ap g same ∙ now.is; is = there (child k.at e.name) apart ∙ k.is })

  pub cut-spans : (next : ℕ) → Spans f g next next 2
  cut-spans next = record {
    near = record {
      entries = entry_at f above name;
      few = let a = one_entry (f above) name (f (child above name)) in omega arith;
      differ = record {
        forth = λ e _ now away k. cut_forth e now away k;
        back = λ e _ _ _ k. record { at = k.at; above = left k.at e.dir k.above; is = left (child k.at e.name) e.id k.is };
      };
    };
    old = λ y h _. record { at = h.at; is = left h.at y h.is };
    grows = omega arith;
  }

-- ---- a subtree moves

module _ (f g : Ids) (is : IsIds f) (from to : Names) (old_name new_name : List ℕ) (path : Names → Names)
    (path_under : (rest : Names) → path (child from old_name ++ rest) ≡ child to new_name ++ rest) (path_other : (p : Names) → ((rest : Names) → p ≢ child from old_name ++ rest) → path p ≡ p)
    (came : (q : Names) (x : InodeId) → g q ≡ Some x → (p : Names) × (f p ≡ Some x) × (path p ≡ q)) (onto : (p : Names) (x : InodeId) → f p ≡ Some x → g (path p) ≡ Some x) where
  abbrev move_entries : List ListEntry
  move_entries = entry_at f from old_name ++ entry_at g to new_name

  abbrev grown : ListEntry → Names → Names
  grown e path = child path e.name

  move_forth : (e : ListEntry) → (Contains move_entries e → ⊥) → Lists f e → Lists g e
  move_forth e away k = by_child k.at e.name from old_name
      (λ d named. absurd (away (Contains-append_left (entry_at f from old_name) (entry_at g to new_name) e (listed_at f from old_name e k d named))))
      (λ rest d. record {
        at = path k.at;
        above = onto k.at e.dir k.above;
        is = ap g (ap (grown e) (ap path d ∙ path_under rest) ∙ append_assoc (child to new_name) rest (e.name ∷ []) ∙ sym (path_under (rest ++ e.name ∷ []))
            ∙ ap path (sym (append_assoc (child from old_name) rest (e.name ∷ [])) ∙ ap (grown e) (sym d))) ∙ onto (child k.at e.name) e.id k.is;
      })
      (λ apart. record {
        at = k.at;
        above = ap g (sym (path_other k.at (λ rest d. apart (rest ++ e.name ∷ []) (ap (grown e) d ∙ append_assoc (child from old_name) rest (e.name ∷ []))))) ∙ onto k.at e.dir k.above;
        is = ap g (sym (path_other (child k.at e.name) apart)) ∙ onto (child k.at e.name) e.id k.is;
      })

  move_back : (e : ListEntry) → (Contains move_entries e → ⊥) → Lists g e → Lists f e
  move_back e away k = let r = came (child k.at e.name) e.id k.is in by_under r.0 (child from old_name)
      (λ rest under. by_last (λ t. r.0 ≡ child from old_name ++ t → Lists f e) rest
      (λ d. let both = last_two k.at to e.name new_name (sym r.2 ∙ ap path d ∙ path_under [] ∙ append-nil (child to new_name)) in
      absurd (away (Contains-append_right (entry_at f from old_name) (entry_at g to new_name) e (listed_at g to new_name e k both.0 both.1))))
      (λ front last d.
      let both = last_two k.at (child to new_name ++ front) e.name last (sym r.2 ∙ ap path d ∙ path_under (front ++ last ∷ []) ∙ sym (append_assoc (child to new_name) front (last ∷ []))) in
      let deep : r.0 ≡ child (child from old_name ++ front) e.name = d ∙ sym (append_assoc (child from old_name) front (last ∷ [])) ∙ ap (child (child from old_name ++ front)) (sym both.1) in
      let up = is.above (child from old_name ++ front) e.name e.id (ap f (sym deep) ∙ r.1) in
      record {
        at = child from old_name ++ front;
        above = up.1 ∙ sym (onto (child from old_name ++ front) up.0 up.1) ∙ ap g (path_under front ∙ sym both.0) ∙ k.above;
        is = ap f (sym deep) ∙ r.1;
      })
      under)
      (λ apart.
      let stays : r.0 ≡ child k.at e.name = sym (path_other r.0 apart) ∙ r.2 in
      let up = is.above k.at e.name e.id (ap f (sym stays) ∙ r.1) in
      record {
        at = k.at;
        above = up.1 ∙ sym (onto k.at up.0 up.1) ∙ ap g (path_other k.at (λ rest d. apart (rest ++ e.name ∷ []) (stays ∙ ap (grown e) d ∙ append_assoc (child from old_name) rest (e.name ∷ [])))) ∙ k.above;
        is = ap f (sym stays) ∙ r.1;
      })

  pub move-spans : (next : ℕ) → Spans f g next next 2
  move-spans next = record {
    near = record {
      entries = move_entries;
      few = let len : length move_entries ≡ length (entry_at f from old_name) + length (entry_at g to new_name) = length-append (entry_at f from old_name) (entry_at g to new_name) in
          let a = one_entry (f from) old_name (f (child from old_name)) in let b = one_entry (g to) new_name (g (child to new_name)) in omega (arith, len);
      differ = record { forth = λ e _ _ away k. move_forth e away k; back = λ e _ _ away k. move_back e away k };
    };
    old = λ y h _. let p = came h.at y h.is in record { at = p.0; is = p.1 };
    grows = omega arith;
  }

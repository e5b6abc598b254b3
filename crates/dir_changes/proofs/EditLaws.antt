-- One entry added or removed, and entered in the last record: undoing leads to the same list.
use Rattle.std.proofs.Common.{◌≡◌, ℕ, Bool, true, false, cond, List, [], ◌∷◌, Option, Some, None, refl, sym, ap, ◌∙◌}
use Rattle.std.specs.Prelude.{not, IsTrue, is_some}
use Rattle.std.specs.List.{list_all}
use Rattle.std.specs.Ordering.{is_eq, eq_by_cmp}
use Rattle.std.specs.declared.cmp.Ordering.{Ordering}
use Rattle.std.specs.declared.cmp.Ordering.TheVariants.{Less, Equal, Greater}
use Rattle.std.specs.Cmp.{eq_by_cmp_equiv}
use Rattle.std.specs.Cmp.Lexicographic.{nat_list_cmp_total}
use Rattle.std.specs.FinMap.Entries.{find-put, find-where_key, is_sorted-where_key}
use Rattle.hs_types.specs.declared.ids.InodeId.{InodeId}
use Rattle.dir_changes.specs.Entries.{Entry, Entries, name_order, in_order, id_at, has, with_entry, without_name, without, with_all, holds, lacks}
use Rattle.dir_changes.specs.Undo.{ListDiff, undo, can_undo}
use Rattle.dir_changes.specs.History.{note_added, note_removed}
use Rattle.dir_changes.proofs.UndoLaw.{names_exact, or_else, id_at-with_all, id_at-without, in_order-with_entry, in_order-without, in_order-undo, same_lists, both, first, second, all_more, all-with_entry, is_that_so, is_that_from, lacks_so, lacks_from, UndoFacts, undo_facts, holds_so, is_so}

abbrev pub same_name : List ℕ → List ℕ → Bool
same_name q name = eq_by_cmp name_order q name

pub same_name-sym : (q name : List ℕ) → same_name q name ≡ same_name name q
same_name-sym q name = (eq_by_cmp_equiv nat_list_cmp_total).symm q name

is_equal : (r : Ordering) → is_eq r ≡ true → r ≡ Equal
is_equal Less h = cc
is_equal Equal h = refl
is_equal Greater h = cc

pub same_name_so : (q name : List ℕ) → same_name q name ≡ true → q ≡ name
same_name_so q name h = names_exact q name (is_equal _ h)

pub same_name-refl : (name : List ℕ) → same_name name name ≡ true
same_name-refl name = (eq_by_cmp_equiv nat_list_cmp_total).refl name

pub id_at-with_entry : (q name : List ℕ) (id : InodeId) (entries : Entries) → id_at q (with_entry name id entries) ≡ cond (same_name q name) (Some id) (id_at q entries)
id_at-with_entry q name id entries = find-put name_order nat_list_cmp_total q name id entries

cond-not : {A : Type 0} (b : Bool) (x y : A) → cond (not b) x y ≡ cond b y x
cond-not true x y = refl
cond-not false x y = refl

pub id_at-without_name : (q name : List ℕ) (entries : Entries) → id_at q (without_name name entries) ≡ cond (same_name q name) None (id_at q entries)
id_at-without_name q name entries =
    find-where_key name_order (λ other. not (same_name name other)) q (λ other tie. ap (λ n. not (same_name name n)) (sym (names_exact q other tie))) entries
    ∙ cond-not (same_name name q) (id_at q entries) None ∙ ap (λ b. cond b None (id_at q entries)) (same_name-sym name q)

pub in_order-without_name : (name : List ℕ) (entries : Entries) → IsTrue (in_order entries) → IsTrue (in_order (without_name name entries))
in_order-without_name name entries h = is_so _ (is_sorted-where_key name_order (λ other. not (same_name name other)) entries (holds_so _ h))

-- by whether two names are the same
pub by_name : {q name : List ℕ} (P : Bool → Type 0) → (q ≡ name → P true) → (same_name q name ≡ false → P false) → P (same_name q name)
by_name {q} {name} P here there = elim (same_name q name) as (λ b. same_name q name ≡ b → P b) [ true ↦ λ h. here (same_name_so q name h) | false ↦ λ h. there h ] refl

pub all-without_name : (test : Entry → Bool) (name : List ℕ) (es : Entries) → IsTrue (list_all test es) → IsTrue (list_all test (without_name name es))
all-without_name test name [] all = refl
all-without_name test name (e ∷ es) all =
    let rest = all-without_name test name es (second (test e) _ all) in
    elim (same_name name e.0) as (λ b. IsTrue (list_all test (cond (not b) (e ∷ without_name name es) (without_name name es)))) [
      | true ↦ rest
      | false ↦ both _ _ (first (test e) _ all) rest
    ]

-- where every look-up in one list gives what it gives in another, the tests agree
pub all_lack : (xs ys es : Entries) → ((q : List ℕ) → id_at q ys ≡ id_at q xs) → IsTrue (list_all (lacks xs) es) → IsTrue (list_all (lacks ys) es)
all_lack xs ys es same all = all_more (lacks xs) (lacks ys) es (λ e gone. lacks_from _ (same e.0 ∙ lacks_so _ gone)) all

-- ---- an entry is added

module _ (name : List ℕ) (id : InodeId) (diff : ListDiff) (entries : Entries) (absent : id_at name entries ≡ None) (can : IsTrue (can_undo diff entries)) where
  facts : UndoFacts diff entries
  facts = undo_facts diff entries can

  more : Entries
  more = with_entry name id entries

  -- the created entries taken away, it is the same list
  left_same : (q : List ℕ) → id_at q (without (note_added name id diff).created more) ≡ id_at q (without diff.created entries)
  unfolding more
  left_same q =
      id_at-without q (with_entry name id diff.created) (with_entry name id entries)
      ∙ (λ i. cond (is_some (id_at-with_entry q name id diff.created i)) None (id_at-with_entry q name id entries i))
      ∙ by_name {q = q} {name = name} (λ b. cond (is_some (cond b (Some id) (id_at q diff.created))) None (cond b (Some id) (id_at q entries)) ≡ cond (has q diff.created) None (id_at q entries))
      (λ here. sym (none (has q diff.created) (id_at q entries) (ap (λ n. id_at n entries) here ∙ absent)))
      (λ _. refl)
      ∙ sym (id_at-without q diff.created entries)
    where
      none : (b : Bool) (o : Option InodeId) → o ≡ None → cond b None o ≡ None
      none true o h = refl
      none false o h = h

  pub undo-note_added : IsTrue (in_order entries) → undo (note_added name id diff) (with_entry name id entries) ≡ undo diff entries
  unfolding more
  undo-note_added sorted = ap (with_all diff.deleted)
      (same_lists _ _ (in_order-without (with_entry name id diff.created) _ (in_order-with_entry name id entries sorted)) (in_order-without diff.created entries sorted) left_same)

  pub can_undo-note_added : IsTrue (can_undo (note_added name id diff) (with_entry name id entries))
  unfolding more
  can_undo-note_added = both _ _
      (all-with_entry (holds (with_entry name id entries)) name id diff.created
      (is_that_from id _ (id_at-with_entry name name id entries ∙ ap (λ b. cond b (Some id) (id_at name entries)) (same_name-refl name)))
      (all_more (holds entries) (holds (with_entry name id entries)) diff.created kept (first (list_all (holds entries) diff.created) _ can)))
      (all_lack (without diff.created entries) (without (with_entry name id diff.created) (with_entry name id entries)) diff.deleted left_same (second (list_all (holds entries) diff.created) _ can))
    where
      kept : (e : Entry) → IsTrue (holds entries e) → IsTrue (holds (with_entry name id entries) e)
      kept e held = is_that_from e.1 _ (id_at-with_entry e.0 name id entries ∙ by_name {q = e.0} {name = name} (λ b. cond b (Some id) (id_at e.0 entries) ≡ Some e.1)
          (λ here. absurd (some_none (sym (is_that_so e.1 _ held) ∙ ap (λ n. id_at n entries) here ∙ absent)))
          (λ _. is_that_so e.1 _ held))
        where
          some_none : {x : InodeId} → Some x ≡ None → ⊥
          some_none h = cc

-- ---- an entry is removed

module _ (name : List ℕ) (id : InodeId) (diff : ListDiff) (entries : Entries) (sorted : IsTrue (in_order entries)) (there : id_at name entries ≡ Some id) (can : IsTrue (can_undo diff entries)) where
  known : UndoFacts diff entries
  known = undo_facts diff entries can

  fewer_sorted : IsTrue (in_order (without_name name entries))
  fewer_sorted = in_order-without_name name entries sorted

  -- ---- it had been created in the record

  created_less : ListDiff
  created_less = record diff { created = without_name name diff.created }

  -- the created entries taken away, it is the same list
  created_left : IsTrue (holds diff.created (name, id)) → (q : List ℕ) → id_at q (without (without_name name diff.created) (without_name name entries)) ≡ id_at q (without diff.created entries)
  created_left made q =
      id_at-without q (without_name name diff.created) (without_name name entries)
      ∙ (λ i. cond (is_some (id_at-without_name q name diff.created i)) None (id_at-without_name q name entries i))
      ∙ by_name {q = q} {name = name} (λ b. cond (is_some (cond b None (id_at q diff.created))) None (cond b None (id_at q entries)) ≡ cond (has q diff.created) None (id_at q entries))
      (λ here. sym (ap (λ o. cond (is_some o) None (id_at q entries)) (ap (λ n. id_at n diff.created) here ∙ is_that_so id _ made)))
      (λ _. refl)
      ∙ sym (id_at-without q diff.created entries)

  undo-created_less : IsTrue (holds diff.created (name, id)) → undo (record diff { created = without_name name diff.created }) (without_name name entries) ≡ undo diff entries
  undo-created_less made = ap (with_all diff.deleted)
      (same_lists _ _ (in_order-without (without_name name diff.created) _ fewer_sorted) (in_order-without diff.created entries sorted) (created_left made))

  can_undo-created_less : IsTrue (holds diff.created (name, id)) → IsTrue (can_undo (record diff { created = without_name name diff.created }) (without_name name entries))
  can_undo-created_less made = both _ _
      (all_kept diff.created (first (list_all (holds entries) diff.created) _ can))
      (all_lack (without diff.created entries) (without (without_name name diff.created) (without_name name entries)) diff.deleted (created_left made) (second (list_all (holds entries) diff.created) _ can))
    where
      -- each entry under another name is still there
      all_kept : (es : Entries) → IsTrue (list_all (holds entries) es) → IsTrue (list_all (holds (without_name name entries)) (without_name name es))
      all_kept [] all = refl
      all_kept (e ∷ es) all =
          let rest = all_kept es (second (holds entries e) _ all) in
          elim (same_name name e.0) as (λ b. same_name name e.0 ≡ b → IsTrue (list_all (holds (without_name name entries)) (cond (not b) (e ∷ without_name name es) (without_name name es)))) [
            | true ↦ λ _. rest
            | false ↦ λ other. both _ _ (is_that_from e.1 _
                (id_at-without_name e.0 name entries ∙ ap (λ b. cond b None (id_at e.0 entries)) (same_name-sym e.0 name ∙ other) ∙ is_that_so e.1 _ (first (holds entries e) _ all))) rest
          ] refl

  -- ---- it was there before

  -- what was created has another name
  not_created : IsTrue (not (holds diff.created (name, id))) → id_at name diff.created ≡ None
  not_created old = go (id_at name diff.created) refl
    where
      go : (o : Option InodeId) → id_at name diff.created ≡ o → o ≡ None
      go None is = refl
      go (Some other) is =
          let same : Some id ≡ Some other = sym there ∙ known.created_there name other is in
          let held = is_that_from id (id_at name diff.created) (is ∙ sym same) in
          absurd (no_both (holds diff.created (name, id)) held old)
        where
          no_both : (b : Bool) → IsTrue b → IsTrue (not b) → ⊥
          no_both true p q = cc
          no_both false p q = cc

  old_left : IsTrue (not (holds diff.created (name, id))) → (q : List ℕ) → id_at q (without diff.created (without_name name entries)) ≡ cond (same_name q name) None (id_at q (without diff.created entries))
  old_left old q =
      id_at-without q diff.created (without_name name entries)
      ∙ ap (cond (has q diff.created) None) (id_at-without_name q name entries)
      ∙ swap (has q diff.created) (same_name q name) (id_at q entries)
      ∙ sym (ap (cond (same_name q name) None) (id_at-without q diff.created entries))
    where
      swap : (a b : Bool) (o : Option InodeId) → cond a None (cond b None o) ≡ cond b None (cond a None o)
      swap true true o = refl
      swap true false o = refl
      swap false b o = refl

  undo-deleted_more : IsTrue (not (holds diff.created (name, id))) → undo (record diff { deleted = with_entry name id diff.deleted }) (without_name name entries) ≡ undo diff entries
  undo-deleted_more old = same_lists _ _
      (in_order-undo (record diff { deleted = with_entry name id diff.deleted }) _ fewer_sorted) (in_order-undo diff entries sorted) at
    where
      at : (q : List ℕ) → id_at q (undo (record diff { deleted = with_entry name id diff.deleted }) (without_name name entries)) ≡ id_at q (undo diff entries)
      at q =
          id_at-with_all q (with_entry name id diff.deleted) (without diff.created (without_name name entries))
          ∙ (λ i. or_else (id_at-with_entry q name id diff.deleted i) (old_left old q i))
          ∙ by_name {q = q} {name = name} (λ b. or_else (cond b (Some id) (id_at q diff.deleted)) (cond b None (id_at q (without diff.created entries))) ≡ or_else (id_at q diff.deleted) (id_at q (without diff.created entries)))
          (λ here. sym ((λ i. or_else (gone here i) (back here i))))
          (λ _. refl)
          ∙ sym (id_at-with_all q diff.deleted (without diff.created entries))
        where
          back : q ≡ name → id_at q (without diff.created entries) ≡ Some id
          back here = ap (λ n. id_at n (without diff.created entries)) here ∙ id_at-without name diff.created entries ∙ ap (λ o. cond (is_some o) None (id_at name entries)) (not_created old) ∙ there

          gone : q ≡ name → id_at q diff.deleted ≡ None
          gone here = go (id_at q diff.deleted) refl
            where
              some_none : {x : InodeId} → Some x ≡ None → ⊥
              some_none h = cc

              go : (o : Option InodeId) → id_at q diff.deleted ≡ o → o ≡ None
              go None is = refl
              go (Some other) is = absurd (some_none (sym (back here) ∙ id_at-without q diff.created entries ∙ known.deleted_gone q (ap is_some is)))

  can_undo-deleted_more : IsTrue (not (holds diff.created (name, id))) → IsTrue (can_undo (record diff { deleted = with_entry name id diff.deleted }) (without_name name entries))
  can_undo-deleted_more old = both _ _
      (all_others diff.created (not_created old) (first (list_all (holds entries) diff.created) _ can))
      (all-with_entry (lacks (without diff.created (without_name name entries))) name id diff.deleted
      (lacks_from _ (old_left old name ∙ ap (λ b. cond b None (id_at name (without diff.created entries))) (same_name-refl name)))
      (all_more (lacks (without diff.created entries)) (lacks (without diff.created (without_name name entries))) diff.deleted
      (λ e gone. lacks_from _ (old_left old e.0 ∙ ap (cond (same_name e.0 name) None) (lacks_so _ gone) ∙ none (same_name e.0 name)))
      (second (list_all (holds entries) diff.created) _ can)))
    where
      none : (b : Bool) → cond b None (let o : Option InodeId = None in o) ≡ None
      none true = refl
      none false = refl

      some_none : {x : InodeId} → Some x ≡ None → ⊥
      some_none h = cc

      all_others : (es : Entries) → id_at name es ≡ None → IsTrue (list_all (holds entries) es) → IsTrue (list_all (holds (without_name name entries)) es)
      all_others [] absent all = refl
      all_others (e ∷ es) absent all =
          let rest : id_at name es ≡ None → IsTrue (list_all (holds (without_name name entries)) es) = λ missing. all_others es missing (second (holds entries e) _ all) in
          elim (same_name name e.0) as (λ b. same_name name e.0 ≡ b → cond b (Some e.1) (id_at name es) ≡ None → IsTrue (list_all (holds (without_name name entries)) (e ∷ es))) [
            | true ↦ λ is missing. absurd (some_none missing)
            | false ↦ λ is missing. both _ _
                (is_that_from e.1 _ (id_at-without_name e.0 name entries ∙ ap (λ b. cond b None (id_at e.0 entries)) (same_name-sym e.0 name ∙ is) ∙ is_that_so e.1 _ (first (holds entries e) _ all)))
                (rest missing)
          ] refl absent

  by_holds : (P : ListDiff → Type 0) → (IsTrue (holds diff.created (name, id)) → P (record diff { created = without_name name diff.created })) → (IsTrue (not (holds diff.created (name, id))) → P (record diff { deleted = with_entry name id diff.deleted })) → P (note_removed name id diff)
  by_holds P made old = elim (holds diff.created (name, id)) as (λ b. holds diff.created (name, id) ≡ b → P (cond b (record diff { created = without_name name diff.created }) (record diff { deleted = with_entry name id diff.deleted }))) [
    | true ↦ λ is. made is
    | false ↦ λ is. old (ap not is)
  ] refl

  pub undo-note_removed : undo (note_removed name id diff) (without_name name entries) ≡ undo diff entries
  undo-note_removed = by_holds (λ d. undo d (without_name name entries) ≡ undo diff entries) undo-created_less undo-deleted_more

  pub can_undo-note_removed : IsTrue (can_undo (note_removed name id diff) (without_name name entries))
  can_undo-note_removed = by_holds (λ d. IsTrue (can_undo d (without_name name entries))) can_undo-created_less can_undo-deleted_more

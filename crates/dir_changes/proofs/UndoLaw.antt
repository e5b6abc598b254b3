-- How look-ups see `undo` and `combined`.
use lib.Dec.{T}
use Rattle.std.proofs.Common.{◌≡◌, ℕ, Bool, true, false, cond, List, [], ◌∷◌, Option, Some, None, refl, sym, ap, subst, ◌∙◌}
use Rattle.std.specs.Prelude.{not, IsTrue, is_some}
use Rattle.std.specs.List.{list_all}
use Rattle.std.specs.Ordering.{is_eq, eq_by_cmp}
use Rattle.std.specs.declared.cmp.Ordering.{Ordering}
use Rattle.std.specs.declared.cmp.Ordering.TheVariants.{Less, Equal, Greater}
use Rattle.std.specs.Cmp.Lexicographic.{nat_list_cmp_total}
use Rattle.std.specs.FinMap.{IsAntisymmetric, nat_cmp-IsAntisymmetric, slice_cmp-IsAntisymmetric}
use Rattle.std.proofs.lemmas.Bool.{eqb-true, eq-eqb}
use Rattle.std.specs.FinMap.Entries.{by_order, find-put, find-where_key, is_sorted-put, is_sorted-where_key, same_entries}
use Rattle.hs_types.specs.declared.ids.InodeId.{InodeId}
use Rattle.dir_changes.specs.Entries.{Entry, Entries, name_order, in_order, id_at, has, with_entry, without, with_all, is_that, holds, lacks}
use Rattle.dir_changes.specs.Undo.{ListDiff, undo, can_undo, combined, CombinesUndo}
pub use Rattle.change_history.proofs.Tests.{both, first, second}

pub names_exact : IsAntisymmetric name_order
names_exact = slice_cmp-IsAntisymmetric nat_cmp-IsAntisymmetric

-- the first of two answers that there is
abbrev pub or_else : {A : Type 0} → Option A → Option A → Option A
or_else (Some x) other = Some x
or_else None other = other

or_else-cond : {A : Type 0} (b : Bool) (x : A) (o p : Option A) → cond b (Some x) (or_else o p) ≡ or_else (cond b (Some x) o) p
or_else-cond true x o p = refl
or_else-cond false x o p = refl

pub id_at-with_all : (q : List ℕ) (more entries : Entries) → id_at q (with_all more entries) ≡ or_else (id_at q more) (id_at q entries)
id_at-with_all q [] entries = refl
id_at-with_all q (e ∷ more) entries =
    find-put name_order nat_list_cmp_total q e.0 e.1 (with_all more entries)
    ∙ ap (cond (eq_by_cmp name_order q e.0) (Some e.1)) (id_at-with_all q more entries)
    ∙ or_else-cond (eq_by_cmp name_order q e.0) e.1 (id_at q more) (id_at q entries)

cond-not : {A : Type 0} (b : Bool) (x y : A) → cond (not b) x y ≡ cond b y x
cond-not true x y = refl
cond-not false x y = refl

pub id_at-without : (q : List ℕ) (taken entries : Entries) → id_at q (without taken entries) ≡ cond (has q taken) None (id_at q entries)
id_at-without q taken entries =
    find-where_key name_order (λ name. not (has name taken)) q (λ name tie. ap (λ n. not (has n taken)) (sym (names_exact q name tie))) entries
    ∙ cond-not (has q taken) (id_at q entries) None

pub holds_so : (b : Bool) → IsTrue b → T b
holds_so b h = subst T (sym h) tt

pub is_so : (b : Bool) → T b → IsTrue b
is_so true h = refl
is_so false h = absurd h

pub in_order-with_entry : (name : List ℕ) (id : InodeId) (entries : Entries) → IsTrue (in_order entries) → IsTrue (in_order (with_entry name id entries))
in_order-with_entry name id entries h = is_so _ (is_sorted-put name_order nat_list_cmp_total name id entries (holds_so _ h))

pub in_order-with_all : (more entries : Entries) → IsTrue (in_order entries) → IsTrue (in_order (with_all more entries))
in_order-with_all [] entries h = h
in_order-with_all (e ∷ more) entries h = in_order-with_entry e.0 e.1 (with_all more entries) (in_order-with_all more entries h)

pub in_order-without : (taken entries : Entries) → IsTrue (in_order entries) → IsTrue (in_order (without taken entries))
in_order-without taken entries h = is_so _ (is_sorted-where_key name_order (λ name. not (has name taken)) entries (holds_so _ h))

pub in_order-undo : (diff : ListDiff) (entries : Entries) → IsTrue (in_order entries) → IsTrue (in_order (undo diff entries))
in_order-undo diff entries h = in_order-with_all diff.deleted _ (in_order-without diff.created entries h)

pub same_lists : (xs ys : Entries) → IsTrue (in_order xs) → IsTrue (in_order ys) → ((q : List ℕ) → id_at q xs ≡ id_at q ys) → xs ≡ ys
same_lists xs ys h g same = same_entries name_order nat_list_cmp_total names_exact xs ys (holds_so _ h) (holds_so _ g) same

pub id_at-undo : (q : List ℕ) (diff : ListDiff) (entries : Entries) → id_at q (undo diff entries) ≡ or_else (id_at q diff.deleted) (cond (has q diff.created) None (id_at q entries))
id_at-undo q diff entries = id_at-with_all q diff.deleted _ ∙ ap (or_else (id_at q diff.deleted)) (id_at-without q diff.created entries)

-- ---- tests of each entry

-- what each entry passes, the entry that a look-up finds passes
pub passes_found : (test : Entry → Bool) (es : Entries) (q : List ℕ) (id : InodeId) → IsTrue (list_all test es) → id_at q es ≡ Some id → IsTrue (test (q, id))
passes_found test [] q id all found = cc
passes_found test (e ∷ es) q id all found =
    elim (eq_by_cmp name_order q e.0) as (λ b. eq_by_cmp name_order q e.0 ≡ b → cond b (Some e.1) (id_at q es) ≡ Some id → IsTrue (test (q, id))) [
      | true ↦ λ tie is.
          let key : q ≡ e.0 = names_exact q e.0 (is_equal _ tie) in
          let value : e.1 ≡ id = same_some is in
          subst (λ (x : Entry). IsTrue (test x)) (pair key value) (first (test e) (list_all test es) all)
      | false ↦ λ _ is. passes_found test es q id (second (test e) (list_all test es) all) is
    ] refl found
  where
    is_equal : (r : Ordering) → is_eq r ≡ true → r ≡ Equal
    is_equal Less h = cc
    is_equal Equal h = refl
    is_equal Greater h = cc

    same_some : {x y : InodeId} → Some x ≡ Some y → x ≡ y
    same_some h = cc

    pair : {k : List ℕ} {v : InodeId} → k ≡ e.0 → e.1 ≡ v → e ≡ (k, v)
    pair k v i = (sym k i, v i)

pub all-with_entry : (test : Entry → Bool) (name : List ℕ) (id : InodeId) (es : Entries) → IsTrue (test (name, id)) → IsTrue (list_all test es) → IsTrue (list_all test (with_entry name id es))
all-with_entry test name id [] this all = both _ _ this refl
all-with_entry test name id (e ∷ es) this all =
    elim (name_order name e.0) as (λ o. name_order name e.0 ≡ o → IsTrue (list_all test (by_order o ((name, id) ∷ e ∷ es) ((e.0, id) ∷ es) (e ∷ with_entry name id es)))) [
      | Less ↦ λ _. both _ _ this all
      | Equal ↦ λ tie. both _ _ (subst (λ (n : List ℕ). IsTrue (test (n, id))) (names_exact name e.0 tie) this) (second (test e) _ all)
      | Greater ↦ λ _. both _ _ (first (test e) _ all) (all-with_entry test name id es this (second (test e) _ all))
    ] refl

pub all-with_all : (test : Entry → Bool) (more es : Entries) → IsTrue (list_all test more) → IsTrue (list_all test es) → IsTrue (list_all test (with_all more es))
all-with_all test [] es these all = all
all-with_all test (e ∷ more) es these all = all-with_entry test e.0 e.1 (with_all more es) (first (test e) _ these) (all-with_all test more es (second (test e) _ these) all)

-- what is left of a list passes q, where each entry that stays and passes p does
pub all-without : (p q : Entry → Bool) (taken es : Entries) → ((e : Entry) → has e.0 taken ≡ false → IsTrue (p e) → IsTrue (q e)) → IsTrue (list_all p es) → IsTrue (list_all q (without taken es))
all-without p q taken [] step all = refl
all-without p q taken (e ∷ es) step all =
    let rest = all-without p q taken es step (second (p e) _ all) in
    elim (has e.0 taken) as (λ b. has e.0 taken ≡ b → IsTrue (list_all q (cond (not b) (e ∷ without taken es) (without taken es)))) [
      | true ↦ λ _. rest
      | false ↦ λ absent. both _ _ (step e absent (first (p e) _ all)) rest
    ] refl

pub all_more : (p q : Entry → Bool) (es : Entries) → ((e : Entry) → IsTrue (p e) → IsTrue (q e)) → IsTrue (list_all p es) → IsTrue (list_all q es)
all_more p q [] step all = refl
all_more p q (e ∷ es) step all = both _ _ (step e (first (p e) _ all)) (all_more p q es step (second (p e) _ all))

-- ---- the tests, read by look-ups

pub is_that_so : (id : InodeId) (o : Option InodeId) → IsTrue (is_that id o) → o ≡ Some id
is_that_so id None h = cc
is_that_so id (Some other) h = ap (λ (n : ℕ). Some (record { 0 = n })) (sym (eqb-true id.0 other.0 h))

pub is_that_from : (id : InodeId) (o : Option InodeId) → o ≡ Some id → IsTrue (is_that id o)
is_that_from id o is = subst (λ (p : Option InodeId). IsTrue (is_that id p)) (sym is) (eq-eqb id.0 id.0 refl)

pub lacks_so : {A : Type 0} (o : Option A) → IsTrue (not (is_some o)) → o ≡ None
lacks_so None h = refl
lacks_so (Some x) h = cc

pub lacks_from : {A : Type 0} (o : Option A) → o ≡ None → IsTrue (not (is_some o))
lacks_from o is = ap (λ p. not (is_some p)) is

-- what `can_undo` says under each name
pub record UndoFacts (diff : ListDiff) (entries : Entries) : Type 0 where
  pub created_there : (q : List ℕ) (id : InodeId) → id_at q diff.created ≡ Some id → id_at q entries ≡ Some id
  pub deleted_gone : (q : List ℕ) → is_some (id_at q diff.deleted) ≡ true → cond (has q diff.created) None (id_at q entries) ≡ None

pub undo_facts : (diff : ListDiff) (entries : Entries) → IsTrue (can_undo diff entries) → UndoFacts diff entries
undo_facts diff entries h = record {
  created_there = λ q id found. is_that_so id _ (passes_found (holds entries) diff.created q id (first (list_all (holds entries) diff.created) _ h) found);
  deleted_gone = λ q there.
      let left = without diff.created entries in
      let found = some_of (id_at q diff.deleted) there in
      sym (id_at-without q diff.created entries) ∙ lacks_so _ (passes_found (lacks left) diff.deleted q found.0 (second (list_all (holds entries) diff.created) _ h) found.1);
}
  where
    some_of : (o : Option InodeId) → is_some o ≡ true → (id : InodeId) × (o ≡ Some id)
    some_of None there = cc
    some_of (Some id) there = (id, refl)

-- one name, in all five lists
undo_choice : {A : Type 0} (here later_created later_deleted created deleted : Option A)
    → (is_some later_deleted ≡ true → cond (is_some later_created) None here ≡ None)
    → (is_some deleted ≡ true → cond (is_some created) None (or_else later_deleted (cond (is_some later_created) None here)) ≡ None)
    → or_else (or_else (cond (is_some created) None later_deleted) deleted) (cond (is_some (or_else later_created (cond (is_some later_deleted) None created))) None here)
    ≡ or_else deleted (cond (is_some created) None (or_else later_deleted (cond (is_some later_created) None here)))
undo_choice here lc ld (Some c) (Some d) gone gone' = refl
undo_choice here (Some l) None (Some c) None gone gone' = refl
undo_choice here None None (Some c) None gone gone' = refl
undo_choice here (Some l) (Some d) (Some c) None gone gone' = refl
undo_choice here None (Some d) (Some c) None gone gone' = gone refl
undo_choice here lc (Some l) None None gone gone' = refl
undo_choice here lc (Some l) None (Some d) gone gone' = absurd (some_none (gone' refl))
  where
    some_none : {A : Type 0} {x : A} → Some x ≡ None → ⊥
    some_none h = cc
undo_choice here (Some l) None None deleted gone gone' = refl
undo_choice here None None None deleted gone gone' = refl

module _ (earlier later : ListDiff) (entries : Entries) (sorted : IsTrue (in_order entries)) (can_later : IsTrue (can_undo later entries)) (can_earlier : IsTrue (can_undo earlier (undo later entries))) where
  later_facts : UndoFacts later entries
  later_facts = undo_facts later entries can_later

  earlier_facts : UndoFacts earlier (undo later entries)
  earlier_facts = undo_facts earlier (undo later entries) can_earlier

  -- the list between the two
  between_at : (q : List ℕ) → id_at q (undo later entries) ≡ or_else (id_at q later.deleted) (cond (has q later.created) None (id_at q entries))
  between_at q = id_at-undo q later entries

  same_at : (q : List ℕ) → id_at q (undo (combined earlier later) entries) ≡ id_at q (undo earlier (undo later entries))
  same_at q =
      id_at-undo q (combined earlier later) entries
      ∙ (λ i. or_else (deleted_at i) (cond (is_some (created_at i)) None (id_at q entries)))
      ∙ undo_choice (id_at q entries) (id_at q later.created) (id_at q later.deleted) (id_at q earlier.created) (id_at q earlier.deleted)
      (later_facts.deleted_gone q)
      (subst (λ (o : Option InodeId). is_some (id_at q earlier.deleted) ≡ true → cond (has q earlier.created) None o ≡ None) (between_at q) (earlier_facts.deleted_gone q))
      ∙ sym (id_at-undo q earlier (undo later entries) ∙ ap (λ o. or_else (id_at q earlier.deleted) (cond (has q earlier.created) None o)) (between_at q))
    where
      deleted_at : id_at q (combined earlier later).deleted ≡ or_else (cond (has q earlier.created) None (id_at q later.deleted)) (id_at q earlier.deleted)
      deleted_at = id_at-with_all q (without earlier.created later.deleted) earlier.deleted ∙ ap (λ o. or_else o (id_at q earlier.deleted)) (id_at-without q earlier.created later.deleted)

      created_at : id_at q (combined earlier later).created ≡ or_else (id_at q later.created) (cond (has q later.deleted) None (id_at q earlier.created))
      created_at = id_at-with_all q later.created (without later.deleted earlier.created) ∙ ap (or_else (id_at q later.created)) (id_at-without q later.deleted earlier.created)

  pub undo-combined : undo (combined earlier later) entries ≡ undo earlier (undo later entries)
  undo-combined = same_lists _ _ (in_order-undo (combined earlier later) entries sorted) (in_order-undo earlier _ (in_order-undo later entries sorted)) same_at

  pub created_at-combined : (q : List ℕ) → id_at q (combined earlier later).created ≡ or_else (id_at q later.created) (cond (has q later.deleted) None (id_at q earlier.created))
  created_at-combined q = id_at-with_all q later.created (without later.deleted earlier.created) ∙ ap (or_else (id_at q later.created)) (id_at-without q later.deleted earlier.created)

  -- under a name, once the combined created entries are taken away
  left_at : (q : List ℕ) → id_at q (without (combined earlier later).created entries)
      ≡ cond (is_some (or_else (id_at q later.created) (cond (has q later.deleted) None (id_at q earlier.created)))) None (id_at q entries)
  left_at q = id_at-without q (combined earlier later).created entries ∙ ap (λ o. cond (is_some o) None (id_at q entries)) (created_at-combined q)

  created_held : IsTrue (list_all (holds entries) (combined earlier later).created)
  created_held = all-with_all (holds entries) later.created _ (first (list_all (holds entries) later.created) _ can_later)
      (all-without (holds (undo later entries)) (holds entries) later.deleted earlier.created
      (λ e absent held. is_that_from e.1 _ (from_between (id_at e.0 entries) (id_at e.0 later.created) (id_at e.0 later.deleted) e.1 absent (sym (between_at e.0) ∙ is_that_so e.1 _ held)))
      (first (list_all (holds (undo later entries)) earlier.created) _ can_earlier))
    where
      from_between : {A : Type 0} (here created deleted : Option A) (id : A) → is_some deleted ≡ false → or_else deleted (cond (is_some created) None here) ≡ Some id → here ≡ Some id
      from_between here created (Some d) id absent is = cc
      from_between here (Some c) None id absent is = cc
      from_between here None None id absent is = is

  deleted_lacking : IsTrue (list_all (lacks (without (combined earlier later).created entries)) (combined earlier later).deleted)
  deleted_lacking = all-with_all test (without earlier.created later.deleted) earlier.deleted
      (all-without (lacks (without later.created entries)) test earlier.created later.deleted
      (λ e absent gone. lacks_from _ (left_at e.0 ∙ still_gone (id_at e.0 entries) (id_at e.0 later.created) _ (sym (id_at-without e.0 later.created entries) ∙ lacks_so _ gone)))
      (second (list_all (holds entries) later.created) _ can_later))
      (all_more (lacks (without earlier.created (undo later entries))) test earlier.deleted
      (λ e gone. lacks_from _ (left_at e.0 ∙ gone_before (id_at e.0 entries) (id_at e.0 later.created) (id_at e.0 later.deleted) (id_at e.0 earlier.created) (later_facts.deleted_gone e.0)
      (sym (ap (cond (has e.0 earlier.created) None) (between_at e.0)) ∙ sym (id_at-without e.0 earlier.created (undo later entries)) ∙ lacks_so _ gone)))
      (second (list_all (holds (undo later entries)) earlier.created) _ can_earlier))
    where
      test : Entry → Bool
      test e = lacks (without (combined earlier later).created entries) e

      never : {A : Type 0} (b : Bool) (here : Option A) → here ≡ None → cond b None here ≡ None
      never true here h = refl
      never false here h = h

      still_gone : {A : Type 0} (here created other : Option A) → cond (is_some created) None here ≡ None → cond (is_some (or_else created other)) None here ≡ None
      still_gone here (Some c) other h = refl
      still_gone here None other h = never (is_some other) here h

      gone_before : {A : Type 0} (here later_created later_deleted created : Option A)
          → (is_some later_deleted ≡ true → cond (is_some later_created) None here ≡ None)
          → cond (is_some created) None (or_else later_deleted (cond (is_some later_created) None here)) ≡ None
          → cond (is_some (or_else later_created (cond (is_some later_deleted) None created))) None here ≡ None
      gone_before here (Some l) ld c gone h = refl
      gone_before here None (Some d) c gone h = gone refl
      gone_before here None None (Some c) gone h = refl
      gone_before here None None None gone h = h

  pub combines_undo : CombinesUndo earlier later entries
  combines_undo = record { defined = both _ _ created_held deleted_lacking; same = undo-combined }

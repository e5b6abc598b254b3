-- Two records' lists sorted out and put together.
use Rattle.std.proofs.Common.{◌≡◌, ℕ, ◌+◌, ◌<◌, true, false, cond, List, [], ◌∷◌, ◌++◌, length, take, drop, get_or, Some, None, refl, sym, ap, ◌∙◌, append_assoc, drop-cons, add-one}
use Rattle.std.specs.Prelude.{not, IsTrue, is_some}
use Rattle.std.specs.FinMap.Entries.{find-where_key, is_sorted-where_key}
use Rattle.std.proofs.lemmas.List.{take_more}
use Rattle.std.proofs.lemmas.List.Elements.{filter-append}
use Rattle.dir_changes.specs.Entries.{Entry, Entries, name_order, in_order, id_at, has, among, without}
use Rattle.dir_changes.proofs.UndoLaw.{names_exact, holds_so, is_so}
use Rattle.dir_changes.proofs.EditLaws.{same_name, same_name-refl}

pub in_order-among : (names entries : Entries) → IsTrue (in_order entries) → IsTrue (in_order (among names entries))
in_order-among names entries h = is_so _ (is_sorted-where_key name_order (λ name. has name names) entries (holds_so _ h))

any_entry : Entry
any_entry = ([], record { 0 = 0 })

-- ---- the first entry turns

module _ (names orig : Entries) (k : ℕ) (lt : k < length orig) where
  next : drop k orig ≡ get_or orig k any_entry ∷ drop (k + 1) orig
  next = drop-cons orig k any_entry lt ∙ ap (λ n. get_or orig k any_entry ∷ drop n orig) (sym (add-one k))

  so_far : take (k + 1) orig ≡ take k orig ++ get_or orig k any_entry ∷ []
  so_far = take_more orig k any_entry lt

  pub turned_rest : (list : Entries) → list ≡ drop k orig ++ without names (take k orig) → drop 1 list ++ without names (take 1 list) ≡ drop (k + 1) orig ++ without names (take (k + 1) orig)
  turned_rest list is =
      ap (λ l. drop 1 l ++ without names (take 1 l)) (is ∙ ap (λ l. l ++ without names (take k orig)) next)
      ∙ append_assoc (drop (k + 1) orig) (without names (take k orig)) (without names (get_or orig k any_entry ∷ []))
      ∙ ap (λ l. drop (k + 1) orig ++ l) (sym (filter-append (λ e. not (has e.0 names)) (take k orig) (get_or orig k any_entry ∷ [])) ∙ ap (without names) (sym so_far))

  pub turned_found : (list found : Entries) → list ≡ drop k orig ++ without names (take k orig) → (found ++ among names (take k orig)) ++ among names (take 1 list) ≡ found ++ among names (take (k + 1) orig)
  turned_found list found is =
      ap (λ l. (found ++ among names (take k orig)) ++ among names (take 1 l)) (is ∙ ap (λ l. l ++ without names (take k orig)) next)
      ∙ append_assoc found (among names (take k orig)) (among names (get_or orig k any_entry ∷ []))
      ∙ ap (λ l. found ++ l) (sym (filter-append (λ e. has e.0 names) (take k orig) (get_or orig k any_entry ∷ [])) ∙ ap (among names) (sym so_far))

-- ---- of the entries that were created, those go that were found among the deleted ones

id_at-among : (q : List ℕ) (names entries : Entries) → id_at q (among names entries) ≡ cond (has q names) (id_at q entries) None
id_at-among q names entries = find-where_key name_order (λ name. has name names) q (λ name tie. ap (λ n. has n names) (sym (names_exact q name tie))) entries

same_without : (taken other names : Entries) → ((q : List ℕ) → has q names ≡ true → has q taken ≡ has q other) → (es : Entries) → ((q : List ℕ) → has q es ≡ true → has q names ≡ true) → without taken es ≡ without other es
same_without taken other names same [] within = refl
same_without taken other names same (e ∷ es) within =
    let here : has e.0 (e ∷ es) ≡ true = ap (λ b. is_some (cond b (Some e.1) (id_at e.0 es))) (same_name-refl e.0) in
    let rest = same_without taken other names same es (λ q h. within q (later q h)) in
    ap (λ b. cond (not b) (e ∷ without taken es) (without taken es)) (same e.0 (within e.0 here)) ∙ ap (λ l. cond (not (has e.0 other)) (e ∷ l) l) rest
  where
    later : (q : List ℕ) → has q es ≡ true → has q (e ∷ es) ≡ true
    later q h = elim (same_name q e.0) as (λ b. is_some (cond b (Some e.1) (id_at q es)) ≡ true) [ true ↦ refl | false ↦ h ]

pub without-among : (made gone : Entries) → without (among made gone) made ≡ without gone made
without-among made gone = same_without (among made gone) gone made
    (λ q h. ap is_some (id_at-among q made gone) ∙ ap (λ b. is_some (cond b (id_at q gone) None)) h) made (λ q h. h)

-- What each change of one directory's snapshots keeps, at the place that was found for the directory.
use Rattle.std.proofs.Common.{◌≡◌, ℕ, ◌+◌, ◌<◌, true, false, ◌⊎◌, inl, inr, nat_eq, if◌then◌else◌, List, [], ◌∷◌, ◌++◌, length, get_or, set, Option, Some, None, Result, Ok, Err, OnOk, OnErr, refl, sym, ap, subst, ◌∙◌, arith, eqb-true}
use Rattle.std.specs.Result.{is_err}
use Rattle.std.specs.List.{find, list_any}
use Rattle.std.specs.Cmp.{nat_eq_equiv}
use Rattle.std.proofs.lemmas.Bool.{cases_Bool}
use Rattle.std.proofs.lemmas.List.{set-get_or}
use Rattle.hs_types.specs.declared.ids.InodeId.{InodeId}
use Rattle.hs_types.specs.declared.ids.SnapId.{SnapId}
use Rattle.hs_types.specs.declared.name.SnapItem.{SnapItem}
use Rattle.snapshot_manager.specs.Snapshots.{Directory, Snapshots, NamesDiffer, IsProper, has_name, has_id, is_of, snaps_in, disallowed, changed, without, renamed}
use Rattle.snapshot_manager.specs.Places.{PassesOnlyAt}
use Rattle.snapshot_manager.specs.Owners.{owner_of, is_owner, SetsOwner, IsIndexed}
use Rattle.snapshot_manager.proofs.Lists.{nowhere_from_find, filter_nowhere, there_in_range}
use Rattle.snapshot_manager.proofs.Directories.{no_dir, entry_is, key_there, items_at, items_at-filter, changed-there}
use Rattle.snapshot_manager.proofs.Histories.{history_at, history_push, history_without, history_renamed, proper_set, proper_disallowed}
use Rattle.snapshot_manager.proofs.Indexed.{index_same, index_push, index_without, same_ids, any_id-renamed, unused_at}

pub on_err : {T E P : Type 0} (r : Result T E) → true ≡ is_err r → OnErr r P → P
on_err (Ok x) is p = absurd (cc)
on_err (Err e) is p = p

pub on_ok : {T E P : Type 0} (r : Result T E) → false ≡ is_err r → OnOk r P → P
on_ok (Ok x) is p = p
on_ok (Err e) is p = absurd (cc)

-- what the directories and the index keep at all times
abbrev pub Kept : List (SnapId × InodeId) → Snapshots → Type 0
Kept owners s = IsProper s × IsIndexed owners s

-- an id that no directory has has no owner
no_owner : (owners : List (SnapId × InodeId)) (s : Snapshots) (id : SnapId) → Kept owners s → s.issued.0 < id.0 → owner_of owners id ≡ None
no_owner owners s id kept above = by (owner_of owners id) refl
  where
    by : (owner : Option InodeId) → owner_of owners id ≡ owner → owner ≡ None
    by None is = refl
    by (Some d) is = let clash : true ≡ false = sym (nat_eq_equiv.refl d.0) ∙ sym (ap (is_owner d) is) ∙ kept.1 id d ∙ unused_at s.issued.0 id above d.0 s.dirs kept.0.histories in absurd (cc)

module _ (owners : List (SnapId × InodeId)) (s : Snapshots) (kept : Kept owners s) (dir : InodeId) (i : ℕ) (there : PassesOnlyAt (is_of dir) s.dirs i) (d : Directory) (read : d ≡ get_or s.dirs i d) where
  -- the directories, with another list at the place
  abbrev pub with_items : List SnapItem → List Directory
  with_items items = set s.dirs i (d.0, items)

  entry : d ≡ get_or s.dirs i no_dir
  entry = entry_is s.dirs i d (there_in_range (is_of dir) s.dirs i there) read

  -- an equal list changes nothing
  pub unchanged : (new : List SnapItem) → new ≡ d.1 → record s { dirs = set s.dirs i (d.0, new) } ≡ s
  unchanged new same = ap (λ l. record s { dirs = set s.dirs i (d.0, l) }) same ∙ ap (λ e. record s { dirs = set s.dirs i e }) entry ∙ ap (λ l. record s { dirs = l }) (set-get_or s.dirs i no_dir)

  pub changed_to : (t : Snapshots) (f : List SnapItem → List SnapItem) (new : List SnapItem) → s ≡ t → new ≡ f d.1 → record s { dirs = set s.dirs i (d.0, new) } ≡ changed dir f t
  changed_to t f new same is =
      ap (λ l. record s { dirs = set s.dirs i (d.0, l) }) is
      ∙ ap (λ (e : Directory). record s { dirs = set s.dirs i (e.0, f e.1) }) entry
      ∙ sym (changed-there dir s i there f)
      ∙ ap (changed dir f) same

  -- from the entry as it is found to the entry as it was read
  as_read : (P : Directory → Type 0) → P (get_or s.dirs i no_dir) → P d
  as_read P holds = subst P (sym entry) holds

  pub kept_push : (new_owners : List (SnapId × InodeId)) (item : SnapItem) (new : List SnapItem) → new ≡ d.1 ++ item ∷ [] → NamesDiffer new → item.id.0 ≡ s.issued.0 + 1 → length d.1 < 65536
      → SetsOwner owners new_owners item.id (Some dir) → Kept new_owners (record { dirs = set s.dirs i (d.0, new); issued = item.id })
  kept_push new_owners item new is apart next room sets =
      subst (λ l. Kept new_owners (record { dirs = set s.dirs i (d.0, l); issued = item.id })) (sym is)
      (as_read (λ e. NamesDiffer (e.1 ++ item ∷ []) → length e.1 < 65536 → Kept new_owners (record { dirs = set s.dirs i (e.0, e.1 ++ item ∷ []); issued = item.id }))
      (λ names few. (
        proper_set s dir i item.id ((get_or s.dirs i no_dir).1 ++ item ∷ []) kept.0 there (omega (arith, next)) (history_push s.issued.0 (get_or s.dirs i no_dir).1 item (history_at s dir i kept.0 there) next names few),
        index_push owners new_owners s dir i there (key_there dir s.dirs i there) kept.0 kept.1 item (omega (arith, next)) sets item.id,
      ))
      (subst NamesDiffer is apart) room)

  -- an id that was put into the index and taken out again
  pub kept_back : (middle new_owners : List (SnapId × InodeId)) (id : SnapId) (new : List SnapItem) → new ≡ d.1 → s.issued.0 < id.0 → SetsOwner owners middle id (Some dir) → SetsOwner middle new_owners id None
      → Kept new_owners (record { dirs = set s.dirs i (d.0, new); issued = s.issued })
  kept_back middle new_owners id new same above put taken =
      subst (Kept new_owners) (sym (unchanged new same)) (kept.0, λ k q. ap (is_owner q) (as_before k (cases_Bool (nat_eq id.0 k.0))) ∙ kept.1 k q)
    where
      as_before : (k : SnapId) → (nat_eq id.0 k.0 ≡ true) ⊎ (nat_eq id.0 k.0 ≡ false) → owner_of new_owners k ≡ owner_of owners k
      as_before k (inl this) =
          let above_k : s.issued.0 < k.0 = omega (arith, above, eqb-true id.0 k.0 this) in
          taken k ∙ ap (λ b. if b then None else owner_of middle k) this ∙ sym (no_owner owners s k kept above_k)
      as_before k (inr other) = taken k ∙ ap (λ b. if b then None else owner_of middle k) other ∙ put k ∙ ap (λ b. if b then Some dir else owner_of owners k) other

  pub kept_without : (new_owners : List (SnapId × InodeId)) (name : List ℕ) (item : SnapItem) (new : List SnapItem) → new ≡ without name d.1 → NamesDiffer new → find (has_name name) d.1 ≡ Some item
      → SetsOwner owners new_owners item.id None → Kept new_owners (record { dirs = set s.dirs i (d.0, new); issued = s.issued })
  kept_without new_owners name item new is apart found sets =
      subst (λ l. Kept new_owners (record { dirs = set s.dirs i (d.0, l); issued = s.issued })) (sym is)
      (as_read (λ e. NamesDiffer (without name e.1) → find (has_name name) e.1 ≡ Some item → Kept new_owners (record { dirs = set s.dirs i (e.0, without name e.1); issued = s.issued }))
      (λ names at. (
        proper_set s dir i s.issued (without name (get_or s.dirs i no_dir).1) kept.0 there (omega arith) (history_without s.issued.0 name (get_or s.dirs i no_dir).1 (history_at s dir i kept.0 there) names),
        index_without owners new_owners s dir i there (key_there dir s.dirs i there) kept.0 kept.1 name item at (history_at s dir i kept.0 there) sets,
      ))
      (subst NamesDiffer is apart) found)

  -- nothing of the name was there
  pub left_as_it_was : (name : List ℕ) → find (has_name name) d.1 ≡ None → without name d.1 ≡ d.1
  left_as_it_was name none = filter_nowhere (has_name name) d.1 (nowhere_from_find (has_name name) d.1 none)

  pub kept_unchanged : (new : List SnapItem) → new ≡ d.1 → Kept owners (record { dirs = set s.dirs i (d.0, new); issued = s.issued })
  kept_unchanged new same = subst (Kept owners) (sym (unchanged new same)) kept

  pub kept_renamed : (old name : List ℕ) (new : List SnapItem) → new ≡ renamed old name d.1 → NamesDiffer new → Kept owners (record { dirs = set s.dirs i (d.0, new); issued = s.issued })
  kept_renamed old name new is apart =
      subst (λ l. Kept owners (record { dirs = set s.dirs i (d.0, l); issued = s.issued })) (sym is)
      (as_read (λ e. NamesDiffer (renamed old name e.1) → Kept owners (record { dirs = set s.dirs i (e.0, renamed old name e.1); issued = s.issued }))
      (λ names. (
        proper_set s dir i s.issued (renamed old name (get_or s.dirs i no_dir).1) kept.0 there (omega arith) (history_renamed s.issued.0 old name (get_or s.dirs i no_dir).1 (history_at s dir i kept.0 there) names),
        index_same owners s (record { dirs = set s.dirs i ((get_or s.dirs i no_dir).0, renamed old name (get_or s.dirs i no_dir).1); issued = s.issued })
            (same_ids s dir i there (renamed old name (get_or s.dirs i no_dir).1) (key_there dir s.dirs i there) (λ id. any_id-renamed id old name (get_or s.dirs i no_dir).1)) kept.1,
      ))
      (subst NamesDiffer is apart))

  -- the same, after an answer
  pub kept_answer : {T E : Type 0} (r : Result T E) (old name : List ℕ) (new : List SnapItem) → OnOk r (new ≡ renamed old name d.1) → OnOk r (NamesDiffer new) → OnErr r (new ≡ d.1) → Kept owners (record { dirs = set s.dirs i (d.0, new); issued = s.issued })
  kept_answer (Ok x) old name new is apart same = kept_renamed old name new is apart
  kept_answer (Err e) old name new is apart same = kept_unchanged new same

  pub changed_answer : {T E : Type 0} (t : Snapshots) (f : List SnapItem → List SnapItem) (r : Result T E) (new : List SnapItem) → s ≡ t → OnOk r (new ≡ f d.1) → OnOk r (record s { dirs = set s.dirs i (d.0, new) } ≡ changed dir f t)
  changed_answer t f (Ok x) new same is = changed_to t f new same is
  changed_answer t f (Err e) new same is = tt

-- ---- directories that come and go

pub kept_disallowed : (owners : List (SnapId × InodeId)) (s : Snapshots) (dir : InodeId) → Kept owners s → snaps_in s dir ≡ [] → Kept owners (disallowed dir s)
kept_disallowed owners s dir kept none = (
  proper_disallowed s dir kept.0,
  index_same owners s (disallowed dir s) (λ id q. ap (list_any (has_id id)) (items_at-filter dir.0 q.0 s.dirs ∙ same q (cases_Bool (nat_eq dir.0 q.0)))) kept.1,
)
  where
    same : (q : InodeId) → (nat_eq dir.0 q.0 ≡ true) ⊎ (nat_eq dir.0 q.0 ≡ false) → (if nat_eq dir.0 q.0 then [] else items_at q.0 s.dirs) ≡ items_at q.0 s.dirs
    same q (inl this) = rw this (sym (ap (λ n. items_at n s.dirs) (sym (eqb-true dir.0 q.0 this)) ∙ none))
    same q (inr other) = rw other refl

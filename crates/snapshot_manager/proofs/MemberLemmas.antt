-- The list of all live snapshots: how it goes with the tables.
use Rattle.std.proofs.Common.{◌≡◌, ℕ, zero, suc, ◌<◌, ◌≤◌, Bool, true, false, not, ◌||◌, ◌⊎◌, inl, inr, nat_eq, nat_lt, if◌then◌else◌, List, [], ◌∷◌, ◌++◌, map, filter, Option, None, Some, IsSome, is_some, unwrap_or, slice_get, refl, sym, ap, subst, ◌∙◌, arith, eqb-true}
use Rattle.std.specs.Option.{option_map}
use Rattle.std.specs.List.{find, list_any, AllByRecursion}
use Rattle.std.specs.Cmp.{nat_eq_equiv}
use Rattle.std.proofs.lemmas.Bool.{cases_Bool}
use Rattle.std.proofs.lemmas.List.{map-append}
use Rattle.hs_types.specs.declared.ids.InodeId.{InodeId}
use Rattle.hs_types.specs.declared.ids.SnapId.{SnapId}
use Rattle.hs_types.specs.declared.name.SnapItem.{SnapItem}
use Rattle.snapshot_manager.specs.Snapshots.{Directory, Snapshots, IsRising, IsProper, is_of, snaps_of, snaps_in, has_name, has_id, is_between, live, live_at, start, allowed, disallowed, changed, added, without, renamed}
use Rattle.snapshot_manager.specs.Members.{Member, of_dir, is_member, rename_member, AreMembers}
use Rattle.snapshot_manager.specs.Owners.{owner_of, is_owner, any_between, IsIndexed}
use Rattle.snapshot_manager.specs.Places.{NonePasses, PassesOnlyAt}
use Rattle.snapshot_manager.proofs.Lists.{all_at, all_weaker, all_push, all_filter, map_map, nowhere_from_find, passes_only_at, place_from_find}
use Rattle.snapshot_manager.proofs.Rising.{rising_apart, rising_filter}
use Rattle.snapshot_manager.proofs.Naming.{number, rising_push}
use Rattle.snapshot_manager.proofs.Directories.{items_at, items_at-filter, items_at-insert}
use Rattle.snapshot_manager.proofs.Indexed.{live_at-none, live_at-some, between_live}
use Rattle.snapshot_manager.proofs.Tables.{inserted_is, none_above}

abbrev pub id_of : Member → ℕ
id_of m = m.1.id.0

-- ---- tables

-- what each directory has after one was changed
pub snaps_of-changed : (dir q : InodeId) (f : List SnapItem → List SnapItem) (dirs : List Directory)
    → option_map (λ (d : Directory). d.1) (find (is_of q) (map (λ (d : Directory). if is_of dir d then (d.0, f d.1) else d) dirs))
    ≡ (if nat_eq dir.0 q.0 then option_map f (option_map (λ (d : Directory). d.1) (find (is_of q) dirs)) else option_map (λ (d : Directory). d.1) (find (is_of q) dirs))
snaps_of-changed dir q f [] = elim (cases_Bool (nat_eq dir.0 q.0)) [
  | inl same ↦ rw same refl
  | inr apart ↦ rw apart refl
]
snaps_of-changed dir q f (d ∷ ds) = by (snaps_of-changed dir q f ds) (cases_Bool (nat_eq dir.0 d.0.0)) (cases_Bool (nat_eq q.0 d.0.0))
  where
    by : option_map (λ (d : Directory). d.1) (find (is_of q) (map (λ (d : Directory). if is_of dir d then (d.0, f d.1) else d) ds)) ≡ (if nat_eq dir.0 q.0 then option_map f (option_map (λ (d : Directory). d.1) (find (is_of q) ds)) else option_map (λ (d : Directory). d.1) (find (is_of q) ds))
        → (nat_eq dir.0 d.0.0 ≡ true) ⊎ (nat_eq dir.0 d.0.0 ≡ false) → (nat_eq q.0 d.0.0 ≡ true) ⊎ (nat_eq q.0 d.0.0 ≡ false)
        → option_map (λ (d : Directory). d.1) (find (is_of q) (map (λ (d : Directory). if is_of dir d then (d.0, f d.1) else d) (d ∷ ds))) ≡ (if nat_eq dir.0 q.0 then option_map f (option_map (λ (d : Directory). d.1) (find (is_of q) (d ∷ ds))) else option_map (λ (d : Directory). d.1) (find (is_of q) (d ∷ ds)))
    by rest (inl here) (inl this) = let same : nat_eq dir.0 q.0 ≡ true = nat_eq_equiv.congr dir.0 d.0.0 q.0 here ∙ nat_eq_equiv.symm d.0.0 q.0 ∙ this in rw (here, this, same) refl
    by rest (inl here) (inr other) = rw (here, other) rest
    by rest (inr there) (inl this) = let apart : nat_eq dir.0 q.0 ≡ false = nat_eq_equiv.symm dir.0 q.0 ∙ nat_eq_equiv.congr q.0 d.0.0 dir.0 this ∙ nat_eq_equiv.symm d.0.0 dir.0 ∙ there in rw (there, this, apart) refl
    by rest (inr there) (inr other) = rw (there, other) rest

-- a directory that is snapshottable stays so
stays : (dir q : InodeId) (f : List SnapItem → List SnapItem) (s : Snapshots) → IsSome (snaps_of s q) → IsSome (snaps_of (changed dir f s) q)
stays dir q f s some = ap is_some (snaps_of-changed dir q f s.dirs) ∙ by (nat_eq dir.0 q.0) (snaps_of s q) some
  where
    by : (b : Bool) (o : Option (List SnapItem)) → is_some o ≡ true → is_some (if b then option_map f o else o) ≡ true
    by true None none = none
    by true (Some l) some = refl
    by false o some = some

-- where the change leaves an empty list empty
pub snaps_in-changed : (dir q : InodeId) (f : List SnapItem → List SnapItem) (s : Snapshots) → f [] ≡ [] → snaps_in (changed dir f s) q ≡ (if nat_eq dir.0 q.0 then f (snaps_in s q) else snaps_in s q)
snaps_in-changed dir q f s empty = ap (λ o. unwrap_or o []) (snaps_of-changed dir q f s.dirs) ∙ by (nat_eq dir.0 q.0) (snaps_of s q)
  where
    by : (b : Bool) (o : Option (List SnapItem)) → unwrap_or (if b then option_map f o else o) [] ≡ (if b then f (unwrap_or o []) else unwrap_or o [])
    by true None = sym empty
    by true (Some l) = refl
    by false o = refl

-- where the directory is snapshottable
pub snaps_in-changed_there : (dir q : InodeId) (f : List SnapItem → List SnapItem) (s : Snapshots) → IsSome (snaps_of s dir) → snaps_in (changed dir f s) q ≡ (if nat_eq dir.0 q.0 then f (snaps_in s q) else snaps_in s q)
snaps_in-changed_there dir q f s some = ap (λ o. unwrap_or o []) (snaps_of-changed dir q f s.dirs) ∙ by (cases_Bool (nat_eq dir.0 q.0))
  where
    there : (o : Option (List SnapItem)) → is_some o ≡ true → unwrap_or (option_map f o) [] ≡ f (unwrap_or o [])
    there None none = absurd (cc)
    there (Some l) some = refl

    by : (nat_eq dir.0 q.0 ≡ true) ⊎ (nat_eq dir.0 q.0 ≡ false) → unwrap_or (if nat_eq dir.0 q.0 then option_map f (snaps_of s q) else snaps_of s q) [] ≡ (if nat_eq dir.0 q.0 then f (snaps_in s q) else snaps_in s q)
    by (inl same) = let same_dir : dir ≡ q = ap (λ n. record { 0 = n }) (eqb-true dir.0 q.0 same) in rw same (there (snaps_of s q) (subst (λ k. is_some (snaps_of s k) ≡ true) same_dir some))
    by (inr apart) = rw apart refl

-- ---- the list

of_dir-push : (q dir : InodeId) (item : SnapItem) (members : List Member) → of_dir q (members ++ (dir, item) ∷ []) ≡ (if nat_eq dir.0 q.0 then of_dir q members ++ item ∷ [] else of_dir q members)
of_dir-push q dir item [] = rw (nat_eq_equiv.symm q.0 dir.0) (elim (cases_Bool (nat_eq dir.0 q.0)) [
  | inl same ↦ rw same refl
  | inr apart ↦ rw apart refl
])
of_dir-push q dir item (m ∷ ms) = by (of_dir-push q dir item ms) (cases_Bool (nat_eq q.0 m.0.0)) (cases_Bool (nat_eq dir.0 q.0))
  where
    by : of_dir q (ms ++ (dir, item) ∷ []) ≡ (if nat_eq dir.0 q.0 then of_dir q ms ++ item ∷ [] else of_dir q ms) → (nat_eq q.0 m.0.0 ≡ true) ⊎ (nat_eq q.0 m.0.0 ≡ false) → (nat_eq dir.0 q.0 ≡ true) ⊎ (nat_eq dir.0 q.0 ≡ false)
        → of_dir q ((m ∷ ms) ++ (dir, item) ∷ []) ≡ (if nat_eq dir.0 q.0 then of_dir q (m ∷ ms) ++ item ∷ [] else of_dir q (m ∷ ms))
    by rest (inl own) (inl same) = rw (own, same) (ap (λ l. m.1 ∷ l) (rest ∙ rw same refl))
    by rest (inl own) (inr apart) = rw (own, apart) (ap (λ l. m.1 ∷ l) (rest ∙ rw apart refl))
    by rest (inr other) (inl same) = rw (other, same) (rest ∙ rw same refl)
    by rest (inr other) (inr apart) = rw (other, apart) (rest ∙ rw apart refl)

of_dir-without : (q dir : InodeId) (name : List ℕ) (members : List Member) → of_dir q (filter (λ m. not (is_member dir name m)) members) ≡ (if nat_eq dir.0 q.0 then without name (of_dir q members) else of_dir q members)
of_dir-without q dir name [] = elim (cases_Bool (nat_eq dir.0 q.0)) [
  | inl same ↦ rw same refl
  | inr apart ↦ rw apart refl
]
of_dir-without q dir name (m ∷ ms) = by (of_dir-without q dir name ms) (cases_Bool (nat_eq dir.0 m.0.0)) (cases_Bool (nat_eq q.0 m.0.0)) (cases_Bool (nat_eq dir.0 q.0)) (cases_Bool (has_name name m.1))
  where
    by : of_dir q (filter (λ m. not (is_member dir name m)) ms) ≡ (if nat_eq dir.0 q.0 then without name (of_dir q ms) else of_dir q ms)
        → (nat_eq dir.0 m.0.0 ≡ true) ⊎ (nat_eq dir.0 m.0.0 ≡ false) → (nat_eq q.0 m.0.0 ≡ true) ⊎ (nat_eq q.0 m.0.0 ≡ false) → (nat_eq dir.0 q.0 ≡ true) ⊎ (nat_eq dir.0 q.0 ≡ false) → (has_name name m.1 ≡ true) ⊎ (has_name name m.1 ≡ false)
        → of_dir q (filter (λ m. not (is_member dir name m)) (m ∷ ms)) ≡ (if nat_eq dir.0 q.0 then without name (of_dir q (m ∷ ms)) else of_dir q (m ∷ ms))
    by rest (inl here) (inl own) (inl same) (inl named) = rw (here, own, same, named) (rest ∙ rw same refl)
    by rest (inl here) (inl own) (inl same) (inr unnamed) = rw (here, own, same, unnamed, own) (ap (λ l. m.1 ∷ l) (rest ∙ rw same refl))
    by rest (inl here) (inl own) (inr apart) named = let clash : true ≡ false = sym (nat_eq_equiv.congr dir.0 m.0.0 q.0 here ∙ nat_eq_equiv.symm m.0.0 q.0 ∙ own) ∙ apart in absurd (cc)
    by rest (inl here) (inr other) same (inl named) = rw (here, named, other) rest
    by rest (inl here) (inr other) same (inr unnamed) = rw (here, unnamed, other) rest
    by rest (inr there) (inl own) (inl same) named = let clash : true ≡ false = sym own ∙ sym (nat_eq_equiv.congr dir.0 q.0 m.0.0 same) ∙ there in absurd (cc)
    by rest (inr there) (inl own) (inr apart) named = rw (there, own, apart) (ap (λ l. m.1 ∷ l) (rest ∙ rw apart refl))
    by rest (inr there) (inr other) same named = rw (there, other) rest

of_dir-renamed : (q dir : InodeId) (old new : List ℕ) (members : List Member) → of_dir q (map (rename_member dir old new) members) ≡ (if nat_eq dir.0 q.0 then renamed old new (of_dir q members) else of_dir q members)
of_dir-renamed q dir old new [] = elim (cases_Bool (nat_eq dir.0 q.0)) [
  | inl same ↦ rw same refl
  | inr apart ↦ rw apart refl
]
of_dir-renamed q dir old new (m ∷ ms) = by (of_dir-renamed q dir old new ms) (cases_Bool (nat_eq dir.0 m.0.0)) (cases_Bool (nat_eq q.0 m.0.0)) (cases_Bool (nat_eq dir.0 q.0)) (cases_Bool (has_name old m.1))
  where
    by : of_dir q (map (rename_member dir old new) ms) ≡ (if nat_eq dir.0 q.0 then renamed old new (of_dir q ms) else of_dir q ms)
        → (nat_eq dir.0 m.0.0 ≡ true) ⊎ (nat_eq dir.0 m.0.0 ≡ false) → (nat_eq q.0 m.0.0 ≡ true) ⊎ (nat_eq q.0 m.0.0 ≡ false) → (nat_eq dir.0 q.0 ≡ true) ⊎ (nat_eq dir.0 q.0 ≡ false) → (has_name old m.1 ≡ true) ⊎ (has_name old m.1 ≡ false)
        → of_dir q (map (rename_member dir old new) (m ∷ ms)) ≡ (if nat_eq dir.0 q.0 then renamed old new (of_dir q (m ∷ ms)) else of_dir q (m ∷ ms))
    by rest (inl here) (inl own) (inl same) (inl named) = rw (here, named, own, same) (rw named (ap (λ l. (record m.1 { name = new }) ∷ l) (rest ∙ rw same refl)))
    by rest (inl here) (inl own) (inl same) (inr unnamed) = rw (here, unnamed, own, same) (rw unnamed (ap (λ l. m.1 ∷ l) (rest ∙ rw same refl)))
    by rest (inl here) (inl own) (inr apart) named = let clash : true ≡ false = sym (nat_eq_equiv.congr dir.0 m.0.0 q.0 here ∙ nat_eq_equiv.symm m.0.0 q.0 ∙ own) ∙ apart in absurd (cc)
    by rest (inl here) (inr other) same (inl named) = rw (here, named, other) rest
    by rest (inl here) (inr other) same (inr unnamed) = rw (here, unnamed, other) rest
    by rest (inr there) (inl own) (inl same) named = let clash : true ≡ false = sym own ∙ sym (nat_eq_equiv.congr dir.0 q.0 m.0.0 same) ∙ there in absurd (cc)
    by rest (inr there) (inl own) (inr apart) named = rw (there, own, apart) (ap (λ l. m.1 ∷ l) (rest ∙ rw apart refl))
    by rest (inr there) (inr other) same named = rw (there, other) rest

numbers : (members : List Member) → map number (map (λ (m : Member). m.1) members) ≡ map id_of members
numbers members = map_map (λ (m : Member). m.1) number members

all_numbers : (P : ℕ → Type 0) (members : List Member) → AllByRecursion (λ m. P (id_of m)) members → AllByRecursion P (map id_of members)
all_numbers P [] all = tt
all_numbers P (m ∷ ms) all = (all.0, all_numbers P ms all.1)

numbers-renamed : (dir : InodeId) (old new : List ℕ) (members : List Member) → map id_of (map (rename_member dir old new) members) ≡ map id_of members
numbers-renamed dir old new [] = refl
numbers-renamed dir old new (m ∷ ms) = elim (cases_Bool (is_member dir old m)) [
  | inl here ↦ rw here (ap (λ l. id_of m ∷ l) (numbers-renamed dir old new ms))
  | inr there ↦ rw there (ap (λ l. id_of m ∷ l) (numbers-renamed dir old new ms))
]

all_renamed : (P : InodeId → SnapId → Type 0) (dir : InodeId) (old new : List ℕ) (members : List Member) → AllByRecursion (λ m. P m.0 m.1.id) members → AllByRecursion (λ m. P m.0 m.1.id) (map (rename_member dir old new) members)
all_renamed P dir old new [] all = tt
all_renamed P dir old new (m ∷ ms) all = elim (cases_Bool (is_member dir old m)) [
  | inl here ↦ rw here (all.0, all_renamed P dir old new ms all.1)
  | inr there ↦ rw there (all.0, all_renamed P dir old new ms all.1)
]

-- ---- the calls

pub at_start : AreMembers [] start
at_start = record { rise = tt; issued = tt; tables = λ dir. refl; snapshottable = tt }

pub added_last : (members : List Member) (s : Snapshots) (dir : InodeId) (item : SnapItem) → IsSome (snaps_of s dir) → s.issued.0 < item.id.0 → AreMembers members s → AreMembers (members ++ (dir, item) ∷ []) (added dir item s)
added_last members s dir item some next m = record {
  rise = rw (numbers (members ++ (dir, item) ∷ []), map-append id_of members ((dir, item) ∷ []))
      (rising_push (map id_of members) item.id.0 (subst IsRising (numbers members) m.rise) (all_numbers (λ k. k < item.id.0) members (all_weaker (λ m. id_of m ≤ s.issued.0) (λ m. id_of m < item.id.0) (λ m le. omega (arith, le, next)) members m.issued)));
  issued = all_push (λ m. id_of m ≤ item.id.0) members (dir, item) (all_weaker (λ m. id_of m ≤ s.issued.0) (λ m. id_of m ≤ item.id.0) (λ m le. omega (arith, le, next)) members m.issued) (omega arith);
  tables = λ q. snaps_in-changed_there dir q (λ items. items ++ item ∷ []) s some ∙ ap (λ l. if nat_eq dir.0 q.0 then l ++ item ∷ [] else l) (m.tables q) ∙ sym (of_dir-push q dir item members);
  snapshottable = all_push (λ m. IsSome (snaps_of (added dir item s) m.0)) members (dir, item)
      (all_weaker (λ m. IsSome (snaps_of s m.0)) (λ m. IsSome (snaps_of (added dir item s) m.0)) (λ m there. stays dir m.0 (λ items. items ++ item ∷ []) s there) members m.snapshottable) (stays dir dir (λ items. items ++ item ∷ []) s some);
}

pub removed_out : (members : List Member) (s : Snapshots) (dir : InodeId) (name : List ℕ) → AreMembers members s → AreMembers (filter (λ m. not (is_member dir name m)) members) (changed dir (without name) s)
removed_out members s dir name m = record {
  rise = rw (numbers (filter (λ m. not (is_member dir name m)) members)) (rising_filter id_of (λ m. not (is_member dir name m)) members (subst IsRising (numbers members) m.rise));
  issued = all_filter (λ m. id_of m ≤ s.issued.0) (λ m. not (is_member dir name m)) members m.issued;
  tables = λ q. snaps_in-changed dir q (without name) s refl ∙ ap (λ l. if nat_eq dir.0 q.0 then without name l else l) (m.tables q) ∙ sym (of_dir-without q dir name members);
  snapshottable = all_filter (λ m. IsSome (snaps_of (changed dir (without name) s) m.0)) (λ m. not (is_member dir name m)) members
      (all_weaker (λ m. IsSome (snaps_of s m.0)) (λ m. IsSome (snaps_of (changed dir (without name) s) m.0)) (λ m there. stays dir m.0 (without name) s there) members m.snapshottable);
}

pub renamed_there : (members : List Member) (s : Snapshots) (dir : InodeId) (old new : List ℕ) → AreMembers members s → AreMembers (map (rename_member dir old new) members) (changed dir (renamed old new) s)
renamed_there members s dir old new m = record {
  rise = rw (numbers (map (rename_member dir old new) members), numbers-renamed dir old new members) (subst IsRising (numbers members) m.rise);
  issued = all_renamed (λ d id. id.0 ≤ s.issued.0) dir old new members m.issued;
  tables = λ q. snaps_in-changed dir q (renamed old new) s refl ∙ ap (λ l. if nat_eq dir.0 q.0 then renamed old new l else l) (m.tables q) ∙ sym (of_dir-renamed q dir old new members);
  snapshottable = all_renamed (λ d id. IsSome (snaps_of (changed dir (renamed old new) s) d)) dir old new members
      (all_weaker (λ m. IsSome (snaps_of s m.0)) (λ m. IsSome (snaps_of (changed dir (renamed old new) s) m.0)) (λ m there. stays dir m.0 (renamed old new) s there) members m.snapshottable);
}

-- ---- what is found

-- the owners that a list of members tells
abbrev pub owners_of : List Member → List (SnapId × InodeId)
owners_of members = map (λ m. (m.1.id, m.0)) members

owner_of-members : (id : SnapId) (members : List Member) → owner_of (owners_of members) id ≡ option_map (λ (m : Member). m.0) (find (λ (m : Member). has_id id m.1) members)
owner_of-members id [] = refl
owner_of-members id (m ∷ ms) = elim (cases_Bool (has_id id m.1)) [
  | inl here ↦ rw here refl
  | inr there ↦ rw there (owner_of-members id ms)
]

any_between-members : (low high : SnapId) (members : List Member) → any_between low high (owners_of members) ≡ list_any (λ m. is_between low high m.1.id) members
any_between-members low high [] = refl
any_between-members low high (m ∷ ms) = ap (λ b. is_between low high m.1.id || b) (any_between-members low high ms)

none_of : (id : SnapId) (q : InodeId) (members : List Member) → NonePasses (λ (m : Member). has_id id m.1) members → list_any (has_id id) (of_dir q members) ≡ false
none_of id q [] none = refl
none_of id q (m ∷ ms) none = elim (cases_Bool (nat_eq q.0 m.0.0)) [
  | inl own ↦ rw own (rw none.0 (none_of id q ms none.1))
  | inr other ↦ rw other (none_of id q ms none.1)
]

any_of : (id : SnapId) (q : InodeId) (members : List Member) (i : ℕ) (m : Member) → PassesOnlyAt (λ (m : Member). has_id id m.1) members i → slice_get members i ≡ Some m → list_any (has_id id) (of_dir q members) ≡ nat_eq q.0 m.0.0
any_of id q [] i m there at = absurd there
any_of id q (x ∷ xs) zero m there at = by (cases_Bool (nat_eq q.0 x.0.0))
  where
    same : x ≡ m
    same = cc

    by : (nat_eq q.0 x.0.0 ≡ true) ⊎ (nat_eq q.0 x.0.0 ≡ false) → list_any (has_id id) (of_dir q (x ∷ xs)) ≡ nat_eq q.0 m.0.0
    by (inl own) = rw own (rw there.0 (sym (ap (λ (z : Member). nat_eq q.0 z.0.0) (sym same) ∙ own)))
    by (inr other) = rw other (none_of id q xs there.1 ∙ sym (ap (λ (z : Member). nat_eq q.0 z.0.0) (sym same) ∙ other))
any_of id q (x ∷ xs) (suc i) m there at = elim (cases_Bool (nat_eq q.0 x.0.0)) [
  | inl own ↦ rw own (rw there.0 (any_of id q xs i m there.1 at))
  | inr other ↦ rw other (any_of id q xs i m there.1 at)
]

find_of : (id : SnapId) (members : List Member) (i : ℕ) (m : Member) → PassesOnlyAt (λ (m : Member). has_id id m.1) members i → slice_get members i ≡ Some m → find (has_id id) (of_dir m.0 members) ≡ Some m.1
find_of id [] i m there at = absurd there
find_of id (x ∷ xs) zero m there at =
    let same : x ≡ m = cc in
    let own : nat_eq m.0.0 x.0.0 ≡ true = ap (λ (z : Member). nat_eq m.0.0 z.0.0) same ∙ nat_eq_equiv.refl m.0.0 in
    rw own (rw there.0 (ap (λ (z : Member). Some z.1) same))
find_of id (x ∷ xs) (suc i) m there at = elim (cases_Bool (nat_eq m.0.0 x.0.0)) [
  | inl own ↦ rw own (rw there.0 (find_of id xs i m there.1 at))
  | inr other ↦ rw other (find_of id xs i m there.1 at)
]

module _ (members : List Member) (s : Snapshots) (m : AreMembers members s) where
  -- the one place of an id
  pub there : (id : SnapId) (x : Member) → find (λ (m : Member). has_id id m.1) members ≡ Some x → (i : ℕ) × PassesOnlyAt (λ (m : Member). has_id id m.1) members i × (slice_get members i ≡ Some x)
  there id x found =
      let p = place_from_find (λ (m : Member). has_id id m.1) members x found in
      (p.0, passes_only_at id_of nat_eq nat_eq_equiv id.0 members p.0 x (rising_apart (map id_of members) (subst IsRising (numbers members) m.rise)) p.1 p.2, p.1)

  pub indexed : IsIndexed (owners_of members) s
  indexed id dir = ap (is_owner dir) (owner_of-members id members) ∙ by (find (λ (m : Member). has_id id m.1) members) refl ∙ sym (ap (list_any (has_id id)) (m.tables dir))
    where
      by : (o : Option Member) → find (λ (m : Member). has_id id m.1) members ≡ o → is_owner dir (option_map (λ (m : Member). m.0) o) ≡ list_any (has_id id) (of_dir dir members)
      by None is = sym (none_of id dir members (nowhere_from_find (λ (m : Member). has_id id m.1) members is))
      by (Some x) is = let p = there id x is in sym (any_of id dir members p.0 x p.1 p.2)

  has_list : (dir : InodeId) → IsSome (snaps_of s dir) → snaps_of s dir ≡ Some (snaps_in s dir)
  has_list dir some = by (snaps_of s dir) some
    where
      by : (o : Option (List SnapItem)) → is_some o ≡ true → o ≡ Some (unwrap_or o [])
      by None none = absurd (cc)
      by (Some l) some = refl

  pub found_by_id : (id : SnapId) → IsProper s → live_at s id ≡ find (λ (m : Member). has_id id m.1) members
  found_by_id id p = by (find (λ (m : Member). has_id id m.1) members) refl
    where
      by : (o : Option Member) → find (λ (m : Member). has_id id m.1) members ≡ o → live_at s id ≡ o
      by None is = live_at-none (owners_of members) s p indexed id (owner_of-members id members ∙ ap (option_map (λ (m : Member). m.0)) is)
      by (Some x) is =
          let at = there id x is in
          let some = all_at (λ m. IsSome (snaps_of s m.0)) members at.0 x m.snapshottable at.2 in
          live_at-some (owners_of members) s p indexed id x.0 (snaps_in s x.0) x.1 (owner_of-members id members ∙ ap (option_map (λ (m : Member). m.0)) is) (has_list x.0 some) (ap (find (has_id id)) (m.tables x.0) ∙ find_of id members at.0 x at.1 at.2)

  pub live_ids : (low high : SnapId) → IsProper s → list_any (λ p. is_between low high p.1.id) (live s) ≡ list_any (λ m. is_between low high m.1.id) members
  live_ids low high p = sym (between_live (owners_of members) s p indexed low high) ∙ any_between-members low high members

-- ---- directories that come and go

some_items : (q : InodeId) (s t : Snapshots) → snaps_of t q ≡ snaps_of s q → snaps_in t q ≡ snaps_in s q
some_items q s t same = ap (λ o. unwrap_or o []) same

find-insert : (q dir : InodeId) (xs ys : List Directory) → nat_eq q.0 dir.0 ≡ false → find (is_of q) (xs ++ (dir, []) ∷ ys) ≡ find (is_of q) (xs ++ ys)
find-insert q dir [] ys apart = rw apart refl
find-insert q dir (x ∷ xs) ys apart = elim (cases_Bool (is_of q x)) [
  | inl here ↦ rw here refl
  | inr there ↦ rw there (find-insert q dir xs ys apart)
]

pub disallowed_kept : (members : List Member) (s : Snapshots) (dir : InodeId) → snaps_in s dir ≡ [] → AreMembers members s → AreMembers members (disallowed dir s)
disallowed_kept members s dir none m = record {
  rise = m.rise;
  issued = m.issued;
  tables = λ q. items_at-filter dir.0 q.0 s.dirs ∙ same q (cases_Bool (nat_eq dir.0 q.0)) ∙ m.tables q;
  snapshottable = left members m.snapshottable (own members (sym (m.tables dir) ∙ none));
}
  where
    same : (q : InodeId) → (nat_eq dir.0 q.0 ≡ true) ⊎ (nat_eq dir.0 q.0 ≡ false) → (if nat_eq dir.0 q.0 then [] else snaps_in s q) ≡ snaps_in s q
    same q (inl this) = rw this (sym (ap (snaps_in s) (ap (λ n. record { 0 = n }) (sym (eqb-true dir.0 q.0 this))) ∙ none))
    same q (inr other) = rw other refl

    -- no member is the directory's
    own : (ms : List Member) → of_dir dir ms ≡ [] → AllByRecursion (λ x. nat_eq dir.0 x.0.0 ≡ false) ms
    own [] is = tt
    own (x ∷ xs) is = elim (cases_Bool (nat_eq dir.0 x.0.0)) [
      | inl here ↦ let clash : x.1 ∷ of_dir dir xs ≡ [] = rw here at is in absurd (cc)
      | inr there ↦ (there, own xs (rw there at is))
    ]

    find_left : (q : InodeId) (dirs : List Directory) → nat_eq dir.0 q.0 ≡ false → find (is_of q) (filter (λ d. not (is_of dir d)) dirs) ≡ find (is_of q) dirs
    find_left q [] apart = refl
    find_left q (d ∷ ds) apart = step (find_left q ds apart) (cases_Bool (is_of dir d)) (cases_Bool (is_of q d))
      where
        step : find (is_of q) (filter (λ d. not (is_of dir d)) ds) ≡ find (is_of q) ds → (is_of dir d ≡ true) ⊎ (is_of dir d ≡ false) → (is_of q d ≡ true) ⊎ (is_of q d ≡ false) → find (is_of q) (filter (λ d. not (is_of dir d)) (d ∷ ds)) ≡ find (is_of q) (d ∷ ds)
        step rest (inl gone) (inl here) = let clash : true ≡ false = sym (nat_eq_equiv.congr dir.0 d.0.0 q.0 gone ∙ nat_eq_equiv.symm d.0.0 q.0 ∙ here) ∙ apart in absurd (cc)
        step rest (inl gone) (inr other) = rw (gone, other) rest
        step rest (inr kept) (inl here) = rw (kept, here) refl
        step rest (inr kept) (inr other) = rw (kept, other) rest

    left : (ms : List Member) → AllByRecursion (λ x. IsSome (snaps_of s x.0)) ms → AllByRecursion (λ x. nat_eq dir.0 x.0.0 ≡ false) ms → AllByRecursion (λ x. IsSome (snaps_of (disallowed dir s) x.0)) ms
    left [] some apart = tt
    left (x ∷ xs) some apart = (ap is_some (ap (option_map (λ (d : Directory). d.1)) (find_left x.0 s.dirs apart.0)) ∙ some.0, left xs some.1 apart.1)

pub allowed_kept : (members : List Member) (s : Snapshots) (dir : InodeId) → IsProper s → AreMembers members s → AreMembers members (allowed dir s)
allowed_kept members s dir p m = by (cases_Bool (is_some (snaps_of s dir)))
  where
    nothing : (o : Option Directory) → is_some (option_map (λ (d : Directory). d.1) o) ≡ false → o ≡ None
    nothing None is = refl
    nothing (Some d) is = absurd (cc)

    apart : (q : InodeId) → is_some (snaps_of s dir) ≡ false → IsSome (snaps_of s q) → (nat_eq q.0 dir.0 ≡ true) ⊎ (nat_eq q.0 dir.0 ≡ false) → nat_eq q.0 dir.0 ≡ false
    apart q none some (inl same) = let same_dir : q ≡ dir = ap (λ n. record { 0 = n }) (eqb-true q.0 dir.0 same) in let clash : true ≡ false = sym some ∙ ap (λ k. is_some (snaps_of s k)) same_dir ∙ none in absurd (cc)
    apart q none some (inr other) = other

    by : (is_some (snaps_of s dir) ≡ true) ⊎ (is_some (snaps_of s dir) ≡ false) → AreMembers members (allowed dir s)
    by (inl there) = rw there m
    by (inr absent) =
        let none = nowhere_from_find (is_of dir) s.dirs (nothing (find (is_of dir) s.dirs) absent) in
        let is = inserted_is dir s.dirs p.dirs_rise none in
        rw absent record {
          rise = m.rise;
          issued = m.issued;
          tables = λ q. items_at-insert dir (filter (λ (d : Directory). nat_lt d.0.0 dir.0) s.dirs) (filter (λ (d : Directory). nat_lt dir.0 d.0.0) s.dirs) (none_above dir s.dirs none) q.0 ∙ ap (items_at q.0) is.1 ∙ m.tables q;
          snapshottable = all_weaker (λ x. IsSome (snaps_of s x.0)) (λ x. IsSome (snaps_of (record s { dirs = filter (λ (d : Directory). nat_lt d.0.0 dir.0) s.dirs ++ (dir, []) ∷ filter (λ (d : Directory). nat_lt dir.0 d.0.0) s.dirs }) x.0))
              (λ x some. ap is_some (ap (option_map (λ (d : Directory). d.1)) (find-insert x.0 dir (filter (λ (d : Directory). nat_lt d.0.0 dir.0) s.dirs) (filter (λ (d : Directory). nat_lt dir.0 d.0.0) s.dirs) (apart x.0 absent some (cases_Bool (nat_eq x.0.0 dir.0))) ∙ ap (find (is_of x.0)) is.1)) ∙ some) members m.snapshottable;
        }

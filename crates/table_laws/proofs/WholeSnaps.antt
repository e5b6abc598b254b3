-- Snapshottable directories, in memory and in the plain state.
use Rattle.std.proofs.Common.{◌≡◌, Bool, true, false, nat_eq, ◌⊎◌, inl, inr, List, [], ◌∷◌, ◌++◌, map, filter, Option, Some, None, refl, sym, ap, ◌∙◌}
use Rattle.std.specs.Prelude.{not, ◌&&◌, ◌||◌, nat_lt, is_some, if◌then◌else◌}
use Rattle.std.specs.Option.{option_map}
use Rattle.std.specs.List.{find, list_any, list_all}
use Rattle.std.specs.Cmp.{nat_eq_equiv}
use Rattle.std.proofs.lemmas.Bool.{cases_Bool}
use Rattle.hs_types.specs.declared.ids.InodeId.{InodeId}
use Rattle.hs_types.specs.declared.name.SnapItem.{SnapItem}
use Rattle.hs_plain.specs.declared.state.Member.{Member}
use Rattle.hs_plain.specs.declared.state.FileBlocks.{FileBlocks}
use Rattle.hs_plain.specs.Tree.{same_inode}
use Rattle.hs_plain.proofs.ValidTrees.{first, second}
use Rattle.hs_plain.proofs.ValidShapes.{true_false}
use Rattle.hs_plain.proofs.ValidLists.{In}
use Rattle.hs_plain.proofs.ValidMembers.{inode_so}
use Rattle.snapshot_manager.specs.Snapshots.{Snapshots, Directory, IsProper, is_of, snaps_of, allowed, disallowed, changed}
use Rattle.snapshot_manager.specs.Members.{AreMembers, of_dir}
use Rattle.snapshot_manager.specs.Members as members
use Rattle.snapshot_manager.proofs.MemberLemmas.{disallowed_kept, snaps_of-changed}
use Rattle.snapshot_manager.proofs.Tables.{inserted_is}
use Rattle.snapshot_manager.proofs.Lists.{nowhere_from_find}
use Rattle.inode_table.specs.Joined.{told}
use Rattle.table_laws.specs.WholeCalls.{all_disallowed}

-- ---- tests

and_true : (a : Bool) → a ≡ (a && true)
and_true true = refl
and_true false = refl

and_false : (a : Bool) → (a && false) ≡ false
and_false true = refl
and_false false = refl

not_either : (a b c : Bool) → ((a && not b) && not c) ≡ (a && not (b || c))
not_either true true c = refl
not_either true false c = refl
not_either false b c = refl

-- ---- directories that are snapshottable no more

some_filter : (dir q : InodeId) (dirs : List Directory)
    → is_some (option_map (λ (d : Directory). d.1) (find (is_of q) (filter (λ d. not (is_of dir d)) dirs))) ≡ (is_some (option_map (λ (d : Directory). d.1) (find (is_of q) dirs)) && not (same_inode q dir))
some_filter dir q [] = refl
some_filter dir q (d ∷ ds) = by (some_filter dir q ds) (cases_Bool (nat_eq dir.0 d.0.0)) (cases_Bool (nat_eq q.0 d.0.0))
  where
    by : is_some (option_map (λ (d : Directory). d.1) (find (is_of q) (filter (λ d. not (is_of dir d)) ds))) ≡ (is_some (option_map (λ (d : Directory). d.1) (find (is_of q) ds)) && not (same_inode q dir))
        → (nat_eq dir.0 d.0.0 ≡ true) ⊎ (nat_eq dir.0 d.0.0 ≡ false) → (nat_eq q.0 d.0.0 ≡ true) ⊎ (nat_eq q.0 d.0.0 ≡ false)
        → is_some (option_map (λ (d : Directory). d.1) (find (is_of q) (filter (λ d. not (is_of dir d)) (d ∷ ds)))) ≡ (is_some (option_map (λ (d : Directory). d.1) (find (is_of q) (d ∷ ds))) && not (same_inode q dir))
    by rest (inl gone) (inl here) =
        let same : nat_eq q.0 dir.0 ≡ true = nat_eq_equiv.congr q.0 d.0.0 dir.0 here ∙ nat_eq_equiv.symm d.0.0 dir.0 ∙ gone in
        let none : is_some (option_map (λ (d : Directory). d.1) (find (is_of q) (filter (λ d. not (is_of dir d)) ds))) ≡ false = rest ∙ ap (λ b. is_some (option_map (λ (d : Directory). d.1) (find (is_of q) ds)) && not b) same ∙ and_false _ in
        rw (gone, here, same) none
    by rest (inl gone) (inr other) = rw (gone, other) rest
    by rest (inr kept) (inl here) =
        let apart : nat_eq q.0 dir.0 ≡ false = nat_eq_equiv.congr q.0 d.0.0 dir.0 here ∙ nat_eq_equiv.symm d.0.0 dir.0 ∙ kept in
        rw (kept, here, apart) refl
    by rest (inr kept) (inr other) = rw (kept, other) rest

pub some-disallowed : (ids : List InodeId) (q : InodeId) (s : Snapshots) → is_some (snaps_of (all_disallowed ids s) q) ≡ (is_some (snaps_of s q) && not (list_any (same_inode q) ids))
some-disallowed [] q s = and_true (is_some (snaps_of s q))
some-disallowed (id ∷ ids) q s = some-disallowed ids q (disallowed id s) ∙ ap (λ b. b && not (list_any (same_inode q) ids)) (some_filter id q s.dirs) ∙ not_either (is_some (snaps_of s q)) (same_inode q id) (list_any (same_inode q) ids)

pub issued-disallowed : (ids : List InodeId) (s : Snapshots) → (all_disallowed ids s).issued ≡ s.issued
issued-disallowed [] s = refl
issued-disallowed (id ∷ ids) s = issued-disallowed ids (disallowed id s)

pub told-disallowed : (ids : List InodeId) (ms : List members.Member) (s : Snapshots) → ((dir : InodeId) → In ids dir → of_dir dir ms ≡ []) → AreMembers ms s → AreMembers ms (all_disallowed ids s)
told-disallowed [] ms s none are = are
told-disallowed (id ∷ ids) ms s none are = told-disallowed ids ms (disallowed id s) (λ dir at. none dir (inr at)) (disallowed_kept ms s id (are.tables id ∙ none id (inl refl)) are)

-- where each snapshot's directory passes a test, another directory has none
pub none-of : (test : InodeId → Bool) (dir : InodeId) (ms : List (Member FileBlocks)) → test dir ≡ false → list_all (λ m. test m.directory) ms ≡ true → of_dir dir (map told ms) ≡ []
none-of test dir [] not all = refl
none-of test dir (m ∷ ms) not all = by (none-of test dir ms not (second (test m.directory) _ all)) (cases_Bool (nat_eq dir.0 m.directory.0))
  where
    by : of_dir dir (map told ms) ≡ [] → (nat_eq dir.0 m.directory.0 ≡ true) ⊎ (nat_eq dir.0 m.directory.0 ≡ false) → of_dir dir (map told (m ∷ ms)) ≡ []
    by rest (inl own) = absurd (true_false (first (test m.directory) _ all) (ap test (sym (inode_so dir m.directory own)) ∙ not))
    by rest (inr other) = rw other rest

-- ---- a directory more

some_insert : (dir q : InodeId) (xs ys : List Directory)
    → is_some (option_map (λ (d : Directory). d.1) (find (is_of q) (xs ++ (dir, []) ∷ ys))) ≡ (is_some (option_map (λ (d : Directory). d.1) (find (is_of q) (xs ++ ys))) || same_inode q dir)
some_insert dir q [] ys = elim (cases_Bool (nat_eq q.0 dir.0)) [
  | inl same ↦ rw same (sym (or_true _))
  | inr apart ↦ rw apart (sym (or_false _))
]
  where
    or_true : (b : Bool) → (b || true) ≡ true
    or_true true = refl
    or_true false = refl

    or_false : (b : Bool) → (b || false) ≡ b
    or_false true = refl
    or_false false = refl
some_insert dir q (x ∷ xs) ys = elim (cases_Bool (nat_eq q.0 x.0.0)) [
  | inl here ↦ rw here refl
  | inr there ↦ rw there (some_insert dir q xs ys)
]

nothing : (o : Option Directory) → is_some (option_map (λ (d : Directory). d.1) o) ≡ false → o ≡ None
nothing None is = refl
nothing (Some d) is = absurd (true_false refl is)

-- where it was snapshottable nothing changes
pub allowed-there : (dir : InodeId) (s : Snapshots) → is_some (snaps_of s dir) ≡ true → allowed dir s ≡ s
allowed-there dir s there = ap (λ b. if b then s else record s { dirs = filter (λ d. nat_lt d.0.0 dir.0) s.dirs ++ (dir, []) ∷ filter (λ d. nat_lt dir.0 d.0.0) s.dirs }) there

pub some-allowed : (dir q : InodeId) (s : Snapshots) → IsProper s → is_some (snaps_of s dir) ≡ false → is_some (snaps_of (allowed dir s) q) ≡ (is_some (snaps_of s q) || same_inode q dir)
some-allowed dir q s proper absent =
    ap (λ b. is_some (snaps_of (if b then s else record s { dirs = filter (λ d. nat_lt d.0.0 dir.0) s.dirs ++ (dir, []) ∷ filter (λ d. nat_lt dir.0 d.0.0) s.dirs }) q)) absent
    ∙ some_insert dir q (filter (λ d. nat_lt d.0.0 dir.0) s.dirs) (filter (λ d. nat_lt dir.0 d.0.0) s.dirs)
    ∙ ap (λ ds. is_some (option_map (λ (d : Directory). d.1) (find (is_of q) ds)) || same_inode q dir) (inserted_is dir s.dirs proper.dirs_rise (nowhere_from_find (is_of dir) s.dirs (nothing (find (is_of dir) s.dirs) absent))).1

-- ---- other snapshots of a directory

pub some-changed : (dir q : InodeId) (f : List SnapItem → List SnapItem) (s : Snapshots) → is_some (snaps_of (changed dir f s) q) ≡ is_some (snaps_of s q)
some-changed dir q f s = ap is_some (snaps_of-changed dir q f s.dirs) ∙ by (nat_eq dir.0 q.0) (snaps_of s q)
  where
    by : (b : Bool) (o : Option (List SnapItem)) → is_some (if b then option_map f o else o) ≡ is_some o
    by true None = refl
    by true (Some l) = refl
    by false o = refl

-- ---- the plain lists of ids

pub any-filter : (id q : InodeId) (ids : List InodeId) → list_any (same_inode q) (filter (λ other. not (same_inode other id)) ids) ≡ (list_any (same_inode q) ids && not (same_inode q id))
any-filter id q [] = refl
any-filter id q (i ∷ ids) = by (any-filter id q ids) (cases_Bool (nat_eq i.0 id.0)) (cases_Bool (nat_eq q.0 i.0))
  where
    by : list_any (same_inode q) (filter (λ other. not (same_inode other id)) ids) ≡ (list_any (same_inode q) ids && not (same_inode q id))
        → (nat_eq i.0 id.0 ≡ true) ⊎ (nat_eq i.0 id.0 ≡ false) → (nat_eq q.0 i.0 ≡ true) ⊎ (nat_eq q.0 i.0 ≡ false)
        → list_any (same_inode q) (filter (λ other. not (same_inode other id)) (i ∷ ids)) ≡ (list_any (same_inode q) (i ∷ ids) && not (same_inode q id))
    by rest (inl gone) (inl here) =
        let same : nat_eq q.0 id.0 ≡ true = nat_eq_equiv.congr q.0 i.0 id.0 here ∙ gone in
        let none : list_any (same_inode q) (filter (λ other. not (same_inode other id)) ids) ≡ false = rest ∙ ap (λ b. list_any (same_inode q) ids && not b) same ∙ and_false _ in
        rw (gone, here, same) none
    by rest (inl gone) (inr other) = rw (gone, other) rest
    by rest (inr kept) (inl here) =
        let apart : nat_eq q.0 id.0 ≡ false = nat_eq_equiv.congr q.0 i.0 id.0 here ∙ kept in
        rw (kept, here, apart) refl
    by rest (inr kept) (inr other) = rw (kept, other) rest

pub any-push : (id q : InodeId) (ids : List InodeId) → list_any (same_inode q) (ids ++ id ∷ []) ≡ (list_any (same_inode q) ids || same_inode q id)
any-push id q [] = by (same_inode q id)
  where
    by : (b : Bool) → (b || false) ≡ b
    by true = refl
    by false = refl
any-push id q (i ∷ ids) = ap (λ b. same_inode q i || b) (any-push id q ids) ∙ by (same_inode q i) (list_any (same_inode q) ids) (same_inode q id)
  where
    by : (a b c : Bool) → (a || (b || c)) ≡ ((a || b) || c)
    by true b c = refl
    by false b c = refl

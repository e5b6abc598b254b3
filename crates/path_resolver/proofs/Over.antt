-- Going over the snapshottable directories by rising ids.
use Rattle.std.proofs.Common.{◌≡◌, ℕ, ◌<◌, ◌≤◌, Bool, true, false, cond, ◌&&◌, ◌||◌, nat_lt, List, [], ◌∷◌, map, Option, Some, None, refl, sym, ap, subst, ◌∙◌, arith}
use Rattle.std.specs.List.{AllByRecursion, find, list_any}
use Rattle.std.specs.Option.{option_map}
use Rattle.std.specs.Prelude.{slice_get}
use Rattle.std.proofs.lemmas.Bool.Decides.{Decides-ltb}
use Rattle.hs_types.specs.declared.ids.InodeId.{InodeId}
use Rattle.hs_plain.proofs.ValidLists.{by_test, false_by}
use Rattle.hs_plain.proofs.ValidShapes.{none_some, same_some, true_false}
use Rattle.snapshot_manager.specs.Snapshots.{Directory, IsRising}
use Rattle.path_resolver.specs.Above.{any_after, any_from, count_after, left_from}

abbrev key : Directory → ℕ
key d = d.0.0

not_less : (n m : ℕ) → m ≤ n → nat_lt n m ≡ false
not_less n m le = false_by _ (λ t. let lt : n < m = (Decides-ltb n m).0 t in omega arith)

up_to : (n m : ℕ) → nat_lt n m ≡ false → m ≤ n
up_to n m f = le (λ lt. true_false ((Decides-ltb n m).1 lt) f)
  where
    le : (n < m → ⊥) → m ≤ n
    le not_lt = omega (arith, not_lt)

-- what is found passes
found_after : (n : ℕ) (ds : List Directory) (e : Directory) → find (λ d. nat_lt n d.0.0) ds ≡ Some e → nat_lt n e.0.0 ≡ true
found_after n [] e h = absurd (none_some h)
found_after n (d ∷ ds) e h = elim (nat_lt n d.0.0) as (λ b. nat_lt n d.0.0 ≡ b → cond b (Some d) (find (λ d. nat_lt n d.0.0) ds) ≡ Some e → nat_lt n e.0.0 ≡ true) [
  | true ↦ λ t k. ap (λ (x : Directory). nat_lt n x.0.0) (sym (same_some k)) ∙ t
  | false ↦ λ _ k. found_after n ds e k
] refl h

later : (n m : ℕ) (ds : List Directory) → n ≤ m → AllByRecursion (λ k. m < k) (map key ds) → AllByRecursion (λ k. n < k) (map key ds)
later n m [] le above = tt
later n m (d ∷ ds) le above = let lt : m < key d = above.0 in (omega arith, later n m ds le above.1)

module _ (test : InodeId → Bool) where
  -- all of them have greater ids
  all-after : (id : InodeId) (ds : List Directory) → AllByRecursion (λ k. id.0 < k) (map key ds) → any_after test id ds ≡ list_any (λ d. test d.0) ds
  all-after id [] above = refl
  all-after id (d ∷ ds) above = ap (λ b. (b && test d.0) || any_after test id ds) ((Decides-ltb id.0 d.0.0).1 above.0) ∙ ap (λ b. test d.0 || b) (all-after id ds above.1)

  skips : (id : InodeId) (d : Directory) (ds : List Directory) → nat_lt id.0 d.0.0 ≡ false → any_after test id (d ∷ ds) ≡ any_after test id ds
  skips id d ds below = ap (λ b. (b && test d.0) || any_after test id ds) below

  pub next-after : (id : InodeId) (ds : List Directory) → IsRising (map key ds) → (o : Option Directory) → find (λ d. nat_lt id.0 d.0.0) ds ≡ o → any_after test id ds ≡ any_from test (option_map (λ d. d.0) o) ds
  next-after id [] rise None e = refl
  next-after id [] rise (Some d) e = absurd (none_some e)
  next-after id (d ∷ ds) rise o e = by_test (nat_lt id.0 d.0.0)
      (λ t. let lt : id.0 < d.0.0 = (Decides-ltb id.0 d.0.0).0 t in
      ap (λ b. (b && test d.0) || any_after test id ds) t
      ∙ ap (λ b. test d.0 || b) (all-after id ds (later id.0 d.0.0 ds (omega arith) rise.0) ∙ sym (all-after d.0 ds rise.0) ∙ sym (skips d.0 d ds (not_less d.0.0 d.0.0 (omega arith))))
      ∙ ap (λ o. any_from test (option_map (λ d. d.0) o) (d ∷ ds)) (sym (ap (λ b. cond b (Some d) (find (λ d. nat_lt id.0 d.0.0) ds)) t) ∙ e))
      (λ f. let rest : find (λ d. nat_lt id.0 d.0.0) ds ≡ o = sym (ap (λ b. cond b (Some d) (find (λ d. nat_lt id.0 d.0.0) ds)) f) ∙ e in
      skips id d ds f ∙ next-after id ds rise.1 o rest ∙ behind o rest f)
    where
      behind : (o : Option Directory) → find (λ d. nat_lt id.0 d.0.0) ds ≡ o → nat_lt id.0 d.0.0 ≡ false → any_from test (option_map (λ d. d.0) o) ds ≡ any_from test (option_map (λ d. d.0) o) (d ∷ ds)
      behind None h f = refl
      behind (Some e) h f =
          let lt : id.0 < e.0.0 = (Decides-ltb id.0 e.0.0).0 (found_after id.0 ds e h) in
          let le : d.0.0 ≤ id.0 = up_to id.0 d.0.0 f in
          ap (λ b. test e.0 || b) (sym (skips e.0 d ds (not_less e.0.0 d.0.0 (omega arith))))

  pub first-of : (ds : List Directory) → IsRising (map key ds) → list_any (λ d. test d.0) ds ≡ any_from test (option_map (λ d. d.0) (slice_get ds 0)) ds
  first-of [] rise = refl
  first-of (d ∷ ds) rise = ap (λ b. test d.0 || b) (sym (all-after d.0 ds rise.0) ∙ sym (skips d.0 d ds (not_less d.0.0 d.0.0 (omega arith))))

-- ---- how many are left

fewer-after : (n m : InodeId) (ds : List Directory) → n.0 ≤ m.0 → count_after m ds ≤ count_after n ds
fewer-after n m [] le = omega arith
fewer-after n m (d ∷ ds) le = let rest = fewer-after n m ds le in by_test (nat_lt m.0 d.0.0)
    (λ t. let lt : m.0 < d.0.0 = (Decides-ltb m.0 d.0.0).0 t in rw (t, (Decides-ltb n.0 d.0.0).1 (omega arith)) (omega (arith, rest)))
    (λ f. by_test (nat_lt n.0 d.0.0) (λ t. rw (f, t) (omega (arith, rest))) (λ g. rw (f, g) (omega (arith, rest))))

pub left-after : (id : InodeId) (ds : List Directory) (e : Directory) → find (λ d. nat_lt id.0 d.0.0) ds ≡ Some e → count_after e.0 ds < count_after id ds
left-after id [] e h = absurd (none_some h)
left-after id (d ∷ ds) e h = by_test (nat_lt id.0 d.0.0)
    (λ t. let lt : id.0 < d.0.0 = (Decides-ltb id.0 d.0.0).0 t in
    let same : d ≡ e = same_some (sym (ap (λ b. cond b (Some d) (find (λ d. nat_lt id.0 d.0.0) ds)) t) ∙ h) in
    let rest = fewer-after id d.0 ds (omega arith) in
    subst_at same (rw (not_less d.0.0 d.0.0 (omega arith), t) (omega (arith, rest))))
    (λ f. let there : find (λ d. nat_lt id.0 d.0.0) ds ≡ Some e = sym (ap (λ b. cond b (Some d) (find (λ d. nat_lt id.0 d.0.0) ds)) f) ∙ h in
    let lt : id.0 < e.0.0 = (Decides-ltb id.0 e.0.0).0 (found_after id.0 ds e there) in
    let le : d.0.0 ≤ id.0 = up_to id.0 d.0.0 f in
    let rest = left-after id ds e there in
    rw (f, not_less e.0.0 d.0.0 (omega arith)) (omega (arith, rest)))
  where
    subst_at : {x y : Directory} → x ≡ y → count_after x.0 (d ∷ ds) < count_after id (d ∷ ds) → count_after y.0 (d ∷ ds) < count_after id (d ∷ ds)
    subst_at e h = subst (λ (z : Directory). count_after z.0 (d ∷ ds) < count_after id (d ∷ ds)) e h

-- ---- steps of a loop

pub step-less : (ds : List Directory) (next after : Option InodeId) (id : InodeId) → next ≡ Some id → after ≡ option_map (λ d. d.0) (find (λ d. nat_lt id.0 d.0.0) ds) → left_from after ds < left_from next ds
step-less ds next after id is found = rw (is, found) (by (find (λ d. nat_lt id.0 d.0.0) ds) refl)
  where
    by : (o : Option Directory) → find (λ d. nat_lt id.0 d.0.0) ds ≡ o → left_from (option_map (λ d. d.0) o) ds < left_from (Some id) ds
    by None e = omega arith
    by (Some d) e = let less = left-after id ds d e in omega (arith, less)

pub step-same : (test : InodeId → Bool) (ds : List Directory) (next after : Option InodeId) (id : InodeId) → IsRising (map key ds) → next ≡ Some id → test id ≡ false
    → after ≡ option_map (λ d. d.0) (find (λ d. nat_lt id.0 d.0.0) ds) → any_from test next ds ≡ any_from test after ds
step-same test ds next after id rise is fails found =
    ap (λ o. any_from test o ds) is ∙ ap (λ b. b || any_after test id ds) fails ∙ next-after test id ds rise (find (λ d. nat_lt id.0 d.0.0) ds) refl ∙ ap (λ o. any_from test o ds) (sym found)

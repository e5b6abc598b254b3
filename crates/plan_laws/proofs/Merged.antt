-- A merging of the calls of copies, told by the numbers of their lists, is one told by paths.
use Rattle.std.proofs.Common.{◌≡◌, ℕ, zero, suc, ◌<◌, ◌≤◌, ◌==◌, true, false, cond, Some, List, [], ◌∷◌, ◌++◌, map, length, take, drop, refl, ap, sym, subst, ◌∙◌, arith}
use Rattle.std.specs.Prelude.{slice_get}
use Rattle.std.specs.List.{filter, AllByRecursion}
use Rattle.std.proofs.lemmas.Bool.Decides.{Decides-eqb}
use Rattle.std.proofs.lemmas.List.{take-append-drop}
use Rattle.hs_types.specs.Names.{Names}
use Rattle.hs_types.specs.Limits.{block_size}
use Rattle.hs_plain.specs.Tree.{same_path}
use Rattle.hs_plain.specs.Plan.{numbered_so, pages_of}
use Rattle.hs_plain.proofs.ValidShapes.{same_some, true_false}
use Rattle.plan_laws.specs.Copies.{CopyCall, path_of_call, is_at, joined}
use Rattle.plan_laws.proofs.Paths.{by}
use Rattle.plan_laws.proofs.Lists.{same-so, same-here}

same_number : (k : ℕ) → (k == k) ≡ true
same_number k = (Decides-eqb k k).1 refl

-- ---- a merging of mapped lists is a mapped merging

module _ {A C : Type 0} (f : A → C) where
  pub record IsMapped (numbered : List (ℕ × C)) (lists : ℕ → List A) : Type 0 where
    pub calls : List (ℕ × A)
    pub same : map (λ pair. f pair.1) calls ≡ map (λ pair. pair.1) numbered
    pub each : (n : ℕ) → numbered_so n calls ≡ lists n

  -- the lists, of which one has lost its head
  abbrev less : ℕ → (ℕ → List A) → ℕ → List A
  less k lists n = cond (k == n) (drop 1 (lists n)) (lists n)

  no-cons : {c : C} {cs : List C} → c ∷ cs ≡ [] → ⊥
  no-cons h = cc

  heads : {c d : C} {cs ds : List C} → c ∷ cs ≡ d ∷ ds → c ≡ d
  heads h = cc

  tails : {c d : C} {cs ds : List C} → c ∷ cs ≡ d ∷ ds → cs ≡ ds
  tails h = cc

  no-more : (xs : List A) → [] ≡ map f xs → [] ≡ xs
  no-more [] h = refl
  no-more (x ∷ xs) h = absurd (no-cons (sym h))

  head-of : (xs : List A) (c : C) (cs : List C) → c ∷ cs ≡ map f xs → (a : A) × (xs ≡ a ∷ drop 1 xs) × (f a ≡ c)
  head-of [] c cs h = absurd (no-cons h)
  head-of (x ∷ xs) c cs h = (x, refl, sym (heads h))

  tail-of : (xs : List A) (c : C) (cs : List C) → c ∷ cs ≡ map f xs → cs ≡ map f (drop 1 xs)
  tail-of [] c cs h = absurd (no-cons h)
  tail-of (x ∷ xs) c cs h = tails h

  pub mapped : (numbered : List (ℕ × C)) (lists : ℕ → List A) → ((n : ℕ) → numbered_so n numbered ≡ map f (lists n)) → IsMapped numbered lists
  mapped [] lists all = record { calls = []; same = refl; each = λ n. no-more (lists n) (all n) }
  mapped (pair ∷ pairs) lists all =
      let head : (a : A) × (lists pair.0 ≡ a ∷ drop 1 (lists pair.0)) × (f a ≡ pair.1) =
      head-of (lists pair.0) pair.1 (numbered_so pair.0 pairs) (sym (ap (λ b. cond b (pair.1 ∷ numbered_so pair.0 pairs) (numbered_so pair.0 pairs)) (same_number pair.0)) ∙ all pair.0) in
      let rest : IsMapped pairs (less pair.0 lists) = mapped pairs (less pair.0 lists) (λ n. left n) in
      record {
        calls = (pair.0, head.0) ∷ rest.calls;
        same = λ i. head.2 i ∷ rest.same i;
        each = λ n. by (pair.0 == n)
            (λ t. let same : pair.0 ≡ n = (Decides-eqb pair.0 n).0 t in
            ap (λ b. cond b (head.0 ∷ numbered_so n rest.calls) (numbered_so n rest.calls)) t
            ∙ ap (λ xs. head.0 ∷ xs) (rest.each n ∙ ap (λ b. cond b (drop 1 (lists n)) (lists n)) t)
            ∙ ap (λ k. head.0 ∷ drop 1 (lists k)) (sym same) ∙ sym head.1 ∙ ap lists same)
            (λ t. ap (λ b. cond b (head.0 ∷ numbered_so n rest.calls) (numbered_so n rest.calls)) t ∙ rest.each n ∙ ap (λ b. cond b (drop 1 (lists n)) (lists n)) t);
      }
    where
      left : (n : ℕ) → numbered_so n pairs ≡ map f (cond (pair.0 == n) (drop 1 (lists n)) (lists n))
      left n = (elim (pair.0 == n) as (λ b. cond b (pair.1 ∷ numbered_so n pairs) (numbered_so n pairs) ≡ map f (lists n) → numbered_so n pairs ≡ map f (cond b (drop 1 (lists n)) (lists n))) [
        | true ↦ λ h. tail-of (lists n) pair.1 (numbered_so n pairs) h
        | false ↦ λ h. h
      ]) (all n)

-- ---- by paths

module _ (paths : List Names) where
  -- each call is at the path of its list
  abbrev pub AreAt : List (ℕ × CopyCall) → Type 0
  AreAt calls = AllByRecursion (λ pair. slice_get paths pair.0 ≡ Some (path_of_call pair.1)) calls

  pub all-at : (calls : List (ℕ × CopyCall)) → ((n : ℕ) → AllByRecursion (λ call. slice_get paths n ≡ Some (path_of_call call)) (numbered_so n calls)) → AreAt calls
  all-at [] each = tt
  all-at (pair ∷ pairs) each = (
    (subst (λ b. AllByRecursion (λ call. slice_get paths pair.0 ≡ Some (path_of_call call)) (cond b (pair.1 ∷ numbered_so pair.0 pairs) (numbered_so pair.0 pairs))) (same_number pair.0) (each pair.0)).0,
    all-at pairs (λ n. (elim (pair.0 == n) as (λ b. AllByRecursion (λ call. slice_get paths n ≡ Some (path_of_call call)) (cond b (pair.1 ∷ numbered_so n pairs) (numbered_so n pairs)) → AllByRecursion (λ call. slice_get paths n ≡ Some (path_of_call call)) (numbered_so n pairs)) [
      | true ↦ λ h. h.1
      | false ↦ λ h. h
    ]) (each n)),
  )

  abbrev calls_of : List (ℕ × CopyCall) → List CopyCall
  calls_of calls = map (λ pair. pair.1) calls

  -- the calls at a path are those of its list
  pub at-number : (once : (m n : ℕ) (p : Names) → slice_get paths m ≡ Some p → slice_get paths n ≡ Some p → m ≡ n) → (k : ℕ) (path : Names) → slice_get paths k ≡ Some path →
      (calls : List (ℕ × CopyCall)) → AreAt calls → filter (is_at path) (map (λ pair. pair.1) calls) ≡ numbered_so k calls
  at-number once k path there [] at = refl
  at-number once k path there (pair ∷ pairs) at = by (pair.0 == k)
      (λ t. let same : path_of_call pair.1 ≡ path = same_some (sym at.0 ∙ ap (slice_get paths) ((Decides-eqb pair.0 k).0 t) ∙ there) in
      ap (λ b. cond b (pair.1 ∷ filter (is_at path) (calls_of pairs)) (filter (is_at path) (calls_of pairs))) (ap (same_path (path_of_call pair.1)) (sym same) ∙ same-here (path_of_call pair.1))
      ∙ ap (λ xs. pair.1 ∷ xs) (at-number once k path there pairs at.1)
      ∙ sym (ap (λ b. cond b (pair.1 ∷ numbered_so k pairs) (numbered_so k pairs)) t))
      (λ t. ap (λ b. cond b (pair.1 ∷ filter (is_at path) (calls_of pairs)) (filter (is_at path) (calls_of pairs)))
      (by (is_at path pair.1) (λ s. absurd (true_false ((Decides-eqb pair.0 k).1 (once pair.0 k path (at.0 ∙ ap (λ (p : Names). Some p) (sym (same-so (path_of_call pair.1) path s))) there)) t)) (λ f. f))
      ∙ at-number once k path there pairs at.1
      ∙ sym (ap (λ b. cond b (pair.1 ∷ numbered_so k pairs) (numbered_so k pairs)) t))

  -- at another path there are none
  pub at-none : (path : Names) → ((k : ℕ) → slice_get paths k ≡ Some path → ⊥) → (calls : List (ℕ × CopyCall)) → AreAt calls → filter (is_at path) (map (λ pair. pair.1) calls) ≡ []
  at-none path missing [] at = refl
  at-none path missing (pair ∷ pairs) at =
      ap (λ b. cond b (pair.1 ∷ filter (is_at path) (calls_of pairs)) (filter (is_at path) (calls_of pairs)))
      (by (is_at path pair.1) (λ s. absurd (missing pair.0 (at.0 ∙ ap (λ (p : Names). Some p) (sym (same-so (path_of_call pair.1) path s))))) (λ f. f))
      ∙ at-none path missing pairs at.1

-- ---- pages

block-some : 0 < block_size
block-some = omega arith

pub joined-pages : (most : ℕ) (bytes : List ℕ) → length bytes ≤ most → joined (pages_of most bytes) ≡ bytes
joined-pages most [] le = refl
joined-pages zero (byte ∷ bytes) le = absurd (no-room (length bytes) le)
  where
    no-room : (n : ℕ) → suc n ≤ 0 → ⊥
    no-room n le = omega arith
joined-pages (suc most) (byte ∷ bytes) le =
    ap (λ xs. take block_size (byte ∷ bytes) ++ xs) (joined-pages most (drop block_size (byte ∷ bytes)) (shorter bytes le))
    ∙ take-append-drop block_size (byte ∷ bytes)
  where
    drop-le : (n : ℕ) (xs : List ℕ) → length (drop n xs) ≤ length xs
    drop-le zero xs = omega arith
    drop-le (suc n) [] = omega arith
    drop-le (suc n) (x ∷ xs) = let rest : length (drop n xs) ≤ length xs = drop-le n xs in step (length (drop n xs)) (length xs) rest
      where
        step : (a b : ℕ) → a ≤ b → a ≤ suc b
        step a b le = omega arith

    shorter : (bytes : List ℕ) → suc (length bytes) ≤ suc most → length (drop 65535 bytes) ≤ most
    shorter bytes le = let rest : length (drop 65535 bytes) ≤ length bytes = drop-le 65535 bytes in chain (length (drop 65535 bytes)) (length bytes) most rest le
      where
        chain : (a b c : ℕ) → a ≤ b → suc b ≤ suc c → a ≤ c
        chain a b c h k = omega arith

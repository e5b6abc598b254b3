-- The generator's commands: lists that grow with their numbers, rounds from draw to draw, and how many there are.
use Rattle.std.proofs.Common.{◌≡◌, ℕ, zero, suc, ◌+◌, ◌-◌, ◌*◌, ◌%◌, ◌<◌, ◌≤◌, Bool, true, false, List, [], ◌∷◌, ◌++◌, length, map, codes, refl, sym, ap, ◌∙◌, append_assoc, add-one, length-append, arith}
use Rattle.std.specs.List.{flat_map, range_with_len}
use Rattle.std.specs.Prelude.{if◌then◌else◌, ◌==◌}
use Rattle.std.proofs.lemmas.List.FromFn.{length-map-range_with_len}
use Rattle.std.proofs.lemmas.Grind.{common_steps}
use Rattle.std.proofs.lemmas.List.{map-append, flat_map_more}
use Rattle.script_text.specs.declared.command.Command.{Command}
use Rattle.std.specs.Fmt.{decimal}
use Rattle.hs_types.specs.declared.ids.Side.TheVariants.{Source, Target}
use Rattle.script_text.specs.Generator.{file_path, append, create, mv, rm, snap, next, number_after, draw, draws_before, moved_to, removal, round_commands, round, dir_commands, root_commands, sync_commands, generated_commands, numbered}
use Rattle.script_text.specs.Order.{are_ordered}

-- ---- one number more

range-last : (a n j : ℕ) → a + n ≡ j → range_with_len a (suc n) ≡ range_with_len a n ++ j ∷ []
range-last a zero j e = ap (λ x. x ∷ []) (omega (arith, e))
range-last a (suc n) j e = ap (λ xs. a ∷ xs) (range-last (a + 1) n j (omega (arith, e)))

range-more : (a n j : ℕ) → a + n ≡ j → range_with_len a (n + 1) ≡ range_with_len a n ++ j ∷ []
range-more a n j e = ap (range_with_len a) (add-one n) ∙ range-last a n j e

pub map-more : {X : Type 0} (f : ℕ → X) (xs : List X) (a n j : ℕ) → a + n ≡ j → (xs ++ map f (range_with_len a n)) ++ f j ∷ [] ≡ xs ++ map f (range_with_len a (n + 1))
map-more f xs a n j e = append_assoc xs (map f (range_with_len a n)) (f j ∷ []) ∙ ap (λ ys. xs ++ ys) (sym (ap (map f) (range-more a n j e) ∙ map-append f (range_with_len a n) (j ∷ [])))

pub flat_map-more : {X : Type 0} (f : ℕ → List X) (xs : List X) (a n j : ℕ) → a + n ≡ j → (xs ++ flat_map f (range_with_len a n)) ++ f j ≡ xs ++ flat_map f (range_with_len a (n + 1))
flat_map-more f xs a n j e = flat_map_more f xs (range_with_len a n) j ∙ ap (λ ys. xs ++ flat_map f ys) (sym (range-more a n j e))

-- ---- draws

pub number-next : (seed n m : ℕ) → m ≡ n + 1 → number_after seed m ≡ next (number_after seed n)
number-next seed n m e = ap (number_after seed) (e ∙ add-one n)

-- ---- order and number

pub numbered-ordered : (line : ℕ) (said : List Command) → are_ordered 0 0 (numbered line said) ≡ true
numbered-ordered line [] = refl
numbered-ordered line (command ∷ rest) = numbered-ordered (line + 1) rest

-- the four numbers of a round follow from the one before it
drawn-1 : (seed k n : ℕ) → n ≡ number_after seed (draws_before k) → next n ≡ number_after seed (draws_before k + 1)
drawn-1 seed k n e = ap next e ∙ sym (number-next seed (draws_before k) (draws_before k + 1) refl)

drawn-2 : (seed k n : ℕ) → n ≡ number_after seed (draws_before k) → next (next n) ≡ number_after seed (draws_before k + 2)
drawn-2 seed k n e = ap next (drawn-1 seed k n e) ∙ sym (number-next seed (draws_before k + 1) (draws_before k + 2) (omega arith))

drawn-3 : (seed k n : ℕ) → n ≡ number_after seed (draws_before k) → next (next (next n)) ≡ number_after seed (draws_before k + 3)
drawn-3 seed k n e = ap next (drawn-2 seed k n e) ∙ sym (number-next seed (draws_before k + 2) (draws_before k + 3) (omega arith))

drawn-4 : (seed k n : ℕ) → n ≡ number_after seed (draws_before k) → next (next (next (next n))) ≡ number_after seed (draws_before k + 4)
drawn-4 seed k n e = ap next (drawn-3 seed k n e) ∙ sym (number-next seed (draws_before k + 3) (draws_before k + 4) (omega arith))

pub drawn-next : (seed k n m : ℕ) → 2 ≤ k → n ≡ number_after seed (draws_before k) → m ≡ next (next (next (next n))) → m ≡ number_after seed (draws_before (k + 1))
drawn-next seed k n m low at is = is ∙ drawn-4 seed k n at ∙ ap (number_after seed) (omega (arith, low))

pub moved-next : (seed dirs k n e : ℕ) → n ≡ number_after seed (draws_before k) → e ≡ next (next (next (next n))) % dirs → e ≡ moved_to seed dirs (k + 1 - 1)
moved-next seed dirs k n e at is = is ∙ ap (λ x. x % dirs) (drawn-4 seed k n at) ∙ ap (moved_to seed dirs) (omega arith)

-- ---- rounds

-- the first round takes nothing away, so it doesn't matter what was moved before it
removal-same : (k p q : ℕ) → 2 ≤ k → (2 < k → p ≡ q) → removal k p ≡ removal k q
removal-same zero p q low same = refl
removal-same (suc zero) p q low same = absurd (omega (arith, low))
removal-same (suc (suc zero)) p q low same = refl
removal-same (suc (suc (suc k))) p q low same = ap (removal (suc (suc (suc k)))) (same (omega arith))

pub round-is : (seed dirs files k n p number a b c e : ℕ)
    → 2 ≤ k → n ≡ number_after seed (draws_before k) → (2 < k → p ≡ moved_to seed dirs (k - 1))
    → number ≡ k → a ≡ next n % dirs → b ≡ next (next n) % files → c ≡ next (next (next n)) % dirs → e ≡ next (next (next (next n))) % dirs
    → round_commands number a b c e p ≡ round seed dirs files k
round-is seed dirs files k n p number a b c e low at moved is a-is b-is c-is e-is =
    let a-drawn : a ≡ draw seed (draws_before k + 1) dirs = a-is ∙ ap (λ x. x % dirs) (drawn-1 seed k n at) in
    let b-drawn : b ≡ draw seed (draws_before k + 2) files = b-is ∙ ap (λ x. x % files) (drawn-2 seed k n at) in
    let c-drawn : c ≡ draw seed (draws_before k + 3) dirs = c-is ∙ ap (λ x. x % dirs) (drawn-3 seed k n at) in
    let e-drawn : e ≡ moved_to seed dirs k = e-is ∙ ap (λ x. x % dirs) (drawn-4 seed k n at) in
    ap (λ x. round_commands x a b c e p) is
    ∙ ap (λ x. round_commands k x b c e p) a-drawn
    ∙ ap (λ x. round_commands k (draw seed (draws_before k + 1) dirs) x c e p) b-drawn
    ∙ ap (λ x. round_commands k (draw seed (draws_before k + 1) dirs) (draw seed (draws_before k + 2) files) x e p) c-drawn
    ∙ ap (λ x. round_commands k (draw seed (draws_before k + 1) dirs) (draw seed (draws_before k + 2) files) (draw seed (draws_before k + 3) dirs) x p) e-drawn
    ∙ removed k (draw seed (draws_before k + 1) dirs) (draw seed (draws_before k + 2) files) (draw seed (draws_before k + 3) dirs) (moved_to seed dirs k) p (moved_to seed dirs (k - 1)) (removal-same k p (moved_to seed dirs (k - 1)) low moved)
  where
    removed : (k a b c e p q : ℕ) → removal k p ≡ removal k q → round_commands k a b c e p ≡ round_commands k a b c e q
    removed k a b c e p q same =
        ap (λ gone. append (file_path a (codes "f") b) (decimal k) ∷ create (file_path c (codes "k") k) ∷ mv (file_path c (codes "k") k) (file_path e (codes "m") k) ∷ gone ++ snap Source k ∷ []) same

-- ---- how many

flat-most : {X : Type 0} (f : ℕ → List X) (m : ℕ) → ((k : ℕ) → length (f k) ≤ m) → (a n : ℕ) → length (flat_map f (range_with_len a n)) ≤ n * m
flat-most f m each a zero = omega arith
flat-most f m each a (suc n) =
    let one : length (f a) ≤ m = each a in
    let more : length (flat_map f (range_with_len (a + 1) n)) ≤ n * m = flat-most f m each (a + 1) n in
    let both : length (f a ++ flat_map f (range_with_len (a + 1) n)) ≡ length (f a) + length (flat_map f (range_with_len (a + 1) n)) = length-append (f a) (flat_map f (range_with_len (a + 1) n)) in
    let times : suc n * m ≡ n * m + m = grind arith in
    omega (arith, one, more, both, times)

dir-length : (files dir : ℕ) → length (dir_commands files dir) ≤ files + 1
dir-length files dir =
    let same : length (map (λ file. create (file_path dir (codes "f") file)) (range_with_len 0 files)) ≡ files = length-map-range_with_len (λ file. create (file_path dir (codes "f") file)) 0 files in
    omega (arith, same)

removal-length : (k p : ℕ) → length (removal k p) ≤ 1
removal-length k p = by (k % 2 == 1)
  where
    by : (b : Bool) → length (if b then rm (file_path p (codes "m") (k - 1)) ∷ [] else []) ≤ 1
    by true = omega arith
    by false = omega arith

round-length : (seed dirs files k : ℕ) → length (round seed dirs files k) ≤ 5
round-length seed dirs files k =
    let gone : length (removal k (moved_to seed dirs (k - 1))) ≤ 1 = removal-length k (moved_to seed dirs (k - 1)) in
    let both : length (removal k (moved_to seed dirs (k - 1)) ++ snap Source k ∷ []) ≡ length (removal k (moved_to seed dirs (k - 1))) + 1 = length-append (removal k (moved_to seed dirs (k - 1))) (snap Source k ∷ []) in
    omega (arith, gone, both)

parts-length : {X : Type 0} (a b c d e f : List X) → length (a ++ b ++ c ++ d ++ e ++ f) ≡ length a + length b + length c + length d + length e + length f
parts-length a b c d e f = grind (arith, common_steps)

pub length-generated : (seed dirs files snaps : ℕ) → 3 ≤ snaps → dirs * (files + 1) + 5 * snaps ≤ 16000000 → length (generated_commands seed dirs files snaps) ≤ 16777216
length-generated seed dirs files snaps low size =
    let in-dirs : length (flat_map (dir_commands files) (range_with_len 0 dirs)) ≤ dirs * (files + 1) = flat-most (dir_commands files) (files + 1) (dir-length files) 0 dirs in
    let in-rounds : length (flat_map (round seed dirs files) (range_with_len 2 (snaps - 2))) ≤ (snaps - 2) * 5 = flat-most (round seed dirs files) 5 (round-length seed dirs files) 2 (snaps - 2) in
    let all : length (generated_commands seed dirs files snaps) ≡ 3 + 3 + length (flat_map (dir_commands files) (range_with_len 0 dirs)) + 3 + length (flat_map (round seed dirs files) (range_with_len 2 (snaps - 2))) + 2
    = parts-length (root_commands Source) (root_commands Target) (flat_map (dir_commands files) (range_with_len 0 dirs)) (snap Source 1 ∷ sync_commands 0 1) (flat_map (round seed dirs files) (range_with_len 2 (snaps - 2))) (sync_commands 1 (snaps - 1)) in
    omega (arith, in-dirs, in-rounds, all, low, size)

-- A file that goes hands out each of its blocks once.
use Rattle.std.proofs.Common.{◌≡◌, ℕ, zero, suc, ◌+◌, ◌≤◌, Bool, true, false, cond, nat_eq, List, [], ◌∷◌, ◌++◌, length, refl, sym, ap, ◌∙◌, arith}
use Rattle.std.specs.Prelude.{not, ◌||◌, filter, remove}
use Rattle.std.specs.List.{list_any}
use Rattle.std.proofs.lemmas.Bool.Decides.{Decides-eqb}
use Rattle.hs_types.specs.declared.ids.BlockId.{BlockId}
use Rattle.file_changes.specs.declared.state.FileRecord.{FileRecord}
use Rattle.file_changes.specs.History as files
use Rattle.file_changes.specs.History.{FileHistory, state_has, blocks_at, only_at, names}
use Rattle.dir_changes.specs.Counts.{one_where}
use Rattle.inode_table.specs.RowHistory.{File}
use Rattle.inode_table.specs.Released.{blocks_below, blocks_in, times_block, AreApart}

abbrev has_block : BlockId → List BlockId → Bool
has_block block blocks = list_any (λ other. nat_eq other.0 block.0) blocks

times-append : (block : BlockId) (a b : List BlockId) → times_block block (a ++ b) ≡ times_block block a + times_block block b
times-append block [] b = omega arith
times-append block (x ∷ a) b = let rest = times-append block a b in omega (arith, rest)

-- a list without repeats
once : (block : BlockId) (blocks : List BlockId) → times_block block blocks ≤ 1 → times_block block blocks ≡ one_where (list_any (λ other. nat_eq other.0 block.0) blocks)
once block [] le = refl
once block (x ∷ blocks) le = by (nat_eq x.0 block.0) le (once block blocks)
  where
    by : (b : Bool) → one_where b + times_block block blocks ≤ 1 → (times_block block blocks ≤ 1 → times_block block blocks ≡ one_where (list_any (λ other. nat_eq other.0 block.0) blocks)) → one_where b + times_block block blocks ≡ one_where (b || list_any (λ other. nat_eq other.0 block.0) blocks)
    by true few rest = omega (arith, few)
    by false few rest = let same = rest (omega (arith, few)) in omega (arith, same)

-- a filter that looks at numbers alone
filtered : (test : BlockId → Bool) (block : BlockId) (blocks : List BlockId) → times_block block (filter test blocks) ≡ cond (test block) (times_block block blocks) 0
filtered test block [] = elim (test block) as (λ b. times_block block [] ≡ cond b (times_block block []) 0) [ true ↦ refl | false ↦ refl ]
filtered test block (x ∷ blocks) = by (nat_eq x.0 block.0) refl (test x) refl (test block) refl (filtered test block blocks)
  where
    same_test : nat_eq x.0 block.0 ≡ true → test x ≡ test block
    same_test e = ap test (ap (λ (n : ℕ). record { 0 = n }) ((Decides-eqb x.0 block.0).0 e))

    by : (b : Bool) → nat_eq x.0 block.0 ≡ b → (p : Bool) → test x ≡ p → (q : Bool) → test block ≡ q → times_block block (filter test blocks) ≡ cond (test block) (times_block block blocks) 0
        → times_block block (cond (test x) (x ∷ filter test blocks) (filter test blocks)) ≡ cond (test block) (one_where (nat_eq x.0 block.0) + times_block block blocks) 0
    by true e true h true k rest = rw (h, k) (let r : times_block block (filter test blocks) ≡ times_block block blocks = rw k at rest in ap (λ n. one_where (nat_eq x.0 block.0) + n) r)
    by true e true h false k rest = absurd (let clash : true ≡ false = sym h ∙ same_test e ∙ k in cc)
    by true e false h true k rest = absurd (let clash : false ≡ true = sym h ∙ same_test e ∙ k in cc)
    by true e false h false k rest = rw (h, k) (rw k at rest)
    by false e true h true k rest = rw (h, k) (let r : times_block block (filter test blocks) ≡ times_block block blocks = rw k at rest in ap (λ n. one_where (nat_eq x.0 block.0) + n) r)
    by false e true h false k rest = rw (h, k) (let r : times_block block (filter test blocks) ≡ 0 = rw k at rest in let none = ap one_where e in omega (arith, r, none))
    by false e false h true k rest = rw (h, k) (let r : times_block block (filter test blocks) ≡ times_block block blocks = rw k at rest in let none = ap one_where e in omega (arith, r, none))
    by false e false h false k rest = rw (h, k) (rw k at rest)

-- ---- which blocks states name

or_comm : (a b : Bool) → (a || b) ≡ (b || a)
or_comm true true = refl
or_comm true false = refl
or_comm false true = refl
or_comm false false = refl

or_move : (a b c : Bool) → (a || (b || c)) ≡ ((a || b) || c)
or_move true b c = refl
or_move false b c = refl

or_none : (a : Bool) → a ≡ (a || false)
or_none true = refl
or_none false = refl

recorded : (block : BlockId) (rs : List FileRecord) (i : ℕ) → list_any (λ r. state_has block r.state) rs ≡ (list_any (λ r. state_has block r.state) (remove rs i) || has_block block (blocks_at rs i))
recorded block [] zero = refl
recorded block [] (suc i) = refl
recorded block (r ∷ rs) zero = or_comm (state_has block r.state) (list_any (λ q. state_has block q.state) rs)
recorded block (r ∷ rs) (suc i) = ap (λ b. state_has block r.state || b) (recorded block rs i) ∙ or_move (state_has block r.state) (list_any (λ q. state_has block q.state) (remove rs i)) (has_block block (blocks_at rs i))

named_removed : (block : BlockId) (i : ℕ) (file : FileHistory) → names file block ≡ (names (files.without_record i file) block || has_block block (blocks_at file.records i))
named_removed block i file = ap (λ b. state_has block file.current || b) (recorded block file.records i) ∙ or_move (state_has block file.current) (list_any (λ q. state_has block q.state) (remove file.records i)) (has_block block (blocks_at file.records i))

saved_removed : (P : List BlockId → Type 0) (rs : List FileRecord) → ((i : ℕ) → P (blocks_at rs i)) → (n i : ℕ) → P (blocks_at (remove rs n) i)
saved_removed P [] all zero i = all i
saved_removed P [] all (suc n) i = all i
saved_removed P (r ∷ rs) all zero i = all (suc i)
saved_removed P (r ∷ rs) all (suc n) zero = all zero
saved_removed P (r ∷ rs) all (suc n) (suc i) = saved_removed P rs (λ j. all (suc j)) n i

apart_removed : (n : ℕ) (file : FileHistory) → AreApart file → AreApart (files.without_record n file)
apart_removed n file are = record {
  current = are.current;
  saved = λ i block. saved_removed (λ (blocks : List BlockId). times_block block blocks ≤ 1) file.records (λ j. are.saved j block) n i;
}

length_removed : (rs : List FileRecord) (n : ℕ) → suc n ≡ length rs → n ≡ length (remove rs n)
length_removed [] n is = absurd (omega (arith, is))
length_removed (r ∷ rs) zero is = omega (arith, is)
length_removed (r ∷ rs) (suc n) is = let rest = length_removed rs n (omega (arith, is)) in omega (arith, rest)

base : (block : BlockId) (blocks : List BlockId) (rs : List FileRecord) → 0 ≡ length rs → times_block block blocks ≤ 1 → times_block block blocks ≡ one_where (has_block block blocks || list_any (λ r. state_has block r.state) rs)
base block blocks [] is le = once block blocks le ∙ ap one_where (or_none (has_block block blocks))
base block blocks (r ∷ rs) is le = absurd (omega (arith, is))

both_parts : (test has : Bool) (only below : ℕ) → only ≡ cond (not test) (one_where has) 0 → below ≡ one_where test → only + below ≡ one_where (test || has)
both_parts true has only below o b = omega (arith, o, b)
both_parts false has only below o b = omega (arith, o, b)

below_once : (n : ℕ) (file : FileHistory) (block : BlockId) → n ≡ length file.records → AreApart file → times_block block (blocks_below n file) ≡ one_where (names file block)
below_once zero file block is are = base block file.current.blocks file.records is (are.current block)
below_once (suc n) file block is are =
    times-append block (only_at n file) (blocks_below n (files.without_record n file))
    ∙ both_parts (names (files.without_record n file) block) (has_block block (blocks_at file.records n)) (times_block block (only_at n file)) (times_block block (blocks_below n (files.without_record n file)))
    (filtered (λ b. not (names (files.without_record n file) b)) block (blocks_at file.records n) ∙ ap (λ k. cond (not (names (files.without_record n file) block)) k 0) (once block (blocks_at file.records n) (are.saved n block)))
    (below_once n (files.without_record n file) block (length_removed file.records n is) (apart_removed n file are))
    ∙ sym (ap one_where (named_removed block n file))

pub blocks-once : (file : FileHistory) (block : BlockId) → AreApart file → times_block block (blocks_in (File file)) ≡ one_where (names file block)
blocks-once file block are = below_once (length file.records) file block refl are

-- The index as an entry is put in, and what it finds.
use Rattle.std.proofs.Common.{◌≡◌, ℕ, zero, suc, ◌+◌, ◌-◌, ◌*◌, ◌<◌, ◌≤◌, Bool, true, false, cond, List, [], ◌∷◌, map, filter, length, get_or, Some, None, is_some, refl, sym, ap, subst, ◌∙◌, arith}
use Rattle.std.specs.Prelude.{◌==◌, ◌&&◌, nat_lt, nat_le}
use Rattle.std.specs.List.{Contains}
use Rattle.std.specs.Option.{option_map}
use Rattle.std.proofs.lemmas.Bool.Decides.{nat_tests}
use Rattle.hs_types.specs.declared.ids.InodeId.{InodeId}
use Rattle.hs_plain.specs.declared.state.Member.{Member}
use Rattle.hs_plain.specs.declared.state.FileBlocks.{FileBlocks}
use Rattle.hs_plain.proofs.ValidTrees.{both}
use Rattle.hs_plain.proofs.ValidShapes.{none_some, true_false}
use Rattle.dir_changes.specs.Counts.{one_where}
use Rattle.inode_table.specs.declared.noted.Noted.{Noted}
use Rattle.inode_table.specs.Indexed.{Index, IsRising, noted, is_between, is_there, made_between}
use Rattle.inode_table.specs.RowHistory.{RowHistory, RowState, Table, row_at, rows_at}
use Rattle.inode_table.specs.Whole.{AreRecords, numbers_in, IsFilled, noted_at}
use Rattle.table_laws.proofs.RecordElements.{at_head, at_later, by_first, not_empty, in_map, in_filter}

-- ---- entries

pub noted-kept : (tick : ℕ) (id : InodeId) (index : Index) (e : Noted) → Contains index e → Contains (noted tick id index) e
noted-kept tick id [] e c = not_empty e c
noted-kept tick id (x ∷ xs) e c = elim (nat_le x.tick tick) as (λ b. Contains (cond b (x ∷ noted tick id xs) (record { tick = tick; id = id } ∷ x ∷ xs)) e) [
  | true ↦ by_first x xs e c (λ same. subst (λ (y : Noted). Contains (x ∷ noted tick id xs) y) same (at_head x (noted tick id xs))) (λ k. at_later x (noted tick id xs) e (noted-kept tick id xs e k))
  | false ↦ at_later (record { tick = tick; id = id }) (x ∷ xs) e c
]

pub noted-here : (tick : ℕ) (id : InodeId) (index : Index) → Contains (noted tick id index) (record { tick = tick; id = id })
noted-here tick id [] = at_head (record { tick = tick; id = id }) []
noted-here tick id (x ∷ xs) = elim (nat_le x.tick tick) as (λ b. Contains {X = Noted} (cond b (x ∷ noted tick id xs) (record { tick = tick; id = id } ∷ x ∷ xs)) (record { tick = tick; id = id })) [
  | true ↦ at_later x (noted tick id xs) (record { tick = tick; id = id }) (noted-here tick id xs)
  | false ↦ at_head (record { tick = tick; id = id }) (x ∷ xs)
]

-- an entry was there, or is the new one
pub by_noted : {P : Type 0} (tick : ℕ) (id : InodeId) (index : Index) (e : Noted) → Contains (noted tick id index) e → (Contains index e → P) → (tick ≡ e.tick → P) → P
by_noted tick id [] e c was new = by_first (record { tick = tick; id = id }) [] e c (λ same. new (ap (λ (y : Noted). y.tick) same)) (λ k. not_empty e k)
by_noted {P} tick id (x ∷ xs) e c was new = elim (nat_le x.tick tick) as (λ b. Contains (cond b (x ∷ noted tick id xs) (record { tick = tick; id = id } ∷ x ∷ xs)) e → P) [
  | true ↦ λ k. by_first x (noted tick id xs) e k
      (λ same. was (subst (λ (y : Noted). Contains (x ∷ xs) y) same (at_head x xs)))
      (λ l. by_noted tick id xs e l (λ h. was (at_later x xs e h)) new)
  | false ↦ λ k. by_first (record { tick = tick; id = id }) (x ∷ xs) e k (λ same. new (ap (λ (y : Noted). y.tick) same)) was
] c

-- ---- order

rising-cons : (x : Noted) (xs : Index) → ((e : Noted) → Contains xs e → x.tick ≤ e.tick) → IsRising xs → IsRising (x ∷ xs)
rising-cons x xs least up zero zero d le lt = omega arith
rising-cons x xs least up zero (suc j) d le lt = least (get_or xs j d) (j, omega (arith, lt), same xs j (omega (arith, lt)))
  where
    same : (ys : Index) (i : ℕ) → i < length ys → get_or ys i (get_or xs j d) ≡ get_or ys i d
    same [] i within = absurd (omega (arith, within))
    same (y ∷ ys) zero within = refl
    same (y ∷ ys) (suc i) within = same ys i (omega (arith, within))
rising-cons x xs least up (suc i) zero d le lt = absurd (omega (arith, le))
rising-cons x xs least up (suc i) (suc j) d le lt = up i j d (omega (arith, le)) (omega (arith, lt))

rising-tail : (x : Noted) (xs : Index) → IsRising (x ∷ xs) → IsRising xs
rising-tail x xs up i j d le lt = up (suc i) (suc j) d (omega (arith, le)) (omega (arith, lt))

rising-head : (x : Noted) (xs : Index) → IsRising (x ∷ xs) → (e : Noted) → Contains xs e → x.tick ≤ e.tick
rising-head x xs up e c = subst (λ (y : Noted). x.tick ≤ y.tick) c.2 (up 0 (suc c.0) e (omega arith) (let lt = c.1 in omega (arith, lt)))

pub rising-noted : (tick : ℕ) (id : InodeId) (index : Index) → IsRising index → IsRising (noted tick id index)
rising-noted tick id [] up = rising-cons (record { tick = tick; id = id }) [] (λ e c. not_empty e c) up
rising-noted tick id (x ∷ xs) up = elim (nat_le x.tick tick) as (λ b. nat_le x.tick tick ≡ b → IsRising (cond b (x ∷ noted tick id xs) (record { tick = tick; id = id } ∷ x ∷ xs))) [
  | true ↦ λ t. let le : x.tick ≤ tick = grind (arith, nat_tests, t) in
      rising-cons x (noted tick id xs) (λ e c. by_noted tick id xs e c (λ k. rising-head x xs up e k) (λ same. omega (arith, le, same))) (rising-noted tick id xs (rising-tail x xs up))
  | false ↦ λ t. let le : tick ≤ x.tick = grind (arith, nat_tests, t) in
      rising-cons (record { tick = tick; id = id }) (x ∷ xs) (λ e c. by_first x xs e c (λ same. let tied = ap (λ (y : Noted). y.tick) same in omega (arith, le, tied)) (λ k. let more = rising-head x xs up e k in omega (arith, le, more))) up
] refl

-- ---- how many

noted_at-noted : (other tick : ℕ) (id : InodeId) (index : Index) → noted_at other (noted tick id index) ≡ one_where (tick == other) + noted_at other index
noted_at-noted other tick id [] = refl
noted_at-noted other tick id (x ∷ xs) = elim (nat_le x.tick tick) as (λ b. noted_at other (cond b (x ∷ noted tick id xs) (record { tick = tick; id = id } ∷ x ∷ xs)) ≡ one_where (tick == other) + noted_at other (x ∷ xs)) [
  | true ↦ let rest = noted_at-noted other tick id xs in omega (arith, rest)
  | false ↦ refl
]

one_most : (b : Bool) → one_where b ≤ 1
one_most true = omega arith
one_most false = omega arith

-- at other ticks there are as many as before
other_tick : (tick other : ℕ) → (tick == other) ≡ true → tick ≡ other
other_tick tick other t = grind (arith, nat_tests, t)

pub filled-noted : (index : Index) (tick used : ℕ) (id : InodeId) → 0 < tick → used < 3 → IsFilled index tick used → IsFilled (noted tick id index) tick (used + 1)
filled-noted index tick used id some lt f = record {
  first = λ e c. by_noted tick id index e c (λ k. f.first e k) (λ same. omega (arith, same, some));
  upto = λ e c. by_noted tick id index e c (λ k. f.upto e k) (λ same. omega (arith, same));
  few = λ other. let sum = noted_at-noted other tick id index in elim (tick == other) as (λ b. (tick == other) ≡ b → noted_at other (noted tick id index) ≡ one_where b + noted_at other index → noted_at other (noted tick id index) ≤ 3) [
    | true ↦ λ t all. let now = f.now in let same = ap (λ n. noted_at n index) (other_tick tick other t) in omega (arith, all, now, same, lt)
    | false ↦ λ t all. let most = f.few other in omega (arith, all, most)
  ] refl sum;
  now = let sum = noted_at-noted tick tick id index in let one = one_most (tick == tick) in let now = f.now in omega (arith, sum, one, now);
}

none_above : (tick : ℕ) (index : Index) → ((e : Noted) → Contains index e → e.tick ≤ tick) → noted_at (tick + 1) index ≡ 0
none_above tick [] upto = refl
none_above tick (x ∷ xs) upto =
    let rest = none_above tick xs (λ e c. upto e (at_later x xs e c)) in
    let le = upto x (at_head x xs) in
    let no : (x.tick == (tick + 1)) ≡ false = grind (arith, nat_tests, le) in
    let none = ap one_where no in omega (arith, rest, none)

pub filled-next : (index : Index) (tick used : ℕ) → IsFilled index tick used → IsFilled index (tick + 1) 0
filled-next index tick used f = record {
  first = f.first;
  upto = λ e c. let le = f.upto e c in omega (arith, le);
  few = f.few;
  now = let none = none_above tick index f.upto in omega (arith, none);
}

pub filled-more : (index : Index) (tick used most : ℕ) → used ≤ most → IsFilled index tick used → IsFilled index tick most
filled-more index tick used most le f = record { first = f.first; upto = f.upto; few = f.few; now = let now = f.now in omega (arith, now, le) }

-- ---- what is found

row_there : (table : Table) (id : InodeId) (rows : RowHistory) → rows_at table id ≡ Some rows → is_some (row_at table id) ≡ true
row_there table id rows h = elim (row_at table id) as (λ o. option_map (λ (r : RowState). r.rows) o ≡ Some rows → is_some o ≡ true) [
  | None ↦ λ k. absurd (none_some k)
  | Some r ↦ λ _. refl
] h

pub found-between : (table : Table) (index : Index) (low high : ℕ) (id : InodeId) (rows : RowHistory) (e : Noted) → rows_at table id ≡ Some rows → Contains index e → e.id ≡ id → low < e.tick → e.tick ≤ high → Contains (made_between low high table index) id
found-between table index low high id rows e there c is above upto =
    let a : nat_lt low e.tick ≡ true = grind (arith, nat_tests, above) in
    let b : nat_le e.tick high ≡ true = grind (arith, nat_tests, upto) in
    let within : Contains (filter (is_between low high) index) e = in_filter (is_between low high) index e c (both a b) in
    let has : is_there table e ≡ true = ap (λ i. is_some (row_at table i)) is ∙ row_there table id rows there in
    let named = in_map (λ (x : Noted). x.id) (filter (is_there table) (filter (is_between low high) index)) e (in_filter (is_there table) (filter (is_between low high) index) e within has) in
    subst (λ (i : InodeId). Contains (made_between low high table index) i) is named

pub merged-found : (table : Table) (index : Index) (members : List (Member FileBlocks)) (issued tick used : ℕ) (m : Member FileBlocks) (id : InodeId) (rows : RowHistory) (number : ℕ)
    → AreRecords table index members issued → IsFilled index tick used → Contains members m → rows_at table id ≡ Some rows → Contains (numbers_in rows) number → m.snapshot.0 ≤ number
    → Contains (made_between m.tick tick table index) id
merged-found table index members issued tick used m id rows number are filled is_m there has le =
    let i = are.indexed id rows number there has in
    found-between table index m.tick tick id rows (record { tick = i.tick; id = id }) there i.named refl (i.after m is_m le) (filled.upto (record { tick = i.tick; id = id }) i.named)

-- ---- how many are found

length_filter : {X : Type 0} (test : X → Bool) (xs : List X) → length (filter test xs) ≤ length xs
length_filter test [] = omega arith
length_filter test (x ∷ xs) = let rest = length_filter test xs in elim (test x) as (λ b. length (cond b (x ∷ filter test xs) (filter test xs)) ≤ length (x ∷ xs)) [ true ↦ omega (arith, rest) | false ↦ omega (arith, rest) ]

length_map : {X Y : Type 0} (f : X → Y) (xs : List X) → length (map f xs) ≡ length xs
length_map f [] = refl
length_map f (x ∷ xs) = let rest = length_map f xs in omega (arith, rest)

-- one tick more: by whether an entry is counted with it, without it, and at it
one_step : (a b c : Bool) (x : Noted) (later sooner : Index) (more : ℕ) → (a ≡ true → b ≡ false → c ≡ true) → length later ≤ length sooner + more
    → length (cond a (x ∷ later) later) ≤ length (cond b (x ∷ sooner) sooner) + (one_where c + more)
one_step false true c x later sooner more so rest = omega (arith, rest)
one_step false false c x later sooner more so rest = omega (arith, rest)
one_step true true c x later sooner more so rest = omega (arith, rest)
one_step true false true x later sooner more so rest = omega (arith, rest)
one_step true false false x later sooner more so rest = absurd (true_false (so refl refl) refl)

at_last : (low n tick : ℕ) → (nat_lt low tick && nat_le tick (low + (n + 1))) ≡ true → (nat_lt low tick && nat_le tick (low + n)) ≡ false → (tick == (low + (n + 1))) ≡ true
at_last low n tick p q = grind (arith, nat_tests, p, q)

one_more : (low n : ℕ) (index : Index) → length (filter (is_between low (low + (n + 1))) index) ≤ length (filter (is_between low (low + n)) index) + noted_at (low + (n + 1)) index
one_more low n [] = omega arith
one_more low n (x ∷ xs) = one_step (is_between low (low + (n + 1)) x) (is_between low (low + n) x) (x.tick == (low + (n + 1))) x (filter (is_between low (low + (n + 1))) xs) (filter (is_between low (low + n)) xs) (noted_at (low + (n + 1)) xs)
    (at_last low n x.tick) (one_more low n xs)

few_from : (index : Index) (low n : ℕ) → ((tick : ℕ) → noted_at tick index ≤ 3) → length (filter (is_between low (low + n)) index) ≤ 3 * n
few_from index low zero few = none index
  where
    none : (xs : Index) → length (filter (is_between low (low + 0)) xs) ≤ 0
    none [] = omega arith
    none (x ∷ xs) = let no : is_between low (low + 0) x ≡ false = grind (arith, nat_tests) in
        subst (λ b. length (cond b (x ∷ filter (is_between low (low + 0)) xs) (filter (is_between low (low + 0)) xs)) ≤ 0) (sym no) (none xs)
few_from index low (suc n) few =
    let rest = few_from index low n few in
    let step = one_more low n index in
    let most = few (low + (n + 1)) in
    subst (λ k. length (filter (is_between low (low + k)) index) ≤ 3 * k) {x = n + 1} {y = suc n} (omega arith) (omega (arith, rest, step, most))

pub few-between : (table : Table) (index : Index) (tick used low high : ℕ) → IsFilled index tick used → low ≤ high → length (made_between low high table index) ≤ 3 * (high - low)
few-between table index tick used low high filled le =
    let all = few_from index low (high - low) filled.few in
    let same = ap (λ h. length (filter (is_between low h) index)) {x = low + (high - low)} {y = high} (omega (arith, le)) in
    let fewer = length_filter (is_there table) (filter (is_between low high) index) in
    let long = length_map (λ (e : Noted). e.id) (filter (is_there table) (filter (is_between low high) index)) in
    omega (arith, all, same, fewer, long)

-- What a page of a later call shows: what an earlier one saw, unless its snapshot is gone.
use Rattle.std.proofs.Common.{◌≡◌, ◌⊎◌, inl, inr, ℕ, zero, suc, ◌+◌, ◌-◌, ◌≤◌, nat_lt, nat_le, not, Bool, true, false, cond, ◌&&◌, ◌||◌, ◌==◌, Some, Ok, Err, List, [], ◌∷◌, ◌++◌, take, drop, slice_get, refl, ap, sym, ◌∙◌, arith}
use Rattle.std.specs.List.{AllByRecursion, list_all}
use Rattle.std.proofs.lemmas.Bool.Decides.{nat_tests}
use Rattle.hs_types.specs.declared.ids.CallerId.{CallerId}
use Rattle.hs_types.specs.declared.ids.InodeId.{InodeId}
use Rattle.hs_types.specs.declared.ids.SnapId.{SnapId}
use Rattle.hs_types.specs.declared.call.Place.TheVariants as places
use Rattle.hs_types.specs.declared.journal.EntryKind.TheVariants.{Accepted, Faulted}
use Rattle.hs_types.specs.declared.journal.Entry.{Entry}
use Rattle.hs_types.specs.declared.refusal.Refusal.{Refusal}
use Rattle.hs_types.specs.declared.reply.Reply.{Reply}
use Rattle.hs_types.specs.declared.reply.Reply.TheVariants as replies
use Rattle.hs_plain.specs.declared.state.Member.{Member}
use Rattle.hs_plain.specs.declared.state.State.{State}
use Rattle.hs_plain.specs.Asked.{Asked, ◌>>=◌}
use Rattle.hs_plain.specs.Files.{plain_files}
use Rattle.hs_plain.specs.Tree.{Tree}
use Rattle.hs_plain.specs.State.{start, member_with}
use Rattle.hs_plain.specs.Reading.{is_live, is_gone}
use Rattle.hs_plain.specs.Answer.{Origin, machine, store, limit, memory, origin_of, answer, is_plain_reply, is_store_fault, is_journal_full, is_modifying, uses_store, is_exclusive, is_ok_reply, blanked, claimed}
use Rattle.hs_plain.specs.Change.{after}
use Rattle.hs_plain.specs.Replay.{replay_from, plain_after, fits_kind, proper_from, is_proper, may_follow}
use Rattle.hs_plain.specs.Legal.{Said, IsLegalCall, leaves_entry, entry_of, reach_of, places_rise}
use Rattle.hs_plain.specs.Frozen.{unnamed, IsAmong}
use Rattle.hs_plain.specs.Joined.{known_state}
use Rattle.hs_plain.proofs.Facts.{some_of, none_some, okay, ok_of}
use Rattle.hs_plain.proofs.ValidTrees as tests
use Rattle.hs_plain.proofs.ValidShapes.{true_false}
use Rattle.hs_plain.proofs.Frozen.{frozen-stays, ids-issued}

-- ---- journals

pub replay-append : (state : State (List ℕ)) (xs ys : List Entry) → replay_from plain_files state (xs ++ ys) ≡ replay_from plain_files (replay_from plain_files state xs) ys
replay-append state [] ys = refl
replay-append state (x ∷ xs) ys = replay-append (after plain_files state x) xs ys

take_nil : (k : ℕ) → take {A = Entry} k [] ≡ []
take_nil zero = refl
take_nil (suc k) = refl

take-split : (n m : ℕ) (xs : List Entry) → n ≤ m → take m xs ≡ take n xs ++ take (m - n) (drop n xs)
take-split zero m xs le = ap (λ k. take k xs) {x = m} {y = m - 0} (omega arith)
take-split (suc n) zero xs le = absurd (omega (arith, le))
take-split (suc n) (suc m) [] le = sym (take_nil (suc m - suc n))
take-split (suc n) (suc m) (x ∷ xs) le =
    ap (λ (ys : List Entry). x ∷ ys) (take-split n m xs (omega (arith, le)) ∙ ap (λ k. take n xs ++ take k (drop n xs)) {x = m - n} {y = suc m - suc n} (omega arith))

-- the state that a later answer knows comes by entries from the one that an earlier answer knows
pub state_later : (journal : List Entry) (n m : ℕ) → n ≤ m → plain_after (take m journal) ≡ replay_from plain_files (plain_after (take n journal)) (take (m - n) (drop n journal))
state_later journal n m le = ap plain_after (take-split n m journal le) ∙ replay-append start (take n journal) (take (m - n) (drop n journal))

-- the entry at a place of a proper journal is of a call of its kind
fits_at : (state : State (List ℕ)) (journal : List Entry) (i : ℕ) (entry : Entry) → proper_from state journal ≡ true → slice_get journal i ≡ Some entry → fits_kind entry.kind entry.call ≡ true
fits_at state [] i entry proper there = absurd (none_some entry there)
fits_at state (e ∷ journal) zero entry proper there =
    ap (λ (e : Entry). fits_kind e.kind e.call) (sym (some_of e entry there)) ∙ tests.first (fits_kind e.kind e.call) (is_ok_reply (answer state e.call)) (tests.first (may_follow state e) (proper_from (after plain_files state e) journal) proper)
fits_at state (e ∷ journal) (suc i) entry proper there = fits_at (after plain_files state e) journal i entry (tests.second (may_follow state e) (proper_from (after plain_files state e) journal) proper) there

-- ---- frozen places

-- what is asked after another thing gave something
pub record IsGiven {X Y : Type 0} (asked : Asked X) (next : X → Asked Y) (y : Y) : Type 0 where
  pub x : X
  pub gave : asked ≡ Ok x
  pub then : next x ≡ Ok y

pub given : {X Y : Type 0} (asked : Asked X) (next : X → Asked Y) (y : Y) → (asked >>= next) ≡ Ok y → IsGiven asked next y
given (Ok x) next y e = record { x = x; gave = refl; then = e }
given (Err why) next y e = absurd (cc)

abbrev pub is_found : {X : Type 0} → Asked X → Bool
is_found (Ok x) = true
is_found (Err why) = false

pub live-found : {B : Type 0} (ms : List (Member B)) (snapshot : SnapId) → is_live ms snapshot ≡ is_found (member_with ms snapshot)
live-found [] snapshot = refl
live-found (m ∷ ms) snapshot =
    elim (m.snapshot.0 == snapshot.0) as (λ b. (b || is_live ms snapshot) ≡ is_found (cond b (Ok m) (member_with ms snapshot))) [
      | true ↦ refl
      | false ↦ live-found ms snapshot
    ]

-- what holds of each snapshot holds of the one with an id
pub with_all : {B : Type 0} (p : Member B → Bool) (ms : List (Member B)) (snapshot : SnapId) (m : Member B) → list_all p ms ≡ true → member_with ms snapshot ≡ Ok m → p m ≡ true
with_all p [] snapshot m all there = absurd (cc)
with_all p (n ∷ ms) snapshot m all there =
    elim (n.snapshot.0 == snapshot.0) as (λ b. cond b (okay n) (member_with ms snapshot) ≡ okay m → p m ≡ true) [
      | true ↦ λ e. ap p (sym (ok_of n m e)) ∙ tests.first (p n) (list_all p ms) all
      | false ↦ λ e. with_all p ms snapshot m (tests.second (p n) (list_all p ms) all) e
    ] there

pub not_zero : (s next : ℕ) → (nat_lt 0 s && nat_lt s next) ≡ true → (s == 0) ≡ false
not_zero s next issued = grind (arith, nat_tests)

-- a snapshot of a later state was there earlier with this tree
pub record WasThere (now : State (List ℕ)) (snapshot : SnapId) (earlier later : Member (List ℕ)) : Type 0 where
  pub same : unnamed earlier ≡ unnamed later

pub was_there : (journal : List Entry) (n m : ℕ) (snapshot : SnapId) (earlier later : Member (List ℕ)) → n ≤ m →
    member_with (plain_after (take n journal)).members snapshot ≡ Ok earlier → member_with (plain_after (take m journal)).members snapshot ≡ Ok later → unnamed earlier ≡ unnamed later
was_there journal n m snapshot earlier later le was is =
    let among : IsAmong (plain_after (take n journal)).members snapshot later =
    frozen-stays plain_files (plain_after (take n journal)) (take (m - n) (drop n journal)) snapshot later (ids-issued plain_files (take n journal) snapshot earlier was)
    (ap (λ (s : State (List ℕ)). member_with s.members snapshot) (sym (state_later journal n m le)) ∙ is) in
    ap unnamed (ok_of earlier among.there (sym was ∙ among.found)) ∙ among.same

-- what a cursor into a frozen place is answered: the same as before, or Gone
pub record Keeps {Y : Type 0} (f : Tree (List ℕ) → Asked Y) (state : State (List ℕ)) (id : InodeId) (snapshot : SnapId) (y : Y) : Type 0 where
  pub gone_or_same : (is_gone state (places.Frozen id snapshot) ≡ true) ⊎ ((is_gone state (places.Frozen id snapshot) ≡ false) × ((member_with state.members snapshot >>= λ m. f m.tree) ≡ Ok y))

module _ {Y : Type 0} (f : Tree (List ℕ) → Asked Y) where
  keeps-by : (later : State (List ℕ)) (id : InodeId) (snapshot : SnapId) (y : Y) → (snapshot.0 == 0) ≡ false → (found : Asked (Member (List ℕ))) → member_with later.members snapshot ≡ found →
      ((m : Member (List ℕ)) → member_with later.members snapshot ≡ Ok m → f m.tree ≡ Ok y) → Keeps f later id snapshot y
  keeps-by later id snapshot y nonzero (Ok m) there same = record {
    gone_or_same = inr (
      ap (λ b. not b && not (is_live later.members snapshot)) nonzero ∙ ap not (live-found later.members snapshot ∙ ap is_found there),
      ap (λ (a : Asked (Member (List ℕ))). a >>= λ m. f m.tree) there ∙ same m there,
    );
  }
  keeps-by later id snapshot y nonzero (Err why) there same = record {
    gone_or_same = inl (ap (λ b. not b && not (is_live later.members snapshot)) nonzero ∙ ap not (live-found later.members snapshot ∙ ap is_found there));
  }

  pub keeps : (journal : List Entry) (n m : ℕ) (id : InodeId) (snapshot : SnapId) (y : Y) → n ≤ m →
      (member_with (plain_after (take n journal)).members snapshot >>= λ m. f m.tree) ≡ Ok y → Keeps f (plain_after (take m journal)) id snapshot y
  keeps journal n m id snapshot y le was =
      let now : State (List ℕ) = plain_after (take n journal) in
      let later : State (List ℕ) = plain_after (take m journal) in
      let earlier : IsGiven (member_with now.members snapshot) (λ m. f m.tree) y = given (member_with now.members snapshot) (λ m. f m.tree) y was in
      keeps-by later id snapshot y (not_zero snapshot.0 now.next_snapshot (ids-issued plain_files (take n journal) snapshot earlier.x earlier.gave)) (member_with later.members snapshot) refl
      (λ there is. ap (λ (m : Member (List ℕ)). f m.tree) (sym (was_there journal n m snapshot earlier.x there le earlier.gave is)) ∙ earlier.then)

-- ---- answers

-- what is seen of a reply and not of its bytes
pub observed : {X : Type 0} (f : Reply → X) → ((reply : Reply) → f (blanked reply) ≡ f reply) → (tells : Bool) (a b : Reply) → claimed tells a ≡ claimed tells b → f a ≡ f b
observed f same true a b e = ap f e
observed f same false a b e = sym (same a) ∙ ap f e ∙ same b

no_memory_is : (reply : Reply) → origin_of reply ≡ memory → reply ≡ replies.NoMemory
no_memory_is replies.NoMemory e = refl
no_memory_is (replies.Refused why) e = absurd (other why e)
  where
    other : (why : Refusal) → Rattle.hs_plain.specs.Answer.origin_of_refusal why ≡ memory → ⊥
    other Rattle.hs_types.specs.declared.refusal.Refusal.TheVariants.StoreFault e = cc
    other Rattle.hs_types.specs.declared.refusal.Refusal.TheVariants.JournalFull e = cc
    other why e = cc
no_memory_is reply e = absurd (cc)

-- a call that changes nothing and uses no store is answered plainly, or NoMemory
pub shared_reply : (tells : Bool) (most : ℕ) (journal : List Entry) (caller : CallerId) (said : Said) → is_proper journal ≡ true → IsLegalCall tells most journal caller said.seq said.call said.told → is_modifying said.call ≡ false → uses_store said.call ≡ false →
    (claimed tells said.told.reply ≡ claimed tells (answer (known_state journal said) said.call)) ⊎ (said.told.reply ≡ replies.NoMemory)
shared_reply tells most journal caller said proper legal modifies_none stores_none = by (origin_of said.told.reply) refl
  where
    kind_fault : (b : Bool) → b ≡ true → cond b Faulted Accepted ≡ Faulted
    kind_fault b e = ap (λ b. cond b Faulted Accepted) e

    by : (o : Origin) → origin_of said.told.reply ≡ o → (claimed tells said.told.reply ≡ claimed tells (answer (known_state journal said) said.call)) ⊎ (said.told.reply ≡ replies.NoMemory)
    by machine is = inl (legal.answered (ap Rattle.hs_plain.specs.Answer.is_machine is))
    by store is =
        let fault : is_store_fault said.told.reply ≡ true = ap Rattle.hs_plain.specs.Answer.is_store is in
        absurd (true_false (fits_at start journal said.told.position (entry_of caller said.seq said.call said.told.reply) proper (legal.entered (ap (λ b. b || (is_modifying said.call && is_ok_reply said.told.reply)) fault)))
        (ap (λ k. fits_kind k said.call) (kind_fault (is_store_fault said.told.reply) fault) ∙ stores_none))
    by limit is = absurd (true_false (legal.full (ap Rattle.hs_plain.specs.Answer.is_limit is)).exclusive (ap (λ b. b || uses_store said.call) modifies_none ∙ stores_none))
    by memory is = inr (no_memory_is said.told.reply is)

-- ---- places

reach_above : (said : Said) → said.told.position ≤ reach_of said.call said.told
reach_above said = elim (leaves_entry said.call said.told.reply) as (λ b. said.told.position ≤ said.told.position + cond b 1 0) [ true ↦ omega arith | false ↦ omega arith ]

-- a legal answer that knows at least so many entries
pub record IsLater (tells : Bool) (most : ℕ) (journal : List Entry) (caller : CallerId) (n : ℕ) (said : Said) : Type 0 where
  pub legal : IsLegalCall tells most journal caller said.seq said.call said.told
  pub behind : n ≤ said.told.position

later_from : (tells : Bool) (most : ℕ) (journal : List Entry) (caller : CallerId) (n from : ℕ) (more : List Said) → n ≤ from → places_rise from more ≡ true →
    AllByRecursion (λ said. IsLegalCall tells most journal caller said.seq said.call said.told) more → AllByRecursion (IsLater tells most journal caller n) more
later_from tells most journal caller n from [] le rise all = tt
later_from tells most journal caller n from (said ∷ more) le rise all =
    let at : from ≤ said.told.position = le_of from said.told.position (tests.first (nat_le from said.told.position) (places_rise (reach_of said.call said.told) more) rise) in (
      record { legal = all.0; behind = omega (arith, le, at) },
      later_from tells most journal caller n (reach_of said.call said.told) more (omega (arith, le, at, reach_above said)) (tests.second (nat_le from said.told.position) (places_rise (reach_of said.call said.told) more) rise) all.1,
    )
  where
    le_of : (a b : ℕ) → nat_le a b ≡ true → a ≤ b
    le_of a b e = grind (arith, nat_tests)

-- the answers behind the first know all that it knew
pub later_all : (tells : Bool) (most : ℕ) (journal : List Entry) (caller : CallerId) (first : Said) (more : List Said) → places_rise 0 (first ∷ more) ≡ true →
    AllByRecursion (λ said. IsLegalCall tells most journal caller said.seq said.call said.told) more → AllByRecursion (IsLater tells most journal caller first.told.position) more
later_all tells most journal caller first more rise all = later_from tells most journal caller first.told.position (reach_of first.call first.told) more (reach_above first) (tests.second (nat_le 0 first.told.position) (places_rise (reach_of first.call first.told) more) rise) all

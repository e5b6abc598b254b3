-- What links promise makes one legal history.
use Rattle.std.proofs.Common.{◌≡◌, ℕ, zero, suc, ◌+◌, ◌≤◌, nat_le, Bool, true, false, cond, ◌&&◌, ◌==◌, Some, None, List, [], ◌∷◌, ◌++◌, length, slice_get, refl, ap, sym, ◌∙◌, subst, length-append, append_assoc, append-nil, arith}
use Rattle.std.specs.Option.{option_to_list}
use Rattle.std.specs.List.{list_all, filter, filter_map, cons_option, AllByRecursion}
use Rattle.std.proofs.lemmas.Bool.Decides.{nat_tests}
use Rattle.std.proofs.lemmas.List.{take-append-le}
use Rattle.std.proofs.lemmas.List.Elements.{filter-append}
use Rattle.hs_types.specs.declared.journal.Entry.{Entry}
use Rattle.hs_plain.specs.Answer.{answer, claimed, is_ok_reply}
use Rattle.hs_plain.specs.Replay.{plain_after}
use Rattle.hs_plain.specs.Legal.{Said, entry_of, leaves_entry, reach_of, places_of}
use Rattle.copy_workers.specs.declared.copied.Made.{Made}
use Rattle.distcp_sync.specs.Calls.{IsMadeIn, IsFailedRead}
use Rattle.run_output.specs.Steps.{Sections, Step, printed, made, failed, counted, said_in, made_in, failed_in, are_counted, rises, reached, all_reached, left_at}
use Rattle.run_output.specs.Run.{caller, IsLegal, AreClients, IsSide}
use Rattle.script_runner.specs.Links.{is_of, own, IsMadeBy, IsFailedBy, IsCalled, AreLinked, last_number, AreClientsMet, AreMet}

-- ---- legal stays legal as the journal grows

slice_get-front : {A : Type 0} (xs ys : List A) (i : ℕ) (x : A) → slice_get xs i ≡ Some x → slice_get (xs ++ ys) i ≡ Some x
slice_get-front [] ys i x e = absurd (cc)
slice_get-front (a ∷ xs) ys zero x e = e
slice_get-front (a ∷ xs) ys (suc i) x e = slice_get-front xs ys i x e

legal_grows : (tells : Bool) (journal more : List Entry) (c : ℕ) (said : Said) → IsLegal tells journal c said → IsLegal tells (journal ++ more) c said
legal_grows tells journal more c said legal =
    record {
      within = omega (arith, length-append journal more, legal.within);
      answered = λ plain. legal.answered plain ∙ ap (λ (entries : List Entry). claimed tells (answer (plain_after entries) said.call)) (sym (take-append-le said.told.position journal more legal.within));
      entered = λ left. slice_get-front journal more said.told.position (entry_of (caller c) said.seq said.call said.told.reply) (legal.entered left);
      kept = legal.kept;
      handed_back = legal.handed_back;
      full = λ is.
          let was = legal.full is in
          record {
            exclusive = was.exclusive;
            would_do = ap (λ (entries : List Entry). is_ok_reply (answer (plain_after entries) said.call)) (take-append-le said.told.position journal more legal.within) ∙ was.would_do;
            at_limit = was.at_limit;
          };
    }

all_grow : (tells : Bool) (journal more : List Entry) (c : ℕ) (said : List Said) → AllByRecursion (IsLegal tells journal c) said → AllByRecursion (IsLegal tells (journal ++ more) c) said
all_grow tells journal more c [] all = tt
all_grow tells journal more c (s ∷ said) all = (legal_grows tells journal more c s all.0, all_grow tells journal more c said all.1)

-- ---- one call

pub own-long : (c : ℕ) (said : Said) → said.told.position + length (own c said) ≡ reach_of said.call said.told
own-long c said = elim (leaves_entry said.call said.told.reply) as (λ b. said.told.position + length (option_to_list (cond b (Some (entry_of (caller c) said.seq said.call said.told.reply)) None)) ≡ said.told.position + cond b 1 0) [
  | true ↦ omega arith
  | false ↦ omega arith
]

same_number : (n : ℕ) → (n == n) ≡ true
same_number n = grind (arith, nat_tests)

-- ---- places

pub places-append : (c i : ℕ) (xs ys : List Entry) → places_of c i (xs ++ ys) ≡ places_of c i xs ++ places_of c (i + length xs) ys
places-append c i [] ys = ap (λ k. places_of c k ys) {x = i} {y = i + 0} (omega arith)
places-append c i (x ∷ xs) ys =
    elim (x.caller.0 == c) as (λ b. cond b (i ∷ places_of c (i + 1) (xs ++ ys)) (places_of c (i + 1) (xs ++ ys)) ≡ cond b (i ∷ places_of c (i + 1) xs) (places_of c (i + 1) xs) ++ places_of c (i + suc (length xs)) ys) [
      | true ↦ ap (λ (ks : List ℕ). i ∷ ks) (places-append c (i + 1) xs ys ∙ ap (λ k. places_of c (i + 1) xs ++ places_of c k ys) {x = i + 1 + length xs} {y = i + suc (length xs)} (omega arith))
      | false ↦ places-append c (i + 1) xs ys ∙ ap (λ k. places_of c (i + 1) xs ++ places_of c k ys) {x = i + 1 + length xs} {y = i + suc (length xs)} (omega arith)
    ]

no_cons : (x : Entry) (xs : List Entry) (b : Bool) → cond b (x ∷ xs) xs ≡ [] → b ≡ false
no_cons x xs true e = absurd (cc)
no_cons x xs false e = refl

pub places_none : (c i : ℕ) (xs : List Entry) → filter (is_of c) xs ≡ [] → places_of c i xs ≡ []
places_none c i [] none = refl
places_none c i (x ∷ xs) none =
    let other : (x.caller.0 == c) ≡ false = no_cons x (filter (is_of c) xs) (is_of c x) none in
    ap (λ b. cond b (i ∷ places_of c (i + 1) xs) (places_of c (i + 1) xs)) other
    ∙ places_none c (i + 1) xs (sym (ap (λ b. cond b (x ∷ filter (is_of c) xs) (filter (is_of c) xs)) other) ∙ none)

own-places : (c i : ℕ) (said : Said) (ks : List ℕ) → said.told.position ≡ i → places_of c i (own c said) ++ ks ≡ cons_option (left_at (printed said)) ks
own-places c i said ks at =
    elim (leaves_entry said.call said.told.reply) as (λ b. places_of c i (option_to_list (cond b (Some (entry_of (caller c) said.seq said.call said.told.reply)) None)) ++ ks ≡ cons_option (cond b (Some said.told.position) None) ks) [
      | true ↦ ap (λ b. cond b (i ∷ []) [] ++ ks) (same_number c) ∙ ap (λ k. k ∷ ks) (sym at)
      | false ↦ refl
    ]

-- what a growth adds to a caller's places
grown_places : (c : ℕ) (old others last : List Entry) → filter (is_of c) others ≡ [] → places_of c 0 ((old ++ others) ++ last) ≡ places_of c 0 old ++ places_of c (length (old ++ others)) last
grown_places c old others last foreign =
    places-append c 0 (old ++ others) last
    ∙ ap (λ (ks : List ℕ). ks ++ places_of c (0 + length (old ++ others)) last) (places-append c 0 old others ∙ ap (λ (ks : List ℕ). places_of c 0 old ++ ks) (places_none c (0 + length old) others foreign) ∙ append-nil (places_of c 0 old))
    ∙ ap (λ k. places_of c 0 old ++ places_of c k last) {x = 0 + length (old ++ others)} {y = length (old ++ others)} (omega arith)

-- an entry of the caller adds its place
entry-places : (c i : ℕ) (entry : Entry) (k : ℕ) (ks : List ℕ) → entry.caller.0 ≡ c → k ≡ i → places_of c i (entry ∷ []) ++ ks ≡ k ∷ ks
entry-places c i entry k ks by at = ap (λ n. cond (n == c) (i ∷ []) [] ++ ks) by ∙ ap (λ b. cond b (i ∷ []) [] ++ ks) (same_number c) ∙ ap (λ k. k ∷ ks) (sym at)

made-long : (c : ℕ) (old : List Entry) (number : ℕ) (new : List Entry) (m : Made) → IsMadeBy c old number new m → (length old ≤ m.position) × (m.position + 1 ≡ length new)
made-long c old number new m call = (
  omega (arith, call.place, length-append old call.others),
  omega (arith, call.place, ap length call.grows, length-append (old ++ call.others) (call.entry ∷ [])),
)

failed-long : (c : ℕ) (old new : List Entry) (position : ℕ) → IsFailedBy c old new position → (length old ≤ position) × (position + 1 ≡ length new)
failed-long c old new position call = (
  omega (arith, call.place, length-append old call.others),
  omega (arith, call.place, ap length call.grows, length-append (old ++ call.others) (call.entry ∷ [])),
)

called-long : (tells : Bool) (c : ℕ) (old : List Entry) (number : ℕ) (new : List Entry) (said : Said) → IsCalled tells c old number new said → (length old ≤ said.told.position) × (reach_of said.call said.told ≡ length new)
called-long tells c old number new said call = (
  omega (arith, call.place, length-append old call.others),
  omega (arith, own-long c said, call.place, ap length call.grows, length-append (old ++ call.others) (own c said)),
)

and_true : (a b : Bool) → a ≡ true → b ≡ true → (a && b) ≡ true
and_true true b e f = f
and_true false b e f = e

-- ---- chains of calls

pub linked_front : (tells : Bool) (c : ℕ) (old : List Entry) (number : ℕ) (steps : List Step) (new : List Entry) → AreLinked tells c old number steps new → (rest : List Entry) × (new ≡ old ++ rest)
linked_front tells c old number [] new linked = (linked.0, linked.1)
linked_front tells c old number (made m ∷ steps) new linked =
    let rest : (rest : List Entry) × (new ≡ linked.0 ++ rest) = linked_front tells c linked.0 m.seq steps new linked.2 in (
      linked.1.others ++ (linked.1.entry ∷ rest.0),
      rest.1 ∙ ap (λ (xs : List Entry). xs ++ rest.0) linked.1.grows ∙ append_assoc (old ++ linked.1.others) (linked.1.entry ∷ []) rest.0 ∙ append_assoc old linked.1.others (linked.1.entry ∷ rest.0),
    )
linked_front tells c old number (failed position ∷ steps) new linked =
    let rest : (rest : List Entry) × (new ≡ linked.0 ++ rest) = linked_front tells c linked.0 number steps new linked.2 in (
      linked.1.others ++ (linked.1.entry ∷ rest.0),
      rest.1 ∙ ap (λ (xs : List Entry). xs ++ rest.0) linked.1.grows ∙ append_assoc (old ++ linked.1.others) (linked.1.entry ∷ []) rest.0 ∙ append_assoc old linked.1.others (linked.1.entry ∷ rest.0),
    )
linked_front tells c old number (counted n ∷ steps) new linked = linked_front tells c old n steps new linked.1
linked_front tells c old number (printed said ∷ steps) new linked =
    let rest : (rest : List Entry) × (new ≡ linked.0 ++ rest) = linked_front tells c linked.0 said.seq steps new linked.2 in (
      linked.1.others ++ (own c said ++ rest.0),
      rest.1 ∙ ap (λ (xs : List Entry). xs ++ rest.0) linked.1.grows ∙ append_assoc (old ++ linked.1.others) (own c said) rest.0 ∙ append_assoc old linked.1.others (own c said ++ rest.0),
    )

pub linked_places : (tells : Bool) (c : ℕ) (old : List Entry) (number : ℕ) (steps : List Step) (new : List Entry) → AreLinked tells c old number steps new → places_of c 0 new ≡ places_of c 0 old ++ filter_map (left_at) steps
linked_places tells c old number [] new linked = ap (places_of c 0) linked.1 ∙ places-append c 0 old linked.0 ∙ ap (λ (ks : List ℕ). places_of c 0 old ++ ks) (places_none c (0 + length old) linked.0 linked.2)
linked_places tells c old number (made m ∷ steps) new linked =
    linked_places tells c linked.0 m.seq steps new linked.2
    ∙ ap (λ (j : List Entry). places_of c 0 j ++ filter_map (left_at) steps) linked.1.grows
    ∙ ap (λ (ks : List ℕ). ks ++ filter_map (left_at) steps) (grown_places c old linked.1.others (linked.1.entry ∷ []) linked.1.foreign)
    ∙ append_assoc (places_of c 0 old) (places_of c (length (old ++ linked.1.others)) (linked.1.entry ∷ [])) (filter_map (left_at) steps)
    ∙ ap (λ (ks : List ℕ). places_of c 0 old ++ ks) (entry-places c (length (old ++ linked.1.others)) linked.1.entry m.position (filter_map (left_at) steps) linked.1.by linked.1.place)
linked_places tells c old number (failed position ∷ steps) new linked =
    linked_places tells c linked.0 number steps new linked.2
    ∙ ap (λ (j : List Entry). places_of c 0 j ++ filter_map (left_at) steps) linked.1.grows
    ∙ ap (λ (ks : List ℕ). ks ++ filter_map (left_at) steps) (grown_places c old linked.1.others (linked.1.entry ∷ []) linked.1.foreign)
    ∙ append_assoc (places_of c 0 old) (places_of c (length (old ++ linked.1.others)) (linked.1.entry ∷ [])) (filter_map (left_at) steps)
    ∙ ap (λ (ks : List ℕ). places_of c 0 old ++ ks) (entry-places c (length (old ++ linked.1.others)) linked.1.entry position (filter_map (left_at) steps) linked.1.by linked.1.place)
linked_places tells c old number (counted n ∷ steps) new linked = linked_places tells c old n steps new linked.1
linked_places tells c old number (printed said ∷ steps) new linked =
    linked_places tells c linked.0 said.seq steps new linked.2
    ∙ ap (λ (j : List Entry). places_of c 0 j ++ filter_map (left_at) steps) linked.1.grows
    ∙ ap (λ (ks : List ℕ). ks ++ filter_map (left_at) steps) (grown_places c old linked.1.others (own c said) linked.1.foreign)
    ∙ append_assoc (places_of c 0 old) (places_of c (length (old ++ linked.1.others)) (own c said)) (filter_map (left_at) steps)
    ∙ ap (λ (ks : List ℕ). places_of c 0 old ++ ks) (own-places c (length (old ++ linked.1.others)) said (filter_map (left_at) steps) linked.1.place)

pub linked_legal : (tells : Bool) (c : ℕ) (old : List Entry) (number : ℕ) (steps : List Step) (new : List Entry) → AreLinked tells c old number steps new → AllByRecursion (IsLegal tells new c) (filter_map said_in steps)
linked_legal tells c old number [] new linked = tt
linked_legal tells c old number (made m ∷ steps) new linked = linked_legal tells c linked.0 m.seq steps new linked.2
linked_legal tells c old number (failed position ∷ steps) new linked = linked_legal tells c linked.0 number steps new linked.2
linked_legal tells c old number (counted n ∷ steps) new linked = linked_legal tells c old n steps new linked.1
linked_legal tells c old number (printed said ∷ steps) new linked =
    let rest : (rest : List Entry) × (new ≡ linked.0 ++ rest) = linked_front tells c linked.0 said.seq steps new linked.2 in
    (subst (λ (j : List Entry). IsLegal tells j c said) (sym rest.1) (legal_grows tells linked.0 rest.0 c said linked.1.legal), linked_legal tells c linked.0 said.seq steps new linked.2)

last_there : (xs : List Entry) (e : Entry) (i : ℕ) → i ≡ length xs → slice_get (xs ++ e ∷ []) i ≡ Some e
last_there [] e i at = ap (λ k. slice_get (e ∷ []) k) at
last_there (x ∷ xs) e zero at = absurd (omega (arith, at))
last_there (x ∷ xs) e (suc i) at = last_there xs e i (omega (arith, at))

pub linked_made : (tells : Bool) (c : ℕ) (old : List Entry) (number : ℕ) (steps : List Step) (new : List Entry) → AreLinked tells c old number steps new → AllByRecursion (IsMadeIn new (caller c)) (filter_map made_in steps)
linked_made tells c old number [] new linked = tt
linked_made tells c old number (printed said ∷ steps) new linked = linked_made tells c linked.0 said.seq steps new linked.2
linked_made tells c old number (failed position ∷ steps) new linked = linked_made tells c linked.0 number steps new linked.2
linked_made tells c old number (counted n ∷ steps) new linked = linked_made tells c old n steps new linked.1
linked_made tells c old number (made m ∷ steps) new linked =
    let rest : (rest : List Entry) × (new ≡ linked.0 ++ rest) = linked_front tells c linked.0 m.seq steps new linked.2 in
    let here : slice_get linked.0 m.position ≡ Some linked.1.entry = ap (λ (j : List Entry). slice_get j m.position) linked.1.grows ∙ last_there (old ++ linked.1.others) linked.1.entry m.position linked.1.place in (
      record {
        entry = linked.1.entry;
        there = ap (λ (j : List Entry). slice_get j m.position) rest.1 ∙ slice_get-front linked.0 rest.0 m.position linked.1.entry here;
        of_caller = linked.1.by;
        caller_is = linked.1.caller_is;
        seq_is = linked.1.seq_is;
      },
      linked_made tells c linked.0 m.seq steps new linked.2,
    )

pub linked_failed : (tells : Bool) (c : ℕ) (old : List Entry) (number : ℕ) (steps : List Step) (new : List Entry) → AreLinked tells c old number steps new → AllByRecursion (IsFailedRead new (caller c)) (filter_map failed_in steps)
linked_failed tells c old number [] new linked = tt
linked_failed tells c old number (printed said ∷ steps) new linked = linked_failed tells c linked.0 said.seq steps new linked.2
linked_failed tells c old number (made m ∷ steps) new linked = linked_failed tells c linked.0 m.seq steps new linked.2
linked_failed tells c old number (counted n ∷ steps) new linked = linked_failed tells c old n steps new linked.1
linked_failed tells c old number (failed position ∷ steps) new linked =
    let rest : (rest : List Entry) × (new ≡ linked.0 ++ rest) = linked_front tells c linked.0 number steps new linked.2 in
    let here : slice_get linked.0 position ≡ Some linked.1.entry = ap (λ (j : List Entry). slice_get j position) linked.1.grows ∙ last_there (old ++ linked.1.others) linked.1.entry position linked.1.place in (
      record {
        entry = linked.1.entry;
        there = ap (λ (j : List Entry). slice_get j position) rest.1 ∙ slice_get-front linked.0 rest.0 position linked.1.entry here;
        of_caller = linked.1.by;
        kind_is = linked.1.kind_is;
        cursor = linked.1.cursor;
        len = linked.1.len;
        call_is = linked.1.call_is;
      },
      linked_failed tells c linked.0 number steps new linked.2,
    )

pub linked_numbers : (tells : Bool) (c : ℕ) (old : List Entry) (number : ℕ) (steps : List Step) (new : List Entry) → AreLinked tells c old number steps new → are_counted number steps ≡ true
linked_numbers tells c old number [] new linked = refl
linked_numbers tells c old number (made m ∷ steps) new linked = and_true _ _ linked.1.counted (linked_numbers tells c linked.0 m.seq steps new linked.2)
linked_numbers tells c old number (failed position ∷ steps) new linked = linked_numbers tells c linked.0 number steps new linked.2
linked_numbers tells c old number (counted n ∷ steps) new linked = and_true _ _ linked.0 (linked_numbers tells c old n steps new linked.1)
linked_numbers tells c old number (printed said ∷ steps) new linked = and_true _ _ (ap (λ n. said.seq == n) (sym linked.1.counted) ∙ same_number said.seq) (linked_numbers tells c linked.0 said.seq steps new linked.2)

le_so : (a b : ℕ) → a ≤ b → nat_le a b ≡ true
le_so a b e = grind (arith, nat_tests)

pub linked_rises : (tells : Bool) (c : ℕ) (old : List Entry) (number from : ℕ) (steps : List Step) (new : List Entry) → from ≤ length old → AreLinked tells c old number steps new → (rises from steps ≡ true) × (reached from steps ≤ length new)
linked_rises tells c old number from [] new le linked = (refl, omega (arith, le, ap length linked.1, length-append old linked.0))
linked_rises tells c old number from (made m ∷ steps) new le linked =
    let long : (length old ≤ m.position) × (m.position + 1 ≡ length linked.0) = made-long c old number linked.0 m linked.1 in
    let more : (rises (m.position + 1) steps ≡ true) × (reached (m.position + 1) steps ≤ length new) = linked_rises tells c linked.0 m.seq (m.position + 1) steps new (omega (arith, long.1)) linked.2 in
    (and_true _ _ (le_so from m.position (omega (arith, le, long.0))) more.0, more.1)
linked_rises tells c old number from (failed position ∷ steps) new le linked =
    let long : (length old ≤ position) × (position + 1 ≡ length linked.0) = failed-long c old linked.0 position linked.1 in
    let more : (rises (position + 1) steps ≡ true) × (reached (position + 1) steps ≤ length new) = linked_rises tells c linked.0 number (position + 1) steps new (omega (arith, long.1)) linked.2 in
    (and_true _ _ (le_so from position (omega (arith, le, long.0))) more.0, more.1)
linked_rises tells c old number from (counted n ∷ steps) new le linked =
    let more : (rises from steps ≡ true) × (reached from steps ≤ length new) = linked_rises tells c old n from steps new le linked.1 in
    (and_true _ _ (le_so from from (omega arith)) more.0, more.1)
linked_rises tells c old number from (printed said ∷ steps) new le linked =
    let long : (length old ≤ said.told.position) × (reach_of said.call said.told ≡ length linked.0) = called-long tells c old number linked.0 said linked.1 in
    let more : (rises (reach_of said.call said.told) steps ≡ true) × (reached (reach_of said.call said.told) steps ≤ length new) = linked_rises tells c linked.0 said.seq (reach_of said.call said.told) steps new (omega (arith, long.1)) linked.2 in
    (and_true _ _ (le_so from said.told.position (omega (arith, le, long.0))) more.0, more.1)

-- a link tells have learnt more before its calls
pub linked_wait : (tells : Bool) (c : ℕ) (old : List Entry) (number : ℕ) (steps : List Step) (new more : List Entry) → filter (is_of c) more ≡ [] → AreLinked tells c (old ++ more) number steps new → AreLinked tells c old number steps new
linked_wait tells c old number [] new more foreign linked =
    (more ++ linked.0, linked.1 ∙ append_assoc old more linked.0, filter-append (is_of c) more linked.0 ∙ ap (λ (xs : List Entry). xs ++ filter (is_of c) linked.0) foreign ∙ linked.2)
linked_wait tells c old number (made m ∷ steps) new more foreign linked = (
  linked.0,
  record {
    entry = linked.1.entry;
    by = linked.1.by;
    caller_is = linked.1.caller_is;
    seq_is = linked.1.seq_is;
    counted = linked.1.counted;
    others = more ++ linked.1.others;
    foreign = filter-append (is_of c) more linked.1.others ∙ ap (λ (xs : List Entry). xs ++ filter (is_of c) linked.1.others) foreign ∙ linked.1.foreign;
    grows = linked.1.grows ∙ ap (λ (xs : List Entry). xs ++ linked.1.entry ∷ []) (append_assoc old more linked.1.others);
    place = linked.1.place ∙ ap length (append_assoc old more linked.1.others);
  },
  linked.2,
)
linked_wait tells c old number (failed position ∷ steps) new more foreign linked = (
  linked.0,
  record {
    entry = linked.1.entry;
    by = linked.1.by;
    kind_is = linked.1.kind_is;
    cursor = linked.1.cursor;
    len = linked.1.len;
    call_is = linked.1.call_is;
    others = more ++ linked.1.others;
    foreign = filter-append (is_of c) more linked.1.others ∙ ap (λ (xs : List Entry). xs ++ filter (is_of c) linked.1.others) foreign ∙ linked.1.foreign;
    grows = linked.1.grows ∙ ap (λ (xs : List Entry). xs ++ linked.1.entry ∷ []) (append_assoc old more linked.1.others);
    place = linked.1.place ∙ ap length (append_assoc old more linked.1.others);
  },
  linked.2,
)
linked_wait tells c old number (counted n ∷ steps) new more foreign linked = (linked.0, linked_wait tells c old n steps new more foreign linked.1)
linked_wait tells c old number (printed said ∷ steps) new more foreign linked = (
  linked.0,
  record {
    others = more ++ linked.1.others;
    foreign = filter-append (is_of c) more linked.1.others ∙ ap (λ (xs : List Entry). xs ++ filter (is_of c) linked.1.others) foreign ∙ linked.1.foreign;
    grows = linked.1.grows ∙ ap (λ (xs : List Entry). xs ++ own c said) (append_assoc old more linked.1.others);
    place = linked.1.place ∙ ap length (append_assoc old more linked.1.others);
    legal = linked.1.legal;
    counted = linked.1.counted;
  },
  linked.2,
)

pub linked_append : (tells : Bool) (c : ℕ) (old : List Entry) (number : ℕ) (steps more : List Step) (now new : List Entry) → AreLinked tells c old number steps now → AreLinked tells c now (last_number number steps) more new → AreLinked tells c old number (steps ++ more) new
linked_append tells c old number [] more now new linked next = linked_wait tells c old number more new linked.0 linked.2 (subst (λ (j : List Entry). AreLinked tells c j number more new) linked.1 next)
linked_append tells c old number (made m ∷ steps) more now new linked next = (linked.0, linked.1, linked_append tells c linked.0 m.seq steps more now new linked.2 next)
linked_append tells c old number (failed position ∷ steps) more now new linked next = (linked.0, linked.1, linked_append tells c linked.0 number steps more now new linked.2 next)
linked_append tells c old number (counted n ∷ steps) more now new linked next = (linked.0, linked_append tells c old n steps more now new linked.1 next)
linked_append tells c old number (printed said ∷ steps) more now new linked next = (linked.0, linked.1, linked_append tells c linked.0 said.seq steps more now new linked.2 next)

-- ---- one side

made_grow : (journal more : List Entry) (c : ℕ) (ms : List Made) → AllByRecursion (IsMadeIn journal (caller c)) ms → AllByRecursion (IsMadeIn (journal ++ more) (caller c)) ms
made_grow journal more c [] all = tt
made_grow journal more c (m ∷ ms) all = (
  record { entry = all.0.entry; there = slice_get-front journal more m.position all.0.entry all.0.there; of_caller = all.0.of_caller; caller_is = all.0.caller_is; seq_is = all.0.seq_is },
  made_grow journal more c ms all.1,
)

failed_grow : (journal more : List Entry) (c : ℕ) (ks : List ℕ) → AllByRecursion (IsFailedRead journal (caller c)) ks → AllByRecursion (IsFailedRead (journal ++ more) (caller c)) ks
failed_grow journal more c [] all = tt
failed_grow journal more c (k ∷ ks) all = (
  record {
    entry = all.0.entry;
    there = slice_get-front journal more k all.0.entry all.0.there;
    of_caller = all.0.of_caller;
    kind_is = all.0.kind_is;
    cursor = all.0.cursor;
    len = all.0.len;
    call_is = all.0.call_is;
  },
  failed_grow journal more c ks all.1,
)

clients_legal : (tells : Bool) (begun ended journal rest : List Entry) (c : ℕ) (clients : List (List Step)) → journal ≡ ended ++ rest → AreClientsMet tells begun ended journal c clients → AreClients tells journal c clients
clients_legal tells begun ended journal rest c [] front met = tt
clients_legal tells begun ended journal rest c (client ∷ clients) front met = (
  record {
    each = subst (λ (j : List Entry). AllByRecursion (IsLegal tells j c) (filter_map said_in client)) (sym front) (all_grow tells ended rest c (filter_map said_in client) (linked_legal tells c begun 0 client ended met.0.calls));
    numbers = linked_numbers tells c begun 0 client ended met.0.calls;
    made_each = subst (λ (j : List Entry). AllByRecursion (IsMadeIn j (caller c)) (filter_map made_in client)) (sym front) (made_grow ended rest c (filter_map made_in client) (linked_made tells c begun 0 client ended met.0.calls));
    failed_each = subst (λ (j : List Entry). AllByRecursion (IsFailedRead j (caller c)) (filter_map failed_in client)) (sym front) (failed_grow ended rest c (filter_map failed_in client) (linked_failed tells c begun 0 client ended met.0.calls));
    entries = met.0.after ∙ linked_places tells c begun 0 client ended met.0.calls ∙ ap (λ (ks : List ℕ). ks ++ filter_map (left_at) client) (places_none c 0 begun met.0.before);
  },
  clients_legal tells begun ended journal rest (c + 1) clients front met.1,
)

clients_rise : (tells : Bool) (begun ended journal : List Entry) (c from : ℕ) (clients : List (List Step)) → from ≤ length begun → length begun ≤ length ended → AreClientsMet tells begun ended journal c clients → (list_all (rises from) clients ≡ true) × (all_reached from clients ≤ length ended)
clients_rise tells begun ended journal c from [] le long met = (refl, omega (arith, le, long))
clients_rise tells begun ended journal c from (client ∷ clients) le long met =
    let here : (rises from client ≡ true) × (reached from client ≤ length ended) = linked_rises tells c begun 0 from client ended le met.0.calls in
    let more : (list_all (rises from) clients ≡ true) × (all_reached from clients ≤ length ended) = clients_rise tells begun ended journal (c + 1) from clients le long met.1 in
    (and_true _ _ here.0 more.0, omega (arith, here.1, more.1))

pub met_side : (tells : Bool) (journal : List Entry) (steps : Sections Step) → AreMet tells journal steps → IsSide tells journal steps
met_side tells journal steps met =
    let front : (rest : List Entry) × (journal ≡ met.ended ++ rest) = linked_front tells 0 met.ended (last_number 0 steps.setup) steps.finish journal met.finish in
    let all_0 : AreLinked tells 0 [] 0 (steps.setup ++ steps.finish) journal =
    linked_append tells 0 [] 0 steps.setup steps.finish met.begun journal met.setup
    (linked_wait tells 0 met.begun (last_number 0 steps.setup) steps.finish journal met.meeting.0 met.meeting.2 (subst (λ (j : List Entry). AreLinked tells 0 j (last_number 0 steps.setup) steps.finish journal) met.meeting.1 met.finish)) in
    let setup_rises : (rises 0 steps.setup ≡ true) × (reached 0 steps.setup ≤ length met.begun) = linked_rises tells 0 [] 0 0 steps.setup met.begun (omega arith) met.setup in
    let long : length met.begun ≤ length met.ended = omega (arith, ap length met.meeting.1, length-append met.begun met.meeting.0) in
    let clients_rise : (list_all (rises (reached 0 steps.setup)) steps.clients ≡ true) × (all_reached (reached 0 steps.setup) steps.clients ≤ length met.ended) = clients_rise tells met.begun met.ended journal 1 (reached 0 steps.setup) steps.clients setup_rises.1 long met.clients in
    record {
      proper = met.proper;
      few = met.few;
      caller_0 = record {
        each = linked_legal tells 0 [] 0 (steps.setup ++ steps.finish) journal all_0;
        numbers = linked_numbers tells 0 [] 0 (steps.setup ++ steps.finish) journal all_0;
        made_each = linked_made tells 0 [] 0 (steps.setup ++ steps.finish) journal all_0;
        failed_each = linked_failed tells 0 [] 0 (steps.setup ++ steps.finish) journal all_0;
        entries = linked_places tells 0 [] 0 (steps.setup ++ steps.finish) journal all_0;
      };
      callers = clients_legal tells met.begun met.ended journal front.0 1 steps.clients front.1 met.clients;
      alone = met.alone;
      setup_rises = setup_rises.0;
      clients_rise = clients_rise.0;
      finish_rises = (linked_rises tells 0 met.ended (last_number 0 steps.setup) (all_reached (reached 0 steps.setup) steps.clients) steps.finish journal clients_rise.1 met.finish).0;
    }

-- Where the entries of a link's caller stand.
use Rattle.std.proofs.Common.{◌≡◌, ℕ, zero, suc, ◌+◌, ◌-◌, ◌≤◌, Bool, true, false, cond, ◌==◌, Option, Some, None, List, [], ◌∷◌, ◌++◌, map, length, slice_get, refl, ap, sym, ◌∙◌, subst, length-append, append_assoc, append-nil, arith}
use Rattle.std.specs.Option.{option_to_list}
use Rattle.std.specs.List.{filter, filter_map, cons_option}
use Rattle.std.proofs.lemmas.Bool.Decides.{nat_tests}
use Rattle.std.proofs.lemmas.List.{append_cancel_left}
use Rattle.std.proofs.lemmas.List.Elements.{filter-append}
use Rattle.hs_types.specs.declared.ids.CallerId.{CallerId}
use Rattle.hs_types.specs.declared.call.Call.{Call}
use Rattle.hs_types.specs.declared.journal.Entry.{Entry}
use Rattle.hs_types.specs.declared.reply.Answered.{Answered}
use Rattle.hs_plain.specs.Legal.{Said, leaves_entry, entry_of, entry_left, place_left, places_of}
use Rattle.page_join.specs.Links.{Known, IsCall, is_of, said_by}
use Rattle.page_join.specs.Made.{AreMade}
use Rattle.copy_workers.specs.declared.copied.Made.{Made}
use Rattle.copy_workers.specs.Calls.{made_by}

pub same_number : (n : ℕ) → (n == n) ≡ true
same_number n = grind (arith, nat_tests)

pub places-append : (c i : ℕ) (xs ys : List Entry) → places_of c i (xs ++ ys) ≡ places_of c i xs ++ places_of c (i + length xs) ys
places-append c i [] ys = ap (λ k. places_of c k ys) {x = i} {y = i + 0} (omega arith)
places-append c i (x ∷ xs) ys =
    elim (x.caller.0 == c) as (λ b. cond b (i ∷ places_of c (i + 1) (xs ++ ys)) (places_of c (i + 1) (xs ++ ys)) ≡ cond b (i ∷ places_of c (i + 1) xs) (places_of c (i + 1) xs) ++ places_of c (i + suc (length xs)) ys) [
      | true ↦ ap (λ (ks : List ℕ). i ∷ ks) (places-append c (i + 1) xs ys ∙ ap (λ k. places_of c (i + 1) xs ++ places_of c k ys) {x = i + 1 + length xs} {y = i + suc (length xs)} (omega arith))
      | false ↦ places-append c (i + 1) xs ys ∙ ap (λ k. places_of c (i + 1) xs ++ places_of c k ys) {x = i + 1 + length xs} {y = i + suc (length xs)} (omega arith)
    ]

no_cons : (x : Entry) (xs : List Entry) (b : Bool) → cond b (x ∷ xs) xs ≡ [] → b ≡ false
no_cons x xs true e = absurd (cc)
no_cons x xs false e = refl

pub places_none : (c : CallerId) (i : ℕ) (xs : List Entry) → filter (is_of c) xs ≡ [] → places_of c.0 i xs ≡ []
places_none c i [] none = refl
places_none c i (x ∷ xs) none =
    let other : is_of c x ≡ false = no_cons x (filter (is_of c) xs) (is_of c x) none in
    ap (λ b. cond b (i ∷ places_of c.0 (i + 1) xs) (places_of c.0 (i + 1) xs)) other
    ∙ places_none c (i + 1) xs (sym (ap (λ b. cond b (x ∷ filter (is_of c) xs) (filter (is_of c) xs)) other) ∙ none)

-- ---- one call

some_is : (x e : Entry) → Some x ≡ Some e → x ≡ e
some_is x e same = cc

-- an entry of the caller is none where it has none
none_there : (c : CallerId) (xs : List Entry) (k : ℕ) (e : Entry) → filter (is_of c) xs ≡ [] → slice_get xs k ≡ Some e → is_of c e ≡ true → ⊥
none_there c [] k e none there mine = cc
none_there c (x ∷ xs) zero e none there mine =
    let other : is_of c x ≡ false = no_cons x (filter (is_of c) xs) (is_of c x) none in
    differs (sym other ∙ (ap (is_of c) (some_is x e there) ∙ mine))
  where
    differs : false ≡ true → ⊥
    differs e = cc
none_there c (x ∷ xs) (suc k) e none there mine =
    let other : is_of c x ≡ false = no_cons x (filter (is_of c) xs) (is_of c x) none in
    none_there c xs k e (sym (ap (λ b. cond b (x ∷ filter (is_of c) xs) (filter (is_of c) xs)) other) ∙ none) there mine

tail_none : (x y : Entry) (xs : List Entry) → x ∷ xs ≡ y ∷ [] → xs ≡ []
tail_none x y xs same = cc

-- the one entry of the caller is the last
last_place : (c : CallerId) (i k : ℕ) (xs : List Entry) (e one : Entry) → filter (is_of c) xs ≡ one ∷ [] → slice_get xs k ≡ Some e → length xs ≡ k + 1 → is_of c e ≡ true → places_of c.0 i xs ≡ (i + k) ∷ []
last_place c i k [] e one only there long mine = absurd (cc)
last_place c i zero (x ∷ []) e one only there long mine =
    ap (λ b. cond b (i ∷ []) []) (ap (is_of c) (some_is x e there) ∙ mine) ∙ ap (λ k. k ∷ []) {x = i} {y = i + 0} (omega arith)
last_place c i (suc k) (x ∷ []) e one only there long mine = absurd (omega (arith, long))
last_place c i zero (x ∷ y ∷ xs) e one only there long mine = absurd (omega (arith, long))
last_place c i (suc k) (x ∷ y ∷ xs) e one only there long mine =
    by (is_of c x) (λ later. last_place c (i + 1) k (y ∷ xs) e one later there (omega (arith, long)) mine ∙ ap (λ (k : ℕ). k ∷ []) {x = i + 1 + k} {y = i + suc k} (omega arith)) only
  where
    by : (b : Bool) → (filter (is_of c) (y ∷ xs) ≡ one ∷ [] → places_of c.0 (i + 1) (y ∷ xs) ≡ (i + suc k) ∷ []) →
        cond b (x ∷ filter (is_of c) (y ∷ xs)) (filter (is_of c) (y ∷ xs)) ≡ one ∷ [] → cond b (i ∷ places_of c.0 (i + 1) (y ∷ xs)) (places_of c.0 (i + 1) (y ∷ xs)) ≡ (i + suc k) ∷ []
    by true further first = absurd (none_there c (y ∷ xs) k e (tail_none x one (filter (is_of c) (y ∷ xs)) first) there mine)
    by false further later = further later

behind_front : (xs ys : List Entry) (k : ℕ) → slice_get (xs ++ ys) (length xs + k) ≡ slice_get ys k
behind_front [] ys k = ap (slice_get ys) {x = 0 + k} {y = k} (omega arith)
behind_front (x ∷ xs) ys k = ap (slice_get (x ∷ (xs ++ ys))) {x = suc (length xs) + k} {y = suc (length xs + k)} (omega arith) ∙ behind_front xs ys k

-- what a call adds to its caller's places, where it left an entry or none
added : (c : CallerId) (old rest : List Entry) (position : ℕ) (entry : Entry) (left : Bool) → filter (is_of c) rest ≡ option_to_list (cond left (Some entry) None) → entry.caller.0 ≡ c.0 →
    (left ≡ true → slice_get (old ++ rest) position ≡ Some entry) → length old ≤ position → length (old ++ rest) ≡ position + cond left 1 0 →
    places_of c.0 (length old) rest ≡ option_to_list (cond left (Some position) None)
added c old rest position entry false own mine entered from reach = places_none c (length old) rest own
added c old rest position entry true own mine entered from reach =
    let at : length old + (position - length old) ≡ position = omega (arith, from) in
    last_place c (length old) (position - length old) rest entry entry own
    (sym (behind_front old rest (position - length old)) ∙ (ap (slice_get (old ++ rest)) at ∙ entered refl))
    (omega (arith, from, reach, length-append old rest)) (ap (λ n. n == c.0) mine ∙ same_number c.0)
    ∙ ap (λ k. k ∷ []) at

-- a call adds the place of its entry
pub call_places : (old new : Known) (call : Call) (told : Answered) → IsCall old new call told → places_of old.caller.0 0 new.seen ≡ places_of old.caller.0 0 old.seen ++ option_to_list (place_left (said_by new call told))
call_places old new call told called =
    let c : CallerId = old.caller in
    let rest : List Entry = called.grown.0 in
    let grown : old.seen ++ rest ≡ new.seen = called.grown.1 in
    let said : Said = said_by new call told in
    let own : filter (is_of c) rest ≡ option_to_list (entry_left c said) =
    append_cancel_left (filter (is_of c) old.seen) (filter (is_of c) rest) (option_to_list (entry_left c said)) (sym (filter-append (is_of c) old.seen rest) ∙ (ap (filter (is_of c)) grown ∙ called.own)) in
    let more : places_of c.0 (length old.seen) rest ≡ option_to_list (place_left said) =
    added c old.seen rest told.position (entry_of c new.calls call told.reply) (leaves_entry call told.reply) own refl
    (λ left. ap (λ (l : List Entry). slice_get l told.position) grown ∙ called.legal.entered left) called.place (ap length grown ∙ called.reach) in
    ap (places_of c.0 0) (sym grown) ∙ (places-append c.0 0 old.seen rest ∙ ap (λ (ks : List ℕ). places_of c.0 0 old.seen ++ ks)
    (ap (λ k. places_of c.0 k rest) {x = 0 + length old.seen} {y = length old.seen} (omega arith) ∙ more))

-- ---- calls

cons_is : (o : Option ℕ) (more : List ℕ) → option_to_list o ++ more ≡ cons_option o more
cons_is None more = refl
cons_is (Some k) more = refl

-- calls add the places of their entries, in order
pub made_places : (old new : Known) (calls : List Said) → AreMade old new calls → places_of old.caller.0 0 new.seen ≡ places_of old.caller.0 0 old.seen ++ filter_map place_left calls
made_places old new [] made = ap (λ (k : Known). places_of old.caller.0 0 k.seen) made ∙ sym (append-nil (places_of old.caller.0 0 old.seen))
made_places old new (said ∷ more) made =
    let now : Known = made.0 in
    let same : now.caller ≡ old.caller = ap (λ (k : Known). k.caller) made.1.same in
    subst (λ (c : CallerId). places_of c.0 0 new.seen ≡ places_of c.0 0 now.seen ++ filter_map place_left more) same (made_places now new more made.3)
    ∙ (ap (λ (ks : List ℕ). ks ++ filter_map place_left more) (call_places old now said.call said.told made.1)
    ∙ (append_assoc (places_of old.caller.0 0 old.seen) (option_to_list (place_left said)) (filter_map place_left more)
    ∙ ap (λ (ks : List ℕ). places_of old.caller.0 0 old.seen ++ ks) (cons_is (place_left said) (filter_map place_left more))))

-- entries that are named stand where the calls left them
pub named_places : (c : CallerId) (calls : List Said) → map (λ (one : Made). one.position) (filter_map (made_by c) calls) ≡ filter_map place_left calls
named_places c [] = refl
named_places c (said ∷ more) =
    elim (leaves_entry said.call said.told.reply) as (λ b. map (λ (one : Made). one.position) (cons_option (cond b (Some (record { caller = c; seq = said.seq; position = said.told.position })) None) (filter_map (made_by c) more)) ≡ cons_option (cond b (Some said.told.position) None) (filter_map place_left more)) [
      | true ↦ ap (λ (ks : List ℕ). said.told.position ∷ ks) (named_places c more)
      | false ↦ named_places c more
    ]

-- Each kind of step keeps the rule of the turn, and tells what it says.
use Rattle.std.proofs.Common.{◌≡◌, ◌≢◌, eqb, ℕ, zero, suc, ◌<◌, true, List, [], ◌∷◌, length, set, Option, Some, refl, ap, sym, ◌∙◌, subst, ⊎_elim, arith, length-set, get_or-set_same}
use Rattle.std.specs.Prelude.{slice_index, All}
use Rattle.std.proofs.lemmas.List.Elements.{All-nil}
use mathlib.Core.Logic.{dite}
use mathlib.Core.Option.{none, some, some-injective, some-ne-none}
use mathlib.Core.List.{IsPrefix}
use native.Mathlib.Decide.{ℕ_discrete}
use prog.Atomic.{either}
use lib.ListN.{get_elem?}
use Rattle.hs_types.specs.declared.journal.Entry.{Entry}
use Rattle.atomic_table.specs.Table.{State, Me, step, keeps, gives, takes, Allows, opening}
use Rattle.atomic_table.proofs.Lists.{at_set, set_here, exchanged}
use Rattle.turn_lock.specs.declared.historied.Kept.{Kept}
use Rattle.turn_lock.specs.declared.view.View.{View}
use Rattle.turn_lock.specs.Histories.{caller_of, by_caller}
use Rattle.turn_lock.specs.Rule.{Fits, Lives, IsHome, Turned}
use Rattle.turn_lock.specs.Steps.{opener, holding, given, MayLeave, takes_turn, gives_turn}
use Rattle.turn_lock.proofs.Prefixes.{prefix_self, prefix_nil, prefix_trans, others_added, callers_added}
use Rattle.turn_lock.proofs.Views.{each_set, callers_set, changes, adds, spends, no_holder}

module _ {X : Type 0} (history : X → List Entry) (kept_of : X → Kept) (seats : ℕ) (kept : Kept) where
  abbrev Rule : State (Option X) View → Type 0
  Rule = Turned history kept_of seats kept

  -- the first seat alone, and the pointer at home
  pub opens : (x : X) → history x ≡ [] → kept_of x ≡ kept → Rule (opening (0 ∷ 0 ∷ []) (Some x ∷ []) (opener seats kept))
  opens x empty within = record {
    log = [];
    words = refl;
    callers = All-nil (λ e. caller_of e < seats);
    each_seat = λ j v l. subst (Fits seats kept []) (only j v l.0).1 (record { seats_is = refl; kept_is = refl; inside = omega arith; seen = prefix_nil []; told = prefix_nil []; own = λ caller has. refl });
    one_caller = λ i j v w lv lw caller hv hw. (only i v lv.0).0 ∙ sym (only j w lw.0).0;
    home = λ z. (x, refl, empty, within);
    empty = λ n. absurd (n refl);
    away = λ n. absurd (n refl);
    holder = λ j v l on. absurd (no_holder (ap (λ (z : View). z.holds) (only j v l.0).1 ∙ on));
    one_holder = λ i j v w lv lw hv hw. (only i v lv.0).0 ∙ sym (only j w lw.0).0;
  }
    where
      only : (j : ℕ) (v : View) → get_elem? (opener seats kept ∷ []) j ≡ some v → (j ≡ 0) × (opener seats kept ≡ v)
      only zero v e = (refl, some-injective _ _ e)
      only (suc j) v e = absurd (some-ne-none v (sym e))

  fits_here : (s : State (Option X) View) (h : Rule s) (id : ℕ) (v : View) → Lives s.views id v → Fits seats kept h.log v
  fits_here s h id v l = h.each_seat id v l

  take_hit : (n : ℕ) → n ≢ 0 → (id : ℕ) (v : View) → v.live ≡ true → (s : State (Option X) View) (h : Rule s) → get_elem? s.views id ≡ some v → (free : slice_index s.words 0 ≡ 0) → (home : IsHome history kept_of kept s.homes h.log)
      → Rule record { words = set s.words 0 n; homes = set s.homes 0 none; views = set s.views id (holding v (history home.0)) }
  take_hit n up id v live s h at free home =
      let w = holding v (history home.0) in
      let fits = h.each_seat id v (at, live) in
      let now = get_or-set_same s.words 0 n 0 (omega (arith, h.words)) in
      record {
        log = h.log;
        words = length-set s.words 0 n ∙ h.words;
        callers = h.callers;
        each_seat = each_set history kept_of seats kept h.log s.views id w (λ j u ne l. h.each_seat j u l)
            (λ _. record { seats_is = fits.seats_is; kept_is = fits.kept_is; inside = fits.inside; seen = subst (λ (l : List Entry). IsPrefix l h.log) (sym home.2) (prefix_self h.log); told = fits.told; own = λ caller has. ap (by_caller caller) (sym home.2) });
        one_caller = callers_set history kept_of seats kept s h id v w (at, live) (λ caller has. has);
        home = λ z. absurd (up (sym now ∙ z));
        empty = λ _. set_here s.homes 0 none (Rattle.turn_lock.proofs.Views.at_bound s.homes 0 (some (Some home.0)) home.1);
        away = λ _. (id, w, (set_here s.views id w (Rattle.turn_lock.proofs.Views.at_bound s.views id v at), live), refl);
        holder = λ j u l on. ⊎_elim
            (λ (t : (j ≡ id) × (w ≡ u)). (ap (λ (z : View). z.seen) (sym t.1) ∙ home.2, (λ z. up (sym now ∙ z))))
            (λ (t : (j ≢ id) × (get_elem? s.views j ≡ some u)). absurd ((h.holder j u (t.1, l.1) on).1 free))
            (at_set s.views id j w u l.0);
        one_holder = λ i j a b la lb ha hb. here i a la ha ∙ sym (here j b lb hb);
      }
    where
      here : (j : ℕ) (u : View) → Lives (set s.views id (holding v (history home.0))) j u → u.holds ≡ true → j ≡ id
      here j u l on = ⊎_elim
          (λ (t : (j ≡ id) × (holding v (history home.0) ≡ u)). t.0)
          (λ (t : (j ≢ id) × (get_elem? s.views j ≡ some u)). absurd ((h.holder j u (t.1, l.1) on).1 free))
          (at_set s.views id j (holding v (history home.0)) u l.0)

  take_miss : (n : ℕ) → n ≢ 0 → (id : ℕ) (v : View) → v.live ≡ true → (s : State (Option X) View) (h : Rule s) → get_elem? s.views id ≡ some v → slice_index s.words 0 ≢ 0
      → Rule record { words = set s.words 0 n; homes = s.homes; views = set s.views id v }
  take_miss n up id v live s h at taken =
      let now = get_or-set_same s.words 0 n 0 (omega (arith, h.words)) in
      changes history kept_of seats kept s h (set s.words 0 n) id v v (length-set s.words 0 n ∙ h.words) (λ z. absurd (up (sym now ∙ z))) (λ _. taken) (λ _ z. up (sym now ∙ z)) (at, live) live (h.each_seat id v (at, live)) (λ caller has. has) refl
      (λ on. (h.holder id v (at, live) on).0)

  -- Take: word 0 becomes a number other than 0
  pub takes_keep : (f : ℕ → ℕ) → ((n : ℕ) → f n ≢ 0) → (slots id : ℕ) (m : Me (Option X) View) → m.0.live ≡ true → m.1 ≡ [] → Allows Rule slots id m 0 f (takes_turn history kept_of (step 0 0 0 0 none) m)
  takes_keep f up slots id m live bare s h long at small = dite (ℕ_discrete (slice_index s.words 0) 0)
      (λ (free : slice_index s.words 0 ≡ 0).
      let home = h.home free in
      let fits = h.each_seat id m.0 (at, live) in (
        holding m.0 (history home.0),
        takes 0 (Some home.0),
        home.1,
        take_hit (f (slice_index s.words 0)) (up _) id m.0 live s h at free home,
        (
          (λ _. record {
            value = home.0;
            slot = ap (λ (l : List (ℕ × Option X)). (0, Some home.0) ∷ l) bare;
            kept = home.3 ∙ sym fits.kept_is;
            finds = record {
              seen = subst (λ (l : List Entry). IsPrefix m.0.seen l) (sym home.2) fits.seen;
              own = λ caller has. ap (by_caller caller) home.2 ∙ fits.own caller has;
              callers = subst (λ (l : List Entry). All (λ e. caller_of e < m.0.seats) l) (sym home.2) (subst (λ (n : ℕ). All (λ e. caller_of e < n) h.log) (sym fits.seats_is) h.callers);
            };
            view = refl;
          }),
          (λ ne. absurd (ne free)),
        ),
      ))
      (λ (taken : slice_index s.words 0 ≢ 0). (m.0, keeps, tt, take_miss (f (slice_index s.words 0)) (up _) id m.0 live s h at taken, ((λ z. absurd (taken z)), (λ _. refl))))

  -- Give back, by the holder
  give_keeps : (slots id : ℕ) (v : View) (value : X) → v.live ≡ true → v.holds ≡ true → kept_of value ≡ v.kept → MayLeave v (history value) → 0 < slots
      → (s : State (Option X) View) (h : Rule s) → length s.homes ≡ slots → get_elem? s.views id ≡ some v
      → Rule record { words = set s.words 0 0; homes = set s.homes 0 (some (Some value)); views = set s.views id (given v (history value)) }
  give_keeps slots id v value live on within may room s h long at =
      let w = given v (history value) in
      let fits = h.each_seat id v (at, live) in
      let held = h.holder id v (at, live) on in
      let now = get_or-set_same s.words 0 0 0 (omega (arith, h.words)) in
      record {
        log = history value;
        words = length-set s.words 0 0 ∙ h.words;
        callers = callers_added v.seen (history value) seats v may (subst (λ (l : List Entry). All (λ e. caller_of e < seats) l) (sym held.0) h.callers) fits.inside;
        each_seat = each_set history kept_of seats kept (history value) s.views id w (λ j u ne l. others j u ne l)
            (λ _. record {
              seats_is = fits.seats_is;
              kept_is = fits.kept_is;
              inside = fits.inside;
              seen = prefix_self (history value);
              told = prefix_trans v.told h.log (history value) fits.told (subst (λ (l : List Entry). IsPrefix l (history value)) held.0 (may.0, may.1));
              own = λ caller has. refl;
            });
        one_caller = callers_set history kept_of seats kept s h id v w (at, live) (λ caller has. has);
        home = λ _. (value, set_here s.homes 0 (some (Some value)) (omega arith), refl, within ∙ fits.kept_is);
        empty = λ n. absurd (n now);
        away = λ n. absurd (n now);
        holder = λ j u l hu. absurd (nobody_holds j u l hu);
        one_holder = λ i j a b la lb ha hb. absurd (nobody_holds i a la ha);
      }
    where
      grown : IsPrefix h.log (history value)
      grown = subst (λ (l : List Entry). IsPrefix l (history value)) (h.holder id v (at, live) on).0 (may.0, may.1)

      others : (j : ℕ) (u : View) → j ≢ id → Lives s.views j u → Fits seats kept (history value) u
      others j u ne l =
          let f = h.each_seat j u l in record {
            seats_is = f.seats_is;
            kept_is = f.kept_is;
            inside = f.inside;
            seen = prefix_trans u.seen h.log (history value) f.seen grown;
            told = prefix_trans u.told h.log (history value) f.told grown;
            own = λ caller has. others_added v.seen (history value) v caller may (λ hv. ne (h.one_caller j id u v l (at, live) caller has hv)) ∙ (ap (by_caller caller) (h.holder id v (at, live) on).0 ∙ f.own caller has);
          }

      nobody_holds : (j : ℕ) (u : View) → Lives (set s.views id (given v (history value))) j u → u.holds ≡ true → ⊥
      nobody_holds j u l hu = ⊎_elim
          (λ (t : (j ≡ id) × (given v (history value) ≡ u)). no_holder (ap (λ (z : View). z.holds) t.1 ∙ hu))
          (λ (t : (j ≢ id) × (get_elem? s.views j ≡ some u)). t.0 (h.one_holder j id u v (t.1, l.1) (at, live) hu on))
          (at_set s.views id j (given v (history value)) u l.0)

  pub gives_keep : (slots id : ℕ) (m : Me (Option X) View) (v : View) (value : X) → m ≡ (v, (0, Some value) ∷ []) → v.live ≡ true → v.holds ≡ true → kept_of value ≡ v.kept → MayLeave v (history value) → 0 < slots
      → Allows Rule slots id m 0 (λ _. 0) (gives_turn history kept_of (step 0 0 0 0 none) m)
  gives_keep slots id m v value is live on within may room = subst (λ (n : Me (Option X) View). Allows Rule slots id n 0 (λ _. 0) (gives_turn history kept_of (step 0 0 0 0 none) n)) (sym is)
      (λ s h long at small. (given v (history value), gives, tt, give_keeps slots id v value live on within may room s h long at, (λ other e. (ap (λ (l : List (ℕ × Option X)). (given v (held_history l), [])) e))))
    where
      held_history : List (ℕ × Option X) → List Entry
      held_history [] = []
      held_history (x ∷ xs) = history_or x.1
        where
          history_or : Option X → List Entry
          history_or (Some x) = history x
          history_or _ = []

-- a try by a compare-exchange leaves no 0 behind
pub tries_up : (n : ℕ) → either (eqb n 0) 1 n ≢ 0
tries_up n = exchanged n 0 1 (λ (k : ℕ). k ≢ 0) (λ e z. (let bad : ⊥ = omega arith in bad)) (λ ne. ne)

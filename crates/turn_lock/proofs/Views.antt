-- The views of a lock: what stays of the rule where the pointer stays where it is.
use Rattle.std.proofs.Common.{◌≡◌, ◌≢◌, ◌⊎◌, ℕ, zero, suc, ◌<◌, true, false, true≢false, List, [], ◌∷◌, ◌++◌, length, set, Option, refl, ap, sym, ◌∙◌, subst, ⊎_elim, inl, inr, arith}
use Rattle.std.specs.Prelude.{slice_index}
use mathlib.Core.Logic.{dite}
use mathlib.Core.Option.{some, some-injective, some-ne-none}
use native.Mathlib.Decide.{ℕ_discrete}
use lib.ListN.{get_elem?}
use Rattle.hs_types.specs.declared.journal.Entry.{Entry}
use Rattle.atomic_table.specs.Table.{State}
use Rattle.atomic_table.proofs.Lists.{at_set, set_here, set_else}
use Rattle.turn_lock.specs.declared.historied.Kept.{Kept}
use Rattle.turn_lock.specs.declared.view.View.{View}
use Rattle.turn_lock.specs.Rule.{Has, Fits, Lives, Turned}
use Rattle.turn_lock.specs.Steps.{nobody}

at_end : {A : Type 0} (l : List A) (a b : A) (j : ℕ) → get_elem? (l ++ a ∷ []) j ≡ some b → (get_elem? l j ≡ some b) ⊎ ((j ≡ length l) × (a ≡ b))
at_end [] a b zero e = inr (refl, some-injective a b e)
at_end [] a b (suc j) e = absurd (some-ne-none b (sym e))
at_end (x ∷ xs) a b zero e = inl e
at_end (x ∷ xs) a b (suc j) e = ⊎_elim inl (λ (t : (j ≡ length xs) × (a ≡ b)). inr (ap suc t.0, t.1)) (at_end xs a b j e)

longer_at : {A : Type 0} (l : List A) (a b : A) (j : ℕ) → get_elem? l j ≡ some b → get_elem? (l ++ a ∷ []) j ≡ some b
longer_at [] a b j e = absurd (some-ne-none b (sym e))
longer_at (x ∷ xs) a b zero e = e
longer_at (x ∷ xs) a b (suc j) e = longer_at xs a b j e

pub at_bound : {A : Type 0} (l : List A) (j : ℕ) (a : A) → get_elem? l j ≡ some a → j < length l
at_bound [] j a e = absurd (some-ne-none a (sym e))
at_bound (x ∷ xs) zero a e = omega arith
at_bound (x ∷ xs) (suc j) a e = let r = at_bound xs j a e in omega arith

pub no_holder : false ≡ true → ⊥
no_holder e = true≢false (sym e)

module _ {X : Type 0} (history : X → List Entry) (kept_of : X → Kept) (seats : ℕ) (kept : Kept) where
  abbrev Rule : State (Option X) View → Type 0
  Rule = Turned history kept_of seats kept

  -- every live seat of views' fits
  pub each_set : (log : List Entry) (views : List View) (id : ℕ) (w : View) → ((j : ℕ) (u : View) → j ≢ id → Lives views j u → Fits seats kept log u) → (w.live ≡ true → Fits seats kept log w)
      → (j : ℕ) (u : View) → Lives (set views id w) j u → Fits seats kept log u
  each_set log views id w others mine j u l =
      ⊎_elim
      (λ (t : (j ≡ id) × (w ≡ u)). subst (Fits seats kept log) t.1 (mine (ap (λ (z : View). z.live) t.1 ∙ l.1)))
      (λ (t : (j ≢ id) × (get_elem? views j ≡ some u)). others j u t.0 (t.1, l.1))
      (at_set views id j w u l.0)

  -- a live seat with the callers of the view u, which holds if u does, stood at this place
  abbrev Was : List View → ℕ → View → Type 0
  Was views j u = (o : View) × Lives views j o × ((caller : ℕ) → Has u caller → Has o caller) × (u.holds ≡ true → o.holds ≡ true)

  pub was_set : (views : List View) (id : ℕ) (v w : View) → Lives views id v → ((caller : ℕ) → Has w caller → Has v caller) → (w.holds ≡ true → v.holds ≡ true) → (j : ℕ) (u : View) → Lives (set views id w) j u → Was views j u
  was_set views id v w there has holds j u l =
      ⊎_elim
      (λ (t : (j ≡ id) × (w ≡ u)). (v, subst (λ (i : ℕ). Lives views i v) (sym t.0) there, subst (λ (z : View). (caller : ℕ) → Has z caller → Has v caller) t.1 has, subst (λ (z : View). z.holds ≡ true → v.holds ≡ true) t.1 holds))
      (λ (t : (j ≢ id) × (get_elem? views j ≡ some u)). (u, (t.1, l.1), (λ caller h. h), (λ h. h)))
      (at_set views id j w u l.0)

  pub callers_set : (s : State (Option X) View) (h : Rule s) (id : ℕ) (v w : View) → Lives s.views id v → ((caller : ℕ) → Has w caller → Has v caller)
      → (i j : ℕ) (a b : View) → Lives (set s.views id w) i a → Lives (set s.views id w) j b → (caller : ℕ) → Has a caller → Has b caller → i ≡ j
  callers_set s h id v w there has i j a b la lb caller ha hb =
      let x = had i a la ha in let y = had j b lb hb in h.one_caller i j x.0 y.0 x.1 y.1 caller x.2 y.2
    where
      had : (k : ℕ) (u : View) → Lives (set s.views id w) k u → Has u caller → (o : View) × Lives s.views k o × Has o caller
      had k u l hu = ⊎_elim
          (λ (t : (k ≡ id) × (w ≡ u)). (v, subst (λ (n : ℕ). Lives s.views n v) (sym t.0) there, has caller (subst (λ (y : View). Has y caller) (sym t.1) hu)))
          (λ (t : (k ≢ id) × (get_elem? s.views k ≡ some u)). (u, (t.1, l.1), hu))
          (at_set s.views id k w u l.0)

  -- a holder of before holds still
  pub stays : (views : List View) (id : ℕ) (v w : View) → Lives views id v → w.live ≡ true → w.holds ≡ v.holds → (j : ℕ) (u : View) → Lives views j u → u.holds ≡ true → (i : ℕ) × (z : View) × Lives (set views id w) i z × (z.holds ≡ true)
  stays views id v w there live holds j u l on = dite (ℕ_discrete j id)
      (λ (e : j ≡ id). (id, w, (set_here views id w (at_bound views id v there.0), live), holds ∙ (ap (λ (z : View). z.holds) (some-injective v u (sym there.0 ∙ (ap (get_elem? views) (sym e) ∙ l.0))) ∙ on)))
      (λ (ne : j ≢ id). (j, u, (set_else views id j w ne ∙ l.0, l.1), on))

  -- one seat's view changes, and it holds what it held
  unfoldable pub changes : (s : State (Option X) View) (h : Rule s) (words : List ℕ) (id : ℕ) (v w : View) → length words ≡ 2 → (slice_index words 0 ≡ 0 → slice_index s.words 0 ≡ 0) → (slice_index words 0 ≢ 0 → slice_index s.words 0 ≢ 0)
      → (slice_index s.words 0 ≢ 0 → slice_index words 0 ≢ 0) → Lives s.views id v → w.live ≡ true → Fits seats kept h.log w → ((caller : ℕ) → Has w caller → Has v caller) → w.holds ≡ v.holds → (w.holds ≡ true → w.seen ≡ h.log)
      → Rule record { words = words; homes = s.homes; views = set s.views id w }
  changes s h words id v w two zero_is up down there live fits has holds whole = record {
    log = h.log;
    words = two;
    callers = h.callers;
    each_seat = each_set h.log s.views id w (λ j u ne l. h.each_seat j u l) (λ _. fits);
    one_caller = callers_set s h id v w there has;
    home = λ z. h.home (zero_is z);
    empty = λ n. h.empty (up n);
    away = λ n. let t = h.away (up n) in stays s.views id v w there live holds t.0 t.1 t.2 t.3;
    holder = held;
    one_holder = λ i j a b la lb ha hb. let x = was_set s.views id v w there has (λ e. sym holds ∙ e) i a la in let y = was_set s.views id v w there has (λ e. sym holds ∙ e) j b lb in
        h.one_holder i j x.0 y.0 x.1 y.1 (x.3 ha) (y.3 hb);
  }
    where
      held : (j : ℕ) (u : View) → Lives (set s.views id w) j u → u.holds ≡ true → (u.seen ≡ h.log) × (slice_index words 0 ≢ 0)
      held j u l on = ⊎_elim
          (λ (t : (j ≡ id) × (w ≡ u)). let w_on : w.holds ≡ true = ap (λ (z : View). z.holds) t.1 ∙ on in (ap (λ (z : View). z.seen) (sym t.1) ∙ whole w_on, down (h.holder id v there (sym holds ∙ w_on)).1))
          (λ (t : (j ≢ id) × (get_elem? s.views j ≡ some u)). let k = h.holder j u (t.1, l.1) on in (k.0, down k.1))
          (at_set s.views id j w u l.0)

  -- a seat comes, which holds nothing and has no caller of another
  pub adds : (s : State (Option X) View) (h : Rule s) (r : View) → (r.live ≡ true → Fits seats kept h.log r) → r.holds ≡ false → ((j : ℕ) (u : View) → Lives s.views j u → (caller : ℕ) → Has u caller → Has r caller → ⊥)
      → Rule record { words = s.words; homes = s.homes; views = s.views ++ r ∷ [] }
  adds s h r fits free apart = record {
    log = h.log;
    words = h.words;
    callers = h.callers;
    each_seat = λ j u l. ⊎_elim
        (λ (e : get_elem? s.views j ≡ some u). h.each_seat j u (e, l.1))
        (λ (t : (j ≡ length s.views) × (r ≡ u)). subst (Fits seats kept h.log) t.1 (fits (ap (λ (z : View). z.live) t.1 ∙ l.1)))
        (at_end s.views r u j l.0);
    one_caller = ones;
    home = h.home;
    empty = h.empty;
    away = λ n. let t = h.away n in (t.0, t.1, (longer_at s.views r t.1 t.0 t.2.0, t.2.1), t.3);
    holder = λ j u l on. h.holder j u (old j u l on) on;
    one_holder = λ i j a b la lb ha hb. h.one_holder i j a b (old i a la ha) (old j b lb hb) ha hb;
  }
    where
      old : (j : ℕ) (u : View) → Lives (s.views ++ r ∷ []) j u → u.holds ≡ true → Lives s.views j u
      old j u l on = ⊎_elim
          (λ (e : get_elem? s.views j ≡ some u). (e, l.1))
          (λ (t : (j ≡ length s.views) × (r ≡ u)). absurd (no_holder (sym free ∙ (ap (λ (z : View). z.holds) t.1 ∙ on))))
          (at_end s.views r u j l.0)

      ones : (i j : ℕ) (a b : View) → Lives (s.views ++ r ∷ []) i a → Lives (s.views ++ r ∷ []) j b → (caller : ℕ) → Has a caller → Has b caller → i ≡ j
      ones i j a b la lb caller ha hb = ⊎_elim
          (λ (e : get_elem? s.views i ≡ some a). ⊎_elim
          (λ (f : get_elem? s.views j ≡ some b). h.one_caller i j a b (e, la.1) (f, lb.1) caller ha hb)
          (λ (f : (j ≡ length s.views) × (r ≡ b)). absurd (apart i a (e, la.1) caller ha (subst (λ (z : View). Has z caller) (sym f.1) hb)))
          (at_end s.views r b j lb.0))
          (λ (e : (i ≡ length s.views) × (r ≡ a)). ⊎_elim
          (λ (f : get_elem? s.views j ≡ some b). absurd (apart j b (f, lb.1) caller hb (subst (λ (z : View). Has z caller) (sym e.1) ha)))
          (λ (f : (j ≡ length s.views) × (r ≡ b)). e.0 ∙ sym f.0)
          (at_end s.views r b j lb.0))
          (at_end s.views r a i la.0)

  -- a seat that holds nothing is joined away
  pub spends : (s : State (Option X) View) (h : Rule s) (id : ℕ) (v : View) → get_elem? s.views id ≡ some v → v.holds ≡ false → Rule record { words = s.words; homes = s.homes; views = set s.views id nobody }
  spends s h id v at free = record {
    log = h.log;
    words = h.words;
    callers = h.callers;
    each_seat = each_set h.log s.views id nobody (λ j u ne l. h.each_seat j u l) (λ live. absurd (no_holder live));
    one_caller = λ i j a b la lb caller ha hb. h.one_caller i j a b (old i a la) (old j b lb) caller ha hb;
    home = h.home;
    empty = h.empty;
    away = λ n. let t = h.away n in (t.0, t.1, (set_else s.views id t.0 nobody (apart t.0 t.1 t.2 t.3) ∙ t.2.0, t.2.1), t.3);
    holder = λ j u l on. h.holder j u (old j u l) on;
    one_holder = λ i j a b la lb ha hb. h.one_holder i j a b (old i a la) (old j b lb) ha hb;
  }
    where
      old : (j : ℕ) (u : View) → Lives (set s.views id nobody) j u → Lives s.views j u
      old j u l = ⊎_elim
          (λ (t : (j ≡ id) × (nobody ≡ u)). absurd (no_holder (ap (λ (z : View). z.live) t.1 ∙ l.1)))
          (λ (t : (j ≢ id) × (get_elem? s.views j ≡ some u)). (t.1, l.1))
          (at_set s.views id j nobody u l.0)

      apart : (j : ℕ) (u : View) → Lives s.views j u → u.holds ≡ true → j ≢ id
      apart j u l on e = no_holder (sym free ∙ (ap (λ (z : View). z.holds) (some-injective v u (sym at ∙ (ap (get_elem? s.views) (sym e) ∙ l.0))) ∙ on))

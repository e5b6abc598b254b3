-- Splits, joins and the load after a join keep the rule of the turn.
use Rattle.std.proofs.Common.{◌≡◌, ◌≢◌, ℕ, ◌≤◌, ◌<◌, true, false, List, [], ◌∷◌, length, set, Option, refl, ap, sym, ◌∙◌, subst, ⊎_elim, arith}
use Rattle.std.specs.Prelude.{slice_index}
use mathlib.Core.Option.{none, some}
use mathlib.Core.List.{IsPrefix}
use lib.ListN.{get_elem?}
use Rattle.hs_types.specs.declared.journal.Entry.{Entry}
use Rattle.atomic_table.specs.Table.{State, Me, step, keeps, Allows, Splits, Joins}
use Rattle.atomic_table.proofs.Lists.{at_set, set_again}
use Rattle.turn_lock.specs.declared.historied.Kept.{Kept}
use Rattle.turn_lock.specs.declared.view.View.{View}
use Rattle.turn_lock.specs.Histories.{longer}
use Rattle.turn_lock.specs.Rule.{Has, Fits, Turned}
use Rattle.turn_lock.specs.Steps.{nobody, without_first, only_first, note_of, informed, learned, Learns, learns}
use Rattle.turn_lock.proofs.Prefixes.{prefix_self, prefix_nil, prefix_shorter, prefix_length, prefix_whole, own_between, longer_is}
use Rattle.turn_lock.proofs.Views.{changes, adds, spends}

-- both begin the longer of two beginnings of one list, which is one
longer_seen : (xs ys log : List Entry) → IsPrefix xs log → IsPrefix ys log → IsPrefix xs (longer xs ys)
longer_seen xs ys log p q = longer_is xs ys (λ l. IsPrefix xs l) (λ less. prefix_shorter xs ys log p q (omega arith)) (λ more. prefix_self xs)

longer_told : (xs ys log : List Entry) → IsPrefix xs log → IsPrefix ys log → IsPrefix ys (longer xs ys)
longer_told xs ys log p q = longer_is xs ys (λ l. IsPrefix ys l) (λ less. prefix_self ys) (λ more. prefix_shorter ys xs log q p more)

longer_fits : (xs ys log : List Entry) → IsPrefix xs log → IsPrefix ys log → IsPrefix (longer xs ys) log
longer_fits xs ys log p q = longer_is xs ys (λ l. IsPrefix l log) (λ less. q) (λ more. p)

longer_whole : (ys log : List Entry) → IsPrefix ys log → longer log ys ≡ log
longer_whole ys log q = longer_is log ys (λ l. l ≡ log) (λ less. absurd (let le = prefix_length ys log q in omega arith)) (λ more. refl)

here : (words : List ℕ) → 0 < length words → get_elem? words 0 ≡ some (slice_index words 0)
here [] le = absurd (omega arith)
here (x ∷ xs) le = refl

module _ {X : Type 0} (history : X → List Entry) (kept_of : X → Kept) (seats : ℕ) (kept : Kept) where
  abbrev Rule : State (Option X) View → Type 0
  Rule = Turned history kept_of seats kept

  learned_fits : (log : List Entry) (v : View) → Fits seats kept log v → Fits seats kept log (learned v)
  learned_fits log v f = record {
    seats_is = f.seats_is;
    kept_is = f.kept_is;
    inside = f.inside;
    seen = longer_fits v.seen v.told log f.seen f.told;
    told = prefix_nil log;
    own = λ caller has. f.own caller has ∙ sym (own_between caller v.seen (longer v.seen v.told) log (longer_seen v.seen v.told log f.seen f.told) (longer_fits v.seen v.told log f.seen f.told) (f.own caller has));
  }

  -- Load after a join
  pub learns_keep : (slots id : ℕ) (m : Me (Option X) View) → m.0.live ≡ true → Allows Rule slots id m 0 (λ n. n) (learns (step 0 0 0 0 none) m)
  learns_keep slots id m live s h long at small =
      let v = m.0 in
      let f = h.each_seat id v (at, live) in
      let whole : v.holds ≡ true → longer v.seen v.told ≡ v.seen = λ on. (let e = (h.holder id v (at, live) on).0 in longer_whole v.told v.seen (subst (λ (l : List Entry). IsPrefix v.told l) (sym e) f.told)) in
      let same : set s.words 0 (slice_index s.words 0) ≡ s.words = set_again s.words 0 (slice_index s.words 0) (here s.words (omega (arith, h.words))) in (
        learned v,
        keeps,
        tt,
        subst (λ (ws : List ℕ). Rule record { words = ws; homes = s.homes; views = set s.views id (learned v) }) (sym same)
            (changes history kept_of seats kept s h s.words id v (learned v) h.words (λ z. z) (λ z. z) (λ z. z) (at, live) live (learned_fits h.log v f) (λ caller has. has) refl
            (λ on. whole on ∙ (h.holder id v (at, live) on).0)),
        (
          record {
            view = refl;
            seen = longer_seen v.seen v.told h.log f.seen f.told;
            told = longer_told v.seen v.told h.log f.seen f.told;
            own = λ caller has. own_between caller v.seen (longer v.seen v.told) h.log (longer_seen v.seen v.told h.log f.seen f.told) (longer_fits v.seen v.told h.log f.seen f.told) (f.own caller has);
            whole = whole;
          },
          refl,
        ),
      )

  -- Split: a seat for the first of a seat's callers
  pub deals : (id : ℕ) (v : View) → v.live ≡ true → v.from < v.to → v.holds ≡ false → Splits Rule id v (without_first v) (only_first v)
  unfolding changes
  deals id v live more free s h at =
      let f = h.each_seat id v (at, live) in
      let left = without_first v in
      let right = only_first v in
      let t : Rule record { words = s.words; homes = s.homes; views = set s.views id left } =
      changes history kept_of seats kept s h s.words id v left h.words (λ z. z) (λ z. z) (λ z. z) (at, live) live
      (record { seats_is = f.seats_is; kept_is = f.kept_is; inside = f.inside; seen = f.seen; told = f.told; own = λ caller has. f.own caller (omega (arith, has.0), has.1) })
      (λ caller has. (omega (arith, has.0), has.1)) refl (λ on. (h.holder id v (at, live) on).0) in
      adds history kept_of seats kept (record { words = s.words; homes = s.homes; views = set s.views id left }) t right
      (λ _. record { seats_is = f.seats_is; kept_is = f.kept_is; inside = omega (arith, f.inside); seen = f.seen; told = f.told; own = λ caller has. f.own caller (has.0, (let b = has.1 in omega arith)) })
      refl
      (λ j u l caller hu hr. ⊎_elim
      (λ (t : (j ≡ id) × (left ≡ u)). (let a = (subst (λ (z : View). Has z caller) (sym t.1) hu).0 in let b = hr.1 in let bad : ⊥ = omega arith in bad))
      (λ (t : (j ≢ id) × (get_elem? s.views j ≡ some u)). t.0 (h.one_caller j id u v (t.1, l.1) (at, live) caller hu (hr.0, (let b = hr.1 in omega arith))))
      (at_set s.views id j left u l.0))

  -- Split: a note for a meeting
  pub notes : (id : ℕ) (v : View) → v.live ≡ true → Splits Rule id v v (note_of v)
  unfolding changes
  notes id v live s h at =
      let f = h.each_seat id v (at, live) in
      let t : Rule record { words = s.words; homes = s.homes; views = set s.views id v } =
      changes history kept_of seats kept s h s.words id v v h.words (λ z. z) (λ z. z) (λ z. z) (at, live) live f (λ caller has. has) refl (λ on. (h.holder id v (at, live) on).0) in
      adds history kept_of seats kept (record { words = s.words; homes = s.homes; views = set s.views id v }) t (note_of v)
      (λ _. record { seats_is = f.seats_is; kept_is = f.kept_is; inside = omega arith; seen = f.seen; told = prefix_nil h.log; own = λ caller has. absurd (omega (arith, has.1)) })
      refl
      (λ j u l caller hu hr. (let b = hr.1 in let bad : ⊥ = omega arith in bad))

  -- Join: what a note has seen is told
  pub informs : (id : ℕ) (v : View) (other : ℕ) (w : View) → v.live ≡ true → w.live ≡ true → w.holds ≡ false → Joins Rule id v other w (informed v w) nobody
  unfolding changes
  informs id v other w live alive free s h at apart there =
      let f = h.each_seat id v (at, live) in
      let before : get_elem? s.views other ≡ some w = ⊎_elim (λ (t : (other ≡ id) × (informed v w ≡ w)). absurd (apart t.0)) (λ (t : (other ≢ id) × (get_elem? s.views other ≡ some w)). t.1) (at_set s.views id other (informed v w) w there) in
      let g = h.each_seat other w (before, alive) in
      let t : Rule record { words = s.words; homes = s.homes; views = set s.views id (informed v w) } =
      changes history kept_of seats kept s h s.words id v (informed v w) h.words (λ z. z) (λ z. z) (λ z. z) (at, live) live
      (record { seats_is = f.seats_is; kept_is = f.kept_is; inside = f.inside; seen = f.seen; told = g.seen; own = f.own }) (λ caller has. has) refl (λ on. (h.holder id v (at, live) on).0) in
      spends history kept_of seats kept (record { words = s.words; homes = s.homes; views = set s.views id (informed v w) }) t other w there free

same_length : (xs ys : List Entry) → IsPrefix ys (longer xs ys) → length xs ≤ length ys → length ys ≤ length xs → xs ≡ ys
same_length xs ys p le ge =
    let longest : longer xs ys ≡ xs = longer_is xs ys (λ l. l ≡ xs) (λ less. absurd (omega arith)) (λ more. refl) in
    sym (prefix_whole ys xs (subst (λ (l : List Entry). IsPrefix ys l) longest p) le)

-- the longer of two is one, whichever comes first
longer_turned : (xs ys : List Entry) → IsPrefix ys (longer xs ys) → longer ys xs ≡ longer xs ys
longer_turned xs ys p = longer_is ys xs (λ l. l ≡ longer xs ys)
    (λ less. longer_is xs ys (λ l. xs ≡ l) (λ other. absurd (omega arith)) (λ more. refl))
    (λ le. longer_is xs ys (λ l. ys ≡ l) (λ less. refl) (λ ge. sym (same_length xs ys p le ge)))

-- two seats that looked at each other's history have seen one
pub meets_once : (u v p q : View) → Learns (informed u v) p → Learns (informed v u) q → q.seen ≡ longer u.seen v.seen
meets_once u v p q a b = ap (λ (z : View). z.seen) b.view ∙ longer_turned u.seen v.seen (subst (λ (z : View). IsPrefix v.seen z.seen) a.view a.told)

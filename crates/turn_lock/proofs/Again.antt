-- A seat that took the pointer, gave it back as it was, and takes it again.
use Rattle.std.proofs.Common.{◌≡◌, ℕ, ◌<◌, Bool, true, false, List, [], ap, sym, ◌∙◌, subst, append-nil}
use Rattle.std.specs.Prelude.{All, MatchBool}
use Rattle.std.proofs.lemmas.List.Elements.{All-nil}
use mathlib.Core.List.{IsPrefix}
use Rattle.hs_types.specs.declared.journal.Entry.{Entry}
use Rattle.turn_lock.specs.declared.view.View.{View}
use Rattle.turn_lock.specs.Histories.{caller_of, by_caller}
use Rattle.turn_lock.specs.Rule.{Has}
use Rattle.turn_lock.specs.Steps.{holding, given, Finds, MayLeave}
use Rattle.turn_lock.proofs.Prefixes.{prefix_self, prefix_trans}

-- the view of a seat at first, and after some turns in which nothing was done
abbrev pub Waited : View → View → Type 0
Waited v u = (holding u [] ≡ holding v []) × IsPrefix v.seen u.seen × ((caller : ℕ) → Has v caller → by_caller caller u.seen ≡ by_caller caller v.seen)

pub waited_none : (v : View) → Waited v v
waited_none v = (λ i. holding v [], prefix_self v.seen, λ caller has i. by_caller caller v.seen)

-- what it finds later, it might have found at first
pub finds_first : (v u : View) (log : List Entry) → Waited v u → Finds u log → Finds v log
finds_first v u log waited finds = record {
  seen = prefix_trans v.seen u.seen log waited.1 finds.seen;
  own = λ caller has. finds.own caller (subst (λ (z : View). Has z caller) (sym waited.0) has) ∙ waited.2 caller has;
  callers = subst (λ (z : View). All (λ e. caller_of e < z.seats) log) waited.0 finds.callers;
}

-- one turn more
pub waited_more : (v u : View) (log : List Entry) → Waited v u → Finds u log → Waited v (given u log)
waited_more v u log waited finds = let first = finds_first v u log waited finds in (waited.0, first.seen, first.own)

-- what may be left by a seat that found this at first, it may leave later
pub leaves_later : (v u m : View) (log new : List Entry) → Waited v u → m ≡ holding u log → MayLeave (holding v log) new → MayLeave m new
leaves_later v u m log new waited is may = subst (λ (z : View). MayLeave z new) (sym (is ∙ ap (λ (z : View). holding z log) waited.0)) may

pub leaves_same : (u m : View) (log new : List Entry) → m ≡ holding u log → new ≡ log → MayLeave m new
leaves_same u m log new is same = subst (λ (z : View). MayLeave z new) (sym is) ([], append-nil log ∙ sym same, All-nil (λ e. Has (holding u log) (caller_of e)))

pub either_way : {P Q R : Type 0} (b : Bool) → MatchBool b P Q → (P → R) → (Q → R) → R
either_way true h f g = f h
either_way false h f g = g h

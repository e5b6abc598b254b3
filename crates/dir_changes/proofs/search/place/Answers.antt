use Rattle.std.proofs.Common.{◌≡◌, ◌<◌, ◌+◌, ◌-◌, ◌/◌, length, inl, inr, sym, ap, subst, ◌∙◌, arith}
use Rattle.std.specs.declared.cmp.Ordering.TheVariants.{Less}
use Rattle.std.proofs.lemmas.Bool.{cases_lt}
use Rattle.dir_changes.specs.Entries.{name_order}
use Rattle.dir_changes.specs.Children.{name_at}
use Rattle.dir_changes.proofs.UndoLaw.{names_exact}
use Rattle.dir_changes.proofs.PlaceLaws.{name_at-get_or, names_rise, less_trans, turned_back}
use Rattle.dir_changes.proofs.search.place.Goals as goal

-- the middle's name is smaller, and so are those before it
pub loop-low-preserved-in-Less : goal.loop-low-preserved-in-Less
loop-low-preserved-in-Less c =
    let es = c.args.children.now in
    let name = c.args.name.now in
    let middle = c.loop-low.low + (c.loop-low.high - c.loop-low.low) / 2 in
    let within : middle < length es = omega (arith, c.loop-low.invariant.bound) in
    let here = ap (λ e. e.0) c.index-children-middle.is ∙ name_at-get_or es middle c.index-children-middle.result within in
    let smaller : name_order (name_at es middle) name ≡ Less = ap (λ n. name_order n name) (sym here) ∙ sym c.compare.ensures ∙ c.in-Less.is in
    record {
      ordered = omega (arith, c.loop-low.invariant.ordered);
      bound = c.loop-low.invariant.bound;
      before = λ j lt. elim (cases_lt j middle) [
        | inl below ↦ less_trans (name_at es j) (name_at es middle) name (names_rise es j middle c.requires below within) smaller
        | inr same ↦ subst (λ i. name_order (name_at es i) name ≡ Less) {x = middle} (omega arith) smaller
      ];
      after = c.loop-low.invariant.after;
    }

pub returns-in-Equal-clause-found : goal.returns-in-Equal-clause-found
returns-in-Equal-clause-found c =
    let es = c.args.children.now in
    let name = c.args.name.now in
    let middle = c.loop-low.low + (c.loop-low.high - c.loop-low.low) / 2 in
    let within : middle < length es = omega (arith, c.loop-low.invariant.bound) in
    let here = ap (λ e. e.0) c.index-children-middle.is ∙ name_at-get_or es middle c.index-children-middle.result within in
    let same : name_at es middle ≡ name = names_exact _ name (ap (λ n. name_order n name) (sym here) ∙ sym c.compare.ensures ∙ c.in-Equal.is) in
    record {
      within = within;
      before = λ j lt. subst (λ n. name_order (name_at es j) n ≡ Less) same (names_rise es j middle c.requires lt within);
      here = same;
    }

-- the middle's name is greater
pub loop-low-preserved : goal.loop-low-preserved
loop-low-preserved c =
    let es = c.args.children.now in
    let name = c.args.name.now in
    let middle = c.loop-low.low + (c.loop-low.high - c.loop-low.low) / 2 in
    record {
      ordered = omega arith;
      bound = omega (arith, c.loop-low.invariant.bound);
      before = c.loop-low.invariant.before;
      after = λ within.
          let here = ap (λ e. e.0) c.index-children-middle.is ∙ name_at-get_or es middle c.index-children-middle.result within in
          turned_back (name_at es middle) name (ap (λ n. name_order n name) (sym here) ∙ sym c.compare.ensures ∙ c.in-Greater.is);
    }

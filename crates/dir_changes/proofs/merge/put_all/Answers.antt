use Rattle.std.proofs.Common.{◌≡◌, [], ◌∷◌, ◌++◌, append_assoc, sym, ap, subst, ◌∙◌, arith}
use Rattle.std.specs.Prelude.{IsTrue}
use Rattle.dir_changes.specs.Entries.{Entry, Entries, in_order, with_all}
use Rattle.dir_changes.specs.Merge.{smaller, greater}
use Rattle.dir_changes.proofs.MergeLaws.{with_all-step, in_order-tail, in_order-greater}
use Rattle.dir_changes.proofs.merge.put_all.Goals as goal

regrouped : (out front rest : Entries) (e : Entry) → ((out ++ front) ++ e ∷ []) ++ rest ≡ out ++ (front ++ (e ∷ rest))
regrouped out front rest e = simp append_assoc

pub loop-child-preserved : goal.loop-child-preserved
loop-child-preserved c =
    let child = c.in-Some.child in
    let list = c.loop-child.list.items in
    let rest = c.pop_front.new.self.items in
    let whole : c.loop-child.more.items ≡ child ∷ rest = c.in-Some.ensures.items in
    let sorted : IsTrue (in_order (child ∷ rest)) = subst (λ l. IsTrue (in_order l)) whole c.loop-child.invariant.more_in_order in
    let step = with_all-step child rest list sorted c.loop-child.invariant.list_in_order in
    record {
      moved = rw (c.put_after_smaller.ensures.moved, c.put_after_smaller.ensures.rest)
          (regrouped c.loop-child.out.items (smaller child.0 list) (with_all rest (greater child.0 list)) child
          ∙ ap (λ l. c.loop-child.out.items ++ l) (sym step ∙ ap (λ m. with_all m list) (sym whole)) ∙ c.loop-child.invariant.moved);
      list_in_order = rw c.put_after_smaller.ensures.rest (in_order-greater child.0 list c.loop-child.invariant.list_in_order);
      more_in_order = in_order-tail child rest sorted;
      capacity = c.put_after_smaller.ensures.capacity ∙ c.loop-child.invariant.capacity;
      room = omega (arith, c.put_after_smaller.ensures.room, c.loop-child.invariant.room, c.in-Some.ensures.len);
      fits = omega (arith, c.put_after_smaller.ensures.capacity, c.loop-child.invariant.fits);
    }

-- Insertion by name, and by path, at a place that is counted from the front.
use Rattle.std.proofs.Common.{◌≡◌, suc, ◌+◌, Bool, true, false, cond, List, [], ◌∷◌, refl, ap, sym, ◌∙◌, arith}
use Rattle.std.specs.Prelude.{insert}
use Rattle.std.specs.List.{prefix_len}
use Rattle.hs_types.specs.declared.reply.Item.{Item}
use Rattle.hs_plain.specs.State.{is_lesser, with_item}

pub with_item_at : (item : Item) (items : List Item) → insert items (prefix_len (is_lesser item.name) items) item ≡ with_item item items
with_item_at item [] = refl
with_item_at item (other ∷ items) = by (is_lesser item.name other) refl (with_item_at item items)
  where
    by : (b : Bool) → is_lesser item.name other ≡ b → insert items (prefix_len (is_lesser item.name) items) item ≡ with_item item items →
        insert (other ∷ items) (cond (is_lesser item.name other) (1 + prefix_len (is_lesser item.name) items) 0) item ≡ cond (is_lesser item.name other) (other ∷ with_item item items) (item ∷ other ∷ items)
    by true e rest =
        ap (λ b. insert (other ∷ items) (cond b (1 + prefix_len (is_lesser item.name) items) 0) item) e
        ∙ ap (λ n. insert (other ∷ items) n item) {x = 1 + prefix_len (is_lesser item.name) items} {y = suc (prefix_len (is_lesser item.name) items)} (omega arith)
        ∙ ap (λ (xs : List Item). other ∷ xs) rest
        ∙ ap (λ b. cond b (other ∷ with_item item items) (item ∷ other ∷ items)) (sym e)
    by false e rest =
        ap (λ b. insert (other ∷ items) (cond b (1 + prefix_len (is_lesser item.name) items) 0) item) e
        ∙ ap (λ b. cond b (other ∷ with_item item items) (item ∷ other ∷ items)) (sym e)

-- A listing's names rise, since its tree's paths do.
use Rattle.std.proofs.Common.{◌≡◌, ℕ, Bool, true, false, cond, Option, Some, None, Ok, List, [], ◌∷◌, drop, length, bytes_eq, refl, ap, sym, ◌∙◌, subst}
use Rattle.std.specs.List.{AllByRecursion, list_all, cons_option, starts_with}
use Rattle.std.specs.Ordering.{nat_cmp, is_lt, is_eq, ordering_then}
use Rattle.std.specs.declared.cmp.Ordering.{Ordering}
use Rattle.std.specs.declared.cmp.Ordering.TheVariants.{Less, Equal, Greater}
use Rattle.std.specs.Cmp.Lexicographic.{slice_cmp}
use Rattle.std.specs.FinMap.Entries.{is_sorted, below_all}
use Rattle.std.proofs.lemmas.Map.Text.{is_eq-slice_cmp}
use Rattle.std.proofs.lemmas.Slice.Eq.{bytes_eq-Decides}
use Rattle.hs_types.specs.Names.{Names}
use Rattle.hs_types.specs.declared.ids.InodeId.{InodeId}
use Rattle.hs_types.specs.declared.ids.SnapId.{SnapId}
use Rattle.hs_types.specs.declared.call.Place.TheVariants as places
use Rattle.hs_types.specs.declared.refusal.Refusal.TheVariants.{NotDir}
use Rattle.hs_types.specs.declared.reply.Item.{Item}
use Rattle.hs_plain.specs.declared.state.Node.{Node}
use Rattle.hs_plain.specs.declared.state.Member.{Member}
use Rattle.hs_plain.specs.declared.state.State.{State}
use Rattle.hs_plain.specs.Tree.{Tree, path_cmp, only_name, child_item, named_item, listing, is_dir, place_of}
use Rattle.hs_plain.specs.State.{member_with, items_of, items_at}
use Rattle.hs_plain.specs.Pages.{is_behind}
use Rattle.hs_plain.specs.inside.Cuts.{NamesRise}
use Rattle.hs_plain.proofs.Facts.{some_of, none_some, okay, ok_of, refused, err_ok}
use Rattle.hs_plain.proofs.ValidTrees.{first, second}
use Rattle.hs_plain.proofs.Paged.{IsGiven, given, with_all}

eq_of : (o : Ordering) → is_eq o ≡ true → o ≡ Equal
eq_of Less e = cc
eq_of Equal e = refl
eq_of Greater e = cc

-- both paths begin with one name
pub same_front : (d x y : List ℕ) → bytes_eq d x ≡ true → bytes_eq d y ≡ true → slice_cmp nat_cmp x y ≡ Equal
same_front d x y dx dy =
    eq_of (slice_cmp nat_cmp x y) (is_eq-slice_cmp x y ∙ (bytes_eq-Decides x y).1 (sym ((bytes_eq-Decides d x).0 dx) ∙ (bytes_eq-Decides d y).0 dy))

one_name : (names : Names) (a : List ℕ) → only_name names ≡ Some a → names ≡ a ∷ []
one_name [] a e = absurd (cc)
one_name (n ∷ []) a e = ap (λ m. m ∷ []) (some_of n a e)
one_name (n ∷ m ∷ names) a e = absurd (cc)

then_equal : (o : Ordering) → ordering_then o Equal ≡ o
then_equal Less = refl
then_equal Equal = refl
then_equal Greater = refl

-- two children of one directory stand as their names do
children_cmp : (dir p q : Names) (a b : List ℕ) → starts_with bytes_eq p dir ≡ true → starts_with bytes_eq q dir ≡ true → only_name (drop (length dir) p) ≡ Some a → only_name (drop (length dir) q) ≡ Some b →
    path_cmp p q ≡ slice_cmp nat_cmp a b
children_cmp [] p q a b pd qd pa qb =
    ap (λ (r : Names). path_cmp r q) (one_name p a pa) ∙ ap (λ (r : Names). path_cmp (a ∷ []) r) (one_name q b qb) ∙ then_equal (slice_cmp nat_cmp a b)
children_cmp (d ∷ dir) [] q a b pd qd pa qb = absurd (cc)
children_cmp (d ∷ dir) (x ∷ p) [] a b pd qd pa qb = absurd (cc)
children_cmp (d ∷ dir) (x ∷ p) (y ∷ q) a b pd qd pa qb =
    ap (λ o. ordering_then o (path_cmp p q)) (same_front d x y (first _ _ pd) (first _ _ qd))
    ∙ children_cmp dir p q a b (second (bytes_eq d x) _ pd) (second (bytes_eq d y) _ qd) pa qb

-- what a child's item says of its path
record ChildOf (dir : Names) (path : Names) (name : List ℕ) : Type 0 where
  starts : starts_with bytes_eq path dir ≡ true
  below : only_name (drop (length dir) path) ≡ Some name

module _ {B : Type 0} where
  child_of : (dir : Names) (place : Names × Node B) (item : Item) → child_item dir place ≡ Some item → ChildOf dir place.0 item.name
  child_of dir place item is = by (starts_with bytes_eq place.0 dir) refl (only_name (drop (length dir) place.0)) refl is
    where
      by : (s : Bool) → starts_with bytes_eq place.0 dir ≡ s → (o : Option (List ℕ)) → only_name (drop (length dir) place.0) ≡ o → named_item place.1 (cond (starts_with bytes_eq place.0 dir) (only_name (drop (length dir) place.0)) None) ≡ Some item → ChildOf dir place.0 item.name
      by true s_is None o_is e = absurd (none_some item (sym (ap (λ b. named_item place.1 (cond b (only_name (drop (length dir) place.0)) None)) s_is ∙ ap (named_item place.1) o_is) ∙ e))
      by true s_is (Some name) o_is e = record { starts = s_is; below = o_is ∙ ap (λ (i : Item). Some i.name) (some_of _ item (sym (ap (λ b. named_item place.1 (cond b (only_name (drop (length dir) place.0)) None)) s_is ∙ ap (named_item place.1) o_is) ∙ e)) }
      by false s_is o o_is e = absurd (none_some item (sym (ap (λ b. named_item place.1 (cond b (only_name (drop (length dir) place.0)) None)) s_is) ∙ e))

  all_behind : (dir : Names) (place : Names × Node B) (item : Item) (tree : Tree B) → child_item dir place ≡ Some item → below_all path_cmp place.0 tree ≡ true → AllByRecursion (λ other. is_behind item.name other ≡ true) (listing tree dir)
  all_behind dir place item [] is below = tt
  all_behind dir place item (p ∷ tree) is below =
      elim (child_item dir p) as (λ o. o ≡ child_item dir p → AllByRecursion (λ other. is_behind item.name other ≡ true) (cons_option o (listing tree dir))) [
        | None ↦ λ e. all_behind dir place item tree is (second (is_lt (path_cmp place.0 p.0)) _ below)
        | Some other ↦ λ e.
            let mine : ChildOf dir place.0 item.name = child_of dir place item is in
            let its : ChildOf dir p.0 other.name = child_of dir p other (sym e) in (
              ap is_lt (sym (children_cmp dir place.0 p.0 item.name other.name mine.starts its.starts mine.below its.below)) ∙ first _ _ below,
              all_behind dir place item tree is (second (is_lt (path_cmp place.0 p.0)) _ below),
            )
      ] refl

  pub listing-rises : (tree : Tree B) (dir : Names) → is_sorted path_cmp tree ≡ true → NamesRise (listing tree dir)
  listing-rises [] dir sorted = tt
  listing-rises (p ∷ tree) dir sorted =
      elim (child_item dir p) as (λ o. o ≡ child_item dir p → NamesRise (cons_option o (listing tree dir))) [
        | None ↦ λ e. listing-rises tree dir (second (below_all path_cmp p.0 tree) _ sorted)
        | Some item ↦ λ e. (all_behind dir p item tree (sym e) (first _ _ sorted), listing-rises tree dir (second (below_all path_cmp p.0 tree) _ sorted))
      ] refl

-- ---- at a frozen place

items-rise : {B : Type 0} (tree : Tree B) (place : Option (Names × Node B)) (items : List Item) → is_sorted path_cmp tree ≡ true → items_of tree place ≡ Ok items → NamesRise items
items-rise tree None items sorted is = absurd (cc)
items-rise tree (Some place) items sorted is = by (is_dir place.1) refl
  where
    by : (b : Bool) → is_dir place.1 ≡ b → NamesRise items
    by true e = subst NamesRise (ok_of (listing tree place.0) items (sym (ap (λ b. cond b (okay (listing tree place.0)) (refused NotDir)) e) ∙ is)) (listing-rises tree place.0 sorted)
    by false e = absurd (err_ok NotDir items (sym (ap (λ b. cond b (okay (listing tree place.0)) (refused NotDir)) e) ∙ is))

-- where the paths of each copied tree rise, the names of a frozen listing do
pub frozen-rises : {B : Type 0} (state : State B) (id : InodeId) (snapshot : SnapId) (items : List Item) → list_all (λ member. is_sorted path_cmp member.tree) state.members ≡ true → items_at state (places.Frozen id snapshot) ≡ Ok items → NamesRise items
frozen-rises {B = B} state id snapshot items sorted is =
    let there : IsGiven (member_with state.members snapshot) (λ m. items_of m.tree (place_of m.tree id)) items = given (member_with state.members snapshot) (λ m. items_of m.tree (place_of m.tree id)) items is in
    items-rise there.x.tree (place_of there.x.tree id) items (with_all (λ (member : Member B). is_sorted path_cmp member.tree) state.members snapshot there.x sorted there.gave) there.then

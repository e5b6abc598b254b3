-- Snapshottable directories: each is a directory of the live tree, and none lies below another.
use Rattle.std.proofs.Common.{◌≡◌, ℕ, ◌+◌, ◌<◌, true, false, List, [], ◌∷◌, ◌++◌, length, drop, Option, Some, None, refl, sym, ap, subst, ◌∙◌, length-append, arith}
use Rattle.std.specs.Prelude.{bytes_eq}
use Rattle.std.specs.List.{list_any, list_all, filter_map, starts_with}
use Rattle.std.specs.Option.{option_map}
use Rattle.std.specs.FinMap.Entries.{is_sorted}
use Rattle.std.proofs.lemmas.Bool.Decides.{Decides-ltb}
use Rattle.hs_types.specs.Names.{Names}
use Rattle.hs_types.specs.declared.ids.InodeId.{InodeId}
use Rattle.hs_plain.specs.declared.state.Node.{Node}
use Rattle.hs_plain.specs.Tree.{Tree, path_cmp, node_at, is_dir, is_above, same_inode, place_of, path_at}
use Rattle.hs_plain.specs.Valid.{is_dir_place, has_nested}
use Rattle.hs_plain.proofs.ValidTrees.{both, first, second}
use Rattle.hs_plain.proofs.ValidShapes.{Shape, Shapes, IsTree, same_some, under_so, under_test, true_false}
use Rattle.hs_plain.proofs.ValidNodes.{shape, shapes, shape_some}
use Rattle.hs_plain.proofs.ValidLists.{In, false_by, by_push, all_so, all_from, none_so, none_from, any_so, any_from, in-filter_map, filter_map_so}
use Rattle.hs_plain.proofs.ValidMembers.{inode_so, inode_test}
use Rattle.hs_plain.proofs.ValidHeld.{found_place}
use Rattle.hs_plain.proofs.Trees.{IsOnce, place_so, place_there}

-- ---- paths above others

pub above_so : (p q : Names) → is_above p q ≡ true → (name : List ℕ) × (rest : Names) × (q ≡ p ++ name ∷ rest)
above_so p q h = longer (drop (length p) q) (under_so q p (first (starts_with bytes_eq q p) _ h))
  where
    longer : (rest : Names) → q ≡ p ++ rest → (name : List ℕ) × (rest : Names) × (q ≡ p ++ name ∷ rest)
    longer [] e =
        let len : length q ≡ length p + 0 = ap length e ∙ length-append p [] in
        let lt : length p < length q = (Decides-ltb (length p) (length q)).0 (second (starts_with bytes_eq q p) _ h) in
        absurd (omega arith)
    longer (name ∷ rest) e = (name, rest, e)

pub above_test : (p q : Names) (name : List ℕ) (rest : Names) → q ≡ p ++ name ∷ rest → is_above p q ≡ true
above_test p q name rest e =
    let len : length q ≡ length p + length (name ∷ rest) = ap length e ∙ length-append p (name ∷ rest) in
    both (under_test q p (name ∷ rest) e) ((Decides-ltb (length p) (length q)).1 (omega arith))

pub not_above_itself : (p : Names) → is_above p p ≡ false
not_above_itself p = false_by _ (λ t. let lt : length p < length p = (Decides-ltb (length p) (length p)).0 (second (starts_with bytes_eq p p) _ t) in omega arith)

-- of two paths that go on to one, either the second is the first or below it, or the first is below the second
pub fork : {P : Type 0} (a b s t : Names) → a ++ s ≡ b ++ t → ((rest : Names) → b ≡ a ++ rest → P) → ((name : List ℕ) (rest : Names) → a ≡ b ++ name ∷ rest → P) → P
fork [] b s t e under over = under b refl
fork (x ∷ a) [] s t e under over = over x a refl
fork (x ∷ a) (y ∷ b) s t e under over =
    let head : x ≡ y = cc in
    let tail : a ++ s ≡ b ++ t = cc in
    fork a b s t tail (λ rest d. under rest (λ i. sym head i ∷ d i)) (λ name rest d. over name rest (λ i. head i ∷ d i))

-- ---- directories as ids at paths

-- each id is a directory's in the tree, and none is below another
pub record AreDirs (f : Shapes) (ids : List InodeId) : Type 0 where
  pub there : (id : InodeId) → In ids id → (p : Names) × (f p ≡ Some (id.0, true))
  pub apart : (p q : Names) (a b : InodeId) → In ids a → In ids b → f p ≡ Some (a.0, true) → f q ≡ Some (b.0, true) → is_above p q ≡ false

pub dirs-fewer : (f : Shapes) (ids fewer : List InodeId) → ((id : InodeId) → In fewer id → In ids id) → AreDirs f ids → AreDirs f fewer
dirs-fewer f ids fewer within dirs = record { there = λ id at. dirs.there id (within id at); apart = λ p q a b ina inb. dirs.apart p q a b (within a ina) (within b inb) }

-- directories that come to other paths
pub dirs-moved : (f g : Shapes) (next : ℕ) → IsTree g next → (ids : List InodeId) → AreDirs f ids → (to : Names → Names)
    → ((p : Names) (id : InodeId) → In ids id → f p ≡ Some (id.0, true) → g (to p) ≡ Some (id.0, true))
    → ((p q : Names) (a b : InodeId) → In ids a → In ids b → f p ≡ Some (a.0, true) → f q ≡ Some (b.0, true) → is_above (to p) (to q) ≡ false) → AreDirs g ids
dirs-moved f g next is ids dirs to comes parted = record {
  there = λ id at. let w = dirs.there id at in (to w.0, comes w.0 id at w.1);
  apart = λ p q a b ina inb gp gq.
      let v = dirs.there a ina in
      let w = dirs.there b inb in
      let pe : to v.0 ≡ p = is.once (to v.0) p (a.0, true) (a.0, true) (comes v.0 a ina v.1) gp refl in
      let qe : to w.0 ≡ q = is.once (to w.0) q (b.0, true) (b.0, true) (comes w.0 b inb w.1) gq refl in
      (λ i. is_above (sym pe i) (sym qe i)) ∙ parted v.0 w.0 a b ina inb v.1 w.1;
}

pub dirs-stay : (f g : Shapes) (next : ℕ) → IsTree g next → (ids : List InodeId) → AreDirs f ids → ((p : Names) (id : InodeId) → In ids id → f p ≡ Some (id.0, true) → g p ≡ Some (id.0, true)) → AreDirs g ids
dirs-stay f g next is ids dirs stays = dirs-moved f g next is ids dirs (λ p. p) stays dirs.apart

-- one more
pub dirs-push : (f : Shapes) (next : ℕ) → IsTree f next → (ids : List InodeId) (new : InodeId) (path : Names) → f path ≡ Some (new.0, true)
    → ((p : Names) (id : InodeId) → In ids id → f p ≡ Some (id.0, true) → (is_above p path ≡ false) × (is_above path p ≡ false)) → AreDirs f ids → AreDirs f (ids ++ new ∷ [])
dirs-push f next is ids new path here parted dirs = record {
  there = λ id at. by_push ids new id at (dirs.there id) (λ e. (path, here ∙ ap (λ (x : InodeId). Some (x.0, true)) e));
  apart = λ p q a b ina inb fp fq. by_push ids new a ina
      (λ oa. by_push ids new b inb
      (λ ob. dirs.apart p q a b oa ob fp fq)
      (λ nb. ap (is_above p) (sym (at_path q b nb fq)) ∙ (parted p a oa fp).0))
      (λ na. by_push ids new b inb
      (λ ob. ap (λ x. is_above x q) (sym (at_path p a na fp)) ∙ (parted q b ob fq).1)
      (λ nb. (λ i. is_above (sym (at_path p a na fp) i) (sym (at_path q b nb fq) i)) ∙ not_above_itself path));
}
  where
    at_path : (p : Names) (id : InodeId) → new ≡ id → f p ≡ Some (id.0, true) → path ≡ p
    at_path p id e h = is.once path p (new.0, true) (id.0, true) here h (ap (λ (x : InodeId). x.0) e)

-- ---- ids that are listed

pub listed_so : (ids : List InodeId) (id : InodeId) → list_any (same_inode id) ids ≡ true → In ids id
listed_so ids id h = let w = any_so (same_inode id) ids h in subst (In ids) (sym (inode_so id w.0 w.2)) w.1

pub listed_test : (ids : List InodeId) (id : InodeId) → In ids id → list_any (same_inode id) ids ≡ true
listed_test ids id at = any_from (same_inode id) ids id at (inode_test id id refl)

module _ {B : Type 0} where
  module _ (tree : Tree B) (next : ℕ) (sorted : is_sorted path_cmp tree ≡ true) (is : IsTree (shapes tree) next) where
    once : IsOnce tree
    once p q a b at bt same = is.once p q (shape a) (shape b) (ap (option_map shape) at) (ap (option_map shape) bt) same

    -- a directory with an id
    dir_there : (id : InodeId) (p : Names) → shapes tree p ≡ Some (id.0, true) → (n : Node B) × (place_of tree id ≡ Some (p, n)) × (is_dir n ≡ true)
    dir_there id p h = let n = shape_some (node_at tree p) (id.0, true) h in (n.0, place_there tree sorted once id p n.0 n.1 (ap (λ (s : Shape). s.0) n.2), ap (λ (s : Shape). s.1) n.2)

    path_there : (id : InodeId) (p : Names) → shapes tree p ≡ Some (id.0, true) → path_at (place_of tree id) ≡ Some p
    path_there id p h = ap path_at (dir_there id p h).1

    dir_so : (id : InodeId) → is_dir_place (place_of tree id) ≡ true → (p : Names) × (shapes tree p ≡ Some (id.0, true))
    dir_so id h = by_found (place_of tree id) refl h
      where
        by_found : (o : Option (Names × Node B)) → place_of tree id ≡ o → is_dir_place o ≡ true → (p : Names) × (shapes tree p ≡ Some (id.0, true))
        by_found None e h = absurd (true_false h refl)
        by_found (Some place) e h = let w = place_so tree id place e in (place.0, ap (option_map shape) (found_place tree sorted place w.0) ∙ (λ i. Some (w.1 i, h i)))

    pub dirs_so : (ids : List InodeId) → list_all (λ id. is_dir_place (place_of tree id)) ids ≡ true → has_nested (filter_map (λ id. path_at (place_of tree id)) ids) ≡ false → AreDirs (shapes tree) ids
    dirs_so ids dirs nested =
        let paths : List Names = filter_map (λ id. path_at (place_of tree id)) ids in
        record {
          there = λ id at. dir_so id (all_so (λ id. is_dir_place (place_of tree id)) ids dirs id at);
          apart = λ p q a b ina inb ap bq.
              none_so (is_above p) paths
              (none_so (λ above. list_any (is_above above) paths) paths nested p (in-filter_map (λ id. path_at (place_of tree id)) ids a p ina (path_there a p ap)))
              q (in-filter_map (λ id. path_at (place_of tree id)) ids b q inb (path_there b q bq));
        }

    pub dirs-all : (ids : List InodeId) → AreDirs (shapes tree) ids → list_all (λ id. is_dir_place (place_of tree id)) ids ≡ true
    dirs-all ids dirs = all_from (λ id. is_dir_place (place_of tree id)) ids (λ id at. let w = dirs.there id at in let d = dir_there id w.0 w.1 in ap is_dir_place d.1 ∙ d.2)

    pub dirs-apart : (ids : List InodeId) → AreDirs (shapes tree) ids → has_nested (filter_map (λ id. path_at (place_of tree id)) ids) ≡ false
    dirs-apart ids dirs =
        let paths : List Names = filter_map (λ id. path_at (place_of tree id)) ids in
        none_from (λ above. list_any (is_above above) paths) paths (λ p pin. none_from (is_above p) paths (λ q qin.
        let v = listed p pin in let w = listed q qin in dirs.apart p q v.0 w.0 v.1 w.1 v.2 w.2))
      where
        listed : (p : Names) → In (filter_map (λ id. path_at (place_of tree id)) ids) p → (id : InodeId) × (In ids id) × (shapes tree p ≡ Some (id.0, true))
        listed p at =
            let w = filter_map_so (λ id. path_at (place_of tree id)) ids p at in
            let d = dirs.there w.0 w.1 in
            let same : d.0 ≡ p = same_some (sym (path_there w.0 d.0 d.1) ∙ w.2) in
            (w.0, w.1, ap (shapes tree) (sym same) ∙ d.1)

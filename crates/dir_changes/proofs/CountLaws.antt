-- How many entries and names an edit and a merge leave.
use Rattle.std.proofs.Common.{◌≡◌, ℕ, zero, suc, ◌+◌, ◌<◌, Bool, true, false, cond, List, [], ◌∷◌, ◌++◌, length, Option, Some, None, refl, sym, ap, ◌∙◌, arith}
use Rattle.std.specs.Prelude.{IsTrue, not, is_some}
use Rattle.std.specs.Ordering.{eq_by_cmp, is_eq}
use Rattle.std.specs.declared.cmp.Ordering.TheVariants.{Less, Equal, Greater}
use Rattle.std.specs.FinMap.Entries.{by_order, below_all, where_key}
use Rattle.hs_types.specs.declared.ids.InodeId.{InodeId}
use Rattle.dir_changes.specs.Entries.{Entry, Entries, name_order, in_order, id_at, has, with_entry, with_all, without, without_name, among, holds}
use Rattle.dir_changes.specs.Undo.{ListDiff, undo, can_undo, combined}
use Rattle.dir_changes.specs.History.{DirHistory, Past, ids_of, added, removed_as, change_last, note_added, note_removed, without_record, combined_at, taken, dropped_at, dropped_behind, cancelled, undo_all, can_undo_all}
use Rattle.dir_changes.specs.Sound.{IsSound, DiffsInOrder}
use Rattle.dir_changes.specs.Counts.{one_where, same_id, count_ids, times, deleted_ids, created_in, deleted_in, last_created, goes_to_deleted, one_if_recorded, created_gone}
use Rattle.dir_changes.specs.Edits.{CountsAdded, CountsRemoved, CountsCombined}
use Rattle.dir_changes.proofs.UndoLaw.{first, second, undo_facts, is_that_so, is_that_from, id_at-with_all, id_at-without, id_at-undo, in_order-without, or_else}
use Rattle.dir_changes.proofs.EditLaws.{same_name, same_name_so, same_name-refl, same_name-sym}
use Rattle.dir_changes.proofs.PlaceLaws.{absent_below}
use Rattle.dir_changes.proofs.MergeLaws.{in_order-tail}

none_some : {x : InodeId} → None ≡ Some x → ⊥
none_some h = cc

same_some : {x y : InodeId} → Some x ≡ Some y → x ≡ y
same_some h = cc

true_false : true ≡ false → ⊥
true_false h = cc

-- ---- ids that pass a test

pub count-append : (t : InodeId → Bool) (a b : List InodeId) → count_ids t (a ++ b) ≡ count_ids t a + count_ids t b
count-append t [] b = omega arith
count-append t (id ∷ a) b = let rest = count-append t a b in omega (arith, rest)

abbrev all_ids : InodeId → Bool
all_ids id = true

count_all : (ids : List InodeId) → count_ids all_ids ids ≡ length ids
count_all [] = refl
count_all (id ∷ ids) = let rest = count_all ids in let one : one_where (all_ids id) ≡ 1 = refl in omega (arith, rest, one)

length-ids : (es : Entries) → length (ids_of es) ≡ length es
length-ids [] = refl
length-ids (e ∷ es) = ap suc (length-ids es)

all_entries : (es : Entries) → count_ids all_ids (ids_of es) ≡ length es
all_entries es = count_all (ids_of es) ∙ length-ids es

pub count-with_entry : (t : InodeId → Bool) (name : List ℕ) (id : InodeId) (es : Entries) → id_at name es ≡ None → count_ids t (ids_of (with_entry name id es)) ≡ one_where (t id) + count_ids t (ids_of es)
count-with_entry t name id [] free = refl
count-with_entry t name id (e ∷ es) free = elim (name_order name e.0) as (λ o. cond (is_eq o) (Some e.1) (id_at name es) ≡ None → count_ids t (ids_of (by_order o ((name, id) ∷ e ∷ es) ((e.0, id) ∷ es) (e ∷ with_entry name id es))) ≡ one_where (t id) + count_ids t (ids_of (e ∷ es))) [
  | Less ↦ λ h. refl
  | Equal ↦ λ h. absurd (none_some (sym h))
  | Greater ↦ λ h. let rest = count-with_entry t name id es h in omega (arith, rest)
] free

-- a test of the names parts a list in two
parted : (t : InodeId → Bool) (p : List ℕ → Bool) (es : Entries) → count_ids t (ids_of (where_key name_order (λ n. not (p n)) es)) + count_ids t (ids_of (where_key name_order p es)) ≡ count_ids t (ids_of es)
parted t p [] = refl
parted t p (e ∷ es) = let rest = parted t p es in
    elim (p e.0) as (λ b. count_ids t (ids_of (cond (not b) (e ∷ where_key name_order (λ n. not (p n)) es) (where_key name_order (λ n. not (p n)) es))) + count_ids t (ids_of (cond b (e ∷ where_key name_order p es) (where_key name_order p es))) ≡ count_ids t (ids_of (e ∷ es))) [
      | true ↦ omega (arith, rest)
      | false ↦ omega (arith, rest)
    ]

-- lists with no name in both
together : (t : InodeId → Bool) (more es : Entries) → IsTrue (in_order more) → ((n : List ℕ) (id : InodeId) → id_at n more ≡ Some id → id_at n es ≡ None) → count_ids t (ids_of (with_all more es)) ≡ count_ids t (ids_of more) + count_ids t (ids_of es)
together t [] es order apart = omega arith
together t (e ∷ more) es order apart =
    let rest : count_ids t (ids_of (with_all more es)) ≡ count_ids t (ids_of more) + count_ids t (ids_of es) = together t more es (in_order-tail e more order)
    (λ n id h. apart n id (later n id h)) in
    let free : id_at e.0 (with_all more es) ≡ None = id_at-with_all e.0 more es ∙ ap (λ o. or_else o (id_at e.0 es)) (absent_below e.0 more (first (below_all name_order e.0 more) _ order)) ∙ apart e.0 e.1 head in
    let here = count-with_entry t e.0 e.1 (with_all more es) free in omega (arith, here, rest)
  where
    head : id_at e.0 (e ∷ more) ≡ Some e.1
    head = ap (λ b. cond b (Some e.1) (id_at e.0 more)) (same_name-refl e.0)

    later : (n : List ℕ) (id : InodeId) → id_at n more ≡ Some id → id_at n (e ∷ more) ≡ Some id
    later n id h = elim (eq_by_cmp name_order n e.0) as (λ b. eq_by_cmp name_order n e.0 ≡ b → cond b (Some e.1) (id_at n more) ≡ Some id) [
      | true ↦ λ is. absurd (none_some (sym (absent_below e.0 more (first (below_all name_order e.0 more) _ order)) ∙ ap (λ (k : List ℕ). id_at k more) (sym (same_name_so n e.0 is)) ∙ h))
      | false ↦ λ _. h
    ] refl

-- ---- names in two lists

absent_behind : (e : Entry) (es : Entries) → IsTrue (in_order (e ∷ es)) → id_at e.0 es ≡ None
absent_behind e es order = absent_below e.0 es (first (below_all name_order e.0 es) _ order)

-- one name more in the test
one_more : (e : Entry) (a b : Entries) → has e.0 a ≡ false → IsTrue (in_order b) → length (among (e ∷ a) b) ≡ one_where (has e.0 b) + length (among a b)
one_more e a [] free order = refl
one_more e a (f ∷ b) free order =
    let rest = one_more e a b free (in_order-tail f b order) in
    elim (same_name f.0 e.0) as (λ x. same_name f.0 e.0 ≡ x
    → length (cond (is_some (cond x (Some e.1) (id_at f.0 a))) (f ∷ among (e ∷ a) b) (among (e ∷ a) b)) ≡ one_where (has e.0 (f ∷ b)) + length (among a (f ∷ b))) [
      | true ↦ λ is.
          let key : f.0 ≡ e.0 = same_name_so f.0 e.0 is in
          let gone : has e.0 b ≡ false = ap (λ (n : List ℕ). has n b) (sym key) ∙ ap is_some (absent_behind f b order) in
          let not_a : has f.0 a ≡ false = ap (λ (n : List ℕ). has n a) key ∙ free in
          let there : has e.0 (f ∷ b) ≡ true = ap (λ y. is_some (cond y (Some f.1) (id_at e.0 b))) (same_name-sym e.0 f.0 ∙ is) in
          let right : one_where (has e.0 (f ∷ b)) + length (among a (f ∷ b)) ≡ 1 + length (among a b) = (λ i. one_where (there i) + length (cond (not_a i) (f ∷ among a b) (among a b))) in
          let less : one_where (has e.0 b) ≡ 0 = ap one_where gone in
          omega (arith, rest, right, less)
      | false ↦ λ is.
          let same : has e.0 (f ∷ b) ≡ has e.0 b = ap (λ y. is_some (cond y (Some f.1) (id_at e.0 b))) (same_name-sym e.0 f.0 ∙ is) in
          let ones = ap one_where same in
          elim (has f.0 a) as (λ y. length (cond y (f ∷ among (e ∷ a) b) (among (e ∷ a) b)) ≡ one_where (has e.0 (f ∷ b)) + length (cond y (f ∷ among a b) (among a b))) [
            | true ↦ omega (arith, rest, ones)
            | false ↦ omega (arith, rest, ones)
          ]
    ] refl

among_none : (b : Entries) → length (among [] b) ≡ 0
among_none [] = refl
among_none (f ∷ b) = among_none b

-- as many of the one stand in the other as of the other in the one
meet_same : (a b : Entries) → IsTrue (in_order a) → IsTrue (in_order b) → length (among a b) ≡ length (among b a)
meet_same [] b order order' = among_none b
meet_same (e ∷ a) b order order' =
    let rest = meet_same a b (in_order-tail e a order) order' in
    let more = one_more e a b (ap is_some (absent_behind e a order)) order' in
    elim (has e.0 b) as (λ y. one_where (has e.0 b) ≡ one_where y → length (among (e ∷ a) b) ≡ length (cond y (e ∷ among b a) (among b a))) [
      | true ↦ λ is. omega (arith, rest, more, is)
      | false ↦ λ is. omega (arith, rest, more, is)
    ] refl

-- ---- two records merged

by_rest : {P : Type 0} (b : Bool) (o : Option InodeId) (id : InodeId) → cond b None o ≡ Some id → (b ≡ false → o ≡ Some id → P) → P
by_rest true o id h then_ = absurd (none_some h)
by_rest false o id h then_ = then_ refl h

none_or : (o : Option InodeId) → (is_some o ≡ true → ⊥) → o ≡ None
none_or None h = refl
none_or (Some x) h = absurd (h refl)

module _ (a b : ListDiff) (es : Entries) (can_b : IsTrue (can_undo b es)) (can_a : IsTrue (can_undo a (undo b es))) where
  deleted_apart : (n : List ℕ) (id : InodeId) → id_at n (without a.created b.deleted) ≡ Some id → id_at n a.deleted ≡ None
  deleted_apart n id h = by_rest (has n a.created) (id_at n b.deleted) id (sym (id_at-without n a.created b.deleted) ∙ h)
      (λ free there. none_or (id_at n a.deleted) (λ both. none_some
      (sym ((undo_facts a (undo b es) can_a).deleted_gone n both) ∙ ap (λ t. cond t None (id_at n (undo b es))) free ∙ id_at-undo n b es ∙ ap (λ o. or_else o (cond (has n b.created) None (id_at n es))) there)))

  -- what the later one created isn't left of what the earlier one did
  created_apart : (n : List ℕ) (id : InodeId) → id_at n b.created ≡ Some id → id_at n (without b.deleted a.created) ≡ None
  created_apart n id h = none_or (id_at n (without b.deleted a.created)) (λ both. by (id_at n (without b.deleted a.created)) refl both)
    where
      by : (o : Option InodeId) → id_at n (without b.deleted a.created) ≡ o → is_some o ≡ true → ⊥
      by None e both = true_false (sym both)
      by (Some k) e both = by_rest (has n b.deleted) (id_at n a.created) k (sym (id_at-without n b.deleted a.created) ∙ e)
          (λ free there. none_some
          (sym (gone (id_at n b.deleted) free)
          ∙ sym (id_at-undo n b es) ∙ (undo_facts a (undo b es) can_a).created_there n k there))
        where
          gone : (o : Option InodeId) → is_some o ≡ false → or_else o (cond (has n b.created) None (id_at n es)) ≡ None
          gone None free = ap (λ c. cond (is_some c) None (id_at n es)) h
          gone (Some d) free = absurd (true_false free)

  merged_deleted : (t : InodeId → Bool) → IsTrue (in_order b.deleted) → count_ids t (ids_of (combined a b).deleted) + count_ids t (ids_of (cancelled a b)) ≡ count_ids t (ids_of a.deleted) + count_ids t (ids_of b.deleted)
  merged_deleted t order =
      let both : count_ids t (ids_of (with_all (without a.created b.deleted) a.deleted)) ≡ count_ids t (ids_of (without a.created b.deleted)) + count_ids t (ids_of a.deleted) =
      together t (without a.created b.deleted) a.deleted (in_order-without a.created b.deleted order) deleted_apart in
      let parts : count_ids t (ids_of (without a.created b.deleted)) + count_ids t (ids_of (among a.created b.deleted)) ≡ count_ids t (ids_of b.deleted) = parted t (λ n. has n a.created) b.deleted in
      omega (arith, both, parts)

  merged_created : IsTrue (in_order a.created) → IsTrue (in_order b.created) → IsTrue (in_order b.deleted) → length (combined a b).created + length (cancelled a b) ≡ length a.created + length b.created
  merged_created in_a in_b in_d =
      let both : count_ids all_ids (ids_of (with_all b.created (without b.deleted a.created))) ≡ count_ids all_ids (ids_of b.created) + count_ids all_ids (ids_of (without b.deleted a.created)) =
      together all_ids b.created (without b.deleted a.created) in_b created_apart in
      let parts : count_ids all_ids (ids_of (without b.deleted a.created)) + count_ids all_ids (ids_of (among b.deleted a.created)) ≡ count_ids all_ids (ids_of a.created) = parted all_ids (λ n. has n b.deleted) a.created in
      let l1 = all_entries (with_all b.created (without b.deleted a.created)) in
      let l2 = all_entries b.created in
      let l3 = all_entries a.created in
      let l4 = all_entries (among b.deleted a.created) in
      let meet = meet_same a.created b.deleted in_a in_d in
      omega (arith, both, parts, l1, l2, l3, l4, meet)

-- ---- among the records

module _ (es : Entries) where
  taken_deleted : (t : InodeId → Bool) (p : Past) (rs : List Past) (i : ℕ) → DiffsInOrder rs → IsTrue (can_undo_all (p ∷ rs) es)
      → count_ids t (deleted_ids (taken p rs i)) + count_ids t (ids_of (dropped_behind p rs i)) ≡ count_ids t (deleted_ids (p ∷ rs))
  taken_deleted t p [] i order can = omega arith
  taken_deleted t p (l ∷ rs) zero order can =
      let rest : IsTrue (can_undo_all (l ∷ rs) es) = first (can_undo_all (l ∷ rs) es) _ can in
      let two = merged_deleted p.diff l.diff (undo_all rs es) (second (can_undo_all rs es) _ rest) (second (can_undo_all (l ∷ rs) es) _ can) t order.1 in
      let a = count-append t (ids_of (combined p.diff l.diff).deleted) (deleted_ids rs) in
      let b = count-append t (ids_of p.diff.deleted) (ids_of l.diff.deleted ++ deleted_ids rs) in
      let c = count-append t (ids_of l.diff.deleted) (deleted_ids rs) in
      omega (arith, two, a, b, c)
  taken_deleted t p (l ∷ rs) (suc i) order can =
      let rest = taken_deleted t l rs i order.2 (first (can_undo_all (l ∷ rs) es) _ can) in
      let a = count-append t (ids_of p.diff.deleted) (deleted_ids (taken l rs i)) in
      let b = count-append t (ids_of p.diff.deleted) (deleted_ids (l ∷ rs)) in
      omega (arith, rest, a, b)

  combined_deleted : (t : InodeId → Bool) (rs : List Past) (i : ℕ) → DiffsInOrder rs → IsTrue (can_undo_all rs es)
      → count_ids t (deleted_ids (combined_at i rs)) + count_ids t (ids_of (dropped_at i rs)) ≡ count_ids t (deleted_ids rs)
  combined_deleted t [] i order can = omega arith
  combined_deleted t (p ∷ rs) zero order can = let a = count-append t (ids_of p.diff.deleted) (deleted_ids rs) in omega (arith, a)
  combined_deleted t (p ∷ rs) (suc i) order can = taken_deleted t p rs i order.2 can

  taken_created : (p : Past) (rs : List Past) (i : ℕ) → DiffsInOrder (p ∷ rs) → IsTrue (can_undo_all (p ∷ rs) es)
      → created_in (taken p rs i) + length (dropped_behind p rs i) ≡ created_in (p ∷ rs)
  taken_created p [] i order can = omega arith
  taken_created p (l ∷ rs) zero order can =
      let rest : IsTrue (can_undo_all (l ∷ rs) es) = first (can_undo_all (l ∷ rs) es) _ can in
      let two = merged_created p.diff l.diff (undo_all rs es) (second (can_undo_all rs es) _ rest) (second (can_undo_all (l ∷ rs) es) _ can) order.0 order.2.0 order.2.1 in
      omega (arith, two)
  taken_created p (l ∷ rs) (suc i) order can =
      let rest = taken_created l rs i order.2 (first (can_undo_all (l ∷ rs) es) _ can) in
      omega (arith, rest)

  combined_created : (rs : List Past) (i : ℕ) → DiffsInOrder rs → IsTrue (can_undo_all rs es) → created_in (combined_at i rs) + created_gone i rs ≡ created_in rs
  combined_created [] i order can = omega arith
  combined_created (p ∷ rs) zero order can = omega arith
  combined_created (p ∷ rs) (suc i) order can = taken_created p rs i order can

deleted_all : (rs : List Past) → count_ids all_ids (deleted_ids rs) ≡ deleted_in rs
deleted_all [] = refl
deleted_all (p ∷ rs) =
    let rest = deleted_all rs in
    let here = all_entries p.diff.deleted in
    let a = count-append all_ids (ids_of p.diff.deleted) (deleted_ids rs) in
    omega (arith, rest, here, a)

length-taken : (p : Past) (rs : List Past) (i : ℕ) → i < length rs → length (taken p rs i) ≡ length rs
length-taken p [] i lt = absurd (omega arith)
length-taken p (l ∷ rs) zero lt = refl
length-taken p (l ∷ rs) (suc i) lt = ap suc (length-taken l rs i (omega arith))

length-combined : (rs : List Past) (i : ℕ) → i < length rs → length (combined_at i rs) + 1 ≡ length rs
length-combined [] i lt = absurd (omega arith)
length-combined (p ∷ rs) zero lt = omega arith
length-combined (p ∷ rs) (suc i) lt = let same = length-taken p rs i (omega arith) in omega (arith, same)

pub counts-combined : (dir : DirHistory) (i : ℕ) → IsSound dir → i < length dir.records → CountsCombined i (ids_of (dropped_at i dir.records)) dir (without_record i dir)
counts-combined dir i sound lt = record {
  created = combined_created dir.children dir.records i sound.ordered sound.undoable;
  deleted =
      let all = combined_deleted dir.children all_ids dir.records i sound.ordered sound.undoable in
      let a = deleted_all (combined_at i dir.records) in
      let b = deleted_all dir.records in
      let c = count_all (ids_of (dropped_at i dir.records)) in
      omega (arith, all, a, b, c);
  records = length-combined dir.records i lt;
  named = λ x.
      let rest = combined_deleted dir.children (λ id. same_id id x) dir.records i sound.ordered sound.undoable in
      let a = count-append (λ id. same_id id x) (ids_of dir.children) (deleted_ids (combined_at i dir.records)) in
      let b = count-append (λ id. same_id id x) (ids_of dir.children) (deleted_ids dir.records) in
      omega (arith, rest, a, b);
}

-- ---- an entry more

length-with_entry : (name : List ℕ) (id : InodeId) (es : Entries) → id_at name es ≡ None → length (with_entry name id es) ≡ length es + 1
length-with_entry name id es free =
    let here = count-with_entry all_ids name id es free in
    let a = all_entries (with_entry name id es) in
    let b = all_entries es in
    omega (arith, here, a, b)

-- under a name that isn't there nothing was created
not_created : (name : List ℕ) (d : ListDiff) (es : Entries) → id_at name es ≡ None → IsTrue (can_undo d es) → id_at name d.created ≡ None
not_created name d es free can = by (id_at name d.created) refl
  where
    by : (o : Option InodeId) → id_at name d.created ≡ o → o ≡ None
    by None e = refl
    by (Some k) e = absurd (none_some (sym free ∙ (undo_facts d es can).created_there name k e))

added_created : (name : List ℕ) (id : InodeId) (es : Entries) (rs : List Past) → id_at name es ≡ None → IsTrue (can_undo_all rs es) → created_in (change_last (note_added name id) rs) ≡ created_in rs + one_if_recorded rs
added_created name id es [] free can = refl
added_created name id es (p ∷ []) free can = let here = length-with_entry name id p.diff.created (not_created name p.diff es free (second true _ can)) in omega (arith, here)
added_created name id es (p ∷ q ∷ rs) free can = let rest = added_created name id es (q ∷ rs) free (first (can_undo_all (q ∷ rs) es) _ can) in omega (arith, rest)

added_deleted : (name : List ℕ) (id : InodeId) (rs : List Past) → deleted_in (change_last (note_added name id) rs) ≡ deleted_in rs
added_deleted name id [] = refl
added_deleted name id (p ∷ []) = refl
added_deleted name id (p ∷ q ∷ rs) = ap (λ n. length p.diff.deleted + n) (added_deleted name id (q ∷ rs))

added_ids : (name : List ℕ) (id : InodeId) (rs : List Past) → deleted_ids (change_last (note_added name id) rs) ≡ deleted_ids rs
added_ids name id [] = refl
added_ids name id (p ∷ []) = refl
added_ids name id (p ∷ q ∷ rs) = ap (λ (ids : List InodeId). ids_of p.diff.deleted ++ ids) (added_ids name id (q ∷ rs))

length-change_last : (f : ListDiff → ListDiff) (rs : List Past) → length (change_last f rs) ≡ length rs
length-change_last f [] = refl
length-change_last f (p ∷ []) = refl
length-change_last f (p ∷ q ∷ rs) = ap suc (length-change_last f (q ∷ rs))

pub counts-added : (dir : DirHistory) (name : List ℕ) (id : InodeId) → IsSound dir → id_at name dir.children ≡ None → CountsAdded id dir (added name id dir)
counts-added dir name id sound free = record {
  children = length-with_entry name id dir.children free;
  created = added_created name id dir.children dir.records free sound.undoable;
  deleted = added_deleted name id dir.records;
  records = length-change_last (note_added name id) dir.records;
  named = λ x.
      let here = count-with_entry (λ k. same_id k x) name id dir.children free in
      let same = ap (times x) (added_ids name id dir.records) in
      let a = count-append (λ k. same_id k x) (ids_of (with_entry name id dir.children)) (deleted_ids (change_last (note_added name id) dir.records)) in
      let b = count-append (λ k. same_id k x) (ids_of dir.children) (deleted_ids dir.records) in
      omega (arith, here, same, a, b);
}

-- ---- an entry less

none_with : (t : InodeId → Bool) (name : List ℕ) (es : Entries) → id_at name es ≡ None → count_ids t (ids_of (where_key name_order (eq_by_cmp name_order name) es)) ≡ 0
none_with t name [] h = refl
none_with t name (e ∷ es) h = elim (eq_by_cmp name_order name e.0) as (λ b. cond b (Some e.1) (id_at name es) ≡ None → count_ids t (ids_of (cond b (e ∷ where_key name_order (eq_by_cmp name_order name) es) (where_key name_order (eq_by_cmp name_order name) es))) ≡ 0) [
  | true ↦ λ k. absurd (none_some (sym k))
  | false ↦ λ k. none_with t name es k
] h

one_with : (t : InodeId → Bool) (name : List ℕ) (id : InodeId) (es : Entries) → IsTrue (in_order es) → id_at name es ≡ Some id → count_ids t (ids_of (where_key name_order (eq_by_cmp name_order name) es)) ≡ one_where (t id)
one_with t name id [] order h = absurd (none_some h)
one_with t name id (e ∷ es) order h = elim (eq_by_cmp name_order name e.0) as (λ b. eq_by_cmp name_order name e.0 ≡ b → cond b (Some e.1) (id_at name es) ≡ Some id
    → count_ids t (ids_of (cond b (e ∷ where_key name_order (eq_by_cmp name_order name) es) (where_key name_order (eq_by_cmp name_order name) es))) ≡ one_where (t id)) [
      | true ↦ λ is k.
          let none = none_with t name es (ap (λ (n : List ℕ). id_at n es) (same_name_so name e.0 is) ∙ absent_behind e es order) in
          let same = ap {B = ℕ} (λ (i : InodeId). one_where (t i)) (same_some k) in omega (arith, none, same)
      | false ↦ λ _ k. one_with t name id es (in_order-tail e es order) k
    ] refl h

count-without_name : (t : InodeId → Bool) (name : List ℕ) (id : InodeId) (es : Entries) → IsTrue (in_order es) → id_at name es ≡ Some id → count_ids t (ids_of (without_name name es)) + one_where (t id) ≡ count_ids t (ids_of es)
count-without_name t name id es order there =
    let parts : count_ids t (ids_of (without_name name es)) + count_ids t (ids_of (where_key name_order (eq_by_cmp name_order name) es)) ≡ count_ids t (ids_of es) = parted t (eq_by_cmp name_order name) es in
    let one = one_with t name id es order there in
    omega (arith, parts, one)

length-without_name : (name : List ℕ) (id : InodeId) (es : Entries) → IsTrue (in_order es) → id_at name es ≡ Some id → length (without_name name es) + 1 ≡ length es
length-without_name name id es order there =
    let here = count-without_name all_ids name id es order there in
    let a = all_entries (without_name name es) in
    let b = all_entries es in
    omega (arith, here, a, b)

-- what was there before the record isn't among its deleted entries
not_deleted : (name : List ℕ) (id : InodeId) (d : ListDiff) (es : Entries) → id_at name es ≡ Some id → IsTrue (can_undo d es) → holds d.created (name, id) ≡ false → id_at name d.deleted ≡ None
not_deleted name id d es there can other = none_or (id_at name d.deleted) (λ both. by (id_at name d.created) refl both)
  where
    by : (o : Option InodeId) → id_at name d.created ≡ o → is_some (id_at name d.deleted) ≡ true → ⊥
    by None e both = none_some (sym ((undo_facts d es can).deleted_gone name both) ∙ ap (λ o. cond (is_some o) None (id_at name es)) e ∙ there)
    by (Some k) e both = true_false (sym (is_that_from id (id_at name d.created) (e ∙ sym ((undo_facts d es can).created_there name k e) ∙ there)) ∙ other)

module _ (name : List ℕ) (id : InodeId) (es : Entries) (there : id_at name es ≡ Some id) where
  removed_deleted : (t : InodeId → Bool) (rs : List Past) → IsTrue (can_undo_all rs es)
      → count_ids t (deleted_ids (change_last (note_removed name id) rs)) ≡ count_ids t (deleted_ids rs) + cond (goes_to_deleted name id rs) (one_where (t id)) 0
  removed_deleted t [] can = refl
  removed_deleted t (p ∷ []) can = elim (holds p.diff.created (name, id)) as (λ b. holds p.diff.created (name, id) ≡ b
      → count_ids t (ids_of (cond b (record p.diff { created = without_name name p.diff.created }) (record p.diff { deleted = with_entry name id p.diff.deleted })).deleted ++ []) ≡ count_ids t (ids_of p.diff.deleted ++ []) + cond (not b) (one_where (t id)) 0) [
        | true ↦ λ _. omega arith
        | false ↦ λ other.
            let here = count-with_entry t name id p.diff.deleted (not_deleted name id p.diff es there (second true _ can) other) in
            let a = count-append t (ids_of (with_entry name id p.diff.deleted)) [] in
            let b = count-append t (ids_of p.diff.deleted) [] in
            omega (arith, here, a, b)
      ] refl
  removed_deleted t (p ∷ q ∷ rs) can =
      let rest = removed_deleted t (q ∷ rs) (first (can_undo_all (q ∷ rs) es) _ can) in
      let a = count-append t (ids_of p.diff.deleted) (deleted_ids (change_last (note_removed name id) (q ∷ rs))) in
      let b = count-append t (ids_of p.diff.deleted) (deleted_ids (q ∷ rs)) in
      omega (arith, rest, a, b)

  removed_created : (rs : List Past) → DiffsInOrder rs → created_in (change_last (note_removed name id) rs) + one_where (last_created name id rs) ≡ created_in rs
  removed_created [] order = refl
  removed_created (p ∷ []) order = elim (holds p.diff.created (name, id)) as (λ b. holds p.diff.created (name, id) ≡ b
      → length (cond b (record p.diff { created = without_name name p.diff.created }) (record p.diff { deleted = with_entry name id p.diff.deleted })).created + 0 + one_where b ≡ length p.diff.created + 0) [
        | true ↦ λ made. let here = length-without_name name id p.diff.created order.0 (is_that_so id _ made) in omega (arith, here)
        | false ↦ λ _. omega arith
      ] refl
  removed_created (p ∷ q ∷ rs) order = let rest = removed_created (q ∷ rs) order.2 in omega (arith, rest)

chosen : (b : Bool) (n : ℕ) → cond b n 0 + cond b 0 n ≡ n
chosen true n = omega arith
chosen false n = omega arith

pub counts-removed : (dir : DirHistory) (name : List ℕ) (id : InodeId) → IsSound dir → id_at name dir.children ≡ Some id → CountsRemoved name id dir (removed_as name (Some id) dir)
counts-removed dir name id sound there = record {
  children = length-without_name name id dir.children sound.in_order there;
  created = removed_created name id dir.children there dir.records sound.ordered;
  deleted =
      let all = removed_deleted name id dir.children there all_ids dir.records sound.undoable in
      let a = deleted_all (change_last (note_removed name id) dir.records) in
      let b = deleted_all dir.records in
      omega (arith, all, a, b);
  records = length-change_last (note_removed name id) dir.records;
  named = λ x.
      let here = count-without_name (λ k. same_id k x) name id dir.children sound.in_order there in
      let gone = removed_deleted name id dir.children there (λ k. same_id k x) dir.records sound.undoable in
      let pick = chosen (goes_to_deleted name id dir.records) (one_where (same_id id x)) in
      let a = count-append (λ k. same_id k x) (ids_of (without_name name dir.children)) (deleted_ids (change_last (note_removed name id) dir.records)) in
      let b = count-append (λ k. same_id k x) (ids_of dir.children) (deleted_ids dir.records) in
      omega (arith, here, gone, pick, a, b);
}

-- Snapshots that are found by their names.
use Rattle.std.proofs.Common.{◌≡◌, ℕ, Bool, true, false, cond, List, [], ◌∷◌, Some, None, Ok, Err, refl, sym, ap, subst, ◌∙◌}
use Rattle.std.specs.Prelude.{Result, MatchResult, IsErrAnd}
use Rattle.std.specs.List.{find, list_all}
use Rattle.std.proofs.lemmas.Slice.Eq.{bytes_eq-Decides}
use Rattle.hs_types.specs.Names.{is_name}
use Rattle.hs_types.specs.declared.ids.InodeId.{InodeId}
use Rattle.hs_types.specs.declared.ids.SnapId.{SnapId}
use Rattle.hs_types.specs.declared.name.SnapItem.{SnapItem}
use Rattle.hs_types.specs.declared.refusal.Refusal.TheVariants.{NoSnapshot}
use Rattle.hs_plain.specs.declared.state.Member.{Member}
use Rattle.hs_plain.specs.declared.state.State.{State}
use Rattle.hs_plain.specs.declared.state.FileBlocks.{FileBlocks}
use Rattle.hs_plain.specs.Asked.{Asked}
use Rattle.hs_plain.specs.Tree.{same_inode}
use Rattle.hs_plain.specs.State.{is_named, member_named, snapshot_named}
use Rattle.hs_plain.proofs.ValidShapes.{true_false}
use Rattle.hs_plain.proofs.ValidTrees.{first, second}
use Rattle.snapshot_manager.specs.Snapshots.{Snapshots, has_name, snaps_in}
use Rattle.inode_table.specs.Tabled.{Tabled}
use Rattle.inode_table.specs.Whole.{StandsFor}
use Rattle.path_resolver.proofs.ByRows.{Agrees, find-named}

-- where the result is that fault, what is said of the fault is said of the result
pub match_err : {T E : Type 0} (r : Result T E) (x : E) (P : T → Type 0) (Q : E → Type 0) → IsErrAnd r (λ y. y ≡ x) → Q x → MatchResult r P Q
match_err (Ok t) x P Q is q = absurd is
match_err (Err e) x P Q is q = subst Q (sym is) q

-- a member's id, where one was found
abbrev member_id : Asked (Member FileBlocks) → Asked SnapId
member_id (Ok m) = Ok m.snapshot
member_id (Err why) = Err NoSnapshot

id-member : (ms : List (Member FileBlocks)) (dir : InodeId) (name : List ℕ) → snapshot_named ms dir name ≡ member_id (member_named ms dir name)
id-member [] dir name = refl
id-member (m ∷ ms) dir name = by (is_named dir name m) (id-member ms dir name)
  where
    by : (b : Bool) → snapshot_named ms dir name ≡ member_id (member_named ms dir name) → cond b (Ok m.snapshot) (snapshot_named ms dir name) ≡ member_id (cond b (Ok m) (member_named ms dir name))
    by true rest = refl
    by false rest = rest

-- a text that isn't a name is no snapshot's
not-a-name : (ms : List (Member FileBlocks)) (dir : InodeId) (name : List ℕ) → list_all (λ m. is_name m.name) ms ≡ true → is_name name ≡ false → snapshot_named ms dir name ≡ Err NoSnapshot
not-a-name [] dir name all none = refl
not-a-name (m ∷ ms) dir name all none =
    elim (is_named dir name m) as (λ b. is_named dir name m ≡ b → cond b (Ok m.snapshot) (snapshot_named ms dir name) ≡ Err NoSnapshot) [
      | true ↦ λ t. let same : m.name ≡ name = (bytes_eq-Decides m.name name).0 (second (same_inode m.directory dir) _ t) in
          absurd (true_false (ap is_name (sym same) ∙ first (is_name m.name) _ all) none)
      | false ↦ λ _. not-a-name ms dir name (second (is_name m.name) _ all) none
    ] refl

module _ (table : Tabled) (snaps : Snapshots) (state : State FileBlocks) (all : StandsFor table snaps state) where
  pub at-name : (dir : InodeId) (name : List ℕ) → Agrees state.members dir (member_named state.members dir name) (find (has_name name) (snaps_in snaps dir))
  at-name dir name = subst (λ (items : List SnapItem). Agrees state.members dir (member_named state.members dir name) (find (has_name name) items)) (sym (all.told.tables dir)) (find-named state.members dir name)

  pub named-none : (dir : InodeId) (name : List ℕ) → find (has_name name) (snaps_in snaps dir) ≡ None → snapshot_named state.members dir name ≡ Err NoSnapshot
  named-none dir name e = id-member state.members dir name ∙ ap member_id ((at-name dir name).none e)

  pub named-some : (dir : InodeId) (name : List ℕ) (item : SnapItem) → find (has_name name) (snaps_in snaps dir) ≡ Some item → snapshot_named state.members dir name ≡ Ok item.id
  named-some dir name item e =
      let m = (at-name dir name).some item e in
      id-member state.members dir name ∙ ap member_id m.1 ∙ ap (λ (i : SnapId). Ok i) m.4

  pub nameless : (dir : InodeId) (name : List ℕ) → is_name name ≡ false → snapshot_named state.members dir name ≡ Err NoSnapshot
  nameless dir name none = not-a-name state.members dir name all.valid.member_names none

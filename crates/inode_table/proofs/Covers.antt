-- The cover is at least each live id whose copied tree has the inode.
use Rattle.std.proofs.Common.{◌≡◌, ℕ, zero, suc, ◌<◌, ◌≤◌, true, false, cond, List, [], ◌∷◌, ◌++◌, Option, Some, None, refl, sym, ap, subst, ◌∙◌, append_assoc, append-nil, length, get_or, arith}
use Rattle.std.specs.Prelude.{max, nat_lt}
use Rattle.std.specs.List.{Contains}
use Rattle.std.proofs.lemmas.Bool.Decides.{nat_tests, Decides-eqb}
use Rattle.hs_types.specs.Names.{Names}
use Rattle.hs_types.specs.declared.ids.InodeId.{InodeId}
use Rattle.hs_plain.specs.declared.state.Node.{Node}
use Rattle.hs_plain.specs.declared.state.Member.{Member}
use Rattle.hs_plain.specs.Tree.{same_inode}
use Rattle.hs_plain.proofs.ValidShapes.{none_some, same_some, true_false}
use Rattle.inode_table.specs.Reads.{Nodes, Has, Child, child, id_of}
use Rattle.inode_table.specs.Marks.{Mark, RowMarks, InCopy, AreMarks, last_of, marked, cover_from, cover, Leads, IsChain, IsTop}
use Rattle.inode_table.proofs.Reading.{by_id}

-- the step at one row
pub marked-above : (mark : Mark) (n s : ℕ) → (mark.since < s → s ≤ n) → (s ≤ mark.since → s ≤ mark.carry) → s ≤ marked mark n
marked-above mark n s above below = elim (nat_lt mark.since n) as (λ b. nat_lt mark.since n ≡ b → s ≤ cond b n mark.carry) [
  | true ↦ λ t. elim (nat_lt mark.since s) as (λ b. nat_lt mark.since s ≡ b → s ≤ n) [
    | true ↦ λ k. above (grind (arith, nat_tests))
    | false ↦ λ k. grind (arith, nat_tests)
  ] refl
  | false ↦ λ t. elim (nat_lt mark.since s) as (λ b. nat_lt mark.since s ≡ b → s ≤ mark.carry) [
    | true ↦ λ k. let within : s ≤ n = above (grind (arith, nat_tests)) in absurd (grind (arith, nat_tests))
    | false ↦ λ k. below (grind (arith, nat_tests))
  ] refl
] refl

most_at : {B : Type 0} (members : List (Member B)) (m : Member B) (k : ℕ) → k < length members → get_or members k m ≡ m → m.snapshot.0 ≤ last_of members m.directory
most_at [] m k lt e = absurd (omega arith)
most_at (o ∷ ms) m zero lt e = elim (same_inode o.directory m.directory) as (λ b. same_inode o.directory m.directory ≡ b → m.snapshot.0 ≤ cond b (max o.snapshot.0 (last_of ms m.directory)) (last_of ms m.directory)) [
  | true ↦ λ t. let same : o.snapshot.0 ≡ m.snapshot.0 = ap (λ (x : Member _). x.snapshot.0) e in omega arith
  | false ↦ λ t. absurd (true_false ((Decides-eqb o.directory.0 m.directory.0).1 (ap (λ (x : Member _). x.directory.0) e)) t)
] refl
most_at (o ∷ ms) m (suc k) lt e = let rest : m.snapshot.0 ≤ last_of ms m.directory = most_at ms m k (omega arith) e in
    elim (same_inode o.directory m.directory) as (λ b. m.snapshot.0 ≤ cond b (max o.snapshot.0 (last_of ms m.directory)) (last_of ms m.directory)) [
      | true ↦ omega arith
      | false ↦ rest
    ]

pub last_of-most : {B : Type 0} (members : List (Member B)) (m : Member B) → Contains members m → m.snapshot.0 ≤ last_of members m.directory
last_of-most members m within = most_at members m within.0 within.1 within.2

pub some_id : {B : Type 0} (o : Option (Node B)) (x : InodeId) → id_of o ≡ Some x → (n : Node B) × (o ≡ Some n) × (n.id ≡ x)
some_id None x h = absurd (none_some h)
some_id (Some n) x h = (n, refl, same_some h)

module _ {B : Type 0} (live : Nodes B) (members : List (Member B)) (marks : RowMarks) (issued : ℕ) (are : AreMarks live members marks issued) (m : Member B) (is_live : Contains members m) where
  -- the number is enough for a parent's copy, and so for a child's
  step : (p x : InodeId) (n : ℕ) → Child live p x → Has live x → (InCopy m p → m.snapshot.0 ≤ n) → InCopy m x → m.snapshot.0 ≤ marked (marks x) (max n (last_of members x))
  step p x n below has_x enough copied = marked-above (marks x) (max n (last_of members x)) m.snapshot.0
      (λ above. by_id m.directory x
      (λ own. let most : m.snapshot.0 ≤ last_of members x = subst (λ (d : InodeId). m.snapshot.0 ≤ last_of members d) own (last_of-most members m is_live) in omega arith)
      (λ other. let within : m.snapshot.0 ≤ n = enough (are.down p x m below is_live above copied other) in omega arith))
      (λ upto. are.carried x m has_x is_live upto copied)

  pub leads-covered : (at below : Names) (ids : List InodeId) (p x : InodeId) (n : ℕ) → id_of (live at) ≡ Some p → (InCopy m p → m.snapshot.0 ≤ n) → Leads live at below ids → id_of (live (at ++ below)) ≡ Some x
      → InCopy m x → m.snapshot.0 ≤ cover_from (last_of members) marks n ids
  leads-covered at [] [] p x n is_p enough leads is_x copied = enough (subst (InCopy m) (same_some (sym is_x ∙ ap (λ (q : Names). id_of (live q)) (append-nil at) ∙ is_p)) copied)
  leads-covered at [] (y ∷ ys) p x n is_p enough leads is_x copied = absurd leads
  leads-covered at (name ∷ below) [] p x n is_p enough leads is_x copied = absurd leads
  leads-covered at (name ∷ below) (y ∷ ys) p x n is_p enough leads is_x copied =
      let a = some_id (live at) p is_p in
      let b = some_id (live (child at name)) y leads.0 in
      leads-covered (child at name) below ys y x (marked (marks y) (max n (last_of members y))) leads.0
      (step p y n (record { at = at; name = name; above = a.0; node = b.0; is_above = a.1; is = b.1; parent_named = a.2; named = b.2 }) (record { at = child at name; node = b.0; is = b.1; named = b.2 }) enough)
      leads.1 (ap (λ (q : Names). id_of (live q)) (append_assoc at (name ∷ []) below) ∙ is_x) copied

  pub covered : (top : InodeId) (path : Names) (chain : List InodeId) (x : InodeId) → IsTop members marks top → id_of (live []) ≡ Some top → IsChain live path chain → id_of (live path) ≡ Some x
      → InCopy m x → m.snapshot.0 ≤ cover (last_of members) marks chain
  covered top path [] x is_top root leads is_x copied = absurd leads
  covered top path (y ∷ ys) x is_top root leads is_x copied =
      leads-covered [] path ys y x (marked (marks y) (max 0 (last_of members y))) leads.0
      (λ has_y. let same : y ≡ top = same_some (sym leads.0 ∙ root) in
      let own : m.directory ≡ y = is_top.own m is_live (subst (InCopy m) same has_y) ∙ sym same in
      let most : m.snapshot.0 ≤ last_of members y = subst (λ (d : InodeId). m.snapshot.0 ≤ last_of members d) own (last_of-most members m is_live) in
      let since : (marks y).since ≡ 0 = ap (λ (i : InodeId). (marks i).since) same ∙ is_top.since in
      marked-above (marks y) (max 0 (last_of members y)) m.snapshot.0 (λ _. omega arith) (λ upto. let above = is_top.above m is_live in omega arith))
      leads.1 is_x copied

pub cover-bound : {B : Type 0} (live : Nodes B) (members : List (Member B)) (marks : RowMarks) (issued : ℕ) (top : InodeId) (path : Names) (chain : List InodeId) (x : InodeId) (m : Member B)
    → AreMarks live members marks issued → IsTop members marks top → id_of (live []) ≡ Some top → IsChain live path chain → id_of (live path) ≡ Some x
    → Contains members m → InCopy m x → m.snapshot.0 ≤ cover (last_of members) marks chain
cover-bound live members marks issued top path chain x m are is_top root leads is_x within copied = covered live members marks issued are m within top path chain x is_top root leads is_x copied

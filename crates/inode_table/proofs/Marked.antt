-- What the marks say is kept.
use Rattle.std.proofs.Common.{◌≡◌, ℕ, zero, suc, ◌+◌, ◌<◌, ◌≤◌, List, [], ◌∷◌, ◌++◌, Some, refl, sym, ap, subst, ◌∙◌, append_assoc, append-nil, length, get_or, ⊎_elim, arith}
use Rattle.std.specs.Prelude.{◌≢◌}
use Rattle.std.specs.List.{Contains}
use Rattle.std.proofs.lemmas.List.Elements.{Contains-append_cases}
use Rattle.hs_types.specs.Names.{Names}
use Rattle.hs_types.specs.declared.ids.InodeId.{InodeId}
use Rattle.hs_plain.specs.declared.state.Node.{Node}
use Rattle.hs_plain.specs.declared.state.Member.{Member}
use Rattle.hs_plain.specs.Tree.{node_at}
use Rattle.hs_plain.proofs.ValidShapes.{by_last, same_some}
use Rattle.inode_table.specs.Reads.{Nodes, IsNodes, Has, Child, child, id_of}
use Rattle.inode_table.specs.Marks.{Mark, RowMarks, InCopy, AreMarks, Arrives, Copies}
use Rattle.inode_table.proofs.Reading.{by_id, last_two}

module _ {B : Type 0} where
  pub marks-arrive : (before after : Nodes B) (members : List (Member B)) (old new : RowMarks) (issued : ℕ) (x : InodeId) (carry : ℕ)
      → Arrives before after members old new issued x carry → AreMarks before members old issued → AreMarks after members new issued
  marks-arrive before after members old new issued x carry step are = record {
    down = λ p y m c is_live lt copied own. by_id y x
        (λ e. absurd (too_late m is_live (subst (λ (i : InodeId). (new i).since < m.snapshot.0) e lt)))
        (λ ne. are.down p y m (step.child p y c ne) is_live (subst (λ (k : Mark). k.since < m.snapshot.0) (step.other y ne) lt) copied own);
    up = λ p y m c is_live lt copied. by_id y x
        (λ e. absurd (too_late m is_live (subst (λ (i : InodeId). (new i).since < m.snapshot.0) e lt)))
        (λ ne. are.up p y m (step.child p y c ne) is_live (subst (λ (k : Mark). k.since < m.snapshot.0) (step.other y ne) lt) copied);
    carried = λ y m h is_live le copied. by_id y x
        (λ e. let most = step.enough m is_live (subst (InCopy m) e copied) in let is : (new y).carry ≡ carry = ap (λ (i : InodeId). (new i).carry) e ∙ ap (λ (k : Mark). k.carry) step.here in omega arith)
        (λ ne. let same = step.other y ne in let upto = are.carried y m (step.has y h ne) is_live (subst (λ (k : Mark). m.snapshot.0 ≤ k.since) same le) copied in
        subst (λ (k : Mark). m.snapshot.0 ≤ k.carry) (sym same) upto);
    since_issued = λ y h. by_id y x
        (λ e. let is : (new y).since ≡ issued = ap (λ (i : InodeId). (new i).since) e ∙ ap (λ (k : Mark). k.since) step.here in omega arith)
        (λ ne. subst (λ (k : Mark). k.since ≤ issued) (sym (step.other y ne)) (are.since_issued y (step.has y h ne)));
    carry_issued = λ y h. by_id y x
        (λ e. let is : (new y).carry ≡ carry = ap (λ (i : InodeId). (new i).carry) e ∙ ap (λ (k : Mark). k.carry) step.here in let le = step.carry_issued in omega arith)
        (λ ne. subst (λ (k : Mark). k.carry ≤ issued) (sym (step.other y ne)) (are.carry_issued y (step.has y h ne)));
  }
    where
      too_late : (m : Member B) → Contains members m → (new x).since < m.snapshot.0 → ⊥
      too_late m is_live lt = let is : (new x).since ≡ issued = ap (λ (k : Mark). k.since) step.here in let le = step.ids_issued m is_live in omega arith

  pub marks-fewer : (before after : Nodes B) (members fewer : List (Member B)) (marks : RowMarks) (issued : ℕ)
      → ((p y : InodeId) → Child after p y → Child before p y) → ((y : InodeId) → Has after y → Has before y) → ((m : Member B) → Contains fewer m → Contains members m)
      → AreMarks before members marks issued → AreMarks after fewer marks issued
  marks-fewer before after members fewer marks issued kid has live are = record {
    down = λ p y m c is_live. are.down p y m (kid p y c) (live m is_live);
    up = λ p y m c is_live. are.up p y m (kid p y c) (live m is_live);
    carried = λ y m h is_live. are.carried y m (has y h) (live m is_live);
    since_issued = λ y h. are.since_issued y (has y h);
    carry_issued = λ y h. are.carry_issued y (has y h);
  }

  only_member : (last m : Member B) (k : ℕ) → k < length (last ∷ []) → get_or (last ∷ []) k m ≡ m → m ≡ last
  only_member last m zero lt e = sym e
  only_member last m (suc k) lt e = absurd (omega arith)

  pub by_member : {P : Type 0} (members : List (Member B)) (last m : Member B) → Contains (members ++ last ∷ []) m → (Contains members m → P) → (m ≡ last → P) → P
  by_member members last m within old new = ⊎_elim old (λ here. new (only_member last m here.0 here.1 here.2)) (Contains-append_cases members (last ∷ []) m within)

  module _ (live : Nodes B) (path : Names) (s : Member B) (copies : Copies live path s) (is : IsNodes live) where
    in_copy : (p : InodeId) (rest : Names) (n : Node B) → live (path ++ rest) ≡ Some n → n.id ≡ p → InCopy s p
    in_copy p rest n h e = record { at = rest; node = n; is = copies.copy rest ∙ h; named = e }

    copy_down : (p x : InodeId) → Child live p x → InCopy s x → s.directory ≢ x → InCopy s p
    copy_down p x c copied other = by_last (λ r. copied.at ≡ r → InCopy s p) copied.at
        (λ e. let own : s.directory ≡ x = sym (same_some (ap id_of (sym at_path) ∙ ap (λ (r : Names). id_of (live (path ++ r))) e ∙ ap (λ (r : Names). id_of (live r)) (append-nil path) ∙ copies.own)) ∙ copied.named in absurd (other own))
        (λ front last e. let up : path ++ front ≡ c.at = (last_two (path ++ front) c.at last c.name (append_assoc path front (last ∷ []) ∙ ap (λ (r : Names). path ++ r) (sym e) ∙ one)).0 in
        in_copy p front c.above (ap live up ∙ c.is_above) c.parent_named)
        refl
      where
        at_path : live (path ++ copied.at) ≡ Some copied.node
        at_path = sym (copies.copy copied.at) ∙ copied.is

        one : path ++ copied.at ≡ child c.at c.name
        one = is.once (path ++ copied.at) (child c.at c.name) copied.node c.node at_path c.is (copied.named ∙ sym c.named)

    copy_up : (p x : InodeId) → Child live p x → InCopy s p → InCopy s x × Child (node_at s.tree) p x
    copy_up p x c copied = (
      record { at = child copied.at c.name; node = c.node; is = there; named = c.named },
      record { at = copied.at; name = c.name; above = copied.node; node = c.node; is_above = copied.is; is = there; parent_named = copied.named; named = c.named },
    )
      where
        one : path ++ copied.at ≡ c.at
        one = is.once (path ++ copied.at) c.at copied.node c.above (sym (copies.copy copied.at) ∙ copied.is) c.is_above (copied.named ∙ sym c.parent_named)

        there : node_at s.tree (child copied.at c.name) ≡ Some c.node
        there = copies.copy (child copied.at c.name) ∙ ap live (sym (append_assoc path copied.at (c.name ∷ []))) ∙ ap (λ (r : Names). live (child r c.name)) one ∙ c.is

  pub marks-snap : (live : Nodes B) (members : List (Member B)) (marks : RowMarks) (issued : ℕ) (path : Names) (s : Member B)
      → Copies live path s → s.snapshot.0 ≡ issued + 1 → IsNodes live → AreMarks live members marks issued → AreMarks live (members ++ s ∷ []) marks (issued + 1)
  marks-snap live members marks issued path s copies number is are = record {
    down = λ p x m c is_live lt copied own. by_member members s m is_live
        (λ old. are.down p x m c old lt copied own)
        (λ e. subst (λ (o : Member B). InCopy o p) (sym e) (copy_down live path s copies is p x c (subst (λ (o : Member B). InCopy o x) e copied) (subst (λ (o : Member B). o.directory ≢ x) e own)));
    up = λ p x m c is_live lt copied. by_member members s m is_live
        (λ old. are.up p x m c old lt copied)
        (λ e. subst (λ (o : Member B). InCopy o x × Child (node_at o.tree) p x) (sym e) (copy_up live path s copies is p x c (subst (λ (o : Member B). InCopy o p) e copied)));
    carried = λ x m h is_live le copied. by_member members s m is_live
        (λ old. are.carried x m h old le copied)
        (λ e. let id : m.snapshot.0 ≡ s.snapshot.0 = ap (λ (o : Member B). o.snapshot.0) e in let upto = are.since_issued x h in absurd (omega arith));
    since_issued = λ x h. let upto = are.since_issued x h in omega arith;
    carry_issued = λ x h. let upto = are.carry_issued x h in omega arith;
  }

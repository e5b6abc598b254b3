-- The first table.
use Rattle.std.proofs.Common.{◌≡◌, ℕ, ◌≤◌, List, [], ◌∷◌, Some, None, refl, sym, ap, subst, ◌∙◌, arith}
use Rattle.std.specs.List.{Contains}
use Rattle.hs_types.specs.Names.{Names}
use Rattle.hs_types.specs.declared.ids.InodeId.{InodeId}
use Rattle.hs_types.specs.declared.name.Spot.{Spot}
use Rattle.hs_plain.specs.declared.state.Node.{Node}
use Rattle.hs_plain.specs.declared.state.Member.{Member}
use Rattle.hs_plain.specs.declared.state.FileBlocks.{FileBlocks}
use Rattle.hs_plain.specs.Tree.{Tree, node_at}
use Rattle.hs_plain.specs.State.{start, new_dir}
use Rattle.hs_plain.proofs.ValidShapes.{none_some, same_some}
use Rattle.dir_changes.specs.Entries.{id_at}
use Rattle.inode_table.specs.Reads.{Has, child, id_of}
use Rattle.inode_table.specs.RowHistory.{shown, marks_of}
use Rattle.inode_table.specs.Stands.{Stands, root_id}
use Rattle.inode_table.specs.Start.{first_row}

abbrev first_tree : Tree FileBlocks
first_tree = ([], new_dir 1 0) ∷ []

no_kid : (p : Names) (name : List ℕ) → node_at first_tree (child p name) ≡ None
no_kid [] name = refl
no_kid (a ∷ p) name = refl

none_in : (m : Member FileBlocks) → Contains [] m → ⊥
none_in m within = let lt = within.1 in omega arith

pub start-stands : (spot : Spot) → Stands ((root_id, first_row spot) ∷ []) (start {B = FileBlocks}) 0
start-stands spot = record {
  live = record { root = refl; node = at; entries = kids; spot = λ p n x name h k. absurd (none_some (sym (no_kid p name) ∙ k)) };
  frozen = λ m within. absurd (none_in m within);
  marks = record {
    down = λ p x m c within. absurd (none_in m within);
    up = λ p x m c within. absurd (none_in m within);
    carried = λ x m h within. absurd (none_in m within);
    since_issued = λ x h. zero_mark x h;
    carry_issued = λ x h. zero_carry x h;
  };
  top = record { own = λ m within. absurd (none_in m within); above = λ m within. absurd (none_in m within); since = refl };
  ids_issued = λ m within. absurd (none_in m within);
}
  where
    at : (p : Names) (n : Node FileBlocks) → node_at first_tree p ≡ Some n → (shown ((root_id, first_row spot) ∷ []) 0).node n.id ≡ Some n
    at [] n h = subst (λ (k : Node FileBlocks). (shown ((root_id, first_row spot) ∷ []) 0).node k.id ≡ Some k) (same_some h) refl
    at (a ∷ p) n h = absurd (none_some h)

    kids : (p : Names) (n : Node FileBlocks) (name : List ℕ) → node_at first_tree p ≡ Some n → id_at name ((shown ((root_id, first_row spot) ∷ []) 0).entries n.id) ≡ id_of (node_at first_tree (child p name))
    kids [] n name h = subst (λ (k : Node FileBlocks). id_at name ((shown ((root_id, first_row spot) ∷ []) 0).entries k.id) ≡ None) (same_some h) refl
    kids (a ∷ p) n name h = absurd (none_some h)

    is_root : (x : InodeId) → Has (node_at first_tree) x → root_id ≡ x
    is_root x h = by h.at h.node h.is h.named
      where
        by : (p : Names) (n : Node FileBlocks) → node_at first_tree p ≡ Some n → n.id ≡ x → root_id ≡ x
        by [] n h e = ap (λ (k : Node FileBlocks). k.id) (same_some h) ∙ e
        by (a ∷ p) n h e = absurd (none_some h)

    zero_mark : (x : InodeId) → Has (node_at first_tree) x → (marks_of ((root_id, first_row spot) ∷ []) x).since ≤ 0
    zero_mark x h = subst (λ (i : InodeId). (marks_of ((root_id, first_row spot) ∷ []) i).since ≤ 0) (is_root x h) (omega arith)

    zero_carry : (x : InodeId) → Has (node_at first_tree) x → (marks_of ((root_id, first_row spot) ∷ []) x).carry ≤ 0
    zero_carry x h = subst (λ (i : InodeId). (marks_of ((root_id, first_row spot) ∷ []) i).carry ≤ 0) (is_root x h) (omega arith)

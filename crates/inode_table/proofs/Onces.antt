-- No inode comes to stand in two current lists.
use Rattle.std.proofs.Common.{◌≡◌, ℕ, cond, List, Some, None, sym, ap, ◌∙◌}
use Rattle.hs_types.specs.declared.ids.InodeId.{InodeId}
use Rattle.hs_plain.proofs.ValidShapes.{none_some, same_some, true_false}
use Rattle.dir_changes.specs.Entries.{id_at, with_entry, without_name}
use Rattle.dir_changes.proofs.EditLaws.{same_name, by_name, id_at-with_entry, id_at-without_name, same_name-refl}
use Rattle.inode_table.specs.Once.{Lists, IsIn, IsOnce, NewList}
use Rattle.inode_table.proofs.Reading.{by_id}

module _ (before after : Lists) (dir x : InodeId) (name : List ℕ) where
  -- an entry that is left was there, and isn't the one that went
  left : NewList before after dir (without_name name (before dir)) → (q y : InodeId) (b : List ℕ) → IsIn after q b y → IsIn before q b y × ((q ≡ dir) → (b ≡ name) → ⊥)
  left step q y b h = by_id q dir
      (λ e. let there : id_at b (without_name name (before dir)) ≡ Some y = ap (id_at b) (sym step.here) ∙ ap (λ (i : InodeId). id_at b (after i)) (sym e) ∙ h in
      by_name {q = b} {name = name} (λ t. cond t None (id_at b (before dir)) ≡ Some y → IsIn before q b y × ((q ≡ dir) → (b ≡ name) → ⊥))
      (λ _ k. absurd (none_some k))
      (λ other k. (ap (λ (i : InodeId). id_at b (before i)) e ∙ k, λ _ d. true_false (same_name-refl name) (ap (λ (n : List ℕ). same_name n name) (sym d) ∙ other)))
      (sym (id_at-without_name b name (before dir)) ∙ there))
      (λ ne. (ap (id_at b) (sym (step.there q ne)) ∙ h, λ e _. ne e))

  pub once-remove : NewList before after dir (without_name name (before dir)) → IsIn before dir name x → IsOnce before → IsOnce after × ((q : InodeId) (b : List ℕ) → IsIn after q b x → ⊥)
  once-remove step there once = (
    λ p q a b y h k. once p q a b y (left step p y a h).0 (left step q y b k).0,
    λ q b h. let l = left step q x b h in let same = once q dir b name x l.0 there in l.1 same.0 same.1,
  )

  -- an entry is the new one, or was there
  came : {P : Type 0} → NewList before after dir (with_entry name x (before dir)) → (q y : InodeId) (b : List ℕ) → IsIn after q b y → ((q ≡ dir) → (b ≡ name) → (y ≡ x) → P) → (IsIn before q b y → P) → P
  came {P} step q y b h new old = by_id q dir
      (λ e. by_name {q = b} {name = name} (λ t. cond t (Some x) (id_at b (before dir)) ≡ Some y → P)
      (λ d k. new e d (sym (same_some k)))
      (λ _ k. old (ap (λ (i : InodeId). id_at b (before i)) e ∙ k))
      (sym (id_at-with_entry b name x (before dir)) ∙ ap (id_at b) (sym step.here) ∙ ap (λ (i : InodeId). id_at b (after i)) (sym e) ∙ h))
      (λ ne. old (ap (id_at b) (sym (step.there q ne)) ∙ h))

  pub once-add : NewList before after dir (with_entry name x (before dir)) → ((q : InodeId) (b : List ℕ) → IsIn before q b x → ⊥) → IsOnce before → IsOnce after
  once-add step free once p q a b y h k = came step p y a h
      (λ e d s. came step q y b k
      (λ e2 d2 _. (e ∙ sym e2, d ∙ sym d2))
      (λ was. absurd (free q b (was ∙ ap (λ i. Some i) s))))
      (λ was. came step q y b k
      (λ _ _ s. absurd (free p a (was ∙ ap (λ i. Some i) s)))
      (λ too. once p q a b y was too))

-- No inode stands in two current lists.
use Rattle.std.specs.Prelude.{◌≡◌, ◌≢◌, ℕ, List, Some}
use Rattle.hs_types.specs.declared.ids.InodeId.{InodeId}
use Rattle.dir_changes.specs.Entries.{Entries, id_at, with_entry, without_name}

-- current lists, by directory, as `(shown table 0).entries`
abbrev pub Lists : Type 0
Lists = InodeId → Entries

abbrev pub IsIn : Lists → InodeId → List ℕ → InodeId → Type 0
IsIn lists dir name x = id_at name (lists dir) ≡ Some x

abbrev pub IsOnce : Lists → Type 0
IsOnce lists = (p q : InodeId) (a b : List ℕ) (x : InodeId) → IsIn lists p a x → IsIn lists q b x → (p ≡ q) × (a ≡ b)

pub record NewList (before after : Lists) (dir : InodeId) (list : Entries) : Type 0 where
  pub here : after dir ≡ list
  pub there : (other : InodeId) → other ≢ dir → after other ≡ before other

abbrev pub OnceRemoveLaw : Type 0
OnceRemoveLaw = (before after : Lists) (dir x : InodeId) (name : List ℕ) → NewList before after dir (without_name name (before dir)) → IsIn before dir name x → IsOnce before
    → IsOnce after × ((q : InodeId) (b : List ℕ) → IsIn after q b x → ⊥)

abbrev pub OnceAddLaw : Type 0
OnceAddLaw = (before after : Lists) (dir x : InodeId) (name : List ℕ) → NewList before after dir (with_entry name x (before dir)) → ((q : InodeId) (b : List ℕ) → IsIn before q b x → ⊥) → IsOnce before → IsOnce after

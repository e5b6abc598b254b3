-- How far a store's count of faults rises with the faulted entries of a journal.
use Rattle.std.specs.Prelude.{ℕ, ◌+◌, ◌-◌, ◌^◌, ◌<◌, ◌≤◌, min}
use Rattle.namenode_write.specs.Faulted.{fault_count}
use Rattle.namenode_write.specs.NamenodeValue.{NamenodeValue}

-- the count rose so often, or stands at the last number of a u64
abbrev pub RoseBy : ℕ → ℕ → ℕ → Type 0
RoseBy times before now = min (before + times) (2 ^ 64 - 1) ≤ now

-- for each faulted entry that came, the store's count rose
pub record CountsFaults {S : Type 0} (faults : S → ℕ) (old new : NamenodeValue S) : Type 0 where
  pub more : fault_count old.entries ≤ fault_count new.entries
  pub rose : RoseBy (fault_count new.entries - fault_count old.entries) (faults old.store) (faults new.store)

-- no store's count comes to more than so many above this one, nor to the last number of a u64
abbrev pub RisesAtMost : {S : Type 0} → ℕ → (S → ℕ) → ℕ → Type 0
RisesAtMost {S} most faults start = (store : S) → faults store < min (start + most + 1) (2 ^ 64 - 1)

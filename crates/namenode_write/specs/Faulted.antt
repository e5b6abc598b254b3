-- How many calls met a fault of the store.
use Rattle.std.specs.Prelude.{ℕ, Bool, true, false, List, count_by}
use Rattle.hs_types.specs.declared.journal.EntryKind.{EntryKind}
use Rattle.hs_types.specs.declared.journal.EntryKind.TheVariants.{Accepted, Faulted}
use Rattle.hs_types.specs.declared.journal.Entry.{Entry}

abbrev pub is_faulted : EntryKind → Bool
is_faulted Accepted = false
is_faulted Faulted = true

-- how many entries of a journal are faulted
abbrev pub fault_count : List Entry → ℕ
fault_count journal = count_by (λ entry. is_faulted entry.kind) journal

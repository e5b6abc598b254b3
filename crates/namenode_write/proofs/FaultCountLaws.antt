-- Faulted entries are counted by the store, call by call.
use Rattle.std.proofs.Common.{◌≡◌, ℕ, ◌+◌, ◌-◌, ◌^◌, ◌≤◌, Bool, true, false, cond, if◌then◌else◌, None, Some, List, [], ◌∷◌, ◌++◌, refl, ap, ◌∙◌, arith}
use Rattle.std.specs.Prelude.{min}
use Rattle.std.specs.Option.{option_to_list}
use Rattle.std.proofs.lemmas.List.Sums.{count_by-le-length, sum_by-append}
use Rattle.hs_types.specs.declared.ids.CallerId.{CallerId}
use Rattle.hs_types.specs.declared.journal.Entry.{Entry}
use Rattle.hs_types.specs.declared.journal.EntryKind.TheVariants.{Accepted, Faulted}
use Rattle.hs_types.specs.Faults.{Rose}
use Rattle.hs_plain.specs.Answer.{is_store_fault}
use Rattle.hs_plain.specs.Legal.{Said, entry_left, entry_of, leaves_entry}
use Rattle.namenode_write.specs.Faulted.{is_faulted, fault_count}
use Rattle.namenode_write.specs.FaultCounts.{CountsFaults}
use Rattle.namenode_write.specs.NamenodeValue.{NamenodeValue}

fault_count-append : (entries more : List Entry) → fault_count (entries ++ more) ≡ fault_count entries + fault_count more
fault_count-append entries more = sum_by-append (λ entry. cond (is_faulted entry.kind) 1 0) entries more

-- a call that met no fault leaves no faulted entry
none_faulted : (leaves : Bool) (entry : Entry) → is_faulted entry.kind ≡ false → fault_count (option_to_list (if leaves then Some entry else None)) ≡ 0
none_faulted false entry accepted = refl
none_faulted true entry accepted = ap (λ b. 0 + cond b 1 0) accepted

-- and no call leaves more than one
one_faulted : (leaves : Bool) (entry : Entry) → fault_count (option_to_list (if leaves then Some entry else None)) ≤ 1
one_faulted false entry = omega arith
one_faulted true entry = count_by-le-length (λ entry. is_faulted entry.kind) (entry ∷ [])

counted_if : {S : Type 0} (is : Bool) (faults : S → ℕ) (old new : NamenodeValue S) (caller : CallerId) (said : Said) → is_store_fault said.told.reply ≡ is →
    new.entries ≡ old.entries ++ option_to_list (entry_left caller said) →
    (is_store_fault said.told.reply ≡ true → Rose (faults old.store) (faults new.store)) → faults old.store ≤ faults new.store →
    CountsFaults faults old new
counted_if true faults old new caller said so grows cause rises =
    let rose : min (faults old.store + 1) (2 ^ 64 - 1) ≤ faults new.store = cause so in
    let few = one_faulted (leaves_entry said.call said.told.reply) (entry_of caller said.seq said.call said.told.reply) in
    let sum : fault_count new.entries ≡ fault_count old.entries + fault_count (option_to_list (entry_left caller said)) = ap fault_count grows ∙ fault_count-append old.entries (option_to_list (entry_left caller said)) in
    record { more = omega (arith, few, sum); rose = omega (arith, few, sum, rose) }
counted_if false faults old new caller said so grows cause rises =
    let none = none_faulted (leaves_entry said.call said.told.reply) (entry_of caller said.seq said.call said.told.reply) (ap (λ b. is_faulted (if b then Faulted else Accepted)) so) in
    let sum : fault_count new.entries ≡ fault_count old.entries + fault_count (option_to_list (entry_left caller said)) = ap fault_count grows ∙ fault_count-append old.entries (option_to_list (entry_left caller said)) in
    record { more = omega (arith, none, sum); rose = omega (arith, none, sum, rises) }

-- a call's entry is counted
pub counted_call : {S : Type 0} (faults : S → ℕ) (old new : NamenodeValue S) (caller : CallerId) (said : Said) →
    new.entries ≡ old.entries ++ option_to_list (entry_left caller said) →
    (is_store_fault said.told.reply ≡ true → Rose (faults old.store) (faults new.store)) → faults old.store ≤ faults new.store →
    CountsFaults faults old new
counted_call faults old new caller said = counted_if (is_store_fault said.told.reply) faults old new caller said refl

-- nothing came
pub counted_none : {S : Type 0} (faults : S → ℕ) (same : NamenodeValue S) → CountsFaults faults same same
counted_none faults same = record { more = omega arith; rose = omega arith }

-- one after the other
pub counted_then : {S : Type 0} (faults : S → ℕ) (first middle last : NamenodeValue S) → CountsFaults faults first middle → CountsFaults faults middle last → CountsFaults faults first last
counted_then faults first middle last one two = record {
  more = omega (arith, one.more, two.more);
  rose = omega (arith, one.more, two.more, one.rose, two.rose);
}

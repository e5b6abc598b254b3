-- What a link that has its namenode alone knows of it.
use Rattle.std.specs.Prelude.{◌≡◌, ℕ, true, List, ◌++◌, length, Option, is_some}
use Rattle.std.specs.Option.{option_to_list}
use Rattle.std.specs.List.{list_all}
use Rattle.hs_types.specs.Blocks.{BlockMap}
use Rattle.hs_types.specs.declared.ids.CallerId.{CallerId}
use Rattle.hs_types.specs.declared.call.Call.{Call}
use Rattle.hs_types.specs.declared.journal.Entry.{Entry}
use Rattle.hs_types.specs.declared.reply.Answered.{Answered}
use Rattle.hs_plain.specs.Legal.{IsLegalCall, entry_left}
use Rattle.namenode_write.specs.FaultCounts.{CountsFaults}
use Rattle.namenode_write.specs.NamenodeValue.{NamenodeValue}
use Rattle.page_join.specs.Links.{Known, is_of}

-- it has seen the whole journal
abbrev pub known_of : {S : Type 0} → (S → Option BlockMap) → CallerId → ℕ → NamenodeValue S → Known
known_of blocks caller seq node = record { caller = caller; calls = seq; limit = node.limit; tells = is_some (blocks node.store); seen = node.entries }

-- behind what was there a journal has entries of this caller alone
pub record AreOwn (caller : CallerId) (old new : List Entry) : Type 0 where
  pub more : List Entry
  pub grown : new ≡ old ++ more
  pub own : list_all (is_of caller) more ≡ true

-- what stays of a namenode that one caller has alone: nobody else's entry comes, and its store counts each fault
pub record StaysAlone {S : Type 0} (faults : S → ℕ) (caller later : CallerId) (old new : NamenodeValue S) : Type 0 where
  pub same : later ≡ caller
  pub own : AreOwn caller old.entries new.entries
  pub counted : CountsFaults faults old new

-- one call of a namenode is answered at the end of its journal
pub record IsNodeCall {S : Type 0} (blocks : S → Option BlockMap) (faults : S → ℕ) (old new : NamenodeValue S) (caller : CallerId) (seq : ℕ) (call : Call) (told : Answered) : Type 0 where
  pub legal : IsLegalCall (is_some (blocks old.store)) old.limit new.entries caller seq call told
  pub place : told.position ≡ length old.entries
  pub appended : new.entries ≡ old.entries ++ option_to_list (entry_left caller (record { seq = seq; call = call; told = told }))
  pub limit : new.limit ≡ old.limit
  pub tells : is_some (blocks new.store) ≡ is_some (blocks old.store)
  pub counted : CountsFaults faults old new

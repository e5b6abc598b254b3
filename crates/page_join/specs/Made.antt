-- Calls of one link, one after the other, and what they are in a journal.
use Rattle.std.specs.Prelude.{◌≡◌, true, List, [], ◌∷◌, ◌++◌, length}
use Rattle.std.specs.List.{filter_map, AllByRecursion}
use Rattle.hs_types.specs.declared.journal.Entry.{Entry}
use Rattle.hs_plain.specs.Legal.{Said, IsLegalCall, entry_left, numbers_rise, places_rise}
use Rattle.page_join.specs.Links.{Known, IsCall, LeadsOn, entries_of}

-- a link made these calls, in order, and nothing else
abbrev pub AreMade : Known → Known → List Said → Type 0
AreMade old new [] = new ≡ old
AreMade old new (said ∷ more) = (now : Known) × IsCall old now said.call said.told × (now.calls ≡ said.seq) × AreMade now new more

-- legal calls in a journal, behind what their link knew before the first of them
pub record AreLegalBehind (known : Known) (journal : List Entry) (calls : List Said) : Type 0 where
  -- each is answered as the plain machine does at its place
  pub each : AllByRecursion (λ said. IsLegalCall known.tells known.limit journal known.caller said.seq said.call said.told) calls
  -- their numbers rise from the link's number on
  pub numbers : numbers_rise known.calls calls ≡ true
  -- each answer knows at least what the one before knew, and the first what the link had seen
  pub places : places_rise (length known.seen) calls ≡ true
  -- the caller's entries are those that were seen before and those that these calls left, in order
  pub entries : entries_of known.caller journal ≡ entries_of known.caller known.seen ++ filter_map (entry_left known.caller) calls

-- calls that a link made are legal in what it then has seen, and in each journal that goes on from there without an entry of its caller
abbrev pub MadeAreLegal : Type 0
MadeAreLegal = (old new : Known) (calls : List Said) (journal : List Entry) →
    AreMade old new calls → LeadsOn old.caller new.seen journal → AreLegalBehind old journal calls

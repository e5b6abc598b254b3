-- What only proofs use: what links to a namenode promise, and a run whose calls were made through them.
use Rattle.std.specs.Prelude.{◌≡◌, ℕ, ◌+◌, ◌-◌, ◌^◌, ◌≤◌, min, ⊤, Bool, true, ◌==◌, nat_lt, nat_le, List, [], ◌∷◌, ◌++◌, length}
use Rattle.std.specs.List.{filter, list_all}
use Rattle.std.specs.Option.{option_to_list}
use Rattle.hs_types.specs.declared.call.Call.TheVariants as calls
use Rattle.hs_types.specs.declared.call.ReadCursor.{ReadCursor}
use Rattle.hs_types.specs.declared.journal.Entry.{Entry}
use Rattle.hs_types.specs.declared.journal.EntryKind.TheVariants.{Faulted}
use Rattle.hs_types.specs.Limits.{journal_limit}
use Rattle.hs_plain.specs.Legal.{Said, entry_left, number_rises, places_of}
use Rattle.hs_plain.specs.Replay.{is_proper}
use Rattle.copy_workers.specs.declared.copied.Made.{Made}
use Rattle.run_output.specs.Steps.{Sections, Step, printed, made, failed, counted}
use Rattle.run_output.specs.Run.{caller, IsLegal}

abbrev pub is_of : ℕ → Entry → Bool
is_of c entry = entry.caller.0 == c

-- the entry that a call left, if it left one
abbrev pub own : ℕ → Said → List Entry
own c said = option_to_list (entry_left (caller c) said)

-- ---- links

-- one call of a link: it sees more than before, and beyond that only this call's own entry is its caller's
pub record IsCalled (tells : Bool) (c : ℕ) (old : List Entry) (number : ℕ) (new : List Entry) (said : Said) : Type 0 where
  pub others : List Entry
  pub foreign : filter (is_of c) others ≡ []
  pub grows : new ≡ (old ++ others) ++ own c said
  pub place : said.told.position ≡ length (old ++ others)
  pub legal : IsLegal tells new c said
  pub counted : said.seq ≡ min (number + 1) (2 ^ 64 - 1)

-- one entry that a sync made through a link
pub record IsMadeBy (c : ℕ) (old : List Entry) (number : ℕ) (new : List Entry) (m : Made) : Type 0 where
  pub others : List Entry
  pub foreign : filter (is_of c) others ≡ []
  pub entry : Entry
  pub by : entry.caller.0 ≡ c
  pub caller_is : m.caller.0 ≡ c
  pub seq_is : entry.seq ≡ m.seq
  pub grows : new ≡ (old ++ others) ++ entry ∷ []
  pub place : m.position ≡ length (old ++ others)
  pub counted : number_rises number m.seq ≡ true

-- one read of a sync that left an entry, since the store failed
pub record IsFailedBy (c : ℕ) (old new : List Entry) (position : ℕ) : Type 0 where
  pub others : List Entry
  pub foreign : filter (is_of c) others ≡ []
  pub entry : Entry
  pub by : entry.caller.0 ≡ c
  pub kind_is : entry.kind ≡ Faulted
  pub cursor : ReadCursor
  pub len : ℕ
  pub call_is : entry.call ≡ calls.ReadNext cursor len
  pub grows : new ≡ (old ++ others) ++ entry ∷ []
  pub place : position ≡ length (old ++ others)

-- calls of a link, one after the other, and what is seen at the end, which another link may have told it
abbrev pub AreLinked : Bool → ℕ → List Entry → ℕ → List Step → List Entry → Type 0
AreLinked tells c old number [] new = (others : List Entry) × (new ≡ old ++ others) × (filter (is_of c) others ≡ [])
AreLinked tells c old number (printed said ∷ more) new = (seen : List Entry) × IsCalled tells c old number seen said × AreLinked tells c seen said.seq more new
AreLinked tells c old number (made m ∷ more) new = (seen : List Entry) × IsMadeBy c old number seen m × AreLinked tells c seen m.seq more new
AreLinked tells c old number (failed position ∷ more) new = (seen : List Entry) × IsFailedBy c old seen position × AreLinked tells c seen number more new
AreLinked tells c old number (counted n ∷ more) new = (nat_le number n ≡ true) × AreLinked tells c old n more new

abbrev pub last_number : ℕ → List Step → ℕ
last_number number [] = number
last_number number (printed said ∷ more) = last_number said.seq more
last_number number (made m ∷ more) = last_number m.seq more
last_number number (failed position ∷ more) = last_number number more
last_number number (counted n ∷ more) = last_number n more

-- a client's link begins with what setup's saw, and finish's link then knows what the client saw
pub record IsClientMet (tells : Bool) (begun ended journal : List Entry) (c : ℕ) (client : List Step) : Type 0 where
  pub calls : AreLinked tells c begun 0 client ended
  pub before : filter (is_of c) begun ≡ []
  pub after : places_of c 0 journal ≡ places_of c 0 ended

abbrev pub AreClientsMet : Bool → List Entry → List Entry → List Entry → ℕ → List (List Step) → Type 0
AreClientsMet tells begun ended journal c [] = ⊤
AreClientsMet tells begun ended journal c (client ∷ clients) = IsClientMet tells begun ended journal c client × AreClientsMet tells begun ended journal (c + 1) clients

-- one namenode's links, through setup, a meeting, the clients, a meeting and finish
pub record AreMet (tells : Bool) (journal : List Entry) (steps : Sections Step) : Type 0 where
  pub begun : List Entry
  pub ended : List Entry
  pub proper : is_proper journal ≡ true
  pub few : length journal ≤ journal_limit
  pub setup : AreLinked tells 0 [] 0 steps.setup begun
  pub clients : AreClientsMet tells begun ended journal 1 steps.clients
  pub meeting : AreLinked tells 0 begun 0 [] ended
  pub finish : AreLinked tells 0 ended (last_number 0 steps.setup) steps.finish journal
  pub alone : list_all (λ entry. nat_lt entry.caller.0 (length steps.clients + 1)) journal ≡ true

-- A number for each lock, for a layer above that tells locks apart by number.
use Rattle.std.specs.Prelude.{◌≡◌, Bool, true, false, ℕ, zero, suc, ◌+◌, ◌*◌, List, [], ◌∷◌}
use Rattle.turn_lock.specs.Seats.{Lock}

-- twice and one more, doubled n times
abbrev pub shifted : ℕ → ℕ → ℕ
shifted zero m = 2 * m + 1
shifted (suc n) m = 2 * shifted n m

-- one number for a list of numbers
abbrev pub packed : List ℕ → ℕ
packed [] = 0
packed (n ∷ ns) = shifted n (packed ns)

-- a truth as a number
abbrev pub bit : Bool → ℕ
bit false = 0
bit true = 1

abbrev pub numbers_of : Lock → List ℕ
numbers_of l = l.seats ∷ l.kept.limit ∷ bit l.kept.tells ∷ l.table.words ∷ l.table.slots ∷ l.table.views_name ∷ l.table.atom ∷ l.table.block ∷ l.table.offset ∷ l.table.slot_names

-- the number of a lock, which no other has
unfoldable pub number_of : Lock → ℕ
number_of l = packed (numbers_of l)

-- ---- a law

-- two locks with one number are one lock
abbrev pub NumberTellsLock : Type 0
NumberTellsLock = (a b : Lock) → number_of a ≡ number_of b → a ≡ b

-- Each record's interval holds a live id.
use Rattle.std.specs.Prelude.{◌≡◌, ◌≢◌, ◌⊎◌, ℕ, zero, suc, ◌<◌, ◌≤◌, List, [], ◌∷◌, ◌++◌, length, remove, true, false}
use Rattle.std.specs.List.{Contains}
use Rattle.hs_plain.specs.declared.state.Member.{Member}
use Rattle.hs_plain.specs.declared.state.FileBlocks.{FileBlocks}
use Rattle.inode_table.specs.RowHistory.{RowHistory, is_live_between, need, ReadsAlike}

-- numbers rise, and in each interval, from just above the one before, there is a live id
abbrev pub Recorded : {B : Type 0} → List (Member B) → ℕ → List ℕ → Type 0
Recorded members before [] = Unit {0}
Recorded members before (n ∷ ns) = (before < n) × (is_live_between members before n ≡ true) × Recorded members n ns

-- the last number, or the one before the first
abbrev pub last_of_all : ℕ → List ℕ → ℕ
last_of_all before [] = before
last_of_all before (n ∷ ns) = last_of_all n ns

abbrev pub before_at : ℕ → List ℕ → ℕ → ℕ
before_at before ns zero = before
before_at before [] (suc i) = before
before_at before (n ∷ ns) (suc i) = before_at n ns i

abbrev pub at_or : List ℕ → ℕ → ℕ
at_or [] i = 0
at_or (n ∷ ns) zero = n
at_or (n ∷ ns) (suc i) = at_or ns i

-- one record lost the last live id of its interval
pub record Loses {B : Type 0} (fewer : List (Member B)) (before : ℕ) (ns : List ℕ) : Type 0 where
  pub i : ℕ
  pub within : i < length ns
  pub none : is_live_between fewer (before_at before ns i) (at_or ns i) ≡ false
  pub rest : Recorded fewer before (remove ns i)

-- as one snapshot goes, a row loses no interval, or one
abbrev pub LoseLaw : Type 0
LoseLaw = (members fewer : List (Member FileBlocks)) (gone : ℕ) (ns : List ℕ) → ((m : Member FileBlocks) → Contains members m → m.snapshot.0 ≢ gone → Contains fewer m)
    → Recorded members 0 ns → Recorded fewer 0 ns ⊎ Loses fewer 0 ns

-- a record at the need keeps the rule
abbrev pub StartLaw : Type 0
StartLaw = (members : List (Member FileBlocks)) (ns : List ℕ) (cover : ℕ) → Recorded members 0 ns → last_of_all 0 ns < need members (last_of_all 0 ns) cover
    → Recorded members 0 (ns ++ need members (last_of_all 0 ns) cover ∷ [])

-- what a row promises as record i is merged away: readings outside the interval stay
pub record Merges (i : ℕ) (ns : List ℕ) (old new : RowHistory) : Type 0 where
  pub below : (s : ℕ) → s ≤ before_at 0 ns i → ReadsAlike s old new
  pub above : (s : ℕ) → at_or ns i < s → ReadsAlike s old new

abbrev pub MergeLaw : Type 0
MergeLaw = (fewer : List (Member FileBlocks)) (m : Member FileBlocks) (ns : List ℕ) (lost : Loses fewer 0 ns) (old new : RowHistory) → Merges lost.i ns old new → Contains fewer m → ReadsAlike m.snapshot.0 old new

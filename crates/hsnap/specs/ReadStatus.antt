-- Why no script is run.
use Rattle.std.specs.Prelude.{◌≡◌, ℕ, List, Option, None}
use Rattle.hs_types.specs.Faults.{Rose}
use Rattle.run_output.specs.declared.ran.Status.{Status}
use Rattle.run_output.specs.declared.ran.Status.TheVariants as status
use Rattle.hs_io.specs.Bytes.{GivesWithin, GivesPast}
use Rattle.hsnap.specs.CommandLine.{meaning_of_words}
use Rattle.hsnap.specs.Serial.{most_bytes, IsBadScript, AsksForInput}

-- the cause of each status with which there is no script: input is read only where the words ask for it
abbrev pub IsReadCause : List (List ℕ) → Option (List ℕ) → Option (List ℕ) → ℕ → ℕ → Status → Type 0
IsReadCause words before now faults_before faults_now status.Ok = ⊥
IsReadCause words before now faults_before faults_now status.Usage = (meaning_of_words words ≡ None) × (now ≡ before)
IsReadCause words before now faults_before faults_now (status.Script line kind) = AsksForInput words × IsBadScript before now line kind
IsReadCause words before now faults_before faults_now status.TooLarge = AsksForInput words × GivesPast most_bytes before now
IsReadCause words before now faults_before faults_now status.ReadFault = AsksForInput words × Rose faults_before faults_now × GivesWithin most_bytes before now
IsReadCause words before now faults_before faults_now status.WriteFault = ⊥
IsReadCause words before now faults_before faults_now status.NoMemory = GivesWithin most_bytes before now

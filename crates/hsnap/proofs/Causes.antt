-- What each cause rules out, where a source tells its bytes and nothing fails.
use Rattle.std.proofs.Common.{◌≡◌, ◌⊎◌, inl, inr, ℕ, ◌≤◌, ◌<◌, true, List, ◌++◌, length, Option, None, Some, Result, Ok, Err, refl, ap, sym, subst, ◌∙◌, append-nil, length-append, arith}
use Rattle.hs_types.specs.Faults.{Rose}
use Rattle.hs_io.specs.Bytes.{Gives, IsEnded}
use Rattle.namenode_write.specs.FaultCounts.{RisesAtMost}
use Rattle.script_text.specs.declared.script.Script.{Script}
use Rattle.script_text.specs.declared.fault.FaultKind.{FaultKind}
use Rattle.script_text.specs.declared.fault.ScriptFault.{ScriptFault}
use Rattle.script_text.specs.Scripts.{meaning_of}
use Rattle.run_output.specs.declared.ran.Status.{Status}
use Rattle.run_output.specs.declared.ran.Status.TheVariants as status
use Rattle.hsnap.specs.declared.command_line.Mode.{Mode}
use Rattle.hsnap.specs.declared.command_line.Mode.TheVariants as modes
use Rattle.hsnap.specs.declared.command_line.Words.{Words}
use Rattle.hsnap.specs.CommandLine.{meaning_of_words}
use Rattle.hsnap.specs.Serial.{most_bytes, AsksForInput, AsksForGenerated, is_ok_or_no_memory, is_too_large_or_no_memory, IsScriptOrNoMemory}
use Rattle.hsnap.specs.ReadStatus.{IsReadCause}

-- what was given to the end is all
pub all_given : (rest bytes : List ℕ) (now : Option (List ℕ)) → Gives (Some rest) now bytes → IsEnded now → bytes ≡ rest
all_given rest bytes None given ended = absurd (cc)
all_given rest bytes (Some left) given ended =
    let whole : rest ≡ bytes ++ left = cc in
    sym (whole ∙ ap (λ (l : List ℕ). bytes ++ l) ended ∙ append-nil bytes)

-- no more is given than is there
few_given : (rest bytes : List ℕ) (now : Option (List ℕ)) → Gives (Some rest) now bytes → length bytes ≤ length rest
few_given rest bytes None given = absurd (cc)
few_given rest bytes (Some left) given =
    let whole : rest ≡ bytes ++ left = cc in
    omega (arith, length-append bytes left, ap length whole)

-- two meanings of a text are one
abbrev pub Told : Result Script ScriptFault → Result Script ScriptFault → Type 0
Told a b = a ≡ b

pub not_both : (script : Script) (fault : ScriptFault) → Told (Err fault) (Ok script) → ⊥
not_both script fault same = absurd (cc)

abbrev fault_of : ℕ → FaultKind → ScriptFault
fault_of line kind = record { line = line; kind = kind }

same_fault : (at line : ℕ) (what kind : FaultKind) → Told (Err (record { line = at; kind = what })) (Err (record { line = line; kind = kind })) → (at ≡ line) × (what ≡ kind)
same_fault at line what kind same =
    let one : fault_of at what ≡ fault_of line kind = cc in
    (ap (λ (fault : ScriptFault). fault.line) one, ap (λ (fault : ScriptFault). fault.kind) one)

-- words that mean a command line are not without meaning
pub no_usage : (words : List (List ℕ)) (meaning : Words) → meaning_of_words words ≡ Some meaning → meaning_of_words words ≡ None → ⊥
no_usage words meaning means none = absurd (cc)

-- words don't ask for an input and for a generated script
not_both_modes : (one : Mode) → one ≡ modes.Serial → one ≡ modes.Generated → ⊥
not_both_modes one serial generated = absurd (cc)

no_input : (words : List (List ℕ)) → AsksForGenerated words → AsksForInput words → ⊥
no_input words generates asks =
    let same : generates.meaning ≡ asks.meaning = cc in
    not_both_modes asks.meaning.mode asks.serial (sym (ap (λ (meaning : Words). meaning.mode) same) ∙ generates.generated)

-- the input is a script
script_read : (words : List (List ℕ)) (rest : List ℕ) (now : Option (List ℕ)) (faults more : ℕ) (why : Status) (script : Script) → AsksForInput words → IsReadCause words (Some rest) now faults more why →
    length rest ≤ most_bytes → meaning_of rest ≡ Ok script → (Rose faults more → ⊥) → is_ok_or_no_memory why ≡ true
script_read words rest now faults more status.Ok script asks cause fits means never = absurd cause
script_read words rest now faults more status.Usage script asks cause fits means never = absurd (no_usage words asks.meaning asks.words_mean cause.0)
script_read words rest now faults more (status.Script line kind) script asks cause fits means never =
    let same = all_given rest cause.1.bytes now cause.1.read.given cause.1.read.ended in
    absurd (not_both script (record { line = line; kind = kind }) (sym cause.1.means ∙ ap meaning_of same ∙ means))
script_read words rest now faults more status.TooLarge script asks cause fits means never = absurd (omega (arith, few_given rest cause.1.bytes now cause.1.given, cause.1.past, fits))
script_read words rest now faults more status.ReadFault script asks cause fits means never = absurd (never cause.1)
script_read words rest now faults more status.WriteFault script asks cause fits means never = absurd cause
script_read words rest now faults more status.NoMemory script asks cause fits means never = refl

pub is_script : (words : List (List ℕ)) (before now : Option (List ℕ)) (rest : List ℕ) (faults more : ℕ) (why : Status) (script : Script) → AsksForInput words → IsReadCause words before now faults more why → before ≡ Some rest →
    length rest ≤ most_bytes → meaning_of rest ≡ Ok script → (Rose faults more → ⊥) → is_ok_or_no_memory why ≡ true
is_script words before now rest faults more why script asks cause tells = script_read words rest now faults more why script asks (subst (λ (r : Option (List ℕ)). IsReadCause words r now faults more why) tells cause)

-- the input has a bad line
bad_read : (words : List (List ℕ)) (rest : List ℕ) (now : Option (List ℕ)) (faults more : ℕ) (why : Status) (line : ℕ) (kind : FaultKind) → AsksForInput words → IsReadCause words (Some rest) now faults more why →
    length rest ≤ most_bytes → meaning_of rest ≡ Err (record { line = line; kind = kind }) → (Rose faults more → ⊥) → IsScriptOrNoMemory line kind why
bad_read words rest now faults more status.Ok line kind asks cause fits means never = absurd cause
bad_read words rest now faults more status.Usage line kind asks cause fits means never = absurd (no_usage words asks.meaning asks.words_mean cause.0)
bad_read words rest now faults more (status.Script at what) line kind asks cause fits means never =
    let same = all_given rest cause.1.bytes now cause.1.read.given cause.1.read.ended in
    same_fault at line what kind (sym cause.1.means ∙ ap meaning_of same ∙ means)
bad_read words rest now faults more status.TooLarge line kind asks cause fits means never = absurd (omega (arith, few_given rest cause.1.bytes now cause.1.given, cause.1.past, fits))
bad_read words rest now faults more status.ReadFault line kind asks cause fits means never = absurd (never cause.1)
bad_read words rest now faults more status.WriteFault line kind asks cause fits means never = absurd cause
bad_read words rest now faults more status.NoMemory line kind asks cause fits means never = tt

pub is_bad : (words : List (List ℕ)) (before now : Option (List ℕ)) (rest : List ℕ) (faults more : ℕ) (why : Status) (line : ℕ) (kind : FaultKind) → AsksForInput words → IsReadCause words before now faults more why → before ≡ Some rest →
    length rest ≤ most_bytes → meaning_of rest ≡ Err (record { line = line; kind = kind }) → (Rose faults more → ⊥) → IsScriptOrNoMemory line kind why
is_bad words before now rest faults more why line kind asks cause tells = bad_read words rest now faults more why line kind asks (subst (λ (r : Option (List ℕ)). IsReadCause words r now faults more why) tells cause)

-- the input is too large
large_read : (words : List (List ℕ)) (rest : List ℕ) (now : Option (List ℕ)) (faults more : ℕ) (why : Status) → AsksForInput words → IsReadCause words (Some rest) now faults more why →
    most_bytes < length rest → (Rose faults more → ⊥) → is_too_large_or_no_memory why ≡ true
large_read words rest now faults more status.Ok asks cause large never = absurd cause
large_read words rest now faults more status.Usage asks cause large never = absurd (no_usage words asks.meaning asks.words_mean cause.0)
large_read words rest now faults more (status.Script line kind) asks cause large never =
    absurd (omega (arith, ap length (all_given rest cause.1.bytes now cause.1.read.given cause.1.read.ended), cause.1.read.within, large))
large_read words rest now faults more status.TooLarge asks cause large never = refl
large_read words rest now faults more status.ReadFault asks cause large never = absurd (never cause.1)
large_read words rest now faults more status.WriteFault asks cause large never = absurd cause
large_read words rest now faults more status.NoMemory asks cause large never = refl

pub is_large : (words : List (List ℕ)) (before now : Option (List ℕ)) (rest : List ℕ) (faults more : ℕ) (why : Status) → AsksForInput words → IsReadCause words before now faults more why → before ≡ Some rest →
    most_bytes < length rest → (Rose faults more → ⊥) → is_too_large_or_no_memory why ≡ true
is_large words before now rest faults more why asks cause tells = large_read words rest now faults more why asks (subst (λ (r : Option (List ℕ)). IsReadCause words r now faults more why) tells cause)

-- the words ask for the generated script: then no input is the cause
pub is_generated : (words : List (List ℕ)) (before now : Option (List ℕ)) (faults more : ℕ) (why : Status) → AsksForGenerated words → IsReadCause words before now faults more why → is_ok_or_no_memory why ≡ true
is_generated words before now faults more status.Ok generates cause = absurd cause
is_generated words before now faults more status.Usage generates cause = absurd (no_usage words generates.meaning generates.words_mean cause.0)
is_generated words before now faults more (status.Script line kind) generates cause = absurd (no_input words generates cause.0)
is_generated words before now faults more status.TooLarge generates cause = absurd (no_input words generates cause.0)
is_generated words before now faults more status.ReadFault generates cause = absurd (no_input words generates cause.0)
is_generated words before now faults more status.WriteFault generates cause = absurd cause
is_generated words before now faults more status.NoMemory generates cause = refl

-- the words are no command line
pub is_unusable : (words : List (List ℕ)) (before now : Option (List ℕ)) (faults more : ℕ) (why : Status) → meaning_of_words words ≡ None → IsReadCause words before now faults more why →
    (why ≡ status.Usage) ⊎ (why ≡ status.NoMemory)
is_unusable words before now faults more status.Ok none cause = absurd cause
is_unusable words before now faults more status.Usage none cause = inl refl
is_unusable words before now faults more (status.Script line kind) none cause = absurd (no_usage words cause.0.meaning cause.0.words_mean none)
is_unusable words before now faults more status.TooLarge none cause = absurd (no_usage words cause.0.meaning cause.0.words_mean none)
is_unusable words before now faults more status.ReadFault none cause = absurd (no_usage words cause.0.meaning cause.0.words_mean none)
is_unusable words before now faults more status.WriteFault none cause = absurd cause
is_unusable words before now faults more status.NoMemory none cause = inr refl

-- counts that never rise don't rise at all
pub never_rises : {S : Type 0} (faults : S → ℕ) (start : ℕ) → ((store : S) → Rose start (faults store) → ⊥) → RisesAtMost 0 faults start
never_rises faults start never = λ store. omega (arith, never store)

-- What holds of a run whatever its status says, and of each status.
use Rattle.std.proofs.Common.{◌≡◌, ◌⊎◌, inl, inr, ℕ, ◌≤◌, Bool, true, false, List, length, Option, Some, Result, Ok, Err, IfOk, refl, ap, sym, subst, ◌∙◌, arith}
use Rattle.hs_io.specs.Bytes.{Gives, Takes, TakesSome, GivesWithin, GivesPast}
use Rattle.hs_io.proofs.BytesLemmas.{gives_none, past_not_within}
use Rattle.script_text.specs.declared.script.Script.{Script}
use Rattle.script_text.specs.declared.script.ScriptLine.{ScriptLine}
use Rattle.script_text.specs.declared.fault.FaultKind.{FaultKind}
use Rattle.script_text.specs.Generator.{generated}
use Rattle.script_text.specs.Scripts.{meaning_of}
use Rattle.run_output.specs.declared.ran.Ran.{Ran}
use Rattle.run_output.specs.declared.ran.Status.{Status}
use Rattle.run_output.specs.declared.ran.Status.TheVariants as status
use Rattle.run_output.specs.Run.{IsRunInTurn}
use Rattle.hsnap.specs.declared.command_line.Mode.{Mode}
use Rattle.hsnap.specs.declared.command_line.Mode.TheVariants as modes
use Rattle.hsnap.specs.declared.command_line.Words.{Words}
use Rattle.hsnap.specs.CommandLine.{meaning_of_words}
use Rattle.hsnap.specs.Serial.{most_bytes, AsksForInput, IsScriptIn, text_in, IsDone, IsCutShort, not_run, is_early, is_ok_or_no_memory}
use Rattle.hsnap.specs.ReadStatus.{IsReadCause}
use Rattle.hsnap.proofs.Causes.{all_given, not_both}

-- a run is one whatever its status says
pub with_status : (source_tells target_tells : Bool) (page clients : ℕ) (lines : List ScriptLine) (ran : Ran) (status : Status) →
    IsRunInTurn source_tells target_tells page clients lines ran → IsRunInTurn source_tells target_tells page clients lines (record ran { status = status })
with_status source_tells target_tells page clients lines ran status is =
    record {
      runs = is.runs;
      run = record {
        lines = is.run.lines;
        logs = is.run.logs;
        setup_calls = is.run.setup_calls;
        client_calls = is.run.client_calls;
        finish_calls = is.run.finish_calls;
        source = is.run.source;
        target = is.run.target;
        syncs = is.run.syncs;
        source_end = is.run.source_end;
        target_end = is.run.target_end;
      };
      turn = is.turn;
    }

-- and so is its text what it is
pub text_with_status : (mode : Mode) (seed : ℕ) (ran : Ran) (status : Status) → text_in mode seed ran ≡ text_in mode seed (record ran { status = status })
text_with_status modes.Serial seed ran status = refl
text_with_status modes.Generated seed ran status = refl

-- the generated script is the one that the words ask for
pub generated_in : (mode : Mode) (seed : ℕ) (rest : Option (List ℕ)) (result : Result Script Status) → mode ≡ modes.Generated →
    IfOk result (λ script. script ≡ generated seed 20 10 5) → IfOk result (IsScriptIn mode seed rest rest)
generated_in modes.Generated seed rest (Ok script) is made = (refl, made)
generated_in modes.Serial seed rest (Ok script) is made = absurd (cc)
generated_in mode seed rest (Err why) is made = tt

-- no byte was read
unread : (before now : Option (List ℕ)) → now ≡ before → GivesWithin most_bytes before now
unread before now same = subst (λ (r : Option (List ℕ)). GivesWithin most_bytes before r) (sym same) (gives_none most_bytes before)

-- what was read of a script is within the limit
pub script_within : (mode : Mode) (seed : ℕ) (before now : Option (List ℕ)) (script : Script) → IsScriptIn mode seed before now script → GivesWithin most_bytes before now
script_within modes.Serial seed before now script is = record { bytes = is.bytes; given = is.read.given; within = is.read.within }
script_within modes.Generated seed before now script is = unread before now is.0

-- and so is what was read of no script, unless it was too large
pub cause_within : (words : List (List ℕ)) (before now : Option (List ℕ)) (faults more : ℕ) (why : Status) → IsReadCause words before now faults more why → (why ≡ status.TooLarge → ⊥) → GivesWithin most_bytes before now
cause_within words before now faults more status.Ok cause other = absurd cause
cause_within words before now faults more status.Usage cause other = unread before now cause.1
cause_within words before now faults more (status.Script line kind) cause other = record { bytes = cause.1.bytes; given = cause.1.read.given; within = cause.1.read.within }
cause_within words before now faults more status.TooLarge cause other = absurd (other refl)
cause_within words before now faults more status.ReadFault cause other = cause.2
cause_within words before now faults more status.WriteFault cause other = absurd cause
cause_within words before now faults more status.NoMemory cause other = cause

-- a byte past the limit leaves one status
pub past_is_too_large : (before now : Option (List ℕ)) (rest : List ℕ) (why : Status) → before ≡ Some rest →
    ((why ≡ status.TooLarge → ⊥) → GivesWithin most_bytes before now) → GivesPast most_bytes before now → why ≡ status.TooLarge
past_is_too_large before now rest why tells within past = by why within
  where
    never : GivesWithin most_bytes before now → ⊥
    never none = past_not_within most_bytes rest now (subst (λ (r : Option (List ℕ)). GivesPast most_bytes r now) tells past) (subst (λ (r : Option (List ℕ)). GivesWithin most_bytes r now) tells none)

    by : (why : Status) → ((why ≡ status.TooLarge → ⊥) → GivesWithin most_bytes before now) → why ≡ status.TooLarge
    by status.Ok within = absurd (never (within (λ so. absurd (cc))))
    by status.Usage within = absurd (never (within (λ so. absurd (cc))))
    by (status.Script line kind) within = absurd (never (within (λ so. absurd (cc))))
    by status.TooLarge within = refl
    by status.ReadFault within = absurd (never (within (λ so. absurd (cc))))
    by status.WriteFault within = absurd (never (within (λ so. absurd (cc))))
    by status.NoMemory within = absurd (never (within (λ so. absurd (cc))))

-- what is so far known of the run of a script: it was run, and a part of its text was written, or nothing was run
abbrev pub RunOrNone : Bool → Bool → Words → Script → Option (List ℕ) → Option (List ℕ) → Type 0 → Ran → Type 0
RunOrNone source_tells target_tells meaning script written_before written_now Rest ran =
    (IsRunInTurn source_tells target_tells meaning.page script.clients script.lines ran × TakesSome written_before written_now (text_in meaning.mode meaning.seed ran))
    ⊎ ((ran ≡ not_run status.NoMemory) × Rest)

-- a run of the script that the words ask for
cut_short : (source_tells target_tells : Bool) (words : List (List ℕ)) (meaning : Words) (script : Script) (before now written_before written_now : Option (List ℕ)) (ran : Ran) →
    meaning_of_words words ≡ Some meaning → IsScriptIn meaning.mode meaning.seed before now script →
    IsRunInTurn source_tells target_tells meaning.page script.clients script.lines ran × TakesSome written_before written_now (text_in meaning.mode meaning.seed ran) →
    IsCutShort source_tells target_tells words before now written_before written_now ran
cut_short source_tells target_tells words meaning script before now written_before written_now ran means read is =
    record { run = record { meaning = meaning; words_mean = means; script = script; script_is = read; run = is.0 }; text = is.1 }

-- with status Ok all of its text was written
pub was_done : (source_tells target_tells : Bool) (words : List (List ℕ)) (meaning : Words) (script : Script) (before now written_before written_now : Option (List ℕ)) (ran : Ran) (Rest : Type 0) →
    meaning_of_words words ≡ Some meaning → IsScriptIn meaning.mode meaning.seed before now script →
    RunOrNone source_tells target_tells meaning script written_before written_now Rest ran → Takes written_before written_now (text_in meaning.mode meaning.seed ran) →
    (ran.status ≡ status.NoMemory → ⊥) → IsDone source_tells target_tells words before now written_before written_now ran
was_done source_tells target_tells words meaning script before now written_before written_now ran Rest means read (inl is) text other =
    record { run = record { meaning = meaning; words_mean = means; script = script; script_is = read; run = is.0 }; text = text }
was_done source_tells target_tells words meaning script before now written_before written_now ran Rest means read (inr none) text other = absurd (other (ap (λ (r : Ran). r.status) none.0))

-- with another status than want of memory it was run
pub was_run : (source_tells target_tells : Bool) (words : List (List ℕ)) (meaning : Words) (script : Script) (before now written_before written_now : Option (List ℕ)) (ran : Ran) (Rest : Type 0) →
    meaning_of_words words ≡ Some meaning → IsScriptIn meaning.mode meaning.seed before now script → RunOrNone source_tells target_tells meaning script written_before written_now Rest ran →
    (ran.status ≡ status.NoMemory → ⊥) → IsCutShort source_tells target_tells words before now written_before written_now ran
was_run source_tells target_tells words meaning script before now written_before written_now ran Rest means read (inl is) other = cut_short source_tells target_tells words meaning script before now written_before written_now ran means read is
was_run source_tells target_tells words meaning script before now written_before written_now ran Rest means read (inr none) other = absurd (other (ap (λ (r : Ran). r.status) none.0))

-- and else maybe not
pub run_or_none : (source_tells target_tells : Bool) (words : List (List ℕ)) (meaning : Words) (script : Script) (before now written_before written_now : Option (List ℕ)) (ran : Ran) (Rest : Type 0) →
    meaning_of_words words ≡ Some meaning → IsScriptIn meaning.mode meaning.seed before now script → RunOrNone source_tells target_tells meaning script written_before written_now Rest ran →
    IsCutShort source_tells target_tells words before now written_before written_now ran ⊎ ((ran ≡ not_run status.NoMemory) × Rest)
run_or_none source_tells target_tells words meaning script before now written_before written_now ran Rest means read (inl is) = inl (cut_short source_tells target_tells words meaning script before now written_before written_now ran means read is)
run_or_none source_tells target_tells words meaning script before now written_before written_now ran Rest means read (inr none) = inr none

-- words that ask for an input have one meaning
pub serial_words : (words : List (List ℕ)) (meaning : Words) → AsksForInput words → meaning_of_words words ≡ Some meaning → meaning.mode ≡ modes.Serial
serial_words words meaning asks means =
    let same : meaning ≡ asks.meaning = cc in
    ap (λ (m : Words). m.mode) same ∙ asks.serial

-- of a script that was read, no input is too large
pub script_fits : (mode : Mode) (seed : ℕ) (rest : List ℕ) (before now : Option (List ℕ)) (script : Script) → mode ≡ modes.Serial → IsScriptIn mode seed before now script → before ≡ Some rest → length rest ≤ most_bytes
script_fits modes.Serial seed rest before now script serial is tells =
    let same = all_given rest is.bytes now (subst (λ (r : Option (List ℕ)). Gives r now is.bytes) tells is.read.given) is.read.ended in
    omega (arith, ap length same, is.read.within)
script_fits modes.Generated seed rest before now script serial is tells = absurd (cc)

-- and it has no bad line
pub script_not_bad : (mode : Mode) (seed : ℕ) (rest : List ℕ) (before now : Option (List ℕ)) (script : Script) (line : ℕ) (kind : FaultKind) → mode ≡ modes.Serial → IsScriptIn mode seed before now script → before ≡ Some rest →
    meaning_of rest ≡ Err (record { line = line; kind = kind }) → ⊥
script_not_bad modes.Serial seed rest before now script line kind serial is tells bad =
    let same = all_given rest is.bytes now (subst (λ (r : Option (List ℕ)). Gives r now is.bytes) tells is.read.given) is.read.ended in
    not_both script (record { line = line; kind = kind }) (sym bad ∙ ap meaning_of (sym same) ∙ is.means)
script_not_bad modes.Generated seed rest before now script line kind serial is tells bad = absurd (cc)

-- a late status that is no fault of writing
pub late_is_ok : (why : Status) → is_early why ≡ false → (why ≡ status.WriteFault → ⊥) → is_ok_or_no_memory why ≡ true
late_is_ok status.Ok late never = refl
late_is_ok status.Usage late never = absurd (cc)
late_is_ok (status.Script line kind) late never = absurd (cc)
late_is_ok status.TooLarge late never = absurd (cc)
late_is_ok status.ReadFault late never = absurd (cc)
late_is_ok status.WriteFault late never = absurd (never refl)
late_is_ok status.NoMemory late never = refl

use Rattle.std.specs.Prelude.{is_some}
use Rattle.std.proofs.Common.{◌≡◌, ◌⊎◌, true, ap, arith, sym, subst, ◌∙◌}
use Rattle.hs_io.specs.Bytes.{GivesWithin}
use Rattle.run_output.specs.declared.ran.Ran.{Ran}
use Rattle.run_output.specs.declared.ran.Status.{Status}
use Rattle.run_output.specs.declared.ran.Status.TheVariants as status
use Rattle.hsnap.specs.Serial.{most_bytes, IsScriptOrNoMemory, is_ok_or_no_memory, is_too_large_or_no_memory}
use Rattle.hsnap.proofs.Causes.{is_script, is_bad, is_large, is_generated, is_unusable, no_usage, never_rises}
use Rattle.hsnap.proofs.Statuses.{script_within, cause_within, past_is_too_large, was_done, was_run, run_or_none, serial_words, script_fits, script_not_bad, late_is_ok}
use Rattle.hsnap.proofs.serial.serial.Goals as goal

-- ---- a script was read

pub returns-in-Ok-clause-ok : goal.returns-in-Ok-clause-ok
returns-in-Ok-clause-ok g c = λ ok. was_done (is_some (g.B.BlockStore.blocks c.args.source_blocks)) (is_some (g.B.BlockStore.blocks c.args.target_blocks)) c.args.words.now c.in-Ok.asked.words c.in-Ok.asked.script (g.I.Source.rest c.args.input.now) (g.I.Source.rest c.read_asked.new.input) (g.O.Sink.written c.args.output.now) (g.O.Sink.written c.run_and_write.new.output) c.run_and_write.result (c.run_and_write.new.output ≡ c.args.output.now) c.in-Ok.ensures.words c.in-Ok.ensures.script c.run_and_write.ensures.run (c.run_and_write.ensures.text ok) (λ none. absurd (cc))

pub returns-in-Ok-clause-unusable : goal.returns-in-Ok-clause-unusable
returns-in-Ok-clause-unusable g c = λ none. absurd (no_usage c.args.words.now c.in-Ok.asked.words c.in-Ok.ensures.words none)

pub returns-in-Ok-clause-cut_short : goal.returns-in-Ok-clause-cut_short
returns-in-Ok-clause-cut_short g c = λ fault. was_run (is_some (g.B.BlockStore.blocks c.args.source_blocks)) (is_some (g.B.BlockStore.blocks c.args.target_blocks)) c.args.words.now c.in-Ok.asked.words c.in-Ok.asked.script (g.I.Source.rest c.args.input.now) (g.I.Source.rest c.read_asked.new.input) (g.O.Sink.written c.args.output.now) (g.O.Sink.written c.run_and_write.new.output) c.run_and_write.result (c.run_and_write.new.output ≡ c.args.output.now) c.in-Ok.ensures.words c.in-Ok.ensures.script c.run_and_write.ensures.run (λ none. absurd (cc))

pub returns-in-Ok-clause-no_memory : goal.returns-in-Ok-clause-no_memory
returns-in-Ok-clause-no_memory g c = λ none. run_or_none (is_some (g.B.BlockStore.blocks c.args.source_blocks)) (is_some (g.B.BlockStore.blocks c.args.target_blocks)) c.args.words.now c.in-Ok.asked.words c.in-Ok.asked.script (g.I.Source.rest c.args.input.now) (g.I.Source.rest c.read_asked.new.input) (g.O.Sink.written c.args.output.now) (g.O.Sink.written c.run_and_write.new.output) c.run_and_write.result (c.run_and_write.new.output ≡ c.args.output.now) c.in-Ok.ensures.words c.in-Ok.ensures.script c.run_and_write.ensures.run

pub returns-in-Ok-clause-within : goal.returns-in-Ok-clause-within
returns-in-Ok-clause-within g c = λ other. script_within c.in-Ok.asked.words.mode c.in-Ok.asked.words.seed (g.I.Source.rest c.args.input.now) (g.I.Source.rest c.read_asked.new.input) c.in-Ok.asked.script c.in-Ok.ensures.script

pub returns-in-Ok-clause-past : goal.returns-in-Ok-clause-past
returns-in-Ok-clause-past g c = λ rest tells past.
    past_is_too_large (g.I.Source.rest c.args.input.now) (g.I.Source.rest c.read_asked.new.input) rest c.run_and_write.result.status tells (λ other. script_within c.in-Ok.asked.words.mode c.in-Ok.asked.words.seed (g.I.Source.rest c.args.input.now) (g.I.Source.rest c.read_asked.new.input) c.in-Ok.asked.script c.in-Ok.ensures.script) past

pub returns-in-Ok-clause-complete : goal.returns-in-Ok-clause-complete
returns-in-Ok-clause-complete g c = λ rest script asks tells fits means reads never. late_is_ok c.run_and_write.result.status c.run_and_write.ensures.late (λ fault. absurd (never (c.run_and_write.ensures.cause fault)))

pub returns-in-Ok-clause-generated : goal.returns-in-Ok-clause-generated
returns-in-Ok-clause-generated g c = λ asks never. late_is_ok c.run_and_write.result.status c.run_and_write.ensures.late (λ fault. absurd (never (c.run_and_write.ensures.cause fault)))

pub returns-in-Ok-clause-refused : goal.returns-in-Ok-clause-refused
returns-in-Ok-clause-refused g c = λ rest line kind asks tells fits means never. absurd (script_not_bad c.in-Ok.asked.words.mode c.in-Ok.asked.words.seed rest (g.I.Source.rest c.args.input.now) (g.I.Source.rest c.read_asked.new.input) c.in-Ok.asked.script line kind (serial_words c.args.words.now c.in-Ok.asked.words asks c.in-Ok.ensures.words) c.in-Ok.ensures.script tells means)

pub returns-in-Ok-clause-large : goal.returns-in-Ok-clause-large
returns-in-Ok-clause-large g c = λ rest asks tells large never. absurd (omega (arith, large, script_fits c.in-Ok.asked.words.mode c.in-Ok.asked.words.seed rest (g.I.Source.rest c.args.input.now) (g.I.Source.rest c.read_asked.new.input) c.in-Ok.asked.script (serial_words c.args.words.now c.in-Ok.asked.words asks c.in-Ok.ensures.words) c.in-Ok.ensures.script tells))

pub returns-in-Ok-clause-faultless : goal.returns-in-Ok-clause-faultless
returns-in-Ok-clause-faultless g c = λ source target. (
  omega (arith, c.run_and_write.ensures.source_faulted 0 (never_rises g.B.BlockStore.faults (g.B.BlockStore.faults c.args.source_blocks) source)),
  omega (arith, c.run_and_write.ensures.target_faulted 0 (never_rises g.B.BlockStore.faults (g.B.BlockStore.faults c.args.target_blocks) target)),
)

-- ---- none was read

pub returns-in-Err-clause-unusable : goal.returns-in-Err-clause-unusable
returns-in-Err-clause-unusable g c = λ none.
    subst (λ (s : Status). (s ≡ status.Usage) ⊎ (s ≡ status.NoMemory)) (sym (ap (λ (r : Ran). r.status) c.unrun.ensures))
    (is_unusable c.args.words.now (g.I.Source.rest c.args.input.now) (g.I.Source.rest c.read_asked.new.input) (g.I.Source.faults c.args.input.now) (g.I.Source.faults c.read_asked.new.input) c.in-Err.status none c.in-Err.ensures.cause)

pub returns-in-Err-clause-within : goal.returns-in-Err-clause-within
returns-in-Err-clause-within g c =
    subst (λ (s : Status). (s ≡ status.TooLarge → ⊥) → GivesWithin most_bytes (g.I.Source.rest c.args.input.now) (g.I.Source.rest c.read_asked.new.input)) (sym (ap (λ (r : Ran). r.status) c.unrun.ensures))
    (cause_within c.args.words.now (g.I.Source.rest c.args.input.now) (g.I.Source.rest c.read_asked.new.input) (g.I.Source.faults c.args.input.now) (g.I.Source.faults c.read_asked.new.input) c.in-Err.status c.in-Err.ensures.cause)

pub returns-in-Err-clause-past : goal.returns-in-Err-clause-past
returns-in-Err-clause-past g c = λ rest tells past.
    ap (λ (r : Ran). r.status) c.unrun.ensures
    ∙ past_is_too_large (g.I.Source.rest c.args.input.now) (g.I.Source.rest c.read_asked.new.input) rest c.in-Err.status tells (cause_within c.args.words.now (g.I.Source.rest c.args.input.now) (g.I.Source.rest c.read_asked.new.input) (g.I.Source.faults c.args.input.now) (g.I.Source.faults c.read_asked.new.input) c.in-Err.status c.in-Err.ensures.cause) past

pub returns-in-Err-clause-complete : goal.returns-in-Err-clause-complete
returns-in-Err-clause-complete g c = λ rest script asks tells fits means never others.
    subst (λ (s : Status). is_ok_or_no_memory s ≡ true) (sym (ap (λ (r : Ran). r.status) c.unrun.ensures))
    (is_script c.args.words.now (g.I.Source.rest c.args.input.now) (g.I.Source.rest c.read_asked.new.input) rest (g.I.Source.faults c.args.input.now) (g.I.Source.faults c.read_asked.new.input) c.in-Err.status script asks c.in-Err.ensures.cause tells fits means never)

pub returns-in-Err-clause-generated : goal.returns-in-Err-clause-generated
returns-in-Err-clause-generated g c = λ asks never.
    subst (λ (s : Status). is_ok_or_no_memory s ≡ true) (sym (ap (λ (r : Ran). r.status) c.unrun.ensures))
    (is_generated c.args.words.now (g.I.Source.rest c.args.input.now) (g.I.Source.rest c.read_asked.new.input) (g.I.Source.faults c.args.input.now) (g.I.Source.faults c.read_asked.new.input) c.in-Err.status asks c.in-Err.ensures.cause)

pub returns-in-Err-clause-refused : goal.returns-in-Err-clause-refused
returns-in-Err-clause-refused g c = λ rest line kind asks tells fits means never.
    subst (λ (s : Status). IsScriptOrNoMemory line kind s) (sym (ap (λ (r : Ran). r.status) c.unrun.ensures))
    (is_bad c.args.words.now (g.I.Source.rest c.args.input.now) (g.I.Source.rest c.read_asked.new.input) rest (g.I.Source.faults c.args.input.now) (g.I.Source.faults c.read_asked.new.input) c.in-Err.status line kind asks c.in-Err.ensures.cause tells fits means never)

pub returns-in-Err-clause-large : goal.returns-in-Err-clause-large
returns-in-Err-clause-large g c = λ rest asks tells large never.
    subst (λ (s : Status). is_too_large_or_no_memory s ≡ true) (sym (ap (λ (r : Ran). r.status) c.unrun.ensures))
    (is_large c.args.words.now (g.I.Source.rest c.args.input.now) (g.I.Source.rest c.read_asked.new.input) rest (g.I.Source.faults c.args.input.now) (g.I.Source.faults c.read_asked.new.input) c.in-Err.status asks c.in-Err.ensures.cause tells large never)

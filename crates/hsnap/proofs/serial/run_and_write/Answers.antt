use Rattle.std.specs.Prelude.{is_some}
use Rattle.std.proofs.Common.{inl, inr, refl, subst, ℕ, List}
use Rattle.hs_io.specs.Bytes.{Takes, TakesSome}
use Rattle.hsnap.proofs.Statuses.{with_status, text_with_status}
use Rattle.hsnap.proofs.serial.run_and_write.Goals as goal

pub returns-in-Ok-clause-text : goal.returns-in-Ok-clause-text
returns-in-Ok-clause-text g c = λ ok.
    subst (λ (text : List ℕ). Takes (g.O.Sink.written c.args.output.now) (g.O.Sink.written c.write_text-ran.new.output) text)
    (text_with_status c.args.asked.words.mode c.args.asked.words.seed c.in-Ok.ran c.write_text-ran.result) (c.write_text-ran.ensures.ok ok)

pub returns-in-Ok-clause-run : goal.returns-in-Ok-clause-run
returns-in-Ok-clause-run g c = inl (
  with_status (is_some (g.B.BlockStore.blocks c.args.source_blocks)) (is_some (g.B.BlockStore.blocks c.args.target_blocks)) c.args.asked.words.page c.args.asked.script.clients c.args.asked.script.lines c.in-Ok.ran c.write_text-ran.result c.in-Ok.ensures.run,
  subst (λ (text : List ℕ). TakesSome (g.O.Sink.written c.args.output.now) (g.O.Sink.written c.write_text-ran.new.output) text)
      (text_with_status c.args.asked.words.mode c.args.asked.words.seed c.in-Ok.ran c.write_text-ran.result) c.write_text-ran.ensures.some,
)

pub returns-in-Err-clause-run : goal.returns-in-Err-clause-run
returns-in-Err-clause-run g c = inr (c.unrun.ensures, refl)

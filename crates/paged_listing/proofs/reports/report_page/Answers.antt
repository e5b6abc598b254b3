use Rattle.std.proofs.Common.{ℕ, refl, sym, ap, ◌∙◌}
use Rattle.hs_types.specs.declared.call.Call.TheVariants.{ReportNext}
use Rattle.hs_plain.specs.declared.state.State.{State}
use Rattle.paged_listing.proofs.Chains.{answered}
use Rattle.paged_listing.proofs.reports.report_page.Goals as goal

pub returns : goal.returns
returns c = record {
  answered = λ state plain all sized tick told.
      c.reply_of.ensures
      ∙ answered state plain sized (ReportNext c.args.cursor.now c.args.size) refl c.report_next.result (c.report_next.ensures state all (tick ∙ sym (ap (λ (s : State ℕ). s.tick) sized)))
      (λ none. told (c.reply_of.ensures ∙ none));
}

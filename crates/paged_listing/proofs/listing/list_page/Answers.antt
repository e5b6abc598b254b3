use Rattle.std.proofs.Common.{refl, ◌∙◌}
use Rattle.hs_types.specs.declared.call.Call.TheVariants.{ListNext}
use Rattle.paged_listing.proofs.Chains.{answered}
use Rattle.paged_listing.proofs.listing.list_page.Goals as goal

pub returns : goal.returns
returns c = record {
  answered = λ state plain all sized told.
      c.reply_of.ensures
      ∙ answered state plain sized (ListNext c.args.cursor.now c.args.size) refl c.list_next.result (c.list_next.ensures state all) (λ none. told (c.reply_of.ensures ∙ none));
}

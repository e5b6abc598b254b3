use Rattle.std.proofs.Common.{None}
use Rattle.hs_types.specs.declared.call.Place.{Place}
use Rattle.paged_listing.specs.Items.{page_asked}
use Rattle.namenode_read.proofs.Chains.{place_err, place_ok}
use Rattle.namenode_read.proofs.by_rows.listing.list.Goals as goal

pub returns-in_err-place : goal.returns-in_err-place
returns-in_err-place c = λ state all.
    place_err state c.args.path.now (λ (place : Place). page_asked state (record { place = place; after = None }) c.args.size) c.place_of.result c.from_residual.result (c.place_of.ensures state all) c.in_err-place.field-0.0 c.in_err-place.was c.from_residual.ensures.1

pub returns : goal.returns
returns c = λ state all.
    place_ok state c.args.path.now (λ (place : Place). page_asked state (record { place = place; after = None }) c.args.size) c.place_of.result c.page_at.result (c.place_of.ensures state all) all.valid c.in_ok-place.place c.in_ok-place.was
    (λ there. c.page_at.ensures state all there)

use Rattle.std.proofs.Common.{◌||◌, ap, sym, ◌∙◌}
use Rattle.std.specs.Ordering.{nat_cmp, is_eq}
use Rattle.std.specs.Cmp.Lexicographic.{slice_cmp}
use Rattle.std.specs.List.{list_any}
use Rattle.hs_plain.specs.Plan.{tmp_name, has_name}
use Rattle.distcp_plan.proofs.Names.{in-either}
use Rattle.distcp_plan.proofs.temporary.taken_names.Goals as goal

pub returns : goal.returns
returns c = λ number.
    let name = tmp_name number in
    c.in_ok-note_names-2.ensures number
    ∙ ap (λ had. had || has_name c.items-2.result.now name) (c.in_ok-note_names.ensures number ∙ ap (λ keys. list_any (λ key. is_eq (slice_cmp nat_cmp name key)) keys || has_name c.items.result.now name) c.new-taken.ensures.empty)
    ∙ (λ i. has_name (c.items.ensures i) name || has_name (c.items-2.ensures i) name)
    ∙ sym (in-either c.args.roots.now.target c.args.roots.now.source name)

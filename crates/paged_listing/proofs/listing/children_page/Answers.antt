use Rattle.std.proofs.Common.{◌≡◌, List, Option, ℕ, ap, ◌∙◌, length, map, take, arith}
use Rattle.hs_plain.specs.Pages.{first_page}
use Rattle.dir_changes.specs.Entries.{Entries}
use Rattle.dir_changes.proofs.HalvesLaws.{if_ok}
use Rattle.inode_table.specs.Kept.{told}
use Rattle.paged_listing.specs.Items.{entries_behind, item_in}
use Rattle.paged_listing.proofs.Behind.{page-front, front-so}
use Rattle.paged_listing.proofs.listing.children_page.Goals as goal

pub returns : goal.returns
returns c =
    let cursor = c.args.cursor.now in
    let rows = (told c.args.table.now).rows in
    let children = c.args.children.now in
    let size = c.args.size in
    let left : c.children_behind-left.result.now ≡ entries_behind cursor.after children = c.children_behind-left.ensures ∙ ap (λ (after : Option (List ℕ)). entries_behind after children) c.as_ref.ensures.value in
    if_ok c.first_page.result _ _
    (λ reply same.
    same
    ∙ ap (λ items. first_page cursor.place items size) (c.in_ok-items.ensures)
    ∙ ap (λ (es : Entries). first_page cursor.place (map (item_in rows) (take c.min.result es)) size) left
    ∙ page-front rows cursor.place children cursor.after size c.min.result (front-so (length (entries_behind cursor.after children)) size c.min.result (omega (arith, ap length left))))
    c.first_page.ensures

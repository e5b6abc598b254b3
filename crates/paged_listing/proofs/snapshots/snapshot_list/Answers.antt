use Rattle.std.proofs.Common.{◌≡◌, ◌++◌, ◌<◌, ◌∷◌, [], List, Some, None, sym, ap, subst, ◌∙◌, append_assoc, append-nil, length, arith}
use Rattle.std.specs.List.{find}
use Rattle.std.specs.Option.{option_copied}
use Rattle.hs_types.specs.declared.name.SnapItem.{SnapItem}
use Rattle.snapshot_manager.specs.Snapshots.{snaps_in, is_after}
use Rattle.paged_listing.proofs.InTurn.{id_of, rises, all_above}
use Rattle.path_resolver.proofs.Later.{later, first_later, none_later}
use Rattle.paged_listing.proofs.snapshots.snapshot_list.Goals as goal

pub loop-item-init : goal.loop-item-init
loop-item-init c =
    let items = snaps_in c.args.snaps.now c.args.dir in
    ap (λ (list : List SnapItem). list ++ later id_of 0 items) c.new-list.ensures.items ∙ all_above c.args.snaps.now c.always.ensures.proper c.args.dir

pub loop-item-smaller : goal.loop-item-smaller
loop-item-smaller c =
    let items = snaps_in c.args.snaps.now c.args.dir in
    let next = c.in-Some.item.now in
    let found : find (is_after c.loop-item.last) items ≡ Some next = sym c.snap_after.ensures ∙ ap option_copied c.in-Some.is in
    let rest : later id_of c.loop-item.last.0 items ≡ next ∷ later id_of next.id.0 items = first_later id_of c.loop-item.last.0 items next (rises c.args.snaps.now c.always.ensures.proper c.args.dir) found in
    subst (λ (list : List SnapItem). length (later id_of next.id.0 items) < length list) (sym rest) (omega arith)

pub loop-item-preserved : goal.loop-item-preserved
loop-item-preserved c =
    let items = snaps_in c.args.snaps.now c.args.dir in
    let next = c.in-Some.item.now in
    let found : find (is_after c.loop-item.last) items ≡ Some next = sym c.snap_after.ensures ∙ ap option_copied c.in-Some.is in
    let rest : later id_of c.loop-item.last.0 items ≡ next ∷ later id_of next.id.0 items = first_later id_of c.loop-item.last.0 items next (rises c.args.snaps.now c.always.ensures.proper c.args.dir) found in
    ap (λ (list : List SnapItem). list ++ later id_of next.id.0 items) c.in_ok-push_copy.ensures
    ∙ append_assoc c.loop-item.list.items (next ∷ []) (later id_of next.id.0 items)
    ∙ ap (λ (list : List SnapItem). c.loop-item.list.items ++ list) (sym rest)
    ∙ c.loop-item.invariant

pub returns : goal.returns
returns c =
    let items = snaps_in c.args.snaps.now c.args.dir in
    let none : find (is_after c.loop-item.last) items ≡ None = sym c.snap_after.ensures ∙ ap option_copied c.in_default.is in
    c.of.ensures ∙ sym (append-nil c.loop-item.list.items) ∙ ap (λ (list : List SnapItem). c.loop-item.list.items ++ list) (sym (none_later id_of c.loop-item.last.0 items none)) ∙ c.loop-item.invariant

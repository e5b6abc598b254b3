use Rattle.std.proofs.Common.{◌≡◌, ◌+◌, map, take, drop, ap, sym, ◌∙◌}
use Rattle.std.specs.List.{list_all, position_or_len}
use Rattle.std.proofs.lemmas.List.{take-map}
use Rattle.hs_types.specs.Names.{Names, is_name, is_snapshot_word}
use Rattle.hs_types.specs.Paths.{tail_at}
use Rattle.hs_types.proofs.Parts.{map-drop_at, drop_next}
use Rattle.hs_types.proofs.path.path_of_parts.Goals as goal

pub names_of-requires : goal.names_of-requires
names_of-requires c =
    let names : Names = map (λ part. part.now) c.args.parts.now in
    ap (list_all is_name) (sym (take-map (λ part. part.now) c.snapshot_at-at.result c.args.parts.now) ∙ ap (λ n. take n names) c.snapshot_at-at.ensures.at)
    ∙ c.requires.base

pub tail_from-requires : goal.tail_from-requires
tail_from-requires c =
    let names : Names = map (λ part. part.now) c.args.parts.now in
    let at = c.snapshot_at-at.result in
    ap (λ (ns : Names). list_all is_name (drop 1 ns)) (map-drop_at (λ part. part.now) c.args.parts.now at)
    ∙ ap (list_all is_name) (drop_next at names) ∙ ap (λ n. list_all is_name (drop (n + 1) names)) c.snapshot_at-at.ensures.at
    ∙ c.requires.rest

pub returns : goal.returns
returns c =
    let parts = c.args.parts.now in
    let names : Names = map (λ part. part.now) parts in
    let at = c.snapshot_at-at.result in
    let is_at = c.snapshot_at-at.ensures.at in
    let base : c.in_ok-base.base ≡ take (position_or_len is_snapshot_word names) names =
    c.in_ok-base.ensures ∙ sym (take-map (λ part. part.now) at parts) ∙ ap (λ n. take n names) is_at in
    let tail : c.in_ok-tail.tail ≡ tail_at (drop (position_or_len is_snapshot_word names) names) =
    c.in_ok-tail.ensures ∙ ap tail_at (map-drop_at (λ part. part.now) parts at ∙ ap (λ n. drop n names) is_at) in
    cc

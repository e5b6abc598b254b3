-- For proofs and private contracts alone: what a directory's table keeps of its snapshots.
use Rattle.std.specs.Prelude.{◌≡◌, ℕ, ◌<◌, bytes_eq, List}
use Rattle.std.specs.Option.{option_map}
use Rattle.std.specs.List.{find, AllByRecursion}
use Rattle.std.specs.Map.{lookup, values_of}
use Rattle.hs_types.specs.declared.ids.SnapId.{SnapId}
use Rattle.hs_types.specs.declared.name.SnapItem.{SnapItem}
use Rattle.snapshot_manager.specs.Snapshots.{has_name, NamesDiffer, IdsRise}

-- all ids are below this one
abbrev pub AllBelow : SnapId → List SnapItem → Type 0
AllBelow id items = AllByRecursion (λ item. item.id.0 < id.0) items

-- the snapshots stand under their ids, which rise; their names differ, and each is found by its name
pub record IsTable (names : List (List ℕ × SnapId)) (entries : List (SnapId × SnapItem)) : Type 0 where
  pub keyed : AllByRecursion (λ e. e.0 ≡ e.1.id) entries
  pub rise : IdsRise (values_of entries)
  pub differ : NamesDiffer (values_of entries)
  pub found : (name : List ℕ) → lookup (bytes_eq name) names ≡ option_map (λ item. item.id) (find (has_name name) (values_of entries))

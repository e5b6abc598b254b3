-- What the translation of a path rests on.
use Rattle.std.specs.Prelude.{Bool, true, false, ◌&&◌, ◌||◌, List, [], ◌∷◌, Option, Some, None}
use Rattle.hs_types.specs.Names.{Names}
use Rattle.hs_types.specs.declared.ids.InodeId.{InodeId}
use Rattle.hs_plain.specs.Tree.{same_inode, same_path}
use Rattle.hs_types.specs.declared.reply.Line.{Line}
use Rattle.hs_types.specs.declared.reply.LineKind.{LineKind}
use Rattle.hs_types.specs.declared.reply.LineKind.TheVariants.{Deleted, Renamed, Modified, Created}

abbrev pub is_renaming : LineKind → Option Names → Bool
is_renaming Renamed (Some to) = true
is_renaming Renamed None = false
is_renaming Deleted to = false
is_renaming Modified to = false
is_renaming Created to = false

abbrev pub is_source : List Line → Names → Bool
is_source [] path = false
is_source (one ∷ lines) path = (is_renaming one.kind one.to && same_path one.path path) || is_source lines path

abbrev pub is_out_line : Line → Bool
is_out_line one = by one.kind
  where
    by : LineKind → Bool
    by Deleted = true
    by Renamed = true
    by Modified = false
    by Created = false

abbrev pub line_path : Line → Names
line_path one = one.path

-- whether a renaming line has this id
abbrev pub renames_id : List Line → InodeId → Bool
renames_id [] id = false
renames_id (one ∷ lines) id = (is_renaming one.kind one.to && same_inode one.id id) || renames_id lines id

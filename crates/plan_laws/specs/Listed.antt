-- What is new, as lines and listings tell it.
use Rattle.std.specs.Prelude.{◌≡◌, Bool, true, if◌then◌else◌, List, [], ◌∷◌, ◌++◌, Option, Some, None, is_some}
use Rattle.std.specs.List.{filter_map}
use Rattle.hs_types.specs.Names.{Names}
use Rattle.hs_types.specs.declared.ids.InodeId.{InodeId}
use Rattle.hs_types.specs.declared.reply.Item.{Item}
use Rattle.hs_plain.specs.declared.plan.Listing.{Listing}
use Rattle.hs_plain.specs.declared.state.Node.{Node}
use Rattle.hs_plain.specs.Tree.{Tree, node_at, is_dir, parent_of, listing, same_inode, place_of}
use Rattle.hs_types.specs.declared.reply.LineKind.{LineKind}
use Rattle.hs_types.specs.declared.reply.LineKind.TheVariants.{Deleted, Renamed, Modified, Created}
use Rattle.hs_types.specs.declared.reply.Line.{Line}
use Rattle.hs_plain.specs.Report.{last_of}
use Rattle.hs_plain.specs.Plan.{translate}
use Rattle.plan_laws.specs.Translated.{renames_id}

pub record NewItem : Type 0 where
  pub id : InodeId
  pub is_dir : Bool
  pub path : Names

abbrev pub new_by : List Line → LineKind → Line → Option NewItem
new_by lines Created one = Some (record { id = one.id; is_dir = one.is_dir; path = translate lines (parent_of one.path) ++ last_of one.path ∷ [] })
new_by lines Deleted one = None
new_by lines Renamed one = None
new_by lines Modified one = None

-- the new items of the lines: a `+` line translates its parent and keeps its name
abbrev pub first_news : List Line → List NewItem
first_news lines = filter_map (λ one. new_by lines one.kind one) lines

-- an item found in a new directory is new where no `R` line has its id
abbrev pub new_in : List Line → Names → Item → Option NewItem
new_in lines path item = if renames_id lines item.id then None else Some (record { id = item.id; is_dir = item.is_dir; path = path ++ item.name ∷ [] })

abbrev pub path_in : List NewItem → InodeId → Option Names
path_in [] id = None
path_in (one ∷ news) id = if same_inode one.id id then Some one.path else path_in news id

abbrev pub news_at : List Line → List Item → Option Names → List NewItem
news_at lines items None = []
news_at lines items (Some path) = filter_map (new_in lines path) items

abbrev pub grown : List Line → List NewItem → List Listing → List NewItem
grown lines news [] = news
grown lines news (one ∷ listings) = grown lines (news ++ news_at lines one.items (path_in news one.dir)) listings

abbrev pub all_news : List Line → List Listing → List NewItem
all_news lines listings = grown lines (first_news lines) listings

-- each listing is of a directory that was found before
abbrev pub InOrder : List Line → List NewItem → List Listing → Type 0
InOrder lines news [] = Unit {0}
InOrder lines news (one ∷ listings) = (is_some (path_in news one.dir) ≡ true) × InOrder lines (news ++ news_at lines one.items (path_in news one.dir)) listings

module _ {B : Type 0} (from to : Tree B) where
  -- a node of the second tree that isn't in the first
  pub record IsNew (one : NewItem) : Type 0 where
    pub node : Node B
    pub at : node_at to one.path ≡ Some node
    pub same_id : node.id.0 ≡ one.id.0
    pub same_kind : is_dir node ≡ one.is_dir
    pub new : place_of from node.id ≡ None

  -- the listing of a new directory
  pub record IsListed (one : Listing) : Type 0 where
    pub path : Names
    pub dir : Node B
    pub at : node_at to path ≡ Some dir
    pub same_id : dir.id.0 ≡ one.dir.0
    pub new : place_of from dir.id ≡ None
    pub items : one.items ≡ listing to path

-- The calls of copies, merged in any way that keeps the order of each.
use Rattle.std.specs.Prelude.{◌≡◌, ℕ, Bool, true, false, not, if◌then◌else◌, List, [], ◌∷◌, ◌++◌, map, Option, Some, None}
use Rattle.std.specs.List.{filter}
use Rattle.std.specs.Option.{option_map}
use Rattle.hs_types.specs.Names.{Names}
use Rattle.hs_plain.specs.declared.state.Node.{Node}
use Rattle.hs_plain.specs.declared.state.Body.{Body}
use Rattle.hs_plain.specs.declared.state.Body.TheVariants.{File, Dir}
use Rattle.hs_plain.specs.Tree.{Tree, node_at, is_dir_body, parent_of, same_path}
use Rattle.hs_plain.specs.Plan.{rest_below, outs, is_copied}
use Rattle.plan_laws.specs.Sight.{Sight, Placing, map_put, inside_or, puts_done, outs_done, made_sight, OutsGo, PutsGo}
use Rattle.plan_laws.specs.Placings.{placings}

abbrev pub Content : Type 0
Content = Body (List ℕ)

-- what each path of a target holds
abbrev pub Contents : Type 0
Contents = Sight Content

pub data CopyCall : Type 0 where
  Create : Names → CopyCall
  Append : Names → List ℕ → CopyCall

abbrev pub path_of_call : CopyCall → Names
path_of_call (Create path) = path
path_of_call (Append path bytes) = path

abbrev pub is_at : Names → CopyCall → Bool
is_at path call = same_path (path_of_call call) path

-- ---- at one path

abbrev pub grown_body : List ℕ → Content → Content
grown_body bytes (File file) = File (file ++ bytes)
grown_body bytes Dir = Dir

abbrev pub done_here : CopyCall → Option Content → Option Content
done_here (Create path) seen = Some (File [])
done_here (Append path bytes) seen = option_map (grown_body bytes) seen

abbrev pub all_here : List CopyCall → Option Content → Option Content
all_here [] seen = seen
all_here (call ∷ calls) seen = all_here calls (done_here call seen)

abbrev pub is_file_seen : Option Content → Bool
is_file_seen None = false
is_file_seen (Some body) = not (is_dir_body body)

abbrev pub is_dir_seen : Option Content → Bool
is_dir_seen None = false
is_dir_seen (Some body) = is_dir_body body

-- what a call wants at its own path
abbrev pub fits_here : CopyCall → Option Content → Bool
fits_here (Create path) seen = not (is_dir_seen seen)
fits_here (Append path bytes) seen = is_file_seen seen

abbrev pub FitHere : List CopyCall → Option Content → Type 0
FitHere [] seen = Unit {0}
FitHere (call ∷ calls) seen = (fits_here call seen ≡ true) × FitHere calls (done_here call seen)

-- ---- at all paths

abbrev pub call_done : Contents → CopyCall → Contents
call_done seen call path = if is_at path call then done_here call (seen path) else seen path

abbrev pub calls_done : Contents → List CopyCall → Contents
calls_done seen [] = seen
calls_done seen (call ∷ calls) = calls_done (call_done seen call) calls

-- a create or an append is accepted: a directory stands above, and the path is no directory's, or a file's
pub record CallGoes (seen : Contents) (call : CopyCall) : Type 0 where
  pub above : is_dir_seen (seen (parent_of (path_of_call call))) ≡ true
  pub fits : fits_here call (seen (path_of_call call)) ≡ true

abbrev pub CallsGo : Contents → List CopyCall → Type 0
CallsGo seen [] = Unit {0}
CallsGo seen (call ∷ calls) = CallGoes seen call × CallsGo (call_done seen call) calls

-- ---- copies

-- the bytes of one copy come in pages
abbrev pub joined : List (List ℕ) → List ℕ
joined [] = []
joined (page ∷ pages) = page ++ joined pages

abbrev pub appends : Names → List (List ℕ) → List CopyCall
appends path [] = []
appends path (page ∷ pages) = Append path page ∷ appends path pages

abbrev pub copy_calls : Names → List (List ℕ) → List CopyCall
copy_calls path pages = Create path ∷ appends path pages

-- calls that are one merging of copies' calls: at the path of each copy they are its calls, in order, and they are at no other path
pub record IsMerging (from to : Tree (List ℕ)) (pages : Names → List (List ℕ)) (calls : List CopyCall) : Type 0 where
  pub at_copy : (path : Names) (node : Node (List ℕ)) → node_at to path ≡ Some node → is_copied from (path, node) ≡ true → filter (is_at path) calls ≡ copy_calls path (pages path)
  pub elsewhere : (path : Names) → ((node : Node (List ℕ)) → node_at to path ≡ Some node → is_copied from (path, node) ≡ false) → filter (is_at path) calls ≡ []
  -- the pages of a file are its bytes
  pub bytes : (path : Names) (node : Node (List ℕ)) → node_at to path ≡ Some node → is_copied from (path, node) ≡ true → node.body ≡ File (joined (pages path))

-- ---- the whole

abbrev pub content_of : Option (Node (List ℕ)) → Option Content
content_of seen = option_map (λ node. node.body) seen

abbrev pub content_put : Placing (Node (List ℕ)) → Placing Content
content_put put = map_put (λ node. node.body) put

-- nothing any more at a path and below it
abbrev pub without_sight : Contents → Names → Contents
without_sight seen path other = inside_or (rest_below path other) (λ rest. None) (seen other)

-- a target after each part of a plan
abbrev pub after_outs : List ℕ → (ℕ → List ℕ) → Tree (List ℕ) → Tree (List ℕ) → Contents → Contents
after_outs tmp number from to target = outs_done tmp number (made_sight target (tmp ∷ []) Dir) 0 (outs from to)

abbrev pub after_puts : List ℕ → (ℕ → List ℕ) → Tree (List ℕ) → Tree (List ℕ) → Contents → Contents
after_puts tmp number from to target = puts_done tmp number (after_outs tmp number from to target) (map content_put (placings from to))

abbrev pub after_sync : List ℕ → (ℕ → List ℕ) → Tree (List ℕ) → Tree (List ℕ) → List CopyCall → Contents → Contents
after_sync tmp number from to calls target = without_sight (calls_done (after_puts tmp number from to target) calls) (tmp ∷ [])

-- all calls of a plan are accepted
pub record SyncGoes (tmp : List ℕ) (number : ℕ → List ℕ) (from to : Tree (List ℕ)) (calls : List CopyCall) (target : Contents) : Type 0 where
  -- tmp is made in the root, which is a directory
  pub root : is_dir_seen (target []) ≡ true
  pub tmp_free : target (tmp ∷ []) ≡ None
  pub outs_go : OutsGo is_dir_body tmp number (made_sight target (tmp ∷ []) Dir) 0 (outs from to)
  pub puts_go : PutsGo is_dir_body tmp number (after_outs tmp number from to target) (map content_put (placings from to))
  pub copies_go : CallsGo (after_puts tmp number from to target) calls
  -- tmp is there to be deleted
  pub tmp_there : is_dir_seen (calls_done (after_puts tmp number from to target) calls (tmp ∷ [])) ≡ true

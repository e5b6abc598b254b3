-- What lines and items add to what is found, as lists.
use Rattle.std.proofs.Common.{◌≡◌, inl, inr, Bool, true, false, cond, Option, Some, None, List, [], ◌∷◌, ◌++◌, length, refl, ap, sym, ◌∙◌, append-nil, append_assoc}
use Rattle.std.specs.Prelude.{slice_get}
use Rattle.std.specs.List.{filter_map, cons_option}
use Rattle.std.specs.Option.{option_to_list}
use Rattle.hs_types.specs.Names.{Names}
use Rattle.hs_types.specs.declared.ids.InodeId.{InodeId}
use Rattle.hs_types.specs.declared.reply.Item.{Item}
use Rattle.hs_types.specs.declared.reply.Line.{Line}
use Rattle.hs_types.specs.declared.reply.LineKind.{LineKind}
use Rattle.hs_types.specs.declared.reply.LineKind.TheVariants.{Deleted, Renamed, Modified, Created}
use Rattle.hs_plain.specs.declared.plan.CopyJob.{CopyJob}
use Rattle.hs_plain.specs.Plan.{translate, translate_created}
use Rattle.hs_plain.proofs.ValidLists.{In}
use Rattle.distcp_plan.specs.declared.found.Found.{Found}
use Rattle.distcp_plan.specs.Planned.{with_item, with_changed, with_created, by_line, by_lines, by_item, by_items, renames}

abbrev pub job_at : InodeId → Names → CopyJob
job_at id path = record { id = id; to = path }

abbrev pub dir_if : Bool → Names → Option Names
dir_if is_dir path = cond is_dir (Some path) None

abbrev pub file_if : InodeId → Bool → Names → Option CopyJob
file_if id is_dir path = cond is_dir None (Some (job_at id path))

abbrev pub made_dir : List Line → Bool → Names → Option Names
made_dir lines is_dir [] = None
made_dir lines is_dir (name ∷ names) = dir_if is_dir (translate_created lines (name ∷ names))

abbrev pub made_file : List Line → InodeId → Bool → Names → Option CopyJob
made_file lines id is_dir [] = None
made_file lines id is_dir (name ∷ names) = file_if id is_dir (translate_created lines (name ∷ names))

abbrev pub dir_by : List Line → LineKind → Line → Option Names
dir_by lines Created line = made_dir lines line.is_dir line.path
dir_by lines Modified line = None
dir_by lines Deleted line = None
dir_by lines Renamed line = None

abbrev pub file_by : List Line → LineKind → Line → Option CopyJob
file_by lines Created line = made_file lines line.id line.is_dir line.path
file_by lines Modified line = file_if line.id line.is_dir (translate lines line.path)
file_by lines Deleted line = None
file_by lines Renamed line = None

abbrev pub line_dir : List Line → Line → Option Names
line_dir lines line = dir_by lines line.kind line

abbrev pub line_file : List Line → Line → Option CopyJob
line_file lines line = file_by lines line.kind line

abbrev pub item_dir : List Line → Names → Item → Option Names
item_dir lines dir item = cond (renames lines item.id) None (dir_if item.is_dir (dir ++ item.name ∷ []))

abbrev pub item_file : List Line → Names → Item → Option CopyJob
item_file lines dir item = cond (renames lines item.id) None (file_if item.id item.is_dir (dir ++ item.name ∷ []))

-- ---- one more

abbrev pub added : List Names → List CopyJob → Found → Found
added dirs files found = record { dirs = found.dirs ++ dirs; files = found.files ++ files }

added-none : (found : Found) → found ≡ added [] [] found
added-none found = λ i. record { dirs = sym (append-nil found.dirs) i; files = sym (append-nil found.files) i }

one-item : (id : InodeId) (is_dir : Bool) (path : Names) (found : Found) → with_item id is_dir path found ≡ added (option_to_list (dir_if is_dir path)) (option_to_list (file_if id is_dir path)) found
one-item id true path found = λ i. record { dirs = found.dirs ++ path ∷ []; files = sym (append-nil found.files) i }
one-item id false path found = λ i. record { dirs = sym (append-nil found.dirs) i; files = found.files ++ job_at id path ∷ [] }

one-line : (lines : List Line) (kind : LineKind) (line : Line) (found : Found) → by_line lines kind line found ≡ added (option_to_list (dir_by lines kind line)) (option_to_list (file_by lines kind line)) found
one-line lines Created line found = made line.path
  where
    made : (path : Names) → with_created lines line.id line.is_dir path found ≡ added (option_to_list (made_dir lines line.is_dir path)) (option_to_list (made_file lines line.id line.is_dir path)) found
    made [] = added-none found
    made (name ∷ names) = one-item line.id line.is_dir (translate_created lines (name ∷ names)) found
one-line lines Modified line found = changed line.is_dir
  where
    changed : (b : Bool) → with_changed line.id b (translate lines line.path) found ≡ added [] (option_to_list (file_if line.id b (translate lines line.path))) found
    changed true = added-none found
    changed false = one-item line.id false (translate lines line.path) found
one-line lines Deleted line found = added-none found
one-line lines Renamed line found = added-none found

listed-one : (lines : List Line) (dir : Names) (item : Item) (found : Found) → by_item lines dir item found ≡ added (option_to_list (item_dir lines dir item)) (option_to_list (item_file lines dir item)) found
listed-one lines dir item found = elim (renames lines item.id) as (λ b. cond b found (with_item item.id item.is_dir (dir ++ item.name ∷ []) found) ≡
    added (option_to_list (cond b None (dir_if item.is_dir (dir ++ item.name ∷ [])))) (option_to_list (cond b None (file_if item.id item.is_dir (dir ++ item.name ∷ [])))) found) [
      | true ↦ added-none found
      | false ↦ one-item item.id item.is_dir (dir ++ item.name ∷ []) found
    ]

-- ---- and all

step : {X : Type 0} (xs : List X) (o : Option X) (ys : List X) → (xs ++ option_to_list o) ++ ys ≡ xs ++ cons_option o ys
step xs o ys = append_assoc xs (option_to_list o) ys ∙ ap (λ zs. xs ++ zs) (both o)
  where
    both : (o : Option _) → option_to_list o ++ ys ≡ cons_option o ys
    both None = refl
    both (Some x) = refl

more-added : (d : Option Names) (f : Option CopyJob) (ds : List Names) (fs : List CopyJob) (found : Found) → added ds fs (added (option_to_list d) (option_to_list f) found) ≡ added (cons_option d ds) (cons_option f fs) found
more-added d f ds fs found = λ i. record { dirs = step found.dirs d ds i; files = step found.files f fs i }

pub all-lines : (lines ls : List Line) (found : Found) → by_lines lines ls found ≡ added (filter_map (line_dir lines) ls) (filter_map (line_file lines) ls) found
all-lines lines [] found = added-none found
all-lines lines (line ∷ ls) found =
    ap (by_lines lines ls) (one-line lines line.kind line found)
    ∙ all-lines lines ls (added (option_to_list (line_dir lines line)) (option_to_list (line_file lines line)) found)
    ∙ more-added (line_dir lines line) (line_file lines line) (filter_map (line_dir lines) ls) (filter_map (line_file lines) ls) found

pub all-items : (lines : List Line) (dir : Names) (items : List Item) (found : Found) → by_items lines dir items found ≡ added (filter_map (item_dir lines dir) items) (filter_map (item_file lines dir) items) found
all-items lines dir [] found = added-none found
all-items lines dir (item ∷ items) found =
    ap (by_items lines dir items) (listed-one lines dir item found)
    ∙ all-items lines dir items (added (option_to_list (item_dir lines dir item)) (option_to_list (item_file lines dir item)) found)
    ∙ more-added (item_dir lines dir item) (item_file lines dir item) (filter_map (item_dir lines dir) items) (filter_map (item_file lines dir) items) found

-- ---- lists

pub slice-seam : {X : Type 0} (xs : List X) (y : X) (ys : List X) → slice_get (xs ++ y ∷ ys) (length xs) ≡ Some y
slice-seam [] y ys = refl
slice-seam (x ∷ xs) y ys = slice-seam xs y ys

abbrev pub then_by : {X Y : Type 0} → Option X → (X → Option Y) → Option Y
then_by None g = None
then_by (Some x) g = g x

pub twice : {X Y Z : Type 0} (f : X → Option Y) (g : Y → Option Z) (h : X → Option Z) (xs : List X) → ((x : X) → In xs x → then_by (f x) g ≡ h x) → filter_map g (filter_map f xs) ≡ filter_map h xs
twice f g h [] same = refl
twice f g h (x ∷ xs) same = one (f x) ∙ (λ i. cons_option (same x (inl refl) i) (twice f g h xs (λ y at. same y (inr at)) i))
  where
    one : (o : Option _) → filter_map g (cons_option o (filter_map f xs)) ≡ cons_option (then_by o g) (filter_map g (filter_map f xs))
    one None = refl
    one (Some y) = refl

pub alike : {X Y : Type 0} (f g : X → Option Y) (xs : List X) → ((x : X) → In xs x → f x ≡ g x) → filter_map f xs ≡ filter_map g xs
alike f g [] same = refl
alike f g (x ∷ xs) same = λ i. cons_option (same x (inl refl) i) (alike f g xs (λ y at. same y (inr at)) i)

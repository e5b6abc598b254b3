-- The names in paths: those of the paths that texts stand for, and of paths put together and cut.
use Rattle.std.proofs.Common.{◌≡◌, ℕ, Bool, true, false, cond, List, ◌++◌, Ok, Err, refl, sym, ap, ◌∙◌}
use Rattle.std.specs.List.{list_all}
use Rattle.std.proofs.lemmas.List.Folds.{list_all-append}
use Rattle.hs_types.specs.Names.{Names, is_name}
use Rattle.hs_types.specs.Paths.{components, is_bad_path, is_too_long, is_too_deep, path_from, path_of}
use Rattle.hs_types.specs.declared.path.Path.{Path}
use Rattle.hs_types.specs.declared.path.PathTail.{PathTail}
use Rattle.hs_types.specs.declared.path.PathTail.TheVariants.{Plain, SnapshotList, Frozen}
use Rattle.hs_types.specs.declared.refusal.Refusal.{Refusal}
use Rattle.hs_types.specs.declared.refusal.Refusal.TheVariants.{BadPath, TooLong, TooDeep}
use Rattle.hs_types.proofs.Legal.{base_of_names}
use Rattle.hs_plain.specs.Asked.{Asked, ◌>>=◌}
use Rattle.hs_plain.specs.State.{plain_base, plain_of}
use Rattle.hs_plain.specs.Modifying.{live_path}
use Rattle.hs_plain.specs.Valid.{are_names}
use Rattle.hs_plain.proofs.ValidTrees.{both, second}

-- ---- paths put together and cut

pub names-joined : (front rest : Names) → are_names front ≡ true → are_names rest ≡ true → are_names (front ++ rest) ≡ true
names-joined front rest h k = list_all-append is_name front rest ∙ both h k

pub names-rest : (front rest : Names) → are_names (front ++ rest) ≡ true → are_names rest ≡ true
names-rest front rest h = second (are_names front) _ (sym (list_all-append is_name front rest) ∙ h)

-- ---- paths of texts

err_ok : {X : Type 0} {why : Refusal} {x : X} → Err why ≡ Ok x → ⊥
err_ok h = cc

abbrev okay : {X : Type 0} → X → Asked X
okay x = Ok x

ok_same : {X : Type 0} {x y : X} → okay x ≡ Ok y → x ≡ y
ok_same h = cc

-- what a text is that breaks no path rule
pub record IsRead (text : List ℕ) (path : Path) : Type 0 where
  pub good : is_bad_path text ≡ false
  pub short : is_too_long (components text) ≡ false
  pub from : path_from (components text) ≡ path

pub path-read : (text : List ℕ) (path : Path) → path_of text ≡ Ok path → IsRead text path
path-read text path h = by (is_bad_path text) (is_too_long (components text)) (is_too_deep (components text)) refl refl h
  where
    by : (bad long deep : Bool) → is_bad_path text ≡ bad → is_too_long (components text) ≡ long →
        cond {A = Asked Path} bad (Err BadPath) (cond long (Err TooLong) (cond deep (Err TooDeep) (Ok (path_from (components text))))) ≡ Ok path → IsRead text path
    by true long deep b l h = absurd (err_ok h)
    by false true deep b l h = absurd (err_ok h)
    by false false true b l h = absurd (err_ok h)
    by false false false b l h = record { good = b; short = l; from = ok_same h }

-- it has names alone before `.snapshot`
pub path-named : (text : List ℕ) (path : Path) → path_of text ≡ Ok path → are_names path.base ≡ true
path-named text path h = let read = path-read text path h in ap (λ (p : Path). are_names p.base) (sym read.from) ∙ base_of_names text read.good read.short

plain_is : (base : Names) (tail : PathTail) (names : Names) → plain_base base tail ≡ Ok names → base ≡ names
plain_is base Plain names h = ok_same h
plain_is base SnapshotList names h = absurd (err_ok h)
plain_is base (Frozen snapshot rest) names h = absurd (err_ok h)

-- and so has a live path
pub live-named : (text : List ℕ) (names : Names) → live_path text ≡ Ok names → are_names names ≡ true
live-named text names h = by (path_of text) refl h
  where
    by : (read : Asked Path) → path_of text ≡ read → (read >>= plain_of) ≡ Ok names → are_names names ≡ true
    by (Ok path) is h = ap are_names (sym (plain_is path.base path.tail names h)) ∙ path-named text path is
    by (Err why) is h = absurd (err_ok h)

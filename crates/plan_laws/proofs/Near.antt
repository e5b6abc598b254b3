-- A call whose paths are neither near a root changes nothing there: what the texts of its paths tell.
use Rattle.std.proofs.Common.{◌≡◌, ℕ, false, bytes_eq, Ok, Err, List, [], ◌∷◌, ◌++◌, drop, refl, ap, sym, ◌∙◌, append-nil}
use Rattle.std.specs.List.{starts_with, before_first, position_or_len}
use Rattle.std.proofs.lemmas.List.{take-append-drop}
use Rattle.hs_types.specs.Names.{Names, is_snapshot_word}
use Rattle.hs_types.specs.Paths.{components, tail_at, path_from, path_of}
use Rattle.hs_types.specs.declared.path.Path.{Path}
use Rattle.hs_types.specs.declared.refusal.Refusal.{Refusal}
use Rattle.hs_plain.specs.State.{plain_base, plain_of}
use Rattle.hs_plain.specs.Modifying.{live_path}
use Rattle.hs_plain.specs.Span.{is_near}
use Rattle.hs_plain.specs.inside.Places.{IsOutside}
use Rattle.hs_plain.proofs.ValidAsked.{same_ok, ok_then}
use Rattle.hs_plain.proofs.ValidNames.{path-read}
use Rattle.hs_plain.proofs.ValidShapes.{true_false, under_test}
use Rattle.hs_plain.proofs.ValidLists.{neither_first, neither_second}

-- neither is the other or below it
pub record IsApart (path root : Names) : Type 0 where
  pub not_above : IsOutside path root
  pub not_below : IsOutside root path

err_ok : {X : Type 0} {why : Refusal} {x : X} → Err why ≡ Ok x → ⊥
err_ok h = cc

plain-so : (parts : Names) (path : Names) → plain_of (path_from parts) ≡ Ok path → path ≡ parts
plain-so parts path h = by-rest (drop (position_or_len is_snapshot_word parts) parts) refl h
  where
    by-rest : (rest : Names) → drop (position_or_len is_snapshot_word parts) parts ≡ rest → plain_base (before_first is_snapshot_word parts) (tail_at rest) ≡ Ok path → path ≡ parts
    by-rest [] e h = sym (same_ok h) ∙ sym (append-nil (before_first is_snapshot_word parts)) ∙ ap (λ (x : Names). before_first is_snapshot_word parts ++ x) (sym e) ∙ take-append-drop (position_or_len is_snapshot_word parts) parts
    by-rest (word ∷ []) e h = absurd (err_ok h)
    by-rest (word ∷ name ∷ rest) e h = absurd (err_ok h)

-- a live path is its text's components
pub live-is : (text : List ℕ) (path : Names) → live_path text ≡ Ok path → path ≡ components text
live-is text path h =
    let a : (x : Path) × (path_of text ≡ Ok x) × (plain_of x ≡ Ok path) = ok_then (path_of text) plain_of path h in
    plain-so (components text) path (ap plain_of (path-read text a.0 a.1).from ∙ a.2)

-- a path that isn't near a root is apart from it
pub near-apart : (root_text text : List ℕ) (root path : Names) → root ≡ components root_text → is_near root_text text ≡ false → live_path text ≡ Ok path → IsApart path root
near-apart root_text text root path root_is far leads =
    let path_is : path ≡ components text = live-is text path leads in
    record {
      not_above = λ rest e. true_false (under_test root path rest e) ((λ i. starts_with bytes_eq (root_is i) (path_is i)) ∙ neither_second (starts_with bytes_eq (components text) (components root_text)) (starts_with bytes_eq (components root_text) (components text)) far);
      not_below = λ rest e. true_false (under_test path root rest e) ((λ i. starts_with bytes_eq (path_is i) (root_is i)) ∙ neither_first (starts_with bytes_eq (components text) (components root_text)) (starts_with bytes_eq (components root_text) (components text)) far);
    }

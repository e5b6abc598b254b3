-- Lines of a report, one by one.
use Rattle.std.proofs.Common.{◌≡◌, suc, ◌+◌, ◌-◌, Bool, true, false, cond, List, [], ◌∷◌, ◌++◌, slice_get, length, refl, ap, sym, ◌∙◌, arith, append_assoc}
use Rattle.std.specs.Prelude.{insert}
use Rattle.std.specs.List.{prefix_len}
use Rattle.std.specs.Option.{unwrap_or}
use Rattle.hs_types.specs.Names.{Names}
use Rattle.hs_types.specs.declared.reply.Line.{Line}
use Rattle.hs_plain.specs.Report.{line_if, line_before, with_line, with_lines, last_of}

-- a line behind another, each where its test says so
pub two_lines : (lines : List Line) (first second : Bool) (a b : Line) → (lines ++ line_if first a []) ++ line_if second b [] ≡ lines ++ line_if first a (line_if second b [])
two_lines lines first second a b = append_assoc lines (line_if first a []) (line_if second b []) ∙ ap (λ (more : List Line). lines ++ more) (by first)
  where
    by : (test : Bool) → line_if test a [] ++ line_if second b [] ≡ line_if test a (line_if second b [])
    by true = refl
    by false = refl

-- a line is put behind all that come before it
pub with_line_at : (line : Line) (lines : List Line) → insert lines (prefix_len (λ other. line_before other line) lines) line ≡ with_line line lines
with_line_at line [] = refl
with_line_at line (other ∷ lines) = by (line_before other line) refl (with_line_at line lines)
  where
    before : Line → Bool
    before next = line_before next line

    by : (b : Bool) → line_before other line ≡ b → insert lines (prefix_len (λ next. line_before next line) lines) line ≡ with_line line lines →
        insert (other ∷ lines) (cond (line_before other line) (1 + prefix_len (λ next. line_before next line) lines) 0) line ≡ cond (line_before other line) (other ∷ with_line line lines) (line ∷ other ∷ lines)
    by true e rest =
        ap (λ b. insert (other ∷ lines) (cond b (1 + prefix_len (λ next. line_before next line) lines) 0) line) e
        ∙ ap (λ n. insert (other ∷ lines) n line) {x = 1 + prefix_len (λ next. line_before next line) lines} {y = suc (prefix_len (λ next. line_before next line) lines)} (omega arith)
        ∙ ap (λ (xs : List Line). other ∷ xs) rest
        ∙ ap (λ b. cond b (other ∷ with_line line lines) (line ∷ other ∷ lines)) (sym e)
    by false e rest =
        ap (λ b. insert (other ∷ lines) (cond b (1 + prefix_len (λ next. line_before next line) lines) 0) line) e
        ∙ ap (λ b. cond b (other ∷ with_line line lines) (line ∷ other ∷ lines)) (sym e)

-- the last of some lines is put first
pub with_last : (more : List Line) (line : Line) (lines : List Line) → with_lines (more ++ line ∷ []) lines ≡ with_lines more (with_line line lines)
with_last [] line lines = refl
with_last (other ∷ more) line lines = ap (with_line other) (with_last more line lines)

-- the last name of a path stands at its end
pub last_of_at : (path : Names) → last_of path ≡ unwrap_or (slice_get path (length path - 1)) []
last_of_at [] = refl
last_of_at (first ∷ []) = refl
last_of_at (first ∷ next ∷ rest) =
    last_of_at (next ∷ rest) ∙ ap (λ n. unwrap_or (slice_get (next ∷ rest) n) []) {x = length (next ∷ rest) - 1} {y = length rest} (omega arith)
    ∙ ap (λ n. unwrap_or (slice_get (first ∷ next ∷ rest) n) []) {x = suc (length rest)} {y = length (first ∷ next ∷ rest) - 1} (omega arith)

-- Where the moved go, with the numbers of their outs.
use Rattle.std.proofs.Common.{◌≡◌, inl, inr, ℕ, suc, ◌+◌, Bool, true, false, cond, Option, Some, None, List, [], ◌∷◌, ◌++◌, map, length, reverse, refl, ap, sym, subst, ◌∙◌, append-nil, append_assoc, arith}
use Rattle.std.specs.List.{filter, filter_map, cons_option, AllByRecursion}
use Rattle.std.proofs.lemmas.List.{reverse-append, length-reverse}
use Rattle.hs_types.specs.Names.{Names}
use Rattle.hs_types.specs.declared.reply.Line.{Line}
use Rattle.hs_types.specs.declared.reply.LineKind.{LineKind}
use Rattle.hs_types.specs.declared.reply.LineKind.TheVariants.{Deleted, Renamed, Modified, Created}
use Rattle.hs_plain.specs.Tree.{Tree, same_path}
use Rattle.hs_plain.specs.Report.{report}
use Rattle.hs_plain.specs.Plan.{rest_below, goes, outs, index_of}
use Rattle.hs_plain.proofs.ValidShapes.{none_some}
use Rattle.hs_plain.proofs.ValidLists.{In, in-right}
use Rattle.plan_laws.specs.Pair.{IsPair}
use Rattle.plan_laws.specs.Sight.{NoneBelow}
use Rattle.plan_laws.specs.Translated.{is_out_line, line_path}
use Rattle.plan_laws.proofs.Paths.{by, rest-here}
use Rattle.plan_laws.proofs.Lists.{pairwise-reverse, pairwise-before, same-so, same-here}
use Rattle.plan_laws.proofs.Places.{path_of_place}
use Rattle.plan_laws.proofs.Moves.{rises-filter}
use Rattle.plan_laws.proofs.Unchanged.{outs-lines}
use Rattle.distcp_plan.specs.Planned.{target_of, is_out, out_path, outs_by, with_move, moves_by}

-- ---- a move of a list of lines

pub record IsMove (lines : List Line) (one : Names × Option ℕ) : Type 0 where
  pub before : List Line
  pub line : Line
  pub behind : List Line
  pub split : lines ≡ before ++ line ∷ behind
  pub target_is : target_of line ≡ Some one.0
  pub index_is : one.1 ≡ Some (length (filter_map out_path behind))

pub move-so : (lines : List Line) (one : Names × Option ℕ) → In (moves_by lines) one → IsMove lines one
move-so [] one at = absurd at
move-so (line ∷ lines) one at = by-target (target_of line) refl at (λ later. further (move-so lines one later))
  where
    further : IsMove lines one → IsMove (line ∷ lines) one
    further m = record { before = line ∷ m.before; line = m.line; behind = m.behind; split = ap (λ ls. line ∷ ls) m.split; target_is = m.target_is; index_is = m.index_is }

    by-target : (o : Option Names) → target_of line ≡ o → In (with_move o (length (filter_map out_path lines)) (moves_by lines)) one → (In (moves_by lines) one → IsMove (line ∷ lines) one) → IsMove (line ∷ lines) one
    by-target None e at rest = rest at
    by-target (Some to) e (inr at) rest = rest at
    by-target (Some to) e (inl same) rest = record {
      before = [];
      line = line;
      behind = lines;
      split = refl;
      target_is = e ∙ ap (λ (x : Names × Option ℕ). Some x.0) same;
      index_is = sym (ap (λ (x : Names × Option ℕ). x.1) same);
    }

pub move-at : (lines : List Line) (one : Names × Option ℕ) (m : IsMove lines one) → In lines m.line
move-at lines one m = subst (λ ls. In ls m.line) (sym m.split) (in-right m.before (m.line ∷ m.behind) m.line (inl refl))

-- ---- outs

one-kind : (kind : LineKind) (line : Line) → is_out kind ≡ is_out_line (record line { kind = kind })
one-kind Deleted line = refl
one-kind Renamed line = refl
one-kind Modified line = refl
one-kind Created line = refl

out-paths : (lines : List Line) → filter_map out_path lines ≡ map line_path (filter is_out_line lines)
out-paths [] = refl
out-paths (line ∷ lines) =
    ap (λ b. cons_option (cond b (Some line.path) None) (filter_map out_path lines)) (one-kind line.kind line)
    ∙ by-test (is_out_line line) (out-paths lines)
  where
    by-test : (b : Bool) → filter_map out_path lines ≡ map line_path (filter is_out_line lines) → cons_option (cond b (Some line.path) None) (filter_map out_path lines) ≡ map line_path (cond b (line ∷ filter is_out_line lines) (filter is_out_line lines))
    by-test true rest = ap (λ (ps : List Names). line.path ∷ ps) rest
    by-test false rest = rest

pub outs-are : {B : Type 0} (from to : Tree B) → outs_by (report from to) ≡ outs from to
outs-are from to = ap reverse (out-paths (report from to)) ∙ sym (outs-lines from to)

-- ---- numbers

index-at : (xs : List Names) (p : Names) (ys : List Names) → AllByRecursion (λ x. rest_below x p ≡ None) xs → index_of (xs ++ p ∷ ys) p ≡ length xs
index-at [] p ys none = ap (λ b. cond b 0 (index_of ys p + 1)) (same-here p)
index-at (x ∷ xs) p ys none = by (same_path x p)
    (λ t. absurd (none_some (sym none.0 ∙ ap (rest_below x) (same-so x p t ∙ sym (append-nil x)) ∙ rest-here x [])))
    (λ f. ap (λ b. cond b 0 (index_of (xs ++ p ∷ ys) p + 1)) f ∙ ap (λ n. n + 1) (index-at xs p ys none.1) ∙ add-last (length xs))
  where
    add-last : (n : ℕ) → n + 1 ≡ suc n
    add-last n = omega arith

filter-onto : (xs ys : List Line) → filter_map out_path (xs ++ ys) ≡ filter_map out_path xs ++ filter_map out_path ys
filter-onto [] ys = refl
filter-onto (x ∷ xs) ys = one (out_path x) (filter-onto xs ys)
  where
    one : (o : Option Names) → filter_map out_path (xs ++ ys) ≡ filter_map out_path xs ++ filter_map out_path ys → cons_option o (filter_map out_path (xs ++ ys)) ≡ cons_option o (filter_map out_path xs) ++ filter_map out_path ys
    one None rest = rest
    one (Some p) rest = ap (λ (ps : List Names). p ∷ ps) rest

turned : (xs : List Names) (p : Names) (ys : List Names) → reverse (xs ++ p ∷ ys) ≡ reverse ys ++ p ∷ reverse xs
turned xs p ys =
    reverse-append xs (p ∷ ys)
    ∙ ap (λ (ps : List Names). ps ++ reverse xs) (reverse-append (p ∷ []) ys)
    ∙ append_assoc (reverse ys) (p ∷ []) (reverse xs)

module _ {B : Type 0} (from to : Tree B) (is : IsPair from to) where
  fall : NoneBelow (outs from to)
  fall = pairwise-reverse (λ path later. rest_below later path ≡ None) (map path_of_place (filter (goes from to) from)) (rises-filter (goes from to) from is.from_tree.sorted)

  -- an out's number is how many outs come from the lines behind its own
  pub index-is : (before : List Line) (line : Line) (behind : List Line) → report from to ≡ before ++ line ∷ behind → is_out line.kind ≡ true → index_of (outs from to) line.path ≡ length (filter_map out_path behind)
  index-is before line behind split out =
      ap (λ (ps : List Names). index_of ps line.path) is_turned
      ∙ index-at (reverse later) line.path (reverse earlier) (pairwise-before (λ path next. rest_below path next ≡ None) (reverse later) line.path (reverse earlier) (subst NoneBelow is_turned fall))
      ∙ length-reverse later
    where
      earlier : List Names
      earlier = filter_map out_path before

      later : List Names
      later = filter_map out_path behind

      is_turned : outs from to ≡ reverse (filter_map out_path behind) ++ line.path ∷ reverse (filter_map out_path before)
      is_turned =
          sym (outs-are from to)
          ∙ ap outs_by split
          ∙ ap reverse (filter-onto before (line ∷ behind) ∙ ap (λ b. filter_map out_path before ++ cons_option (cond b (Some line.path) None) (filter_map out_path behind)) out)
          ∙ turned (filter_map out_path before) line.path (filter_map out_path behind)

-- The lines of a text, from its front.
use Rattle.std.proofs.Common.{◌≡◌, ◌≢◌, ℕ, ◌+◌, ◌<◌, ◌≤◌, nat_lt, not, Bool, true, false, cond, Some, None, Result, Ok, Err, List, [], ◌∷◌, length, take, drop, suc, refl, ap, sym, ◌∙◌, subst, arith}
use Rattle.std.specs.List.{slice_split, onto_first, position, position_or_len, fold}
use Rattle.std.proofs.lemmas.Bool.Decides.{nat_tests}
use Rattle.script_text.specs.declared.fault.FaultKind.{FaultKind}
use Rattle.script_text.specs.declared.fault.ScriptFault.{ScriptFault}
use Rattle.script_text.specs.declared.fault.ReadScriptFault.{ReadScriptFault}
use Rattle.script_text.specs.declared.fault.ReadScriptFault.TheVariants.{Bad, NoMemory}
use Rattle.script_text.specs.declared.line.LineMeaning.{LineMeaning}
use Rattle.script_text.specs.declared.line.LineMeaning.TheVariants.{Skipped, Heading, Said}
use Rattle.script_text.specs.declared.reader.Reading.{Reading}
use Rattle.script_text.specs.Words.{is_line_feed, is_full, without_empty_last, lines_of, words_of}
use Rattle.script_text.specs.Scripts.{start, with_line, or_fault, line_of, read_line, script_of, meaning_of, IsFaultOf}

module _ {A : Type 0} (p : A → Bool) where
  -- where no element passes, the whole list is the one part
  split_none : (xs : List A) → length xs ≤ position_or_len p xs → slice_split p xs ≡ xs ∷ []
  split_none [] past = refl
  split_none (x ∷ xs) past =
      elim (p x) as (λ b. suc (length xs) ≤ cond (not b) (1 + position_or_len p xs) 0 → (length xs ≤ position_or_len p xs → slice_split p xs ≡ xs ∷ []) →
      cond b ([] ∷ slice_split p xs) (onto_first x (slice_split p xs)) ≡ (x ∷ xs) ∷ []) [
        | true ↦ λ h rest. absurd (omega arith)
        | false ↦ λ h rest. ap (onto_first x) (rest (omega arith))
      ] past (split_none xs)

  -- the first part ends at the first element that passes
  split_at : (xs : List A) → position_or_len p xs < length xs → slice_split p xs ≡ take (position_or_len p xs) xs ∷ slice_split p (drop (position_or_len p xs + 1) xs)
  split_at [] within = absurd (omega arith)
  split_at (x ∷ xs) within =
      elim (p x) as (λ b. cond (not b) (1 + position_or_len p xs) 0 < suc (length xs) →
      (position_or_len p xs < length xs → slice_split p xs ≡ take (position_or_len p xs) xs ∷ slice_split p (drop (position_or_len p xs + 1) xs)) →
      cond b ([] ∷ slice_split p xs) (onto_first x (slice_split p xs)) ≡ take (cond (not b) (1 + position_or_len p xs) 0) (x ∷ xs) ∷ slice_split p (drop (cond (not b) (1 + position_or_len p xs) 0 + 1) (x ∷ xs))) [
        | true ↦ λ h rest. refl
        | false ↦ λ h rest.
            let n = position_or_len p xs in
            ap (onto_first x) (rest (omega arith))
            ∙ ap (λ m. take m (x ∷ xs) ∷ slice_split p (drop (suc (n + 1)) (x ∷ xs))) {x = suc n} {y = 1 + n} (omega arith)
            ∙ ap (λ k. take (1 + n) (x ∷ xs) ∷ slice_split p (drop k (x ∷ xs))) {x = suc (n + 1)} {y = 1 + n + 1} (omega arith)
      ] within (split_at xs)

  pub first_none : (xs : List A) → position p xs ≡ None → slice_split p xs ≡ xs ∷ []
  first_none xs none =
      elim (nat_lt (position_or_len p xs) (length xs)) as (λ b. nat_lt (position_or_len p xs) (length xs) ≡ b → cond b (Some (position_or_len p xs)) None ≡ None → slice_split p xs ≡ xs ∷ []) [
        | true ↦ λ t e. absurd (cc)
        | false ↦ λ t e. split_none xs (grind (arith, nat_tests))
      ] refl none

  pub first_some : (xs : List A) (end : ℕ) → position p xs ≡ Some end → slice_split p xs ≡ take end xs ∷ slice_split p (drop (end + 1) xs)
  first_some xs end found =
      elim (nat_lt (position_or_len p xs) (length xs)) as (λ b. nat_lt (position_or_len p xs) (length xs) ≡ b → cond b (Some (position_or_len p xs)) None ≡ Some end → slice_split p xs ≡ take end xs ∷ slice_split p (drop (end + 1) xs)) [
        | true ↦ λ t e.
            let same : position_or_len p xs ≡ end = cc in
            subst (λ n. slice_split p xs ≡ take n xs ∷ slice_split p (drop (n + 1) xs)) same (split_at xs (grind (arith, nat_tests)))
        | false ↦ λ t e. absurd (cc)
      ] refl found

-- parts are never none
parts_cons : (bytes : List ℕ) → (part : List ℕ) × (parts : List (List ℕ)) × (slice_split is_line_feed bytes ≡ part ∷ parts)
parts_cons [] = ([], [], refl)
parts_cons (b ∷ bs) =
    let rest = parts_cons bs in
    elim (is_line_feed b) as (λ t. (part : List ℕ) × (parts : List (List ℕ)) × (cond t ([] ∷ slice_split is_line_feed bs) (onto_first b (slice_split is_line_feed bs)) ≡ part ∷ parts)) [
      | true ↦ ([], slice_split is_line_feed bs, refl)
      | false ↦ (b ∷ rest.0, rest.1, ap (onto_first b) rest.2)
    ]

-- a line before others
pub line_before : (bytes line more : List ℕ) → slice_split is_line_feed bytes ≡ line ∷ slice_split is_line_feed more → lines_of bytes ≡ line ∷ lines_of more
line_before bytes line more is =
    let parts = parts_cons more in
    ap without_empty_last is
    ∙ ap (λ (ps : List (List ℕ)). without_empty_last (line ∷ ps)) parts.2
    ∙ ap (λ (ps : List (List ℕ)). line ∷ without_empty_last ps) (sym parts.2)

full : (b : ℕ) (bs : List ℕ) → is_full (b ∷ bs) ≡ true
full b bs = grind (arith, nat_tests)

-- a last line without a line feed
pub last_line : (bytes : List ℕ) → bytes ≢ [] → slice_split is_line_feed bytes ≡ bytes ∷ [] → lines_of bytes ≡ bytes ∷ lines_of []
last_line [] some is = absurd (some refl)
last_line (b ∷ bs) some is = ap without_empty_last is ∙ ap (λ t. cond t ((b ∷ bs) ∷ []) []) (full b bs)

-- ---- line after line

-- after a fault nothing changes
fold_fault : (fault : ScriptFault) (lines : List (List ℕ)) → fold read_line (Err fault) lines ≡ Err fault
fold_fault fault [] = refl
fold_fault fault (line ∷ lines) = fold_fault fault lines

-- one line more
pub next_lines : (so_far next whole : Result Reading ScriptFault) (rest line more : List ℕ) → fold read_line so_far (lines_of rest) ≡ whole → lines_of rest ≡ line ∷ lines_of more → read_line so_far line ≡ next →
    fold read_line next (lines_of more) ≡ whole
next_lines so_far next whole rest line more all is read =
    ap (λ (r : Result Reading ScriptFault). fold read_line r (lines_of more)) (sym read) ∙ ap (λ (ls : List (List ℕ)). fold read_line so_far ls) (sym is) ∙ all

-- a bad line makes the text bad
pub bad_text : (reading : Reading) (bytes rest line more : List ℕ) (fault : ReadScriptFault) → fold read_line (Ok reading) (lines_of rest) ≡ fold read_line (Ok start) (lines_of bytes) → lines_of rest ≡ line ∷ lines_of more →
    IsFaultOf (read_line (Ok reading) line) fault → IsFaultOf (meaning_of bytes) fault
bad_text reading bytes rest line more (Bad fault) all is bad =
    ap script_of (sym (next_lines (Ok reading) (Err fault) (fold read_line (Ok start) (lines_of bytes)) rest line more all is bad) ∙ fold_fault fault (lines_of more))
bad_text reading bytes rest line more NoMemory all is bad = tt

next_number : (reading next : Reading) (meaning : Result LineMeaning FaultKind) → or_fault reading meaning ≡ Ok next → next.line ≡ reading.line + 1
next_number reading next (Err kind) is = absurd (cc)
next_number reading next (Ok Skipped) is = let same : with_line reading Skipped ≡ next = cc in ap (λ (r : Reading). r.line) (sym same)
next_number reading next (Ok (Heading standing)) is = let same : with_line reading (Heading standing) ≡ next = cc in ap (λ (r : Reading). r.line) (sym same)
next_number reading next (Ok (Said command)) is = let same : with_line reading (Said command) ≡ next = cc in ap (λ (r : Reading). r.line) (sym same)

-- each line that is read counts
pub numbered : (reading next : Reading) (line : List ℕ) → read_line (Ok reading) line ≡ Ok next → next.line ≡ reading.line + 1
numbered reading next line is = next_number reading next (line_of reading.standing (words_of line)) is

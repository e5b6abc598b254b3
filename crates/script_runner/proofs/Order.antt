-- The order of a script's lines, as its sections are run.
use Rattle.std.proofs.Common.{◌≡◌, ℕ, ◌+◌, ◌<◌, ◌≤◌, nat_le, Bool, true, false, cond, ◌&&◌, List, [], ◌∷◌, ◌++◌, map, refl, ap, sym, ◌∙◌, arith}
use Rattle.std.proofs.lemmas.Bool.Decides.{nat_tests}
use Rattle.script_text.specs.declared.script.ScriptLine.{ScriptLine}
use Rattle.script_text.specs.declared.script.Section.{Section}
use Rattle.script_text.specs.declared.script.Section.TheVariants as sections
use Rattle.run_output.specs.Steps.{LineRun}
use Rattle.run_output.specs.Run.{is_section, are_in}
use Rattle.script_text.specs.Order.{rank, is_among, are_ordered}
use Rattle.script_runner.specs.Sections.{is_past}
use Rattle.script_runner.proofs.Both.{both_first, both_second, both_yes}

-- one section has one rank
same_rank : (a b : Section) → is_section a b ≡ true → rank a ≡ rank b
same_rank sections.Setup sections.Setup is = refl
same_rank sections.Setup (sections.Client n) is = absurd (cc)
same_rank sections.Setup sections.Finish is = absurd (cc)
same_rank (sections.Client m) sections.Setup is = absurd (cc)
same_rank (sections.Client m) (sections.Client n) is = grind (arith, nat_tests)
same_rank (sections.Client m) sections.Finish is = absurd (cc)
same_rank sections.Finish sections.Setup is = absurd (cc)
same_rank sections.Finish (sections.Client n) is = absurd (cc)
same_rank sections.Finish sections.Finish is = refl

-- the next section has a greater one
module _ (clients : ℕ) (few : clients ≤ 16) where
  next_rank : (a b : Section) → is_among clients a ≡ true → is_among clients b ≡ true → is_section a b ≡ false → nat_le (rank b) (rank a) ≡ true → nat_le (rank b + 1) (rank a) ≡ true
  next_rank sections.Setup sections.Setup here there other least = absurd (cc)
  next_rank sections.Setup (sections.Client n) here there other least = grind (arith, nat_tests)
  next_rank sections.Setup sections.Finish here there other least = absurd (cc)
  next_rank (sections.Client m) sections.Setup here there other least = grind (arith, nat_tests)
  next_rank (sections.Client m) (sections.Client n) here there other least = grind (arith, nat_tests)
  next_rank (sections.Client m) sections.Finish here there other least = grind (arith, nat_tests)
  next_rank sections.Finish sections.Setup here there other least = refl
  next_rank sections.Finish (sections.Client n) here there other least = grind (arith, nat_tests)
  next_rank sections.Finish sections.Finish here there other least = absurd (cc)

  -- behind the lines of a section
  behind_lines : (section : Section) (runs : List LineRun) (rest : List ScriptLine) → are_in section runs ≡ true → are_ordered clients (rank section) (map (λ r. r.line) runs ++ rest) ≡ true → are_ordered clients (rank section) rest ≡ true
  behind_lines section [] rest in_it ordered = ordered
  behind_lines section (r ∷ runs) rest in_it ordered =
      let here : rank r.line.section ≡ rank section = same_rank r.line.section section (both_first (is_section r.line.section section) _ in_it) in
      behind_lines section runs rest (both_second (is_section r.line.section section) _ in_it)
      (ap (λ n. are_ordered clients n (map (λ r. r.line) runs ++ rest)) (sym here)
      ∙ both_second (nat_le (rank section) (rank r.line.section)) _ (both_second (is_among clients r.line.section) _ ordered))

  not_here : (b : Bool) → cond b false true ≡ true → b ≡ false
  not_here true past = absurd (cc)
  not_here false past = refl

  -- and the first line behind them is of a later section
  pub section_order : (section : Section) (runs : List LineRun) (before rest : List ScriptLine) → is_among clients section ≡ true → before ≡ map (λ r. r.line) runs ++ rest → are_in section runs ≡ true → is_past section rest ≡ true →
      are_ordered clients (rank section) before ≡ true → are_ordered clients (rank section + 1) rest ≡ true
  section_order section runs before [] among lines in_it past ordered = refl
  section_order section runs before (line ∷ rest) among lines in_it past ordered =
      let left : are_ordered clients (rank section) (line ∷ rest) ≡ true = behind_lines section runs (line ∷ rest) in_it (sym (ap (are_ordered clients (rank section)) lines) ∙ ordered) in
      let here : is_among clients line.section ≡ true = both_first (is_among clients line.section) _ left in
      let more : (nat_le (rank section) (rank line.section) && are_ordered clients (rank line.section) rest) ≡ true = both_second (is_among clients line.section) _ left in
      both_yes (is_among clients line.section) _ here
      (both_yes (nat_le (rank section + 1) (rank line.section)) _
      (next_rank line.section section here among (not_here (is_section line.section section) past) (both_first (nat_le (rank section) (rank line.section)) _ more))
      (both_second (nat_le (rank section) (rank line.section)) _ more))

  -- behind the last section no line is left
  greatest_rank : (section : Section) → is_among clients section ≡ true → nat_le 18 (rank section) ≡ true → ⊥
  greatest_rank sections.Setup among high = cc
  greatest_rank (sections.Client n) among high = absurd (grind (arith, nat_tests))
  greatest_rank sections.Finish among high = cc

  pub none_left : (rest : List ScriptLine) → are_ordered clients 18 rest ≡ true → rest ≡ []
  none_left [] ordered = refl
  none_left (line ∷ rest) ordered = absurd (greatest_rank line.section (both_first (is_among clients line.section) _ ordered) (both_first (nat_le 18 (rank line.section)) _ (both_second (is_among clients line.section) _ ordered)))

-- behind all clients there is finish alone
finish_rank : (clients : ℕ) (section : Section) → is_among clients section ≡ true → nat_le (clients + 1) (rank section) ≡ true → nat_le 17 (rank section) ≡ true
finish_rank clients sections.Setup among high = grind (arith, nat_tests)
finish_rank clients (sections.Client n) among high = grind (arith, nat_tests)
finish_rank clients sections.Finish among high = refl

-- behind all clients finish is left
pub finish_order : (clients : ℕ) (rest : List ScriptLine) → are_ordered clients (clients + 1) rest ≡ true → are_ordered clients 17 rest ≡ true
finish_order clients [] ordered = refl
finish_order clients (line ∷ rest) ordered =
    let here : is_among clients line.section ≡ true = both_first (is_among clients line.section) _ ordered in
    let more : (nat_le (clients + 1) (rank line.section) && are_ordered clients (rank line.section) rest) ≡ true = both_second (is_among clients line.section) _ ordered in
    both_yes (is_among clients line.section) _ here
    (both_yes (nat_le 17 (rank line.section)) _ (finish_rank clients line.section here (both_first (nat_le (clients + 1) (rank line.section)) _ more)) (both_second (nat_le (clients + 1) (rank line.section)) _ more))

-- a client that is run is one of them
pub client_among : (clients index : ℕ) → index < clients → is_among clients (sections.Client (index + 1)) ≡ true
client_among clients index within = grind (arith, nat_tests)

-- The lines of a script stand in the order of their sections.
use Rattle.std.proofs.Common.{◌≡◌, ℕ, ◌+◌, ◌≤◌, nat_le, Bool, true, false, cond, not, ◌&&◌, ◌==◌, Option, Some, None, List, [], ◌∷◌, ◌++◌, refl, ap, sym, ◌∙◌, subst, arith}
use Rattle.std.specs.Prelude.{Result, Ok, Err, bytes_eq, codes}
use Rattle.std.specs.List.{list_all, fold}
use Rattle.std.proofs.lemmas.Bool.Decides.{nat_tests}
use Rattle.script_text.specs.declared.command.Command.{Command}
use Rattle.script_text.specs.declared.fault.FaultKind.{FaultKind}
use Rattle.script_text.specs.declared.fault.ScriptFault.{ScriptFault}
use Rattle.script_text.specs.declared.line.LineMeaning.TheVariants.{Skipped, Heading, Said}
use Rattle.script_text.specs.declared.reader.Reading.{Reading}
use Rattle.script_text.specs.declared.script.Script.{Script}
use Rattle.script_text.specs.declared.script.ScriptLine.{ScriptLine}
use Rattle.script_text.specs.declared.script.Section.{Section}
use Rattle.script_text.specs.declared.script.Section.TheVariants as sections
use Rattle.script_text.specs.declared.script.Standing.{Standing}
use Rattle.script_text.specs.Commands.{command_of}
use Rattle.script_text.specs.Headings.{is_finish, is_next_client, after_setup, after_number, after_client, after_finish, after_heading, is_heading}
use Rattle.script_text.specs.Numbers.{decimal_of}
use Rattle.script_text.specs.Scripts.{heading_line, command_line, line_of, start, said, with_line, or_fault, read_line, script_of, meaning_of}
use Rattle.script_text.specs.Words.{lines_of, words_of, is_comment}
use Rattle.script_text.specs.Order.{rank, is_among, are_ordered}

both_first : (a b : Bool) → (a && b) ≡ true → a ≡ true
both_first true b e = refl
both_first false b e = e

both_second : (a b : Bool) → (a && b) ≡ true → b ≡ true
both_second true b e = e
both_second false b e = absurd (cc)

both_yes : (a b : Bool) → a ≡ true → b ≡ true → (a && b) ≡ true
both_yes a b p q = ap (λ t. t && b) p ∙ q

-- ---- what is so far

abbrev is_low : ℕ → ScriptLine → Bool
is_low top line = nat_le (rank line.section) top

record IsSoFar (reading : Reading) : Type 0 where
  ordered : are_ordered reading.standing.clients 0 reading.lines ≡ true
  low : list_all (is_low (rank reading.standing.section)) reading.lines ≡ true
  among : is_among reading.standing.clients reading.standing.section ≡ true
  most : reading.standing.clients ≤ 16
  new : reading.standing.begun ≡ false → reading.lines ≡ []

starts : IsSoFar start
starts = record { ordered = refl; low = refl; among = refl; most = omega arith; new = λ e. refl }

-- ---- a command

ordered_push : (clients least : ℕ) (lines : List ScriptLine) (line : ScriptLine) → nat_le least (rank line.section) ≡ true → is_among clients line.section ≡ true → list_all (is_low (rank line.section)) lines ≡ true → are_ordered clients least lines ≡ true → are_ordered clients least (lines ++ line ∷ []) ≡ true
ordered_push clients least [] line above among low ordered = both_yes (is_among clients line.section) _ among (both_yes (nat_le least (rank line.section)) true above refl)
ordered_push clients least (l ∷ lines) line above among low ordered =
    both_yes (is_among clients l.section) _ (both_first (is_among clients l.section) _ ordered)
    (both_yes (nat_le least (rank l.section)) _ (both_first (nat_le least (rank l.section)) _ (both_second (is_among clients l.section) _ ordered))
    (ordered_push clients (rank l.section) lines line (both_first (nat_le (rank l.section) (rank line.section)) _ low) among (both_second (nat_le (rank l.section) (rank line.section)) _ low)
    (both_second (nat_le least (rank l.section)) _ (both_second (is_among clients l.section) _ ordered))))

all_push : (p : ScriptLine → Bool) (lines : List ScriptLine) (line : ScriptLine) → list_all p lines ≡ true → p line ≡ true → list_all p (lines ++ line ∷ []) ≡ true
all_push p [] line all one = ap (λ b. b && true) one
all_push p (l ∷ lines) line all one = both_yes (p l) _ (both_first (p l) _ all) (all_push p lines line (both_second (p l) _ all) one)

least_zero : (n : ℕ) → nat_le 0 n ≡ true
least_zero n = grind (arith, nat_tests)

le_self : (n : ℕ) → nat_le n n ≡ true
le_self n = grind (arith, nat_tests)

says : (reading : Reading) (command : Command) → IsSoFar reading → IsSoFar (with_line reading (Said command))
says reading command kept =
    let line : ScriptLine = said reading command in
    record {
      ordered = ordered_push reading.standing.clients 0 reading.lines line (least_zero (rank reading.standing.section)) kept.among kept.low kept.ordered;
      low = all_push (is_low (rank reading.standing.section)) reading.lines line kept.low (le_self (rank reading.standing.section));
      among = kept.among;
      most = kept.most;
      new = λ e. absurd (cc);
    }

-- ---- a heading

among_more : (clients : ℕ) (section : Section) → is_among clients section ≡ true → is_among (clients + 1) section ≡ true
among_more clients sections.Setup among = refl
among_more clients (sections.Client n) among = grind (arith, nat_tests)
among_more clients sections.Finish among = refl

ordered_more : (clients least : ℕ) (lines : List ScriptLine) → are_ordered clients least lines ≡ true → are_ordered (clients + 1) least lines ≡ true
ordered_more clients least [] ordered = refl
ordered_more clients least (l ∷ lines) ordered =
    both_yes (is_among (clients + 1) l.section) _ (among_more clients l.section (both_first (is_among clients l.section) _ ordered))
    (both_yes (nat_le least (rank l.section)) _ (both_first (nat_le least (rank l.section)) _ (both_second (is_among clients l.section) _ ordered))
    (ordered_more clients (rank l.section) lines (both_second (nat_le least (rank l.section)) _ (both_second (is_among clients l.section) _ ordered))))

low_more : (top more : ℕ) (lines : List ScriptLine) → top ≤ more → list_all (is_low top) lines ≡ true → list_all (is_low more) lines ≡ true
low_more top more [] le low = refl
low_more top more (l ∷ lines) le low = both_yes (is_low more l) _ (lower (rank l.section) (both_first (is_low top l) _ low)) (low_more top more lines le (both_second (is_low top l) _ low))
  where
    lower : (n : ℕ) → nat_le n top ≡ true → nat_le n more ≡ true
    lower n e = grind (arith, nat_tests)

-- before finish the rank is at most the number of clients
rank_low : (clients : ℕ) (section : Section) → is_finish section ≡ false → is_among clients section ≡ true → rank section ≤ clients
rank_low clients sections.Setup before among = omega arith
rank_low clients (sections.Client n) before among = grind (arith, nat_tests)
rank_low clients sections.Finish before among = absurd (cc)

setup_leads : (reading : Reading) (words : List (List ℕ)) (standing : Standing) → IsSoFar reading → after_setup reading.standing words ≡ Some standing → IsSoFar (with_line reading (Heading standing))
setup_leads reading (w ∷ words) standing kept leads = absurd (cc)
setup_leads reading [] standing kept leads = by reading.standing.begun refl leads
  where
    none_yet : (lines : List ScriptLine) (s : Standing) → lines ≡ [] → record { begun = true; section = sections.Setup; clients = 0 } ≡ s → IsSoFar (record { line = reading.line + 1; standing = s; lines = lines })
    none_yet lines s none is =
        subst (λ (t : Standing). IsSoFar (record { line = reading.line + 1; standing = t; lines = lines })) is
        (subst (λ (ls : List ScriptLine). IsSoFar (record { line = reading.line + 1; standing = record { begun = true; section = sections.Setup; clients = 0 }; lines = ls })) (sym none)
        (record { ordered = refl; low = refl; among = refl; most = omega arith; new = λ e. refl }))

    by : (b : Bool) → reading.standing.begun ≡ b → cond b None (Some (record { begun = true; section = sections.Setup; clients = 0 })) ≡ Some standing → IsSoFar (with_line reading (Heading standing))
    by true begun leads = absurd (cc)
    by false begun leads = none_yet reading.lines standing (kept.new begun) (cc)

number_leads : (reading : Reading) (number : Option ℕ) (standing : Standing) → IsSoFar reading → after_number reading.standing number ≡ Some standing → IsSoFar (with_line reading (Heading standing))
number_leads reading None standing kept leads = absurd (cc)
number_leads reading (Some number) standing kept leads = by (is_next_client reading.standing number) refl leads
  where
    next : is_next_client reading.standing number ≡ true → (is_finish reading.standing.section ≡ false) × (number ≡ reading.standing.clients + 1) × (number ≤ 16)
    next is =
        let begun : (not (is_finish reading.standing.section) && number == reading.standing.clients + 1) ≡ true = both_first (not (is_finish reading.standing.section) && number == reading.standing.clients + 1) _ is in
        let most : nat_le number 16 ≡ true = both_second (not (is_finish reading.standing.section) && number == reading.standing.clients + 1) _ is in
        let front : not (is_finish reading.standing.section) ≡ true = both_first (not (is_finish reading.standing.section)) _ begun in
        let same : (number == reading.standing.clients + 1) ≡ true = both_second (not (is_finish reading.standing.section)) _ begun in
        (unnot (is_finish reading.standing.section) front, grind (arith, nat_tests), grind (arith, nat_tests))
      where
        unnot : (b : Bool) → not b ≡ true → b ≡ false
        unnot true e = absurd (cc)
        unnot false e = refl

    begins : (is_finish reading.standing.section ≡ false) × (number ≡ reading.standing.clients + 1) × (number ≤ 16) → IsSoFar (with_line reading (Heading (record { begun = true; section = sections.Client number; clients = number })))
    begins so =
        let below : rank reading.standing.section ≤ reading.standing.clients = rank_low reading.standing.clients reading.standing.section so.0 kept.among in
        record {
          ordered = subst (λ n. are_ordered n 0 reading.lines ≡ true) (sym so.1) (ordered_more reading.standing.clients 0 reading.lines kept.ordered);
          low = low_more (rank reading.standing.section) number reading.lines (omega (arith, below, so.1)) kept.low;
          among = own number (omega (arith, so.1));
          most = so.2;
          new = λ e. absurd (cc);
        }
      where
        own : (n : ℕ) → 1 ≤ n → (nat_le 1 n && nat_le n n) ≡ true
        own n one = grind (arith, nat_tests)

    by : (b : Bool) → is_next_client reading.standing number ≡ b → cond b (Some (record { begun = true; section = sections.Client number; clients = number })) None ≡ Some standing → IsSoFar (with_line reading (Heading standing))
    by true is leads = subst (λ (s : Standing). IsSoFar (with_line reading (Heading s))) (cc) (begins (next is))
    by false is leads = absurd (cc)

client_leads : (reading : Reading) (words : List (List ℕ)) (standing : Standing) → IsSoFar reading → after_client reading.standing words ≡ Some standing → IsSoFar (with_line reading (Heading standing))
client_leads reading [] standing kept leads = absurd (cc)
client_leads reading (number ∷ []) standing kept leads = number_leads reading (decimal_of number) standing kept leads
client_leads reading (number ∷ other ∷ words) standing kept leads = absurd (cc)

finish_leads : (reading : Reading) (words : List (List ℕ)) (standing : Standing) → IsSoFar reading → after_finish reading.standing words ≡ Some standing → IsSoFar (with_line reading (Heading standing))
finish_leads reading (w ∷ words) standing kept leads = absurd (cc)
finish_leads reading [] standing kept leads = by (is_finish reading.standing.section) refl leads
  where
    ends : is_finish reading.standing.section ≡ false → IsSoFar (with_line reading (Heading (record { begun = true; section = sections.Finish; clients = reading.standing.clients })))
    ends before =
        let below : rank reading.standing.section ≤ reading.standing.clients = rank_low reading.standing.clients reading.standing.section before kept.among in
        record {
          ordered = kept.ordered;
          low = low_more (rank reading.standing.section) 17 reading.lines (omega (arith, below, kept.most)) kept.low;
          among = refl;
          most = kept.most;
          new = λ e. absurd (cc);
        }

    by : (b : Bool) → is_finish reading.standing.section ≡ b → cond b None (Some (record { begun = true; section = sections.Finish; clients = reading.standing.clients })) ≡ Some standing → IsSoFar (with_line reading (Heading standing))
    by true before leads = absurd (cc)
    by false before leads = subst (λ (s : Standing). IsSoFar (with_line reading (Heading s))) (cc) (ends before)

heading_leads : (reading : Reading) (first : List ℕ) (rest : List (List ℕ)) (standing : Standing) → IsSoFar reading → after_heading reading.standing first rest ≡ Some standing → IsSoFar (with_line reading (Heading standing))
heading_leads reading first rest standing kept leads = by (bytes_eq first (codes "setup")) (bytes_eq first (codes "client")) leads
  where
    by : (a b : Bool) → cond a (after_setup reading.standing rest) (cond b (after_client reading.standing rest) (after_finish reading.standing rest)) ≡ Some standing → IsSoFar (with_line reading (Heading standing))
    by true b leads = setup_leads reading rest standing kept leads
    by false true leads = client_leads reading rest standing kept leads
    by false false leads = finish_leads reading rest standing kept leads

-- ---- a line

skips : (reading : Reading) → IsSoFar reading → IsSoFar (with_line reading Skipped)
skips reading kept = record { ordered = kept.ordered; low = kept.low; among = kept.among; most = kept.most; new = kept.new }

abbrev Holds : Result Reading ScriptFault → Type 0
Holds (Ok reading) = IsSoFar reading
Holds (Err fault) = Unit {0}

line_leads : (reading : Reading) (words : List (List ℕ)) → IsSoFar reading → Holds (or_fault reading (line_of reading.standing words))
line_leads reading [] kept = skips reading kept
line_leads reading (first ∷ rest) kept = by (is_comment first) (is_heading first)
  where
    heading : (found : Option Standing) → after_heading reading.standing first rest ≡ found → Holds (or_fault reading (heading_line found))
    heading None is = tt
    heading (Some standing) is = heading_leads reading first rest standing kept is

    command : (found : Result Command FaultKind) → Holds (or_fault reading (command_line found))
    command (Err kind) = tt
    command (Ok said) = says reading said kept

    by : (a b : Bool) → Holds (or_fault reading (cond a (Ok Skipped) (cond b (heading_line (after_heading reading.standing first rest)) (command_line (command_of (first ∷ rest))))))
    by true b = skips reading kept
    by false true = heading (after_heading reading.standing first rest) refl
    by false false = command (command_of (first ∷ rest))

all_lead : (result : Result Reading ScriptFault) (lines : List (List ℕ)) → Holds result → Holds (fold read_line result lines)
all_lead result [] holds = holds
all_lead (Err fault) (line ∷ lines) holds = all_lead (Err fault) lines tt
all_lead (Ok reading) (line ∷ lines) holds = all_lead (or_fault reading (line_of reading.standing (words_of line))) lines (line_leads reading (words_of line) holds)

-- ---- a script

abbrev IsFine : Result Script ScriptFault → Type 0
IsFine (Err fault) = Unit {0}
IsFine (Ok script) = (are_ordered script.clients 0 script.lines ≡ true) × (script.clients ≤ 16)

fine : (result : Result Reading ScriptFault) → Holds result → IsFine (script_of result)
fine (Err fault) holds = tt
fine (Ok reading) holds = (holds.ordered, holds.most)

-- a script that was read is in order, and has at most 16 clients
pub script_order : (bytes : List ℕ) (script : Script) → meaning_of bytes ≡ Ok script → (are_ordered script.clients 0 script.lines ≡ true) × (script.clients ≤ 16)
script_order bytes script is = subst IsFine is (fine (fold read_line (Ok start) (lines_of bytes)) (all_lead (Ok start) (lines_of bytes) starts))

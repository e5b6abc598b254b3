-- The headings of a script, and their order.
use Rattle.std.specs.Prelude.{ℕ, ◌+◌, Bool, true, false, not, ◌&&◌, ◌||◌, ◌==◌, bytes_eq, codes, nat_le, if◌then◌else◌, List, [], ◌∷◌, Option, Some, None}
use Rattle.script_text.specs.declared.script.Section.{Section}
use Rattle.script_text.specs.declared.script.Section.TheVariants.{Setup, Client, Finish}
use Rattle.script_text.specs.declared.script.Standing.{Standing}
use Rattle.script_text.specs.Numbers.{decimal_of}

-- a script begins in section setup
abbrev pub at_the_start : Standing
at_the_start = record { begun = false; section = Setup; clients = 0 }

abbrev pub after_command : Standing → Standing
after_command standing = record standing { begun = true }

abbrev pub is_finish : Section → Bool
is_finish Setup = false
is_finish (Client number) = false
is_finish Finish = true

-- `setup` stands before every command and every other heading
abbrev pub after_setup : Standing → List (List ℕ) → Option Standing
after_setup standing [] = if standing.begun then None else Some (record { begun = true; section = Setup; clients = 0 })
after_setup standing (word ∷ words) = None

-- clients are numbered 1, 2, 3 and so on, at most 16, and stand before `finish`
abbrev pub is_next_client : Standing → ℕ → Bool
is_next_client standing number = not (is_finish standing.section) && number == standing.clients + 1 && nat_le number 16

abbrev pub after_number : Standing → Option ℕ → Option Standing
after_number standing None = None
after_number standing (Some number) =
    if is_next_client standing number then Some (record { begun = true; section = Client number; clients = number }) else None

abbrev pub after_client : Standing → List (List ℕ) → Option Standing
after_client standing (number ∷ []) = after_number standing (decimal_of number)
after_client standing words = None

-- `finish` is the last heading
abbrev pub after_finish : Standing → List (List ℕ) → Option Standing
after_finish standing [] = if is_finish standing.section then None else Some (record { begun = true; section = Finish; clients = standing.clients })
after_finish standing (word ∷ words) = None

abbrev pub is_heading : List ℕ → Bool
is_heading first = bytes_eq first (codes "setup") || bytes_eq first (codes "client") || bytes_eq first (codes "finish")

-- where the lines after a heading stand; none where it is wrong or out of its place
abbrev pub after_heading : Standing → List ℕ → List (List ℕ) → Option Standing
after_heading standing first rest =
    if bytes_eq first (codes "setup") then after_setup standing rest
    else if bytes_eq first (codes "client") then after_client standing rest
    else after_finish standing rest

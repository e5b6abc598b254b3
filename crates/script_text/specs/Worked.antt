-- Worked examples of the generator.
use Rattle.std.specs.Prelude.{◌≡◌, ℕ, codes, List, [], ◌∷◌, ◌++◌, map, Ok}
use Rattle.std.specs.List.{flat_map, range_with_len}
use Rattle.hs_types.specs.declared.ids.Side.TheVariants.{Source}
use Rattle.script_text.specs.declared.command.Command.{Command}
use Rattle.script_text.specs.Generator.{number_after, snap, create, append, mv, rm, round, generated}
use Rattle.script_text.specs.Scripts.{meaning_of}

-- the twelve numbers of three rounds
abbrev pub seventh_numbers : List ℕ
seventh_numbers = 599 ∷ 44999 ∷ 32612 ∷ 21105 ∷ 10061 ∷ 33742 ∷ 40318 ∷ 9222 ∷ 36354 ∷ 39607 ∷ 21434 ∷ 34736 ∷ []

-- an even round: 19, 9, 12 and 5 are drawn
abbrev pub second_round : List Command
second_round =
    append (codes "/r/d19/f9") (codes "2")
    ∷ create (codes "/r/d12/k2")
    ∷ mv (codes "/r/d12/k2") (codes "/r/d5/m2")
    ∷ snap Source 2
    ∷ []

-- an odd round: 1, 2, 18 and 2 are drawn
abbrev pub third_round : List Command
third_round =
    append (codes "/r/d1/f2") (codes "3")
    ∷ create (codes "/r/d18/k3")
    ∷ mv (codes "/r/d18/k3") (codes "/r/d2/m3")
    ∷ rm (codes "/r/d5/m2")
    ∷ snap Source 3
    ∷ []

-- seed 7, with 20 directories of 10 files
abbrev pub SeventhRounds : Type 0
SeventhRounds = record {
  numbers : map (number_after 7) (range_with_len 1 12) ≡ seventh_numbers;
  second : round 7 20 10 2 ≡ second_round;
  third : round 7 20 10 3 ≡ third_round;
}

-- one directory, one file and three snapshots
abbrev pub least_lines : List (List ℕ)
least_lines =
    codes "s mkdir /r"
    ∷ codes "s allow /r"
    ∷ codes "s snap /r n0"
    ∷ codes "t mkdir /r"
    ∷ codes "t allow /r"
    ∷ codes "t snap /r n0"
    ∷ codes "s mkdir /r/d0"
    ∷ codes "s create /r/d0/f0"
    ∷ codes "s snap /r n1"
    ∷ codes "sync /r /r n0 n1"
    ∷ codes "t snap /r n1"
    ∷ codes "s append /r/d0/f0 2"
    ∷ codes "s create /r/d0/k2"
    ∷ codes "s mv /r/d0/k2 /r/d0/m2"
    ∷ codes "s snap /r n2"
    ∷ codes "sync /r /r n1 n2"
    ∷ codes "t snap /r n2"
    ∷ []

-- its text means the script that is generated
abbrev pub LeastScript : Type 0
LeastScript = meaning_of (flat_map (λ line. line ++ 10 ∷ []) least_lines) ≡ Ok (generated 7 1 1 3)

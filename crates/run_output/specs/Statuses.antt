-- The exit status of the program.
use Rattle.std.specs.Prelude.{ℕ}
use Rattle.run_output.specs.declared.ran.Status.{Status}
use Rattle.run_output.specs.declared.ran.Status.TheVariants.{Ok, Usage, Script, TooLarge, ReadFault, WriteFault, NoMemory}

-- the number that a shell sees
abbrev pub exit_number : Status → ℕ
exit_number Ok = 0
exit_number Usage = 1
exit_number (Script line kind) = 2
exit_number TooLarge = 3
exit_number ReadFault = 4
exit_number WriteFault = 5
exit_number NoMemory = 6

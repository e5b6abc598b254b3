-- What the plain machine never answers.
use Rattle.std.specs.Prelude.{◌≡◌, ℕ, true, List}
use Rattle.hs_types.specs.declared.call.Call.{Call}
use Rattle.hs_plain.specs.declared.state.State.{State}
use Rattle.hs_plain.specs.Answer.{answer, is_plain_reply}

-- no answer of the plain machine is JournalFull, StoreFault or NoMemory
abbrev pub AnswersAreItsOwn : Type 0
AnswersAreItsOwn = (state : State (List ℕ)) (call : Call) → is_plain_reply (answer state call) ≡ true

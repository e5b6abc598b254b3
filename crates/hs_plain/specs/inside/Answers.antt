-- What the plain machine never answers: of its tests, and of a state that keeps its files in blocks.
use Rattle.std.specs.Prelude.{◌≡◌, ℕ, true, List, Err}
use Rattle.hs_types.specs.declared.call.Call.{Call}
use Rattle.hs_types.specs.declared.refusal.Refusal.{Refusal}
use Rattle.hs_types.specs.declared.reply.Reply.TheVariants as replies
use Rattle.hs_plain.specs.declared.state.State.{State}
use Rattle.hs_plain.specs.declared.state.FileBlocks.{FileBlocks}
use Rattle.hs_plain.specs.Files.{plain_files, block_files}
use Rattle.hs_plain.specs.Answer.{asked, answer_by, is_plain_reply}

-- no refusal that a test gives is a reply that the plain machine never gives
abbrev pub RefusalsAreItsOwn : Type 0
RefusalsAreItsOwn = (state : State (List ℕ)) (call : Call) (why : Refusal) → asked plain_files state call ≡ Err why → is_plain_reply (replies.Refused why) ≡ true

-- the same of a state that keeps its files in blocks
abbrev pub WholeAnswersAreItsOwn : Type 0
WholeAnswersAreItsOwn = (state : State FileBlocks) (call : Call) → is_plain_reply (answer_by block_files state call) ≡ true

abbrev pub WholeRefusalsAreItsOwn : Type 0
WholeRefusalsAreItsOwn = (state : State FileBlocks) (call : Call) (why : Refusal) → asked block_files state call ≡ Err why → is_plain_reply (replies.Refused why) ≡ true

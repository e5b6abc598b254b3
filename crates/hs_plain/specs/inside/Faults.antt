-- What a call isn't answered with.
use Rattle.std.specs.Prelude.{◌≡◌, Bool, true, false, Result, Ok, Err}
use Rattle.hs_types.specs.declared.reply.Reply.{Reply}
use Rattle.hs_types.specs.declared.reply.Reply.TheVariants as replies
use Rattle.hs_plain.specs.declared.resolve.AskFault.{AskFault}
use Rattle.hs_plain.specs.declared.resolve.AskFault.TheVariants.{Refused, NoMemory}
use Rattle.hs_plain.specs.Asked.{Asked}

-- a refusal is the one that is answered, or memory ran out
abbrev pub IsFaultOf : {X : Type 0} → Asked X → AskFault → Type 0
IsFaultOf asked (Refused why) = asked ≡ Err why
IsFaultOf asked NoMemory = Unit {0}

-- whether a call was answered, by a refusal too
abbrev pub is_answered : Result Reply AskFault → Bool
is_answered (Ok reply) = true
is_answered (Err (Refused why)) = true
is_answered (Err NoMemory) = false

-- the reply that carries a result
abbrev pub told_reply : Result Reply AskFault → Reply
told_reply (Ok reply) = reply
told_reply (Err (Refused why)) = replies.Refused why
told_reply (Err NoMemory) = replies.NoMemory

-- One call of a sync, at the source or at the target: its entry, and how it may end the work.
use Rattle.std.specs.Prelude.{◌≡◌, true, false, if◌then◌else◌, Option, Some, None, List, ◌++◌, Result, Ok, Err}
use Rattle.std.specs.Option.{option_to_list}
use Rattle.hs_types.specs.declared.ids.CallerId.{CallerId}
use Rattle.hs_types.specs.declared.ids.Side.{Side}
use Rattle.hs_types.specs.declared.ids.Side.TheVariants.{Target}
use Rattle.hs_types.specs.declared.call.Call.{Call}
use Rattle.hs_types.specs.declared.reply.Answered.{Answered}
use Rattle.hs_types.specs.declared.reply.Reply.TheVariants.{NoMemory}
use Rattle.hs_plain.specs.Answer.{is_ok_reply}
use Rattle.hs_plain.specs.Legal.{Said, leaves_entry}
use Rattle.page_join.specs.Links.{Known, IsCall, said_by}
use Rattle.copy_workers.specs.declared.copied.Made.{Made}
use Rattle.copy_workers.specs.declared.copied.Look.{Look}

-- the entry that a call left, as it is named, if it left one
abbrev pub made_by : CallerId → Said → Option Made
made_by caller said = if leaves_entry said.call said.told.reply then Some (record { caller = caller; seq = said.seq; position = said.told.position }) else None

abbrev pub unless_back : Made → Option Call → Option Made
unless_back made None = Some made
unless_back made (Some call) = None

-- a call is handed back exactly where it left no entry
abbrev pub named_by : Known → Answered → Option Made
named_by link told = unless_back (record { caller = link.caller; seq = link.calls; position = told.position }) told.back

-- a reply that is kept, with its side and its caller
abbrev pub look_at : Side → CallerId → Answered → Look
look_at side caller told = record { side = side; caller = caller; reply = told }

-- stands for a call that wasn't made for want of memory
abbrev pub wanting_of : Side → CallerId → Look
wanting_of side caller = look_at side caller (record { reply = NoMemory; position = 0; back = None })

-- a call was made, and the entry that it may have left is named
pub record IsWrite (old new : Known) (call : Call) (before after : List Made) (told : Answered) : Type 0 where
  pub called : IsCall old new call told
  pub named : after ≡ before ++ option_to_list (made_by old.caller (said_by new call told))

-- the work ends at a call: its reply isn't an Ok reply, or memory ran out before it
pub data EndsAt (side : Side) (old new : Known) (call : Call) (look : Look) : Type 0 where
  by_reply : look ≡ look_at side old.caller look.reply → is_ok_reply look.reply.reply ≡ false → IsCall old new call look.reply → EndsAt side old new call look
  by_memory : look ≡ wanting_of side old.caller → new ≡ old → EndsAt side old new call look

-- a call at the target was done, or the work ends at it; the entry that it may have left is named
abbrev pub IsChange : Known → Known → Call → List Made → List Made → Result (Unit {0}) Look → Type 0
IsChange old new call before after (Ok done) = (told : Answered) × (is_ok_reply told.reply ≡ true) × IsWrite old new call before after told
IsChange old new call before after (Err look) = EndsAt Target old new call look × (after ≡ before ++ option_to_list (made_by old.caller (said_by new call look.reply)))

-- One page of a copy. For proofs and private contracts alone.
use Rattle.std.specs.Prelude.{◌≡◌, ◌⊎◌, ℕ, ◌<◌, true, List, [], ◌∷◌, map, Option, Some, None, Result, Ok, Err, IfSome}
use Rattle.std.specs.List.{filter_map, AllByRecursion}
use Rattle.hs_types.specs.declared.ids.Side.TheVariants.{Source}
use Rattle.hs_types.specs.declared.call.Call.TheVariants as calls
use Rattle.hs_types.specs.declared.call.Place.{Place}
use Rattle.hs_types.specs.declared.call.ReadCursor.{ReadCursor}
use Rattle.hs_types.specs.declared.reply.Answered.{Answered}
use Rattle.hs_plain.specs.Answer.{is_ok_reply}
use Rattle.hs_plain.specs.Legal.{Said}
use Rattle.hs_plain.specs.Joined.{bytes_shown, read_cursor, is_bytes}
use Rattle.page_join.specs.Links.{Known, IsCall}
use Rattle.copy_workers.specs.declared.copied.Made.{Made}
use Rattle.copy_workers.specs.declared.copied.Look.{Look}
use Rattle.copy_workers.specs.declared.copying.Page.{Page}
use Rattle.page_join.specs.Made.{AreMade}
use Rattle.copy_workers.specs.Calls.{made_by, EndsAt, IsChange}
use Rattle.copy_workers.specs.Copying.{ReadOn, wanted, beginning}

-- what ended a work, if something did
abbrev pub ended_by : Result (Unit {0}) Look → Option Look
ended_by (Ok done) = None
ended_by (Err look) = Some look

-- a page that was read at a cursor
pub record IsPage (old new : Known) (cursor : ReadCursor) (told : Answered) : Type 0 where
  pub called : IsCall old new (calls.ReadNext cursor 65536) told
  pub bytes : is_bytes told.reply ≡ true

-- a page, or the reply that ended the copy; the next page begins further on
abbrev pub IsPageRead : Known → Known → ReadCursor → Result Page Look → Type 0
IsPageRead old new cursor (Ok page) = (told : Answered) × IsPage old new cursor told × (page.bytes ≡ bytes_shown told.reply) × (page.next ≡ read_cursor told.reply) × IfSome page.next (λ at. cursor.offset < at.offset)
IsPageRead old new cursor (Err look) = EndsAt Source old new (calls.ReadNext cursor 65536) look

-- bytes are appended; of none there is nothing to do
abbrev pub IsAppended : Known → Known → List ℕ → List ℕ → List Made → List Made → Result (Unit {0}) Look → Type 0
IsAppended old new path [] before after result = (result ≡ Ok tt) × (new ≡ old) × (after ≡ before)
IsAppended old new path (byte ∷ bytes) before after result = IsChange old new (calls.Append path (byte ∷ bytes)) before after result

-- a page is read and appended, or one of both ended the copy
abbrev pub IsPageCopied : List ℕ → ReadCursor → Known → Known → Known → Known → List Made → List Made → Result (Option ReadCursor) Look → Type 0
IsPageCopied path cursor source source_then target target_then before after (Ok next) =
    (told : Answered) × IsPage source source_then cursor told × (next ≡ read_cursor told.reply) × IfSome next (λ at. cursor.offset < at.offset) × IsAppended target target_then path (bytes_shown told.reply) before after (Ok tt)
IsPageCopied path cursor source source_then target target_then before after (Err look) =
    (EndsAt Source source source_then (calls.ReadNext cursor 65536) look × (target_then ≡ target) × (after ≡ before)) ⊎
    ((told : Answered) × IsPage source source_then cursor told × IsAppended target target_then path (bytes_shown told.reply) before after (Err look))

-- a copy that went well so far, with nothing left that its pages want; the next page is read at the cursor
pub record IsUpTo (path : List ℕ) (place : Place) (source now target new : Known) (made : List Made) (cursor : Option ReadCursor) : Type 0 where
  pub reads : List Said
  pub writes : List Said
  pub read : AreMade source now reads
  pub written : AreMade target new writes
  pub pages : ReadOn (Some (beginning place)) reads cursor
  pub well : AllByRecursion (λ said. is_ok_reply said.told.reply ≡ true) writes
  pub calls_are : map (λ said. said.call) writes ≡ wanted path reads
  pub named : made ≡ filter_map (made_by target.caller) writes

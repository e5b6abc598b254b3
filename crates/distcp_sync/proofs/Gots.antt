-- What was got through one link: a content, or the reply that ends a sync.
use Rattle.std.proofs.Common.{◌≡◌, ℕ, ◌≤◌, false, Result, Ok, Err, List, [], ◌∷◌, ◌++◌, length, take, refl, ap, sym, ◌∙◌, subst, append-nil, arith}
use Rattle.std.specs.List.{AllByRecursion}
use Rattle.std.specs.Prelude.{IsErrAnd}
use Rattle.std.proofs.lemmas.List.{take-append-le}
use mathlib.Core.List.{IsPrefix}
use Rattle.hs_types.specs.declared.ids.CallerId.{CallerId}
use Rattle.hs_types.specs.declared.ids.Side.{Side}
use Rattle.hs_types.specs.declared.memory.NoMemory.{NoMemory}
use Rattle.hs_types.specs.declared.call.Call.{Call}
use Rattle.hs_types.specs.declared.call.Place.{Place}
use Rattle.hs_types.specs.declared.call.ReportCursor.{ReportCursor}
use Rattle.hs_types.specs.declared.journal.Entry.{Entry}
use Rattle.hs_types.specs.declared.reply.Answered.{Answered}
use Rattle.hs_types.specs.declared.reply.Item.{Item}
use Rattle.hs_types.specs.declared.reply.Line.{Line}
use Rattle.hs_plain.specs.Legal.{Said, leaves_entry}
use Rattle.hs_plain.specs.Reading.{is_deleted, lines_between}
use Rattle.hs_plain.specs.Replay.{plain_after}
use Rattle.hs_plain.specs.State.{items_at}
use Rattle.page_join.specs.Links.{Known}
use Rattle.page_join.proofs.Chains.{made_then, prefix_trans}
use Rattle.copy_workers.specs.declared.copied.Look.{Look}
use Rattle.copy_workers.specs.Calls.{look_at}
use Rattle.distcp_sync.specs.declared.answer.SyncAnswer.{SyncAnswer}
use Rattle.distcp_sync.specs.declared.answer.SyncAnswer.TheVariants as answers
use Rattle.distcp_sync.specs.declared.contents.Content.{Content}
use Rattle.distcp_sync.specs.declared.contents.Content.TheVariants.{Whole, Ended}
use Rattle.distcp_sync.specs.Told.{answer_at, OrNoMemory}
use Rattle.distcp_sync.specs.inside.Trace.{HasRead}
use Rattle.distcp_sync.specs.inside.Fetching.{WasListed, WasReported, IsRead, IsGot, IsGotWith}
use Rattle.distcp_sync.proofs.Heard.{Goes, made_goes, front_length}

-- ---- reads

abbrev IsUnentered : Said → Type 0
IsUnentered said = leaves_entry said.call said.told.reply ≡ false

all_then : (calls more : List Said) → AllByRecursion IsUnentered calls → AllByRecursion IsUnentered more → AllByRecursion IsUnentered (calls ++ more)
all_then [] more before after = after
all_then (said ∷ calls) more before after = (before.0, all_then calls more before.1 after)

-- reads, and then further reads
pub read_then : (old now new : Known) → HasRead old now → HasRead now new → HasRead old new
read_then old now new before after = record {
  calls = before.calls ++ after.calls;
  read = record {
    made = made_then old now new before.calls after.calls before.read.made after.read.made;
    unentered = all_then before.calls after.calls before.read.unentered after.read.unentered;
  };
}

pub read_goes : (old new : Known) → HasRead old new → Goes old new
read_goes old new read = made_goes old new read.calls read.read.made

-- ---- what a history had, in one that goes on

same_front : (at : ℕ) (seen later : List Entry) → at ≤ length seen → IsPrefix seen later → take at later ≡ take at seen
same_front at seen later within grown = ap (take at) (sym grown.1) ∙ take-append-le at seen grown.0 within

pub listed_grows : (from low : ℕ) (seen later : List Entry) (place : Place) (items : List Item) → low ≤ from → IsPrefix seen later → WasListed from seen place items → WasListed low later place items
listed_grows from low seen later place items le grown was = record {
  at = was.at;
  behind = omega (arith, le, was.behind);
  within = omega (arith, was.within, front_length seen later grown);
  listed = ap (λ (entries : List Entry). items_at (plain_after entries) place) (same_front was.at seen later was.within grown) ∙ was.listed;
}

pub reported_grows : (from low : ℕ) (seen later : List Entry) (cursor : ReportCursor) (lines : List Line) → low ≤ from → IsPrefix seen later → WasReported from seen cursor lines → WasReported low later cursor lines
reported_grows from low seen later cursor lines le grown was =
    let same : take was.at later ≡ take was.at seen = same_front was.at seen later was.within grown in
    record {
      at = was.at;
      behind = omega (arith, le, was.behind);
      within = omega (arith, was.within, front_length seen later grown);
      from_there = ap (λ (entries : List Entry). is_deleted (plain_after entries) cursor.from) same ∙ was.from_there;
      to_there = ap (λ (entries : List Entry). is_deleted (plain_after entries) cursor.to) same ∙ was.to_there;
      lines_are = was.lines_are ∙ ap (λ (entries : List Entry). lines_between (plain_after entries) cursor.root cursor.from cursor.to) (sym same);
    }

-- ---- from what was read

module _ {T : Type 0} (side : Side) (IsAsked : Call → Type 0) (IsContent : List T → Type 0) (old new : Known) (before : List Look) where
  -- what is got by it
  abbrev pub GotBy : Result (Content T) NoMemory → Type 0
  GotBy (Ok (Whole content)) = IsGotWith side IsAsked IsContent old new before before (Ok content)
  GotBy (Ok (Ended told)) = (after : List Look) (answer : SyncAnswer) → after ≡ before ++ look_at side old.caller told ∷ [] → OrNoMemory (answer_at (look_at side old.caller told)) answer → IsGotWith side IsAsked IsContent old new before after (Err answer)
  GotBy (Err none) = IsGotWith side IsAsked IsContent old new before before (Err answers.NoMemory)

  pub got_by : (result : Result (Content T) NoMemory) → IsRead IsAsked IsContent old new result → GotBy result
  got_by result (IsRead.whole content read is) = record { later = []; looks = sym (append-nil before); got = IsGot.whole content read is }
  got_by result (IsRead.wanting none read) = record { later = []; looks = sym (append-nil before); got = IsGot.wanting read }
  got_by result (IsRead.ended call told now read asks called bad) = λ after answer kept is. record {
    later = look_at side old.caller told ∷ [];
    looks = kept;
    got =
        IsGot.ended call (look_at side old.caller told) now answer read asks
        (record { looked = record { look_is = ap (λ (caller : CallerId). look_at side caller told) (sym (read_goes old now read).caller); called = called }; bad = bad })
        is;
  }

  pub got_whole : (result : Result (Content T) NoMemory) (held : Content T) (content : List T) → result ≡ Ok held → held ≡ Whole content → IsRead IsAsked IsContent old new result → IsGotWith side IsAsked IsContent old new before before (Ok content)
  got_whole result held content is held_is read = subst GotBy (is ∙ ap (λ (c : Content T). Ok c) held_is) (got_by result read)

  pub got_wanting : (result : Result (Content T) NoMemory) (none : NoMemory) → result ≡ Err none → IsRead IsAsked IsContent old new result → IsGotWith side IsAsked IsContent old new before before (Err answers.NoMemory)
  got_wanting result none is read = subst GotBy is (got_by result read)

  pub got_ended : (result : Result (Content T) NoMemory) (held : Content T) (told : Answered) (caller : CallerId) (after : List Look) (answer : SyncAnswer) → result ≡ Ok held → held ≡ Ended told → caller ≡ old.caller → after ≡ before ++ look_at side caller told ∷ [] →
      OrNoMemory (answer_at (look_at side caller told)) answer → IsRead IsAsked IsContent old new result → IsGotWith side IsAsked IsContent old new before after (Err answer)
  got_ended result held told caller after answer is held_is mine kept so read =
      subst GotBy (is ∙ ap (λ (c : Content T). Ok c) held_is) (got_by result read) after answer
      (kept ∙ ap (λ (k : CallerId). before ++ look_at side k told ∷ []) mine)
      (subst (λ (k : CallerId). OrNoMemory (answer_at (look_at side k told)) answer) mine so)

-- ---- from what was got

-- a content that was got
pub record HasGot {T : Type 0} (IsContent : T → Type 0) (old new : Known) (before after : List Look) (content : T) : Type 0 where
  pub same : after ≡ before
  pub read : HasRead old new
  pub is : IsContent content

module _ {T : Type 0} (side : Side) (IsAsked : Call → Type 0) (IsContent : T → Type 0) (old new : Known) (before after : List Look) where
  abbrev GotOk : List Look → Result T SyncAnswer → Type 0
  GotOk later (Ok content) = (later ≡ []) × HasRead old new × IsContent content
  GotOk later (Err answer) = Unit {0}

  got_ok : (later : List Look) (result : Result T SyncAnswer) → IsGot side IsAsked IsContent old new later result → GotOk later result
  got_ok later result (IsGot.whole content read is) = (refl, read, is)
  got_ok later result (IsGot.wanting read) = tt
  got_ok later result (IsGot.ended call look now answer read asks looked is) = tt

  pub has_got : (content : T) → IsGotWith side IsAsked IsContent old new before after (Ok content) → HasGot IsContent old new before after content
  has_got content with =
      let ok : (with.later ≡ []) × HasRead old new × IsContent content = got_ok with.later (Ok content) with.got in
      record { same = with.looks ∙ ap (λ (l : List Look). before ++ l) ok.0 ∙ append-nil before; read = ok.1; is = ok.2 }

  -- reads in front of what was got, which may be of calls of another kind
  abbrev GotErr : {U : Type 0} → Known → (Call → Type 0) → (U → Type 0) → List Look → Result T SyncAnswer → Type 0
  GotErr first IsOther IsThen later (Ok content) = Unit {0}
  GotErr first IsOther IsThen later (Err answer) = IsGot side IsOther IsThen first new later (Err answer)

  module _ {U : Type 0} (first : Known) (IsOther : Call → Type 0) (IsThen : U → Type 0) (read : HasRead first old) (turn : (call : Call) → IsAsked call → IsOther call) where
    got_err : (later : List Look) (result : Result T SyncAnswer) → IsGot side IsAsked IsContent old new later result → GotErr first IsOther IsThen later result
    got_err later result (IsGot.whole content more is) = tt
    got_err later result (IsGot.wanting more) = IsGot.wanting (read_then first old new read more)
    got_err later result (IsGot.ended call look now answer more asks looked is) = IsGot.ended call look now answer (read_then first old now read more) (turn call asks) looked is

    pub got_behind : (answer : SyncAnswer) → IsGotWith side IsAsked IsContent old new before after (Err answer) → IsGotWith side IsOther IsThen first new before after (Err answer)
    got_behind answer with = record { later = with.later; looks = with.looks; got = got_err with.later (Err answer) with.got }

  -- what was seen before is the front of what is seen then
  pub got_grows : (later : List Look) (result : Result T SyncAnswer) → IsGot side IsAsked IsContent old new later result → IsPrefix old.seen new.seen
  got_grows later result (IsGot.whole content read is) = (read_goes old new read).grown
  got_grows later result (IsGot.wanting read) = (read_goes old new read).grown
  got_grows later result (IsGot.ended call look now answer read asks looked is) = prefix_trans old.seen now.seen new.seen (read_goes old now read).grown looked.looked.called.grown

module _ {U : Type 0} (side : Side) (IsAsked : Call → Type 0) (IsContent : U → Type 0) (old new : Known) (before after : List Look) (same : after ≡ before) (read : HasRead old new) where
  -- a content that is made of what was read
  pub got_so : (content : U) → IsContent content → IsGotWith side IsAsked IsContent old new before after (Ok content)
  got_so content is = record { later = []; looks = same ∙ sym (append-nil before); got = IsGot.whole content read is }

  -- want of memory behind reads
  pub got_want : IsGotWith side IsAsked IsContent old new before after (Err answers.NoMemory)
  got_want = record { later = []; looks = same ∙ sym (append-nil before); got = IsGot.wanting read }

-- an error that is handed on
pub err_so : {U : Type 0} (result : Result U SyncAnswer) (answer : SyncAnswer) (P : Result U SyncAnswer → Type 0) → IsErrAnd result (λ given. given ≡ answer) → P (Err answer) → P result
err_so (Ok content) answer P gives p = absurd gives
err_so (Err given) answer P gives p = subst (λ (a : SyncAnswer). P (Err a)) (sym gives) p

-- the looks before are the first ones
pub got_first : {U : Type 0} (side : Side) (IsAsked : Call → Type 0) (IsContent : U → Type 0) (old new : Known) (first before after : List Look) (result : Result U SyncAnswer) → before ≡ first →
    IsGotWith side IsAsked IsContent old new before after result → IsGotWith side IsAsked IsContent old new first after result
got_first side IsAsked IsContent old new first before after result same with = record { later = with.later; looks = with.looks ∙ ap (λ (l : List Look). l ++ with.later) same; got = with.got }

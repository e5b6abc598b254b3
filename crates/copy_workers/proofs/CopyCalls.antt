-- The calls of one copy, as calls of its two links.
use Rattle.std.proofs.Common.{◌≡◌, ℕ, ◌+◌, nat_le, Bool, true, false, ◌&&◌, if◌then◌else◌, Option, Some, None, Ok, Err, List, [], ◌∷◌, ◌++◌, length, take, refl, ap, sym, ◌∙◌, subst, append-nil, append_assoc}
use Rattle.std.specs.Prelude.{IfSome}
use Rattle.std.specs.Option.{option_to_list}
use Rattle.std.specs.List.{AllByRecursion}
use Rattle.std.proofs.lemmas.List.{map-append}
use Rattle.hs_types.specs.declared.ids.CallerId.{CallerId}
use Rattle.hs_types.specs.declared.ids.Side.TheVariants.{Source, Target}
use Rattle.hs_types.specs.declared.call.Call.{Call}
use Rattle.hs_types.specs.declared.call.Call.TheVariants as calls
use Rattle.hs_types.specs.declared.call.Place.{Place}
use Rattle.hs_types.specs.declared.call.Place.TheVariants as places
use Rattle.hs_types.specs.declared.call.ReadCursor.{ReadCursor}
use Rattle.hs_types.specs.declared.reply.Answered.{Answered}
use Rattle.hs_types.specs.declared.reply.Reply.{Reply}
use Rattle.hs_types.specs.declared.reply.Reply.TheVariants as replies
use Rattle.hs_plain.specs.declared.state.State.{State}
use Rattle.hs_plain.specs.Asked.{Asked, ◌>>=◌, refuse_if}
use Rattle.hs_plain.specs.Files.{plain_files}
use Rattle.hs_plain.specs.Reading.{is_gone, file_at, page_at}
use Rattle.hs_types.specs.declared.refusal.Refusal.TheVariants.{Gone}
use Rattle.hs_plain.specs.Answer.{answer, reply_to, is_modifying, is_ok_reply}
use Rattle.hs_plain.specs.Joined.{bytes_shown, read_cursor, is_bytes}
use Rattle.hs_plain.specs.Legal.{Said}
use Rattle.hs_plain.specs.Plan.{text_below}
use Rattle.hs_plain.specs.Replay.{plain_after}
use Rattle.hs_plain.proofs.Paged.{observed}
use Rattle.page_join.specs.Links.{Known, IsCall, said_by}
use Rattle.page_join.specs.Made.{AreMade}
use Rattle.page_join.proofs.Chains.{made_more}
use Rattle.copy_workers.specs.declared.copied.Made.{Made}
use Rattle.copy_workers.specs.declared.copied.Look.{Look}
use Rattle.copy_workers.specs.Calls.{made_by, look_at, wanting_of, EndsAt, by_reply, by_memory}
use Rattle.copy_workers.specs.Copying.{Step, ReadOn, wanted, next_step, beginning, IsCopying, EndsAtStep, IsCopyTo}
use Rattle.copy_workers.specs.CopyLaws.{IsDone, AllButLast, ReadsAt, ReadFrom, calls_of, by_read, by_write, at_source, at_target, AreEnded, AreCallsOf, CallsOfCopy}
use Rattle.copy_workers.proofs.Calling.{made_caller, and_false, none_named}
use Rattle.copy_workers.proofs.Replies.{cursor-blank, bytes_plain}
use Rattle.copy_workers.proofs.Paging.{all_snoc, wants_append, named_more}

-- ---- the place of the next page

abbrev GoesTo : Place → Option ReadCursor → Type 0
GoesTo place next = IfSome next (λ at. at.place ≡ place)

abbrev with_place : Place → List ℕ → Asked (Place × List ℕ)
with_place place file = Ok (place, file)

-- what a call for a page is answered, where this is what its tests give
abbrev page_told : Place → ℕ → ℕ → Asked (Unit {0}) → Asked (List ℕ) → Reply
page_told place offset len live file = reply_to ((live >>= λ l. file >>= with_place place) >>= λ at. Ok (page_at plain_files offset len at))

goes_on : (place : Place) (offset : ℕ) (ended : Bool) → GoesTo place (if ended then None else Some (record { place = place; offset = offset }))
goes_on place offset true = tt
goes_on place offset false = refl

goes_to : (place : Place) (offset len : ℕ) (live : Asked (Unit {0})) (file : Asked (List ℕ)) → GoesTo place (read_cursor (page_told place offset len live file))
goes_to place offset len (Ok l) (Ok bytes) = goes_on place (offset + len) (nat_le (length bytes) (offset + len))
goes_to place offset len (Ok l) (Err why) = tt
goes_to place offset len (Err why) file = tt

-- the next page is of what stands at the same place
next_place : (cursor : ReadCursor) (old new : Known) (told : Answered) → IsCall old new (calls.ReadNext cursor 65536) told → is_bytes told.reply ≡ true → GoesTo cursor.place (read_cursor told.reply)
next_place cursor old new told called is =
    let state : State (List ℕ) = plain_after (take told.position new.seen) in
    subst (GoesTo cursor.place) (sym (observed read_cursor cursor-blank old.tells told.reply (answer state (calls.ReadNext cursor 65536)) (called.legal.answered (bytes_plain told.reply is))))
    (goes_to cursor.place cursor.offset 65536 (refuse_if (is_gone state cursor.place) Gone) (file_at state cursor.place))

-- ---- the reads

bytes_done : (reply : Reply) → is_bytes reply ≡ true → is_ok_reply reply ≡ true
bytes_done (replies.Bytes bytes next) e = refl
bytes_done reply e = absurd (cc)

undone_shows : (reply : Reply) → is_ok_reply reply ≡ false → bytes_shown reply ≡ []
undone_shows (replies.Refused why) e = refl
undone_shows replies.NoMemory e = refl
undone_shows reply e = absurd (cc)

pages_done : (cursor next : Option ReadCursor) (reads : List Said) → ReadOn cursor reads next → AllByRecursion IsDone reads
pages_done cursor next [] pages = tt
pages_done cursor next (said ∷ more) pages = (bytes_done said.told.reply pages.3, pages_done (read_cursor said.told.reply) next more pages.4)

pages_from : (cursor next : Option ReadCursor) (reads : List Said) → ReadOn cursor reads next → ReadFrom cursor reads
pages_from cursor next [] pages = tt
pages_from cursor next (said ∷ more) pages = (pages.0, pages.1, pages.2, pages_from (read_cursor said.told.reply) next more pages.4)

from_snoc : (cursor : Option ReadCursor) (at : ReadCursor) (reads : List Said) (last : Said) → ReadOn cursor reads (Some at) → last.call ≡ calls.ReadNext at 65536 → ReadFrom cursor (reads ++ last ∷ [])
from_snoc cursor at [] last pages call = (at, pages, call, tt)
from_snoc cursor at (said ∷ reads) last pages call = (pages.0, pages.1, pages.2, from_snoc (read_cursor said.told.reply) at reads last pages.4 call)

-- all reads are at one place, and so is the cursor behind them
record AreAt (place : Place) (reads : List Said) (next : Option ReadCursor) : Type 0 where
  all : AllByRecursion (ReadsAt place) reads
  behind : GoesTo place next

reads_at : (place : Place) (cursor next : Option ReadCursor) (source now : Known) (reads : List Said) → GoesTo place cursor → AreMade source now reads → ReadOn cursor reads next → AreAt place reads next
reads_at place cursor next source now [] goes made pages = record { all = tt; behind = subst (GoesTo place) pages goes }
reads_at place cursor next source now (said ∷ more) goes made pages =
    let here : pages.0.place ≡ place = subst (GoesTo place) pages.1 goes in
    let called : IsCall source made.0 (calls.ReadNext pages.0 65536) said.told = subst (λ (c : Call). IsCall source made.0 c said.told) pages.2 made.1 in
    let further : GoesTo place (read_cursor said.told.reply) = subst (λ (p : Place). GoesTo p (read_cursor said.told.reply)) here (next_place pages.0 source made.0 said.told called pages.3) in
    let rest : AreAt place more next = reads_at place (read_cursor said.told.reply) next made.0 now more further made.3 pages.4 in
    record { all = ((pages.0, pages.2, here), rest.all); behind = rest.behind }

-- ---- the writes

all_but_last : (P : Said → Type 0) (list : List Said) → AllByRecursion P list → AllButLast P list
all_but_last P [] all = tt
all_but_last P (only ∷ []) all = tt
all_but_last P (first ∷ second ∷ more) all = (all.0, all_but_last P (second ∷ more) all.1)

but_last_snoc : (P : Said → Type 0) (list : List Said) (last : Said) → AllByRecursion P list → AllButLast P (list ++ last ∷ [])
but_last_snoc P [] last all = tt
but_last_snoc P (only ∷ []) last all = (all.0, tt)
but_last_snoc P (first ∷ second ∷ more) last all = (all.0, but_last_snoc P (second ∷ more) last all.1)

-- ---- what comes next

some_step : (a b : Step) → Some a ≡ Some b → a ≡ b
some_step a b e = cc

record AreThrough (left : List Call) (cursor : Option ReadCursor) : Type 0 where
  none_left : left ≡ []
  no_page : cursor ≡ None

through : (left : List Call) (cursor : Option ReadCursor) → None ≡ next_step left cursor → AreThrough left cursor
through [] None e = record { none_left = refl; no_page = refl }
through [] (Some at) e = absurd (cc)
through (call ∷ more) cursor e = absurd (cc)

-- ---- the calls

abbrev AreSome : List ℕ → Place → Known → Known → Known → Known → List Made → Option Look → Type 0
AreSome path place source source_then target target_then made ended = (reads : List Said) × (writes : List Said) × AreCallsOf path place source source_then target target_then made ended reads writes

module _ (path : List ℕ) (place : Place) (source now target new : Known) (before : List Made) (next : Option Step) (copying : IsCopying path place source now target new before next) where
  at_place : AreAt place copying.reads copying.cursor
  at_place = reads_at place (Some (beginning place)) copying.cursor source now copying.reads refl copying.read copying.pages

  reads_done : AllByRecursion IsDone copying.reads
  reads_done = pages_done (Some (beginning place)) copying.cursor copying.reads copying.pages

  -- no further call was made
  so_far : (ended : Option Look) → AreEnded source.caller target.caller path place copying.reads copying.writes ended → AreCallsOf path place source now target new before ended copying.reads copying.writes
  so_far ended end = record {
    read = copying.read;
    written = copying.written;
    named = copying.named;
    asked = at_place.all;
    pages = pages_from (Some (beginning place)) copying.cursor copying.reads copying.pages;
    wants = record { rest = copying.left; all = copying.calls_are };
    done = all_but_last IsDone copying.writes copying.well;
    end = end;
  }

  wanting_source : (look : Look) → look ≡ wanting_of Source now.caller → AreSome path place source now target new before (Some look)
  wanting_source look is = (copying.reads, copying.writes, so_far (Some look) (at_source (is ∙ ap (wanting_of Source) (made_caller source now copying.reads copying.read)) reads_done copying.well))

  wanting_target : (look : Look) → look ≡ wanting_of Target new.caller → AreSome path place source now target new before (Some look)
  wanting_target look is = (copying.reads, copying.writes, so_far (Some look) (at_target (is ∙ ap (wanting_of Target) (made_caller target new copying.writes copying.written)) reads_done copying.well))

  -- one read more, which wasn't done
  read_last : (at : ReadCursor) (later : Known) (look : Look) → copying.cursor ≡ Some at → look ≡ look_at Source now.caller look.reply → is_ok_reply look.reply.reply ≡ false → IsCall now later (calls.ReadNext at 65536) look.reply →
      AreSome path place source later target new before (Some look)
  read_last at later look cursor is undone called =
      let last : Said = said_by later (calls.ReadNext at 65536) look.reply in (
        copying.reads ++ last ∷ [],
        copying.writes,
        record {
          read = made_more source now later copying.reads last copying.read called refl;
          written = copying.written;
          named = copying.named;
          asked = all_snoc (ReadsAt place) copying.reads last at_place.all (at, refl, subst (GoesTo place) cursor at_place.behind);
          pages = from_snoc (Some (beginning place)) at copying.reads last (subst (ReadOn (Some (beginning place)) copying.reads) cursor copying.pages) refl;
          wants = record { rest = copying.left; all = copying.calls_are ∙ sym (wants_append path copying.reads last [] (undone_shows look.reply.reply undone) ∙ append-nil (wanted path copying.reads)) };
          done = all_but_last IsDone copying.writes copying.well;
          end = by_read (record {
            before = copying.reads;
            last = last;
            all = refl;
            done = reads_done;
            undone = undone;
            look_is = is ∙ ap (λ (caller : CallerId). look_at Source caller look.reply) (made_caller source now copying.reads copying.read);
          }) copying.well;
        },
      )

  -- one write more, which wasn't done
  write_last : (call : Call) (more : List Call) (later : Known) (after : List Made) (look : Look) → copying.left ≡ call ∷ more → look ≡ look_at Target new.caller look.reply → is_ok_reply look.reply.reply ≡ false → IsCall new later call look.reply →
      after ≡ before ++ option_to_list (made_by new.caller (said_by later call look.reply)) → AreSome path place source now target later after (Some look)
  write_last call more later after look left is undone called named =
      let last : Said = said_by later call look.reply in (
        copying.reads,
        copying.writes ++ last ∷ [],
        record {
          read = copying.read;
          written = made_more target new later copying.writes last copying.written called refl;
          named = named_more target new later call before after look.reply copying.writes copying.written copying.named (record { called = called; named = named });
          asked = at_place.all;
          pages = pages_from (Some (beginning place)) copying.cursor copying.reads copying.pages;
          wants = record {
            rest = more;
            all =
                ap (λ (l : List Call). l ++ more) (map-append (λ (said : Said). said.call) copying.writes (last ∷ []))
                ∙ append_assoc (calls_of copying.writes) (call ∷ []) more
                ∙ ap (λ (l : List Call). calls_of copying.writes ++ l) (sym left)
                ∙ copying.calls_are;
          };
          done = but_last_snoc IsDone copying.writes last copying.well;
          end = by_write (record {
            before = copying.writes;
            last = last;
            all = refl;
            done = copying.well;
            undone = undone;
            look_is = is ∙ ap (λ (caller : CallerId). look_at Target caller look.reply) (made_caller target new copying.writes copying.written);
          }) reads_done;
        },
      )

  -- a copy that is whole
  whole_calls : next ≡ None → AreSome path place source now target new before None
  whole_calls none =
      let done : AreThrough copying.left copying.cursor = through copying.left copying.cursor (sym none ∙ copying.next_is) in (
        copying.reads,
        copying.writes,
        so_far None (record {
          reads_done = reads_done;
          writes_done = copying.well;
          pages = subst (ReadOn (Some (beginning place)) copying.reads) done.no_page copying.pages;
          written = sym (append-nil (calls_of copying.writes)) ∙ ap (λ (l : List Call). calls_of copying.writes ++ l) (sym done.none_left) ∙ copying.calls_are;
        }),
      )

  -- want of memory leaves no entry
  none_left_by : (call : Call) (caller : CallerId) (later : Known) (look : Look) → look ≡ wanting_of Target caller → option_to_list (made_by new.caller (said_by later call look.reply)) ≡ []
  none_left_by call caller later look is =
      ap (λ (l : Look). option_to_list (made_by new.caller (said_by later call l.reply))) is
      ∙ none_named (is_modifying call && false) (and_false (is_modifying call)) (record { caller = new.caller; seq = later.calls; position = 0 })

  ends_reading : (at : ReadCursor) (later : Known) (look : Look) → copying.cursor ≡ Some at → EndsAt Source now later (calls.ReadNext at 65536) look → AreSome path place source later target new before (Some look)
  ends_reading at later look cursor (by_reply is undone called) = read_last at later look cursor is undone called
  ends_reading at later look cursor (by_memory is same) = subst (λ (k : Known). AreSome path place source k target new before (Some look)) (sym same) (wanting_source look is)

  ends_writing : (call : Call) (more : List Call) (later : Known) (after : List Made) (look : Look) → copying.left ≡ call ∷ more → EndsAt Target new later call look →
      after ≡ before ++ option_to_list (made_by new.caller (said_by later call look.reply)) → AreSome path place source now target later after (Some look)
  ends_writing call more later after look left (by_reply is undone called) named = write_last call more later after look left is undone called named
  ends_writing call more later after look left (by_memory is same) named =
      let none : after ≡ before = named ∙ ap (λ (l : List Made). before ++ l) (none_left_by call new.caller later look is) ∙ append-nil before in
      subst (λ (k : Known). AreSome path place source now target k after (Some look)) (sym same)
      (subst (λ (l : List Made). AreSome path place source now target new l (Some look)) (sym none) (wanting_target look is))

  ends_at : (left : List Call) (cursor : Option ReadCursor) (step : Step) (source_then target_then : Known) (after : List Made) (look : Look) → copying.left ≡ left → copying.cursor ≡ cursor → Some step ≡ next_step left cursor →
      EndsAtStep step now source_then new target_then before after look → AreSome path place source source_then target target_then after (Some look)
  ends_at [] None step source_then target_then after look left cursor e ends = absurd (cc)
  ends_at [] (Some at) step source_then target_then after look left cursor e ends =
      let same : step ≡ record { side = Source; call = calls.ReadNext at 65536 } = some_step step (record { side = Source; call = calls.ReadNext at 65536 }) e in
      by (subst (λ (s : Step). EndsAtStep s now source_then new target_then before after look) same ends)
    where
      by : EndsAtStep (record { side = Source; call = calls.ReadNext at 65536 }) now source_then new target_then before after look → AreSome path place source source_then target target_then after (Some look)
      by (ending, target_same, made_same) =
          subst (λ (k : Known). AreSome path place source source_then target k after (Some look)) (sym target_same)
          (subst (λ (l : List Made). AreSome path place source source_then target new l (Some look)) (sym made_same) (ends_reading at source_then look cursor ending))
  ends_at (call ∷ more) at step source_then target_then after look left cursor e ends =
      let same : step ≡ record { side = Target; call = call } = some_step step (record { side = Target; call = call }) e in
      by (subst (λ (s : Step). EndsAtStep s now source_then new target_then before after look) same ends)
    where
      by : EndsAtStep (record { side = Target; call = call }) now source_then new target_then before after look → AreSome path place source source_then target target_then after (Some look)
      by (change, source_same) =
          subst (λ (k : Known). AreSome path place source k target target_then after (Some look)) (sym source_same) (ends_writing call more target_then after look left change.0 change.1)

calls_to : (path : List ℕ) (place : Place) (source source_then target target_then : Known) (made : List Made) (ended : Option Look) → IsCopyTo path place source source_then target target_then made ended →
    AreSome path place source source_then target target_then made ended
calls_to path place source source_then target target_then made None copying = whole_calls path place source source_then target target_then made None copying refl
calls_to path place source source_then target target_then made (Some look) (now, new, before, step, copying, ends) =
    ends_at path place source now target new before (Some step) copying copying.left copying.cursor step source_then target_then made look refl refl copying.next_is ends

pub calls_of_copy : CallsOfCopy
calls_of_copy number job snap root source source_then target target_then copied copy =
    calls_to (text_below root job.to) (places.Frozen job.id snap) source source_then target target_then copied.made copied.ended copy.copy

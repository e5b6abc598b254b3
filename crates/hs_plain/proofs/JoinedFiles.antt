-- The pages of a frozen file join.
use Rattle.std.proofs.Common.{◌≡◌, inl, inr, ℕ, ◌+◌, Bool, true, false, Option, None, Ok, Err, List, [], take, drop, length, refl, ap, sym, ◌∙◌}
use Rattle.std.proofs.lemmas.List.{length-map, take-map, drop-map}
use Rattle.hs_types.specs.Paths.{path_of}
use Rattle.hs_types.specs.declared.ids.CallerId.{CallerId}
use Rattle.hs_types.specs.declared.ids.InodeId.{InodeId}
use Rattle.hs_types.specs.declared.ids.SnapId.{SnapId}
use Rattle.hs_types.specs.declared.path.Path.{Path}
use Rattle.hs_types.specs.declared.call.Call.{Call}
use Rattle.hs_types.specs.declared.call.Call.TheVariants as calls
use Rattle.hs_types.specs.declared.call.ReadCursor.{ReadCursor}
use Rattle.hs_types.specs.declared.call.Place.{Place}
use Rattle.hs_types.specs.declared.call.Place.TheVariants as places
use Rattle.hs_types.specs.declared.journal.Entry.{Entry}
use Rattle.hs_types.specs.declared.refusal.Refusal.TheVariants.{Gone, StoreFault, JournalFull}
use Rattle.hs_types.specs.declared.refusal.Refusal.{Refusal}
use Rattle.hs_types.specs.declared.reply.Reply.{Reply}
use Rattle.hs_types.specs.declared.reply.Reply.TheVariants as replies
use Rattle.hs_plain.specs.declared.state.State.{State}
use Rattle.hs_plain.specs.Asked.{Asked, ◌>>=◌, refuse_if}
use Rattle.hs_plain.specs.Tree.{Tree, place_of}
use Rattle.hs_plain.specs.State.{resolve}
use Rattle.hs_plain.specs.Pages.{bytes_page, next_read}
use Rattle.hs_plain.specs.Reading.{is_gone, file_at, file_there}
use Rattle.hs_plain.specs.Answer.{answer, reply_to, blank, blanked, claimed, is_plain_reply}
use Rattle.hs_plain.specs.Replay.{plain_after}
use Rattle.hs_plain.specs.Legal.{Said}
use Rattle.hs_plain.specs.Joined.{known_state, bytes_shown, read_cursor, is_bytes, gone_or_failed, claimed_bytes}
use Rattle.hs_plain.specs.JoinedPages.{read_length, read_at, GoesOnRead, FilesJoin}
use Rattle.hs_plain.proofs.Facts.{okay, ok_of}
use Rattle.hs_plain.proofs.Joined.{Shows, joined, shows_cut}
use Rattle.hs_plain.proofs.Paged.{keeps, IsGiven, given, observed, IsLater, later_all}

-- ---- what a reply shows

cursor-blank : (reply : Reply) → read_cursor (blanked reply) ≡ read_cursor reply
cursor-blank (replies.Bytes bytes next) = refl
cursor-blank reply = refl

failed-blank : (reply : Reply) → gone_or_failed (blanked reply) ≡ gone_or_failed reply
failed-blank (replies.Refused why) = refl
failed-blank reply = refl

is_bytes-blank : (reply : Reply) → is_bytes (blanked reply) ≡ is_bytes reply
is_bytes-blank (replies.Bytes bytes next) = refl
is_bytes-blank reply = refl

bytes-blank : (reply : Reply) → bytes_shown (blanked reply) ≡ blank (bytes_shown reply)
bytes-blank (replies.Bytes bytes next) = refl
bytes-blank reply = refl

-- what is claimed of a reply is claimed of its bytes
bytes-claimed : (tells : Bool) (a b : Reply) → claimed tells a ≡ claimed tells b → claimed_bytes tells (bytes_shown a) ≡ claimed_bytes tells (bytes_shown b)
bytes-claimed true a b e = ap bytes_shown e
bytes-claimed false a b e = sym (bytes-blank a) ∙ ap bytes_shown e ∙ bytes-blank b

bytes-plain : (reply : Reply) → is_bytes reply ≡ true → is_plain_reply reply ≡ true
bytes-plain (replies.Bytes bytes next) page = refl
bytes-plain reply page = absurd (cc)

-- a reply that isn't the plain machine's ends the pages, and shows nothing
record EndsRead (reply : Reply) : Type 0 where
  short : gone_or_failed reply ≡ true
  none : read_cursor reply ≡ None
  nothing : bytes_shown reply ≡ []

ends : (reply : Reply) → is_plain_reply reply ≡ false → EndsRead reply
ends (replies.Refused why) isnt = by why isnt
  where
    by : (why : Refusal) → is_plain_reply (replies.Refused why) ≡ false → EndsRead (replies.Refused why)
    by StoreFault isnt = record { short = refl; none = refl; nothing = refl }
    by JournalFull isnt = record { short = refl; none = refl; nothing = refl }
    by why isnt = absurd (cc)
ends replies.NoMemory isnt = record { short = refl; none = refl; nothing = refl }
ends reply isnt = absurd (cc)

claimed-nothing : (tells : Bool) (bytes : List ℕ) → bytes ≡ [] → claimed_bytes tells bytes ≡ []
claimed-nothing true bytes e = e
claimed-nothing false bytes e = ap blank e

-- ---- bytes and zeros cut alike

claimed-length : (tells : Bool) (bytes : List ℕ) → length (claimed_bytes tells bytes) ≡ length bytes
claimed-length true bytes = refl
claimed-length false bytes = simp length-map

claimed-cut : (tells : Bool) (bytes : List ℕ) (offset len : ℕ) → claimed_bytes tells (take len (drop offset bytes)) ≡ take len (drop offset (claimed_bytes tells bytes))
claimed-cut true bytes offset len = refl
claimed-cut false bytes offset len = sym (take-map (λ byte. 0) len (drop offset bytes)) ∙ ap (take len) (sym (drop-map (λ byte. 0) offset bytes))

-- ---- pages

abbrev cursor_of : Said → Option ReadCursor
cursor_of said = read_cursor said.told.reply

abbrev shown_by : Bool → Said → List ℕ
shown_by tells said = claimed_bytes tells (bytes_shown said.told.reply)

abbrev is_short : Said → Bool
is_short said = gone_or_failed said.told.reply

abbrev IsOf : Place → ReadCursor → Type 0
IsOf place cursor = cursor.place ≡ place

abbrev ShowsFile : Bool → Place → List ℕ → ℕ → Said → Type 0
ShowsFile tells place bytes offset said = Shows GoesOnRead cursor_of (shown_by tells) is_short (λ cursor. drop cursor.offset (claimed_bytes tells bytes)) (IsOf place) (drop offset (claimed_bytes tells bytes)) said

shows_bytes : (tells : Bool) (place : Place) (bytes : List ℕ) (offset len : ℕ) (said : Said) → claimed tells said.told.reply ≡ claimed tells (bytes_page place bytes offset len) → ShowsFile tells place bytes offset said
shows_bytes tells place bytes offset len said is =
    shows_cut GoesOnRead cursor_of (shown_by tells) is_short (λ cursor. cursor.offset) (IsOf place) (claimed_bytes tells bytes) offset len said (record { place = place; offset = offset + len })
    (bytes-claimed tells said.told.reply (bytes_page place bytes offset len) is ∙ claimed-cut tells bytes offset len)
    (observed read_cursor cursor-blank tells said.told.reply (bytes_page place bytes offset len) is ∙ ap (λ n. next_read place n (offset + len)) (sym (claimed-length tells bytes)))
    (λ left. refl)
    refl

-- what a call for a page is answered
abbrev with_place : Place → List ℕ → Asked (Place × List ℕ)
with_place place file = Ok (place, file)

abbrev page_from : Place → ℕ → ℕ → Bool → Asked (List ℕ) → Reply
page_from place offset len gone file = reply_to ((refuse_if gone Gone >>= λ live. file >>= with_place place) >>= λ at. Ok (bytes_page at.0 at.1 offset len))

-- ---- each further page

module _ (tells : Bool) (most : ℕ) (journal : List Entry) (caller : CallerId) (n : ℕ) (id : InodeId) (snapshot : SnapId) (bytes : List ℕ) where
  abbrev there_at : Place
  there_at = places.Frozen id snapshot

  abbrev file_in_tree : Tree (List ℕ) → Asked (List ℕ)
  file_in_tree tree = file_there (place_of tree id)

  step : file_at (plain_after (take n journal)) there_at ≡ Ok bytes →
      (said : Said) (cursor : ReadCursor) → IsLater tells most journal caller n said → IsOf there_at cursor → GoesOnRead said cursor → ShowsFile tells there_at bytes cursor.offset said
  step was said cursor later at goes = by (is_plain_reply said.told.reply) refl
    where
      there : answer (known_state journal said) said.call ≡ page_from there_at cursor.offset (read_length said.call) (is_gone (known_state journal said) there_at) (file_at (known_state journal said) there_at)
      there =
          ap (answer (known_state journal said)) goes
          ∙ ap (λ (p : Place). page_from p cursor.offset (read_length said.call) (is_gone (known_state journal said) p) (file_at (known_state journal said) p)) at

      is_gone_at : claimed tells said.told.reply ≡ claimed tells (replies.Refused Gone) → ShowsFile tells there_at bytes cursor.offset said
      is_gone_at e =
          inl (
            observed gone_or_failed failed-blank tells said.told.reply (replies.Refused Gone) e,
            observed read_cursor cursor-blank tells said.told.reply (replies.Refused Gone) e,
            bytes-claimed tells said.told.reply (replies.Refused Gone) e ∙ claimed-nothing tells [] refl,
          )

      by : (b : Bool) → is_plain_reply said.told.reply ≡ b → ShowsFile tells there_at bytes cursor.offset said
      by false isnt = let end : EndsRead said.told.reply = ends said.told.reply isnt in inl (end.short, end.none, claimed-nothing tells (bytes_shown said.told.reply) end.nothing)
      by true plain =
          elim (keeps file_in_tree journal n said.told.position id snapshot bytes later.behind was).gone_or_same as (λ _. ShowsFile tells there_at bytes cursor.offset said) [
            | inl gone ↦ is_gone_at (later.legal.answered plain ∙ ap (claimed tells) (there ∙ ap (λ b. page_from there_at cursor.offset (read_length said.call) b (file_at (known_state journal said) there_at)) gone))
            | inr same ↦ shows_bytes tells there_at bytes cursor.offset (read_length said.call) said
                (later.legal.answered plain ∙ ap (claimed tells) (there ∙ ap (λ b. page_from there_at cursor.offset (read_length said.call) b (file_at (known_state journal said) there_at)) same.0 ∙ ap (page_from there_at cursor.offset (read_length said.call) false) same.1))
          ]

-- ---- the first page

-- a first page shows bytes of the file at its place
record FirstPage (tells : Bool) (state : State (List ℕ)) (place : Place) (offset len : ℕ) (reply : Reply) : Type 0 where
  bytes : List ℕ
  file : file_at state place ≡ Ok bytes
  is : claimed tells reply ≡ claimed tells (bytes_page place bytes offset len)

no : false ≡ true → ⊥
no e = cc

module _ (tells : Bool) (state : State (List ℕ)) (reply : Reply) (page : is_bytes reply ≡ true) where
  -- a reply that has no bytes isn't what was told
  no_page : (other : Reply) → is_bytes other ≡ false → claimed tells reply ≡ claimed tells other → ⊥
  no_page other isnt e = no (sym isnt ∙ sym (observed is_bytes is_bytes-blank tells reply other e) ∙ page)

  first_bytes : (place : Place) (offset len : ℕ) (asked : Asked (List ℕ)) → file_at state place ≡ asked → claimed tells reply ≡ claimed tells (page_from place offset len false asked) → FirstPage tells state place offset len reply
  first_bytes place offset len (Ok bytes) file is = record { bytes = bytes; file = file; is = is }
  first_bytes place offset len (Err why) file is = absurd (no_page (replies.Refused why) refl is)

  abbrev with_offset : ℕ → Place → Asked (Place × ℕ)
  with_offset offset place = Ok (place, offset)

  abbrev same_pair : Place × ℕ → Place × ℕ → Type 0
  same_pair a b = (a.0 ≡ b.0) × (a.1 ≡ b.1)

  pair_of : (a b : Place × ℕ) → okay a ≡ okay b → same_pair a b
  pair_of a b e = (ap (λ (q : Place × ℕ). q.0) (ok_of a b e), ap (λ (q : Place × ℕ). q.1) (ok_of a b e))

  first_page_is : (call : Call) (place : Place) (from : ℕ) → read_at state call ≡ Ok (place, from) → claimed tells reply ≡ claimed tells (answer state call) → FirstPage tells state place from (read_length call) reply
  first_page_is (calls.Read text offset len) place from asks is =
      let path : IsGiven (path_of text) (λ path. resolve state path >>= with_offset offset) (place, from) = given (path_of text) (λ path. resolve state path >>= with_offset offset) (place, from) asks in
      let at : IsGiven (resolve state path.x) (with_offset offset) (place, from) = given (resolve state path.x) (with_offset offset) (place, from) path.then in
      let same : same_pair (at.x, offset) (place, from) = pair_of (at.x, offset) (place, from) at.then in
      first_bytes place from len (file_at state place) refl
      (is ∙ ap (claimed tells) (
      ap (λ (a : Asked Path). reply_to ((a >>= λ path. resolve state path >>= λ p. file_at state p >>= with_place p) >>= λ at. Ok (bytes_page at.0 at.1 offset len))) path.gave
      ∙ ap (λ (a : Asked Place). reply_to ((a >>= λ p. file_at state p >>= with_place p) >>= λ at. Ok (bytes_page at.0 at.1 offset len))) at.gave
      ∙ ap (λ (p : Place). page_from p offset len false (file_at state p)) same.0
      ∙ ap (λ k. page_from place k len false (file_at state place)) same.1))
  first_page_is (calls.ReadNext cursor len) place from asks is =
      let same : same_pair (cursor.place, cursor.offset) (place, from) = pair_of (cursor.place, cursor.offset) (place, from) asks in
      by (is_gone state place) refl
      (is ∙ ap (claimed tells) (
      ap (λ (p : Place). page_from p cursor.offset len (is_gone state p) (file_at state p)) same.0
      ∙ ap (λ k. page_from place k len (is_gone state place) (file_at state place)) same.1))
    where
      by : (b : Bool) → is_gone state place ≡ b → claimed tells reply ≡ claimed tells (page_from place from len (is_gone state place) (file_at state place)) → FirstPage tells state place from len reply
      by true gone e = absurd (no_page (replies.Refused Gone) refl (e ∙ ap (λ b. claimed tells (page_from place from len b (file_at state place))) gone))
      by false gone e = first_bytes place from len (file_at state place) refl (e ∙ ap (λ b. claimed tells (page_from place from len b (file_at state place))) gone)
  first_page_is call place from asks is = absurd (cc)

pub files-join : FilesJoin
files-join tells most journal caller first more id snapshot offset answered further asks page =
    let now : State (List ℕ) = known_state journal first in
    let place : Place = places.Frozen id snapshot in
    let plain : claimed tells first.told.reply ≡ claimed tells (answer now first.call) = answered.each.0.answered (bytes-plain first.told.reply page) in
    let front : FirstPage tells now place offset (read_length first.call) first.told.reply = first_page_is tells now first.told.reply page first.call place offset asks plain in
    record {
      bytes = front.bytes;
      file = front.file;
      joined =
          joined GoesOnRead cursor_of (shown_by tells) is_short (λ cursor. drop cursor.offset (claimed_bytes tells front.bytes)) (IsOf place) (IsLater tells most journal caller first.told.position)
          (step tells most journal caller first.told.position id snapshot front.bytes front.file)
          first more (drop offset (claimed_bytes tells front.bytes))
          (shows_bytes tells place front.bytes offset (read_length first.call) first front.is)
          further
          (later_all tells most journal caller first more answered.places answered.each.1);
    }

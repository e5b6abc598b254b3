-- The pages of a frozen directory join.
use Rattle.std.proofs.Common.{◌≡◌, inl, inr, ℕ, Bool, true, false, Option, None, Ok, Err, List, [], take, refl, ap, sym, ◌∙◌}
use Rattle.hs_types.specs.Paths.{path_of}
use Rattle.hs_types.specs.declared.ids.CallerId.{CallerId}
use Rattle.hs_types.specs.declared.ids.InodeId.{InodeId}
use Rattle.hs_types.specs.declared.ids.SnapId.{SnapId}
use Rattle.hs_types.specs.declared.path.Path.{Path}
use Rattle.hs_types.specs.declared.call.Call.{Call}
use Rattle.hs_types.specs.declared.call.Call.TheVariants as calls
use Rattle.hs_types.specs.declared.call.ListCursor.{ListCursor}
use Rattle.hs_types.specs.declared.call.Place.{Place}
use Rattle.hs_types.specs.declared.call.Place.TheVariants as places
use Rattle.hs_types.specs.declared.journal.Entry.{Entry}
use Rattle.hs_types.specs.declared.refusal.Refusal.TheVariants.{Gone}
use Rattle.hs_types.specs.declared.reply.Item.{Item}
use Rattle.hs_types.specs.declared.reply.Reply.{Reply}
use Rattle.hs_types.specs.declared.reply.Reply.TheVariants as replies
use Rattle.hs_plain.specs.declared.state.State.{State}
use Rattle.hs_plain.specs.Asked.{Asked, ◌>>=◌, refuse_if}
use Rattle.hs_plain.specs.Files.{plain_files}
use Rattle.hs_plain.specs.Tree.{Tree, place_of}
use Rattle.hs_plain.specs.State.{resolve, items_of, items_at}
use Rattle.hs_plain.specs.Pages.{items_behind, page_of}
use Rattle.hs_plain.specs.Reading.{is_gone}
use Rattle.hs_plain.specs.Answer.{answer, reply_to, blanked, claimed, is_plain_reply, is_modifying, uses_store}
use Rattle.hs_plain.specs.Replay.{plain_after, is_proper}
use Rattle.hs_plain.specs.Legal.{Said}
use Rattle.hs_plain.specs.Joined.{known_state, items_shown, list_cursor, is_page, gone_or_no_memory}
use Rattle.hs_plain.specs.inside.Cuts.{NamesRise}
use Rattle.hs_plain.specs.JoinedPages.{page_size, listed_at, GoesOnList, ListingsJoin}
use Rattle.hs_plain.proofs.Facts.{okay, ok_of}
use Rattle.hs_plain.proofs.Joined.{Shows, joined}
use Rattle.hs_plain.proofs.Cuts.{IsAt, shows_items}
use Rattle.hs_plain.proofs.Paged.{keeps, IsGiven, given, observed, shared_reply, IsLater, later_all}
use Rattle.hs_plain.proofs.Rising.{frozen-rises}
use Rattle.hs_plain.proofs.Validity.{valid-replay}

-- ---- what a reply shows

items-blank : (reply : Reply) → items_shown (blanked reply) ≡ items_shown reply
items-blank (replies.Page items next) = refl
items-blank reply = refl

cursor-blank : (reply : Reply) → list_cursor (blanked reply) ≡ list_cursor reply
cursor-blank (replies.Page items next) = refl
cursor-blank reply = refl

gone-blank : (reply : Reply) → gone_or_no_memory (blanked reply) ≡ gone_or_no_memory reply
gone-blank (replies.Refused why) = refl
gone-blank reply = refl

page-blank : (reply : Reply) → is_page (blanked reply) ≡ is_page reply
page-blank (replies.Page items next) = refl
page-blank reply = refl

page-plain : (reply : Reply) → is_page reply ≡ true → is_plain_reply reply ≡ true
page-plain (replies.Page items next) page = refl
page-plain reply page = absurd (cc)

abbrev cursor_of : Said → Option ListCursor
cursor_of said = list_cursor said.told.reply

abbrev shown_by : Said → List Item
shown_by said = items_shown said.told.reply

abbrev is_short : Said → Bool
is_short said = gone_or_no_memory said.told.reply

abbrev ShowsItems : Place → List Item → Option (List ℕ) → Said → Type 0
ShowsItems place items from said = Shows GoesOnList cursor_of shown_by is_short (λ cursor. items_behind cursor.after items) (IsAt place) (items_behind from items) said

-- what a call for a page is answered
abbrev page_from : Place → Option (List ℕ) → ℕ → Bool → Asked (List Item) → Reply
page_from place from size gone items = reply_to (refuse_if gone Gone >>= λ live. items >>= λ items. Ok (page_of place items from size))

-- ---- each further page

module _ (tells : Bool) (most : ℕ) (journal : List Entry) (caller : CallerId) (n : ℕ) (id : InodeId) (snapshot : SnapId) (items : List Item) where
  abbrev there_at : Place
  there_at = places.Frozen id snapshot

  abbrev items_there : Tree (List ℕ) → Asked (List Item)
  items_there tree = items_of tree (place_of tree id)

  ended : (said : Said) (from : Option (List ℕ)) (reply : Reply) → gone_or_no_memory reply ≡ true → list_cursor reply ≡ None → items_shown reply ≡ [] → gone_or_no_memory said.told.reply ≡ gone_or_no_memory reply → list_cursor said.told.reply ≡ list_cursor reply → items_shown said.told.reply ≡ items_shown reply → ShowsItems there_at items from said
  ended said from reply short none nothing a b c = inl (a ∙ short, b ∙ none, c ∙ nothing)

  step : is_proper journal ≡ true → NamesRise items → items_at (plain_after (take n journal)) there_at ≡ Ok items →
      (said : Said) (cursor : ListCursor) → IsLater tells most journal caller n said → IsAt there_at cursor → GoesOnList said cursor → ShowsItems there_at items cursor.after said
  step proper rise was said cursor later at goes =
      elim (shared_reply tells most journal caller said proper later.legal (ap is_modifying goes.call) (ap uses_store goes.call)) as (λ _. ShowsItems there_at items cursor.after said) [
        | inl plain ↦
            elim (keeps items_there journal n said.told.position id snapshot items later.behind was).gone_or_same as (λ _. ShowsItems there_at items cursor.after said) [
              | inl gone ↦ is_gone_at (plain ∙ ap (claimed tells) (there ∙ ap (λ b. page_from there_at cursor.after (page_size said.call) b (items_at (known_state journal said) there_at)) gone))
              | inr same ↦ shows (plain ∙ ap (claimed tells) (there ∙ ap (λ b. page_from there_at cursor.after (page_size said.call) b (items_at (known_state journal said) there_at)) same.0 ∙ ap (page_from there_at cursor.after (page_size said.call) false) same.1))
            ]
        | inr memory ↦ ended said cursor.after replies.NoMemory refl refl refl (ap gone_or_no_memory memory) (ap list_cursor memory) (ap items_shown memory)
      ]
    where
      there : answer (known_state journal said) said.call ≡ page_from there_at cursor.after (page_size said.call) (is_gone (known_state journal said) there_at) (items_at (known_state journal said) there_at)
      there =
          ap (answer (known_state journal said)) goes.call
          ∙ ap (λ (p : Place). page_from p cursor.after (page_size said.call) (is_gone (known_state journal said) p) (items_at (known_state journal said) p)) at

      is_gone_at : claimed tells said.told.reply ≡ claimed tells (replies.Refused Gone) → ShowsItems there_at items cursor.after said
      is_gone_at e = ended said cursor.after (replies.Refused Gone) refl refl refl (observed gone_or_no_memory gone-blank tells said.told.reply (replies.Refused Gone) e) (observed list_cursor cursor-blank tells said.told.reply (replies.Refused Gone) e) (observed items_shown items-blank tells said.told.reply (replies.Refused Gone) e)

      shows : claimed tells said.told.reply ≡ claimed tells (page_of there_at items cursor.after (page_size said.call)) → ShowsItems there_at items cursor.after said
      shows e = shows_items GoesOnList cursor_of shown_by is_short there_at items (page_size said.call) cursor.after said rise goes.above (observed items_shown items-blank tells said.told.reply (page_of there_at items cursor.after (page_size said.call)) e) (observed list_cursor cursor-blank tells said.told.reply (page_of there_at items cursor.after (page_size said.call)) e)

-- ---- the first page

-- a first page shows the items at its place
record FirstPage (tells : Bool) (state : State (List ℕ)) (place : Place) (from : Option (List ℕ)) (size : ℕ) (reply : Reply) : Type 0 where
  items : List Item
  listed : items_at state place ≡ Ok items
  is : claimed tells reply ≡ claimed tells (page_of place items from size)

no : false ≡ true → ⊥
no e = cc

module _ (tells : Bool) (state : State (List ℕ)) (reply : Reply) (page : is_page reply ≡ true) where
  -- a reply that isn't a page isn't what was told
  no_page : (other : Reply) → is_page other ≡ false → claimed tells reply ≡ claimed tells other → ⊥
  no_page other isnt e = no (sym isnt ∙ sym (observed is_page page-blank tells reply other e) ∙ page)

  first_items : (place : Place) (from : Option (List ℕ)) (size : ℕ) (asked : Asked (List Item)) → items_at state place ≡ asked → claimed tells reply ≡ claimed tells (reply_to (asked >>= λ items. Ok (page_of place items from size))) → FirstPage tells state place from size reply
  first_items place from size (Ok items) listed is = record { items = items; listed = listed; is = is }
  first_items place from size (Err why) listed is = absurd (no_page (replies.Refused why) refl is)

  abbrev front_of : Place → Asked (Place × Option (List ℕ))
  front_of place = Ok (place, None)

  abbrev same_pair : Place × Option (List ℕ) → Place × Option (List ℕ) → Type 0
  same_pair a b = (a.0 ≡ b.0) × (a.1 ≡ b.1)

  pair_of : (a b : Place × Option (List ℕ)) → okay a ≡ okay b → same_pair a b
  pair_of a b e = (ap (λ (q : Place × Option (List ℕ)). q.0) (ok_of a b e), ap (λ (q : Place × Option (List ℕ)). q.1) (ok_of a b e))

  first_page_is : (call : Call) (place : Place) (from : Option (List ℕ)) → listed_at state call ≡ Ok (place, from) → claimed tells reply ≡ claimed tells (answer state call) → FirstPage tells state place from (page_size call) reply
  first_page_is (calls.List text size) place from asks is =
      let path : IsGiven (path_of text) (λ path. resolve state path >>= front_of) (place, from) = given (path_of text) (λ path. resolve state path >>= front_of) (place, from) asks in
      let at : IsGiven (resolve state path.x) front_of (place, from) = given (resolve state path.x) front_of (place, from) path.then in
      let same : same_pair (at.x, None) (place, from) = pair_of (at.x, None) (place, from) at.then in
      first_items place from size (items_at state place) refl
      (is ∙ ap (claimed tells) (
      ap (λ (a : Asked Path). reply_to (a >>= λ path. resolve state path >>= λ p. items_at state p >>= λ items. Ok (page_of p items None size))) path.gave
      ∙ ap (λ (a : Asked Place). reply_to (a >>= λ p. items_at state p >>= λ items. Ok (page_of p items None size))) at.gave
      ∙ ap (λ (p : Place). reply_to (items_at state p >>= λ items. Ok (page_of p items None size))) same.0
      ∙ ap (λ (f : Option (List ℕ)). reply_to (items_at state place >>= λ items. Ok (page_of place items f size))) same.1))
  first_page_is (calls.ListNext cursor size) place from asks is =
      let same : same_pair (cursor.place, cursor.after) (place, from) = pair_of (cursor.place, cursor.after) (place, from) asks in
      by (is_gone state place) refl
      (is ∙ ap (claimed tells) (
      ap (λ (p : Place). page_from p cursor.after size (is_gone state p) (items_at state p)) same.0
      ∙ ap (λ (f : Option (List ℕ)). page_from place f size (is_gone state place) (items_at state place)) same.1))
    where
      by : (b : Bool) → is_gone state place ≡ b → claimed tells reply ≡ claimed tells (page_from place from size (is_gone state place) (items_at state place)) → FirstPage tells state place from size reply
      by true gone e = absurd (no_page (replies.Refused Gone) refl (e ∙ ap (λ b. claimed tells (page_from place from size b (items_at state place))) gone))
      by false gone e = first_items place from size (items_at state place) refl (e ∙ ap (λ b. claimed tells (page_from place from size b (items_at state place))) gone)
  first_page_is call place from asks is = absurd (cc)

pub listings-join : ListingsJoin
listings-join tells most journal caller first more id snapshot from answered one further asks page =
    let now : State (List ℕ) = known_state journal first in
    let place : Place = places.Frozen id snapshot in
    let plain : claimed tells first.told.reply ≡ claimed tells (answer now first.call) = answered.each.0.answered (page-plain first.told.reply page) in
    let front : FirstPage tells now place from (page_size first.call) first.told.reply = first_page_is tells now first.told.reply page first.call place from asks plain in
    let rise : NamesRise front.items = frozen-rises now id snapshot front.items (valid-replay plain_files (take first.told.position journal)).copies_sorted front.listed in
    record {
      items = front.items;
      listed = front.listed;
      joined =
          joined GoesOnList cursor_of shown_by is_short (λ cursor. items_behind cursor.after front.items) (IsAt place) (IsLater tells most journal caller first.told.position)
          (step tells most journal caller first.told.position id snapshot front.items answered.proper rise front.listed)
          first more (items_behind from front.items)
          (shows_items GoesOnList cursor_of shown_by is_short place front.items (page_size first.call) from first rise one
          (observed items_shown items-blank tells first.told.reply (page_of place front.items from (page_size first.call)) front.is)
          (observed list_cursor cursor-blank tells first.told.reply (page_of place front.items from (page_size first.call)) front.is))
          further
          (later_all tells most journal caller first more answered.places answered.each.1);
    }

-- The pages that a copy reads of one file are the pages of the file's bytes.
use Rattle.std.proofs.Common.{◌≡◌, ℕ, zero, suc, ◌+◌, ◌-◌, ◌≤◌, nat_le, Bool, true, false, cond, if◌then◌else◌, Option, Some, None, Ok, List, [], ◌∷◌, ◌++◌, map, length, take, drop, refl, ap, sym, ◌∙◌, subst, arith}
use Rattle.std.specs.List.{filter, AllByRecursion}
use Rattle.std.proofs.lemmas.List.{length-map, length-drop, take-map, drop-map, map-id, drop-drop, drop_all}
use Rattle.std.proofs.lemmas.Bool.Decides.{nat_tests}
use Rattle.hs_types.specs.Limits.{block_size}
use Rattle.hs_types.specs.declared.ids.CallerId.{CallerId}
use Rattle.hs_types.specs.declared.call.Call.{Call}
use Rattle.hs_types.specs.declared.call.Call.TheVariants as calls
use Rattle.hs_types.specs.declared.call.Place.{Place}
use Rattle.hs_types.specs.declared.call.ReadCursor.{ReadCursor}
use Rattle.hs_types.specs.declared.journal.Entry.{Entry}
use Rattle.hs_types.specs.declared.refusal.Refusal.TheVariants.{Gone}
use Rattle.hs_types.specs.declared.reply.Reply.{Reply}
use Rattle.hs_types.specs.declared.reply.Reply.TheVariants as replies
use Rattle.hs_plain.specs.declared.state.State.{State}
use Rattle.hs_plain.specs.Asked.{Asked, ◌>>=◌, refuse_if}
use Rattle.hs_plain.specs.Pages.{bytes_page, next_read}
use Rattle.hs_plain.specs.Reading.{is_gone, file_at}
use Rattle.hs_plain.specs.Answer.{answer, reply_to, blank, blanked, claimed}
use Rattle.hs_plain.specs.Joined.{bytes_shown, read_cursor, is_bytes, claimed_bytes, known_state}
use Rattle.hs_plain.specs.Legal.{Said, IsLegalCall}
use Rattle.hs_plain.specs.Plan.{pages_of}
use Rattle.hs_plain.proofs.Paged.{observed}
use Rattle.page_join.proofs.Chains.{le_yes}
use Rattle.copy_workers.specs.Copying.{ReadOn, is_filled, filled}
use Rattle.copy_workers.specs.CopyLaws.{ReadFrom, ReadOf}
use Rattle.copy_workers.proofs.Replies.{cursor-blank, bytes-blank, bytes_plain}

-- ---- what a read shows

shown-blank : (reply : Reply) → bytes_shown (blanked reply) ≡ blank (bytes_shown reply)
shown-blank (replies.Bytes bytes next) = refl
shown-blank reply = refl

shown_claimed : (tells : Bool) (a b : Reply) → claimed tells a ≡ claimed tells b → claimed_bytes tells (bytes_shown a) ≡ claimed_bytes tells (bytes_shown b)
shown_claimed true a b e = ap bytes_shown e
shown_claimed false a b e = sym (shown-blank a) ∙ ap bytes_shown e ∙ shown-blank b

claimed-length : (tells : Bool) (bytes : List ℕ) → length (claimed_bytes tells bytes) ≡ length bytes
claimed-length true bytes = refl
claimed-length false bytes = length-map bytes (λ byte. 0)

claimed-cut : (tells : Bool) (bytes : List ℕ) (offset len : ℕ) → claimed_bytes tells (take len (drop offset bytes)) ≡ take len (drop offset (claimed_bytes tells bytes))
claimed-cut true bytes offset len = refl
claimed-cut false bytes offset len = sym (take-map (λ byte. 0) len (drop offset bytes)) ∙ ap (take len) (sym (drop-map (λ byte. 0) offset bytes))

-- what a read at a cursor shows of a file, as far as that is claimed: a page, or nothing
pub data PageOf (tells : Bool) (bytes : List ℕ) (at : ReadCursor) (reply : Reply) : Type 0 where
  page : claimed_bytes tells (bytes_shown reply) ≡ take 65536 (drop at.offset bytes) → read_cursor reply ≡ next_read at.place (length bytes) (at.offset + 65536) → PageOf tells bytes at reply
  nothing : bytes_shown reply ≡ [] → read_cursor reply ≡ None → is_bytes reply ≡ false → PageOf tells bytes at reply

abbrev with_place : Place → List ℕ → Asked (Place × List ℕ)
with_place place file = Ok (place, file)

-- the plain machine's answer to a read, where this is known of its place
abbrev page_from : ReadCursor → Bool → Asked (List ℕ) → Reply
page_from at gone file = reply_to ((refuse_if gone Gone >>= λ live. file >>= with_place at.place) >>= λ found. Ok (bytes_page found.0 found.1 at.offset 65536))

no : false ≡ true → ⊥
no e = cc

no_page : (tells : Bool) (reply other : Reply) → is_bytes reply ≡ true → is_bytes other ≡ false → claimed tells reply ≡ claimed tells other → ⊥
no_page tells reply other has isnt e = no (sym isnt ∙ sym (observed is_bytes bytes-blank tells reply other e) ∙ has)

-- a page that was read is of a snapshot that was there
pub not_gone : (tells : Bool) (at : ReadCursor) (state : State (List ℕ)) (reply : Reply) → is_bytes reply ≡ true → claimed tells reply ≡ claimed tells (answer state (calls.ReadNext at 65536)) → is_gone state at.place ≡ false
not_gone tells at state reply has answered = by (is_gone state at.place) refl
  where
    by : (gone : Bool) → is_gone state at.place ≡ gone → is_gone state at.place ≡ false
    by false is = is
    by true is = absurd (no_page tells reply (replies.Refused Gone) has refl (answered ∙ ap (λ b. claimed tells (page_from at b (file_at state at.place))) is))

page_is : (tells : Bool) (at : ReadCursor) (bytes : List ℕ) (state : State (List ℕ)) (reply : Reply) → is_bytes reply ≡ true → claimed tells reply ≡ claimed tells (answer state (calls.ReadNext at 65536)) → file_at state at.place ≡ Ok bytes →
    claimed tells reply ≡ claimed tells (bytes_page at.place bytes at.offset 65536)
page_is tells at bytes state reply has answered file =
    answered
    ∙ ap (λ b. claimed tells (page_from at b (file_at state at.place))) (not_gone tells at state reply has answered)
    ∙ ap (λ (a : Asked (List ℕ)). claimed tells (page_from at false a)) file

no_bytes : (tells : Bool) (bytes : List ℕ) (at : ReadCursor) (reply : Reply) → is_bytes reply ≡ false → PageOf tells bytes at reply
no_bytes tells bytes at (replies.Bytes shown next) isnt = absurd (cc)
no_bytes tells bytes at reply isnt = nothing refl refl refl

-- a read of a file shows a page of it, or nothing
abbrev pub Shows : Bool → List ℕ → Place → Said → Type 0
Shows tells bytes place said = (at : ReadCursor) → said.call ≡ calls.ReadNext at 65536 → at.place ≡ place → PageOf tells bytes at said.told.reply

pub shows : (tells : Bool) (limit : ℕ) (journal : List Entry) (caller : CallerId) (place : Place) (bytes : List ℕ) (said : Said) → IsLegalCall tells limit journal caller said.seq said.call said.told → ReadOf journal place bytes said →
    Shows tells (claimed_bytes tells bytes) place said
shows tells limit journal caller place bytes said legal of at call same = by (is_bytes said.told.reply) refl
  where
    of_file : is_bytes said.told.reply ≡ true → claimed tells said.told.reply ≡ claimed tells (bytes_page at.place bytes at.offset 65536)
    of_file has =
        page_is tells at bytes (known_state journal said) said.told.reply has
        (legal.answered (bytes_plain said.told.reply has) ∙ ap (λ (c : Call). claimed tells (answer (known_state journal said) c)) call)
        (ap (file_at (known_state journal said)) same ∙ of has)

    by : (is : Bool) → is_bytes said.told.reply ≡ is → PageOf tells (claimed_bytes tells bytes) at said.told.reply
    by false e = no_bytes tells (claimed_bytes tells bytes) at said.told.reply e
    by true e = page
        (shown_claimed tells said.told.reply (bytes_page at.place bytes at.offset 65536) (of_file e) ∙ claimed-cut tells bytes at.offset 65536)
        (observed read_cursor cursor-blank tells said.told.reply (bytes_page at.place bytes at.offset 65536) (of_file e) ∙ ap (λ n. next_read at.place n (at.offset + 65536)) (sym (claimed-length tells bytes)))

-- ---- the pages, one after the other

-- the pages that have bytes are the first of a file's pages from a byte on, and all of them where the last has no cursor
pub record ArePaged (tells : Bool) (bytes : List ℕ) (offset most : ℕ) (cursor : Option ReadCursor) (reads : List Said) : Type 0 where
  pub rest : List (List ℕ)
  pub all : map (claimed_bytes tells) (filled reads) ++ rest ≡ pages_of most (drop offset bytes)
  pub whole : ReadOn cursor reads None → rest ≡ []

abbrev pub start_at : Place → ℕ → ReadCursor
start_at place offset = record { place = place; offset = offset }

some_is : (a b : ReadCursor) → Some a ≡ Some b → a ≡ b
some_is a b e = cc

none_more : (cursor : Option ReadCursor) (more : List Said) → cursor ≡ None → ReadFrom cursor more → more ≡ []
none_more cursor [] none from = refl
none_more cursor (said ∷ more) none from = absurd (some_none from.0 (sym none ∙ from.1))
  where
    some_none : (at : ReadCursor) → None ≡ Some at → ⊥
    some_none at e = cc

filled_none : (said : Said) (more : List Said) → bytes_shown said.told.reply ≡ [] → filled (said ∷ more) ≡ filled more
filled_none said more none = ap (λ (b : List ℕ). filter is_filled (b ∷ map (λ said. bytes_shown said.told.reply) more)) none

filled_some : (said : Said) (more : List Said) → is_filled (bytes_shown said.told.reply) ≡ true → filled (said ∷ more) ≡ bytes_shown said.told.reply ∷ filled more
filled_some said more some = ap (λ b. cond b (bytes_shown said.told.reply ∷ filled more) (filled more)) some

claimed_empty : (tells : Bool) (bytes : List ℕ) → claimed_bytes tells bytes ≡ [] → bytes ≡ []
claimed_empty true bytes e = e
claimed_empty false [] e = refl
claimed_empty false (byte ∷ bytes) e = absurd (cc)

claimed_filled : (tells : Bool) (bytes more : List ℕ) (byte : ℕ) → claimed_bytes tells bytes ≡ byte ∷ more → is_filled bytes ≡ true
claimed_filled true bytes more byte e = ap is_filled e
claimed_filled false [] more byte e = absurd (cc)
claimed_filled false (first ∷ bytes) more byte e = refl

all_dropped : (bytes : List ℕ) (offset : ℕ) → drop offset bytes ≡ [] → nat_le (length bytes) (offset + 65536) ≡ true
all_dropped bytes offset e =
    let none : length bytes - offset ≡ 0 = sym (length-drop offset bytes) ∙ ap length e in
    le_yes (length bytes) (offset + 65536) (omega (arith, none))

pub yes_le : (a b : ℕ) → nat_le a b ≡ true → a ≤ b
yes_le a b e = grind (arith, nat_tests)

module _ (tells : Bool) (bytes : List ℕ) (place : Place) where
  -- what is known of the reads behind the first
  abbrev AreFurther : List Said → Type 0
  AreFurther more = (offset most : ℕ) → length (drop offset bytes) ≤ most → ReadFrom (Some (start_at place offset)) more → ArePaged tells bytes offset most (Some (start_at place offset)) more

  behind : (ended : Bool) (offset most : ℕ) (next : Option ReadCursor) (more : List Said) → next ≡ (if ended then None else Some (start_at place offset)) → (ended ≡ true → drop offset bytes ≡ []) →
      length (drop offset bytes) ≤ most → ReadFrom next more → AreFurther more → ArePaged tells bytes offset most next more
  behind true offset most next more is none fits from further =
      let ended : more ≡ [] = none_more next more is from in
      record {
        rest = pages_of most (drop offset bytes);
        all = ap (λ (l : List Said). map (claimed_bytes tells) (filled l) ++ pages_of most (drop offset bytes)) ended;
        whole = λ pages. ap (pages_of most) (none refl);
      }
  behind false offset most next more is none fits from further =
      subst (λ (c : Option ReadCursor). ArePaged tells bytes offset most c more) (sym is) (further offset most fits (subst (λ (c : Option ReadCursor). ReadFrom c more) is from))

  module _ (said : Said) (more : List Said) (offset : ℕ) (from : ReadFrom (read_cursor said.told.reply) more) (further : AreFurther more) where
    -- nothing was shown, and no page follows
    shows_none : (most : ℕ) → bytes_shown said.told.reply ≡ [] → read_cursor said.told.reply ≡ None → map (claimed_bytes tells) (filled (said ∷ more)) ≡ []
    shows_none most none ended = ap (map (claimed_bytes tells)) (filled_none said more none ∙ ap filled (none_more (read_cursor said.told.reply) more ended from))

    page_at : (left : List ℕ) (most : ℕ) → drop offset bytes ≡ left → length left ≤ most → claimed_bytes tells (bytes_shown said.told.reply) ≡ take 65536 (drop offset bytes) →
        read_cursor said.told.reply ≡ next_read place (length bytes) (offset + 65536) → ArePaged tells bytes offset most (Some (start_at place offset)) (said ∷ more)
    page_at [] most is fits shown next =
        let none : bytes_shown said.told.reply ≡ [] = claimed_empty tells (bytes_shown said.told.reply) (shown ∙ ap (take 65536) is) in
        let ended : read_cursor said.told.reply ≡ None = next ∙ ap (λ b. if b then None else Some (start_at place (offset + 65536))) (all_dropped bytes offset is) in
        record {
          rest = [];
          all = ap (λ (l : List (List ℕ)). l ++ []) (shows_none most none ended) ∙ sym (ap (pages_of most) is);
          whole = λ pages. refl;
        }
    page_at (byte ∷ left) zero is fits shown next = absurd (omega (arith, fits))
    page_at (byte ∷ left) (suc most) is fits shown next =
        let fits_on : length (drop (offset + 65536) bytes) ≤ most = omega (arith, fits, ap length is, length-drop offset bytes, length-drop (offset + 65536) bytes) in
        let tail : ArePaged tells bytes (offset + 65536) most (read_cursor said.told.reply) more =
        behind (nat_le (length bytes) (offset + 65536)) (offset + 65536) most (read_cursor said.told.reply) more next (λ e. drop_all (offset + 65536) bytes (yes_le (length bytes) (offset + 65536) e)) fits_on from further in
        let first : claimed_bytes tells (bytes_shown said.told.reply) ≡ take 65536 (byte ∷ left) = shown ∙ ap (take 65536) is in
        record {
          rest = tail.rest;
          all =
              ap (λ (l : List (List ℕ)). map (claimed_bytes tells) l ++ tail.rest) (filled_some said more (claimed_filled tells (bytes_shown said.told.reply) (take 65535 left) byte first))
              ∙ ap (λ (l : List ℕ). l ∷ (map (claimed_bytes tells) (filled more) ++ tail.rest)) first
              ∙ ap (λ (l : List (List ℕ)). take 65536 (byte ∷ left) ∷ l) (tail.all ∙ ap (pages_of most) (sym (drop-drop 65536 offset bytes) ∙ ap (drop 65536) is))
              ∙ sym (ap (pages_of (suc most)) is);
          whole = λ pages. tail.whole pages.4;
        }

    first_page : (most : ℕ) → length (drop offset bytes) ≤ most → PageOf tells bytes (start_at place offset) said.told.reply → ArePaged tells bytes offset most (Some (start_at place offset)) (said ∷ more)
    first_page most fits (page shown next) = page_at (drop offset bytes) most refl fits shown next
    first_page most fits (nothing none ended isnt) = record {
      rest = pages_of most (drop offset bytes);
      all = ap (λ (l : List (List ℕ)). l ++ pages_of most (drop offset bytes)) (shows_none most none ended);
      whole = λ pages. absurd (no (sym isnt ∙ pages.3));
    }

  pub paged : (reads : List Said) (offset most : ℕ) → length (drop offset bytes) ≤ most → AllByRecursion (Shows tells bytes place) reads → ReadFrom (Some (start_at place offset)) reads → ArePaged tells bytes offset most (Some (start_at place offset)) reads
  paged [] offset most fits all from = record { rest = pages_of most (drop offset bytes); all = refl; whole = λ pages. absurd (some_none pages) }
    where
      some_none : Some (start_at place offset) ≡ None → ⊥
      some_none e = cc
  paged (said ∷ more) offset most fits all from =
      let at : from.0 ≡ start_at place offset = sym (some_is (start_at place offset) from.0 from.1) in
      first_page said more offset from.3 (λ offset most fits from. paged more offset most fits all.1 from) most fits
      (all.0 (start_at place offset) (from.2 ∙ ap (λ (c : ReadCursor). calls.ReadNext c 65536) at) refl)

-- ---- the pages of a copy

pages_blank : (most : ℕ) (bytes : List ℕ) → map blank (pages_of most bytes) ≡ pages_of most (blank bytes)
pages_blank most [] = refl
pages_blank zero (byte ∷ bytes) = refl
pages_blank (suc most) (byte ∷ bytes) =
    ap (λ (l : List ℕ). l ∷ map blank (pages_of most (drop block_size (byte ∷ bytes)))) (sym (take-map (λ byte. 0) block_size (byte ∷ bytes)))
    ∙ ap (λ (l : List (List ℕ)). take block_size (blank (byte ∷ bytes)) ∷ l) (pages_blank most (drop block_size (byte ∷ bytes)) ∙ ap (pages_of most) (sym (drop-map (λ byte. 0) block_size (byte ∷ bytes))))

-- what is claimed of a file's pages are the pages of what is claimed of its bytes
pub pages_claimed : (tells : Bool) (most : ℕ) (bytes : List ℕ) → map (claimed_bytes tells) (pages_of most bytes) ≡ pages_of most (claimed_bytes tells bytes)
pages_claimed true most bytes = map-id (pages_of most bytes)
pages_claimed false most bytes = pages_blank most bytes

pub claimed_fits : (tells : Bool) (bytes : List ℕ) → length (drop 0 (claimed_bytes tells bytes)) ≤ length bytes
claimed_fits tells bytes = omega (arith, claimed-length tells bytes)

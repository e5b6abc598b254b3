-- The pages of a report join.
use Rattle.std.proofs.Common.{◌≡◌, inl, inr, ℕ, ◌+◌, ◌≤◌, nat_le, not, Bool, true, false, cond, ◌&&◌, ◌||◌, ◌==◌, Option, Some, None, Ok, List, [], take, drop, length, refl, ap, sym, ◌∙◌, subst, arith}
use Rattle.std.proofs.lemmas.Bool.Decides.{nat_tests}
use Rattle.std.proofs.lemmas.List.{length-take-le}
use Rattle.hs_types.specs.declared.ids.CallerId.{CallerId}
use Rattle.hs_types.specs.declared.ids.InodeId.{InodeId}
use Rattle.hs_types.specs.declared.ids.SnapId.{SnapId}
use Rattle.hs_types.specs.declared.call.Call.{Call}
use Rattle.hs_types.specs.declared.call.Call.TheVariants as calls
use Rattle.hs_types.specs.declared.call.ReportCursor.{ReportCursor}
use Rattle.hs_types.specs.declared.journal.Entry.{Entry}
use Rattle.hs_types.specs.declared.refusal.Refusal.{Refusal}
use Rattle.hs_types.specs.declared.refusal.Refusal.TheVariants.{NotSnapshottable, NoSnapshot, Gone, Moved}
use Rattle.hs_types.specs.declared.reply.Line.{Line}
use Rattle.hs_types.specs.declared.reply.Reply.{Reply}
use Rattle.hs_types.specs.declared.reply.Reply.TheVariants as replies
use Rattle.hs_plain.specs.declared.state.State.{State}
use Rattle.hs_plain.specs.Asked.{Asked, ◌>>=◌, refuse_if}
use Rattle.hs_plain.specs.Files.{plain_files}
use Rattle.hs_plain.specs.Tree.{place_of}
use Rattle.hs_plain.specs.State.{is_snapshottable}
use Rattle.hs_plain.specs.Pages.{lines_page}
use Rattle.hs_plain.specs.Reading.{is_deleted, snapshottable_at, point_id, copied_tree, tree_below, end_tree, lines_between, began_at, report_page, is_foreign, has_moved}
use Rattle.hs_plain.specs.Report.{report}
use Rattle.hs_plain.specs.Answer.{answer, reply_to, blanked, claimed, is_plain_reply, is_modifying, uses_store}
use Rattle.hs_plain.specs.Replay.{plain_after, is_proper}
use Rattle.hs_plain.specs.Valid.{IsValid}
use Rattle.hs_plain.specs.Legal.{Said}
use Rattle.hs_plain.specs.Joined.{known_state, lines_shown, report_cursor, is_report}
use Rattle.hs_plain.specs.JoinedPages.{page_size, reported_at, GoesOnReport, has_now, gone_or_moved, ReportsJoin}
use Rattle.hs_plain.proofs.Facts.{neither, ok_of}
use Rattle.hs_plain.proofs.ValidTrees as tests
use Rattle.hs_plain.proofs.ValidShapes.{true_false}
use Rattle.hs_plain.proofs.Joined.{Shows, joined, shows_cut}
use Rattle.hs_plain.proofs.Paged.{IsGiven, given, observed, shared_reply, IsLater, later_all}
use Rattle.hs_plain.proofs.ReportEnds.{OwnEnd, own_end, not_foreign, own_snapshottable, point_own, StillOwn, still_own, nothing_now}
use Rattle.hs_plain.proofs.Ticks.{tick-replay}
use Rattle.hs_plain.proofs.Validity.{valid-replay}

-- ---- what a reply shows

lines-blank : (reply : Reply) → lines_shown (blanked reply) ≡ lines_shown reply
lines-blank (replies.Report lines next) = refl
lines-blank reply = refl

cursor-blank : (reply : Reply) → report_cursor (blanked reply) ≡ report_cursor reply
cursor-blank (replies.Report lines next) = refl
cursor-blank reply = refl

short-blank : (begun : ReportCursor) (reply : Reply) → gone_or_moved begun (blanked reply) ≡ gone_or_moved begun reply
short-blank begun (replies.Refused why) = refl
short-blank begun reply = refl

report-blank : (reply : Reply) → is_report (blanked reply) ≡ is_report reply
report-blank (replies.Report lines next) = refl
report-blank reply = refl

report-plain : (reply : Reply) → is_report reply ≡ true → is_plain_reply reply ≡ true
report-plain (replies.Report lines next) page = refl
report-plain reply page = absurd (cc)

abbrev cursor_of : Said → Option ReportCursor
cursor_of said = report_cursor said.told.reply

abbrev shown_by : Said → List Line
shown_by said = lines_shown said.told.reply

abbrev is_short : ReportCursor → Said → Bool
is_short begun said = gone_or_moved begun said.told.reply

-- what a call that goes on is answered, by what each test says
abbrev tested : Bool → Bool → Bool → Bool → Refusal → Reply → Reply
tested gone elsewhere foreign moved why page =
    reply_to (refuse_if gone Gone >>= λ _. refuse_if elsewhere NotSnapshottable >>= λ _. refuse_if foreign NoSnapshot >>= λ _. refuse_if moved why >>= λ _. Ok page)

-- the cursor of a later page: the same report, from another line on
abbrev further_on : ReportCursor → ℕ → ℕ → ReportCursor
further_on begun tick index = record begun { tick = Some tick; index = index }

-- a later page goes on in a report of which an end at least is a snapshot
record IsOf (begun : ReportCursor) (tick : ℕ) (cursor : ReportCursor) : Type 0 where
  is : cursor ≡ further_on begun tick cursor.index
  frozen : (begun.from.0 == 0 && begun.to.0 == 0) ≡ false

abbrev ShowsLines : ReportCursor → ℕ → List Line → List Line → Said → Type 0
ShowsLines begun tick whole left said = Shows GoesOnReport cursor_of shown_by (is_short begun) (λ cursor. drop cursor.index whole) (IsOf begun tick) left said

zero_within : (n : ℕ) → nat_le 0 n ≡ true
zero_within n = grind (arith, nat_tests)

same_number : (a b : ℕ) → (a == b) ≡ true → a ≡ b
same_number a b e = grind (arith, nat_tests)

number_self : (n : ℕ) → (n == n) ≡ true
number_self n = grind (arith, nat_tests)

not_not : (b : Bool) → not b ≡ false → b ≡ true
not_not true e = refl
not_not false e = absurd (cc)

-- of an empty report nothing is left
left_frozen : (whole : List Line) (end : ℕ) (from_now to_now : Bool) → (from_now ≡ true → to_now ≡ true → whole ≡ []) → nat_le (length whole) end ≡ false → (from_now && to_now) ≡ false
left_frozen whole end true true empty left = absurd (true_false (ap (λ (w : List Line). nat_le (length w) end) (empty refl refl) ∙ zero_within end) left)
left_frozen whole end true false empty left = refl
left_frozen whole end false to_now empty left = refl

shows_lines : (tells : Bool) (begun cursor : ReportCursor) (tick size : ℕ) (whole : List Line) (said : Said) → ((index : ℕ) → record cursor { tick = Some tick; index = index } ≡ further_on begun tick index) →
    ((begun.from.0 == 0) ≡ true → (begun.to.0 == 0) ≡ true → whole ≡ []) → claimed tells said.told.reply ≡ claimed tells (lines_page cursor tick whole size) → ShowsLines begun tick whole (drop cursor.index whole) said
shows_lines tells begun cursor tick size whole said same empty is =
    shows_cut GoesOnReport cursor_of shown_by (is_short begun) (λ cursor. cursor.index) (IsOf begun tick) whole cursor.index size said (record cursor { tick = Some tick; index = cursor.index + size })
    (observed lines_shown lines-blank tells said.told.reply (lines_page cursor tick whole size) is)
    (observed report_cursor cursor-blank tells said.told.reply (lines_page cursor tick whole size) is)
    (λ left. record { is = same (cursor.index + size); frozen = left_frozen whole (cursor.index + size) (begun.from.0 == 0) (begun.to.0 == 0) empty left })
    refl

-- ---- each further page

module _ (tells : Bool) (most : ℕ) (journal : List Entry) (caller : CallerId) (n : ℕ) (begun : ReportCursor) (tick : ℕ) where
  abbrev at : ℕ → State (List ℕ)
  at k = plain_after (take k journal)

  abbrev whole : List Line
  whole = lines_between (at n) begun.root begun.from begun.to

  -- what the first page says of the report
  record Begins : Type 0 where
    within : n ≤ length journal
    from_own : (begun.from.0 == 0) ≡ false → OwnEnd (at n) begun.root begun.from
    to_own : (begun.to.0 == 0) ≡ false → OwnEnd (at n) begun.root begun.to
    ticked : has_now begun ≡ true → tick ≡ n

  tick_at : (k : ℕ) → k ≤ length journal → (at k).tick ≡ k
  tick_at k le = tick-replay plain_files (take k journal) ∙ length-take-le k journal le

  module _ (begins : Begins) (said : Said) (later : IsLater tells most journal caller n said) where
    abbrev position : ℕ
    position = said.told.position

    -- an end that isn't gone is still the directory's
    own_later : (end : SnapId) → ((end.0 == 0) ≡ false → OwnEnd (at n) begun.root end) → is_deleted (at position) end ≡ false → (end.0 == 0) ≡ false → StillOwn (at n) (at position) begun.root end
    own_later end was isnt nonzero = still_own journal n position begun.root end later.behind nonzero (was nonzero) isnt

    not_foreign_later : (end : SnapId) → ((end.0 == 0) ≡ false → OwnEnd (at n) begun.root end) → is_deleted (at position) end ≡ false → is_foreign (at position) begun.root end ≡ false
    not_foreign_later end was isnt = by (end.0 == 0) refl
      where
        by : (b : Bool) → (end.0 == 0) ≡ b → is_foreign (at position) begun.root end ≡ false
        by true e = ap (λ b. not b && not (Rattle.std.specs.List.list_any (λ member. member.snapshot.0 == end.0 && Rattle.hs_plain.specs.Tree.same_inode member.directory begun.root) (at position).members)) e
        by false e = not_foreign (at position) begun.root end (own_later end was isnt e).own

    -- and has the tree that it had, if it is a snapshot or the tick is the same
    same_end : (end : SnapId) → ((end.0 == 0) ≡ false → OwnEnd (at n) begun.root end) → is_deleted (at position) end ≡ false → ((end.0 == 0) ≡ true → n ≡ position) → end_tree (at position) begun.root end ≡ end_tree (at n) begun.root end
    same_end end was isnt still = by (end.0 == 0) refl
      where
        by : (b : Bool) → (end.0 == 0) ≡ b → end_tree (at position) begun.root end ≡ end_tree (at n) begun.root end
        by true e = ap (λ k. end_tree (at k) begun.root end) (sym (still e))
        by false e =
            ap (λ b. cond b (tree_below (at position).tree (place_of (at position).tree begun.root)) (copied_tree (at position).members end)) e
            ∙ (own_later end was isnt e).same
            ∙ sym (ap (λ b. cond b (tree_below (at n).tree (place_of (at n).tree begun.root)) (copied_tree (at n).members end)) e)

    -- an end at least is a snapshot, so the directory is snapshottable
    still_there : is_deleted (at position) begun.from ≡ false → is_deleted (at position) begun.to ≡ false → (a b : Bool) → (begun.from.0 == 0) ≡ a → (begun.to.0 == 0) ≡ b → (a && b) ≡ false → is_snapshottable (at position) begun.root ≡ true
    still_there from_isnt to_isnt false b e f frozen = own_snapshottable (at position) begun.root begun.from (valid-replay plain_files (take position journal)) (own_later begun.from begins.from_own from_isnt e).own
    still_there from_isnt to_isnt true false e f frozen = own_snapshottable (at position) begun.root begun.to (valid-replay plain_files (take position journal)) (own_later begun.to begins.to_own to_isnt f).own
    still_there from_isnt to_isnt true true e f frozen = absurd (cc)

    same_tick : (now : Bool) → (now && not (tick == (at position).tick)) ≡ false → now ≡ true → tick ≡ (at position).tick
    same_tick true still now = same_number tick (at position).tick (not_not (tick == (at position).tick) still)
    same_tick false still now = absurd (cc)

    or_left : (a b : Bool) → a ≡ true → (a || b) ≡ true
    or_left true b e = refl
    or_left false b e = absurd (cc)

    or_right : (a b : Bool) → b ≡ true → (a || b) ≡ true
    or_right true b e = refl
    or_right false b e = e

    -- the report is the one that began
    same_report : is_deleted (at position) begun.from ≡ false → is_deleted (at position) begun.to ≡ false → (has_now begun && not (tick == (at position).tick)) ≡ false → lines_between (at position) begun.root begun.from begun.to ≡ whole
    same_report from_isnt to_isnt still =
        let same : has_now begun ≡ true → n ≡ position = λ now. sym (begins.ticked now) ∙ same_tick (has_now begun) still now ∙ tick_at position later.legal.within in
        ap (λ (tree : _). report tree (end_tree (at position) begun.root begun.to)) (same_end begun.from begins.from_own from_isnt (λ e. same (or_left (begun.from.0 == 0) (begun.to.0 == 0) e)))
        ∙ ap (λ (tree : _). report (end_tree (at n) begun.root begun.from) tree) (same_end begun.to begins.to_own to_isnt (λ e. same (or_right (begun.from.0 == 0) (begun.to.0 == 0) e)))

    ended : (left : List Line) (reply : Reply) → gone_or_moved begun reply ≡ true → report_cursor reply ≡ None → lines_shown reply ≡ [] → claimed tells said.told.reply ≡ claimed tells reply → ShowsLines begun tick whole left said
    ended left reply short none nothing is = inl (
      observed (gone_or_moved begun) (short-blank begun) tells said.told.reply reply is ∙ short,
      observed report_cursor cursor-blank tells said.told.reply reply is ∙ none,
      observed lines_shown lines-blank tells said.told.reply reply is ∙ nothing,
    )

    gone_either : (a b : Bool) → a ≡ true → (a || b) ≡ true
    gone_either true b e = refl
    gone_either false b e = absurd (cc)

    abbrev size : ℕ
    size = page_size said.call

    abbrev moved : Bool
    moved = has_now begun && not (tick == (at position).tick)

    abbrev elsewhere : Bool
    elsewhere = not (is_snapshottable (at position) begun.root)

    abbrev foreign : Bool
    foreign = is_foreign (at position) begun.root begun.from || is_foreign (at position) begun.root begun.to

    abbrev replied : ReportCursor → Bool → Bool → Bool → Bool → Reply
    replied cursor a b c d = tested a b c d (Moved tick (at position).tick) (lines_page (further_on begun tick cursor.index) tick (lines_between (at position) begun.root begun.from begun.to) size)

    step : (cursor : ReportCursor) → is_proper journal ≡ true → IsOf begun tick cursor → GoesOnReport said cursor → ShowsLines begun tick whole (drop cursor.index whole) said
    step cursor proper of goes =
        elim (shared_reply tells most journal caller said proper later.legal (ap is_modifying goes) (ap uses_store goes)) as (λ _. ShowsLines begun tick whole (drop cursor.index whole) said) [
          | inl plain ↦ by_gone (is_deleted (at position) begun.from || is_deleted (at position) begun.to) refl (plain ∙ ap (claimed tells) there)
          | inr memory ↦ ended (drop cursor.index whole) replies.NoMemory refl refl refl (ap (claimed tells) memory)
        ]
      where
        there : answer (at position) said.call ≡ replied cursor (is_deleted (at position) begun.from || is_deleted (at position) begun.to) elsewhere foreign moved
        there = ap (answer (at position)) goes ∙ ap (λ (c : ReportCursor). answer (at position) (calls.ReportNext c size)) of.is

        by_moved : is_deleted (at position) begun.from ≡ false → is_deleted (at position) begun.to ≡ false → (b : Bool) → moved ≡ b → claimed tells said.told.reply ≡ claimed tells (replied cursor false false false moved) → ShowsLines begun tick whole (drop cursor.index whole) said
        by_moved from_isnt to_isnt true e is =
            ended (drop cursor.index whole) (replies.Refused (Moved tick (at position).tick)) (ap (λ b. b && true) (tests.first (has_now begun) (not (tick == (at position).tick)) e)) refl refl (is ∙ ap (λ b. claimed tells (replied cursor false false false b)) e)
        by_moved from_isnt to_isnt false e is =
            shows_lines tells begun (further_on begun tick cursor.index) tick size whole said (λ index. refl)
            (λ from_now to_now. absurd (true_false (ap (λ b. b && begun.to.0 == 0) from_now ∙ to_now) of.frozen))
            (is ∙ ap (λ b. claimed tells (replied cursor false false false b)) e ∙ ap (λ (w : List Line). claimed tells (lines_page (further_on begun tick cursor.index) tick w size)) (same_report from_isnt to_isnt e))

        by_gone : (b : Bool) → (is_deleted (at position) begun.from || is_deleted (at position) begun.to) ≡ b →
            claimed tells said.told.reply ≡ claimed tells (replied cursor (is_deleted (at position) begun.from || is_deleted (at position) begun.to) elsewhere foreign moved) → ShowsLines begun tick whole (drop cursor.index whole) said
        by_gone true e is = ended (drop cursor.index whole) (replies.Refused Gone) refl refl refl (is ∙ ap (λ b. claimed tells (replied cursor b elsewhere foreign moved)) e)
        by_gone false e is =
            let isnt : (is_deleted (at position) begun.from ≡ false) × (is_deleted (at position) begun.to ≡ false) = neither (is_deleted (at position) begun.from) (is_deleted (at position) begun.to) e in
            by_moved isnt.0 isnt.1 moved refl
            (is ∙ ap (λ b. claimed tells (replied cursor b elsewhere foreign moved)) e
            ∙ ap (λ b. claimed tells (replied cursor false (not b) foreign moved)) (still_there isnt.0 isnt.1 (begun.from.0 == 0) (begun.to.0 == 0) refl refl of.frozen)
            ∙ ap (λ b. claimed tells (replied cursor false false (b || is_foreign (at position) begun.root begun.to) moved)) (not_foreign_later begun.from begins.from_own isnt.0)
            ∙ ap (λ b. claimed tells (replied cursor false false b moved)) (not_foreign_later begun.to begins.to_own isnt.1))

-- ---- the first page

record FirstPage (tells : Bool) (state : State (List ℕ)) (begun : ReportCursor) (size : ℕ) (reply : Reply) : Type 0 where
  from_own : is_foreign state begun.root begun.from ≡ false
  to_own : is_foreign state begun.root begun.to ≡ false
  still : has_moved state begun ≡ false
  is : claimed tells reply ≡ claimed tells (report_page state begun size)

no : false ≡ true → ⊥
no e = cc

module _ (tells : Bool) (state : State (List ℕ)) (reply : Reply) (page : is_report reply ≡ true) where
  -- a reply that is no report isn't what was told
  no_page : (other : Reply) → is_report other ≡ false → claimed tells reply ≡ claimed tells other → ⊥
  no_page other isnt e = no (sym isnt ∙ sym (observed is_report report-blank tells reply other e) ∙ page)

  refuse : (b : Bool) (why : Refusal) (rest : Asked Reply) → claimed tells reply ≡ claimed tells (reply_to (refuse_if b why >>= λ _. rest)) → (b ≡ false) × (claimed tells reply ≡ claimed tells (reply_to rest))
  refuse true why rest e = absurd (no_page (replies.Refused why) refl e)
  refuse false why rest e = (refl, e)

  abbrev asked_cursor : InodeId → SnapId → SnapId → ReportCursor
  asked_cursor root first last = record { root = root; from = first; to = last; tick = None; index = 0 }

  abbrev begin : InodeId → SnapId → SnapId → Asked ReportCursor
  begin root first last = Ok (asked_cursor root first last)

  first_page_is : (call : Call) (begun : ReportCursor) → reported_at state call ≡ Ok begun → claimed tells reply ≡ claimed tells (answer state call) → FirstPage tells state begun (page_size call) reply
  first_page_is (calls.Report text from to size) begun asks is = by_root (given (snapshottable_at state text) (λ root. point_id state root from >>= λ first. point_id state root to >>= begin root first) begun asks)
    where
      told : (root : InodeId) (first last : SnapId) → snapshottable_at state text ≡ Ok root → point_id state root from ≡ Ok first → point_id state root to ≡ Ok last → asked_cursor root first last ≡ begun → FirstPage tells state begun size reply
      told root first last at one other same =
          subst (λ (c : ReportCursor). FirstPage tells state c size reply) same (record {
            from_own = point_own state root from first one;
            to_own = point_own state root to last other;
            still = unmoved (first.0 == 0 || last.0 == 0);
            is = is ∙ ap (claimed tells) (
                ap (λ (a : Asked InodeId). reply_to (a >>= λ root. point_id state root from >>= λ first. point_id state root to >>= λ last. Ok (report_page state (asked_cursor root first last) size))) at
                ∙ ap (λ (a : Asked SnapId). reply_to (a >>= λ first. point_id state root to >>= λ last. Ok (report_page state (asked_cursor root first last) size))) one
                ∙ ap (λ (a : Asked SnapId). reply_to (a >>= λ last. Ok (report_page state (asked_cursor root first last) size))) other);
          })
        where
          unmoved : (b : Bool) → (b && not (state.tick == state.tick)) ≡ false
          unmoved true = ap not (number_self state.tick)
          unmoved false = refl

      by_last : (root : InodeId) (first : SnapId) → snapshottable_at state text ≡ Ok root → point_id state root from ≡ Ok first → IsGiven (point_id state root to) (begin root first) begun → FirstPage tells state begun size reply
      by_last root first at one last = told root first last.x at one last.gave (ok_of (asked_cursor root first last.x) begun last.then)

      by_first : (root : InodeId) → snapshottable_at state text ≡ Ok root → IsGiven (point_id state root from) (λ first. point_id state root to >>= begin root first) begun → FirstPage tells state begun size reply
      by_first root at first = by_last root first.x at first.gave (given (point_id state root to) (begin root first.x) begun first.then)

      by_root : IsGiven (snapshottable_at state text) (λ root. point_id state root from >>= λ first. point_id state root to >>= begin root first) begun → FirstPage tells state begun size reply
      by_root root = by_first root.x root.gave (given (point_id state root.x from) (λ first. point_id state root.x to >>= begin root.x first) begun root.then)
  first_page_is (calls.ReportNext cursor size) begun asks is =
      subst (λ (c : ReportCursor). FirstPage tells state c size reply) (ok_of cursor begun asks)
      (let live : _ = refuse (is_deleted state cursor.from || is_deleted state cursor.to) Gone _ is in
      let there : _ = refuse (not (is_snapshottable state cursor.root)) NotSnapshottable _ live.1 in
      let own : _ = refuse (is_foreign state cursor.root cursor.from || is_foreign state cursor.root cursor.to) NoSnapshot _ there.1 in
      let still : _ = refuse (has_moved state cursor) (Moved (began_at state.tick cursor.tick) state.tick) (Ok (report_page state cursor size)) own.1 in
      record {
        from_own = (neither (is_foreign state cursor.root cursor.from) (is_foreign state cursor.root cursor.to) own.0).0;
        to_own = (neither (is_foreign state cursor.root cursor.from) (is_foreign state cursor.root cursor.to) own.0).1;
        still = still.0;
        is = still.1;
      })
  first_page_is call begun asks is = absurd (cc)

pub reports-join : ReportsJoin
reports-join tells most journal caller first more begun answered further asks page =
    let n : ℕ = first.told.position in
    let now : State (List ℕ) = known_state journal first in
    let valid : IsValid now = valid-replay plain_files (take n journal) in
    let tick : ℕ = began_at now.tick begun.tick in
    let front : FirstPage tells now begun (page_size first.call) first.told.reply = first_page_is tells now first.told.reply page first.call begun asks (answered.each.0.answered (report-plain first.told.reply page)) in
    let within : n ≤ length journal = answered.each.0.within in
    let begins : Begins tells most journal caller n begun tick = record {
      within = within;
      from_own = λ nonzero. own_end now begun.root begun.from valid nonzero front.from_own;
      to_own = λ nonzero. own_end now begun.root begun.to valid nonzero front.to_own;
      ticked = λ is_now. ticked (has_now begun) tick now.tick front.still is_now ∙ tick_at tells most journal caller n begun tick n within;
    } in
    joined GoesOnReport cursor_of shown_by (is_short begun) (λ cursor. drop cursor.index (lines_between now begun.root begun.from begun.to)) (IsOf begun tick) (IsLater tells most journal caller n)
    (λ said cursor later of goes. step tells most journal caller n begun tick begins said later cursor answered.proper of goes)
    first more (drop begun.index (lines_between now begun.root begun.from begun.to))
    (shows_lines tells begun begun tick (page_size first.call) (lines_between now begun.root begun.from begun.to) first (λ index. refl) (nothing_now now begun.root begun.from begun.to valid) front.is)
    further
    (later_all tells most journal caller first more answered.places answered.each.1)
  where
    ticked : (now : Bool) (tick current : ℕ) → (now && not (tick == current)) ≡ false → now ≡ true → tick ≡ current
    ticked true tick current still is_now = same_number tick current (not_not (tick == current) still)
    ticked false tick current still is_now = absurd (cc)

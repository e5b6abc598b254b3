-- The first calls of a sync, one by one, are its first steps.
use Rattle.std.proofs.Common.{◌≡◌, ℕ, Bool, true, false, not, ◌||◌, None, List, [], ◌∷◌, ◌++◌, Result, Ok, Err, inl, inr, refl, ap, sym, ◌∙◌, subst}
use Rattle.std.specs.Result.{IsErrAnd}
use Rattle.hs_types.specs.declared.ids.Side.{Side}
use Rattle.hs_types.specs.declared.ids.Side.TheVariants.{Source, Target}
use Rattle.hs_types.specs.declared.call.Call.TheVariants as calls
use Rattle.hs_types.specs.declared.call.ReportCursor.{ReportCursor}
use Rattle.hs_types.specs.declared.refusal.Refusal.TheVariants.{Gone, NotSnapshottable, NoSnapshot, Moved}
use Rattle.hs_types.specs.declared.reply.Answered.{Answered}
use Rattle.hs_types.specs.declared.reply.Line.{Line}
use Rattle.hs_types.specs.declared.reply.Reply.{Reply}
use Rattle.hs_types.specs.declared.reply.Reply.TheVariants as replies
use Rattle.hs_plain.specs.declared.state.State.{State}
use Rattle.hs_plain.specs.Asked.{Asked, ◌>>=◌, refuse_if}
use Rattle.hs_plain.specs.State.{is_snapshottable}
use Rattle.hs_plain.specs.Reading.{is_deleted, is_foreign, has_moved, began_at, report_page, report_next_reply}
use Rattle.hs_plain.specs.Premises.{now}
use Rattle.hs_plain.specs.Answer.{reply_to, blanked, is_ok_reply}
use Rattle.hs_plain.specs.Joined.{lines_shown, is_report}
use Rattle.page_join.specs.Links.{Known, IsCall}
use Rattle.copy_workers.specs.declared.copied.Look.{Look}
use Rattle.copy_workers.proofs.Replies.{of_kind}
use Rattle.distcp_sync.specs.declared.answer.SyncAnswer.{SyncAnswer}
use Rattle.distcp_sync.specs.declared.answer.SyncAnswer.TheVariants as answers
use Rattle.distcp_sync.specs.declared.beginning.Root.{Root}
use Rattle.distcp_sync.specs.declared.report.SyncJob.{SyncJob}
use Rattle.distcp_sync.specs.declared.start.SyncStart.{SyncStart}
use Rattle.distcp_sync.specs.Told.{ask_of, begun, start_by, id_named, unchanged_call, root_answer, OrNoMemory}
use Rattle.distcp_sync.specs.inside.Trace.{IsLooked, IsLookedOk, AreRoots, IsBegun, no_first, bad_first, no_second, bad_second, not_begun, no_third, bad_third, changed, begins}
use Rattle.distcp_sync.specs.inside.Begins.{Gives, if_unchanged, if_same, IsAsked, unasked, asked, IsAskedWith, IsFound, IsFoundOrEnded, IsCompared, uncompared, compared, IsComparedWith}

-- a result of an error that came from another
pub err_at : {A : Type 0} (result : Result A SyncAnswer) (answer : SyncAnswer) (P : Result A SyncAnswer → Type 0) → IsErrAnd result (λ given. given ≡ answer) → P (Err answer) → P result
err_at (Ok value) answer P gives p = absurd gives
err_at (Err given) answer P gives p = subst (λ (a : SyncAnswer). P (Err a)) (sym gives) p

-- ---- the replies of the roots

-- of an Ok reply that gives no snapshots there is want of memory alone
only_wanting : (side : Side) (reply : Reply) (answer : SyncAnswer) → is_ok_reply reply ≡ true → OrNoMemory (root_answer side reply) answer → answer ≡ answers.NoMemory
only_wanting side reply answer ok (inr same) = same
only_wanting side reply answer ok (inl same) = same ∙ none reply ok
  where
    none : (reply : Reply) → is_ok_reply reply ≡ true → root_answer side reply ≡ answers.NoMemory
    none (replies.Refused why) ok = absurd (cc)
    none reply ok = refl

-- a root whose snapshots were told
record IsToldRoot (side : Side) (path : List ℕ) (old new : Known) (later : List Look) (root : Root) : Type 0 where
  look : Look
  later_is : later ≡ look ∷ []
  done : IsLookedOk side old new (calls.Snaps path) look
  reply_is : look.reply.reply ≡ replies.Snaps root.dir root.list

-- a root that was told had its call made and done
told_root : (side : Side) (path : List ℕ) (old new : Known) (later : List Look) (root : Root) → IsAsked side path old new later (Ok root) → IsToldRoot side path old new later root
told_root side path old new later root (asked look result looked told) = record { look = look; later_is = refl; done = record { looked = looked; ok = ap is_ok_reply told }; reply_is = told }

-- what both roots tell
told_start : (job : SyncJob) (one two : Reply) (left right : Root) → one ≡ replies.Snaps left.dir left.list → two ≡ replies.Snaps right.dir right.list →
    begun (ask_of job) one two ≡ start_by (ask_of job) left.dir right.dir (id_named left.list job.from) (id_named left.list job.to) (id_named right.list job.from)
told_start job one two left right e f = ap (λ (reply : Reply). begun (ask_of job) reply two) e ∙ ap (λ (reply : Reply). begun (ask_of job) (replies.Snaps left.dir left.list) reply) f

module _ (job : SyncJob) (source source_then target : Known) where
  -- the reply of the source's root, or want of memory before it, is the end
  first_ended : (later : List Look) (answer : SyncAnswer) → IsAsked Source job.source_root source source_then later (Err answer) → IsBegun job source source_then target target later (Err answer)
  first_ended later answer (unasked same) = no_first same refl
  first_ended later answer (asked look result looked told) = by (is_ok_reply look.reply.reply) refl
    where
      by : (ok : Bool) → is_ok_reply look.reply.reply ≡ ok → IsBegun job source source_then target target (look ∷ []) (Err answer)
      by true e = subst (λ (a : SyncAnswer). IsBegun job source source_then target target (look ∷ []) (Err a)) (sym (only_wanting Source look.reply.reply answer e told)) (no_second look (record { looked = looked; ok = e }) refl)
      by false e = bad_first look answer (record { looked = looked; bad = e }) refl told

  -- the source's root ended it
  pub ends_first : (before after : List Look) (answer : SyncAnswer) → before ≡ [] → IsAskedWith Source job.source_root source source_then before after (Err answer) → IsBegun job source source_then target target after (Err answer)
  ends_first before after answer none one =
      subst (λ (looks : List Look). IsBegun job source source_then target target looks (Err answer)) (sym (one.looks ∙ ap (λ (looks : List Look). looks ++ one.later) none)) (first_ended one.later answer one.asked)

module _ (job : SyncJob) (source source_then target target_then : Known) where
  -- the first steps between these histories
  abbrev Begun : List Look → Result SyncStart SyncAnswer → Type 0
  Begun looks result = IsBegun job source source_then target target_then looks result

  -- and so is that of the target's root
  second_ended : (one : Look) (later : List Look) (answer : SyncAnswer) → IsLookedOk Source source source_then (calls.Snaps job.source_root) one → IsAsked Target job.target_root target target_then later (Err answer) → Begun (one ∷ later) (Err answer)
  second_ended one later answer done (unasked same) = no_second one done same
  second_ended one later answer done (asked look result looked told) = by (is_ok_reply look.reply.reply) refl
    where
      by : (ok : Bool) → is_ok_reply look.reply.reply ≡ ok → Begun (one ∷ look ∷ []) (Err answer)
      by true e = subst (λ (a : SyncAnswer). Begun (one ∷ look ∷ []) (Err a)) (sym (only_wanting Target look.reply.reply answer e told)) (no_third one look (record { first = done; second = record { looked = looked; ok = e } }))
      by false e = bad_second one look answer done (record { looked = looked; bad = e }) told

  -- the looks of both roots
  both_looks : (before now after later more : List Look) (one : Look) → before ≡ [] → now ≡ before ++ later → later ≡ one ∷ [] → after ≡ now ++ more → after ≡ one ∷ more
  both_looks before middle after later more one none first is second = second ∙ ap (λ (looks : List Look). looks ++ more) (first ∙ ap (λ (looks : List Look). looks ++ later) none ∙ is)

  -- the target's root ended it
  pub ends_second : (before now after : List Look) (left : Root) (answer : SyncAnswer) → before ≡ [] → IsAskedWith Source job.source_root source source_then before now (Ok left) →
      IsAskedWith Target job.target_root target target_then now after (Err answer) → Begun after (Err answer)
  ends_second before now after left answer none one two =
      let root = told_root Source job.source_root source source_then one.later left one.asked in
      subst (λ (looks : List Look). Begun looks (Err answer)) (sym (both_looks before now after one.later two.later root.look none one.looks root.later_is two.looks))
      (second_ended root.look two.later answer root.done two.asked)

  -- both replies tell where the sync begins, or why it doesn't
  given : (one two : Look) (expected result : Result SyncStart SyncAnswer) → AreRoots job source source_then target target_then one two → begun (ask_of job) one.reply.reply two.reply.reply ≡ expected → Gives expected result →
      IsFoundOrEnded job source source_then target target_then (one ∷ two ∷ []) result
  given one two (Ok start) result roots is same =
      subst (IsFoundOrEnded job source source_then target target_then (one ∷ two ∷ [])) (sym same) (record { one = one; two = two; looks_are = refl; roots = roots; begins = is })
  given one two (Err expected) (Ok start) roots is gives = absurd gives
  given one two (Err expected) (Err answer) roots is gives = not_begun one two expected answer roots is gives

  -- both roots were told
  pub both_told : (before now after : List Look) (left right : Root) (result : Result SyncStart SyncAnswer) → before ≡ [] → IsAskedWith Source job.source_root source source_then before now (Ok left) →
      IsAskedWith Target job.target_root target target_then now after (Ok right) →
      Gives (start_by (ask_of job) left.dir right.dir (id_named left.list job.from) (id_named left.list job.to) (id_named right.list job.from)) result → IsFoundOrEnded job source source_then target target_then after result
  both_told before now after left right result none one two gives =
      let first = told_root Source job.source_root source source_then one.later left one.asked in
      let second = told_root Target job.target_root target target_then two.later right two.asked in
      subst (λ (looks : List Look). IsFoundOrEnded job source source_then target target_then looks result)
      (sym (both_looks before now after one.later two.later first.look none one.looks first.later_is two.looks ∙ ap (λ (looks : List Look). first.look ∷ looks) second.later_is))
      (given first.look second.look (start_by (ask_of job) left.dir right.dir (id_named left.list job.from) (id_named left.list job.to) (id_named right.list job.from)) result (record { first = first.done; second = second.done })
      (told_start job first.look.reply.reply second.look.reply.reply left right first.reply_is second.reply_is) gives)

-- ---- the reply about the target's changes

-- a store that doesn't tell its bytes tells reports
report-blank : (reply : Reply) → is_report (blanked reply) ≡ is_report reply
report-blank (replies.Report lines next) = refl
report-blank reply = refl

-- a report is an Ok reply
report_ok : (reply : Reply) → is_report reply ≡ true → is_ok_reply reply ≡ true
report_ok (replies.Report lines next) e = refl
report_ok reply e = absurd (cc)

-- a report, or no Ok reply
abbrev ReportOrNone : Reply → Type 0
ReportOrNone reply = is_report reply ≡ false → is_ok_reply reply ≡ false

-- where the tests behind one give such a reply, so does it
tested : {X : Type 0} (found : Asked X) (next : X → Asked Reply) → ((x : X) → ReportOrNone (reply_to (next x))) → ReportOrNone (reply_to (found >>= next))
tested (Ok x) next rest = rest x
tested (Err why) next rest = λ e. refl

-- a report is such a reply
report_so : (reply : Reply) → is_report reply ≡ true → ReportOrNone reply
report_so reply is isnt = absurd (apart (sym is ∙ isnt))
  where
    apart : true ≡ false → ⊥
    apart e = cc

-- and so is the answer to a call for the next page
next_report : (state : State (List ℕ)) (cursor : ReportCursor) (size : ℕ) → ReportOrNone (reply_to (report_next_reply state cursor size))
next_report state cursor size =
    let paged : Asked Reply = Ok (report_page state cursor size) in
    let still : Asked (Unit {0}) = refuse_if (has_moved state cursor) (Moved (began_at state.tick cursor.tick) state.tick) in
    let own : Asked (Unit {0}) = refuse_if (is_foreign state cursor.root cursor.from || is_foreign state cursor.root cursor.to) NoSnapshot in
    let there : Asked (Unit {0}) = refuse_if (not (is_snapshottable state cursor.root)) NotSnapshottable in
    tested (refuse_if (is_deleted state cursor.from || is_deleted state cursor.to) Gone) (λ x. there >>= λ y. own >>= λ z. still >>= λ w. paged)
    (λ x. tested there (λ y. own >>= λ z. still >>= λ w. paged) (λ y. tested own (λ z. still >>= λ w. paged) (λ z. tested still (λ w. paged) (λ w. report_so (report_page state cursor size) refl))))

-- any other reply is no Ok reply
report_or_ended : (start : SyncStart) (old new : Known) (told : Answered) → IsCall old new (unchanged_call start) told → is_report told.reply ≡ false → is_ok_reply told.reply ≡ false
report_or_ended start = of_kind is_report report-blank (unchanged_call start) (λ state. next_report state (record { root = start.target; from = start.base; to = now; tick = None; index = 0 }) 1)

module _ (job : SyncJob) (source source_then target target_now target_then : Known) (start : SyncStart) (one two : Look)
    (roots : AreRoots job source source_then target target_now one two) (is : begun (ask_of job) one.reply.reply two.reply.reply ≡ Ok start) where
  -- a line was told
  by_lines : (look : Look) (lines : List Line) (answer : SyncAnswer) → IsLookedOk Target target_now target_then (unchanged_call start) look → lines_shown look.reply.reply ≡ lines → Gives (if_unchanged lines) (Err answer) →
      IsBegun job source source_then target target_then (one ∷ two ∷ look ∷ []) (Err answer)
  by_lines look [] answer done shown gives = absurd (cc)
  by_lines look (line ∷ lines) answer done shown gives = changed one two look start target_now line lines answer roots is done shown gives

  -- a report with lines, or a reply that is none
  by_report : (look : Look) (report : Bool) (answer : SyncAnswer) → IsLooked Target target_now target_then (unchanged_call start) look → is_report look.reply.reply ≡ report → Gives (if_same look report) (Err answer) →
      IsBegun job source source_then target target_then (one ∷ two ∷ look ∷ []) (Err answer)
  by_report look true answer looked e gives = by_lines look (lines_shown look.reply.reply) answer (record { looked = looked; ok = report_ok look.reply.reply e }) refl gives
  by_report look false answer looked e gives = bad_third one two look start target_now answer roots is (record { looked = looked; bad = report_or_ended start target_now target_then look.reply looked.called e }) gives

  -- the reply about the changes, or want of memory before it, is the end
  third_ended : (later : List Look) (answer : SyncAnswer) → IsCompared start target_now target_then later (Err answer) → IsBegun job source source_then target target_then (one ∷ two ∷ later) (Err answer)
  third_ended later answer (uncompared same) = no_third one two (subst (λ (now : Known). AreRoots job source source_then target now one two) (sym same) roots)
  third_ended later answer (compared look result looked gives) = by_report look (is_report look.reply.reply) answer looked refl gives

  -- a report without lines
  same_report : (look : Look) (report : Bool) (lines : List Line) → IsLooked Target target_now target_then (unchanged_call start) look → is_report look.reply.reply ≡ report → lines_shown look.reply.reply ≡ lines → Gives (if_same look report) (Ok tt) →
      IsBegun job source source_then target target_then (one ∷ two ∷ look ∷ []) (Ok start)
  same_report look false lines looked e shown gives = absurd gives
  same_report look true [] looked e shown gives = begins one two look start target_now roots is (record { looked = looked; ok = report_ok look.reply.reply e }) shown
  same_report look true (line ∷ lines) looked e shown gives = absurd (subst (λ (shown : List Line). Gives (if_unchanged shown) (Ok tt)) shown gives)

  -- nothing was changed
  third_same : (later : List Look) → IsCompared start target_now target_then later (Ok tt) → IsBegun job source source_then target target_then (one ∷ two ∷ later) (Ok start)
  third_same later (compared look result looked gives) = same_report look (is_report look.reply.reply) (lines_shown look.reply.reply) looked refl refl gives

-- where the sync begins, the looks are those of both roots and what came later
module _ (job : SyncJob) (source source_then target target_now target_then : Known) (now after : List Look) (start : SyncStart) (found : IsFound job source source_then target target_now now start) where
  -- the looks, one by one
  all_looks : (later : List Look) → after ≡ now ++ later → after ≡ found.one ∷ found.two ∷ later
  all_looks later is = is ∙ ap (λ (looks : List Look). looks ++ later) found.looks_are

  -- the target's changes ended it
  pub ends_third : (answer : SyncAnswer) → IsComparedWith start target_now target_then now after (Err answer) → IsBegun job source source_then target target_then after (Err answer)
  ends_third answer three =
      subst (λ (looks : List Look). IsBegun job source source_then target target_then looks (Err answer)) (sym (all_looks three.later three.looks))
      (third_ended job source source_then target target_now target_then start found.one found.two found.roots found.begins three.later answer three.compared)

  -- it begins
  pub begins_here : IsComparedWith start target_now target_then now after (Ok tt) → IsBegun job source source_then target target_then after (Ok start)
  begins_here three =
      subst (λ (looks : List Look). IsBegun job source source_then target target_then looks (Ok start)) (sym (all_looks three.later three.looks))
      (third_same job source source_then target target_now target_then start found.one found.two found.roots found.begins three.later three.compared)

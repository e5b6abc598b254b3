-- What replies show of live snapshots.
use Rattle.std.proofs.Common.{◌≡◌, ℕ, ◌<◌, Bool, true, false, cond, ◌&&◌, ◌||◌, ◌==◌, Option, Some, None, Ok, Err, List, [], ◌∷◌, take, refl, ap, sym, subst, ◌∙◌, arith}
use Rattle.std.specs.Prelude.{not, bytes_eq}
use Rattle.std.specs.List.{filter_map, cons_option}
use Rattle.std.proofs.lemmas.Bool.Decides.{Decides-eqb}
use Rattle.hs_types.specs.Names.{Names}
use Rattle.hs_types.specs.declared.ids.InodeId.{InodeId}
use Rattle.hs_types.specs.declared.ids.SnapId.{SnapId}
use Rattle.hs_types.specs.declared.name.SnapItem.{SnapItem}
use Rattle.hs_types.specs.declared.journal.Entry.{Entry}
use Rattle.hs_types.specs.declared.call.Call.TheVariants as calls
use Rattle.hs_types.specs.declared.call.Place.{Place}
use Rattle.hs_types.specs.declared.call.ReportCursor.{ReportCursor}
use Rattle.hs_types.specs.declared.reply.Item.{Item}
use Rattle.hs_types.specs.declared.reply.Reply.{Reply}
use Rattle.hs_types.specs.declared.reply.Reply.TheVariants as replies
use Rattle.hs_types.specs.declared.refusal.Refusal.{Refusal}
use Rattle.hs_types.specs.declared.refusal.Refusal.TheVariants.{NotDir, NoSnapshot, NotSnapshottable, Gone, Moved}
use Rattle.hs_plain.specs.declared.state.Node.{Node}
use Rattle.hs_plain.specs.declared.state.Body.{Body}
use Rattle.hs_plain.specs.declared.state.Body.TheVariants.{File}
use Rattle.hs_plain.specs.declared.state.Member.{Member}
use Rattle.hs_plain.specs.declared.state.State.{State}
use Rattle.hs_plain.specs.Asked.{Asked, ◌>>=◌, refuse_if, some_asked}
use Rattle.hs_plain.specs.Tree.{is_dir, listing, place_of, same_inode}
use Rattle.hs_plain.specs.State.{is_snapshottable, member_with, snapshot_named, items_of}
use Rattle.hs_plain.specs.Modifying.{file_in}
use Rattle.hs_plain.specs.Pages.{page_of, bytes_page}
use Rattle.hs_plain.specs.Reading.{is_deleted, file_there, snapshottable_at, snap_item, lines_between, began_at, report_page, is_foreign, has_moved}
use Rattle.hs_plain.specs.Answer.{answer, is_ok_reply, reply_to}
use Rattle.hs_plain.specs.Joined.{lines_shown}
use Rattle.hs_plain.specs.Span.{Span, Stays}
use Rattle.hs_plain.specs.Premises.{now}
use Rattle.hs_plain.specs.Valid.{IsValid}
use Rattle.hs_plain.proofs.ValidLists.{false_by, any_from, all_so}
use Rattle.hs_plain.proofs.ValidMembers.{inode_test, above_all, snapshot_of}
use Rattle.hs_plain.proofs.ValidTrees as tests
use Rattle.hs_plain.proofs.Paged.{live-found, is_found}
use Rattle.sync_laws.specs.Lasting.{state_at, IsWithin}
use Rattle.sync_laws.specs.Shown.{id_named, ShowsSnaps, IsSnapshotOf, report_start, ShowsLines, frozen, list_from, read_from}
use Rattle.sync_laws.proofs.Snapshots.{snapshots-last, with-so, id_in, named-id, id-named}

err_ok : {X : Type 0} {why : Refusal} {x : X} → Err why ≡ Ok x → ⊥
err_ok h = cc

-- ---- snapshots by name

abbrev items_in : List (Member (List ℕ)) → InodeId → List SnapItem
items_in ms dir = filter_map (snap_item dir) ms

ids-so : (ms : List (Member (List ℕ))) (dir : InodeId) (name : List ℕ) → id_named (items_in ms dir) name ≡ some_asked (snapshot_named ms dir name)
ids-so [] dir name = refl
ids-so (m ∷ ms) dir name =
    elim (same_inode m.directory dir) as (λ b. id_named (cons_option (cond b (Some (record { id = m.snapshot; tick = m.tick; name = m.name })) None) (items_in ms dir)) name ≡ some_asked (cond (b && bytes_eq m.name name) (Ok m.snapshot) (snapshot_named ms dir name))) [
      | true ↦ elim (bytes_eq m.name name) as (λ b. cond b (Some m.snapshot) (id_named (items_in ms dir) name) ≡ some_asked (cond b (Ok m.snapshot) (snapshot_named ms dir name))) [
        | true ↦ refl
        | false ↦ ids-so ms dir name
      ]
      | false ↦ ids-so ms dir name
    ]

asked-some : {X : Type 0} (asked : Asked X) (x : X) → some_asked asked ≡ Some x → asked ≡ Ok x
asked-some (Ok y) x is = ap (λ z. Ok z) (same y x is)
  where
    same : {X : Type 0} (y x : X) → Some y ≡ Some x → y ≡ x
    same y x e = cc
asked-some (Err why) x is = absurd (none x is)
  where
    none : {X : Type 0} (x : X) → None ≡ Some x → ⊥
    none x e = cc

-- what a reply that shows snapshots has
record IsSnaps (asked : Asked InodeId) (items : InodeId → List SnapItem) (dir : InodeId) (shown : List SnapItem) : Type 0 where
  root : asked ≡ Ok dir
  same : items dir ≡ shown

snaps-so : (asked : Asked InodeId) (items : InodeId → List SnapItem) (dir : InodeId) (shown : List SnapItem) → reply_to (asked >>= λ one. Ok (replies.Snaps one (items one))) ≡ replies.Snaps dir shown → IsSnaps asked items dir shown
snaps-so (Err why) items dir shown is = absurd (other why dir shown is)
  where
    other : (why : Refusal) (dir : InodeId) (shown : List SnapItem) → replies.Refused why ≡ replies.Snaps dir shown → ⊥
    other why dir shown e = cc
snaps-so (Ok one) items dir shown is = record { root = ap (λ x. Ok x) (dirs one dir (items one) shown is); same = ap items (sym (dirs one dir (items one) shown is)) ∙ lists one dir (items one) shown is }
  where
    dirs : (a b : InodeId) (xs ys : List SnapItem) → replies.Snaps a xs ≡ replies.Snaps b ys → a ≡ b
    dirs a b xs ys e = cc

    lists : (a b : InodeId) (xs ys : List SnapItem) → replies.Snaps a xs ≡ replies.Snaps b ys → xs ≡ ys
    lists a b xs ys e = cc

pub snaps-shown : (state : State (List ℕ)) (path : List ℕ) (dir : InodeId) (items : List SnapItem) → answer state (calls.Snaps path) ≡ replies.Snaps dir items → ShowsSnaps state path dir items
snaps-shown state path dir items is =
    let so : IsSnaps (snapshottable_at state path) (items_in state.members) dir items = snaps-so (snapshottable_at state path) (items_in state.members) dir items is in
    let ids : (name : List ℕ) → id_named items name ≡ some_asked (snapshot_named state.members dir name) = λ name. ap (λ (xs : List SnapItem). id_named xs name) (sym so.same) ∙ ids-so state.members dir name in
    record {
      root = so.root;
      ids = ids;
      sound = λ name snapshot named. id-named state.members dir name snapshot (asked-some (snapshot_named state.members dir name) snapshot (sym (ids name) ∙ named));
      complete = λ name member named. ids name ∙ ap some_asked (named-id state.members dir name ∙ ap id_in named);
    }

pub snaps-ok : (state : State (List ℕ)) (path : List ℕ) (dir : InodeId) → snapshottable_at state path ≡ Ok dir → (items : List SnapItem) × (answer state (calls.Snaps path) ≡ replies.Snaps dir items)
snaps-ok state path dir leads = (items_in state.members dir, ap (λ (asked : Asked InodeId). reply_to (asked >>= λ one. Ok (replies.Snaps one (items_in state.members one)))) leads)

-- ---- live ends

and-false : (b : Bool) → (b && false) ≡ false
and-false true = refl
and-false false = refl

pub live-not_deleted : (state : State (List ℕ)) (snapshot : SnapId) (member : Member (List ℕ)) → member_with state.members snapshot ≡ Ok member → is_deleted state snapshot ≡ false
live-not_deleted state snapshot member live = ap (λ b. not (snapshot.0 == 0) && not b) (live-found state.members snapshot ∙ ap is_found live) ∙ and-false (not (snapshot.0 == 0))

pub never-gone : (journal : List Entry) (span : Span) (index : ℕ) (snapshot : SnapId) (member : Member (List ℕ)) → IsWithin span index → Stays journal span snapshot →
    member_with (state_at journal span.low).members snapshot ≡ Ok member → is_deleted (state_at journal index) snapshot ≡ false
never-gone journal span index snapshot member within stays begins = live-not_deleted (state_at journal index) snapshot member (snapshots-last journal span index snapshot member within stays begins)

-- an end of a report that is good
record IsEnd (state : State (List ℕ)) (dir : InodeId) (end : SnapId) : Type 0 where
  not_deleted : is_deleted state end ≡ false
  not_foreign : is_foreign state dir end ≡ false

snapshot-end : (state : State (List ℕ)) (dir : InodeId) (end : SnapId) → IsSnapshotOf state dir end → IsEnd state dir end
snapshot-end state dir end of =
    let so = with-so state.members end of.member of.live in
    record {
      not_deleted = live-not_deleted state end of.member of.live;
      not_foreign =
          ap (λ b. not (end.0 == 0) && not b)
          (any_from (λ (member : Member (List ℕ)). member.snapshot.0 == end.0 && same_inode member.directory dir) state.members of.member so.0
          (tests.both ((Decides-eqb of.member.snapshot.0 end.0).1 so.1) (inode_test of.member.directory dir (ap (λ (id : InodeId). id.0) of.own))))
          ∙ and-false (not (end.0 == 0));
    }

now-end : (state : State (List ℕ)) (dir : InodeId) (end : SnapId) → end ≡ now → IsEnd state dir end
now-end state dir end is = subst (IsEnd state dir) (sym is) (record { not_deleted = refl; not_foreign = refl })

root-listed : (state : State (List ℕ)) → IsValid state → (dir : InodeId) (end : SnapId) → IsSnapshotOf state dir end → is_snapshottable state dir ≡ true
root-listed state valid dir end of =
    ap (is_snapshottable state) (sym of.own) ∙ all_so (λ (member : Member (List ℕ)). is_snapshottable state member.directory) state.members valid.member_dirs of.member (with-so state.members end of.member of.live).0

-- what a cursor of a report is answered, by what its tests say
abbrev pub report_by : State (List ℕ) → ReportCursor → ℕ → Bool → Bool → Bool → Bool → Asked Reply
report_by state cursor size gone listed foreign moved =
    refuse_if gone Gone >>= λ live. refuse_if (not listed) NotSnapshottable >>= λ there. refuse_if foreign NoSnapshot >>= λ own. refuse_if moved (Moved (began_at state.tick cursor.tick) state.tick) >>= λ still. Ok (report_page state cursor size)

report-shown : (state : State (List ℕ)) (cursor : ReportCursor) (size : ℕ) → is_snapshottable state cursor.root ≡ true → IsEnd state cursor.root cursor.from → IsEnd state cursor.root cursor.to → has_moved state cursor ≡ false → answer state (calls.ReportNext cursor size) ≡ report_page state cursor size
report-shown state cursor size listed from to still =
    λ i. reply_to (report_by state cursor size (from.not_deleted i || to.not_deleted i) (listed i) (from.not_foreign i || to.not_foreign i) (still i))

-- the id of a live snapshot isn't 0
not-now : (state : State (List ℕ)) → IsValid state → (dir : InodeId) (end : SnapId) → IsSnapshotOf state dir end → (end.0 == 0) ≡ false
not-now state valid dir end of =
    let so = with-so state.members end of.member of.live in
    let above : 0 < of.member.snapshot.0 = above_all snapshot_of state.members 0 valid.snapshots_rise of.member so.0 in
    let same : of.member.snapshot.0 ≡ end.0 = so.1 in
    false_by (end.0 == 0) (λ t. let zero : end.0 ≡ 0 = (Decides-eqb end.0 0).0 t in absurd (omega arith))

pub reports-between : (state : State (List ℕ)) (cursor : ReportCursor) (size : ℕ) → IsValid state → IsSnapshotOf state cursor.root cursor.from → IsSnapshotOf state cursor.root cursor.to → answer state (calls.ReportNext cursor size) ≡ report_page state cursor size
reports-between state cursor size valid from to =
    report-shown state cursor size (root-listed state valid cursor.root cursor.from from) (snapshot-end state cursor.root cursor.from from) (snapshot-end state cursor.root cursor.to to)
    (λ i. (not-now state valid cursor.root cursor.from from i || not-now state valid cursor.root cursor.to to i) && not (began_at state.tick cursor.tick == state.tick))

pub reports-to_now : (state : State (List ℕ)) (cursor : ReportCursor) (size : ℕ) → IsValid state → IsSnapshotOf state cursor.root cursor.from → cursor.to ≡ now → began_at state.tick cursor.tick ≡ state.tick → answer state (calls.ReportNext cursor size) ≡ report_page state cursor size
reports-to_now state cursor size valid from to began =
    report-shown state cursor size (root-listed state valid cursor.root cursor.from from) (snapshot-end state cursor.root cursor.from from) (now-end state cursor.root cursor.to to)
    (ap (λ b. (cursor.from.0 == 0 || cursor.to.0 == 0) && not b) ((Decides-eqb (began_at state.tick cursor.tick) state.tick).1 began) ∙ and-false (cursor.from.0 == 0 || cursor.to.0 == 0))

pub first-to_now : (state : State (List ℕ)) (dir : InodeId) (from : SnapId) (size : ℕ) → IsValid state → IsSnapshotOf state dir from → ShowsLines (answer state (calls.ReportNext (report_start dir from now) size)) (take size (lines_between state dir from now))
first-to_now state dir from size valid of =
    let is : answer state (calls.ReportNext (report_start dir from now) size) ≡ report_page state (report_start dir from now) size = reports-to_now state (report_start dir from now) size valid of refl refl in
    record { ok = ap is_ok_reply is; shown = ap lines_shown is }

pub first-between : (state : State (List ℕ)) (dir : InodeId) (from to : SnapId) (size : ℕ) → IsValid state → IsSnapshotOf state dir from → IsSnapshotOf state dir to → ShowsLines (answer state (calls.ReportNext (report_start dir from to) size)) (take size (lines_between state dir from to))
first-between state dir from to size valid of_from of_to =
    let is : answer state (calls.ReportNext (report_start dir from to) size) ≡ report_page state (report_start dir from to) size = reports-between state (report_start dir from to) size valid of_from of_to in
    record { ok = ap is_ok_reply is; shown = ap lines_shown is }

-- ---- frozen places

pub dirs-listed : (state : State (List ℕ)) (id : InodeId) (snapshot : SnapId) (member : Member (List ℕ)) (place : Names × Node (List ℕ)) (after : Option (List ℕ)) (size : ℕ) →
    member_with state.members snapshot ≡ Ok member → place_of member.tree id ≡ Some place → is_dir place.1 ≡ true →
    answer state (calls.ListNext (list_from id snapshot after) size) ≡ page_of (frozen id snapshot) (listing member.tree place.0) after size
dirs-listed state id snapshot member place after size live at dir =
    ap (λ b. reply_to (refuse_if b Gone >>= λ _. paged (member_with state.members snapshot >>= λ m. items_of m.tree (place_of m.tree id)))) (live-not_deleted state snapshot member live)
    ∙ ap (λ (a : Asked (Member (List ℕ))). reply_to (paged (a >>= λ m. items_of m.tree (place_of m.tree id)))) live
    ∙ ap (λ o. reply_to (paged (items_of member.tree o))) at
    ∙ ap (λ b. reply_to (paged (cond b (Ok (listing member.tree place.0)) (Err NotDir)))) dir
  where
    paged : Asked (List Item) → Asked Reply
    paged asked = asked >>= λ items. Ok (page_of (frozen id snapshot) items after size)

pub files-read : (state : State (List ℕ)) (id : InodeId) (snapshot : SnapId) (member : Member (List ℕ)) (place : Names × Node (List ℕ)) (bytes : List ℕ) (offset len : ℕ) →
    member_with state.members snapshot ≡ Ok member → place_of member.tree id ≡ Some place → place.1.body ≡ File bytes →
    answer state (calls.ReadNext (read_from id snapshot offset) len) ≡ bytes_page (frozen id snapshot) bytes offset len
files-read state id snapshot member place bytes offset len live at body =
    ap (λ b. reply_to (paged (refuse_if b Gone >>= λ _. placed (member_with state.members snapshot >>= λ m. file_there (place_of m.tree id))))) (live-not_deleted state snapshot member live)
    ∙ ap (λ (a : Asked (Member (List ℕ))). reply_to (paged (placed (a >>= λ m. file_there (place_of m.tree id))))) live
    ∙ ap (λ o. reply_to (paged (placed (file_there o)))) at
    ∙ ap (λ (b : Body (List ℕ)). reply_to (paged (placed (file_in b)))) body
  where
    placed : Asked (List ℕ) → Asked (Place × List ℕ)
    placed asked = asked >>= λ file. Ok (frozen id snapshot, file)

    paged : Asked (Place × List ℕ) → Asked Reply
    paged asked = asked >>= λ at. Ok (bytes_page at.0 at.1 offset len)

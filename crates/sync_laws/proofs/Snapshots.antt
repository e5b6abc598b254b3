-- Snapshots that no entry takes away are there throughout a span, under their names.
use Rattle.std.proofs.Common.{◌≡◌, inl, inr, ℕ, not, Bool, true, false, cond, ◌&&◌, ◌==◌, Ok, Err, List, [], ◌∷◌, ◌++◌, map, take, refl, ap, sym, subst, ◌∙◌}
use Rattle.std.specs.Prelude.{bytes_eq}
use Rattle.std.specs.List.{filter}
use Rattle.std.proofs.lemmas.Bool.Decides.{Decides-eqb}
use Rattle.std.proofs.lemmas.Slice.Eq.{bytes_eq-Decides}
use Rattle.hs_types.specs.declared.ids.InodeId.{InodeId}
use Rattle.hs_types.specs.declared.ids.SnapId.{SnapId}
use Rattle.hs_types.specs.declared.refusal.Refusal.{Refusal}
use Rattle.hs_types.specs.declared.refusal.Refusal.TheVariants.{NoSnapshot}
use Rattle.hs_types.specs.declared.call.Call.{Call}
use Rattle.hs_types.specs.declared.call.Call.TheVariants as calls
use Rattle.hs_types.specs.declared.journal.Entry.{Entry}
use Rattle.hs_plain.specs.declared.state.Member.{Member}
use Rattle.hs_plain.specs.declared.state.State.{State}
use Rattle.hs_plain.specs.Asked.{Asked, some_asked}
use Rattle.hs_plain.specs.Files.{plain_files}
use Rattle.hs_plain.specs.Tree.{same_inode}
use Rattle.hs_plain.specs.State.{is_named, member_named, member_with, snapshot_named}
use Rattle.hs_plain.specs.Snapshotting.{snap_at, snap_del_at, snap_ren_at}
use Rattle.hs_plain.specs.Answer.{is_modifying}
use Rattle.hs_plain.specs.Change.{new_member, snapped, is_snapshot, unsnapped, rename_member, resnapped, if_asked, change, is_accepted, changed_if, after}
use Rattle.hs_plain.specs.Span.{Span, parted_by, is_that, takes_away, Stays}
use Rattle.hs_plain.specs.Valid.{rises_above, IsValid}
use Rattle.hs_plain.proofs.ValidTrees.{first, second, if_asked-keeps}
use Rattle.hs_plain.proofs.ValidShapes.{true_false}
use Rattle.hs_plain.proofs.ValidLists.{In, by_test}
use Rattle.hs_plain.proofs.ValidMembers.{inode_so, one_by, snapshot_of, names_so}
use Rattle.hs_plain.proofs.ValidAsked.{same_ok}
use Rattle.hs_plain.proofs.Frozen.{same_snapshots}
use Rattle.hs_plain.proofs.Validity.{valid-replay}
use Rattle.sync_laws.specs.Lasting.{state_at, IsWithin}
use Rattle.sync_laws.proofs.Spans.{throughout}

abbrev pub Members : Type 0
Members = List (Member (List ℕ))

err_ok : {X : Type 0} {why : Refusal} {x : X} → Err why ≡ Ok x → ⊥
err_ok h = cc

abbrev if_found : Member (List ℕ) → Asked (Member (List ℕ)) → Bool → Asked (Member (List ℕ))
if_found member rest b = cond b (Ok member) rest

-- ---- one entry

with-more : (ms : Members) (new member : Member (List ℕ)) (snapshot : SnapId) → member_with ms snapshot ≡ Ok member → member_with (ms ++ new ∷ []) snapshot ≡ Ok member
with-more [] new member snapshot here = absurd (err_ok here)
with-more (m ∷ ms) new member snapshot here =
    elim (m.snapshot.0 == snapshot.0) as (λ b. if_found m (member_with ms snapshot) b ≡ Ok member → if_found m (member_with (ms ++ new ∷ []) snapshot) b ≡ Ok member) [
      | true ↦ λ e. e
      | false ↦ with-more ms new member snapshot
    ] here

-- a snapshot isn't another one
other-than : (m gone snapshot : ℕ) → (m == gone) ≡ true → (gone == snapshot) ≡ false → (m == snapshot) ≡ false
other-than m gone snapshot is other = ap (λ k. k == snapshot) ((Decides-eqb m gone).0 is) ∙ other

with-less : (ms : Members) (gone snapshot : SnapId) → (gone.0 == snapshot.0) ≡ false → member_with (filter (λ m. not (is_snapshot gone m)) ms) snapshot ≡ member_with ms snapshot
with-less [] gone snapshot other = refl
with-less (m ∷ ms) gone snapshot other =
    elim (m.snapshot.0 == gone.0) as (λ b. (m.snapshot.0 == gone.0) ≡ b → member_with (cond (not b) (m ∷ filter (λ m. not (is_snapshot gone m)) ms) (filter (λ m. not (is_snapshot gone m)) ms)) snapshot ≡ member_with (m ∷ ms) snapshot) [
      | true ↦ λ e. with-less ms gone snapshot other ∙ ap (if_found m (member_with ms snapshot)) (sym (other-than m.snapshot.0 gone.0 snapshot.0 e other))
      | false ↦ λ e. ap (λ rest. if_found m rest (m.snapshot.0 == snapshot.0)) (with-less ms gone snapshot other)
    ] refl

with-renamed : (ms : Members) (gone : SnapId) (name : List ℕ) (snapshot : SnapId) → (gone.0 == snapshot.0) ≡ false → member_with (map (rename_member gone name) ms) snapshot ≡ member_with ms snapshot
with-renamed [] gone name snapshot other = refl
with-renamed (m ∷ ms) gone name snapshot other =
    elim (m.snapshot.0 == gone.0) as (λ b. (m.snapshot.0 == gone.0) ≡ b → member_with (cond b (record m { name = name }) m ∷ map (rename_member gone name) ms) snapshot ≡ member_with (m ∷ ms) snapshot) [
      | true ↦ λ e. let off : (m.snapshot.0 == snapshot.0) ≡ false = other-than m.snapshot.0 gone.0 snapshot.0 e other in
          ap (if_found (record m { name = name }) (member_with (map (rename_member gone name) ms) snapshot)) off ∙ with-renamed ms gone name snapshot other ∙ ap (if_found m (member_with ms snapshot)) (sym off)
      | false ↦ λ e. ap (λ rest. if_found m rest (m.snapshot.0 == snapshot.0)) (with-renamed ms gone name snapshot other)
    ] refl

abbrev Finds : SnapId → Member (List ℕ) → State (List ℕ) → Type 0
Finds snapshot member state = member_with state.members snapshot ≡ Ok member

-- a call that neither takes a snapshot away nor renames it leaves it
pub call-keeps : (state : State (List ℕ)) (call : Call) (snapshot : SnapId) (member : Member (List ℕ)) → is_that snapshot (parted_by state call) ≡ false → member_with state.members snapshot ≡ Ok member → member_with (change plain_files state call).members snapshot ≡ Ok member
call-keeps state (calls.Snap path name) snapshot member other here = if_asked-keeps (Finds snapshot member) (snapped state name) state (snap_at state path name) here (λ at is. with-more state.members (new_member state name at) member snapshot here)
call-keeps state (calls.SnapDel path name) snapshot member other here = by (snap_del_at state path name) other
  where
    by : (a : Asked SnapId) → is_that snapshot (some_asked a) ≡ false → Finds snapshot member (if_asked (unsnapped state) state a)
    by (Ok gone) other = with-less state.members gone snapshot other ∙ here
    by (Err why) other = here
call-keeps state (calls.SnapRen path old new) snapshot member other here = by (snap_ren_at state path old new) other
  where
    by : (a : Asked SnapId) → is_that snapshot (some_asked a) ≡ false → Finds snapshot member (if_asked (resnapped state new) state a)
    by (Ok one) other = with-renamed state.members one new snapshot other ∙ here
    by (Err why) other = here
call-keeps state call snapshot member other here = ap (λ (ms : Members). member_with ms snapshot) (same_snapshots plain_files state call refl).members ∙ here

pub entry-keeps : (state : State (List ℕ)) (entry : Entry) (snapshot : SnapId) (member : Member (List ℕ)) → takes_away state snapshot entry ≡ false → member_with state.members snapshot ≡ Ok member → member_with (after plain_files state entry).members snapshot ≡ Ok member
entry-keeps state entry snapshot member stays here = by (is_accepted entry.kind) stays
  where
    if_modifying : (b : Bool) → Finds snapshot member (change plain_files state entry.call) → Finds snapshot member (changed_if b plain_files state entry.call)
    if_modifying true done = done
    if_modifying false done = here

    by : (b : Bool) → (b && is_that snapshot (parted_by state entry.call)) ≡ false → Finds snapshot member (changed_if (b && is_modifying entry.call) plain_files state entry.call)
    by true other = if_modifying (is_modifying entry.call) (call-keeps state entry.call snapshot member other here)
    by false other = here

-- ---- a span

pub snapshots-last : (journal : List Entry) (span : Span) (index : ℕ) (snapshot : SnapId) (member : Member (List ℕ)) → IsWithin span index → Stays journal span snapshot →
    member_with (state_at journal span.low).members snapshot ≡ Ok member → member_with (state_at journal index).members snapshot ≡ Ok member
snapshots-last journal span index snapshot member within stays begins =
    throughout (Finds snapshot member) journal span (λ at entry there here. entry-keeps (state_at journal at) entry snapshot member (stays at entry there) here) begins index within

-- ---- snapshots by id and by name

pub with-so : (ms : Members) (snapshot : SnapId) (member : Member (List ℕ)) → member_with ms snapshot ≡ Ok member → In ms member × (member.snapshot.0 ≡ snapshot.0)
with-so [] snapshot member here = absurd (err_ok here)
with-so (m ∷ ms) snapshot member here = by_test (m.snapshot.0 == snapshot.0)
    (λ t. let same : m ≡ member = same_ok (sym (ap (if_found m (member_with ms snapshot)) t) ∙ here) in
    (inl same, ap (λ (x : Member (List ℕ)). x.snapshot.0) (sym same) ∙ (Decides-eqb m.snapshot.0 snapshot.0).0 t))
    (λ f. let rest : In ms member × (member.snapshot.0 ≡ snapshot.0) = with-so ms snapshot member (sym (ap (if_found m (member_with ms snapshot)) f) ∙ here) in (inr rest.0, rest.1))

-- one of a list, if its id is on it
with-one : (ms : Members) (member : Member (List ℕ)) → In ms member → (one : Member (List ℕ)) × (member_with ms member.snapshot ≡ Ok one)
with-one [] member at = absurd at
with-one (m ∷ ms) member at = by_test (m.snapshot.0 == member.snapshot.0)
    (λ t. (m, ap (if_found m (member_with ms member.snapshot)) t))
    (λ f. let rest : (one : Member (List ℕ)) × (member_with ms member.snapshot ≡ Ok one) = with-one ms member (later f at) in (rest.0, ap (if_found m (member_with ms member.snapshot)) f ∙ rest.1))
  where
    later : (m.snapshot.0 == member.snapshot.0) ≡ false → In (m ∷ ms) member → In ms member
    later f (inl same) = absurd (true_false ((Decides-eqb m.snapshot.0 member.snapshot.0).1 (ap snapshot_of same)) f)
    later f (inr at) = at

pub with-from : (ms : Members) (member : Member (List ℕ)) → rises_above 0 (map snapshot_of ms) ≡ true → In ms member → member_with ms member.snapshot ≡ Ok member
with-from ms member rise at =
    let one : (one : Member (List ℕ)) × (member_with ms member.snapshot ≡ Ok one) = with-one ms member at in
    let so : In ms one.0 × (one.0.snapshot.0 ≡ member.snapshot.0) = with-so ms member.snapshot one.0 one.1 in
    one.1 ∙ ap (λ x. Ok x) (one_by snapshot_of ms 0 rise one.0 member so.0 at so.1)

pub named-so : (ms : Members) (dir : InodeId) (name : List ℕ) (member : Member (List ℕ)) → member_named ms dir name ≡ Ok member → In ms member × (is_named dir name member ≡ true)
named-so [] dir name member here = absurd (err_ok here)
named-so (m ∷ ms) dir name member here = by_test (is_named dir name m)
    (λ t. let same : m ≡ member = same_ok (sym (ap (if_found m (member_named ms dir name)) t) ∙ here) in (inl same, ap (is_named dir name) (sym same) ∙ t))
    (λ f. let rest : In ms member × (is_named dir name member ≡ true) = named-so ms dir name member (sym (ap (if_found m (member_named ms dir name)) f) ∙ here) in (inr rest.0, rest.1))

named-one : (ms : Members) (dir : InodeId) (name : List ℕ) (member : Member (List ℕ)) → In ms member → is_named dir name member ≡ true → (one : Member (List ℕ)) × (member_named ms dir name ≡ Ok one)
named-one [] dir name member at is = absurd at
named-one (m ∷ ms) dir name member at is = by_test (is_named dir name m)
    (λ t. (m, ap (if_found m (member_named ms dir name)) t))
    (λ f. let rest : (one : Member (List ℕ)) × (member_named ms dir name ≡ Ok one) = named-one ms dir name member (later f at) is in (rest.0, ap (if_found m (member_named ms dir name)) f ∙ rest.1))
  where
    later : is_named dir name m ≡ false → In (m ∷ ms) member → In ms member
    later f (inl same) = absurd (true_false is (ap (is_named dir name) (sym same) ∙ f))
    later f (inr at) = at

pub named-from : (state : State (List ℕ)) → IsValid state → (dir : InodeId) (name : List ℕ) (member : Member (List ℕ)) → In state.members member → is_named dir name member ≡ true → member_named state.members dir name ≡ Ok member
named-from state valid dir name member at is =
    let one : (one : Member (List ℕ)) × (member_named state.members dir name ≡ Ok one) = named-one state.members dir name member at is in
    let so : In state.members one.0 × (is_named dir name one.0 ≡ true) = named-so state.members dir name one.0 one.1 in
    one.1 ∙ ap (λ x. Ok x) (one_by snapshot_of state.members 0 valid.snapshots_rise one.0 member so.0 at
    (names_so state.members valid.different_names one.0 member so.0 at (dir_of one.0 so.1 ∙ sym (dir_of member is)) (name_of one.0 so.1 ∙ sym (name_of member is))))
  where
    dir_of : (m : Member (List ℕ)) → is_named dir name m ≡ true → m.directory ≡ dir
    dir_of m t = inode_so m.directory dir (first (same_inode m.directory dir) (bytes_eq m.name name) t)

    name_of : (m : Member (List ℕ)) → is_named dir name m ≡ true → m.name ≡ name
    name_of m t = (bytes_eq-Decides m.name name).0 (second (same_inode m.directory dir) (bytes_eq m.name name) t)

pub valid-at : (journal : List Entry) (index : ℕ) → IsValid (state_at journal index)
valid-at journal index = valid-replay plain_files (take index journal)

pub names-last : (journal : List Entry) (span : Span) (index : ℕ) (dir : InodeId) (name : List ℕ) (member : Member (List ℕ)) → IsWithin span index → Stays journal span member.snapshot →
    member_named (state_at journal span.low).members dir name ≡ Ok member → member_named (state_at journal index).members dir name ≡ Ok member
names-last journal span index dir name member within stays begins =
    let so : In (state_at journal span.low).members member × (is_named dir name member ≡ true) = named-so (state_at journal span.low).members dir name member begins in
    let here : member_with (state_at journal index).members member.snapshot ≡ Ok member =
    snapshots-last journal span index member.snapshot member within stays (with-from (state_at journal span.low).members member (valid-at journal span.low).snapshots_rise so.0) in
    named-from (state_at journal index) (valid-at journal index) dir name member (with-so (state_at journal index).members member.snapshot member here).0 so.1

-- ---- ids by name

-- the id that a name leads to is that of the snapshot with the name
abbrev pub id_in : Asked (Member (List ℕ)) → Asked SnapId
id_in (Ok member) = Ok member.snapshot
id_in (Err why) = Err NoSnapshot

pub named-id : (ms : Members) (dir : InodeId) (name : List ℕ) → snapshot_named ms dir name ≡ id_in (member_named ms dir name)
named-id [] dir name = refl
named-id (m ∷ ms) dir name = elim (is_named dir name m) as (λ b. cond {A = Asked SnapId} b (Ok m.snapshot) (snapshot_named ms dir name) ≡ id_in (if_found m (member_named ms dir name) b)) [
  | true ↦ refl
  | false ↦ named-id ms dir name
]

id-so : (asked : Asked (Member (List ℕ))) (snapshot : SnapId) → id_in asked ≡ Ok snapshot → (member : Member (List ℕ)) × (asked ≡ Ok member) × (member.snapshot ≡ snapshot)
id-so (Ok member) snapshot is = (member, refl, same_ok is)
id-so (Err why) snapshot is = absurd (err_ok is)

-- a name that leads to an id is a snapshot's
pub id-named : (ms : Members) (dir : InodeId) (name : List ℕ) (snapshot : SnapId) → snapshot_named ms dir name ≡ Ok snapshot → (member : Member (List ℕ)) × (member_named ms dir name ≡ Ok member) × (member.snapshot ≡ snapshot)
id-named ms dir name snapshot is = id-so (member_named ms dir name) snapshot (sym (named-id ms dir name) ∙ is)

pub ids-last : (journal : List Entry) (span : Span) (index : ℕ) (dir : InodeId) (name : List ℕ) (snapshot : SnapId) → IsWithin span index → Stays journal span snapshot →
    snapshot_named (state_at journal span.low).members dir name ≡ Ok snapshot → snapshot_named (state_at journal index).members dir name ≡ Ok snapshot
ids-last journal span index dir name snapshot within stays begins =
    let one : (member : Member (List ℕ)) × (member_named (state_at journal span.low).members dir name ≡ Ok member) × (member.snapshot ≡ snapshot) = id-named (state_at journal span.low).members dir name snapshot begins in
    named-id (state_at journal index).members dir name
    ∙ ap id_in (names-last journal span index dir name one.0 within (subst (Stays journal span) (sym one.2) stays) one.1)
    ∙ ap (λ s. Ok s) one.2

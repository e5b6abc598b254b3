-- A state with blocks answers and changes as the plain state that it stands for, but for the bytes of its files.
use Rattle.std.proofs.Common.{◌≡◌, ℕ, ◌+◌, Bool, true, false, ◌&&◌, ◌||◌, List, ◌++◌, length, take, drop, map, Option, Some, None, Ok, Err, refl, ap, sym, ◌∙◌, length-append}
use Rattle.std.specs.Prelude.{not}
use Rattle.std.specs.List.{filter_map}
use Rattle.std.proofs.lemmas.List.{take-map, drop-map, length-map}
use Rattle.std.proofs.lemmas.Simd.{splat_is_map}
use Rattle.std.proofs.Math.Seq.{take-nil}
use Rattle.hs_types.specs.Names.{Names}
use Rattle.hs_types.specs.Paths.{path_of}
use Rattle.hs_types.specs.Blocks.{BlockMap}
use Rattle.hs_types.specs.declared.ids.InodeId.{InodeId}
use Rattle.hs_types.specs.declared.ids.SnapId.{SnapId}
use Rattle.hs_types.specs.declared.refusal.Refusal.TheVariants.{NotSnapshottable, NoSnapshot, Gone, Moved}
use Rattle.hs_types.specs.declared.call.Call.{Call}
use Rattle.hs_types.specs.declared.call.Call.TheVariants as calls
use Rattle.hs_types.specs.declared.call.Place.{Place}
use Rattle.hs_types.specs.declared.call.Place.TheVariants as places
use Rattle.hs_types.specs.declared.call.Point.{Point}
use Rattle.hs_types.specs.declared.call.ReportCursor.{ReportCursor}
use Rattle.hs_types.specs.declared.reply.Reply.{Reply}
use Rattle.hs_types.specs.declared.reply.Reply.TheVariants as replies
use Rattle.hs_plain.specs.declared.state.Node.{Node}
use Rattle.hs_plain.specs.declared.state.State.{State}
use Rattle.hs_plain.specs.declared.state.FileBlocks.{FileBlocks}
use Rattle.hs_plain.specs.Asked.{Asked, ◌>>=◌, refuse_if}
use Rattle.hs_plain.specs.Files.{Files, plain_files, sized_files, block_files}
use Rattle.hs_plain.specs.Tree.{Tree, place_of}
use Rattle.hs_plain.specs.State.{resolve, is_snapshottable, member_with, snapshots_of, items_at}
use Rattle.hs_plain.specs.Pages.{page_of, next_read, bytes_page}
use Rattle.hs_plain.specs.Modifying.{mkdir_at, create_at, delete_at, rename_at, set_mode_at, append_at}
use Rattle.hs_plain.specs.Snapshotting.{allow_at, disallow_at, snap_at, snap_del_at, snap_ren_at}
use Rattle.hs_plain.specs.Reading.{is_deleted, is_gone, node_stat, list_stat, stat_at, page_at, snapshottable_at, snap_item, point_id, began_at, report_page, report_reply, is_foreign, has_moved, report_next_reply}
use Rattle.hs_plain.specs.Answer.{made_reply, snap_made_reply, replied, asked, reply_to, answer_by, answer, is_modifying, uses_store, is_ok_reply, blank, blanked}
use Rattle.hs_plain.specs.Change.{with_file, change}
use Rattle.hs_plain.specs.Viewed.{viewed, StandsFor, bytes_in, HasBytes}
use Rattle.hs_plain.proofs.Viewed.{mapped, read-viewed}
use Rattle.hs_plain.proofs.ViewedAsked.{asked-viewed}
use Rattle.hs_plain.proofs.ViewedChange.{appended-viewed, storeless-viewed, change-viewed}

-- ---- blanked replies

then-blanked : {X : Type 0} (tests : Asked X) (f : X → Asked Reply) → ((x : X) → mapped blanked (f x) ≡ f x) → mapped blanked (tests >>= f) ≡ (tests >>= f)
then-blanked (Ok x) f same = same x
then-blanked (Err why) f same = refl

told-blanked : (reply : Asked Reply) → reply_to (mapped blanked reply) ≡ blanked (reply_to reply)
told-blanked (Ok reply) = refl
told-blanked (Err why) = refl

ok-blanked : (reply : Reply) → is_ok_reply (blanked reply) ≡ is_ok_reply reply
ok-blanked (replies.Made id) = refl
ok-blanked replies.Done = refl
ok-blanked (replies.Bytes bytes next) = refl
ok-blanked (replies.Stat id is_dir mode stamp size) = refl
ok-blanked (replies.Page items next) = refl
ok-blanked (replies.SnapMade id) = refl
ok-blanked (replies.Snaps dir list) = refl
ok-blanked (replies.Dirs list) = refl
ok-blanked (replies.Report lines next) = refl
ok-blanked (replies.Refused why) = refl
ok-blanked replies.NoMemory = refl

replied-blanked : {X : Type 0} (reply : Reply) → blanked reply ≡ reply → (tests : Asked X) → mapped blanked (replied reply tests) ≡ replied reply tests
replied-blanked reply same (Ok x) = ap (λ r. Ok r) same
replied-blanked reply same (Err why) = refl

module _ {B : Type 0} (files : Files B) (state : State B) where
  node_stat-blanked : (tree : Tree B) (place : Option (Names × Node B)) → mapped blanked (node_stat files tree place) ≡ node_stat files tree place
  node_stat-blanked tree None = refl
  node_stat-blanked tree (Some place) = refl

  list_stat-blanked : (snapshots : ℕ) (place : Option (Names × Node B)) → mapped blanked (list_stat snapshots place) ≡ list_stat snapshots place
  list_stat-blanked snapshots None = refl
  list_stat-blanked snapshots (Some place) = refl

  stat_at-blanked : (place : Place) → mapped blanked (stat_at files state place) ≡ stat_at files state place
  stat_at-blanked (places.Live id) = node_stat-blanked state.tree (place_of state.tree id)
  stat_at-blanked (places.Frozen id snapshot) = then-blanked (member_with state.members snapshot) (λ member. node_stat files member.tree (place_of member.tree id)) (λ member. node_stat-blanked member.tree (place_of member.tree id))
  stat_at-blanked (places.SnapshotsOf dir) = list_stat-blanked (snapshots_of state.members dir) (place_of state.tree dir)

  at_place-blanked : (text : List ℕ) (f : Place → Asked Reply) → ((place : Place) → mapped blanked (f place) ≡ f place) → mapped blanked (path_of text >>= λ path. (resolve state path >>= f)) ≡ (path_of text >>= λ path. (resolve state path >>= f))
  at_place-blanked text f same = then-blanked (path_of text) (λ path. resolve state path >>= f) (λ path. then-blanked (resolve state path) f same)

  -- a report's pages, which have no bytes
  report-blanked : (text : List ℕ) (from to : Point) (size : ℕ) → mapped blanked (report_reply state text from to size) ≡ report_reply state text from to size
  report-blanked text from to size =
      let page : InodeId → SnapId → SnapId → Asked Reply = λ root first last. Ok (report_page state (record { root = root; from = first; to = last; tick = None; index = 0 }) size) in
      then-blanked (snapshottable_at state text) (λ root. point_id state root from >>= λ first. (point_id state root to >>= page root first))
      (λ root. then-blanked (point_id state root from) (λ first. point_id state root to >>= page root first) (λ first. then-blanked (point_id state root to) (page root first) (λ last. refl)))

  -- tests that give nothing, and a reply without bytes
  tested-blanked : (test : Asked (Unit {0})) (next : Asked Reply) → mapped blanked next ≡ next → mapped blanked (test >>= λ _. next) ≡ (test >>= λ _. next)
  tested-blanked test next same = then-blanked test (λ _. next) (λ _. same)

  report_next-blanked : (cursor : ReportCursor) (size : ℕ) → mapped blanked (report_next_reply state cursor size) ≡ report_next_reply state cursor size
  report_next-blanked cursor size =
      let page : Asked Reply = Ok (report_page state cursor size) in
      let live = refuse_if (is_deleted state cursor.from || is_deleted state cursor.to) Gone in
      let there = refuse_if (not (is_snapshottable state cursor.root)) NotSnapshottable in
      let own = refuse_if (is_foreign state cursor.root cursor.from || is_foreign state cursor.root cursor.to) NoSnapshot in
      let still = refuse_if (has_moved state cursor) (Moved (began_at state.tick cursor.tick) state.tick) in
      tested-blanked live (there >>= λ _. (own >>= λ _. (still >>= λ _. page)))
      (tested-blanked there (own >>= λ _. (still >>= λ _. page)) (tested-blanked own (still >>= λ _. page) (tested-blanked still page refl)))

  -- a call that reads no file is answered without bytes
  asked-blanked : (call : Call) → (uses_store call && not (is_modifying call)) ≡ false → mapped blanked (asked files state call) ≡ asked files state call
  asked-blanked (calls.Mkdir path) no_read = replied-blanked (made_reply state) refl (mkdir_at state path)
  asked-blanked (calls.Create path over) no_read = replied-blanked (made_reply state) refl (create_at state path over)
  asked-blanked (calls.Append path bytes) no_read = replied-blanked replies.Done refl (append_at state path)
  asked-blanked (calls.Delete path recursive) no_read = replied-blanked replies.Done refl (delete_at state path recursive)
  asked-blanked (calls.Rename old new) no_read = replied-blanked replies.Done refl (rename_at state old new)
  asked-blanked (calls.SetMode path mode) no_read = replied-blanked replies.Done refl (set_mode_at state path)
  asked-blanked (calls.Allow path) no_read = replied-blanked replies.Done refl (allow_at state path)
  asked-blanked (calls.Disallow path) no_read = replied-blanked replies.Done refl (disallow_at state path)
  asked-blanked (calls.Snap path name) no_read = replied-blanked (snap_made_reply state) refl (snap_at state path name)
  asked-blanked (calls.SnapDel path name) no_read = replied-blanked replies.Done refl (snap_del_at state path name)
  asked-blanked (calls.SnapRen path old new) no_read = replied-blanked replies.Done refl (snap_ren_at state path old new)
  asked-blanked (calls.Read path offset len) no_read = absurd (cc)
  asked-blanked (calls.ReadNext cursor len) no_read = absurd (cc)
  asked-blanked (calls.Stat path) no_read = at_place-blanked path (stat_at files state) stat_at-blanked
  asked-blanked (calls.List path size) no_read =
      at_place-blanked path (λ place. items_at state place >>= λ items. Ok (page_of place items None size)) (λ place. then-blanked (items_at state place) (λ items. Ok (page_of place items None size)) (λ items. refl))
  asked-blanked (calls.ListNext cursor size) no_read =
      then-blanked (refuse_if (is_gone state cursor.place) Gone) (λ _. items_at state cursor.place >>= λ items. Ok (page_of cursor.place items cursor.after size))
      (λ _. then-blanked (items_at state cursor.place) (λ items. Ok (page_of cursor.place items cursor.after size)) (λ items. refl))
  asked-blanked (calls.Snaps path) no_read = then-blanked (snapshottable_at state path) (λ dir. Ok (replies.Snaps dir (filter_map (snap_item dir) state.members))) (λ dir. refl)
  asked-blanked calls.Dirs no_read = refl
  asked-blanked (calls.Report path from to size) no_read = report-blanked path from to size
  asked-blanked (calls.ReportNext cursor size) no_read = report_next-blanked cursor size

-- ---- files as their sizes

same-reply : (reply : Asked Reply) → mapped (λ r. r) reply ≡ reply
same-reply (Ok reply) = refl
same-reply (Err why) = refl

-- a page of zeros is the page of a file, but for its bytes
sized-page : (offset len : ℕ) (place : Place) (file : List ℕ) → page_at sized_files offset len (place, length file) ≡ blanked (page_at plain_files offset len (place, file))
sized-page offset len place file =
    ap (λ bytes. bytes_page place bytes offset len) (splat_is_map file (length file) 0 refl)
    ∙ ap (λ size. replies.Bytes (take len (drop offset (blank file))) (next_read place size (offset + len))) (length-map file (λ byte. 0))
    ∙ ap (λ bytes. replies.Bytes (take len bytes) (next_read place (length file) (offset + len))) (drop-map (λ byte. 0) offset file)
    ∙ ap (λ bytes. replies.Bytes bytes (next_read place (length file) (offset + len))) (take-map (λ byte. 0) len (drop offset file))

by_test : {P : Type 0} (b : Bool) → (b ≡ true → P) → (b ≡ false → P) → P
by_test true if_so if_not = if_so refl
by_test false if_so if_not = if_not refl

-- a call that reads a file
is_read : (call : Call) → (uses_store call && not (is_modifying call)) ≡ true → (is_modifying call ≡ false) × (uses_store call ≡ true)
is_read (calls.Mkdir path) so = absurd (cc)
is_read (calls.Create path over) so = absurd (cc)
is_read (calls.Append path bytes) so = absurd (cc)
is_read (calls.Delete path recursive) so = absurd (cc)
is_read (calls.Rename old new) so = absurd (cc)
is_read (calls.SetMode path mode) so = absurd (cc)
is_read (calls.Read path offset len) so = (refl, refl)
is_read (calls.ReadNext cursor len) so = (refl, refl)
is_read (calls.Stat path) so = absurd (cc)
is_read (calls.List path size) so = absurd (cc)
is_read (calls.Allow path) so = absurd (cc)
is_read (calls.Disallow path) so = absurd (cc)
is_read (calls.Snap path name) so = absurd (cc)
is_read (calls.SnapDel path name) so = absurd (cc)
is_read (calls.SnapRen path old new) so = absurd (cc)
is_read (calls.ListNext cursor size) so = absurd (cc)
is_read (calls.Snaps path) so = absurd (cc)
is_read calls.Dirs so = absurd (cc)
is_read (calls.Report path from to size) so = absurd (cc)
is_read (calls.ReportNext cursor size) so = absurd (cc)

sized_plain : (plain : State (List ℕ)) (call : Call) → asked sized_files (viewed length plain) call ≡ mapped blanked (asked plain_files plain call)
sized_plain plain call = by_test (uses_store call && not (is_modifying call))
    (λ so. read-viewed length plain_files sized_files blanked sized-page plain call (is_read call so).0 (is_read call so).1)
    (λ no. asked-viewed length plain_files sized_files (λ file. refl) plain call no ∙ sym (asked-blanked plain_files plain call no))

sized_whole : (whole : State FileBlocks) (call : Call) → asked sized_files (viewed (λ file. file.size) whole) call ≡ asked block_files whole call
sized_whole whole call = by_test (uses_store call && not (is_modifying call))
    (λ so. read-viewed (λ file. file.size) block_files sized_files (λ r. r) (λ offset len place file. refl) whole call (is_read call so).0 (is_read call so).1 ∙ same-reply (asked block_files whole call))
    (λ no. asked-viewed (λ file. file.size) block_files sized_files (λ file. refl) whole call no)

-- ---- answers

-- the same answer, but for the bytes of a file
pub answer_sized : (whole : State FileBlocks) (plain : State (List ℕ)) → StandsFor whole plain → (call : Call) → blanked (answer plain call) ≡ answer_by block_files whole call
answer_sized whole plain stands call =
    sym (told-blanked (asked plain_files plain call))
    ∙ ap reply_to (sym (sized_plain plain call) ∙ ap (λ (state : State ℕ). asked sized_files state call) (sym stands) ∙ sized_whole whole call)

-- where no file is read, the same answer
pub answer_stands : (whole : State FileBlocks) (plain : State (List ℕ)) → StandsFor whole plain → (call : Call) → (uses_store call && not (is_modifying call)) ≡ false → answer plain call ≡ answer_by block_files whole call
answer_stands whole plain stands call no_read =
    ap reply_to (sym (asked-viewed length plain_files sized_files (λ file. refl) plain call no_read) ∙ ap (λ (state : State ℕ). asked sized_files state call) (sym stands) ∙ sized_whole whole call)

-- both refuse, or none
pub ok_stands : (whole : State FileBlocks) (plain : State (List ℕ)) → StandsFor whole plain → (call : Call) → is_ok_reply (answer plain call) ≡ is_ok_reply (answer_by block_files whole call)
ok_stands whole plain stands call = sym (ok-blanked (answer plain call)) ∙ ap is_ok_reply (answer_sized whole plain stands call)

-- a read of a store that tells its blocks
pub read_told : (map : BlockMap) (whole : State FileBlocks) (plain : State (List ℕ)) → HasBytes (Some map) whole plain → (call : Call) → is_modifying call ≡ false → uses_store call ≡ true →
    answer plain call ≡ answer_by (record block_files { bytes = bytes_in map }) whole call
read_told map whole plain has call reads uses =
    let telling : Files FileBlocks = record block_files { bytes = bytes_in map } in
    ap reply_to (ap (λ (state : State (List ℕ)). asked plain_files state call) (sym has) ∙ read-viewed (bytes_in map) telling plain_files (λ r. r) (λ offset len place file. refl) whole call reads uses ∙ same-reply (asked telling whole call))

-- ---- changes

pub change_stands : (whole : State FileBlocks) (plain : State (List ℕ)) → StandsFor whole plain → (call : Call) → StandsFor (change block_files whole call) (change plain_files plain call)
change_stands whole plain stands call =
    sym (change-viewed (λ file. file.size) block_files sized_files refl (λ file bytes. refl) whole call)
    ∙ ap (λ (state : State ℕ). change sized_files state call) stands
    ∙ change-viewed length plain_files sized_files refl length-append plain call

-- what asks for no store leaves its bytes as they are
pub change_told : (told : Option BlockMap) (whole : State FileBlocks) (plain : State (List ℕ)) → HasBytes told whole plain → (call : Call) → uses_store call ≡ false → HasBytes told (change block_files whole call) (change plain_files plain call)
change_told None whole plain has call no_store = tt
change_told (Some map) whole plain has call no_store = sym (storeless-viewed (bytes_in map) block_files plain_files (take-nil 0) whole call no_store) ∙ ap (λ (state : State (List ℕ)). change plain_files state call) has

-- a file with blocks in the place of another, as many bytes longer as an append says
pub appended_stands : (whole : State FileBlocks) (plain : State (List ℕ)) → StandsFor whole plain → (text bytes : List ℕ) (path : Names) (node : Node FileBlocks) (file new : FileBlocks) →
    append_at whole text ≡ Ok (path, node, file) → new.size ≡ file.size + length bytes → StandsFor (with_file whole path node new) (change plain_files plain (calls.Append text bytes))
appended_stands whole plain stands text bytes path node file new asked longer =
    sym (appended-viewed (λ file. file.size) sized_files whole text bytes path node file new asked longer)
    ∙ ap (λ (state : State ℕ). change sized_files state (calls.Append text bytes)) stands
    ∙ change-viewed length plain_files sized_files refl length-append plain (calls.Append text bytes)

-- and with these bytes behind the ones that it had
pub appended_told : (map : BlockMap) (whole : State FileBlocks) (plain : State (List ℕ)) → HasBytes (Some map) whole plain → (text bytes : List ℕ) (path : Names) (node : Node FileBlocks) (file new : FileBlocks) →
    append_at whole text ≡ Ok (path, node, file) → bytes_in map new ≡ bytes_in map file ++ bytes → HasBytes (Some map) (with_file whole path node new) (change plain_files plain (calls.Append text bytes))
appended_told map whole plain has text bytes path node file new asked longer =
    sym (appended-viewed (bytes_in map) plain_files whole text bytes path node file new asked longer) ∙ ap (λ (state : State (List ℕ)). change plain_files state (calls.Append text bytes)) has

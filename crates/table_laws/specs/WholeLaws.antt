-- Whole calls: what a table and snapshots stand for before and after.
use Rattle.std.specs.Prelude.{◌≡◌, ℕ, ◌+◌, Bool, not, ◌&&◌, List, Some, None, Ok}
use Rattle.std.specs.List.{Contains, list_any}
use Rattle.hs_types.specs.Names.{Names}
use Rattle.hs_types.specs.declared.ids.InodeId.{InodeId}
use Rattle.hs_types.specs.declared.ids.SnapId.{SnapId}
use Rattle.hs_types.specs.declared.call.Call.TheVariants as calls
use Rattle.hs_plain.specs.declared.state.Node.{Node}
use Rattle.hs_plain.specs.declared.state.State.{State}
use Rattle.hs_plain.specs.declared.state.Member.{Member}
use Rattle.hs_plain.specs.declared.state.FileBlocks.{FileBlocks}
use Rattle.hs_plain.specs.Files.{Files}
use Rattle.hs_plain.specs.Tree.{node_at, same_inode}
use Rattle.hs_plain.specs.State.{is_snapshottable}
use Rattle.hs_plain.specs.Modifying.{set_mode_at, append_at, mkdir_at, create_at, delete_at, rename_at}
use Rattle.hs_plain.specs.Snapshotting.{directory_at, allow_at, disallow_at, snap_at, snap_del_at, snap_ren_at}
use Rattle.hs_plain.specs.Change.{change, ticked, removed, unsnapped}
use Rattle.snapshot_manager.specs.Snapshots.{Snapshots, IsProper, allowed, disallowed, changed as snaps_changed, renamed as snaps_renamed, without as snaps_without}
use Rattle.inode_table.specs.declared.change.Change.TheVariants as changes
use Rattle.inode_table.specs.declared.freed.Freed.{Freed}
use Rattle.inode_table.specs.Reads.{child}
use Rattle.inode_table.specs.Indexed.{made_between}
use Rattle.inode_table.specs.Released.{Releasing}
use Rattle.inode_table.specs.Tabled.{Tabled}
use Rattle.inode_table.specs.Whole.{StandsFor}
use Rattle.table_laws.specs.RecordDropped.{LooksAt}
use Rattle.table_laws.specs.WholeCalls as tables
use Rattle.table_laws.specs.WholeCalls.{way_to}
use Rattle.table_laws.specs.WholeStands.{Reaches}

-- an entry that changes nothing but the tick
abbrev pub TickLaw : Type 0
TickLaw = (t : Tabled) (snaps : Snapshots) (state : State FileBlocks) → StandsFor t snaps state → StandsFor t snaps (ticked state)

-- another mode
abbrev pub SetModeLaw : Type 0
SetModeLaw = (files : Files FileBlocks) (t : Tabled) (snaps : Snapshots) (state : State FileBlocks) (text : List ℕ) (mode : ℕ) (path : Names) (chain : List InodeId) (node : Node FileBlocks)
    → StandsFor t snaps state → set_mode_at state text ≡ Ok path → Reaches state path chain node
    → StandsFor (tables.touched state (way_to node chain) (changes.Mode mode) t) snaps (ticked (change files state (calls.SetMode text mode)))

-- bytes more; what stands for the file then is said by `files`
abbrev pub AppendLaw : Type 0
AppendLaw = (files : Files FileBlocks) (t : Tabled) (snaps : Snapshots) (state : State FileBlocks) (text bytes : List ℕ) (path : Names) (chain : List InodeId) (node : Node FileBlocks) (old new : FileBlocks)
    → StandsFor t snaps state → append_at state text ≡ Ok (path, node, old) → new ≡ files.append old bytes → Reaches state path chain node
    → StandsFor (tables.touched state (way_to node chain) (changes.Body new.size new.blocks) t) snaps (ticked (change files state (calls.Append text bytes)))

-- a new directory, whose id is the next one
abbrev pub new_dir_table : State FileBlocks → ℕ → Node FileBlocks → List InodeId → List ℕ → Tabled → Tabled
new_dir_table state issued parent chain name t =
    tables.made state issued (way_to parent chain) name (record { 0 = state.next_inode }) (tables.dir_rows (record { parent = parent.id; name = name }) (state.tick + 1)) t

abbrev pub MkdirLaw : Type 0
MkdirLaw = (files : Files FileBlocks) (t : Tabled) (snaps : Snapshots) (state : State FileBlocks) (text : List ℕ) (above : Names) (name : List ℕ) (chain : List InodeId) (parent : Node FileBlocks)
    → StandsFor t snaps state → mkdir_at state text ≡ Ok (child above name) → Reaches state above chain parent
    → StandsFor (new_dir_table state snaps.issued.0 parent chain name t) snaps (ticked (change files state (calls.Mkdir text)))

-- a new file
abbrev pub new_file_table : Files FileBlocks → State FileBlocks → ℕ → Node FileBlocks → List InodeId → List ℕ → Tabled → Tabled
new_file_table files state issued parent chain name t =
    tables.made state issued (way_to parent chain) name (record { 0 = state.next_inode }) (tables.file_rows (record { parent = parent.id; name = name }) files.empty (state.tick + 1)) t

abbrev pub CreateLaw : Type 0
CreateLaw = (files : Files FileBlocks) (t : Tabled) (snaps : Snapshots) (state : State FileBlocks) (text : List ℕ) (over : Bool) (above : Names) (name : List ℕ) (chain : List InodeId) (parent : Node FileBlocks)
    → StandsFor t snaps state → create_at state text over ≡ Ok (child above name) → Reaches state above chain parent → node_at state.tree (child above name) ≡ None
    → StandsFor (new_file_table files state snaps.issued.0 parent chain name t) snaps (ticked (change files state (calls.Create text over)))

-- these cease to be snapshottable as a path goes
abbrev pub AreGone : State FileBlocks → Names → List InodeId → Type 0
AreGone state path gone = (id : InodeId) → is_snapshottable (removed state path) id ≡ (is_snapshottable state id && not (list_any (same_inode id) gone))

-- a node goes with all below it; `gone` were snapshottable, and rows that no list names go too
abbrev pub DeleteLaw : Type 0
DeleteLaw = (files : Files FileBlocks) (t after : Tabled) (freed : Freed) (snaps : Snapshots) (gone : List InodeId) (state : State FileBlocks) (text : List ℕ) (recursive : Bool) (above : Names) (name : List ℕ) (chain : List InodeId) (parent : Node FileBlocks)
    → StandsFor t snaps state → delete_at state text recursive ≡ Ok (child above name) → Reaches state above chain parent → AreGone state (child above name) gone
    → Releasing (tables.unlinked state (way_to parent chain) name t) freed after
    → StandsFor after (tables.all_disallowed gone snaps) (ticked (change files state (calls.Delete text recursive)))

-- a node goes to a new place
abbrev pub RenameLaw : Type 0
RenameLaw = (files : Files FileBlocks) (t : Tabled) (snaps : Snapshots) (state : State FileBlocks) (old_text new_text : List ℕ) (from to : Names) (old_name new_name : List ℕ) (chain_a chain_b chain_x : List InodeId) (a b x : Node FileBlocks)
    → StandsFor t snaps state → rename_at state old_text new_text ≡ Ok (child from old_name, child to new_name)
    → Reaches state from chain_a a → Reaches state to chain_b b → Reaches state (child from old_name) chain_x x
    → StandsFor (tables.renamed state snaps.issued.0 (way_to a chain_a) (way_to b chain_b) (way_to x chain_x) old_name new_name t) snaps (ticked (change files state (calls.Rename old_text new_text)))

-- a snapshot: no row changes
abbrev pub SnapLaw : Type 0
SnapLaw = (files : Files FileBlocks) (t : Tabled) (snaps : Snapshots) (state : State FileBlocks) (text name : List ℕ) (path : Names) (node : Node FileBlocks)
    → StandsFor t snaps state → snap_at state text name ≡ Ok (path, node) → StandsFor t (tables.with_snapshot state node.id name snaps) (ticked (change files state (calls.Snap text name)))

-- a directory becomes snapshottable
abbrev pub AllowLaw : Type 0
AllowLaw = (files : Files FileBlocks) (t : Tabled) (snaps : Snapshots) (state : State FileBlocks) (text : List ℕ) (id : InodeId)
    → IsProper snaps → StandsFor t snaps state → allow_at state text ≡ Ok id → StandsFor t (allowed id snaps) (ticked (change files state (calls.Allow text)))

-- a directory is snapshottable no more
abbrev pub DisallowLaw : Type 0
DisallowLaw = (files : Files FileBlocks) (t : Tabled) (snaps : Snapshots) (state : State FileBlocks) (text : List ℕ) (id : InodeId)
    → StandsFor t snaps state → disallow_at state text ≡ Ok id → StandsFor t (disallowed id snaps) (ticked (change files state (calls.Disallow text)))

-- a new file in the place of one that is there
abbrev pub over_file_table : Files FileBlocks → State FileBlocks → ℕ → Node FileBlocks → List InodeId → List ℕ → Tabled → Tabled
over_file_table files state issued parent chain name t =
    tables.replaced state issued (way_to parent chain) name (record { 0 = state.next_inode }) (tables.file_rows (record { parent = parent.id; name = name }) files.empty (state.tick + 1)) t

abbrev pub CreateOverLaw : Type 0
CreateOverLaw = (files : Files FileBlocks) (t after : Tabled) (freed : Freed) (snaps : Snapshots) (state : State FileBlocks) (text : List ℕ) (over : Bool) (above : Names) (name : List ℕ) (chain : List InodeId) (parent old : Node FileBlocks)
    → StandsFor t snaps state → create_at state text over ≡ Ok (child above name) → Reaches state above chain parent → node_at state.tree (child above name) ≡ Some old
    → Releasing (over_file_table files state snaps.issued.0 parent chain name t) freed after
    → StandsFor after snaps (ticked (change files state (calls.Create text over)))

-- a snapshot gets another name
abbrev pub SnapRenLaw : Type 0
SnapRenLaw = (files : Files FileBlocks) (t : Tabled) (snaps : Snapshots) (state : State FileBlocks) (text old new : List ℕ) (path : Names) (node : Node FileBlocks) (id : SnapId)
    → StandsFor t snaps state → directory_at state text ≡ Ok (path, node) → snap_ren_at state text old new ≡ Ok id
    → StandsFor t (snaps_changed node.id (snaps_renamed old new) snaps) (ticked (change files state (calls.SnapRen text old new)))

-- a snapshot goes: the rows that the index has from its tick on are looked at, and rows that no list names go
abbrev pub SnapDelLaw : Type 0
SnapDelLaw = (files : Files FileBlocks) (t middle after : Tabled) (freed : Freed) (snaps : Snapshots) (state : State FileBlocks) (text name : List ℕ) (path : Names) (node : Node FileBlocks) (gone : Member FileBlocks)
    → StandsFor t snaps state → directory_at state text ≡ Ok (path, node) → snap_del_at state text name ≡ Ok gone.snapshot → Contains state.members gone
    → LooksAt (unsnapped state gone.snapshot).members (made_between gone.tick state.tick t.rows t.index) t middle → Releasing middle freed after
    → StandsFor after (snaps_changed node.id (snaps_without name) snaps) (ticked (change files state (calls.SnapDel text name)))

-- The bytes of all files, as the store is written and as a block is freed.
use Rattle.std.proofs.Common.{◌≡◌, ℕ, cond, List, [], ◌∷◌, ◌++◌, take, Option, Some, None, sym, ap, subst, ◌∙◌}
use Rattle.std.specs.List.{Contains}
use Rattle.std.specs.Option.{unwrap_or}
use Rattle.hs_types.specs.declared.ids.InodeId.{InodeId}
use Rattle.hs_types.specs.declared.ids.BlockId.{BlockId}
use Rattle.hs_types.specs.Blocks.{BlockMap, find, file_bytes}
use Rattle.hs_plain.specs.declared.state.State.{State}
use Rattle.hs_plain.specs.declared.state.FileBlocks.{FileBlocks}
use Rattle.hs_plain.specs.Valid.{IsSorted}
use Rattle.hs_plain.specs.Viewed.{HasBytes}
use Rattle.hs_plain.proofs.ValidShapes.{same_some}
use Rattle.file_changes.specs.declared.state.FileState.{FileState}
use Rattle.block_store.specs.Changes.{Changes, Sets}
use Rattle.block_contents.specs.Contents.{KeepsFile}
use Rattle.file_changes.specs.History.{FileHistory}
use Rattle.inode_table.specs.RowHistory.{File, Table, rows_at}
use Rattle.inode_table.specs.Stands.{Stands}
use Rattle.inode_table.specs.Blocked.{AreBlocks, HasState, NamesBlock, states_of, bytes_within}
use Rattle.inode_table.proofs.Bytes.{frozen-bytes}
use Rattle.table_laws.proofs.BlockLists.{by-block, holds-some, held-each}
use Rattle.table_laws.proofs.BlockStates.{in-states, current-in, same-file}
use Rattle.table_laws.proofs.BlockBodies.{by-in, kept-other, grown-held, freed-held, still-here}
use Rattle.table_laws.proofs.BlockFronts.{SameFront, fronts-same, front-fewer, front-each, front-all, state-same}

module _ (table : Table) (state : State FileBlocks) (plain : State (List ℕ)) (issued : ℕ) (sorted : IsSorted state) (stands : Stands table state issued) where
  bytes_same : (before now : BlockMap) → ((x : InodeId) (state : FileState) → HasState table x state → file_bytes now state.size state.blocks ≡ file_bytes before state.size state.blocks) → HasBytes (Some before) state plain → HasBytes (Some now) state plain
  bytes_same before now same has = state-same table before now same state issued sorted stands ∙ has

  module _ (id : InodeId) (file : FileHistory) (was : rows_at table id ≡ Some (File file)) (made : ℕ) (waiting : List BlockId) where
    grown_bytes : (before now : BlockMap) → KeepsFile file.current.size file.current.blocks before now → AreBlocks table (Some before) made waiting → (x : InodeId) (state : FileState) → HasState table x state
        → file_bytes now state.size state.blocks ≡ file_bytes before state.size state.blocks
    grown_bytes before now keep are x state has =
        let own_held = are.held id file.current (record { file = file; row = was; is = current-in file }) in
        let fronts = fronts-same before now file.current.size file.current.blocks own_held keep.holds keep.contents in
        frozen-bytes before now state.size state.blocks (are.held x state has) (grown-held table id file was made waiting before now keep are x state has)
        (front-all before now state.size state.blocks (are.files x state has).apart (λ block c.
        by-in file.current.blocks block
        (λ own.
        let names_own : NamesBlock table id block = record { state = file.current; has = record { file = file; row = was; is = current-in file }; named = own } in
        let same : x ≡ id = are.apart x id block (record { state = state; has = has; named = c }) names_own in
        let is : has.file ≡ file = same-file (same_some (sym has.row ∙ ap (rows_at table) same ∙ was)) in
        let most = front-each before now file.current.size file.current.blocks block fronts own in
        in-states file state (subst (λ (f : FileHistory). Contains (states_of f) state) is has.is)
        (λ cur. subst (λ (s : FileState). SameFront before now block (bytes_within s.size s.blocks block)) (sym cur) most)
        (λ r k e. subst (λ (s : FileState). SameFront before now block (bytes_within s.size s.blocks block)) e
        (front-fewer before now block (bytes_within file.current.size file.current.blocks block) (bytes_within r.state.size r.state.blocks block)
        (are.no_more id file r block was k (subst (λ (s : FileState). Contains s.blocks block) (sym e) c) own) most)))
        (λ other.
        let had = held-each before state.size state.blocks block (are.held x state has) c in
        ap (λ (o : Option (List ℕ)). take (bytes_within state.size state.blocks block) (unwrap_or o [])) (kept-other file.current.size file.current.blocks before now block keep (holds-some (find before block) (bytes_within state.size state.blocks block) had) other))))

    grown_has : (store now : Option BlockMap) → Changes store now (KeepsFile file.current.size file.current.blocks) → AreBlocks table store made waiting → HasBytes store state plain → HasBytes now state plain
    grown_has None None grows are has = tt
    grown_has None (Some now) grows are has = absurd grows
    grown_has (Some before) None grows are has = absurd grows
    grown_has (Some before) (Some now) grows are has = bytes_same before now (grown_bytes before now grows are) has

  module _ (made : ℕ) (front back : List BlockId) (block : BlockId) where
    freed_bytes : (before now : BlockMap) → Sets block None before now → AreBlocks table (Some before) made (front ++ block ∷ back) → (x : InodeId) (state : FileState) → HasState table x state
        → file_bytes now state.size state.blocks ≡ file_bytes before state.size state.blocks
    freed_bytes before now frees are x state has =
        frozen-bytes before now state.size state.blocks (are.held x state has) (freed-held table front back block made before now frees are x state has)
        (front-all before now state.size state.blocks (are.files x state has).apart (λ other c.
        by-block block other
        (λ e. absurd (are.let_go x block (still-here table front back block) (record { state = state; has = has; named = subst (Contains state.blocks) (sym e) c })))
        (λ ne. ap (λ (o : Option (List ℕ)). take (bytes_within state.size state.blocks other) (unwrap_or o [])) (frees other ∙ ap (λ b. cond b None (find before other)) ne))))

    freed_has : (store now : Option BlockMap) → Changes store now (Sets block None) → AreBlocks table store made (front ++ block ∷ back) → HasBytes store state plain → HasBytes now state plain
    freed_has None None frees are has = tt
    freed_has None (Some now) frees are has = absurd frees
    freed_has (Some before) None frees are has = absurd frees
    freed_has (Some before) (Some now) frees are has = bytes_same before now (freed_bytes before now frees are) has

pub grow-bytes : (table : Table) (state : State FileBlocks) (plain : State (List ℕ)) (issued : ℕ) (id : InodeId) (file : FileHistory) (store now : Option BlockMap) (made : ℕ) (waiting : List BlockId)
    → IsSorted state → Stands table state issued → rows_at table id ≡ Some (File file) → Changes store now (KeepsFile file.current.size file.current.blocks) → AreBlocks table store made waiting
    → HasBytes store state plain → HasBytes now state plain
grow-bytes table state plain issued id file store now made waiting sorted stands was grows are has = grown_has table state plain issued sorted stands id file was made waiting store now grows are has

pub free-bytes : (table : Table) (state : State FileBlocks) (plain : State (List ℕ)) (issued : ℕ) (store now : Option BlockMap) (made : ℕ) (front back : List BlockId) (block : BlockId)
    → IsSorted state → Stands table state issued → Changes store now (Sets block None) → AreBlocks table store made (front ++ block ∷ back)
    → HasBytes store state plain → HasBytes now state plain
free-bytes table state plain issued store now made front back block sorted stands frees are has = freed_has table state plain issued sorted stands made front back block store now frees are has

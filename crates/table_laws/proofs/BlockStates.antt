-- Blocks of a table, by what the states of its rows name.
use Rattle.std.proofs.Common.{◌≡◌, ℕ, ◌≤◌, true, false, cond, nat_lt, List, [], ◌∷◌, ◌++◌, map, Option, Some, None, refl, sym, ap, subst, ◌∙◌, append-nil, ◌⊎◌, inl, inr, ⊎_elim, arith}
use Rattle.std.specs.Prelude.{◌≢◌}
use Rattle.std.specs.List.{Contains, IsDistinct}
use Rattle.std.proofs.lemmas.List.Elements.{Contains-append_left, Contains-append_right, Contains-append_cases, Contains-push_cases}
use Rattle.hs_types.specs.declared.ids.InodeId.{InodeId}
use Rattle.hs_types.specs.declared.ids.BlockId.{BlockId}
use Rattle.hs_types.specs.Blocks.{BlockMap, IsFile, HoldsFile, same_block}
use Rattle.hs_plain.proofs.ValidShapes.{same_some}
use Rattle.file_changes.specs.declared.state.FileRecord.{FileRecord}
use Rattle.file_changes.specs.declared.state.FileState.{FileState}
use Rattle.file_changes.specs.History as files
use Rattle.file_changes.specs.History.{FileHistory}
use Rattle.dir_changes.specs.History.{DirHistory}
use Rattle.inode_table.specs.declared.change.Change.{Change}
use Rattle.inode_table.specs.declared.change.Change.TheVariants as changes
use Rattle.inode_table.specs.RowHistory.{RowHistory, File, Dir, Table, rows_at}
use Rattle.inode_table.specs.Tabled.{begun_file, edited_file}
use Rattle.inode_table.specs.Blocked.{AreBlocks, HasState, NamesBlock, IsNeeded, HasNeeded, HoldsState, states_of, bytes_within}
use Rattle.inode_table.proofs.Reading.{by_id}
use Rattle.table_laws.specs.Blocking.{IsBodiless}
use Rattle.table_laws.proofs.BlockLists.{in-here, in-later, in-either, in-none, distinct-none, distinct-append}

-- ---- states of a file

module _ {X Y : Type 0} (f : X → Y) where
  map_in : (xs : List X) (y : Y) → Contains (map f xs) y → (x : X) × Contains xs x × (f x ≡ y)
  map_in [] y c = absurd (in-none y c)
  map_in (x ∷ xs) y c = ⊎_elim
      (λ e. (x, in-here xs x x refl, sym e))
      (λ k. let rest = map_in xs y k in (rest.0, in-later xs x rest.0 rest.1, rest.2))
      (in-either (map f xs) (f x) y c)

  in_map : (xs : List X) (x : X) → Contains xs x → Contains (map f xs) (f x)
  in_map [] x c = absurd (in-none x c)
  in_map (y ∷ ys) x c = ⊎_elim
      (λ e. in-here (map f ys) (f y) (f x) (ap f e))
      (λ k. in-later (map f ys) (f y) (f x) (in_map ys x k))
      (in-either ys y x c)

pub in-states : {P : Type 0} (file : FileHistory) (state : FileState) → Contains (states_of file) state → (state ≡ file.current → P) → ((r : FileRecord) → Contains file.records r → r.state ≡ state → P) → P
in-states file state c now then = ⊎_elim now (λ k. let found = map_in (λ (r : FileRecord). r.state) file.records state k in then found.0 found.1 found.2) (in-either (map (λ (r : FileRecord). r.state) file.records) file.current state c)

pub current-in : (file : FileHistory) → Contains (states_of file) file.current
current-in file = in-here (map (λ (r : FileRecord). r.state) file.records) file.current file.current refl

pub saved-in : (file : FileHistory) (r : FileRecord) → Contains file.records r → Contains (states_of file) r.state
saved-in file r c = in-later (map (λ (r : FileRecord). r.state) file.records) file.current r.state (in_map (λ (r : FileRecord). r.state) file.records r c)

pub same-file : {a b : FileHistory} → File a ≡ File b → a ≡ b
same-file h = cc

pub dir-file : {a : DirHistory} {b : FileHistory} → Dir a ≡ File b → ⊥
dir-file h = cc

pub holds-alike : (store : Option BlockMap) (a b : FileState) → b.size ≡ a.size → b.blocks ≡ a.blocks → HoldsState store a → HoldsState store b
holds-alike None a b size blocks h = tt
holds-alike (Some map) a b size blocks h = subst (λ (n : ℕ). HoldsFile map n b.blocks) (sym size) (subst (λ (bs : List BlockId). HoldsFile map a.size bs) (sym blocks) h)

pub file-alike : (a b : FileState) → b.size ≡ a.size → b.blocks ≡ a.blocks → IsFile a.size a.blocks → IsFile b.size b.blocks
file-alike a b size blocks h = subst (λ (n : ℕ). IsFile n b.blocks) (sym size) (subst (λ (bs : List BlockId). IsFile a.size bs) (sym blocks) h)

pub needed-alike : (store : Option BlockMap) (A B : BlockId → Type 0) → ((block : BlockId) → A block → B block) → ((block : BlockId) → B block → A block) → HasNeeded store A → HasNeeded store B
needed-alike None A B to from h = tt
needed-alike (Some map) A B to from h = λ block. (λ k. to block ((h block).0 k), λ k. (h block).1 (from block k))

-- ---- from a table to one that names no more

-- in a block that a saved state and the current one share, the saved one has no more bytes
abbrev pub NoMore : Table → Type 0
NoMore table = (id : InodeId) (file : FileHistory) (saved : FileRecord) (block : BlockId) → rows_at table id ≡ Some (File file) → Contains file.records saved
    → Contains saved.state.blocks block → Contains file.current.blocks block → bytes_within saved.state.size saved.state.blocks block ≤ bytes_within file.current.size file.current.blocks block

-- what is named no more is handed out
pub record HandsOut (before after : Table) (gone : List BlockId) (store : Option BlockMap) : Type 0 where
  pub states : (id : InodeId) (state : FileState) → HasState after id state → IsFile state.size state.blocks × HoldsState store state
  pub names : (id : InodeId) (block : BlockId) → NamesBlock after id block → NamesBlock before id block
  pub lost : (id : InodeId) (block : BlockId) → NamesBlock before id block → NamesBlock after id block ⊎ Contains gone block
  pub named : (block : BlockId) → Contains gone block → (id : InodeId) × NamesBlock before id block
  pub free : (id : InodeId) (block : BlockId) → Contains gone block → NamesBlock after id block → ⊥
  pub once : IsDistinct same_block gone
  pub no_more : NoMore after

module _ (before after : Table) (gone : List BlockId) (store : Option BlockMap) (made : ℕ) (waiting : List BlockId) (step : HandsOut before after gone store) (are : AreBlocks before store made waiting) where
  to : (block : BlockId) → IsNeeded before waiting block → IsNeeded after (waiting ++ gone) block
  to block need = ⊎_elim
      (λ w. inl (Contains-append_left waiting gone block w))
      (λ n. ⊎_elim (λ still. inr (n.0, still)) (λ g. inl (Contains-append_right waiting gone block g)) (step.lost n.0 block n.1))
      need

  from : (block : BlockId) → IsNeeded after (waiting ++ gone) block → IsNeeded before waiting block
  from block need = ⊎_elim
      (λ w. ⊎_elim (λ a. inl a) (λ g. inr (step.named block g)) (Contains-append_cases waiting gone block w))
      (λ n. inr (n.0, step.names n.0 block n.1))
      need

  pub handed : AreBlocks after store made (waiting ++ gone)
  handed = record {
    files = λ id state has. (step.states id state has).0;
    held = λ id state has. (step.states id state has).1;
    apart = λ a b block m n. are.apart a b block (step.names a block m) (step.names b block n);
    no_more = step.no_more;
    once = distinct-append waiting gone are.once step.once (λ block w g. let n = step.named block g in are.let_go n.0 block w n.1);
    let_go = λ id block w n. ⊎_elim
        (λ a. are.let_go id block a (step.names id block n))
        (λ g. step.free id block g n)
        (Contains-append_cases waiting gone block w);
    stored = needed-alike store (IsNeeded before waiting) (IsNeeded after (waiting ++ gone)) to from are.stored;
    numbers = λ block need. are.numbers block (from block need);
  }

pub handed-none : (before after : Table) (store : Option BlockMap) (made : ℕ) (waiting : List BlockId) → HandsOut before after [] store → AreBlocks before store made waiting → AreBlocks after store made waiting
handed-none before after store made waiting step are = subst (AreBlocks after store made) (append-nil waiting) (handed before after [] store made waiting step are)

-- ---- one row changes

pub record OneRow (before after : Table) (id : InodeId) (new : RowHistory) : Type 0 where
  pub here : rows_at after id ≡ Some new
  pub there : (other : InodeId) → other ≢ id → rows_at after other ≡ rows_at before other

module _ (before after : Table) (id : InodeId) (new : RowHistory) (one : OneRow before after id new) where
  -- a state is of that row, or was there
  pub has-one : {P : Type 0} (x : InodeId) (state : FileState) → HasState after x state → ((file : FileHistory) → x ≡ id → new ≡ File file → Contains (states_of file) state → P) → (x ≢ id → HasState before x state → P) → P
  has-one x state has here there = by_id x id
      (λ e. here has.file e (same_some (sym one.here ∙ ap (rows_at after) (sym e) ∙ has.row)) has.is)
      (λ ne. there ne (record { file = has.file; row = sym (one.there x ne) ∙ has.row; is = has.is }))

  pub had-one : (x : InodeId) (state : FileState) → x ≢ id → HasState before x state → HasState after x state
  had-one x state ne has = record { file = has.file; row = one.there x ne ∙ has.row; is = has.is }

  pub no-more-one : NoMore before → ((file : FileHistory) (saved : FileRecord) (block : BlockId) → new ≡ File file → Contains file.records saved
      → Contains saved.state.blocks block → Contains file.current.blocks block → bytes_within saved.state.size saved.state.blocks block ≤ bytes_within file.current.size file.current.blocks block) → NoMore after
  no-more-one was here x file saved block row c s k = by_id x id
      (λ e. here file saved block (same_some (sym one.here ∙ ap (rows_at after) (sym e) ∙ row)) c s k)
      (λ ne. was x file saved block (sym (one.there x ne) ∙ row) c s k)

-- a directory's row has no state
module _ (before after : Table) (id : InodeId) (old new : DirHistory) (was : rows_at before id ≡ Some (Dir old)) (one : OneRow before after id (Dir new)) (store : Option BlockMap) (made : ℕ) (waiting : List BlockId) (are : AreBlocks before store made waiting) where
  not_old : (x : InodeId) (state : FileState) → HasState before x state → x ≢ id
  not_old x state has e = dir-file (same_some (sym was ∙ ap (rows_at before) (sym e) ∙ has.row))

  pub dir-blocks : AreBlocks after store made waiting
  dir-blocks = handed-none before after store made waiting (record {
    states = λ x state has. has-one before after id (Dir new) one x state has
        (λ file e d c. absurd (dir-file d))
        (λ ne was. (are.files x state was, are.held x state was));
    names = λ x block n. has-one before after id (Dir new) one x n.state n.has
        (λ file e d c. absurd (dir-file d))
        (λ ne was. record { state = n.state; has = was; named = n.named });
    lost = λ x block n. inl (record { state = n.state; has = had-one before after id (Dir new) one x n.state (not_old x n.state n.has) n.has; named = n.named });
    named = λ block c. absurd (in-none block c);
    free = λ x block c n. in-none block c;
    once = distinct-none;
    no_more = no-more-one before after id (Dir new) one are.no_more (λ file saved block d c s k. absurd (dir-file d));
  }) are

-- ---- a file's change

begun_current : (cover : ℕ) (file : FileHistory) → (begun_file cover file).current ≡ file.current
begun_current cover file = elim (nat_lt (files.last_number file) cover) as (λ b. (cond b (files.saved (record { 0 = cover }) file) file).current ≡ file.current) [ true ↦ refl | false ↦ refl ]

begun_saved : (cover : ℕ) (file : FileHistory) (r : FileRecord) → Contains (begun_file cover file).records r → Contains file.records r ⊎ (r.state ≡ file.current)
begun_saved cover file r c = elim (nat_lt (files.last_number file) cover) as (λ b. Contains (cond b (files.saved (record { 0 = cover }) file) file).records r → Contains file.records r ⊎ (r.state ≡ file.current)) [
  | true ↦ λ k. ⊎_elim (λ a. inl a) (λ e. inr (sym (ap (λ (s : FileRecord). s.state) e))) (Contains-push_cases file.records (record { number = record { 0 = cover }; state = file.current }) r k)
  | false ↦ λ k. inl k
] c

begun_kept : (cover : ℕ) (file : FileHistory) (r : FileRecord) → Contains file.records r → Contains (begun_file cover file).records r
begun_kept cover file r c = elim (nat_lt (files.last_number file) cover) as (λ b. Contains (cond b (files.saved (record { 0 = cover }) file) file).records r) [
  | true ↦ Contains-append_left file.records (record { number = record { 0 = cover }; state = file.current } ∷ []) r c
  | false ↦ c
]

edited_records : (tick : ℕ) (what : Change) (file : FileHistory) → (edited_file tick what file).records ≡ file.records
edited_records tick (changes.Mode mode) file = refl
edited_records tick (changes.Body size blocks) file = refl
edited_records tick (changes.Add name id) file = refl
edited_records tick (changes.Remove name) file = refl
edited_records tick (changes.Move spot) file = refl

edited_size : (tick : ℕ) (what : Change) (file : FileHistory) → IsBodiless what → (edited_file tick what file).current.size ≡ file.current.size
edited_size tick (changes.Mode mode) file quiet = refl
edited_size tick (changes.Body size blocks) file quiet = absurd quiet
edited_size tick (changes.Add name id) file quiet = refl
edited_size tick (changes.Remove name) file quiet = refl
edited_size tick (changes.Move spot) file quiet = refl

edited_blocks : (tick : ℕ) (what : Change) (file : FileHistory) → IsBodiless what → (edited_file tick what file).current.blocks ≡ file.current.blocks
edited_blocks tick (changes.Mode mode) file quiet = refl
edited_blocks tick (changes.Body size blocks) file quiet = absurd quiet
edited_blocks tick (changes.Add name id) file quiet = refl
edited_blocks tick (changes.Remove name) file quiet = refl
edited_blocks tick (changes.Move spot) file quiet = refl

-- what a change leaves of the saved states: those that were there, and perhaps the one that was current
pub record Saves (old new : FileHistory) : Type 0 where
  pub saved : (r : FileRecord) → Contains new.records r → Contains old.records r ⊎ (r.state ≡ old.current)
  pub kept : (r : FileRecord) → Contains old.records r → Contains new.records r

pub changed-saves : (cover tick : ℕ) (what : Change) (file : FileHistory) → Saves file (edited_file tick what (begun_file cover file))
changed-saves cover tick what file = record {
  saved = λ r c. begun_saved cover file r (subst (λ (rs : List FileRecord). Contains rs r) (edited_records tick what (begun_file cover file)) c);
  kept = λ r c. subst (λ (rs : List FileRecord). Contains rs r) (sym (edited_records tick what (begun_file cover file))) (begun_kept cover file r c);
}

pub changed-size : (cover tick : ℕ) (what : Change) (file : FileHistory) → IsBodiless what → (edited_file tick what (begun_file cover file)).current.size ≡ file.current.size
changed-size cover tick what file quiet = edited_size tick what (begun_file cover file) quiet ∙ ap (λ (s : FileState). s.size) (begun_current cover file)

pub changed-blocks : (cover tick : ℕ) (what : Change) (file : FileHistory) → IsBodiless what → (edited_file tick what (begun_file cover file)).current.blocks ≡ file.current.blocks
changed-blocks cover tick what file quiet = edited_blocks tick what (begun_file cover file) quiet ∙ ap (λ (s : FileState). s.blocks) (begun_current cover file)

-- a file whose current state has the same bytes
module _ (before after : Table) (id : InodeId) (old new : FileHistory) (was : rows_at before id ≡ Some (File old)) (one : OneRow before after id (File new)) (saves : Saves old new)
    (size : new.current.size ≡ old.current.size) (blocks : new.current.blocks ≡ old.current.blocks) (store : Option BlockMap) (made : ℕ) (waiting : List BlockId) (are : AreBlocks before store made waiting) where
  had : (state : FileState) → Contains (states_of old) state → HasState before id state
  had state c = record { file = old; row = was; is = c }

  has : (state : FileState) → Contains (states_of new) state → HasState after id state
  has state c = record { file = new; row = one.here; is = c }

  -- a state of the row has the bytes of one that it had
  from_state : {P : Type 0} (state : FileState) → Contains (states_of new) state → ((other : FileState) → HasState before id other → state.size ≡ other.size → state.blocks ≡ other.blocks → P) → P
  from_state state c then = in-states new state c
      (λ e. then old.current (had old.current (current-in old)) (ap (λ (s : FileState). s.size) e ∙ size) (ap (λ (s : FileState). s.blocks) e ∙ blocks))
      (λ r k e. ⊎_elim
      (λ a. then r.state (had r.state (saved-in old r a)) (ap (λ (s : FileState). s.size) (sym e)) (ap (λ (s : FileState). s.blocks) (sym e)))
      (λ cur. then old.current (had old.current (current-in old)) (ap (λ (s : FileState). s.size) (sym e ∙ cur)) (ap (λ (s : FileState). s.blocks) (sym e ∙ cur)))
      (saves.saved r k))

  to_state : {P : Type 0} (state : FileState) → Contains (states_of old) state → ((other : FileState) → HasState after id other → other.blocks ≡ state.blocks → P) → P
  to_state state c then = in-states old state c
      (λ e. then new.current (has new.current (current-in new)) (blocks ∙ ap (λ (s : FileState). s.blocks) (sym e)))
      (λ r k e. then r.state (has r.state (saved-in new r (saves.kept r k))) (ap (λ (s : FileState). s.blocks) e))

  file_states : (x : InodeId) (state : FileState) → HasState after x state → IsFile state.size state.blocks × HoldsState store state
  file_states x state h = has-one before after id (File new) one x state h
      (λ file e d c. from_state state (subst (λ (f : FileHistory). Contains (states_of f) state) (sym (same-file d)) c) (λ other o s b.
      (file-alike other state s b (are.files id other o), holds-alike store other state s b (are.held id other o))))
      (λ ne o. (are.files x state o, are.held x state o))

  file_names : (x : InodeId) (block : BlockId) → NamesBlock after x block → NamesBlock before x block
  file_names x block n = has-one before after id (File new) one x n.state n.has
      (λ file e d c. from_state n.state (subst (λ (f : FileHistory). Contains (states_of f) n.state) (sym (same-file d)) c) (λ other o s b.
      subst (λ (y : InodeId). NamesBlock before y block) (sym e) (record { state = other; has = o; named = subst (λ (bs : List BlockId). Contains bs block) b n.named })))
      (λ ne o. record { state = n.state; has = o; named = n.named })

  file_lost : (x : InodeId) (block : BlockId) → NamesBlock before x block → NamesBlock after x block
  file_lost x block n = by_id x id
      (λ e. let same : n.has.file ≡ old = same-file (same_some (sym n.has.row ∙ ap (rows_at before) e ∙ was)) in
      to_state n.state (subst (λ (f : FileHistory). Contains (states_of f) n.state) same n.has.is) (λ other o b.
      subst (λ (y : InodeId). NamesBlock after y block) (sym e) (record { state = other; has = o; named = subst (λ (bs : List BlockId). Contains bs block) (sym b) n.named })))
      (λ ne. record { state = n.state; has = had-one before after id (File new) one x n.state ne n.has; named = n.named })

  file_more : (saved : FileRecord) (block : BlockId) → Contains new.records saved → Contains saved.state.blocks block → Contains new.current.blocks block
      → bytes_within saved.state.size saved.state.blocks block ≤ bytes_within new.current.size new.current.blocks block
  file_more saved block c s k =
      let now : bytes_within new.current.size new.current.blocks block ≡ bytes_within old.current.size old.current.blocks block =
      ap (λ (n : ℕ). bytes_within n new.current.blocks block) size ∙ ap (λ (bs : List BlockId). bytes_within old.current.size bs block) blocks in
      ⊎_elim
      (λ a. let le = are.no_more id old saved block was a s (subst (λ (bs : List BlockId). Contains bs block) blocks k) in omega (arith, le, now))
      (λ cur. let same = ap (λ (t : FileState). bytes_within t.size t.blocks block) cur in omega (arith, same, now))
      (saves.saved saved c)

  pub file-blocks : AreBlocks after store made waiting
  file-blocks = handed-none before after store made waiting (record {
    states = file_states;
    names = file_names;
    lost = λ x block n. inl (file_lost x block n);
    named = λ block c. absurd (in-none block c);
    free = λ x block c n. in-none block c;
    once = distinct-none;
    no_more = no-more-one before after id (File new) one are.no_more (λ file saved block d c s k.
        subst (λ (f : FileHistory). Contains f.records saved → Contains f.current.blocks block → bytes_within saved.state.size saved.state.blocks block ≤ bytes_within f.current.size f.current.blocks block)
        (same-file d) (λ c2 k2. file_more saved block c2 s k2) c k);
  }) are

-- Blocks as a file's list grows, as the store gets blocks, and as one is freed.
use Rattle.std.proofs.Common.{◌≡◌, ℕ, ◌+◌, ◌<◌, ◌≤◌, Bool, false, cond, nat_lt, nat_eq, ◌&&◌, List, [], ◌∷◌, ◌++◌, length, Option, Some, None, is_some, refl, sym, ap, subst, ◌∙◌, ◌⊎◌, inl, inr, ⊎_elim, ◌↔◌, true, arith}
use Rattle.std.specs.List.{Contains, IsDistinct}
use Rattle.std.proofs.lemmas.Bool.Decides.{nat_tests}
use Rattle.std.proofs.lemmas.List.Elements.{Contains-append_left, Contains-append_right, Contains-append_cases}
use Rattle.hs_types.specs.declared.ids.InodeId.{InodeId}
use Rattle.hs_types.specs.declared.ids.BlockId.{BlockId}
use Rattle.hs_types.specs.Blocks.{BlockMap, IsFile, Holds, HoldsFile, find, same_block}
use Rattle.hs_plain.proofs.ValidShapes.{same_some, true_false}
use Rattle.dir_changes.specs.Counts.{one_where}
use Rattle.file_changes.specs.declared.state.FileRecord.{FileRecord}
use Rattle.file_changes.specs.declared.state.FileState.{FileState}
use Rattle.block_store.specs.Changes.{Changes, Sets}
use Rattle.block_contents.specs.Contents.{is_last, Appended, KeepsFile, MakesOnly, AreMade}
use Rattle.file_changes.specs.History.{FileHistory}
use Rattle.inode_table.specs.declared.change.Change.TheVariants as changes
use Rattle.inode_table.specs.RowHistory.{RowHistory, File, Table, rows_at}
use Rattle.inode_table.specs.Released.{times_block}
use Rattle.inode_table.specs.Tabled.{Tabled, changed, changed_rows, begun_file, edited_file}
use Rattle.inode_table.specs.Blocked.{AreBlocks, HasState, NamesBlock, IsNeeded, HasNeeded, HoldsState, states_of, bytes_within}
use Rattle.inode_table.proofs.Reading.{by_id}
use Rattle.table_laws.specs.Blocking.{Appends}
use Rattle.table_laws.proofs.NamedSteps.{row-so}
use Rattle.table_laws.proofs.BlockLists.{by-zero, or-left, or-right, or-either, by-block, same-block, in-here, in-later, in-either, in-none, distinct-none, times-append, times-in, in-times, times-distinct, distinct-times, distinct-append, distinct-left, distinct-apart, holds-fewer, holds-some, held-each, held-all, bytes-more}
use Rattle.table_laws.proofs.BlockStates.{OneRow, Saves, has-one, had-one, no-more-one, in-states, current-in, saved-in, same-file, holds-alike, needed-alike, changed-saves}
use Rattle.table_laws.proofs.BlockSteps.{changed-one}

-- ---- a file's list grows

module _ (before after : Table) (id : InodeId) (size : ℕ) (more : List BlockId) (old new : FileHistory) (was : rows_at before id ≡ Some (File old)) (one : OneRow before after id (File new)) (saves : Saves old new)
    (is_size : new.current.size ≡ size) (is_blocks : new.current.blocks ≡ old.current.blocks ++ more) (store : Option BlockMap) (made : ℕ) (waiting : List BlockId)
    (file : IsFile size (old.current.blocks ++ more)) (held : HoldsState store new.current) (grows : old.current.size ≤ size) (are : AreBlocks before store made (waiting ++ more)) where
  had : (state : FileState) → Contains (states_of old) state → HasState before id state
  had state c = record { file = old; row = was; is = c }

  has : (state : FileState) → Contains (states_of new) state → HasState after id state
  has state c = record { file = new; row = one.here; is = c }

  -- it is the grown state, or was there
  from_state : {P : Type 0} (state : FileState) → Contains (states_of new) state → (state ≡ new.current → P) → (HasState before id state → P) → P
  from_state state c now then = in-states new state c now
      (λ r k e. ⊎_elim
      (λ a. then (had state (subst (Contains (states_of old)) e (saved-in old r a))))
      (λ cur. then (had state (subst (Contains (states_of old)) (sym cur ∙ e) (current-in old))))
      (saves.saved r k))

  body_states : (x : InodeId) (state : FileState) → HasState after x state → IsFile state.size state.blocks × HoldsState store state
  body_states x state h = has-one before after id (File new) one x state h
      (λ f e d c. from_state state (subst (λ (g : FileHistory). Contains (states_of g) state) (sym (same-file d)) c)
      (λ now. (
        subst (λ (s : FileState). IsFile s.size s.blocks) (sym now)
            (subst (λ (n : ℕ). IsFile n new.current.blocks) (sym is_size) (subst (λ (bs : List BlockId). IsFile size bs) (sym is_blocks) file)),
        subst (HoldsState store) (sym now) held,
      ))
      (λ o. (are.files id state o, are.held id state o)))
      (λ ne o. (are.files x state o, are.held x state o))

  -- a block was named by that row, or is new in it
  body_names : {P : Type 0} (x : InodeId) (block : BlockId) → NamesBlock after x block → (NamesBlock before x block → P) → (x ≡ id → Contains more block → P) → P
  body_names {P} x block n old_one new_one = has-one before after id (File new) one x n.state n.has
      (λ f e d c. from_state n.state (subst (λ (g : FileHistory). Contains (states_of g) n.state) (sym (same-file d)) c)
      (λ now. ⊎_elim
      (λ a. old_one (subst (λ (y : InodeId). NamesBlock before y block) (sym e) (record { state = old.current; has = had old.current (current-in old); named = a })))
      (λ m. new_one e m)
      (Contains-append_cases old.current.blocks more block (subst (λ (bs : List BlockId). Contains bs block) (ap (λ (s : FileState). s.blocks) now ∙ is_blocks) n.named)))
      (λ o. old_one (subst (λ (y : InodeId). NamesBlock before y block) (sym e) (record { state = n.state; has = o; named = n.named }))))
      (λ ne o. old_one (record { state = n.state; has = o; named = n.named }))

  now_names : (block : BlockId) → Contains (old.current.blocks ++ more) block → NamesBlock after id block
  now_names block c = record { state = new.current; has = has new.current (current-in new); named = subst (λ (bs : List BlockId). Contains bs block) (sym is_blocks) c }

  still_names : (x : InodeId) (block : BlockId) → NamesBlock before x block → NamesBlock after x block
  still_names x block n = by_id x id
      (λ e. let same : n.has.file ≡ old = same-file (same_some (sym n.has.row ∙ ap (rows_at before) e ∙ was)) in
      subst (λ (y : InodeId). NamesBlock after y block) (sym e)
      (in-states old n.state (subst (λ (f : FileHistory). Contains (states_of f) n.state) same n.has.is)
      (λ cur. now_names block (Contains-append_left old.current.blocks more block (subst (λ (bs : List BlockId). Contains bs block) (ap (λ (s : FileState). s.blocks) cur) n.named)))
      (λ r k s. record { state = r.state; has = has r.state (saved-in new r (saves.kept r k)); named = subst (λ (t : FileState). Contains t.blocks block) (sym s) n.named })))
      (λ ne. record { state = n.state; has = had-one before after id (File new) one x n.state ne n.has; named = n.named })

  waits : (block : BlockId) → Contains more block → Contains (waiting ++ more) block
  waits block m = Contains-append_right waiting more block m

  to : (block : BlockId) → IsNeeded before (waiting ++ more) block → IsNeeded after waiting block
  to block need = ⊎_elim
      (λ w. ⊎_elim (λ a. inl a) (λ m. inr (id, now_names block (Contains-append_right old.current.blocks more block m))) (Contains-append_cases waiting more block w))
      (λ n. inr (n.0, still_names n.0 block n.1))
      need

  from : (block : BlockId) → IsNeeded after waiting block → IsNeeded before (waiting ++ more) block
  from block need = ⊎_elim
      (λ w. inl (Contains-append_left waiting more block w))
      (λ n. body_names n.0 block n.1 (λ o. inr (n.0, o)) (λ e m. inl (waits block m)))
      need

  now_bytes : (block : BlockId) → bytes_within new.current.size new.current.blocks block ≡ bytes_within size (old.current.blocks ++ more) block
  now_bytes block = ap (λ (n : ℕ). bytes_within n new.current.blocks block) is_size ∙ ap (λ (bs : List BlockId). bytes_within size bs block) is_blocks

  body_more : (saved : FileRecord) (block : BlockId) → Contains new.records saved → Contains saved.state.blocks block → Contains new.current.blocks block
      → bytes_within saved.state.size saved.state.blocks block ≤ bytes_within new.current.size new.current.blocks block
  body_more saved block c s k =
      let now = now_bytes block in
      let grown = bytes-more old.current.size size old.current.blocks more block grows in
      ⊎_elim
      (λ a. ⊎_elim
      (λ l. let le = are.no_more id old saved block was a s l in omega (arith, le, now, grown))
      (λ m. absurd (are.let_go id block (waits block m) (record { state = saved.state; has = had saved.state (saved-in old saved a); named = s })))
      (Contains-append_cases old.current.blocks more block (subst (λ (bs : List BlockId). Contains bs block) is_blocks k)))
      (λ cur. let same = ap (λ (t : FileState). bytes_within t.size t.blocks block) cur in omega (arith, same, now, grown))
      (saves.saved saved c)

  pub body-grown : AreBlocks after store made waiting
  body-grown = record {
    files = λ x state h. (body_states x state h).0;
    held = λ x state h. (body_states x state h).1;
    apart = λ a b block m n. body_names a block m
        (λ om. body_names b block n
        (λ on. are.apart a b block om on)
        (λ e c. absurd (are.let_go a block (waits block c) om)))
        (λ e c. body_names b block n
        (λ on. absurd (are.let_go b block (waits block c) on))
        (λ d _. e ∙ sym d));
    no_more = no-more-one before after id (File new) one are.no_more (λ f saved block d c s k.
        subst (λ (g : FileHistory). Contains g.records saved → Contains g.current.blocks block → bytes_within saved.state.size saved.state.blocks block ≤ bytes_within g.current.size g.current.blocks block)
        (same-file d) (λ c2 k2. body_more saved block c2 s k2) c k);
    once = distinct-left waiting more are.once;
    let_go = λ x block w n. body_names x block n
        (λ o. are.let_go x block (Contains-append_left waiting more block w) o)
        (λ e m. distinct-apart waiting more block are.once w m);
    stored = needed-alike store (IsNeeded before (waiting ++ more)) (IsNeeded after waiting) to from are.stored;
    numbers = λ block need. are.numbers block (from block need);
  }

pub body-blocks : (t : Tabled) (id : InodeId) (cover tick size : ℕ) (new : List BlockId) (file : FileHistory) (store : Option BlockMap) (made : ℕ) (waiting : List BlockId) → rows_at t.rows id ≡ Some (File file)
    → IsFile size (file.current.blocks ++ new) → HoldsState store (record file.current { size = size; blocks = file.current.blocks ++ new }) → file.current.size ≤ size
    → AreBlocks t.rows store made (waiting ++ new) → AreBlocks (changed id cover tick (changes.Body size (file.current.blocks ++ new)) t).rows store made waiting
body-blocks t id cover tick size new file store made waiting there is held grows are =
    let r = row-so t.rows id (File file) there in
    let now = edited_file tick (changes.Body size (file.current.blocks ++ new)) (begun_file cover file) in
    body-grown t.rows (changed id cover tick (changes.Body size (file.current.blocks ++ new)) t).rows id size new file now there
    (subst (λ (rows : RowHistory). OneRow t.rows (changed id cover tick (changes.Body size (file.current.blocks ++ new)) t).rows id (changed_rows cover tick (changes.Body size (file.current.blocks ++ new)) rows)) r.2
    (changed-one t id cover tick (changes.Body size (file.current.blocks ++ new)) r.0 r.1))
    (changed-saves cover tick (changes.Body size (file.current.blocks ++ new)) file) refl refl store made waiting is
    (holds-alike store (record file.current { size = size; blocks = file.current.blocks ++ new }) now.current refl refl held) grows are

-- ---- the store gets blocks

-- blocks whose numbers were given as the greatest one went from low to high, none twice
pub record AreNew (low high : ℕ) (new : List BlockId) : Type 0 where
  pub risen : low ≤ high
  pub above : (block : BlockId) → Contains new block → low < block.0
  pub upto : (block : BlockId) → Contains new block → block.0 ≤ high
  pub once : IsDistinct same_block new

only_one : (x block : BlockId) → Contains (x ∷ []) block → block ≡ x
only_one x block c = ⊎_elim (λ e. e) (λ k. absurd (in-none block k)) (in-either [] x block c)

-- whether a list has a block
pub by-in : {P : Type 0} (xs : List BlockId) (block : BlockId) → (Contains xs block → P) → ((Contains xs block → ⊥) → P) → P
by-in xs block here there = by-zero (times_block block xs) (λ none. there (λ c. let some = times-in block xs c in omega (arith, none, some))) (λ some. here (in-times block xs some))

last_in : (blocks : List BlockId) (block : BlockId) → is_last blocks block ≡ true → Contains blocks block
last_in [] block h = absurd (true_false h refl)
last_in (last ∷ []) block h = by-block last block (λ e. in-here [] last block (sym e)) (λ ne. absurd (true_false h ne))
last_in (first ∷ next ∷ more) block h = in-later (next ∷ more) first block (last_in (next ∷ more) block h)

-- a block outside a file that is kept is as before
pub kept-other : (size : ℕ) (blocks : List BlockId) (before now : BlockMap) (block : BlockId) → KeepsFile size blocks before now → is_some (find before block) ≡ true → (Contains blocks block → ⊥) → find now block ≡ find before block
kept-other size blocks before now block keep there other = keep.others block (by (is_last blocks block) refl) there
  where
    by : (b : Bool) → is_last blocks block ≡ b → is_last blocks block ≡ false
    by true e = absurd (other (last_in blocks block e))
    by false e = e

made-new : (low high : ℕ) (new : List BlockId) → AreMade low high new → AreNew low high new
made-new low high [] made = record {
  risen = omega (arith, made);
  above = λ block c. absurd (in-none block c);
  upto = λ block c. absurd (in-none block c);
  once = distinct-none;
}
made-new low high (x ∷ []) made = record {
  risen = let lt = made.0 in let is = made.1 in omega (arith, lt, is);
  above = λ block c. let e = ap (λ (b : BlockId). b.0) (only_one x block c) in let lt = made.0 in omega (arith, e, lt);
  upto = λ block c. let e = ap (λ (b : BlockId). b.0) (only_one x block c) in let is = made.1 in omega (arith, e, is);
  once = distinct-times (x ∷ []) (λ block. at_most (same_block x block));
}
  where
    at_most : (b : Bool) → one_where b + 0 ≤ 1
    at_most true = omega arith
    at_most false = omega arith
made-new low high (x ∷ y ∷ more) made = absurd made

-- the one number that was given
is_that : (low high : ℕ) (block : BlockId) → (nat_lt low block.0 && nat_eq block.0 high) ≡ true → (low < block.0) × (block.0 ≡ high)
is_that low high block h = (grind (arith, nat_tests, h), grind (arith, nat_tests, h))

that_is : (low high : ℕ) (block : BlockId) → low < block.0 → block.0 ≡ high → (nat_lt low block.0 && nat_eq block.0 high) ≡ true
that_is low high block lt e = grind (arith, nat_tests, lt, e)

made-only : (low high : ℕ) (new : List BlockId) (before now : BlockMap) → MakesOnly low high before now → AreMade low high new → (block : BlockId) → (is_some (find now block) ≡ true) ↔ ((is_some (find before block) ≡ true) ⊎ Contains new block)
made-only low high [] before now only made block = (
  λ some. or-either (is_some (find before block)) (nat_lt low block.0 && nat_eq block.0 high) (sym (only block) ∙ some)
      (λ was. inl was)
      (λ that. absurd (let t = is_that low high block that in let a = t.0 in let b = t.1 in omega (arith, a, b, made))),
  λ either. only block ∙ ⊎_elim (λ was. or-left (is_some (find before block)) (nat_lt low block.0 && nat_eq block.0 high) was) (λ c. absurd (in-none block c)) either,
)
made-only low high (x ∷ []) before now only made block = (
  λ some. or-either (is_some (find before block)) (nat_lt low block.0 && nat_eq block.0 high) (sym (only block) ∙ some)
      (λ was. inl was)
      (λ that. inr (in-here [] x block (ap (λ (n : ℕ). record { 0 = n }) ((is_that low high block that).1 ∙ made.1)))),
  λ either. only block ∙ ⊎_elim
      (λ was. or-left (is_some (find before block)) (nat_lt low block.0 && nat_eq block.0 high) was)
      (λ c. let e = ap (λ (b : BlockId). b.0) (only_one x block c) in
      let lt = made.0 in
      or-right (is_some (find before block)) (nat_lt low block.0 && nat_eq block.0 high) (that_is low high block (omega (arith, e, lt)) (e ∙ sym made.1)))
      either,
)
made-only low high (x ∷ y ∷ more) before now only made block = absurd made

module _ (table : Table) (id : InodeId) (file : FileHistory) (was : rows_at table id ≡ Some (File file)) (low : ℕ) (waiting : List BlockId) where
  pub grown-held : (before now : BlockMap) → KeepsFile file.current.size file.current.blocks before now → AreBlocks table (Some before) low waiting → (x : InodeId) (state : FileState) → HasState table x state → HoldsFile now state.size state.blocks
  grown-held before now keep are x state has = held-all now state.size state.blocks (are.files x state has).apart (λ block c.
      by-in file.current.blocks block
      (λ own.
      let names_own : NamesBlock table id block = record { state = file.current; has = record { file = file; row = was; is = current-in file }; named = own } in
      let same : x ≡ id = are.apart x id block (record { state = state; has = has; named = c }) names_own in
      let is : has.file ≡ file = same-file (same_some (sym has.row ∙ ap (rows_at table) same ∙ was)) in
      let most = held-each now file.current.size file.current.blocks block keep.holds own in
      in-states file state (subst (λ (f : FileHistory). Contains (states_of f) state) is has.is)
      (λ cur. subst (λ (s : FileState). Holds (find now block) (bytes_within s.size s.blocks block)) (sym cur) most)
      (λ r k e. subst (λ (s : FileState). Holds (find now block) (bytes_within s.size s.blocks block)) e
      (holds-fewer (find now block) (bytes_within file.current.size file.current.blocks block) (bytes_within r.state.size r.state.blocks block)
      (are.no_more id file r block was k (subst (λ (s : FileState). Contains s.blocks block) (sym e) c) own) most)))
      (λ other.
      let had = held-each before state.size state.blocks block (are.held x state has) c in
      subst (λ (o : Option (List ℕ)). Holds o (bytes_within state.size state.blocks block)) (sym (kept-other file.current.size file.current.blocks before now block keep (holds-some (find before block) (bytes_within state.size state.blocks block) had) other)) had))

module _ (table : Table) (id : InodeId) (file : FileHistory) (was : rows_at table id ≡ Some (File file)) (low high : ℕ) (waiting new : List BlockId) (are_new : AreNew low high new) where
  grown_need : (block : BlockId) → IsNeeded table (waiting ++ new) block → IsNeeded table waiting block ⊎ Contains new block
  grown_need block need = ⊎_elim (λ w. ⊎_elim (λ a. inl (inl a)) (λ b. inr b) (Contains-append_cases waiting new block w)) (λ n. inl (inr n)) need

  was_need : (block : BlockId) → IsNeeded table waiting block → IsNeeded table (waiting ++ new) block
  was_need block need = ⊎_elim (λ w. inl (Contains-append_left waiting new block w)) (λ n. inr n) need

  grown : (store now : Option BlockMap) → ((x : InodeId) (state : FileState) → HasState table x state → HoldsState now state) → HasNeeded now (IsNeeded table (waiting ++ new)) → AreBlocks table store low waiting → AreBlocks table now high (waiting ++ new)
  grown store now held stored are = record {
    files = are.files;
    held = held;
    apart = are.apart;
    no_more = are.no_more;
    once = distinct-append waiting new are.once are_new.once (λ block w n. let le = are.numbers block (inl w) in let lt = are_new.above block n in omega (arith, le, lt));
    let_go = λ x block w n. ⊎_elim
        (λ a. are.let_go x block a n)
        (λ b. let le = are.numbers block (inr (x, n)) in let lt = are_new.above block b in omega (arith, le, lt))
        (Contains-append_cases waiting new block w);
    stored = stored;
    numbers = λ block need. ⊎_elim
        (λ o. let le = are.numbers block o in let up = are_new.risen in omega (arith, le, up))
        (λ n. are_new.upto block n)
        (grown_need block need);
  }

  grow : (store now : Option BlockMap) → Changes store now (KeepsFile file.current.size file.current.blocks) → Changes store now (MakesOnly low high) → AreMade low high new → AreBlocks table store low waiting → AreBlocks table now high (waiting ++ new)
  grow None None keep only made are = grown None None (λ x state has. tt) tt are
  grow None (Some now) keep only made are = absurd keep
  grow (Some before) None keep only made are = absurd keep
  grow (Some before) (Some now) keep only made are = grown (Some before) (Some now) (grown-held table id file was low waiting before now keep are)
      (λ block. let both = made-only low high new before now only made block in (
        λ some. ⊎_elim (λ o. was_need block ((are.stored block).0 o)) (λ n. inl (Contains-append_right waiting new block n)) (both.0 some),
        λ need. both.1 (⊎_elim (λ o. inl ((are.stored block).1 o)) (λ n. inr n) (grown_need block need)),
      )) are

pub grow-blocks : (table : Table) (id : InodeId) (file : FileHistory) (store now : Option BlockMap) (low high : ℕ) (waiting new : List BlockId) → rows_at table id ≡ Some (File file)
    → Changes store now (KeepsFile file.current.size file.current.blocks) → Changes store now (MakesOnly low high) → AreMade low high new → AreBlocks table store low waiting → AreBlocks table now high (waiting ++ new)
grow-blocks table id file store now low high waiting new was keep only made are = grow table id file was low high waiting new (made-new low high new made) store now keep only made are

-- ---- an append

appended_held : (file : FileHistory) (bytes : List ℕ) (blocks : List BlockId) (store now : Option BlockMap) → Changes store now (Appended file.current.size file.current.blocks blocks bytes)
    → HoldsState now (record file.current { size = file.current.size + length bytes; blocks = blocks })
appended_held file bytes blocks None None appended = tt
appended_held file bytes blocks None (Some now) appended = absurd appended
appended_held file bytes blocks (Some before) None appended = tt
appended_held file bytes blocks (Some before) (Some now) appended = appended.holds

pub append-blocks : (t : Tabled) (id : InodeId) (cover tick : ℕ) (file : FileHistory) (bytes : List ℕ) (blocks : List BlockId) (store now : Option BlockMap) (low high : ℕ) (waiting : List BlockId) → rows_at t.rows id ≡ Some (File file)
    → Appends file bytes blocks store now low high → AreBlocks t.rows store low waiting → AreBlocks (changed id cover tick (changes.Body (file.current.size + length bytes) blocks) t).rows now high waiting
append-blocks t id cover tick file bytes blocks store now low high waiting was append are =
    let new = append.made.0 in
    let is : blocks ≡ file.current.blocks ++ append.made.0 = append.made.1 in
    let grown = grow-blocks t.rows id file store now low high waiting new was append.kept append.only append.made.2 are in
    subst (λ (bs : List BlockId). AreBlocks (changed id cover tick (changes.Body (file.current.size + length bytes) bs) t).rows now high waiting) (sym is)
    (body-blocks t id cover tick (file.current.size + length bytes) new file now high waiting was
    (subst (IsFile (file.current.size + length bytes)) is append.is_file)
    (subst (λ (bs : List BlockId). HoldsState now (record file.current { size = file.current.size + length bytes; blocks = bs })) is (appended_held file bytes blocks store now append.appended))
    (omega arith) grown)

-- ---- one is freed

module _ (table : Table) (front back : List BlockId) (block : BlockId) where
  fewer_times : (other : BlockId) → times_block other (front ++ block ∷ back) ≡ times_block other (front ++ back) + one_where (same_block block other)
  fewer_times other = let a = times-append other front (block ∷ back) in let b = times-append other front back in omega (arith, a, b)

  left_in : (other : BlockId) → Contains (front ++ back) other → Contains (front ++ block ∷ back) other
  left_in other c = let some = times-in other (front ++ back) c in let all = fewer_times other in in-times other (front ++ block ∷ back) (omega (arith, some, all))

  in_left : (other : BlockId) → same_block block other ≡ false → Contains (front ++ block ∷ back) other → Contains (front ++ back) other
  in_left other apart c = let some = times-in other (front ++ block ∷ back) c in let all = fewer_times other in let none = ap one_where apart in in-times other (front ++ back) (omega (arith, some, all, none))

  pub still-here : Contains (front ++ block ∷ back) block
  still-here = Contains-append_right front (block ∷ back) block (in-here back block block refl)

  gone : IsDistinct same_block (front ++ block ∷ back) → Contains (front ++ back) block → ⊥
  gone once c =
      let some = times-in block (front ++ back) c in
      let all = fewer_times block in
      let one = ap one_where (same-block block block refl) in
      let few = times-distinct block (front ++ block ∷ back) once in
      omega (arith, some, all, one, few)

  pub freed-held : (made : ℕ) (before now : BlockMap) → Sets block None before now → AreBlocks table (Some before) made (front ++ block ∷ back) → (x : InodeId) (state : FileState) → HasState table x state → HoldsFile now state.size state.blocks
  freed-held made before now frees are x state has = held-all now state.size state.blocks (are.files x state has).apart (λ other c.
      by-block block other
      (λ e. absurd (are.let_go x block still-here (record { state = state; has = has; named = subst (Contains state.blocks) (sym e) c })))
      (λ ne. subst (λ (o : Option (List ℕ)). Holds o (bytes_within state.size state.blocks other)) (sym (frees other ∙ ap (λ b. cond b None (find before other)) ne))
      (held-each before state.size state.blocks other (are.held x state has) c)))

  left_need : (other : BlockId) → IsNeeded table (front ++ back) other → IsNeeded table (front ++ block ∷ back) other
  left_need other need = ⊎_elim (λ w. inl (left_in other w)) (λ n. inr n) need

  freed : (store now : Option BlockMap) (made : ℕ) → ((x : InodeId) (state : FileState) → HasState table x state → HoldsState now state) → HasNeeded now (IsNeeded table (front ++ back)) → AreBlocks table store made (front ++ block ∷ back) → AreBlocks table now made (front ++ back)
  freed store now made held stored are = record {
    files = are.files;
    held = held;
    apart = are.apart;
    no_more = are.no_more;
    once = distinct-times (front ++ back) (λ other. let all = fewer_times other in let few = times-distinct other (front ++ block ∷ back) are.once in omega (arith, all, few));
    let_go = λ x other w n. are.let_go x other (left_in other w) n;
    stored = stored;
    numbers = λ other need. are.numbers other (left_need other need);
  }

  free : (store now : Option BlockMap) (made : ℕ) → Changes store now (Sets block None) → AreBlocks table store made (front ++ block ∷ back) → AreBlocks table now made (front ++ back)
  free None None made frees are = freed None None made (λ x state has. tt) tt are
  free None (Some now) made frees are = absurd frees
  free (Some before) None made frees are = absurd frees
  free (Some before) (Some now) made frees are = freed (Some before) (Some now) made (freed-held made before now frees are)
      (λ other. by-block block other
      (λ e. (
        λ some. absurd (true_false some (ap is_some (frees other ∙ ap (λ b. cond b None (find before other)) (same-block block other e)))),
        λ need. absurd (⊎_elim
            (λ w. gone are.once (subst (Contains (front ++ back)) (sym e) w))
            (λ n. are.let_go n.0 other (subst (Contains (front ++ block ∷ back)) e still-here) n.1)
            need),
      ))
      (λ ne. let same : find now other ≡ find before other = frees other ∙ ap (λ b. cond b None (find before other)) ne in (
        λ some. ⊎_elim (λ w. inl (in_left other ne w)) (λ n. inr n) ((are.stored other).0 (sym (ap is_some same) ∙ some)),
        λ need. ap is_some same ∙ (are.stored other).1 (left_need other need),
      ))) are

pub free-blocks : (table : Table) (store now : Option BlockMap) (made : ℕ) (front back : List BlockId) (block : BlockId)
    → Changes store now (Sets block None) → AreBlocks table store made (front ++ block ∷ back) → AreBlocks table now made (front ++ back)
free-blocks table store now made front back block frees are = free table front back block store now made frees are

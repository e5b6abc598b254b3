-- A change keeps what was read at live snapshots.
use Rattle.std.proofs.Common.{◌≡◌, ℕ, zero, suc, ◌<◌, ◌≤◌, Bool, true, false, cond, List, [], ◌∷◌, Option, Some, None, refl, sym, ap, subst, ◌∙◌, length, get_or, arith}
use Rattle.std.specs.Prelude.{nat_lt, nat_le, ◌&&◌, ◌||◌}
use Rattle.std.specs.List.{Contains, list_any}
use Rattle.std.specs.Option.{option_map}
use Rattle.std.proofs.lemmas.Bool.Decides.{nat_tests}
use Rattle.hs_types.specs.declared.ids.InodeId.{InodeId}
use Rattle.hs_plain.specs.declared.state.Member.{Member}
use Rattle.hs_plain.specs.declared.state.FileBlocks.{FileBlocks}
use Rattle.hs_plain.specs.Tree.{node_at}
use Rattle.hs_plain.proofs.ValidTrees.{both}
use Rattle.hs_plain.proofs.ValidShapes.{none_some, same_some, true_false}
use Rattle.inode_table.specs.Reads.{Nodes, ReadsAs, Has}
use Rattle.inode_table.specs.Marks.{InCopy}
use Rattle.inode_table.specs.RowHistory.{RowHistory, Table, rows_at, shown, node_in, spot_in, entries_of, last_in, IsFrozen, IsSafe, is_live_between, need, last_after, ReadsAlike, Changes, ChangesRows, Changed}
use Rattle.inode_table.proofs.Reading.{by_id, reads-alike}

pub any_at : {X : Type 0} (test : X → Bool) (xs : List X) (x : X) (k : ℕ) → k < length xs → get_or xs k x ≡ x → test x ≡ true → list_any test xs ≡ true
any_at test [] x k lt e so = absurd (omega arith)
any_at test (y ∷ ys) x zero lt e so = ap (λ b. b || list_any test ys) (ap test e ∙ so)
any_at test (y ∷ ys) x (suc k) lt e so = elim (test y) as (λ b. (b || list_any test ys) ≡ true) [ true ↦ refl | false ↦ any_at test ys x k (omega arith) e so ]

module _ {B : Type 0} (members : List (Member B)) (m : Member B) (is_live : Contains members m) where
  pub within_need : (last cover : ℕ) → m.snapshot.0 ≤ cover → m.snapshot.0 ≤ last_after last (need members last cover)
  within_need last cover le = elim (is_live_between members last cover) as (λ b. is_live_between members last cover ≡ b → m.snapshot.0 ≤ last_after last (cond b cover 0)) [
    | true ↦ λ _. elim (nat_lt last cover) as (λ b. nat_lt last cover ≡ b → m.snapshot.0 ≤ cond b cover last) [ true ↦ λ _. le | false ↦ λ t. grind (arith, nat_tests) ] refl
    | false ↦ λ none. let upto : m.snapshot.0 ≤ last = not_above none in
        elim (nat_lt last 0) as (λ b. nat_lt last 0 ≡ b → m.snapshot.0 ≤ cond b 0 last) [ true ↦ λ t. let below : last < 0 = grind (arith, nat_tests) in absurd (omega arith) | false ↦ λ _. upto ] refl
  ] refl
    where
      not_above : is_live_between members last cover ≡ false → m.snapshot.0 ≤ last
      not_above none = elim (nat_lt last m.snapshot.0) as (λ b. nat_lt last m.snapshot.0 ≡ b → m.snapshot.0 ≤ last) [
        | true ↦ λ t. absurd (true_false (any_at (λ o. nat_lt last o.snapshot.0 && nat_le o.snapshot.0 cover) members m is_live.0 is_live.1 is_live.2 (both t (let upto : nat_le m.snapshot.0 cover ≡ true = grind (arith, nat_tests) in upto))) none)
        | false ↦ λ t. grind (arith, nat_tests)
      ] refl

pub reading-kept : (members : List (Member FileBlocks)) (m : Member FileBlocks) (last cover : ℕ) (before after : RowHistory) → Contains members m → 0 < m.snapshot.0 → m.snapshot.0 ≤ cover
    → Changes last (need members last cover) before after → ReadsAlike m.snapshot.0 before after
reading-kept members m last cover before after is_live above le change = change.reads m.snapshot.0 above (within_need members m is_live last cover le)

-- the rows of a tree that is read are there
pub row_there : (table : Table) (s : ℕ) (top : InodeId) (f : Nodes FileBlocks) (id : InodeId) → ReadsAs (shown table s) top f → Has f id → (rows : RowHistory) × (rows_at table id ≡ Some rows)
row_there table s top f id reads has = by (rows_at table id) refl (ap (λ (i : InodeId). option_map (node_in i s) (rows_at table i)) (sym has.named) ∙ reads.node has.at has.node has.is)
  where
    by : (o : Option RowHistory) → rows_at table id ≡ o → option_map (node_in id s) (rows_at table id) ≡ Some has.node → (rows : RowHistory) × (rows_at table id ≡ Some rows)
    by None e h = absurd (none_some (ap (option_map (node_in id s)) (sym e) ∙ h))
    by (Some rows) e h = (rows, e)

pub frozen-kept : (members : List (Member FileBlocks)) (before after : Table) → ChangesRows members before after → IsFrozen before members → IsFrozen after members
frozen-kept members before after change frozen m is_live = reads-alike (shown before m.snapshot.0) (shown after m.snapshot.0) m.directory (node_at m.tree)
    (record {
      node = λ id has. let old = old_row id has in let new = change.kept id old.0 m old.1 is_live has in
          ap (option_map (node_in id m.snapshot.0)) new.1 ∙ ap (λ n. Some n) (new.2.node id) ∙ sym (ap (option_map (node_in id m.snapshot.0)) old.1);
      entries = λ id has. let old = old_row id has in let new = change.kept id old.0 m old.1 is_live has in
          ap (entries_of m.snapshot.0) new.1 ∙ new.2.entries ∙ sym (ap (entries_of m.snapshot.0) old.1);
      spot = λ id has. let old = old_row id has in let new = change.kept id old.0 m old.1 is_live has in
          ap (option_map (spot_in m.snapshot.0)) new.1 ∙ ap (λ n. Some n) new.2.spot ∙ sym (ap (option_map (spot_in m.snapshot.0)) old.1);
    })
    (frozen m is_live)
  where
    old_row : (id : InodeId) → InCopy m id → (rows : RowHistory) × (rows_at before id ≡ Some rows)
    old_row id has = row_there before m.snapshot.0 m.directory (node_at m.tree) id (frozen m is_live) has

pub alike-itself : (s : ℕ) (rows : RowHistory) → ReadsAlike s rows rows
alike-itself s rows = record { node = λ id. refl; entries = refl; spot = refl }

pub frozen-step : (members : List (Member FileBlocks)) (before after : Table) (id : InodeId) (number : ℕ) (old new : RowHistory) → ((m : Member FileBlocks) → Contains members m → 0 < m.snapshot.0)
    → Changed before after id number old new → IsSafe members id old number → IsFrozen before members → IsFrozen after members
frozen-step members before after id number old new above change safe frozen = frozen-kept members before after
    (record {
      kept = λ other rows m was is_live has. by_id other id
          (λ e. let same : rows ≡ old = same_some (sym was ∙ ap (rows_at before) e ∙ change.was) in
          (new, ap (rows_at after) e ∙ change.here, subst (λ (r : RowHistory). ReadsAlike m.snapshot.0 r new) (sym same) (change.reads m.snapshot.0 (above m is_live) (safe m is_live (subst (InCopy m) e has)))))
          (λ ne. (rows, change.there other ne ∙ was, alike-itself m.snapshot.0 rows));
    })
    frozen

-- a record at the need is enough
pub safe-need : (members : List (Member FileBlocks)) (id : InodeId) (rows : RowHistory) (cover : ℕ) → ((m : Member FileBlocks) → Contains members m → InCopy m id → m.snapshot.0 ≤ cover) → IsSafe members id rows (need members (last_in rows) cover)
safe-need members id rows cover bound m is_live has = within_need members m is_live (last_in rows) cover (bound m is_live has)

last_after-grows : (last number : ℕ) → last ≤ last_after last number
last_after-grows last number = elim (nat_lt last number) as (λ b. nat_lt last number ≡ b → last ≤ cond b number last) [ true ↦ λ t. grind (arith, nat_tests) | false ↦ λ t. omega arith ] refl

-- and stays so as the row changes
pub safe-later : (members : List (Member FileBlocks)) (id : InodeId) (old new : RowHistory) (n number : ℕ) → last_in new ≡ last_after (last_in old) n → IsSafe members id old n → IsSafe members id new number
safe-later members id old new n number e safe m is_live has = let upto = safe m is_live has in let grows = last_after-grows (last_in new) number in omega (arith, e)

-- A new namenode: the first table without snapshots, over a store without blocks.
use Rattle.std.proofs.Common.{◌≡◌, ℕ, ◌≤◌, Option, None, Some, List, [], length, IfSome, refl, sym, ap, subst, arith}
use Rattle.hs_types.specs.Blocks.{BlockMap, find}
use Rattle.hs_types.specs.declared.journal.Entry.{Entry}
use Rattle.hs_types.specs.declared.name.Spot.{Spot}
use Rattle.hs_plain.specs.State.{start}
use Rattle.hs_plain.specs.Replay.{plain_after, is_proper}
use Rattle.snapshot_manager.specs.Snapshots as snapshots
use Rattle.inode_table.specs.Kept.{told}
use Rattle.inode_table.specs.Start.{first_table}
use Rattle.table_laws.specs.Blocking.{HasNone}
use Rattle.table_laws.proofs.WholePlain.{plain-start}
use Rattle.namenode_write.specs.declared.rows.space.RowSpace.{RowSpace}
use Rattle.namenode_write.specs.Faulted.{fault_count}
use Rattle.namenode_write.specs.Rows.{Held, held, all_of, IsAt}
use Rattle.namenode_write.specs.Step.{IsConsistent}

none-there : (told : Option BlockMap) → IfSome told (λ map. map ≡ []) → HasNone told
none-there None empty = tt
none-there (Some map) empty = λ block. ap (λ (m : BlockMap). find m block) empty

-- what is held at first
abbrev first_held : Spot → Option BlockMap → ℕ → Held
first_held spot store greatest = record { table = first_table spot; snaps = snapshots.start; store = store; greatest = greatest; waiting = [] }

first-at : (spot : Spot) (store : Option BlockMap) (greatest : ℕ) → HasNone store → IsAt (first_held spot store greatest) 0 (start {B = List ℕ})
first-at spot store greatest none = record { stands = plain-start spot store greatest none; tick = refl; inodes = omega arith; snapshots = omega arith; light = omega arith }

pub started : {S : Type 0} (blocks : S → Option BlockMap) (greatest faults : S → ℕ) (space : RowSpace S) (spot : Spot) (journal : List Entry) → told space.table ≡ first_table spot → space.snaps ≡ snapshots.start
    → IfSome (blocks space.store) (λ map. map ≡ []) → space.waiting.items ≡ [] → journal ≡ [] → space.limit ≤ 1000000 → IsConsistent blocks greatest faults space journal
started {S} blocks greatest faults space spot journal table snaps empty waiting none most = record {
  at = subst (λ (entries : List Entry). IsAt (held blocks greatest space) (length entries) (plain_after entries)) (sym none)
      (subst (λ (h : Held). IsAt h 0 (start {B = List ℕ})) (sym same) (first-at spot (blocks space.store) (greatest space.store) (none-there (blocks space.store) empty)));
  proper = ap is_proper none;
  within = let zero = ap length none in omega (arith, zero);
  most = most;
  faults_counted = let zero = ap fault_count none in omega (arith, zero);
}
  where
    same : held blocks greatest space ≡ first_held spot (blocks space.store) (greatest space.store)
    same = λ i. record { table = table i; snaps = snaps i; store = blocks space.store; greatest = greatest space.store; waiting = all_of (waiting i) }

-- From what the parts of a deletion tell to the whole.
use Rattle.std.proofs.Common.{◌≡◌, ℕ, List, Some, Ok, Err, sym, ap, subst, ◌∙◌}
use Rattle.std.specs.Prelude.{Result, IfOk, OnOk}
use Rattle.std.specs.List.{Contains}
use Rattle.hs_types.specs.declared.ids.InodeId.{InodeId}
use Rattle.hs_types.specs.declared.ids.SnapId.{SnapId}
use Rattle.hs_types.specs.declared.name.SnapItem.{SnapItem}
use Rattle.hs_plain.specs.declared.state.Member.{Member}
use Rattle.hs_plain.specs.declared.state.FileBlocks.{FileBlocks}
use Rattle.snapshot_manager.specs.Snapshots.{Snapshots, IsProper, live_at, changed, without}
use Rattle.inode_table.specs.declared.freed.Freed.{Freed}
use Rattle.inode_table.specs.Indexed.{made_between}
use Rattle.inode_table.specs.Joined.{AreTold}
use Rattle.inode_table.specs.Released.{Releasing}
use Rattle.inode_table.specs.Tabled.{Tabled}
use Rattle.table_laws.specs.RecordDropping.{AreLeft}
use Rattle.table_laws.specs.RecordDropped.{LooksAt}
use Rattle.record_merge.proofs.Whole.{Answered}

pub if-ok : {X E : Type 0} {P Q : X → Type 0} (r : Result X E) → IfOk r P → ((x : X) → P x → Q x) → IfOk r Q
if-ok (Ok x) p f = f x p
if-ok (Err e) p f = tt

pub on-ok : {X E : Type 0} {P : X → Type 0} {Q : Type 0} (r : Result X E) → IfOk r P → ((x : X) → P x → Q) → OnOk r Q
on-ok (Ok x) p f = f x p
on-ok (Err e) p f = tt

-- what the commit tells
abbrev pub Committed : Tabled → Tabled → Snapshots → List InodeId → Freed → Type 0
Committed t after later ids freed = (middle : Tabled) × Releasing middle freed after × ((fewer : List (Member FileBlocks)) (issued : ℕ) → AreTold fewer later → AreLeft t fewer issued ids → LooksAt fewer ids t middle)

pub answered : (told_then t after : Tabled) (snaps later : Snapshots) (id : SnapId) (dir : InodeId) (item : SnapItem) (name : List ℕ) (lent ids : List InodeId) (high : ℕ) (freed : Freed)
    → IsProper snaps → Some (dir, item) ≡ live_at snaps id → name ≡ item.name → told_then ≡ t → lent ≡ ids → ((x : InodeId) → Contains (made_between item.tick high t.rows t.index) x → Contains ids x)
    → later ≡ changed dir (without name) snaps → Committed told_then after later lent freed → Answered t after snaps id dir item ids high freed
answered told_then t after snaps later id dir item name lent ids high freed proper found named same given all is commit = record {
  proper = proper;
  found = sym found;
  all = all;
  middle = commit.0;
  going = commit.1;
  looks = λ fewer issued are left.
      subst (λ (x : Tabled). LooksAt fewer ids x commit.0) same (subst (λ (l : List InodeId). LooksAt fewer l told_then commit.0) given
      (commit.2 fewer issued
      (subst (λ (s : Snapshots). AreTold fewer s) (sym (is ∙ ap (λ (n : List ℕ). changed dir (without n) snaps) named)) are)
      (subst (λ (l : List InodeId). AreLeft told_then fewer issued l) (sym given) (subst (λ (x : Tabled). AreLeft x fewer issued ids) (sym same) left))));
}

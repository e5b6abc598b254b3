-- A new snapshot, and one less.
use Rattle.std.proofs.Common.{◌≡◌, ℕ, ◌+◌, ◌<◌, ◌≤◌, Bool, true, false, cond, List, [], ◌∷◌, ◌++◌, Some, refl, sym, ap, subst, ◌∙◌, arith}
use Rattle.std.specs.Prelude.{IsTrue, nat_lt, nat_eq}
use Rattle.std.specs.List.{Contains}
use Rattle.std.specs.Option.{option_map}
use Rattle.hs_types.specs.Names.{Names}
use Rattle.hs_types.specs.declared.ids.InodeId.{InodeId}
use Rattle.hs_plain.specs.declared.state.Node.{Node}
use Rattle.hs_plain.specs.declared.state.State.{State}
use Rattle.hs_plain.specs.declared.state.Member.{Member}
use Rattle.hs_plain.specs.declared.state.FileBlocks.{FileBlocks}
use Rattle.hs_plain.specs.Tree.{node_at}
use Rattle.hs_plain.proofs.ValidShapes.{same_some, not_more}
use Rattle.file_changes.specs.History as files
use Rattle.file_changes.specs.declared.state.FileState.{FileState}
use Rattle.file_changes.specs.declared.state.FileRecord.{FileRecord}
use Rattle.file_changes.proofs.Reading.{first, second, less, le_no}
use Rattle.dir_changes.specs.History as dirs
use Rattle.dir_changes.proofs.ReadLaws.{children_at-past, marks_at-past}
use Rattle.inode_table.specs.Reads.{Nodes, ReadsAs, IsNodes, Has, id_of}
use Rattle.inode_table.specs.Marks.{Mark, RowMarks, InCopy, AreMarks, Copies}
use Rattle.inode_table.specs.RowHistory.{RowHistory, File, Dir, Table, rows_at, shown, marks_of, node_in, entries_in, spot_in, entries_of, last_in, file_node, dir_node, ReadsAlike}
use Rattle.inode_table.specs.Stands.{Stands, root_id}
use Rattle.inode_table.specs.Snaps.{Rising, NumbersWithin, with_member, Drops}
use Rattle.inode_table.proofs.Reading.{reads-alike, reads-below}
use Rattle.inode_table.proofs.Covers.{some_id}
use Rattle.inode_table.proofs.Marked.{marks-snap, marks-fewer, by_member}
use Rattle.inode_table.proofs.Kept.{row_there}

state_past : (file : files.FileHistory) (s : ℕ) → IsTrue (files.rising 0 file.records) → files.last_number file < s → files.state_at s file ≡ file.current
state_past file s rise above = ap (λ c. cond (nat_eq s 0) file.current c) (from 0 file.records rise above) ∙ same (nat_eq s 0)
  where
    same : (b : Bool) → cond b file.current file.current ≡ file.current
    same true = refl
    same false = refl

    low : (n : ℕ) (rs : List FileRecord) → IsTrue (files.rising n rs) → n ≤ files.last_from n rs
    low n [] rise = omega arith
    low n (r ∷ rs) rise = let lt = less n r.number.0 (first (nat_lt n r.number.0) _ rise) in let rest = low r.number.0 rs (second (nat_lt n r.number.0) _ rise) in omega arith

    from : (n : ℕ) (rs : List FileRecord) → IsTrue (files.rising n rs) → files.last_from n rs < s → files.state_from s rs file.current ≡ file.current
    from n [] rise above = refl
    from n (r ∷ rs) rise above = let below = low r.number.0 rs (second (nat_lt n r.number.0) _ rise) in
        le_no s r.number.0 r.state (files.state_from s rs file.current) (omega arith) ∙ from r.number.0 rs (second (nat_lt n r.number.0) _ rise) above

-- above the last number the current state is read
pub reads_now : (rows : RowHistory) (s : ℕ) → Rising rows → last_in rows < s → ReadsAlike 0 rows rows × ((id : InodeId) → node_in id s rows ≡ node_in id 0 rows) × (entries_in s rows ≡ entries_in 0 rows) × (spot_in s rows ≡ spot_in 0 rows)
reads_now (File file) s rise above = let same = state_past file s rise above in (record { node = λ id. refl; entries = refl; spot = refl }, λ id. ap (file_node id) same, refl, ap (λ (t : FileState). t.spot) same)
reads_now (Dir dir) s rise above = let same = marks_at-past dir s rise above in
    (record { node = λ id. refl; entries = refl; spot = refl }, λ id. ap (dir_node id) same, children_at-past dir s rise above, ap (λ (m : dirs.Marks). m.spot) same)

-- the same readings at two moments
alike_rows : (before after : Table) (s r : ℕ) (top : InodeId) (f : Nodes FileBlocks) → ReadsAs (shown before s) top f
    → ((id : InodeId) (old : RowHistory) → Has f id → rows_at before id ≡ Some old → (new : RowHistory) × (rows_at after id ≡ Some new) × ((i : InodeId) → node_in i r new ≡ node_in i s old) × (entries_in r new ≡ entries_in s old) × (spot_in r new ≡ spot_in s old))
    → ReadsAs (shown after r) top f
alike_rows before after s r top f reads same = reads-alike (shown before s) (shown after r) top f
    (record {
      node = λ id h. let old = row_there before s top f id reads h in let new = same id old.0 h old.1 in ap (option_map (node_in id r)) new.1 ∙ ap (λ n. Some n) (new.2 id) ∙ sym (ap (option_map (node_in id s)) old.1);
      entries = λ id h. let old = row_there before s top f id reads h in let new = same id old.0 h old.1 in ap (entries_of r) new.1 ∙ new.3 ∙ sym (ap (entries_of s) old.1);
      spot = λ id h. let old = row_there before s top f id reads h in let new = same id old.0 h old.1 in ap (option_map (spot_in r)) new.1 ∙ ap (λ n. Some n) new.4 ∙ sym (ap (option_map (spot_in s)) old.1);
    }) reads

pub snap-stands : (table : Table) (state : State FileBlocks) (issued : ℕ) (path : Names) (m : Member FileBlocks) → Copies (node_at state.tree) path m → m.snapshot.0 ≡ issued + 1 → IsNodes (node_at state.tree)
    → NumbersWithin table issued → Stands table state issued → Stands table (with_member state m) (issued + 1)
snap-stands table state issued path m copies number is within stands = record {
  live = stands.live;
  frozen = λ o is_live. by_member state.members m o is_live (stands.frozen o) (λ e. subst (λ (k : Member FileBlocks). ReadsAs (shown table k.snapshot.0) k.directory (node_at k.tree)) (sym e) new_frozen);
  marks = marks-snap (node_at state.tree) state.members (marks_of table) issued path m copies number is stands.marks;
  top = record {
    own = λ o is_live copied. by_member state.members m o is_live (λ old. stands.top.own o old copied)
        (λ e. ap (λ (k : Member FileBlocks). k.directory) e ∙ new_own (subst (λ (k : Member FileBlocks). InCopy k root_id) e copied));
    above = λ o is_live. by_member state.members m o is_live (stands.top.above o) (λ e. let id : o.snapshot.0 ≡ m.snapshot.0 = ap (λ (k : Member FileBlocks). k.snapshot.0) e in omega arith);
    since = stands.top.since;
  };
  ids_issued = λ o is_live. by_member state.members m o is_live (λ old. let upto = stands.ids_issued o old in omega arith) (λ e. let id : o.snapshot.0 ≡ m.snapshot.0 = ap (λ (k : Member FileBlocks). k.snapshot.0) e in omega arith);
}
  where
    dir : (n : Node FileBlocks) × (node_at state.tree path ≡ Some n) × (n.id ≡ m.directory)
    dir = some_id (node_at state.tree path) m.directory copies.own

    copied_now : ReadsAs (shown table 0) m.directory (node_at m.tree)
    copied_now = subst (λ (i : InodeId). ReadsAs (shown table 0) i (node_at m.tree)) dir.2
        (subst (λ (f : Nodes FileBlocks). ReadsAs (shown table 0) dir.0.id f) (λ i rest. sym (copies.copy rest) i) (reads-below (shown table 0) root_id (node_at state.tree) path dir.0 dir.1 stands.live))

    new_frozen : ReadsAs (shown table m.snapshot.0) m.directory (node_at m.tree)
    new_frozen = alike_rows table table 0 m.snapshot.0 m.directory (node_at m.tree) copied_now
        (λ id old h was. let w = within id old was in let upto = w.1 in let now = reads_now old m.snapshot.0 w.0 (omega arith) in (old, was, now.1, now.2, now.3))

    new_own : InCopy m root_id → m.directory ≡ root_id
    new_own h =
        let root = some_id (node_at state.tree []) root_id stands.live.root in
        let at : path ++ h.at ≡ [] = is.once (path ++ h.at) [] h.node root.0 (sym (copies.copy h.at) ∙ h.is) root.1 (h.named ∙ sym root.2) in
        same_some (sym copies.own ∙ ap (λ (q : Names). id_of (node_at state.tree q)) (not_more path h.at (sym at)) ∙ stands.live.root)

pub drop-stands : (before after : Table) (state : State FileBlocks) (issued : ℕ) (fewer : List (Member FileBlocks)) → Drops before after fewer → ((m : Member FileBlocks) → Contains fewer m → Contains state.members m)
    → Stands before state issued → Stands after (record state { members = fewer }) issued
drop-stands before after state issued fewer step left stands = record {
  live = alike_rows before after 0 0 root_id (node_at state.tree) stands.live (λ id old h was. let new = step.row id old was in (new.0, new.1, new.2.node, new.2.entries, new.2.spot));
  frozen = λ m is_live. alike_rows before after m.snapshot.0 m.snapshot.0 m.directory (node_at m.tree) (stands.frozen m (left m is_live))
      (λ id old h was. let new = step.row id old was in let same = new.3 m is_live in (new.0, new.1, same.node, same.entries, same.spot));
  marks = subst (λ (k : RowMarks). AreMarks (node_at state.tree) fewer k issued) (λ i id. sym (step.marks id) i)
      (marks-fewer (node_at state.tree) (node_at state.tree) state.members fewer (marks_of before) issued (λ p y c. c) (λ y h. h) left stands.marks);
  top = record {
    own = λ m is_live. stands.top.own m (left m is_live);
    above = λ m is_live. stands.top.above m (left m is_live);
    since = ap (λ (k : Mark). k.since) (step.marks root_id) ∙ stands.top.since;
  };
  ids_issued = λ m is_live. stands.ids_issued m (left m is_live);
}

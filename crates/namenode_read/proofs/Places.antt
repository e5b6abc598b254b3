-- A place to which a path leads is there.
use Rattle.std.proofs.Common.{◌≡◌, inl, inr, ℕ, ◌<◌, true, false, cond, List, [], ◌∷◌, map, Option, Some, None, Ok, Err, refl, sym, ap, subst, ◌∙◌, arith}
use Rattle.std.specs.Prelude.{◌==◌, nat_lt}
use Rattle.std.proofs.lemmas.Bool.Decides.{nat_tests}
use Rattle.hs_types.specs.Names.{Names}
use Rattle.hs_types.specs.Paths.{path_of}
use Rattle.hs_types.specs.declared.ids.InodeId.{InodeId}
use Rattle.hs_types.specs.declared.path.Path.{Path}
use Rattle.hs_types.specs.declared.path.PathTail.{PathTail}
use Rattle.hs_types.specs.declared.path.PathTail.TheVariants.{Plain, SnapshotList, Frozen}
use Rattle.hs_types.specs.declared.refusal.Refusal.TheVariants.{NotFound}
use Rattle.hs_types.specs.declared.call.Place.{Place}
use Rattle.hs_types.specs.declared.call.Place.TheVariants as places
use Rattle.hs_plain.specs.declared.state.Node.{Node}
use Rattle.hs_plain.specs.declared.state.Member.{Member}
use Rattle.hs_plain.specs.declared.state.State.{State}
use Rattle.hs_plain.specs.declared.state.FileBlocks.{FileBlocks}
use Rattle.hs_plain.specs.Asked.{Asked, ◌>>=◌}
use Rattle.hs_plain.specs.Tree.{Tree, node_at, walk, walks_above, found}
use Rattle.hs_plain.specs.State.{is_snapshottable, if_snapshottable, snapshot_root, is_named, member_named, member_with, resolve, resolve_tail}
use Rattle.hs_plain.specs.Valid.{IsValid, rises_above}
use Rattle.hs_plain.proofs.ValidTrees.{first, second}
use Rattle.hs_plain.proofs.ValidLists.{In, contains-in}
use Rattle.inode_table.specs.Reads.{Has}
use Rattle.paged_listing.specs.Places.{IsThere}
use Rattle.paged_listing.proofs.Chains.{err_ok, ok_same, given}
use Rattle.namenode_read.specs.Places.{place_asked}

found_so : (o : Option (Node FileBlocks)) (n : Node FileBlocks) → found o ≡ Ok n → o ≡ Some n
found_so None n e = absurd (err_ok e)
found_so (Some m) n e = ap (λ (x : Node FileBlocks). Some x) (ok_same e)

walk_so : (tree : Tree FileBlocks) (path : Names) (n : Node FileBlocks) → walk tree path ≡ Ok n → node_at tree path ≡ Some n
walk_so tree path n e = found_so (node_at tree path) n (given (walks_above tree path) (λ _. found (node_at tree path)) n e).2

root_so : (state : State FileBlocks) (o : Option (Node FileBlocks)) (dir : InodeId) → if_snapshottable state o ≡ Ok dir → is_snapshottable state dir ≡ true
root_so state None dir e = absurd (err_ok e)
root_so state (Some n) dir e = elim (is_snapshottable state n.id) as (λ b. is_snapshottable state n.id ≡ b → cond {A = Asked InodeId} b (Ok n.id) (Err NotFound) ≡ Ok dir → is_snapshottable state dir ≡ true) [
  | true ↦ λ t g. ap (is_snapshottable state) (sym (ok_same g)) ∙ t
  | false ↦ λ _ g. absurd (err_ok g)
] refl e

-- ---- snapshots

named_in : (members : List (Member FileBlocks)) (dir : InodeId) (name : List ℕ) (m : Member FileBlocks) → member_named members dir name ≡ Ok m → In members m
named_in [] dir name m e = absurd (err_ok e)
named_in (k ∷ ms) dir name m e = elim (is_named dir name k) as (λ b. cond {A = Asked (Member FileBlocks)} b (Ok k) (member_named ms dir name) ≡ Ok m → In (k ∷ ms) m) [
  | true ↦ λ g. inl (ok_same g)
  | false ↦ λ g. inr (named_in ms dir name m g)
] e

abbrev ids : List (Member FileBlocks) → List ℕ
ids members = map (λ member. member.snapshot.0) members

above : (low : ℕ) (members : List (Member FileBlocks)) (m : Member FileBlocks) → rises_above low (ids members) ≡ true → In members m → low < m.snapshot.0
above low [] m rise at = absurd at
above low (k ∷ ms) m rise (inl e) = let here : nat_lt low k.snapshot.0 ≡ true = first (nat_lt low k.snapshot.0) _ rise in let same : k.snapshot.0 ≡ m.snapshot.0 = ap (λ (x : Member FileBlocks). x.snapshot.0) e in grind (arith, nat_tests)
above low (k ∷ ms) m rise (inr at) =
    let here : nat_lt low k.snapshot.0 ≡ true = first (nat_lt low k.snapshot.0) _ rise in
    let rest : k.snapshot.0 < m.snapshot.0 = above k.snapshot.0 ms m (second (nat_lt low k.snapshot.0) _ rise) at in
    grind (arith, nat_tests)

same_test : (n : ℕ) → (n == n) ≡ true
same_test n = grind (arith, nat_tests)

other_test : (a b : ℕ) → a < b → (a == b) ≡ false
other_test a b lt = grind (arith, nat_tests)

-- each snapshot is found by its id
pub with_self : (low : ℕ) (members : List (Member FileBlocks)) (m : Member FileBlocks) → rises_above low (ids members) ≡ true → In members m → member_with members m.snapshot ≡ Ok m
with_self low [] m rise at = absurd at
with_self low (k ∷ ms) m rise (inl e) =
    let test : (k.snapshot.0 == m.snapshot.0) ≡ true = ap (λ (n : ℕ). k.snapshot.0 == n) (sym (ap (λ (x : Member FileBlocks). x.snapshot.0) e)) ∙ same_test k.snapshot.0 in
    ap (λ b. cond {A = Asked (Member FileBlocks)} b (Ok k) (member_with ms m.snapshot)) test ∙ ap (λ (x : Member FileBlocks). Ok x) e
with_self low (k ∷ ms) m rise (inr at) =
    let rest : rises_above k.snapshot.0 (ids ms) ≡ true = second (nat_lt low k.snapshot.0) _ rise in
    let test : (k.snapshot.0 == m.snapshot.0) ≡ false = other_test k.snapshot.0 m.snapshot.0 (above k.snapshot.0 ms m rest at) in
    ap (λ b. cond {A = Asked (Member FileBlocks)} b (Ok k) (member_with ms m.snapshot)) test ∙ with_self k.snapshot.0 ms m rest at

-- ---- the whole

pub resolved_there : (state : State FileBlocks) → IsValid state → (path : Path) (place : Place) → resolve state path ≡ Ok place → IsThere state place
resolved_there state valid path place e = by path.tail e
  where
    live : (n : Node FileBlocks) → node_at state.tree path.base ≡ Some n → Has (node_at state.tree) n.id
    live n at = record { at = path.base; node = n; is = at; named = refl }

    to : (other : Place) → IsThere state other → other ≡ place → IsThere state place
    to other there same = subst (IsThere state) same there

    by : (tail : PathTail) → resolve_tail state path.base tail ≡ Ok place → IsThere state place
    by Plain e =
        let n = given (walk state.tree path.base) (λ (n : Node FileBlocks). Ok (places.Live n.id)) place e in
        to (places.Live n.0.id) (live n.0 (walk_so state.tree path.base n.0 n.1)) (ok_same n.2)
    by SnapshotList e =
        let d = given (snapshot_root state path.base) (λ (dir : InodeId). Ok (places.SnapshotsOf dir)) place e in
        to (places.SnapshotsOf d.0) (root_so state (node_at state.tree path.base) d.0 d.1) (ok_same d.2)
    by (Frozen snapshot rest) e =
        let d = given (snapshot_root state path.base) (λ (dir : InodeId). member_named state.members dir snapshot >>= λ member. walk member.tree rest >>= λ node. Ok (places.Frozen node.id member.snapshot)) place e in
        let m = given (member_named state.members d.0 snapshot) (λ (member : Member FileBlocks). walk member.tree rest >>= λ node. Ok (places.Frozen node.id member.snapshot)) place d.2 in
        let n = given (walk m.0.tree rest) (λ (node : Node FileBlocks). Ok (places.Frozen node.id m.0.snapshot)) place m.2 in
        let within : In state.members m.0 = named_in state.members d.0 snapshot m.0 m.1 in
        to (places.Frozen n.0.id m.0.snapshot)
        (record {
          member = m.0;
          within = contains-in state.members m.0 within;
          named = refl;
          found = with_self 0 state.members m.0 valid.snapshots_rise within;
          has = record { at = rest; node = n.0; is = walk_so m.0.tree rest n.0 n.1; named = refl };
        })
        (ok_same n.2)

pub asked_there : (state : State FileBlocks) → IsValid state → (text : List ℕ) (place : Place) → place_asked state text ≡ Ok place → IsThere state place
asked_there state valid text place e = let p = given (path_of text) (resolve state) place e in resolved_there state valid p.0 place p.2

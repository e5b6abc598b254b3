use denote.Bor.{Bor}
use Rattle.std.proofs.Common.{◌≡◌, ◌+◌, ◌-◌, ◌≤◌, ℕ, Bool, true, false, not, cond, List, [], ◌∷◌, length, Option, Some, None, refl, sym, ap, subst, ◌∙◌, append-nil, length-append, arith, rules}
use Rattle.std.specs.Prelude.{is_some}
use Rattle.std.specs.List.{list_any}
use Rattle.std.specs.Option.{option_copied}
use Rattle.hs_types.specs.Names.{Names}
use Rattle.hs_types.specs.declared.ids.InodeId.{InodeId}
use Rattle.hs_types.specs.declared.name.Spot.{Spot}
use Rattle.hs_plain.specs.declared.state.FileBlocks.{FileBlocks}
use Rattle.hs_plain.specs.Tree.{same_inode}
use Rattle.hs_plain.proofs.ValidLists.{In}
use Rattle.inode_table.specs.declared.row.Row.{Row}
use Rattle.inode_table.specs.Climb.{path_up}
use Rattle.inode_table.specs.Kept.{TableValue, told}
use Rattle.inode_table.specs.Numbered.{row_of, history_of}
use Rattle.inode_table.specs.Reads.{Shown}
use Rattle.inode_table.specs.RowHistory.{shown, spot_in}
use Rattle.path_resolver.specs.Rising.{spot_above, row_naming}
use Rattle.report_laws.specs.Chains.{is_seen, Climbs}
use Rattle.report_laws.proofs.Climbing.{climb-begins, climb-within}
use Rattle.path_resolver.proofs.Chains.{climb-above}
use Rattle.path_resolver.proofs.Circles.{AreSeen, seen-more, no-way}
use Rattle.path_resolver.proofs.Climbs.{up-on, up-last, up-out, with_names, one-more}
use Rattle.path_resolver.proofs.Looks.{no-spot, spot-told, named-row}
use Rattle.path_resolver.proofs.Ups.{not-true}
use Rattle.path_resolver.proofs.upward.path_down.Goals as goal
use Rattle.path_resolver.proofs.upward.path_down.Goals.{then-left-eq0-via-then-left-eq0, then-left-eq0-via-else-left-eq0+then-contains}

pub returns-then-left-eq0-clause-path : goal.returns-then-left-eq0-clause-path
returns-then-left-eq0-clause-path c =
    let rows : Shown FileBlocks = shown (told c.args.table.now.table).rows c.args.s.0 in
    let here : InodeId = c.loop-row.here in
    let names : Names = c.loop-row.names.items in
    let other : same_inode here c.args.top ≡ false = not-true (same_inode here c.args.top) (sym c.ne.ensures ∙ c.loop-row-test.true) in
    elim c.then-left-eq0.branch [
      | then-left-eq0-via-then-left-eq0 w ↦
          sym (ap (λ (n : ℕ). with_names names (path_up rows c.args.top (n + 1) here)) w.if-left-eq0.true ∙ ap (with_names names) (up-out rows c.args.top here other)) ∙ c.loop-row.invariant.0
      | then-left-eq0-via-else-left-eq0+then-contains w ↦
          let again : list_any (λ (id : InodeId). same_inode id here) c.loop-row.seen.items ≡ true = ap (list_any (λ (id : InodeId). same_inode id here)) (sym w.deref.ensures.value) ∙ sym w.contains.ensures.value ∙ w.if-contains.true in
          sym (ap (with_names names) (no-way rows c.args.top c.loop-row.seen.items here again c.loop-row.invariant.1 (c.loop-row.left + 1))) ∙ c.loop-row.invariant.0
    ]

pub returns-in_default-clause-path : goal.returns-in_default-clause-path
returns-in_default-clause-path c =
    let rows : Shown FileBlocks = shown (told c.args.table.now.table).rows c.args.s.0 in
    let here : InodeId = c.loop-row.here in
    let other : same_inode here c.args.top ≡ false = not-true (same_inode here c.args.top) (sym c.ne.ensures ∙ c.loop-row-test.true) in
    let none : row_of c.args.table.now.table.rows here ≡ None = sym c.loop-row.invariant.2 ∙ ap option_copied c.in_default.is in
    sym (ap (with_names c.loop-row.names.items) (up-last rows c.args.top c.loop-row.left here other (no-spot c.args.table.now.table c.args.s.0 here none))) ∙ c.loop-row.invariant.0

-- whether the row above names this one
named_test : (o : Option (Bor Row)) (asked : Option Row) (b : Bool) → option_copied o ≡ asked → is_some o ≡ not b → is_some asked ≡ not b
named_test None asked b e t = ap is_some (sym e) ∙ t
named_test (Some row) asked b e t = ap is_some (sym e) ∙ t

pub returns-then-is_none-clause-path : goal.returns-then-is_none-clause-path
returns-then-is_none-clause-path c =
    let rows : Shown FileBlocks = shown (told c.args.table.now.table).rows c.args.s.0 in
    let here : InodeId = c.loop-row.here in
    let row : Row = c.in-Some.found.now in
    let spot : Spot = spot_in c.args.s.0 (history_of row.rows) in
    let other : same_inode here c.args.top ≡ false = not-true (same_inode here c.args.top) (sym c.ne.ensures ∙ c.loop-row-test.true) in
    let at : row_of c.args.table.now.table.rows here ≡ Some row = sym c.loop-row.invariant.2 ∙ ap option_copied c.in-Some.is in
    let asked : option_copied c.row_above-row.result ≡ row_naming c.args.s.0 spot here (row_of c.args.table.now.table.rows spot.parent) =
    c.row_above-row.ensures.row ∙ ap (λ (p : Spot). row_naming c.args.s.0 p here (row_of c.loop-row.table.table.rows p.parent)) c.spot_of-spot.ensures
    ∙ ap (λ (t : TableValue). row_naming c.args.s.0 spot here (row_of t.rows spot.parent)) c.loop-row.invariant.3 in
    let none : is_some (row_naming c.args.s.0 spot here (row_of c.args.table.now.table.rows spot.parent)) ≡ false =
    named_test c.row_above-row.result (row_naming c.args.s.0 spot here (row_of c.args.table.now.table.rows spot.parent)) c.is_none.result asked c.is_none.ensures ∙ ap not c.if-is_none.true in
    let up : spot_above rows here ≡ None = spot-told c.args.table.now.table c.args.s.0 here row at ∙ ap (λ b. cond b (Some spot) None) none in
    sym (ap (with_names c.loop-row.names.items) (up-last rows c.args.top c.loop-row.left here other up)) ∙ c.loop-row.invariant.0

pub loop-row-preserved : goal.loop-row-preserved
loop-row-preserved c =
    let rows : Shown FileBlocks = shown (told c.args.table.now.table).rows c.args.s.0 in
    let here : InodeId = c.loop-row.here in
    let names : Names = c.loop-row.names.items in
    let left : ℕ = c.loop-row.left in
    let row : Row = c.in-Some.found.now in
    let spot : Spot = spot_in c.args.s.0 (history_of row.rows) in
    let stood : Spot = c.spot_of-spot.result.now in
    let same : stood ≡ spot = c.spot_of-spot.ensures in
    let above : Option Row = row_naming c.args.s.0 spot here (row_of c.args.table.now.table.rows spot.parent) in
    let other : same_inode here c.args.top ≡ false = not-true (same_inode here c.args.top) (sym c.ne.ensures ∙ c.loop-row-test.true) in
    let at : row_of c.args.table.now.table.rows here ≡ Some row = sym c.loop-row.invariant.2 ∙ ap option_copied c.in-Some.is in
    let asked : option_copied c.row_above-row.result ≡ above =
    c.row_above-row.ensures.row ∙ ap (λ (p : Spot). row_naming c.args.s.0 p here (row_of c.loop-row.table.table.rows p.parent)) same
    ∙ ap (λ (t : TableValue). row_naming c.args.s.0 spot here (row_of t.rows spot.parent)) c.loop-row.invariant.3 in
    let there : is_some above ≡ true = named_test c.row_above-row.result above c.is_none.result asked c.is_none.ensures ∙ ap not c.if-is_none.false in
    let up : spot_above rows here ≡ Some stood = spot-told c.args.table.now.table c.args.s.0 here row at ∙ ap (λ b. cond b (Some spot) None) there ∙ ap (λ (p : Spot). Some p) (sym same) in
    let down : left - 1 + 1 ≡ left = omega (arith, c.if-left-eq0.false) in
    let new : is_seen here c.loop-row.seen.items ≡ false = ap (is_seen here) (sym c.deref.ensures.value) ∙ sym c.contains.ensures.value ∙ c.if-contains.false in
    let ticks = c.loop-row.invariant.4 in
    let one = c.row_above-row.ensures.ticks in
    let long = ap (λ (l : List InodeId). length l) c.in_ok-push.ensures.items in
    let more = length-append c.loop-row.seen.items (here ∷ []) in (
      (ap (λ (n : ℕ). with_names c.push_name.new.names.items (path_up rows c.args.top n stood.parent)) down
          ∙ ap (λ (list : Names). with_names list (path_up rows c.args.top left stood.parent)) c.in_ok-push_name.ensures
          ∙ one-more names stood (path_up rows c.args.top left stood.parent)
          ∙ sym (ap (with_names names) (up-on rows c.args.top left here stood other up))
          ∙ c.loop-row.invariant.0),
      subst (λ (seen : List InodeId). AreSeen rows c.args.top seen stood.parent) (sym c.in_ok-push.ensures.items) (seen-more rows c.args.top c.loop-row.seen.items here stood other up c.loop-row.invariant.1),
      asked ∙ named-row c.args.s.0 spot here (row_of c.args.table.now.table.rows spot.parent) there ∙ ap (λ (p : Spot). row_of c.args.table.now.table.rows p.parent) (sym same),
      c.row_above-row.ensures.table ∙ c.loop-row.invariant.3,
      omega (arith, ticks, one, long, more),
      subst (λ (seen : List InodeId). Climbs rows c.args.id seen stood.parent) (sym c.in_ok-push.ensures.items) (climb-above rows c.args.id here c.loop-row.seen.items stood c.loop-row.invariant.5 new up),
    )

with-none : (o : Option Names) → with_names [] o ≡ o
with-none None = refl
with-none (Some path) = ap (λ (p : Names). Some p) (append-nil path)

pub loop-row-init : goal.loop-row-init
loop-row-init c =
    let rows : Shown FileBlocks = shown (told c.args.table.now.table).rows c.args.s.0 in
    let ticks : c.row-row.new.self.ticks ≤ c.args.table.now.ticks + 1 = search rules in (
      ap (λ (names : Names). with_names names (path_up rows c.args.top (c.greatest-left.result.0 + 1) c.args.id)) c.new-names.ensures.items
          ∙ with-none (path_up rows c.args.top (c.greatest-left.result.0 + 1) c.args.id)
          ∙ ap (λ (n : ℕ). path_up rows c.args.top (n + 1) c.args.id) (c.greatest-left.ensures ∙ ap (λ (t : TableValue). t.greatest) c.row-row.ensures.table),
      λ id at. absurd (subst (λ (ids : List InodeId). In ids id) c.new-seen.ensures.items at),
      c.row-row.ensures.row,
      c.row-row.ensures.table,
      omega (arith, ticks),
      subst (λ (seen : List InodeId). Climbs rows c.args.id seen c.args.id) (sym c.new-seen.ensures.items) (climb-begins rows c.args.id),
    )

-- ---- how many rows

pub returns-then-left-eq0-clause-ticks : goal.returns-then-left-eq0-clause-ticks
returns-then-left-eq0-clause-ticks c = λ h chains.
    let most = (climb-within (shown (told c.args.table.now.table).rows c.args.s.0) c.args.id c.loop-row.here c.loop-row.seen.items h c.loop-row.invariant.5 chains).rows in
    let ticks = c.loop-row.invariant.4 in omega (arith, most, ticks)

pub returns-in_default-clause-ticks : goal.returns-in_default-clause-ticks
returns-in_default-clause-ticks c = λ h chains.
    let most = (climb-within (shown (told c.args.table.now.table).rows c.args.s.0) c.args.id c.loop-row.here c.loop-row.seen.items h c.loop-row.invariant.5 chains).rows in
    let ticks = c.loop-row.invariant.4 in omega (arith, most, ticks)

pub returns-clause-ticks : goal.returns-clause-ticks
returns-clause-ticks c = λ h chains.
    let most = (climb-within (shown (told c.args.table.now.table).rows c.args.s.0) c.args.id c.loop-row.here c.loop-row.seen.items h c.loop-row.invariant.5 chains).rows in
    let ticks = c.loop-row.invariant.4 in omega (arith, most, ticks)

pub returns-then-is_none-clause-ticks : goal.returns-then-is_none-clause-ticks
returns-then-is_none-clause-ticks c = λ h chains.
    let new : is_seen c.loop-row.here c.loop-row.seen.items ≡ false = ap (is_seen c.loop-row.here) (sym c.deref.ensures.value) ∙ sym c.contains.ensures.value ∙ c.if-contains.false in
    let most = (climb-within (shown (told c.args.table.now.table).rows c.args.s.0) c.args.id c.loop-row.here c.loop-row.seen.items h c.loop-row.invariant.5 chains).more new in
    let ticks = c.loop-row.invariant.4 in let one = c.row_above-row.ensures.ticks in omega (arith, most, ticks, one)

pub returns-in_err-push_name-clause-ticks : goal.returns-in_err-push_name-clause-ticks
returns-in_err-push_name-clause-ticks c = λ h chains.
    let new : is_seen c.loop-row.here c.loop-row.seen.items ≡ false = ap (is_seen c.loop-row.here) (sym c.deref.ensures.value) ∙ sym c.contains.ensures.value ∙ c.if-contains.false in
    let most = (climb-within (shown (told c.args.table.now.table).rows c.args.s.0) c.args.id c.loop-row.here c.loop-row.seen.items h c.loop-row.invariant.5 chains).more new in
    let ticks = c.loop-row.invariant.4 in let one = c.row_above-row.ensures.ticks in omega (arith, most, ticks, one)

pub returns-in_err-push-clause-ticks : goal.returns-in_err-push-clause-ticks
returns-in_err-push-clause-ticks c = λ h chains.
    let new : is_seen c.loop-row.here c.loop-row.seen.items ≡ false = ap (is_seen c.loop-row.here) (sym c.deref.ensures.value) ∙ sym c.contains.ensures.value ∙ c.if-contains.false in
    let most = (climb-within (shown (told c.args.table.now.table).rows c.args.s.0) c.args.id c.loop-row.here c.loop-row.seen.items h c.loop-row.invariant.5 chains).more new in
    let ticks = c.loop-row.invariant.4 in let one = c.row_above-row.ensures.ticks in omega (arith, most, ticks, one)

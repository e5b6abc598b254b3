-- A rename, whole.
use Rattle.std.proofs.Common.{◌≡◌, ℕ, ◌+◌, ◌≤◌, true, false, cond, List, [], ◌∷◌, ◌++◌, Option, Some, None, refl, sym, ap, subst, ◌∙◌, append_assoc, append-nil, get_or, suc, arith}
use Rattle.std.specs.Prelude.{◌≢◌, nat_lt, max}
use Rattle.std.specs.List.{Contains}
use Rattle.std.specs.Option.{option_map}
use Rattle.hs_types.specs.Names.{Names}
use Rattle.hs_types.specs.declared.ids.InodeId.{InodeId}
use Rattle.hs_plain.specs.declared.state.Node.{Node}
use Rattle.hs_plain.specs.declared.state.State.{State}
use Rattle.hs_plain.specs.declared.state.Member.{Member}
use Rattle.hs_plain.specs.declared.state.FileBlocks.{FileBlocks}
use Rattle.hs_plain.specs.Tree.{Tree, node_at, same_path, parent_of, same_inode}
use Rattle.hs_plain.specs.Change.{restamp, stamped, without, moved, renamed}
use Rattle.hs_plain.proofs.ValidTrees.{restamp-kept}
use Rattle.hs_plain.proofs.ValidShapes.{by_under, none_some, same_some, not_last}
use Rattle.std.proofs.lemmas.List.{append_cancel_left}
use Rattle.dir_changes.specs.Entries.{with_entry, without_name}
use Rattle.inode_table.specs.Reads.{Nodes, ReadsAs, IsNodes, Has, Child, child, id_of}
use Rattle.inode_table.specs.Marks.{Mark, RowMarks, InCopy, AreMarks, IsChain, Leads, last_of, marked, cover, cover_from}
use Rattle.inode_table.specs.RowHistory.{Table, RowHistory, rows_at, shown, marks_of, node_in, spot_in, entries_of, last_in, need, IsFrozen, IsSafe}
use Rattle.inode_table.specs.Calls.{MayMove}
use Rattle.inode_table.specs.Stands.{Stands, TableRenames, root_id}
use Rattle.inode_table.proofs.Reading.{by_id, by_child}
use Rattle.inode_table.proofs.Covers.{cover-bound, some_id}
use Rattle.inode_table.proofs.Marked.{marks-arrive}
use Rattle.inode_table.proofs.Kept.{frozen-kept, frozen-step, safe-need, safe-later, alike-itself}
use Rattle.inode_table.proofs.Walking.{up_there, without-gone, without-there, moved-below, moved-there, node_at-map}
use Rattle.inode_table.proofs.Calling.{reads-renamed}

-- ---- a cover is no more than what was issued

module _ {B : Type 0} (live : Nodes B) (members : List (Member B)) (marks : RowMarks) (issued : ℕ) (are : AreMarks live members marks issued) (ids : (m : Member B) → Contains members m → m.snapshot.0 ≤ issued) where
  last_of-within : (ms : List (Member B)) (id : InodeId) → ((m : Member B) → Contains ms m → m.snapshot.0 ≤ issued) → last_of ms id ≤ issued
  last_of-within [] id all = omega arith
  last_of-within (m ∷ ms) id all =
      let rest : last_of ms id ≤ issued = last_of-within ms id (λ o within. all o (within.0 + 1, omega arith, later m ms o within.0 within.2)) in
      let here : m.snapshot.0 ≤ issued = all m (0, omega arith, refl) in
      elim (same_inode m.directory id) as (λ b. cond b (max m.snapshot.0 (last_of ms id)) (last_of ms id) ≤ issued) [ true ↦ omega arith | false ↦ rest ]
    where
      later : (m : Member B) (ms : List (Member B)) (o : Member B) (k : ℕ) → get_or ms k o ≡ o → get_or (m ∷ ms) (k + 1) o ≡ o
      later m ms o k e = ap (λ j. get_or (m ∷ ms) j o) {x = k + 1} {y = suc k} (omega arith) ∙ e

  marked-within : (mark : Mark) (n : ℕ) → n ≤ issued → mark.carry ≤ issued → marked mark n ≤ issued
  marked-within mark n upto carry = elim (nat_lt mark.since n) as (λ b. cond b n mark.carry ≤ issued) [ true ↦ upto | false ↦ carry ]

  leads-within : (at below : Names) (chain : List InodeId) (n : ℕ) → Leads live at below chain → n ≤ issued → cover_from (last_of members) marks n chain ≤ issued
  leads-within at [] [] n leads upto = upto
  leads-within at [] (x ∷ xs) n leads upto = absurd leads
  leads-within at (name ∷ below) [] n leads upto = absurd leads
  leads-within at (name ∷ below) (x ∷ xs) n leads upto = leads-within (child at name) below xs (marked (marks x) (max n (last_of members x))) leads.1
      (let k = some_id (live (child at name)) x leads.0 in
      let last = last_of-within members x ids in
      marked-within (marks x) (max n (last_of members x)) (omega arith) (are.carry_issued x (record { at = child at name; node = k.0; is = k.1; named = k.2 })))

  pub cover-within : (path : Names) (chain : List InodeId) → IsChain live path chain → cover (last_of members) marks chain ≤ issued
  cover-within path [] leads = absurd leads
  cover-within path (x ∷ xs) leads = leads-within [] path xs (marked (marks x) (max 0 (last_of members x))) leads.1
      (let k = some_id (live []) x leads.0 in
      let last = last_of-within members x ids in
      marked-within (marks x) (max 0 (last_of members x)) (omega arith) (are.carry_issued x (record { at = []; node = k.0; is = k.1; named = k.2 })))

-- ---- who stands below whom

module _ {B : Type 0} where
  pub stamp-id : (t : Tree B) (p : Names) (tick : ℕ) (q : Names) → id_of (node_at (stamped t p tick) q) ≡ id_of (node_at t q)
  stamp-id t p tick q = ap id_of (node_at-map (restamp p tick) (restamp-kept p tick) t q) ∙ same (node_at t q)
    where
      same : (o : Option (Node B)) → id_of (option_map (λ n. (restamp p tick (q, n)).1) o) ≡ id_of o
      same None = refl
      same (Some n) = elim (same_path p q) as (λ b. Some (cond {A = Names × Node B} b (q, record n { stamp = tick }) (q, n)).1.id ≡ Some n.id) [ true ↦ refl | false ↦ refl ]

  pub child-alike : (f g : Nodes B) → ((q : Names) → id_of (g q) ≡ id_of (f q)) → (p y : InodeId) → Child g p y → Child f p y
  child-alike f g same p y c =
      let n = some_id (f c.at) c.above.id (sym (same c.at) ∙ ap id_of c.is_above) in
      let k = some_id (f (child c.at c.name)) c.node.id (sym (same (child c.at c.name)) ∙ ap id_of c.is) in
      record { at = c.at; name = c.name; above = n.0; node = k.0; is_above = n.1; is = k.1; parent_named = n.2 ∙ c.parent_named; named = k.2 ∙ c.named }

  pub has-alike : (f g : Nodes B) → ((q : Names) → id_of (g q) ≡ id_of (f q)) → (y : InodeId) → Has g y → Has f y
  has-alike f g same y h = let n = some_id (f h.at) h.node.id (sym (same h.at) ∙ ap id_of h.is) in record { at = h.at; node = n.0; is = n.1; named = n.2 ∙ h.named }

  module _ (t : Tree B) (from to : Names) (old_name new_name : List ℕ) (a b x : Node B) (may : MayMove t from to old_name new_name a b x) (is : IsNodes (node_at t)) where
    abbrev old_at : Names
    old_at = child from old_name

    abbrev new_at : Names
    new_at = child to new_name

    abbrev m : Tree B
    m = moved t old_at new_at

    pub free_below : (rest : Names) → node_at t (new_at ++ rest) ≡ None
    free_below rest = by (node_at t (new_at ++ rest)) refl
      where
        by : (o : Option (Node B)) → node_at t (new_at ++ rest) ≡ o → node_at t (new_at ++ rest) ≡ None
        by None e = e
        by (Some n) e = let up = up_there (node_at t) is new_at rest n e in absurd (none_some (sym may.free ∙ up.1))

    abbrev part : (rest : Names) → node_at m (new_at ++ rest) ≡ node_at t (old_at ++ rest)
    part = moved-below t old_at new_at may.sorted free_below

    other_part : (q : Names) (n : Node B) → ((rest : Names) → q ≢ new_at ++ rest) → node_at m q ≡ Some n → node_at t q ≡ Some n
    other_part q n ne h = by_under q old_at
        (λ rest e. absurd (none_some (sym (without-gone t old_at rest) ∙ ap (node_at (without t old_at)) (sym e) ∙ sym (moved-there t old_at new_at may.sorted free_below q ne) ∙ h)))
        (λ apart. sym (without-there t old_at q apart) ∙ sym (moved-there t old_at new_at may.sorted free_below q ne) ∙ h)

    pub moved_has : (y : InodeId) → Has (node_at m) y → Has (node_at t) y
    moved_has y h = by_under h.at new_at
        (λ rest e. record { at = old_at ++ rest; node = h.node; is = sym (part rest) ∙ ap (node_at m) (sym e) ∙ h.is; named = h.named })
        (λ ne. record { at = h.at; node = h.node; is = other_part h.at h.node ne h.is; named = h.named })

    pub moved_child : (p y : InodeId) → Child (node_at m) p y → y ≢ x.id → Child (node_at t) p y
    moved_child p y c other = by_child c.at c.name to new_name
        (λ e d. absurd (other (sym c.named ∙ ap (λ (n : Node B). n.id) (same_some (sym c.is ∙ ap (node_at m) (ap (λ (r : Names). child r c.name) e ∙ ap (child to) d ∙ sym (append-nil new_at)) ∙ part [] ∙ ap (node_at t) (append-nil old_at) ∙ may.was)))))
        (λ rest e. record {
          at = old_at ++ rest;
          name = c.name;
          above = c.above;
          node = c.node;
          is_above = sym (part rest) ∙ ap (node_at m) (sym e) ∙ c.is_above;
          is = ap (node_at t) (append_assoc old_at rest (c.name ∷ [])) ∙ sym (part (child rest c.name)) ∙ ap (node_at m) (sym (append_assoc new_at rest (c.name ∷ [])) ∙ ap (λ (r : Names). child r c.name) (sym e)) ∙ c.is;
          parent_named = c.parent_named;
          named = c.named;
        })
        (λ away. record {
          at = c.at;
          name = c.name;
          above = c.above;
          node = c.node;
          is_above = other_part c.at c.above (λ rest e. away (rest ++ c.name ∷ []) (ap (λ (r : Names). child r c.name) e ∙ append_assoc new_at rest (c.name ∷ []))) c.is_above;
          is = other_part (child c.at c.name) c.node away c.is;
          parent_named = c.parent_named;
          named = c.named;
        })

-- ---- the step

module _ (state : State FileBlocks) (issued : ℕ) (t0 t1 t2 t3 t4 : Table) (from to : Names) (old_name new_name : List ℕ) (a b x : Node FileBlocks)
    (step : TableRenames state issued t0 t1 t2 t3 t4 from to old_name new_name a b x) (may : MayMove state.tree from to old_name new_name a b x) (is : IsNodes (node_at state.tree)) (stands : Stands t0 state issued) where
  x_not_a : x.id ≢ a.id
  x_not_a e = nothing (is.once (child from old_name) from x a may.was may.was_from e)
    where
      nothing : child from old_name ≢ from
      nothing d = not_last [] old_name (cancel d)
        where
          cancel : child from old_name ≡ from → old_name ∷ [] ≡ []
          cancel d = append_cancel_left from (old_name ∷ []) [] (d ∙ sym (append-nil from))

  x_not_b : x.id ≢ b.id
  x_not_b e = may.outside (new_name ∷ []) (ap (λ (r : Names). child r new_name) (sym (is.once (child from old_name) to x b may.was may.was_to e)))

  bound : (path : Names) (chain : List InodeId) (n : Node FileBlocks) → IsChain (node_at state.tree) path chain → node_at state.tree path ≡ Some n → (m : Member FileBlocks) → Contains state.members m → InCopy m n.id
      → m.snapshot.0 ≤ cover (last_of state.members) (marks_of t0) chain
  bound path chain n leads at m is_live copied = cover-bound (node_at state.tree) state.members (marks_of t0) issued root_id path chain n.id m stands.marks stands.top stands.live.root leads (ap id_of at) is_live copied

  safe_a : IsSafe state.members a.id step.oa (need state.members (last_in step.oa) (cover (last_of state.members) (marks_of t0) step.chain_a))
  safe_a = safe-need state.members a.id step.oa (cover (last_of state.members) (marks_of t0) step.chain_a) (bound from step.chain_a a step.is_chain_a may.was_from)

  -- the second parent's rows: as they were, or, where it is the first, as that was left
  b_is : {P : Type 0} → (b.id ≡ a.id → step.ob ≡ step.na → P) → (b.id ≢ a.id → step.ob ≡ step.ob0 → P) → P
  b_is same other = by_id b.id a.id
      (λ e. same e (same_some (sym step.step_b.was ∙ ap (rows_at t1) e ∙ step.step_a.here)))
      (λ ne. other ne (same_some (sym step.step_b.was ∙ step.step_a.there b.id ne ∙ step.was_b)))

  safe_b : IsSafe state.members b.id step.ob (need state.members (last_in step.ob0) (cover (last_of state.members) (marks_of t0) step.chain_b))
  safe_b = b_is
      (λ e d. subst (λ (r : RowHistory). IsSafe state.members b.id r number) (sym d)
      (safe-later state.members b.id step.oa step.na (need state.members (last_in step.oa) (cover (last_of state.members) (marks_of t0) step.chain_a)) number step.step_a.last
      (subst (λ (i : InodeId). IsSafe state.members i step.oa (need state.members (last_in step.oa) (cover (last_of state.members) (marks_of t0) step.chain_a))) (sym e) safe_a)))
      (λ ne d. subst (λ (r : RowHistory). IsSafe state.members b.id r number) (sym d)
      (safe-need state.members b.id step.ob0 (cover (last_of state.members) (marks_of t0) step.chain_b) (bound to step.chain_b b step.is_chain_b may.was_to)))
    where
      number : ℕ
      number = need state.members (last_in step.ob0) (cover (last_of state.members) (marks_of t0) step.chain_b)

  safe_x : IsSafe state.members x.id step.ox (need state.members (last_in step.ox) (cover (last_of state.members) (marks_of t0) step.chain_x))
  safe_x = safe-need state.members x.id step.ox (cover (last_of state.members) (marks_of t0) step.chain_x) (bound (child from old_name) step.chain_x x step.is_chain_x may.was)

  frozen_4 : IsFrozen t4 state.members
  frozen_4 = frozen-kept state.members t3 t4
      (record { kept = λ id rows m was is_live copied. (rows, step.rows_last id ∙ was, alike-itself m.snapshot.0 rows) })
      (frozen-step state.members t2 t3 x.id _ step.ox step.nx stands.top.above step.step_x safe_x
      (frozen-step state.members t1 t2 b.id _ step.ob step.nb stands.top.above step.step_b safe_b
      (frozen-step state.members t0 t1 a.id _ step.oa step.na stands.top.above step.step_a safe_a stands.frozen)))

  -- ---- current states

  now_a : node_in a.id 0 step.oa ≡ a
  now_a = same_some (sym (ap (option_map (node_in a.id 0)) step.step_a.was) ∙ stands.live.node from a may.was_from)

  now_b0 : node_in b.id 0 step.ob0 ≡ b
  now_b0 = same_some (sym (ap (option_map (node_in b.id 0)) step.was_b) ∙ stands.live.node to b may.was_to)

  now_b : node_in b.id 0 step.nb ≡ record b { stamp = state.tick + 1 }
  now_b = step.edit_b.node b.id ∙ b_is
      (λ e d. ap (λ (r : RowHistory). record (node_in b.id 0 r) { stamp = state.tick + 1 }) d ∙ ap (λ (n : Node FileBlocks). record n { stamp = state.tick + 1 }) (step.edit_a.node b.id)
      ∙ ap (λ (r : RowHistory). record (node_in b.id 0 r) { stamp = state.tick + 1 }) (same_some (sym step.step_a.was ∙ ap (rows_at t0) (sym e) ∙ step.was_b)) ∙ ap (λ (n : Node FileBlocks). record n { stamp = state.tick + 1 }) now_b0)
      (λ ne d. ap (λ (r : RowHistory). record (node_in b.id 0 r) { stamp = state.tick + 1 }) d ∙ ap (λ (n : Node FileBlocks). record n { stamp = state.tick + 1 }) now_b0)

  rows_b : rows_at t4 b.id ≡ Some step.nb
  rows_b = step.rows_last b.id ∙ step.step_x.there b.id (λ e. x_not_b (sym e)) ∙ step.step_b.here

  rows_x : rows_at t4 x.id ≡ Some step.nx
  rows_x = step.rows_last x.id ∙ step.step_x.here

  x_was : rows_at t1 x.id ≡ Some step.ox
  x_was = sym (step.step_b.there x.id x_not_b) ∙ step.step_x.was

  rows_other : (id : InodeId) → id ≢ b.id → id ≢ x.id → rows_at t4 id ≡ rows_at t1 id
  rows_other id nb nx = step.rows_last id ∙ step.step_x.there id nx ∙ step.step_b.there id nb

  live_4 : ReadsAs (shown t4 0) root_id (node_at (renamed state (child from old_name, child to new_name)).tree)
  live_4 = reads-renamed state (shown t0 0) (shown t4 0) (shown t1 0).entries root_id from to old_name new_name a b x may
      (record {
        from_stamped = by_id a.id b.id
            (λ e. ap (shown t4 0).node e ∙ ap (option_map (node_in b.id 0)) rows_b ∙ ap (λ n. Some n) now_b
            ∙ ap (λ (n : Node FileBlocks). Some (record n { stamp = state.tick + 1 })) (same_some (sym may.was_to ∙ ap (node_at state.tree) (sym (is.once from to a b may.was_from may.was_to e)) ∙ may.was_from)))
            (λ ne. ap (option_map (node_in a.id 0)) (rows_other a.id ne (λ e. x_not_a (sym e)) ∙ step.step_a.here)
            ∙ ap (λ n. Some n) (step.edit_a.node a.id ∙ ap (λ (n : Node FileBlocks). record n { stamp = state.tick + 1 }) now_a));
        to_stamped = ap (option_map (node_in b.id 0)) rows_b ∙ ap (λ n. Some n) now_b;
        node = λ id na nb. by_id id x.id
            (λ e. ap (shown t4 0).node e ∙ ap (option_map (node_in x.id 0)) rows_x ∙ ap (λ n. Some n) (step.node_x x.id)
            ∙ sym (ap (option_map (node_in x.id 0)) (sym (step.step_a.there x.id x_not_a) ∙ x_was)) ∙ ap (shown t0 0).node (sym e))
            (λ nx. ap (option_map (node_in id 0)) (rows_other id nb nx ∙ step.step_a.there id na));
        left = ap (entries_of 0) step.step_a.here ∙ step.left ∙ ap (without_name old_name) (sym (ap (entries_of 0) step.step_a.was));
        entries_left = λ id na. ap (entries_of 0) (step.step_a.there id na);
        put = ap (entries_of 0) rows_b ∙ step.put ∙ ap (with_entry new_name x.id) (sym (ap (entries_of 0) step.step_b.was));
        entries_put = λ id nb. by_id id x.id
            (λ e. ap (shown t4 0).entries e ∙ ap (entries_of 0) rows_x ∙ step.entries_x ∙ sym (ap (entries_of 0) x_was) ∙ ap (shown t1 0).entries (sym e))
            (λ nx. ap (entries_of 0) (rows_other id nb nx));
        placed = ap (option_map (spot_in 0)) rows_x ∙ ap (λ s. Some s) step.placed;
        spot = λ id nx. by_id id b.id
            (λ e. ap (shown t4 0).spot e ∙ ap (option_map (spot_in 0)) rows_b ∙ ap (λ s. Some s) step.edit_b.spot ∙ sym (ap (option_map (spot_in 0)) step.step_b.was) ∙ spot_1 b.id ∙ ap (shown t0 0).spot (sym e))
            (λ nb. ap (option_map (spot_in 0)) (rows_other id nb nx) ∙ spot_1 id);
      })
      is stands.live
    where
      spot_1 : (id : InodeId) → (shown t1 0).spot id ≡ (shown t0 0).spot id
      spot_1 id = by_id id a.id
          (λ e. ap (shown t1 0).spot e ∙ ap (option_map (spot_in 0)) step.step_a.here ∙ ap (λ s. Some s) step.edit_a.spot ∙ sym (ap (option_map (spot_in 0)) step.step_a.was) ∙ ap (shown t0 0).spot (sym e))
          (λ ne. ap (option_map (spot_in 0)) (step.step_a.there id ne))

  -- ---- marks

  marks_kept : (id : InodeId) → id ≢ x.id → marks_of t4 id ≡ marks_of t0 id
  marks_kept id ne = step.marks_other id ne ∙ step.step_x.marks id ∙ step.step_b.marks id ∙ step.step_a.marks id

  after_ids : (q : Names) → id_of (node_at (renamed state (child from old_name, child to new_name)).tree q) ≡ id_of (node_at (moved state.tree (child from old_name) (child to new_name)) q)
  after_ids q = stamp-id (stamped (moved state.tree (child from old_name) (child to new_name)) (parent_of (child from old_name)) (state.tick + 1)) (parent_of (child to new_name)) (state.tick + 1) q
      ∙ stamp-id (moved state.tree (child from old_name) (child to new_name)) (parent_of (child from old_name)) (state.tick + 1) q

  pub stands_renamed : Stands t4 (renamed state (child from old_name, child to new_name)) issued
  stands_renamed = record {
    live = live_4;
    frozen = frozen_4;
    marks = marks-arrive (node_at state.tree) (node_at (renamed state (child from old_name, child to new_name)).tree) state.members (marks_of t0) (marks_of t4) issued x.id (cover (last_of state.members) (marks_of t0) step.chain_x)
        (record {
          child = λ p y c ne. moved_child state.tree from to old_name new_name a b x may is p y (child-alike (node_at (moved state.tree (child from old_name) (child to new_name))) (node_at (renamed state (child from old_name, child to new_name)).tree) after_ids p y c) ne;
          has = λ y h _. moved_has state.tree from to old_name new_name a b x may is y (has-alike (node_at (moved state.tree (child from old_name) (child to new_name))) (node_at (renamed state (child from old_name, child to new_name)).tree) after_ids y h);
          other = marks_kept;
          here = step.mark_x;
          ids_issued = stands.ids_issued;
          carry_issued = cover-within (node_at state.tree) state.members (marks_of t0) issued stands.marks stands.ids_issued (child from old_name) step.chain_x step.is_chain_x;
          enough = bound (child from old_name) step.chain_x x step.is_chain_x may.was;
        })
        stands.marks;
    top = record {
      own = stands.top.own;
      above = stands.top.above;
      since = ap (λ (k : Mark). k.since) (marks_kept root_id not_root) ∙ stands.top.since;
    };
    ids_issued = stands.ids_issued;
  }
    where
      not_root : root_id ≢ x.id
      not_root e = let n = some_id (node_at state.tree []) root_id stands.live.root in not_last from old_name (is.once (child from old_name) [] x n.0 may.was n.1 (sym e ∙ sym n.2))

pub rename-stands : (state : State FileBlocks) (issued : ℕ) (t0 t1 t2 t3 t4 : Table) (from to : Names) (old_name new_name : List ℕ) (a b x : Node FileBlocks)
    → TableRenames state issued t0 t1 t2 t3 t4 from to old_name new_name a b x → MayMove state.tree from to old_name new_name a b x → IsNodes (node_at state.tree)
    → Stands t0 state issued → Stands t4 (renamed state (child from old_name, child to new_name)) issued
rename-stands state issued t0 t1 t2 t3 t4 from to old_name new_name a b x step may is stands = stands_renamed state issued t0 t1 t2 t3 t4 from to old_name new_name a b x step may is stands

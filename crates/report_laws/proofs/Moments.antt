-- The copied trees of snapshots as parts of the live trees of earlier moments.
use Rattle.std.proofs.Common.{◌≡◌, ℕ, ◌-◌, ◌*◌, ◌≤◌, Bool, true, false, List, [], ◌∷◌, inl, inr, ⊎_elim, refl, sym, ap, subst, ◌∙◌, cond, arith}
use Rattle.std.specs.Prelude.{◌⊎◌, not}
use Rattle.hs_types.specs.Names.{Names}
use Rattle.hs_types.specs.declared.ids.SnapId.{SnapId}
use Rattle.hs_types.specs.declared.call.Call.{Call}
use Rattle.hs_types.specs.declared.call.Call.TheVariants as calls
use Rattle.hs_types.specs.declared.journal.Entry.{Entry}
use Rattle.hs_plain.specs.declared.state.Node.{Node}
use Rattle.hs_plain.specs.declared.state.Member.{Member}
use Rattle.hs_plain.specs.declared.state.State.{State}
use Rattle.hs_plain.specs.Files.{Files}
use Rattle.hs_plain.specs.State.{start}
use Rattle.hs_plain.specs.Snapshotting.{snap_at, snap_del_at, snap_ren_at}
use Rattle.hs_plain.specs.Change.{snapped, new_member, unsnapped, is_snapshot, resnapped, rename_member, change, takes_effect, changed_if, ticked, after}
use Rattle.hs_plain.specs.Replay.{replay_from}
use Rattle.hs_plain.specs.Valid.{IsValid}
use Rattle.hs_plain.proofs.ValidTrees.{if_asked-keeps}
use Rattle.hs_plain.proofs.ValidLists.{In, by_push, filter_so, map_so}
use Rattle.hs_plain.proofs.ValidSubtrees.{node_at-subtree}
use Rattle.hs_plain.proofs.Validity.{valid-after, valid-start}
use Rattle.hs_plain.proofs.Frozen.{SameSnapshots, same_snapshots}
use Rattle.hs_plain.proofs.Ticks.{tick-after}
use Rattle.inode_table.specs.Reads.{id_of}
use Rattle.report_laws.specs.Differing.{Ids, ids_in}
use Rattle.report_laws.proofs.Spans.{IsIds, AreBelow, Near, Spans, spans-same, spans-chain, below, near-below}
use Rattle.report_laws.proofs.Entries.{spans-entry, ids-live, live-below}

module _ {B : Type 0} where
  -- ---- what an entry does to snapshots

  -- the snapshot was there, perhaps with another name
  pub record WasThere (state : State B) (m : Member B) : Type 0 where
    pub was : Member B
    pub there : In state.members was
    pub tick : m.tick ≡ was.tick
    pub tree : m.tree ≡ was.tree

  -- it is a copy of what the live tree has at and below a path, made at this tick
  pub record IsTaken (state : State B) (m : Member B) : Type 0 where
    pub path : Names
    pub tick : m.tick ≡ state.tick
    pub copy : below (ids_in state.tree) path ≡ ids_in m.tree

  abbrev pub AreKnown : State B → State B → Type 0
  AreKnown state next = (m : Member B) → In next.members m → WasThere state m ⊎ IsTaken next m

  -- the same with the next tick
  abbrev pub AreKnownThen : State B → State B → Type 0
  AreKnownThen state next = AreKnown state (ticked next)

  known-same : (state next : State B) → next.members ≡ state.members → AreKnown state next
  known-same state next same m at = inl (record { was = m; there = subst (λ (ms : List (Member B)). In ms m) same at; tick = refl; tree = refl })

  known-snapped : (state : State B) (name : List ℕ) (at : Names × Node B) → AreKnownThen state (snapped state name at)
  known-snapped state name at m is = by_push state.members (new_member state name at) m is
      (λ was. inl (record { was = m; there = was; tick = refl; tree = refl }))
      (λ new. inr (record {
        path = at.0;
        tick = ap (λ (n : Member B). n.tick) (sym new);
        copy = (λ i rest. id_of (sym (node_at-subtree state.tree at.0 rest) i)) ∙ ap (λ (n : Member B). ids_in n.tree) new;
      }))

  known-unsnapped : (state : State B) (id : SnapId) → AreKnownThen state (unsnapped state id)
  known-unsnapped state id m is = inl (record { was = m; there = (filter_so (λ n. not (is_snapshot id n)) state.members m is).0; tick = refl; tree = refl })

  known-resnapped : (state : State B) (name : List ℕ) (id : SnapId) → AreKnownThen state (resnapped state name id)
  known-resnapped state name id m is =
      let w = map_so (rename_member id name) state.members m is in
      inl (record { was = w.0; there = w.1; tick = ap (λ (n : Member B). n.tick) (sym w.2) ∙ same_tick w.0 (is_snapshot id w.0); tree = ap (λ (n : Member B). n.tree) (sym w.2) ∙ same_tree w.0 (is_snapshot id w.0) })
    where
      same_tick : (n : Member B) (b : Bool) → (cond b (record n { name = name }) n).tick ≡ n.tick
      same_tick n true = refl
      same_tick n false = refl

      same_tree : (n : Member B) (b : Bool) → (cond b (record n { name = name }) n).tree ≡ n.tree
      same_tree n true = refl
      same_tree n false = refl

  module _ (files : Files B) (state : State B) where
    known-change : (call : Call) → AreKnownThen state (change files state call)
    known-change (calls.Snap path name) = if_asked-keeps (AreKnownThen state) (snapped state name) state (snap_at state path name) (known-same state (ticked state) refl) (λ at h. known-snapped state name at)
    known-change (calls.SnapDel path name) = if_asked-keeps (AreKnownThen state) (unsnapped state) state (snap_del_at state path name) (known-same state (ticked state) refl) (λ id h. known-unsnapped state id)
    known-change (calls.SnapRen path old new) = if_asked-keeps (AreKnownThen state) (resnapped state new) state (snap_ren_at state path old new) (known-same state (ticked state) refl) (λ id h. known-resnapped state new id)
    known-change call = let same : SameSnapshots state (change files state call) = same_snapshots files state call refl in known-same state (ticked (change files state call)) same.members

    known-after : (entry : Entry) → AreKnown state (after files state entry)
    known-after entry = elim (takes_effect entry) as (λ b. AreKnownThen state (changed_if b files state entry.call)) [ true ↦ known-change entry.call | false ↦ known-same state (ticked state) refl ]

  -- ---- moments

  -- these ids are a part of the live tree as it was at that tick
  pub record Moment (state : State B) (tick : ℕ) (ids : Ids) : Type 0 where
    pub whole : Ids
    pub path : Names
    pub next : ℕ
    pub part : below whole path ≡ ids
    pub is : IsIds whole
    pub under : AreBelow whole next
    pub spans : Spans whole (ids_in state.tree) next state.next_inode (2 * (state.tick - tick))
    pub upto : tick ≤ state.tick

  pub moment-now : (state : State B) → IsValid state → (path : Names) → Moment state state.tick (below (ids_in state.tree) path)
  moment-now state valid path = record {
    whole = ids_in state.tree;
    path = path;
    next = state.next_inode;
    part = refl;
    is = ids-live state valid;
    under = live-below state valid;
    spans = spans-same (ids_in state.tree) state.next_inode (2 * (state.tick - state.tick));
    upto = omega arith;
  }

  moment-later : (files : Files B) (state : State B) → IsValid state → (entry : Entry) (tick : ℕ) (ids : Ids) → Moment state tick ids → Moment (after files state entry) tick ids
  moment-later files state valid entry tick ids m =
      let rises = tick-after files state entry in
      let upto = m.upto in
      let later : State B = after files state entry in
      record {
        whole = m.whole;
        path = m.path;
        next = m.next;
        part = m.part;
        is = m.is;
        under = m.under;
        spans = spans-chain m.whole (ids_in state.tree) (ids_in later.tree) m.next state.next_inode later.next_inode (2 * (state.tick - tick)) 2 (2 * (later.tick - tick))
            (omega (arith, rises, upto)) m.under m.spans (spans-entry files state valid entry);
        upto = omega (arith, rises, upto);
      }

  -- a moment, and what the live tree has now
  pub near-now : (state : State B) → IsValid state → (tick : ℕ) (ids : Ids) (path : Names) → Moment state tick ids → Near ids (below (ids_in state.tree) path) (2 * (state.tick - tick))
  near-now state valid tick ids path m = subst (λ (f : Ids). Near f (below (ids_in state.tree) path) (2 * (state.tick - tick))) m.part
      (near-below m.whole (ids_in state.tree) m.path path m.is (ids-live state valid) (2 * (state.tick - tick)) m.spans.near)

  -- ---- all snapshots of a state

  pub record Remembers (state : State B) : Type 0 where
    pub valid : IsValid state
    pub each : (m : Member B) → In state.members m → Moment state m.tick (ids_in m.tree)
    pub pairs : (m n : Member B) → In state.members m → In state.members n → m.tick ≤ n.tick → Near (ids_in m.tree) (ids_in n.tree) (2 * (n.tick - m.tick))

  module _ (files : Files B) (state : State B) (known : Remembers state) (entry : Entry) where
    abbrev next : State B
    next = after files state entry

    valid_after : IsValid (after files state entry)
    valid_after = valid-after state known.valid files entry

    each_after : (m : Member B) → In next.members m → Moment next m.tick (ids_in m.tree)
    each_after m at = ⊎_elim
        (λ w. subst (λ (t : ℕ). Moment next t (ids_in m.tree)) (sym w.tick) (subst (λ tree. Moment next w.was.tick (ids_in tree)) (sym w.tree)
        (moment-later files state known.valid entry w.was.tick (ids_in w.was.tree) (known.each w.was w.there))))
        (λ t. subst (λ (k : ℕ). Moment next k (ids_in m.tree)) (sym t.tick) (subst (λ (f : Ids). Moment next next.tick f) t.copy (moment-now next valid_after t.path)))
        (known-after files state entry m at)

    -- both were there
    pairs_kept : (m n : Member B) → WasThere state m → WasThere state n → m.tick ≤ n.tick → Near (ids_in m.tree) (ids_in n.tree) (2 * (n.tick - m.tick))
    pairs_kept m n v w le =
        let vt = v.tick in let wt = w.tick in
        subst (λ (k : ℕ). Near (ids_in m.tree) (ids_in n.tree) (2 * (n.tick - k))) (sym v.tick)
        (subst (λ (k : ℕ). Near (ids_in m.tree) (ids_in n.tree) (2 * (k - v.was.tick))) (sym w.tick)
        (subst (λ tree. Near (ids_in tree) (ids_in n.tree) (2 * (w.was.tick - v.was.tick))) (sym v.tree)
        (subst (λ tree. Near (ids_in v.was.tree) (ids_in tree) (2 * (w.was.tick - v.was.tick))) (sym w.tree)
        (known.pairs v.was w.was v.there w.there (omega (arith, vt, wt))))))

    -- the later one is new
    pairs_new : (m n : Member B) → In next.members m → IsTaken next n → Near (ids_in m.tree) (ids_in n.tree) (2 * (n.tick - m.tick))
    pairs_new m n at t = subst (λ (k : ℕ). Near (ids_in m.tree) (ids_in n.tree) (2 * (k - m.tick))) (sym t.tick)
        (subst (λ (g : Ids). Near (ids_in m.tree) g (2 * (next.tick - m.tick))) t.copy (near-now next valid_after m.tick (ids_in m.tree) t.path (each_after m at)))

    -- a new one is later than those that were there
    too_late : (m n : Member B) → IsTaken next m → WasThere state n → m.tick ≤ n.tick → ⊥
    too_late m n t w le =
        let rises = tick-after files state entry in
        let upto = (known.each w.was w.there).upto in
        let mt = t.tick in let nt = w.tick in omega (arith, rises, upto, mt, nt)

    pub remembers-after : Remembers next
    remembers-after = record {
      valid = valid_after;
      each = each_after;
      pairs = λ m n am an le. ⊎_elim
          (λ w. ⊎_elim (λ v. pairs_kept m n v w le) (λ t. absurd (too_late m n t w le)) (known-after files state entry m am))
          (λ t. pairs_new m n am t)
          (known-after files state entry n an);
    }

  pub remembers-replay : (files : Files B) (state : State B) (entries : List Entry) → Remembers state → Remembers (replay_from files state entries)
  remembers-replay files state [] known = known
  remembers-replay files state (entry ∷ entries) known = remembers-replay files (after files state entry) entries (remembers-after files state known entry)

  pub remembers-start : Remembers (start {B = B})
  remembers-start = record { valid = valid-start; each = λ m at. absurd at; pairs = λ m n at _ _. absurd at }

  -- ---- the live tree before and after entries

  pub moment-replay : (files : Files B) (state : State B) (entries : List Entry) → IsValid state → (tick : ℕ) (ids : Ids) → Moment state tick ids → Moment (replay_from files state entries) tick ids
  moment-replay files state [] valid tick ids m = m
  moment-replay files state (entry ∷ entries) valid tick ids m = moment-replay files (after files state entry) entries (valid-after state valid files entry) tick ids (moment-later files state valid entry tick ids m)

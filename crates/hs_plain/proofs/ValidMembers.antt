-- The list of snapshots with one more, with fewer, and with one under another name.
use Rattle.std.proofs.Common.{◌≡◌, inl, inr, ℕ, ◌+◌, ◌<◌, ◌≤◌, Bool, true, false, cond, List, [], ◌∷◌, ◌++◌, map, refl, sym, ap, subst, ◌∙◌, arith}
use Rattle.std.specs.Prelude.{not, nat_lt}
use Rattle.std.specs.List.{list_any, list_all, filter}
use Rattle.std.proofs.lemmas.Bool.Decides.{Decides-eqb, Decides-ltb}
use Rattle.std.proofs.lemmas.List.Sums.{sum_by-cons, sum_by_push}
use Rattle.std.proofs.lemmas.Slice.Eq.{bytes_eq-Decides}
use Rattle.hs_types.specs.declared.ids.InodeId.{InodeId}
use Rattle.hs_types.specs.declared.ids.SnapId.{SnapId}
use Rattle.hs_plain.specs.declared.state.Member.{Member}
use Rattle.hs_plain.specs.Tree.{same_inode}
use Rattle.hs_plain.specs.State.{snapshots_of}
use Rattle.hs_plain.specs.Change.{is_snapshot, rename_member}
use Rattle.hs_plain.specs.Valid.{rises_above, rises, same_snapshot, names_differ}
use Rattle.hs_plain.proofs.ValidTrees.{both, first, second}
use Rattle.hs_plain.proofs.ValidShapes.{true_false}
use Rattle.hs_plain.proofs.ValidLists.{In, by_test, false_by, not_so, by_push, map_so, all_so, all_from, none_so, none_from, filter_so}

-- ---- ids as tests

pub inode_so : (a b : InodeId) → same_inode a b ≡ true → a ≡ b
inode_so a b h = let e = (Decides-eqb a.0 b.0).0 h in λ i. record { 0 = e i }

pub inode_test : (a b : InodeId) → a.0 ≡ b.0 → same_inode a b ≡ true
inode_test a b e = (Decides-eqb a.0 b.0).1 e

-- ---- tests that pass for each

module _ {X : Type 0} (p : X → Bool) where
  pub all-push : (xs : List X) (x : X) → list_all p xs ≡ true → p x ≡ true → list_all p (xs ++ x ∷ []) ≡ true
  all-push xs x all one = all_from p (xs ++ x ∷ []) (λ y at. by_push xs x y at (all_so p xs all y) (λ e. ap p (sym e) ∙ one))

  pub all-filter : (keeps : X → Bool) (xs : List X) → list_all p xs ≡ true → list_all p (filter keeps xs) ≡ true
  all-filter keeps xs all = all_from p (filter keeps xs) (λ y at. all_so p xs all y (filter_so keeps xs y at).0)

-- ---- numbers that rise

module _ {X : Type 0} (f : X → ℕ) where
  rises_above-filter : (keeps : X → Bool) (xs : List X) (bound low : ℕ) → low ≤ bound → rises_above bound (map f xs) ≡ true → rises_above low (map f (filter keeps xs)) ≡ true
  rises_above-filter keeps [] bound low le h = refl
  rises_above-filter keeps (x ∷ xs) bound low le h =
      let above : bound < f x = (Decides-ltb bound (f x)).0 (first (nat_lt bound (f x)) _ h) in
      let rest : rises_above (f x) (map f xs) ≡ true = second (nat_lt bound (f x)) _ h in
      let kept : rises_above (f x) (map f (filter keeps xs)) ≡ true = rises_above-filter keeps xs (f x) (f x) (omega arith) rest in
      let left : rises_above low (map f (filter keeps xs)) ≡ true = rises_above-filter keeps xs (f x) low (omega arith) rest in
      let lower : nat_lt low (f x) ≡ true = (Decides-ltb low (f x)).1 (omega arith) in
      elim (keeps x) as (λ b. rises_above low (map f (cond b (x ∷ filter keeps xs) (filter keeps xs))) ≡ true) [ true ↦ both lower kept | false ↦ left ]

  pub above-filter : (keeps : X → Bool) (xs : List X) (bound : ℕ) → rises_above bound (map f xs) ≡ true → rises_above bound (map f (filter keeps xs)) ≡ true
  above-filter keeps xs bound h = rises_above-filter keeps xs bound bound (omega arith) h

  rises_so : (bound : ℕ) (xs : List ℕ) → rises_above bound xs ≡ true → rises xs ≡ true
  rises_so bound [] h = refl
  rises_so bound (x ∷ xs) h = second (nat_lt bound x) _ h

  pub rises-filter : (keeps : X → Bool) (xs : List X) → rises (map f xs) ≡ true → rises (map f (filter keeps xs)) ≡ true
  rises-filter keeps [] h = refl
  rises-filter keeps (x ∷ xs) h =
      let kept : rises_above (f x) (map f (filter keeps xs)) ≡ true = above-filter keeps xs (f x) h in
      elim (keeps x) as (λ b. rises (map f (cond b (x ∷ filter keeps xs) (filter keeps xs))) ≡ true) [ true ↦ kept | false ↦ rises_so (f x) _ kept ]

  pub above-push : (xs : List X) (y : X) (bound : ℕ) → rises_above bound (map f xs) ≡ true → bound < f y → ((x : X) → In xs x → f x < f y) → rises_above bound (map f (xs ++ y ∷ [])) ≡ true
  above-push [] y bound h lt all = both ((Decides-ltb bound (f y)).1 lt) refl
  above-push (x ∷ xs) y bound h lt all = both (first (nat_lt bound (f x)) _ h) (above-push xs y (f x) (second (nat_lt bound (f x)) _ h) (all x (inl refl)) (λ z at. all z (inr at)))

  pub rises-push : (xs : List X) (y : X) → rises (map f xs) ≡ true → ((x : X) → In xs x → f x < f y) → rises (map f (xs ++ y ∷ [])) ≡ true
  rises-push [] y h all = refl
  rises-push (x ∷ xs) y h all = above-push xs y (f x) h (all x (inl refl)) (λ z at. all z (inr at))

  pub above_all : (xs : List X) (bound : ℕ) → rises_above bound (map f xs) ≡ true → (x : X) → In xs x → bound < f x
  above_all [] bound h x at = absurd at
  above_all (y ∷ ys) bound h x at =
      let head : bound < f y = (Decides-ltb bound (f y)).0 (first (nat_lt bound (f y)) _ h) in
      by_head head (above_all ys (f y) (second (nat_lt bound (f y)) _ h) x) at
    where
      by_head : bound < f y → (In ys x → f y < f x) → In (y ∷ ys) x → bound < f x
      by_head head rest (inl e) = subst (λ z. bound < f z) e head
      by_head head rest (inr at) = let later = rest at in omega arith

  -- no two elements have one number
  pub one_by : (xs : List X) (bound : ℕ) → rises_above bound (map f xs) ≡ true → (x y : X) → In xs x → In xs y → f x ≡ f y → x ≡ y
  one_by [] bound h x y inx iny same = absurd inx
  one_by (z ∷ zs) bound h x y inx iny same =
      let rest : rises_above (f z) (map f zs) ≡ true = second (nat_lt bound (f z)) _ h in
      by_heads (above_all zs (f z) rest) (λ inx iny. one_by zs (f z) rest x y inx iny same) inx iny
    where
      by_heads : ((w : X) → In zs w → f z < f w) → (In zs x → In zs y → x ≡ y) → In (z ∷ zs) x → In (z ∷ zs) y → x ≡ y
      by_heads above rest (inl ex) (inl ey) = sym ex ∙ ey
      by_heads above rest (inl ex) (inr iny) = let lt = above y iny in let here : f z ≡ f x = ap f ex in absurd (omega arith)
      by_heads above rest (inr inx) (inl ey) = let lt = above x inx in let here : f z ≡ f y = ap f ey in absurd (omega arith)
      by_heads above rest (inr inx) (inr iny) = rest inx iny

-- ---- different names

module _ {B : Type 0} where
  pub snapshot_so : (a b : Member B) → same_snapshot a b ≡ true → (a.directory ≡ b.directory) × (a.name ≡ b.name)
  snapshot_so a b h = (inode_so a.directory b.directory (first (same_inode a.directory b.directory) _ h), (bytes_eq-Decides a.name b.name).0 (second (same_inode a.directory b.directory) _ h))

  snapshot-test : (a b : Member B) → a.directory ≡ b.directory → a.name ≡ b.name → same_snapshot a b ≡ true
  snapshot-test a b d n = both (inode_test a.directory b.directory (ap (λ (id : InodeId). id.0) d)) ((bytes_eq-Decides a.name b.name).1 n)

  abbrev pub snapshot_of : Member B → ℕ
  snapshot_of member = member.snapshot.0

  -- one directory and one name are one snapshot's
  abbrev pub AreNamed : List (Member B) → Type 0
  AreNamed ms = (a b : Member B) → In ms a → In ms b → a.directory ≡ b.directory → a.name ≡ b.name → snapshot_of a ≡ snapshot_of b

  pub names_so : (ms : List (Member B)) → names_differ ms ≡ true → AreNamed ms
  names_so [] h a b ina inb d n = absurd ina
  names_so (m ∷ ms) h a b ina inb d n = by_heads (λ at bt. names_so ms (second (not (list_any (same_snapshot m) ms)) _ h) a b at bt d n) ina inb
    where
      fresh : (x : Member B) → In ms x → m.directory ≡ x.directory → m.name ≡ x.name → ⊥
      fresh x at dx nx = true_false (snapshot-test m x dx nx) (none_so (same_snapshot m) ms (not_so _ (first (not (list_any (same_snapshot m) ms)) _ h)) x at)

      by_heads : (In ms a → In ms b → snapshot_of a ≡ snapshot_of b) → In (m ∷ ms) a → In (m ∷ ms) b → snapshot_of a ≡ snapshot_of b
      by_heads rest (inl ea) (inl eb) = ap snapshot_of (sym ea ∙ eb)
      by_heads rest (inl ea) (inr bt) = absurd (fresh b bt (ap (λ (x : Member B). x.directory) ea ∙ d) (ap (λ (x : Member B). x.name) ea ∙ n))
      by_heads rest (inr at) (inl eb) = absurd (fresh a at (ap (λ (x : Member B). x.directory) eb ∙ sym d) (ap (λ (x : Member B). x.name) eb ∙ sym n))
      by_heads rest (inr at) (inr bt) = rest at bt

  pub names-from : (ms : List (Member B)) (bound : ℕ) → rises_above bound (map snapshot_of ms) ≡ true → AreNamed ms → names_differ ms ≡ true
  names-from [] bound h named = refl
  names-from (m ∷ ms) bound h named =
      let rest : rises_above (snapshot_of m) (map snapshot_of ms) ≡ true = second (nat_lt bound (snapshot_of m)) _ h in
      both
      (ap not (none_from (same_snapshot m) ms (λ b at. false_by _ (λ t.
      let w = snapshot_so m b t in
      let same = named m b (inl refl) (inr at) w.0 w.1 in
      let later = above_all snapshot_of ms (snapshot_of m) rest b at in
      absurd (omega arith)))))
      (names-from ms (snapshot_of m) rest (λ a b ina inb d n. named a b (inr ina) (inr inb) d n))

  -- ---- how many

  abbrev in_dir : InodeId → Member B → Bool
  in_dir dir member = same_inode member.directory dir

  abbrev counted : InodeId → Member B → ℕ
  counted dir member = cond (in_dir dir member) 1 0

  pub count-push : (ms : List (Member B)) (m : Member B) (dir : InodeId) → snapshots_of (ms ++ m ∷ []) dir ≡ snapshots_of ms dir + cond (same_inode m.directory dir) 1 0
  count-push ms m dir = sum_by_push (counted dir) ms m

  pub count-filter : (keeps : Member B → Bool) (ms : List (Member B)) (dir : InodeId) → snapshots_of (filter keeps ms) dir ≤ snapshots_of ms dir
  count-filter keeps [] dir = omega arith
  count-filter keeps (m ∷ ms) dir =
      let rest : snapshots_of (filter keeps ms) dir ≤ snapshots_of ms dir = count-filter keeps ms dir in
      let more : snapshots_of (m ∷ ms) dir ≡ counted dir m + snapshots_of ms dir = sum_by-cons (counted dir) m ms in
      let kept : snapshots_of (m ∷ filter keeps ms) dir ≡ counted dir m + snapshots_of (filter keeps ms) dir = sum_by-cons (counted dir) m (filter keeps ms) in
      elim (keeps m) as (λ b. snapshots_of (cond b (m ∷ filter keeps ms) (filter keeps ms)) dir ≤ snapshots_of (m ∷ ms) dir) [ true ↦ omega arith | false ↦ omega arith ]

  -- ---- a snapshot under another name

  pub same-but_name : {P : Type 0} (id : SnapId) (name : List ℕ) (member : Member B) → (is_snapshot id member ≡ true → rename_member id name member ≡ record member { name = name } → P) → (is_snapshot id member ≡ false → rename_member id name member ≡ member → P) → P
  same-but_name id name member this other = by_test (is_snapshot id member) (λ t. this t (ap (λ b. cond b (record member { name = name }) member) t)) (λ f. other f (ap (λ b. cond b (record member { name = name }) member) f))

  -- what doesn't see the name stays
  pub renamed-keeps : {X : Type 0} (see : Member B → X) (blind : (member : Member B) (name : List ℕ) → see (record member { name = name }) ≡ see member) (id : SnapId) (name : List ℕ) (member : Member B) → see (rename_member id name member) ≡ see member
  renamed-keeps see blind id name member = same-but_name id name member (λ t e. ap see e ∙ blind member name) (λ f e. ap see e)

  pub map-renamed : {X : Type 0} (see : Member B → X) (blind : (member : Member B) (name : List ℕ) → see (record member { name = name }) ≡ see member) (id : SnapId) (name : List ℕ) (ms : List (Member B)) → map see (map (rename_member id name) ms) ≡ map see ms
  map-renamed see blind id name [] = refl
  map-renamed see blind id name (m ∷ ms) = λ i. renamed-keeps see blind id name m i ∷ map-renamed see blind id name ms i

  pub all-renamed : (p : Member B → Bool) (blind : (member : Member B) (name : List ℕ) → p (record member { name = name }) ≡ p member) (id : SnapId) (name : List ℕ) (ms : List (Member B)) → list_all p ms ≡ true → list_all p (map (rename_member id name) ms) ≡ true
  all-renamed p blind id name ms all = all_from p (map (rename_member id name) ms) (λ x at. let w = map_so (rename_member id name) ms x at in ap p (sym w.2) ∙ renamed-keeps p blind id name w.0 ∙ all_so p ms all w.0 w.1)

  pub count-renamed : (id : SnapId) (name : List ℕ) (ms : List (Member B)) (dir : InodeId) → snapshots_of (map (rename_member id name) ms) dir ≡ snapshots_of ms dir
  count-renamed id name [] dir = refl
  count-renamed id name (m ∷ ms) dir =
      let was : snapshots_of (m ∷ ms) dir ≡ counted dir m + snapshots_of ms dir = sum_by-cons (counted dir) m ms in
      let now : snapshots_of (map (rename_member id name) (m ∷ ms)) dir ≡ counted dir (rename_member id name m) + snapshots_of (map (rename_member id name) ms) dir = sum_by-cons (counted dir) (rename_member id name m) (map (rename_member id name) ms) in
      let one : counted dir (rename_member id name m) ≡ counted dir m = renamed-keeps (counted dir) (λ _ _. refl) id name m in
      let rest : snapshots_of (map (rename_member id name) ms) dir ≡ snapshots_of ms dir = count-renamed id name ms dir in
      omega arith

-- What stands after the puts, and that each put is accepted.
use Rattle.std.specs.List.{AllByRecursion}
use Rattle.std.proofs.Common.{◌≡◌, ◌⊎◌, ℕ, Bool, true, false, ◌||◌, Option, Some, None, is_some, List, [], ◌∷◌, ◌++◌, refl, ap, sym, subst, ◌∙◌, append-nil}
use Rattle.hs_types.specs.Names.{Names}
use Rattle.hs_plain.specs.Plan.{rest_below}
use Rattle.plan_laws.specs.Sight.{Sight, hits, inside_or, moved_sight, at_top, made_sight, unless, cuts, Both, IsNotIn, Placing, Back, New, targets, puts_done, PutsGo, Differ, Ready, IsOther, NumberOnce, IsLinked, Stands, HasDirs}
use Rattle.plan_laws.proofs.Paths.{by_one, rest-here, rest-so, none-shorter, none-above, none-deeper, outside-none, outside-other, other-child, not-itself}
use Rattle.plan_laws.proofs.Alike.{both-at, alike-below, below-put}

none_here : {X : Type 0} (Alike : X → X → Type 0) (o : Option X) → Both Alike o None → o ≡ None
none_here Alike None h = refl
none_here Alike (Some a) h = absurd h

here_some : {X : Type 0} (Alike : X → X → Type 0) (o : Option X) (b : X) → Both Alike o (Some b) → (a : X) × (o ≡ Some a) × Alike a b
here_some Alike None b h = absurd h
here_some Alike (Some a) b h = (a, refl, h)

no-hits : (paths : List Names) (q r : Names) → AllByRecursion (λ path. rest_below path (q ++ r) ≡ None) paths → hits paths q ≡ false
no-hits [] q r none = refl
no-hits (a ∷ others) q r none = ap (λ o. is_some o || hits others q) (none-shorter a q r none.0) ∙ no-hits others q r none.1

module _ {X : Type 0} (Alike : X → X → Type 0) (from to : Sight X) (is_out is_put : Names → Bool) (differ : Differ Alike from to is_out is_put)
    (tmp : List ℕ) (number : ℕ → List ℕ) (once : (i j : ℕ) → number i ≡ number j → i ≡ j) where
  -- ---- what is put away stays until its put

  back-kept : (s : Sight X) (i j : ℕ) (t r : Names) → IsNotIn tmp t → (j ≡ i → ⊥) → moved_sight s (tmp ∷ number i ∷ []) t (tmp ∷ number j ∷ r) ≡ s (tmp ∷ number j ∷ r)
  back-kept s i j t r out other =
      ap (λ o. inside_or o (λ rest. s (tmp ∷ number i ∷ rest)) (inside_or (rest_below (tmp ∷ number i ∷ []) (tmp ∷ number j ∷ r)) (λ rest. None) (s (tmp ∷ number j ∷ r)))) (outside-other tmp t (number j ∷ r) out)
      ∙ ap (λ o. inside_or o (λ rest. None) (s (tmp ∷ number j ∷ r))) (other-child tmp (number i) (number j) r (λ e. other (sym (once i j e))))

  new-kept : (s : Sight X) (t : Names) (node : X) (q : Names) → IsNotIn tmp t → made_sight s t node (tmp ∷ q) ≡ s (tmp ∷ q)
  new-kept s t node q out = ap (λ o. inside_or o (at_top node (s (tmp ∷ q))) (s (tmp ∷ q))) (outside-other tmp t q out)

  pub puts-top : (puts : List (Placing X)) (s : Sight X) → AllByRecursion (IsNotIn tmp) (targets puts) → puts_done tmp number s puts (tmp ∷ []) ≡ s (tmp ∷ [])
  puts-top [] s out = refl
  puts-top (Back i above name ∷ puts) s out =
      puts-top puts (moved_sight s (tmp ∷ number i ∷ []) (above ++ name ∷ [])) out.1
      ∙ ap (λ o. inside_or o (λ rest. s (tmp ∷ number i ∷ rest)) (inside_or (rest_below (tmp ∷ number i ∷ []) (tmp ∷ [])) (λ rest. None) (s (tmp ∷ [])))) (outside-other tmp (above ++ name ∷ []) [] out.0)
      ∙ ap (λ o. inside_or o (λ rest. None) (s (tmp ∷ []))) (not-itself tmp (number i))
  puts-top (New node above name ∷ puts) s out = puts-top puts (made_sight s (above ++ name ∷ []) node) out.1 ∙ new-kept s (above ++ name ∷ []) node [] out.0

  abbrev Is : Sight X → Placing X → Type 0
  Is s put = Ready Alike from to is_out is_put tmp number s put

  ready-back : (s : Sight X) (i : ℕ) (t : Names) → IsNotIn tmp t → (put : Placing X) → IsOther i put → Is s put → Is (moved_sight s (tmp ∷ number i ∷ []) t) put
  ready-back s i t out (Back j above name) other is = (is.0, is.1, is.2, is.3, is.4, is.5, λ r. back-kept s i j t r out other ∙ is.6 r)
  ready-back s i t out (New node above name) other is = is

  ready-new : (s : Sight X) (t : Names) (node : X) → IsNotIn tmp t → (put : Placing X) → Is s put → Is (made_sight s t node) put
  ready-new s t node out (Back j above name) is = (is.0, is.1, is.2, is.3, is.4, is.5, λ r. new-kept s t node (number j ∷ r) out ∙ is.6 r)
  ready-new s t node out (New other above name) is = is

  all-ready-back : (s : Sight X) (i : ℕ) (t : Names) → IsNotIn tmp t → (puts : List (Placing X)) → AllByRecursion (IsOther i) puts → AllByRecursion (Is s) puts → AllByRecursion (Is (moved_sight s (tmp ∷ number i ∷ []) t)) puts
  all-ready-back s i t out [] others are = tt
  all-ready-back s i t out (put ∷ puts) others are = (ready-back s i t out put others.0 are.0, all-ready-back s i t out puts others.1 are.1)

  all-ready-new : (s : Sight X) (t : Names) (node : X) → IsNotIn tmp t → (puts : List (Placing X)) → AllByRecursion (Is s) puts → AllByRecursion (Is (made_sight s t node)) puts
  all-ready-new s t node out [] are = tt
  all-ready-new s t node out (put ∷ puts) are = (ready-new s t node out put are.0, all-ready-new s t node out puts are.1)

  -- ---- what stands outside of tmp after one put

  abbrev After : Sight X → List Names → Names → Type 0
  After s paths q = Both Alike (s q) (unless (hits paths q) (to q))

  -- elsewhere nothing changes
  apart-hits : (t : Names) (paths : List Names) (q : Names) → rest_below t q ≡ None → hits (t ∷ paths) q ≡ hits paths q
  apart-hits t paths q none = ap (λ o. is_some o || hits paths q) none

  back-stands : (s : Sight X) (i : ℕ) (t p : Names) (a b : X) (paths : List Names) → from p ≡ Some a → to t ≡ Some b → Alike a b →
      ((r : Names) → s (tmp ∷ number i ∷ r) ≡ unless (cuts (λ x. is_out (p ++ x)) r) (from (p ++ r))) →
      ((r : Names) → hits paths (t ++ r) ≡ cuts (λ x. is_put (t ++ x)) r) → Stands Alike to tmp s (t ∷ paths) → Stands Alike to tmp (moved_sight s (tmp ∷ number i ∷ []) t) paths
  back-stands s i t p a b paths here there alike held linked stands q out = by_one (rest_below t q)
      (λ r below. let is : q ≡ t ++ r = rest-so t q r below in
      both-at Alike
      (ap (λ o. inside_or o (λ rest. s (tmp ∷ number i ∷ rest)) (inside_or (rest_below (tmp ∷ number i ∷ []) q) (λ rest. None) (s q))) below ∙ held r)
      (ap (λ (x : Names). unless (hits paths x) (to x)) is ∙ ap (λ c. unless c (to (t ++ r))) (linked r))
      (alike-below Alike from to is_out is_put differ r p t a b here there alike))
      (λ apart. both-at Alike
      (ap (λ o. inside_or o (λ rest. s (tmp ∷ number i ∷ rest)) (inside_or (rest_below (tmp ∷ number i ∷ []) q) (λ rest. None) (s q))) apart
      ∙ ap (λ o. inside_or o (λ rest. None) (s q)) (none-deeper tmp (number i ∷ []) q out))
      (ap (λ c. unless c (to q)) (sym (apart-hits t paths q apart)))
      (stands q out))

  new-below : (s : Sight X) (t : Names) (node : X) (paths : List Names) (q r : Names) → rest_below t q ≡ Some r → q ≡ t ++ r → rest_below (tmp ∷ []) q ≡ None → to t ≡ Some node → Alike node node →
      ((n : List ℕ) → to (t ++ n ∷ []) ≡ None ⊎ is_put (t ++ n ∷ []) ≡ true) →
      ((r : Names) → hits paths (t ++ r) ≡ cuts (λ x. is_put (t ++ x)) r) → Stands Alike to tmp s (t ∷ paths) → Both Alike (at_top node (s q) r) (unless (hits paths q) (to q))
  new-below s t node paths q [] below is out there alike empty linked stands =
      both-at Alike {o = Some node} {u = Some node} refl (ap (λ (x : Names). unless (hits paths x) (to x)) is ∙ ap (λ c. unless c (to (t ++ []))) (linked []) ∙ ap to (append-nil t) ∙ there) alike
  new-below s t node paths q (n ∷ r) below is out there alike empty linked stands =
      both-at Alike
      (none_here Alike (s q) (subst (λ c. Both Alike (s q) (unless c (to q))) (ap (λ o. is_some o || hits paths q) below) (stands q out)))
      (ap (λ (x : Names). unless (hits paths x) (to x)) is ∙ ap (λ c. unless c (to (t ++ n ∷ r))) (linked (n ∷ r)) ∙ below-put Alike from to is_out is_put differ t n r (empty n))
      tt

  new-stands : (s : Sight X) (t : Names) (node : X) (paths : List Names) → to t ≡ Some node → Alike node node → ((n : List ℕ) → to (t ++ n ∷ []) ≡ None ⊎ is_put (t ++ n ∷ []) ≡ true) →
      ((r : Names) → hits paths (t ++ r) ≡ cuts (λ x. is_put (t ++ x)) r) → Stands Alike to tmp s (t ∷ paths) → Stands Alike to tmp (made_sight s t node) paths
  new-stands s t node paths there alike empty linked stands q out = by_one (rest_below t q)
      (λ r below. both-at Alike {v = unless (hits paths q) (to q)} {w = unless (hits paths q) (to q)} (ap (λ o. inside_or o (at_top node (s q)) (s q)) below) refl
      (new-below s t node paths q r below (rest-so t q r below) out there alike empty linked stands))
      (λ apart. both-at Alike (ap (λ o. inside_or o (at_top node (s q)) (s q)) apart) (ap (λ c. unless c (to q)) (sym (apart-hits t paths q apart))) (stands q out))

  -- ---- all puts

  pub puts-stand : (puts : List (Placing X)) (s : Sight X) → AllByRecursion (IsNotIn tmp) (targets puts) → NumberOnce puts → IsLinked is_put puts → AllByRecursion (Is s) puts → Stands Alike to tmp s (targets puts) →
      Stands Alike to tmp (puts_done tmp number s puts) []
  puts-stand [] s out once linked are stands = stands
  puts-stand (Back i above name ∷ puts) s out once linked are stands =
      puts-stand puts (moved_sight s (tmp ∷ number i ∷ []) (above ++ name ∷ [])) out.1 once.1 linked.2
      (all-ready-back s i (above ++ name ∷ []) out.0 puts once.0 are.1)
      (back-stands s i (above ++ name ∷ []) are.0.0 are.0.1 are.0.2 (targets puts) are.0.3 are.0.4 are.0.5 are.0.6 linked.1 stands)
  puts-stand (New node above name ∷ puts) s out once linked are stands =
      puts-stand puts (made_sight s (above ++ name ∷ []) node) out.1 once linked.2
      (all-ready-new s (above ++ name ∷ []) node out.0 puts are.1)
      (new-stands s (above ++ name ∷ []) node (targets puts) are.0.0 are.0.1 are.0.2 linked.1 stands)

  -- ---- each put is accepted

  module _ (is_dir : X → Bool) (kinds : (a b : X) → Alike a b → is_dir a ≡ is_dir b) (dirs : HasDirs is_dir to) where
    above-outside : (above : Names) (name : List ℕ) → IsNotIn tmp (above ++ name ∷ []) → rest_below (tmp ∷ []) above ≡ None
    above-outside above name out = none-shorter (tmp ∷ []) above (name ∷ []) (ap (rest_below (tmp ∷ [])) (sym (append-nil (above ++ name ∷ []))) ∙ outside-none tmp [] (above ++ name ∷ []) [] out)

    dir-above : (s : Sight X) (above : Names) (name : List ℕ) (paths : List Names) (b : X) → IsNotIn tmp (above ++ name ∷ []) → to (above ++ name ∷ []) ≡ Some b →
        AllByRecursion (λ later. rest_below later (above ++ name ∷ []) ≡ None) paths → Stands Alike to tmp s ((above ++ name ∷ []) ∷ paths) → (node : X) × (s above ≡ Some node) × (is_dir node ≡ true)
    dir-above s above name paths b out there apart stands =
        let d : (dir : X) × (to above ≡ Some dir) × (is_dir dir ≡ true) = dirs above name b there in
        let clear : hits ((above ++ name ∷ []) ∷ paths) above ≡ false = ap (λ o. is_some o || hits paths above) (none-above above name) ∙ no-hits paths above (name ∷ []) apart in
        let found : (a : X) × (s above ≡ Some a) × Alike a d.0 = here_some Alike (s above) d.0 (both-at Alike {o = s above} {u = s above} refl (sym (ap (λ c. unless c (to above)) clear ∙ d.1)) (stands above (above-outside above name out))) in
        (found.0, found.1, kinds found.0 d.0 found.2 ∙ d.2)

    free-at : (s : Sight X) (t : Names) (paths : List Names) → IsNotIn tmp t → Stands Alike to tmp s (t ∷ paths) → s t ≡ None
    free-at s t paths out stands = none_here Alike (s t)
        (subst (λ c. Both Alike (s t) (unless c (to t))) (ap (λ (x : Names). is_some (rest_below t x) || hits paths t) (sym (append-nil t)) ∙ ap (λ o. is_some o || hits paths t) (rest-here t []))
        (stands t (ap (rest_below (tmp ∷ [])) (sym (append-nil t)) ∙ outside-none tmp [] t [] out)))

    pub puts-go : (puts : List (Placing X)) (s : Sight X) → AllByRecursion (IsNotIn tmp) (targets puts) → NumberOnce puts → IsLinked is_put puts → AllByRecursion (Is s) puts → Stands Alike to tmp s (targets puts) →
        PutsGo is_dir tmp number s puts
    puts-go [] s out once linked are stands = tt
    puts-go (Back i above name ∷ puts) s out once linked are stands = (
      record {
        there = ap is_some (are.0.6 [] ∙ ap from (append-nil are.0.0) ∙ are.0.3);
        above_dir = dir-above s above name (targets puts) are.0.2 out.0 are.0.4 linked.0 stands;
        free = free-at s (above ++ name ∷ []) (targets puts) out.0 stands;
      },
      puts-go puts (moved_sight s (tmp ∷ number i ∷ []) (above ++ name ∷ [])) out.1 once.1 linked.2
          (all-ready-back s i (above ++ name ∷ []) out.0 puts once.0 are.1)
          (back-stands s i (above ++ name ∷ []) are.0.0 are.0.1 are.0.2 (targets puts) are.0.3 are.0.4 are.0.5 are.0.6 linked.1 stands),
    )
    puts-go (New node above name ∷ puts) s out once linked are stands = (
      record {
        above_dir = dir-above s above name (targets puts) node out.0 are.0.0 linked.0 stands;
        free = free-at s (above ++ name ∷ []) (targets puts) out.0 stands;
      },
      puts-go puts (made_sight s (above ++ name ∷ []) node) out.1 once linked.2
          (all-ready-new s (above ++ name ∷ []) node out.0 puts are.1)
          (new-stands s (above ++ name ∷ []) node (targets puts) are.0.0 are.0.1 are.0.2 linked.1 stands),
    )

-- A walk up is a chain while it comes to no row twice.
use Rattle.std.proofs.Common.{◌≡◌, ℕ, ◌+◌, ◌≤◌, true, false, List, [], ◌∷◌, ◌++◌, Some, refl, sym, ap, subst, ◌∙◌, length, length-append, arith}
use Rattle.std.specs.Prelude.{◌||◌}
use Rattle.std.specs.List.{list_any, IsDistinct}
use Rattle.std.specs.Cmp.{IsEquivalence}
use Rattle.std.proofs.lemmas.Map.Keys.{IsDistinct-push}
use Rattle.hs_types.specs.declared.ids.InodeId.{InodeId}
use Rattle.hs_types.specs.declared.name.Spot.{Spot}
use Rattle.hs_plain.specs.Tree.{same_inode}
use Rattle.hs_plain.proofs.ValidMembers.{inode_so, inode_test}
use Rattle.dir_changes.specs.Entries.{id_at}
use Rattle.inode_table.specs.Reads.{Shown}
use Rattle.inode_table.specs.WayUp.{LeadsUp}
use Rattle.report_laws.specs.Chains.{HasChainsWithin, is_seen, Climbs, IsWithin}
use Rattle.report_laws.proofs.Counting.{both_ways}

same_test : (a b : InodeId) → a ≡ b → same_inode a b ≡ true
same_test a b e = inode_test a b (ap (λ (x : InodeId). x.0) e)

flip : (a b : InodeId) → same_inode a b ≡ same_inode b a
flip a b = both_ways (same_inode a b) (same_inode b a) (λ h. same_test b a (sym (inode_so a b h))) (λ h. same_test a b (sym (inode_so b a h)))

pub ids_equiv : IsEquivalence same_inode
ids_equiv = record {
  refl = λ a. inode_test a a refl;
  symm = flip;
  congr = λ a b c h. ap (λ (x : InodeId). same_inode x c) (inode_so a b h);
}

seen-flip : (id : InodeId) (seen : List InodeId) → list_any (same_inode id) seen ≡ is_seen id seen
seen-flip id [] = refl
seen-flip id (x ∷ seen) = λ i. flip id x i || seen-flip id seen i

none_once : IsDistinct same_inode []
unfolding IsDistinct
none_once = tt

one_once : (id : InodeId) → IsDistinct same_inode (id ∷ [])
unfolding IsDistinct
one_once id = (tt, tt)

module _ {B : Type 0} (shown : Shown B) where
  pub climb-begins : (id : InodeId) → Climbs shown id [] id
  climb-begins id = record { chain = []; rows = refl; leads = tt; once = none_once }

  -- ---- one row more

  tails : {x y : InodeId} {xs ys : List InodeId} → x ∷ xs ≡ y ∷ ys → xs ≡ ys
  tails h = cc

  heads : {x y : InodeId} {xs ys : List InodeId} → x ∷ xs ≡ y ∷ ys → x ≡ y
  heads h = cc

  leads-more : (id here : InodeId) (chain front : List InodeId) (spot : Spot) → front ++ here ∷ [] ≡ id ∷ chain → LeadsUp shown id chain
      → shown.spot here ≡ Some spot → id_at spot.name (shown.entries spot.parent) ≡ Some here → LeadsUp shown id (chain ++ spot.parent ∷ [])
  leads-more id here [] [] spot rows leads is listed = let same : here ≡ id = heads rows in
      (spot.name, ap shown.spot (sym same) ∙ is, listed ∙ ap (λ (x : InodeId). Some x) same, tt)
  leads-more id here [] (y ∷ front) spot rows leads is listed = absurd (too_long front (tails rows))
    where
      too_long : (front : List InodeId) → front ++ here ∷ [] ≡ [] → ⊥
      too_long [] e = cc
      too_long (z ∷ front) e = cc
  leads-more id here (p ∷ chain) [] spot rows leads is listed = absurd (no_more (tails rows))
    where
      no_more : [] ≡ p ∷ chain → ⊥
      no_more e = cc
  leads-more id here (p ∷ chain) (y ∷ front) spot rows leads is listed =
      (leads.0, leads.1, leads.2, leads-more p here chain front spot (tails rows) leads.3 is listed)

  pub climb-goes_on : (id here : InodeId) (seen : List InodeId) (spot : Spot) → Climbs shown id seen here → is_seen here seen ≡ false
      → shown.spot here ≡ Some spot → id_at spot.name (shown.entries spot.parent) ≡ Some here → Climbs shown id (seen ++ here ∷ []) spot.parent
  climb-goes_on id here seen spot c new is listed = record {
    chain = c.chain ++ spot.parent ∷ [];
    rows = ap (λ (l : List InodeId). l ++ spot.parent ∷ []) c.rows;
    leads = leads-more id here c.chain seen spot c.rows c.leads is listed;
    once = IsDistinct-push ids_equiv seen here c.once (seen-flip here seen ∙ new);
  }

  -- ---- how many

  leads-front : (id here : InodeId) (front : List InodeId) → LeadsUp shown id (front ++ here ∷ []) → LeadsUp shown id front
  leads-front id here [] leads = tt
  leads-front id here (p ∷ front) leads = (leads.0, leads.1, leads.2, leads-front p here front leads.3)

  rows_within : (id here : InodeId) (seen : List InodeId) (h : ℕ) → Climbs shown id seen here → HasChainsWithin shown h → length seen ≤ h
  rows_within id here [] h c within = omega arith
  rows_within id here (x ∷ seen) h c within =
      let first : x ≡ id = heads c.rows in
      let front : LeadsUp shown id seen = leads-front id here seen (subst (LeadsUp shown id) (sym (tails c.rows)) c.leads) in
      within id seen (record { leads = front; once = subst (λ (y : InodeId). IsDistinct same_inode (y ∷ seen)) first c.once })

  pub climb-within : (id here : InodeId) (seen : List InodeId) (h : ℕ) → Climbs shown id seen here → HasChainsWithin shown h → IsWithin seen here h
  climb-within id here seen h c within = record {
    rows = rows_within id here seen h c within;
    more = λ new.
        let most = within id c.chain (record { leads = c.leads; once = subst (IsDistinct same_inode) c.rows (IsDistinct-push ids_equiv seen here c.once (seen-flip here seen ∙ new)) }) in
        let same = ap (λ (l : List InodeId). length l) c.rows in
        let long : length (seen ++ here ∷ []) ≡ length seen + 1 = length-append seen (here ∷ []) in
        omega (arith, most, same, long);
  }

  pub chain-has_row : (h : ℕ) → HasChainsWithin shown h → 1 ≤ h
  chain-has_row h within = within (record { 0 = 0 }) [] (record { leads = tt; once = one_once (record { 0 = 0 }) })

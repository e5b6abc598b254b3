-- The first bad text of two lists, one after the other.
use Rattle.std.proofs.Common.{◌≡◌, ℕ, Option, Some, None, Result, Err, IfErr, List, [], ◌∷◌, ◌++◌, refl, ap, sym, subst, ◌∙◌}
use Rattle.distcp_plan.specs.Limits.{or_else, first_bad, IsPlanFault}
use Rattle.distcp_plan.specs.declared.planning.PlanFault.{PlanFault}
use Rattle.distcp_plan.specs.declared.planning.PlanFault.TheVariants.{NoMemory, PathLimit}
use Rattle.hs_plain.specs.Plan.{bad_path}
use Rattle.hs_types.specs.Paths.{path_of}

assoc : (a b c : Option (List ℕ)) → or_else (or_else a b) c ≡ or_else a (or_else b c)
assoc None b c = refl
assoc (Some x) b c = refl

pub first_bad-append : (xs ys : List (List ℕ)) → first_bad (xs ++ ys) ≡ or_else (first_bad xs) (first_bad ys)
first_bad-append [] ys = refl
first_bad-append (x ∷ xs) ys = ap (or_else (bad_path x (path_of x))) (first_bad-append xs ys) ∙ sym (assoc (bad_path x (path_of x)) (first_bad xs) (first_bad ys))

pub none-first : (xs ys : List (List ℕ)) → first_bad xs ≡ None → first_bad (xs ++ ys) ≡ first_bad ys
none-first xs ys e = first_bad-append xs ys ∙ ap (λ o. or_else o (first_bad ys)) e

pub some-first : (xs ys : List (List ℕ)) (text : List ℕ) → first_bad xs ≡ Some text → first_bad (xs ++ ys) ≡ Some text
some-first xs ys text e = first_bad-append xs ys ∙ ap (λ o. or_else o (first_bad ys)) e

pub fault-first : (xs ys : List (List ℕ)) (fault : PlanFault) → IsPlanFault (first_bad xs) fault → IsPlanFault (first_bad (xs ++ ys)) fault
fault-first xs ys NoMemory h = tt
fault-first xs ys (PathLimit path) h = some-first xs ys path h

pub fault-behind : (xs ys : List (List ℕ)) (fault : PlanFault) → first_bad xs ≡ None → IsPlanFault (first_bad ys) fault → IsPlanFault (first_bad (xs ++ ys)) fault
fault-behind xs ys fault none h = subst (λ o. IsPlanFault o fault) (sym (none-first xs ys none)) h

-- a fault that is handed on
pub passed-on : {T : Type 0} (result : Result T PlanFault) (told fault : PlanFault) (bad : Option (List ℕ)) → result ≡ Err told → told ≡ fault → IsPlanFault bad fault → IfErr result (IsPlanFault bad)
passed-on result told fault bad e f h = subst (λ r. IfErr r (IsPlanFault bad)) (sym (e ∙ ap Err f)) h

-- ---- the parts of a plan's texts: one, outs, puts, copies, and the one again

module _ (one : List ℕ) (outs puts copies : List (List ℕ)) where
  abbrev whole : List (List ℕ)
  whole = one ∷ outs ++ (puts ++ (copies ++ one ∷ []))

  abbrev None-in : List (List ℕ) → Type 0
  None-in texts = first_bad texts ≡ None

  pub in-outs : (fault : PlanFault) → None-in (one ∷ []) → IsPlanFault (first_bad outs) fault → IsPlanFault (first_bad whole) fault
  in-outs fault a h = fault-behind (one ∷ []) (outs ++ (puts ++ (copies ++ one ∷ []))) fault a (fault-first outs (puts ++ (copies ++ one ∷ [])) fault h)

  pub in-puts : (fault : PlanFault) → None-in (one ∷ []) → None-in outs → IsPlanFault (first_bad puts) fault → IsPlanFault (first_bad whole) fault
  in-puts fault a b h = fault-behind (one ∷ []) (outs ++ (puts ++ (copies ++ one ∷ []))) fault a (fault-behind outs (puts ++ (copies ++ one ∷ [])) fault b (fault-first puts (copies ++ one ∷ []) fault h))

  pub in-copies : (fault : PlanFault) → None-in (one ∷ []) → None-in outs → None-in puts → IsPlanFault (first_bad copies) fault → IsPlanFault (first_bad whole) fault
  in-copies fault a b d h = fault-behind (one ∷ []) (outs ++ (puts ++ (copies ++ one ∷ []))) fault a (fault-behind outs (puts ++ (copies ++ one ∷ [])) fault b (fault-behind puts (copies ++ one ∷ []) fault d (fault-first copies (one ∷ []) fault h)))

  pub in-none : None-in (one ∷ []) → None-in outs → None-in puts → None-in copies → None-in whole
  in-none a b d e = none-first (one ∷ []) (outs ++ (puts ++ (copies ++ one ∷ []))) a ∙ none-first outs (puts ++ (copies ++ one ∷ [])) b ∙ none-first puts (copies ++ one ∷ []) d ∙ none-first copies (one ∷ []) e ∙ a

-- Calls that a link made, which all were done but maybe the last, and how far they are those that were planned.
use Rattle.std.proofs.Common.{◌≡◌, Bool, Option, None, List, [], ◌++◌, refl, ap, sym, ◌∙◌, subst, append_assoc, append-nil}
use Rattle.std.specs.Option.{option_to_list}
use Rattle.std.specs.List.{filter_map, AllByRecursion}
use Rattle.std.proofs.lemmas.List.{map-append}
use Rattle.std.proofs.lemmas.List.Elements.{filter_map-append}
use Rattle.hs_types.specs.declared.ids.CallerId.{CallerId}
use Rattle.hs_types.specs.declared.call.Call.{Call}
use Rattle.hs_plain.specs.Legal.{Said}
use Rattle.hs_plain.specs.Plan.{IsFront}
use Rattle.plan_laws.proofs.Lists.{each-append}
use Rattle.page_join.specs.Links.{Known}
use Rattle.page_join.specs.Made.{AreMade}
use Rattle.page_join.proofs.Chains.{made_then}
use Rattle.copy_workers.specs.declared.copied.Made.{Made}
use Rattle.copy_workers.specs.Calls.{made_by}
use Rattle.copy_workers.specs.CopyLaws.{IsDone, calls_of, claimed_call, claimed_calls}
use Rattle.copy_workers.proofs.Calling.{made_caller}

-- all planned calls were made and done, and their entries are named; what they claim holds under a premise
pub record WroteAll (If : Type 0) (tells : Bool) (planned : List Call) (old new : Known) (made : List Made) : Type 0 where
  pub done : List Said
  pub wrote : AreMade old new done
  pub well : AllByRecursion IsDone done
  pub named : made ≡ filter_map (made_by old.caller) done
  pub wants : If → claimed_calls tells (calls_of done) ≡ claimed_calls tells planned

-- the first of them were made, and all were done but maybe the last
pub record Wrote (If : Type 0) (tells : Bool) (planned : List Call) (old new : Known) (made : List Made) (failed : Option Said) : Type 0 where
  pub done : List Said
  pub wrote : AreMade old new (done ++ option_to_list failed)
  pub well : AllByRecursion IsDone done
  pub named : made ≡ filter_map (made_by old.caller) (done ++ option_to_list failed)
  pub wants : If → IsFront (claimed_calls tells (calls_of (done ++ option_to_list failed))) (claimed_calls tells planned)

pub claimed-append : (tells : Bool) (xs ys : List Said) → claimed_calls tells (calls_of (xs ++ ys)) ≡ claimed_calls tells (calls_of xs) ++ claimed_calls tells (calls_of ys)
claimed-append tells xs ys = ap (claimed_calls tells) (map-append (λ (said : Said). said.call) xs ys) ∙ map-append (claimed_call tells) (calls_of xs) (calls_of ys)

pub plans-append : (tells : Bool) (xs ys : List Call) → claimed_calls tells (xs ++ ys) ≡ claimed_calls tells xs ++ claimed_calls tells ys
plans-append tells xs ys = map-append (claimed_call tells) xs ys

named_both : (old now : Known) (a b : List Made) (xs ys : List Said) → now.caller ≡ old.caller → a ≡ filter_map (made_by old.caller) xs → b ≡ filter_map (made_by now.caller) ys → a ++ b ≡ filter_map (made_by old.caller) (xs ++ ys)
named_both old now a b xs ys same one two =
    ap (λ (l : List Made). l ++ b) one
    ∙ (ap (λ (l : List Made). filter_map (made_by old.caller) xs ++ l) (two ∙ ap (λ (c : CallerId). filter_map (made_by c) ys) same)
    ∙ sym (filter_map-append (made_by old.caller) xs ys))

-- a front behind what stands before both
front_behind : {A : Type 0} (before front whole : List A) → IsFront front whole → IsFront (before ++ front) (before ++ whole)
front_behind before front whole is = record { rest = is.rest; all = append_assoc before front is.rest ∙ ap (λ l. before ++ l) is.all }

-- no call of none was made
pub wrote_none : (If : Type 0) (tells : Bool) (old : Known) → WroteAll If tells [] old old []
wrote_none If tells old = record { done = []; wrote = refl; well = tt; named = refl; wants = λ h. refl }

module _ (If : Type 0) (tells : Bool) (planned further : List Call) (old now new : Known) (made more : List Made) where
  -- all calls of one plan, and then all of another
  pub all_then : WroteAll If tells planned old now made → WroteAll If tells further now new more → WroteAll If tells (planned ++ further) old new (made ++ more)
  all_then one two = record {
    done = one.done ++ two.done;
    wrote = made_then old now new one.done two.done one.wrote two.wrote;
    well = each-append IsDone one.done two.done one.well two.well;
    named = named_both old now made more one.done two.done (made_caller old now one.done one.wrote) one.named two.named;
    wants = λ h.
        claimed-append tells one.done two.done
        ∙ (ap (λ (l : List Call). l ++ claimed_calls tells (calls_of two.done)) (one.wants h) ∙ (ap (λ (l : List Call). claimed_calls tells planned ++ l) (two.wants h) ∙ sym (plans-append tells planned further)));
  }

  -- all calls of one plan, and then some of another
  pub some_then : (failed : Option Said) → WroteAll If tells planned old now made → Wrote If tells further now new more failed → Wrote If tells (planned ++ further) old new (made ++ more) failed
  some_then failed one two =
      let tail : List Said = two.done ++ option_to_list failed in
      let same : one.done ++ tail ≡ (one.done ++ two.done) ++ option_to_list failed = sym (append_assoc one.done two.done (option_to_list failed)) in
      record {
        done = one.done ++ two.done;
        wrote = subst (AreMade old new) same (made_then old now new one.done tail one.wrote two.wrote);
        well = each-append IsDone one.done two.done one.well two.well;
        named = named_both old now made more one.done tail (made_caller old now one.done one.wrote) one.named two.named ∙ ap (filter_map (made_by old.caller)) same;
        wants = λ h.
            subst (λ (l : List Said). IsFront (claimed_calls tells (calls_of l)) (claimed_calls tells (planned ++ further))) same
            (subst (λ (l : List Call). IsFront l (claimed_calls tells (planned ++ further))) (ap (λ (l : List Call). l ++ claimed_calls tells (calls_of tail)) (sym (one.wants h)) ∙ sym (claimed-append tells one.done tail))
            (subst (λ (l : List Call). IsFront (claimed_calls tells planned ++ claimed_calls tells (calls_of tail)) l) (sym (plans-append tells planned further))
            (front_behind (claimed_calls tells planned) (claimed_calls tells (calls_of tail)) (claimed_calls tells further) (two.wants h))));
      }

-- nothing of further calls
pub all_some : (If : Type 0) (tells : Bool) (planned further : List Call) (old new : Known) (made : List Made) → WroteAll If tells planned old new made → Wrote If tells (planned ++ further) old new made None
all_some If tells planned further old new made one =
    let same : one.done ≡ one.done ++ [] = sym (append-nil one.done) in
    record {
      done = one.done;
      wrote = subst (AreMade old new) same one.wrote;
      well = one.well;
      named = one.named ∙ ap (filter_map (made_by old.caller)) same;
      wants = λ h. record {
        rest = claimed_calls tells further;
        all = ap (λ (l : List Said). claimed_calls tells (calls_of l) ++ claimed_calls tells further) (sym same) ∙ (ap (λ (l : List Call). l ++ claimed_calls tells further) (one.wants h) ∙ sym (plans-append tells planned further));
      };
    }

-- the first of more calls
pub some_more : (If : Type 0) (tells : Bool) (planned further : List Call) (old new : Known) (made : List Made) (failed : Option Said) → Wrote If tells planned old new made failed → Wrote If tells (planned ++ further) old new made failed
some_more If tells planned further old new made failed one = record {
  done = one.done;
  wrote = one.wrote;
  well = one.well;
  named = one.named;
  wants = λ h. record {
    rest = (one.wants h).rest ++ claimed_calls tells further;
    all =
        sym (append_assoc (claimed_calls tells (calls_of (one.done ++ option_to_list failed))) (one.wants h).rest (claimed_calls tells further))
        ∙ (ap (λ (l : List Call). l ++ claimed_calls tells further) (one.wants h).all ∙ sym (plans-append tells planned further));
  };
}

-- under another premise
pub all_if : (If Then : Type 0) (tells : Bool) (planned : List Call) (old new : Known) (made : List Made) → (Then → If) → WroteAll If tells planned old new made → WroteAll Then tells planned old new made
all_if If Then tells planned old new made leads one = record { done = one.done; wrote = one.wrote; well = one.well; named = one.named; wants = λ h. one.wants (leads h) }

pub some_if : (If Then : Type 0) (tells : Bool) (planned : List Call) (old new : Known) (made : List Made) (failed : Option Said) → (Then → If) → Wrote If tells planned old new made failed → Wrote Then tells planned old new made failed
some_if If Then tells planned old new made failed leads one = record { done = one.done; wrote = one.wrote; well = one.well; named = one.named; wants = λ h. one.wants (leads h) }

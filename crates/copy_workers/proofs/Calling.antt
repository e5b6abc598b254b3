-- One call of a link: its caller, and the entry that it names.
use Rattle.std.proofs.Common.{◌≡◌, Bool, true, false, ◌&&◌, Option, Some, None, Err, List, [], ◌∷◌, ◌++◌, if◌then◌else◌, refl, ap, sym, ◌∙◌, append-nil}
use Rattle.std.specs.Option.{option_to_list}
use Rattle.hs_types.specs.declared.ids.CallerId.{CallerId}
use Rattle.hs_types.specs.declared.ids.Side.TheVariants.{Target}
use Rattle.hs_types.specs.declared.call.Call.{Call}
use Rattle.hs_types.specs.declared.reply.Answered.{Answered}
use Rattle.hs_plain.specs.Answer.{is_modifying, is_ok_reply}
use Rattle.hs_plain.specs.Legal.{Said, leaves_entry}
use Rattle.page_join.specs.Links.{Known, IsCall, said_by}
use Rattle.page_join.specs.Made.{AreMade}
use Rattle.copy_workers.specs.declared.copied.Made.{Made}
use Rattle.copy_workers.specs.Calls.{made_by, unless_back, named_by, look_at, wanting_of, IsWrite, by_reply, by_memory, IsChange}

-- a call keeps its link's caller
pub call_caller : (old new : Known) (call : Call) (told : Answered) → IsCall old new call told → new.caller ≡ old.caller
call_caller old new call told called = ap (λ (k : Known). k.caller) called.same

pub made_caller : (old new : Known) (calls : List Said) → AreMade old new calls → new.caller ≡ old.caller
made_caller old new [] made = ap (λ (k : Known). k.caller) made
made_caller old new (said ∷ more) made = made_caller made.0 new more made.3 ∙ call_caller old made.0 said.call said.told made.1

-- ---- what a call names

by_back : (made : Made) (call : Call) (left : Bool) (back : Option Call) → (left ≡ true → back ≡ None) → (left ≡ false → back ≡ Some call) → unless_back made back ≡ (if left then Some made else None)
by_back made call true None kept back = refl
by_back made call true (Some other) kept back = absurd (none_some other (kept refl))
  where
    none_some : (other : Call) → Some other ≡ None → ⊥
    none_some other e = cc
by_back made call false None kept back = absurd (some_none (back refl))
  where
    some_none : None ≡ Some call → ⊥
    some_none e = cc
by_back made call false (Some other) kept back = refl

-- a call is handed back exactly where it left no entry
pub names_left : (old new : Known) (call : Call) (told : Answered) → IsCall old new call told → named_by new told ≡ made_by old.caller (said_by new call told)
names_left old new call told called =
    by_back (record { caller = new.caller; seq = new.calls; position = told.position }) call (leaves_entry call told.reply) told.back called.legal.kept called.legal.handed_back
    ∙ ap (λ (caller : CallerId). made_by caller (said_by new call told)) (call_caller old new call told called)

pub is_write : (old new : Known) (call : Call) (before after : List Made) (told : Answered) → IsCall old new call told → after ≡ before ++ option_to_list (named_by new told) → IsWrite old new call before after told
is_write old new call before after told called named = record {
  called = called;
  named = named ∙ ap (λ (o : Option Made). before ++ option_to_list o) (names_left old new call told called);
}

-- ---- how a call ends the work

pub and_false : (b : Bool) → (b && false) ≡ false
and_false true = refl
and_false false = refl

-- a reply that isn't an Ok reply ends it
pub refused_write : (old new : Known) (call : Call) (before after : List Made) (told : Answered) → is_ok_reply told.reply ≡ false → IsWrite old new call before after told → IsChange old new call before after (Err (look_at Target old.caller told))
refused_write old new call before after told isnt write = (by_reply refl isnt write.called, write.named)

pub none_named : (left : Bool) → left ≡ false → (made : Made) → option_to_list (if left then Some made else None) ≡ []
none_named true e made = absurd (cc)
none_named false e made = refl

-- and so does want of memory before it
pub wanted_write : (old new : Known) (call : Call) (before after : List Made) → new ≡ old → after ≡ before → IsChange old new call before after (Err (wanting_of Target old.caller))
wanted_write old new call before after same none = (
  by_memory refl same,
  none ∙ sym (append-nil before) ∙ ap (λ (l : List Made). before ++ l) (sym (none_named (is_modifying call && false) (and_false (is_modifying call)) (record { caller = old.caller; seq = new.calls; position = 0 }))),
)

-- A call that a link made between its first and its last of a run, in the journals around the run.
use Rattle.std.proofs.Common.{◌≡◌, ℕ, ◌+◌, ◌≤◌, Bool, true, false, ◌==◌, ◌||◌, if◌then◌else◌, List, [], ◌∷◌, ◌++◌, length, refl, ap, sym, ◌∙◌, subst, length-append, arith}
use Rattle.std.proofs.lemmas.Bool.Decides.{nat_tests}
use mathlib.Core.List.{IsPrefix}
use Rattle.hs_types.specs.declared.ids.CallerId.{CallerId}
use Rattle.hs_types.specs.declared.ids.Side.{Side}
use Rattle.hs_types.specs.declared.call.Call.{Call}
use Rattle.hs_types.specs.declared.journal.Entry.{Entry}
use Rattle.hs_types.specs.declared.reply.Answered.{Answered}
use Rattle.hs_plain.specs.Legal.{Said, IsLegalCall, leaves_entry}
use Rattle.hs_plain.specs.Premises.{SyncSide}
use Rattle.hs_plain.specs.Span.{is_one_of}
use Rattle.page_join.specs.Links.{Known, IsCall, said_by}
use Rattle.page_join.specs.Made.{AreMade}
use Rattle.page_join.proofs.Chains.{prefix_self, prefix_trans, legal_still}
use Rattle.copy_workers.specs.declared.copied.Look.{Look}
use Rattle.copy_workers.specs.Calls.{look_at}
use Rattle.distcp_sync.specs.Steps.{SyncSides, side_at, tells_at, IsHeard}
use Rattle.distcp_sync.specs.Around.{IsAround}
use Rattle.distcp_sync.specs.inside.Trace.{IsLooked}

-- ---- what stays as a link makes calls

-- caller, limit and whether bytes are told stay, and what was seen is the front of what is seen
pub record Goes (old new : Known) : Type 0 where
  pub caller : new.caller ≡ old.caller
  pub limit : new.limit ≡ old.limit
  pub tells : new.tells ≡ old.tells
  pub grown : IsPrefix old.seen new.seen

pub goes_self : (old : Known) → Goes old old
goes_self old = record { caller = refl; limit = refl; tells = refl; grown = prefix_self old.seen }

pub goes_then : (old now new : Known) → Goes old now → Goes now new → Goes old new
goes_then old now new a b = record {
  caller = b.caller ∙ a.caller;
  limit = b.limit ∙ a.limit;
  tells = b.tells ∙ a.tells;
  grown = prefix_trans old.seen now.seen new.seen a.grown b.grown;
}

pub call_goes : (old new : Known) (call : Call) (told : Answered) → IsCall old new call told → Goes old new
call_goes old new call told called = record {
  caller = ap (λ (k : Known). k.caller) called.same;
  limit = ap (λ (k : Known). k.limit) called.same;
  tells = ap (λ (k : Known). k.tells) called.same;
  grown = called.grown;
}

pub same_goes : (old new : Known) → new ≡ old → Goes old new
same_goes old new same = subst (λ (k : Known). Goes old k) (sym same) (goes_self old)

pub made_goes : (old new : Known) (calls : List Said) → AreMade old new calls → Goes old new
made_goes old new [] made = same_goes old new made
made_goes old new (said ∷ more) made = goes_then old made.0 new (call_goes old made.0 said.call said.told made.1) (made_goes made.0 new more made.3)

pub front_length : (xs ys : List Entry) → IsPrefix xs ys → length xs ≤ length ys
front_length xs ys front = subst (λ (l : List Entry). length xs ≤ length l) front.1 (omega (arith, length-append xs front.0))

-- ---- a reply that was kept

one_of_one : (callers : List CallerId) (mine caller : CallerId) → callers ≡ mine ∷ [] → caller ≡ mine → is_one_of callers caller ≡ true
one_of_one callers mine caller only same =
    ap (λ (cs : List CallerId). is_one_of cs caller) only ∙ (ap (is_one_of (mine ∷ [])) same ∙ itself mine.0)
  where
    itself : (n : ℕ) → ((n == n) || false) ≡ true
    itself n = grind (arith, nat_tests)

behind : (position : ℕ) (left : Bool) → position ≤ position + (if left then 1 else 0)
behind position true = omega arith
behind position false = omega arith

-- a call whose reply was kept is heard in the journals around the run
pub heard : (sides : SyncSides) (side : Side) (first old new last : Known) (call : Call) (look : Look) → IsAround first last (tells_at sides side) (side_at sides side) →
    Goes first old → IsLooked side old new call look → Goes new last → IsHeard sides side call look
heard sides side first old new last call look around before looked after =
    let at : SyncSide = side_at sides side in
    let mine : look.caller ≡ old.caller = ap (λ (l : Look). l.caller) looked.look_is in
    let called : IsCall old new call look.reply = looked.called in
    let legal : IsLegalCall old.tells old.limit at.journal old.caller new.calls call look.reply =
    legal_still old.tells old.limit new.seen at.journal old.caller (said_by new call look.reply) (prefix_trans new.seen last.seen at.journal after.grown around.goes_on) called.legal in
    record {
      at_side = ap (λ (l : Look). l.side) looked.look_is;
      of_caller = one_of_one at.callers first.caller look.caller around.callers_are (mine ∙ before.caller);
      from = omega (arith, around.from, front_length first.seen old.seen before.grown, called.place);
      to = omega (arith, around.to, front_length new.seen last.seen after.grown, called.reach, behind look.reply.position (leaves_entry call look.reply.reply));
      seq = new.calls;
      legal =
          subst (λ (tells : Bool). IsLegalCall tells at.limit at.journal look.caller new.calls call look.reply) (before.tells ∙ sym around.tells_is)
          (subst (λ (limit : ℕ). IsLegalCall old.tells limit at.journal look.caller new.calls call look.reply) (before.limit ∙ sym around.limit_is)
          (subst (λ (caller : CallerId). IsLegalCall old.tells old.limit at.journal caller new.calls call look.reply) (sym mine) legal));
    }

-- What calls did at one link, and where the caller's entries are.
use Rattle.std.proofs.Common.{◌≡◌, ℕ, ◌+◌, ◌≤◌, nat_lt, Bool, true, false, cond, ◌==◌, ◌&&◌, ◌||◌, ◌^◌, Some, None, List, [], ◌∷◌, ◌++◌, zero, suc, slice_get, refl, ap, sym, ◌∙◌, subst, append_assoc, append-nil, arith}
use Rattle.std.specs.Option.{option_to_list}
use Rattle.std.proofs.lemmas.Bool.Decides.{nat_tests}
use Rattle.hs_types.specs.declared.ids.CallerId.{CallerId}
use Rattle.hs_types.specs.declared.ids.Side.{Side}
use Rattle.hs_types.specs.declared.call.Call.{Call}
use Rattle.hs_types.specs.declared.journal.Entry.{Entry}
use Rattle.hs_types.specs.declared.journal.EntryKind.TheVariants.{Accepted, Faulted}
use Rattle.hs_types.specs.declared.reply.Answered.{Answered}
use Rattle.hs_plain.specs.declared.state.State.{State}
use Rattle.hs_plain.specs.State.{start}
use Rattle.hs_plain.specs.Files.{plain_files}
use Rattle.hs_plain.specs.Change.{after}
use Rattle.hs_plain.specs.Answer.{answer, is_modifying, uses_store, is_ok_reply, is_store_fault}
use Rattle.hs_plain.specs.Legal.{Said, leaves_entry, entry_of, place_left, places_of, number_rises}
use Rattle.hs_plain.specs.Replay.{fits_kind, may_follow, proper_from}
use Rattle.page_join.specs.Links.{Known, IsLawful, IsCall, said_by}
use Rattle.page_join.proofs.Chains.{prefix_trans}
use Rattle.copy_workers.specs.declared.copied.Look.{Look}
use Rattle.distcp_sync.specs.Calls.{HasGone, AddPlaces}
use Rattle.distcp_sync.specs.inside.Trace.{IsLooked}
use Rattle.distcp_sync.proofs.Heard.{Goes, goes_self, goes_then, call_goes}
use Rattle.distcp_sync.proofs.Places.{call_places}

-- a link made calls, and these are the places of their entries
pub record Did (old new : Known) (ks : List ℕ) : Type 0 where
  pub goes : Goes old new
  pub counted : old.calls ≤ new.calls
  pub lawful : IsLawful new
  pub places : AddPlaces old new ks

-- a lawful link that made none
pub did_none : (old : Known) → IsLawful old → Did old old []
did_none old lawful = record {
  goes = goes_self old;
  counted = omega arith;
  lawful = lawful;
  places = sym (append-nil (places_of old.caller.0 0 old.seen));
}

pub did_same : (old new : Known) → IsLawful old → new ≡ old → Did old new []
did_same old new lawful same = subst (λ (k : Known). Did old k []) (sym same) (did_none old lawful)

pub did_then : (old now new : Known) (ks ls : List ℕ) → Did old now ks → Did now new ls → Did old new (ks ++ ls)
did_then old now new ks ls a b = record {
  goes = goes_then old now new a.goes b.goes;
  counted = omega (arith, a.counted, b.counted);
  lawful = b.lawful;
  places =
      subst (λ (c : CallerId). places_of c.0 0 new.seen ≡ places_of c.0 0 now.seen ++ ls) a.goes.caller b.places
      ∙ (ap (λ (ms : List ℕ). ms ++ ls) a.places ∙ append_assoc (places_of old.caller.0 0 old.seen) ks ls);
}

counted_up : (old new : ℕ) → number_rises old new ≡ true → old ≤ new
counted_up old new rises = grind (arith, nat_tests)

pub did_call : (old new : Known) (call : Call) (told : Answered) → IsCall old new call told → Did old new (option_to_list (place_left (said_by new call told)))
did_call old new call told called = record {
  goes = call_goes old new call told called;
  counted = counted_up old.calls new.calls called.rises;
  lawful = called.lawful;
  places = call_places old new call told called;
}

-- what the link's counts say of it
pub has_gone : (old new : Known) (ks : List ℕ) → Did old new ks → HasGone old new
has_gone old new ks did = record {
  same =
      ap (λ (c : CallerId). record { caller = c; calls = new.calls; limit = new.limit; tells = new.tells; seen = new.seen }) did.goes.caller
      ∙ (ap (λ (n : ℕ). record { caller = old.caller; calls = new.calls; limit = n; tells = new.tells; seen = new.seen }) did.goes.limit
      ∙ ap (λ (b : Bool). record { caller = old.caller; calls = new.calls; limit = old.limit; tells = b; seen = new.seen }) did.goes.tells);
  counted = did.counted;
  grown = did.goes.grown;
  lawful = did.lawful;
}

-- ---- calls without an entry

differs : true ≡ false → ⊥
differs e = cc

both_first : (a b : Bool) → (a && b) ≡ true → a ≡ true
both_first true b e = refl
both_first false b e = e

both_second : (a b : Bool) → (a && b) ≡ true → b ≡ true
both_second true b e = e
both_second false b e = absurd (cc)

some_of : (x e : Entry) → Some x ≡ Some e → x ≡ e
some_of x e same = cc

-- the entry at a place of a proper journal is of a call of its kind
pub fits_at : (state : State (List ℕ)) (journal : List Entry) (i : ℕ) (entry : Entry) → proper_from state journal ≡ true → slice_get journal i ≡ Some entry → fits_kind entry.kind entry.call ≡ true
fits_at state [] i entry proper there = absurd (cc)
fits_at state (e ∷ journal) zero entry proper there =
    ap (λ (e : Entry). fits_kind e.kind e.call) (sym (some_of e entry there)) ∙ both_first (fits_kind e.kind e.call) (is_ok_reply (answer state e.call)) (both_first (may_follow state e) (proper_from (after plain_files state e) journal) proper)
fits_at state (e ∷ journal) (suc i) entry proper there = fits_at (after plain_files state e) journal i entry (both_second (may_follow state e) (proper_from (after plain_files state e) journal) proper) there

-- a call that changes nothing and uses no store leaves no entry
pub leaves_none : (old new : Known) (call : Call) (told : Answered) → IsCall old new call told → is_modifying call ≡ false → uses_store call ≡ false → leaves_entry call told.reply ≡ false
leaves_none old new call told called modifies stores = by (is_store_fault told.reply) refl
  where
    by : (b : Bool) → is_store_fault told.reply ≡ b → leaves_entry call told.reply ≡ false
    by true fault =
        absurd (differs (sym (fits_at start new.seen told.position (entry_of old.caller new.calls call told.reply) called.lawful.proper
        (called.legal.entered (ap (λ b. b || (is_modifying call && is_ok_reply told.reply)) fault)))
        ∙ (ap (λ b. fits_kind (cond b Faulted Accepted) call) fault ∙ stores)))
    by false none = ap (λ b. b || (is_modifying call && is_ok_reply told.reply)) none ∙ ap (λ b. b && is_ok_reply told.reply) modifies

pub did_read : (side : Side) (old new : Known) (call : Call) (look : Look) → IsLooked side old new call look → is_modifying call ≡ false → uses_store call ≡ false → Did old new []
did_read side old new call look looked modifies stores =
    subst (Did old new) {x = option_to_list (place_left (said_by new call look.reply))} {y = []}
    (ap (λ b. option_to_list (cond b (Some look.reply.position) None)) (leaves_none old new call look.reply looked.called modifies stores))
    (did_call old new call look.reply looked.called)

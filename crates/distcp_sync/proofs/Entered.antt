-- The entries of calls that a link made stand at their places.
use Rattle.std.proofs.Common.{◌≡◌, ℕ, ◌+◌, ◌≤◌, Bool, true, false, cond, Some, None, List, [], ◌∷◌, ◌++◌, length, slice_get, refl, ap, sym, ◌∙◌, subst, arith}
use Rattle.std.specs.List.{filter_map, cons_option}
use mathlib.Core.List.{IsPrefix}
use Rattle.hs_types.specs.declared.ids.CallerId.{CallerId}
use Rattle.hs_types.specs.declared.journal.Entry.{Entry}
use Rattle.hs_plain.specs.Legal.{Said, IsLegalCall, leaves_entry, entry_of, entry_left}
use Rattle.page_join.specs.Links.{Known, IsCall, said_by}
use Rattle.page_join.specs.Made.{AreMade}
use Rattle.page_join.proofs.Chains.{prefix_trans, legal_still}
use Rattle.copy_workers.specs.declared.copied.Made.{Made}
use Rattle.copy_workers.specs.Calls.{made_by}
use Rattle.distcp_sync.specs.Steps.{AreEntries}
use Rattle.distcp_sync.proofs.Heard.{Goes, made_goes}

-- one call's entry in front of those of further calls
entered_by : (journal : List Entry) (c : CallerId) (said : Said) (from seen now : ℕ) (more : List Made) (entries : List Entry) (left : Bool) → from ≤ seen → seen ≤ said.told.position → now ≡ said.told.position + cond left 1 0 →
    (left ≡ true → slice_get journal said.told.position ≡ Some (entry_of c said.seq said.call said.told.reply)) → ((later : ℕ) → later ≤ now → AreEntries journal later more entries) →
    AreEntries journal from (cons_option (cond left (Some (record { caller = c; seq = said.seq; position = said.told.position })) None) more) (cons_option (cond left (Some (entry_of c said.seq said.call said.told.reply)) None) entries)
entered_by journal c said from seen now more entries true low behind reach there rest = (omega (arith, low, behind), there refl, refl, refl, rest (said.told.position + 1) (omega (arith, reach)))
entered_by journal c said from seen now more entries false low behind reach there rest = rest from (omega (arith, low, behind, reach))

pub made_entries : (old new : Known) (calls : List Said) (journal : List Entry) (from : ℕ) → AreMade old new calls → IsPrefix new.seen journal → from ≤ length old.seen →
    AreEntries journal from (filter_map (made_by old.caller) calls) (filter_map (entry_left old.caller) calls)
made_entries old new [] journal from made goes low = tt
made_entries old new (said ∷ more) journal from made goes low =
    let now : Known = made.0 in
    let called : IsCall old now said.call said.told = made.1 in
    let mine : now.caller ≡ old.caller = ap (λ (k : Known). k.caller) called.same in
    let legal : IsLegalCall old.tells old.limit journal old.caller said.seq said.call said.told =
    legal_still old.tells old.limit now.seen journal old.caller said (prefix_trans now.seen new.seen journal (made_goes now new more made.3).grown goes)
    (subst (λ (n : ℕ). IsLegalCall old.tells old.limit now.seen old.caller n said.call said.told) made.2 called.legal) in
    entered_by journal old.caller said from (length old.seen) (length now.seen) (filter_map (made_by old.caller) more) (filter_map (entry_left old.caller) more) (leaves_entry said.call said.told.reply) low called.place called.reach legal.entered
    (λ from_now low_now. subst (λ (c : CallerId). AreEntries journal from_now (filter_map (made_by c) more) (filter_map (entry_left c) more)) mine (made_entries now new more journal from_now made.3 goes low_now))

-- Answers that are found from the text of a path on.
use Rattle.std.proofs.Common.{◌≡◌, ℕ, Bool, true, false, not, ◌&&◌, ◌||◌, List, Ok, Err, refl, sym, ap, subst}
use Rattle.std.specs.Prelude.{Result, IsErrAnd, ◌≢◌}
use Rattle.hs_types.specs.Paths.{path_of}
use Rattle.hs_types.specs.declared.path.Path.{Path}
use Rattle.hs_types.specs.declared.call.Call.{Call}
use Rattle.hs_types.specs.declared.call.Place.{Place}
use Rattle.hs_types.specs.declared.reply.Reply.{Reply}
use Rattle.hs_types.specs.declared.reply.Reply.TheVariants as replies
use Rattle.hs_plain.specs.declared.resolve.AskFault.{AskFault}
use Rattle.hs_plain.specs.declared.state.State.{State}
use Rattle.hs_plain.specs.declared.state.FileBlocks.{FileBlocks}
use Rattle.hs_plain.specs.Asked.{Asked, ◌>>=◌}
use Rattle.hs_plain.specs.State.{resolve}
use Rattle.hs_plain.specs.Valid.{IsValid}
use Rattle.hs_plain.specs.inside.Faults.{IsFaultOf, told_reply}
use Rattle.hs_plain.specs.Answer.{asked, answer, is_modifying, uses_store, is_shared}
use Rattle.hs_plain.specs.Files.{block_files}
use Rattle.hs_plain.specs.Viewed as viewed
use Rattle.paged_listing.specs.Places.{IsThere}
use Rattle.path_resolver.proofs.Named.{match_err}
use Rattle.paged_listing.proofs.Chains.{Tells, tells_as, tells_then, fault_then, answered}
use Rattle.namenode_read.specs.Places.{place_asked}
use Rattle.namenode_read.proofs.Places.{asked_there}

-- the steps from a text to a place are one
pub at_place : {B Y : Type 0} (state : State B) (text : List ℕ) (next : Place → Asked Y) → (place_asked state text >>= next) ≡ (path_of text >>= λ path. (resolve state path >>= next))
at_place state text next = by (path_of text)
  where
    by : (p : Asked Path) → ((p >>= resolve state) >>= next) ≡ (p >>= λ path. (resolve state path >>= next))
    by (Ok path) = refl
    by (Err why) = refl

-- ---- steps from a place on

module _ {Y : Type 0} (state : State FileBlocks) (text : List ℕ) (next : Place → Asked Y) (placed : Result Place AskFault) (result : Result Y AskFault) (first : Tells placed (place_asked state text)) where
  abbrev whole : Asked Y
  whole = path_of text >>= λ path. (resolve state path >>= next)

  pub place_err : (fault : AskFault) → placed ≡ Err fault → IsErrAnd result (λ y. y ≡ fault) → Tells result whole
  place_err fault is same =
      let so : IsFaultOf (place_asked state text) fault = subst (λ (r : Result Place AskFault). Tells r (place_asked state text)) is first in
      tells_as result _ _ (at_place state text next) (match_err result fault _ _ same (fault_then (place_asked state text) next fault so))

  pub place_ok : IsValid state → (place : Place) → placed ≡ Ok place → (IsThere state place → Tells result (next place)) → Tells result whole
  place_ok valid place is then_ =
      let so : place_asked state text ≡ Ok place = subst (λ (r : Result Place AskFault). Tells r (place_asked state text)) is first in
      tells_as result _ _ (at_place state text next) (tells_then result (place_asked state text) next place so (then_ (asked_there state valid text place so)))

-- ---- answers

-- the answer to a call that is made beside others
pub shared_answer : (state : State FileBlocks) (plain : State (List ℕ)) → viewed.StandsFor state plain → (call same : Call) → is_shared call ≡ true → call ≡ same → (result : Result Reply AskFault) → Tells result (asked block_files state same)
    → told_reply result ≢ replies.NoMemory → told_reply result ≡ answer plain call
shared_answer state plain sized call same shared is result tells =
    answered state plain sized call (reads_none (is_modifying call) (uses_store call) shared) result (tells_as result _ _ (ap (asked block_files state) (sym is)) tells)
  where
    reads_none : (modifying stored : Bool) → not (modifying || stored) ≡ true → (stored && not modifying) ≡ false
    reads_none true stored shared = absurd (cc)
    reads_none false true shared = absurd (cc)
    reads_none false false shared = refl

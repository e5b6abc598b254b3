-- Answers that are found step by step.
use Rattle.std.proofs.Common.{◌≡◌, ℕ, false, not, ◌&&◌, List, Ok, Err, MatchResult, refl, sym, ap, subst, ◌∙◌}
use Rattle.std.specs.Prelude.{Result, ◌≢◌}
use Rattle.hs_types.specs.declared.call.Call.{Call}
use Rattle.hs_types.specs.declared.refusal.Refusal.{Refusal}
use Rattle.hs_types.specs.declared.reply.Reply.{Reply}
use Rattle.hs_types.specs.declared.reply.Reply.TheVariants as replies
use Rattle.hs_plain.specs.declared.resolve.AskFault.{AskFault}
use Rattle.hs_plain.specs.declared.resolve.AskFault.TheVariants.{Refused, NoMemory}
use Rattle.hs_plain.specs.Asked.{Asked, ◌>>=◌}
use Rattle.hs_plain.specs.inside.Faults.{IsFaultOf, told_reply}
use Rattle.hs_plain.specs.declared.state.State.{State}
use Rattle.hs_plain.specs.declared.state.FileBlocks.{FileBlocks}
use Rattle.hs_plain.specs.Answer.{asked, answer, reply_to, is_modifying, uses_store}
use Rattle.hs_plain.specs.Files.{block_files}
use Rattle.hs_plain.specs.Viewed.{StandsFor}
use Rattle.hs_plain.proofs.Stands.{answer_stands}

-- ---- what a step gave

pub err_ok : {X : Type 0} {why : Refusal} {x : X} → ◌≡◌ {A = Asked X} (Err why) (Ok x) → ⊥
err_ok e = cc

pub ok_same : {X : Type 0} {x y : X} → ◌≡◌ {A = Asked X} (Ok x) (Ok y) → x ≡ y
ok_same e = cc

-- a test and the next one gave something
pub given : {X Y : Type 0} (asked : Asked X) (next : X → Asked Y) (y : Y) → (asked >>= next) ≡ Ok y → (x : X) × (asked ≡ Ok x) × (next x ≡ Ok y)
given (Ok x) next y e = (x, refl, e)
given (Err why) next y e = absurd (err_ok e)

-- ---- results

-- a result tells what is asked for
abbrev pub Tells : {X : Type 0} → Result X AskFault → Asked X → Type 0
Tells result asked = MatchResult result (λ x. asked ≡ Ok x) (IsFaultOf asked)

-- a fault of the first step is one of the whole
pub fault_then : {X Y : Type 0} (asked : Asked X) (next : X → Asked Y) (fault : AskFault) → IsFaultOf asked fault → IsFaultOf (asked >>= next) fault
fault_then asked next (Refused why) e = ap (λ (a : Asked _). a >>= next) e
fault_then asked next NoMemory e = tt

pub tells_as : {X : Type 0} (result : Result X AskFault) (a b : Asked X) → a ≡ b → Tells result a → Tells result b
tells_as result a b same tells = subst (Tells result) same tells

-- where the first step gives something, the next one tells
pub tells_then : {X Y : Type 0} (result : Result Y AskFault) (asked : Asked X) (next : X → Asked Y) (x : X) → asked ≡ Ok x → Tells result (next x) → Tells result (asked >>= next)
tells_then result asked next x e tells = tells_as result (next x) (asked >>= next) (sym (ap (λ (a : Asked _). a >>= next) e)) tells

-- ---- replies

-- the reply of a result that tells what is asked, unless memory ran out
pub told_as : (result : Result Reply AskFault) (asked : Asked Reply) → Tells result asked → told_reply result ≢ replies.NoMemory → told_reply result ≡ reply_to asked
told_as (Ok reply) asked tells enough = sym (ap reply_to tells)
told_as (Err (Refused why)) asked tells enough = sym (ap reply_to tells)
told_as (Err NoMemory) asked tells enough = absurd (enough refl)

-- where a store isn't asked, the plain state's answer is that of the state with blocks
pub answered : (state : State FileBlocks) (plain : State (List ℕ)) → StandsFor state plain → (call : Call) → (uses_store call && not (is_modifying call)) ≡ false → (result : Result Reply AskFault) → Tells result (asked block_files state call)
    → told_reply result ≢ replies.NoMemory → told_reply result ≡ answer plain call
answered state plain sized call reads result tells enough = told_as result (asked block_files state call) tells enough ∙ sym (answer_stands state plain sized call reads)

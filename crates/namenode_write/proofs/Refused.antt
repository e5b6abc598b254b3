-- What is refused is never refused as a fault of the store, nor for want of room in the journal.
use Rattle.std.proofs.Common.{◌≡◌, ℕ, ◌==◌, true, false, List, [], Ok, Err, refl, ap}
use Rattle.hs_types.specs.Names.{Names}
use Rattle.hs_types.specs.Refusals.{number_of}
use Rattle.hs_types.specs.declared.call.Call.{Call}
use Rattle.hs_types.specs.declared.call.Call.TheVariants as calls
use Rattle.hs_types.specs.declared.call.Place.{Place}
use Rattle.hs_types.specs.declared.reply.Reply.TheVariants as replies
use Rattle.hs_types.specs.declared.refusal.Refusal.{Refusal}
use Rattle.hs_types.specs.declared.refusal.Refusal.TheVariants as refusals
use Rattle.hs_plain.specs.declared.state.Node.{Node}
use Rattle.hs_plain.specs.declared.state.State.{State}
use Rattle.hs_plain.specs.declared.state.FileBlocks.{FileBlocks}
use Rattle.hs_plain.specs.Asked.{Asked, ◌>>=◌}
use Rattle.hs_plain.specs.Files.{block_files}
use Rattle.hs_plain.specs.Modifying.{append_at}
use Rattle.hs_plain.specs.Reading.{found_file, next_file, page_at}
use Rattle.hs_plain.specs.Answer.{asked, replied, is_plain_reply}
use Rattle.hs_plain.proofs.Answers.{whole_refusals_own}

own_number : (why : Refusal) → is_plain_reply (replies.Refused why) ≡ true → (number_of why == 23) ≡ false
own_number refusals.BadPath own = refl
own_number refusals.TooLong own = refl
own_number refusals.TooDeep own = refl
own_number refusals.Reserved own = refl
own_number refusals.ReadOnly own = refl
own_number refusals.NotFound own = refl
own_number refusals.NotDir own = refl
own_number refusals.NotFile own = refl
own_number refusals.Exists own = refl
own_number refusals.NotSnapshotName own = refl
own_number refusals.IsRoot own = refl
own_number refusals.NotEmpty own = refl
own_number refusals.HasSnapshots own = refl
own_number refusals.IntoItself own = refl
own_number refusals.NotSnapshottable own = refl
own_number refusals.Nested own = refl
own_number refusals.SnapshotExists own = refl
own_number refusals.NoSnapshot own = refl
own_number refusals.SnapshotLimit own = refl
own_number refusals.Gone own = refl
own_number (refusals.Moved then_tick now_tick) own = refl
own_number refusals.JournalFull own = refl
own_number refusals.StoreFault own = absurd (cc)

own_limit : (why : Refusal) → is_plain_reply (replies.Refused why) ≡ true → (number_of why == 22) ≡ false
own_limit refusals.BadPath own = refl
own_limit refusals.TooLong own = refl
own_limit refusals.TooDeep own = refl
own_limit refusals.Reserved own = refl
own_limit refusals.ReadOnly own = refl
own_limit refusals.NotFound own = refl
own_limit refusals.NotDir own = refl
own_limit refusals.NotFile own = refl
own_limit refusals.Exists own = refl
own_limit refusals.NotSnapshotName own = refl
own_limit refusals.IsRoot own = refl
own_limit refusals.NotEmpty own = refl
own_limit refusals.HasSnapshots own = refl
own_limit refusals.IntoItself own = refl
own_limit refusals.NotSnapshottable own = refl
own_limit refusals.Nested own = refl
own_limit refusals.SnapshotExists own = refl
own_limit refusals.NoSnapshot own = refl
own_limit refusals.SnapshotLimit own = refl
own_limit refusals.Gone own = refl
own_limit (refusals.Moved then_tick now_tick) own = refl
own_limit refusals.JournalFull own = absurd (cc)
own_limit refusals.StoreFault own = refl

pub asked_full : (state : State FileBlocks) (call : Call) (why : Refusal) → asked block_files state call ≡ Err why → (number_of why == 22) ≡ false
asked_full state call why refused = own_limit why (whole_refusals_own state call why refused)

pub asked_never : (state : State FileBlocks) (call : Call) (why : Refusal) → asked block_files state call ≡ Err why → (number_of why == 23) ≡ false
asked_never state call why refused = own_number why (whole_refusals_own state call why refused)

-- and so of the tests behind which the store is asked

pub append_never : (state : State FileBlocks) (text : List ℕ) (why : Refusal) → append_at state text ≡ Err why → (number_of why == 23) ≡ false
append_never state text why refused = asked_never state (calls.Append text []) why (ap (λ (at : Asked (Names × Node FileBlocks × FileBlocks)). replied replies.Done at) refused)

pub found_file_never : (state : State FileBlocks) (text : List ℕ) (why : Refusal) → found_file state text ≡ Err why → (number_of why == 23) ≡ false
found_file_never state text why refused = asked_never state (calls.Read text 0 1) why (ap (λ (found : Asked (Place × FileBlocks)). found >>= λ at. Ok (page_at block_files 0 1 at)) refused)

pub next_file_never : (state : State FileBlocks) (place : Place) (why : Refusal) → next_file state place ≡ Err why → (number_of why == 23) ≡ false
next_file_never state place why refused =
    asked_never state (calls.ReadNext (record { place = place; offset = 0 }) 1) why (ap (λ (found : Asked (Place × FileBlocks)). found >>= λ at. Ok (page_at block_files 0 1 at)) refused)

-- Directories that wait are listed, one after the other.
use Rattle.std.proofs.Common.{◌≡◌, ℕ, zero, suc, ◌+◌, ◌≤◌, ◌<◌, Some, Result, Ok, Err, List, [], ◌∷◌, ◌++◌, length, drop, get_or, slice_get, refl, ap, sym, ◌∙◌, subst, length-append, arith}
use mathlib.Core.List.{IsPrefix}
use Rattle.hs_types.specs.declared.ids.InodeId.{InodeId}
use Rattle.hs_types.specs.declared.ids.Side.TheVariants.{Source}
use Rattle.hs_types.specs.declared.ids.SnapId.{SnapId}
use Rattle.hs_types.specs.declared.call.Call.{Call}
use Rattle.hs_types.specs.declared.call.Place.TheVariants as places
use Rattle.hs_types.specs.declared.reply.Item.{Item}
use Rattle.hs_types.specs.declared.reply.Line.{Line}
use Rattle.hs_plain.specs.declared.plan.Listing.{Listing}
use Rattle.page_join.specs.Links.{Known}
use Rattle.copy_workers.specs.declared.copied.Look.{Look}
use Rattle.distcp_sync.specs.declared.answer.SyncAnswer.{SyncAnswer}
use Rattle.distcp_sync.specs.declared.answer.SyncAnswer.TheVariants as answers
use Rattle.distcp_sync.specs.inside.Trace.{HasRead}
use Rattle.distcp_sync.specs.inside.Queue.{first_ids, new_ids, AreQueued}
use Rattle.distcp_sync.specs.inside.Fetching.{WasListed, IsListCall, IsGotWith, AreUnderWay, WasShown, IsNextListing, IsNextListed, IsQueueCall, AreAllListed}
use Rattle.page_join.proofs.Chains.{prefix_self}
use Rattle.distcp_sync.proofs.Heard.{front_length}
use Rattle.distcp_sync.proofs.PageChains.{read_none}
use Rattle.distcp_sync.proofs.Gots.{read_then, read_goes, listed_grows, HasGot, has_got, got_behind, got_grows, got_so, got_want}

-- ---- plain lists

module _ (Shows : InodeId → List Item → Type 0) (lines : List Line) where
  -- one more is listed
  next_listed : (ids : List InodeId) (listings : List Listing) (one : Listing) (rest : List InodeId) → AreUnderWay Shows lines ids listings (one.dir ∷ rest) → Shows one.dir one.items →
      AreUnderWay Shows lines ids (listings ++ one ∷ []) (rest ++ new_ids lines one.items)
  next_listed ids [] one rest before shows = subst (λ (l : List InodeId). AreUnderWay Shows lines l (one ∷ []) (rest ++ new_ids lines one.items)) before (refl, shows, refl)
  next_listed [] (first ∷ listings) one rest before shows = before
  next_listed (id ∷ ids) (first ∷ listings) one rest before shows = (before.0, before.1, next_listed (ids ++ new_ids lines first.items) listings one rest before.2 shows)

  -- none waits any more
  all_listed : (ids : List InodeId) (listings : List Listing) → AreUnderWay Shows lines ids listings [] → AreQueued Shows lines ids listings
  all_listed [] [] before = tt
  all_listed (id ∷ ids) [] before = absurd (cc)
  all_listed [] (first ∷ listings) before = before
  all_listed (id ∷ ids) (first ∷ listings) before = (before.0, before.1, all_listed (ids ++ new_ids lines first.items) listings before.2)

-- what was shown may be told in other words
pub under_way_so : (Shows Then : InodeId → List Item → Type 0) → ((id : InodeId) (items : List Item) → Shows id items → Then id items) → (lines : List Line) (ids : List InodeId) (listings : List Listing) (rest : List InodeId) →
    AreUnderWay Shows lines ids listings rest → AreUnderWay Then lines ids listings rest
under_way_so Shows Then turn lines ids [] rest before = before
under_way_so Shows Then turn lines [] (first ∷ listings) rest before = before
under_way_so Shows Then turn lines (id ∷ ids) (first ∷ listings) rest before = (before.0, turn id first.items before.1, under_way_so Shows Then turn lines (ids ++ new_ids lines first.items) listings rest before.2)

pub queued_so : (Shows Then : InodeId → List Item → Type 0) → ((id : InodeId) (items : List Item) → Shows id items → Then id items) → (lines : List Line) (ids : List InodeId) (listings : List Listing) →
    AreQueued Shows lines ids listings → AreQueued Then lines ids listings
queued_so Shows Then turn lines [] [] before = before
queued_so Shows Then turn lines [] (first ∷ listings) before = before
queued_so Shows Then turn lines (id ∷ ids) [] before = before
queued_so Shows Then turn lines (id ∷ ids) (first ∷ listings) before = (before.0, turn id first.items before.1, queued_so Shows Then turn lines (ids ++ new_ids lines first.items) listings before.2)

-- the element at an index, and those behind it
record IsThere (ids : List InodeId) (index : ℕ) : Type 0 where
  id : InodeId
  at : slice_get ids index ≡ Some id
  left : drop index ids ≡ id ∷ drop (index + 1) ids

there : (ids : List InodeId) (index : ℕ) → index < length ids → IsThere ids index
there [] index lt = absurd (omega (arith, lt))
there (id ∷ ids) zero lt = record { id = id; at = refl; left = refl }
there (id ∷ ids) (suc index) lt =
    let below : IsThere ids index = there ids index (omega (arith, lt)) in
    record { id = below.id; at = below.at; left = below.left ∙ ap (λ k. below.id ∷ drop k (id ∷ ids)) {x = suc (index + 1)} {y = suc index + 1} (omega arith) }

drop_front : (ids more : List InodeId) (index : ℕ) → index ≤ length ids → drop index (ids ++ more) ≡ drop index ids ++ more
drop_front ids more zero le = refl
drop_front [] more (suc index) le = absurd (omega (arith, le))
drop_front (id ∷ ids) more (suc index) le = drop_front ids more index (omega (arith, le))

drop_all : (ids : List InodeId) (index : ℕ) → length ids ≤ index → drop index ids ≡ []
drop_all [] zero le = refl
drop_all [] (suc index) le = refl
drop_all (id ∷ ids) zero le = absurd (omega (arith, le))
drop_all (id ∷ ids) (suc index) le = drop_all ids index (omega (arith, le))

-- ---- through a link

-- so many of the directories were listed, and the others wait
pub record AreListedSo (old new : Known) (snapshot : SnapId) (lines : List Line) (ids : List InodeId) (listings : List Listing) : Type 0 where
  pub read : HasRead old new
  pub within : length listings ≤ length ids
  pub under_way : AreUnderWay (WasShown (length old.seen) new.seen snapshot) lines (first_ids lines) listings (drop (length listings) ids)

-- none was listed
pub listed_none : (old : Known) (snapshot : SnapId) (lines : List Line) (ids : List InodeId) (read : HasRead old old) → ids ≡ first_ids lines → AreListedSo old old snapshot lines ids []
listed_none old snapshot lines ids read same = record { read = read; within = omega arith; under_way = same }

module _ (old now new : Known) (snapshot : SnapId) (page : ℕ) (lines : List Line) (ids ids_then : List InodeId) (listings listings_then : List Listing) (before after : List Look)
    (so : AreListedSo old now snapshot lines ids listings) (less : length listings < length ids) where
  abbrev first : IsThere ids (length listings)
  first = there ids (length listings) less

  grown_to : HasRead now new → (id : InodeId) (items : List Item) → WasShown (length old.seen) now.seen snapshot id items → WasShown (length old.seen) new.seen snapshot id items
  grown_to more id items = listed_grows (length old.seen) (length old.seen) now.seen new.seen (places.Frozen id snapshot) items (omega arith) (read_goes now new more).grown

  waits : AreUnderWay (WasShown (length old.seen) now.seen snapshot) lines (first_ids lines) listings (first.id ∷ drop (length listings + 1) ids)
  waits = subst (AreUnderWay (WasShown (length old.seen) now.seen snapshot) lines (first_ids lines) listings) first.left so.under_way

  -- one more was listed
  pub listed_more : IsNextListed snapshot page lines now new ids ids_then listings listings_then before after (Ok tt) → AreListedSo old new snapshot lines ids_then listings_then
  listed_more next =
      let got : HasGot (IsNextListing (length now.seen) new.seen snapshot lines first.id ids ids_then listings listings_then) now new before after tt =
      has_got Source (IsListCall (places.Frozen first.id snapshot) page) (IsNextListing (length now.seen) new.seen snapshot lines first.id ids ids_then listings listings_then) now new before after tt (next first.id first.at) in
      let one : Listing = record { dir = first.id; items = got.is.items } in
      let more : List InodeId = new_ids lines got.is.items in
      let long : length listings_then ≡ length listings + 1 = ap length got.is.listed ∙ length-append listings (one ∷ []) in
      let shown : WasShown (length old.seen) new.seen snapshot first.id got.is.items =
      listed_grows (length now.seen) (length old.seen) new.seen new.seen (places.Frozen first.id snapshot) got.is.items (front_length old.seen now.seen (read_goes old now so.read).grown) (prefix_self new.seen) got.is.shown in
      record {
        read = read_then old now new so.read got.read;
        within = omega (arith, long, less, ap length got.is.waiting, length-append ids more);
        under_way =
            subst (λ (l : List Listing). AreUnderWay (WasShown (length old.seen) new.seen snapshot) lines (first_ids lines) l (drop (length l) ids_then)) (sym got.is.listed)
            (subst (AreUnderWay (WasShown (length old.seen) new.seen snapshot) lines (first_ids lines) (listings ++ one ∷ []))
            (sym (ap (λ (k : ℕ). drop k ids_then) (length-append listings (one ∷ [])) ∙ ap (drop (length listings + 1)) got.is.waiting ∙ drop_front ids more (length listings + 1) (omega (arith, less))))
            (next_listed (WasShown (length old.seen) new.seen snapshot) lines (first_ids lines) listings one (drop (length listings + 1) ids)
            (under_way_so (WasShown (length old.seen) now.seen snapshot) (WasShown (length old.seen) new.seen snapshot) (grown_to got.read) lines (first_ids lines) listings (first.id ∷ drop (length listings + 1) ids) waits) shown));
      }

  -- there is one listing more
  pub one_longer : IsNextListed snapshot page lines now new ids ids_then listings listings_then before after (Ok tt) → length listings_then ≡ length listings + 1
  one_longer next =
      let got : HasGot (IsNextListing (length now.seen) new.seen snapshot lines first.id ids ids_then listings listings_then) now new before after tt =
      has_got Source (IsListCall (places.Frozen first.id snapshot) page) (IsNextListing (length now.seen) new.seen snapshot lines first.id ids ids_then listings listings_then) now new before after tt (next first.id first.at) in
      ap length got.is.listed ∙ length-append listings (record { dir = first.id; items = got.is.items } ∷ [])

  -- a reply or want of memory ended it
  pub listed_ended : {U : Type 0} (IsContent : U → Type 0) (answer : SyncAnswer) → IsNextListed snapshot page lines now new ids ids_then listings listings_then before after (Err answer) →
      IsGotWith Source (IsQueueCall (length old.seen) new.seen snapshot page lines) IsContent old new before after (Err answer)
  listed_ended IsContent answer next =
      let with : IsGotWith Source (IsListCall (places.Frozen first.id snapshot) page) (IsNextListing (length now.seen) new.seen snapshot lines first.id ids ids_then listings listings_then) now new before after (Err answer) = next first.id first.at in
      let grown : IsPrefix now.seen new.seen =
      got_grows Source (IsListCall (places.Frozen first.id snapshot) page) (IsNextListing (length now.seen) new.seen snapshot lines first.id ids ids_then listings listings_then) now new before after with.later (Err answer) with.got in
      got_behind Source (IsListCall (places.Frozen first.id snapshot) page) (IsNextListing (length now.seen) new.seen snapshot lines first.id ids ids_then listings listings_then) now new before after
      old (IsQueueCall (length old.seen) new.seen snapshot page lines) IsContent so.read
      (λ call asks. record {
        listings = listings;
        dir = first.id;
        rest = drop (length listings + 1) ids;
        under_way =
            under_way_so (WasShown (length old.seen) now.seen snapshot) (WasShown (length old.seen) new.seen snapshot)
            (λ id items. listed_grows (length old.seen) (length old.seen) now.seen new.seen (places.Frozen id snapshot) items (omega arith) grown) lines (first_ids lines) listings (first.id ∷ drop (length listings + 1) ids) waits;
        asks = asks;
      })
      answer with

-- all were listed
pub listed_all : (old new : Known) (snapshot : SnapId) (lines : List Line) (ids : List InodeId) (listings : List Listing) → AreListedSo old new snapshot lines ids listings → length ids ≤ length listings → AreAllListed (length old.seen) new.seen snapshot lines listings
listed_all old new snapshot lines ids listings so all =
    all_listed (WasShown (length old.seen) new.seen snapshot) lines (first_ids lines) listings (subst (AreUnderWay (WasShown (length old.seen) new.seen snapshot) lines (first_ids lines) listings) (drop_all ids (length listings) all) so.under_way)

-- ---- the first that waits

index_so : (ids : List InodeId) (k : ℕ) (dir other : InodeId) → slice_get ids k ≡ Some dir → get_or ids k other ≡ dir
index_so [] k dir other at = absurd (cc)
index_so (id ∷ ids) zero dir other at = cc
index_so (id ∷ ids) (suc k) dir other at = index_so ids k dir other at

module _ (snapshot : SnapId) (page : ℕ) (lines : List Line) (old new : Known) (ids ids_then : List InodeId) (listings listings_then : List Listing) (before after : List Look)
    (own : InodeId) (index : ℕ) (index_is : index ≡ length listings) (own_is : own ≡ get_or ids index own) where
  abbrev IsOwnCall : Call → Type 0
  IsOwnCall = IsListCall (places.Frozen own snapshot) page

  abbrev IsOwnNext : Unit {0} → Type 0
  IsOwnNext = IsNextListing (length old.seen) new.seen snapshot lines own ids ids_then listings listings_then

  abbrev AreOwnItems : List Item → Type 0
  AreOwnItems = WasListed (length old.seen) new.seen (places.Frozen own snapshot)

  next_so : (result : Result (Unit {0}) SyncAnswer) → IsGotWith Source IsOwnCall IsOwnNext old new before after result → IsNextListed snapshot page lines old new ids ids_then listings listings_then before after result
  next_so result got dir at =
      subst (λ (d : InodeId). IsGotWith Source (IsListCall (places.Frozen d snapshot) page) (IsNextListing (length old.seen) new.seen snapshot lines d ids ids_then listings listings_then) old new before after result)
      (own_is ∙ ap (λ (k : ℕ). get_or ids k own) index_is ∙ index_so ids (length listings) dir own at) got

  -- it wasn't listed
  pub next_err : (answer : SyncAnswer) → IsGotWith Source IsOwnCall AreOwnItems old new before after (Err answer) → IsNextListed snapshot page lines old new ids ids_then listings listings_then before after (Err answer)
  next_err answer got = next_so (Err answer) (got_behind Source IsOwnCall AreOwnItems old new before after old IsOwnCall IsOwnNext (read_none old old refl) (λ call asks. asks) answer got)

  module _ (items : List Item) (with : IsGotWith Source IsOwnCall AreOwnItems old new before after (Ok items)) where
    abbrev got : HasGot AreOwnItems old new before after items
    got = has_got Source IsOwnCall AreOwnItems old new before after items with

    -- it was listed
    pub next_ok : ids_then ≡ ids ++ new_ids lines items → listings_then ≡ listings ++ record { dir = own; items = items } ∷ [] → IsNextListed snapshot page lines old new ids ids_then listings listings_then before after (Ok tt)
    next_ok waiting listed = next_so (Ok tt) (got_so Source IsOwnCall IsOwnNext old new before after got.same got.read tt (record { items = items; shown = got.is; waiting = waiting; listed = listed }))

    -- it was, and then memory ran out
    pub next_want : IsNextListed snapshot page lines old new ids ids_then listings listings_then before after (Err answers.NoMemory)
    next_want = next_so (Err answers.NoMemory) (got_want Source IsOwnCall IsOwnNext old new before after got.same got.read)

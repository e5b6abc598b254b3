-- What a plan is made of is that of the copied trees, and a reply that ends the fetching is of one of its calls.
use Rattle.std.proofs.Common.{◌≡◌, ℕ, ◌≤◌, Result, Ok, Err, List, [], ◌∷◌, ◌++◌, map, length, refl, ap, sym, ◌∙◌, subst, append-nil}
use mathlib.Core.List.{IsPrefix}
use Rattle.hs_types.specs.Names.{Names}
use Rattle.hs_types.specs.declared.ids.InodeId.{InodeId}
use Rattle.hs_types.specs.declared.ids.Side.TheVariants.{Source, Target}
use Rattle.hs_types.specs.declared.ids.SnapId.{SnapId}
use Rattle.hs_types.specs.declared.call.Call.{Call}
use Rattle.hs_types.specs.declared.call.Place.{Place}
use Rattle.hs_types.specs.declared.call.Place.TheVariants as places
use Rattle.hs_types.specs.declared.journal.Entry.{Entry}
use Rattle.hs_types.specs.declared.reply.Item.{Item}
use Rattle.hs_types.specs.declared.reply.Line.{Line}
use Rattle.hs_plain.specs.declared.plan.Listing.{Listing}
use Rattle.hs_plain.specs.declared.state.Member.{Member}
use Rattle.hs_plain.specs.State.{member_with}
use Rattle.hs_plain.specs.Report.{report}
use Rattle.hs_plain.specs.Replay.{plain_after}
use Rattle.hs_plain.specs.Plan.{root_names}
use Rattle.page_join.specs.Links.{Known}
use Rattle.page_join.proofs.Chains.{prefix_self, prefix_trans}
use Rattle.copy_workers.specs.declared.copied.Look.{Look}
use Rattle.distcp_sync.specs.declared.answer.SyncAnswer.{SyncAnswer}
use Rattle.distcp_sync.specs.declared.fetching.Fetched.{Fetched}
use Rattle.distcp_sync.specs.declared.start.SyncStart.{SyncStart}
use Rattle.distcp_sync.specs.inside.Queue.{first_ids, AreQueued, Lists}
use Rattle.distcp_sync.specs.inside.Trace.{HasRead, IsOfMembers, IsListedDir, IsFetchCall, IsFetched, IsFetchedWith}
use Rattle.distcp_sync.specs.inside.Fetching.{WasNamed, WasReported, begin_report, IsReportCall, IsListCall, IsGot, IsGotWith, AreUnderWay, WasShown, IsQueueCall, AreAllListed}
use Rattle.distcp_sync.proofs.Heard.{front_length}
use Rattle.distcp_sync.proofs.Queued.{queue_is_listings, waits_new}
use Rattle.distcp_sync.proofs.QueueSteps.{under_way_so, queued_so}
use Rattle.distcp_sync.proofs.PageChains.{read_none}
use Rattle.distcp_sync.proofs.Gots.{read_then, read_goes, listed_grows, HasGot, has_got, got_grows}
use Rattle.distcp_sync.proofs.FetchedTrees.{IsRooted, rooted, shown_lists, told_report}

-- ---- names

-- the names that were shown of a snapshot's directory are those of its root
named_so : (seen later : List Entry) (grown : IsPrefix seen later) (snapshot : SnapId) (member : Member (List ℕ)) (dir : InodeId) (names : Names) → member_with (plain_after seen).members snapshot ≡ Ok member → member.directory ≡ dir →
    WasNamed (length seen) later (places.Frozen dir snapshot) names → names ≡ root_names member.tree
named_so seen later grown snapshot member dir names was own named =
    let is : IsRooted member = rooted seen snapshot member was in
    named.names_are ∙ ap (map (λ (item : Item). item.name)) (shown_lists seen later grown snapshot member was dir named.items named.listed [] is.root is.at (is.same ∙ own))

-- ---- calls

lines_call : (start : SyncStart) (page : ℕ) (source : Known) (call : Call) → IsReportCall (begin_report start) page call → IsFetchCall start page source Source call
lines_call start page source call asks = subst (IsFetchCall start page source Source) (sym asks.call_is) (IsFetchCall.lines asks.cursor asks.root asks.from asks.to)

names_call : (start : SyncStart) (page : ℕ) (source : Known) (call : Call) → IsListCall (places.Frozen start.target start.base) page call → IsFetchCall start page source Target call
names_call start page source call asks = subst (IsFetchCall start page source Target) (sym asks.call_is) (IsFetchCall.names asks.after)

root_call : (start : SyncStart) (page : ℕ) (source : Known) (call : Call) → IsListCall (places.Frozen start.source start.to) page call → IsFetchCall start page source Source call
root_call start page source call asks = subst (IsFetchCall start page source Source) (sym asks.call_is) (IsFetchCall.root asks.after)

-- ---- how it ends

module _ (start : SyncStart) (page : ℕ) (source source_then target target_then : Known) where
  module _ {T : Type 0} (IsAsked : Call → Type 0) (IsContent : T → Type 0) where
    abbrev EndsSource : Known → List Look → Result T SyncAnswer → Type 0
    EndsSource now later (Ok content) = Unit {0}
    EndsSource now later (Err answer) = IsFetched start page source source_then target target_then later (Err answer)

    ends_source : (now : Known) → HasRead source now → HasRead target target_then → ((call : Call) → IsAsked call → IsFetchCall start page source Source call) → (later : List Look) (result : Result T SyncAnswer) →
        IsGot Source IsAsked IsContent now source_then later result → EndsSource now later result
    ends_source now read other turn later result (IsGot.whole content more is) = tt
    ends_source now read other turn later result (IsGot.wanting more) = IsFetched.wanting (read_then source now source_then read more) other
    ends_source now read other turn later result (IsGot.ended call look then answer more asks looked is) = IsFetched.at_source call look then answer (read_then source now then read more) other (turn call asks) looked is

    -- at the source
    pub source_ended : (now : Known) → HasRead source now → HasRead target target_then → ((call : Call) → IsAsked call → IsFetchCall start page source Source call) → (first before after : List Look) (answer : SyncAnswer) → before ≡ first →
        IsGotWith Source IsAsked IsContent now source_then before after (Err answer) → IsFetchedWith start page source source_then target target_then first after (Err answer)
    source_ended now read other turn first before after answer same with = record {
      later = with.later;
      looks = with.looks ∙ ap (λ (l : List Look). l ++ with.later) same;
      fetched = ends_source now read other turn with.later (Err answer) with.got;
    }

    ends_target : HasRead source source_then → ((call : Call) → IsAsked call → IsFetchCall start page source Target call) → (later : List Look) (result : Result T SyncAnswer) →
        IsGot Target IsAsked IsContent target target_then later result → EndsSource target later result
    ends_target read turn later result (IsGot.whole content more is) = tt
    ends_target read turn later result (IsGot.wanting more) = IsFetched.wanting read more
    ends_target read turn later result (IsGot.ended call look then answer more asks looked is) = IsFetched.at_target call look then answer read more (turn call asks) looked is

    -- at the target
    pub target_ended : HasRead source source_then → ((call : Call) → IsAsked call → IsFetchCall start page source Target call) → (first before after : List Look) (answer : SyncAnswer) → before ≡ first →
        IsGotWith Target IsAsked IsContent target target_then before after (Err answer) → IsFetchedWith start page source source_then target target_then first after (Err answer)
    target_ended read turn first before after answer same with = record {
      later = with.later;
      looks = with.looks ∙ ap (λ (l : List Look). l ++ with.later) same;
      fetched = ends_target read turn with.later (Err answer) with.got;
    }

-- ---- step by step

-- the report
module _ (start : SyncStart) (page : ℕ) (source reported target : Known) (looks looks_lines : List Look) where
  abbrev pub AreLines : Result (List Line) SyncAnswer → Type 0
  AreLines result = IsGotWith Source (IsReportCall (begin_report start) page) (WasReported (length source.seen) reported.seen (begin_report start)) source reported looks looks_lines result

  pub lines_ended : (answer : SyncAnswer) → AreLines (Err answer) → IsFetchedWith start page source reported target target looks looks_lines (Err answer)
  lines_ended answer with =
      source_ended start page source reported target target (IsReportCall (begin_report start) page) (WasReported (length source.seen) reported.seen (begin_report start))
      source (read_none source source refl) (read_none target target refl) (lines_call start page source) looks looks looks_lines answer refl with

  -- the names in the target's root
  module _ (target_then : Known) (looks_base : List Look) (lines : List Line) (with_lines : AreLines (Ok lines)) where
    abbrev got_lines : HasGot (WasReported (length source.seen) reported.seen (begin_report start)) source reported looks looks_lines lines
    got_lines = has_got Source (IsReportCall (begin_report start) page) (WasReported (length source.seen) reported.seen (begin_report start)) source reported looks looks_lines lines with_lines

    abbrev base_place : Place
    base_place = places.Frozen start.target start.base

    abbrev pub AreBaseNames : Result Names SyncAnswer → Type 0
    AreBaseNames result = IsGotWith Target (IsListCall base_place page) (WasNamed (length target.seen) target_then.seen base_place) target target_then looks_lines looks_base result

    pub base_ended : (answer : SyncAnswer) → AreBaseNames (Err answer) → IsFetchedWith start page source reported target target_then looks looks_base (Err answer)
    base_ended answer with =
        target_ended start page source reported target target_then (IsListCall base_place page) (WasNamed (length target.seen) target_then.seen base_place)
        got_lines.read (names_call start page source) looks looks_lines looks_base answer got_lines.same with

    -- the names in the source's root
    module _ (named : Known) (looks_root : List Look) (base_names : Names) (with_base : AreBaseNames (Ok base_names)) where
      abbrev got_base : HasGot (WasNamed (length target.seen) target_then.seen base_place) target target_then looks_lines looks_base base_names
      got_base = has_got Target (IsListCall base_place page) (WasNamed (length target.seen) target_then.seen base_place) target target_then looks_lines looks_base base_names with_base

      abbrev root_place : Place
      root_place = places.Frozen start.source start.to

      abbrev pub AreRootNames : Result Names SyncAnswer → Type 0
      AreRootNames result = IsGotWith Source (IsListCall root_place page) (WasNamed (length reported.seen) named.seen root_place) reported named looks_base looks_root result

      pub root_ended : (answer : SyncAnswer) → AreRootNames (Err answer) → IsFetchedWith start page source named target target_then looks looks_root (Err answer)
      root_ended answer with =
          source_ended start page source named target target_then (IsListCall root_place page) (WasNamed (length reported.seen) named.seen root_place)
          reported got_lines.read got_base.read (root_call start page source) looks looks_base looks_root answer (got_base.same ∙ got_lines.same) with

      -- the listings
      module _ (last : Known) (looks_then : List Look) (names : Names) (with_root : AreRootNames (Ok names)) where
        abbrev got_names : HasGot (WasNamed (length reported.seen) named.seen root_place) reported named looks_base looks_root names
        got_names = has_got Source (IsListCall root_place page) (WasNamed (length reported.seen) named.seen root_place) reported named looks_base looks_root names with_root

        abbrev pub AreListings : List Line → Result (List Listing) SyncAnswer → Type 0
        AreListings shown result = IsGotWith Source (IsQueueCall (length named.seen) last.seen start.to page shown) (AreAllListed (length named.seen) last.seen start.to shown) named last looks_root looks_then result

        read_named : HasRead source named
        read_named = read_then source reported named got_lines.read got_names.read

        lower : length source.seen ≤ length named.seen
        lower = front_length source.seen named.seen (read_goes source named read_named).grown

        -- what was shown is of the tree that was seen first
        shown_so : (to : Member (List ℕ)) → member_with (plain_after source.seen).members start.to ≡ Ok to → IsPrefix named.seen last.seen → (id : InodeId) (items : List Item) → WasShown (length named.seen) last.seen start.to id items → Lists to.tree id items
        shown_so to to_is grown id items shown =
            let far : IsPrefix source.seen last.seen = prefix_trans source.seen named.seen last.seen (read_goes source named read_named).grown grown in
            shown_lists source.seen last.seen far start.to to to_is id items
            (listed_grows (length named.seen) (length source.seen) last.seen last.seen (places.Frozen id start.to) items lower (prefix_self last.seen) shown)

        report_so : (from to : Member (List ℕ)) → member_with (plain_after source.seen).members start.from ≡ Ok from → member_with (plain_after source.seen).members start.to ≡ Ok to → from.directory ≡ start.source → to.directory ≡ start.source → lines ≡ report from.tree to.tree
        report_so from to from_is to_is from_own to_own = told_report source.seen reported.seen (read_goes source reported got_lines.read).grown start from to lines from_is to_is from_own to_own got_lines.is

        -- a directory that waits is new
        dir_call : IsPrefix named.seen last.seen → (call : Call) → IsQueueCall (length named.seen) last.seen start.to page lines call → IsFetchCall start page source Source call
        dir_call grown call asks = subst (IsFetchCall start page source Source) (sym asks.asks.call_is) (IsFetchCall.items asks.dir asks.asks.after new)
          where
            new : IsListedDir start source asks.dir
            new from to from_is to_is pair from_own to_own =
                waits_new from.tree to.tree pair asks.listings asks.dir asks.rest
                (subst (λ (l : List Line). AreUnderWay (Lists to.tree) l (first_ids l) asks.listings (asks.dir ∷ asks.rest)) (report_so from to from_is to_is from_own to_own)
                (under_way_so (WasShown (length named.seen) last.seen start.to) (Lists to.tree) (shown_so to to_is grown) lines (first_ids lines) asks.listings (asks.dir ∷ asks.rest) asks.under_way))

        ends_listing : (answer : SyncAnswer) → AreListings lines (Err answer) → IsFetchedWith start page source last target target_then looks looks_then (Err answer)
        ends_listing answer with =
            source_ended start page source last target target_then (IsQueueCall (length named.seen) last.seen start.to page lines) (AreAllListed (length named.seen) last.seen start.to lines)
            named read_named got_base.read
            (dir_call (got_grows Source (IsQueueCall (length named.seen) last.seen start.to page lines) (AreAllListed (length named.seen) last.seen start.to lines) named last looks_root looks_then with.later (Err answer) with.got))
            looks looks_root looks_then answer (got_names.same ∙ got_base.same ∙ got_lines.same) with

        pub listings_ended : (shown : List Line) → shown ≡ lines → (answer : SyncAnswer) → AreListings shown (Err answer) → IsFetchedWith start page source last target target_then looks looks_then (Err answer)
        listings_ended shown same answer with = ends_listing answer (subst (λ (l : List Line). AreListings l (Err answer)) same with)

        -- ---- the whole

        module _ (shown : List Line) (shown_is : shown ≡ lines) (listings : List Listing) (with_shown : AreListings shown (Ok listings)) where
          abbrev with_listings : AreListings lines (Ok listings)
          with_listings = subst (λ (l : List Line). AreListings l (Ok listings)) shown_is with_shown

          abbrev got_listings : HasGot (AreAllListed (length named.seen) last.seen start.to lines) named last looks_root looks_then listings
          got_listings = has_got Source (IsQueueCall (length named.seen) last.seen start.to page lines) (AreAllListed (length named.seen) last.seen start.to lines) named last looks_root looks_then listings with_listings

          abbrev pub fetched : Fetched
          fetched = record { lines = lines; listings = listings; roots = record { target = base_names; source = names } }

          -- the names in the source's root are those of the tree that was seen first
          root_so : (to : Member (List ℕ)) → member_with (plain_after source.seen).members start.to ≡ Ok to → to.directory ≡ start.source → names ≡ root_names to.tree
          root_so to to_is own =
              named_so source.seen named.seen (read_goes source named read_named).grown start.to to start.source names to_is own
              (record {
                items = got_names.is.items;
                listed = listed_grows (length reported.seen) (length source.seen) named.seen named.seen root_place got_names.is.items (front_length source.seen reported.seen (read_goes source reported got_lines.read).grown) (prefix_self named.seen) got_names.is.listed;
                names_are = got_names.is.names_are;
              })

          of_members : IsOfMembers start source target fetched
          of_members from to base are pair from_own to_own base_own =
              let same : lines ≡ report from.tree to.tree = report_so from to are.from_is are.to_is from_own to_own in (
                record {
                  pair = pair;
                  report_is = same;
                  listings_are =
                      queue_is_listings from.tree to.tree pair listings
                      (subst (λ (l : List Line). AreQueued (Lists to.tree) l (first_ids l) listings) same
                      (queued_so (WasShown (length named.seen) last.seen start.to) (Lists to.tree) (shown_so to are.to_is (read_goes named last got_listings.read).grown) lines (first_ids lines) listings got_listings.is));
                  names_are = root_so to are.to_is to_own;
                },
                named_so target.seen target_then.seen (read_goes target target_then got_base.read).grown start.base base start.target base_names are.base_is base_own got_base.is,
              )

          -- all was fetched
          pub all_fetched : IsFetchedWith start page source last target target_then looks looks_then (Ok fetched)
          all_fetched = record {
            later = [];
            looks = got_listings.same ∙ got_names.same ∙ got_base.same ∙ got_lines.same ∙ sym (append-nil looks);
            fetched = IsFetched.fetched fetched (read_then source named last read_named got_listings.read) got_base.read of_members;
          }

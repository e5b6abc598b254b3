-- Calls for pages, one after the other: what their pages are together, and which reply is no page.
use Rattle.std.proofs.Common.{◌≡◌, Bool, true, false, Option, Some, None, is_some, List, [], ◌∷◌, ◌++◌, map, refl, ap, sym, ◌∙◌, subst, append-nil, append_assoc}
use Rattle.std.specs.List.{flat_map}
use Rattle.hs_types.specs.declared.call.Call.{Call}
use Rattle.hs_types.specs.declared.reply.Answered.{Answered}
use Rattle.hs_types.specs.declared.reply.Reply.{Reply}
use Rattle.hs_plain.specs.Answer.{is_ok_reply}
use Rattle.hs_plain.specs.Joined.{Follows, AreFurtherPages, last_page}
use Rattle.hs_plain.specs.Legal.{Said, leaves_entry}
use Rattle.page_join.specs.Links.{Known, IsCall}
use Rattle.page_join.specs.Made.{AreMade}
use Rattle.page_join.specs.Paging.{Asks}
use Rattle.distcp_sync.specs.declared.contents.Content.{Content}
use Rattle.distcp_sync.specs.declared.contents.Content.TheVariants.{Whole, Ended}
use Rattle.distcp_sync.specs.inside.Pages.{behind_page, content_of}
use Rattle.distcp_sync.specs.inside.Trace.{HasRead}

-- what a kind of pages has: what a page holds, what it shows, the call for the next one, and why a reply may end them early
pub record IsPaging {T : Type 0} (page : Reply → Option (List T)) (shown : Reply → List T) (next : Reply → Option Call) (short : Reply → Bool) (IsAsked : Call → Type 0) : Type 0 where
  pub shows : (reply : Reply) (more : List T) → page reply ≡ Some more → shown reply ≡ more
  pub whole : (reply : Reply) (more : List T) → page reply ≡ Some more → short reply ≡ false
  pub no_next : (reply : Reply) → page reply ≡ None → next reply ≡ None
  pub quiet : (old new : Known) (call : Call) (told : Answered) → IsCall old new call told → IsAsked call → leaves_entry call told.reply ≡ false
  pub ended : (old new : Known) (call : Call) (told : Answered) → IsCall old new call told → IsAsked call → page told.reply ≡ None → is_ok_reply told.reply ≡ false
  pub goes_on : (old new : Known) (call : Call) (told : Answered) → IsCall old new call told → IsAsked call → (later : Call) → next told.reply ≡ Some later → IsAsked later

-- no page follows where no call for one is known
none_follows : (o : Option Call) (said : Said) → o ≡ None → Follows Asks o said → ⊥
none_follows None said none follows = follows
none_follows (Some call) said none follows = absurd (cc)

-- the call that follows is the one that is known
follows_is : (o : Option Call) (said : Said) → Follows Asks o said → o ≡ Some said.call
follows_is None said follows = absurd follows
follows_is (Some call) said follows = ap (λ (c : Call). Some c) (sym follows)

-- one read more in front of others
pub read_more : (old now new : Known) (said : Said) → IsCall old now said.call said.told → now.calls ≡ said.seq → leaves_entry said.call said.told.reply ≡ false → HasRead now new → HasRead old new
read_more old now new said called seq quiet rest = record {
  calls = said ∷ rest.calls;
  read = record { made = (now, called, seq, rest.read.made); unentered = (quiet, rest.read.unentered) };
}

-- nothing was read
pub read_none : (old new : Known) → new ≡ old → HasRead old new
read_none old new same = record { calls = []; read = record { made = same; unentered = tt } }

module _ {T : Type 0} (page : Reply → Option (List T)) (shown : Reply → List T) (next : Reply → Option Call) (short : Reply → Bool) (IsAsked : Call → Type 0) (is : IsPaging page shown next short IsAsked) where
  abbrev shown_by : Said → List T
  shown_by said = shown said.told.reply

  -- pages with all that they show, or the reply that is no page behind reads
  pub data IsJoin (old new : Known) (first : Said) (more : List Said) (before : List T) : Content T → Type 0 where
    whole : (content : List T) → HasRead old new → is_some (page first.told.reply) ≡ true → short (last_page first more).told.reply ≡ false → content ≡ before ++ flat_map shown_by (first ∷ more) → IsJoin old new first more before (Whole content)
    ended : (call : Call) (told : Answered) (now : Known) → HasRead old now → IsAsked call → IsCall now new call told → is_ok_reply told.reply ≡ false → IsJoin old new first more before (Ended told)

  -- behind one page the others
  behind_first : (old now new : Known) (first said : Said) (more : List Said) (before held : List T) (content : Content T) → IsCall old now first.call first.told → now.calls ≡ first.seq → IsAsked first.call → page first.told.reply ≡ Some held →
      IsJoin now new said more (before ++ held) content → IsJoin old new first (said ∷ more) before content
  behind_first old now new first said more before held content called seq asks is_page (IsJoin.whole all read some last same) =
      IsJoin.whole all (read_more old now new first called seq (is.quiet old now first.call first.told called asks) read) (ap is_some is_page) last
      (same ∙ append_assoc before held (flat_map shown_by (said ∷ more)) ∙ ap (λ (xs : List T). before ++ (xs ++ flat_map shown_by (said ∷ more))) (sym (is.shows first.told.reply held is_page)))
  behind_first old now new first said more before held content called seq asks is_page (IsJoin.ended call told then read asked last bad) =
      IsJoin.ended call told then (read_more old now then first called seq (is.quiet old now first.call first.told called asks) read) asked last bad

  -- one page alone
  only : (old new : Known) (first : Said) (before held : List T) → IsCall old new first.call first.told → new.calls ≡ first.seq → IsAsked first.call → page first.told.reply ≡ Some held → IsJoin old new first [] before (Whole (before ++ held))
  only old new first before held called seq asks is_page =
      IsJoin.whole (before ++ held) (read_more old new new first called seq (is.quiet old new first.call first.told called asks) (read_none new new refl)) (ap is_some is_page) (is.whole first.told.reply held is_page)
      (ap (λ (xs : List T). before ++ xs) (sym (append-nil held) ∙ ap (λ (xs : List T). xs ++ []) (sym (is.shows first.told.reply held is_page))))

  join_by : (old new : Known) (first : Said) (more : List Said) (before : List T) → AreMade old new (first ∷ more) → AreFurtherPages Asks (λ said. next said.told.reply) first more → IsAsked first.call →
      (o : Option (List T)) → page first.told.reply ≡ o → IsJoin old new first more before (behind_page o first.told before (λ after. content_of page after (map (λ said. said.told) more)))
  join_by old new first [] before made further asks None none =
      IsJoin.ended first.call first.told old (read_none old old refl) asks (subst (λ (k : Known). IsCall old k first.call first.told) (sym made.3) made.1) (is.ended old made.0 first.call first.told made.1 asks none)
  join_by old new first (said ∷ more) before made further asks None none = absurd (none_follows (next first.told.reply) said (is.no_next first.told.reply none) further.0)
  join_by old new first [] before made further asks (Some held) is_page =
      subst (λ (k : Known). IsJoin old k first [] before (Whole (before ++ held))) (sym made.3) (only old made.0 first before held made.1 made.2 asks is_page)
  join_by old new first (said ∷ more) before made further asks (Some held) is_page =
      behind_first old made.0 new first said more before held (content_of page (before ++ held) (map (λ said. said.told) (said ∷ more))) made.1 made.2 asks is_page
      (join_by made.0 new said more (before ++ held) made.3 further.1
      (is.goes_on old made.0 first.call first.told made.1 asks said.call (follows_is (next first.told.reply) said further.0)) (page said.told.reply) refl)

  -- calls for pages from a first one on
  pub join : (old new : Known) (first : Said) (more : List Said) (before : List T) → AreMade old new (first ∷ more) → AreFurtherPages Asks (λ said. next said.told.reply) first more → IsAsked first.call →
      IsJoin old new first more before (content_of page before (map (λ said. said.told) (first ∷ more)))
  join old new first more before made further asks = join_by old new first more before made further asks (page first.told.reply) refl

  -- none of them left an entry
  pub all_read : (old new : Known) (first : Said) (more : List Said) → AreMade old new (first ∷ more) → AreFurtherPages Asks (λ said. next said.told.reply) first more → IsAsked first.call → HasRead old new
  all_read old new first [] made further asks = read_more old made.0 new first made.1 made.2 (is.quiet old made.0 first.call first.told made.1 asks) (read_none made.0 new made.3)
  all_read old new first (said ∷ more) made further asks =
      read_more old made.0 new first made.1 made.2 (is.quiet old made.0 first.call first.told made.1 asks)
      (all_read made.0 new said more made.3 further.1 (is.goes_on old made.0 first.call first.told made.1 asks said.call (follows_is (next first.told.reply) said further.0)))

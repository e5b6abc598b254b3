-- The pages of one copy: what was read and written so far, one page more, and how a copy ends.
use Rattle.std.proofs.Common.{◌≡◌, ℕ, true, Option, Some, None, Ok, Err, Result, List, [], ◌∷◌, ◌++◌, map, refl, ap, sym, ◌∙◌, subst, inl, inr, append-nil}
use Rattle.std.specs.Option.{option_to_list}
use Rattle.std.specs.Result.{IsErrAnd}
use Rattle.std.specs.List.{filter, filter_map, cons_option, AllByRecursion}
use Rattle.std.proofs.lemmas.List.{map-append}
use Rattle.std.proofs.lemmas.List.Elements.{filter_map-append, filter-append}
use Rattle.hs_types.specs.declared.ids.CallerId.{CallerId}
use Rattle.hs_types.specs.declared.ids.Side.TheVariants.{Source, Target}
use Rattle.hs_types.specs.declared.call.Call.{Call}
use Rattle.hs_types.specs.declared.call.Call.TheVariants as calls
use Rattle.hs_types.specs.declared.call.Place.{Place}
use Rattle.hs_types.specs.declared.call.ReadCursor.{ReadCursor}
use Rattle.hs_types.specs.declared.reply.Answered.{Answered}
use Rattle.hs_plain.specs.Answer.{is_ok_reply}
use Rattle.hs_plain.specs.Joined.{bytes_shown, read_cursor, is_bytes}
use Rattle.hs_plain.specs.Legal.{Said}
use Rattle.page_join.specs.Links.{Known, said_by}
use Rattle.page_join.specs.Made.{AreMade}
use Rattle.page_join.proofs.Chains.{made_more}
use Rattle.copy_workers.specs.declared.copied.Made.{Made}
use Rattle.copy_workers.specs.declared.copied.Look.{Look}
use Rattle.copy_workers.specs.Calls.{made_by, wanting_of, IsWrite, IsChange}
use Rattle.copy_workers.specs.Copying.{ReadOn, is_filled, filled, wanted, beginning, IsCopying, IsCopyTo}
use Rattle.copy_workers.specs.inside.Pages.{ended_by, IsPage, IsAppended, IsPageCopied, IsUpTo}
use Rattle.copy_workers.proofs.Calling.{made_caller, wanted_write}

abbrev pub IsWell : Said → Type 0
IsWell said = is_ok_reply said.told.reply ≡ true

pub all_snoc : (P : Said → Type 0) (list : List Said) (last : Said) → AllByRecursion P list → P last → AllByRecursion P (list ++ last ∷ [])
all_snoc P [] last all here = (here, tt)
all_snoc P (said ∷ list) last all here = (all.0, all_snoc P list last all.1 here)

read_snoc : (cursor : Option ReadCursor) (at : ReadCursor) (reads : List Said) (last : Said) → ReadOn cursor reads (Some at) → last.call ≡ calls.ReadNext at 65536 → is_bytes last.told.reply ≡ true → ReadOn cursor (reads ++ last ∷ []) (read_cursor last.told.reply)
read_snoc cursor at [] last pages call bytes = (at, pages, call, bytes, refl)
read_snoc cursor at (said ∷ reads) last pages call bytes = (pages.0, pages.1, pages.2, pages.3, read_snoc (read_cursor said.told.reply) at reads last pages.4 call bytes)

abbrev shown : Said → List ℕ
shown said = bytes_shown said.told.reply

filled_snoc : (reads : List Said) (last : Said) → filled (reads ++ last ∷ []) ≡ filled reads ++ filled (last ∷ [])
filled_snoc reads last = ap (filter is_filled) (map-append shown reads (last ∷ [])) ∙ filter-append is_filled (map shown reads) (shown last ∷ [])

-- a page more wants what its bytes want
wanted_snoc : (path : List ℕ) (reads : List Said) (last : Said) → wanted path (reads ++ last ∷ []) ≡ wanted path reads ++ map (calls.Append path) (filled (last ∷ []))
wanted_snoc path reads last = ap (λ (pages : List (List ℕ)). calls.Create path true ∷ map (calls.Append path) pages) (filled_snoc reads last) ∙ ap (λ (more : List Call). calls.Create path true ∷ more) (map-append (calls.Append path) (filled reads) (filled (last ∷ [])))

pub wants_append : (path : List ℕ) (reads : List Said) (last : Said) (bytes : List ℕ) → shown last ≡ bytes → wanted path (reads ++ last ∷ []) ≡ wanted path reads ++ map (calls.Append path) (filter is_filled (bytes ∷ []))
wants_append path reads last bytes is = wanted_snoc path reads last ∙ ap (λ (b : List ℕ). wanted path reads ++ map (calls.Append path) (filter is_filled (b ∷ []))) is

named_one : (f : Said → Option Made) (last : Said) → filter_map f (last ∷ []) ≡ option_to_list (f last)
named_one f last = by (f last)
  where
    by : (o : Option Made) → cons_option o [] ≡ option_to_list o
    by None = refl
    by (Some made) = refl

-- a call more at the target
module _ (target new then : Known) (call : Call) (before after : List Made) (told : Answered) (writes : List Said) where
  pub named_more : AreMade target new writes → before ≡ filter_map (made_by target.caller) writes → IsWrite new then call before after told → after ≡ filter_map (made_by target.caller) (writes ++ said_by then call told ∷ [])
  named_more written named write =
      let last : Said = said_by then call told in
      write.named
      ∙ ap (λ (caller : CallerId). before ++ option_to_list (made_by caller last)) (made_caller target new writes written)
      ∙ ap (λ (l : List Made). l ++ option_to_list (made_by target.caller last)) named
      ∙ ap (λ (l : List Made). filter_map (made_by target.caller) writes ++ l) (sym (named_one (made_by target.caller) last))
      ∙ sym (filter_map-append (made_by target.caller) writes (last ∷ []))

err_ok : (look : Look) (result : Result (Unit {0}) Look) → result ≡ Err look → result ≡ Ok tt → ⊥
err_ok look result is ok = cc

-- ---- a copy goes on

-- the file was made anew
upto_first : (path : List ℕ) (place : Place) (source target then : Known) (after : List Made) (told : Answered) → is_ok_reply told.reply ≡ true → IsWrite target then (calls.Create path true) [] after told →
    IsUpTo path place source source target then after (Some (beginning place))
upto_first path place source target then after told well write = record {
  reads = [];
  writes = said_by then (calls.Create path true) told ∷ [];
  read = refl;
  written = (then, write.called, refl, refl);
  pages = refl;
  well = (well, tt);
  calls_are = refl;
  named = write.named ∙ sym (named_one (made_by target.caller) (said_by then (calls.Create path true) told));
}

module _ (path : List ℕ) (place : Place) (source now read target new : Known) (made : List Made) (cursor : ReadCursor) (up : IsUpTo path place source now target new made (Some cursor)) (told : Answered) (page : IsPage now read cursor told) where
  last_read : Said
  last_read = said_by read (calls.ReadNext cursor 65536) told

  reads_made : AreMade source read (up.reads ++ last_read ∷ [])
  unfolding last_read
  reads_made = made_more source now read up.reads last_read up.read page.called refl

  reads_on : ReadOn (Some (beginning place)) (up.reads ++ last_read ∷ []) (read_cursor told.reply)
  unfolding last_read
  reads_on = read_snoc (Some (beginning place)) cursor up.reads last_read up.pages refl page.bytes

  wants : (bytes : List ℕ) → bytes_shown told.reply ≡ bytes → wanted path (up.reads ++ last_read ∷ []) ≡ wanted path up.reads ++ map (calls.Append path) (filter is_filled (bytes ∷ []))
  unfolding last_read
  wants bytes is = wants_append path up.reads last_read bytes is

  -- a page without bytes
  upto_empty : bytes_shown told.reply ≡ [] → IsUpTo path place source read target new made (read_cursor told.reply)
  upto_empty none = record {
    reads = up.reads ++ last_read ∷ [];
    writes = up.writes;
    read = reads_made;
    written = up.written;
    pages = reads_on;
    well = up.well;
    calls_are = up.calls_are ∙ sym (wants [] none ∙ append-nil (wanted path up.reads));
    named = up.named;
  }

  -- a page whose bytes were appended
  upto_filled : (byte : ℕ) (bytes : List ℕ) → bytes_shown told.reply ≡ byte ∷ bytes → (then : Known) (after : List Made) (answered : Answered) → is_ok_reply answered.reply ≡ true → IsWrite new then (calls.Append path (byte ∷ bytes)) made after answered →
      IsUpTo path place source read target then after (read_cursor told.reply)
  upto_filled byte bytes is then after answered well write =
      let last : Said = said_by then (calls.Append path (byte ∷ bytes)) answered in
      record {
        reads = up.reads ++ last_read ∷ [];
        writes = up.writes ++ last ∷ [];
        read = reads_made;
        written = made_more target new then up.writes last up.written write.called refl;
        pages = reads_on;
        well = all_snoc IsWell up.writes last up.well well;
        calls_are =
            map-append (λ (said : Said). said.call) up.writes (last ∷ [])
            ∙ ap (λ (l : List Call). l ++ calls.Append path (byte ∷ bytes) ∷ []) up.calls_are
            ∙ sym (wants (byte ∷ bytes) is);
        named = named_more target new then (calls.Append path (byte ∷ bytes)) made after answered up.writes up.written up.named write;
      }

  upto_page : (bytes : List ℕ) → bytes_shown told.reply ≡ bytes → (then : Known) (after : List Made) → IsAppended new then path bytes made after (Ok tt) → IsUpTo path place source read target then after (read_cursor told.reply)
  upto_page [] is then after (ok, same, none) = subst (λ (k : Known). IsUpTo path place source read target k after (read_cursor told.reply)) (sym same) (subst (λ (l : List Made). IsUpTo path place source read target new l (read_cursor told.reply)) (sym none) (upto_empty is))
  upto_page (byte ∷ bytes) is then after (answered, well, write) = upto_filled byte bytes is then after answered well write

  -- the step behind a page that has bytes
  copying_filled : (byte : ℕ) (bytes : List ℕ) → bytes_shown told.reply ≡ byte ∷ bytes → IsCopying path place source read target new made (Some (record { side = Target; call = calls.Append path (byte ∷ bytes) }))
  copying_filled byte bytes is = record {
    reads = up.reads ++ last_read ∷ [];
    writes = up.writes;
    left = calls.Append path (byte ∷ bytes) ∷ [];
    cursor = read_cursor told.reply;
    read = reads_made;
    written = up.written;
    pages = reads_on;
    well = up.well;
    calls_are = ap (λ (l : List Call). l ++ calls.Append path (byte ∷ bytes) ∷ []) up.calls_are ∙ sym (wants (byte ∷ bytes) is);
    named = up.named;
    next_is = refl;
  }

  ends_appending : (bytes : List ℕ) → bytes_shown told.reply ≡ bytes → (then : Known) (after : List Made) (look : Look) → IsAppended new then path bytes made after (Err look) → IsCopyTo path place source read target then after (Some look)
  ends_appending [] is then after look (ok, same, none) = absurd (err_ok look (Err look) refl ok)
  ends_appending (byte ∷ bytes) is then after look change =
      (read, new, made, record { side = Target; call = calls.Append path (byte ∷ bytes) }, copying_filled byte bytes is, (change, refl))

-- ---- the next page

module _ (path : List ℕ) (place : Place) (source now read target new then : Known) (made after : List Made) (cursor : ReadCursor) (up : IsUpTo path place source now target new made (Some cursor)) where
  pub upto_next : (next : Option ReadCursor) → IsPageCopied path cursor now read new then made after (Ok next) → IsUpTo path place source read target then after next
  upto_next next (told, page, is, behind, appended) =
      subst (IsUpTo path place source read target then after) (sym is) (upto_page path place source now read target new made cursor up told page (bytes_shown told.reply) refl then after appended)

  copying_page : IsCopying path place source now target new made (Some (record { side = Source; call = calls.ReadNext cursor 65536 }))
  copying_page = record {
    reads = up.reads;
    writes = up.writes;
    left = [];
    cursor = Some cursor;
    read = up.read;
    written = up.written;
    pages = up.pages;
    well = up.well;
    calls_are = append-nil (map (λ (said : Said). said.call) up.writes) ∙ up.calls_are;
    named = up.named;
    next_is = refl;
  }

  pub ends_at_page : (look : Look) → IsPageCopied path cursor now read new then made after (Err look) → IsCopyTo path place source read target then after (Some look)
  ends_at_page look (inl (ends, same, none)) = (now, new, made, record { side = Source; call = calls.ReadNext cursor 65536 }, copying_page, (ends, same, none))
  ends_at_page look (inr (told, page, appended)) = ends_appending path place source now read target new made cursor up told page (bytes_shown told.reply) refl then after look appended

-- ---- the ends of a copy

pub whole : (path : List ℕ) (place : Place) (source now target new : Known) (made : List Made) → IsUpTo path place source now target new made None → IsCopyTo path place source now target new made None
whole path place source now target new made up = record {
  reads = up.reads;
  writes = up.writes;
  left = [];
  cursor = None;
  read = up.read;
  written = up.written;
  pages = up.pages;
  well = up.well;
  calls_are = append-nil (map (λ (said : Said). said.call) up.writes) ∙ up.calls_are;
  named = up.named;
  next_is = refl;
}

-- nothing was made yet
copying_create : (path : List ℕ) (place : Place) (source target : Known) (made : List Made) → made ≡ [] → IsCopying path place source source target target made (Some (record { side = Target; call = calls.Create path true }))
copying_create path place source target made none = record {
  reads = [];
  writes = [];
  left = calls.Create path true ∷ [];
  cursor = Some (beginning place);
  read = refl;
  written = refl;
  pages = refl;
  well = tt;
  calls_are = refl;
  named = none;
  next_is = refl;
}

pub ends_at_create : (path : List ℕ) (place : Place) (source target then : Known) (before after : List Made) (look : Look) → before ≡ [] → IsChange target then (calls.Create path true) before after (Err look) → IsCopyTo path place source source target then after (Some look)
ends_at_create path place source target then before after look none change =
    (source, target, before, record { side = Target; call = calls.Create path true }, copying_create path place source target before none, (change, refl))

-- ---- a result of an error that came from another

pub err_at : (result : Result (Unit {0}) Look) (look : Look) (P : Option Look → Type 0) → IsErrAnd result (λ given. given ≡ look) → P (Some look) → P (ended_by result)
err_at (Ok done) look P gives p = absurd gives
err_at (Err given) look P gives p = subst (λ (l : Look). P (Some l)) (sym gives) p

pub upto_begun : (path : List ℕ) (place : Place) (source target then : Known) (before after : List Made) → before ≡ [] → IsChange target then (calls.Create path true) before after (Ok tt) → IsUpTo path place source source target then after (Some (beginning place))
upto_begun path place source target then before after none (told, well, write) =
    upto_first path place source target then after told well (subst (λ (l : List Made). IsWrite target then (calls.Create path true) l after told) none write)

pub ends_at_text : (path : List ℕ) (place : Place) (source target : Known) (made : List Made) (look : Look) → made ≡ [] → look ≡ wanting_of Target target.caller → IsCopyTo path place source source target target made (Some look)
ends_at_text path place source target made look none is =
    ends_at_create path place source target target made made look none (subst (λ (l : Look). IsChange target target (calls.Create path true) made made (Err l)) (sym is) (wanted_write target target (calls.Create path true) made made refl refl))

-- Lists cut by name, lines by index and bytes by offset.
use Rattle.std.proofs.Common.{◌≡◌, inl, inr, ℕ, zero, suc, ◌+◌, ◌-◌, ◌<◌, ◌≤◌, nat_le, append-nil, Bool, true, false, cond, Option, Some, None, List, [], ◌∷◌, ◌++◌, take, drop, length, slice_get, refl, ap, sym, ◌∙◌, subst, arith}
use Rattle.std.specs.List.{filter, AllByRecursion}
use Rattle.std.specs.Ordering.{nat_cmp, is_lt, ordering_reverse}
use Rattle.std.specs.declared.cmp.Ordering.{Ordering}
use Rattle.std.specs.declared.cmp.Ordering.TheVariants.{Less, Equal, Greater}
use Rattle.std.specs.Cmp.Lexicographic.{slice_cmp}
use Rattle.std.proofs.lemmas.Bool.Decides.{nat_tests}
use Rattle.std.proofs.lemmas.Cmp.{nat_list_cmp_total}
use Rattle.std.proofs.lemmas.List.{take-append-drop, take_all}
use Rattle.hs_types.specs.declared.call.ListCursor.{ListCursor}
use Rattle.hs_types.specs.declared.call.ReportCursor.{ReportCursor}
use Rattle.hs_types.specs.declared.call.Place.{Place}
use Rattle.hs_types.specs.declared.reply.Item.{Item}
use Rattle.hs_types.specs.declared.reply.Reply.{Reply}
use Rattle.hs_plain.specs.Pages.{is_behind, items_behind, last_name, name_of, next_cursor}
use Rattle.hs_plain.specs.Joined.{items_shown, list_cursor, lines_shown, report_cursor, bytes_shown, read_cursor}
use Rattle.hs_plain.specs.inside.Cuts.{NamesRise, IsPageOf, IsLinesPage, IsBytesPage, CutByName, CutByIndex, CutByOffset}
use Rattle.hs_plain.proofs.Joined.{Shows, joined, whole_joined, shows_cut}

lesser : (o : Ordering) → is_lt o ≡ true → o ≡ Less
lesser Less so = refl
lesser Equal so = cc
lesser Greater so = cc

-- what stands behind a greater name stands behind a lesser one
behind-trans : (a : List ℕ) (b c : Item) → is_behind a b ≡ true → is_behind b.name c ≡ true → is_behind a c ≡ true
behind-trans a b c ab bc = ap is_lt (nat_list_cmp_total.trans a b.name c.name (lesser _ ab) (lesser _ bc))

behind-self : (a : Item) → is_behind a.name a ≡ false
behind-self a = by (slice_cmp nat_cmp a.name a.name) (nat_list_cmp_total.antisymm a.name a.name)
  where
    by : (o : Ordering) → o ≡ ordering_reverse o → is_lt o ≡ false
    by Less e = absurd (less_greater e)
      where
        less_greater : Less ≡ Greater → ⊥
        less_greater e = cc
    by Equal e = refl
    by Greater e = refl

yes_no : (b : Bool) → b ≡ true → b ≡ false → ⊥
yes_no b e f = cc

no_from : (b : Bool) → (b ≡ true → ⊥) → b ≡ false
no_from true never = absurd (never refl)
no_from false never = refl

-- of two names only one is behind the other
behind-once : (a b : Item) → is_behind a.name b ≡ true → is_behind b.name a ≡ false
behind-once a b ab = no_from (is_behind b.name a) (λ ba. yes_no (is_behind a.name a) (behind-trans a.name b a ab ba) (behind-self a))

-- ---- filters

filter_all : (p : Item → Bool) (items : List Item) → AllByRecursion (λ y. p y ≡ true) items → filter p items ≡ items
filter_all p [] all = refl
filter_all p (x ∷ items) all = ap (λ b. cond b (x ∷ filter p items) (filter p items)) all.0 ∙ ap (λ (ys : List Item). x ∷ ys) (filter_all p items all.1)

all_filter : (p : Item → Bool) (items : List Item) → AllByRecursion (λ y. p y ≡ true) (filter p items)
all_filter p [] = tt
all_filter p (x ∷ items) =
    elim (p x) as (λ b. b ≡ p x → AllByRecursion (λ y. p y ≡ true) (cond b (x ∷ filter p items) (filter p items))) [
      | true ↦ λ e. (sym e, all_filter p items)
      | false ↦ λ e. all_filter p items
    ] refl

all_kept : (P : Item → Type 0) (p : Item → Bool) (items : List Item) → AllByRecursion P items → AllByRecursion P (filter p items)
all_kept P p [] all = tt
all_kept P p (x ∷ items) all =
    elim (p x) as (λ b. AllByRecursion P (cond b (x ∷ filter p items) (filter p items))) [
      | true ↦ (all.0, all_kept P p items all.1)
      | false ↦ all_kept P p items all.1
    ]

pub rise-filter : (p : Item → Bool) (items : List Item) → NamesRise items → NamesRise (filter p items)
rise-filter p [] rise = tt
rise-filter p (x ∷ items) rise =
    elim (p x) as (λ b. NamesRise (cond b (x ∷ filter p items) (filter p items))) [
      | true ↦ (all_kept (λ other. is_behind x.name other ≡ true) p items rise.0, rise-filter p items rise.1)
      | false ↦ rise-filter p items rise.1
    ]

filter_twice : (p q : Item → Bool) (items : List Item) → ((y : Item) → q y ≡ true → p y ≡ true) → filter q items ≡ filter q (filter p items)
filter_twice p q [] within = refl
filter_twice p q (x ∷ items) within =
    elim (p x) as (λ b. b ≡ p x → cond (q x) (x ∷ filter q items) (filter q items) ≡ filter q (cond b (x ∷ filter p items) (filter p items))) [
      | true ↦ λ e. ap (λ (ys : List Item). cond (q x) (x ∷ ys) ys) (filter_twice p q items within)
      | false ↦ λ e. ap (λ b. cond b (x ∷ filter q items) (filter q items)) (no_from (q x) (λ yes. yes_no (p x) (within x yes) (sym e))) ∙ filter_twice p q items within
    ] refl

-- ---- cuts

middle : (P : Item → Type 0) (front : List Item) (x : Item) (rest : List Item) → AllByRecursion P (front ++ x ∷ rest) → P x
middle P [] x rest all = all.0
middle P (y ∷ front) x rest all = middle P front x rest all.1

behind_at : (front : List Item) (x : Item) (rest : List Item) → NamesRise (front ++ x ∷ rest) → filter (is_behind x.name) (front ++ x ∷ rest) ≡ rest
behind_at [] x rest rise = ap (λ b. cond b (x ∷ filter (is_behind x.name) rest) (filter (is_behind x.name) rest)) (behind-self x) ∙ filter_all (is_behind x.name) rest rise.0
behind_at (y ∷ front) x rest rise =
    ap (λ b. cond b (y ∷ filter (is_behind x.name) (front ++ x ∷ rest)) (filter (is_behind x.name) (front ++ x ∷ rest))) (behind-once y x (middle (λ other. is_behind y.name other ≡ true) front x rest rise.0))
    ∙ behind_at front x rest rise.1

last-cons : (y z : Item) (zs : List Item) → last_name (y ∷ z ∷ zs) ≡ last_name (z ∷ zs)
last-cons y z zs =
    ap (λ n. name_of (slice_get (y ∷ z ∷ zs) n)) {x = length (y ∷ z ∷ zs) - 1} {y = suc (length zs)} (omega arith)
    ∙ ap (λ n. name_of (slice_get (z ∷ zs) n)) {x = length zs} {y = length (z ∷ zs) - 1} (omega arith)

-- the last item of a front
record LastOf (items : List Item) (n : ℕ) : Type 0 where
  x : Item
  split : take n items ++ x ∷ drop (suc n) items ≡ items
  last : last_name (take (suc n) items) ≡ Some x.name

last_of_front : (items : List Item) (n : ℕ) → n < length items → LastOf items n
last_of_front [] n lt = absurd (omega (arith, lt))
last_of_front (y ∷ items) zero lt = record { x = y; split = refl; last = refl }
last_of_front (y ∷ []) (suc n) lt = absurd (omega (arith, lt))
last_of_front (y ∷ z ∷ items) (suc n) lt =
    let more : LastOf (z ∷ items) n = last_of_front (z ∷ items) n (omega (arith, lt)) in
    record { x = more.x; split = ap (λ (ys : List Item). y ∷ ys) more.split; last = last-cons y z (take n items) ∙ more.last }

cut_from : (items left : List Item) (n : ℕ) → NamesRise left → n < length left → ((x : Item) → AllByRecursion (λ y. (y.name ≡ x.name) → filter (is_behind y.name) items ≡ filter (is_behind y.name) left) left) →
    items_behind (last_name (take (suc n) left)) items ≡ drop (suc n) left
cut_from items left n rise lt same =
    let at : LastOf left n = last_of_front left n lt in
    ap (λ (name : Option (List ℕ)). items_behind name items) at.last
    ∙ middle (λ y. (y.name ≡ at.x.name) → filter (is_behind y.name) items ≡ filter (is_behind y.name) left) (take n left) at.x (drop (suc n) left) (subst (λ (l : List Item). AllByRecursion (λ y. (y.name ≡ at.x.name) → filter (is_behind y.name) items ≡ filter (is_behind y.name) left) l) (sym at.split) (same at.x)) refl
    ∙ ap (λ (l : List Item). filter (is_behind at.x.name) l) (sym at.split)
    ∙ behind_at (take n left) at.x (drop (suc n) left) (subst NamesRise (sym at.split) rise)

all_of : (P : Item → Type 0) (items : List Item) → ((y : Item) → P y) → AllByRecursion P items
all_of P [] each = tt
all_of P (x ∷ items) each = (each x, all_of P items each)

all_map : (P Q : Item → Type 0) (items : List Item) → ((y : Item) → P y → Q y) → AllByRecursion P items → AllByRecursion Q items
all_map P Q [] each all = tt
all_map P Q (x ∷ items) each all = (each x all.0, all_map P Q items each all.1)

pub rise-behind : (from : Option (List ℕ)) (items : List Item) → NamesRise items → NamesRise (items_behind from items)
rise-behind None items rise = rise
rise-behind (Some name) items rise = rise-filter (is_behind name) items rise

cut_suc : (from : Option (List ℕ)) (items : List Item) (n : ℕ) → NamesRise items → n < length (items_behind from items) →
    items_behind (last_name (take (suc n) (items_behind from items))) items ≡ drop (suc n) (items_behind from items)
cut_suc None items n rise lt = cut_from items items n rise lt (λ x. all_of _ items (λ y e. refl))
cut_suc (Some name) items n rise lt =
    cut_from items (filter (is_behind name) items) n (rise-filter (is_behind name) items rise) lt
    (λ x. all_map (λ y. is_behind name y ≡ true) _ (filter (is_behind name) items) (λ y here e. filter_twice (is_behind name) (is_behind y.name) items (λ z yz. behind-trans name y z here yz)) (all_filter (is_behind name) items))

-- the page behind the last name of a page is cut right behind that page
pub cut_by_name : (from : Option (List ℕ)) (items : List Item) (size : ℕ) → NamesRise items → 1 ≤ size → size < length (items_behind from items) →
    items_behind (last_name (take size (items_behind from items))) items ≡ drop size (items_behind from items)
cut_by_name from items zero rise one lt = absurd (omega (arith, one))
cut_by_name from items (suc n) rise one lt = cut_suc from items n rise (omega (arith, lt))

-- ---- pages of a list

-- the cursors of one place
abbrev pub IsAt : Place → ListCursor → Type 0
IsAt place cursor = cursor.place ≡ place

module _ {S : Type 0} (goes_on : S → ListCursor → Type 0) (cursor_in : S → Option ListCursor) (shown : S → List Item) (is_cut_short : S → Bool) where
  pub shows_items : (place : Place) (items : List Item) (size : ℕ) (from : Option (List ℕ)) (page : S) → NamesRise items → 1 ≤ size → shown page ≡ take size (items_behind from items) → cursor_in page ≡ next_cursor place (items_behind from items) size →
      Shows goes_on cursor_in shown is_cut_short (λ cursor. items_behind cursor.after items) (IsAt place) (items_behind from items) page
  shows_items place items size from page rise one shows goes =
      by (nat_le (length (items_behind from items)) size) refl
    where
      by : (b : Bool) → nat_le (length (items_behind from items)) size ≡ b → Shows goes_on cursor_in shown is_cut_short (λ cursor. items_behind cursor.after items) (IsAt place) (items_behind from items) page
      by true e =
          inr (
            [],
            append-nil (shown page) ∙ shows ∙ take_all size (items_behind from items) (grind (arith, nat_tests)),
            inl (goes ∙ ap (λ b. cond b None (Some (record { place = place; after = last_name (take size (items_behind from items)) }))) e, refl),
          )
      by false e =
          inr (
            drop size (items_behind from items),
            ap (λ (xs : List Item). xs ++ drop size (items_behind from items)) shows ∙ take-append-drop size (items_behind from items),
            inr (
              record { place = place; after = last_name (take size (items_behind from items)) },
              goes ∙ ap (λ b. cond b None (Some (record { place = place; after = last_name (take size (items_behind from items)) }))) e,
              refl,
              cut_by_name from items size rise one (grind (arith, nat_tests)),
            ),
          )

-- nothing is asked of a page
abbrev Any : Reply → Type 0
Any page = Unit {0}

any_all : (more : List Reply) → AllByRecursion Any more
any_all [] = tt
any_all (page ∷ more) = (tt, any_all more)

abbrev never : Reply → Bool
never page = false

pub cut-by_name : CutByName
cut-by_name place items after first more rise is further =
    whole_joined items_shown first more (items_behind after items)
    (joined (λ page cursor. IsPageOf place items cursor.after page) list_cursor items_shown never (λ cursor. items_behind cursor.after items) (IsAt place) Any
    (λ page cursor any at goes. shows cursor.after page goes)
    first more (items_behind after items) (shows after first is) further (any_all more))
  where
    shows : (from : Option (List ℕ)) (page : Reply) → IsPageOf place items from page → Shows (λ page cursor. IsPageOf place items cursor.after page) list_cursor items_shown never (λ cursor. items_behind cursor.after items) (IsAt place) (items_behind from items) page
    shows from page is = shows_items (λ page cursor. IsPageOf place items cursor.after page) list_cursor items_shown never place items is.size from page rise is.above (ap items_shown is.is) (ap list_cursor is.is)

abbrev Anywhere : {C : Type 0} → C → Type 0
Anywhere cursor = Unit {0}

pub cut-by_index : CutByIndex
cut-by_index began lines cursor first more is further =
    whole_joined lines_shown first more (drop cursor.index lines)
    (joined (λ page cursor. IsLinesPage began lines cursor page) report_cursor lines_shown never (λ cursor. drop cursor.index lines) Anywhere Any
    (λ page cursor any at goes. shows cursor page goes)
    first more (drop cursor.index lines) (shows cursor first is) further (any_all more))
  where
    shows : (from : ReportCursor) (page : Reply) → IsLinesPage began lines from page → Shows (λ page cursor. IsLinesPage began lines cursor page) report_cursor lines_shown never (λ cursor. drop cursor.index lines) Anywhere (drop from.index lines) page
    shows from page is = shows_cut (λ page cursor. IsLinesPage began lines cursor page) report_cursor lines_shown never (λ cursor. cursor.index) Anywhere lines from.index is.size page (record from { tick = Some began; index = from.index + is.size }) (ap lines_shown is.is) (ap report_cursor is.is) (λ left. tt) refl

pub cut-by_offset : CutByOffset
cut-by_offset place bytes offset first more is further =
    whole_joined bytes_shown first more (drop offset bytes)
    (joined (λ page cursor. IsBytesPage place bytes cursor.offset page) read_cursor bytes_shown never (λ cursor. drop cursor.offset bytes) Anywhere Any
    (λ page cursor any at goes. shows cursor.offset page goes)
    first more (drop offset bytes) (shows offset first is) further (any_all more))
  where
    shows : (from : ℕ) (page : Reply) → IsBytesPage place bytes from page → Shows (λ page cursor. IsBytesPage place bytes cursor.offset page) read_cursor bytes_shown never (λ cursor. drop cursor.offset bytes) Anywhere (drop from bytes) page
    shows from page is = shows_cut (λ page cursor. IsBytesPage place bytes cursor.offset page) read_cursor bytes_shown never (λ cursor. cursor.offset) Anywhere bytes from is.len page (record { place = place; offset = from + is.len }) (ap bytes_shown is.is) (ap read_cursor is.is) (λ left. tt) refl

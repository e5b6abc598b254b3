-- A text below a root that breaks no path rule stands for its path, where the path's names may be parts of a text.
use Rattle.std.proofs.Common.{◌≡◌, ℕ, zero, suc, ◌+◌, ◌<◌, ◌≤◌, Bool, true, false, not, ◌&&◌, nat_le, nat_lt, bytes_eq, codes, cond, List, [], ◌∷◌, ◌++◌, length, take, drop, Ok, refl, ap, sym, ◌∙◌, append-nil, le-leb, leb-true, arith}
use Rattle.std.specs.Prelude.{◌/◌, ◌%◌, ◌==◌}
use Rattle.std.specs.List.{list_any, list_all, flat_map, slice_split, onto_first, position_or_len, AllByRecursion}
use Rattle.std.specs.Fmt.{decimal, digits, digits_onto, digit_glyph}
use Rattle.std.proofs.lemmas.Bool.Decides.{Decides-eqb}
use Rattle.std.proofs.lemmas.List.{take_all, drop_all}
use Rattle.std.proofs.lemmas.List.Folds.{list_any-append}
use Rattle.std.proofs.lemmas.List.Splits.{slice_split-cons_yes, slice_split-cons_no}
use Rattle.hs_types.specs.Names.{Names, is_slash, is_nul, is_dots, is_snapshot_word, is_name}
use Rattle.hs_types.specs.Paths.{components, component_text, tail_at, path_from, path_of}
use Rattle.hs_types.specs.declared.path.Path.{Path}
use Rattle.hs_plain.specs.Asked.{Asked, ◌>>=◌}
use Rattle.hs_plain.specs.State.{plain_base, plain_of}
use Rattle.hs_plain.specs.Modifying.{live_path}
use Rattle.hs_plain.specs.Valid.{are_names}
use Rattle.hs_plain.specs.Plan.{tmp_word, tmp_name, has_name, first_free, text_below}
use Rattle.hs_plain.proofs.ValidTrees.{both, first, second}
use Rattle.hs_plain.proofs.ValidShapes.{true_false}
use Rattle.hs_plain.proofs.ValidLists.{neither, neither_first, neither_second}
use Rattle.hs_plain.proofs.ValidNames.{path-read, live-named}
use Rattle.plan_laws.specs.Bridge.{Leads}
use Rattle.plan_laws.proofs.Paths.{by}
use Rattle.plan_laws.proofs.Near.{live-is}

-- ---- parts

-- a name that the text of a path shows as a part: not empty, without a slash, and not `.snapshot`
pub record IsPart (name : List ℕ) : Type 0 where
  pub some : bytes_eq name [] ≡ false
  pub no_slash : list_any is_slash name ≡ false
  pub no_word : is_snapshot_word name ≡ false

part-tests : (empty short slash nul dots word : Bool) → (not empty && short && not slash && not nul && not dots && not word) ≡ true → (empty ≡ false) × (slash ≡ false) × (word ≡ false)
part-tests true short slash nul dots word h = absurd (true_false h refl)
part-tests false false slash nul dots word h = absurd (true_false h refl)
part-tests false true true nul dots word h = absurd (true_false h refl)
part-tests false true false true dots word h = absurd (true_false h refl)
part-tests false true false false true word h = absurd (true_false h refl)
part-tests false true false false false true h = absurd (true_false h refl)
part-tests false true false false false false h = (refl, refl, refl)

part-of : (name : List ℕ) → is_name name ≡ true → IsPart name
part-of name h =
    let w = part-tests (bytes_eq name []) (nat_le (length name) 255) (list_any is_slash name) (list_any is_nul name) (is_dots name) (is_snapshot_word name) h in
    record { some = w.0; no_slash = w.1; no_word = w.2 }

pub parts-of : (names : Names) → are_names names ≡ true → AllByRecursion IsPart names
parts-of [] h = tt
parts-of (name ∷ names) h = (part-of name (first (is_name name) _ h), parts-of names (second (is_name name) _ h))

no-words : (names : Names) → AllByRecursion IsPart names → list_any is_snapshot_word names ≡ false
no-words [] are = refl
no-words (name ∷ names) are = neither are.0.no_word (no-words names are.1)

-- ---- digits

-- a byte that is no digit nor above them
abbrev is_high : ℕ → Bool
is_high byte = nat_le 48 byte

high-other : (x c : ℕ) → c < 48 → is_high x ≡ true → (x == c) ≡ false
high-other x c low high = by (x == c) (λ t. absurd (apart ((Decides-eqb x c).0 t) (leb-true 48 x high))) (λ f. f)
  where
    apart : x ≡ c → 48 ≤ x → ⊥
    apart e le = omega arith

high-glyph : (d : ℕ) → is_high (digit_glyph false d) ≡ true
high-glyph d = elim (nat_lt d 10) as (λ b. nat_le 48 (cond b (48 + d) (87 + d)) ≡ true) [ true ↦ le-leb 48 (48 + d) (omega arith) | false ↦ le-leb 48 (87 + d) (omega arith) ]

high-digits : (k n : ℕ) (acc : List ℕ) → list_all is_high acc ≡ true → list_all is_high (digits_onto k 10 false n acc) ≡ true
high-digits zero n acc h = h
high-digits (suc k) n acc h =
    let more : list_all is_high (digit_glyph false (n % 10) ∷ acc) ≡ true = both (high-glyph (n % 10)) h in
    let rest : list_all is_high (digits_onto k 10 false (n / 10) (digit_glyph false (n % 10) ∷ acc)) ≡ true = high-digits k (n / 10) (digit_glyph false (n % 10) ∷ acc) more in
    elim (n / 10 == 0) as (λ b. list_all is_high (cond b (digit_glyph false (n % 10) ∷ acc) (digits_onto k 10 false (n / 10) (digit_glyph false (n % 10) ∷ acc))) ≡ true) [ true ↦ more | false ↦ rest ]

some-onto : (k n d : ℕ) (acc : List ℕ) → bytes_eq (digits_onto k 10 false n (d ∷ acc)) [] ≡ false
some-onto zero n d acc = refl
some-onto (suc k) n d acc =
    let rest : bytes_eq (digits_onto k 10 false (n / 10) (digit_glyph false (n % 10) ∷ d ∷ acc)) [] ≡ false = some-onto k (n / 10) (digit_glyph false (n % 10)) (d ∷ acc) in
    elim (n / 10 == 0) as (λ b. bytes_eq (cond b (digit_glyph false (n % 10) ∷ d ∷ acc) (digits_onto k 10 false (n / 10) (digit_glyph false (n % 10) ∷ d ∷ acc))) [] ≡ false) [ true ↦ refl | false ↦ rest ]

some-digits : (k n : ℕ) → bytes_eq (digits_onto (suc k) 10 false n []) [] ≡ false
some-digits k n =
    let rest : bytes_eq (digits_onto k 10 false (n / 10) (digit_glyph false (n % 10) ∷ [])) [] ≡ false = some-onto k (n / 10) (digit_glyph false (n % 10)) [] in
    elim (n / 10 == 0) as (λ b. bytes_eq (cond b (digit_glyph false (n % 10) ∷ []) (digits_onto k 10 false (n / 10) (digit_glyph false (n % 10) ∷ []))) [] ≡ false) [ true ↦ refl | false ↦ rest ]

decimal-high : (n : ℕ) → list_all is_high (decimal n) ≡ true
unfolding digits
decimal-high n = high-digits 64 n [] refl

decimal-some : (n : ℕ) → bytes_eq (decimal n) [] ≡ false
unfolding digits
decimal-some n = some-digits 63 n

high-no_slash : (bytes : List ℕ) → list_all is_high bytes ≡ true → list_any is_slash bytes ≡ false
high-no_slash [] h = refl
high-no_slash (byte ∷ bytes) h = neither (high-other byte 47 (omega arith) (first (is_high byte) _ h)) (high-no_slash bytes (second (is_high byte) _ h))

high-no_word : (bytes : List ℕ) → list_all is_high bytes ≡ true → is_snapshot_word bytes ≡ false
high-no_word [] h = refl
high-no_word (byte ∷ bytes) h = ap (λ b. b && bytes_eq bytes (codes "snapshot")) (high-other byte 46 (omega arith) (first (is_high byte) _ h))

pub decimal-part : (n : ℕ) → IsPart (decimal n)
decimal-part n = record { some = decimal-some n; no_slash = high-no_slash (decimal n) (decimal-high n); no_word = high-no_word (decimal n) (decimal-high n) }

-- ---- the temporary directory's name

tmp-part : (n : ℕ) → IsPart (tmp_name n)
tmp-part zero = record { some = refl; no_slash = refl; no_word = refl }
tmp-part (suc n) = record {
  some = refl;
  no_slash = list_any-append is_slash tmp_word (decimal (suc n)) ∙ (decimal-part (suc n)).no_slash;
  no_word = refl;
}

pub free-part : (taken : Names) (more n : ℕ) → IsPart (first_free taken more n)
free-part taken zero n = tmp-part n
free-part taken (suc more) n =
    let next : IsPart (first_free taken more (n + 1)) = free-part taken more (n + 1) in
    elim (has_name taken (tmp_name n)) as (λ b. IsPart (cond b (first_free taken more (n + 1)) (tmp_name n))) [ true ↦ next | false ↦ tmp-part n ]

-- ---- a text cut at its slashes

some-part : (bytes : List ℕ) → (head : List ℕ) × (tail : Names) × (slice_split is_slash bytes ≡ head ∷ tail)
some-part [] = ([], [], refl)
some-part (byte ∷ bytes) =
    let w : (head : List ℕ) × (tail : Names) × (slice_split is_slash bytes ≡ head ∷ tail) = some-part bytes in
    by (is_slash byte)
    (λ t. ([], slice_split is_slash bytes, slice_split-cons_yes is_slash byte bytes t))
    (λ f. (byte ∷ w.0, w.1, slice_split-cons_no is_slash byte bytes f ∙ ap (onto_first byte) w.2))

onto-more : (byte : ℕ) (parts more : Names) (head : List ℕ) (tail : Names) → parts ≡ head ∷ tail → onto_first byte (parts ++ more) ≡ onto_first byte parts ++ more
onto-more byte parts more head tail e = ap (λ (p : Names). onto_first byte (p ++ more)) e ∙ ap (λ (p : Names). onto_first byte p ++ more) (sym e)

drop-more : (parts more : Names) (head : List ℕ) (tail : Names) → parts ≡ head ∷ tail → drop 1 (parts ++ more) ≡ drop 1 parts ++ more
drop-more parts more head tail e = ap (λ (p : Names). drop 1 (p ++ more)) e ∙ ap (λ (p : Names). drop 1 p ++ more) (sym e)

cut-whole : (name : List ℕ) → list_any is_slash name ≡ false → slice_split is_slash name ≡ name ∷ []
cut-whole [] h = refl
cut-whole (byte ∷ bytes) h = slice_split-cons_no is_slash byte bytes (neither_first (is_slash byte) _ h) ∙ ap (onto_first byte) (cut-whole bytes (neither_second (is_slash byte) _ h))

-- a text that goes on at a slash
cut-front : (front rest : List ℕ) (names : Names) → slice_split is_slash rest ≡ [] ∷ names → slice_split is_slash (front ++ rest) ≡ slice_split is_slash front ++ names
cut-front [] rest names e = e
cut-front (byte ∷ bytes) rest names e =
    let w = some-part bytes in
    let more : slice_split is_slash (bytes ++ rest) ≡ slice_split is_slash bytes ++ names = cut-front bytes rest names e in
    by (is_slash byte)
    (λ t. slice_split-cons_yes is_slash byte (bytes ++ rest) t ∙ ap (λ (p : Names). [] ∷ p) more ∙ ap (λ (p : Names). p ++ names) (sym (slice_split-cons_yes is_slash byte bytes t)))
    (λ f. slice_split-cons_no is_slash byte (bytes ++ rest) f ∙ ap (onto_first byte) more ∙ onto-more byte (slice_split is_slash bytes) names w.0 w.1 w.2 ∙ ap (λ (p : Names). p ++ names) (sym (slice_split-cons_no is_slash byte bytes f)))

cut-names : (name : List ℕ) (names : Names) → AllByRecursion IsPart (name ∷ names) → slice_split is_slash (flat_map component_text (name ∷ names)) ≡ [] ∷ name ∷ names
cut-names name [] are = slice_split-cons_yes is_slash 47 (name ++ []) refl ∙ ap (λ (p : Names). [] ∷ p) (ap (slice_split is_slash) (append-nil name) ∙ cut-whole name are.0.no_slash)
cut-names name (next ∷ names) are =
    slice_split-cons_yes is_slash 47 (name ++ flat_map component_text (next ∷ names)) refl
    ∙ ap (λ (p : Names). [] ∷ p) (cut-front name (flat_map component_text (next ∷ names)) (next ∷ names) (cut-names next names are.1) ∙ ap (λ (p : Names). p ++ next ∷ names) (cut-whole name are.0.no_slash))

-- ---- the components of a text below a root

and-false : (b : Bool) → (b && false) ≡ false
and-false true = refl
and-false false = refl

longer : (front : List ℕ) (byte : ℕ) (rest : List ℕ) → bytes_eq (front ++ 47 ∷ byte ∷ rest) (codes "/") ≡ false
longer [] byte rest = refl
longer (a ∷ []) byte rest = and-false (a == 47)
longer (a ∷ b ∷ front) byte rest = and-false (a == 47)

not-slash : (front name : List ℕ) (path : Names) → bytes_eq name [] ≡ false → bytes_eq (front ++ flat_map component_text (name ∷ path)) (codes "/") ≡ false
not-slash front [] path h = absurd (true_false refl h)
not-slash front (byte ∷ bytes) path h = longer front byte (bytes ++ flat_map component_text path)

components-cut : (text : List ℕ) → bytes_eq text (codes "/") ≡ false → components text ≡ drop 1 (slice_split is_slash text)
components-cut text f = ap (λ b. cond b [] (drop 1 (slice_split is_slash text))) f

components-below : (root : List ℕ) (path : Names) → AllByRecursion IsPart path → components (text_below root path) ≡ components root ++ path
components-below root [] are = sym (append-nil (components root))
components-below root (name ∷ path) are =
    let below : List ℕ = flat_map component_text (name ∷ path) in
    by (bytes_eq root (codes "/"))
    (λ t.
    ap (λ b. components (cond b [] root ++ below)) t
    ∙ components-cut below (not-slash [] name path are.0.some) ∙ ap (drop 1) (cut-names name path are)
    ∙ ap (λ b. cond b [] (drop 1 (slice_split is_slash root)) ++ name ∷ path) (sym t))
    (λ f. let w = some-part root in
    ap (λ b. components (cond b [] root ++ below)) f
    ∙ components-cut (root ++ below) (not-slash root name path are.0.some) ∙ ap (drop 1) (cut-front root below (name ∷ path) (cut-names name path are))
    ∙ drop-more (slice_split is_slash root) (name ∷ path) w.0 w.1 w.2 ∙ ap (λ (p : Names). p ++ name ∷ path) (sym (components-cut root f)))

-- ---- the path that it stands for

no-place : (names : Names) → list_any is_snapshot_word names ≡ false → position_or_len is_snapshot_word names ≡ length names
no-place [] h = refl
no-place (name ∷ names) h =
    let rest : position_or_len is_snapshot_word names ≡ length names = no-place names (neither_second (is_snapshot_word name) _ h) in
    let next : 1 + position_or_len is_snapshot_word names ≡ suc (length names) = omega arith in
    ap (λ b. cond (not b) (1 + position_or_len is_snapshot_word names) 0) (neither_first (is_snapshot_word name) _ h) ∙ next

plain-path : (names : Names) → list_any is_snapshot_word names ≡ false → plain_of (path_from names) ≡ Ok names
plain-path names h =
    ap (λ n. plain_base (take n names) (tail_at (drop n names))) (no-place names h)
    ∙ ap (λ (base : Names). plain_base base (tail_at (drop (length names) names))) (take_all (length names) names (omega arith))
    ∙ ap (λ (rest : Names). plain_base names (tail_at rest)) (drop_all (length names) names (omega arith))

-- a text breaks no path rule
abbrev pub IsAllowed : List ℕ → Type 0
IsAllowed text = (path : Path) × (path_of text ≡ Ok path)

leads-so : (text : List ℕ) (names : Names) → components text ≡ names → list_any is_snapshot_word names ≡ false → IsAllowed text → live_path text ≡ Ok names
leads-so text names parts none allowed =
    ap (λ (read : Asked Path). read >>= plain_of) allowed.1 ∙ ap plain_of (sym (path-read text allowed.0 allowed.1).from) ∙ ap (λ (n : Names). plain_of (path_from n)) parts ∙ plain-path names none

-- a text below a root stands for the path below the root's
pub leads-below : (root_text : List ℕ) (root path : Names) → live_path root_text ≡ Ok root → AllByRecursion IsPart path → IsAllowed (text_below root_text path) → Leads (text_below root_text path) root path
leads-below root_text root path leads are allowed =
    leads-so (text_below root_text path) (root ++ path)
    (components-below root_text path are ∙ ap (λ (r : Names). r ++ path) (sym (live-is root_text root leads)))
    (list_any-append is_snapshot_word root path ∙ neither (no-words root (parts-of root (live-named root_text root leads))) (no-words path are))
    allowed

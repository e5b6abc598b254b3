-- Bytes that are put at a place, and blocks that are found.
use Rattle.std.proofs.Common.{◌≡◌, ℕ, ◌+◌, ◌-◌, ◌≤◌, min, Bool, if◌then◌else◌, List, [], ◌++◌, length, take, drop, Option, Some, Result, Ok, Err, OnOk, OnErr, inl, inr, ap, sym, subst, ◌∙◌, append-nil, append_assoc, arith}
use Rattle.std.specs.Option.{unwrap_or}
use Rattle.std.specs.Map.{lookup, set_value}
use Rattle.std.proofs.Math.Seq.{paste, take-length}
use Rattle.std.proofs.lemmas.Bool.{cases_lt}
use Rattle.std.proofs.lemmas.Map.Steps.{set_value_same}
use Rattle.std.proofs.lemmas.List.{take-append-drop, take_all, drop_all, take-append-le, drop-append-le, length-take-le}
use Rattle.hs_types.specs.Blocks.{BlockMap, find, same_block}
use Rattle.hs_types.specs.declared.ids.BlockId.{BlockId}
use Rattle.block_store.specs.Changes.{Reaches, Writes, with_bytes_at}

-- what is found reaches as far
pub reaches_found : (bytes : List ℕ) (place : ℕ) (found : Option (List ℕ)) → Reaches found place → found ≡ Some bytes → place ≤ length bytes
reaches_found bytes place found reaches is = subst (λ o. Reaches o place) is reaches

-- the bytes that are written over, and those that are put behind the end
over_and_behind : (place : ℕ) (bytes old : List ℕ) → place ≤ length old
    → take (min (length old - place) (length bytes)) bytes ++ (drop (place + min (length old - place) (length bytes)) old ++ drop (min (length old - place) (length bytes)) bytes)
    ≡ bytes ++ drop (place + length bytes) old
over_and_behind place bytes old within = elim (cases_lt (length bytes) (length old - place)) [
  | inl fits ↦
      let m : min (length old - place) (length bytes) ≡ length bytes = omega arith in
      rw (m, take_all (length bytes) bytes (omega arith), drop_all (length bytes) bytes (omega arith)) (ap (λ l. bytes ++ l) (append-nil (drop (place + length bytes) old)))
  | inr longer ↦
      let m : min (length old - place) (length bytes) ≡ length old - place = omega arith in
      rw (m, drop_all (place + (length old - place)) old (omega arith), drop_all (place + length bytes) old (omega arith)) (take-append-drop (length old - place) bytes ∙ sym (append-nil bytes))
]

-- first what is behind the end, then what is written over
pub put_behind_and_over : (place over : ℕ) (bytes old : List ℕ) → place ≤ length old → over ≡ min (length old - place) (length bytes)
    → with_bytes_at place (take over bytes) (old ++ drop over bytes) ≡ with_bytes_at place bytes old
put_behind_and_over place over bytes old within over_is =
    let long : length (take over bytes) ≡ over = length-take-le over bytes (omega arith) in
    rw (long, take-append-le place old (drop over bytes) within, drop-append-le (place + over) old (drop over bytes) (omega arith), over_is)
    (ap (λ l. take place old ++ l) (over_and_behind place bytes old within))

-- bytes that were pasted over others
pub paste_is : (place : ℕ) (bytes old : List ℕ) → paste old place bytes (length bytes) ≡ with_bytes_at place bytes old
paste_is place bytes old = simp (take-length, append_assoc)

-- what a vector holds after all of it was written through a slice
pub written_back : (count : ℕ) (now old : List ℕ) → length now ≡ length old → count ≡ length old → take count (now ++ drop (length now) old) ≡ now
written_back count now old same long =
    rw (drop_all (length now) old (omega arith), append-nil now) (take_all count now (omega arith))

-- a block whose bytes were replaced is written
pub writes_found : (block : BlockId) (place : ℕ) (bytes kept put : List ℕ) (before now : BlockMap) → find before block ≡ Some kept
    → ((other : BlockId) → find now other ≡ (if same_block block other then Some put else find before other)) → put ≡ with_bytes_at place bytes kept → Writes block place bytes before now
writes_found block place bytes kept put before now found sets put_is = λ other.
    sets other ∙ ap (λ (l : List ℕ). if same_block block other then Some l else find before other) (put_is ∙ ap (λ (o : Option (List ℕ)). with_bytes_at place bytes (unwrap_or o [])) (sym found))

-- what was found and put back changes nothing
pub put_back : {K X : Type 0} (test : K → Bool) (es now : List (K × X)) (kept put : X) → lookup test es ≡ Some kept → now ≡ set_value test es put → put ≡ kept → now ≡ es
put_back test es now kept put found now_is same = now_is ∙ ap (set_value test es) same ∙ set_value_same test es kept found

pub on_ok : {T E : Type 0} {P Q : Type 0} (r : Result T E) → (P → Q) → OnOk r P → OnOk r Q
on_ok (Ok x) f p = f p
on_ok (Err e) f p = tt

pub on_err : {T E : Type 0} {P Q : Type 0} (r : Result T E) → (P → Q) → OnErr r P → OnErr r Q
on_err (Ok x) f p = tt
on_err (Err e) f p = f p

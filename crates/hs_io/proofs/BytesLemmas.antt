-- What is given or taken in pieces is given or taken.
use Rattle.std.proofs.Common.{◌≡◌, ℕ, ◌+◌, ◌-◌, ◌≤◌, List, [], ◌++◌, length, take, drop, Option, None, Some, refl, ap, append-nil, append_assoc, sym, ◌∙◌, subst, arith, length-take, length-append}
use Rattle.std.proofs.lemmas.List.{take-take}
use Rattle.std.proofs.Math.Seq.{take-add, take-length}
use Rattle.std.specs.Io.KnownBytes.{prepend_known, append_known}
use Rattle.hs_io.specs.Bytes.{Gives, Takes, TakesSome, GivesWithin, GivesPast}

prepend_known-append : (a b : List ℕ) (rest : Option (List ℕ)) → prepend_known (a ++ b) rest ≡ prepend_known a (prepend_known b rest)
prepend_known-append a b None = refl
prepend_known-append a b (Some rest) = ap Some (append_assoc a b rest)

append_known-append : (a b : List ℕ) (written : Option (List ℕ)) → append_known written (a ++ b) ≡ append_known (append_known written a) b
append_known-append a b None = refl
append_known-append a b (Some written) = ap Some (sym (append_assoc written a b))

-- one piece after the other
pub Gives-more : (first middle last : Option (List ℕ)) (a b : List ℕ) → Gives first middle a → Gives middle last b → Gives first last (a ++ b)
Gives-more first middle last a b one two = one ∙ ap (prepend_known a) two ∙ sym (prepend_known-append a b last)

-- one piece after the other
pub Takes-more : (first middle last : Option (List ℕ)) (a b : List ℕ) → Takes first middle a → Takes middle last b → Takes first last (a ++ b)
Takes-more first middle last a b one two = two ∙ ap (λ w. append_known w b) one ∙ sym (append_known-append a b first)

-- the front of the bytes that are left is the next piece
piece-is : (bytes : List ℕ) (done n : ℕ) → n ≤ length (take (length bytes - done) (drop done bytes)) → take n (take (length bytes - done) (drop done bytes)) ≡ take n (drop done bytes)
piece-is bytes done n within =
    let fits : n ≤ length bytes - done = omega (arith, length-take (length bytes - done) (drop done bytes)) in
    take-take n (length bytes - done) (drop done bytes) fits

-- a piece from the front of the bytes that are left
pub Takes-piece : (before middle now : Option (List ℕ)) (bytes : List ℕ) (done n : ℕ) → n ≤ length (take (length bytes - done) (drop done bytes))
    → Takes before middle (take done bytes) → Takes middle now (take n (take (length bytes - done) (drop done bytes))) → Takes before now (take (done + n) bytes)
Takes-piece before middle now bytes done n within one two =
    rw take-add (Takes-more before middle now (take done bytes) (take n (drop done bytes)) one (subst (Takes middle now) (piece-is bytes done n within) two))

-- a piece that was put behind those that are filled
pub Gives-piece : (before middle now : Option (List ℕ)) (old new : List ℕ) (filled n : ℕ) → take filled new ≡ take filled old
    → Gives before middle (take filled old) → Gives middle now (take n (drop filled new)) → Gives before now (take (filled + n) new)
Gives-piece before middle now old new filled n front one two =
    rw take-add (Gives-more before middle now (take filled new) (take n (drop filled new)) (subst (Gives before middle) (sym front) one) two)

-- ---- none, some and all

none_given : (rest : Option (List ℕ)) → Gives rest rest []
none_given None = refl
none_given (Some rest) = refl

-- nothing was given
pub gives_none : (limit : ℕ) (rest : Option (List ℕ)) → GivesWithin limit rest rest
gives_none limit rest = record { bytes = []; given = none_given rest; within = omega arith }

none_taken : (written : Option (List ℕ)) → Takes written written []
none_taken None = refl
none_taken (Some written) = ap Some (sym (append-nil written))

-- nothing was taken
pub takes_none : (written : Option (List ℕ)) (bytes : List ℕ) → TakesSome written written bytes
takes_none written bytes = record { count = 0; within = omega arith; taken = none_taken written }

-- all was taken
pub takes_all : (before now : Option (List ℕ)) (bytes : List ℕ) → Takes before now bytes → TakesSome before now bytes
takes_all before now bytes all = record { count = length bytes; within = omega arith; taken = subst (Takes before now) (sym (take-length bytes)) all }

-- what a source tells before and after says how many bytes it gave
gives_length : (rest : List ℕ) (now : Option (List ℕ)) (a b : List ℕ) → Gives (Some rest) now a → Gives (Some rest) now b → length a ≡ length b
gives_length rest None a b one two = absurd (cc)
gives_length rest (Some left) a b one two =
    let same : a ++ left ≡ b ++ left = cc in
    omega (arith, length-append a left, length-append b left, ap length same)

-- a byte past the limit and none are two things
pub past_not_within : (limit : ℕ) (rest : List ℕ) (now : Option (List ℕ)) → GivesPast limit (Some rest) now → GivesWithin limit (Some rest) now → ⊥
past_not_within limit rest now past within = omega (arith, gives_length rest now past.bytes within.bytes past.given within.given, past.past, within.within)

-- Small facts of tests, options and what is asked.
use Rattle.std.proofs.Common.{◌≡◌, Bool, true, false, ◌||◌, Some, None, Ok, Err, refl}
use Rattle.hs_types.specs.declared.refusal.Refusal.{Refusal}
use Rattle.hs_plain.specs.Asked.{Asked}

pub neither : (a b : Bool) → (a || b) ≡ false → (a ≡ false) × (b ≡ false)
neither true b e = absurd (cc)
neither false b e = (refl, e)

pub some_of : {X : Type 0} (a b : X) → Some a ≡ Some b → a ≡ b
some_of a b e = cc

pub none_some : {X : Type 0} (a : X) → None ≡ Some a → ⊥
none_some a e = cc

-- what is asked for, where no test refuses
abbrev pub okay : {X : Type 0} → X → Asked X
okay x = Ok x

abbrev pub refused : {X : Type 0} → Refusal → Asked X
refused why = Err why

pub ok_of : {X : Type 0} (a b : X) → okay a ≡ okay b → a ≡ b
ok_of a b e = cc

pub err_ok : {X : Type 0} (why : Refusal) (a : X) → refused why ≡ okay a → ⊥
err_ok why a e = cc

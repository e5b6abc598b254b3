-- A call is answered by tests, one after another: the first that refuses is the answer.
use Rattle.std.specs.Prelude.{Bool, nat_lt, if◌then◌else◌, Option, Some, None, Result, Ok, Err}
use Rattle.hs_types.specs.declared.refusal.Refusal.{Refusal}
use Rattle.hs_types.specs.Refusals.{number_of}

-- what a test gives, or why it refuses
abbrev pub Asked : Type 0 → Type 0
Asked X = Result X Refusal

-- the next test, where none has refused yet
infixl 10 ◌>>=◌
abbrev pub ◌>>=◌ : {X Y : Type 0} → Asked X → (X → Asked Y) → Asked Y
(Ok x) >>= f = f x
(Err why) >>= f = Err why

-- a test that gives nothing
abbrev pub refuse_if : Bool → Refusal → Asked (Unit {0})
refuse_if refused why = if refused then Err why else Ok tt

-- of two refusals the one with the lesser number, and of one number the first
abbrev pub first_of : Refusal → Refusal → Refusal
first_of a b = if nat_lt (number_of b) (number_of a) then b else a

-- the tests of two paths, number by number
abbrev pub both : {X Y : Type 0} → Asked X → Asked Y → Asked (X × Y)
both (Ok x) (Ok y) = Ok (x, y)
both (Ok x) (Err why) = Err why
both (Err why) (Ok y) = Err why
both (Err a) (Err b) = Err (first_of a b)

-- what a test gives, if it doesn't refuse
abbrev pub some_asked : {X : Type 0} → Asked X → Option X
some_asked (Ok x) = Some x
some_asked (Err why) = None

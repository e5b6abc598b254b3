-- What an end over a reader or a writer of std is.
use Rattle.std.specs.Prelude.{ℕ}

-- the reader or writer, and the faults so far
pub record Through (E : Type 0) : Type 0 where
  pub inner : E
  pub faults : ℕ

-- What the ends in memory hold.
use Rattle.std.specs.Prelude.{ℕ, List}

-- a source in memory: the bytes to come, the numbers of the calls that fail, the calls and the faults so far
pub record Input : Type 0 where
  pub rest : List ℕ
  pub fails : List ℕ
  pub calls : ℕ
  pub faults : ℕ

-- a sink in memory: the bytes written, the numbers of the calls that fail, the calls and the faults so far
pub record Output : Type 0 where
  pub written : List ℕ
  pub fails : List ℕ
  pub calls : ℕ
  pub faults : ℕ

-- How the files of a state are kept: as their bytes, or in the blocks of a store.
use Rattle.std.specs.Prelude.{ℕ, ◌+◌, List, [], ◌++◌, length, replicate}
use Rattle.hs_plain.specs.declared.state.FileBlocks.{FileBlocks}

-- what stands for a file without bytes, how many bytes a file has, which of them are known, and what an append makes of it
pub record Files (B : Type 0) : Type 0 where
  pub empty : B
  pub size : B → ℕ
  pub bytes : B → List ℕ
  pub append : B → List ℕ → B

-- a file as its bytes
abbrev pub plain_files : Files (List ℕ)
plain_files = record { empty = []; size = length; bytes = λ file. file; append = λ file bytes. file ++ bytes }

-- so many zeros, where no byte is known
abbrev pub zeros : ℕ → List ℕ
zeros size = replicate size 0

-- a file as its size alone
abbrev pub sized_files : Files ℕ
sized_files = record { empty = 0; size = λ size. size; bytes = zeros; append = λ size bytes. size + length bytes }

-- a file as a size and blocks, so far as its store isn't asked: an append makes it longer
abbrev pub block_files : Files FileBlocks
block_files = record {
  empty = record { size = 0; blocks = [] };
  size = λ file. file.size;
  bytes = λ file. zeros file.size;
  append = λ file bytes. record file { size = file.size + length bytes };
}

-- What is kept of a sheet from read to read.
use Rattle.std.specs.Prelude.{ℕ, List}

-- How many lines were read, and the bytes of the next one that are kept.
pub record Begun : Type 0 where
  pub lines : ℕ
  pub bytes : List ℕ

abbrev pub begun : ℕ → List ℕ → Begun
begun lines bytes = record { lines = lines; bytes = bytes }

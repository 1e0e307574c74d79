-- What a file takes that was put in place.
use Rattle.std.specs.Prelude.{◌≡◌, ℕ, List, Option, Some}
use Rattle.std.specs.Io.KnownBytes.{Appends}

-- The file that was put in place is there still, and has grown by the text, where it is known what it holds.
-- FILE-6
pub record Grows {P F : Type 0} (old new : Option P) (file : P → F) (contents : F → Option (List ℕ)) (text : List ℕ) : Type 0 where
  pub before : P
  pub after : P
  pub was : old ≡ Some before
  pub is : new ≡ Some after
  pub grown : Appends (contents (file before)) (contents (file after)) text

-- A file was put in place that has grown by the text before.
-- FILE-4
pub record WasWritten {P F : Type 0} (new : Option P) (file : P → F) (contents : F → Option (List ℕ)) (text : List ℕ) : Type 0 where
  pub before : F
  pub after : P
  pub is : new ≡ Some after
  pub grown : Appends (contents before) (contents (file after)) text

-- What is written one after the other.
use Rattle.std.specs.Io.KnownBytes.{Appends}
use Rattle.std.proofs.Common.{ℕ, List, [], Option}
use Rattle.std.proofs.KnownBytes.{Appends-nil}

pub nothing : (a : Option (List ℕ)) → Appends a a []
nothing a = Appends-nil a

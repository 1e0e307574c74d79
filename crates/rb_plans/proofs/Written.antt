-- What is written one after the other.
use Rattle.std.specs.Prelude.{OnOk}
use Rattle.std.specs.Io.KnownBytes.{Appends}
use Rattle.std.proofs.Common.{ℕ, List, [], ◌++◌, Option, Result, Ok, Err}
use Rattle.std.proofs.KnownBytes.{Appends-nil, Appends-trans}

pub nothing : (a : Option (List ℕ)) → Appends a a []
nothing a = Appends-nil a

pub both : {A E : Type 0} (r : Result A E) (a b c : Option (List ℕ)) (first second : List ℕ) → Appends a b first → OnOk r (Appends b c second) → OnOk r (Appends a c (first ++ second))
both (Ok x) a b c first second p q = Appends-trans a b c first second p q
both (Err e) a b c first second p q = tt

-- How much of the time slices take.
use Rattle.std.proofs.Common.{arith}
use Rattle.std.proofs.lemmas.Bool.Decides.{nat_tests}
use Rattle.rb_policy.specs.Shares.{SlicesAreAQuarter}

pub slices_are_a_quarter : SlicesAreAQuarter
slices_are_a_quarter at now next before fits may = grind (arith, nat_tests)

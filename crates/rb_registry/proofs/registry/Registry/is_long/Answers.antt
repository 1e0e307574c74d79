use Rattle.std.proofs.Common.{◌≤◌, arith}
use Rattle.std.proofs.lemmas.Bool.Decides.{nat_tests}
use Rattle.std.proofs.lemmas.Map.Entries.{length-values_of}
use Rattle.rb_registry.proofs.Tables.{live_and_retained}
use Rattle.rb_registry.proofs.VersionsLeft.{versions_are_few, long_enough}
use Rattle.rb_registry.proofs.registry.Registry.is_long.Goals as goal

pub returns-clause-long : goal.returns-clause-long
returns-clause-long c = rw (← c.self.view_is, length-values_of c.self.inside.slots.entries) (grind (arith, nat_tests, c.len.ensures.len))

pub returns-clause-searched : goal.returns-clause-searched
returns-clause-searched c long =
    let many : 256 ≤ c.len.result = grind (arith, nat_tests, long) in
    let size = length-values_of c.self.inside.slots.entries in
    let whole = live_and_retained c.self.inside.changes c.self.inside.slots.entries c.self.invariant.stamped in
    rw (← c.self.view_is) (long_enough _ _ (omega (arith, many, size, c.len.ensures.len)) (omega (arith, size, c.self.invariant.few, c.self.invariant.within)) (omega (arith, whole, size)))

pub returns-clause-few : goal.returns-clause-few
returns-clause-few c = versions_are_few _ _ c.self.inside.index.entries c.self.view_is c.self.invariant.stamped c.self.invariant.indexed

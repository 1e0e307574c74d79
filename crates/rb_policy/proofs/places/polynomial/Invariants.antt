use Rattle.std.proofs.Common.{◌≡◌, ◌<◌, take}
use Rattle.rb_policy.specs.Places.{polynomial, prime}
use Rattle.rb_policy.proofs.places.polynomial.Given as goal

abbrev pub invariant-loop-octet : goal.invariant-loop-octet
invariant-loop-octet l = record {
  below : l.number < prime;
  number : l.number ≡ polynomial l.point (take l.octet-index l.octets);
}

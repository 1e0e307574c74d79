-- What follows of the sockets that are noted of forwarded calls.
use Rattle.std.proofs.Common.{◌≡◌, ◌≢◌, ℕ, List, [], ◌∷◌, ◌++◌, arith, refl}
use Rattle.std.specs.Prelude.{Some, None, filter, not}
use Rattle.std.proofs.lemmas.Bool.Decides.{nat_tests}
use Rattle.rb_policy.specs.declared.ways_back.Way.{Way}
use Rattle.rb_policy.specs.WaysBack.{is_of, socket_of, EndsGoBack, OthersStay}

found_behind : (number socket : ℕ) (all : List Way) → socket_of number all ≡ None → socket_of number (all ++ record { number = number; socket = socket } ∷ []) ≡ Some socket
found_behind number socket [] none = grind (arith, nat_tests)
found_behind number socket (way ∷ rest) none = grind (arith, nat_tests, none, found_behind number socket rest)

other_behind : (number other socket : ℕ) (all : List Way) → number ≢ other → socket_of other (all ++ record { number = number; socket = socket } ∷ []) ≡ socket_of other all
other_behind number other socket [] differs = grind (arith, nat_tests, differs)
other_behind number other socket (way ∷ rest) differs = grind (arith, nat_tests, other_behind number other socket rest differs)

other_without : (number other : ℕ) (all : List Way) → number ≢ other → socket_of other (filter (λ w. not (is_of number w)) all) ≡ socket_of other all
other_without number other [] differs = refl
other_without number other (way ∷ rest) differs = grind (arith, nat_tests, differs, other_without number other rest differs)

pub ends_go_back : EndsGoBack
ends_go_back ways number socket room none = grind (arith, nat_tests, room, found_behind number socket ways.all none)

pub others_stay : OthersStay
others_stay ways number other socket differs = (
  grind (arith, nat_tests, other_behind number other socket ways.all differs),
  other_without number other ways.all differs,
)

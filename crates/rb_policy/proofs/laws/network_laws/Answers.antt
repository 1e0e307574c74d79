use Rattle.std.proofs.Common.{◌≡◌, ℕ, suc, Bool, true, false, ◌||◌, length, arith, refl, ◌∷◌}
use Rattle.std.specs.Prelude.{◌==◌}
use Rattle.std.proofs.lemmas.Bool.Decides.{nat_tests}
use Rattle.rb_address.specs.Hosts.{is_loopback}
use Rattle.rb_policy.specs.Networks.{is_in_one}
use Rattle.rb_policy.proofs.laws.network_laws.Goals as goal

second : (a b c : Bool) → b ≡ true → (a || b || c) ≡ true
second a b c holds = grind (arith, holds)

none : (n : ℕ) (b c : Bool) → b ≡ false → c ≡ false → (suc n == 0 || b || c) ≡ false
none n b c not_b not_c = grind (arith, nat_tests, not_b, not_c)

pub returns-clause-who : goal.returns-clause-who
returns-clause-who c = record {
  everybody = λ host. refl;
  this_machine = λ networks host local. second (length networks == 0) (is_loopback host) (is_in_one host networks) local;
  no_others = λ one more host other outside. none (length more) (is_loopback host) (is_in_one host (one ∷ more)) other outside;
}

pub returns-clause-examples : goal.returns-clause-examples
unfolding is_loopback
returns-clause-examples c = record { last = refl; next = refl; this_machine = refl; of_ipv6 = refl }

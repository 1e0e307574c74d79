-- The addresses of a host, up to the first that answers.
use Rattle.std.proofs.Common.{List, [], ◌∷◌, refl, ap}
use Rattle.std.specs.declared.net.ip_addr.IpAddr.{IpAddr}
use Rattle.rb_plans.specs.AddressLaws.{AskedUpToAnAnswer, AllAreAsked}

pub up_to : AskedUpToAnAnswer
up_to gives [] after address none e = rw e refl
up_to gives (first ∷ before) after address none e = rw none.0 (ap (λ (more : List IpAddr). first ∷ more) (up_to gives before after address none.1 e))

pub all : AllAreAsked
all gives [] none = refl
all gives (first ∷ more) none = rw none.0 (ap (λ (more : List IpAddr). first ∷ more) (all gives more none.1))

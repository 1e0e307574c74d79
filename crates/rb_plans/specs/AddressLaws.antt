-- The addresses of a host are asked in their order, up to the first that answers.
use Rattle.std.specs.Prelude.{◌≡◌, true, false, ⊤, List, [], ◌∷◌, ◌++◌, Result}
use Rattle.std.specs.declared.net.ip_addr.IpAddr.{IpAddr}
use Rattle.rb_show.specs.declared.show.Shown.{Shown}
use Rattle.rb_plans.specs.declared.fault.Fault.{Fault}
use Rattle.rb_plans.specs.Addresses.{is_unanswered, asked_of}

-- nobody answers at any of these
abbrev pub NoneAnswers : (IpAddr → Result Shown Fault) → List IpAddr → Type 0
NoneAnswers gives [] = ⊤
NoneAnswers gives (address ∷ more) = (is_unanswered (gives address) ≡ true) × NoneAnswers gives more

-- after those that do not answer the first is asked that does, and none after it
-- ADDRESS-2
abbrev pub AskedUpToAnAnswer : Type 0
AskedUpToAnAnswer =
    (gives : IpAddr → Result Shown Fault) (before after : List IpAddr) (address : IpAddr) → NoneAnswers gives before → is_unanswered (gives address) ≡ false
    → asked_of gives (before ++ address ∷ after) ≡ before ++ address ∷ []

-- if none answers, all are asked
abbrev pub AllAreAsked : Type 0
AllAreAsked = (gives : IpAddr → Result Shown Fault) (addresses : List IpAddr) → NoneAnswers gives addresses → asked_of gives addresses ≡ addresses

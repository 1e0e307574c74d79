use Rattle.std.specs.Map.{values_of}
use Rattle.std.proofs.Common.{subst, rules}
use Rattle.rb_connections.specs.Listings.{stamp_of_slot, stamps_of, IsOldest}
use Rattle.rb_connections.proofs.Evicting.{oldest_found}
use Rattle.rb_connections.proofs.connections.Connections.oldest.Goals as goal

pub returns-clause-oldest : goal.returns-clause-oldest
returns-clause-oldest c =
    subst (λ t. IsOldest (stamps_of t) c.soonest_in.result) c.self.view_is
    (rw (c.soonest_in.ensures.soonest stamp_of_slot (λ slot answer returns. search rules)) (oldest_found (values_of c.self.inside.slots.entries)))

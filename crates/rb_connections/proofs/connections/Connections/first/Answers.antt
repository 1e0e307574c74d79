use Rattle.std.specs.Map.{values_of}
use Rattle.std.proofs.Common.{[], ap, sym, subst}
use Rattle.rb_xdr.proofs.PoolLemmas.{All-value_at}
use Rattle.rb_connections.specs.StandsFor.{StandsForConnections}
use Rattle.rb_connections.specs.Slots.{HasBuffers}
use Rattle.rb_connections.proofs.Slots.{found_slot, no_slot, slot_is_there}
use Rattle.rb_connections.proofs.ByHint.{distinct_numbers}
use Rattle.rb_connections.proofs.connections.Connections.first.Goals as goal

pub wanted_key-requires-clause-numbers : goal.wanted_key-requires-clause-numbers
wanted_key-requires-clause-numbers c = distinct_numbers c.self.inside.last_number (values_of c.self.inside.slots.entries) c.self.invariant.numbers

pub returns-in_default-clause-found : goal.returns-in_default-clause-found
returns-in_default-clause-found c = λ registry o h.
    let z = subst (λ t. StandsForConnections registry t o) (sym c.self.view_is) h in
    no_slot registry c.args.wanted c.self.inside.slots.entries o.all z.all (sym c.in_default.ensures.key)

pub returns-in-Some-get-clause-found : goal.returns-in-Some-get-clause-found
returns-in-Some-get-clause-found c = λ registry o h.
    let z = subst (λ t. StandsForConnections registry t o) (sym c.self.view_is) h in
    found_slot registry c.args.wanted c.self.inside.slots.entries o.all c.in-Some.key c.in-Some-get.slot.now c.self.invariant.distinct z.all (sym c.in-Some.ensures.key) (sym c.in-Some-get.ensures.value)

pub returns-in-None-clause-found : goal.returns-in-None-clause-found
returns-in-None-clause-found c = absurd (slot_is_there c.args.wanted c.self.inside.slots.entries [] c.in-Some.key (sym c.in-Some.ensures.key) (sym c.in-None.ensures.value))

pub returns-in-Some-get-clause-buffers : goal.returns-in-Some-get-clause-buffers
returns-in-Some-get-clause-buffers c =
    subst (λ t. HasBuffers t c.in-Some-get.slot.now) (ap (λ t. t.tie) c.self.view_is)
    (All-value_at (HasBuffers c.self.inside.slots.tie) c.self.inside.slots.entries c.in-Some.key c.in-Some-get.slot.now c.self.invariant.buffers (sym c.in-Some-get.ensures.value))

use Rattle.std.specs.Map.{values_of}
use Rattle.std.proofs.Common.{[], None, refl, sym, subst}
use Rattle.rb_xdr.proofs.PoolLemmas.{All-value_at}
use Rattle.rb_model.specs.Losses.{expire_first}
use Rattle.rb_connections.specs.declared.slot.Stage.TheVariants as stages
use Rattle.rb_connections.specs.contracts.connections.Connections.{the_view}
use Rattle.rb_connections.specs.Slots.{Acts, HasBuffers}
use Rattle.rb_connections.specs.StandsFor.{StandsForConnections, IsWithin}
use Rattle.rb_connections.proofs.GoingOn.{goes_on_same, goes_on_changed}
use Rattle.rb_connections.proofs.Slots.{acts_from, slot_is_there, table_changed}
use Rattle.rb_connections.proofs.Expiring.{none_expires, one_expires, due-free}
use Rattle.rb_connections.proofs.ByHint.{distinct_numbers}
use Rattle.rb_connections.proofs.connections.Connections.expire.Goals as goal

pub wanted_key-requires-clause-numbers : goal.wanted_key-requires-clause-numbers
wanted_key-requires-clause-numbers c = distinct_numbers c.self.inside.last_number (values_of c.self.inside.slots.entries) c.self.invariant.numbers

pub returns-in_default-clause-acts : goal.returns-in_default-clause-acts
returns-in_default-clause-acts c =
    λ registry. subst (λ t. Acts (StandsForConnections registry) (expire_first c.args.clock) t t None) c.self.view_is
    (none_expires registry c.args.clock (the_view c.self.inside) (sym c.in_default.ensures.key))

pub unreachable-requires : goal.unreachable-requires
unreachable-requires c = slot_is_there _ c.self.inside.slots.entries [] c.in-Some.key (sym c.in-Some.ensures.key) (sym c.in_default-get_mut.ensures.value)

pub invariant_of-self : goal.invariant_of-self
invariant_of-self c =
    let fits = All-value_at IsWithin c.self.inside.slots.entries c.in-Some.key c.in-Some-get_mut.slot.now c.self.invariant.within (sym c.in-Some-get_mut.ensures.value) in
    table_changed c.self.inside.slots c.self.inside.spare c.self.inside.last_number c.self.inside.conns c.self.inside.held c.in-Some.key c.in-Some-get_mut.slot.now _ c.self.invariant (sym c.in-Some-get_mut.ensures.value) refl
    (All-value_at (HasBuffers c.self.inside.slots.tie) c.self.inside.slots.entries c.in-Some.key c.in-Some-get_mut.slot.now c.self.invariant.buffers (sym c.in-Some-get_mut.ensures.value))
    c.self.inside.held refl fits

pub returns-clause-acts : goal.returns-clause-acts
returns-clause-acts c =
    λ registry. acts_from registry (expire_first c.args.clock) (the_view c.self.inside) c.args.self.now _ _ c.self.view_is
    (one_expires registry c.args.clock (the_view c.self.inside) c.in-Some.key c.in-Some-get_mut.slot.now _ _ c.self.invariant.distinct c.self.invariant.numbers (sym c.in-Some.ensures.key) (sym c.in-Some-get_mut.ensures.value) refl refl)

pub returns-in_default-clause-goes_on : goal.returns-in_default-clause-goes_on
returns-in_default-clause-goes_on c = goes_on_same _

pub returns-clause-goes_on : goal.returns-clause-goes_on
returns-clause-goes_on c =
    let slot = c.in-Some-get_mut.slot.now in
    goes_on_changed (the_view c.self.inside) c.args.self.now c.self.view_is c.in-Some.key slot (record slot { stage = stages.Lost }) (sym c.in-Some-get_mut.ensures.value)
    (λ registry told. tt) refl (sym (due-free c.args.clock c.in-Some.key c.self.inside.slots.entries slot c.self.invariant.distinct (sym c.in-Some.ensures.key) (sym c.in-Some-get_mut.ensures.value)))
    (All-value_at IsWithin c.self.inside.slots.entries c.in-Some.key slot c.self.invariant.within (sym c.in-Some-get_mut.ensures.value))

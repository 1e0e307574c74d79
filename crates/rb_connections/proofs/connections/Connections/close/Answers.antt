use Rattle.std.specs.Prelude.{All}
use Rattle.std.specs.Map.{values_of}
use Rattle.std.proofs.Common.{[], Err, refl, sym, ap, subst, ◌∙◌, arith}
use Rattle.rb_xdr.specs.Meter.{Meter}
use Rattle.rb_xdr.proofs.PoolLemmas.{All-value_at, All-without, distinct-without, length-without}
use Rattle.rb_model.specs.declared.types.CoreFault.TheVariants.{Gone}
use Rattle.rb_model.specs.Connections.{close_in_table}
use Rattle.rb_connections.specs.contracts.connections.Connections.{the_view}
use Rattle.rb_connections.specs.Slots.{Acts, HasBuffers, AreSpare}
use Rattle.rb_connections.specs.StandsFor.{StandsForConnections, IsWithin}
use Rattle.rb_connections.proofs.GoingOn.{goes_on_same}
use Rattle.rb_connections.proofs.Holding.{its_buffers, charge_fits, held_without}
use Rattle.rb_connections.proofs.Slots.{acts_from, none_closed, one_closed, slot_is_there, numbered-without}
use Rattle.rb_connections.proofs.Freed.{none_freed_by_close, freed_from}
use Rattle.rb_connections.proofs.Listings.{keeps_less}
use Rattle.rb_connections.proofs.ByHint.{distinct_numbers}
use Rattle.rb_connections.proofs.connections.Connections.close.Goals as goal

pub wanted_key-requires-clause-numbers : goal.wanted_key-requires-clause-numbers
wanted_key-requires-clause-numbers c = distinct_numbers c.self.inside.last_number (values_of c.self.inside.slots.entries) c.self.invariant.numbers

pub returns-in_default-clause-acts : goal.returns-in_default-clause-acts
returns-in_default-clause-acts c =
    λ registry. subst (λ t. Acts (StandsForConnections registry) (close_in_table c.args.id) t t (Err Gone)) c.self.view_is
    (none_closed registry c.args.id (the_view c.self.inside) (sym c.in_default.ensures.key))

pub unreachable-requires : goal.unreachable-requires
unreachable-requires c = slot_is_there _ c.self.inside.slots.entries [] c.in-Some.key (sym c.in-Some.ensures.key) (sym c.in_default-remove.ensures.value)

pub charge-requires : goal.charge-requires
charge-requires c =
    its_buffers c.self.inside.slots c.self.inside.spare c.self.inside.last_number c.self.inside.conns c.self.inside.held c.self.invariant c.in-Some.key c.in-Some-remove.slot (sym c.in-Some-remove.ensures.value) c.remove.new.meter
    (ap (λ (m : Meter). m.tie) c.remove.ensures.cost ∙ c.wanted_key.ensures.cost.tie ∙ c.requires ∙ sym (ap (λ t. t.tie) c.self.view_is))

pub overflow_sub-self : goal.overflow_sub-self
overflow_sub-self c = rw c.charge.ensures.charge (charge_fits c.self.inside.slots c.self.inside.spare c.self.inside.last_number c.self.inside.conns c.self.inside.held c.self.invariant c.in-Some.key c.in-Some-remove.slot (sym c.in-Some-remove.ensures.value))

pub put_buffers-requires-clause-made : goal.put_buffers-requires-clause-made
put_buffers-requires-clause-made c =
    subst (λ t. HasBuffers t c.in-Some-remove.slot) (sym c.self.invariant.tie)
    (All-value_at (HasBuffers c.self.inside.slots.tie) c.self.inside.slots.entries c.in-Some.key c.in-Some-remove.slot c.self.invariant.buffers (sym c.in-Some-remove.ensures.value))

pub invariant_of-self : goal.invariant_of-self
invariant_of-self c =
    let es = c.self.inside.slots.entries in
    let one_less = length-without es c.in-Some.key c.in-Some-remove.slot (sym c.in-Some-remove.ensures.value) in
    rw c.remove.ensures.entries (record {
      distinct = distinct-without es c.in-Some.key c.self.invariant.distinct;
      spare_distinct = c.put_buffers.ensures.distinct;
      room = omega (arith, one_less, c.put_buffers.ensures.more, c.self.invariant.room);
      cap = c.self.invariant.cap;
      spare_cap = c.put_buffers.ensures.frame.cap ∙ c.self.invariant.spare_cap;
      tie = c.put_buffers.ensures.frame.tie ∙ c.self.invariant.tie;
      buffers = All-without (HasBuffers c.self.inside.slots.tie) es c.in-Some.key c.self.invariant.buffers;
      spare_buffers = subst (λ t. All (AreSpare t) (values_of c.put_buffers.new.spare.entries)) c.self.invariant.tie c.put_buffers.ensures.buffers;
      numbers = numbered-without c.self.inside.last_number es c.in-Some.key c.self.invariant.numbers;
      few = c.self.invariant.few;
      within = All-without IsWithin es c.in-Some.key c.self.invariant.within;
      is_held =
          let sum = held_without c.self.inside.slots c.self.inside.spare c.self.inside.last_number c.self.inside.conns c.self.inside.held c.self.invariant c.in-Some.key c.in-Some-remove.slot (sym c.in-Some-remove.ensures.value) in
          rw c.charge.ensures.charge (omega (arith, sum));
    })

pub returns-clause-acts : goal.returns-clause-acts
returns-clause-acts c =
    λ registry. rw (c.remove.ensures.entries, c.put_buffers.ensures.frame.memory) (
    acts_from registry (close_in_table c.args.id) (the_view c.self.inside) c.args.self.now _ _ c.self.view_is
    (one_closed registry c.args.id (the_view c.self.inside) c.in-Some.key c.in-Some-remove.slot c.self.invariant.distinct c.self.invariant.numbers (sym c.in-Some.ensures.key) (sym c.in-Some-remove.ensures.value)))

pub returns-in_default-clause-goes_on : goal.returns-in_default-clause-goes_on
returns-in_default-clause-goes_on c = goes_on_same _

pub returns-clause-goes_on : goal.returns-clause-goes_on
returns-clause-goes_on c = rw (c.remove.ensures.entries, c.put_buffers.ensures.frame.memory) (record {
  lists = keeps_less (the_view c.self.inside) c.args.self.now c.self.view_is c.in-Some.key;
  free = freed_from (the_view c.self.inside) c.args.self.now _ c.self.view_is (none_freed_by_close (the_view c.self.inside) c.in-Some.key);
  stays = rw (← c.self.view_is) (record { conns = refl; memory = refl; tie = refl; within = λ within. All-without IsWithin c.self.inside.slots.entries c.in-Some.key within });
})

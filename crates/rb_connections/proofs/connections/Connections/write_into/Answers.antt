use Rattle.std.specs.Map.{values_of}
use Rattle.std.proofs.Common.{◌≡◌, ◌+◌, false, length, Ok, Err, ap, sym, subst, ◌∙◌, arith, rules}
use Rattle.rb_xdr.specs.Meter.{PaysAtMost}
use Rattle.rb_xdr.specs.Pool.{with_value}
use Rattle.rb_xdr.proofs.PoolLemmas.{All-value_at, with_value-same}
use Rattle.rb_model.specs.Connections.{on_live}
use Rattle.rb_model.specs.Gives.{write_fitting}
use Rattle.rb_model.specs.declared.types.CoreFault.TheVariants as CoreFault
use Rattle.rb_model.specs.Costs.{recount_cost}
use Rattle.rb_connections.specs.Costs.{look_cost, slot_into_cost, PaysToWriteInto}
use Rattle.rb_connections.specs.contracts.connections.Connections.{the_view}
use Rattle.rb_connections.specs.Slots.{HasBuffers}
use Rattle.rb_connections.specs.Listings.{CanContinueSlot, CanContinueAll}
use Rattle.rb_connections.specs.Awaits.{is_free}
use Rattle.rb_connections.specs.LiveSlots.{live_key}
use Rattle.rb_connections.proofs.Holding.{stays_changed}
use Rattle.rb_connections.proofs.Slots.{acts_from, gone_acts, live_acts}
use Rattle.rb_connections.proofs.GivenCosts.{gone_into_pays, given_into_pays}
use Rattle.rb_connections.proofs.Freed.{found_live, none_freed, freed_from}
use Rattle.rb_connections.proofs.Listings.{lists_changed}
use Rattle.rb_connections.proofs.ByHint.{distinct_numbers}
use Rattle.rb_connections.proofs.LiveSlots.{within_by, live_fits, live_table}
use Rattle.rb_connections.proofs.Standing.{now_standing}
use Rattle.rb_connections.proofs.connections.Connections.write_into.Goals as goal

pub live_slot-requires-clause-numbers : goal.live_slot-requires-clause-numbers
live_slot-requires-clause-numbers c = distinct_numbers c.self.inside.last_number (values_of c.self.inside.slots.entries) c.self.invariant.numbers

pub overflow_add-self : goal.overflow_add-self
overflow_add-self c =
    let fits = live_fits _ _ _ _ _ c.self.invariant _ _ c.write_into-count.new.self c.in-Some.ensures.found _ c.in-Some.ensures.held _ c.charge.ensures.charge c.charge.ensures.within in
    omega (arith, fits)

pub invariant_of-self-2 : goal.invariant_of-self-2
invariant_of-self-2 c =
    let tie = c.in-Some.ensures.cost.tie ∙ c.requires.tie ∙ sym (ap (λ t. t.tie) c.self.view_is) in
    live_table _ _ _ _ _ c.self.invariant _ _ _ c.in-Some.ensures.found _ c.in-Some.ensures.held _ c.charge.ensures.charge c.charge.ensures.within
    c.write_into-count.ensures.stays.number (subst (λ t. HasBuffers t c.write_into-count.new.self) tie c.write_into-count.ensures.stays.buffers)

pub returns-in_default-clause-acts : goal.returns-in_default-clause-acts
returns-in_default-clause-acts c =
    let registry = c.args.registry.now in
    acts_from registry (on_live c.args.id (write_fitting c.args.clock (length c.args.room.now))) (the_view c.self.inside) c.args.self.now _ _ c.self.view_is
    (gone_acts registry c.args.id (write_fitting c.args.clock (length c.args.room.now)) (the_view c.self.inside) c.in_default.ensures.found)

pub returns-clause-stays : goal.returns-clause-stays
returns-clause-stays c = stays_changed (the_view c.self.inside) c.args.self.now _ c.write_into-count.new.self c.self.view_is (within_by c.write_into-count.new.self _ c.charge.ensures.charge c.charge.ensures.within)

pub returns-clause-acts : goal.returns-clause-acts
returns-clause-acts c =
    let registry = c.args.registry.now in
    acts_from registry (on_live c.args.id (write_fitting c.args.clock (length c.write_into-count.new.room))) (the_view c.self.inside) c.args.self.now _ _ c.self.view_is
    (live_acts registry c.args.id (write_fitting c.args.clock (length c.write_into-count.new.room)) (the_view c.self.inside) _ c.in-Some.slot.now c.write_into-count.new.self _ c.self.invariant.distinct c.in-Some.ensures.found.key c.in-Some.ensures.found.there c.write_into-count.ensures.acts)

pub returns-in_default-clause-free : goal.returns-in_default-clause-free
returns-in_default-clause-free c = λ id none. subst (λ t. is_free id t ≡ false) (sym c.self.view_is) none

pub returns-clause-free : goal.returns-clause-free
returns-clause-free c = freed_from (the_view c.self.inside) c.args.self.now _ c.self.view_is
    (none_freed (the_view c.self.inside) _ c.in-Some.slot.now c.write_into-count.new.self c.in-Some.ensures.found.there c.write_into-count.ensures.stays.number c.write_into-count.ensures.awaits)

pub write_into-count-requires-clause-lists : goal.write_into-count-requires-clause-lists
write_into-count-requires-clause-lists c =
    let registry = c.args.registry.now in
    All-value_at (CanContinueSlot registry) c.self.inside.slots.entries _ c.in-Some.slot.now
    (subst (λ t. CanContinueAll registry t) (sym c.self.view_is) c.requires.lists) c.in-Some.ensures.found.there

pub returns-clause-lists : goal.returns-clause-lists
returns-clause-lists c =
    let registry = c.args.registry.now in
    lists_changed (the_view c.self.inside) c.args.self.now c.self.view_is registry _ c.write_into-count.new.self c.requires.lists c.write_into-count.ensures.lists

pub returns-clause-stands : goal.returns-clause-stands
returns-clause-stands c =
    let tie = c.in-Some.ensures.cost.tie ∙ c.requires.tie ∙ sym (ap (λ t. t.tie) c.self.view_is) in
    let made =
    live_table _ _ _ _ _ c.self.invariant _ _ _ c.in-Some.ensures.found _ c.in-Some.ensures.held _ c.charge.ensures.charge c.charge.ensures.within
    c.write_into-count.ensures.stays.number (subst (λ t. HasBuffers t c.write_into-count.new.self) tie c.write_into-count.ensures.stays.buffers) in
    let l = found_live c.args.id _ c.self.inside.slots.entries c.in-Some.slot.now c.self.invariant.distinct c.in-Some.ensures.found.key c.in-Some.ensures.found.there in
    rw c.standing-standing.ensures
    (now_standing c.args.id _ c.in-Some.slot.now c.write_into-count.new.self (the_view c.self.inside) c.in-Some.ensures.found.there l.0 c.write_into-count.ensures.stays.number
    (distinct_numbers _ _ made.numbers))

-- ---- what it costs

pub returns-in_default-clause-cost : goal.returns-in_default-clause-cost
returns-in_default-clause-cost c =
    let registry = c.args.registry.now in
    let look : PaysAtMost c.args.meter.now c.live_slot.new.meter (look_cost (the_view c.self.inside)) = search rules in
    subst (λ t. PaysToWriteInto t registry c.args.id (Err CoreFault.Gone) c.args.meter.now c.live_slot.new.meter) c.self.view_is
    (gone_into_pays registry c.args.id (the_view c.self.inside) c.args.meter.now c.live_slot.new.meter c.in_default.ensures.found look)

pub returns-clause-cost : goal.returns-clause-cost
returns-clause-cost c =
    let registry = c.args.registry.now in
    let paid : PaysAtMost c.args.meter.now c.charge.new.meter (look_cost (the_view c.self.inside) + slot_into_cost registry c.in-Some.slot.now c.write_into-count.result + recount_cost) = search rules in
    subst (λ t. PaysToWriteInto t registry c.args.id (Ok (record { count = c.write_into-count.result; standing = c.standing-standing.result })) c.args.meter.now c.charge.new.meter) c.self.view_is
    (given_into_pays registry c.args.id (the_view c.self.inside) c.args.meter.now c.charge.new.meter c.write_into-count.result c.standing-standing.result _ c.in-Some.slot.now c.self.invariant.distinct c.in-Some.ensures.found.key c.in-Some.ensures.found.there paid)

-- ---- if nothing is given

pub returns-clause-nothing : goal.returns-clause-nothing
returns-clause-nothing c = λ none.
    ap (λ slot. record (the_view c.self.inside) { slots = with_value c.self.inside.slots.entries (live_key c.args.id c.self.inside.slots.entries) slot }) (c.write_into-count.ensures.nothing none)
    ∙ ap (λ slots. record (the_view c.self.inside) { slots = slots }) (with_value-same c.self.inside.slots.entries (live_key c.args.id c.self.inside.slots.entries) c.in-Some.slot.now c.in-Some.ensures.found.there)
    ∙ c.self.view_is

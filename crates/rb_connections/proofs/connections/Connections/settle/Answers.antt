use Rattle.std.specs.Map.{values_of}
use Rattle.std.proofs.Common.{ap, sym, subst, ◌∙◌, arith, ◌≡◌, true, false, refl}
use Rattle.rb_model.specs.Connections.{settle}
use Rattle.rb_connections.specs.contracts.connections.Connections.{the_view}
use Rattle.rb_model.specs.Served.{served_in}
use Rattle.rb_connections.specs.StandsFor.{StandsForConnections}
use Rattle.rb_connections.specs.Slots.{HasBuffers}
use Rattle.rb_connections.specs.Awaits.{has_idle, is_free}
use Rattle.rb_connections.proofs.Holding.{stays_changed}
use Rattle.rb_connections.proofs.Slots.{gone_stays, live_changed}
use Rattle.rb_connections.proofs.Freed.{found_live, none_idle, one_freed, now_awaits, only_from}
use Rattle.rb_connections.proofs.Listings.{lists_changed}
use Rattle.rb_connections.proofs.ByHint.{distinct_numbers}
use Rattle.rb_connections.proofs.LiveSlots.{within_by, live_fits, live_table}
use Rattle.rb_connections.proofs.Standing.{now_standing, gone_standing}
use Rattle.rb_connections.proofs.connections.Connections.settle.Goals as goal

pub live_slot-requires-clause-numbers : goal.live_slot-requires-clause-numbers
live_slot-requires-clause-numbers c = distinct_numbers c.self.inside.last_number (values_of c.self.inside.slots.entries) c.self.invariant.numbers

pub overflow_add-self : goal.overflow_add-self
overflow_add-self c =
    let fits = live_fits _ _ _ _ _ c.self.invariant _ _ c.settle.new.self c.in-Some.ensures.found _ c.in-Some.ensures.held _ c.charge.ensures.charge c.charge.ensures.within in
    omega (arith, fits)

pub invariant_of-self-2 : goal.invariant_of-self-2
invariant_of-self-2 c =
    let tie = c.in-Some.ensures.cost.tie ∙ c.requires.tie ∙ sym (ap (λ t. t.tie) c.self.view_is) in
    live_table _ _ _ _ _ c.self.invariant _ _ _ c.in-Some.ensures.found _ c.in-Some.ensures.held _ c.charge.ensures.charge c.charge.ensures.within
    c.settle.ensures.stays.number (subst (λ t. HasBuffers t c.settle.new.self) tie c.settle.ensures.stays.buffers)

pub returns-in_default-clause-stands : goal.returns-in_default-clause-stands
returns-in_default-clause-stands c = λ o h.
    let registry = c.args.registry.now in
    let z = subst (λ t. StandsForConnections registry t o) (sym c.self.view_is) h in
    gone_stays registry c.args.id (settle c.args.clock (served_in registry c.args.served c.args.draft.now.bytes)) (the_view c.self.inside) c.in_default.ensures.found o z

pub returns-clause-stays : goal.returns-clause-stays
returns-clause-stays c = stays_changed (the_view c.self.inside) c.args.self.now _ c.settle.new.self c.self.view_is (within_by c.settle.new.self _ c.charge.ensures.charge c.charge.ensures.within)

pub returns-clause-stands : goal.returns-clause-stands
returns-clause-stands c = λ o h.
    let registry = c.args.registry.now in
    let z = subst (λ t. StandsForConnections registry t o) (sym c.self.view_is) h in
    live_changed registry c.args.id (settle c.args.clock (served_in registry c.args.served c.args.draft.now.bytes)) (the_view c.self.inside) _ c.in-Some.slot.now c.settle.new.self c.self.invariant.distinct c.in-Some.ensures.found.key c.in-Some.ensures.found.there c.settle.ensures.stands o z

pub returns-in_default-clause-others : goal.returns-in_default-clause-others
returns-in_default-clause-others c = λ id apart none. subst (λ t. is_free id t ≡ false) (sym c.self.view_is) none

pub returns-clause-others : goal.returns-clause-others
returns-clause-others c =
    let l = found_live c.args.id _ c.self.inside.slots.entries c.in-Some.slot.now c.self.invariant.distinct c.in-Some.ensures.found.key c.in-Some.ensures.found.there in
    only_from c.args.id (the_view c.self.inside) c.args.self.now _ c.self.view_is
    (one_freed (the_view c.self.inside) c.args.id _ c.in-Some.slot.now c.settle.new.self c.in-Some.ensures.found.there l.0 c.settle.ensures.stays.number)

pub returns-in_default-clause-awaits : goal.returns-in_default-clause-awaits
returns-in_default-clause-awaits c = λ forwarded idle.
    absurd (none_idle c.args.id c.self.inside.slots.entries c.in_default.ensures.found (the_view c.self.inside) refl (subst (λ t. has_idle c.args.id t ≡ true) (sym c.self.view_is) idle))

pub returns-clause-awaits : goal.returns-clause-awaits
returns-clause-awaits c = λ forwarded idle.
    let l = found_live c.args.id _ c.self.inside.slots.entries c.in-Some.slot.now c.self.invariant.distinct c.in-Some.ensures.found.key c.in-Some.ensures.found.there in
    now_awaits (the_view c.self.inside) c.args.id _ c.in-Some.slot.now c.settle.new.self c.self.invariant.numbers c.in-Some.ensures.found.there l.0 c.settle.ensures.stays.number (c.settle.ensures.awaits forwarded)

pub returns-clause-lists : goal.returns-clause-lists
returns-clause-lists c =
    let registry = c.args.registry.now in
    lists_changed (the_view c.self.inside) c.args.self.now c.self.view_is registry _ c.settle.new.self c.requires.lists c.settle.ensures.lists

pub returns-clause-standing : goal.returns-clause-standing
returns-clause-standing c =
    let tie = c.in-Some.ensures.cost.tie ∙ c.requires.tie ∙ sym (ap (λ t. t.tie) c.self.view_is) in
    let made =
    live_table _ _ _ _ _ c.self.invariant _ _ _ c.in-Some.ensures.found _ c.in-Some.ensures.held _ c.charge.ensures.charge c.charge.ensures.within
    c.settle.ensures.stays.number (subst (λ t. HasBuffers t c.settle.new.self) tie c.settle.ensures.stays.buffers) in
    let l = found_live c.args.id _ c.self.inside.slots.entries c.in-Some.slot.now c.self.invariant.distinct c.in-Some.ensures.found.key c.in-Some.ensures.found.there in
    rw c.standing-standing.ensures
    (now_standing c.args.id _ c.in-Some.slot.now c.settle.new.self (the_view c.self.inside) c.in-Some.ensures.found.there l.0 c.settle.ensures.stays.number
    (distinct_numbers _ _ made.numbers))

pub returns-in_default-clause-standing : goal.returns-in_default-clause-standing
returns-in_default-clause-standing c = λ registry o h.
    gone_standing c.args.id (the_view c.self.inside) c.in_default.ensures.found registry o h

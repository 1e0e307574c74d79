use Rattle.std.specs.Map.{values_of}
use Rattle.std.proofs.Common.{length, Ok, ap, sym, subst, ◌∙◌, arith}
use Rattle.rb_xdr.proofs.PoolLemmas.{length-with}
use Rattle.rb_model.specs.Connections.{on_live}
use Rattle.rb_connections.specs.contracts.connections.Connections.{the_view}
use Rattle.rb_connections.specs.Slots.{Shows, HasBuffers, take_piece, arguments_on}
use Rattle.rb_connections.specs.StandsFor.{StandsForConnections}
use Rattle.rb_connections.specs.Awaits.{GoOn}
use Rattle.rb_connections.proofs.GoingOn.{goes_on_same, goes_on_changed}
use Rattle.rb_connections.proofs.Slots.{acts_from, gone_acts, live_acts, gone_arguments, live_arguments}
use Rattle.rb_connections.proofs.Freed.{found_live, ends_from, ended_from}
use Rattle.rb_connections.proofs.ByHint.{distinct_numbers}
use Rattle.rb_connections.proofs.LiveSlots.{within_by, live_fits, live_table}
use Rattle.rb_connections.proofs.Standing.{now_standing}
use Rattle.rb_connections.proofs.connections.Connections.take.Goals as goal

pub live_slot-requires-clause-numbers : goal.live_slot-requires-clause-numbers
live_slot-requires-clause-numbers c = distinct_numbers c.self.inside.last_number (values_of c.self.inside.slots.entries) c.self.invariant.numbers

pub overflow_add-self : goal.overflow_add-self
overflow_add-self c =
    let fits = live_fits _ _ _ _ _ c.self.invariant _ _ c.take-received.new.self c.in-Some.ensures.found _ c.in-Some.ensures.held _ c.charge.ensures.charge c.charge.ensures.within in
    omega (arith, fits)

pub invariant_of-self-2 : goal.invariant_of-self-2
invariant_of-self-2 c =
    let tie = c.in-Some.ensures.cost.tie ∙ c.requires.tie ∙ sym (ap (λ t. t.tie) c.self.view_is) in
    live_table _ _ _ _ _ c.self.invariant _ _ _ c.in-Some.ensures.found _ c.in-Some.ensures.held _ c.charge.ensures.charge c.charge.ensures.within
    c.take-received.ensures.stays.number (subst (λ t. HasBuffers t c.take-received.new.self) tie c.take-received.ensures.stays.buffers)

pub returns-in_default-clause-acts : goal.returns-in_default-clause-acts
returns-in_default-clause-acts c =
    λ registry. acts_from registry (on_live c.args.id (take_piece c.args.clock c.args.piece.now)) (the_view c.self.inside) c.args.self.now _ _ c.self.view_is
    (gone_acts registry c.args.id (take_piece c.args.clock c.args.piece.now) (the_view c.self.inside) c.in_default.ensures.found)

pub returns-clause-acts : goal.returns-clause-acts
returns-clause-acts c =
    λ registry. acts_from registry (on_live c.args.id (take_piece c.args.clock c.args.piece.now)) (the_view c.self.inside) c.args.self.now _ _ c.self.view_is
    (live_acts registry c.args.id (take_piece c.args.clock c.args.piece.now) (the_view c.self.inside) _ c.in-Some.slot.now c.take-received.new.self _ c.self.invariant.distinct c.in-Some.ensures.found.key c.in-Some.ensures.found.there (c.take-received.ensures.acts registry))

pub returns-clause-as_many : goal.returns-clause-as_many
returns-clause-as_many c = length-with c.self.inside.slots.entries _ c.take-received.new.self ∙ ap (λ t. length t.slots) c.self.view_is

pub returns-in_default-clause-arguments : goal.returns-in_default-clause-arguments
returns-in_default-clause-arguments c =
    λ registry. subst (λ t. Shows (StandsForConnections registry) (arguments_on c.args.id c.args.arguments.now.bytes c.args.piece.now) t c.args.arguments.now.bytes) c.self.view_is
    (gone_arguments registry c.args.id c.args.arguments.now.bytes c.args.piece.now (the_view c.self.inside) c.in_default.ensures.found)

pub returns-clause-arguments : goal.returns-clause-arguments
returns-clause-arguments c =
    λ registry. subst (λ t. Shows (StandsForConnections registry) (arguments_on c.args.id c.args.arguments.now.bytes c.args.piece.now) t c.take-received.new.arguments.bytes) c.self.view_is
    (live_arguments registry c.args.id c.args.arguments.now.bytes c.args.piece.now (the_view c.self.inside) _ c.in-Some.slot.now c.take-received.new.arguments.bytes c.self.invariant.distinct c.in-Some.ensures.found.key c.in-Some.ensures.found.there (c.take-received.ensures.arguments registry))

pub returns-clause-ends : goal.returns-clause-ends
returns-clause-ends c =
    let l = found_live c.args.id _ c.self.inside.slots.entries c.in-Some.slot.now c.self.invariant.distinct c.in-Some.ensures.found.key c.in-Some.ensures.found.there in
    ends_from c.args.id c.args.clock (the_view c.self.inside) c.args.self.now _ (Ok c.take-received.result) c.self.view_is
    (ended_from (the_view c.self.inside) c.args.id c.args.clock _ c.in-Some.slot.now c.take-received.new.self c.take-received.result c.self.invariant.numbers c.in-Some.ensures.found.there l.0 c.take-received.ensures.stays.number c.take-received.ensures.ended)

pub returns-in_default-clause-goes_on : goal.returns-in_default-clause-goes_on
returns-in_default-clause-goes_on c = subst (λ t. GoOn t (the_view c.self.inside)) c.self.view_is (goes_on_same (the_view c.self.inside))

pub returns-clause-goes_on : goal.returns-clause-goes_on
returns-clause-goes_on c =
    goes_on_changed (the_view c.self.inside) c.args.self.now c.self.view_is _ c.in-Some.slot.now c.take-received.new.self c.in-Some.ensures.found.there
    c.take-received.ensures.lists c.take-received.ensures.stays.number c.take-received.ensures.awaits (within_by c.take-received.new.self _ c.charge.ensures.charge c.charge.ensures.within)

pub returns-clause-stands : goal.returns-clause-stands
returns-clause-stands c =
    let tie = c.in-Some.ensures.cost.tie ∙ c.requires.tie ∙ sym (ap (λ t. t.tie) c.self.view_is) in
    let made =
    live_table _ _ _ _ _ c.self.invariant _ _ _ c.in-Some.ensures.found _ c.in-Some.ensures.held _ c.charge.ensures.charge c.charge.ensures.within
    c.take-received.ensures.stays.number (subst (λ t. HasBuffers t c.take-received.new.self) tie c.take-received.ensures.stays.buffers) in
    let l = found_live c.args.id _ c.self.inside.slots.entries c.in-Some.slot.now c.self.invariant.distinct c.in-Some.ensures.found.key c.in-Some.ensures.found.there in
    rw c.standing-standing.ensures
    (now_standing c.args.id _ c.in-Some.slot.now c.take-received.new.self (the_view c.self.inside) c.in-Some.ensures.found.there l.0 c.take-received.ensures.stays.number
    (distinct_numbers _ _ made.numbers))

use Rattle.std.specs.Borrow.{Bor}
use Rattle.std.proofs.Common.{rules, ◌≡◌, ℕ, List, length, take, ◌+◌, Option, Some, None, Ok, refl, sym, ap, subst, ◌∙◌}
use Rattle.std.proofs.lemmas.Result.{err_from_is_err_and}
use Rattle.rb_xdr.specs.Meter.{Meter, PaysAtMost}
use Rattle.rb_model.specs.Costs.{bytes_cost}
use Rattle.rb_model.specs.State.{State}
use Rattle.rb_model.specs.Connections.{on_live, live_connection}
use Rattle.rb_model.specs.Standings.{standing_behind}
use Rattle.rb_connections.specs.StandsFor.{StandsForConnections}
use Rattle.rb_connections.specs.Slots.{Acts, Shows, take_piece, arguments_on}
use Rattle.rb_connections.specs.Giving.{whole_cost}
use Rattle.rb_core.specs.contracts.holding.Core.{the_view}
use Rattle.rb_core.specs.CallCosts.{announced_in, sizes_of}
use Rattle.rb_core.specs.Core.{arguments_in}
use Rattle.rb_core.specs.StandsFor.{CoreView, StandsFor}
use Rattle.rb_core.proofs.Spending.{as_large, looked_paid, received_paid, answered_paid}
use Rattle.rb_core.proofs.Steps.{bytes_refused, quiet_acts, quiet_gives_none, with_ended, fed_by, held_after}
use Rattle.rb_core.proofs.AtOnce.{plainly, counted, none_refused, by_count, exchange_ended, counted_ended}
use Rattle.rb_core.proofs.Begun.{with_steps_before, still_stands, acts_begun, shows_begun}
use Rattle.rb_core.proofs.Cores.{core_moved}
use Rattle.rb_core.proofs.Awaited.{awaited_by_table}
use Rattle.rb_core.proofs.holding.Core.exchange.Goals as goal

-- ---- no such connection

pub returns-in_err-got-clause-acts : goal.returns-in_err-got-clause-acts
returns-in_err-got-clause-acts c =
    let p = err_from_is_err_and c.from_residual.result c.from_residual.ensures.1 in
    let view = with_steps_before (the_view c.self.inside) c.count-self-inside.result in
    let refused = bytes_refused view c.args.now c.max-clock.result c.args.id c.args.piece.now c.take_piece.new.connections _ (c.in_err-got.ensures.acts c.self.inside.books.registry) in
    rw (p.1, p.2, c.in_err-got.ensures.refused, c.in_err-got.ensures.kept) (
    acts_begun _ (the_view c.self.inside) c.args.self.now _ c.count-self-inside.result _ c.self.view_is
    (counted c.args.now c.args.id 0 c.args.piece.now _ view view _ (plainly c.args.now c.args.id c.args.piece.now view view _ refused) (none_refused c.args.now c.args.id c.args.piece.now _ view view _ refused)))

pub returns-in_err-got-clause-count : goal.returns-in_err-got-clause-count
returns-in_err-got-clause-count c =
    let p = err_from_is_err_and c.from_residual.result c.from_residual.ensures.1 in
    let view = with_steps_before (the_view c.self.inside) c.count-self-inside.result in
    let refused = bytes_refused view c.args.now c.max-clock.result c.args.id c.args.piece.now c.take_piece.new.connections _ (c.in_err-got.ensures.acts c.self.inside.books.registry) in
    rw (p.1) (shows_begun _ (the_view c.self.inside) c.args.self.now c.count-self-inside.result 0 c.self.view_is (none_refused c.args.now c.args.id c.args.piece.now _ view view _ refused))

-- a bound by what was held, of a core by its other name
by_view : (view now new : CoreView) (id : ℕ) (piece : List ℕ) (s : State) (more : ℕ) (a b : Meter) → view ≡ now
    → PaysAtMost a b (bytes_cost (announced_in view) (sizes_of view new) piece (live_connection id s.connections.all) + more) → PaysAtMost a b (bytes_cost (announced_in now) (sizes_of now new) piece (live_connection id s.connections.all) + more)
by_view view now new id piece s more a b is pays = subst (λ (held : CoreView). PaysAtMost a b (bytes_cost (announced_in held) (sizes_of held new) piece (live_connection id s.connections.all) + more)) is pays

pub returns-in_err-got-clause-cost : goal.returns-in_err-got-clause-cost
returns-in_err-got-clause-cost c =
    let p = err_from_is_err_and c.from_residual.result c.from_residual.ensures.1 in
    rw p.1 (λ s h. by_view (the_view c.self.inside) c.args.self.now (the_view c.self.inside) c.args.id c.args.piece.now s (whole_cost (length c.args.room.now) 0) _ _ c.self.view_is (looked_paid (announced_in (the_view c.self.inside)) (sizes_of (the_view c.self.inside) (the_view c.self.inside)) c.args.piece.now _ _ (whole_cost (length c.args.room.now) 0) (live_connection c.args.id s.connections.all) c.in_err-got.ensures.cost))

-- ---- no record ended

-- the buffer has the arguments if none lie in the piece
in_buffer : (view : CoreView) (id : ℕ) (piece kept : List ℕ) (o : Option (Bor (List ℕ))) → o ≡ None → Shows (StandsForConnections view.books.registry) (arguments_on id view.arguments piece) view.connections (arguments_in o kept)
    → Shows (StandsForConnections view.books.registry) (arguments_on id view.arguments piece) view.connections kept
in_buffer view id piece kept o none holds = subst (λ (x : Option (Bor (List ℕ))). Shows (StandsForConnections view.books.registry) (arguments_on id view.arguments piece) view.connections (arguments_in x kept)) none holds

pub returns-in_default-clause-acts : goal.returns-in_default-clause-acts
returns-in_default-clause-acts c =
    let view = with_steps_before (the_view c.self.inside) c.count-self-inside.result in
    let got = c.in_ok-got.got.received in
    let taken = with_ended view.books.registry c.args.id c.max-clock.result c.args.piece.now view.connections c.take_piece.new.connections got None c.in_default.is (c.in_ok-got.ensures.acts view.books.registry) in
    let holds = in_buffer view c.args.id c.args.piece.now c.take_piece.new.arguments.bytes c.in_ok-got.got.arguments (c.in_ok-got.ensures.arguments.none c.in_default.is) (c.in_ok-got.ensures.arguments.shows view.books.registry) in
    acts_begun _ (the_view c.self.inside) c.args.self.now _ c.count-self-inside.result _ c.self.view_is
    (counted c.args.now c.args.id 0 c.args.piece.now _ view _ _
    (plainly c.args.now c.args.id c.args.piece.now view _ _ (quiet_acts view c.args.now c.max-clock.result c.args.id c.args.piece.now c.max-clock.ensures c.take_piece.new.connections c.in_ok-got.ensures.goes_on.stays c.take_piece.new.arguments.bytes holds got.count taken))
    (quiet_gives_none view c.args.now c.max-clock.result c.args.id c.args.piece.now c.max-clock.ensures c.take_piece.new.connections c.in_ok-got.ensures.goes_on.stays c.take_piece.new.arguments.bytes holds _ got.count taken))

pub returns-in_default-clause-count : goal.returns-in_default-clause-count
returns-in_default-clause-count c =
    let view = with_steps_before (the_view c.self.inside) c.count-self-inside.result in
    let got = c.in_ok-got.got.received in
    let taken = with_ended view.books.registry c.args.id c.max-clock.result c.args.piece.now view.connections c.take_piece.new.connections got None c.in_default.is (c.in_ok-got.ensures.acts view.books.registry) in
    let holds = in_buffer view c.args.id c.args.piece.now c.take_piece.new.arguments.bytes c.in_ok-got.got.arguments (c.in_ok-got.ensures.arguments.none c.in_default.is) (c.in_ok-got.ensures.arguments.shows view.books.registry) in
    shows_begun _ (the_view c.self.inside) c.args.self.now c.count-self-inside.result 0 c.self.view_is
    (quiet_gives_none view c.args.now c.max-clock.result c.args.id c.args.piece.now c.max-clock.ensures c.take_piece.new.connections c.in_ok-got.ensures.goes_on.stays c.take_piece.new.arguments.bytes holds _ got.count taken)

pub returns-in_default-clause-cost : goal.returns-in_default-clause-cost
returns-in_default-clause-cost c = λ s h.
    let view = with_steps_before (the_view c.self.inside) c.count-self-inside.result in
    let z = still_stands (the_view c.self.inside) c.count-self-inside.result s (subst (λ (held : CoreView). StandsFor held s) (sym c.self.view_is) h) in
    let f =
    fed_by view c.args.now c.max-clock.result c.args.id c.args.piece.now c.max-clock.ensures c.take_piece.new.connections c.in_ok-got.ensures.goes_on.stays (arguments_in c.in_ok-got.got.arguments c.take_piece.new.arguments.bytes) (c.in_ok-got.ensures.arguments.shows view.books.registry)
    c.in_ok-got.got.received (c.in_ok-got.ensures.acts view.books.registry) s z in
    by_view (the_view c.self.inside) c.args.self.now (the_view c.self.inside) c.args.id c.args.piece.now s (whole_cost (length c.args.room.now) 0) c.args.meter.now c.take_piece.new.meter c.self.view_is
    (rw f.there (received_paid (announced_in (the_view c.self.inside)) (sizes_of (the_view c.self.inside) (the_view c.self.inside)) c.args.piece.now _ _ (whole_cost (length c.args.room.now) 0) f.connection c.in_ok-got.got.received f.gives c.in_ok-got.ensures.cost))

-- ---- a record that is answered

ended : (c : goal.After-standing_behind-2) → Acts (StandsForConnections c.self.inside.books.registry) (on_live c.args.id (take_piece c.max-clock.result c.args.piece.now)) c.self.inside.connections c.take_piece.new.connections (Ok (record { count = c.in_ok-got.got.received.count; ended = Some c.in-Some.ended }))
ended c = with_ended c.self.inside.books.registry c.args.id c.max-clock.result c.args.piece.now c.self.inside.connections c.take_piece.new.connections c.in_ok-got.got.received (Some c.in-Some.ended) c.in-Some.is (c.in_ok-got.ensures.acts c.self.inside.books.registry)

pub returns-clause-acts : goal.returns-clause-acts
returns-clause-acts c =
    let room : List ℕ = c.answer-lost.new.room in
    let view = with_steps_before (the_view c.self.inside) c.count-self-inside.result in
    let arguments = arguments_in c.in_ok-got.got.arguments c.take_piece.new.arguments.bytes in
    let holds = c.in_ok-got.ensures.arguments.shows view.books.registry in
    let n : ℕ = c.answer-lost.result.1 in
    acts_begun _ (the_view c.self.inside) c.args.self.now _ c.count-self-inside.result _ c.self.view_is
    (counted c.args.now c.args.id n c.args.piece.now (length room) view _ _
    (by_count c.args.now c.args.id n c.args.piece.now room _ _ _ c.answer-lost.ensures.within
    (exchange_ended view c.args.now c.max-clock.result c.args.id c.args.piece.now c.max-clock.ensures c.take_piece.new.connections c.in_ok-got.ensures.goes_on.stays arguments holds c.in_ok-got.got.received.count c.in-Some.ended c.answer-lost.new.self c.answer-lost.result.0 (take n room)
    (ended c) c.answer-lost.ensures.acts))
    (counted_ended view c.args.now c.max-clock.result c.args.id c.args.piece.now c.max-clock.ensures c.take_piece.new.connections c.in_ok-got.ensures.goes_on.stays arguments holds c.in_ok-got.got.received.count (length room) n c.in-Some.ended
    (ended c) (rw c.answer-lost.auto.room c.answer-lost.ensures.count)))

pub returns-clause-count : goal.returns-clause-count
returns-clause-count c =
    let view = with_steps_before (the_view c.self.inside) c.count-self-inside.result in
    shows_begun _ (the_view c.self.inside) c.args.self.now c.count-self-inside.result c.answer-lost.result.1 c.self.view_is
    (counted_ended view c.args.now c.max-clock.result c.args.id c.args.piece.now c.max-clock.ensures c.take_piece.new.connections c.in_ok-got.ensures.goes_on.stays (arguments_in c.in_ok-got.got.arguments c.take_piece.new.arguments.bytes) (c.in_ok-got.ensures.arguments.shows view.books.registry) c.in_ok-got.got.received.count (length c.args.room.now) c.answer-lost.result.1 c.in-Some.ended
    (ended c) c.answer-lost.ensures.count)

pub returns-clause-cost : goal.returns-clause-cost
returns-clause-cost c = λ s h.
    let view = with_steps_before (the_view c.self.inside) c.count-self-inside.result in
    let z = still_stands (the_view c.self.inside) c.count-self-inside.result s (subst (λ (held : CoreView). StandsFor held s) (sym c.self.view_is) h) in
    let arguments = arguments_in c.in_ok-got.got.arguments c.take_piece.new.arguments.bytes in
    let holds = c.in_ok-got.ensures.arguments.shows view.books.registry in
    let got = c.in_ok-got.got.received in
    let f = fed_by view c.args.now c.max-clock.result c.args.id c.args.piece.now c.max-clock.ensures c.take_piece.new.connections c.in_ok-got.ensures.goes_on.stays arguments holds got (c.in_ok-got.ensures.acts view.books.registry) s z in
    let kept = held_after view c.args.now c.max-clock.result c.args.id c.args.piece.now c.max-clock.ensures c.take_piece.new.connections c.in_ok-got.ensures.goes_on.stays arguments holds s f.connection _ z f.there refl in
    by_view (the_view c.self.inside) c.args.self.now c.answer-lost.new.self c.args.id c.args.piece.now s (whole_cost (length c.args.room.now) c.answer-lost.result.1) c.args.meter.now c.answer-lost.new.meter c.self.view_is
    (rw f.there (
    answered_paid (announced_in (the_view c.self.inside)) (sizes_of (the_view c.self.inside) c.answer-lost.new.self) c.args.piece.now _ _ (whole_cost (length c.args.room.now) c.answer-lost.result.1) c.answer-lost.new.meter _ (as_large (length c.take_piece.new.connections.slots) (length c.self.inside.connections.slots) c.self.inside.books c.answer-lost.new.self.books c.in_ok-got.ensures.as_many) f.connection got c.in-Some.ended _ arguments f.gives c.in-Some.is kept
    c.in_ok-got.ensures.cost c.answer-lost.ensures.cost))

pub invariant_of-self-in_default : goal.invariant_of-self-in_default
invariant_of-self-in_default c =
    core_moved _ _ _ _ _ _ _ _ _ _ c.self.invariant c.in_ok-got.ensures.goes_on.stays (awaited_by_table c.self.inside.books.forwards _ _ c.self.invariant.awaited c.in_ok-got.ensures.goes_on.free) (λ told. c.in_ok-got.ensures.goes_on.lists _ told)
    c.self.invariant.is_draft c.self.invariant.empty (search rules)

pub invariant_of-self-2 : goal.invariant_of-self-2
invariant_of-self-2 c =
    core_moved _ _ _ _ _ _ _ _ _ _ c.self.invariant c.in_ok-got.ensures.goes_on.stays (awaited_by_table c.self.inside.books.forwards _ _ c.self.invariant.awaited c.in_ok-got.ensures.goes_on.free) (λ told. c.in_ok-got.ensures.goes_on.lists _ told)
    c.self.invariant.is_draft c.self.invariant.empty (search rules)

pub returns-in_default-clause-stands : goal.returns-in_default-clause-stands
returns-in_default-clause-stands c = λ s h. c.standing_behind.ensures ∙ ap (standing_behind c.in_ok-got.got.received.count) (c.in_ok-got.ensures.stands c.in_default.is _ s.connections h.connections)

pub returns-clause-stands : goal.returns-clause-stands
returns-clause-stands c = λ s h. c.standing_behind-2.ensures ∙ ap (standing_behind c.in_ok-got.got.received.count) (c.answer-lost.ensures.stands s h)

use Rattle.std.specs.Prelude.{IfNone}
use Rattle.std.proofs.Common.{Option, Some, None, ap, sym, subst, ◌∙◌, length}
use Rattle.rb_xdr.specs.Pool.{with_value}
use Rattle.rb_xdr.proofs.PoolLemmas.{length-with}
use Rattle.rb_model.specs.Connections.{on_live}
use Rattle.rb_model.specs.Calls.{kept_of}
use Rattle.rb_connections.specs.contracts.connections.Connections.{the_view}
use Rattle.rb_connections.specs.StandsFor.{Table, StandsForConnections}
use Rattle.rb_connections.specs.Slots.{Shows, take_piece, arguments_on}
use Rattle.rb_connections.specs.Awaits.{EndedOn}
use Rattle.rb_connections.proofs.Settled.{since_table, since_goes_on, since_stays, takes_whole_on, keeps_whole_on, taken_whole_on}
use Rattle.rb_connections.proofs.Slots.{acts_from}
use Rattle.rb_connections.proofs.connections.Connections.take_whole.Goals as goal

pub invariant_of-self-in_err-who : goal.invariant_of-self-in_err-who
invariant_of-self-in_err-who c =
    since_table c.self.inside.slots c.self.inside.spare c.self.inside.last_number c.self.inside.conns c.self.inside.held c.self.invariant c.key.result c.in_ok-slot.slot.now c.take_whole.new.self
    (sym c.in_ok-slot.ensures.value) c.take_whole.ensures.kept

if_none : {A P : Type 0} (o : Option A) → P → IfNone o P
if_none None p = p
if_none (Some a) p = tt

pub returns-in_err-who-clause-refused : goal.returns-in_err-who-clause-refused
returns-in_err-who-clause-refused c =
    if_none c.from_residual-in_err-who.result
    (since_stays c.key.result (the_view c.self.inside) c.in_ok-slot.slot.now c.take_whole.new.self (sym c.in_ok-slot.ensures.value) c.take_whole.ensures.kept c.in_err-who.ensures.stays ∙ c.self.view_is)

pub returns-in_err-who-clause-goes_on : goal.returns-in_err-who-clause-goes_on
returns-in_err-who-clause-goes_on c =
    since_goes_on c.key.result (the_view c.self.inside) c.in_ok-slot.slot.now c.take_whole.new.self (sym c.in_ok-slot.ensures.value) c.take_whole.ensures.kept c.args.self.now c.self.view_is c.self.invariant.within

pub returns-in_err-who-clause-as_many : goal.returns-in_err-who-clause-as_many
returns-in_err-who-clause-as_many c = length-with c.self.inside.slots.entries c.key.result c.take_whole.new.self ∙ ap (λ (t : Table). length t.slots) c.self.view_is

pub invariant_of-self-2 : goal.invariant_of-self-2
invariant_of-self-2 c =
    since_table c.self.inside.slots c.self.inside.spare c.self.inside.last_number c.self.inside.conns c.self.inside.held c.self.invariant c.key.result c.in_ok-slot.slot.now c.take_whole.new.self
    (sym c.in_ok-slot.ensures.value) c.take_whole.ensures.kept

pub returns-clause-acts : goal.returns-clause-acts
returns-clause-acts c = λ registry.
    let content = c.in_ok-content.content.now in
    let piece = c.args.piece.now in
    rw c.in_ok-who.ensures.who
    (acts_from registry (on_live c.args.id (take_piece c.args.clock piece)) (the_view c.self.inside) c.args.self.now _ _ c.self.view_is
    (takes_whole_on c.args.id c.args.clock c.key.result (the_view c.self.inside) c.in_ok-slot.slot.now c.take_whole.new.self c.self.invariant.distinct c.self.invariant.numbers (sym c.in_ok-slot.ensures.value) c.take_whole.ensures.kept
    c.in_ok-who.ensures.number c.in_ok-who.ensures.idle c.in_ok-who.ensures.since registry piece content c.in_ok-content.ensures.content))

pub returns-clause-arguments : goal.returns-clause-arguments
returns-clause-arguments c = λ before registry.
    let content = c.in_ok-content.content.now in
    let piece = c.args.piece.now in
    subst (λ (t : Table). Shows (StandsForConnections registry) (arguments_on c.args.id before piece) t (kept_of content)) c.self.view_is
    (keeps_whole_on c.args.id c.args.clock c.key.result (the_view c.self.inside) c.in_ok-slot.slot.now c.take_whole.new.self c.self.invariant.distinct c.self.invariant.numbers (sym c.in_ok-slot.ensures.value) c.take_whole.ensures.kept
    c.in_ok-who.ensures.number c.in_ok-who.ensures.idle c.in_ok-who.ensures.since registry before piece content c.in_ok-content.ensures.content)

pub returns-clause-from : goal.returns-clause-from
returns-clause-from c =
    subst (λ (t : Table). EndedOn c.args.id c.args.clock t (record (the_view c.self.inside) { slots = with_value c.self.inside.slots.entries c.key.result c.take_whole.new.self })) c.self.view_is
    (taken_whole_on c.args.id c.args.clock c.key.result (the_view c.self.inside) c.in_ok-slot.slot.now c.take_whole.new.self c.self.invariant.distinct c.self.invariant.numbers (sym c.in_ok-slot.ensures.value) c.take_whole.ensures.kept
    c.in_ok-who.ensures.number c.in_ok-who.ensures.idle c.in_ok-who.ensures.since)

pub returns-clause-goes_on : goal.returns-clause-goes_on
returns-clause-goes_on c =
    since_goes_on c.key.result (the_view c.self.inside) c.in_ok-slot.slot.now c.take_whole.new.self (sym c.in_ok-slot.ensures.value) c.take_whole.ensures.kept c.args.self.now c.self.view_is c.self.invariant.within

pub returns-clause-as_many : goal.returns-clause-as_many
returns-clause-as_many c = length-with c.self.inside.slots.entries c.key.result c.take_whole.new.self ∙ ap (λ (t : Table). length t.slots) c.self.view_is

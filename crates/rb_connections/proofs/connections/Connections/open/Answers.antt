use Rattle.std.specs.Prelude.{All}
use Rattle.std.specs.Map.{values_of}
use Rattle.std.proofs.Common.{Err, sym, subst, refl, ap, ◌∙◌, arith}
use Rattle.std.proofs.lemmas.List.Elements.{All-push}
use Rattle.rb_model.specs.declared.types.CoreFault.TheVariants.{Full, Spent}
use Rattle.rb_model.specs.Connections.{open_in_table}
use Rattle.rb_connections.specs.contracts.connections.Connections.{the_view}
use Rattle.rb_connections.specs.Slots.{Acts, HasBuffers, AreBuffers, AreSpare}
use Rattle.rb_connections.specs.StandsFor.{StandsForConnections}
use Rattle.rb_connections.proofs.GoingOn.{goes_on_same}
use Rattle.rb_connections.proofs.Holding.{room_for_one, within_pushed, held_pushed}
use Rattle.rb_connections.proofs.Slots.{acts_from, full_acts, spent_acts, opened_acts, numbered-more}
use Rattle.rb_connections.proofs.Freed.{none_freed_by_open, freed_from}
use Rattle.rb_connections.proofs.Listings.{keeps_more}
use Rattle.rb_connections.proofs.connections.Connections.open.Goals as goal

pub returns-then-len-self-clause-acts : goal.returns-then-len-self-clause-acts
returns-then-len-self-clause-acts c =
    λ registry. subst (λ t. Acts (StandsForConnections registry) (open_in_table t.conns c.args.who c.args.clock) t t (Err Full)) c.self.view_is
    (full_acts registry c.self.inside.conns c.args.who c.args.clock (the_view c.self.inside) (omega (arith, c.len.ensures.len, c.if-len-self.true)))

pub returns-then-self-clause-acts : goal.returns-then-self-clause-acts
returns-then-self-clause-acts c =
    λ registry. subst (λ t. Acts (StandsForConnections registry) (open_in_table t.conns c.args.who c.args.clock) t t (Err Spent)) c.self.view_is
    (spent_acts registry c.self.inside.conns c.args.who c.args.clock (the_view c.self.inside) (omega (arith, c.len.ensures.len, c.if-len-self.false)) c.if-self.true)

pub overflow_add-self-2 : goal.overflow_add-self-2
overflow_add-self-2 c = let room = room_for_one c.self.inside.slots c.self.inside.spare c.self.inside.last_number c.self.inside.conns c.self.inside.held c.self.invariant in omega (arith, room)

pub invariant_of-self : goal.invariant_of-self
invariant_of-self c = record {
  distinct = c.add-key.ensures.distinct;
  spare_distinct = c.take_buffers-buffer.ensures.distinct;
  room = omega (arith, c.add-key.ensures.more, c.take_buffers-buffer.ensures.fewer, c.self.invariant.room);
  cap = c.add-key.ensures.frame.cap ∙ c.self.invariant.cap;
  spare_cap = c.take_buffers-buffer.ensures.frame.cap ∙ c.self.invariant.spare_cap;
  tie = c.take_buffers-buffer.ensures.frame.tie ∙ c.self.invariant.tie ∙ sym c.add-key.ensures.frame.tie;
  buffers =
      subst (λ t. All (HasBuffers t) (values_of c.add-key.new.self.entries)) (sym c.add-key.ensures.frame.tie)
      (rw c.add-key.ensures.last (All-push (HasBuffers c.self.inside.slots.tie) (values_of c.self.inside.slots.entries) _ c.self.invariant.buffers
      (subst (λ t. AreBuffers t c.take_buffers-buffer.result.buffer c.take_buffers-buffer.result.window) c.self.invariant.tie c.take_buffers-buffer.ensures.made.buffers)));
  spare_buffers =
      subst (λ t. All (AreSpare t) (values_of c.take_buffers-buffer.new.spare.entries)) (c.self.invariant.tie ∙ sym c.add-key.ensures.frame.tie)
      c.take_buffers-buffer.ensures.buffers;
  numbers = rw c.add-key.ensures.last (numbered-more c.self.inside.last_number (values_of c.self.inside.slots.entries) _ c.self.invariant.numbers refl);
  few = c.self.invariant.few;
  within =
      rw c.add-key.ensures.last
      (within_pushed (values_of c.self.inside.slots.entries) _ c.take_buffers-buffer.ensures.made.buffer_empty c.take_buffers-buffer.ensures.made.window_empty c.self.invariant.within);
  is_held =
      rw c.add-key.ensures.last
      (held_pushed (values_of c.self.inside.slots.entries) _ c.take_buffers-buffer.ensures.made.buffer_empty c.take_buffers-buffer.ensures.made.window_empty c.self.inside.held c.self.invariant.is_held);
}

pub returns-clause-acts : goal.returns-clause-acts
returns-clause-acts c = λ registry.
    let conns = ap (λ t. t.conns) c.self.view_is in
    acts_from registry (open_in_table c.args.self.now.conns c.args.who c.args.clock) (the_view c.self.inside) c.args.self.now _ _ c.self.view_is
    (opened_acts registry c.args.self.now.conns c.args.who c.args.clock (the_view c.self.inside) _ _ (omega (arith, conns, c.len.ensures.len, c.if-len-self.false)) (omega (arith, c.if-self.false)) c.add-key.ensures.last refl
    (record {
      number = refl;
      who = refl;
      since = refl;
      phase = (c.take_buffers-buffer.ensures.made.buffer_empty, c.take_buffers-buffer.ensures.made.window_empty);
    }))

pub returns-then-len-self-clause-goes_on : goal.returns-then-len-self-clause-goes_on
returns-then-len-self-clause-goes_on c = goes_on_same _

pub returns-then-self-clause-goes_on : goal.returns-then-self-clause-goes_on
returns-then-self-clause-goes_on c = goes_on_same _

pub returns-clause-goes_on : goal.returns-clause-goes_on
returns-clause-goes_on c = record {
  lists = keeps_more (the_view c.self.inside) c.args.self.now c.self.view_is _ c.add-key.new.self.entries c.add-key.ensures.last (λ registry. tt);
  free = freed_from (the_view c.self.inside) c.args.self.now _ c.self.view_is (none_freed_by_open (the_view c.self.inside) _ _ c.add-key.ensures.last refl refl);
  stays = rw (← c.self.view_is) (record {
    conns = refl;
    memory = rw (c.add-key.ensures.frame.memory, c.take_buffers-buffer.ensures.frame.memory) refl;
    tie = c.add-key.ensures.frame.tie;
    within = λ within.
        rw c.add-key.ensures.last
        (within_pushed (values_of c.self.inside.slots.entries) _ c.take_buffers-buffer.ensures.made.buffer_empty c.take_buffers-buffer.ensures.made.window_empty within);
  });
}

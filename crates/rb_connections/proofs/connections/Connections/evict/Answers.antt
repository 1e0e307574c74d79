use Rattle.std.proofs.Common.{◌≡◌, ◌∙◌, length, true, ap, sym, subst}
use Rattle.rb_xdr.specs.Pool.{Pool}
use Rattle.rb_connections.specs.contracts.connections.Connections.{the_view}
use Rattle.rb_connections.specs.declared.slot.Slot.{Slot}
use Rattle.rb_connections.specs.Awaits.{has_idle, IsIdleIfThere}
use Rattle.rb_connections.specs.Slots.{IsTable}
use Rattle.rb_connections.specs.StandsFor.{StandsForConnections}
use Rattle.rb_connections.specs.Listings.{CanContinueSlot, CanContinueAll}
use Rattle.rb_connections.proofs.Freed.{freed_from}
use Rattle.rb_connections.proofs.Evicting.{table_evicts, table_evicted, lists_evicted, all_keep, later_evicted, length_evicted, idle_evicted, none_freed_by_eviction, stays_evicted}
use Rattle.rb_connections.proofs.Settled.{settled_evicted}
use Rattle.rb_connections.proofs.connections.Connections.evict.Goals as goal

pub invariant_of-self : goal.invariant_of-self
invariant_of-self c =
    subst (λ (slots : Pool Slot). IsTable slots c.self.inside.spare c.self.inside.last_number c.self.inside.conns c.self.inside.held) (sym c.evict_slots.ensures.evicted)
    (table_evicted c.self.inside.slots c.self.inside.spare c.self.inside.last_number c.self.inside.conns c.self.inside.held c.args.earliest c.self.invariant)

pub returns-clause-evicts : goal.returns-clause-evicts
returns-clause-evicts c = λ changes e registry x z.
    rw c.evict_slots.ensures.evicted
    (table_evicts registry changes c.args.earliest (the_view c.self.inside) x e (subst (λ t. StandsForConnections registry t x) (sym c.self.view_is) z))

pub returns-clause-lists : goal.returns-clause-lists
returns-clause-lists c = λ registry told.
    rw c.evict_slots.ensures.evicted
    (all_keep (CanContinueSlot registry) c.args.earliest (lists_evicted registry c.args.earliest) c.self.inside.slots.entries (subst (λ t. CanContinueAll registry t) (sym c.self.view_is) told))

pub returns-clause-later : goal.returns-clause-later
returns-clause-later c = rw c.evict_slots.ensures.evicted (later_evicted c.args.earliest c.self.inside.slots.entries)

pub returns-clause-open : goal.returns-clause-open
returns-clause-open c = rw c.evict_slots.ensures.evicted (record {
  idle = λ id idle. idle_evicted c.args.earliest id (the_view c.self.inside) (subst (λ t. has_idle id t ≡ true) (sym c.self.view_is) idle);
  if_there = λ id clock settled. settled_evicted c.args.earliest id clock (the_view c.self.inside) (subst (λ t. IsIdleIfThere id clock t) (sym c.self.view_is) settled);
  free = freed_from (the_view c.self.inside) c.args.self.now _ c.self.view_is (none_freed_by_eviction c.args.earliest (the_view c.self.inside));
  stays = stays_evicted c.args.earliest (the_view c.self.inside) c.args.self.now c.self.view_is;
  as_many = length_evicted c.args.earliest c.self.inside.slots.entries ∙ ap (λ t. length t.slots) c.self.view_is;
})

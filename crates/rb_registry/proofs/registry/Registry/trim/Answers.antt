use Rattle.std.proofs.Common.{sym, subst, not, arith}
use Rattle.std.proofs.lemmas.Map.Entries.{length-values_of}
use Rattle.rb_registry.specs.Table.{entries_left}
use Rattle.rb_registry.specs.Registry.{Registry, StandsForChanges}
use Rattle.rb_registry.specs.contracts.registry.Registry.{the_view}
use Rattle.rb_registry.proofs.Registries.{goes_on-trim, trimmed_now}
use Rattle.rb_registry.proofs.Stands.{after_trim, fewer_left}
use Rattle.rb_registry.proofs.Tables.{AreStamped-filter, trimmed_removals}
use Rattle.rb_registry.proofs.Holding.{held_fits}
use Rattle.rb_registry.proofs.Ranks.{IsIndexed-left}
use Rattle.rb_registry.proofs.InOrder.{in_order_filter, own_filter}
use Rattle.rb_registry.specs.Slots.{is_dropped}
use Rattle.rb_registry.proofs.registry.Registry.trim.Goals as goal

pub drop_retained-dropped-requires-clause-held : goal.drop_retained-dropped-requires-clause-held
drop_retained-dropped-requires-clause-held c = held_fits _ _ _ c.self.invariant.stamped c.self.invariant.within c.self.invariant.few

pub invariant_of-self : goal.invariant_of-self
invariant_of-self c = record {
  distinct = c.drop_retained-dropped.ensures.distinct;
  stamped = rw c.drop_retained-dropped.ensures.left (AreStamped-filter c.self.inside.changes _ c.self.inside.slots.entries c.self.invariant.stamped);
  made = let made = c.self.invariant.made in let told = c.min-named.ensures in let floor = c.max-self-inside.ensures in omega (arith, made, told, floor);
  few = rw c.drop_retained-dropped.ensures.left c.self.invariant.few;
  within = rw c.drop_retained-dropped.ensures.left (let fewer = fewer_left c.args.oldest c.self.inside.slots.entries in let within = c.self.invariant.within in omega (arith, fewer, within));
  is_held = let freed = c.drop_retained-dropped.ensures.bytes in let held = c.self.invariant.is_held in omega (arith, freed, held);
  indexed = rw c.drop_retained-dropped.ensures.left (IsIndexed-left c.args.oldest c.self.inside.slots.entries c.self.inside.index.entries c.self.invariant.indexed);
  index_cap = rw c.drop_retained-dropped.ensures.left c.self.invariant.index_cap;
  index_tie = rw c.drop_retained-dropped.ensures.left c.self.invariant.index_tie;
  ordered = rw c.drop_retained-dropped.ensures.left (in_order_filter _ 0 c.self.inside.slots.entries c.self.invariant.ordered);
  few_own = rw c.drop_retained-dropped.ensures.left (omega (arith, own_filter (λ e. not (is_dropped c.args.oldest e.1)) c.self.inside.slots.entries, c.self.invariant.few_own));
  are_retained = let dropped = c.drop_retained-dropped.ensures.rows in let dead = c.self.invariant.are_retained in omega (arith, dropped, dead);
}

pub returns-clause-dropped : goal.returns-clause-dropped
returns-clause-dropped c = rw (← c.self.view_is, c.drop_retained-dropped.ensures.left) (trimmed_removals c.args.oldest c.self.inside.slots.entries)

pub returns-clause-changes : goal.returns-clause-changes
returns-clause-changes c own changes h =
    rw (c.drop_retained-dropped.ensures.left, c.max-self-inside.ensures, c.min-named.ensures, c.unwrap_or.ensures)
    (after_trim (the_view c.self.inside) c.args.oldest own changes c.self.invariant.stamped (subst (λ (kept : Registry). StandsForChanges kept own changes) (sym c.self.view_is) h))

pub returns-clause-rows : goal.returns-clause-rows
returns-clause-rows c = rw (← c.self.view_is, c.drop_retained-dropped.ensures.left) (trimmed_now (the_view c.self.inside) c.args.oldest c.self.invariant.stamped)

pub returns-clause-cursors : goal.returns-clause-cursors
returns-clause-cursors c =
    rw (← c.self.view_is, c.drop_retained-dropped.ensures.left, c.max-self-inside.ensures, c.min-named.ensures, c.unwrap_or.ensures) (goes_on-trim (the_view c.self.inside) c.args.oldest c.self.invariant.stamped)

pub returns-clause-fewer : goal.returns-clause-fewer
returns-clause-fewer c =
    let fewer = fewer_left c.args.oldest c.self.inside.slots.entries in
    rw (← c.self.view_is, c.drop_retained-dropped.ensures.left) (omega (arith, fewer, length-values_of c.self.inside.slots.entries, length-values_of (entries_left c.args.oldest c.self.inside.slots.entries)))

use Rattle.std.proofs.Common.{◌≡◌, ℕ, List, refl, ap, ◌∙◌, ◌<◌, length, length-append, ◌∷◌, [], arith, sym, subst, true, false, ◌+◌}
use Rattle.rb_xdr.specs.Meter.{Meter}
use Rattle.rb_xdr.specs.Ordered.{looks, moves}
use Rattle.rb_registry.specs.Slots.{slot_of}
use Rattle.rb_registry.specs.Registry.{Registry, StandsForChanges}
use Rattle.rb_registry.specs.Index.{rank_of}
use Rattle.rb_registry.specs.contracts.registry.Registry.{the_view}
use Rattle.rb_registry.proofs.Holding.{held-push, held_bound}
use Rattle.rb_registry.proofs.Registries.{goes_on-set, goes_on_same, place_left, key_taken, no_change_left, no_room}
use Rattle.rb_registry.proofs.Stands.{after_set}
use Rattle.rb_registry.proofs.Tables.{AreStamped-push, removals-push}
use Rattle.rb_registry.proofs.Ranks.{any_indexed, none_found_there, IsIndexed-push}
use Rattle.rb_registry.proofs.Marks.{looks_within, as_many, ranks_and_retained}
use Rattle.rb_registry.proofs.InOrder.{in_order_push, own_push}
use Rattle.rb_xdr.proofs.Walks.{distinct-push}
use Rattle.rb_registry.proofs.registry.Registry.set.Goals as goal
use Rattle.rb_registry.proofs.registry.Registry.set.Goals.{then-not-is_change_left-via-then-not-is_change_left, then-not-is_change_left-via-else-not-is_change_left+then-has_key}

pub returns-then-not-is_change_left-clause-taken : goal.returns-then-not-is_change_left-clause-taken
returns-then-not-is_change_left-clause-taken c =
    rw (← c.self.view_is)
    (sym (elim c.then-not-is_change_left.branch [
      | then-not-is_change_left-via-then-not-is_change_left w ↦ no_change_left (the_view c.self.inside) c.args.row (sym w.if-not-is_change_left.ensures.left)
      | then-not-is_change_left-via-else-not-is_change_left+then-has_key w ↦
          key_taken (the_view c.self.inside) c.args.row
          (sym (any_indexed c.self.inside.changes c.args.row c.self.inside.slots.entries c.self.inside.index.entries _ c.self.invariant.indexed c.self.invariant.stamped w.if-has_key.ensures.vers w.if-has_key.ensures.found))
    ]))

pub returns-then-not-is_change_left-clause-cursors : goal.returns-then-not-is_change_left-clause-cursors
returns-then-not-is_change_left-clause-cursors c = goes_on_same _

pub returns-then-not-is_change_left-clause-cost : goal.returns-then-not-is_change_left-clause-cost
returns-then-not-is_change_left-clause-cost c =
    let more = looks_within c.self.inside.slots.cap c.self.inside.slots.entries c.self.inside.index.entries c.self.invariant.indexed c.self.invariant.within in
    rw (← c.self.view_is) (elim c.then-not-is_change_left.branch [
      | then-not-is_change_left-via-then-not-is_change_left w ↦ rw w.meter-is (record { rises = omega arith; steps = omega arith; tie = refl })
      | then-not-is_change_left-via-else-not-is_change_left+then-has_key w ↦
          let paid : w.has_key.new.meter.steps ≡ c.args.meter.now.steps + looks (length c.self.inside.index.entries) = ap (λ (m : Meter). m.steps) w.has_key.ensures.cost in
          rw w.meter-is (record { rises = omega (arith, paid); steps = omega (arith, paid, more); tie = ap (λ (m : Meter). m.tie) w.has_key.ensures.cost })
    ])

pub unreachable-requires : goal.unreachable-requires
unreachable-requires c =
    let room : length c.self.inside.slots.entries < c.self.inside.slots.cap = c.in-Ok.ensures.room.0 (λ i. true) in
    let whole = ranks_and_retained c.self.inside.slots.entries in
    let free : length c.self.inside.index.entries < c.self.inside.index.cap = omega (arith, room, whole, c.self.invariant.indexed.count, c.self.invariant.index_cap) in
    let clash : false ≡ true = c.in_default.ensures.room.1 free in
    cc

pub overflow_add-self-in-Ok : goal.overflow_add-self-in-Ok
overflow_add-self-in-Ok c =
    let most = held_bound c.self.inside.changes c.self.inside.slots.entries c.self.invariant.stamped in
    let room : length c.self.inside.slots.entries < c.self.inside.slots.cap = c.in-Ok.ensures.room.0 (λ i. true) in
    omega (arith, most, room, c.self.invariant.few, c.self.invariant.is_held, c.charge-charge.ensures.charge, c.charge-charge.ensures.addr)

pub invariant_of-self : goal.invariant_of-self
invariant_of-self c =
    let missing = none_found_there c.self.inside.index.entries (rank_of c.args.row) c.if-has_key.ensures.found in
    let pushed = IsIndexed-push c.in-Ok.key (c.self.inside.changes + 1) c.args.row c.self.inside.slots.entries c.self.inside.index.entries c.self.invariant.indexed c.if-has_key.ensures.vers missing in
    rw (c.in-Ok.ensures.ok, c.new.ensures, c.in-Ok-insert.ensures.ok, c.rank-rank.ensures.rank) (record {
      distinct = distinct-push c.self.inside.slots.entries c.in-Ok.key (slot_of _ c.args.row) c.self.invariant.distinct c.in-Ok.ensures.fresh;
      stamped = AreStamped-push _ c.in-Ok.key c.args.row c.self.inside.slots.entries c.charge-charge.ensures.addr c.self.invariant.stamped;
      made = let made = c.self.invariant.made in omega (arith, made);
      few = c.self.invariant.few;
      within = let room : length c.self.inside.slots.entries < c.self.inside.slots.cap = c.in-Ok.ensures.room.0 (λ i. true) in let longer = length-append c.self.inside.slots.entries ((c.in-Ok.key, slot_of (c.self.inside.changes + 1) c.args.row) ∷ []) in omega (arith, room, longer);
      are_retained = c.self.invariant.are_retained ∙ ap (λ (ns : List ℕ). length ns) (sym (removals-push c.in-Ok.key (c.self.inside.changes + 1) c.args.row c.self.inside.slots.entries));
      is_held = let more = held-push c.in-Ok.key (c.self.inside.changes + 1) c.args.row c.self.inside.slots.entries in let held = c.self.invariant.is_held in omega (arith, more, held, c.charge-charge.ensures.charge);
      indexed = pushed;
      index_cap = c.self.invariant.index_cap;
      index_tie = c.self.invariant.index_tie;
      ordered = in_order_push 0 c.self.inside.changes c.in-Ok.key c.args.row c.self.inside.slots.entries (omega arith) c.self.invariant.stamped c.self.invariant.ordered;
      few_own = omega (arith, own_push c.self.inside.changes c.in-Ok.key c.args.row c.self.inside.slots.entries, c.self.invariant.few_own);
    })

pub returns-in-Ok-insert-clause-taken : goal.returns-in-Ok-insert-clause-taken
returns-in-Ok-insert-clause-taken c =
    let none = any_indexed c.self.inside.changes c.args.row c.self.inside.slots.entries c.self.inside.index.entries _ c.self.invariant.indexed c.self.invariant.stamped c.if-has_key.ensures.vers c.if-has_key.ensures.found in
    rw (← c.self.view_is) (sym (place_left (the_view c.self.inside) c.args.row (sym none) (c.in-Ok.ensures.room.0 (λ i. true)) (sym c.if-not-is_change_left.ensures.left) c.self.invariant.stamped))

pub returns-in-Ok-insert-clause-changes : goal.returns-in-Ok-insert-clause-changes
returns-in-Ok-insert-clause-changes c own changes h =
    rw (c.in-Ok.ensures.ok, c.new.ensures, c.in-Ok-insert.ensures.ok) (after_set (the_view c.self.inside) _ c.args.row own changes c.charge-charge.ensures.addr c.self.invariant.stamped (c.in-Ok.ensures.room.0 (λ i. true)) (subst (λ (kept : Registry). StandsForChanges kept own changes) (sym c.self.view_is) h))

pub returns-in-Ok-insert-clause-cursors : goal.returns-in-Ok-insert-clause-cursors
returns-in-Ok-insert-clause-cursors c = rw (← c.self.view_is, c.in-Ok.ensures.ok, c.new.ensures, c.in-Ok-insert.ensures.ok) (goes_on-set (the_view c.self.inside) _ c.args.row)

pub returns-in-Ok-insert-clause-retained : goal.returns-in-Ok-insert-clause-retained
returns-in-Ok-insert-clause-retained c = rw (← c.self.view_is, c.in-Ok.ensures.ok, c.new.ensures) (removals-push c.in-Ok.key _ c.args.row c.self.inside.slots.entries)

pub returns-in-Ok-insert-clause-cost : goal.returns-in-Ok-insert-clause-cost
returns-in-Ok-insert-clause-cost c =
    let more = looks_within c.self.inside.slots.cap c.self.inside.slots.entries c.self.inside.index.entries c.self.invariant.indexed c.self.invariant.within in
    let rows = as_many c.self.inside.changes c.self.inside.slots.entries c.self.inside.index.entries c.self.invariant.indexed c.self.invariant.stamped in
    let looked : c.has_key.new.meter.steps ≡ c.args.meter.now.steps + looks (length c.self.inside.index.entries) = ap (λ (m : Meter). m.steps) c.has_key.ensures.cost in
    let added : c.insert.new.meter.steps ≡ c.has_key.new.meter.steps + 1 = ap (λ (m : Meter). m.steps) c.insert.ensures.cost in
    let moved : c.insert-in-Ok.new.meter.steps ≡ c.insert.new.meter.steps + (looks (length c.self.inside.index.entries) + moves c.rank-rank.result c.self.inside.index.entries) = ap (λ (m : Meter). m.steps) c.insert-in-Ok.ensures.cost in
    let tie = ap (λ (m : Meter). m.tie) c.insert-in-Ok.ensures.cost ∙ ap (λ (m : Meter). m.tie) c.insert.ensures.cost ∙ ap (λ (m : Meter). m.tie) c.has_key.ensures.cost in
    record {
      rises = omega (arith, looked, added, moved);
      steps = rw (← c.self.view_is) (omega (arith, more, rows, looked, added, moved));
      tie = tie;
    }

pub returns-in-Err-clause-taken : goal.returns-in-Err-clause-taken
returns-in-Err-clause-taken c =
    let full : length c.self.inside.slots.entries < c.self.inside.slots.cap → ⊥ = λ room. let clash : false ≡ true = c.in-Err.ensures.room.1 room in cc in
    rw (← c.self.view_is) (sym (no_room (the_view c.self.inside) c.args.row (omega (arith, full)) c.self.invariant.stamped))

pub returns-in-Err-clause-cursors : goal.returns-in-Err-clause-cursors
returns-in-Err-clause-cursors c = rw (c.in-Err.ensures.unchanged, c.self.view_is) (goes_on_same _)

pub returns-in-Err-clause-cost : goal.returns-in-Err-clause-cost
returns-in-Err-clause-cost c =
    let more = looks_within c.self.inside.slots.cap c.self.inside.slots.entries c.self.inside.index.entries c.self.invariant.indexed c.self.invariant.within in
    let looked : c.has_key.new.meter.steps ≡ c.args.meter.now.steps + looks (length c.self.inside.index.entries) = ap (λ (m : Meter). m.steps) c.has_key.ensures.cost in
    let added : c.insert.new.meter.steps ≡ c.has_key.new.meter.steps + 1 = ap (λ (m : Meter). m.steps) c.insert.ensures.cost in
    let tie = ap (λ (m : Meter). m.tie) c.insert.ensures.cost ∙ ap (λ (m : Meter). m.tie) c.has_key.ensures.cost in
    record {
      rises = omega (arith, looked, added);
      steps = rw (← c.self.view_is) (omega (arith, more, looked, added));
      tie = tie;
    }

use Rattle.std.proofs.Common.{◌≡◌, refl, sym, ap, ◌∙◌, arith, ◌+◌, length}
use Rattle.rb_xdr.specs.Pool.{without}
use Rattle.rb_xdr.specs.Meter.{Meter}
use Rattle.rb_xdr.specs.Places.{to_come, behind}
use Rattle.rb_registry.proofs.Removing.{is_there, one_fewer, taken_out, left_in, all_passed}
use Rattle.rb_registry.proofs.Holding.{held-without}
use Rattle.rb_registry.proofs.Counting.{was_removed, removals-without, none_dropped}
use Rattle.rb_registry.proofs.walk.drop_retained.Goals as goal

pub returns-then-retained-eq0-clause-left : goal.returns-then-retained-eq0-clause-left
returns-then-retained-eq0-clause-left c =
    let none = none_dropped c.args.oldest c.args.slots.now.entries (sym c.requires.retained ∙ c.if-retained-eq0.true) in
    rw none refl

pub overflow_add-rows : goal.overflow_add-rows
overflow_add-rows c =
    let there = is_there _ _ _ _ c.rows.invariant.removing c.in-Some.key _ c.in-Some.ensures.next in
    let out = removals-without c.rows.slots.entries c.in-Some.key c.in-Some.slot.now there (was_removed c.args.oldest c.in-Some.slot.now (sym c.is_dropped.ensures ∙ c.if-is_dropped.true)) in
    omega (arith, out, c.rows.invariant.rows, c.requires.retained)

pub overflow_add-bytes : goal.overflow_add-bytes
overflow_add-bytes c =
    let out = held-without c.rows.slots.entries c.in-Some.key c.in-Some.slot.now (is_there _ _ _ _ c.rows.invariant.removing c.in-Some.key _ c.in-Some.ensures.next) in
    omega (arith, out, (rw c.as_row.ensures at c.charge-bytes.ensures.charge), c.rows.invariant.bytes, c.requires.held)

pub rows-smaller-then-is_dropped : goal.rows-smaller-then-is_dropped
rows-smaller-then-is_dropped c =
    let fewer : length (to_come (without c.rows.slots.entries c.in-Some.key) c.rows.place) + 1 ≡ length (to_come c.rows.slots.entries c.rows.place) =
    one_fewer _ _ _ _ c.rows.invariant.removing c.in-Some.key _ c.in-Some.ensures.next in
    rw c.remove.ensures.entries (omega (arith, fewer))

pub rows-preserved-then-is_dropped : goal.rows-preserved-then-is_dropped
rows-preserved-then-is_dropped c =
    let fewer : length (to_come (without c.rows.slots.entries c.in-Some.key) c.rows.place) + 1 ≡ length (to_come c.rows.slots.entries c.rows.place) =
    one_fewer _ _ _ _ c.rows.invariant.removing c.in-Some.key _ c.in-Some.ensures.next in
    let looked : c.entry_after.new.meter.steps ≡ c.rows.meter.steps + 2 = ap (λ (m : Meter). m.steps) c.in-Some.ensures.cost in
    let paid : c.remove.new.meter.steps ≡ c.entry_after.new.meter.steps + 1 = ap (λ (m : Meter). m.steps) c.remove.ensures.cost in
    let same : c.remove.new.meter.tie ≡ c.entry_after.new.meter.tie = ap (λ (m : Meter). m.tie) c.remove.ensures.cost in
    let there = is_there _ _ _ _ c.rows.invariant.removing c.in-Some.key _ c.in-Some.ensures.next in
    let dropped = sym c.is_dropped.ensures ∙ c.if-is_dropped.true in
    let fewer_dead = removals-without c.rows.slots.entries c.in-Some.key c.in-Some.slot.now there (was_removed c.args.oldest c.in-Some.slot.now dropped) in
    let out = held-without c.rows.slots.entries c.in-Some.key c.in-Some.slot.now there in
    record {
      removing = rw c.remove.ensures.entries (taken_out _ _ _ _ c.rows.invariant.removing c.in-Some.key _ c.in-Some.ensures.next dropped);
      rows = rw c.remove.ensures.entries (omega (arith, fewer_dead, c.rows.invariant.rows));
      bytes = rw c.remove.ensures.entries (omega (arith, out, (rw c.as_row.ensures at c.charge-bytes.ensures.charge), c.rows.invariant.bytes));
      cap = rw c.remove.ensures.entries c.rows.invariant.cap;
      memory = rw c.remove.ensures.entries c.rows.invariant.memory;
      tie = rw c.remove.ensures.entries c.rows.invariant.tie;
      meter = same ∙ ap (λ (m : Meter). m.tie) c.in-Some.ensures.cost ∙ c.rows.invariant.meter;
      rises = omega (arith, c.rows.invariant.rises, looked, paid);
      steps = rw c.remove.ensures.entries (omega (arith, fewer, looked, paid, c.rows.invariant.steps));
    }

pub rows-preserved : goal.rows-preserved
rows-preserved c =
    let fewer : length (to_come c.rows.slots.entries c.rows.place) ≡ length (behind c.rows.slots.entries c.in-Some.key) + 1 =
    ap (λ es. length es) c.in-Some.ensures.next ∙ omega arith in
    let looked : c.entry_after.new.meter.steps ≡ c.rows.meter.steps + 2 = ap (λ (m : Meter). m.steps) c.in-Some.ensures.cost in
    record {
      removing = left_in _ _ _ _ c.rows.invariant.removing c.in-Some.key _ c.in-Some.ensures.next (sym c.is_dropped.ensures ∙ c.if-is_dropped.false);
      rows = c.rows.invariant.rows;
      bytes = c.rows.invariant.bytes;
      cap = c.rows.invariant.cap;
      memory = c.rows.invariant.memory;
      tie = c.rows.invariant.tie;
      meter = ap (λ (m : Meter). m.tie) c.in-Some.ensures.cost ∙ c.rows.invariant.meter;
      rises = omega (arith, c.rows.invariant.rises, looked);
      steps = omega (arith, fewer, looked, c.rows.invariant.steps);
    }

pub returns-clause-left : goal.returns-clause-left
returns-clause-left c =
    let left = all_passed _ _ _ _ c.rows.invariant.removing c.in_default.ensures.next in
    rw (← left, ← c.rows.invariant.cap, ← c.rows.invariant.memory, ← c.rows.invariant.tie) refl
